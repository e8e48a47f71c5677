use Rattle.std.proofs.Common.{rules, [], sym, ◌∙◌, append-nil}
use Rattle.pipe.proofs.drains.Drain.all_after.Goals as goal

pub loop-kept-init : goal.loop-kept-init
loop-kept-init g c = record {
  kept = search rules;
  whole = search rules;
  front = ([], append-nil _ ∙ sym c.args.self.all_kept);
  room = search rules;
}
