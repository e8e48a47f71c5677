use Rattle.std.proofs.Common.{arith, ◌∙◌}
use Rattle.calcdb.proofs.PlanScripts.{none_more_at, numbered_at}
use Rattle.calcdb.proofs.plans.grow.Goals as goal

pub loop-alloc-preserved : goal.loop-alloc-preserved
loop-alloc-preserved g c =
    let l = c.loop-alloc in
    record {
      numbered = numbered_at 0 l.scripts.items c.push.new.self.items (record { session = c.len-next.result; calls = c.new.result }) c.in_ok-push.ensures.items l.invariant.numbered (omega (arith, c.len-next.ensures, l.scripts.ok.0));
      calls = λ s. none_more_at s l.scripts.items c.push.new.self.items (record { session = c.len-next.result; calls = c.new.result }) c.in_ok-push.ensures.items c.new.ensures.items ∙ l.invariant.calls s;
    }
