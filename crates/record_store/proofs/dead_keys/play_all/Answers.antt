use Rattle.std.proofs.Common.{◌-◌, arith}
use Rattle.record_store.proofs.Tournaments.{played_from, kept_from}
use Rattle.record_store.proofs.dead_keys.play_all.Goals as goal

pub loop-node-preserved : goal.loop-node-preserved
loop-node-preserved c =
    let kept = c.loop-node.invariant in
    record {
      kept = kept_from c.args.nodes.now c.loop-node.nodes c.play.new.nodes c.args.slots (c.loop-node.node - 1) _ (omega arith) c.play.ensures kept.kept;
      within = omega arith;
      won = played_from c.loop-node.nodes c.play.new.nodes c.args.slots c.loop-node.node (c.loop-node.node - 1) (omega (arith, kept.kept.len)) (omega arith) (omega arith) (omega arith) c.play.ensures
          kept.won;
    }
