use Rattle.std.proofs.Common.{sym, ◌∙◌}
use Rattle.std.specs.Prelude.{IfSome}
use Rattle.calcdb.proofs.ThreadEnds.{writes_going, writes_nothing}
use Rattle.calcdb.proofs.ThreadJournals.{told_of}
use Rattle.calcdb.proofs.threads.finish_run.Goals as goal

pub returns-then-not-goes_on-clause-written : goal.returns-then-not-goes_on-clause-written
returns-then-not-goes_on-clause-written g c =
    writes_nothing (g.K.Keeper.is_going c.args.ended.keeper) c.args.count c.args.keys.items c.into_parts-core.result.0 c.into_parts-core.result.1.items (g.W.Write.contents c.args.writer.now)
    (sym c.goes_on.ensures ∙ c.if-not-goes_on.true) c.into_parts-core.ensures.cuts

pub returns-clause-written : goal.returns-clause-written
returns-clause-written g c =
    writes_going (g.K.Keeper.is_going c.args.ended.keeper) c.args.count c.args.keys.items c.as_slice.result.now c.into_parts-core.result.0 c.into_parts-core.result.1.items (g.W.Write.contents c.args.writer.now)
    (g.W.Write.contents c.write_ended-written.new.writer) c.write_ended-written.result (sym c.goes_on.ensures ∙ c.if-not-goes_on.false) c.as_slice.ensures.value c.write_ended-written.ensures.ok
    c.write_ended-written.ensures.err

pub returns-then-not-goes_on-clause-told : goal.returns-then-not-goes_on-clause-told
returns-then-not-goes_on-clause-told g c =
    told_of (λ log images. IfSome g.J.Beginning.begun (λ b. g.K.Keeper.Has b c.args.ended.keeper log images)) c.args.ended.taken.core c.into_parts-core.result.0 c.args.ended.taken.images c.into_parts-core.result.1.items
    c.into_parts-core.ensures.core c.into_parts-core.ensures.images c.args.ended.told

pub returns-clause-told : goal.returns-clause-told
returns-clause-told g c =
    told_of (λ log images. IfSome g.J.Beginning.begun (λ b. g.K.Keeper.Has b c.args.ended.keeper log images)) c.args.ended.taken.core c.into_parts-core.result.0 c.args.ended.taken.images c.into_parts-core.result.1.items
    c.into_parts-core.ensures.core c.into_parts-core.ensures.images c.args.ended.told
