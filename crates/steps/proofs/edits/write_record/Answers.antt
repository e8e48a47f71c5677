use Rattle.std.proofs.Common.{ap, ◌∙◌}
use Rattle.record_store.specs.Stores.{Slots, changed, with_live}
use Rattle.steps.proofs.store.RecordEdits.{record_written}
use Rattle.steps.proofs.edits.write_record.Goals as goal

pub returns-clause-ok : goal.returns-clause-ok
returns-clause-ok g c =
    c.write_live.ensures.changed ∙ ap (λ (l : Slots). changed (with_live c.args.live) l c.args.slot) c.in_ok-copy_before_write.ensures.ok
    ∙ record_written c.args.start c.args.live c.args.store.now c.args.slot
