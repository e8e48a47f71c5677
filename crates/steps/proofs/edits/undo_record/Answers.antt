use Rattle.std.proofs.Common.{ap, ◌∙◌, sym}
use Rattle.record_store.specs.Stores.{Slots, changed, with_stable}
use Rattle.record_store.specs.declared.records.Stable.TheVariants.{Empty}
use Rattle.steps.proofs.store.RecordEdits.{record_undone}
use Rattle.steps.proofs.edits.undo_record.Goals as goal

pub returns-then-not-available : goal.returns-then-not-available
returns-then-not-available g c =
    c.erase_stable.ensures ∙ ap (λ (l : Slots). changed (with_stable Empty) l c.args.slot) c.undo.ensures
    ∙ record_undone c.args.before c.args.store.now c.args.slot (sym c.is_available-available.ensures ∙ c.if-not-available.true)
