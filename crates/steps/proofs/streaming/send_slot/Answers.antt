use Rattle.std.proofs.Common.{◌≡◌, ap, sym, ◌∙◌}
use Rattle.image.specs.Images.{Entry}
use Rattle.procedure.specs.Bytes.{Cell}
use Rattle.record_store.specs.Stores.{Slots, changed, with_stable}
use Rattle.record_store.specs.declared.records.Stable.TheVariants.{Was}
use Rattle.steps.proofs.scans.SentEntries.{put_back}
use Rattle.steps.proofs.streaming.send_slot.Goals as goal

pub returns-in-Err-clause-err : goal.returns-in-Err-clause-err
returns-in-Err-clause-err g c =
    let same : c.entry.inside.cell ≡ c.in-Was.cell = ap (λ (e : Entry). e.1) (c.entry.view_is ∙ c.in-Err.ensures.full) in
    c.put_stable.ensures
    ∙ ap (λ (x : Cell). changed (with_stable (Was x)) c.take_stable.new.self c.args.slot) same
    ∙ ap (λ (l : Slots). changed (with_stable (Was c.in-Was.cell)) l c.args.slot) c.take_stable.ensures.changed
    ∙ put_back c.in-Was.cell c.args.store.now c.args.slot (sym c.take_stable.ensures.value ∙ c.in-Was.is)
