use Rattle.std.proofs.Common.{◌≡◌, ℕ, true, false, not, Option, Some, None, is_some, sym, ap, ◌∙◌, true≢false}
use Rattle.procedure.specs.Bytes.{Bytes}
use Rattle.procedure.specs.Needs.{becomes_of, touch_of}
use Rattle.procedure.specs.Runs.{next_need}
use Rattle.procedure.specs.declared.needs.Need.{Need}
use Rattle.record_store.specs.Stores.{Slots}
use Rattle.steps.specs.Versions.{found, makes_record, versions_in}
use Rattle.steps.specs.inside.RecordEdits.{IsFoundBy}
use Rattle.steps.proofs.store.FoundSlots.{made_none, made_some}
use Rattle.steps.proofs.step.makes_record.Goals as goal

made_here :
    (slots : Slots) (n : Need Bytes) (o : Option ℕ) → is_some o ≡ false → IsFoundBy slots (touch_of n) o →
    is_some (becomes_of n None) ≡ makes_record (versions_in slots) (touch_of n) (becomes_of n (found (versions_in slots) (touch_of n)))
made_here slots n None none at = made_none slots n at
made_here slots n (Some i) none at = absurd (true≢false none)

made_there :
    (slots : Slots) (n : Need Bytes) (o : Option ℕ) → is_some o ≡ true → IsFoundBy slots (touch_of n) o →
    false ≡ makes_record (versions_in slots) (touch_of n) (becomes_of n (found (versions_in slots) (touch_of n)))
made_there slots n None some at = absurd (true≢false (sym some))
made_there slots n (Some i) some at = made_some slots n i at

pub returns-then-is_none : goal.returns-then-is_none
returns-then-is_none g c slots at =
    let m = c.args.machine.now in
    c.gives_value.ensures ∙ made_here slots (next_need m.args m.progress) c.args.slot (c.is_none.ensures ∙ ap not c.if-is_none.true) at

pub returns-else-is_none : goal.returns-else-is_none
returns-else-is_none g c slots at =
    let m = c.args.machine.now in
    c.if-is_none.false ∙ made_there slots (next_need m.args m.progress) c.args.slot (c.is_none.ensures ∙ ap not c.if-is_none.false) at
