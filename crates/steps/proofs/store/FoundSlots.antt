-- What is known of a key by the slot that a look-up found.
use Rattle.std.proofs.Common.{◌≡◌, ℕ, Bool, true, false, ◌&&◌, Option, Some, None, is_none, is_some, refl, sym, ap, ◌∙◌}
use Rattle.procedure.specs.Bytes.{Bytes}
use Rattle.procedure.specs.Needs.{Touch, Nothing, Reads, Writes, becomes_of, touch_of}
use Rattle.procedure.specs.declared.needs.Need.{Need}
use Rattle.procedure.specs.declared.needs.Need.TheVariants.{Read, Write, Own, Ended}
use Rattle.record_store.specs.Stores.{Slots, live_at}
use Rattle.steps.specs.Versions.{KeyVersions, found, live_version, makes_record, versions_in}
use Rattle.steps.specs.inside.RecordEdits.{IsFoundBy}
use Rattle.steps.proofs.store.RecordEdits.{found_in, live_in, none_in}

-- what the touched key holds
pub held_in : (slots : Slots) (touch : Touch) (i : ℕ) → IsFoundBy slots touch (Some i) → live_at slots i ≡ found (versions_in slots) touch
held_in slots Nothing i is = absurd (cc)
held_in slots (Reads k) i is = live_in slots i k is.once is.finds
held_in slots (Writes k) i is = live_in slots i k is.once is.finds

pub held_none : (slots : Slots) (touch : Touch) → IsFoundBy slots touch None → None ≡ found (versions_in slots) touch
held_none slots Nothing is = refl
held_none slots (Reads k) is = sym (ap live_version (none_in slots k is.finds))
held_none slots (Writes k) is = sym (ap live_version (none_in slots k is.finds))

and_true : (b : Bool) → b ≡ (b && true)
and_true true = refl
and_true false = refl

and_false : (b : Bool) → false ≡ (b && false)
and_false true = refl
and_false false = refl

-- an instruction makes a record where none was found
pub made_none : (slots : Slots) (n : Need Bytes) → IsFoundBy slots (touch_of n) None → is_some (becomes_of n None) ≡ makes_record (versions_in slots) (touch_of n) (becomes_of n (found (versions_in slots) (touch_of n)))
made_none slots (Read k) is = refl
made_none slots Own is = refl
made_none slots (Ended c) is = refl
made_none slots (Write k u) is =
    and_true (is_some (becomes_of (Write k u) None))
    ∙ ap (λ (o : Option KeyVersions). is_some (becomes_of (Write k u) (live_version o)) && is_none o) (sym (none_in slots k is.finds))

pub made_some : (slots : Slots) (n : Need Bytes) (i : ℕ) → IsFoundBy slots (touch_of n) (Some i) → false ≡ makes_record (versions_in slots) (touch_of n) (becomes_of n (found (versions_in slots) (touch_of n)))
made_some slots (Read k) i is = refl
made_some slots Own i is = refl
made_some slots (Ended c) i is = refl
made_some slots (Write k u) i is =
    let there = found_in slots i k is.once is.finds in
    and_false (is_some (becomes_of (Write k u) (live_version (versions_in slots k))))
    ∙ ap (λ (o : Option KeyVersions). is_some (becomes_of (Write k u) (live_version (versions_in slots k))) && is_none o) (sym there.2)
