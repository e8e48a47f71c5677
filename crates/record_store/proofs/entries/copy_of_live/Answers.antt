use Rattle.std.proofs.Common.{◌≡◌, ap, sym, ◌∙◌, subst, IfOk, OnErr, IsSome}
use Rattle.procedure.specs.Bytes.{Cell}
use Rattle.record_store.specs.Entries.{Entries, entry_at, live_of}
use Rattle.record_store.specs.KeptRecords.{kept_at, kept_live}
use Rattle.record_store.proofs.Joined.{live_joined}
use Rattle.record_store.proofs.entries.copy_of_live.Goals as goal
use Rattle.record_store.proofs.entries.copy_of_live.Given.{Over}

live_is : (g : Over) (c : goal.After-copy_of_live g) → kept_live (kept_at c.deref.result.now c.args.slot) ≡ live_of (entry_at c.args.slots.now.items c.args.slot)
live_is g c =
    ap (λ slots. kept_live (kept_at slots c.args.slot)) c.deref.ensures.value
    ∙ sym (live_joined c.slots.inside.slots.items c.slots.inside.copies.items c.args.slot)
    ∙ ap (λ (e : Entries). live_of (entry_at e.items c.args.slot)) c.slots.view_is

pub returns-clause-value : goal.returns-clause-value
returns-clause-value g c = subst (λ (x : Cell). IfOk c.copy_of_live.result (λ copy. copy ≡ x)) (live_is g c) c.copy_of_live.ensures.value

pub returns-clause-memory : goal.returns-clause-memory
returns-clause-memory g c = subst (λ (x : Cell). OnErr c.copy_of_live.result (IsSome x)) (live_is g c) c.copy_of_live.ensures.memory
