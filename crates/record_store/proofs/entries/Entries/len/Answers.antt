use Rattle.std.proofs.Common.{ap, sym, ◌∙◌, length}
use Rattle.record_store.specs.Entries.{Entries}
use Rattle.record_store.proofs.Joined.{length-joined}
use Rattle.record_store.proofs.entries.Entries.len.Goals as goal

pub returns : goal.returns
returns g c =
    c.len.ensures ∙ c.self.inside.slots.ok.0 ∙ sym (length-joined c.self.inside.slots.items c.self.inside.copies.items) ∙ ap (λ (e : Entries). length e.items) c.self.view_is
