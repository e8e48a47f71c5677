use Rattle.std.proofs.Common.{ap, ◌∙◌, ◌++◌, ◌∷◌, [], option_map}
use Rattle.record_store.specs.Entries.{Entries}
use Rattle.record_store.specs.EntryFields.{entry_of, joined, no_copy}
use Rattle.record_store.proofs.Joined.{joined_more}
use Rattle.record_store.proofs.entries.add.Goals as goal

pub returns : goal.returns
returns g c =
    ap (λ slots. joined slots c.slots.inside.copies.items) c.push_reserved.ensures.items
    ∙ joined_more c.slots.inside.slots.items c.slots.inside.copies.items c.args.kept c.slots.invariant.few
    ∙ ap (λ (e : Entries). e.items ++ option_map (entry_of no_copy) c.args.kept ∷ []) c.slots.view_is
