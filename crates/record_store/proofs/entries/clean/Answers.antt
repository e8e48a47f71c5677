use Rattle.std.proofs.Common.{ap, ◌∙◌, List, None, Option}
use Rattle.record_store.specs.Entries.{Entry, entry_changed, with_entry_mark, with_entry_stable}
use Rattle.record_store.proofs.Joined.{changed_twice}
use Rattle.record_store.proofs.entries.clean.Goals as goal

pub returns : goal.returns
returns g c =
    c.set_mark.ensures ∙ ap (λ (x : List (Option Entry)). entry_changed (with_entry_mark 0) x c.args.slot) c.erase_stable.ensures
    ∙ changed_twice c.args.slots.now.items c.args.slot (with_entry_stable None 0) (with_entry_mark 0)
