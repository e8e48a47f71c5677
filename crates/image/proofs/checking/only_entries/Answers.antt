use Rattle.std.proofs.lemmas.List.{nil_from_length}
use Rattle.std.proofs.Common.{rules, ◌≡◌, length, Some, Ok, List, sym, ap, ◌∙◌}
use Rattle.image.specs.Fronts.{behind, entries_at}
use Rattle.image.specs.Images.{Entry}
use Rattle.image.proofs.PieceLists.{alone_are, alone_there}
use Rattle.image.proofs.checking.only_entries.Goals as goal

pub new-requires : goal.new-requires
new-requires c =
    let r = c.in-Some-empty.field-0.now in
    let none : length r ≡ 0 = search rules in
    let read : Some r ≡ behind (entries_at c.args.count c.args.bytes.now) = c.in-Some-empty.ensures in
    alone_there c.args.count c.args.bytes.now r (nil_from_length r none) read

pub returns-in-Some-empty : goal.returns-in-Some-empty
returns-in-Some-empty c =
    let r = c.in-Some-empty.field-0.now in
    let none : length r ≡ 0 = search rules in
    let read : Some r ≡ behind (entries_at c.args.count c.args.bytes.now) = c.in-Some-empty.ensures in
    alone_are c.args.count c.args.bytes.now r (nil_from_length r none) read ∙ ap (λ (l : List Entry). Ok l) (sym c.new.ensures)
