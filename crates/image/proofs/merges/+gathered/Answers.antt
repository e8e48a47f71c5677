use Rattle.std.proofs.Common.{List, Bor, sym, subst, ◌∙◌}
use Rattle.image.specs.Images.{Entry}
use Rattle.image.specs.Joins.{lent, Say, said_by}
use Rattle.image.proofs.Chains.{says_one, says_two}
use Rattle.procedure.proofs.Results.{if_ok}
use Rattle.image.proofs.merges.+gathered.Goals as goal

pub returns-then-is_empty : goal.returns-then-is_empty
returns-then-is_empty g t c =
    says_one c.args.images.now c.in-Some.rest.now c.in-Some.image.now (lent c.in_ok-borrowed.field-0.items)
    c.in-Some.ensures.cases.0 (sym c.is_empty.ensures ∙ c.if-is_empty.true) c.entries.ensures.lawful.rises (c.in_ok-borrowed.ensures ∙ c.entries.ensures.value)

pub returns-in-Some : goal.returns-in-Some
returns-in-Some g t c =
    let first = c.split_at.result.0.now in
    let second = c.split_at.result.1.now in
    if_ok _ _ (λ es both.
    says_two c.args.images.now first second (lent c.as_slice.result.now) (lent c.as_slice-in-Some.result.now) (lent es.items) c.split_at.ensures.by_index.0
    (subst (λ (l : List (Bor Entry)). Say (said_by first) (lent l)) (sym c.as_slice.ensures.value) c.in_ok-older.ensures)
    (subst (λ (l : List (Bor Entry)). Say (said_by second) (lent l)) (sym c.as_slice-in-Some.ensures.value) c.in_ok-newer.ensures)
    both) c.joined.result c.joined.ensures
