use Rattle.std.proofs.Common.{◌≡◌, sym, ◌∙◌, ap, subst, MatchBool}
use mathlib.Core.List.{IsPrefix}
use Rattle.procedure.specs.Table.{value_at}
use Rattle.view.specs.Shown.{number_of, shown}
use Rattle.view.proofs.lookers.Looker.get.Goals as goal

-- what is seen then is what the table shows
pub returns-in-Ok-clause-later : goal.returns-in-Ok-clause-later
returns-in-Ok-clause-later g c =
    let before = c.seen.inside.images in
    let table = c.behind-table.inside.images in
    let begins : IsPrefix before table = subst (λ b. MatchBool b (IsPrefix before table) (IsPrefix table before)) c.if-not-begins.false c.begins.ensures in
    let seen = c.new.ensures ∙ c.again.ensures ∙ c.behind-table-in-Ok.view_is ∙ c.deref-in-Ok-2.ensures in
    subst (λ images. IsPrefix images c.new.result) c.seen.view_is (subst (IsPrefix before) (c.behind-table.view_is ∙ c.deref.ensures ∙ sym seen) begins)

pub returns-in-Ok-clause-number : goal.returns-in-Ok-clause-number
returns-in-Ok-clause-number g c =
    let seen = c.new.ensures ∙ c.again.ensures ∙ c.behind-table-in-Ok.view_is ∙ c.deref-in-Ok-2.ensures in
    c.number.ensures ∙ ap number_of (c.deref-in-Ok.ensures ∙ sym seen)

pub returns-in-Ok-clause-value : goal.returns-in-Ok-clause-value
returns-in-Ok-clause-value g c =
    let seen = c.new.ensures ∙ c.again.ensures ∙ c.behind-table-in-Ok.view_is ∙ c.deref-in-Ok-2.ensures in
    subst (λ images. c.in-Ok.value ≡ value_at (shown images) c.args.key.now) (c.deref-2.ensures ∙ sym seen) c.in-Ok.ensures.value
