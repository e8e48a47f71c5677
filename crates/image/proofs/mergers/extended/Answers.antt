use Rattle.std.proofs.Common.{◌-◌, [], ◌∷◌, ◌∙◌, sym, ap}
use Rattle.std.specs.Result.{result_err}
use Rattle.procedure.specs.Table.{with_cells}
use Rattle.image.specs.Merges.{links_refusal}
use Rattle.image.specs.Mergers.{Chain}
use Rattle.image.proofs.Pushes.{extended_by}
use Rattle.image.proofs.mergers.extended.Goals as goal

pub returns-in_ok-with-in-Ok-clause-first : goal.returns-in_ok-with-in-Ok-clause-first
returns-in_ok-with-in-Ok-clause-first g c = λ none.
    let entries = c.into_entries.result.items in
    extended_by c.number.result c.place.result c.in_ok-with-in-Ok.field-0 entries c.args.chain c.args.image _
    (sym (ap result_err c.in-Ok.is) ∙ c.check_next.ensures.first none)
    c.number.ensures c.place.ensures (c.in_ok-with-in-Ok.ensures ∙ ap (λ (d : Chain). with_cells d.table entries) c.chain.view_is) c.into_entries.ensures

pub returns-in_ok-with-in-Ok-clause-later : goal.returns-in_ok-with-in-Ok-clause-later
returns-in_ok-with-in-Ok-clause-later g c = λ some.
    let entries = c.into_entries.result.items in
    extended_by c.number.result c.place.result c.in_ok-with-in-Ok.field-0 entries c.args.chain c.args.image _
    (sym (ap result_err c.in-Ok.is) ∙ c.check_next.ensures.later some ∙ ap (λ (d : Chain). links_refusal (c.args.count - 1) d.number (c.args.image ∷ [])) c.chain.view_is)
    c.number.ensures c.place.ensures (c.in_ok-with-in-Ok.ensures ∙ ap (λ (d : Chain). with_cells d.table entries) c.chain.view_is) c.into_entries.ensures
