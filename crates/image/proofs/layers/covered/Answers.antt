use Rattle.std.proofs.Common.{sym, ◌∙◌}
use Rattle.std.proofs.lemmas.Bool.{eqb-true}
use Rattle.std.proofs.lemmas.List.{nil_from_length}
use Rattle.image.proofs.Layering.{says_alone, says_same}
use Rattle.procedure.proofs.Results.{if_ok}
use Rattle.image.proofs.layers.covered.Goals as goal

pub returns-then-is_empty : goal.returns-then-is_empty
returns-then-is_empty g c =
    let others = c.replaced.new.newer in
    says_alone c.args.older.items c.args.newer.items c.replaced.new.older.items others.items c.replaced.ensures.says
    (nil_from_length others.items (sym others.ok.0 ∙ eqb-true _ 0 (sym c.is_empty.ensures ∙ c.if-is_empty.true))) c.replaced.ensures.older

pub returns : goal.returns
returns g c =
    if_ok _ _ (λ es. says_same c.args.older.items c.args.newer.items c.replaced.new.older.items c.replaced.new.newer.items c.replaced.ensures.says es.items)
    c.joined.result c.joined.ensures
