use Rattle.std.proofs.Common.{◌∷◌, [], ◌∙◌, ℕ, List, Vec, Some, sym, ap, map}
use Rattle.std.proofs.lemmas.List.{map-append}
use Rattle.procedure.specs.Bytes.{Bytes}
use Rattle.calcdb.specs.Lines.{words}
use Rattle.calcdb.specs.Values.{value_of}
use Rattle.calcdb.specs.Commands as spec
use Rattle.calcdb.proofs.Readers.{behind, handed_on}
use Rattle.calcdb.proofs.WordValues.{all_values, no_value, value_kept}
use Rattle.calcdb.proofs.commands.bytes_of.Goals as goal

pub returns-in_err-value_of : goal.returns-in_err-value_of
returns-in_err-value_of g c =
    let l = c.loop-word in
    handed_on (λ (v : Vec (Vec ℕ g.row.A.Denot) g.row.A.Denot). map (λ b. b.items) v.items) c.from_residual-in_err-value_of.result c.in_err-value_of.field-0.0
    (value_of c.in-Some.word.now) (spec.values_by value_of (words c.args.line.now))
    c.from_residual-in_err-value_of.ensures.1 c.in_err-value_of.ensures
    (λ none. sym l.invariant ∙ no_value value_of (map (λ v. v.items) l.values.items) (words l.rest.now) (words c.in-Some.behind.now) c.in-Some.word.now c.in-Some.ensures.words none)

pub loop-word-preserved : goal.loop-word-preserved
loop-word-preserved g c =
    let l = c.loop-word in
    let v = c.in_ok-value_of.field-0 in
    let more = ap (map (λ x. x.items)) c.in_ok-push.ensures.items ∙ map-append (λ x. x.items) l.values.items (v ∷ []) in
    ap (λ (vs : List Bytes). behind vs (spec.values_by value_of (words c.in-Some.behind.now))) more
    ∙ value_kept value_of (map (λ x. x.items) l.values.items) (words l.rest.now) (words c.in-Some.behind.now) c.in-Some.word.now v.items c.in-Some.ensures.words c.in_ok-value_of.ensures
    ∙ l.invariant

pub returns : goal.returns
returns g c =
    sym c.loop-word.invariant
    ∙ all_values value_of (map (λ v. v.items) c.loop-word.values.items) (words c.loop-word.rest.now) c.in_default.ensures.words
    ∙ ap (λ (vs : List (Vec ℕ g.row.A.Denot)). Some (map (λ v. v.items) vs)) (sym c.shrink_to_fit.ensures.items)
