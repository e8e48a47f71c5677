use Rattle.std.proofs.Common.{◌∙◌, ◌++◌, ◌∷◌, [], List, Some, sym, ap}
use Rattle.procedure.specs.Bytes.{Bytes}
use Rattle.calcdb.specs.Lines.{words}
use Rattle.calcdb.specs.Values.{held_value_of}
use Rattle.calcdb.specs.Commands.{values_by}
use Rattle.calcdb.proofs.Readers.{behind, handed_on}
use Rattle.calcdb.proofs.WordValues.{all_values, no_value, value_kept}
use Rattle.calcdb.proofs.commands.values_of.Goals as goal

pub returns-in_err-held : goal.returns-in_err-held
returns-in_err-held g c =
    let l = c.loop-word in
    handed_on (λ a. a) c.from_residual-in_err-held.result c.in_err-held.field-0.0 (held_value_of c.in-Some.word.now) (values_by held_value_of (words c.args.line.now))
    c.from_residual-in_err-held.ensures.1 c.in_err-held.ensures
    (λ none. sym l.invariant ∙ no_value held_value_of l.values.items (words l.rest.now) (words c.in-Some.behind.now) c.in-Some.word.now c.in-Some.ensures.words none)

pub loop-word-preserved : goal.loop-word-preserved
loop-word-preserved g c =
    let l = c.loop-word in
    ap (λ (vs : List Bytes). behind vs (values_by held_value_of (words c.in-Some.behind.now))) c.push_reserved.ensures.items
    ∙ ap (λ (vs : List Bytes). behind (vs ++ c.in_ok-held.held ∷ []) (values_by held_value_of (words c.in-Some.behind.now))) c.reserve.ensures.items
    ∙ value_kept held_value_of l.values.items (words l.rest.now) (words c.in-Some.behind.now) c.in-Some.word.now c.in_ok-held.held c.in-Some.ensures.words c.in_ok-held.ensures
    ∙ l.invariant

pub returns : goal.returns
returns g c =
    sym c.loop-word.invariant ∙ all_values held_value_of c.loop-word.values.items (words c.loop-word.rest.now) c.in_default.ensures.words ∙ ap (λ (vs : List Bytes). Some vs) (sym (c.new.ensures ∙ c.shrink_to_fit.ensures.items))
