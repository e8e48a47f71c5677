use Rattle.std.proofs.Common.{◌≡◌, Some, None, sym, ap, ◌∙◌, option_map}
use Rattle.std.specs.Borrow.{Bor}
use Rattle.clap.specs.Matches.{found_of}
use Rattle.clap.specs.Walk.{Text, first_of, rows_of}
use Rattle.clap.proofs.WalkLemmas.{first_value-rows}
use Rattle.calcdb.specs.CommandLines.{says_true}
use Rattle.calcdb.proofs.command_line.is_given.Goals as goal

pub returns-in-Some : goal.returns-in-Some
returns-in-Some c =
    let same : first_of c.args.name.now (rows_of (found_of c.args.given.now)) ≡ Some c.in-Some.text.now =
    sym (c.get_str.ensures ∙ first_value-rows (found_of c.args.given.now) c.args.name.now) ∙ ap (option_map (λ (s : Bor Text). s.now)) c.in-Some.is in
    c.eq.ensures ∙ ap says_true (sym same)

pub returns-in-None : goal.returns-in-None
returns-in-None c =
    let same : first_of c.args.name.now (rows_of (found_of c.args.given.now)) ≡ None =
    sym (c.get_str.ensures ∙ first_value-rows (found_of c.args.given.now) c.args.name.now) ∙ ap (option_map (λ (s : Bor Text). s.now)) c.in-None.is in
    ap says_true (sym same)
