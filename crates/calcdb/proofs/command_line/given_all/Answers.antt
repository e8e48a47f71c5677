use Rattle.std.proofs.Common.{ap, map, sym, List, Some, ◌∙◌}
use Rattle.std.specs.Borrow.{Bor}
use Rattle.clap.specs.Matches.{found_of}
use Rattle.clap.specs.Walk.{Text}
use Rattle.clap.proofs.WalkLemmas.{raw_values-rows}
use Rattle.calcdb.proofs.CommandLines.{given_texts, no_texts, refused_for}
use Rattle.calcdb.proofs.command_line.given_all.Goals as goal

pub returns : goal.returns
returns c =
    let given = given_texts c.get_strs.result _ c.in_ok-texts.texts _ c.in_ok-texts.ensures.value (c.get_strs.ensures ∙ raw_values-rows (found_of c.args.given.now) c.args.name.now) in
    record {
      given = given ∙ ap (λ (xs : List (Bor Text)). Some (map (λ s. s.now) xs)) (sym c.in_ok-from_slice.ensures.items);
      missing = tt;
    }

pub returns-in_err-texts-clause-missing : goal.returns-in_err-texts-clause-missing
returns-in_err-texts-clause-missing c =
    refused_for c.from_residual.result _ (no_texts c.get_strs.result _ _ _ c.in_err-texts.ensures.value (c.get_strs.ensures ∙ raw_values-rows (found_of c.args.given.now) c.args.name.now))
