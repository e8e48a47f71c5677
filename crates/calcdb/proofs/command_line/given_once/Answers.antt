use Rattle.std.proofs.Common.{◌∙◌}
use Rattle.clap.specs.Matches.{found_of}
use Rattle.clap.proofs.WalkLemmas.{first_value-rows}
use Rattle.calcdb.proofs.CommandLines.{given_text, no_text}
use Rattle.calcdb.proofs.command_line.given_once.Goals as goal

pub returns : goal.returns
returns c =
    let same = c.get_str.ensures ∙ first_value-rows (found_of c.args.given.now) c.args.name.now in
    record {
      given = given_text c.get_str.result _ c.ok_or.result _ c.ok_or.ensures.value same;
      missing = no_text c.get_str.result _ c.ok_or.result _ c.ok_or.ensures.value same;
    }
