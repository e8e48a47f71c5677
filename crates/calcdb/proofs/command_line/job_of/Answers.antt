use Rattle.std.proofs.Common.{inr, map, ap, sym, ◌∙◌}
use Rattle.clap.specs.Simple.{App, app_of, subcommand_of}
use Rattle.calcdb.specs.CommandLines.{IsTask}
use Rattle.calcdb.proofs.CommandLines.{commands_are_simple}
use Rattle.calcdb.proofs.command_line.job_of.Goals as goal

pub returns-in-Ok-clause-task : goal.returns-in-Ok-clause-task
returns-in-Ok-clause-task g c =
    let words = map (g.S.AsStr.text) c.args.words.now in
    let h = c.in-Ok.ensures.task in
    let m = c.in_ok-try_get_matches_from_mut.ensures.ok.2 (commands_are_simple (app_of c.args.program.now) c.requires) in
    (h.0, ap (λ (a : App). subcommand_of a words) (sym c.requires) ∙ sym m.1 ∙ h.1, h.2)

pub returns-in-Ok-2-clause-refused : goal.returns-in-Ok-2-clause-refused
returns-in-Ok-2-clause-refused g c =
    let words = map (g.S.AsStr.text) c.args.words.now in
    let h = c.in-Ok.ensures.task in
    let m = c.in_ok-try_get_matches_from_mut.ensures.ok.2 (commands_are_simple (app_of c.args.program.now) c.requires) in
    let task : IsTask words c.in-Ok.task = (h.0, ap (λ (a : App). subcommand_of a words) (sym c.requires) ∙ sym m.1 ∙ h.1, h.2) in
    inr (inr (c.in_ok-apart-in-Ok-2.ensures, (c.in-Ok.task, task, sym c.goes_together.ensures ∙ c.if-goes_together.false)))
