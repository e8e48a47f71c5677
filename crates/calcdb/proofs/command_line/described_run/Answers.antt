use Rattle.std.proofs.Common.{ap, codes, ◌∙◌}
use Rattle.std.proofs.lemmas.Result.{IfOk-weaker}
use Rattle.clap.specs.Simple.{app_of_fields, new_app}
use Rattle.calcdb.specs.CommandLines.{written}
use Rattle.calcdb.proofs.CommandLines.{IsApp, argument_added}
use Rattle.calcdb.proofs.command_line.described_run.Goals as goal

pub returns : goal.returns
returns c =
    let named : IsApp c.after_help.result (new_app (codes "run")) = (ap app_of_fields c.after_help.ensures ∙ ap app_of_fields c.about.ensures ∙ c.new.ensures.app, ap (λ f. f.has_globals) c.after_help.ensures ∙ ap (λ f. f.has_globals) c.about.ensures ∙ c.new.ensures.local) in
    let one = argument_added _ _ _ _ _ c.in_ok-arg.ensures c.required.ensures.rule c.required.ensures.local named in
    let two = argument_added _ _ _ _ _ c.in_ok-arg-2.ensures c.flagged.ensures.rule c.flagged.ensures.local one in
    let three = argument_added _ _ _ _ _ c.in_ok-arg-3.ensures (c.written.ensures.rule ∙ ap written c.flagged-2.ensures.rule) (c.written.ensures.local ∙ c.flagged-2.ensures.local) two in
    let four = argument_added _ _ _ _ _ c.in_ok-arg-4.ensures c.switched.ensures.rule c.switched.ensures.local three in
    let five = argument_added _ _ _ _ _ c.in_ok-arg-5.ensures c.switched-2.ensures.rule c.switched-2.ensures.local four in
    let six = argument_added _ _ _ _ _ c.in_ok-arg-6.ensures c.switched-3.ensures.rule c.switched-3.ensures.local five in
    let done = IfOk-weaker c.arg-7.result _ _ (λ r h. argument_added _ _ _ _ _ h c.progress_flag.ensures.rule c.progress_flag.ensures.local six) c.arg-7.ensures in
    record { app = IfOk-weaker c.arg-7.result _ _ (λ r h. h.0) done; local = IfOk-weaker c.arg-7.result _ _ (λ r h. h.1) done }
