use Rattle.std.proofs.Common.{◌≡◌, ap, codes, true, ◌∙◌}
use Rattle.std.proofs.lemmas.Result.{IfOk-weaker}
use Rattle.clap.specs.Simple.{App, Shape, app_of, app_of_fields, new_app, on_top}
use Rattle.calcdb.specs.CommandLines.{calcdb_app}
use Rattle.calcdb.proofs.CommandLines.{command_added}
use Rattle.calcdb.proofs.command_line.described.Goals as goal

pub returns : goal.returns
unfolding calcdb_app
returns c =
    let named_is : app_of c.after_help.result ≡ new_app (codes "calcdb") = ap app_of_fields c.after_help.ensures ∙ ap app_of_fields c.about.ensures ∙ c.new.ensures.app in
    let versioned_is : app_of c.version.result ≡ on_top (λ (s : Shape). record s { has_version = true }) (new_app (codes "calcdb")) =
    ap app_of_fields c.version.ensures ∙ ap (on_top (λ (s : Shape). record s { has_version = true })) named_is in
    let wanted_is : app_of c.subcommand_required.result ≡ on_top (λ (s : Shape). record s { subcommand_required = true; has_version = true }) (new_app (codes "calcdb")) =
    ap app_of_fields c.subcommand_required.ensures ∙ ap (on_top (λ (s : Shape). record s { subcommand_required = true })) versioned_is in
    let top : App = on_top (λ (s : Shape). record s { subcommand_required = true; arg_required_else_help = true; has_version = true }) (new_app (codes "calcdb")) in
    let top_is : app_of c.arg_required_else_help-program.result ≡ top =
    ap app_of_fields c.arg_required_else_help-program.ensures ∙ ap (on_top (λ (s : Shape). record s { arg_required_else_help = true })) wanted_is in
    let run = c.described_run.ensures in
    let load = c.described_load.ensures in
    let merge = c.described_merge.ensures in
    let recover = c.described_recover.ensures in
    let show = c.described_show.ensures in
    let one = command_added c.described_run.result _ _ _ _ c.in_ok-program.ensures run.app run.local top_is in
    let two = command_added c.described_load.result _ _ _ _ c.in_ok-program-2.ensures load.app load.local one in
    let three = command_added c.described_merge.result _ _ _ _ c.in_ok-program-3.ensures merge.app merge.local two in
    let four = command_added c.described_recover.result _ _ _ _ c.in_ok-program-4.ensures recover.app recover.local three in
    IfOk-weaker c.with_command-5.result _ _ (λ r h. command_added c.described_show.result _ _ _ _ h show.app show.local four) c.with_command-5.ensures
