use Rattle.std.proofs.Common.{rules, ◌∙◌}
use Rattle.image.specs.Merges.{table_of}
use Rattle.steps.specs.CoreViews.{CoreView}
use Rattle.steps.proofs.log.ImageChains.{chains_are_cuts}
use Rattle.steps.proofs.log.DrivenLog.{calls_driven, catalog_driven, counted_driven, opening_driven, places_driven, taken_driven}
use Rattle.steps.proofs.drives.drive.Goals as goal

pub returns : goal.returns
returns g c =
    let opened = c.in_ok-core.ensures.opened in
    let x = c.in-Ok.handled in
    let v : CoreView = c.answer_all.new.core in
    let taken = taken_driven c.args.events.items x.0.items x.1.items c.in_ok-core.core v opened.log opened.calls c.in-Ok.ensures in
    record {
      run = record { first = c.in_ok-core.core; opened = opened; handled = c.in-Ok.ensures };
      catalog = catalog_driven c.args.events.items x.0.items x.1.items c.in_ok-core.core v opened.log opened.calls c.in-Ok.ensures ∙ opened.catalog;
      opening = opening_driven c.args.events.items x.0.items x.1.items c.in_ok-core.core v opened.log opened.calls c.in-Ok.ensures ∙ opened.opening;
      legal = c.records-records.ensures.legal;
      orderly = c.records-records.ensures.orderly;
      cyclic = c.records-records.ensures.cyclic;
      small = c.records-records.ensures.small;
      calls = calls_driven c.args.events.items x.0.items x.1.items c.in_ok-core.core v opened.log opened.calls c.in-Ok.ensures;
      places = places_driven c.args.events.items x.0.items x.1.items c.in_ok-core.core v opened.log opened.calls c.in-Ok.ensures;
      taken = counted_driven c.args.events.items x.0.items x.1.items c.in_ok-core.core v opened.log opened.calls c.in-Ok.ensures;
      images = taken;
      chains = chains_are_cuts v.catalog (table_of v.opening) v.log c.records-records.ensures.cyclic _ taken;
      refusal = search rules;
    }
