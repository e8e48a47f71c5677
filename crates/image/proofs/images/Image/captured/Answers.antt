use Rattle.std.proofs.Common.{subst}
use Rattle.image.specs.Images.{Rises}
use Rattle.image.proofs.Sorting.{is_captured, is_of_captured, is_of_ordered, is_ordered}
use Rattle.image.proofs.images.Image.captured.Goals as goal

pub returns-clause-value : goal.returns-clause-value
returns-clause-value g c =
    is_of_captured c.args.kind c.args.number c.args.base c.args.place c.args.entries.items c.sort_by_keys.new.entries.items c.sort_by_keys.ensures.moved c.sort_by_keys.ensures.in_order
    c.new.result c.new.ensures.value c.new.ensures.lawful

pub returns-clause-lawful : goal.returns-clause-lawful
returns-clause-lawful g c =
    is_captured c.args.kind c.args.number c.args.base c.args.place c.args.entries.items c.sort_by_keys.new.entries.items c.sort_by_keys.ensures.moved c.sort_by_keys.ensures.in_order
    c.new.result c.new.ensures.lawful

pub returns-then-keys_rise-clause-value : goal.returns-then-keys_rise-clause-value
returns-then-keys_rise-clause-value g c =
    let rises : Rises c.args.entries.items = subst Rises c.as_slice.ensures.value (c.keys_rise.ensures.0 c.if-keys_rise.true) in
    is_of_ordered c.args.kind c.args.number c.args.base c.args.place c.args.entries.items rises c.of_rising.result c.of_rising.ensures.value

pub returns-then-keys_rise-clause-lawful : goal.returns-then-keys_rise-clause-lawful
returns-then-keys_rise-clause-lawful g c =
    let rises : Rises c.args.entries.items = subst Rises c.as_slice.ensures.value (c.keys_rise.ensures.0 c.if-keys_rise.true) in
    is_ordered c.args.kind c.args.number c.args.base c.args.place c.args.entries.items rises c.of_rising.result c.of_rising.ensures.lawful
