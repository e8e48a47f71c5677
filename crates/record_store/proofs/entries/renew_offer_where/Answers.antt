use Rattle.std.proofs.Common.{ap, sym, ◌∙◌, slice_set}
use Rattle.std.proofs.lemmas.List.{set-get_or}
use Rattle.record_store.proofs.entries.renew_offer_where.Goals as goal

pub returns-else-turned : goal.returns-else-turned
returns-else-turned g c =
    let kept = c.requires.as_before c.if-turned.false in
    sym (ap (slice_set c.args.dead.now c.args.slot) (sym kept) ∙ set-get_or c.args.dead.now c.args.slot _)
