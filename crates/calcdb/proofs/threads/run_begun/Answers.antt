use Rattle.std.proofs.Common.{[], sym, ap, ◌∙◌}
use mathlib.Core.Logic.{∥∥₁_map}
use Rattle.calcdb.specs.Journals.{taken_of, with_more}
use Rattle.calcdb.proofs.ThreadJournals.{all_since, same_keeper, told_same, with_nothing}
use Rattle.calcdb.proofs.threads.run_begun.Goals as goal

pub run_in_view-ran-requires-clause-told : goal.run_in_view-ran-requires-clause-told
run_in_view-ran-requires-clause-told g c κs within =
    ∣ (λ start t h. told_same g.N.Journal.Has g.N.Journal.HasFront start c.args.keeper.journal c.args.keeper.failure t (with_more t c.args.core.log []) (with_nothing t ∙ ap (λ l. with_more t l []) (sym c.requires)) h) ∣₁

pub returns-in-Ok-clause-told : goal.returns-in-Ok-clause-told
returns-in-Ok-clause-told g c = λ start h.
    ∥∥₁_map c.in-Ok.ensures.told (λ has. told_same g.N.Journal.Has g.N.Journal.HasFront start c.in-Ok.keeper.journal c.in-Ok.keeper.failure
    (with_more (taken_of c.args.core []) c.in-Ok.ran.core.log c.in-Ok.ran.images.items) (taken_of c.in-Ok.ran.core c.in-Ok.ran.images.items)
    (all_since c.args.core c.in-Ok.ran.core c.in-Ok.ran.images.items c.requires c.in-Ok.ensures.origin) (has start (taken_of c.args.core []) h))

pub returns-in-Err-clause-same : goal.returns-in-Err-clause-same
returns-in-Err-clause-same g c = ∥∥₁_map c.in-Err.ensures.begun (λ e. ap (λ k. k.journal) (same_keeper c.args.keeper c.in-Err.keeper e))
