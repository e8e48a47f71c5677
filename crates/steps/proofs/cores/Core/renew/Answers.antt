use Rattle.std.proofs.Common.{ap, map, option_map, subst, sym, ◌∙◌}
use Rattle.image.specs.Merges.{table_of}
use Rattle.record_store.specs.Stores.{record_at_rest}
use Rattle.steps.specs.CoreViews.{CoreView, table_now}
use Rattle.steps.specs.inside.Openings.{IsFilledBy}
use Rattle.steps.proofs.renewal.NextOpening.{table_of-full}
use Rattle.steps.proofs.cores.Core.renew.Goals as goal

pub core_of-core-requires-clause-store : goal.core_of-core-requires-clause-store
core_of-core-requires-clause-store g c =
    c.store_after-store.ensures c.in-Ok.next.opening c.in-Ok.ensures.some
    (λ none. subst (λ (v : CoreView). IsFilledBy c.in-Ok.next.opening (map (option_map record_at_rest) v.slots)) (sym c.self.view_is) (c.in-Ok.ensures.none none))

pub returns-clause-table : goal.returns-clause-table
returns-clause-table g c = ap table_of c.core_of-core.ensures.opening ∙ ap table_of c.in-Ok.ensures.opening ∙ table_of-full 0 0 (table_now c.args.self)
