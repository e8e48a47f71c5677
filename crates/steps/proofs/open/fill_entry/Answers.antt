use Rattle.std.proofs.Common.{ap, ◌∙◌}
use Rattle.steps.specs.Versions.{versions_in}
use Rattle.steps.proofs.store.RecordEdits.{none_found}
use Rattle.steps.proofs.open.fill_entry.Goals as goal

pub write_key-requires : goal.write_key-requires
write_key-requires g c =
    none_found c.args.store.now c.entry.inside.key c.least_candidate-candidate.ensures.once
    (ap (λ k. versions_in c.args.store.now k) (ap (λ e. e.0) c.entry.view_is) ∙ c.requires)
