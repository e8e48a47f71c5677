use Rattle.std.proofs.Common.{option_map, sym, ◌∙◌}
use Rattle.procedure.specs.Bytes.{Bytes, Cell}
use Rattle.procedure.specs.Carried.{changed}
use Rattle.procedure.specs.Needs.{updated}
use Rattle.procedure.proofs.Base.{remove_absent}
use Rattle.procedure.proofs.runs.updated.Goals as goal

pub returns-in-None-clause-table : goal.returns-in-None-clause-table
returns-in-None-clause-table g c =
    let u = c.args.table.now in
    let k = c.args.key in
    let absent = sym c.in-None.ensures.value in
    c.remove.ensures.removed
    ∙ remove_absent u k absent
    ∙ sym (λ i. changed u (option_map {T = Cell} {U = Bytes × Cell} (λ x. (k, x)) (updated (c.in-Delete.is i) (absent i))))
