use Rattle.std.proofs.Common.{[], ◌∷◌, ◌++◌, length, codes}
use Rattle.std.specs.List.{flat_map}
use Rattle.procedure.specs.CatalogBytes.{procedure_bytes}
use Rattle.procedure.proofs.Faults.{procedures_within, procedures_lawful, is_byte}
use Rattle.procedure.proofs.Passes.{written_then}
use Rattle.procedure.proofs.Results.{if_done}
use Rattle.procedure.proofs.digests.write_catalog.Goals as goal

pub overflow_cast-procedures : goal.overflow_cast-procedures
overflow_cast-procedures g c = record { fits = is_byte (length c.args.procedures.now) (procedures_within c.args.procedures.now c.requires) }

pub write_procedures-requires : goal.write_procedures-requires
write_procedures-requires g c = procedures_lawful c.args.procedures.now c.requires

pub returns : goal.returns
returns g c =
    let ps = c.args.procedures.now in
    let out = c.args.out.now.items in
    let head = c.extend_from_slice.new.self.items in
    let count = length ps ∷ [] in
    if_done (λ wrote.
    written_then out head c.write_procedures.new.out.items (codes "CALCCAT1") (count ++ flat_map procedure_bytes ps) c.in_ok-extend_from_slice.ensures.items
    (written_then head c.push.new.self.items c.write_procedures.new.out.items count (flat_map procedure_bytes ps) c.in_ok-push.ensures.items wrote))
    c.write_procedures.result c.write_procedures.ensures
