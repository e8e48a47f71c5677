use Rattle.std.proofs.Common.{◌≡◌, ◌++◌, drop, None}
use Rattle.std.specs.List.{flat_map}
use Rattle.procedure.specs.Catalogs.{first_fault, procedure_fault}
use Rattle.procedure.specs.CatalogBytes.{procedure_bytes}
use Rattle.procedure.proofs.digests.write_procedures.Given as goal

abbrev pub invariant-loop-procedure : goal.invariant-loop-procedure
invariant-loop-procedure g l = record {
  written : l.out.items ++ flat_map procedure_bytes (drop l.procedure-index l.procedures) ≡ l.fn.out.items ++ flat_map procedure_bytes l.procedures;
  lawful : first_fault procedure_fault (drop l.procedure-index l.procedures) ≡ None;
}
