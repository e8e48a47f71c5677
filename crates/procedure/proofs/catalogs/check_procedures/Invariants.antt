use Rattle.std.proofs.Common.{◌≡◌, drop}
use Rattle.procedure.specs.Catalogs.{first_fault, procedure_fault}
use Rattle.procedure.proofs.catalogs.check_procedures.Given as goal

-- the first fault is among the procedures that are left
abbrev pub invariant-loop-procedure : goal.invariant-loop-procedure
invariant-loop-procedure g l = first_fault procedure_fault (drop l.procedure-index l.procedures) ≡ first_fault procedure_fault l.procedures
