use Rattle.std.proofs.Common.{◌≡◌, drop}
use Rattle.procedure.specs.Catalogs.{first_fault, instruction_fault}
use Rattle.procedure.proofs.catalogs.check_code.Given as goal

-- the first fault is among the instructions that are left
abbrev pub invariant-loop-instruction : goal.invariant-loop-instruction
invariant-loop-instruction g l = first_fault (instruction_fault l.arity) (drop l.instruction-index l.code) ≡ first_fault (instruction_fault l.arity) l.code
