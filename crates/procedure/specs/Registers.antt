-- How the cells that are kept of a machine's registers stand for all of them.
use Rattle.std.specs.Prelude.{◌++◌, ◌-◌, ◌≤◌, List, None, length, replicate, vec_capacity}
use Rattle.procedure.specs.Bytes.{Cell}
use Rattle.procedure.specs.declared.limits.TheConstants.{REGISTERS}
use Rattle.procedure.specs.declared.registers.Registers.TheInside.{Inside}

-- the registers behind those that are kept are absent
abbrev pub padded : List Cell → List Cell
padded cells = cells ++ replicate (REGISTERS - length cells) None

abbrev pub registers_of : {A : Type 0} → Inside A → List Cell
registers_of r = padded r.cells.items

-- no more are kept than there are, and there is room for all
pub record HasRoom {A : Type 0} (r : Inside A) : Type 0 where
  pub few : length r.cells.items ≤ REGISTERS
  pub room : REGISTERS ≤ vec_capacity r.cells
