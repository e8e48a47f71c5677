use Rattle.std.proofs.Common.{◌≡◌, ◌++◌, ◌-◌, ◌≤◌, length, None, replicate, vec_capacity}
use Rattle.procedure.proofs.registers.pad.Given as goal

abbrev pub invariant-loop-cells : goal.invariant-loop-cells
invariant-loop-cells g l = record {
  padded : l.cells.items ≡ l.fn.cells.items ++ replicate (length l.cells.items - length l.fn.cells.items) None;
  few : length l.cells.items - length l.fn.cells.items ≤ l.count - length l.fn.cells.items;
  longer : length l.fn.cells.items ≤ length l.cells.items;
  room : vec_capacity l.cells ≡ vec_capacity l.fn.cells;
}

abbrev pub decreases-loop-cells : goal.decreases-loop-cells
decreases-loop-cells g l = l.count - length l.cells.items
