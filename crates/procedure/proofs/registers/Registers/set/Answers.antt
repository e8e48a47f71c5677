use Rattle.std.proofs.Common.{◌∷◌, [], ◌++◌, List, ap, ◌∙◌, arith, slice_set}
use Rattle.procedure.specs.Bytes.{Cell}
use Rattle.procedure.proofs.Padding.{written_behind}
use Rattle.procedure.proofs.registers.Registers.set.Goals as goal

pub returns-then-index-lt-REGISTERS : goal.returns-then-index-lt-REGISTERS
returns-then-index-lt-REGISTERS g c =
    let cells = c.self.inside.cells in
    written_behind cells.items c.push_reserved.new.self.items c.from-index.result c.args.cell (omega (arith, cells.ok.0)) (omega arith)
    (c.push_reserved.ensures.items ∙ ap (λ (l : List Cell). l ++ c.args.cell ∷ []) c.pad.ensures.items)
    ∙ (λ j. slice_set (c.self.view_is j) (c.from-index.ensures j) c.args.cell)
