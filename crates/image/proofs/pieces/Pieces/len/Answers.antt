use Rattle.std.proofs.Common.{List, length, sym, ap, ◌∙◌}
use Rattle.image.specs.Images.{Entry}
use Rattle.image.proofs.PieceLists.{how_many}
use Rattle.image.proofs.pieces.Pieces.len.Goals as goal

pub returns : goal.returns
returns c = sym (how_many c.self.inside.left c.self.inside.block c.self.inside.rest.now c.self.invariant) ∙ ap (λ (l : List Entry). length l) c.self.view_is
