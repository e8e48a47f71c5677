use Rattle.std.proofs.Common.{ap, ◌∙◌, length}
use Rattle.calcdb.specs.Preambles.{Said}
use Rattle.calcdb.proofs.SaidLines.{one_procedure_more}
use Rattle.calcdb.proofs.preambles.Said.read_in_block.Goals as goal

pub invariant_of-self-in_ok-push : goal.invariant_of-self-in_ok-push
invariant_of-self-in_ok-push g c =
    let s : Said = record { names = c.self.inside.names; procedures = c.self.inside.procedures.items; block = c.self.inside.block } in
    one_procedure_more s c.in_ok-into_procedure.field-0 c.push.new.self.items c.self.invariant (ap (λ (x : Said). x.block) c.self.view_is ∙ c.requires.out)
    (rw (ap (λ (x : Said). length x.procedures) c.self.view_is) c.requires.room) c.in_ok-into_procedure.ensures.lawful c.in_ok-push.ensures.items
