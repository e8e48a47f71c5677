use Rattle.std.proofs.Common.{slice_get, sym, ap, ◌∙◌}
use Rattle.procedure.specs.Procedures.{operand_value}
use Rattle.procedure.proofs.Slices.{copied_get}
use Rattle.procedure.proofs.actions.value_of.Goals as goal

pub returns-in-Arg : goal.returns-in-Arg
returns-in-Arg g c =
    let args = c.args.args.now in
    copied_get c.get.result args c.from.result c.get.ensures.lookup.3
    ∙ ap (slice_get args) c.from.ensures
    ∙ sym (ap (λ o. operand_value o args c.args.registers.now) c.in-Arg.is)

pub returns-in-Reg : goal.returns-in-Reg
returns-in-Reg g c =
    c.get-in-Reg.ensures ∙ sym (ap (λ o. operand_value o c.args.args.now c.args.registers.now) c.in-Reg.is)

pub returns-in-Lit : goal.returns-in-Lit
returns-in-Lit g c = sym (ap (λ o. operand_value o c.args.args.now c.args.registers.now) c.in-Lit.is)
