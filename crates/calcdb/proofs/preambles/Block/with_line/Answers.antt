use Rattle.std.proofs.Common.{◌<◌, ap, sym, ◌∙◌, arith, List, length, Some}
use Rattle.procedure.specs.Catalogs.{instruction_fault}
use Rattle.procedure.specs.Procedures.{Instruction}
use Rattle.procedure.specs.declared.limits.TheConstants.{INSTRUCTIONS}
use Rattle.calcdb.specs.Lines.{words}
use Rattle.calcdb.specs.Preambles.{Block, longer_block}
use Rattle.calcdb.proofs.Lawful.{longer, one_longer, one_more}
use Rattle.calcdb.proofs.preambles.Block.with_line.Goals as goal

pub invariant_of-result : goal.invariant_of-result
invariant_of-result g c =
    let i = c.self.invariant in
    let items = c.in_ok-push.ensures.items in
    let more = one_longer c.self.inside.code.items c.push.new.self.items c.in_ok-instruction_of.field-0 items in
    let room : length c.self.inside.code.items < INSTRUCTIONS = omega (arith, c.len.ensures, c.if-len-ge-INSTRUCTIONS.false) in
    record {
      arity = i.arity;
      count = omega (arith, more, room);
      code = rw items (one_more (instruction_fault c.self.inside.arity) c.self.inside.code.items c.in_ok-instruction_of.field-0 i.code c.in_ok-instruction_of.ensures.lawful);
    }

pub returns : goal.returns
returns g c =
    let b : Block = record { line = c.self.inside.line; arity = c.self.inside.arity; code = c.self.inside.code.items } in
    let i : Instruction = c.in_ok-instruction_of.field-0 in
    let room : length c.self.inside.code.items < INSTRUCTIONS = omega (arith, c.len.ensures, c.if-len-ge-INSTRUCTIONS.false) in
    ap (λ (x : Block). longer_block x (words c.args.line.now)) (sym c.self.view_is)
    ∙ longer b (words c.args.line.now) i room c.in_ok-instruction_of.ensures.value
    ∙ ap (λ (is : List Instruction). Some (record { line = c.self.inside.line; arity = c.self.inside.arity; code = is })) (sym c.in_ok-push.ensures.items)
