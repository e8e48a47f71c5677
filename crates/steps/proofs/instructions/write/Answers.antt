use Rattle.std.proofs.Common.{IsSome, Option, ap, ◌∙◌, subst, is_some}
use Rattle.procedure.specs.Bytes.{Cell}
use Rattle.procedure.specs.Needs.{Writes, becomes_of}
use Rattle.procedure.specs.Runs.{next_need}
use Rattle.steps.proofs.instructions.write.Goals as goal

pub write_live-requires-clause-changes : goal.write_live-requires-clause-changes
write_live-requires-clause-changes g c =
    let m = c.args.call.now.machine in
    let becomes = becomes_of (next_need m.args m.progress) in
    subst (λ (o : Option Cell). IsSome o) (c.in-Ok-Some.ensures.value ∙ ap becomes (c.held.ensures (Writes c.args.key) c.requires.found))
    (ap is_some c.in-Ok-Some.field-0-is)
