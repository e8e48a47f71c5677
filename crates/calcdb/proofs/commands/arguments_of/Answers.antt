use Rattle.std.proofs.Common.{◌∙◌, List, Some, ap, subst, sym}
use Rattle.std.specs.declared.result.Result.{Result}
use Rattle.procedure.specs.Bytes.{Bytes}
use Rattle.calcdb.specs.Lines.{words}
use Rattle.calcdb.specs.Reads.{ReadsAs}
use Rattle.calcdb.specs.Values.{held_value_of}
use Rattle.calcdb.specs.Commands.{values_by}
use Rattle.calcdb.specs.declared.faults.unread.Unread.{Unread}
use Rattle.calcdb.proofs.WordValues.{held_values}
use Rattle.calcdb.proofs.commands.arguments_of.Goals as goal

pub returns-in-Ok : goal.returns-in-Ok
returns-in-Ok g c =
    held_values (words c.args.line.now) c.in-Ok.values
    (subst (λ (r : Result (List Bytes) Unread). ReadsAs (λ v. v) r (values_by held_value_of (words c.args.line.now))) c.in-Ok.is c.values_of.ensures)
    ∙ ap (λ (vs : List Bytes). Some vs) (sym c.of_values.ensures)
