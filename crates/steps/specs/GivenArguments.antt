-- The arguments of a call, whether they are given as values or as bytes of any length.
use Rattle.std.specs.Prelude.{List, map}
use Rattle.procedure.specs.Bytes.{Bytes}
use Rattle.steps.specs.declared.arguments.Given.{Given}
use Rattle.steps.specs.declared.arguments.Given.TheVariants.{Values, AnyLength}

abbrev pub arguments_of : {A : Type 0} → Given A → List Bytes
arguments_of (Values values) = values
arguments_of (AnyLength args) = map (λ b. b.items) args.items
