-- What a machine works out of an instruction before it changes itself.
use Rattle.std.specs.Prelude.{ℕ, List, [], ◌∷◌, Option, Some, None, slice_set}
use Rattle.procedure.specs.Bytes.{Bytes, Cell}
use Rattle.procedure.specs.Procedures.{Effect, ending, setting, number_value}
use Rattle.procedure.specs.declared.outcomes.TheConstants.{OUT_OF_RANGE}
pub use Rattle.procedure.specs.declared.actions.Action.{Action}
use Rattle.procedure.specs.declared.actions.Action.TheVariants.{Set, Load, Pass, End}

-- a register takes a number, or the call ends where there is none
abbrev pub number_set : List Cell → ℕ → Option ℕ → Effect
number_set registers r None = ending registers OUT_OF_RANGE
number_set registers r (Some n) = setting registers r (number_value n)

-- the effect that an action stands for, of an instruction whose key becomes x
abbrev pub effect_of : Action Bytes → List Cell → Option Cell → Effect
effect_of (Set r v) registers x = record { registers = slice_set registers r v; reply = []; ends = None; becomes = x }
effect_of (Load r v w) registers x = record { registers = slice_set registers r v; reply = w ∷ []; ends = None; becomes = x }
effect_of Pass registers x = record { registers = registers; reply = []; ends = None; becomes = x }
effect_of (End c) registers x = record { registers = registers; reply = []; ends = Some c; becomes = x }
