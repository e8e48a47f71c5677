-- How far checkpoints came.
use Rattle.std.specs.Prelude.{ℕ, ◌<◌}
use Rattle.workers.specs.declared.checkpoints.Progress.{Progress}
use Rattle.workers.specs.declared.checkpoints.Progress.TheVariants.{Done, TurnsOut, Refused}

-- where they stopped is the position of one of so many
abbrev pub IsWithin : ℕ → Progress → Type 0
IsWithin n Done = Unit {0}
IsWithin n (TurnsOut i) = i < n
IsWithin n (Refused i e) = i < n
