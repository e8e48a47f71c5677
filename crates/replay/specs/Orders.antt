-- The order of records.
use Rattle.std.specs.Prelude.{◌≡◌, ◌<◌, ℕ, List, None, length, slice_index_or}
use Rattle.procedure.specs.declared.limits.TheConstants.{SESSIONS}
use Rattle.commitlog.specs.Records.{Record}
use Rattle.commitlog.specs.Histories.{RisesAfter, FollowsAfter, phase_of, number_of, last_number}
use Rattle.replay.specs.declared.orders.Order.{Order}

-- the session's number rises, and the token is one that may follow
abbrev pub IsInOrder : List Record → Record → Type 0
IsInOrder l r = RisesAfter l r × FollowsAfter l r

-- what is known of these records
pub record IsAfter (o : Order) (l : List Record) : Type 0 where
  pub phase : o.phase ≡ phase_of l
  pub number : o.number ≡ number_of l
  pub numbers : length o.last ≡ SESSIONS
  pub last : (s : ℕ) → s < SESSIONS → slice_index_or o.last s None ≡ last_number s l
