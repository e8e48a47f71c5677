-- How counts stand for the start phases.
use Rattle.std.specs.Prelude.{◌≡◌, ℕ, ◌+◌, ◌≤◌, Option, Some, None, sum_by, length}
use Rattle.phase.specs.Phases.{Phase, Rest, Prepare, Resolve, Capture, Complete, Starts}
use Rattle.phase.specs.declared.counts.Counts.{Counts}
use Rattle.phase.specs.declared.open_calls.TheConstants.{SESSIONS}

-- 1 for the phase itself, and 0 for another
abbrev pub one_if : Phase → Phase → ℕ
one_if Rest Rest = 1
one_if Prepare Prepare = 1
one_if Resolve Resolve = 1
one_if Capture Capture = 1
one_if Complete Complete = 1
one_if p q = 0

abbrev pub counts_one : Phase → Option Phase → ℕ
counts_one p None = 0
counts_one p (Some q) = one_if p q

-- how many open calls started in a phase
abbrev pub count_in : Phase → Starts → ℕ
count_in p starts = sum_by (counts_one p) starts

pub record IsCounted (starts : Starts) (c : Counts) : Type 0 where
  pub sessions : length starts ≡ SESSIONS
  pub rest : c.rest ≡ count_in Rest starts
  pub prepare : c.prepare ≡ count_in Prepare starts
  pub resolve : c.resolve ≡ count_in Resolve starts
  pub capture : c.capture ≡ count_in Capture starts
  pub complete : c.complete ≡ count_in Complete starts

-- less has one call fewer than more, that started here, if a call did
pub record Takes (more : Counts) (start : Option Phase) (less : Counts) : Type 0 where
  pub rest : less.rest + counts_one Rest start ≡ more.rest
  pub prepare : less.prepare + counts_one Prepare start ≡ more.prepare
  pub resolve : less.resolve + counts_one Resolve start ≡ more.resolve
  pub capture : less.capture + counts_one Capture start ≡ more.capture
  pub complete : less.complete + counts_one Complete start ≡ more.complete

-- a call that started here is counted
pub record Has (c : Counts) (start : Option Phase) : Type 0 where
  pub rest : counts_one Rest start ≤ c.rest
  pub prepare : counts_one Prepare start ≤ c.prepare
  pub resolve : counts_one Resolve start ≤ c.resolve
  pub capture : counts_one Capture start ≤ c.capture
  pub complete : counts_one Complete start ≤ c.complete

-- no count is over n
pub record IsAtMost (c : Counts) (n : ℕ) : Type 0 where
  pub rest : c.rest ≤ n
  pub prepare : c.prepare ≤ n
  pub resolve : c.resolve ≤ n
  pub capture : c.capture ≤ n
  pub complete : c.complete ≤ n

-- no counted call started in another phase, of a phase that is guarded
abbrev pub HasNoOthers : Counts → Phase → Type 0
HasNoOthers c Rest = Unit {0}
HasNoOthers c Prepare = (c.rest ≡ 0) × (c.resolve ≡ 0) × (c.capture ≡ 0) × (c.complete ≡ 0)
HasNoOthers c Resolve = (c.rest ≡ 0) × (c.prepare ≡ 0) × (c.capture ≡ 0) × (c.complete ≡ 0)
HasNoOthers c Capture = Unit {0}
HasNoOthers c Complete = (c.rest ≡ 0) × (c.prepare ≡ 0) × (c.resolve ≡ 0) × (c.capture ≡ 0)
