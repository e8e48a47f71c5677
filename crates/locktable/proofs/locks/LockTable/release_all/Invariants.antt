use Rattle.std.proofs.Common.{◌≡◌}
use Rattle.std.specs.FinMap.{len}
use Rattle.locktable.specs.Locks.{locks_of, without_locks}
use Rattle.locktable.proofs.locks.LockTable.release_all.Given as goal

-- the locks of the others stay, and the session's go one by one
abbrev pub invariant-loop-key : goal.invariant-loop-key
invariant-loop-key g l = without_locks l.self l.session ≡ without_locks l.fn.self l.session

abbrev pub decreases-loop-key : goal.decreases-loop-key
decreases-loop-key g l = len (locks_of l.self l.session)
