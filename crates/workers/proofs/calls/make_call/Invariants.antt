use Rattle.std.proofs.Common.{ℕ}
use Rattle.workers.specs.declared.shares.Given.{Given}
use Rattle.workers.specs.Sessions.{Makes}
use Rattle.workers.proofs.calls.make_call.Given as goal

-- what comes of the turns that are left comes of all
abbrev pub invariant-loop-left : goal.invariant-loop-left
invariant-loop-left g l = (m : ℕ) (u : _) (r : Given _) → Makes g.S.Session.does l.call l.left m l.session u r → Makes g.S.Session.does l.call l.fn.left m l.fn.session u r

abbrev pub decreases-loop-left : goal.decreases-loop-left
decreases-loop-left g l = l.left
