use Rattle.std.proofs.Common.{◌<◌, subst, sym, ap, ◌∙◌}
use Rattle.locktable.specs.Locks.{without_locks}
use Rattle.locktable.proofs.Locking.{fewer_after, without_after}
use Rattle.locktable.proofs.locks.LockTable.release_all.Goals as goal

pub loop-key-smaller : goal.loop-key-smaller
loop-key-smaller g c =
    fewer_after c.loop-key.self c.release.new.self c.args.session c.in-Some._key c.in-Some.ensures.released
    (subst (λ n. c.args.session < n) (sym c.in-Some.ensures.sessions) c.requires) c.in-Some.ensures.held

pub loop-key-preserved : goal.loop-key-preserved
loop-key-preserved g c =
    ap (λ locks. without_locks locks c.args.session) c.in-Some.ensures.released
    ∙ without_after c.loop-key.self c.args.session c.in-Some._key
    ∙ c.loop-key.invariant
