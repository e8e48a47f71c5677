use Rattle.std.proofs.Common.{◌≡◌, ◌<◌, Option, OnErr, Ok, Err, sym, ap, ◌∙◌, subst, length}
use Rattle.std.specs.declared.result.Result.{Result}
use Rattle.locktable.specs.declared.modes.Mode.{Mode}
use Rattle.locktable.specs.Locks.{Locks}
use Rattle.locktable.specs.Modes.{IsAtMost}
use Rattle.steps.specs.inside.Instructions.{touch_by}
use Rattle.steps.specs.inside.InstructionLocks.{SameLocks, grant, mode_of_touch, held_so, locked}
use Rattle.steps.proofs.sessions.LockGrants.{length_held_so, taken_back, weaker}
use Rattle.steps.proofs.step.run_locked.Goals as goal

with_err : {X E P Q : Type 0} (r : Result X E) → (P → Q) → OnErr r P → OnErr r Q
with_err (Ok x) f p = p
with_err (Err e) f p = f p

pub run_granted-requires-clause-weaker : goal.run_granted-requires-clause-weaker
run_granted-requires-clause-weaker g c =
    let n = touch_by c.args.access.now in
    let lt : c.args.session < length c.args.locks.now = subst (λ m. c.args.session < m) (sym c.requires.sessions) c.requires.session in
    subst (λ (l : Locks). IsAtMost c.in-Ok.before (mode_of_touch l c.args.session n)) (sym c.in-Ok.ensures.granted)
    (subst (λ (m : Option Mode). IsAtMost m (mode_of_touch (locked c.args.locks.now c.args.session n) c.args.session n)) (sym c.in-Ok.ensures.before) (weaker c.args.locks.now c.args.session n lt))

pub returns-in-Ok-clause-unlocked : goal.returns-in-Ok-clause-unlocked
returns-in-Ok-clause-unlocked g c =
    let n = touch_by c.args.access.now in
    let s = c.args.session in
    let lt : s < length c.args.locks.now = subst (λ m. s < m) (sym c.requires.sessions) c.requires.session in
    let back = λ (e : c.run_granted.new.locks ≡ held_so c.lock.new.locks s n c.in-Ok.before). e ∙ ap (λ (l : Locks). held_so l s n c.in-Ok.before) c.in-Ok.ensures.granted ∙
    ap (held_so (locked c.args.locks.now s n) s n) c.in-Ok.ensures.before in
    with_err c.run_granted.result (λ e. (
      subst (λ (l : Locks). SameLocks c.args.locks.now l) (sym (back e)) (taken_back c.args.locks.now s n lt),
      ap length (back e) ∙ length_held_so (locked c.args.locks.now s n) s n (mode_of_touch c.args.locks.now s n) ∙ length_held_so c.args.locks.now s n (grant c.args.locks.now s n)
          ∙ c.requires.sessions,
    )) c.run_granted.ensures.unlocked
