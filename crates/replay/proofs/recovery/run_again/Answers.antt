use Rattle.std.proofs.Common.{◌≡◌, ◌≤◌, List, [], ◌∷◌, refl, sym, subst, arith, length}
use Rattle.commitlog.specs.declared.limits.TheConstants.{LOG_RECORDS}
use Rattle.commitlog.specs.Records.{Record, record_of}
use Rattle.replay.specs.Replays.{calls_in}
use Rattle.replay.proofs.Reruns.{SoFar, at_first, counts, ends, next_is, one_call, run_on, stops}
use Rattle.replay.proofs.recovery.run_again.Goals as goal

pub loop-table-init : goal.loop-table-init
loop-table-init g c =
    subst (λ (l : List Record). SoFar c.args.catalog.now c.args.table c.args.from c.args.records.now l c.args.table 0 c.args.from) (sym c.from_place-records.ensures)
    (at_first c.args.catalog.now c.args.table c.args.from c.args.records.now)

pub overflow_add-calls : goal.overflow_add-calls
overflow_add-calls g c =
    let s = next_is _ _ _ _ _ _ _ _ _ _ _ (rw c.in-Some.is at c.in_ok-made.ensures.next) refl c.loop-table.invariant in
    let small = counts _ _ _ _ _ _ _ _ _ s in
    let one = one_call (record_of c.into_entry-entry.result) in
    let few : length c.args.records.now ≤ LOG_RECORDS = c.requires in
    let given : c.calls_of.result ≡ calls_in (record_of c.into_entry-entry.result ∷ []) = c.calls_of.ensures in
    omega arith

pub overflow_add-place : goal.overflow_add-place
overflow_add-place g c =
    let s = next_is _ _ _ _ _ _ _ _ _ _ _ (rw c.in-Some.is at c.in_ok-made.ensures.next) refl c.loop-table.invariant in
    let small = counts _ _ _ _ _ _ _ _ _ s in
    let few : length c.args.records.now ≤ LOG_RECORDS = c.requires in
    omega arith

pub loop-table-preserved : goal.loop-table-preserved
loop-table-preserved g c =
    let s = next_is _ _ _ _ _ _ _ _ _ _ _ (rw c.in-Some.is at c.in_ok-made.ensures.next) c.into_entry-entry.ensures.value c.loop-table.invariant in
    run_on _ _ _ _ _ _ _ _ _ s _ _ c.calls_of.ensures c.in-Ok.ensures

pub returns-in-Err : goal.returns-in-Err
returns-in-Err g c =
    let s = next_is _ _ _ _ _ _ _ _ _ _ _ (rw c.in-Some.is at c.in_ok-made.ensures.next) c.into_entry-entry.ensures.value c.loop-table.invariant in
    stops _ _ _ _ _ _ _ _ _ s c.args.torn c.in-Err.stopped _ c.refusal_at.ensures c.in-Err.ensures

pub returns : goal.returns
returns g c =
    let l = c.loop-table in
    let none = rw c.in_default.is at c.in_ok-made.ensures.next in
    ends c.args.catalog.now c.args.table c.args.from c.args.records.now l.table l.calls l.place c.args.torn
    (subst (λ (x : List Record). SoFar c.args.catalog.now c.args.table c.args.from c.args.records.now x l.table l.calls l.place) none.0 l.invariant)
