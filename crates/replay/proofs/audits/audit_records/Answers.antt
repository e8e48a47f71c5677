use Rattle.std.proofs.Common.{rules, ◌≤◌, ◌≡◌, true, false, true≢false, List, [], ◌∷◌, sym, ◌∙◌, subst, arith, length}
use Rattle.commitlog.specs.declared.limits.TheConstants.{LOG_RECORDS}
use Rattle.commitlog.specs.Records.{Record, record_of}
use Rattle.replay.specs.Replays.{calls_in}
use Rattle.replay.proofs.Auditing.{PassSoFar, all_pass, none_yet, next_is, disorder, fails, pass_on, counts}
use Rattle.replay.proofs.Reruns.{one_call}
use Rattle.replay.proofs.audits.audit_records.Goals as goal

pub loop-table-init : goal.loop-table-init
loop-table-init g c = none_yet c.args.catalog.now c.args.table c.args.records c.new-order.result c.new-order.ensures

pub returns-then-not-admits : goal.returns-then-not-admits
returns-then-not-admits g c =
    let s = next_is _ _ _ _ _ _ _ _ _ _ _ (rw c.in-Some.is at c.in_ok-made.ensures.next) c.into_entry-entry.ensures.value c.loop-table.invariant in
    let refused : c.admits.result ≡ false = search rules in
    disorder _ _ _ _ _ _ _ _ _ s c.args.torn (λ is. true≢false (sym ((c.admits.ensures s.done s.order).1 is) ∙ refused))

pub overflow_add-calls : goal.overflow_add-calls
overflow_add-calls g c =
    let l = c.loop-table in
    let next : l.records ≡ c.in-Some.made ∷ c.next.new.self = rw c.in-Some.is at c.in_ok-made.ensures.next in
    let small = counts c.args.catalog.now c.args.table c.args.records l.records l.table l.order l.calls l.place l.invariant in
    let one = one_call (record_of c.into_entry-entry.result) in
    let few : length c.args.records ≤ LOG_RECORDS = c.requires in
    let given : c.calls_of.result ≡ calls_in (record_of c.into_entry-entry.result ∷ []) = c.calls_of.ensures in
    omega arith

pub loop-table-preserved : goal.loop-table-preserved
loop-table-preserved g c =
    let s = next_is _ _ _ _ _ _ _ _ _ _ _ (rw c.in-Some.is at c.in_ok-made.ensures.next) c.into_entry-entry.ensures.value c.loop-table.invariant in
    let admitted : c.admits.result ≡ true = search rules in
    pass_on _ _ _ _ _ _ _ _ _ s ((c.admits.ensures s.done s.order).0 admitted) _ _ _ (c.note.ensures s.done s.order) c.calls_of.ensures c.in-Ok.ensures

pub returns-in-Err : goal.returns-in-Err
returns-in-Err g c =
    let s = next_is _ _ _ _ _ _ _ _ _ _ _ (rw c.in-Some.is at c.in_ok-made.ensures.next) c.into_entry-entry.ensures.value c.loop-table.invariant in
    let admitted : c.admits.result ≡ true = search rules in
    fails _ _ _ _ _ _ _ _ _ s ((c.admits.ensures s.done s.order).0 admitted) c.args.torn c.in-Err.stopped _ c.refusal_at.ensures c.in-Err.ensures

pub returns : goal.returns
returns g c =
    let l = c.loop-table in
    let none = rw c.in_default.is at c.in_ok-made.ensures.next in
    all_pass c.args.catalog.now c.args.table c.args.records l.table l.order l.calls l.place c.args.torn
    (subst (λ (x : List Record). PassSoFar c.args.catalog.now c.args.table c.args.records x l.table l.order l.calls l.place) none.0 l.invariant)
