use Rattle.std.proofs.Common.{◌≤◌, ◌<◌, ◌+◌, [], ◌∷◌, ◌++◌, ℕ, Option, length, is_some, arith, ap, cond, refl, subst}
use Rattle.std.proofs.lemmas.List.{length-append}
use Rattle.image.specs.Images.{Entry}
use Rattle.steps.proofs.renewal.LiveEntries.{all_counted, all_gathered, more_counted, none_gathered, one_added, one_skipped, same_gathered}
use Rattle.steps.proofs.renewals.live_entries.Goals as goal
use Rattle.steps.proofs.renewals.live_entries.Goals.{in-Some+in_ok-push, in_default}

pub returns-clause-once : goal.returns-clause-once
returns-clause-once g c = c.loop-slot.invariant.gathered.once

pub returns-clause-values : goal.returns-clause-values
returns-clause-values g c =
    all_gathered c.args.store.now c.loop-slot.slot c.loop-slot.entries.items (subst (λ n. n ≤ c.loop-slot.slot) c.slots-slot-end.ensures c.loop-slot-test.false) c.loop-slot.invariant.gathered

pub returns-clause-count : goal.returns-clause-count
returns-clause-count g c =
    all_counted c.args.store.now c.loop-slot.slot (length c.loop-slot.entries.items) (subst (λ n. n ≤ c.loop-slot.slot) c.slots-slot-end.ensures c.loop-slot-test.false) c.loop-slot.invariant.count

pub loop-slot-init : goal.loop-slot-init
loop-slot-init g c = record {
  gathered = none_gathered c.args.store.now c.in_ok-entries.entries.items c.in_ok-entries.ensures.items;
  count = ap length c.in_ok-entries.ensures.items;
}

pub loop-slot-preserved : goal.loop-slot-preserved
loop-slot-preserved g c =
    let slots = c.args.store.now in
    let i = c.loop-slot.slot in
    let es = c.loop-slot.entries.items in
    let below : i < length slots = subst (λ n. i < n) c.slots-slot-end.ensures c.loop-slot-test.true in
    let counted = more_counted slots i (length es) c.in_ok-entry.field-0 below c.in_ok-entry.ensures c.loop-slot.invariant.count in
    elim c.match-branch-3.branch [
      | in-Some+in_ok-push w ↦ record {
        gathered =
            same_gathered slots (i + 1) c.match-branch-3.entries w.push.new.self (es ++ w.in-Some.entry ∷ []) w.entries-is w.in_ok-push.ensures.items
            (one_added slots c.least_candidate-candidate.ensures.once i es c.loop-slot.invariant.gathered c.in_ok-entry.field-0 w.in-Some.entry w.in-Some.is c.in_ok-entry.ensures);
        count = omega (
          arith,
          ap (λ v. length v.items) w.entries-is,
          ap length w.in_ok-push.ensures.items,
          length-append es (w.in-Some.entry ∷ []),
          ap {B = ℕ} (λ (o : Option Entry). cond (is_some o) 1 0) w.in-Some.is,
          counted,
        );
      }
      | in_default w ↦ record {
        gathered =
            same_gathered slots (i + 1) c.match-branch-3.entries c.loop-slot.entries es w.entries-is refl
            (one_skipped slots c.least_candidate-candidate.ensures.once i es c.loop-slot.invariant.gathered c.in_ok-entry.field-0 w.in_default.is c.in_ok-entry.ensures);
        count = omega (arith, ap (λ v. length v.items) w.entries-is, ap {B = ℕ} (λ (o : Option Entry). cond (is_some o) 1 0) w.in_default.is, counted);
      }
    ]
