use Rattle.std.proofs.Common.{rules, ◌≡◌, ◌<◌, cond, ◌||◌, List, [], ◌∷◌, ◌++◌, Option, Some, None, is_some, map, inl, inr, refl, slice_index_or, ℕ, sym, ap, ◌∙◌, subst, length, slice_set, true≢false}
use Rattle.std.specs.Prelude.{◌==◌}
use Rattle.std.specs.Vec.{with_item}
use Rattle.procedure.specs.Bytes.{Bytes}
use Rattle.procedure.specs.Runs.{is_nil}
use Rattle.procedure.specs.declared.outcomes.TheConstants.{COMMITTED}
use Rattle.commitlog.specs.Records.{Record, Call}
use Rattle.locktable.specs.Locks.{without_locks}
use Rattle.record_store.specs.ChangedSets.{KeySet, has}
use Rattle.steps.specs.inside.CoreFields.{call_at}
use Rattle.steps.specs.CoreViews.{CoreView}
use Rattle.steps.specs.inside.RecordEdits.{first_noted, noted_of}
use Rattle.steps.specs.Refusals.{Answers}
use Rattle.steps.specs.declared.calls.OpenCall.{OpenCall}
use Rattle.steps.specs.declared.errors.FinishError.TheVariants as refused
use Rattle.steps.proofs.machine.OpenCalls.{same_Some}
use Rattle.steps.proofs.sessions.AnsweredCall.{IsAnswered, finish_core, finish_view, in_range}
use Rattle.steps.proofs.sessions.EndedCall.{within}
use Rattle.steps.proofs.sessions.CallProgress.{other_rooms, ready, roomy_core}
use Rattle.steps.proofs.sessions.FoundCalls.{absent_refusal, found_at, found_refusal}
use Rattle.steps.proofs.cores.Core.finish_in_log.Given.{Over}
use Rattle.steps.proofs.cores.Core.finish_in_log.Goals as goal
use Rattle.steps.proofs.cores.Core.finish_in_log.Goals.{After-clear}

-- the call that was looked up is the one that is taken
same_call :
    {A : Type 0} (k d : OpenCall A) (i : ℕ) {l m : List (Option (OpenCall A))} → Some k ≡ slice_index_or l i None → l ≡ m → Some d ≡ slice_index_or m i None → k ≡ d
same_call k d i found same taken = same_Some (found ∙ ap (λ l. slice_index_or l i None) same ∙ sym taken)

pub end_call-room-requires-clause-range : goal.end_call-room-requires-clause-range
end_call-room-requires-clause-range g c =
    let is : call_at c.self.inside c.args.session ≡ Some c.in-Some-taken.call = ap (call_at c.self.inside) (sym c.from-index.ensures) ∙ sym c.in-Some-taken.ensures.value in
    let one = same_call c.in-Some.call.now c.in-Some-taken.call c.from-index.result c.in-Some.ensures c.as_slice.ensures.value c.in-Some-taken.ensures.value in
    let outcome = c.in_ok-outcome.ensures.outcome ∙ ap (λ (k : OpenCall g.row.A.Denot). k.machine.progress.outcome) one in
    in_range c.self.inside c.self.invariant c.args.session c.in-Some-taken.call is c.in_ok-outcome.outcome outcome

pub invariant_of-self : goal.invariant_of-self
invariant_of-self g c =
    roomy_core c.self.inside c.self.invariant c.make_room.new.log c.make_room.new.changed c.make_room.ensures.records c.make_room.ensures.collecting c.make_room.ensures.frozen

pub release_all-requires : goal.release_all-requires
release_all-requires g c =
    let lt : c.from-index.result < length c.self.inside.calls.items = within c.self.inside c.self.invariant c.from-index.result c.in-Some-taken.call (sym c.in-Some-taken.ensures.value) in
    subst (λ n. c.from-index.result < n) c.self.invariant.sessions lt

pub clear-requires : goal.clear-requires
clear-requires g c =
    let lt : c.from-index.result < length c.self.inside.calls.items = within c.self.inside c.self.invariant c.from-index.result c.in-Some-taken.call (sym c.in-Some-taken.ensures.value) in
    subst (λ n. c.from-index.result < n) c.self.invariant.sessions lt

pub index_mut-requires : goal.index_mut-requires
index_mut-requires g c =
    let lt : c.from-index.result < length c.self.inside.calls.items = within c.self.inside c.self.invariant c.from-index.result c.in-Some-taken.call (sym c.in-Some-taken.ensures.value) in
    subst (λ n. c.from-index.result < n) (c.self.invariant.sessions ∙ sym (c.self.inside.last.ok.0 ∙ c.self.invariant.numbers)) lt

-- the call that is answered is the one that was open
taken_open : (g : Over) (c : After-clear g) → call_at c.self.inside c.args.session ≡ Some c.in-Some-taken.call
taken_open g c = ap (call_at c.self.inside) (sym c.from-index.ensures) ∙ sym c.in-Some-taken.ensures.value

-- what its answer makes of the parts of the core
answered : (g : Over) (c : After-clear g) → IsAnswered c.self.inside c.args.session c.in-Some-taken.call
    c.end_call-room.new.log c.end_call-room.new.store c.release_all.new.self c.end_call-room.new.changed c.taken.new.kept c.clear.new.self
    (with_item c.self.inside.last c.from-index.result (Some c.in-Some-taken.call.number)) c.after_release-self-inside.result c.in_ok-outcome.outcome
answered g c =
    let one = same_call c.in-Some.call.now c.in-Some-taken.call c.from-index.result c.in-Some.ensures c.as_slice.ensures.value c.in-Some-taken.ensures.value in
    let done = ready c.in-Some.call.now.machine.progress c.is_full.result (sym c.in_ok-outcome.ensures.refusal) in
    record {
      outcome = c.in_ok-outcome.ensures.outcome ∙ ap (λ (k : OpenCall g.row.A.Denot). k.machine.progress.outcome) one;
      ends = ap (λ (k : OpenCall g.row.A.Denot). is_nil k.machine.progress.rest) (sym one) ∙ done.0;
      log_is = c.end_call-room.ensures.log ∙ ap (λ (l : List Record). l ++ Call c.args.session c.in-Some-taken.call.number c.in-Some-taken.call.procedure c.in-Some-taken.call.machine.args
          c.in_ok-outcome.outcome c.in-Some-taken.call.machine.progress.replies ∷ []) c.make_room.ensures.records;
      calls_are = c.in-Some-taken.ensures.some ∙ ap (λ i. slice_set c.self.inside.calls.items i None) c.from-index.ensures;
      versions = c.end_call-room.ensures.versions;
      collecting = λ (q : Bytes). c.end_call-room.ensures.collecting q ∙ ap (λ (k : KeySet). cond (c.in_ok-outcome.outcome == COMMITTED)
          (is_some (first_noted (map noted_of c.in-Some-taken.call.notes.items) q) || has k q) (has k q)) c.make_room.ensures.collecting;
      frozen = c.end_call-room.ensures.frozen ∙ c.make_room.ensures.frozen;
      locks_are = c.release_all.ensures ∙ ap (without_locks c.self.inside.locks) c.from-index.ensures;
      starts = c.clear.ensures ∙ ap (λ i. slice_set c.self.inside.active i None) c.from-index.ensures;
      last_is = ap (λ i. slice_set c.self.inside.last.items i (Some c.in-Some-taken.call.number)) c.from-index.ensures;
      most = c.end_call-room.ensures.most;
      keys = c.end_call-room.ensures.keys;
      aside_is = c.after_release-self-inside.ensures;
    }

pub invariant_of-self-in-Some-taken : goal.invariant_of-self-in-Some-taken
invariant_of-self-in-Some-taken g c =
    let at = (goal.at.invariant_of-self-in-Some-taken g c).After-clear in
    other_rooms _ (finish_core c.self.inside c.self.invariant c.args.session c.in-Some-taken.call (taken_open g at) _ _ _ _ _ _ _ _ _ (answered g at)) c.keep_room.new.rooms

pub returns-in-Some-taken-clause-finished : goal.returns-in-Some-taken-clause-finished
returns-in-Some-taken-clause-finished g c =
    let at = (goal.at.returns-in-Some-taken-clause-finished g c).After-clear in
    finish_view c.self.inside c.self.invariant c.args.session c.in-Some-taken.call (taken_open g at) _ _ _ _ _ _ _ _ _ (answered g at)
    c.end_call-room.ensures.slots c.end_call-room.ensures.same c.args.self.now c.self.view_is

pub returns-in_default-clause-refusal : goal.returns-in_default-clause-refusal
returns-in_default-clause-refusal g c =
    let none = found_at c.self.inside None c.from-index.ensures c.as_slice.ensures.value c.in_default.ensures in
    inl (absent_refusal c.self.inside c.self.invariant c.args.self.now c.self.view_is c.args.session none)

pub returns-in_err-outcome-clause-refusal : goal.returns-in_err-outcome-clause-refusal
returns-in_err-outcome-clause-refusal g c =
    let is = found_at c.self.inside (Some c.in-Some.call.now) c.from-index.ensures c.as_slice.ensures.value c.in-Some.ensures in
    let refusal = found_refusal c.self.inside c.self.invariant c.args.self.now c.self.view_is c.args.session c.in-Some.call.now is c.is_full.result c.is_full.ensures.value in
    subst (λ o. Answers o refused.NoMemory c.from_residual.result) (sym refusal) (search rules)

pub returns-in-Err-clause-refusal : goal.returns-in-Err-clause-refusal
returns-in-Err-clause-refusal g c =
    let is = found_at c.self.inside (Some c.in-Some.call.now) c.from-index.ensures c.as_slice.ensures.value c.in-Some.ensures in
    inr (found_refusal c.self.inside c.self.invariant c.args.self.now c.self.view_is c.args.session c.in-Some.call.now is c.is_full.result c.is_full.ensures.value ∙ sym c.in_ok-outcome.ensures.refusal, refl)

pub end_call-room-requires-clause-not_full : goal.end_call-room-requires-clause-not_full
end_call-room-requires-clause-not_full g c =
    let done = ready c.in-Some.call.now.machine.progress c.is_full.result (sym c.in_ok-outcome.ensures.refusal) in
    λ e. true≢false (sym (c.is_full.ensures.value.1 (ap length (sym c.make_room.ensures.records) ∙ e)) ∙ done.1)

pub returns-in-Some-taken-clause-place : goal.returns-in-Some-taken-clause-place
returns-in-Some-taken-clause-place g c =
    c.len-place.ensures ∙ ap length c.make_room.ensures.records ∙ ap (λ (v : CoreView). length v.log) c.self.view_is

pub returns-in-Some-taken-clause-refusal : goal.returns-in-Some-taken-clause-refusal
returns-in-Some-taken-clause-refusal g c =
    let is = found_at c.self.inside (Some c.in-Some.call.now) c.from-index.ensures c.as_slice.ensures.value c.in-Some.ensures in
    found_refusal c.self.inside c.self.invariant c.args.self.now c.self.view_is c.args.session c.in-Some.call.now is c.is_full.result c.is_full.ensures.value ∙ sym c.in_ok-outcome.ensures.refusal
