-- A core after a begin.
use Rattle.std.proofs.Common.{◌≡◌, ℕ, List, [], Option, Some, Vec, map, option_map, length, slice_get, slice_set, sym, ap, ◌∙◌, subst}
use Rattle.std.proofs.lemmas.List.{map-set}
use Rattle.procedure.specs.Bytes.{Bytes}
use Rattle.procedure.specs.Runs.{at_start}
use Rattle.phase.specs.Phases.{Starts}
use Rattle.commitlog.specs.Histories.{Takes, IsAbove, last_number, phase_of, code_of}
use Rattle.steps.specs.inside.CoreFields.{IsCore, underway, view_of}
use Rattle.steps.specs.CoreViews.{CoreView, Underway, with_call}
use Rattle.steps.specs.declared.calls.OpenCall.{OpenCall}
use Rattle.steps.specs.declared.cores.Core.TheInside.{Inside}
use Rattle.steps.proofs.sessions.AcceptedCalls.{MayBegin, unopened}
use Rattle.steps.proofs.views.CoreState.{begin_core, phase_is, with_calls}

module _ {A : Type 0} (c : Inside A) (ok : IsCore c) (v : CoreView) (same : view_of c ≡ v) (s n p : ℕ) (args : List Bytes) (call : OpenCall A) (calls : Vec (Option (OpenCall A)) A)
    (active : Starts) where
  abbrev begun_call : Underway
  begun_call = record { number = n; procedure = p; args = args; start = phase_of v.log; count = 0 }

  pub begun_core :
      MayBegin v s n p args → underway call ≡ begun_call → call.machine.progress ≡ at_start (code_of v.catalog p) → call.notes.items ≡ [] → calls.items ≡ slice_set c.calls.items s (Some call) →
      active ≡ slice_set c.active s (Some c.phase) → IsCore (with_calls c calls active)
  begun_core may is progress notes e f =
      let here = subst (λ (w : CoreView). MayBegin w s n p args) (sym same) may in
      let number = ap (λ (u : Underway). u.number) is in
      let procedure = ap (λ (u : Underway). u.procedure) is in
      let arguments = ap (λ (u : Underway). u.args) is in
      begin_core c ok s call calls active
      (record {
        start = ap (λ (u : Underway). u.start) is ∙ ap (λ (w : CoreView). phase_of w.log) (sym same) ∙ sym (phase_is c ok);
        count = ap (λ (u : Underway). u.count) is;
        progress = progress ∙ ap (λ (w : CoreView). at_start (code_of w.catalog p)) (sym same) ∙ ap (λ p. at_start (code_of c.catalog p)) (sym procedure);
        notes = notes;
      })
      here.session
      (unopened c s here.free)
      (subst (λ q. Takes (slice_get c.catalog q) (length call.machine.args)) (sym procedure) (subst (λ (l : List Bytes). Takes (slice_get c.catalog p) (length l)) (sym arguments) here.takes))
      (subst (λ m. IsAbove (last_number s c.log.records) m) (sym number) here.above)
      e
      f

  pub begun_view : underway call ≡ begun_call → calls.items ≡ slice_set c.calls.items s (Some call) → view_of (with_calls c calls active) ≡ with_call v s (Some begun_call)
  begun_view is e =
      ap (λ l. record (view_of c) { calls = map (option_map underway) l }) e
      ∙ ap (λ l. record (view_of c) { calls = l }) (map-set (option_map underway) c.calls.items s (Some call))
      ∙ ap (λ u. with_call (view_of c) s (Some u)) is
      ∙ ap (λ (w : CoreView). with_call w s (Some begun_call)) same
