-- What holds where a call isn't refused.
use Rattle.std.proofs.Common.{◌≡◌, ℕ, ◌<◌, Bool, true, false, List, length, Option, Some, None, IsTrue, is_some, is_none, nat_lt, option_map, slice_get, refl, sym, ◌∙◌}
use Rattle.std.specs.Option.{option_or}
use Rattle.std.proofs.lemmas.Bool.{ltb-true, eqb-true}
use Rattle.std.proofs.Math.ListN.{get_or-map}
use Rattle.procedure.specs.Bytes.{Bytes}
use Rattle.procedure.specs.Procedures.{Procedure}
use Rattle.procedure.specs.declared.limits.TheConstants.{SESSIONS}
use Rattle.commitlog.specs.Histories.{Takes, IsAbove, last_number}
use Rattle.steps.specs.inside.CoreFields.{call_at, underway, view_of}
use Rattle.steps.specs.CoreViews.{CoreView, Underway, open_at}
use Rattle.steps.specs.Refusals.{refused_unless, takes, all_fit, is_above, begin_refusal}
use Rattle.steps.specs.declared.calls.OpenCall.{OpenCall}
use Rattle.steps.specs.declared.cores.Core.TheInside.{Inside}

-- where a test that refuses lets a call go on, it holds, and the rest refuses nothing
pub passes : {E : Type 0} (b : Bool) (e : E) (r : Option E) → option_or (refused_unless b e) r ≡ None → (b ≡ true) × (r ≡ None)
passes true e r is = (refl, is)
passes false e r is = absurd (cc)

pub record MayBegin (v : CoreView) (s n p : ℕ) (args : List Bytes) : Type 0 where
  pub session : s < SESSIONS
  pub takes : Takes (slice_get v.catalog p) (length args)
  pub fits : IsTrue (all_fit args)
  pub free : open_at v s ≡ None
  pub above : IsAbove (last_number s v.log) n

does_take : (o : Option Procedure) (n : ℕ) → takes o n ≡ true → Takes o n
does_take None n e = absurd (cc)
does_take (Some p) n e = eqb-true p.arity n e

does_rise : (o : Option ℕ) (n : ℕ) → is_above o n ≡ true → IsAbove o n
does_rise None n e = tt
does_rise (Some m) n e = ltb-true m n e

is_free : (o : Option Underway) → is_none o ≡ true → o ≡ None
is_free None e = refl
is_free (Some c) e = absurd (cc)

last_test : {E : Type 0} (b : Bool) (e : E) → refused_unless b e ≡ None → b ≡ true
last_test true e is = refl
last_test false e is = absurd (cc)

pub may_begin : (v : CoreView) (s n p : ℕ) (args : List Bytes) → begin_refusal v s n p args ≡ None → MayBegin v s n p args
may_begin v s n p args e =
    let one = passes (nat_lt s SESSIONS) _ _ e in
    let two = passes (is_some (slice_get v.catalog p)) _ _ one.1 in
    let three = passes (takes (slice_get v.catalog p) (length args)) _ _ two.1 in
    let four = passes (all_fit args) _ _ three.1 in
    let five = passes (is_none (open_at v s)) _ _ four.1 in
    record {
      session = ltb-true s SESSIONS one.0;
      takes = does_take (slice_get v.catalog p) (length args) three.0;
      fits = four.0;
      free = is_free (open_at v s) five.0;
      above = does_rise (last_number s v.log) n (last_test (is_above (last_number s v.log) n) _ five.1);
    }

module _ {A : Type 0} where
  -- what the view shows of a session's call
  pub shown_at : (c : Inside A) (s : ℕ) → open_at (view_of c) s ≡ option_map underway (call_at c s)
  shown_at c s = get_or-map (option_map underway) c.calls.items s None

  pub unopened : (c : Inside A) (s : ℕ) → open_at (view_of c) s ≡ None → call_at c s ≡ None
  unopened c s e = by (call_at c s) (sym (shown_at c s) ∙ e)
    where
      by : (o : Option (OpenCall A)) → option_map underway o ≡ None → o ≡ None
      by None e = refl
      by (Some k) e = absurd (cc)
