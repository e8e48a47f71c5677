-- Records that are run again, one after another.
use Rattle.std.proofs.Common.{◌≡◌, ℕ, ◌+◌, ◌≤◌, ◌<◌, Bool, List, [], ◌∷◌, ◌++◌, length, take, drop, Ok, Err, Some, None, append_assoc, refl, sym, ap, ◌∙◌, subst, arith}
use Rattle.std.proofs.lemmas.List.{append-nil, length-append, length-drop, length-take, take-append-drop}
use Rattle.std.proofs.lemmas.Option.{slice_get_past}
use Rattle.std.specs.Prelude.{◌↔◌, slice_get}
use Rattle.std.proofs.Math.Seq.{take-append_seam}
use Rattle.procedure.specs.Table.{Table}
use Rattle.procedure.specs.Procedures.{Procedure}
use Rattle.commitlog.specs.Records.{Record, Token, Call}
use Rattle.commitlog.specs.Histories.{EachAfter, after, table_after, IsAnsweredAfter}
use Rattle.commitlog.proofs.Histories.{each-push, after-push}
use Rattle.commitlog.proofs.Fields.{some_is}
use Rattle.commitlog.proofs.Lists.{slice_get-seam}
use Rattle.replay.specs.Parts.{EntryAgain, RunAgain, at_place}
use Rattle.replay.specs.Replays.{IsAnsweredOn, LeavesFewOn, RunsAgain, IsFirst, calls_in}
use Rattle.replay.specs.declared.calls.CallError.{CallError}
use Rattle.replay.specs.declared.errors.RecoverError.{RecoverError}
use Rattle.replay.specs.declared.calls.CallError.TheVariants as stopped

pub answered_after : (c : List Procedure) (t : Table) (l : List Record) (r : Record) → IsAnsweredOn c (after c t l) r → IsAnsweredAfter c t l r
answered_after c t l (Token p n) h = tt
answered_after c t l (Call s n p args o r) h = h

pub answered_on : (c : List Procedure) (t : Table) (l : List Record) (r : Record) → IsAnsweredAfter c t l r → IsAnsweredOn c (after c t l) r
answered_on c t l (Token p n) h = tt
answered_on c t l (Call s n p args o r) h = h

pub calls_in-push : (l : List Record) (r : Record) → calls_in (l ++ r ∷ []) ≡ calls_in l + calls_in (r ∷ [])
calls_in-push [] r = omega arith
calls_in-push (Token p n ∷ l) r = calls_in-push l r
calls_in-push (Call s n p args o x ∷ l) r = let h = calls_in-push l r in omega arith

pub calls_within : (l : List Record) → calls_in l ≤ length l
calls_within [] = omega arith
calls_within (Token p n ∷ l) = let h = calls_within l in omega arith
calls_within (Call s n p args o x ∷ l) = let h = calls_within l in omega arith

pub one_call : (r : Record) → calls_in (r ∷ []) ≤ 1
one_call (Token p n) = omega arith
one_call (Call s n p args o r) = omega arith

module _ {P F : List Record → Record → Type 0} where
  -- the first that is as F says stands behind those before it
  pub first_behind : (done left : List Record) (r : Record) → EachAfter P done → F done r → IsFirst P F (done ++ r ∷ left) (length done)
  first_behind done left r each fault =
      let same = take-append_seam done (r ∷ left) in
      record {
        here = r;
        stands = slice_get-seam done r left;
        before = subst (EachAfter P) (sym same) each;
        fault = subst (λ l. F l r) (sym same) fault;
      }

-- what stands at a place is the first of those from it on
pub first_from : (l : List Record) (k : ℕ) (r : Record) (rest : List Record) → drop k l ≡ r ∷ rest → slice_get l k ≡ Some r
first_from l k r rest e =
    let within : k < length l = omega (arith, ap (λ (x : List Record). length x) e, length-drop k l) in
    let len : length (take k l) ≡ k = omega (arith, length-take k l) in
    ap (λ (x : List Record). slice_get x k) (sym (take-append-drop k l) ∙ ap (λ (x : List Record). take k l ++ x) e)
    ∙ ap (slice_get (take k l ++ r ∷ rest)) (sym len) ∙ slice_get-seam (take k l) r rest

pub none_from : (l : List Record) (k : ℕ) → drop k l ≡ [] → slice_get l k ≡ None
none_from l k e = slice_get_past l k (omega (arith, ap (λ (x : List Record). length x) e, length-drop k l))

-- whether a record is the one that stands there
pub stands_there : (l : List Record) (k : ℕ) (r t : Record) → slice_get l k ≡ Some r → (r ≡ t) ↔ (slice_get l k ≡ Some t)
stands_there l k r t e = (λ same. e ∙ ap (λ (x : Record). Some x) same, λ there. some_is r t (sym e ∙ there))

pub stands_not : (l : List Record) (k : ℕ) (t : Record) → slice_get l k ≡ None → slice_get l k ≡ Some t → ⊥
stands_not l k t e there = cc

-- the records from place k on are run again, as far as these
pub record SoFar (c : List Procedure) (t : Table) (k : ℕ) (all left : List Record) (u : Table) (n p : ℕ) : Type 0 where
  pub done : List Record
  pub parts : drop k all ≡ done ++ left
  pub place : p ≡ k + length done
  pub again : EachAfter (RunsAgain c t) done
  pub table : u ≡ after c t done
  pub calls : n ≡ calls_in done

module _ (c : List Procedure) (t : Table) (k : ℕ) (all : List Record) where
  pub at_first : SoFar c t k all (drop k all) t 0 k
  unfolding after
  at_first = record { done = []; parts = refl; place = omega arith; again = λ i r e. absurd (cc); table = refl; calls = refl }

  -- the next of them is this record
  pub next_is : (l left : List Record) (next r : Record) (u : Table) (n p : ℕ) → l ≡ next ∷ left → r ≡ next → SoFar c t k all l u n p → SoFar c t k all (r ∷ left) u n p
  next_is l left next r u n p is same s = subst (λ x. SoFar c t k all x u n p) (is ∙ ap (λ y. y ∷ left) (sym same)) s

  module _ (r : Record) (left : List Record) (u : Table) (n p : ℕ) (s : SoFar c t k all (r ∷ left) u n p) where
    -- one that runs again goes with them
    pub run_on : (v : Table) (m : ℕ) → m ≡ calls_in (r ∷ []) → EntryAgain c u r (Ok v) → SoFar c t k all left v (n + m) (p + 1)
    run_on v m counted ran = record {
      done = s.done ++ r ∷ [];
      parts = s.parts ∙ sym (append_assoc s.done (r ∷ []) left);
      place = omega (arith, s.place, length-append s.done (r ∷ []));
      again = each-push (RunsAgain c t) s.done r s.again
          (answered_after c t s.done r (subst (λ (x : Table). IsAnsweredOn c x r) s.table ran.0), subst (λ (x : Table). LeavesFewOn c x r) s.table ran.1);
      table = ran.2 ∙ ap (λ (x : Table). table_after c x r) s.table ∙ sym (after-push c t s.done r);
      calls = (λ i. s.calls i + counted i) ∙ sym (calls_in-push s.done r);
    }

    first : {F : List Record → Record → Type 0} → F s.done r → IsFirst (RunsAgain c t) F (drop k all) (length s.done)
    first {F} fault = subst (λ x. IsFirst (RunsAgain c t) F x (length s.done)) (sym s.parts) (first_behind s.done left r s.again fault)

    stops_at : (torn : Bool) (e : CallError) → EntryAgain c u r (Err e) → RunAgain c t k all torn (Err (at_place e p))
    stops_at torn stopped.Diverged h =
        (length s.done, first (λ a. h (subst (λ (x : Table). IsAnsweredOn c x r) (sym s.table) (answered_on c t s.done r a))), s.place)
    stops_at torn stopped.TooMany h = (
      length s.done,
      first
          (answered_after c t s.done r (subst (λ (x : Table). IsAnsweredOn c x r) s.table h.0), λ few. h.1 (subst (λ (x : Table). LeavesFewOn c x r) (sym s.table) few)),
    )
    stops_at torn stopped.NoMemory h = tt

    -- one that doesn't stops the run
    pub stops : (torn : Bool) (e : CallError) (x : RecoverError) → x ≡ at_place e p → EntryAgain c u r (Err e) → RunAgain c t k all torn (Err x)
    stops torn e x is h = subst (λ y. RunAgain c t k all torn (Err y)) (sym is) (stops_at torn e h)

    -- the counts stay below that of all records
    pub counts : (n + 1 ≤ length all) × (p + 1 ≤ length all)
    counts =
        let some = ap (λ (l : List Record). length l) s.parts in
        let all_left = length-drop k all in
        let both = length-append s.done (r ∷ left) in
        let few = calls_within s.done in
        (omega (arith, s.calls, some, all_left, both, few), omega (arith, s.place, some, all_left, both))

  pub ends : (u : Table) (n p : ℕ) (torn : Bool) → SoFar c t k all [] u n p → RunAgain c t k all torn (Ok (record { state = u; calls = n; torn = torn }))
  ends u n p torn s =
      let same : s.done ≡ drop k all = sym (append-nil s.done) ∙ sym s.parts in (
        subst (EachAfter (RunsAgain c t)) same s.again,
        λ i. record { state = (s.table ∙ ap (after c t) same) i; calls = (s.calls ∙ ap calls_in same) i; torn = torn },
      )
