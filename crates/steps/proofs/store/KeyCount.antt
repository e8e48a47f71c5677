-- A map from keys that have records has at most as many keys as the store has records.
use Rattle.std.proofs.Common.{◌≡◌, ℕ, zero, suc, ◌+◌, ◌-◌, ◌<◌, ◌≤◌, ◌⊎◌, inl, inr, arith, Bool, true, false, cond, List, [], ◌∷◌, ◌++◌, length, reverse, Option, Some, None, is_some, option_map, slice_index_or, refl, sym, ap, ◌∙◌, subst, true≢false}
use Rattle.std.proofs.lemmas.List.{take-append-le, take_all, length-append}
use Rattle.std.proofs.lemmas.List.Sums.{sum_by-cons}
use Rattle.std.proofs.lemmas.Bool.{cases_lt}
use Rattle.std.specs.Ordering.{eq_by_cmp}
use Rattle.std.specs.FinMap as fin
use Rattle.std.specs.Cmp.Lexicographic.{nat_list_cmp_total}
use Rattle.procedure.specs.Bytes.{Bytes, Cell, same}
use Rattle.procedure.specs.Procedures.{Procedure}
use Rattle.procedure.specs.Table.{KeyMap, Table, change_at, value_at}
use Rattle.procedure.proofs.Base.{keys, same_refl}
use Rattle.image.proofs.Rising.{by_bytes}
use Rattle.commitlog.specs.Histories as log
use Rattle.commitlog.specs.Records.{Record}
use Rattle.record_store.proofs.Versions.{version_of-new}
use Rattle.record_store.specs.Stores as store
use Rattle.record_store.specs.Versions as stored
use Rattle.record_store.specs.declared.limits.TheConstants.{STORE_RECORDS}
use Rattle.steps.specs.inside.CoreFields.{SameCall}
use Rattle.steps.specs.CoreViews.{IsSmall}
use Rattle.steps.specs.Versions.{key_versions, versions_in, KeyVersions, live_version}
use Rattle.steps.specs.machine.Invariant.{Invariant}
use Rattle.steps.specs.machine.Machine.{CallsBySession, Open, State, now}
use Rattle.steps.specs.declared.calls.OpenCall.{OpenCall}
use Rattle.steps.proofs.log.OldestFirst.{after-reverse}
use Rattle.steps.proofs.machine.OpenCalls.{none_some}

-- KEYS, EACH WITH A RECORD

version_of-vacant : (slots : store.Slots) (q : Bytes) → stored.version_of (None ∷ slots) q ≡ stored.version_of slots q
unfolding stored.version_of
version_of-vacant slots q = refl

version_of-other : (r : store.StoreRecord) (slots : store.Slots) (q : Bytes) → same q r.key ≡ false → stored.version_of (Some r ∷ slots) q ≡ stored.version_of slots q
unfolding stored.version_of
version_of-other r slots q e = ap (λ b. cond b (Some (stored.version r)) (stored.version_of slots q)) e

absent : {X : Type 0} (o : Option X) → (is_some o ≡ true → ⊥) → o ≡ None
absent None f = refl
absent (Some x) f = absurd (f refl)

pub same_is : (q k : Bytes) → same q k ≡ eq_by_cmp by_bytes q k
unfolding same
same_is q k = refl

at_most_one : (b : Bool) (n m k : ℕ) → n ≡ cond b (m - 1) m → n ≤ k → m ≤ 1 + k
at_most_one true n m k e le = omega (arith, e, le)
at_most_one false n m k e le = omega (arith, e, le)

-- no more keys than records
pub few_keys : {V : Type 0} (slots : store.Slots) (m : KeyMap V) → ((q : Bytes) → is_some (fin.get m q) ≡ true → is_some (stored.version_of slots q) ≡ true) → fin.len m ≤ store.records slots
few_keys {V} [] m f =
    let none : m ≡ fin.empty =
    fin.same_map nat_list_cmp_total (fin.slice_cmp-IsAntisymmetric fin.nat_cmp-IsAntisymmetric) m fin.empty
    (λ q. absent (fin.get m q) (λ e. true≢false (sym (f q e) ∙ ap is_some (version_of-new q))) ∙ sym (fin.get-empty by_bytes q)) in
    subst (λ n. n ≤ 0) (sym (ap fin.len none ∙ fin.len-empty by_bytes V)) (omega arith)
few_keys (None ∷ slots) m f = few_keys slots m (λ q e. sym (ap is_some (version_of-vacant slots q)) ∙ f q e)
few_keys (Some r ∷ slots) m f =
    let less = few_keys slots (fin.remove m r.key) (λ q e. elim (keys q r.key) [
      | inl is ↦
          absurd
          (true≢false (sym e ∙ ap is_some (fin.get-remove nat_list_cmp_total m r.key q ∙ ap (λ b. cond b None (fin.get m q)) (sym (same_is q r.key) ∙ ap (λ k. same k r.key) is ∙ same_refl r.key))))
      | inr n ↦
          sym (ap is_some (version_of-other r slots q n)) ∙ f q (sym (ap is_some (fin.get-remove nat_list_cmp_total m r.key q ∙ ap (λ b. cond b None (fin.get m q)) (sym (same_is q r.key) ∙ n))) ∙ e)
    ]) in
    subst (λ n. fin.len m ≤ n) (sym (sum_by-cons (λ (o : Option store.StoreRecord). cond (is_some o) 1 0) (Some r) slots))
    (at_most_one (fin.contains_key m r.key) (fin.len (fin.remove m r.key)) (fin.len m) (store.records slots) (fin.len-remove nat_list_cmp_total m r.key) less)

-- EACH KEY OF THE TABLE NOW HAS A RECORD

record Changed (calls : CallsBySession) (q : Bytes) : Type 0 where
  session : ℕ
  call : Open
  cell : Cell
  is : calls session ≡ Some call
  change : change_at call.machine.changes q ≡ Some cell

abbrev NoneBelow : CallsBySession → Bytes → ℕ → Type 0
NoneBelow calls q n = (s : ℕ) (c : Open) → s < n → calls s ≡ Some c → change_at c.machine.changes q ≡ None

one_below : (calls : CallsBySession) (q : Bytes) (n : ℕ) → ((c : Open) → calls n ≡ Some c → change_at c.machine.changes q ≡ None) → NoneBelow calls q n → NoneBelow calls q (suc n)
one_below calls q n here below s c lt is =
    elim (cases_lt s n) [
      | inl less ↦ below s c less is
      | inr ge ↦ let e : n ≡ s = omega (arith, lt, ge) in here c (ap calls e ∙ is)
    ]

changed_or_not : (calls : CallsBySession) (q : Bytes) (n : ℕ) → Changed calls q ⊎ NoneBelow calls q n
changed_or_not calls q zero = inr (λ s c lt. absurd (omega (arith, lt)))
changed_or_not calls q (suc n) = look (calls n) refl (changed_or_not calls q n)
  where
    at : (c : Open) → calls n ≡ Some c → (x : Option Cell) → change_at c.machine.changes q ≡ x → NoneBelow calls q n → Changed calls q ⊎ NoneBelow calls q (suc n)
    at c is None e below = inr (one_below calls q n (λ d f. let one : Some c ≡ Some d = sym is ∙ f in let two : c ≡ d = cc in ap (λ (o : Open). change_at o.machine.changes q) (sym two) ∙ e) below)
    at c is (Some x) e below = inl (record { session = n; call = c; cell = x; is = is; change = e })

    look : (o : Option Open) → calls n ≡ o → Changed calls q ⊎ NoneBelow calls q n → Changed calls q ⊎ NoneBelow calls q (suc n)
    look o e (inl x) = inl x
    look None e (inr below) = inr (one_below calls q n (λ c f. none_some (sym e ∙ f)) below)
    look (Some c) e (inr below) = at c e (change_at c.machine.changes q) refl below

lives : (o : Option KeyVersions) → is_some (live_version o) ≡ true → is_some o ≡ true
lives None e = e
lives (Some v) e = refl

has_record : (w : State) → Invariant w → (n : ℕ) → ((s : ℕ) → n ≤ s → w.calls s ≡ None) → (q : Bytes) → is_some (value_at (now w) q) ≡ true → is_some (w.versions q) ≡ true
has_record w g n beyond q e =
    elim (changed_or_not w.calls q n) [
      | inl x ↦ ap is_some (g.lives.own x.session x.call x.is q x.cell x.change).1
      | inr below ↦ lives (w.versions q) (ap is_some (g.lives.table q (λ s c is. elim (cases_lt s n) [
        | inl less ↦ below s c less is
        | inr ge ↦ none_some (sym (beyond s (omega (arith, ge))) ∙ is)
      ])) ∙ e)
    ]

shown_some : (o : Option stored.Version) → is_some (option_map key_versions o) ≡ true → is_some o ≡ true
shown_some None e = e
shown_some (Some v) e = refl

pub version_there : (slots : store.Slots) (q : Bytes) → is_some (versions_in slots q) ≡ true → is_some (stored.version_of slots q) ≡ true
unfolding versions_in
version_there slots q e = shown_some (stored.version_of slots q) e

pub small_now :
    (w : State) → Invariant w → (n : ℕ) → ((s : ℕ) → n ≤ s → w.calls s ≡ None) → (slots : store.Slots) → ((q : Bytes) → w.versions q ≡ versions_in slots q) → store.records slots ≤ STORE_RECORDS →
    fin.len (now w) ≤ STORE_RECORDS
small_now w g n beyond slots versions most =
    let le = few_keys slots (now w) (λ q e. version_there slots q (sym (ap is_some (versions q)) ∙ has_record w g n beyond q e)) in
    omega (arith, le, most)

-- THE FRONTS OF A LOG

pub small_more : (c : List Procedure) (t : Table) (l : List Record) (r : Record) → IsSmall c t l → fin.len (log.after c t (l ++ r ∷ [])) ≤ STORE_RECORDS → IsSmall c t (l ++ r ∷ [])
small_more c t l r small whole k =
    elim (cases_lt (length l) k) [
      | inl more ↦ subst (λ h. fin.len (log.after c t h) ≤ STORE_RECORDS) (sym (take_all k (l ++ r ∷ []) (let n = length-append l (r ∷ []) in omega (arith, n, more)))) whole
      | inr le ↦ subst (λ h. fin.len (log.after c t h) ≤ STORE_RECORDS) (sym (take-append-le k l (r ∷ []) (omega (arith, le)))) (small k)
    ]

pub small_none : (c : List Procedure) (t : Table) → fin.len t ≤ STORE_RECORDS → IsSmall c t []
unfolding log.after
small_none c t le zero = le
small_none c t le (suc k) = le

-- the table after the log, of a state that stands for it
pub now_as : (w : State) (c : List Procedure) (t : Table) (l : List Record) → w.catalog ≡ c → w.opening ≡ t → reverse w.log ≡ l → now w ≡ log.after c t l
now_as w c t l e f h =
    sym (after-reverse w.catalog w.opening w.log) ∙ ap (λ k. log.after k w.opening (reverse w.log)) e ∙ ap (λ u. log.after c u (reverse w.log)) f ∙ ap (log.after c t) h

module _ {A : Type 0} where
  none_of : (k : Option (OpenCall A)) (o : Option Open) → k ≡ None → SameCall k o → o ≡ None
  none_of None None e x = refl
  none_of None (Some o) e x = absurd x
  none_of (Some k) o e x = absurd (cc)

  past_end : (l : List (Option (OpenCall A))) (s : ℕ) → length l ≤ s → slice_index_or l s None ≡ None
  past_end [] s le = refl
  past_end (x ∷ l) zero le = absurd (omega (arith, le))
  past_end (x ∷ l) (suc s) le = past_end l s (omega (arith, le))

  -- no call is open past the places of the sessions
  pub beyond : (l : List (Option (OpenCall A))) (calls : CallsBySession) → ((s : ℕ) → SameCall (slice_index_or l s None) (calls s)) → (s : ℕ) → length l ≤ s → calls s ≡ None
  beyond l calls same s le = none_of (slice_index_or l s None) (calls s) (past_end l s le) (same s)
