-- Records that are audited, one after another.
use Rattle.std.proofs.Common.{◌≡◌, ◌⊎◌, inl, inr, ℕ, ◌+◌, ◌≤◌, Bool, true, true≢false, List, [], ◌∷◌, ◌++◌, length, Ok, Err, append_assoc, refl, sym, ap, ◌∙◌, subst, arith}
use Rattle.std.specs.declared.result.Result.{Result}
use Rattle.std.proofs.Math.Logic.{⊎_map}
use Rattle.std.proofs.lemmas.List.{append-nil, length-append}
use Rattle.procedure.specs.Bytes.{Bytes}
use Rattle.procedure.specs.Table.{Table}
use Rattle.procedure.specs.Procedures.{Procedure}
use Rattle.commitlog.specs.Records.{Record}
use Rattle.commitlog.specs.Histories.{EachAfter, after, table_after}
use Rattle.commitlog.specs.declared.formats.Version.{Version}
use Rattle.commitlog.specs.declared.formats.LogHeader.{LogHeader}
use Rattle.commitlog.specs.declared.decoding.Ending.{Ending}
use Rattle.commitlog.specs.declared.decoding.LogError.{LogError}
use Rattle.commitlog.proofs.Histories.{each-push, after-push}
use Rattle.image.specs.Images.{Image}
use Rattle.image.specs.Merges.{table_of}
use Rattle.image.specs.Openings.{is_opening}
use Rattle.replay.proofs.Answering.{ToBytes, one_of_bytes}
use Rattle.replay.specs.Parts.{AreAudited, EntryAgain, audited_at}
use Rattle.replay.specs.Replays.{IsAnsweredOn, LeavesFewOn, Diverges, Overflows, IsFirst, calls_in, is_torn}
use Rattle.replay.specs.Headers.{NamesCatalog, NamesOpening}
use Rattle.replay.specs.Orders.{IsAfter, IsInOrder}
use Rattle.replay.specs.Refusals.{audit_of_log}
use Rattle.replay.specs.Audits.{FailsAt, InOrderBut, IsAudit, IsOutOfOrder, NamesBoth, OfLog, Passes}
use Rattle.replay.specs.declared.audits.Audited.{Audited}
use Rattle.replay.specs.declared.calls.CallError.{CallError}
use Rattle.replay.specs.declared.calls.CallError.TheVariants as stopped
use Rattle.replay.specs.declared.errors.AuditError.{AuditError}
use Rattle.replay.specs.declared.errors.AuditError.TheVariants as refused
use Rattle.replay.specs.declared.orders.Order.{Order}
use Rattle.replay.proofs.Firsts.{Excludes, each_or_first, same_first, one_fault}
use Rattle.replay.proofs.Reruns.{answered_after, answered_on, calls_in-push, calls_within, first_behind}

-- the records so far pass
pub record PassSoFar (c : List Procedure) (t : Table) (all left : List Record) (u : Table) (o : Order) (n p : ℕ) : Type 0 where
  pub done : List Record
  pub parts : all ≡ done ++ left
  pub place : p ≡ length done
  pub passed : EachAfter (Passes c t) done
  pub order : IsAfter o done
  pub table : u ≡ after c t done
  pub calls : n ≡ calls_in done

module _ (c : List Procedure) (t : Table) (all : List Record) where
  pub none_yet : (o : Order) → IsAfter o [] → PassSoFar c t all all t o 0 0
  unfolding after
  none_yet o is = record { done = []; parts = refl; place = refl; passed = λ i r e. absurd (cc); order = is; table = refl; calls = refl }

  -- the next of them is this record
  pub next_is : (l left : List Record) (next r : Record) (u : Table) (o : Order) (n p : ℕ) → l ≡ next ∷ left → r ≡ next → PassSoFar c t all l u o n p → PassSoFar c t all (r ∷ left) u o n p
  next_is l left next r u o n p is same s = subst (λ x. PassSoFar c t all x u o n p) (is ∙ ap (λ y. y ∷ left) (sym same)) s

  module _ (r : Record) (left : List Record) (u : Table) (o : Order) (n p : ℕ) (s : PassSoFar c t all (r ∷ left) u o n p) where
    first : {F : List Record → Record → Type 0} → F s.done r → IsFirst (Passes c t) F all p
    first {F} fault =
        subst (λ l. IsFirst (Passes c t) F l p) (sym s.parts)
        (subst (λ j. IsFirst (Passes c t) F (s.done ++ r ∷ left) j) (sym s.place) (first_behind s.done left r s.passed fault))

    -- one that is out of order stops the audit
    pub disorder : (torn : Bool) → (IsInOrder s.done r → ⊥) → AreAudited c t all torn (Err (refused.Disorder p))
    disorder torn out = first out

    module _ (in_order : IsInOrder s.done r) where
      fails_at : (torn : Bool) (e : CallError) → EntryAgain c u r (Err e) → AreAudited c t all torn (Err (audited_at e p))
      fails_at torn stopped.Diverged h = first (in_order, λ a. h (subst (λ (x : Table). IsAnsweredOn c x r) (sym s.table) (answered_on c t s.done r a)))
      fails_at torn stopped.TooMany h = (
        p,
        first
            (in_order, (answered_after c t s.done r (subst (λ (x : Table). IsAnsweredOn c x r) s.table h.0), λ few. h.1 (subst (λ (x : Table). LeavesFewOn c x r) (sym s.table) few))),
      )
      fails_at torn stopped.NoMemory h = tt

      -- so does one that doesn't run again
      pub fails : (torn : Bool) (e : CallError) (x : AuditError) → x ≡ audited_at e p → EntryAgain c u r (Err e) → AreAudited c t all torn (Err x)
      fails torn e x is h = subst (λ y. AreAudited c t all torn (Err y)) (sym is) (fails_at torn e h)

      -- and one that passes goes with them
      pub pass_on : (v : Table) (o' : Order) (m : ℕ) → IsAfter o' (s.done ++ r ∷ []) → m ≡ calls_in (r ∷ []) → EntryAgain c u r (Ok v) → PassSoFar c t all left v o' (n + m) (p + 1)
      pass_on v o' m is counted ran = record {
        done = s.done ++ r ∷ [];
        parts = s.parts ∙ sym (append_assoc s.done (r ∷ []) left);
        place = omega (arith, s.place, length-append s.done (r ∷ []));
        passed = each-push (Passes c t) s.done r s.passed
            (in_order, (answered_after c t s.done r (subst (λ (x : Table). IsAnsweredOn c x r) s.table ran.0), subst (λ (x : Table). LeavesFewOn c x r) s.table ran.1));
        order = is;
        table = ran.2 ∙ ap (λ (x : Table). table_after c x r) s.table ∙ sym (after-push c t s.done r);
        calls = (λ i. s.calls i + counted i) ∙ sym (calls_in-push s.done r);
      }

  pub all_pass : (u : Table) (o : Order) (n p : ℕ) (torn : Bool) → PassSoFar c t all [] u o n p → AreAudited c t all torn (Ok (record { records = p; calls = n; torn = torn }))
  all_pass u o n p torn s =
      let same : s.done ≡ all = sym (append-nil s.done) ∙ sym s.parts in
      (subst (λ x. EachAfter (Passes c t) x) same s.passed, λ i. record { records = (s.place ∙ ap length same) i; calls = (s.calls ∙ ap calls_in same) i; torn = torn })

  pub counts : (left : List Record) (u : Table) (o : Order) (n p : ℕ) → PassSoFar c t all left u o n p → (n ≤ p) × (p + length left ≡ length all)
  counts left u o n p s = (omega (arith, s.calls, s.place, calls_within s.done), omega (arith, s.place, ap length s.parts, length-append s.done left))

module _ (c : List Procedure) (i : Image) (v : Version) (h : LogHeader) (l : List Record) (e : Ending) (names : NamesBoth c i v h) where
  audit_of_log_is : (x : Result Audited AuditError) → AreAudited c (table_of i) l (is_torn e) x → OfLog c i v h l e x ⊎ (x ≡ Err refused.NoMemory)
  audit_of_log_is (Ok r) a = inl (names, a.0, a.1)
  audit_of_log_is (Err (refused.Disorder j)) a = inl (names, a)
  audit_of_log_is (Err (refused.Diverged j)) a = inl (names, a)
  audit_of_log_is (Err refused.TooMany) a = inl (names, a.0, a.1)
  audit_of_log_is (Err refused.NoMemory) a = inr refl
  audit_of_log_is (Err refused.NotAnOpening) a = absurd a
  audit_of_log_is (Err refused.NotALog) a = absurd a
  audit_of_log_is (Err (refused.Damaged j)) a = absurd a
  audit_of_log_is (Err refused.WrongCatalog) a = absurd a
  audit_of_log_is (Err refused.WrongOpening) a = absurd a

  pub audits_of_log : (t : Table) (torn : Bool) (x : Result Audited AuditError) → t ≡ table_of i → torn ≡ is_torn e → AreAudited c t l torn x →
      OfLog c i v h l e x ⊎ (x ≡ Err refused.NoMemory)
  audits_of_log t torn x table_is torn_is a =
      audit_of_log_is x
      (subst (λ (u : Table). AreAudited c u l (is_torn e) x) table_is
      (subst (λ (b : Bool). AreAudited c t l b x) torn_is a))

-- ---- nothing else

module _ (c : List Procedure) (t : Table) where
  disorder_fails : Excludes (Passes c t) IsOutOfOrder
  disorder_fails l r pass out = out pass.0

  diverged_fails : Excludes (Passes c t) (InOrderBut (Diverges c t))
  diverged_fails l r pass other = other.1 pass.1.0

  overflow_fails : Excludes (Passes c t) (InOrderBut (Overflows c t))
  overflow_fails l r pass full = full.1.1 pass.1.1

  disorder_or_diverged : Excludes IsOutOfOrder (InOrderBut (Diverges c t))
  disorder_or_diverged l r out other = out other.0

  disorder_or_overflow : Excludes IsOutOfOrder (InOrderBut (Overflows c t))
  disorder_or_overflow l r out full = out full.0

  diverged_or_overflow : Excludes (InOrderBut (Diverges c t)) (InOrderBut (Overflows c t))
  diverged_or_overflow l r other full = other.1 full.1.0

-- what checking the records gives
data Ran (c : List Procedure) (i : Image) (l : List Record) (e : Ending) (x : Result Audited AuditError) : Type 0 where
  pass : EachAfter (Passes c (table_of i)) l → x ≡ Ok (record { records = length l; calls = calls_in l; torn = is_torn e }) → Ran c i l e x
  out_of_order : (j : ℕ) → FailsAt IsOutOfOrder c i l j → x ≡ Err (refused.Disorder j) → Ran c i l e x
  diverged : (j : ℕ) → FailsAt (InOrderBut (Diverges c (table_of i))) c i l j → x ≡ Err (refused.Diverged j) → Ran c i l e x
  overflowed : (j : ℕ) → FailsAt (InOrderBut (Overflows c (table_of i))) c i l j → x ≡ Err refused.TooMany → Ran c i l e x

module _ (c : List Procedure) (i : Image) (l : List Record) (e : Ending) where
  -- the first fault is one, so that no two kinds of run are
  disordered_or_diverged : (j k : ℕ) → FailsAt IsOutOfOrder c i l j → FailsAt (InOrderBut (Diverges c (table_of i))) c i l k → ⊥
  disordered_or_diverged j k f g = one_fault l j k (disorder_fails c (table_of i)) (diverged_fails c (table_of i)) (disorder_or_diverged c (table_of i)) f g

  disordered_or_overflowed : (j k : ℕ) → FailsAt IsOutOfOrder c i l j → FailsAt (InOrderBut (Overflows c (table_of i))) c i l k → ⊥
  disordered_or_overflowed j k f g = one_fault l j k (disorder_fails c (table_of i)) (overflow_fails c (table_of i)) (disorder_or_overflow c (table_of i)) f g

  diverged_or_overflowed : (j k : ℕ) → FailsAt (InOrderBut (Diverges c (table_of i))) c i l j → FailsAt (InOrderBut (Overflows c (table_of i))) c i l k → ⊥
  diverged_or_overflowed j k f g = one_fault l j k (diverged_fails c (table_of i)) (overflow_fails c (table_of i)) (diverged_or_overflow c (table_of i)) f g

  one_run : (x y : Result Audited AuditError) → Ran c i l e x → Ran c i l e y → x ≡ y
  one_run x y (pass m p) (pass n q) = p ∙ sym q
  one_run x y (pass m p) (out_of_order k g q) = absurd (each_or_first (disorder_fails c (table_of i)) l k m g)
  one_run x y (pass m p) (diverged k g q) = absurd (each_or_first (diverged_fails c (table_of i)) l k m g)
  one_run x y (pass m p) (overflowed k g q) = absurd (each_or_first (overflow_fails c (table_of i)) l k m g)
  one_run x y (out_of_order j f p) (pass n q) = absurd (each_or_first (disorder_fails c (table_of i)) l j n f)
  one_run x y (out_of_order j f p) (out_of_order k g q) =
      p ∙ ap (λ n. Err (refused.Disorder n)) (same_first l j k (disorder_fails c (table_of i)) (disorder_fails c (table_of i)) f g) ∙ sym q
  one_run x y (out_of_order j f p) (diverged k g q) = absurd (disordered_or_diverged j k f g)
  one_run x y (out_of_order j f p) (overflowed k g q) = absurd (disordered_or_overflowed j k f g)
  one_run x y (diverged j f p) (pass n q) = absurd (each_or_first (diverged_fails c (table_of i)) l j n f)
  one_run x y (diverged j f p) (out_of_order k g q) = absurd (disordered_or_diverged k j g f)
  one_run x y (diverged j f p) (diverged k g q) =
      p ∙ ap (λ n. Err (refused.Diverged n)) (same_first l j k (diverged_fails c (table_of i)) (diverged_fails c (table_of i)) f g) ∙ sym q
  one_run x y (diverged j f p) (overflowed k g q) = absurd (diverged_or_overflowed j k f g)
  one_run x y (overflowed j f p) (pass n q) = absurd (each_or_first (overflow_fails c (table_of i)) l j n f)
  one_run x y (overflowed j f p) (out_of_order k g q) = absurd (disordered_or_overflowed k j g f)
  one_run x y (overflowed j f p) (diverged k g q) = absurd (diverged_or_overflowed k j g f)
  one_run x y (overflowed j f p) (overflowed k g q) = p ∙ sym q

-- the kinds of answer
data Told (c : List Procedure) (i : Image) (v : Version) (h : LogHeader) (l : List Record) (e : Ending) (x : Result Audited AuditError) : Type 0 where
  other_catalog : (NamesCatalog h c → ⊥) → x ≡ Err refused.WrongCatalog → Told c i v h l e x
  other_opening : NamesCatalog h c → (NamesOpening v h i → ⊥) → x ≡ Err refused.WrongOpening → Told c i v h l e x
  ran : NamesBoth c i v h → Ran c i l e x → Told c i v h l e x

module _ (c : List Procedure) (i : Image) (v : Version) (h : LogHeader) (l : List Record) (e : Ending) where
  told : (x : Result Audited AuditError) → OfLog c i v h l e x → Told c i v h l e x
  told (Ok r) a = ran a.0 (pass a.1 (ap (λ (s : Audited). Ok s) a.2))
  told (Err refused.WrongCatalog) a = other_catalog a refl
  told (Err refused.WrongOpening) a = other_opening a.0 a.1 refl
  told (Err (refused.Disorder j)) a = ran a.0 (out_of_order j a.1 refl)
  told (Err (refused.Diverged j)) a = ran a.0 (diverged j a.1 refl)
  told (Err refused.TooMany) a = ran a.0 (overflowed a.1 a.2 refl)
  told (Err refused.NotAnOpening) a = absurd a
  told (Err refused.NotALog) a = absurd a
  told (Err (refused.Damaged j)) a = absurd a
  told (Err refused.NoMemory) a = absurd a

  one_told : (x y : Result Audited AuditError) → Told c i v h l e x → Told c i v h l e y → x ≡ y
  one_told x y (other_catalog a p) (other_catalog b q) = p ∙ sym q
  one_told x y (other_catalog a p) (other_opening b u q) = absurd (a b)
  one_told x y (other_catalog a p) (ran b s) = absurd (a b.0)
  one_told x y (other_opening a o p) (other_catalog b q) = absurd (b a)
  one_told x y (other_opening a o p) (other_opening b u q) = p ∙ sym q
  one_told x y (other_opening a o p) (ran b s) = absurd (o b.1)
  one_told x y (ran a r) (other_catalog b q) = absurd (b a.0)
  one_told x y (ran a r) (other_opening b u q) = absurd (u a.1)
  one_told x y (ran a r) (ran b s) = one_run c i l e x y r s

  pub one_of_log : (x y : Result Audited AuditError) → OfLog c i v h l e x → OfLog c i v h l e y → x ≡ y
  one_of_log x y a b = one_told x y (told x a) (told y b)

-- the answer to bytes that are no log
abbrev pub refusal_of : LogError → Result Audited AuditError
refusal_of e = Err (audit_of_log e)

-- there is one answer
pub one_audit : (c : List Procedure) (i : Image) (text : Bytes) (x y : Result Audited AuditError) → IsAudit c i text x → IsAudit c i text y → x ≡ y
one_audit c i text x y (inl a) (inl b) = a.1 ∙ sym b.1
one_audit c i text x y (inl a) (inr b) = absurd (true≢false (sym b.0 ∙ a.0))
one_audit c i text x y (inr a) (inl b) = absurd (true≢false (sym a.0 ∙ b.0))
one_audit c i text x y (inr a) (inr b) = one_of_bytes refusal_of (OfLog c i) (one_of_log c i) text x y (a.1, a.2, a.3) (b.1, b.2, b.3)

pub or_no_memory : (c : List Procedure) (i : Image) (text : Bytes) (x y : Result Audited AuditError) → IsAudit c i text x ⊎ (x ≡ Err refused.NoMemory) → IsAudit c i text y →
    (x ≡ y) ⊎ (x ≡ Err refused.NoMemory)
or_no_memory c i text x y a b = ⊎_map (λ is. one_audit c i text x y is b) (λ none. none) a

-- what is answered to the bytes is, at an opening, that of the audit
pub is_audit : (c : List Procedure) (i : Image) (text : Bytes) → is_opening i ≡ true → (x : Result Audited AuditError) → ToBytes refusal_of (OfLog c i) text x → IsAudit c i text x
is_audit c i text opening x told = inr (opening, told.0, told.1, told.2)
