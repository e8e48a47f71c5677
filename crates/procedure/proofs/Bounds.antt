-- The outcome and the number of replies of a lawful procedure.
use Rattle.std.proofs.Common.{◌≡◌, ℕ, zero, suc, ◌+◌, ◌≤◌, inl, inr, Bool, true, false, cond, List, [], ◌∷◌, ◌++◌, length, Option, Some, None, unwrap_or, refl, subst, arith, le_refl, length-append, lit≤, nat_lt, nat_le, ◌-◌, ◌^◌}
use Rattle.procedure.specs.Bytes.{Bytes, Cell}
use Rattle.procedure.specs.Table.{Table}
use Rattle.procedure.specs.Procedures.{Instruction, Procedure, Read, Put, Insert, Delete, Add, Sub, AbortIf, Effect, effect, operand_value, as_key, as_number, holds, passing, ending, setting, number_value, reading, putting, inserting, deleting, adding, subtracting}
use Rattle.procedure.specs.Catalogs.{first_fault, instruction_fault, test_fault, procedure_fault, IsLawful}
use Rattle.procedure.specs.Runs.{Front, front, fed, fed_at, rest_after, IsOutcome}
use Rattle.procedure.specs.Catalogs.{KeepsLimits}
use Rattle.procedure.specs.declared.catalogs.CatalogError.TheVariants.{BadCode}
use Rattle.procedure.specs.declared.outcomes.TheConstants.{FIRST_ABORT, NO_VALUE, OUT_OF_RANGE}
use Rattle.procedure.proofs.Faults.{neither, at_most}

early : (c d : ℕ) → Some c ≡ Some d → c ≤ NO_VALUE → IsOutcome d
early c d e h = let s : c ≡ d = cc in inl (subst (λ n. n ≤ NO_VALUE) s h)

goes_on : (d : ℕ) → None ≡ Some d → IsOutcome d
goes_on d e = absurd cc

-- what an instruction adds to the replies, and how it ends the call
reading_ends : (rs : List Cell) (r : ℕ) (k : Option Bytes) (found : Cell) (d : ℕ) → (reading rs r k found).ends ≡ Some d → IsOutcome d
reading_ends rs r None found d e = early 5 d e (lit≤ tt)
reading_ends rs r (Some k) found d e = goes_on d e

putting_ends : (rs : List Cell) (k : Option Bytes) (v : Cell) (d : ℕ) → (putting rs k v).ends ≡ Some d → IsOutcome d
putting_ends rs None v d e = early 5 d e (lit≤ tt)
putting_ends rs (Some k) None d e = early 6 d e (lit≤ tt)
putting_ends rs (Some k) (Some v) d e = goes_on d e

inserting_ends : (rs : List Cell) (k : Option Bytes) (v found : Cell) (d : ℕ) → (inserting rs k v found).ends ≡ Some d → IsOutcome d
inserting_ends rs None v found d e = early 5 d e (lit≤ tt)
inserting_ends rs (Some k) None found d e = early 6 d e (lit≤ tt)
inserting_ends rs (Some k) (Some v) None d e = goes_on d e
inserting_ends rs (Some k) (Some v) (Some w) d e = early 1 d e (lit≤ tt)

deleting_ends : (rs : List Cell) (k : Option Bytes) (found : Cell) (d : ℕ) → (deleting rs k found).ends ≡ Some d → IsOutcome d
deleting_ends rs None found d e = early 5 d e (lit≤ tt)
deleting_ends rs (Some k) None d e = early 2 d e (lit≤ tt)
deleting_ends rs (Some k) (Some w) d e = goes_on d e

either_ends : (b : Bool) (f g : Effect) (d : ℕ) → (f.ends ≡ Some d → IsOutcome d) → (g.ends ≡ Some d → IsOutcome d) → (cond b f g).ends ≡ Some d → IsOutcome d
either_ends true f g d p q e = p e
either_ends false f g d p q e = q e

adding_ends : (rs : List Cell) (r : ℕ) (x y : Option ℕ) (d : ℕ) → (adding rs r x y).ends ≡ Some d → IsOutcome d
adding_ends rs r None y d e = early 3 d e (lit≤ tt)
adding_ends rs r (Some x) None d e = early 3 d e (lit≤ tt)
adding_ends rs r (Some x) (Some y) d e = either_ends _ _ _ d (goes_on d) (λ h. early 4 d h (lit≤ tt)) e

subtracting_ends : (rs : List Cell) (r : ℕ) (x y : Option ℕ) (d : ℕ) → (subtracting rs r x y).ends ≡ Some d → IsOutcome d
subtracting_ends rs r None y d e = early 3 d e (lit≤ tt)
subtracting_ends rs r (Some x) None d e = early 3 d e (lit≤ tt)
subtracting_ends rs r (Some x) (Some y) d e = either_ends _ _ _ d (goes_on d) (λ h. early 4 d h (lit≤ tt)) e

late : (c d : ℕ) → Some c ≡ Some d → FIRST_ABORT ≤ c → IsOutcome d
late c d e h = let s : c ≡ d = cc in inr (subst (λ n. FIRST_ABORT ≤ n) s h)

effect_ends : (arity : ℕ) (i : Instruction) → instruction_fault arity i ≡ None → (args : List Bytes) (rs : List Cell) (found : Cell) (d : ℕ) → (effect i args rs found).ends ≡ Some d → IsOutcome d
unfolding effect
effect_ends arity (Read r k) h args rs found d e = reading_ends rs r (as_key (operand_value k args rs)) found d e
effect_ends arity (Put k v) h args rs found d e = putting_ends rs (as_key (operand_value k args rs)) (operand_value v args rs) d e
effect_ends arity (Insert k v) h args rs found d e = inserting_ends rs (as_key (operand_value k args rs)) (operand_value v args rs) found d e
effect_ends arity (Delete k) h args rs found d e = deleting_ends rs (as_key (operand_value k args rs)) found d e
effect_ends arity (Add r x y) h args rs found d e = adding_ends rs r (as_number (operand_value x args rs)) (as_number (operand_value y args rs)) d e
effect_ends arity (Sub r x y) h args rs found d e = subtracting_ends rs r (as_number (operand_value x args rs)) (as_number (operand_value y args rs)) d e
effect_ends arity (AbortIf t c) h args rs found d e =
    let code = at_most FIRST_ABORT c BadCode (neither (test_fault arity t) _ h).1 in
    either_ends (holds t args rs) (ending rs c) (passing rs) d (λ a. late c d a code) (goes_on d) e

either_reply : (b : Bool) (f g : Effect) → length f.reply ≤ 1 → length g.reply ≤ 1 → length (cond b f g).reply ≤ 1
either_reply true f g p q = p
either_reply false f g p q = q

reading_reply : (rs : List Cell) (r : ℕ) (k : Option Bytes) (found : Cell) → length (reading rs r k found).reply ≤ 1
reading_reply rs r None found = lit≤ tt
reading_reply rs r (Some k) found = lit≤ tt

putting_reply : (rs : List Cell) (k : Option Bytes) (v : Cell) → length (putting rs k v).reply ≤ 1
putting_reply rs None v = lit≤ tt
putting_reply rs (Some k) None = lit≤ tt
putting_reply rs (Some k) (Some v) = lit≤ tt

inserting_reply : (rs : List Cell) (k : Option Bytes) (v found : Cell) → length (inserting rs k v found).reply ≤ 1
inserting_reply rs None v found = lit≤ tt
inserting_reply rs (Some k) None found = lit≤ tt
inserting_reply rs (Some k) (Some v) None = lit≤ tt
inserting_reply rs (Some k) (Some v) (Some w) = lit≤ tt

deleting_reply : (rs : List Cell) (k : Option Bytes) (found : Cell) → length (deleting rs k found).reply ≤ 1
deleting_reply rs None found = lit≤ tt
deleting_reply rs (Some k) None = lit≤ tt
deleting_reply rs (Some k) (Some w) = lit≤ tt

adding_reply : (rs : List Cell) (r : ℕ) (x y : Option ℕ) → length (adding rs r x y).reply ≤ 1
adding_reply rs r None y = lit≤ tt
adding_reply rs r (Some x) None = lit≤ tt
adding_reply rs r (Some x) (Some y) = either_reply (nat_lt (x + y) (2 ^ 64)) (setting rs r (number_value (x + y))) (ending rs OUT_OF_RANGE) (lit≤ tt) (lit≤ tt)

subtracting_reply : (rs : List Cell) (r : ℕ) (x y : Option ℕ) → length (subtracting rs r x y).reply ≤ 1
subtracting_reply rs r None y = lit≤ tt
subtracting_reply rs r (Some x) None = lit≤ tt
subtracting_reply rs r (Some x) (Some y) = either_reply (nat_le y x) (setting rs r (number_value (x - y))) (ending rs OUT_OF_RANGE) (lit≤ tt) (lit≤ tt)

effect_reply : (i : Instruction) (args : List Bytes) (rs : List Cell) (found : Cell) → length (effect i args rs found).reply ≤ 1
unfolding effect
effect_reply (Read r k) args rs found = reading_reply rs r (as_key (operand_value k args rs)) found
effect_reply (Put k v) args rs found = putting_reply rs (as_key (operand_value k args rs)) (operand_value v args rs)
effect_reply (Insert k v) args rs found = inserting_reply rs (as_key (operand_value k args rs)) (operand_value v args rs) found
effect_reply (Delete k) args rs found = deleting_reply rs (as_key (operand_value k args rs)) found
effect_reply (Add r x y) args rs found = adding_reply rs r (as_number (operand_value x args rs)) (as_number (operand_value y args rs))
effect_reply (Sub r x y) args rs found = subtracting_reply rs r (as_number (operand_value x args rs)) (as_number (operand_value y args rs))
effect_reply (AbortIf t c) args rs found = either_reply (holds t args rs) (ending rs c) (passing rs) (lit≤ tt) (lit≤ tt)

-- what a front of a lawful procedure keeps
record IsBounded (p : Procedure) (f : Front) : Type 0 where
  lawful : first_fault (instruction_fault p.arity) f.rest ≡ None
  outcome : IsOutcome f.outcome
  count : length f.replies + length f.rest ≤ length p.code

rest_lawful : (arity : ℕ) (o : Option ℕ) (is : List Instruction) → first_fault (instruction_fault arity) is ≡ None → first_fault (instruction_fault arity) (rest_after o is) ≡ None
rest_lawful arity None is h = h
rest_lawful arity (Some c) is h = refl

rest_shorter : (o : Option ℕ) (is : List Instruction) → length (rest_after o is) ≤ length is
rest_shorter None is = le_refl _
rest_shorter (Some c) is = omega arith

outcome_after : (o : Option ℕ) (c : ℕ) → ((d : ℕ) → o ≡ Some d → IsOutcome d) → IsOutcome c → IsOutcome (unwrap_or o c)
outcome_after None c h i = i
outcome_after (Some d) c h i = h d refl

bounded_at : (p : Procedure) (args : List Bytes) (f : Front) (found : Cell) (r : List Instruction) → f.rest ≡ r → IsBounded p f → IsBounded p (fed_at args f found r)
bounded_at p args f found [] e b = b
bounded_at p args f found (i ∷ is) e b =
    let here = neither (instruction_fault p.arity i) (first_fault (instruction_fault p.arity) is) (subst (λ l. first_fault (instruction_fault p.arity) l ≡ None) e b.lawful) in
    let x = effect i args f.registers found in
    let left : length (rest_after x.ends is) ≤ length is = rest_shorter x.ends is in
    let more : length x.reply ≤ 1 = effect_reply i args f.registers found in
    let was : length f.replies + length (i ∷ is) ≤ length p.code = subst (λ (l : List Instruction). length f.replies + length l ≤ length p.code) e b.count in
    let both : length (f.replies ++ x.reply) ≡ length f.replies + length x.reply = length-append f.replies x.reply in
    record {
      lawful = rest_lawful p.arity x.ends is here.1;
      outcome = outcome_after x.ends f.outcome (effect_ends p.arity i here.0 args f.registers found) b.outcome;
      count = omega arith;
    }

bounded_fed : (p : Procedure) (args : List Bytes) (f : Front) (found : Cell) → IsBounded p f → IsBounded p (fed args f found)
unfolding fed
bounded_fed p args f found b = bounded_at p args f found f.rest refl b

code_lawful : (p : Procedure) → IsLawful p → first_fault (instruction_fault p.arity) p.code ≡ None
unfolding procedure_fault
code_lawful p h = (neither _ _ (neither _ _ h.no_fault).1).1

bounded_front : (p : Procedure) → IsLawful p → (args : List Bytes) (t : Table) (m : ℕ) → IsBounded p (front p.code args t m)
unfolding front
bounded_front p h args t zero = record { lawful = code_lawful p h; outcome = inl (lit≤ tt); count = omega arith }
bounded_front p h args t (suc m) = bounded_fed p args (front p.code args t m) _ (bounded_front p h args t m)

pub keeps_limits : KeepsLimits
keeps_limits p h args t m =
    let b = bounded_front p h args t m in
    let c = b.count in
    (b.outcome, omega arith)
