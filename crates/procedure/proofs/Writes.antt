-- A write that changes its key goes on, and leaves all else of its machine as it is.
use Rattle.std.proofs.Common.{arith, zero, suc, add-one, ◌≡◌, ℕ, ◌+◌, ◌≤◌, cond, List, [], ◌∷◌, Option, Some, None, IsSome, is_some, refl, sym, ap, ◌∙◌, subst, true≢false, length, drop, append-nil}
use Rattle.std.specs.Prelude.{count_by}
use Rattle.std.proofs.Math.Seq.{drop-nil}
use Rattle.std.proofs.lemmas.List.Sums.{sum_by-cons}
use Rattle.procedure.specs.Actions.{effect_of}
use Rattle.procedure.specs.Bytes.{Bytes, Cell}
use Rattle.procedure.specs.Needs.{becomes_of}
use Rattle.procedure.specs.Procedures.{Effect, Instruction, Read, Put, Insert, Delete, Add, Sub, AbortIf, deleting, effect, holds, inserting, is_read, passing, ending, putting, reading, as_number, operand_value}
use Rattle.procedure.specs.Runs.{Progress, advanced, advanced_at, moved, need_at, next_need}
use Rattle.procedure.specs.declared.actions.Action.TheVariants.{Pass}
use Rattle.procedure.proofs.Fronts.{adding_becomes, either_becomes, effect-becomes, subtracting_becomes}
use Rattle.procedure.proofs.Steps.{none_left}

not_some : (o : Option Cell) → o ≡ None → IsSome o → ⊥
not_some o none some = true≢false (sym some ∙ ap is_some none)

-- where an instruction's key becomes something, it goes on and does nothing else
module _ (rs : List Cell) where
  abbrev GoesOn : Effect → Type 0
  GoesOn e = IsSome e.becomes → effect_of Pass rs e.becomes ≡ e

  read_goes_on : (r : ℕ) (k : Option Bytes) (found : Cell) → GoesOn (reading rs r k found)
  read_goes_on r None found some = absurd (not_some None refl some)
  read_goes_on r (Some k) found some = absurd (not_some None refl some)

  put_goes_on : (k : Option Bytes) (v : Cell) → GoesOn (putting rs k v)
  put_goes_on None v some = absurd (not_some None refl some)
  put_goes_on (Some k) None some = absurd (not_some None refl some)
  put_goes_on (Some k) (Some v) some = refl

  insert_goes_on : (k : Option Bytes) (v found : Cell) → GoesOn (inserting rs k v found)
  insert_goes_on None v found some = absurd (not_some None refl some)
  insert_goes_on (Some k) None found some = absurd (not_some None refl some)
  insert_goes_on (Some k) (Some v) None some = refl
  insert_goes_on (Some k) (Some v) (Some w) some = absurd (not_some None refl some)

  delete_goes_on : (k : Option Bytes) (found : Cell) → GoesOn (deleting rs k found)
  delete_goes_on None found some = absurd (not_some None refl some)
  delete_goes_on (Some k) None some = absurd (not_some None refl some)
  delete_goes_on (Some k) (Some w) some = refl

  goes_on : (i : Instruction) (args : List Bytes) (found : Cell) → GoesOn (effect i args rs found)
  unfolding effect
  goes_on (Read r k) args found some = read_goes_on r _ found some
  goes_on (Put k v) args found some = put_goes_on _ _ some
  goes_on (Insert k v) args found some = insert_goes_on _ _ found some
  goes_on (Delete k) args found some = delete_goes_on _ found some
  goes_on (Add r x y) args found some =
      absurd (not_some _ (adding_becomes rs r (as_number (operand_value x args rs)) (as_number (operand_value y args rs))) some)
  goes_on (Sub r x y) args found some =
      absurd (not_some _ (subtracting_becomes rs r (as_number (operand_value x args rs)) (as_number (operand_value y args rs))) some)
  goes_on (AbortIf t c) args found some = absurd (not_some _ (either_becomes (holds t args rs) (ending rs c) (passing rs) refl refl) some)

write_at : (args : List Bytes) (p : Progress) (found : Cell) (rest : List Instruction) → IsSome (becomes_of (need_at args p rest) found) → record p { rest = drop 1 rest } ≡ advanced_at args p found rest
write_at args p found [] some = absurd (not_some None refl some)
write_at args p found (i ∷ is) some =
    let e = effect i args p.registers found in
    (λ j. record p { rest = is; replies = sym (append-nil p.replies) j })
    ∙ ap (λ x. moved x is p) (goes_on p.registers i args found (subst (λ (x : Option Cell). IsSome x) (sym (effect-becomes i args p.registers found)) some))

drop_suc : {X : Type 0} (place : ℕ) (xs : List X) → drop (suc place) xs ≡ drop 1 (drop place xs)
drop_suc place [] = sym (ap (drop 1) (drop-nil place))
drop_suc zero (x ∷ xs) = refl
drop_suc (suc place) (x ∷ xs) = drop_suc place xs

drop_next : {X : Type 0} (place : ℕ) (xs : List X) → drop (place + 1) xs ≡ drop 1 (drop place xs)
drop_next place xs = ap (λ n. drop n xs) (add-one place) ∙ drop_suc place xs

-- no more reads are left from the next place on
reads_in_tail : (rest : List Instruction) → count_by is_read (drop 1 rest) ≤ count_by is_read rest
reads_in_tail [] = omega arith
reads_in_tail (i ∷ is) = omega (arith, sum_by-cons (λ x. cond (is_read x) 1 0) i is)

pub reads_from_next : (code : List Instruction) (place : ℕ) → count_by is_read (drop (place + 1) code) ≤ count_by is_read (drop place code)
reads_from_next code place = omega (arith, ap (count_by is_read) (drop_next place code), reads_in_tail (drop place code))

module _ (args : List Bytes) (code : List Instruction) (place : ℕ) (registers replies : List Cell) (outcome : ℕ) (found : Cell) where
  abbrev at : ℕ → Progress
  at n = record { rest = drop n code; registers = registers; replies = replies; outcome = outcome }

  pub after_write : IsSome (becomes_of (next_need args (at place)) found) → at (place + 1) ≡ advanced args (at place) found
  unfolding next_need advanced
  after_write some = ap (λ r. record (at place) { rest = r }) (drop_next place code) ∙ write_at args (at place) found (drop place code) some

  -- no write is left where the call has ended
  pub no_write_past : length code ≤ place → IsSome (becomes_of (next_need args (at place)) found) → ⊥
  unfolding next_need
  no_write_past past some = not_some (becomes_of (need_at args (at place) (drop place code)) found) (ap (λ r. becomes_of (need_at args (at place) r) found) (none_left code place past)) some
