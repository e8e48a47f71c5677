-- The table of a text of pairs, line by line.
use Rattle.std.proofs.Common.{◌≡◌, ◌⊎◌, inl, inr, ◌≤◌, ◌<◌, ℕ, ◌+◌, Bool, true, false, cond, nat_lt, List, [], ◌∷◌, Option, Some, None, Result, Ok, Err, refl, subst, arith}
use Rattle.std.specs.Prelude.{◌&&◌, if◌then◌else◌, is_none}
use Rattle.std.specs.FinMap as map
use Rattle.std.specs.FinMap.{contains_key, insert, len, len-empty, len-insert}
use Rattle.std.specs.Cmp.Lexicographic.{nat_list_cmp_total}
use Rattle.std.proofs.lemmas.Bool.{ltb-true}
use Rattle.procedure.specs.Bytes.{Bytes}
use Rattle.procedure.specs.Table.{Table, value_at}
use Rattle.image.specs.Images.{Image}
use Rattle.image.specs.declared.limits.TheConstants.{ENTRIES}
use Rattle.calcdb.specs.LineByLine.{after_lines}
use Rattle.calcdb.specs.Pairs.{table_after_line, IsLoadFault, pair_in, taking, with_pair}
use Rattle.calcdb.specs.Outcomes.{HasLine}
use Rattle.calcdb.specs.Reads.{◌>>=◌}
use Rattle.calcdb.specs.Refusing.{text_fault}
use Rattle.calcdb.specs.declared.scripts.ScriptFault.{ScriptFault}
use Rattle.calcdb.specs.declared.scripts.ScriptFault.TheVariants.{Line, NoMemory, Size}

-- ---- there are never over 100,000 pairs

at_most_one : (b : Bool) (old new : ℕ) → new ≡ cond b old (old + 1) → new ≤ old + 1
at_most_one true old new e = omega arith
at_most_one false old new e = omega arith

abbrev IsFew : Table → Type 0
IsFew t = len t ≤ ENTRIES

-- where one is taken, it is few
abbrev AreFew : Option Table → Type 0
AreFew None = Unit {0}
AreFew (Some t) = IsFew t

few_taken : (room new : Bool) (t u : Table) → nat_lt (len t) ENTRIES ≡ room → len u ≤ len t + 1 → AreFew (if room && new then Some u else None)
few_taken true true t u e h =
    let below : len t < ENTRIES = ltb-true (len t) ENTRIES e in
    omega (arith, h, below)
few_taken true false t u e h = tt
few_taken false new t u e h = tt

few_with : (t : Table) (p : Bytes × Bytes) → AreFew (with_pair t p)
few_with t p =
    few_taken (nat_lt (len t) ENTRIES) (is_none (value_at t p.0)) t (insert t p.0 p.1) refl
    (at_most_one (contains_key t p.0) (len t) (len (insert t p.0 p.1)) (len-insert nat_list_cmp_total t p.0 p.1))

few_taking : (t : Table) (o : Option (Bytes × Bytes)) → IsFew t → AreFew (taking with_pair t o)
few_taking t None few = few
few_taking t (Some p) few = few_with t p

few_read : (t : Table) (o : Option (Option (Bytes × Bytes))) → IsFew t → AreFew (o >>= taking with_pair t)
few_read t None few = tt
few_read t (Some p) few = few_taking t p few

few_line : (t : Table) (line : Bytes) → IsFew t → AreFew (table_after_line t line)
few_line t line few = few_read t (pair_in line) few

abbrev MakesFew : Result Table ScriptFault → Type 0
MakesFew (Ok t) = IsFew t
MakesFew (Err e) = Unit {0}

few_next : (o : Option Table) (n : ℕ) (ls : List Bytes) → AreFew o → ((u : Table) → IsFew u → MakesFew (after_lines table_after_line u (n + 1) ls)) →
    MakesFew (elim o [ None ↦ Err (Line n) | Some u ↦ after_lines table_after_line u (n + 1) ls ])
few_next None n ls few rest = tt
few_next (Some u) n ls few rest = rest u few

few_after : (t : Table) (n : ℕ) (ls : List Bytes) → IsFew t → MakesFew (after_lines table_after_line t n ls)
unfolding after_lines
few_after t n [] few = few
few_after t n (l ∷ ls) few = few_next (table_after_line t l) n ls (few_line t l few) (λ u h. few_after u (n + 1) ls h)

pub few_pairs : (ls : List Bytes) (t : Table) → after_lines table_after_line map.empty 1 ls ≡ Ok t → len t ≤ ENTRIES
few_pairs ls t is =
    let none = few_after map.empty 1 ls (rw len-empty (omega arith)) in
    subst MakesFew is none

-- ---- the fault of a text

pub text_has_line : (f : ScriptFault) → HasLine (text_fault f)
text_has_line (Line n) = tt
text_has_line Size = tt
text_has_line NoMemory = tt

pub load_fault : (says : Result Image ScriptFault) (f : ScriptFault) → (f ≡ NoMemory) ⊎ (says ≡ Err f) → IsLoadFault says (text_fault f)
load_fault says (Line n) (inl is) = absurd (cc)
load_fault says (Line n) (inr is) = is
load_fault says Size (inl is) = absurd (cc)
load_fault says Size (inr is) = is
load_fault says NoMemory h = refl
