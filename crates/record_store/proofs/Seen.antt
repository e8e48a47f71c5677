-- What is seen of an entry under the store's number.
use Rattle.std.proofs.Common.{◌≡◌, ◌≢◌, ℕ, ◌<◌, ◌≤◌, ◌==◌, Bool, true, false, Option, Some, None, option_map, refl, arith}
use Rattle.procedure.specs.Bytes.{Cell}
use Rattle.record_store.specs.Stores.{with_stable, with_available, with_copy, stable_of}
use Rattle.record_store.specs.Entries.{Entry, seen, stable_in, with_entry_stable, with_entry_copy, with_entry_mark}
use Rattle.record_store.specs.Fields.{mark_of}
use Rattle.record_store.specs.declared.records.Stable.TheVariants.{Empty, Was}

pub not_same : (m n : ℕ) → m ≢ n → (m == n) ≡ false
not_same m n h = grind arith

pub same_self : (n : ℕ) → (n == n) ≡ true
same_self n = grind arith

pub seen_erased : (number : ℕ) (e : Entry) → 0 < number → seen number (with_entry_stable None 0 e) ≡ with_stable Empty (seen number e)
seen_erased number e positive = simp (not_same 0 number (omega arith))

pub seen_put : (number : ℕ) (stable : Cell) (e : Entry) → seen number (with_entry_stable stable number e) ≡ with_stable (Was stable) (seen number e)
seen_put number stable e = simp (same_self number)

pub seen_copied : (number : ℕ) (e : Entry) → seen number (with_entry_copy number e) ≡ with_copy (seen number e)
seen_copied number e = simp (same_self number)

pub stable_seen_in : (number : ℕ) (o : Option Entry) → stable_of (option_map (seen number) o) ≡ stable_in number o
stable_seen_in number None = refl
stable_seen_in number (Some e) = refl

pub seen_marked : (number : ℕ) (available : Bool) (mark : ℕ) (e : Entry) → mark ≡ mark_of number available → 0 < number →
    seen number (with_entry_mark mark e) ≡ with_available available (seen number e)
seen_marked number true mark e is positive = simp (is, same_self number)
seen_marked number false mark e is positive = simp (is, not_same 0 number (omega arith))

pub mark_most : (number : ℕ) (available : Bool) (mark : ℕ) → mark ≡ mark_of number available → mark ≤ number
mark_most number true mark is = omega arith
mark_most number false mark is = omega arith
