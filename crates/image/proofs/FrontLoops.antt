-- Reading past entries and blocks one after another, as a loop does.
use Rattle.std.proofs.Common.{◌≡◌, ◌<◌, ◌≤◌, ℕ, suc, ◌+◌, ◌-◌, min, List, ◌∷◌, length, Option, Some, None, Ok, Err, refl, sym, ap, ◌∙◌, arith}
use Rattle.std.specs.declared.result.Result.{Result}
use Rattle.std.proofs.lemmas.List.{length-append}
use Rattle.procedure.specs.Bytes.{Bytes}
use Rattle.image.specs.Images.{Entry}
use Rattle.image.specs.Fronts.{◌>>=◌, after_ok, behind, behind_ok, block_at, block_then, blocks_at, entry_at, entries_at}
use Rattle.image.specs.ImageBytes.{block_count}
use Rattle.image.specs.declared.errors.ReadError.{ReadError}
use Rattle.image.specs.declared.errors.ReadError.TheVariants as refused
use Rattle.image.specs.ImageBytes.{entries_bytes}
use Rattle.image.proofs.Blocks.{count-step}
use Rattle.procedure.proofs.TakenBytes.{IsBytes}
use Rattle.image.proofs.FrontEntries.{entries_take, some_is}

-- what was read, where something stands behind it
pub was_read : {X R : Type 0} (r : R) (read : Option (X × R)) → Some r ≡ behind read → (x : X) × (read ≡ Some (x, r))
was_read r None h = absurd (cc)
was_read {X = X} r (Some x) h = (x.0, ap (λ s. Some (x.0, s)) (sym (some_is r x.1 h)))

nothing_read : {X R : Type 0} (read : Option (X × R)) → None ≡ behind read → read ≡ None
nothing_read None h = refl
nothing_read (Some x) h = absurd (cc)

behind-with : (e : Entry) (read : Option (List Entry × Bytes)) → behind (read >>= λ x. Some (e ∷ x.0, x.1)) ≡ behind read
behind-with e None = refl
behind-with e (Some x) = refl

pub entry_past : (count i : ℕ) (b r : Bytes) (e : Entry) → i < count → entry_at b ≡ Some (e, r) → behind (entries_at (count - i) b) ≡ behind (entries_at (count - (i + 1)) r)
unfolding entries_at
entry_past count i b r e lt found =
    let k : count - i ≡ suc (count - (i + 1)) = omega arith in
    rw (k, found) (behind-with e (entries_at (count - (i + 1)) r))

pub no_entry : (count i : ℕ) (b : Bytes) → i < count → entry_at b ≡ None → behind (entries_at (count - i) b) ≡ None
unfolding entries_at
no_entry count i b lt none =
    let k : count - i ≡ suc (count - (i + 1)) = omega arith in
    rw (k, none) refl

pub all_past : (count i : ℕ) (b : Bytes) → count ≤ i → behind (entries_at (count - i) b) ≡ Some b
unfolding entries_at
all_past count i b le =
    let k : count - i ≡ 0 = omega arith in
    rw k refl

-- blocks
behind_ok-after : (front : List Entry) (read : Result (List Entry × Bytes) ReadError) → behind_ok (after_ok front read) ≡ behind_ok read
behind_ok-after front (Err e) = refl
behind_ok-after front (Ok x) = refl

then_others : (j : ℕ) (d r : Bytes) (read : Option (List Entry × (Bytes × Bytes))) (others : Bytes → Bytes → Result (List Entry × Bytes) ReadError) → Some (d, r) ≡ behind read →
    behind_ok (others d r) ≡ behind_ok (block_then j read others)
then_others j d r read others h =
    let (es, found) = was_read (d, r) read h in
    sym (behind_ok-after es (others d r)) ∙ ap (λ (o : Option (List Entry × (Bytes × Bytes))). behind_ok (block_then j o others)) (sym found)

pub block_past : (left size rest j : ℕ) (before d b r : Bytes) → 0 < left → size ≡ min left 64 → rest ≡ left - 64 → Some (d, r) ≡ behind (block_at before size b) →
    behind_ok (blocks_at (block_count rest) (j + 1) rest d r) ≡ behind_ok (blocks_at (block_count left) j left before b)
unfolding blocks_at
block_past left size rest j before d b r some cut is h =
    let next : j + 1 ≡ suc j = omega arith in
    rw (is, next, count-step left some) (then_others (suc j) d r (block_at before (min left 64) b) (λ digest others. blocks_at (block_count (left - 64)) (suc j) (left - 64) digest others)
    (h ∙ ap (λ n. behind (block_at before n b)) cut))

abbrev nothing : Option (Bytes × Bytes)
nothing = None

pub no_block : (left size j : ℕ) (before b : Bytes) → 0 < left → size ≡ min left 64 → nothing ≡ behind (block_at before size b) →
    behind_ok (blocks_at (block_count left) j left before b) ≡ Err (refused.BadBlock (j + 1))
unfolding blocks_at
no_block left size j before b some cut h =
    let next : j + 1 ≡ suc j = omega arith in
    rw (next, count-step left some, nothing_read (block_at before (min left 64) b) (h ∙ ap (λ n. behind (block_at before n b)) cut)) refl

pub all_blocks : (left j : ℕ) (before b : Bytes) → left ≡ 0 → behind_ok (blocks_at (block_count left) j left before b) ≡ Ok b
unfolding blocks_at
all_blocks left j before b none =
    let no : block_count left ≡ 0 = omega arith in
    rw no refl

-- what stands behind entries is no longer than the text
pub behind_shorter : (n : ℕ) (b r : Bytes) → IsBytes b → Some r ≡ behind (entries_at n b) → length r ≤ length b
behind_shorter n b r fits h =
    let (es, found) = was_read r (entries_at n b) h in
    let t = entries_take n b (es, r) fits found in
    omega (arith, ap (λ (x : Bytes). length x) t.0.parts, length-append (entries_bytes es) r)
