-- How many bytes entries and blocks take, and whether they find room.
use Rattle.std.proofs.Common.{◌≡◌, ◌<◌, ◌≤◌, ℕ, zero, suc, ◌+◌, ◌-◌, List, ◌++◌, length, get_or, take, drop, sym, ap, subst, ◌∙◌, arith}
use Rattle.std.proofs.lemmas.List.{length-append, length-drop}
use Rattle.procedure.specs.Bytes.{Bytes}
use Rattle.image.specs.Images.{Entry}
use Rattle.image.specs.EntryBytes.{entry_bytes}
use Rattle.image.specs.ImageBytes.{block_count, entries_bytes}
use Rattle.image.specs.Streams.{BlocksFit}
use Rattle.image.proofs.Blocks.{count-step}
use Rattle.procedure.proofs.WriteProgress.{next_item}

-- an entry at a place, and those behind it, take no more than all of them
pub entry_among : (es : List Entry) (i : ℕ) (e : Entry) (out old : Bytes) → i < length es → e ≡ get_or es i e → out ++ entries_bytes (drop i es) ≡ old ++ entries_bytes es →
    length out + length (entry_bytes e) ≤ length old + length (entries_bytes es)
entry_among es i e out old lt is whole =
    let rest = entries_bytes (drop (i + 1) es) in
    let front : length (entries_bytes (drop i es)) ≡ length (entry_bytes e) + length rest = ap (λ (l : List Entry). length (entries_bytes l)) (next_item es i e lt is) ∙
    length-append (entry_bytes e) rest in
    let left = length-append out (entries_bytes (drop i es)) in
    let right = length-append old (entries_bytes es) in
    let same = ap (λ (x : Bytes). length x) whole in
    omega (arith, front, left, right, same)

-- a block that is cut off finds room, and so do those that are left
pub fits_first : (most : ℕ) (es b r : List Entry) → 0 < length es → b ≡ take 64 es → r ≡ drop 64 es → BlocksFit most (block_count (length es)) es →
    (length (entries_bytes b) + 32 ≤ most) × BlocksFit most (block_count (length r)) r
fits_first most es b r some front back h =
    let both : BlocksFit most (suc (block_count (length es - 64))) es = subst (λ (n : ℕ). BlocksFit most n es) (count-step (length es) some) h in
    let left : BlocksFit most (block_count (length (drop 64 es))) (drop 64 es) = subst (λ (n : ℕ). BlocksFit most (block_count n) (drop 64 es)) (sym (length-drop 64 es)) both.1 in
    (subst (λ (x : List Entry). length (entries_bytes x) + 32 ≤ most) (sym front) both.0, subst (λ (x : List Entry). BlocksFit most (block_count (length x)) x) (sym back) left)

-- and all do where it does and they do
pub fits_all : (most : ℕ) (es b r : List Entry) → 0 < length es → b ≡ take 64 es → r ≡ drop 64 es → length (entries_bytes b) + 32 ≤ most → BlocksFit most (block_count (length r)) r →
    BlocksFit most (block_count (length es)) es
fits_all most es b r some front back here there =
    let first : length (entries_bytes (take 64 es)) + 32 ≤ most = subst (λ (x : List Entry). length (entries_bytes x) + 32 ≤ most) front here in
    let left : BlocksFit most (block_count (length (drop 64 es))) (drop 64 es) = subst (λ (x : List Entry). BlocksFit most (block_count (length x)) x) back there in
    let rest : BlocksFit most (block_count (length es - 64)) (drop 64 es) = subst (λ (n : ℕ). BlocksFit most (block_count n) (drop 64 es)) (length-drop 64 es) left in
    subst (λ (n : ℕ). BlocksFit most n es) (sym (count-step (length es) some)) (first, rest)

-- what finds room finds it in more
pub fits_more : (most more m : ℕ) (es : List Entry) → most ≤ more → BlocksFit most m es → BlocksFit more m es
fits_more most more zero es le h = tt
fits_more most more (suc m) es le h = let here = h.0 in (omega (arith, le, here), fits_more most more m (drop 64 es) le h.1)
