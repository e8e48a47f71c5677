-- Entries that stand in bytes are those that are read of them.
use Rattle.std.proofs.Common.{◌≡◌, ◌<◌, ◌≤◌, ℕ, zero, suc, ◌+◌, ◌-◌, min, List, [], ◌∷◌, ◌++◌, length, take, drop, Bool, true, false, Option, Some, None, Ok, Err, refl, sym, ap, subst, ◌∙◌, arith, cond, ltb, inl, inr}
use Rattle.std.specs.declared.result.Result.{Result}
use Rattle.std.specs.Prelude.{nat_eq}
use Rattle.std.specs.Cmp.Lexicographic.{pointwise}
use Rattle.std.proofs.lemmas.List.{append-nil, length-drop, nil_from_length}
use Rattle.std.proofs.lemmas.Bool.{cases_lt}
use Rattle.sha2.specs.Sha256.{sha256}
use Rattle.procedure.specs.Bytes.{Bytes}
use Rattle.image.specs.Images.{Entry}
use Rattle.image.specs.Fronts.{◌>>=◌, after_ok, behind, behind_ok, block_at, block_then, blocks_at, entry_at, entries_at, parted}
use Rattle.image.specs.ImageBytes.{block_count}
use Rattle.image.specs.Readings.{alone_or_bad, alone_or_refused}
use Rattle.image.specs.inside.Pieces.{AreThere, block_after, past_digest, pieces_in, with_first}
use Rattle.image.specs.declared.errors.ReadError.{ReadError}
use Rattle.image.proofs.FrontEntries.{bind_some, guard_some, some_is}
use Rattle.image.proofs.FrontLoops.{was_read}

guard_then : {X : Type 0} (b : Bool) (x y : X) → cond b (Some x) None ≡ Some y → x ≡ y
guard_then true x y e = some_is x y e
guard_then false x y e = absurd cc

abbrev okay : List Entry × Bytes → Result (List Entry × Bytes) ReadError
okay x = Ok x

ok_is : (x y : List Entry × Bytes) → okay x ≡ okay y → x ≡ y
ok_is x y h = cc

-- n entries are there, and they are these
pub record Told (n k : ℕ) (b : Bytes) (es : List Entry) : Type 0 where
  pub there : AreThere n k b
  pub are : pieces_in n k b ≡ es

-- ---- one after another

-- where n are to come, and that is one at least: the first, and those behind it
pub record More (n k : ℕ) (b : Bytes) : Type 0 where
  pub first : Entry × Bytes
  pub found : entry_at (past_digest k b) ≡ Some first
  pub others : AreThere (n - 1) (block_after n k) first.1
  pub are : pieces_in n k b ≡ first.0 ∷ pieces_in (n - 1) (block_after n k) first.1

more_of : (n k : ℕ) (b : Bytes) → AreThere (suc n) k b → More (suc n) k b
more_of n k b s =
    let less : n ≡ suc n - 1 = omega arith in
    record {
      first = s.0;
      found = s.1;
      others = subst (λ i. AreThere i (block_after (suc n) k) s.0.1) less s.2;
      are = ap (λ (o : Option (Entry × Bytes)). with_first o (λ rest. pieces_in n (block_after (suc n) k) rest)) s.1 ∙ ap (λ i. s.0.0 ∷ pieces_in i (block_after (suc n) k) s.0.1) less;
    }

pub more : (n k : ℕ) (b : Bytes) → 0 < n → AreThere n k b → More n k b
more zero k b some s = absurd (omega (arith, some))
more (suc n) k b some s = more_of n k b s

pub how_many : (n k : ℕ) (b : Bytes) → AreThere n k b → length (pieces_in n k b) ≡ n
how_many zero k b s = refl
how_many (suc n) k b s =
    ap (λ (o : Option (Entry × Bytes)). length (with_first o (λ rest. pieces_in n (block_after (suc n) k) rest))) s.1
    ∙ ap suc (how_many n (block_after (suc n) k) s.0.1 s.2)

nothing_at_end : (b : Bytes) (x : Entry × Bytes) → b ≡ [] → entry_at b ≡ Some x → ⊥
unfolding entry_at
nothing_at_end b x e h = let none : entry_at [] ≡ Some x = ap entry_at (sym e) ∙ h in cc

-- a digest stands where none of a block is left
pub has_digest : (b : Bytes) (x : Entry × Bytes) → entry_at (drop 32 b) ≡ Some x → 32 ≤ length b
has_digest b x h =
    elim (cases_lt (length b) 32) [
      | inl short ↦ absurd (nothing_at_end (drop 32 b) x (nil_from_length (drop 32 b) (omega (arith, short, length-drop 32 b))) h)
      | inr long ↦ long
    ]

-- ---- those that were read

-- entries that were read, and then others
entries_on : (k n m : ℕ) (b r : Bytes) (es others : List Entry) → m ≡ k + n → entries_at k b ≡ Some (es, r) → Told n 0 r others → Told m k b (es ++ others)
unfolding entries_at
entries_on zero n m b r es others is read t =
    let same = some_is ([], b) (es, r) read in
    let at : Told n 0 b others = subst (λ (x : Bytes). Told n 0 x others) (sym (ap (λ (p : List Entry × Bytes). p.1) same)) t in
    let none : es ≡ [] = sym (ap (λ (p : List Entry × Bytes). p.0) same) in
    subst (λ (l : List Entry). Told m 0 b (l ++ others)) (sym none) (subst (λ i. Told i 0 b others) (omega (arith, is)) at)
entries_on (suc k) n zero b r es others is read t = absurd (omega (arith, is))
entries_on (suc k) n (suc m) b r es others is read t =
    let e = bind_some (entry_at b) (λ e. entries_at k e.1 >>= λ es. Some (e.0 ∷ es.0, es.1)) (es, r) read in
    let l = bind_some (entries_at k e.0.1) (λ es. Some (e.0.0 ∷ es.0, es.1)) (es, r) e.2 in
    let same = some_is (e.0.0 ∷ l.0.0, l.0.1) (es, r) l.2 in
    let rest : Told m k e.0.1 (l.0.0 ++ others) =
    entries_on k n m e.0.1 r l.0.0 others (omega (arith, is)) (l.1 ∙ ap (λ (x : Bytes). Some (l.0.0, x)) (ap (λ (p : List Entry × Bytes). p.1) same)) t in
    record {
      there = (e.0, e.1, rest.there);
      are = ap (λ (o : Option (Entry × Bytes)). with_first o (λ rest. pieces_in m k rest)) e.1 ∙ ap (λ (x : List Entry). e.0.0 ∷ x) rest.are
          ∙ ap (λ (x : List Entry). x ++ others) (ap (λ (p : List Entry × Bytes). p.0) same);
    }

-- a block begins behind the digest of the one before
turned : (n q : ℕ) (r : Bytes) (es : List Entry) → q ≡ min n 64 → Told n q (drop 32 r) es → Told n 0 r es
turned zero q r es is t = record { there = tt; are = t.are }
turned (suc n) zero r es is t = absurd (omega (arith, is))
turned (suc n) (suc q) r es is t =
    let same : q ≡ min (suc n) 64 - 1 = omega (arith, is) in
    let s = t.there in
    record {
      there = (s.0, s.1, subst (λ k. AreThere n k s.0.1) same s.2);
      are = ap (λ k. with_first (entry_at (drop 32 r)) (λ rest. pieces_in n k rest)) (sym same) ∙ t.are;
    }

-- entries behind which nothing else is to come
pub only_told : (n : ℕ) (b : Bytes) (es : List Entry) (r : Bytes) → entries_at n b ≡ Some (es, r) → Told n n b es
only_told n b es r read =
    subst (Told n n b) (append-nil es) (entries_on n 0 n b r es [] (omega arith) read (record { there = tt; are = refl }))

behind_block : (before : Bytes) (n : ℕ) (b : Bytes) (es : List Entry) (d r : Bytes) → block_at before n b ≡ Some (es, (d, r)) → (t : Bytes) × (entries_at n b ≡ Some (es, t)) × (r ≡ drop 32 t)
unfolding block_at
behind_block before n b es d r read =
    let seen : Bytes → Bytes = λ t. sha256 (before ++ take (length b - length t) b) in
    let a = bind_some (entries_at n b) (λ es. parted 32 es.1 >>= λ st. cond (pointwise nat_eq st.0 (seen es.1)) (Some (es.0, (seen es.1, st.1))) None) (es, (d, r)) read in
    let s = bind_some (parted 32 a.0.1) (λ st. cond (pointwise nat_eq st.0 (seen a.0.1)) (Some (a.0.0, (seen a.0.1, st.1))) None) (es, (d, r)) a.2 in
    let g = guard_then (pointwise nat_eq s.0.0 (seen a.0.1)) (a.0.0, (seen a.0.1, s.0.1)) (es, (d, r)) s.2 in
    let cut = guard_some (ltb (length a.0.1) 32) (take 32 a.0.1, drop 32 a.0.1) s.0 s.1 in (
      a.0.1,
      a.1 ∙ ap (λ (l : List Entry). Some (l, a.0.1)) (ap (λ (p : List Entry × (Bytes × Bytes)). p.0) g),
      sym (ap (λ (p : List Entry × (Bytes × Bytes)). p.1.1) g) ∙ sym (ap (λ (p : Bytes × Bytes). p.1) cut.1),
    )

after_is : (front es : List Entry) (r : Bytes) (read : Result (List Entry × Bytes) ReadError) → after_ok front read ≡ Ok (es, r) → (others : List Entry) × (read ≡ Ok (others, r)) × (front ++ others ≡ es)
after_is front es r (Err e) h = absurd (cc)
after_is front es r (Ok x) h =
    let same = ok_is (front ++ x.0, x.1) (es, r) h in
    (x.0, ap (λ (y : Bytes). Ok (x.0, y)) (ap (λ (p : List Entry × Bytes). p.1) same), ap (λ (p : List Entry × Bytes). p.0) same)

block_was : (j : ℕ) (read : Option (List Entry × (Bytes × Bytes))) (others : Bytes → Bytes → Result (List Entry × Bytes) ReadError) (es : List Entry) (r : Bytes) → block_then j read others ≡ Ok (es, r) →
    (x : List Entry × (Bytes × Bytes)) × (read ≡ Some x) × (after_ok x.0 (others x.1.0 x.1.1) ≡ Ok (es, r))
block_was j None others es r h = absurd (cc)
block_was j (Some x) others es r h = (x, refl, h)

-- entries in blocks
pub blocks_told : (m j left : ℕ) (before b : Bytes) (es : List Entry) (r : Bytes) → m ≡ block_count left → blocks_at m j left before b ≡ Ok (es, r) → Told left (min left 64) b es
unfolding blocks_at
blocks_told zero j left before b es r count read =
    let none : left ≡ 0 = omega (arith, count) in
    let same = ok_is ([], b) (es, r) read in
    subst (λ n. Told n (min n 64) b es) (sym none) (record { there = tt; are = ap (λ (p : List Entry × Bytes). p.0) same })
blocks_told (suc m) j left before b es r count read =
    let size = min left 64 in
    let (x, found, rest) = block_was (suc j) (block_at before size b) (λ digest others. blocks_at m (suc j) (left - 64) digest others) es r read in
    let (others, left_read, joined) = after_is x.0 es r (blocks_at m (suc j) (left - 64) x.1.0 x.1.1) rest in
    let (t, entries, behind_is) = behind_block before size b x.0 x.1.0 x.1.1 found in
    let told = blocks_told m (suc j) (left - 64) x.1.0 x.1.1 others r (omega (arith, count)) left_read in
    let next : Told (left - 64) 0 t others = turned (left - 64) (min (left - 64) 64) t others refl (subst (λ (y : Bytes). Told (left - 64) (min (left - 64) 64) y others) behind_is told) in
    subst (Told left size b) joined (entries_on size (left - 64) left b t x.0 others (omega arith) entries next)

-- ---- all that stands there

module _ (n : ℕ) (b r : Bytes) (none : r ≡ []) (read : Some r ≡ behind (entries_at n b)) where
  alone_told : (es : List Entry) × Told n n b es × (alone_or_bad (entries_at n b) ≡ Ok es)
  alone_told =
      let (es, found) = was_read r (entries_at n b) read in
      (es, only_told n b es r found, ap alone_or_bad (found ∙ ap (λ (x : Bytes). Some (es, x)) none))

  pub alone_there : AreThere n n b
  alone_there = let (es, told, is) = alone_told in told.there

  pub alone_are : alone_or_bad (entries_at n b) ≡ Ok (pieces_in n n b)
  alone_are = let (es, told, is) = alone_told in is ∙ ap (λ (l : List Entry). Ok l) (sym told.are)

abbrev bytes_ok : Bytes → Result Bytes ReadError
bytes_ok s = Ok s

bytes_are : (s t : Bytes) → bytes_ok s ≡ bytes_ok t → s ≡ t
bytes_are s t h = cc

was_ok : (r : Bytes) (read : Result (List Entry × Bytes) ReadError) → behind_ok read ≡ Ok r → (es : List Entry) × (read ≡ Ok (es, r))
was_ok r (Err e) h = absurd (cc)
was_ok r (Ok x) h = (x.0, ap (λ (s : Bytes). Ok (x.0, s)) (bytes_are x.1 r h))

module _ (n : ℕ) (digest b r : Bytes) (none : r ≡ []) (read : behind_ok (blocks_at (block_count n) 0 n digest b) ≡ Ok r) where
  in_blocks : (es : List Entry) × Told n (min n 64) b es × (alone_or_refused (blocks_at (block_count n) 0 n digest b) ≡ Ok es)
  in_blocks =
      let (es, found) = was_ok r (blocks_at (block_count n) 0 n digest b) read in
      (es, blocks_told (block_count n) 0 n digest b es r refl found, ap alone_or_refused (found ∙ ap (λ (x : Bytes). Ok (es, x)) none))

  pub blocks_there : AreThere n (min n 64) b
  blocks_there = let (es, told, is) = in_blocks in told.there

  pub blocks_are : alone_or_refused (blocks_at (block_count n) 0 n digest b) ≡ Ok (pieces_in n (min n 64) b)
  blocks_are = let (es, told, is) = in_blocks in is ∙ ap (λ (l : List Entry). Ok l) (sym told.are)
