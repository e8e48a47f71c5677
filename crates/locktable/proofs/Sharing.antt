-- The sessions of one word.
use Rattle.std.proofs.Common.{◌≡◌, ◌≢◌, ℕ, ◌<◌, ◌≤◌, ◌*◌, ◌%◌, ◌^◌, inl, inr, Bool, true, false, cond, Option, Some, None, refl, sym, ap, ◌∙◌, subst, eqb, lt_of_le_of_lt}
use Rattle.std.specs.Prelude.{bit_and, bit_or}
use Rattle.std.specs.Int.{bit_at, bit_not, w64}
use Rattle.std.proofs.lemmas.Bool.{cases_lt}
use Rattle.std.proofs.lemmas.Bool.Decides.{eqb_tells}
use Rattle.std.proofs.lemmas.Nat.{one_shl, and_le_l}
use Rattle.std.proofs.lemmas.Nat.Bits.{bit_at-zero, bit_at_set_same, bit_at_set_other, bit_at_clear_same, bit_at_clear_other, bit_at_above, bit_at-trailing_zeros, bit_at-pow_same, bit_at-pow_other}
use Rattle.locktable.specs.declared.holders.Holders.TheVariants.{Readers, Writer}
use Rattle.locktable.specs.Modes.{Mode, Shared, Exclusive, Excludes, stronger}
use Rattle.locktable.specs.Holders.{mode_in, ChangesTo, Refuses, IsHeld}

-- the word of one session
abbrev pub bit : ℕ → ℕ
bit session = 1 * 2 ^ session % 2 ^ 64

-- what a bit says
abbrev says : ℕ → Option Mode
says b = cond (eqb b 1) (Some Shared) None

same_bit : (a b : ℕ) → a ≡ b → says a ≡ says b
same_bit a b e = ap says e

-- the place of a session, among all of them
at_session : (s k : ℕ) (P : Bool → Type 0) → (s ≡ k → P true) → (s ≢ k → P false) → P (eqb s k)
at_session s k P here there =
    elim (eqb_tells s k) [
      | inl e ↦ subst P (sym e.0) (here e.1)
      | inr e ↦ subst P (sym e.0) (there e.1)
    ]

pub one_reader : (k : ℕ) → k < 64 → ChangesTo None (Some (Readers (bit k))) k (Some Shared)
one_reader k h s =
    at_session s k (λ b. says (bit_at (bit k) s) ≡ cond b (Some Shared) None)
    (λ e. ap says (ap (λ n. bit_at n s) (one_shl k 64 h) ∙ ap (bit_at (2 ^ k)) e ∙ bit_at-pow_same k))
    (λ ne. ap says (ap (λ n. bit_at n s) (one_shl k 64 h) ∙ bit_at-pow_other k s ne))

pub one_writer : (k : ℕ) → ChangesTo None (Some (Writer k)) k (Some Exclusive)
one_writer k s = refl

-- a reader who asks to read
stronger_shared : (b : ℕ) → stronger (says b) Shared ≡ Shared
stronger_shared b = at (eqb b 1)
  where
    at : (t : Bool) → stronger (cond t (Some Shared) None) Shared ≡ Shared
    at true = refl
    at false = refl

pub one_more_reader : (m k : ℕ) → k < 64 → ChangesTo (Some (Readers m)) (Some (Readers (bit_or m (bit k)))) k (Some (stronger (mode_in (Readers m) k) Shared))
one_more_reader m k h s =
    at_session s k (λ b. says (bit_at (bit_or m (bit k)) s) ≡ cond b (Some (stronger (says (bit_at m k)) Shared)) (says (bit_at m s)))
    (λ e. ap says (ap (bit_at (bit_or m (bit k))) e ∙ bit_at_set_same w64 m k h) ∙ ap Some (sym (stronger_shared (bit_at m k))))
    (λ ne. ap says (bit_at_set_other w64 m k h s ne))

-- the other readers
abbrev pub others : ℕ → ℕ → ℕ
others m k = bit_and m (bit_not w64 (bit k))

no_bit : (m s : ℕ) → m < 2 ^ 64 → 64 ≤ s → says (bit_at m s) ≡ None
no_bit m s fits above = ap says (bit_at_above m 64 s fits above)

pub others_fit : (m k : ℕ) → m < 2 ^ 64 → others m k < 2 ^ 64
others_fit m k h = lt_of_le_of_lt (and_le_l m (bit_not w64 (bit k))) h

others_here : (m k : ℕ) → k < 64 → says (bit_at (others m k) k) ≡ None
others_here m k h = ap says (bit_at_clear_same w64 m k h)

others_there : (m k s : ℕ) → m < 2 ^ 64 → k < 64 → s ≢ k → says (bit_at (others m k) s) ≡ says (bit_at m s)
others_there m k s fits h ne =
    elim (cases_lt s 64) [
      | inl below ↦ ap says (bit_at_clear_other w64 m k h s below ne)
      | inr above ↦ no_bit (others m k) s (others_fit m k fits) above ∙ sym (no_bit m s fits above)
    ]

pub without_reader : (m k : ℕ) → m < 2 ^ 64 → k < 64 → ChangesTo (Some (Readers m)) (Some (Readers (others m k))) k None
without_reader m k fits h s =
    at_session s k (λ b. says (bit_at (others m k) s) ≡ cond b None (says (bit_at m s)))
    (λ e. ap (λ n. says (bit_at (others m k) n)) e ∙ others_here m k h)
    (λ ne. others_there m k s fits h ne)

nobody : (s : ℕ) → says (bit_at 0 s) ≡ None
nobody s = ap says (bit_at-zero s)

-- where no other is left
pub without_last_reader : (m k : ℕ) → m < 2 ^ 64 → k < 64 → others m k ≡ 0 → ChangesTo (Some (Readers m)) None k None
without_last_reader m k fits h none s =
    sym (nobody s) ∙ ap (λ n. says (bit_at n s)) (sym none) ∙ without_reader m k fits h s

-- who reads alone may write
pub upgrade : (m k : ℕ) → m < 2 ^ 64 → k < 64 → others m k ≡ 0 → ChangesTo (Some (Readers m)) (Some (Writer k)) k (Some (stronger (mode_in (Readers m) k) Exclusive))
upgrade m k fits h none s =
    at_session s k (λ b. cond b (Some Exclusive) None ≡ cond b (Some (stronger (says (bit_at m k)) Exclusive)) (says (bit_at m s)))
    (λ e. ap Some (sym (stronger_exclusive (bit_at m k))))
    (λ ne. sym (nobody s) ∙ ap (λ n. says (bit_at n s)) (sym none) ∙ others_there m k s fits h ne)
  where
    at : (t : Bool) → stronger (cond t (Some Shared) None) Exclusive ≡ Exclusive
    at true = refl
    at false = refl

    stronger_exclusive : (b : ℕ) → stronger (says b) Exclusive ≡ Exclusive
    stronger_exclusive b = at (eqb b 1)

-- some session reads where the word isn't 0
pub some_reader : (m : ℕ) → m < 2 ^ 64 → 0 < m → IsHeld (Readers m)
some_reader m fits some = let t = bit_at-trailing_zeros w64 m some fits in (_, Shared, ap says t.1)

-- readers share: no one refuses another
pub readers_share : (m k : ℕ) → Refuses (Some (Readers m)) k Shared → ⊥
readers_share m k r = at (eqb (bit_at m r.0) 1) r.1 r.3 r.4
  where
    at : (b : Bool) (held : Mode) → cond b (Some Shared) None ≡ Some held → Excludes Shared held → ⊥
    at true Shared e x = x
    at true Exclusive e x = cc
    at false held e x = cc

-- who reads alone is refused by no one
pub none_refuses : (m k : ℕ) → m < 2 ^ 64 → k < 64 → others m k ≡ 0 → Refuses (Some (Readers m)) k Exclusive → ⊥
none_refuses m k fits h none r =
    let gone : says (bit_at m r.0) ≡ None = sym (others_there m k r.0 fits h r.2) ∙ ap (λ n. says (bit_at n r.0)) none ∙ nobody r.0 in
    let there : says (bit_at m r.0) ≡ Some r.1 = r.3 in
    cc

-- another reader refuses who would write
pub other_refuses : (m k : ℕ) → m < 2 ^ 64 → k < 64 → 0 < others m k → Refuses (Some (Readers m)) k Exclusive
other_refuses m k fits h some =
    let one = some_reader (others m k) (others_fit m k fits) some in
    let other : one.0 ≢ k = λ e. let here : says (bit_at (others m k) one.0) ≡ None = ap (λ n. says (bit_at (others m k) n)) e ∙ others_here m k h in
    let there : says (bit_at (others m k) one.0) ≡ Some one.1 = one.2 in cc in
    (one.0, one.1, other, sym (others_there m k one.0 fits h other) ∙ one.2, tt)
