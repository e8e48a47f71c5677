-- Blocks that are read are those that were written, and what was written is read again.
use Rattle.std.proofs.Common.{◌≡◌, ◌<◌, ℕ, zero, suc, ◌+◌, ◌-◌, ◌*◌, min, Bool, true, false, cond, List, [], ◌∷◌, ◌++◌, length, take, drop, Option, Some, None, Ok, Err, refl, sym, ap, subst, ◌∙◌, append_assoc, arith, inl, inr}
use Rattle.std.specs.declared.result.Result.{Result}
use Rattle.std.specs.Prelude.{nat_eq}
use Rattle.std.specs.Cmp.Lexicographic.{pointwise, bytes_decides}
use Rattle.std.specs.List.{AllByRecursion}
use Rattle.std.proofs.lemmas.Bool.{cases_lt}
use Rattle.std.proofs.lemmas.List.{append-nil, drop_all, drop_at, length-append, length-drop, length-take, nil_from_length, take-append-drop, take_all, take_at}
use Rattle.sha2.specs.Sha256.{sha256}
use Rattle.sha2.proofs.Facts256.{length-sha256}
use Rattle.procedure.specs.Bytes.{Bytes}
use Rattle.image.specs.Images.{Entry}
use Rattle.image.specs.ImageBytes.{block_bytes, block_digest, blocks_bytes, entries_bytes}
use Rattle.image.specs.Fronts.{◌>>=◌, after_ok, block_at, block_then, blocks_at, entries_at, parted}
use Rattle.image.specs.Refusals.{IsSpellable, Opens}
use Rattle.image.specs.declared.errors.ReadError.{ReadError}
use Rattle.image.specs.declared.errors.ReadError.TheVariants as refused
use Rattle.procedure.proofs.TakenBytes.{IsBytes, Takes, Takes-then}
use Rattle.image.proofs.Blocks.{all_both}
use Rattle.image.proofs.FrontEntries.{bind_some, entries_again, entries_take, parted_again, parted_takes, some_is}

abbrev Found : Type 0
Found = List Entry × (Bytes × Bytes)

guard_then : {X : Type 0} (b : Bool) (x y : X) → cond b (Some x) None ≡ Some y → (b ≡ true) × (x ≡ y)
guard_then true x y e = (refl, some_is x y e)
guard_then false x y e = absurd cc

-- what stands before the rest
pub front_is : (b t r : Bytes) → b ≡ t ++ r → take (length b - length r) b ≡ t
front_is b t r e =
    ap (λ (x : Bytes). take (length x - length r) x) e ∙ take_at t r (length (t ++ r) - length r) (omega (arith, length-append t r))

-- the digest of a block that stands before the rest
abbrev seen : Bytes → Bytes → Bytes → Bytes
seen before b r = sha256 (before ++ take (length b - length r) b)

seen_is : (before b r : Bytes) (es : List Entry) → b ≡ entries_bytes es ++ r → seen before b r ≡ block_digest before es
seen_is before b r es e = ap (λ (t : Bytes). sha256 (before ++ t)) (front_is b (entries_bytes es) r e)

pub block_takes : (before : Bytes) (n : ℕ) (b : Bytes) (x : List Entry × (Bytes × Bytes)) → IsBytes b → block_at before n b ≡ Some x →
    Takes b (block_bytes before x.0) x.1.1 × (x.1.0 ≡ block_digest before x.0) × (length x.0 ≡ n) × AllByRecursion IsSpellable x.0
unfolding block_at
block_takes before n b x fits e =
    let a = bind_some (entries_at n b) (λ es. parted 32 es.1 >>= λ st. cond (pointwise nat_eq st.0 (seen before b es.1)) (Some (es.0, (seen before b es.1, st.1))) None) x e in
    let s = bind_some (parted 32 a.0.1) (λ st. cond (pointwise nat_eq st.0 (seen before b a.0.1)) (Some (a.0.0, (seen before b a.0.1, st.1))) None) x a.2 in
    let made : List Entry × (Bytes × Bytes) = (a.0.0, (seen before b a.0.1, s.0.1)) in
    let g = guard_then (pointwise nat_eq s.0.0 (seen before b a.0.1)) made x s.2 in
    let te = entries_take n b a.0 fits a.1 in
    let ts = parted_takes 32 a.0.1 s.0.0 s.0.1 te.0.rest_fits s.1 in
    let digest-is = seen_is before b a.0.1 a.0.0 te.0.parts in
    let stated-is : s.0.0 ≡ seen before b a.0.1 = (bytes_decides s.0.0 (seen before b a.0.1)).0 g.0 in
    let both = Takes-then b (entries_bytes a.0.0) a.0.1 s.0.0 s.0.1 te.0 ts.0 in
    let whole : Takes b (block_bytes before a.0.0) s.0.1 = subst (λ (d : Bytes). Takes b (entries_bytes a.0.0 ++ d) s.0.1) (stated-is ∙ digest-is) both in
    subst (λ (y : List Entry × (Bytes × Bytes)). Takes b (block_bytes before y.0) y.1.1 × (y.1.0 ≡ block_digest before y.0) × (length y.0 ≡ n) × AllByRecursion IsSpellable y.0) g.1
    (whole, digest-is, te.1, te.2)

block_from : (before b : Bytes) (n : ℕ) (es : List Entry) (behind st r : Bytes) → entries_at n b ≡ Some (es, behind) → parted 32 behind ≡ Some (st, r) → st ≡ seen before b behind →
    block_at before n b ≡ Some (es, (st, r))
unfolding block_at
block_from before b n es behind st r found parts same =
    rw (found, parts, (bytes_decides st (seen before b behind)).1 same) (ap (λ (d : Bytes). Some (es, (d, r))) (sym same))

pub block_again : (before : Bytes) (n : ℕ) (es : List Entry) (r : Bytes) → length es ≡ n → AllByRecursion IsSpellable es →
    block_at before n (block_bytes before es ++ r) ≡ Some (es, (block_digest before es, r))
block_again before n es r len fits =
    let d = block_digest before es in
    let regrouped : block_bytes before es ++ r ≡ entries_bytes es ++ (d ++ r) = append_assoc (entries_bytes es) d r in
    block_from before (block_bytes before es ++ r) n es (d ++ r) d r
    (ap (entries_at n) regrouped ∙ ap (λ m. entries_at m (entries_bytes es ++ (d ++ r))) (sym len) ∙ entries_again es (d ++ r) fits)
    (parted_again 32 d r (length-sha256 (before ++ entries_bytes es)))
    (sym (seen_is before (block_bytes before es ++ r) (d ++ r) es regrouped))

-- ---- blocks in turn

all_take : (P : Entry → Type 0) (n : ℕ) (es : List Entry) → AllByRecursion P es → AllByRecursion P (take n es)
all_take P zero es h = tt
all_take P (suc n) [] h = tt
all_take P (suc n) (e ∷ es) h = (h.0, all_take P n es h.1)

all_drop : (P : Entry → Type 0) (n : ℕ) (es : List Entry) → AllByRecursion P es → AllByRecursion P (drop n es)
all_drop P zero es h = h
all_drop P (suc n) [] h = tt
all_drop P (suc n) (e ∷ es) h = all_drop P n es h.1

-- a block's entries and those after them, of n entries in all
record Cut (es fs : List Entry) : Type 0 where
  front : take 64 (es ++ fs) ≡ es
  back : drop 64 (es ++ fs) ≡ fs

cut : (n m : ℕ) (es fs : List Entry) → length es ≡ min n 64 → length fs ≡ min (n - 64) (64 * m) → Cut es fs
cut n m es fs first others = elim (cases_lt n 64) [
  | inl few ↦
      let none : fs ≡ [] = nil_from_length fs (omega (arith, others)) in
      let alone : es ++ fs ≡ es = ap (λ (l : List Entry). es ++ l) none ∙ append-nil es in
      record {
        front = ap (λ (l : List Entry). take 64 l) alone ∙ take_all 64 es (omega (arith, first));
        back = ap (λ (l : List Entry). drop 64 l) alone ∙ drop_all 64 es (omega (arith, first)) ∙
            sym none;
      }
  | inr many ↦
      let whole : length es ≡ 64 = omega (arith, first) in
      record { front = take_at es fs 64 whole; back = drop_at es fs 64 whole }
]

blocks_joined : (m : ℕ) (before : Bytes) (es fs : List Entry) → Cut es fs → blocks_bytes (suc m) before (es ++ fs) ≡ block_bytes before es ++ blocks_bytes m (block_digest before es) fs
blocks_joined m before es fs c =
    (λ i. block_bytes before (c.front i) ++ blocks_bytes m (block_digest before (c.front i)) (c.back i))

joined_length : (n m : ℕ) (es fs : List Entry) → length es ≡ min n 64 → length fs ≡ min (n - 64) (64 * m) → length (es ++ fs) ≡ min n (64 * suc m)
joined_length n m es fs first others = omega (arith, first, others, length-append es fs)

-- the first of the blocks with which a text opens
pub opens_first : (n m : ℕ) (before b : Bytes) (o : Opens n before (suc m) b) →
    block_at before (min n 64) b ≡ Some (take 64 o.0, (block_digest before (take 64 o.0), blocks_bytes m (block_digest before (take 64 o.0)) (drop 64 o.0) ++ o.1))
opens_first n m before b (es, r, len, fits, is) =
    let first = take 64 es in
    let rest = blocks_bytes m (block_digest before first) (drop 64 es) in
    let regrouped : b ≡ block_bytes before first ++ (rest ++ r) = is ∙ append_assoc (block_bytes before first) rest r in
    ap (block_at before (min n 64)) regrouped
    ∙ block_again before (min n 64) first (rest ++ r) (omega (arith, len, length-take 64 es)) (all_take IsSpellable 64 es fits)

pub opens_rest : (n m : ℕ) (before b : Bytes) (o : Opens n before (suc m) b) →
    Opens (n - 64) (block_digest before (take 64 o.0)) m (blocks_bytes m (block_digest before (take 64 o.0)) (drop 64 o.0) ++ o.1)
opens_rest n m before b (es, r, len, fits, is) = (drop 64 es, r, omega (arith, len, length-drop 64 es), all_drop IsSpellable 64 es fits, refl)

pub opens_join : (n m : ℕ) (before b : Bytes) (es : List Entry) (d r : Bytes) → IsBytes b → block_at before (min n 64) b ≡ Some (es, (d, r)) → Opens (n - 64) d m r → Opens n before (suc m) b
opens_join n m before b es d r fits found (fs, s, len, spelled, is) =
    let t = block_takes before (min n 64) b (es, (d, r)) fits found in
    let c = cut n m es fs t.2 len in (
      es ++ fs,
      s,
      joined_length n m es fs t.2 len,
      all_both IsSpellable es fs t.3 spelled,
      t.0.parts
          ∙ ap (λ (x : Bytes). block_bytes before es ++ x) (is ∙ ap (λ (x : Bytes). blocks_bytes m x fs ++ s) t.1)
          ∙ sym (append_assoc (block_bytes before es) (blocks_bytes m (block_digest before es) fs) s)
          ∙ ap (λ (x : Bytes). x ++ s) (sym (blocks_joined m before es fs c)),
    )

-- ---- all of the blocks

abbrev read_as : List Entry × Bytes → Result (List Entry × Bytes) ReadError
read_as x = Ok x

abbrev refused_as : ReadError → Result (List Entry × Bytes) ReadError
refused_as e = Err e

ok_is : (x y : List Entry × Bytes) → read_as x ≡ read_as y → x ≡ y
ok_is x y h = cc

err_is : (x y : ReadError) → refused_as x ≡ refused_as y → x ≡ y
err_is x y h = cc

after_fails : (es : List Entry) (read : Result (List Entry × Bytes) ReadError) (e : ReadError) → after_ok es read ≡ Err e → read ≡ Err e
after_fails es (Ok x) e h = absurd (cc)
after_fails es (Err f) e h = h

after_gives : (es : List Entry) (read : Result (List Entry × Bytes) ReadError) (x : List Entry × Bytes) → after_ok es read ≡ Ok x → (y : List Entry × Bytes) × (read ≡ Ok y) × ((es ++ y.0, y.1) ≡ x)
after_gives es (Err e) x h = absurd (cc)
after_gives es (Ok y) x h = (y, refl, ok_is (es ++ y.0, y.1) x h)

-- one answer for the first block, whatever it is
abbrev then_rest : ℕ → ℕ → ℕ → Option Found → Result (List Entry × Bytes) ReadError
then_rest m j left o = block_then (suc j) o (λ digest rest. blocks_at m (suc j) (left - 64) digest rest)

starts : (m j left : ℕ) (before b : Bytes) (o : Option Found) → block_at before (min left 64) b ≡ o → blocks_at (suc m) j left before b ≡ then_rest m j left o
unfolding blocks_at
starts m j left before b o e = ap (then_rest m j left) e

abbrev BlocksTaken : ℕ → ℕ → Bytes → Bytes → List Entry × Bytes → Type 0
BlocksTaken m left before b x = Takes b (blocks_bytes m before x.0) x.1 × (length x.0 ≡ min left (64 * m)) × AllByRecursion IsSpellable x.0

first_taken : (m j left : ℕ) (before b : Bytes) (x : List Entry × Bytes) →
    ((j left : ℕ) (before b : Bytes) (x : List Entry × Bytes) → IsBytes b → blocks_at m j left before b ≡ Ok x → BlocksTaken m left before b x) →
    IsBytes b → blocks_at (suc m) j left before b ≡ Ok x → (o : Option Found) → block_at before (min left 64) b ≡ o → BlocksTaken (suc m) left before b x
first_taken m j left before b x others fits e None found =
    let no : refused_as (refused.BadBlock (suc j)) ≡ read_as x = sym (starts m j left before b None found) ∙ e in absurd (cc)
first_taken m j left before b x others fits e (Some (es, (d, r))) found =
    let a = after_gives es (blocks_at m (suc j) (left - 64) d r) x (sym (starts m j left before b (Some (es, (d, r))) found) ∙ e) in
    let t = block_takes before (min left 64) b (es, (d, r)) fits found in
    let o = others (suc j) (left - 64) d r a.0 t.0.rest_fits a.1 in
    let both = Takes-then b (block_bytes before es) r (blocks_bytes m d a.0.0) a.0.1 t.0 o.0 in
    let whole : Takes b (blocks_bytes (suc m) before (es ++ a.0.0)) a.0.1 =
    subst (λ (w : Bytes). Takes b w a.0.1) (ap (λ (w : Bytes). block_bytes before es ++ blocks_bytes m w a.0.0) t.1 ∙ sym (blocks_joined m before es a.0.0 (cut left m es a.0.0 t.2 o.1))) both in
    subst (λ (y : List Entry × Bytes). BlocksTaken (suc m) left before b y) a.2 (whole, joined_length left m es a.0.0 t.2 o.1, all_both IsSpellable es a.0.0 t.3 o.2)

pub blocks_take : (m j left : ℕ) (before b : Bytes) (x : List Entry × Bytes) → IsBytes b → blocks_at m j left before b ≡ Ok x → BlocksTaken m left before b x
unfolding blocks_at
blocks_take zero j left before b x fits e =
    subst (λ (y : List Entry × Bytes). Takes b (blocks_bytes 0 before y.0) y.1 × (length y.0 ≡ min left 0) × AllByRecursion IsSpellable y.0) (ok_is ([], b) x e)
    (record { parts = refl; rest_fits = fits }, omega arith, tt)
blocks_take (suc m) j left before b x fits e = first_taken m j left before b x (blocks_take m) fits e (block_at before (min left 64) b) refl

pub blocks_again : (m j left : ℕ) (before b : Bytes) (o : Opens left before m b) → blocks_at m j left before b ≡ Ok (o.0, o.1)
unfolding blocks_at opens_rest
blocks_again zero j left before b (es, r, len, fits, is) =
    let none : es ≡ [] = nil_from_length es (omega (arith, len)) in
    (λ i. Ok (sym none i, is i))
blocks_again (suc m) j left before b (es, r, len, fits, is) =
    let o : Opens left before (suc m) b = (es, r, len, fits, is) in
    starts m j left before b _ (opens_first left m before b o)
    ∙ ap (after_ok (take 64 es)) (blocks_again m (suc j) (left - 64) _ _ (opens_rest left m before b o))
    ∙ ap (λ (l : List Entry). Ok (l, r)) (take-append-drop 64 es)

-- where reading stops there is a first block that isn't whole
pub record Stops (m j left : ℕ) (before b : Bytes) (e : ReadError) : Type 0 where
  pub at : ℕ
  pub below : at < m
  pub error : e ≡ refused.BadBlock (suc (j + at))
  pub opens : Opens left before at b
  pub no_more : Opens left before (suc at) b → ⊥

opens_nothing : (left : ℕ) (before b : Bytes) → Opens left before 0 b
opens_nothing left before b = ([], b, omega arith, tt, refl)

found_is : (x y : Found) → Some x ≡ Some y → x ≡ y
found_is x y h = some_is x y h

-- what stands behind the first block, where it is known
opens_behind : (n m : ℕ) (before b : Bytes) (x : Found) → block_at before (min n 64) b ≡ Some x → Opens n before (suc m) b → Opens (n - 64) x.1.0 m x.1.1
opens_behind n m before b x found o =
    let same = found_is _ x (sym (opens_first n m before b o) ∙ found) in
    subst (λ (y : Found). Opens (n - 64) y.1.0 m y.1.1) same (opens_rest n m before b o)

first_fails : (m j left : ℕ) (before b : Bytes) (e : ReadError) →
    ((j left : ℕ) (before b : Bytes) (e : ReadError) → IsBytes b → blocks_at m j left before b ≡ Err e → Stops m j left before b e) →
    IsBytes b → blocks_at (suc m) j left before b ≡ Err e → (o : Option Found) → block_at before (min left 64) b ≡ o → Stops (suc m) j left before b e
first_fails m j left before b e others fits h None found = record {
  at = 0;
  below = omega arith;
  error = let next : j ≡ j + 0 = omega arith in sym (err_is (refused.BadBlock (suc j)) e (sym (starts m j left before b None found) ∙ h)) ∙ ap (λ n. refused.BadBlock (suc n)) next;
  opens = opens_nothing left before b;
  no_more = λ o. let no = sym found ∙ opens_first left 0 before b o in absurd (cc);
}
first_fails m j left before b e others fits h (Some (es, (d, r))) found =
    let t = block_takes before (min left 64) b (es, (d, r)) fits found in
    let s = others (suc j) (left - 64) d r e t.0.rest_fits (after_fails es (blocks_at m (suc j) (left - 64) d r) e (sym (starts m j left before b (Some (es, (d, r))) found) ∙ h)) in
    let next : suc j + s.at ≡ j + suc s.at = omega arith in
    record {
      at = suc s.at;
      below = omega (arith, s.below);
      error = s.error ∙ ap (λ n. refused.BadBlock (suc n)) next;
      opens = opens_join left s.at before b es d r fits found s.opens;
      no_more = λ o. s.no_more (opens_behind left (suc s.at) before b (es, (d, r)) found o);
    }

pub blocks_fail : (m j left : ℕ) (before b : Bytes) (e : ReadError) → IsBytes b → blocks_at m j left before b ≡ Err e → Stops m j left before b e
unfolding blocks_at
blocks_fail zero j left before b e fits h = absurd (cc)
blocks_fail (suc m) j left before b e fits h = first_fails m j left before b e (blocks_fail m) fits h (block_at before (min left 64) b) refl

-- and the first block that isn't whole is where reading stops
pub blocks_stop : (m k j left : ℕ) (before b : Bytes) → IsBytes b → k < m → Opens left before k b → (Opens left before (suc k) b → ⊥) →
    blocks_at m j left before b ≡ Err (refused.BadBlock (suc (j + k)))
unfolding blocks_at
blocks_stop zero k j left before b fits lt opens no_more = absurd (omega arith)
blocks_stop (suc m) zero j left before b fits lt opens no_more = go (block_at before (min left 64) b) refl
  where
    go : (o : Option Found) → block_at before (min left 64) b ≡ o → blocks_at (suc m) j left before b ≡ Err (refused.BadBlock (suc (j + 0)))
    go None found = let next : j ≡ j + 0 = omega arith in starts m j left before b None found ∙ ap (λ n. refused_as (refused.BadBlock (suc n))) next
    go (Some (es, (d, r))) found = absurd (no_more (opens_join left 0 before b es d r fits found (opens_nothing (left - 64) d r)))
blocks_stop (suc m) (suc k) j left before b fits lt opens no_more =
    let first = opens_first left k before b opens in
    let es = take 64 opens.0 in
    let d = block_digest before es in
    let r = blocks_bytes k d (drop 64 opens.0) ++ opens.1 in
    let t = block_takes before (min left 64) b (es, (d, r)) fits first in
    let next : suc j + k ≡ j + suc k = omega arith in
    starts m j left before b _ first
    ∙ ap (after_ok es) (blocks_stop m k (suc j) (left - 64) d r t.0.rest_fits (omega arith) (opens_rest left k before b opens) (λ o. no_more (opens_join left (suc k) before b es d r fits first o)))
    ∙ ap (λ n. refused_as (refused.BadBlock (suc n))) next
