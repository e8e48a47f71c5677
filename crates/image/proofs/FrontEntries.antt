-- An entry that is read is the one that was written, and what was written is read again.
use Rattle.std.proofs.Common.{◌≡◌, ◌≤◌, ◌<◌, ◌^◌, ℕ, zero, suc, Bool, true, false, cond, ltb, List, [], ◌∷◌, ◌++◌, length, take, drop, Option, Some, None, refl, sym, ap, subst, ◌∙◌, append_assoc, arith}
use Rattle.std.specs.Prelude.{IfSome}
use Rattle.std.specs.List.{AllByRecursion}
use Rattle.std.proofs.lemmas.Bool.{ltb-false, le-ltb}
use Rattle.std.proofs.lemmas.List.{take_at, drop_at, take-append-drop, length-append, length-take}
use Rattle.std.proofs.lemmas.List.Concat.{flat_map-cons}
use Rattle.byteorder.specs.Endian.{big_bytes, big_number}
use Rattle.procedure.specs.Bytes.{Bytes, Cell}
use Rattle.procedure.proofs.TakenBytes.{IsBytes, IsBytes-drop, IsBytes-take, Takes, Takes-then, back_2}
use Rattle.image.specs.Images.{Entry}
use Rattle.image.specs.EntryBytes.{cell_bytes, entry_bytes}
use Rattle.image.specs.ImageBytes.{entries_bytes}
use Rattle.image.specs.Fronts.{◌>>=◌, parted, key_at, cell_at, entry_at, entries_at}
use Rattle.image.specs.Refusals.{IsSpellable}

-- a step that found something
pub bind_some : {X Y : Type 0} (o : Option X) (f : X → Option Y) (y : Y) → (o >>= f) ≡ Some y → (x : X) × (o ≡ Some x) × (f x ≡ Some y)
bind_some None f y e = absurd cc
bind_some (Some x) f y e = (x, refl, e)

pub some_is : {X : Type 0} (x y : X) → Some x ≡ Some y → x ≡ y
some_is x y h = cc

pub guard_some : {X : Type 0} (b : Bool) (x y : X) → cond b None (Some x) ≡ Some y → (b ≡ false) × (x ≡ y)
guard_some true x y e = absurd cc
guard_some false x y e = (refl, some_is x y e)

pub parted_takes : (n : ℕ) (b x r : Bytes) → IsBytes b → parted n b ≡ Some (x, r) → Takes b x r × (length x ≡ n) × IsBytes x
parted_takes n b x r fits e =
    let g = guard_some (ltb (length b) n) (take n b, drop n b) (x, r) e in
    let long : n ≤ length b = ltb-false _ _ g.0 in
    let x-is : take n b ≡ x = ap (λ (p : Bytes × Bytes). p.0) g.1 in
    let r-is : drop n b ≡ r = ap (λ (p : Bytes × Bytes). p.1) g.1 in
    let len : length (take n b) ≡ n = omega (arith, length-take n b) in (
      record { parts = rw (← x-is, ← r-is) (sym (take-append-drop n b)); rest_fits = rw (← r-is) (IsBytes-drop n b fits) },
      rw (← x-is) len,
      rw (← x-is) (IsBytes-take n b fits),
    )

pub parted_again : (n : ℕ) (x r : Bytes) → length x ≡ n → parted n (x ++ r) ≡ Some (x, r)
parted_again n x r len =
    let long : ltb (length (x ++ r)) n ≡ false = le-ltb _ _ (omega (arith, length-append x r)) in
    rw (long, take_at x r n len, drop_at x r n len) refl

-- the two bytes of a value's length
two_below : (x : Bytes) → IsBytes x → big_number 2 x < 2 ^ 16
two_below x fits = omega (arith, fits 0, fits 1)

key_takes : (b k r : Bytes) → IsBytes b → key_at b ≡ Some (k, r) → Takes b (length k ∷ k) r × (length k < 2 ^ 8)
key_takes [] k r fits e = absurd cc
key_takes (n ∷ b) k r fits e =
    let t = parted_takes n b k r (λ i. fits (suc i)) e in
    let low : n < 256 = fits 0 in
    (record { parts = (λ i. sym t.1 i ∷ t.0.parts i); rest_fits = t.0.rest_fits }, omega (arith, low, t.1))

cell_takes : (b : Bytes) (x : Cell × Bytes) → IsBytes b → cell_at b ≡ Some x → Takes b (cell_bytes x.0) x.1 × IfSome x.0 (λ v. length v < 2 ^ 16)
unfolding cell_at
cell_takes [] x fits e = absurd cc
cell_takes (zero ∷ b) x fits e =
    subst (λ (y : Cell × Bytes). Takes (0 ∷ b) (cell_bytes y.0) y.1 × IfSome y.0 (λ v. length v < 2 ^ 16)) (some_is (None, b) x e) (record { parts = refl; rest_fits = λ i. fits (suc i) }, tt)
cell_takes (suc zero ∷ b) x fits e =
    let n = bind_some (parted 2 b) (λ n. parted (big_number 2 n.0) n.1 >>= λ v. Some (Some v.0, v.1)) x e in
    let v = bind_some (parted (big_number 2 n.0.0) n.0.1) (λ v. Some (Some v.0, v.1)) x n.2 in
    let tn = parted_takes 2 b n.0.0 n.0.1 (λ i. fits (suc i)) n.1 in
    let tv = parted_takes (big_number 2 n.0.0) n.0.1 v.0.0 v.0.1 tn.0.rest_fits v.1 in
    let length-is : big_bytes 2 (length v.0.0) ≡ n.0.0 = ap (big_bytes 2) tv.1 ∙ back_2 n.0.0 tn.1 tn.2 in
    let both = Takes-then b n.0.0 n.0.1 v.0.0 v.0.1 tn.0 tv.0 in
    let whole : Takes (1 ∷ b) (cell_bytes (Some v.0.0)) v.0.1 =
    record { parts = ap (λ (t : Bytes). 1 ∷ t) (both.parts ∙ ap (λ (t : Bytes). (t ++ v.0.0) ++ v.0.1) (sym length-is)); rest_fits = both.rest_fits } in
    subst (λ (y : Cell × Bytes). Takes (1 ∷ b) (cell_bytes y.0) y.1 × IfSome y.0 (λ v. length v < 2 ^ 16)) (some_is (Some v.0.0, v.0.1) x v.2) (whole, omega (arith, tv.1, two_below n.0.0 tn.2))
cell_takes (suc (suc t) ∷ b) x fits e = absurd cc

cell_again : (c : Cell) (r : Bytes) → IfSome c (λ v. length v < 2 ^ 16) → cell_at (cell_bytes c ++ r) ≡ Some (c, r)
unfolding cell_at
cell_again None r h = refl
cell_again (Some v) r h =
    let len : length (big_bytes 2 (length v)) ≡ 2 = refl in
    let number : big_number 2 (big_bytes 2 (length v)) ≡ length v = omega (arith, h) in
    rw (parted_again 2 (big_bytes 2 (length v)) (v ++ r) len, parted_again (big_number 2 (big_bytes 2 (length v))) v r (sym number)) refl

pub entry_takes : (b : Bytes) (x : Entry × Bytes) → IsBytes b → entry_at b ≡ Some x → Takes b (entry_bytes x.0) x.1 × IsSpellable x.0
unfolding entry_at
entry_takes b x fits e =
    let k = bind_some (key_at b) (λ k. cell_at k.1 >>= λ c. Some ((k.0, c.0), c.1)) x e in
    let c = bind_some (cell_at k.0.1) (λ c. Some ((k.0.0, c.0), c.1)) x k.2 in
    let tk = key_takes b k.0.0 k.0.1 fits k.1 in
    let tc = cell_takes k.0.1 c.0 tk.0.rest_fits c.1 in
    let both = Takes-then b (length k.0.0 ∷ k.0.0) k.0.1 (cell_bytes c.0.0) c.0.1 tk.0 tc.0 in
    subst (λ (y : Entry × Bytes). Takes b (entry_bytes y.0) y.1 × IsSpellable y.0) (some_is ((k.0.0, c.0.0), c.0.1) x c.2) (both, record { key = tk.1; value = tc.1 })

pub entry_again : (e : Entry) (r : Bytes) → IsSpellable e → entry_at (entry_bytes e ++ r) ≡ Some (e, r)
unfolding entry_at
entry_again e r fits =
    let regrouped : e.0 ++ cell_bytes e.1 ++ r ≡ e.0 ++ (cell_bytes e.1 ++ r) = append_assoc e.0 (cell_bytes e.1) r in
    let key : key_at (entry_bytes e ++ r) ≡ Some (e.0, cell_bytes e.1 ++ r) = ap (parted (length e.0)) regrouped ∙ parted_again (length e.0) e.0 (cell_bytes e.1 ++ r) refl in
    rw (key, cell_again e.1 r fits.value) refl

pub entries_take : (n : ℕ) (b : Bytes) (x : List Entry × Bytes) → IsBytes b → entries_at n b ≡ Some x → Takes b (entries_bytes x.0) x.1 × (length x.0 ≡ n) × AllByRecursion IsSpellable x.0
unfolding entries_at
entries_take zero b x fits e =
    subst (λ (y : List Entry × Bytes). Takes b (entries_bytes y.0) y.1 × (length y.0 ≡ 0) × AllByRecursion IsSpellable y.0) (some_is ([], b) x e) (record { parts = refl; rest_fits = fits }, refl, tt)
entries_take (suc n) b x fits e =
    let a = bind_some (entry_at b) (λ first. entries_at n first.1 >>= λ others. Some (first.0 ∷ others.0, others.1)) x e in
    let o = bind_some (entries_at n a.0.1) (λ others. Some (a.0.0 ∷ others.0, others.1)) x a.2 in
    let first = entry_takes b a.0 fits a.1 in
    let second = entries_take n a.0.1 o.0 first.0.rest_fits o.1 in
    let both = Takes-then b (entry_bytes a.0.0) a.0.1 (entries_bytes o.0.0) o.0.1 first.0 second.0 in
    let made : List Entry × Bytes = (a.0.0 ∷ o.0.0, o.0.1) in
    subst (λ (y : List Entry × Bytes). Takes b (entries_bytes y.0) y.1 × (length y.0 ≡ suc n) × AllByRecursion IsSpellable y.0) (some_is made x o.2)
    (rw flat_map-cons both, ap suc second.1, (first.1, second.2))

pub entries_again : (es : List Entry) (r : Bytes) → AllByRecursion IsSpellable es → entries_at (length es) (entries_bytes es ++ r) ≡ Some (es, r)
unfolding entries_at
entries_again [] r fits = refl
entries_again (e ∷ es) r fits =
    let regrouped : entries_bytes (e ∷ es) ++ r ≡ entry_bytes e ++ (entries_bytes es ++ r) = ap (λ (x : Bytes). x ++ r) (flat_map-cons entry_bytes e es) ∙
    append_assoc (entry_bytes e) (entries_bytes es) r in
    ap (entries_at (suc (length es))) regrouped ∙ rw (entry_again e (entries_bytes es ++ r) fits.0, entries_again es r fits.1) refl
