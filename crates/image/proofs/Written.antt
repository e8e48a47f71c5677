-- Bytes that are written one after another, and a call that fails between.
use Rattle.std.proofs.Common.{◌≡◌, ◌<◌, ◌≤◌, ℕ, ◌+◌, ◌-◌, ◌^◌, [], ◌∷◌, ◌++◌, length, take, drop, Ok, Err, OnOk, OnErr, ap, ◌∙◌, arith}
use Rattle.std.specs.Result.{IsErrAnd}
use Rattle.std.specs.declared.result.Result.{Result}
use Rattle.std.proofs.Math.Seq.{drop-append_seam}
use Rattle.std.proofs.lemmas.List.{length-append, length-drop, take_all}
use Rattle.byteorder.specs.Endian.{big_bytes}
use Rattle.procedure.specs.Bytes.{Bytes}
use Rattle.procedure.proofs.Passes.{written_then}
use Rattle.image.specs.Images.{Image}
use Rattle.image.specs.ImageBytes.{image_header_bytes, kind_byte}
use Rattle.image.specs.declared.limits.TheConstants.{ENTRIES}

pub no_less : (a b c : ℕ) → a ≤ b → b ≤ c → a ≤ c
no_less a b c one two = omega arith

pub length_written : (out mid first : Bytes) → mid ≡ out ++ first → length mid ≡ length out + length first
length_written out mid first wrote = ap (λ (o : Bytes). length o) wrote ∙ length-append out first

-- bytes that were written, of which a slice begins where those before them end
module _ (out mid first : Bytes) (start : ℕ) (wrote : mid ≡ out ++ first) (is : start ≡ length out) where
  pub part_within : (here : Bytes) → here ≡ mid → start ≤ length here
  part_within here lent = omega (arith, ap (λ (o : Bytes). length o) lent, length_written out mid first wrote)

  pub part_is : (here : Bytes) → here ≡ mid → take (length here - start) (drop start here) ≡ first
  part_is here lent =
      take_all (length here - start) (drop start here) (omega (arith, length-drop start here))
      ∙ (λ i. drop (is i) ((lent ∙ wrote) i))
      ∙ drop-append_seam out first

  -- a digest of the slice is one of these bytes
  pub digest_is : (f : Bytes → Bytes) (digest here : Bytes) → here ≡ mid → digest ≡ f (take (length here - start) (drop start here)) → digest ≡ f first
  digest_is f digest here lent made = made ∙ ap f (part_is here lent)

  pub digest_then : (f : Bytes → Bytes) (digest here new : Bytes) → here ≡ mid → digest ≡ f (take (length here - start) (drop start here)) → new ≡ mid ++ digest → new ≡ out ++ (first ++ f first)
  digest_then f digest here new lent made more = written_then out mid new first digest wrote more ∙ ap (λ (d : Bytes). out ++ (first ++ d)) (digest_is f digest here lent made)

  -- no room for n bytes behind them
  pub no_room : (size n k cap more : ℕ) → n ≡ k → size ≡ length mid → cap ≤ more → more < size + n → cap < start + length first + k
  no_room size n k cap more same sized grown full = omega (arith, length_written out mid first wrote)

pub less_than_more : (a b n : ℕ) → a < b → a < b + n
less_than_more a b n lt = omega arith

-- a call that fails says nothing of success, and what holds holds at its failure
pub never_ok : {T E : Type 0} (P : Type 0) (Q : E → Type 0) (r : Result T E) → IsErrAnd r Q → OnOk r P
never_ok P Q (Ok x) h = absurd h
never_ok P Q (Err e) h = tt

pub at_ok : {T E : Type 0} {P : Type 0} (r : Result T E) → P → OnOk r P
at_ok (Ok x) p = p
at_ok (Err e) p = tt

pub at_err : {T E : Type 0} {P : Type 0} (r : Result T E) → P → OnErr r P
at_err (Ok x) p = tt
at_err (Err e) p = p

-- the parts of a header, one after another
module _ (magic out o1 o2 o3 o4 o5 new : Bytes) (i : Image) (kind number base place count : ℕ) where
  pub header_written : o1 ≡ out ++ magic → o2 ≡ o1 ++ (kind ∷ []) → o3 ≡ o2 ++ big_bytes 8 number → o4 ≡ o3 ++ big_bytes 8 base → o5 ≡ o4 ++ big_bytes 8 place → new ≡ o5 ++ big_bytes 4 count →
      kind ≡ kind_byte i.kind → number ≡ i.number → base ≡ i.base → place ≡ i.place → count ≡ length i.entries → new ≡ out ++ image_header_bytes magic i
  unfolding image_header_bytes
  header_written e1 e2 e3 e4 e5 e6 is_kind is_number is_base is_place is_count =
      let m2 = magic ++ (kind ∷ []) in
      let m3 = m2 ++ big_bytes 8 number in
      let m4 = m3 ++ big_bytes 8 base in
      let m5 = m4 ++ big_bytes 8 place in
      let w2 = written_then out o1 o2 magic (kind ∷ []) e1 e2 in
      let w3 = written_then out o2 o3 m2 (big_bytes 8 number) w2 e3 in
      let w4 = written_then out o3 o4 m3 (big_bytes 8 base) w3 e4 in
      let w5 = written_then out o4 o5 m4 (big_bytes 8 place) w4 e5 in
      written_then out o5 new m5 (big_bytes 4 count) w5 e6
      ∙ (λ j. out ++ (((((magic ++ (is_kind j ∷ [])) ++ big_bytes 8 (is_number j)) ++ big_bytes 8 (is_base j)) ++ big_bytes 8 (is_place j)) ++ big_bytes 4 (is_count j)))

pub few_fit : (n : ℕ) → n ≤ ENTRIES → n < 2 ^ 32
few_fit n few = omega arith
