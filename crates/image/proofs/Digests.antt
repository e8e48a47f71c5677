-- Digests that are compared, and an entry's bytes that are fed in turn.
use Rattle.std.proofs.Common.{◌≡◌, Bool, true, false, [], ◌∷◌, ◌++◌, length, Some, append_assoc, refl, sym, ap, ◌∙◌, subst}
use Rattle.std.specs.Prelude.{not, nat_eq}
use Rattle.std.specs.Cmp.Lexicographic.{pointwise, bytes_decides}
use Rattle.byteorder.specs.Endian.{big_bytes}
use Rattle.sha2.specs.Sha256.{sha256}
use Rattle.procedure.specs.Bytes.{Bytes, Cell}
use Rattle.image.specs.Images.{Entry}
use Rattle.image.specs.EntryBytes.{entry_bytes}
use Rattle.image.specs.Headers.{linked}

opposite : (b : Bool) → not b ≡ false → b ≡ true
opposite true h = refl
opposite false h = sym h

-- two digests that don't differ are one
pub alike : (x y : Bytes) → not (pointwise nat_eq x y) ≡ false → x ≡ y
alike x y h = (bytes_decides x y).0 (opposite _ h)

pub differ : (x y : Bytes) → not (pointwise nat_eq x y) ≡ true → x ≡ y → ⊥
differ x y h e = let one : not true ≡ true = subst (λ b. not b ≡ true) ((bytes_decides x y).1 e) h in absurd (cc)

-- bytes that were compared
pub same_bytes : (x y : Bytes) → pointwise nat_eq x y ≡ true → x ≡ y
same_bytes x y h = (bytes_decides x y).0 h

pub other_bytes : (x y : Bytes) → pointwise nat_eq x y ≡ false → x ≡ y → ⊥
other_bytes x y h e = let no : true ≡ false = sym ((bytes_decides x y).1 e) ∙ h in absurd (cc)

-- the pieces of an entry's bytes, one after another
in_pieces : (chain key v n : Bytes) → ((((((chain ++ (length key ∷ [])) ++ key) ++ (1 ∷ [])) ++ n) ++ v)) ≡ chain ++ ((((length key ∷ []) ++ key) ++ (((1 ∷ []) ++ n) ++ v)))
in_pieces chain key v n = simp append_assoc

pub is_linked : (chain given key k w v n : Bytes) (x : Cell) (e : Entry) →
    given ≡ chain → key ≡ k → n ≡ big_bytes 2 (length w) → w ≡ v → x ≡ Some v → (k, x) ≡ e →
    sha256 (((((given ++ (length key ∷ [])) ++ key) ++ (1 ∷ [])) ++ n) ++ w) ≡ linked chain e
is_linked chain given key k w v n x e is_chain is_key is_length is_value is_present is_entry =
    ap sha256 (in_pieces given key w n)
    ∙ (λ i. sha256 (is_chain i ++ (((length (is_key i) ∷ []) ++ is_key i) ++ (((1 ∷ []) ++ is_length i) ++ w))))
    ∙ ap (λ (u : Bytes). sha256 (chain ++ entry_bytes (k, Some u))) is_value
    ∙ ap (λ (y : Cell). sha256 (chain ++ entry_bytes (k, y))) (sym is_present)
    ∙ ap (linked chain) is_entry
