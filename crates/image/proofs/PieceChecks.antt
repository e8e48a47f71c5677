-- Entries that are looked at one after another: they are an image's where each fits and keys rise.
use Rattle.std.proofs.Common.{◌≡◌, ◌≤◌, ◌<◌, ◌^◌, arith, drop, ℕ, Bool, true, false, List, [], ◌∷◌, length, Option, Some, None, IsTrue, IsSome, ◌↔◌, refl, sym, ap, subst, ◌∙◌}
use Rattle.std.specs.Prelude.{◌&&◌, IfSome, slice_index}
use Rattle.byteorder.specs.Endian.{big_number}
use Rattle.procedure.specs.declared.limits.TheConstants.{VALUE_BYTES}
use Rattle.image.specs.Readings.{IsBad, image_at, kind_of}
use Rattle.std.specs.Ordering.{is_lt}
use Rattle.std.specs.List.{AllByRecursion}
use Rattle.std.proofs.lemmas.List.Elements.{All-cons, All-head, All-nil, All-tail}
use Rattle.procedure.specs.Bytes.{Bytes, Cell}
use Rattle.image.specs.ImageBytes.{IsWithin, IsWritable}
use Rattle.image.specs.Images.{AllPresent, Entry, IsLawfulImage, Image, SuitsKind}
use Rattle.image.specs.inside.Pieces.{AreLawful, AreParts, Fits, IsBased, is_above, rise_from}
use Rattle.image.specs.declared.images.Kind.{Kind}
use Rattle.image.specs.declared.images.Kind.TheVariants.{Full, Partial}
use Rattle.image.proofs.Rising.{below_next, by_bytes, steps_up, steps_up-is_sorted}

module _ (most : ℕ) (kind : Kind) (all : List Entry) where
  -- all are an image's exactly where those that are left are one's, above the last
  pub record SoFar (last : Option Bytes) (left : List Entry) : Type 0 where
    pub all_fit : AllByRecursion (Fits most kind) left → AllByRecursion (Fits most kind) all
    pub left_fit : AllByRecursion (Fits most kind) all → AllByRecursion (Fits most kind) left
    pub rise : rise_from last left ≡ rise_from None all

  pub none_looked : SoFar None all
  none_looked = record { all_fit = λ h. h; left_fit = λ h. h; rise = refl }

  module _ (last : Option Bytes) (left : List Entry) (s : SoFar last left) where
    pub all_looked : left ≡ [] → IsTrue true ↔ AreLawful most kind all
    all_looked none = (
      λ _. record { fit = s.all_fit (subst (AllByRecursion (Fits most kind)) (sym none) tt); rise = sym s.rise ∙ ap (rise_from last) none },
      λ _. refl,
    )

    module _ (e : Entry) (rest : List Entry) (is : left ≡ e ∷ rest) where
      rises : rise_from last left ≡ (is_above last e.0 && rise_from (Some e.0) rest)
      rises = ap (rise_from last) is

      pub looked_on : Fits most kind e → is_above last e.0 ≡ true → SoFar (Some e.0) rest
      looked_on fits above = record {
        all_fit = λ h. s.all_fit (subst (AllByRecursion (Fits most kind)) (sym is) (fits, h));
        left_fit = λ h. (subst (AllByRecursion (Fits most kind)) is (s.left_fit h)).1;
        rise = sym (ap (λ (b : Bool). b && rise_from (Some e.0) rest) above) ∙ sym rises ∙ s.rise;
      }

      pub unfit : (Fits most kind e → ⊥) → IsTrue false ↔ AreLawful most kind all
      unfit not = (λ no. absurd (cc), λ lawful. absurd (not (subst (AllByRecursion (Fits most kind)) is (s.left_fit lawful.fit)).0))

      pub falls : is_above last e.0 ≡ false → IsTrue false ↔ AreLawful most kind all
      falls below =
          let no : rise_from None all ≡ false = sym s.rise ∙ rises ∙ ap (λ (b : Bool). b && rise_from (Some e.0) rest) below in
          (λ wrong. absurd (cc), λ lawful. let both : false ≡ true = sym no ∙ lawful.rise in absurd (cc))

-- ---- what an image asks of its entries

above_is : (k : Bytes) (es : List Entry) → rise_from (Some k) es ≡ (below_next k es && steps_up es)
above_is k [] = refl
above_is k (e ∷ es) = ap (λ (b : Bool). is_lt (by_bytes k e.0) && b) (above_is e.0 es)

steps_are : (es : List Entry) → rise_from None es ≡ steps_up es
steps_are [] = refl
steps_are (e ∷ es) = above_is e.0 es

within : (most : ℕ) (kind : Kind) (es : List Entry) → AllByRecursion (Fits most kind) es → AllByRecursion (IsWithin most) es
within most kind [] h = tt
within most kind (e ∷ es) h = (h.0.0, within most kind es h.1)

all_hold : (most : ℕ) (es : List Entry) → AllByRecursion (Fits most Full) es → AllPresent es
all_hold most [] h = All-nil (λ (e : Entry). IsSome e.1)
all_hold most (e ∷ es) h = All-cons (λ (e : Entry). IsSome e.1) e es h.0.1 (all_hold most es h.1)

suits : (most : ℕ) (kind : Kind) (number base : ℕ) (es : List Entry) → IsBased kind number base → AllByRecursion (Fits most kind) es → SuitsKind kind number base es
suits most Full number base es based h = (based, all_hold most es h)
suits most Partial number base es based h = based

fit_full : (most : ℕ) (es : List Entry) → AllByRecursion (IsWithin most) es → AllPresent es → AllByRecursion (Fits most Full) es
fit_full most [] h present = tt
fit_full most (e ∷ es) h present =
    ((h.0, All-head (λ (e : Entry). IsSome e.1) e es present), fit_full most es h.1 (All-tail (λ (e : Entry). IsSome e.1) e es present))

fit_partial : (most : ℕ) (es : List Entry) → AllByRecursion (IsWithin most) es → AllByRecursion (Fits most Partial) es
fit_partial most [] h = tt
fit_partial most (e ∷ es) h = ((h.0, tt), fit_partial most es h.1)

fit : (most : ℕ) (kind : Kind) (number base : ℕ) (es : List Entry) → AllByRecursion (IsWithin most) es → SuitsKind kind number base es → IsBased kind number base × AllByRecursion (Fits most kind) es
fit most Full number base es h suits = (suits.0, fit_full most es h suits.1)
fit most Partial number base es h suits = (suits, fit_partial most es h)

abbrev pub made_of : Kind → (number base place : ℕ) → List Entry → Image
made_of kind number base place es = record { kind = kind; number = number; base = base; place = place; entries = es }

abbrev some_image : Image → Option Image
some_image i = Some i

image_same : (i j : Image) → some_image i ≡ some_image j → i ≡ j
image_same i j h = cc

value_wider : (most : ℕ) (c : Cell) → most ≤ VALUE_BYTES → IfSome c (λ v. length v ≤ most) → IfSome c (λ v. length v ≤ VALUE_BYTES)
value_wider most None small h = tt
value_wider most (Some v) small h = omega (arith, h, small)

wider : (most : ℕ) (e : Entry) → most ≤ VALUE_BYTES → IsWithin most e → IsWithin VALUE_BYTES e
wider most e small w = record { not_empty = w.not_empty; key = w.key; value = value_wider most e.1 small w.value }

module _ (most : ℕ) (kind : Kind) (number base place : ℕ) (es : List Entry) where
  lawful_image : AreParts most kind number base es → IsLawfulImage (made_of kind number base place es)
  lawful_image (few, based, l) = record { few = few; rises = sym (steps_up-is_sorted es) ∙ sym (steps_are es) ∙ l.rise; kind = suits most kind number base es based l.fit }

  of_lawful : IsLawfulImage (made_of kind number base place es) → AllByRecursion (IsWithin most) es → AreParts most kind number base es
  of_lawful l h =
      let (based, fits) = fit most kind number base es h l.kind in
      (l.few, based, record { fit = fits; rise = steps_are es ∙ steps_up-is_sorted es ∙ l.rises })

  pub writable : number < 2 ^ 64 → base < 2 ^ 64 → place < 2 ^ 64 → AreParts most kind number base es → IsWritable most (made_of kind number base place es)
  writable n b p parts = record { lawful = lawful_image parts; numbers = record { number = n; base = b; place = p }; entries = within most kind es parts.2.fit }

  -- the image of a header and these entries
  module _ (b : Bytes) (is : kind_of (slice_index b 8) ≡ Some kind) (n : number ≡ big_number 8 (drop 9 b)) (m : base ≡ big_number 8 (drop 17 b)) (p : place ≡ big_number 8 (drop 25 b)) where
    pub image_is : image_at b es ≡ Some (made_of kind number base place es)
    unfolding image_at
    image_is = rw (is, n, m, p) refl

    pub bad : (AreParts most kind number base es → ⊥) → IsBad most b es
    bad none i at fits =
        let same = image_same i (made_of kind number base place es) (sym at ∙ image_is) in
        let made = subst (IsWritable most) same fits in
        none (of_lawful made.lawful made.entries)

-- pieces that are an image's have room in an entry
pub all_within : (most : ℕ) (kind : Kind) (es : List Entry) → most ≤ VALUE_BYTES → AllByRecursion (Fits most kind) es → AllByRecursion (IsWithin VALUE_BYTES) es
all_within most kind [] small h = tt
all_within most kind (e ∷ es) small h = (wider most e small h.0.0, all_within most kind es small h.1)
