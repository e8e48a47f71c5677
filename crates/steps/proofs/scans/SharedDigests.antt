-- Entries that fit the header of others make their image, unless two lists share a digest.
use Rattle.std.proofs.Common.{◌≡◌, ◌≢◌, ◌⊎◌, inl, inr, List, [], ◌∷◌, Some, None, refl, sym, ap, ◌∙◌, true≢false}
use Rattle.procedure.specs.Bytes.{Bytes, Cell, same}
use Rattle.procedure.proofs.Base.{keys, same_refl}
use Rattle.image.specs.Headers.{assembled}
use Rattle.image.specs.Images.{Entry}
use Rattle.steps.specs.Streaming.{HeadersFix}

bytes_differ : (a b : Bytes) → (a ≡ b) ⊎ (a ≢ b)
bytes_differ a b = elim (keys a b) [
  | inl e ↦ inl e
  | inr f ↦ inr (λ e. true≢false (sym (ap (λ z. same z b) e ∙ same_refl b) ∙ f))
]

cells_differ : (x y : Cell) → (x ≡ y) ⊎ (x ≢ y)
cells_differ None None = inl refl
cells_differ None (Some b) = inr (λ e. cc)
cells_differ (Some a) None = inr (λ e. cc)
cells_differ (Some a) (Some b) = elim (bytes_differ a b) [
  | inl e ↦ inl (ap (λ z. Some z) e)
  | inr f ↦ inr (λ e. f (cc))
]

entries_differ : (d e : Entry) → (d ≡ e) ⊎ (d ≢ e)
entries_differ (k, x) (l, y) = elim (bytes_differ k l) [
  | inr f ↦ inr (λ e. f (ap (λ (d : Entry). d.0) e))
  | inl same ↦ elim (cells_differ x y) [
    | inr f ↦ inr (λ e. f (ap (λ (d : Entry). d.1) e))
    | inl too ↦ inl (ap (λ z. (z, x)) same ∙ ap (λ z. (l, z)) too)
  ]
]

lists_differ : (es fs : List Entry) → (es ≡ fs) ⊎ (es ≢ fs)
lists_differ [] [] = inl refl
lists_differ [] (f ∷ fs) = inr (λ e. cc)
lists_differ (e ∷ es) [] = inr (λ e. cc)
lists_differ (e ∷ es) (f ∷ fs) = elim (entries_differ e f) [
  | inr differs ↦ inr (λ is. differs (cc))
  | inl same ↦ elim (lists_differ es fs) [
    | inr differ ↦ inr (λ is. differ (cc))
    | inl too ↦ inl (ap (λ z. z ∷ es) same ∙ ap (λ z. f ∷ z) too)
  ]
]

pub headers_fix : HeadersFix
headers_fix h given es one other = elim (lists_differ es given) [
  | inl same ↦ inl (ap (assembled h) same)
  | inr differ ↦ inr (differ, sym other.chain ∙ one.chain)
]
