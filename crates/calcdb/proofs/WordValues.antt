-- The values that words are, word by word.
use Rattle.std.proofs.Common.{◌≡◌, ◌∙◌, Bool, true, false, List, [], ◌∷◌, ◌++◌, Option, Some, None, if◌then◌else◌, length, nat_le, refl, sym, ap, append_assoc}
use Rattle.std.proofs.lemmas.List.{append-nil}
use Rattle.procedure.specs.Bytes.{Bytes}
use Rattle.procedure.specs.declared.limits.TheConstants.{VALUE_BYTES}
use Rattle.calcdb.specs.Reads.{◌>>=◌}
use Rattle.calcdb.specs.Lines.{first_word}
use Rattle.calcdb.specs.Commands.{values_by}
use Rattle.calcdb.specs.Values.{as_held, held_value_of, value_of}
use Rattle.calcdb.proofs.Readers.{behind}

behind-behind : {X : Type 0} (front : List X) (x : X) (read : Option (List X)) → behind front (read >>= λ xs. Some (x ∷ xs)) ≡ behind (front ++ x ∷ []) read
behind-behind front x None = refl
behind-behind front x (Some xs) = ap (λ (l : List _). Some l) (sym (append_assoc front (x ∷ []) xs))

abbrev nothing : Option (Bytes × List Bytes)
nothing = None

module _ (read : Bytes → Option Bytes) where
  pub value_kept : (front ws rest : List Bytes) (w v : Bytes) → Some (w, rest) ≡ first_word ws → read w ≡ Some v → behind (front ++ v ∷ []) (values_by read rest) ≡ behind front (values_by read ws)
  unfolding values_by
  value_kept front [] rest w v h is = absurd (cc)
  value_kept front (x ∷ ws) rest w v h is =
      let word : x ≡ w = ap (λ (o : Option (Bytes × List Bytes)). elim o [ None ↦ w | Some p ↦ p.0 ]) (sym h) in
      let words : ws ≡ rest = ap (λ (o : Option (Bytes × List Bytes)). elim o [ None ↦ rest | Some p ↦ p.1 ]) (sym h) in
      rw (word, words, is) (sym (behind-behind front v (values_by read rest)))

  pub no_value : (front ws rest : List Bytes) (w : Bytes) → Some (w, rest) ≡ first_word ws → read w ≡ None → behind front (values_by read ws) ≡ None
  unfolding values_by
  no_value front [] rest w h is = absurd (cc)
  no_value front (x ∷ ws) rest w h is =
      let word : x ≡ w = ap (λ (o : Option (Bytes × List Bytes)). elim o [ None ↦ w | Some p ↦ p.0 ]) (sym h) in
      rw (word, is) refl

  pub all_values : (front ws : List Bytes) → nothing ≡ first_word ws → behind front (values_by read ws) ≡ Some front
  unfolding values_by
  all_values front [] h = ap (λ (l : List Bytes). Some l) (append-nil front)
  all_values front (x ∷ ws) h = absurd (cc)

fits_kept : {X : Type 0} (fits : Bool) (b : Bytes) (f : Bytes → Option X) (x : X) → ((if fits then Some b else None) >>= f) ≡ Some x → f b ≡ Some x
fits_kept true b f x is = is
fits_kept false b f x is = absurd (cc)

held_word : {X : Type 0} (v : Option Bytes) (f : Bytes → Option X) (x : X) → ((v >>= as_held) >>= f) ≡ Some x → (v >>= f) ≡ Some x
held_word None f x is = is
held_word (Some b) f x is = fits_kept (nat_le (length b) VALUE_BYTES) b f x is

held_next :
    (b : Bytes) (held read : Option (List Bytes)) (vs : List Bytes) → ((xs : List Bytes) → held ≡ Some xs → read ≡ Some xs) → (held >>= λ xs. Some (b ∷ xs)) ≡ Some vs →
    (read >>= λ xs. Some (b ∷ xs)) ≡ Some vs
held_next b None read vs same is = absurd (cc)
held_next b (Some xs) read vs same is = ap (λ (o : Option (List Bytes)). o >>= λ ys. Some (b ∷ ys)) (same xs refl) ∙ is

held_rest :
    (v : Option Bytes) (held read : Option (List Bytes)) (vs : List Bytes) → ((xs : List Bytes) → held ≡ Some xs → read ≡ Some xs) →
    (v >>= λ b. held >>= λ xs. Some (b ∷ xs)) ≡ Some vs → (v >>= λ b. read >>= λ xs. Some (b ∷ xs)) ≡ Some vs
held_rest None held read vs same is = is
held_rest (Some b) held read vs same is = held_next b held read vs same is

-- Values that are none too long for a key to hold are values.
pub held_values : (ws vs : List Bytes) → values_by held_value_of ws ≡ Some vs → values_by value_of ws ≡ Some vs
unfolding values_by
held_values [] vs is = is
held_values (w ∷ ws) vs is =
    held_rest (value_of w) (values_by held_value_of ws) (values_by value_of ws) vs (held_values ws)
    (held_word (value_of w) (λ b. values_by held_value_of ws >>= λ xs. Some (b ∷ xs)) vs is)
