-- What `get` of a slice answers.
use Rattle.std.proofs.Common.{◌≡◌, ℕ, ◌<◌, ◌≤◌, List, length, Option, Some, None, Bor, IsSome, slice_get, option_copied, refl, sym}
use Rattle.std.specs.Option.{MatchOption}
use Rattle.std.specs.List.{HoldsAt}
use Rattle.std.proofs.lemmas.Bool.{false≢true}
use Rattle.std.proofs.lemmas.Option.{slice_get_past, slice_get_read}

pub copied_get : {X : Type 0} (o : Option (Bor X)) (xs : List X) (i : ℕ) → MatchOption o (length xs ≤ i) (λ x. (i < length xs) × HoldsAt (λ y. x.now ≡ y) xs i) → option_copied o ≡ slice_get xs i
copied_get None xs i past = sym (slice_get_past xs i past)
copied_get (Some x) xs i here = sym (slice_get_read xs (length xs) i x.now refl here.0 (here.1 x.now))

pub get_within : {X : Type 0} (o : Option (Bor X)) (xs : List X) (i : ℕ) → MatchOption o (length xs ≤ i) (λ x. (i < length xs) × HoldsAt (λ y. x.now ≡ y) xs i) → IsSome o → i < length xs
get_within None xs i past is = absurd (false≢true is)
get_within (Some x) xs i here is = here.0
