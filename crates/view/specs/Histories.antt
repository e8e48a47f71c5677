-- The rule of a history, and what its step tells. It is the machinery of proofs.
use Rattle.std.specs.Prelude.{ℕ, ◌≡◌, ◌==◌, true, List, [], ◌∷◌, ◌++◌, length, MatchBool}
use Rattle.logbook.specs.Pages.{Cell, Step, View, Book, Named}
use Rattle.image.specs.Images.{Image}

-- the first word is the length of the history; the second, which each book has, stays 0
pub record IsCounted (cells : List Cell) (log : List Image) : Type 0 where
  pub words : cells ≡ (length log, true) ∷ (0, true) ∷ []

abbrev pub length_word : Book → Named
length_word b = record { tracked = true; key = 0; book = b }

-- where the length was as expected, the image was appended to all that had been seen
abbrev pub Appends : Step Image → View Image ℕ → ℕ → View Image ℕ → Type 0
Appends s before found after = MatchBool (found == s.old) (after.0 ≡ before.0 ++ s.ask ∷ []) (Unit {0})
