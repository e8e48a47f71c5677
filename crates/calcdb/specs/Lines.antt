-- A text as lines, and a line as words.
use Rattle.std.specs.Prelude.{ℕ, ◌==◌, ◌-◌, Bool, true, ◌||◌, ◌&&◌, if◌then◌else◌, nat_le, List, [], ◌∷◌, length, take, slice_index_or, Option, Some, None}
use Rattle.procedure.specs.Bytes.{Bytes}
use Rattle.calcdb.specs.Reads.{◌>>=◌}

-- a byte in front of the first piece
abbrev pub led_by : ℕ → List Bytes → List Bytes
led_by b [] = []
led_by b (p ∷ ps) = (b ∷ p) ∷ ps

-- what stands before, between and behind the bytes that pass
abbrev pub pieces : (ℕ → Bool) → Bytes → List Bytes
pieces ends [] = [] ∷ []
pieces ends (b ∷ bs) = if ends b then [] ∷ pieces ends bs else led_by b (pieces ends bs)

abbrev pub is_line_feed : ℕ → Bool
is_line_feed b = b == 10

-- a line without the carriage return at its end, of several the last
abbrev pub without_return : Bytes → Bytes
without_return line = if slice_index_or line (length line - 1) 0 == 13 then take (length line - 1) line else line

abbrev pub without_returns : List Bytes → List Bytes
without_returns [] = []
without_returns (l ∷ ls) = without_return l ∷ without_returns ls

-- the lines of a text; behind a last line feed stands one without bytes
abbrev pub lines : Bytes → List Bytes
lines text = without_returns (pieces is_line_feed text)

-- a space or a tab
abbrev pub is_blank : ℕ → Bool
is_blank b = (b == 32) || (b == 9)

abbrev pub not_empty : List Bytes → List Bytes
not_empty [] = []
not_empty ([] ∷ ps) = not_empty ps
not_empty ((b ∷ bs) ∷ ps) = (b ∷ bs) ∷ not_empty ps

-- the words of a line
abbrev pub words : Bytes → List Bytes
words line = not_empty (pieces is_blank line)

-- the bytes that a line may have: from space to `~`, and the tab
abbrev pub is_allowed : ℕ → Bool
is_allowed b = (b == 9) || (nat_le 32 b && nat_le b 126)

abbrev pub all_pass : (ℕ → Bool) → Bytes → Bool
all_pass p [] = true
all_pass p (b ∷ bs) = p b && all_pass p bs

-- begins with `;`
abbrev pub is_comment : Bytes → Bool
is_comment w = slice_index_or w 0 0 == 59

-- without words, or with a first word that begins with `;`
abbrev pub is_skipped : List Bytes → Bool
is_skipped [] = true
is_skipped (w ∷ ws) = is_comment w

-- the pieces of what is left, if anything is
abbrev pub left_pieces : (ℕ → Bool) → Option Bytes → List Bytes
left_pieces ends None = []
left_pieces ends (Some text) = pieces ends text

-- the lines of what is left
abbrev pub left_lines : Option Bytes → List Bytes
left_lines text = without_returns (left_pieces is_line_feed text)

-- a word, and those behind it
abbrev pub first_word : List Bytes → Option (Bytes × List Bytes)
first_word [] = None
first_word (w ∷ ws) = Some (w, ws)

-- what the first word is read as, and the words behind it
abbrev pub word_as : {X : Type 0} → (Bytes → Option X) → List Bytes → Option (X × List Bytes)
word_as read ws = do
  w ← first_word ws
  x ← read w.0
  Some (x, w.1)

abbrev pub no_word : List Bytes → Option (Unit {0})
no_word [] = Some tt
no_word (w ∷ ws) = None

-- what the word is read as that stands alone
abbrev pub alone_as : {X : Type 0} → (Bytes → Option X) → List Bytes → Option X
alone_as read ws = do
  x ← word_as read ws
  _ ← no_word x.1
  Some x.0
