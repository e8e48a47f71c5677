-- What is said, line by line.
use Rattle.std.proofs.Common.{◌≡◌, ◌<◌, ℕ, true, false, List, [], ◌∷◌, ◌++◌, length, Option, Some, None, refl, ap, ◌∙◌, arith, lt-ltb}
use Rattle.procedure.specs.Bytes.{Bytes}
use Rattle.procedure.specs.Catalogs.{procedure_fault}
use Rattle.procedure.specs.Procedures.{Procedure}
use Rattle.procedure.specs.declared.limits.TheConstants.{PROCEDURES}
use Rattle.calcdb.specs.Lines.{is_line_feed, is_skipped, left_lines, pieces, without_return, without_returns, words}
use Rattle.calcdb.specs.Preambles.{Block, IsLawfulSaid, Said, ends_block, heading_of, in_block, is_command_line, longer_block, open_count, preamble_after, preamble_said, said_after_heading, said_after_words, with_block}
use Rattle.calcdb.proofs.Lawful.{one_longer, one_more}

pub block_goes_on : (s : Said) (b d : Block) (ws : List Bytes) → ends_block ws ≡ false → longer_block b ws ≡ Some d → in_block s b ws ≡ Some (record s { block = Some d })
unfolding in_block
block_goes_on s b d ws e is = rw (e, is) refl

pub block_opens : (s : Said) (n : ℕ) (ws : List Bytes) (name : Bytes) (arity : ℕ) → length s.procedures < PROCEDURES → heading_of s.names ws ≡ Some (name, arity) →
    said_after_heading s n ws ≡ Some (with_block s name (record { line = n; arity = arity; code = [] }))
unfolding said_after_heading
block_opens s n ws name arity room is = rw (is, lt-ltb (length s.procedures) PROCEDURES room) refl

pub one_procedure_more : (s : Said) (p : Procedure) (ps : List Procedure) → IsLawfulSaid s → s.block ≡ None → length s.procedures < PROCEDURES → procedure_fault p ≡ None →
    ps ≡ s.procedures ++ p ∷ [] →
    IsLawfulSaid (record s { procedures = ps })
one_procedure_more s p ps lawful out room is pushed =
    let more = one_longer s.procedures ps p pushed in
    let none : open_count s.block ≡ 0 = ap open_count out in
    record {
      procedures = rw pushed (one_more procedure_fault s.procedures p lawful.procedures is);
      room = omega (arith, more, none, room);
    }

pub in_words : (s : Said) (n : ℕ) (b : Block) (ws : List Bytes) → is_skipped ws ≡ false → s.block ≡ Some b → in_block (record s { block = None }) b ws ≡ said_after_words s n ws
unfolding in_block
in_words s n b ws e is = rw (e, is) refl

pub nothing_left : (s : Said) (n : ℕ) (o : Option Bytes) → o ≡ None → preamble_after s n (left_lines o) ≡ preamble_said s n (left_lines None)
unfolding preamble_after
nothing_left s n o is = rw is refl

-- a command's line ends it
pub command_ends : (s : Said) (n : ℕ) (l : Bytes) (ls : List Bytes) → is_command_line s (words l) ≡ true → preamble_after s n (l ∷ ls) ≡ preamble_said s n (l ∷ ls)
unfolding preamble_after
command_ends s n l ls is = rw is refl

-- and so does the first of the lines that are left, where it is a command's
pub command_left : (s : Said) (n : ℕ) (left : Option Bytes) (text found line : Bytes) (behind : List Bytes) → left ≡ Some text → pieces is_line_feed text ≡ found ∷ behind → line ≡ without_return found →
    is_command_line s (words line) ≡ true → preamble_after s n (left_lines left) ≡ preamble_said s n (left_lines left)
command_left s n left text found line behind is split line_is command =
    let whole : left_lines left ≡ without_return found ∷ without_returns behind = ap left_lines is ∙ ap without_returns split in
    let first : is_command_line s (words (without_return found)) ≡ true = rw line_is at command in
    rw whole (command_ends s n (without_return found) (without_returns behind) first)
