-- Reading a body from left to right: what was read, and the bytes after it. None where it isn't so spelled.
use Rattle.std.specs.Prelude.{◌≡◌, ℕ, zero, suc, List, [], ◌∷◌, length, take, drop, Option, Some, None, Result, Ok, Err, nat_lt, ◌==◌, if◌then◌else◌}
use Rattle.byteorder.specs.Endian.{big_number}
use Rattle.procedure.specs.Bytes.{Bytes, Cell}
use Rattle.phase.specs.declared.phases.Phase.{Phase}
use Rattle.phase.specs.declared.phases.Phase.TheVariants.{Rest, Prepare, Resolve, Capture, Complete}
use Rattle.commitlog.specs.Records.{Record, Token, Call, IsInRange}
use Rattle.commitlog.specs.declared.bodies.BodyError.{BodyError}
use Rattle.commitlog.specs.declared.bodies.BodyError.TheVariants as errors

abbrev pub Read : Type 0 → Type 0
Read X = Option (X × Bytes)

infixl 10 ◌>>=◌
abbrev pub ◌>>=◌ : {A B : Type 0} → Option A → (A → Option B) → Option B
None >>= f = None
(Some x) >>= f = f x

-- what a function returned, seen by view, is what reading gives, unless memory ran out
abbrev pub Fails : {Y : Type 0} → BodyError → Option Y → Type 0
Fails errors.NoMemory read = Unit {0}
Fails errors.Malformed read = read ≡ None

abbrev pub Gives : {X Y : Type 0} → (X → Y) → Result X BodyError → Option Y → Type 0
Gives view (Ok x) read = read ≡ Some (view x)
Gives view (Err e) read = Fails e read

abbrev pub byte_in : Bytes → Read ℕ
byte_in [] = None
byte_in (b ∷ rest) = Some (b, rest)

-- a number of n bytes
abbrev pub number_in : ℕ → Bytes → Read ℕ
number_in n bytes = if nat_lt (length bytes) n then None else Some (big_number n bytes, drop n bytes)

-- a value of at most so many bytes
unfoldable pub value_in : ℕ → Bytes → Read Bytes
value_in most bytes = do
  n ← number_in 2 bytes
  if nat_lt most n.0 then None else if nat_lt (length n.1) n.0 then None else Some (take n.0 n.1, drop n.0 n.1)

unfoldable pub reply_in : ℕ → Bytes → Read Cell
reply_in most [] = None
reply_in most (zero ∷ rest) = Some (None, rest)
reply_in most (suc zero ∷ rest) = do
  v ← value_in most rest
  Some (Some v.0, v.1)
reply_in most (suc (suc b) ∷ rest) = None

-- so many of them
unfoldable pub many : {X : Type 0} → (Bytes → Read X) → ℕ → Bytes → Read (List X)
many one zero bytes = Some ([], bytes)
many one (suc n) bytes = do
  first ← one bytes
  others ← many one n first.1
  Some (first.0 ∷ others.0, others.1)

-- a count, and so many of them
unfoldable pub arguments_in : ℕ → Bytes → Read (List Bytes)
arguments_in most bytes = do
  n ← byte_in bytes
  many (value_in most) n.0 n.1

unfoldable pub replies_in : ℕ → Bytes → Read (List Cell)
replies_in most bytes = do
  n ← byte_in bytes
  many (reply_in most) n.0 n.1

abbrev pub phase_in : ℕ → Option Phase
phase_in zero = Some Rest
phase_in (suc zero) = Some Prepare
phase_in (suc (suc zero)) = Some Resolve
phase_in (suc (suc (suc zero))) = Some Capture
phase_in (suc (suc (suc (suc zero)))) = Some Complete
phase_in (suc (suc (suc (suc (suc n))))) = None

unfoldable pub token_in : Bytes → Option Record
token_in bytes = do
  code ← byte_in bytes
  p ← phase_in code.0
  n ← number_in 8 code.1
  if length n.1 == 0 then Some (Token p n.0) else None

unfoldable pub call_in : ℕ → Bytes → Option Record
call_in most bytes = do
  s ← number_in 2 bytes
  n ← number_in 8 s.1
  p ← number_in 2 n.1
  args ← arguments_in most p.1
  o ← byte_in args.1
  r ← replies_in most o.1
  if length r.1 == 0 then Some (Call s.0 n.0 p.0 args.0 o.0 r.0) else None

-- a record, whatever its ranges, of all of the bytes
unfoldable pub record_in : ℕ → Bytes → Option Record
record_in most [] = None
record_in most (zero ∷ rest) = token_in rest
record_in most (suc zero ∷ rest) = call_in most rest
record_in most (suc (suc b) ∷ rest) = None

-- ---- reading past something, without making it

-- what a function returned, seen by view, is what is left after something that was read; it fails where nothing is
abbrev pub Passes : {X Y : Type 0} → (Y → Bytes) → Result Y BodyError → Read X → Type 0
Passes {X} view (Ok rest) read = (x : X) × (read ≡ Some (x, view rest))
Passes view (Err e) read = read ≡ None

-- the same of so many, one after another
abbrev pub PassesMany : {X Y : Type 0} → (Y → Bytes) → Result Y BodyError → (Bytes → Read X) → ℕ → Bytes → Type 0
PassesMany {X} view (Ok rest) one n bytes = (xs : List X) × (many one n bytes ≡ Some (xs, view rest)) × (length xs ≡ n)
PassesMany view (Err e) one n bytes = many one n bytes ≡ None

-- what was read is a record within its ranges
abbrev pub IsLawful : Option Record → Type 0
IsLawful None = ⊥
IsLawful (Some r) = IsInRange r
