-- Reading from left to right: what stands at the front of a text, lawful or not, and what stands behind it.
use Rattle.std.specs.Prelude.{◌≡◌, ℕ, zero, suc, ◌-◌, min, List, [], ◌∷◌, ◌++◌, length, take, drop, Option, Some, None, Ok, Err, nat_lt, nat_eq, if◌then◌else◌}
use Rattle.std.specs.declared.result.Result.{Result}
use Rattle.std.specs.Cmp.Lexicographic.{pointwise}
use Rattle.byteorder.specs.Endian.{big_number}
use Rattle.sha2.specs.Sha256.{sha256}
use Rattle.procedure.specs.Bytes.{Bytes, Cell}
use Rattle.image.specs.Images.{Entry}
use Rattle.image.specs.declared.limits.TheConstants.{BLOCK}
use Rattle.image.specs.declared.errors.ReadError.{ReadError}
use Rattle.image.specs.declared.errors.ReadError.TheVariants as refused

infixl 10 ◌>>=◌
abbrev pub ◌>>=◌ : {X Y : Type 0} → Option X → (X → Option Y) → Option Y
None >>= f = None
(Some x) >>= f = f x

-- n bytes, and those after them
abbrev pub parted : ℕ → Bytes → Option (Bytes × Bytes)
parted n b = if nat_lt (length b) n then None else Some (take n b, drop n b)

-- bytes behind their number
abbrev pub key_at : Bytes → Option (Bytes × Bytes)
key_at [] = None
key_at (n ∷ b) = parted n b

unfoldable pub cell_at : Bytes → Option (Cell × Bytes)
cell_at [] = None
cell_at (zero ∷ b) = Some (None, b)
cell_at (suc zero ∷ b) = do
  n ← parted 2 b
  v ← parted (big_number 2 n.0) n.1
  Some (Some v.0, v.1)
cell_at (suc (suc t) ∷ b) = None

unfoldable pub entry_at : Bytes → Option (Entry × Bytes)
entry_at b = do
  k ← key_at b
  c ← cell_at k.1
  Some ((k.0, c.0), c.1)

unfoldable pub entries_at : ℕ → Bytes → Option (List Entry × Bytes)
entries_at zero b = Some ([], b)
entries_at (suc n) b = do
  e ← entry_at b
  es ← entries_at n e.1
  Some (e.0 ∷ es.0, es.1)

-- so many entries and behind them their digest, which is handed on
unfoldable pub block_at : Bytes → ℕ → Bytes → Option (List Entry × (Bytes × Bytes))
block_at before n b = do
  es ← entries_at n b
  stated ← parted 32 es.1
  if pointwise nat_eq stated.0 (sha256 (before ++ take (length b - length es.1) b)) then Some (es.0, (sha256 (before ++ take (length b - length es.1) b), stated.1)) else None

-- with the entries that came before
abbrev pub after_ok : List Entry → Result (List Entry × Bytes) ReadError → Result (List Entry × Bytes) ReadError
after_ok front (Err e) = Err e
after_ok front (Ok x) = Ok (front ++ x.0, x.1)

-- what stands behind something that was read
abbrev pub behind : {X R : Type 0} → Option (X × R) → Option R
behind None = None
behind (Some x) = Some x.1

abbrev pub behind_ok : Result (List Entry × Bytes) ReadError → Result Bytes ReadError
behind_ok (Err e) = Err e
behind_ok (Ok x) = Ok x.1

-- a block that is there, and what is made of what stands behind it
abbrev pub block_then : ℕ → Option (List Entry × (Bytes × Bytes)) → (Bytes → Bytes → Result (List Entry × Bytes) ReadError) → Result (List Entry × Bytes) ReadError
block_then j None others = Err (refused.BadBlock j)
block_then j (Some x) others = after_ok x.0 (others x.1.0 x.1.1)

-- m blocks of so many entries, counted from j + 1 on
unfoldable pub blocks_at : ℕ → ℕ → ℕ → Bytes → Bytes → Result (List Entry × Bytes) ReadError
blocks_at zero j left before b = Ok ([], b)
blocks_at (suc m) j left before b = block_then (suc j) (block_at before (min left BLOCK) b) (λ digest rest. blocks_at m (suc j) (left - BLOCK) digest rest)

-- what a call answers is what reading gives
abbrev pub Gives : {X Y : Type 0} → (X → Y) → Result X ReadError → Result Y ReadError → Type 0
Gives view (Ok x) read = read ≡ Ok (view x)
Gives view (Err e) read = read ≡ Err e
