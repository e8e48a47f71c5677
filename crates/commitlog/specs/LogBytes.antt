-- A log as bytes, in two versions.
use Rattle.std.specs.Prelude.{◌≤◌, ◌<◌, ◌^◌, ℕ, List, [], ◌∷◌, ◌++◌, length, codes, Some, None}
use Rattle.std.specs.List.{flat_map, AllByRecursion}
use Rattle.byteorder.specs.Endian.{big_bytes}
use Rattle.sha2.specs.Sha256.{sha256}
use Rattle.procedure.specs.Bytes.{Bytes, Cell}
use Rattle.procedure.specs.declared.limits.TheConstants.{VALUE_BYTES}
use Rattle.phase.specs.declared.phases.Phase.{Phase}
use Rattle.phase.specs.declared.phases.Phase.TheVariants.{Rest, Prepare, Resolve, Capture, Complete}
use Rattle.commitlog.specs.Records.{Record, Token, Call, IsInRange}
use Rattle.commitlog.specs.declared.formats.Version.{Version}
use Rattle.commitlog.specs.declared.formats.Version.TheVariants.{One, Two}
use Rattle.commitlog.specs.declared.formats.LogHeader.{LogHeader}
use Rattle.commitlog.specs.declared.limits.TheConstants.{VALUE_BYTES_V1, BODY_BYTES, BODY_BYTES_V1}

-- the letters that a log begins with
abbrev pub magic : Version → Bytes
magic One = codes "CALCLOG1"
magic Two = codes "CALCLOG2"

-- the bytes of the longest argument or reply
abbrev pub greatest_value : Version → ℕ
greatest_value One = VALUE_BYTES_V1
greatest_value Two = VALUE_BYTES

-- the bytes of the longest body
abbrev pub greatest_body : Version → ℕ
greatest_body One = BODY_BYTES_V1
greatest_body Two = BODY_BYTES

-- ---- the fields

abbrev pub phase_code : Phase → ℕ
phase_code Rest = 0
phase_code Prepare = 1
phase_code Resolve = 2
phase_code Capture = 3
phase_code Complete = 4

-- an argument, behind its length
abbrev pub value_bytes : Bytes → Bytes
value_bytes v = big_bytes 2 (length v) ++ v

-- a reply: absent, or a value
abbrev pub reply_bytes : Cell → Bytes
reply_bytes None = 0 ∷ []
reply_bytes (Some v) = 1 ∷ [] ++ value_bytes v

-- the session, the number and the procedure
abbrev pub call_head : ℕ → ℕ → ℕ → Bytes
call_head s n p = big_bytes 2 s ++ (big_bytes 8 n ++ big_bytes 2 p)

abbrev pub arguments_bytes : List Bytes → Bytes
arguments_bytes args = (length args ∷ []) ++ flat_map value_bytes args

-- the outcome and the replies
abbrev pub answer_bytes : ℕ → List Cell → Bytes
answer_bytes o r = o ∷ length r ∷ [] ++ flat_map reply_bytes r

abbrev pub body : Record → Bytes
body (Token p n) = 0 ∷ phase_code p ∷ [] ++ big_bytes 8 n
body (Call s n p args o r) = 1 ∷ [] ++ (call_head s n p ++ (arguments_bytes args ++ answer_bytes o r))

-- ---- what a version can say

abbrev pub IsValue : Version → Bytes → Type 0
IsValue v b = length b ≤ greatest_value v

abbrev pub IsReply : Version → Cell → Type 0
IsReply v None = Unit {0}
IsReply v (Some b) = IsValue v b

-- the numbers of a call, by the bytes of their fields
pub record IsCall (v : Version) (n : ℕ) (args : List Bytes) (o : ℕ) (r : List Cell) : Type 0 where
  pub number : n < 2 ^ 64
  pub outcome : o < 2 ^ 8
  pub arguments : AllByRecursion (IsValue v) args
  pub replies : AllByRecursion (IsReply v) r

abbrev pub IsWithin : Version → Record → Type 0
IsWithin v (Token p n) = n < 2 ^ 64
IsWithin v (Call s n p args o r) = IsCall v n args o r

-- a record in the ranges of the log, with arguments and replies within those of the version
abbrev pub Fits : Version → Record → Type 0
Fits v r = IsInRange r × IsWithin v r

-- ---- the log

-- the digest of a record: that of the digest before it and its body
abbrev pub next_digest : Bytes → Record → Bytes
next_digest d r = sha256 (d ++ body r)

-- after a list of records, each behind the length of its body and before its digest
abbrev pub record_bytes : Bytes → Record → Bytes
record_bytes d r = big_bytes 4 (length (body r)) ++ (body r ++ next_digest d r)

abbrev pub records_bytes : Bytes → List Record → Bytes
records_bytes d [] = []
records_bytes d (r ∷ rs) = record_bytes d r ++ records_bytes (next_digest d r) rs

abbrev pub digest_after : Bytes → List Record → Bytes
digest_after d [] = d
digest_after d (r ∷ rs) = digest_after (next_digest d r) rs

abbrev pub log_header_bytes : Version → LogHeader → Bytes
log_header_bytes v h = magic v ++ (h.catalog ++ h.opening)

-- the digests chain from that of the header
abbrev pub first_digest : Version → LogHeader → Bytes
first_digest v h = sha256 (log_header_bytes v h)

abbrev pub log_bytes : Version → LogHeader → List Record → Bytes
log_bytes v h rs = log_header_bytes v h ++ records_bytes (first_digest v h) rs
