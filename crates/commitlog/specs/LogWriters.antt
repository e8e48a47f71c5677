-- A log that goes to a writer record by record.
use Rattle.std.specs.Prelude.{◌≡◌, [], ◌++◌, Bool, true, List, Option}
use Rattle.std.specs.Io.KnownBytes.{Appends}
use Rattle.sha2.specs.Hashers.{Holds256}
use Rattle.procedure.specs.Bytes.{Bytes}
use Rattle.commitlog.specs.Records.{Record}
use Rattle.commitlog.specs.LogBytes.{digest_after, first_digest, log_bytes}
use Rattle.commitlog.specs.Pieces.{Sends}
use Rattle.commitlog.specs.PieceLaws.{holds_more, holds_nothing, sends_more, sends_nothing}
use Rattle.commitlog.specs.declared.formats.LogHeader.{LogHeader}
use Rattle.commitlog.specs.declared.formats.Version.TheVariants.{Two}
use Rattle.commitlog.specs.declared.log_writer.Tap.{Tap}

-- what a writer holds, the digest that the next record is chained to, and whether a write has failed
pub record Sent : Type 0 where
  pub bytes : Option Bytes
  pub digest : Bytes
  pub is_faulty : Bool

-- the log of the header and the records went out after what was there at the start, and a record may follow
pub record HasSent (start : Option Bytes) (s : Sent) (h : LogHeader) (rs : List Record) : Type 0 where
  pub bytes : Appends start s.bytes (log_bytes Two h rs)
  pub digest : s.digest ≡ digest_after (first_digest Two h) rs
  pub sound : s.is_faulty ≡ true → ⊥

-- a write failed: the log of the header and of some records went out, and of more records a beginning of what follows it
pub record HasStopped (start : Option Bytes) (s : Sent) (h : LogHeader) (rs more : List Record) : Type 0 where
  pub out : Bytes
  pub left : Bytes
  pub parts : log_bytes Two h (rs ++ more) ≡ log_bytes Two h rs ++ (out ++ left)
  pub bytes : Appends start s.bytes (log_bytes Two h rs ++ out)
  pub faulty : s.is_faulty ≡ true

-- the bytes go out, and the hasher has them too
pub record Passes {W : Type 0} (was is : Option Bytes) (old new : Tap W) (x : Bytes) : Type 0 where
  pub sent : Sends was is old.is_faulty new.is_faulty x
  pub hashed : (m : Bytes) → Holds256 old.hasher m → Holds256 new.hasher (m ++ x)

-- (the laws of what passes, for the proofs)

pub passes_nothing : {W : Type 0} (is : Option Bytes) (a : Tap W) → Passes is is a a []
passes_nothing is a = record { sent = sends_nothing is a.is_faulty; hashed = λ m h. holds_nothing a.hasher m h }

pub passes_more : {W : Type 0} (was mid is : Option Bytes) (a b c : Tap W) (x y : Bytes) → Passes was mid a b x → Passes mid is b c y → Passes was is a c (x ++ y)
passes_more was mid is a b c x y f g = record {
  sent = sends_more was mid is a.is_faulty b.is_faulty c.is_faulty x y f.sent g.sent;
  hashed = λ m h. holds_more c.hasher m x y (g.hashed (m ++ x) (f.hashed m h));
}
