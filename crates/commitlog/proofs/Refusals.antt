-- Bytes that aren't the body of a record.
use Rattle.std.proofs.Common.{◌≡◌, Option, Some, None, Result, Err, sym, ap, subst, ◌∙◌}
use Rattle.procedure.specs.Bytes.{Bytes}
use Rattle.commitlog.specs.Records.{Record, IsInRange}
use Rattle.commitlog.specs.declared.formats.Version.{Version}
use Rattle.commitlog.specs.declared.bodies.BodyError.{BodyError}
use Rattle.commitlog.specs.declared.bodies.BodyError.TheVariants as errors
use Rattle.commitlog.specs.LogBytes.{greatest_value, body, Fits}
use Rattle.commitlog.specs.BodyReading.{Fails, record_in}
use Rattle.commitlog.specs.LogReadings.{IsNoBody}
use Rattle.commitlog.proofs.Fields.{some_is}
use Rattle.commitlog.proofs.BodyLaws.{record_again}

abbrev read : Version → Bytes → Option Record
read v bytes = record_in (greatest_value v) bytes

-- what a record's body is read as
spelled : (v : Version) (bytes : Bytes) (r : Record) → Fits v r → body r ≡ bytes → read v bytes ≡ Some r
spelled v bytes r fits same = ap (read v) (sym same) ∙ record_again v r fits

none_is : {X : Type 0} (x : X) (o : Option X) → o ≡ Some x → o ≡ None → ⊥
none_is x o e f = cc

pub refused_body : (e : BodyError) (v : Version) (bytes : Bytes) → Fails e (read v bytes) → e ≡ errors.Malformed → IsNoBody v bytes
refused_body errors.NoMemory v bytes fails e = absurd cc
refused_body errors.Malformed v bytes fails e = λ r fits same. none_is r (read v bytes) (spelled v bytes r fits same) fails

pub out_of_range : (v : Version) (bytes : Bytes) (x : Record) → read v bytes ≡ Some x → (IsInRange x → ⊥) → IsNoBody v bytes
out_of_range v bytes x e outside = λ r fits same. outside (subst IsInRange (some_is r x (sym (spelled v bytes r fits same) ∙ e)) fits.0)

abbrev failed : {X : Type 0} → BodyError → Result X BodyError
failed e = Err e

pub error_is : {X : Type 0} (e f : BodyError) → failed {X = X} e ≡ failed f → e ≡ f
error_is e f h = cc
