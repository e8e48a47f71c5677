-- A table that is recovered has room in an image.
use Rattle.std.proofs.Common.{◌≤◌, ℕ, suc, Bool, true, false, cond, List, [], ◌∷◌, length, drop, is_some, Some, Ok, Err, refl, sym, ap, ◌∙◌, subst, arith}
use Rattle.std.specs.Prelude.{IfOk}
use Rattle.std.specs.declared.result.Result.{Result}
use Rattle.std.specs.FinMap.{entries, len, len-entries}
use Rattle.std.proofs.lemmas.List.{length-map}
use Rattle.procedure.specs.Table.{Table}
use Rattle.procedure.specs.Procedures.{Procedure}
use Rattle.commitlog.specs.Histories.{EachAfter, after, table_after}
use Rattle.commitlog.specs.Records.{Record, Token, Call}
use Rattle.image.specs.Images.{Entry, Image, IsLawfulImage}
use Rattle.image.specs.Joins.{present}
use Rattle.image.specs.Merges.{table_of}
use Rattle.image.specs.declared.limits.TheConstants.{ENTRIES}
use Rattle.replay.specs.Parts.{RunAgain}
use Rattle.replay.specs.Recovery.{Recovery}
use Rattle.replay.specs.Replays.{LeavesFewOn, RunsAgain}
use Rattle.replay.specs.declared.errors.RecoverError.{RecoverError}
use Rattle.replay.proofs.ImageTables.{present_of_image}

fewer : (b : Bool) (e : Entry) (es : List Entry) (n : ℕ) → length es ≤ n → length (cond b (e ∷ es) es) ≤ suc n
fewer true e es n h = omega arith
fewer false e es n h = omega arith

few_present : (es : List Entry) → length (present es) ≤ length es
few_present [] = omega arith
few_present (e ∷ es) = fewer (is_some e.1) e (present es) (length es) (few_present es)

-- of a lawful image
pub few_of_image : (i : Image) → IsLawfulImage i → len (table_of i) ≤ ENTRIES
few_of_image i h =
    let count = len-entries (table_of i) in
    let all = ap (λ (es : List Entry). length es) (present_of_image i h) ∙ length-map (entries (table_of i)) (λ e. (e.0, Some e.1)) in
    omega (arith, few_present i.entries, h.few, count, all)

few_one : (c : List Procedure) (t : Table) (r : Record) → LeavesFewOn c t r → len t ≤ ENTRIES → len (table_after c t r) ≤ ENTRIES
few_one c t (Token p n) leaves few = few
few_one c t (Call s n p args o r) leaves few = leaves

-- calls that run again leave few keys
few_after : (c : List Procedure) (t : Table) (l : List Record) → EachAfter (RunsAgain c t) l → len t ≤ ENTRIES → len (after c t l) ≤ ENTRIES
unfolding after
few_after c t [] each few = few
few_after c t (x ∷ l) each few = few_after c (table_after c t x) l (λ i r at. each (suc i) r at) (few_one c t x (each 0 x refl).1 few)

pub few_again : (c : List Procedure) (t : Table) (k : ℕ) (l : List Record) (torn : Bool) (x : Result Recovery RecoverError) → RunAgain c t k l torn x → len t ≤ ENTRIES →
    IfOk x (λ (r : Recovery). len r.state ≤ ENTRIES)
few_again c t k l torn (Ok r) ran few = subst (λ (s : Recovery). len s.state ≤ ENTRIES) (sym ran.1) (few_after c t (drop k l) ran.0 few)
few_again c t k l torn (Err e) ran few = tt
