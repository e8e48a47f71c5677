-- A partial run depends on the table only at the keys that it touched.
use Rattle.std.proofs.Common.{◌≡◌, ℕ, zero, suc, Bool, true, false, ◌||◌, List, [], ◌∷◌, refl, sym, ap, ◌∙◌, subst}
use Rattle.procedure.specs.Bytes.{Bytes, Cell, same}
use Rattle.procedure.specs.Table.{Table, Changes, value_at, change_at, changed_or}
use Rattle.procedure.specs.Needs.{Touch, Nothing, Reads, Writes}
use Rattle.procedure.specs.Procedures.{Instruction, touch, effect, Effect}
use Rattle.procedure.specs.Runs.{Front, fed, fed_at, did, front, next_touch, touch_at, seen_at, touched}
use Rattle.procedure.proofs.Base.{same_refl}

or_right : (a b : Bool) → b ≡ true → (a || b) ≡ true
or_right true b e = refl
or_right false b e = e

or_more : (a b c : Bool) → (a || b) ≡ true → ((c || a) || b) ≡ true
or_more a b true h = refl
or_more a b false h = h

or_more₂ : (a b c : Bool) → (a || b) ≡ true → (a || (c || b)) ≡ true
or_more₂ true b c h = refl
or_more₂ false b true h = refl
or_more₂ false b false h = h

touched_did : (e : Effect) (n : Touch) (is : List Instruction) (m : Front) (q : Bytes) → touched m q ≡ true → touched (did e n is m) q ≡ true
touched_did e Nothing is m q h = h
touched_did e (Reads k) is m q h = or_more (m.reads q) (m.writes q) (same q k) h
touched_did e (Writes k) is m q h = or_more₂ (m.reads q) (m.writes q) (same q k) h

touched_fed_at : (args : List Bytes) (m : Front) (found : Cell) (r : List Instruction) (q : Bytes) → touched m q ≡ true → touched (fed_at args m found r) q ≡ true
touched_fed_at args m found [] q h = h
touched_fed_at args m found (i ∷ is) q h = touched_did (effect i args m.registers found) (touch i args m.registers) is m q h

pub touched_fed : (args : List Bytes) (m : Front) (found : Cell) (q : Bytes) → touched m q ≡ true → touched (fed args m found) q ≡ true
unfolding fed
touched_fed args m found q h = touched_fed_at args m found m.rest q h

-- the key that comes next is touched then
abbrev needs : Touch → Bytes → Type 0
needs Nothing q = ⊥
needs (Reads k) q = q ≡ k
needs (Writes k) q = q ≡ k

seen_same : (c : Changes) (t u : Table) (n : Touch) → ((q : Bytes) → needs n q → value_at t q ≡ value_at u q) → seen_at c t n ≡ seen_at c u n
seen_same c t u Nothing h = refl
seen_same c t u (Reads k) h = ap (changed_or (change_at c k)) (h k refl)
seen_same c t u (Writes k) h = ap (changed_or (change_at c k)) (h k refl)

touches_did : (e : Effect) (n : Touch) (is : List Instruction) (m : Front) (q : Bytes) → needs n q → touched (did e n is m) q ≡ true
touches_did e Nothing is m q h = absurd h
touches_did e (Reads k) is m q h = subst (λ b. ((b || m.reads q) || m.writes q) ≡ true) (sym (ap (λ x. same q x) (sym h) ∙ same_refl q)) refl
touches_did e (Writes k) is m q h = or_right (m.reads q) _ (subst (λ b. (b || m.writes q) ≡ true) (sym (ap (λ x. same q x) (sym h) ∙ same_refl q)) refl)

touches_fed_at : (args : List Bytes) (m : Front) (found : Cell) (r : List Instruction) (q : Bytes) → needs (touch_at args m r) q → touched (fed_at args m found r) q ≡ true
touches_fed_at args m found [] q h = absurd h
touches_fed_at args m found (i ∷ is) q h = touches_did (effect i args m.registers found) (touch i args m.registers) is m q h

touches_fed : (args : List Bytes) (m : Front) (found : Cell) (q : Bytes) → needs (next_touch args m) q → touched (fed args m found) q ≡ true
unfolding fed next_touch
touches_fed args m found q h = touches_fed_at args m found m.rest q h

-- THE FRAME
pub front_frame : (code : List Instruction) (args : List Bytes) (t u : Table) (m : ℕ) → ((q : Bytes) → touched (front code args t m) q ≡ true → value_at t q ≡ value_at u q) →
    front code args t m ≡ front code args u m
unfolding front
front_frame code args t u zero h = refl
front_frame code args t u (suc m) h =
    let f = front code args t m in
    let ih : f ≡ front code args u m = front_frame code args t u m (λ q e. h q (touched_fed args f _ q e)) in
    let s : seen_at f.changes t (next_touch args f) ≡ seen_at f.changes u (next_touch args f) = seen_same f.changes t u (next_touch args f) (λ q e. h q (touches_fed args f _ q e)) in
    ap (fed args f) s ∙ ap (λ (g : Front). fed args g (seen_at g.changes u (next_touch args g))) ih
