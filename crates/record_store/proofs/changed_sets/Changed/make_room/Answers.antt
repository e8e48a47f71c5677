use Rattle.std.proofs.Common.{◌≡◌, ◌+◌, ◌<◌, ◌≤◌, ℕ, ap, arith, max, subst, sym, ◌∙◌, ◌-◌}
use Rattle.record_store.specs.ChangedFields.{set_of}
use Rattle.record_store.specs.ChangedSets.{ChangedSets, count, room}
use Rattle.record_store.proofs.ChangedKeys.{count-set_of}
use Rattle.record_store.proofs.changed_sets.Changed.make_room.Goals as goal

-- more keys than there is room for
too_many : (more n len places wanted : ℕ) → more ≤ places - n → n ≡ len → len ≤ places → wanted ≡ len + more → places < wanted → ⊥
too_many more n len places wanted fits counted within is over = omega arith

at_most : (m n k : ℕ) → k ≤ m → n ≡ k → m ≡ max m n
at_most m n k h e = omega arith

more_than : (m n k : ℕ) → m < k → n ≡ k → k ≡ max m n
more_than m n k h e = omega arith

pub returns-in_err-reserve-clause-memory : goal.returns-in_err-reserve-clause-memory
returns-in_err-reserve-clause-memory g c fits =
    let room_there = subst (λ (s : ChangedSets). c.args.more ≤ room s) (sym c.self.view_is) fits in
    let counted = count-set_of c.self.inside.collecting.keys c.self.invariant.unique ∙ sym c.len.ensures.len in
    absurd (too_many _ _ _ _ _ room_there counted (subst (λ n. n ≤ c.self.inside.places) (sym c.len.ensures.len) c.self.invariant.within) c.in-Some.ensures.1 c.if-self-places.true)

pub returns-in_err-reserve-2-clause-memory : goal.returns-in_err-reserve-2-clause-memory
returns-in_err-reserve-2-clause-memory g c fits =
    let room_there = subst (λ (s : ChangedSets). c.args.more ≤ room s) (sym c.self.view_is) fits in
    let counted = count-set_of c.self.inside.collecting.keys c.self.invariant.unique ∙ sym c.len.ensures.len in
    absurd (too_many _ _ _ _ _ room_there counted (subst (λ n. n ≤ c.self.inside.places) (sym c.len.ensures.len) c.self.invariant.within) c.in-Some.ensures.1 c.if-self-places.true)

pub returns-in_ok-reserve-2-clause-ok : goal.returns-in_ok-reserve-2-clause-ok
returns-in_ok-reserve-2-clause-ok g c =
    let counted = ap (λ n. n + c.args.more) (count-set_of c.self.inside.collecting.keys c.self.invariant.unique ∙ sym c.len.ensures.len) ∙ sym c.in-Some.ensures.1 in
    let collecting = ap set_of c.reserve.ensures.keys ∙ ap (λ (s : ChangedSets). s.collecting) c.self.view_is in
    let frozen = ap set_of c.reserve-then-self-places.ensures.items ∙ ap (λ (s : ChangedSets). s.frozen) c.self.view_is in
    let places = more_than _ _ _ c.if-self-places.true counted ∙ ap (λ (s : ChangedSets). max s.places (count s.collecting + c.args.more)) c.self.view_is in
    λ i. record { collecting = collecting i; frozen = frozen i; places = places i }

pub returns-else-self-places-clause-ok : goal.returns-else-self-places-clause-ok
returns-else-self-places-clause-ok g c =
    let counted = ap (λ n. n + c.args.more) (count-set_of c.self.inside.collecting.keys c.self.invariant.unique ∙ sym c.len.ensures.len) ∙ sym c.in-Some.ensures.1 in
    let places = at_most _ _ _ c.if-self-places.false counted in
    subst (λ (s : ChangedSets). s ≡ record { collecting = s.collecting; frozen = s.frozen; places = max s.places (count s.collecting + c.args.more) }) c.self.view_is
    (λ i. record { collecting = set_of c.self.inside.collecting.keys; frozen = set_of c.self.inside.frozen.items; places = places i })
