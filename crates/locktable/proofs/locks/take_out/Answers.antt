use Rattle.std.proofs.Common.{◌≡◌, ◌<◌, ◌-◌, List, ◌∷◌, false, drop, length, refl, sym, ap, ◌∙◌, subst, arith, true≢false, IsPermutation}
use Rattle.std.proofs.Math.Seq.{drop-length}
use Rattle.std.specs.List.{list_any}
use Rattle.procedure.specs.Bytes.{Bytes, same}
use Rattle.locktable.proofs.Listing.{after_before, before, before_len, found_listed, found_there, not_from, still_within}
use Rattle.locktable.proofs.locks.take_out.Given.{Over}
use Rattle.locktable.proofs.locks.take_out.Goals as goal
use Rattle.locktable.proofs.locks.take_out.Goals.{After-index}

pub loop-index-init : goal.loop-index-init
loop-index-init g c =
    let keys = c.args.keys.now in
    let all : c.len-index.result ≡ length keys.items = c.len-index.ensures ∙ keys.ok.0 in
    (refl, omega (arith, all), ap (λ n. list_any (same c.args.key.now) (drop n keys.items)) all ∙ ap (list_any (same c.args.key.now)) (drop-length keys.items))

pub index-requires : goal.index-requires
index-requires g c = before_len (length c.loop-index.keys.items) c.loop-index.index c.loop-index.invariant.1 c.loop-index-test.true c.loop-index.keys.len c.loop-index.keys.ok.0

pub swap_remove-key-requires : goal.swap_remove-key-requires
swap_remove-key-requires g c = before_len (length c.loop-index.keys.items) c.loop-index.index c.loop-index.invariant.1 c.loop-index-test.true c.loop-index.keys.len c.loop-index.keys.ok.0

-- the key that is looked at is one of the list
looked_at : (g : Over) (c : After-index g) → c.loop-index.index - 1 < length c.loop-index.keys.items
looked_at g c = before (length c.loop-index.keys.items) c.loop-index.index c.loop-index.invariant.1 c.loop-index-test.true

pub returns-then-eq-clause-there : goal.returns-then-eq-clause-there
returns-then-eq-clause-there g c listed =
    let own = c.loop-index.keys.items in
    let i = c.loop-index.index - 1 in
    let k = c.args.key.now in
    let gone = found_there own k i (looked_at g (goal.at.returns-then-eq-clause-there g c).After-index)
    c.index.result.now c.index.ensures (sym c.eq.ensures ∙ c.if-eq.true) c.swap_remove-key.result c.swap_remove-key.ensures.value in
    subst (λ (ks : List Bytes). IsPermutation ks (k ∷ c.swap_remove-key.new.self.items)) (ap (λ v. v.items) c.loop-index.invariant.0)
    (subst (λ (ks : List Bytes). IsPermutation own (k ∷ ks)) (sym c.swap_remove-key.ensures.items) gone)

pub returns-then-eq-clause-absent : goal.returns-then-eq-clause-absent
returns-then-eq-clause-absent g c absent =
    let own = c.loop-index.keys.items in
    let i = c.loop-index.index - 1 in
    let k = c.args.key.now in
    let listed = found_listed own k i (looked_at g (goal.at.returns-then-eq-clause-absent g c).After-index) c.index.result.now c.index.ensures (sym c.eq.ensures ∙ c.if-eq.true) in
    absurd (true≢false (sym listed ∙ ap (λ v. list_any (same k) v.items) c.loop-index.invariant.0 ∙ absent))

pub loop-index-preserved : goal.loop-index-preserved
loop-index-preserved g c =
    let own = c.loop-index.keys.items in
    let k = c.args.key.now in
    let i = c.loop-index.index - 1 in
    let next = after_before (length own) c.loop-index.index c.loop-index.invariant.1 c.loop-index-test.true in (
      c.loop-index.invariant.0,
      still_within (length own) c.loop-index.index c.loop-index.invariant.1 c.loop-index-test.true,
      not_from own k i (looked_at g (goal.at.loop-index-preserved g c).After-index)
          c.index.result.now c.index.ensures (subst (λ n. list_any (same k) (drop n own) ≡ false) next c.loop-index.invariant.2) (sym c.eq.ensures ∙ c.if-eq.false),
    )

pub returns-clause-there : goal.returns-clause-there
returns-clause-there g c listed =
    let none : c.loop-index.index ≡ 0 = omega arith in
    absurd (true≢false (sym listed ∙ ap (λ v. list_any (same c.args.key.now) v.items) (sym c.loop-index.invariant.0)
    ∙ ap (λ n. list_any (same c.args.key.now) (drop n c.loop-index.keys.items)) (sym none) ∙ c.loop-index.invariant.2))

pub returns-clause-absent : goal.returns-clause-absent
returns-clause-absent g c absent = ap (λ v. v.items) c.loop-index.invariant.0
