use Rattle.std.proofs.Common.{◌≡◌, ℕ, ◌+◌, ◌≤◌, Bool, true, false, [], ◌∷◌, ◌++◌, if◌then◌else◌, ap, arith, sym, take, ◌∙◌}
use Rattle.std.proofs.lemmas.Grind.{take_at_read}
use Rattle.record_store.specs.ChangedFields.{set_of}
use Rattle.record_store.specs.ChangedSets.{union, with_member}
use Rattle.record_store.proofs.ChangedKeys.{set_of-push, union-no_keys, union-with_key}
use Rattle.record_store.proofs.changed_sets.add_keys.Goals as goal

pub loop-key-init : goal.loop-key-init
loop-key-init g c = (sym (union-no_keys _), omega arith, omega arith, c.requires.unique)

pub add_key-requires-clause-room : goal.add_key-requires-clause-room
add_key-requires-clause-room g c _ = omega (arith, c.requires.room, c.loop-key.invariant.1, c.loop-key.invariant.2, c.loop-key-test.true)

-- a key takes one place at most
at_most_one : (b : Bool) (old new : ℕ) → new ≡ old + (if b then 0 else 1) → new ≤ old + 1
at_most_one true old new e = omega arith
at_most_one false old new e = omega arith

pub loop-key-preserved : goal.loop-key-preserved
loop-key-preserved g c =
    let i = c.loop-key.key-index in
    let more = c.args.more.now in
    let key = c.key-item.result in
    let before = set_of c.args.keys.now.keys in
    let next : set_of (take (i + 1) more) ≡ with_member (set_of (take i more)) key =
    ap set_of ((take_at_read more i key c.loop-key-test.true).1 ∙ ap (λ k. take i more ++ k ∷ []) (sym c.key-item.is)) ∙ set_of-push (take i more) key in (
      c.add_key.ensures.added ∙ ap (λ s. with_member s key) c.loop-key.invariant.0 ∙ union-with_key before (set_of (take i more)) key ∙ ap (union before) (sym next),
      omega (arith, at_most_one _ _ _ c.add_key.ensures.len, c.loop-key.invariant.1),
      omega (arith, c.add_key.ensures.room, c.loop-key.invariant.2),
      c.add_key.ensures.unique,
    )
