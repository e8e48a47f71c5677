use Rattle.std.proofs.Common.{rules, ◌≡◌, ◌≢◌, arith}
use Rattle.commitlog.specs.LogReadings.{IsBody}
use Rattle.commitlog.proofs.Wholes.{are_cut, no_body, other_digest, stands}
use Rattle.commitlog.proofs.checking.digest_of_whole.Goals as goal

pub returns-then-ne-clause-none : goal.returns-then-ne-clause-none
returns-then-ne-clause-none c =
    let cut = are_cut _ c.args.bytes.now _ _ _ _ c.requires.length c.split_at.ensures.back c.split_at-2.ensures.front c.split_at-2.ensures.back c.split_at-3.ensures.front in
    let other : c.chained_digest-after.result ≢ c.split_at-3.result.0.now = search rules in
    other_digest c.args.version _ _ _ _ _ cut c.chained_digest-after.ensures other

pub returns-then-not-is_body-clause-none : goal.returns-then-not-is_body-clause-none
returns-then-not-is_body-clause-none c =
    let cut = are_cut _ c.args.bytes.now _ _ _ _ c.requires.length c.split_at.ensures.back c.split_at-2.ensures.front c.split_at-2.ensures.back c.split_at-3.ensures.front in
    let none : IsBody c.args.version c.split_at-2.result.0.now → ⊥ = search rules in
    no_body c.args.version _ _ _ _ _ cut c.chained_digest-after.ensures none

pub returns-clause-some : goal.returns-clause-some
returns-clause-some c =
    let cut = are_cut _ c.args.bytes.now _ _ _ _ c.requires.length c.split_at.ensures.back c.split_at-2.ensures.front c.split_at-2.ensures.back c.split_at-3.ensures.front in
    let same : c.chained_digest-after.result ≡ c.split_at-3.result.0.now = search rules in
    let is : IsBody c.args.version c.split_at-2.result.0.now = search rules in
    stands c.args.version _ _ _ _ _ cut c.chained_digest-after.ensures (λ i. omega (arith, c.type_inv.bytes i)) c.requires.whole same is
