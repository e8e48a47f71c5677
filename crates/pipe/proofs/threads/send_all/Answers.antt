use Rattle.std.proofs.Common.{rules, arith, ◌≡◌, ◌+◌, ◌<◌, length, vec_len}
use Rattle.std.proofs.lemmas.Grind.{common_steps}
use Rattle.pipe.specs.Rings.{sent}
use Rattle.pipe.proofs.threads.send_all.Goals as goal

pub loop-entry-preserved : goal.loop-entry-preserved
loop-entry-preserved g c =
    let i = c.loop-entry.invariant in
    let left : c.loop-entry.count < vec_len c.args.entries = grind (arith, common_steps) in
    let order : length (sent c.loop-entry.tap) ≡ length (sent c.args.tap) + c.loop-entry.count = grind (arith, common_steps) in
    record {
      ring = search rules;
      order = grind (arith, common_steps);
      count = grind (arith, common_steps);
      whole = grind (arith, common_steps);
      places = λ fits few. omega (arith, i.places fits few, (c.send_within.ensures.room (omega (arith, left, i.places fits few)) (omega (arith, left, order, few))).1);
    }

pub returns-then-not-send_within-clause-all : goal.returns-then-not-send_within-clause-all
returns-then-not-send_within-clause-all g c = λ fits few.
    let i = c.loop-entry.invariant in
    let left : c.loop-entry.count < vec_len c.args.entries = grind (arith, common_steps) in
    let order : length (sent c.loop-entry.tap) ≡ length (sent c.args.tap) + c.loop-entry.count = grind (arith, common_steps) in
    let went = (c.send_within.ensures.room (omega (arith, left, i.places fits few)) (omega (arith, left, order, few))).0 in
    search (rules, went)
