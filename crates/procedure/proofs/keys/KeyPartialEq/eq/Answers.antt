use Rattle.std.proofs.Common.{◌≡◌, ◌∙◌, ◌+◌, length, ap, sym, arith}
use Rattle.std.specs.Cmp.{unsigned_ties}
use Rattle.std.specs.Cmp.Lexicographic.{texts_ties}
use Rattle.byteorder.specs.Endian.{big_from}
use Rattle.procedure.proofs.KeyOrders.{SameBefore, by_counts, same_after}
use Rattle.procedure.proofs.keys.KeyPartialEq.eq.Goals as goal

pub loop-from-preserved : goal.loop-from-preserved
loop-from-preserved c =
    let x = c.args.self.now in
    let y = c.args.other.now in
    let number : big_from c.loop-from.from 8 x ≡ big_from c.loop-from.from 8 y = sym c.word.ensures.value ∙ c.if-word.false ∙ c.word-in-loop-from.ensures.value in
    let q = c.loop-from.invariant.1 in
    let e = c.loop-from.invariant.2 in
    (same_after c.loop-from.from 8 x y c.word.ensures.bytes c.word-in-loop-from.ensures.bytes c.loop-from.invariant.0 number, q + 1, omega (arith, e))

-- keys with the same in all places differ in how many bytes they have alone
pub returns : goal.returns
returns c =
    let x = c.args.self.now in
    let y = c.args.other.now in
    let m = c.self.inside.len in
    let n = c.other.inside.len in
    let same : SameBefore 32 x y = λ i less. c.loop-from.invariant.0 i (omega (arith, less, c.loop-from-test.false)) in
    let is = by_counts x y m n (c.self.invariant.len_is ∙ ap length c.self.view_is) (c.other.invariant.len_is ∙ ap length c.other.view_is) c.self.invariant.fits same in
    unsigned_ties m n ∙ rw is (sym (texts_ties x y))
