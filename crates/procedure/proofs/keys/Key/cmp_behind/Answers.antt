use Rattle.std.proofs.Common.{◌≡◌, ◌≢◌, ◌∙◌, ◌+◌, length, ap, sym, arith}
use Rattle.byteorder.specs.Endian.{big_from}
use Rattle.procedure.proofs.KeyOrders.{SameBefore, by_counts, decided, same_after}
use Rattle.procedure.proofs.keys.Key.cmp_behind.Goals as goal

pub loop-from-init : goal.loop-from-init
loop-from-init c = (c.requires, 1, omega arith)

pub word-one-requires : goal.word-one-requires
word-one-requires c = let e = c.loop-from.invariant.2 in omega (arith, e, c.loop-from-test.true)

pub word-two-requires : goal.word-two-requires
word-two-requires c = let e = c.loop-from.invariant.2 in omega (arith, e, c.loop-from-test.true)

pub returns-then-one-two : goal.returns-then-one-two
returns-then-one-two c =
    let x = c.args.self.now in
    let y = c.args.other.now in
    let other : big_from c.loop-from.from 8 x ≢ big_from c.loop-from.from 8 y = λ e. c.if-one-two.true (c.word-one.ensures.value ∙ e ∙ sym c.word-two.ensures.value) in
    c.cmp.ensures ∙ rw (c.word-one.ensures.value, c.word-two.ensures.value) (decided c.loop-from.from 8 x y c.word-one.ensures.bytes c.word-two.ensures.bytes c.loop-from.invariant.0 other)

pub loop-from-preserved : goal.loop-from-preserved
loop-from-preserved c =
    let x = c.args.self.now in
    let y = c.args.other.now in
    let number : big_from c.loop-from.from 8 x ≡ big_from c.loop-from.from 8 y = sym c.word-one.ensures.value ∙ c.if-one-two.false ∙ c.word-two.ensures.value in
    let q = c.loop-from.invariant.1 in
    let e = c.loop-from.invariant.2 in
    (same_after c.loop-from.from 8 x y c.word-one.ensures.bytes c.word-two.ensures.bytes c.loop-from.invariant.0 number, q + 1, omega (arith, e))

pub returns : goal.returns
returns c =
    let x = c.args.self.now in
    let y = c.args.other.now in
    let same : SameBefore 32 x y = λ i less. c.loop-from.invariant.0 i (omega (arith, less, c.loop-from-test.false)) in
    let one : c.self.inside.len ≡ length x = c.self.invariant.len_is ∙ ap length c.self.view_is in
    let two : c.other.inside.len ≡ length y = c.other.invariant.len_is ∙ ap length c.other.view_is in
    c.cmp-2.ensures ∙ by_counts x y c.self.inside.len c.other.inside.len one two c.self.invariant.fits same
