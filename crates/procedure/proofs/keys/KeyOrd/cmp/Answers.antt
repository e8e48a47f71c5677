use Rattle.std.proofs.Common.{◌≡◌, ◌≢◌, ◌∙◌, arith, sym}
use Rattle.byteorder.specs.Endian.{big_from}
use Rattle.procedure.proofs.KeyOrders.{SameBefore, decided, same_after}
use Rattle.procedure.proofs.keys.KeyOrd.cmp.Goals as goal

-- before the first place all are the same
pub returns-then-one-two : goal.returns-then-one-two
returns-then-one-two c =
    let x = c.args.self.now in
    let y = c.args.other.now in
    let none : SameBefore 0 x y = λ i less. absurd (omega (arith, less)) in
    let other : big_from 0 8 x ≢ big_from 0 8 y = λ e. c.if-one-two.true (c.word-one.ensures.value ∙ e ∙ sym c.word-two.ensures.value) in
    c.cmp.ensures ∙ rw (c.word-one.ensures.value, c.word-two.ensures.value) (decided 0 8 x y c.word-one.ensures.bytes c.word-two.ensures.bytes none other)

pub cmp_behind-requires : goal.cmp_behind-requires
cmp_behind-requires c =
    let x = c.args.self.now in
    let y = c.args.other.now in
    let none : SameBefore 0 x y = λ i less. absurd (omega (arith, less)) in
    let number : big_from 0 8 x ≡ big_from 0 8 y = sym c.word-one.ensures.value ∙ c.if-one-two.false ∙ c.word-two.ensures.value in
    same_after 0 8 x y c.word-one.ensures.bytes c.word-two.ensures.bytes none number
