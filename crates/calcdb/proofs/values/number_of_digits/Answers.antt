use Rattle.std.proofs.Common.{◌+◌, ◌*◌, ◌∙◌, sym}
use Rattle.calcdb.proofs.Decimals.{all_digits, digit_kept, digit_too_much, no_digit, within}
use Rattle.calcdb.proofs.values.number_of_digits.Goals as goal

pub returns-in_default-clause-value : goal.returns-in_default-clause-value
returns-in_default-clause-value c =
    let l = c.loop-byte in
    sym (no_digit c.args.most l.number c.args.digits.now l.byte-index c.loop-byte-test.true (sym c.digit_of.ensures ∙ c.in_default.is)) ∙ l.invariant.whole

pub returns-in_default-appended-clause-value : goal.returns-in_default-appended-clause-value
returns-in_default-appended-clause-value c =
    let l = c.loop-byte in
    sym (digit_too_much c.args.most l.number c.args.digits.now l.byte-index c.in-Some.digit c.loop-byte-test.true (sym c.digit_of.ensures ∙ c.in-Some.is) (sym c.appended.ensures ∙ c.in_default-appended.is))
    ∙ l.invariant.whole

pub loop-byte-preserved : goal.loop-byte-preserved
loop-byte-preserved c =
    let fits = sym c.appended.ensures ∙ c.in-Some-appended.is in record {
      whole = digit_kept c.args.most c.loop-byte.number c.args.digits.now c.loop-byte.byte-index c.in-Some.digit c.in-Some-appended.next c.loop-byte-test.true (sym c.digit_of.ensures ∙ c.in-Some.is) fits
          ∙ c.loop-byte.invariant.whole;
      fits = (within c.args.most (c.loop-byte.number * 10 + c.in-Some.digit) c.in-Some-appended.next fits).1;
    }

pub returns-clause-value : goal.returns-clause-value
returns-clause-value c = sym (all_digits c.args.most c.loop-byte.number c.args.digits.now c.loop-byte.byte-index c.loop-byte-test.false c.loop-byte.invariant.fits) ∙ c.loop-byte.invariant.whole
