use Rattle.std.proofs.Common.{sym, ◌∙◌, arith}
use Rattle.procedure.proofs.TakenBytes.{IsBytes}
use Rattle.image.proofs.Digests.{same_bytes, other_bytes}
use Rattle.image.proofs.ReadAnswers.{first_judged, neither, one_answer, second_judged}
use Rattle.image.proofs.checking.check_image.Goals as goal

pub returns-then-bytes-lt-SHORTEST-clause-exact : goal.returns-then-bytes-lt-SHORTEST-clause-exact
returns-then-bytes-lt-SHORTEST-clause-exact c = λ a h.
    neither c.args.bytes.now a (λ f. let l = f.long in omega (arith, l, c.if-bytes-lt-SHORTEST.true)) (λ f. let l = f.long in omega (arith, l, c.if-bytes-lt-SHORTEST.true)) h

pub returns-then-eq : goal.returns-then-eq
returns-then-eq c =
    let fits : IsBytes c.args.bytes.now = λ i. omega (arith, c.type_inv.bytes i) in
    let letters = same_bytes c.split_at.result.0.now c.as_slice.result.now (sym c.eq.ensures ∙ c.if-eq.true) in
    let judged =
    first_judged c.args.bytes.now c.check_first.result (record { long = c.if-bytes-lt-SHORTEST.false; magic = sym c.split_at.ensures.front ∙ letters ∙ c.as_slice.ensures }) fits c.check_first.ensures in
    record { answer = judged; exact = λ a h. one_answer c.args.bytes.now c.check_first.result a fits judged h }

pub returns-then-eq-2 : goal.returns-then-eq-2
returns-then-eq-2 c =
    let fits : IsBytes c.args.bytes.now = λ i. omega (arith, c.type_inv.bytes i) in
    let letters = same_bytes c.split_at.result.0.now c.as_slice-2.result.now (sym c.eq-2.ensures ∙ c.if-eq-2.true) in
    let judged =
    second_judged c.args.bytes.now c.check_second.result (record { long = c.if-bytes-lt-SHORTEST.false; magic = sym c.split_at.ensures.front ∙ letters ∙ c.as_slice-2.ensures }) fits c.check_second.ensures in
    record { answer = judged; exact = λ a h. one_answer c.args.bytes.now c.check_second.result a fits judged h }

pub returns-clause-exact : goal.returns-clause-exact
returns-clause-exact c = λ a h.
    neither c.args.bytes.now a
    (λ f. other_bytes c.split_at.result.0.now c.as_slice.result.now (sym c.eq.ensures ∙ c.if-eq.false) (c.split_at.ensures.front ∙ f.magic ∙ sym c.as_slice.ensures))
    (λ f. other_bytes c.split_at.result.0.now c.as_slice-2.result.now (sym c.eq-2.ensures ∙ c.if-eq-2.false) (c.split_at.ensures.front ∙ f.magic ∙ sym c.as_slice-2.ensures)) h
