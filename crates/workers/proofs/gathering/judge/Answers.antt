use Rattle.std.proofs.Common.{ℕ, List, Bool, true, false, get_or, sym, ap, ◌∙◌}
use Rattle.workers.proofs.Faults.{well}
use Rattle.workers.proofs.gathering.judge.Goals as goal

pub returns-in-Ok-clause-ok : goal.returns-in-Ok-clause-ok
returns-in-Ok-clause-ok g c = record {
  fit = c.in_ok-mark.ensures.fit;
  once = λ p h. well c.args.records.now c.args.claims.now c.mark.new.seen.items p true c.in_ok-mark.ensures.once (ap (λ (s : List Bool). get_or s p false) (sym c.as_slice.ensures.value) ∙ c.in-Ok.ensures.ok p h) h;
}

pub returns-in-Err-clause-err : goal.returns-in-Err-clause-err
returns-in-Err-clause-err g c =
    let e = c.in-Err.ensures.err in
    let at = λ (p : ℕ). ap (λ (s : List Bool). get_or s p false) (sym c.as_slice.ensures.value) in (
      e.0,
      well c.args.records.now c.args.claims.now c.mark.new.seen.items c.in-Err.place false c.in_ok-mark.ensures.once (at c.in-Err.place ∙ e.1) e.0,
      λ q low h. well c.args.records.now c.args.claims.now c.mark.new.seen.items q true c.in_ok-mark.ensures.once (at q ∙ e.2 q low h) h,
    )
