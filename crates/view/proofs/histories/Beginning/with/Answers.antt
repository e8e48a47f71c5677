use Rattle.std.proofs.Common.{sym, ◌∙◌, ap, length}
use Rattle.view.proofs.Steps.{moves}
use Rattle.view.proofs.histories.Beginning.with.Goals as goal

pub compare_exchange-found-requires : goal.compare_exchange-found-requires
compare_exchange-found-requires g c =
    let word = c.history.invariant in
    let seen = c.again-seen.ensures in
    let offer = c.plain-offer.ensures in
    let pen = c.no_pen-pen.ensures in
    let book = ap (λ s. s.book) seen ∙ c.self.invariant.1 ∙ sym (ap (λ w. w.book) word) in (
      ap (λ w. w.tracked) word,
      book,
      pen.0 ∙ book,
      offer.0,
      rw (ap (λ w. w.key) word, pen.1, offer.1, offer.3) (moves c.again-seen.result.log c.args.image.now c.self.inside.len (ap (λ s. length s.log) seen ∙ sym c.self.invariant.0)),
    )
