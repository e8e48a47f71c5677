use Rattle.std.proofs.Common.{List, refl, sym, subst, ◌∙◌}
use Rattle.image.specs.Headers.{EachKeyOnce, assembled}
use Rattle.image.specs.Images.{Entry, IsLawfulImage}
use Rattle.image.proofs.Digests.{alike, differ}
use Rattle.image.proofs.headers.assemble.Goals as goal
use Rattle.image.proofs.headers.assemble.Goals.{then-header-entries-via-then-header-entries, then-header-entries-via-else-header-entries+then-ne}

pub returns-then-header-entries-clause-bad_form : goal.returns-then-header-entries-clause-bad_form
returns-then-header-entries-clause-bad_form g c = λ _ fits.
    elim c.then-header-entries.branch [
      | then-header-entries-via-then-header-entries w ↦ w.if-header-entries.true fits.count
      | then-header-entries-via-else-header-entries+then-ne w ↦ differ c.args.header.now.chain w.chain_of.result (sym w.ne.ensures ∙ w.if-ne.true) (fits.chain ∙ sym w.chain_of.ensures)
    ]

pub returns-in-Some-clause-fits : goal.returns-in-Some-clause-fits
returns-in-Some-clause-fits g c =
    let h = c.args.header.now in
    let lawful = subst (λ (es : List Entry). EachKeyOnce es × IsLawfulImage (assembled h es)) (c.in_ok-copy.ensures.items_if_clones_equal (λ x y e. e)) (c.in-Some.ensures.lawful.0 refl) in
    record {
      count = c.if-header-entries.false;
      chain = alike h.chain c.chain_of.result (sym c.ne.ensures ∙ c.if-ne.false) ∙ c.chain_of.ensures;
      once = lawful.0;
      lawful = lawful.1;
    }
