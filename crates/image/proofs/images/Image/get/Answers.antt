use Rattle.std.proofs.Common.{rules, ◌≡◌, Ok, Err, List, get_or, Some, IsTrue, subst, sym, ap, ◌∙◌}
use Rattle.std.proofs.lemmas.Fn.{always_returns_same}
use Rattle.std.specs.FinMap.{is_sorted, get, from_entries}
use Rattle.procedure.specs.Table.{change_at}
use Rattle.image.specs.Images.{Image, Entry, changes_of}
use Rattle.image.proofs.Rising.{by_bytes, searched}
use Rattle.image.proofs.images.Image.get.Goals as goal

-- the search goes over the image's entries, which rise
pub returns-in-Ok : goal.returns-in-Ok
returns-in-Ok g c =
    let q = c.args.key.now in
    let e = c.index.result.now in
    let rises = subst (λ (es : List Entry). IsTrue (is_sorted by_bytes es)) (sym c.deref.ensures.value) c.self.invariant.rises in
    let found = searched c.deref.result.now rises q (Ok c.in-Ok.at) c.in-Ok.ensures.bound (c.in-Ok.ensures.position (λ e. by_bytes e.0 q)
    (always_returns_same _ _ _ (λ a r f called. (search rules, search rules)))) e in
    ap (λ (e : Entry). Some e.1) (c.behind-self.view_is ∙ c.index.ensures)
    ∙ sym (subst (λ (es : List Entry). get (from_entries {R = by_bytes} es) q ≡ Some (get_or es c.in-Ok.at e).1) c.deref.ensures.value found)
    ∙ ap (λ (i : Image). change_at (changes_of i) q) c.self.view_is

pub returns-in-Err : goal.returns-in-Err
returns-in-Err g c =
    let q = c.args.key.now in
    let rises = subst (λ (es : List Entry). IsTrue (is_sorted by_bytes es)) (sym c.deref.ensures.value) c.self.invariant.rises in
    let none = searched c.deref.result.now rises q (Err c.in-Err.field-0) c.in-Err.ensures.bound
    (c.in-Err.ensures.position (λ e. by_bytes e.0 q) (always_returns_same _ _ _ (λ a r f called. (search rules, search rules)))) in
    sym none
    ∙ ap (λ (es : List Entry). get (from_entries {R = by_bytes} es) q) c.deref.ensures.value
    ∙ ap (λ (i : Image). change_at (changes_of i) q) c.self.view_is
