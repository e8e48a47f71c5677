use Rattle.std.proofs.Common.{◌≡◌, ◌+◌, ◌<◌, List, length, get_or, slice_set, arith, sym, ap, subst, ◌∙◌}
use Rattle.std.specs.List.{swap}
use Rattle.std.proofs.lemmas.List.{get_or_default}
use Rattle.image.specs.Images.{Entry}
use Rattle.image.proofs.Replacing.{gives, sifting_as, stays}
use Rattle.image.proofs.layers.replaced.Goals as goal
use Rattle.image.proofs.layers.replaced.Goals.{in-Ok, in-Err}

pub loop-index-preserved : goal.loop-index-preserved
loop-index-preserved g c =
    let l = c.loop-index in
    let m = c.match-place_of in
    let older = c.args.older.now.items in
    let newer = c.args.newer.now.items in
    let within : l.index < length l.newer.items = omega arith in
    elim m.branch [
      | in-Ok w ↦
          let place = w.in-Ok.place in
          let e = w.index_mut.result.now in
          let x = w.index_mut-in-Ok.result.now in
          let new = w.move_cell.new.to in
          let left = w.move_cell.new.from in
          let y = c.index.result.now in
          let inside = subst (λ (es : List Entry). place < length es) c.as_slice.ensures.value w.in-Ok.ensures.within in
          let named : (get_or l.older.items place e).0 ≡ c.behind-newer.inside.key =
          subst (λ (es : List Entry). (f : Entry) → (get_or es place f).0 ≡ c.behind-newer.inside.key) c.as_slice.ensures.value w.in-Ok.ensures.key e in
          let there : x.0 ≡ (get_or l.older.items place e).0 = ap (λ (f : Entry). f.0) (w.index_mut-in-Ok.ensures.value ∙ get_or_default l.older.items place x e inside) in
          let same : y ≡ e = c.index.ensures ∙ get_or_default l.newer.items l.index y e within ∙ sym w.index_mut.ensures.value in
          let gave : new.0 ≡ x.0 = ap (λ (f : Entry). f.0) w.move_cell.ensures in
          sifting_as older newer (slice_set l.older.items place new) (slice_set l.newer.items l.index left) m.older.items m.newer.items l.count m.count (l.index + 1)
          (ap (λ v. v.items) w.older-is) (ap (λ v. v.items) w.newer-is) w.count-is
          (gives older newer l.older.items l.newer.items l.count l.index within l.invariant place e new left inside w.index_mut.ensures.value (gave ∙ there)
          (gave ∙ there ∙ named ∙ ap (λ (f : Entry). f.0) (c.behind-newer.view_is ∙ same)) (ap (λ (f : Entry). f.1) w.move_cell.ensures))
      | in-Err w ↦
          sifting_as older newer l.older.items (swap l.newer.items l.count l.index) m.older.items m.newer.items (l.count + 1) m.count (l.index + 1)
          (ap (λ v. v.items) w.older-is) (ap (λ v. v.items) w.newer-is ∙ w.swap.ensures.items) w.count-is
          (stays older newer l.older.items l.newer.items l.count l.index within l.invariant c.index.result.now)
    ]
