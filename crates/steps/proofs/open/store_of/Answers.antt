use Rattle.std.proofs.Common.{◌≡◌, ◌+◌, ap, ◌∙◌, sym, subst, arith, List, [], drop, ◌∷◌, T, length}
use Rattle.std.proofs.lemmas.List.{drop_all, drop_more}
use Rattle.std.specs.FinMap.{is_sorted}
use Rattle.image.specs.Images.{Entry, Image}
use Rattle.image.proofs.Rising.{by_bytes}
use Rattle.record_store.specs.Stores.{Slots, records}
use Rattle.steps.specs.Versions.{versions_in}
use Rattle.steps.specs.inside.RecordEdits.{opened_with, with_opened}
use Rattle.steps.proofs.views.OpenedCore.{Lacks, lacks_same, lacks_after, lacks_first, rises_after, same_opened, versions_in-new, versions_opened}
use Rattle.steps.proofs.open.store_of.Goals as goal

pub loop-entry-init : goal.loop-entry-init
loop-entry-init g c =
    let es = c.entries-entries.result.now in
    record {
      versions = λ q. ap (λ (s : Slots). opened_with (versions_in s) es q) c.in_ok-store.ensures;
      rises = subst (λ (l : List Entry). T (is_sorted by_bytes l)) (sym c.entries-entries.ensures.value) (subst T (sym c.entries-entries.ensures.lawful.rises) tt);
      lacks = λ q some. ap (λ (s : Slots). versions_in s q) c.in_ok-store.ensures ∙ versions_in-new q;
      slots = ap length c.in_ok-store.ensures;
      records = ap records c.in_ok-store.ensures;
    }

pub fill_entry-requires : goal.fill_entry-requires
fill_entry-requires g c =
    let es = c.entries-entries.result.now in
    let i = c.loop-entry.entry-index in
    let e : Entry = c.entry-item.result in
    let next : drop i es ≡ e ∷ drop (i + 1) es = drop_more es i e c.loop-entry-test.true ∙ sym (ap (λ (e : Entry). e ∷ drop (i + 1) es) c.entry-item.is) in
    let vs = versions_in c.loop-entry.store in
    lacks_first vs e (drop (i + 1) es) (subst (Lacks vs) next c.loop-entry.invariant.lacks)

pub loop-entry-preserved : goal.loop-entry-preserved
loop-entry-preserved g c =
    let es = c.entries-entries.result.now in
    let i = c.loop-entry.entry-index in
    let e : Entry = c.entry-item.result in
    let left : List Entry = drop (i + 1) es in
    let vs = versions_in c.loop-entry.store in
    let next : drop i es ≡ e ∷ left = drop_more es i e c.loop-entry-test.true ∙ sym (ap (λ (e : Entry). e ∷ left) c.entry-item.is) in
    let rises : T (is_sorted by_bytes (e ∷ left)) = subst (λ (l : List Entry). T (is_sorted by_bytes l)) next c.loop-entry.invariant.rises in
    let lacks : Lacks vs (e ∷ left) = subst (Lacks vs) next c.loop-entry.invariant.lacks in
    record {
      versions = λ q.
          same_opened (versions_in c.fill_entry.new.store) (with_opened vs e) left c.in_ok-fill_entry.ensures.versions q
          ∙ ap (λ (l : List Entry). opened_with vs l q) (sym next)
          ∙ c.loop-entry.invariant.versions q;
      rises = rises_after e left rises;
      lacks = lacks_same (with_opened vs e) (versions_in c.fill_entry.new.store) left c.in_ok-fill_entry.ensures.versions (lacks_after vs e left rises lacks);
      slots = omega (arith, c.in_ok-fill_entry.ensures.slots, c.loop-entry.invariant.slots, c.loop-entry.invariant.records);
      records = omega (arith, c.in_ok-fill_entry.ensures.records, c.loop-entry.invariant.records);
    }

pub returns : goal.returns
returns g c =
    let es = c.entries-entries.result.now in
    let l = c.loop-entry in
    let i : Image = c.args.opening.now in
    record {
      slots = omega (arith, l.invariant.slots, l.auto.entry-index-end, c.loop-entry-test.false, ap length c.entries-entries.ensures.value);
      versions = λ q.
          ap (λ (l : List Entry). opened_with (versions_in c.loop-entry.store) l q) (sym (drop_all l.entry-index es c.loop-entry-test.false))
          ∙ l.invariant.versions q
          ∙ ap (λ (l : List Entry). opened_with (versions_in []) l q) c.entries-entries.ensures.value
          ∙ versions_opened i c.entries-entries.ensures.lawful c.requires (versions_in []) versions_in-new q;
    }
