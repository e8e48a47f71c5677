-- Chains of a log's images are its tables at their cuts.
use Rattle.std.proofs.Common.{◌≡◌, List, [], ◌∷◌, sym, ap, ◌∙◌, subst}
use Rattle.std.specs.List.{AllByRecursion}
use Rattle.procedure.specs.Table.{Table, merged}
use Rattle.procedure.specs.Procedures.{Procedure}
use Rattle.commitlog.specs.Records.{Record}
use Rattle.commitlog.specs.Histories.{IsCyclic}
use Rattle.commitlog.specs.Cuts.{at_cut, cut}
use Rattle.commitlog.proofs.CutTables.{full_is_cut, partial_is_cut}
use Rattle.image.specs.Images.{Image, changes_of}
use Rattle.image.specs.Merges.{AreChained, IsChain, last_of, table_of}
use Rattle.image.specs.Merges as merges
use Rattle.image.specs.declared.images.Kind.{Kind}
use Rattle.image.specs.declared.images.Kind.TheVariants.{Full, Partial}
use Rattle.replay.specs.Promises.{IsImageOf, IsOfKind, data_of}

module _ (c : List Procedure) (t : Table) (l : List Record) (cyclic : IsCyclic l) where
  partials_are_cuts : (u : Table) (i : Image) (ps : List Image) → u ≡ at_cut c t l i.number → AreChained i.number ps → AllByRecursion (IsImageOf c t l) ps →
      merges.table_with_images u ps ≡ at_cut c t l (last_of i ps).number
  partials_are_cuts u i [] e stand images = e
  partials_are_cuts u i (p ∷ ps) e stand images =
      let partial = subst (λ (k : Kind). IsOfKind k c t l (data_of p)) stand.0 images.0.image in
      let next : merged u (changes_of p) ≡ at_cut c t l p.number =
      ap (λ (x : Table). merged x (changes_of p)) (e ∙ ap (at_cut c t l) (sym stand.1)) ∙ partial_is_cut c t l (data_of p) cyclic partial in
      partials_are_cuts (merged u (changes_of p)) p ps next stand.2 images.1

  pub chain_is_cut : (full : Image) (ps : List Image) → IsChain full ps → AllByRecursion (IsImageOf c t l) (full ∷ ps) →
      merges.table_with_images (table_of full) ps ≡ at_cut c t l (last_of full ps).number
  chain_is_cut full ps chain images =
      partials_are_cuts (table_of full) full ps (full_is_cut c t l (data_of full) (subst (λ (k : Kind). IsOfKind k c t l (data_of full)) chain.full_first images.0.image)) chain.partials images.1

  -- the last image, and its place
  place_of_kind : (k : Kind) (i : Image) → IsOfKind k c t l (data_of i) → i.place ≡ cut l i.number
  place_of_kind Full i f = f.place
  place_of_kind Partial i f = f.place

  pub last_place : (full : Image) (ps : List Image) → AllByRecursion (IsImageOf c t l) (full ∷ ps) → (last_of full ps).place ≡ cut l (last_of full ps).number
  last_place full [] images = place_of_kind full.kind full images.0.image
  last_place full (p ∷ ps) images = last_place p ps images.1
