-- Images of a log's checkpoints, and what chains of them merge to.
use Rattle.std.specs.Prelude.{◌≡◌, ℕ, List, [], ◌∷◌}
use Rattle.std.specs.List.{All, AllByRecursion, Contains}
use Rattle.procedure.specs.Table.{Table}
use Rattle.procedure.specs.Procedures.{Procedure}
use Rattle.commitlog.specs.Records.{Record}
use Rattle.commitlog.specs.Cuts as cuts
use Rattle.commitlog.specs.Cuts.{HasCut, IsFullImage, IsPartialImage, at_cut}
use Rattle.image.specs.Images.{Image, changes_of}
use Rattle.image.specs.Merges.{IsChain, AreChained, last_of, table_with_images, table_of}
use Rattle.image.specs.declared.images.Kind.{Kind}
use Rattle.image.specs.declared.images.Kind.TheVariants.{Full, Partial}

-- an image without its kind, as the log speaks of it
abbrev pub plain : Image → cuts.CutImage
plain i = record { number = i.number; base = i.base; place = i.place; entries = changes_of i }

abbrev pub IsOfKind : Kind → List Procedure → Table → List Record → cuts.CutImage → Type 0
IsOfKind Full c t l i = IsFullImage c t l i
IsOfKind Partial c t l i = IsPartialImage c t l i

-- the full image, or the partial one, of its checkpoint in the log
abbrev pub IsCutOf : List Procedure → Table → List Record → Image → Type 0
IsCutOf c t l i = IsOfKind i.kind c t l (plain i)

-- that of a checkpoint which the log has cut
pub record IsTaken (c : List Procedure) (t : Table) (l : List Record) (i : Image) : Type 0 where
  pub has_cut : HasCut l i.number
  pub cut : IsCutOf c t l i

abbrev pub AllTaken : List Procedure → Table → List Record → List Image → Type 0
AllTaken c t l is = AllByRecursion (IsTaken c t l) is

-- the number of the last image, and this one where there is none
abbrev pub number_of_last : ℕ → List Image → ℕ
number_of_last n [] = n
number_of_last n (p ∷ ps) = number_of_last p.number ps

-- each chain of some of the images merges to the table at the last one's cut, from the opening on, which counts as the
-- full image of checkpoint 0, or from a full image
pub record ChainsAreCuts (c : List Procedure) (t : Table) (l : List Record) (is : List Image) : Type 0 where
  pub opening_chain : (ps : List Image) → All (Contains is) ps → AreChained 0 ps → table_with_images t ps ≡ at_cut c t l (number_of_last 0 ps)
  pub chain :
      (i : Image) (ps : List Image) → Contains is i → All (Contains is) ps → IsChain i ps →
      table_with_images (table_of i) ps ≡ at_cut c t l (last_of i ps).number
