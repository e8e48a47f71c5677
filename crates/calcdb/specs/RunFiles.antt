-- The files that a run leaves in its folder.
use Rattle.std.specs.Prelude.{◌≡◌, List, [], ◌∷◌, ◌++◌, map, codes, decimal, Option, None, Some}
use Rattle.procedure.specs.Bytes.{Bytes}
use Rattle.procedure.specs.CatalogBytes.{catalog_bytes}
use Rattle.sha2.specs.Sha256.{sha256}
use Rattle.commitlog.specs.LogBytes.{log_bytes}
use Rattle.commitlog.specs.declared.formats.Version.TheVariants.{Two}
use Rattle.image.specs.Images.{Image as ImageView}
use Rattle.image.specs.ImageBytes.{version_2}
use Rattle.steps.specs.CoreViews.{CoreView}
use Rattle.calcdb.specs.declared.faults.failures.RunFile.{RunFile}
use Rattle.calcdb.specs.declared.faults.failures.RunFile.TheVariants.{Image, Log}

-- a file, by its name in the folder
abbrev pub File : Type 0
File = RunFile × Bytes

-- an image has its number as a name
abbrev pub file_name : RunFile → Bytes
file_name (Image number) = decimal number ++ codes ".img"
file_name Log = codes "log"

abbrev pub image_file : ImageView → File
image_file i = (Image i.number, version_2 i)

-- the log, whose header has the digests of the procedures and of the opening's bytes
abbrev pub log_file : CoreView → File
log_file core = (Log, log_bytes Two (record { catalog = sha256 (catalog_bytes core.catalog); opening = sha256 (version_2 core.opening) }) core.log)

-- the opening as image 0, each image that was taken, and the log
abbrev pub run_files : CoreView → List ImageView → List File
run_files core images = (Image 0, version_2 core.opening) ∷ map image_file images ++ (log_file core ∷ [])

-- where it is known what was made, these files were made beside it, in this order
abbrev pub Makes : Option (List File) → Option (List File) → List File → Type 0
Makes None new files = Unit {0}
Makes (Some made) new files = new ≡ Some (made ++ files)

-- a file that has begun holds nothing; what it holds is known where it is known what was made
abbrev pub HasBegun : Option (List File) → Option Bytes → Type 0
HasBegun made None = made ≡ None
HasBegun made (Some bytes) = bytes ≡ []

-- a file was made of these bytes, where they are known
abbrev pub MakesOf : Option (List File) → Option (List File) → RunFile → Option Bytes → Type 0
MakesOf old new name None = Unit {0}
MakesOf old new name (Some bytes) = Makes old new ((name, bytes) ∷ [])

-- a front of these files was made, and not all
abbrev pub MakesFront : Option (List File) → Option (List File) → List File → Type 0
MakesFront old new files = (front left : List File) × (next : File) × (files ≡ front ++ (next ∷ left)) × Makes old new front

-- what is known isn't unknown
pub some_is_known : {X : Type 0} (bytes : Bytes) → ◌≡◌ {A = Option Bytes} (Some bytes) None → X
some_is_known bytes is = absurd (cc)
