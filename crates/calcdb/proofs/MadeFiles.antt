-- Files that are made one after another.
use Rattle.std.proofs.Common.{◌≡◌, ◌<◌, ◌≤◌, ℕ, ◌+◌, List, [], ◌∷◌, ◌++◌, length, get_or, take, drop, map, Option, Some, None, Result, Ok, Err, sym, ap, ap₂, subst, ◌∙◌, append_assoc}
use Rattle.std.specs.Prelude.{IfErr, IfSome}
use Rattle.std.proofs.lemmas.List.{append-nil, drop_more, map-append, map_more, take-append-drop, take_all}
use Rattle.std.specs.Io.KnownBytes.{Appends}
use Rattle.procedure.specs.Bytes.{Bytes}
use Rattle.procedure.specs.CatalogBytes.{catalog_bytes}
use Rattle.sha2.specs.Sha256.{sha256}
use Rattle.commitlog.specs.LogBytes.{log_bytes}
use Rattle.commitlog.specs.Records.{Record}
use Rattle.commitlog.specs.declared.formats.LogHeader.{LogHeader}
use Rattle.commitlog.specs.declared.formats.Version.TheVariants.{Two}
use Rattle.image.specs.Images.{Image as ImageView}
use Rattle.image.specs.ImageBytes.{version_2}
use Rattle.steps.specs.CoreViews.{CoreView}
use Rattle.calcdb.specs.RunFiles.{File, HasBegun, Makes, MakesFront, MakesOf, image_file, log_file}
use Rattle.calcdb.specs.declared.faults.failures.RunFile.{RunFile}
use Rattle.calcdb.specs.declared.faults.failures.RunFile.TheVariants.{Image, Log}

pub makes_nothing : (made : Option (List File)) → Makes made made []
makes_nothing None = tt
makes_nothing (Some xs) = ap (λ (l : List File). Some l) (sym (append-nil xs))

pub makes_on : (old mid new : Option (List File)) (front back : List File) → Makes old mid front → Makes mid new back → Makes old new (front ++ back)
makes_on None mid new front back h k = tt
makes_on (Some xs) mid new front back h k = subst (λ m. Makes m new back) h k ∙ ap (λ (l : List File). Some l) (simp append_assoc)

-- a file that had begun, when it is made
pub makes_file : (old mid new : Option (List File)) (name : RunFile) (before after : Option Bytes) (bytes : Bytes) → Makes old mid [] → HasBegun mid before → Appends before after bytes →
    MakesOf mid new name after → Makes old new ((name, bytes) ∷ [])
makes_file None mid new name before after bytes same begun out made = tt
makes_file (Some xs) mid new name None after bytes same begun out made = absurd (cc)
makes_file (Some xs) mid new name (Some b) None bytes same begun out made = absurd out
makes_file (Some xs) mid new name (Some b) (Some a) bytes same begun out made =
    let whole : a ≡ bytes = out ∙ ap (λ (l : Bytes). l ++ bytes) begun in
    makes_on (Some xs) mid new [] ((name, bytes) ∷ []) same (subst (λ (l : Bytes). Makes mid new ((name, l) ∷ [])) whole made)

-- where the next file isn't made
pub stops_before : (old mid new : Option (List File)) (files front : List File) (next : File) (left : List File) → files ≡ front ++ (next ∷ left) → Makes old mid front → Makes mid new [] → MakesFront old new files
stops_before old mid new files front next left parts made same = (front, left, next, parts, subst (Makes old new) (append-nil front) (makes_on old mid new front [] made same))

-- ---- images in turn

pub image_more : (old mid new : Option (List File)) (images : List ImageView) (i : ℕ) (image : ImageView) → i < length images → image ≡ get_or images i image → Makes old mid (map image_file (take i images)) →
    Makes mid new (image_file image ∷ []) → Makes old new (map image_file (take (i + 1) images))
image_more old mid new images i image lt is made more =
    subst (Makes old new) (ap (λ (x : ImageView). map image_file (take i images) ++ (image_file x ∷ [])) is ∙ sym (map_more image_file images i image lt))
    (makes_on old mid new (map image_file (take i images)) (image_file image ∷ []) made more)

pub image_stops : (old mid new : Option (List File)) (images : List ImageView) (i : ℕ) (image : ImageView) → i < length images → image ≡ get_or images i image → Makes old mid (map image_file (take i images)) →
    Makes mid new [] → MakesFront old new (map image_file images)
image_stops old mid new images i image lt is made same =
    let parts : images ≡ take i images ++ (get_or images i image ∷ drop (i + 1) images) = sym (take-append-drop i images) ∙ ap (λ (l : List ImageView). take i images ++ l) (drop_more images i image lt) in
    stops_before old mid new (map image_file images) (map image_file (take i images)) (image_file (get_or images i image)) (map image_file (drop (i + 1) images))
    (ap (map image_file) parts ∙ map-append image_file (take i images) (get_or images i image ∷ drop (i + 1) images)) made same

pub all_images : (old new : Option (List File)) (images : List ImageView) (i : ℕ) → length images ≤ i → Makes old new (map image_file (take i images)) → Makes old new (map image_file images)
all_images old new images i le made = subst (λ (l : List ImageView). Makes old new (map image_file l)) (take_all i images le) made

-- ---- a whole run

pub if_err : {T E P : Type 0} (r : Result T E) → P → IfErr r (λ e. P)
if_err (Ok x) p = tt
if_err (Err e) p = p

-- behind a first file
pub front_more : (old one two : Option (List File)) (file : File) (files rest : List File) → Makes old one (file ∷ []) → MakesFront one two files → MakesFront old two (file ∷ (files ++ rest))
front_more old one two file files rest first (front, left, next, parts, made) =
    (file ∷ front, left ++ rest, next, ap (λ (l : List File). file ∷ (l ++ rest)) parts ∙ ap (λ (l : List File). file ∷ l) (append_assoc front (next ∷ left) rest), makes_on old one two (file ∷ []) front first made)

-- the files before the log
abbrev pub images_of : ImageView → List ImageView → List File
images_of opening images = (Image 0, version_2 opening) ∷ map image_file images

pub all_but_log : (old one two : Option (List File)) (opening i : ImageView) (images l : List ImageView) → i ≡ opening → l ≡ images → Makes old one ((Image 0, version_2 i) ∷ []) → Makes one two (map image_file l) →
    Makes old two (images_of opening images)
all_but_log old one two opening i images l is are first all =
    makes_on old one two ((Image 0, version_2 opening) ∷ []) (map image_file images) (subst (λ (j : ImageView). Makes old one ((Image 0, version_2 j) ∷ [])) is first)
    (subst (λ (k : List ImageView). Makes one two (map image_file k)) are all)

pub log_made : (old mid new : Option (List File)) (front : List File) (core : CoreView) (header : LogHeader) (records : List Record) → Makes old mid front → IfSome old (λ made. header.opening ≡ sha256 (version_2 core.opening)) →
    header.catalog ≡ sha256 (catalog_bytes core.catalog) → records ≡ core.log → Makes mid new ((Log, log_bytes Two header records) ∷ []) → Makes old new (front ++ (log_file core ∷ []))
log_made None mid new front core header records made opening catalog log out = tt
log_made (Some xs) mid new front core header records made opening catalog log out =
    let headers : header ≡ record { catalog = sha256 (catalog_bytes core.catalog); opening = sha256 (version_2 core.opening) } = ap₂ (λ (x y : Bytes). record { catalog = x; opening = y }) catalog opening in
    let same : ((Log, log_bytes Two header records) ∷ []) ≡ (log_file core ∷ []) = ap₂ (λ (h : LogHeader) (l : List Record). (Log, log_bytes Two h l) ∷ []) headers log in
    makes_on (Some xs) mid new front (log_file core ∷ []) made (subst (Makes mid new) same out)
