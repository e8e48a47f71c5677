-- A folder that is kept up.
use Rattle.std.proofs.Common.{◌≡◌, ◌≤◌, ℕ, List, [], ◌∷◌, ◌++◌, length, map, arith, Option, Some, None, Result, Ok, Err, refl, sym, ap, ap₂, subst, ◌∙◌}
use Rattle.std.specs.Prelude.{IfErr, IfSome, OnErr, OnOk}
use Rattle.std.specs.Io.KnownBytes.{Appends}
use Rattle.std.proofs.lemmas.List.{append-nil, length-append, map-append}
use Rattle.procedure.specs.Bytes.{Bytes}
use Rattle.procedure.specs.CatalogBytes.{catalog_bytes}
use Rattle.sha2.specs.Sha256.{sha256}
use Rattle.commitlog.specs.LogBytes.{log_bytes}
use Rattle.commitlog.specs.LogWriters.{HasSent, HasStopped, Sent}
use Rattle.commitlog.specs.Records.{Record}
use Rattle.commitlog.specs.declared.formats.LogHeader.{LogHeader}
use Rattle.commitlog.specs.declared.formats.Version.TheVariants.{Two}
use Rattle.image.specs.Images.{Image as ImageView}
use Rattle.image.specs.ImageBytes.{version_2}
use Rattle.steps.specs.CoreViews.{CoreView}
use Rattle.calcdb.specs.Journals.{Taken, taken_of, with_more}
use Rattle.calcdb.specs.LiveRuns.{HasFront, HoldsFront, HoldsLog, IsCutOff, IsKeptUp, header_of, image_files}
use Rattle.calcdb.specs.RunFiles.{File, HasBegun, Makes, MakesOf, image_file, run_files}
use Rattle.calcdb.specs.declared.faults.failures.RunFile.TheVariants.{Image, Log}
use Rattle.calcdb.proofs.MadeFiles.{makes_nothing, makes_on}

pub on_err : {T E P : Type 0} (r : Result T E) → P → OnErr r P
on_err (Ok x) p = tt
on_err (Err e) p = p

pub on_ok : {T E P : Type 0} (r : Result T E) → P → OnOk r P
on_ok (Ok x) p = p
on_ok (Err e) p = tt

pub err_so : {T E P Q : Type 0} (r : Result T E) → (P → Q) → IfErr r (λ _. P) → OnErr r Q
err_so (Ok x) f p = tt
err_so (Err e) f p = f p

pub no_less : {X : Type 0} (xs ys : List X) → length xs ≤ length (xs ++ ys)
no_less xs ys = omega (arith, length-append xs ys)

-- ---- what a log has

holds_all : (bytes : Option Bytes) (text : Bytes) → Appends (Some []) bytes text → bytes ≡ Some text
holds_all None text out = absurd out
holds_all (Some b) text out = ap (λ (x : Bytes). Some x) out

pub sent_is_front : (s : Sent) (h : LogHeader) (rs : List Record) (least : ℕ) → least ≤ length rs → HasSent (Some []) s h rs → HasFront s.bytes h rs least
sent_is_front s h rs least enough sent =
    let text = log_bytes Two h rs in
    record {
      front = rs;
      back = [];
      records = sym (append-nil rs);
      enough = enough;
      out = [];
      left = [];
      text = sym (append-nil text);
      holds = holds_all s.bytes text sent.bytes ∙ ap (λ (x : Bytes). Some x) (sym (append-nil text));
    }

pub stopped_is_front : (s : Sent) (h : LogHeader) (rs more : List Record) → HasStopped (Some []) s h rs more → HasFront s.bytes h (rs ++ more) (length rs)
stopped_is_front s h rs more stopped = record {
  front = rs;
  back = more;
  records = refl;
  enough = omega (arith);
  out = stopped.out;
  left = stopped.left;
  text = stopped.parts;
  holds = holds_all s.bytes (log_bytes Two h rs ++ stopped.out) stopped.bytes;
}

-- ---- where it is known what a folder holds

if_known : {X P : Type 0} (o : Option X) → P → IfSome o (λ _. P)
if_known None p = tt
if_known (Some x) p = p

pub known_more : {X P Q : Type 0} (o : Option X) → (P → Q) → IfSome o (λ _. P) → IfSome o (λ _. Q)
known_more None f p = tt
known_more (Some x) f p = f p

known_both : {X P Q R : Type 0} (o : Option X) → (P → Q → R) → IfSome o (λ _. P) → IfSome o (λ _. Q) → IfSome o (λ _. R)
known_both None f p q = tt
known_both (Some x) f p q = f p q

known_before : (P : Type 0) (old new : Option (List File)) → Makes old new [] → IfSome new (λ _. P) → IfSome old (λ _. P)
known_before P None new same p = tt
known_before P (Some xs) None same p = absurd (cc)
known_before P (Some xs) (Some ys) same p = p

begins_empty : (old new : Option (List File)) (bytes : Option Bytes) → Makes old new [] → HasBegun new bytes → IfSome old (λ _. bytes ≡ Some [])
begins_empty None new bytes same begun = tt
begins_empty (Some xs) new None same begun = absurd (cc)
begins_empty (Some xs) new (Some b) same begun = ap (λ (x : Bytes). Some x) begun

-- ---- a run's journal

-- once the opening was made and the log has its header
pub begins_kept : (old one two : Option (List File)) (core : CoreView) (i : ImageView) (bytes : Option Bytes) (h : LogHeader) (s : Sent) → core.log ≡ [] → i ≡ core.opening →
    Makes old one [] → HasBegun one bytes → Makes one two ((Image 0, version_2 i) ∷ []) → h.catalog ≡ sha256 (catalog_bytes core.catalog) → IfSome one (λ _. h.opening ≡ sha256 (version_2 i)) →
    (bytes ≡ Some [] → HasSent (Some []) s h []) → IsKeptUp old two (Some s) (taken_of core [])
begins_kept old one two core i bytes h s empty is same begun made catalog opening sent =
    let t = taken_of core [] in
    let header : (d : h.opening ≡ sha256 (version_2 i)) → h ≡ header_of t =
    λ d. ap₂ (λ (x y : Bytes). record { catalog = x; opening = y }) catalog (d ∙ ap (λ (j : ImageView). sha256 (version_2 j)) is) in
    record {
      images = makes_on old one two [] ((Image 0, version_2 core.opening) ∷ []) same (subst (λ (j : ImageView). Makes one two ((Image 0, version_2 j) ∷ [])) is made);
      records = known_both old (λ d b. subst (λ (l : List Record). HasSent (Some []) s (header_of t) l) (sym empty) (subst (λ (x : LogHeader). HasSent (Some []) s x []) (header d) (sent b)))
          (known_before (h.opening ≡ sha256 (version_2 i)) old one same opening) (begins_empty old one bytes same begun);
    }

-- where it stops before
pub begins_cut : (old new : Option (List File)) (t : Taken) (front back : List File) → image_files t ≡ front ++ back → Makes old new front → IsCutOff old new None t 0
begins_cut old new t front back files made = record { front = front; back = back; files = files; images = made; records = if_known old refl }

-- where the log has no header
pub cut_at_header : (old one two : Option (List File)) (core : CoreView) (i : ImageView) → i ≡ core.opening → Makes old one [] → Makes one two ((Image 0, version_2 i) ∷ []) → IsCutOff old two None (taken_of core []) 0
cut_at_header old one two core i is same made =
    let first : List File = (Image 0, version_2 core.opening) ∷ [] in
    begins_cut old two (taken_of core []) first [] (sym (append-nil first)) (makes_on old one two [] first same (subst (λ (j : ImageView). Makes one two ((Image 0, version_2 j) ∷ [])) is made))

more_files : (t : Taken) (rs : List Record) (is : List ImageView) → image_files (with_more t rs is) ≡ image_files t ++ map image_file is
more_files t rs is = ap (λ (l : List File). (Image 0, version_2 t.opening) ∷ l) (map-append image_file t.images is)

-- with records and images more
pub goes_on_kept : (old mid new : Option (List File)) (was now : Option Sent) (t : Taken) (rs : List Record) (is : List ImageView) → IsKeptUp old mid was t → Makes mid new (map image_file is) →
    ((h : LogHeader) (l : List Record) → HoldsLog was h l → HoldsLog now h (l ++ rs)) → IsKeptUp old new now (with_more t rs is)
goes_on_kept old mid new was now t rs is kept made put = record {
  images = subst (Makes old new) (sym (more_files t rs is)) (makes_on old mid new (image_files t) (map image_file is) kept.images made);
  records = known_more old (put (header_of t) t.records) kept.records;
}

-- where the log, or the image, can't be written
pub goes_on_cut : (old mid new : Option (List File)) (was now : Option Sent) (t : Taken) (rs : List Record) (is : List ImageView) → IsKeptUp old mid was t → Makes mid new [] →
    ((h : LogHeader) (l : List Record) → HoldsLog was h l → HoldsFront now h (l ++ rs) (length l)) → IsCutOff old new now (with_more t rs is) (length t.records)
goes_on_cut old mid new was now t rs is kept same put = record {
  front = image_files t;
  back = map image_file is;
  files = more_files t rs is;
  images = subst (Makes old new) (append-nil (image_files t)) (makes_on old mid new (image_files t) [] kept.images same);
  records = known_more old (put (header_of t) t.records) kept.records;
}

pub holds_front : (log : Option Sent) (h : LogHeader) (rs : List Record) (least : ℕ) → least ≤ length rs → HoldsLog log h rs → HoldsFront log h rs least
holds_front None h rs least enough holds = absurd holds
holds_front (Some s) h rs least enough holds = sent_is_front s h rs least enough holds

pub same_made : {F : Type 0} (made : F → Option (List File)) (old new : F) → new ≡ old → Makes (made old) (made new) []
same_made made old new same = subst (λ f. Makes (made old) (made f) []) (sym same) (makes_nothing (made old))

pub makes_from : {F : Type 0} (made : F → Option (List File)) (old mid : F) (new : Option (List File)) (files : List File) → mid ≡ old → Makes (made mid) new files → Makes (made old) new files
makes_from made old mid new files same more = subst (λ f. Makes (made f) new files) same more

-- ---- its end

pub ends_as_run : (start old new : Option (List File)) (s : Sent) (bytes : Option Bytes) (core : CoreView) (images : List ImageView) → bytes ≡ s.bytes → IsKeptUp start old (Some s) (taken_of core images) →
    MakesOf old new Log bytes → Makes start new (run_files core images)
ends_as_run None old new s bytes core images is kept made = tt
ends_as_run (Some xs) old new s bytes core images is kept made =
    let t = taken_of core images in
    let text = log_bytes Two (header_of t) core.log in
    let whole : bytes ≡ Some text = is ∙ holds_all s.bytes text kept.records.bytes in
    makes_on (Some xs) old new (image_files t) ((Log, text) ∷ []) kept.images (subst (λ (b : Option Bytes). MakesOf old new Log b) whole made)

pub ends_unbegun : (start old : Option (List File)) (core : CoreView) (images : List ImageView) → IsKeptUp start old None (taken_of core images) → Makes start old (run_files core images)
ends_unbegun None old core images kept = tt
ends_unbegun (Some xs) old core images kept = absurd kept.records
