-- What reading answers, and that no two answers fit the same bytes.
use Rattle.std.proofs.Common.{◌≡◌, ◌<◌, ◌⊎◌, ℕ, zero, suc, ◌+◌, ◌-◌, ◌*◌, Bool, true, false, cond, List, [], ◌∷◌, length, get_or, take, drop, Option, Some, None, Ok, Err, refl, sym, ap, subst, ◌∙◌, arith, inl, inr}
use Rattle.std.specs.declared.result.Result.{Result}
use Rattle.std.specs.Prelude.{nat_eq}
use Rattle.std.specs.Cmp.Lexicographic.{pointwise, bytes_decides}
use Rattle.std.proofs.lemmas.Bool.{eqb-true}
use Rattle.sha2.specs.Sha256.{sha256}
use Rattle.procedure.specs.Bytes.{Bytes}
use Rattle.procedure.specs.declared.limits.TheConstants.{VALUE_BYTES}
use Rattle.image.specs.Images.{Entry, Image, IsLawfulImage}
use Rattle.image.specs.ImageBytes.{IsImageSpelling, block_count}
use Rattle.image.specs.Fronts.{blocks_at, entries_at}
use Rattle.image.specs.Readings.{IsBad, Judges, alone, alone_or_bad, alone_or_refused, first_entries, image_at, second_entries}
use Rattle.image.specs.Refusals.{HasHeader, IsAnswer, IsFirst, IsNoImage, IsSecond, IsSigned, IsWhole, Refuses, stated}
use Rattle.image.specs.declared.limits.TheConstants.{VALUE_BYTES_V1}
use Rattle.image.specs.declared.errors.ReadError.{ReadError}
use Rattle.image.specs.declared.errors.ReadError.TheVariants as refused
use Rattle.procedure.proofs.TakenBytes.{IsBytes, IsBytes-drop}
use Rattle.image.proofs.FrontEntries.{some_is}
use Rattle.image.proofs.FrontBlocks.{blocks_again, blocks_fail, blocks_stop, blocks_take}
use Rattle.image.proofs.Readings.{first_signed, second_signed}
use Rattle.image.proofs.Spellings.{first_again, first_back, first_passed, read_as, read_is, refused_as, refused_is, second_again, second_back, second_passed}

abbrev pub Answer : Type 0
Answer = Result Image ReadError

-- bytes are of one version
apart : (b : Bytes) → IsFirst b → IsSecond b → ⊥
apart b first second = let no : 49 ≡ 50 = ap (λ (x : Bytes). get_or x 7 0) (sym first.magic ∙ second.magic) in omega (arith, no)

-- an answer, by what the entries were read as
record Image-read (read : Result (List Entry) ReadError) (b : Bytes) (a : Answer) : Type 0 where
  image : Image
  answer : a ≡ Ok image
  entries : read ≡ Ok image.entries
  at : image_at b image.entries ≡ Some image
  spelled : IsImageSpelling image b

record Refused-read (read : Result (List Entry) ReadError) (a : Answer) : Type 0 where
  error : ReadError
  answer : a ≡ Err error
  entries : read ≡ Err error

record Unlawful-read (read : Result (List Entry) ReadError) (b : Bytes) (a : Answer) : Type 0 where
  entries : List Entry
  answer : a ≡ Err refused.BadForm
  found : read ≡ Ok entries
  none : IsNoImage b

abbrev Seen : Result (List Entry) ReadError → Bytes → Answer → Type 0
Seen read b a = Image-read read b a ⊎ (Refused-read read a ⊎ Unlawful-read read b a)

clash : (read : Result (List Entry) ReadError) (es : List Entry) (e : ReadError) → read ≡ Ok es → read ≡ Err e → ⊥
clash read es e p q = let no : read_as es ≡ refused_as e = sym p ∙ q in absurd (cc)

same_image : (read : Result (List Entry) ReadError) (b : Bytes) (i j : Image) → read ≡ Ok i.entries → read ≡ Ok j.entries → image_at b i.entries ≡ Some i → image_at b j.entries ≡ Some j → i ≡ j
same_image read b i j p q x y = some_is i j (sym x ∙ ap (image_at b) (read_is i.entries j.entries (sym p ∙ q)) ∙ y)

one_seen : (read : Result (List Entry) ReadError) (b : Bytes) (a c : Answer) → Seen read b a → Seen read b c → a ≡ c
one_seen read b a c (inl p) (inl q) = p.answer ∙ ap (λ (i : Image). Ok i) (same_image read b p.image q.image p.entries q.entries p.at q.at) ∙ sym q.answer
one_seen read b a c (inl p) (inr (inl q)) = absurd (clash read p.image.entries q.error p.entries q.entries)
one_seen read b a c (inl p) (inr (inr q)) = absurd (q.none p.image p.spelled)
one_seen read b a c (inr (inl p)) (inl q) = absurd (clash read q.image.entries p.error q.entries p.entries)
one_seen read b a c (inr (inl p)) (inr (inl q)) = p.answer ∙ ap (λ (e : ReadError). Err e) (refused_is p.error q.error (sym p.entries ∙ q.entries)) ∙ sym q.answer
one_seen read b a c (inr (inl p)) (inr (inr q)) = absurd (clash read q.entries p.error q.found p.entries)
one_seen read b a c (inr (inr p)) (inl q) = absurd (p.none q.image q.spelled)
one_seen read b a c (inr (inr p)) (inr (inl q)) = absurd (clash read p.entries q.error p.found q.entries)
one_seen read b a c (inr (inr p)) (inr (inr q)) = p.answer ∙ sym q.answer

refuses : (c : Bool) (x : Result (List Entry) ReadError) (e : ReadError) → (c ≡ true → ⊥) → cond c x (Err e) ≡ Err e
refuses true x e h = absurd (h refl)
refuses false x e h = refl

more_bad : (es : List Entry) (r : ℕ) (rs : Bytes) → alone (es, r ∷ rs) ≡ refused_as refused.BadForm
more_bad es r rs = refuses (nat_eq (length (r ∷ rs)) 0) (Ok es) refused.BadForm (λ t. omega (arith, eqb-true (length (r ∷ rs)) 0 t))

-- entries that are wholly there and of no image
seen_bad : (read : Result (List Entry) ReadError) (b : Bytes) (x : List Entry × Bytes) → read ≡ alone x → IsNoImage b → Seen read b (Err refused.BadForm)
seen_bad read b (es, []) is none = inr (inr (record { entries = es; answer = refl; found = is; none = none }))
seen_bad read b (es, r ∷ rs) is none = inr (inl (record { error = refused.BadForm; answer = refl; entries = is ∙ more_bad es r rs }))

seen_bad_entries : (read : Result (List Entry) ReadError) (b : Bytes) (o : Option (List Entry × Bytes)) → read ≡ alone_or_bad o → IsNoImage b → Seen read b (Err refused.BadForm)
seen_bad_entries read b None is none = inr (inl (record { error = refused.BadForm; answer = refl; entries = is }))
seen_bad_entries read b (Some x) is none = seen_bad read b x is none

first_refused : (b : Bytes) → (IsSigned b → ⊥) → first_entries b ≡ Err refused.BadDigest
unfolding first_entries
first_refused b h = refuses (pointwise nat_eq (drop (length b - 32) b) (sha256 (take (length b - 32) b))) _ refused.BadDigest (λ t. h ((bytes_decides _ _).0 t))

second_refused : (b : Bytes) → (HasHeader b → ⊥) → second_entries b ≡ Err (refused.BadBlock 0)
unfolding second_entries
second_refused b h = refuses (pointwise nat_eq (take 32 (drop 37 b)) (sha256 (take 37 b))) _ (refused.BadBlock 0) (λ t. h ((bytes_decides _ _).0 t))

first_seen : (b : Bytes) (a : Answer) → IsFirst b → IsAnswer b a → Seen (first_entries b) b a
first_seen b (Ok i) first (inl v) =
    let r = first_again i b v in inl (record { image = i; answer = refl; entries = r.read; at = r.image; spelled = inl v })
first_seen b (Ok i) first (inr v) = absurd (apart b first (second_again i b v).begins)
first_seen b (Err refused.NotAnImage) first h = absurd (h.0 first)
first_seen b (Err refused.BadDigest) first h = inr (inl (record { error = refused.BadDigest; answer = refl; entries = first_refused b h.1 }))
first_seen b (Err (refused.BadBlock zero)) first h = absurd (apart b first h.0)
first_seen b (Err (refused.BadBlock (suc j))) first h = absurd (apart b first h.0)
first_seen b (Err refused.BadForm) first (inl whole, none) = seen_bad_entries (first_entries b) b (entries_at (stated b) (drop 37 (take (length b - 32) b))) (first_signed b whole.1) none
first_seen b (Err refused.BadForm) first (inr whole, none) = absurd (apart b first whole.0)
first_seen b (Err refused.NoMemory) first h = absurd h

-- a block that is missing is one of those that are stated
is_below : (j n : ℕ) → 64 * j < n → j < block_count n
is_below j n lt = omega (arith, lt)

second_seen : (b : Bytes) (a : Answer) → IsSecond b → IsBytes b → IsAnswer b a → Seen (second_entries b) b a
second_seen b (Ok i) second fits (inl v) = absurd (apart b (first_again i b v).begins second)
second_seen b (Ok i) second fits (inr v) =
    let r = second_again i b v in inl (record { image = i; answer = refl; entries = r.read; at = r.image; spelled = inr v })
second_seen b (Err refused.NotAnImage) second fits h = absurd (h.1 second)
second_seen b (Err refused.BadDigest) second fits h = absurd (apart b h.0 second)
second_seen b (Err (refused.BadBlock zero)) second fits h = inr (inl (record { error = refused.BadBlock 0; answer = refl; entries = second_refused b h.1 }))
second_seen b (Err (refused.BadBlock (suc j))) second fits (is, header, lt, opens, no_more) =
    let n = stated b in
    let plain : 0 + j ≡ j = omega arith in
    let stop = blocks_stop (block_count n) j 0 n (sha256 (take 37 b)) (drop 69 b) (IsBytes-drop 69 b fits) (is_below j n lt) opens no_more in
    inr (inl (record { error = refused.BadBlock (suc j); answer = refl; entries = second_signed b header ∙ ap alone_or_refused stop ∙ ap (λ k. refused_as (refused.BadBlock (suc k))) plain }))
second_seen b (Err refused.BadForm) second fits (inl whole, none) = absurd (apart b whole.0 second)
second_seen b (Err refused.BadForm) second fits (inr (is, header, opens), none) =
    seen_bad (second_entries b) b (opens.0, opens.1) (second_signed b header ∙ ap alone_or_refused (blocks_again (block_count (stated b)) 0 (stated b) (sha256 (take 37 b)) (drop 69 b) opens)) none
second_seen b (Err refused.NoMemory) second fits h = absurd h

-- of which version bytes are that have an answer
abbrev Version : Bytes → Answer → Type 0
Version b a = IsFirst b ⊎ (IsSecond b ⊎ (a ≡ Err refused.NotAnImage))

version_of : (b : Bytes) (a : Answer) → IsAnswer b a → Version b a
version_of b (Ok i) (inl v) = inl (first_again i b v).begins
version_of b (Ok i) (inr v) = inr (inl (second_again i b v).begins)
version_of b (Err refused.NotAnImage) h = inr (inr refl)
version_of b (Err refused.BadDigest) h = inl h.0
version_of b (Err (refused.BadBlock zero)) h = inr (inl h.0)
version_of b (Err (refused.BadBlock (suc j))) h = inr (inl h.0)
version_of b (Err refused.BadForm) (inl whole, none) = inl whole.0
version_of b (Err refused.BadForm) (inr whole, none) = inr (inl whole.0)
version_of b (Err refused.NoMemory) h = absurd h

-- bytes have one answer
pub one_answer : (b : Bytes) (a c : Answer) → IsBytes b → IsAnswer b a → IsAnswer b c → a ≡ c
one_answer b a c fits p q = go (version_of b a p) (version_of b c q)
  where
    go : Version b a → Version b c → a ≡ c
    go (inl first) w = one_seen (first_entries b) b a c (first_seen b a first p) (first_seen b c first q)
    go (inr (inl second)) w = one_seen (second_entries b) b a c (second_seen b a second fits p) (second_seen b c second fits q)
    go (inr (inr none)) (inl first) = one_seen (first_entries b) b a c (first_seen b a first p) (first_seen b c first q)
    go (inr (inr none)) (inr (inl second)) = one_seen (second_entries b) b a c (second_seen b a second fits p) (second_seen b c second fits q)
    go (inr (inr none)) (inr (inr other)) = none ∙ sym other

-- ---- what was read is an answer

fails_digest : (c : Bool) (x : Result (List Entry) ReadError) (d e : ReadError) → cond c x (Err d) ≡ Err e → ((c ≡ true) × (x ≡ Err e)) ⊎ ((c ≡ false) × (e ≡ d))
fails_digest true x d e h = inl (refl, h)
fails_digest false x d e h = inr (refl, sym (refused_is d e h))

alone_fails : (x : List Entry × Bytes) (e : ReadError) → alone x ≡ Err e → e ≡ refused.BadForm
alone_fails (es, []) e h = absurd (clash (alone (es, [])) es e refl h)
alone_fails (es, r ∷ rs) e h = sym (refused_is refused.BadForm e (sym (more_bad es r rs) ∙ h))

alone_or_bad_fails : (o : Option (List Entry × Bytes)) (e : ReadError) → alone_or_bad o ≡ Err e → e ≡ refused.BadForm
alone_or_bad_fails None e h = sym (refused_is refused.BadForm e h)
alone_or_bad_fails (Some x) e h = alone_fails x e h

no_first : (b : Bytes) (e : ReadError) → IsFirst b → first_entries b ≡ Err e → IsNoImage b
no_first b e first h i (inl v) = clash (first_entries b) i.entries e (first_again i b v).read h
no_first b e first h i (inr v) = apart b first (second_again i b v).begins

no_second : (b : Bytes) (e : ReadError) → IsSecond b → second_entries b ≡ Err e → IsNoImage b
no_second b e second h i (inl v) = apart b (first_again i b v).begins second
no_second b e second h i (inr v) = clash (second_entries b) i.entries e (second_again i b v).read h

differs : (x y : Bytes) → pointwise nat_eq x y ≡ false → x ≡ y → ⊥
differs x y h e = let no : true ≡ false = sym ((bytes_decides x y).1 e) ∙ h in absurd (cc)

first_fails : (b : Bytes) (e : ReadError) → IsFirst b → first_entries b ≡ Err e → Refuses e b
unfolding first_entries
first_fails b e first h =
    let d = drop (length b - 32) b in
    let s = sha256 (take (length b - 32) b) in
    let o = entries_at (stated b) (drop 37 (take (length b - 32) b)) in
    elim (fails_digest (pointwise nat_eq d s) (alone_or_bad o) refused.BadDigest e h) [
      | inl right ↦ subst (λ (x : ReadError). Refuses x b) (sym (alone_or_bad_fails o e right.1)) (inl (first, (bytes_decides d s).0 right.0), no_first b e first h)
      | inr wrong ↦ subst (λ (x : ReadError). Refuses x b) (sym wrong.1) (first, differs d s wrong.0)
    ]

-- a text of version 2 whose digests are right up to a block
blocks_refuse : (b : Bytes) (e : ReadError) (r : Result (List Entry × Bytes) ReadError) → IsSecond b → IsBytes b → HasHeader b → IsNoImage b →
    blocks_at (block_count (stated b)) 0 (stated b) (sha256 (take 37 b)) (drop 69 b) ≡ r → alone_or_refused r ≡ Err e → Refuses e b
blocks_refuse b e (Err f) second fits header none found h =
    let n = stated b in
    let s = blocks_fail (block_count n) 0 n (sha256 (take 37 b)) (drop 69 b) f (IsBytes-drop 69 b fits) found in
    let plain : 0 + s.at ≡ s.at = omega arith in
    let is : e ≡ refused.BadBlock (suc s.at) = sym (refused_is f e h) ∙ s.error ∙ ap (λ k. refused.BadBlock (suc k)) plain in
    subst (λ (x : ReadError). Refuses x b) (sym is) (second, header, omega (arith, s.below), s.opens, s.no_more)
blocks_refuse b e (Ok x) second fits header none found h =
    let n = stated b in
    let t = blocks_take (block_count n) 0 n (sha256 (take 37 b)) (drop 69 b) x (IsBytes-drop 69 b fits) found in
    subst (λ (y : ReadError). Refuses y b) (sym (alone_fails x e h)) (inr (second, header, (x.0, x.1, t.1, t.2, t.0.parts)), none)

second_fails : (b : Bytes) (e : ReadError) → IsSecond b → IsBytes b → second_entries b ≡ Err e → Refuses e b
unfolding second_entries
second_fails b e second fits h =
    let d = take 32 (drop 37 b) in
    let s = sha256 (take 37 b) in
    let r = blocks_at (block_count (stated b)) 0 (stated b) s (drop 69 b) in
    elim (fails_digest (pointwise nat_eq d s) (alone_or_refused r) (refused.BadBlock 0) e h) [
      | inl right ↦ blocks_refuse b e r second fits ((bytes_decides d s).0 right.0) (no_second b e second h) refl right.1
      | inr wrong ↦ subst (λ (x : ReadError). Refuses x b) (sym wrong.1) (second, differs d s wrong.0)
    ]

-- entries that were read, and make no lawful image
bad_first : (b : Bytes) (es : List Entry) → IsFirst b → first_entries b ≡ Ok es → IsBad VALUE_BYTES_V1 b es → IsNoImage b
bad_first b es first read bad i (inl v) =
    let r = first_again i b v in
    bad i (ap (image_at b) (read_is es i.entries (sym read ∙ r.read)) ∙ r.image) v.0
bad_first b es first read bad i (inr v) = apart b first (second_again i b v).begins

bad_second : (b : Bytes) (es : List Entry) → IsSecond b → second_entries b ≡ Ok es → IsBad VALUE_BYTES b es → IsNoImage b
bad_second b es second read bad i (inl v) = apart b (first_again i b v).begins second
bad_second b es second read bad i (inr v) =
    let r = second_again i b v in
    bad i (ap (image_at b) (read_is es i.entries (sym read ∙ r.read)) ∙ r.image) v.0

whole_second : (b : Bytes) (es : List Entry) → IsSecond b → IsBytes b → second_entries b ≡ Ok es → IsWhole b
whole_second b es second fits read =
    let p = second_passed b es read in
    let t = blocks_take (block_count (stated b)) 0 (stated b) (sha256 (take 37 b)) (drop 69 b) (es, []) (IsBytes-drop 69 b fits) p.1 in
    inr (second, p.0, (es, [], t.1, t.2, t.0.parts))

pub first_judged : (b : Bytes) (r : Answer) → IsFirst b → IsBytes b → Judges VALUE_BYTES_V1 b (first_entries b) r → IsAnswer b r
first_judged b (Ok i) first fits (es, read, at, lawful) = inl (lawful, first_back b es i first fits read at)
first_judged b (Err e) first fits (inl read) = first_fails b e first read
first_judged b (Err e) first fits (inr (is, es, read, bad)) =
    subst (λ (x : ReadError). Refuses x b) (sym is) (inl (first, (first_passed b es read).0), bad_first b es first read bad)

pub second_judged : (b : Bytes) (r : Answer) → IsSecond b → IsBytes b → Judges VALUE_BYTES b (second_entries b) r → IsAnswer b r
second_judged b (Ok i) second fits (es, read, at, lawful) = inr (lawful, second_back b es i second fits read at)
second_judged b (Err e) second fits (inl read) = second_fails b e second fits read
second_judged b (Err e) second fits (inr (is, es, read, bad)) =
    subst (λ (x : ReadError). Refuses x b) (sym is) (whole_second b es second fits read, bad_second b es second read bad)

-- an image that bytes spell is lawful
pub lawful_answer : (b : Bytes) (i : Image) → IsAnswer b (Ok i) → IsLawfulImage i
lawful_answer b i (inl first) = first.0.lawful
lawful_answer b i (inr second) = second.0.lawful

-- no two images have the same bytes
pub one_image : (i j : Image) (b : Bytes) → IsImageSpelling i b → IsImageSpelling j b → i ≡ j
one_image i j b (inl v) (inl w) = let r = first_again i b v in let s = first_again j b w in same_image (first_entries b) b i j r.read s.read r.image s.image
one_image i j b (inl v) (inr w) = absurd (apart b (first_again i b v).begins (second_again j b w).begins)
one_image i j b (inr v) (inl w) = absurd (apart b (first_again j b w).begins (second_again i b v).begins)
one_image i j b (inr v) (inr w) = let r = second_again i b v in let s = second_again j b w in same_image (second_entries b) b i j r.read s.read r.image s.image

-- bytes of neither version
pub neither : (b : Bytes) (a : Answer) → (IsFirst b → ⊥) → (IsSecond b → ⊥) → IsAnswer b a → Err refused.NotAnImage ≡ a
neither b a no_1 no_2 h = elim (version_of b a h) [
  | inl first ↦ absurd (no_1 first)
  | inr (inl second) ↦ absurd (no_2 second)
  | inr (inr is) ↦ sym is
]
