-- Files of images that are merged one after another.
use Rattle.std.proofs.Common.{◌≡◌, ◌⊎◌, inl, inr, ℕ, ◌+◌, ◌<◌, get_or, length, map, take, List, [], ◌∷◌, ◌++◌, Result, Ok, Err, refl, sym, ap, subst, ◌∙◌}
use Rattle.std.proofs.lemmas.List.{map-append, take_more}
use Rattle.procedure.specs.Bytes.{Bytes}
use Rattle.image.specs.ImageBytes.{IsImageSpelling}
use Rattle.image.specs.Images.{Image}
use Rattle.image.specs.Mergers as in_turn
use Rattle.image.specs.Mergers.{Merging}
use Rattle.image.specs.Refusals.{IsAnswer, Refuses}
use Rattle.image.specs.declared.errors.ReadError.{ReadError}
use Rattle.image.specs.declared.errors.ReadError.TheVariants as read_error
use Rattle.image.specs.declared.merges.MergeError.{MergeError}
use Rattle.image.specs.declared.merges.MergeError.TheVariants as merge_error
use Rattle.calcdb.specs.ImageFiles.{AreRead, RefusesFirst, Spell}
use Rattle.calcdb.specs.Merging.{HasTaken, IsMerge, kept_of, merge_in_words, merge_of_read}
use Rattle.calcdb.specs.Reasons.{Tells, read_reason}
use Rattle.calcdb.specs.declared.faults.Reason.{Reason}
use Rattle.calcdb.specs.declared.faults.Reason.TheVariants as reason

abbrev pub Reading : Type 0
Reading = Result (List Image) Reason

abbrev Kept : Type 0
Kept = Result Merging Reason

-- ---- one file more

-- what files are read as that spell these images, and one more that is answered so
abbrev pub with_answer : List Image → Result Image ReadError → Reading
with_answer is (Ok i) = Ok (is ++ i ∷ [])
with_answer is (Err e) = Err (read_reason e)

spell-append : (is : List Image) (bs : List Bytes) (i : Image) (b : Bytes) → Spell is bs → IsImageSpelling i b → Spell (is ++ i ∷ []) (bs ++ b ∷ [])
spell-append [] [] i b h s = (s, tt)
spell-append [] (c ∷ bs) i b h s = absurd h
spell-append (j ∷ is) [] i b h s = absurd h
spell-append (j ∷ is) (c ∷ bs) i b (here, there) s = (here, spell-append is bs i b there s)

refused_before : (e : ReadError) (bs : List Bytes) (b : Bytes) → RefusesFirst e bs → RefusesFirst e (bs ++ b ∷ [])
refused_before e [] b h = absurd h
refused_before e (c ∷ bs) b (inl h) = inl h
refused_before e (c ∷ bs) b (inr (i, s, h)) = inr (i, s, refused_before e bs b h)

refused_last : (e : ReadError) (is : List Image) (bs : List Bytes) (b : Bytes) → Spell is bs → Refuses e b → RefusesFirst e (bs ++ b ∷ [])
refused_last e [] [] b s h = inl h
refused_last e [] (c ∷ bs) b s h = absurd s
refused_last e (i ∷ is) [] b s h = absurd s
refused_last e (i ∷ is) (c ∷ bs) b (here, there) h = inr (i, here, refused_last e is bs b there h)

read_before : (bs : List Bytes) (b : Bytes) (r : Reason) → AreRead bs (Err r) → AreRead (bs ++ b ∷ []) (Err r)
read_before bs b r (e, h, same) = (e, refused_before e bs b h, same)

read_last : (bs : List Bytes) (b : Bytes) (is : List Image) (a : Result Image ReadError) → Spell is bs → IsAnswer b a → AreRead (bs ++ b ∷ []) (with_answer is a)
read_last bs b is (Ok i) s h = spell-append is bs i b s h
read_last bs b is (Err e) s h = (e, refused_last e is bs b s h, refl)

-- what files and one more are read as: the files spell images, and the answer to the last one counts; or one of them is refused
abbrev Parted : List Bytes → Bytes → Reading → Type 0
Parted bs b read =
    ((is : List Image) × (a : Result Image ReadError) × Spell is bs × IsAnswer b a × (read ≡ with_answer is a)) ⊎ ((r : Reason) × AreRead bs (Err r) × (read ≡ Err r))

led : (i : Image) (is js : List Image) (a : Result Image ReadError) → Ok is ≡ with_answer js a → Ok (i ∷ is) ≡ with_answer (i ∷ js) a
led i is js (Ok k) same = (let whole : is ≡ js ++ k ∷ [] = cc in ap (λ (l : List Image). Ok (i ∷ l)) whole)
led i is js (Err e) same = absurd (cc)

unled : (i : Image) (r : Reason) (js : List Image) (a : Result Image ReadError) → Err r ≡ with_answer js a → Err r ≡ with_answer (i ∷ js) a
unled i r js (Ok k) same = absurd (cc)
unled i r js (Err e) same = same

parted : (bs : List Bytes) (b : Bytes) (read : Reading) → AreRead (bs ++ b ∷ []) read → Parted bs b read
parted [] b (Ok []) h = absurd h
parted [] b (Ok (i ∷ [])) (s, h) = inl ([], Ok i, tt, s, refl)
parted [] b (Ok (i ∷ j ∷ is)) (s, h) = absurd h
parted [] b (Err r) (e, inl h, same) = inl ([], Err e, tt, h, ap (λ (x : Reason). Err x) same)
parted [] b (Err r) (e, inr (i, s, h), same) = absurd h
parted (c ∷ bs) b (Ok []) h = absurd h
parted (c ∷ bs) b (Ok (i ∷ is)) (s, h) =
    elim (parted bs b (Ok is) h) [
      | inl (js, a, spell, answer, same) ↦ inl (i ∷ js, a, (s, spell), answer, led i is js a same)
      | inr (r, at, same) ↦ absurd (cc)
    ]
parted (c ∷ bs) b (Err r) (e, inl h, same) = inr (r, (e, inl h, same), refl)
parted (c ∷ bs) b (Err r) (e, inr (i, s, h), same) =
    elim (parted bs b (Err r) (e, h, same)) [
      | inl (js, a, spell, answer, is) ↦ inl (i ∷ js, a, (s, spell), answer, unled i r js a is)
      | inr (x, (f, at, of), is) ↦ inr (x, (f, inr (i, s, at), of), is)
    ]

-- bytes are read as one thing at most
abbrev pub IsOnly : Bytes → Result Image ReadError → Type 0
IsOnly b answer = (other : Result Image ReadError) → IsAnswer b other → (answer ≡ other) ⊎ (answer ≡ Err read_error.NoMemory)

-- an image that was read is the bytes' own
pub read_given : (b : Bytes) (i : Image) → (Ok i ≡ Err read_error.NoMemory) ⊎ IsImageSpelling i b → IsImageSpelling i b
read_given b i (inl e) = absurd (cc)
read_given b i (inr is) = is

-- what is kept takes these images in
abbrev pub TakesIn : Merging → Image → Merging → Type 0
TakesIn m i n = (is : List Image) → m ≡ in_turn.after is → n ≡ in_turn.after (is ++ i ∷ [])

pub taken_none : HasTaken [] (Ok (in_turn.after []))
taken_none = record { some = inr (Ok [], tt, refl); only = λ read h. inl (nothing read h) }
  where
    nothing : (read : Reading) → AreRead [] read → Ok (in_turn.after []) ≡ kept_of read
    nothing (Ok []) h = refl
    nothing (Ok (i ∷ is)) h = absurd h
    nothing (Err r) (e, h, same) = absurd h

pub taken_nothing : (files : List Bytes) → HasTaken files (Err reason.NoMemory)
taken_nothing files = record { some = inl refl; only = λ read h. inr refl }

pub taken_refused : (files : List Bytes) (b : Bytes) (r : Reason) → HasTaken files (Err r) → HasTaken (files ++ b ∷ []) (Err r)
taken_refused files b r h = record {
  some = elim h.some [
    | inl none ↦ inl none
    | inr (read, at, same) ↦ inr (Err r, at_more read at same, refl)
  ];
  only = λ read at. elim (parted files b read at) [
    | inl (is, a, spell, answer, same) ↦ elim (h.only (Ok is) spell) [ inl bad ↦ absurd (cc) | inr none ↦ inr none ]
    | inr (x, before, same) ↦ elim (h.only (Err x) before) [ inl is ↦ inl (is ∙ ap kept_of (sym same)) | inr none ↦ inr none ]
  ];
}
  where
    at_more : (read : Reading) → AreRead files read → Err r ≡ kept_of read → AreRead (files ++ b ∷ []) (Err r)
    at_more (Ok is) at same = absurd (cc)
    at_more (Err x) at same = let one : r ≡ x = cc in read_before files b r (subst (λ (y : Reason). AreRead files (Err y)) (sym one) at)

-- the images that the files were read as
pub came : (files : List Bytes) (m : Merging) → HasTaken files (Ok m) → (is : List Image) × Spell is files × (m ≡ in_turn.after is)
came files m h = elim h.some [ inl bad ↦ absurd (cc) | inr (read, at, same) ↦ of_read read at same ]
  where
    of_read : (read : Reading) → AreRead files read → Ok m ≡ kept_of read → (is : List Image) × Spell is files × (m ≡ in_turn.after is)
    of_read (Ok is) at same = (is, at, cc)
    of_read (Err x) at same = absurd (cc)

pub same_after : (m : Merging) (is : List Image) → (Ok m ≡ kept_of (Ok is)) ⊎ (Ok m ≡ Err reason.NoMemory) → m ≡ in_turn.after is
same_after m is (inl same) = cc
same_after m is (inr bad) = absurd (cc)

pub never_refused : (m : Merging) (x : Reason) → (Ok m ≡ kept_of (Err x)) ⊎ (Ok m ≡ Err reason.NoMemory) → ⊥
never_refused m x (inl bad) = cc
never_refused m x (inr bad) = cc

-- the files of which one was refused, or there was no memory
pub came_refused : (files : List Bytes) (r : Reason) → HasTaken files (Err r) → (r ≡ reason.NoMemory) ⊎ AreRead files (Err r)
came_refused files r h = elim h.some [ inl none ↦ inl (cc) | inr (read, at, same) ↦ inr (of_read read at same) ]
  where
    of_read : (read : Reading) → AreRead files read → Err r ≡ kept_of read → AreRead files (Err r)
    of_read (Ok is) at same = absurd (cc)
    of_read (Err x) at same = let one : r ≡ x = cc in subst (λ (y : Reason). AreRead files (Err y)) (sym one) at

pub only_came_refused : (files : List Bytes) (r : Reason) → HasTaken files (Err r) → (read : Reading) → AreRead files read → (r ≡ reason.NoMemory) ⊎ (read ≡ Err r)
only_came_refused files r h (Ok is) at = elim (h.only (Ok is) at) [ inl bad ↦ absurd (cc) | inr none ↦ inl (cc) ]
only_came_refused files r h (Err x) at = elim (h.only (Err x) at) [ inl same ↦ (let one : x ≡ r = cc in inr (ap (λ (y : Reason). Err y) one)) | inr none ↦ inl (cc) ]

-- a file that is refused
pub taken_unread : (files : List Bytes) (b : Bytes) (m : Merging) (e : ReadError) → HasTaken files (Ok m) →
    (◌≡◌ {A = Result Image ReadError} (Err e) (Err read_error.NoMemory)) ⊎ IsAnswer b (Err e) → IsOnly b (Err e) →
    HasTaken (files ++ b ∷ []) (Err (read_reason e))
taken_unread files b m e h answer exact = record {
  some = elim answer [
    | inl none ↦ inl (wanting none)
    | inr is ↦ (let (js, spell, same) = came files m h in inr (Err (read_reason e), read_last files b js (Err e) spell is, refl))
  ];
  only = λ read at. elim (parted files b read at) [
    | inl (js, a, spell, is, same) ↦ elim (exact a is) [
      | inl one ↦ inl (ap kept_of (sym (same ∙ ap (with_answer js) (sym one))))
      | inr none ↦ inr (wanting none)
    ]
    | inr (x, before, same) ↦ absurd (never_refused m x (h.only (Err x) before))
  ];
}
  where
    wanting : ◌≡◌ {A = Result Image ReadError} (Err e) (Err read_error.NoMemory) → ◌≡◌ {A = Kept} (Err (read_reason e)) (Err reason.NoMemory)
    wanting none = let one : e ≡ read_error.NoMemory = cc in ap (λ (f : ReadError). Err (read_reason f)) one

-- a file whose image is taken in
pub taken : (files : List Bytes) (b : Bytes) (m n : Merging) (i : Image) → HasTaken files (Ok m) → IsImageSpelling i b → IsOnly b (Ok i) → TakesIn m i n → HasTaken (files ++ b ∷ []) (Ok n)
taken files b m n i h spelled exact takes = record {
  some = let (js, spell, same) = came files m h in inr (Ok (js ++ i ∷ []), read_last files b js (Ok i) spell spelled, ap (λ (k : Merging). Ok k) (takes js same));
  only = λ read at. elim (parted files b read at) [
    | inl (js, a, spell, is, same) ↦ elim (exact a is) [
      | inl one ↦ inl (ap (λ (k : Merging). Ok k) (takes js (same_after m js (h.only (Ok js) spell))) ∙ ap kept_of (sym (same ∙ ap (with_answer js) (sym one))))
      | inr bad ↦ absurd (cc)
    ]
    | inr (x, before, same) ↦ absurd (never_refused m x (h.only (Err x) before))
  ];
}

-- ---- the end

-- a merge answers so to the images that it took in
abbrev pub Ends : Merging → Result Image MergeError → Type 0
Ends m answer = (is : List Image) → m ≡ in_turn.after is → (answer ≡ in_turn.merge_of is) ⊎ (answer ≡ Err merge_error.NoMemory)

without_memory : (answer : Result Image MergeError) → answer ≡ Err merge_error.NoMemory → merge_in_words answer ≡ Err reason.NoMemory
without_memory answer none = ap merge_in_words none

some_end : (files : List Bytes) (m : Merging) (answer : Result Image MergeError) → HasTaken files (Ok m) → Ends m answer →
    (merge_in_words answer ≡ Err reason.NoMemory) ⊎ IsMerge files (merge_in_words answer)
some_end files m answer h ends =
    let (is, spell, same) = came files m h in
    elim (ends is same) [ inl one ↦ inr (Ok is, spell, ap merge_in_words one) | inr none ↦ inl (without_memory answer none) ]

only_end : (files : List Bytes) (m : Merging) (answer : Result Image MergeError) → HasTaken files (Ok m) → Ends m answer →
    (says : Result Image Reason) → IsMerge files says → (merge_in_words answer ≡ says) ⊎ (merge_in_words answer ≡ Err reason.NoMemory)
only_end files m answer h ends says (read, at, same) = of_read read at same
  where
    of_read : (read : Reading) → AreRead files read → says ≡ merge_of_read read → (merge_in_words answer ≡ says) ⊎ (merge_in_words answer ≡ Err reason.NoMemory)
    of_read (Ok is) at same =
        elim (ends is (same_after m is (h.only (Ok is) at))) [ inl one ↦ inl (ap merge_in_words one ∙ sym same) | inr none ↦ inr (without_memory answer none) ]
    of_read (Err x) at same = absurd (never_refused m x (h.only (Err x) at))

pub made_end : (files : List Bytes) (m : Merging) (i : Image) → HasTaken files (Ok m) → Ends m (Ok i) → IsMerge files (Ok i)
made_end files m i h ends = elim (some_end files m (Ok i) h ends) [ inl bad ↦ absurd (cc) | inr is ↦ is ]

pub tells_end : (files : List Bytes) (m : Merging) (answer : Result Image MergeError) → HasTaken files (Ok m) → Ends m answer → (says : Result Image Reason) → IsMerge files says →
    Tells (λ i. i) (merge_in_words answer) says
tells_end files m (Ok i) h ends says is = elim (only_end files m (Ok i) h ends says is) [ inl one ↦ sym one | inr bad ↦ absurd (cc) ]
tells_end files m (Err e) h ends says is = elim (only_end files m (Err e) h ends says is) [ inl one ↦ inr (sym one) | inr none ↦ inl (cc) ]

-- ---- files that are in memory

pub front_more : {V : Type 0} (f : V → Bytes) (vs : List V) (n : ℕ) (v : V) → n < length vs → v ≡ get_or vs n v → map f (take n vs) ++ f v ∷ [] ≡ map f (take (n + 1) vs)
front_more f vs n v lt is = sym (ap (map f) (take_more vs n v lt ∙ ap (λ y. take n vs ++ y ∷ []) (sym is)) ∙ map-append f (take n vs) (v ∷ []))
