-- Images that come one after another.
use Rattle.std.proofs.Common.{◌≡◌, ◌⊎◌, inl, inr, ℕ, ◌+◌, ◌-◌, ◌<◌, ◌≤◌, min, List, [], ◌∷◌, ◌++◌, length, Some, None, Result, Ok, Err, refl, sym, ap, ◌∙◌, subst, arith}
use Rattle.std.specs.Prelude.{◌==◌, IfOk, nat_le, nat_lt}
use Rattle.std.specs.Option.{option_or}
use Rattle.std.specs.Cmp.Lexicographic.{nat_list_cmp_total}
use Rattle.std.specs.FinMap as finite
use Rattle.std.specs.FinMap.{len, len-entries, same_map, slice_cmp-IsAntisymmetric, nat_cmp-IsAntisymmetric}
use Rattle.std.proofs.Math.Nat.{min-eq_left, le-min}
use Rattle.std.proofs.lemmas.Bool.{cases_lt, le-leb, lt-leb, lt-ltb}
use Rattle.std.proofs.lemmas.List.{length-append, length-map}
use Rattle.procedure.specs.Table.{Table, with_cells, merged}
use Rattle.image.specs.Images.{Entry, Image, IsLawfulImage, changes_of, entries_of, full_image}
use Rattle.image.specs.Merges.{Answers, Refusal, unless, is_full, is_partial, links_refusal, chain_refusal, refusal_of, last_of, merged_image, table_of, table_with_images}
use Rattle.image.specs.Mergers.{Chain, Merging, unless_refused, no_images, with_image, chain_of, after, merge_of}
use Rattle.image.specs.declared.images.Kind.TheVariants.{Full}
use Rattle.image.specs.declared.limits.TheConstants.{ENTRIES, IMAGES}
use Rattle.image.specs.declared.merges.MergeError.{MergeError}
use Rattle.image.specs.declared.merges.MergeError.TheVariants.{TooMany, NotFull, NotPartial, Gap, NoMemory}
use Rattle.image.proofs.Tables.{lawful_full, value_at-changed, value_at-with_cells}

-- the entries of an image change a table as the image does
pub changed_by : (t : Table) (i : Image) → with_cells t i.entries ≡ merged t (changes_of i)
changed_by t i =
    same_map nat_list_cmp_total (slice_cmp-IsAntisymmetric nat_cmp-IsAntisymmetric) _ _ (λ q. value_at-with_cells t i.entries q ∙ sym (value_at-changed t i q))

-- one more image
last-append : (full : Image) (ps : List Image) (i : Image) → last_of full (ps ++ i ∷ []) ≡ i
last-append full [] i = refl
last-append full (p ∷ ps) i = last-append p ps i

table-append : (t : Table) (ps : List Image) (i : Image) → table_with_images t (ps ++ i ∷ []) ≡ merged (table_with_images t ps) (changes_of i)
table-append t [] i = refl
table-append t (p ∷ ps) i = table-append (merged t (changes_of p)) ps i

chain-append : (full : Image) (ps : List Image) (i : Image) → chain_of full (ps ++ i ∷ []) ≡ with_image (chain_of full ps) i
chain-append full ps i =
    λ k. record { number = (last-append full ps i k).number; place = (last-append full ps i k).place; table = table-append (table_of full) ps i k }

or_nothing : (r : Refusal) → option_or r None ≡ r
or_nothing None = refl
or_nothing (Some e) = refl

or_or : (a b c : Refusal) → option_or (option_or a b) c ≡ option_or a (option_or b c)
or_or None b c = refl
or_or (Some e) b c = refl

links-append : (j n : ℕ) (one : Image) (ps : List Image) (i : Image) → n ≡ j + length ps →
    links_refusal j one.number (ps ++ i ∷ []) ≡ option_or (links_refusal j one.number ps) (links_refusal n (last_of one ps).number (i ∷ []))
links-append j n one [] i is = let here : j ≡ n = omega arith in ap (λ m. links_refusal m one.number (i ∷ [])) here
links-append j n one (p ∷ ps) i is =
    let kind = unless (is_partial p.kind) (NotPartial j) in
    let base = unless (p.base == one.number) (Gap j) in
    let links = links_refusal (j + 1) p.number ps in
    let next = links_refusal n (last_of p ps).number (i ∷ []) in
    ap (λ r. option_or kind (option_or base r)) (links-append (j + 1) n p ps i (omega arith))
    ∙ ap (option_or kind) (sym (or_or base links next))
    ∙ sym (or_or kind (option_or base links) next)

few : (n : ℕ) → n < IMAGES → unless (nat_lt n IMAGES) TooMany ≡ None
few n h = ap (λ b. unless b TooMany) (lt-ltb n IMAGES h)

-- with one more image a chain that isn't too long is refused as before, or for that image
refusal-append : (full : Image) (ps : List Image) (i : Image) → length ps + 1 < IMAGES →
    chain_refusal full (ps ++ i ∷ []) ≡ option_or (chain_refusal full ps) (links_refusal (length ps) (last_of full ps).number (i ∷ []))
refusal-append full ps i h =
    let kind = unless (is_full full.kind) NotFull in
    let links = links_refusal 0 full.number ps in
    let next = links_refusal (length ps) (last_of full ps).number (i ∷ []) in
    (λ k. option_or (few (length (ps ++ i ∷ [])) (omega (arith, length-append ps (i ∷ []))) k) (option_or kind (links-append 0 (length ps) full ps i (omega arith) k)))
    ∙ sym (or_or kind links next)
    ∙ sym (λ k. option_or (option_or (few (length ps) (omega arith) k) (option_or kind links)) next)

-- what a result says of a refusal
ok_of : {X : Type 0} (r : Refusal) (x y : X) → Ok y ≡ unless_refused r x → (r ≡ None) × (y ≡ x)
ok_of None x y e = (refl, cc)
ok_of (Some f) x y e = absurd (cc)

err_of : {X : Type 0} (r : Refusal) (x : X) (e : MergeError) → Err e ≡ unless_refused r x → r ≡ Some e
err_of None x e is = absurd (cc)
err_of (Some f) x e is = cc

-- how many have come
counted : (n a : ℕ) → n ≡ min a IMAGES → n < IMAGES → n ≡ a
counted n a is h = elim (cases_lt a IMAGES) [ inl small ↦ is ∙ min-eq_left (omega arith) | inr large ↦ absurd (omega (arith, le-min {k = IMAGES} {a = a} {b = IMAGES} large (omega arith))) ]

one_more : (ps : List Image) (i : Image) (n : ℕ) → n ≡ length ps + 1 → n < IMAGES → n + 1 ≡ min (length (ps ++ i ∷ []) + 1) IMAGES
one_more ps i n is h =
    let here : n + 1 ≡ length (ps ++ i ∷ []) + 1 = omega (arith, length-append ps (i ∷ [])) in
    here ∙ sym (min-eq_left (omega (arith, length-append ps (i ∷ []))))

pub goes_on : (images : List Image) (i : Image) (n : ℕ) (c : Chain) (next : Result Chain MergeError) → record { count = n; chain = Ok c } ≡ after images → n < IMAGES →
    (n ≡ 0 → next ≡ unless_refused (unless (is_full i.kind) NotFull) (with_image c i)) →
    (0 < n → next ≡ unless_refused (links_refusal (n - 1) c.number (i ∷ [])) (with_image c i)) →
    record { count = n + 1; chain = next } ≡ after (images ++ i ∷ [])
goes_on [] i n c next is low first later =
    let none : n ≡ 0 = ap (λ (m : Merging). m.count) is in
    let start : c ≡ no_images = (ok_of None no_images c (ap (λ (m : Merging). m.chain) is)).1 in
    let one : next ≡ unless_refused (chain_refusal i []) (chain_of i []) =
    first none
    ∙ ap (λ (d : Chain). unless_refused (unless (is_full i.kind) NotFull) (with_image d i)) start
    ∙ ap (λ r. unless_refused r (with_image no_images i)) (sym (or_nothing (unless (is_full i.kind) NotFull))) in
    λ k. record { count = none k + 1; chain = one k }
goes_on (full ∷ ps) i n c next is low first later =
    let count : n ≡ length ps + 1 = counted n (length ps + 1) (ap (λ (m : Merging). m.count) is) low in
    let sound = ok_of (chain_refusal full ps) (chain_of full ps) c (ap (λ (m : Merging). m.chain) is) in
    let place : n - 1 ≡ length ps = omega arith in
    let more : next ≡ unless_refused (chain_refusal full (ps ++ i ∷ [])) (chain_of full (ps ++ i ∷ [])) =
    later (omega arith)
    ∙ (λ k. unless_refused (links_refusal (place k) (sound.1 k).number (i ∷ [])) (with_image (sound.1 k) i))
    ∙ ap (λ r. unless_refused (option_or r (links_refusal (length ps) (last_of full ps).number (i ∷ []))) (with_image (chain_of full ps) i)) (sym sound.0)
    ∙ sym (λ k. unless_refused (refusal-append full ps i (omega arith) k) (chain-append full ps i k)) in
    λ k. record { count = one_more ps i n count low k; chain = more k }

pub stays : (images : List Image) (i : Image) (n : ℕ) (e : MergeError) → record { count = n; chain = Err e } ≡ after images → n < IMAGES →
    record { count = n + 1; chain = Err e } ≡ after (images ++ i ∷ [])
stays [] i n e is low = absurd (let bad : Err e ≡ Ok no_images = ap (λ (m : Merging). m.chain) is in cc)
stays (full ∷ ps) i n e is low =
    let count : n ≡ length ps + 1 = counted n (length ps + 1) (ap (λ (m : Merging). m.count) is) low in
    let refused = err_of (chain_refusal full ps) (chain_of full ps) e (ap (λ (m : Merging). m.chain) is) in
    let same : Err e ≡ unless_refused (chain_refusal full (ps ++ i ∷ [])) (chain_of full (ps ++ i ∷ [])) =
    ap (λ r. unless_refused (option_or r (links_refusal (length ps) (last_of full ps).number (i ∷ []))) (chain_of full (ps ++ i ∷ []))) (sym refused)
    ∙ ap (λ r. unless_refused r (chain_of full (ps ++ i ∷ []))) (sym (refusal-append full ps i (omega arith))) in
    λ k. record { count = one_more ps i n count low k; chain = same k }

pub extended_by : (number place : ℕ) (t : Table) (es : List Entry) (c : Chain) (i : Image) (r : Refusal) → None ≡ r → number ≡ i.number → place ≡ i.place → t ≡ with_cells c.table es → es ≡ i.entries →
    Ok (record { number = number; place = place; table = t }) ≡ unless_refused r (with_image c i)
extended_by number place t es c i r none is_number is_place is_table is_entries =
    (λ k. Ok (record { number = is_number k; place = is_place k; table = (is_table ∙ ap (with_cells c.table) is_entries ∙ changed_by c.table i) k }))
    ∙ ap (λ s. unless_refused s (with_image c i)) none

-- the end
module _ (t : Table) (es : List Entry) (is : es ≡ entries_of t) where
  counted_entries : length es ≡ len t
  counted_entries = ap length is ∙ length-map (finite.entries t) (λ e. (e.0, Some e.1)) ∙ sym (len-entries t)

  pub is_lawful : (number place : ℕ) → length es ≤ ENTRIES → IsLawfulImage (record { kind = Full; number = number; base = number; place = place; entries = es })
  is_lawful number place few =
      subst (λ l. IsLawfulImage (record { kind = Full; number = number; base = number; place = place; entries = l })) (sym is)
      (lawful_full number place t (subst (λ n. n ≤ ENTRIES) counted_entries few))

  pub not_refused : length es ≤ ENTRIES → unless (nat_le (len t) ENTRIES) TooMany ≡ None
  not_refused few = ap (λ n. unless (nat_le n ENTRIES) TooMany) (sym counted_entries) ∙ ap (λ b. unless b TooMany) (le-leb (length es) ENTRIES few)

  pub too_many : ENTRIES < length es → unless (nat_le (len t) ENTRIES) TooMany ≡ Some TooMany
  too_many many = ap (λ n. unless (nat_le n ENTRIES) TooMany) (sym counted_entries) ∙ ap (λ b. unless b TooMany) (lt-leb (length es) ENTRIES many)

answered : (refusal : Refusal) (whole : Image) (r : Result Image MergeError) → IfOk r (λ i. i ≡ whole) → Answers refusal r → (r ≡ unless_refused refusal whole) ⊎ (r ≡ Err NoMemory)
answered refusal whole (Ok i) value says = inl (ap Ok value ∙ ap (λ s. unless_refused s whole) (sym says))
answered refusal whole (Err e) value (inl says) = inl (ap (λ s. unless_refused s whole) (sym says))
answered refusal whole (Err e) value (inr none) = inr (ap Err none)

pub finished : (images : List Image) (n : ℕ) (c : Chain) (r : Result Image MergeError) → record { count = n; chain = Ok c } ≡ after images → 0 < n →
    IfOk r (λ i. i ≡ full_image c.number c.place c.table) → Answers (unless (nat_le (len c.table) ENTRIES) TooMany) r → (r ≡ merge_of images) ⊎ (r ≡ Err NoMemory)
finished [] n c r is some value says = absurd (let none : n ≡ 0 = ap (λ (m : Merging). m.count) is in omega arith)
finished (full ∷ ps) n c r is some value says =
    let sound = ok_of (chain_refusal full ps) (chain_of full ps) c (ap (λ (m : Merging). m.chain) is) in
    let refusal : unless (nat_le (len c.table) ENTRIES) TooMany ≡ refusal_of full ps =
    λ k. option_or (sym sound.0 k) (unless (nat_le (len (sound.1 k).table) ENTRIES) TooMany) in
    answered (refusal_of full ps) (merged_image full ps) r (subst (λ (d : Chain). IfOk r (λ i. i ≡ full_image d.number d.place d.table)) sound.1 value) (subst (λ s. Answers s r) refusal says)
