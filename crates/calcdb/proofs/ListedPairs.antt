-- Pairs of which no key comes twice: their entries in order are those of the table that they make.
use Rattle.std.proofs.Common.{◌≡◌, ◌≤◌, ℕ, ◌+◌, Bool, true, false, cond, nat_lt, List, [], ◌∷◌, ◌++◌, length, Option, Some, None, Result, Ok, Err, is_some, ◌↔◌, refl, sym, ap, ◌∙◌, subst, option_map, arith}
use Rattle.std.specs.Prelude.{if◌then◌else◌, IfNone, IfSome, IsSome, is_none}
use Rattle.std.specs.Ordering.{eq_by_cmp}
use Rattle.std.specs.Cmp.Lexicographic.{nat_list_cmp_total}
use Rattle.std.proofs.lemmas.List.{append-nil, append_assoc, length-append}
use Rattle.std.proofs.lemmas.Bool.{le-leb}
use Rattle.std.specs.FinMap as finite
use Rattle.std.specs.FinMap.{contains_key, entries_sorted, find, get-entries, get-insert, insert, len, len-empty, len-insert, slice_cmp-IsAntisymmetric, nat_cmp-IsAntisymmetric}
use Rattle.std.specs.FinMap.Entries.{same_entries}
use Rattle.procedure.specs.Bytes.{Bytes, Cell}
use Rattle.procedure.specs.Table.{Changes, Table, change_at, value_at, with_pairs}
use Rattle.image.specs.Headers.{EachKeyOnce, map_of, of_captured}
use Rattle.image.specs.Images.{Entry, Image, IsLawfulImage, entries_of}
use Rattle.image.specs.declared.images.Kind.TheVariants.{Full}
use Rattle.image.specs.declared.limits.TheConstants.{ENTRIES}
use Rattle.image.proofs.Rising.{by_bytes}
use Rattle.image.proofs.Sorting.{map_of-push}
use Rattle.image.proofs.Tables.{lawful_full, shown, sorted_shown}
use Rattle.calcdb.proofs.Loading.{few_pairs}
use Rattle.calcdb.specs.LineByLine.{after_lines}
use Rattle.calcdb.specs.Lines.{lines}
use Rattle.calcdb.specs.Pairs.{image_of_pairs, loaded, pair_in, table_after_line, table_of_pairs, taking, with_pair}
use Rattle.calcdb.specs.Reads.{◌>>=◌}
use Rattle.calcdb.specs.inside.ListedPairs as listed
use Rattle.calcdb.specs.inside.ListedPairs.{IsDistinct}
use Rattle.calcdb.specs.declared.scripts.ScriptFault.{ScriptFault}
use Rattle.calcdb.specs.declared.scripts.ScriptFault.TheVariants.{Line, Size}
use Rattle.calcdb.specs.declared.scripts.TheConstants.{SCRIPT_BYTES}

-- ---- the first of some entries

append_pairs : (m : Changes) (es rest : List Entry) → with_pairs m (es ++ rest) ≡ with_pairs (with_pairs m es) rest
append_pairs m [] rest = refl
append_pairs m (e ∷ es) rest = append_pairs (insert m e.0 e.1) es rest

at_most_one : (b : Bool) (old new : ℕ) → new ≡ cond b old (old + 1) → new ≤ old + 1
at_most_one true old new e = omega arith
at_most_one false old new e = omega arith

at_most : (m : Changes) (es : List Entry) → len (with_pairs m es) ≤ len m + length es
at_most m [] = omega arith
at_most m (e ∷ es) =
    let rest = at_most (insert m e.0 e.1) es in
    let one = at_most_one (contains_key m e.0) (len m) (len (insert m e.0 e.1)) (len-insert nat_list_cmp_total m e.0 e.1) in
    omega arith

no_more : (es : List Entry) → len (map_of es) ≤ length es
no_more es = let all = at_most finite.empty es in let none = len-empty by_bytes Cell in omega arith

-- where no key of all comes twice, none of the first does
once_first : (es rest : List Entry) → EachKeyOnce (es ++ rest) → EachKeyOnce es
once_first es rest once =
    let most = at_most (map_of es) rest in
    let all : len (with_pairs (map_of es) rest) ≡ length (es ++ rest) = ap (λ (m : Changes). len m) (sym (append_pairs finite.empty es rest)) ∙ once in
    let both = length-append es rest in
    let few = no_more es in
    omega arith

-- ---- entries and a table that hold the same

-- what a table holds, as a change
abbrev held : Table → Bytes → Option Cell
held t q = option_map (λ v. Some v) (value_at t q)

record Alike (es : List Entry) (t : Table) : Type 0 where
  same : (q : Bytes) → change_at (map_of es) q ≡ held t q
  once : EachKeyOnce es
  count : len t ≡ length es

none_alike : Alike [] finite.empty
none_alike = record {
  same = λ q. finite.get-empty by_bytes q ∙ ap (option_map (λ (v : Bytes). Some v)) (sym (finite.get-empty by_bytes q));
  once = len-empty by_bytes Cell;
  count = len-empty by_bytes Bytes;
}

was_new : (b : Bool) (old new : ℕ) → new ≡ cond b old (old + 1) → new ≡ old + 1 → b ≡ false
was_new true old new e f = absurd (omega (arith, e, f))
was_new false old new e f = refl

not_held : (o : Cell) → is_some (option_map {U = Cell} (λ v. Some v) o) ≡ false → is_none o ≡ true
not_held None e = refl
not_held (Some v) e = absurd cc

put_held : (b : Bool) (v : Bytes) (o : Cell) → cond b (Some (Some v)) (option_map (λ v. Some v) o) ≡ option_map (λ v. Some v) (cond b (Some v) o)
put_held true v o = refl
put_held false v o = refl

module _ (es : List Entry) (t : Table) (p : Bytes × Bytes) (alike : Alike es t) (once : EachKeyOnce (es ++ (p.0, Some p.1) ∷ [])) where
  -- the key of a pair that comes then is new to both
  new_here : contains_key (map_of es) p.0 ≡ false
  new_here =
      let grown : len (insert (map_of es) p.0 (Some p.1)) ≡ length (es ++ (p.0, Some p.1) ∷ []) = ap (λ (m : Changes). len m) (sym (map_of-push es p.0 (Some p.1))) ∙ once in
      let one = length-append es ((p.0, Some p.1) ∷ []) in
      let before = alike.once in
      was_new (contains_key (map_of es) p.0) (len (map_of es)) (len (insert (map_of es) p.0 (Some p.1))) (len-insert nat_list_cmp_total (map_of es) p.0 (Some p.1)) (omega arith)

  new_there : is_none (value_at t p.0) ≡ true
  new_there = not_held (value_at t p.0) (ap (λ (o : Option Cell). is_some o) (sym (alike.same p.0)) ∙ new_here)

  alike_push : Alike (es ++ (p.0, Some p.1) ∷ []) (insert t p.0 p.1)
  alike_push =
      let one = length-append es ((p.0, Some p.1) ∷ []) in
      let before = alike.count in
      let absent : (o : Cell) → is_none o ≡ true → is_some o ≡ false = λ o e. none_absent o e in
      let grown : len (insert t p.0 p.1) ≡ len t + 1 = len-insert nat_list_cmp_total t p.0 p.1 ∙ ap (λ b. cond b (len t) (len t + 1)) (absent (value_at t p.0) new_there) in
      record {
        same = λ q.
            ap (λ (m : Changes). change_at m q) (map_of-push es p.0 (Some p.1))
            ∙ get-insert nat_list_cmp_total (map_of es) p.0 (Some p.1) q
            ∙ ap (cond (eq_by_cmp by_bytes q p.0) (Some (Some p.1))) (alike.same q)
            ∙ put_held (eq_by_cmp by_bytes q p.0) p.1 (value_at t q)
            ∙ ap (option_map (λ (v : Bytes). Some v)) (sym (get-insert nat_list_cmp_total t p.0 p.1 q));
        once = once;
        count = omega arith;
      }
    where
      none_absent : (o : Cell) → is_none o ≡ true → is_some o ≡ false
      none_absent None e = refl
      none_absent (Some v) e = absurd cc

  -- so the table takes it
  taken_there : nat_lt (length es) ENTRIES ≡ true → with_pair t p ≡ Some (insert t p.0 p.1)
  taken_there room =
      let few : nat_lt (len t) ENTRIES ≡ true = ap (λ n. nat_lt n ENTRIES) alike.count ∙ room in
      let free = new_there in
      rw (few, free) refl

-- ---- line by line

abbrev pub okay : List Entry → Result (List Entry) ScriptFault
okay x = Ok x

same_some : (x y : List Entry) → Some x ≡ Some y → x ≡ y
same_some x y h = ap (λ (o : Option (List Entry)). elim o [ None ↦ x | Some z ↦ z ]) h

same_ok : (x y : List Entry) → okay x ≡ Ok y → x ≡ y
same_ok x y h = ap (λ (r : Result (List Entry) ScriptFault). elim r [ Ok z ↦ z | Err e ↦ x ]) h

taken : (a : Bool) (x y : List Entry) → (if a then Some x else None) ≡ Some y → (a ≡ true) × (x ≡ y)
taken true x y h = (refl, same_some x y h)
taken false x y h = absurd (cc)

-- some entries more
abbrev Extends : List Entry → List Entry → Type 0
Extends es new = (rest : List Entry) × (es ++ rest ≡ new)

-- a table after a step, which holds what these entries do
abbrev Told : Option Table → List Entry → Type 0
Told o es = (t : Table) × (o ≡ Some t) × Alike es t

extends_in : (o : Option (Option (Bytes × Bytes))) (es new : List Entry) → (o >>= taking listed.with_pair es) ≡ Some new → Extends es new
extends_in None es new h = absurd (cc)
extends_in (Some None) es new h = ([], append-nil es ∙ same_some es new h)
extends_in (Some (Some p)) es new h = ((p.0, Some p.1) ∷ [], (taken (nat_lt (length es) ENTRIES) (es ++ (p.0, Some p.1) ∷ []) new h).1)

told_in : (o : Option (Option (Bytes × Bytes))) (es new : List Entry) (t : Table) → Alike es t → EachKeyOnce new → (o >>= taking listed.with_pair es) ≡ Some new → Told (o >>= taking with_pair t) new
told_in None es new t alike once h = absurd (cc)
told_in (Some None) es new t alike once h = (t, refl, subst (λ (l : List Entry). Alike l t) (same_some es new h) alike)
told_in (Some (Some p)) es new t alike once h =
    let (room, is) = taken (nat_lt (length es) ENTRIES) (es ++ (p.0, Some p.1) ∷ []) new h in
    let here = subst (λ (l : List Entry). EachKeyOnce l) (sym is) once in
    (insert t p.0 p.1, taken_there es t p alike here room, subst (λ (l : List Entry). Alike l (insert t p.0 p.1)) is (alike_push es t p alike here))

-- what is read after a line, which is faulty where nothing is left of it
abbrev entries_then : Option (List Entry) → ℕ → (List Entry → Result (List Entry) ScriptFault) → Result (List Entry) ScriptFault
entries_then o n go = elim o [ None ↦ Err (Line n) | Some es ↦ go es ]

abbrev table_then : Option Table → ℕ → (Table → Result Table ScriptFault) → Result Table ScriptFault
table_then o n went = elim o [ None ↦ Err (Line n) | Some t ↦ went t ]

extends_then : (o : Option (List Entry)) (n : ℕ) (es new : List Entry) (go : List Entry → Result (List Entry) ScriptFault) → ((l : List Entry) → o ≡ Some l → Extends es l) →
    ((l : List Entry) → go l ≡ Ok new → Extends l new) → entries_then o n go ≡ Ok new → Extends es new
extends_then None n es new go step rest h = absurd (cc)
extends_then (Some l) n es new go step rest h =
    let (a, first) = step l refl in
    let (b, last) = rest l h in
    (a ++ b, sym (append_assoc es a b) ∙ ap (λ (x : List Entry). x ++ b) first ∙ last)

extends_lines : (ls : List Bytes) (n : ℕ) (es new : List Entry) → after_lines listed.after_line es n ls ≡ Ok new → Extends es new
unfolding after_lines
extends_lines [] n es new h = ([], append-nil es ∙ same_ok es new h)
extends_lines (l ∷ ls) n es new h =
    extends_then (listed.after_line es l) n es new (λ u. after_lines listed.after_line u (n + 1) ls) (λ u e. extends_in (pair_in l) es u e) (λ u e. extends_lines ls (n + 1) u new e) h

once_in : (es new : List Entry) → Extends es new → EachKeyOnce new → EachKeyOnce es
once_in es new (rest, is) once = once_first es rest (subst (λ (l : List Entry). EachKeyOnce l) (sym is) once)

-- what follows a line, where the table takes it as the entries do
next_line :
    (o : Option (List Entry)) (n : ℕ) (new : List Entry) (after : Option Table) (go : List Entry → Result (List Entry) ScriptFault) (went : Table → Result Table ScriptFault) →
    ((es : List Entry) → o ≡ Some es → go es ≡ Ok new → Told after es) →
    ((es : List Entry) (t : Table) → Alike es t → go es ≡ Ok new → (u : Table) × (went t ≡ Ok u) × Alike new u) → entries_then o n go ≡ Ok new →
    (u : Table) × (table_then after n went ≡ Ok u) × Alike new u
next_line None n new after go went step rest h = absurd (cc)
next_line (Some es) n new after go went step rest h =
    let (t, is, alike) = step es refl h in
    let (u, ends, told) = rest es t alike h in
    (u, ap (λ (o : Option Table). table_then o n went) is ∙ ends, told)

told_lines : (ls : List Bytes) (n : ℕ) (es new : List Entry) (t : Table) → Alike es t → EachKeyOnce new → after_lines listed.after_line es n ls ≡ Ok new →
    (u : Table) × (after_lines table_after_line t n ls ≡ Ok u) × Alike new u
unfolding after_lines
told_lines [] n es new t alike once h = (t, refl, subst (λ (l : List Entry). Alike l t) (same_ok es new h) alike)
told_lines (l ∷ ls) n es new t alike once h =
    next_line (listed.after_line es l) n new (table_after_line t l) (λ u. after_lines listed.after_line u (n + 1) ls) (λ v. after_lines table_after_line v (n + 1) ls)
    (λ u e goes. told_in (pair_in l) es u t alike (once_in u new (extends_lines ls (n + 1) u new goes) once) e) (λ u v same goes. told_lines ls (n + 1) u new v same once goes) h

-- ---- the image

find_shown : (q : Bytes) (es : List (Bytes × Bytes)) → find by_bytes q (shown es) ≡ option_map (λ v. Some v) (find by_bytes q es)
find_shown q [] = refl
find_shown q (e ∷ es) = ap (cond (eq_by_cmp by_bytes q e.0) (Some (Some e.1))) (find_shown q es) ∙ put_held (eq_by_cmp by_bytes q e.0) e.1 (find by_bytes q es)

alike_entries : (es : List Entry) (t : Table) → Alike es t → finite.entries (map_of es) ≡ entries_of t
alike_entries es t alike =
    same_entries by_bytes nat_list_cmp_total (slice_cmp-IsAntisymmetric nat_cmp-IsAntisymmetric) (finite.entries (map_of es)) (entries_of t) (entries_sorted (map_of es))
    (sorted_shown (finite.entries t) (entries_sorted t))
    (λ q.
    sym (get-entries (map_of es) q) ∙ alike.same q
    ∙ ap (option_map (λ (v : Bytes). Some v)) (get-entries t q)
    ∙ sym (find_shown q (finite.entries t)))

module _ (text : Bytes) (es : List Entry) (h : after_lines listed.after_line [] 1 (lines text) ≡ Ok es) where
  abbrev found : Image
  found = of_captured Full 0 0 0 es

  -- they are lawful
  distinct_lawful : EachKeyOnce es → IsLawfulImage found
  distinct_lawful once =
      let (t, is, alike) = told_lines (lines text) 1 [] es finite.empty none_alike once h in
      subst (λ (x : List Entry). IsLawfulImage (record { kind = Full; number = 0; base = 0; place = 0; entries = x })) (sym (alike_entries es t alike)) (lawful_full 0 0 t (few_pairs (lines text) t is))

  -- the entries of a text of which no key comes twice are, in order, those of its image
  distinct_image : EachKeyOnce es → length text ≤ SCRIPT_BYTES → image_of_pairs text ≡ Ok found
  unfolding table_of_pairs
  distinct_image once fits =
      let (t, is, alike) = told_lines (lines text) 1 [] es finite.empty none_alike once h in
      ap (λ (b : Bool). loaded (if b then after_lines table_after_line finite.empty 1 (lines text) else Err Size)) (le-leb (length text) SCRIPT_BYTES fits)
      ∙ ap (λ (r : Result Table ScriptFault). loaded r) is
      ∙ ap (λ (x : List Entry). Ok (record { kind = Full; number = 0; base = 0; place = 0; entries = x })) (sym (alike_entries es t alike))

  -- what is made of them
  module _ (r : Option Image) (lawful : IsSome r ↔ (EachKeyOnce es × IsLawfulImage found)) where
    pub answers_image : length text ≤ SCRIPT_BYTES → IfSome r (λ i. i ≡ found) → IfSome r (λ i. image_of_pairs text ≡ Ok i)
    answers_image fits value = made r lawful value
      where
        made : (r : Option Image) → IsSome r ↔ (EachKeyOnce es × IsLawfulImage found) → IfSome r (λ i. i ≡ found) → IfSome r (λ i. image_of_pairs text ≡ Ok i)
        made None l v = tt
        made (Some i) l v = distinct_image (l.0 refl).0 fits ∙ ap (λ (x : Image). Ok x) (sym v)

    pub answers_none : IfNone r (IsDistinct text → ⊥)
    answers_none = refused r lawful
      where
        no : false ≡ true → ⊥
        no e = cc

        refused : (r : Option Image) → IsSome r ↔ (EachKeyOnce es × IsLawfulImage found) → IfNone r (IsDistinct text → ⊥)
        refused (Some i) l = tt
        refused None l = λ d.
            let same : d.1 ≡ es = same_ok d.1 es (sym d.2 ∙ h) in
            let once = subst (λ (x : List Entry). EachKeyOnce x) same d.3 in
            no (l.1 (once, distinct_lawful once))
