-- The entries that a new opening has of the records of a store.
use Rattle.std.proofs.Common.{◌≡◌, ℕ, ◌+◌, ◌<◌, ◌≤◌, Bool, true, false, cond, List, [], ◌∷◌, ◌++◌, length, take}
use Rattle.std.proofs.Common.{Option, Some, None, is_some, Vec, option_map, inl, inr, refl, sym, ap, ◌∙◌, subst, arith, below_more}
use Rattle.std.proofs.lemmas.Bool.{cases_lt}
use Rattle.std.proofs.lemmas.List.{get_or_past, take_all}
use Rattle.std.proofs.lemmas.List.Sums.{count_by_more_no, count_by_more_yes}
use Rattle.std.specs.Cmp.Lexicographic.{nat_list_cmp_total}
use Rattle.std.specs.FinMap as fin
use Rattle.procedure.specs.Bytes.{Bytes, Cell, same}
use Rattle.procedure.specs.Table.{Changes, change_at}
use Rattle.procedure.proofs.Base.{keys, same_refl}
use Rattle.image.proofs.Rising.{by_bytes}
use Rattle.image.proofs.Sorting.{map_of-push, once-push}
use Rattle.image.specs.Headers.{EachKeyOnce, map_of}
use Rattle.image.specs.Images.{Entry}
use Rattle.record_store.proofs.Versions.{no_key, version_some}
use Rattle.record_store.specs.Stores.{HasKeysOnce, Slots, StoreRecord, is_live, key_at, live_count, record_at}
use Rattle.record_store.specs.Versions as stored
use Rattle.steps.specs.Versions.{key_versions, live_version, versions_in}
use Rattle.steps.specs.inside.LiveEntries.{live_entry}
use Rattle.steps.proofs.store.KeyCount.{same_is}

-- a present value, as an entry has it
abbrev pub shown : Cell → Option Cell
shown x = option_map (λ b. Some b) x

-- the record's key has its value, where one is present
abbrev Has : List Entry → Option StoreRecord → Type 0
Has es o = (r : StoreRecord) → o ≡ Some r → change_at (map_of es) r.key ≡ shown r.live

-- the entries of the records before a slot: each key once, each with its value, and no other
pub record Gathered (slots : Slots) (i : ℕ) (es : List Entry) : Type 0 where
  pub once : EachKeyOnce es
  pub here : (j : ℕ) → j < i → Has es (record_at slots j)
  pub others : (q : Bytes) → ((j : ℕ) → j < i → key_at slots j ≡ Some q → ⊥) → change_at (map_of es) q ≡ None

pub none_gathered : (slots : Slots) (es : List Entry) → es ≡ [] → Gathered slots 0 es
none_gathered slots es e = subst (Gathered slots 0) (sym e) record {
  once = fin.len-empty by_bytes Cell;
  here = λ j lt. absurd (omega (arith, lt));
  others = λ q none. fin.get-empty by_bytes q;
}

pub same_gathered : {A : Type 0} (slots : Slots) (i : ℕ) (v u : Vec (Bytes × Cell) A) (es : List Entry) → v ≡ u → u.items ≡ es → Gathered slots i es → Gathered slots i v.items
same_gathered {A} slots i v u es e f g = subst (Gathered slots i) (sym (ap (λ (w : Vec (Bytes × Cell) A). w.items) e ∙ f)) g

push : (es : List Entry) (k : Bytes) (x : Cell) (q : Bytes) → change_at (map_of (es ++ (k, x) ∷ [])) q ≡ cond (same q k) (Some x) (change_at (map_of es) q)
push es k x q =
    ap (λ (m : Changes). change_at m q) (map_of-push es k x) ∙ fin.get-insert nat_list_cmp_total (map_of es) k x q
    ∙ ap (λ b. cond b (Some x) (change_at (map_of es) q)) (sym (same_is q k))

pushed_here : (es : List Entry) (k : Bytes) (x : Cell) → change_at (map_of (es ++ (k, x) ∷ [])) k ≡ Some x
pushed_here es k x = push es k x k ∙ ap (λ b. cond b (Some x) (change_at (map_of es) k)) (same_refl k)

pushed_other : (es : List Entry) (k : Bytes) (x : Cell) (q : Bytes) → (q ≡ k → ⊥) → change_at (map_of (es ++ (k, x) ∷ [])) q ≡ change_at (map_of es) q
pushed_other es k x q differs =
    push es k x q
    ∙ elim (keys q k) [
      | inl e ↦ absurd (differs e)
      | inr f ↦ ap (λ b. cond b (Some x) (change_at (map_of es) q)) f
    ]

same_record : {r s : StoreRecord} → Some r ≡ Some s → r ≡ s
same_record e = cc

same_entry : {e f : Entry} → Some e ≡ Some f → e ≡ f
same_entry e = cc

module _ (slots : Slots) (all_once : HasKeysOnce slots) (i : ℕ) (es : List Entry) (g : Gathered slots i es) where
  key_here : (r : StoreRecord) → record_at slots i ≡ Some r → key_at slots i ≡ Some r.key
  key_here r is = ap (option_map (λ (r : StoreRecord). r.key)) is

  -- the key of the record in the slot stands in no slot before it
  fresh : (r : StoreRecord) → record_at slots i ≡ Some r → (j : ℕ) → j < i → key_at slots j ≡ Some r.key → ⊥
  fresh r is j lt at = let e : j ≡ i = all_once.once j i r.key at (key_here r is) in omega (arith, lt, e)

  -- a slot that gives no entry
  skipped : ((r : StoreRecord) → record_at slots i ≡ Some r → r.live ≡ None) → Gathered slots (i + 1) es
  skipped dead = record {
    once = g.once;
    here = below_more (λ j. Has es (record_at slots j)) i g.here (λ r is. g.others r.key (fresh r is) ∙ sym (ap shown (dead r is)));
    others = λ q none. g.others q (λ j lt. none j (omega (arith, lt)));
  }

  -- one that gives one
  added : (r : StoreRecord) (b : Bytes) → record_at slots i ≡ Some r → r.live ≡ Some b → Gathered slots (i + 1) (es ++ (r.key, Some b) ∷ [])
  added r b is live = record {
    once = once-push es r.key (Some b) g.once (g.others r.key (fresh r is));
    here =
        below_more (λ j. Has (es ++ (r.key, Some b) ∷ []) (record_at slots j)) i
        (λ j lt s at.
        pushed_other es r.key (Some b) s.key (λ e. fresh r is j lt (ap (option_map (λ (r : StoreRecord). r.key)) at ∙ ap (λ (k : Bytes). Some k) e)) ∙ g.here j lt s at)
        (λ s at.
        let one : r ≡ s = same_record (sym is ∙ at) in
        subst (λ (s : StoreRecord). change_at (map_of (es ++ (r.key, Some b) ∷ [])) s.key ≡ shown s.live) one (pushed_here es r.key (Some b) ∙ sym (ap shown live)));
    others = λ q none.
        pushed_other es r.key (Some b) q (λ e. none i (omega arith) (key_here r is ∙ ap (λ (k : Bytes). Some k) (sym e))) ∙ g.others q (λ j lt. none j (omega (arith, lt)));
  }

  -- a slot, by the entry that it gives
  pub one_skipped : (o : Option Entry) → o ≡ None → o ≡ live_entry (record_at slots i) → Gathered slots (i + 1) es
  one_skipped o none e = skipped (λ r is. dead r.live r refl (sym none ∙ e ∙ ap live_entry is))
    where
      dead : (x : Cell) (r : StoreRecord) → r.live ≡ x → None ≡ live_entry (Some r) → r.live ≡ None
      dead None r f e = f
      dead (Some b) r f e = absurd (let one : None ≡ Some (r.key, Some b) = e ∙ ap (option_map (λ (b : Bytes). (r.key, Some b))) f in cc)

  pub one_added : (o : Option Entry) (d : Entry) → o ≡ Some d → o ≡ live_entry (record_at slots i) → Gathered slots (i + 1) (es ++ d ∷ [])
  one_added o d some e = by (record_at slots i) refl (sym some ∙ e)
    where
      live : (x : Cell) (r : StoreRecord) → record_at slots i ≡ Some r → r.live ≡ x → Some d ≡ live_entry (Some r) → Gathered slots (i + 1) (es ++ d ∷ [])
      live None r is f e = absurd (let one : Some d ≡ None = e ∙ ap (option_map (λ (b : Bytes). (r.key, Some b))) f in cc)
      live (Some b) r is f e =
          subst (λ (d : Entry). Gathered slots (i + 1) (es ++ d ∷ [])) (sym (same_entry (e ∙ ap (option_map (λ (b : Bytes). (r.key, Some b))) f))) (added r b is f)

      by : (o : Option StoreRecord) → record_at slots i ≡ o → Some d ≡ live_entry o → Gathered slots (i + 1) (es ++ d ∷ [])
      by None is e = absurd (cc)
      by (Some r) is e = live r.live r is refl e

-- those of all slots hold what is live
pub all_gathered : (slots : Slots) (i : ℕ) (es : List Entry) → length slots ≤ i → Gathered slots i es → (q : Bytes) → change_at (map_of es) q ≡ shown (live_version (versions_in slots q))
unfolding versions_in
all_gathered slots i es most g q = by (stored.version_of slots q) refl
  where
    within : (j : ℕ) (r : StoreRecord) → record_at slots j ≡ Some r → j < i
    within j r is =
        elim (cases_lt j (length slots)) [
          | inl lt ↦ omega (arith, lt, most)
          | inr past ↦ absurd (let none : None ≡ Some r = sym (get_or_past slots j None past) ∙ is in cc)
        ]

    by : (o : Option stored.Version) → stored.version_of slots q ≡ o → change_at (map_of es) q ≡ shown (live_version (option_map key_versions (stored.version_of slots q)))
    by None is = g.others q (λ j lt at. no_key slots q is j at) ∙ sym (ap (λ (o : Option stored.Version). shown (live_version (option_map key_versions o))) is)
    by (Some v) is =
        let held = version_some slots q v is in
        ap (λ (k : Bytes). change_at (map_of es) k) (sym held.key_is)
        ∙ g.here held.slot (within held.slot held.kept held.there) held.kept held.there
        ∙ ap (λ (w : stored.Version). shown w.live) held.version_is
        ∙ sym (ap (λ (o : Option stored.Version). shown (live_version (option_map key_versions o))) is)

-- HOW MANY THERE ARE

shown_live : (k : Bytes) (x : Cell) → is_some x ≡ is_some {T = Entry} (option_map (λ b. (k, Some b)) x)
shown_live k None = refl
shown_live k (Some b) = refl

same_live : (o : Option StoreRecord) (d : Option Entry) → d ≡ live_entry o → is_live o ≡ is_some d
same_live None d e = sym (ap is_some e)
same_live (Some r) d e = shown_live r.key r.live ∙ sym (ap is_some e)

-- one slot more
pub more_counted :
    (slots : Slots) (i n : ℕ) (d : Option Entry) → i < length slots → d ≡ live_entry (record_at slots i) → n ≡ live_count (take i slots) →
    n + cond (is_some d) 1 0 ≡ live_count (take (i + 1) slots)
more_counted slots i n d lt e is = by (is_some d) (same_live (record_at slots i) d e)
  where
    by : (b : Bool) → is_live (record_at slots i) ≡ b → n + cond b 1 0 ≡ live_count (take (i + 1) slots)
    by true live = omega (arith, is, count_by_more_yes is_live slots i None lt live)
    by false dead = omega (arith, is, count_by_more_no is_live slots i None lt dead)

pub all_counted : (slots : Slots) (i n : ℕ) → length slots ≤ i → n ≡ live_count (take i slots) → n ≡ live_count slots
all_counted slots i n most is = is ∙ ap live_count (take_all i slots most)
