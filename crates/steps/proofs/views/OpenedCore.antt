-- A core as it is opened.
use Rattle.std.proofs.Common.{◌≡◌, ℕ, zero, suc, Bool, true, false, cond, ◌&&◌, List, [], ◌∷◌, T, IsSome, is_some, true≢false, Option, Some, None, map, option_map, length, replicate, slice_index_or, refl, sym, ap, ◌∙◌, subst, inl, inr, ◌≤◌}
use Rattle.std.specs.FinMap.{find, is_sorted, get-from_entries}
use Rattle.std.specs.FinMap.Entries.{below_all}
use Rattle.std.specs.Cmp.Lexicographic.{nat_list_cmp_total}
use Rattle.std.specs.List.{AllByRecursion}
use Rattle.std.specs.Ordering.{eq_by_cmp}
use Rattle.procedure.specs.Bytes.{Bytes, Cell, same}
use Rattle.procedure.specs.Table.{KeyMap, value_at, change_at, changed_or, no_table}
use Rattle.procedure.proofs.Base.{keys, same_refl, value_at-merged, value_at-no_table}
use Rattle.phase.specs.declared.phases.Phase.TheVariants.{Rest}
use Rattle.std.specs.Prelude.{◌==◌}
use Rattle.image.specs.declared.images.Kind.{Kind}
use Rattle.image.specs.declared.images.Kind.TheVariants.{Full, Partial}
use Rattle.image.specs.Images.{Entry, Image, AllPresent, IsLawfulImage, SuitsKind, changes_of}
use Rattle.image.specs.Merges.{is_full, table_of}
use Rattle.image.specs.Openings.{is_opening}
use Rattle.image.proofs.Joins.{find_below}
use Rattle.image.proofs.Rising.{by_bytes, parts}
use Rattle.commitlog.specs.Histories.{last_number}
use Rattle.locktable.specs.Locks.{mode_of}
use Rattle.locktable.specs.declared.modes.Mode.{Mode}
use Rattle.procedure.specs.Catalogs.{catalog_fault}
use Rattle.procedure.specs.declared.limits.TheConstants.{SESSIONS}
use Rattle.record_store.specs.ChangedSets.{has, empty_set}
use Rattle.std.specs.FinMap as fin
use Rattle.std.proofs.lemmas.List.{length-replicate}
use Rattle.std.proofs.lemmas.List.Elements.{recursion_from_All}
use Rattle.steps.specs.inside.SetAside.{AsideIn}
use Rattle.steps.specs.inside.CoreFields.{IsCore, SameCall, call_at, checkpoint_of, start_of, underway, view_of, either}
use Rattle.record_store.proofs.Versions.{version_of-new}
use Rattle.record_store.specs.Stores.{records}
use Rattle.record_store.specs.declared.limits.TheConstants.{STORE_RECORDS}
use Rattle.steps.specs.CoreViews.{CheckpointView, IsSmall}
use Rattle.steps.proofs.machine.CallInvariant.{initial_good}
use Rattle.steps.proofs.store.KeyCount.{same_is, small_none, small_now}
use Rattle.steps.specs.machine.NewestFirst.{history_table}
use Rattle.steps.specs.Versions.{key_versions, versions_in, KeyVersions, VersionsByKey, opened_versions, wrote}
use Rattle.steps.specs.Openings.{IsOpened, no_checkpoint}
use Rattle.steps.specs.inside.RecordEdits.{opened_with, with_opened}
use Rattle.steps.specs.machine.Machine.{initial}
use Rattle.steps.specs.machine.Machine as machine
use Rattle.steps.specs.declared.calls.OpenCall.{OpenCall}
use Rattle.steps.specs.declared.cores.Core.TheInside.{Inside}
use Rattle.steps.specs.declared.reclaiming.Aside.TheVariants.{Unknown}

-- the entries make the same of the same versions
pub same_opened : (vs us : VersionsByKey) (es : List Entry) → ((q : Bytes) → vs q ≡ us q) → (q : Bytes) → opened_with vs es q ≡ opened_with us es q
same_opened vs us [] e q = e q
same_opened vs us (x ∷ es) e q =
    same_opened (with_opened vs x) (with_opened us x) es
    (λ k. ap (λ o. cond (same k x.0) (Some (wrote Rest Rest o x.1)) (vs k)) (e x.0) ∙ ap (λ o. cond (same k x.0) (Some (wrote Rest Rest (us x.0) x.1)) o) (e k)) q

-- a key's version as it was, or that of the entry that was found for it
abbrev found_or : Option Cell → Option KeyVersions → Option KeyVersions
found_or None v = v
found_or (Some x) v = Some (record { live = x; stable = None; available = false })

-- none of the entries' keys has a version
abbrev pub Lacks : VersionsByKey → List Entry → Type 0
Lacks vs es = (q : Bytes) → IsSome (find by_bytes q es) → vs q ≡ None

pub lacks_same : (vs us : VersionsByKey) (es : List Entry) → ((q : Bytes) → us q ≡ vs q) → Lacks vs es → Lacks us es
lacks_same vs us es same lacks q some = same q ∙ lacks q some

pub lacks_first : (vs : VersionsByKey) (x : Entry) (es : List Entry) → Lacks vs (x ∷ es) → vs x.0 ≡ None
lacks_first vs x es lacks = lacks x.0 (subst (λ b. IsSome (cond b (Some x.1) (find by_bytes x.0 es))) (sym (sym (same_is x.0 x.0) ∙ same_refl x.0)) refl)

pub rises_after : (x : Entry) (es : List Entry) → T (is_sorted by_bytes (x ∷ es)) → T (is_sorted by_bytes es)
rises_after x es rises = (parts (below_all by_bytes x.0 es) (is_sorted by_bytes es) rises).1

-- the first one's key doesn't come again
pub lacks_after : (vs : VersionsByKey) (x : Entry) (es : List Entry) → T (is_sorted by_bytes (x ∷ es)) → Lacks vs (x ∷ es) → Lacks (with_opened vs x) es
lacks_after vs x es rises lacks k some =
    let (below, rest) = parts (below_all by_bytes x.0 es) (is_sorted by_bytes es) rises in
    elim (keys k x.0) [
      | inl e ↦ let no_one : IsSome {T = Cell} None = subst (λ o. IsSome o) (ap (λ z. find by_bytes z es) e ∙ find_below x.0 es below) some in absurd (cc)
      | inr f ↦
          ap (λ b. cond b (Some (wrote Rest Rest (vs x.0) x.1)) (vs k)) f
          ∙ lacks k (subst (λ b. IsSome (cond b (Some x.1) (find by_bytes k es))) (sym (sym (same_is k x.0) ∙ f)) some)
    ]

-- entries whose keys rise, over versions that have none of these keys
opened_as : (vs : VersionsByKey) (es : List Entry) → T (is_sorted by_bytes es) → Lacks vs es → (q : Bytes) → opened_with vs es q ≡ found_or (find by_bytes q es) (vs q)
opened_as vs [] rises absent q = refl
opened_as vs (x ∷ es) rises lacks q =
    let (below, rest) = parts (below_all by_bytes x.0 es) (is_sorted by_bytes es) rises in
    let before = lacks_first vs x es lacks in
    let absent : find by_bytes x.0 es ≡ None = find_below x.0 es below in
    opened_as (with_opened vs x) es rest (lacks_after vs x es rises lacks) q
    ∙ elim (keys q x.0) [
      | inl e ↦
          let yes : same q x.0 ≡ true = ap (λ z. same z x.0) e ∙ same_refl x.0 in
          ap (λ o. found_or o (with_opened vs x q)) (ap (λ z. find by_bytes z es) e ∙ absent)
          ∙ ap (λ b. cond b (Some (wrote Rest Rest (vs x.0) x.1)) (vs q)) yes
          ∙ ap (λ o. Some (wrote Rest Rest o x.1)) before
          ∙ sym (ap (λ b. found_or (cond b (Some x.1) (find by_bytes q es)) (vs q)) (sym (same_is q x.0) ∙ yes))
      | inr f ↦
          ap (λ b. found_or (find by_bytes q es) (cond b (Some (wrote Rest Rest (vs x.0) x.1)) (vs q))) f
          ∙ sym (ap (λ b. found_or (cond b (Some x.1) (find by_bytes q es)) (vs q)) (sym (same_is q x.0) ∙ f))
    ]

-- full images have no key that is gone
present : (es : List Entry) → AllByRecursion (λ (e : Entry). IsSome e.1) es → (q : Bytes) (x : Cell) → find by_bytes q es ≡ Some x → IsSome x
present [] all q x e = absurd (cc)
present (y ∷ es) all q x e = by (eq_by_cmp by_bytes q y.0) (present es all.1 q x) e
  where
    by : (b : Bool) → (find by_bytes q es ≡ Some x → IsSome x) → cond b (Some y.1) (find by_bytes q es) ≡ Some x → IsSome x
    by true rest e = let is : y.1 ≡ x = cc in subst (λ (o : Cell). IsSome o) is all.0
    by false rest e = rest e

found_opened : (o : Option Cell) → ((x : Cell) → o ≡ Some x → IsSome x) → found_or o None ≡ opened_versions (changed_or o None)
found_opened None some = refl
found_opened (Some None) some = let no_one : IsSome {T = Bytes} None = some None refl in absurd (cc)
found_opened (Some (Some b)) some = refl

is_full_image : (i : Image) → is_opening i ≡ true → i.kind ≡ Full
is_full_image i e = by i.kind ((i.number == 0) && ((i.base == 0) && (i.place == 0))) e
  where
    by : (k : Kind) (b : Bool) → (is_full k && b) ≡ true → k ≡ Full
    by Full b e = refl
    by Partial b e = absurd (true≢false (sym e))

all_present : (k : Kind) (n b : ℕ) (es : List Entry) → k ≡ Full → SuitsKind k n b es → AllPresent es
all_present Full n b es e h = h.1
all_present Partial n b es e h = absurd (cc)

-- the records of a lawful opening
pub versions_opened :
    (i : Image) → IsLawfulImage i → is_opening i ≡ true → (vs : VersionsByKey) → ((q : Bytes) → vs q ≡ None) → (q : Bytes) → opened_with vs i.entries q ≡ opened_versions (value_at (table_of i) q)
versions_opened i lawful opening vs lacks q =
    let all = recursion_from_All (λ (e : Entry). IsSome e.1) i.entries (all_present i.kind i.number i.base i.entries (is_full_image i opening) lawful.kind) in
    opened_as vs i.entries (subst T (sym lawful.rises) tt) (λ k some. lacks k) q
    ∙ ap (found_or (find by_bytes q i.entries)) (lacks q)
    ∙ found_opened (find by_bytes q i.entries) (present i.entries all q)
    ∙ ap opened_versions (sym (value_at-merged no_table (changes_of i) q ∙ ap (λ x. changed_or (change_at (changes_of i) q) x) (value_at-no_table q)
    ∙ ap (λ o. changed_or o None) (get-from_entries nat_list_cmp_total i.entries q)))

-- nothing is kept, and nothing is held
abbrev nothings : (X : Type 0) → ℕ → List (Option X)
nothings X n = replicate n None

none_kept : {X : Type 0} (n s : ℕ) → slice_index_or (nothings X n) s None ≡ None
none_kept zero s = refl
none_kept (suc n) zero = refl
none_kept (suc n) (suc s) = none_kept n s

abbrev empty_map : {V : Type 0} → KeyMap V
empty_map = fin.empty

abbrev empty_maps : (V : Type 0) → ℕ → List (KeyMap V)
empty_maps V n = replicate n empty_map

pub map-replicate : {X Y : Type 0} (f : X → Y) (n : ℕ) (x : X) → map f (replicate n x) ≡ replicate n (f x)
map-replicate f zero x = refl
map-replicate f (suc n) x = ap (λ l. f x ∷ l) (map-replicate f n x)

count_nothings : (X : Type 0) (n : ℕ) → length (nothings X n) ≡ n
count_nothings X n = length-replicate n None

count_empty_maps : (V : Type 0) (n : ℕ) → length (empty_maps V n) ≡ n
count_empty_maps V n = length-replicate n empty_map

none_held : {V : Type 0} (n s : ℕ) (q : Bytes) → fin.get (slice_index_or (empty_maps V n) s empty_map) q ≡ None
none_held zero s q = fin.get-empty by_bytes q
none_held (suc n) zero q = fin.get-empty by_bytes q
none_held (suc n) (suc s) q = none_held n s q

module _ {A : Type 0} (c : Inside A) (lawful : catalog_fault c.catalog ≡ None) (opens : is_opening c.opening ≡ true) (log : c.log.records ≡ []) (calls : c.calls.items ≡ replicate SESSIONS None)
    (last : c.last.items ≡ replicate SESSIONS None)
    (locks : c.locks ≡ replicate SESSIONS fin.empty) (active : c.active ≡ replicate SESSIONS None) (collecting : c.changed.collecting ≡ empty_set) (frozen : c.changed.frozen ≡ empty_set)
    (phase : c.phase ≡ Rest)
    (versions : (q : Bytes) → versions_in c.store q ≡ opened_versions (value_at (table_of c.opening) q)) (most : records c.store ≤ STORE_RECORDS)
    (checkpoint : checkpoint_of c.checkpoint ≡ no_checkpoint) (number : c.checkpoint.number ≡ 0) (finished : c.checkpoint.finished ≡ 0) (aside : c.aside ≡ Unknown) where
  free : (s : ℕ) → SameCall (call_at c s) None
  free s = subst (λ (o : Option (OpenCall A)). SameCall o None) (sym (ap (λ (l : List (Option (OpenCall A))). slice_index_or l s None) calls ∙ none_kept SESSIONS s)) tt

  begun_small : fin.len (table_of c.opening) ≤ STORE_RECORDS
  unfolding initial history_table
  begun_small =
      small_now (initial c.catalog (table_of c.opening)) (initial_good c.catalog (table_of c.opening)) 0 (λ s le. refl) c.store (λ q. sym (versions q)) most

  pub opened_core : IsCore c
  unfolding initial last_number
  opened_core = record {
    world = initial c.catalog (table_of c.opening);
    run = machine.none;
    stands = record {
      catalog = refl;
      opening = refl;
      log = sym log;
      calls = free;
      versions = λ q. sym (versions q);
      collecting = λ q. sym (ap (λ k. has k q) collecting ∙ ap is_some (fin.get-empty by_bytes q));
      frozen = λ q. sym (ap (λ k. has k q) frozen ∙ ap is_some (fin.get-empty by_bytes q));
      locks = λ s q. ap (λ l. mode_of l s q) locks ∙ none_held SESSIONS s q;
      phase = sym phase;
      checkpoint = record {
        number = sym number;
        finished = sym finished;
        kind = sym (ap (λ (k : CheckpointView). k.kind) checkpoint);
        place = λ cutting. absurd (true≢false (sym cutting));
        scan = tt;
        waits = λ i is. absurd (let none : None ≡ Some i = sym (ap (λ (k : CheckpointView). k.waiting) checkpoint) ∙ is in cc);
        heads = λ h is. absurd (let none : None ≡ Some h = sym (ap (λ (k : CheckpointView). k.header) checkpoint) ∙ is in cc);
        none_yet = λ unfinished. ap (λ (k : CheckpointView). k.header) checkpoint;
      };
    };
    lawful = lawful;
    opens = opens;
    small = subst (IsSmall c.catalog (table_of c.opening)) (sym log) (small_none c.catalog (table_of c.opening) begun_small);
    sessions = ap length calls ∙ count_nothings (OpenCall A) SESSIONS;
    tables = ap length locks ∙ count_empty_maps Mode SESSIONS;
    starts = active ∙ sym (ap (map (start_of {A = A})) calls ∙ map-replicate (start_of {A = A}) SESSIONS None);
    numbers = ap length last ∙ count_nothings ℕ SESSIONS;
    last = λ s lt. ap (λ l. slice_index_or l s None) last ∙ none_kept SESSIONS s ∙ ap (last_number s) (sym log);
    aside = subst (λ a. AsideIn a c.store (either c.changed) c.locks) (sym aside) (λ slot key there so. tt);
  }

  pub opened_view : length c.store ≡ length c.opening.entries → IsOpened c.catalog c.opening (view_of c)
  opened_view slots = record {
    catalog = refl;
    opening = refl;
    log = log;
    checkpoint = checkpoint;
    calls = ap (map (option_map (underway {A = A}))) calls ∙ map-replicate (option_map (underway {A = A})) SESSIONS None;
    slots = slots;
    versions = versions;
  }

-- a store without slots has no versions
pub versions_in-new : (q : Bytes) → versions_in [] q ≡ None
unfolding versions_in
versions_in-new q = ap (option_map key_versions) (version_of-new q)
