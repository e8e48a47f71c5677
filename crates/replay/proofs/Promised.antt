-- What is recovered from the opening, and from the images, of a log.
use Rattle.std.proofs.Common.{◌≡◌, ◌⊎◌, inl, inr, ℕ, suc, zero, ◌+◌, ◌≤◌, ◌<◌, Bool, true, false, List, [], ◌∷◌, ◌++◌, length, take, drop, Some, None, Ok, Err, refl, sym, ap, ◌∙◌, subst, arith}
use Rattle.std.specs.Prelude.{slice_get, nat_lt, nat_le, ◌==◌}
use Rattle.std.specs.declared.result.Result.{Result}
use Rattle.std.specs.FinMap as finite
use Rattle.std.specs.Option.{option_or}
use Rattle.std.proofs.lemmas.Bool.{eq-eqb, le-leb}
use Rattle.std.proofs.lemmas.List.{length-take, take-append-drop, take-append-le}
use Rattle.procedure.specs.Bytes.{Bytes}
use Rattle.procedure.specs.Table.{Table, change_at, value_at}
use Rattle.procedure.specs.Procedures.{Procedure}
use Rattle.phase.specs.declared.phases.Phase.TheVariants.{Resolve}
use Rattle.commitlog.specs.Records.{Record, Token, Call}
use Rattle.commitlog.specs.Histories.{EachAfter, IsAnswered, IsLegal, after}
use Rattle.commitlog.specs.Cuts.{HasCut, IsFullImage, at_cut, before_resolve, cut, in_full}
use Rattle.commitlog.specs.LogReadings.{Log, IsReading}
use Rattle.commitlog.specs.declared.formats.Version.{Version}
use Rattle.commitlog.specs.declared.formats.LogHeader.{LogHeader}
use Rattle.commitlog.specs.declared.decoding.Ending.{Ending}
use Rattle.commitlog.proofs.Histories.{after-append, after-push, each-front}
use Rattle.commitlog.proofs.Lists.{slice_get-seam}
use Rattle.commitlog.proofs.Cuts.{cut-front, found_in_front, split_at}
use Rattle.image.specs.Images.{Image, IsLawfulImage, changes_of, full_image}
use Rattle.image.specs.Merges.{IsChain, Refusal, AreChained, chain_refusal, is_full, is_partial, last_of, links_refusal, merged_image, refusal_of, table_of, unless}
use Rattle.image.specs.Merges as merges
use Rattle.image.specs.Openings.{is_opening}
use Rattle.image.specs.declared.images.Kind.{Kind}
use Rattle.image.specs.declared.merges.MergeError.{MergeError}
use Rattle.image.specs.declared.merges.MergeError.TheVariants.{TooMany, NotFull, NotPartial, Gap}
use Rattle.image.specs.declared.limits.TheConstants.{ENTRIES, IMAGES}
use Rattle.replay.specs.Headers.{NamesOpening}
use Rattle.replay.specs.Promises.{FromImages, FromOpening, IsChainOf, IsHistory, IsImageOf, IsOfKind, Recovers, data_of}
use Rattle.replay.specs.Recovery.{BeginsLog, GoesOn, IsRecovery, OfLog, Recovery, chain_of, chain_or, recovery, uncovered}
use Rattle.replay.specs.Replays.{LeavesFewAfter, LeavesFewOn, RunsAgain, calls_in, is_torn}
use Rattle.replay.specs.declared.errors.RecoverError.{RecoverError}
use Rattle.replay.specs.declared.errors.RecoverError.TheVariants as refused
use Rattle.replay.proofs.ChainCuts.{chain_is_cut, last_place}
use Rattle.replay.proofs.LogFronts.{fronts_are_read}
use Rattle.replay.proofs.Recovering.{is_recovery, or_no_memory}
use Rattle.replay.proofs.OpeningImages.{Opening, change_at-full, opening_is, parts_of, table_of-full}

-- ---- each call of a history runs again

module _ (c : List Procedure) (t : Table) (l : List Record) (legal : IsLegal c t l) (few : (j : ℕ) → finite.len (after c t (take j l)) ≤ ENTRIES) where
  few_after : (i : ℕ) (r : Record) → slice_get l i ≡ Some r → LeavesFewAfter c t (take i l) r
  few_after i (Token p n) e = tt
  few_after i (Call s n p args o rs) e =
      subst (λ (u : Table). finite.len u ≤ ENTRIES)
      (ap (after c t) (take_one_more l i (Call s n p args o rs) e) ∙ after-push c t (take i l) (Call s n p args o rs)) (few (suc i))
    where
      take_one_more : (xs : List Record) (i : ℕ) (r : Record) → slice_get xs i ≡ Some r → take (suc i) xs ≡ take i xs ++ r ∷ []
      take_one_more [] i r e = absurd (cc)
      take_one_more (x ∷ xs) zero r e = ap (λ y. y ∷ []) (same_some e)
        where
          same_some : {x y : Record} → Some x ≡ Some y → x ≡ y
          same_some e = cc
      take_one_more (x ∷ xs) (suc i) r e = ap (λ ys. x ∷ ys) (take_one_more xs i r e)

  pub all_again : EachAfter (RunsAgain c t) l
  all_again i r e = (legal i r e, few_after i r e)

-- what holds of each record holds of each behind a place
each_behind : (P : List Record → Record → Type 0) (a d : List Record) → EachAfter P (a ++ d) → EachAfter (λ x r. P (a ++ x) r) d
each_behind P [] d h = h
each_behind P (y ∷ a) d h = each_behind (λ x r. P (y ∷ x) r) a d (λ i r e. h (suc i) r e)

module _ (c : List Procedure) (t : Table) (a : List Record) where
  again_behind : (x : List Record) (r : Record) → RunsAgain c t (a ++ x) r → RunsAgain c (after c t a) x r
  again_behind x (Token p n) h = (tt, tt)
  again_behind x (Call s n p args o rs) h =
      let same = after-append c t a x in
      (subst (λ (u : Table). IsAnswered c u p args o rs) same h.0, subst (λ (u : Table). LeavesFewOn c u (Call s n p args o rs)) same h.1)

  pub all_behind : (d : List Record) → EachAfter (RunsAgain c t) (a ++ d) → EachAfter (RunsAgain c (after c t a)) d
  all_behind d h i r e = again_behind (take i d) r (each_behind (RunsAgain c t) a d h i r e)

-- ---- a chain is merged

-- a test that holds refuses nothing
none_if : (b : Bool) (e : MergeError) → b ≡ true → unless b e ≡ None
none_if true e h = refl
none_if false e h = absurd (cc)

none_then : (x y : Refusal) → x ≡ None → y ≡ None → option_or x y ≡ None
none_then None y h k = k
none_then (Some e) y h k = absurd (cc)

links_stand : (i n : ℕ) (ps : List Image) → AreChained n ps → links_refusal i n ps ≡ None
links_stand i n [] stand = refl
links_stand i n (p ∷ ps) stand =
    none_then (unless (is_partial p.kind) (NotPartial i)) _ (none_if (is_partial p.kind) (NotPartial i) (ap is_partial stand.0))
    (none_then (unless (p.base == n) (Gap i)) _ (none_if (p.base == n) (Gap i) (eq-eqb p.base n stand.1)) (links_stand (i + 1) p.number ps stand.2))

module _ (full : Image) (ps : List Image) (chain : IsChain full ps) (images : length ps < IMAGES) (few : finite.len (merges.table_with_images (table_of full) ps) ≤ ENTRIES) where
  links : chain_refusal full ps ≡ None
  links =
      none_then (unless (nat_lt (length ps) IMAGES) TooMany) _ (none_if (nat_lt (length ps) IMAGES) TooMany (le-leb (suc (length ps)) IMAGES images))
      (none_then (unless (is_full full.kind) NotFull) _ (none_if (is_full full.kind) NotFull (ap is_full chain.full_first)) (links_stand 0 full.number ps chain.partials))

  pub not_refused : refusal_of full ps ≡ None
  not_refused = none_then (chain_refusal full ps) _ links (none_if (nat_le (finite.len (merges.table_with_images (table_of full) ps)) ENTRIES) TooMany (le-leb _ ENTRIES few))

-- ---- where the last image ends

placed : (m : List Record) (n : ℕ) → HasCut m n → 0 < n → slice_get m (cut m n) ≡ Some (Token Resolve n)
placed m zero h above = absurd (omega arith)
placed m (suc n) (inl e) above = absurd (omega arith)
placed m (suc n) (inr s) above =
    let k = before_resolve (suc n) m in
    let parts = split_at (suc n) m s in
    let within : k < length m = (found_in_front (suc n) m [] s).1 in
    let len : length (take k m) ≡ k = omega (arith, length-take k m) in
    ap (λ (l : List Record). slice_get l k) parts.1
    ∙ ap (slice_get (take k m ++ Token Resolve (suc n) ∷ parts.0)) (sym len)
    ∙ slice_get-seam (take k m) (Token Resolve (suc n)) parts.0

after_none : (c : List Procedure) (u : Table) → after c u [] ≡ u
unfolding after
after_none c u = refl

-- ---- what is recovered

module _ (c : List Procedure) (opening : Image) (v : Version) (h : LogHeader) (m left : List Record) (e : Ending) (full : Image) (ps : List Image)
    (is : IsHistory c opening v h (m ++ left)) (chain : IsChainOf c (table_of opening) (m ++ left) full ps) (holds : HasCut m (last_of full ps).number) where
  abbrev t : Table
  t = table_of opening

  abbrev n : ℕ
  n = (last_of full ps).number

  abbrev k : ℕ
  k = cut m n

  abbrev merged : Image
  merged = merged_image full ps

  unfolded_place : (last_of full ps).place ≡ k
  unfolded_place = last_place c (table_of opening) (m ++ left) is.cyclic full ps chain.images ∙ (cut-front m left (last_of full ps).number holds).0

  within : k ≤ length m
  within = (cut-front m left (last_of full ps).number holds).1

  -- the table of the images is that at the cut
  at_last : merges.table_with_images (table_of full) ps ≡ after c t (take k m)
  at_last =
      chain_is_cut c (table_of opening) (m ++ left) is.cyclic full ps chain.chain chain.images
      ∙ ap (λ j. after c (table_of opening) (take j (m ++ left))) (cut-front m left (last_of full ps).number holds).0
      ∙ ap (after c (table_of opening)) (take-append-le (cut m (last_of full ps).number) m left (cut-front m left (last_of full ps).number holds).1)

  table_is : table_of merged ≡ after c t (take k m)
  table_is = table_of-full (last_of full ps).number (last_of full ps).place (merges.table_with_images (table_of full) ps) ∙ at_last

  few : finite.len (merges.table_with_images (table_of full) ps) ≤ ENTRIES
  few =
      subst (λ (u : Table). finite.len u ≤ ENTRIES)
      (sym (chain_is_cut c (table_of opening) (m ++ left) is.cyclic full ps chain.chain chain.images))
      (is.few (cut (m ++ left) (last_of full ps).number))

  chained : chain_of (full ∷ ps) ≡ Ok merged
  chained = ap (chain_or (merged_image full ps)) (not_refused full ps chain.chain chain.few few)

  -- the log goes on there
  begins : (last_of full ps).number ≡ 0 → BeginsLog v h merged
  begins zero_is =
      let first : (last_of full ps).place ≡ 0 = unfolded_place ∙ ap (cut m) zero_is in
      let table : merges.table_with_images (table_of full) ps ≡ table_of opening = at_last ∙ ap (λ j. after c (table_of opening) (take (cut m j) m)) zero_is ∙ after_none c (table_of opening) in
      let same : merged_image full ps ≡ opening = (λ i. full_image (zero_is i) (first i) (table i)) ∙ sym (opening_is opening is.opens is.lawful) in
      (first, subst (NamesOpening v h) (sym same) is.named)

  goes_on : GoesOn c merged v h m
  goes_on = record {
    catalog = is.catalog;
    opening = begins;
    place = λ above. ap (slice_get m) unfolded_place ∙ placed m (last_of full ps).number holds above;
  }

  whole : take k m ++ drop k m ≡ m
  whole = take-append-drop k m

  each_again : EachAfter (RunsAgain c (after c t (take k m))) (drop k m)
  each_again =
      all_behind c (table_of opening) (take k m) (drop k m)
      (subst (EachAfter (RunsAgain c (table_of opening))) (sym whole)
      (each-front (RunsAgain c (table_of opening)) m left (all_again c (table_of opening) (m ++ left) is.legal is.few)))

  uncovered_is : uncovered merged m ≡ drop k m
  uncovered_is = ap (λ j. drop j m) unfolded_place

  runs : EachAfter (RunsAgain c (table_of merged)) (uncovered merged m)
  runs =
      subst (λ (u : Table). EachAfter (RunsAgain c u) (uncovered merged m)) (sym table_is)
      (subst (EachAfter (RunsAgain c (after c t (take k m)))) (sym uncovered_is) each_again)

  state_is : after c (table_of merged) (uncovered merged m) ≡ after c t m
  state_is =
      ap (λ (u : Table). after c u (uncovered merged m)) table_is
      ∙ ap (after c (after c t (take k m))) uncovered_is
      ∙ sym (after-append c t (take k m) (drop k m))
      ∙ ap (after c t) whole

  recovery_is : recovery c merged m e ≡ record { state = after c (table_of opening) m; calls = calls_in (drop (last_of full ps).place m); torn = is_torn e }
  recovery_is = λ i. record { state = state_is i; calls = calls_in (drop (last_of full ps).place m); torn = is_torn e }

  of_log : OfLog c merged v h m e (Ok (recovery c merged m e))
  of_log = (goes_on, runs, refl)

  pub recovers : (text : Bytes) (x : Result Recovery RecoverError) → IsReading text (Log v h m e) → IsRecovery c (full ∷ ps) text x ⊎ (x ≡ Err refused.NoMemory) →
      Recovers c opening (last_of full ps).place m e x
  recovers text x read answer = elim (or_no_memory c (full ∷ ps) text x (Ok (recovery c merged m e)) answer is_one) [
    | inl same ↦ inl (same ∙ ap (λ (s : Recovery). Ok s) recovery_is)
    | inr none ↦ inr none
  ]
    where
      is_one : IsRecovery c (full ∷ ps) text (Ok (recovery c merged m e))
      is_one = is_recovery c (full ∷ ps) text merged chained (Ok (recovery c merged m e)) (Log v h m e, read, of_log)

pub from_images : (c : List Procedure) (is : List Image) (text : Bytes) (x : Result Recovery RecoverError) → IsRecovery c is text x ⊎ (x ≡ Err refused.NoMemory) → FromImages c is text x
from_images c is text x answer opening v h m left e full ps history read images chain holds =
    recovers c opening v h m left e full ps history chain holds text x read (subst (λ (js : List Image). IsRecovery c js text x ⊎ (x ≡ Err refused.NoMemory)) images answer)

-- the opening is an image of its log
module _ (c : List Procedure) (opening : Image) (opens : is_opening opening ≡ true) (lawful : IsLawfulImage opening) (l : List Record) where
  zeros : Opening opening
  zeros = parts_of opening opens

  opening_image : IsFullImage c (table_of opening) l (data_of opening)
  unfolding after
  opening_image = record {
    base = zeros.base ∙ sym zeros.number;
    place = zeros.place ∙ sym (ap (cut l) zeros.number);
    entries = λ q.
        ap (λ (i : Image). change_at (changes_of i) q) (opening_is opening opens lawful)
        ∙ change_at-full 0 0 (table_of opening) q
        ∙ sym (ap (λ j. in_full (value_at (at_cut c (table_of opening) l j) q)) zeros.number);
  }

  pub opening_is_image : IsImageOf c (table_of opening) l opening
  opening_is_image = record { cut = inl zeros.number; image = subst (λ (k : Kind). IsOfKind k c (table_of opening) l (data_of opening)) (sym zeros.kind) opening_image }

  opening_chain : IsChainOf c (table_of opening) l opening []
  opening_chain = record {
    chain = record { full_first = zeros.kind; partials = tt };
    few = omega arith;
    images = (opening_is_image, tt);
  }

pub from_opening : (c : List Procedure) (is : List Image) (text : Bytes) (x : Result Recovery RecoverError) → IsRecovery c is text x ⊎ (x ≡ Err refused.NoMemory) → FromOpening c is text x
from_opening c is text x answer opening v h l history front images =
    let read = fronts_are_read v h l text front in
    let m = read.0 in
    let of_parts : IsHistory c opening v h (m ++ read.1) = subst (IsHistory c opening v h) read.2 history in
    let told = from_images c is text x answer opening v h m read.1 read.3 opening [] of_parts read.4 images (opening_chain c opening history.opens history.lawful (m ++ read.1))
    (inl (parts_of opening history.opens).number) in
    (m, read.1, read.2, read.3, read.4, subst (λ p. Recovers c opening p m read.3 x) (parts_of opening history.opens).place told)
