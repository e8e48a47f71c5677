-- The winner at node 1 is the least of all.
use Rattle.std.proofs.Common.{◌≡◌, ◌≢◌, ℕ, zero, suc, ◌+◌, ◌-◌, ◌/◌, ◌<◌, ◌≤◌, Bool, true, false, cond, ◌⊎◌, inl, inr, List, [], ◌∷◌, length, get_or, Option, Some, None, refl, sym, ap, ◌∙◌, subst, arith, slice_set, length-set, get_or-set_same, get_or-set_other, map, option_map, drop, ◌++◌, replicate, length-append, length-drop, vec_capacity}
use Rattle.std.proofs.Math.ListN.{get_or-map}
use Rattle.std.proofs.Math.Seq.{get_or-append_right}
use Rattle.std.proofs.lemmas.List.{get_or-drop, get_or_past, get_or-replicate, get_or_append_left, length-replicate, length-map, same_lists, get_or_default}
use Rattle.std.proofs.lemmas.Bool.{cases_eq}
use Rattle.std.proofs.lemmas.List.Sorted.{ranks_by}
use Rattle.std.specs.Cmp.Lexicographic.{nat_list_cmp_total}
use Rattle.std.specs.Cmp.{IsStrictWeakOrder}
use Rattle.procedure.specs.Bytes.{Bytes}
use Rattle.record_store.specs.DeadKeys.{precedes, winner, Nodes, node_at, match_at, candidate_of, offer_at, offers_of, IsLeast, IsWonBut, IsWonFrom, SameFrom, IsMoved, IsPut, IsEnlarged, IsPlayed}
use Rattle.record_store.specs.declared.dead_keys.Candidate.{Candidate}
use Rattle.record_store.specs.declared.dead_keys.DeadKeys.TheInside.{Inside}

byte_order : IsStrictWeakOrder precedes
byte_order = ranks_by nat_list_cmp_total (λ (k : Bytes). k)

precedes_itself : (k : Bytes) → precedes k k ≡ false
precedes_itself k = by_cases (precedes k k) refl
  where
    by_cases : (b : Bool) → precedes k k ≡ b → precedes k k ≡ false
    by_cases true e = byte_order.one_way k k e
    by_cases false e = e

-- where y offers a key, x offers none that comes after it
abbrev pub Beats : Option Candidate → Option Candidate → Type 0
Beats x y = (b : Candidate) → y ≡ Some b → (a : Candidate) × (x ≡ Some a) × (precedes b.key a.key ≡ false)

pub beats_itself : (x : Option Candidate) → Beats x x
beats_itself x b e = (b, e, precedes_itself b.key)

pub beats_trans : (x y z : Option Candidate) → Beats x y → Beats y z → Beats x z
beats_trans x y z f g c e =
    let m : (a : Candidate) × (y ≡ Some a) × (precedes c.key a.key ≡ false) = g c e in
    let l : (a : Candidate) × (x ≡ Some a) × (precedes m.0.key a.key ≡ false) = f m.0 m.1 in
    (l.0, l.1, byte_order.chain c.key m.0.key l.0.key m.2 l.2)

choose_left : (x y : Candidate) (b : Bool) → precedes y.key x.key ≡ b → Beats (cond b (Some y) (Some x)) (Some x)
choose_left x y true e c f = let same : c ≡ x = cc in (y, refl, ap (λ (k : Candidate). precedes k.key y.key) same ∙ byte_order.one_way y.key x.key e)
choose_left x y false e c f = let same : c ≡ x = cc in (x, refl, ap (λ (k : Candidate). precedes k.key x.key) same ∙ precedes_itself x.key)

choose_right : (x y : Candidate) (b : Bool) → precedes y.key x.key ≡ b → Beats (cond b (Some y) (Some x)) (Some y)
choose_right x y true e c f = let same : c ≡ y = cc in (y, refl, ap (λ (k : Candidate). precedes k.key y.key) same ∙ precedes_itself y.key)
choose_right x y false e c f = let same : c ≡ y = cc in (x, refl, ap (λ (k : Candidate). precedes k.key x.key) same ∙ e)

pub winner_beats_left : (x y : Option Candidate) → Beats (winner x y) x
unfolding winner
winner_beats_left None y c e = absurd (cc)
winner_beats_left (Some x) None c e = beats_itself (Some x) c e
winner_beats_left (Some x) (Some y) c e = choose_left x y (precedes y.key x.key) refl c e

pub winner_beats_right : (x y : Option Candidate) → Beats (winner x y) y
unfolding winner
winner_beats_right None y c e = beats_itself y c e
winner_beats_right (Some x) None c e = absurd (cc)
winner_beats_right (Some x) (Some y) c e = choose_right x y (precedes y.key x.key) refl c e

chosen : (x y : Candidate) (b : Bool) (c : Candidate) → cond b (Some y) (Some x) ≡ Some c → (Some x ≡ Some c) ⊎ (Some y ≡ Some c)
chosen x y true c e = inr e
chosen x y false c e = inl e

-- who wins is one of the two
pub winner_is_one : (x y : Option Candidate) (c : Candidate) → winner x y ≡ Some c → (x ≡ Some c) ⊎ (y ≡ Some c)
unfolding winner
winner_is_one None y c e = inr e
winner_is_one (Some x) None c e = inl e
winner_is_one (Some x) (Some y) c e = chosen x y (precedes y.key x.key) c e

-- half of a number
halves : (m : ℕ) → (h : ℕ) × ((m ≡ h + h) ⊎ (m ≡ h + h + 1))
halves zero = (0, inl refl)
halves (suc m) = elim (halves m).1 [
  | inl even ↦ ((halves m).0, inr (omega arith))
  | inr odd ↦ ((halves m).0 + 1, inl (omega arith))
]

pub halved : (m : ℕ) → (m ≡ m / 2 + m / 2) ⊎ (m ≡ m / 2 + m / 2 + 1)
halved m =
    let h : ℕ = (halves m).0 in
    elim (halves m).1 [ inl even ↦ inl (omega arith) | inr odd ↦ inr (omega arith) ]

in_order : (x y : ℕ) → (x < y) ⊎ (y ≤ x)
in_order x zero = inr (omega arith)
in_order zero (suc y) = inl (omega arith)
in_order (suc x) (suc y) = elim (in_order x y) [ inl h ↦ inl (omega arith) | inr h ↦ inr (omega arith) ]

at_place : (nodes : Nodes) (slots : ℕ) → ((slot : ℕ) (c : Candidate) → node_at nodes (slots + slot) ≡ Some c → c.slot ≡ slot) → (n : ℕ) (c : Candidate) → slots ≤ n → n < slots + slots →
    node_at nodes n ≡ Some c → (c.slot < slots) × (node_at nodes (slots + c.slot) ≡ Some c)
at_place nodes slots places n c outer within is =
    let at : slots + (n - slots) ≡ n = omega arith in
    let same : c.slot ≡ n - slots = places (n - slots) c (ap (node_at nodes) at ∙ is) in
    let back : slots + c.slot ≡ n = omega arith in
    (omega arith, ap (node_at nodes) back ∙ is)

set_other : (nodes : Nodes) (at n : ℕ) (x : Option Candidate) → n ≢ at → node_at (slice_set nodes at x) n ≡ node_at nodes n
set_other nodes at n x differs = get_or-set_other nodes at n x None differs

set_same : (nodes : Nodes) (at : ℕ) (x : Option Candidate) → at < length nodes → node_at (slice_set nodes at x) at ≡ x
set_same nodes at x within = get_or-set_same nodes at x None within

match_other : (nodes : Nodes) (at n : ℕ) (x : Option Candidate) → n + n ≢ at → n + n + 1 ≢ at → match_at (slice_set nodes at x) n ≡ match_at nodes n
unfolding match_at
match_other nodes at n x even odd = rw (set_other nodes at (n + n) x even, set_other nodes at (n + n + 1) x odd)

-- the match at a node, once it is played
pub play_here : (nodes new : Nodes) (at : ℕ) → 0 < at → at < length nodes → new ≡ slice_set nodes at (match_at nodes at) → node_at new at ≡ match_at new at
play_here nodes new at positive within is =
    rw is (set_same nodes at _ within ∙ sym (match_other nodes at at _ (omega arith) (omega arith)))

pub play_other : (nodes new : Nodes) (at n : ℕ) → n ≢ at → n + n ≢ at → n + n + 1 ≢ at → new ≡ slice_set nodes at (match_at nodes at) → node_at nodes n ≡ match_at nodes n →
    node_at new n ≡ match_at new n
play_other nodes new at n differs even odd is won =
    rw is (set_other nodes at n _ differs ∙ won ∙ sym (match_other nodes at n _ even odd))

pub replayed : (nodes new : Nodes) (slots at up : ℕ) → length nodes ≡ slots + slots → at < slots + slots → 1 < at → (at ≡ up + up) ⊎ (at ≡ up + up + 1) → new ≡ slice_set nodes up (match_at nodes up) →
    IsWonBut nodes slots at → IsWonBut new slots up
replayed nodes new slots at up len within above half is won = record {
  won = λ n positive inner even odd. elim (cases_eq n up) [
    | inl same ↦ subst (λ (m : ℕ). node_at new m ≡ match_at new m) (sym same) (play_here nodes new up (omega arith) (omega arith) is)
    | inr differs ↦ play_other nodes new up n differs even odd is (won.won n positive inner (omega arith) (omega arith))
  ];
}

pub replayed_all : (nodes : Nodes) (slots at : ℕ) → at < 2 → IsWonBut nodes slots at → IsWonFrom nodes slots 1
replayed_all nodes slots at last won = record { won = λ n positive inner. won.won n (omega arith) inner (omega arith) (omega arith) }

pub played_from : (nodes new : Nodes) (slots at down : ℕ) → length nodes ≡ slots + slots → at ≡ down + 1 → 0 < down → at ≤ slots → new ≡ slice_set nodes down (match_at nodes down) →
    IsWonFrom nodes slots at → IsWonFrom new slots down
played_from nodes new slots at down len next positive within is won = record {
  won = λ n from inner. elim (cases_eq n down) [
    | inl same ↦ subst (λ (m : ℕ). node_at new m ≡ match_at new m) (sym same) (play_here nodes new down positive (omega arith) is)
    | inr differs ↦ play_other nodes new down n differs (omega arith) (omega arith) is (won.won n (omega arith) inner)
  ];
}

pub kept_from : (first nodes new : Nodes) (slots at : ℕ) (x : Option Candidate) → at < slots → new ≡ slice_set nodes at x → SameFrom first nodes slots → SameFrom first new slots
kept_from first nodes new slots at x inner is kept = record {
  len = ap length is ∙ length-set nodes at x ∙ kept.len;
  same = λ n from. rw is (set_other nodes at n x (omega arith) ∙ kept.same n from);
}

-- a change of a slot's own node
pub place_changed : (nodes new : Nodes) (slots at : ℕ) (x : Option Candidate) → slots ≤ at → new ≡ slice_set nodes at x → IsWonFrom nodes slots 1 → IsWonBut new slots at
place_changed nodes new slots at x outer is won = record {
  won = λ n positive inner even odd. rw is (set_other nodes at n x (omega arith) ∙ won.won n (omega arith) inner ∙ sym (match_other nodes at n x even odd));
}

module _ (nodes : Nodes) (slots : ℕ) (won : IsWonFrom nodes slots 1) where
  above : (n : ℕ) → 0 < n → n < slots → node_at nodes n ≡ winner (node_at nodes (n + n)) (node_at nodes (n + n + 1))
  unfolding match_at
  above n positive inner = won.won n (omega arith) inner

  parent_beats : (n : ℕ) → 0 < n → n < slots → Beats (node_at nodes n) (node_at nodes (n + n)) × Beats (node_at nodes n) (node_at nodes (n + n + 1))
  parent_beats n positive inner =
      rw (above n positive inner) (winner_beats_left _ _, winner_beats_right _ _)

  -- node 1 beats each node
  pub root_beats : (bound n : ℕ) → n < bound → 0 < n → n < slots + slots → Beats (node_at nodes 1) (node_at nodes n)
  root_beats zero n low positive within = absurd (omega arith)
  root_beats (suc bound) zero low positive within = absurd (omega arith)
  root_beats (suc bound) (suc zero) low positive within = beats_itself _
  root_beats (suc bound) (suc (suc n)) low positive within =
      let h : ℕ = (halves (suc (suc n))).0 in
      elim (halves (suc (suc n))).1 [
        | inl even ↦
            subst (λ (m : ℕ). Beats (node_at nodes 1) (node_at nodes m)) (sym even)
            (beats_trans _ (node_at nodes h) _ (root_beats bound h (omega arith) (omega arith) (omega arith)) (parent_beats h (omega arith) (omega arith)).0)
        | inr odd ↦
            subst (λ (m : ℕ). Beats (node_at nodes 1) (node_at nodes m)) (sym odd)
            (beats_trans _ (node_at nodes h) _ (root_beats bound h (omega arith) (omega arith) (omega arith)) (parent_beats h (omega arith) (omega arith)).1)
      ]

  -- a candidate at a node is that of its slot
  pub from_slot : ((slot : ℕ) (c : Candidate) → node_at nodes (slots + slot) ≡ Some c → c.slot ≡ slot) → (left n : ℕ) (c : Candidate) → 0 < n → slots ≤ n + left → n < slots + slots →
      node_at nodes n ≡ Some c → (c.slot < slots) × (node_at nodes (slots + c.slot) ≡ Some c)
  from_slot places zero n c positive near within is = at_place nodes slots places n c (omega arith) within is
  from_slot places (suc left) n c positive near within is =
      elim (in_order n slots) [
        | inl inner ↦
            elim (winner_is_one (node_at nodes (n + n)) (node_at nodes (n + n + 1)) c (sym (above n positive inner) ∙ is)) [
              | inl one ↦ from_slot places left (n + n) c (omega arith) (omega arith) (omega arith) one
              | inr other ↦ from_slot places left (n + n + 1) c (omega arith) (omega arith) (omega arith) other
            ]
        | inr outer ↦ at_place nodes slots places n c outer within is
      ]

-- two lists agree at an index by any default, where they do by one
same_default : {X : Type 0} (xs ys : List (Option X)) (n : ℕ) (x : Option X) → n < length xs → n < length ys → get_or xs n None ≡ get_or ys n None → get_or xs n x ≡ get_or ys n x
same_default xs ys n x one other same = get_or_default xs n x None one ∙ same ∙ get_or_default ys n None x other

past_replicate : {X : Type 0} (n i : ℕ) → get_or {A = Option X} (replicate n None) i None ≡ None
past_replicate {X} n i =
    elim (in_order i n) [
      | inl within ↦ get_or-replicate n i None None within
      | inr past ↦ get_or_past (replicate n None) i None (omega (arith, length-replicate {A = Option X} n None))
    ]

past_long : {X : Type 0} (old : List (Option X)) (more i : ℕ) → length old ≤ i → get_or (old ++ replicate more None) i None ≡ None
past_long old more i past = get_or-append_right old (replicate more None) i None past ∙ past_replicate more (i - length old)

-- what stands behind a list is like nothing
lengthened : {X : Type 0} (old : List (Option X)) (more i : ℕ) → get_or (old ++ replicate more None) i None ≡ get_or old i None
lengthened old more i =
    elim (in_order i (length old)) [
      | inl within ↦ get_or_append_left old _ None i within
      | inr past ↦ past_long old more i past ∙ sym (get_or_past old i None past)
    ]

pub enlarged : (old long moved new : Nodes) (slots wanted : ℕ) → length old ≡ slots + slots → slots + slots ≤ wanted → long ≡ old ++ replicate (wanted + wanted - length old) None →
    IsMoved long moved slots wanted → SameFrom moved new wanted → IsEnlarged old new slots wanted
enlarged old long moved new slots wanted len more is shift kept =
    let long_len : length long ≡ length old + (wanted + wanted - length old) =
    ap length is ∙ length-append old _ ∙ ap (λ (n : ℕ). length old + n) (length-replicate (wanted + wanted - length old) None) in
    record {
      len = omega (arith, kept.len, shift.len);
      same = λ slot. kept.same (wanted + slot) (omega arith) ∙ elim (in_order slot slots) [
        | inl within ↦ shift.moved slot within ∙ rw is (get_or_append_left old _ None (slots + slot) (omega arith))
        | inr past ↦ shift.others (wanted + slot) (omega arith) ∙ rw is (past_long old _ (wanted + slot) (omega arith)) ∙ sym (get_or_past old (slots + slot) None (omega arith))
      ];
    }

abbrev key_in : Option Candidate → Option Bytes
key_in x = option_map (λ c. c.key) x

key_in-candidate : (k : Option Bytes) (slot : ℕ) → key_in (candidate_of k slot) ≡ k
key_in-candidate None slot = refl
key_in-candidate (Some k) slot = refl

candidate_slot : (k : Option Bytes) (slot : ℕ) (c : Candidate) → candidate_of k slot ≡ Some c → c.slot ≡ slot
candidate_slot None slot c e = absurd (cc)
candidate_slot (Some k) slot c e =
    let same : c ≡ record { key = k; slot = slot } = cc in
    ap (λ (x : Candidate). x.slot) same

offered_by : (x : Option Candidate) (k : Bytes) → key_in x ≡ Some k → (b : Candidate) × (x ≡ Some b) × (b.key ≡ k)
offered_by None k e = absurd (cc)
offered_by (Some b) k e = (b, refl, cc)

present_within : (nodes : Nodes) (n : ℕ) (c : Candidate) → node_at nodes n ≡ Some c → n < length nodes
present_within nodes n c is =
    elim (in_order n (length nodes)) [
      | inl within ↦ within
      | inr past ↦ let none : node_at nodes n ≡ None = get_or_past nodes n None past in absurd (cc)
    ]

module _ {A : Type 0} where
  -- what a slot offers is the key at its node
  offer_at_node : (d : Inside A) (slot : ℕ) → offer_at (offers_of d) slot ≡ key_in (node_at d.nodes.items (d.slots + slot))
  offer_at_node d slot =
      lengthened (map key_in (drop d.slots d.nodes.items)) (d.places - d.slots) slot
      ∙ get_or-map key_in (drop d.slots d.nodes.items) slot None ∙ ap key_in (get_or-drop d.slots d.nodes.items slot None)

  within_places : (d : Inside A) → IsPlayed d → d.slots ≤ d.places
  within_places d played = elim played.laid_out [ inl all ↦ omega (arith, all) | inr half ↦ omega (arith, half) ]

  -- where a place has no nodes, at most half of them have
  pub half_laid : (d : Inside A) → IsPlayed d → d.slots < d.places → d.slots + d.slots ≤ d.places
  half_laid d played less = elim played.laid_out [ inl all ↦ absurd (omega (arith, all, less)) | inr half ↦ half ]

  pub length-offers : (d : Inside A) → IsPlayed d → length (offers_of d) ≡ d.places
  length-offers d played =
      length-append (map key_in (drop d.slots d.nodes.items)) _
      ∙ omega (
        arith,
        length-map (drop d.slots d.nodes.items) key_in,
        length-drop d.slots d.nodes.items,
        length-replicate {A = Option Bytes} (d.places - d.slots) None,
        played.nodes,
        within_places d played,
      )

  pub least_some : (d : Inside A) → IsPlayed d → (best : Candidate) → node_at d.nodes.items 1 ≡ Some best → IsLeast (offer_at (offers_of d)) best.slot
  least_some d played best is =
      let nodes : Nodes = d.nodes.items in
      let within : 1 < length nodes = present_within nodes 1 best is in
      let own : (best.slot < d.slots) × (node_at nodes (d.slots + best.slot) ≡ Some best) =
      from_slot nodes d.slots played.won played.own d.slots 1 best (omega arith) (omega arith) (omega (arith, played.nodes)) is in
      record {
        key = best.key;
        offered = offer_at_node d best.slot ∙ ap key_in own.1;
        least = λ other k e.
            let there = offered_by (node_at nodes (d.slots + other)) k (sym (offer_at_node d other) ∙ e) in
            let inside : d.slots + other < length nodes = present_within nodes (d.slots + other) there.0 there.1 in
            let won = root_beats nodes d.slots played.won (d.slots + other + 1) (d.slots + other) (omega arith) (omega (arith, played.nodes)) (omega (arith, played.nodes)) there.0 there.1 in
            let same : won.0 ≡ best = cc in
            rw (← there.2, ← same) won.2;
      }

  pub least_none : (d : Inside A) → IsPlayed d → node_at d.nodes.items 1 ≡ None → (slot : ℕ) → offer_at (offers_of d) slot ≡ None
  least_none d played is slot =
      let nodes : Nodes = d.nodes.items in
      offer_at_node d slot ∙ none_wins nodes d.slots played slot is (node_at nodes (d.slots + slot)) refl
    where
      none_wins : (nodes : Nodes) (slots : ℕ) → IsPlayed d → (slot : ℕ) → node_at d.nodes.items 1 ≡ None → (x : Option Candidate) → node_at d.nodes.items (d.slots + slot) ≡ x → key_in
          (node_at d.nodes.items (d.slots + slot)) ≡ None
      none_wins nodes slots played slot is None e = ap key_in e
      none_wins nodes slots played slot is (Some b) e =
          let inside : d.slots + slot < length d.nodes.items = present_within d.nodes.items (d.slots + slot) b e in
          let won = root_beats d.nodes.items d.slots played.won (d.slots + slot + 1) (d.slots + slot) (omega arith) (omega (arith, played.nodes)) (omega (arith, played.nodes)) b e in
          absurd (cc)

  -- both offer the same, place by place
  same_offers : (d new : Inside A) → IsPlayed d → IsPlayed new → new.places ≡ d.places → ((slot : ℕ) → offer_at (offers_of new) slot ≡ offer_at (offers_of d) slot) → offers_of new ≡ offers_of d
  same_offers d new played again places same =
      same_lists _ _
      (length-offers new again ∙ places ∙ sym (length-offers d played))
      (λ n x inside. same_default (offers_of new) (offers_of d) n x inside (omega (arith, length-offers d played, length-offers new again, places)) (same n))

  -- a slot's own node has another candidate
  pub put_played : (d : Inside A) (new : Inside A) (slot : ℕ) (k : Option Bytes) → IsPlayed d → slot < d.slots → new.slots ≡ d.slots → new.places ≡ d.places →
      vec_capacity new.nodes ≡ vec_capacity d.nodes → IsPut d.nodes.items new.nodes.items d.slots slot (candidate_of k slot) → IsWonFrom new.nodes.items d.slots 1 → IsPlayed new
  put_played d new slot k played within slots places room put won =
      record {
        nodes = put.len ∙ played.nodes ∙ ap (λ (n : ℕ). n + n) (sym slots);
        own = λ other c. rw slots (λ is. elim (cases_eq other slot) [
          | inl same ↦ candidate_slot k slot c (sym put.put ∙ ap (λ (n : ℕ). node_at new.nodes.items (d.slots + n)) (sym same) ∙ is) ∙ sym same
          | inr differs ↦ played.own other c (sym (put.others (d.slots + other) (omega arith) (omega arith)) ∙ is)
        ]);
        won = rw slots won;
        laid_out = rw (slots, places) played.laid_out;
        room = rw (places, room) played.room;
      }

  pub put_offers : (d : Inside A) (new : Inside A) (slot : ℕ) (k : Option Bytes) → IsPlayed d → IsPlayed new → slot < d.slots → new.slots ≡ d.slots → new.places ≡ d.places →
      IsPut d.nodes.items new.nodes.items d.slots slot (candidate_of k slot) → offers_of new ≡ slice_set (offers_of d) slot k
  put_offers d new slot k played again within slots places put =
      same_lists _ _
      (length-offers new again ∙ places ∙ sym (length-set (offers_of d) slot k ∙ length-offers d played))
      (λ n x inside. same_default (offers_of new) (slice_set (offers_of d) slot k) n x inside (omega (arith, length-set (offers_of d) slot k, length-offers d played, length-offers new again, places))
      (offer_at_node new n ∙ ap (λ (m : ℕ). key_in (node_at new.nodes.items (m + n))) slots ∙ elim (cases_eq n slot) [
        | inl same ↦ rw same (ap key_in put.put ∙ key_in-candidate k slot ∙ sym (get_or-set_same (offers_of d) slot k None (omega (arith, length-offers d played, within_places d played))))
        | inr differs ↦ ap key_in (put.others (d.slots + n) (omega arith) (omega arith)) ∙ sym (offer_at_node d n) ∙ sym (get_or-set_other (offers_of d) slot n k None differs)
      ]))

  -- each place has its nodes from now on
  pub enlarged_played : (d new : Inside A) → IsPlayed d → IsEnlarged d.nodes.items new.nodes.items d.slots new.slots → IsWonFrom new.nodes.items new.slots 1 → new.slots ≡ new.places →
      new.places ≡ d.places → vec_capacity new.nodes ≡ vec_capacity d.nodes → IsPlayed new
  enlarged_played d new played more won all places room =
      record {
        nodes = more.len;
        own = λ slot c is. played.own slot c (sym (more.same slot) ∙ is);
        won = won;
        laid_out = inl all;
        room = rw (places, room) played.room;
      }

  pub enlarged_offers : (d new : Inside A) → IsPlayed d → IsPlayed new → IsEnlarged d.nodes.items new.nodes.items d.slots new.slots → new.places ≡ d.places → offers_of new ≡ offers_of d
  enlarged_offers d new played again more places =
      same_offers d new played again places (λ slot. offer_at_node new slot ∙ ap key_in (more.same slot) ∙ sym (offer_at_node d slot))

  -- a slot has a node of its own, and all offer what they did
  pub record HasNode (d new : Inside A) (slot : ℕ) : Type 0 where
    pub played : IsPlayed new
    pub offers : offers_of new ≡ offers_of d
    pub within : slot < new.slots

  pub all_laid_out : (d new : Inside A) (slot : ℕ) → IsPlayed d → IsEnlarged d.nodes.items new.nodes.items d.slots new.slots → IsWonFrom new.nodes.items new.slots 1 → new.slots ≡ new.places →
      new.places ≡ d.places → vec_capacity new.nodes ≡ vec_capacity d.nodes → slot < new.slots → HasNode d new slot
  all_laid_out d new slot played more won all places room within =
      let again = enlarged_played d new played more won all places room in
      record { played = again; offers = enlarged_offers d new played again more places; within = within }

  -- the same nodes
  pub roomy_offers : (d new : Inside A) → new.nodes.items ≡ d.nodes.items → new.slots ≡ d.slots → (slot : ℕ) → offer_at (offers_of new) slot ≡ offer_at (offers_of d) slot
  roomy_offers d new nodes slots slot = offer_at_node new slot ∙ rw (nodes, slots) (sym (offer_at_node d slot))

-- where no slot had a place, no key is offered: nothing wins anywhere
module _ (old new : Nodes) (slots wanted : ℕ) (none : slots ≤ 0) (len : length old ≡ slots + slots) (blank : new ≡ old ++ replicate (wanted + wanted - length old) None) where
  first : old ≡ []
  first = is_nil old (omega (arith, len, none))
    where
      is_nil : (l : Nodes) → length l ≡ 0 → l ≡ []
      is_nil [] e = refl
      is_nil (x ∷ l) e = let none : ⊥ = omega (arith, e) in absurd none

  all_blank : new ≡ replicate (wanted + wanted) None
  all_blank = blank ∙ ap (λ (l : Nodes). l ++ replicate (wanted + wanted - length l) None) first ∙ ap (λ n. replicate n None) (omega arith)

  nothing : (n : ℕ) → node_at new n ≡ None
  nothing n = ap (λ (l : Nodes). node_at l n) all_blank ∙ of_none (wanted + wanted) n
    where
      of_none : (count n : ℕ) → node_at (replicate count None) n ≡ None
      of_none zero n = refl
      of_none (suc count) zero = refl
      of_none (suc count) (suc n) = of_none count n

  pub first_places : IsEnlarged old new slots wanted
  first_places = record {
    len = ap length all_blank ∙ length-replicate (wanted + wanted) None;
    same = λ slot. nothing (wanted + slot) ∙ sym (ap (λ (l : Nodes). node_at l (slots + slot)) first);
  }

  pub nothing_wins : IsWonFrom new wanted 1
  unfolding match_at winner
  nothing_wins = record { won = λ n from within. nothing n ∙ sym (λ i. winner (nothing (n + n) i) (nothing (n + n + 1) i)) }
