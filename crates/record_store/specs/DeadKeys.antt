-- The keys that dead records offer for reclaim, slot by slot, and which of them is the least.
use Rattle.std.specs.Prelude.{◌≡◌, ℕ, ◌+◌, ◌-◌, ◌<◌, ◌≤◌, ◌≢◌, ◌⊎◌, Bool, false, if◌then◌else◌, List, ◌++◌, map, length, drop, replicate, Option, Some, None, slice_index_or, vec_capacity}
use Rattle.std.specs.Option.{option_map}
use Rattle.std.specs.Ordering.{nat_cmp, is_lt}
use Rattle.std.specs.Cmp.Lexicographic.{slice_cmp}
use Rattle.procedure.specs.Bytes.{Bytes}
use Rattle.record_store.specs.declared.dead_keys.Candidate.{Candidate}
use Rattle.record_store.specs.declared.dead_keys.DeadKeys.TheInside.{Inside}

-- does x come before y in byte order?
abbrev pub precedes : Bytes → Bytes → Bool
precedes x y = is_lt (slice_cmp nat_cmp x y)

-- the key that a slot offers
abbrev pub offer_at : List (Option Bytes) → ℕ → Option Bytes
offer_at offers slot = slice_index_or offers slot None

-- of the keys that slots offer, that of this slot is the least
pub record IsLeast (offer : ℕ → Option Bytes) (slot : ℕ) : Type 0 where
  pub key : Bytes
  pub offered : offer slot ≡ Some key
  pub least : (other : ℕ) (k : Bytes) → offer other ≡ Some k → precedes k key ≡ false

-- where both are keys, they are the same
abbrev pub SameKey : Option Bytes → Option Bytes → Type 0
SameKey x y = (k l : Bytes) → x ≡ Some k → y ≡ Some l → l ≡ k

-- each slot offers what it did
pub record SameOffers (old new : List (Option Bytes)) : Type 0 where
  pub same : (slot : ℕ) → offer_at new slot ≡ offer_at old slot

-- the one of two that has the lesser key
unfoldable pub winner : Option Candidate → Option Candidate → Option Candidate
winner None y = y
winner (Some x) None = Some x
winner (Some x) (Some y) = if precedes y.key x.key then Some y else Some x

-- a slot with the key that it offers
abbrev pub candidate_of : Option Bytes → ℕ → Option Candidate
candidate_of None slot = None
candidate_of (Some k) slot = Some (record { key = k; slot = slot })

abbrev pub Nodes : Type 0
Nodes = List (Option Candidate)

abbrev pub node_at : Nodes → ℕ → Option Candidate
node_at nodes n = slice_index_or nodes n None

-- what wins at a node, by the two nodes below it
unfoldable pub match_at : Nodes → ℕ → Option Candidate
match_at nodes n = winner (node_at nodes (n + n)) (node_at nodes (n + n + 1))

-- each inner node is the winner of the two below it, but perhaps the one above this node
pub record IsWonBut (nodes : Nodes) (slots at : ℕ) : Type 0 where
  pub won : (n : ℕ) → 0 < n → n < slots → n + n ≢ at → n + n + 1 ≢ at → node_at nodes n ≡ match_at nodes n

-- each inner node from this one on is the winner of the two below it
pub record IsWonFrom (nodes : Nodes) (slots from : ℕ) : Type 0 where
  pub won : (n : ℕ) → from < n + 1 → n < slots → node_at nodes n ≡ match_at nodes n

-- the nodes from this one on are the same
pub record SameFrom (old new : Nodes) (from : ℕ) : Type 0 where
  pub len : length new ≡ length old
  pub same : (n : ℕ) → from < n + 1 → node_at new n ≡ node_at old n

-- the places behind one node are those that stood behind another
pub record IsMoved (old new : Nodes) (from to : ℕ) : Type 0 where
  pub len : length new ≡ length old
  pub moved : (slot : ℕ) → slot < from → node_at new (to + slot) ≡ node_at old (from + slot)
  pub others : (n : ℕ) → to + from ≤ n → node_at new n ≡ node_at old n

-- the slot's own node has this, and the other slots' nodes are the same
pub record IsPut (old new : Nodes) (slots slot : ℕ) (x : Option Candidate) : Type 0 where
  pub len : length new ≡ length old
  pub put : node_at new (slots + slot) ≡ x
  pub others : (n : ℕ) → slots ≤ n → n ≢ slots + slot → node_at new n ≡ node_at old n

-- the slots' nodes were moved, and the inner nodes are others
pub record Refills (old new : Nodes) (slots wanted : ℕ) : Type 0 where
  pub moved : Nodes
  pub move : IsMoved old moved slots wanted
  pub same : SameFrom moved new wanted

-- the slots have the nodes that they had, behind another inner half
pub record IsEnlarged (old new : Nodes) (slots wanted : ℕ) : Type 0 where
  pub len : length new ≡ wanted + wanted
  pub same : (slot : ℕ) → node_at new (wanted + slot) ≡ node_at old (slots + slot)

-- the last half of the nodes are the slots' own, and a place without nodes offers nothing
abbrev pub offers_of : {A : Type 0} → Inside A → List (Option Bytes)
offers_of d = map (option_map (λ c. c.key)) (drop d.slots d.nodes.items) ++ replicate (d.places - d.slots) None

-- each place has its nodes, or at most half of them have, and there is memory for the nodes of all
pub record IsPlayed {A : Type 0} (d : Inside A) : Type 0 where
  pub nodes : length d.nodes.items ≡ d.slots + d.slots
  pub own : (slot : ℕ) (c : Candidate) → node_at d.nodes.items (d.slots + slot) ≡ Some c → c.slot ≡ slot
  pub won : IsWonFrom d.nodes.items d.slots 1
  pub laid_out : (d.slots ≡ d.places) ⊎ (d.slots + d.slots ≤ d.places)
  pub room : d.places + d.places ≤ vec_capacity d.nodes
