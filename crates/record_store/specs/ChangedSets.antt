-- Sets of keys, and the two of changed keys: the collected ones and the frozen ones.
use Rattle.std.specs.Prelude.{◌≡◌, ℕ, ◌-◌, ◌<◌, Bool, false, List, [], ◌∷◌, refl}
use Rattle.std.specs.Coded.{Coded, code_by, coded×, coded_ℕ, coded_list}
use base.Stored.{coded_unit}
use Rattle.std.specs.FinMap as map
use Rattle.procedure.specs.Bytes.{Bytes}
use Rattle.procedure.specs.Table.{KeyMap}

-- keys in their byte order, with nothing kept for each
abbrev pub KeySet : Type 0
KeySet = KeyMap (Unit {0})

abbrev pub empty_set : KeySet
empty_set = map.empty

-- is the key in the set?
abbrev pub has : KeySet → Bytes → Bool
has s k = map.contains_key s k

abbrev pub with_member : KeySet → Bytes → KeySet
with_member s k = map.insert s k tt

abbrev pub with_members : KeySet → List Bytes → KeySet
with_members s [] = s
with_members s (k ∷ ks) = with_member (with_members s ks) k

-- the keys of a set, least first
abbrev pub keys_of : KeySet → List Bytes
keys_of s = map.keys s

-- the keys of either
abbrev pub union : KeySet → KeySet → KeySet
union s t = with_members s (keys_of t)

-- how many keys
abbrev pub count : KeySet → ℕ
count s = map.len s

-- places is how many keys can be collected in all before memory is taken
pub record ChangedSets : Type 0 where
  pub collecting : KeySet
  pub frozen : KeySet
  pub places : ℕ

-- how many more keys can be collected before memory is taken
abbrev pub room : ChangedSets → ℕ
room c = c.places - count c.collecting

-- there is room for the key, unless it is collected already
abbrev pub HasRoomFor : ChangedSets → Bytes → Type 0
HasRoomFor c k = has c.collecting k ≡ false → 0 < room c

abbrev pub key_set_code : Coded KeySet
key_set_code = map.code (coded_list coded_ℕ) coded_unit

abbrev pub changed_sets_code : Coded ChangedSets
changed_sets_code =
    code_by (KeySet × (KeySet × ℕ)) (coded× key_set_code (coded× key_set_code coded_ℕ)) (λ c. (c.collecting, (c.frozen, c.places))) (λ p. record { collecting = p.0; frozen = p.1.0; places = p.1.1 })
    (λ _. refl)
