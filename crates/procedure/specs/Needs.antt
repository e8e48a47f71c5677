-- What an instruction asks for, before it is carried out.
use Rattle.std.specs.Prelude.{ℕ, Bool, true, false, Option, Some, None, option_map}
use Rattle.procedure.specs.Bytes.{Bytes, Cell}
pub use Rattle.procedure.specs.declared.needs.Update.{Update}
use Rattle.procedure.specs.declared.needs.Update.TheVariants.{Put, Insert, Delete}
pub use Rattle.procedure.specs.declared.needs.Need.{Need}
use Rattle.procedure.specs.declared.needs.Need.TheVariants.{Read, Write, Own, Ended}
use Rattle.procedure.specs.declared.needs.Access.{Access}
use Rattle.procedure.specs.declared.needs.Access.TheVariants as access

abbrev pub to_put : Bytes → Update Bytes
to_put v = Put v

abbrev pub to_insert : Bytes → Update Bytes
to_insert v = Insert v

abbrev pub to_delete : Update Bytes
to_delete = Delete

abbrev pub no_need : Need Bytes
no_need = Own

abbrev pub ended_with : ℕ → Need Bytes
ended_with c = Ended c

-- to see a key; no key is touched where the operand gives none
abbrev pub read_of : Option Bytes → Need Bytes
read_of None = Own
read_of (Some k) = Read k

-- to update a key; none is touched where the operands give no key or no value
abbrev pub write_of : Option Bytes → Option (Update Bytes) → Need Bytes
write_of None u = Own
write_of (Some k) None = Own
write_of (Some k) (Some u) = Write k u

-- what the key becomes; an update that finds what it must not changes nothing
abbrev pub updated : Update Bytes → Cell → Option Cell
updated (Put v) found = Some (Some v)
updated (Insert v) None = Some (Some v)
updated (Insert v) (Some w) = None
updated Delete None = None
updated Delete (Some w) = Some None

-- what the key of a need becomes
abbrev pub becomes_of : Need Bytes → Cell → Option Cell
becomes_of (Read k) found = None
becomes_of (Write k u) found = updated u found
becomes_of Own found = None
becomes_of (Ended c) found = None

-- the key that a need changes, and what it becomes
abbrev pub change_of : Need Bytes → Cell → Option (Bytes × Cell)
change_of (Read k) found = None
change_of (Write k u) found = option_map (λ x. (k, x)) (updated u found)
change_of Own found = None
change_of (Ended c) found = None

-- the one key that is touched, and how
pub data Touch : Type 0 where
  Nothing : Touch
  Reads : Bytes → Touch
  Writes : Bytes → Touch

abbrev pub touch_of : Need Bytes → Touch
touch_of (Read k) = Reads k
touch_of (Write k u) = Writes k
touch_of Own = Nothing
touch_of (Ended c) = Nothing

-- which key a need touches, and how; or how the call ended
abbrev pub accessed : Need Bytes → Access
accessed (Read k) = access.Reads k
accessed (Write k u) = access.Writes k
accessed Own = access.Nothing
accessed (Ended c) = access.Ended c

-- an update touches its key where operands give the key and the value
abbrev pub write_access : Option Bytes → Bool → Access
write_access None b = access.Nothing
write_access (Some k) false = access.Nothing
write_access (Some k) true = access.Writes k

-- where an instruction that is carried out copies a value: it reads
abbrev pub CopiesValue : Need Bytes → Type 0
CopiesValue (Read k) = Unit {0}
CopiesValue (Write k u) = ⊥
CopiesValue Own = ⊥
CopiesValue (Ended c) = ⊥

-- where a need carries a value
abbrev pub HasValue : Need Bytes → Type 0
HasValue (Read k) = ⊥
HasValue (Write k (Put v)) = Unit {0}
HasValue (Write k (Insert v)) = Unit {0}
HasValue (Write k Delete) = ⊥
HasValue Own = ⊥
HasValue (Ended c) = ⊥
