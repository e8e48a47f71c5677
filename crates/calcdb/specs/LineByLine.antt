-- A text that is read line by line, up to the first line that is faulty.
use Rattle.std.specs.Prelude.{◌≡◌, ◌⊎◌, ℕ, ◌+◌, List, [], ◌∷◌, length, Option, Some, None, Result, Ok, Err}
use Rattle.procedure.specs.Bytes.{Bytes}
use Rattle.calcdb.specs.declared.scripts.ScriptFault.{ScriptFault}
use Rattle.calcdb.specs.declared.scripts.ScriptFault.TheVariants.{Line, NoMemory}

-- what is read after these lines, which are numbered from n on, or the first of them that is faulty
unfoldable pub after_lines : {S : Type 0} → (S → Bytes → Option S) → S → ℕ → List Bytes → Result S ScriptFault
after_lines after s n [] = Ok s
after_lines after s n (l ∷ ls) = elim (after s l) [ None ↦ Err (Line n) | Some t ↦ after_lines after t (n + 1) ls ]

-- what is answered is what is said, want of memory apart
abbrev pub TellsScript : {X Y : Type 0} → (X → Y) → Result X ScriptFault → Result Y ScriptFault → Type 0
TellsScript view (Ok x) says = says ≡ Ok (view x)
TellsScript view (Err e) says = (e ≡ NoMemory) ⊎ (says ≡ Err e)

-- how much is left
abbrev pub size : Option Bytes → ℕ
size None = 0
size (Some t) = length t + 1
