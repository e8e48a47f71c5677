-- Faults of lists that grow at their end.
use Rattle.std.proofs.Common.{◌≡◌, ◌<◌, ◌≤◌, ◌+◌, List, [], ◌∷◌, ◌++◌, length, Some, None, refl, ap, ◌∙◌}
use borrow.Author.Tests.{le-leb, lt-ltb}
use Rattle.std.proofs.lemmas.List.{length-append}
use Rattle.procedure.specs.Catalogs.{Fault, first_fault, instruction_fault, procedure_fault, then_fault}
use Rattle.procedure.specs.Bytes.{Bytes}
use Rattle.procedure.specs.Procedures.{Instruction, Procedure}
use Rattle.procedure.specs.declared.limits.TheConstants.{ARGUMENTS, INSTRUCTIONS}
use Rattle.calcdb.specs.Instructions.{instruction_of}
use Rattle.calcdb.specs.Preambles.{Block, longer_block, with_instruction}

then_none : (f g : Fault) → then_fault f g ≡ None → (f ≡ None) × (g ≡ None)
then_none None g h = (refl, h)
then_none (Some f) g h = absurd (cc)

-- one more without a fault
pub one_more : {X : Type 0} (f : X → Fault) (xs : List X) (x : X) → first_fault f xs ≡ None → f x ≡ None → first_fault f (xs ++ x ∷ []) ≡ None
one_more f [] x h is = rw is refl
one_more f (y ∷ ys) x h is =
    let parts = then_none (f y) (first_fault f ys) h in
    rw (parts.0, one_more f ys x parts.1 is) refl

-- the procedure of a lawful block has no fault
pub lawful_procedure : (p : Procedure) → p.arity ≤ ARGUMENTS → length p.code ≤ INSTRUCTIONS → first_fault (instruction_fault p.arity) p.code ≡ None → procedure_fault p ≡ None
unfolding procedure_fault
lawful_procedure p few short code = rw (le-leb (length p.code) INSTRUCTIONS short, le-leb p.arity ARGUMENTS few, code) refl

pub longer : (b : Block) (ws : List Bytes) (i : Instruction) → length b.code < INSTRUCTIONS → instruction_of b.arity ws ≡ Some i → longer_block b ws ≡ Some (with_instruction b i)
unfolding longer_block
longer b ws i lt is = rw (lt-ltb (length b.code) INSTRUCTIONS lt, is) refl

pub one_longer : {X : Type 0} (xs ys : List X) (x : X) → ys ≡ xs ++ x ∷ [] → length ys ≡ length xs + 1
one_longer xs ys x is = ap (λ l. length l) is ∙ length-append xs (x ∷ [])
