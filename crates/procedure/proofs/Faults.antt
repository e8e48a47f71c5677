-- Each procedure of a catalog without a fault is lawful.
use Rattle.std.proofs.Common.{◌≡◌, ℕ, zero, suc, List, [], ◌∷◌, Option, Some, None, refl, ap, ◌∙◌, slice_get, option_copied, IfSome, Bor, length, ◌<◌, ◌≤◌, nat_le, arith}
use Rattle.std.proofs.lemmas.Bool.{leb-false}
use Rattle.procedure.specs.declared.limits.TheConstants.{INSTRUCTIONS, PROCEDURES}
use Rattle.procedure.specs.declared.catalogs.CatalogError.{CatalogError}
use Rattle.procedure.specs.declared.catalogs.CatalogError.TheVariants.{TooLong, TooMany}
use Rattle.procedure.specs.Procedures.{Procedure}
use Rattle.procedure.specs.Catalogs.{Fault, fault_unless, then_fault, first_fault, procedure_fault, catalog_fault, IsLawful}

pub neither : (f g : Fault) → then_fault f g ≡ None → (f ≡ None) × (g ≡ None)
neither None g e = (refl, e)
neither (Some x) g e = absurd cc

pub no_first_fault : {X : Type 0} (f : X → Fault) (xs : List X) (i : ℕ) (x : X) → first_fault f xs ≡ None → Some x ≡ slice_get xs i → f x ≡ None
no_first_fault f [] i x e at = absurd cc
no_first_fault f (y ∷ ys) zero x e at =
    let same : x ≡ y = cc in
    ap f same ∙ (neither (f y) (first_fault f ys) e).0
no_first_fault f (y ∷ ys) (suc i) x e at = no_first_fault f ys i x (neither (f y) (first_fault f ys) e).1 at

pub lawful_at : (ps : List Procedure) (i : ℕ) (o : Option (Bor Procedure)) → catalog_fault ps ≡ None → option_copied o ≡ slice_get ps i → IfSome o (λ p. IsLawful p.now)
lawful_at ps i None e at = tt
lawful_at ps i (Some p) e at =
    record { no_fault = no_first_fault procedure_fault ps i p.now (neither _ (first_fault procedure_fault ps) e).1 at }

-- a lawful procedure has at most 64 instructions, and a catalog at most 64 procedures
pub at_most : (a b : ℕ) (e : CatalogError) → fault_unless (nat_le a b) e ≡ None → a ≤ b
at_most a b e h = grind (arith, leb-false)

pub is_byte : (n : ℕ) → n ≤ 64 → n < 256
is_byte n within = omega arith

pub code_within : (p : Procedure) → procedure_fault p ≡ None → length p.code ≤ INSTRUCTIONS
unfolding procedure_fault
code_within p h = at_most _ _ TooLong (neither _ _ h).0

pub procedures_within : (ps : List Procedure) → catalog_fault ps ≡ None → length ps ≤ PROCEDURES
procedures_within ps h = at_most _ _ TooMany (neither _ _ h).0

pub procedures_lawful : (ps : List Procedure) → catalog_fault ps ≡ None → first_fault procedure_fault ps ≡ None
procedures_lawful ps h = (neither _ _ h).1
