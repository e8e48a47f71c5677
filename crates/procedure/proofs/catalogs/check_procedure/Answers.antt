use Rattle.std.proofs.Common.{◌≡◌, ◌<◌, ◌≤◌, length, Some, refl, subst, ap, ◌∙◌}
use Rattle.std.proofs.lemmas.Bool.{le-leb, lt-leb}
use Rattle.procedure.specs.Procedures.{Procedure}
use Rattle.procedure.specs.Catalogs.{first_fault, instruction_fault, procedure_fault}
use Rattle.procedure.specs.declared.limits.TheConstants.{INSTRUCTIONS, ARGUMENTS}
use Rattle.procedure.specs.declared.catalogs.CatalogError.TheVariants.{TooLong, BadArgument}
use Rattle.procedure.proofs.catalogs.check_procedure.Goals as goal

module _ (p : Procedure) where
  too_long : INSTRUCTIONS < length p.code → Some TooLong ≡ procedure_fault p
  unfolding procedure_fault
  too_long long = rw (lt-leb (length p.code) INSTRUCTIONS long) refl

  bad_arity : length p.code ≤ INSTRUCTIONS → ARGUMENTS < p.arity → Some BadArgument ≡ procedure_fault p
  unfolding procedure_fault
  bad_arity short many = rw (le-leb (length p.code) INSTRUCTIONS short, lt-leb p.arity ARGUMENTS many) refl

  fault_of_code : length p.code ≤ INSTRUCTIONS → p.arity ≤ ARGUMENTS → first_fault (instruction_fault p.arity) p.code ≡ procedure_fault p
  unfolding procedure_fault
  fault_of_code short few = rw (le-leb (length p.code) INSTRUCTIONS short, le-leb p.arity ARGUMENTS few) refl

pub returns-then-len-gt-INSTRUCTIONS : goal.returns-then-len-gt-INSTRUCTIONS
returns-then-len-gt-INSTRUCTIONS g c =
    let inside = c.procedure.inside in
    too_long (record { arity = inside.arity; code = inside.code }) (subst (λ n. INSTRUCTIONS < n) c.len.ensures c.if-len-gt-INSTRUCTIONS.true)
    ∙ ap procedure_fault c.procedure.view_is

pub returns-then-procedure-gt-ARGUMENTS : goal.returns-then-procedure-gt-ARGUMENTS
returns-then-procedure-gt-ARGUMENTS g c =
    let inside = c.procedure.inside in
    bad_arity (record { arity = inside.arity; code = inside.code }) (subst (λ n. n ≤ INSTRUCTIONS) c.len.ensures c.if-len-gt-INSTRUCTIONS.false) c.if-procedure-gt-ARGUMENTS.true
    ∙ ap procedure_fault c.procedure.view_is

pub returns : goal.returns
returns g c =
    let inside = c.procedure.inside in
    c.check_code.ensures
    ∙ ap (first_fault (instruction_fault inside.arity)) c.as_slice.ensures
    ∙ fault_of_code (record { arity = inside.arity; code = inside.code }) (subst (λ n. n ≤ INSTRUCTIONS) c.len.ensures c.if-len-gt-INSTRUCTIONS.false) c.if-procedure-gt-ARGUMENTS.false
    ∙ ap procedure_fault c.procedure.view_is
