use Rattle.std.proofs.Common.{◌≤◌, [], ◌∷◌, ◌++◌, length, subst, sym, ap, ◌∙◌}
use Rattle.std.specs.List.{flat_map}
use Rattle.procedure.specs.Procedures.{Procedure}
use Rattle.procedure.specs.CatalogBytes.{instruction_bytes, procedure_bytes}
use Rattle.procedure.specs.declared.limits.TheConstants.{INSTRUCTIONS}
use Rattle.procedure.proofs.Faults.{code_within, is_byte}
use Rattle.procedure.proofs.Passes.{written_then}
use Rattle.procedure.proofs.Results.{if_done}
use Rattle.procedure.proofs.digests.write_procedure.Goals as goal

pub overflow_cast-len : goal.overflow_cast-len
overflow_cast-len g c =
    let within = subst (λ (p : Procedure). length p.code ≤ INSTRUCTIONS) (sym c.procedure.view_is) (code_within c.args.procedure.now c.requires) in
    record { fits = is_byte c.len.result (subst (λ n. n ≤ INSTRUCTIONS) (sym c.len.ensures) within) }

pub returns : goal.returns
returns g c =
    let inside = c.procedure.inside in
    let out = c.args.out.now.items in
    let after = c.write_code.new.out.items in
    if_done (λ wrote.
    written_then out c.extend_from_slice.new.self.items after (inside.arity ∷ c.len.result ∷ []) (flat_map instruction_bytes c.as_slice.result.now) c.in_ok-extend_from_slice.ensures.items wrote
    ∙ ap (λ n. out ++ inside.arity ∷ n ∷ flat_map instruction_bytes c.as_slice.result.now) c.len.ensures
    ∙ ap (λ code. out ++ inside.arity ∷ length inside.code ∷ flat_map instruction_bytes code) c.as_slice.ensures
    ∙ ap (λ p. out ++ procedure_bytes p) c.procedure.view_is)
    c.write_code.result c.write_code.ensures
