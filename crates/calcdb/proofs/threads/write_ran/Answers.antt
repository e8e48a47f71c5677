use Rattle.std.proofs.Common.{◌≡◌, inl, inr, ◌++◌, length, Ok, sym, ap, ◌∙◌}
use Rattle.procedure.specs.Bytes.{Bytes}
use Rattle.workers.specs.Checkpointed.{call_count}
use Rattle.calcdb.specs.ThreadRuns.{run_text}
use Rattle.calcdb.proofs.threads.write_ran.Goals as goal

pub returns : goal.returns
returns g c =
    let ran = c.args.ran.now in
    let begun = c.in-Err-write_out.ensures.err in
    let passed : c.audit_core-audited.result ≡ Ok tt = elim c.audit_core-audited.ensures [ inl is ↦ is | inr none ↦ (let yes = rw none at c.eq.ensures in let no = c.if-eq.false in absurd (cc)) ] in
    let calls : c.count_calls-answered.result ≡ call_count ran.core.log = c.count_calls-answered.ensures ∙ ap call_count c.records.ensures.value in
    let images : c.len-images.result ≡ length ran.images.items = c.len-images.ensures ∙ ran.images.ok.0 in
    let made : c.as_slice.result.now ≡ run_text c.args.count c.count_calls-answered.result c.len-images.result c.audit_core-audited.result =
    c.as_slice.ensures.value ∙ c.in-Ok.ensures ∙ ap (λ (l : Bytes). l ++ run_text c.args.count c.count_calls-answered.result c.len-images.result c.audit_core-audited.result) c.new-lines.ensures.items in
    let is : c.as_slice.result.now ≡ run_text c.args.count (call_count ran.core.log) (length ran.images.items) (Ok tt) =
    made ∙ ap (λ a. run_text c.args.count a c.len-images.result c.audit_core-audited.result) calls ∙ ap (λ i. run_text c.args.count (call_count ran.core.log) i c.audit_core-audited.result) images
    ∙ ap (run_text c.args.count (call_count ran.core.log) (length ran.images.items)) passed in
    (begun.0, begun.1, sym is ∙ begun.2, begun.3)
