use Rattle.std.proofs.Common.{rules, arith}
use Rattle.commitlog.proofs.Passing.{body_lawful, lawful_body}
use Rattle.commitlog.proofs.forms.is_body.Goals as goal

pub returns : goal.returns
returns c =
    let v = c.args.version in
    let text = c.args.bytes.now in (
      λ yes. lawful_body v text (λ i. omega (arith, c.type_inv.bytes i)) (c.check_body.ensures.0 (search rules)),
      λ b. let is = c.check_body.ensures.1 (body_lawful v text b) in search rules,
    )
