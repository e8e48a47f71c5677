use Rattle.std.proofs.Common.{◌≤◌, ℕ, None, ◌∙◌, arith}
use Rattle.steps.proofs.calls.call_of.Goals as goal

no_more : (n : ℕ) → n ≤ n
no_more n = omega arith

pub returns-in-Some : goal.returns-in-Some
returns-in-Some g c = c.as_ref.ensures.value ∙ c.in-Some.ensures.lookup.4 (no_more c.args.session) None

pub returns-in-None : goal.returns-in-None
returns-in-None g c = c.in-None.ensures.lookup.4 (no_more c.args.session) None
