use Rattle.std.proofs.Common.{◌≤◌, ◌<◌, inl, subst, sym, ap, ◌∙◌}
use Rattle.std.specs.FinMap as finite
use Rattle.std.specs.Prelude.{nat_le}
use Rattle.image.specs.Merges.{unless}
use Rattle.image.specs.Mergers.{Chain}
use Rattle.image.specs.declared.limits.TheConstants.{ENTRIES}
use Rattle.image.specs.declared.merges.MergeError.TheVariants.{TooMany}
use Rattle.image.proofs.Pushes.{is_lawful, not_refused, too_many}
use Rattle.image.proofs.mergers.full_image_of.Goals as goal

pub returns-then-len-gt-ENTRIES-clause-refusal : goal.returns-then-len-gt-ENTRIES-clause-refusal
returns-then-len-gt-ENTRIES-clause-refusal g c =
    inl (ap (λ (d : Chain). unless (nat_le (finite.len d.table) ENTRIES) TooMany) (sym c.chain.view_is)
    ∙ too_many c.chain.inside.table c.in_ok-entries.entries.items c.in_ok-entries.ensures
    (subst (λ n. ENTRIES < n) (c.len.ensures ∙ c.in_ok-entries.entries.ok.0) c.if-len-gt-ENTRIES.true))

pub full_of-requires : goal.full_of-requires
full_of-requires g c =
    is_lawful c.chain.inside.table c.in_ok-entries.entries.items c.in_ok-entries.ensures _ _
    (subst (λ n. n ≤ ENTRIES) (c.len.ensures ∙ c.in_ok-entries.entries.ok.0) c.if-len-gt-ENTRIES.false)

pub returns-clause-refusal : goal.returns-clause-refusal
returns-clause-refusal g c =
    ap (λ (d : Chain). unless (nat_le (finite.len d.table) ENTRIES) TooMany) (sym c.chain.view_is)
    ∙ not_refused c.chain.inside.table c.in_ok-entries.entries.items c.in_ok-entries.ensures
    (subst (λ n. n ≤ ENTRIES) (c.len.ensures ∙ c.in_ok-entries.entries.ok.0) c.if-len-gt-ENTRIES.false)
