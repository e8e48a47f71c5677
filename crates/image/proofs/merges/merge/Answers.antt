use Rattle.std.proofs.Common.{◌≤◌, ◌<◌, List, Bor, length, inl, sym, ap, subst, ◌∙◌}
use Rattle.image.specs.Images.{Entry}
use Rattle.image.specs.Joins.{lent, present}
use Rattle.image.specs.declared.limits.TheConstants.{ENTRIES}
use Rattle.image.proofs.Chains.{is_chain}
use Rattle.image.proofs.Merged.{is_lawful, is_merged, not_refused, too_many}
use Rattle.image.proofs.merges.merge.Goals as goal

pub returns-then-count_present-gt-ENTRIES-clause-refusal :
    goal.returns-then-count_present-gt-ENTRIES-clause-refusal
returns-then-count_present-gt-ENTRIES-clause-refusal g c =
    let all : List (Bor Entry) = c.in_ok-changes.changes.items in
    inl (too_many c.args.full.now c.args.partials.now (lent all) (present (lent all)) c.in_ok-changes.ensures (sym c.in_ok-check_chain.ensures)
    (subst (λ n. ENTRIES < n) (c.count_present.ensures ∙ ap (λ (l : List (Bor Entry)). length (present (lent l))) c.as_slice.ensures.value) c.if-count_present-gt-ENTRIES.true))

pub full_of-requires : goal.full_of-requires
full_of-requires g c =
    let all : List (Bor Entry) = c.in_ok-changes.changes.items in
    is_lawful c.args.full.now c.args.partials.now (lent all) c.in_ok-entries.entries.items c.in_ok-changes.ensures c.number.result c.place.result
    (c.in_ok-entries.ensures ∙ ap (λ (l : List (Bor Entry)). present (lent l)) c.as_slice-2.ensures.value)
    (subst (λ n. n ≤ ENTRIES) (c.count_present.ensures ∙ ap (λ (l : List (Bor Entry)). length (present (lent l))) c.as_slice.ensures.value) c.if-count_present-gt-ENTRIES.false)

pub returns-clause-value : goal.returns-clause-value
returns-clause-value g c =
    let all : List (Bor Entry) = c.in_ok-changes.changes.items in
    c.full_of.ensures
    ∙ is_merged c.args.full.now c.args.partials.now (lent all) c.in_ok-entries.entries.items c.in_ok-changes.ensures c.number.result c.place.result c.last_image-last.result.now
    (c.in_ok-entries.ensures ∙ ap (λ (l : List (Bor Entry)). present (lent l)) c.as_slice-2.ensures.value)
    c.number.ensures c.place.ensures c.last_image-last.ensures

pub returns-clause-chain : goal.returns-clause-chain
returns-clause-chain g c = is_chain c.args.full.now c.args.partials.now (sym c.in_ok-check_chain.ensures)

pub returns-clause-refusal : goal.returns-clause-refusal
returns-clause-refusal g c =
    let all : List (Bor Entry) = c.in_ok-changes.changes.items in
    not_refused c.args.full.now c.args.partials.now (lent all) (present (lent all)) c.in_ok-changes.ensures (sym c.in_ok-check_chain.ensures)
    (subst (λ n. n ≤ ENTRIES) (c.count_present.ensures ∙ ap (λ (l : List (Bor Entry)). length (present (lent l))) c.as_slice.ensures.value) c.if-count_present-gt-ENTRIES.false)
