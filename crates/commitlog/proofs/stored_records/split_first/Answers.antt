use Rattle.std.proofs.Common.{rules, ◌≡◌, ℕ, ◌+◌, drop, ap, ◌∙◌}
use Rattle.commitlog.specs.LogReadings.{stated_length}
use Rattle.commitlog.proofs.Wholes.{behind_all}
use Rattle.commitlog.proofs.stored_records.split_first.Goals as goal

pub returns-clause-rest : goal.returns-clause-rest
returns-clause-rest c =
    let bytes = c.args.bytes.now in
    let stated = c.read_u32-stated.result in
    let is : stated ≡ stated_length bytes = search rules in
    c.split_at-3.ensures.back ∙ ap (drop 32) (c.split_at-2.ensures.back ∙ ap (drop stated) c.split_at.ensures.back) ∙ behind_all stated bytes ∙ ap (λ (n : ℕ). drop (4 + n + 32) bytes) is
