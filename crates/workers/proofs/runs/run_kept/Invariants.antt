use Rattle.std.specs.Prelude.{Some}
use Rattle.workers.proofs.runs.run_kept.Given as goal

-- the procedures and the opening are those of the core
abbrev pub ghosts-run_in-L-Origin : goal.ghosts-run_in-L-Origin
ghosts-run_in-L-Origin g a = record { catalog = a.core.catalog; opening = a.core.opening }

-- the ledger is that of the blank
abbrev pub ghosts-run_in-L-Ledger : goal.ghosts-run_in-L-Ledger
ghosts-run_in-L-Ledger g a = record { name = a.blank.name; parts = a.blank.parts }

-- the keeper begins as it is
abbrev pub ghosts-run_in-L-Beginning : goal.ghosts-run_in-L-Beginning
ghosts-run_in-L-Beginning g a = record { begun = Some a.keeper }
