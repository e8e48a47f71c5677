use Rattle.workers.proofs.run_tests.run_out_after.Given as goal

-- the procedures and the opening are those of the core
abbrev pub ghosts-run_out-L-Origin : goal.ghosts-run_out-L-Origin
ghosts-run_out-L-Origin g a = record { catalog = a.core.catalog; opening = a.core.opening }

-- the ledger is that of the blank
abbrev pub ghosts-run_out-L-Ledger : goal.ghosts-run_out-L-Ledger
ghosts-run_out-L-Ledger g a = record { name = a.blank.name; parts = a.blank.parts }
