use Rattle.workers.proofs.streamed_runs.run_streamed.Given as goal

-- the procedures and the opening are those of the core
abbrev pub ghosts-stream_in-L-Origin : goal.ghosts-stream_in-L-Origin
ghosts-stream_in-L-Origin g a = record { catalog = a.core.catalog; opening = a.core.opening }

-- the ledger is that of the blank
abbrev pub ghosts-stream_in-L-Ledger : goal.ghosts-stream_in-L-Ledger
ghosts-stream_in-L-Ledger g a = record { name = a.blank.name; parts = a.blank.parts }
