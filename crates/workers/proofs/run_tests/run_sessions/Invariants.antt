use Rattle.view.specs.Views.{name_of}
use Rattle.workers.proofs.run_tests.run_sessions.Given as goal

-- the view that is opened
abbrev pub ghosts-run_in_view : goal.ghosts-run_in_view
ghosts-run_in_view g a = record { book = name_of a.opened_view }
