use Rattle.std.specs.Prelude.{Some}
use Rattle.view.specs.Views.{name_of}
use Rattle.calcdb.proofs.threads.run_begun.Given as goal

-- the view that was just opened
abbrev pub ghosts-run_in_view-J-Naming : goal.ghosts-run_in_view-J-Naming
ghosts-run_in_view-J-Naming g a = record { book = name_of a.opened }

-- the core that was just opened
abbrev pub ghosts-run_in_view-J-Origin : goal.ghosts-run_in_view-J-Origin
ghosts-run_in_view-J-Origin g a = record { catalog = a.core.catalog; opening = a.core.opening }

-- the keeper begins as it is
abbrev pub ghosts-run_in_view-J-Beginning : goal.ghosts-run_in_view-J-Beginning
ghosts-run_in_view-J-Beginning g a = record { begun = Some a.keeper }
