use Rattle.view.specs.Views.{name_of}
use Rattle.view.proofs.tests.most_lookers.Given as goal

-- the view that was just opened
abbrev pub ghosts-count_lookers : goal.ghosts-count_lookers
ghosts-count_lookers g a = record { book = name_of a.opened }
