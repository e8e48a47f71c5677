use Rattle.view.specs.Views.{name_of}
use Rattle.view.proofs.tests.lookers_beside_a_publisher.Given as goal

-- the view that was just opened
abbrev pub ghosts-watch_beside : goal.ghosts-watch_beside
ghosts-watch_beside g a = record { book = name_of a.opened }
