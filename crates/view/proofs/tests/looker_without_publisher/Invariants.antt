use Rattle.view.specs.Views.{name_of}
use Rattle.view.proofs.tests.looker_without_publisher.Given as goal

-- the view that was just opened
abbrev pub ghosts-look_after : goal.ghosts-look_after
ghosts-look_after g a = record { book = name_of a.opened }
