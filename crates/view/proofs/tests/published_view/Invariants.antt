use Rattle.view.specs.Views.{name_of}
use Rattle.view.proofs.tests.published_view.Given as goal

-- the view that was just opened
abbrev pub ghosts-count_right : goal.ghosts-count_right
ghosts-count_right g a = record { book = name_of a.opened }
