-- What contracts see of a view and of its publisher.
use Rattle.std.specs.Prelude.{List, ◌++◌}
use Rattle.left_right.specs.Handles as handles
use Rattle.logbook.specs.Pages.{Book}
use Rattle.image.specs.Images.{Image}
use Rattle.view.specs.declared.histories.Opened.{Opened}
use Rattle.view.specs.declared.publishers.Publisher.{Publisher}

-- the name of the view that is opened of this history
abbrev pub name_of : {A : Type 0} → Opened A → Book
name_of opened = opened.seen.book

module _ {J R A S : Type 0} {h g : _} where
  -- the images that lookers read
  abbrev pub published : Publisher J R A S h g → List Image
  published p = handles.published p.writer

  -- the images that they don't read yet
  abbrev pub pending : Publisher J R A S h g → List Image
  pending p = handles.pending p.writer ++ p.waiting.items
