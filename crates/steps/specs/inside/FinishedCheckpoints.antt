-- What a checkpoint becomes as it is finished.
use Rattle.std.specs.Prelude.{◌≡◌, Some}
use Rattle.image.specs.Headers.{of_captured}
use Rattle.image.specs.Images.{Image}
use Rattle.image.specs.declared.headers.Header.{Header}
use Rattle.steps.specs.machine.Machine.{base_at}
use Rattle.steps.specs.declared.checkpoints.Checkpoint.{Checkpoint}
use Rattle.steps.specs.declared.checkpoints.Way.TheVariants.{Streamed, Whole}

module _ {A : Type 0} where
  -- the image of what its scan captured
  abbrev pub finished_image : Checkpoint A → Image
  finished_image k = of_captured k.kind k.number (base_at k.kind k.number k.finished) k.place k.captured.items

  -- the header of what its scan sent
  abbrev pub finished_header : Checkpoint A → Header
  finished_header k = record {
    kind = k.kind;
    number = k.number;
    base = base_at k.kind k.number k.finished;
    place = k.place;
    count = k.tally.count;
    chain = k.tally.chain;
  }

  -- it is the last one that was finished, and its image waits, or its header
  pub record Finishes (k new : Checkpoint A) : Type 0 where
    pub whole : k.way ≡ Whole → new ≡ record k { finished = k.number; captured = new.captured; waiting = Some (finished_image k) }
    pub streamed : k.way ≡ Streamed → new ≡ record k { finished = k.number; header = Some (finished_header k) }
