-- What contracts see of the ends of a ring.
use Rattle.std.specs.Prelude.{◌≡◌, ℕ, List, [], ◌∷◌, ◌++◌}
use mathlib.Core.List.{IsPrefix}
use Rattle.rtrb.specs.Ring as ring
use Rattle.rtrb.specs.Ends.{SameRing}
use Rattle.image.specs.Images.{Entry}
use Rattle.pipe.specs.declared.taps.Tap.{Tap}
use Rattle.pipe.specs.declared.taps.End.{End}
use Rattle.pipe.specs.declared.drains.Drain.{Drain}

module _ {A : Type 0} where
  -- the entries that a tap has sent, in order
  abbrev pub sent : Tap A → List Entry
  sent tap = ring.sent tap.producer

  -- the entries that a drain has taken, in order
  abbrev pub taken : Drain A → List Entry
  taken drain = ring.received drain.consumer

  -- the entries that were ever sent, in order
  abbrev pub all_sent : End A → List Entry
  all_sent end = ring.all_sent end.finished

  -- how many more entries a tap knows to fit into the ring
  abbrev pub room : Tap A → ℕ
  room tap = ring.known_free tap.producer

  -- the entries that a drain knows to be in the ring, in order: the next that it takes
  abbrev pub waiting : Drain A → List Entry
  waiting drain = ring.known_items drain.consumer

  -- both ends of one ring
  abbrev pub IsPair : Tap A → Drain A → Type 0
  IsPair tap drain = ring.IsPair tap.producer drain.consumer

  -- of one ring, before and after
  abbrev pub SameTap : Tap A → Tap A → Type 0
  SameTap before after = ring.SameProducer before.producer after.producer

  abbrev pub SameDrain : Drain A → Drain A → Type 0
  SameDrain before after = ring.SameConsumer before.consumer after.consumer

  -- what is left of a tap of the same ring, or of the tap of a drain's ring
  abbrev pub IsEndOfTap : End A → Tap A → Type 0
  IsEndOfTap end tap = SameRing tap.producer.end end.finished.end

  abbrev pub IsEndOf : End A → Drain A → Type 0
  IsEndOf end drain = ring.IsFinishedOf end.finished drain.consumer

  -- the drain takes this entry, the first of those that it knew to be in the ring, if it knew any
  abbrev pub Takes : Drain A → Entry → Drain A → Type 0
  Takes before entry after = (taken after ≡ taken before ++ entry ∷ []) × IsPrefix (waiting before) (entry ∷ waiting after)

  -- the drain takes nothing, and knows of no entry in the ring
  abbrev pub TakesNothing : Drain A → Drain A → Type 0
  TakesNothing before after = (taken after ≡ taken before) × (waiting after ≡ [])
