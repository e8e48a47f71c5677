-- What a new opening has of the records of a store.
use Rattle.std.specs.Prelude.{Option, Some, None}
use Rattle.std.specs.Option.{option_map}
use Rattle.image.specs.Images.{Entry}
use Rattle.record_store.specs.Stores.{StoreRecord}

-- of a slot's record: its key with its value, where it isn't dead
abbrev pub live_entry : Option StoreRecord → Option Entry
live_entry None = None
live_entry (Some r) = option_map (λ b. (r.key, Some b)) r.live
