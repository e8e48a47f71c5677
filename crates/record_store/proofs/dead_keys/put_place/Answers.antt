use Rattle.std.proofs.Common.{◌+◌, refl, arith}
use Rattle.record_store.proofs.Tournaments.{place_changed}
use Rattle.record_store.proofs.dead_keys.put_place.Goals as goal

pub replay-requires-clause-won : goal.replay-requires-clause-won
replay-requires-clause-won c =
    place_changed c.args.nodes.now _ c.args.slots (c.args.slots + c.args.slot) c.place_of.result (omega arith) refl c.requires.won
