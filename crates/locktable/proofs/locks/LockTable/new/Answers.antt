use Rattle.locktable.proofs.Tables.{sound_new}
use Rattle.locktable.proofs.locks.LockTable.new.Goals as goal

pub invariant_of-result : goal.invariant_of-result
invariant_of-result g c = sound_new _ c.in_ok-held.ensures c.new.result c.new.ensures
