use Rattle.locktable.proofs.Few.{apart-none, joined-none}
use Rattle.locktable.proofs.key_holders.KeyHolders.new.Goals as goal

pub invariant_of-result : goal.invariant_of-result
invariant_of-result g c = apart-none c.new.result.items c.new-2.result c.new.ensures.items c.new-2.ensures

pub returns : goal.returns
returns g c = joined-none c.new.result.items c.new-2.result c.new.ensures.items c.new-2.ensures
