use Rattle.std.proofs.Common.{Some, None, subst, sym}
use Rattle.locktable.specs.declared.holders.Holders.TheVariants.{Readers}
use Rattle.locktable.specs.Holders.{ChangesTo}
use Rattle.locktable.proofs.Sharing.{one_reader, bit}
use Rattle.locktable.proofs.holders.Holders.one.Goals as goal

pub returns-in-Shared : goal.returns-in-Shared
returns-in-Shared c = subst (λ mode. ChangesTo None (Some (Readers (bit c.args.session))) c.args.session (Some mode)) (sym c.in-Shared.is) (one_reader c.args.session c.requires)
