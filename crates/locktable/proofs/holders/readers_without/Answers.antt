use Rattle.std.proofs.Common.{arith, ◌<◌}
use Rattle.locktable.proofs.Sharing.{without_last_reader, without_reader, some_reader, others_fit, others}
use Rattle.locktable.proofs.holders.readers_without.Goals as goal

pub returns-then-others-eq0-clause-others : goal.returns-then-others-eq0-clause-others
returns-then-others-eq0-clause-others c = without_last_reader c.args.readers c.args.session (omega arith) c.requires c.if-others-eq0.true

pub returns-else-others-eq0-clause-others : goal.returns-else-others-eq0-clause-others
returns-else-others-eq0-clause-others c = without_reader c.args.readers c.args.session (omega arith) c.requires

pub returns-else-others-eq0-clause-held : goal.returns-else-others-eq0-clause-held
returns-else-others-eq0-clause-held c =
    let some : 0 < others c.args.readers c.args.session = omega arith in
    some_reader (others c.args.readers c.args.session) (others_fit c.args.readers c.args.session (omega arith)) some
