use Rattle.std.proofs.Common.{List, subst}
use Rattle.std.specs.List.{AllByRecursion}
use Rattle.commitlog.specs.LogBytes.{Fits}
use Rattle.commitlog.specs.Records.{Record}
use Rattle.commitlog.specs.declared.formats.Version.TheVariants.{Two}
use Rattle.calcdb.proofs.CutOffLogs.{cut_off_is_front}
use Rattle.calcdb.proofs.laws.cut_off_law.Goals as goal

pub returns : goal.returns
returns g c =
    cut_off_is_front c.args.core.now c.records.ensures.most
    (subst (λ (rs : List Record). AllByRecursion (Fits Two) rs) c.records.ensures.value c.records_fit_law.ensures)
