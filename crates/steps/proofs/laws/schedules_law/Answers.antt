use Rattle.steps.proofs.log.SchedulePromises.{all_schedules}
use Rattle.steps.proofs.laws.schedules_law.Goals as goal

pub returns : goal.returns
returns c = all_schedules
