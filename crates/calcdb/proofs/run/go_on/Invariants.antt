use Rattle.std.proofs.Common.{◌-◌, List}
use Rattle.procedure.specs.Bytes.{Bytes}
use Rattle.image.specs.Images.{Image}
use Rattle.steps.specs.CoreViews.{CoreView}
use Rattle.calcdb.specs.Runs.{Carried, GoesOn}
use Rattle.calcdb.proofs.run.go_on.Given as goal

-- what the core as it is goes on to, the first one goes on to
abbrev pub invariant-loop : goal.invariant-loop
invariant-loop g l =
    (new : CoreView) (text : Bytes) (images : List Image) → Carried {A = g.row.A.Denot} (GoesOn (l.count - l.counter) l.session) l.core new text images →
    Carried {A = g.row.A.Denot} (GoesOn l.fn.count l.fn.session) l.initial.core new text images
