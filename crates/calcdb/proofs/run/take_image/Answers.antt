use Rattle.calcdb.proofs.Carrying.{image_taken, no_image_taken}
use Rattle.calcdb.proofs.run.take_image.Goals as goal

pub returns-in-Some : goal.returns-in-Some
returns-in-Some g c =
    let e = c.take_image.ensures in
    image_taken c.args.core.now c.take_image.new.self c.take_image.result c.in-Some.image c.in-Some.is (record { image = e.image; taken = e.taken; cut = e.cut })

pub returns-in-None : goal.returns-in-None
returns-in-None g c =
    let e = c.take_image.ensures in
    no_image_taken c.args.core.now c.take_image.new.self c.take_image.result c.in-None.is (record { image = e.image; taken = e.taken; cut = e.cut })
