use Rattle.calcdb.proofs.MadeFiles.{all_images, if_err, image_more, image_stops}
use Rattle.calcdb.proofs.run_folder.make_images.Goals as goal

pub returns-in_err-make_image-clause-err : goal.returns-in_err-make_image-clause-err
returns-in_err-make_image-clause-err g c =
    let l = c.loop-image in
    let made = g.F.RunFolder.made in
    if_err c.from_residual.result
    (image_stops (made c.args.folder.now) (made l.folder) (made c.make_image.new.folder) c.args.images.now l.image-index c.image-item.result c.loop-image-test.true c.image-item.is l.invariant
    c.in_err-make_image.ensures.err)

pub loop-image-preserved : goal.loop-image-preserved
loop-image-preserved g c =
    let l = c.loop-image in
    let made = g.F.RunFolder.made in
    image_more (made c.args.folder.now) (made l.folder) (made c.make_image.new.folder) c.args.images.now l.image-index c.image-item.result c.loop-image-test.true c.image-item.is l.invariant c.in_ok-make_image.ensures.ok

pub returns-clause-ok : goal.returns-clause-ok
returns-clause-ok g c =
    let l = c.loop-image in
    let made = g.F.RunFolder.made in
    all_images (made c.args.folder.now) (made l.folder) c.args.images.now l.image-index c.loop-image-test.false l.invariant
