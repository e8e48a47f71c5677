use Rattle.std.proofs.Common.{◌≡◌, List, [], ◌∷◌, map, Option, refl, ap, subst, ◌∙◌}
use Rattle.std.specs.Prelude.{IfSome}
use Rattle.std.proofs.lemmas.Result.{IfErr-weaker, on_ok_weaker}
use Rattle.procedure.specs.CatalogBytes.{catalog_bytes}
use Rattle.procedure.specs.Procedures.{Procedure}
use Rattle.sha2.specs.Sha256.{sha256}
use Rattle.image.specs.Images.{Image as ImageView}
use Rattle.image.specs.ImageBytes.{version_2}
use Rattle.calcdb.specs.RunFiles.{File, Makes, MakesFront, image_file, log_file, run_files}
use Rattle.calcdb.specs.declared.faults.failures.RunFile.TheVariants.{Image}
use Rattle.calcdb.proofs.MadeFiles.{all_but_log, front_more, if_err, images_of, log_made, makes_nothing, stops_before}
use Rattle.calcdb.proofs.run_folder.write_run.Goals as goal
use Rattle.calcdb.proofs.run_folder.write_run.Goals.{In_ok-make_images}

pub returns-in_err-make_images-clause-err : goal.returns-in_err-make_images-clause-err
returns-in_err-make_images-clause-err g c =
    let made = g.F.RunFolder.made in
    let core = c.args.ran.now.core in
    let images = c.args.ran.now.images.items in
    let old = made c.args.folder.now in
    let one = made c.make_opening.new.folder in
    let two = made c.make_images.new.folder in
    let first = subst (λ (i : ImageView). Makes old one ((Image 0, version_2 i) ∷ [])) c.opening.ensures.value c.in_ok-opening.ensures.ok in
    let some = subst (λ (l : List ImageView). MakesFront one two (map image_file l)) c.as_slice.ensures.value c.in_err-make_images.ensures.err in
    if_err c.from_residual-in_err-make_images.result (front_more old one two (Image 0, version_2 core.opening) (map image_file images) (log_file core ∷ []) first some)

-- the opening and the images, which are all files but the log
so_far : (g : _) (c : In_ok-make_images g) →
    Makes (g.F.RunFolder.made c.args.folder.now) (g.F.RunFolder.made c.make_images.new.folder) (images_of c.args.ran.now.core.opening c.args.ran.now.images.items)
so_far g c =
    let made = g.F.RunFolder.made in
    let ran = c.args.ran.now in
    all_but_log (made c.args.folder.now) (made c.make_opening.new.folder) (made c.make_images.new.folder) ran.core.opening c.opening.result.now ran.images.items c.as_slice.result.now
    c.opening.ensures.value c.as_slice.ensures.value c.in_ok-opening.ensures.ok c.in_ok-make_images.ensures.ok

no_log : (g : _) (c : In_ok-make_images g) (new : Option (List File)) → Makes (g.F.RunFolder.made c.make_images.new.folder) new [] →
    MakesFront (g.F.RunFolder.made c.args.folder.now) new (run_files c.args.ran.now.core c.args.ran.now.images.items)
no_log g c new =
    let made = g.F.RunFolder.made in
    let core = c.args.ran.now.core in
    let images = c.args.ran.now.images.items in
    stops_before (made c.args.folder.now) (made c.make_images.new.folder) new (run_files core images) (images_of core.opening images) (log_file core) [] refl (so_far g c)

pub returns-in_err-catalog-clause-err : goal.returns-in_err-catalog-clause-err
returns-in_err-catalog-clause-err g c =
    let two = g.F.RunFolder.made c.make_images.new.folder in
    if_err c.from_residual-in_err-catalog.result (no_log g (goal.at.returns-in_err-catalog-clause-err g c).In_ok-make_images two (makes_nothing two))

pub returns-clause-ok : goal.returns-clause-ok
returns-clause-ok g c =
    let made = g.F.RunFolder.made in
    let core = c.args.ran.now.core in
    let old = made c.args.folder.now in
    let digest = subst (λ (i : ImageView). IfSome old (λ made. c.in_ok-opening.opening ≡ sha256 (version_2 i))) c.opening.ensures.value c.in_ok-opening.ensures.digest in
    let catalog = c.in_ok-catalog.ensures ∙ ap (λ (ps : List Procedure). sha256 (catalog_bytes ps)) c.catalog.ensures in
    on_ok_weaker c.make_log.result
    (log_made old (made c.make_images.new.folder) (made c.make_log.new.folder) (images_of core.opening c.args.ran.now.images.items) core
    (record { catalog = c.in_ok-catalog.catalog; opening = c.in_ok-opening.opening }) c.records.result.now (so_far g (goal.at.returns-clause-ok g c).In_ok-make_images) digest catalog
    c.records.ensures.value)
    c.make_log.ensures.ok

pub returns-clause-err : goal.returns-clause-err
returns-clause-err g c =
    IfErr-weaker c.make_log.result _ _ (λ x same. no_log g (goal.at.returns-clause-err g c).In_ok-make_images (g.F.RunFolder.made c.make_log.new.folder) same) c.make_log.ensures.err
