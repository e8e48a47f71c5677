use Rattle.std.proofs.Common.{List, ◌++◌, [], ◌∷◌, length, sym, subst, Option}
use Rattle.std.proofs.lemmas.Result.{on_ok_weaker}
use Rattle.std.specs.Borrow.{Bor}
use Rattle.image.specs.Images.{Image as ImageView}
use Rattle.calcdb.specs.Journals.{images_given, with_more}
use Rattle.calcdb.specs.LiveRuns.{IsKeptUp}
use Rattle.calcdb.specs.RunFiles.{File, Makes, image_file}
use Rattle.calcdb.proofs.LiveRuns.{err_so, goes_on_cut, goes_on_kept, holds_front, no_less, makes_from, on_err, same_made}
use Rattle.calcdb.proofs.live_runs.LiveRunJournal.take.Goals as goal
use Rattle.calcdb.proofs.live_runs.LiveRunJournal.take.Goals.{After-make_image}

pub returns-in_err-keep-clause-err : goal.returns-in_err-keep-clause-err
returns-in_err-keep-clause-err g c = λ start t kept.
    let made = g.F.RunFolder.made in
    on_err c.from_residual.result
    (goes_on_cut (made start.folder) (made c.args.self.now.folder) (made c.keep.new.self.folder) c.args.self.now.log c.keep.new.self.log t c.args.records.now (images_given c.args.image) kept
    (same_made made c.args.self.now.folder c.keep.new.self.folder c.in_err-keep.ensures.folder) (λ h l holds. c.in_err-keep.ensures.err h l holds))

-- the files that were made after the records were kept
made_on : (g : _) (c : After-make_image g) (files : List File) → Makes (g.F.RunFolder.made c.keep.new.self.folder) (g.F.RunFolder.made c.make_image.new.folder) files →
    Makes (g.F.RunFolder.made c.args.self.now.folder) (g.F.RunFolder.made c.make_image.new.folder) files
made_on g c files = makes_from g.F.RunFolder.made c.args.self.now.folder c.keep.new.self.folder (g.F.RunFolder.made c.make_image.new.folder) files c.in_ok-keep.ensures.folder

pub returns-in-Some-clause-ok : goal.returns-in-Some-clause-ok
returns-in-Some-clause-ok g c = λ start t kept.
    let made = g.F.RunFolder.made in
    let new = made c.make_image.new.folder in
    let image = c.in-Some.image.now in
    on_ok_weaker c.make_image.result
    (λ more.
    subst (λ (i : Option (Bor ImageView)). IsKeptUp (made start.folder) new c.keep.new.self.log (with_more t c.args.records.now (images_given i))) (sym c.in-Some.is)
    (goes_on_kept (made start.folder) (made c.args.self.now.folder) new c.args.self.now.log c.keep.new.self.log t c.args.records.now (image ∷ []) kept
    (made_on g (goal.at.returns-in-Some-clause-ok g c).After-make_image (image_file image ∷ []) more) (λ h l holds. c.in_ok-keep.ensures.ok h l holds)))
    c.make_image.ensures.ok

pub returns-in-Some-clause-err : goal.returns-in-Some-clause-err
returns-in-Some-clause-err g c = λ start t kept.
    let made = g.F.RunFolder.made in
    let rs = c.args.records.now in
    err_so c.make_image.result
    (λ same.
    goes_on_cut (made start.folder) (made c.args.self.now.folder) (made c.make_image.new.folder) c.args.self.now.log c.keep.new.self.log t rs (images_given c.args.image) kept
    (made_on g (goal.at.returns-in-Some-clause-err g c).After-make_image [] same)
    (λ h l holds. holds_front c.keep.new.self.log h (l ++ rs) (length l) (no_less l rs) (c.in_ok-keep.ensures.ok h l holds)))
    c.make_image.ensures.err
