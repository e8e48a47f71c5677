use Rattle.std.proofs.Common.{List, map, ap, subst, ◌∙◌, ◌∷◌, ◌++◌, [], take}
use Rattle.std.proofs.lemmas.List.{take_all}
use Rattle.procedure.specs.Bytes.{Bytes}
use Rattle.calcdb.specs.Merging.{HasTaken}
use Rattle.calcdb.proofs.Merges.{front_more}
use Rattle.calcdb.proofs.merge_files.merge_files.Goals as goal

pub loop-image-preserved : goal.loop-image-preserved
loop-image-preserved g c =
    let l = c.loop-image in
    let front : List Bytes = map (λ f. f.items) (take l.image-index c.args.images.now) in
    subst (λ (files : List Bytes). HasTaken files c.with_file-kept.result)
    (ap (λ b. front ++ b ∷ []) c.as_slice.ensures.value ∙ front_more (λ f. f.items) c.args.images.now l.image-index c.image-item.result c.loop-image-test.true c.image-item.is)
    (c.with_file-kept.ensures front l.invariant)

pub returns-clause-fault : goal.returns-clause-fault
returns-clause-fault g c =
    let l = c.loop-image in
    c.end_merge.ensures.fault (map (λ f. f.items) c.args.images.now)
    (subst (λ files. HasTaken files l.kept) (ap (map (λ f. f.items)) (take_all l.image-index c.args.images.now c.loop-image-test.false)) l.invariant)

pub returns-clause-only_image : goal.returns-clause-only_image
returns-clause-only_image g c = λ says.
    let l = c.loop-image in
    c.end_merge.ensures.only_image (map (λ f. f.items) c.args.images.now) says
    (subst (λ files. HasTaken files l.kept) (ap (map (λ f. f.items)) (take_all l.image-index c.args.images.now c.loop-image-test.false)) l.invariant)

pub returns-clause-only_fault : goal.returns-clause-only_fault
returns-clause-only_fault g c = λ says.
    let l = c.loop-image in
    c.end_merge.ensures.only_fault (map (λ f. f.items) c.args.images.now) says
    (subst (λ files. HasTaken files l.kept) (ap (map (λ f. f.items)) (take_all l.image-index c.args.images.now c.loop-image-test.false)) l.invariant)
