use Rattle.std.proofs.Common.{rules, ◌≡◌, ◌<◌, ◌^◌, List, Some, refl, sym, ap, subst, ◌∙◌}
use Rattle.std.specs.Prelude.{slice_index}
use Rattle.image.specs.Images.{Entry}
use Rattle.image.specs.ImageBytes.{IsWritable}
use Rattle.image.specs.inside.Pieces.{AreParts}
use Rattle.image.specs.Readings.{kind_of}
use Rattle.image.proofs.PieceChecks.{all_within, bad, image_is, made_of, writable}
use Rattle.image.proofs.checking.image_of.Goals as goal

pub returns-then-not-are_parts-clause-err : goal.returns-then-not-are_parts-clause-err
returns-then-not-are_parts-clause-err c =
    let b = c.args.bytes.now in
    let kind_is : kind_of (slice_index b 8) ≡ Some c.in-Some.kind = sym c.kind_of.ensures ∙ c.in-Some.is in
    let none : AreParts c.args.most c.in-Some.kind c.number_at-number.result c.number_at-base.result c.again.result → ⊥ = search rules in (
      refl,
      bad c.args.most c.in-Some.kind c.number_at-number.result c.number_at-base.result c.number_at-place.result c.args.pieces b kind_is
          c.number_at-number.ensures c.number_at-base.ensures c.number_at-place.ensures (subst (λ (es : List Entry). AreParts c.args.most c.in-Some.kind c.number_at-number.result c.number_at-base.result es → ⊥) c.again.ensures none),
    )

pub new-requires : goal.new-requires
new-requires c =
    let parts : AreParts c.args.most c.in-Some.kind c.number_at-number.result c.number_at-base.result c.again.result = search rules in
    let same = subst (λ (es : List Entry). AreParts c.args.most c.in-Some.kind c.number_at-number.result c.number_at-base.result es) c.again.ensures parts in
    all_within c.args.most c.in-Some.kind c.args.pieces c.requires.most same.2.fit

pub returns-clause-value : goal.returns-clause-value
returns-clause-value c =
    let b = c.args.bytes.now in
    let kind = c.in-Some.kind in
    let n = c.number_at-number.result in
    let m = c.number_at-base.result in
    let p = c.number_at-place.result in
    let es = c.args.pieces in
    let kind_is : kind_of (slice_index b 8) ≡ Some kind = sym c.kind_of.ensures ∙ c.in-Some.is in
    let parts : AreParts c.args.most kind n m c.again.result = search rules in
    let same = subst (λ (l : List Entry). AreParts c.args.most kind n m l) c.again.ensures parts in
    let small_n : n < 2 ^ 64 = search rules in
    let small_m : m < 2 ^ 64 = search rules in
    let small_p : p < 2 ^ 64 = search rules in (
      image_is c.args.most kind n m p es b kind_is c.number_at-number.ensures c.number_at-base.ensures c.number_at-place.ensures ∙ ap (λ (l : List Entry). Some (made_of kind n m p l)) (sym c.new.ensures),
      subst (λ (l : List Entry). IsWritable c.args.most (made_of kind n m p l)) (sym c.new.ensures) (writable c.args.most kind n m p es small_n small_m small_p same),
    )
