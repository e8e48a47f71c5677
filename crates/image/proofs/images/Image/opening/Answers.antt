use Rattle.std.proofs.Common.{◌≤◌, List, sym, subst}
use Rattle.image.specs.Images.{Entry, IsLawfulImage}
use Rattle.image.specs.declared.images.Kind.TheVariants.{Full}
use Rattle.image.specs.declared.limits.TheConstants.{ENTRIES}
use Rattle.image.proofs.Tables.{lawful_full}
use Rattle.image.proofs.images.Image.opening.Goals as goal

pub full_of-requires : goal.full_of-requires
full_of-requires g c =
    subst (λ (es : List Entry). IsLawfulImage (record { kind = Full; number = 0; base = 0; place = 0; entries = es })) (sym c.in_ok-entries_of_table.ensures)
    (lawful_full 0 0 c.args.table (subst (λ n. n ≤ ENTRIES) c.len.ensures c.if-len-gt-ENTRIES.false))
