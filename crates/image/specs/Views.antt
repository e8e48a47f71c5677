-- What contracts see of an image.
use Rattle.image.specs.Images.{Image}
use Rattle.image.specs.declared.images.Image.TheInside.{Inside}

-- an image's fields as plain data
abbrev pub image_of : {A : Type 0} → Inside A → Image
image_of i = record { kind = i.kind; number = i.number; base = i.base; place = i.place; entries = i.entries.items }
