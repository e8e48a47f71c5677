-- Laws of the bytes of images.
use Rattle.std.specs.Prelude.{◌≡◌}
use Rattle.procedure.specs.Bytes.{Bytes}
use Rattle.image.specs.Images.{Image}
use Rattle.image.specs.ImageBytes.{IsImageSpelling, IsVersion1, IsVersion2}

-- bytes are those of one image at most
abbrev pub HaveTheirOwnBytes : Type 0
HaveTheirOwnBytes = (i j : Image) (bytes : Bytes) → IsImageSpelling i bytes → IsImageSpelling j bytes → i ≡ j

-- an image has at most one spelling in version 1, and in version 2
abbrev pub OneSpelling : Type 0
OneSpelling = (i : Image) (x y : Bytes) → ((IsVersion1 i x → IsVersion1 i y → x ≡ y) × (IsVersion2 i x → IsVersion2 i y → x ≡ y))
