-- What a log's header says of the catalog and the opening image.
use Rattle.std.specs.Prelude.{◌≡◌, List}
use Rattle.sha2.specs.Sha256.{sha256}
use Rattle.procedure.specs.Bytes.{Bytes}
use Rattle.procedure.specs.Procedures.{Procedure}
use Rattle.procedure.specs.CatalogBytes.{catalog_bytes}
use Rattle.commitlog.specs.declared.formats.Version.{Version}
use Rattle.commitlog.specs.declared.formats.Version.TheVariants.{One, Two}
use Rattle.commitlog.specs.declared.formats.LogHeader.{LogHeader}
use Rattle.image.specs.Images.{Image}
use Rattle.image.specs.ImageBytes.{IsVersion1, IsVersion2}

-- the image's bytes in the image format of a log's version
abbrev pub IsSpelling : Version → Image → Bytes → Type 0
IsSpelling One i bytes = IsVersion1 i bytes
IsSpelling Two i bytes = IsVersion2 i bytes

-- the header names the catalog
abbrev pub NamesCatalog : LogHeader → List Procedure → Type 0
NamesCatalog h c = h.catalog ≡ sha256 (catalog_bytes c)

-- it names the image, which has a spelling in the log's version
abbrev pub NamesOpening : Version → LogHeader → Image → Type 0
NamesOpening v h i = (bytes : Bytes) × IsSpelling v i bytes × (h.opening ≡ sha256 bytes)
