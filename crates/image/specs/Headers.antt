-- Headers, the digest of a chain of entries, and the image of a header and its entries.
use Rattle.std.specs.Prelude.{◌≡◌, ℕ, List, [], ◌∷◌, ◌++◌, length, replicate}
use Rattle.std.specs.FinMap as finite
use Rattle.sha2.specs.Sha256.{sha256}
use Rattle.procedure.specs.Bytes.{Bytes}
use Rattle.procedure.specs.Table.{Changes, with_pairs}
use Rattle.image.specs.Images.{Entry, Image, IsLawfulImage}
use Rattle.image.specs.EntryBytes.{entry_bytes}
use Rattle.image.specs.declared.images.Kind.{Kind}
use Rattle.image.specs.declared.headers.Header.{Header}

-- the digest of a chain with one entry more
abbrev pub linked : Bytes → Entry → Bytes
linked chain e = sha256 (chain ++ entry_bytes e)

abbrev pub linked_all : Bytes → List Entry → Bytes
linked_all chain [] = chain
linked_all chain (e ∷ es) = linked_all (linked chain e) es

-- the digest of entries in turn, from 32 bytes of 0 on
abbrev pub chain_digest : List Entry → Bytes
chain_digest es = linked_all (replicate 32 0) es

-- the map of entries that come in any order
abbrev pub map_of : List Entry → Changes
map_of es = with_pairs finite.empty es

-- no key comes twice
abbrev pub EachKeyOnce : List Entry → Type 0
EachKeyOnce es = finite.len (map_of es) ≡ length es

-- the image of entries that come in any order, sorted by their keys
abbrev pub of_captured : Kind → (number base place : ℕ) → List Entry → Image
of_captured kind number base place es = record { kind = kind; number = number; base = base; place = place; entries = finite.entries (map_of es) }

-- the image of a header and its entries
abbrev pub assembled : Header → List Entry → Image
assembled h es = of_captured h.kind h.number h.base h.place es

-- a header and the entries that it was made of, in their order
pub record FitsHeader (h : Header) (es : List Entry) : Type 0 where
  pub count : h.count ≡ length es
  pub chain : h.chain ≡ chain_digest es
  pub once : EachKeyOnce es
  pub lawful : IsLawfulImage (assembled h es)
