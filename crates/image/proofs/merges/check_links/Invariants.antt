use Rattle.std.proofs.Common.{◌≡◌, drop}
use Rattle.image.specs.Merges.{links_refusal}
use Rattle.image.proofs.merges.check_links.Given as goal

-- the refusal is among the images that are left
abbrev pub invariant-loop-place : goal.invariant-loop-place
invariant-loop-place g l = links_refusal l.place l.before (drop l.place l.partials) ≡ links_refusal 0 l.number l.partials
