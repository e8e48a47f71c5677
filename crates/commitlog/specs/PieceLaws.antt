-- Bytes that are taken in pieces: none, and one piece after another. These are for the proofs alone.
use Rattle.std.proofs.Common.{◌≡◌, ◌+◌, arith, Bool, true, false, [], ◌++◌, Option, length, refl, sym, subst, ap, ◌∙◌, append_assoc}
use Rattle.std.proofs.lemmas.List.{append-nil, length-append}
use Rattle.std.specs.Io.KnownBytes.{Appends}
use Rattle.std.proofs.KnownBytes.{Appends-nil, Appends-trans, Appends-kept, Keeps-refl, Keeps-trans}
use Rattle.sha2.specs.Hashers.{Holds256}
use Rattle.sha2.specs.declared.Sha256.{Sha256}
use Rattle.procedure.specs.Bytes.{Bytes}
use Rattle.procedure.specs.Streams.{IsBegun}
use Rattle.commitlog.specs.Pieces.{Grows, Sends}

pub grows_nothing : (a : Bytes) → Grows a a []
grows_nothing a = record { most = omega arith; whole = λ _. sym (append-nil a) }

pub grows_more : (a b c x y : Bytes) → Grows a b x → Grows b c y → Grows a c (x ++ y)
grows_more a b c x y f g =
    let both = length-append x y in
    record {
      most = omega (arith, both, f.most, g.most);
      whole = λ e.
          let second : length c ≡ length b + length y = omega (arith, both, e, f.most, g.most) in
          let first : length b ≡ length a + length x = omega (arith, both, e, f.most, g.most) in
          g.whole second ∙ ap (λ (z : Bytes). z ++ y) (f.whole first) ∙ append_assoc a x y;
    }

pub holds_nothing : (s : Sha256) (m : Bytes) → Holds256 s m → Holds256 s (m ++ [])
holds_nothing s m h = subst (Holds256 s) (sym (append-nil m)) h

pub holds_more : (s : Sha256) (m x y : Bytes) → Holds256 s ((m ++ x) ++ y) → Holds256 s (m ++ (x ++ y))
holds_more s m x y h = subst (Holds256 s) (append_assoc m x y) h

pub sends_nothing : (a : Option Bytes) (f : Bool) → Sends a a f f []
sends_nothing a f = record { begun = ([], [], refl, Appends-nil a); whole = λ _. Appends-nil a; faulty = λ e. (e, Keeps-refl a) }

begun_more : (a b c : Option Bytes) (g h : Bool) (x y : Bytes) → IsBegun a b x → ((g ≡ true → ⊥) → Appends a b x) → Sends b c g h y → IsBegun a c (x ++ y)
begun_more a b c true h x y (out, left, e, went) all q =
    (out, left ++ y, ap (λ (z : Bytes). z ++ y) e ∙ append_assoc out left y, Appends-kept a b c out went (q.faulty refl).1)
begun_more a b c false h x y begun all q =
    let b' = q.begun in
    (x ++ b'.0, b'.1, ap (λ (z : Bytes). x ++ z) b'.2 ∙ sym (append_assoc x b'.0 b'.1), Appends-trans a b c x b'.0 (all (λ e. absurd (cc))) b'.3)

pub sends_more : (a b c : Option Bytes) (f g h : Bool) (x y : Bytes) → Sends a b f g x → Sends b c g h y → Sends a c f h (x ++ y)
sends_more a b c f g h x y p q = record {
  begun = begun_more a b c g h x y p.begun p.whole q;
  whole = λ sound.
      let still : g ≡ true → ⊥ = λ e. sound (q.faulty e).0 in
      Appends-trans a b c x y (p.whole still) (q.whole sound);
  faulty = λ e. ((q.faulty (p.faulty e).0).0, Keeps-trans a b c (p.faulty e).1 (q.faulty (p.faulty e).0).1);
}
