use Rattle.std.proofs.Common.{◌≡◌, [], ◌∷◌, ◌++◌, length, Some, None, sym, ap, ◌∙◌}
use Rattle.byteorder.specs.Endian.{big_bytes}
use Rattle.procedure.specs.Bytes.{Bytes, Cell}
use Rattle.image.specs.Images.{Entry}
use Rattle.image.specs.EntryBytes.{entry_bytes}
use Rattle.procedure.proofs.Passes.{written_then}
use Rattle.image.proofs.sealing.write_entry.Goals as goal

-- the key and what stands behind it, as the entry's bytes
gone_is : (out key k : Bytes) (x : Cell) (e : Entry) → key ≡ k → x ≡ None → (k, x) ≡ e → out ++ (((length key ∷ []) ++ key) ++ (0 ∷ [])) ≡ out ++ entry_bytes e
gone_is out key k x e is_key is_gone is_entry =
    (λ i. out ++ (((length (is_key i) ∷ []) ++ is_key i) ++ (0 ∷ [])))
    ∙ ap (λ (y : Cell). out ++ entry_bytes (k, y)) (sym is_gone)
    ∙ ap (λ (f : Entry). out ++ entry_bytes f) is_entry

value_is : (out key k w v : Bytes) (x : Cell) (e : Entry) → key ≡ k → w ≡ v → x ≡ Some v → (k, x) ≡ e →
    out ++ (((length key ∷ []) ++ key) ++ (((1 ∷ []) ++ big_bytes 2 (length w)) ++ w)) ≡ out ++ entry_bytes e
value_is out key k w v x e is_key is_value is_present is_entry =
    (λ i. out ++ (((length (is_key i) ∷ []) ++ is_key i) ++ (((1 ∷ []) ++ big_bytes 2 (length (is_value i))) ++ is_value i)))
    ∙ ap (λ (y : Cell). out ++ entry_bytes (k, y)) (sym is_present)
    ∙ ap (λ (f : Entry). out ++ entry_bytes f) is_entry

pub returns-in_ok-push-in-None-clause-bytes : goal.returns-in_ok-push-in-None-clause-bytes
returns-in_ok-push-in-None-clause-bytes g c =
    let out = c.args.out.now.items in
    let key = c.as_bytes-key.result.now in
    let before = c.extend_from_slice.new.self.items in
    written_then out before c.push-in-None.new.self.items ((length key ∷ []) ++ key) (0 ∷ [])
    (written_then out c.push.new.self.items before (length key ∷ []) key c.in_ok-push.ensures.items c.in_ok-extend_from_slice.ensures.items) c.in_ok-push-in-None.ensures.items
    ∙ gone_is out key c.entry.inside.key c.entry.inside.cell c.args.entry.now c.as_bytes-key.ensures.value c.in-None.is c.entry.view_is

pub returns-in_ok-extend_from_slice-in-Some-clause-bytes : goal.returns-in_ok-extend_from_slice-in-Some-clause-bytes
returns-in_ok-extend_from_slice-in-Some-clause-bytes g c =
    let out = c.args.out.now.items in
    let key = c.as_bytes-key.result.now in
    let value = c.as_bytes-bytes.result.now in
    let before = c.extend_from_slice.new.self.items in
    let new = c.extend_from_slice-in-Some.new.self.items in
    let size = big_bytes 2 (length value) in
    written_then out before new ((length key ∷ []) ++ key) (((1 ∷ []) ++ size) ++ value)
    (written_then out c.push.new.self.items before (length key ∷ []) key c.in_ok-push.ensures.items c.in_ok-extend_from_slice.ensures.items)
    (written_then before c.write_u16.new.out.items new ((1 ∷ []) ++ size) value
    (written_then before c.push-in-Some.new.self.items c.write_u16.new.out.items (1 ∷ []) size c.in_ok-push-in-Some.ensures.items c.in_ok-write_u16-in-Some.ensures.bytes)
    c.in_ok-extend_from_slice-in-Some.ensures.items)
    ∙ value_is out key c.entry.inside.key value c.in-Some.value c.entry.inside.cell c.args.entry.now c.as_bytes-key.ensures.value c.as_bytes-bytes.ensures.value c.in-Some.is c.entry.view_is
