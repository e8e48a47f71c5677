use Rattle.std.proofs.Common.{◌≡◌, ◌<◌, ◌≤◌, ℕ, ◌+◌, ◌*◌, ◌^◌, List, get_or, length, drop, ap, ◌∙◌, arith}
use Rattle.std.proofs.lemmas.List.{at_drop_all, length-append}
use Rattle.procedure.specs.declared.limits.TheConstants.{KEY_BYTES, VALUE_BYTES}
use Rattle.image.specs.Images.{Entry}
use Rattle.image.specs.EntryBytes.{entry_bytes}
use Rattle.image.specs.ImageBytes.{entries_bytes}
use Rattle.image.specs.declared.limits.TheConstants.{BLOCK}
use Rattle.procedure.proofs.WriteProgress.{next_item}
use Rattle.image.proofs.streams.block_length.Goals as goal

next_fits : (counted size i n : ℕ) → i < n → n ≤ BLOCK → counted ≤ 32 + i * (KEY_BYTES + VALUE_BYTES + 4) → size ≤ KEY_BYTES + VALUE_BYTES + 4 → counted + size < 2 ^ 64
next_fits counted size i n within few so_far small = omega arith

next_most : (counted size i : ℕ) → counted ≤ 32 + i * (KEY_BYTES + VALUE_BYTES + 4) → size ≤ KEY_BYTES + VALUE_BYTES + 4 → counted + size ≤ 32 + (i + 1) * (KEY_BYTES + VALUE_BYTES + 4)
next_most counted size i so_far small = omega arith

next_counted : (es : List Entry) (i : ℕ) (e : Entry) (counted size all : ℕ) → i < length es → e ≡ get_or es i e → size ≡ length (entry_bytes e) → counted + length (entries_bytes (drop i es)) ≡ all →
    (counted + size) + length (entries_bytes (drop (i + 1) es)) ≡ all
next_counted es i e counted size all within here is so_far =
    let first = ap (λ (l : List Entry). length (entries_bytes l)) (next_item es i e within here) ∙ length-append (entry_bytes e) (entries_bytes (drop (i + 1) es)) in
    omega (arith, first, is, so_far)

all_counted : (es : List Entry) (i counted all : ℕ) → length es ≤ i → counted + length (entries_bytes (drop i es)) ≡ all → counted ≡ all
all_counted es i counted all past so_far = omega (arith, at_drop_all (λ (l : List Entry). length (entries_bytes l)) es i past, so_far)

end_is : (counted all : ℕ) → counted ≡ 32 + all → counted ≡ all + 32
end_is counted all is = omega arith

pub overflow_add-length : goal.overflow_add-length
overflow_add-length g c =
    let l = c.loop-entry in
    record { fits = next_fits l.length c.entry_length-length.result l.entry-index (length c.args.entries.now) c.loop-entry-test.true c.requires l.invariant.most c.entry_length-length.ensures.most }

pub loop-entry-preserved : goal.loop-entry-preserved
loop-entry-preserved g c =
    let l = c.loop-entry in
    let size = c.entry_length-length.result in
    record {
      counted =
          next_counted c.args.entries.now l.entry-index c.entry-item.result l.length size (32 + length (entries_bytes c.args.entries.now)) c.loop-entry-test.true c.entry-item.is
          c.entry_length-length.ensures.value l.invariant.counted;
      most = next_most l.length size l.entry-index l.invariant.most c.entry_length-length.ensures.most;
    }

pub returns : goal.returns
returns g c =
    let l = c.loop-entry in
    end_is l.length (length (entries_bytes c.args.entries.now))
    (all_counted c.args.entries.now l.entry-index l.length (32 + length (entries_bytes c.args.entries.now)) c.loop-entry-test.false l.invariant.counted)
