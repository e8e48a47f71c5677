use Rattle.std.proofs.Common.{◌<◌, ◌≤◌, ◌^◌, length, ap, subst, sym, ◌∙◌}
use Rattle.image.specs.ImageBytes.{kind_byte}
use Rattle.image.specs.declared.limits.TheConstants.{ENTRIES}
use Rattle.procedure.proofs.Results.{if_done}
use Rattle.image.proofs.Written.{at_ok, few_fit, header_written}
use Rattle.image.proofs.sealing.write_header.Goals as goal

pub overflow_cast-entries : goal.overflow_cast-entries
overflow_cast-entries g c = record { fits = few_fit (length c.entries.result.now) (subst (λ n. n ≤ ENTRIES) (sym (ap length c.entries.ensures.value)) c.entries.ensures.lawful.few) }

pub returns-clause-bytes : goal.returns-clause-bytes
returns-clause-bytes g c =
    let i = c.args.image.now in
    if_done (λ last.
    header_written c.args.magic.now c.args.out.now.items c.extend_from_slice.new.self.items c.push.new.self.items c.write_u64.new.out.items c.write_u64-2.new.out.items c.write_u64-3.new.out.items
    c.write_u32.new.out.items
    i c.kind_byte.result c.number.result c.base.result c.place.result (length c.entries.result.now)
    c.in_ok-extend_from_slice.ensures.items c.in_ok-push.ensures.items c.in_ok-write_u64.ensures.bytes c.in_ok-write_u64-2.ensures.bytes c.in_ok-write_u64-3.ensures.bytes last
    (c.kind_byte.ensures ∙ ap kind_byte c.kind.ensures) c.number.ensures c.base.ensures c.place.ensures (ap length c.entries.ensures.value))
    c.write_u32.result c.write_u32.ensures.bytes

pub returns-clause-fits : goal.returns-clause-fits
returns-clause-fits g c =
    at_ok c.write_u32.result (record {
      number = subst (λ n. n < 2 ^ 64) c.number.ensures c.number.type_inv;
      base = subst (λ n. n < 2 ^ 64) c.base.ensures c.base.type_inv;
      place = subst (λ n. n < 2 ^ 64) c.place.ensures c.place.type_inv;
    })
