use Rattle.std.proofs.Common.{◌≡◌, ◌+◌, ap, sym, refl, subst, arith, ◌∙◌}
use Rattle.x86_values.specs.Wrapping.{modulo_width}
use Rattle.opcode_rows.specs.Reading.{IsRead}
use Rattle.decoder.specs.Answer.{reading_of}
use Rattle.decoder.specs.Items.{item_len}
use Rattle.decoder.proofs.NextItem.{next_item}
use Rattle.decoder.proofs.items.ItemsIterator.next.Goals as goal
use Rattle.decoder.proofs.items.ItemsIterator.next.Goals.{in-Ok, in-Err}

pub returns-clause-steps : goal.returns-clause-steps
returns-clause-steps c =
    let bits = c.args.self.now.bits in
    let bytes = c.args.self.now.bytes.now in
    let address : c.wrap-ip.result ≡ modulo_width bits c.args.self.now.ip = c.wrap-ip.ensures ∙ ap (modulo_width bits) c.from.ensures in
    let moved : c.wrap-self.result ≡ modulo_width bits (c.wrap-ip.result + c.match-reading.len) =
    c.wrap-self.ensures ∙ ap (λ k. modulo_width bits (k + c.match-reading.len)) c.from-2.ensures
    in
    elim c.match-reading.branch [
      | in-Ok w ↦
          let fit = w.in-Ok.ensures.length in
          let same : c.match-reading.reading ≡ c.decode_in-reading.result = w.reading-is ∙ sym w.in-Ok.is in
          next_item _ _ _ c.match-reading.len address
          (subst (λ r. IsRead bits c.wrap-ip.result bytes (reading_of r)) (sym same) c.decode_in-reading.ensures.reading)
          (ap item_len w.reading-is ∙ sym w.len-is) (omega (arith, w.len-is, fit.0)) (omega (arith, w.len-is, fit.2)) c.split_at.ensures.front
          refl moved c.split_at.ensures.back
      | in-Err w ↦
          next_item _ _ _ c.match-reading.len address
          (subst (λ r. IsRead bits c.wrap-ip.result bytes (reading_of r)) (sym w.reading-is) c.decode_in-reading.ensures.reading)
          (ap item_len (w.reading-is ∙ w.in-Err.is) ∙ sym w.len-is) (omega (arith, w.len-is))
          (grind (arith, w.len-is, c.is_empty.ensures, c.if-is_empty.false)) c.split_at.ensures.front refl moved c.split_at.ensures.back
    ]
