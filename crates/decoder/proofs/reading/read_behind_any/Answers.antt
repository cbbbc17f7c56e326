use Rattle.std.proofs.Common.{◌≡◌, ℕ, Err, refl, ap, ◌∙◌, subst}
use Rattle.x86_values.specs.declared.Bits.{Bits}
use Rattle.x86_values.specs.Wrapping.{modulo_width}
use Rattle.instruction_parts.specs.Front.{Front, Open, Forbidden, Known, front_of}
use Rattle.prefixes.specs.declared.PrefixError.{PrefixError}
use Rattle.prefixes.specs.declared.PrefixError.TheVariants.{Ended, Forbidden as ForbiddenError}
use Rattle.prefixes.specs.Answer.{answer_of, mode_of}
use Rattle.modrm_sib.specs.Answer.{answer_in}
use Rattle.row_relation.specs.Spells.{IsReading}
use Rattle.opcode_rows.specs.Table.{table}
use Rattle.decoder.specs.Answer.{reading_of}
use Rattle.decoder.proofs.OneReading.{only_reading}
use Rattle.decoder.proofs.ReadingLaws.{open_is_short, forbidden_is_invalid}
use Rattle.decoder.proofs.reading.read_behind_any.Goals as goal

ended_is_open : (f : Front) (e : PrefixError) → e ≡ Ended → Err e ≡ answer_of f → f ≡ Open
ended_is_open Open e is h = refl
ended_is_open Forbidden e is h = cc
ended_is_open (Known state) e is h = cc

forbidden_is_forbidden : (f : Front) (e : PrefixError) → e ≡ ForbiddenError → Err e ≡ answer_of f → f ≡ Forbidden
forbidden_is_forbidden Open e is h = cc
forbidden_is_forbidden Forbidden e is h = refl
forbidden_is_forbidden (Known state) e is h = cc

pub returns-in-Err-Ended-clause-reading : goal.returns-in-Err-Ended-clause-reading
returns-in-Err-Ended-clause-reading g c =
    let bits = mode_of g.row.BITS in
    open_is_short table bits (modulo_width bits c.args.ip) c.args.bytes.now
    (subst (λ (b : Bits). front_of b c.args.bytes.now ≡ Open) c.mode_of-bits.ensures
    (ended_is_open _ c.in-Err-Ended.field-0 c.in-Err-Ended.field-0-is c.in-Err-Ended.ensures))

pub returns-in-Err-Forbidden-clause-reading : goal.returns-in-Err-Forbidden-clause-reading
returns-in-Err-Forbidden-clause-reading g c =
    let bits = mode_of g.row.BITS in
    forbidden_is_invalid table bits (modulo_width bits c.args.ip) c.args.bytes.now
    (subst (λ (b : Bits). front_of b c.args.bytes.now ≡ Forbidden) c.mode_of-bits.ensures
    (forbidden_is_forbidden _ c.in-Err-Forbidden.field-0 c.in-Err-Forbidden.field-0-is c.in-Err-Forbidden.ensures))

pub returns-in-Ok-clause-alone : goal.returns-in-Ok-clause-alone
returns-in-Ok-clause-alone g c =
    let bits = mode_of g.row.BITS in
    let bytes = c.args.bytes.now in
    let answer = answer_in c.read_known.result c.read_known.new.out in
    let address : c.wrap.result ≡ modulo_width bits c.args.ip =
    c.wrap.ensures ∙ ap (λ (b : Bits). modulo_width b c.from.result) c.mode_of-bits.ensures ∙ ap (modulo_width bits) c.from.ensures in
    only_reading bits c.args.ip bytes answer
    (subst (λ (a : ℕ). IsReading table bits a bytes (reading_of answer)) address c.read_known.ensures.reading)
