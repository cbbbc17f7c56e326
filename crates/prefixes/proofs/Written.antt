-- The bytes of a plain front are few, and are read back.
use Rattle.std.proofs.Common.{◌≡◌, ℕ, ◌<◌, true, false, nat_le, List, ◌∷◌, ◌++◌, length, refl, ap, ◌∙◌, arith}
use Rattle.x86_values.specs.declared.Bits.{Bits}
use Rattle.x86_values.specs.declared.Instr.{Instr}
use Rattle.instruction_parts.specs.declared.row_types.Row.{Row}
use Rattle.instruction_parts.specs.declared.spelling.Spelling.{Spelling}
use Rattle.instruction_parts.specs.declared.spelling.PrefixState.{PrefixState}
use Rattle.instruction_parts.specs.Bytes.{tail_bytes}
use Rattle.instruction_parts.specs.Front.{Known, within_15, front_of}
use Rattle.row_fit.specs.Fits.{fits}
use Rattle.row_fit.specs.Sound.{Sound}
use Rattle.plain_spelling.specs.PlainFront.{plain_front_of}
use Rattle.plain_spelling.specs.Expressible.{Suits}
use Rattle.plain_spelling.specs.Writable.{Writable}
use Rattle.row_relation.specs.Given.{Given}
use Rattle.row_relation.proofs.FitNumbers.{numbers_suit}
use Rattle.row_relation.proofs.FitFront.{front_of_rest, front_is_short}
use Rattle.prefixes.specs.Written.{front_written, with_opcode}

known_within : (given : ℕ) (f : PrefixState) → f.used < 15 → within_15 given (Known f) ≡ Known f
unfolding within_15
known_within given f h = (let e : nat_le 15 f.used ≡ false = grind (arith) in rw e refl)

-- **the bytes of the plain front, before the opcode byte and the tail of a fitting spelling, are read as the plain front**
pub read_back : (bits : Bits) (ip : ℕ) (row : Row) (i : Instr) (s : Spelling) (rest : List ℕ) → Sound row → Writable bits row → Suits bits ip row i → length i.ops ≡ 4 → fits bits row s ≡ true → front_of bits (front_written row (plain_front_of bits row i) ++ (s.opcode ∷ (tail_bytes s ++ rest))) ≡ Known (with_opcode (plain_front_of bits row i) s.opcode)
unfolding front_of front_written plain_front_of
read_back bits ip row i s rest sound writable suits four h =
    let g : Given bits ip row i = record { is_sound = sound; is_writable = writable; suits = suits; four = four } in
    let n = numbers_suit bits ip row i g in
    ap (within_15 _) (front_of_rest bits ip row i s rest g n h)
    ∙ known_within _ (with_opcode (plain_front_of bits row i) s.opcode) (front_is_short bits ip row i g n)
