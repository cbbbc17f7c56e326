-- The opcode bytes by themselves, tested one by one.
use Rattle.std.proofs.Common.{◌≡◌, ℕ, ◌<◌, ◌/◌, ◌%◌, ◌^◌, Bool, true, false, nat_eq, not, if◌then◌else◌, refl, sym}
use Rattle.x86_values.specs.declared.Bits.{Bits}
use Rattle.x86_values.specs.declared.Bits.TheVariants.{B16, B32, B64}
use Rattle.instruction_parts.specs.Counting.{is_prefix, is_legacy_prefix, is_segment}
use Rattle.instruction_parts.specs.RowFields.Candidates.{below}
use Rattle.instruction_parts.proofs.RowFields.Cands.{below-at}
use Rattle.prefixes.specs.Simple.{is_lone_opcode, lone_opcodes}

-- the bit of a byte
unfoldable pub lone_bit : Bits → ℕ → Bool
unfolding lone_opcodes
lone_bit bits b = nat_eq (lone_opcodes bits (b / 64) / 2 ^ (b % 64) % 2) 1

-- the bit is set exactly for an opcode byte by itself
unfoldable pub is_right : Bits → ℕ → Bool
unfolding lone_bit
is_right bits b = if is_lone_opcode bits b then lone_bit bits b else not (lone_bit bits b)

-- each byte's bit is right
all_right : (bits : Bits) → below 256 (is_right bits) ≡ true
unfolding below is_right lone_bit lone_opcodes is_prefix is_legacy_prefix is_segment
all_right B16 = refl
all_right B32 = refl
all_right B64 = refl

-- truth values of which one is the other's test are the same
same : (x y : Bool) → (if x then y else not y) ≡ true → y ≡ x
same true y h = h
same false true h = sym h
same false false h = refl

-- the bit of a byte says whether it is an opcode byte by itself
pub lone_bit_is : (bits : Bits) (b : ℕ) → b < 256 → lone_bit bits b ≡ is_lone_opcode bits b
unfolding is_right
lone_bit_is bits b lt = same (is_lone_opcode bits b) (lone_bit bits b) (below-at 256 (is_right bits) b (all_right bits) lt)
