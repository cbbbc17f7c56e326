-- Each instruction that is drawn is spelled, and aimed low.
use Rattle.std.proofs.Common.{◌≡◌, ℕ, zero, suc, ◌+◌, ◌*◌, ◌/◌, ◌%◌, ◌^◌, ◌<◌, ◌≤◌, true, List, [], ◌∷◌, ◌++◌, length, Some, None, refl, ap, arith, slice_get, nat_lt}
use Rattle.std.specs.Prelude.{◌-◌, if◌then◌else◌}
use Rattle.std.proofs.lemmas.Bool.{lt-ltb}
use Rattle.x86_values.specs.declared.Bits.TheVariants.{B64}
use Rattle.x86_values.specs.declared.Instr.{Instr}
use Rattle.x86_values.specs.Wrapping.{modulo_width}
use Rattle.instruction_parts.specs.declared.row_types.Row.{Row}
use Rattle.instruction_parts.specs.declared.spelling.Spelling.{Spelling}
use Rattle.instruction_parts.specs.Bytes.{vex_last_byte, vex_bytes, lead_bytes, tail_bytes, front_bytes, bytes_of}
use Rattle.row_fit.specs.Fits.{fits}
use Rattle.row_meaning.specs.Meaning.{little_endian, sign_extended, instr_of, meaning}
use Rattle.row_relation.specs.Spells.{Spells}
use Rattle.plain_spelling.specs.Values.{low_bytes}
use Rattle.opcode_rows.specs.Table.{table}
use Rattle.listing_run.specs.SampleRun.Generator.{kind_bytes, instr_bytes}
use Rattle.listing_run.specs.SampleRun.Made.{IsAimedLow}
use Rattle.listing_run.proofs.SampleRun.Rows.{nop_row, store_row, number_row, load_row, branch_row, call_row, wide_load_row, add_row, at-nop, at-store, at-number, at-load, at-branch, at-call, at-wide_load, at-add}
use Rattle.listing_run.proofs.SampleRun.Spelled.{parts, registers, short_vex, fits-nop, fits-store, fits-number, fits-load, fits-branch, fits-call, fits-wide_load, fits-add}
use Rattle.listing_run.proofs.SampleRun.Aims.{meant, aim-nop, aim-store, aim-number, aim-load, aim-branch, aim-call, aim-wide_load, aim-add}

-- the bytes are those of an instruction at an address
pub record IsOne (ip : ℕ) (bytes : List ℕ) : Type 0 where
  pub instr : Instr
  pub some : 1 ≤ length bytes
  pub short : length bytes ≤ 7
  pub spelled : Spells table B64 ip bytes instr
  pub aim : IsAimedLow instr

-- an instruction by its row and parts
by_parts : (ip code : ℕ) (row : Row) (s : Spelling) (bytes : List ℕ) → slice_get table code ≡ Some row
    → bytes_of row s ≡ bytes → fits B64 row s ≡ true
    → 1 ≤ length bytes → length bytes ≤ 7 → IsAimedLow (meant ip code row s) → IsOne ip bytes
unfolding meaning instr_of
by_parts ip code row s bytes at is fit some short aim = record {
  instr = meant ip code row s;
  some = some;
  short = short;
  spelled = (omega arith, (row, at, (s, record { bytes_are = is; fitting = fit; means = refl })));
  aim = aim;
}

-- the four bytes of a number are bytes
byte : (x : ℕ) → nat_lt (x % 256) 256 ≡ true
byte x = lt-ltb (x % 256) 256 (omega arith)

four : (x : ℕ) → low_bytes 4 x ≡ x % 256 ∷ x / 256 % 256 ∷ x / 256 / 256 % 256 ∷ x / 256 / 256 / 256 % 256 ∷ []
unfolding low_bytes
four x = refl

abbrev byte_1 : ℕ → ℕ
byte_1 x = x / 256 % 256

abbrev byte_2 : ℕ → ℕ
byte_2 x = x / 256 / 256 % 256

abbrev byte_3 : ℕ → ℕ
byte_3 x = x / 256 / 256 / 256 % 256

-- ---- by kind

one_nop : (ip : ℕ) → IsOne ip (0x90 ∷ [])
unfolding lead_bytes tail_bytes front_bytes bytes_of
one_nop ip =
    by_parts ip 290 nop_row (parts [] None 0x90 None [] []) (0x90 ∷ []) at-nop refl fits-nop
    (omega arith) (omega arith) (aim-nop ip)

modrm_of : (x : ℕ) → x < 64 → 3 * 64 + x / 8 * 8 + x % 8 ≡ 0xC0 + x
modrm_of x lt = omega arith

one_store : (ip x : ℕ) → x < 64 → IsOne ip (0x48 ∷ 0x89 ∷ (0xC0 + x) ∷ [])
unfolding lead_bytes tail_bytes front_bytes bytes_of
one_store ip x lt =
    by_parts ip 275 store_row (parts (0x48 ∷ []) None 0x89 (registers (x / 8) (x % 8)) [] [])
    (0x48 ∷ 0x89 ∷ (0xC0 + x) ∷ []) at-store
    (ap (λ (m : ℕ). 0x48 ∷ 0x89 ∷ m ∷ []) (modrm_of x lt))
    (fits-store (x / 8) (x % 8) (lt-ltb (x / 8) 8 (omega arith)) (lt-ltb (x % 8) 8 (omega arith)))
    (omega arith) (omega arith) (aim-store ip (x / 8) (x % 8))

one_add : (ip x : ℕ) → x < 64 → IsOne ip (0xC5 ∷ 0xF8 ∷ 0x58 ∷ (0xC0 + x) ∷ [])
unfolding vex_last_byte vex_bytes lead_bytes tail_bytes front_bytes bytes_of
one_add ip x lt =
    by_parts ip 1496 add_row (parts [] (Some short_vex) 0x58 (registers (x / 8) (x % 8)) [] [])
    (0xC5 ∷ 0xF8 ∷ 0x58 ∷ (0xC0 + x) ∷ []) at-add
    (ap (λ (m : ℕ). 0xC5 ∷ 0xF8 ∷ 0x58 ∷ m ∷ []) (modrm_of x lt))
    (fits-add (x / 8) (x % 8) (lt-ltb (x / 8) 8 (omega arith)) (lt-ltb (x % 8) 8 (omega arith)))
    (omega arith) (omega arith) (aim-add ip (x / 8) (x % 8))

one_load : (ip x : ℕ) → x < 256 → IsOne ip (0x8B ∷ 0x43 ∷ x ∷ [])
unfolding lead_bytes tail_bytes front_bytes bytes_of
one_load ip x lt =
    by_parts ip 278 load_row (parts [] None 0x8B (Some (record { mode3 = 1; reg = 0; rm = 3 })) (x ∷ []) [])
    (0x8B ∷ 0x43 ∷ x ∷ []) at-load refl
    (fits-load x (lt-ltb x 256 lt)) (omega arith) (omega arith) (aim-load ip x)

one_branch : (ip x : ℕ) → x < 256 → IsOne ip (0x75 ∷ x ∷ [])
unfolding lead_bytes tail_bytes front_bytes bytes_of
one_branch ip x lt =
    by_parts ip 169 branch_row (parts [] None 0x75 None [] (x ∷ [])) (0x75 ∷ x ∷ []) at-branch refl
    (fits-branch x (lt-ltb x 256 lt)) (omega arith) (omega arith) (aim-branch ip x)

one_call : (ip x : ℕ) → IsOne ip ((0xE8 ∷ []) ++ low_bytes 4 x)
unfolding lead_bytes tail_bytes front_bytes bytes_of low_bytes
one_call ip x =
    by_parts ip 623 call_row (parts [] None 0xE8 None [] (x % 256 ∷ byte_1 x ∷ byte_2 x ∷ byte_3 x ∷ []))
    ((0xE8 ∷ []) ++ low_bytes 4 x) at-call refl
    (fits-call (x % 256) (byte_1 x) (byte_2 x) (byte_3 x)
    (byte x) (byte (x / 256)) (byte (x / 256 / 256)) (byte (x / 256 / 256 / 256)))
    (omega arith) (omega arith) (aim-call ip (x % 256) (byte_1 x) (byte_2 x) (byte_3 x))

one_number : (ip d x : ℕ) → d < 8 → IsOne ip (((0xB8 + d) ∷ []) ++ low_bytes 4 x)
unfolding lead_bytes tail_bytes front_bytes bytes_of low_bytes
one_number ip d x lt =
    by_parts ip 346 number_row (parts [] None (0xB8 + d) None [] (x % 256 ∷ byte_1 x ∷ byte_2 x ∷ byte_3 x ∷ []))
    (((0xB8 + d) ∷ []) ++ low_bytes 4 x) at-number refl
    (fits-number d (x % 256) (byte_1 x) (byte_2 x) (byte_3 x) lt
    (byte x) (byte (x / 256)) (byte (x / 256 / 256)) (byte (x / 256 / 256 / 256)))
    (omega arith) (omega arith) (aim-number ip (0xB8 + d) (x % 256) (byte_1 x) (byte_2 x) (byte_3 x))

-- a number below 2 to the power of 16 in four bytes is no negative one
with_high_bit : (x : ℕ) → x < 65536 → sign_extended 64 (low_bytes 4 x) ≡ x
unfolding sign_extended little_endian low_bytes
with_high_bit x lt = small (x % 256 + 256 * (byte_1 x + 256 * (byte_2 x + 256 * (byte_3 x + 256 * 0)))) (omega arith)
  where
    small : (v : ℕ) → v ≡ x → (if nat_lt (2 * v) (2 ^ 32) then v % 2 ^ 64 else (v + (2 ^ 64 - 2 ^ 32)) % 2 ^ 64) ≡ x
    small v e = rw (lt-ltb (2 * v) (2 ^ 32) (omega (arith, e))) (omega (arith, e))

low_target : (ip x : ℕ) → ip + 7 + x < 2 ^ 24 → (s : ℕ) → s ≡ x → modulo_width B64 (modulo_width B64 (ip + 7) + s) < 2 ^ 24
low_target ip x lt s e = omega (arith, e)

one_wide_load : (ip x : ℕ) → x < 65536 → ip < 2 ^ 23 → IsOne ip ((0x48 ∷ 0x8B ∷ 0x05 ∷ []) ++ low_bytes 4 x)
unfolding lead_bytes tail_bytes front_bytes bytes_of low_bytes
one_wide_load ip x lt low =
    by_parts ip 279 wide_load_row
    (parts (0x48 ∷ []) None 0x8B (Some (record { mode3 = 0; reg = 0; rm = 5 }))
    (x % 256 ∷ byte_1 x ∷ byte_2 x ∷ byte_3 x ∷ []) [])
    ((0x48 ∷ 0x8B ∷ 0x05 ∷ []) ++ low_bytes 4 x) at-wide_load refl
    (fits-wide_load (x % 256) (byte_1 x) (byte_2 x) (byte_3 x)
    (byte x) (byte (x / 256)) (byte (x / 256 / 256)) (byte (x / 256 / 256 / 256)))
    (omega arith) (omega arith)
    (aim-wide_load ip (x % 256) (byte_1 x) (byte_2 x) (byte_3 x)
    (low_target ip x (omega arith) (sign_extended 64 (low_bytes 4 x)) (with_high_bit x lt)))

-- **each instruction that is drawn is one**
one_of : (ip kind r q : ℕ) → ip < 2 ^ 23 → kind < 8 → IsOne ip (kind_bytes kind r q)
unfolding kind_bytes
one_of ip zero r q low lt = one_nop ip
one_of ip (suc zero) r q low lt = one_store ip (q % 64) (omega arith)
one_of ip (suc (suc zero)) r q low lt = one_number ip (q % 8) r (omega arith)
one_of ip (suc (suc (suc zero))) r q low lt = one_load ip (q % 256) (omega arith)
one_of ip (suc (suc (suc (suc zero)))) r q low lt = one_branch ip (q % 256) (omega arith)
one_of ip (suc (suc (suc (suc (suc zero))))) r q low lt = one_call ip (q % 65536)
one_of ip (suc (suc (suc (suc (suc (suc zero)))))) r q low lt = one_wide_load ip (q % 65536) (omega arith) low
one_of ip (suc (suc (suc (suc (suc (suc (suc zero))))))) r q low lt = one_add ip (q % 64) (omega arith)
one_of ip (suc (suc (suc (suc (suc (suc (suc (suc k)))))))) r q low lt = absurd (omega arith)

-- the same of the instruction that a number draws
pub drawn-one : (ip r : ℕ) → ip < 2 ^ 23 → IsOne ip (instr_bytes r)
unfolding instr_bytes
drawn-one ip r low = one_of ip (r % 8) r (r / 8) low (omega arith)
