-- The plain front of an instruction has no more bytes than the front of a fitting spelling that means it.
use Rattle.std.proofs.Common.{◌≡◌, ℕ, ◌+◌, ◌≤◌, Bool, true, false, length, is_some, refl, sym, ◌∙◌, subst, arith, length-append}
use Rattle.x86_values.specs.declared.Bits.{Bits}
use Rattle.x86_values.specs.declared.Code.{Code}
use Rattle.x86_values.specs.declared.Instr.{Instr}
use Rattle.instruction_parts.specs.declared.row_types.Row.{Row}
use Rattle.instruction_parts.specs.declared.spelling.Spelling.{Spelling}
use Rattle.instruction_parts.specs.declared.spelling.PrefixState.{PrefixState}
use Rattle.instruction_parts.specs.Bytes.{bit, lead_bytes, front_bytes, state_of, state_from}
use Rattle.row_fit.specs.Fits.{fields_in_range}
use Rattle.row_fit.specs.Sound.{Sound}
use Rattle.row_meaning.specs.Meaning.{tail_of, instr_of, meaning, kept_repeat}
use Rattle.plain_spelling.specs.PlainFront.{asks_66, asks_67, asked_rex, asked_vex, asked_used, count_repeat, plain_front_of}
use Rattle.row_fit.proofs.FitLaws.{modrm_range, sib_range}
use Rattle.row_relation.specs.GivenSpelling.{Given}
use Rattle.row_relation.proofs.NeedCounts.{counted_fit}
use Rattle.row_relation.proofs.NeedNumbers.{InRange}
use Rattle.row_relation.proofs.NeedAsks.{AskedBits, asked_bits}
use Rattle.row_relation.proofs.NeedStates.{StateIs, state_is}
use Rattle.row_relation.proofs.NeedFront.{needs_66, needs_67, needs_rex, needs_repeat, needs_lead}

-- ---- what was read

-- the instruction that a state, a tail and immediates of a spelling mean
abbrev pub read : Bits → ℕ → Code → Row → Spelling → Instr
read bits ip code row s = instr_of bits code row (state_of bits row s) (tail_of bits ip row s) s.imm.items

-- the tail of a spelling in range is in range
pub tail_range : (bits : Bits) (ip : ℕ) (row : Row) (s : Spelling) → fields_in_range s ≡ true → InRange (tail_of bits ip row s)
tail_range bits ip row s h = record { modrm = modrm_range s h; sib = sib_range s h }

-- what is read is the instruction
pub read_is : (bits : Bits) (ip : ℕ) (code : Code) (row : Row) (s : Spelling) (i : Instr) → Given bits ip code row s i → read bits ip code row s ≡ i
unfolding meaning
read_is bits ip code row s i g = g.means

-- the instruction asks for the bits of its front
pub bits_of : (bits : Bits) (ip : ℕ) (code : Code) (row : Row) (s : Spelling) (i : Instr) → Given bits ip code row s i → AskedBits bits row (state_of bits row s) i
bits_of bits ip code row s i g =
    subst (AskedBits bits row (state_of bits row s)) (read_is bits ip code row s i g)
    (asked_bits bits code row (state_of bits row s) (tail_of bits ip row s) s.imm.items g.is_sound (tail_range bits ip row s g.fitting.ranges))

-- what an instruction keeps of the state
pub record Kept (bits : Bits) (row : Row) (st : PrefixState) (i : Instr) : Type 0 where
  pub lock : i.lock ≡ st.lock
  pub rep : i.rep ≡ kept_repeat row.class st.rep
  pub seg : i.seg ≡ st.seg
  pub address : asks_67 bits i.asize ≡ true → st.addr67 ≡ true

read_keeps : (bits : Bits) (ip : ℕ) (code : Code) (row : Row) (s : Spelling) → Kept bits row (state_of bits row s) (read bits ip code row s)
unfolding instr_of
read_keeps bits ip code row s = record { lock = refl; rep = refl; seg = refl; address = needs_67 bits row (state_of bits row s) s.modrm }

-- and keeps the prefixes that count
pub kept_of : (bits : Bits) (ip : ℕ) (code : Code) (row : Row) (s : Spelling) (i : Instr) → Given bits ip code row s i → Kept bits row (state_of bits row s) i
kept_of bits ip code row s i g = subst (Kept bits row (state_of bits row s)) (read_is bits ip code row s i g) (read_keeps bits ip code row s)

-- ---- the length

bit_le : (a b : Bool) → (a ≡ true → b ≡ true) → bit a ≤ bit b
bit_le false b h = omega arith
bit_le true b h = rw (h refl) (omega arith)

lead_of : (bits : Bits) (row : Row) (s : Spelling) (n : ℕ) → n ≤ length (lead_bytes row.map (state_of bits row s).vex) → n ≤ length (lead_bytes row.map s.vex)
unfolding state_of state_from
lead_of bits row s n h = h

counted_of : (bits : Bits) (row : Row) (s : Spelling) → (let st = state_of bits row s in bit st.lock + (count_repeat st.rep + (bit (is_some st.seg) + (bit st.size66 + (bit st.addr67 + bit (is_some st.rex))))) ≤ length s.prefixes.items)
unfolding state_of state_from
counted_of bits row s = counted_fit bits s.prefixes.items

used_within : (bits : Bits) (row : Row) (s : Spelling) (i : Instr) → Sound row → StateIs bits row (state_of bits row s) → AskedBits bits row (state_of bits row s) i → Kept bits row (state_of bits row s) i → (plain_front_of bits row i).used ≤ length (front_bytes row s)
unfolding plain_front_of asked_used front_bytes
used_within bits row s i sound f k kept =
    let st = state_of bits row s in
    let lock = bit_le i.lock st.lock (λ e. sym kept.lock ∙ e) in
    let rep = needs_repeat bits row st i f kept.rep in
    let seg : bit (is_some i.seg) ≤ bit (is_some st.seg) = rw kept.seg (omega arith) in
    let size = bit_le (asks_66 bits row) st.size66 (needs_66 bits row st f) in
    let address = bit_le (asks_67 bits i.asize) st.addr67 kept.address in
    let rex = bit_le (is_some (asked_rex row i)) (is_some st.rex) (needs_rex bits row st i f k) in
    let lead : length (lead_bytes row.map (asked_vex row i)) ≤ length (lead_bytes row.map s.vex) = lead_of bits row s _ (needs_lead bits row st i sound f k) in
    let all : bit st.lock + (count_repeat st.rep + (bit (is_some st.seg) + (bit st.size66 + (bit st.addr67 + bit (is_some st.rex))))) ≤ length s.prefixes.items = counted_of bits row s in
    let sum = length-append s.prefixes.items (lead_bytes row.map s.vex) in
    omega arith

-- **the plain front has no more bytes than that of the spelling**
pub used_fits : (bits : Bits) (ip : ℕ) (code : Code) (row : Row) (s : Spelling) (i : Instr) → Given bits ip code row s i → (plain_front_of bits row i).used ≤ length (front_bytes row s)
used_fits bits ip code row s i g =
    used_within bits row s i g.is_sound (state_is bits row s g.fitting) (bits_of bits ip code row s i g) (kept_of bits ip code row s i g)
