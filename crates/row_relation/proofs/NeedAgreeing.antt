-- The registers of a kind are the same under the plain front of an instruction and under the state that was read.
use Rattle.std.proofs.Common.{◌≡◌, ◌⊎◌, inl, inr, ℕ, zero, suc, ◌+◌, ◌*◌, ◌%◌, ◌<◌, Bool, true, false, ◌&&◌, ◌||◌, not, Option, Some, None, refl, ap, sym, ◌∙◌, arith, if◌then◌else◌}
use Rattle.std.proofs.lemmas.Bool.{or_parts, cases_Bool, not-true}
use Rattle.x86_values.specs.declared.Bits.{Bits}
use Rattle.x86_values.specs.declared.Bits.TheVariants.{B16, B32, B64}
use Rattle.x86_values.specs.declared.Instr.{Instr}
use Rattle.x86_values.specs.declared.Register.TheVariants.{Seg, St, Mm}
use Rattle.x86_values.specs.Registers.{segment_number}
use Rattle.instruction_parts.specs.declared.row_types.Row.{Row}
use Rattle.instruction_parts.specs.declared.row_types.Size.{Size}
use Rattle.instruction_parts.specs.declared.row_types.Size.TheVariants.{None as NoSize, O16, O32, O32or64, O64, W0 as SizeW0, W1 as SizeW1}
use Rattle.instruction_parts.specs.declared.kinds.File.{File}
use Rattle.instruction_parts.specs.declared.kinds.File.TheVariants as file
use Rattle.instruction_parts.specs.declared.spelling.Vex.{Vex}
use Rattle.instruction_parts.specs.declared.spelling.PrefixState.{PrefixState}
use Rattle.instruction_parts.specs.Counting.{is_64, rex_bit}
use Rattle.instruction_parts.specs.Sizes.{is_vex_row, has_caret, has_bang, operand_size, state_size, bit_w, rex_w}
use Rattle.row_fit.specs.Fits.{size_fits}
use Rattle.row_meaning.specs.Meaning.{general_register, byte_register, vector, word_or_dword, size_by_w, native_size, segment_numbered, register_of}
use Rattle.plain_spelling.specs.PlainFront.{register_number, asks_rex_w, asks_vex_w, asks_66, asked_rex, asked_vex, plain_front_of}
use Rattle.plain_spelling.specs.PlainTail.{plain_size}
use Rattle.plain_spelling.specs.Writable.{Writable, plain_w, says_size, says_w, file_is_told}
use Rattle.plain_spelling.proofs.PlainFrontLaws.{plain_rex_w, plain_state_size}
use Rattle.row_relation.proofs.WrittenSizes.{plain_size_fits, size-told, word_or_dword-told}
use Rattle.row_relation.proofs.NeedNumbers.{number-general_register, number-vector, number-byte}
use Rattle.row_relation.proofs.NeedStates.{StateIs}
use Rattle.row_relation.proofs.NeedFront.{size_by}

-- ---- W of the plain front

-- W as VEX or REX have it
abbrev w_of : Option Vex → Option ℕ → Bool
w_of vex rex = elim vex [ None ↦ rex_bit 3 rex | Some v ↦ v.w ]

-- W as the row asks for it
abbrev w_asked : Row → Bool → Bool
w_asked row vex = elim vex [ true ↦ asks_vex_w row | false ↦ asks_rex_w row ]

plain_w_vex : (row : Row) (i : Instr) → is_vex_row row ≡ true → w_of (asked_vex row i) (asked_rex row i) ≡ w_asked row (is_vex_row row)
unfolding asked_vex
plain_w_vex row i e = rw e

plain_w_rex : (row : Row) (i : Instr) → is_vex_row row ≡ false → w_of (asked_vex row i) (asked_rex row i) ≡ w_asked row (is_vex_row row)
unfolding asked_vex
plain_w_rex row i e = let k : rex_bit 3 (asked_rex row i) ≡ asks_rex_w row = plain_rex_w row i ∙ (rw e) in rw e k

-- W of the plain front is that of the row
pub plain_bit_w : (bits : Bits) (row : Row) (i : Instr) → bit_w bits (plain_front_of bits row i) ≡ plain_w bits row
unfolding bit_w plain_front_of plain_w
plain_bit_w bits row i = elim (cases_Bool (is_vex_row row)) [
  | inl e ↦ ap (λ (w : Bool). is_64 bits && w) (plain_w_vex row i e)
  | inr e ↦ ap (λ (w : Bool). is_64 bits && w) (plain_w_rex row i e)
]

-- ---- W that a row tells

-- in 64-bit mode a size of 64 that no mark gives comes from W
qword_is_w : (bang caret w size66 : Bool) → (caret || bang) ≡ false → is_64 (size_by B64 bang w size66 caret) ≡ w
qword_is_w true true w size66 h = cc
qword_is_w true false w size66 h = cc
qword_is_w false true w size66 h = cc
qword_is_w false false true size66 h = refl
qword_is_w false false false true h = refl
qword_is_w false false false false h = refl

operand_size_w : (row : Row) (w size66 : Bool) → (has_caret row || has_bang row) ≡ false → is_64 (operand_size B64 row w size66) ≡ w
unfolding operand_size
operand_size_w row w size66 h = qword_is_w (has_bang row) (has_caret row) w size66 h

-- the row takes W from its size, or says its size without marks
says_w_by : (size : Size) (marked : Bool) → (elim size [ SizeW0 ↦ true | SizeW1 ↦ true | size ↦ says_size size && not marked ]) ≡ true → ((says_size size ≡ true) × (marked ≡ false)) ⊎ ((size ≡ SizeW0) ⊎ (size ≡ SizeW1))
says_w_by SizeW0 marked h = inr (inl refl)
says_w_by SizeW1 marked h = inr (inr refl)
says_w_by O16 marked h = inl (refl, not-true marked h)
says_w_by O32 marked h = inl (refl, not-true marked h)
says_w_by O64 marked h = inl (refl, not-true marked h)
says_w_by NoSize marked h = cc
says_w_by O32or64 marked h = cc

size_fits_w : (bits : Bits) (size : Size) (a b : Bits) (v w : Bool) → (size ≡ SizeW0) ⊎ (size ≡ SizeW1) → size_fits bits size a v ≡ true → size_fits bits size b w ≡ true → v ≡ w
unfolding size_fits
size_fits_w bits SizeW0 a b v w e h k = not-true v h ∙ sym (not-true w k)
size_fits_w bits SizeW1 a b v w e h k = h ∙ sym k
size_fits_w bits NoSize a b v w (inl e) h k = cc
size_fits_w bits NoSize a b v w (inr e) h k = cc
size_fits_w bits O16 a b v w (inl e) h k = cc
size_fits_w bits O16 a b v w (inr e) h k = cc
size_fits_w bits O32 a b v w (inl e) h k = cc
size_fits_w bits O32 a b v w (inr e) h k = cc
size_fits_w bits O64 a b v w (inl e) h k = cc
size_fits_w bits O64 a b v w (inr e) h k = cc
size_fits_w bits O32or64 a b v w (inl e) h k = cc
size_fits_w bits O32or64 a b v w (inr e) h k = cc

state_w_legacy : (bits : Bits) (st : PrefixState) → st.vex ≡ None → bit_w bits st ≡ (is_64 bits && rex_w st)
unfolding bit_w
state_w_legacy bits st e = rw e

plain_w_legacy : (bits : Bits) (row : Row) → is_vex_row row ≡ false → plain_w bits row ≡ (is_64 bits && asks_rex_w row)
unfolding plain_w
plain_w_legacy bits row e = rw e

state_qword : (row : Row) (st : PrefixState) → (has_caret row || has_bang row) ≡ false → is_64 (state_size B64 row st) ≡ rex_w st
unfolding state_size
state_qword row st h = operand_size_w row (rex_w st) st.size66 h

plain_qword : (row : Row) → (has_caret row || has_bang row) ≡ false → is_vex_row row ≡ false → is_64 (plain_size B64 row) ≡ asks_rex_w row
unfolding plain_size
plain_qword row h e = rw e (operand_size_w row (asks_rex_w row) (asks_66 B64 row) h)

w_by_size : (bits : Bits) (row : Row) (st : PrefixState) → StateIs bits row st → Writable bits row → says_size row.size ≡ true → (is_vex_row row || (has_caret row || has_bang row)) ≡ false → bit_w bits st ≡ plain_w bits row
w_by_size B16 row st f w says marks =
    let m = or_parts (is_vex_row row) (has_caret row || has_bang row) marks in state_w_legacy B16 st (f.legacy m.0) ∙ sym (plain_w_legacy B16 row m.0)
w_by_size B32 row st f w says marks =
    let m = or_parts (is_vex_row row) (has_caret row || has_bang row) marks in state_w_legacy B32 st (f.legacy m.0) ∙ sym (plain_w_legacy B32 row m.0)
w_by_size B64 row st f w says marks =
    let m = or_parts (is_vex_row row) (has_caret row || has_bang row) marks in
    let told = ap is_64 (size-told B64 row st f.size w.size says) in
    let same : rex_w st ≡ asks_rex_w row = sym (state_qword row st m.1) ∙ told ∙ plain_qword row m.1 m.0 in
    state_w_legacy B64 st (f.legacy m.0) ∙ same ∙ sym (plain_w_legacy B64 row m.0)

-- **a row that tells its W has it under any prefixes that fit**
pub w-told : (bits : Bits) (row : Row) (st : PrefixState) → StateIs bits row st → Writable bits row → says_w row ≡ true → bit_w bits st ≡ plain_w bits row
unfolding says_w
w-told bits row st f w says = elim (says_w_by row.size _ says) [
  | inl h ↦ w_by_size bits row st f w h.0 h.1
  | inr h ↦ size_fits_w bits row.size (state_size bits row st) (plain_size bits row) (bit_w bits st) (plain_w bits row) h f.size (plain_size_fits bits row w.size)
]

-- ---- registers of a file

front_byte : (bits : Bits) (row : Row) (i : Instr) (n : ℕ) → byte_register (plain_front_of bits row i).rex n ≡ byte_register (asked_rex row i) n
unfolding plain_front_of
front_byte bits row i n = refl

-- the files whose registers depend on nothing but the mode and the row, or on what the row tells, name the same under both
pub same_file : (bits : Bits) (row : Row) (st : PrefixState) (i : Instr) (f : File) (n : ℕ) → StateIs bits row st → Writable bits row → file_is_told row f ≡ true → (f ≡ file.Byte → byte_register (asked_rex row i) n ≡ byte_register st.rex n) → register_of bits row (plain_front_of bits row i) f n ≡ register_of bits row st f n
unfolding register_of file_is_told
same_file bits row st i file.Byte n x w told h = front_byte bits row i n ∙ h refl
same_file bits row st i file.OperandSize n x w told h =
    ap (λ (b : Bits). general_register b n) (plain_state_size bits row i ∙ sym (size-told bits row st x.size w.size told))
same_file bits row st i file.WordOrDword n x w told h =
    ap (λ (b : Bits). general_register b n) (ap word_or_dword (plain_state_size bits row i) ∙ sym (word_or_dword-told bits row st x.size w.size told))
same_file bits row st i file.ByW n x w told h =
    ap (λ (b : Bool). general_register (size_by_w b) n) (plain_bit_w bits row i ∙ sym (w-told bits row st x w told))
same_file bits row st i _ n x w told h = refl

segment_back : (n : ℕ) → n < 8 → segment_numbered (segment_number (segment_numbered n) % 8) ≡ segment_numbered n
unfolding segment_numbered
segment_back zero h = refl
segment_back (suc zero) h = refl
segment_back (suc (suc zero)) h = refl
segment_back (suc (suc (suc zero))) h = refl
segment_back (suc (suc (suc (suc zero)))) h = refl
segment_back (suc (suc (suc (suc (suc zero))))) h = refl
segment_back (suc (suc (suc (suc (suc (suc zero)))))) h = refl
segment_back (suc (suc (suc (suc (suc (suc (suc zero))))))) h = refl
segment_back (suc (suc (suc (suc (suc (suc (suc (suc n)))))))) h = absurd (omega arith)

low_back : (n : ℕ) → n % 8 % 8 ≡ n % 8
low_back n = omega arith

-- **a register's own number names it again**
pub number_back : (bits : Bits) (row : Row) (st p : PrefixState) (f : File) (n : ℕ) → register_of bits row p f (register_number (register_of bits row st f n)) ≡ register_of bits row p f n
unfolding register_of register_number
number_back bits row st p file.Byte n = ap (byte_register p.rex) (number-byte st.rex n)
number_back bits row st p file.OperandSize n = ap (general_register (state_size bits row p)) (number-general_register (state_size bits row st) n)
number_back bits row st p file.WordOrDword n = ap (general_register (word_or_dword (state_size bits row p))) (number-general_register (word_or_dword (state_size bits row st)) n)
number_back bits row st p file.ByW n = ap (general_register (size_by_w (bit_w bits p))) (number-general_register (size_by_w (bit_w bits st)) n)
number_back bits row st p file.Native n = ap (general_register (native_size bits)) (number-general_register (native_size bits) n)
number_back bits row st p file.Segment n = ap Seg (segment_back (n % 8) (omega arith))
number_back bits row st p file.Stack n = ap St (low_back n)
number_back bits row st p file.Mmx n = ap Mm (low_back n)
number_back bits row st p file.Vector n = ap (vector row.l) (number-vector row.l n)
number_back bits row st p _ n = refl
