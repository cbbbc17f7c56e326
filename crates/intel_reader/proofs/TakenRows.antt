-- What an instruction with a plain spelling says of the operands of its text: its row takes their classes.
use Rattle.std.proofs.Common.{◌≡◌, ℕ, ◌<◌, ◌-◌, ◌==◌, Bool, true, false, ◌&&◌, ◌||◌, Option, Some, None, refl, ap, sym, ◌∙◌, subst, arith, if◌then◌else◌, slice_get}
use Rattle.std.specs.Prelude.{List, unwrap_or, nat_lt}
use Rattle.std.proofs.lemmas.Bool.{and_from, or_left, or_right}
use Rattle.x86_values.specs.declared.Bits.{Bits}
use Rattle.x86_values.specs.declared.Bits.TheVariants.{B16, B32, B64}
use Rattle.x86_values.specs.declared.DispSize.{DispSize}
use Rattle.x86_values.specs.declared.Mem.{Mem}
use Rattle.x86_values.specs.declared.Register.{Register}
use Rattle.x86_values.specs.declared.Register.TheVariants.{Low8, High8, R16, R32, R64, Xmm, Rip}
use Rattle.x86_values.specs.declared.Operand.{Operand}
use Rattle.x86_values.specs.declared.Operand.TheVariants.{Reg as RegOperand, Mem as MemOperand, Imm as ImmOperand, Near as NearOperand, Far as FarOperand}
use Rattle.x86_values.specs.declared.Code.{Code}
use Rattle.x86_values.specs.declared.Instr.{Instr}
use Rattle.x86_values.specs.Wrapping.{modulo_width}
use Rattle.instruction_parts.specs.declared.row_types.Row.{Row}
use Rattle.instruction_parts.specs.declared.row_types.LBit.{LBit}
use Rattle.instruction_parts.specs.declared.row_types.LBit.TheVariants as vector_length
use Rattle.instruction_parts.specs.declared.row_types.OpKind.{OpKind}
use Rattle.instruction_parts.specs.declared.row_types.Place.{Place}
use Rattle.instruction_parts.specs.declared.row_types.Place.TheVariants.{Any as AnyPlace, Memory as OnlyMemory, Register as OnlyRegister}
use Rattle.instruction_parts.specs.declared.kinds.Method.{Method}
use Rattle.instruction_parts.specs.declared.kinds.Method.TheVariants as method
use Rattle.instruction_parts.specs.declared.kinds.File.{File}
use Rattle.instruction_parts.specs.declared.kinds.File.TheVariants as file
use Rattle.instruction_parts.specs.declared.spelling.PrefixState.{PrefixState}
use Rattle.instruction_parts.specs.Kinds.{method_of, file_of, fixed_number}
use Rattle.instruction_parts.specs.Sizes.{bit_w, state_size}
use Rattle.row_fit.specs.Fits.{kind_at}
use Rattle.row_meaning.specs.Meaning.{register_of, general_register, byte_register, vector, word_or_dword, size_by_w, native_size}
use Rattle.opcode_rows.specs.Table.{table, name_of}
use Rattle.plain_spelling.specs.Forms.{is_allowed_in, is_variant_of, operand_at}
use Rattle.plain_spelling.specs.Expressible.{naming_number}
use Rattle.plain_spelling.specs.PlainFront.{plain_front_of}
use Rattle.plain_spelling.specs.PlainTail.{plain_size}
use Rattle.row_relation.specs.Given.{Given}
use Rattle.row_relation.proofs.FitRegisters.{says, register-at}
use Rattle.intel_reader.specs.declared.operands.OperandClass.{OperandClass}
use Rattle.intel_reader.specs.declared.operands.OperandClass.TheVariants as class
use Rattle.intel_reader.specs.Operands.{class_of_register, sample, is_of_size, is_byte, is_xmm, is_other, names_operand, class_has_number, has_fixed, names_class, words_suit_register, is_near, admits, takes, asked_flags, number_of}
use Rattle.intel_reader.specs.Buckets.{order}
use Rattle.row_relation.proofs.AddressCases.{impossible}
use Rattle.intel_words.specs.declared.words.IntelWords.{IntelWords}
use Rattle.intel_words.specs.declared.words.OperandText.{OperandText}
use Rattle.intel_words.specs.declared.words.OperandText.TheVariants.{Absent, Reg, Number, Far, Mem as Address}
use Rattle.intel_words.specs.Words.{words_of}
use Rattle.intel_reader.specs.Assembled.{Assembly, IsCandidate}
use Rattle.intel_reader.specs.Candidate.{address_from, is_near_at, operand_from, text_at, candidate}
use Rattle.intel_reader.specs.Possible.{text_class, class_at, takes_words, asked_by}
use Rattle.intel_reader.proofs.CandidateBack.{variant_at}
use Rattle.intel_reader.proofs.AllowedWords.{made_at, made_given}
use Rattle.intel_reader.proofs.Choosing.{made_is, row_of_candidate}

-- ---- the variant

-- what is said of an operand besides its kind says nothing of the variants that it is
abbrev AreAlike : (X : Type 0) → (X → Operand) → Place → Method → Type 0
AreAlike X operand place how = (x y : X) → is_variant_of place how (operand x) ≡ is_variant_of place how (operand y)

alike : (place : Place) (how : Method) →
    AreAlike Register (λ r. RegOperand r) place how × AreAlike Mem (λ m. MemOperand m) place how × AreAlike ℕ (λ n. NearOperand n) place how
    × AreAlike ℕ (λ n. ImmOperand n) place how
    × ((s o t p : ℕ) → is_variant_of place how (FarOperand s o) ≡ is_variant_of place how (FarOperand t p))
unfolding is_variant_of is_allowed_in
alike AnyPlace method.RegisterOrMemory = (λ x y. refl, λ x y. refl, λ x y. refl, λ x y. refl, λ s o t p. refl)
alike OnlyMemory method.RegisterOrMemory = (λ x y. refl, λ x y. refl, λ x y. refl, λ x y. refl, λ s o t p. refl)
alike OnlyRegister method.RegisterOrMemory = (λ x y. refl, λ x y. refl, λ x y. refl, λ x y. refl, λ s o t p. refl)
alike _ _ = (λ x y. refl, λ x y. refl, λ x y. refl, λ x y. refl, λ s o t p. refl)

-- what holds of two classes holds of one of them
of_two : (P : OperandClass → Type 0) (a b : OperandClass) (t : Bool) → P a → P b → P (if t then a else b)
of_two P a b true x y = x
of_two P a b false x y = y

-- what holds of the classes of registers holds of that of a register
of_registers : (P : OperandClass → Type 0) → P class.Al → P class.Byte → P class.Ax → P class.Word → P class.Eax → P class.Dword → P class.Rax → P class.Qword → P class.Xmm → P class.Other
    → (r : Register) → P (class_of_register r)
unfolding class_of_register
of_registers P al byte ax word eax dword rax qword xmm other (Low8 n) = of_two P class.Al class.Byte (n == 0) al byte
of_registers P al byte ax word eax dword rax qword xmm other (High8 n) = byte
of_registers P al byte ax word eax dword rax qword xmm other (R16 n) = of_two P class.Ax class.Word (n == 0) ax word
of_registers P al byte ax word eax dword rax qword xmm other (R32 n) = of_two P class.Eax class.Dword (n == 0) eax dword
of_registers P al byte ax word eax dword rax qword xmm other (R64 n) = of_two P class.Rax class.Qword (n == 0) rax qword
of_registers P al byte ax word eax dword rax qword xmm other (Xmm n) = xmm
of_registers P al byte ax word eax dword rax qword xmm other _ = other

register_sample : (near : Bool) (r : Register) → sample near (class_of_register r) ≡ RegOperand Rip
unfolding sample
register_sample near r = of_registers (λ c. sample near c ≡ RegOperand Rip) refl refl refl refl refl refl refl refl refl refl r

variant_same : (place : Place) (how : Method) (near : Bool) (a : Bits) (size : DispSize) (t : OperandText)
    → is_variant_of place how (operand_from near a size t) ≡ is_variant_of place how (sample near (text_class t))
unfolding operand_from sample text_class
variant_same place how near a size Absent = refl
variant_same place how near a size (Reg r) = (alike place how).0 r Rip ∙ ap (is_variant_of place how) (sym (register_sample near r))
variant_same place how true a size (Number x) = (alike place how).2 x 0
variant_same place how false a size (Number x) = (alike place how).3 x 0
variant_same place how near a size (Far s o) = (alike place how).4 _ _ 0 0
variant_same place how near a size (Address t) = (alike place how).1 (address_from a size t.inside) _

-- ---- the registers

general_is : (size : Bits) (n : ℕ) → is_of_size size (class_of_register (general_register size n)) ≡ true
unfolding is_of_size general_register class_of_register
general_is B16 n = of_two (λ c. is_of_size B16 c ≡ true) class.Ax class.Word (n == 0) refl refl
general_is B32 n = of_two (λ c. is_of_size B32 c ≡ true) class.Eax class.Dword (n == 0) refl refl
general_is B64 n = of_two (λ c. is_of_size B64 c ≡ true) class.Rax class.Qword (n == 0) refl refl

low_is : (n : ℕ) → is_byte (class_of_register (Low8 n)) ≡ true
unfolding is_byte class_of_register
low_is n = of_two (λ c. is_byte c ≡ true) class.Al class.Byte (n == 0) refl refl

low_or_high : (t : Bool) (n : ℕ) → is_byte (class_of_register (if t then Low8 n else High8 (n - 4))) ≡ true
unfolding is_byte class_of_register
low_or_high true n = low_is n
low_or_high false n = refl

byte_is : (rex : Option ℕ) (n : ℕ) → is_byte (class_of_register (byte_register rex n)) ≡ true
unfolding byte_register
byte_is (Some x) n = low_is n
byte_is None n = low_or_high (nat_lt n 4) n

wide_is : (w : Bool) (n : ℕ) → (is_of_size B32 (class_of_register (general_register (size_by_w w) n)) || is_of_size B64 (class_of_register (general_register (size_by_w w) n))) ≡ true
wide_is true n = or_right _ _ (general_is B64 n)
wide_is false n = or_left _ _ (general_is B32 n)

native_is : (bits : Bits) (n : ℕ) → (is_of_size B32 (class_of_register (general_register (native_size bits) n)) || is_of_size B64 (class_of_register (general_register (native_size bits) n))) ≡ true
native_is B16 n = or_left _ _ (general_is B32 n)
native_is B32 n = or_left _ _ (general_is B32 n)
native_is B64 n = or_right _ _ (general_is B64 n)

vector_is : (l : LBit) (n : ℕ) → (is_xmm (class_of_register (vector l n)) || is_other (class_of_register (vector l n))) ≡ true
unfolding vector class_of_register is_xmm is_other
vector_is vector_length.L256 n = refl
vector_is _ n = refl

-- a file has the classes of its own registers
own_file : (bits : Bits) (row : Row) (state : PrefixState) (f : File) (n : ℕ) (size : Bits) → state_size bits row state ≡ size → names_operand size f (class_of_register (register_of bits row state f n)) ≡ true
unfolding names_operand register_of general_register is_other class_of_register is_xmm
own_file bits row state file.Byte n size e = byte_is state.rex n
own_file bits row state file.Word n size e = general_is B16 n
own_file bits row state file.Dword n size e = general_is B32 n
own_file bits row state file.Qword n size e = general_is B64 n
own_file bits row state file.OperandSize n size e = rw e (general_is size n)
own_file bits row state file.WordOrDword n size e = rw e (general_is (word_or_dword size) n)
own_file bits row state file.ByW n size e = wide_is (bit_w bits state) n
own_file bits row state file.Native n size e = native_is bits n
own_file bits row state file.Segment n size e = refl
own_file bits row state file.Control n size e = refl
own_file bits row state file.Debug n size e = refl
own_file bits row state file.Stack n size e = refl
own_file bits row state file.Mmx n size e = refl
own_file bits row state file.Xmm n size e = refl
own_file bits row state file.Vector n size e = vector_is row.l n

in_some_mode : (bits : Bits) (row : Row) (f : File) (c : OperandClass) → names_operand (plain_size bits row) f c ≡ true → names_class row f c ≡ true
unfolding names_class
in_some_mode B16 row f c h = or_left _ _ h
in_some_mode B32 row f c h = or_right _ _ (or_left _ _ h)
in_some_mode B64 row f c h = or_right _ _ (or_right _ _ h)

-- ---- the numbers of registers

-- the number 0 has the first of two classes, and any other the second
of_number : (n : ℕ) (a b : OperandClass) (t : Bool) → (n == 0) ≡ t → class_has_number n a ≡ (n == 0) → class_has_number n b ≡ (if n == 0 then false else true) → class_has_number n (if t then a else b) ≡ true
of_number n a b true e x y = x ∙ e
of_number n a b false e x y = y ∙ ap (λ (z : Bool). if z then false else true) e

general_number : (size : Bits) (n : ℕ) → class_has_number n (class_of_register (general_register size n)) ≡ true
unfolding class_has_number general_register class_of_register
general_number B16 n = of_number n class.Ax class.Word (n == 0) refl refl refl
general_number B32 n = of_number n class.Eax class.Dword (n == 0) refl refl refl
general_number B64 n = of_number n class.Rax class.Qword (n == 0) refl refl refl

low_number : (n : ℕ) → class_has_number n (class_of_register (Low8 n)) ≡ true
unfolding class_has_number class_of_register
low_number n = of_number n class.Al class.Byte (n == 0) refl refl refl

-- a number of 4 or more is not 0
high_number : (n : ℕ) → nat_lt n 4 ≡ false → (if n == 0 then false else true) ≡ true
high_number n h = grind (arith, h)

byte_number : (rex : Option ℕ) (n : ℕ) → class_has_number n (class_of_register (byte_register rex n)) ≡ true
unfolding byte_register class_has_number class_of_register
byte_number (Some x) n = low_number n
byte_number None n = by_size (nat_lt n 4) refl
  where
    by_size : (t : Bool) → nat_lt n 4 ≡ t → class_has_number n (class_of_register (if t then Low8 n else High8 (n - 4))) ≡ true
    by_size true e = low_number n
    by_size false e = high_number n e

vector_number : (l : LBit) (n k : ℕ) → class_has_number k (class_of_register (vector l n)) ≡ true
unfolding vector class_of_register class_has_number
vector_number vector_length.L256 n k = refl
vector_number _ n k = refl

other_number : (k : ℕ) → class_has_number k class.Other ≡ true
unfolding class_has_number
other_number k = refl

own_number : (bits : Bits) (row : Row) (state : PrefixState) (f : File) (n : ℕ) → class_has_number n (class_of_register (register_of bits row state f n)) ≡ true
unfolding register_of general_register class_of_register class_has_number
own_number bits row state file.Byte n = byte_number state.rex n
own_number bits row state file.Word n = general_number B16 n
own_number bits row state file.Dword n = general_number B32 n
own_number bits row state file.Qword n = general_number B64 n
own_number bits row state file.OperandSize n = general_number (state_size bits row state) n
own_number bits row state file.WordOrDword n = general_number (word_or_dword (state_size bits row state)) n
own_number bits row state file.ByW n = general_number (size_by_w (bit_w bits state)) n
own_number bits row state file.Native n = general_number (native_size bits) n
own_number bits row state file.Segment n = other_number n
own_number bits row state file.Control n = other_number n
own_number bits row state file.Debug n = other_number n
own_number bits row state file.Stack n = other_number n
own_number bits row state file.Mmx n = other_number n
own_number bits row state file.Xmm n = refl
own_number bits row state file.Vector n = vector_number row.l n n

fixed_is : (bits : Bits) (row : Row) (state : PrefixState) (f : File) (how : Method) (kind : OpKind) (r : Register)
    → has_fixed how (fixed_number kind) (class_of_register (register_of bits row state f (naming_number how kind r))) ≡ true
unfolding has_fixed
fixed_is bits row state f method.Fixed kind r = own_number bits row state f (fixed_number kind)
fixed_is bits row state f _ kind r = refl

-- ---- the operands

both : (row : Row) (how : Method) (f : File) (number : ℕ) (r : Register) → (names_class row f (class_of_register r) && has_fixed how number (class_of_register r)) ≡ true
    → words_suit_register row how f number (class_of_register r) ≡ true
unfolding words_suit_register
both row how f number r h =
    of_registers (λ c. words_suit_register row how f number c ≡ (names_class row f c && has_fixed how number c)) refl refl refl refl refl refl refl refl refl refl r ∙ h

register_at : (bits : Bits) (ip : ℕ) (row : Row) (i : Instr) (n : ℕ) (r : Register) → n < 4 → Given bits ip row i → operand_at i n ≡ RegOperand r
    → words_suit_register row (method_of (kind_at row n)) (file_of (kind_at row n)) (fixed_number (kind_at row n)) (class_of_register r) ≡ true
register_at bits ip row i n r below g at =
    let kind : OpKind = kind_at row n in
    let state : PrefixState = plain_front_of bits row i in
    let number : ℕ = naming_number (method_of kind) kind r in
    let made : Register = register_of bits row state (file_of kind) number in
    let same : r ≡ made = register-at bits ip row i n r g below at in
    let named : names_class row (file_of kind) (class_of_register made) ≡ true =
    in_some_mode bits row (file_of kind) (class_of_register made) (own_file bits row state (file_of kind) number (plain_size bits row) (says bits ip row i g).size) in
    let fixed : has_fixed (method_of kind) (fixed_number kind) (class_of_register made) ≡ true = fixed_is bits row state (file_of kind) (method_of kind) kind r in
    subst (λ (x : Register). words_suit_register row (method_of kind) (file_of kind) (fixed_number kind) (class_of_register x) ≡ true) (sym same)
    (both row (method_of kind) (file_of kind) (fixed_number kind) made (and_from _ _ named fixed))

by_text : (bits : Bits) (ip : ℕ) (row : Row) (code : Code) (words : IntelWords) (asize : Option Bits) (size : DispSize) (n : ℕ) (t : OperandText) → n < 4 → Given bits ip row (candidate bits row code words asize size)
    → text_at words n ≡ t → words_suit_register row (method_of (kind_at row n)) (file_of (kind_at row n)) (fixed_number (kind_at row n)) (text_class t) ≡ true
unfolding text_class operand_from words_suit_register
by_text bits ip row code words asize size n Absent below g e = refl
by_text bits ip row code words asize size n (Number x) below g e = refl
by_text bits ip row code words asize size n (Far s o) below g e = refl
by_text bits ip row code words asize size n (Address a) below g e = refl
by_text bits ip row code words asize size n (Reg r) below g e =
    register_at bits ip row (candidate bits row code words asize size) n r below g
    (made_at bits row code words asize size n below ∙ ap (operand_from (is_near_at row n) (unwrap_or asize bits) size) e)

admitted : (bits : Bits) (ip : ℕ) (row : Row) (code : Code) (words : IntelWords) (asize : Option Bits) (size : DispSize) (n : ℕ) → n < 4 → Given bits ip row (candidate bits row code words asize size)
    → admits row n (text_class (text_at words n)) ≡ true
unfolding admits
admitted bits ip row code words asize size n below g =
    let how : Method = method_of (kind_at row n) in
    let t : OperandText = text_at words n in
    let variant : is_variant_of row.place how (operand_from (is_near_at row n) (unwrap_or asize bits) size t) ≡ true =
    variant_at bits ip row (candidate bits row code words asize size) n _ g below (made_at bits row code words asize size n below) in
    let sampled : is_variant_of row.place how (sample (is_near how) (text_class t)) ≡ true =
    sym (variant_same row.place how (is_near_at row n) (unwrap_or asize bits) size t) ∙ variant in
    and_from _ _ sampled (by_text bits ip row code words asize size n t below g refl)

takes_made : (bits : Bits) (ip : ℕ) (row : Row) (code : Code) (words : IntelWords) (asize : Option Bits) (size : DispSize) → Given bits ip row (candidate bits row code words asize size) → takes_words bits row words ≡ true
unfolding takes
takes_made bits ip row code words asize size g =
    let one = λ (n : ℕ) (below : n < 4). admitted bits ip row code words asize size n below g in
    and_from _ _ g.suits.exists
    (and_from _ _ (one 0 (omega arith)) (and_from _ _ (one 1 (omega arith)) (and_from _ _ (one 2 (omega arith)) (one 3 (omega arith)))))

-- **the row of a candidate takes the operands of its text**
pub taken_there : (bits : Bits) (ip : ℕ) (text : List ℕ) (b : Assembly) (row : Row) (words : IntelWords) → IsCandidate bits ip text b → slice_get table b.instr.code.0 ≡ Some row
    → words ≡ words_of bits row (name_of b.instr.code.0) b.instr → takes_words bits row words ≡ true
taken_there bits ip text b row words k at w =
    let made = made_is bits ip text b row b.instr.code words k at refl w in
    takes_made bits (modulo_width bits ip) row b.instr.code words b.instr.asize made.0
    (made_given bits ip text b row b.instr.code words b.instr.asize made.0 k at made.1)

-- a row that is left out has no candidate
pub left_out : (bits : Bits) (ip : ℕ) (text : List ℕ) (b : Assembly) (words : IntelWords) (index asked : ℕ) (answer : Bool) → IsCandidate bits ip text b → asked ≡ number_of (asked_by bits words)
    → ((x : Assembly) (row : Row) → IsCandidate bits ip text x → slice_get table x.instr.code.0 ≡ Some row → words ≡ words_of bits row (name_of x.instr.code.0) x.instr)
    → slice_get order index ≡ Some b.instr.code.0
    → ((mode : Bits) (p q r s : OperandClass) (code : ℕ) (row : Row) → asked ≡ number_of (asked_flags mode p q r s) → slice_get order index ≡ Some code → slice_get table code ≡ Some row
    → answer ≡ takes mode row p q r s)
    → answer ≡ false → ⊥
left_out bits ip text b words index asked answer k e read at tells refused =
    let there = row_of_candidate bits ip text b k in
    let taken = taken_there bits ip text b there.0 words k there.1 (read b there.0 k there.1) in
    let told = tells bits (class_at words 0) (class_at words 1) (class_at words 2) (class_at words 3) b.instr.code.0 there.0 e at there.1 in
    impossible (sym taken ∙ (sym told ∙ refused))
