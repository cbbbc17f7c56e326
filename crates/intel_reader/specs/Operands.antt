-- Which operands the rows take, by classes: what an Intel text shows of an operand, as far as rows are told apart by it.
use Rattle.std.specs.Prelude.{ℕ, ◌+◌, ◌*◌, ◌==◌, Bool, true, false, ◌&&◌, ◌||◌, if◌then◌else◌, List, [], ◌∷◌, None}
use Rattle.x86_values.specs.declared.Bits.{Bits}
use Rattle.x86_values.specs.declared.Bits.TheVariants.{B16, B32, B64}
use Rattle.x86_values.specs.declared.Register.{Register}
use Rattle.x86_values.specs.declared.Register.TheVariants.{Low8, High8, R16, R32, R64, Xmm, Rip}
use Rattle.x86_values.specs.declared.DispSize.TheVariants.{D0}
use Rattle.x86_values.specs.declared.Operand.{Operand}
use Rattle.x86_values.specs.declared.Operand.TheVariants.{Absent, Reg, Mem, Imm, Near, Far}
use Rattle.instruction_parts.specs.declared.row_types.Row.{Row}
use Rattle.instruction_parts.specs.declared.kinds.Method.{Method}
use Rattle.instruction_parts.specs.declared.kinds.Method.TheVariants as method
use Rattle.instruction_parts.specs.declared.kinds.File.{File}
use Rattle.instruction_parts.specs.declared.kinds.File.TheVariants as file
use Rattle.instruction_parts.specs.Kinds.{method_of, file_of, fixed_number}
use Rattle.instruction_parts.specs.Sizes.{exists_in}
use Rattle.row_fit.specs.Fits.{kind_at}
use Rattle.row_meaning.specs.Meaning.{word_or_dword}
use Rattle.plain_spelling.specs.Forms.{is_variant_of}
use Rattle.plain_spelling.specs.PlainTail.{plain_size}
use Rattle.intel_reader.specs.declared.operands.OperandClass.{OperandClass}
use Rattle.intel_reader.specs.declared.operands.OperandClass.TheVariants as class
use Rattle.intel_reader.specs.declared.generated_operands.TheConstants.{OPERANDS}

-- ---- classes

-- the class of a register
unfoldable pub class_of_register : Register → OperandClass
class_of_register (Low8 n) = if n == 0 then class.Al else class.Byte
class_of_register (High8 n) = class.Byte
class_of_register (R16 n) = if n == 0 then class.Ax else class.Word
class_of_register (R32 n) = if n == 0 then class.Eax else class.Dword
class_of_register (R64 n) = if n == 0 then class.Rax else class.Qword
class_of_register (Xmm n) = class.Xmm
class_of_register _ = class.Other

-- an operand of a class, of the variant that the class has; a number is a near target or an immediate
unfoldable pub sample : Bool → OperandClass → Operand
sample near class.Absent = Absent
sample near class.Number = if near then Near 0 else Imm 0
sample near class.Pointer = Far 0 0
sample near class.Address = Mem (record { base = None; index = None; scale = 1; disp_size = D0; disp = 0 })
sample near _ = Reg Rip

-- ---- the registers that a kind names

-- the general registers of a size
unfoldable pub is_of_size : Bits → OperandClass → Bool
is_of_size B16 class.Ax = true
is_of_size B16 class.Word = true
is_of_size B32 class.Eax = true
is_of_size B32 class.Dword = true
is_of_size B64 class.Rax = true
is_of_size B64 class.Qword = true
is_of_size _ _ = false

-- the registers of 8 bits
unfoldable pub is_byte : OperandClass → Bool
is_byte class.Al = true
is_byte class.Byte = true
is_byte _ = false

-- the vector registers of 128 bits
unfoldable pub is_xmm : OperandClass → Bool
is_xmm class.Xmm = true
is_xmm _ = false

-- the registers that are neither general ones nor of 128 bits
unfoldable pub is_other : OperandClass → Bool
is_other class.Other = true
is_other _ = false

-- a file has registers of this class, at an operand size
unfoldable pub names_operand : Bits → File → OperandClass → Bool
names_operand size file.Byte c = is_byte c
names_operand size file.Word c = is_of_size B16 c
names_operand size file.Dword c = is_of_size B32 c
names_operand size file.Qword c = is_of_size B64 c
names_operand size file.OperandSize c = is_of_size size c
names_operand size file.WordOrDword c = is_of_size (word_or_dword size) c
names_operand size file.ByW c = is_of_size B32 c || is_of_size B64 c
names_operand size file.Native c = is_of_size B32 c || is_of_size B64 c
names_operand size file.Xmm c = is_xmm c
names_operand size file.Vector c = is_xmm c || is_other c
names_operand size _ c = is_other c

-- the register has the number that the opcode fixes, as far as the class says it: 0 is AL, AX, EAX or RAX
unfoldable pub class_has_number : ℕ → OperandClass → Bool
class_has_number number class.Al = number == 0
class_has_number number class.Ax = number == 0
class_has_number number class.Eax = number == 0
class_has_number number class.Rax = number == 0
class_has_number number class.Byte = if number == 0 then false else true
class_has_number number class.Word = if number == 0 then false else true
class_has_number number class.Dword = if number == 0 then false else true
class_has_number number class.Qword = if number == 0 then false else true
class_has_number number _ = true

-- an operand of a kind has the register that the kind fixes, or its register is free
unfoldable pub has_fixed : Method → ℕ → OperandClass → Bool
has_fixed method.Fixed number c = class_has_number number c
has_fixed _ number c = true

-- the file has registers of this class at the operand size that the row has in some mode
unfoldable pub names_class : Row → File → OperandClass → Bool
names_class row how c = names_operand (plain_size B16 row) how c || (names_operand (plain_size B32 row) how c || names_operand (plain_size B64 row) how c)

-- the words of an operand suit its kind as far as they name a register
unfoldable pub words_suit_register : Row → Method → File → ℕ → OperandClass → Bool
words_suit_register row how which number class.Absent = true
words_suit_register row how which number class.Number = true
words_suit_register row how which number class.Pointer = true
words_suit_register row how which number class.Address = true
words_suit_register row how which number c = names_class row which c && has_fixed how number c

-- ---- the operands that a row takes

-- the operand is a near target
unfoldable pub is_near : Method → Bool
is_near method.Near = true
is_near _ = false

-- the row takes an operand of this class as its operand n: of a variant and with a register that the kind allows
unfoldable pub admits : Row → ℕ → OperandClass → Bool
admits row n c =
    is_variant_of row.place (method_of (kind_at row n)) (sample (is_near (method_of (kind_at row n))) c)
    && words_suit_register row (method_of (kind_at row n)) (file_of (kind_at row n)) (fixed_number (kind_at row n)) c

-- the row exists in the mode, and takes operands of these classes
unfoldable pub takes : Bits → Row → OperandClass → OperandClass → OperandClass → OperandClass → Bool
takes bits row a b c d = exists_in bits row && (admits row 0 a && (admits row 1 b && (admits row 2 c && admits row 3 d)))

-- ---- as flags of a number

-- a flag for each class, in their order
unfoldable pub by_class : (OperandClass → Bool) → List Bool → List Bool
by_class p more =
    p class.Absent ∷ p class.Al ∷ p class.Byte ∷ p class.Ax ∷ p class.Word ∷ p class.Eax ∷ p class.Dword ∷ p class.Rax ∷ p class.Qword
    ∷ p class.Xmm ∷ p class.Other ∷ p class.Number ∷ p class.Pointer ∷ p class.Address ∷ more

-- the flags of a row: the modes, and the classes of the four operands
unfoldable pub row_flags : Row → List Bool
row_flags row =
    exists_in B16 row ∷ exists_in B32 row ∷ exists_in B64 row
    ∷ by_class (admits row 0) (by_class (admits row 1) (by_class (admits row 2) (by_class (admits row 3) [])))

-- the flag of a class alone
unfoldable pub one_class : OperandClass → List Bool → List Bool
one_class class.Absent more = true ∷ false ∷ false ∷ false ∷ false ∷ false ∷ false ∷ false ∷ false ∷ false ∷ false ∷ false ∷ false ∷ false ∷ more
one_class class.Al more = false ∷ true ∷ false ∷ false ∷ false ∷ false ∷ false ∷ false ∷ false ∷ false ∷ false ∷ false ∷ false ∷ false ∷ more
one_class class.Byte more = false ∷ false ∷ true ∷ false ∷ false ∷ false ∷ false ∷ false ∷ false ∷ false ∷ false ∷ false ∷ false ∷ false ∷ more
one_class class.Ax more = false ∷ false ∷ false ∷ true ∷ false ∷ false ∷ false ∷ false ∷ false ∷ false ∷ false ∷ false ∷ false ∷ false ∷ more
one_class class.Word more = false ∷ false ∷ false ∷ false ∷ true ∷ false ∷ false ∷ false ∷ false ∷ false ∷ false ∷ false ∷ false ∷ false ∷ more
one_class class.Eax more = false ∷ false ∷ false ∷ false ∷ false ∷ true ∷ false ∷ false ∷ false ∷ false ∷ false ∷ false ∷ false ∷ false ∷ more
one_class class.Dword more = false ∷ false ∷ false ∷ false ∷ false ∷ false ∷ true ∷ false ∷ false ∷ false ∷ false ∷ false ∷ false ∷ false ∷ more
one_class class.Rax more = false ∷ false ∷ false ∷ false ∷ false ∷ false ∷ false ∷ true ∷ false ∷ false ∷ false ∷ false ∷ false ∷ false ∷ more
one_class class.Qword more = false ∷ false ∷ false ∷ false ∷ false ∷ false ∷ false ∷ false ∷ true ∷ false ∷ false ∷ false ∷ false ∷ false ∷ more
one_class class.Xmm more = false ∷ false ∷ false ∷ false ∷ false ∷ false ∷ false ∷ false ∷ false ∷ true ∷ false ∷ false ∷ false ∷ false ∷ more
one_class class.Other more = false ∷ false ∷ false ∷ false ∷ false ∷ false ∷ false ∷ false ∷ false ∷ false ∷ true ∷ false ∷ false ∷ false ∷ more
one_class class.Number more = false ∷ false ∷ false ∷ false ∷ false ∷ false ∷ false ∷ false ∷ false ∷ false ∷ false ∷ true ∷ false ∷ false ∷ more
one_class class.Pointer more = false ∷ false ∷ false ∷ false ∷ false ∷ false ∷ false ∷ false ∷ false ∷ false ∷ false ∷ false ∷ true ∷ false ∷ more
one_class class.Address more = false ∷ false ∷ false ∷ false ∷ false ∷ false ∷ false ∷ false ∷ false ∷ false ∷ false ∷ false ∷ false ∷ true ∷ more

-- the flag of a mode alone
unfoldable pub one_mode : Bits → List Bool → List Bool
one_mode B16 more = true ∷ false ∷ false ∷ more
one_mode B32 more = false ∷ true ∷ false ∷ more
one_mode B64 more = false ∷ false ∷ true ∷ more

-- the flags of a mode and of the classes of four operands
unfoldable pub asked_flags : Bits → OperandClass → OperandClass → OperandClass → OperandClass → List Bool
asked_flags bits a b c d = one_mode bits (one_class a (one_class b (one_class c (one_class d []))))

-- flags as a number, the first as its lowest bit
unfoldable pub number_of : List Bool → ℕ
number_of [] = 0
number_of (flag ∷ flags) = number_of flags * 2 + (if flag then 1 else 0)

-- the numbers of the rows, by code
unfoldable pub row_numbers : List ℕ
row_numbers = OPERANDS
