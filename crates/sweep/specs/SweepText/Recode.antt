-- What recoding tells of an instruction: the bytes of its plain spelling, or the first condition that it fails.
use Rattle.std.specs.Prelude.{ℕ, List, [], ◌++◌, Option, Some, None, Result, Ok, Err, codes, decimal}
use Rattle.hex.specs.Hex.{encode_lower}
use Rattle.x86_values.specs.declared.Bits.{Bits}
use Rattle.x86_values.specs.declared.Instr.{Instr}
use Rattle.x86_values.specs.Wrapping.{modulo_width}
use Rattle.plain_spelling.specs.declared.NoSpelling.{NoSpelling}
use Rattle.plain_spelling.specs.declared.NoSpelling.TheVariants.{Row, OperandKind, Register, Memory, Displacement, Immediate, Target, Prefix, AddressSize, Length}
use Rattle.encoder.specs.Encoding.{encoding}

-- the number of a cause: the conditions are counted from 1
unfoldable pub cause_number : NoSpelling → ℕ
cause_number Row = 1
cause_number (OperandKind operand) = 2
cause_number (Register operand) = 3
cause_number Memory = 4
cause_number Displacement = 5
cause_number (Immediate operand) = 6
cause_number Target = 7
cause_number Prefix = 8
cause_number AddressSize = 9
cause_number Length = 10

-- the operand that a cause names
unfoldable pub cause_operand : NoSpelling → Option ℕ
cause_operand (OperandKind operand) = Some operand
cause_operand (Register operand) = Some operand
cause_operand (Immediate operand) = Some operand
cause_operand _ = None

-- a number in decimal behind a space, nothing where there is none
unfoldable pub operand_digits : Option ℕ → List ℕ
operand_digits None = []
operand_digits (Some operand) = codes " " ++ decimal operand

-- why there is no spelling: a sign, the number of the cause, and that of the operand that it names
unfoldable pub cause_text : NoSpelling → List ℕ
cause_text why = codes "! " ++ decimal (cause_number why) ++ operand_digits (cause_operand why)

-- the bytes of a spelling in lower-case hexadecimal digits, or why there is none
abbrev pub spelling_text : Result (List ℕ) NoSpelling → List ℕ
spelling_text (Ok bytes) = encode_lower bytes
spelling_text (Err why) = cause_text why

-- the bytes of the plain spelling of an instruction at an address, which wraps in the mode, in hexadecimal digits, or why there is none
unfoldable pub recode_text : Bits → ℕ → Instr → List ℕ
recode_text bits address i = spelling_text (encoding bits (modulo_width bits address) i)
