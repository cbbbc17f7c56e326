-- Where control goes behind an instruction of some code.
use Rattle.std.specs.Prelude.{◌≡◌, ℕ, ◌+◌, ◌<◌, Bool, true, false, List, length, drop, Option, Some, None, IsTrue, ◌⊎◌}
use Rattle.x86_values.specs.declared.Bits.{Bits}
use Rattle.x86_values.specs.declared.Decoded.{Decoded}
use Rattle.x86_values.specs.Wrapping.{modulo_width}
use Rattle.row_relation.specs.Spells.{Reading, Read, TooShort, Invalid}
use Rattle.plain_spelling.specs.Values.{distance}
use Rattle.opcode_rows.specs.Sweep.{IsReadAt}
use Rattle.operand_info.specs.declared.columns.Flow.{Flow}
use Rattle.operand_info.specs.declared.columns.Flow.TheVariants.{Next, UnconditionalBranch, IndirectBranch, ConditionalBranch, Return, Call, Exception}
use Rattle.operand_info.specs.ByCode.{flow_of}
use Rattle.operand_info.specs.Operands.{first_value, near_value}
use Rattle.unlisted.specs.declared.Reference.{Reference}
use Rattle.unlisted.specs.declared.Reference.TheVariants.{Rip, Eip, Branch}
use Rattle.unlisted.specs.declared.Relative.{Relative}
use Rattle.unlisted.specs.declared.Shape.{Shape}
use Rattle.unlisted.specs.Measured.{IsMeasuredAs, relative_target}
use Rattle.flow_graph.specs.declared.exits.Follow.{Follow}
use Rattle.flow_graph.specs.declared.exits.Follow.TheVariants.{Listed, Unlisted}

-- the bytes of some code, the address of the first of them, the mode that they are read in, and which instructions are followed
pub record CodeBytes : Type 0 where
  pub bits : Bits
  pub base : ℕ
  pub bytes : List ℕ
  pub follow : Follow

-- some code, made of which instructions are followed, its mode, the address of its first byte, and its bytes
abbrev pub code_bytes_with : Follow → Bits → ℕ → List ℕ → CodeBytes
code_bytes_with follow bits base bytes = record { bits = bits; base = base; bytes = bytes; follow = follow }

-- some code in which the instructions of the table alone are followed
abbrev pub code_bytes : Bits → ℕ → List ℕ → CodeBytes
code_bytes bits base bytes = code_bytes_with Listed bits base bytes

-- what is read at an offset
abbrev pub IsReadIn : CodeBytes → ℕ → Reading → Type 0
IsReadIn code offset reading = IsReadAt code.bits code.base offset (drop offset code.bytes) reading

-- how far an address stands behind the first byte, in the mode
abbrev pub code_offset : CodeBytes → ℕ → ℕ
code_offset code target = distance code.bits code.base target

-- control may go on behind the instruction
unfoldable pub goes_on : Flow → Bool
goes_on UnconditionalBranch = false
goes_on IndirectBranch = false
goes_on Return = false
goes_on Exception = false
goes_on _ = true

-- where control goes on behind an instruction at offset p, it goes to the end of the instruction
pub record GoesOn (p : ℕ) (d : Decoded) (q : ℕ) : Type 0 where
  pub flow : IsTrue (goes_on (flow_of d.instr.code.0))
  pub end : q ≡ p + d.len

-- control may go to the near target of the instruction
unfoldable pub goes_to_target : Flow → Bool
goes_to_target UnconditionalBranch = true
goes_to_target ConditionalBranch = true
goes_to_target Call = true
goes_to_target _ = false

-- where it goes to the near target, it goes to the offset of that, if the instruction has one
pub record GoesToTarget (code : CodeBytes) (d : Decoded) (q : ℕ) : Type 0 where
  pub flow : IsTrue (goes_to_target (flow_of d.instr.code.0))
  pub target : ℕ
  pub near : first_value near_value d.instr ≡ Some target
  pub offset : q ≡ code_offset code target

-- control may go to q from an instruction at p, whether there is a byte or not
abbrev pub Leads : CodeBytes → ℕ → Decoded → ℕ → Type 0
Leads code p d q = GoesOn p d q ⊎ GoesToTarget code d q

-- ---- instructions without a row

-- an instruction without a row stands at an offset: its format alone gives its shape
abbrev pub IsMeasuredIn : CodeBytes → ℕ → Shape → Type 0
IsMeasuredIn code p shape = IsMeasuredAs code.bits (drop p code.bytes) shape

-- what the number of an instruction refers to: XBEGIN goes on, and an aborted transaction continues at its target (XBEGIN)
abbrev pub reference_flow : Reference → Flow
reference_flow Branch = ConditionalBranch
reference_flow Rip = Next
reference_flow Eip = Next

-- the flow of an instruction without a row, by its number: no other than XBEGIN branches
unfoldable pub shape_flow : Option Relative → Flow
shape_flow None = Next
shape_flow (Some r) = reference_flow r.to

-- the address that the number of an instruction at offset p refers to
abbrev pub shape_refers : Bits → ℕ → ℕ → Shape → Option ℕ
shape_refers bits base p shape = relative_target bits (modulo_width bits (base + p)) shape.len shape.relative

-- where it branches, it goes to the offset of that address
pub record GoesToFallback (code : CodeBytes) (p : ℕ) (shape : Shape) (q : ℕ) : Type 0 where
  pub flow : IsTrue (goes_to_target (shape_flow shape.relative))
  pub target : ℕ
  pub refers : shape_refers code.bits code.base p shape ≡ Some target
  pub offset : q ≡ code_offset code target

-- control may go to q from an instruction without a row at p: to its end, and from XBEGIN to its target too
abbrev pub ShapeLeads : CodeBytes → ℕ → Shape → ℕ → Type 0
ShapeLeads code p shape q = (q ≡ p + shape.len) ⊎ GoesToFallback code p shape q

-- control may go to q from p, at which the table reads nothing: nowhere, unless instructions without a row are followed and one stands there
abbrev pub UnreadLeads : Follow → CodeBytes → ℕ → ℕ → Type 0
UnreadLeads Listed code p q = ⊥
UnreadLeads Unlisted code p q = (shape : Shape) × (IsMeasuredIn code p shape × ShapeLeads code p shape q)

-- q is the end of such an instruction at p
abbrev pub UnreadEnds : Follow → CodeBytes → ℕ → ℕ → Type 0
UnreadEnds Listed code p q = ⊥
UnreadEnds Unlisted code p q = (shape : Shape) × (IsMeasuredIn code p shape × (q ≡ p + shape.len))

-- ---- any offset

-- control may go to q from what is read at p: where no instruction is read it goes nowhere, as long as those of the table alone are followed
abbrev pub ReadingLeads : CodeBytes → ℕ → Reading → ℕ → Type 0
ReadingLeads code p (Read d) q = Leads code p d q
ReadingLeads code p TooShort q = UnreadLeads code.follow code p q
ReadingLeads code p Invalid q = UnreadLeads code.follow code p q

-- q is the end of what is read at p
abbrev pub ReadingEnds : CodeBytes → ℕ → Reading → ℕ → Type 0
ReadingEnds code p (Read d) q = q ≡ p + d.len
ReadingEnds code p TooShort q = UnreadEnds code.follow code p q
ReadingEnds code p Invalid q = UnreadEnds code.follow code p q

-- the successors of p: the offsets of bytes to which control may go from the instruction at p
pub record IsSuccessor (code : CodeBytes) (p q : ℕ) : Type 0 where
  pub reading : Reading
  pub reads : IsReadIn code p reading
  pub leads : ReadingLeads code p reading q
  pub inside : q < length code.bytes

-- q is the end of the instruction at p
pub record EndsAt (code : CodeBytes) (p q : ℕ) : Type 0 where
  pub reading : Reading
  pub reads : IsReadIn code p reading
  pub end : ReadingEnds code p reading q
