-- The words in front of an instruction's operands: its prefixes, where the operands do not show them, and its name.
use Rattle.std.specs.Prelude.{ℕ, Bool, true, false, not, ◌&&◌, ◌||◌, if◌then◌else◌, List, [], ◌++◌, Option, Some, None, unwrap_or, bytes_eq, codes}
use Rattle.std.specs.List.{list_any}
use Rattle.x86_values.specs.declared.Bits.{Bits}
use Rattle.x86_values.specs.declared.Bits.TheVariants.{B16, B32, B64}
use Rattle.x86_values.specs.declared.Register.{Register}
use Rattle.x86_values.specs.declared.Register.TheVariants.{R16, R32, R64, Eip, Rip}
use Rattle.x86_values.specs.declared.Operand.{Operand}
use Rattle.x86_values.specs.declared.Operand.TheVariants.{Mem as MemOperand}
use Rattle.x86_values.specs.declared.Rep.{Rep}
use Rattle.x86_values.specs.declared.Rep.TheVariants.{None as NoRep, F2, F3}
use Rattle.x86_values.specs.declared.Instr.{Instr}
use Rattle.x86_values.specs.Comparing.{same_bits}
use Rattle.instruction_parts.specs.declared.row_types.Row.{Row}
use Rattle.instruction_parts.specs.declared.row_types.Size.{Size}
use Rattle.instruction_parts.specs.declared.row_types.Size.TheVariants.{None as NoSize, O16, O32, O32or64, O64, W0, W1}
use Rattle.instruction_parts.specs.Sizes.{has_mark, operand_size}
pub use Rattle.x86_values.specs.Operands.{is_memory}
use Rattle.text_parts.specs.Registers.{segment_name}

-- ---- LOCK and repeat (Intel SDM volume 2, 2.1.1)

-- the word of LOCK and the space behind it, where the instruction has it
unfoldable pub lock_word : Bool → List ℕ
lock_word true = codes "lock "
lock_word false = []

-- the word of F2 or F3 and the space behind it
unfoldable pub repeat_word : Rep → List ℕ
repeat_word NoRep = []
repeat_word F2 = codes "repne "
repeat_word F3 = codes "rep "

-- ---- the segment, which a memory operand shows

-- some operand is memory
abbrev pub shows_memory : Instr → Bool
shows_memory instr = list_any is_memory instr.ops

-- the segment's name, where no operand is memory
unfoldable pub segment_word : Instr → List ℕ
segment_word instr =
    if shows_memory instr then []
    else (elim instr.seg [ None ↦ [] | Some s ↦ segment_name s ++ codes " " ])

-- ---- sizes

-- a size in bits, in decimal
unfoldable pub size_digits : Bits → List ℕ
size_digits B16 = codes "16"
size_digits B32 = codes "32"
size_digits B64 = codes "64"

-- a letter with a size, as a32
unfoldable pub sized_word : List ℕ → Bits → List ℕ
sized_word letter size = letter ++ (size_digits size ++ codes " ")

-- two sizes are not the same
unfoldable pub differs : Bits → Bits → Bool
differs a b = not (same_bits a b)

-- ---- the address size, which a register of an address shows

-- the address size of a text: the instruction's, else the mode's
abbrev pub text_address_size : Bits → Instr → Bits
text_address_size bits instr = unwrap_or instr.asize bits

-- a general register or the instruction pointer shows the size of an address; a vector index does not
unfoldable pub shows_size : Option Register → Bool
shows_size (Some (R16 n)) = true
shows_size (Some (R32 n)) = true
shows_size (Some (R64 n)) = true
shows_size (Some Eip) = true
shows_size (Some Rip) = true
shows_size _ = false

-- the operand is memory that shows its address size
unfoldable pub shows_address_size : Operand → Bool
shows_address_size (MemOperand m) = shows_size m.base || shows_size m.index
shows_address_size _ = false

-- the jump on CX, ECX or RCX, whose name shows its address size
unfoldable pub is_counter_jump : List ℕ → Bool
is_counter_jump name = bytes_eq name (codes "jrcxz")

-- an address size has a word of its own
unfoldable pub needs_address_word : Bits → Bits → List ℕ → Instr → Bool
needs_address_word bits size name instr =
    differs size bits && (not (is_counter_jump name) && not (list_any shows_address_size instr.ops))

-- the address size, where it is not the mode's and nothing else shows it
unfoldable pub address_word : Bits → List ℕ → Instr → List ℕ
address_word bits name instr =
    elim instr.asize [
      | None ↦ []
      | Some size ↦ if needs_address_word bits size name instr then sized_word (codes "a") size else []
    ]

-- ---- the operand size, on rows that no operand shows it of

-- the row is printed with its operand size
abbrev pub is_sized : Row → Bool
is_sized row = has_mark 4 row

-- the operand size that the row's condition names; by W it is 32 or 64
unfoldable pub named_size : Size → Option Bits
named_size NoSize = None
named_size O16 = Some B16
named_size O32 = Some B32
named_size O32or64 = Some B32
named_size O64 = Some B64
named_size W0 = Some B32
named_size W1 = Some B64

-- the row takes its operand size from W
unfoldable pub is_w_size : Size → Bool
is_w_size W0 = true
is_w_size W1 = true
is_w_size _ = false

-- the operand size that needs no word: 32 where W sets it, else the one without prefixes
unfoldable pub usual_size : Bits → Row → Bits
usual_size bits row = if is_w_size row.size then B32 else operand_size bits row false false

-- the operand size, where the row is printed with it and it is not the usual one
unfoldable pub operand_size_word : Bits → Row → List ℕ
operand_size_word bits row =
    if is_sized row then
    (elim (named_size row.size) [
      | None ↦ []
      | Some size ↦ if differs size (usual_size bits row) then sized_word (codes "o") size else []
    ])
    else []

-- ---- all of them

-- the words of the prefixes, in their order
unfoldable pub prefix_words : Bits → Row → List ℕ → Instr → List ℕ
prefix_words bits row name instr =
    lock_word instr.lock
    ++ (repeat_word instr.rep
    ++ (segment_word instr ++ (address_word bits name instr ++ operand_size_word bits row)))

-- the jump on the counter, by its address size
unfoldable pub counter_jump : Bits → List ℕ
counter_jump B16 = codes "jcxz"
counter_jump B32 = codes "jecxz"
counter_jump B64 = codes "jrcxz"

-- the name of an instruction whose row has this name
unfoldable pub name_text : Bits → List ℕ → Instr → List ℕ
name_text bits name instr =
    if is_counter_jump name then counter_jump (text_address_size bits instr) else name
