-- Instructions of whose addresses a resolver knows no symbol.
use Rattle.std.specs.Prelude.{ℕ, Bool, true, ◌&&◌, ◌||◌, not, is_some, if◌then◌else◌, Option, Some, None}
use Rattle.x86_values.specs.declared.Operand.{Operand}
use Rattle.x86_values.specs.declared.Operand.TheVariants.{Absent as AbsentOperand, Reg, Mem as MemOperand, Imm, Near, Far}
use Rattle.x86_values.specs.declared.Instr.{Instr}
use Rattle.text_parts.specs.Addresses.{is_instruction_pointer, is_absolute}
use Rattle.text_parts.specs.Layout.{nth_operand}
use Rattle.text_options.specs.Answers.{Answers}

-- no symbol is known of the target of a near branch, nor of the address of memory with neither base nor index or at the instruction pointer
unfoldable pub is_unnamed : Answers → Operand → Bool
is_unnamed names (Near x) = not (is_some (names x))
is_unnamed names (MemOperand m) = if is_instruction_pointer m.base || is_absolute m then not (is_some (names m.disp)) else true
is_unnamed names _ = true

-- no symbol is known of an address that the instruction names
abbrev pub are_unnamed : Answers → Instr → Bool
are_unnamed names i =
    is_unnamed names (nth_operand i 0)
    && (is_unnamed names (nth_operand i 1) && (is_unnamed names (nth_operand i 2) && is_unnamed names (nth_operand i 3)))
