-- What holds of the rows, the lengths and the forms of branches.
use Rattle.std.specs.Prelude.{◌≡◌, ℕ, ◌+◌, ◌<◌, ◌≤◌, true, List, length, IsTrue, Option, Some, None, slice_get}
use Rattle.std.specs.List.{list_all}
use Rattle.x86_values.specs.declared.Bits.{Bits}
use Rattle.x86_values.specs.declared.Instr.{Instr}
use Rattle.instruction_parts.specs.declared.row_types.Row.{Row}
use Rattle.instruction_parts.specs.declared.row_types.Map.TheVariants.{One, M0f}
use Rattle.instruction_parts.specs.declared.row_types.OpKind.TheVariants.{Jb, Jz}
use Rattle.instruction_parts.specs.Sizes.{exists_in}
use Rattle.row_relation.specs.Spells.{Spells}
use Rattle.opcode_rows.specs.Table.{table}
use Rattle.operand_info.specs.Operands.{near_value, first_value}
use Rattle.branch_sizes.specs.declared.plan.Form.{Form}
use Rattle.branch_sizes.specs.Plan.{lengths_rise_from, is_fit_reach, forms_differ}
use Rattle.move_goals.specs.MovedTargets.Targets.{plain_length}
use Rattle.move_goals.specs.declared.branch_forms.branch.Action.TheVariants.{Jump, Call, Condition, Count}
use Rattle.move_goals.specs.declared.branch_forms.branch.RelativeBranch.{RelativeBranch}
use Rattle.move_goals.specs.BranchForms.Branches.{branch_in, branch_of, in_range, is_pair, short_code, near_code, far_code, opposite_condition}
use Rattle.move_goals.specs.BranchForms.Rows.{offset_row, memory_row}
use Rattle.move_goals.specs.BranchForms.Lengths.{size_byte, address_byte, offset_bytes, slot_bytes}
use Rattle.move_goals.specs.BranchForms.Images.{branch_to, through_slot, short_branch, skip, image_of, pieces_length, form_length}
use Rattle.move_goals.specs.BranchForms.Choices.{choices_of}

-- the rows of the codes
pub record CodeFacts : Type 0 where
  pub short-jump : (size : Bits) → slice_get table (short_code Jump size) ≡ Some (offset_row One 0xEB Jb 20 size)
  pub short-condition : (n : ℕ) (size : Bits) → n < 16 → slice_get table (short_code (Condition n) size) ≡ Some (offset_row One (0x70 + n) Jb 20 size)
  pub short-count : (n : ℕ) (size : Bits) → n < 4 → slice_get table (short_code (Count n) size) ≡ Some (offset_row One (0xE0 + n) Jb 22 size)
  pub near-jump : (size : Bits) → slice_get table (near_code Jump size) ≡ Some (offset_row One 0xE9 Jz 20 size)
  pub near-call : (size : Bits) → slice_get table (near_code Call size) ≡ Some (offset_row One 0xE8 Jz 20 size)
  pub near-condition : (n : ℕ) (size : Bits) → n < 16 → slice_get table (near_code (Condition n) size) ≡ Some (offset_row M0f (0x80 + n) Jz 20 size)
  pub far-call : slice_get table (far_code Call) ≡ Some (memory_row 2)
  pub far-jump : slice_get table (far_code Jump) ≡ Some (memory_row 4)

-- the lengths of the instructions of an image
pub record PieceFacts : Type 0 where
  pub short_jump-length : (bits size : Bits) (t : ℕ) → plain_length bits (branch_to (short_code Jump size) None t) ≡ 2 + size_byte bits size
  pub short_condition-length : (bits size : Bits) (n : ℕ) → n < 16 → (t : ℕ) → plain_length bits (branch_to (short_code (Condition n) size) None t) ≡ 2 + size_byte bits size
  pub short_count-length : (bits size : Bits) (n : ℕ) → n < 4 → (asize : Option Bits) (t : ℕ)
      → plain_length bits (branch_to (short_code (Count n) size) asize t) ≡ 2 + size_byte bits size + address_byte bits asize
  pub near_jump-length : (bits size : Bits) (t : ℕ) → plain_length bits (branch_to (near_code Jump size) None t) ≡ 1 + size_byte bits size + offset_bytes bits size
  pub near_call-length : (bits size : Bits) (t : ℕ) → plain_length bits (branch_to (near_code Call size) None t) ≡ 1 + size_byte bits size + offset_bytes bits size
  pub near_condition-length : (bits size : Bits) (n : ℕ) → n < 16 → (t : ℕ)
      → plain_length bits (branch_to (near_code (Condition n) size) None t) ≡ 2 + size_byte bits size + offset_bytes bits size
  pub slot_call-length : (bits : Bits) (slot : ℕ) → plain_length bits (through_slot (far_code Call) slot) ≡ slot_bytes bits
  pub slot_jump-length : (bits : Bits) (slot : ℕ) → plain_length bits (through_slot (far_code Jump) slot) ≡ slot_bytes bits
  -- they do not depend on the target
  pub branch_to-length : (bits : Bits) (code : ℕ) (asize : Option Bits) (t : ℕ)
      → plain_length bits (branch_to code asize t) ≡ plain_length bits (branch_to code asize 0)
  pub short-length : (bits : Bits) (b : RelativeBranch) (asize : Option Bits) (t : ℕ)
      → plain_length bits (short_branch b asize t) ≡ plain_length bits (short_branch b asize 0)
  pub skip-length : (bits : Bits) (t : ℕ) → plain_length bits (skip bits t) ≡ plain_length bits (skip bits 0)
  -- the other condition is one too
  pub opposite_condition-small : (n : ℕ) → n < 16 → opposite_condition n < 16

-- the forms of an instruction
pub record FormFacts : Type 0 where
  -- the length of an image rests neither on its place nor on its goal, and what is no branch is as long as its plain spelling
  pub image_of-length : (bits : Bits) (i : Instr) (form : Form) (place goal slot : ℕ) → pieces_length bits (image_of bits i form place goal slot) ≡ form_length bits i form
  pub other-length : (bits : Bits) (i : Instr) (form : Form) → branch_of i ≡ None → form_length bits i form ≡ plain_length bits i
  -- the choices of what is spelled are those of an item of a plan
  pub spelled-fit : (bits : Bits) (ip : ℕ) (bytes : List ℕ) (i : Instr) → Spells table bits ip bytes i
      → (0 < length (choices_of bits i)) × (length (choices_of bits i) ≤ 3)
      × IsTrue (lengths_rise_from 1 (choices_of bits i)) × IsTrue (list_all (λ c. is_fit_reach c.reach) (choices_of bits i))
      × IsTrue (forms_differ (choices_of bits i))
  -- the branch of an instruction is that of its row, and what is spelled and is no branch has no near target
  pub branch-in-row : (i : Instr) (row : Row) (b : RelativeBranch) → slice_get table i.code.0 ≡ Some row → branch_of i ≡ Some b → branch_in row ≡ Some b
  pub no_branch-no_near : (bits : Bits) (ip : ℕ) (bytes : List ℕ) (i : Instr) → Spells table bits ip bytes i → branch_of i ≡ None
      → first_value near_value i ≡ None
  -- the condition or counter of a branch is one, and its size is one of the mode
  pub branch-range : (i : Instr) (row : Row) (b : RelativeBranch) → slice_get table i.code.0 ≡ Some row → branch_of i ≡ Some b → in_range b.action b.is_short ≡ true
  pub branch-pair : (bits : Bits) (i : Instr) (row : Row) (b : RelativeBranch) → slice_get table i.code.0 ≡ Some row → branch_of i ≡ Some b
      → exists_in bits row ≡ true → is_pair bits b.size ≡ true
