-- Each code names its row.
use Rattle.std.proofs.Common.{◌≡◌, ℕ, ◌+◌, ◌<◌, refl, slice_get}
use Rattle.std.specs.Prelude.{Some}
use Rattle.x86_values.specs.declared.Bits.{Bits}
use Rattle.x86_values.specs.declared.Bits.TheVariants.{B64}
use Rattle.instruction_parts.specs.declared.row_types.Map.{Map}
use Rattle.instruction_parts.specs.declared.row_types.Map.TheVariants.{One, M0f}
use Rattle.instruction_parts.specs.declared.row_types.ModRmRule.TheVariants.{No, Digit}
use Rattle.instruction_parts.specs.declared.row_types.OpKind.{OpKind}
use Rattle.instruction_parts.specs.declared.row_types.OpKind.TheVariants.{Jb, Jz, Ev}
use Rattle.opcode_rows.specs.Table.{table}
use Rattle.move_goals.specs.declared.branch_forms.branch.Action.TheVariants.{Jump, Call, Condition, Count}
use Rattle.move_goals.specs.BranchForms.Branches.{short_code, near_code, far_code}
use Rattle.move_goals.specs.BranchForms.Rows.{offset_row, memory_row, NamesRow}
use Rattle.move_goals.proofs.BranchForms.Codes.{short-jump, short-condition, short-count, near-jump, near-call, near-condition, far-call, far-jump}

names-offset : (code : ℕ) (map : Map) (opcode : ℕ) (kind : OpKind) (marks : ℕ) (size : Bits) → slice_get table code ≡ Some (offset_row map opcode kind marks size) → NamesRow code map opcode No kind size
names-offset code map opcode kind marks size at = record {
  row = offset_row map opcode kind marks size;
  stands = at;
  is_legacy = refl;
  has_map = refl;
  has_opcode = refl;
  has_modrm = refl;
  has_kind = refl;
  has_size = refl;
}

names-memory : (code digit : ℕ) → slice_get table code ≡ Some (memory_row digit) → NamesRow code One 0xFF (Digit digit) Ev B64
names-memory code digit at = record {
  row = memory_row digit;
  stands = at;
  is_legacy = refl;
  has_map = refl;
  has_opcode = refl;
  has_modrm = refl;
  has_kind = refl;
  has_size = refl;
}

-- the code of the short JMP names its row
pub short-jump-named : (size : Bits) → NamesRow (short_code Jump size) One 0xEB No Jb size
short-jump-named size = names-offset (short_code Jump size) One 0xEB Jb 20 size (short-jump size)

-- the code of a short Jcc names its row
pub short-condition-named : (n : ℕ) (size : Bits) → n < 16 → NamesRow (short_code (Condition n) size) One (0x70 + n) No Jb size
short-condition-named n size lt = names-offset (short_code (Condition n) size) One (0x70 + n) Jb 20 size (short-condition n size lt)

-- the code of a branch by the counter names its row
pub short-count-named : (n : ℕ) (size : Bits) → n < 4 → NamesRow (short_code (Count n) size) One (0xE0 + n) No Jb size
short-count-named n size lt = names-offset (short_code (Count n) size) One (0xE0 + n) Jb 22 size (short-count n size lt)

-- the code of the near JMP names its row
pub near-jump-named : (size : Bits) → NamesRow (near_code Jump size) One 0xE9 No Jz size
near-jump-named size = names-offset (near_code Jump size) One 0xE9 Jz 20 size (near-jump size)

-- the code of the near CALL names its row
pub near-call-named : (size : Bits) → NamesRow (near_code Call size) One 0xE8 No Jz size
near-call-named size = names-offset (near_code Call size) One 0xE8 Jz 20 size (near-call size)

-- the code of a near Jcc names its row
pub near-condition-named : (n : ℕ) (size : Bits) → n < 16 → NamesRow (near_code (Condition n) size) M0f (0x80 + n) No Jz size
near-condition-named n size lt = names-offset (near_code (Condition n) size) M0f (0x80 + n) Jz 20 size (near-condition n size lt)

-- the code of the JMP through memory names its row
pub far-jump-named : NamesRow (far_code Jump) One 0xFF (Digit 4) Ev B64
far-jump-named = names-memory (far_code Jump) 4 far-jump

-- the code of the CALL through memory names its row
pub far-call-named : NamesRow (far_code Call) One 0xFF (Digit 2) Ev B64
far-call-named = names-memory (far_code Call) 2 far-call
