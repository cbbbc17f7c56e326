-- The rows of the codes of branches.
use Rattle.std.proofs.Common.{◌≡◌, ℕ, zero, suc, ◌+◌, ◌*◌, ◌/◌, ◌%◌, ◌<◌, ◌≤◌, List, [], ◌∷◌, ◌⊎◌, inl, inr, refl, ap, ◌∙◌, slice_get, arith}
use Rattle.std.specs.Prelude.{Option, Some}
use Rattle.x86_values.specs.Modes.{size_number}
use Rattle.x86_values.specs.declared.Bits.{Bits}
use Rattle.x86_values.specs.declared.Bits.TheVariants.{B16, B32, B64}
use Rattle.instruction_parts.specs.declared.row_types.Row.{Row}
use Rattle.instruction_parts.specs.declared.row_types.Map.{Map}
use Rattle.instruction_parts.specs.declared.row_types.Map.TheVariants.{One, M0f}
use Rattle.instruction_parts.specs.declared.row_types.OpKind.{OpKind}
use Rattle.instruction_parts.specs.declared.row_types.OpKind.TheVariants.{Jb, Jz}
use Rattle.opcode_rows.specs.Parts.{integer_rows, integer_flat, x87_rows, x87_flat, sse_rows, sse_flat, vex_rows, vex_flat}
use Rattle.opcode_rows.specs.Table.{spots, rows_in, table}
use Rattle.move_goals.specs.declared.branch_forms.branch.Action.TheVariants.{Jump, Call, Condition, Count}
use Rattle.move_goals.specs.declared.branch_forms.generated_codes.TheConstants.{JMP_REL8, JMP_REL16, CALL_REL16, JO_REL8, JO_REL16, LOOPNE_REL8, JMP_RM64, CALL_RM64}
use Rattle.move_goals.specs.BranchForms.Branches.{short_code, near_code, far_code}
use Rattle.move_goals.specs.BranchForms.Rows.{offset_row, memory_row}
use Rattle.move_goals.specs.BranchForms.Facts.{CodeFacts}

-- ---- some rows behind a code

-- the size of the k-th of three rows
abbrev numbered : ℕ → Bits
numbered zero = B16
numbered (suc zero) = B32
numbered _ = B64

below_or_last : (n m : ℕ) → n < suc m → (n < m) ⊎ (n ≡ m)
below_or_last zero zero lt = inr refl
below_or_last zero (suc m) lt = inl (omega arith)
below_or_last (suc n) zero lt = absurd (omega arith)
below_or_last (suc n) (suc m) lt =
    elim (below_or_last n m (omega arith)) [ inl less ↦ inl (omega arith) | inr same ↦ inr (ap suc same) ]

-- the values of a function at n - 1 down to 0
unfoldable listed : {A : Type 0} → (ℕ → A) → ℕ → List A
listed f zero = []
listed f (suc n) = f n ∷ listed f n

listed-at : {A : Type 0} (f g : ℕ → A) (m : ℕ) → listed f m ≡ listed g m → (n : ℕ) → n < m → f n ≡ g n
unfolding listed
listed-at f g zero h n lt = absurd (omega arith)
listed-at f g (suc m) h n lt =
    elim (below_or_last n m lt) [
      | inl less ↦ listed-at f g m (cc) n less
      | inr same ↦ let here : f m ≡ g m = cc in rw same here
    ]

-- so many rows from a code on
unfoldable rows_behind : ℕ → ℕ → List Row → List (Option Row)
rows_behind first count rows = listed (λ k. slice_get rows (first + k)) count

-- three rows of each opcode byte, one for each size
abbrev branch_row : Map → ℕ → OpKind → ℕ → ℕ → Option Row
branch_row map opcode kind marks k = Some (offset_row map (opcode + k / 3) kind marks (numbered (k % 3)))

-- so many rows of branches
unfoldable branch_rows : Map → ℕ → OpKind → ℕ → ℕ → List (Option Row)
branch_rows map opcode kind marks count = listed (branch_row map opcode kind marks) count

numbered-size : (size : Bits) → numbered (size_number size) ≡ size
unfolding size_number
numbered-size B16 = refl
numbered-size B32 = refl
numbered-size B64 = refl

number-small : (size : Bits) → size_number size < 3
unfolding size_number
number-small B16 = omega arith
number-small B32 = omega arith
number-small B64 = omega arith

-- the row of a size among those of the n-th opcode byte
row-of-size : (first count : ℕ) (map : Map) (opcode : ℕ) (kind : OpKind) (marks : ℕ)
    → rows_behind first count table ≡ branch_rows map opcode kind marks count
    → (n : ℕ) (size : Bits) → 3 * n + 3 ≤ count
    → slice_get table (first + 3 * n + size_number size) ≡ Some (offset_row map (opcode + n) kind marks size)
unfolding rows_behind branch_rows
row-of-size first count map opcode kind marks h n size fits =
    let small = number-small size in
    let k : ℕ = 3 * n + size_number size in
    let there = listed-at (λ k. slice_get table (first + k)) (branch_row map opcode kind marks) count h k (omega (arith, small)) in
    let place : first + 3 * n + size_number size ≡ first + k = omega arith in
    let nth : k / 3 ≡ n = omega (arith, small) in
    let sized : k % 3 ≡ size_number size = omega (arith, small) in
    ap (λ x. slice_get table x) place
    ∙ there
    ∙ ap (λ x. Some (offset_row map (opcode + x) kind marks (numbered (k % 3)))) nth
    ∙ ap (λ x. Some (offset_row map (opcode + n) kind marks x)) (ap numbered sized ∙ numbered-size size)

-- ---- the rows of the table

short_conditions : rows_behind JO_REL8 48 table ≡ branch_rows One 0x70 Jb 20 48
unfolding rows_behind branch_rows listed table rows_in spots integer_rows integer_flat x87_rows x87_flat sse_rows sse_flat vex_rows vex_flat
short_conditions = refl

near_conditions : rows_behind JO_REL16 48 table ≡ branch_rows M0f 0x80 Jz 20 48
unfolding rows_behind branch_rows listed table rows_in spots integer_rows integer_flat x87_rows x87_flat sse_rows sse_flat vex_rows vex_flat
near_conditions = refl

counts : rows_behind LOOPNE_REL8 12 table ≡ branch_rows One 0xE0 Jb 22 12
unfolding rows_behind branch_rows listed table rows_in spots integer_rows integer_flat x87_rows x87_flat sse_rows sse_flat vex_rows vex_flat
counts = refl

near_calls : rows_behind CALL_REL16 3 table ≡ branch_rows One 0xE8 Jz 20 3
unfolding rows_behind branch_rows listed table rows_in spots integer_rows integer_flat x87_rows x87_flat sse_rows sse_flat vex_rows vex_flat
near_calls = refl

near_jumps : rows_behind JMP_REL16 3 table ≡ branch_rows One 0xE9 Jz 20 3
unfolding rows_behind branch_rows listed table rows_in spots integer_rows integer_flat x87_rows x87_flat sse_rows sse_flat vex_rows vex_flat
near_jumps = refl

short_jumps : rows_behind JMP_REL8 3 table ≡ branch_rows One 0xEB Jb 20 3
unfolding rows_behind branch_rows listed table rows_in spots integer_rows integer_flat x87_rows x87_flat sse_rows sse_flat vex_rows vex_flat
short_jumps = refl

through_memory : slice_get table CALL_RM64 ∷ slice_get table JMP_RM64 ∷ [] ≡ Some (memory_row 2) ∷ Some (memory_row 4) ∷ []
unfolding table rows_in spots integer_rows integer_flat x87_rows x87_flat sse_rows sse_flat vex_rows vex_flat
through_memory = refl

-- ---- by code

-- the short JMP is EB with a byte, without a condition on prefixes
pub short-jump : (size : Bits) → slice_get table (short_code Jump size) ≡ Some (offset_row One 0xEB Jb 20 size)
unfolding short_code
short-jump size = row-of-size JMP_REL8 3 One 0xEB Jb 20 short_jumps 0 size (omega arith)

-- the short Jcc is 70 to 7F by its condition
pub short-condition : (n : ℕ) (size : Bits) → n < 16 → slice_get table (short_code (Condition n) size) ≡ Some (offset_row One (0x70 + n) Jb 20 size)
unfolding short_code
short-condition n size lt = row-of-size JO_REL8 48 One 0x70 Jb 20 short_conditions n size (omega arith)

-- LOOPNE, LOOPE, LOOP and JCXZ are E0 to E3
pub short-count : (n : ℕ) (size : Bits) → n < 4 → slice_get table (short_code (Count n) size) ≡ Some (offset_row One (0xE0 + n) Jb 22 size)
unfolding short_code
short-count n size lt = row-of-size LOOPNE_REL8 12 One 0xE0 Jb 22 counts n size (omega arith)

-- the near JMP is E9
pub near-jump : (size : Bits) → slice_get table (near_code Jump size) ≡ Some (offset_row One 0xE9 Jz 20 size)
unfolding near_code
near-jump size = row-of-size JMP_REL16 3 One 0xE9 Jz 20 near_jumps 0 size (omega arith)

-- the near CALL is E8
pub near-call : (size : Bits) → slice_get table (near_code Call size) ≡ Some (offset_row One 0xE8 Jz 20 size)
unfolding near_code
near-call size = row-of-size CALL_REL16 3 One 0xE8 Jz 20 near_calls 0 size (omega arith)

-- the near Jcc is 0F 80 to 0F 8F by its condition
pub near-condition : (n : ℕ) (size : Bits) → n < 16 → slice_get table (near_code (Condition n) size) ≡ Some (offset_row M0f (0x80 + n) Jz 20 size)
unfolding near_code
near-condition n size lt = row-of-size JO_REL16 48 M0f 0x80 Jz 20 near_conditions n size (omega arith)

-- the CALL through memory is FF /2
pub far-call : slice_get table (far_code Call) ≡ Some (memory_row 2)
unfolding far_code
far-call = let h = through_memory in cc

-- the JMP through memory is FF /4
pub far-jump : slice_get table (far_code Jump) ≡ Some (memory_row 4)
unfolding far_code
far-jump = let h = through_memory in cc

-- the rows of all of them
pub code_facts : CodeFacts
code_facts = record {
  short-jump = short-jump;
  short-condition = short-condition;
  short-count = short-count;
  near-jump = near-jump;
  near-call = near-call;
  near-condition = near-condition;
  far-call = far-call;
  far-jump = far-jump;
}
