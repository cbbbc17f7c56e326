use Rattle.std.proofs.Common.{◌≡◌, ℕ, ◌≤◌, true, arith, rules}
use Rattle.std.specs.Prelude.{Option}
use Rattle.x86_values.specs.declared.Bits.{Bits}
use Rattle.instruction_parts.specs.declared.row_types.Row.{Row}
use Rattle.instruction_parts.specs.declared.spelling.ModRm.{ModRm}
use Rattle.instruction_parts.specs.declared.spelling.Sib.{Sib}
use Rattle.instruction_parts.specs.declared.spelling.PrefixState.{PrefixState}
use Rattle.instruction_parts.specs.Sizes.{state_size}
use Rattle.row_fit.specs.Fits.{immediates_bytes}
use Rattle.row_fit.specs.Sound.{sound}
use Rattle.modrm_sib.specs.Parts.{displacement_len}
use Rattle.modrm_sib.proofs.Rows.{displacement_small, immediates_small}
use Rattle.modrm_sib.proofs.known.read_known_tail.Goals as goal

disp_small : (bits : Bits) (row : Row) (state : PrefixState) (m : Option ModRm) (sib : Option Sib) (n : ℕ) → n ≡ displacement_len bits row state m sib → n ≤ 8
disp_small bits row state m sib n e = let small = displacement_small bits row state m sib in omega (arith, small, e)

imm_small : (bits : Bits) (row : Row) (state : PrefixState) (n : ℕ) → sound row ≡ true → n ≡ immediates_bytes (state_size bits row state) row → n ≤ 8
imm_small bits row state n h e = let small = immediates_small (state_size bits row state) row h in omega (arith, small, e)

pub overflow_add-more : goal.overflow_add-more
overflow_add-more c =
    let d = disp_small c.args.bits c.args.row.now c.args.state.now _ _ c.in-Some.reach.disp c.in-Some.ensures.disp in
    let i = imm_small c.args.bits c.args.row.now c.args.state.now c.args.immediates c.requires.sound c.requires.known.immediates in
    search (rules, d, i)

pub overflow_add-len : goal.overflow_add-len
overflow_add-len c =
    let d = disp_small c.args.bits c.args.row.now c.args.state.now _ _ c.in-Some.reach.disp c.in-Some.ensures.disp in
    let i = imm_small c.args.bits c.args.row.now c.args.state.now c.args.immediates c.requires.sound c.requires.known.immediates in
    search (rules, d, i, c.in-Some.ensures.few)

pub given_instr_into-requires-clause-disp : goal.given_instr_into-requires-clause-disp
given_instr_into-requires-clause-disp c =
    let d = disp_small c.args.bits c.args.row.now c.args.state.now _ _ c.in-Some.reach.disp c.in-Some.ensures.disp in
    omega (arith, d, c.split_at.ensures.front_len)

pub given_instr_into-requires-clause-imm : goal.given_instr_into-requires-clause-imm
given_instr_into-requires-clause-imm c =
    let i = imm_small c.args.bits c.args.row.now c.args.state.now c.args.immediates c.requires.sound c.requires.known.immediates in
    omega (arith, i, c.split_at-in-Some.ensures.front_len)
