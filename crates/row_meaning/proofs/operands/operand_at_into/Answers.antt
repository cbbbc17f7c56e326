use Rattle.std.proofs.Common.{◌≡◌, ◌≤◌, ℕ, ap, sym, ◌∙◌, arith, length, drop, List}
use Rattle.std.proofs.lemmas.List.{length-take, length-drop}
use Rattle.x86_values.specs.declared.Bits.{Bits}
use Rattle.instruction_parts.specs.declared.row_types.Row.{Row}
use Rattle.instruction_parts.specs.Kinds.{method_of}
use Rattle.instruction_parts.specs.declared.row_types.OpKind.{OpKind}
use Rattle.instruction_parts.specs.declared.kinds.Method.TheVariants.{Pointer}
use Rattle.row_fit.specs.Fits.{immediate_bytes, kind_at}
use Rattle.row_meaning.specs.Meaning.{immediates_before, own_immediate}
use Rattle.row_meaning.proofs.ImmediateLaws.{pointer_short, absent_operand}
use Rattle.row_meaning.proofs.operands.operand_at_into.Goals as goal

pub returns-in-Absent-clause-operand : goal.returns-in-Absent-clause-operand
returns-in-Absent-clause-operand c =
    sym (absent_operand c.args.bits c.args.row.now c.args.state.now _ c.args.behind.now.imm.now c.args.n (sym c.requires.kind ∙ c.in-Absent.is))

-- an operand's own bytes are as many as its kind has, at most
own_len : (size : Bits) (row : Row) (n : ℕ) (imm : List ℕ) → length (own_immediate size row n imm) ≤ immediate_bytes size (kind_at row n)
unfolding own_immediate
own_len size row n imm =
    let e = length-take (immediate_bytes size (kind_at row n)) (drop (immediates_before size row n) imm) in
    omega (arith, e)

-- and no more than all
own_within : (size : Bits) (row : Row) (n : ℕ) (imm : List ℕ) → length (own_immediate size row n imm) ≤ length imm
unfolding own_immediate
own_within size row n imm =
    let e = length-take (immediate_bytes size (kind_at row n)) (drop (immediates_before size row n) imm) in
    let d = length-drop (immediates_before size row n) imm in
    omega (arith, e, d)

-- a far pointer is short
short : (size : Bits) (row : Row) (n : ℕ) (imm own : List ℕ) (kind : OpKind) → kind ≡ kind_at row n → own ≡ own_immediate size row n imm
    → method_of kind ≡ Pointer → length own ≤ 6
short size row n imm own kind k o p =
    let s = pointer_short kind size p in
    let same = ap (λ x. immediate_bytes size x) k in
    let len = own_len size row n imm in
    let is = ap length o in
    omega (arith, s, same, len, is)

pub present_into-requires : goal.present_into-requires
present_into-requires c =
    let is = ap length c.immediate_of-own.ensures in
    let within = own_within c.args.size c.args.row.now c.args.n c.args.behind.now.imm.now in
    record {
      modrm = c.requires.modrm;
      sib = c.requires.sib;
      disp = c.requires.disp;
      own = omega (arith, is, within, c.requires.imm);
      pointer = short c.args.size c.args.row.now c.args.n c.args.behind.now.imm.now _ c.args.kind c.requires.kind c.immediate_of-own.ensures;
    }
