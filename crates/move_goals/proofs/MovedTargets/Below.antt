-- What is spelled is aimed at an address below 2 to the power of 64.
use Rattle.std.proofs.Common.{◌≡◌, ◌⊎◌, inl, inr, ℕ, ◌+◌, ◌^◌, ◌<◌, Bool, true, false, ◌&&◌, Option, Some, None, List, ap, ◌∙◌, arith}
use Rattle.std.specs.Prelude.{if◌then◌else◌, nat_lt}
use Rattle.std.specs.Option.{option_or}
use Rattle.std.proofs.lemmas.Bool.{and_parts, ltb-true}
use Rattle.x86_values.specs.declared.Bits.{Bits}
use Rattle.x86_values.specs.declared.Bits.TheVariants.{B16, B32, B64}
use Rattle.x86_values.specs.declared.Code.{Code}
use Rattle.x86_values.specs.declared.Register.{Register}
use Rattle.x86_values.specs.declared.Register.TheVariants.{Eip, Rip}
use Rattle.x86_values.specs.declared.DispSize.{DispSize}
use Rattle.x86_values.specs.declared.Mem.{Mem}
use Rattle.x86_values.specs.declared.Operand.{Operand}
use Rattle.x86_values.specs.declared.Operand.TheVariants.{Reg, Mem as Memory}
use Rattle.x86_values.specs.declared.Instr.{Instr}
use Rattle.x86_values.specs.Wrapping.{modulo_width}
use Rattle.instruction_parts.specs.declared.row_types.Row.{Row}
use Rattle.instruction_parts.specs.declared.row_types.OpKind.{OpKind}
use Rattle.instruction_parts.specs.declared.kinds.Method.{Method}
use Rattle.instruction_parts.specs.declared.kinds.Method.TheVariants as method
use Rattle.instruction_parts.specs.declared.kinds.File.{File}
use Rattle.instruction_parts.specs.declared.spelling.ModRm.{ModRm}
use Rattle.instruction_parts.specs.declared.spelling.Sib.{Sib}
use Rattle.instruction_parts.specs.declared.spelling.PrefixState.{PrefixState}
use Rattle.instruction_parts.specs.declared.spelling.Spelling.{Spelling}
use Rattle.instruction_parts.specs.Kinds.{method_of, file_of}
use Rattle.instruction_parts.specs.Sizes.{state_size}
use Rattle.instruction_parts.specs.Bytes.{state_of}
use Rattle.row_fit.specs.Fits.{kind_at, has_modrm, rm_number}
use Rattle.row_meaning.specs.Meaning.{sign_extended, Tail, tail_of, meaning, instr_of, operand_by, own_immediate, register_of, with_modrm, near_target, far_pointer, memory_operand, gather_memory}
use Rattle.row_meaning.specs.Meaning as meant
use Rattle.row_relation.specs.Spells.{Spells}
use Rattle.plain_spelling.specs.Forms.{operand_at}
use Rattle.plain_spelling.specs.Addresses.{form_of, written_size, offers, displacement_count, is_displacement, displacement_suits}
use Rattle.plain_spelling.specs.Expressible.{displacement_offered}
use Rattle.opcode_rows.specs.Table.{table}
use Rattle.operand_info.specs.Operands.{near_value, ip_value, first_value}
use Rattle.encoder.specs.Facts.{SpelledFacts}
use Rattle.move_goals.specs.MovedTargets.Targets.{target_of}
use Rattle.move_goals.proofs.MovedTargets.Aims.{value_at}
use Rattle.move_goals.proofs.MovedTargets.Reaches.{displaced_by, displacement_of_operand_suits}

or_some : (a b : Option ℕ) (x : ℕ) → option_or a b ≡ Some x → (a ≡ Some x) ⊎ (b ≡ Some x)
or_some None b x h = inr h
or_some (Some y) b x h = inl h

-- ---- addresses at RIP or EIP

displaced-below : (asize : Bits) (base index : Option Register) (size : DispSize) (disp x : ℕ) → displaced_by asize (form_of base index) size disp ≡ true → value_at base disp ≡ Some x → x < 2 ^ 64
unfolding form_of
displaced-below asize None index size disp x h e = cc
displaced-below asize (Some Rip) index size disp x h e = let same : disp ≡ x = cc in omega (arith, same, ltb-true disp (2 ^ 64) h)
displaced-below asize (Some Eip) index size disp x h e = let same : disp ≡ x = cc in omega (arith, same, ltb-true disp (2 ^ 32) h)
displaced-below asize (Some _) index size disp x h e = cc

memory-below : (asize : Bits) (how : Method) (m : Mem) (x : ℕ) → displacement_suits asize how m ≡ true → value_at m.base m.disp ≡ Some x → x < 2 ^ 64
unfolding displacement_suits is_displacement
memory-below asize how m x h e =
    displaced-below asize m.base m.index m.disp_size m.disp x
    (and_parts (offers asize how m (displacement_count m.disp_size)) (displaced_by asize (form_of m.base m.index) m.disp_size m.disp) h).1 e

operand-below : (bits : Bits) (asize : Option Bits) (how : Method) (op : Operand) (x : ℕ) → displacement_of_operand_suits bits asize how op ≡ true → ip_value op ≡ Some x → x < 2 ^ 64
unfolding ip_value
operand-below bits asize how (Memory m) x h e = memory-below (written_size bits asize m) how m x h e
operand-below bits asize how _ x h e = cc

offered-below : (bits : Bits) (row : Row) (i : Instr) (n x : ℕ) → displacement_offered bits row i n ≡ true → ip_value (operand_at i n) ≡ Some x → x < 2 ^ 64
unfolding displacement_offered
offered-below bits row i n x h e = operand-below bits i.asize (method_of (kind_at row n)) (operand_at i n) x h e

each-below : (bits : Bits) (row : Row) (i : Instr) (x : ℕ) → (displacement_offered bits row i 0 && (displacement_offered bits row i 1 && (displacement_offered bits row i 2 && displacement_offered bits row i 3))) ≡ true → first_value ip_value i ≡ Some x → x < 2 ^ 64
each-below bits row i x h e =
    let o = λ (n : ℕ). displacement_offered bits row i n in
    let v = λ (n : ℕ). ip_value (operand_at i n) in
    let h1 = (and_parts (o 0) (o 1 && (o 2 && o 3)) h).1 in
    let h2 = (and_parts (o 1) (o 2 && o 3) h1).1 in
    elim (or_some (v 0) (option_or (v 1) (option_or (v 2) (v 3))) x e) [
      | inl e0 ↦ offered-below bits row i 0 x (and_parts (o 0) (o 1 && (o 2 && o 3)) h).0 e0
      | inr e1 ↦ elim (or_some (v 1) (option_or (v 2) (v 3)) x e1) [
        | inl f1 ↦ offered-below bits row i 1 x (and_parts (o 1) (o 2 && o 3) h1).0 f1
        | inr e2 ↦ elim (or_some (v 2) (v 3) x e2) [
          | inl f2 ↦ offered-below bits row i 2 x (and_parts (o 2) (o 3) h2).0 f2
          | inr e3 ↦ offered-below bits row i 3 x (and_parts (o 2) (o 3) h2).1 e3
        ]
      ]
    ]

-- ---- near targets

wrapped-small : (size : Bits) (n : ℕ) → modulo_width size n < 2 ^ 64
wrapped-small B16 n = omega arith
wrapped-small B32 n = omega arith
wrapped-small B64 n = omega arith

-- a near target of an operand is below 2 to the power of 64
abbrev IsSmall : Operand → Type 0
IsSmall op = (x : ℕ) → near_value op ≡ Some x → x < 2 ^ 64

either_small : (b : Bool) (x y : Operand) → IsSmall x → IsSmall y → IsSmall (if b then x else y)
either_small true x y a b = a
either_small false x y a b = b

memory_small : (bits : Bits) (st : PrefixState) (m : Option ModRm) (sib : Option Sib) (disp : List ℕ) (next : ℕ) → IsSmall (memory_operand bits st m sib disp next)
unfolding memory_operand near_value
memory_small bits st None sib disp next = λ x h. cc
memory_small bits st (Some m) sib disp next = λ x h. cc

gather_small : (bits : Bits) (row : Row) (st : PrefixState) (file : File) (m : Option ModRm) (sib : Option Sib) (disp : List ℕ) → IsSmall (with_modrm (λ (m : ModRm). gather_memory bits row st file m sib disp) m)
unfolding gather_memory near_value
gather_small bits row st file None sib disp = λ x h. cc
gather_small bits row st file (Some m) None disp = λ x h. cc
gather_small bits row st file (Some m) (Some s) disp = λ x h. cc

target_small : (size : Bits) (next : ℕ) (own : List ℕ) → IsSmall (near_target size next own)
unfolding near_target near_value
target_small size next own = λ x h.
    let e : meant.target_of size next own ≡ x = cc in
    omega (arith, e, wrapped-small size (next + sign_extended 64 own))

reg_small : (r : Register) → IsSmall (Reg r)
unfolding near_value
reg_small r = λ x h. cc

near_small : (bits : Bits) (row : Row) (st : PrefixState) (t : Tail) (kind : OpKind) (how : Method) (own : List ℕ) → IsSmall (operand_by bits row st t kind how own)
unfolding operand_by near_value far_pointer
near_small bits row st t kind method.RegisterOrMemory own =
    either_small (has_modrm (λ m. nat_lt m.mode3 3) t.modrm) (memory_operand bits st t.modrm t.sib t.disp t.next)
    (Reg (register_of bits row st (file_of kind) (rm_number bits st t.modrm)))
    (memory_small bits st t.modrm t.sib t.disp t.next) (reg_small (register_of bits row st (file_of kind) (rm_number bits st t.modrm)))
near_small bits row st t kind method.MemoryOnly own = memory_small bits st t.modrm t.sib t.disp t.next
near_small bits row st t kind method.Gather own = gather_small bits row st (file_of kind) t.modrm t.sib t.disp
near_small bits row st t kind method.Near own = target_small (state_size bits row st) t.next own
near_small bits row st t kind _ own = λ x h. cc

first_small : (i : Instr) → IsSmall (operand_at i 0) → IsSmall (operand_at i 1) → IsSmall (operand_at i 2) → IsSmall (operand_at i 3) → (x : ℕ) → first_value near_value i ≡ Some x → x < 2 ^ 64
first_small i a b c d x h =
    let v = λ (n : ℕ). near_value (operand_at i n) in
    elim (or_some (v 0) (option_or (v 1) (option_or (v 2) (v 3))) x h) [
      | inl e ↦ a x e
      | inr f ↦ elim (or_some (v 1) (option_or (v 2) (v 3)) x f) [
        | inl e ↦ b x e
        | inr g ↦ elim (or_some (v 2) (v 3) x g) [ inl e ↦ c x e | inr e ↦ d x e ]
      ]
    ]

meaning_small : (bits : Bits) (ip : ℕ) (code : Code) (row : Row) (s : Spelling) (x : ℕ) → first_value near_value (meaning bits ip code row s) ≡ Some x → x < 2 ^ 64
unfolding meaning instr_of meant.operand_at
meaning_small bits ip code row s x h =
    let st = state_of bits row s in
    let own = λ (n : ℕ). own_immediate (state_size bits row st) row n s.imm.items in
    let each = λ (n : ℕ). near_small bits row st (tail_of bits ip row s) (kind_at row n) (method_of (kind_at row n)) (own n) in
    first_small (meaning bits ip code row s) (each 0) (each 1) (each 2) (each 3) x h

near-below : (bits : Bits) (ip : ℕ) (bytes : List ℕ) (i : Instr) (t : ℕ) → Spells table bits ip bytes i → first_value near_value i ≡ Some t → t < 2 ^ 64
near-below bits ip bytes i t (short, (row, at, (s, e))) h =
    meaning_small bits ip i.code row s t (ap (first_value near_value) e.means ∙ h)

-- ---- targets

-- **a target of what is spelled is below 2 to the power of 64**
pub target-below : (spelled : SpelledFacts) (bits : Bits) (ip : ℕ) (bytes : List ℕ) (i : Instr) (t : ℕ) → Spells table bits ip bytes i → target_of i ≡ Some t → t < 2 ^ 64
unfolding target_of
target-below spelled bits ip bytes i t (short, (row, at, (s, e))) h =
    elim (or_some (first_value near_value i) (first_value ip_value i) t h) [
      | inl near ↦ near-below bits ip bytes i t (short, (row, at, (s, e))) near
      | inr by_ip ↦ each-below bits row i t (spelled.spelled-suits bits ip bytes i row s at e).displacements by_ip
    ]
