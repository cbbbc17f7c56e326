-- An instruction of its parts, and its operands one after another.
use Rattle.std.proofs.Common.{◌≡◌, ℕ, List, [], ◌∷◌, length, slice_set, slice_index_or, Bool, ◌||◌, Option, Some, None, if◌then◌else◌, refl, ap, ◌∙◌, arith}
use Rattle.std.proofs.Math.Bool.{or-false}
use Rattle.std.specs.List.{list_any}
use Rattle.x86_values.specs.declared.Bits.{Bits}
use Rattle.x86_values.specs.declared.Code.{Code}
use Rattle.x86_values.specs.declared.Rep.{Rep}
use Rattle.x86_values.specs.declared.Operand.{Operand}
use Rattle.instruction_parts.specs.declared.row_types.Row.{Row}
use Rattle.instruction_parts.specs.declared.row_types.OpKind.{OpKind}
use Rattle.instruction_parts.specs.declared.row_types.OpKind.TheVariants.{Absent as AbsentKind}
use Rattle.instruction_parts.specs.declared.spelling.ModRm.{ModRm}
use Rattle.instruction_parts.specs.declared.spelling.PrefixState.{PrefixState}
use Rattle.instruction_parts.specs.Kinds.{method_of}
use Rattle.instruction_parts.specs.Sizes.{state_address_size, has_address_mark}
use Rattle.row_fit.specs.Fits.{kind_at, is_memory_method}
use Rattle.row_meaning.specs.Meaning.{Tail, operand_at, kept_repeat, has_memory, kept_address_size, instr_of}

-- four items that are set one after another are the whole list
pub four_set : (xs : List Operand) (a b c d p q r s : Operand) → length xs ≡ 4 → a ≡ p → b ≡ q → c ≡ r → d ≡ s → slice_set (slice_set (slice_set (slice_set xs 0 a) 1 b) 2 c) 3 d ≡ p ∷ q ∷ r ∷ s ∷ []
four_set [] a b c d p q r s h e f g i = absurd (omega arith)
four_set (v ∷ []) a b c d p q r s h e f g i = absurd (omega arith)
four_set (v ∷ w ∷ []) a b c d p q r s h e f g i = absurd (omega arith)
four_set (v ∷ w ∷ x ∷ []) a b c d p q r s h e f g i = absurd (omega arith)
four_set (v ∷ w ∷ x ∷ y ∷ []) a b c d p q r s h e f g i = rw e (rw f (rw g (rw i refl)))
four_set (v ∷ w ∷ x ∷ y ∷ z ∷ zs) a b c d p q r s h e f g i = absurd (omega arith)

-- one of four kinds has a property where the first has it, or the second, or the third, or the fourth
any_four : (p : OpKind → Bool) (ks : List OpKind) → length ks ≡ 4 → (p (slice_index_or ks 0 AbsentKind) || (p (slice_index_or ks 1 AbsentKind) || (p (slice_index_or ks 2 AbsentKind) || p (slice_index_or ks 3 AbsentKind)))) ≡ list_any p ks
any_four p [] h = absurd (omega arith)
any_four p (v ∷ []) h = absurd (omega arith)
any_four p (v ∷ w ∷ []) h = absurd (omega arith)
any_four p (v ∷ w ∷ x ∷ []) h = absurd (omega arith)
any_four p (v ∷ w ∷ x ∷ y ∷ []) h = rw (or-false (p y)) refl
any_four p (v ∷ w ∷ x ∷ y ∷ z ∷ zs) h = absurd (omega arith)

-- the address size is kept by whether one of the four operands is memory
pub address_size_kept : (bits : Bits) (row : Row) (state : PrefixState) (m : Option ModRm) (a b c d memory : Bool) (asize : Option Bits) → length row.ops ≡ 4
    → a ≡ is_memory_method (method_of (kind_at row 0)) m → b ≡ is_memory_method (method_of (kind_at row 1)) m → c ≡ is_memory_method (method_of (kind_at row 2)) m → d ≡ is_memory_method (method_of (kind_at row 3)) m
    → memory ≡ (a || (b || (c || d))) → asize ≡ (if memory || has_address_mark row then Some (state_address_size bits state) else None)
    → asize ≡ kept_address_size bits row state m
unfolding kept_address_size has_memory
address_size_kept bits row state m a b c d memory asize four e f g h any kept =
    let some : memory ≡ has_memory row m = rw any (rw e (rw f (rw g (rw h (any_four (λ kind. is_memory_method (method_of kind) m) row.ops four))))) in
    kept ∙ ap (λ x. if x || has_address_mark row then Some (state_address_size bits state) else None) some

-- an instruction of its parts
pub instr_made : (bits : Bits) (code : Code) (row : Row) (state : PrefixState) (t : Tail) (imm : List ℕ) (ops : List Operand) (rep : Rep) (asize : Option Bits)
    → ops ≡ operand_at bits row state t imm 0 ∷ operand_at bits row state t imm 1 ∷ operand_at bits row state t imm 2 ∷ operand_at bits row state t imm 3 ∷ []
    → rep ≡ kept_repeat row.class state.rep → asize ≡ kept_address_size bits row state t.modrm
    → record { code = code; lock = state.lock; rep = rep; seg = state.seg; asize = asize; ops = ops } ≡ instr_of bits code row state t imm
unfolding instr_of
instr_made bits code row state t imm ops rep asize o r a = rw o (rw r (rw a refl))
