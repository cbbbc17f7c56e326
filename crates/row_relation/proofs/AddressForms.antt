-- What the conditions on an address ask, form by form.
use Rattle.std.proofs.Common.{◌≡◌, ◌⊎◌, inl, inr, ℕ, zero, suc, ◌^◌, ◌<◌, Bool, true, false, ◌&&◌, ◌||◌, not, ◌==◌, nat_lt, is_some, is_none, refl, subst, arith}
use Rattle.std.proofs.lemmas.Bool.{or_left, or_right}
use Rattle.x86_values.specs.declared.Bits.{Bits}
use Rattle.x86_values.specs.declared.Mem.{Mem}
use Rattle.x86_values.specs.declared.Instr.{Instr}
use Rattle.x86_values.specs.Wrapping.{width}
use Rattle.instruction_parts.specs.declared.row_types.OpKind.{OpKind}
use Rattle.instruction_parts.specs.declared.row_types.OpKind.TheVariants.{GatherX, GatherL}
use Rattle.instruction_parts.specs.declared.kinds.Method.TheVariants as method
use Rattle.instruction_parts.specs.declared.kinds.File.{File}
use Rattle.instruction_parts.specs.declared.kinds.File.TheVariants.{Xmm as XmmFile, Vector as VectorFile}
use Rattle.instruction_parts.specs.Kinds.{method_of, file_of}
use Rattle.instruction_parts.specs.Counting.{is_64}
use Rattle.row_fit.specs.Fits.{full_displacement, is_vvvv}
use Rattle.row_fit.specs.Sound.{reads_reg, reads_rm}
use Rattle.plain_spelling.specs.Values.{is_extended_of}
use Rattle.x86_values.specs.Operands.{is_memory}
use Rattle.plain_spelling.specs.Forms.{operand_at}
use Rattle.plain_spelling.specs.Expressible.{has_memory_operand}
use Rattle.plain_spelling.specs.Writable.{is_vector_file, names_vectors}
use Rattle.row_relation.proofs.AddressCases.{impossible}
use Rattle.plain_spelling.specs.declared.addresses.AddressForm.{AddressForm}
use Rattle.plain_spelling.specs.declared.addresses.AddressForm.TheVariants.{Relative, Alone, Short, Wide}
use Rattle.plain_spelling.specs.Addresses.{form_of, is_shape, is_wide_shape, rm_of_short, displacement_count, wide_offers, short_offers, form_offers}

-- an address has the shape of its form
abbrev pub shape_at : Bits → Mem → AddressForm → Bool
shape_at bits m form =
    elim form [
      | Relative size ↦ is_64 bits && (is_none m.index && m.scale == 1)
      | Alone ↦ m.scale == 1
      | Short n ↦ not (is_64 bits) && (is_some (rm_of_short n m.index) && m.scale == 1)
      | Wide ↦ is_wide_shape bits m
    ]

-- an address that has a shape has that of its form
pub shape_is : (bits : Bits) (m : Mem) (form : AddressForm) → form_of m.base m.index ≡ form → is_shape bits m ≡ true → shape_at bits m form ≡ true
unfolding is_shape
shape_is bits m form e h = subst (λ (x : AddressForm). shape_at bits m x ≡ true) e h

-- a form offers a number of displacement bytes
abbrev pub offers_at : Bits → Mem → ℕ → AddressForm → Bool
offers_at asize m n form =
    elim form [
      | Relative size ↦ n == 4
      | Alone ↦ n == full_displacement asize
      | Short base ↦ short_offers (rm_of_short base m.index) n
      | Wide ↦ wide_offers m.base n
    ]

-- what an address is offered its form offers
pub offers_is : (asize : Bits) (m : Mem) (n : ℕ) (form : AddressForm) → form_of m.base m.index ≡ form → form_offers asize m n ≡ true → offers_at asize m n form ≡ true
unfolding form_offers
offers_is asize m n form e h = subst (λ (x : AddressForm). offers_at asize m n x ≡ true) e h

-- the displacement is a value of its form
abbrev pub value_at : Bits → Mem → AddressForm → Bool
value_at asize m form =
    elim form [ Relative size ↦ nat_lt m.disp (2 ^ width size) | _ ↦ is_extended_of (displacement_count m.disp_size) (width asize) m.disp ]

-- ---- a memory operand among the four

-- an operand that is memory is one of them
pub memory_there : (i : Instr) (n : ℕ) → n < 4 → is_memory (operand_at i n) ≡ true → has_memory_operand i ≡ true
unfolding has_memory_operand
memory_there i zero h e = or_left _ _ e
memory_there i (suc zero) h e = or_right (is_memory (operand_at i 0)) _ (or_left _ _ e)
memory_there i (suc (suc zero)) h e = or_right (is_memory (operand_at i 0)) _ (or_right (is_memory (operand_at i 1)) _ (or_left _ _ e))
memory_there i (suc (suc (suc zero))) h e =
    or_right (is_memory (operand_at i 0)) _ (or_right (is_memory (operand_at i 1)) _ (or_right (is_memory (operand_at i 2)) (is_memory (operand_at i 3)) e))
memory_there i (suc (suc (suc (suc n)))) h e = absurd (omega arith)

-- ---- gathers

-- the registers that a gather's kind names
abbrev pub IsVectorFile : File → Type 0
IsVectorFile file = (file ≡ XmmFile) ⊎ (file ≡ VectorFile)

-- a gather's index is of a vector file
pub gather_file : (kind : OpKind) → method_of kind ≡ method.Gather → IsVectorFile (file_of kind)
unfolding method_of file_of
gather_file GatherX h = inl refl
gather_file GatherL h = inr refl
gather_file kind h = impossible cc

or_left_not : (a b : Bool) → (a || not b) ≡ true → b ≡ true → a ≡ true
or_left_not true b h e = refl
or_left_not false true h e = h
or_left_not false false h e = e

-- a kind that names vector registers, where it is read from reg, r/m or vvvv
pub vectors_named : (kind : OpKind) → names_vectors kind ≡ true → (reads_reg (method_of kind) || (reads_rm (method_of kind) || is_vvvv (method_of kind))) ≡ true → is_vector_file (file_of kind) ≡ true
vectors_named kind h e = or_left_not (is_vector_file (file_of kind)) _ h e
