-- A general register of the operand size can be named by a kind that names any such.
use Rattle.std.proofs.Common.{◌≡◌, ℕ, true, refl, subst, nat_lt}
use Rattle.std.proofs.lemmas.Bool.{and_parts}
use Rattle.x86_values.specs.declared.Bits.{Bits}
use Rattle.x86_values.specs.declared.Bits.TheVariants.{B16, B32, B64}
use Rattle.x86_values.specs.declared.Register.{Register}
use Rattle.x86_values.specs.declared.Register.TheVariants.{R16, R32, R64}
use Rattle.x86_values.specs.declared.Instr.{Instr}
use Rattle.x86_values.specs.Comparing.{same_register}
use Rattle.x86_values.proofs.Compared.{same_register-refl}
use Rattle.instruction_parts.specs.declared.row_types.Row.{Row}
use Rattle.instruction_parts.specs.declared.row_types.OpKind.{OpKind}
use Rattle.instruction_parts.specs.declared.row_types.OpKind.TheVariants.{Ev, Gv, Rv}
use Rattle.instruction_parts.specs.Kinds.{method_of, file_of}
use Rattle.row_fit.specs.Fits.{kind_at}
use Rattle.row_meaning.specs.Meaning.{general_register, register_of}
use Rattle.plain_spelling.specs.PlainFront.{register_number}
use Rattle.plain_spelling.specs.PlainTail.{plain_size}
use Rattle.plain_spelling.specs.Addresses.{register_count, general_size, is_address_register}
use Rattle.plain_spelling.specs.Expressible.{exists_in_mode, is_of_kind, is_not_nop, kind_allows, is_nameable, names_any_sized, is_sized_register}
use Rattle.plain_spelling.proofs.PlainFrontLaws.{plain_state_size}

-- what a general register of a size is
record GeneralOf (bits size : Bits) (r : Register) : Type 0 where
  register : r ≡ general_register size (register_number r)
  exists : exists_in_mode bits r ≡ true
  below : nat_lt (register_number r) (register_count bits) ≡ true

general-of : (bits size : Bits) (r : Register) → is_address_register bits size r ≡ true → GeneralOf bits size r
unfolding is_address_register general_size general_register register_number exists_in_mode
general-of bits B16 (R16 n) h = record { register = refl; exists = refl; below = h }
general-of bits B32 (R32 n) h = record { register = refl; exists = refl; below = h }
general-of bits B64 (R64 n) h = record { register = refl; exists = refl; below = h }
general-of bits _ _ h = cc

-- what the kind asks
record NamesAny (bits : Bits) (row : Row) (i : Instr) (n : ℕ) (kind : OpKind) (r : Register) : Type 0 where
  named : r ≡ general_register (plain_size bits row) (register_number r) → is_of_kind bits row i kind r ≡ true
  other : is_not_nop row (method_of kind) r ≡ true
  allowed : kind_allows bits n kind r ≡ true

sized : (bits : Bits) (row : Row) (i : Instr) (r : Register) → r ≡ general_register (plain_size bits row) (register_number r)
    → same_register r (general_register (plain_size bits row) (register_number r)) ≡ true
sized bits row i r e = subst (λ (x : Register). same_register r x ≡ true) e (same_register-refl r)

names-any : (bits : Bits) (row : Row) (i : Instr) (n : ℕ) (kind : OpKind) (r : Register) → names_any_sized kind ≡ true → NamesAny bits row i n kind r
unfolding is_of_kind register_of file_of method_of is_not_nop kind_allows
names-any bits row i n Ev r h = record { named = λ e. rw (plain_state_size bits row i) (sized bits row i r e); other = refl; allowed = refl }
names-any bits row i n Gv r h = record { named = λ e. rw (plain_state_size bits row i) (sized bits row i r e); other = refl; allowed = refl }
names-any bits row i n Rv r h = record { named = λ e. rw (plain_state_size bits row i) (sized bits row i r e); other = refl; allowed = refl }
names-any bits row i n _ r h = cc

-- **such a register can be named**
pub sized-nameable : (bits : Bits) (row : Row) (i : Instr) (n : ℕ) (r : Register) → is_sized_register bits (plain_size bits row) (kind_at row n) r ≡ true
    → is_nameable bits row i n r ≡ true
unfolding is_sized_register is_nameable
sized-nameable bits row i n r h =
    let g = general-of bits (plain_size bits row) r (and_parts (names_any_sized (kind_at row n)) (is_address_register bits (plain_size bits row) r) h).1 in
    let k = names-any bits row i n (kind_at row n) r (and_parts (names_any_sized (kind_at row n)) (is_address_register bits (plain_size bits row) r) h).0 in
    rw (g.exists, g.below, k.named g.register, k.other, k.allowed) refl
