-- How many bytes an operand has behind the instruction, by how it is read.
use Rattle.std.proofs.Common.{◌≡◌, ℕ, ◌≤◌, List, [], refl, arith}
use Rattle.x86_values.specs.declared.Operand.{Operand}
use Rattle.x86_values.specs.declared.Operand.TheVariants.{Reg, Mem as Memory, Imm, Near, Far}
use Rattle.x86_values.specs.declared.Instr.{Instr}
use Rattle.instruction_parts.specs.declared.row_types.Row.{Row}
use Rattle.x86_values.specs.declared.Bits.{Bits}
use Rattle.x86_values.specs.declared.Bits.TheVariants.{B16, B32, B64}
use Rattle.instruction_parts.specs.declared.row_types.OpKind.{OpKind}
use Rattle.instruction_parts.specs.declared.row_types.OpKind.TheVariants.{Ib, Iw, Ibs, Iz, Iv, Jb, Jz, Ap}
use Rattle.instruction_parts.specs.declared.kinds.Method.{Method}
use Rattle.instruction_parts.specs.declared.kinds.Method.TheVariants as method
use Rattle.instruction_parts.specs.Kinds.{method_of, immediate_width}
use Rattle.row_fit.specs.Fits.{kind_at, immediate_bytes, immediates_bytes}
use Rattle.plain_spelling.specs.Values.{low_bytes, distance}
use Rattle.plain_spelling.specs.Forms.{operand_at}
use Rattle.plain_spelling.specs.declared.addresses.AddressForm.TheVariants.{Relative}
use Rattle.plain_spelling.specs.declared.addresses.AddressForm.{AddressForm}
use Rattle.plain_spelling.specs.Addresses.{form_of, displacement_count}
use Rattle.plain_spelling.specs.PlainTail.{operand_displacement, displacement_of, displacement_of_operand, operand_immediate, immediate_at, plain_immediates}

-- what holds at each of the three sizes holds at any
pub of_each_size : (P : Bits → Type 0) → P B16 → P B32 → P B64 → (size : Bits) → P size
of_each_size P a b c B16 = a
of_each_size P a b c B32 = b
of_each_size P a b c B64 = c

-- a far pointer has a selector of two bytes, a register in the last byte one, and what is read elsewhere none
abbrev pub BytesSuit : Method → ℕ → Type 0
BytesSuit method.AsWritten n = Unit {0}
BytesSuit method.Extended n = Unit {0}
BytesSuit method.Near n = Unit {0}
BytesSuit method.Pointer n = 2 ≤ n
BytesSuit method.LastByte n = n ≡ 1
BytesSuit _ n = n ≡ 0

-- the bytes of a kind suit how it is read
pub bytes_suit : (size : Bits) (kind : OpKind) → BytesSuit (method_of kind) (immediate_bytes size kind)
unfolding method_of immediate_width immediate_bytes
bytes_suit size Ib = tt
bytes_suit size Iw = tt
bytes_suit size Ibs = tt
bytes_suit size Iz = tt
bytes_suit size Iv = tt
bytes_suit size Jb = tt
bytes_suit size Jz = tt
bytes_suit size Ap = of_each_size (λ s. 2 ≤ immediate_bytes s Ap) (omega arith) (omega arith) (omega arith) size
bytes_suit size _ = refl

-- at most eight bytes
pub bytes_short : (size : Bits) (kind : OpKind) → immediate_bytes size kind ≤ 8
unfolding immediate_width immediate_bytes
bytes_short size Iz = of_each_size (λ s. immediate_bytes s Iz ≤ 8) (omega arith) (omega arith) (omega arith) size
bytes_short size Iv = of_each_size (λ s. immediate_bytes s Iv ≤ 8) (omega arith) (omega arith) (omega arith) size
bytes_short size Jz = of_each_size (λ s. immediate_bytes s Jz ≤ 8) (omega arith) (omega arith) (omega arith) size
bytes_short size Ap = of_each_size (λ s. immediate_bytes s Ap ≤ 8) (omega arith) (omega arith) (omega arith) size
bytes_short size _ = omega arith

-- an operand that has no bytes behind the instruction has none there
none-by : (size : Bits) (next : ℕ) (how : Method) (n : ℕ) (op : Operand) → BytesSuit how n → n ≡ 0 → operand_immediate size next how n op ≡ []
unfolding operand_immediate low_bytes
none-by size next method.AsWritten n (Imm x) s e = rw e refl
none-by size next method.Extended n (Imm x) s e = rw e refl
none-by size next method.Near n (Near x) s e = rw e refl
none-by size next method.Pointer n (Far x y) s e = absurd (omega (arith, s, e))
none-by size next method.LastByte n (Reg r) s e = absurd (omega (arith, s, e))
none-by size next _ n _ s e = refl

-- an operand that has no bytes of the immediates adds none
pub no_immediate : (size : Bits) (row : Row) (i : Instr) (next n : ℕ) → immediate_bytes size (kind_at row n) ≡ 0 → immediate_at size row i next n ≡ []
unfolding immediate_at
no_immediate size row i next n e = none-by size next (method_of (kind_at row n)) _ (operand_at i n) (bytes_suit size (kind_at row n)) e

-- and where no operand has any, there are none at all
pub no_immediates : (size : Bits) (row : Row) (i : Instr) (next : ℕ) → immediates_bytes size row ≡ 0 → plain_immediates size row i next ≡ []
unfolding plain_immediates immediates_bytes
no_immediates size row i next e =
    rw (no_immediate size row i next 0 (omega (arith, e)))
    (rw (no_immediate size row i next 1 (omega (arith, e)))
    (rw (no_immediate size row i next 2 (omega (arith, e)))
    (no_immediate size row i next 3 (omega (arith, e)))))

abbrev form_bytes : AddressForm → ℕ → ℕ → ℕ → List ℕ
form_bytes form next n disp = elim form [ Relative size ↦ low_bytes n (distance size next disp) | _ ↦ low_bytes n disp ]

form-none : (form : AddressForm) (next n disp : ℕ) → n ≡ 0 → form_bytes form next n disp ≡ []
unfolding low_bytes
form-none (Relative size) next n disp e = rw e refl
form-none _ next n disp e = rw e refl

-- a displacement of no bytes has none
pub no_displacement : (next : ℕ) (op : Operand) → operand_displacement op ≡ 0 → displacement_of_operand next op ≡ []
unfolding displacement_of
no_displacement next (Memory m) e = form-none (form_of m.base m.index) next (displacement_count m.disp_size) m.disp e
no_displacement next _ e = refl
