-- Lines of alignment: `align` and a number.
use Rattle.std.specs.Prelude.{ℕ, zero, suc, ◌-◌, ◌/◌, ◌%◌, ◌==◌, Bool, ◌&&◌, nat_lt, nat_le, if◌then◌else◌, List, [], ◌∷◌, ◌++◌, map, replicate, bytes_eq, codes, Option, Some, None}
use Rattle.x86_values.specs.declared.Bits.{Bits}
use Rattle.x86_values.specs.declared.Bits.TheVariants.{B16}
use Rattle.assembly_text.specs.Lines.{lower_byte}
use Rattle.assembly_text.specs.Drafts.{operand_in}
use Rattle.assembly_text.specs.Constants.{whole_number}

-- the word `align`, in any case
unfoldable pub is_align : List ℕ → Bool
is_align word = bytes_eq (map lower_byte word) (codes "align")

-- an alignment is a power of two from 1 to 4096: a number that divides 4096
unfoldable pub is_alignment : ℕ → Bool
is_alignment n = nat_lt 0 n && (nat_le n 4096 && 4096 % n == 0)

-- a number, if it is an alignment
unfoldable pub only_alignment : Option ℕ → Option ℕ
only_alignment None = None
only_alignment (Some n) = if is_alignment n then Some n else None

-- the alignment behind the word
abbrev pub alignment_in : List ℕ → Option ℕ
alignment_in text = only_alignment (whole_number (operand_in 0 (map lower_byte text)))

-- how many bytes lie between an address and the next multiple of a number
unfoldable pub gap : ℕ → ℕ → ℕ
gap n address = (n - address % n) % n

-- the NOP of one to nine bytes that the manual recommends
unfoldable pub nop : ℕ → List ℕ
nop count =
    if count == 1 then 0x90 ∷ []
    else (if count == 2 then 0x66 ∷ 0x90 ∷ []
    else (if count == 3 then 0x0F ∷ 0x1F ∷ 0x00 ∷ []
    else (if count == 4 then 0x0F ∷ 0x1F ∷ 0x40 ∷ 0x00 ∷ []
    else (if count == 5 then 0x0F ∷ 0x1F ∷ 0x44 ∷ 0x00 ∷ 0x00 ∷ []
    else (if count == 6 then 0x66 ∷ 0x0F ∷ 0x1F ∷ 0x44 ∷ 0x00 ∷ 0x00 ∷ []
    else (if count == 7 then 0x0F ∷ 0x1F ∷ 0x80 ∷ 0x00 ∷ 0x00 ∷ 0x00 ∷ 0x00 ∷ []
    else (if count == 8 then 0x0F ∷ 0x1F ∷ 0x84 ∷ 0x00 ∷ 0x00 ∷ 0x00 ∷ 0x00 ∷ 0x00 ∷ []
    else (if count == 9 then 0x66 ∷ 0x0F ∷ 0x1F ∷ 0x84 ∷ 0x00 ∷ 0x00 ∷ 0x00 ∷ 0x00 ∷ 0x00 ∷ [] else []))))))))

-- The longest NOP that is used: in 16-bit mode those of five bytes and more mean something else.
unfoldable pub longest_nop : Bits → ℕ
longest_nop B16 = 4
longest_nop _ = 9

-- some bytes, so many times
unfoldable pub repeated : ℕ → List ℕ → List ℕ
repeated zero bytes = []
repeated (suc count) bytes = bytes ++ repeated count bytes

-- NOPs of so many bytes together: as many of the longest as there is room for, and a shorter one
unfoldable pub nops : Bits → ℕ → List ℕ
nops bits count = repeated (count / longest_nop bits) (nop (longest_nop bits)) ++ nop (count % longest_nop bits)

-- what fills so many bytes: zeros behind data, else NOPs
unfoldable pub padding : Bits → Bool → ℕ → List ℕ
padding bits zeros count = if zeros then replicate count 0 else nops bits count
