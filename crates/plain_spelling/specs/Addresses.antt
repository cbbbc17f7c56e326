-- How an address is written: which base, index and scale have a ModRM and SIB, which displacements stand with them, and the fields
-- of the plain one (Intel SDM volume 2, 2.1.5, 2.2.1.3 to 2.2.1.6, 2.3.12; tables 2-1 to 2-3 and 2-5).
use Rattle.std.specs.Prelude.{ℕ, ◌%◌, ◌^◌, Bool, true, false, ◌&&◌, ◌||◌, not, ◌==◌, nat_lt, if◌then◌else◌, Option, Some, None, is_some, is_none}
use Rattle.x86_values.specs.declared.Bits.{Bits}
use Rattle.x86_values.specs.declared.Bits.TheVariants.{B16, B32, B64}
use Rattle.x86_values.specs.declared.Register.{Register}
use Rattle.x86_values.specs.declared.Register.TheVariants.{R16, R32, R64, Xmm, Eip, Rip}
use Rattle.x86_values.specs.declared.DispSize.{DispSize}
use Rattle.x86_values.specs.declared.DispSize.TheVariants.{D0, D8, D16, D32, D64}
use Rattle.x86_values.specs.declared.Mem.{Mem}
use Rattle.x86_values.specs.Wrapping.{width}
use Rattle.instruction_parts.specs.declared.row_types.Row.{Row}
use Rattle.instruction_parts.specs.declared.kinds.Method.{Method}
use Rattle.instruction_parts.specs.declared.kinds.Method.TheVariants as method
use Rattle.instruction_parts.specs.declared.kinds.File.{File}
use Rattle.instruction_parts.specs.declared.kinds.File.TheVariants.{Xmm as XmmFile}
use Rattle.instruction_parts.specs.declared.spelling.Sib.{Sib}
use Rattle.instruction_parts.specs.Counting.{is_16, is_64, or_else}
use Rattle.instruction_parts.specs.Sizes.{size_bytes}
use Rattle.row_fit.specs.Fits.{full_displacement}
use Rattle.row_meaning.specs.Meaning.{vector}
use Rattle.plain_spelling.specs.declared.addresses.AddressForm.{AddressForm}
use Rattle.plain_spelling.specs.declared.addresses.AddressForm.TheVariants.{Relative, Alone, Short, Wide}
use Rattle.plain_spelling.specs.declared.addresses.AddressFields.{AddressFields}
use Rattle.plain_spelling.specs.Values.{is_extended_of}
use Rattle.plain_spelling.specs.Forms.{is_scale}
use Rattle.x86_values.specs.Comparing.{same_bits, same_register}
use Rattle.plain_spelling.specs.PlainFront.{register_number}

-- ---- sizes

-- how many register numbers a mode has: 16 in 64-bit mode, else 8 (2.2.1.2)
unfoldable pub register_count : Bits → ℕ
register_count B64 = 16
register_count _ = 8

-- an address size that the mode has: its own, and the one that 67 gives (2.1.1, group 4)
unfoldable pub has_address_size : Bits → Bits → Bool
has_address_size B64 B16 = false
has_address_size B64 _ = true
has_address_size _ B64 = false
has_address_size _ _ = true

-- the size of a general register of 16, 32 or 64 bits
unfoldable pub general_size : Register → Option Bits
general_size (R16 _) = Some B16
general_size (R32 _) = Some B32
general_size (R64 _) = Some B64
general_size _ = None

-- the size of a general register that may be absent
abbrev pub general_size_if : Option Register → Option Bits
general_size_if None = None
general_size_if (Some r) = general_size r

-- the size of an instruction pointer
unfoldable pub pointer_size : Register → Option Bits
pointer_size Rip = Some B64
pointer_size Eip = Some B32
pointer_size _ = None

-- the address size that the general registers of an address show
unfoldable pub shown_size : Mem → Option Bits
shown_size m = or_else (general_size_if m.base) (general_size_if m.index)

-- a size that may be absent, else another
abbrev pub size_or : Option Bits → Bits → Bits
size_or None size = size
size_or (Some given) size = given

-- the address size that an address is written with: what its general registers show, else what the instruction says, else the mode's
unfoldable pub written_size : Bits → Option Bits → Mem → Bits
written_size bits asize m = size_or (shown_size m) (size_or asize bits)

-- ---- forms

-- the form that base and index ask for
unfoldable pub form_of : Option Register → Option Register → AddressForm
form_of None None = Alone
form_of None (Some _) = Wide
form_of (Some Rip) _ = Relative B64
form_of (Some Eip) _ = Relative B32
form_of (Some (R16 n)) _ = Short n
form_of (Some _) _ = Wide

-- rm of a lone register of 16-bit addressing: SI, DI, BP, BX (table 2-1)
unfoldable pub rm_of_one : ℕ → Option ℕ
rm_of_one base =
    if base == 6 then Some 4 else (if base == 7 then Some 5 else (if base == 5 then Some 6 else (if base == 3 then Some 7 else None)))

-- rm of a sum: BX or BP, and SI or DI (table 2-1)
unfoldable pub rm_of_two : ℕ → ℕ → Option ℕ
rm_of_two base index =
    if base == 3 then (if index == 6 then Some 0 else (if index == 7 then Some 1 else None))
    else (if base == 5 then (if index == 6 then Some 2 else (if index == 7 then Some 3 else None)) else None)

-- rm of 16-bit addressing by the number of the first register and the second register, where there is one
unfoldable pub rm_of_short : ℕ → Option Register → Option ℕ
rm_of_short base None = rm_of_one base
rm_of_short base (Some (R16 index)) = rm_of_two base index
rm_of_short base (Some _) = None

-- ---- shapes

-- a general register of 64 bits, and no index
abbrev pub is_sole_base : Option Register → Option Register → Bool
is_sole_base (Some (R64 n)) None = true
is_sole_base _ _ = false

-- a general register of an address size, with a number of the mode
unfoldable pub is_address_register : Bits → Bits → Register → Bool
is_address_register bits asize r =
    (elim (general_size r) [ None ↦ false | Some size ↦ same_bits size asize ]) && nat_lt (register_number r) (register_count bits)

-- a base may be absent
unfoldable pub is_base : Bits → Bits → Option Register → Bool
is_base bits asize None = true
is_base bits asize (Some r) = is_address_register bits asize r

-- an index may be absent, and number 4 is none (2.1.5, table 2-3)
unfoldable pub is_index : Bits → Bits → Option Register → Bool
is_index bits asize None = true
is_index bits asize (Some r) = is_address_register bits asize r && not (register_number r == 4)

-- a scale stands with an index; without one it is 1 (2.1.5, table 2-3)
unfoldable pub scale_suits : Option Register → ℕ → Bool
scale_suits None scale = scale == 1
scale_suits (Some _) scale = is_scale scale

-- a size of 32 or 64-bit addressing that the mode has
unfoldable pub is_wide_size : Bits → Bits → Bool
is_wide_size bits asize = has_address_size bits asize && not (is_16 asize)

-- a shape of 32 and 64-bit addressing (tables 2-2 and 2-3)
unfoldable pub is_wide_shape : Bits → Mem → Bool
is_wide_shape bits m =
    elim (shown_size m) [
      | None ↦ false
      | Some asize ↦ is_wide_size bits asize && (is_base bits asize m.base && (is_index bits asize m.index && scale_suits m.index m.scale))
    ]

-- a shape that ModRM can write: RIP and EIP stand alone and in 64-bit mode, 16-bit addressing elsewhere
unfoldable pub is_shape : Bits → Mem → Bool
is_shape bits m =
    elim (form_of m.base m.index) [
      | Relative size ↦ is_64 bits && (is_none m.index && m.scale == 1)
      | Alone ↦ m.scale == 1
      | Short n ↦ not (is_64 bits) && (is_some (rm_of_short n m.index) && m.scale == 1)
      | Wide ↦ is_wide_shape bits m
    ]

-- the vector register of a file with a number: XMM, or the row's vector
unfoldable pub index_named : Row → File → ℕ → Register
index_named row file n = elim file [ XmmFile ↦ Xmm n | _ ↦ vector row.l n ]

-- the index of a gather: a vector register of its kind, with a number of the mode (2.3.12)
unfoldable pub is_vector_index : Bits → Row → File → Option Register → Bool
is_vector_index bits row file None = false
is_vector_index bits row file (Some r) =
    same_register r (index_named row file (register_number r)) && nat_lt (register_number r) (register_count bits)

-- the base of a gather: none, or a general register of 32 or 64-bit addressing (2.3.12)
unfoldable pub is_gather_base : Bits → Option Register → Bool
is_gather_base bits None = true
is_gather_base bits (Some r) =
    elim (general_size r) [ None ↦ false | Some asize ↦ is_wide_size bits asize && is_address_register bits asize r ]

-- a shape of a gather
unfoldable pub is_gather_shape : Bits → Row → File → Mem → Bool
is_gather_shape bits row file m =
    is_gather_base bits m.base && (is_vector_index bits row file m.index && is_scale m.scale)

-- base, index and scale of an operand that is read so
unfoldable pub shape_suits : Bits → Row → Method → File → Mem → Bool
shape_suits bits row method.Gather file m = is_gather_shape bits row file m
shape_suits bits row method.Offset file m = is_none m.base && (is_none m.index && m.scale == 1)
shape_suits bits row _ file m = is_shape bits m

-- ---- displacements

-- how many bytes a displacement has
unfoldable pub displacement_count : DispSize → ℕ
displacement_count D0 = 0
displacement_count D8 = 1
displacement_count D16 = 2
displacement_count D32 = 4
displacement_count D64 = 8

-- with a base all lengths stand, but none without bytes where the base's low three bits are 5; without a base four bytes (table 2-3)
unfoldable pub wide_offers : Option Register → ℕ → Bool
wide_offers None n = n == 4
wide_offers (Some r) n = n == 1 || (n == 4 || (n == 0 && not (register_number r % 8 == 5)))

-- in 16-bit addressing all lengths stand, but BP alone has one byte or two (table 2-1)
unfoldable pub short_offers : Option ℕ → ℕ → Bool
short_offers rm n = n == 1 || (n == 2 || (n == 0 && (elim rm [ None ↦ true | Some rm ↦ not (rm == 6) ])))

-- an address by ModRM offers a displacement of n bytes
unfoldable pub form_offers : Bits → Mem → ℕ → Bool
form_offers asize m n =
    elim (form_of m.base m.index) [
      | Relative size ↦ n == 4
      | Alone ↦ n == full_displacement asize
      | Short base ↦ short_offers (rm_of_short base m.index) n
      | Wide ↦ wide_offers m.base n
    ]

-- an operand that is read so offers it; an absolute address has the address size (2.2.1.4)
unfoldable pub offers : Bits → Method → Mem → ℕ → Bool
offers asize method.Gather m n = wide_offers m.base n
offers asize method.Offset m n = n == size_bytes asize
offers asize _ m n = form_offers asize m n

-- the displacement is a value of its bytes at the address size; at RIP and EIP it is an address (2.2.1.3, 2.2.1.6)
unfoldable pub is_displacement : Bits → Mem → Bool
is_displacement asize m =
    elim (form_of m.base m.index) [
      | Relative size ↦ nat_lt m.disp (2 ^ width size)
      | _ ↦ is_extended_of (displacement_count m.disp_size) (width asize) m.disp
    ]

-- the displacement is one that the shape offers, and a value of its size
unfoldable pub displacement_suits : Bits → Method → Mem → Bool
displacement_suits asize how m = offers asize how m (displacement_count m.disp_size) && is_displacement asize m

-- memory that ModRM says, and no gather
abbrev pub is_by_modrm : Method → Bool
is_by_modrm method.RegisterOrMemory = true
is_by_modrm method.MemoryOnly = true
is_by_modrm _ = false

-- a base of 64 bits with a number of the mode, which stands alone in 64-bit mode with a displacement that it offers
unfoldable pub is_based : Bits → Mem → Bool
is_based bits m =
    is_64 bits && (is_sole_base m.base m.index && (is_base bits B64 m.base && (m.scale == 1
    && (wide_offers m.base (displacement_count m.disp_size) && is_extended_of (displacement_count m.disp_size) 64 m.disp))))

-- ---- the plain fields

-- mod by the bytes of a displacement beside a register: none, one, or the full length (2.1.5)
unfoldable pub mode_of_count : ℕ → ℕ
mode_of_count n = if n == 0 then 0 else (if n == 1 then 1 else 2)

-- the field scale of a scale (table 2-3)
unfoldable pub scale_field : ℕ → ℕ
scale_field scale = if scale == 1 then 0 else (if scale == 2 then 1 else (if scale == 4 then 2 else 3))

-- the field base: the low three bits, or 5 without a base (table 2-3)
unfoldable pub base_bits : Option Register → ℕ
base_bits None = 5
base_bits (Some r) = register_number r % 8

-- the field index: the low three bits, or 4 without an index (table 2-3)
unfoldable pub index_bits : Option Register → ℕ
index_bits None = 4
index_bits (Some r) = register_number r % 8

-- the plain SIB: its scale is 0 without an index
unfoldable pub plain_sib : Mem → Sib
plain_sib m = record {
  scale = elim m.index [ None ↦ 0 | Some _ ↦ scale_field m.scale ];
  index = index_bits m.index;
  base = base_bits m.base;
}

-- an address of base and index needs a SIB with an index, without a base, and with a base whose low three bits are 4 (2.1.5, table 2-2)
unfoldable pub wide_needs_sib : Mem → Bool
wide_needs_sib m = is_some m.index || (is_none m.base || base_bits m.base == 4)

-- the fields in 32 and 64-bit addressing; without a base mod is 0
unfoldable pub wide_fields : Mem → AddressFields
wide_fields m = record {
  mode3 = elim m.base [ None ↦ 0 | Some _ ↦ mode_of_count (displacement_count m.disp_size) ];
  rm = if wide_needs_sib m then 4 else base_bits m.base;
  sib = if wide_needs_sib m then Some (plain_sib m) else None;
}

-- the fields of a displacement alone: rm 6 in 16-bit addressing, rm 5 in 32-bit modes, and a SIB in 64-bit mode, where rm 5 is relative
-- (tables 2-1 and 2-2; 2.2.1.6)
unfoldable pub alone_fields : Bits → Bits → Mem → AddressFields
alone_fields bits asize m =
    if is_16 asize then record { mode3 = 0; rm = 6; sib = None }
    else (if is_64 bits then record { mode3 = 0; rm = 4; sib = Some (plain_sib m) } else record { mode3 = 0; rm = 5; sib = None })

-- a number that may be absent, else 0
abbrev pub or_zero : Option ℕ → ℕ
or_zero None = 0
or_zero (Some n) = n

-- the plain fields of an address of this address size
unfoldable pub address_fields : Bits → Bits → Mem → AddressFields
address_fields bits asize m =
    elim (form_of m.base m.index) [
      | Relative size ↦ record { mode3 = 0; rm = 5; sib = None }
      | Alone ↦ alone_fields bits asize m
      | Short base ↦ record { mode3 = mode_of_count (displacement_count m.disp_size); rm = or_zero (rm_of_short base m.index); sib = None }
      | Wide ↦ wide_fields m
    ]
