-- The sizes, the W and the L of an entry's rows (docs/entries.md).
use Rattle.std.specs.Prelude.{ℕ, ◌+◌, Bool, true, false, ◌&&◌, ◌||◌, not, ◌==◌, if◌then◌else◌, List, [], ◌∷◌, map, Option, Some, None}
use Rattle.instruction_parts.specs.declared.row_types.RowKind.TheVariants.{Legacy, Vex}
use Rattle.instruction_parts.specs.declared.row_types.OpKind.{OpKind}
use Rattle.instruction_parts.specs.declared.row_types.OpKind.TheVariants as op
use Rattle.instruction_parts.specs.declared.row_types.Size.{Size}
use Rattle.instruction_parts.specs.declared.row_types.Size.TheVariants as size
use Rattle.instruction_parts.specs.declared.row_types.WBit.{WBit}
use Rattle.instruction_parts.specs.declared.row_types.WBit.TheVariants as bit
use Rattle.instruction_parts.specs.declared.row_types.LBit.{LBit}
use Rattle.instruction_parts.specs.declared.row_types.LBit.TheVariants as lbit
use Rattle.instruction_parts.specs.Kinds.{method_of}
use Rattle.instruction_parts.specs.declared.kinds.Method.{Method}
use Rattle.instruction_parts.specs.declared.kinds.Method.TheVariants as method
use Rattle.row_entries.specs.declared.entry.Entry.{Entry}
use Rattle.row_entries.specs.declared.entry.Modes.{Modes}
use Rattle.row_entries.specs.declared.entry.Modes.TheVariants as modes
use Rattle.row_entries.specs.declared.entry.Sizes.{Sizes}
use Rattle.row_entries.specs.declared.entry.Sizes.TheVariants as sizes
use Rattle.row_entries.specs.declared.entry.VexW.{VexW}
use Rattle.row_entries.specs.declared.entry.VexW.TheVariants as w
use Rattle.row_entries.specs.declared.entry.VexL.{VexL}
use Rattle.row_entries.specs.declared.entry.VexL.TheVariants as l
use Rattle.row_entries.specs.declared.variants.Trait.{Trait}
use Rattle.row_entries.specs.declared.variants.Trait.TheVariants as trait
use Rattle.row_entries.specs.declared.variants.Variant.{Variant}

-- ---- what the kinds of operands say

-- the operand's size is the operand size (Intel SDM volume 2, A.2.2: v, z, p)
unfoldable pub is_by_size : OpKind → Bool
is_by_size op.Ev = true
is_by_size op.Ez = true
is_by_size op.Gv = true
is_by_size op.Zv = true
is_by_size op.Rv = true
is_by_size op.Xv = true
is_by_size op.Mv = true
is_by_size op.Ov = true
is_by_size op.Iz = true
is_by_size op.Iv = true
is_by_size op.Jz = true
is_by_size op.Ap = true
is_by_size _ = false

-- the operand's size goes by W (A.2.2: y)
unfoldable pub is_by_w : OpKind → Bool
is_by_w op.Ey = true
is_by_w op.Gy = true
is_by_w op.By = true
is_by_w op.Ry = true
is_by_w _ = false

-- the operand is read from ModRM
abbrev pub reads_modrm : Method → Bool
reads_modrm method.ModRmReg = true
reads_modrm method.RegisterOrMemory = true
reads_modrm method.RegisterOnly = true
reads_modrm method.MemoryOnly = true
reads_modrm method.AnyMode = true
reads_modrm method.Gather = true
reads_modrm _ = false

-- an operand is read from a ModRM byte that names a register alone
abbrev pub asks_register : Method → Bool
asks_register method.RegisterOnly = true
asks_register _ = false

-- an operand is read from a ModRM byte that names memory alone
abbrev pub asks_memory : Method → Bool
asks_memory method.MemoryOnly = true
asks_memory method.Gather = true
asks_memory _ = false

-- the kind of an operand has the trait
abbrev pub has_trait : OpKind → Trait → Bool
has_trait kind trait.BySize = is_by_size kind
has_trait kind trait.ByW = is_by_w kind
has_trait kind trait.ReadsModRm = reads_modrm (method_of kind)
has_trait kind trait.RegisterOnly = asks_register (method_of kind)
has_trait kind trait.MemoryOnly = asks_memory (method_of kind)

-- one of the kinds has the trait
unfoldable pub any_has : List OpKind → Trait → Bool
any_has [] t = false
any_has (kind ∷ kinds) t = has_trait kind t || any_has kinds t

-- ---- modes, as the flags of a row

-- each mode in which the entry exists: 1, 2 and 4 for 16, 32 and 64-bit mode
abbrev pub all_modes : Modes → ℕ
all_modes modes.All = 7
all_modes modes.Outside64 = 3
all_modes modes.Only64 = 4

-- 64-bit mode, where it is one of them
abbrev pub only_64 : Modes → ℕ
only_64 modes.All = 4
only_64 modes.Outside64 = 0
only_64 modes.Only64 = 4

-- the other two, where they are
abbrev pub outside_64 : Modes → ℕ
outside_64 modes.All = 3
outside_64 modes.Outside64 = 3
outside_64 modes.Only64 = 0

-- ---- sizes

-- the rows go by the operand size though no mark says so: by an operand's kind, or since each size has its name
unfoldable pub goes_by_size : Entry → Bool
goes_by_size e = any_has e.ops trait.BySize || e.more_names == 2

-- the mark that rows go by W, with an operand size of 32 or 64
abbrev pub is_by_w_mark : Sizes → Bool
is_by_w_mark sizes.ByW = true
is_by_w_mark _ = false

-- the rows go by W
unfoldable pub goes_by_w : Entry → Bool
goes_by_w e = is_by_w_mark e.sizes || (any_has e.ops trait.ByW && not (goes_by_size e))

-- a row of one size, in these modes, that says no W
abbrev pub variant_of_size : Size → ℕ → Variant
variant_of_size s m = record { size = s; w = bit.None; modes = m }

-- no row: it exists in no mode
abbrev pub nothing : Variant
nothing = variant_of_size size.None 0

-- three rows by operand size
abbrev pub by_sizes : ℕ → ℕ → ℕ → List Variant
by_sizes small middle large = variant_of_size size.O16 small ∷ variant_of_size size.O32 middle ∷ variant_of_size size.O64 large ∷ []

-- three rows
abbrev pub three : Variant → Variant → Variant → Option (List Variant)
three a b c = Some (a ∷ b ∷ c ∷ [])

-- where neither W nor a default size of 64 bits decides: by the mark of sizes, or as the operands and names say
abbrev pub by_mark : Modes → Sizes → Bool → Option (List Variant)
by_mark m sizes.By16 implied = three (variant_of_size size.O16 (all_modes m)) (variant_of_size size.O32or64 (all_modes m)) nothing
by_mark m sizes.O32O64 implied = three (variant_of_size size.O32 (all_modes m)) (variant_of_size size.O64 (only_64 m)) nothing
by_mark m sizes.O16O32 implied = three (variant_of_size size.O16 (all_modes m)) (variant_of_size size.O32 (all_modes m)) nothing
by_mark m sizes.All implied = Some (by_sizes (all_modes m) (all_modes m) (only_64 m))
by_mark m _ implied =
    if implied then Some (by_sizes (all_modes m) (all_modes m) (only_64 m)) else None

-- the rows go by the operand size since they do by an operand or by their names
abbrev pub is_implied : Entry → Bool
is_implied e = goes_by_size e || (e.more_names == 1 && only_64 e.modes == 0)

-- where no W decides: `^`, `!`, or the mark of sizes
abbrev pub by_operand_size : Entry → Option (List Variant)
by_operand_size e =
    if e.caret then Some (by_sizes (all_modes e.modes) (outside_64 e.modes) (only_64 e.modes))
    else if e.bang then Some (by_sizes (outside_64 e.modes) (outside_64 e.modes) (only_64 e.modes))
    else by_mark e.modes e.sizes (is_implied e)

-- where no mark says W 0 or W 1
abbrev pub by_w_or_size : Entry → Option (List Variant)
by_w_or_size e =
    if goes_by_w e then three (variant_of_size size.W0 (all_modes e.modes)) (variant_of_size size.W1 (only_64 e.modes)) nothing else by_operand_size e

-- the rows of an entry that goes by the operand size, or by a W that is its operand size; none where it has one size
unfoldable pub sizes_of : Entry → Option (List Variant)
sizes_of e =
    elim e.sizes [
      | sizes.W0 ↦ three (variant_of_size size.W0 (all_modes e.modes)) nothing nothing
      | sizes.W1 ↦ three (variant_of_size size.W1 (only_64 e.modes)) nothing nothing
      | _ ↦ by_w_or_size e
    ]

-- ---- W and L

-- the W of the notation of a VEX row that takes W as its size
abbrev pub w_of_size : Size → WBit
w_of_size size.W0 = bit.W0
w_of_size size.W1 = bit.W1
w_of_size _ = bit.None

-- the row with the W that its size is
abbrev pub with_own_w : Variant → Variant
with_own_w v = record v { w = w_of_size v.size }

-- a VEX row that goes by no size
abbrev pub by_notation : WBit → ℕ → Variant
by_notation x m = record { size = size.None; w = x; modes = m }

-- the rows of a VEX entry that goes by no size, for one L
abbrev pub by_vex_w : VexW → ℕ → List Variant
by_vex_w w.Wig m = by_notation bit.Wig m ∷ nothing ∷ nothing ∷ []
by_vex_w w.W0 m = by_notation bit.W0 m ∷ nothing ∷ nothing ∷ []
by_vex_w w.W1 m = by_notation bit.W1 m ∷ nothing ∷ nothing ∷ []
by_vex_w w.Both m = by_notation bit.W0 m ∷ by_notation bit.W1 m ∷ nothing ∷ []

-- of the rows by size those of a legacy entry, or else the one row
abbrev pub legacy_variants : Entry → Option (List Variant) → List Variant
legacy_variants e (Some rows) = rows
legacy_variants e None = variant_of_size size.None (all_modes e.modes) ∷ nothing ∷ nothing ∷ []

-- of the rows by size those of a VEX entry, with a W of their own, or else its rows by W
abbrev pub vex_variants : Entry → Option (List Variant) → List Variant
vex_variants e (Some rows) = map with_own_w rows
vex_variants e None = by_vex_w e.w (all_modes e.modes)

-- the rows of an entry for one L; those without a mode are none
unfoldable pub variants : Entry → List Variant
variants e = elim e.kind [ Legacy ↦ legacy_variants e (sizes_of e) | Vex ↦ vex_variants e (sizes_of e) ]

-- how many rows there are for one L
unfoldable pub variant_count : List Variant → ℕ
variant_count [] = 0
variant_count (v ∷ vs) = if v.modes == 0 then variant_count vs else 1 + variant_count vs

-- the values of L of an entry's rows
abbrev pub vex_lengths : VexL → List LBit
vex_lengths l.Both = lbit.L128 ∷ lbit.L256 ∷ []
vex_lengths l.L128 = lbit.L128 ∷ []
vex_lengths l.L256 = lbit.L256 ∷ []
vex_lengths l.Lig = lbit.Lig ∷ []
vex_lengths l.Lz = lbit.Lz ∷ []

-- the values of L of an entry's rows; a legacy row has none
abbrev pub lengths : Entry → List LBit
lengths e = elim e.kind [ Legacy ↦ lbit.None ∷ [] | Vex ↦ vex_lengths e.l ]
