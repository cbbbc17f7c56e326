-- What stands behind an opcode byte, and when it can stand behind one of a row (Intel SDM volume 2, 2.1.3 to 2.1.5).
use Rattle.std.specs.Prelude.{ℕ, ◌/◌, ◌%◌, Bool, true, false, ◌&&◌, not, ◌≡◌, if◌then◌else◌, List, [], ◌∷◌, Option, Some, None}
use Rattle.std.specs.List.{list_any}
use Rattle.x86_values.specs.declared.Bits.{Bits}
use Rattle.instruction_parts.specs.declared.row_types.Row.{Row}
use Rattle.instruction_parts.specs.declared.spelling.ModRm.{ModRm}
use Rattle.instruction_parts.specs.declared.spelling.Sib.{Sib}
use Rattle.instruction_parts.specs.declared.spelling.PrefixState.{PrefixState}
use Rattle.instruction_parts.specs.Sizes.{is_vex_row, state_size, state_address_size, size_bytes}
use Rattle.row_fit.specs.Sound.{has_modrm_rule}
use Rattle.row_fit.specs.Fits.{immediates_bytes, reads_by, is_offset, reads_mode, needs_sib, displacement_bytes, same_map, opcode_allows, opcode_and_modrm_fit, lock_fits, registers_fit, state_fits}

-- a ModRM of its fields
abbrev pub modrm_of : ℕ → ℕ → ℕ → ModRm
modrm_of mode3 reg rm = record { mode3 = mode3; reg = reg; rm = rm }

-- a SIB of its fields
abbrev pub sib_of : ℕ → ℕ → ℕ → Sib
sib_of scale index base = record { scale = scale; index = index; base = base }

-- the fields of a ModRM byte: mod in bits 6 and 7, reg in bits 3 to 5, rm in bits 0 to 2 (2.1.3)
unfoldable pub modrm_of_byte : ℕ → ModRm
modrm_of_byte b = modrm_of (b / 64) (b / 8 % 8) (b % 8)

-- the fields of a SIB byte: scale, index and base in the same bits (2.1.3)
unfoldable pub sib_of_byte : ℕ → Sib
sib_of_byte b = sib_of (b / 64) (b / 8 % 8) (b % 8)

-- a SIB stands behind this ModRM
unfoldable pub takes_sib : Bits → Row → PrefixState → ModRm → Bool
takes_sib bits row state m = reads_mode row && needs_sib (state_address_size bits state) m

-- the bytes of the displacement
unfoldable pub displacement_len : Bits → Row → PrefixState → Option ModRm → Option Sib → ℕ
displacement_len bits row state None sib =
    if reads_by is_offset row then size_bytes (state_address_size bits state) else 0
displacement_len bits row state (Some m) sib =
    if reads_mode row then displacement_bytes (state_address_size bits state) m sib else 0

-- the map and the VEX of the state are those of the row, and a legacy opcode byte allows the ModRM
unfoldable pub lead_fits : Bits → Row → PrefixState → Option ModRm → Bool
lead_fits bits row state m =
    same_map state.map row.map
    && elim state.vex [
      | None ↦ not (is_vex_row row) && opcode_allows bits row.map state.opcode m
      | Some v ↦ is_vex_row row
    ]

-- all that the row asks of state, ModRM and SIB; what stands behind them is asked for its length alone
unfoldable pub parts_fit : Bits → Row → PrefixState → Option ModRm → Option Sib → Bool
parts_fit bits row state m sib =
    state_fits bits row state
    && (lead_fits bits row state m
    && (opcode_and_modrm_fit row state.opcode m && (lock_fits row state m && registers_fit bits row state m sib)))

-- ---- what can complete bytes that end

-- some number of three bits passes
abbrev pub some_of_three_bits : (ℕ → Bool) → Bool
some_of_three_bits p = list_any p (0 ∷ 1 ∷ 2 ∷ 3 ∷ 4 ∷ 5 ∷ 6 ∷ 7 ∷ [])

-- some SIB can stand behind this ModRM: only its index decides
unfoldable pub some_sib_fits : Bits → Row → PrefixState → ModRm → Bool
some_sib_fits bits row state m =
    some_of_three_bits (λ index. parts_fit bits row state (Some m) (Some (sib_of 0 index 0)))

-- the ModRM can stand behind the state, with some SIB where it takes one
unfoldable pub modrm_can_fit : Bits → Row → PrefixState → ModRm → Bool
modrm_can_fit bits row state m =
    if takes_sib bits row state m then some_sib_fits bits row state m else parts_fit bits row state (Some m) None

-- some ModRM with this mod and reg can
unfoldable pub some_rm_fits : Bits → Row → PrefixState → ℕ → ℕ → Bool
some_rm_fits bits row state mode3 reg = some_of_three_bits (λ rm. modrm_can_fit bits row state (modrm_of mode3 reg rm))

-- some ModRM with this mod can
unfoldable pub some_reg_fits : Bits → Row → PrefixState → ℕ → Bool
some_reg_fits bits row state mode3 = some_of_three_bits (λ reg. some_rm_fits bits row state mode3 reg)

-- some ModRM can
unfoldable pub some_modrm_fits : Bits → Row → PrefixState → Bool
some_modrm_fits bits row state = list_any (λ mode3. some_reg_fits bits row state mode3) (0 ∷ 1 ∷ 2 ∷ 3 ∷ [])

-- ---- what is known before it is asked

-- the ModRM at the front of the bytes behind the opcode byte, where the row has one
abbrev pub modrm_in : Row → List ℕ → Option ModRm
modrm_in row [] = None
modrm_in row (b ∷ bytes) = if has_modrm_rule row.modrm then Some (modrm_of_byte b) else None

-- the row takes the state with the ModRM that stands there, whatever SIB stands behind it
abbrev pub KnownToFit : Bits → Row → PrefixState → List ℕ → Type 0
KnownToFit bits row state bytes = (sib : Option Sib) → parts_fit bits row state (modrm_in row bytes) sib ≡ true

-- the row reads ModRM.mod, has no absolute address, and under the prefixes of the state its immediates have n bytes (2.1.5)
pub record TellsLengths (bits : Bits) (row : Row) (state : PrefixState) (n : ℕ) : Type 0 where
  pub mode : reads_mode row ≡ true
  pub offset : reads_by is_offset row ≡ false
  pub immediates : n ≡ immediates_bytes (state_size bits row state) row
