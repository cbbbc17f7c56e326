-- The nine fields of an instruction, from its prefixes, VEX and opcode byte and the byte behind it (Intel SDM volume 2, 2.1 and 2.3.5).
use Rattle.std.specs.Prelude.{ℕ, Bool, false, ◌==◌, if◌then◌else◌, List, [], ◌∷◌, Option, Some, None, is_some}
use Rattle.x86_values.specs.declared.Rep.{Rep}
use Rattle.x86_values.specs.declared.Rep.TheVariants.{None as NoRep, F2 as RepF2, F3 as RepF3}
use Rattle.instruction_parts.specs.declared.spelling.Vex.{Vex}
use Rattle.instruction_parts.specs.declared.spelling.PrefixState.{PrefixState}
use Rattle.instruction_parts.specs.Counting.{rex_bit}
use Rattle.instruction_parts.specs.declared.row_fields.Fields.{Fields}

-- the byte that a list begins with
abbrev pub first_byte : List ℕ → Option ℕ
first_byte [] = None
first_byte (b ∷ bytes) = Some b

-- the repeat prefix that pp stands for (2.3.6.2)
abbrev pub repeat_of_pp : ℕ → Rep
repeat_of_pp pp = if pp == 2 then RepF3 else (if pp == 3 then RepF2 else NoRep)

-- the repeat prefix: that of pp behind a VEX, else the counting one
abbrev pub repeat_of : Option Vex → Rep → Rep
repeat_of None rep = rep
repeat_of (Some v) rep = repeat_of_pp v.pp

-- the operand-size prefix: that of pp behind a VEX, else the counting one
abbrev pub size66_of : Option Vex → Bool → Bool
size66_of None size66 = size66
size66_of (Some v) size66 = v.pp == 1

-- W of the VEX, else of the counting REX
abbrev pub w_of : Option Vex → Option ℕ → Bool
w_of None rex = rex_bit 3 rex
w_of (Some v) rex = v.w

-- L of the VEX
abbrev pub l_of : Option Vex → Bool
l_of None = false
l_of (Some v) = v.l

-- the nine fields
unfoldable pub fields_of : PrefixState → Option ℕ → Fields
fields_of state next = record {
  vex = is_some state.vex;
  map = state.map;
  opcode = state.opcode;
  rep = repeat_of state.vex state.rep;
  size66 = size66_of state.vex state.size66;
  w = w_of state.vex state.rex;
  l = l_of state.vex;
  rex_b = rex_bit 0 state.rex;
  modrm = next;
}
