-- Texts that were read before.
use Rattle.std.specs.Prelude.{◌≡◌, ℕ, false, List, All, Option, Some, None}
use Rattle.x86_values.specs.declared.Bits.{Bits}
use Rattle.x86_values.specs.declared.Instr.{Instr}
use Rattle.code_assembler.specs.Prepared.{PreparedState}
use Rattle.assembly_text.specs.declared.code.Code.{Code}
use Rattle.assembly_text.specs.declared.code.Code.TheVariants.{Plain, Named}
use Rattle.assembly_text.specs.declared.code.PreparedCode.{PreparedCode}
use Rattle.assembly_text.specs.declared.known.Known.{Known}
use Rattle.assembly_text.specs.declared.known.KnownLine.{KnownLine}
use Rattle.assembly_text.specs.Names.{first_word}
use Rattle.assembly_text.specs.Padding.{is_align}
use Rattle.assembly_text.specs.Text.{IsCode, width_of}

-- A text that is neither data nor an alignment stands for this.
pub record IsRead (bits : Bits) (base : ℕ) (text : List ℕ) (code : Code) : Type 0 where
  pub is : IsCode bits base text code
  pub no_data : width_of text ≡ 0
  pub no_align : is_align (first_word text) ≡ false

-- the instruction of what a text stands for, if it is one
abbrev pub instr_of : Code → Option Instr
instr_of (Plain i) = Some i
instr_of (Named at i) = Some i
instr_of code = None

-- what is prepared of what a text stands for: its instruction, for the mode, or nothing
abbrev pub IsFor : Bits → Code → Option PreparedState → Type 0
IsFor bits code None = Unit {0}
IsFor bits code (Some it) = (it.bits ≡ bits) × (instr_of code ≡ Some it.instr)

-- A text stands for this, of which something is prepared or nothing.
pub record IsKept (bits : Bits) (base : ℕ) (text : List ℕ) (read : PreparedCode) : Type 0 where
  pub stands : IsRead bits base text read.code
  pub prepared : IsFor bits read.code read.ready

-- a text stands for what is kept with it
abbrev pub IsKnownLine : Bits → ℕ → KnownLine → Type 0
IsKnownLine bits base line = IsKept bits base line.text.items line.read

-- each text does
abbrev pub AreKnown : Known → Type 0
AreKnown known = All (IsKnownLine known.bits known.base) known.lines.items
