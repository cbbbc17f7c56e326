-- Which instruction a text stands for as people write it.
use Rattle.std.specs.Prelude.{◌≡◌, ◌⊎◌, ℕ, Bool, true, false, if◌then◌else◌, is_some, List, [], ◌∷◌, map, Option, Some, None}
use Rattle.x86_values.specs.declared.Bits.{Bits}
use Rattle.x86_values.specs.declared.Instr.{Instr}
use Rattle.intel_words.specs.declared.words.SizeName.{SizeName}
use Rattle.intel_reader.specs.Assembled.{IsAssembled as IsReadAs, IsNoText}
use Rattle.assembly_text.specs.declared.code.Code.{Code}
use Rattle.assembly_text.specs.declared.code.Code.TheVariants.{Plain, Named, Unsized, Nothing}
use Rattle.assembly_text.specs.declared.readings.Reading.{Reading}
use Rattle.assembly_text.specs.declared.readings.Reading.TheVariants.{None as NoReading, One, Several}
use Rattle.assembly_text.specs.declared.statements.Statement.{Statement}
use Rattle.assembly_text.specs.declared.statements.Width.{Width}
use Rattle.assembly_text.specs.Lines.{lower_byte}
use Rattle.assembly_text.specs.Spellings.{preferred, other_front, other_statement}
use Rattle.assembly_text.specs.Statements.{full_text, statement_of, is_sound, name_of, widths_of, sizes_of}

-- a text in lower case
abbrev pub lowered : List ℕ → List ℕ
lowered text = map lower_byte text

-- With the first of some widths with which `asm` reads the text it is this instruction, or there is no such width.
abbrev pub IsFirstRead : Bits → ℕ → List ℕ → Statement → SizeName → List Width → Option Instr → Type 0
IsFirstRead bits ip low s size [] found = found ≡ None
IsFirstRead bits ip low s size (w ∷ widths) found =
    ((i : Instr) × (IsReadAs bits ip (full_text bits size w low s) i × (found ≡ Some i)))
    ⊎ (IsNoText bits ip (full_text bits size w low s) × IsFirstRead bits ip low s size widths found)

-- one instruction more
unfoldable pub joined : Reading → Option Instr → Reading
joined before None = before
joined NoReading (Some i) = One i
joined _ (Some i) = Several

-- what some sizes give: one instruction, if the text with just one of them has one
abbrev pub IsReading : Bits → ℕ → List ℕ → Statement → List SizeName → Reading → Reading → Type 0
IsReading bits ip low s [] before after = after ≡ before
IsReading bits ip low s (size ∷ sizes) before after =
    (found : Option Instr) × (IsFirstRead bits ip low s size (widths_of s) found × IsReading bits ip low s sizes (joined before found) after)

-- an instruction with a name is read at 0, since its target is of no account
unfoldable pub address_of : ℕ → Statement → ℕ
address_of base s = if is_some (name_of s) then 0 else base

-- the instruction that was read, with the place of its name
unfoldable pub code_of_reading : Option ℕ → Reading → Code
code_of_reading name NoReading = Nothing
code_of_reading name Several = Unsized
code_of_reading None (One i) = Plain i
code_of_reading (Some at) (One i) = Named at i

-- what the operands of a text say together
abbrev pub IsStatedCode : Bits → ℕ → List ℕ → Statement → Code → Type 0
IsStatedCode bits base low s code =
    ((is_sound s ≡ false) × (code ≡ Nothing))
    ⊎ ((is_sound s ≡ true) × ((r : Reading) × (IsReading bits (address_of base s) low s (sizes_of s) NoReading r × (code ≡ code_of_reading (name_of s) r))))

-- an instruction
unfoldable pub is_found : Code → Bool
is_found (Plain i) = true
is_found (Named at i) = true
is_found _ = false

-- what a text stands for by other operands, if it stands for something by them
unfoldable pub found_or : Code → Code → Code
found_or first Nothing = first
found_or first other = other

-- What the operands of a text say together, or if that is no instruction what they say by the rules for operands that people swap or leave out.
abbrev pub IsSpelledCode : Bits → ℕ → List ℕ → Statement → Code → Type 0
IsSpelledCode bits base low s code =
    (first : Code) × (IsStatedCode bits base low (preferred low s) first
    × (((is_found first ≡ true) × (code ≡ first))
    ⊎ ((is_found first ≡ false) × ((other : Code) × (IsStatedCode bits base (other_front low s) (other_statement bits low s) other × (code ≡ found_or first other))))))

-- what a text stands for as people write it
abbrev pub IsFreeCode : Bits → ℕ → List ℕ → Code → Type 0
IsFreeCode bits base text code = IsSpelledCode bits base (lowered text) (statement_of (lowered text)) code
