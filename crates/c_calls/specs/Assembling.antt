-- What Intel texts stand for: bytes, and instructions as flat structs.
use Rattle.std.specs.Prelude.{◌≡◌, ℕ, ℤ, pos, List, length, Option, Some, None, Result, Ok, Err}
use Rattle.x86_values.specs.declared.Bits.{Bits}
use Rattle.x86_values.specs.declared.Instr.{Instr}
use Rattle.plain_spelling.specs.declared.NoSpelling.{NoSpelling}
use Rattle.encoder.specs.Encoding.{encoding}
use Rattle.intel_reader.specs.Assembled.{IsAssembled, AssemblesTo, IsNoText}
use Rattle.c_calls.specs.declared.refusal.Refusal.{Refusal}
use Rattle.c_calls.specs.declared.refusal.Refusal.TheVariants.{Mode, Text}
use Rattle.c_calls.specs.declared.flat.FlatInstr.{FlatInstr}
use Rattle.c_calls.specs.Refusals.{refusal_status}
use Rattle.c_calls.specs.Numbers.{bits_numbered}
use Rattle.c_calls.specs.Flat.{flat_instr}
use Rattle.c_calls.specs.Back.{instr_back}
use Rattle.c_calls.specs.Answers as answers

-- ---- bytes

-- the bytes that a text stands for; refused exactly where no instruction has this text at the address
abbrev pub IsAssemblyIn : Bits → ℕ → List ℕ → Result (List ℕ) Refusal → Type 0
IsAssemblyIn bits ip text (Ok bytes) = AssemblesTo bits ip text bytes
IsAssemblyIn bits ip text (Err Text) = IsNoText bits ip text
IsAssemblyIn bits ip text (Err _) = ⊥

-- the bytes that a text stands for, where the number of the mode names one
abbrev pub IsAssemblyBy : Option Bits → ℕ → List ℕ → Result (List ℕ) Refusal → Type 0
IsAssemblyBy None ip text answer = answer ≡ Err Mode
IsAssemblyBy (Some bits) ip text answer = IsAssemblyIn bits ip text answer

-- what the call says and leaves
pub record IsAssembly (bits ip : ℕ) (text out out' : List ℕ) (said : ℤ) : Type 0 where
  pub answer : Result (List ℕ) Refusal
  pub is : IsAssemblyBy (bits_numbered bits) ip text answer
  pub said_is : said ≡ answers.count_or_refusal (answers.bytes_within (length out) answer)
  pub left : out' ≡ answers.with_bytes out (answers.bytes_within (length out) answer)

-- ---- instructions

-- how many bytes an encoding has, 0 without one
abbrev pub length_or_zero : Result (List ℕ) NoSpelling → ℕ
length_or_zero (Ok bytes) = length bytes
length_or_zero (Err why) = 0

-- the instruction that a text stands for; refused exactly where no instruction has this text at the address
abbrev pub IsTextIn : Bits → ℕ → List ℕ → Result Instr Refusal → Type 0
IsTextIn bits ip text (Ok i) = IsAssembled bits ip text i
IsTextIn bits ip text (Err Text) = IsNoText bits ip text
IsTextIn bits ip text (Err _) = ⊥

-- the struct has the instruction, with the length of its encoding, and it comes back from there; or the struct is unchanged
abbrev pub IsTextLeft : Bits → ℕ → Result Instr Refusal → FlatInstr → FlatInstr → Type 0
IsTextLeft bits ip (Ok i) old new = (new ≡ flat_instr i (length_or_zero (encoding bits ip i))) × (instr_back new ≡ Some i)
IsTextLeft bits ip (Err why) old new = new ≡ old

-- what is said: how many bytes the encoding has, or the refusal
abbrev pub text_said : Bits → ℕ → Result Instr Refusal → ℤ
text_said bits ip (Ok i) = pos (length_or_zero (encoding bits ip i))
text_said bits ip (Err why) = refusal_status why

-- what the call says and leaves in a mode
pub record IsTextReadIn (bits : Bits) (ip : ℕ) (text : List ℕ) (old new : FlatInstr) (said : ℤ) : Type 0 where
  pub answer : Result Instr Refusal
  pub is : IsTextIn bits ip text answer
  pub said_is : said ≡ text_said bits ip answer
  pub left : IsTextLeft bits ip answer old new

-- what the call says and leaves, where the number of the mode names one
abbrev pub IsTextReadBy : Option Bits → ℕ → List ℕ → FlatInstr → FlatInstr → ℤ → Type 0
IsTextReadBy None ip text old new said = (said ≡ refusal_status Mode) × (new ≡ old)
IsTextReadBy (Some bits) ip text old new said = IsTextReadIn bits ip text old new said

-- what the call says and leaves
abbrev pub IsTextRead : ℕ → ℕ → List ℕ → FlatInstr → FlatInstr → ℤ → Type 0
IsTextRead bits ip text old new said = IsTextReadBy (bits_numbered bits) ip text old new said
