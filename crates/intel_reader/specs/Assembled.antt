-- Which instruction a text stands for: of all those whose text it is, the one with the shortest plain spelling.
use Rattle.std.specs.Prelude.{◌≡◌, ℕ, false, List, length}
use Rattle.std.specs.declared.cmp.Ordering.{Ordering}
use Rattle.std.specs.Ordering.{nat_cmp, is_gt, on, then_cmp}
use Rattle.std.specs.Cmp.Lexicographic.{slice_cmp}
use Rattle.x86_values.specs.declared.Bits.{Bits}
use Rattle.x86_values.specs.declared.Instr.{Instr}
use Rattle.x86_values.specs.Wrapping.{modulo_width}
use Rattle.row_relation.specs.PlainLaws.Plain.{IsPlainlySpelled}
use Rattle.opcode_rows.specs.Table.{table}
use Rattle.intel_text.specs.Text.{text as text_of}

-- an instruction and bytes
pub record Assembly : Type 0 where
  pub instr : Instr
  pub bytes : List ℕ

-- fewer bytes come first, then the lesser code, then the lesser bytes
abbrev pub compare_assemblies : Assembly → Assembly → Ordering
compare_assemblies = then_cmp (on (λ a. length a.bytes) nat_cmp) (then_cmp (on (λ a. a.instr.code.0) nat_cmp) (on (λ a. a.bytes) (slice_cmp nat_cmp)))

-- the instruction has this Intel text, and the bytes are its plain spelling, of at most 15 bytes, at the address
pub record IsCandidate (bits : Bits) (ip : ℕ) (text : List ℕ) (a : Assembly) : Type 0 where
  pub spelled : IsPlainlySpelled table bits (modulo_width bits ip) a.bytes a.instr
  pub printed : text_of bits a.instr ≡ text

-- the first of all candidates
pub record IsFirst (bits : Bits) (ip : ℕ) (text : List ℕ) (a : Assembly) : Type 0 where
  pub candidate : IsCandidate bits ip text a
  pub first : (b : Assembly) → IsCandidate bits ip text b → is_gt (compare_assemblies a b) ≡ false

-- the instruction that the text stands for, with some bytes
abbrev pub IsAssembled : Bits → ℕ → List ℕ → Instr → Type 0
IsAssembled bits ip text i = (bytes : List ℕ) × IsFirst bits ip text (record { instr = i; bytes = bytes })

-- the bytes that the text stands for, with some instruction
abbrev pub AssemblesTo : Bits → ℕ → List ℕ → List ℕ → Type 0
AssemblesTo bits ip text bytes = (i : Instr) × IsFirst bits ip text (record { instr = i; bytes = bytes })

-- no instruction has this text at the address
abbrev pub IsNoText : Bits → ℕ → List ℕ → Type 0
IsNoText bits ip text = (a : Assembly) → IsCandidate bits ip text a → ⊥
