-- The texts of registers by their numbers.
use Rattle.std.specs.Prelude.{ℕ, List, Option, Some, None, Result, Ok, Err, if◌then◌else◌}
use Rattle.x86_values.specs.declared.Segment.{Segment}
use Rattle.x86_values.specs.declared.Register.{Register}
use Rattle.x86_values.specs.declared.Register.TheVariants.{Seg}
use Rattle.x86_values.specs.Named.{is_named}
use Rattle.text_parts.specs.declared.style.Style.{Style}
use Rattle.text_parts.specs.Registers.{register}
use Rattle.c_calls.specs.declared.refusal.Refusal.{Refusal}
use Rattle.c_calls.specs.declared.refusal.Refusal.TheVariants.{Syntax, Register as NoRegister}
use Rattle.c_calls.specs.Numbers.{style_numbered, register_numbered, prefix_numbered}

-- the text of a register that there may not be, in a style that there may not be
unfoldable pub shown_register : Option Style → Option Register → Result (List ℕ) Refusal
shown_register None r = Err Syntax
shown_register (Some style) None = Err NoRegister
shown_register (Some style) (Some r) = if is_named r then Ok (register style r) else Err NoRegister

-- the text of the register of a class and a number
abbrev pub register_answer : ℕ → ℕ → ℕ → Result (List ℕ) Refusal
register_answer syntax class n = shown_register (style_numbered syntax) (register_numbered class n)

-- the segment register that a prefix names
abbrev pub segment_shown : Option (Option Segment) → Option Register
segment_shown (Some (Some s)) = Some (Seg s)
segment_shown _ = None

-- the text of the segment register of a prefix
abbrev pub segment_answer : ℕ → ℕ → Result (List ℕ) Refusal
segment_answer syntax prefix = shown_register (style_numbered syntax) (segment_shown (prefix_numbered prefix))
