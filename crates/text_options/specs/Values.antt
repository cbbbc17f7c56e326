-- How the numbers of a text are written.
use Rattle.std.specs.Prelude.{ℕ, Bool, false, if◌then◌else◌, List, [], ◌++◌, Some, None, decimal, codes}
use Rattle.x86_values.specs.declared.Register.{Register as Reg}
use Rattle.text_parts.specs.declared.style.Style.{Style}
use Rattle.text_parts.specs.declared.style.Style.TheVariants.{Intel, Masm, Att}
use Rattle.text_parts.specs.Numbers.{number}
use Rattle.text_parts.specs.Registers.{register}
use Rattle.text_parts.specs.Addresses.{sign}
use Rattle.text_pieces.specs.declared.piece.Kind.TheVariants.{Register}
use Rattle.text_pieces.specs.declared.piece.Role.TheVariants as role
use Rattle.text_pieces.specs.declared.piece.Number.{Number}
use Rattle.text_options.specs.declared.options.Digits.{Digits}
use Rattle.text_options.specs.declared.options.Digits.TheVariants.{OfStyle, Prefixed, Suffixed, Decimal}
use Rattle.text_options.specs.declared.options.Immediates.TheVariants as immediates
use Rattle.text_options.specs.declared.options.Distances.TheVariants.{Signed, Wrapped}
use Rattle.text_options.specs.declared.view.View.{View}
use Rattle.text_options.specs.Spelling.{capitals, last_digit, spelled}
use Rattle.text_options.specs.Signed.{is_below_zero, distance, low, difference}

-- a number in the digits of the options
unfoldable pub in_digits : Digits → Style → ℕ → List ℕ
in_digits OfStyle style n = number style n
in_digits Prefixed style n = number Intel n
in_digits Suffixed style n = capitals last_digit (number Masm n)
in_digits Decimal style n = decimal n

-- a number in the digits of a view
abbrev pub digits : View → ℕ → List ℕ
digits view n = in_digits view.options.digits view.style n

-- the number whose digits a text shows: of a displacement its distance from zero, and else the value
unfoldable pub shown : Number → ℕ
shown x = elim x.role [ role.Displacement ↦ distance x.width x.value | _ ↦ x.value ]

-- a number without a sign of its own; the characters that the style gives stay for a scale, and where the style's digits are wanted
unfoldable pub plain : View → Number → List ℕ → List ℕ
plain view x cs = elim x.role [ role.Scale ↦ cs | _ ↦ elim view.options.digits [ OfStyle ↦ cs | _ ↦ digits view (shown x) ] ]

-- an immediate as a signed number of its width
unfoldable pub signed : View → Number → List ℕ → List ℕ
signed view x cs =
    if is_below_zero x.width x.value then codes "-" ++ digits view (distance x.width x.value) else plain view x cs

-- an immediate
unfoldable pub immediate : View → Number → List ℕ → List ℕ
immediate view x cs = elim view.options.immediates [ immediates.Signed ↦ signed view x cs | immediates.Unsigned ↦ plain view x cs ]

-- the instruction pointer in front of a distance or a symbol; in AT&T it stands behind
unfoldable pub pointer_name : View → Reg → List ℕ
pointer_name view r = elim view.style [ Att ↦ [] | _ ↦ spelled view.options.letters Register (register view.style r) ]

-- the instruction pointer and the sign behind it
unfoldable pub pointer_front : View → Reg → Bool → List ℕ
pointer_front view r negative = pointer_name view r ++ sign view.style negative

-- how far an address stands behind the end of the instruction
abbrev pub gap : View → Number → ℕ
gap view x = difference x.value view.end

-- the instruction pointer and a distance with its sign
unfoldable pub signed_distance : View → Reg → ℕ → ℕ → List ℕ
signed_distance view r width n = pointer_front view r (is_below_zero width n) ++ digits view (distance width n)

-- the instruction pointer and a distance as a number without a sign
unfoldable pub wrapped_distance : View → Reg → ℕ → ℕ → List ℕ
wrapped_distance view r width n = pointer_front view r false ++ digits view (low width n)

-- an address as a distance from the instruction pointer
unfoldable pub by_distance : View → Reg → Number → List ℕ
by_distance view r x = elim view.options.distances [
  | Signed ↦ signed_distance view r x.width (gap view x)
  | Wrapped ↦ wrapped_distance view r x.width (gap view x)
]

-- an address
unfoldable pub address : View → Number → List ℕ → List ℕ
address view x cs = elim view.pointer [ None ↦ plain view x cs | Some r ↦ by_distance view r x ]

-- a number without a symbol, which has these characters in the printer's text
unfoldable pub value : View → Number → List ℕ → List ℕ
value view x cs = elim x.role [ role.Immediate ↦ immediate view x cs | role.Address ↦ address view x cs | _ ↦ plain view x cs ]
