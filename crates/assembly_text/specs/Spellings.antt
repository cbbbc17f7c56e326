-- Operands that people swap or leave out: which operands an instruction has if it is none with those that stand there.
use Rattle.std.specs.Prelude.{ℕ, ◌==◌, Bool, true, false, ◌&&◌, ◌||◌, if◌then◌else◌, is_none, is_some, List, codes, bytes_eq, Option, Some, None}
use Rattle.x86_values.specs.declared.Bits.{Bits}
use Rattle.x86_values.specs.declared.Bits.TheVariants.{B16, B32, B64}
use Rattle.x86_values.specs.declared.Register.{Register}
use Rattle.x86_values.specs.declared.Register.TheVariants.{R16, R32, R64, St}
use Rattle.intel_words.specs.declared.words.SizeName.{SizeName}
use Rattle.intel_words.specs.declared.words.SizeName.TheVariants.{Word, Dword, Qword}
use Rattle.assembly_text.specs.declared.drafts.Draft.{Draft}
use Rattle.assembly_text.specs.declared.spellings.Rule.{Rule}
use Rattle.assembly_text.specs.declared.spellings.Rule.TheVariants.{Same, Swapped, Doubled, Once, Sum, Popped, Compared, Stacked, Ten, Sized}
use Rattle.assembly_text.specs.declared.statements.Statement.{Statement}
use Rattle.assembly_text.specs.Lines.{byte_at, name_at}
use Rattle.assembly_text.specs.Names.{first_word, named_text}
use Rattle.assembly_text.specs.Data.{is_front}
use Rattle.assembly_text.specs.Drafts.{no_words}
use Rattle.assembly_text.specs.Statements.{is_unsized_part}

-- ---- operands

-- a register of the stack
unfoldable pub stack_draft : ℕ → Draft
stack_draft n = record no_words { base = Some (St n) }

-- a number
unfoldable pub number_draft : ℕ → Draft
number_draft n = record no_words { plus = n; counted = true }

-- a name without a number beside it stands for ST0, if it is `st`
unfoldable pub is_top : List ℕ → Draft → Bool
is_top low d = elim d.name [ None ↦ false | Some at ↦ is_front d && ((d.plus == 0 && d.minus == 0) && bytes_eq (name_at low at) (codes "st")) ]

-- ST0 in place of `st`
unfoldable pub top_part : List ℕ → Option Draft → Option Draft
top_part low None = None
top_part low (Some d) = if is_top low d then Some (stack_draft 0) else Some d

-- the size of an address that has none
unfoldable pub sized_part : SizeName → Option Draft → Option Draft
sized_part size None = None
sized_part size (Some d) = if is_unsized_part (Some d) then Some (record d { size = size }) else Some d

-- the size of a stack item and of the target of a branch
unfoldable pub item_size : Bits → SizeName
item_size B16 = Word
item_size B32 = Dword
item_size B64 = Qword

-- ---- rules

-- two operands in the other order
unfoldable pub swapped : Statement → Statement
swapped s = if is_some s.second && is_none s.third then record s { first = s.second; second = s.first } else s

-- of two operands the first stands for two
unfoldable pub doubled : Statement → Statement
doubled s = if is_some s.second && is_none s.third then record s { second = s.first; third = s.second } else s

-- without a second operand it is 1
unfoldable pub once : Statement → Statement
once s = if is_none s.second then record s { second = Some (number_draft 1) } else s

-- with one operand, ST0 stands in front of it
unfoldable pub behind_top : Statement → Statement
behind_top s = if is_none s.second then record s { first = Some (stack_draft 0); second = s.first } else s

-- without operands they are ST1 and ST0; with one, ST0 stands in front of it
unfoldable pub sum : Statement → Statement
sum s = if is_none s.first then record s { first = Some (stack_draft 1); second = Some (stack_draft 0) } else behind_top s

-- without operands they are ST1 and ST0; with one, ST0 stands behind it
unfoldable pub popped : Statement → Statement
popped s =
    if is_none s.first then record s { first = Some (stack_draft 1); second = Some (stack_draft 0) }
    else (if is_none s.second then record s { second = Some (stack_draft 0) } else s)

-- without operands they are ST0 and ST1; with one, ST0 stands in front of it
unfoldable pub compared : Statement → Statement
compared s =
    if is_none s.first then record s { first = Some (stack_draft 0); second = Some (stack_draft 1) } else behind_top s

-- without an operand it is ST1
unfoldable pub stacked : Statement → Statement
stacked s = if is_none s.first then record s { first = Some (stack_draft 1) } else s

-- without an operand it is 10
unfoldable pub ten : Statement → Statement
ten s = if is_none s.first then record s { first = Some (number_draft 10) } else s

-- an only operand without a size has that of a stack item
unfoldable pub sized : Bits → Statement → Statement
sized bits s = if is_none s.second then record s { first = sized_part (item_size bits) s.first } else s

-- the operands by a rule
unfoldable pub by_rule : Bits → Rule → Statement → Statement
by_rule bits Same s = s
by_rule bits Swapped s = swapped s
by_rule bits Doubled s = doubled s
by_rule bits Once s = once s
by_rule bits Sum s = sum s
by_rule bits Popped s = popped s
by_rule bits Compared s = compared s
by_rule bits Stacked s = stacked s
by_rule bits Ten s = ten s
by_rule bits Sized s = sized bits s

-- ---- names

-- a shift or a rotation
unfoldable pub is_shift : List ℕ → Bool
is_shift word =
    bytes_eq word (codes "shl") || (bytes_eq word (codes "shr") || (bytes_eq word (codes "sar") || (bytes_eq word (codes "sal")
    || (bytes_eq word (codes "rol") || (bytes_eq word (codes "ror") || (bytes_eq word (codes "rcl") || bytes_eq word (codes "rcr")))))))

-- a sum or a product on the stack
unfoldable pub is_sum : List ℕ → Bool
is_sum word =
    bytes_eq word (codes "fadd") || (bytes_eq word (codes "fmul") || (bytes_eq word (codes "fsub") || (bytes_eq word (codes "fsubr")
    || (bytes_eq word (codes "fdiv") || bytes_eq word (codes "fdivr")))))

-- one that pops
unfoldable pub is_popped : List ℕ → Bool
is_popped word =
    bytes_eq word (codes "faddp") || (bytes_eq word (codes "fmulp") || (bytes_eq word (codes "fsubp") || (bytes_eq word (codes "fsubrp")
    || (bytes_eq word (codes "fdivp") || bytes_eq word (codes "fdivrp")))))

-- a comparison that sets flags
unfoldable pub is_compared : List ℕ → Bool
is_compared word =
    bytes_eq word (codes "fcomi") || (bytes_eq word (codes "fcomip") || (bytes_eq word (codes "fucomi") || bytes_eq word (codes "fucomip")))

-- what takes a register of the stack, ST1 if none is given
unfoldable pub is_stacked : List ℕ → Bool
is_stacked word =
    bytes_eq word (codes "fxch") || (bytes_eq word (codes "fcom") || (bytes_eq word (codes "fcomp") || (bytes_eq word (codes "fucom")
    || bytes_eq word (codes "fucomp"))))

-- the rule of a name that begins with f
unfoldable pub stack_rule : List ℕ → Rule
stack_rule word =
    if is_sum word then Sum else (if is_popped word then Popped else (if is_compared word then Compared else (if is_stacked word then Stacked else Same)))

-- the rule of a name that takes an item of the stack or goes somewhere
unfoldable pub item_rule : List ℕ → Rule
item_rule word =
    if bytes_eq word (codes "push") || (bytes_eq word (codes "pop") || (bytes_eq word (codes "call") || bytes_eq word (codes "jmp"))) then Sized else Same

-- the rule of another name
unfoldable pub other_rule : List ℕ → Rule
other_rule word =
    if bytes_eq word (codes "test") || bytes_eq word (codes "xchg") then Swapped else (if bytes_eq word (codes "imul") then Doubled
    else (if is_shift word then Once else (if bytes_eq word (codes "aad") || bytes_eq word (codes "aam") then Ten else item_rule word)))

-- the rule of a name
unfoldable pub rule_of : List ℕ → Rule
rule_of word = if byte_at word 0 == 102 then stack_rule word else other_rule word

-- the name of an instruction in a text
abbrev pub word_of : List ℕ → List ℕ
word_of low = first_word (named_text low)

-- the other operands of a text
unfoldable pub other_statement : Bits → List ℕ → Statement → Statement
other_statement bits low s =
    by_rule bits (rule_of (word_of low)) (record s { first = top_part low s.first; second = top_part low s.second })

-- the name of a sum that pops
unfoldable pub popping : List ℕ → List ℕ → List ℕ
popping word low =
    if bytes_eq word (codes "fadd") then codes "faddp" else (if bytes_eq word (codes "fmul") then codes "fmulp"
    else (if bytes_eq word (codes "fsub") then codes "fsubp" else (if bytes_eq word (codes "fsubr") then codes "fsubrp"
    else (if bytes_eq word (codes "fdiv") then codes "fdivp" else (if bytes_eq word (codes "fdivr") then codes "fdivrp" else low)))))

-- the front of a text with other operands: a sum without operands pops
unfoldable pub other_front : List ℕ → Statement → List ℕ
other_front low s = if is_none s.first then popping (word_of low) low else low

-- ---- XCHG

-- the registers of number 0 but AL
unfoldable pub is_wide_accumulator : Register → Bool
is_wide_accumulator (R16 n) = n == 0
is_wide_accumulator (R32 n) = n == 0
is_wide_accumulator (R64 n) = n == 0
is_wide_accumulator _ = false

-- AX, EAX or RAX
unfoldable pub is_accumulator : Option Draft → Bool
is_accumulator None = false
is_accumulator (Some d) = is_front d && elim d.base [ None ↦ false | Some r ↦ is_wide_accumulator r ]

-- XCHG has a form of one byte with the accumulator behind, so it is taken there
unfoldable pub preferred : List ℕ → Statement → Statement
preferred low s = if is_accumulator s.first && bytes_eq (word_of low) (codes "xchg") then swapped s else s
