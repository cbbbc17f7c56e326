-- GNU's text in front of the operands that a row names.
use Rattle.std.specs.Prelude.{ℕ, ◌-◌, Bool, true, false, not, ◌&&◌, ◌==◌, if◌then◌else◌, List, [], ◌∷◌, ◌++◌, length, replicate, unwrap_or, codes}
use Rattle.x86_values.specs.declared.Bits.{Bits}
use Rattle.x86_values.specs.declared.Bits.TheVariants.{B16, B32, B64}
use Rattle.x86_values.specs.declared.Segment.{Segment}
use Rattle.x86_values.specs.declared.Segment.TheVariants.{Es, Ds}
use Rattle.x86_values.specs.declared.Register.{Register as Reg}
use Rattle.x86_values.specs.declared.Register.TheVariants.{Low8, R16, R32, R64, Seg}
use Rattle.x86_values.specs.declared.Operand.TheVariants.{Absent as AbsentOperand}
use Rattle.x86_values.specs.declared.Instr.{Instr}
use Rattle.instruction_parts.specs.declared.row_types.Row.{Row}
use Rattle.text_parts.specs.declared.style.Style.{Style}
use Rattle.text_parts.specs.declared.style.Style.TheVariants.{Masm, Att}
use Rattle.text_parts.specs.Registers.{register}
use Rattle.text_parts.specs.PrefixWords.{shows_memory, name_text, text_address_size}
use Rattle.text_parts.specs.Layout.{nth_operand}
use Rattle.att_text.specs.Names.{att_name}
use Rattle.text_pieces.specs.declared.piece.Kind.TheVariants.{Mnemonic, Register, Keyword}
use Rattle.text_options.specs.declared.options.Letters.{Letters}
use Rattle.text_options.specs.declared.options.Commas.TheVariants.{Spaced, Tight}
use Rattle.text_options.specs.declared.options.Options.{Options}
use Rattle.text_options.specs.declared.gnu_form.Implied.{Implied}
use Rattle.text_options.specs.declared.gnu_form.Implied.TheVariants.{No, Destination, Source, Table, Accumulator, Port}
use Rattle.text_options.specs.declared.gnu_form.Form.{Form}
use Rattle.text_options.specs.declared.gnu_front.Front.{Front}
use Rattle.text_options.specs.Spelling.{spelled}
use Rattle.text_options.specs.GnuForms.{own_name}
use Rattle.text_options.specs.GnuPrefixes.{words, own_prefixes}
use Rattle.text_options.specs.GnuEffects.{effects_of, working_segment, is_some_implied}

-- ---- the name

-- the names of the form are those of the mode
unfoldable pub has_own_names : Bits → Form → Bool
has_own_names B64 form = true
has_own_names _ form = not form.only_64

-- the place of the name in the list, or 0 for the manual's
unfoldable pub own_place : Style → Bits → Form → Instr → ℕ
own_place style bits form instr =
    if not (has_own_names bits form) then 0
    else (elim style [ Att ↦ if shows_memory instr then form.memory else form.att | _ ↦ form.intel ])

-- the manual's name has AT&T's letter
unfoldable pub has_letter : Style → Form → Bool
has_letter style form = elim style [ Att ↦ form.lettered | _ ↦ false ]

-- the manual's name with AT&T's letters
abbrev pub lettered_name : Bits → Row → List ℕ → Instr → List ℕ
lettered_name bits row name instr = att_name bits row name instr

-- the name of an instruction whose row has this name: its own, else the manual's, with a letter where the form has one
unfoldable pub gnu_name : Front → Bits → Row → List ℕ → Form → Instr → List ℕ
gnu_name front bits row name form instr =
    if not (own_place front.style bits form instr == 0)
    then spelled front.letters Mnemonic (own_name (own_place front.style bits form instr))
    else (if has_letter front.style form then spelled front.letters Mnemonic (lettered_name bits row name instr)
    else spelled front.letters Mnemonic (name_text bits name instr))

-- ---- operands that the row does not name

-- a general register by its number and size in bytes
unfoldable pub register_of : ℕ → ℕ → Reg
register_of size n = if size == 1 then Low8 n else (if size == 2 then R16 n else (if size == 4 then R32 n else R64 n))

-- a general register of an address
unfoldable pub address_register : Bits → ℕ → Reg
address_register B16 n = R16 n
address_register B32 n = R32 n
address_register B64 n = R64 n

-- the word of a size of 1, 2, 4 or 8 bytes
unfoldable pub size_word : ℕ → List ℕ
size_word size =
    if size == 1 then codes "byte" else (if size == 2 then codes "word" else (if size == 4 then codes "dword" else codes "qword"))

-- a register
unfoldable pub spelled_register : Front → Reg → List ℕ
spelled_register front r = spelled front.letters Register (register front.style r)

-- what follows the word of a size
unfoldable pub pointer_word : Front → List ℕ
pointer_word front = elim front.style [ Masm ↦ spelled front.letters Keyword (codes "ptr") ++ codes " " | _ ↦ [] ]

-- the word of the size of memory, in the styles with brackets
unfoldable pub memory_size : Front → List ℕ
memory_size front = elim front.style [
  | Att ↦ []
  | _ ↦ spelled front.letters Keyword (size_word front.size) ++ (codes " " ++ pointer_word front)
]

-- what stands in front of the register of an address
unfoldable pub opening : Style → List ℕ
opening Att = codes ":("
opening _ = codes ":["

-- what stands behind it
unfoldable pub closing : Style → List ℕ
closing Att = codes ")"
closing _ = codes "]"

-- memory in a segment at a register
unfoldable pub memory_at : Front → Segment → ℕ → List ℕ
memory_at front segment n =
    memory_size front
    ++ (spelled_register front (Seg segment)
    ++ (opening front.style ++ (spelled_register front (address_register front.asize n) ++ closing front.style)))

-- DX as the number of a port, which AT&T writes in parentheses
unfoldable pub port : Style → Letters → List ℕ
port Att letters = codes "(" ++ (spelled letters Register (register Att (R16 2)) ++ codes ")")
port style letters = spelled letters Register (register style (R16 2))

-- an operand that the row does not name
unfoldable pub implied_text : Front → Implied → List ℕ
implied_text front No = []
implied_text front Destination = memory_at front Es 7
implied_text front Source = memory_at front front.source 6
implied_text front Table = memory_at front front.source 3
implied_text front Accumulator = spelled_register front (register_of front.size 0)
implied_text front Port = port front.style front.letters

-- a comma
unfoldable pub comma : Front → List ℕ
comma front = elim front.commas [ Spaced ↦ codes ", " | Tight ↦ codes "," ]

-- an operand and another behind it, with a comma between the two
unfoldable pub listed : Front → Implied → Implied → List ℕ
listed front first second =
    implied_text front first
    ++ ((if is_some_implied first && is_some_implied second then comma front else []) ++ implied_text front second)

-- the operands that the row does not name; AT&T reverses them
unfoldable pub implied_operands : Front → Form → List ℕ
implied_operands front form =
    elim front.style [ Att ↦ listed front form.second form.first | _ ↦ listed front form.first form.second ]

-- ---- all of it

-- an operand follows the name
unfoldable pub has_operand : Form → Instr → Bool
has_operand form instr =
    if is_some_implied form.first then true
    else (elim (nth_operand instr 0) [ AbsentOperand ↦ false | _ ↦ true ])

-- the words of the prefixes, by the bytes of the instruction, or by what it has of prefixes where its bytes are not known
unfoldable pub gnu_words : Front → Bits → Row → Form → Instr → List ℕ → List ℕ
gnu_words front bits row form instr [] = words front.letters (effects_of bits row form instr) (own_prefixes bits instr)
gnu_words front bits row form instr (b ∷ bs) = words front.letters (effects_of bits row form instr) (b ∷ bs)

-- a space, and more up to a column, behind so many characters
unfoldable pub gap : ℕ → ℕ → List ℕ
gap column len = codes " " ++ replicate (column - len - 1) 32

-- how the text in front of the operands is to be written
unfoldable pub front_of : Style → Options → Bits → Form → Instr → Front
front_of style options bits form instr = record {
  style = style;
  letters = options.letters;
  commas = options.commas;
  column = options.operand_column;
  asize = text_address_size bits instr;
  source = unwrap_or (working_segment bits instr.seg) Ds;
  size = form.size;
}

-- the words of the prefixes and the name
unfoldable pub head : Front → Bits → Row → List ℕ → Form → Instr → List ℕ → List ℕ
head front bits row name form instr code = gnu_words front bits row form instr code ++ gnu_name front bits row name form instr

-- what follows the name, which ends behind so many characters, where an operand follows it
unfoldable pub behind_head : Front → Form → Instr → ℕ → List ℕ
behind_head front form instr len =
    if has_operand form instr then gap front.column len ++ implied_operands front form else []

-- the head and what follows it
abbrev pub with_behind : Front → Form → Instr → List ℕ → List ℕ
with_behind front form instr cs = cs ++ behind_head front form instr (length cs)

-- the text in front of the operands that the row names, for an instruction of a row with this name
unfoldable pub front_by : Style → Options → Bits → Row → List ℕ → Form → Instr → List ℕ → List ℕ
front_by style options bits row name form instr code =
    with_behind (front_of style options bits form instr) form instr
    (head (front_of style options bits form instr) bits row name form instr code)
