-- The words of prefixes as GNU writes them, in the order of the bytes.
use Rattle.std.specs.Prelude.{ℕ, ◌/◌, ◌%◌, Bool, true, false, not, ◌&&◌, ◌||◌, ◌==◌, if◌then◌else◌, List, [], ◌∷◌, ◌++◌, Option, Some, None, slice_get, unwrap_or, map, codes}
use Rattle.x86_values.specs.declared.Bits.{Bits}
use Rattle.x86_values.specs.declared.Bits.TheVariants.{B16, B32, B64}
use Rattle.x86_values.specs.declared.Rep.{Rep}
use Rattle.x86_values.specs.declared.Rep.TheVariants.{None as NoRep, F2, F3}
use Rattle.x86_values.specs.declared.Segment.{Segment as Seg}
use Rattle.x86_values.specs.declared.Segment.TheVariants.{Es, Cs, Ss, Ds, Fs, Gs}
use Rattle.x86_values.specs.declared.Instr.{Instr}
use Rattle.x86_values.specs.Comparing.{same_bits}
use Rattle.text_parts.specs.Registers.{segment_name}
use Rattle.text_pieces.specs.declared.piece.Kind.TheVariants as kind
use Rattle.text_options.specs.declared.options.Letters.{Letters}
use Rattle.text_options.specs.declared.gnu_prefixes.Prefix.{Prefix}
use Rattle.text_options.specs.declared.gnu_prefixes.Prefix.TheVariants.{OperandSize, AddressSize, Lock, RepeatF2, RepeatF3, Segment, No}
use Rattle.text_options.specs.declared.gnu_prefixes.Effects.{Effects}
use Rattle.text_options.specs.declared.gnu_prefixes.TheConstants.{REX_NAMES}
use Rattle.text_options.specs.Spelling.{spelled}

-- ---- bytes

-- what a byte in front of the opcode is
unfoldable pub prefix_of : ℕ → Prefix
prefix_of b =
    if b == 0x66 then OperandSize else (if b == 0x67 then AddressSize else (if b == 0xF0 then Lock
    else (if b == 0xF2 then RepeatF2 else (if b == 0xF3 then RepeatF3 else (if b == 0x26 then Segment Es
    else (if b == 0x2E then Segment Cs else (if b == 0x36 then Segment Ss else (if b == 0x3E then Segment Ds
    else (if b == 0x64 then Segment Fs else (if b == 0x65 then Segment Gs else No))))))))))

-- two prefixes are of the same kind, so that the later one counts
unfoldable pub is_alike : Prefix → Prefix → Bool
is_alike OperandSize OperandSize = true
is_alike AddressSize AddressSize = true
is_alike Lock Lock = true
is_alike RepeatF2 RepeatF2 = true
is_alike RepeatF3 RepeatF3 = true
is_alike (Segment s) (Segment t) = true
is_alike No No = true
is_alike _ _ = false

-- bytes begin with prefixes of which one is of a kind
unfoldable pub has_prefix : Prefix → List ℕ → Bool
has_prefix kind [] = false
has_prefix kind (b ∷ bs) = elim (prefix_of b) [ No ↦ false | _ ↦ is_alike kind (prefix_of b) || has_prefix kind bs ]

-- ---- words

-- the word of 66 where it has no effect
unfoldable pub operand_size_word : Bits → List ℕ
operand_size_word B16 = codes "data32"
operand_size_word _ = codes "data16"

-- the word of 67 where it has no effect
unfoldable pub address_size_word : Bits → List ℕ
address_size_word B32 = codes "addr16"
address_size_word _ = codes "addr32"

-- the word of a prefix that is not the last of its kind, or has no effect
unfoldable pub idle_word : Bits → Prefix → List ℕ
idle_word bits OperandSize = operand_size_word bits
idle_word bits AddressSize = address_size_word bits
idle_word bits Lock = codes "lock"
idle_word bits RepeatF2 = codes "repnz"
idle_word bits RepeatF3 = codes "repz"
idle_word bits (Segment s) = segment_name s
idle_word bits No = []

-- a prefix that is the last of its kind has no word: its effect is shown elsewhere
unfoldable pub is_shown : Effects → Prefix → Bool
is_shown e OperandSize = e.operand_size
is_shown e AddressSize = e.address_size
is_shown e RepeatF2 = e.f2
is_shown e RepeatF3 = e.f3
is_shown e (Segment s) = e.segment
is_shown e _ = false

-- the segment is DS
unfoldable pub is_data_segment : Seg → Bool
is_data_segment Ds = true
is_data_segment _ = false

-- the word of a prefix that is the last of its kind, and that nothing else shows
unfoldable pub last_word : Effects → Prefix → List ℕ
last_word e RepeatF2 = if e.bnd then codes "bnd" else codes "repnz"
last_word e RepeatF3 = if e.repeats then codes "rep" else codes "repz"
last_word e (Segment s) = if e.notrack && is_data_segment s then codes "notrack" else segment_name s
last_word e prefix = idle_word e.bits prefix

-- the word of a prefix, empty where it has none
unfoldable pub word_of : Effects → Prefix → Bool → List ℕ
word_of e prefix is_last =
    if is_last then (if is_shown e prefix then [] else last_word e prefix) else idle_word e.bits prefix

-- a word and a space, or nothing
unfoldable pub spelled_word : Letters → List ℕ → List ℕ
spelled_word letters [] = []
spelled_word letters (c ∷ cs) = spelled letters kind.Prefix (c ∷ cs) ++ codes " "

-- ---- REX

-- the name of a REX byte, by its low four bits
unfoldable pub rex_name : ℕ → List ℕ
rex_name b = unwrap_or (slice_get (map (λ name. name.now) REX_NAMES) (b % 16)) []

-- a REX byte has a bit without effect, or no bit and no effect
unfoldable pub rex_is_idle : Effects → ℕ → Bool
rex_is_idle e b =
    ((b / 8 % 2 == 1) && not e.w)
    || (((b / 4 % 2 == 1) && not e.r)
    || (((b / 2 % 2 == 1) && not e.x) || (((b % 2 == 1) && not e.b) || ((b % 16 == 0) && not e.byte))))

-- a byte behind the other prefixes is REX
unfoldable pub is_rex : Bits → ℕ → Bool
is_rex B64 b = b / 16 == 4
is_rex _ b = false

-- the word of the byte behind the other prefixes
unfoldable pub rex_word : Effects → ℕ → List ℕ
rex_word e b = if is_rex e.bits b && rex_is_idle e b then rex_name b else []

-- ---- all of them

-- the words of the prefixes that bytes begin with, each with a space behind it
unfoldable pub words : Letters → Effects → List ℕ → List ℕ
words letters e [] = []
words letters e (b ∷ bs) = elim (prefix_of b) [
  | No ↦ spelled_word letters (rex_word e b)
  | _ ↦ spelled_word letters (word_of e (prefix_of b) (not (has_prefix (prefix_of b) bs))) ++ words letters e bs
]

-- ---- the prefixes of an instruction whose bytes are not known

-- the byte of a segment
unfoldable pub segment_byte : Seg → ℕ
segment_byte Es = 0x26
segment_byte Cs = 0x2E
segment_byte Ss = 0x36
segment_byte Ds = 0x3E
segment_byte Fs = 0x64
segment_byte Gs = 0x65

-- LOCK
unfoldable pub lock_bytes : Bool → List ℕ
lock_bytes true = 0xF0 ∷ []
lock_bytes false = []

-- F2 or F3
unfoldable pub repeat_bytes : Rep → List ℕ
repeat_bytes NoRep = []
repeat_bytes F2 = 0xF2 ∷ []
repeat_bytes F3 = 0xF3 ∷ []

-- the segment
unfoldable pub segment_bytes : Option Seg → List ℕ
segment_bytes None = []
segment_bytes (Some s) = segment_byte s ∷ []

-- 67, where the address size is not the mode's
unfoldable pub address_bytes : Bits → Option Bits → List ℕ
address_bytes bits None = []
address_bytes bits (Some size) = if same_bits size bits then [] else 0x67 ∷ []

-- the prefixes that the instruction itself has
unfoldable pub own_prefixes : Bits → Instr → List ℕ
own_prefixes bits instr =
    lock_bytes instr.lock
    ++ (repeat_bytes instr.rep ++ (segment_bytes instr.seg ++ address_bytes bits instr.asize))
