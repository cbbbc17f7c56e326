-- The language of each part of a notation, and that the reader's answer is right for it.
use Rattle.std.proofs.Common.{◌≡◌, ℕ, ◌+◌, ◌*◌, ◌%◌, ◌<◌, List, [], ◌∷◌, length, Err, refl, sym, ap, ◌∙◌, subst, arith, Bool, true, false, ◌&&◌, ◌==◌, nat_lt, nat_le, codes, eq-eqb, if◌then◌else◌}
use Rattle.std.proofs.lemmas.Bool.{eqb-true}
use Rattle.std.proofs.Common.{lit<}
use Rattle.instruction_parts.specs.declared.row_types.RowKind.{RowKind}
use Rattle.instruction_parts.specs.declared.row_types.RowKind.TheVariants.{Legacy, Vex}
use Rattle.instruction_parts.specs.declared.row_types.Map.{Map}
use Rattle.instruction_parts.specs.declared.row_types.Map.TheVariants as map
use Rattle.instruction_parts.specs.declared.row_types.ModRmRule.TheVariants as rule
use Rattle.instruction_parts.specs.declared.row_types.RowShape.{RowShape}
use Rattle.row_notation.specs.Shape.{is_opcode_of_map}
use Rattle.row_notation.specs.Notation.{class_text, size_text, map_text, digit_text, plus_text, imm_text, l_text, pp_text, vex_map_text, w_text}
use Rattle.row_notation.specs.Reading.{Answer, better, read_end, imm_words, read_imm, hex_value, read_stack_word, read_stack, read_fixed_low, read_fixed, read_digit, read_fixed_of, read_any, read_slash_digit, read_modrm, plus_words, read_plus, is_opcode_of, read_opcode_low, read_opcode, maps, read_map, size_words, read_size, classes, read_class, w_words, read_w, vex_maps, read_vex_map, vex_classes, read_pp, l_words, read_l, blank, read_vex, read_text}
use Rattle.row_notation.proofs.Languages.{Language, IsInhabited, IsEmpty, behind_byte, either_of, word_then, one_of, IsRight, right-same, right-inhabited, right-better, right-word, right-byte, right-stop, right-if, right-or_nothing, has_some, right-one_of, Part, behind_words}

-- ---- the end

-- nothing but the shape
abbrev pub ends : RowShape → Language
ends shape text s = (text ≡ []) × (s ≡ shape)

not-nil : (c : ℕ) (rest : List ℕ) → (c ∷ rest) ≡ [] → ⊥
not-nil c rest e = absurd cc

right-end : (shape : RowShape) (text : List ℕ) → IsRight (ends shape) text (read_end shape text)
right-end shape [] = (refl, refl)
right-end shape (c ∷ text) = right-stop (ends shape) c text ([], (shape, (refl, refl))) (λ t s m. not-nil c t m.0)

-- ---- digits

-- a digit that passes, and then a text of the language of its value
abbrev pub digit_then : (ℕ → Bool) → (ℕ → Language) → Language
digit_then p L text s = (d : ℕ) × (p d ≡ true) × (d < 16) × ((rest : List ℕ) × (text ≡ digit_text d ∷ rest) × L d rest s)

-- a digit is read back
pub value-of_digit : (d : ℕ) → d < 16 → hex_value (digit_text d) ≡ d
value-of_digit d h = grind arith

-- a hexadecimal digit is the text of its value
pub digit-of_value : (c : ℕ) → hex_value c < 16 → digit_text (hex_value c) ≡ c
digit-of_value c h = grind arith

head-of : (c d : ℕ) (xs ys : List ℕ) → (c ∷ xs) ≡ (d ∷ ys) → c ≡ d
head-of c d xs ys e = cc

tail-of : (c d : ℕ) (xs ys : List ℕ) → (c ∷ xs) ≡ (d ∷ ys) → xs ≡ ys
tail-of c d xs ys e = cc

-- the empty text does not begin with a byte
pub nothing-before : (c : ℕ) (rest : List ℕ) → [] ≡ c ∷ rest → ⊥
nothing-before c rest e = absurd cc

-- where some digit passes, what the reader answers at a digit is right
pub right-digit_end : (p : ℕ → Bool) (L : ℕ → Language) → IsInhabited (digit_then p L) → IsRight (digit_then p L) [] (Err 0)
right-digit_end p L some = (refl, some, λ s m. nothing-before (digit_text m.0) m.3.0 m.3.1)

same-value : (c d : ℕ) → d < 16 → c ≡ digit_text d → hex_value c ≡ d
same-value c d h e = ap hex_value e ∙ value-of_digit d h

true-is-not-false : true ≡ false → ⊥
true-is-not-false e = absurd cc

-- reading a digit and then the rest is right for the texts that begin with such a digit
pub right-digit : (p : ℕ → Bool) (L : ℕ → Language) (next : ℕ → List ℕ → Answer) (c : ℕ) (text : List ℕ)
    → ((d : ℕ) → p d ≡ true → d < 16) → IsInhabited (digit_then p L)
    → ((d : ℕ) → p d ≡ true → (t : List ℕ) → IsRight (L d) t (next d t))
    → IsRight (digit_then p L) (c ∷ text) (if p (hex_value c) then next (hex_value c) text else Err (1 + length text))
right-digit p L next c text small some right =
    right-if (digit_then p L) (c ∷ text) (p (hex_value c)) (next (hex_value c) text) (Err (1 + length text)) passes fails
  where
    passes : p (hex_value c) ≡ true → IsRight (digit_then p L) (c ∷ text) (next (hex_value c) text)
    passes e =
        let d : ℕ = hex_value c in
        let lt : d < 16 = small d e in
        right-byte (digit_then p L) c text (next d text) (right-same (L d) (behind_byte c (digit_then p L)) text (next d text)
        (λ t s m. (d, e, lt, (t, ap (λ x. x ∷ t) (sym (digit-of_value c lt)), m)))
        (λ t s m. subst (λ x. L x t s) (sym (same-value c m.0 m.2 (head-of c (digit_text m.0) t m.3.0 m.3.1)))
        (subst (λ x. L m.0 x s) (sym (tail-of c (digit_text m.0) t m.3.0 m.3.1)) m.3.2)) (right d e text))

    fails : p (hex_value c) ≡ false → IsRight (digit_then p L) (c ∷ text) (Err (1 + length text))
    fails e = right-stop (digit_then p L) c text some (λ t s m.
        true-is-not-false (sym m.1 ∙ ap p (sym (same-value c m.0 m.2 (head-of c (digit_text m.0) t m.3.0 m.3.1))) ∙ e))

-- ---- the parts, from the last

-- the immediates, and the end
abbrev pub imm_texts : RowShape → Language
imm_texts s = one_of (imm_words s.kind) (λ i. word_then (imm_text i) (ends (record s { imm = i })))

some-imm_word : (k : RowKind) → has_some (imm_words k) ≡ true
some-imm_word Legacy = refl
some-imm_word Vex = refl

-- the immediates are read rightly
pub right-imm : (s : RowShape) (text : List ℕ) → IsRight (imm_texts s) text (read_imm s text)
unfolding read_imm
right-imm s text =
    right-one_of (imm_words s.kind) (some-imm_word s.kind) imm_text (λ i. ends (record s { imm = i })) (λ i. read_end (record s { imm = i })) text (λ i. right-end (record s { imm = i }))

some-imm : (s : RowShape) → IsInhabited (imm_texts s)
some-imm s = right-inhabited (imm_texts s) [] (read_imm s []) (right-imm s [])

-- a stack number behind a byte that is a multiple of 8
abbrev pub stack_word_texts : RowShape → ℕ → Language
stack_word_texts s b text t = (b % 8 ≡ 0) × word_then (codes "+i") (imm_texts (record s { stack = true })) text t

-- a stack number, or none
abbrev pub stack_texts : RowShape → ℕ → Language
stack_texts s b = either_of (imm_texts (record s { stack = false })) (stack_word_texts s b)

right-stack_word : (s : RowShape) (b : ℕ) (text : List ℕ) → (b % 8 == 0) ≡ true → IsRight (stack_word_texts s b) text (read_stack_word s text)
right-stack_word s b text e =
    let t : RowShape = record s { stack = true } in
    right-same (word_then (codes "+i") (imm_texts t)) (stack_word_texts s b) text (read_stack_word s text)
    (λ x y m. (eqb-true (b % 8) 0 e, m)) (λ x y m. m.1)
    (right-word (codes "+i") (imm_texts t) (read_imm t) text (right-imm t))

no-stack_word : (s : RowShape) (b : ℕ) → (b % 8 == 0) ≡ false → IsEmpty (stack_word_texts s b)
no-stack_word s b e t x m = true-is-not-false (sym (eq-eqb (b % 8) 0 m.0) ∙ e)

right-stack_by : (s : RowShape) (b : ℕ) (text : List ℕ) (test : Bool) → (b % 8 == 0) ≡ test → IsRight (stack_texts s b) text
    (better (read_imm (record s { stack = false }) text) (if test then read_stack_word s text else Err (length text)))
right-stack_by s b text true e = right-better (imm_texts (record s { stack = false })) (stack_word_texts s b) text
    (read_imm (record s { stack = false }) text) (read_stack_word s text) (right-imm (record s { stack = false }) text) (right-stack_word s b text e)
right-stack_by s b text false e = right-or_nothing (imm_texts (record s { stack = false })) (stack_word_texts s b) text
    (read_imm (record s { stack = false }) text) (no-stack_word s b e) (right-imm (record s { stack = false }) text)

-- a stack number is read rightly
pub right-stack : (s : RowShape) (b : ℕ) (text : List ℕ) → IsRight (stack_texts s b) text (read_stack s b text)
unfolding read_stack
right-stack s b text = right-stack_by s b text (b % 8 == 0) refl

some-stack : (s : RowShape) (b : ℕ) → IsInhabited (stack_texts s b)
some-stack s b = right-inhabited (stack_texts s b) [] (read_stack s b []) (right-stack s b [])

-- ---- ModRM

some-digit : (p : ℕ → Bool) (L : ℕ → Language) (d : ℕ) → p d ≡ true → d < 16 → IsInhabited (L d) → IsInhabited (digit_then p L)
some-digit p L d e h some = (digit_text d ∷ some.0, (some.1.0, (d, e, h, (some.0, refl, some.1.1))))

-- tests of a digit
abbrev pub any_digit : ℕ → Bool
any_digit d = nat_lt d 16

-- the value is a digit of a ModRM field
abbrev pub octal_digit : ℕ → Bool
octal_digit d = nat_lt d 8

-- the value is a digit of a register number
abbrev pub register_digit : ℕ → Bool
register_digit d = nat_le 12 d && nat_lt d 16

any-small : (d : ℕ) → any_digit d ≡ true → d < 16
any-small d e = grind arith

octal-small : (d : ℕ) → octal_digit d ≡ true → d < 16
octal-small d e = grind arith

register-small : (d : ℕ) → register_digit d ≡ true → d < 16
register-small d e = grind arith

-- a fixed byte with this high digit
abbrev pub fixed_low_texts : RowShape → ℕ → Language
fixed_low_texts s high = digit_then any_digit (λ low. stack_texts (record s { modrm = rule.Fixed (high * 16 + low) }) (high * 16 + low))

some-fixed_low : (s : RowShape) (high : ℕ) → IsInhabited (fixed_low_texts s high)
some-fixed_low s high = some-digit any_digit _ 0 refl (lit< tt) (some-stack (record s { modrm = rule.Fixed (high * 16 + 0) }) (high * 16 + 0))

right-fixed_low : (s : RowShape) (high : ℕ) (text : List ℕ) → IsRight (fixed_low_texts s high) text (read_fixed_low s high text)
unfolding read_fixed_low
right-fixed_low s high [] = right-digit_end any_digit (λ low. stack_texts (record s { modrm = rule.Fixed (high * 16 + low) }) (high * 16 + low)) (some-fixed_low s high)
right-fixed_low s high (c ∷ text) =
    right-digit any_digit (λ low. stack_texts (record s { modrm = rule.Fixed (high * 16 + low) }) (high * 16 + low))
    (λ low t. read_stack (record s { modrm = rule.Fixed (high * 16 + low) }) (high * 16 + low) t) c text any-small (some-fixed_low s high)
    (λ low e t. right-stack (record s { modrm = rule.Fixed (high * 16 + low) }) (high * 16 + low) t)

-- a fixed byte
abbrev pub fixed_texts : RowShape → Language
fixed_texts s = digit_then register_digit (fixed_low_texts s)

some-fixed : (s : RowShape) → IsInhabited (fixed_texts s)
some-fixed s = some-digit register_digit (fixed_low_texts s) 12 refl (lit< tt) (some-fixed_low s 12)

right-fixed : (s : RowShape) (text : List ℕ) → IsRight (fixed_texts s) text (read_fixed s text)
unfolding read_fixed
right-fixed s [] = right-digit_end register_digit (fixed_low_texts s) (some-fixed s)
right-fixed s (c ∷ text) = right-digit register_digit (fixed_low_texts s) (read_fixed_low s) c text register-small (some-fixed s) (λ d e t. right-fixed_low s d t)

-- a digit of ModRM
abbrev pub octal_texts : RowShape → Language
octal_texts s = digit_then octal_digit (λ d. imm_texts (record s { modrm = rule.Digit d }))

some-octal : (s : RowShape) → IsInhabited (octal_texts s)
some-octal s = some-digit octal_digit _ 0 refl (lit< tt) (some-imm (record s { modrm = rule.Digit 0 }))

right-octal : (s : RowShape) (text : List ℕ) → IsRight (octal_texts s) text (read_digit s text)
unfolding read_digit
right-octal s [] = right-digit_end octal_digit (λ d. imm_texts (record s { modrm = rule.Digit d })) (some-octal s)
right-octal s (c ∷ text) = right-digit octal_digit (λ d. imm_texts (record s { modrm = rule.Digit d })) (λ d. read_imm (record s { modrm = rule.Digit d })) c text octal-small (some-octal s) (λ d e t. right-imm (record s { modrm = rule.Digit d }) t)

-- no text
abbrev pub nothing : Language
nothing text s = ⊥

-- a fixed byte with its space, in legacy rows alone
abbrev pub fixed_of : RowKind → RowShape → Language
fixed_of Legacy s = word_then (codes " ") (fixed_texts s)
fixed_of Vex s = nothing

-- ModRM of any content, and a digit
abbrev pub any_texts : RowShape → Language
any_texts s = word_then (codes " /r") (imm_texts (record s { modrm = rule.Any }))

-- the texts of a shape that has a slash and ModRM
abbrev pub slash_texts : RowShape → Language
slash_texts s = word_then (codes " /") (octal_texts s)

-- the texts of a shape without ModRM
abbrev pub plain_texts : RowShape → Language
plain_texts s = either_of (imm_texts (record s { modrm = rule.No })) (any_texts s)

-- from ModRM on
abbrev pub modrm_texts : RowShape → Language
modrm_texts s = either_of (plain_texts s) (either_of (slash_texts s) (fixed_of s.kind s))

right-any : (s : RowShape) (text : List ℕ) → IsRight (any_texts s) text (read_any s text)
right-any s text = let t : RowShape = record s { modrm = rule.Any } in right-word (codes " /r") (imm_texts t) (read_imm t) text (right-imm t)

right-slash : (s : RowShape) (text : List ℕ) → IsRight (slash_texts s) text (read_slash_digit s text)
right-slash s text = right-word (codes " /") (octal_texts s) (read_digit s) text (right-octal s)

right-later : (k : RowKind) (s : RowShape) (text : List ℕ) → IsRight (either_of (slash_texts s) (fixed_of k s)) text (better (read_slash_digit s text) (read_fixed_of k s text))
right-later Legacy s text = right-better (slash_texts s) (fixed_of Legacy s) text (read_slash_digit s text) (read_fixed_of Legacy s text) (right-slash s text)
    (right-word (codes " ") (fixed_texts s) (read_fixed s) text (right-fixed s))
right-later Vex s text = right-or_nothing (slash_texts s) (fixed_of Vex s) text (read_slash_digit s text) (λ t x m. m) (right-slash s text)

-- ModRM is read rightly
pub right-modrm : (s : RowShape) (text : List ℕ) → IsRight (modrm_texts s) text (read_modrm s text)
unfolding read_modrm
right-modrm s text =
    let t : RowShape = record s { modrm = rule.No } in
    right-better (plain_texts s) (either_of (slash_texts s) (fixed_of s.kind s)) text (better (read_imm t text) (read_any s text)) (better (read_slash_digit s text) (read_fixed_of s.kind s text))
    (right-better (imm_texts t) (any_texts s) text (read_imm t text) (read_any s text) (right-imm t text) (right-any s text))
    (right-later s.kind s text)

-- ---- an added register, and the opcode byte

-- the texts of what is added to the opcode byte
abbrev pub plus_texts : RowShape → Language
plus_texts s = one_of (plus_words s.kind) (λ p. word_then (plus_text p) (modrm_texts (record s { plus_word = p })))

some-plus_word : (k : RowKind) → has_some (plus_words k) ≡ true
some-plus_word Legacy = refl
some-plus_word Vex = refl

-- what is added to the opcode byte is read rightly
pub right-plus : (s : RowShape) (text : List ℕ) → IsRight (plus_texts s) text (read_plus s text)
unfolding read_plus
right-plus s text =
    right-one_of (plus_words s.kind) (some-plus_word s.kind) plus_text (λ p. modrm_texts (record s { plus_word = p })) (λ p. read_modrm (record s { plus_word = p })) text (λ p. right-modrm (record s { plus_word = p }))

some-plus : (s : RowShape) → IsInhabited (plus_texts s)
some-plus s = right-inhabited (plus_texts s) [] (read_plus s []) (right-plus s [])

-- the low digit of an opcode byte
abbrev pub opcode_digit : RowShape → ℕ → ℕ → Bool
opcode_digit s high low = nat_lt low 16 && is_opcode_of s (high * 16 + low)

opcode-small : (s : RowShape) (high low : ℕ) → opcode_digit s high low ≡ true → low < 16
opcode-small s high low e = grind arith

-- the texts that follow the first digit of the opcode byte
abbrev pub opcode_low_texts : RowShape → ℕ → Language
opcode_low_texts s high = digit_then (opcode_digit s high) (λ low. plus_texts (record s { opcode = high * 16 + low }))

-- numbers that are not equal test as different
pub different : (a b : ℕ) → (a ≡ b → ⊥) → (a == b) ≡ false
different a b h = different_by (a == b) refl
  where
    different_by : (test : Bool) → (a == b) ≡ test → test ≡ false
    different_by true e = absurd (h (eqb-true a b e))
    different_by false e = refl

-- the low digit 1 makes an opcode byte with each high digit
one-is-opcode : (m : Map) (high : ℕ) → high < 16 → is_opcode_of_map m (high * 16 + 1) ≡ true
unfolding is_opcode_of_map
one-is-opcode map.One high h = rw (different (high * 16 + 1) 15 (λ e. absurd (omega arith)), different (high * 16 + 1) 102 (λ e. absurd (omega arith)), different (high * 16 + 1) 242 (λ e. absurd (omega arith)), different (high * 16 + 1) 243 (λ e. absurd (omega arith))) refl
one-is-opcode map.M0f high h = rw (different (high * 16 + 1) 56 (λ e. absurd (omega arith)), different (high * 16 + 1) 58 (λ e. absurd (omega arith))) refl
one-is-opcode map.M0f38 high h = refl
one-is-opcode map.M0f3a high h = refl

one-is-opcode_of : (k : RowKind) (m : Map) (high : ℕ) → high < 16 → (elim k as (λ _. Bool) [ Legacy ↦ is_opcode_of_map m (high * 16 + 1) | Vex ↦ true ]) ≡ true
one-is-opcode_of Legacy m high h = one-is-opcode m high h
one-is-opcode_of Vex m high h = refl

some-opcode_low : (s : RowShape) (high : ℕ) → high < 16 → IsInhabited (opcode_low_texts s high)
some-opcode_low s high h = some-digit (opcode_digit s high) _ 1 (one-is-opcode_of s.kind s.map high h) (lit< tt) (some-plus (record s { opcode = high * 16 + 1 }))

right-opcode_low : (s : RowShape) (high : ℕ) (text : List ℕ) → high < 16 → IsRight (opcode_low_texts s high) text (read_opcode_low s high text)
unfolding read_opcode_low
right-opcode_low s high [] h = right-digit_end (opcode_digit s high) (λ low. plus_texts (record s { opcode = high * 16 + low })) (some-opcode_low s high h)
right-opcode_low s high (c ∷ text) h =
    right-digit (opcode_digit s high) (λ low. plus_texts (record s { opcode = high * 16 + low })) (λ low. read_plus (record s { opcode = high * 16 + low })) c text
    (opcode-small s high) (some-opcode_low s high h) (λ low e t. right-plus (record s { opcode = high * 16 + low }) t)

-- from the opcode byte on
abbrev pub opcode_texts : RowShape → Language
opcode_texts s = digit_then any_digit (opcode_low_texts s)

some-opcode : (s : RowShape) → IsInhabited (opcode_texts s)
some-opcode s = some-digit any_digit (opcode_low_texts s) 0 refl (lit< tt) (some-opcode_low s 0 (lit< tt))

-- the opcode byte and what follows it are read rightly
pub right-opcode : (s : RowShape) (text : List ℕ) → IsRight (opcode_texts s) text (read_opcode s text)
unfolding read_opcode
right-opcode s [] = right-digit_end any_digit (opcode_low_texts s) (some-opcode s)
right-opcode s (c ∷ text) = right-digit any_digit (opcode_low_texts s) (read_opcode_low s) c text any-small (some-opcode s) (λ d e t. right-opcode_low s d t (any-small d e))

-- ---- the words before it

-- from the opcode byte on
abbrev pub opcode_part : RowShape → Part
opcode_part s = record { texts = opcode_texts s; reads = read_opcode s; right = right-opcode s }

-- from the escape bytes on
abbrev pub map_part : RowShape → Part
map_part s = behind_words maps refl map_text (λ m. opcode_part (record s { map = m }))

-- from the size word on
abbrev pub size_part : RowShape → Part
size_part s = behind_words size_words refl size_text (λ z. map_part (record s { size_word = z }))

-- a legacy text
abbrev pub class_part : RowShape → Part
class_part s = behind_words classes refl class_text (λ c. size_part (record s { class = c }))

-- a VEX text from W on
abbrev pub w_part : RowShape → Part
w_part s = behind_words w_words refl w_text (λ x. opcode_part (record s { w = x }))

-- a VEX text from its map on
abbrev pub vex_map_part : RowShape → Part
vex_map_part s = behind_words vex_maps refl vex_map_text (λ m. w_part (record s { map = m }))

-- a VEX text from pp on
abbrev pub pp_part : RowShape → Part
pp_part s = behind_words vex_classes refl pp_text (λ c. vex_map_part (record s { class = c }))

-- a VEX text behind its first word
abbrev pub l_part : RowShape → Part
l_part s = behind_words l_words refl l_text (λ x. pp_part (record s { l = x }))

-- a VEX text
abbrev pub vex_texts : Language
vex_texts = word_then (codes "VEX.") (l_part (blank Vex)).texts

right-vex : (text : List ℕ) → IsRight vex_texts text (read_vex text)
unfolding read_l read_pp read_vex_map read_w
right-vex text = right-word (codes "VEX.") (l_part (blank Vex)).texts (read_l (blank Vex)) text (l_part (blank Vex)).right

right-legacy : (text : List ℕ) → IsRight (class_part (blank Legacy)).texts text (read_class (blank Legacy) text)
unfolding read_class read_size read_map
right-legacy = (class_part (blank Legacy)).right

-- any text
abbrev pub all_texts : Language
all_texts = either_of (class_part (blank Legacy)).texts vex_texts

-- what the reader answers is right
pub right-text : (text : List ℕ) → IsRight all_texts text (read_text text)
unfolding read_text
right-text text =
    right-better (class_part (blank Legacy)).texts vex_texts text (read_class (blank Legacy) text) (read_vex text) (right-legacy text) (right-vex text)
