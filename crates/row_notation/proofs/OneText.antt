-- No text belongs to two shapes: what each part of a text begins with tells the word that stands there.
use Rattle.std.proofs.Common.{◌≡◌, ℕ, ◌+◌, ◌*◌, ◌/◌, ◌%◌, ◌<◌, ◌≤◌, List, [], ◌∷◌, ◌++◌, refl, sym, ap, ◌∙◌, arith, Bool, true, false, ◌&&◌, not, ◌==◌, nat_lt, nat_le, codes, if◌then◌else◌, lit<}
use Rattle.std.proofs.lemmas.Bool.{eqb-true, and_parts}
use Rattle.instruction_parts.specs.declared.row_types.RowKind.{RowKind}
use Rattle.instruction_parts.specs.declared.row_types.RowKind.TheVariants.{Legacy, Vex}
use Rattle.instruction_parts.specs.declared.row_types.Map.{Map}
use Rattle.instruction_parts.specs.declared.row_types.Map.TheVariants as map
use Rattle.instruction_parts.specs.declared.row_types.Class.{Class}
use Rattle.instruction_parts.specs.declared.row_types.Class.TheVariants as class
use Rattle.instruction_parts.specs.declared.row_types.ModRmRule.{ModRmRule}
use Rattle.instruction_parts.specs.declared.row_types.ModRmRule.TheVariants as rule
use Rattle.instruction_parts.specs.declared.row_types.WBit.{WBit}
use Rattle.instruction_parts.specs.declared.row_types.WBit.TheVariants as wbit
use Rattle.instruction_parts.specs.declared.row_types.LBit.{LBit}
use Rattle.instruction_parts.specs.declared.row_types.LBit.TheVariants as lbit
use Rattle.instruction_parts.specs.declared.row_types.SizeWord.{SizeWord}
use Rattle.instruction_parts.specs.declared.row_types.SizeWord.TheVariants as word
use Rattle.instruction_parts.specs.declared.row_types.PlusWord.{PlusWord}
use Rattle.instruction_parts.specs.declared.row_types.PlusWord.TheVariants as added
use Rattle.instruction_parts.specs.declared.row_types.ImmWord.{ImmWord}
use Rattle.instruction_parts.specs.declared.row_types.ImmWord.TheVariants as imm
use Rattle.instruction_parts.specs.declared.row_types.RowShape.{RowShape}
use Rattle.row_notation.specs.Shape.{is_opcode_of_map, is_rule_in_range, is_stack_proper, lacks_l, lacks_w, is_one_byte_map, is_vex_class, is_legacy_proper, is_vex_proper, is_proper}
use Rattle.row_notation.specs.Notation.{class_text, size_text, map_text, digit_text, byte_text, plus_text, stack_text, modrm_text, imm_text, l_text, pp_text, vex_map_text, w_text, modrm_part, opcode_part, legacy_text, vex_text, notation}
use Rattle.row_notation.specs.Texts.{IsTextOf}
use Rattle.row_notation.specs.Reading.{hex_value}
use Rattle.row_notation.proofs.Grammar.{value-of_digit, different}
use Rattle.row_notation.proofs.Parts.{full}
use Rattle.row_notation.proofs.Complete.{from-legacy, from-vex, no-l, no-w, no-size, small-opcode, whole-byte, high-small, low-small}

-- the bytes of a text by place, 0 behind its end
abbrev pub rest_of : List ℕ → List ℕ
rest_of [] = []
rest_of (x ∷ xs) = xs

-- the first byte of a text
abbrev pub at0 : List ℕ → ℕ
at0 [] = 0
at0 (x ∷ xs) = x

-- the second byte of a text
abbrev pub at1 : List ℕ → ℕ
at1 xs = at0 (rest_of xs)

-- the third byte of a text
abbrev pub at2 : List ℕ → ℕ
at2 xs = at1 (rest_of xs)

-- the fourth byte of a text
abbrev pub at3 : List ℕ → ℕ
at3 xs = at2 (rest_of xs)

-- the fifth byte of a text
abbrev pub at4 : List ℕ → ℕ
at4 xs = at3 (rest_of xs)

behind-word : (xs ys zs : List ℕ) → xs ++ ys ≡ xs ++ zs → ys ≡ zs
behind-word [] ys zs e = e
behind-word (x ∷ xs) ys zs e = behind-word xs ys zs (ap rest_of e)

-- the same word stands in front of both
same-behind : {V : Type 0} → (word_of : V → List ℕ) (v x : V) (ys zs : List ℕ) → v ≡ x → word_of v ++ ys ≡ word_of x ++ zs → ys ≡ zs
same-behind word_of v x ys zs e h = behind-word (word_of v) ys zs (h ∙ ap (λ y. word_of y ++ zs) (sym e))

-- ---- immediates

-- the immediates that a text ends with
abbrev pub imm_of : List ℕ → ImmWord
imm_of t =
    if at0 t == 0 then imm.None
    else (if at1 t == 47 then imm.Is4
    else (if at1 t == 105 then (if at2 t == 98 then imm.Ib else (if at2 t == 100 then imm.Id else (if at2 t == 111 then imm.Io
    else (if at3 t == 32 then imm.IwIb else imm.Iw))))
    else (if at2 t == 98 then imm.Cb else (if at2 t == 119 then imm.Cw else (if at2 t == 100 then imm.Cd else imm.Cp)))))

imm-back : (i : ImmWord) → imm_of (imm_text i) ≡ i
imm-back imm.None = refl
imm-back _ = refl

same-imm : (i j : ImmWord) → imm_text i ≡ imm_text j → i ≡ j
same-imm i j e = sym (imm-back i) ∙ ap imm_of e ∙ imm-back j

-- ---- a stack number

-- a text ends with a stack number
abbrev pub stack_of : List ℕ → Bool
stack_of t = at0 t == 43

no-plus-before : (i : ImmWord) → (at0 (imm_text i) == 43) ≡ false
no-plus-before imm.None = refl
no-plus-before _ = refl

stack-back : (st : Bool) (i : ImmWord) → stack_of (stack_text st ++ imm_text i) ≡ st
stack-back true i = refl
stack-back false i = no-plus-before i

same-stack : (st su : Bool) (i j : ImmWord) → stack_text st ++ imm_text i ≡ stack_text su ++ imm_text j → (st ≡ su) × (i ≡ j)
same-stack st su i j e =
    let s : st ≡ su = sym (stack-back st i) ∙ ap stack_of e ∙ stack-back su j in
    (s, same-imm i j (same-behind stack_text st su (imm_text i) (imm_text j) s e))

-- ---- ModRM

-- the ModRM rule that a text states
abbrev pub rule_of : List ℕ → ModRmRule
rule_of t =
    if at0 t == 0 then rule.No
    else (if at1 t == 47 then (if at2 t == 114 then rule.Any else (if at2 t == 105 then rule.No else rule.Digit (hex_value (at2 t))))
    else (if nat_lt (hex_value (at1 t)) 16 then rule.Fixed (hex_value (at1 t) * 16 + hex_value (at2 t)) else rule.No))

no-rule-back : (i : ImmWord) → rule_of (imm_text i) ≡ rule.No
no-rule-back imm.None = refl
no-rule-back _ = refl

digit-below : (d : ℕ) → d < 8 → digit_text d < 58
digit-below d h = grind arith

digit-from : (d : ℕ) → d < 16 → 48 ≤ digit_text d
digit-from d h = grind arith

digit-most : (d : ℕ) → d < 16 → digit_text d ≤ 70
digit-most d h = grind arith

differs : (a b : ℕ) → (a ≡ b → ⊥) → (a == b) ≡ false
differs a b h = different a b h

lt-test : (a b : ℕ) → a < b → nat_lt a b ≡ true
lt-test a b h = grind arith

rule-back_digit : (d : ℕ) (rest : List ℕ) → d < 8 → rule_of (modrm_text (rule.Digit d) ++ rest) ≡ rule.Digit d
rule-back_digit d rest h =
    let below : digit_text d < 58 = digit-below d h in
    rw (differs (digit_text d) 114 (λ e. absurd (omega (arith, e, below))), differs (digit_text d) 105 (λ e. absurd (omega (arith, e, below))))
    (ap (λ x. rule.Digit x) (value-of_digit d (omega arith)))

rule-back_fixed : (f : ℕ) (rest : List ℕ) → f < 256 → rule_of (modrm_text (rule.Fixed f) ++ rest) ≡ rule.Fixed f
rule-back_fixed f rest h =
    let high : f / 16 < 16 = high-small f h in
    let from : 48 ≤ digit_text (f / 16) = digit-from (f / 16) high in
    rw (differs (digit_text (f / 16)) 47 (λ e. absurd (omega (arith, e, from))), value-of_digit (f / 16) high, lt-test (f / 16) 16 high, value-of_digit (f % 16) (low-small f))
    (ap (λ x. rule.Fixed x) (whole-byte f))

below-8 : (d : ℕ) → nat_lt d 8 ≡ true → d < 8
below-8 d h = grind arith

below-256 : (f : ℕ) → (nat_le 0xC0 f && nat_lt f 256) ≡ true → f < 256
below-256 f h = grind arith

rule-back : (r : ModRmRule) (st : Bool) (i : ImmWord) → is_rule_in_range r ≡ true → is_stack_proper r st ≡ true → rule_of (modrm_text r ++ (stack_text st ++ imm_text i)) ≡ r
unfolding is_rule_in_range is_stack_proper
rule-back rule.No true i range proper = absurd cc
rule-back rule.No false i range proper = no-rule-back i
rule-back rule.Any st i range proper = refl
rule-back (rule.Digit d) st i range proper = rule-back_digit d (stack_text st ++ imm_text i) (below-8 d range)
rule-back (rule.Fixed f) st i range proper = rule-back_fixed f (stack_text st ++ imm_text i) (below-256 f range)

-- what stands from ModRM on
pub record Tail : Type 0 where
  pub rule : ModRmRule
  pub stack : Bool
  pub imm : ImmWord

-- the text of what follows the opcode byte
abbrev pub tail_text : Tail → List ℕ
tail_text t = modrm_text t.rule ++ (stack_text t.stack ++ imm_text t.imm)

pub record IsTail (t : Tail) : Type 0 where
  pub in_range : is_rule_in_range t.rule ≡ true
  pub stack_proper : is_stack_proper t.rule t.stack ≡ true

tail-of : ModRmRule → Bool → ImmWord → Tail
tail-of r st i = record { rule = r; stack = st; imm = i }

same-tail : (t u : Tail) → IsTail t → IsTail u → tail_text t ≡ tail_text u → (t.rule ≡ u.rule) × (t.stack ≡ u.stack) × (t.imm ≡ u.imm)
same-tail t u ht hu e =
    let r : t.rule ≡ u.rule = sym (rule-back t.rule t.stack t.imm ht.in_range ht.stack_proper) ∙ ap rule_of e ∙ rule-back u.rule u.stack u.imm hu.in_range hu.stack_proper in
    let s = same-stack t.stack u.stack t.imm u.imm (same-behind modrm_text t.rule u.rule (stack_text t.stack ++ imm_text t.imm) (stack_text u.stack ++ imm_text u.imm) r e) in
    (r, s.0, s.1)

-- ---- the opcode byte and an added register

same-digit : (d e : ℕ) → d < 16 → e < 16 → digit_text d ≡ digit_text e → d ≡ e
same-digit d e hd he h = sym (value-of_digit d hd) ∙ ap hex_value h ∙ value-of_digit e he

-- what a text adds to the opcode byte
abbrev pub plus_of : List ℕ → PlusWord
plus_of t =
    if at0 t == 43 then (if at2 t == 98 then added.Rb else (if at2 t == 119 then added.Rw else (if at2 t == 100 then added.Rd else added.Ro))) else added.None

no-plus-tail : (r : ModRmRule) (st : Bool) (i : ImmWord) → is_stack_proper r st ≡ true → (at0 (modrm_text r ++ (stack_text st ++ imm_text i)) == 43) ≡ false
unfolding is_stack_proper
no-plus-tail rule.No true i proper = absurd cc
no-plus-tail rule.No false i proper = no-plus-before i
no-plus-tail rule.Any st i proper = refl
no-plus-tail (rule.Digit d) st i proper = refl
no-plus-tail (rule.Fixed f) st i proper = refl

plus-back : (p : PlusWord) (t : Tail) → IsTail t → plus_of (plus_text p ++ tail_text t) ≡ p
plus-back added.None t h = rw (no-plus-tail t.rule t.stack t.imm h.stack_proper) refl
plus-back added.Rb t h = refl
plus-back added.Rw t h = refl
plus-back added.Rd t h = refl
plus-back added.Ro t h = refl

-- the text from the opcode byte on
abbrev pub opcode_text : ℕ → PlusWord → Tail → List ℕ
opcode_text b p t = byte_text b ++ (plus_text p ++ tail_text t)

-- the parts from the opcode byte on agree
pub record SameFromOpcode (b c : ℕ) (p q : PlusWord) (t u : Tail) : Type 0 where
  pub opcode : b ≡ c
  pub plus : p ≡ q
  pub rule : t.rule ≡ u.rule
  pub stack : t.stack ≡ u.stack
  pub imm : t.imm ≡ u.imm

same-byte : (b c : ℕ) → b < 256 → c < 256 → digit_text (b / 16) ≡ digit_text (c / 16) → digit_text (b % 16) ≡ digit_text (c % 16) → b ≡ c
same-byte b c hb hc eh el =
    let h : b / 16 ≡ c / 16 = same-digit (b / 16) (c / 16) (high-small b hb) (high-small c hc) eh in
    let l : b % 16 ≡ c % 16 = same-digit (b % 16) (c % 16) (low-small b) (low-small c) el in
    sym (whole-byte b) ∙ ap (λ x. x * 16 + b % 16) h ∙ ap (λ x. (c / 16) * 16 + x) l ∙ whole-byte c

same-opcode : (b c : ℕ) (p q : PlusWord) (t u : Tail) → b < 256 → c < 256 → IsTail t → IsTail u → opcode_text b p t ≡ opcode_text c q u → SameFromOpcode b c p q t u
same-opcode b c p q t u hb hc ht hu e =
    let later : plus_text p ++ tail_text t ≡ plus_text q ++ tail_text u = ap (λ x. rest_of (rest_of x)) e in
    let s : p ≡ q = sym (plus-back p t ht) ∙ ap plus_of later ∙ plus-back q u hu in
    let v = same-tail t u ht hu (same-behind plus_text p q (tail_text t) (tail_text u) s later) in
    record { opcode = same-byte b c hb hc (ap at0 e) (ap at1 e); plus = s; rule = v.0; stack = v.1; imm = v.2 }

-- ---- the words of a legacy text

-- two digits in a row that are not those of the byte
two-digits : (b x y : ℕ) → b < 256 → x < 16 → y < 16 → (b ≡ x * 16 + y → ⊥) → (digit_text (b / 16) == digit_text x && digit_text (b % 16) == digit_text y) ≡ false
two-digits b x y hb hx hy other = by-test (digit_text (b / 16) == digit_text x && digit_text (b % 16) == digit_text y) refl
  where
    by-test : (test : Bool) → (digit_text (b / 16) == digit_text x && digit_text (b % 16) == digit_text y) ≡ test → test ≡ false
    by-test false e = refl
    by-test true e =
        let h : b / 16 ≡ x = same-digit (b / 16) x (high-small b hb) hx (eqb-true _ _ (and_parts (digit_text (b / 16) == digit_text x) (digit_text (b % 16) == digit_text y) e).0) in
        let l : b % 16 ≡ y = same-digit (b % 16) y (low-small b) hy (eqb-true _ _ (and_parts (digit_text (b / 16) == digit_text x) (digit_text (b % 16) == digit_text y) e).1) in
        absurd (other (sym (whole-byte b) ∙ ap (λ v. v * 16 + b % 16) h ∙ ap (λ v. x * 16 + v) l))

not-opcode : (m : Map) (b c : ℕ) → is_opcode_of_map m b ≡ true → is_opcode_of_map m c ≡ false → b ≡ c → ⊥
not-opcode m b c yes-b no-c e = not-both (sym yes-b ∙ ap (is_opcode_of_map m) e ∙ no-c)
  where
    not-both : true ≡ false → ⊥
    not-both x = absurd cc

no-opcode-0f : is_opcode_of_map map.One 0x0F ≡ false
unfolding is_opcode_of_map
no-opcode-0f = refl

no-opcode-66 : is_opcode_of_map map.One 0x66 ≡ false
unfolding is_opcode_of_map
no-opcode-66 = refl

no-opcode-f2 : is_opcode_of_map map.One 0xF2 ≡ false
unfolding is_opcode_of_map
no-opcode-f2 = refl

no-opcode-f3 : is_opcode_of_map map.One 0xF3 ≡ false
unfolding is_opcode_of_map
no-opcode-f3 = refl

no-opcode-38 : is_opcode_of_map map.M0f 0x38 ≡ false
unfolding is_opcode_of_map
no-opcode-38 = refl

no-opcode-3a : is_opcode_of_map map.M0f 0x3A ≡ false
unfolding is_opcode_of_map
no-opcode-3a = refl

-- the map that a text begins with
abbrev pub map_of : List ℕ → Map
map_of t =
    if at0 t == 48 && at1 t == 70 then (if at3 t == 51 && at4 t == 56 then map.M0f38 else (if at3 t == 51 && at4 t == 65 then map.M0f3a else map.M0f)) else map.One

map-back : (m : Map) (b : ℕ) (p : PlusWord) (t : Tail) → b < 256 → is_opcode_of_map m b ≡ true → map_of (map_text m ++ opcode_text b p t) ≡ m
map-back map.One b p t h ok = rw (two-digits b 0 15 h (lit< tt) (lit< tt) (not-opcode map.One b 0x0F ok no-opcode-0f)) refl
map-back map.M0f b p t h ok = rw (two-digits b 3 8 h (lit< tt) (lit< tt) (not-opcode map.M0f b 0x38 ok no-opcode-38), two-digits b 3 10 h (lit< tt) (lit< tt) (not-opcode map.M0f b 0x3A ok no-opcode-3a)) refl
map-back map.M0f38 b p t h ok = refl
map-back map.M0f3a b p t h ok = refl

-- a text from the escape bytes on
abbrev pub map_part : Map → ℕ → PlusWord → Tail → List ℕ
map_part m b p t = map_text m ++ opcode_text b p t

above : (d c : ℕ) → d < 16 → 70 < c → (digit_text d == c) ≡ false
above d c h lt = let most : digit_text d ≤ 70 = digit-most d h in differs (digit_text d) c (λ e. absurd (omega (arith, e, most)))

-- the size word that a text begins with
abbrev pub size_of : List ℕ → SizeWord
size_of t =
    if at0 t == 111 then (if at1 t == 49 then word.O16 else (if at1 t == 51 then word.O32 else word.O64)) else (if at0 t == 82 then word.RexW else word.None)

size-back : (z : SizeWord) (m : Map) (b : ℕ) (p : PlusWord) (t : Tail) → b < 256 → size_of (size_text z ++ map_part m b p t) ≡ z
size-back word.None map.One b p t h = rw (above (b / 16) 111 (high-small b h) (lit< tt), above (b / 16) 82 (high-small b h) (lit< tt)) refl
size-back word.None _ b p t h = refl
size-back _ m b p t h = refl

-- a text from the size word on
abbrev pub size_part : SizeWord → Map → ℕ → PlusWord → Tail → List ℕ
size_part z m b p t = size_text z ++ map_part m b p t

-- the prefixes that a text begins with
abbrev pub class_of : List ℕ → Class
class_of t =
    if at0 t == 78 then (if at1 t == 80 then class.Np else (if at2 t == 120 then class.Nfx else class.Nf3))
    else (if at0 t == 54 && at1 t == 54 then class.P66
    else (if at0 t == 70 && at1 t == 51 then class.F3
    else (if at0 t == 70 && at1 t == 50 then class.F2 else class.Any)))

class-back : (c : Class) (z : SizeWord) (m : Map) (b : ℕ) (p : PlusWord) (t : Tail) → b < 256 → is_opcode_of_map m b ≡ true → class_of (class_text c ++ size_part z m b p t) ≡ c
class-back class.Any word.None map.One b p t h ok =
    rw (
      above (b / 16) 78 (high-small b h) (lit< tt),
      two-digits b 6 6 h (lit< tt) (lit< tt) (not-opcode map.One b 0x66 ok no-opcode-66),
      two-digits b 15 3 h (lit< tt) (lit< tt) (not-opcode map.One b 0xF3 ok no-opcode-f3),
      two-digits b 15 2 h (lit< tt) (lit< tt) (not-opcode map.One b 0xF2 ok no-opcode-f2),
    ) refl
class-back class.Any word.None _ b p t h ok = refl
class-back class.Any _ m b p t h ok = refl
class-back _ z m b p t h ok = refl

-- a legacy text begins with no V
no-v : (c : Class) (z : SizeWord) (m : Map) (b : ℕ) (p : PlusWord) (t : Tail) → b < 256 → (at0 (class_text c ++ size_part z m b p t) == 86) ≡ false
no-v class.Any word.None map.One b p t h = above (b / 16) 86 (high-small b h) (lit< tt)
no-v class.Any word.None _ b p t h = refl
no-v class.Any _ m b p t h = refl
no-v _ z m b p t h = refl

-- ---- the words of a VEX text

-- W of a VEX text
abbrev pub w_of : List ℕ → WBit
w_of t = if at2 t == 48 then wbit.W0 else (if at2 t == 49 then wbit.W1 else wbit.Wig)

w-back : (x : WBit) (rest : List ℕ) → not (lacks_w x) ≡ true → w_of (w_text x ++ rest) ≡ x
w-back wbit.None rest h = absurd cc
w-back wbit.W0 rest h = refl
w-back wbit.W1 rest h = refl
w-back wbit.Wig rest h = refl

-- the map of a VEX text
abbrev pub vex_map_of : List ℕ → Map
vex_map_of t = if at3 t == 46 then map.M0f else (if at4 t == 56 then map.M0f38 else map.M0f3a)

vex_map-back : (m : Map) (x : WBit) (rest : List ℕ) → not (is_one_byte_map m) ≡ true → not (lacks_w x) ≡ true → vex_map_of (vex_map_text m ++ (w_text x ++ rest)) ≡ m
vex_map-back map.One x rest h k = absurd cc
vex_map-back map.M0f wbit.None rest h k = absurd cc
vex_map-back map.M0f wbit.W0 rest h k = refl
vex_map-back map.M0f wbit.W1 rest h k = refl
vex_map-back map.M0f wbit.Wig rest h k = refl
vex_map-back map.M0f38 x rest h k = refl
vex_map-back map.M0f3a x rest h k = refl

-- the field pp of a VEX text
abbrev pub pp_of : List ℕ → Class
pp_of t = if at1 t == 54 then class.P66 else (if at1 t == 48 then class.Np else (if at2 t == 51 then class.F3 else class.F2))

pp-back : (c : Class) (m : Map) (rest : List ℕ) → is_vex_class c ≡ true → not (is_one_byte_map m) ≡ true → pp_of (pp_text c ++ (vex_map_text m ++ rest)) ≡ c
pp-back class.Any m rest h k = absurd cc
pp-back class.Nfx m rest h k = absurd cc
pp-back class.Nf3 m rest h k = absurd cc
pp-back class.Np map.One rest h k = absurd cc
pp-back class.Np map.M0f rest h k = refl
pp-back class.Np map.M0f38 rest h k = refl
pp-back class.Np map.M0f3a rest h k = refl
pp-back class.P66 m rest h k = refl
pp-back class.F3 m rest h k = refl
pp-back class.F2 m rest h k = refl

-- L of a VEX text
abbrev pub l_of : List ℕ → LBit
l_of t = if at0 t == 49 then lbit.L128 else (if at0 t == 50 then lbit.L256 else (if at1 t == 73 then lbit.Lig else lbit.Lz))

l-back : (x : LBit) (rest : List ℕ) → not (lacks_l x) ≡ true → l_of (l_text x ++ rest) ≡ x
l-back lbit.None rest h = absurd cc
l-back lbit.L128 rest h = refl
l-back lbit.L256 rest h = refl
l-back lbit.Lig rest h = refl
l-back lbit.Lz rest h = refl

-- ---- whole shapes

-- what follows the opcode byte of a shape
abbrev pub tail_of_shape : RowShape → Tail
tail_of_shape s = record { rule = s.modrm; stack = s.stack; imm = s.imm }

pub record Proper (s : RowShape) : Type 0 where
  pub opcode : s.opcode < 256
  pub tail : IsTail (tail_of_shape s)

proper-parts : (s : RowShape) → is_proper s ≡ true → Proper s
unfolding is_proper
proper-parts s h =
    let kind-test : Bool = elim s.kind as (λ _. Bool) [ Legacy ↦ is_legacy_proper s | Vex ↦ is_vex_proper s ] in
    let t2 : Bool = is_stack_proper s.modrm s.stack && kind-test in
    let t1 : Bool = is_rule_in_range s.modrm && t2 in
    let r1 = (and_parts (nat_lt s.opcode 256) t1 h).1 in
    let r2 = (and_parts (is_rule_in_range s.modrm) t2 r1).1 in
    record {
      opcode = small-opcode s.opcode (and_parts (nat_lt s.opcode 256) t1 h).0;
      tail = record { in_range = (and_parts (is_rule_in_range s.modrm) t2 r1).0; stack_proper = (and_parts (is_stack_proper s.modrm s.stack) kind-test r2).0 };
    }

kind-parts : (s : RowShape) → is_proper s ≡ true → (elim s.kind as (λ _. Bool) [ Legacy ↦ is_legacy_proper s | Vex ↦ is_vex_proper s ]) ≡ true
unfolding is_proper
kind-parts s h =
    let kind-test : Bool = elim s.kind as (λ _. Bool) [ Legacy ↦ is_legacy_proper s | Vex ↦ is_vex_proper s ] in
    let t2 : Bool = is_stack_proper s.modrm s.stack && kind-test in
    let t1 : Bool = is_rule_in_range s.modrm && t2 in
    (and_parts (is_stack_proper s.modrm s.stack) kind-test (and_parts (is_rule_in_range s.modrm) t2 (and_parts (nat_lt s.opcode 256) t1 h).1).1).1

legacy-words : (s : RowShape) → legacy_text s ≡ class_text s.class ++ size_part s.size_word s.map s.opcode s.plus_word (tail_of_shape s)
unfolding legacy_text opcode_part modrm_part
legacy-words s = refl

vex-words : (s : RowShape) → vex_text s ≡ codes "VEX." ++ (l_text s.l ++ (pp_text s.class ++ (vex_map_text s.map ++ (w_text s.w ++ opcode_text s.opcode s.plus_word (tail_of_shape s)))))
unfolding vex_text opcode_part modrm_part
vex-words s = refl

same-full : (k k' : RowKind) (m m' : Map) (c c' : Class) (z z' : SizeWord) (b b' : ℕ) (p p' : PlusWord) (l l' : LBit) (w w' : WBit) (r r' : ModRmRule) (st st' : Bool) (i i' : ImmWord)
    → k ≡ k' → m ≡ m' → c ≡ c' → z ≡ z' → b ≡ b' → p ≡ p' → l ≡ l' → w ≡ w' → r ≡ r' → st ≡ st' → i ≡ i' → full k m c z b p l w r st i ≡ full k' m' c' z' b' p' l' w' r' st' i'
same-full k k' m m' c c' z z' b b' p p' l l' w w' r r' st st' i i' ek em ec ez eb ep el ew er es ei = rw (ek, em, ec, ez, eb, ep, el, ew, er, es, ei) refl

same-parts : (s t : RowShape) → s.kind ≡ t.kind → s.map ≡ t.map → s.class ≡ t.class → s.size_word ≡ t.size_word
    → SameFromOpcode s.opcode t.opcode s.plus_word t.plus_word (tail_of_shape s) (tail_of_shape t) → s.l ≡ t.l → s.w ≡ t.w → s ≡ t
same-parts s t k m c z o l w =
    let opcode : s.opcode ≡ t.opcode = o.opcode in
    let plus : s.plus_word ≡ t.plus_word = o.plus in
    let modrm : s.modrm ≡ t.modrm = o.rule in
    let stack : s.stack ≡ t.stack = o.stack in
    let imms : s.imm ≡ t.imm = o.imm in
    same-full s.kind t.kind s.map t.map s.class t.class s.size_word t.size_word s.opcode t.opcode s.plus_word t.plus_word s.l t.l s.w t.w s.modrm t.modrm s.stack t.stack s.imm t.imm k m c z opcode plus l w modrm stack imms

same-legacy : (s t : RowShape) → s.kind ≡ t.kind → Proper s → Proper t → is_legacy_proper s ≡ true → is_legacy_proper t ≡ true → legacy_text s ≡ legacy_text t → s ≡ t
same-legacy s t k ps pt ls lt e =
    let fs = from-legacy s ls in
    let ft = from-legacy t lt in
    let e1 = sym (legacy-words s) ∙ e ∙ legacy-words t in
    let c : s.class ≡ t.class = sym (class-back s.class s.size_word s.map s.opcode s.plus_word (tail_of_shape s) ps.opcode fs.3) ∙ ap class_of e1 ∙ class-back t.class t.size_word t.map t.opcode t.plus_word (tail_of_shape t) pt.opcode ft.3 in
    let e2 = same-behind class_text s.class t.class (size_part s.size_word s.map s.opcode s.plus_word (tail_of_shape s)) (size_part t.size_word t.map t.opcode t.plus_word (tail_of_shape t)) c e1 in
    let z : s.size_word ≡ t.size_word = sym (size-back s.size_word s.map s.opcode s.plus_word (tail_of_shape s) ps.opcode) ∙ ap size_of e2 ∙ size-back t.size_word t.map t.opcode t.plus_word (tail_of_shape t) pt.opcode in
    let e3 = same-behind size_text s.size_word t.size_word (map_part s.map s.opcode s.plus_word (tail_of_shape s)) (map_part t.map t.opcode t.plus_word (tail_of_shape t)) z e2 in
    let m : s.map ≡ t.map = sym (map-back s.map s.opcode s.plus_word (tail_of_shape s) ps.opcode fs.3) ∙ ap map_of e3 ∙ map-back t.map t.opcode t.plus_word (tail_of_shape t) pt.opcode ft.3 in
    let e4 = same-behind map_text s.map t.map (opcode_text s.opcode s.plus_word (tail_of_shape s)) (opcode_text t.opcode t.plus_word (tail_of_shape t)) m e3 in
    let o = same-opcode s.opcode t.opcode s.plus_word t.plus_word (tail_of_shape s) (tail_of_shape t) ps.opcode pt.opcode ps.tail pt.tail e4 in
    same-parts s t k m c z o (no-l s.l fs.0 ∙ sym (no-l t.l ft.0)) (no-w s.w fs.1 ∙ sym (no-w t.w ft.1))

same-vex : (s t : RowShape) → s.kind ≡ t.kind → Proper s → Proper t → is_vex_proper s ≡ true → is_vex_proper t ≡ true → vex_text s ≡ vex_text t → s ≡ t
same-vex s t k ps pt vs vt e =
    let fs = from-vex s vs in
    let ft = from-vex t vt in
    let os : List ℕ = opcode_text s.opcode s.plus_word (tail_of_shape s) in
    let ot : List ℕ = opcode_text t.opcode t.plus_word (tail_of_shape t) in
    let e1 = behind-word (codes "VEX.") _ _ (sym (vex-words s) ∙ e ∙ vex-words t) in
    let l : s.l ≡ t.l = sym (l-back s.l (pp_text s.class ++ (vex_map_text s.map ++ (w_text s.w ++ os))) fs.has_l) ∙ ap l_of e1 ∙ l-back t.l (pp_text t.class ++ (vex_map_text t.map ++ (w_text t.w ++ ot))) ft.has_l in
    let e2 = same-behind l_text s.l t.l (pp_text s.class ++ (vex_map_text s.map ++ (w_text s.w ++ os))) (pp_text t.class ++ (vex_map_text t.map ++ (w_text t.w ++ ot))) l e1 in
    let c : s.class ≡ t.class = sym (pp-back s.class s.map (w_text s.w ++ os) fs.vex_class fs.own) ∙ ap pp_of e2 ∙ pp-back t.class t.map (w_text t.w ++ ot) ft.vex_class ft.own in
    let e3 = same-behind pp_text s.class t.class (vex_map_text s.map ++ (w_text s.w ++ os)) (vex_map_text t.map ++ (w_text t.w ++ ot)) c e2 in
    let m : s.map ≡ t.map = sym (vex_map-back s.map s.w os fs.own fs.has_w) ∙ ap vex_map_of e3 ∙ vex_map-back t.map t.w ot ft.own ft.has_w in
    let e4 = same-behind vex_map_text s.map t.map (w_text s.w ++ os) (w_text t.w ++ ot) m e3 in
    let w : s.w ≡ t.w = sym (w-back s.w os fs.has_w) ∙ ap w_of e4 ∙ w-back t.w ot ft.has_w in
    let e5 = same-behind w_text s.w t.w os ot w e4 in
    let o = same-opcode s.opcode t.opcode s.plus_word t.plus_word (tail_of_shape s) (tail_of_shape t) ps.opcode pt.opcode ps.tail pt.tail e5 in
    same-parts s t k m c (no-size s.size_word fs.size ∙ sym (no-size t.size_word ft.size)) o l w

true-not-false : true ≡ false → ⊥
true-not-false e = absurd cc

same-by : (k j : RowKind) (s t : RowShape) → s.kind ≡ k → t.kind ≡ j → Proper s → Proper t
    → (elim k as (λ _. Bool) [ Legacy ↦ is_legacy_proper s | Vex ↦ is_vex_proper s ]) ≡ true → (elim j as (λ _. Bool) [ Legacy ↦ is_legacy_proper t | Vex ↦ is_vex_proper t ]) ≡ true
    → (elim k as (λ _. List ℕ) [ Legacy ↦ legacy_text s | Vex ↦ vex_text s ]) ≡ (elim j as (λ _. List ℕ) [ Legacy ↦ legacy_text t | Vex ↦ vex_text t ]) → s ≡ t
same-by Legacy Legacy s t ks kt ps pt hs ht e = same-legacy s t (ks ∙ sym kt) ps pt hs ht e
same-by Vex Vex s t ks kt ps pt hs ht e = same-vex s t (ks ∙ sym kt) ps pt hs ht e
same-by Legacy Vex s t ks kt ps pt hs ht e =
    absurd (true-not-false (ap (λ x. at0 x == 86) (sym (vex-words t) ∙ sym e ∙ legacy-words s) ∙ no-v s.class s.size_word s.map s.opcode s.plus_word (tail_of_shape s) ps.opcode))
same-by Vex Legacy s t ks kt ps pt hs ht e =
    absurd (true-not-false (ap (λ x. at0 x == 86) (sym (vex-words s) ∙ e ∙ legacy-words t) ∙ no-v t.class t.size_word t.map t.opcode t.plus_word (tail_of_shape t) pt.opcode))

same-notation : (s t : RowShape) → is_proper s ≡ true → is_proper t ≡ true → notation s ≡ notation t → s ≡ t
unfolding notation
same-notation s t hs ht e = same-by s.kind t.kind s t refl refl (proper-parts s hs) (proper-parts t ht) (kind-parts s hs) (kind-parts t ht) e

-- no text belongs to two shapes
pub one-text : (text : List ℕ) (s t : RowShape) → IsTextOf text s → IsTextOf text t → s ≡ t
one-text text s t hs ht = same-notation s t hs.proper ht.proper (hs.written ∙ sym ht.written)
