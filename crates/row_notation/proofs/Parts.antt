-- The texts of the languages are the notations of proper shapes, and the other way round.
use Rattle.std.proofs.Common.{◌≡◌, inl, inr, ℕ, ◌+◌, ◌*◌, ◌/◌, ◌%◌, ◌<◌, ◌≤◌, List, [], ◌∷◌, ◌++◌, refl, sym, ap, ◌∙◌, subst, arith, Bool, true, false, ◌&&◌, not, nat_lt, codes, eq-eqb}
use Rattle.std.proofs.lemmas.List.{append-nil}
use Rattle.std.proofs.lemmas.Bool.{and_parts}
use Rattle.instruction_parts.specs.declared.row_types.RowKind.{RowKind}
use Rattle.instruction_parts.specs.declared.row_types.RowKind.TheVariants.{Legacy, Vex}
use Rattle.instruction_parts.specs.declared.row_types.Map.{Map}
use Rattle.instruction_parts.specs.declared.row_types.Class.{Class}
use Rattle.instruction_parts.specs.declared.row_types.ModRmRule.{ModRmRule}
use Rattle.instruction_parts.specs.declared.row_types.ModRmRule.TheVariants as rule
use Rattle.instruction_parts.specs.declared.row_types.WBit.{WBit}
use Rattle.instruction_parts.specs.declared.row_types.WBit.TheVariants as w
use Rattle.instruction_parts.specs.declared.row_types.LBit.{LBit}
use Rattle.instruction_parts.specs.declared.row_types.LBit.TheVariants as l
use Rattle.instruction_parts.specs.declared.row_types.SizeWord.{SizeWord}
use Rattle.instruction_parts.specs.declared.row_types.SizeWord.TheVariants as word
use Rattle.instruction_parts.specs.declared.row_types.PlusWord.{PlusWord}
use Rattle.instruction_parts.specs.declared.row_types.PlusWord.TheVariants as added
use Rattle.instruction_parts.specs.declared.row_types.ImmWord.{ImmWord}
use Rattle.instruction_parts.specs.declared.row_types.ImmWord.TheVariants as imm
use Rattle.instruction_parts.specs.declared.row_types.RowShape.{RowShape}
use Rattle.row_notation.specs.Shape.{is_opcode_of_map, is_rule_in_range, is_stack_proper, lacks_l, lacks_w, is_four_bits, is_no_plus_word, is_fixed, is_one_byte_map, is_vex_class, is_legacy_proper, is_vex_proper, is_proper}
use Rattle.row_notation.specs.Notation.{class_text, size_text, map_text, digit_text, byte_text, plus_text, stack_text, modrm_text, imm_text, l_text, pp_text, vex_map_text, w_text, modrm_part, opcode_part, legacy_text, vex_text, notation}
use Rattle.row_notation.specs.Texts.{IsTextOf}
use Rattle.row_notation.specs.Reading.{imm_words, plus_words, maps, size_words, classes, w_words, vex_maps, vex_classes, l_words, blank}
use Rattle.row_notation.proofs.Languages.{Language, word_then, one_of}
use Rattle.row_notation.proofs.Grammar.{ends, imm_texts, stack_texts, octal_digit, register_digit, fixed_of, modrm_texts, opcode_digit, opcode_texts, map_part, size_part, class_part, w_part, vex_map_part, pp_part, vex_texts, all_texts}

-- a shape of all its parts
abbrev pub full : RowKind → Map → Class → SizeWord → ℕ → PlusWord → LBit → WBit → ModRmRule → Bool → ImmWord → RowShape
full k m c z b p l w r st i =
    record { kind = k; map = m; class = c; size_word = z; opcode = b; plus_word = p; modrm = r; stack = st; l = l; w = w; imm = i }

-- ---- a choice among words

-- a test holds of all values of a list
abbrev pub all_pass : {V : Type 0} → (V → Bool) → List V → Bool
all_pass p [] = true
all_pass p (v ∷ vs) = p v && all_pass p vs

-- the value that was chosen passes what all do
pub chosen : {V : Type 0} → (p : V → Bool) (vs : List V) (L : V → Language) (text : List ℕ) (s : RowShape) → all_pass p vs ≡ true → one_of vs L text s → (v : V) × (p v ≡ true) × L v text s
chosen p [] L text s e h = absurd h
chosen p (v ∷ vs) L text s e (inl h) = (v, (and_parts (p v) (all_pass p vs) e).0, h)
chosen p (v ∷ vs) L text s e (inr h) = chosen p vs L text s (and_parts (p v) (all_pass p vs) e).1 h

-- ---- from ModRM on

-- the immediates that a kind of row can have
abbrev pub imm_allowed : RowKind → ImmWord → Bool
imm_allowed Legacy i = not (is_four_bits i)
imm_allowed Vex i = true

-- only legacy rows have a fixed ModRM byte
abbrev pub fixed_allowed : RowKind → ModRmRule → Bool
fixed_allowed Legacy r = true
fixed_allowed Vex r = not (is_fixed r)

imm-pass : (k : RowKind) → all_pass (imm_allowed k) (imm_words k) ≡ true
imm-pass Legacy = refl
imm-pass Vex = refl

-- what a text of immediates is
pub record Immediate (k : RowKind) (mk : ImmWord → RowShape) (text : List ℕ) (s : RowShape) : Type 0 where
  pub imm : ImmWord
  pub allowed : imm_allowed k imm ≡ true
  pub text_is : text ≡ imm_text imm
  pub shape_is : s ≡ mk imm

imm-sound : (shape : RowShape) (text : List ℕ) (s : RowShape) → imm_texts shape text s → Immediate shape.kind (λ i. record shape { imm = i }) text s
imm-sound shape text s h =
    let v = chosen (imm_allowed shape.kind) (imm_words shape.kind) (λ i. word_then (imm_text i) (ends (record shape { imm = i }))) text s (imm-pass shape.kind) h in
    record {
      imm = v.0;
      allowed = v.1;
      text_is = v.2.1 ∙ ap (λ x. imm_text v.0 ++ x) v.2.2.0 ∙ append-nil (imm_text v.0);
      shape_is = v.2.2.1;
    }

-- what a text from ModRM on is
pub record FromModRm (k : RowKind) (mk : ModRmRule → Bool → ImmWord → RowShape) (text : List ℕ) (s : RowShape) : Type 0 where
  pub rule : ModRmRule
  pub stack : Bool
  pub imm : ImmWord
  pub in_range : is_rule_in_range rule ≡ true
  pub stack_proper : is_stack_proper rule stack ≡ true
  pub fixed : fixed_allowed k rule ≡ true
  pub allowed : imm_allowed k imm ≡ true
  pub text_is : text ≡ modrm_text rule ++ (stack_text stack ++ imm_text imm)
  pub shape_is : s ≡ mk rule stack imm

from-imm : (k : RowKind) (mk : ModRmRule → Bool → ImmWord → RowShape) (r : ModRmRule) (st : Bool) (rest text : List ℕ) (s : RowShape)
    → is_rule_in_range r ≡ true → is_stack_proper r st ≡ true → fixed_allowed k r ≡ true → text ≡ modrm_text r ++ (stack_text st ++ rest)
    → Immediate k (mk r st) rest s → FromModRm k mk text s
from-imm k mk r st rest text s range proper fixed e h = record {
  rule = r;
  stack = st;
  imm = h.imm;
  in_range = range;
  stack_proper = proper;
  fixed = fixed;
  allowed = h.allowed;
  text_is = e ∙ ap (λ x. modrm_text r ++ (stack_text st ++ x)) h.text_is;
  shape_is = h.shape_is;
}

-- a shape of which ModRM and immediates were not read
abbrev pub before_modrm : RowKind → Map → Class → SizeWord → ℕ → PlusWord → LBit → WBit → RowShape
before_modrm k m c z b p l w = full k m c z b p l w rule.No false imm.None

-- the shapes that go on from there
abbrev pub with_modrm : RowKind → Map → Class → SizeWord → ℕ → PlusWord → LBit → WBit → ModRmRule → Bool → ImmWord → RowShape
with_modrm k m c z b p l w r st i = full k m c z b p l w r st i

stack-proper : (b : ℕ) → (b % 8 ≡ 0) → is_stack_proper (rule.Fixed b) true ≡ true
unfolding is_stack_proper
stack-proper b e = eq-eqb (b % 8) 0 e

no-stack-proper : (r : ModRmRule) → is_stack_proper r false ≡ true
unfolding is_stack_proper
no-stack-proper rule.No = refl
no-stack-proper rule.Any = refl
no-stack-proper (rule.Digit d) = refl
no-stack-proper (rule.Fixed b) = refl

octal-below : (d : ℕ) → octal_digit d ≡ true → d < 8
octal-below d e = grind arith

register-from : (d : ℕ) → register_digit d ≡ true → 12 ≤ d
register-from d e = grind arith

fixed-in_range : (h d : ℕ) → register_digit h ≡ true → d < 16 → is_rule_in_range (rule.Fixed (h * 16 + d)) ≡ true
unfolding is_rule_in_range
fixed-in_range h d e lt = grind arith

-- the digits of a byte
byte-of_digits : (h d : ℕ) → h < 16 → d < 16 → byte_text (h * 16 + d) ≡ digit_text h ∷ digit_text d ∷ []
byte-of_digits h d hh dd =
    let q : (h * 16 + d) / 16 ≡ h = omega arith in
    let r : (h * 16 + d) % 16 ≡ d = omega arith in
    ap (λ x. digit_text x ∷ digit_text ((h * 16 + d) % 16) ∷ []) q ∙ ap (λ x. digit_text h ∷ digit_text x ∷ []) r

stack-sound : (k : RowKind) (m : Map) (c : Class) (z : SizeWord) (b : ℕ) (p : PlusWord) (l : LBit) (w : WBit) (f : ℕ) (rest text : List ℕ) (s : RowShape)
    → is_rule_in_range (rule.Fixed f) ≡ true → fixed_allowed k (rule.Fixed f) ≡ true → text ≡ modrm_text (rule.Fixed f) ++ rest
    → stack_texts (full k m c z b p l w (rule.Fixed f) false imm.None) f rest s → FromModRm k (with_modrm k m c z b p l w) text s
stack-sound k m c z b p l w f rest text s range fixed e (inl h) =
    from-imm k (with_modrm k m c z b p l w) (rule.Fixed f) false rest text s range (no-stack-proper (rule.Fixed f)) fixed e
    (imm-sound (full k m c z b p l w (rule.Fixed f) false imm.None) rest s h)
stack-sound k m c z b p l w f rest text s range fixed e (inr h) =
    from-imm k (with_modrm k m c z b p l w) (rule.Fixed f) true h.1.0 text s range (stack-proper f h.0) fixed
    (e ∙ ap (λ x. modrm_text (rule.Fixed f) ++ x) h.1.1)
    (imm-sound (full k m c z b p l w (rule.Fixed f) true imm.None) h.1.0 s h.1.2)

fixed-sound : (k : RowKind) (m : Map) (c : Class) (z : SizeWord) (b : ℕ) (p : PlusWord) (l : LBit) (w : WBit) (q : RowKind) (text : List ℕ) (s : RowShape)
    → q ≡ k → fixed_of q (before_modrm k m c z b p l w) text s → FromModRm k (with_modrm k m c z b p l w) text s
fixed-sound Vex m c z b p l w Vex text s e h = absurd h
fixed-sound Legacy m c z b p l w Vex text s e h = absurd h
fixed-sound Vex m c z b p l w Legacy text s e h = absurd cc
fixed-sound Legacy m c z b p l w Legacy text s e h =
    let high = h.2.0 in
    let low = h.2.3.2.0 in
    let rest = h.2.3.2.3.0 in
    let f : ℕ = high * 16 + low in
    let small : high < 16 = h.2.2 in
    let digits : byte_text f ≡ digit_text high ∷ digit_text low ∷ [] = byte-of_digits high low small h.2.3.2.2 in
    let spelled : text ≡ codes " " ++ (digit_text high ∷ digit_text low ∷ rest) = h.1 ∙ ap (λ x. codes " " ++ x) (h.2.3.1 ∙ ap (λ x. digit_text high ∷ x) h.2.3.2.3.1) in
    stack-sound Legacy m c z b p l w f rest text s (fixed-in_range high low h.2.1 h.2.3.2.2) refl
    (spelled ∙ ap (λ x. codes " " ++ (x ++ rest)) (sym digits)) h.2.3.2.3.2

digit-range : (d : ℕ) → octal_digit d ≡ true → is_rule_in_range (rule.Digit d) ≡ true
unfolding is_rule_in_range
digit-range d e = e

modrm-sound : (k : RowKind) (m : Map) (c : Class) (z : SizeWord) (b : ℕ) (p : PlusWord) (l : LBit) (w : WBit) (text : List ℕ) (s : RowShape)
    → modrm_texts (before_modrm k m c z b p l w) text s → FromModRm k (with_modrm k m c z b p l w) text s
unfolding is_rule_in_range is_stack_proper
modrm-sound k m c z b p l w text s (inl (inl h)) =
    from-imm k (with_modrm k m c z b p l w) rule.No false text text s refl refl (fixed-no k) refl (imm-sound (before_modrm k m c z b p l w) text s h)
  where
    fixed-no : (k : RowKind) → fixed_allowed k rule.No ≡ true
    fixed-no Legacy = refl
    fixed-no Vex = refl
modrm-sound k m c z b p l w text s (inl (inr h)) =
    from-imm k (with_modrm k m c z b p l w) rule.Any false h.0 text s refl refl (fixed-any k) h.1 (imm-sound (full k m c z b p l w rule.Any false imm.None) h.0 s h.2)
  where
    fixed-any : (k : RowKind) → fixed_allowed k rule.Any ≡ true
    fixed-any Legacy = refl
    fixed-any Vex = refl
modrm-sound k m c z b p l w text s (inr (inl h)) =
    let d = h.2.0 in
    let rest = h.2.3.0 in
    from-imm k (with_modrm k m c z b p l w) (rule.Digit d) false rest text s (digit-range d h.2.1) (no-stack-proper (rule.Digit d)) (fixed-digit k d)
    (h.1 ∙ ap (λ x. codes " /" ++ x) h.2.3.1) (imm-sound (full k m c z b p l w (rule.Digit d) false imm.None) rest s h.2.3.2)
  where
    fixed-digit : (k : RowKind) (d : ℕ) → fixed_allowed k (rule.Digit d) ≡ true
    fixed-digit Legacy d = refl
    fixed-digit Vex d = refl
modrm-sound k m c z b p l w text s (inr (inr h)) = fixed-sound k m c z b p l w k text s refl h

-- ---- from the opcode byte on

-- the added registers that a kind of row can have
abbrev pub plus_allowed : RowKind → PlusWord → Bool
plus_allowed Legacy p = true
plus_allowed Vex p = is_no_plus_word p

-- the opcode bytes that a kind and map of row can have
abbrev pub opcode_allowed : RowKind → Map → ℕ → Bool
opcode_allowed Legacy m b = is_opcode_of_map m b
opcode_allowed Vex m b = true

plus-pass : (k : RowKind) → all_pass (plus_allowed k) (plus_words k) ≡ true
plus-pass Legacy = refl
plus-pass Vex = refl

-- what a text from the opcode byte on is
pub record FromOpcode (k : RowKind) (m : Map) (c : Class) (z : SizeWord) (l : LBit) (w : WBit) (text : List ℕ) (s : RowShape) : Type 0 where
  pub opcode : ℕ
  pub plus : PlusWord
  pub small : opcode < 256
  pub of_map : opcode_allowed k m opcode ≡ true
  pub plus_ok : plus_allowed k plus ≡ true
  pub tail : List ℕ
  pub later : FromModRm k (full k m c z opcode plus l w) tail s
  pub text_is : text ≡ byte_text opcode ++ (plus_text plus ++ tail)

opcode-kind : (k : RowKind) (m : Map) (c : Class) (z : SizeWord) (l : LBit) (w : WBit) (high low : ℕ)
    → opcode_digit (full k m c z 0 added.None l w rule.No false imm.None) high low ≡ true → opcode_allowed k m (high * 16 + low) ≡ true
opcode-kind Legacy m c z l w high low e = (and_parts (nat_lt low 16) (is_opcode_of_map m (high * 16 + low)) e).1
opcode-kind Vex m c z l w high low e = refl

opcode-sound : (k : RowKind) (m : Map) (c : Class) (z : SizeWord) (l : LBit) (w : WBit) (text : List ℕ) (s : RowShape)
    → opcode_texts (full k m c z 0 added.None l w rule.No false imm.None) text s → FromOpcode k m c z l w text s
opcode-sound k m c z l w text s h =
    let high = h.0 in
    let low = h.3.2.0 in
    let rest = h.3.2.3.0 in
    let b : ℕ = high * 16 + low in
    let small : high < 16 = h.2 in
    let low-small : low < 16 = h.3.2.2 in
    let digits : byte_text b ≡ digit_text high ∷ digit_text low ∷ [] = byte-of_digits high low small low-small in
    let v = chosen (plus_allowed k) (plus_words k) (λ p. word_then (plus_text p) (modrm_texts (full k m c z b p l w rule.No false imm.None))) rest s (plus-pass k) h.3.2.3.2 in
    record {
      opcode = b;
      plus = v.0;
      small = omega arith;
      of_map = opcode-kind k m c z l w high low h.3.2.1;
      plus_ok = v.1;
      tail = v.2.0;
      later = modrm-sound k m c z b v.0 l w v.2.0 s v.2.2;
      text_is = h.3.1 ∙ ap (λ x. digit_text high ∷ x) h.3.2.3.1 ∙ ap (λ x. digit_text high ∷ digit_text low ∷ x) v.2.1 ∙ ap (λ x. x ++ (plus_text v.0 ++ v.2.0)) (sym digits);
    }

-- ---- whole texts

-- the parts of a legacy shape that are proper make a proper shape
legacy-proper : (m : Map) (c : Class) (z : SizeWord) (b : ℕ) (p : PlusWord) (r : ModRmRule) (st : Bool) (i : ImmWord)
    → b < 256 → is_opcode_of_map m b ≡ true → is_rule_in_range r ≡ true → is_stack_proper r st ≡ true → imm_allowed Legacy i ≡ true
    → is_proper (full Legacy m c z b p l.None w.None r st i) ≡ true
unfolding is_proper is_legacy_proper
legacy-proper m c z b p r st i small opcode range stack allowed =
    let lt : nat_lt b 256 ≡ true = grind arith in
    rw (lt, range, stack, allowed, opcode) refl

vex-proper : (m : Map) (c : Class) (b : ℕ) (l : LBit) (w : WBit) (r : ModRmRule) (st : Bool) (i : ImmWord) (p : PlusWord)
    → b < 256 → is_rule_in_range r ≡ true → is_stack_proper r st ≡ true → fixed_allowed Vex r ≡ true → not (lacks_l l) ≡ true → not (lacks_w w) ≡ true
    → is_vex_class c ≡ true → not (is_one_byte_map m) ≡ true → plus_allowed Vex p ≡ true
    → is_proper (full Vex m c word.None b p l w r st i) ≡ true
unfolding is_proper is_vex_proper
vex-proper m c b l w r st i p small range stack fixed has_l has_w vex_class own_map plus =
    let lt : nat_lt b 256 ≡ true = grind arith in
    rw (lt, range, stack, has_l, has_w, vex_class, plus, fixed, own_map) refl

-- a text of the legacy language is a legacy shape's
legacy-text-of : (m : Map) (c : Class) (z : SizeWord) (text : List ℕ) (s : RowShape) (rest : List ℕ)
    → FromOpcode Legacy m c z l.None w.None rest s → text ≡ class_text c ++ (size_text z ++ (map_text m ++ rest)) → IsTextOf text s
unfolding notation legacy_text opcode_part modrm_part
legacy-text-of m c z text s rest f e =
    subst (λ x. IsTextOf text x) (sym f.later.shape_is) (record {
      proper = (legacy-proper m c z f.opcode f.plus f.later.rule f.later.stack f.later.imm f.small f.of_map f.later.in_range f.later.stack_proper f.later.allowed);
      written = sym (e ∙ ap (λ x. class_text c ++ (size_text z ++ (map_text m ++ x))) (f.text_is ∙ ap (λ x. byte_text f.opcode ++ (plus_text f.plus ++ x)) f.later.text_is));
    })

-- a text of the VEX language is a VEX shape's
vex-text-of : (m : Map) (c : Class) (l : LBit) (w : WBit) (text : List ℕ) (s : RowShape) (rest : List ℕ)
    → not (lacks_l l) ≡ true → not (lacks_w w) ≡ true → is_vex_class c ≡ true → not (is_one_byte_map m) ≡ true
    → FromOpcode Vex m c word.None l w rest s → text ≡ codes "VEX." ++ (l_text l ++ (pp_text c ++ (vex_map_text m ++ (w_text w ++ rest)))) → IsTextOf text s
unfolding notation vex_text opcode_part modrm_part
vex-text-of m c l w text s rest has_l has_w vex_class own_map f e =
    subst (λ x. IsTextOf text x) (sym f.later.shape_is) (record {
      proper = (vex-proper m c f.opcode l w f.later.rule f.later.stack f.later.imm f.plus f.small f.later.in_range f.later.stack_proper f.later.fixed has_l has_w vex_class own_map f.plus_ok);
      written = sym (e ∙ ap (λ x. codes "VEX." ++ (l_text l ++ (pp_text c ++ (vex_map_text m ++ (w_text w ++ x))))) (f.text_is ∙ ap (λ x. byte_text f.opcode ++ (plus_text f.plus ++ x)) f.later.text_is));
    })

-- the test that every value passes
abbrev pub anything : {V : Type 0} → V → Bool
anything v = true

class-sound : (text : List ℕ) (s : RowShape) → (class_part (blank Legacy)).texts text s → IsTextOf text s
class-sound text s h =
    let c = chosen anything classes (λ x. word_then (class_text x) (size_part (record (blank Legacy) { class = x })).texts) text s refl h in
    let z = chosen anything size_words (λ x. word_then (size_text x) (map_part (record (blank Legacy) { class = c.0; size_word = x })).texts) c.2.0 s refl c.2.2 in
    let m = chosen anything maps (λ x. word_then (map_text x) (opcode_texts (record (blank Legacy) { class = c.0; size_word = z.0; map = x }))) z.2.0 s refl z.2.2 in
    legacy-text-of m.0 c.0 z.0 text s m.2.0 (opcode-sound Legacy m.0 c.0 z.0 l.None w.None m.2.0 s m.2.2)
    (c.2.1 ∙ ap (λ x. class_text c.0 ++ x) z.2.1 ∙ ap (λ x. class_text c.0 ++ (size_text z.0 ++ x)) m.2.1)

-- the value of L is one that a VEX text states
abbrev pub some_l : LBit → Bool
some_l x = not (lacks_l x)

-- the value of W is one that a VEX text states
abbrev pub some_w : WBit → Bool
some_w x = not (lacks_w x)

-- the map is one that a VEX text states
abbrev pub own_map : Map → Bool
own_map m = not (is_one_byte_map m)

l-sound : (text : List ℕ) (s : RowShape) → vex_texts text s → IsTextOf text s
l-sound text s h =
    let x = chosen some_l l_words (λ x. word_then (l_text x) (pp_part (record (blank Vex) { l = x })).texts) h.0 s refl h.2 in
    let c = chosen is_vex_class vex_classes (λ y. word_then (pp_text y) (vex_map_part (record (blank Vex) { l = x.0; class = y })).texts) x.2.0 s refl x.2.2 in
    let m = chosen own_map vex_maps (λ y. word_then (vex_map_text y) (w_part (record (blank Vex) { l = x.0; class = c.0; map = y })).texts) c.2.0 s refl c.2.2 in
    let v = chosen some_w w_words (λ y. word_then (w_text y) (opcode_texts (record (blank Vex) { l = x.0; class = c.0; map = m.0; w = y }))) m.2.0 s refl m.2.2 in
    vex-text-of m.0 c.0 x.0 v.0 text s v.2.0 x.1 v.1 c.1 m.1 (opcode-sound Vex m.0 c.0 word.None x.0 v.0 v.2.0 s v.2.2)
    (h.1 ∙ ap (λ y. codes "VEX." ++ y) x.2.1 ∙ ap (λ y. codes "VEX." ++ (l_text x.0 ++ y)) c.2.1
    ∙ ap (λ y. codes "VEX." ++ (l_text x.0 ++ (pp_text c.0 ++ y))) m.2.1
    ∙ ap (λ y. codes "VEX." ++ (l_text x.0 ++ (pp_text c.0 ++ (vex_map_text m.0 ++ y)))) v.2.1)

-- each text of the languages is that of its shape
pub sound : (text : List ℕ) (s : RowShape) → all_texts text s → IsTextOf text s
sound text s (inl h) = class-sound text s h
sound text s (inr h) = l-sound text s h
