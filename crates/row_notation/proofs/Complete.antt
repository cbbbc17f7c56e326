-- The notation of each proper shape is a text of the languages.
use Rattle.std.proofs.Common.{◌≡◌, inl, inr, ℕ, ◌+◌, ◌*◌, ◌/◌, ◌%◌, ◌<◌, List, [], ◌∷◌, ◌++◌, refl, sym, ap, ◌∙◌, subst, arith, Bool, true, false, ◌&&◌, ◌||◌, not, ◌==◌, nat_lt, nat_le}
use Rattle.std.proofs.lemmas.Bool.{eqb-true, and_from, and_parts}
use Rattle.std.proofs.lemmas.List.{append-nil}
use Rattle.instruction_parts.specs.declared.row_types.RowKind.{RowKind}
use Rattle.instruction_parts.specs.declared.row_types.RowKind.TheVariants.{Legacy, Vex}
use Rattle.instruction_parts.specs.declared.row_types.Map.{Map}
use Rattle.instruction_parts.specs.declared.row_types.Map.TheVariants as map
use Rattle.instruction_parts.specs.declared.row_types.Class.{Class}
use Rattle.instruction_parts.specs.declared.row_types.Class.TheVariants as class
use Rattle.instruction_parts.specs.declared.row_types.ModRmRule.{ModRmRule}
use Rattle.instruction_parts.specs.declared.row_types.ModRmRule.TheVariants as rule
use Rattle.instruction_parts.specs.declared.row_types.WBit.{WBit}
use Rattle.instruction_parts.specs.declared.row_types.WBit.TheVariants as wbit
use Rattle.instruction_parts.specs.declared.row_types.LBit.{LBit}
use Rattle.instruction_parts.specs.declared.row_types.LBit.TheVariants as lbit
use Rattle.instruction_parts.specs.declared.row_types.SizeWord.{SizeWord}
use Rattle.instruction_parts.specs.declared.row_types.SizeWord.TheVariants as word
use Rattle.instruction_parts.specs.declared.row_types.PlusWord.{PlusWord}
use Rattle.instruction_parts.specs.declared.row_types.PlusWord.TheVariants as added
use Rattle.instruction_parts.specs.declared.row_types.ImmWord.{ImmWord}
use Rattle.instruction_parts.specs.declared.row_types.ImmWord.TheVariants as imm
use Rattle.instruction_parts.specs.declared.row_types.RowShape.{RowShape}
use Rattle.row_notation.specs.Shape.{is_opcode_of_map, is_rule_in_range, is_stack_proper, lacks_l, lacks_w, is_four_bits, is_no_size_word, is_no_plus_word, is_fixed, is_one_byte_map, is_vex_class, is_legacy_proper, is_vex_proper, is_proper}
use Rattle.row_notation.specs.Notation.{class_text, size_text, map_text, digit_text, byte_text, plus_text, stack_text, modrm_text, imm_text, l_text, pp_text, vex_map_text, w_text, modrm_part, opcode_part, legacy_text, vex_text, notation}
use Rattle.row_notation.specs.Texts.{IsTextOf}
use Rattle.row_notation.specs.Reading.{imm_words, plus_words, maps, size_words, classes, w_words, vex_maps, vex_classes, l_words, blank}
use Rattle.row_notation.proofs.Languages.{Language, word_then, one_of}
use Rattle.row_notation.proofs.Grammar.{ends, imm_texts, stack_texts, any_digit, register_digit, modrm_texts, plus_texts, opcode_digit, opcode_texts, map_part, size_part, class_part, w_part, vex_map_part, pp_part, vex_texts, all_texts}
use Rattle.row_notation.proofs.Parts.{full, before_modrm, imm_allowed, fixed_allowed, plus_allowed, opcode_allowed}

imm-here : (shape : RowShape) (i : ImmWord) → word_then (imm_text i) (ends (record shape { imm = i })) (imm_text i) (record shape { imm = i })
imm-here shape i = ([], sym (append-nil (imm_text i)), (refl, refl))

imm-complete : (k : RowKind) (shape : RowShape) (i : ImmWord) → k ≡ shape.kind → imm_allowed k i ≡ true → one_of (imm_words k) (λ x. word_then (imm_text x) (ends (record shape { imm = x }))) (imm_text i) (record shape { imm = i })
imm-complete Legacy shape imm.Is4 e h = absurd cc
imm-complete Legacy shape imm.None e h = inl (imm-here shape imm.None)
imm-complete Legacy shape i e h = let here = imm-here shape i in search (inl, inr, here) depth 12
imm-complete Vex shape imm.None e h = inl (imm-here shape imm.None)
imm-complete Vex shape i e h = let here = imm-here shape i in search (inl, inr, here) depth 12

-- the immediates of a shape are a text of theirs
pub imm-text : (shape : RowShape) (i : ImmWord) → imm_allowed shape.kind i ≡ true → imm_texts shape (imm_text i) (record shape { imm = i })
imm-text shape i h = imm-complete shape.kind shape i refl h

stack-complete : (shape : RowShape) (b : ℕ) (st : Bool) (i : ImmWord) → (not st || b % 8 == 0) ≡ true → imm_allowed shape.kind i ≡ true
    → stack_texts shape b (stack_text st ++ imm_text i) (record shape { stack = st; imm = i })
stack-complete shape b false i proper h = inl (imm-text (record shape { stack = false }) i h)
stack-complete shape b true i proper h = inr (eqb-true (b % 8) 0 proper, (imm_text i, refl, imm-text (record shape { stack = true }) i h))

-- the digits of a byte
pub high-small : (b : ℕ) → b < 256 → b / 16 < 16
high-small b h = omega arith

-- the low digit of a byte is below 16
pub low-small : (b : ℕ) → b % 16 < 16
low-small b = omega arith

-- a byte is its two hexadecimal digits
pub whole-byte : (b : ℕ) → (b / 16) * 16 + b % 16 ≡ b
whole-byte b = omega arith

octal-test : (d : ℕ) → nat_lt d 8 ≡ true → d < 16
octal-test d e = grind arith

register-test : (b : ℕ) → (nat_le 0xC0 b && nat_lt b 256) ≡ true → register_digit (b / 16) ≡ true
register-test b e = grind arith

byte-small : (b : ℕ) → (nat_le 0xC0 b && nat_lt b 256) ≡ true → b < 256
byte-small b e = grind arith

low-test : (b : ℕ) → any_digit (b % 16) ≡ true
low-test b = grind arith

high-test : (b : ℕ) → b < 256 → any_digit (b / 16) ≡ true
high-test b h = grind arith

-- from ModRM on
modrm-complete : (k : RowKind) (m : Map) (c : Class) (z : SizeWord) (b : ℕ) (p : PlusWord) (l : LBit) (w : WBit) (r : ModRmRule) (st : Bool) (i : ImmWord)
    → is_rule_in_range r ≡ true → is_stack_proper r st ≡ true → fixed_allowed k r ≡ true → imm_allowed k i ≡ true
    → modrm_texts (before_modrm k m c z b p l w) (modrm_text r ++ (stack_text st ++ imm_text i)) (full k m c z b p l w r st i)
unfolding is_rule_in_range is_stack_proper
modrm-complete k m c z b p l w rule.No true i range stack fixed h = absurd cc
modrm-complete k m c z b p l w rule.No false i range stack fixed h = inl (inl (imm-text (before_modrm k m c z b p l w) i h))
modrm-complete k m c z b p l w rule.Any true i range stack fixed h = absurd cc
modrm-complete k m c z b p l w rule.Any false i range stack fixed h =
    inl (inr (imm_text i, refl, imm-text (full k m c z b p l w rule.Any false imm.None) i h))
modrm-complete k m c z b p l w (rule.Digit d) true i range stack fixed h = absurd cc
modrm-complete k m c z b p l w (rule.Digit d) false i range stack fixed h =
    inr (inl (digit_text d ∷ imm_text i, refl, (d, range, octal-test d range, (imm_text i, refl, imm-text (full k m c z b p l w (rule.Digit d) false imm.None) i h))))
modrm-complete Vex m c z b p l w (rule.Fixed f) st i range stack fixed h = absurd cc
modrm-complete Legacy m c z b p l w (rule.Fixed f) st i range stack fixed h =
    inr (inr (
      byte_text f ++ (stack_text st ++ imm_text i),
      refl,
      (
        f / 16,
        register-test f range,
        high-small f (byte-small f range),
        (
          digit_text (f % 16) ∷ (stack_text st ++ imm_text i),
          refl,
          (
            f % 16,
            low-test f,
            low-small f,
            (
              stack_text st ++ imm_text i,
              refl,
              subst (λ x. stack_texts (full Legacy m c z b p l w (rule.Fixed x) false imm.None) x (stack_text st ++ imm_text i) (full Legacy m c z b p l w (rule.Fixed f) st i)) (sym (whole-byte f))
                  (stack-complete (full Legacy m c z b p l w (rule.Fixed f) false imm.None) f st i stack h),
            ),
          ),
        ),
      ),
    ))

plus-complete : (k : RowKind) (p : PlusWord) (L : PlusWord → Language) (text : List ℕ) (s : RowShape) → plus_allowed k p ≡ true → L p text s → one_of (plus_words k) L text s
plus-complete Legacy added.None L text s e h = inl h
plus-complete Legacy _ L text s e h = search (inl, inr, h) depth 12
plus-complete Vex added.None L text s e h = inl h
plus-complete Vex _ L text s e h = absurd cc

opcode-test : (k : RowKind) (m : Map) (c : Class) (z : SizeWord) (l : LBit) (w : WBit) (b : ℕ) → opcode_allowed k m b ≡ true
    → opcode_digit (full k m c z 0 added.None l w rule.No false imm.None) (b / 16) (b % 16) ≡ true
opcode-test Legacy m c z l w b h =
    and_from (nat_lt (b % 16) 16) (is_opcode_of_map m ((b / 16) * 16 + b % 16)) (low-test b) (ap (λ x. is_opcode_of_map m x) (whole-byte b) ∙ h)
opcode-test Vex m c z l w b h = and_from (nat_lt (b % 16) 16) true (low-test b) refl

-- from the opcode byte on
opcode-complete : (k : RowKind) (m : Map) (c : Class) (z : SizeWord) (b : ℕ) (p : PlusWord) (l : LBit) (w : WBit) (r : ModRmRule) (st : Bool) (i : ImmWord)
    → b < 256 → opcode_allowed k m b ≡ true → plus_allowed k p ≡ true → is_rule_in_range r ≡ true → is_stack_proper r st ≡ true → fixed_allowed k r ≡ true → imm_allowed k i ≡ true
    → opcode_texts (full k m c z 0 added.None l w rule.No false imm.None) (byte_text b ++ (plus_text p ++ (modrm_text r ++ (stack_text st ++ imm_text i)))) (full k m c z b p l w r st i)
opcode-complete k m c z b p l w r st i small opcode plus range stack fixed h =
    let rest : List ℕ = modrm_text r ++ (stack_text st ++ imm_text i) in
    let later : plus_texts (full k m c z b added.None l w rule.No false imm.None) (plus_text p ++ rest) (full k m c z b p l w r st i) =
    plus-complete k p (λ x. word_then (plus_text x) (modrm_texts (full k m c z b x l w rule.No false imm.None))) (plus_text p ++ rest) (full k m c z b p l w r st i) plus
    (rest, refl, modrm-complete k m c z b p l w r st i range stack fixed h)
    in (
      b / 16,
      high-test b small,
      high-small b small,
      (
        digit_text (b % 16) ∷ (plus_text p ++ rest),
        refl,
        (
          b % 16,
          opcode-test k m c z l w b opcode,
          low-small b,
          (
            plus_text p ++ rest,
            refl,
            subst (λ x. plus_texts (full k m c z x added.None l w rule.No false imm.None) (plus_text p ++ rest) (full k m c z b p l w r st i)) (sym (whole-byte b)) later,
          ),
        ),
      ),
    )

in-classes : (v : Class) (L : Class → Language) (text : List ℕ) (s : RowShape) → L v text s → one_of classes L text s
in-classes class.Any L text s h = inl h
in-classes _ L text s h = search (inl, inr, h) depth 12

in-sizes : (v : SizeWord) (L : SizeWord → Language) (text : List ℕ) (s : RowShape) → L v text s → one_of size_words L text s
in-sizes word.None L text s h = inl h
in-sizes _ L text s h = search (inl, inr, h) depth 12

in-maps : (v : Map) (L : Map → Language) (text : List ℕ) (s : RowShape) → L v text s → one_of maps L text s
in-maps map.One L text s h = inl h
in-maps _ L text s h = search (inl, inr, h) depth 12

in-vex_maps : (v : Map) (L : Map → Language) (text : List ℕ) (s : RowShape) → not (is_one_byte_map v) ≡ true → L v text s → one_of vex_maps L text s
in-vex_maps map.One L text s e h = absurd cc
in-vex_maps map.M0f L text s e h = inl h
in-vex_maps _ L text s e h = search (inl, inr, h) depth 12

in-vex_classes : (v : Class) (L : Class → Language) (text : List ℕ) (s : RowShape) → is_vex_class v ≡ true → L v text s → one_of vex_classes L text s
in-vex_classes class.Any L text s e h = absurd cc
in-vex_classes class.Nfx L text s e h = absurd cc
in-vex_classes class.Nf3 L text s e h = absurd cc
in-vex_classes class.Np L text s e h = inl h
in-vex_classes _ L text s e h = search (inl, inr, h) depth 12

in-w : (v : WBit) (L : WBit → Language) (text : List ℕ) (s : RowShape) → not (lacks_w v) ≡ true → L v text s → one_of w_words L text s
in-w wbit.None L text s e h = absurd cc
in-w wbit.W0 L text s e h = inl h
in-w _ L text s e h = search (inl, inr, h) depth 12

in-l : (v : LBit) (L : LBit → Language) (text : List ℕ) (s : RowShape) → not (lacks_l v) ≡ true → L v text s → one_of l_words L text s
in-l lbit.None L text s e h = absurd cc
in-l lbit.L128 L text s e h = inl h
in-l _ L text s e h = search (inl, inr, h) depth 12

legacy-complete : (m : Map) (c : Class) (z : SizeWord) (b : ℕ) (p : PlusWord) (r : ModRmRule) (st : Bool) (i : ImmWord)
    → b < 256 → is_opcode_of_map m b ≡ true → is_rule_in_range r ≡ true → is_stack_proper r st ≡ true → imm_allowed Legacy i ≡ true
    → (class_part (blank Legacy)).texts (legacy_text (full Legacy m c z b p lbit.None wbit.None r st i)) (full Legacy m c z b p lbit.None wbit.None r st i)
unfolding legacy_text opcode_part modrm_part
legacy-complete m c z b p r st i small opcode range stack h =
    let s : RowShape = full Legacy m c z b p lbit.None wbit.None r st i in
    let t : List ℕ = byte_text b ++ (plus_text p ++ (modrm_text r ++ (stack_text st ++ imm_text i))) in
    in-classes c (λ x. word_then (class_text x) (size_part (record (blank Legacy) { class = x })).texts) (class_text c ++ (size_text z ++ (map_text m ++ t))) s (
      size_text z ++ (map_text m ++ t),
      refl,
      in-sizes z (λ x. word_then (size_text x) (map_part (record (blank Legacy) { class = c; size_word = x })).texts) (size_text z ++ (map_text m ++ t)) s (
        map_text m ++ t,
        refl,
        in-maps m (λ x. word_then (map_text x) (opcode_texts (record (blank Legacy) { class = c; size_word = z; map = x }))) (map_text m ++ t) s
            (t, refl, opcode-complete Legacy m c z b p lbit.None wbit.None r st i small opcode refl range stack refl h),
      ),
    )

vex-complete : (m : Map) (c : Class) (b : ℕ) (l : LBit) (w : WBit) (r : ModRmRule) (st : Bool) (i : ImmWord)
    → b < 256 → is_rule_in_range r ≡ true → is_stack_proper r st ≡ true → fixed_allowed Vex r ≡ true → not (lacks_l l) ≡ true → not (lacks_w w) ≡ true
    → is_vex_class c ≡ true → not (is_one_byte_map m) ≡ true
    → vex_texts (vex_text (full Vex m c word.None b added.None l w r st i)) (full Vex m c word.None b added.None l w r st i)
unfolding vex_text opcode_part modrm_part
vex-complete m c b l w r st i small range stack fixed has_l has_w vex_class own =
    let s : RowShape = full Vex m c word.None b added.None l w r st i in
    let t : List ℕ = byte_text b ++ (plus_text added.None ++ (modrm_text r ++ (stack_text st ++ imm_text i))) in
    let tw : List ℕ = w_text w ++ t in
    let tm : List ℕ = vex_map_text m ++ tw in
    let tc : List ℕ = pp_text c ++ tm in (
      l_text l ++ tc,
      refl,
      in-l l (λ x. word_then (l_text x) (pp_part (record (blank Vex) { l = x })).texts) (l_text l ++ tc) s has_l (
        tc,
        refl,
        in-vex_classes c (λ x. word_then (pp_text x) (vex_map_part (record (blank Vex) { l = l; class = x })).texts) tc s vex_class (
          tm,
          refl,
          in-vex_maps m (λ x. word_then (vex_map_text x) (w_part (record (blank Vex) { l = l; class = c; map = x })).texts) tm s own (
            tw,
            refl,
            in-w w (λ x. word_then (w_text x) (opcode_texts (record (blank Vex) { l = l; class = c; map = m; w = x }))) tw s has_w
                (t, refl, opcode-complete Vex m c word.None b added.None l w r st i small refl refl range stack fixed refl),
          ),
        ),
      ),
    )

-- ---- whole shapes

-- the parts of a proper legacy shape
pub from-legacy : (s : RowShape) → is_legacy_proper s ≡ true → (lacks_l s.l ≡ true) × (lacks_w s.w ≡ true) × (imm_allowed Legacy s.imm ≡ true) × (is_opcode_of_map s.map s.opcode ≡ true)
unfolding is_legacy_proper
from-legacy s h =
    let r1 = (and_parts (lacks_l s.l) (lacks_w s.w && (not (is_four_bits s.imm) && is_opcode_of_map s.map s.opcode)) h).1 in
    let r2 = (and_parts (lacks_w s.w) (not (is_four_bits s.imm) && is_opcode_of_map s.map s.opcode) r1).1 in (
      (and_parts (lacks_l s.l) (lacks_w s.w && (not (is_four_bits s.imm) && is_opcode_of_map s.map s.opcode)) h).0,
      (and_parts (lacks_w s.w) (not (is_four_bits s.imm) && is_opcode_of_map s.map s.opcode) r1).0,
      (and_parts (not (is_four_bits s.imm)) (is_opcode_of_map s.map s.opcode) r2).0,
      (and_parts (not (is_four_bits s.imm)) (is_opcode_of_map s.map s.opcode) r2).1,
    )

-- the parts of a proper VEX shape
pub record VexParts (s : RowShape) : Type 0 where
  pub has_l : not (lacks_l s.l) ≡ true
  pub has_w : not (lacks_w s.w) ≡ true
  pub vex_class : is_vex_class s.class ≡ true
  pub size : is_no_size_word s.size_word ≡ true
  pub plus : is_no_plus_word s.plus_word ≡ true
  pub fixed : not (is_fixed s.modrm) ≡ true
  pub own : not (is_one_byte_map s.map) ≡ true

-- the parts of a proper VEX shape
pub from-vex : (s : RowShape) → is_vex_proper s ≡ true → VexParts s
unfolding is_vex_proper
from-vex s h =
    let t6 : Bool = not (is_fixed s.modrm) && not (is_one_byte_map s.map) in
    let t5 : Bool = is_no_plus_word s.plus_word && t6 in
    let t4 : Bool = is_no_size_word s.size_word && t5 in
    let t3 : Bool = is_vex_class s.class && t4 in
    let t2 : Bool = not (lacks_w s.w) && t3 in
    let r2 = (and_parts (not (lacks_l s.l)) t2 h).1 in
    let r3 = (and_parts (not (lacks_w s.w)) t3 r2).1 in
    let r4 = (and_parts (is_vex_class s.class) t4 r3).1 in
    let r5 = (and_parts (is_no_size_word s.size_word) t5 r4).1 in
    let r6 = (and_parts (is_no_plus_word s.plus_word) t6 r5).1 in
    record {
      has_l = (and_parts (not (lacks_l s.l)) t2 h).0;
      has_w = (and_parts (not (lacks_w s.w)) t3 r2).0;
      vex_class = (and_parts (is_vex_class s.class) t4 r3).0;
      size = (and_parts (is_no_size_word s.size_word) t5 r4).0;
      plus = (and_parts (is_no_plus_word s.plus_word) t6 r5).0;
      fixed = (and_parts (not (is_fixed s.modrm)) (not (is_one_byte_map s.map)) r6).0;
      own = (and_parts (not (is_fixed s.modrm)) (not (is_one_byte_map s.map)) r6).1;
    }

-- a shape that lacks L has none
pub no-l : (l : LBit) → lacks_l l ≡ true → l ≡ lbit.None
no-l lbit.None h = refl
no-l _ h = absurd cc

-- a shape that lacks W has none
pub no-w : (w : WBit) → lacks_w w ≡ true → w ≡ wbit.None
no-w wbit.None h = refl
no-w _ h = absurd cc

-- a shape without a size word has none
pub no-size : (z : SizeWord) → is_no_size_word z ≡ true → z ≡ word.None
no-size word.None h = refl
no-size _ h = absurd cc

-- a shape without an added register has none
pub no-plus : (p : PlusWord) → is_no_plus_word p ≡ true → p ≡ added.None
no-plus added.None h = refl
no-plus _ h = absurd cc

-- a number that tests below 256 is below 256
pub small-opcode : (b : ℕ) → nat_lt b 256 ≡ true → b < 256
small-opcode b h = grind arith

complete-by : (k : RowKind) (m : Map) (c : Class) (z : SizeWord) (b : ℕ) (p : PlusWord) (l : LBit) (w : WBit) (r : ModRmRule) (st : Bool) (i : ImmWord)
    → b < 256 → is_rule_in_range r ≡ true → is_stack_proper r st ≡ true
    → (elim k as (λ _. Bool) [ Legacy ↦ is_legacy_proper (full k m c z b p l w r st i) | Vex ↦ is_vex_proper (full k m c z b p l w r st i) ]) ≡ true
    → all_texts (notation (full k m c z b p l w r st i)) (full k m c z b p l w r st i)
unfolding notation
complete-by Legacy m c z b p l w r st i small range stack h =
    let s : RowShape = full Legacy m c z b p l w r st i in
    let f = from-legacy s h in
    let P : LBit → WBit → Type 0 = λ x y. (class_part (blank Legacy)).texts (legacy_text (full Legacy m c z b p x y r st i)) (full Legacy m c z b p x y r st i) in
    let base : P lbit.None wbit.None = legacy-complete m c z b p r st i small f.3 range stack f.2 in
    inl (subst (λ x. P x w) (sym (no-l l f.0)) (subst (λ y. P lbit.None y) (sym (no-w w f.1)) base))
complete-by Vex m c z b p l w r st i small range stack h =
    let s : RowShape = full Vex m c z b p l w r st i in
    let f = from-vex s h in
    let P : SizeWord → PlusWord → Type 0 = λ x y. vex_texts (vex_text (full Vex m c x b y l w r st i)) (full Vex m c x b y l w r st i) in
    let base : P word.None added.None = vex-complete m c b l w r st i small range stack f.fixed f.has_l f.has_w f.vex_class f.own in
    inr (subst (λ x. P x p) (sym (no-size z f.size)) (subst (λ y. P word.None y) (sym (no-plus p f.plus)) base))

complete-proper : (s : RowShape) → is_proper s ≡ true → all_texts (notation s) s
unfolding is_proper
complete-proper s h =
    let kind-test : Bool = elim s.kind as (λ _. Bool) [ Legacy ↦ is_legacy_proper s | Vex ↦ is_vex_proper s ] in
    let t2 : Bool = is_stack_proper s.modrm s.stack && kind-test in
    let t1 : Bool = is_rule_in_range s.modrm && t2 in
    let r1 = (and_parts (nat_lt s.opcode 256) t1 h).1 in
    let r2 = (and_parts (is_rule_in_range s.modrm) t2 r1).1 in
    complete-by s.kind s.map s.class s.size_word s.opcode s.plus_word s.l s.w s.modrm s.stack s.imm
    (small-opcode s.opcode (and_parts (nat_lt s.opcode 256) t1 h).0) (and_parts (is_rule_in_range s.modrm) t2 r1).0
    (and_parts (is_stack_proper s.modrm s.stack) kind-test r2).0 (and_parts (is_stack_proper s.modrm s.stack) kind-test r2).1

-- a shape's text is a text of the languages
pub complete : (text : List ℕ) (s : RowShape) → IsTextOf text s → all_texts text s
complete text s h = subst (λ x. all_texts x s) h.written (complete-proper s h.proper)
