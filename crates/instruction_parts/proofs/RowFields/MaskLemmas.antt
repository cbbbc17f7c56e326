-- The masks of a row say what its conditions say.
use Rattle.std.proofs.Common.{◌≡◌, ℕ, ◌/◌, ◌%◌, Bool, true, false, ◌&&◌, refl, ap, sym, ◌∙◌}
use Rattle.std.specs.Prelude.{◌==◌, is_some, if◌then◌else◌}
use Rattle.instruction_parts.specs.declared.row_types.Row.{Row}
use Rattle.instruction_parts.specs.declared.row_types.Plus.{Plus}
use Rattle.instruction_parts.specs.declared.row_types.Plus.TheVariants as plus
use Rattle.instruction_parts.specs.declared.row_types.ModRmRule.{ModRmRule}
use Rattle.instruction_parts.specs.declared.row_types.ModRmRule.TheVariants as rule
use Rattle.x86_values.specs.declared.Rep.{Rep}
use Rattle.x86_values.specs.declared.Rep.TheVariants as rep
use Rattle.x86_values.specs.declared.Bits.{Bits}
use Rattle.x86_values.specs.declared.Bits.TheVariants.{B16, B32, B64}
use Rattle.instruction_parts.specs.Counting.{is_64}
use Rattle.instruction_parts.specs.Sizes.{exists_in, operand_size, has_bang}
use Rattle.instruction_parts.specs.declared.row_fields.Fields.{Fields}
use Rattle.instruction_parts.specs.RowFields.Holds.{holds, stands_in, map_number, byte_of, byte_holds, prefix_of, prefix_holds, place_holds, reg_holds, rm_holds, size_allows, size_holds, w_holds, l_holds, rex_b_holds}
use Rattle.instruction_parts.specs.Bytes.{bit}
use Rattle.x86_values.specs.Modes.{size_number}
use Rattle.instruction_parts.specs.RowFields.FieldNumbers.{plain_size}
use Rattle.instruction_parts.specs.RowFields.Masks.{nth, allows, meets, two, three, four, reg_mask, rm_mask, marked_size, size_mask, masks, values}

-- equal parts make equal conjunctions
pub both : {a b c d : Bool} → a ≡ b → c ≡ d → (a && c) ≡ (b && d)
both p q = cc

-- a conjunction with true is the other part
pub and-true : (a : Bool) → (a && true) ≡ a
and-true true = refl
and-true false = refl

unfoldable pick : Bool → Bool → Bool → Bool
pick x y true = y
pick x y false = x

two-any : (x y b : Bool) → allows (two x y) (bit b) ≡ pick x y b
unfolding allows two nth pick
two-any true true true = refl
two-any true true false = refl
two-any true false true = refl
two-any true false false = refl
two-any false true true = refl
two-any false true false = refl
two-any false false true = refl
two-any false false false = refl

pick-at : (g : Bool → Bool) (b : Bool) → pick (g false) (g true) b ≡ g b
unfolding pick
pick-at g true = refl
pick-at g false = refl

two-at : (g : Bool → Bool) (b : Bool) → allows (two (g false) (g true)) (bit b) ≡ g b
two-at g b = two-any (g false) (g true) b ∙ pick-at g b

three-0 : (a b c : Bool) → allows (three a b c) 0 ≡ a
unfolding allows three nth
three-0 true true true = refl
three-0 a b c = refl

three-1 : (a b c : Bool) → allows (three a b c) 1 ≡ b
unfolding allows three nth
three-1 true true true = refl
three-1 a b c = refl

three-2 : (a b c : Bool) → allows (three a b c) 2 ≡ c
unfolding allows three nth
three-2 true true true = refl
three-2 a b c = refl

four-0 : (a b c d : Bool) → allows (four a b c d) 0 ≡ a
unfolding allows four nth
four-0 true true true true = refl
four-0 a b c d = refl

four-1 : (a b c d : Bool) → allows (four a b c d) 1 ≡ b
unfolding allows four nth
four-1 true true true true = refl
four-1 a b c d = refl

four-2 : (a b c d : Bool) → allows (four a b c d) 2 ≡ c
unfolding allows four nth
four-2 true true true true = refl
four-2 a b c d = refl

four-3 : (a b c d : Bool) → allows (four a b c d) 3 ≡ d
unfolding allows four nth
four-3 true true true true = refl
four-3 a b c d = refl

prefix-at : (g : ℕ → Bool) (r : Rep) (s : Bool) → allows (four (g 0) (g 1) (g 2) (g 3)) (prefix_of r s) ≡ g (prefix_of r s)
prefix-at g rep.F3 s = four-2 (g 0) (g 1) (g 2) (g 3)
prefix-at g rep.F2 s = four-3 (g 0) (g 1) (g 2) (g 3)
prefix-at g rep.None true = four-1 (g 0) (g 1) (g 2) (g 3)
prefix-at g rep.None false = four-0 (g 0) (g 1) (g 2) (g 3)

three-at : (g : Bits → Bool) (n : Bits) → allows (three (g B16) (g B32) (g B64)) (size_number n) ≡ g n
unfolding size_number
three-at g B16 = three-0 (g B16) (g B32) (g B64)
three-at g B32 = three-1 (g B16) (g B32) (g B64)
three-at g B64 = three-2 (g B16) (g B32) (g B64)

-- what the row makes of the size by prefixes and mode is its operand size
marked-plain : (bits : Bits) (r : Row) (s w : Bool) → marked_size bits r (plain_size bits s w) ≡ operand_size bits r (is_64 bits && w) s
unfolding marked_size plain_size operand_size
marked-plain B16 r true w = refl
marked-plain B16 r false w = refl
marked-plain B32 r true w = refl
marked-plain B32 r false w = refl
marked-plain B64 r true true = by_bang (has_bang r) B64
  where
    by_bang : (b : Bool) (n : Bits) → n ≡ (if b then n else n)
    by_bang true n = refl
    by_bang false n = refl
marked-plain B64 r false true = by_bang (has_bang r) B64
  where
    by_bang : (b : Bool) (n : Bits) → n ≡ (if b then n else n)
    by_bang true n = refl
    by_bang false n = refl
marked-plain B64 r true false = refl
marked-plain B64 r false false = refl

size-at : (bits : Bits) (r : Row) (s w : Bool) → allows (size_mask bits r) (size_number (plain_size bits s w)) ≡ size_holds bits r s w
unfolding size_mask size_holds
size-at bits r s w =
    three-at (λ n. size_allows r.size (marked_size bits r n)) (plain_size bits s w)
    ∙ ap (λ n. size_allows r.size n) (marked-plain bits r s w)

reg-at : (r : ModRmRule) (n : ℕ) → allows (reg_mask r) n ≡ reg_holds r n
unfolding allows reg_mask
reg-at rule.No n = refl
reg-at rule.Any n = refl
reg-at (rule.Digit d) n = refl
reg-at (rule.Fixed b) n = refl

rm-at : (r : ModRmRule) (p : Plus) (n : ℕ) → allows (rm_mask r p) n ≡ rm_holds r p n
unfolding allows rm_mask
rm-at rule.No p n = refl
rm-at rule.Any p n = refl
rm-at (rule.Digit d) p n = refl
rm-at (rule.Fixed b) plus.No n = refl
rm-at (rule.Fixed b) plus.Register n = refl
rm-at (rule.Fixed b) plus.Stack n = refl

-- the row's conditions, by its masks
pub holds-masks : (bits : Bits) (r : Row) (f : Fields)
    → holds bits r f
    ≡ (stands_in r (map_number f.vex f.map) f.opcode && (exists_in bits r && meets (masks bits f.opcode r) (values bits f)))
unfolding holds masks values meets
holds-masks bits r f =
    both refl (both refl
    (both (sym (two-at (λ b. byte_holds r.modrm b) (is_some f.modrm)))
    (both (sym (prefix-at (λ p. prefix_holds r f.opcode p) f.rep f.size66))
    (both (sym (two-at (λ b. place_holds r.modrm r.place b) (byte_of f.modrm / 64 == 3)))
    (both (sym (reg-at r.modrm (byte_of f.modrm / 8 % 8)))
    (both (sym (rm-at r.modrm r.plus (byte_of f.modrm % 8)))
    (both (sym (size-at bits r f.size66 f.w))
    (both (sym (two-at (λ b. w_holds bits r b) f.w))
    (both (sym (two-at (λ b. l_holds r.l b) f.l))
    (sym (two-at (λ b. rex_b_holds r f.opcode b) f.rex_b) ∙ sym (and-true _)))))))))))
