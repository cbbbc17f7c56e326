-- What the conditions on ModRM say of its byte.
use Rattle.std.proofs.Common.{◌≡◌, ℕ, ◌+◌, ◌*◌, ◌/◌, ◌%◌, ◌<◌, ◌≤◌, Bool, true, false, not, ◌&&◌, Some, refl, ap, ◌∙◌, arith, eq-eqb, nat_le, nat_lt, leb-true}
use Rattle.std.proofs.lemmas.Bool.{and_parts, eqb-true}
use Rattle.std.specs.Prelude.{◌==◌}
use Rattle.instruction_parts.specs.declared.row_types.Plus.{Plus}
use Rattle.instruction_parts.specs.declared.row_types.Plus.TheVariants as plus
use Rattle.instruction_parts.specs.declared.row_types.ModRmRule.{ModRmRule}
use Rattle.instruction_parts.specs.declared.row_types.ModRmRule.TheVariants as rule
use Rattle.instruction_parts.specs.declared.row_types.Place.{Place}
use Rattle.instruction_parts.specs.declared.row_types.Place.TheVariants as place
use Rattle.instruction_parts.specs.declared.spelling.ModRm.{ModRm}
use Rattle.instruction_parts.specs.Bytes.{modrm_byte}
use Rattle.row_fit.specs.Fits.{modrm_rule_fits, place_allows, modrm_in_range}
use Rattle.row_fit.specs.Sound.{rule_in_range}
use Rattle.instruction_parts.specs.RowFields.Holds.{byte_holds, place_holds, reg_holds, rm_holds}
use borrow.Author.Tests.{ltb-true}

-- the four conditions on a byte, which is there or not
pub record ByteMeets (r : ModRmRule) (p : Plus) (where_ : Place) (present : Bool) (byte : ℕ) : Type 0 where
  pub is_there : byte_holds r present ≡ true
  pub place_is : place_holds r where_ (byte / 64 == 3) ≡ true
  pub reg_is : reg_holds r (byte / 8 % 8) ≡ true
  pub rm_is : rm_holds r p (byte % 8) ≡ true

-- a row without a ModRM asks nothing of the byte
pub no_rule : (p : Plus) (where_ : Place) (present : Bool) (byte : ℕ) → ByteMeets rule.No p where_ present byte
no_rule p where_ present byte = record { is_there = refl; place_is = refl; reg_is = refl; rm_is = refl }

mode-of : (m : ModRm) → m.mode3 < 4 → m.reg < 8 → m.rm < 8 → modrm_byte m / 64 ≡ m.mode3
mode-of m a b c = omega arith

reg-of : (m : ModRm) → m.mode3 < 4 → m.reg < 8 → m.rm < 8 → modrm_byte m / 8 % 8 ≡ m.reg
reg-of m a b c = omega arith

rm-of : (m : ModRm) → m.rm < 8 → modrm_byte m % 8 ≡ m.rm
rm-of m c = omega arith

less_is_not : (n : ℕ) → nat_lt n 3 ≡ true → not (n == 3) ≡ true
less_is_not n h = by_cases (n == 3) refl
  where
    by_cases : (b : Bool) → (n == 3) ≡ b → not b ≡ true
    by_cases false e = refl
    by_cases true e = let lt : n < 3 = ltb-true n 3 h in let is : n ≡ 3 = eqb-true n 3 e in absurd (omega (arith, lt, is))

place-met : (x : Place) (m : ModRm) (n : ℕ) → n ≡ m.mode3 → place_allows x m ≡ true → place_holds rule.Any x (n == 3) ≡ true
unfolding place_allows
place-met place.Any m n e h = refl
place-met place.Memory m n e h = ap (λ k. not (k == 3)) e ∙ less_is_not m.mode3 h
place-met place.Register m n e h = ap (λ k. k == 3) e ∙ h

place-digit : (x : Place) (d : ℕ) (b : Bool) → place_holds rule.Any x b ≡ true → place_holds (rule.Digit d) x b ≡ true
place-digit place.Any d b h = refl
place-digit place.Memory d b h = h
place-digit place.Register d b h = h

fixed-range : (b : ℕ) → rule_in_range (rule.Fixed b) ≡ true → (192 ≤ b) × (b < 256)
unfolding rule_in_range
fixed-range b h = (leb-true 192 b (and_parts (nat_le 192 b) (nat_lt b 256) h).0, ltb-true b 256 (and_parts (nat_le 192 b) (nat_lt b 256) h).1)

whole-byte : (p : Plus) (x : Place) (m : ModRm) (b : ℕ) → m.mode3 < 4 → m.reg < 8 → m.rm < 8 → 192 ≤ b → b < 256 → modrm_byte m ≡ b
    → rm_holds (rule.Fixed b) p (modrm_byte m % 8) ≡ true → ByteMeets (rule.Fixed b) p x true (modrm_byte m)
whole-byte p x m b hm hr hs low high e rm =
    record {
      is_there = refl;
      place_is = eq-eqb (modrm_byte m / 64) 3 (omega (arith, e));
      reg_is = eq-eqb (modrm_byte m / 8 % 8) (b / 8 % 8) (ap (λ n. n / 8 % 8) e);
      rm_is = rm;
    }

stack-byte : (x : Place) (m : ModRm) (b : ℕ) → m.mode3 < 4 → m.reg < 8 → m.rm < 8 → 192 ≤ b → b < 256 → m.mode3 * 64 + m.reg * 8 ≡ b
    → ByteMeets (rule.Fixed b) plus.Stack x true (modrm_byte m)
stack-byte x m b hm hr hs low high e =
    record {
      is_there = refl;
      place_is = eq-eqb (modrm_byte m / 64) 3 (omega (arith, e));
      reg_is = eq-eqb (modrm_byte m / 8 % 8) (b / 8 % 8) (omega (arith, e));
      rm_is = refl;
    }

-- a ModRM that fits meets them by its byte
pub byte-met : (p : Plus) (r : ModRmRule) (x : Place) (m : ModRm) → rule_in_range r ≡ true → modrm_in_range (Some m) ≡ true
    → modrm_rule_fits p r (Some m) ≡ true → place_allows x m ≡ true → ByteMeets r p x true (modrm_byte m)
unfolding modrm_rule_fits modrm_in_range
byte-met p r x m range fields h at = by_rule p r range h
  where
    hm : m.mode3 < 4
    hm = ltb-true m.mode3 4 (and_parts (nat_lt m.mode3 4) (nat_lt m.reg 8 && nat_lt m.rm 8) fields).0

    later : (nat_lt m.reg 8 && nat_lt m.rm 8) ≡ true
    later = (and_parts (nat_lt m.mode3 4) (nat_lt m.reg 8 && nat_lt m.rm 8) fields).1

    hr : m.reg < 8
    hr = ltb-true m.reg 8 (and_parts (nat_lt m.reg 8) (nat_lt m.rm 8) later).0

    hs : m.rm < 8
    hs = ltb-true m.rm 8 (and_parts (nat_lt m.reg 8) (nat_lt m.rm 8) later).1

    placed : place_holds rule.Any x (modrm_byte m / 64 == 3) ≡ true
    placed = place-met x m (modrm_byte m / 64) (mode-of m hm hr hs) at

    by_rule : (p : Plus) (r : ModRmRule) → rule_in_range r ≡ true → modrm_rule_fits p r (Some m) ≡ true → ByteMeets r p x true (modrm_byte m)
    by_rule p rule.No range h = no_rule p x true (modrm_byte m)
    by_rule p rule.Any range h = record { is_there = refl; place_is = placed; reg_is = refl; rm_is = refl }
    by_rule p (rule.Digit d) range h =
        record {
          is_there = refl;
          place_is = place-digit x d (modrm_byte m / 64 == 3) placed;
          reg_is = ap (λ n. n == d) (reg-of m hm hr hs) ∙ h;
          rm_is = refl;
        }
    by_rule plus.No (rule.Fixed b) range h =
        let lim = fixed-range b range in
        let e : modrm_byte m ≡ b = eqb-true (modrm_byte m) b h in
        whole-byte plus.No x m b hm hr hs lim.0 lim.1 e (eq-eqb (modrm_byte m % 8) (b % 8) (ap (λ n. n % 8) e))
    by_rule plus.Register (rule.Fixed b) range h =
        let lim = fixed-range b range in
        let e : modrm_byte m ≡ b = eqb-true (modrm_byte m) b h in
        whole-byte plus.Register x m b hm hr hs lim.0 lim.1 e (eq-eqb (modrm_byte m % 8) (b % 8) (ap (λ n. n % 8) e))
    by_rule plus.Stack (rule.Fixed b) range h =
        let lim = fixed-range b range in
        stack-byte x m b hm hr hs lim.0 lim.1 (eqb-true (m.mode3 * 64 + m.reg * 8) b h)
