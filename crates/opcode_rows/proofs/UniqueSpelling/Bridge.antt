-- Where a spelling fits a row, the row's conditions hold on its nine fields.
use Rattle.std.proofs.Common.{◌≡◌, ℕ, ◌<◌, Bool, true, false, not, ◌&&◌, ◌||◌, Option, Some, None, is_some, List, refl, ap, sym, ◌∙◌, subst, nat_lt, length, if◌then◌else◌, inl, inr}
use Rattle.std.specs.Prelude.{◌==◌, ◌⊎◌}
use Rattle.std.proofs.lemmas.Bool.{and_from, cases_Bool, and_parts}
use Rattle.x86_values.specs.declared.Bits.{Bits}
use Rattle.instruction_parts.specs.declared.row_types.Row.{Row}
use Rattle.instruction_parts.specs.declared.row_types.Map.{Map}
use Rattle.instruction_parts.specs.declared.row_types.Class.{Class}
use Rattle.instruction_parts.specs.declared.row_types.Class.TheVariants as class
use Rattle.instruction_parts.specs.declared.row_types.Plus.{Plus}
use Rattle.instruction_parts.specs.declared.row_types.Plus.TheVariants as plus
use Rattle.instruction_parts.specs.declared.row_types.ModRmRule.{ModRmRule}
use Rattle.instruction_parts.specs.declared.row_types.ModRmRule.TheVariants as rule
use Rattle.instruction_parts.specs.declared.spelling.Vex.{Vex}
use Rattle.instruction_parts.specs.declared.spelling.ModRm.{ModRm}
use Rattle.instruction_parts.specs.declared.spelling.Spelling.{Spelling}
use Rattle.instruction_parts.specs.declared.spelling.PrefixState.{PrefixState}
use Rattle.instruction_parts.specs.Counting.{is_64, rex_bit, counting_rex, counting_repeat, has_66}
use Rattle.instruction_parts.specs.Sizes.{exists_in, is_vex_row, operand_size, bit_b, bit_w, state_size}
use Rattle.instruction_parts.specs.Bytes.{front_bytes, modrm_byte, state_of, state_from, spelled_map}
use Rattle.row_fit.specs.Fits.{fits, class_fits, opcode_and_modrm_fit, opcode_fits, modrm_rule_fits, place_fits, place_allows, sizes_fit, size_fits, w_fits, l_fits, registers_fit, destination_fits, gather_fits, reads_by, is_gather, is_nop_byte, nop_fits, is_map_one, is_repeat_f3, modrm_in_range, fields_in_range, vex_in_range, are_bytes}
use borrow.Author.Tests.{ltb-true}
use Rattle.row_fit.specs.Sound.{sound, kind_is_proper, legacy_is_proper, vex_is_proper, is_no_w, is_no_l, is_size_of_vex, rule_in_range}
use Rattle.row_fit.proofs.FitLaws.{all_conditions, modrm_range}
use Rattle.row_fit.proofs.SoundLaws.{sound_conditions}
use Rattle.instruction_parts.specs.RowFields.Holds.{holds, at_90, adds_register, prefix_of, prefix_holds, class_allows, rex_b_at_90, rex_b_holds, byte_of, size_allows, size_holds, w_as_size, w_allows, w_holds, l_holds}
use Rattle.opcode_rows.specs.UniqueSpelling.FieldsOf.{fields_of, repeat_of, repeat_of_pp, size66_of, w_of, l_of}
use Rattle.opcode_rows.proofs.Standing.{VexSays, vex-says, stands, opcode-parts}
use Rattle.opcode_rows.proofs.UniqueSpelling.Parts.{nop-byte, legacy-class, vex-class, nf3, rex-64, size-allowed, size-of_vex, w-as_size, w-of_legacy, w-of_vex, l-of_legacy, l-of_vex}
use Rattle.opcode_rows.proofs.UniqueSpelling.ModRmParts.{ByteMeets, no_rule, byte-met}

-- ---- where the row stands

-- ---- the opcode byte 90

at_90-is : (row : Row) (o : ℕ) → at_90 row o ≡ is_nop_byte row o
at_90-is row o = nop-byte row.kind row.map (o == 0x90)

-- what the byte asks: XCHG allows no F3 and needs B, NOP needs B clear
record Nop (row : Row) (o : ℕ) (r : Bool) (prefix : ℕ) : Type 0 where
  no_f3 : not ((at_90 row o && adds_register row.plus) && (prefix == 2)) ≡ true
  b_is : rex_b_holds row o r ≡ true

nop-elsewhere : (row : Row) (o : ℕ) (r : Bool) (prefix : ℕ) → at_90 row o ≡ false → Nop row o r prefix
unfolding rex_b_holds
nop-elsewhere row o r prefix e =
    record {
      no_f3 = ap (λ b. not ((b && adds_register row.plus) && (prefix == 2))) e;
      b_is = ap (λ b. not b || rex_b_at_90 row.plus row.class r) e;
    }

abbrev nop_asks : Plus → Class → Bool → Bool → Bool
nop_asks p c r f = elim p [ plus.Register ↦ r && f | _ ↦ elim c [ class.F3 ↦ true | _ ↦ not r ] ]

asks-f3 : (p : Plus) (c : Class) (r f : Bool) (prefix : ℕ) → (f ≡ true → not (prefix == 2) ≡ true) → nop_asks p c r f ≡ true
    → not ((true && adds_register p) && (prefix == 2)) ≡ true
asks-f3 plus.Register c r f prefix means h = means (and_parts r f h).1
asks-f3 plus.No c r f prefix means h = refl
asks-f3 plus.Stack c r f prefix means h = refl

asks-b : (p : Plus) (c : Class) (r f : Bool) → nop_asks p c r f ≡ true → rex_b_at_90 p c r ≡ true
asks-b plus.Register c r f h = (and_parts r f h).0
asks-b plus.No class.F3 r f h = refl
asks-b plus.No class.Any r f h = h
asks-b plus.No class.Np r f h = h
asks-b plus.No class.Nfx r f h = h
asks-b plus.No class.Nf3 r f h = h
asks-b plus.No class.P66 r f h = h
asks-b plus.No class.F2 r f h = h
asks-b plus.Stack class.F3 r f h = refl
asks-b plus.Stack class.Any r f h = h
asks-b plus.Stack class.Np r f h = h
asks-b plus.Stack class.Nfx r f h = h
asks-b plus.Stack class.Nf3 r f h = h
asks-b plus.Stack class.P66 r f h = h
asks-b plus.Stack class.F2 r f h = h

nop-there : (row : Row) (o : ℕ) (r f : Bool) (prefix : ℕ) → at_90 row o ≡ true → (f ≡ true → not (prefix == 2) ≡ true)
    → nop_asks row.plus row.class r f ≡ true → Nop row o r prefix
unfolding rex_b_holds
nop-there row o r f prefix e means h =
    record {
      no_f3 = ap (λ b. not ((b && adds_register row.plus) && (prefix == 2))) e ∙ asks-f3 row.plus row.class r f prefix means h;
      b_is = ap (λ b. not b || rex_b_at_90 row.plus row.class r) e ∙ asks-b row.plus row.class r f h;
    }

vex-elsewhere : (row : Row) (o : ℕ) → is_vex_row row ≡ true → at_90 row o ≡ false
vex-elsewhere row o h = at_90-is row o ∙ ap (λ b. not b && (is_map_one row.map && (o == 0x90))) h

or_left_false : (a b : Bool) → (not a || b) ≡ true → a ≡ true → b ≡ true
or_left_false true b h e = h
or_left_false false b h e = cc

-- ---- the parts of a state

-- what the conditions of a fit say of one row, over the parts of its state
record Said (bits : Bits) (row : Row) (ps : List ℕ) (vex : Option Vex) (o : ℕ) : Type 0 where
  class_is : class_allows row.class (prefix_of (repeat_of vex (counting_repeat ps)) (size66_of vex (has_66 ps))) ≡ true
  size_is : size_holds bits row (size66_of vex (has_66 ps)) (w_of vex (counting_rex bits ps)) ≡ true
  w_is : w_holds bits row (w_of vex (counting_rex bits ps)) ≡ true
  l_is : l_holds row.l (l_of vex) ≡ true
  nop_is : Nop row o (rex_bit 0 (counting_rex bits ps)) (prefix_of (repeat_of vex (counting_repeat ps)) (size66_of vex (has_66 ps)))

no_w_of : (row : Row) → legacy_is_proper row ≡ true → (is_no_w row.w ≡ true) × (is_no_l row.l ≡ true)
unfolding legacy_is_proper
no_w_of row h = ((and_parts (is_no_w row.w) _ h).0, (and_parts (is_no_l row.l) _ (and_parts (is_no_w row.w) _ h).1).0)

size_of_vex : (row : Row) → vex_is_proper row ≡ true → is_size_of_vex row.size ≡ true
unfolding vex_is_proper
size_of_vex row h = (and_parts (is_size_of_vex row.size) _ (and_parts _ _ (and_parts (not (is_no_l row.l)) _ (and_parts (not (is_no_w row.w)) _ h).1).1).1).0

if-true : {A : Type 0} (b : Bool) (x y : A) → b ≡ true → (if b then x else y) ≡ x
if-true b x y e = rw e refl

if-false : {A : Type 0} (b : Bool) (x y : A) → b ≡ false → (if b then x else y) ≡ y
if-false b x y e = rw e refl

proper-legacy : (row : Row) → kind_is_proper row ≡ true → is_vex_row row ≡ false → legacy_is_proper row ≡ true
unfolding kind_is_proper
proper-legacy row h e = sym (if-false (is_vex_row row) (vex_is_proper row) (legacy_is_proper row) e) ∙ h

proper-vex : (row : Row) → kind_is_proper row ≡ true → is_vex_row row ≡ true → vex_is_proper row ≡ true
unfolding kind_is_proper
proper-vex row h e = sym (if-true (is_vex_row row) (vex_is_proper row) (legacy_is_proper row) e) ∙ h

said-legacy : (bits : Bits) (row : Row) (ps : List ℕ) (used : ℕ) (map : Map) (o : ℕ) → is_vex_row row ≡ false → kind_is_proper row ≡ true
    → class_fits row (state_from bits ps used None map o) ≡ true → sizes_fit bits row (state_from bits ps used None map o) ≡ true
    → (is_nop_byte row o ≡ true → nop_fits bits row (state_from bits ps used None map o) ≡ true)
    → Said bits row ps None o
unfolding class_fits sizes_fit state_from state_size bit_w bit_b nop_fits size_holds w_holds
said-legacy bits row ps used map o legacy proper class sizes nop =
    let parts = no_w_of row (proper-legacy row proper legacy) in
    let rex : Option ℕ = counting_rex bits ps in
    let plain : (is_64 bits && rex_bit 3 rex) ≡ rex_bit 3 rex = rex-64 bits ps 3 in
    let sized : size_fits bits row.size (operand_size bits row (rex_bit 3 rex) (has_66 ps)) (is_64 bits && rex_bit 3 rex) ≡ true =
    (and_parts (size_fits bits row.size (operand_size bits row (rex_bit 3 rex) (has_66 ps)) (is_64 bits && rex_bit 3 rex)) true sizes).0 in
    record {
      class_is = sym (legacy-class row.class (state_from bits ps used None map o)) ∙ class;
      size_is =
          ap (λ b. size_allows row.size (operand_size bits row b (has_66 ps))) plain
          ∙ size-allowed bits row.size (operand_size bits row (rex_bit 3 rex) (has_66 ps)) (is_64 bits && rex_bit 3 rex) sized;
      w_is = and_from (w_as_size row.size (is_64 bits && rex_bit 3 rex)) (w_allows row.size row.w (rex_bit 3 rex))
          (w-as_size bits row.size (operand_size bits row (rex_bit 3 rex) (has_66 ps)) (is_64 bits && rex_bit 3 rex) sized)
          (w-of_legacy row.size row.w (rex_bit 3 rex) parts.0);
      l_is = l-of_legacy row.l parts.1;
      nop_is = elim (cases_Bool (at_90 row o)) [
        | inl e ↦ nop-there row o (rex_bit 0 rex) (not (is_repeat_f3 (counting_repeat ps))) (prefix_of (counting_repeat ps) (has_66 ps)) e
            (λ h. sym (nf3 (has_66 ps) (counting_repeat ps)) ∙ h)
            (subst (λ b. nop_asks row.plus row.class b (not (is_repeat_f3 (counting_repeat ps))) ≡ true) (rex-64 bits ps 0)
            (nop (sym (at_90-is row o) ∙ e)))
        | inr e ↦ nop-elsewhere row o (rex_bit 0 rex) (prefix_of (counting_repeat ps) (has_66 ps)) e
      ];
    }

said-vex : (bits : Bits) (row : Row) (ps : List ℕ) (v : Vex) (used : ℕ) (map : Map) (o : ℕ) → is_vex_row row ≡ true → kind_is_proper row ≡ true
    → class_fits row (state_from bits ps used (Some v) map o) ≡ true → sizes_fit bits row (state_from bits ps used (Some v) map o) ≡ true
    → Said bits row ps (Some v) o
unfolding class_fits sizes_fit state_from state_size bit_w size_holds w_holds w_fits
said-vex bits row ps v used map o is proper class sizes =
    let size : Bits = operand_size bits row (rex_bit 3 (counting_rex bits ps)) (has_66 ps) in
    let fields : (w_fits row v && l_fits row.l v) ≡ true = (and_parts (size_fits bits row.size size (is_64 bits && v.w)) (w_fits row v && l_fits row.l v) sizes).1 in
    let sized : size_fits bits row.size size (is_64 bits && v.w) ≡ true =
    (and_parts (size_fits bits row.size size (is_64 bits && v.w)) (w_fits row v && l_fits row.l v) sizes).0 in
    record {
      class_is = vex-class row.class v class;
      size_is = size-of_vex row.size (operand_size bits row (is_64 bits && v.w) (v.pp == 1)) (size_of_vex row (proper-vex row proper is));
      w_is = and_from (w_as_size row.size (is_64 bits && v.w)) (w_allows row.size row.w v.w)
          (w-as_size bits row.size size (is_64 bits && v.w) sized)
          (w-of_vex row.size row.w v.w (and_parts (w_fits row v) (l_fits row.l v) fields).0);
      l_is = l-of_vex row.l v (and_parts (w_fits row v) (l_fits row.l v) fields).1;
      nop_is = nop-elsewhere row o (rex_bit 0 (counting_rex bits ps)) (prefix_of (repeat_of_pp v.pp) (v.pp == 1)) (vex-elsewhere row o is);
    }

-- ---- ModRM

-- the byte behind the opcode byte is the ModRM, where there is one
abbrev pub NextIs : Option ModRm → Option ℕ → Type 0
NextIs None next = Unit {0}
NextIs (Some m) next = next ≡ Some (modrm_byte m)

without : (p : Plus) (r : ModRmRule) → modrm_rule_fits p r None ≡ true → (place : _) (present : Bool) (byte : ℕ) → ByteMeets r p place present byte
unfolding modrm_rule_fits
without p rule.No h place present byte = no_rule p place present byte
without p rule.Any h place present byte = cc
without p (rule.Digit d) h place present byte = cc
without p (rule.Fixed b) h place present byte = cc

byte-meets : (row : Row) (o : ℕ) (m : Option ModRm) (next : Option ℕ) → rule_in_range row.modrm ≡ true → modrm_in_range m ≡ true
    → opcode_and_modrm_fit row o m ≡ true → NextIs m next → ByteMeets row.modrm row.plus row.place (is_some next) (byte_of next)
unfolding opcode_and_modrm_fit place_fits
byte-meets row o None next range fields h is =
    without row.plus row.modrm (and_parts (modrm_rule_fits row.plus row.modrm None) true (and_parts (opcode_fits row o) _ h).1).0 row.place (is_some next) (byte_of next)
byte-meets row o (Some m) next range fields h is =
    let later = (and_parts (opcode_fits row o) (modrm_rule_fits row.plus row.modrm (Some m) && place_fits row (Some m)) h).1 in
    subst (λ n. ByteMeets row.modrm row.plus row.place (is_some n) (byte_of n)) (sym is)
    (byte-met row.plus row.modrm row.place m range fields
    (and_parts (modrm_rule_fits row.plus row.modrm (Some m)) (place_fits row (Some m)) later).0
    (and_parts (place_allows row.place m) _ (and_parts (modrm_rule_fits row.plus row.modrm (Some m)) (place_fits row (Some m)) later).1).0)

-- ---- all of them

joined : (bits : Bits) (row : Row) (ps : List ℕ) (vex : Option Vex) (used : ℕ) (o : ℕ) (next : Option ℕ)
    → VexSays row vex → exists_in bits row ≡ true → opcode_fits row o ≡ true → Said bits row ps vex o
    → ByteMeets row.modrm row.plus row.place (is_some next) (byte_of next)
    → holds bits row (fields_of (state_from bits ps used vex (spelled_map row.map vex) o) next) ≡ true
unfolding holds fields_of state_from prefix_holds
joined bits row ps vex used o next says exists opcode said byte =
    and_from _ _ (stands row vex o says opcode)
    (and_from _ _ exists
    (and_from _ _ byte.is_there
    (and_from _ _ (and_from _ _ said.class_is said.nop_is.no_f3)
    (and_from _ _ byte.place_is
    (and_from _ _ byte.reg_is
    (and_from _ _ byte.rm_is
    (and_from _ _ said.size_is
    (and_from _ _ said.w_is
    (and_from _ _ said.l_is said.nop_is.b_is)))))))))

said : (bits : Bits) (row : Row) (ps : List ℕ) (vex : Option Vex) (used : ℕ) (map : Map) (o : ℕ) → VexSays row vex → kind_is_proper row ≡ true
    → class_fits row (state_from bits ps used vex map o) ≡ true → sizes_fit bits row (state_from bits ps used vex map o) ≡ true
    → (is_nop_byte row o ≡ true → nop_fits bits row (state_from bits ps used vex map o) ≡ true)
    → Said bits row ps vex o
said bits row ps None used map o says proper class sizes nop = said-legacy bits row ps used map o says proper class sizes nop
said bits row ps (Some v) used map o says proper class sizes nop = said-vex bits row ps v used map o says.0 proper class sizes

nop-of : (bits : Bits) (row : Row) (state : PrefixState) (s : Spelling) → registers_fit bits row state s.modrm s.sib ≡ true → is_nop_byte row state.opcode ≡ true
    → nop_fits bits row state ≡ true
unfolding registers_fit
nop-of bits row state s h e =
    or_left_false (is_nop_byte row state.opcode) (nop_fits bits row state)
    (and_parts (not (reads_by is_gather row) || gather_fits bits state s.modrm s.sib) (not (is_nop_byte row state.opcode) || nop_fits bits row state)
    (and_parts (destination_fits row s.modrm) _ (and_parts _ _ h).1).1).1 e

-- where a spelling fits a sound row, the row's conditions hold on its fields, if the next byte is its ModRM
pub fit-holds : (bits : Bits) (row : Row) (s : Spelling) (next : Option ℕ) → sound row ≡ true → fits bits row s ≡ true → NextIs s.modrm next
    → holds bits row (fields_of (state_of bits row s) next) ≡ true
unfolding state_of state_from
fit-holds bits row s next sure h is =
    let f = all_conditions bits row s h in
    let parts = sound_conditions row sure in
    let says = vex-says bits row s.prefixes.items s.vex s.opcode s.modrm f.vex in
    joined bits row s.prefixes.items s.vex (length (front_bytes row s)) s.opcode next says f.mode
    (and_parts (opcode_fits row s.opcode) _ (opcode-parts row s.opcode s.modrm f.opcode)).0
    (said bits row s.prefixes.items s.vex (length (front_bytes row s)) (spelled_map row.map s.vex) s.opcode says parts.kind f.class f.sizes
    (nop-of bits row (state_of bits row s) s f.registers))
    (byte-meets row s.opcode s.modrm next parts.rule (modrm_range s f.ranges) f.opcode is)

-- the opcode byte of a fitting spelling is a byte
pub opcode-lt : (bits : Bits) (row : Row) (s : Spelling) (next : Option ℕ) → fits bits row s ≡ true → (fields_of (state_of bits row s) next).opcode < 256
unfolding fields_of state_of state_from fields_in_range
opcode-lt bits row s next h =
    let f = all_conditions bits row s h in
    ltb-true s.opcode 256 (and_parts (nat_lt s.opcode 256) _ (and_parts (vex_in_range s.vex) _ (and_parts (are_bytes s.prefixes.items) _ f.ranges).1).1).0
