-- The front of a plain spelling is the plain front of what it means.
use Rattle.std.proofs.Common.{◌≡◌, ◌⊎◌, inl, inr, ℕ, zero, suc, ◌+◌, ◌*◌, ◌/◌, ◌%◌, ◌<◌, Bool, true, false, ◌&&◌, ◌||◌, not, ◌==◌, nat_lt, Option, Some, None, is_some, refl, ap, sym, ◌∙◌, subst, arith, if◌then◌else◌, List, [], ◌∷◌, length, slice_index, ◌-◌}
use Rattle.std.proofs.lemmas.Bool.{and_parts, cases_Bool, eqb-true, not-true}
use Rattle.std.specs.List.{list_any}
use borrow.Author.Tests.{ltb-true}
use Rattle.x86_values.specs.declared.Bits.{Bits}
use Rattle.x86_values.specs.declared.Bits.TheVariants.{B16, B32, B64}
use Rattle.x86_values.specs.declared.Code.{Code}
use Rattle.x86_values.specs.declared.Operand.{Operand}
use Rattle.x86_values.specs.declared.Instr.{Instr}
use Rattle.instruction_parts.specs.declared.row_types.Row.{Row}
use Rattle.instruction_parts.specs.declared.row_types.Map.{Map}
use Rattle.instruction_parts.specs.declared.row_types.Map.TheVariants.{M0f}
use Rattle.instruction_parts.specs.declared.row_types.Class.{Class}
use Rattle.instruction_parts.specs.declared.row_types.Class.TheVariants.{Any as AnyClass, Np, Nfx, Nf3, P66, F3 as ClassF3, F2 as ClassF2}
use Rattle.instruction_parts.specs.declared.row_types.Plus.{Plus}
use Rattle.instruction_parts.specs.declared.row_types.Plus.TheVariants.{No as NoPlus, Register as PlusRegister, Stack as PlusStack}
use Rattle.instruction_parts.specs.declared.row_types.Size.{Size}
use Rattle.instruction_parts.specs.declared.row_types.Size.TheVariants.{None as NoSize, O16, O32, O32or64, O64, W0 as SizeW0, W1 as SizeW1}
use Rattle.instruction_parts.specs.declared.row_types.WBit.{WBit}
use Rattle.instruction_parts.specs.declared.row_types.WBit.TheVariants.{None as NoW, W0, W1, Wig}
use Rattle.instruction_parts.specs.declared.row_types.LBit.{LBit}
use Rattle.instruction_parts.specs.declared.row_types.LBit.TheVariants.{None as NoL, L128, L256, Lig, Lz}
use Rattle.instruction_parts.specs.declared.row_types.OpKind.{OpKind}
use Rattle.instruction_parts.specs.declared.row_types.OpKind.TheVariants.{Absent, By, Hx, Ho}
use Rattle.instruction_parts.specs.declared.kinds.Method.{Method}
use Rattle.instruction_parts.specs.declared.kinds.Method.TheVariants as method
use Rattle.instruction_parts.specs.declared.spelling.Vex.{Vex}
use Rattle.instruction_parts.specs.declared.spelling.ModRm.{ModRm}
use Rattle.instruction_parts.specs.declared.spelling.Spelling.{Spelling}
use Rattle.instruction_parts.specs.declared.spelling.PrefixState.{PrefixState}
use Rattle.instruction_parts.specs.Kinds.{method_of, file_of}
use Rattle.instruction_parts.specs.Counting.{is_64, is_rex, bit_of, rex_bit, kept_if, last_if, counting_rex}
use Rattle.instruction_parts.specs.Sizes.{is_vex_row, state_size, shared_bit, bit_r, bit_x, bit_b, bit_w}
use Rattle.instruction_parts.specs.Bytes.{bit, state_of}
use Rattle.row_fit.specs.Fits.{reads_by, is_vvvv, kind_at, same_bool, same_map, size_fits, w_fits, l_fits, sizes_fit, vvvv_fits, vvvv_number, takes_w_as_size, vex_class_fits, opcode_fits, opcode_and_modrm_fit}
use Rattle.row_fit.specs.Sound.{Sound, kind_is_proper, vex_is_proper, legacy_is_proper, size_says_w, is_no_w, is_no_l, is_class_of_vex, is_size_of_vex}
use Rattle.row_meaning.specs.Meaning.{Tail, operand_by, register_of, tail_of}
use Rattle.plain_spelling.specs.Forms.{operand_at}
use Rattle.plain_spelling.specs.PlainFront.{register_number, operand_number, number_in_vvvv, number_asked_of, asks_r, asks_x, asks_b, asks_low_byte, asks_rex_w, asks_vex_w, asked_rex, class_pp, asked_vex, asked_opcode, plain_front_of}
use Rattle.plain_spelling.specs.PlainTail.{prefixes_of}
use Rattle.row_relation.proofs.AddressCases.{impossible, if_yes, if_no}
use Rattle.plain_spelling.proofs.FrontRange.{vex_for, vex_of_vex, vex_of_legacy}
use Rattle.plain_spelling.proofs.Asked.{asked_vvvv-at, asked_vvvv-none, four_kinds}
use Rattle.row_relation.proofs.FitNumbers.{kind_that_passes}
use Rattle.row_relation.specs.GivenSpelling.{Given}
use Rattle.row_relation.proofs.NeedAsks.{differ}
use Rattle.row_relation.proofs.NeedNumbers.{number-general_register, number-vector}
use Rattle.row_relation.proofs.NeedStates.{StateIs, state_is, state_vex, state_rex, state_opcode}
use Rattle.row_relation.proofs.NeedFront.{needs_rex_w, needs_rex, vex_proper, vex_says_w}
use Rattle.row_relation.proofs.NeedUsed.{read_is, bits_of}
use Rattle.row_relation.proofs.NeedVariants.{read_at}
use Rattle.row_relation.proofs.NeedSuiting.{same_opcode_byte}
use Rattle.row_relation.specs.IsPlain.{IsPlain, meant_operands, only_if, needs_r, needs_x, needs_b, needs_w, names_low_byte, rex_is_needed, vex_is_short, l_is_needed, vvvv_is_read}
use Rattle.row_relation.proofs.Prefixes.{needed_are}
use Rattle.row_relation.proofs.Bits.{needs_are, meant_are}
use Rattle.row_relation.proofs.FrontIs.{keeps_of}

-- ---- the bits

only_where : (a b : Bool) → only_if b a ≡ true → a ≡ true → b ≡ true
only_where true b h e = h
only_where false b h e = impossible (sym e)

both_ways : (a b : Bool) → (a ≡ true → b ≡ true) → (b ≡ true → a ≡ true) → a ≡ b
both_ways true b h k = sym (h refl)
both_ways false true h k = k refl
both_ways false false h k = refl

abbrev asks_w : Row → Bool
asks_w row = if is_vex_row row then asks_vex_w row else asks_rex_w row

-- the bits of a state are those that the plain front has
record BitsAre (row : Row) (st : PrefixState) (i : Instr) : Type 0 where
  w : shared_bit (λ v. v.w) 3 st ≡ asks_w row
  r : bit_r st ≡ asks_r row i
  x : bit_x st ≡ asks_x row i
  b : shared_bit (λ v. v.b) 0 st ≡ asks_b row i

bit_b_raw : (bits : Bits) (st : PrefixState) → bit_b bits st ≡ true → shared_bit (λ v. v.b) 0 st ≡ true
unfolding bit_b
bit_b_raw bits st h = (and_parts (is_64 bits) _ h).1

bit_w_raw : (bits : Bits) (st : PrefixState) → bit_w bits st ≡ true → shared_bit (λ v. v.w) 3 st ≡ true
unfolding bit_w
bit_w_raw bits st h = (and_parts (is_64 bits) _ h).1

legacy_w : (st : PrefixState) → st.vex ≡ None → shared_bit (λ v. v.w) 3 st ≡ rex_bit 3 st.rex
legacy_w st e = rw e refl

vex_w : (st : PrefixState) (v : Vex) → st.vex ≡ Some v → shared_bit (λ v. v.w) 3 st ≡ v.w
vex_w st v e = rw e refl

rex_w_raw : (bits : Bits) (row : Row) (st : PrefixState) → StateIs bits row st → is_vex_row row ≡ false → asks_rex_w row ≡ true → shared_bit (λ v. v.w) 3 st ≡ true
rex_w_raw bits row st f l a = elim (needs_rex_w bits row st f a) [
  | inl h ↦ legacy_w st (f.legacy l) ∙ h
  | inr h ↦ bit_w_raw bits st h
]

-- W of a VEX row that asks for 1
says_w : (size : Size) (w : WBit) (st_size : Bits) (b vw : Bool) → size_says_w size w ≡ true → (elim w [ W1 ↦ true | _ ↦ false ]) ≡ true → size_fits B64 size st_size b ≡ true → (takes_w_as_size size || elim w [ W0 ↦ not vw | W1 ↦ vw | _ ↦ true ]) ≡ true → (vw ≡ true) ⊎ (b ≡ true)
unfolding size_says_w size_fits
says_w SizeW0 W1 st_size b vw says asks fit h = impossible (sym says)
says_w SizeW1 W1 st_size b vw says asks fit h = inr fit
says_w NoSize W1 st_size b vw says asks fit h = inl h
says_w O16 W1 st_size b vw says asks fit h = inl h
says_w O32 W1 st_size b vw says asks fit h = inl h
says_w O32or64 W1 st_size b vw says asks fit h = inl h
says_w O64 W1 st_size b vw says asks fit h = inl h
says_w size NoW st_size b vw says asks fit h = impossible (sym asks)
says_w size W0 st_size b vw says asks fit h = impossible (sym asks)
says_w size Wig st_size b vw says asks fit h = impossible (sym asks)

same_size_fits : (bits : Bits) (size : Size) (st_size : Bits) (b : Bool) → size_fits bits size st_size b ≡ size_fits B64 size st_size b
unfolding size_fits
same_size_fits bits NoSize st_size b = refl
same_size_fits bits O16 st_size b = refl
same_size_fits bits O32 st_size b = refl
same_size_fits bits O32or64 st_size b = refl
same_size_fits bits O64 st_size b = refl
same_size_fits bits SizeW0 st_size b = refl
same_size_fits bits SizeW1 st_size b = refl

vex_w_raw : (bits : Bits) (row : Row) (st : PrefixState) → Sound row → StateIs bits row st → is_vex_row row ≡ true → asks_vex_w row ≡ true → shared_bit (λ v. v.w) 3 st ≡ true
unfolding asks_vex_w w_fits
vex_w_raw bits row st sound f e a =
    let x = f.vex e in
    elim (says_w row.size row.w (state_size bits row st) (bit_w bits st) x.v.w (vex_says_w row (vex_proper row sound.kind e)) a (sym (same_size_fits bits row.size (state_size bits row st) (bit_w bits st)) ∙ f.size) x.w) [
      | inl h ↦ vex_w st x.v x.stands ∙ h
      | inr h ↦ bit_w_raw bits st h
    ]

needs_w_is : (row : Row) → needs_w row ≡ asks_w row
unfolding needs_w asks_vex_w asks_rex_w
needs_w_is row = refl

w_raw : (bits : Bits) (row : Row) (st : PrefixState) → Sound row → StateIs bits row st → asks_w row ≡ true → shared_bit (λ v. v.w) 3 st ≡ true
w_raw bits row st sound f a = elim (cases_Bool (is_vex_row row)) [
  | inl e ↦ vex_w_raw bits row st sound f e (sym (if_yes (is_vex_row row) (asks_vex_w row) (asks_rex_w row) e) ∙ a)
  | inr e ↦ rex_w_raw bits row st f e (sym (if_no (is_vex_row row) (asks_vex_w row) (asks_rex_w row) e) ∙ a)
]

bits_are : (bits : Bits) (ip : ℕ) (code : Code) (row : Row) (s : Spelling) (i : Instr) → Given bits ip code row s i → IsPlain bits ip row s → BitsAre row (state_of bits row s) i
bits_are bits ip code row s i g p =
    let st = state_of bits row s in
    let f = state_is bits row s g.fitting in
    let k = bits_of bits ip code row s i g in
    let n = needs_are bits ip code row s i g in
    let ops = meant_are bits ip code row s i g in
    record {
      w = both_ways (shared_bit (λ v. v.w) 3 st) (asks_w row) (λ h. sym (needs_w_is row) ∙ only_where (shared_bit (λ v. v.w) 3 st) (needs_w row) p.w h) (w_raw bits row st g.is_sound f);
      r = both_ways (bit_r st) (asks_r row i) (λ h. sym n.r ∙ ap (needs_r row) (sym ops) ∙ only_where (bit_r st) (needs_r row (meant_operands bits ip row s)) p.r h) k.r;
      x = both_ways (bit_x st) (asks_x row i) (λ h. sym n.x ∙ ap (needs_x row) (sym ops) ∙ only_where (bit_x st) (needs_x row (meant_operands bits ip row s)) p.x h) k.x;
      b = both_ways (shared_bit (λ v. v.b) 0 st) (asks_b row i) (λ h. sym n.b ∙ ap (needs_b row) (sym ops) ∙ only_where (shared_bit (λ v. v.b) 0 st) (needs_b row (meant_operands bits ip row s)) p.b h) (λ h. bit_b_raw bits st (k.b h));
    }

-- ---- the REX

-- a REX by its bits
low_bit : (n : ℕ) → bit (n % 2 == 1) ≡ n % 2
low_bit n = by_value (n % 2) (omega arith)
  where
    by_value : (m : ℕ) → m < 2 → bit (m == 1) ≡ m
    by_value zero h = refl
    by_value (suc zero) h = refl
    by_value (suc (suc m)) h = absurd (omega arith)

rex_value : (v : ℕ) → v / 16 ≡ 4 → v ≡ 0x40 + (bit (bit_of 3 v) * 8 + (bit (bit_of 2 v) * 4 + (bit (bit_of 1 v) * 2 + bit (bit_of 0 v))))
rex_value v h =
    let b3 = low_bit (v / 8) in let b2 = low_bit (v / 4) in let b1 = low_bit (v / 2) in let b0 = low_bit (v / 1) in
    omega (arith, h, b3, b2, b1, b0)

rex_from : (t : Bool) (v : ℕ) → kept_if t v ≡ None → t ≡ false
rex_from true v h = impossible (let z : true ≡ false = cc in z)
rex_from false v h = refl

last_is : (p : ℕ → Bool) (xs : List ℕ) (v : ℕ) → last_if p xs ≡ Some v → p v ≡ true
last_is p xs v h = by_test (nat_lt 0 (length xs)) (slice_index xs (length xs - 1)) h
  where
    by_test : (t : Bool) (x : ℕ) → kept_if (t && p x) x ≡ Some v → p v ≡ true
    by_test t x h = by_kept (t && p x) refl h
      where
        by_kept : (k : Bool) → t && p x ≡ k → kept_if k x ≡ Some v → p v ≡ true
        by_kept true e h = (let z : x ≡ v = cc in subst (λ (y : ℕ). p y ≡ true) z (and_parts t (p x) e).1)
        by_kept false e h = impossible (let z : true ≡ false = cc in z)

rex_is_rex : (bits : Bits) (xs : List ℕ) (v : ℕ) → counting_rex bits xs ≡ Some v → is_rex v ≡ true
unfolding counting_rex
rex_is_rex B16 xs v h = impossible (let z : true ≡ false = cc in z)
rex_is_rex B32 xs v h = impossible (let z : true ≡ false = cc in z)
rex_is_rex B64 xs v h = last_is is_rex xs v h

-- a REX of these bits, where one of them or a low byte needs it
abbrev rex_of : Bool → Bool → Bool → Bool → Bool → Option ℕ
rex_of w r x b low =
    if w || (r || (x || (b || low))) then Some (0x40 + (bit w * 8 + (bit r * 4 + (bit x * 2 + bit b)))) else None

rex_of_legacy : (row : Row) (i : Instr) → is_vex_row row ≡ false → asked_rex row i ≡ rex_of (asks_rex_w row) (asks_r row i) (asks_x row i) (asks_b row i) (asks_low_byte i.ops)
unfolding asked_rex
rex_of_legacy row i h = rw h refl

rex_of_vex : (row : Row) (i : Instr) → is_vex_row row ≡ true → asked_rex row i ≡ None
unfolding asked_rex
rex_of_vex row i h = rw h refl

some_rex : (t : Bool) (n v : ℕ) → t ≡ true → v ≡ n → Some v ≡ (if t then Some n else None)
some_rex true n v h e = ap (λ (x : ℕ). Some x) e
some_rex false n v h e = impossible (sym h)

none_rex : (o : Option ℕ) → (is_some o ≡ true → ⊥) → None ≡ o
none_rex None h = refl
none_rex (Some x) h = absurd (h refl)

rex_by : (row : Row) (i : Instr) (rex : Option ℕ) (low : Bool) → is_vex_row row ≡ false
    → rex_bit 3 rex ≡ asks_rex_w row → rex_bit 2 rex ≡ asks_r row i → rex_bit 1 rex ≡ asks_x row i → rex_bit 0 rex ≡ asks_b row i → names_low_byte i.ops ≡ asks_low_byte i.ops
    → (is_some (asked_rex row i) ≡ true → is_some rex ≡ true) → ((v : ℕ) → rex ≡ Some v → is_rex v ≡ true) → rex_is_needed rex i.ops ≡ true → rex ≡ asked_rex row i
unfolding rex_is_needed
rex_by row i None low l w r x b same asks is needed = none_rex (asked_rex row i) (λ h. (let z = asks h in differ false z refl))
rex_by row i (Some v) low l w r x b same asks is needed =
    let four : v / 16 ≡ 4 = eqb-true (v / 16) 4 (is v refl) in
    let value = rex_value v four in
    let needs : (rex_bit 3 (Some v) || (rex_bit 2 (Some v) || (rex_bit 1 (Some v) || (rex_bit 0 (Some v) || names_low_byte i.ops)))) ≡ true = needed in
    let asked_is : (asks_rex_w row || (asks_r row i || (asks_x row i || (asks_b row i || asks_low_byte i.ops)))) ≡ true = rw (← w, ← r, ← x, ← b, ← same) needs in
    let number : v ≡ 0x40 + (bit (asks_rex_w row) * 8 + (bit (asks_r row i) * 4 + (bit (asks_x row i) * 2 + bit (asks_b row i)))) = rw (← w, ← r, ← x, ← b) value in
    some_rex _ _ v asked_is number ∙ sym (rex_of_legacy row i l)

raw_bits : (st : PrefixState) (field : Vex → Bool) (n : ℕ) → st.vex ≡ None → shared_bit field n st ≡ rex_bit n st.rex
raw_bits st field n e = rw e refl

bit_r_is : (st : PrefixState) → bit_r st ≡ shared_bit (λ v. v.r) 2 st
unfolding bit_r
bit_r_is st = refl

bit_x_is : (st : PrefixState) → bit_x st ≡ shared_bit (λ v. v.x) 1 st
unfolding bit_x
bit_x_is st = refl

-- **the REX is the plain one**
rex_same : (bits : Bits) (ip : ℕ) (code : Code) (row : Row) (s : Spelling) (i : Instr) → Given bits ip code row s i → IsPlain bits ip row s → (state_of bits row s).rex ≡ asked_rex row i
rex_same bits ip code row s i g p =
    let st = state_of bits row s in
    let f = state_is bits row s g.fitting in
    let k = bits_of bits ip code row s i g in
    let n = needs_are bits ip code row s i g in
    let b = bits_are bits ip code row s i g p in
    elim (cases_Bool (is_vex_row row)) [
      | inl e ↦ f.vex_rex e ∙ sym (rex_of_vex row i e)
      | inr e ↦ (let none = f.legacy e in
          rex_by row i st.rex true e
          (sym (raw_bits st (λ v. v.w) 3 none) ∙ b.w ∙ if_no (is_vex_row row) (asks_vex_w row) (asks_rex_w row) e)
          (sym (raw_bits st (λ v. v.r) 2 none) ∙ sym (bit_r_is st) ∙ b.r)
          (sym (raw_bits st (λ v. v.x) 1 none) ∙ sym (bit_x_is st) ∙ b.x)
          (sym (raw_bits st (λ v. v.b) 0 none) ∙ b.b) n.low (needs_rex bits row st i f k)
          (λ v h. rex_is_rex bits s.prefixes.items v (sym (state_rex bits row s) ∙ h))
          (subst (λ (ops : List Operand). rex_is_needed st.rex ops ≡ true) (meant_are bits ip code row s i g) p.rex))
    ]

-- ---- the VEX

three_by : (t m x b w : Bool) → same_bool t (not (m && (not x && (not b && not w)))) ≡ true → t ≡ (not m || (x || (b || w)))
three_by true true true b w h = refl
three_by true true false true w h = refl
three_by true true false false true h = refl
three_by true true false false false h = impossible (sym h)
three_by true false x b w h = refl
three_by false true true b w h = impossible (sym h)
three_by false true false true w h = impossible (sym h)
three_by false true false false true h = impossible (sym h)
three_by false true false false false h = refl
three_by false false x b w h = impossible (sym h)

l_by : (l : LBit) (v : Vex) → l_fits l v ≡ true → only_if (elim l [ L256 ↦ true | _ ↦ false ]) v.l ≡ true → v.l ≡ (elim l [ L256 ↦ true | _ ↦ false ])
unfolding l_fits
l_by NoL v h k = no_l v.l k
  where
    no_l : (b : Bool) → only_if false b ≡ true → b ≡ false
    no_l true h = impossible (sym h)
    no_l false h = refl
l_by L128 v h k = not-true v.l h
l_by L256 v h k = h
l_by Lig v h k = no_l v.l k
  where
    no_l : (b : Bool) → only_if false b ≡ true → b ≡ false
    no_l true h = impossible (sym h)
    no_l false h = refl
l_by Lz v h k = not-true v.l h

pp_by : (class : Class) (v : Vex) → vex_class_fits class v ≡ true → v.pp ≡ class_pp class
unfolding vex_class_fits class_pp
pp_by Np v h = eqb-true v.pp 0 h
pp_by P66 v h = eqb-true v.pp 1 h
pp_by ClassF3 v h = eqb-true v.pp 2 h
pp_by ClassF2 v h = eqb-true v.pp 3 h
pp_by AnyClass v h = impossible (sym h)
pp_by Nfx v h = impossible (sym h)
pp_by Nf3 v h = impossible (sym h)

-- the register of a kind in vvvv has the number that names it
vvvv_kept : (bits : Bits) (row : Row) (st : PrefixState) (kind : OpKind) (n : ℕ) → method_of kind ≡ method.Vvvv → register_number (register_of bits row st (file_of kind) n) ≡ n
unfolding method_of file_of register_of register_number
vvvv_kept bits row st By n h = number-general_register _ n
vvvv_kept bits row st Hx n h = number-vector row.l n
vvvv_kept bits row st Ho n h = refl
vvvv_kept bits row st kind n h = impossible cc

vvvv_operand : (bits : Bits) (row : Row) (st : PrefixState) (t : Tail) (kind : OpKind) (how : Method) (imm : List ℕ) → method_of kind ≡ how → is_vvvv how ≡ true → operand_number (operand_by bits row st t kind how imm) ≡ vvvv_number bits st
unfolding operand_by
vvvv_operand bits row st t kind method.Vvvv imm e h = vvvv_kept bits row st kind (vvvv_number bits st) e
vvvv_operand bits row st t kind _ imm e h = impossible (sym h)

vvvv_at : (bits : Bits) (ip : ℕ) (code : Code) (row : Row) (s : Spelling) (i : Instr) (n : ℕ) → Given bits ip code row s i → n < 4 → is_vvvv (method_of (kind_at row n)) ≡ true → operand_number (operand_at i n) ≡ vvvv_number bits (state_of bits row s)
vvvv_at bits ip code row s i n g below reads =
    let st = state_of bits row s in
    let t = tail_of bits ip row s in
    ap (λ (x : Instr). operand_number (operand_at x n)) (sym (read_is bits ip code row s i g))
    ∙ ap operand_number (read_at bits code row st t s.imm.items n below)
    ∙ vvvv_operand bits row st t (kind_at row n) (method_of (kind_at row n)) _ refl reads

number_of_vvvv : (bits : Bits) (st : PrefixState) (v : Vex) → st.vex ≡ Some v → (is_64 bits || nat_lt v.vvvv 8) ≡ true → vvvv_number bits st ≡ v.vvvv
unfolding vvvv_number
number_of_vvvv bits st v e h = rw e (by_mode (is_64 bits) h)
  where
    by_mode : (long : Bool) → (long || nat_lt v.vvvv 8) ≡ true → (if long then v.vvvv else v.vvvv % 8) ≡ v.vvvv
    by_mode true h = refl
    by_mode false h = (let k = ltb-true v.vvvv 8 h in omega arith)

unused_vvvv : (row : Row) (st : PrefixState) (v : Vex) → st.vex ≡ Some v → vvvv_fits row st ≡ true → reads_by is_vvvv row ≡ false → v.vvvv ≡ 0
unfolding vvvv_fits
unused_vvvv row st v e h none =
    let k : (v.vvvv == 0 || reads_by is_vvvv row) ≡ true = rw e at h in
    eqb-true v.vvvv 0 (or_left (v.vvvv == 0) (reads_by is_vvvv row) none k)
  where
    or_left : (a b : Bool) → b ≡ false → (a || b) ≡ true → a ≡ true
    or_left true b n h = refl
    or_left false b n h = impossible (sym h ∙ n)

vvvv_same : (bits : Bits) (ip : ℕ) (code : Code) (row : Row) (s : Spelling) (i : Instr) (v : Vex) → Given bits ip code row s i → length i.ops ≡ 4 → (state_of bits row s).vex ≡ Some v → (is_64 bits || nat_lt v.vvvv 8) ≡ true → v.vvvv ≡ number_asked_of number_in_vvvv row i
vvvv_same bits ip code row s i v g four e h = elim (cases_Bool (reads_by is_vvvv row)) [
  | inr none ↦ unused_vvvv row (state_of bits row s) v e g.fitting.vvvv none ∙ sym (asked_vvvv-none row i none)
  | inl some ↦ (let k = kind_that_passes (λ kind. is_vvvv (method_of kind)) row.ops Absent some in
      let kinds = four_kinds row g.is_sound in
      let below : k.0 < 4 = omega (arith, k.1, kinds) in
      sym (number_of_vvvv bits (state_of bits row s) v e h) ∙ sym (vvvv_at bits ip code row s i k.0 g below k.2) ∙ sym (asked_vvvv-at row i k.0 g.is_sound four below k.2))
]

-- a VEX of its parts
abbrev vex_of : Bool → Bool → Bool → Bool → Bool → Bool → Map → ℕ → ℕ → Vex
vex_of three r x b w l map vvvv pp = record { three = three; r = r; x = x; b = b; w = w; l = l; map = map; vvvv = vvvv; pp = pp }

same_vex : (t t1 r r1 x x1 b b1 w w1 l l1 : Bool) (m m1 : Map) (v v1 p p1 : ℕ) → t ≡ t1 → r ≡ r1 → x ≡ x1 → b ≡ b1 → w ≡ w1 → l ≡ l1 → m ≡ m1 → v ≡ v1 → p ≡ p1 → vex_of t r x b w l m v p ≡ vex_of t1 r1 x1 b1 w1 l1 m1 v1 p1
same_vex t t1 r r1 x x1 b b1 w w1 l l1 m m1 v v1 p p1 ht hr hx hb hw hl hm hv hp =
    ap (λ (z : Bool). vex_of z r x b w l m v p) ht ∙ ap (λ (z : Bool). vex_of t1 z x b w l m v p) hr ∙ ap (λ (z : Bool). vex_of t1 r1 z b w l m v p) hx
    ∙ ap (λ (z : Bool). vex_of t1 r1 x1 z w l m v p) hb ∙ ap (λ (z : Bool). vex_of t1 r1 x1 b1 z l m v p) hw ∙ ap (λ (z : Bool). vex_of t1 r1 x1 b1 w1 z m v p) hl
    ∙ ap (λ (z : Map). vex_of t1 r1 x1 b1 w1 l1 z v p) hm ∙ ap (λ (z : ℕ). vex_of t1 r1 x1 b1 w1 l1 m1 z p) hv ∙ ap (λ (z : ℕ). vex_of t1 r1 x1 b1 w1 l1 m1 v1 z) hp

shared_vex : (st : PrefixState) (v : Vex) (field : Vex → Bool) (n : ℕ) → st.vex ≡ Some v → field v ≡ shared_bit field n st
shared_vex st v field n e = rw e refl

l_of_fit : (bits : Bits) (row : Row) (st : PrefixState) (v : Vex) → sizes_fit bits row st ≡ true → st.vex ≡ Some v → l_fits row.l v ≡ true
unfolding sizes_fit
l_of_fit bits row st v h e =
    let k = (and_parts (size_fits bits row.size (state_size bits row st) (bit_w bits st)) _ h).1 in
    let z : (w_fits row v && l_fits row.l v) ≡ true = rw e at k in
    (and_parts (w_fits row v) (l_fits row.l v) z).1

vex_short : (v : Vex) → vex_is_short (Some v) ≡ true → same_bool v.three (not (same_map v.map M0f && (not v.x && (not v.b && not v.w)))) ≡ true
unfolding vex_is_short
vex_short v h = h

l_read : (row : Row) (v : Vex) → l_is_needed row (Some v) ≡ true → only_if (elim row.l [ L256 ↦ true | _ ↦ false ]) v.l ≡ true
unfolding l_is_needed
l_read row v h = h

vvvv_read : (bits : Bits) (v : Vex) → vvvv_is_read bits (Some v) ≡ true → (is_64 bits || nat_lt v.vvvv 8) ≡ true
unfolding vvvv_is_read
vvvv_read bits v h = h

asked_pp : (row : Row) (i : Instr) → vex_for row i ≡ vex_of (not (same_map row.map M0f) || (asks_x row i || (asks_b row i || asks_vex_w row))) (asks_r row i) (asks_x row i) (asks_b row i) (asks_vex_w row) (elim row.l [ L256 ↦ true | _ ↦ false ]) row.map (number_asked_of number_in_vvvv row i) (class_pp row.class)
asked_pp row i = refl

-- **the VEX is the plain one**
vex_same : (bits : Bits) (ip : ℕ) (code : Code) (row : Row) (s : Spelling) (i : Instr) → Given bits ip code row s i → length i.ops ≡ 4 → IsPlain bits ip row s → s.vex ≡ asked_vex row i
vex_same bits ip code row s i g four p =
    let st = state_of bits row s in
    let f = state_is bits row s g.fitting in
    let k = bits_are bits ip code row s i g p in
    let own = state_vex bits row s in
    elim (cases_Bool (is_vex_row row)) [
      | inr e ↦ sym own ∙ f.legacy e ∙ sym (vex_of_legacy row i e)
      | inl e ↦ (let a = f.vex e in
          let v = a.v in
          let there : s.vex ≡ Some v = sym own ∙ a.stands in
          let x : v.x ≡ asks_x row i = shared_vex st v (λ v. v.x) 1 a.stands ∙ sym (bit_x_is st) ∙ k.x in
          let b : v.b ≡ asks_b row i = shared_vex st v (λ v. v.b) 0 a.stands ∙ k.b in
          let w : v.w ≡ asks_vex_w row = shared_vex st v (λ v. v.w) 3 a.stands ∙ k.w ∙ if_yes (is_vex_row row) (asks_vex_w row) (asks_rex_w row) e in
          let r : v.r ≡ asks_r row i = shared_vex st v (λ v. v.r) 2 a.stands ∙ sym (bit_r_is st) ∙ k.r in
          let short = vex_short v (subst (λ (o : Option Vex). vex_is_short o ≡ true) there p.vex) in
          let three = three_by v.three (same_map v.map M0f) v.x v.b v.w short in
          let three_is : v.three ≡ (not (same_map row.map M0f) || (asks_x row i || (asks_b row i || asks_vex_w row))) = three ∙ rw (a.map_is, x, b, w) refl in
          let l = l_by row.l v (l_of_fit bits row st v g.fitting.sizes a.stands) (l_read row v (subst (λ (o : Option Vex). l_is_needed row o ≡ true) there p.l)) in
          let vvvv = vvvv_same bits ip code row s i v g four a.stands (vvvv_read bits v (subst (λ (o : Option Vex). vvvv_is_read bits o ≡ true) there p.vvvv)) in
          there ∙ ap (λ (z : Vex). Some z) (same_vex v.three _ v.r _ v.x _ v.b _ v.w _ v.l _ v.map _ v.vvvv _ v.pp _ three_is r x b w l a.map_is vvvv (pp_by row.class v a.class)) ∙ sym (vex_of_vex row i e))
    ]

-- ---- the opcode byte

fit_opcode : (row : Row) (opcode : ℕ) (m : Option ModRm) → opcode_and_modrm_fit row opcode m ≡ true → opcode_fits row opcode ≡ true
unfolding opcode_and_modrm_fit
fit_opcode row opcode m h = (and_parts (opcode_fits row opcode) _ h).0

by_fit : (row : Row) (opcode : ℕ) (i : Instr) (plus : Plus) → row.plus ≡ plus → (plus ≡ PlusRegister → ⊥) → opcode_fits row opcode ≡ true → opcode ≡ asked_opcode row i
unfolding opcode_fits asked_opcode
by_fit row opcode i NoPlus e h k = rw e (eqb-true opcode row.opcode (rw e at k))
by_fit row opcode i PlusStack e h k = rw e (eqb-true opcode row.opcode (rw e at k))
by_fit row opcode i PlusRegister e h k = absurd (h refl)

opcode_same : (bits : Bits) (ip : ℕ) (code : Code) (row : Row) (s : Spelling) (i : Instr) → Given bits ip code row s i → s.opcode ≡ asked_opcode row i
opcode_same bits ip code row s i g = go row.plus refl
  where
    fixed : (plus : Plus) → row.plus ≡ plus → (plus ≡ PlusRegister → ⊥) → s.opcode ≡ asked_opcode row i
    fixed plus e h = by_fit row s.opcode i plus e h (fit_opcode row s.opcode s.modrm g.fitting.opcode)

    go : (plus : Plus) → row.plus ≡ plus → s.opcode ≡ asked_opcode row i
    go PlusRegister e = sym (state_opcode bits row s) ∙ sym (same_opcode_byte bits ip code row s i g e)
    go NoPlus e = fixed NoPlus e (λ h. impossible (let z : true ≡ false = cc in z))
    go PlusStack e = fixed PlusStack e (λ h. impossible (let z : true ≡ false = cc in z))

-- ---- all of it

-- **the prefixes, the VEX and the opcode byte are the plain ones**
pub record FrontSame (bits : Bits) (row : Row) (s : Spelling) (i : Instr) : Type 0 where
  pub prefixes : s.prefixes.items ≡ prefixes_of (plain_front_of bits row i)
  pub vex : s.vex ≡ asked_vex row i
  pub opcode : s.opcode ≡ asked_opcode row i

-- a plain spelling has the plain front
pub front_same : (bits : Bits) (ip : ℕ) (code : Code) (row : Row) (s : Spelling) (i : Instr) → Given bits ip code row s i → length i.ops ≡ 4 → IsPlain bits ip row s → FrontSame bits row s i
front_same bits ip code row s i g four p = record {
  prefixes = p.prefixes ∙ needed_are bits row (state_of bits row s) s.modrm i (state_is bits row s g.fitting) (keeps_of bits ip code row s i g) (rex_same bits ip code row s i g p);
  vex = vex_same bits ip code row s i g four p;
  opcode = opcode_same bits ip code row s i g;
}
