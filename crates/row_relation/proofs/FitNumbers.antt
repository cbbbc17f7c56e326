-- The numbers that an instruction asks of the fields are numbers of the mode.
use Rattle.std.proofs.Common.{◌≡◌, inl, inr, ℕ, suc, ◌<◌, ◌≤◌, Bool, true, false, ◌&&◌, ◌||◌, not, ◌==◌, nat_le, nat_lt, List, [], ◌∷◌, length, refl, sym, ◌∙◌, subst, arith, if◌then◌else◌, Option, Some, None, is_none, is_some}
use Rattle.instruction_parts.proofs.Tests.{or_right}
use Rattle.std.specs.Prelude.{slice_index_or}
use Rattle.std.proofs.lemmas.Bool.{leb-true, and_parts, cases_Bool, eqb-true}
use Rattle.std.specs.List.{list_any}
use borrow.Author.Tests.{ltb-true}
use Rattle.x86_values.specs.declared.Bits.{Bits}
use Rattle.x86_values.specs.declared.Bits.TheVariants.{B16, B32, B64}
use Rattle.x86_values.specs.declared.Register.{Register}
use Rattle.x86_values.specs.declared.Register.TheVariants.{Low8, R16, Eip, Rip}
use Rattle.x86_values.specs.declared.DispSize.{DispSize}
use Rattle.x86_values.specs.declared.Mem.{Mem}
use Rattle.x86_values.specs.declared.Operand.{Operand}
use Rattle.x86_values.specs.declared.Operand.TheVariants.{Absent as AbsentOperand, Reg, Mem as MemOperand}
use Rattle.x86_values.specs.declared.Instr.{Instr}
use Rattle.instruction_parts.specs.declared.row_types.Row.{Row}
use Rattle.instruction_parts.specs.declared.row_types.OpKind.{OpKind}
use Rattle.instruction_parts.specs.declared.row_types.OpKind.TheVariants.{Absent}
use Rattle.instruction_parts.specs.declared.kinds.Method.{Method}
use Rattle.instruction_parts.specs.declared.kinds.Method.TheVariants as method
use Rattle.instruction_parts.specs.declared.kinds.File.{File}
use Rattle.instruction_parts.specs.Kinds.{method_of, file_of}
use Rattle.instruction_parts.specs.Counting.{is_64}
use Rattle.row_fit.specs.Fits.{kind_at, reads_by, is_vvvv}
use Rattle.row_fit.specs.Sound.{Sound, reads_reg, reads_rm, reads_opcode}
use Rattle.x86_values.specs.Comparing.{same_bits, same_register}
use Rattle.plain_spelling.specs.Forms.{operand_at, is_scale}
use Rattle.plain_spelling.specs.PlainFront.{register_number, number_or_zero, is_low_byte_of_rex, operand_number, base_or_register_number, operand_index_number, number_in_reg, number_in_rm, number_in_index, number_in_vvvv, number_in_opcode, number_asked_of, asks_low_byte}
use Rattle.plain_spelling.specs.Addresses.{register_count, general_size, shown_size, form_of, rm_of_one, rm_of_two, rm_of_short, is_address_register, is_base, is_index, scale_suits, is_wide_size, is_wide_shape, is_shape, index_named, is_vector_index, is_gather_base, is_gather_shape, shape_suits}
use Rattle.plain_spelling.specs.Expressible.{each_operand, exists_in_mode, is_of_kind, is_not_nop, kind_allows, is_nameable, gather_suits, register_suits, address_suits}
use Rattle.plain_spelling.proofs.Asked.{asked_reg-at, asked_reg-none, asked_rm-at, asked_rm-none, asked_index-at, asked_index-none, asked_vvvv-at, asked_vvvv-none, asked_opcode-at, asked_opcode-none, four_kinds, index_in_rm, each-at, reads_b}
use Rattle.row_relation.specs.Given.{Given, NumbersSuit}

-- ---- where a kind passes a test

-- if a kind passes a test, there is an index of one
pub kind_that_passes : (p : OpKind → Bool) (kinds : List OpKind) (d : OpKind) → list_any p kinds ≡ true → (n : ℕ) × (n < length kinds) × (p (slice_index_or kinds n d) ≡ true)
kind_that_passes p [] d h = cc
kind_that_passes p (kind ∷ kinds) d h = elim (cases_Bool (p kind)) [
  | inl here ↦ (0, omega arith, here)
  | inr other ↦
      let rest = kind_that_passes p kinds d (or_right (p kind) (list_any p kinds) other h) in
      (suc rest.0, omega arith, rest.2)
]

-- ---- registers

-- what a register operand meets
pub record Nameable (bits : Bits) (row : Row) (i : Instr) (n : ℕ) (r : Register) : Type 0 where
  pub mode : exists_in_mode bits r ≡ true
  pub number : register_number r < register_count bits
  pub kind : is_of_kind bits row i (kind_at row n) r ≡ true
  pub nop : is_not_nop row (method_of (kind_at row n)) r ≡ true
  pub allowed : kind_allows bits n (kind_at row n) r ≡ true

nameable_parts : (bits : Bits) (row : Row) (i : Instr) (n : ℕ) (r : Register) → is_nameable bits row i n r ≡ true → Nameable bits row i n r
unfolding is_nameable
nameable_parts bits row i n r h =
    let a = exists_in_mode bits r in
    let b = nat_lt (register_number r) (register_count bits) in
    let c = is_of_kind bits row i (kind_at row n) r in
    let d = is_not_nop row (method_of (kind_at row n)) r in
    let e = kind_allows bits n (kind_at row n) r in
    let h1 = (and_parts a (b && (c && (d && e))) h).1 in
    let h2 = (and_parts b (c && (d && e)) h1).1 in
    let h3 = (and_parts c (d && e) h2).1 in
    record {
      mode = (and_parts a (b && (c && (d && e))) h).0;
      number = ltb-true (register_number r) (register_count bits) (and_parts b (c && (d && e)) h1).0;
      kind = (and_parts c (d && e) h2).0;
      nop = (and_parts d e h3).0;
      allowed = (and_parts d e h3).1;
    }

register_part : (bits : Bits) (row : Row) (i : Instr) (n : ℕ) (r : Register) → register_suits bits row i n ≡ true → operand_at i n ≡ Reg r → is_nameable bits row i n r ≡ true
unfolding register_suits
register_part bits row i n r h e =
    (and_parts (is_nameable bits row i n r) (gather_suits row i n) (subst (λ (op : Operand). ((elim op [ Reg r ↦ is_nameable bits row i n r | _ ↦ true ]) && gather_suits row i n) ≡ true) e h)).0

-- **a register operand is one that its kind names**
pub nameable-at : (bits : Bits) (row : Row) (i : Instr) (n : ℕ) (r : Register) → each_operand (register_suits bits row i) ≡ true → n < 4 → operand_at i n ≡ Reg r → Nameable bits row i n r
nameable-at bits row i n r h below e = nameable_parts bits row i n r (register_part bits row i n r (each-at (register_suits bits row i) n below h) e)

-- ---- addresses

-- a mode has at least 8 registers of a class
pub count_positive : (bits : Bits) → 8 ≤ register_count bits
unfolding register_count
count_positive B16 = omega arith
count_positive B32 = omega arith
count_positive B64 = omega arith

-- the numbers of an address are numbers of the mode
pub record SmallAddress (bits : Bits) (base index : Option Register) : Type 0 where
  pub base_is : number_or_zero base < register_count bits
  pub index_is : number_or_zero index < register_count bits

one_small : (b : ℕ) → is_some (rm_of_one b) ≡ true → b < 8
unfolding rm_of_one
one_small b h = elim (cases_Bool (b == 6)) [
  | inl e ↦ let k = eqb-true b 6 e in omega arith
  | inr n6 ↦ (elim (cases_Bool (b == 7)) [
    | inl e ↦ let k = eqb-true b 7 e in omega arith
    | inr n7 ↦ (elim (cases_Bool (b == 5)) [
      | inl e ↦ let k = eqb-true b 5 e in omega arith
      | inr n5 ↦ (elim (cases_Bool (b == 3)) [
        | inl e ↦ let k = eqb-true b 3 e in omega arith
        | inr n3 ↦ (let k = rw (n6, n7, n5, n3) at h in cc)
      ])
    ])
  ])
]

index_small : (i x y : ℕ) → is_some (if i == 6 then Some x else (if i == 7 then Some y else None)) ≡ true → i < 8
index_small i x y h = elim (cases_Bool (i == 6)) [
  | inl e ↦ let k = eqb-true i 6 e in omega arith
  | inr n6 ↦ (elim (cases_Bool (i == 7)) [
    | inl e ↦ let k = eqb-true i 7 e in omega arith
    | inr n7 ↦ (let k = rw (n6, n7) at h in cc)
  ])
]

two_small : (b i : ℕ) → is_some (rm_of_two b i) ≡ true → (b < 8) × (i < 8)
unfolding rm_of_two
two_small b i h = elim (cases_Bool (b == 3)) [
  | inl e ↦ (let k = eqb-true b 3 e in (omega arith, index_small i 0 1 (rw e at h)))
  | inr n3 ↦ (elim (cases_Bool (b == 5)) [
    | inl e ↦ (let k = eqb-true b 5 e in (omega arith, index_small i 2 3 (rw (n3, e) at h)))
    | inr n5 ↦ (let k = rw (n3, n5) at h in cc)
  ])
]

short_small : (bits : Bits) (b : ℕ) (index : Option Register) → is_some (rm_of_short b index) ≡ true → (b < register_count bits) × (number_or_zero index < register_count bits)
unfolding rm_of_short register_number
short_small bits b None h =
    let k = one_small b h in
    let c = count_positive bits in
    (omega arith, omega arith)
short_small bits b (Some (R16 i)) h =
    let k = two_small b i h in
    let c = count_positive bits in
    (omega arith, omega arith)
short_small bits b (Some _) h = cc

address_register_small : (bits asize : Bits) (r : Register) → is_address_register bits asize r ≡ true → register_number r < register_count bits
unfolding is_address_register
address_register_small bits asize r h =
    ltb-true (register_number r) (register_count bits)
    (and_parts (elim (general_size r) [ None ↦ false | Some size ↦ same_bits size asize ]) (nat_lt (register_number r) (register_count bits)) h).1

base_small : (bits asize : Bits) (r : Option Register) → is_base bits asize r ≡ true → number_or_zero r < register_count bits
unfolding is_base
base_small bits asize None h = let c = count_positive bits in omega arith
base_small bits asize (Some r) h = address_register_small bits asize r h

wide_index_small : (bits asize : Bits) (r : Option Register) → is_index bits asize r ≡ true → number_or_zero r < register_count bits
unfolding is_index
wide_index_small bits asize None h = let c = count_positive bits in omega arith
wide_index_small bits asize (Some r) h = address_register_small bits asize r (and_parts (is_address_register bits asize r) (not (register_number r == 4)) h).0

wide_at_size : (bits : Bits) (base index : Option Register) (scale : ℕ) (shown : Option Bits) → (elim shown [ None ↦ false | Some asize ↦ is_wide_size bits asize && (is_base bits asize base && (is_index bits asize index && scale_suits index scale)) ]) ≡ true → SmallAddress bits base index
wide_at_size bits base index scale None h = cc
wide_at_size bits base index scale (Some asize) h =
    let b = is_base bits asize base in
    let i = is_index bits asize index in
    let s = scale_suits index scale in
    let h1 = (and_parts (is_wide_size bits asize) (b && (i && s)) h).1 in
    record {
      base_is = base_small bits asize base (and_parts b (i && s) h1).0;
      index_is = wide_index_small bits asize index (and_parts i s (and_parts b (i && s) h1).1).0;
    }

wide_small : (bits : Bits) (m : Mem) → is_wide_shape bits m ≡ true → SmallAddress bits m.base m.index
unfolding is_wide_shape
wide_small bits m h = wide_at_size bits m.base m.index m.scale (shown_size m) h

no_index : (bits : Bits) (index : Option Register) → is_none index ≡ true → number_or_zero index < register_count bits
no_index bits None h = let c = count_positive bits in omega arith
no_index bits (Some r) h = cc

abbrev address : Option Register → Option Register → ℕ → ℕ → DispSize → Mem
address base index scale disp disp_size = record { base = base; index = index; scale = scale; disp = disp; disp_size = disp_size }

pointer_small : (bits : Bits) (base : Register) (index : Option Register) (scale : ℕ) → register_number base ≡ 0 → (is_64 bits && (is_none index && scale == 1)) ≡ true → SmallAddress bits (Some base) index
pointer_small bits base index scale e h =
    let c = count_positive bits in
    record {
      base_is = omega arith;
      index_is = no_index bits index (and_parts (is_none index) (scale == 1) (and_parts (is_64 bits) (is_none index && scale == 1) h).1).0;
    }

shape_small : (bits : Bits) (base index : Option Register) (scale disp : ℕ) (disp_size : DispSize) → is_shape bits (address base index scale disp disp_size) ≡ true → SmallAddress bits base index
unfolding is_shape form_of register_number
shape_small bits None None scale disp disp_size h =
    let c = count_positive bits in record { base_is = omega arith; index_is = omega arith }
shape_small bits None (Some r) scale disp disp_size h = wide_small bits (address None (Some r) scale disp disp_size) h
shape_small bits (Some Rip) index scale disp disp_size h = pointer_small bits Rip index scale refl h
shape_small bits (Some Eip) index scale disp disp_size h = pointer_small bits Eip index scale refl h
shape_small bits (Some (R16 n)) index scale disp disp_size h =
    let some = is_some (rm_of_short n index) in
    let k = short_small bits n index (and_parts some (scale == 1) (and_parts (not (is_64 bits)) (some && scale == 1) h).1).0 in
    record { base_is = k.0; index_is = k.1 }
shape_small bits (Some r) index scale disp disp_size h = wide_small bits (address (Some r) index scale disp disp_size) h

gather_base_at : (bits : Bits) (r : Register) (size : Option Bits) → (elim size [ None ↦ false | Some asize ↦ is_wide_size bits asize && is_address_register bits asize r ]) ≡ true → register_number r < register_count bits
gather_base_at bits r None h = cc
gather_base_at bits r (Some asize) h = address_register_small bits asize r (and_parts (is_wide_size bits asize) (is_address_register bits asize r) h).1

gather_base_small : (bits : Bits) (base : Option Register) → is_gather_base bits base ≡ true → number_or_zero base < register_count bits
unfolding is_gather_base
gather_base_small bits None h = let c = count_positive bits in omega arith
gather_base_small bits (Some r) h = gather_base_at bits r (general_size r) h

vector_index_small : (bits : Bits) (row : Row) (file : File) (index : Option Register) → is_vector_index bits row file index ≡ true → number_or_zero index < register_count bits
unfolding is_vector_index
vector_index_small bits row file None h = cc
vector_index_small bits row file (Some r) h =
    ltb-true (register_number r) (register_count bits) (and_parts (same_register r (index_named row file (register_number r))) (nat_lt (register_number r) (register_count bits)) h).1

gather_small : (bits : Bits) (row : Row) (file : File) (m : Mem) → is_gather_shape bits row file m ≡ true → SmallAddress bits m.base m.index
unfolding is_gather_shape
gather_small bits row file m h =
    let b = is_gather_base bits m.base in
    let i = is_vector_index bits row file m.index in
    let s = is_scale m.scale in
    record {
      base_is = gather_base_small bits m.base (and_parts b (i && s) h).0;
      index_is = vector_index_small bits row file m.index (and_parts i s (and_parts b (i && s) h).1).0;
    }

-- an address of a suiting shape has numbers of the mode
pub suited_small : (bits : Bits) (row : Row) (how : Method) (file : File) (m : Mem) → shape_suits bits row how file m ≡ true → SmallAddress bits m.base m.index
unfolding shape_suits
suited_small bits row method.Gather file m h = gather_small bits row file m h
suited_small bits row method.Offset file m h =
    let k = (and_parts (is_none m.base) (is_none m.index && m.scale == 1) h).1 in
    record {
      base_is = no_index bits m.base (and_parts (is_none m.base) (is_none m.index && m.scale == 1) h).0;
      index_is = no_index bits m.index (and_parts (is_none m.index) (m.scale == 1) k).0;
    }
suited_small bits row _ file m h = shape_small bits m.base m.index m.scale m.disp m.disp_size h

-- ---- operands

-- the numbers of an operand are numbers of the mode
pub record SmallOperand (bits : Bits) (op : Operand) : Type 0 where
  pub register : operand_number op < register_count bits
  pub base : base_or_register_number op < register_count bits
  pub index : operand_index_number op < register_count bits

operand_small : (bits : Bits) (row : Row) (i : Instr) (n : ℕ) (how : Method) (file : File) (op : Operand)
    → (elim op [ Reg r ↦ is_nameable bits row i n r | _ ↦ true ]) ≡ true
    → (elim op [ MemOperand m ↦ shape_suits bits row how file m | _ ↦ true ]) ≡ true → SmallOperand bits op
operand_small bits row i n how file (Reg r) h k =
    let c = count_positive bits in
    let e = (nameable_parts bits row i n r h).number in
    record { register = e; base = e; index = omega arith }
operand_small bits row i n how file (MemOperand m) h k =
    let c = count_positive bits in
    let e = suited_small bits row how file m k in
    record { register = omega arith; base = e.base_is; index = e.index_is }
operand_small bits row i n how file _ h k =
    let c = count_positive bits in
    record { register = omega arith; base = omega arith; index = omega arith }

-- the numbers of a suitable operand fit their fields
pub small-at : (bits : Bits) (row : Row) (i : Instr) (n : ℕ) → n < 4 → each_operand (register_suits bits row i) ≡ true → each_operand (address_suits bits row i) ≡ true → SmallOperand bits (operand_at i n)
unfolding register_suits address_suits
small-at bits row i n below registers addresses =
    operand_small bits row i n (method_of (kind_at row n)) (file_of (kind_at row n)) (operand_at i n)
    (and_parts (elim (operand_at i n) [ Reg r ↦ is_nameable bits row i n r | _ ↦ true ]) (gather_suits row i n) (each-at (register_suits bits row i) n below registers)).0
    (each-at (address_suits bits row i) n below addresses)

-- ---- SPL to DIL

low_number : (bits : Bits) (n : ℕ) → is_64 bits ≡ false → (nat_lt n 4 || is_64 bits) ≡ true → (nat_le 4 n && nat_lt n 8) ≡ false
low_number bits n e h = elim (cases_Bool (nat_lt n 4)) [
  | inl small ↦ (elim (cases_Bool (nat_le 4 n)) [
    | inl large ↦ (let a = ltb-true n 4 small in let b = leb-true 4 n large in absurd (omega arith))
    | inr other ↦ rw other refl
  ])
  | inr large ↦ (let k = or_right (nat_lt n 4) (is_64 bits) large h in cc)
]

low_register : (bits : Bits) (r : Register) → is_64 bits ≡ false → exists_in_mode bits r ≡ true → is_low_byte_of_rex (Reg r) ≡ false
unfolding is_low_byte_of_rex exists_in_mode
low_register bits (Low8 n) e h = low_number bits n e h
low_register bits _ e h = refl

low_operand : (bits : Bits) (row : Row) (i : Instr) (n : ℕ) (op : Operand) → is_64 bits ≡ false → (elim op [ Reg r ↦ is_nameable bits row i n r | _ ↦ true ]) ≡ true → is_low_byte_of_rex op ≡ false
unfolding is_low_byte_of_rex
low_operand bits row i n (Reg r) e h = low_register bits r e (nameable_parts bits row i n r h).mode
low_operand bits row i n _ e h = refl

none_low : (ops : List Operand) → ((k : ℕ) → k < length ops → is_low_byte_of_rex (slice_index_or ops k AbsentOperand) ≡ false) → asks_low_byte ops ≡ false
none_low [] h = refl
none_low (op ∷ ops) h = rw (h 0 (omega arith)) (none_low ops (λ k below. h (suc k) (omega arith)))

low_outside : (bits : Bits) (row : Row) (i : Instr) → length i.ops ≡ 4 → each_operand (register_suits bits row i) ≡ true → is_64 bits ≡ false → asks_low_byte i.ops ≡ false
unfolding register_suits
low_outside bits row i four h e =
    none_low i.ops (λ k below. low_operand bits row i k (operand_at i k) e
    (and_parts (elim (operand_at i k) [ Reg r ↦ is_nameable bits row i k r | _ ↦ true ]) (gather_suits row i k) (each-at (register_suits bits row i) k (omega arith) h)).0)

-- ---- all fields

-- a number that one operand asks for, or none
field_small : (bits : Bits) (p : Method → Bool) (number : Operand → ℕ) (row : Row) (i : Instr) (asked_number : ℕ) → Sound row
    → ((n : ℕ) → n < 4 → number (operand_at i n) < register_count bits)
    → ((n : ℕ) → n < 4 → p (method_of (kind_at row n)) ≡ true → asked_number ≡ number (operand_at i n))
    → (reads_by p row ≡ false → asked_number ≡ 0) → asked_number < register_count bits
field_small bits p number row i asked_number s small at none = elim (cases_Bool (reads_by p row)) [
  | inl some ↦
      let k = kind_that_passes (λ kind. p (method_of kind)) row.ops Absent some in
      let four = four_kinds row s in
      let below : k.0 < 4 = omega arith in
      let e = at k.0 below k.2 in
      let l = small k.0 below in
      omega arith
  | inr other ↦ (let e = none other in let c = count_positive bits in omega arith)
]

none_of_both : (p q : OpKind → Bool) (kinds : List OpKind) → list_any (λ kind. p kind || q kind) kinds ≡ false → (list_any p kinds ≡ false) × (list_any q kinds ≡ false)
none_of_both p q [] h = (refl, refl)
none_of_both p q (kind ∷ kinds) h = elim (cases_Bool (p kind)) [
  | inl yes1 ↦ (let k = rw yes1 at h in cc)
  | inr other ↦ (elim (cases_Bool (q kind)) [
    | inl yes1 ↦ (let k = rw (other, yes1) at h in cc)
    | inr neither ↦ (let rest = none_of_both p q kinds (rw (other, neither) at h) in (rw other rest.0, rw neither rest.1))
  ])
]

-- **the numbers that the instruction asks of the fields are numbers of the mode**
pub numbers_suit : (bits : Bits) (ip : ℕ) (row : Row) (i : Instr) → Given bits ip row i → NumbersSuit bits row i
numbers_suit bits ip row i g =
    let s = g.is_sound in
    let small = λ (n : ℕ) (below : n < 4). small-at bits row i n below g.suits.registers g.suits.addresses in
    let index = index_in_rm bits row i g.suits.kinds g.suits.addresses in
    record {
      reg = field_small bits reads_reg operand_number row i (number_asked_of number_in_reg row i) s (λ n below. (small n below).register)
          (λ n below e. asked_reg-at row i n s g.four below e) (asked_reg-none row i);
      rm = field_small bits reads_b base_or_register_number row i (number_asked_of number_in_rm row i) s (λ n below. (small n below).base)
          (λ n below e. asked_rm-at row i n s g.four below e)
          (λ none. let k = none_of_both (λ kind. reads_rm (method_of kind)) (λ kind. reads_opcode (method_of kind)) row.ops none in asked_rm-none row i k.0 k.1);
      index = field_small bits reads_rm operand_index_number row i (number_asked_of number_in_index row i) s (λ n below. (small n below).index)
          (λ n below e. asked_index-at row i n s g.four below index e) (asked_index-none row i s index);
      vvvv = field_small bits is_vvvv operand_number row i (number_asked_of number_in_vvvv row i) s (λ n below. (small n below).register)
          (λ n below e. asked_vvvv-at row i n s g.four below e) (asked_vvvv-none row i);
      opcode = field_small bits reads_opcode operand_number row i (number_asked_of number_in_opcode row i) s (λ n below. (small n below).register)
          (λ n below e. asked_opcode-at row i n s g.four below e) (asked_opcode-none row i);
      low = low_outside bits row i g.four g.suits.registers;
      vvvv_unused = λ none. asked_vvvv-none row i none;
    }
