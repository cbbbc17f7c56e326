-- The plain fields of an address mean the address.
use Rattle.std.proofs.Common.{◌≡◌, ℕ, ◌%◌, ◌^◌, ◌<◌, Bool, true, false, ◌&&◌, ◌||◌, not, ◌==◌, nat_le, nat_lt, List, length, Option, Some, None, is_some, refl, ap, sym, ◌∙◌, subst, arith, if◌then◌else◌}
use Rattle.std.proofs.lemmas.Bool.{lt-ltb, and_from, and_parts, eqb-true, not-true}
use Rattle.x86_values.specs.declared.Bits.{Bits}
use Rattle.x86_values.specs.declared.Bits.TheVariants.{B16, B32, B64}
use Rattle.x86_values.specs.declared.Register.{Register}
use Rattle.x86_values.specs.declared.Register.TheVariants.{R16}
use Rattle.x86_values.specs.declared.DispSize.{DispSize}
use Rattle.x86_values.specs.declared.DispSize.TheVariants.{D0, D8, D16, D32, D64}
use Rattle.x86_values.specs.declared.Mem.{Mem}
use Rattle.instruction_parts.specs.declared.spelling.ModRm.{ModRm}
use Rattle.instruction_parts.specs.declared.spelling.Sib.{Sib}
use Rattle.instruction_parts.specs.declared.spelling.PrefixState.{PrefixState}
use Rattle.instruction_parts.specs.Counting.{is_16}
use Rattle.instruction_parts.specs.Sizes.{bit_b, bit_x}
use Rattle.row_fit.specs.Fits.{is_displacement_alone, displacement_bytes, full_displacement, needs_sib, sib_in_range, index_number}
use Rattle.row_meaning.specs.Meaning.{general_register, disp_size_of, base_16, index_16, memory_16, ip_or_absolute, scale_of, sib_base, sib_index, memory_with_sib, memory_wide, memory_of, displacement, instruction_pointer, target_of}
use Rattle.plain_spelling.specs.Forms.{is_scale}
use Rattle.plain_spelling.specs.PlainFront.{register_number, number_or_zero}
use Rattle.plain_spelling.specs.declared.addresses.AddressFields.{AddressFields}
use Rattle.plain_spelling.specs.Addresses.{is_address_register, is_base, is_index, scale_suits, displacement_count, wide_offers, short_offers, rm_of_one, rm_of_two, rm_of_short, mode_of_count, scale_field, base_bits, index_bits, plain_sib, wide_needs_sib, wide_fields, alone_fields}
use Rattle.plain_spelling.specs.PlainTail.{modrm_with}
use Rattle.row_relation.proofs.AddressCases.{address, same_address, impossible, size_from_count, memory_16-register, wide-register, sib_base-none, sib_base-some, sib_index-none, sib_index-some, address_register, count_small, extended_number}

-- fields of an address
abbrev pub fields : ℕ → ℕ → Option Sib → AddressFields
fields mode3 rm sib = record { mode3 = mode3; rm = rm; sib = sib }

-- fields mean an address, and the lengths and ranges that they ask for are its own
pub record Mean (bits asize : Bits) (f : PrefixState) (m : Mem) (reg next : ℕ) (d : List ℕ) (a : AddressFields) : Type 0 where
  pub back : memory_of bits asize f (modrm_with reg a) a.sib next d ≡ m
  pub sib : is_some a.sib ≡ needs_sib asize (modrm_with reg a)
  pub count : displacement_bytes asize (modrm_with reg a) a.sib ≡ displacement_count m.disp_size
  pub mode3 : a.mode3 < 3
  pub rm : a.rm < 8
  pub sib_range : sib_in_range a.sib ≡ true

-- ---- at RIP and EIP

-- the fields of an address at RIP or EIP mean that address
pub relative_means : (size : Bits) (f : PrefixState) (m : Mem) (reg next : ℕ) (d : List ℕ) → is_16 size ≡ false → Some (instruction_pointer size) ≡ m.base → None ≡ m.index → 1 ≡ m.scale → target_of size next d ≡ m.disp → displacement_count m.disp_size ≡ 4 → Mean B64 size f m reg next d (fields 0 5 None)
unfolding memory_of memory_wide ip_or_absolute needs_sib displacement_bytes is_displacement_alone sib_in_range disp_size_of
relative_means B16 f m reg next d short b i s t c = cc
relative_means B32 f m reg next d short b i s t c =
    record { back = same_address _ _ _ _ _ _ _ _ _ _ b i s t (size_from_count m.disp_size 4 c); sib = refl; count = sym c; mode3 = omega arith; rm = omega arith; sib_range = refl }
relative_means B64 f m reg next d short b i s t c =
    record { back = same_address _ _ _ _ _ _ _ _ _ _ b i s t (size_from_count m.disp_size 4 c); sib = refl; count = sym c; mode3 = omega arith; rm = omega arith; sib_range = refl }

-- ---- a displacement alone

-- the fields of a displacement alone mean that displacement
pub alone_means : (bits asize : Bits) (f : PrefixState) (scale disp : ℕ) (size : DispSize) (reg next : ℕ) (d : List ℕ) → 1 ≡ scale → displacement asize d ≡ disp → length d ≡ displacement_count size → displacement_count size ≡ full_displacement asize → bit_x f ≡ false → Mean bits asize f (address None None scale disp size) reg next d (alone_fields bits asize (address None None scale disp size))
unfolding alone_fields memory_of memory_16 memory_wide ip_or_absolute memory_with_sib sib_base sib_index index_number plain_sib index_bits base_bits needs_sib displacement_bytes is_displacement_alone sib_in_range disp_size_of
alone_means bits B16 f scale disp size reg next d s t l c x =
    record { back = same_address _ _ _ _ _ _ _ _ _ _ refl refl s t (size_from_count size 2 c); sib = refl; count = sym c; mode3 = omega arith; rm = omega arith; sib_range = refl }
alone_means B16 B32 f scale disp size reg next d s t l c x =
    record { back = same_address _ _ _ _ _ _ _ _ _ _ refl refl s t (size_from_count size 4 c); sib = refl; count = sym c; mode3 = omega arith; rm = omega arith; sib_range = refl }
alone_means B32 B32 f scale disp size reg next d s t l c x =
    record { back = same_address _ _ _ _ _ _ _ _ _ _ refl refl s t (size_from_count size 4 c); sib = refl; count = sym c; mode3 = omega arith; rm = omega arith; sib_range = refl }
alone_means B16 B64 f scale disp size reg next d s t l c x =
    record { back = same_address _ _ _ _ _ _ _ _ _ _ refl refl s t (size_from_count size 4 c); sib = refl; count = sym c; mode3 = omega arith; rm = omega arith; sib_range = refl }
alone_means B32 B64 f scale disp size reg next d s t l c x =
    record { back = same_address _ _ _ _ _ _ _ _ _ _ refl refl s t (size_from_count size 4 c); sib = refl; count = sym c; mode3 = omega arith; rm = omega arith; sib_range = refl }
alone_means B64 B32 f scale disp size reg next d s t l c x =
    record { back = rw x (same_address _ _ _ _ _ _ _ _ _ _ refl refl s t (size_from_count size _ (sym l))); sib = refl; count = sym c; mode3 = omega arith; rm = omega arith; sib_range = refl }
alone_means B64 B64 f scale disp size reg next d s t l c x =
    record { back = rw x (same_address _ _ _ _ _ _ _ _ _ _ refl refl s t (size_from_count size _ (sym l))); sib = refl; count = sym c; mode3 = omega arith; rm = omega arith; sib_range = refl }

-- ---- 16-bit addressing

-- the registers that an rm names
pub record Names (rm base : ℕ) (index : Option Register) : Type 0 where
  pub base_is : base_16 rm ≡ R16 base
  pub index_is : index_16 rm ≡ index
  pub small : rm < 8

names_step : (base b r : ℕ) (rest : Option ℕ) (rm : ℕ) (index : Option Register) (test : Bool) → (base == b) ≡ test → Names r b index → (rest ≡ Some rm → Names rm base index) → (if test then Some r else rest) ≡ Some rm → Names rm base index
names_step base b r rest rm index true e here later h =
    let same : base ≡ b = eqb-true base b e in
    let rm_is : r ≡ rm = cc in
    subst (λ (k : ℕ). Names rm k index) (sym same) (subst (λ (k : ℕ). Names k b index) rm_is here)
names_step base b r rest rm index false e here later h = later h

not_named : (rm base : ℕ) (index : Option Register) → None ≡ Some rm → Names rm base index
not_named rm base index h = impossible cc

one_named : (base rm : ℕ) → rm_of_one base ≡ Some rm → Names rm base None
unfolding rm_of_one base_16 index_16
one_named base rm h =
    names_step base 6 4 _ rm None (base == 6) refl (record { base_is = refl; index_is = refl; small = omega arith })
    (λ h1. names_step base 7 5 _ rm None (base == 7) refl (record { base_is = refl; index_is = refl; small = omega arith })
    (λ h2. names_step base 5 6 _ rm None (base == 5) refl (record { base_is = refl; index_is = refl; small = omega arith })
    (λ h3. names_step base 3 7 None rm None (base == 3) refl (record { base_is = refl; index_is = refl; small = omega arith })
    (not_named rm base None) h3) h2) h1) h

-- the same of a sum, by its second register
second_step : (base index i r : ℕ) (rest : Option ℕ) (rm : ℕ) (test : Bool) → (index == i) ≡ test → Names r base (Some (R16 i)) → (rest ≡ Some rm → Names rm base (Some (R16 index))) → (if test then Some r else rest) ≡ Some rm → Names rm base (Some (R16 index))
second_step base index i r rest rm true e here later h =
    let same : index ≡ i = eqb-true index i e in
    let rm_is : r ≡ rm = cc in
    subst (λ (k : ℕ). Names rm base (Some (R16 k))) (sym same) (subst (λ (k : ℕ). Names k base (Some (R16 i))) rm_is here)
second_step base index i r rest rm false e here later h = later h

second_named : (base index si di rm : ℕ) → Names si base (Some (R16 6)) → Names di base (Some (R16 7)) → (if index == 6 then Some si else (if index == 7 then Some di else None)) ≡ Some rm → Names rm base (Some (R16 index))
second_named base index si di rm s t h =
    second_step base index 6 si _ rm (index == 6) refl s
    (λ h1. second_step base index 7 di None rm (index == 7) refl t (not_named rm base (Some (R16 index))) h1) h

first_step : (base b rm : ℕ) (index : Option Register) (test : Bool) (x y : Option ℕ) → (base == b) ≡ test → (x ≡ Some rm → Names rm b index) → (y ≡ Some rm → Names rm base index) → (if test then x else y) ≡ Some rm → Names rm base index
first_step base b rm index true x y e here later h = subst (λ (k : ℕ). Names rm k index) (sym (eqb-true base b e)) (here h)
first_step base b rm index false x y e here later h = later h

two_named : (base index rm : ℕ) → rm_of_two base index ≡ Some rm → Names rm base (Some (R16 index))
unfolding rm_of_two base_16 index_16
two_named base index rm h =
    first_step base 3 rm (Some (R16 index)) (base == 3) _ _ refl
    (second_named 3 index 0 1 rm (record { base_is = refl; index_is = refl; small = omega arith }) (record { base_is = refl; index_is = refl; small = omega arith }))
    (λ h1. first_step base 5 rm (Some (R16 index)) (base == 5) _ None refl
    (second_named 5 index 2 3 rm (record { base_is = refl; index_is = refl; small = omega arith }) (record { base_is = refl; index_is = refl; small = omega arith }))
    (not_named rm base (Some (R16 index))) h1) h

-- what 16-bit addressing writes names the same registers
pub short_named : (base rm : ℕ) (index : Option Register) → rm_of_short base index ≡ Some rm → Names rm base index
unfolding rm_of_short
short_named base rm None h = one_named base rm h
short_named base rm (Some (R16 index)) h = two_named base index rm h
short_named base rm (Some r) h = impossible cc

-- under a displacement that 16-bit addressing offers
pub record ShortOffer (rm n : ℕ) : Type 0 where
  pub alone : is_displacement_alone B16 (record { mode3 = mode_of_count n; reg = 0; rm = rm }) None ≡ false
  pub count : displacement_bytes B16 (record { mode3 = mode_of_count n; reg = 0; rm = rm }) None ≡ n
  pub mode3 : mode_of_count n < 3

short_offer : (rm : ℕ) (size : DispSize) → short_offers (Some rm) (displacement_count size) ≡ true → ShortOffer rm (displacement_count size)
unfolding short_offers displacement_count displacement_bytes is_displacement_alone mode_of_count
short_offer rm D0 h = (let n = not-true (rm == 6) h in record { alone = n; count = rw n refl; mode3 = omega arith })
short_offer rm D8 h = record { alone = refl; count = refl; mode3 = omega arith }
short_offer rm D16 h = record { alone = refl; count = refl; mode3 = omega arith }
short_offer rm D32 h = cc
short_offer rm D64 h = cc

-- the fields of a 16-bit address mean that address
pub short_means : (bits : Bits) (f : PrefixState) (n rm : ℕ) (index : Option Register) (scale disp : ℕ) (size : DispSize) (reg next : ℕ) (d : List ℕ) → rm_of_short n index ≡ Some rm → short_offers (Some rm) (displacement_count size) ≡ true → 1 ≡ scale → displacement B16 d ≡ disp → length d ≡ displacement_count size → Mean bits B16 f (address (Some (R16 n)) index scale disp size) reg next d (fields (mode_of_count (displacement_count size)) rm None)
unfolding memory_of needs_sib displacement_bytes is_displacement_alone sib_in_range
short_means bits f n rm index scale disp size reg next d named offer s t l =
    let o = short_offer rm size offer in
    let r = short_named n rm index named in
    let m : ModRm = record { mode3 = mode_of_count (displacement_count size); reg = reg; rm = rm } in
    record {
      back = memory_16-register m d o.alone
          ∙ same_address _ _ _ _ _ _ _ _ _ _ (ap (λ (x : Register). Some x) r.base_is) r.index_is s t (size_from_count size (length d) (sym l));
      sib = refl;
      count = o.count;
      mode3 = o.mode3;
      rm = r.small;
      sib_range = refl;
    }

-- ---- base and index

-- under a displacement that base and index offer
pub record FlatOffer (asize : Bits) (low n reg scale index : ℕ) : Type 0 where
  pub alone : (mode_of_count n == 0 && low == 5) ≡ false
  pub with_sib : displacement_bytes asize (record { mode3 = mode_of_count n; reg = reg; rm = 4 }) (Some (record { scale = scale; index = index; base = low })) ≡ n
  pub without : displacement_bytes asize (record { mode3 = mode_of_count n; reg = reg; rm = low }) None ≡ n
  pub mode3 : mode_of_count n < 3

wide_offer : (asize : Bits) (r : Register) (size : DispSize) (reg scale index : ℕ) → is_16 asize ≡ false → wide_offers (Some r) (displacement_count size) ≡ true → FlatOffer asize (register_number r % 8) (displacement_count size) reg scale index
unfolding wide_offers displacement_count displacement_bytes is_displacement_alone mode_of_count
wide_offer asize r D0 reg scale index wide h =
    let n = not-true (register_number r % 8 == 5) h in
    record { alone = n; with_sib = rw (wide, n) refl; without = rw (wide, n) (none_alone (register_number r % 8 == 4)); mode3 = omega arith }
  where
    none_alone : (t : Bool) → (let n : ℕ = if t && false then 4 else 0 in n ≡ 0)
    none_alone true = refl
    none_alone false = refl
wide_offer asize r D8 reg scale index wide h = record { alone = refl; with_sib = refl; without = refl; mode3 = omega arith }
wide_offer asize r D16 reg scale index wide h = impossible (sym h)
wide_offer asize r D32 reg scale index wide h = record { alone = refl; with_sib = rw wide refl; without = rw wide refl; mode3 = omega arith }
wide_offer asize r D64 reg scale index wide h = impossible (sym h)

-- mod beside a base that may be absent
abbrev pub wide_mode : Option Register → ℕ → ℕ
wide_mode base n = elim base [ None ↦ 0 | Some _ ↦ mode_of_count n ]

-- the plain SIB of base, index and scale
abbrev pub sib_for : Option Register → Option Register → ℕ → Sib
sib_for base index scale = record { scale = elim index [ None ↦ 0 | Some _ ↦ scale_field scale ]; index = index_bits index; base = base_bits base }

-- the base that is written is read back
pub base_back : (bits asize : Bits) (f : PrefixState) (base index : Option Register) (scale : ℕ) (size : DispSize) (reg : ℕ) → is_16 asize ≡ false → is_base bits asize base ≡ true → wide_offers base (displacement_count size) ≡ true → bit_b bits f ≡ nat_le 8 (number_or_zero base) → sib_base bits asize f (record { mode3 = wide_mode base (displacement_count size); reg = reg; rm = 4 }) (sib_for base index scale) ≡ base
unfolding is_base base_bits
base_back bits asize f None index scale size reg wide h o b = sib_base-none bits asize f _ _ refl
base_back bits asize f (Some r) index scale size reg wide h o b =
    let a = address_register bits asize r h in
    let few : register_number r < 16 = (let lt = a.number in let le = count_small bits in omega arith) in
    sib_base-some bits asize f _ _ (wide_offer asize r size reg 0 0 wide o).alone
    ∙ ap (λ (x : ℕ). Some (general_register asize x)) (extended_number (bit_b bits f) (register_number r) few b) ∙ ap (λ (x : Register). Some x) a.is

-- so is the index
pub index_back : (bits asize : Bits) (f : PrefixState) (base index : Option Register) (scale : ℕ) → is_index bits asize index ≡ true → bit_x f ≡ nat_le 8 (number_or_zero index) → sib_index asize f (sib_for base index scale) ≡ index
unfolding is_index index_bits
index_back bits asize f base None scale h x = sib_index-none asize f (sib_for base None scale) (rw x refl)
index_back bits asize f base (Some r) scale h x =
    let a = address_register bits asize r (and_parts (is_address_register bits asize r) (not (register_number r == 4)) h).0 in
    let other = not-true (register_number r == 4) (and_parts (is_address_register bits asize r) (not (register_number r == 4)) h).1 in
    let few : register_number r < 16 = (let lt = a.number in let le = count_small bits in omega arith) in
    let e = extended_number (bit_x f) (register_number r) few x in
    sib_index-some asize f (sib_for base (Some r) scale) (ap (λ (n : ℕ). n == 4) e ∙ other)
    ∙ ap (λ (n : ℕ). Some (general_register asize n)) e ∙ ap (λ (x : Register). Some x) a.is

scale_by : (n : ℕ) (a b c d : Bool) → (n == 1) ≡ a → (n == 2) ≡ b → (n == 4) ≡ c → (n == 8) ≡ d → (((a || b) || c) || d) ≡ true → 2 ^ scale_field n ≡ n
unfolding scale_field
scale_by n true b c d e1 e2 e3 e4 h = subst (λ (k : ℕ). 2 ^ scale_field k ≡ k) (sym (eqb-true n 1 e1)) refl
scale_by n false true c d e1 e2 e3 e4 h = subst (λ (k : ℕ). 2 ^ scale_field k ≡ k) (sym (eqb-true n 2 e2)) refl
scale_by n false false true d e1 e2 e3 e4 h = subst (λ (k : ℕ). 2 ^ scale_field k ≡ k) (sym (eqb-true n 4 e3)) refl
scale_by n false false false true e1 e2 e3 e4 h = subst (λ (k : ℕ). 2 ^ scale_field k ≡ k) (sym (eqb-true n 8 e4)) refl
scale_by n false false false false e1 e2 e3 e4 h = cc

-- a scale is 2 to its field
pub scale_power : (n : ℕ) → is_scale n ≡ true → 2 ^ scale_field n ≡ n
scale_power n h = scale_by n (n == 1) (n == 2) (n == 4) (n == 8) refl refl refl refl h

if_small : (t : Bool) (a b k : ℕ) → a < k → b < k → (if t then a else b) < k
if_small true a b k ha hb = ha
if_small false a b k ha hb = hb

scale_small : (n : ℕ) → scale_field n < 4
unfolding scale_field
scale_small n = if_small (n == 1) 0 _ 4 (omega arith) (if_small (n == 2) 1 _ 4 (omega arith) (if_small (n == 4) 2 3 4 (omega arith) (omega arith)))

-- the scale that is written is read back
pub scale_back : (base index : Option Register) (scale : ℕ) → scale_suits index scale ≡ true → scale_of index (sib_for base index scale) ≡ scale
unfolding scale_suits
scale_back base None scale h = sym (eqb-true scale 1 h)
scale_back base (Some r) scale h = scale_power scale h

low_bits : (o : Option Register) → base_bits o < 8
unfolding base_bits
low_bits None = omega arith
low_bits (Some r) = (let n = register_number r in omega arith)

low_index : (o : Option Register) → index_bits o < 8
unfolding index_bits
low_index None = omega arith
low_index (Some r) = (let n = register_number r in omega arith)

-- the SIB of an address has fields in range
pub sib_for-range : (base index : Option Register) (scale : ℕ) → sib_in_range (Some (sib_for base index scale)) ≡ true
unfolding sib_in_range
sib_for-range base index scale =
    and_from _ _ (by_index index) (and_from _ _ (lt-ltb (index_bits index) 8 (low_index index)) (lt-ltb (base_bits base) 8 (low_bits base)))
  where
    by_index : (index : Option Register) → nat_lt (elim index [ None ↦ 0 | Some _ ↦ scale_field scale ]) 4 ≡ true
    by_index None = refl
    by_index (Some r) = lt-ltb (scale_field scale) 4 (scale_small scale)

-- ---- all of 32 and 64-bit addressing

-- base, index and displacement of an address, and the bits that stand for their registers
pub record FlatGiven (bits asize : Bits) (f : PrefixState) (base index : Option Register) (scale disp : ℕ) (size : DispSize) (d : List ℕ) : Type 0 where
  pub wide : is_16 asize ≡ false
  pub base_is : is_base bits asize base ≡ true
  pub scale_is : scale_suits index scale ≡ true
  pub offer : wide_offers base (displacement_count size) ≡ true
  pub value : displacement asize d ≡ disp
  pub len : length d ≡ displacement_count size
  pub b : bit_b bits f ≡ nat_le 8 (number_or_zero base)

-- the fields with a SIB
abbrev pub fields_with_sib : Option Register → Option Register → ℕ → DispSize → AddressFields
fields_with_sib base index scale size = fields (wide_mode base (displacement_count size)) 4 (Some (sib_for base index scale))

-- an address with a SIB, whatever gives its index
pub sib_back : (bits asize : Bits) (f : PrefixState) (base index : Option Register) (scale disp : ℕ) (size : DispSize) (reg : ℕ) (d : List ℕ) (given : Option Register) → FlatGiven bits asize f base index scale disp size d → given ≡ index → memory_with_sib bits asize f given (modrm_with reg (fields_with_sib base index scale size)) (sib_for base index scale) d ≡ address base index scale disp size
unfolding memory_with_sib
sib_back bits asize f base index scale disp size reg d given g e =
    same_address _ _ _ _ _ _ _ _ _ _ (base_back bits asize f base index scale size reg g.wide g.base_is g.offer g.b) e
    (ap (λ (o : Option Register). scale_of o (sib_for base index scale)) e ∙ scale_back base index scale g.scale_is)
    g.value (size_from_count size (length d) (sym g.len))

-- the lengths and ranges of the fields with a SIB
pub record SibAsked (asize : Bits) (base index : Option Register) (scale : ℕ) (size : DispSize) (reg : ℕ) : Type 0 where
  pub needed : needs_sib asize (modrm_with reg (fields_with_sib base index scale size)) ≡ true
  pub count : displacement_bytes asize (modrm_with reg (fields_with_sib base index scale size)) (Some (sib_for base index scale)) ≡ displacement_count size
  pub mode3 : wide_mode base (displacement_count size) < 3

-- an address with registers asks for the SIB that is written
pub sib_asked : (asize : Bits) (base index : Option Register) (scale : ℕ) (size : DispSize) (reg : ℕ) → is_16 asize ≡ false → wide_offers base (displacement_count size) ≡ true → SibAsked asize base index scale size reg
unfolding needs_sib displacement_bytes is_displacement_alone base_bits wide_offers
sib_asked asize None index scale size reg wide offer =
    record { needed = rw wide refl; count = rw wide (sym (eqb-true (displacement_count size) 4 offer)); mode3 = omega arith }
sib_asked asize (Some r) index scale size reg wide offer =
    let o = wide_offer asize r size reg (elim index [ None ↦ 0 | Some _ ↦ scale_field scale ]) (index_bits index) wide offer in
    record { needed = rw (wide, lt-ltb _ 3 o.mode3) refl; count = o.with_sib; mode3 = o.mode3 }

-- an address that is not of 16 bits is one of 32 or 64
memory_of-wide : (bits asize : Bits) (f : PrefixState) (m : ModRm) (sib : Option Sib) (next : ℕ) (d : List ℕ) → is_16 asize ≡ false → memory_of bits asize f m sib next d ≡ memory_wide bits asize f m sib next d
unfolding memory_of
memory_of-wide bits B16 f m sib next d wide = impossible wide
memory_of-wide bits _ f m sib next d wide = refl

-- the fields with a SIB mean the address
pub sib_means : (bits asize : Bits) (f : PrefixState) (base index : Option Register) (scale disp : ℕ) (size : DispSize) (reg next : ℕ) (d : List ℕ) → FlatGiven bits asize f base index scale disp size d → is_index bits asize index ≡ true → bit_x f ≡ nat_le 8 (number_or_zero index) → Mean bits asize f (address base index scale disp size) reg next d (fields_with_sib base index scale size)
unfolding memory_wide
sib_means bits asize f base index scale disp size reg next d g i x =
    let a = sib_asked asize base index scale size reg g.wide g.offer in
    record {
      back = memory_of-wide bits asize f (modrm_with reg (fields_with_sib base index scale size)) (Some (sib_for base index scale)) next d g.wide
          ∙ sib_back bits asize f base index scale disp size reg d _ g (index_back bits asize f base index scale i x);
      sib = sym a.needed;
      count = a.count;
      mode3 = a.mode3;
      rm = omega arith;
      sib_range = sib_for-range base index scale;
    }

-- a base alone, whose low three bits are not 4
register_back : (bits asize : Bits) (f : PrefixState) (r : Register) (scale disp : ℕ) (size : DispSize) (reg next : ℕ) (d : List ℕ) → FlatGiven bits asize f (Some r) None scale disp size d → memory_wide bits asize f (record { mode3 = mode_of_count (displacement_count size); reg = reg; rm = register_number r % 8 }) None next d ≡ address (Some r) None scale disp size
unfolding is_base scale_suits
register_back bits asize f r scale disp size reg next d g =
    let a = address_register bits asize r g.base_is in
    let few : register_number r < 16 = (let lt = a.number in let le = count_small bits in omega arith) in
    wide-register bits asize f _ next d (wide_offer asize r size reg 0 0 g.wide g.offer).alone
    ∙ same_address _ _ _ _ _ _ _ _ _ _ (ap (λ (x : ℕ). Some (general_register asize x)) (extended_number (bit_b bits f) (register_number r) few g.b) ∙ ap (λ (x : Register). Some x) a.is)
    refl (sym (eqb-true scale 1 g.scale_is)) g.value (size_from_count size (length d) (sym g.len))

-- and so do those of a base alone
pub register_means : (bits asize : Bits) (f : PrefixState) (r : Register) (scale disp : ℕ) (size : DispSize) (reg next : ℕ) (d : List ℕ) → FlatGiven bits asize f (Some r) None scale disp size d → (register_number r % 8 == 4) ≡ false → Mean bits asize f (address (Some r) None scale disp size) reg next d (fields (mode_of_count (displacement_count size)) (register_number r % 8) None)
unfolding needs_sib sib_in_range
register_means bits asize f r scale disp size reg next d g n =
    let o = wide_offer asize r size reg 0 0 g.wide g.offer in
    let k = register_number r in
    record {
      back = memory_of-wide bits asize f (modrm_with reg (fields (mode_of_count (displacement_count size)) (register_number r % 8) None)) None next d g.wide
          ∙ register_back bits asize f r scale disp size reg next d g;
      sib = rw (g.wide, lt-ltb _ 3 o.mode3, n) refl;
      count = o.without;
      mode3 = o.mode3;
      rm = omega arith;
      sib_range = refl;
    }

-- the plain fields of base and index
pub wide_means : (bits asize : Bits) (f : PrefixState) (base index : Option Register) (scale disp : ℕ) (size : DispSize) (reg next : ℕ) (d : List ℕ) → FlatGiven bits asize f base index scale disp size d → is_index bits asize index ≡ true → bit_x f ≡ nat_le 8 (number_or_zero index) → Mean bits asize f (address base index scale disp size) reg next d (wide_fields (address base index scale disp size))
unfolding wide_fields wide_needs_sib plain_sib base_bits
wide_means bits asize f base (Some r) scale disp size reg next d g i x = sib_means bits asize f base (Some r) scale disp size reg next d g i x
wide_means bits asize f None None scale disp size reg next d g i x = sib_means bits asize f None None scale disp size reg next d g i x
wide_means bits asize f (Some r) None scale disp size reg next d g i x = by_test (register_number r % 8 == 4) refl
  where
    by_test : (t : Bool) → (register_number r % 8 == 4) ≡ t → Mean bits asize f (address (Some r) None scale disp size) reg next d (fields (mode_of_count (displacement_count size)) (if t then 4 else register_number r % 8) (if t then Some (sib_for (Some r) None scale) else None))
    by_test true e = sib_means bits asize f (Some r) None scale disp size reg next d g i x
    by_test false e = register_means bits asize f r scale disp size reg next d g e
