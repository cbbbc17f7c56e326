-- What an address is, case by case: by the fields of ModRM and SIB, and by the form that base and index ask for.
use Rattle.std.proofs.Common.{◌≡◌, inl, inr, ℕ, ◌%◌, ◌<◌, ◌≤◌, Bool, true, false, ◌&&◌, ◌==◌, nat_le, nat_lt, List, length, Option, Some, None, refl, ap, sym, subst, arith, if◌then◌else◌}
use Rattle.std.proofs.lemmas.Bool.{leb-true, eq-eqb, and_parts, cases_Bool}
use borrow.Author.Tests.{ltb-true}
use Rattle.x86_values.specs.declared.Bits.{Bits}
use Rattle.x86_values.specs.declared.Bits.TheVariants.{B16, B32, B64}
use Rattle.x86_values.specs.declared.Register.{Register}
use Rattle.x86_values.specs.declared.Register.TheVariants.{R16, R32, R64, Eip, Rip}
use Rattle.x86_values.specs.declared.DispSize.{DispSize}
use Rattle.x86_values.specs.declared.DispSize.TheVariants.{D0, D8, D16, D32, D64}
use Rattle.x86_values.specs.declared.Mem.{Mem}
use Rattle.instruction_parts.specs.declared.spelling.ModRm.{ModRm}
use Rattle.instruction_parts.specs.declared.spelling.Sib.{Sib}
use Rattle.instruction_parts.specs.declared.spelling.PrefixState.{PrefixState}
use Rattle.instruction_parts.specs.Counting.{or_else}
use Rattle.instruction_parts.specs.Sizes.{bit_b, bit_x}
use Rattle.row_fit.specs.Fits.{with_high_bit, is_displacement_alone, index_number}
use Rattle.row_meaning.specs.Meaning.{general_register, disp_size_of, base_16, index_16, memory_16, ip_or_absolute, sib_base, sib_index, memory_at_base, memory_wide, displacement, instruction_pointer}
use Rattle.plain_spelling.specs.PlainFront.{register_number}
use Rattle.x86_values.specs.Comparing.{same_bits}
use Rattle.plain_spelling.specs.declared.addresses.AddressForm.TheVariants.{Relative, Alone, Short}
use Rattle.plain_spelling.specs.Addresses.{form_of, general_size, register_count, is_address_register, displacement_count, pointer_size, shown_size, written_size, size_or}
use Rattle.plain_spelling.specs.Expressible.{told_size}
use Rattle.x86_values.proofs.Compared.{same_bits-is}

-- an address of its parts
abbrev pub address : Option Register → Option Register → ℕ → ℕ → DispSize → Mem
address base index scale disp size = record { base = base; index = index; scale = scale; disp = disp; disp_size = size }

-- addresses with equal parts are equal
pub same_address : (b b' i i' : Option Register) (s s' d d' : ℕ) (z z' : DispSize) → b ≡ b' → i ≡ i' → s ≡ s' → d ≡ d' → z ≡ z' → address b i s d z ≡ address b' i' s' d' z'
same_address b b' i i' s s' d d' z z' e1 e2 e3 e4 e5 = cc

-- a choice by a test that holds
pub if_yes : {T : Type 0} → (test : Bool) (x y : T) → test ≡ true → (if test then x else y) ≡ x
if_yes true x y h = refl
if_yes false x y h = cc

-- a choice by a test that fails
pub if_no : {T : Type 0} → (test : Bool) (x y : T) → test ≡ false → (if test then x else y) ≡ y
if_no true x y h = cc
if_no false x y h = refl

-- from two truth values that differ anything follows
pub impossible : {T : Type 0} → true ≡ false → T
impossible h = absurd (two_values (if true then 0 else 1) refl (ap (λ (b : Bool). if b then 0 else 1) h))
  where
    two_values : (n : ℕ) → n ≡ 0 → n ≡ 1 → ⊥
    two_values n a b = omega arith

-- two tests that hold hold together
pub both : (a b : Bool) → a ≡ true → b ≡ true → (a && b) ≡ true
both true b ha hb = hb
both false b ha hb = ha

-- ---- sizes of a displacement

-- a displacement size is that of its number of bytes
pub size_of_count : (size : DispSize) → disp_size_of (displacement_count size) ≡ size
unfolding disp_size_of displacement_count
size_of_count D0 = refl
size_of_count D8 = refl
size_of_count D16 = refl
size_of_count D32 = refl
size_of_count D64 = refl

-- so equal numbers of bytes give one size
pub size_from_count : (size : DispSize) (n : ℕ) → displacement_count size ≡ n → disp_size_of n ≡ size
size_from_count size n h = subst (λ (k : ℕ). disp_size_of k ≡ size) h (size_of_count size)

-- ---- memory by its fields

-- a 16-bit address with a displacement alone
pub memory_16-alone : (m : ModRm) (disp : List ℕ) → is_displacement_alone B16 m None ≡ true → memory_16 m disp ≡ address None None 1 (displacement B16 disp) D16
unfolding memory_16
memory_16-alone m disp h = if_yes (is_displacement_alone B16 m None) _ _ h

-- a 16-bit address with registers
pub memory_16-register : (m : ModRm) (disp : List ℕ) → is_displacement_alone B16 m None ≡ false → memory_16 m disp ≡ address (Some (base_16 m.rm)) (index_16 m.rm) 1 (displacement B16 disp) (disp_size_of (length disp))
unfolding memory_16
memory_16-register m disp h = if_no (is_displacement_alone B16 m None) _ _ h

-- a 32 or 64-bit address at RIP or EIP, or absolute
pub wide-alone : (bits asize : Bits) (state : PrefixState) (m : ModRm) (next : ℕ) (disp : List ℕ) → (m.mode3 == 0 && m.rm == 5) ≡ true → memory_wide bits asize state m None next disp ≡ ip_or_absolute bits asize next disp
unfolding memory_wide
wide-alone bits asize state m next disp h = if_yes (m.mode3 == 0 && m.rm == 5) _ _ h

-- a 32 or 64-bit address with a base
pub wide-register : (bits asize : Bits) (state : PrefixState) (m : ModRm) (next : ℕ) (disp : List ℕ) → (m.mode3 == 0 && m.rm == 5) ≡ false → memory_wide bits asize state m None next disp ≡ address (Some (general_register asize (with_high_bit (bit_b bits state) m.rm))) None 1 (displacement asize disp) (disp_size_of (length disp))
unfolding memory_wide memory_at_base
wide-register bits asize state m next disp h = if_no (m.mode3 == 0 && m.rm == 5) _ _ h

-- a SIB without a base
pub sib_base-none : (bits asize : Bits) (state : PrefixState) (m : ModRm) (s : Sib) → (m.mode3 == 0 && s.base == 5) ≡ true → sib_base bits asize state m s ≡ None
unfolding sib_base
sib_base-none bits asize state m s h = if_yes (m.mode3 == 0 && s.base == 5) _ _ h

-- a SIB with a base
pub sib_base-some : (bits asize : Bits) (state : PrefixState) (m : ModRm) (s : Sib) → (m.mode3 == 0 && s.base == 5) ≡ false → sib_base bits asize state m s ≡ Some (general_register asize (with_high_bit (bit_b bits state) s.base))
unfolding sib_base
sib_base-some bits asize state m s h = if_no (m.mode3 == 0 && s.base == 5) _ _ h

-- a SIB without an index
pub sib_index-none : (asize : Bits) (state : PrefixState) (s : Sib) → with_high_bit (bit_x state) s.index ≡ 4 → sib_index asize state s ≡ None
unfolding sib_index index_number
sib_index-none asize state s h = if_yes (with_high_bit (bit_x state) s.index == 4) _ _ (eq-eqb _ 4 h)

-- a SIB with an index
pub sib_index-some : (asize : Bits) (state : PrefixState) (s : Sib) → (with_high_bit (bit_x state) s.index == 4) ≡ false → sib_index asize state s ≡ Some (general_register asize (with_high_bit (bit_x state) s.index))
unfolding sib_index index_number
sib_index-some asize state s h = if_no (with_high_bit (bit_x state) s.index == 4) _ _ h

-- ---- registers of an address

-- a register of a general size is the one of its number
pub general_register-number : (r : Register) (size : Bits) → general_size r ≡ Some size → general_register size (register_number r) ≡ r
unfolding general_register general_size register_number
general_register-number (R16 n) B16 h = refl
general_register-number (R32 n) B32 h = refl
general_register-number (R64 n) B64 h = refl
general_register-number r size h = cc

-- a general register has the number that it is made from
pub number_of_general : (size : Bits) (n : ℕ) → register_number (general_register size n) ≡ n
unfolding general_register register_number
number_of_general B16 n = refl
number_of_general B32 n = refl
number_of_general B64 n = refl

-- a register of an address has its size and a number of the mode
pub record IsRegister (bits asize : Bits) (r : Register) : Type 0 where
  pub is : general_register asize (register_number r) ≡ r
  pub size : general_size r ≡ Some asize
  pub number : register_number r < register_count bits

size_from : (o : Option Bits) (asize : Bits) → (elim o [ None ↦ false | Some size ↦ same_bits size asize ]) ≡ true → o ≡ Some asize
size_from None asize h = cc
size_from (Some size) asize h = ap (λ (s : Bits). Some s) (same_bits-is size asize h)

-- a register that an address may have is a general register of the address size
pub address_register : (bits asize : Bits) (r : Register) → is_address_register bits asize r ≡ true → IsRegister bits asize r
unfolding is_address_register
address_register bits asize r h =
    let named : Bool = elim (general_size r) [ None ↦ false | Some size ↦ same_bits size asize ] in
    let size = size_from (general_size r) asize (and_parts named (nat_lt (register_number r) (register_count bits)) h).0 in
    record {
      is = general_register-number r asize size;
      size = size;
      number = ltb-true (register_number r) (register_count bits) (and_parts named (nat_lt (register_number r) (register_count bits)) h).1;
    }

-- a mode has at most 16 registers of a class
pub count_small : (bits : Bits) → register_count bits ≤ 16
unfolding register_count
count_small B16 = omega arith
count_small B32 = omega arith
count_small B64 = omega arith

-- a number is its low three bits and the bit that adds 8
pub extended_number : (bit : Bool) (n : ℕ) → n < 16 → bit ≡ nat_le 8 n → with_high_bit bit (n % 8) ≡ n
extended_number true n h e = let low : 8 ≤ n = leb-true 8 n (sym e) in omega arith
extended_number false n h e = elim (cases_Bool (nat_lt n 8)) [
  | inl yes1 ↦ (let low : n < 8 = ltb-true n 8 yes1 in omega arith)
  | inr no1 ↦ grind (arith, e, no1)
]

-- ---- forms

-- an address at RIP or EIP has that as its base
pub form-relative : (base index : Option Register) (size : Bits) → form_of base index ≡ Relative size → base ≡ Some (instruction_pointer size)
unfolding form_of
form-relative (Some Rip) index B64 h = refl
form-relative (Some Eip) index B32 h = refl
form-relative (Some r) index size h = cc
form-relative None None size h = cc
form-relative None (Some r) size h = cc

-- an address with a displacement alone has no base
pub form-alone : (base index : Option Register) → form_of base index ≡ Alone → base ≡ None
unfolding form_of
form-alone None index h = refl
form-alone (Some Rip) index h = cc
form-alone (Some r) index h = cc

-- and no index
pub form-alone-index : (base index : Option Register) → form_of base index ≡ Alone → index ≡ None
unfolding form_of
form-alone-index None None h = refl
form-alone-index None (Some r) h = cc
form-alone-index (Some Rip) index h = cc
form-alone-index (Some r) index h = cc

-- a 16-bit address has a 16-bit base
pub form-short : (base index : Option Register) (n : ℕ) → form_of base index ≡ Short n → base ≡ Some (R16 n)
unfolding form_of
form-short None None n h = cc
form-short None (Some r) n h = cc
form-short (Some (R16 k)) index n h = cc
form-short (Some r) index n h = cc

-- ---- the address size of an address

-- a size that is there agrees with this one
abbrev pub agrees : Bits → Option Bits → Bool
agrees asize o = elim o [ None ↦ true | Some size ↦ same_bits size asize ]

-- the size of an instruction pointer as a base
abbrev pub pointer_if : Option Register → Option Bits
pointer_if base = elim base [ None ↦ None | Some r ↦ pointer_size r ]

-- without an instruction pointer an address tells the size that its registers show
pub told_is_shown : (m : Mem) → pointer_if m.base ≡ None → told_size m ≡ shown_size m
unfolding told_size
told_is_shown m h = ap (λ (o : Option Bits). or_else o (shown_size m)) h

-- where the registers show this size or none, the address is written with it
pub written_is : (bits asize : Bits) (m : Mem) → agrees asize (shown_size m) ≡ true → written_size bits (Some asize) m ≡ asize
unfolding written_size
written_is bits asize m h = by_shown (shown_size m) h
  where
    by_shown : (o : Option Bits) → agrees asize o ≡ true → size_or o asize ≡ asize
    by_shown None h = refl
    by_shown (Some size) h = same_bits-is size asize h
