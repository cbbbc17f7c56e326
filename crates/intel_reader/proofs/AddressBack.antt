-- An address of an instruction with a plain spelling is made from its text, its address size and its displacement size.
use Rattle.std.proofs.Common.{◌≡◌, inl, inr, ℕ, ◌+◌, ◌-◌, ◌*◌, ◌%◌, ◌^◌, ◌<◌, Bool, true, false, ◌||◌, nat_le, nat_lt, Option, Some, None, is_some, is_none, refl, ap, sym, ◌∙◌, arith, if◌then◌else◌}
use Rattle.std.specs.Prelude.{unwrap_or}
use Rattle.std.proofs.lemmas.Bool.{leb-true, or_cases, and_parts, cases_Bool}
use borrow.Author.Tests.{ltb-true}
use Rattle.x86_values.specs.declared.Bits.{Bits}
use Rattle.x86_values.specs.declared.Bits.TheVariants.{B16, B32, B64}
use Rattle.x86_values.specs.declared.Register.{Register}
use Rattle.x86_values.specs.declared.Register.TheVariants.{Eip, Rip}
use Rattle.x86_values.specs.declared.DispSize.{DispSize}
use Rattle.x86_values.specs.declared.DispSize.TheVariants.{D0, D8, D16, D32, D64}
use Rattle.x86_values.specs.declared.Mem.{Mem}
use Rattle.x86_values.specs.Wrapping.{width}
use Rattle.plain_spelling.specs.Values.{is_extended_of}
use Rattle.row_relation.proofs.AddressCases as same
use Rattle.text_parts.specs.Addresses.{is_instruction_pointer, is_relative, is_absolute, is_negative, magnitude}
use Rattle.intel_words.specs.declared.words.Inside.{Inside}
use Rattle.intel_words.specs.declared.words.Inside.TheVariants.{Nothing, Lone}
use Rattle.intel_words.specs.Words.{is_eip, lone_of, signed_of, shown_scale, sum_of, inside_of}
use Rattle.intel_reader.specs.Candidate.{signed_number, displacement_from, address_from}

-- ---- numbers

-- a number of no bytes is 0
pub of_no_bytes : (a : Bits) (x : ℕ) → is_extended_of 0 (width a) x ≡ true → x ≡ 0
unfolding is_extended_of
of_no_bytes B16 x h =
    let below = ltb-true x (2 ^ 16) (and_parts (nat_lt x (2 ^ 16)) _ h).0 in
    elim (or_cases (nat_lt (2 * x) 1) (nat_le (2 * 2 ^ 16) (2 * x + 1)) (and_parts (nat_lt x (2 ^ 16)) _ h).1) [
      | inl low ↦ (let lt = ltb-true (2 * x) 1 low in omega arith)
      | inr high ↦ (let le = leb-true (2 * 2 ^ 16) (2 * x + 1) high in omega arith)
    ]
of_no_bytes B32 x h =
    let below = ltb-true x (2 ^ 32) (and_parts (nat_lt x (2 ^ 32)) _ h).0 in
    elim (or_cases (nat_lt (2 * x) 1) (nat_le (2 * 2 ^ 32) (2 * x + 1)) (and_parts (nat_lt x (2 ^ 32)) _ h).1) [
      | inl low ↦ (let lt = ltb-true (2 * x) 1 low in omega arith)
      | inr high ↦ (let le = leb-true (2 * 2 ^ 32) (2 * x + 1) high in omega arith)
    ]
of_no_bytes B64 x h =
    let below = ltb-true x (2 ^ 64) (and_parts (nat_lt x (2 ^ 64)) _ h).0 in
    elim (or_cases (nat_lt (2 * x) 1) (nat_le (2 * 2 ^ 64) (2 * x + 1)) (and_parts (nat_lt x (2 ^ 64)) _ h).1) [
      | inl low ↦ (let lt = ltb-true (2 * x) 1 low in omega arith)
      | inr high ↦ (let le = leb-true (2 * 2 ^ 64) (2 * x + 1) high in omega arith)
    ]

-- a sign-extended number of a width is below 2 to that width
pub of_width : (n w x : ℕ) → is_extended_of n w x ≡ true → x < 2 ^ w
unfolding is_extended_of
of_width n w x h = ltb-true x (2 ^ w) (and_parts (nat_lt x (2 ^ w)) _ h).0

-- a number modulo a power is made from its sign and its distance from zero
number_back : (a : Bits) (x : ℕ) → x < 2 ^ width a → signed_number a (is_negative a x) (magnitude a x) ≡ x
unfolding signed_number is_negative magnitude
number_back B16 x h = by_sign (nat_lt (2 ^ 16 - 1) (2 * (x % 2 ^ 16))) refl
  where
    by_sign : (b : Bool) → nat_lt (2 ^ 16 - 1) (2 * (x % 2 ^ 16)) ≡ b → signed_number B16 b (if b then 2 ^ 16 - x % 2 ^ 16 else x % 2 ^ 16) ≡ x
    by_sign true e = omega arith
    by_sign false e = omega arith
number_back B32 x h = by_sign (nat_lt (2 ^ 32 - 1) (2 * (x % 2 ^ 32))) refl
  where
    by_sign : (b : Bool) → nat_lt (2 ^ 32 - 1) (2 * (x % 2 ^ 32)) ≡ b → signed_number B32 b (if b then 2 ^ 32 - x % 2 ^ 32 else x % 2 ^ 32) ≡ x
    by_sign true e = omega arith
    by_sign false e = omega arith
number_back B64 x h = by_sign (nat_lt (2 ^ 64 - 1) (2 * (x % 2 ^ 64))) refl
  where
    by_sign : (b : Bool) → nat_lt (2 ^ 64 - 1) (2 * (x % 2 ^ 64)) ≡ b → signed_number B64 b (if b then 2 ^ 64 - x % 2 ^ 64 else x % 2 ^ 64) ≡ x
    by_sign true e = omega arith
    by_sign false e = omega arith

-- ---- the parts of an address

-- the displacement is a number of its bytes
pub record DisplacementIs (a : Bits) (size : DispSize) (disp : ℕ) : Type 0 where
  pub below : disp < 2 ^ width a
  pub none : size ≡ D0 → disp ≡ 0

displacement_back : (a : Bits) (m : Mem) (size : DispSize) → m.disp_size ≡ size → DisplacementIs a size m.disp → displacement_from a (signed_of a m) ≡ m.disp
unfolding displacement_from signed_of
displacement_back a m D0 e d = rw e (sym (d.none refl))
displacement_back a m D8 e d = rw e (number_back a m.disp d.below)
displacement_back a m D16 e d = rw e (number_back a m.disp d.below)
displacement_back a m D32 e d = rw e (number_back a m.disp d.below)
displacement_back a m D64 e d = rw e (number_back a m.disp d.below)

-- a scale that a text does not show is 1
pub record ScaleIs (a : Bits) (index : Option Register) (scale : ℕ) : Type 0 where
  pub short : a ≡ B16 → scale ≡ 1
  pub alone : index ≡ None → scale ≡ 1

scale_wide : (m : Mem) (index : Option Register) → m.index ≡ index → (index ≡ None → m.scale ≡ 1) → unwrap_or (elim m.index [ None ↦ None | Some r ↦ Some m.scale ]) 1 ≡ m.scale
scale_wide m None e h = rw e (sym (h refl))
scale_wide m (Some r) e h = rw e refl

scale_back : (a : Bits) (m : Mem) → ScaleIs a m.index m.scale → unwrap_or (shown_scale a m) 1 ≡ m.scale
unfolding shown_scale
scale_back B16 m s = sym (s.short refl)
scale_back B32 m s = scale_wide m m.index refl s.alone
scale_back B64 m s = scale_wide m m.index refl s.alone

-- ---- the address by its form

-- what the conditions say of an address at the address size of its instruction
pub record AddressIs (a : Bits) (m : Mem) : Type 0 where
  pub relative : is_relative m ≡ true → (m.index ≡ None) × (m.scale ≡ 1)
  pub displacement : is_relative m ≡ false → DisplacementIs a m.disp_size m.disp
  pub scale : ScaleIs a m.index m.scale
  pub number : m.disp < 2 ^ 64
  pub shown : a ≡ B16 → (is_some m.base || is_none m.index) ≡ true

pointer_back : (base : Option Register) → is_instruction_pointer base ≡ true → Some (if is_eip base then Eip else Rip) ≡ base
unfolding is_instruction_pointer is_eip
pointer_back None h = cc
pointer_back (Some Eip) h = refl
pointer_back (Some Rip) h = refl
pointer_back (Some r) h = cc

same_address : (a b : Mem) → a.base ≡ b.base → a.index ≡ b.index → a.scale ≡ b.scale → a.disp_size ≡ b.disp_size → a.disp ≡ b.disp → a ≡ b
same_address a b base index scale size disp =
    same.same_address a.base b.base a.index b.index a.scale b.scale a.disp b.disp a.disp_size b.disp_size base index scale disp size

relative_back : (a : Bits) (m : Mem) → AddressIs a m → is_relative m ≡ true → address_from a m.disp_size (inside_of a m) ≡ m
unfolding address_from inside_of
relative_back a m facts h =
    let f = facts.relative h in
    rw h (same_address _ m (pointer_back m.base h) (sym f.0) (sym f.1) refl refl)

lone_text : (m : Mem) (size : DispSize) → m.disp_size ≡ size → lone_of m ≡ (elim size [ D0 ↦ Nothing | _ ↦ Lone m.disp ])
unfolding lone_of
lone_text m size e = ap (λ (z : DispSize). let r : Inside = elim z [ D0 ↦ Nothing | _ ↦ Lone m.disp ] in r) e

lone_back : (a : Bits) (m : Mem) (size : DispSize) → m.disp_size ≡ size → (size ≡ D0 → m.disp ≡ 0) → m.base ≡ None → m.index ≡ None → m.scale ≡ 1 → address_from a m.disp_size (lone_of m) ≡ m
unfolding address_from
lone_back a m D0 e z b i s = ap (address_from a m.disp_size) (lone_text m D0 e) ∙ same_address (same.address None None 1 0 m.disp_size) m (sym b) (sym i) (sym s) refl (sym (z refl))
lone_back a m D8 e z b i s = ap (address_from a m.disp_size) (lone_text m D8 e) ∙ same_address (same.address None None 1 m.disp m.disp_size) m (sym b) (sym i) (sym s) refl refl
lone_back a m D16 e z b i s = ap (address_from a m.disp_size) (lone_text m D16 e) ∙ same_address (same.address None None 1 m.disp m.disp_size) m (sym b) (sym i) (sym s) refl refl
lone_back a m D32 e z b i s = ap (address_from a m.disp_size) (lone_text m D32 e) ∙ same_address (same.address None None 1 m.disp m.disp_size) m (sym b) (sym i) (sym s) refl refl
lone_back a m D64 e z b i s = ap (address_from a m.disp_size) (lone_text m D64 e) ∙ same_address (same.address None None 1 m.disp m.disp_size) m (sym b) (sym i) (sym s) refl refl

none_is : (o : Option Register) → is_none o ≡ true → o ≡ None
none_is None h = refl
none_is (Some r) h = cc

alone_back : (a : Bits) (m : Mem) → AddressIs a m → is_relative m ≡ false → is_absolute m ≡ true → address_from a m.disp_size (inside_of a m) ≡ m
unfolding inside_of
alone_back a m facts h k =
    let base = none_is m.base (and_parts (is_none m.base) (is_none m.index) k).0 in
    let index = none_is m.index (and_parts (is_none m.base) (is_none m.index) k).1 in
    rw h (rw k (lone_back a m m.disp_size refl (facts.displacement h).none base index (facts.scale.alone index)))

sum_back : (a : Bits) (m : Mem) → AddressIs a m → is_relative m ≡ false → is_absolute m ≡ false → address_from a m.disp_size (inside_of a m) ≡ m
unfolding inside_of address_from sum_of
sum_back a m facts h k =
    rw h (rw k (same_address _ m refl refl (scale_back a m facts.scale) refl (displacement_back a m m.disp_size refl (facts.displacement h))))

-- **an address is made from its text, its address size and its displacement size**
pub address_back : (a : Bits) (m : Mem) → AddressIs a m → address_from a m.disp_size (inside_of a m) ≡ m
address_back a m facts =
    elim (cases_Bool (is_relative m)) [
      | inl pointer ↦ relative_back a m facts pointer
      | inr other ↦ (elim (cases_Bool (is_absolute m)) [ inl alone ↦ alone_back a m facts other alone | inr beside ↦ sum_back a m facts other beside ])
    ]
