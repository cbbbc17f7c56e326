-- What the conditions say of the operands of an instruction: which are near targets, and how large their numbers are.
use Rattle.std.proofs.Common.{◌≡◌, ℕ, ◌-◌, ◌*◌, ◌^◌, ◌<◌, true, false, ◌&&◌, nat_lt, refl, sym, ◌∙◌, arith}
use Rattle.std.proofs.lemmas.Bool.{and_parts, eqb-true}
use borrow.Author.Tests.{ltb-true}
use Rattle.x86_values.specs.declared.Bits.{Bits}
use Rattle.x86_values.specs.declared.Bits.TheVariants.{B16, B32, B64}
use Rattle.x86_values.specs.declared.Operand.TheVariants.{Imm, Near, Far}
use Rattle.x86_values.specs.Wrapping.{width}
use Rattle.instruction_parts.specs.declared.row_types.Place.{Place}
use Rattle.instruction_parts.specs.declared.row_types.Place.TheVariants.{Any as AnyPlace, Memory as OnlyMemory, Register as OnlyRegister}
use Rattle.instruction_parts.specs.declared.row_types.OpKind.{OpKind}
use Rattle.instruction_parts.specs.declared.row_types.OpKind.TheVariants.{Ap, Ib, Iw, Iv}
use Rattle.instruction_parts.specs.declared.kinds.Method.{Method}
use Rattle.instruction_parts.specs.declared.kinds.Method.TheVariants as method
use Rattle.instruction_parts.specs.Kinds.{method_of, immediate_width}
use Rattle.row_fit.specs.Fits.{immediate_bytes}
use Rattle.plain_spelling.specs.Forms.{is_allowed_in, is_variant_of}
use Rattle.plain_spelling.specs.Expressible.{immediate_suits_how, near_reaches}
use Rattle.row_relation.proofs.AddressCases.{impossible}
use Rattle.intel_reader.specs.Operands.{is_near}
use Rattle.intel_reader.proofs.AddressBack.{of_width}

-- ---- near targets

-- a kind that takes an immediate is no near target
pub immediate_not_near : (place : Place) (how : Method) (x : ℕ) → is_variant_of place how (Imm x) ≡ true → is_near how ≡ false
unfolding is_variant_of is_near
immediate_not_near place method.Near x h = sym h
immediate_not_near place how x h = refl

allowed_near : (place : Place) (x : ℕ) → is_allowed_in place (Near x) ≡ false
unfolding is_allowed_in
allowed_near AnyPlace x = refl
allowed_near OnlyMemory x = refl
allowed_near OnlyRegister x = refl

-- a kind that takes a near target is one
pub near_is_near : (place : Place) (how : Method) (x : ℕ) → is_variant_of place how (Near x) ≡ true → is_near how ≡ true
unfolding is_variant_of is_near
near_is_near place method.Near x h = refl
near_is_near place method.RegisterOrMemory x h = sym (allowed_near place x) ∙ h
near_is_near place how x h = h

allowed_immediate : (place : Place) (x : ℕ) → is_allowed_in place (Imm x) ≡ false
unfolding is_allowed_in
allowed_immediate AnyPlace x = refl
allowed_immediate OnlyMemory x = refl
allowed_immediate OnlyRegister x = refl

allowed_far : (place : Place) (s o : ℕ) → is_allowed_in place (Far s o) ≡ false
unfolding is_allowed_in
allowed_far AnyPlace s o = refl
allowed_far OnlyMemory s o = refl
allowed_far OnlyRegister s o = refl

-- ---- how large numbers are

within_64 : (a : Bits) (x : ℕ) → x < 2 ^ width a → x < 2 ^ 64
within_64 B16 x h = omega arith
within_64 B32 x h = omega arith
within_64 B64 x h = h

written_below : (size : Bits) (kind : OpKind) (x : ℕ) → method_of kind ≡ method.AsWritten → nat_lt x (2 ^ (8 * immediate_bytes size kind)) ≡ true → x < 2 ^ 64
unfolding method_of immediate_bytes immediate_width
written_below size Ib x e h = let k = ltb-true x (2 ^ 8) h in omega arith
written_below size Iw x e h = let k = ltb-true x (2 ^ 16) h in omega arith
written_below B16 Iv x e h = let k = ltb-true x (2 ^ 16) h in omega arith
written_below B32 Iv x e h = let k = ltb-true x (2 ^ 32) h in omega arith
written_below B64 Iv x e h = ltb-true x (2 ^ 64) h
written_below size kind x e h = impossible cc

-- an immediate is a number of 64 bits
pub immediate_below : (size : Bits) (place : Place) (kind : OpKind) (how : Method) (x : ℕ) → method_of kind ≡ how → is_variant_of place how (Imm x) ≡ true
    → immediate_suits_how size how (immediate_bytes size kind) (Imm x) ≡ true → x < 2 ^ 64
unfolding is_variant_of immediate_suits_how
immediate_below size place kind method.AsWritten x e v h = written_below size kind x e h
immediate_below size place kind method.Extended x e v h = within_64 size x (of_width (immediate_bytes size kind) (width size) x h)
immediate_below size place kind method.One x e v h = let one = eqb-true x 1 h in omega arith
immediate_below size place kind method.RegisterOrMemory x e v h = impossible (sym v ∙ allowed_immediate place x)
immediate_below size place kind how x e v h = impossible (sym v)

-- a near target is a number of 64 bits
pub near_below : (size : Bits) (next n x : ℕ) → near_reaches size next n x ≡ true → x < 2 ^ 64
unfolding near_reaches
near_below size next n x h = within_64 size x (ltb-true x (2 ^ width size) (and_parts (nat_lt x (2 ^ width size)) _ h).0)

-- a selector has 16 bits and an offset 32
pub record FarIs (s o : ℕ) : Type 0 where
  pub selector : s < 2 ^ 16
  pub offset : o < 2 ^ 32

far_by_kind : (size : Bits) (kind : OpKind) (s o : ℕ) → method_of kind ≡ method.Pointer → (nat_lt s (2 ^ 16) && nat_lt o (2 ^ (8 * (immediate_bytes size kind - 2)))) ≡ true → (s < 2 ^ 16) × (o < 2 ^ 32)
unfolding method_of immediate_bytes immediate_width
far_by_kind B16 Ap s o e h =
    let low = ltb-true o (2 ^ 16) (and_parts (nat_lt s (2 ^ 16)) (nat_lt o (2 ^ 16)) h).1 in
    (ltb-true s (2 ^ 16) (and_parts (nat_lt s (2 ^ 16)) (nat_lt o (2 ^ 16)) h).0, omega arith)
far_by_kind B32 Ap s o e h = (ltb-true s (2 ^ 16) (and_parts (nat_lt s (2 ^ 16)) (nat_lt o (2 ^ 32)) h).0, ltb-true o (2 ^ 32) (and_parts (nat_lt s (2 ^ 16)) (nat_lt o (2 ^ 32)) h).1)
far_by_kind B64 Ap s o e h = (ltb-true s (2 ^ 16) (and_parts (nat_lt s (2 ^ 16)) (nat_lt o (2 ^ 32)) h).0, ltb-true o (2 ^ 32) (and_parts (nat_lt s (2 ^ 16)) (nat_lt o (2 ^ 32)) h).1)
far_by_kind size kind s o e h = impossible cc

-- a far pointer that is taken is below the numbers of its size
pub far_below : (size : Bits) (place : Place) (kind : OpKind) (how : Method) (s o : ℕ) → method_of kind ≡ how → is_variant_of place how (Far s o) ≡ true
    → immediate_suits_how size how (immediate_bytes size kind) (Far s o) ≡ true → FarIs s o
unfolding is_variant_of immediate_suits_how
far_below size place kind method.Pointer s o e v h =
    let k = far_by_kind size kind s o e h in record { selector = k.0; offset = k.1 }
far_below size place kind method.RegisterOrMemory s o e v h = impossible (sym v ∙ allowed_far place s o)
far_below size place kind how s o e v h = impossible (sym v)
