-- What has no target is spelled alike at every address, and has nothing to reach.
use Rattle.std.proofs.Common.{◌≡◌, ℕ, zero, suc, Bool, true, false, List, [], ◌∷◌, length, Option, Some, None, slice_get, slice_index_or, refl, arith}
use Rattle.std.specs.Prelude.{if◌then◌else◌, ◌||◌, Result, is_some}
use Rattle.x86_values.specs.declared.Bits.{Bits}
use Rattle.x86_values.specs.declared.DispSize.{DispSize}
use Rattle.x86_values.specs.declared.Register.{Register}
use Rattle.x86_values.specs.declared.Register.TheVariants.{Eip, Rip}
use Rattle.x86_values.specs.declared.Operand.{Operand}
use Rattle.x86_values.specs.declared.Operand.TheVariants.{Absent, Reg, Mem as Memory, Imm, Near, Far}
use Rattle.x86_values.specs.declared.Instr.{Instr}
use Rattle.x86_values.specs.Wrapping.{modulo_width}
use Rattle.instruction_parts.specs.declared.row_types.Row.{Row}
use Rattle.instruction_parts.specs.declared.row_types.OpKind.{OpKind}
use Rattle.instruction_parts.specs.declared.kinds.Method.{Method}
use Rattle.instruction_parts.specs.declared.kinds.Method.TheVariants as method
use Rattle.instruction_parts.specs.Kinds.{method_of}
use Rattle.row_fit.specs.Fits.{kind_at, immediate_bytes, is_offset}
use Rattle.row_fit.specs.Sound.{reads_rm}
use Rattle.plain_spelling.specs.Forms.{operand_at}
use Rattle.plain_spelling.specs.declared.addresses.AddressForm.{AddressForm}
use Rattle.plain_spelling.specs.declared.addresses.AddressForm.TheVariants.{Relative}
use Rattle.plain_spelling.specs.Values.{low_bytes, distance}
use Rattle.plain_spelling.specs.Addresses.{form_of, displacement_count}
use Rattle.plain_spelling.specs.PlainTail.{operand_where, address_operand, displacement_of, displacement_of_operand, operand_immediate, immediate_at, plain_immediates, plain_size, plain_next, plain_spelling}
use Rattle.plain_spelling.specs.Expressible.{address_reaches, target_suits, first_failed_condition, failure, failure_of}
use Rattle.opcode_rows.specs.Table.{table}
use Rattle.operand_info.specs.Operands.{near_value, ip_value, first_value}
use Rattle.encoder.specs.Encoding.{plain_bytes, encoded_by, encoding}
use Rattle.branch_sizes.specs.declared.plan.Reach.{Reach}
use Rattle.branch_sizes.specs.declared.plan.Reach.TheVariants.{Always}
use Rattle.plain_spelling.specs.declared.NoSpelling.{NoSpelling}
use Rattle.move_goals.specs.MovedTargets.Independent.{bytes_in, bytes_without, independent_bytes}
use Rattle.move_goals.specs.MovedTargets.Targets.{target_of, base_reach, operand_reach, target_reach}
use Rattle.move_goals.proofs.MovedTargets.Aims.{or_none, value_at, NoValue, no_value}
use Rattle.move_goals.proofs.MovedTargets.Reaches.{reached_by, target_of_operand_suits}

-- ---- one operand

-- the test of an address by its parts
base_alike : (base index : Option Register) (disp next other : ℕ) → value_at base disp ≡ None
    → reached_by next (form_of base index) disp ≡ reached_by other (form_of base index) disp
unfolding form_of
base_alike None None disp next other none = refl
base_alike None (Some r) disp next other none = refl
base_alike (Some Rip) index disp next other none = cc
base_alike (Some Eip) index disp next other none = cc
base_alike (Some _) index disp next other none = refl

-- the test of the target
suits-alike : (size : Bits) (next other n : ℕ) (op : Operand) → near_value op ≡ None → ip_value op ≡ None
    → target_of_operand_suits size next n op ≡ target_of_operand_suits size other n op
unfolding near_value ip_value address_reaches
suits-alike size next other n Absent near ip = refl
suits-alike size next other n (Reg r) near ip = refl
suits-alike size next other n (Memory m) near ip = base_alike m.base m.index m.disp next other ip
suits-alike size next other n (Imm x) near ip = refl
suits-alike size next other n (Near x) near ip = cc
suits-alike size next other n (Far x y) near ip = refl

-- the bytes of a displacement by the form of its address
abbrev displaced_by : ℕ → AddressForm → DispSize → ℕ → List ℕ
displaced_by next form size disp =
    elim form [ Relative width ↦ low_bytes (displacement_count size) (distance width next disp) | _ ↦ low_bytes (displacement_count size) disp ]

displaced-alike : (base index : Option Register) (size : DispSize) (disp next other : ℕ) → value_at base disp ≡ None
    → displaced_by next (form_of base index) size disp ≡ displaced_by other (form_of base index) size disp
unfolding form_of
displaced-alike None None size disp next other none = refl
displaced-alike None (Some r) size disp next other none = refl
displaced-alike (Some Rip) index size disp next other none = cc
displaced-alike (Some Eip) index size disp next other none = cc
displaced-alike (Some _) index size disp next other none = refl

-- the displacement
displacement-alike : (next other : ℕ) (op : Operand) → ip_value op ≡ None → displacement_of_operand next op ≡ displacement_of_operand other op
unfolding ip_value displacement_of
displacement-alike next other Absent ip = refl
displacement-alike next other (Reg r) ip = refl
displacement-alike next other (Memory m) ip = displaced-alike m.base m.index m.disp_size m.disp next other ip
displacement-alike next other (Imm x) ip = refl
displacement-alike next other (Near x) ip = refl
displacement-alike next other (Far x y) ip = refl

-- the offset
offset-alike : (size : Bits) (next other n : ℕ) (op : Operand) → near_value op ≡ None
    → operand_immediate size next method.Near n op ≡ operand_immediate size other method.Near n op
unfolding near_value operand_immediate
offset-alike size next other n Absent near = refl
offset-alike size next other n (Reg r) near = refl
offset-alike size next other n (Memory m) near = refl
offset-alike size next other n (Imm x) near = refl
offset-alike size next other n (Near x) near = cc
offset-alike size next other n (Far x y) near = refl

-- an immediate
immediate-alike : (size : Bits) (next other : ℕ) (how : Method) (n : ℕ) (op : Operand) → near_value op ≡ None
    → operand_immediate size next how n op ≡ operand_immediate size other how n op
unfolding operand_immediate
immediate-alike size next other method.Near n op near = offset-alike size next other n op near
immediate-alike size next other method.AsWritten n op near = refl
immediate-alike size next other method.Extended n op near = refl
immediate-alike size next other method.Pointer n op near = refl
immediate-alike size next other method.LastByte n op near = refl
immediate-alike size next other _ n op near = refl

-- ---- all operands

-- an operand chosen of two that have no address at RIP or EIP has none
chosen-none : (b : Bool) (x y : Operand) → ip_value x ≡ None → ip_value y ≡ None → ip_value (if b then x else y) ≡ None
chosen-none true x y a b = a
chosen-none false x y a b = b

where-none : (p : Method → Bool) (kinds : List OpKind) (ops : List Operand) → ((n : ℕ) → ip_value (slice_index_or ops n Absent) ≡ None)
    → ip_value (operand_where p kinds ops) ≡ None
unfolding ip_value
where-none p [] ops none = refl
where-none p (kind ∷ kinds) [] none = refl
where-none p (kind ∷ kinds) (op ∷ ops) none =
    chosen-none (p (method_of kind)) op (operand_where p kinds ops) (none 0) (where-none p kinds ops (λ n. none (suc n)))

-- none of four operands has one
each-none : (ops : List Operand) → length ops ≡ 4 → ip_value (slice_index_or ops 0 Absent) ≡ None → ip_value (slice_index_or ops 1 Absent) ≡ None
    → ip_value (slice_index_or ops 2 Absent) ≡ None → ip_value (slice_index_or ops 3 Absent) ≡ None → (n : ℕ) → ip_value (slice_index_or ops n Absent) ≡ None
unfolding ip_value
each-none [] four a b c d n = absurd (omega arith)
each-none (x ∷ []) four a b c d n = absurd (omega arith)
each-none (x ∷ y ∷ []) four a b c d n = absurd (omega arith)
each-none (x ∷ y ∷ z ∷ []) four a b c d n = absurd (omega arith)
each-none (x ∷ y ∷ z ∷ w ∷ []) four a b c d zero = a
each-none (x ∷ y ∷ z ∷ w ∷ []) four a b c d (suc zero) = b
each-none (x ∷ y ∷ z ∷ w ∷ []) four a b c d (suc (suc zero)) = c
each-none (x ∷ y ∷ z ∷ w ∷ []) four a b c d (suc (suc (suc zero))) = d
each-none (x ∷ y ∷ z ∷ w ∷ []) four a b c d (suc (suc (suc (suc n)))) = refl
each-none (x ∷ y ∷ z ∷ w ∷ v ∷ more) four a b c d n = absurd (omega arith)

-- ---- the encoding

module _ (bits : Bits) (ip other : ℕ) (row : Row) (i : Instr) (near : NoValue near_value i) (at : NoValue ip_value i) where
  -- one operand reaches its target alike
  target-alike : (n : ℕ) → near_value (operand_at i n) ≡ None → ip_value (operand_at i n) ≡ None
      → target_suits bits ip row i n ≡ target_suits bits other row i n
  unfolding target_suits
  target-alike n a b =
      suits-alike (plain_size bits row) (plain_next bits ip row i) (plain_next bits other row i)
      (immediate_bytes (plain_size bits row) (kind_at row n)) (operand_at i n) a b

  failure-alike : failure bits ip row i ≡ failure bits other row i
  unfolding failure first_failed_condition
  failure-alike =
      rw (
        target-alike 0 near.first at.first,
        target-alike 1 near.second at.second,
        target-alike 2 near.third at.third,
        target-alike 3 near.fourth at.fourth,
      ) refl

  -- the bytes of one operand
  own-alike : (n : ℕ) → near_value (operand_at i n) ≡ None
      → immediate_at (plain_size bits row) row i (plain_next bits ip row i) n ≡ immediate_at (plain_size bits row) row i (plain_next bits other row i) n
  unfolding immediate_at
  own-alike n a =
      immediate-alike (plain_size bits row) (plain_next bits ip row i) (plain_next bits other row i) (method_of (kind_at row n))
      (immediate_bytes (plain_size bits row) (kind_at row n)) (operand_at i n) a

  immediates-alike : plain_immediates (plain_size bits row) row i (plain_next bits ip row i)
      ≡ plain_immediates (plain_size bits row) row i (plain_next bits other row i)
  unfolding plain_immediates
  immediates-alike = rw (own-alike 0 near.first, own-alike 1 near.second, own-alike 2 near.third, own-alike 3 near.fourth) refl

  spelling-alike : length i.ops ≡ 4 → plain_spelling bits ip row i ≡ plain_spelling bits other row i
  unfolding plain_spelling
  spelling-alike four =
      let none = where-none (λ how. reads_rm how || is_offset how) row.ops i.ops (each-none i.ops four at.first at.second at.third at.fourth) in
      let disp = displacement-alike (plain_next bits ip row i) (plain_next bits other row i) (address_operand row i) none in
      rw (disp, immediates-alike) refl

row-alike : (bits : Bits) (ip other : ℕ) (row : Option Row) (i : Instr) → length i.ops ≡ 4 → NoValue near_value i → NoValue ip_value i
    → encoded_by (failure_of bits ip row i) (plain_bytes bits ip row i) ≡ encoded_by (failure_of bits other row i) (plain_bytes bits other row i)
row-alike bits ip other None i four near at = refl
row-alike bits ip other (Some row) i four near at =
    rw (failure-alike bits ip other row i near at, spelling-alike bits ip other row i near at four) refl

-- **what has no target is encoded alike at every address**
pub encoded-alike : (bits : Bits) (ip other : ℕ) (i : Instr) → length i.ops ≡ 4 → target_of i ≡ None → encoding bits ip i ≡ encoding bits other i
unfolding target_of encoding
encoded-alike bits ip other i four none =
    let both = or_none (first_value near_value i) (first_value ip_value i) none in
    row-alike bits (modulo_width bits ip) (modulo_width bits other) (slice_get table i.code.0) i four (no_value near_value i both.0) (no_value ip_value i both.1)

-- ---- the reach

base-free : (base : Option Register) (disp : ℕ) → value_at base disp ≡ None → base_reach base ≡ None
unfolding base_reach
base-free None disp none = refl
base-free (Some Rip) disp none = cc
base-free (Some Eip) disp none = cc
base-free (Some _) disp none = refl

operand-free : (op : Operand) → ip_value op ≡ None → operand_reach op ≡ None
unfolding ip_value operand_reach
operand-free Absent none = refl
operand-free (Reg r) none = refl
operand-free (Memory m) none = base-free m.base m.disp none
operand-free (Imm x) none = refl
operand-free (Near x) none = refl
operand-free (Far x y) none = refl

-- **what has no target has nothing to reach**
pub reach-free : (i : Instr) → target_of i ≡ None → target_reach i ≡ Always
unfolding target_of target_reach
reach-free i none =
    let at = no_value ip_value i (or_none (first_value near_value i) (first_value ip_value i) none).1 in
    rw (
      operand-free (operand_at i 0) at.first,
      operand-free (operand_at i 1) at.second,
      operand-free (operand_at i 2) at.third,
      operand-free (operand_at i 3) at.fourth,
    ) refl

-- ---- the bytes

some-bytes : (target : Option ℕ) (e : Result (List ℕ) NoSpelling) → is_some target ≡ true → [] ≡ bytes_without target e
some-bytes None e h = cc
some-bytes (Some t) e h = refl

-- what has a target has none
pub targeted-bytes : (bits : Bits) (i : Instr) → is_some (target_of i) ≡ true → [] ≡ independent_bytes bits i
unfolding independent_bytes
targeted-bytes bits i h = some-bytes (target_of i) (encoding bits 0 i) h

-- what has no target has those of its encoding
pub untargeted-bytes : (bits : Bits) (i : Instr) (e : Result (List ℕ) NoSpelling) → target_of i ≡ None → e ≡ encoding bits 0 i
    → bytes_in e ≡ independent_bytes bits i
unfolding independent_bytes
untargeted-bytes bits i e none is = rw (none, is) refl
