-- The operand that is told fails the condition of the cause: at most one operand can be memory or a near target.
use Rattle.std.proofs.Common.{◌≡◌, ◌⊎◌, inl, inr, ℕ, zero, suc, ◌<◌, Bool, true, false, ◌&&◌, not, Option, Some, None, refl, sym, ◌∙◌, subst, arith}
use Rattle.std.specs.Prelude.{if◌then◌else◌}
use Rattle.std.proofs.lemmas.Bool.{cases_Bool}
use Rattle.x86_values.specs.declared.Bits.{Bits}
use Rattle.x86_values.specs.declared.Mem.{Mem}
use Rattle.x86_values.specs.declared.Operand.{Operand}
use Rattle.x86_values.specs.declared.Operand.TheVariants.{Absent, Reg, Mem as MemOperand, Imm, Near, Far}
use Rattle.x86_values.specs.Operands.{is_memory, is_absent}
use Rattle.x86_values.specs.declared.Instr.{Instr}
use Rattle.instruction_parts.specs.declared.row_types.Row.{Row}
use Rattle.instruction_parts.specs.declared.row_types.Place.{Place}
use Rattle.instruction_parts.specs.declared.kinds.Method.{Method}
use Rattle.instruction_parts.specs.declared.kinds.Method.TheVariants as method
use Rattle.instruction_parts.specs.Kinds.{method_of}
use Rattle.instruction_parts.specs.Counting.{or_else}
use Rattle.row_fit.specs.Fits.{kind_at}
use Rattle.plain_spelling.specs.declared.NoSpelling.{NoSpelling}
use Rattle.plain_spelling.specs.declared.NoSpelling.TheVariants as cause
use Rattle.plain_spelling.specs.Forms.{is_register, is_immediate, is_far, is_variant_of, operand_at}
use Rattle.plain_spelling.specs.Expressible.{row_exists, kind_suits, register_suits, address_suits, displacement_offered, immediate_suits, target_suits, prefixes_suit, address_size_suits, is_short, first_failing, caused_at, caused_unless, each_operand, first_failed_condition, failure}
use Rattle.c_calls.specs.Answers.{first_place, may_have_target, failing_operand}
use Rattle.c_calls.specs.Failing.{may_be_target, can_be_target, at_most_one_of, has_one_target, IsFirstFailing, FailsAlone, IsFailing}

-- ---- the first of four tests that fails

first-of : (p : ℕ → Bool) (k : ℕ) → first_failing p ≡ Some k → IsFirstFailing p k
unfolding first_failing
first-of p k h = elim (cases_Bool (p 0)) [
  | inr a ↦ subst (IsFirstFailing p) (at 0 (rw a at h)) (record { within = omega arith; fails = a; before = λ n lt. absurd (omega (arith, lt)) })
  | inl a ↦ elim (cases_Bool (p 1)) [
    | inr b ↦ subst (IsFirstFailing p) (at 1 (rw (a, b) at h)) (record { within = omega arith; fails = b; before = below-1 a })
    | inl b ↦ elim (cases_Bool (p 2)) [
      | inr c ↦ subst (IsFirstFailing p) (at 2 (rw (a, b, c) at h)) (record { within = omega arith; fails = c; before = below-2 a b })
      | inl c ↦ elim (cases_Bool (p 3)) [
        | inr d ↦ subst (IsFirstFailing p) (at 3 (rw (a, b, c, d) at h)) (record { within = omega arith; fails = d; before = below-3 a b c })
        | inl d ↦ (let none : None ≡ Some k = rw (a, b, c, d) at h in absurd cc)
      ]
    ]
  ]
]
  where
    at : (n : ℕ) → Some n ≡ Some k → n ≡ k
    at n e = cc

    below-1 : p 0 ≡ true → (n : ℕ) → n < 1 → p n ≡ true
    below-1 a zero lt = a
    below-1 a (suc n) lt = absurd (omega (arith, lt))

    below-2 : p 0 ≡ true → p 1 ≡ true → (n : ℕ) → n < 2 → p n ≡ true
    below-2 a b zero lt = a
    below-2 a b (suc zero) lt = b
    below-2 a b (suc (suc n)) lt = absurd (omega (arith, lt))

    below-3 : p 0 ≡ true → p 1 ≡ true → p 2 ≡ true → (n : ℕ) → n < 3 → p n ≡ true
    below-3 a b c zero lt = a
    below-3 a b c (suc zero) lt = b
    below-3 a b c (suc (suc zero)) lt = c
    below-3 a b c (suc (suc (suc n))) lt = absurd (omega (arith, lt))

-- ---- the only one of four

-- a test that holds or has this number, and fails, has it
this-one : (n k : ℕ) (b : Bool) → (n ≡ k) ⊎ (b ≡ true) → b ≡ false → n ≡ k
this-one n k b (inl is) e = is
this-one n k b (inr h) e = absurd cc

-- of four tests each of which holds or has this number only that one fails
only-one : (p : ℕ → Bool) (k : ℕ) → (0 ≡ k) ⊎ (p 0 ≡ true) → (1 ≡ k) ⊎ (p 1 ≡ true) → (2 ≡ k) ⊎ (p 2 ≡ true) → (3 ≡ k) ⊎ (p 3 ≡ true)
    → (n : ℕ) → n < 4 → p n ≡ false → n ≡ k
only-one p k a b c d zero lt e = this-one 0 k (p 0) a e
only-one p k a b c d (suc zero) lt e = this-one 1 k (p 1) b e
only-one p k a b c d (suc (suc zero)) lt e = this-one 2 k (p 2) c e
only-one p k a b c d (suc (suc (suc zero))) lt e = this-one 3 k (p 3) d e
only-one p k a b c d (suc (suc (suc (suc n)))) lt e = absurd (omega (arith, lt))

-- what would make all of them hold fails where they do not
off : (x all : Bool) → (x ≡ true → all ≡ true) → all ≡ false → x ≡ false
off true all holds h = let g = holds refl in cc
off false all holds h = refl

-- three of them hold, and all do not
alone-0 : (p : ℕ → Bool) → p 1 ≡ true → p 2 ≡ true → p 3 ≡ true → each_operand p ≡ false → FailsAlone p 0
alone-0 p b c d h = record { within = omega arith; fails = off (p 0) (each_operand p) (λ a. rw (a, b, c, d) refl) h; others = only-one p 0 (inl refl) (inr b) (inr c) (inr d) }

alone-1 : (p : ℕ → Bool) → p 0 ≡ true → p 2 ≡ true → p 3 ≡ true → each_operand p ≡ false → FailsAlone p 1
alone-1 p a c d h = record { within = omega arith; fails = off (p 1) (each_operand p) (λ b. rw (a, b, c, d) refl) h; others = only-one p 1 (inr a) (inl refl) (inr c) (inr d) }

alone-2 : (p : ℕ → Bool) → p 0 ≡ true → p 1 ≡ true → p 3 ≡ true → each_operand p ≡ false → FailsAlone p 2
alone-2 p a b d h = record { within = omega arith; fails = off (p 2) (each_operand p) (λ c. rw (a, b, c, d) refl) h; others = only-one p 2 (inr a) (inr b) (inl refl) (inr d) }

alone-3 : (p : ℕ → Bool) → p 0 ≡ true → p 1 ≡ true → p 2 ≡ true → each_operand p ≡ false → FailsAlone p 3
alone-3 p a b c h = record { within = omega arith; fails = off (p 3) (each_operand p) (λ d. rw (a, b, c, d) refl) h; others = only-one p 3 (inr a) (inr b) (inr c) (inl refl) }

-- at most one of four tests passes
pub record OneOf (a b c d : Bool) : Type 0 where
  pub first : a ≡ true → (b ≡ false) × (c ≡ false) × (d ≡ false)
  pub second : b ≡ true → (c ≡ false) × (d ≡ false)
  pub third : c ≡ true → d ≡ false

-- the condition holds of an operand that does not pass a test, which at most one passes: so it fails at the first that does
alone-at : (p : ℕ → Bool) (a b c d : Bool) → OneOf a b c d → (a ≡ false → p 0 ≡ true) → (b ≡ false → p 1 ≡ true) → (c ≡ false → p 2 ≡ true)
    → (d ≡ false → p 3 ≡ true) → each_operand p ≡ false → FailsAlone p (first_place a b c d)
alone-at p true b c d one s t u v h = let o = one.first refl in alone-0 p (t o.0) (u o.1) (v o.2) h
alone-at p false true c d one s t u v h = let o = one.second refl in alone-1 p (s refl) (u o.0) (v o.1) h
alone-at p false false true d one s t u v h = alone-2 p (s refl) (t refl) (v (one.third refl)) h
alone-at p false false false true one s t u v h = alone-3 p (s refl) (t refl) (u refl) h
alone-at p false false false false one s t u v h =
    let all : true ≡ false = rw (s refl, t refl, u refl, v refl) at h in
    absurd cc

-- what passes a weaker test at most once passes a stronger one so
one-of : (a b c d : Bool) → at_most_one_of a b c d ≡ true → OneOf a b c d
one-of true true c d h = absurd (two c d h)
  where
    two : (c d : Bool) → at_most_one_of true true c d ≡ true → ⊥
    two true true h = cc
    two true false h = cc
    two false true h = cc
    two false false h = cc
one-of true false true true h = cc
one-of true false true false h = cc
one-of true false false true h = cc
one-of true false false false h = record { first = λ e. (refl, refl, refl); second = λ e. absurd cc; third = λ e. absurd cc }
one-of false true true true h = cc
one-of false true true false h = cc
one-of false true false true h = cc
one-of false true false false h = record { first = λ e. absurd cc; second = λ e. (refl, refl); third = λ e. absurd cc }
one-of false false true true h = cc
one-of false false true false h = record { first = λ e. absurd cc; second = λ e. absurd cc; third = λ e. refl }
one-of false false false d h = record { first = λ e. absurd cc; second = λ e. absurd cc; third = λ e. absurd cc }

weaker : (a b c d a' b' c' d' : Bool) → OneOf a b c d → (a' ≡ true → a ≡ true) → (b' ≡ true → b ≡ true) → (c' ≡ true → c ≡ true) → (d' ≡ true → d ≡ true)
    → OneOf a' b' c' d'
weaker a b c d a' b' c' d' one s t u v = record {
  first = λ e. let o = one.first (s e) in (not-up b b' t o.0, not-up c c' u o.1, not-up d d' v o.2);
  second = λ e. let o = one.second (t e) in (not-up c c' u o.0, not-up d d' v o.1);
  third = λ e. not-up d d' v (one.third (u e));
}
  where
    not-up : (x y : Bool) → (y ≡ true → x ≡ true) → x ≡ false → y ≡ false
    not-up x true f e = let g = f refl in absurd cc
    not-up x false f e = refl

-- ---- operands by their kinds

absent-none : (x : Operand) → is_absent x ≡ true → may_have_target x ≡ false
absent-none Absent h = refl
absent-none _ h = cc

register-none : (x : Operand) → is_register x ≡ true → may_have_target x ≡ false
register-none (Reg r) h = refl
register-none _ h = cc

immediate-none : (x : Operand) → is_immediate x ≡ true → may_have_target x ≡ false
immediate-none (Imm n) h = refl
immediate-none _ h = cc

far-none : (x : Operand) → is_far x ≡ true → may_have_target x ≡ false
far-none (Far s n) h = refl
far-none _ h = cc

opposed : (b : Bool) → b ≡ false → b ≡ true → false ≡ true
opposed b h k = sym h ∙ k

-- an operand that can have a target stands where the row has one that can be such
variant-target : (place : Place) (m : Method) (x : Operand) → is_variant_of place m x ≡ true → may_have_target x ≡ true → may_be_target m ≡ true
unfolding is_variant_of may_be_target
variant-target place method.Nothing x h k = opposed (may_have_target x) (absent-none x h) k
variant-target place method.ModRmReg x h k = opposed (may_have_target x) (register-none x h) k
variant-target place method.RegisterOrMemory x h k = refl
variant-target place method.RegisterOnly x h k = opposed (may_have_target x) (register-none x h) k
variant-target place method.MemoryOnly x h k = refl
variant-target place method.AnyMode x h k = opposed (may_have_target x) (register-none x h) k
variant-target place method.OpcodeLow x h k = opposed (may_have_target x) (register-none x h) k
variant-target place method.Vvvv x h k = opposed (may_have_target x) (register-none x h) k
variant-target place method.LastByte x h k = opposed (may_have_target x) (register-none x h) k
variant-target place method.Gather x h k = refl
variant-target place method.Offset x h k = refl
variant-target place method.AsWritten x h k = opposed (may_have_target x) (immediate-none x h) k
variant-target place method.Extended x h k = opposed (may_have_target x) (immediate-none x h) k
variant-target place method.Near x h k = refl
variant-target place method.Pointer x h k = opposed (may_have_target x) (far-none x h) k
variant-target place method.Fixed x h k = opposed (may_have_target x) (register-none x h) k
variant-target place method.One x h k = opposed (may_have_target x) (immediate-none x h) k

memory-target : (x : Operand) → is_memory x ≡ true → may_have_target x ≡ true
memory-target (MemOperand m) h = refl
memory-target _ h = cc

kind-target : (row : Row) (i : Instr) (n : ℕ) → kind_suits row i n ≡ true → may_have_target (operand_at i n) ≡ true → can_be_target row n ≡ true
unfolding kind_suits
kind-target row i n h k = variant-target row.place (method_of (kind_at row n)) (operand_at i n) h k

-- each of four that hold together
each-of : (p : ℕ → Bool) → each_operand p ≡ true → (p 0 ≡ true) × (p 1 ≡ true) × (p 2 ≡ true) × (p 3 ≡ true)
each-of p h = four (p 0) (p 1) (p 2) (p 3) h
  where
    four : (a b c d : Bool) → (a && (b && (c && d))) ≡ true → (a ≡ true) × (b ≡ true) × (c ≡ true) × (d ≡ true)
    four true true true true h = (refl, refl, refl, refl)
    four true true true false h = cc
    four true true false d h = cc
    four true false c d h = cc
    four false b c d h = cc

-- ---- the conditions of memory and of targets

no-memory : (f : Mem → Bool) (x : Operand) → is_memory x ≡ false → (elim x [ MemOperand m ↦ f m | _ ↦ true ]) ≡ true
no-memory f (MemOperand m) h = cc
no-memory f _ h = refl

no-target : (f : Mem → Bool) (g : ℕ → Bool) (x : Operand) → may_have_target x ≡ false → (elim x [ Near t ↦ g t | MemOperand m ↦ f m | _ ↦ true ]) ≡ true
no-target f g (MemOperand m) h = cc
no-target f g (Near n) h = cc
no-target f g _ h = refl

address-else : (bits : Bits) (row : Row) (i : Instr) (n : ℕ) → is_memory (operand_at i n) ≡ false → address_suits bits row i n ≡ true
unfolding address_suits
address-else bits row i n h = no-memory _ (operand_at i n) h

offered-else : (bits : Bits) (row : Row) (i : Instr) (n : ℕ) → is_memory (operand_at i n) ≡ false → displacement_offered bits row i n ≡ true
unfolding displacement_offered
offered-else bits row i n h = no-memory _ (operand_at i n) h

target-else : (bits : Bits) (ip : ℕ) (row : Row) (i : Instr) (n : ℕ) → may_have_target (operand_at i n) ≡ false → target_suits bits ip row i n ≡ true
unfolding target_suits
target-else bits ip row i n h = no-target _ _ (operand_at i n) h

module _ (row : Row) (i : Instr) (one : has_one_target row ≡ true) (kinds : each_operand (kind_suits row i) ≡ true) where
  targets-one : OneOf (may_have_target (operand_at i 0)) (may_have_target (operand_at i 1)) (may_have_target (operand_at i 2)) (may_have_target (operand_at i 3))
  unfolding has_one_target
  targets-one =
      let k = each-of (kind_suits row i) kinds in
      weaker _ _ _ _ _ _ _ _ (one-of (can_be_target row 0) (can_be_target row 1) (can_be_target row 2) (can_be_target row 3) one) (kind-target row i 0 k.0)
      (kind-target row i 1 k.1) (kind-target row i 2 k.2) (kind-target row i 3 k.3)

  memory-one : OneOf (is_memory (operand_at i 0)) (is_memory (operand_at i 1)) (is_memory (operand_at i 2)) (is_memory (operand_at i 3))
  memory-one =
      weaker _ _ _ _ _ _ _ _ targets-one (memory-target (operand_at i 0)) (memory-target (operand_at i 1)) (memory-target (operand_at i 2))
      (memory-target (operand_at i 3))

  address-alone : (bits : Bits) → each_operand (address_suits bits row i) ≡ false → FailsAlone (address_suits bits row i) (failing_operand i cause.Memory)
  address-alone bits h =
      alone-at (address_suits bits row i) _ _ _ _ memory-one (address-else bits row i 0) (address-else bits row i 1) (address-else bits row i 2)
      (address-else bits row i 3) h

  offered-alone : (bits : Bits) → each_operand (displacement_offered bits row i) ≡ false → FailsAlone (displacement_offered bits row i) (failing_operand i cause.Displacement)
  offered-alone bits h =
      alone-at (displacement_offered bits row i) _ _ _ _ memory-one (offered-else bits row i 0) (offered-else bits row i 1) (offered-else bits row i 2)
      (offered-else bits row i 3) h

  target-alone : (bits : Bits) (ip : ℕ) → each_operand (target_suits bits ip row i) ≡ false → FailsAlone (target_suits bits ip row i) (failing_operand i cause.Target)
  target-alone bits ip h =
      alone-at (target_suits bits ip row i) _ _ _ _ targets-one (target-else bits ip row i 0) (target-else bits ip row i 1) (target-else bits ip row i 2)
      (target-else bits ip row i 3) h

-- ---- the causes in turn

-- the first of two causes, or the second where there is no first
first-or : (a b : Option NoSpelling) (w : NoSpelling) → or_else a b ≡ Some w → (a ≡ Some w) ⊎ ((a ≡ None) × (b ≡ Some w))
first-or None b w h = inr (refl, h)
first-or (Some x) b w h = inl h

unless-some : (b : Bool) (why w : NoSpelling) → caused_unless b why ≡ Some w → (b ≡ false) × (why ≡ w)
unless-some true why w h = cc
unless-some false why w h = (refl, cc)

at-some : (why : ℕ → NoSpelling) (o : Option ℕ) (w : NoSpelling) → caused_at why o ≡ Some w → (n : ℕ) × (o ≡ Some n) × (why n ≡ w)
at-some why None w h = cc
at-some why (Some n) w h = (n, refl, cc)

at-none : (why : ℕ → NoSpelling) (p : ℕ → Bool) → caused_at why (first_failing p) ≡ None → each_operand p ≡ true
unfolding first_failing
at-none why p h = four (p 0) (p 1) (p 2) (p 3) h
  where
    four : (a b c d : Bool) →
        caused_at why (if not a then Some 0 else (if not b then Some 1 else (if not c then Some 2 else (if not d then Some 3 else None)))) ≡ None
        → (a && (b && (c && d))) ≡ true
    four true true true true h = refl
    four true true true false h = cc
    four true true false d h = cc
    four true false c d h = cc
    four false b c d h = cc

-- the operand that is reported is the first that fails the condition
pub failing-is : (bits : Bits) (ip : ℕ) (row : Row) (i : Instr) (w : NoSpelling) → has_one_target row ≡ true → failure bits ip row i ≡ Some w
    → IsFailing bits ip row i w
unfolding failure first_failed_condition
failing-is bits ip row i w one h = elim (first-or (caused_unless (row_exists bits row) cause.Row) _ w h) [
  | inl e ↦ subst P (unless-some (row_exists bits row) cause.Row w e).1 tt
  | inr a ↦ elim (first-or (or_else (caused_at cause.OperandKind (first_failing (kind_suits row i))) _) (caused_unless (is_short bits row i) cause.Length) w a.1) [
    | inr l ↦ subst P (unless-some (is_short bits row i) cause.Length w l.1).1 tt
    | inl c ↦ elim (first-or (caused_at cause.OperandKind (first_failing (kind_suits row i))) _ w c) [
      | inl e ↦ (let f = at-some cause.OperandKind (first_failing (kind_suits row i)) w e in subst P f.2 (first-of (kind_suits row i) f.0 f.1))
      | inr d ↦ behind-kinds (at-none cause.OperandKind (kind_suits row i) d.0) d.1
    ]
  ]
]
  where
    P : NoSpelling → Type 0
    P = IsFailing bits ip row i

    behind-address : each_operand (kind_suits row i) ≡ true
        → or_else (caused_unless (each_operand (displacement_offered bits row i)) cause.Displacement)
        (or_else (caused_at cause.Immediate (first_failing (immediate_suits bits row i)))
        (or_else (caused_unless (each_operand (target_suits bits ip row i)) cause.Target)
        (or_else (caused_unless (prefixes_suit row i) cause.Prefix)
        (caused_unless (address_size_suits bits row i) cause.AddressSize)))) ≡ Some w → P w
    behind-address kinds h = elim (first-or (caused_unless (each_operand (displacement_offered bits row i)) cause.Displacement) _ w h) [
      | inl e ↦ (let f = unless-some (each_operand (displacement_offered bits row i)) cause.Displacement w e in subst P f.1 (offered-alone row i one kinds bits f.0))
      | inr b ↦ elim (first-or (caused_at cause.Immediate (first_failing (immediate_suits bits row i))) _ w b.1) [
        | inl e ↦ (let f = at-some cause.Immediate (first_failing (immediate_suits bits row i)) w e in subst P f.2 (first-of (immediate_suits bits row i) f.0 f.1))
        | inr c ↦ elim (first-or (caused_unless (each_operand (target_suits bits ip row i)) cause.Target) _ w c.1) [
          | inl e ↦ (let f = unless-some (each_operand (target_suits bits ip row i)) cause.Target w e in subst P f.1 (target-alone row i one kinds bits ip f.0))
          | inr d ↦ elim (first-or (caused_unless (prefixes_suit row i) cause.Prefix) _ w d.1) [
            | inl e ↦ subst P (unless-some (prefixes_suit row i) cause.Prefix w e).1 tt
            | inr e ↦ subst P (unless-some (address_size_suits bits row i) cause.AddressSize w e.1).1 tt
          ]
        ]
      ]
    ]

    behind-kinds : each_operand (kind_suits row i) ≡ true
        → or_else (caused_at cause.Register (first_failing (register_suits bits row i)))
        (or_else (caused_unless (each_operand (address_suits bits row i)) cause.Memory)
        (or_else (caused_unless (each_operand (displacement_offered bits row i)) cause.Displacement)
        (or_else (caused_at cause.Immediate (first_failing (immediate_suits bits row i)))
        (or_else (caused_unless (each_operand (target_suits bits ip row i)) cause.Target)
        (or_else (caused_unless (prefixes_suit row i) cause.Prefix)
        (caused_unless (address_size_suits bits row i) cause.AddressSize)))))) ≡ Some w → P w
    behind-kinds kinds h = elim (first-or (caused_at cause.Register (first_failing (register_suits bits row i))) _ w h) [
      | inl e ↦ (let f = at-some cause.Register (first_failing (register_suits bits row i)) w e in subst P f.2 (first-of (register_suits bits row i) f.0 f.1))
      | inr b ↦ elim (first-or (caused_unless (each_operand (address_suits bits row i)) cause.Memory) _ w b.1) [
        | inl e ↦ (let f = unless-some (each_operand (address_suits bits row i)) cause.Memory w e in subst P f.1 (address-alone row i one kinds bits f.0))
        | inr c ↦ behind-address kinds c.1
      ]
    ]
