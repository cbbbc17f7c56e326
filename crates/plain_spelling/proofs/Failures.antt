-- No condition fails exactly where all hold.
use Rattle.std.proofs.Common.{◌≡◌, ℕ, Bool, true, false, ◌&&◌, not, refl}
use Rattle.std.specs.Prelude.{Option, Some, None, if◌then◌else◌}
use Rattle.x86_values.specs.declared.Bits.{Bits}
use Rattle.x86_values.specs.declared.Instr.{Instr}
use Rattle.instruction_parts.specs.declared.row_types.Row.{Row}
use Rattle.instruction_parts.specs.Counting.{or_else}
use Rattle.plain_spelling.specs.declared.NoSpelling.{NoSpelling}
use Rattle.plain_spelling.specs.declared.NoSpelling.TheVariants as cause
use Rattle.plain_spelling.specs.Expressible.{row_exists, kind_suits, register_suits, address_suits, displacement_offered, immediate_suits, target_suits, prefixes_suit, address_size_suits, is_short, gather_suits, is_operand_nameable, operand_suits, tail_suits, first_failing, caused_at, caused_unless, each_operand, first_failed_condition, failure, Suits}

neither : (a b : Option NoSpelling) → or_else a b ≡ None → (a ≡ None) × (b ≡ None)
neither None b h = (refl, h)
neither (Some x) b h = cc

unless-none : (b : Bool) (why : NoSpelling) → caused_unless b why ≡ None → b ≡ true
unless-none true why h = refl
unless-none false why h = cc

abbrev first_of : Bool → Bool → Bool → Bool → Option ℕ
first_of a b c d = if not a then Some 0 else (if not b then Some 1 else (if not c then Some 2 else (if not d then Some 3 else None)))

four-none : (a b c d : Bool) → first_of a b c d ≡ None → (a && (b && (c && d))) ≡ true
four-none true true true true h = refl
four-none true true true false h = cc
four-none true true false d h = cc
four-none true false c d h = cc
four-none false b c d h = cc

at-none : (why : ℕ → NoSpelling) (p : ℕ → Bool) → caused_at why (first_failing p) ≡ None → each_operand p ≡ true
unfolding first_failing
at-none why p h = four-none (p 0) (p 1) (p 2) (p 3) (from-none why _ h)
  where
    from-none : (why : ℕ → NoSpelling) (o : Option ℕ) → caused_at why o ≡ None → o ≡ None
    from-none why None h = refl
    from-none why (Some n) h = cc

-- where none of the conditions 2 to 9 fails, they hold
pub tail-suits : (bits : Bits) (ip : ℕ) (row : Row) (i : Instr) → row_exists bits row ≡ true → first_failed_condition bits ip row i ≡ None → Suits bits ip row i
unfolding first_failed_condition
tail-suits bits ip row i there h =
    let a = neither (caused_at cause.OperandKind (first_failing (kind_suits row i))) _ h in
    let b = neither (caused_at cause.Register (first_failing (register_suits bits row i))) _ a.1 in
    let c = neither (caused_unless (each_operand (address_suits bits row i)) cause.Memory) _ b.1 in
    let d = neither (caused_unless (each_operand (displacement_offered bits row i)) cause.Displacement) _ c.1 in
    let e = neither (caused_at cause.Immediate (first_failing (immediate_suits bits row i))) _ d.1 in
    let f = neither (caused_unless (each_operand (target_suits bits ip row i)) cause.Target) _ e.1 in
    let g = neither (caused_unless (prefixes_suit row i) cause.Prefix) _ f.1 in
    record {
      exists = there;
      kinds = at-none cause.OperandKind (kind_suits row i) a.0;
      registers = at-none cause.Register (register_suits bits row i) b.0;
      addresses = unless-none (each_operand (address_suits bits row i)) cause.Memory c.0;
      displacements = unless-none (each_operand (displacement_offered bits row i)) cause.Displacement d.0;
      immediates = at-none cause.Immediate (immediate_suits bits row i) e.0;
      targets = unless-none (each_operand (target_suits bits ip row i)) cause.Target f.0;
      prefixes = unless-none (prefixes_suit row i) cause.Prefix g.0;
      address_size = unless-none (address_size_suits bits row i) cause.AddressSize g.1;
    }

-- the registers suit then in every mode
pub tail-registers : (bits : Bits) (ip : ℕ) (row : Row) (i : Instr) → first_failed_condition bits ip row i ≡ None → each_operand (register_suits bits row i) ≡ true
unfolding first_failed_condition
tail-registers bits ip row i h =
    let a = neither (caused_at cause.OperandKind (first_failing (kind_suits row i))) _ h in
    at-none cause.Register (register_suits bits row i) (neither (caused_at cause.Register (first_failing (register_suits bits row i))) _ a.1).0

-- where none of the ten fails, all hold
pub failure-suits : (bits : Bits) (ip : ℕ) (row : Row) (i : Instr) → failure bits ip row i ≡ None → Suits bits ip row i × (is_short bits row i ≡ true)
unfolding failure
failure-suits bits ip row i h =
    let a = neither (caused_unless (row_exists bits row) cause.Row) _ h in
    let b = neither (first_failed_condition bits ip row i) _ a.1 in
    (tail-suits bits ip row i (unless-none (row_exists bits row) cause.Row a.0) b.0, unless-none (is_short bits row i) cause.Length b.1)

four-all : (a b c d : Bool) → (a && (b && (c && d))) ≡ true → first_of a b c d ≡ None
four-all true true true true h = refl
four-all true true true false h = cc
four-all true true false d h = cc
four-all true false c d h = cc
four-all false b c d h = cc

at-all : (why : ℕ → NoSpelling) (p : ℕ → Bool) → each_operand p ≡ true → caused_at why (first_failing p) ≡ None
unfolding first_failing
at-all why p h = rw (four-all (p 0) (p 1) (p 2) (p 3) h) refl

unless-all : (b : Bool) (why : NoSpelling) → b ≡ true → caused_unless b why ≡ None
unless-all b why h = rw h refl

-- and where they hold, none fails
pub suits-tail : (bits : Bits) (ip : ℕ) (row : Row) (i : Instr) → Suits bits ip row i → first_failed_condition bits ip row i ≡ None
unfolding first_failed_condition
suits-tail bits ip row i s =
    rw (at-all cause.OperandKind (kind_suits row i) s.kinds)
    (rw (at-all cause.Register (register_suits bits row i) s.registers)
    (rw (unless-all (each_operand (address_suits bits row i)) cause.Memory s.addresses)
    (rw (unless-all (each_operand (displacement_offered bits row i)) cause.Displacement s.displacements)
    (rw (at-all cause.Immediate (immediate_suits bits row i) s.immediates)
    (rw (unless-all (each_operand (target_suits bits ip row i)) cause.Target s.targets)
    (rw (unless-all (prefixes_suit row i) cause.Prefix s.prefixes)
    (unless-all (address_size_suits bits row i) cause.AddressSize s.address_size)))))))

-- an instruction that suits the row and is short enough fails no condition
pub suits-failure : (bits : Bits) (ip : ℕ) (row : Row) (i : Instr) → Suits bits ip row i → is_short bits row i ≡ true → failure bits ip row i ≡ None
unfolding failure
suits-failure bits ip row i s short =
    rw (unless-all (row_exists bits row) cause.Row s.exists)
    (rw (suits-tail bits ip row i s) (unless-all (is_short bits row i) cause.Length short))

-- ---- each operand gone over once

four-split : (a b c d : Bool) → (a && (b && (c && d))) ≡ true → (a ≡ true) × ((b ≡ true) × ((c ≡ true) × (d ≡ true)))
four-split true true true true h = (refl, (refl, (refl, refl)))
four-split true true true false h = cc
four-split true true false d h = cc
four-split true false c d h = cc
four-split false b c d h = cc

-- what an operand meets by itself
record OperandSuits (bits : Bits) (ip : ℕ) (row : Row) (i : Instr) (n : ℕ) : Type 0 where
  kind : kind_suits row i n ≡ true
  is_named : is_operand_nameable bits row i n ≡ true
  address : address_suits bits row i n ≡ true
  displacement : displacement_offered bits row i n ≡ true
  immediate : immediate_suits bits row i n ≡ true
  target : target_suits bits ip row i n ≡ true

six-split : (bits : Bits) (ip : ℕ) (row : Row) (i : Instr) (n : ℕ) (a b c d e f : Bool) → kind_suits row i n ≡ a → is_operand_nameable bits row i n ≡ b → address_suits bits row i n ≡ c
    → displacement_offered bits row i n ≡ d → immediate_suits bits row i n ≡ e → target_suits bits ip row i n ≡ f
    → (a && (b && (c && (d && (e && f))))) ≡ true → OperandSuits bits ip row i n
six-split bits ip row i n true true true true true true ea eb ec ed ee ef h = record { kind = ea; is_named = eb; address = ec; displacement = ed; immediate = ee; target = ef }
six-split bits ip row i n true true true true true false ea eb ec ed ee ef h = cc
six-split bits ip row i n true true true true false f ea eb ec ed ee ef h = cc
six-split bits ip row i n true true true false e f ea eb ec ed ee ef h = cc
six-split bits ip row i n true true false d e f ea eb ec ed ee ef h = cc
six-split bits ip row i n true false c d e f ea eb ec ed ee ef h = cc
six-split bits ip row i n false b c d e f ea eb ec ed ee ef h = cc

operand-split : (bits : Bits) (ip : ℕ) (row : Row) (i : Instr) (n : ℕ) → operand_suits bits ip row i n ≡ true → OperandSuits bits ip row i n
unfolding operand_suits
operand-split bits ip row i n h = six-split bits ip row i n _ _ _ _ _ _ refl refl refl refl refl refl h

register-from : (bits : Bits) (row : Row) (i : Instr) (n : ℕ) → is_operand_nameable bits row i n ≡ true → gather_suits row i n ≡ true → register_suits bits row i n ≡ true
unfolding is_operand_nameable register_suits
register-from bits row i n a b = rw a (rw b refl)

-- where each operand meets its conditions by itself, and the rules on the whole hold, none fails
pub tail-none : (bits : Bits) (ip : ℕ) (row : Row) (i : Instr) → tail_suits bits ip row i ≡ true → first_failed_condition bits ip row i ≡ None
unfolding tail_suits first_failed_condition
tail-none bits ip row i h =
    let p = four-split (each_operand (operand_suits bits ip row i)) (gather_suits row i 0) (prefixes_suit row i) (address_size_suits bits row i) h in
    let q = four-split (operand_suits bits ip row i 0) (operand_suits bits ip row i 1) (operand_suits bits ip row i 2) (operand_suits bits ip row i 3) p.0 in
    let a = operand-split bits ip row i 0 q.0 in
    let b = operand-split bits ip row i 1 q.1.0 in
    let c = operand-split bits ip row i 2 q.1.1.0 in
    let d = operand-split bits ip row i 3 q.1.1.1 in
    rw (at-all cause.OperandKind (kind_suits row i) (four-join _ _ _ _ a.kind b.kind c.kind d.kind))
    (rw (at-all cause.Register (register_suits bits row i) (four-join _ _ _ _ (register-from bits row i 0 a.is_named p.1.0) (register-from bits row i 1 b.is_named refl) (register-from bits row i 2 c.is_named refl) (register-from bits row i 3 d.is_named refl)))
    (rw (unless-all (each_operand (address_suits bits row i)) cause.Memory (four-join _ _ _ _ a.address b.address c.address d.address))
    (rw (unless-all (each_operand (displacement_offered bits row i)) cause.Displacement (four-join _ _ _ _ a.displacement b.displacement c.displacement d.displacement))
    (rw (at-all cause.Immediate (immediate_suits bits row i) (four-join _ _ _ _ a.immediate b.immediate c.immediate d.immediate))
    (rw (unless-all (each_operand (target_suits bits ip row i)) cause.Target (four-join _ _ _ _ a.target b.target c.target d.target))
    (rw (unless-all (prefixes_suit row i) cause.Prefix p.1.1.0)
    (unless-all (address_size_suits bits row i) cause.AddressSize p.1.1.1)))))))
  where
    four-join : (a b c d : Bool) → a ≡ true → b ≡ true → c ≡ true → d ≡ true → (a && (b && (c && d))) ≡ true
    four-join a b c d ha hb hc hd = rw (ha, hb, hc, hd) refl
