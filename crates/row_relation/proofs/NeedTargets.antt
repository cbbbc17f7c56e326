-- In a fitting spelling near targets and addresses at RIP and EIP are in reach of their bytes.
use Rattle.std.proofs.Common.{◌≡◌, inl, inr, ℕ, ◌+◌, ◌^◌, ◌<◌, ◌≤◌, Bool, true, false, ◌&&◌, ◌==◌, nat_lt, List, length, Option, Some, None, is_some, is_none, refl, ap, sym, subst, arith, if◌then◌else◌}
use Rattle.std.proofs.lemmas.Bool.{lt-ltb, and_parts, cases_Bool, eqb-true}
use Rattle.x86_values.specs.declared.Bits.{Bits}
use Rattle.x86_values.specs.declared.Bits.TheVariants.{B16, B32, B64}
use Rattle.x86_values.specs.declared.Code.{Code}
use Rattle.x86_values.specs.declared.Register.{Register}
use Rattle.x86_values.specs.declared.Register.TheVariants.{R16, Eip, Rip}
use Rattle.x86_values.specs.declared.Mem.{Mem}
use Rattle.x86_values.specs.declared.Operand.{Operand}
use Rattle.x86_values.specs.declared.Operand.TheVariants.{Reg, Mem as MemOperand, Near}
use Rattle.x86_values.specs.declared.Instr.{Instr}
use Rattle.x86_values.specs.Wrapping.{width, modulo_width}
use Rattle.instruction_parts.specs.declared.row_types.Row.{Row}
use Rattle.instruction_parts.specs.declared.row_types.OpKind.{OpKind}
use Rattle.row_fit.proofs.FitLaws.{ranges_behind}
use Rattle.instruction_parts.specs.declared.kinds.Method.{Method}
use Rattle.instruction_parts.specs.declared.kinds.Method.TheVariants as method
use Rattle.instruction_parts.specs.declared.kinds.File.{File}
use Rattle.instruction_parts.specs.declared.spelling.ModRm.{ModRm}
use Rattle.instruction_parts.specs.declared.spelling.Sib.{Sib}
use Rattle.instruction_parts.specs.declared.spelling.PrefixState.{PrefixState}
use Rattle.instruction_parts.specs.declared.spelling.Spelling.{Spelling}
use Rattle.instruction_parts.specs.Kinds.{method_of, file_of}
use Rattle.instruction_parts.specs.Counting.{is_16}
use Rattle.instruction_parts.specs.Sizes.{state_size, state_address_size}
use Rattle.instruction_parts.specs.Bytes.{state_of, bytes_of}
use Rattle.row_fit.specs.Fits.{are_bytes, kind_at, immediate_bytes, immediates_bytes, has_modrm, reads_mode, same_bool, needs_sib, full_displacement, displacement_bytes, is_displacement_alone, address_fits, lengths_fit, rm_number}
use Rattle.row_meaning.specs.Meaning.{Tail, tail_of, operand_by, own_immediate, near_target, far_pointer, with_modrm, register_of, target_of, base_16, memory_16, ip_or_absolute, memory_with_sib, memory_at_base, memory_wide, memory_of, memory_absolute, memory_operand, gather_memory, sib_base, general_register}
use Rattle.row_meaning.specs.Meaning as meant
use Rattle.plain_spelling.specs.Values.{is_extended_of, distance}
use Rattle.plain_spelling.specs.Forms.{operand_at}
use Rattle.plain_spelling.specs.declared.addresses.AddressForm.TheVariants.{Relative}
use Rattle.plain_spelling.specs.Addresses.{form_of}
use Rattle.plain_spelling.specs.PlainTail.{plain_size, plain_len, plain_next}
use Rattle.plain_spelling.specs.Expressible.{each_operand, near_reaches, address_reaches, target_suits}
use Rattle.plain_spelling.proofs.Asked.{each-from}
use Rattle.row_relation.proofs.WrittenValues.{is_extended-more, distance-of-target, target-below}
use Rattle.plain_spelling.proofs.ImmediateBytes.{bytes_short}
use Rattle.row_relation.specs.GivenSpelling.{Given}
use Rattle.row_relation.proofs.NeedImmediates.{BySize, size-at, operand-meant, own-bytes, own-length-at}

-- ---- addresses at no instruction pointer

abbrev is_pointer : Option Register → Bool
is_pointer (Some Eip) = true
is_pointer (Some Rip) = true
is_pointer _ = false

-- the test of an address by its parts
abbrev parts_reach : ℕ → ℕ → Option Register → Option Register → Bool
parts_reach next disp base index =
    elim (form_of base index) [ Relative size ↦ is_extended_of 4 (width size) (distance size next disp) | _ ↦ true ]

no_pointer : (next disp : ℕ) (base index : Option Register) → is_pointer base ≡ false → parts_reach next disp base index ≡ true
unfolding form_of
no_pointer next disp None None h = refl
no_pointer next disp None (Some r) h = refl
no_pointer next disp (Some Eip) index h = cc
no_pointer next disp (Some Rip) index h = cc
no_pointer next disp (Some _) index h = refl

without_pointer : (next : ℕ) (m : Mem) → is_pointer m.base ≡ false → address_reaches next m ≡ true
unfolding address_reaches
without_pointer next m h = no_pointer next m.disp m.base m.index h

if_is : {T : Type 0} (P : T → Type 0) (test : Bool) (x y : T) → P x → P y → P (if test then x else y)
if_is P true x y hx hy = hx
if_is P false x y hx hy = hy

-- an address is reached
abbrev Reached : ℕ → Mem → Type 0
Reached next m = address_reaches next m ≡ true

-- a register is no instruction pointer
abbrev IsPlain : Register → Type 0
IsPlain r = is_pointer (Some r) ≡ false

general_plain : (size : Bits) (n : ℕ) → IsPlain (general_register size n)
unfolding general_register
general_plain B16 n = refl
general_plain B32 n = refl
general_plain B64 n = refl

base_16_plain : (rm : ℕ) → IsPlain (base_16 rm)
unfolding base_16
base_16_plain rm =
    if_is IsPlain (rm == 0) (R16 3) _ refl (if_is IsPlain (rm == 1) (R16 3) _ refl (if_is IsPlain (rm == 2) (R16 5) _ refl (if_is IsPlain (rm == 3) (R16 5) _ refl
    (if_is IsPlain (rm == 4) (R16 6) _ refl (if_is IsPlain (rm == 5) (R16 7) _ refl (if_is IsPlain (rm == 6) (R16 5) (R16 3) refl refl))))))

-- an address has no instruction pointer as its base
record HasPlainBase (m : Mem) : Type 0 where
  base_is : is_pointer m.base ≡ false

plain_16 : (m : ModRm) (disp : List ℕ) → HasPlainBase (memory_16 m disp)
unfolding memory_16
plain_16 m disp = if_is HasPlainBase (is_displacement_alone B16 m None) _ _ (record { base_is = refl }) (record { base_is = base_16_plain m.rm })

reached_16 : (next : ℕ) (m : ModRm) (disp : List ℕ) → Reached next (memory_16 m disp)
reached_16 next m disp = without_pointer next (memory_16 m disp) (plain_16 m disp).base_is

sib_base_plain : (bits asize : Bits) (st : PrefixState) (m : ModRm) (s : Sib) → is_pointer (sib_base bits asize st m s) ≡ false
unfolding sib_base
sib_base_plain bits asize st m s =
    if_is (λ (o : Option Register). is_pointer o ≡ false) (m.mode3 == 0 && s.base == 5) None _ refl (general_plain asize _)

reached_with_sib : (bits asize : Bits) (st : PrefixState) (index : Option Register) (m : ModRm) (s : Sib) (next : ℕ) (disp : List ℕ) → Reached next (memory_with_sib bits asize st index m s disp)
unfolding memory_with_sib
reached_with_sib bits asize st index m s next disp = without_pointer next _ (sib_base_plain bits asize st m s)

reached_at_base : (bits asize : Bits) (st : PrefixState) (m : ModRm) (next : ℕ) (disp : List ℕ) → Reached next (memory_at_base bits asize st m disp)
unfolding memory_at_base
reached_at_base bits asize st m next disp = without_pointer next _ (general_plain asize _)

-- ---- addresses at an instruction pointer

four_bytes : (size : Bits) (next : ℕ) (disp : List ℕ) → length disp ≤ 4 → next < 2 ^ 64 → are_bytes disp ≡ true → is_extended_of 4 (width size) (distance size next (target_of size next disp)) ≡ true
four_bytes size next disp short below h =
    is_extended-more (length disp) 4 (width size) (distance size next (target_of size next disp)) short (distance-of-target size next disp (omega arith) below h)

reached_alone : (bits asize : Bits) (next : ℕ) (disp : List ℕ) → is_16 asize ≡ false → length disp ≤ 4 → next < 2 ^ 64 → are_bytes disp ≡ true → Reached next (ip_or_absolute bits asize next disp)
unfolding ip_or_absolute address_reaches form_of
reached_alone B64 B64 next disp wide short below h = four_bytes B64 next disp short below h
reached_alone B64 B32 next disp wide short below h = four_bytes B32 next disp short below h
reached_alone B64 B16 next disp wide short below h = cc
reached_alone B32 asize next disp wide short below h = refl
reached_alone B16 asize next disp wide short below h = refl

reached_wide : (bits asize : Bits) (st : PrefixState) (m : ModRm) (sib : Option Sib) (next : ℕ) (disp : List ℕ) → is_16 asize ≡ false → length disp ≤ 4 → next < 2 ^ 64 → are_bytes disp ≡ true → Reached next (memory_wide bits asize st m sib next disp)
unfolding memory_wide
reached_wide bits asize st m (Some s) next disp wide short below h = reached_with_sib bits asize st _ m s next disp
reached_wide bits asize st m None next disp wide short below h =
    if_is (Reached next) (m.mode3 == 0 && m.rm == 5) _ _ (reached_alone bits asize next disp wide short below h) (reached_at_base bits asize st m next disp)

reached_any : (bits asize : Bits) (st : PrefixState) (m : ModRm) (sib : Option Sib) (next : ℕ) (disp : List ℕ) → length disp ≤ 4 → next < 2 ^ 64 → are_bytes disp ≡ true → Reached next (memory_of bits asize st m sib next disp)
unfolding memory_of
reached_any bits B16 st m sib next disp short below h = reached_16 next m disp
reached_any bits B32 st m sib next disp short below h = reached_wide bits B32 st m sib next disp refl short below h
reached_any bits B64 st m sib next disp short below h = reached_wide bits B64 st m sib next disp refl short below h

-- ---- one operand

-- the test of a target
abbrev target_test : Bits → ℕ → ℕ → Operand → Bool
target_test size next k op = elim op [ Near target ↦ near_reaches size next k target | MemOperand m ↦ address_reaches next m | _ ↦ true ]

-- what an operand reads of a tail is in reach
abbrev IsInReach : Bits → ℕ → ℕ → Operand → Type 0
IsInReach size next k op = target_test size next k op ≡ true

-- a displacement behind a ModRM has at most four bytes
abbrev DispIsShort : Option ModRm → List ℕ → Type 0
DispIsShort None disp = Unit {0}
DispIsShort (Some m) disp = length disp ≤ 4

memory_in_reach : (bits : Bits) (st : PrefixState) (size : Bits) (k : ℕ) (m : Option ModRm) (sib : Option Sib) (disp : List ℕ) (next : ℕ) → DispIsShort m disp → next < 2 ^ 64 → are_bytes disp ≡ true → IsInReach size next k (memory_operand bits st m sib disp next)
unfolding memory_operand
memory_in_reach bits st size k None sib disp next short below h = refl
memory_in_reach bits st size k (Some m) sib disp next short below h = reached_any bits (state_address_size bits st) st m sib next disp short below h

gather_in_reach : (bits : Bits) (row : Row) (st : PrefixState) (file : File) (size : Bits) (k : ℕ) (m : Option ModRm) (sib : Option Sib) (disp : List ℕ) (next : ℕ) → IsInReach size next k (with_modrm (λ (m : ModRm). gather_memory bits row st file m sib disp) m)
unfolding gather_memory
gather_in_reach bits row st file size k None sib disp next = refl
gather_in_reach bits row st file size k (Some m) None disp next = refl
gather_in_reach bits row st file size k (Some m) (Some s) disp next = reached_with_sib bits (state_address_size bits st) st _ m s next disp

absolute_reached : (asize : Bits) (next : ℕ) (disp : List ℕ) → Reached next (memory_absolute asize disp)
unfolding memory_absolute
absolute_reached asize next disp = without_pointer next _ refl

near_in_reach : (size : Bits) (next k : ℕ) (own : List ℕ) → length own ≡ k → k ≤ 8 → next < 2 ^ 64 → are_bytes own ≡ true → IsInReach size next k (near_target size next own)
unfolding near_target near_reaches
near_in_reach size next k own e short below h =
    let inside = lt-ltb (target_of size next own) (2 ^ width size) (target-below size next own) in
    let reach : is_extended_of k (width size) (distance size next (target_of size next own)) ≡ true =
    subst (λ (n : ℕ). is_extended_of n (width size) (distance size next (target_of size next own)) ≡ true) e (distance-of-target size next own (omega arith) below h) in
    rw inside reach

read_in_reach : (bits : Bits) (row : Row) (st : PrefixState) (t : Tail) (kind : OpKind) (size : Bits) (k : ℕ) (how : Method) (own : List ℕ) → length own ≡ k → k ≤ 8 → are_bytes own ≡ true → BySize how (state_size bits row st ≡ size) → t.next < 2 ^ 64 → DispIsShort t.modrm t.disp → are_bytes t.disp ≡ true → IsInReach size t.next k (operand_by bits row st t kind how own)
unfolding operand_by far_pointer
read_in_reach bits row st t kind size k method.RegisterOrMemory own e short h told below disp hd =
    if_is (IsInReach size t.next k) (has_modrm (λ m. nat_lt m.mode3 3) t.modrm) (memory_operand bits st t.modrm t.sib t.disp t.next) (Reg (register_of bits row st (file_of kind) (rm_number bits st t.modrm)))
    (memory_in_reach bits st size k t.modrm t.sib t.disp t.next disp below hd) refl
read_in_reach bits row st t kind size k method.MemoryOnly own e short h told below disp hd = memory_in_reach bits st size k t.modrm t.sib t.disp t.next disp below hd
read_in_reach bits row st t kind size k method.Gather own e short h told below disp hd = gather_in_reach bits row st (file_of kind) size k t.modrm t.sib t.disp t.next
read_in_reach bits row st t kind size k method.Offset own e short h told below disp hd = absolute_reached (state_address_size bits st) t.next t.disp
read_in_reach bits row st t kind size k method.Near own e short h told below disp hd =
    subst (λ (x : Bits). IsInReach size t.next k (near_target x t.next own)) (sym told) (near_in_reach size t.next k own e short below h)
read_in_reach bits row st t kind size k _ own e short h told below disp hd = refl

-- ---- the tail of a fitting spelling

displacement_short : (asize : Bits) (m : ModRm) (sib : Option Sib) → displacement_bytes asize m sib ≤ 4
unfolding displacement_bytes
displacement_short asize m sib =
    let full : full_displacement asize ≤ 4 = if_is (λ (n : ℕ). n ≤ 4) (is_16 asize) 2 4 (omega arith) (omega arith) in
    if_is (λ (n : ℕ). n ≤ 4) (is_displacement_alone asize m sib) (full_displacement asize) _ full
    (if_is (λ (n : ℕ). n ≤ 4) (m.mode3 == 1) 1 _ (omega arith) (if_is (λ (n : ℕ). n ≤ 4) (m.mode3 == 2) (full_displacement asize) 0 full (omega arith)))

address_short : (asize : Bits) (row : Row) (m : Option ModRm) (sib : Option Sib) (disp : List ℕ) → address_fits asize row m sib (length disp) ≡ true → DispIsShort m disp
unfolding address_fits
address_short asize row None sib disp h = tt
address_short asize row (Some m) sib disp h = elim (cases_Bool (reads_mode row)) [
  | inl reads ↦
      let e = eqb-true (length disp) (displacement_bytes asize m sib)
      (and_parts (same_bool (is_some sib) (needs_sib asize m)) (length disp == displacement_bytes asize m sib) (rw reads at h)).1 in
      let k = displacement_short asize m sib in
      omega arith
  | inr other ↦ let e = eqb-true (length disp) 0 (and_parts (is_none sib) (length disp == 0) (rw other at h)).1 in omega arith
]

spelled_short : (bits : Bits) (row : Row) (s : Spelling) → lengths_fit bits row (state_of bits row s) s.modrm s.sib (length s.disp.items) (length s.imm.items) ≡ true → DispIsShort s.modrm s.disp.items
unfolding lengths_fit
spelled_short bits row s h =
    let asize = state_address_size bits (state_of bits row s) in
    address_short asize row s.modrm s.sib s.disp.items
    (and_parts (address_fits asize row s.modrm s.sib (length s.disp.items)) (length s.imm.items == immediates_bytes (state_size bits row (state_of bits row s)) row) h).0

wrapped-below : (bits : Bits) (x : ℕ) → modulo_width bits x < 2 ^ 64
wrapped-below B16 x = omega arith
wrapped-below B32 x = omega arith
wrapped-below B64 x = omega arith

-- ---- each operand

in_reach-at : (bits : Bits) (ip : ℕ) (code : Code) (row : Row) (s : Spelling) (i : Instr) (n : ℕ) → Given bits ip code row s i → n < 4 → IsInReach (plain_size bits row) (tail_of bits ip row s).next (immediate_bytes (plain_size bits row) (kind_at row n)) (operand_at i n)
unfolding meant.operand_at
in_reach-at bits ip code row s i n g below =
    let st = state_of bits row s in
    let k = immediate_bytes (plain_size bits row) (kind_at row n) in
    subst (λ (op : Operand). IsInReach (plain_size bits row) (tail_of bits ip row s).next k op) (sym (operand-meant bits ip code row s i n g below))
    (read_in_reach bits row st (tail_of bits ip row s) (kind_at row n) (plain_size bits row) k (method_of (kind_at row n)) (own_immediate (state_size bits row st) row n s.imm.items)
    (own-length-at bits ip code row s i n g below) (bytes_short (plain_size bits row) (kind_at row n))
    (own-bytes (state_size bits row st) row n s.imm.items (ranges_behind s g.fitting.ranges).imm)
    (size-at bits ip code row s i n g) (wrapped-below bits (ip + length (bytes_of row s)))
    (spelled_short bits row s g.fitting.lengths) (ranges_behind s g.fitting.ranges).disp)

-- the next address is that of the plain spelling, where both are as long
next_is : (bits : Bits) (ip : ℕ) (row : Row) (s : Spelling) (i : Instr) → plain_len bits row i ≡ length (bytes_of row s) → plain_next bits ip row i ≡ (tail_of bits ip row s).next
unfolding plain_next
next_is bits ip row s i e = ap (λ (n : ℕ). modulo_width bits (ip + n)) e

target-at : (bits : Bits) (ip : ℕ) (code : Code) (row : Row) (s : Spelling) (i : Instr) (n : ℕ) → Given bits ip code row s i → plain_len bits row i ≡ length (bytes_of row s) → n < 4 → target_suits bits ip row i n ≡ true
unfolding target_suits
target-at bits ip code row s i n g e below =
    subst (λ (next : ℕ). IsInReach (plain_size bits row) next (immediate_bytes (plain_size bits row) (kind_at row n)) (operand_at i n)) (sym (next_is bits ip row s i e))
    (in_reach-at bits ip code row s i n g below)

-- **targets are in reach of a plain spelling that is as long**
pub targets-suit : (bits : Bits) (ip : ℕ) (code : Code) (row : Row) (s : Spelling) (i : Instr) → Given bits ip code row s i → plain_len bits row i ≡ length (bytes_of row s) → each_operand (target_suits bits ip row i) ≡ true
targets-suit bits ip code row s i g e =
    each-from (target_suits bits ip row i) (λ (n : ℕ) (below : n < 4). target-at bits ip code row s i n g e below)
