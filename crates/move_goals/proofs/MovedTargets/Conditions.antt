-- The conditions that an instruction meets whatever it is aimed at.
use Rattle.std.proofs.Common.{◌≡◌, ℕ, Bool, true, false, ◌&&◌, not, Option, Some, None, refl, ap, ◌∙◌}
use Rattle.x86_values.specs.declared.Bits.{Bits}
use Rattle.x86_values.specs.declared.Register.{Register}
use Rattle.x86_values.specs.declared.Mem.{Mem}
use Rattle.x86_values.specs.declared.Operand.{Operand}
use Rattle.x86_values.specs.declared.Operand.TheVariants.{Reg, Mem as Memory}
use Rattle.x86_values.specs.declared.Instr.{Instr}
use Rattle.instruction_parts.specs.declared.row_types.Row.{Row}
use Rattle.instruction_parts.specs.declared.row_types.Place.{Place}
use Rattle.instruction_parts.specs.declared.row_types.Place.TheVariants.{Any as AnyPlace, Memory as OnlyMemory, Register as OnlyRegister}
use Rattle.instruction_parts.specs.declared.row_types.Class.TheVariants.{Any as AnyClass, Nf3}
use Rattle.instruction_parts.specs.declared.row_types.Plus.TheVariants.{Register as PlusRegister}
use Rattle.instruction_parts.specs.declared.kinds.Method.{Method}
use Rattle.instruction_parts.specs.declared.kinds.Method.TheVariants as method
use Rattle.instruction_parts.specs.declared.kinds.File.{File}
use Rattle.instruction_parts.specs.Kinds.{method_of, file_of}
use Rattle.row_fit.specs.Fits.{kind_at, immediate_bytes, is_nop_byte, is_repeat_f3, is_no_repeat}
use Rattle.x86_values.specs.Operands.{is_memory}
use Rattle.plain_spelling.specs.Forms.{is_allowed_in, is_variant_of, operand_at}
use Rattle.plain_spelling.specs.Addresses.{shown_size, is_wide_shape, is_shape, is_gather_shape, shape_suits}
use Rattle.plain_spelling.specs.PlainFront.{number_asked_of, number_in_reg, number_in_index, number_in_vvvv}
use Rattle.plain_spelling.specs.PlainTail.{plain_size}
use Rattle.plain_spelling.specs.Expressible.{each_operand, kind_suits, is_of_kind, is_nameable, vector_in_reg, vector_in_index, vector_in_vvvv, passes, asked_vector, differ, gather_numbers_differ, gather_suits, register_suits, address_suits, immediate_suits_how, immediate_suits, lock_suits, repeat_suits, prefixes_suit, has_memory_operand, told_size, size_agrees, is_size_of, address_size_suits}
use Rattle.move_goals.specs.MovedTargets.Targets.{with_target}
use Rattle.move_goals.proofs.MovedTargets.Ignored.{IgnoresTarget, at-with_target}
use Rattle.move_goals.proofs.MovedTargets.Unchanged.{reg-with_target, index-with_target, vvvv-with_target, asked_opcode-with_target, front-with_target}

-- what is the same of each operand is the same of all four
pub same_each : (p q : ℕ → Bool) → ((n : ℕ) → p n ≡ q n) → each_operand p ≡ each_operand q
same_each p q h = rw (h 0, h 1, h 2, h 3) refl

-- ---- the kinds

allowed : (place : Place) → IgnoresTarget (is_allowed_in place)
unfolding is_allowed_in
allowed AnyPlace = record { memory = λ m disp. refl; near = λ x y. refl }
allowed OnlyMemory = record { memory = λ m disp. refl; near = λ x y. refl }
allowed OnlyRegister = record { memory = λ m disp. refl; near = λ x y. refl }

variant : (place : Place) (how : Method) → IgnoresTarget (is_variant_of place how)
unfolding is_variant_of
variant place method.RegisterOrMemory = allowed place
variant place _ = record { memory = λ m disp. refl; near = λ x y. refl }

-- aiming an instruction elsewhere keeps whether its operands are of their kinds
pub kind_suits-with_target : (t : ℕ) (row : Row) (i : Instr) (n : ℕ) → kind_suits row (with_target t i) n ≡ kind_suits row i n
unfolding kind_suits
kind_suits-with_target t row i n =
    at-with_target (is_variant_of row.place (method_of (kind_at row n))) (variant row.place (method_of (kind_at row n))) t i n

-- ---- the registers

nameable : (bits : Bits) (t : ℕ) (row : Row) (i : Instr) (n : ℕ) (r : Register) → is_nameable bits row (with_target t i) n r ≡ is_nameable bits row i n r
unfolding is_nameable is_of_kind
nameable bits t row i n r = rw (front-with_target bits t row i) refl

vectors_in_reg : (how : Method) → IgnoresTarget (vector_in_reg how)
unfolding vector_in_reg
vectors_in_reg method.ModRmReg = record { memory = λ m disp. refl; near = λ x y. refl }
vectors_in_reg _ = record { memory = λ m disp. refl; near = λ x y. refl }

vectors_in_index : (how : Method) → IgnoresTarget (vector_in_index how)
unfolding vector_in_index
vectors_in_index method.Gather = record { memory = λ m disp. refl; near = λ x y. refl }
vectors_in_index _ = record { memory = λ m disp. refl; near = λ x y. refl }

vectors_in_vvvv : (how : Method) → IgnoresTarget (vector_in_vvvv how)
unfolding vector_in_vvvv
vectors_in_vvvv method.Vvvv = record { memory = λ m disp. refl; near = λ x y. refl }
vectors_in_vvvv _ = record { memory = λ m disp. refl; near = λ x y. refl }

-- the number that is asked for a vector register, where the test and the number do not look at the target
asked_vector-with_target : (p : Method → Operand → Bool) → ((how : Method) → IgnoresTarget (p how)) → (number : Method → Operand → ℕ) → (t : ℕ) (row : Row) (i : Instr) → number_asked_of number row (with_target t i) ≡ number_asked_of number row i → asked_vector p number row (with_target t i) ≡ asked_vector p number row i
asked_vector-with_target p h number t row i e =
    let at : (n : ℕ) → passes p row (with_target t i) n ≡ passes p row i n =
    λ n. at-with_target (p (method_of (kind_at row n))) (h (method_of (kind_at row n))) t i n in
    rw (at 0, at 1, at 2, at 3, e) refl

-- of three numbers those that are there differ pairwise
abbrev all_differ : Option ℕ → Option ℕ → Option ℕ → Bool
all_differ a b c = differ a b && (differ a c && differ b c)

numbers_differ : (t : ℕ) (row : Row) (i : Instr) → gather_numbers_differ row (with_target t i) ≡ gather_numbers_differ row i
unfolding gather_numbers_differ
numbers_differ t row i =
    let index = asked_vector vector_in_index number_in_index row in
    let mask = asked_vector vector_in_vvvv number_in_vvvv row in
    let destination = asked_vector vector_in_reg number_in_reg row in
    ap (λ (n : Option ℕ). all_differ n (index (with_target t i)) (mask (with_target t i))) (asked_vector-with_target vector_in_reg vectors_in_reg number_in_reg t row i (reg-with_target t row i))
    ∙ ap (λ (n : Option ℕ). all_differ (destination i) n (mask (with_target t i))) (asked_vector-with_target vector_in_index vectors_in_index number_in_index t row i (index-with_target t row i))
    ∙ ap (all_differ (destination i) (index i)) (asked_vector-with_target vector_in_vvvv vectors_in_vvvv number_in_vvvv t row i (vvvv-with_target t row i))

-- what a register operand has to be
abbrev named : (Register → Bool) → Operand → Bool
named p op = elim op [ Reg r ↦ p r | _ ↦ true ]

named_ignores : (p : Register → Bool) → IgnoresTarget (named p)
named_ignores p = record { memory = λ m disp. refl; near = λ x y. refl }

named_same : (p q : Register → Bool) → ((r : Register) → p r ≡ q r) → (op : Operand) → named p op ≡ named q op
named_same p q h (Reg r) = h r
named_same p q h _ = refl

-- whether its registers suit
pub register_suits-with_target : (bits : Bits) (t : ℕ) (row : Row) (i : Instr) (n : ℕ) → register_suits bits row (with_target t i) n ≡ register_suits bits row i n
unfolding register_suits
register_suits-with_target bits t row i n =
    let p = is_nameable bits row i n in
    let q = is_nameable bits row (with_target t i) n in
    let e : named q (operand_at (with_target t i) n) ≡ named p (operand_at i n) =
    named_same q p (nameable bits t row i n) (operand_at (with_target t i) n) ∙ at-with_target (named p) (named_ignores p) t i n in
    let g : gather_suits row (with_target t i) n ≡ gather_suits row i n = rw (numbers_differ t row i) refl in
    rw (e, g) refl

-- ---- the addresses

-- what a memory operand has to be
abbrev addressed : (Mem → Bool) → Operand → Bool
addressed p op = elim op [ Memory m ↦ p m | _ ↦ true ]

shape_same : (bits : Bits) (row : Row) (how : Method) (file : File) (m : Mem) (disp : ℕ) → shape_suits bits row how file (record m { disp = disp }) ≡ shape_suits bits row how file m
unfolding shape_suits is_gather_shape is_shape is_wide_shape shown_size
shape_same bits row method.Gather file m disp = refl
shape_same bits row method.Offset file m disp = refl
shape_same bits row _ file m disp = refl

-- whether its addresses suit
pub address_suits-with_target : (bits : Bits) (t : ℕ) (row : Row) (i : Instr) (n : ℕ) → address_suits bits row (with_target t i) n ≡ address_suits bits row i n
unfolding address_suits
address_suits-with_target bits t row i n =
    let how = method_of (kind_at row n) in
    let file = file_of (kind_at row n) in
    at-with_target (addressed (shape_suits bits row how file)) (record { memory = λ m disp. shape_same bits row how file m disp; near = λ x y. refl }) t i n

-- ---- the immediates

immediate : (size : Bits) (how : Method) (n : ℕ) → IgnoresTarget (immediate_suits_how size how n)
unfolding immediate_suits_how
immediate size method.AsWritten n = record { memory = λ m disp. refl; near = λ x y. refl }
immediate size method.Extended n = record { memory = λ m disp. refl; near = λ x y. refl }
immediate size method.One n = record { memory = λ m disp. refl; near = λ x y. refl }
immediate size method.Pointer n = record { memory = λ m disp. refl; near = λ x y. refl }
immediate size _ n = record { memory = λ m disp. refl; near = λ x y. refl }

-- whether its immediates suit
pub immediate_suits-with_target : (bits : Bits) (t : ℕ) (row : Row) (i : Instr) (n : ℕ) → immediate_suits bits row (with_target t i) n ≡ immediate_suits bits row i n
unfolding immediate_suits
immediate_suits-with_target bits t row i n =
    let size = plain_size bits row in
    let how = method_of (kind_at row n) in
    let bytes = immediate_bytes size (kind_at row n) in
    at-with_target (immediate_suits_how size how bytes) (immediate size how bytes) t i n

-- ---- the prefixes

memory_ignores : IgnoresTarget is_memory
memory_ignores = record { memory = λ m disp. refl; near = λ x y. refl }

is_memory-with_target : (t : ℕ) (i : Instr) (n : ℕ) → is_memory (operand_at (with_target t i) n) ≡ is_memory (operand_at i n)
is_memory-with_target t i n = at-with_target is_memory memory_ignores t i n

lock-with_target : (t : ℕ) (row : Row) (i : Instr) → lock_suits row (with_target t i) ≡ lock_suits row i
unfolding lock_suits with_target
lock-with_target t row i = rw (is_memory-with_target t i 0) refl

repeat-with_target : (t : ℕ) (row : Row) (i : Instr) → repeat_suits row (with_target t i) ≡ repeat_suits row i
unfolding repeat_suits with_target
repeat-with_target t row i =
    ap (λ (opcode : ℕ). elim row.class [
      | AnyClass ↦ not (is_repeat_f3 i.rep && ((elim row.plus [ PlusRegister ↦ true | _ ↦ false ]) && is_nop_byte row opcode))
      | Nf3 ↦ not (is_repeat_f3 i.rep)
      | _ ↦ is_no_repeat i.rep
    ]) (asked_opcode-with_target t row i)

-- whether its prefixes suit
pub prefixes_suit-with_target : (t : ℕ) (row : Row) (i : Instr) → prefixes_suit row (with_target t i) ≡ prefixes_suit row i
unfolding prefixes_suit
prefixes_suit-with_target t row i = rw (lock-with_target t row i, repeat-with_target t row i) refl

-- ---- the address size

agrees : (asize : Bits) → IgnoresTarget (size_agrees asize)
unfolding size_agrees told_size shown_size
agrees asize = record { memory = λ m disp. refl; near = λ x y. refl }

agrees-with_target : (asize : Bits) (t : ℕ) (i : Instr) (n : ℕ) → size_agrees asize (operand_at (with_target t i) n) ≡ size_agrees asize (operand_at i n)
agrees-with_target asize t i n = at-with_target (size_agrees asize) (agrees asize) t i n

is_size-with_target : (bits : Bits) (t : ℕ) (row : Row) (i : Instr) (asize : Bits) → is_size_of bits row (with_target t i) asize ≡ is_size_of bits row i asize
unfolding is_size_of
is_size-with_target bits t row i asize =
    rw (agrees-with_target asize t i 0, agrees-with_target asize t i 1, agrees-with_target asize t i 2, agrees-with_target asize t i 3) refl

has_memory-with_target : (t : ℕ) (i : Instr) → has_memory_operand (with_target t i) ≡ has_memory_operand i
unfolding has_memory_operand
has_memory-with_target t i = rw (is_memory-with_target t i 0, is_memory-with_target t i 1, is_memory-with_target t i 2, is_memory-with_target t i 3) refl

-- a test of the address size that is said
abbrev sized_by : (Bits → Bool) → Option Bits → Bool
sized_by p None = false
sized_by p (Some asize) = p asize

sized : (p q : Bits → Bool) → ((asize : Bits) → p asize ≡ q asize) → (asize : Option Bits) → sized_by p asize ≡ sized_by q asize
sized p q h None = refl
sized p q h (Some asize) = h asize

-- and whether its address size suits
pub address_size_suits-with_target : (bits : Bits) (t : ℕ) (row : Row) (i : Instr) → address_size_suits bits row (with_target t i) ≡ address_size_suits bits row i
unfolding address_size_suits with_target
address_size_suits-with_target bits t row i =
    rw (has_memory-with_target t i, sized (is_size_of bits row (with_target t i)) (is_size_of bits row i) (is_size-with_target bits t row i) i.asize) refl
