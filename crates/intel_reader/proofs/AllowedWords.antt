-- What an instruction with a plain spelling says of the words of its text: no test of them sorts it out.
use Rattle.std.proofs.Common.{◌≡◌, ℕ, zero, suc, ◌<◌, Bool, true, false, ◌&&◌, ◌||◌, List, Option, Some, None, refl, ap, sym, ◌∙◌, subst, arith, if◌then◌else◌, slice_get}
use Rattle.std.specs.Prelude.{is_none, unwrap_or}
use Rattle.std.proofs.lemmas.Bool.{or_parts, and_from, and_parts}
use Rattle.x86_values.specs.declared.Bits.{Bits}
use Rattle.x86_values.specs.declared.Bits.TheVariants.{B64}
use Rattle.x86_values.specs.declared.DispSize.{DispSize}
use Rattle.x86_values.specs.declared.DispSize.TheVariants.{D0}
use Rattle.x86_values.specs.declared.Operand.{Operand}
use Rattle.x86_values.specs.declared.Operand.TheVariants.{Mem as MemOperand}
use Rattle.x86_values.specs.declared.Code.{Code}
use Rattle.x86_values.specs.declared.Instr.{Instr}
use Rattle.x86_values.specs.Wrapping.{modulo_width}
use Rattle.instruction_parts.specs.declared.row_types.Row.{Row}
use Rattle.instruction_parts.specs.declared.kinds.Method.{Method}
use Rattle.instruction_parts.specs.Kinds.{method_of}
use Rattle.instruction_parts.specs.Sizes.{has_address_mark}
use Rattle.row_fit.specs.Fits.{kind_at}
use Rattle.opcode_rows.specs.Table.{table}
use Rattle.x86_values.specs.Comparing.{same_bits}
use Rattle.x86_values.specs.Operands.{is_memory}
use Rattle.plain_spelling.specs.Forms.{operand_at}
use Rattle.plain_spelling.specs.Addresses.{has_address_size, displacement_suits, shown_size, written_size}
use Rattle.plain_spelling.specs.Expressible.{displacement_offered, told_size, size_agrees, has_memory_operand, is_size_of, address_size_suits}
use Rattle.plain_spelling.proofs.Asked.{each-at}
use Rattle.row_relation.specs.Given.{Given}
use Rattle.intel_words.specs.declared.words.IntelWords.{IntelWords}
use Rattle.intel_words.specs.declared.words.OperandText.{OperandText}
use Rattle.intel_words.specs.declared.words.OperandText.TheVariants.{Absent, Reg, Number, Far, Mem as Address}
use Rattle.intel_words.specs.declared.words.Inside.{Inside}
use Rattle.intel_words.specs.declared.words.Inside.TheVariants.{Nothing, Lone, Rel, Sum}
use Rattle.intel_reader.specs.Assembled.{Assembly, IsCandidate}
use Rattle.intel_reader.specs.Candidate.{is_near_at, address_from, operand_from, text_at, candidate}
use Rattle.intel_reader.specs.Possible.{is_address, has_address, has_size, text_agrees, size_allowed, text_offers, displacement_allowed}
use Rattle.intel_reader.proofs.PlainFacts.{plain_is_ready}

-- ---- the conditions, on what is made of the words

-- a candidate is an instruction of the code that it is made for
pub code_is : (bits : Bits) (row : Row) (code : Code) (words : IntelWords) (asize : Option Bits) (size : DispSize) → (candidate bits row code words asize size).code ≡ code
unfolding candidate
code_is bits row code words asize size = refl

-- the words of a text, made into an instruction of a row, give each operand that the row needs
pub made_given : (bits : Bits) (ip : ℕ) (text : List ℕ) (b : Assembly) (row : Row) (code : Code) (words : IntelWords) (asize : Option Bits) (size : DispSize) → IsCandidate bits ip text b → slice_get table code.0 ≡ Some row
    → candidate bits row code words asize size ≡ b.instr → Given bits (modulo_width bits ip) row (candidate bits row code words asize size)
made_given bits ip text b row code words asize size k at e =
    let same : b.instr.code.0 ≡ code.0 = ap (λ (i : Instr). i.code.0) (sym e) ∙ ap (λ (c : Code). c.0) (code_is bits row code words asize size) in
    let there : slice_get table b.instr.code.0 ≡ Some row = ap (slice_get table) same ∙ at in
    subst (λ (i : Instr). Given bits (modulo_width bits ip) row i) (sym e) (plain_is_ready bits (modulo_width bits ip) b.bytes row b.instr k.spelled there).given

-- operand n of a candidate is made from word n
pub made_at : (bits : Bits) (row : Row) (code : Code) (words : IntelWords) (asize : Option Bits) (size : DispSize) (n : ℕ) → n < 4
    → operand_at (candidate bits row code words asize size) n ≡ operand_from (is_near_at row n) (unwrap_or asize bits) size (text_at words n)
unfolding candidate
made_at bits row code words asize size zero h = refl
made_at bits row code words asize size (suc zero) h = refl
made_at bits row code words asize size (suc (suc zero)) h = refl
made_at bits row code words asize size (suc (suc (suc zero))) h = refl
made_at bits row code words asize size (suc (suc (suc (suc n)))) h = absurd (omega arith)

-- ---- the address size

address_same : (near : Bool) (a : Bits) (size : DispSize) (t : OperandText) → is_memory (operand_from near a size t) ≡ is_address t
unfolding operand_from is_address
address_same near a size Absent = refl
address_same near a size (Reg r) = refl
address_same true a size (Number x) = refl
address_same false a size (Number x) = refl
address_same near a size (Far s o) = refl
address_same near a size (Address t) = refl

told_same : (a : Bits) (size : DispSize) (inside : Inside) → told_size (address_from a size inside) ≡ told_size (address_from B64 D0 inside)
unfolding address_from told_size shown_size
told_same a size Nothing = refl
told_same a size (Lone d) = refl
told_same a size (Rel eip target) = refl
told_same a size (Sum s) = refl

agrees_same : (near : Bool) (asize a : Bits) (size : DispSize) (t : OperandText) → size_agrees asize (operand_from near a size t) ≡ text_agrees asize t
unfolding operand_from text_agrees size_agrees
agrees_same near asize a size Absent = refl
agrees_same near asize a size (Reg r) = refl
agrees_same true asize a size (Number x) = refl
agrees_same false asize a size (Number x) = refl
agrees_same near asize a size (Far s o) = refl
agrees_same near asize a size (Address t) = ap (λ (o : Option Bits). elim o [ None ↦ true | Some z ↦ same_bits z asize ]) (told_same a size t.inside)

asize_is : (bits : Bits) (row : Row) (code : Code) (words : IntelWords) (asize : Option Bits) (size : DispSize) → (candidate bits row code words asize size).asize ≡ asize
unfolding candidate
asize_is bits row code words asize size = refl

memory_is : (bits : Bits) (row : Row) (code : Code) (words : IntelWords) (asize : Option Bits) (size : DispSize) → has_memory_operand (candidate bits row code words asize size) ≡ has_address words
unfolding has_memory_operand has_address
memory_is bits row code words asize size =
    let one = λ (n : ℕ) (below : n < 4).
    ap is_memory (made_at bits row code words asize size n below) ∙ address_same (is_near_at row n) (unwrap_or asize bits) size (text_at words n) in
    rw (one 0 (omega arith), one 1 (omega arith), one 2 (omega arith), one 3 (omega arith)) refl

agrees_at : (bits : Bits) (row : Row) (code : Code) (words : IntelWords) (asize : Option Bits) (size : DispSize) (a : Bits) (n : ℕ) → n < 4
    → size_agrees a (operand_at (candidate bits row code words asize size) n) ≡ text_agrees a (text_at words n)
agrees_at bits row code words asize size a n below =
    ap (size_agrees a) (made_at bits row code words asize size n below) ∙ agrees_same (is_near_at row n) a (unwrap_or asize bits) size (text_at words n)

size_of_made : (bits : Bits) (row : Row) (code : Code) (words : IntelWords) (asize : Option Bits) (size : DispSize) (a : Bits) → is_size_of bits row (candidate bits row code words asize size) a ≡ true
    → (has_address_size bits a && (text_agrees a (text_at words 0) && (text_agrees a (text_at words 1) && (text_agrees a (text_at words 2) && text_agrees a (text_at words 3))))) ≡ true
unfolding is_size_of
size_of_made bits row code words asize size a h =
    let one = λ (n : ℕ) (below : n < 4). agrees_at bits row code words asize size a n below in
    let agree = (and_parts _ _ (and_parts (has_address_size bits a) _ h).1).0 in
    and_from _ _ (and_parts (has_address_size bits a) _ h).0
    (rw (← one 0 (omega arith), ← one 1 (omega arith), ← one 2 (omega arith), ← one 3 (omega arith)) agree)

abbrev agree : Bits → IntelWords → Bits → Bool
agree bits words a =
    has_address_size bits a
    && (text_agrees a (text_at words 0) && (text_agrees a (text_at words 1) && (text_agrees a (text_at words 2) && text_agrees a (text_at words 3))))

by_size : (bits : Bits) (row : Row) (i : Instr) (words : IntelWords) (asize : Option Bits) (has : Bool) → ((a : Bits) → is_size_of bits row i a ≡ true → agree bits words a ≡ true)
    → (if has then (elim asize [ None ↦ false | Some a ↦ is_size_of bits row i a ]) else is_none asize) ≡ true
    → (if has then (elim asize [ None ↦ false | Some a ↦ agree bits words a ]) else is_none asize) ≡ true
by_size bits row i words None true f h = h
by_size bits row i words (Some a) true f h = f a h
by_size bits row i words asize false f h = h

-- **an address size that the words do not allow has no such instruction**
pub size_there : (bits : Bits) (ip : ℕ) (row : Row) (code : Code) (words : IntelWords) (asize : Option Bits) (size : DispSize) → Given bits ip row (candidate bits row code words asize size) → size_allowed bits row words asize ≡ true
unfolding size_allowed address_size_suits
size_there bits ip row code words asize size g =
    let i : Instr = candidate bits row code words asize size in
    let made : (if has_address words || has_address_mark row then (elim asize [ None ↦ false | Some a ↦ is_size_of bits row i a ]) else is_none asize) ≡ true =
    ap (λ (m : Bool). if m || has_address_mark row then (elim asize [ None ↦ false | Some a ↦ is_size_of bits row i a ]) else is_none asize) (sym (memory_is bits row code words asize size))
    ∙ ap (λ (o : Option Bits). if has_memory_operand i || has_address_mark row then (elim o [ None ↦ false | Some a ↦ is_size_of bits row i a ]) else is_none o) (sym (asize_is bits row code words asize size))
    ∙ g.suits.address_size in
    by_size bits row i words asize (has_address words || has_address_mark row) (λ a. size_of_made bits row code words asize size a) made

lone_size : (has allowed : Bool) (a : Bits) → has ≡ false → (if has then allowed else is_none (Some a)) ≡ true → Some a ≡ None
lone_size true allowed a lacks h = cc
lone_size false allowed a lacks h = cc

-- where an instruction has no address size, none is allowed
pub only_none : (bits : Bits) (row : Row) (words : IntelWords) (asize : Option Bits) → has_size row words ≡ false → size_allowed bits row words asize ≡ true → asize ≡ None
unfolding size_allowed
only_none bits row words None lacks h = refl
only_none bits row words (Some a) lacks h = lone_size (has_size row words) _ a lacks h

-- ---- the displacement size

offers_same : (near : Bool) (bits : Bits) (asize : Option Bits) (size : DispSize) (how : Method) (t : OperandText)
    → (elim (operand_from near (unwrap_or asize bits) size t) [ MemOperand m ↦ displacement_suits (written_size bits asize m) how m | _ ↦ true ]) ≡ text_offers bits asize size how t
unfolding operand_from text_offers
offers_same near bits asize size how Absent = refl
offers_same near bits asize size how (Reg r) = refl
offers_same true bits asize size how (Number x) = refl
offers_same false bits asize size how (Number x) = refl
offers_same near bits asize size how (Far s o) = refl
offers_same near bits asize size how (Address t) = refl

offers_at : (bits : Bits) (ip : ℕ) (row : Row) (code : Code) (words : IntelWords) (asize : Option Bits) (size : DispSize) (n : ℕ) → n < 4 → Given bits ip row (candidate bits row code words asize size)
    → text_offers bits asize size (method_of (kind_at row n)) (text_at words n) ≡ true
unfolding displacement_offered
offers_at bits ip row code words asize size n below g =
    let i : Instr = candidate bits row code words asize size in
    let how : Method = method_of (kind_at row n) in
    sym (offers_same (is_near_at row n) bits asize size how (text_at words n))
    ∙ ap (λ (op : Operand). elim op [ MemOperand m ↦ displacement_suits (written_size bits asize m) how m | _ ↦ true ]) (sym (made_at bits row code words asize size n below))
    ∙ ap (λ (o : Option Bits). elim (operand_at i n) [ MemOperand m ↦ displacement_suits (written_size bits o m) how m | _ ↦ true ]) (sym (asize_is bits row code words asize size))
    ∙ each-at (displacement_offered bits row i) n below g.suits.displacements

-- **a displacement size that the addresses do not offer has no such instruction**
pub displacement_there : (bits : Bits) (ip : ℕ) (row : Row) (code : Code) (words : IntelWords) (asize : Option Bits) (size : DispSize) → Given bits ip row (candidate bits row code words asize size) → displacement_allowed bits row words asize size ≡ true
unfolding displacement_allowed
displacement_there bits ip row code words asize size g =
    let one = λ (n : ℕ) (below : n < 4). offers_at bits ip row code words asize size n below g in
    and_from _ _ (one 0 (omega arith)) (and_from _ _ (one 1 (omega arith)) (and_from _ _ (one 2 (omega arith)) (one 3 (omega arith))))

-- ---- no address

operand_same : (near : Bool) (a : Bits) (size : DispSize) (t : OperandText) → is_address t ≡ false → operand_from near a D0 t ≡ operand_from near a size t
unfolding operand_from is_address
operand_same near a size Absent h = refl
operand_same near a size (Reg r) h = refl
operand_same near a size (Number x) h = refl
operand_same near a size (Far s o) h = refl
operand_same near a size (Address t) h = cc

-- **without an address the displacement size says nothing**
pub same_without_address : (bits : Bits) (row : Row) (code : Code) (words : IntelWords) (asize : Option Bits) (size : DispSize) → has_address words ≡ false
    → candidate bits row code words asize D0 ≡ candidate bits row code words asize size
unfolding candidate has_address
same_without_address bits row code words asize size h =
    let h0 = or_parts (is_address (text_at words 0)) _ h in
    let h1 = or_parts (is_address (text_at words 1)) _ h0.1 in
    let h2 = or_parts (is_address (text_at words 2)) _ h1.1 in
    let one = λ (n : ℕ) (k : is_address (text_at words n) ≡ false). operand_same (is_near_at row n) (unwrap_or asize bits) size (text_at words n) k in
    rw (
      one 0 h0.0,
      one 1 h1.0,
      one 2 h2.0,
      one 3 h2.1,
    ) refl
