-- The immediates of a fitting spelling: each is a value of its size, each near target is in reach, and their bytes are those of the
-- plain spelling.
use Rattle.std.proofs.Common.{◌≡◌, ℕ, zero, suc, ◌+◌, ◌-◌, ◌*◌, ◌^◌, ◌<◌, ◌≤◌, true, ◌&&◌, nat_lt, List, ◌++◌, length, take, drop, refl, ap, sym, ◌∙◌, arith, length-take, length-drop}
use Rattle.std.proofs.lemmas.Bool.{lt-ltb, and_parts}
use Rattle.std.proofs.lemmas.List.{take-append-drop}
use Rattle.std.proofs.lemmas.List.Folds.{list_all-append}
use Rattle.x86_values.specs.declared.Bits.{Bits}
use Rattle.x86_values.specs.declared.Code.{Code}
use Rattle.x86_values.specs.declared.Instr.{Instr}
use Rattle.x86_values.specs.Wrapping.{width}
use Rattle.instruction_parts.specs.declared.row_types.Row.{Row}
use Rattle.instruction_parts.specs.declared.row_types.OpKind.{OpKind}
use Rattle.instruction_parts.specs.declared.kinds.Method.{Method}
use Rattle.instruction_parts.specs.declared.kinds.Method.TheVariants as method
use Rattle.instruction_parts.specs.declared.spelling.PrefixState.{PrefixState}
use Rattle.instruction_parts.specs.declared.spelling.Spelling.{Spelling}
use Rattle.instruction_parts.specs.Kinds.{method_of}
use Rattle.instruction_parts.specs.Sizes.{state_size, bit_w}
use Rattle.instruction_parts.specs.Bytes.{state_of}
use Rattle.row_fit.specs.Fits.{are_bytes, kind_at, immediate_bytes, immediates_bytes, size_fits, sizes_fit}
use Rattle.row_fit.proofs.FitLaws.{immediates_length, ranges_behind}
use Rattle.row_meaning.specs.Meaning.{Tail, tail_of, operand_by, own_immediate, immediates_before, little_endian, sign_extended, far_pointer, instr_of, meaning}
use Rattle.row_meaning.specs.Meaning as meant
use Rattle.row_meaning.proofs.ImmediateLaws.{before_within}
use Rattle.plain_spelling.specs.Values.{is_extended_of}
use Rattle.plain_spelling.specs.Forms.{operand_at}
use Rattle.plain_spelling.specs.PlainTail.{plain_size}
use Rattle.plain_spelling.specs.Writable.{says_size, value_is_told}
use Rattle.plain_spelling.specs.Expressible.{each_operand, immediate_suits, immediate_suits_how}
use Rattle.plain_spelling.proofs.Asked.{each-from}
use Rattle.row_relation.proofs.WrittenValues.{little_endian-below, sign_extended-is_extended, width-le}
use Rattle.row_relation.proofs.WrittenSizes.{size-told, width-told, width-at-told, value-at-told}
use Rattle.plain_spelling.proofs.ImmediateBytes.{BytesSuit, bytes_suit, bytes_short}
use Rattle.row_relation.specs.GivenSpelling.{Given}

-- ---- the operands

-- operand n is what the spelling means there
pub operand-meant : (bits : Bits) (ip : ℕ) (code : Code) (row : Row) (s : Spelling) (i : Instr) (n : ℕ) → Given bits ip code row s i → n < 4 → operand_at i n ≡ meant.operand_at bits row (state_of bits row s) (tail_of bits ip row s) s.imm.items n
unfolding meaning instr_of
operand-meant bits ip code row s i zero g h = ap (λ (x : Instr). operand_at x 0) (sym g.means)
operand-meant bits ip code row s i (suc zero) g h = ap (λ (x : Instr). operand_at x 1) (sym g.means)
operand-meant bits ip code row s i (suc (suc zero)) g h = ap (λ (x : Instr). operand_at x 2) (sym g.means)
operand-meant bits ip code row s i (suc (suc (suc zero))) g h = ap (λ (x : Instr). operand_at x 3) (sym g.means)
operand-meant bits ip code row s i (suc (suc (suc (suc n)))) g h = absurd (omega arith)

-- the spelling's operand size or W is what the row asks for
pub spelled_size : (bits : Bits) (ip : ℕ) (code : Code) (row : Row) (s : Spelling) (i : Instr) → Given bits ip code row s i → size_fits bits row.size (state_size bits row (state_of bits row s)) (bit_w bits (state_of bits row s)) ≡ true
unfolding sizes_fit
spelled_size bits ip code row s i g = (and_parts (size_fits bits row.size (state_size bits row (state_of bits row s)) (bit_w bits (state_of bits row s))) _ g.fitting.sizes).0

-- each kind has as many bytes as in the plain spelling
pub spelled_bytes : (bits : Bits) (ip : ℕ) (code : Code) (row : Row) (s : Spelling) (i : Instr) (n : ℕ) → Given bits ip code row s i → immediate_bytes (state_size bits row (state_of bits row s)) (kind_at row n) ≡ immediate_bytes (plain_size bits row) (kind_at row n)
spelled_bytes bits ip code row s i n g =
    width-told bits row (state_of bits row s) (kind_at row n) (spelled_size bits ip code row s i g) g.is_writable.size (width-at-told row g.is_writable.told n)

-- **the bytes of the immediates are as many as in the plain spelling**
pub immediates-len : (bits : Bits) (ip : ℕ) (code : Code) (row : Row) (s : Spelling) (i : Instr) → Given bits ip code row s i → immediate_bytes (plain_size bits row) (kind_at row 0) + (immediate_bytes (plain_size bits row) (kind_at row 1) + (immediate_bytes (plain_size bits row) (kind_at row 2) + immediate_bytes (plain_size bits row) (kind_at row 3))) ≡ length s.imm.items
unfolding immediates_bytes
immediates-len bits ip code row s i g =
    let all = immediates_length bits row s g.fitting.lengths in
    let a = spelled_bytes bits ip code row s i 0 g in
    let b = spelled_bytes bits ip code row s i 1 g in
    let c = spelled_bytes bits ip code row s i 2 g in
    let d = spelled_bytes bits ip code row s i 3 g in
    omega arith

-- ---- the bytes of one operand

all_left : (xs ys : List ℕ) → are_bytes (xs ++ ys) ≡ true → are_bytes xs ≡ true
all_left xs ys h = (and_parts (are_bytes xs) (are_bytes ys) (sym (list_all-append (λ b. nat_lt b 256) xs ys) ∙ h)).0

all_right : (xs ys : List ℕ) → are_bytes (xs ++ ys) ≡ true → are_bytes ys ≡ true
all_right xs ys h = (and_parts (are_bytes xs) (are_bytes ys) (sym (list_all-append (λ b. nat_lt b 256) xs ys) ∙ h)).1

-- the first of some bytes are bytes
pub bytes-take : (n : ℕ) (xs : List ℕ) → are_bytes xs ≡ true → are_bytes (take n xs) ≡ true
bytes-take n xs h = all_left (take n xs) (drop n xs) (ap (λ (l : List ℕ). are_bytes l) (take-append-drop n xs) ∙ h)

-- so are the others
pub bytes-drop : (n : ℕ) (xs : List ℕ) → are_bytes xs ≡ true → are_bytes (drop n xs) ≡ true
bytes-drop n xs h = all_right (take n xs) (drop n xs) (ap (λ (l : List ℕ). are_bytes l) (take-append-drop n xs) ∙ h)

-- so are those of one operand
pub own-bytes : (size : Bits) (row : Row) (n : ℕ) (imm : List ℕ) → are_bytes imm ≡ true → are_bytes (own_immediate size row n imm) ≡ true
unfolding own_immediate
own-bytes size row n imm h =
    bytes-take (immediate_bytes size (kind_at row n)) (drop (immediates_before size row n) imm) (bytes-drop (immediates_before size row n) imm h)

own-length : (size : Bits) (row : Row) (n : ℕ) (imm : List ℕ) → n < 4 → length imm ≡ immediates_bytes size row → length (own_immediate size row n imm) ≡ immediate_bytes size (kind_at row n)
unfolding own_immediate
own-length size row n imm below h =
    let w = before_within size row n below in
    simp (length-take, length-drop) (omega arith)

-- ---- each immediate is a value of its size

-- a fact that only a reading by operand size needs
abbrev pub BySize : Method → Type 0 → Type 0
BySize method.Extended T = T
BySize method.Near T = T
BySize _ T = Unit {0}

by_size : (row : Row) (how : Method) (T : Type 0) → value_is_told row how ≡ true → (says_size row.size ≡ true → T) → BySize how T
unfolding value_is_told
by_size row method.Extended T h f = f h
by_size row method.Near T h f = f h
by_size row _ T h f = tt

-- an immediate by size has the operand size
pub size-at : (bits : Bits) (ip : ℕ) (code : Code) (row : Row) (s : Spelling) (i : Instr) (n : ℕ) → Given bits ip code row s i → BySize (method_of (kind_at row n)) (state_size bits row (state_of bits row s) ≡ plain_size bits row)
size-at bits ip code row s i n g =
    by_size row (method_of (kind_at row n)) _ (value-at-told row g.is_writable.told n)
    (size-told bits row (state_of bits row s) (spelled_size bits ip code row s i g) g.is_writable.size)

below_length : (k : ℕ) (bytes : List ℕ) → length bytes ≡ k → are_bytes bytes ≡ true → nat_lt (little_endian bytes) (2 ^ (8 * k)) ≡ true
below_length k bytes e h = rw (← e) (lt-ltb (little_endian bytes) (2 ^ (8 * length bytes)) (little_endian-below bytes h))

pointer_suits : (size : Bits) (k : ℕ) (own : List ℕ) → length own ≡ k → 2 ≤ k → are_bytes own ≡ true → immediate_suits_how size method.Pointer k (far_pointer own) ≡ true
unfolding immediate_suits_how far_pointer
pointer_suits size k own e two h =
    let front : length (take (length own - 2) own) ≡ k - 2 = simp length-take (omega arith) in
    let back : length (drop (length own - 2) own) ≡ 2 = simp length-drop (omega arith) in
    let selector = below_length 2 (drop (length own - 2) own) back (bytes-drop (length own - 2) own h) in
    let offset = below_length (k - 2) (take (length own - 2) own) front (bytes-take (length own - 2) own h) in
    rw selector offset

extended_suits : (w k : ℕ) (own : List ℕ) → length own ≡ k → k ≤ 8 → w ≤ 64 → are_bytes own ≡ true → is_extended_of k w (sign_extended w own) ≡ true
extended_suits w k own e short small h = rw (← e) (sign_extended-is_extended w own (omega arith) small h)

read_suits : (bits : Bits) (row : Row) (st : PrefixState) (t : Tail) (kind : OpKind) (size : Bits) (k : ℕ) (how : Method) (own : List ℕ) → length own ≡ k → k ≤ 8 → are_bytes own ≡ true → BytesSuit how k → BySize how (state_size bits row st ≡ size) → immediate_suits_how size how k (operand_by bits row st t kind how own) ≡ true
unfolding immediate_suits_how operand_by
read_suits bits row st t kind size k method.AsWritten own e short h b told = below_length k own e h
read_suits bits row st t kind size k method.Extended own e short h b told = rw told (extended_suits (width size) k own e short (width-le size) h)
read_suits bits row st t kind size k method.Pointer own e short h b told = pointer_suits size k own e b h
read_suits bits row st t kind size k method.One own e short h b told = refl
read_suits bits row st t kind size k _ own e short h b told = refl

-- an operand has as many bytes of the immediates as its kind says
pub own-length-at : (bits : Bits) (ip : ℕ) (code : Code) (row : Row) (s : Spelling) (i : Instr) (n : ℕ) → Given bits ip code row s i → n < 4 → length (own_immediate (state_size bits row (state_of bits row s)) row n s.imm.items) ≡ immediate_bytes (plain_size bits row) (kind_at row n)
own-length-at bits ip code row s i n g below =
    own-length (state_size bits row (state_of bits row s)) row n s.imm.items below (immediates_length bits row s g.fitting.lengths)
    ∙ spelled_bytes bits ip code row s i n g

suits-at : (bits : Bits) (ip : ℕ) (code : Code) (row : Row) (s : Spelling) (i : Instr) (n : ℕ) → Given bits ip code row s i → n < 4 → immediate_suits bits row i n ≡ true
unfolding immediate_suits meant.operand_at
suits-at bits ip code row s i n g below =
    let st = state_of bits row s in
    let k = immediate_bytes (plain_size bits row) (kind_at row n) in
    rw (operand-meant bits ip code row s i n g below)
    (read_suits bits row st (tail_of bits ip row s) (kind_at row n) (plain_size bits row) k (method_of (kind_at row n)) (own_immediate (state_size bits row st) row n s.imm.items)
    (own-length-at bits ip code row s i n g below) (bytes_short (plain_size bits row) (kind_at row n))
    (own-bytes (state_size bits row st) row n s.imm.items (ranges_behind s g.fitting.ranges).imm)
    (bytes_suit (plain_size bits row) (kind_at row n)) (size-at bits ip code row s i n g))

-- **each immediate of the instruction is a value of its size**
pub immediates-suit : (bits : Bits) (ip : ℕ) (code : Code) (row : Row) (s : Spelling) (i : Instr) → Given bits ip code row s i → each_operand (immediate_suits bits row i) ≡ true
immediates-suit bits ip code row s i g =
    each-from (immediate_suits bits row i) (λ (n : ℕ) (below : n < 4). suits-at bits ip code row s i n g below)
