-- The immediates of a plain spelling: as many bytes as the row asks for, and read back they are the operands.
use Rattle.std.proofs.Common.{◌≡◌, ℕ, zero, suc, ◌+◌, ◌-◌, ◌*◌, ◌^◌, ◌<◌, ◌≤◌, Bool, true, false, ◌&&◌, ◌||◌, nat_lt, List, [], ◌∷◌, ◌++◌, length, take, drop, refl, ap, sym, ◌∙◌, subst, arith, append_assoc, append-nil, length-append}
use Rattle.std.proofs.lemmas.Bool.{ltb-true, lt-ltb, and_parts, eqb-true}
use Rattle.std.proofs.lemmas.List.Folds.{list_all-append}
use Rattle.std.proofs.Math.Seq.{drop-append_seam, take-append_seam}
use Rattle.x86_values.specs.declared.Bits.{Bits}
use Rattle.x86_values.specs.declared.Bits.TheVariants.{B16, B32, B64}
use Rattle.x86_values.specs.declared.Register.{Register}
use Rattle.x86_values.specs.declared.Operand.{Operand}
use Rattle.x86_values.specs.declared.Operand.TheVariants.{Absent as AbsentOperand, Reg, Mem as MemOperand, Imm, Near, Far}
use Rattle.x86_values.specs.declared.Instr.{Instr}
use Rattle.x86_values.specs.Wrapping.{width}
use Rattle.instruction_parts.specs.declared.row_types.Row.{Row}
use Rattle.instruction_parts.specs.declared.row_types.Place.{Place}
use Rattle.instruction_parts.specs.declared.row_types.Place.TheVariants.{Any as AnyPlace, Memory as OnlyMemory, Register as OnlyRegister}
use Rattle.instruction_parts.specs.declared.row_types.OpKind.{OpKind}
use Rattle.instruction_parts.specs.declared.kinds.Method.{Method}
use Rattle.instruction_parts.specs.declared.kinds.Method.TheVariants as method
use Rattle.instruction_parts.specs.declared.spelling.PrefixState.{PrefixState}
use Rattle.instruction_parts.specs.Kinds.{method_of}
use Rattle.instruction_parts.specs.Sizes.{state_size}
use Rattle.row_fit.specs.Fits.{are_bytes, kind_at, immediate_bytes, immediates_bytes}
use Rattle.row_meaning.specs.Meaning.{Tail, operand_by, own_immediate, immediates_before, little_endian, near_target, far_pointer}
use Rattle.plain_spelling.specs.Values.{low_bytes, is_extended_of, distance}
use Rattle.plain_spelling.specs.Forms.{is_immediate, is_near_kind, is_far, is_variant_of, is_allowed_in, operand_at}
use Rattle.plain_spelling.specs.PlainFront.{register_number}
use Rattle.plain_spelling.specs.Addresses.{register_count}
use Rattle.plain_spelling.specs.PlainTail.{operand_immediate, immediate_at, plain_immediates, plain_size, plain_next}
use Rattle.plain_spelling.specs.Expressible.{each_operand, kind_suits, immediate_suits, immediate_suits_how, near_reaches, address_reaches, target_suits}
use Rattle.plain_spelling.proofs.Asked.{each-at}
use Rattle.row_relation.proofs.WrittenValues.{low_bytes-length, low_bytes-bytes, little_endian-low_bytes, sign_extended-low_bytes, target-of-distance, width-le}
use Rattle.plain_spelling.proofs.ImmediateBytes.{BytesSuit, bytes_suit, bytes_short}
use Rattle.row_relation.specs.Given.{Given}
use Rattle.row_relation.proofs.FitNumbers.{nameable-at}

-- ---- one operand

-- the operand is written behind the instruction, or is 1
abbrev pub is_value : Operand → Bool
is_value op = is_immediate op || (is_near_kind op || is_far op)

-- a register has a number of four bits
abbrev pub NumberIsShort : Operand → Type 0
NumberIsShort (Reg r) = register_number r < 16
NumberIsShort _ = Unit {0}

own_length : (size : Bits) (next n : ℕ) (place : Place) (how : Method) (op : Operand) → BytesSuit how n → is_variant_of place how op ≡ true → length (operand_immediate size next how n op) ≡ n
unfolding is_variant_of operand_immediate
own_length size next n place method.AsWritten (Imm x) b h = low_bytes-length n x
own_length size next n place method.AsWritten _ b h = cc
own_length size next n place method.Extended (Imm x) b h = low_bytes-length n x
own_length size next n place method.Extended _ b h = cc
own_length size next n place method.Near (Near target) b h = low_bytes-length n (distance size next target)
own_length size next n place method.Near _ b h = cc
own_length size next n place method.Pointer (Far selector offset) b h =
    let l = length-append (low_bytes (n - 2) offset) (low_bytes 2 selector) in
    let o = low_bytes-length (n - 2) offset in
    let s = low_bytes-length 2 selector in
    omega arith
own_length size next n place method.Pointer _ b h = cc
own_length size next n place method.LastByte (Reg r) b h = sym b
own_length size next n place method.LastByte _ b h = cc
own_length size next n place _ op b h = sym b

byte-shown : (x : ℕ) → x < 256 → are_bytes (x ∷ []) ≡ true
byte-shown x h = rw (lt-ltb x 256 h)

both_true : {a b : Bool} → a ≡ true → b ≡ true → (a && b) ≡ true
both_true ha hb = rw (ha, hb)

are_bytes-both : (xs ys : List ℕ) → are_bytes xs ≡ true → are_bytes ys ≡ true → are_bytes (xs ++ ys) ≡ true
are_bytes-both xs ys hx hy = list_all-append (λ b. nat_lt b 256) xs ys ∙ both_true hx hy

own_bytes : (size : Bits) (next n : ℕ) (place : Place) (how : Method) (op : Operand) → NumberIsShort op → is_variant_of place how op ≡ true → are_bytes (operand_immediate size next how n op) ≡ true
unfolding is_variant_of operand_immediate
own_bytes size next n place method.AsWritten (Imm x) b h = low_bytes-bytes n x
own_bytes size next n place method.AsWritten _ b h = cc
own_bytes size next n place method.Extended (Imm x) b h = low_bytes-bytes n x
own_bytes size next n place method.Extended _ b h = cc
own_bytes size next n place method.Near (Near target) b h = low_bytes-bytes n (distance size next target)
own_bytes size next n place method.Near _ b h = cc
own_bytes size next n place method.Pointer (Far selector offset) b h =
    are_bytes-both (low_bytes (n - 2) offset) (low_bytes 2 selector) (low_bytes-bytes (n - 2) offset) (low_bytes-bytes 2 selector)
own_bytes size next n place method.Pointer _ b h = cc
own_bytes size next n place method.LastByte (Reg r) b h = byte-shown (register_number r * 16) (omega arith)
own_bytes size next n place method.LastByte _ b h = cc
own_bytes size next n place _ op b h = refl

-- a near target is reached
abbrev IsReached : Bits → ℕ → ℕ → Operand → Type 0
IsReached size next n (Near target) = near_reaches size next n target ≡ true
IsReached size next n _ = Unit {0}

not_a_value : (place : Place) (op : Operand) → is_allowed_in place op ≡ true → is_value op ≡ false
unfolding is_allowed_in
not_a_value AnyPlace (Reg r) h = refl
not_a_value AnyPlace (MemOperand m) h = refl
not_a_value AnyPlace _ h = cc
not_a_value OnlyMemory (MemOperand m) h = refl
not_a_value OnlyMemory _ h = cc
not_a_value OnlyRegister (Reg r) h = refl
not_a_value OnlyRegister _ h = cc

near_back : (size : Bits) (n next target : ℕ) → n ≤ 8 → next < 2 ^ 64 → near_reaches size next n target ≡ true → near_target size next (low_bytes n (distance size next target)) ≡ Near target
unfolding near_reaches near_target
near_back size n next target short below h =
    let inside = ltb-true target (2 ^ width size) (and_parts (nat_lt target (2 ^ width size)) (is_extended_of n (width size) (distance size next target)) h).0 in
    let reach = (and_parts (nat_lt target (2 ^ width size)) (is_extended_of n (width size) (distance size next target)) h).1 in
    ap (λ x. Near x) (target-of-distance size n next target short below inside reach)

far_parts : (front back : List ℕ) → length back ≡ 2 → far_pointer (front ++ back) ≡ Far (little_endian back) (little_endian front)
unfolding far_pointer
far_parts front back h =
    let l = length-append front back in
    let e : length (front ++ back) - 2 ≡ length front = omega arith in
    rw e (rw (drop-append_seam front back) (rw (take-append_seam front back)))

far_back : (n selector offset : ℕ) → (nat_lt selector (2 ^ 16) && nat_lt offset (2 ^ (8 * (n - 2)))) ≡ true → far_pointer (low_bytes (n - 2) offset ++ low_bytes 2 selector) ≡ Far selector offset
far_back n selector offset h =
    let s = little_endian-low_bytes 2 selector (ltb-true selector (2 ^ 16) (and_parts (nat_lt selector (2 ^ 16)) (nat_lt offset (2 ^ (8 * (n - 2)))) h).0) in
    let o = little_endian-low_bytes (n - 2) offset (ltb-true offset (2 ^ (8 * (n - 2))) (and_parts (nat_lt selector (2 ^ 16)) (nat_lt offset (2 ^ (8 * (n - 2)))) h).1) in
    far_parts (low_bytes (n - 2) offset) (low_bytes 2 selector) (low_bytes-length 2 selector) ∙ ap (λ x. Far x (little_endian (low_bytes (n - 2) offset))) s ∙ ap (λ x. Far selector x) o

read_back : (bits : Bits) (row : Row) (f : PrefixState) (t : Tail) (kind : OpKind) (size : Bits) (n : ℕ) (how : Method) (op : Operand) → state_size bits row f ≡ size → t.next < 2 ^ 64 → n ≤ 8 → is_variant_of row.place how op ≡ true → is_value op ≡ true → immediate_suits_how size how n op ≡ true → IsReached size t.next n op → operand_by bits row f t kind how (operand_immediate size t.next how n op) ≡ op
unfolding is_variant_of operand_immediate operand_by immediate_suits_how
read_back bits row f t kind size n method.AsWritten (Imm x) e below short v is h r = ap (λ y. Imm y) (little_endian-low_bytes n x (ltb-true x (2 ^ (8 * n)) h))
read_back bits row f t kind size n method.AsWritten _ e below short v is h r = cc
read_back bits row f t kind size n method.Extended (Imm x) e below short v is h r = rw e (ap (λ y. Imm y) (sign_extended-low_bytes n (width size) x short (width-le size) h))
read_back bits row f t kind size n method.Extended _ e below short v is h r = cc
read_back bits row f t kind size n method.One (Imm x) e below short v is h r = ap (λ y. Imm y) (sym (eqb-true x 1 h))
read_back bits row f t kind size n method.One _ e below short v is h r = cc
read_back bits row f t kind size n method.Near (Near target) e below short v is h r = rw e (near_back size n t.next target short below r)
read_back bits row f t kind size n method.Near _ e below short v is h r = cc
read_back bits row f t kind size n method.Pointer (Far selector offset) e below short v is h r = far_back n selector offset h
read_back bits row f t kind size n method.Pointer _ e below short v is h r = cc
read_back bits row f t kind size n method.RegisterOrMemory op e below short v is h r = let no = not_a_value row.place op v in cc
read_back bits row f t kind size n _ AbsentOperand e below short v is h r = cc
read_back bits row f t kind size n _ (Reg x) e below short v is h r = cc
read_back bits row f t kind size n _ (MemOperand m) e below short v is h r = cc
read_back bits row f t kind size n _ (Imm x) e below short v is h r = cc
read_back bits row f t kind size n _ (Near x) e below short v is h r = cc
read_back bits row f t kind size n _ (Far x y) e below short v is h r = cc

-- ---- four operands

variant_at : (row : Row) (i : Instr) (n : ℕ) → each_operand (kind_suits row i) ≡ true → n < 4 → is_variant_of row.place (method_of (kind_at row n)) (operand_at i n) ≡ true
unfolding kind_suits
variant_at row i n kinds below = each-at (kind_suits row i) n below kinds

variant-at : (bits : Bits) (ip : ℕ) (row : Row) (i : Instr) (n : ℕ) → Given bits ip row i → n < 4 → is_variant_of row.place (method_of (kind_at row n)) (operand_at i n) ≡ true
variant-at bits ip row i n g below = variant_at row i n g.suits.kinds below

-- **each immediate has the bytes of its kind**
pub immediate-length : (bits : Bits) (row : Row) (i : Instr) (next n : ℕ) → each_operand (kind_suits row i) ≡ true → n < 4 → length (immediate_at (plain_size bits row) row i next n) ≡ immediate_bytes (plain_size bits row) (kind_at row n)
unfolding immediate_at
immediate-length bits row i next n kinds below =
    own_length (plain_size bits row) next (immediate_bytes (plain_size bits row) (kind_at row n)) row.place (method_of (kind_at row n)) (operand_at i n)
    (bytes_suit (plain_size bits row) (kind_at row n)) (variant_at row i n kinds below)

four_lengths : (a b c d : List ℕ) (w x y z : ℕ) → length a ≡ w → length b ≡ x → length c ≡ y → length d ≡ z → length (a ++ (b ++ (c ++ d))) ≡ w + (x + (y + z))
four_lengths a b c d w x y z ha hb hc hd = simp length-append (rw (ha, hb, hc, hd))

-- **all of them are as long as the row asks**
pub immediates-length : (bits : Bits) (row : Row) (i : Instr) (next : ℕ) → each_operand (kind_suits row i) ≡ true → length (plain_immediates (plain_size bits row) row i next) ≡ immediates_bytes (plain_size bits row) row
unfolding plain_immediates immediates_bytes
immediates-length bits row i next kinds =
    four_lengths _ _ _ _ _ _ _ _ (immediate-length bits row i next 0 kinds (omega arith)) (immediate-length bits row i next 1 kinds (omega arith))
    (immediate-length bits row i next 2 kinds (omega arith)) (immediate-length bits row i next 3 kinds (omega arith))

count_short : (bits : Bits) → register_count bits ≤ 16
unfolding register_count
count_short B16 = omega arith
count_short B32 = omega arith
count_short B64 = omega arith

number_short : (bits : Bits) (op : Operand) → ((r : Register) → op ≡ Reg r → register_number r < register_count bits) → NumberIsShort op
number_short bits (Reg r) h = let a = h r refl in let b = count_short bits in omega arith
number_short bits AbsentOperand h = tt
number_short bits (MemOperand m) h = tt
number_short bits (Imm x) h = tt
number_short bits (Near x) h = tt
number_short bits (Far x y) h = tt

immediate-bytes : (bits : Bits) (ip : ℕ) (row : Row) (i : Instr) (next n : ℕ) → Given bits ip row i → n < 4 → are_bytes (immediate_at (plain_size bits row) row i next n) ≡ true
unfolding immediate_at
immediate-bytes bits ip row i next n g below =
    own_bytes (plain_size bits row) next (immediate_bytes (plain_size bits row) (kind_at row n)) row.place (method_of (kind_at row n)) (operand_at i n)
    (number_short bits (operand_at i n) (λ (r : Register) (e : operand_at i n ≡ Reg r). (nameable-at bits row i n r g.suits.registers below e).number))
    (variant-at bits ip row i n g below)

-- **and they are bytes**
pub immediates-bytes : (bits : Bits) (ip : ℕ) (row : Row) (i : Instr) (next : ℕ) → Given bits ip row i → are_bytes (plain_immediates (plain_size bits row) row i next) ≡ true
unfolding plain_immediates
immediates-bytes bits ip row i next g =
    let at = immediate_at (plain_size bits row) row i next in
    are_bytes-both (at 0) (at 1 ++ (at 2 ++ at 3)) (immediate-bytes bits ip row i next 0 g (omega arith))
    (are_bytes-both (at 1) (at 2 ++ at 3) (immediate-bytes bits ip row i next 1 g (omega arith))
    (are_bytes-both (at 2) (at 3) (immediate-bytes bits ip row i next 2 g (omega arith)) (immediate-bytes bits ip row i next 3 g (omega arith))))

-- the part of a list that stands between two others
cut : (front own back whole : List ℕ) (m k : ℕ) → whole ≡ front ++ (own ++ back) → length front ≡ m → length own ≡ k → take k (drop m whole) ≡ own
cut front own back whole m k e lf lo =
    let behind : drop m whole ≡ own ++ back = ap (λ x. drop x whole) (sym lf) ∙ ap (λ xs. drop (length front) xs) e ∙ drop-append_seam front (own ++ back) in
    ap (λ xs. take k xs) behind ∙ ap (λ x. take x (own ++ back)) (sym lo) ∙ take-append_seam own back

cut_three : (a b c d : List ℕ) (w x y z : ℕ) → length a ≡ w → length b ≡ x → length c ≡ y → length d ≡ z → take z (drop (w + (x + y)) (a ++ (b ++ (c ++ d)))) ≡ d
cut_three a b c d w x y z ha hb hc hd =
    cut (a ++ (b ++ c)) d [] (a ++ (b ++ (c ++ d))) (w + (x + y)) z (simp (append_assoc, append-nil)) (simp length-append (rw (ha, hb, hc))) hd

cut_two : (a b c d : List ℕ) (w x y z : ℕ) → length a ≡ w → length b ≡ x → length c ≡ y → length d ≡ z → take y (drop (w + (x + 0)) (a ++ (b ++ (c ++ d)))) ≡ c
cut_two a b c d w x y z ha hb hc hd =
    let l = length-append a b in
    cut (a ++ b) c d (a ++ (b ++ (c ++ d))) (w + (x + 0)) y (simp append_assoc) (omega arith) hc

cut_one : (a b more : List ℕ) (w x : ℕ) → length a ≡ w → length b ≡ x → take x (drop (w + 0) (a ++ (b ++ more))) ≡ b
cut_one a b more w x ha hb = cut a b more (a ++ (b ++ more)) (w + 0) x refl (omega arith) hb

cut_none : (a more : List ℕ) (w : ℕ) → length a ≡ w → take w (drop 0 (a ++ more)) ≡ a
cut_none a more w ha = cut [] a more (a ++ more) 0 w refl refl ha

-- **the bytes of each operand stand in their place**
pub own-immediate : (bits : Bits) (ip : ℕ) (row : Row) (i : Instr) (next n : ℕ) → Given bits ip row i → n < 4 → own_immediate (plain_size bits row) row n (plain_immediates (plain_size bits row) row i next) ≡ immediate_at (plain_size bits row) row i next n
unfolding own_immediate immediates_before plain_immediates
own-immediate bits ip row i next zero g below = cut_none _ _ _ (immediate-length bits row i next 0 g.suits.kinds below)
own-immediate bits ip row i next (suc zero) g below =
    cut_one _ _ _ _ _ (immediate-length bits row i next 0 g.suits.kinds (omega arith)) (immediate-length bits row i next 1 g.suits.kinds below)
own-immediate bits ip row i next (suc (suc zero)) g below =
    cut_two _ _ _ _ _ _ _ _ (immediate-length bits row i next 0 g.suits.kinds (omega arith)) (immediate-length bits row i next 1 g.suits.kinds (omega arith))
    (immediate-length bits row i next 2 g.suits.kinds below) (immediate-length bits row i next 3 g.suits.kinds (omega arith))
own-immediate bits ip row i next (suc (suc (suc zero))) g below =
    cut_three _ _ _ _ _ _ _ _ (immediate-length bits row i next 0 g.suits.kinds (omega arith)) (immediate-length bits row i next 1 g.suits.kinds (omega arith))
    (immediate-length bits row i next 2 g.suits.kinds (omega arith)) (immediate-length bits row i next 3 g.suits.kinds below)
own-immediate bits ip row i next (suc (suc (suc (suc n)))) g below = absurd (omega arith)

-- ---- read back

reached-op : (size : Bits) (next n : ℕ) (op : Operand) → (elim op [ Near target ↦ near_reaches size next n target | MemOperand m ↦ address_reaches next m | _ ↦ true ]) ≡ true → IsReached size next n op
reached-op size next n (Near target) h = h
reached-op size next n AbsentOperand h = tt
reached-op size next n (Reg r) h = tt
reached-op size next n (MemOperand m) h = tt
reached-op size next n (Imm x) h = tt
reached-op size next n (Far x y) h = tt

reached-at : (bits : Bits) (ip : ℕ) (row : Row) (i : Instr) (n : ℕ) → Given bits ip row i → n < 4 → IsReached (plain_size bits row) (plain_next bits ip row i) (immediate_bytes (plain_size bits row) (kind_at row n)) (operand_at i n)
unfolding target_suits
reached-at bits ip row i n g below =
    reached-op (plain_size bits row) (plain_next bits ip row i) (immediate_bytes (plain_size bits row) (kind_at row n)) (operand_at i n)
    (each-at (target_suits bits ip row i) n below g.suits.targets)

suits-at : (bits : Bits) (ip : ℕ) (row : Row) (i : Instr) (n : ℕ) → Given bits ip row i → n < 4 → immediate_suits_how (plain_size bits row) (method_of (kind_at row n)) (immediate_bytes (plain_size bits row) (kind_at row n)) (operand_at i n) ≡ true
unfolding immediate_suits
suits-at bits ip row i n g below = each-at (immediate_suits bits row i) n below g.suits.immediates

-- the next address is one of 64 bits
pub next-below : (bits : Bits) (ip : ℕ) (row : Row) (i : Instr) → plain_next bits ip row i < 2 ^ 64
unfolding plain_next
next-below B16 ip row i = omega arith
next-below B32 ip row i = omega arith
next-below B64 ip row i = omega arith

-- **an operand that is written behind the instruction is read back**
pub value-read_back : (bits : Bits) (ip : ℕ) (row : Row) (i : Instr) (f : PrefixState) (t : Tail) (n : ℕ) → Given bits ip row i → state_size bits row f ≡ plain_size bits row → t.next ≡ plain_next bits ip row i → n < 4 → is_value (operand_at i n) ≡ true → operand_by bits row f t (kind_at row n) (method_of (kind_at row n)) (immediate_at (plain_size bits row) row i t.next n) ≡ operand_at i n
unfolding immediate_at
value-read_back bits ip row i f t n g size next below is =
    let size_is = plain_size bits row in
    let k = immediate_bytes size_is (kind_at row n) in
    read_back bits row f t (kind_at row n) size_is k (method_of (kind_at row n)) (operand_at i n) size
    (subst (λ (x : ℕ). x < 2 ^ 64) (sym next) (next-below bits ip row i)) (bytes_short size_is (kind_at row n))
    (variant-at bits ip row i n g below) is (suits-at bits ip row i n g below)
    (subst (λ (x : ℕ). IsReached size_is x k (operand_at i n)) (sym next) (reached-at bits ip row i n g below))
