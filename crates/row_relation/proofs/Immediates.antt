-- Immediates that are read as the same operand are the same bytes.
use Rattle.std.proofs.Common.{◌≡◌, ℕ, ◌-◌, ◌*◌, ◌/◌, ◌%◌, ◌≤◌, Bool, true, false, ◌||◌, ◌==◌, nat_lt, List, [], ◌∷◌, ◌++◌, length, take, drop, refl, ap, sym, ◌∙◌, arith, take-append-drop, length-take, length-drop, if◌then◌else◌}
use Rattle.std.proofs.lemmas.Bool.{and_parts, eqb-true}
use borrow.Author.Tests.{ltb-true}
use Rattle.x86_values.specs.declared.Bits.{Bits}
use Rattle.x86_values.specs.declared.Operand.TheVariants.{Imm, Near, Far}
use Rattle.x86_values.specs.Wrapping.{width}
use Rattle.instruction_parts.specs.declared.row_types.Row.{Row}
use Rattle.instruction_parts.specs.declared.row_types.OpKind.{OpKind}
use Rattle.instruction_parts.specs.declared.row_types.OpKind.TheVariants.{Lx, Ibs, Iz, Jb, Jz}
use Rattle.instruction_parts.specs.declared.kinds.Method.{Method}
use Rattle.instruction_parts.specs.declared.kinds.Method.TheVariants as method
use Rattle.instruction_parts.specs.declared.spelling.PrefixState.{PrefixState}
use Rattle.instruction_parts.specs.Kinds.{method_of, file_of, immediate_width}
use Rattle.instruction_parts.specs.Counting.{is_64}
use Rattle.instruction_parts.specs.Sizes.{state_size}
use Rattle.row_fit.specs.Fits.{are_bytes, immediate_bytes}
use Rattle.row_fit.specs.Sound.{reads_last_byte}
use Rattle.row_meaning.specs.Meaning.{Tail, operand_by, register_of, little_endian, target_of, near_target, far_pointer, last_byte_number}
use Rattle.plain_spelling.specs.PlainFront.{register_number, operand_number}
use Rattle.row_relation.proofs.AddressCases.{impossible}
use Rattle.row_relation.proofs.WrittenValues.{width-le}
use Rattle.plain_spelling.proofs.ImmediateBytes.{BytesSuit, of_each_size}
use Rattle.row_relation.proofs.NeedImmediates.{bytes-take, bytes-drop}
use Rattle.row_relation.proofs.NeedNumbers.{number-vector}
use Rattle.row_relation.specs.IsPlain.{last_byte_is_bare}
use Rattle.row_relation.proofs.Values.{value_same, extended_same, target_same}

-- ---- lengths

-- an operand that is read by operand size has no more bits than it
abbrev pub Narrow : Bits → Method → ℕ → Type 0
Narrow size method.Extended n = 8 * n ≤ width size
Narrow size method.Near n = 8 * n ≤ width size
Narrow size _ n = Unit {0}

-- an immediate is no wider than its kind
pub narrow_kind : (size : Bits) (kind : OpKind) → Narrow size (method_of kind) (immediate_bytes size kind)
unfolding method_of immediate_width immediate_bytes
narrow_kind size Ibs = of_each_size (λ s. 8 * immediate_bytes s Ibs ≤ width s) (omega arith) (omega arith) (omega arith) size
narrow_kind size Iz = of_each_size (λ s. 8 * immediate_bytes s Iz ≤ width s) (omega arith) (omega arith) (omega arith) size
narrow_kind size Jb = of_each_size (λ s. 8 * immediate_bytes s Jb ≤ width s) (omega arith) (omega arith) (omega arith) size
narrow_kind size Jz = of_each_size (λ s. 8 * immediate_bytes s Jz ≤ width s) (omega arith) (omega arith) (omega arith) size
narrow_kind size _ = tt

-- ---- a far pointer

two_parts : (n : ℕ) (a b : List ℕ) → take n a ≡ take n b → drop n a ≡ drop n b → a ≡ b
two_parts n a b h k =
    sym (take-append-drop n a) ∙ ap (λ (x : List ℕ). x ++ drop n a) h ∙ ap (λ (x : List ℕ). take n b ++ x) k ∙ take-append-drop n b

far_inside : (s1 o1 s2 o2 : ℕ) → Far s1 o1 ≡ Far s2 o2 → (s1 ≡ s2) × (o1 ≡ o2)
far_inside s1 o1 s2 o2 h = (cc, cc)

far_same : (a b : List ℕ) → length a ≡ length b → are_bytes a ≡ true → are_bytes b ≡ true → far_pointer a ≡ far_pointer b → a ≡ b
unfolding far_pointer
far_same a b n ha hb e =
    let m : length b - 2 ≡ length a - 2 = ap (λ (x : ℕ). x - 2) (sym n) in
    let k : Far (little_endian (drop (length a - 2) a)) (little_endian (take (length a - 2) a)) ≡ Far (little_endian (drop (length a - 2) b)) (little_endian (take (length a - 2) b)) =
    e ∙ ap (λ (x : ℕ). Far (little_endian (drop x b)) (little_endian (take x b))) m in
    let parts = far_inside _ _ _ _ k in
    let taken : length (take (length a - 2) a) ≡ length (take (length a - 2) b) = simp length-take (omega arith) in
    let dropped : length (drop (length a - 2) a) ≡ length (drop (length a - 2) b) = simp length-drop (omega arith) in
    two_parts (length a - 2) a b
    (value_same _ _ taken (bytes-take (length a - 2) a ha) (bytes-take (length a - 2) b hb) parts.1)
    (value_same _ _ dropped (bytes-drop (length a - 2) a ha) (bytes-drop (length a - 2) b hb) parts.0)

-- ---- a last byte

bare_parts : (bits : Bits) (x : ℕ) (rest : List ℕ) → last_byte_is_bare bits (x ∷ rest) ≡ true → (x % 16 ≡ 0) × ((is_64 bits || nat_lt x 128) ≡ true)
bare_parts bits x rest h = (eqb-true (x % 16) 0 (and_parts (x % 16 == 0) _ h).0, (and_parts (x % 16 == 0) _ h).1)

last_by : (long : Bool) (x y : ℕ) → x % 16 ≡ 0 → y % 16 ≡ 0 → (long || nat_lt x 128) ≡ true → (long || nat_lt y 128) ≡ true → (if long then x / 16 else x / 16 % 8) ≡ (if long then y / 16 else y / 16 % 8) → x ≡ y
last_by true x y hx hy bx by_ e = omega arith
last_by false x y hx hy bx by_ e = (let kx = ltb-true x 128 bx in let ky = ltb-true y 128 by_ in omega arith)

last_same : (bits : Bits) (a b : List ℕ) → length a ≡ 1 → length b ≡ 1 → last_byte_is_bare bits a ≡ true → last_byte_is_bare bits b ≡ true → last_byte_number bits a ≡ last_byte_number bits b → a ≡ b
unfolding last_byte_number
last_same bits [] b n m ha hb e = absurd (omega arith)
last_same bits (x ∷ []) [] n m ha hb e = absurd (omega arith)
last_same bits (x ∷ []) (y ∷ []) n m ha hb e =
    let px = bare_parts bits x [] ha in let py = bare_parts bits y [] hb in
    ap (λ (z : ℕ). z ∷ []) (last_by (is_64 bits) x y px.0 py.0 px.1 py.1 e)
last_same bits (x ∷ []) (y ∷ z ∷ b) n m ha hb e = absurd (omega arith)
last_same bits (x ∷ z ∷ a) b n m ha hb e = absurd (omega arith)

last_kept : (bits : Bits) (row : Row) (st : PrefixState) (kind : OpKind) (n : ℕ) → reads_last_byte (method_of kind) ≡ true → register_number (register_of bits row st (file_of kind) n) ≡ n
unfolding method_of file_of register_of
last_kept bits row st Lx n h = number-vector row.l n
last_kept bits row st _ n h = impossible (sym h)

-- ---- all of them

no_bytes : (a b : List ℕ) → length a ≡ length b → length a ≡ 0 → a ≡ b
no_bytes [] [] n h = refl
no_bytes [] (y ∷ b) n h = absurd (omega arith)
no_bytes (x ∷ a) b n h = absurd (omega arith)

imm_inside : (x y : ℕ) → Imm x ≡ Imm y → x ≡ y
imm_inside x y h = cc

near_inside : (x y : ℕ) → Near x ≡ Near y → x ≡ y
near_inside x y h = cc

-- **immediates that are read as the same operand are the same bytes**
pub imm_same : (bits : Bits) (row : Row) (st : PrefixState) (t u : Tail) (kind : OpKind) (how : Method) (a b : List ℕ) → method_of kind ≡ how → t.next ≡ u.next → length a ≡ length b → BytesSuit how (length a) → Narrow (state_size bits row st) how (length a) → are_bytes a ≡ true → are_bytes b ≡ true
    → (reads_last_byte how ≡ true → (last_byte_is_bare bits a ≡ true) × (last_byte_is_bare bits b ≡ true))
    → operand_by bits row st t kind how a ≡ operand_by bits row st u kind how b → a ≡ b
unfolding operand_by near_target
imm_same bits row st t u kind method.AsWritten a b k nx n suit small ha hb bare e = value_same a b n ha hb (imm_inside _ _ e)
imm_same bits row st t u kind method.Extended a b k nx n suit small ha hb bare e =
    extended_same (width (state_size bits row st)) a b n small (width-le (state_size bits row st)) ha hb (imm_inside _ _ e)
imm_same bits row st t u kind method.Near a b k nx n suit small ha hb bare e =
    let size = state_size bits row st in
    target_same size t.next a b n small (width-le size) ha hb (near_inside _ _ e ∙ ap (λ (x : ℕ). target_of size x b) (sym nx))
imm_same bits row st t u kind method.Pointer a b k nx n suit small ha hb bare e = far_same a b n ha hb e
imm_same bits row st t u kind method.LastByte a b k nx n suit small ha hb bare e =
    let r = ap operand_number e in
    let reads : reads_last_byte (method_of kind) ≡ true = ap reads_last_byte k in
    last_same bits a b suit (sym n ∙ suit) (bare refl).0 (bare refl).1
    (sym (last_kept bits row st kind (last_byte_number bits a) reads) ∙ r ∙ last_kept bits row st kind (last_byte_number bits b) reads)
imm_same bits row st t u kind _ a b k nx n suit small ha hb bare e = no_bytes a b n suit
