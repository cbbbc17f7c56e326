-- The encoding of a general register in ModRM.reg and memory at a lone base of 64 bits.
use Rattle.std.proofs.Common.{◌≡◌, inl, inr, ℕ, ◌+◌, ◌*◌, ◌%◌, ◌≤◌, Bool, true, false, ◌&&◌, ◌||◌, ◌==◌, List, [], ◌∷◌, ◌++◌, length, Option, Some, None, refl, ap, sym, ◌∙◌, subst, arith, append_assoc, append-nil, if◌then◌else◌}
use Rattle.std.proofs.lemmas.Bool.{and_parts, eqb-true}
use Rattle.x86_values.specs.declared.Bits.{Bits}
use Rattle.x86_values.specs.declared.Bits.TheVariants.{B64}
use Rattle.x86_values.specs.declared.Register.{Register}
use Rattle.x86_values.specs.declared.Register.TheVariants.{R64}
use Rattle.x86_values.specs.declared.Mem.{Mem}
use Rattle.x86_values.specs.declared.Operand.TheVariants.{Reg, Mem as MemOperand}
use Rattle.x86_values.specs.declared.Instr.{Instr}
use Rattle.instruction_parts.specs.declared.row_types.Row.{Row}
use Rattle.instruction_parts.specs.declared.row_types.Place.{Place}
use Rattle.instruction_parts.specs.declared.row_types.Place.TheVariants.{Any as AnyPlace, Memory as OnlyMemory, Register as OnlyRegister}
use Rattle.instruction_parts.specs.declared.row_types.OpKind.{OpKind}
use Rattle.instruction_parts.specs.declared.row_types.OpKind.TheVariants.{Ev, Gv, M}
use Rattle.instruction_parts.specs.declared.spelling.ModRm.{ModRm}
use Rattle.instruction_parts.specs.declared.spelling.Sib.{Sib}
use Rattle.instruction_parts.specs.Kinds.{method_of, file_of}
use Rattle.instruction_parts.specs.Bytes.{modrm_bytes, sib_bytes, bytes_of}
use Rattle.row_fit.specs.Fits.{kind_at}
use Rattle.plain_spelling.specs.Values.{low_bytes, is_extended_of}
use Rattle.plain_spelling.specs.Forms.{operand_at, is_variant_of, is_allowed_in}
use Rattle.plain_spelling.specs.PlainFront.{register_number, number_or_zero, is_low_byte_of_rex, number_in_reg, number_in_rm, number_in_index, number_in_opcode, number_asked_of, asks_low_byte, asks_67}
use Rattle.plain_spelling.specs.PlainTail.{rex_prefix, rm_fields, modrm_with, rm_operand, address_operand, displacement_of, operand_immediate, immediate_at, plain_immediates, plain_size, plain_modrm, plain_sib_of, plain_next, plain_spelling}
use Rattle.plain_spelling.specs.declared.addresses.AddressFields.{AddressFields}
use Rattle.plain_spelling.specs.Addresses.{general_size, pointer_size, shown_size, has_address_size, form_of, displacement_count, wide_offers, is_base, is_by_modrm, is_sole_base, is_based, mode_of_count, base_bits, index_bits, plain_sib, wide_needs_sib, wide_fields, address_fields}
use Rattle.plain_spelling.specs.Expressible.{operand_suits, address_size_suits, has_memory_operand, told_size, size_agrees, is_size_of}
use Rattle.plain_spelling.proofs.BasedAddresses.{based-suits}
use Rattle.plain_spelling.proofs.Suiting.{memory-suits}
use Rattle.encoder.specs.Frequent.{allows_memory, is_quad_address, has_plain_modrm, takes_memory, width_of, sized_number, quad_base, rex_of, based_bytes, AreFirst, IsBesideMemory, IsEncoded}
use Rattle.encoder.proofs.FrequentFacts.{Bare, bare-of, Pair, pair-of, asked-pair, Wide, wide-of, size_of, Sized, sized-of, rex-is, opcode-is, bare-bytes, Known, none-fails, encoded-as}
use Rattle.encoder.proofs.FrequentRegisters.{sized-named, sized-gv, variant-gv, modrm-any, sib-any, low-absent}

-- ---- a memory operand

quad-address : (x : Option Bits) → is_quad_address x ≡ true → x ≡ Some B64
quad-address (Some B64) h = refl
quad-address _ h = cc

allowed : (place : Place) (m : Mem) → allows_memory place ≡ true → is_allowed_in place (MemOperand m) ≡ true
unfolding is_allowed_in
allowed AnyPlace m h = refl
allowed OnlyMemory m h = refl
allowed OnlyRegister m h = cc

variant-ev : (place : Place) (m : Mem) → allows_memory place ≡ true → is_variant_of place (method_of Ev) (MemOperand m) ≡ true
unfolding is_variant_of method_of
variant-ev place m h = allowed place m h

variant-m : (place : Place) (m : Mem) → is_variant_of place (method_of M) (MemOperand m) ≡ true
unfolding is_variant_of method_of
variant-m place m = refl

by-ev : is_by_modrm (method_of Ev) ≡ true
unfolding method_of
by-ev = refl

by-m : is_by_modrm (method_of M) ≡ true
unfolding method_of
by-m = refl

memory-at : (ip : ℕ) (row : Row) (i : Instr) (n : ℕ) (m : Mem) (kind : OpKind) → kind_at row n ≡ kind → operand_at i n ≡ MemOperand m → is_variant_of row.place (method_of kind) (MemOperand m) ≡ true
    → is_by_modrm (method_of kind) ≡ true → is_based B64 m ≡ true → operand_suits B64 ip row i n ≡ true
memory-at ip row i n m kind ek eo v by based =
    let at : is_variant_of row.place (method_of (kind_at row n)) (MemOperand m) ≡ true = rw ek v in
    let how : is_by_modrm (method_of (kind_at row n)) ≡ true = rw ek by in
    sym (memory-suits B64 ip row i n m eo at) ∙ based-suits B64 row i.asize (plain_next B64 ip row i) (method_of (kind_at row n)) (file_of (kind_at row n)) m how based

sole-index : (base index : Option Register) → is_sole_base base index ≡ true → index ≡ None
sole-index (Some (R64 n)) None h = refl
sole-index _ _ h = cc

no-index : (m : Mem) → is_based B64 m ≡ true → m.index ≡ None
unfolding is_based
no-index m h =
    let displaced = wide_offers m.base (displacement_count m.disp_size) && is_extended_of (displacement_count m.disp_size) 64 m.disp in
    sole-index m.base m.index (and_parts (is_sole_base m.base m.index) (is_base B64 B64 m.base && (m.scale == 1 && displaced)) h).0

low-memory : (m : Mem) → is_low_byte_of_rex (MemOperand m) ≡ false
unfolding is_low_byte_of_rex
low-memory m = refl

agreeing : (m : Mem) (base : ℕ) → m.base ≡ Some (R64 base) → size_agrees B64 (MemOperand m) ≡ true
unfolding size_agrees told_size pointer_size shown_size general_size
agreeing m base e = rw e refl

-- ---- beside a register, in either order

record Beside (row : Row) (i : Instr) (r : Register) (m : Mem) : Type 0 where
  in_reg : number_asked_of number_in_reg row i ≡ register_number r
  in_rm : number_asked_of number_in_rm row i ≡ number_or_zero m.base
  in_index : number_asked_of number_in_index row i ≡ number_or_zero m.index
  in_opcode : number_asked_of number_in_opcode row i ≡ 0
  rm : rm_operand row i ≡ MemOperand m
  address : address_operand row i ≡ MemOperand m
  immediates : (size : Bits) (next : ℕ) → plain_immediates size row i next ≡ []
  low : is_low_byte_of_rex (Reg r) ≡ false → asks_low_byte i.ops ≡ false
  memory : has_memory_operand i ≡ true
  agrees : size_agrees B64 (MemOperand m) ≡ true → (size_agrees B64 (operand_at i 0) && (size_agrees B64 (operand_at i 1) && (size_agrees B64 (operand_at i 2) && size_agrees B64 (operand_at i 3)))) ≡ true
  suits : (ip : ℕ) (wide : Bool) (n : ℕ) → Sized wide r n → plain_size B64 row ≡ size_of wide → allows_memory row.place ≡ true → is_based B64 m ≡ true
      → (operand_suits B64 ip row i 0 ≡ true) × (operand_suits B64 ip row i 1 ≡ true)

memory-first : (row : Row) (i : Instr) (r : Register) (m : Mem) → AreFirst row i Ev Gv (MemOperand m) (Reg r) → Pair row i Ev Gv (MemOperand m) (Reg r) → Beside row i r m
unfolding number_in_reg number_in_rm number_in_index number_in_opcode method_of plain_immediates immediate_at operand_immediate has_memory_operand size_agrees
memory-first row i r m f p = record {
  in_reg = asked-pair number_in_reg row i Ev Gv (MemOperand m) (Reg r) p ∙ omega arith;
  in_rm = asked-pair number_in_rm row i Ev Gv (MemOperand m) (Reg r) p ∙ omega arith;
  in_index = asked-pair number_in_index row i Ev Gv (MemOperand m) (Reg r) p ∙ omega arith;
  in_opcode = asked-pair number_in_opcode row i Ev Gv (MemOperand m) (Reg r) p ∙ omega arith;
  rm = rw (p.kinds, p.ops) refl;
  address = rw (p.kinds, p.ops) refl;
  immediates = λ size next. rw p.kinds refl;
  low = λ h. rw (p.ops, low-memory m, h, low-absent) refl;
  memory = rw p.ops refl;
  agrees = λ h. rw (p.ops, h) refl;
  suits = λ ip wide n s size place based. (
    memory-at ip row i 0 m Ev f.first_kind f.first_is (variant-ev row.place m place) by-ev based,
    sized-named ip row i 1 wide r n Gv f.second_kind f.second_is (variant-gv row.place r) (sized-gv wide r n s) size,
  );
}

memory-second : (row : Row) (i : Instr) (r : Register) (m : Mem) → AreFirst row i Gv Ev (Reg r) (MemOperand m) → Pair row i Gv Ev (Reg r) (MemOperand m) → Beside row i r m
unfolding number_in_reg number_in_rm number_in_index number_in_opcode method_of plain_immediates immediate_at operand_immediate has_memory_operand size_agrees
memory-second row i r m f p = record {
  in_reg = asked-pair number_in_reg row i Gv Ev (Reg r) (MemOperand m) p ∙ omega arith;
  in_rm = asked-pair number_in_rm row i Gv Ev (Reg r) (MemOperand m) p ∙ omega arith;
  in_index = asked-pair number_in_index row i Gv Ev (Reg r) (MemOperand m) p ∙ omega arith;
  in_opcode = asked-pair number_in_opcode row i Gv Ev (Reg r) (MemOperand m) p ∙ omega arith;
  rm = rw (p.kinds, p.ops) refl;
  address = rw (p.kinds, p.ops) refl;
  immediates = λ size next. rw p.kinds refl;
  low = λ h. rw (p.ops, low-memory m, h, low-absent) refl;
  memory = rw p.ops refl;
  agrees = λ h. rw (p.ops, h) refl;
  suits = λ ip wide n s size place based. (
    sized-named ip row i 0 wide r n Gv f.first_kind f.first_is (variant-gv row.place r) (sized-gv wide r n s) size,
    memory-at ip row i 1 m Ev f.second_kind f.second_is (variant-ev row.place m place) by-ev based,
  );
}

memory-alone : (row : Row) (i : Instr) (r : Register) (m : Mem) → AreFirst row i Gv M (Reg r) (MemOperand m) → Pair row i Gv M (Reg r) (MemOperand m) → Beside row i r m
unfolding number_in_reg number_in_rm number_in_index number_in_opcode method_of plain_immediates immediate_at operand_immediate has_memory_operand size_agrees
memory-alone row i r m f p = record {
  in_reg = asked-pair number_in_reg row i Gv M (Reg r) (MemOperand m) p ∙ omega arith;
  in_rm = asked-pair number_in_rm row i Gv M (Reg r) (MemOperand m) p ∙ omega arith;
  in_index = asked-pair number_in_index row i Gv M (Reg r) (MemOperand m) p ∙ omega arith;
  in_opcode = asked-pair number_in_opcode row i Gv M (Reg r) (MemOperand m) p ∙ omega arith;
  rm = rw (p.kinds, p.ops) refl;
  address = rw (p.kinds, p.ops) refl;
  immediates = λ size next. rw p.kinds refl;
  low = λ h. rw (p.ops, low-memory m, h, low-absent) refl;
  memory = rw p.ops refl;
  agrees = λ h. rw (p.ops, h) refl;
  suits = λ ip wide n s size place based. (
    sized-named ip row i 0 wide r n Gv f.first_kind f.first_is (variant-gv row.place r) (sized-gv wide r n s) size,
    memory-at ip row i 1 m M f.second_kind f.second_is (variant-m row.place m) by-m based,
  );
}

beside-of : (row : Row) (i : Instr) (r : Register) (m : Mem) → Known row i → IsBesideMemory row i r m → Beside row i r m
beside-of row i r m k (inl f) =
    memory-first row i r m f (pair-of row i Ev Gv (MemOperand m) (Reg r) k.is_sound k.four (bare-of row i k.bare) f.first_kind f.second_kind f.first_is f.second_is)
beside-of row i r m k (inr (inl f)) =
    memory-second row i r m f (pair-of row i Gv Ev (Reg r) (MemOperand m) k.is_sound k.four (bare-of row i k.bare) f.first_kind f.second_kind f.first_is f.second_is)
beside-of row i r m k (inr (inr f)) =
    memory-alone row i r m f (pair-of row i Gv M (Reg r) (MemOperand m) k.is_sound k.four (bare-of row i k.bare) f.first_kind f.second_kind f.first_is f.second_is)

-- ---- its bytes

-- the fields of a lone base
abbrev based_fields : ℕ → ℕ → AddressFields
based_fields base count = record {
  mode3 = mode_of_count count;
  rm = if base % 8 == 4 then 4 else base % 8;
  sib = if base % 8 == 4 then Some (record { scale = 0; index = 4; base = base % 8 }) else None;
}

fields-are : (asize : Option Bits) (place : Place) (m : Mem) (base : ℕ) → m.base ≡ Some (R64 base) → m.index ≡ None → rm_fields B64 asize place (MemOperand m) ≡ based_fields base (displacement_count m.disp_size)
unfolding rm_fields address_fields form_of wide_fields wide_needs_sib base_bits plain_sib index_bits register_number
fields-are asize place m base eb ei = rw (eb, ei) refl

sib-or-not : (mode reg low : ℕ) (rest : List ℕ) (four : Bool) → (low == 4) ≡ four
    → (mode * 64 + reg * 8 + (if four then 4 else low)) ∷ (sib_bytes (if four then Some (record { scale = 0; index = 4; base = low }) else None) ++ rest) ≡ (mode * 64 + reg * 8 + low) ∷ ((if four then 0x24 ∷ [] else []) ++ rest)
sib-or-not mode reg low rest true e = rw (eqb-true low 4 e) refl
sib-or-not mode reg low rest false e = refl

tail-of : (row : Row) (i : Instr) (m : Mem) (base reg : ℕ) (rest : List ℕ) → plain_modrm B64 row i ≡ Some (modrm_with (reg % 8) (based_fields base (displacement_count m.disp_size)))
    → plain_sib_of B64 row i ≡ (based_fields base (displacement_count m.disp_size)).sib
    → modrm_bytes (plain_modrm B64 row i) ++ (sib_bytes (plain_sib_of B64 row i) ++ rest)
    ≡ (mode_of_count (displacement_count m.disp_size) * 64 + reg % 8 * 8 + base % 8) ∷ ((if base % 8 == 4 then 0x24 ∷ [] else []) ++ rest)
tail-of row i m base reg rest em es =
    ap (λ (x : Option ModRm). modrm_bytes x ++ (sib_bytes (plain_sib_of B64 row i) ++ rest)) em
    ∙ (ap (λ (x : Option Sib). modrm_bytes (Some (modrm_with (reg % 8) (based_fields base (displacement_count m.disp_size)))) ++ (sib_bytes x ++ rest)) es
    ∙ sib-or-not (mode_of_count (displacement_count m.disp_size)) (reg % 8) (base % 8) rest (base % 8 == 4) refl)

displaced : (next : ℕ) (m : Mem) (base : ℕ) → m.base ≡ Some (R64 base) → m.index ≡ None → displacement_of next m ≡ low_bytes (displacement_count m.disp_size) m.disp
unfolding displacement_of form_of
displaced next m base eb ei = rw eb refl

quad-67 : (x : Option Bits) → x ≡ Some B64 → asks_67 B64 x ≡ false
unfolding asks_67
quad-67 x e = rw e refl

base-number : (m : Mem) (base : ℕ) → m.base ≡ Some (R64 base) → number_or_zero m.base ≡ base
unfolding register_number
base-number m base e = rw e refl

index-number : (m : Mem) → m.index ≡ None → number_or_zero m.index ≡ 0
index-number m e = rw e refl

memory-bytes : (ip : ℕ) (row : Row) (i : Instr) (wide : Bool) (r : Register) (m : Mem) (base reg : ℕ) → Bare row i → Wide row wide → Beside row i r m → Sized wide r reg
    → m.base ≡ Some (R64 base) → m.index ≡ None → i.asize ≡ Some B64
    → bytes_of row (plain_spelling B64 ip row i) ≡ rex_prefix (rex_of wide reg base) ++ (row.opcode ∷ based_bytes reg base (displacement_count m.disp_size) m.disp)
unfolding based_bytes
memory-bytes ip row i wide r m base reg bare w b s eb ei quad =
    let rex = rex-is row i wide reg base bare.legacy w.rex_w (b.in_reg ∙ s.number) (b.in_rm ∙ base-number m base eb) (b.in_index ∙ index-number m ei) (b.low s.low) in
    let fields = fields-are i.asize row.place m base eb ei in
    let em = modrm-any row i (MemOperand m) w.modrm b.rm
    ∙ (ap (λ (f : AddressFields). Some (modrm_with (number_asked_of number_in_reg row i % 8) f)) fields
    ∙ ap (λ (n : ℕ). Some (modrm_with (n % 8) (based_fields base (displacement_count m.disp_size)))) (b.in_reg ∙ s.number)) in
    let es = sib-any row i (MemOperand m) w.modrm b.rm ∙ ap (λ (f : AddressFields). f.sib) fields in
    let disp = displaced (plain_next B64 ip row i) m base eb ei in
    bare-bytes ip row i bare w.no_66 (quad-67 i.asize quad)
    ∙ (rw (rex, opcode-is row i b.in_opcode, b.address, disp, b.immediates (plain_size B64 row) (plain_next B64 ip row i), append-nil (low_bytes (displacement_count m.disp_size) m.disp), tail-of row i m base reg (low_bytes (displacement_count m.disp_size) m.disp) em es, w.map)
    (append_assoc (rex_prefix (rex_of wide reg base)) [] _))

-- ---- the address size

memory-size : (row : Row) (i : Instr) (r : Register) (m : Mem) (base : ℕ) → Beside row i r m → m.base ≡ Some (R64 base) → i.asize ≡ Some B64 → address_size_suits B64 row i ≡ true
unfolding address_size_suits is_size_of has_address_size
memory-size row i r m base b eb quad = rw (b.memory, quad, b.agrees (agreeing m base eb)) refl

-- **what is written of a register and memory is the encoding**
pub memory-encoded : (row : Row) (i : Instr) (wide : Bool) (r : Register) (m : Mem) (base reg : ℕ) → Known row i → takes_memory row i ≡ true → Some wide ≡ width_of row.size → IsBesideMemory row i r m
    → m.base ≡ Some (R64 base) → is_based B64 m ≡ true → Some reg ≡ sized_number wide r
    → length (rex_prefix (rex_of wide reg base) ++ (row.opcode ∷ based_bytes reg base (displacement_count m.disp_size) m.disp)) ≤ 15
    → IsEncoded row i (rex_prefix (rex_of wide reg base) ++ (row.opcode ∷ based_bytes reg base (displacement_count m.disp_size) m.disp))
unfolding takes_memory
memory-encoded row i wide r m base reg k takes ew beside eb based er few ip =
    let bare = bare-of row i k.bare in
    let x = and_parts (has_plain_modrm row) (allows_memory row.place && is_quad_address i.asize) takes in
    let y = and_parts (allows_memory row.place) (is_quad_address i.asize) x.1 in
    let quad = quad-address i.asize y.1 in
    let w = wide-of row i wide bare x.0 ew in
    let s = sized-of wide r reg er in
    let b = beside-of row i r m k beside in
    let h = b.suits ip wide reg s w.size y.0 based in
    encoded-as ip row i _ k (none-fails ip row i k h.0 h.1 (memory-size row i r m base b eb quad))
    (memory-bytes ip row i wide r m base reg bare w b s eb (no-index m based) quad) few

-- a base of 64 bits is one
pub base-of : (x : Option Register) (n : ℕ) → Some n ≡ quad_base x → x ≡ Some (R64 n)
base-of (Some (R64 m)) n h = cc
base-of _ n h = cc

-- ---- its length

few-of : (a b c d : Bool) (n : ℕ) → (a ≡ true → n ≡ 1) → (b ≡ true → n ≡ 4) → (c ≡ true → n ≡ 0) → (a || (b || (c && d))) ≡ true → n ≤ 4
few-of true b c d n f g h e = let x = f refl in omega (arith, x)
few-of false true c d n f g h e = let x = g refl in omega (arith, x)
few-of false false true d n f g h e = let x = h refl in omega (arith, x)
few-of false false false d n f g h e = cc

offered : (m : Mem) → is_based B64 m ≡ true → wide_offers m.base (displacement_count m.disp_size) ≡ true
unfolding is_based
offered m h =
    let extended = is_extended_of (displacement_count m.disp_size) 64 m.disp in
    let displaced = wide_offers m.base (displacement_count m.disp_size) && extended in
    let a = and_parts (is_sole_base m.base m.index) (is_base B64 B64 m.base && (m.scale == 1 && displaced)) h in
    let b = and_parts (is_base B64 B64 m.base) (m.scale == 1 && displaced) a.1 in
    let c = and_parts (m.scale == 1) displaced b.1 in
    (and_parts (wide_offers m.base (displacement_count m.disp_size)) extended c.1).0

some-few : (base : ℕ) (n : ℕ) → wide_offers (Some (R64 base)) n ≡ true → n ≤ 4
unfolding wide_offers
some-few base n h = few-of (n == 1) (n == 4) (n == 0) _ n (eqb-true n 1) (eqb-true n 4) (eqb-true n 0) h

-- the displacement beside a lone base has at most four bytes
pub based-few : (m : Mem) (base : ℕ) → m.base ≡ Some (R64 base) → is_based B64 m ≡ true → displacement_count m.disp_size ≤ 4
based-few m base eb h = some-few base (displacement_count m.disp_size) (subst (λ (x : Option Register). wide_offers x (displacement_count m.disp_size) ≡ true) eb (offered m h))

-- what is written behind a REX
pub written-behind : (out push rex rest wanted front : List ℕ) (opcode : ℕ) → rex ≡ front → push ≡ rex ++ (opcode ∷ []) → out ≡ push ++ rest → rest ≡ wanted → out ≡ front ++ (opcode ∷ wanted)
written-behind out push rex rest wanted front opcode e0 e1 e2 e3 = rw (e2, e1, e0, e3) (append_assoc front (opcode ∷ []) wanted)

-- a ModRM byte, the SIB byte or none, and a displacement
pub written-based : (out s p old sib low : List ℕ) (x y : ℕ) → p ≡ old ++ (x ∷ []) → x ≡ y → s ≡ p ++ sib → out ≡ s ++ low → out ≡ old ++ (y ∷ (sib ++ low))
written-based out s p old sib low x y e0 e1 e2 e3 = rw (e3, e2, e0, e1) (append_assoc (old ++ (y ∷ [])) sib low ∙ append_assoc old (y ∷ []) (sib ++ low))
