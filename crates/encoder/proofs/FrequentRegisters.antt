-- The encoding of two general registers, one in r/m and one in ModRM.reg.
use Rattle.std.proofs.Common.{◌≡◌, ℕ, ◌+◌, ◌*◌, ◌%◌, ◌≤◌, Bool, true, false, ◌&&◌, [], ◌∷◌, ◌++◌, length, Option, Some, None, is_none, refl, ap, sym, ◌∙◌, arith, append_assoc, length-append}
use Rattle.std.proofs.lemmas.Bool.{and_parts}
use Rattle.x86_values.specs.declared.Bits.{Bits}
use Rattle.x86_values.specs.declared.Bits.TheVariants.{B64}
use Rattle.x86_values.specs.declared.Register.{Register}
use Rattle.x86_values.specs.declared.Operand.{Operand}
use Rattle.x86_values.specs.declared.Operand.TheVariants.{Absent, Reg}
use Rattle.x86_values.specs.declared.Instr.{Instr}
use Rattle.instruction_parts.specs.declared.row_types.Row.{Row}
use Rattle.instruction_parts.specs.declared.row_types.Place.{Place}
use Rattle.instruction_parts.specs.declared.row_types.Place.TheVariants.{Any as AnyPlace}
use Rattle.instruction_parts.specs.declared.row_types.ModRmRule.TheVariants.{Any as AnyModRm}
use Rattle.instruction_parts.specs.declared.row_types.OpKind.{OpKind}
use Rattle.instruction_parts.specs.declared.row_types.OpKind.TheVariants.{Ev, Gv}
use Rattle.instruction_parts.specs.Kinds.{method_of}
use Rattle.instruction_parts.specs.Bytes.{modrm_bytes, sib_bytes, bytes_of}
use Rattle.instruction_parts.specs.Sizes.{has_address_mark}
use Rattle.row_fit.specs.Fits.{kind_at}
use Rattle.plain_spelling.specs.Forms.{operand_at, is_variant_of, is_allowed_in}
use Rattle.plain_spelling.specs.PlainFront.{register_number, is_low_byte_of_rex, number_in_reg, number_in_rm, number_in_index, number_in_opcode, number_asked_of, asks_low_byte, asks_67}
use Rattle.plain_spelling.specs.PlainTail.{rex_prefix, rm_fields, modrm_with, rm_operand, address_operand, displacement_of_operand, operand_immediate, immediate_at, plain_immediates, plain_size, plain_modrm, plain_sib_of, plain_next, plain_spelling}
use Rattle.plain_spelling.specs.Expressible.{is_sized_register, operand_suits, address_size_suits, has_memory_operand}
use Rattle.plain_spelling.proofs.SizedRegisters.{sized-nameable}
use Rattle.plain_spelling.proofs.Suiting.{register-suits}
use Rattle.encoder.specs.Frequent.{is_any_place, has_plain_modrm, takes_registers, width_of, sized_number, rex_of, AreFirst, IsEncoded}
use Rattle.encoder.proofs.FrequentFacts.{no-size, Bare, bare-of, Pair, pair-of, asked-pair, Wide, wide-of, size_of, Sized, sized-of, rex-is, opcode-is, bare-bytes, Known, none-fails, encoded-as}

any-place : (x : Place) → is_any_place x ≡ true → x ≡ AnyPlace
any-place AnyPlace h = refl
any-place _ h = cc

-- ---- a register operand

-- a general register of the operand size can be named as one
pub sized-named : (ip : ℕ) (row : Row) (i : Instr) (n : ℕ) (wide : Bool) (r : Register) (m : ℕ) (kind : OpKind) → kind_at row n ≡ kind → operand_at i n ≡ Reg r
    → is_variant_of row.place (method_of kind) (Reg r) ≡ true → is_sized_register B64 (size_of wide) kind r ≡ true → plain_size B64 row ≡ size_of wide → operand_suits B64 ip row i n ≡ true
sized-named ip row i n wide r m kind ek eo v sized size =
    let at : is_variant_of row.place (method_of (kind_at row n)) (Reg r) ≡ true = rw ek v in
    let fits : is_sized_register B64 (plain_size B64 row) (kind_at row n) r ≡ true = rw (ek, size) sized in
    sym (register-suits B64 ip row i n r eo at) ∙ sized-nameable B64 row i n r fits

-- r/m takes it
pub sized-ev : (wide : Bool) (r : Register) (n : ℕ) → Sized wide r n → is_sized_register B64 (size_of wide) Ev r ≡ true
unfolding is_sized_register
sized-ev wide r n s = rw s.address refl

-- so does ModRM.reg
pub sized-gv : (wide : Bool) (r : Register) (n : ℕ) → Sized wide r n → is_sized_register B64 (size_of wide) Gv r ≡ true
unfolding is_sized_register
sized-gv wide r n s = rw s.address refl

variant-ev : (place : Place) (r : Register) → place ≡ AnyPlace → is_variant_of place (method_of Ev) (Reg r) ≡ true
unfolding is_variant_of is_allowed_in method_of
variant-ev place r e = rw e refl

-- and any register
pub variant-gv : (place : Place) (r : Register) → is_variant_of place (method_of Gv) (Reg r) ≡ true
unfolding is_variant_of method_of
variant-gv place r = refl

-- ---- two of them

-- what two registers ask of the fields
record Numbers (row : Row) (i : Instr) (a b : Register) : Type 0 where
  in_reg : number_asked_of number_in_reg row i ≡ register_number b
  in_rm : number_asked_of number_in_rm row i ≡ register_number a
  in_index : number_asked_of number_in_index row i ≡ 0
  in_opcode : number_asked_of number_in_opcode row i ≡ 0

numbers : (row : Row) (i : Instr) (a b : Register) → Pair row i Ev Gv (Reg a) (Reg b) → Numbers row i a b
unfolding number_in_reg number_in_rm number_in_index number_in_opcode method_of
numbers row i a b p = record {
  in_reg = asked-pair number_in_reg row i Ev Gv (Reg a) (Reg b) p ∙ omega arith;
  in_rm = asked-pair number_in_rm row i Ev Gv (Reg a) (Reg b) p ∙ omega arith;
  in_index = asked-pair number_in_index row i Ev Gv (Reg a) (Reg b) p ∙ omega arith;
  in_opcode = asked-pair number_in_opcode row i Ev Gv (Reg a) (Reg b) p ∙ omega arith;
}

-- what stands behind the opcode byte
record Tail (row : Row) (i : Instr) (reg rm : ℕ) : Type 0 where
  modrm : modrm_bytes (plain_modrm B64 row i) ≡ (3 * 64 + reg % 8 * 8 + rm % 8) ∷ []
  sib : sib_bytes (plain_sib_of B64 row i) ≡ []
  displacement : (next : ℕ) → displacement_of_operand next (address_operand row i) ≡ []
  immediates : (size : Bits) (next : ℕ) → plain_immediates size row i next ≡ []

rm-is : (row : Row) (i : Instr) (a b : Register) → Pair row i Ev Gv (Reg a) (Reg b) → rm_operand row i ≡ Reg a
unfolding method_of
rm-is row i a b p = rw (p.kinds, p.ops) refl

address-is : (row : Row) (i : Instr) (a b : Register) → Pair row i Ev Gv (Reg a) (Reg b) → address_operand row i ≡ Reg a
unfolding method_of
address-is row i a b p = rw (p.kinds, p.ops) refl

no-immediates : (size : Bits) (next : ℕ) (row : Row) (i : Instr) (a b : Operand) → Pair row i Ev Gv a b → plain_immediates size row i next ≡ []
unfolding plain_immediates immediate_at operand_immediate method_of
no-immediates size next row i a b p = rw p.kinds refl

-- the ModRM of a row with any ModRM, by the operand in r/m
pub modrm-any : (row : Row) (i : Instr) (op : Operand) → row.modrm ≡ AnyModRm → rm_operand row i ≡ op
    → plain_modrm B64 row i ≡ Some (modrm_with (number_asked_of number_in_reg row i % 8) (rm_fields B64 i.asize row.place op))
unfolding plain_modrm
modrm-any row i op e r =
    let any : plain_modrm B64 row i ≡ Some (modrm_with (number_asked_of number_in_reg row i % 8) (rm_fields B64 i.asize row.place (rm_operand row i))) = rw e refl in
    any ∙ ap (λ (x : Operand). Some (modrm_with (number_asked_of number_in_reg row i % 8) (rm_fields B64 i.asize row.place x))) r

-- and its SIB
pub sib-any : (row : Row) (i : Instr) (op : Operand) → row.modrm ≡ AnyModRm → rm_operand row i ≡ op → plain_sib_of B64 row i ≡ (rm_fields B64 i.asize row.place op).sib
unfolding plain_sib_of
sib-any row i op e r =
    let any : plain_sib_of B64 row i ≡ (rm_fields B64 i.asize row.place (rm_operand row i)).sib = rw e refl in
    any ∙ ap (λ (x : Operand). (rm_fields B64 i.asize row.place x).sib) r

modrm-of : (m n x y : ℕ) → m ≡ x → n ≡ y → (3 * 64 + m % 8 * 8 + n % 8) ∷ [] ≡ (3 * 64 + x % 8 * 8 + y % 8) ∷ []
modrm-of m n x y em en = rw (em, en) refl

tail-is : (row : Row) (i : Instr) (wide : Bool) (a b : Register) (rm reg : ℕ) → Wide row wide → Pair row i Ev Gv (Reg a) (Reg b) → Sized wide a rm → Sized wide b reg → Tail row i reg rm
unfolding rm_fields
tail-is row i wide a b rm reg w p sa sb = record {
  modrm = ap modrm_bytes (modrm-any row i (Reg a) w.modrm (rm-is row i a b p))
      ∙ modrm-of (number_asked_of number_in_reg row i) (register_number a) reg rm ((numbers row i a b p).in_reg ∙ sb.number) sa.number;
  sib = ap sib_bytes (sib-any row i (Reg a) w.modrm (rm-is row i a b p));
  displacement = λ next. rw (address-is row i a b p) refl;
  immediates = λ size next. no-immediates size next row i (Reg a) (Reg b) p;
}

-- an absent operand is no register that needs a REX
pub low-absent : is_low_byte_of_rex Absent ≡ false
unfolding is_low_byte_of_rex
low-absent = refl

no-low : (row : Row) (i : Instr) (wide : Bool) (a b : Register) (rm reg : ℕ) → Pair row i Ev Gv (Reg a) (Reg b) → Sized wide a rm → Sized wide b reg → asks_low_byte i.ops ≡ false
no-low row i wide a b rm reg p sa sb = rw (p.ops, sa.low, sb.low, low-absent) refl

-- no address size asks for no 67
pub no-67 : (x : Option Bits) → x ≡ None → asks_67 B64 x ≡ false
unfolding asks_67
no-67 x e = rw e refl

registers-bytes : (ip : ℕ) (row : Row) (i : Instr) (wide : Bool) (a b : Register) (rm reg : ℕ) → Bare row i → Wide row wide → Pair row i Ev Gv (Reg a) (Reg b) → Sized wide a rm → Sized wide b reg → i.asize ≡ None
    → bytes_of row (plain_spelling B64 ip row i) ≡ rex_prefix (rex_of wide reg rm) ++ (row.opcode ∷ (3 * 64 + reg % 8 * 8 + rm % 8) ∷ [])
registers-bytes ip row i wide a b rm reg bare w p sa sb none =
    let n = numbers row i a b p in
    let t = tail-is row i wide a b rm reg w p sa sb in
    let rex = rex-is row i wide reg rm bare.legacy w.rex_w (n.in_reg ∙ sb.number) (n.in_rm ∙ sa.number) n.in_index (no-low row i wide a b rm reg p sa sb) in
    bare-bytes ip row i bare w.no_66 (no-67 i.asize none)
    ∙ (rw (rex, opcode-is row i n.in_opcode, t.modrm, t.sib, t.displacement (plain_next B64 ip row i), t.immediates (plain_size B64 row) (plain_next B64 ip row i), w.map) (append_assoc (rex_prefix (rex_of wide reg rm)) [] _))

-- ---- the address size

registers-size : (row : Row) (i : Instr) (a b : Operand) (c : Register) (d : Register) → Pair row i Ev Gv (Reg c) (Reg d) → has_address_mark row ≡ false → i.asize ≡ None → address_size_suits B64 row i ≡ true
unfolding address_size_suits has_memory_operand
registers-size row i a b c d p mark none = rw (p.ops, mark, none) refl

-- a REX is at most one byte
pub rex-few : (o : Option ℕ) → length (rex_prefix o) ≤ 1
rex-few None = omega arith
rex-few (Some rex) = omega arith

-- a REX and two bytes are few
pub front-few : (o : Option ℕ) (x y : ℕ) → length (rex_prefix o ++ (x ∷ y ∷ [])) ≤ 15
front-few o x y = simp length-append (omega (arith, rex-few o))

-- **what is written of two registers is the encoding**
pub registers-encoded : (row : Row) (i : Instr) (wide : Bool) (a b : Register) (rm reg : ℕ) → Known row i → takes_registers row i ≡ true → Some wide ≡ width_of row.size
    → AreFirst row i Ev Gv (Reg a) (Reg b) → Some rm ≡ sized_number wide a → Some reg ≡ sized_number wide b
    → IsEncoded row i (rex_prefix (rex_of wide reg rm) ++ (row.opcode ∷ (3 * 64 + reg % 8 * 8 + rm % 8) ∷ []))
unfolding takes_registers
registers-encoded row i wide a b rm reg k takes ew first ea eb ip =
    let bare = bare-of row i k.bare in
    let x = and_parts (has_plain_modrm row) (is_any_place row.place && is_none i.asize) takes in
    let y = and_parts (is_any_place row.place) (is_none i.asize) x.1 in
    let place = any-place row.place y.0 in
    let none = no-size i.asize y.1 in
    let w = wide-of row i wide bare x.0 ew in
    let sa = sized-of wide a rm ea in
    let sb = sized-of wide b reg eb in
    let p = pair-of row i Ev Gv (Reg a) (Reg b) k.is_sound k.four bare first.first_kind first.second_kind first.first_is first.second_is in
    let h0 = sized-named ip row i 0 wide a rm Ev first.first_kind first.first_is (variant-ev row.place a place) (sized-ev wide a rm sa) w.size in
    let h1 = sized-named ip row i 1 wide b reg Gv first.second_kind first.second_is (variant-gv row.place b) (sized-gv wide b reg sb) w.size in
    encoded-as ip row i _ k (none-fails ip row i k h0 h1 (registers-size row i (Reg a) (Reg b) a b p w.mark none))
    (registers-bytes ip row i wide a b rm reg bare w p sa sb none) (front-few (rex_of wide reg rm) row.opcode _)
