-- What is known of an instruction of a frequent shape, and how its encoding follows from its bytes.
use Rattle.std.proofs.Common.{◌≡◌, ℕ, ◌+◌, ◌*◌, ◌%◌, ◌≤◌, Bool, true, false, ◌&&◌, ◌||◌, not, List, [], ◌∷◌, ◌++◌, length, Option, Some, None, Result, Ok, is_none, nat_lt, nat_le, refl, ap, sym, ◌∙◌, subst, arith, if◌then◌else◌}
use Rattle.std.specs.Prelude.{slice_index_or}
use Rattle.std.proofs.lemmas.Bool.{and_parts, or_parts}
use Rattle.x86_values.specs.declared.Bits.{Bits}
use Rattle.x86_values.specs.declared.Bits.TheVariants.{B32, B64}
use Rattle.x86_values.specs.declared.Segment.{Segment}
use Rattle.x86_values.specs.declared.Register.{Register}
use Rattle.x86_values.specs.declared.Register.TheVariants.{R32, R64}
use Rattle.x86_values.specs.declared.Rep.{Rep}
use Rattle.x86_values.specs.declared.Rep.TheVariants.{None as NoRep}
use Rattle.x86_values.specs.declared.Operand.{Operand}
use Rattle.x86_values.specs.declared.Operand.TheVariants.{Absent, Reg}
use Rattle.x86_values.specs.declared.Instr.{Instr}
use Rattle.x86_values.specs.Operands.{is_absent}
use Rattle.instruction_parts.specs.declared.row_types.Row.{Row}
use Rattle.instruction_parts.specs.declared.row_types.Class.{Class}
use Rattle.instruction_parts.specs.declared.row_types.Class.TheVariants.{Any as AnyClass}
use Rattle.instruction_parts.specs.declared.row_types.Map.{Map}
use Rattle.instruction_parts.specs.declared.row_types.Map.TheVariants.{One}
use Rattle.instruction_parts.specs.declared.row_types.Plus.{Plus}
use Rattle.instruction_parts.specs.declared.row_types.Plus.TheVariants.{Register as PlusRegister}
use Rattle.instruction_parts.specs.declared.row_types.ModRmRule.{ModRmRule}
use Rattle.instruction_parts.specs.declared.row_types.ModRmRule.TheVariants.{Any as AnyModRm}
use Rattle.instruction_parts.specs.declared.row_types.Place.{Place}
use Rattle.instruction_parts.specs.declared.row_types.Size.{Size}
use Rattle.instruction_parts.specs.declared.row_types.Size.TheVariants.{O32, O64}
use Rattle.instruction_parts.specs.declared.row_types.OpKind.{OpKind}
use Rattle.instruction_parts.specs.declared.row_types.OpKind.TheVariants.{Absent as NoKind}
use Rattle.instruction_parts.specs.declared.kinds.Method.{Method}
use Rattle.instruction_parts.specs.Kinds.{method_of}
use Rattle.instruction_parts.specs.Bytes.{bit, escape_bytes, modrm_bytes, sib_bytes, lead_bytes, front_bytes, tail_bytes, bytes_of}
use Rattle.instruction_parts.specs.Sizes.{is_vex_row, has_address_mark, has_caret, has_bang, exists_in, operand_size}
use Rattle.row_fit.specs.Fits.{kind_at, is_no_repeat, reads_by, is_gather}
use Rattle.row_fit.specs.Sound.{sound}
use Rattle.row_fit.proofs.SoundLaws.{sound_conditions}
use Rattle.plain_spelling.specs.Forms.{operand_at, is_variant_of}
use Rattle.plain_spelling.specs.PlainFront.{register_number, is_low_byte_of_rex, number_in_reg, number_in_rm, number_in_index, number_in_opcode, number_asked_of, asks_r, asks_x, asks_b, asks_low_byte, asks_rex_w, asks_66, asks_67, asked_repeat, asked_rex, asked_vex, asked_opcode, plain_front_of}
use Rattle.plain_spelling.specs.PlainTail.{prefixes_of, rex_prefix, address_operand, displacement_of_operand, plain_size, plain_modrm, plain_sib_of, plain_len, plain_next, plain_immediates, plain_spelling}
use Rattle.plain_spelling.specs.Addresses.{general_size, is_address_register, register_count}
use Rattle.plain_spelling.specs.Expressible.{failure, operand_suits, tail_suits, prefixes_suit, lock_suits, repeat_suits, address_size_suits, first_failed_condition}
use Rattle.plain_spelling.specs.Writable.{writable}
use Rattle.plain_spelling.proofs.Asked.{four_kinds}
use Rattle.plain_spelling.proofs.Failures.{tail-none}
use Rattle.plain_spelling.proofs.Suiting.{absent-suits}
use Rattle.plain_spelling.specs.declared.NoSpelling.{NoSpelling}
use Rattle.encoder.specs.Encoding.{encoded_by}
use Rattle.encoder.specs.Frequent.{is_any_class, is_first_map, is_any_modrm, is_nothing, width_of, is_bare, has_plain_modrm, sized_number, rex_of}
use Rattle.encoder.proofs.LegacyRows.{legacy-no-gather}
use Rattle.encoder.proofs.Bytes.{Suited, count}
use Rattle.encoder.proofs.Causes.{nothing_fails}

-- ---- tests of fields

off : (b : Bool) → not b ≡ true → b ≡ false
off false h = refl
off true h = cc

no-segment : (x : Option Segment) → is_none x ≡ true → x ≡ None
no-segment None h = refl
no-segment (Some s) h = cc

-- no address size is absent
pub no-size : (x : Option Bits) → is_none x ≡ true → x ≡ None
no-size None h = refl
no-size (Some s) h = cc

no-repeat : (x : Rep) → is_no_repeat x ≡ true → x ≡ NoRep
no-repeat NoRep h = refl
no-repeat _ h = cc

any-class : (x : Class) → is_any_class x ≡ true → x ≡ AnyClass
any-class AnyClass h = refl
any-class _ h = cc

-- no escape byte is the first map
pub first-map : (x : Map) → is_first_map x ≡ true → x ≡ One
first-map One h = refl
first-map _ h = cc

any-modrm : (x : ModRmRule) → is_any_modrm x ≡ true → x ≡ AnyModRm
any-modrm AnyModRm h = refl
any-modrm _ h = cc

-- a kind of no operand is absent
pub nothing : (x : OpKind) → is_nothing x ≡ true → x ≡ NoKind
nothing NoKind h = refl
nothing _ h = cc

-- so is an absent operand
pub absent : (x : Operand) → is_absent x ≡ true → x ≡ Absent
absent Absent h = refl
absent _ h = cc

-- ---- an instruction without prefixes of its own

-- the parts of that test
pub record Bare (row : Row) (i : Instr) : Type 0 where
  pub lock : i.lock ≡ false
  pub seg : i.seg ≡ None
  pub rep : i.rep ≡ NoRep
  pub legacy : is_vex_row row ≡ false
  pub class : row.class ≡ AnyClass
  pub third_kind : kind_at row 2 ≡ NoKind
  pub fourth_kind : kind_at row 3 ≡ NoKind
  pub third : operand_at i 2 ≡ Absent
  pub fourth : operand_at i 3 ≡ Absent

-- are what it says
pub bare-of : (row : Row) (i : Instr) → is_bare row i ≡ true → Bare row i
unfolding is_bare
bare-of row i h =
    let r7 = is_absent (operand_at i 2) && is_absent (operand_at i 3) in
    let r6 = is_nothing (kind_at row 3) && r7 in
    let r5 = is_nothing (kind_at row 2) && r6 in
    let r4 = is_any_class row.class && r5 in
    let r3 = not (is_vex_row row) && r4 in
    let r2 = is_no_repeat i.rep && r3 in
    let r1 = is_none i.seg && r2 in
    let a = and_parts (not i.lock) r1 h in
    let b = and_parts (is_none i.seg) r2 a.1 in
    let c = and_parts (is_no_repeat i.rep) r3 b.1 in
    let d = and_parts (not (is_vex_row row)) r4 c.1 in
    let e = and_parts (is_any_class row.class) r5 d.1 in
    let f = and_parts (is_nothing (kind_at row 2)) r6 e.1 in
    let g = and_parts (is_nothing (kind_at row 3)) r7 f.1 in
    let k = and_parts (is_absent (operand_at i 2)) (is_absent (operand_at i 3)) g.1 in
    record {
      lock = off i.lock a.0;
      seg = no-segment i.seg b.0;
      rep = no-repeat i.rep c.0;
      legacy = off (is_vex_row row) d.0;
      class = any-class row.class e.0;
      third_kind = nothing (kind_at row 2) f.0;
      fourth_kind = nothing (kind_at row 3) g.0;
      third = absent (operand_at i 2) k.0;
      fourth = absent (operand_at i 3) k.1;
    }

-- ---- two operands

four-kinds : (xs : List OpKind) → length xs ≡ 4 → xs ≡ slice_index_or xs 0 NoKind ∷ slice_index_or xs 1 NoKind ∷ slice_index_or xs 2 NoKind ∷ slice_index_or xs 3 NoKind ∷ []
four-kinds (a ∷ b ∷ c ∷ d ∷ []) e = refl
four-kinds [] e = absurd (omega (arith, e))
four-kinds (a ∷ []) e = absurd (omega (arith, e))
four-kinds (a ∷ b ∷ []) e = absurd (omega (arith, e))
four-kinds (a ∷ b ∷ c ∷ []) e = absurd (omega (arith, e))
four-kinds (a ∷ b ∷ c ∷ d ∷ f ∷ xs) e = absurd (omega (arith, e))

four-operands : (xs : List Operand) → length xs ≡ 4 → xs ≡ slice_index_or xs 0 Absent ∷ slice_index_or xs 1 Absent ∷ slice_index_or xs 2 Absent ∷ slice_index_or xs 3 Absent ∷ []
four-operands (a ∷ b ∷ c ∷ d ∷ []) e = refl
four-operands [] e = absurd (omega (arith, e))
four-operands (a ∷ []) e = absurd (omega (arith, e))
four-operands (a ∷ b ∷ []) e = absurd (omega (arith, e))
four-operands (a ∷ b ∷ c ∷ []) e = absurd (omega (arith, e))
four-operands (a ∷ b ∷ c ∷ d ∷ f ∷ xs) e = absurd (omega (arith, e))

-- the kinds and the operands, of which the last two are absent
pub record Pair (row : Row) (i : Instr) (k0 k1 : OpKind) (a b : Operand) : Type 0 where
  pub kinds : row.ops ≡ k0 ∷ k1 ∷ NoKind ∷ NoKind ∷ []
  pub ops : i.ops ≡ a ∷ b ∷ Absent ∷ Absent ∷ []

kinds-listed : (w x y z k0 k1 : OpKind) → w ≡ k0 → x ≡ k1 → y ≡ NoKind → z ≡ NoKind → w ∷ x ∷ y ∷ z ∷ [] ≡ k0 ∷ k1 ∷ NoKind ∷ NoKind ∷ []
kinds-listed w x y z k0 k1 ew ex ey ez = rw (ew, ex, ey, ez) refl

operands-listed : (w x y z a b : Operand) → w ≡ a → x ≡ b → y ≡ Absent → z ≡ Absent → w ∷ x ∷ y ∷ z ∷ [] ≡ a ∷ b ∷ Absent ∷ Absent ∷ []
operands-listed w x y z a b ew ex ey ez = rw (ew, ex, ey, ez) refl

-- they are those at their places
pub pair-of : (row : Row) (i : Instr) (k0 k1 : OpKind) (a b : Operand) → sound row ≡ true → length i.ops ≡ 4 → Bare row i → kind_at row 0 ≡ k0 → kind_at row 1 ≡ k1
    → operand_at i 0 ≡ a → operand_at i 1 ≡ b → Pair row i k0 k1 a b
pair-of row i k0 k1 a b s four bare e0 e1 ea eb = record {
  kinds = four-kinds row.ops (four_kinds row (sound_conditions row s)) ∙ kinds-listed _ _ _ _ k0 k1 e0 e1 bare.third_kind bare.fourth_kind;
  ops = four-operands i.ops four ∙ operands-listed _ _ _ _ a b ea eb bare.third bare.fourth;
}

-- what they ask of a field adds up
pub asked-pair : (f : Method → Operand → ℕ) (row : Row) (i : Instr) (k0 k1 : OpKind) (a b : Operand) → Pair row i k0 k1 a b
    → number_asked_of f row i ≡ f (method_of k0) a + (f (method_of k1) b + (f (method_of NoKind) Absent + (f (method_of NoKind) Absent + 0)))
asked-pair f row i k0 k1 a b p = rw (p.kinds, p.ops) refl

-- ---- sizes and registers

-- the operand size by whether the registers have 64 bits
abbrev pub size_of : Bool → Bits
size_of true = B64
size_of false = B32

-- what a row says whose operand size a REX.W alone sets
pub record Wide (row : Row) (wide : Bool) : Type 0 where
  pub rex_w : asks_rex_w row ≡ wide
  pub no_66 : asks_66 B64 row ≡ false
  pub size : plain_size B64 row ≡ size_of wide
  pub map : row.map ≡ One
  pub modrm : row.modrm ≡ AnyModRm
  pub mark : has_address_mark row ≡ false

record Sizes (row : Row) (wide : Bool) : Type 0 where
  rex_w : asks_rex_w row ≡ wide
  no_66 : asks_66 B64 row ≡ false
  size : plain_size B64 row ≡ size_of wide

sizes-by : (row : Row) (wide : Bool) (size : Size) → row.size ≡ size → Some wide ≡ width_of size → is_vex_row row ≡ false → row.class ≡ AnyClass → has_caret row ≡ false → has_bang row ≡ false
    → Sizes row wide
unfolding asks_rex_w asks_66 plain_size operand_size
sizes-by row true O64 es h v c k b = record { rex_w = rw (es, k, b) refl; no_66 = rw (v, c, es) refl; size = rw (v, c, es, k, b) refl }
sizes-by row false O32 es h v c k b = record { rex_w = rw es refl; no_66 = rw (v, c, es) refl; size = rw (v, c, es, k, b) refl }
sizes-by row _ _ es h v c k b = cc

-- as its tests say
pub wide-of : (row : Row) (i : Instr) (wide : Bool) → Bare row i → has_plain_modrm row ≡ true → Some wide ≡ width_of row.size → Wide row wide
unfolding has_plain_modrm
wide-of row i wide bare h e =
    let marks = has_address_mark row || (has_caret row || has_bang row) in
    let a = and_parts (is_any_modrm row.modrm) (is_first_map row.map && not marks) h in
    let b = and_parts (is_first_map row.map) (not marks) a.1 in
    let c = or_parts (has_address_mark row) (has_caret row || has_bang row) (off marks b.1) in
    let d = or_parts (has_caret row) (has_bang row) c.1 in
    let s = sizes-by row wide row.size refl e bare.legacy bare.class d.0 d.1 in
    record { rex_w = s.rex_w; no_66 = s.no_66; size = s.size; map = first-map row.map b.0; modrm = any-modrm row.modrm a.0; mark = c.0 }

-- a general register of the operand size
pub record Sized (wide : Bool) (r : Register) (n : ℕ) : Type 0 where
  pub number : register_number r ≡ n
  pub address : is_address_register B64 (size_of wide) r ≡ true
  pub low : is_low_byte_of_rex (Reg r) ≡ false

picked : (b : Bool) (m n : ℕ) → Some n ≡ (if b then Some m else None) → (b ≡ true) × (m ≡ n)
picked true m n h = (refl, cc)
picked false m n h = cc

-- has the number that is found
pub sized-of : (wide : Bool) (r : Register) (n : ℕ) → Some n ≡ sized_number wide r → Sized wide r n
unfolding sized_number register_number is_address_register general_size register_count is_low_byte_of_rex
sized-of true (R64 m) n h = let p = picked (nat_lt m 16) m n h in record { number = p.1; address = rw p.0 refl; low = refl }
sized-of false (R32 m) n h = let p = picked (nat_lt m 16) m n h in record { number = p.1; address = rw p.0 refl; low = refl }
sized-of _ _ n h = cc

-- ---- the front

rex-same : (w r b : Bool) → (if w || (r || (false || (b || false))) then Some (0x40 + (bit w * 8 + (bit r * 4 + (bit false * 2 + bit b)))) else None)
    ≡ (if w || (r || b) then Some (0x40 + (bit w * 8 + (bit r * 4 + bit b))) else None)
rex-same w r true = refl
rex-same w r false = refl

-- the REX by what is asked of it
pub rex-is : (row : Row) (i : Instr) (wide : Bool) (reg rm : ℕ) → is_vex_row row ≡ false → asks_rex_w row ≡ wide → number_asked_of number_in_reg row i ≡ reg → number_asked_of number_in_rm row i ≡ rm
    → number_asked_of number_in_index row i ≡ 0 → asks_low_byte i.ops ≡ false → asked_rex row i ≡ rex_of wide reg rm
unfolding asked_rex asks_r asks_x asks_b rex_of
rex-is row i wide reg rm v w r b x l = rw (v, w, r, b, x, l) (rex-same wide (nat_le 8 reg) (nat_le 8 rm))

opcode-by : (plus : Plus) (o n : ℕ) → n ≡ 0 → (elim plus [ PlusRegister ↦ o + n % 8 | _ ↦ o ]) ≡ o
opcode-by PlusRegister o n e = rw e (omega arith)
opcode-by _ o n e = refl

-- the opcode byte where no operand adds to it
pub opcode-is : (row : Row) (i : Instr) → number_asked_of number_in_opcode row i ≡ 0 → asked_opcode row i ≡ row.opcode
unfolding asked_opcode
opcode-is row i e = opcode-by row.plus row.opcode (number_asked_of number_in_opcode row i) e

-- the bytes, where neither 66 nor 67 is needed
pub bare-bytes : (ip : ℕ) (row : Row) (i : Instr) → Bare row i → asks_66 B64 row ≡ false → asks_67 B64 i.asize ≡ false
    → bytes_of row (plain_spelling B64 ip row i)
    ≡ (rex_prefix (asked_rex row i) ++ escape_bytes row.map) ++ (asked_opcode row i ∷ (modrm_bytes (plain_modrm B64 row i) ++ (sib_bytes (plain_sib_of B64 row i)
    ++ (displacement_of_operand (plain_next B64 ip row i) (address_operand row i) ++ plain_immediates (plain_size B64 row) row i (plain_next B64 ip row i)))))
unfolding bytes_of front_bytes tail_bytes lead_bytes plain_spelling plain_front_of prefixes_of asked_vex asked_repeat
bare-bytes ip row i b s6 s7 = rw (s6, s7, b.legacy, b.class, b.lock, b.rep, b.seg) refl

-- ---- the conditions

absent-at : (place : Place) (k : OpKind) → k ≡ NoKind → is_variant_of place (method_of k) Absent ≡ true
unfolding is_variant_of method_of
absent-at place k e = rw e refl

-- an absent operand of no kind meets its conditions
pub absent-none : (ip : ℕ) (row : Row) (i : Instr) (n : ℕ) → kind_at row n ≡ NoKind → operand_at i n ≡ Absent → operand_suits B64 ip row i n ≡ true
absent-none ip row i n k e = sym (absent-suits B64 ip row i n e) ∙ absent-at row.place (kind_at row n) k

bare-prefixes : (row : Row) (i : Instr) → Bare row i → prefixes_suit row i ≡ true
unfolding prefixes_suit lock_suits repeat_suits
bare-prefixes row i b = rw (b.lock, b.class, b.rep) refl

-- what is known of the row and the instruction
pub record Known (row : Row) (i : Instr) : Type 0 where
  pub is_sound : sound row ≡ true
  pub is_writable : writable row ≡ true
  pub exists : exists_in B64 row ≡ true
  pub four : length i.ops ≡ 4
  pub bare : is_bare row i ≡ true

-- no condition fails where the first two operands and the address size meet theirs
pub none-fails : (ip : ℕ) (row : Row) (i : Instr) → Known row i → operand_suits B64 ip row i 0 ≡ true → operand_suits B64 ip row i 1 ≡ true → address_size_suits B64 row i ≡ true
    → first_failed_condition B64 ip row i ≡ None
unfolding tail_suits
none-fails ip row i k h0 h1 size =
    let b = bare-of row i k.bare in
    let h2 = absent-none ip row i 2 b.third_kind b.third in
    let h3 = absent-none ip row i 3 b.fourth_kind b.fourth in
    let gather : reads_by is_gather row ≡ false = sym (legacy-no-gather B64 row k.is_writable k.exists b.legacy) in
    tail-none B64 ip row i (rw (h0, h1, h2, h3, gather, bare-prefixes row i b, size) refl)

-- **then these are the bytes of the encoding, if they are few**
pub encoded-as : (ip : ℕ) (row : Row) (i : Instr) (bytes : List ℕ) → Known row i → first_failed_condition B64 ip row i ≡ None → bytes_of row (plain_spelling B64 ip row i) ≡ bytes → length bytes ≤ 15
    → Ok bytes ≡ encoded_by (failure B64 ip row i) (bytes_of row (plain_spelling B64 ip row i))
encoded-as ip row i bytes k none e short =
    let s : Suited B64 ip row i = record { is_sound = k.is_sound; is_writable = k.is_writable; exists = k.exists; four = k.four; suits = none } in
    let fits : plain_len B64 row i ≤ 15 = subst (λ (n : ℕ). n ≤ 15) (ap length (sym e) ∙ count B64 ip row i s) short in
    let ok : List ℕ → Result (List ℕ) NoSpelling = λ xs. Ok xs in
    ap ok (sym e) ∙ ap (λ why. encoded_by why (bytes_of row (plain_spelling B64 ip row i))) (sym (nothing_fails B64 ip row i k.exists none fits))
