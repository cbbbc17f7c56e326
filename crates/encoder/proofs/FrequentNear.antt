-- The encoding of a near branch, and of an instruction of one general register in the opcode byte.
use Rattle.std.proofs.Common.{◌≡◌, ℕ, ◌+◌, ◌^◌, ◌≤◌, Bool, true, false, ◌&&◌, not, inl, inr, List, [], ◌∷◌, ◌++◌, length, None, Ok, is_none, nat_lt, refl, ap, sym, ◌∙◌, arith, append-nil}
use Rattle.std.proofs.lemmas.Bool.{and_parts, cases_Bool}
use Rattle.x86_values.specs.declared.Bits.TheVariants.{B64}
use Rattle.x86_values.specs.declared.Operand.{Operand}
use Rattle.x86_values.specs.declared.Operand.TheVariants.{Absent, Near}
use Rattle.x86_values.specs.declared.Instr.{Instr}
use Rattle.x86_values.specs.Operands.{is_absent}
use Rattle.x86_values.specs.Wrapping.{modulo_width, width}
use Rattle.instruction_parts.specs.declared.row_types.Row.{Row}
use Rattle.instruction_parts.specs.declared.row_types.ModRmRule.{ModRmRule}
use Rattle.instruction_parts.specs.declared.row_types.ModRmRule.TheVariants.{No as NoModRm}
use Rattle.instruction_parts.specs.declared.row_types.Size.{Size}
use Rattle.instruction_parts.specs.declared.row_types.Size.TheVariants.{O64}
use Rattle.instruction_parts.specs.declared.row_types.OpKind.{OpKind}
use Rattle.instruction_parts.specs.declared.row_types.OpKind.TheVariants.{Absent as NoKind}
use Rattle.instruction_parts.specs.declared.kinds.Method.TheVariants.{Near as NearMethod}
use Rattle.instruction_parts.specs.Kinds.{method_of, immediate_width}
use Rattle.instruction_parts.specs.Bytes.{escape_bytes, lead_bytes, bytes_of}
use Rattle.instruction_parts.specs.Sizes.{has_address_mark, has_caret, has_bang, operand_size}
use Rattle.row_fit.specs.Fits.{kind_at, immediate_bytes}
use Rattle.plain_spelling.specs.Values.{low_bytes, distance, is_extended_of}
use Rattle.plain_spelling.specs.Forms.{operand_at, is_variant_of}
use Rattle.plain_spelling.specs.PlainFront.{is_low_byte_of_rex, number_in_reg, number_in_rm, number_in_index, number_in_opcode, number_asked_of, asks_low_byte, asks_rex_w, asks_66, asks_67, asked_repeat, asked_rex, asked_vex, asked_used, plain_front_of}
use Rattle.plain_spelling.specs.PlainTail.{address_operand, operand_immediate, immediate_at, plain_immediates, plain_size, plain_modrm, plain_sib_of, plain_len, plain_next, plain_spelling}
use Rattle.plain_spelling.specs.Expressible.{failure, near_reaches, address_size_suits, has_memory_operand}
use Rattle.plain_spelling.proofs.Suiting.{near-suits}
use Rattle.encoder.specs.Encoding.{encoded_by}
use Rattle.encoder.specs.Frequent.{is_no_modrm, is_quad, is_nothing, is_alone, is_quad_by_mark, rex_of}
use Rattle.encoder.proofs.FrequentFacts.{no-size, nothing, absent, Bare, bare-of, Pair, pair-of, asked-pair, rex-is, opcode-is, bare-bytes, Known, absent-none, none-fails, encoded-as}
use Rattle.encoder.proofs.FrequentRegisters.{low-absent, no-67}

-- ---- one operand alone

no-modrm : (x : ModRmRule) → is_no_modrm x ≡ true → x ≡ NoModRm
no-modrm NoModRm h = refl
no-modrm _ h = cc

quad : (x : Size) → is_quad x ≡ true → x ≡ O64
quad O64 h = refl
quad _ h = cc

off : (b : Bool) → not b ≡ true → b ≡ false
off false h = refl
off true h = cc

-- the parts of that test
pub record Alone (row : Row) (i : Instr) : Type 0 where
  pub modrm : row.modrm ≡ NoModRm
  pub size : row.size ≡ O64
  pub mark : has_address_mark row ≡ false
  pub asize : i.asize ≡ None
  pub kind : kind_at row 1 ≡ NoKind
  pub second : operand_at i 1 ≡ Absent

-- are what it says
pub alone-of : (row : Row) (i : Instr) → is_alone row i ≡ true → Alone row i
unfolding is_alone
alone-of row i h =
    let r4 = is_nothing (kind_at row 1) && is_absent (operand_at i 1) in
    let r3 = is_none i.asize && r4 in
    let r2 = not (has_address_mark row) && r3 in
    let r1 = is_quad row.size && r2 in
    let a = and_parts (is_no_modrm row.modrm) r1 h in
    let b = and_parts (is_quad row.size) r2 a.1 in
    let c = and_parts (not (has_address_mark row)) r3 b.1 in
    let d = and_parts (is_none i.asize) r4 c.1 in
    let e = and_parts (is_nothing (kind_at row 1)) (is_absent (operand_at i 1)) d.1 in
    record {
      modrm = no-modrm row.modrm a.0;
      size = quad row.size b.0;
      mark = off (has_address_mark row) c.0;
      asize = no-size i.asize d.0;
      kind = nothing (kind_at row 1) e.0;
      second = absent (operand_at i 1) e.1;
    }

-- what its size comes to
pub record Quad (row : Row) : Type 0 where
  pub rex_w : asks_rex_w row ≡ not (is_quad_by_mark row)
  pub no_66 : asks_66 B64 row ≡ false
  pub size : plain_size B64 row ≡ B64

-- as it is
pub quad-of : (row : Row) (i : Instr) → Bare row i → row.size ≡ O64 → Quad row
unfolding asks_rex_w asks_66 plain_size operand_size is_quad_by_mark
quad-of row i b e = record {
  rex_w = rw e refl;
  no_66 = rw (b.legacy, b.class, e) refl;
  size = elim (cases_Bool (has_bang row)) [
    | inl x ↦ rw (b.legacy, b.class, e, x) refl
    | inr x ↦ elim (cases_Bool (has_caret row)) [
      | inl y ↦ rw (b.legacy, b.class, e, x, y) refl
      | inr y ↦ rw (b.legacy, b.class, e, x, y) refl
    ]
  ];
}

-- the address size is absent as it has to be
pub alone-size : (row : Row) (i : Instr) (k : OpKind) (a : Operand) → Pair row i k NoKind a Absent → Alone row i → has_memory_operand i ≡ false → address_size_suits B64 row i ≡ true
unfolding address_size_suits
alone-size row i k a p l none = rw (none, l.mark, l.asize) refl

-- it has neither ModRM nor SIB
pub record NoTail (row : Row) (i : Instr) : Type 0 where
  pub modrm : plain_modrm B64 row i ≡ None
  pub sib : plain_sib_of B64 row i ≡ None

-- if the row has no ModRM
pub no-tail : (row : Row) (i : Instr) → row.modrm ≡ NoModRm → NoTail row i
unfolding plain_modrm plain_sib_of
no-tail row i e = record { modrm = rw e refl; sib = rw e refl }

-- ---- a near target

-- what it asks of the fields
record NearNumbers (row : Row) (i : Instr) : Type 0 where
  in_reg : number_asked_of number_in_reg row i ≡ 0
  in_rm : number_asked_of number_in_rm row i ≡ 0
  in_index : number_asked_of number_in_index row i ≡ 0
  in_opcode : number_asked_of number_in_opcode row i ≡ 0

near-numbers : (row : Row) (i : Instr) (k : OpKind) (target : ℕ) → method_of k ≡ NearMethod → Pair row i k NoKind (Near target) Absent → NearNumbers row i
unfolding number_in_reg number_in_rm number_in_index number_in_opcode method_of
near-numbers row i k target how p = record {
  in_reg = asked-pair number_in_reg row i k NoKind (Near target) Absent p ∙ rw how (omega arith);
  in_rm = asked-pair number_in_rm row i k NoKind (Near target) Absent p ∙ rw how (omega arith);
  in_index = asked-pair number_in_index row i k NoKind (Near target) Absent p ∙ omega arith;
  in_opcode = asked-pair number_in_opcode row i k NoKind (Near target) Absent p ∙ rw how (omega arith);
}

low-near : (target : ℕ) → is_low_byte_of_rex (Near target) ≡ false
unfolding is_low_byte_of_rex
low-near target = refl

no-rex : rex_of false 0 0 ≡ None
unfolding rex_of
no-rex = refl

near-rex : (row : Row) (i : Instr) (k : OpKind) (target : ℕ) → method_of k ≡ NearMethod → Pair row i k NoKind (Near target) Absent → Bare row i → asks_rex_w row ≡ false → asked_rex row i ≡ None
near-rex row i k target how p b w =
    let n = near-numbers row i k target how p in
    let low : asks_low_byte i.ops ≡ false = rw (p.ops, low-near target, low-absent) refl in
    rex-is row i false 0 0 b.legacy w n.in_reg n.in_rm n.in_index low ∙ no-rex

near-address : (row : Row) (i : Instr) (k : OpKind) (target : ℕ) → method_of k ≡ NearMethod → Pair row i k NoKind (Near target) Absent → address_operand row i ≡ Absent
unfolding method_of
near-address row i k target how p = rw (p.kinds, p.ops, how) refl

near-immediates : (row : Row) (i : Instr) (target next : ℕ) → method_of (kind_at row 0) ≡ NearMethod → operand_at i 0 ≡ Near target → kind_at row 1 ≡ NoKind → kind_at row 2 ≡ NoKind → kind_at row 3 ≡ NoKind
    → plain_immediates B64 row i next ≡ low_bytes (immediate_bytes B64 (kind_at row 0)) (distance B64 next target)
unfolding plain_immediates immediate_at operand_immediate method_of
near-immediates row i target next how eo k1 k2 k3 = rw (k1, k2, k3, how, eo) (append-nil _)

no-bytes : immediate_bytes B64 NoKind ≡ 0
unfolding immediate_bytes immediate_width
no-bytes = refl

-- how long it is
near-len : (row : Row) (i : Instr) → Bare row i → asks_66 B64 row ≡ false → asks_67 B64 i.asize ≡ false → asked_rex row i ≡ None → plain_modrm B64 row i ≡ None → plain_sib_of B64 row i ≡ None
    → address_operand row i ≡ Absent → plain_size B64 row ≡ B64 → kind_at row 1 ≡ NoKind → kind_at row 2 ≡ NoKind → kind_at row 3 ≡ NoKind
    → plain_len B64 row i ≡ length (escape_bytes row.map) + (1 + immediate_bytes B64 (kind_at row 0))
unfolding plain_len plain_front_of asked_used asked_repeat asked_vex lead_bytes
near-len row i b s6 s7 rex modrm sib address size k1 k2 k3 =
    rw (s6, s7, rex, modrm, sib, address, size, k1, k2, k3, no-bytes, b.legacy, b.class, b.lock, b.rep, b.seg) (omega arith)

near-variant : (row : Row) (k : OpKind) (target : ℕ) → method_of k ≡ NearMethod → is_variant_of row.place (method_of k) (Near target) ≡ true
unfolding is_variant_of
near-variant row k target how = rw how refl

next-is : (ip n : ℕ) (row : Row) (i : Instr) → plain_len B64 row i ≡ n → plain_next B64 ip row i ≡ modulo_width B64 (ip + n)
unfolding plain_next
next-is ip n row i e = ap (λ (x : ℕ). modulo_width B64 (ip + x)) e

reach-is : (count next target : ℕ) → (nat_lt target (2 ^ width B64) && is_extended_of count (width B64) (distance B64 next target)) ≡ true → near_reaches B64 next count target ≡ true
unfolding near_reaches
reach-is count next target h = h

near-memory : (row : Row) (i : Instr) (k : OpKind) (target : ℕ) → Pair row i k NoKind (Near target) Absent → has_memory_operand i ≡ false
unfolding has_memory_operand
near-memory row i k target p = rw p.ops refl

-- **what is written of a near branch is the encoding**
pub near-encoded : (ip : ℕ) (row : Row) (i : Instr) (len target : ℕ) → Known row i → is_alone row i ≡ true → is_quad_by_mark row ≡ true → method_of (kind_at row 0) ≡ NearMethod → operand_at i 0 ≡ Near target
    → length (escape_bytes row.map) + (1 + immediate_bytes B64 (kind_at row 0)) ≡ len
    → (nat_lt target (2 ^ width B64) && is_extended_of (immediate_bytes B64 (kind_at row 0)) (width B64) (distance B64 (modulo_width B64 (ip + len)) target)) ≡ true
    → length (escape_bytes row.map ++ (row.opcode ∷ low_bytes (immediate_bytes B64 (kind_at row 0)) (distance B64 (modulo_width B64 (ip + len)) target))) ≤ 15
    → Ok (escape_bytes row.map ++ (row.opcode ∷ low_bytes (immediate_bytes B64 (kind_at row 0)) (distance B64 (modulo_width B64 (ip + len)) target)))
    ≡ encoded_by (failure B64 ip row i) (bytes_of row (plain_spelling B64 ip row i))
near-encoded ip row i len target k alone marked how eo long h few =
    let b = bare-of row i k.bare in
    let l = alone-of row i alone in
    let q = quad-of row i b l.size in
    let p = pair-of row i (kind_at row 0) NoKind (Near target) Absent k.is_sound k.four b refl l.kind eo l.second in
    let n = near-numbers row i (kind_at row 0) target how p in
    let t = no-tail row i l.modrm in
    let w : asks_rex_w row ≡ false = q.rex_w ∙ ap not marked in
    let rex = near-rex row i (kind_at row 0) target how p b w in
    let s7 = no-67 i.asize l.asize in
    let address = near-address row i (kind_at row 0) target how p in
    let next = next-is ip len row i (near-len row i b q.no_66 s7 rex t.modrm t.sib address q.size l.kind b.third_kind b.fourth_kind ∙ long) in
    let reaches : near_reaches (plain_size B64 row) (plain_next B64 ip row i) (immediate_bytes (plain_size B64 row) (kind_at row 0)) target ≡ true =
    rw (q.size, next) (reach-is (immediate_bytes B64 (kind_at row 0)) (modulo_width B64 (ip + len)) target h) in
    let h0 = sym (near-suits B64 ip row i 0 target eo (near-variant row (kind_at row 0) target how)) ∙ reaches in
    let h1 = absent-none ip row i 1 l.kind l.second in
    let immediates = near-immediates row i target (modulo_width B64 (ip + len)) how eo l.kind b.third_kind b.fourth_kind in
    encoded-as ip row i _ k (none-fails ip row i k h0 h1 (alone-size row i (kind_at row 0) (Near target) p l (near-memory row i (kind_at row 0) target p)))
    (bare-bytes ip row i b q.no_66 s7 ∙ (rw (rex, opcode-is row i n.in_opcode, t.modrm, t.sib, address, q.size, next, immediates) refl)) few

-- ---- what is written

-- an opcode byte and an offset, behind no escape byte
pub written-short : (out push old low wanted escape : List ℕ) (opcode : ℕ) → old ≡ [] → push ≡ old ++ (opcode ∷ []) → out ≡ push ++ low → low ≡ wanted → escape ≡ [] → out ≡ escape ++ (opcode ∷ wanted)
written-short out push old low wanted escape opcode e0 e1 e2 e3 e4 = rw (e2, e1, e0, e3, e4) refl

-- and behind one
pub written-long : (out push first old low wanted escape : List ℕ) (byte opcode : ℕ) → old ≡ [] → first ≡ old ++ (byte ∷ []) → push ≡ first ++ (opcode ∷ []) → out ≡ push ++ low → low ≡ wanted → escape ≡ byte ∷ []
    → out ≡ escape ++ (opcode ∷ wanted)
written-long out push first old low wanted escape byte opcode e0 e1 e2 e3 e4 e5 = rw (e3, e2, e1, e0, e4, e5) refl

-- the bytes of the offset
pub offset-bytes : (count n offset is : ℕ) → count ≡ n → offset ≡ is → low_bytes count offset ≡ low_bytes n is
offset-bytes count n offset is e x = ap (λ (m : ℕ). low_bytes m offset) e ∙ ap (λ (m : ℕ). low_bytes n m) x
