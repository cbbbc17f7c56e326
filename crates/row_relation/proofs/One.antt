-- **A fitting plain spelling that means an instruction is the constructed one.**
use Rattle.std.proofs.Common.{◌≡◌, inl, inr, ℕ, zero, suc, ◌+◌, ◌<◌, Bool, true, false, ◌&&◌, ◌||◌, not, List, [], ◌∷◌, ◌++◌, length, take, drop, Option, refl, ap, sym, ◌∙◌, subst, arith, take-append-drop, length-drop, drop-drop}
use Rattle.std.proofs.lemmas.Bool.{and_parts, cases_Bool}
use Rattle.x86_values.specs.declared.Bits.{Bits}
use Rattle.x86_values.specs.declared.Code.{Code}
use Rattle.x86_values.specs.declared.Operand.{Operand}
use Rattle.x86_values.specs.declared.Operand.TheVariants.{Absent as AbsentOperand, Reg, Mem as MemOperand, Imm, Near, Far}
use Rattle.x86_values.specs.declared.Instr.{Instr}
use Rattle.instruction_parts.specs.declared.row_types.Row.{Row}
use Rattle.instruction_parts.specs.declared.row_types.OpKind.TheVariants.{Absent}
use Rattle.row_fit.proofs.FitLaws.{ranges_behind}
use Rattle.instruction_parts.specs.declared.spelling.Vex.{Vex}
use Rattle.instruction_parts.specs.declared.spelling.ModRm.{ModRm}
use Rattle.instruction_parts.specs.declared.spelling.Sib.{Sib}
use Rattle.instruction_parts.specs.declared.spelling.Spelling.{Spelling}
use Rattle.instruction_parts.specs.declared.spelling.PrefixState.{PrefixState}
use Rattle.instruction_parts.specs.Kinds.{method_of}
use Rattle.instruction_parts.specs.Sizes.{state_size}
use Rattle.instruction_parts.specs.Bytes.{lead_bytes, front_bytes, spelled_map, bytes_of, state_from, state_of}
use Rattle.row_fit.specs.Fits.{reads_by, is_offset, immediate_bytes, kind_at}
use Rattle.row_fit.specs.Sound.{reads_rm, reads_last_byte}
use Rattle.row_meaning.specs.Meaning.{Tail, tail, tail_of, next_address, operand_by, own_immediate, immediates_before}
use Rattle.row_meaning.specs.Meaning as meant
use Rattle.x86_values.specs.Operands.{is_memory}
use Rattle.plain_spelling.specs.Forms.{operand_at}
use Rattle.plain_spelling.specs.Expressible.{Suits}
use Rattle.plain_spelling.specs.PlainTail.{operand_displacement, address_operand, plain_size, plain_spelling}
use Rattle.row_relation.proofs.AddressCases.{impossible}
use Rattle.plain_spelling.proofs.Asked.{four_kinds, address_operand-at, address_operand-none, reads_address}
use Rattle.plain_spelling.proofs.ImmediateBytes.{BytesSuit, bytes_suit}
use Rattle.row_relation.proofs.FitNumbers.{kind_that_passes}
use Rattle.row_relation.specs.Given as fit
use Rattle.row_relation.specs.GivenSpelling.{Given}
use Rattle.row_relation.proofs.NeedWhole.{needs_hold}
use Rattle.row_relation.proofs.NeedImmediates.{operand-meant, immediates-len, spelled_bytes, own-bytes, own-length-at}
use Rattle.row_relation.proofs.NeedReadOperands.{TailReads}
use Rattle.row_relation.proofs.NeedReadTails.{tail_reads}
use Rattle.row_relation.specs.IsPlain.{IsPlain, last_byte_is_bare, last_byte_is_read, immediates_are_read}
use Rattle.row_relation.proofs.Alike.{IsAlike}
use Rattle.row_relation.proofs.Lengths.{displacement_same, rm_is_address, offset_is_address, alike, length_same}
use Rattle.row_relation.proofs.FrontIs.{given_of}
use Rattle.row_relation.proofs.PlainIs.{plain_is}
use Rattle.row_relation.proofs.TailSame.{TailSame}
use Rattle.row_relation.proofs.TailSame.{tail_same as tail_same_of}
use Rattle.row_relation.proofs.Tails.{disp_same}
use Rattle.row_relation.proofs.Immediates.{Narrow, narrow_kind, imm_same}

-- ---- what is the same of both

abbrev state_by : Bits → Row → List ℕ → Option Vex → ℕ → PrefixState
state_by bits row ps vex opcode = state_from bits ps (length (ps ++ lead_bytes row.map vex)) vex (spelled_map row.map vex) opcode

state_is_by : (bits : Bits) (row : Row) (s : Spelling) → state_of bits row s ≡ state_by bits row s.prefixes.items s.vex s.opcode
unfolding state_of front_bytes
state_is_by bits row s = refl

state_same : (bits : Bits) (row : Row) (s u : Spelling) → IsAlike row s u → state_of bits row u ≡ state_of bits row s
state_same bits row s u a =
    state_is_by bits row u
    ∙ sym (ap (λ (x : List ℕ). state_by bits row x s.vex s.opcode) a.prefixes ∙ ap (λ (x : Option Vex). state_by bits row u.prefixes.items x s.opcode) a.vex ∙ ap (λ (x : ℕ). state_by bits row u.prefixes.items u.vex x) a.opcode)
    ∙ sym (state_is_by bits row s)

-- the address behind a spelling
abbrev next_of : Bits → ℕ → Row → Spelling → ℕ
next_of bits ip row s = next_address bits ip (length (bytes_of row s))

-- the tail of the other with what both have alike
abbrev beside : Bits → ℕ → Row → Spelling → Spelling → Tail
beside bits ip row s u = tail s.modrm s.sib u.disp.items (next_of bits ip row s)

tail_same : (bits : Bits) (ip : ℕ) (row : Row) (s u : Spelling) → IsAlike row s u → tail_of bits ip row u ≡ beside bits ip row s u
tail_same bits ip row s u a =
    ap (λ (x : Option ModRm). tail x u.sib u.disp.items (next_of bits ip row u)) (sym a.modrm)
    ∙ ap (λ (x : Option Sib). tail s.modrm x u.disp.items (next_of bits ip row u)) (sym a.sib)
    ∙ ap (λ (n : ℕ). tail s.modrm s.sib u.disp.items (next_address bits ip n)) (sym a.same_length)

-- what holds of the state and tail of the other holds of those that are alike
move : (bits : Bits) (ip : ℕ) (row : Row) (s u : Spelling) (P : PrefixState → Tail → Type 0) → IsAlike row s u → P (state_of bits row u) (tail_of bits ip row u) → P (state_of bits row s) (beside bits ip row s u)
move bits ip row s u P a h =
    subst (λ (st : PrefixState). P st (beside bits ip row s u)) (state_same bits row s u a) (subst (λ (t : Tail). P (state_of bits row u) t) (tail_same bits ip row s u a) h)

meant_by : (bits : Bits) (row : Row) (st : PrefixState) (t : Tail) (imm : List ℕ) (n : ℕ) → meant.operand_at bits row st t imm n ≡ operand_by bits row st t (kind_at row n) (method_of (kind_at row n)) (own_immediate (state_size bits row st) row n imm)
unfolding meant.operand_at
meant_by bits row st t imm n = refl

-- the immediates of operand n
abbrev own_of : Bits → Row → Spelling → Spelling → ℕ → List ℕ
own_of bits row s u n = own_immediate (state_size bits row (state_of bits row s)) row n u.imm.items

read_self : (bits : Bits) (ip : ℕ) (code : Code) (row : Row) (s : Spelling) (i : Instr) (n : ℕ) → Given bits ip code row s i → n < 4 → operand_at i n ≡ operand_by bits row (state_of bits row s) (tail_of bits ip row s) (kind_at row n) (method_of (kind_at row n)) (own_of bits row s s n)
read_self bits ip code row s i n g below = operand-meant bits ip code row s i n g below ∙ meant_by bits row (state_of bits row s) (tail_of bits ip row s) s.imm.items n

read_other : (bits : Bits) (ip : ℕ) (code : Code) (row : Row) (s u : Spelling) (i : Instr) (n : ℕ) → Given bits ip code row u i → IsAlike row s u → n < 4 → operand_at i n ≡ operand_by bits row (state_of bits row s) (beside bits ip row s u) (kind_at row n) (method_of (kind_at row n)) (own_of bits row s u n)
read_other bits ip code row s u i n g a below =
    move bits ip row s u (λ st t. operand_at i n ≡ meant.operand_at bits row st t u.imm.items n) a (operand-meant bits ip code row u i n g below)
    ∙ meant_by bits row (state_of bits row s) (beside bits ip row s u) u.imm.items n

-- ---- the displacement

nothing : (a b : List ℕ) → length a ≡ length b → length a ≡ 0 → a ≡ b
nothing [] [] n h = refl
nothing [] (y ∷ b) n h = absurd (omega arith)
nothing (x ∷ a) b n h = absurd (omega arith)

none_there : (op : Operand) → is_memory op ≡ false → operand_displacement op ≡ 0
none_there (MemOperand m) h = impossible h
none_there AbsentOperand h = refl
none_there (Reg r) h = refl
none_there (Imm x) h = refl
none_there (Near x) h = refl
none_there (Far a b) h = refl

disp_at : (bits : Bits) (ip : ℕ) (code : Code) (row : Row) (s u : Spelling) (i : Instr) (n : ℕ) → Given bits ip code row s i → Given bits ip code row u i → IsAlike row s u → n < 4 → reads_address (method_of (kind_at row n)) ≡ true → is_memory (operand_at i n) ≡ true → s.disp.items ≡ u.disp.items
disp_at bits ip code row s u i n g h a below reads is =
    let one = read_self bits ip code row s i n g below in
    let two = read_other bits ip code row s u i n h a below in
    disp_same bits row (state_of bits row s) s.modrm s.sib (next_of bits ip row s) s.disp.items u.disp.items (kind_at row n) (method_of (kind_at row n)) (own_of bits row s s n) (own_of bits row s u n) reads
    (tail_reads bits ip row s n g.is_sound g.fitting below)
    (move bits ip row s u (λ st t. TailReads bits row st t (method_of (kind_at row n))) a (tail_reads bits ip row u n h.is_sound h.fitting below))
    (sym (ap is_memory one) ∙ is) (sym one ∙ two)

disp_one : (bits : Bits) (ip : ℕ) (code : Code) (row : Row) (s u : Spelling) (i : Instr) → Given bits ip code row s i → Given bits ip code row u i → length i.ops ≡ 4 → TailSame bits row s i → IsAlike row s u → s.disp.items ≡ u.disp.items
disp_one bits ip code row s u i g h four t a =
    let op = address_operand row i in
    let kinds = four_kinds row g.is_sound in
    elim (cases_Bool (is_memory op)) [
      | inr other ↦ nothing s.disp.items u.disp.items a.disp_length (sym (displacement_same bits ip code row s i g four t) ∙ none_there op other)
      | inl is ↦ elim (cases_Bool (reads_by reads_rm row)) [
        | inl some ↦ (let k = kind_that_passes (λ kind. reads_rm (method_of kind)) row.ops Absent some in
            let below : k.0 < 4 = omega (arith, k.1, kinds) in
            let reads = rm_is_address (method_of (kind_at row k.0)) k.2 in
            disp_at bits ip code row s u i k.0 g h a below reads (sym (ap is_memory (address_operand-at row i k.0 g.is_sound four below reads)) ∙ is))
        | inr none ↦ elim (cases_Bool (reads_by is_offset row)) [
          | inl far ↦ (let k = kind_that_passes (λ kind. is_offset (method_of kind)) row.ops Absent far in
              let below : k.0 < 4 = omega (arith, k.1, kinds) in
              let reads = offset_is_address (method_of (kind_at row k.0)) k.2 in
              disp_at bits ip code row s u i k.0 g h a below reads (sym (ap is_memory (address_operand-at row i k.0 g.is_sound four below reads)) ∙ is))
          | inr never ↦ impossible (sym is ∙ ap is_memory (address_operand-none row i none never))
        ]
      ]
    ]

-- ---- the immediates

bare_of : (bits : Bits) (row : Row) (s : Spelling) (n : ℕ) → last_byte_is_read bits row s n ≡ true → reads_last_byte (method_of (kind_at row n)) ≡ true → last_byte_is_bare bits (own_of bits row s s n) ≡ true
unfolding last_byte_is_read
bare_of bits row s n h e = or_right (reads_last_byte (method_of (kind_at row n))) _ e h
  where
    or_right : (a b : Bool) → a ≡ true → (not a || b) ≡ true → b ≡ true
    or_right true b e h = h
    or_right false b e h = impossible (sym e)

each_last : (bits : Bits) (row : Row) (s : Spelling) (n : ℕ) → n < 4 → immediates_are_read bits row s ≡ true → last_byte_is_read bits row s n ≡ true
unfolding immediates_are_read
each_last bits row s n below h = at_n n below
  where
    t : ℕ → Bool
    t k = last_byte_is_read bits row s k

    at_n : (k : ℕ) → k < 4 → last_byte_is_read bits row s k ≡ true
    at_n zero k = (and_parts (t 0) (t 1 && (t 2 && t 3)) h).0
    at_n (suc zero) k = (and_parts (t 1) (t 2 && t 3) (and_parts (t 0) (t 1 && (t 2 && t 3)) h).1).0
    at_n (suc (suc zero)) k = (and_parts (t 2) (t 3) (and_parts (t 1) (t 2 && t 3) (and_parts (t 0) (t 1 && (t 2 && t 3)) h).1).1).0
    at_n (suc (suc (suc zero))) k = (and_parts (t 2) (t 3) (and_parts (t 1) (t 2 && t 3) (and_parts (t 0) (t 1 && (t 2 && t 3)) h).1).1).1
    at_n (suc (suc (suc (suc m)))) k = absurd (omega arith)

own_one : (bits : Bits) (ip : ℕ) (code : Code) (row : Row) (s u : Spelling) (i : Instr) (n : ℕ) → Given bits ip code row s i → Given bits ip code row u i → IsPlain bits ip row s → IsPlain bits ip row u → IsAlike row s u → n < 4 → own_of bits row s s n ≡ own_of bits row s u n
own_one bits ip code row s u i n g h p q a below =
    let st = state_of bits row s in
    let size = state_size bits row st in
    let kind = kind_at row n in
    let how = method_of kind in
    let plain_n = immediate_bytes (plain_size bits row) kind in
    let len_s : length (own_of bits row s s n) ≡ plain_n = own-length-at bits ip code row s i n g below in
    let same = state_same bits row s u a in
    let len_u : length (own_of bits row s u n) ≡ plain_n =
    subst (λ (x : PrefixState). length (own_immediate (state_size bits row x) row n u.imm.items) ≡ plain_n) same (own-length-at bits ip code row u i n h below) in
    let len_state : length (own_of bits row s s n) ≡ immediate_bytes size kind = len_s ∙ sym (spelled_bytes bits ip code row s i n g) in
    let bare_u = λ (e : reads_last_byte how ≡ true). subst (λ (x : PrefixState). last_byte_is_bare bits (own_immediate (state_size bits row x) row n u.imm.items) ≡ true) same (bare_of bits row u n (each_last bits row u n below q.last) e) in
    imm_same bits row st (tail_of bits ip row s) (beside bits ip row s u) kind how (own_of bits row s s n) (own_of bits row s u n) refl refl (len_s ∙ sym len_u)
    (subst (λ (x : ℕ). BytesSuit how x) (sym len_s) (bytes_suit (plain_size bits row) kind))
    (subst (λ (x : ℕ). Narrow size how x) (sym len_state) (narrow_kind size kind))
    (own-bytes size row n s.imm.items (ranges_behind s g.fitting.ranges).imm) (own-bytes size row n u.imm.items (ranges_behind u h.fitting.ranges).imm)
    (λ e. (bare_of bits row s n (each_last bits row s n below p.last) e, bare_u e))
    (sym (read_self bits ip code row s i n g below) ∙ read_other bits ip code row s u i n h a below)

two_parts : (n : ℕ) (a b : List ℕ) → take n a ≡ take n b → drop n a ≡ drop n b → a ≡ b
two_parts n a b h k =
    sym (take-append-drop n a) ∙ ap (λ (x : List ℕ). x ++ drop n a) h ∙ ap (λ (x : List ℕ). take n b ++ x) k ∙ take-append-drop n b

end_same : (d : ℕ) (x y : List ℕ) → length x ≡ d → length y ≡ d → take d x ≡ take d y → x ≡ y
end_same d x y hx hy h =
    let zx : length (drop d x) ≡ 0 = length-drop d x ∙ omega arith in
    let zy : length (drop d y) ≡ 0 = length-drop d y ∙ omega arith in
    two_parts d x y h (nothing (drop d x) (drop d y) (zx ∙ sym zy) zx)

-- the next cut of two lists whose pieces are the same
next_cut : (n m k : ℕ) (x y : List ℕ) → n + m ≡ k → take m (drop n x) ≡ take m (drop n y) → drop k x ≡ drop k y → drop n x ≡ drop n y
next_cut n m k x y e h rest =
    two_parts m (drop n x) (drop n y) h
    (drop-drop m n x ∙ ap (λ (j : ℕ). drop j x) e ∙ rest ∙ sym (ap (λ (j : ℕ). drop j y) e) ∙ sym (drop-drop m n y))

cuts : (a b c d : ℕ) (x y : List ℕ) → length x ≡ a + (b + (c + d)) → length y ≡ a + (b + (c + d)) → take a (drop 0 x) ≡ take a (drop 0 y) → take b (drop (a + 0) x) ≡ take b (drop (a + 0) y) → take c (drop (a + (b + 0)) x) ≡ take c (drop (a + (b + 0)) y)
    → take d (drop (a + (b + c)) x) ≡ take d (drop (a + (b + c)) y) → x ≡ y
cuts a b c d x y hx hy h0 h1 h2 h3 =
    let lx : length (drop (a + (b + c)) x) ≡ d = length-drop (a + (b + c)) x ∙ omega arith in
    let ly : length (drop (a + (b + c)) y) ≡ d = length-drop (a + (b + c)) y ∙ omega arith in
    let r3 = end_same d (drop (a + (b + c)) x) (drop (a + (b + c)) y) lx ly h3 in
    let r2 = next_cut (a + (b + 0)) c (a + (b + c)) x y (omega arith) h2 r3 in
    let r1 = next_cut (a + 0) b (a + (b + 0)) x y (omega arith) h1 r2 in
    next_cut 0 a (a + 0) x y (omega arith) h0 r1

-- where the immediates of each operand begin
record OwnAre (size : Bits) (row : Row) (imm : List ℕ) : Type 0 where
  first : own_immediate size row 0 imm ≡ take (immediate_bytes size (kind_at row 0)) (drop 0 imm)
  second : own_immediate size row 1 imm ≡ take (immediate_bytes size (kind_at row 1)) (drop (immediate_bytes size (kind_at row 0) + 0) imm)
  third : own_immediate size row 2 imm ≡ take (immediate_bytes size (kind_at row 2)) (drop (immediate_bytes size (kind_at row 0) + (immediate_bytes size (kind_at row 1) + 0)) imm)
  fourth : own_immediate size row 3 imm ≡ take (immediate_bytes size (kind_at row 3)) (drop (immediate_bytes size (kind_at row 0) + (immediate_bytes size (kind_at row 1) + immediate_bytes size (kind_at row 2))) imm)

own_are : (size : Bits) (row : Row) (imm : List ℕ) → OwnAre size row imm
unfolding own_immediate immediates_before
own_are size row imm = record { first = refl; second = refl; third = refl; fourth = refl }

imm_len : (bits : Bits) (ip : ℕ) (code : Code) (row : Row) (s : Spelling) (i : Instr) → Given bits ip code row s i → (let size = state_size bits row (state_of bits row s) in length s.imm.items ≡ immediate_bytes size (kind_at row 0) + (immediate_bytes size (kind_at row 1) + (immediate_bytes size (kind_at row 2) + immediate_bytes size (kind_at row 3))))
imm_len bits ip code row s i g =
    let e = immediates-len bits ip code row s i g in
    let e0 = spelled_bytes bits ip code row s i 0 g in let e1 = spelled_bytes bits ip code row s i 1 g in
    let e2 = spelled_bytes bits ip code row s i 2 g in let e3 = spelled_bytes bits ip code row s i 3 g in
    omega (arith, e, e0, e1, e2, e3)

imm_one : (bits : Bits) (ip : ℕ) (code : Code) (row : Row) (s u : Spelling) (i : Instr) → Given bits ip code row s i → Given bits ip code row u i → IsPlain bits ip row s → IsPlain bits ip row u → IsAlike row s u → s.imm.items ≡ u.imm.items
imm_one bits ip code row s u i g h p q a =
    let size = state_size bits row (state_of bits row s) in
    let n = imm_len bits ip code row s i g in
    let x = own_are size row s.imm.items in
    let y = own_are size row u.imm.items in
    cuts _ _ _ _ s.imm.items u.imm.items n (sym a.imm_length ∙ n)
    (sym x.first ∙ own_one bits ip code row s u i 0 g h p q a (omega arith) ∙ y.first)
    (sym x.second ∙ own_one bits ip code row s u i 1 g h p q a (omega arith) ∙ y.second)
    (sym x.third ∙ own_one bits ip code row s u i 2 g h p q a (omega arith) ∙ y.third)
    (sym x.fourth ∙ own_one bits ip code row s u i 3 g h p q a (omega arith) ∙ y.fourth)

-- ---- all of it

abbrev spelling_of : List ℕ → Option Vex → ℕ → Option ModRm → Option Sib → List ℕ → List ℕ → Spelling
spelling_of ps vex opcode m sib disp imm =
    record { prefixes = record { items = ps }; vex = vex; opcode = opcode; modrm = m; sib = sib; disp = record { items = disp }; imm = record { items = imm } }

parts_one : (s u : Spelling) → s.prefixes.items ≡ u.prefixes.items → s.vex ≡ u.vex → s.opcode ≡ u.opcode → s.modrm ≡ u.modrm → s.sib ≡ u.sib → s.disp.items ≡ u.disp.items → s.imm.items ≡ u.imm.items → s ≡ u
parts_one s u p v o m b d n =
    ap (λ (x : List ℕ). spelling_of x s.vex s.opcode s.modrm s.sib s.disp.items s.imm.items) p
    ∙ ap (λ (x : Option Vex). spelling_of u.prefixes.items x s.opcode s.modrm s.sib s.disp.items s.imm.items) v
    ∙ ap (λ (x : ℕ). spelling_of u.prefixes.items u.vex x s.modrm s.sib s.disp.items s.imm.items) o
    ∙ ap (λ (x : Option ModRm). spelling_of u.prefixes.items u.vex u.opcode x s.sib s.disp.items s.imm.items) m
    ∙ ap (λ (x : Option Sib). spelling_of u.prefixes.items u.vex u.opcode u.modrm x s.disp.items s.imm.items) b
    ∙ ap (λ (x : List ℕ). spelling_of u.prefixes.items u.vex u.opcode u.modrm u.sib x s.imm.items) d
    ∙ ap (λ (x : List ℕ). spelling_of u.prefixes.items u.vex u.opcode u.modrm u.sib u.disp.items x) n

-- the conditions 1 to 9 hold where a plain spelling means the instruction
suits_of : (bits : Bits) (ip : ℕ) (row : Row) (s : Spelling) (i : Instr) → Given bits ip i.code row s i → length i.ops ≡ 4 → IsPlain bits ip row s → Suits bits ip row i
suits_of bits ip row s i g four p =
    let n = needs_hold bits ip i.code row s i g in
    record {
      exists = n.exists;
      kinds = n.kinds;
      registers = n.registers;
      addresses = n.addresses;
      displacements = n.displacements;
      immediates = n.immediates;
      targets = n.targets (length_same bits ip i.code row s i g four p);
      prefixes = n.prefixes;
      address_size = n.address_size;
    }

-- **a fitting plain spelling that means an instruction is the constructed one**
pub one_plain : (bits : Bits) (ip : ℕ) (row : Row) (s : Spelling) (i : Instr) → Given bits ip i.code row s i → length i.ops ≡ 4 → IsPlain bits ip row s → s ≡ plain_spelling bits ip row i
one_plain bits ip row s i g four p =
    let u = plain_spelling bits ip row i in
    let made : fit.Given bits ip row i = record { is_sound = g.is_sound; is_writable = g.is_writable; suits = suits_of bits ip row s i g four p; four = four } in
    let h = given_of bits ip row i made in
    let q = plain_is bits ip row i made in
    let a = alike bits ip i.code row s i g four p in
    let t = tail_same_of bits ip i.code row s i g four p in
    parts_one s u a.prefixes a.vex a.opcode a.modrm a.sib (disp_one bits ip i.code row s u i g h four t a) (imm_one bits ip i.code row s u i g h p q a)
