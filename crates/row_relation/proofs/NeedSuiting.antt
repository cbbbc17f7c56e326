-- The registers, LOCK and the repeat prefix of an instruction that a fitting spelling means are those that its row allows.
use Rattle.std.proofs.Common.{◌≡◌, inl, inr, ℕ, ◌+◌, ◌%◌, ◌<◌, ◌≤◌, Bool, true, false, ◌&&◌, ◌||◌, not, ◌==◌, nat_lt, List, [], ◌∷◌, length, Option, Some, None, is_some, refl, ap, sym, ◌∙◌, subst, arith, if◌then◌else◌}
use Rattle.instruction_parts.proofs.Tests.{or_right}
use Rattle.std.proofs.Math.Bool.{or-true}
use Rattle.std.proofs.lemmas.Bool.{and_from, or_left, and_parts, cases_Bool, eqb-true, not-true}
use Rattle.std.specs.List.{list_any, list_all}
use Rattle.x86_values.specs.declared.Bits.{Bits}
use Rattle.x86_values.specs.declared.Rep.{Rep}
use Rattle.x86_values.specs.declared.Code.{Code}
use Rattle.x86_values.specs.declared.Instr.{Instr}
use Rattle.x86_values.specs.declared.Operand.{Operand}
use Rattle.instruction_parts.specs.declared.row_types.Row.{Row}
use Rattle.instruction_parts.specs.declared.row_types.Class.{Class}
use Rattle.instruction_parts.specs.declared.row_types.Class.TheVariants.{Any as AnyClass, Nf3}
use Rattle.instruction_parts.specs.declared.row_types.Plus.{Plus}
use Rattle.instruction_parts.specs.declared.row_types.Plus.TheVariants.{No as NoPlus, Register as PlusRegister, Stack as PlusStack}
use Rattle.instruction_parts.specs.declared.row_types.ModRmRule.{ModRmRule}
use Rattle.instruction_parts.specs.declared.row_types.ModRmRule.TheVariants.{Any as AnyModRm}
use Rattle.instruction_parts.specs.declared.row_types.OpKind.{OpKind}
use Rattle.row_fit.proofs.FitLaws.{ranges_behind}
use Rattle.instruction_parts.specs.declared.kinds.Method.{Method}
use Rattle.instruction_parts.specs.declared.kinds.Method.TheVariants as method
use Rattle.instruction_parts.specs.declared.kinds.File.{File}
use Rattle.instruction_parts.specs.declared.kinds.File.TheVariants as file
use Rattle.instruction_parts.specs.declared.spelling.Vex.{Vex}
use Rattle.instruction_parts.specs.declared.spelling.ModRm.{ModRm}
use Rattle.instruction_parts.specs.declared.spelling.Sib.{Sib}
use Rattle.instruction_parts.specs.declared.spelling.Spelling.{Spelling}
use Rattle.instruction_parts.specs.declared.spelling.PrefixState.{PrefixState}
use Rattle.instruction_parts.specs.Kinds.{method_of, file_of}
use Rattle.instruction_parts.specs.Sizes.{is_vex_row, is_lockable, state_size, state_address_size, bit_b}
use Rattle.instruction_parts.specs.Bytes.{state_of}
use Rattle.row_fit.specs.Fits.{kind_at, has_modrm, reads_by, is_gather, with_high_bit, reg_number, vvvv_number, index_number, needs_sib, gather_fits, is_nop_byte, is_memory_method, lock_fits, is_repeat_f3, is_no_repeat, legacy_class_fits, vex_class_fits, is_vvvv}
use Rattle.row_fit.specs.Sound.{Sound, has_four_operands, reads_reg, reads_rm, reads_opcode}
use Rattle.row_meaning.specs.Meaning.{register_of, memory_with_sib, with_modrm, gather_memory, kept_repeat, Tail, tail_of, instr_of, operand_by, own_immediate}
use Rattle.x86_values.specs.Operands.{is_memory}
use Rattle.plain_spelling.specs.Forms.{is_variant_of, operand_at}
use Rattle.plain_spelling.specs.PlainFront.{register_number, number_in_reg, number_in_index, number_in_vvvv, number_in_opcode, operand_index_number, number_asked_of, asked_opcode}
use Rattle.plain_spelling.specs.Expressible.{each_operand, kind_suits, vector_in_reg, vector_in_index, vector_in_vvvv, passes, differ as two_differ, gather_numbers_differ, gather_suits, register_suits, lock_suits, is_exchange_of_90, repeat_suits, prefixes_suit, row_exists}
use Rattle.plain_spelling.specs.Writable.{is_vector_file, names_vectors, gather_is_whole}
use Rattle.row_relation.proofs.AddressForms.{vectors_named}
use Rattle.plain_spelling.proofs.Asked.{each-from}
use Rattle.row_relation.specs.GivenSpelling.{Given}
use Rattle.row_relation.proofs.NeedImmediates.{own-bytes}
use Rattle.row_relation.proofs.NeedWalking.{Gives, hold_all, readers, readers_yes, readers_no, readers_none, readers_left, asked_is}
use Rattle.row_relation.proofs.NeedNumbers.{number-vector}
use Rattle.row_relation.proofs.NeedAsks.{apart, placed, each_read, differ, silent_reg, silent_vvvv, silent_opcode, silent_index}
use Rattle.row_relation.proofs.NeedStates.{StateIs, state_is}
use Rattle.row_relation.proofs.NeedUsed.{read, read_is, bits_of, tail_range, kept_of}
use Rattle.row_relation.proofs.NeedVariants.{tail_is, read_at, some_reader, gather_reads_rm, memory_stands, kinds_suit}
use Rattle.row_relation.proofs.NeedRegisters.{Reading, by_method, opcode_number, opcode_range, nop_b}

-- ---- what an operand of a fitting spelling rests on

four_kinds : (row : Row) → has_four_operands row ≡ true → length row.ops ≡ 4
unfolding has_four_operands
four_kinds row h = eqb-true (length row.ops) 4 h

four_read : (bits : Bits) (ip : ℕ) (code : Code) (row : Row) (s : Spelling) → length (read bits ip code row s).ops ≡ 4
unfolding instr_of
four_read bits ip code row s = refl

-- the bytes of the immediates that are those of operand n
abbrev own_of : Bits → Row → Spelling → ℕ → List ℕ
own_of bits row s n = own_immediate (state_size bits row (state_of bits row s)) row n s.imm.items

-- what is known of an operand that is read
pub reading : (bits : Bits) (ip : ℕ) (code : Code) (row : Row) (s : Spelling) (i : Instr) (n : ℕ) → Given bits ip code row s i → n < 4 → Reading bits row (state_of bits row s) (tail_of bits ip row s) i n (own_of bits row s n)
reading bits ip code row s i n g h =
    let same = read_is bits ip code row s i g in
    record {
      context = record {
        state = state_is bits row s g.fitting;
        asked_of = bits_of bits ip code row s i g;
        is_writable = g.is_writable;
        kinds = four_kinds row g.is_sound.four_operands;
        operands = subst (λ (x : Instr). length x.ops ≡ 4) same (four_read bits ip code row s);
        within = h;
      };
      tail = tail_is bits ip row s g.is_sound g.fitting;
      range = tail_range bits ip row s g.fitting.ranges;
      places = placed row g.is_sound.operands g.is_sound.plus;
      four = g.is_sound.four_operands;
      bytes = own-bytes (state_size bits row (state_of bits row s)) row n s.imm.items (ranges_behind s g.fitting.ranges).imm;
      operand = ap (λ (x : Instr). operand_at x n) (sym same) ∙ read_at bits code row (state_of bits row s) (tail_of bits ip row s) s.imm.items n h;
    }

-- ---- gathers

kept_number : (bits : Bits) (row : Row) (st : PrefixState) (f : File) (n : ℕ) → is_vector_file f ≡ true → register_number (register_of bits row st f n) ≡ n
unfolding register_of register_number
kept_number bits row st file.Xmm n h = refl
kept_number bits row st file.Vector n h = number-vector row.l n
kept_number bits row st _ n h = cc

given_reg : (bits : Bits) (row : Row) (st : PrefixState) (t : Tail) (kind : OpKind) (how : Method) (own : List ℕ) → is_vector_file (file_of kind) ≡ true → reads_reg how ≡ true → number_in_reg how (operand_by bits row st t kind how own) ≡ reg_number st t.modrm
unfolding number_in_reg operand_by
given_reg bits row st t kind method.ModRmReg own k h = kept_number bits row st (file_of kind) (reg_number st t.modrm) k
given_reg bits row st t kind _ own k h = cc

given_vvvv : (bits : Bits) (row : Row) (st : PrefixState) (t : Tail) (kind : OpKind) (how : Method) (own : List ℕ) → is_vector_file (file_of kind) ≡ true → is_vvvv how ≡ true → number_in_vvvv how (operand_by bits row st t kind how own) ≡ vvvv_number bits st
unfolding number_in_vvvv operand_by
given_vvvv bits row st t kind method.Vvvv own k h = kept_number bits row st (file_of kind) (vvvv_number bits st) k
given_vvvv bits row st t kind _ own k h = cc

gather_index : (bits : Bits) (row : Row) (st : PrefixState) (f : File) (m : Option ModRm) (sib : Option Sib) (disp : List ℕ) → is_some m ≡ true → is_some sib ≡ true → is_vector_file f ≡ true → operand_index_number (with_modrm (λ m. gather_memory bits row st f m sib disp) m) ≡ index_number st sib
unfolding gather_memory memory_with_sib
gather_index bits row st f None sib disp h k e = cc
gather_index bits row st f (Some m) None disp h k e = cc
gather_index bits row st f (Some m) (Some s) disp h k e = kept_number bits row st f (index_number st (Some s)) e

-- the only operand in r/m of a gather is the gather
abbrev gather_or_not : OpKind → Bool
gather_or_not kind = is_gather (method_of kind) || not (reads_rm (method_of kind))

given_index : (bits : Bits) (row : Row) (st : PrefixState) (t : Tail) (kind : OpKind) (how : Method) (own : List ℕ) → is_some t.modrm ≡ true → is_some t.sib ≡ true → is_vector_file (file_of kind) ≡ true → (is_gather how || not (reads_rm how)) ≡ true → reads_rm how ≡ true → number_in_index how (operand_by bits row st t kind how own) ≡ index_number st t.sib
unfolding number_in_index operand_by
given_index bits row st t kind method.Gather own m s k g h = gather_index bits row st (file_of kind) t.modrm t.sib t.disp m s k
given_index bits row st t kind method.RegisterOrMemory own m s k g h = cc
given_index bits row st t kind method.RegisterOnly own m s k g h = cc
given_index bits row st t kind method.MemoryOnly own m s k g h = cc
given_index bits row st t kind method.AnyMode own m s k g h = cc
given_index bits row st t kind _ own m s k g h = cc

no_more : (kinds : List OpKind) → readers reads_rm kinds ≡ 0 → list_all gather_or_not kinds ≡ true
no_more [] h = refl
no_more (kind ∷ kinds) h =
    let none = readers_none reads_rm kind kinds h in
    let rest = no_more kinds (readers_left reads_rm kind kinds h) in
    rw (none, or-true (is_gather (method_of kind))) rest

readers_le : (p q : Method → Bool) → ((how : Method) → p how ≡ true → q how ≡ true) → (kinds : List OpKind) → readers p kinds ≤ readers q kinds
readers_le p q w [] = omega arith
readers_le p q w (kind ∷ kinds) = let rest = readers_le p q w kinds in elim (cases_Bool (p (method_of kind))) [
  | inl e ↦ rw (e, w (method_of kind) e) (omega arith)
  | inr e ↦ rw e (omega arith)
]

only_gather : (kinds : List OpKind) → list_any (λ kind. is_gather (method_of kind)) kinds ≡ true → readers reads_rm kinds ≤ 1 → list_all gather_or_not kinds ≡ true
only_gather [] g n = refl
only_gather (kind ∷ kinds) g n = elim (cases_Bool (is_gather (method_of kind))) [
  | inl e ↦ rw e (no_more kinds (readers_yes reads_rm kind kinds (gather_reads_rm (method_of kind) e) n))
  | inr e ↦ (
      let more : list_any (λ kind. is_gather (method_of kind)) kinds ≡ true = rw e at g in
      elim (cases_Bool (reads_rm (method_of kind))) [
        | inr f ↦ rw (e, f) (only_gather kinds more (readers_no reads_rm kind kinds 1 f n))
        | inl f ↦ absurd (let z = readers_yes reads_rm kind kinds f n in let k = some_reader is_gather kinds more in let l = readers_le is_gather reads_rm gather_reads_rm kinds in omega arith)
      ])
]

or_more : (a b : Bool) → b ≡ true → (a || b) ≡ true
or_more true b h = refl
or_more false b h = h

-- what a row with a gather is
record Whole (row : Row) : Type 0 where
  reg : reads_by reads_reg row ≡ true
  vvvv : reads_by is_vvvv row ≡ true
  vectors : list_all names_vectors row.ops ≡ true

any_rule : (rule : ModRmRule) (x : Bool) → (elim rule [ AnyModRm ↦ x | _ ↦ false ]) ≡ true → x ≡ true
any_rule AnyModRm x h = h
any_rule _ x h = cc

whole : (row : Row) → gather_is_whole row ≡ true → reads_by is_gather row ≡ true → Whole row
unfolding gather_is_whole
whole row h gather =
    let k = or_right (not (reads_by is_gather row)) _ (ap not gather) h in
    let rule = any_rule row.modrm _ (and_parts (is_vex_row row) _ k).1 in
    let rest = (and_parts (reads_by reads_reg row) _ rule).1 in
    record {
      reg = (and_parts (reads_by reads_reg row) _ rule).0;
      vvvv = (and_parts (reads_by is_vvvv row) _ rest).0;
      vectors = (and_parts (reads_by is_vvvv row) _ rest).1;
    }

asked_reg : (bits : Bits) (code : Code) (row : Row) (st : PrefixState) (t : Tail) (imm : List ℕ) → Sound row → Whole row → number_asked_of number_in_reg row (instr_of bits code row st t imm) ≡ reg_number st t.modrm
asked_reg bits code row st t imm sound w =
    let v = reg_number st t.modrm in
    asked_is v reads_reg number_in_reg row.ops _ w.reg (apart row sound.apart).reg
    (hold_all names_vectors (Gives v reads_reg number_in_reg) row.ops _ w.vectors
    (each_read (λ kind op. names_vectors kind ≡ true → Gives v reads_reg number_in_reg kind op) bits code row st t imm sound.four_operands
    (λ kind own k. (λ h. given_reg bits row st t kind (method_of kind) own (vectors_named kind k (or_left (reads_reg (method_of kind)) _ h)) h, silent_reg _ (method_of kind)))))

asked_vvvv : (bits : Bits) (code : Code) (row : Row) (st : PrefixState) (t : Tail) (imm : List ℕ) → Sound row → Whole row → number_asked_of number_in_vvvv row (instr_of bits code row st t imm) ≡ vvvv_number bits st
asked_vvvv bits code row st t imm sound w =
    let v = vvvv_number bits st in
    asked_is v is_vvvv number_in_vvvv row.ops _ w.vvvv (apart row sound.apart).vvvv
    (hold_all names_vectors (Gives v is_vvvv number_in_vvvv) row.ops _ w.vectors
    (each_read (λ kind op. names_vectors kind ≡ true → Gives v is_vvvv number_in_vvvv kind op) bits code row st t imm sound.four_operands
    (λ kind own k. (
      λ h. given_vvvv bits row st t kind (method_of kind) own
          (vectors_named kind k (or_more (reads_reg (method_of kind)) _ (or_more (reads_rm (method_of kind)) _ h))) h,
      silent_vvvv _ (method_of kind),
    ))))

any_weaker : (p q : Method → Bool) → ((how : Method) → p how ≡ true → q how ≡ true) → (kinds : List OpKind) → list_any (λ kind. p (method_of kind)) kinds ≡ true → list_any (λ kind. q (method_of kind)) kinds ≡ true
any_weaker p q w [] h = cc
any_weaker p q w (kind ∷ kinds) h = elim (cases_Bool (p (method_of kind))) [
  | inl e ↦ rw (w (method_of kind) e)
  | inr e ↦ (
      let more : list_any (λ kind. p (method_of kind)) kinds ≡ true = rw e at h in
      rw (any_weaker p q w kinds more) (or-true (q (method_of kind))))
]

asked_index : (bits : Bits) (code : Code) (row : Row) (st : PrefixState) (t : Tail) (imm : List ℕ) → Sound row → Whole row → reads_by is_gather row ≡ true → is_some t.modrm ≡ true → is_some t.sib ≡ true → number_asked_of number_in_index row (instr_of bits code row st t imm) ≡ index_number st t.sib
asked_index bits code row st t imm sound w gather m s =
    let v = index_number st t.sib in
    let one = (apart row sound.apart).rm in
    asked_is v reads_rm number_in_index row.ops _ (any_weaker is_gather reads_rm gather_reads_rm row.ops gather) one
    (hold_all names_vectors (Gives v reads_rm number_in_index) row.ops _ w.vectors
    (hold_all gather_or_not (λ kind op. names_vectors kind ≡ true → Gives v reads_rm number_in_index kind op) row.ops _ (only_gather row.ops gather one)
    (each_read (λ kind op. gather_or_not kind ≡ true → names_vectors kind ≡ true → Gives v reads_rm number_in_index kind op) bits code row st t imm sound.four_operands
    (λ kind own g k. (
      λ h. given_index bits row st t kind (method_of kind) own m s
          (vectors_named kind k (or_more (reads_reg (method_of kind)) _ (or_left (reads_rm (method_of kind)) _ h))) g h,
      silent_index bits row st t kind (method_of kind) own,
    )))))

differ_by : (bits : Bits) (st : PrefixState) (m : Option ModRm) (sib : Option Sib) (a b c : ℕ) → gather_fits bits st m sib ≡ true → a ≡ reg_number st m → b ≡ index_number st sib → c ≡ vvvv_number bits st → (not (a == b) && (not (a == c) && not (b == c))) ≡ true
unfolding gather_fits
differ_by bits st m sib a b c h ea eb ec = rw (ea, eb, ec) (and_parts (has_modrm (λ m. needs_sib (state_address_size bits st) m) m) _ h).1

-- numbers that differ do so also where only those of vector registers are compared
two_of_them : (a b : Bool) (x y : ℕ) → not (x == y) ≡ true → two_differ (if a then Some x else None) (if b then Some y else None) ≡ true
two_of_them true true x y h = h
two_of_them true false x y h = refl
two_of_them false b x y h = refl

some_of_them : (a b c : Bool) (x y z : ℕ) → (not (x == y) && (not (x == z) && not (y == z))) ≡ true
    → (two_differ (if a then Some x else None) (if b then Some y else None)
    && (two_differ (if a then Some x else None) (if c then Some z else None) && two_differ (if b then Some y else None) (if c then Some z else None))) ≡ true
some_of_them a b c x y z h =
    let rest = (and_parts (not (x == y)) _ h).1 in
    and_from (two_differ (if a then Some x else None) (if b then Some y else None)) _ (two_of_them a b x y (and_parts (not (x == y)) _ h).0)
    (and_from (two_differ (if a then Some x else None) (if c then Some z else None)) _ (two_of_them a c x z (and_parts (not (x == z)) _ rest).0)
    (two_of_them b c y z (and_parts (not (x == z)) _ rest).1))

-- some operand passes a test
abbrev some_passes : (Method → Operand → Bool) → Row → Instr → Bool
some_passes p row i = passes p row i 0 || (passes p row i 1 || (passes p row i 2 || passes p row i 3))

has_some : (p : ModRm → Bool) (m : Option ModRm) → has_modrm p m ≡ true → is_some m ≡ true
has_some p None h = h
has_some p (Some m) h = refl

gather_modrm : (bits : Bits) (st : PrefixState) (m : Option ModRm) (sib : Option Sib) → gather_fits bits st m sib ≡ true → is_some m ≡ true
unfolding gather_fits
gather_modrm bits st m sib h = has_some (λ m. needs_sib (state_address_size bits st) m) m (and_parts (has_modrm (λ m. needs_sib (state_address_size bits st) m) m) _ h).0

gathers_differ : (bits : Bits) (ip : ℕ) (code : Code) (row : Row) (s : Spelling) (i : Instr) → Given bits ip code row s i → reads_by is_gather row ≡ true → gather_numbers_differ row i ≡ true
unfolding gather_numbers_differ
gathers_differ bits ip code row s i g gather =
    let st = state_of bits row s in
    let t = tail_of bits ip row s in
    let tail = tail_is bits ip row s g.is_sound g.fitting in
    let w = whole row g.is_writable.gather gather in
    let fit = tail.gather gather in
    let same = sym (read_is bits ip code row s i g) in
    let at = λ (f : Method → Operand → ℕ). ap (λ (x : Instr). number_asked_of f row x) same in
    some_of_them (some_passes vector_in_reg row i) (some_passes vector_in_index row i) (some_passes vector_in_vvvv row i)
    (number_asked_of number_in_reg row i) (number_asked_of number_in_index row i) (number_asked_of number_in_vvvv row i)
    (differ_by bits st t.modrm t.sib _ _ _ fit
    (at number_in_reg ∙ asked_reg bits code row st t s.imm.items g.is_sound w)
    (at number_in_index ∙ asked_index bits code row st t s.imm.items g.is_sound w gather (gather_modrm bits st t.modrm t.sib fit) (tail.sib gather))
    (at number_in_vvvv ∙ asked_vvvv bits code row st t s.imm.items g.is_sound w))

or_last : (a b c : Bool) → (b ≡ true → c ≡ true) → (a || (not b || c)) ≡ true
or_last true b c h = refl
or_last false true c h = h refl
or_last false false c h = refl

register_at : (bits : Bits) (ip : ℕ) (code : Code) (row : Row) (s : Spelling) (i : Instr) → Given bits ip code row s i → (n : ℕ) → n < 4 → register_suits bits row i n ≡ true
unfolding register_suits
register_at bits ip code row s i g n h =
    let r = reading bits ip code row s i n g h in
    let named = by_method bits row (state_of bits row s) (tail_of bits ip row s) i n (own_of bits row s n) (method_of (kind_at row n)) r refl r.operand in
    and_from _ (gather_suits row i n) named (or_last (not (n == 0)) (reads_by is_gather row) (gather_numbers_differ row i) (gathers_differ bits ip code row s i g))

-- **each register operand can be named in the mode**
pub registers_suit : (bits : Bits) (ip : ℕ) (code : Code) (row : Row) (s : Spelling) (i : Instr) → Given bits ip code row s i → each_operand (register_suits bits row i) ≡ true
registers_suit bits ip code row s i g = each-from (register_suits bits row i) (register_at bits ip code row s i g)

-- ---- LOCK

memory_by : (bits : Bits) (row : Row) (st : PrefixState) (t : Tail) (kind : OpKind) (how : Method) (own : List ℕ) → is_memory_method how t.modrm ≡ true → is_variant_of row.place how (operand_by bits row st t kind how own) ≡ true → is_memory (operand_by bits row st t kind how own) ≡ true
unfolding is_memory_method is_variant_of operand_by
memory_by bits row st t kind method.RegisterOrMemory own h v =
    let test : has_modrm (λ m. nat_lt m.mode3 3) t.modrm ≡ true = h in
    rw test (memory_stands bits st t.modrm t.sib t.disp t.next (has_some (λ m. nat_lt m.mode3 3) t.modrm test))
memory_by bits row st t kind method.MemoryOnly own h v = v
memory_by bits row st t kind method.Gather own h v = v
memory_by bits row st t kind method.Offset own h v = v
memory_by bits row st t kind _ own h v = cc

variant_of_kind : (row : Row) (i : Instr) (n : ℕ) (op : Operand) → kind_suits row i n ≡ true → operand_at i n ≡ op → is_variant_of row.place (method_of (kind_at row n)) op ≡ true
unfolding kind_suits
variant_of_kind row i n op h e = subst (λ (x : Operand). is_variant_of row.place (method_of (kind_at row n)) x ≡ true) e h

lock_by : (row : Row) (st : PrefixState) (i : Instr) (m : Option ModRm) → lock_fits row st m ≡ true → i.lock ≡ st.lock → (is_memory_method (method_of (kind_at row 0)) m ≡ true → is_memory (operand_at i 0) ≡ true) → lock_suits row i ≡ true
unfolding lock_fits lock_suits
lock_by row st i m h e w = elim (cases_Bool i.lock) [
  | inr no1 ↦ rw no1
  | inl yes1 ↦ (
      let k = or_right (not st.lock) _ (ap not (sym e ∙ yes1)) h in
      rw yes1 (and_from (is_lockable row) (is_memory (operand_at i 0)) (and_parts (is_lockable row) _ k).0 (w (and_parts (is_lockable row) _ k).1)))
]

each_first : (p : ℕ → Bool) → each_operand p ≡ true → p 0 ≡ true
each_first p h = (and_parts (p 0) _ h).0

lock_suited : (bits : Bits) (ip : ℕ) (code : Code) (row : Row) (s : Spelling) (i : Instr) → Given bits ip code row s i → lock_suits row i ≡ true
lock_suited bits ip code row s i g =
    let st = state_of bits row s in
    let t = tail_of bits ip row s in
    let r = reading bits ip code row s i 0 g (omega arith) in
    let kind = each_first (kind_suits row i) (kinds_suit bits ip code row s i g) in
    lock_by row st i t.modrm g.fitting.lock (kept_of bits ip code row s i g).lock (λ h.
    ap is_memory r.operand ∙ memory_by bits row st t (kind_at row 0) (method_of (kind_at row 0)) (own_of bits row s 0) h (variant_of_kind row i 0 _ kind r.operand))

-- ---- the repeat prefix

given_opcode : (bits : Bits) (row : Row) (st : PrefixState) (t : Tail) (kind : OpKind) (how : Method) (own : List ℕ) → method_of kind ≡ how → reads_opcode how ≡ true → number_in_opcode how (operand_by bits row st t kind how own) ≡ with_high_bit (bit_b bits st) (st.opcode % 8)
unfolding number_in_opcode operand_by
given_opcode bits row st t kind method.OpcodeLow own e h = opcode_number bits row st kind (with_high_bit (bit_b bits st) (st.opcode % 8)) e
given_opcode bits row st t kind _ own e h = cc

asked_opcode_number : (bits : Bits) (code : Code) (row : Row) (st : PrefixState) (t : Tail) (imm : List ℕ) → Sound row → row.plus ≡ PlusRegister → number_asked_of number_in_opcode row (instr_of bits code row st t imm) ≡ with_high_bit (bit_b bits st) (st.opcode % 8)
asked_opcode_number bits code row st t imm sound plus =
    let v = with_high_bit (bit_b bits st) (st.opcode % 8) in
    asked_is v reads_opcode number_in_opcode row.ops _ ((placed row sound.operands sound.plus).reads plus) (apart row sound.apart).opcode
    (each_read (Gives v reads_opcode number_in_opcode) bits code row st t imm sound.four_operands
    (λ kind own. (λ h. given_opcode bits row st t kind (method_of kind) own refl h, silent_opcode _ (method_of kind))))

low_of_extended : (b : Bool) (n : ℕ) → with_high_bit b (n % 8) % 8 ≡ n % 8
low_of_extended true n = omega arith
low_of_extended false n = omega arith

opcode_again : (r o : ℕ) → r ≤ o → o < r + 8 → r % 8 ≡ 0 → r + o % 8 ≡ o
opcode_again r o h k a = omega arith

asked_opcode_by : (row : Row) (i : Instr) → row.plus ≡ PlusRegister → asked_opcode row i ≡ row.opcode + number_asked_of number_in_opcode row i % 8
unfolding asked_opcode
asked_opcode_by row i e = rw e

-- **the plain opcode byte of a row that adds a register is the one that was read**
pub same_opcode_byte : (bits : Bits) (ip : ℕ) (code : Code) (row : Row) (s : Spelling) (i : Instr) → Given bits ip code row s i → row.plus ≡ PlusRegister → asked_opcode row i ≡ (state_of bits row s).opcode
same_opcode_byte bits ip code row s i g plus =
    let st = state_of bits row s in
    let t = tail_of bits ip row s in
    let number : number_asked_of number_in_opcode row i ≡ with_high_bit (bit_b bits st) (st.opcode % 8) =
    ap (λ (x : Instr). number_asked_of number_in_opcode row x) (sym (read_is bits ip code row s i g)) ∙ asked_opcode_number bits code row st t s.imm.items g.is_sound plus in
    let low : number_asked_of number_in_opcode row i % 8 ≡ st.opcode % 8 = ap (λ (n : ℕ). n % 8) number ∙ low_of_extended (bit_b bits st) st.opcode in
    let tail = tail_is bits ip row s g.is_sound g.fitting in
    let range = opcode_range row st.opcode plus tail.opcode in
    asked_opcode_by row i plus ∙ ap (λ (n : ℕ). row.opcode + n) low
    ∙ opcode_again row.opcode st.opcode range.0 range.1 ((placed row g.is_sound.operands g.is_sound.plus).aligned plus)

adds_register : (plus : Plus) → (elim plus [ PlusRegister ↦ true | _ ↦ false ]) ≡ true → plus ≡ PlusRegister
adds_register PlusRegister h = refl
adds_register NoPlus h = cc
adds_register PlusStack h = cc

exchange_no_f3 : (bits : Bits) (ip : ℕ) (code : Code) (row : Row) (s : Spelling) (i : Instr) → Given bits ip code row s i → is_exchange_of_90 row i ≡ true → is_repeat_f3 (state_of bits row s).rep ≡ false
exchange_no_f3 bits ip code row s i g h =
    let plus = adds_register row.plus (and_parts (elim row.plus [ PlusRegister ↦ true | _ ↦ false ]) _ h).0 in
    let nop = (and_parts (elim row.plus [ PlusRegister ↦ true | _ ↦ false ]) (is_nop_byte row (asked_opcode row i)) h).1 in
    let tail = tail_is bits ip row s g.is_sound g.fitting in
    (nop_b bits row (state_of bits row s) plus (tail.nop (ap (is_nop_byte row) (sym (same_opcode_byte bits ip code row s i g plus)) ∙ nop))).1

no_both : (a b : Bool) → (b ≡ true → a ≡ false) → not (a && b) ≡ true
no_both true true h = let e = h refl in cc
no_both true false h = refl
no_both false b h = refl

-- the repeat prefix by the class
abbrev repeat_by : Class → Rep → Bool → Bool
repeat_by class rep exchange =
    elim class [ AnyClass ↦ not (is_repeat_f3 rep && exchange) | Nf3 ↦ not (is_repeat_f3 rep) | _ ↦ is_no_repeat rep ]

repeat_of_class : (class : Class) (rep : Rep) (exchange : Bool) → (exchange ≡ true → is_repeat_f3 rep ≡ false) → (class ≡ Nf3 → is_repeat_f3 rep ≡ false) → repeat_by class (kept_repeat class rep) exchange ≡ true
unfolding kept_repeat
repeat_of_class AnyClass rep exchange h k = no_both (is_repeat_f3 rep) exchange h
repeat_of_class Nf3 rep exchange h k = ap not (k refl)
repeat_of_class _ rep exchange h k = refl

nf3_legacy : (st : PrefixState) (class : Class) → class ≡ Nf3 → legacy_class_fits class st ≡ true → is_repeat_f3 st.rep ≡ false
unfolding legacy_class_fits
nf3_legacy st Nf3 e h = not-true (is_repeat_f3 st.rep) h
nf3_legacy st _ e h = cc

nf3_vex : (class : Class) (v : Vex) → class ≡ Nf3 → vex_class_fits class v ≡ true → ⊥
unfolding vex_class_fits
nf3_vex class v e h = differ (vex_class_fits Nf3 v) (subst (λ (x : Class). vex_class_fits x v ≡ true) e h) refl

nf3_rep : (bits : Bits) (row : Row) (st : PrefixState) → StateIs bits row st → row.class ≡ Nf3 → is_repeat_f3 st.rep ≡ false
nf3_rep bits row st f e = elim (cases_Bool (is_vex_row row)) [
  | inr l ↦ nf3_legacy st row.class e (f.class l)
  | inl v ↦ (let x = f.vex v in absurd (nf3_vex row.class x.v e x.class))
]

repeat_suited : (bits : Bits) (ip : ℕ) (code : Code) (row : Row) (s : Spelling) (i : Instr) → Given bits ip code row s i → repeat_suits row i ≡ true
unfolding repeat_suits
repeat_suited bits ip code row s i g =
    let st = state_of bits row s in
    let kept = (kept_of bits ip code row s i g).rep in
    subst (λ (x : Rep). repeat_by row.class x (is_exchange_of_90 row i) ≡ true) (sym kept)
    (repeat_of_class row.class st.rep (is_exchange_of_90 row i) (exchange_no_f3 bits ip code row s i g) (nf3_rep bits row st (state_is bits row s g.fitting)))

-- **LOCK and the repeat prefix are allowed**
pub prefixes_suited : (bits : Bits) (ip : ℕ) (code : Code) (row : Row) (s : Spelling) (i : Instr) → Given bits ip code row s i → prefixes_suit row i ≡ true
unfolding prefixes_suit
prefixes_suited bits ip code row s i g =
    and_from (lock_suits row i) (repeat_suits row i) (lock_suited bits ip code row s i g) (repeat_suited bits ip code row s i g)

-- **the row exists in the mode**
pub row_stands : (bits : Bits) (ip : ℕ) (code : Code) (row : Row) (s : Spelling) (i : Instr) → Given bits ip code row s i → row_exists bits row ≡ true
row_stands bits ip code row s i g = g.fitting.mode
