-- What an instruction with a plain spelling at an address is: of its row's form, and made from its text.
use Rattle.std.proofs.Common.{◌≡◌, ◌⊎◌, inl, inr, ℕ, zero, suc, ◌+◌, ◌<◌, ◌≤◌, true, List, length, Some, refl, ap, sym, ◌∙◌, subst, arith, slice_get}
use Rattle.std.specs.Prelude.{IsTrue}
use Rattle.std.proofs.lemmas.Bool.{leb-true}
use Rattle.x86_values.specs.declared.Bits.{Bits}
use Rattle.x86_values.specs.declared.DispSize.{DispSize}
use Rattle.x86_values.specs.declared.DispSize.TheVariants.{D0}
use Rattle.x86_values.specs.declared.Mem.{Mem}
use Rattle.x86_values.specs.declared.Operand.{Operand}
use Rattle.x86_values.specs.declared.Operand.TheVariants.{Absent, Reg, Mem as MemOperand, Imm, Near, Far}
use Rattle.x86_values.specs.declared.Code.{Code}
use Rattle.x86_values.specs.declared.Instr.{Instr}
use Rattle.instruction_parts.specs.declared.row_types.Row.{Row}
use Rattle.instruction_parts.specs.declared.spelling.Spelling.{Spelling}
use Rattle.row_meaning.specs.Meaning.{meaning, instr_of}
use Rattle.opcode_rows.specs.declared.generated_spots.TheConstants.{ROWS}
use Rattle.opcode_rows.specs.Table.{table}
use Rattle.opcode_rows.specs.Allowed.{is_formed, is_well_formed}
use Rattle.opcode_rows.proofs.Formed.{well_formed-at}
use Rattle.opcode_rows.proofs.Sound.{sound-row}
use Rattle.plain_spelling.specs.Forms.{operand_at}
use Rattle.plain_spelling.proofs.Failures.{failure-suits}
use Rattle.row_relation.specs.Given.{Given}
use Rattle.row_relation.specs.PlainLaws.Plain.{IsPlainlySpelled}
use Rattle.row_relation.proofs.PlainLaws.Exact.{given_fit}
use Rattle.encoder.proofs.OverTable.{written_table, none_fails}
use Rattle.decoder.proofs.Formed.{meaning_formed}
use Rattle.text_parts.specs.Layout.{is_long, long_at, has_one_long}
use Rattle.text_rows.proofs.Long.{code_in_table, one_long}
use Rattle.intel_reader.specs.Candidate.{HasSize}

-- ---- the conditions

four_of_meaning : (bits : Bits) (ip : ℕ) (code : Code) (row : Row) (s : Spelling) → length (meaning bits ip code row s).ops ≡ 4
unfolding meaning instr_of
four_of_meaning bits ip code row s = refl

same_row : (code : ℕ) (row other : Row) → slice_get table code ≡ Some row → slice_get table code ≡ Some other → row ≡ other
same_row code row other a b = cc

-- what the reader of texts asks of an instruction of a row
pub record IsReady (bits : Bits) (ip : ℕ) (row : Row) (i : Instr) : Type 0 where
  pub given : Given bits ip row i
  pub formed : is_formed row i ≡ true
  pub well : IsTrue (is_well_formed i)
  pub below : i.code.0 < ROWS

-- an instruction with a plain spelling has everything that the reader needs
pub plain_is_ready : (bits : Bits) (ip : ℕ) (bytes : List ℕ) (row : Row) (i : Instr) → IsPlainlySpelled table bits ip bytes i → slice_get table i.code.0 ≡ Some row → IsReady bits ip row i
plain_is_ready bits ip bytes row i p at =
    let four : length i.ops ≡ 4 = subst (λ (x : Instr). length x.ops ≡ 4) p.means (four_of_meaning bits ip i.code p.row p.spelling) in
    let suits = failure-suits bits ip row i (none_fails bits ip bytes i (Some row) at p) in
    let formed_there : is_formed p.row i ≡ true = subst (λ (x : Instr). is_formed p.row x ≡ true) p.means (meaning_formed bits ip i.code p.row p.spelling (sound-row i.code.0 p.row p.row_is) p.fitting) in
    let formed : is_formed row i ≡ true = subst (λ (r : Row). is_formed r i ≡ true) (same_row i.code.0 p.row row p.row_is at) formed_there in
    let well : is_well_formed i ≡ true = well_formed-at i row at ∙ formed in
    record {
      given = given_fit table bits ip row i written_table at four suits.0;
      formed = formed;
      well = well;
      below = code_in_table i well;
    }

-- the same, with its row
pub row_there : (bits : Bits) (ip : ℕ) (bytes : List ℕ) (i : Instr) → IsPlainlySpelled table bits ip bytes i → (row : Row) × (slice_get table i.code.0 ≡ Some row) × IsReady bits ip row i
row_there bits ip bytes i p = (p.row, p.row_is, plain_is_ready bits ip bytes p.row i p p.row_is)

-- ---- the displacement size of its address

long_memory : (i : Instr) (n : ℕ) (m : Mem) → operand_at i n ≡ MemOperand m → long_at i n ≡ 1
unfolding is_long
long_memory i n m e = rw e refl

two_long : (i : Instr) (j k : ℕ) (m p : Mem) → IsTrue (has_one_long i) → j < 4 → k < 4 → operand_at i j ≡ MemOperand m → operand_at i k ≡ MemOperand p → j ≡ k
unfolding has_one_long
two_long i j k m p h jb kb ej ek = by_place j k jb kb (long_memory i j m ej) (long_memory i k p ek)
  where
    few : long_at i 0 + (long_at i 1 + (long_at i 2 + long_at i 3)) ≤ 1
    few = leb-true (long_at i 0 + (long_at i 1 + (long_at i 2 + long_at i 3))) 1 h

    by_place : (j k : ℕ) → j < 4 → k < 4 → long_at i j ≡ 1 → long_at i k ≡ 1 → j ≡ k
    by_place zero zero jb kb a b = refl
    by_place zero (suc zero) jb kb a b = absurd (omega (arith, few, a, b))
    by_place zero (suc (suc zero)) jb kb a b = absurd (omega (arith, few, a, b))
    by_place zero (suc (suc (suc zero))) jb kb a b = absurd (omega (arith, few, a, b))
    by_place (suc zero) zero jb kb a b = absurd (omega (arith, few, a, b))
    by_place (suc zero) (suc zero) jb kb a b = refl
    by_place (suc zero) (suc (suc zero)) jb kb a b = absurd (omega (arith, few, a, b))
    by_place (suc zero) (suc (suc (suc zero))) jb kb a b = absurd (omega (arith, few, a, b))
    by_place (suc (suc zero)) zero jb kb a b = absurd (omega (arith, few, a, b))
    by_place (suc (suc zero)) (suc zero) jb kb a b = absurd (omega (arith, few, a, b))
    by_place (suc (suc zero)) (suc (suc zero)) jb kb a b = refl
    by_place (suc (suc zero)) (suc (suc (suc zero))) jb kb a b = absurd (omega (arith, few, a, b))
    by_place (suc (suc (suc zero))) zero jb kb a b = absurd (omega (arith, few, a, b))
    by_place (suc (suc (suc zero))) (suc zero) jb kb a b = absurd (omega (arith, few, a, b))
    by_place (suc (suc (suc zero))) (suc (suc zero)) jb kb a b = absurd (omega (arith, few, a, b))
    by_place (suc (suc (suc zero))) (suc (suc (suc zero))) jb kb a b = refl
    by_place (suc (suc (suc (suc j)))) k jb kb a b = absurd (omega arith)
    by_place j (suc (suc (suc (suc k)))) jb kb a b = absurd (omega arith)

same_memory : (m p : Mem) → MemOperand m ≡ MemOperand p → m ≡ p
same_memory m p e = cc

-- the size of the address that is operand n
size_at : (i : Instr) (n : ℕ) (m : Mem) → IsTrue (has_one_long i) → n < 4 → operand_at i n ≡ MemOperand m → HasSize m.disp_size i
size_at i n m h below e = λ k kb p ek.
    let same : k ≡ n = two_long i k n p m h kb below ek e in
    let here : operand_at i n ≡ MemOperand p = subst (λ (z : ℕ). operand_at i z ≡ MemOperand p) same ek in
    ap (λ (x : Mem). x.disp_size) (same_memory p m (sym here ∙ e))

-- the operand is no address, or the address of the instruction has a size
size_or_none : (i : Instr) (n : ℕ) (op : Operand) → IsTrue (has_one_long i) → n < 4 → operand_at i n ≡ op → ((size : DispSize) × HasSize size i) ⊎ ((m : Mem) → operand_at i n ≡ MemOperand m → ⊥)
size_or_none i n Absent h below e = inr (λ m k. cc)
size_or_none i n (Reg r) h below e = inr (λ m k. cc)
size_or_none i n (MemOperand m) h below e = inl (m.disp_size, size_at i n m h below e)
size_or_none i n (Imm x) h below e = inr (λ m k. cc)
size_or_none i n (Near x) h below e = inr (λ m k. cc)
size_or_none i n (Far s o) h below e = inr (λ m k. cc)

abbrev NoAddress : Instr → ℕ → Type 0
NoAddress i n = (m : Mem) → operand_at i n ≡ MemOperand m → ⊥

no_address : (i : Instr) → NoAddress i 0 → NoAddress i 1 → NoAddress i 2 → NoAddress i 3 → HasSize D0 i
no_address i a b c d zero below m e = absurd (a m e)
no_address i a b c d (suc zero) below m e = absurd (b m e)
no_address i a b c d (suc (suc zero)) below m e = absurd (c m e)
no_address i a b c d (suc (suc (suc zero))) below m e = absurd (d m e)
no_address i a b c d (suc (suc (suc (suc n)))) below m e = absurd (omega arith)

-- **the addresses of a well-formed instruction have one displacement size**
pub size_there : (i : Instr) → IsTrue (is_well_formed i) → (size : DispSize) × HasSize size i
size_there i well =
    let h = one_long i well in
    elim (size_or_none i 0 (operand_at i 0) h (omega arith) refl) [
      | inl there ↦ there
      | inr a ↦ (elim (size_or_none i 1 (operand_at i 1) h (omega arith) refl) [
        | inl there ↦ there
        | inr b ↦ (elim (size_or_none i 2 (operand_at i 2) h (omega arith) refl) [
          | inl there ↦ there
          | inr c ↦ (elim (size_or_none i 3 (operand_at i 3) h (omega arith) refl) [
            | inl there ↦ there
            | inr d ↦ (D0, no_address i a b c d)
          ])
        ])
      ])
    ]
