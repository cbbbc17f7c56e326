-- Fitting spellings over the table that begin the same bytes are one spelling of one row.
use Rattle.std.proofs.Common.{◌≡◌, ℕ, true, List, ◌∷◌, ◌++◌, Option, Some, None, length, slice_get, refl, ap, sym, ◌∙◌, subst, append_assoc}
use Rattle.x86_values.specs.declared.Bits.{Bits}
use Rattle.instruction_parts.specs.declared.row_types.Row.{Row}
use Rattle.instruction_parts.specs.declared.spelling.ModRm.{ModRm}
use Rattle.instruction_parts.specs.declared.spelling.Spelling.{Spelling}
use Rattle.instruction_parts.specs.declared.spelling.PrefixState.{PrefixState}
use Rattle.instruction_parts.specs.Bytes.{bytes_of, front_bytes, tail_bytes, modrm_bytes, sib_bytes, state_of, state_from}
use Rattle.instruction_parts.specs.Front.{long_front}
use Rattle.row_fit.specs.Fits.{fits}
use Rattle.row_fit.proofs.FrontLaws.{front_law}
use Rattle.row_fit.proofs.FrontConverse.{same_state}
use Rattle.row_fit.proofs.TailLaws.{cancel_front}
use Rattle.row_fit.proofs.OneSpelling.{one_spelling}
use Rattle.instruction_parts.specs.declared.row_fields.Fields.{Fields}
use Rattle.instruction_parts.specs.RowFields.Holds.{holds}
use Rattle.opcode_rows.specs.Table.{table}
use Rattle.opcode_rows.proofs.Sound.{sound-row}
use Rattle.opcode_rows.proofs.Apart.{rows_apart}
use Rattle.opcode_rows.specs.UniqueSpelling.FieldsOf.{fields_of, first_byte}
use Rattle.opcode_rows.proofs.UniqueSpelling.Bridge.{NextIs, fit-holds, opcode-lt}

of_modrm : (m : Option ModRm) (more rest : List ℕ) → NextIs m (first_byte ((modrm_bytes m ++ more) ++ rest))
of_modrm None more rest = tt
of_modrm (Some m) more rest = refl

next-is : (s : Spelling) (rest : List ℕ) → NextIs s.modrm (first_byte (tail_bytes s ++ rest))
unfolding tail_bytes
next-is s rest = of_modrm s.modrm (sib_bytes s.sib ++ (s.disp.items ++ s.imm.items)) rest

-- the conditions of a row hold on the fields of each spelling that fits it
pub row-holds : (bits : Bits) (code : ℕ) (row : Row) (s : Spelling) (rest : List ℕ) → slice_get table code ≡ Some row → fits bits row s ≡ true
    → holds bits row (fields_of (state_of bits row s) (first_byte (tail_bytes s ++ rest))) ≡ true
row-holds bits code row s rest at h = fit-holds bits row s (first_byte (tail_bytes s ++ rest)) (sound-row code row at) h (next-is s rest)

parted : (row : Row) (s : Spelling) (rest : List ℕ) → bytes_of row s ++ rest ≡ front_bytes row s ++ (s.opcode ∷ (tail_bytes s ++ rest))
unfolding bytes_of
parted row s rest = append_assoc (front_bytes row s) (s.opcode ∷ tail_bytes s) rest

used-is : (bits : Bits) (q r : Row) (s t : Spelling) → state_of bits q s ≡ state_of bits r t → length (front_bytes q s) ≡ length (front_bytes r t)
unfolding state_of state_from
used-is bits q r s t h = ap (λ (x : PrefixState). x.used) h

tail_of_cons : (a b : ℕ) (xs ys : List ℕ) → a ∷ xs ≡ b ∷ ys → xs ≡ ys
tail_of_cons a b xs ys h = cc

some-inj : (q r : Row) → Some q ≡ Some r → q ≡ r
some-inj q r e = cc

-- two fitting spellings that begin the same bytes are of one row, and one spelling
pub unique : (bits : Bits) (j k : ℕ) (q r : Row) (s t : Spelling) (rest others : List ℕ)
    → slice_get table j ≡ Some q → slice_get table k ≡ Some r → fits bits q s ≡ true → fits bits r t ≡ true
    → bytes_of q s ++ rest ≡ bytes_of r t ++ others → (j ≡ k) × (s ≡ t) × (rest ≡ others)
unique bits j k q r s t rest others at-j at-k hs ht h =
    let state : state_of bits q s ≡ state_of bits r t =
    same_state _ _ (sym (front_law bits q s rest hs) ∙ ap (long_front bits) h ∙ front_law bits r t others ht) in
    let tails : tail_bytes s ++ rest ≡ tail_bytes t ++ others =
    tail_of_cons s.opcode t.opcode _ _
    (cancel_front (front_bytes q s) (front_bytes r t) _ _ (used-is bits q r s t state) (sym (parted q s rest) ∙ h ∙ parted r t others)).1 in
    let f : Fields = fields_of (state_of bits q s) (first_byte (tail_bytes s ++ rest)) in
    let first : holds bits q f ≡ true = row-holds bits j q s rest at-j hs in
    let second : holds bits r f ≡ true =
    subst (λ b. holds bits r (fields_of (state_of bits q s) (first_byte b)) ≡ true) (sym tails)
    (subst (λ (x : PrefixState). holds bits r (fields_of x (first_byte (tail_bytes t ++ others))) ≡ true) (sym state) (row-holds bits k r t others at-k ht)) in
    let code : j ≡ k = rows_apart bits f (opcode-lt bits q s (first_byte (tail_bytes s ++ rest)) hs) j k q r at-j at-k first second in
    let row : r ≡ q = some-inj r q (sym at-k ∙ ap (slice_get table) (sym code) ∙ at-j) in
    let one = one_spelling bits q s t rest others hs (subst (λ (x : Row). fits bits x t ≡ true) row ht)
    (h ∙ ap (λ (x : Row). bytes_of x t ++ others) row) in
    (code, one.0, one.1)
