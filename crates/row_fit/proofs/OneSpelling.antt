-- Bytes have at most one spelling of a row.
use Rattle.std.proofs.Common.{◌≡◌, ℕ, true, ◌&&◌, ◌==◌, List, ◌∷◌, ◌++◌, length, Option, ap, sym, ◌∙◌, subst, append_assoc, is_some}
use Rattle.std.proofs.lemmas.Bool.{and_parts, eqb-true}
use Rattle.x86_values.specs.declared.Bits.{Bits}
use Rattle.instruction_parts.specs.declared.row_types.Row.{Row}
use Rattle.instruction_parts.specs.declared.spelling.Vex.{Vex}
use Rattle.instruction_parts.specs.declared.spelling.ModRm.{ModRm}
use Rattle.instruction_parts.specs.declared.spelling.Sib.{Sib}
use Rattle.instruction_parts.specs.declared.spelling.Spelling.{Spelling}
use Rattle.instruction_parts.specs.declared.spelling.PrefixState.{PrefixState}
use Rattle.instruction_parts.specs.Sizes.{state_size, state_address_size}
use Rattle.instruction_parts.specs.Bytes.{bytes_of, front_bytes, tail_bytes, lead_bytes, modrm_bytes, sib_bytes, state_of, state_from}
use Rattle.instruction_parts.specs.Front.{prefix_run, long_front}
use Rattle.row_fit.specs.Fits.{fits, Fits, prefixes_fit, opcode_and_modrm_fit, opcode_fits, modrm_rule_fits, place_fits, lengths_fit, address_fits, immediates_bytes, modrm_in_range, sib_in_range}
use Rattle.row_fit.proofs.FitLaws.{all_conditions, modrm_stands, modrm_range, sib_range}
use Rattle.row_fit.proofs.FrontLaws.{front_law, run_law}
use Rattle.row_fit.proofs.FrontConverse.{same_state}
use Rattle.row_fit.proofs.TailLaws.{cancel_front, same_modrm_option, same_sib_option, sib_alike, displacement_alike}

-- what two tails share
record SameTail (m n : Option ModRm) (s t : Option Sib) (d e i j more others : List ℕ) : Type 0 where
  modrm : m ≡ n
  sib : s ≡ t
  disp : d ≡ e
  imm : i ≡ j
  rest : more ≡ others

same_tail : (bits : Bits) (row : Row) (state : PrefixState) (m n : Option ModRm) (s t : Option Sib) (d e i j more others : List ℕ) → is_some m ≡ is_some n → lengths_fit bits row state m s (length d) (length i) ≡ true → lengths_fit bits row state n t (length e) (length j) ≡ true → modrm_in_range m ≡ true → modrm_in_range n ≡ true → sib_in_range s ≡ true → sib_in_range t ≡ true → modrm_bytes m ++ (sib_bytes s ++ (d ++ (i ++ more))) ≡ modrm_bytes n ++ (sib_bytes t ++ (e ++ (j ++ others))) → SameTail m n s t d e i j more others
unfolding lengths_fit
same_tail bits row state m n s t d e i j more others alike ls lt hm hn hs ht h =
    let asize = state_address_size bits state in
    let size = immediates_bytes (state_size bits row state) row in
    let at1 = (and_parts (address_fits asize row m s (length d)) (length i == size) ls).0 in
    let at = (and_parts (address_fits asize row n t (length e)) (length j == size) lt).0 in
    let il = eqb-true (length i) size (and_parts (address_fits asize row m s (length d)) (length i == size) ls).1 in
    let jl = eqb-true (length j) size (and_parts (address_fits asize row n t (length e)) (length j == size) lt).1 in
    let first = same_modrm_option m n _ _ alike hm hn h in
    let at2 = subst (λ (x : Option ModRm). address_fits asize row x t (length e) ≡ true) (sym first.0) at in
    let second = same_sib_option s t _ _ (sib_alike asize row m s t (length d) (length e) at1 at2) hs ht first.1 in
    let at3 = subst (λ (x : Option Sib). address_fits asize row m x (length e) ≡ true) (sym second.0) at2 in
    let third = cancel_front d e _ _ (displacement_alike asize row m s (length d) (length e) at1 at3) second.1 in
    let fourth = cancel_front i j more others (il ∙ sym jl) third.1 in
    record { modrm = first.0; sib = second.0; disp = third.0; imm = fourth.0; rest = fourth.1 }

-- a spelling of its parts
abbrev pub spelled : List ℕ → Option Vex → ℕ → Option ModRm → Option Sib → List ℕ → List ℕ → Spelling
spelled ps vex o m s d i = record {
  prefixes = record { items = ps };
  vex = vex;
  opcode = o;
  modrm = m;
  sib = s;
  disp = record { items = d };
  imm = record { items = i };
}

same_spelled : (ps ps' : List ℕ) (v v' : Option Vex) (o o' : ℕ) (m m' : Option ModRm) (s s' : Option Sib) (d d' i i' : List ℕ) → ps ≡ ps' → v ≡ v' → o ≡ o' → m ≡ m' → s ≡ s' → d ≡ d' → i ≡ i' → spelled ps v o m s d i ≡ spelled ps' v' o' m' s' d' i'
same_spelled ps ps' v v' o o' m m' s s' d d' i i' e1 e2 e3 e4 e5 e6 e7 = cc

-- the bytes of a spelling, part by part
pub all_parted : (row : Row) (s : Spelling) (rest : List ℕ) → bytes_of row s ++ rest ≡ s.prefixes.items ++ (lead_bytes row.map s.vex ++ (s.opcode ∷ (modrm_bytes s.modrm ++ (sib_bytes s.sib ++ (s.disp.items ++ (s.imm.items ++ rest))))))
unfolding bytes_of front_bytes tail_bytes
all_parted row s rest = simp append_assoc

prefixes_are : (bits : Bits) (row : Row) (s : Spelling) (rest : List ℕ) → Fits bits row s → prefix_run bits (bytes_of row s ++ rest) ≡ s.prefixes.items
unfolding prefixes_fit
prefixes_are bits row s rest f =
    rw (all_parted row s rest) (run_law bits row s.prefixes.items s.vex s.opcode s.modrm _ f.prefixes f.vex)

rule_fits : (row : Row) (o : ℕ) (m : Option ModRm) → opcode_and_modrm_fit row o m ≡ true → modrm_rule_fits row.plus row.modrm m ≡ true
unfolding opcode_and_modrm_fit
rule_fits row o m h =
    (and_parts (modrm_rule_fits row.plus row.modrm m) (place_fits row m) (and_parts (opcode_fits row o) (modrm_rule_fits row.plus row.modrm m && place_fits row m) h).1).0

state_vex : (bits : Bits) (row : Row) (s t : Spelling) → state_of bits row s ≡ state_of bits row t → s.vex ≡ t.vex
unfolding state_of state_from
state_vex bits row s t h = ap (λ (x : PrefixState). x.vex) h

state_opcode : (bits : Bits) (row : Row) (s t : Spelling) → state_of bits row s ≡ state_of bits row t → s.opcode ≡ t.opcode
unfolding state_of state_from
state_opcode bits row s t h = ap (λ (x : PrefixState). x.opcode) h

tail_of_cons : (a b : ℕ) (xs ys : List ℕ) → a ∷ xs ≡ b ∷ ys → xs ≡ ys
tail_of_cons a b xs ys h = cc

-- **fitting spellings of one row that begin the same bytes are one spelling**
pub one_spelling : (bits : Bits) (row : Row) (s t : Spelling) (rest others : List ℕ) → fits bits row s ≡ true → fits bits row t ≡ true → bytes_of row s ++ rest ≡ bytes_of row t ++ others → (s ≡ t) × (rest ≡ others)
one_spelling bits row s t rest others hs ht h =
    let fs = all_conditions bits row s hs in
    let ft = all_conditions bits row t ht in
    let state : state_of bits row s ≡ state_of bits row t =
    same_state _ _ (sym (front_law bits row s rest hs) ∙ ap (long_front bits) h ∙ front_law bits row t others ht) in
    let ps = sym (prefixes_are bits row s rest fs) ∙ ap (prefix_run bits) h ∙ prefixes_are bits row t others ft in
    let vex = state_vex bits row s t state in
    let opcode = state_opcode bits row s t state in
    let parted = sym (all_parted row s rest) ∙ h ∙ all_parted row t others in
    let one = cancel_front s.prefixes.items t.prefixes.items _ _ (ap length ps) parted in
    let two = cancel_front (lead_bytes row.map s.vex) (lead_bytes row.map t.vex) _ _ (ap (λ (v : Option Vex). length (lead_bytes row.map v)) vex) one.1 in
    let lt = subst (λ (x : PrefixState). lengths_fit bits row x t.modrm t.sib (length t.disp.items) (length t.imm.items) ≡ true) (sym state) ft.lengths in
    let tails = same_tail bits row (state_of bits row s) s.modrm t.modrm s.sib t.sib s.disp.items t.disp.items s.imm.items t.imm.items rest others
    (modrm_stands row.plus row.modrm s.modrm (rule_fits row s.opcode s.modrm fs.opcode) ∙ sym (modrm_stands row.plus row.modrm t.modrm (rule_fits row t.opcode t.modrm ft.opcode)))
    fs.lengths lt (modrm_range s fs.ranges) (modrm_range t ft.ranges) (sib_range s fs.ranges) (sib_range t ft.ranges)
    (tail_of_cons s.opcode t.opcode _ _ two.1) in (
      same_spelled s.prefixes.items t.prefixes.items s.vex t.vex s.opcode t.opcode s.modrm t.modrm s.sib t.sib s.disp.items t.disp.items s.imm.items t.imm.items
          ps vex opcode tails.modrm tails.sib tails.disp tails.imm,
      tails.rest,
    )
