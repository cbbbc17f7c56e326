-- What a fitting tail is, and that it is what stands behind the front of a fitting spelling.
use Rattle.std.proofs.Common.{◌≡◌, inl, inr, ℕ, ◌+◌, Bool, true, false, ◌&&◌, not, ◌==◌, List, [], ◌∷◌, ◌++◌, length, Option, Some, None, refl, ap, sym, ◌∙◌, subst, arith, append_assoc, length-append, if◌then◌else◌, is_some, is_none, nat_lt, eq-eqb}
use Rattle.std.proofs.lemmas.Bool.{and_parts, cases_Bool, eqb-true, not-true}
use Rattle.x86_values.specs.declared.Bits.{Bits}
use Rattle.instruction_parts.specs.declared.row_types.Map.{Map}
use Rattle.instruction_parts.specs.declared.row_types.Row.{Row}
use Rattle.instruction_parts.specs.declared.spelling.Vex.{Vex}
use Rattle.instruction_parts.specs.declared.spelling.ModRm.{ModRm}
use Rattle.instruction_parts.specs.declared.spelling.Sib.{Sib}
use Rattle.instruction_parts.specs.declared.spelling.Spelling.{Spelling}
use Rattle.instruction_parts.specs.declared.spelling.PrefixState.{PrefixState}
use Rattle.instruction_parts.specs.Sizes.{is_vex_row, state_size, state_address_size, size_bytes}
use Rattle.instruction_parts.specs.Bytes.{bytes_of, front_bytes, tail_bytes, lead_bytes, escape_bytes, modrm_bytes, sib_bytes, spelled_map, state_of, state_from}
use Rattle.instruction_parts.specs.Front.{forbids_vex, long_front, Known}
use Rattle.row_fit.specs.Fits.{fits, Fits, mode_fits, class_fits, sizes_fit, prefixes_fit, vex_fits, opcode_is_kept, is_opcode, opcode_allows, is_vex_of_mode, same_map, same_bool, opcode_and_modrm_fit, opcode_fits, modrm_rule_fits, place_fits, lengths_fit, address_fits, reads_mode, reads_by, is_offset, needs_sib, displacement_bytes, immediates_bytes, lock_fits, registers_fit, state_fits, tail_fits, are_bytes, vex_in_range, modrm_in_range, sib_in_range, fields_in_range}
use Rattle.row_fit.specs.Sound.{has_modrm_rule}
use Rattle.row_fit.proofs.FitLaws.{all_conditions, modrm_stands, ranges_behind}
use Rattle.row_fit.proofs.FrontLaws.{front_law}
use Rattle.row_fit.proofs.FrontConverse.{same_state}
use Rattle.row_fit.proofs.OneSpelling.{spelled, all_parted}
use Rattle.row_fit.proofs.SameMap.{same_map-is, same_map-refl}
use Rattle.row_fit.proofs.TailLaws.{cancel_front}
use Rattle.modrm_sib.specs.Parts.{takes_sib, displacement_len, lead_fits, parts_fit}
use Rattle.row_fit.specs.FrontParts.{LeadIsProper, Parted}

-- two tests that hold hold together
pub both : (a b : Bool) → a ≡ true → b ≡ true → (a && b) ≡ true
both true b ha hb = hb
both false b ha hb = ha

-- a ModRM asks for a SIB
abbrev pub asks_sib : Bits → Row → PrefixState → Option ModRm → Bool
asks_sib bits row state None = false
asks_sib bits row state (Some m) = takes_sib bits row state m

-- a tail that fits behind the state
pub record TailFits (bits : Bits) (row : Row) (state : PrefixState) (m : Option ModRm) (sib : Option Sib) (disp imm : List ℕ) : Type 0 where
  pub parts : parts_fit bits row state m sib ≡ true
  pub sib_is : is_some sib ≡ asks_sib bits row state m
  pub disp_len : length disp ≡ displacement_len bits row state m sib
  pub imm_len : length imm ≡ immediates_bytes (state_size bits row state) row
  pub modrm_range : modrm_in_range m ≡ true
  pub sib_range : sib_in_range sib ≡ true
  pub disp_bytes : are_bytes disp ≡ true
  pub imm_bytes : are_bytes imm ≡ true

-- its bytes, with others behind them
abbrev pub whole : Option ModRm → Option Sib → List ℕ → List ℕ → List ℕ → List ℕ
whole m sib disp imm behind = modrm_bytes m ++ (sib_bytes sib ++ (disp ++ (imm ++ behind)))

-- ---- lengths

same_from : (a b : Bool) → same_bool a b ≡ true → a ≡ b
same_from true b h = sym h
same_from false b h = sym (not-true b h)

same_to : (a b : Bool) → a ≡ b → same_bool a b ≡ true
same_to true b h = sym h
same_to false b h = rw (sym h) refl

none_is : (o : Option Sib) → is_none o ≡ true → is_some o ≡ false
none_is None h = refl
none_is (Some s) h = cc

is_none_from : (o : Option Sib) → is_some o ≡ false → is_none o ≡ true
is_none_from None h = refl
is_none_from (Some s) h = cc

-- SIB and displacement are as long as asked
address_parts : (bits : Bits) (row : Row) (state : PrefixState) (m : Option ModRm) (sib : Option Sib) (d : ℕ) → address_fits (state_address_size bits state) row m sib d ≡ true → (is_some sib ≡ asks_sib bits row state m) × (d ≡ displacement_len bits row state m sib)
unfolding address_fits takes_sib displacement_len
address_parts bits row state None sib d h =
    let n : ℕ = if reads_by is_offset row then size_bytes (state_address_size bits state) else 0 in
    (none_is sib (and_parts (is_none sib) (d == n) h).0, eqb-true d n (and_parts (is_none sib) (d == n) h).1)
address_parts bits row state (Some m) sib d h =
    let asize = state_address_size bits state in
    elim (cases_Bool (reads_mode row)) [
      | inl reads ↦
          let k : (same_bool (is_some sib) (needs_sib asize m) && d == displacement_bytes asize m sib) ≡ true = rw reads at h in
          rw reads (
            same_from (is_some sib) (needs_sib asize m) (and_parts (same_bool (is_some sib) (needs_sib asize m)) (d == displacement_bytes asize m sib) k).0,
            eqb-true d (displacement_bytes asize m sib) (and_parts (same_bool (is_some sib) (needs_sib asize m)) (d == displacement_bytes asize m sib) k).1,
          )
      | inr other ↦
          let k : (is_none sib && d == 0) ≡ true = rw other at h in
          rw other (none_is sib (and_parts (is_none sib) (d == 0) k).0, eqb-true d 0 (and_parts (is_none sib) (d == 0) k).1)
    ]

same_number : (n : ℕ) → (n == n) ≡ true
same_number n = eq-eqb n n refl

-- and the converse
address_back : (bits : Bits) (row : Row) (state : PrefixState) (m : Option ModRm) (sib : Option Sib) → is_some sib ≡ asks_sib bits row state m → address_fits (state_address_size bits state) row m sib (displacement_len bits row state m sib) ≡ true
unfolding address_fits takes_sib displacement_len
address_back bits row state None sib h =
    both (is_none sib) _ (is_none_from sib h) (same_number (if reads_by is_offset row then size_bytes (state_address_size bits state) else 0))
address_back bits row state (Some m) sib h =
    let asize = state_address_size bits state in
    elim (cases_Bool (reads_mode row)) [
      | inl reads ↦
          let k : is_some sib ≡ needs_sib asize m = rw reads at h in
          rw reads (both (same_bool (is_some sib) (needs_sib asize m)) _ (same_to (is_some sib) (needs_sib asize m) k) (same_number (displacement_bytes asize m sib)))
      | inr other ↦
          let k : is_some sib ≡ false = rw other at h in
          rw other (both (is_none sib) _ (is_none_from sib k) refl)
    ]

-- ---- the lead

-- a fitting VEX, or none, has the row's lead
lead_from : (bits : Bits) (row : Row) (ps : List ℕ) (used : ℕ) (vex : Option Vex) (o : ℕ) (m : Option ModRm) → vex_fits bits row ps vex o m ≡ true → lead_fits bits row (state_from bits ps used vex (spelled_map row.map vex) o) m ≡ true
unfolding lead_fits vex_fits state_from opcode_is_kept
lead_from bits row ps used None o m h =
    let legacy = (and_parts (not (is_vex_row row)) (is_opcode bits row.map o && opcode_allows bits row.map o m) h).0 in
    let kept = (and_parts (not (is_vex_row row)) (is_opcode bits row.map o && opcode_allows bits row.map o m) h).1 in
    both (same_map row.map row.map) (not (is_vex_row row) && opcode_allows bits row.map o m) (same_map-refl row.map)
    (both (not (is_vex_row row)) (opcode_allows bits row.map o m) legacy (and_parts (is_opcode bits row.map o) (opcode_allows bits row.map o m) kept).1)
lead_from bits row ps used (Some v) o m h =
    let rest = not (forbids_vex bits ps) && is_vex_of_mode bits v in
    both (same_map v.map row.map) (is_vex_row row)
    (and_parts (same_map v.map row.map) rest (and_parts (is_vex_row row) (same_map v.map row.map && rest) h).1).0
    (and_parts (is_vex_row row) (same_map v.map row.map && rest) h).0

-- what the lead of a row says
abbrev lead_test : Bits → Row → Option Vex → Map → ℕ → Option ModRm → Bool
lead_test bits row vex map o m =
    same_map map row.map
    && elim vex [ None ↦ not (is_vex_row row) && opcode_allows bits row.map o m | Some v ↦ is_vex_row row ]

lead_map : (bits : Bits) (row : Row) (vex : Option Vex) (map : Map) (o : ℕ) (m : Option ModRm) → lead_test bits row vex map o m ≡ true → map ≡ row.map
lead_map bits row vex map o m h =
    same_map-is map row.map (and_parts (same_map map row.map) (elim vex [ None ↦ not (is_vex_row row) && opcode_allows bits row.map o m | Some v ↦ is_vex_row row ]) h).0

false_not : (b : Bool) → b ≡ false → not b ≡ true
false_not b h = rw h refl

-- the row's lead is a fitting VEX, or none
lead_back : (bits : Bits) (row : Row) (ps : List ℕ) (vex : Option Vex) (map : Map) (o : ℕ) (m : Option ModRm) (rest : List ℕ) → lead_test bits row vex map o m ≡ true → LeadIsProper bits ps vex map o rest → vex_fits bits row ps vex o m ≡ true
unfolding vex_fits opcode_is_kept
lead_back bits row ps None map o m rest h p =
    let legacy = not (is_vex_row row) in
    let allows = opcode_allows bits row.map o m in
    let one = subst (λ (x : Map). is_opcode bits x o ≡ true) (lead_map bits row None map o m h) p.is_one in
    let k = (and_parts (same_map map row.map) (legacy && allows) h).1 in
    both legacy (is_opcode bits row.map o && allows) (and_parts legacy allows k).0
    (both (is_opcode bits row.map o) allows one (and_parts legacy allows k).1)
lead_back bits row ps (Some v) map o m rest h p =
    let same = subst (λ (x : Map). same_map x row.map ≡ true) (sym p.map_is) (and_parts (same_map map row.map) (is_vex_row row) h).0 in
    both (is_vex_row row) (same_map v.map row.map && (not (forbids_vex bits ps) && is_vex_of_mode bits v)) (and_parts (same_map map row.map) (is_vex_row row) h).1
    (both (same_map v.map row.map) (not (forbids_vex bits ps) && is_vex_of_mode bits v) same
    (both (not (forbids_vex bits ps)) (is_vex_of_mode bits v) (false_not (forbids_vex bits ps) p.is_allowed) p.is_of_mode))

lead_at : (map map' : Map) (v : Option Vex) → spelled_map map v ≡ map' → lead_bytes map v ≡ lead_bytes map' v
unfolding lead_bytes
lead_at map map' None h = ap escape_bytes h
lead_at map map' (Some v) h = refl

-- the bytes of the lead follow from VEX and map
same_lead : (map map' : Map) (vex vex' : Option Vex) → vex ≡ vex' → spelled_map map vex ≡ map' → lead_bytes map vex ≡ lead_bytes map' vex'
same_lead map map' vex vex' e h = lead_at map map' vex h ∙ ap (λ (v : Option Vex). lead_bytes map' v) e

-- ---- a row's own tests

-- what the parts of a fitting tail meet
record PartsFit (bits : Bits) (row : Row) (state : PrefixState) (m : Option ModRm) (sib : Option Sib) : Type 0 where
  state_fits : state_fits bits row state ≡ true
  lead : lead_fits bits row state m ≡ true
  opcode : opcode_and_modrm_fit row state.opcode m ≡ true
  lock : lock_fits row state m ≡ true
  registers : registers_fit bits row state m sib ≡ true

parts_of : (bits : Bits) (row : Row) (state : PrefixState) (m : Option ModRm) (sib : Option Sib) → parts_fit bits row state m sib ≡ true → PartsFit bits row state m sib
unfolding parts_fit
parts_of bits row state m sib h =
    let a = state_fits bits row state in
    let b = lead_fits bits row state m in
    let o = opcode_and_modrm_fit row state.opcode m in
    let k = lock_fits row state m in
    let g = registers_fit bits row state m sib in
    let h1 = (and_parts a (b && (o && (k && g))) h).1 in
    let h2 = (and_parts b (o && (k && g)) h1).1 in
    let h3 = (and_parts o (k && g) h2).1 in
    record {
      state_fits = (and_parts a (b && (o && (k && g))) h).0;
      lead = (and_parts b (o && (k && g)) h1).0;
      opcode = (and_parts o (k && g) h2).0;
      lock = (and_parts k g h3).0;
      registers = (and_parts k g h3).1;
    }

parts_back : (bits : Bits) (row : Row) (state : PrefixState) (m : Option ModRm) (sib : Option Sib) → PartsFit bits row state m sib → parts_fit bits row state m sib ≡ true
unfolding parts_fit
parts_back bits row state m sib p =
    let b = lead_fits bits row state m in
    let o = opcode_and_modrm_fit row state.opcode m in
    let k = lock_fits row state m in
    let g = registers_fit bits row state m sib in
    both (state_fits bits row state) (b && (o && (k && g))) p.state_fits
    (both b (o && (k && g)) p.lead (both o (k && g) p.opcode (both k g p.lock p.registers)))

rule_of : (row : Row) (o : ℕ) (m : Option ModRm) → opcode_and_modrm_fit row o m ≡ true → is_some m ≡ has_modrm_rule row.modrm
unfolding opcode_and_modrm_fit
rule_of row o m h =
    modrm_stands row.plus row.modrm m (and_parts (modrm_rule_fits row.plus row.modrm m) (place_fits row m)
    (and_parts (opcode_fits row o) (modrm_rule_fits row.plus row.modrm m && place_fits row m) h).1).0

-- the ModRM of a fitting tail stands exactly where the row has one
pub modrm_is : (bits : Bits) (row : Row) (state : PrefixState) (m : Option ModRm) (sib : Option Sib) → parts_fit bits row state m sib ≡ true → is_some m ≡ has_modrm_rule row.modrm
modrm_is bits row state m sib h = rule_of row state.opcode m (parts_of bits row state m sib h).opcode

-- ---- from a spelling to its tail

-- the tests of a fitting spelling that its state and its tail decide
fits_of_tail : (bits : Bits) (row : Row) (s : Spelling) → Fits bits row s → PartsFit bits row (state_of bits row s) s.modrm s.sib
unfolding state_fits state_of state_from
fits_of_tail bits row s f = record {
  state_fits = both (mode_fits bits row) _ f.mode (both (class_fits row (state_of bits row s)) _ f.class (both (sizes_fit bits row (state_of bits row s)) _ f.sizes f.vvvv));
  lead = lead_from bits row s.prefixes.items (length (front_bytes row s)) s.vex s.opcode s.modrm f.vex;
  opcode = f.opcode;
  lock = f.lock;
  registers = f.registers;
}

-- the tail of a fitting spelling fits behind its state
own_tail : (bits : Bits) (row : Row) (s : Spelling) → fits bits row s ≡ true → TailFits bits row (state_of bits row s) s.modrm s.sib s.disp.items s.imm.items
unfolding lengths_fit
own_tail bits row s h =
    let f = all_conditions bits row s h in
    let state = state_of bits row s in
    let i = immediates_bytes (state_size bits row state) row in
    let address = address_fits (state_address_size bits state) row s.modrm s.sib (length s.disp.items) in
    let a = address_parts bits row state s.modrm s.sib (length s.disp.items) (and_parts address (length s.imm.items == i) f.lengths).0 in
    let b = ranges_behind s f.ranges in
    record {
      parts = parts_back bits row state s.modrm s.sib (fits_of_tail bits row s f);
      sib_is = a.0;
      disp_len = a.1;
      imm_len = eqb-true (length s.imm.items) i (and_parts address (length s.imm.items == i) f.lengths).1;
      modrm_range = b.modrm;
      sib_range = b.sib;
      disp_bytes = b.disp;
      imm_bytes = b.imm;
    }

-- what is equal in two states that are equal
state_lead : (bits : Bits) (row : Row) (s : Spelling) (state : PrefixState) → state_of bits row s ≡ state → lead_bytes row.map s.vex ≡ lead_bytes state.map state.vex
unfolding state_of state_from
state_lead bits row s state h =
    same_lead row.map state.map s.vex state.vex (ap (λ (x : PrefixState). x.vex) h) (ap (λ (x : PrefixState). x.map) h)

state_used : (bits : Bits) (row : Row) (s : Spelling) (state : PrefixState) → state_of bits row s ≡ state → length (s.prefixes.items ++ lead_bytes row.map s.vex) ≡ state.used
unfolding state_of state_from front_bytes
state_used bits row s state h = ap (λ (x : PrefixState). x.used) h

-- the state of a front uses its prefixes, its VEX or escape bytes
pub used_is : (bits : Bits) (ps : List ℕ) (state : PrefixState) → state ≡ state_from bits ps (length ps + length (lead_bytes state.map state.vex)) state.vex state.map state.opcode → state.used ≡ length ps + length (lead_bytes state.map state.vex)
unfolding state_from
used_is bits ps state h = ap (λ (x : PrefixState). x.used) h

same_tail : (a b : ℕ) (xs ys : List ℕ) → a ∷ xs ≡ b ∷ ys → xs ≡ ys
same_tail a b xs ys h = cc

-- lists that stand before equal lists are as long
cancel_length : (a b c d : List ℕ) (n : ℕ) → length (a ++ c) ≡ n → n ≡ length b + length d → c ≡ d → length a ≡ length b
cancel_length a b c d n h k e = let l = length-append a c in let m = ap length e in omega arith

-- what a spelling and its tail are
pub record TailOf (bits : Bits) (row : Row) (state : PrefixState) (rest more behind : List ℕ) (s : Spelling) : Type 0 where
  pub fitting : TailFits bits row state s.modrm s.sib s.disp.items s.imm.items
  pub whole_is : whole s.modrm s.sib s.disp.items s.imm.items behind ≡ rest ++ more

-- **a fitting spelling that shares the front of some bytes has a fitting tail that begins with what stands behind it**
pub tail_of_spelling : (bits : Bits) (row : Row) (bytes : List ℕ) (state : PrefixState) (p : Parted bits bytes state) (s : Spelling) (more behind : List ℕ) → fits bits row s ≡ true → long_front bits (bytes ++ more) ≡ Known state → bytes_of row s ++ behind ≡ bytes ++ more → TailOf bits row state p.rest more behind s
tail_of_spelling bits row bytes state p s more behind h front e =
    let same : state_of bits row s ≡ state = same_state _ _ (sym (front_law bits row s behind h) ∙ ap (long_front bits) e ∙ front) in
    let lead = state_lead bits row s state same in
    let lengths = cancel_length s.prefixes.items p.prefixes (lead_bytes row.map s.vex) (lead_bytes state.map state.vex) state.used (state_used bits row s state same) (used_is bits p.prefixes state p.state_is) lead in
    let shown : bytes ++ more ≡ p.prefixes ++ (lead_bytes state.map state.vex ++ (state.opcode ∷ (p.rest ++ more))) =
    ap (λ (x : List ℕ). x ++ more) p.bytes_are ∙ simp append_assoc in
    let parted = sym (all_parted row s behind) ∙ e ∙ shown in
    let one = cancel_front s.prefixes.items p.prefixes _ _ lengths parted in
    let two = cancel_front (lead_bytes row.map s.vex) (lead_bytes state.map state.vex) _ _ (ap length lead) one.1 in
    record {
      fitting = subst (λ (x : PrefixState). TailFits bits row x s.modrm s.sib s.disp.items s.imm.items) same (own_tail bits row s h);
      whole_is = same_tail s.opcode state.opcode _ _ two.1;
    }

-- ---- from a tail to its spelling

fits_from : (bits : Bits) (row : Row) (s : Spelling) (state : PrefixState) → state_of bits row s ≡ state → state_fits bits row state ≡ true → prefixes_fit bits s.prefixes.items ≡ true → vex_fits bits row s.prefixes.items s.vex s.opcode s.modrm ≡ true → tail_fits bits row state s.modrm s.sib (length s.disp.items) (length s.imm.items) ≡ true → fields_in_range s ≡ true → fits bits row s ≡ true
unfolding fits
fits_from bits row s state e a p v t r =
    rw e (both (state_fits bits row state) _ a (both (prefixes_fit bits s.prefixes.items) _ p
    (both (vex_fits bits row s.prefixes.items s.vex s.opcode s.modrm) _ v (both (tail_fits bits row state s.modrm s.sib (length s.disp.items) (length s.imm.items)) _ t r))))

tail_from : (bits : Bits) (row : Row) (state : PrefixState) (m : Option ModRm) (sib : Option Sib) (d i : List ℕ) → TailFits bits row state m sib d i → tail_fits bits row state m sib (length d) (length i) ≡ true
unfolding tail_fits lengths_fit
tail_from bits row state m sib d i t =
    let p = parts_of bits row state m sib t.parts in
    let address : address_fits (state_address_size bits state) row m sib (length d) ≡ true =
    subst (λ (n : ℕ). address_fits (state_address_size bits state) row m sib n ≡ true) (sym t.disp_len) (address_back bits row state m sib t.sib_is) in
    both (opcode_and_modrm_fit row state.opcode m) _ p.opcode
    (both (address_fits (state_address_size bits state) row m sib (length d) && length i == immediates_bytes (state_size bits row state) row) _
    (both (address_fits (state_address_size bits state) row m sib (length d)) _ address (eq-eqb (length i) (immediates_bytes (state_size bits row state) row) t.imm_len))
    (both (lock_fits row state m) _ p.lock p.registers))

-- ---- bytes

-- the first of two joined lists of bytes is a list of bytes
pub are_bytes-left : (xs ys : List ℕ) → are_bytes (xs ++ ys) ≡ true → are_bytes xs ≡ true
are_bytes-left [] ys h = refl
are_bytes-left (x ∷ xs) ys h =
    both (nat_lt x 256) (are_bytes xs) (and_parts (nat_lt x 256) (are_bytes (xs ++ ys)) h).0
    (are_bytes-left xs ys (and_parts (nat_lt x 256) (are_bytes (xs ++ ys)) h).1)

-- so is the second
pub are_bytes-right : (xs ys : List ℕ) → are_bytes (xs ++ ys) ≡ true → are_bytes ys ≡ true
are_bytes-right [] ys h = h
are_bytes-right (x ∷ xs) ys h = are_bytes-right xs ys (and_parts (nat_lt x 256) (are_bytes (xs ++ ys)) h).1

-- two lists of bytes joined are one
pub are_bytes-both : (xs ys : List ℕ) → are_bytes xs ≡ true → are_bytes ys ≡ true → are_bytes (xs ++ ys) ≡ true
are_bytes-both [] ys hx hy = hy
are_bytes-both (x ∷ xs) ys hx hy =
    both (nat_lt x 256) (are_bytes (xs ++ ys)) (and_parts (nat_lt x 256) (are_bytes xs) hx).0
    (are_bytes-both xs ys (and_parts (nat_lt x 256) (are_bytes xs) hx).1 hy)

-- the parts of bytes whose front is known are bytes
pub record PartBytes (prefixes : List ℕ) (opcode : ℕ) (rest : List ℕ) : Type 0 where
  pub prefixes_are : are_bytes prefixes ≡ true
  pub opcode_is : nat_lt opcode 256 ≡ true
  pub rest_are : are_bytes rest ≡ true

-- the parts of a list of bytes are lists of bytes
pub part_bytes : (prefixes lead : List ℕ) (opcode : ℕ) (rest bytes : List ℕ) → are_bytes bytes ≡ true → bytes ≡ prefixes ++ (lead ++ (opcode ∷ rest)) → PartBytes prefixes opcode rest
part_bytes prefixes lead opcode rest bytes h e =
    let k = subst (λ (x : List ℕ). are_bytes x ≡ true) e h in
    let last = are_bytes-right lead (opcode ∷ rest) (are_bytes-right prefixes (lead ++ (opcode ∷ rest)) k) in
    record {
      prefixes_are = are_bytes-left prefixes (lead ++ (opcode ∷ rest)) k;
      opcode_is = (and_parts (nat_lt opcode 256) (are_bytes rest) last).0;
      rest_are = (and_parts (nat_lt opcode 256) (are_bytes rest) last).1;
    }

-- ---- the spelling of a tail

spelled_is : (bits : Bits) (row : Row) (ps : List ℕ) (vex : Option Vex) (map : Map) (o : ℕ) (m : Option ModRm) (rest : List ℕ) → lead_test bits row vex map o m ≡ true → LeadIsProper bits ps vex map o rest → spelled_map row.map vex ≡ map
spelled_is bits row ps None map o m rest h p = sym (lead_map bits row None map o m h)
spelled_is bits row ps (Some v) map o m rest h p = p.map_is

proper_vex : (bits : Bits) (ps : List ℕ) (vex : Option Vex) (map : Map) (o : ℕ) (rest : List ℕ) → LeadIsProper bits ps vex map o rest → vex_in_range vex ≡ true
unfolding vex_in_range
proper_vex bits ps None map o rest p = refl
proper_vex bits ps (Some v) map o rest p = p.in_range

-- its state, where map and lengths agree
spelled_state : (bits : Bits) (row : Row) (ps : List ℕ) (state : PrefixState) (m : Option ModRm) (sib : Option Sib) (d i : List ℕ) → spelled_map row.map state.vex ≡ state.map → state ≡ state_from bits ps (length ps + length (lead_bytes state.map state.vex)) state.vex state.map state.opcode → state_of bits row (spelled ps state.vex state.opcode m sib d i) ≡ state
unfolding state_of front_bytes
spelled_state bits row ps state m sib d i map e =
    let lead = same_lead row.map state.map state.vex state.vex refl map in
    let used : length (ps ++ lead_bytes row.map state.vex) ≡ length ps + length (lead_bytes state.map state.vex) =
    length-append ps (lead_bytes row.map state.vex) ∙ ap (λ (x : List ℕ). length ps + length x) lead in
    ap (λ (n : ℕ). state_from bits ps n state.vex (spelled_map row.map state.vex) state.opcode) used
    ∙ ap (λ (x : Map). state_from bits ps (length ps + length (lead_bytes state.map state.vex)) state.vex x state.opcode) map ∙ sym e

fields_from : (ps : List ℕ) (vex : Option Vex) (o : ℕ) (m : Option ModRm) (sib : Option Sib) (d i : List ℕ) → are_bytes ps ≡ true → vex_in_range vex ≡ true → nat_lt o 256 ≡ true → modrm_in_range m ≡ true → sib_in_range sib ≡ true → are_bytes d ≡ true → are_bytes i ≡ true → fields_in_range (spelled ps vex o m sib d i) ≡ true
unfolding fields_in_range
fields_from ps vex o m sib d i hp hv ho hm hs hd hi =
    both (are_bytes ps) _ hp (both (vex_in_range vex) _ hv (both (nat_lt o 256) _ ho (both (modrm_in_range m) _ hm
    (both (sib_in_range sib) _ hs (both (are_bytes d) (are_bytes i) hd hi)))))

-- what the spelling of a fitting tail is
pub record SpellingOf (bits : Bits) (row : Row) (state : PrefixState) (prefixes : List ℕ) (m : Option ModRm) (sib : Option Sib) (d i : List ℕ) : Type 0 where
  pub spelling : Spelling
  pub fitting : fits bits row spelling ≡ true
  pub state_is : state_of bits row spelling ≡ state
  pub modrm_is : spelling.modrm ≡ m
  pub sib_is : spelling.sib ≡ sib
  pub disp_is : spelling.disp.items ≡ d
  pub imm_is : spelling.imm.items ≡ i
  pub bytes_are : bytes_of row spelling ≡ prefixes ++ (lead_bytes state.map state.vex ++ (state.opcode ∷ (modrm_bytes m ++ (sib_bytes sib ++ (d ++ i)))))

spelled_bytes : (row : Row) (ps : List ℕ) (vex : Option Vex) (o : ℕ) (m : Option ModRm) (sib : Option Sib) (d i : List ℕ) → bytes_of row (spelled ps vex o m sib d i) ≡ ps ++ (lead_bytes row.map vex ++ (o ∷ (modrm_bytes m ++ (sib_bytes sib ++ (d ++ i)))))
unfolding bytes_of front_bytes tail_bytes
spelled_bytes row ps vex o m sib d i = simp append_assoc

-- **a fitting tail behind a known front is that of a fitting spelling**
pub spelling_of_tail : (bits : Bits) (row : Row) (bytes : List ℕ) (state : PrefixState) (p : Parted bits bytes state) (m : Option ModRm) (sib : Option Sib) (d i : List ℕ) → are_bytes bytes ≡ true → TailFits bits row state m sib d i → SpellingOf bits row state p.prefixes m sib d i
unfolding lead_fits prefixes_fit
spelling_of_tail bits row bytes state p m sib d i r t =
    let parts = parts_of bits row state m sib t.parts in
    let b = part_bytes p.prefixes (lead_bytes state.map state.vex) state.opcode p.rest bytes r p.bytes_are in
    let s = spelled p.prefixes state.vex state.opcode m sib d i in
    let map = spelled_is bits row p.prefixes state.vex state.map state.opcode m p.rest parts.lead p.lead_is_proper in
    let same = spelled_state bits row p.prefixes state m sib d i map p.state_is in
    record {
      spelling = s;
      fitting = fits_from bits row s state same parts.state_fits p.all_prefixes
          (lead_back bits row p.prefixes state.vex state.map state.opcode m p.rest parts.lead p.lead_is_proper)
          (tail_from bits row state m sib d i t)
          (fields_from p.prefixes state.vex state.opcode m sib d i b.prefixes_are
          (proper_vex bits p.prefixes state.vex state.map state.opcode p.rest p.lead_is_proper) b.opcode_is t.modrm_range t.sib_range t.disp_bytes t.imm_bytes);
      state_is = same;
      modrm_is = refl;
      sib_is = refl;
      disp_is = refl;
      imm_is = refl;
      bytes_are = spelled_bytes row p.prefixes state.vex state.opcode m sib d i
          ∙ ap (λ (x : List ℕ). p.prefixes ++ (x ++ (state.opcode ∷ (modrm_bytes m ++ (sib_bytes sib ++ (d ++ i)))))) (same_lead row.map state.map state.vex state.vex refl map);
    }
