-- All that a spelling with the plain front rests on: the front fits the row, says what the instruction asks for, and is read back.
use Rattle.std.proofs.Common.{◌≡◌, ◌⊎◌, inl, inr, ℕ, ◌+◌, ◌<◌, ◌≤◌, Bool, true, false, ◌&&◌, not, List, ◌∷◌, ◌++◌, length, Option, Some, None, refl, ap, sym, ◌∙◌, arith, append_assoc, length-append}
use Rattle.std.proofs.lemmas.Bool.{and_parts, cases_Bool}
use Rattle.x86_values.specs.declared.Bits.{Bits}
use Rattle.x86_values.specs.declared.Segment.{Segment}
use Rattle.x86_values.specs.declared.Rep.{Rep}
use Rattle.x86_values.specs.declared.Instr.{Instr}
use Rattle.instruction_parts.specs.declared.row_types.Row.{Row}
use Rattle.instruction_parts.specs.declared.row_types.Map.{Map}
use Rattle.instruction_parts.specs.declared.row_types.Map.TheVariants.{One, M0f, M0f38, M0f3a}
use Rattle.instruction_parts.specs.declared.spelling.Vex.{Vex}
use Rattle.instruction_parts.specs.declared.spelling.ModRm.{ModRm}
use Rattle.instruction_parts.specs.declared.spelling.Spelling.{Spelling}
use Rattle.instruction_parts.specs.declared.spelling.PrefixState.{PrefixState}
use Rattle.instruction_parts.specs.Counting.{has_lock, has_66, has_67, counting_repeat, counting_segment, counting_rex}
use Rattle.instruction_parts.specs.Sizes.{is_vex_row}
use Rattle.instruction_parts.specs.Bytes.{vex_bytes, lead_bytes, modrm_bytes, sib_bytes, tail_bytes, front_bytes, spelled_map, state as fields, state_from, state_of}
use Rattle.instruction_parts.specs.Front.{Known, forbids_vex, long_front}
use Rattle.row_fit.specs.Fits.{fits, prefixes_fit, class_fits, sizes_fit, vvvv_fits, same_map, is_vex_of_mode, is_opcode, opcode_allows, opcode_is_kept, vex_fits, opcode_fits, modrm_rule_fits, place_fits, are_bytes, vex_in_range}
use Rattle.row_fit.proofs.FrontLaws.{parts_law, front_fits}
use Rattle.row_meaning.specs.Meaning.{kept_repeat}
use Rattle.plain_spelling.specs.PlainFront.{asked_vex, asked_opcode, asked_used, plain_front_of}
use Rattle.plain_spelling.specs.PlainTail.{prefixes_of, plain_modrm, plain_spelling}
use Rattle.row_relation.specs.Given.{Given, NumbersSuit}
use Rattle.row_relation.proofs.FitFrontCounts.{Counts, counts_of}
use Rattle.plain_spelling.proofs.FrontRange.{vex_of_vex, vex_of_legacy}
use Rattle.row_relation.proofs.FitFrontBits.{FrontBits, front_bits, rex-is}
use Rattle.row_relation.proofs.FitFrontClass.{front_class, front_repeat, front_sizes, front_vvvv_fits}
use Rattle.row_relation.proofs.FitFrontVex.{front_opcode, front_opcode_byte, front_is_opcode, front_is_allowed, front_vex, front_vex_range}

-- ---- the state

same_fields : (u u' : ℕ) (s s' a a' l l' : Bool) (r r' : Rep) (g g' : Option Segment) (x x' : Option ℕ) (v v' : Option Vex) (m m' : Map) (o o' : ℕ)
    → u ≡ u' → s ≡ s' → a ≡ a' → l ≡ l' → r ≡ r' → g ≡ g' → x ≡ x' → v ≡ v' → m ≡ m' → o ≡ o'
    → fields u s a l r g x v m o ≡ fields u' s' a' l' r' g' x' v' m' o'
same_fields u u' s s' a a' l l' r r' g g' x x' v v' m m' o o' e1 e2 e3 e4 e5 e6 e7 e8 e9 e10 = cc

-- a front with another opcode byte
abbrev pub with_opcode : PrefixState → ℕ → PrefixState
with_opcode f o = fields f.used f.size66 f.addr67 f.lock f.rep f.seg f.rex f.vex f.map o

-- the state of the prefix bytes of a front
state_from_front : (bits : Bits) (f : PrefixState) (ps : List ℕ) (used : ℕ) (vex : Option Vex) (map : Map) (o o' : ℕ) → Counts bits f → ps ≡ prefixes_of f → used ≡ f.used → vex ≡ f.vex → map ≡ f.map → o ≡ o' → state_from bits ps used vex map o ≡ with_opcode f o'
unfolding state_from
state_from_front bits f ps used vex map o o' c hp hu hv hm ho =
    same_fields used f.used (has_66 ps) f.size66 (has_67 ps) f.addr67 (has_lock ps) f.lock (counting_repeat ps) f.rep (counting_segment bits ps) f.seg (counting_rex bits ps) f.rex vex f.vex map f.map o o'
    hu (ap has_66 hp ∙ c.size66) (ap has_67 hp ∙ c.addr67) (ap has_lock hp ∙ c.lock) (ap counting_repeat hp ∙ c.rep) (ap (counting_segment bits) hp ∙ c.seg) (ap (counting_rex bits) hp ∙ c.rex) hv hm ho

-- the length of the front's bytes
used_is : (bits : Bits) (row : Row) (i : Instr) → Counts bits (plain_front_of bits row i) → asked_used bits row i ≡ length (prefixes_of (plain_front_of bits row i) ++ lead_bytes row.map (asked_vex row i))
unfolding plain_front_of asked_used
used_is bits row i c = (let n = c.count in simp length-append (omega arith))

-- the map of the front is the row's
map_is : (row : Row) (i : Instr) → spelled_map row.map (asked_vex row i) ≡ row.map
map_is row i = elim (cases_Bool (is_vex_row row)) [
  | inl vex ↦ rw (vex_of_vex row i vex) refl
  | inr legacy ↦ rw (vex_of_legacy row i legacy) refl
]

-- the state of a spelling whose front has these parts is the plain front
plain_state : (bits : Bits) (row : Row) (i : Instr) (s : Spelling) → Counts bits (plain_front_of bits row i) → s.prefixes.items ≡ prefixes_of (plain_front_of bits row i) → s.vex ≡ asked_vex row i → s.opcode ≡ asked_opcode row i → state_of bits row s ≡ plain_front_of bits row i
unfolding state_of front_bytes plain_front_of
plain_state bits row i s c hp hv ho =
    let used : length (s.prefixes.items ++ lead_bytes row.map s.vex) ≡ asked_used bits row i =
    ap (λ ps. length (ps ++ lead_bytes row.map s.vex)) hp ∙ ap (λ v. length (prefixes_of (plain_front_of bits row i) ++ lead_bytes row.map v)) hv ∙ sym (used_is bits row i c) in
    state_from_front bits (plain_front_of bits row i) s.prefixes.items (length (s.prefixes.items ++ lead_bytes row.map s.vex)) s.vex (spelled_map row.map s.vex) s.opcode (asked_opcode row i)
    c hp used hv (ap (spelled_map row.map) hv ∙ map_is row i) ho

-- ---- the front before another spelling's rest

kept_of : (bits : Bits) (row : Row) (ps : List ℕ) (vex : Option Vex) (o : ℕ) (m : Option ModRm) → vex_fits bits row ps vex o m ≡ true → is_vex_row row ≡ false → opcode_is_kept bits row.map o m ≡ true
unfolding vex_fits
kept_of bits row ps None o m h legacy = (and_parts (not (is_vex_row row)) (opcode_is_kept bits row.map o m) h).1
kept_of bits row ps (Some v) o m h legacy = (let e = (and_parts (is_vex_row row) (same_map v.map row.map && (not (forbids_vex bits ps) && is_vex_of_mode bits v)) h).0 in cc)

kept_parts : (bits : Bits) (map : Map) (o : ℕ) (m : Option ModRm) → opcode_is_kept bits map o m ≡ true → (is_opcode bits map o ≡ true) × (opcode_allows bits map o m ≡ true)
unfolding opcode_is_kept
kept_parts bits map o m h = ((and_parts (is_opcode bits map o) (opcode_allows bits map o m) h).0, (and_parts (is_opcode bits map o) (opcode_allows bits map o m) h).1)

rest_parted : (ps lead : List ℕ) (s : Spelling) (rest : List ℕ) → (ps ++ lead) ++ (s.opcode ∷ (tail_bytes s ++ rest)) ≡ ps ++ (lead ++ (s.opcode ∷ (modrm_bytes s.modrm ++ ((sib_bytes s.sib ++ (s.disp.items ++ s.imm.items)) ++ rest))))
unfolding tail_bytes
rest_parted ps lead s rest = simp append_assoc

-- **the bytes of the plain front, before the opcode byte and the rest of any spelling of the row, are read as the plain front with that opcode byte**
pub front_of_rest : (bits : Bits) (ip : ℕ) (row : Row) (i : Instr) (s : Spelling) (rest : List ℕ) → Given bits ip row i → NumbersSuit bits row i → fits bits row s ≡ true
    → long_front bits ((prefixes_of (plain_front_of bits row i) ++ lead_bytes row.map (asked_vex row i)) ++ (s.opcode ∷ (tail_bytes s ++ rest))) ≡ Known (with_opcode (plain_front_of bits row i) s.opcode)
unfolding plain_front_of
front_of_rest bits ip row i s rest g n h =
    let f = plain_front_of bits row i in
    let c : Counts bits (plain_front_of bits row i) = counts_of bits (plain_front_of bits row i) (rex-is bits row i g.is_writable.size n) in
    let other = front_fits bits row s h in
    let vex = front_vex bits ip row i s.opcode s.modrm g n c (λ legacy. kept_parts bits row.map s.opcode s.modrm (kept_of bits row s.prefixes.items s.vex s.opcode s.modrm other.vex legacy)) in
    rw (rest_parted (prefixes_of f) (lead_bytes row.map (asked_vex row i)) s rest)
    (parts_law bits row (prefixes_of f) (asked_vex row i) s.opcode s.modrm ((sib_bytes s.sib ++ (s.disp.items ++ s.imm.items)) ++ rest) c.all vex (front_vex_range bits row i g.is_sound n) other.modrm_range
    ∙ ap Known (state_from_front bits f (prefixes_of f) (length (prefixes_of f) + length (lead_bytes row.map (asked_vex row i))) (asked_vex row i) (spelled_map row.map (asked_vex row i)) s.opcode s.opcode
    c refl (sym (length-append (prefixes_of f) (lead_bytes row.map (asked_vex row i))) ∙ sym (used_is bits row i c)) refl (map_is row i) refl))

vex_short : (v : Vex) → length (vex_bytes v) ≤ 3
unfolding vex_bytes
vex_short v = elim (cases_Bool v.three) [ inl three ↦ rw three (omega arith) | inr two ↦ rw two (omega arith) ]

-- a VEX or escape bytes are three at most
pub lead_short : (map : Map) (vex : Option Vex) → length (lead_bytes map vex) ≤ 3
unfolding lead_bytes
lead_short One None = omega arith
lead_short M0f None = omega arith
lead_short M0f38 None = omega arith
lead_short M0f3a None = omega arith
lead_short map (Some v) = vex_short v

-- fewer than 15 bytes stand before the opcode byte
pub front_is_short : (bits : Bits) (ip : ℕ) (row : Row) (i : Instr) → Given bits ip row i → NumbersSuit bits row i → asked_used bits row i < 15
unfolding plain_front_of
front_is_short bits ip row i g n =
    let c : Counts bits (plain_front_of bits row i) = counts_of bits (plain_front_of bits row i) (rex-is bits row i g.is_writable.size n) in
    let used = used_is bits row i c in
    let joined = length-append (prefixes_of (plain_front_of bits row i)) (lead_bytes row.map (asked_vex row i)) in
    let few = c.few in
    let lead = lead_short row.map (asked_vex row i) in
    omega arith

-- ---- all of it

-- what the plain front of an instruction meets
pub record PlainFrontFits (bits : Bits) (row : Row) (i : Instr) : Type 0 where
  -- a spelling with these parts has the plain front as its state
  pub state : (s : Spelling) → s.prefixes.items ≡ prefixes_of (plain_front_of bits row i) → s.vex ≡ (plain_front_of bits row i).vex → s.opcode ≡ (plain_front_of bits row i).opcode → state_of bits row s ≡ plain_front_of bits row i
  pub prefixes : prefixes_fit bits (prefixes_of (plain_front_of bits row i)) ≡ true
  pub class : class_fits row (plain_front_of bits row i) ≡ true
  pub sizes : sizes_fit bits row (plain_front_of bits row i) ≡ true
  pub vvvv : vvvv_fits row (plain_front_of bits row i) ≡ true
  -- with its own ModRM, and with each one that may stand there
  pub vex : vex_fits bits row (prefixes_of (plain_front_of bits row i)) (plain_front_of bits row i).vex (plain_front_of bits row i).opcode (plain_modrm bits row i) ≡ true
  pub vex_with : (m : Option ModRm) → (is_vex_row row ≡ true) ⊎ (opcode_allows bits row.map (plain_front_of bits row i).opcode m ≡ true) → vex_fits bits row (prefixes_of (plain_front_of bits row i)) (plain_front_of bits row i).vex (plain_front_of bits row i).opcode m ≡ true
  pub allows : is_vex_row row ≡ false → opcode_allows bits row.map (plain_front_of bits row i).opcode (plain_modrm bits row i) ≡ true
  pub opcode : opcode_fits row (plain_front_of bits row i).opcode ≡ true
  pub opcode_byte : (plain_front_of bits row i).opcode < 256
  pub vex_range : vex_in_range (plain_front_of bits row i).vex ≡ true
  pub bytes : are_bytes (prefixes_of (plain_front_of bits row i)) ≡ true
  pub used : (plain_front_of bits row i).used ≡ length (prefixes_of (plain_front_of bits row i) ++ lead_bytes row.map (plain_front_of bits row i).vex)
  pub few : length (prefixes_of (plain_front_of bits row i)) ≤ 6
  -- its bits and sizes, and what its prefix bytes count for
  pub says : FrontBits bits row i
  pub counts : Counts bits (plain_front_of bits row i)
  -- what it keeps of the instruction
  pub lock : (plain_front_of bits row i).lock ≡ i.lock
  pub repeat : kept_repeat row.class (plain_front_of bits row i).rep ≡ i.rep
  pub seg : (plain_front_of bits row i).seg ≡ i.seg

-- the want of a VEX, with the opcode byte of the front
with_modrm : (bits : Bits) (ip : ℕ) (row : Row) (i : Instr) (m : Option ModRm) → Given bits ip row i → NumbersSuit bits row i → Counts bits (plain_front_of bits row i)
    → (is_vex_row row ≡ false → opcode_allows bits row.map (asked_opcode row i) m ≡ true)
    → vex_fits bits row (prefixes_of (plain_front_of bits row i)) (asked_vex row i) (asked_opcode row i) m ≡ true
with_modrm bits ip row i m g n c h = front_vex bits ip row i (asked_opcode row i) m g n c (λ legacy. (front_is_opcode bits row i legacy g.is_writable.opcode, h legacy))

one_of : (a b : Bool) → (a ≡ true) ⊎ (b ≡ true) → a ≡ false → b ≡ true
one_of a b (inl x) n = cc
one_of a b (inr y) n = y

-- **the plain front fits its row and says what the instruction asks for**
pub plain_front_fits : (bits : Bits) (ip : ℕ) (row : Row) (i : Instr) → Given bits ip row i → NumbersSuit bits row i → place_fits row (plain_modrm bits row i) ≡ true → modrm_rule_fits row.plus row.modrm (plain_modrm bits row i) ≡ true → PlainFrontFits bits row i
unfolding plain_front_of prefixes_fit
plain_front_fits bits ip row i g n place rule =
    let c : Counts bits (plain_front_of bits row i) = counts_of bits (plain_front_of bits row i) (rex-is bits row i g.is_writable.size n) in
    let b = front_bits bits row i n in
    let allowed : is_vex_row row ≡ false → opcode_allows bits row.map (asked_opcode row i) (plain_modrm bits row i) ≡ true =
    λ legacy. front_is_allowed bits row i (plain_modrm bits row i) g.is_sound legacy g.is_writable.opcode place rule in
    record {
      state = λ s hp hv ho. plain_state bits row i s c hp hv ho;
      prefixes = c.all;
      class = front_class bits ip row i g;
      sizes = front_sizes bits row i g.is_writable.size b;
      vvvv = front_vvvv_fits bits row i n;
      vex = with_modrm bits ip row i (plain_modrm bits row i) g n c allowed;
      vex_with = λ m h. with_modrm bits ip row i m g n c (one_of (is_vex_row row) (opcode_allows bits row.map (asked_opcode row i) m) h);
      allows = allowed;
      opcode = front_opcode row i;
      opcode_byte = front_opcode_byte row i g.is_sound;
      vex_range = front_vex_range bits row i g.is_sound n;
      bytes = c.bytes;
      used = used_is bits row i c;
      few = c.few;
      says = b;
      counts = c;
      lock = refl;
      repeat = front_repeat bits ip row i g;
      seg = refl;
    }

-- the bytes of the plain spelling before its opcode byte are those of the plain front
pub plain_front_bytes : (bits : Bits) (ip : ℕ) (row : Row) (i : Instr) → front_bytes row (plain_spelling bits ip row i) ≡ prefixes_of (plain_front_of bits row i) ++ lead_bytes row.map (asked_vex row i)
unfolding front_bytes plain_spelling plain_front_of
plain_front_bytes bits ip row i = refl
