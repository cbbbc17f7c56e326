-- A row of which nothing is left to ask takes what leads to it.
use Rattle.std.proofs.Common.{◌≡◌, ℕ, zero, suc, ◌+◌, ◌/◌, ◌%◌, ◌<◌, ◌≤◌, Bool, true, false, not, ◌&&◌, ◌||◌, ◌==◌, Option, Some, None, is_some, is_none, option_map, get_or, Fits, w8, rules, map, List, [], ◌∷◌, drop, slice_get, refl, ap, sym, ◌∙◌, subst, arith, eq-eqb, leb-true, nat_le, nat_lt, if◌then◌else◌}
use Rattle.std.proofs.lemmas.Bool.{and_parts, eqb-true, not-true}
use Rattle.std.specs.List.{list_all, list_any}
use Rattle.std.specs.Prelude.{slice_index_or}
use Rattle.std.proofs.lemmas.Option.{slice_get-map, get_or_from_slice_get}
use borrow.Author.Tests.{ltb-true}
use Rattle.x86_values.specs.declared.Bits.{Bits}
use Rattle.x86_values.specs.declared.Bits.TheVariants.{B16, B32, B64}
use Rattle.instruction_parts.specs.declared.row_types.Row.{Row}
use Rattle.instruction_parts.specs.declared.row_types.Map.{Map}
use Rattle.instruction_parts.specs.declared.row_types.Map.TheVariants as maps
use Rattle.instruction_parts.specs.declared.row_types.Plus.{Plus}
use Rattle.instruction_parts.specs.declared.row_types.Plus.TheVariants as plus
use Rattle.instruction_parts.specs.declared.row_types.ModRmRule.{ModRmRule}
use Rattle.instruction_parts.specs.declared.row_types.ModRmRule.TheVariants as rule
use Rattle.instruction_parts.specs.declared.row_types.Place.{Place}
use Rattle.instruction_parts.specs.declared.row_types.Place.TheVariants as place
use Rattle.instruction_parts.specs.declared.row_types.Size.{Size}
use Rattle.instruction_parts.specs.declared.row_types.Size.TheVariants as size
use Rattle.instruction_parts.specs.declared.row_types.OpKind.{OpKind}
use Rattle.instruction_parts.specs.declared.row_types.OpKind.TheVariants.{Absent, Sw, Cn, Dn}
use Rattle.instruction_parts.specs.declared.spelling.ModRm.{ModRm}
use Rattle.instruction_parts.specs.declared.spelling.Vex.{Vex}
use Rattle.instruction_parts.specs.declared.spelling.Sib.{Sib}
use Rattle.instruction_parts.specs.declared.spelling.PrefixState.{PrefixState}
use Rattle.instruction_parts.specs.Counting.{is_64, rex_bit}
use Rattle.instruction_parts.specs.Kinds.{method_of}
use Rattle.instruction_parts.specs.Sizes.{exists_in, is_lockable, is_vex_row, operand_size, state_size, bit_w}
use Rattle.row_fit.specs.Fits.{immediates_bytes, immediate_bytes, is_any_mode, is_offset, reads_mode, same_map, vex_class_fits, w_fits, l_fits, is_vvvv, is_memory_method, reg_field, is_map_one, legacy_class_fits, class_fits, size_fits, takes_w_as_size, sizes_fit, vvvv_fits, opcode_allows, opcode_fits, modrm_rule_fits, place_allows, place_of, place_fits, opcode_and_modrm_fit, is_gather, reads_by, kind_at, lock_fits, register_fits, destination_fits, gather_fits, nop_fits, registers_fit, state_fits}
use Rattle.row_fit.specs.Sound.{has_modrm_rule}
use Rattle.instruction_parts.specs.declared.row_fields.Fields.{Fields}
use Rattle.instruction_parts.specs.RowFields.Holds.{is_vex, map_number, stands_in, opcode_holds, prefix_of, class_allows, prefix_holds, byte_of, byte_holds, place_holds, reg_holds, rm_holds, size_allows, size_holds, w_holds, l_holds, rex_b_holds, holds}
use Rattle.opcode_rows.proofs.UniqueSpelling.Parts.{legacy-class}
use Rattle.opcode_rows.specs.UniqueSpelling.FieldsOf.{fields_of, first_byte, repeat_of, size66_of, w_of}
use Rattle.modrm_sib.specs.Parts.{modrm_of_byte, lead_fits, parts_fit, modrm_in}
use Rattle.opcode_rows.specs.Parts.{integer_rows, integer_flat, x87_rows, x87_flat, sse_rows, sse_flat, vex_rows, vex_flat}
use Rattle.opcode_rows.specs.Table.{spots, rows_in, table}
use Rattle.instruction_parts.specs.Kinds.{immediate_width}
use Rattle.row_meaning.specs.Given.{has_one_immediate}
use Rattle.decoder.specs.declared.bare.BareRow.{BareRow}
use Rattle.decoder.specs.Bare.{known_of, immediates_at, bare_rows, is_bare_front, place_is_said, names_each_number, kind_is_bare, rule_is_bare, bytes_are_bare, opcode_is_bare, row_is_bare}
use Rattle.decoder.proofs.InCell.{kind_is_vex}

both : (a b : Bool) → a ≡ true → b ≡ true → (a && b) ≡ true
both a b h k = rw h k

-- ---- what holds, part by part

record Held (bits : Bits) (row : Row) (f : Fields) : Type 0 where
  stands : stands_in row (map_number f.vex f.map) f.opcode ≡ true
  exists : exists_in bits row ≡ true
  byte : byte_holds row.modrm (is_some f.modrm) ≡ true
  prefix : prefix_holds row f.opcode (prefix_of f.rep f.size66) ≡ true
  place : place_holds row.modrm row.place (byte_of f.modrm / 64 == 3) ≡ true
  reg : reg_holds row.modrm (byte_of f.modrm / 8 % 8) ≡ true
  size : size_holds bits row f.size66 f.w ≡ true

held : (bits : Bits) (row : Row) (f : Fields) → holds bits row f ≡ true → Held bits row f
unfolding holds
held bits row f h =
    let byte : ℕ = byte_of f.modrm in
    let t7 : Bool = w_holds bits row f.w && (l_holds row.l f.l && rex_b_holds row f.opcode f.rex_b) in
    let t6 : Bool = size_holds bits row f.size66 f.w && t7 in
    let t5 : Bool = rm_holds row.modrm row.plus (byte % 8) && t6 in
    let t4 : Bool = reg_holds row.modrm (byte / 8 % 8) && t5 in
    let t3 : Bool = place_holds row.modrm row.place (byte / 64 == 3) && t4 in
    let t2 : Bool = prefix_holds row f.opcode (prefix_of f.rep f.size66) && t3 in
    let t1 : Bool = byte_holds row.modrm (is_some f.modrm) && t2 in
    let t0 : Bool = exists_in bits row && t1 in
    let h0 : t0 ≡ true = (and_parts (stands_in row (map_number f.vex f.map) f.opcode) t0 h).1 in
    let h1 : t1 ≡ true = (and_parts (exists_in bits row) t1 h0).1 in
    let h2 : t2 ≡ true = (and_parts (byte_holds row.modrm (is_some f.modrm)) t2 h1).1 in
    let h3 : t3 ≡ true = (and_parts (prefix_holds row f.opcode (prefix_of f.rep f.size66)) t3 h2).1 in
    let h4 : t4 ≡ true = (and_parts (place_holds row.modrm row.place (byte / 64 == 3)) t4 h3).1 in
    let h5 : t5 ≡ true = (and_parts (reg_holds row.modrm (byte / 8 % 8)) t5 h4).1 in
    let h6 : t6 ≡ true = (and_parts (rm_holds row.modrm row.plus (byte % 8)) t6 h5).1 in
    record {
      stands = (and_parts (stands_in row (map_number f.vex f.map) f.opcode) t0 h).0;
      exists = (and_parts (exists_in bits row) t1 h0).0;
      byte = (and_parts (byte_holds row.modrm (is_some f.modrm)) t2 h1).0;
      prefix = (and_parts (prefix_holds row f.opcode (prefix_of f.rep f.size66)) t3 h2).0;
      place = (and_parts (place_holds row.modrm row.place (byte / 64 == 3)) t4 h3).0;
      reg = (and_parts (reg_holds row.modrm (byte / 8 % 8)) t5 h4).0;
      size = (and_parts (size_holds bits row f.size66 f.w) t7 h6).0;
    }

-- what is said of a row of which nothing is left to ask
record Said (row : Row) : Type 0 where
  legacy : is_vex_row row ≡ false
  size : takes_w_as_size row.size ≡ false
  rule_ : rule_is_bare row.modrm ≡ true
  kinds : list_all (kind_is_bare row.place) row.ops ≡ true
  opcode : opcode_is_bare row.map row.plus row.opcode ≡ true

said : (row : Row) → row_is_bare row ≡ true → Said row
unfolding row_is_bare
said row h =
    let h0 = (and_parts _ _ h).1 in
    let h1 = (and_parts _ _ h0).1 in
    let h2 = (and_parts _ _ h1).1 in
    let h3 = (and_parts _ _ h2).1 in
    record {
      legacy = not-true _ (and_parts _ _ h0).0;
      size = not-true _ (and_parts _ _ h1).0;
      rule_ = (and_parts _ _ h2).0;
      kinds = (and_parts _ _ h3).0;
      opcode = (and_parts _ _ h3).1;
    }

-- ---- map and opcode byte

same-map : (m n : Map) → (map_number false m == map_number false n) ≡ true → same_map n m ≡ true
same-map maps.One maps.One h = refl
same-map maps.One maps.M0f h = cc
same-map maps.One maps.M0f38 h = cc
same-map maps.One maps.M0f3a h = cc
same-map maps.M0f maps.One h = cc
same-map maps.M0f maps.M0f h = refl
same-map maps.M0f maps.M0f38 h = cc
same-map maps.M0f maps.M0f3a h = cc
same-map maps.M0f38 maps.One h = cc
same-map maps.M0f38 maps.M0f h = cc
same-map maps.M0f38 maps.M0f38 h = refl
same-map maps.M0f38 maps.M0f3a h = cc
same-map maps.M0f3a maps.One h = cc
same-map maps.M0f3a maps.M0f h = cc
same-map maps.M0f3a maps.M0f38 h = cc
same-map maps.M0f3a maps.M0f3a h = refl

opcode-fits : (row : Row) (o : ℕ) → opcode_holds row.plus row.opcode o ≡ true → opcode_fits row o ≡ true
unfolding opcode_fits
opcode-fits row o h = by_plus row.plus h
  where
    by_plus : (p : Plus) → opcode_holds p row.opcode o ≡ true → (elim p [ plus.Register ↦ nat_le row.opcode o && nat_lt o (row.opcode + 8) | _ ↦ o == row.opcode ]) ≡ true
    by_plus plus.Register e = e
    by_plus plus.No e = eq-eqb o row.opcode (sym (eqb-true row.opcode o e))
    by_plus plus.Stack e = eq-eqb o row.opcode (sym (eqb-true row.opcode o e))

differs : (a b : ℕ) → (a ≡ b → ⊥) → (a == b) ≡ false
differs a b apart_ = by_cases (a == b) refl
  where
    by_cases : (x : Bool) → (a == b) ≡ x → (a == b) ≡ false
    by_cases false e = e
    by_cases true e = absurd (apart_ (eqb-true a b e))

-- the byte is none of the five that ask more of what stands around them
record Apart (o : ℕ) : Type 0 where
  b62 : (o == 0x62) ≡ false
  b8f : (o == 0x8F) ≡ false
  b90 : (o == 0x90) ≡ false
  bc4 : (o == 0xC4) ≡ false
  bc5 : (o == 0xC5) ≡ false

apart-one : (first o : ℕ) → first ≡ o → bytes_are_bare plus.No first ≡ true → Apart o
apart-one first o e h =
    let h1 = (and_parts _ _ h).1 in
    let h2 = (and_parts _ _ h1).1 in
    let h3 = (and_parts _ _ h2).1 in
    record {
      b62 = ap (λ n. n == 0x62) (sym e) ∙ not-true _ (and_parts _ _ h).0;
      b8f = ap (λ n. n == 0x8F) (sym e) ∙ not-true _ (and_parts _ _ h1).0;
      b90 = ap (λ n. n == 0x90) (sym e) ∙ not-true _ (and_parts _ _ h2).0;
      bc4 = ap (λ n. n == 0xC4) (sym e) ∙ not-true _ (and_parts _ _ h3).0;
      bc5 = ap (λ n. n == 0xC5) (sym e) ∙ not-true _ (and_parts _ _ h3).1;
    }

apart-below : (o : ℕ) → o < 0x62 → Apart o
apart-below o lt =
    record {
      b62 = differs o 0x62 (λ e. omega arith);
      b8f = differs o 0x8F (λ e. omega arith);
      b90 = differs o 0x90 (λ e. omega arith);
      bc4 = differs o 0xC4 (λ e. omega arith);
      bc5 = differs o 0xC5 (λ e. omega arith);
    }

apart-between : (o : ℕ) → 0x90 < o → o < 0xC4 → Apart o
apart-between o low high =
    record {
      b62 = differs o 0x62 (λ e. omega arith);
      b8f = differs o 0x8F (λ e. omega arith);
      b90 = differs o 0x90 (λ e. omega arith);
      bc4 = differs o 0xC4 (λ e. omega arith);
      bc5 = differs o 0xC5 (λ e. omega arith);
    }

apart-eight : (first o : ℕ) → bytes_are_bare plus.Register first ≡ true → first ≤ o → o < first + 8 → Apart o
apart-eight first o h low high = by_cases (nat_le (first + 8) 0x62) refl
  where
    by_cases : (x : Bool) → nat_le (first + 8) 0x62 ≡ x → Apart o
    by_cases true e = let at : first + 8 ≤ 0x62 = leb-true (first + 8) 0x62 e in apart-below o (omega arith)
    by_cases false e =
        let two : (nat_lt 0x90 first && nat_le (first + 8) 0xC4) ≡ true = ap (λ b. b || (nat_lt 0x90 first && nat_le (first + 8) 0xC4)) (sym e) ∙ h in
        let from : 0x90 < first = ltb-true 0x90 first (and_parts _ _ two).0 in
        let to : first + 8 ≤ 0xC4 = leb-true (first + 8) 0xC4 (and_parts _ _ two).1 in
        apart-between o (omega arith) (omega arith)

bytes-apart : (p : Plus) (first o : ℕ) → bytes_are_bare p first ≡ true → opcode_holds p first o ≡ true → Apart o
bytes-apart plus.Register first o h at = apart-eight first o h (leb-true first o (and_parts _ _ at).0) (ltb-true o (first + 8) (and_parts _ _ at).1)
bytes-apart plus.No first o h at = apart-one first o (eqb-true first o at) h
bytes-apart plus.Stack first o h at = apart-one first o (eqb-true first o at) h

abbrev ApartInOne : Map → ℕ → Type 0
ApartInOne m o = is_map_one m ≡ true → Apart o

apart : (m : Map) (p : Plus) (first o : ℕ) → opcode_is_bare m p first ≡ true → opcode_holds p first o ≡ true → ApartInOne m o
unfolding opcode_is_bare
apart maps.One p first o h at = λ _. bytes-apart p first o h at
apart maps.M0f p first o h at = λ e. cc
apart maps.M0f38 p first o h at = λ e. cc
apart maps.M0f3a p first o h at = λ e. cc

allows : (bits : Bits) (m : Map) (o : ℕ) (modrm : Option ModRm) → ApartInOne m o → opcode_allows bits m o modrm ≡ true
unfolding opcode_allows
allows bits maps.One o modrm is = let a = is refl in rw (a.bc4, a.bc5, a.b62, a.b8f) refl
allows bits maps.M0f o modrm is = refl
allows bits maps.M0f38 o modrm is = refl
allows bits maps.M0f3a o modrm is = refl

no-nop : (v : Bool) (m : Map) (o : ℕ) → ApartInOne m o → (v && (is_map_one m && (o == 0x90))) ≡ false
no-nop true maps.One o is = (is refl).b90
no-nop true maps.M0f o is = refl
no-nop true maps.M0f38 o is = refl
no-nop true maps.M0f3a o is = refl
no-nop false m o is = refl

-- ---- class and size

size-fits : (bits : Bits) (z : Size) (n : Bits) (w : Bool) → takes_w_as_size z ≡ false → size_allows z n ≡ true → size_fits bits z n w ≡ true
unfolding size_fits
size-fits bits size.None n w free h = refl
size-fits bits size.O16 n w free h = h
size-fits bits size.O32 n w free h = h
size-fits bits size.O32or64 n w free h = h
size-fits bits size.O64 n w free h = h
size-fits bits size.W0 n w free h = cc
size-fits bits size.W1 n w free h = cc

-- a REX stands in 64-bit mode alone
w-64 : (bits : Bits) (rex : Option ℕ) → (is_64 bits || is_none rex) ≡ true → (is_64 bits && rex_bit 3 rex) ≡ rex_bit 3 rex
w-64 B64 rex h = refl
w-64 B32 None h = refl
w-64 B16 None h = refl
w-64 B32 (Some b) h = cc
w-64 B16 (Some b) h = cc

-- ---- ModRM

place-digit : (d : ℕ) (x : Place) (b : Bool) → place_holds (rule.Digit d) x b ≡ true → place_holds rule.Any x b ≡ true
place-digit d place.Any b h = refl
place-digit d place.Memory b h = h
place-digit d place.Register b h = h

lt_3 : (n : ℕ) → n < 4 → (n == 3) ≡ false → nat_lt n 3 ≡ true
lt_3 n lt e = grind (arith, lt, e)

allowed : (x : Place) (b : ℕ) → b < 256 → place_holds rule.Any x (b / 64 == 3) ≡ true → place_allows x (modrm_of_byte b) ≡ true
unfolding place_allows modrm_of_byte
allowed place.Any b lt h = refl
allowed place.Memory b lt h = lt_3 (b / 64) (omega arith) (not-true (b / 64 == 3) h)
allowed place.Register b lt h = h

said-allows : (x y : Place) (m : ModRm) → place_is_said x y ≡ true → place_allows x m ≡ true → place_allows y m ≡ true
unfolding place_allows
said-allows x place.Any m s h = refl
said-allows place.Memory place.Memory m s h = h
said-allows place.Register place.Register m s h = h
said-allows place.Any place.Memory m s h = cc
said-allows place.Any place.Register m s h = cc
said-allows place.Memory place.Register m s h = cc
said-allows place.Register place.Memory m s h = cc

-- what is said of an operand's kind
record SaidKind (x : Place) (k : OpKind) : Type 0 where
  numbers : names_each_number k ≡ true
  gather : is_gather (method_of k) ≡ false
  mode : is_any_mode (method_of k) ≡ false
  offset : is_offset (method_of k) ≡ false
  place : place_is_said x (place_of (method_of k)) ≡ true

kind-parts : (x : Place) (k : OpKind) → kind_is_bare x k ≡ true → SaidKind x k
unfolding kind_is_bare
kind-parts x k h =
    let h1 = (and_parts _ _ h).1 in
    let h2 = (and_parts _ _ h1).1 in
    let h3 = (and_parts _ _ h2).1 in
    record {
      numbers = (and_parts _ _ h).0;
      gather = not-true _ (and_parts _ _ h1).0;
      mode = not-true _ (and_parts _ _ h2).0;
      offset = not-true _ (and_parts _ _ h3).0;
      place = (and_parts _ _ h3).1;
    }

kinds-allow : (x : Place) (m : ModRm) (ops : List OpKind) → list_all (kind_is_bare x) ops ≡ true → place_allows x m ≡ true
    → list_all (λ kind. place_allows (place_of (method_of kind)) m) ops ≡ true
kinds-allow x m [] h at = refl
kinds-allow x m (k ∷ ops) h at =
    both _ _ (said-allows x (place_of (method_of k)) m (kind-parts x k (and_parts _ _ h).0).place at)
    (kinds-allow x m ops (and_parts _ _ h).1 at)

abbrev modrm_by : ModRmRule → ℕ → Option ModRm
modrm_by r b = if has_modrm_rule r then Some (modrm_of_byte b) else None

rule-fits : (p : Plus) (r : ModRmRule) (b : ℕ) → rule_is_bare r ≡ true → reg_holds r (b / 8 % 8) ≡ true → modrm_rule_fits p r (modrm_by r b) ≡ true
unfolding modrm_rule_fits modrm_of_byte
rule-fits p rule.No b bare h = refl
rule-fits p rule.Any b bare h = refl
rule-fits p (rule.Digit d) b bare h = h
rule-fits p (rule.Fixed n) b bare h = cc

place-fits : (row : Row) (r : ModRmRule) (b : ℕ) → rule_is_bare r ≡ true → list_all (kind_is_bare row.place) row.ops ≡ true → b < 256
    → place_holds r row.place (b / 64 == 3) ≡ true → place_fits row (modrm_by r b) ≡ true
unfolding place_fits
place-fits row rule.No b bare kinds lt h = refl
place-fits row rule.Any b bare kinds lt h =
    let at = allowed row.place b lt h in both _ _ at (kinds-allow row.place (modrm_of_byte b) row.ops kinds at)
place-fits row (rule.Digit d) b bare kinds lt h =
    let at = allowed row.place b lt (place-digit d row.place (b / 64 == 3) h) in both _ _ at (kinds-allow row.place (modrm_of_byte b) row.ops kinds at)
place-fits row (rule.Fixed n) b bare kinds lt h = cc

no-byte : (p : Plus) (r : ModRmRule) → rule_is_bare r ≡ true → byte_holds r false ≡ true → modrm_rule_fits p r None ≡ true
unfolding modrm_rule_fits
no-byte p rule.No bare h = refl
no-byte p rule.Any bare h = cc
no-byte p (rule.Digit d) bare h = cc
no-byte p (rule.Fixed n) bare h = cc

-- each byte of a list is one, as its type says
abbrev FirstIsByte : List ℕ → Type 0
FirstIsByte tail = (b : ℕ) → first_byte tail ≡ Some b → b < 256

modrm-fits : (row : Row) (o : ℕ) (tail : List ℕ) → Said row → opcode_holds row.plus row.opcode o ≡ true → FirstIsByte tail
    → byte_holds row.modrm (is_some (first_byte tail)) ≡ true → place_holds row.modrm row.place (byte_of (first_byte tail) / 64 == 3) ≡ true
    → reg_holds row.modrm (byte_of (first_byte tail) / 8 % 8) ≡ true → opcode_and_modrm_fit row o (modrm_in row tail) ≡ true
unfolding opcode_and_modrm_fit place_fits
modrm-fits row o [] s at small byte where_ reg =
    both _ _ (opcode-fits row o at) (both _ _ (no-byte row.plus row.modrm s.rule_ byte) refl)
modrm-fits row o (b ∷ tail) s at small byte where_ reg =
    both _ _ (opcode-fits row o at)
    (both _ _ (rule-fits row.plus row.modrm b s.rule_ reg) (place-fits row row.modrm b s.rule_ s.kinds (small b refl) where_))

-- ---- registers

register-fits : (bits : Bits) (state : PrefixState) (m : Option ModRm) (k : OpKind) → names_each_number k ≡ true → register_fits bits state m k ≡ true
unfolding register_fits
register-fits bits state m Sw h = cc
register-fits bits state m Cn h = cc
register-fits bits state m Dn h = cc
register-fits bits state m _ h = refl

all-registers : (bits : Bits) (state : PrefixState) (m : Option ModRm) (x : Place) (ops : List OpKind) → list_all (kind_is_bare x) ops ≡ true
    → list_all (register_fits bits state m) ops ≡ true
all-registers bits state m x [] h = refl
all-registers bits state m x (k ∷ ops) h =
    both _ _ (register-fits bits state m k (kind-parts x k (and_parts _ _ h).0).numbers) (all-registers bits state m x ops (and_parts _ _ h).1)

not-cs : (row : Row) (m : Option ModRm) (x : Place) → list_all (kind_is_bare x) row.ops ≡ true → destination_fits row m ≡ true
unfolding destination_fits
not-cs row m x h = by_ops row.ops h
  where
    by_kind : (k : OpKind) → names_each_number k ≡ true → (elim k [ Sw ↦ not (reg_field m == 1) | _ ↦ true ]) ≡ true
    by_kind Sw e = cc
    by_kind _ e = refl

    by_ops : (ops : List OpKind) → list_all (kind_is_bare x) ops ≡ true
        → (elim (slice_index_or ops 0 Absent) [ Sw ↦ not (reg_field m == 1) | _ ↦ true ]) ≡ true
    by_ops [] e = refl
    by_ops (k ∷ ops) e = by_kind k (kind-parts x k (and_parts _ _ e).0).numbers

no-gather : (x : Place) (ops : List OpKind) → list_all (kind_is_bare x) ops ≡ true → list_any (λ kind. is_gather (method_of kind)) ops ≡ false
no-gather x [] h = refl
no-gather x (k ∷ ops) h =
    ap (λ b. b || list_any (λ kind. is_gather (method_of kind)) ops) (kind-parts x k (and_parts _ _ h).0).gather ∙ no-gather x ops (and_parts _ _ h).1

no-offset : (x : Place) (ops : List OpKind) → list_all (kind_is_bare x) ops ≡ true → list_any (λ kind. is_offset (method_of kind)) ops ≡ false
no-offset x [] h = refl
no-offset x (k ∷ ops) h =
    ap (λ b. b || list_any (λ kind. is_offset (method_of kind)) ops) (kind-parts x k (and_parts _ _ h).0).offset ∙ no-offset x ops (and_parts _ _ h).1

no-any_mode : (x : Place) (ops : List OpKind) → list_all (kind_is_bare x) ops ≡ true → list_any (λ kind. is_any_mode (method_of kind)) ops ≡ false
no-any_mode x [] h = refl
no-any_mode x (k ∷ ops) h =
    ap (λ b. b || list_any (λ kind. is_any_mode (method_of kind)) ops) (kind-parts x k (and_parts _ _ h).0).mode ∙ no-any_mode x ops (and_parts _ _ h).1

-- such a row reads ModRM.mod
pub bare-mode : (row : Row) → row_is_bare row ≡ true → reads_mode row ≡ true
unfolding reads_mode
bare-mode row h = ap not (no-any_mode row.place row.ops (said row h).kinds)

-- at most one of its operands has bytes of the immediates
pub bare-one : (row : Row) → row_is_bare row ≡ true → has_one_immediate row ≡ true
unfolding row_is_bare
bare-one row h = (and_parts _ _ h).0

-- and it has no absolute address
pub bare-offset : (row : Row) → row_is_bare row ≡ true → reads_by is_offset row ≡ false
bare-offset row h = no-offset row.place row.ops (said row h).kinds

registers-fit : (bits : Bits) (row : Row) (state : PrefixState) (m : Option ModRm) (sib : Option Sib) → Said row → ApartInOne row.map state.opcode
    → registers_fit bits row state m sib ≡ true
unfolding registers_fit
registers-fit bits row state m sib s is =
    both _ _ (all-registers bits state m row.place row.ops s.kinds)
    (both _ _ (not-cs row m row.place s.kinds)
    (both _ _ (ap (λ b. not b || gather_fits bits state m sib) (no-gather row.place row.ops s.kinds))
    (ap (λ b. not b || nop_fits bits row state) (no-nop (not (is_vex_row row)) row.map state.opcode is))))

-- ---- all of it

record Front (bits : Bits) (state : PrefixState) : Type 0 where
  lock : state.lock ≡ false
  vex : state.vex ≡ None
  rex : (is_64 bits || is_none state.rex) ≡ true

none-is : (vex : Option Vex) → is_none vex ≡ true → vex ≡ None
none-is None h = refl
none-is (Some v) h = cc

front : (bits : Bits) (state : PrefixState) → is_bare_front bits state ≡ true → Front bits state
unfolding is_bare_front
front bits state h =
    let h1 = (and_parts _ _ h).1 in
    record { lock = not-true _ (and_parts _ _ h).0; vex = none-is _ (and_parts _ _ h1).0; rex = (and_parts _ _ h1).1 }

class-of : (row : Row) (state : PrefixState) (v : Option Vex) → v ≡ None
    → class_allows row.class (prefix_of (repeat_of v state.rep) (size66_of v state.size66)) ≡ true
    → (elim v [ None ↦ legacy_class_fits row.class state | Some v ↦ vex_class_fits row.class v ]) ≡ true
class-of row state None e h = legacy-class row.class state ∙ h
class-of row state (Some v) e h = cc

sized : (bits : Bits) (row : Row) (state : PrefixState) (v : Option Vex) → v ≡ None → (is_64 bits || is_none state.rex) ≡ true
    → size_allows row.size (operand_size bits row (is_64 bits && w_of v state.rex) (size66_of v state.size66)) ≡ true
    → size_allows row.size (operand_size bits row (rex_bit 3 state.rex) state.size66) ≡ true
sized bits row state None e rex h = ap (λ b. size_allows row.size (operand_size bits row b state.size66)) (sym (w-64 bits state.rex rex)) ∙ h
sized bits row state (Some v) e rex h = cc

no-vex : (P : Vex → Bool) (v : Option Vex) → v ≡ None → (elim v [ None ↦ true | Some v ↦ P v ]) ≡ true
no-vex P None e = refl
no-vex P (Some v) e = cc

sizes-fit : (bits : Bits) (row : Row) (state : PrefixState) → Said row → Front bits state
    → size_holds bits row (size66_of state.vex state.size66) (w_of state.vex state.rex) ≡ true → sizes_fit bits row state ≡ true
unfolding sizes_fit size_holds state_size
sizes-fit bits row state s f h =
    both _ _
    (size-fits bits row.size (operand_size bits row (rex_bit 3 state.rex) state.size66) (bit_w bits state) s.size (sized bits row state state.vex f.vex f.rex h))
    (no-vex (λ v. w_fits row v && l_fits row.l v) state.vex f.vex)

state-fits : (bits : Bits) (row : Row) (state : PrefixState) → Said row → Front bits state → exists_in bits row ≡ true
    → prefix_holds row state.opcode (prefix_of (repeat_of state.vex state.rep) (size66_of state.vex state.size66)) ≡ true
    → size_holds bits row (size66_of state.vex state.size66) (w_of state.vex state.rex) ≡ true → state_fits bits row state ≡ true
unfolding state_fits class_fits prefix_holds vvvv_fits
state-fits bits row state s f exists prefix size =
    both _ _ exists
    (both _ _ (class-of row state state.vex f.vex (and_parts _ _ prefix).0)
    (both _ _ (sizes-fit bits row state s f size) (no-vex (λ v. v.vvvv == 0 || reads_by is_vvvv row) state.vex f.vex)))

lead-of : (row : Row) (v : Option Vex) (a : Bool) → v ≡ None → is_vex_row row ≡ false → a ≡ true
    → (elim v [ None ↦ not (is_vex_row row) && a | Some v ↦ is_vex_row row ]) ≡ true
lead-of row None a e legacy h = both _ _ (ap not legacy) h
lead-of row (Some v) a e legacy h = cc

lead-fits : (bits : Bits) (row : Row) (state : PrefixState) (m : Option ModRm) → Said row → state.vex ≡ None
    → (map_number (is_vex row.kind) row.map == map_number (is_some state.vex) state.map) ≡ true → ApartInOne row.map state.opcode
    → lead_fits bits row state m ≡ true
unfolding lead_fits
lead-fits bits row state m s none h is =
    let legacy : is_vex row.kind ≡ false = kind_is_vex row ∙ s.legacy in
    let h1 : (map_number false row.map == map_number (is_some state.vex) state.map) ≡ true =
    subst (λ b. (map_number b row.map == map_number (is_some state.vex) state.map) ≡ true) legacy h in
    let h2 : (map_number false row.map == map_number false state.map) ≡ true =
    subst (λ b. (map_number false row.map == map_number b state.map) ≡ true) (ap is_some none) h1 in
    both _ _ (same-map row.map state.map h2)
    (lead-of row state.vex (opcode_allows bits row.map state.opcode m) none s.legacy (allows bits row.map state.opcode m is))

-- **a row of which nothing is left to ask takes the state, the ModRM and any SIB, where the nine fields lead to it**
pub bare-fits : (bits : Bits) (row : Row) (state : PrefixState) (tail : List ℕ) (sib : Option Sib) → row_is_bare row ≡ true
    → is_bare_front bits state ≡ true → FirstIsByte tail → holds bits row (fields_of state (first_byte tail)) ≡ true
    → parts_fit bits row state (modrm_in row tail) sib ≡ true
unfolding parts_fit fields_of lock_fits
bare-fits bits row state tail sib bare start small h =
    let s = said row bare in
    let f = front bits state start in
    let k = held bits row (fields_of state (first_byte tail)) h in
    let at : opcode_holds row.plus row.opcode state.opcode ≡ true = (and_parts _ _ k.stands).1 in
    let is : ApartInOne row.map state.opcode = apart row.map row.plus row.opcode state.opcode s.opcode at in
    both _ _ (state-fits bits row state s f k.exists k.prefix k.size)
    (both _ _ (lead-fits bits row state (modrm_in row tail) s f.vex (and_parts _ _ k.stands).0 is)
    (both _ _ (modrm-fits row state.opcode tail s at small k.byte k.place k.reg)
    (both _ _ (ap (λ b. not b || (is_lockable row && is_memory_method (method_of (kind_at row 0)) (modrm_in row tail))) f.lock)
    (registers-fit bits row state (modrm_in row tail) sib s is))))

-- ---- the table

by_rule : map known_of table ≡ bare_rows
unfolding known_of row_is_bare has_one_immediate kind_is_bare opcode_is_bare method_of immediates_bytes immediate_bytes immediate_width bare_rows table rows_in spots integer_rows integer_flat x87_rows x87_flat sse_rows sse_flat vex_rows vex_flat
by_rule = refl

same_known : (a b : BareRow) → Some a ≡ Some b → a ≡ b
same_known a b e = cc

-- what is known of the code of a row
pub known-of_row : (code : ℕ) (row : Row) (known : BareRow) → slice_get table code ≡ Some row → slice_get bare_rows code ≡ Some known → known ≡ known_of row
known-of_row code row known at here =
    same_known known (known_of row)
    (sym here ∙ (ap (λ all. slice_get all code) (sym by_rule) ∙ (slice_get-map known_of table code ∙ ap (option_map known_of) at)))

-- the stored flag of a row is the one that the row has
pub known-bare : (row : Row) (known : BareRow) → known ≡ known_of row → known.bare ≡ row_is_bare row
unfolding known_of
known-bare row known e = ap (λ (k : BareRow). k.bare) e

-- and so are the bytes of its immediates
pub known-immediates : (size : Bits) (row : Row) (known : BareRow) → known ≡ known_of row → immediates_at size known ≡ immediates_bytes size row
unfolding known_of
known-immediates B16 row known e = ap (λ (k : BareRow). k.at_16) e
known-immediates B32 row known e = ap (λ (k : BareRow). k.at_32) e
known-immediates B64 row known e = ap (λ (k : BareRow). k.at_64) e

-- ---- the bytes behind the opcode byte

-- the byte at a place is the first of those from there on
pub front-of_drop : (xs : List ℕ) (n : ℕ) → slice_get xs n ≡ first_byte (drop n xs)
front-of_drop [] zero = refl
front-of_drop [] (suc n) = refl
front-of_drop (x ∷ xs) zero = refl
front-of_drop (x ∷ xs) (suc n) = front-of_drop xs n

-- the first of some bytes is a byte
pub first-is_byte : (xs : List ℕ) (n : ℕ) → ((k : ℕ) → Fits w8 (get_or xs k 0)) → FirstIsByte (drop n xs)
first-is_byte xs n h b e =
    let at : get_or xs n 0 ≡ b = get_or_from_slice_get xs n b 0 (front-of_drop xs n ∙ e) in
    let fits = h n in
    let lt : get_or xs n 0 < 256 = search (rules, fits) in
    omega (arith, lt, at)
