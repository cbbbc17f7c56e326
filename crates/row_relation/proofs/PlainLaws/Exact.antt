-- Where the ten conditions hold there is a plain spelling, and nowhere else; no other spelling is shorter.
use Rattle.std.proofs.Common.{◌≡◌, ℕ, ◌≤◌, ◌<◌, ◌^◌, Bool, true, false, ◌&&◌, ◌||◌, not, List, [], ◌∷◌, length, Option, Some, None, refl, ap, sym, ◌∙◌, subst, arith, slice_get, nat_le}
use Rattle.std.proofs.lemmas.Bool.{le-leb, leb-true, and_parts}
use Rattle.x86_values.specs.declared.Bits.{Bits}
use Rattle.x86_values.specs.declared.Bits.TheVariants.{B16, B32, B64}
use Rattle.x86_values.specs.declared.Code.{Code}
use Rattle.x86_values.specs.declared.Mem.{Mem}
use Rattle.x86_values.specs.declared.Operand.{Operand}
use Rattle.x86_values.specs.declared.Operand.TheVariants.{Absent as AbsentOperand, Reg, Mem as MemOperand, Imm, Near, Far}
use Rattle.x86_values.specs.declared.Instr.{Instr}
use Rattle.x86_values.specs.Wrapping.{width}
use Rattle.instruction_parts.specs.declared.row_types.Row.{Row}
use Rattle.instruction_parts.specs.declared.spelling.Spelling.{Spelling}
use Rattle.std.specs.List.{list_all}
use Rattle.instruction_parts.specs.Sizes.{exists_in}
use Rattle.instruction_parts.specs.Bytes.{bytes_of}
use Rattle.row_fit.specs.Fits.{fits, kind_at, immediate_bytes}
use Rattle.row_fit.specs.Sound.{Sound}
use Rattle.row_fit.proofs.FitLaws.{all_conditions}
use Rattle.row_fit.proofs.SoundLaws.{sound_conditions}
use Rattle.row_meaning.specs.Meaning.{meaning, instr_of}
use Rattle.plain_spelling.specs.Forms.{operand_at}
use Rattle.plain_spelling.specs.declared.addresses.AddressForm.{AddressForm}
use Rattle.plain_spelling.specs.declared.addresses.AddressForm.TheVariants.{Relative, Alone, Short, Wide}
use Rattle.plain_spelling.specs.Addresses.{form_of}
use Rattle.plain_spelling.specs.PlainTail.{plain_spelling, plain_len, plain_size, plain_next}
use Rattle.plain_spelling.specs.Expressible.{Suits, each_operand, failure, target_suits, near_reaches, address_reaches, kind_suits}
use Rattle.plain_spelling.specs.Values.{is_extended_of, distance}
use Rattle.plain_spelling.specs.Writable.{writable, writable_in, Writable, has_plain_size, class_allows_size, opcode_is_plain, kind_is_told, lock_is_legacy, nop_is_bare, rule_is_plain, place_is_plain, gather_is_whole}
use Rattle.row_relation.specs.Given as fit
use Rattle.row_relation.proofs.FitLengths.{plain_long}
use Rattle.row_relation.proofs.FitWhole.{plain_fits, plain_means}
use Rattle.row_relation.specs.GivenSpelling as need
use Rattle.row_relation.proofs.NeedWhole.{NeedsHold, needs_hold}
use Rattle.row_relation.proofs.PlainIs.{plain_is}
use Rattle.row_relation.proofs.Lengths.{length_same, four_of}
use Rattle.row_relation.proofs.One.{one_plain}
use Rattle.row_relation.specs.Spells.{IsSpelledBy, SpellsUnbounded}
use Rattle.row_relation.specs.PlainLaws.Plain.{IsPlainlySpelled, IsWritable, is_target, has_target}
use Rattle.plain_spelling.proofs.Failures.{failure-suits, suits-failure}

-- ---- a writable row in a mode in which it exists

or_right_not : (a b : Bool) → a ≡ true → (not a || b) ≡ true → b ≡ true
or_right_not a b ha h = rw ha at h

in_mode : (bits : Bits) (row : Row) → writable row ≡ true → writable_in bits row ≡ true
unfolding writable
in_mode B16 row h = (and_parts (writable_in B16 row) _ h).0
in_mode B32 row h = (and_parts (writable_in B32 row) _ (and_parts (writable_in B16 row) _ h).1).0
in_mode B64 row h = (and_parts (writable_in B64 row) _ (and_parts (writable_in B32 row) _ (and_parts (writable_in B16 row) _ h).1).1).0

-- a row that can be written can be written in each mode that has it
pub writable_row : (bits : Bits) (row : Row) → writable row ≡ true → exists_in bits row ≡ true → Writable bits row
unfolding writable writable_in
writable_row bits row h e =
    let a = in_mode bits row h in
    let size = has_plain_size bits row in
    let class = class_allows_size bits row in
    let opcode = opcode_is_plain bits row in
    let m : (size && (class && opcode)) ≡ true = or_right_not (exists_in bits row) (size && (class && opcode)) e a in
    let told = list_all (kind_is_told row) row.ops in
    let lock = lock_is_legacy row in
    let nop = nop_is_bare row in
    let rule = rule_is_plain row in
    let place = place_is_plain row in
    let gather = gather_is_whole row in
    let r1 = (and_parts (writable_in B16 row) (writable_in B32 row && (writable_in B64 row && (told && (lock && (nop && (rule && (place && gather))))))) h).1 in
    let r2 = (and_parts (writable_in B32 row) (writable_in B64 row && (told && (lock && (nop && (rule && (place && gather)))))) r1).1 in
    let r3 = (and_parts (writable_in B64 row) (told && (lock && (nop && (rule && (place && gather))))) r2).1 in
    let r4 = (and_parts told (lock && (nop && (rule && (place && gather)))) r3).1 in
    let r5 = (and_parts lock (nop && (rule && (place && gather))) r4).1 in
    let r6 = (and_parts nop (rule && (place && gather)) r5).1 in
    record {
      size = (and_parts size (class && opcode) m).0;
      class = (and_parts class opcode (and_parts size (class && opcode) m).1).0;
      opcode = (and_parts class opcode (and_parts size (class && opcode) m).1).1;
      told = (and_parts told (lock && (nop && (rule && (place && gather)))) r3).0;
      lock = (and_parts lock (nop && (rule && (place && gather))) r4).0;
      nop = (and_parts nop (rule && (place && gather)) r5).0;
      rule = (and_parts rule (place && gather) r6).0;
      place = (and_parts place gather (and_parts rule (place && gather) r6).1).0;
      gather = (and_parts place gather (and_parts rule (place && gather) r6).1).1;
    }

-- ---- from the conditions to the spelling

-- what is given of a suitable instruction of a table
pub given_fit : (table : List Row) (bits : Bits) (ip : ℕ) (row : Row) (i : Instr) → IsWritable table → slice_get table i.code.0 ≡ Some row → length i.ops ≡ 4 → Suits bits ip row i → fit.Given bits ip row i
given_fit table bits ip row i w at four a = record {
  is_sound = sound_conditions row (w.is_sound i.code.0 row at);
  is_writable = writable_row bits row (w.is_writable i.code.0 row at) a.exists;
  suits = a;
  four = four;
}

-- **where all ten conditions hold, the plain spelling is one, within 15 bytes**
pub plain_from : (table : List Row) (bits : Bits) (ip : ℕ) (row : Row) (i : Instr) → IsWritable table → slice_get table i.code.0 ≡ Some row → length i.ops ≡ 4 → failure bits ip row i ≡ None → IsPlainlySpelled table bits ip (bytes_of row (plain_spelling bits ip row i)) i
plain_from table bits ip row i w at four h =
    let a = failure-suits bits ip row i h in
    let g = given_fit table bits ip row i w at four a.0 in
    let n = plain_long bits ip row i a.0.kinds in
    record {
      row = row;
      row_is = at;
      spelling = plain_spelling bits ip row i;
      bytes_are = refl;
      fitting = plain_fits bits ip row i g;
      plain = plain_is bits ip row i g;
      means = plain_means bits ip row i g;
      is_short = rw n (leb-true (plain_len bits row i) 15 a.1);
    }

-- ---- from a spelling to the conditions

given_need : (table : List Row) (bits : Bits) (ip : ℕ) (row : Row) (s : Spelling) (i : Instr) → IsWritable table → slice_get table i.code.0 ≡ Some row → fits bits row s ≡ true → meaning bits ip i.code row s ≡ i → need.Given bits ip i.code row s i
given_need table bits ip row s i w at f m =
    let a = all_conditions bits row s f in
    record {
      is_sound = sound_conditions row (w.is_sound i.code.0 row at);
      is_writable = writable_row bits row (w.is_writable i.code.0 row at) a.mode;
      fitting = a;
      means = m;
    }

-- the conditions 1 to 9 hold where the targets are reached
all_hold : (bits : Bits) (ip : ℕ) (row : Row) (s : Spelling) (i : Instr) → NeedsHold bits ip row s i → each_operand (target_suits bits ip row i) ≡ true → Suits bits ip row i
all_hold bits ip row s i n targets = record {
  exists = n.exists;
  kinds = n.kinds;
  registers = n.registers;
  addresses = n.addresses;
  displacements = n.displacements;
  immediates = n.immediates;
  targets = targets;
  prefixes = n.prefixes;
  address_size = n.address_size;
}

same_row : (table : List Row) (code : ℕ) (row other : Row) → slice_get table code ≡ Some row → slice_get table code ≡ Some other → row ≡ other
same_row table code row other a b = cc

-- what is plainly spelled is as long as the constructed spelling
constructed_long : (table : List Row) (bits : Bits) (ip : ℕ) (bytes : List ℕ) (i : Instr) → IsWritable table → (p : IsPlainlySpelled table bits ip bytes i) → plain_len bits p.row i ≡ length (bytes_of p.row p.spelling)
constructed_long table bits ip bytes i w p =
    length_same bits ip i.code p.row p.spelling i (given_need table bits ip p.row p.spelling i w p.row_is p.fitting p.means) (four_of bits ip p.row p.spelling i p.means) p.plain

-- **where an instruction is plainly spelled, all ten conditions hold**
pub holds_of_plain : (table : List Row) (bits : Bits) (ip : ℕ) (bytes : List ℕ) (row : Row) (i : Instr) → IsWritable table → slice_get table i.code.0 ≡ Some row → IsPlainlySpelled table bits ip bytes i → failure bits ip row i ≡ None
holds_of_plain table bits ip bytes row i w at p =
    let s = p.spelling in
    let g = given_need table bits ip p.row s i w p.row_is p.fitting p.means in
    let n = needs_hold bits ip i.code p.row s i g in
    let l = constructed_long table bits ip bytes i w p in
    let short : plain_len bits p.row i ≤ 15 = rw (l, ← p.bytes_are) p.is_short in
    subst (λ (r : Row). failure bits ip r i ≡ None) (same_row table i.code.0 p.row row p.row_is at)
    (suits-failure bits ip p.row i (all_hold bits ip p.row s i n (n.targets l)) (le-leb (plain_len bits p.row i) 15 short))

-- **an instruction is plainly spelled by one byte string at most**
constructed_bytes : (table : List Row) (bits : Bits) (ip : ℕ) (bytes : List ℕ) (i : Instr) → IsWritable table → (p : IsPlainlySpelled table bits ip bytes i) → bytes ≡ bytes_of p.row (plain_spelling bits ip p.row i)
constructed_bytes table bits ip bytes i w p =
    p.bytes_are
    ∙ ap (bytes_of p.row) (one_plain bits ip p.row p.spelling i (given_need table bits ip p.row p.spelling i w p.row_is p.fitting p.means) (four_of bits ip p.row p.spelling i p.means) p.plain)

-- an instruction has one plain spelling
pub plain_is_one : (table : List Row) (bits : Bits) (ip : ℕ) (bytes others : List ℕ) (i : Instr) → IsWritable table → IsPlainlySpelled table bits ip bytes i → IsPlainlySpelled table bits ip others i → bytes ≡ others
plain_is_one table bits ip bytes others i w p q =
    constructed_bytes table bits ip bytes i w p ∙ ap (λ (r : Row). bytes_of r (plain_spelling bits ip r i)) (same_row table i.code.0 p.row q.row p.row_is q.row_is)
    ∙ sym (constructed_bytes table bits ip others i w q)

-- **every spelling of an instruction is at least as long as its plain one**
pub plain_is_least : (table : List Row) (bits : Bits) (ip : ℕ) (bytes others : List ℕ) (i : Instr) → IsWritable table → IsPlainlySpelled table bits ip bytes i → SpellsUnbounded table bits ip others i → length bytes ≤ length others
plain_is_least table bits ip bytes others i w p (row, at, (s, e)) =
    let g = given_need table bits ip row s i w at e.fitting e.means in
    let n = needs_hold bits ip i.code row s i g in
    let same = same_row table i.code.0 p.row row p.row_is at in
    let l : length bytes ≡ plain_len bits row i = ap length p.bytes_are ∙ sym (constructed_long table bits ip bytes i w p) ∙ ap (λ (r : Row). plain_len bits r i) same in
    omega (arith, l, n.least, ap length e.bytes_are)

-- ---- without a target

or_false_left : (a b : Bool) → (a || b) ≡ false → a ≡ false
or_false_left true b h = h
or_false_left false b h = refl

or_false_right : (a b : Bool) → (a || b) ≡ false → b ≡ false
or_false_right true b h = cc
or_false_right false b h = h

by_form : (next : ℕ) (m : Mem) (form : AddressForm) → (elim form [ Relative size ↦ true | _ ↦ false ]) ≡ false → (elim form [ Relative size ↦ is_extended_of 4 (width size) (distance size next m.disp) | _ ↦ true ]) ≡ true
by_form next m (Relative size) h = cc
by_form next m Alone h = refl
by_form next m (Short n) h = refl
by_form next m Wide h = refl

reached_at : (next : ℕ) (m : Mem) → is_target (MemOperand m) ≡ false → address_reaches next m ≡ true
unfolding is_target address_reaches
reached_at next m h = by_form next m (form_of m.base m.index) h

-- an operand that is no target asks for no reach
by_operand : (size : Bits) (next n : ℕ) (op : Operand) → is_target op ≡ false → (elim op [ Near target ↦ near_reaches size next n target | MemOperand m ↦ address_reaches next m | _ ↦ true ]) ≡ true
unfolding is_target
by_operand size next n AbsentOperand h = refl
by_operand size next n (Reg r) h = refl
by_operand size next n (MemOperand m) h = reached_at next m h
by_operand size next n (Imm x) h = refl
by_operand size next n (Near t) h = cc
by_operand size next n (Far a b) h = refl

untargeted : (bits : Bits) (ip : ℕ) (row : Row) (i : Instr) (n : ℕ) → is_target (operand_at i n) ≡ false → target_suits bits ip row i n ≡ true
unfolding target_suits
untargeted bits ip row i n h =
    by_operand (plain_size bits row) (plain_next bits ip row i) (immediate_bytes (plain_size bits row) (kind_at row n)) (operand_at i n) h

all_untargeted : (bits : Bits) (ip : ℕ) (row : Row) (i : Instr) → has_target i ≡ false → each_operand (target_suits bits ip row i) ≡ true
unfolding has_target
all_untargeted bits ip row i h =
    let t = λ (n : ℕ). is_target (operand_at i n) in
    let r1 = or_false_right (t 0) (t 1 || (t 2 || t 3)) h in
    let r2 = or_false_right (t 1) (t 2 || t 3) r1 in
    rw (
      untargeted bits ip row i 0 (or_false_left (t 0) (t 1 || (t 2 || t 3)) h),
      untargeted bits ip row i 1 (or_false_left (t 1) (t 2 || t 3) r1),
      untargeted bits ip row i 2 (or_false_left (t 2) (t 3) r2),
      untargeted bits ip row i 3 (or_false_right (t 2) (t 3) r2),
    ) refl

-- **an instruction without a target that has a spelling has a plain one**
pub plain_of_spelled : (table : List Row) (bits : Bits) (ip : ℕ) (bytes : List ℕ) (i : Instr) → IsWritable table → has_target i ≡ false → length bytes ≤ 15 → SpellsUnbounded table bits ip bytes i → (plain : List ℕ) × IsPlainlySpelled table bits ip plain i
plain_of_spelled table bits ip bytes i w none short (row, at, (s, e)) =
    let g = given_need table bits ip row s i w at e.fitting e.means in
    let n = needs_hold bits ip i.code row s i g in
    let four = four_of bits ip row s i e.means in
    let all = all_hold bits ip row s i n (all_untargeted bits ip row i none) in
    let within = le-leb (plain_len bits row i) 15 (omega (arith, n.least, ap length e.bytes_are)) in
    (bytes_of row (plain_spelling bits ip row i), plain_from table bits ip row i w at four (suits-failure bits ip row i all within))
