-- What the tail of a fitting spelling says to the operands of its row.
use Rattle.std.proofs.Common.{◌≡◌, inl, inr, ℕ, suc, ◌<◌, Bool, true, false, ◌&&◌, not, ◌==◌, nat_lt, List, [], ◌∷◌, length, Option, Some, None, is_some, is_none, refl, ap, sym, ◌∙◌, subst, arith, if◌then◌else◌}
use Rattle.std.proofs.lemmas.Bool.{and_parts, cases_Bool, eqb-true, not-true}
use Rattle.instruction_parts.proofs.Tests.{or_right}
use Rattle.std.specs.Prelude.{slice_index_or}
use Rattle.std.specs.List.{list_any, list_all}
use borrow.Author.Tests.{ltb-true}
use Rattle.x86_values.specs.declared.Bits.{Bits}
use Rattle.x86_values.specs.declared.Bits.TheVariants.{B16, B32, B64}
use Rattle.instruction_parts.specs.declared.row_types.Row.{Row}
use Rattle.instruction_parts.specs.declared.row_types.Plus.{Plus}
use Rattle.instruction_parts.specs.declared.row_types.ModRmRule.{ModRmRule}
use Rattle.instruction_parts.specs.declared.row_types.ModRmRule.TheVariants.{No as NoModRm, Any as AnyModRm, Digit, Fixed as FixedByte}
use Rattle.instruction_parts.specs.declared.row_types.OpKind.{OpKind}
use Rattle.instruction_parts.specs.declared.row_types.OpKind.TheVariants.{Absent}
use Rattle.instruction_parts.specs.declared.kinds.Method.{Method}
use Rattle.instruction_parts.specs.declared.kinds.Method.TheVariants as method
use Rattle.instruction_parts.specs.declared.spelling.Vex.{Vex}
use Rattle.instruction_parts.specs.declared.spelling.ModRm.{ModRm}
use Rattle.instruction_parts.specs.declared.spelling.Sib.{Sib}
use Rattle.instruction_parts.specs.declared.spelling.Spelling.{Spelling}
use Rattle.instruction_parts.specs.declared.spelling.PrefixState.{PrefixState}
use Rattle.instruction_parts.specs.Kinds.{method_of}
use Rattle.instruction_parts.specs.Counting.{is_16, is_64, rex_bit}
use Rattle.instruction_parts.specs.Sizes.{is_vex_row, address_size, state_size, state_address_size, size_bytes, bit_x}
use Rattle.instruction_parts.specs.Bytes.{state_of}
use Rattle.row_fit.specs.Fits.{Fits, kind_at, reads_by, reads_mode, is_gather, is_offset, is_any_mode, has_modrm, same_bool, needs_sib, displacement_bytes, address_fits, lengths_fit, immediates_bytes, place_fits, place_allows, place_of, modrm_rule_fits, opcode_and_modrm_fit, opcode_fits, is_memory_method, modrm_in_range, gather_fits, is_vex_of_mode, vex_in_range}
use Rattle.row_fit.specs.Sound.{Sound, reads_rm, has_modrm_rule}
use Rattle.row_fit.proofs.FitLaws.{modrm_range, sib_range, ranges_behind}
use Rattle.row_meaning.specs.Meaning.{tail_of}
use Rattle.plain_spelling.specs.Addresses.{has_address_size}
use Rattle.plain_spelling.proofs.Asked.{four_kinds, proper, one_rm}
use Rattle.row_relation.proofs.AddressCases.{impossible, if_yes}
use Rattle.row_relation.proofs.NeedStates.{StateIs, state_is}
use Rattle.row_relation.proofs.NeedFront.{short_vex_is}
use Rattle.row_relation.proofs.NeedWalking.{all_kinds}
use Rattle.row_relation.proofs.NeedVariants.{tail_is, reads_at}
use Rattle.row_relation.proofs.NeedReadShapes.{Reading}
use Rattle.row_relation.proofs.NeedReadOperands.{TailReads}

-- ---- the state

-- the address size of a mode is one that it has
pub has_size : (bits : Bits) (given : Bool) → has_address_size bits (address_size bits given) ≡ true
unfolding has_address_size address_size
has_size B16 true = refl
has_size B16 false = refl
has_size B32 true = refl
has_size B32 false = refl
has_size B64 true = refl
has_size B64 false = refl

vex_x : (bits : Bits) (v : Vex) → is_64 bits ≡ false → is_vex_of_mode bits v ≡ true → vex_in_range (Some v) ≡ true → v.x ≡ false
unfolding is_vex_of_mode
vex_x bits v mode h r = elim (cases_Bool v.three) [
  | inr short ↦ (short_vex_is v r short).x
  | inl three ↦
      (let rest = (and_parts (not v.r) (if v.three then not v.x else nat_lt v.vvvv 8) (or_right (is_64 bits) (not v.r && (if v.three then not v.x else nat_lt v.vvvv 8)) mode h)).1 in
      not-true v.x (sym (if_yes v.three (not v.x) (nat_lt v.vvvv 8) three) ∙ rest))
]

shared : (st : PrefixState) (o : Option Vex) → st.vex ≡ o → bit_x st ≡ (elim o [ None ↦ rex_bit 1 st.rex | Some v ↦ v.x ])
unfolding bit_x
shared st o e = ap (λ (x : Option Vex). elim x [ None ↦ rex_bit 1 st.rex | Some v ↦ v.x ]) e

-- outside 64-bit mode X is 0
no_x : (bits : Bits) (row : Row) (st : PrefixState) → StateIs bits row st → is_64 bits ≡ false → bit_x st ≡ false
no_x bits row st s mode = elim (cases_Bool (is_vex_row row)) [
  | inl vex ↦ (let v = s.vex vex in shared st (Some v.v) v.stands ∙ vex_x bits v.v mode v.mode v.range)
  | inr legacy ↦ shared st None (s.legacy legacy) ∙ ap (λ (o : Option ℕ). rex_bit 1 o) (s.rex_mode mode)
]

-- ---- the tail

same_from : (a b : Bool) → same_bool a b ≡ true → a ≡ b
same_from true b h = sym h
same_from false b h = sym (not-true b h)

-- SIB and displacement are as ModRM asks
asked_by : (asize : Bits) (row : Row) (m : ModRm) (sib : Option Sib) (given : ℕ) → reads_mode row ≡ true → address_fits asize row (Some m) sib given ≡ true → (is_some sib ≡ needs_sib asize m) × (given ≡ displacement_bytes asize m sib)
unfolding address_fits
asked_by asize row m sib given reads h =
    let k = sym (if_yes (reads_mode row) (same_bool (is_some sib) (needs_sib asize m) && given == displacement_bytes asize m sib) (is_none sib && given == 0) reads) ∙ h in (
      same_from (is_some sib) (needs_sib asize m) (and_parts (same_bool (is_some sib) (needs_sib asize m)) (given == displacement_bytes asize m sib) k).0,
      eqb-true given (displacement_bytes asize m sib) (and_parts (same_bool (is_some sib) (needs_sib asize m)) (given == displacement_bytes asize m sib) k).1,
    )

address_of : (bits : Bits) (row : Row) (st : PrefixState) (m : Option ModRm) (sib : Option Sib) (disp imm : ℕ) → lengths_fit bits row st m sib disp imm ≡ true → address_fits (state_address_size bits st) row m sib disp ≡ true
unfolding lengths_fit
address_of bits row st m sib disp imm h = (and_parts (address_fits (state_address_size bits st) row m sib disp) (imm == immediates_bytes (state_size bits row st) row) h).0

-- no operand of a row is read so
none_passes : (p : Method → Bool) (kinds : List OpKind) → ((k : ℕ) → k < length kinds → p (method_of (slice_index_or kinds k Absent)) ≡ false) → list_any (λ kind. p (method_of kind)) kinds ≡ false
none_passes p [] h = refl
none_passes p (kind ∷ kinds) h = rw (h 0 (omega arith)) (none_passes p kinds (λ k below. h (suc k) (omega arith)))

any_mode_reads : (how : Method) → is_any_mode how ≡ true → reads_rm how ≡ true
any_mode_reads method.AnyMode h = refl
any_mode_reads _ h = cc

-- a row with another operand in r/m reads mod
reads_mod : (row : Row) (n : ℕ) → Sound row → n < 4 → reads_rm (method_of (kind_at row n)) ≡ true → is_any_mode (method_of (kind_at row n)) ≡ false → reads_mode row ≡ true
unfolding reads_mode
reads_mod row n s below reads other = ap not (none_passes is_any_mode row.ops each)
  where
    each : (k : ℕ) → k < length row.ops → is_any_mode (method_of (slice_index_or row.ops k Absent)) ≡ false
    each k small = elim (cases_Bool (is_any_mode (method_of (kind_at row k)))) [
      | inr none ↦ none
      | inl any ↦
          (let four = four_kinds row s in
          let same : k ≡ n = one_rm row k n s (omega arith) below (any_mode_reads (method_of (kind_at row k)) any) reads in
          subst (λ (j : ℕ). is_any_mode (method_of (kind_at row j)) ≡ false) (sym same) other)
    ]

-- an operand that is memory by ModRM
record ByModRm (how : Method) (m : ModRm) : Type 0 where
  mode3 : m.mode3 < 3
  reads : reads_rm how ≡ true
  other : is_any_mode how ≡ false

by_modrm : (how : Method) (o : Option ModRm) (m : ModRm) → o ≡ Some m → is_memory_method how o ≡ true → place_allows (place_of how) m ≡ true → (how ≡ method.Offset → true ≡ false) → ByModRm how m
unfolding is_memory_method place_allows
by_modrm method.RegisterOrMemory o m e h p no1 = (let k : nat_lt m.mode3 3 ≡ true = rw e at h in record { mode3 = ltb-true m.mode3 3 k; reads = refl; other = refl })
by_modrm method.MemoryOnly o m e h p no1 = record { mode3 = ltb-true m.mode3 3 p; reads = refl; other = refl }
by_modrm method.Gather o m e h p no1 = record { mode3 = ltb-true m.mode3 3 p; reads = refl; other = refl }
by_modrm method.Offset o m e h p no1 = impossible (no1 refl)
by_modrm _ o m e h p no1 = impossible (sym h)

place_at : (row : Row) (n : ℕ) (m : ModRm) → Sound row → n < 4 → place_fits row (Some m) ≡ true → place_allows (place_of (method_of (kind_at row n))) m ≡ true
unfolding place_fits
place_at row n m s below h =
    let four = four_kinds row s in
    all_kinds (λ kind. place_allows (place_of (method_of kind)) m) row.ops n (omega arith) (and_parts (place_allows row.place m) (list_all (λ kind. place_allows (place_of (method_of kind)) m) row.ops) h).1

rm_small : (m : ModRm) → modrm_in_range (Some m) ≡ true → m.rm < 8
unfolding modrm_in_range
rm_small m h = ltb-true m.rm 8 (and_parts (nat_lt m.reg 8) (nat_lt m.rm 8) (and_parts (nat_lt m.mode3 4) (nat_lt m.reg 8 && nat_lt m.rm 8) h).1).1

no_rule : (plus : Plus) (rule : ModRmRule) (m : Option ModRm) → modrm_rule_fits plus rule m ≡ true → has_modrm_rule rule ≡ false → m ≡ None
unfolding modrm_rule_fits
no_rule plus NoModRm None h e = refl
no_rule plus NoModRm (Some m) h e = cc
no_rule plus AnyModRm m h e = cc
no_rule plus (Digit d) m h e = cc
no_rule plus (FixedByte b) m h e = cc

-- a ModRM that fits with the opcode byte fits the row's rule
pub rule_of : (row : Row) (opcode : ℕ) (m : Option ModRm) → opcode_and_modrm_fit row opcode m ≡ true → modrm_rule_fits row.plus row.modrm m ≡ true
unfolding opcode_and_modrm_fit
rule_of row opcode m h = (and_parts (modrm_rule_fits row.plus row.modrm m) (place_fits row m) (and_parts (opcode_fits row opcode) (modrm_rule_fits row.plus row.modrm m && place_fits row m) h).1).0

-- a row with an absolute address has no ModRM
no_modrm : (bits : Bits) (row : Row) (s : Spelling) → Sound row → Fits bits row s → reads_by is_offset row ≡ true → s.modrm ≡ None
no_modrm bits row s sound f any = no_rule row.plus row.modrm s.modrm (rule_of row s.opcode s.modrm f.opcode) ((proper row sound).offset any)

absolute_count : (asize : Bits) (row : Row) (m : Option ModRm) (sib : Option Sib) (given : ℕ) → m ≡ None → reads_by is_offset row ≡ true → address_fits asize row m sib given ≡ true → given ≡ size_bytes asize
unfolding address_fits
absolute_count asize row (Some m) sib given e any h = cc
absolute_count asize row None sib given e any h =
    eqb-true given (if reads_by is_offset row then size_bytes asize else 0) (and_parts (is_none sib) (given == (if reads_by is_offset row then size_bytes asize else 0)) h).1
    ∙ if_yes (reads_by is_offset row) (size_bytes asize) 0 any

wide_from : (asize : Bits) (o : Option ModRm) → has_modrm (λ m. needs_sib asize m) o ≡ true → (is_16 asize ≡ false) × (is_some o ≡ true)
unfolding needs_sib
wide_from asize None h = impossible (sym h)
wide_from asize (Some m) h = (not-true (is_16 asize) (and_parts (not (is_16 asize)) (nat_lt m.mode3 3 && m.rm == 4) h).0, refl)

gather_needs : (bits : Bits) (st : PrefixState) (m : Option ModRm) (sib : Option Sib) → gather_fits bits st m sib ≡ true → has_modrm (λ m. needs_sib (state_address_size bits st) m) m ≡ true
unfolding gather_fits
gather_needs bits st m sib h = (and_parts (has_modrm (λ m. needs_sib (state_address_size bits st) m) m) _ h).0

-- a gather has no 16-bit addressing
pub gather_is_wide : (bits : Bits) (ip : ℕ) (row : Row) (s : Spelling) → Sound row → Fits bits row s → reads_by is_gather row ≡ true → (is_16 (state_address_size bits (state_of bits row s)) ≡ false) × (is_some s.modrm ≡ true)
gather_is_wide bits ip row s sound f any =
    let st = state_of bits row s in
    wide_from (state_address_size bits st) s.modrm (gather_needs bits st s.modrm s.sib ((tail_is bits ip row s sound f).gather any))

reading_at : (bits : Bits) (row : Row) (s : Spelling) (n : ℕ) (m : ModRm) → Sound row → Fits bits row s → n < 4 → s.modrm ≡ Some m → ByModRm (method_of (kind_at row n)) m → Reading bits (state_address_size bits (state_of bits row s)) (state_of bits row s) m s.sib s.disp.items
reading_at bits row s n m sound f below e b =
    let st = state_of bits row s in
    let asize = state_address_size bits st in
    let fits = subst (λ (o : Option ModRm). address_fits asize row o s.sib (length s.disp.items) ≡ true) e (address_of bits row st s.modrm s.sib (length s.disp.items) (length s.imm.items) f.lengths) in
    let asks = asked_by asize row m s.sib (length s.disp.items) (reads_mod row n sound below b.reads b.other) fits in
    record {
      has = has_size bits st.addr67;
      mode3 = b.mode3;
      rm = rm_small m (subst (λ (o : Option ModRm). modrm_in_range o ≡ true) e (modrm_range s f.ranges));
      sib_is = asks.0;
      sib_range = sib_range s f.ranges;
      len = asks.1;
      bytes = (ranges_behind s f.ranges).disp;
      x = no_x bits row st (state_is bits row s f);
    }

-- **what the tail of a fitting spelling says to an operand of the row**
pub tail_reads : (bits : Bits) (ip : ℕ) (row : Row) (s : Spelling) (n : ℕ) → Sound row → Fits bits row s → n < 4 → TailReads bits row (state_of bits row s) (tail_of bits ip row s) (method_of (kind_at row n))
tail_reads bits ip row s n sound f below =
    let st = state_of bits row s in
    let how = method_of (kind_at row n) in
    let tail = tail_is bits ip row s sound f in
    let fits = address_of bits row st s.modrm s.sib (length s.disp.items) (length s.imm.items) f.lengths in
    record {
      reading = λ h m e. reading_at bits row s n m sound f below e
          (by_modrm how s.modrm m e h (place_at row n m sound below (subst (λ (o : Option ModRm). place_fits row o ≡ true) e tail.place))
          (λ k. apart s.modrm m e (no_modrm bits row s sound f (reads_at is_offset row n sound.four_operands below (ap is_offset k)))));
      modrm = λ e. tail.modrm ((proper row sound).rm (reads_at reads_rm row n sound.four_operands below (ap reads_rm e)));
      wide = λ e. (let any = reads_at is_gather row n sound.four_operands below (ap is_gather e) in
          let w = gather_is_wide bits ip row s sound f any in (w.0, w.1, tail.sib any));
      absolute = λ e. (let any = reads_at is_offset row n sound.four_operands below (ap is_offset e) in
          absolute_count (state_address_size bits st) row s.modrm s.sib (length s.disp.items) (no_modrm bits row s sound f any) any fits);
      bytes = (ranges_behind s f.ranges).disp;
    }
  where
    apart : (o : Option ModRm) (m : ModRm) → o ≡ Some m → o ≡ None → true ≡ false
    apart o m e k = cc
