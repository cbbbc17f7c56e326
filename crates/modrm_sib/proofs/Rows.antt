-- What an answer says of bytes whose front is known.
use Rattle.std.proofs.Common.{◌≡◌, inl, inr, ℕ, ◌+◌, ◌<◌, ◌≤◌, Bool, true, false, ◌&&◌, ◌==◌, List, [], ◌∷◌, ◌++◌, length, drop, Option, Some, None, Result, Ok, Err, refl, ap, sym, ◌∙◌, subst, arith, append_assoc, length-append, if◌then◌else◌, nat_le, nat_lt, suc, get_or, rules, Fits, w8}
use Rattle.std.specs.Prelude.{IfOk}
use Rattle.std.proofs.lemmas.List.{append-nil}
use Rattle.std.proofs.lemmas.Bool.{leb-true, leb-false, lt-ltb, and_parts, cases_Bool}
use Rattle.x86_values.specs.declared.Bits.{Bits}
use Rattle.x86_values.specs.declared.Bits.TheVariants.{B16, B32, B64}
use Rattle.x86_values.specs.declared.Code.{Code}
use Rattle.x86_values.specs.declared.Decoded.{Decoded}
use Rattle.instruction_parts.specs.declared.row_types.Row.{Row}
use Rattle.instruction_parts.specs.declared.spelling.ModRm.{ModRm}
use Rattle.instruction_parts.specs.declared.spelling.Sib.{Sib}
use Rattle.instruction_parts.specs.declared.spelling.Spelling.{Spelling}
use Rattle.instruction_parts.specs.declared.spelling.PrefixState.{PrefixState}
use Rattle.instruction_parts.specs.Counting.{is_16}
use Rattle.instruction_parts.specs.Sizes.{state_size, state_address_size, size_bytes}
use Rattle.instruction_parts.specs.Bytes.{bytes_of, state_of, lead_bytes, modrm_bytes, sib_bytes}
use Rattle.instruction_parts.specs.Front.{Front, Open, Forbidden as ForbiddenFront, Known, front_of, long_front, within_15}
use Rattle.row_fit.specs.Fits.{are_bytes, immediates_bytes, displacement_bytes, reads_by, is_offset, reads_mode, full_displacement, is_displacement_alone}
use Rattle.row_fit.specs.FrontParts.{Parted}
use Rattle.row_fit.specs.Sound.{sound, immediates_are_short}
use Rattle.row_fit.proofs.SoundLaws.{sound_conditions}
use Rattle.row_fit.proofs.FrontConverse.{same_state, front_converse}
use Rattle.row_fit.proofs.FrontGrows.{front-extends}
use Rattle.row_meaning.specs.Meaning.{meaning, tail, tail_of, instr_of, next_address}
use Rattle.row_relation.specs.RowReading.{RowReads, RowReadsNothing, RowCanGoOn}
use Rattle.modrm_sib.specs.declared.TailError.{TailError}
use Rattle.modrm_sib.specs.declared.TailError.TheVariants.{Ended, Forbidden}
use Rattle.modrm_sib.specs.Parts.{displacement_len}
use Rattle.modrm_sib.specs.Answer.{tail_answer, IsOver, ReadsNothingShort}
use Rattle.modrm_sib.proofs.Tails.{both, whole, tail_of_spelling, spelling_of_tail, used_is, part_bytes}
use Rattle.modrm_sib.proofs.Tells.{Tells, ReadTail, NoTail, NeverTail, GoesOn, tail_tells}

-- ---- the front

within_known : (given : ℕ) (f : Front) (state : PrefixState) → within_15 given f ≡ Known state → (f ≡ Known state) × (state.used < 15)
unfolding within_15
within_known given Open state h = elim (cases_Bool (nat_le 15 given)) [
  | inl full ↦ (let k : ForbiddenFront ≡ Known state = rw full at h in cc)
  | inr few ↦ (let k : Open ≡ Known state = rw few at h in cc)
]
within_known given ForbiddenFront state h = cc
within_known given (Known other) state h = elim (cases_Bool (nat_le 15 other.used)) [
  | inl full ↦ (let k : ForbiddenFront ≡ Known state = rw full at h in cc)
  | inr few ↦
      let k : Known other ≡ Known state = rw few at h in
      let used = leb-false 15 other.used few in
      let same = ap (λ (x : PrefixState). x.used) (same_state other state k) in
      (k, omega arith)
]

-- a known front ends within 15 bytes
pub front_known : (bits : Bits) (bytes : List ℕ) (state : PrefixState) → front_of bits bytes ≡ Known state → (long_front bits bytes ≡ Known state) × (state.used < 15)
unfolding front_of
front_known bits bytes state h = within_known (length bytes) (long_front bits bytes) state h

-- ---- from the tail to the row

-- bytes whose front is known, with what stands behind it
pub record Opened (bits : Bits) (bytes : List ℕ) (state : PrefixState) : Type 0 where
  pub parted : Parted bits bytes state
  pub bytes_are : are_bytes bytes ≡ true
  pub front : long_front bits bytes ≡ Known state

-- bytes whose front is known are the prefixes, the lead bytes, the opcode byte and a rest
pub opened : (bits : Bits) (bytes : List ℕ) (state : PrefixState) → are_bytes bytes ≡ true → front_of bits bytes ≡ Known state → Opened bits bytes state
opened bits bytes state r h =
    let f = front_known bits bytes state h in
    record { parted = front_converse bits bytes state r f.0; bytes_are = r; front = f.0 }

reads_nothing : (bits : Bits) (row : Row) (bytes : List ℕ) (state : PrefixState) (o : Opened bits bytes state) → NoTail bits row state o.parted.rest → RowReadsNothing bits row bytes
reads_nothing bits row bytes state o none = λ s behind h e.
    let t = tail_of_spelling bits row bytes state o.parted s [] behind h (front-extends bits bytes [] state o.front) (sym e ∙ sym (append-nil bytes)) in
    none s.modrm s.sib s.disp.items s.imm.items behind t.fitting (t.whole_is ∙ append-nil o.parted.rest)

nothing_goes_on : (bits : Bits) (row : Row) (bytes : List ℕ) (state : PrefixState) (o : Opened bits bytes state) → NeverTail bits row state o.parted.rest → RowCanGoOn bits row bytes → ⊥
nothing_goes_on bits row bytes state o never g =
    let s = g.spelling in
    let t = tail_of_spelling bits row bytes state o.parted s g.more [] g.fitting (front-extends bits bytes g.more state o.front) (append-nil (bytes_of row s) ∙ g.bytes_are) in
    never s.modrm s.sib s.disp.items s.imm.items [] g.more t.fitting t.whole_is

never_is_none : (bits : Bits) (row : Row) (state : PrefixState) (rest : List ℕ) → NeverTail bits row state rest → NoTail bits row state rest
never_is_none bits row state rest never = λ m sib d i behind fit e. never m sib d i behind [] fit (e ∙ sym (append-nil rest))

can_go_on : (bits : Bits) (row : Row) (bytes : List ℕ) (state : PrefixState) (o : Opened bits bytes state) → GoesOn bits row state o.parted.rest → RowCanGoOn bits row bytes
can_go_on bits row bytes state o g =
    let p = o.parted in
    let s = spelling_of_tail bits row bytes state p g.modrm g.sib g.disp g.imm o.bytes_are g.fitting in
    let shown : p.prefixes ++ (lead_bytes state.map state.vex ++ (state.opcode ∷ (p.rest ++ g.more))) ≡ (p.prefixes ++ (lead_bytes state.map state.vex ++ (state.opcode ∷ p.rest))) ++ g.more = simp append_assoc in
    record {
      spelling = s.spelling;
      more = g.more;
      some_more = g.some_more;
      fitting = s.fitting;
      bytes_are = s.bytes_are ∙ ap (λ (x : List ℕ). p.prefixes ++ (lead_bytes state.map state.vex ++ (state.opcode ∷ x))) g.bytes_are
          ∙ shown ∙ ap (λ (x : List ℕ). x ++ g.more) (sym p.bytes_are);
    }

-- the meaning of a spelling by its state and its tail
meaning_is : (bits : Bits) (ip : ℕ) (code : Code) (row : Row) (s : Spelling) (state : PrefixState) (m : Option ModRm) (sib : Option Sib) (d i : List ℕ) (len : ℕ) → state_of bits row s ≡ state → s.modrm ≡ m → s.sib ≡ sib → s.disp.items ≡ d → s.imm.items ≡ i → length (bytes_of row s) ≡ len → meaning bits ip code row s ≡ instr_of bits code row state (tail m sib d (next_address bits ip len)) i
unfolding meaning
meaning_is bits ip code row s state m sib d i len e1 e2 e3 e4 e5 e6 =
    ap (λ (x : PrefixState). instr_of bits code row x (tail_of bits ip row s) s.imm.items) e1
    ∙ ap (λ (x : Option ModRm). instr_of bits code row state (tail x s.sib s.disp.items (next_address bits ip (length (bytes_of row s)))) s.imm.items) e2
    ∙ ap (λ (x : Option Sib). instr_of bits code row state (tail m x s.disp.items (next_address bits ip (length (bytes_of row s)))) s.imm.items) e3
    ∙ ap (λ (x : List ℕ). instr_of bits code row state (tail m sib x (next_address bits ip (length (bytes_of row s)))) s.imm.items) e4
    ∙ ap (λ (x : List ℕ). instr_of bits code row state (tail m sib d (next_address bits ip (length (bytes_of row s)))) x) e5
    ∙ ap (λ (x : ℕ). instr_of bits code row state (tail m sib d (next_address bits ip x)) i) e6

-- the length of prefixes, a lead, an opcode byte and a tail
length_parts : (ps lead : List ℕ) (o : ℕ) (xs bytes : List ℕ) (used len : ℕ) → bytes ≡ ps ++ (lead ++ (o ∷ xs)) → used ≡ length ps + length lead → len ≡ used + 1 + length xs → length bytes ≡ len
length_parts ps lead o xs bytes used len e u l =
    let l1 = ap length e in
    let l2 = length-append ps (lead ++ (o ∷ xs)) in
    let l3 = length-append lead (o ∷ xs) in
    omega arith

row_reads : (bits : Bits) (ip : ℕ) (code : Code) (row : Row) (bytes : List ℕ) (state : PrefixState) (o : Opened bits bytes state) (d : Decoded) → ReadTail bits ip state code row o.parted.rest d → RowReads bits ip code row bytes d
row_reads bits ip code row bytes state o d t =
    let p = o.parted in
    let s = spelling_of_tail bits row bytes state p t.modrm t.sib t.disp t.imm o.bytes_are t.fitting in
    let xs = modrm_bytes t.modrm ++ (sib_bytes t.sib ++ (t.disp ++ t.imm)) in
    let used = used_is bits p.prefixes state p.state_is in
    let len = length_parts p.prefixes (lead_bytes state.map state.vex) state.opcode xs (bytes_of row s.spelling) state.used d.len s.bytes_are used t.len_is in
    let shown : p.prefixes ++ (lead_bytes state.map state.vex ++ (state.opcode ∷ whole t.modrm t.sib t.disp t.imm t.behind)) ≡ (p.prefixes ++ (lead_bytes state.map state.vex ++ (state.opcode ∷ xs))) ++ t.behind = simp append_assoc in
    record {
      spelling = s.spelling;
      rest = t.behind;
      bytes_are = p.bytes_are ∙ ap (λ (x : List ℕ). p.prefixes ++ (lead_bytes state.map state.vex ++ (state.opcode ∷ x))) t.bytes_are
          ∙ shown ∙ ap (λ (x : List ℕ). x ++ t.behind) (sym s.bytes_are);
      fitting = s.fitting;
      means = meaning_is bits ip code row s.spelling state t.modrm t.sib t.disp t.imm d.len s.state_is s.modrm_is s.sib_is s.disp_is s.imm_is len ∙ sym t.means;
      length_is = len;
    }

-- ---- lengths

size_small : (size : Bits) → size_bytes size ≤ 8
size_small B16 = omega arith
size_small B32 = omega arith
size_small B64 = omega arith

one_of : (b : Bool) (x y n : ℕ) → x ≤ n → y ≤ n → (if b then x else y) ≤ n
one_of true x y n hx hy = hx
one_of false x y n hx hy = hy

displacement_short : (asize : Bits) (m : ModRm) (sib : Option Sib) → displacement_bytes asize m sib ≤ 8
unfolding displacement_bytes
displacement_short asize m sib =
    let full : full_displacement asize ≤ 8 = one_of (is_16 asize) 2 4 8 (omega arith) (omega arith) in
    one_of (is_displacement_alone asize m sib) (full_displacement asize) _ 8 full
    (one_of (m.mode3 == 1) 1 _ 8 (omega arith) (one_of (m.mode3 == 2) (full_displacement asize) 0 8 full (omega arith)))

-- a displacement has at most 8 bytes
pub displacement_small : (bits : Bits) (row : Row) (state : PrefixState) (m : Option ModRm) (sib : Option Sib) → displacement_len bits row state m sib ≤ 8
unfolding displacement_len
displacement_small bits row state None sib =
    one_of (reads_by is_offset row) (size_bytes (state_address_size bits state)) 0 8 (size_small (state_address_size bits state)) (omega arith)
displacement_small bits row state (Some m) sib =
    one_of (reads_mode row) (displacement_bytes (state_address_size bits state) m sib) 0 8 (displacement_short (state_address_size bits state) m sib) (omega arith)

short_at : (size : Bits) (row : Row) → immediates_are_short row ≡ true → immediates_bytes size row ≤ 8
unfolding immediates_are_short
short_at size row h =
    let a = nat_le (immediates_bytes B16 row) 8 in
    let b = nat_le (immediates_bytes B32 row) 8 in
    let c = nat_le (immediates_bytes B64 row) 8 in
    let k = (and_parts a (b && c) h).1 in
    each size (leb-true (immediates_bytes B16 row) 8 (and_parts a (b && c) h).0) (leb-true (immediates_bytes B32 row) 8 (and_parts b c k).0) (leb-true (immediates_bytes B64 row) 8 (and_parts b c k).1)
  where
    each : (size : Bits) → immediates_bytes B16 row ≤ 8 → immediates_bytes B32 row ≤ 8 → immediates_bytes B64 row ≤ 8 → immediates_bytes size row ≤ 8
    each B16 x y z = x
    each B32 x y z = y
    each B64 x y z = z

-- the immediates of a sound row have at most 8 bytes
pub immediates_small : (size : Bits) (row : Row) → sound row ≡ true → immediates_bytes size row ≤ 8
immediates_small size row h = short_at size row (sound_conditions row h).immediates

modrm_short : (m : Option ModRm) → length (modrm_bytes m) ≤ 1
modrm_short None = omega arith
modrm_short (Some m) = omega arith

sib_short : (s : Option Sib) → length (sib_bytes s) ≤ 1
sib_short None = omega arith
sib_short (Some s) = omega arith

-- the bounds of a length
pub record LengthFits (len : ℕ) (bytes : List ℕ) : Type 0 where
  pub some_bytes : 0 < len
  pub small : len < 64
  pub within : len ≤ length bytes

length_fits : (bits : Bits) (ip : ℕ) (code : Code) (row : Row) (bytes : List ℕ) (state : PrefixState) (o : Opened bits bytes state) (d : Decoded) → sound row ≡ true → state.used < 15 → ReadTail bits ip state code row o.parted.rest d → LengthFits d.len bytes
length_fits bits ip code row bytes state o d h u t =
    let p = o.parted in
    let used = used_is bits p.prefixes state p.state_is in
    let dl : length t.disp ≤ 8 = (let k = displacement_small bits row state t.modrm t.sib in let e = t.fitting.disp_len in omega arith) in
    let il : length t.imm ≤ 8 = (let k = immediates_small (state_size bits row state) row h in let e = t.fitting.imm_len in omega arith) in
    let ml = modrm_short t.modrm in
    let sl = sib_short t.sib in
    let l1 = length-append (modrm_bytes t.modrm) (sib_bytes t.sib ++ (t.disp ++ t.imm)) in
    let l2 = length-append (sib_bytes t.sib) (t.disp ++ t.imm) in
    let l3 = length-append t.disp t.imm in
    let k0 = ap length t.bytes_are in
    let k1 = length-append (modrm_bytes t.modrm) (sib_bytes t.sib ++ (t.disp ++ (t.imm ++ t.behind))) in
    let k2 = length-append (sib_bytes t.sib) (t.disp ++ (t.imm ++ t.behind)) in
    let k3 = length-append t.disp (t.imm ++ t.behind) in
    let k4 = length-append t.imm t.behind in
    let b0 = length_parts p.prefixes (lead_bytes state.map state.vex) state.opcode p.rest bytes state.used (state.used + 1 + length p.rest) p.bytes_are used refl in
    let len = t.len_is in
    record { some_bytes = omega arith; small = omega arith; within = omega arith }

-- ---- the answer

-- what an answer says of bytes whose front is known
abbrev pub Answered : Bits → ℕ → Code → Row → List ℕ → Result Decoded TailError → Type 0
Answered bits ip code row bytes (Ok d) = RowReads bits ip code row bytes d × LengthFits d.len bytes
Answered bits ip code row bytes (Err Ended) = RowReadsNothing bits row bytes × RowCanGoOn bits row bytes
Answered bits ip code row bytes (Err Forbidden) = RowReadsNothing bits row bytes × (RowCanGoOn bits row bytes → ⊥)

answered : (bits : Bits) (ip : ℕ) (code : Code) (row : Row) (bytes : List ℕ) (state : PrefixState) (o : Opened bits bytes state) (r : Result Decoded TailError) → sound row ≡ true → state.used < 15 → Tells bits ip state code row o.parted.rest r → Answered bits ip code row bytes r
answered bits ip code row bytes state o (Ok d) h u t =
    (row_reads bits ip code row bytes state o d t, length_fits bits ip code row bytes state o d h u t)
answered bits ip code row bytes state o (Err Ended) h u t =
    (reads_nothing bits row bytes state o t.0, can_go_on bits row bytes state o t.1)
answered bits ip code row bytes state o (Err Forbidden) h u t =
    (reads_nothing bits row bytes state o (never_is_none bits row state o.parted.rest t), nothing_goes_on bits row bytes state o t)

-- **what the answer behind a known front says of the row**
pub answer_of_row : (bits : Bits) (ip : ℕ) (code : Code) (row : Row) (bytes : List ℕ) (state : PrefixState) (behind : List ℕ) (r : Result Decoded TailError) → are_bytes bytes ≡ true → sound row ≡ true → front_of bits bytes ≡ Known state → behind ≡ drop (state.used + 1) bytes → r ≡ tail_answer bits ip state code row behind → Answered bits ip code row bytes r
answer_of_row bits ip code row bytes state behind r rb h front e a =
    let o = opened bits bytes state rb front in
    let rest_bytes = (part_bytes o.parted.prefixes (lead_bytes state.map state.vex) state.opcode o.parted.rest bytes rb o.parted.bytes_are).rest_are in
    let t = tail_tells bits ip state code row o.parted.rest rest_bytes in
    let same : tail_answer bits ip state code row o.parted.rest ≡ r = ap (tail_answer bits ip state code row) (o.parted.rest_is ∙ sym e) ∙ sym a in
    answered bits ip code row bytes state o r h (front_known bits bytes state front).1
    (subst (λ (x : Result Decoded TailError). Tells bits ip state code row o.parted.rest x) same t)

-- an instruction that is read is one that the row reads
pub answered_ok : (bits : Bits) (ip : ℕ) (code : Code) (row : Row) (bytes : List ℕ) (r : Result Decoded TailError) → Answered bits ip code row bytes r → IfOk r (λ d. RowReads bits ip code row bytes d)
answered_ok bits ip code row bytes (Ok d) a = a.0
answered_ok bits ip code row bytes (Err e) a = tt

-- its length is above 0, below 64, and within the bytes
pub answered_len : (bits : Bits) (ip : ℕ) (code : Code) (row : Row) (bytes : List ℕ) (r : Result Decoded TailError) → Answered bits ip code row bytes r → IfOk r (λ d. (0 < d.len) × (d.len < 64) × (d.len ≤ length bytes))
answered_len bits ip code row bytes (Ok d) a = (a.1.some_bytes, a.1.small, a.1.within)
answered_len bits ip code row bytes (Err e) a = tt

-- after Ended the row reads nothing, and more bytes make an instruction of it
pub answered_ended : (bits : Bits) (ip : ℕ) (code : Code) (row : Row) (bytes : List ℕ) (r : Result Decoded TailError) → Answered bits ip code row bytes r → r ≡ Err Ended → RowReadsNothing bits row bytes × RowCanGoOn bits row bytes
answered_ended bits ip code row bytes (Ok d) a e = cc
answered_ended bits ip code row bytes (Err Ended) a e = a
answered_ended bits ip code row bytes (Err Forbidden) a e = cc

-- after Forbidden the row reads nothing, whatever follows
pub answered_forbidden : (bits : Bits) (ip : ℕ) (code : Code) (row : Row) (bytes : List ℕ) (r : Result Decoded TailError) → Answered bits ip code row bytes r → r ≡ Err Forbidden → RowReadsNothing bits row bytes × (RowCanGoOn bits row bytes → ⊥)
answered_forbidden bits ip code row bytes (Ok d) a e = cc
answered_forbidden bits ip code row bytes (Err Ended) a e = cc
answered_forbidden bits ip code row bytes (Err Forbidden) a e = a

-- an answer that is an instruction
pub answered_read : (bits : Bits) (ip : ℕ) (code : Code) (row : Row) (bytes : List ℕ) (r : Result Decoded TailError) (d : Decoded) → Answered bits ip code row bytes r
    → r ≡ Ok d → RowReads bits ip code row bytes d × LengthFits d.len bytes
answered_read bits ip code row bytes r d a e = subst (λ (x : Result Decoded TailError). Answered bits ip code row bytes x) e a

-- an answer that is none of at most 15 bytes
pub answered_over : (bits : Bits) (ip : ℕ) (code : Code) (row : Row) (bytes : List ℕ) (r : Result Decoded TailError) → Answered bits ip code row bytes r
    → IsOver r → ReadsNothingShort bits ip code row bytes
answered_over bits ip code row bytes (Ok d) a long = inr (d, (a.0, long))
answered_over bits ip code row bytes (Err Ended) a long = inl a.0
answered_over bits ip code row bytes (Err Forbidden) a long = inl a.0

-- numbers that are each below 256 are bytes
pub bytes_from_type : (xs : List ℕ) → ((k : ℕ) → Fits w8 (get_or xs k 0)) → are_bytes xs ≡ true
bytes_from_type [] h = refl
bytes_from_type (x ∷ xs) h =
    let first = h 0 in
    let here : x < 256 = search (rules, first) in
    both (nat_lt x 256) (are_bytes xs) (lt-ltb x 256 here) (bytes_from_type xs (λ k. h (suc k)))
