-- The front of bytes that an instruction is read from, and its parts.
use Rattle.std.proofs.Common.{◌≡◌, ℕ, suc, add-one, ◌+◌, ◌<◌, ◌≤◌, List, [], ◌∷◌, ◌++◌, length, take, drop, Some, length-append, take-append-drop, Result, Ok, Err, append_assoc, if◌then◌else◌, refl, ap, sym, ◌∙◌, subst, arith}
use Rattle.std.specs.Prelude.{slice_get, IsTrue}
use Rattle.std.proofs.lemmas.Bool.{lt-leb}
use Rattle.std.proofs.lemmas.List.{length-take-le}
use Rattle.x86_values.specs.declared.Bits.{Bits}
use Rattle.x86_values.specs.declared.Decoded.{Decoded}
use Rattle.x86_values.specs.Wrapping.{modulo_width}
use Rattle.instruction_parts.specs.declared.row_types.Row.{Row}
use Rattle.instruction_parts.specs.declared.spelling.Spelling.{Spelling}
use Rattle.instruction_parts.specs.declared.spelling.PrefixState.{PrefixState}
use Rattle.instruction_parts.specs.Bytes.{bytes_of, front_bytes, tail_bytes, lead_bytes, modrm_bytes, sib_bytes, state_of, state_from}
use Rattle.instruction_parts.specs.Front.{Known, Forbidden, within_15, long_front, front_of}
use Rattle.instruction_parts.specs.Sizes.{state_size}
use Rattle.row_fit.specs.Fits.{fits, Fits, immediates_bytes}
use Rattle.row_meaning.specs.Meaning.{immediates_before}
use Rattle.prefixes.specs.declared.PrefixError.{PrefixError}
use Rattle.prefixes.specs.Answer.{answer_of}
use Rattle.row_relation.specs.Spells.{Read, IsSpelledBy}
use Rattle.opcode_rows.specs.Table.{table}
use Rattle.opcode_rows.specs.Reading.{IsRead}
use Rattle.decoder.specs.declared.byte_offsets.layout.Lengths.{Lengths}
use Rattle.decoder.specs.declared.byte_offsets.layout.ByteOffsets.{ByteOffsets}
use Rattle.decoder.specs.ByteOffsets.Offsets.{offsets_by, offsets_of, lengths_of, AreOffsets}
use Rattle.decoder.specs.ByteOffsets.PartBytes.{HoldParts}
use Rattle.decoder.specs.ByteOffsets.Tails.{lengths_in}
use Rattle.decoder.proofs.ByteOffsets.PartBytes.{parts-hold}
use Rattle.decoder.proofs.ByteOffsets.TailRead.{used_is, lead_is, lengths_right, immediates_of}

-- what the law of the front says
abbrev pub FrontLaw : Type 0
FrontLaw = (bits : Bits) (row : Row) (s : Spelling) (rest : List ℕ) → IsTrue (fits bits row s) →
    long_front bits (bytes_of row s ++ rest) ≡ Known (state_of bits row s)

-- and that of the conditions
abbrev pub FitLaw : Type 0
FitLaw = (bits : Bits) (row : Row) (s : Spelling) → IsTrue (fits bits row s) → Fits bits row s

-- the spelling that an instruction is read from
pub record ReadFrom (bits : Bits) (ip : ℕ) (bytes : List ℕ) (d : Decoded) : Type 0 where
  pub row : Row
  pub row_is : slice_get table d.instr.code.0 ≡ Some row
  pub spelling : Spelling
  pub spelled : IsSpelledBy bits (modulo_width bits ip) (take d.len bytes) d.instr row spelling
  pub bytes_are : bytes ≡ bytes_of row spelling ++ drop d.len bytes
  pub len_is : length (bytes_of row spelling) ≡ d.len
  pub short : length (bytes_of row spelling) ≤ 15

-- an instruction that is read is read from a front and a tail
pub read_from : (bits : Bits) (ip : ℕ) (bytes : List ℕ) (d : Decoded) → IsRead bits ip bytes (Read d) → ReadFrom bits ip bytes d
read_from bits ip bytes d reads =
    let spells = reads.1.1 in
    let by = spells.2.1 in
    let is = by.bytes_are in
    record {
      row = spells.0;
      row_is = spells.1;
      spelling = spells.2.0;
      spelled = by;
      bytes_are = sym (take-append-drop d.len bytes) ∙ ap (λ xs. xs ++ drop d.len bytes) (sym is);
      len_is = ap length is ∙ length-take-le d.len bytes reads.0;
      short = subst (λ xs. length xs ≤ 15) (sym is) reads.1.0;
    }

bytes-len : (row : Row) (s : Spelling) → length (bytes_of row s) ≡ length (front_bytes row s) + (1 + length (tail_bytes s))
unfolding bytes_of
bytes-len row s = omega (arith, length-append (front_bytes row s) (s.opcode ∷ tail_bytes s))

used-len : (bits : Bits) (row : Row) (s : Spelling) → (state_of bits row s).used ≡ length (front_bytes row s)
unfolding state_of state_from
used-len bits row s = refl

known_within : (given : ℕ) (state : PrefixState) → state.used < 15 → within_15 given (Known state) ≡ Known state
unfolding within_15
known_within given state h = ap (λ b. if b then Forbidden else Known state) (lt-leb 15 state.used h)

-- **its front is the state of the spelling**
pub front_is : FrontLaw → (bits : Bits) (ip : ℕ) (bytes : List ℕ) (d : Decoded) (r : ReadFrom bits ip bytes d) →
    front_of bits bytes ≡ Known (state_of bits r.row r.spelling)
unfolding front_of
front_is law bits ip bytes d r =
    let state = state_of bits r.row r.spelling in
    let long : long_front bits bytes ≡ Known state =
    ap (long_front bits) r.bytes_are ∙ law bits r.row r.spelling (drop d.len bytes) r.spelled.fitting in
    let short = r.short in
    ap (within_15 (length bytes)) long ∙ known_within (length bytes) state (omega (arith, used-len bits r.row r.spelling, bytes-len r.row r.spelling))

known_same : (a b : PrefixState) → Known a ≡ Known b → a ≡ b
known_same a b h = cc

-- the front that was read is the front of the bytes
pub state_is : FrontLaw → (bits : Bits) (ip : ℕ) (bytes : List ℕ) (d : Decoded) (r : ReadFrom bits ip bytes d) (state : PrefixState) →
    front_of bits bytes ≡ Known state → state ≡ state_of bits r.row r.spelling
state_is law bits ip bytes d r state h = known_same state (state_of bits r.row r.spelling) (sym h ∙ front_is law bits ip bytes d r)

-- what is known of the numbers of a front
pub record FrontIsSmall (bytes : List ℕ) (state : PrefixState) : Type 0 where
  pub short : state.used < 15
  pub inside : state.used + 1 ≤ length bytes
  pub lead : length (lead_bytes state.map state.vex) ≤ state.used

-- a front ends within 15 bytes
pub front_small : FrontLaw → (bits : Bits) (ip : ℕ) (bytes : List ℕ) (d : Decoded) → IsRead bits ip bytes (Read d) → (state : PrefixState) →
    front_of bits bytes ≡ Known state → FrontIsSmall bytes state
front_small law bits ip bytes d reads state h =
    let r = read_from bits ip bytes d reads in
    let s = r.spelling in
    let short = r.short in
    let used = used-len bits r.row s in
    let len = bytes-len r.row s in
    let most = reads.0 in
    let len_is = r.len_is in
    subst (FrontIsSmall bytes) (sym (state_is law bits ip bytes d r state h)) (record {
      short = omega (arith, used, len);
      inside = omega (arith, used, len);
      lead = omega (arith, used_is bits r.row s, ap length (lead_is bits r.row s));
    })

dropped_behind : (xs : List ℕ) (x : ℕ) (ys : List ℕ) → drop (suc (length xs)) (xs ++ x ∷ ys) ≡ ys
dropped_behind [] x ys = refl
dropped_behind (y ∷ xs) x ys = dropped_behind xs x ys

dropped : (xs : List ℕ) (x : ℕ) (ys : List ℕ) → drop (length xs + 1) (xs ++ x ∷ ys) ≡ ys
dropped xs x ys = subst (λ n. drop n (xs ++ x ∷ ys) ≡ ys) (sym (add-one (length xs))) (dropped_behind xs x ys)

-- the bytes behind the opcode byte
tail_behind : (row : Row) (s : Spelling) (rest : List ℕ) → drop (length (front_bytes row s) + 1) (bytes_of row s ++ rest) ≡ tail_bytes s ++ rest
unfolding bytes_of
tail_behind row s rest =
    ap (drop (length (front_bytes row s) + 1)) (append_assoc (front_bytes row s) (s.opcode ∷ tail_bytes s) rest)
    ∙ dropped (front_bytes row s) s.opcode (tail_bytes s ++ rest)

tail-len : (s : Spelling) →
    length (tail_bytes s) ≡ length (modrm_bytes s.modrm) + (length (sib_bytes s.sib) + (length s.disp.items + length s.imm.items))
unfolding tail_bytes
tail-len s =
    omega (
      arith,
      length-append (modrm_bytes s.modrm) (sib_bytes s.sib ++ (s.disp.items ++ s.imm.items)),
      length-append (sib_bytes s.sib) (s.disp.items ++ s.imm.items),
      length-append s.disp.items s.imm.items,
    )

by-len : (l : Lengths) (size : Bits) (row : Row) →
    (offsets_by l size row).len ≡ l.prefixes + l.lead + 1 + l.modrm + l.sib + l.displacement + immediates_bytes size row
unfolding offsets_by immediates_before immediates_bytes
by-len l size row = omega arith

-- the parts end where the bytes of the spelling do
pub len_right : (bits : Bits) (row : Row) (s : Spelling) → Fits bits row s → (offsets_of bits row s).len ≡ length (bytes_of row s)
len_right bits row s f =
    let state = state_of bits row s in
    omega (
      arith,
      by-len (lengths_of row s) (state_size bits row state) row,
      bytes-len row s,
      tail-len s,
      used_is bits row s,
      used-len bits row s,
      immediates_of bits row state s.modrm s.sib (length s.disp.items) (length s.imm.items) f.lengths,
    )

some_same : (a b : Row) → Some a ≡ Some b → a ≡ b
some_same a b h = cc

-- **so the parts that are found are those of the spelling**
pub offsets_right : FrontLaw → FitLaw → (bits : Bits) (ip : ℕ) (bytes : List ℕ) (d : Decoded) → IsRead bits ip bytes (Read d) →
    (row : Row) → slice_get table d.instr.code.0 ≡ Some row → (state : PrefixState) → front_of bits bytes ≡ Known state →
    (o : ByteOffsets) → o ≡ offsets_by (lengths_in bits row state (drop (state.used + 1) bytes)) (state_size bits row state) row → AreOffsets bits ip bytes o
offsets_right law fit bits ip bytes d reads row row_is state front o found =
    let r = read_from bits ip bytes d reads in
    let s = r.spelling in
    let own = state_of bits r.row s in
    let f = fit bits r.row s r.spelled.fitting in
    let same : row ≡ r.row = some_same row r.row (sym row_is ∙ r.row_is) in
    let is : state ≡ own = state_is law bits ip bytes d r state front in
    let tail : drop (own.used + 1) bytes ≡ tail_bytes s ++ drop d.len bytes =
    ap (λ n. drop (n + 1) bytes) (used-len bits r.row s)
    ∙ (ap (drop (length (front_bytes r.row s) + 1)) r.bytes_are ∙ tail_behind r.row s (drop d.len bytes)) in
    let are : o ≡ offsets_of bits r.row s =
    found
    ∙ (ap (λ (x : Row). offsets_by (lengths_in bits x state (drop (state.used + 1) bytes)) (state_size bits x state) x) same
    ∙ (ap (λ (x : PrefixState). offsets_by (lengths_in bits r.row x (drop (x.used + 1) bytes)) (state_size bits r.row x) r.row) is
    ∙ ap (λ (l : Lengths). offsets_by l (state_size bits r.row own) r.row) (lengths_right bits r.row s (drop d.len bytes) (drop (own.used + 1) bytes) f tail))) in
    record {
      decoded = d;
      reads = reads;
      row = r.row;
      row_is = r.row_is;
      spelling = s;
      spelled = r.spelled;
      offsets_are = are;
      len_is = ap (λ (x : ByteOffsets). x.len) are ∙ (len_right bits r.row s f ∙ r.len_is);
      hold = subst (HoldParts bits r.row s bytes) (sym are) (parts-hold bits r.row s bytes (drop d.len bytes) f r.bytes_are);
    }

-- what the law of spellings says
abbrev pub SpellingLaw : Type 0
SpellingLaw = (bits : Bits) (j k : ℕ) (q r : Row) (s t : Spelling) (rest others : List ℕ) → slice_get table j ≡ Some q → slice_get table k ≡ Some r →
    IsTrue (fits bits q s) → IsTrue (fits bits r t) → bytes_of q s ++ rest ≡ bytes_of r t ++ others → (j ≡ k) × (s ≡ t) × (rest ≡ others)

-- **some bytes have one answer**
pub offsets_unique : SpellingLaw → (bits : Bits) (ip : ℕ) (bytes : List ℕ) (o p : ByteOffsets) → AreOffsets bits ip bytes o → AreOffsets bits ip bytes p → o ≡ p
offsets_unique law bits ip bytes o p a b =
    let before : bytes_of a.row a.spelling ++ drop a.decoded.len bytes ≡ bytes =
    ap (λ xs. xs ++ drop a.decoded.len bytes) a.spelled.bytes_are ∙ take-append-drop a.decoded.len bytes in
    let other : bytes_of b.row b.spelling ++ drop b.decoded.len bytes ≡ bytes =
    ap (λ xs. xs ++ drop b.decoded.len bytes) b.spelled.bytes_are ∙ take-append-drop b.decoded.len bytes in
    let same =
    law bits a.decoded.instr.code.0 b.decoded.instr.code.0 a.row b.row a.spelling b.spelling (drop a.decoded.len bytes) (drop b.decoded.len bytes) a.row_is
    b.row_is a.spelled.fitting b.spelled.fitting (before ∙ sym other) in
    let row : a.row ≡ b.row = some_same a.row b.row (sym a.row_is ∙ (ap (slice_get table) same.0 ∙ b.row_is)) in
    a.offsets_are
    ∙ (ap (λ (x : Row). offsets_of bits x a.spelling) row ∙ (ap (λ (x : Spelling). offsets_of bits b.row x) same.1 ∙ sym b.offsets_are))

-- ---- in the code's own words

err_is_no_ok : (e : PrefixError) (state : PrefixState) → Err e ≡ Ok state → ⊥
err_is_no_ok e state h = cc

same_ok : (a b : PrefixState) → (λ (r : Result PrefixState PrefixError). r) (Ok a) ≡ Ok b → a ≡ b
same_ok a b h = cc

-- its front is no error
pub no_error : FrontLaw → (bits : Bits) (ip : ℕ) (bytes : List ℕ) (d : Decoded) → IsRead bits ip bytes (Read d) → (e : PrefixError) →
    Err e ≡ answer_of (front_of bits bytes) → ⊥
no_error law bits ip bytes d reads e h =
    let r = read_from bits ip bytes d reads in
    err_is_no_ok e (state_of bits r.row r.spelling) (h ∙ ap answer_of (front_is law bits ip bytes d r))

-- and the state that is read
pub front_known : FrontLaw → (bits : Bits) (ip : ℕ) (bytes : List ℕ) (d : Decoded) → IsRead bits ip bytes (Read d) → (state : PrefixState) →
    Ok state ≡ answer_of (front_of bits bytes) → front_of bits bytes ≡ Known state
front_known law bits ip bytes d reads state h =
    let r = read_from bits ip bytes d reads in
    let front = front_is law bits ip bytes d r in
    front ∙ ap Known (sym (same_ok state (state_of bits r.row r.spelling) (h ∙ ap answer_of front)))

-- the offsets that are made are those of the parts
pub made_of : (bits : Bits) (row : Row) (state : PrefixState) (bytes tail : List ℕ) (lengths : Lengths) (size : Bits) (o : ByteOffsets) (mid : ℕ) →
    o ≡ offsets_by lengths size row → lengths ≡ lengths_in bits row state tail → size ≡ state_size bits row state → tail ≡ drop mid bytes →
    mid ≡ state.used + 1 → o ≡ offsets_by (lengths_in bits row state (drop (state.used + 1) bytes)) (state_size bits row state) row
made_of bits row state bytes tail lengths size o mid a b c d e = cc
