-- How bytes are read over any table, from what their front and the rows of one cell say.
use Rattle.std.proofs.Common.{◌≡◌, inl, inr, ℕ, ◌+◌, ◌<◌, ◌≤◌, false, List, [], ◌∷◌, ◌++◌, length, take, drop, Some, IsTrue, slice_get, refl, ap, sym, ◌∙◌, subst, arith, length-append}
use Rattle.std.proofs.Math.Seq.{take-append_seam}
use Rattle.std.proofs.lemmas.List.{take-append-drop, length-take-le}
use Rattle.x86_values.specs.declared.Bits.{Bits}
use Rattle.x86_values.specs.declared.Code.{Code}
use Rattle.x86_values.specs.declared.Instr.{Instr}
use Rattle.x86_values.specs.declared.Decoded.{Decoded}
use Rattle.instruction_parts.specs.declared.row_types.Row.{Row}
use Rattle.instruction_parts.specs.declared.spelling.Spelling.{Spelling}
use Rattle.instruction_parts.specs.declared.spelling.PrefixState.{PrefixState}
use Rattle.instruction_parts.specs.Bytes.{bytes_of, state_of}
use Rattle.instruction_parts.specs.Front.{Front, Open, Forbidden, Known, long_front, front_of, is_open}
use Rattle.row_fit.specs.Fits.{fits}
use Rattle.row_fit.proofs.FrontLaws.{front_law}
use Rattle.row_fit.proofs.FrontGrows.{known-used, forbidden-extends}
use Rattle.row_meaning.specs.Meaning.{meaning, instr_of}
use Rattle.row_relation.specs.Spells.{IsSpelledBy, ReadsAs, BeginsSpelling, IsTooShort, IsInvalid}
use Rattle.row_relation.specs.RowReading.{RowReads, RowCanGoOn}
use Rattle.decoder.proofs.Placed.{used_below}
use Rattle.decoder.proofs.Fronts.{open_is, forbidden_is, WhyForbidden, Never, OpenAt15, KnownAt15}

-- ---- a row that reads the bytes

-- the meaning of a spelling keeps the code
pub meaning_code : (bits : Bits) (ip : ℕ) (code : Code) (row : Row) (s : Spelling) → (meaning bits ip code row s).code ≡ code
unfolding meaning instr_of
meaning_code bits ip code row s = refl

-- a row of the table that reads an instruction within 15 bytes gives the reading
pub reads : (table : List Row) (bits : Bits) (ip : ℕ) (code : Code) (row : Row) (bytes : List ℕ) (d : Decoded) → slice_get table code.0 ≡ Some row → RowReads bits ip code row bytes d → d.len ≤ 15 → ReadsAs table bits ip bytes d.instr d.len
reads table bits ip code row bytes d there r short =
    let s = r.spelling in
    let whole = bytes_of row s in
    let same_code : d.instr.code ≡ code = ap (λ (i : Instr). i.code) (sym r.means) ∙ meaning_code bits ip code row s in
    let front : take d.len bytes ≡ whole =
    ap (λ n. take n bytes) (sym r.length_is) ∙ ap (take (length whole)) r.bytes_are ∙ take-append_seam whole r.rest in
    let given : length bytes ≡ length whole + length r.rest = ap length r.bytes_are ∙ length-append whole r.rest in
    let spelled : IsSpelledBy bits ip (take d.len bytes) d.instr row s = record {
      bytes_are = sym front;
      fitting = r.fitting;
      means = ap (λ (c : Code). meaning bits ip c row s) same_code ∙ r.means;
    } in (
      omega (arith, r.length_is),
      (
        omega (arith, ap length front, r.length_is),
        (row, subst (λ (c : Code). slice_get table c.0 ≡ Some row) (sym same_code) there, (s, spelled)),
      ),
    )

-- ---- what a reading says of the table

-- a row of the table has a spelling at the front of the bytes that means the instruction
pub record IsAtFront (table : List Row) (bits : Bits) (ip : ℕ) (bytes : List ℕ) (i : Instr) (n : ℕ) : Type 0 where
  pub row : Row
  pub there : slice_get table i.code.0 ≡ Some row
  pub spelling : Spelling
  pub rest : List ℕ
  pub fitting : IsTrue (fits bits row spelling)
  pub means : meaning bits ip i.code row spelling ≡ i
  pub bytes_are : bytes ≡ bytes_of row spelling ++ rest
  pub length_is : length (bytes_of row spelling) ≡ n
  pub short : n ≤ 15
  pub front : long_front bits bytes ≡ Known (state_of bits row spelling)

-- an instruction that is read is spelled at the front of the bytes
pub at_front : (table : List Row) (bits : Bits) (ip : ℕ) (bytes : List ℕ) (i : Instr) (n : ℕ) → ReadsAs table bits ip bytes i n → IsAtFront table bits ip bytes i n
at_front table bits ip bytes i n h =
    let row = h.1.1.0 in
    let s = h.1.1.2.0 in
    let spelled : IsSpelledBy bits ip (take n bytes) i row s = h.1.1.2.1 in
    let parted : bytes ≡ bytes_of row s ++ drop n bytes =
    sym (take-append-drop n bytes) ∙ ap (λ xs. xs ++ drop n bytes) (sym spelled.bytes_are) in
    let given : n ≤ length bytes = h.0 in
    let long : length (bytes_of row s) ≡ n = ap length spelled.bytes_are ∙ length-take-le n bytes given in
    record {
      row = row;
      there = h.1.1.1;
      spelling = s;
      rest = drop n bytes;
      fitting = spelled.fitting;
      means = spelled.means;
      bytes_are = parted;
      length_is = long;
      short = omega (arith, h.1.0, ap length spelled.bytes_are);
      front = ap (long_front bits) parted ∙ front_law bits row s (drop n bytes) spelled.fitting;
    }

-- a row of the table has a spelling that the bytes begin
pub record IsBegun (table : List Row) (bits : Bits) (bytes : List ℕ) : Type 0 where
  pub code : Code
  pub row : Row
  pub there : slice_get table code.0 ≡ Some row
  pub goes_on : RowCanGoOn bits row bytes
  pub front : long_front bits (bytes ++ goes_on.more) ≡ Known (state_of bits row goes_on.spelling)

append_nil : (xs : List ℕ) → xs ++ [] ≡ xs
append_nil [] = refl
append_nil (x ∷ xs) = ap (λ ys. x ∷ ys) (append_nil xs)

-- bytes that begin a spelling begin one of a row
pub begun : (table : List Row) (bits : Bits) (ip : ℕ) (bytes : List ℕ) → BeginsSpelling table bits ip bytes → IsBegun table bits bytes
begun table bits ip bytes h =
    let i : Instr = h.2.0 in
    let row = h.2.1.0 in
    let s = h.2.1.2.0 in
    let spelled : IsSpelledBy bits ip (bytes ++ h.0) i row s = h.2.1.2.1 in
    let goes_on : RowCanGoOn bits row bytes = record {
      spelling = s;
      more = h.0;
      some_more = h.1;
      fitting = spelled.fitting;
      bytes_are = spelled.bytes_are;
    } in
    record {
      code = i.code;
      row = row;
      there = h.2.1.1;
      goes_on = goes_on;
      front = ap (long_front bits) (sym spelled.bytes_are ∙ sym (append_nil (bytes_of row s))) ∙ front_law bits row s [] spelled.fitting;
    }

-- a row of the table that can go on
pub begins : (table : List Row) (bits : Bits) (ip : ℕ) (code : Code) (row : Row) (bytes : List ℕ) → slice_get table code.0 ≡ Some row → RowCanGoOn bits row bytes → BeginsSpelling table bits ip bytes
begins table bits ip code row bytes there h =
    let i = meaning bits ip code row h.spelling in
    let same_code : i.code ≡ code = meaning_code bits ip code row h.spelling in
    let spelled : IsSpelledBy bits ip (bytes ++ h.more) i row h.spelling = record {
      bytes_are = h.bytes_are;
      fitting = h.fitting;
      means = ap (λ (c : Code). meaning bits ip c row h.spelling) same_code;
    } in
    (h.more, h.some_more, (i, (row, subst (λ (c : Code). slice_get table c.0 ≡ Some row) (sym same_code) there, (h.spelling, spelled))))

-- ---- bytes without an opcode byte

known_is_not : (f : Front) (state : PrefixState) → f ≡ Open → f ≡ Known state → ⊥
known_is_not f state h e = cc

-- an open front is too short
pub open_is_short : (table : List Row) (bits : Bits) (ip : ℕ) (bytes : List ℕ) → front_of bits bytes ≡ Open → IsTooShort table bits ip bytes
unfolding front_of
open_is_short table bits ip bytes h =
    let open_front = open_is (length bytes) (long_front bits bytes) h in
    record {
      spells_nothing = λ i n r. known_is_not _ _ open_front.0 (at_front table bits ip bytes i n r).front;
      is_short = open_front.1;
      can_go_on = inl (ap is_open h);
    }

-- what a spelling at the front says of the bytes that are given, and of the bytes before its opcode byte
forbidden_spells : (bits : Bits) (table : List Row) (ip : ℕ) (bytes : List ℕ) (i : Instr) (n : ℕ) (f : Front) → WhyForbidden (length bytes) f → long_front bits bytes ≡ f → IsAtFront table bits ip bytes i n → ⊥
forbidden_spells bits table ip bytes i n Open (OpenAt15 late) e a = let e2 = a.front in cc
forbidden_spells bits table ip bytes i n Forbidden Never e a = let e2 = a.front in cc
forbidden_spells bits table ip bytes i n (Known state) (KnownAt15 _ late) e a =
    let same : state ≡ state_of bits a.row a.spelling = (let e2 = a.front in cc) in
    let used = used_below bits a.row a.spelling in
    omega (arith, used, ap (λ (g : PrefixState). g.used) same, a.length_is, a.short)

forbidden_begins : (bits : Bits) (table : List Row) (bytes : List ℕ) (f : Front) → WhyForbidden (length bytes) f → long_front bits bytes ≡ f → length bytes < 15 → IsBegun table bits bytes → ⊥
forbidden_begins bits table bytes Open (OpenAt15 late) e short b = omega arith
forbidden_begins bits table bytes Forbidden Never e short b =
    let e1 = forbidden-extends bits bytes b.goes_on.more e in let e2 = b.front in cc
forbidden_begins bits table bytes (Known state) (KnownAt15 _ late) e short b = omega (arith, (known-used bits bytes state e).is_within)

-- a front that is equal to a closed one is not open
pub is_closed : (f g : Front) → f ≡ g → is_open g ≡ false → IsTrue (is_open f) → ⊥
is_closed f g e closed open_ = let e2 = ap is_open e in cc

-- a forbidden front is invalid
pub forbidden_is_invalid : (table : List Row) (bits : Bits) (ip : ℕ) (bytes : List ℕ) → front_of bits bytes ≡ Forbidden → IsInvalid table bits ip bytes
unfolding front_of
forbidden_is_invalid table bits ip bytes h =
    let why = forbidden_is (length bytes) (long_front bits bytes) h in
    record {
      spells_nothing = λ i n r. forbidden_spells bits table ip bytes i n _ why refl (at_front table bits ip bytes i n r);
      ends_here = λ short goes. elim goes [
        | inl open_ ↦ is_closed _ Forbidden h refl open_
        | inr b ↦ forbidden_begins bits table bytes _ why refl short (begun table bits ip bytes b)
      ];
    }
