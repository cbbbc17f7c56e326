-- How the readings over a table change where rows are added to it in cells that had none.
use Rattle.std.proofs.Common.{◌≡◌, ℕ, ◌<◌, ◌≤◌, Bool, true, false, List, [], ◌++◌, length, take, drop, slice_get, refl, ap, sym, ◌∙◌, arith, inl, inr, nat_le}
use Rattle.std.specs.Prelude.{Some, ◌⊎◌, if◌then◌else◌}
use Rattle.std.proofs.lemmas.Bool.{lt-leb}
use Rattle.std.proofs.lemmas.List.{take-append-drop, append-nil}
use Rattle.x86_values.specs.declared.Bits.{Bits}
use Rattle.x86_values.specs.declared.Instr.{Instr}
use Rattle.instruction_parts.specs.declared.row_types.Row.{Row}
use Rattle.instruction_parts.specs.declared.spelling.Spelling.{Spelling}
use Rattle.instruction_parts.specs.declared.spelling.PrefixState.{PrefixState}
use Rattle.instruction_parts.specs.Bytes.{state_of}
use Rattle.instruction_parts.specs.Front.{Front, Open, Forbidden, Known, is_open, long_front, within_15, front_of}
use Rattle.row_fit.specs.Fits.{fits}
use Rattle.row_fit.proofs.FrontLaws.{front_law}
use Rattle.row_fit.proofs.FrontConverse.{same_state}
use Rattle.row_fit.proofs.FrontGrows.{long_front-grows, front-extends, known-used}
use Rattle.instruction_parts.proofs.RowFields.Apart.{bool_cases}
use Rattle.row_relation.specs.Spells.{IsSpelledBy, SpellsUnbounded, ReadsAs, CanGoOn, Reading, Read, TooShort, Invalid, IsReading}
use Rattle.opcode_rows.specs.Versions.{has_state}

-- the rows of a table are those of an older one with the same codes, and others; the states of the others are added ones, and no state of the
-- older rows is
pub record Grows (older table : List Row) (added : PrefixState → Bool) : Type 0 where
  pub kept : (code : ℕ) (row : Row) → slice_get older code ≡ Some row → slice_get table code ≡ Some row
  pub elsewhere : (bits : Bits) (code : ℕ) (row : Row) (s : Spelling) → slice_get older code ≡ Some row → fits bits row s ≡ true
      → added (state_of bits row s) ≡ false
  pub others : (bits : Bits) (code : ℕ) (row : Row) (s : Spelling) → slice_get table code ≡ Some row → fits bits row s ≡ true
      → (slice_get older code ≡ Some row) ⊎ (added (state_of bits row s) ≡ true)

not_both : (b : Bool) → b ≡ true → b ≡ false → ⊥
not_both b p q = cc

-- ---- fronts

within-known : (given : ℕ) (f : PrefixState) → f.used < 15 → within_15 given (Known f) ≡ Known f
unfolding within_15
within-known given f lt = rw (lt-leb 15 f.used lt) refl

within-open : (given : ℕ) → given < 15 → within_15 given Open ≡ Open
unfolding within_15
within-open given lt = rw (lt-leb 15 given lt) refl

-- a front within 15 bytes that is known is known without that limit
known-within : (given : ℕ) (x : Front) (f : PrefixState) → within_15 given x ≡ Known f → x ≡ Known f
unfolding within_15
known-within given Open f h = by_test (nat_le 15 given) h
  where
    by_test : (b : Bool) → (if b then Forbidden else Open) ≡ Known f → Open ≡ Known f
    by_test true e = cc
    by_test false e = cc
known-within given Forbidden f h = cc
known-within given (Known g) f h = by_test (nat_le 15 g.used) h
  where
    by_test : (b : Bool) → (if b then Forbidden else Known g) ≡ Known f → Known g ≡ Known f
    by_test true e = cc
    by_test false e = e

-- an opcode byte among the first bytes of at most 15 is that of the front
front-read : (bits : Bits) (bytes : List ℕ) (n : ℕ) (f : PrefixState) → length (take n bytes) ≤ 15 → long_front bits (take n bytes) ≡ Known f
    → front_of bits bytes ≡ Known f
unfolding front_of
front-read bits bytes n f short h =
    let used : f.used < length (take n bytes) = (known-used bits (take n bytes) f h).is_within in
    let whole : long_front bits bytes ≡ Known f =
    ap (long_front bits) (sym (take-append-drop n bytes)) ∙ front-extends bits (take n bytes) (drop n bytes) f h in
    ap (within_15 (length bytes)) whole ∙ within-known (length bytes) f (omega (arith, used, short))

-- the front of bytes that a spelling begins or is
front-spelled : (bits : Bits) (ip : ℕ) (bytes : List ℕ) (i : Instr) (row : Row) (s : Spelling) → IsSpelledBy bits ip bytes i row s
    → long_front bits bytes ≡ Known (state_of bits row s)
front-spelled bits ip bytes i row s h =
    ap (long_front bits) (sym (append-nil bytes) ∙ ap (λ xs. xs ++ []) (sym h.bytes_are)) ∙ front_law bits row s [] h.fitting

open-known : (x : Front) (f : PrefixState) → is_open x ≡ true → x ≡ Known f → ⊥
open-known Open f h e = cc
open-known Forbidden f h e = cc
open-known (Known g) f h e = cc

open-is : (x : Front) → is_open x ≡ true → x ≡ Open
open-is Open h = refl
open-is Forbidden h = cc
open-is (Known g) h = cc

-- ---- spellings

-- what an older table spells, a table that grew from it spells too
pub spells-kept : (older table : List Row) (added : PrefixState → Bool) → Grows older table added → (bits : Bits) (ip : ℕ) (bytes : List ℕ) (i : Instr)
    → SpellsUnbounded older bits ip bytes i → SpellsUnbounded table bits ip bytes i
spells-kept older table added g bits ip bytes i (row, at, s) = (row, g.kept i.code.0 row at, s)

-- the front of some bytes is known, and its state is an added one
abbrev pub FrontIsAdded : (PrefixState → Bool) → Bits → List ℕ → Type 0
FrontIsAdded added bits bytes = (f : PrefixState) × (long_front bits bytes ≡ Known f) × (added f ≡ true)

spells-back : (older table : List Row) (added : PrefixState → Bool) → Grows older table added → (bits : Bits) (ip : ℕ) (bytes : List ℕ) (i : Instr)
    → SpellsUnbounded table bits ip bytes i → SpellsUnbounded older bits ip bytes i ⊎ FrontIsAdded added bits bytes
spells-back older table added g bits ip bytes i (row, at, (s, is)) =
    elim (g.others bits i.code.0 row s at is.fitting) [
      | inl old ↦ inl (row, old, (s, is))
      | inr new ↦ inr (state_of bits row s, front-spelled bits ip bytes i row s is, new)
    ]

-- bytes that the older table spells have no added front
spells-elsewhere : (older table : List Row) (added : PrefixState → Bool) → Grows older table added → (bits : Bits) (ip : ℕ) (bytes : List ℕ) (i : Instr)
    → SpellsUnbounded older bits ip bytes i → (f : PrefixState) → long_front bits bytes ≡ Known f → added f ≡ true → ⊥
spells-elsewhere older table added g bits ip bytes i (row, at, (s, is)) f h new =
    let same : state_of bits row s ≡ f = same_state _ _ (sym (front-spelled bits ip bytes i row s is) ∙ h) in
    let unnamed : added (state_of bits row s) ≡ false = g.elsewhere bits i.code.0 row s at is.fitting in
    not_both (added f) new (ap added (sym same) ∙ unnamed)

-- ---- readings

-- **what was read is read**
pub reads-kept : (older table : List Row) (added : PrefixState → Bool) → Grows older table added → (bits : Bits) (ip : ℕ) (bytes : List ℕ) (i : Instr) (n : ℕ)
    → ReadsAs older bits ip bytes i n → ReadsAs table bits ip bytes i n
reads-kept older table added g bits ip bytes i n (le, (short, sp)) = (le, (short, spells-kept older table added g bits ip (take n bytes) i sp))

not_named : (bits : Bits) (bytes : List ℕ) (added : PrefixState → Bool) (f : PrefixState) → front_of bits bytes ≡ Known f → added f ≡ true
    → has_state added (front_of bits bytes) ≡ false → ⊥
not_named bits bytes added f h new unnamed = not_both (added f) new (sym (ap (has_state added) h) ∙ unnamed)

reads-back : (older table : List Row) (added : PrefixState → Bool) → Grows older table added → (bits : Bits) (ip : ℕ) (bytes : List ℕ) (i : Instr) (n : ℕ)
    → has_state added (front_of bits bytes) ≡ false → ReadsAs table bits ip bytes i n → ReadsAs older bits ip bytes i n
reads-back older table added g bits ip bytes i n unnamed (le, (short, sp)) =
    elim (spells-back older table added g bits ip (take n bytes) i sp) [
      | inl old ↦ (le, (short, old))
      | inr new ↦ absurd (not_named bits bytes added new.0 (front-read bits bytes n new.0 short new.1) new.2 unnamed)
    ]

goes-kept : (older table : List Row) (added : PrefixState → Bool) → Grows older table added → (bits : Bits) (ip : ℕ) (bytes : List ℕ)
    → CanGoOn older bits ip bytes → CanGoOn table bits ip bytes
goes-kept older table added g bits ip bytes (inl opened) = inl opened
goes-kept older table added g bits ip bytes (inr (more, some, (i, sp))) =
    inr (more, some, (i, spells-kept older table added g bits ip (bytes ++ more) i sp))

goes-back : (older table : List Row) (added : PrefixState → Bool) → Grows older table added → (bits : Bits) (ip : ℕ) (bytes : List ℕ)
    → has_state added (front_of bits bytes) ≡ false → length bytes < 15 → CanGoOn table bits ip bytes → CanGoOn older bits ip bytes
unfolding front_of
goes-back older table added g bits ip bytes unnamed short (inl opened) = inl opened
goes-back older table added g bits ip bytes unnamed short (inr (more, some, (i, sp))) =
    elim (spells-back older table added g bits ip (bytes ++ more) i sp) [
      | inl old ↦ inr (more, some, (i, old))
      | inr new ↦ (
          elim (bool_cases (is_open (long_front bits bytes))) [
            | inl opened ↦ inl (ap is_open (ap (within_15 (length bytes)) (open-is (long_front bits bytes) opened) ∙ within-open (length bytes) short))
            | inr closed ↦ (
                let known : long_front bits bytes ≡ Known new.0 = sym (long_front-grows bits bytes more closed) ∙ new.1 in
                let used : new.0.used < length bytes = (known-used bits bytes new.0 known).is_within in
                let front : front_of bits bytes ≡ Known new.0 =
                ap (within_15 (length bytes)) known ∙ within-known (length bytes) new.0 (omega (arith, used, short)) in
                absurd (not_named bits bytes added new.0 front new.2 unnamed))
          ])
    ]

-- **where the front names no added state, the readings are the same**
pub reading-kept : (older table : List Row) (added : PrefixState → Bool) → Grows older table added → (bits : Bits) (ip : ℕ) (bytes : List ℕ)
    → has_state added (front_of bits bytes) ≡ false → (r : Reading) → IsReading older bits ip bytes r → IsReading table bits ip bytes r
reading-kept older table added g bits ip bytes unnamed (Read d) h = reads-kept older table added g bits ip bytes d.instr d.len h
reading-kept older table added g bits ip bytes unnamed TooShort h =
    record {
      spells_nothing = λ i n reads. h.spells_nothing i n (reads-back older table added g bits ip bytes i n unnamed reads);
      is_short = h.is_short;
      can_go_on = goes-kept older table added g bits ip bytes h.can_go_on;
    }
reading-kept older table added g bits ip bytes unnamed Invalid h =
    record {
      spells_nothing = λ i n reads. h.spells_nothing i n (reads-back older table added g bits ip bytes i n unnamed reads);
      ends_here = λ short goes. h.ends_here short (goes-back older table added g bits ip bytes unnamed short goes);
    }

-- where no added row is concerned, both read alike
pub reading-back : (older table : List Row) (added : PrefixState → Bool) → Grows older table added → (bits : Bits) (ip : ℕ) (bytes : List ℕ)
    → has_state added (front_of bits bytes) ≡ false → (r : Reading) → IsReading table bits ip bytes r → IsReading older bits ip bytes r
reading-back older table added g bits ip bytes unnamed (Read d) h = reads-back older table added g bits ip bytes d.instr d.len unnamed h
reading-back older table added g bits ip bytes unnamed TooShort h =
    record {
      spells_nothing = λ i n reads. h.spells_nothing i n (reads-kept older table added g bits ip bytes i n reads);
      is_short = h.is_short;
      can_go_on = goes-back older table added g bits ip bytes unnamed h.is_short h.can_go_on;
    }
reading-back older table added g bits ip bytes unnamed Invalid h =
    record {
      spells_nothing = λ i n reads. h.spells_nothing i n (reads-kept older table added g bits ip bytes i n reads);
      ends_here = λ short goes. h.ends_here short (goes-kept older table added g bits ip bytes goes);
    }

named-known : (added : PrefixState → Bool) (x : Front) → has_state added x ≡ true → (f : PrefixState) × (x ≡ Known f) × (added f ≡ true)
named-known added (Known f) h = (f, refl, h)
named-known added Open h = cc
named-known added Forbidden h = cc

-- **where the front names an added state, the older table reads nothing, and no more bytes would have helped**
pub reading-there : (older table : List Row) (added : PrefixState → Bool) → Grows older table added → (bits : Bits) (ip : ℕ) (bytes : List ℕ)
    → has_state added (front_of bits bytes) ≡ true → IsReading older bits ip bytes Invalid
unfolding front_of
reading-there older table added g bits ip bytes named =
    let t = named-known added (front_of bits bytes) named in
    let f : PrefixState = t.0 in
    let known : long_front bits bytes ≡ Known f = known-within (length bytes) (long_front bits bytes) f t.1 in
    record {
      spells_nothing = λ i n (le, (short, sp)). nothing i n short sp f known t.2;
      ends_here = λ short goes. ends f t.1 known t.2 goes;
    }
  where
    nothing : (i : Instr) (n : ℕ) → length (take n bytes) ≤ 15 → SpellsUnbounded older bits ip (take n bytes) i
        → (f : PrefixState) → long_front bits bytes ≡ Known f → added f ≡ true → ⊥
    nothing i n short (row, at, (s, is)) f known new =
        let first = front-spelled bits ip (take n bytes) i row s is in
        let whole : long_front bits bytes ≡ Known (state_of bits row s) =
        ap (long_front bits) (sym (take-append-drop n bytes)) ∙ front-extends bits (take n bytes) (drop n bytes) (state_of bits row s) first in
        let same : state_of bits row s ≡ f = same_state _ _ (sym whole ∙ known) in
        spells-elsewhere older table added g bits ip (take n bytes) i (row, at, (s, is)) (state_of bits row s) first (ap added same ∙ new)

    ends : (f : PrefixState) → front_of bits bytes ≡ Known f → long_front bits bytes ≡ Known f → added f ≡ true → CanGoOn older bits ip bytes → ⊥
    ends f front known new (inl opened) = open-known (front_of bits bytes) f opened front
    ends f front known new (inr (more, some, (i, sp))) =
        spells-elsewhere older table added g bits ip (bytes ++ more) i sp f (front-extends bits bytes more f known) new
