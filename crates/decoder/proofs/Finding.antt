-- What the one row whose conditions hold says of some bytes.
use Rattle.std.proofs.Common.{◌≡◌, ℕ, suc, ◌+◌, ◌<◌, true, false, Bool, List, [], ◌∷◌, ◌++◌, length, Option, Some, slice_get, refl, ap, sym, ◌∙◌, subst, arith, append_assoc}
use Rattle.x86_values.specs.declared.Bits.{Bits}
use Rattle.instruction_parts.specs.declared.row_types.Row.{Row}
use Rattle.instruction_parts.specs.declared.spelling.Spelling.{Spelling}
use Rattle.instruction_parts.specs.declared.spelling.PrefixState.{PrefixState}
use Rattle.instruction_parts.specs.Bytes.{bytes_of, front_bytes, tail_bytes, state_of, state_from}
use Rattle.instruction_parts.specs.Front.{Known, long_front, front_of}
use Rattle.row_relation.specs.Spells.{SpellsNothing}
use Rattle.instruction_parts.specs.RowFields.Holds.{holds, HoldsNowhere, IsOnlyRow}
use Rattle.opcode_rows.specs.Table.{table}
use Rattle.opcode_rows.specs.UniqueSpelling.FieldsOf.{fields_of, first_byte}
use Rattle.opcode_rows.proofs.UniqueSpelling.Unique.{row-holds}
use Rattle.decoder.specs.Cells.{RowIsLate}
use Rattle.decoder.proofs.Fronts.{known_is}
use Rattle.decoder.proofs.ReadingLaws.{IsAtFront, at_front}

-- ---- the byte behind the opcode byte

first_is : (xs : List ℕ) → slice_get xs 0 ≡ first_byte xs
first_is [] = refl
first_is (x ∷ xs) = refl

behind : (xs ys : List ℕ) (o : ℕ) → slice_get (xs ++ (o ∷ ys)) (length xs + 1) ≡ first_byte ys
behind [] ys o = first_is ys
behind (x ∷ xs) ys o =
    let e : length (x ∷ xs) + 1 ≡ suc (length xs + 1) = omega arith in
    rw e (behind xs ys o)

parted : (row : Row) (s : Spelling) (rest : List ℕ) → bytes_of row s ++ rest ≡ front_bytes row s ++ (s.opcode ∷ (tail_bytes s ++ rest))
unfolding bytes_of
parted row s rest = append_assoc (front_bytes row s) (s.opcode ∷ tail_bytes s) rest

next_byte : (bits : Bits) (row : Row) (s : Spelling) (rest : List ℕ)
    → slice_get (bytes_of row s ++ rest) ((state_of bits row s).used + 1) ≡ first_byte (tail_bytes s ++ rest)
unfolding state_of state_from
next_byte bits row s rest =
    ap (λ xs. slice_get xs (length (front_bytes row s) + 1)) (parted row s rest) ∙ behind (front_bytes row s) (tail_bytes s ++ rest) s.opcode

-- ---- the row of a spelling at the front holds

front_holds : (bits : Bits) (ip : ℕ) (bytes : List ℕ) (state : PrefixState) (i : _) (n : ℕ) → long_front bits bytes ≡ Known state
    → (a : IsAtFront table bits ip bytes i n) → holds bits a.row (fields_of state (slice_get bytes (state.used + 1))) ≡ true
front_holds bits ip bytes state i n h a =
    let same : state_of bits a.row a.spelling ≡ state = (let front = a.front in cc) in
    let next : slice_get bytes ((state_of bits a.row a.spelling).used + 1) ≡ first_byte (tail_bytes a.spelling ++ a.rest) =
    ap (λ xs. slice_get xs ((state_of bits a.row a.spelling).used + 1)) a.bytes_are ∙ next_byte bits a.row a.spelling a.rest in
    subst (λ (x : PrefixState). holds bits a.row (fields_of x (slice_get bytes (x.used + 1))) ≡ true) same
    (subst (λ (o : Option ℕ). holds bits a.row (fields_of (state_of bits a.row a.spelling) o) ≡ true) (sym next)
    (row-holds bits i.code.0 a.row a.spelling a.rest a.there a.fitting))

not_both : (b : Bool) → b ≡ true → b ≡ false → ⊥
not_both b p q = cc

-- two rows with one code are one
pub same_some : (row other : Row) → Some row ≡ Some other → row ≡ other
same_some row other h = cc

-- **where no row's conditions hold, no instruction is at the front**
pub no_row_spells : (bits : Bits) (ip : ℕ) (bytes : List ℕ) (state : PrefixState) → front_of bits bytes ≡ Known state
    → HoldsNowhere bits table (fields_of state (slice_get bytes (state.used + 1))) → SpellsNothing table bits ip bytes
unfolding front_of
no_row_spells bits ip bytes state h nowhere = λ i n r.
    let known = known_is (length bytes) (long_front bits bytes) state h in
    let a = at_front table bits ip bytes i n r in
    not_both _ (front_holds bits ip bytes state i n known.0 a) (nowhere i.code.0 a.row a.there)

-- **where the one row reads nothing within 15 bytes, no instruction is at the front**
pub one_row_spells : (bits : Bits) (ip : ℕ) (bytes : List ℕ) (state : PrefixState) (code : ℕ) (row : Row) → front_of bits bytes ≡ Known state
    → IsOnlyRow bits table (fields_of state (slice_get bytes (state.used + 1))) code → slice_get table code ≡ Some row
    → RowIsLate bits row bytes → SpellsNothing table bits ip bytes
unfolding front_of
one_row_spells bits ip bytes state code row h only there late = λ i n r.
    let known = known_is (length bytes) (long_front bits bytes) state h in
    let a = at_front table bits ip bytes i n r in
    let same : i.code.0 ≡ code = only.alone i.code.0 a.row a.there (front_holds bits ip bytes state i n known.0 a) in
    let alike : a.row ≡ row = same_some a.row row (sym a.there ∙ ap (slice_get table) same ∙ there) in
    let long : RowIsLate bits a.row bytes = subst (λ (x : Row). RowIsLate bits x bytes) (sym alike) late in
    let above : 15 < length (bytes_of a.row a.spelling) = long a.spelling a.rest a.fitting a.bytes_are in
    omega (arith, above, a.length_is, a.short)
