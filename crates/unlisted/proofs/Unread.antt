-- What the table reads of some bytes, at any address and with more bytes.
use Rattle.std.proofs.Common.{◌≡◌, inl, inr, ◌⊎◌, ℕ, ◌<◌, ◌≤◌, List, ◌++◌, length, take, drop, Some, Err, slice_get, refl, ap, sym, ◌∙◌, subst, arith, length-append, length-drop, take-append-drop}
use Rattle.std.proofs.lemmas.Bool.{cases_order}
use Rattle.std.proofs.lemmas.List.{take-append-le, take-take, length-take-le, length-take}
use Rattle.x86_values.specs.declared.Bits.{Bits}
use Rattle.x86_values.specs.declared.Code.{Code}
use Rattle.x86_values.specs.declared.Instr.{Instr}
use Rattle.x86_values.specs.declared.Decoded.{Decoded}
use Rattle.x86_values.specs.Wrapping.{modulo_width}
use Rattle.instruction_parts.specs.declared.row_types.Row.{Row}
use Rattle.instruction_parts.specs.declared.spelling.Spelling.{Spelling}
use Rattle.row_meaning.specs.Meaning.{meaning, instr_of}
use Rattle.row_relation.specs.Spells.{Read, TooShort, Invalid, IsSpelledBy, SpellsUnbounded, ReadsAs, BeginsSpelling, CanGoOn, IsInvalid}
use Rattle.opcode_rows.specs.Table.{table}
use Rattle.opcode_rows.specs.Reading.{IsRead}
use Rattle.decoder.specs.declared.DecodeError.{DecodeError}
use Rattle.decoder.specs.declared.DecodeError.TheVariants.{Invalid as InvalidError, TooShort as TooShortError}
use Rattle.decoder.specs.Answer.{reading_of}
use Rattle.unlisted.specs.Measured.{ReadsNothing, IsNeverRead}

-- ---- at any address

meaning-code : (bits : Bits) (ip : ℕ) (code : Code) (row : Row) (s : Spelling) → (meaning bits ip code row s).code ≡ code
unfolding meaning instr_of
meaning-code bits ip code row s = refl

-- bytes that spell an instruction at one address spell one at another
spells-elsewhere : (bits : Bits) (a b : ℕ) (bytes : List ℕ) (i : Instr) → SpellsUnbounded table bits a bytes i → (k : Instr) × SpellsUnbounded table bits b bytes k
spells-elsewhere bits a b bytes i h =
    let row = h.0 in
    let s = h.2.0 in
    let spelled : IsSpelledBy bits a bytes i row s = h.2.1 in
    let k = meaning bits b i.code row s in
    let same : k.code ≡ i.code = meaning-code bits b i.code row s in
    let there : slice_get table k.code.0 ≡ Some row = subst (λ (c : Code). slice_get table c.0 ≡ Some row) (sym same) h.1 in
    let spelled_there : IsSpelledBy bits b bytes k row s = record {
      bytes_are = spelled.bytes_are;
      fitting = spelled.fitting;
      means = ap (λ (c : Code). meaning bits b c row s) same;
    } in
    (k, (row, there, (s, spelled_there)))

reads-elsewhere : (bits : Bits) (a b : ℕ) (bytes : List ℕ) (i : Instr) (n : ℕ) → ReadsAs table bits a bytes i n → (k : Instr) × ReadsAs table bits b bytes k n
reads-elsewhere bits a b bytes i n h =
    let other = spells-elsewhere bits a b (take n bytes) i h.1.1 in (other.0, (h.0, (h.1.0, other.1)))

begins-elsewhere : (bits : Bits) (a b : ℕ) (bytes : List ℕ) → CanGoOn table bits a bytes → CanGoOn table bits b bytes
begins-elsewhere bits a b bytes (inl open_) = inl open_
begins-elsewhere bits a b bytes (inr h) =
    let other = spells-elsewhere bits a b (bytes ++ h.0) h.2.0 h.2.1 in inr (h.0, h.1, (other.0, other.1))

invalid-elsewhere : (bits : Bits) (a b : ℕ) (bytes : List ℕ) → IsInvalid table bits a bytes → IsInvalid table bits b bytes
invalid-elsewhere bits a b bytes h = record {
  spells_nothing = λ i n r. (let other = reads-elsewhere bits b a bytes i n r in h.spells_nothing other.0 n other.1);
  ends_here = λ short goes. h.ends_here short (begins-elsewhere bits b a bytes goes);
}

-- what is invalid at one address is so at each
pub never-read : (bits : Bits) (ip : ℕ) (bytes : List ℕ) → IsRead bits ip bytes Invalid → IsNeverRead bits bytes
never-read bits ip bytes h = λ b. invalid-elsewhere bits (modulo_width bits ip) (modulo_width bits b) bytes h

-- where no instruction is read at one address, none is at another
pub reads-nothing : (bits : Bits) (ip : ℕ) (bytes : List ℕ) → ((d : Decoded) → IsRead bits ip bytes (Read d) → ⊥) → ReadsNothing bits bytes
reads-nothing bits ip bytes h = λ b d r.
    let other = reads-elsewhere bits (modulo_width bits b) (modulo_width bits ip) bytes d.instr d.len r in
    h (record { instr = other.0; len = d.len }) other.1

-- ---- with more bytes

-- an instruction that is read is read with more bytes behind it
pub reads-more : (bits : Bits) (ip : ℕ) (bytes more : List ℕ) (d : Decoded) → IsRead bits ip bytes (Read d) → IsRead bits ip (bytes ++ more) (Read d)
reads-more bits ip bytes more d h =
    let n = d.len in
    let given : n ≤ length bytes = h.0 in
    let same : take n (bytes ++ more) ≡ take n bytes = take-append-le n bytes more given in
    let P : List ℕ → Type 0 = λ xs. (length xs ≤ 15) × SpellsUnbounded table bits (modulo_width bits ip) xs d.instr in
    (omega (arith, length-append bytes more), subst P (sym same) h.1)

-- an instruction of at most m bytes is read in the first m
reads-within : (bits : Bits) (ip : ℕ) (bytes : List ℕ) (m : ℕ) (d : Decoded) → d.len ≤ m → IsRead bits ip bytes (Read d) → IsRead bits ip (take m bytes) (Read d)
reads-within bits ip bytes m d le h =
    let n = d.len in
    let given : n ≤ length bytes = h.0 in
    let same : take n (take m bytes) ≡ take n bytes = take-take n m bytes le in
    let P : List ℕ → Type 0 = λ xs. (length xs ≤ 15) × SpellsUnbounded table bits (modulo_width bits ip) xs d.instr in
    (omega (arith, length-take m bytes), subst P (sym same) h.1)

-- a longer instruction is begun by the first m
begun-by : (bits : Bits) (ip : ℕ) (bytes : List ℕ) (m : ℕ) (d : Decoded) → m < d.len → IsRead bits ip bytes (Read d) → BeginsSpelling table bits (modulo_width bits ip) (take m bytes)
begun-by bits ip bytes m d lt h =
    let n = d.len in
    let given : n ≤ length bytes = h.0 in
    let whole = take n bytes in
    let size : length whole ≡ n = length-take-le n bytes given in
    let front : take m whole ≡ take m bytes = take-take m n bytes (omega arith) in
    let more = drop m whole in
    let joined : whole ≡ take m bytes ++ more = sym (take-append-drop m whole) ∙ ap (λ xs. xs ++ more) front in (
      more,
      omega (arith, length-drop m whole),
      (d.instr, subst (λ (xs : List ℕ). SpellsUnbounded table bits (modulo_width bits ip) xs d.instr) joined h.1.1),
    )

-- **where the first m bytes are never read, no instruction is read**
pub nothing-behind : (bits : Bits) (ip : ℕ) (bytes : List ℕ) (m : ℕ) (d : Decoded) → IsNeverRead bits (take m bytes) → IsRead bits ip bytes (Read d) → ⊥
nothing-behind bits ip bytes m d never h = elim (le-or-lt d.len m) [
  | inl le ↦ (never ip).spells_nothing d.instr d.len (reads-within bits ip bytes m d le h)
  | inr lt ↦
      let given : d.len ≤ length bytes = h.0 in
      let most : length (take d.len bytes) ≤ 15 = h.1.0 in
      (never ip).ends_here (omega (arith, length-take m bytes, length-take d.len bytes)) (inr (begun-by bits ip bytes m d lt h))
]
  where
    by_order : {a b : ℕ} → (a < b) ⊎ (b < a) → (a ≤ b) ⊎ (b < a)
    by_order (inl lt) = inl (omega arith)
    by_order (inr gt) = inr gt

    le-or-lt : (a b : ℕ) → (a ≤ b) ⊎ (b < a)
    le-or-lt a b = elim (cases_order a b) [ inl same ↦ inl (omega arith) | inr apart ↦ by_order apart ]

-- ---- what the decoder answers

-- after an error nothing is read
pub error-reads-nothing : (bits : Bits) (ip : ℕ) (bytes : List ℕ) (e : DecodeError) → IsRead bits ip bytes (reading_of (Err e)) → ReadsNothing bits bytes
error-reads-nothing bits ip bytes TooShortError h = reads-nothing bits ip bytes (λ d r. h.spells_nothing d.instr d.len r)
error-reads-nothing bits ip bytes InvalidError h = reads-nothing bits ip bytes (λ d r. h.spells_nothing d.instr d.len r)

-- bytes that are too short are not never read
pub short-is-read : (bits : Bits) (ip : ℕ) (bytes : List ℕ) → IsRead bits ip bytes TooShort → IsNeverRead bits bytes → ⊥
short-is-read bits ip bytes h never = (never ip).ends_here h.is_short h.can_go_on

-- after TooShort the bytes are not never read
pub short-answer : (bits : Bits) (ip : ℕ) (bytes : List ℕ) (e : DecodeError) → e ≡ TooShortError → IsRead bits ip bytes (reading_of (Err e)) → IsNeverRead bits bytes → ⊥
short-answer bits ip bytes TooShortError is h never = short-is-read bits ip bytes h never
short-answer bits ip bytes InvalidError is h never = cc

-- after Invalid they are never read
pub invalid-answer : (bits : Bits) (ip : ℕ) (bytes : List ℕ) (e : DecodeError) → e ≡ InvalidError → IsRead bits ip bytes (reading_of (Err e)) → IsNeverRead bits bytes
invalid-answer bits ip bytes TooShortError is h = absurd (no is)
  where
    no : TooShortError ≡ InvalidError → ⊥
    no h = cc
invalid-answer bits ip bytes InvalidError is h = never-read bits ip bytes h
