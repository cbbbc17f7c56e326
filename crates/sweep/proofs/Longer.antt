-- What is read of 15 bytes and more stays whatever bytes follow, and so do the first items of a sweep.
use Rattle.std.proofs.Common.{◌≡◌, ℕ, ◌+◌, ◌≤◌, List, [], ◌∷◌, ◌++◌, length, drop, sym, ap, ◌∙◌, subst, arith, length-append}
use Rattle.std.specs.Prelude.{All}
use Rattle.std.proofs.lemmas.List.{take-append-le, drop-append-le, length-drop, length-take}
use Rattle.std.proofs.lemmas.List.Elements.{All-head, All-tail}
use Rattle.x86_values.specs.declared.Bits.{Bits}
use Rattle.x86_values.specs.Wrapping.{modulo_width}
use Rattle.x86_values.specs.declared.Instr.{Instr}
use Rattle.row_relation.specs.Spells.{Reading, Read, TooShort, Invalid, ReadsAs, SpellsNothing, Spells}
use Rattle.opcode_rows.specs.Table.{table}
use Rattle.opcode_rows.specs.Reading.{IsRead}
use Rattle.opcode_rows.specs.Sweep.{Item, IsReadAt, IsItemAt, Sweeps, item_len}
use Rattle.sweep.specs.Steps.{IsReady}

-- ---- one reading

reads_longer : (bits : Bits) (ip : ℕ) (bytes more : List ℕ) (i : Instr) (n : ℕ) → ReadsAs table bits ip bytes i n → ReadsAs table bits ip (bytes ++ more) i n
reads_longer bits ip bytes more i n h =
    let few = h.0 in (
      omega (arith, length-append bytes more),
      subst (λ xs. Spells table bits ip xs i) (sym (take-append-le n bytes more h.0)) h.1,
    )

spelled_short : (bits : Bits) (ip : ℕ) (bytes : List ℕ) (i : Instr) (n : ℕ) → ReadsAs table bits ip bytes i n → n ≤ 15
spelled_short bits ip bytes i n h =
    let few = h.0 in
    let short = h.1.0 in omega (arith, length-take n bytes)

nothing_longer : (bits : Bits) (ip : ℕ) (bytes more : List ℕ) → 15 ≤ length bytes → SpellsNothing table bits ip bytes → SpellsNothing table bits ip (bytes ++ more)
nothing_longer bits ip bytes more long none i n h =
    let short = spelled_short bits ip (bytes ++ more) i n h in
    none i n (omega (arith, long), subst (λ xs. Spells table bits ip xs i) (take-append-le n bytes more (omega (arith, long))) h.1)

read_longer : (bits : Bits) (ip : ℕ) (bytes more : List ℕ) (reading : Reading) → 15 ≤ length bytes → IsRead bits ip bytes reading →
    IsRead bits ip (bytes ++ more) reading
read_longer bits ip bytes more (Read d) long h = reads_longer bits (modulo_width bits ip) bytes more d.instr d.len h
read_longer bits ip bytes more TooShort long h = let short = h.is_short in absurd (omega arith)
read_longer bits ip bytes more Invalid long h =
    record {
      spells_nothing = nothing_longer bits (modulo_width bits ip) bytes more long h.spells_nothing;
      ends_here = λ short. absurd (omega (arith, length-append bytes more));
    }

read_at_longer : (bits : Bits) (base offset : ℕ) (bytes more : List ℕ) (reading : Reading) → 15 ≤ length bytes → IsReadAt bits base offset bytes reading →
    IsReadAt bits base offset (bytes ++ more) reading
unfolding IsReadAt
read_at_longer bits base offset bytes more reading long h = read_longer bits (base + offset) bytes more reading long h

item_longer : (bits : Bits) (base offset : ℕ) (bytes more : List ℕ) (item : Item) → 15 ≤ length bytes → IsItemAt bits base offset bytes item →
    IsItemAt bits base offset (bytes ++ more) item
item_longer bits base offset bytes more item long h =
    let within = h.within in
    record {
      offset_is = h.offset_is;
      reads = read_at_longer bits base offset bytes more item.reading long h.reads;
      within = omega (arith, length-append bytes more);
      some = h.some;
      bytes_are = h.bytes_are ∙ sym (take-append-le (item_len item.reading) bytes more h.within);
    }

-- ---- first items

-- items that are ready are so where more bytes were seen
pub all_ready : (n m : ℕ) (items : List Item) → n ≤ m → All (IsReady n) items → All (IsReady m) items
all_ready n m items le all = λ k d lt. let r = all k d lt in omega arith

-- **first items of which 15 bytes were seen stay whatever bytes follow**
pub sweeps_longer : (bits : Bits) (base offset : ℕ) (bytes more : List ℕ) (items : List Item) (rest : List ℕ) → Sweeps bits base offset bytes items rest →
    All (IsReady (offset + length bytes)) items → Sweeps bits base offset (bytes ++ more) items (rest ++ more)
sweeps_longer bits base offset bytes more [] rest h ready = ap (λ xs. xs ++ more) h
sweeps_longer bits base offset bytes more (item ∷ items) rest h ready =
    let n : ℕ = item_len item.reading in
    let within = h.0.within in
    let first = All-head (IsReady (offset + length bytes)) item items ready in
    let at = h.0.offset_is in
    let long : 15 ≤ length bytes = omega arith in
    let same : offset + length bytes ≡ offset + n + length (drop n bytes) = omega (arith, length-drop n bytes) in
    let tail = All-tail (IsReady (offset + length bytes)) item items ready in
    let rest_ready : All (IsReady (offset + n + length (drop n bytes))) items = subst (λ m. All (IsReady m) items) same tail in (
      item_longer bits base offset bytes more item long h.0,
      subst (λ xs. Sweeps bits base (offset + n) xs items (rest ++ more)) (sym (drop-append-le n bytes more h.0.within))
          (sweeps_longer bits base (offset + n) (drop n bytes) more items rest h.1 rest_ready),
    )

-- first items, and more behind them
pub sweeps_join : (bits : Bits) (base offset at : ℕ) (bytes : List ℕ) (items : List Item) (middle : List ℕ) (more : List Item) (rest : List ℕ) →
    Sweeps bits base offset bytes items middle → offset + length bytes ≡ at + length middle → Sweeps bits base at middle more rest →
    Sweeps bits base offset bytes (items ++ more) rest
sweeps_join bits base offset at bytes [] middle more rest h place k =
    let there : at ≡ offset = omega (arith, ap length h) in
    subst (λ xs. Sweeps bits base offset xs more rest) (sym h) (subst (λ n. Sweeps bits base n middle more rest) there k)
sweeps_join bits base offset at bytes (item ∷ items) middle more rest h place k =
    let n : ℕ = item_len item.reading in
    let within = h.0.within in
    (h.0, sweeps_join bits base (offset + n) at (drop n bytes) items middle more rest h.1 (omega (arith, length-drop n bytes)) k)
