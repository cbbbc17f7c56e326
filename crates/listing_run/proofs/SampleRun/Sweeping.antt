-- The sweep of made code.
use Rattle.std.proofs.Common.{◌≡◌, ℕ, zero, suc, ◌+◌, ◌*◌, ◌≤◌, List, [], ◌∷◌, ◌++◌, length, take, drop, refl, sym, ap, subst, arith, length-append}
use Rattle.std.specs.Prelude.{All}
use Rattle.std.proofs.Math.Nat.{mod-eq_of_lt}
use Rattle.std.proofs.Math.Seq.{take-append_seam, drop-append_seam}
use Rattle.std.proofs.lemmas.List.Elements.{All-nil, All-cons}
use Rattle.x86_values.specs.declared.Bits.TheVariants.{B64}
use Rattle.x86_values.specs.declared.Decoded.{Decoded}
use Rattle.x86_values.specs.Wrapping.{modulo_width}
use Rattle.row_relation.specs.Spells.{Read, Spells}
use Rattle.opcode_rows.specs.Table.{table}
use Rattle.opcode_rows.specs.Sweep.{Item, IsReadAt, IsItemAt, Sweeps}
use Rattle.listing_run.specs.SampleRun.Generator.{next_state, drawn_number, instr_bytes, code_from, sample_code, sample_base}
use Rattle.listing_run.specs.SampleRun.Made.{IsMade, HasInstructions}
use Rattle.listing_run.proofs.SampleRun.Drawn.{IsOne, drawn-one}

-- the item of an instruction at an offset
abbrev decoded_as : {ip : ℕ} {bytes : List ℕ} → IsOne ip bytes → Decoded
decoded_as {ip} {bytes} one = record { instr = one.instr; len = length bytes }

abbrev item_of : {ip : ℕ} {bytes : List ℕ} → ℕ → IsOne ip bytes → Item
item_of {ip} {bytes} offset one = record { offset = offset; bytes = bytes; reading = Read (decoded_as one) }

-- it is read there, whatever stands behind it
is_read : (offset ip : ℕ) (bytes rest : List ℕ) (one : IsOne ip bytes) → ip ≡ modulo_width B64 (sample_base + offset) →
    IsReadAt B64 sample_base offset (bytes ++ rest) (Read (decoded_as one))
unfolding IsReadAt
is_read offset ip bytes rest one place =
    let front : take (length bytes) (bytes ++ rest) ≡ bytes = take-append_seam bytes rest in
    let S : List ℕ → Type 0 = λ xs. Spells table B64 (modulo_width B64 (sample_base + offset)) xs one.instr in
    let A : ℕ → Type 0 = λ at. Spells table B64 at bytes one.instr in
    (omega (arith, length-append bytes rest), subst S (sym front) (subst A place one.spelled))

is_item : (offset ip : ℕ) (bytes rest : List ℕ) (one : IsOne ip bytes) → ip ≡ modulo_width B64 (sample_base + offset) →
    IsItemAt B64 sample_base offset (bytes ++ rest) (item_of offset one)
is_item offset ip bytes rest one place = record {
  offset_is = refl;
  reads = is_read offset ip bytes rest one place;
  within = omega (arith, length-append bytes rest);
  some = one.some;
  bytes_are = sym (take-append_seam bytes rest);
}

-- the items of the code behind a state
record Swept (offset x n : ℕ) : Type 0 where
  items : List Item
  sweeps : Sweeps B64 sample_base offset (code_from x n) items []
  count : length items ≡ n
  made : All IsMade items
  short : length (code_from x n) ≤ 7 * n

swept : (offset x n : ℕ) → offset + 7 * n ≤ 7 * 65536 → Swept offset x n
unfolding code_from
swept offset x zero room = record { items = []; sweeps = refl; count = refl; made = All-nil IsMade; short = omega arith }
swept offset x (suc n) room =
    let r = drawn_number (next_state x) in
    let bytes = instr_bytes r in
    let rest = code_from (next_state x) n in
    let ip = sample_base + offset in
    let plain : ip ≡ modulo_width B64 (sample_base + offset) = sym (mod-eq_of_lt (omega arith)) in
    let one = drawn-one ip r (omega arith) in
    let short = one.short in
    let more = swept (offset + length bytes) (next_state x) n (omega arith) in
    let behind : drop (length bytes) (bytes ++ rest) ≡ rest = drop-append_seam bytes rest in
    let S : List ℕ → Type 0 = λ xs. Sweeps B64 sample_base (offset + length bytes) xs more.items [] in
    record {
      items = item_of offset one ∷ more.items;
      sweeps = (is_item offset ip bytes rest one plain, subst S (sym behind) more.sweeps);
      count = ap suc more.count;
      made = All-cons IsMade (item_of offset one) more.items (record { decoded = decoded_as one; reads = refl; aim = one.aim }) more.made;
      short = omega (arith, length-append bytes rest, more.short, short);
    }

-- **made code has instructions alone**
pub has-instructions : (n : ℕ) → n ≤ 65536 → HasInstructions n
unfolding sample_code
has-instructions n few =
    let all = swept 0 n n (omega arith) in
    record { items = all.items; sweep = all.sweeps; count = all.count; made = all.made; short = all.short }
