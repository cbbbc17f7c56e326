-- Plain spellings that stand one behind another: joined, how long they are, and that the sweep of them gives the instructions.
use Rattle.std.proofs.Common.{◌≡◌, ℕ, zero, suc, ◌+◌, ◌<◌, ◌≤◌, List, [], ◌∷◌, ◌++◌, length, Option, Some, None, Result, Ok, Err, slice_get, refl, ap, sym, ◌∙◌, subst, append_assoc, arith, length-append}
use Rattle.std.specs.List.{flat_map, range_with_len}
use Rattle.std.specs.Prelude.{IsSome, is_some}
use Rattle.std.proofs.Math.Seq.{take-append_seam, drop-append_seam}
use Rattle.x86_values.specs.declared.Bits.{Bits}
use Rattle.x86_values.specs.declared.Instr.{Instr}
use Rattle.x86_values.specs.Wrapping.{modulo_width}
use Rattle.instruction_parts.specs.declared.row_types.Row.{Row}
use Rattle.plain_spelling.specs.declared.NoSpelling.{NoSpelling}
use Rattle.plain_spelling.specs.declared.NoSpelling.TheVariants as cause
use Rattle.opcode_rows.specs.Table.{table}
use Rattle.opcode_rows.specs.Sweep.{IsReadAt, IsItemAt, Sweeps}
use Rattle.encoder.specs.Encoding.{encoding}
use Rattle.move_goals.specs.BranchForms.Images.{pieces_length}
use Rattle.block_encoder.specs.Bytes.{in_front, bytes_from}
use Rattle.block_encoder.specs.Read.{read_item, read_items}
use Rattle.block_encoder.specs.LawsBelow.{MovedLawsBelow}

-- each of some instructions has four operands
abbrev pub HaveFour : List Instr → Type 0
HaveFour [] = Unit {0}
HaveFour (i ∷ is) = (length i.ops ≡ 4) × HaveFour is

-- two lists of instructions with four operands joined
pub have_four-append : (is js : List Instr) → HaveFour is → HaveFour js → HaveFour (is ++ js)
have_four-append [] js a b = b
have_four-append (i ∷ is) js (a, more) b = (a, have_four-append is js more b)

-- ---- one spelling

-- an instruction with an encoding has its bytes
pub one_spelled : (bits : Bits) (at : ℕ) (i : Instr) (bytes : List ℕ) → encoding bits at i ≡ Ok bytes → IsSome (bytes_from bits at (i ∷ []))
unfolding bytes_from
one_spelled bits at i bytes h =
    ap (λ (r : Result (List ℕ) NoSpelling). is_some (elim r as (λ (x : Result (List ℕ) NoSpelling). Option (List ℕ)) [ Ok b ↦ in_front b (Some []) | Err why ↦ None ])) h

-- an instruction without a row has none
without_row : (bits : Bits) (at : ℕ) (i : Instr) → slice_get table i.code.0 ≡ None → Err cause.Row ≡ encoding bits at i
unfolding encoding
without_row bits at i none = rw none refl

-- ---- several spellings

-- bytes in front of others are there, and so are the others
in_front-some : (bytes : List ℕ) (more : Option (List ℕ)) (all : List ℕ) → in_front bytes more ≡ Some all → (rest : List ℕ) × (more ≡ Some rest) × (all ≡ bytes ++ rest)
in_front-some bytes None all h = cc
in_front-some bytes (Some rest) all h = (rest, refl, cc)

-- the spelling of the first of some instructions, and those of the others behind it
pub record Parted (bits : Bits) (at : ℕ) (i : Instr) (is : List Instr) (all : List ℕ) : Type 0 where
  pub bytes : List ℕ
  pub rest : List ℕ
  pub first : encoding bits at i ≡ Ok bytes
  pub others : bytes_from bits (at + length bytes) is ≡ Some rest
  pub all_are : all ≡ bytes ++ rest

-- the bytes of some instructions are those of the first and of the others
pub parted : (bits : Bits) (at : ℕ) (i : Instr) (is : List Instr) (all : List ℕ) → bytes_from bits at (i ∷ is) ≡ Some all → Parted bits at i is all
unfolding bytes_from
parted bits at i is all h = by_encoding (encoding bits at i) refl h
  where
    by_encoding : (r : Result (List ℕ) NoSpelling) → encoding bits at i ≡ r → (elim r as (λ (x : Result (List ℕ) NoSpelling). Option (List ℕ)) [ Ok bytes ↦ in_front bytes (bytes_from bits (at + length bytes) is) | Err why ↦ None ]) ≡ Some all → Parted bits at i is all
    by_encoding (Err why) e h = cc
    by_encoding (Ok bytes) e h =
        let k = in_front-some bytes (bytes_from bits (at + length bytes) is) all h in
        record { bytes = bytes; rest = k.0; first = e; others = k.1; all_are = k.2 }

-- a spelling in front of others
pub cons-spelled : (bits : Bits) (at : ℕ) (i : Instr) (is : List Instr) (bytes rest : List ℕ) → encoding bits at i ≡ Ok bytes → bytes_from bits (at + length bytes) is ≡ Some rest → bytes_from bits at (i ∷ is) ≡ Some (bytes ++ rest)
unfolding bytes_from
cons-spelled bits at i is bytes rest first others =
    ap (λ (r : Result (List ℕ) NoSpelling). elim r as (λ (x : Result (List ℕ) NoSpelling). Option (List ℕ)) [ Ok b ↦ in_front b (bytes_from bits (at + length b) is) | Err why ↦ None ]) first
    ∙ ap (in_front bytes) others

-- **spellings that stand behind others**
pub spellings-append : (bits : Bits) (at : ℕ) (is js : List Instr) (a b : List ℕ) → bytes_from bits at is ≡ Some a → bytes_from bits (at + length a) js ≡ Some b → bytes_from bits at (is ++ js) ≡ Some (a ++ b)
unfolding bytes_from
spellings-append bits at [] js a b h g =
    let e : a ≡ [] = cc in
    let here : at + length a ≡ at = omega (arith, ap length e) in
    subst (λ (n : ℕ). bytes_from bits n js ≡ Some b) here g ∙ ap (λ (l : List ℕ). Some (l ++ b)) (sym e)
spellings-append bits at (i ∷ is) js a b h g =
    let p = parted bits at i is a h in
    let here : at + length a ≡ at + length p.bytes + length p.rest = omega (arith, ap length p.all_are, length-append p.bytes p.rest) in
    let next = spellings-append bits (at + length p.bytes) is js p.rest b p.others (subst (λ (n : ℕ). bytes_from bits n js ≡ Some b) here g) in
    cons-spelled bits at i (is ++ js) p.bytes (p.rest ++ b) p.first next
    ∙ ap Some (sym (append_assoc p.bytes p.rest b) ∙ ap (λ (l : List ℕ). l ++ b) (sym p.all_are))

-- ---- images one behind another

-- the images of some items have these bytes, each at its place, and the next place is behind them
abbrev pub StandAt : Bits → (ℕ → List Instr) → (ℕ → List ℕ) → (ℕ → ℕ) → ℕ → Type 0
StandAt bits image bytes at k = (bytes_from bits (at k) (image k) ≡ Some (bytes k)) × (at (k + 1) ≡ at k + length (bytes k))

-- **images one behind another are the spellings of all their instructions**
pub images-joined : (bits : Bits) (image : ℕ → List Instr) (bytes : ℕ → List ℕ) (at : ℕ → ℕ) (first n : ℕ)
    → ((k : ℕ) → first ≤ k → k < first + n → StandAt bits image bytes at k)
    → bytes_from bits (at first) (flat_map image (range_with_len first n)) ≡ Some (flat_map bytes (range_with_len first n))
unfolding bytes_from
images-joined bits image bytes at first zero h = refl
images-joined bits image bytes at first (suc n) h =
    let here = h first (omega arith) (omega arith) in
    let next = images-joined bits image bytes at (first + 1) n (λ k a b. h k (omega arith) (omega arith)) in
    spellings-append bits (at first) (image first) (flat_map image (range_with_len (first + 1) n)) (bytes first) (flat_map bytes (range_with_len (first + 1) n)) here.0
    (subst (λ (m : ℕ). bytes_from bits m (flat_map image (range_with_len (first + 1) n)) ≡ Some (flat_map bytes (range_with_len (first + 1) n))) here.1 next)

-- the instructions of images have four operands
pub images-have_four : (image : ℕ → List Instr) (first n : ℕ) → ((k : ℕ) → first ≤ k → k < first + n → HaveFour (image k)) → HaveFour (flat_map image (range_with_len first n))
images-have_four image first zero h = tt
images-have_four image first (suc n) h =
    have_four-append (image first) (flat_map image (range_with_len (first + 1) n)) (h first (omega arith) (omega arith))
    (images-have_four image (first + 1) n (λ k a b. h k (omega arith) (omega arith)))

module _ (laws : MovedLawsBelow) where
  -- it has a byte
  some_bytes : (bits : Bits) (at : ℕ) (i : Instr) (bytes : List ℕ) → encoding bits at i ≡ Ok bytes → 0 < length bytes
  some_bytes bits at i bytes h = by_row (slice_get table i.code.0) refl
    where
      by_row : (row : Option Row) → slice_get table i.code.0 ≡ row → 0 < length bytes
      by_row None e = let k = without_row bits at i e in cc
      by_row (Some row) e = omega (arith, laws.targets.encoding-length bits at i bytes h, laws.targets.plain_length-row bits i row e, laws.targets.some_byte bits row i)

  -- it is an item of the sweep, whatever stands behind it
  spelled_item : (bits : Bits) (base offset : ℕ) (i : Instr) (bytes rest : List ℕ) → length i.ops ≡ 4 → encoding bits (base + offset) i ≡ Ok bytes → IsItemAt bits base offset (bytes ++ rest) (read_item offset bytes i)
  unfolding IsReadAt
  spelled_item bits base offset i bytes rest four h = record {
    offset_is = refl;
    reads = laws.encodings.plain-reads bits (modulo_width bits (base + offset)) bytes rest i (laws.encodings.encoded-plain bits (base + offset) i bytes four h);
    within = omega (arith, length-append bytes rest);
    some = some_bytes bits (base + offset) i bytes h;
    bytes_are = sym (take-append_seam bytes rest);
  }

  -- **the sweep of plain spellings gives the instructions**
  pub spellings-sweep : (bits : Bits) (base offset : ℕ) (is : List Instr) (all : List ℕ) → HaveFour is → bytes_from bits (base + offset) is ≡ Some all → Sweeps bits base offset all (read_items bits base offset is) []
  unfolding bytes_from read_items
  spellings-sweep bits base offset [] all four h = cc
  spellings-sweep bits base offset (i ∷ is) all (four, more) h =
      let p = parted bits (base + offset) i is all h in
      let e : base + offset + length p.bytes ≡ base + (offset + length p.bytes) = omega arith in
      let others = subst (λ (at : ℕ). bytes_from bits at is ≡ Some p.rest) e p.others in
      let next = spellings-sweep bits base (offset + length p.bytes) is p.rest more others in
      let behind = subst (λ (l : List ℕ). Sweeps bits base (offset + length p.bytes) l (read_items bits base (offset + length p.bytes) is) []) (sym (drop-append_seam p.bytes p.rest)) next in
      let item = spelled_item bits base offset i p.bytes p.rest four p.first in
      subst (λ (l : List ℕ). Sweeps bits base offset l (elim (encoding bits (base + offset) i) [ Ok bytes ↦ read_item offset bytes i ∷ read_items bits base (offset + length bytes) is | Err why ↦ [] ]) []) (sym p.all_are)
      (rw p.first (item, behind))

  -- **they are as long as the pieces**
  pub spellings-length : (bits : Bits) (at : ℕ) (is : List Instr) (all : List ℕ) → bytes_from bits at is ≡ Some all → length all ≡ pieces_length bits is
  unfolding bytes_from
  spellings-length bits at [] all h = let k : all ≡ [] = cc in rw k refl
  spellings-length bits at (i ∷ is) all h =
      let p = parted bits at i is all h in
      omega (arith, ap length p.all_are, length-append p.bytes p.rest, laws.targets.encoding-length bits at i p.bytes p.first, spellings-length bits (at + length p.bytes) is p.rest p.others)
