-- The first instructions of some code, one more at a time.
use Rattle.std.proofs.Common.{◌≡◌, ℕ, zero, suc, ◌+◌, ◌<◌, ◌≤◌, inl, inr, List, [], ◌∷◌, ◌++◌, length, take, drop, sym, subst, arith}
use Rattle.std.specs.Prelude.{IsTrue}
use Rattle.std.proofs.lemmas.Bool.{cases_lt}
use Rattle.std.proofs.lemmas.List.{take-append-le, length-append, length-drop}
use Rattle.std.proofs.lemmas.List.Sums.{sum_by_push, sum_by-cons}
use Rattle.std.proofs.Math.Seq.{take-append_seam}
use Rattle.x86_values.specs.declared.Bits.{Bits}
use Rattle.x86_values.specs.declared.Decoded.{Decoded}
use Rattle.x86_values.specs.Wrapping.{modulo_width}
use Rattle.row_relation.specs.Spells.{Read}
use Rattle.opcode_rows.specs.Allowed.{is_well_formed}
use Rattle.opcode_rows.specs.declared.generated_spots.TheConstants.{ROWS}
use Rattle.opcode_rows.specs.Reading.{IsRead}
use Rattle.opcode_rows.specs.Sweep.{IsReadAt}
use Rattle.move_goals.specs.declared.items.Placed.{Placed}
use Rattle.move_goals.specs.Items.{IsPlaced, item_at}
use Rattle.detour.specs.LawsBelow.{DetourLawsBelow}
use Rattle.detour.specs.Reading.{IsItemOf, IsFront}
use Rattle.detour.specs.Taken.{taken_bytes, offset_at, reading_of_item, AreReadFrom}

-- what is decoded at an offset of some code is an instruction of it
pub item_of : (laws : DetourLawsBelow) (bits : Bits) (ip : ℕ) (code : List ℕ) (offset at : ℕ) (d : Decoded) → at ≡ modulo_width bits (ip + offset)
    → IsRead bits at (drop offset code) (Read d) → 0 < d.len → d.len ≤ 15 → d.len ≤ length (drop offset code) → offset ≤ length code
    → IsTrue (is_well_formed d.instr) → IsItemOf bits ip code offset (record { ip = at; len = d.len; instr = d.instr })
item_of laws bits ip code offset at d is reads some few within inside well =
    record {
      address = is;
      reads = laws.wraps.read_at_wrapped bits ip offset at (drop offset code) (Read d) is reads;
      within = omega (arith, length-drop offset code, within, inside);
      placed = record { some = some; few = few; bytes = take d.len (drop offset code); spelled = reads.1 };
      coded = laws.in_table d.instr well;
    }

-- what holds of each instruction holds of each of one more
pub each_more : (P : Placed → Type 0) (items : List Placed) (p : Placed) → ((k : ℕ) → k < length items → P (item_at items k)) → P p
    → (k : ℕ) → k < length (items ++ p ∷ []) → P (item_at (items ++ p ∷ []) k)
each_more P [] p h last zero lt = last
each_more P [] p h last (suc k) lt = absurd (omega arith)
each_more P (q ∷ items) p h last zero lt = h zero (omega arith)
each_more P (q ∷ items) p h last (suc k) lt = each_more P items p (λ j below. h (suc j) (omega (arith, below))) last k (omega (arith, lt))

-- one more is read behind the others
pub read_more : (bits : Bits) (ip : ℕ) (code : List ℕ) (offset : ℕ) (items : List Placed) (p : Placed) → AreReadFrom bits ip code offset items
    → (at : ℕ) → at ≡ offset + taken_bytes items → p.ip ≡ modulo_width bits (ip + at) → IsReadAt bits ip at (drop at code) (reading_of_item p)
    → AreReadFrom bits ip code offset (items ++ p ∷ [])
read_more bits ip code offset [] p h at e address reads =
    let same : at ≡ offset = omega (arith, e) in
    ((subst (λ (n : ℕ). p.ip ≡ modulo_width bits (ip + n)) same address, subst (λ (n : ℕ). IsReadAt bits ip n (drop n code) (reading_of_item p)) same reads), tt)
read_more bits ip code offset (q ∷ items) p h at e address reads =
    let sum = sum_by-cons (λ (x : Placed). x.len) q items in
    (h.0, read_more bits ip code (offset + q.len) items p h.1 at (omega (arith, e, sum)) address reads)

-- no instructions are the front of any code
pub front_none : (bits : Bits) (ip : ℕ) (code : List ℕ) → IsFront bits ip code []
front_none bits ip code = record {
  read = tt;
  within = omega arith;
  placed = λ k lt. absurd (omega (arith, lt));
  coded = λ k lt. absurd (omega (arith, lt));
  few = omega arith;
}

-- **one more of some first instructions**
pub front_more : (bits : Bits) (ip : ℕ) (code : List ℕ) (items : List Placed) (p : Placed) → IsFront bits ip code items → (at : ℕ) → at ≡ taken_bytes items
    → IsItemOf bits ip code at p → IsFront bits ip code (items ++ p ∷ [])
front_more bits ip code items p front at e item =
    let sum = sum_by_push (λ (x : Placed). x.len) items p in
    let some = item.placed.some in
    record {
      read = read_more bits ip code 0 items p front.read at (omega (arith, e)) item.address item.reads;
      within = omega (arith, sum, e, item.within);
      placed = each_more (IsPlaced bits) items p front.placed item.placed;
      coded = each_more (λ q. q.instr.code.0 < ROWS) items p front.coded item.coded;
      few = omega (arith, sum, some, front.few, length-append items (p ∷ []));
    }

-- they were fewer bytes than are needed before each of them
pub fewest_more : (items : List Placed) (p : Placed) (need : ℕ) → ((k : ℕ) → k < length items → offset_at items k < need) → taken_bytes items < need
    → (k : ℕ) → k < length (items ++ p ∷ []) → offset_at (items ++ p ∷ []) k < need
fewest_more items p need before below k lt =
    elim (cases_lt k (length items)) [
      | inl less ↦ subst (λ (front : List Placed). taken_bytes front < need) (sym (take-append-le k items (p ∷ []) (omega arith))) (before k less)
      | inr not_less ↦
          let e : length items ≡ k = omega (arith, lt, not_less, length-append items (p ∷ [])) in
          subst (λ (n : ℕ). offset_at (items ++ p ∷ []) n < need) e (subst (λ (front : List Placed). taken_bytes front < need) (sym (take-append_seam items (p ∷ []))) below)
    ]
