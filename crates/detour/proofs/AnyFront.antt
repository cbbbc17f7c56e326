-- The first instructions of some code, of the table and without a row, one more at a time.
use Rattle.std.proofs.Common.{◌≡◌, ℕ, zero, suc, ◌+◌, ◌<◌, ◌≤◌, List, [], ◌∷◌, ◌++◌, length, take, drop, refl, ap, sym, subst, ◌∙◌, arith}
use Rattle.std.specs.Prelude.{IsTrue}
use Rattle.std.proofs.lemmas.List.{map-append, length-append, length-drop, length-take, length-map}
use Rattle.std.proofs.lemmas.List.Sums.{sum_by_push, sum_by-cons}
use Rattle.x86_values.specs.declared.Bits.{Bits}
use Rattle.x86_values.specs.Wrapping.{modulo_width}
use Rattle.row_relation.specs.Spells.{Spells}
use Rattle.opcode_rows.specs.Table.{table}
use Rattle.opcode_rows.specs.declared.generated_spots.TheConstants.{ROWS}
use Rattle.move_goals.specs.declared.items.Placed.{Placed}
use Rattle.move_goals.specs.Items.{IsPlaced, ArePlaced}
use Rattle.code_items.specs.declared.any_items.AnyItem.{AnyItem}
use Rattle.code_items.specs.declared.any_items.AnyItem.TheVariants.{Listed, Unlisted}
use Rattle.code_items.specs.AnyItems.{item_len, any_at, AnyFirst, is_any_formed, IsAnySound}
use Rattle.detour.specs.LawsBelow.{DetourLawsBelow}
use Rattle.detour.specs.Taken.{taken_bytes, offset_at}
use Rattle.detour.specs.Reading.{AreCoded}
use Rattle.detour.specs.AnyTaken.{filler, line_of, outline, AreAnyReadFrom}
use Rattle.detour.specs.AnyReading.{IsFillerAt, IsAnyItemOf, IsAnyFront}
use Rattle.detour.proofs.Front.{each_more, fewest_more}

-- ---- one instruction

-- a line is as long as its instruction
pub line-len : (bits : Bits) (x : AnyItem) → (line_of bits x).len ≡ item_len x
line-len bits (Listed p) = refl
line-len bits (Unlisted u) = refl

-- an instruction has 1 to 15 bytes, which are there
record HasBytes (n len : ℕ) : Type 0 where
  pub some : 1 ≤ n
  pub few : n ≤ 15
  pub within : n ≤ len

bytes-of : (bits : Bits) (n : ℕ) (bytes : List ℕ) (x : AnyItem) → AnyFirst bits n bytes x → HasBytes (item_len x) (length bytes)
bytes-of bits n bytes (Listed p) h = record { some = h.some; few = h.few; within = h.within }
bytes-of bits n bytes (Unlisted u) h = record { some = h.some; few = h.few; within = h.within }

coded-line : DetourLawsBelow → (bits : Bits) (n : ℕ) → IsFillerAt bits n → (x : AnyItem) → IsTrue (is_any_formed x) → (line_of bits x).instr.code.0 < ROWS
coded-line laws bits n fills (Listed p) formed = laws.in_table p.instr formed
coded-line laws bits n fills (Unlisted u) formed = fills.coded

placed-line : (bits : Bits) (n : ℕ) (bytes : List ℕ) → IsFillerAt bits n → (x : AnyItem) → AnyFirst bits n bytes x → IsPlaced bits (line_of bits x)
placed-line bits n bytes fills (Listed p) h =
    let S : ℕ → Type 0 = λ m. Spells table bits m (take p.len bytes) p.instr in
    record { some = h.some; few = h.few; bytes = take p.len bytes; spelled = subst S (ap (modulo_width bits) (sym h.address)) h.reads.1 }
placed-line bits n bytes fills (Unlisted u) h =
    let S : ℕ → Type 0 = λ m. Spells table bits m fills.bytes (filler bits) in
    record { some = h.some; few = h.few; bytes = fills.bytes; spelled = subst S (ap (modulo_width bits) (sym h.address)) fills.spelled }

first-sound : (bits : Bits) (n : ℕ) (bytes : List ℕ) (x : AnyItem) → AnyFirst bits n bytes x → IsAnySound bits x
first-sound bits n bytes (Listed p) h =
    let S : ℕ → Type 0 = λ m. Spells table bits m (take p.len bytes) p.instr in
    record { some = h.some; few = h.few; bytes = take p.len bytes; spelled = subst S (ap (modulo_width bits) (sym h.address)) h.reads.1 }
first-sound bits n bytes (Unlisted u) h =
    let within = h.within in
    (h.some, h.few, ap length h.own ∙ omega (arith, length-take u.shape.len bytes), h.inside)

-- what is read or measured at an offset of some code is an instruction of it
pub item_of : (laws : DetourLawsBelow) (bits : Bits) (ip : ℕ) (code : List ℕ) (offset at : ℕ) (x : AnyItem) → at ≡ modulo_width bits (ip + offset)
    → IsFillerAt bits at → AnyFirst bits at (drop offset code) x → IsTrue (is_any_formed x) → offset ≤ length code → IsAnyItemOf bits ip code offset x
item_of laws bits ip code offset at x is fills first formed inside =
    let size = bytes-of bits at (drop offset code) x first in
    let within = size.within in
    record {
      first = subst (λ (n : ℕ). AnyFirst bits n (drop offset code) x) is first;
      within = omega (arith, length-drop offset code, within, inside);
      some = size.some;
      few = size.few;
      placed = placed-line bits at (drop offset code) fills x first;
      coded = coded-line laws bits at fills x formed;
      sound = first-sound bits at (drop offset code) x first;
    }

-- ---- one more

-- the outline of one more
pub outline-more : (bits : Bits) (items : List AnyItem) (x : AnyItem) → outline bits (items ++ x ∷ []) ≡ outline bits items ++ line_of bits x ∷ []
outline-more bits items x = map-append (line_of bits) items (x ∷ [])

-- and how many bytes they have
pub bytes-more : (bits : Bits) (items : List AnyItem) (x : AnyItem) → taken_bytes (outline bits (items ++ x ∷ [])) ≡ taken_bytes (outline bits items) + item_len x
bytes-more bits items x =
    ap taken_bytes (outline-more bits items x)
    ∙ (sum_by_push (λ (p : Placed). p.len) (outline bits items) (line_of bits x) ∙ ap (λ (n : ℕ). taken_bytes (outline bits items) + n) (line-len bits x))

-- what holds of each instruction holds of each of one more
pub each_any_more : (P : AnyItem → Type 0) (items : List AnyItem) (x : AnyItem) → ((k : ℕ) → k < length items → P (any_at items k)) → P x
    → (k : ℕ) → k < length (items ++ x ∷ []) → P (any_at (items ++ x ∷ []) k)
each_any_more P [] x h last zero lt = last
each_any_more P [] x h last (suc k) lt = absurd (omega arith)
each_any_more P (y ∷ items) x h last zero lt = h zero (omega arith)
each_any_more P (y ∷ items) x h last (suc k) lt = each_any_more P items x (λ j below. h (suc j) (omega (arith, below))) last k (omega (arith, lt))

read_any_more : (bits : Bits) (ip : ℕ) (code : List ℕ) (offset : ℕ) (items : List AnyItem) (x : AnyItem) → AreAnyReadFrom bits ip code offset items
    → (at : ℕ) → at ≡ offset + taken_bytes (outline bits items) → AnyFirst bits (modulo_width bits (ip + at)) (drop at code) x
    → AreAnyReadFrom bits ip code offset (items ++ x ∷ [])
read_any_more bits ip code offset [] x h at e first =
    let same : at ≡ offset = omega (arith, e) in
    (subst (λ (n : ℕ). AnyFirst bits (modulo_width bits (ip + n)) (drop n code) x) same first, tt)
read_any_more bits ip code offset (y ∷ items) x h at e first =
    let sum = sum_by-cons (λ (p : Placed). p.len) (line_of bits y) (outline bits items) in
    (h.0, read_any_more bits ip code (offset + item_len y) items x h.1 at (omega (arith, e, sum, line-len bits y)) first)

-- no instructions are the front of any code
pub any_front_none : (bits : Bits) (ip : ℕ) (code : List ℕ) → IsAnyFront bits ip code []
any_front_none bits ip code = record {
  read = tt;
  within = omega arith;
  placed = λ k lt. absurd (omega (arith, lt));
  coded = λ k lt. absurd (omega (arith, lt));
  sound = record { each = λ k lt. absurd (omega (arith, lt)) };
  few = omega arith;
}

-- **one more of some first instructions**
pub any_front_more : (bits : Bits) (ip : ℕ) (code : List ℕ) (items : List AnyItem) (x : AnyItem) → IsAnyFront bits ip code items → (at : ℕ)
    → at ≡ taken_bytes (outline bits items) → IsAnyItemOf bits ip code at x → IsAnyFront bits ip code (items ++ x ∷ [])
any_front_more bits ip code items x front at e item =
    let sum = bytes-more bits items x in
    let some = item.some in
    record {
      read = read_any_more bits ip code 0 items x front.read at (omega (arith, e)) item.first;
      within = omega (arith, sum, e, item.within);
      placed = subst (λ (ps : List Placed). ArePlaced bits ps) (sym (outline-more bits items x))
          (each_more (IsPlaced bits) (outline bits items) (line_of bits x) front.placed item.placed);
      coded = subst AreCoded (sym (outline-more bits items x)) (each_more (λ q. q.instr.code.0 < ROWS) (outline bits items) (line_of bits x) front.coded item.coded);
      sound = record { each = each_any_more (IsAnySound bits) items x front.sound.each item.sound };
      few = omega (arith, sum, some, front.few, length-append items (x ∷ []));
    }

-- they were fewer bytes than are needed before each of them
pub fewest_any_more : (bits : Bits) (items : List AnyItem) (x : AnyItem) (need : ℕ) → ((k : ℕ) → k < length items → offset_at (outline bits items) k < need)
    → taken_bytes (outline bits items) < need → (k : ℕ) → k < length (items ++ x ∷ []) → offset_at (outline bits (items ++ x ∷ [])) k < need
fewest_any_more bits items x need before below k lt =
    let many : length (outline bits items) ≡ length items = length-map items (line_of bits) in
    let all : length (items ++ x ∷ []) ≡ length items + 1 = length-append items (x ∷ []) in
    let lines : length (outline bits items ++ line_of bits x ∷ []) ≡ length (outline bits items) + 1 = length-append (outline bits items) (line_of bits x ∷ []) in
    subst (λ (ps : List Placed). offset_at ps k < need) (sym (outline-more bits items x))
    (fewest_more (outline bits items) (line_of bits x) need (λ j less. before j (omega (arith, less, many))) below k (omega (arith, lt, many, all, lines)))
