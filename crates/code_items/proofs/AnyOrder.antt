-- The instructions that stand one behind another: where code ends inside the address space they have their addresses in the mode, which ascend.
use Rattle.std.proofs.Common.{◌≡◌, ℕ, zero, suc, ◌+◌, ◌^◌, ◌<◌, ◌≤◌, List, [], ◌∷◌, length, take, drop, refl, sym, ap, ◌∙◌, subst, arith, length-drop, length-take}
use Rattle.std.specs.Prelude.{map}
use Rattle.std.proofs.Math.Nat.{mod-eq_of_lt}
use Rattle.x86_values.specs.declared.Bits.{Bits}
use Rattle.x86_values.specs.Wrapping.{width, modulo_width}
use Rattle.row_relation.specs.Spells.{Spells}
use Rattle.opcode_rows.specs.Table.{table}
use Rattle.code_items.specs.declared.any_items.AnyItem.{AnyItem}
use Rattle.code_items.specs.declared.any_items.AnyItem.TheVariants.{Listed, Unlisted}
use Rattle.code_items.specs.AnyItems.{item_ip, item_len, any_at, AnyFirst, AnyUpTo, wrapped_any, IsAnySound, AreAnySound, AnyAscend}
use Rattle.code_items.proofs.AnySoFar.{first-bytes, first-ip}

-- ---- addresses that do not wrap

inside-same : (bits : Bits) (x : AnyItem) → item_ip x < 2 ^ width bits → wrapped_any bits x ≡ x
inside-same bits (Listed p) small = ap (λ (n : ℕ). Listed (record p { ip = n })) (mod-eq_of_lt small)
inside-same bits (Unlisted u) small = ap (λ (n : ℕ). Unlisted (record u { ip = n })) (mod-eq_of_lt small)

-- code that ends inside the address space has the addresses that were kept
pub wrapped-same : (bits : Bits) (ip : ℕ) (bytes : List ℕ) (items : List AnyItem) (ip' : ℕ) (rest : List ℕ) → AnyUpTo bits ip bytes items ip' rest →
    ip + length bytes ≤ 2 ^ width bits → map (wrapped_any bits) items ≡ items
wrapped-same bits ip bytes [] ip' rest h inside = refl
wrapped-same bits ip bytes (x ∷ xs) ip' rest h inside =
    let size = first-bytes bits ip bytes x h.0 in
    let is = first-ip bits ip bytes x h.0 in
    let more = wrapped-same bits (ip + item_len x) (drop (item_len x) bytes) xs ip' rest h.1
    (omega (arith, inside, size.within, length-drop (item_len x) bytes)) in
    ap (λ (y : AnyItem). y ∷ map (wrapped_any bits) xs) (inside-same bits x (omega (arith, is, size.some, size.within, inside)))
    ∙ ap (λ (ys : List AnyItem). x ∷ ys) more

-- ---- addresses that ascend

from-base : (bits : Bits) (ip : ℕ) (bytes : List ℕ) (items : List AnyItem) (ip' : ℕ) (rest : List ℕ) → AnyUpTo bits ip bytes items ip' rest →
    (j : ℕ) → j < length items → ip ≤ item_ip (any_at items j)
from-base bits ip bytes [] ip' rest h j lt = absurd (omega arith)
from-base bits ip bytes (x ∷ xs) ip' rest h zero lt = omega (arith, first-ip bits ip bytes x h.0)
from-base bits ip bytes (x ∷ xs) ip' rest h (suc j) lt =
    omega (arith, from-base bits (ip + item_len x) (drop (item_len x) bytes) xs ip' rest h.1 j (omega arith))

ascending : (bits : Bits) (ip : ℕ) (bytes : List ℕ) (items : List AnyItem) (ip' : ℕ) (rest : List ℕ) → AnyUpTo bits ip bytes items ip' rest →
    (i j : ℕ) → i < j → j < length items → item_ip (any_at items i) < item_ip (any_at items j)
ascending bits ip bytes [] ip' rest h i j less lt = absurd (omega arith)
ascending bits ip bytes (x ∷ xs) ip' rest h i zero less lt = absurd (omega arith)
ascending bits ip bytes (x ∷ xs) ip' rest h zero (suc j) less lt =
    let size = first-bytes bits ip bytes x h.0 in
    omega (
      arith,
      first-ip bits ip bytes x h.0,
      size.some,
      from-base bits (ip + item_len x) (drop (item_len x) bytes) xs ip' rest h.1 j (omega arith),
    )
ascending bits ip bytes (x ∷ xs) ip' rest h (suc i) (suc j) less lt =
    ascending bits (ip + item_len x) (drop (item_len x) bytes) xs ip' rest h.1 i j (omega arith) (omega arith)

-- the addresses of the instructions of some code ascend
pub ascend : (bits : Bits) (ip : ℕ) (bytes : List ℕ) (items : List AnyItem) (ip' : ℕ) (rest : List ℕ) → AnyUpTo bits ip bytes items ip' rest → AnyAscend items
ascend bits ip bytes items ip' rest h = record { each = ascending bits ip bytes items ip' rest h }

-- ---- each is sound

first-sound : (bits : Bits) (ip : ℕ) (bytes : List ℕ) (x : AnyItem) → AnyFirst bits ip bytes x → IsAnySound bits x
first-sound bits ip bytes (Listed p) h =
    let S : ℕ → Type 0 = λ n. Spells table bits n (take p.len bytes) p.instr in
    record {
      some = h.some;
      few = h.few;
      bytes = take p.len bytes;
      spelled = subst S (ap (modulo_width bits) (sym h.address)) h.reads.1;
    }
first-sound bits ip bytes (Unlisted u) h =
    let within = h.within in
    (h.some, h.few, ap length h.own ∙ omega (arith, length-take u.shape.len bytes), h.inside)

each-sound : (bits : Bits) (ip : ℕ) (bytes : List ℕ) (items : List AnyItem) (ip' : ℕ) (rest : List ℕ) → AnyUpTo bits ip bytes items ip' rest →
    (k : ℕ) → k < length items → IsAnySound bits (any_at items k)
each-sound bits ip bytes [] ip' rest h k lt = absurd (omega arith)
each-sound bits ip bytes (x ∷ xs) ip' rest h zero lt = first-sound bits ip bytes x h.0
each-sound bits ip bytes (x ∷ xs) ip' rest h (suc k) lt =
    each-sound bits (ip + item_len x) (drop (item_len x) bytes) xs ip' rest h.1 k (omega arith)

-- each instruction of some code is sound
pub sound : (bits : Bits) (ip : ℕ) (bytes : List ℕ) (items : List AnyItem) (ip' : ℕ) (rest : List ℕ) → AnyUpTo bits ip bytes items ip' rest → AreAnySound bits items
sound bits ip bytes items ip' rest h = record { each = each-sound bits ip bytes items ip' rest h }
