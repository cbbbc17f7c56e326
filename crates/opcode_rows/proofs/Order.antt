-- The indices of each part's rows ascend by one, and the opcode bytes of the rows ascend.
use Rattle.std.proofs.Common.{◌≡◌, ℕ, zero, suc, Bool, true, false, ◌&&◌, List, [], ◌∷◌, length, take, drop, slice_get, ◌<◌, ◌≤◌, ◌+◌, ◌-◌, refl, ap, sym, ◌∙◌, arith, inl, inr, eqb-true}
use Rattle.std.specs.Prelude.{Some, ◌==◌, nat_le}
use Rattle.std.proofs.lemmas.Option.{slice_get_within}
use Rattle.std.proofs.lemmas.Bool.{cases_lt, leb-true, and_parts}
use Rattle.instruction_parts.specs.declared.row_types.Row.{Row}
use Rattle.instruction_parts.proofs.RowFields.Apart.{bool_cases}
use Rattle.opcode_rows.specs.Parts.{integer_rows, integer_flat, x87_rows, x87_flat, sse_rows, sse_flat, vex_rows, vex_flat}
use Rattle.opcode_rows.specs.declared.spot.Spot.{Spot}
use Rattle.opcode_rows.specs.declared.spot.Part.{Part}
use Rattle.opcode_rows.specs.declared.spot.Part.TheVariants as part
use Rattle.opcode_rows.specs.declared.generated_spots.TheConstants.{VERSION1_ROWS}
use Rattle.opcode_rows.specs.Table.{part_table, spots, table}
use Rattle.opcode_rows.specs.Order.{opcode_number, LiesAt, HasOneCode}
use Rattle.opcode_rows.specs.Versions.{AreOfOneVersion}
use Rattle.opcode_rows.proofs.JoinFacts.{row-there}
use Rattle.opcode_rows.proofs.Woven.{woven, woven_table, by_walk}
use Rattle.opcode_rows.proofs.Versions.{get-taken}

-- ---- the test of a part

is_part : Part → Part → Bool
is_part part.Integer part.Integer = true
is_part part.X87 part.X87 = true
is_part part.Sse part.Sse = true
is_part part.Vex part.Vex = true
is_part _ _ = false

is_part-self : (p : Part) → is_part p p ≡ true
unfolding is_part
is_part-self part.Integer = refl
is_part-self part.X87 = refl
is_part-self part.Sse = refl
is_part-self part.Vex = refl

is_part-same : (p q : Part) → is_part p q ≡ true → p ≡ q
unfolding is_part
is_part-same part.Integer part.Integer h = refl
is_part-same part.X87 part.X87 h = refl
is_part-same part.Sse part.Sse h = refl
is_part-same part.Vex part.Vex h = refl
is_part-same _ _ h = cc

-- an index of the part is the next one
is_next : Bool → ℕ → ℕ → Bool
is_next true at n = at == n
is_next false at n = true

-- the next index behind it
behind : Bool → ℕ → ℕ
behind true n = suc n
behind false n = n

-- the indices of the part are n and those behind it, one after the other, up to end
counts_up : Part → ℕ → ℕ → List Spot → Bool
counts_up p n end [] = n == end
counts_up p n end (s ∷ ss) = is_next (is_part p s.part) s.at n && counts_up p (behind (is_part p s.part) n) end ss

each-counts_up : (p : Part) → counts_up p 0 (length (part_table p)) spots ≡ true
unfolding is_part is_next behind counts_up spots integer_rows integer_flat x87_rows x87_flat sse_rows sse_flat vex_rows vex_flat
each-counts_up part.Integer = refl
each-counts_up part.X87 = refl
each-counts_up part.Sse = refl
each-counts_up part.Vex = refl

-- ---- what follows from it

abbrev spot : Part → ℕ → Spot
spot p at = record { part = p; at = at }

behind-le : (b : Bool) (n : ℕ) → n ≤ behind b n
unfolding behind
behind-le true n = omega arith
behind-le false n = omega arith

next-at : (b : Bool) (at n : ℕ) → b ≡ true → is_next b at n ≡ true → at ≡ n
unfolding is_next
next-at true at n e h = eqb-true at n h
next-at false at n e h = cc

behind-next : (b : Bool) (n : ℕ) → b ≡ true → behind b n ≡ suc n
unfolding behind
behind-next true n e = refl
behind-next false n e = cc

behind-other : (b : Bool) (n : ℕ) → b ≡ false → behind b n ≡ n
unfolding behind
behind-other true n e = cc
behind-other false n e = refl

-- the front index of the part
front-at : (p : Part) (n end at : ℕ) (s : Spot) (ss : List Spot) → counts_up p n end (s ∷ ss) ≡ true → Some s ≡ Some (spot p at) → at ≡ n
unfolding counts_up
front-at p n end at s ss h e =
    let same : s ≡ spot p at = cc in
    let b : Bool = is_part p s.part in
    let is : is_part p s.part ≡ true = ap (λ (x : Spot). is_part p x.part) same ∙ is_part-self p in
    let at_n : s.at ≡ n = next-at b s.at n is (and_parts (is_next b s.at n) (counts_up p (behind b n) end ss) h).0 in
    sym (ap (λ (x : Spot). x.at) same) ∙ at_n

rest-counts_up : (p : Part) (n end : ℕ) (s : Spot) (ss : List Spot) → counts_up p n end (s ∷ ss) ≡ true → counts_up p (behind (is_part p s.part) n) end ss ≡ true
unfolding counts_up
rest-counts_up p n end s ss h =
    let b : Bool = is_part p s.part in (and_parts (is_next b s.at n) (counts_up p (behind b n) end ss) h).1

-- no index of the part lies below n
counts_up-from : (p : Part) (n end : ℕ) (ss : List Spot) → counts_up p n end ss ≡ true → (k at : ℕ) → slice_get ss k ≡ Some (spot p at) → n ≤ at
counts_up-from p n end [] h k at e = cc
counts_up-from p n end (s ∷ ss) h zero at e = let here = front-at p n end at s ss h e in omega arith
counts_up-from p n end (s ∷ ss) h (suc k) at e =
    let rest = counts_up-from p (behind (is_part p s.part) n) end ss (rest-counts_up p n end s ss h) k at e in
    let le = behind-le (is_part p s.part) n in
    omega arith

-- indices of the part ascend
counts_up-ordered : (p : Part) (n end : ℕ) (ss : List Spot) → counts_up p n end ss ≡ true → (j k a b : ℕ) → j < k →
    slice_get ss j ≡ Some (spot p a) → slice_get ss k ≡ Some (spot p b) → a < b
counts_up-ordered p n end [] h j k a b lt at at' = cc
counts_up-ordered p n end (s ∷ ss) h j zero a b lt at at' = absurd (omega arith)
counts_up-ordered p n end (s ∷ ss) h zero (suc k) a b lt at at' =
    let here = front-at p n end a s ss h at in
    let same : s ≡ spot p a = cc in
    let is : is_part p s.part ≡ true = ap (λ (x : Spot). is_part p x.part) same ∙ is_part-self p in
    let next = behind-next (is_part p s.part) n is in
    let later = counts_up-from p (behind (is_part p s.part) n) end ss (rest-counts_up p n end s ss h) k b at' in
    omega arith
counts_up-ordered p n end (s ∷ ss) h (suc j) (suc k) a b lt at at' =
    counts_up-ordered p (behind (is_part p s.part) n) end ss (rest-counts_up p n end s ss h) j k a b (omega arith) at at'

front-is : (p : Part) (n end : ℕ) (s : Spot) (ss : List Spot) → counts_up p n end (s ∷ ss) ≡ true → is_part p s.part ≡ true → s ≡ spot p n
unfolding counts_up
front-is p n end s ss h is =
    let b : Bool = is_part p s.part in
    let at_n : s.at ≡ n = next-at b s.at n is (and_parts (is_next b s.at n) (counts_up p (behind b n) end ss) h).0 in
    ap (λ (q : Part). spot q s.at) (sym (is_part-same p s.part is)) ∙ ap (spot p) at_n

counts_up-end : (p : Part) (n end : ℕ) → counts_up p n end [] ≡ true → n ≡ end
unfolding counts_up
counts_up-end p n end h = eqb-true n end h

-- each index from n on, up to end, is there
counts_up-found : (p : Part) (n end : ℕ) (ss : List Spot) → counts_up p n end ss ≡ true → (at : ℕ) → n ≤ at → at < end → (k : ℕ) × (slice_get ss k ≡ Some (spot p at))
counts_up-found p n end [] h at low high = let e = counts_up-end p n end h in absurd (omega arith)
counts_up-found p n end (s ∷ ss) h at low high =
    let later : behind (is_part p s.part) n ≤ at → (k : ℕ) × (slice_get (s ∷ ss) k ≡ Some (spot p at)) =
    λ le. (let t = counts_up-found p (behind (is_part p s.part) n) end ss (rest-counts_up p n end s ss h) at le high in (suc t.0, t.1))
    in
    elim (bool_cases (is_part p s.part)) [
      | inl is ↦ (
          let next = behind-next (is_part p s.part) n is in
          elim (cases_lt n at) [
            | inl lt ↦ later (omega arith)
            | inr le ↦
                let here : n ≡ at = omega arith in (0, ap Some (front-is p n end s ss h is ∙ ap (spot p) here))
          ])
      | inr other ↦ (let same = behind-other (is_part p s.part) n other in later (omega arith))
    ]

-- the rows of a part have their codes in the order of that part
pub spots-ordered : (j k : ℕ) (p : Part) (a b : ℕ) → j < k → LiesAt p a j → LiesAt p b k → a < b
spots-ordered j k p a b lt at at' = counts_up-ordered p 0 (length (part_table p)) spots (each-counts_up p) j k a b lt at at'

same_row : (q r : Row) → Some q ≡ Some r → q ≡ r
same_row q r e = cc

one_place : (p : Part) (at j k : ℕ) → LiesAt p at j → LiesAt p at k → j ≡ k
one_place p at j k h h' =
    elim (cases_lt j k) [
      | inl lt ↦ (let bad = spots-ordered j k p at at lt h h' in absurd (omega arith))
      | inr le ↦ (
          elim (cases_lt k j) [
            | inl lt ↦ (let bad = spots-ordered k j p at at lt h' h in absurd (omega arith))
            | inr ge ↦ omega arith
          ])
    ]

-- **each row of each part has one code**
pub one_code : (p : Part) (at : ℕ) (row : Row) → slice_get (part_table p) at ≡ Some row → HasOneCode p at row
one_code p at row there =
    let lt : at < length (part_table p) = slice_get_within (part_table p) at row there in
    let found = counts_up-found p 0 (length (part_table p)) spots (each-counts_up p) at (omega arith) lt in
    let t = row-there found.0 (spot p at) found.1 in
    let same : t.0 ≡ row = same_row t.0 row (sym t.1 ∙ there) in
    record {
      code = found.0;
      lies = found.1;
      there = t.2 ∙ ap Some same;
      alone = λ other h. one_place p at other found.0 h found.1;
    }

-- ---- opcode bytes

-- each opcode byte is that of the row before, or a later one
ascends : ℕ → List Row → Bool
ascends low [] = true
ascends low (r ∷ rs) = nat_le low (opcode_number r) && ascends (opcode_number r) rs

walk1-ascends : ascends 0 (take VERSION1_ROWS woven_table) ≡ true
unfolding ascends woven_table woven spots integer_rows integer_flat x87_rows x87_flat sse_rows sse_flat vex_rows vex_flat
walk1-ascends = refl

version1-ascends : ascends 0 (take VERSION1_ROWS table) ≡ true
version1-ascends = by_walk (λ rows. ascends 0 (take VERSION1_ROWS rows)) walk1-ascends

walk2-ascends : ascends 0 (drop VERSION1_ROWS woven_table) ≡ true
unfolding ascends woven_table woven spots integer_rows integer_flat x87_rows x87_flat sse_rows sse_flat vex_rows vex_flat
walk2-ascends = refl

version2-ascends : ascends 0 (drop VERSION1_ROWS table) ≡ true
version2-ascends = by_walk (λ rows. ascends 0 (drop VERSION1_ROWS rows)) walk2-ascends

ascends-from : (low : ℕ) (rows : List Row) → ascends low rows ≡ true → (k : ℕ) (r : Row) → slice_get rows k ≡ Some r → low ≤ opcode_number r
unfolding ascends
ascends-from low [] h k r at = cc
ascends-from low (x ∷ rs) h zero r at =
    let same : x ≡ r = cc in
    let here = leb-true low (opcode_number x) (and_parts (nat_le low (opcode_number x)) (ascends (opcode_number x) rs) h).0 in
    let number : opcode_number x ≡ opcode_number r = ap (λ (y : Row). opcode_number y) same in
    rw (← number) here
ascends-from low (x ∷ rs) h (suc k) r at =
    let here = leb-true low (opcode_number x) (and_parts (nat_le low (opcode_number x)) (ascends (opcode_number x) rs) h).0 in
    let rest = ascends-from (opcode_number x) rs (and_parts (nat_le low (opcode_number x)) (ascends (opcode_number x) rs) h).1 k r at in
    omega arith

ascends-ordered : (low : ℕ) (rows : List Row) → ascends low rows ≡ true → (j k : ℕ) (q r : Row) → j < k →
    slice_get rows j ≡ Some q → slice_get rows k ≡ Some r → opcode_number q ≤ opcode_number r
unfolding ascends
ascends-ordered low [] h j k q r lt at at' = cc
ascends-ordered low (x ∷ rs) h j zero q r lt at at' = absurd (omega arith)
ascends-ordered low (x ∷ rs) h zero (suc k) q r lt at at' =
    let same : x ≡ q = cc in
    let rest = ascends-from (opcode_number x) rs (and_parts (nat_le low (opcode_number x)) (ascends (opcode_number x) rs) h).1 k r at' in
    let number : opcode_number x ≡ opcode_number q = ap (λ (y : Row). opcode_number y) same in
    rw (← number) rest
ascends-ordered low (x ∷ rs) h (suc j) (suc k) q r lt at at' =
    ascends-ordered (opcode_number x) rs (and_parts (nat_le low (opcode_number x)) (ascends (opcode_number x) rs) h).1 j k q r (omega arith) at at'

get-dropped : (n k : ℕ) (rows : List Row) (code : ℕ) (row : Row) → code ≡ n + k → slice_get rows code ≡ Some row → slice_get (drop n rows) k ≡ Some row
get-dropped zero k rows code row e at = let is : k ≡ code = omega arith in ap (slice_get rows) is ∙ at
get-dropped (suc n) k [] code row e at = cc
get-dropped (suc n) k (r ∷ rs) zero row e at = absurd (omega arith)
get-dropped (suc n) k (r ∷ rs) (suc code) row e at = get-dropped n k rs code row (omega arith) at

-- **codes of one version ascend by opcode byte**
pub opcodes-ordered : (j k : ℕ) (q r : Row) → j < k → AreOfOneVersion j k → slice_get table j ≡ Some q → slice_get table k ≡ Some r
    → opcode_number q ≤ opcode_number r
opcodes-ordered j k q r lt (inl (low, low')) at at' =
    ascends-ordered 0 (take VERSION1_ROWS table) version1-ascends j k q r lt (get-taken VERSION1_ROWS table j q at low)
    (get-taken VERSION1_ROWS table k r at' low')
opcodes-ordered j k q r lt (inr (high, high')) at at' =
    ascends-ordered 0 (drop VERSION1_ROWS table) version2-ascends (j - VERSION1_ROWS) (k - VERSION1_ROWS) q r (omega (arith, lt, high))
    (get-dropped VERSION1_ROWS (j - VERSION1_ROWS) table j q (omega (arith, high)) at)
    (get-dropped VERSION1_ROWS (k - VERSION1_ROWS) table k r (omega (arith, high')) at')
