-- A port that fails at listed calls counts a fault at each of them, and never takes one back.
use Rattle.std.proofs.Common.{◌≡◌, ℕ, ◌+◌, ◌<◌, ◌≤◌, List, [], ◌∷◌, Bool, true, false, ◌&&◌, ◌||◌, ◌==◌, nat_lt, nat_le, if◌then◌else◌, Result, arith, min, inl, inr, refl}
use Rattle.std.specs.List.{list_any}
use Rattle.std.proofs.lemmas.Bool.Decides.{nat_tests}
use Rattle.byte_ports.specs.Ports.{last_count, next_count, Rose, HasCause}
use Rattle.byte_ports.specs.FailAt.{fails_next, listed_so_far, faults_with}

-- one number counts for later calls too
one_le : (call made : ℕ) →
    (if nat_lt 0 call && nat_le call made then 1 else 0) ≤ (if nat_lt 0 call && nat_le call (made + 1) then 1 else 0)
one_le call made = grind (arith, nat_tests)

-- the number of the next call counts from then on
one_more : (call made : ℕ) → (call == made + 1) ≡ true →
    (if nat_lt 0 call && nat_le call made then 1 else 0) < (if nat_lt 0 call && nat_le call (made + 1) then 1 else 0)
one_more call made h = grind (arith, nat_tests)

-- the number of listed calls so far never falls
pub listed-le : (calls : List ℕ) (made : ℕ) → listed_so_far calls made ≤ listed_so_far calls (made + 1)
unfolding listed_so_far
listed-le [] made = omega arith
listed-le (call ∷ calls) made = omega (arith, one_le call made, listed-le calls made)

-- the sum grows where the first number counts anew, or the rest grows
sum_grows : (call made : ℕ) (b : Bool) (now later : ℕ) (others : Bool) → (call == made + 1) ≡ b → (b || others) ≡ true →
    now ≤ later → (others ≡ true → now < later) →
    (if nat_lt 0 call && nat_le call made then 1 else 0) + now
    < (if nat_lt 0 call && nat_le call (made + 1) then 1 else 0) + later
sum_grows call made true now later others e _ le _ = omega (arith, one_more call made e)
sum_grows call made false now later others e more _ lt = omega (arith, one_le call made, lt more)

listed-lt : (calls : List ℕ) (made : ℕ) → list_any (λ call. call == made + 1) calls ≡ true →
    listed_so_far calls made < listed_so_far calls (made + 1)
unfolding listed_so_far
listed-lt [] made h = absurd (cc)
listed-lt (call ∷ calls) made h =
    sum_grows call made (call == made + 1) _ _ (list_any (λ call. call == made + 1) calls) refl h
    (listed-le calls made) (listed-lt calls made)

-- the next call is counted: it is one more, or the count is full
fails_next-lt : (calls : List ℕ) (made : ℕ) → fails_next calls made ≡ true →
    (made < last_count) × (list_any (λ call. call == made + 1) calls ≡ true)
unfolding fails_next
fails_next-lt calls made h = grind (arith, nat_tests)

counted-next : (made : ℕ) → made < last_count → next_count made ≡ made + 1
counted-next made h = omega arith

counted-ge : (calls : List ℕ) (made : ℕ) → made ≤ last_count →
    listed_so_far calls made ≤ listed_so_far calls (next_count made)
counted-ge calls made h = at (nat_lt made last_count) refl
  where
    at : (b : Bool) → nat_lt made last_count ≡ b → listed_so_far calls made ≤ listed_so_far calls (next_count made)
    at true e = let lt : made < last_count = grind (arith, nat_tests) in rw (counted-next made lt) (listed-le calls made)
    at false e =
        let same : next_count made ≡ made = grind (arith, nat_tests) in
        rw same (omega arith)

-- a count that rose has risen as far as a counter goes
rose : (m n : ℕ) → m < n → Rose (min m last_count) (min n last_count)
rose m n h = at (nat_lt n last_count) refl
  where
    at : (b : Bool) → nat_lt n last_count ≡ b → Rose (min m last_count) (min n last_count)
    at true e = inl (let lt : n < last_count = grind (arith, nat_tests) in omega arith)
    at false e = inr (let le : last_count ≤ n = grind (arith, nat_tests) in omega arith)

carried : (before now own own' : ℕ) → Rose before now → own ≤ own' →
    Rose (min (before + own) last_count) (min (now + own') last_count)
carried before now own own' r le = elim r [
  | inl lt ↦ rose (before + own) (now + own') (omega arith)
  | inr e ↦ inr (omega arith)
]

-- at a listed call the count of faults rises
pub listed_call_counts : {T E : Type 0} (inner : ℕ) (calls : List ℕ) (made made' : ℕ) (result : Result T E) →
    made' ≡ next_count made → fails_next calls made ≡ true →
    HasCause (faults_with inner calls made) (faults_with inner calls made') result
unfolding faults_with
listed_call_counts inner calls made made' result e h =
    let next = fails_next-lt calls made h in
    let lt = next.0 in
    let more = listed-lt calls made next.1 in
    rw (e, counted-next made lt) record { later = omega arith; failed = λ _. rose (inner + listed_so_far calls made) (inner + listed_so_far calls (made + 1)) (omega arith) }

-- at any other call the inner port's faults are counted
pub inner_call_counts : {T E : Type 0} (before now : ℕ) (calls : List ℕ) (made made' : ℕ) (result : Result T E) →
    made' ≡ next_count made → made ≤ made' → HasCause before now result →
    HasCause (faults_with before calls made) (faults_with now calls made') result
unfolding faults_with
inner_call_counts before now calls made made' result e rises cause =
    let le : made ≤ last_count = omega (arith, e) in
    let more = counted-ge calls made le in
    let later = cause.later in
    rw e record {
      later = omega arith;
      failed = λ err. carried before now (listed_so_far calls made) (listed_so_far calls (next_count made)) (cause.failed err) more;
    }
