-- Live blocks stay by address, none over another, after each command.
use Rattle.std.proofs.Common.{◌≡◌, ℕ, ◌+◌, ◌-◌, ◌≤◌, ◌<◌, List, [], ◌∷◌, length, map, replicate, filter, find, not, arith, sym, ap, subst, refl, Option, Some, None, Result, Ok, Err, Bool, true, false, cond, nat_eq, nat_le, nat_lt, if◌then◌else◌, inl, inr, length-append, IsTrue}
use Rattle.std.proofs.lemmas.Bool.{cases_Bool, eqb-true, eqb-false, leb-true, ne_eqb, lt-ltb, le-ltb}
use Rattle.std.proofs.lemmas.List.{length-replicate}
use Rattle.code_region.specs.declared.gaps.Span.{Span}
use Rattle.code_region.specs.declared.commands.Command.{Command}
use Rattle.code_region.specs.declared.commands.Command.TheVariants.{Place, Release, Fill}
use Rattle.code_region.specs.declared.refusals.PlaceError.{PlaceError}
use Rattle.code_region.specs.Gaps.{gaps_between, first_gap, longest}
use Rattle.code_region.specs.State.{LiveBlock, RegionState, int3, span_of, len_in_units, gaps_of, live_block}
use Rattle.code_region.specs.Opening.{empty_region}
use Rattle.code_region.specs.Placing.{place_in_gap, place_answer, with_block, unfilled_block, placed_as, after_place}
use Rattle.code_region.specs.Releasing.{after_release}
use Rattle.code_region.specs.Filling.{with_content, block_holds, can_fill, after_fill}
use Rattle.code_region.specs.Running.{filled_if, after, run}
use Rattle.code_region.specs.Keeping.{AreLaid, IsSound}
use Rattle.code_region.proofs.Placed.{rounded-some}

-- such blocks leave no negative room
pub AreLaid-le : (from limit : ℕ) (live : List LiveBlock) → AreLaid from limit live → from ≤ limit
AreLaid-le from limit [] laid = laid
AreLaid-le from limit (block ∷ live) laid = let below = AreLaid-le (block.place + block.len) limit live laid.3 in let p = laid.0 in omega arith

-- a lower first bound
pub AreLaid-lower : (from lower limit : ℕ) (live : List LiveBlock) → lower ≤ from → AreLaid from limit live → AreLaid lower limit live
AreLaid-lower from lower limit [] h laid = omega arith
AreLaid-lower from lower limit (block ∷ live) h laid = (omega arith, laid.1, laid.2, laid.3)

-- no block behind an address starts there
pub filter-behind : (place from limit : ℕ) (live : List LiveBlock) → place < from → AreLaid from limit live →
    filter (λ block. not (nat_eq block.place place)) live ≡ live
filter-behind place from limit [] h laid = refl
filter-behind place from limit (block ∷ live) h laid =
    let p = laid.0 in
    let other : block.place ≡ place → ⊥ = λ same. absurd (omega arith) in
    rw (ne_eqb block.place place other) (ap (λ bs. block ∷ bs) (filter-behind place (block.place + block.len) limit live (omega arith) laid.3))

-- a fill before the blocks changes none of them
pub fill-behind : (place from limit : ℕ) (bytes : List ℕ) (live : List LiveBlock) → place < from → AreLaid from limit live →
    map (λ block. if nat_eq block.place place then with_content bytes block else block) live ≡ live
fill-behind place from limit bytes [] h laid = refl
fill-behind place from limit bytes (block ∷ live) h laid =
    let p = laid.0 in
    let other : block.place ≡ place → ⊥ = λ same. absurd (omega arith) in
    rw (ne_eqb block.place place other) (ap (λ bs. block ∷ bs) (fill-behind place (block.place + block.len) limit bytes live (omega arith) laid.3))

-- a block put at the front of the first gap that is long enough
pub record Fits (from limit len : ℕ) (live : List LiveBlock) (gap : Span) : Type 0 where
  pub above : from ≤ gap.start
  pub laid : AreLaid from limit (with_block (unfilled_block gap.start len) live)
  pub fresh : filter (λ block. not (nat_eq block.place gap.start)) live ≡ live

-- a gap with room for a length lies between the blocks around it
pub gap-fits : (from limit len : ℕ) (live : List LiveBlock) (gap : Span) → 0 < len → AreLaid from limit live →
    first_gap len (gaps_between from limit (map span_of live)) ≡ Some gap → Fits from limit len live gap
gap-fits from limit len [] gap some laid e =
    elim (cases_Bool (nat_le len (limit - from))) [
      | inl enough ↦ (
          let first : Span = record { start = from; len = limit - from } in
          let f : cond (nat_le len (limit - from)) (Some first) None ≡ Some gap = e in
          let g : Some first ≡ Some gap = rw enough at f in
          let h : first ≡ gap = cc in
          let P : Span → Type 0 = λ x. Fits from limit len [] x in
          let l = leb-true len (limit - from) enough in
          subst P h (record {
            above = omega arith;
            laid = (omega arith, some, length-replicate len int3, omega arith);
            fresh = refl;
          }))
      | inr short ↦ (
          let first : Span = record { start = from; len = limit - from } in
          let f : cond (nat_le len (limit - from)) (Some first) None ≡ Some gap = e in
          let g : None ≡ Some gap = rw short at f in
          absurd cc)
    ]
gap-fits from limit len (block ∷ live) gap some laid e =
    elim (cases_Bool (nat_le len (block.place - from))) [
      | inl enough ↦ (
          let first : Span = record { start = from; len = block.place - from } in
          let f : cond (nat_le len (block.place - from)) (Some first) (first_gap len (gaps_between (block.place + block.len) limit (map span_of live))) ≡ Some gap = e in
          let g : Some first ≡ Some gap = rw enough at f in
          let h : first ≡ gap = cc in
          let P : Span → Type 0 = λ x. Fits from limit len (block ∷ live) x in
          let l = leb-true len (block.place - from) enough in
          let t : nat_lt from block.place ≡ true = lt-ltb from block.place (omega arith) in
          let L : Bool → Type 0 = λ b. AreLaid from limit (if b then (unfilled_block from len ∷ block ∷ live) else (block ∷ with_block (unfilled_block from len) live)) in
          subst P h (record {
            above = omega arith;
            laid = subst L (sym t) (omega arith, some, length-replicate len int3, (omega arith, laid.1, laid.2, laid.3));
            fresh = filter-behind from block.place limit (block ∷ live) (omega arith) (omega arith, laid.1, laid.2, laid.3);
          }))
      | inr short ↦ (
          let first : Span = record { start = from; len = block.place - from } in
          let f : cond (nat_le len (block.place - from)) (Some first) (first_gap len (gaps_between (block.place + block.len) limit (map span_of live))) ≡ Some gap = e in
          let g : first_gap len (gaps_between (block.place + block.len) limit (map span_of live)) ≡ Some gap = rw short at f in
          let rest = gap-fits (block.place + block.len) limit len live gap some laid.3 g in
          let above = rest.above in
          let p = laid.0 in
          let q = laid.1 in
          let t : nat_lt gap.start block.place ≡ false = le-ltb gap.start block.place (omega arith) in
          let L : Bool → Type 0 = λ b. AreLaid from limit (if b then (unfilled_block gap.start len ∷ block ∷ live) else (block ∷ with_block (unfilled_block gap.start len) live)) in
          let other : block.place ≡ gap.start → ⊥ = λ same. absurd (omega arith) in
          record {
            above = omega arith;
            laid = subst L (sym t) (laid.0, laid.1, laid.2, rest.laid);
            fresh = rw (ne_eqb block.place gap.start other) (ap (λ bs. block ∷ bs) rest.fresh);
          })
    ]

-- what a request that is answered with a place found
pub record Finds (state : RegionState) (len place : ℕ) (gap : Span) : Type 0 where
  pub some : 0 < len_in_units len
  pub first : first_gap (len_in_units len) (gaps_of state) ≡ Some gap
  pub front : gap.start ≡ place

front-finds : (found : Option Span) (len largest place : ℕ) → place_in_gap found len largest ≡ Ok place → (gap : Span) × (found ≡ Some gap) × (gap.start ≡ place)
front-finds None len largest place e = absurd cc
front-finds (Some gap) len largest place e = (gap, refl, cc)

-- a place that is handed out is the start of the first gap with room for the length
pub answer-finds : (state : RegionState) (len place : ℕ) → place_answer state len ≡ Ok place → (gap : Span) × Finds state len place gap
unfolding place_answer
answer-finds state len place e =
    elim (cases_Bool (nat_eq len 0)) [
      | inl zero_len ↦ (let f = rw zero_len at e in absurd cc)
      | inr some_len ↦ elim (cases_Bool (nat_eq (length state.live) state.max_blocks)) [
        | inl all_live ↦ (let f = rw (some_len, all_live) at e in absurd cc)
        | inr room ↦ (
            let f = rw (some_len, room) at e in
            let found = front-finds (first_gap (len_in_units len) (gaps_of state)) (len_in_units len) (longest (gaps_of state)) place f in (
              found.0,
              record {
                some = rounded-some len (len_in_units len) refl (eqb-false len 0 some_len);
                first = found.1;
                front = found.2;
              },
            ))
      ]
    ]

-- a place that is handed out, in a sound region
pub answer-fits : (state : RegionState) (len place : ℕ) → IsSound state → place_answer state len ≡ Ok place →
    (gap : Span) × Fits state.base (state.base + state.size) (len_in_units len) state.live gap × (gap.start ≡ place)
unfolding gaps_of
answer-fits state len place sound e =
    let found = answer-finds state len place e in
    let f = found.1 in
    (found.0, gap-fits state.base (state.base + state.size) (len_in_units len) state.live found.0 f.some sound f.first, f.front)

-- each command leaves a sound region
pub placed-sound : (state : RegionState) (len : ℕ) (answer : Result ℕ PlaceError) → IsSound state → place_answer state len ≡ answer →
    IsSound (placed_as answer state len)
placed-sound state len (Ok place) sound e =
    let fits = answer-fits state len place sound e in
    let P : ℕ → Type 0 = λ p. AreLaid state.base (state.base + state.size) (with_block (unfilled_block p (len_in_units len)) state.live) in
    subst P fits.2 fits.1.laid
placed-sound state len (Err refusal) sound e = sound

-- blocks that are laid out stay so if some are dropped
pub filter-laid : (p : LiveBlock → Bool) (from limit : ℕ) (live : List LiveBlock) → AreLaid from limit live → AreLaid from limit (filter p live)
filter-laid p from limit [] laid = laid
filter-laid p from limit (block ∷ live) laid =
    let rest = filter-laid p (block.place + block.len) limit live laid.3 in
    let first = laid.0 in
    elim (p block) as (λ t. AreLaid from limit (cond t (block ∷ filter p live) (filter p live))) [
      | true ↦ (laid.0, laid.1, laid.2, rest)
      | false ↦ AreLaid-lower (block.place + block.len) from limit (filter p live) (omega arith) rest
    ]

-- and if one of them is filled
pub fill-laid : (place from limit : ℕ) (bytes : List ℕ) (live : List LiveBlock) → AreLaid from limit live →
    IsTrue (block_holds (find (λ block. nat_eq block.place place) live) (length bytes)) →
    AreLaid from limit (map (λ block. if nat_eq block.place place then with_content bytes block else block) live)
fill-laid place from limit bytes [] laid h = laid
fill-laid place from limit bytes (block ∷ live) laid h =
    elim (cases_Bool (nat_eq block.place place)) [
      | inl here ↦ (
          let fits : IsTrue (nat_le (length bytes) block.len) = rw here at h in
          let l = leb-true (length bytes) block.len fits in
          let n = length-append bytes (replicate (block.len - length bytes) int3) in
          let m = length-replicate (block.len - length bytes) int3 in
          let p = eqb-true block.place place here in
          let some = laid.1 in
          let same = fill-behind place (block.place + block.len) limit bytes live (omega arith) laid.3 in
          let P : List LiveBlock → Type 0 = λ bs. AreLaid (block.place + block.len) limit bs in
          let Q : LiveBlock → Type 0 = λ b. AreLaid from limit (b ∷ map (λ block. if nat_eq block.place place then with_content bytes block else block) live) in
          rw here (laid.0, laid.1, omega arith, subst P (sym same) laid.3))
      | inr other ↦ (
          let there : IsTrue (block_holds (find (λ block. nat_eq block.place place) live) (length bytes)) = rw other at h in
          rw other (laid.0, laid.1, laid.2, fill-laid place (block.place + block.len) limit bytes live laid.3 there))
    ]

filled_if-sound : (state : RegionState) (place byte count : ℕ) (b : Bool) → can_fill state place count ≡ b → IsSound state →
    IsSound (filled_if b state place byte count)
unfolding after_fill can_fill live_block
filled_if-sound state place byte count true e sound =
    let P : ℕ → Type 0 = λ n. IsTrue (block_holds (find (λ block. nat_eq block.place place) state.live) n) in
    fill-laid place state.base (state.base + state.size) (replicate count byte) state.live sound (subst P (sym (length-replicate count byte)) e)
filled_if-sound state place byte count false e sound = sound

-- a command keeps a region sound
pub after-sound : (state : RegionState) (command : Command) → IsSound state → IsSound (after state command)
unfolding after after_place after_release
after-sound state (Place len) sound = placed-sound state len (place_answer state len) sound refl
after-sound state (Release place) sound = filter-laid _ state.base (state.base + state.size) state.live sound
after-sound state (Fill place byte count) sound = filled_if-sound state place byte count (can_fill state place count) refl sound

-- so do all commands of a list
pub run-sound : (state : RegionState) (commands : List Command) → IsSound state → IsSound (run state commands)
run-sound state [] sound = sound
run-sound state (command ∷ commands) sound = run-sound (after state command) commands (after-sound state command sound)

-- a region that begins is sound
pub opened-sound : (base size max_blocks : ℕ) → IsSound (empty_region base size max_blocks)
opened-sound base size max_blocks = omega arith

-- ---- by the calls

-- placing keeps a region sound
pub place-sound : (state : RegionState) (len : ℕ) → IsSound state → IsSound (after_place state len)
unfolding after_place
place-sound state len sound = placed-sound state len (place_answer state len) sound refl

-- so does releasing
pub released-sound : (state : RegionState) (place : ℕ) → IsSound state → IsSound (after_release state place)
unfolding after_release
released-sound state place sound = filter-laid _ state.base (state.base + state.size) state.live sound

-- and so does a fill that fits
pub filled-sound : (state : RegionState) (place : ℕ) (bytes : List ℕ) → IsSound state → IsTrue (can_fill state place (length bytes)) → IsSound (after_fill state place bytes)
unfolding after_fill can_fill live_block
filled-sound state place bytes sound fits = fill-laid place state.base (state.base + state.size) bytes state.live sound fits

-- ---- a place that is handed out

shorter : (p : LiveBlock → Bool) (live : List LiveBlock) → length (filter p live) ≤ length live
shorter p [] = omega arith
shorter p (block ∷ live) =
    let rest = shorter p live in
    elim (p block) as (λ t. length (cond t (block ∷ filter p live) (filter p live)) ≤ length (block ∷ live)) [
      | true ↦ omega (arith, rest)
      | false ↦ omega (arith, rest)
    ]

fresh-find : (place : ℕ) (live : List LiveBlock) → filter (λ b. not (nat_eq b.place place)) live ≡ live → find (λ b. nat_eq b.place place) live ≡ None
fresh-find place [] e = refl
fresh-find place (block ∷ live) e =
    elim (cases_Bool (nat_eq block.place place)) [
      | inl same ↦ (
          let f : filter (λ b. not (nat_eq b.place place)) live ≡ block ∷ live = rw same at e in
          absurd (omega (arith, ap length f, shorter (λ b. not (nat_eq b.place place)) live)))
      | inr differs ↦ (
          let f : block ∷ filter (λ b. not (nat_eq b.place place)) live ≡ block ∷ live = rw differs at e in
          let g : filter (λ b. not (nat_eq b.place place)) live ≡ live = cc in
          rw differs (fresh-find place live g))
    ]

-- **no live block starts there**
pub place-free : (state : RegionState) (len place : ℕ) → IsSound state → place_answer state len ≡ Ok place → live_block state place ≡ None
unfolding live_block
place-free state len place sound e =
    let fits = answer-fits state len place sound e in
    let P : ℕ → Type 0 = λ p. filter (λ b. not (nat_eq b.place p)) state.live ≡ state.live in
    fresh-find place state.live (subst P fits.2 fits.1.fresh)

put-inside : (from limit : ℕ) (block : LiveBlock) (live : List LiveBlock) → AreLaid from limit (with_block block live) → block.place + block.len ≤ limit
put-inside from limit block [] laid = laid.3
put-inside from limit block (other ∷ live) laid =
    elim (cases_Bool (nat_lt block.place other.place)) [
      | inl before ↦ (
          let l : AreLaid from limit (block ∷ other ∷ live) = rw before at laid in
          AreLaid-le (block.place + block.len) limit (other ∷ live) l.3)
      | inr behind ↦ (
          let l : AreLaid from limit (other ∷ with_block block live) = rw behind at laid in
          put-inside (other.place + other.len) limit block live l.3)
    ]

-- **the new block ends inside the region**
pub place-inside : (state : RegionState) (len place : ℕ) → IsSound state → place_answer state len ≡ Ok place → place + len_in_units len ≤ state.base + state.size
place-inside state len place sound e =
    let fits = answer-fits state len place sound e in
    let P : ℕ → Type 0 = λ p. AreLaid state.base (state.base + state.size) (with_block (unfilled_block p (len_in_units len)) state.live) in
    put-inside state.base (state.base + state.size) (unfilled_block place (len_in_units len)) state.live (subst P fits.2 fits.1.laid)
