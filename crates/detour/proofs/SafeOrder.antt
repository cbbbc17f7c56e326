-- What stands after each of the writes of a patch, and that a patch has a byte.
use Rattle.std.proofs.Common.{◌≡◌, ℕ, zero, suc, ◌+◌, ◌-◌, ◌<◌, ◌≤◌, inl, inr, List, [], ◌∷◌, ◌++◌, length, take, drop, replicate, Option, None, refl, ap, sym, subst, ◌∙◌, arith}
use Rattle.std.specs.Prelude.{◌⊎◌}
use Rattle.std.proofs.lemmas.List.{ext_get_or, length-append, length-replicate, length-take-le, take-append-drop}
use Rattle.std.proofs.Math.Seq.{drop-append_seam}
use Rattle.x86_values.specs.declared.Bits.{Bits}
use Rattle.move_goals.specs.declared.branch_forms.branch.Action.TheVariants.{Jump}
use Rattle.move_goals.specs.BranchForms.Branches.{near_code}
use Rattle.move_goals.specs.BranchForms.Images.{branch_to}
use Rattle.detour.specs.LawsBelow.{DetourLawsBelow}
use Rattle.detour.specs.declared.parts.JumpForm.{JumpForm}
use Rattle.detour.specs.declared.parts.JumpForm.TheVariants.{Near, Relay, Absolute}
use Rattle.detour.specs.declared.start.MoveRule.{MoveRule}
use Rattle.detour.specs.Jumps.{near_jump_to, IsNearJump, absolute_jump}
use Rattle.detour.specs.Taken.{taken_bytes}
use Rattle.detour.specs.Detours.{DetourState, IsDetour, IsJumpOf, patch_of}
use Rattle.detour.specs.Writes.{WriteState, write_at, first_count, writes_of, written_by, after_writes, IsBetween, IsSafe, IsSafeOrder, IsPatchSafe}

-- ---- the writes

-- those of some bytes
abbrev three : ℕ → List ℕ → List ℕ → List WriteState
three n bytes stop = write_at 0 (take n stop) ∷ write_at n (drop n bytes) ∷ write_at 0 (take n bytes) ∷ []

one-first : (p : ℕ) (ps : List ℕ) → first_count (p ∷ ps) ≡ 1
one-first p ps = omega arith

writes-are : (p : ℕ) (ps : List ℕ) → writes_of (p ∷ ps) ≡ write_at 0 (0xCC ∷ []) ∷ write_at 1 ps ∷ write_at 0 (p ∷ []) ∷ []
unfolding writes_of
writes-are p ps = ap (λ (n : ℕ). three n (p ∷ ps) (0xCC ∷ [])) (one-first p ps)

after-are : (k : ℕ) (code : List ℕ) (p : ℕ) (ps : List ℕ)
    → after_writes k code (p ∷ ps) ≡ written_by (take k (write_at 0 (0xCC ∷ []) ∷ write_at 1 ps ∷ write_at 0 (p ∷ []) ∷ [])) code
unfolding after_writes
after-are k code p ps = ap (λ (ws : List WriteState). written_by (take k ws) code) (writes-are p ps)

one-more : (n x : ℕ) (xs : List ℕ) → drop (1 + n) (x ∷ xs) ≡ drop n xs
one-more n x xs = let e : 1 + n ≡ suc n = omega arith in ap (λ (m : ℕ). drop m (x ∷ xs)) e

-- **the writes, by their bytes**
pub writes_made : (bytes : List ℕ) (n : ℕ) (stop first others : List ℕ) → n ≡ first_count bytes → stop ≡ take n (0xCC ∷ []) → first ≡ take n bytes
    → others ≡ drop n bytes → write_at 0 stop ∷ write_at n others ∷ write_at 0 first ∷ [] ≡ writes_of bytes
unfolding writes_of
writes_made bytes n stop first others count s f o =
    ap (λ (xs : List ℕ). write_at 0 xs ∷ write_at n others ∷ write_at 0 first ∷ []) s
    ∙ (ap (λ (xs : List ℕ). write_at 0 (take n (0xCC ∷ [])) ∷ write_at n xs ∷ write_at 0 first ∷ []) o
    ∙ (ap (λ (xs : List ℕ). write_at 0 (take n (0xCC ∷ [])) ∷ write_at n (drop n bytes) ∷ write_at 0 xs ∷ []) f
    ∙ ap (λ (m : ℕ). three m bytes (0xCC ∷ [])) count))

-- ---- what stands after them

after-none : (code patch : List ℕ) → after_writes 0 code patch ≡ code
unfolding after_writes
after-none code patch = refl

after-one : (b : ℕ) (code : List ℕ) (p : ℕ) (ps : List ℕ) → after_writes 1 (b ∷ code) (p ∷ ps) ≡ 0xCC ∷ code
after-one b code p ps = after-are 1 (b ∷ code) p ps

after-two : (b : ℕ) (code : List ℕ) (p : ℕ) (ps : List ℕ) → after_writes 2 (b ∷ code) (p ∷ ps) ≡ 0xCC ∷ (ps ++ drop (length ps) code)
after-two b code p ps = after-are 2 (b ∷ code) p ps ∙ ap (λ (xs : List ℕ). 0xCC ∷ (ps ++ xs)) (one-more (length ps) 0xCC code)

after-three : (b : ℕ) (code : List ℕ) (p : ℕ) (ps : List ℕ) → after_writes 3 (b ∷ code) (p ∷ ps) ≡ p ∷ (ps ++ drop (length ps) code)
after-three b code p ps = after-are 3 (b ∷ code) p ps ∙ ap (λ (xs : List ℕ). p ∷ (ps ++ xs)) (one-more (length ps) 0xCC code)

-- all are done
all-done : (code patch : List ℕ) → 0 < length patch → length patch ≤ length code → after_writes 3 code patch ≡ patch ++ drop (length patch) code
all-done code [] some within = absurd (omega (arith, some))
all-done [] (p ∷ ps) some within = absurd (omega (arith, within))
all-done (b ∷ code) (p ∷ ps) some within = after-three b code p ps

-- the old bytes come back
taken-back : (code patch : List ℕ) → 0 < length patch → length patch ≤ length code
    → after_writes 3 (after_writes 3 code patch) (take (length patch) code) ≡ code
taken-back code patch some within =
    let rest = drop (length patch) code in
    let old = take (length patch) code in
    let long : length old ≡ length patch = length-take-le (length patch) code within in
    let there = all-done code patch some within in
    let room : length old ≤ length (patch ++ rest) = omega (arith, long, length-append patch rest) in
    ap (λ (xs : List ℕ). after_writes 3 xs old) there
    ∙ (all-done (patch ++ rest) old (omega (arith, long, some)) room
    ∙ (ap (λ (n : ℕ). old ++ drop n (patch ++ rest)) long
    ∙ (ap (λ (xs : List ℕ). old ++ xs) (drop-append_seam patch rest)
    ∙ take-append-drop (length patch) code)))

-- ---- in the midst of a write

either : (a b c : ℕ) → (a ≡ b) ⊎ (a ≡ c) → b ≡ c → a ≡ b
either a b c (inl h) same = h
either a b c (inr h) same = h ∙ sym same

-- where two states differ in the first byte alone, some bytes between them are one of them
one-of-two : (x y : ℕ) (rest now : List ℕ) → IsBetween (x ∷ rest) (y ∷ rest) now → (now ≡ x ∷ rest) ⊎ (now ≡ y ∷ rest)
one-of-two x y rest [] h = let e = h.len in absurd (omega (arith, e))
one-of-two x y rest (b ∷ now) h =
    let len : length now ≡ length rest = (let e = h.len in omega (arith, e)) in
    let same : now ≡ rest = ext_get_or 0 now rest len (λ i lt. either _ _ _ (h.each (suc i) (omega (arith, lt, len))) refl) in
    elim (h.each 0 (omega arith)) [
      | inl e ↦ inl (ap (λ (n : ℕ). n ∷ now) e ∙ ap (λ (xs : List ℕ). x ∷ xs) same)
      | inr e ↦ inr (ap (λ (n : ℕ). n ∷ now) e ∙ ap (λ (xs : List ℕ). y ∷ xs) same)
    ]

-- where both begin with one byte, so do bytes between them
front-stays : (x : ℕ) (old new now : List ℕ) → IsBetween (x ∷ old) (x ∷ new) now → take 1 now ≡ x ∷ []
front-stays x old new [] h = let e = h.len in absurd (omega (arith, e))
front-stays x old new (b ∷ now) h = ap (λ (n : ℕ). n ∷ []) (either _ _ _ (h.each 0 (omega arith)) refl)

stopped-front : (rest now : List ℕ) → now ≡ 0xCC ∷ rest → take 1 now ≡ 0xCC ∷ []
stopped-front rest now e = ap (λ (xs : List ℕ). take 1 xs) e

module _ (b : ℕ) (code : List ℕ) (p : ℕ) (ps : List ℕ) (now : List ℕ) where
  between-by : (old new : List ℕ) → (k : ℕ) → after_writes k (b ∷ code) (p ∷ ps) ≡ old → after_writes (k + 1) (b ∷ code) (p ∷ ps) ≡ new
      → IsBetween (after_writes k (b ∷ code) (p ∷ ps)) (after_writes (k + 1) (b ∷ code) (p ∷ ps)) now → IsBetween old new now
  between-by old new k e f h =
      subst (λ (xs : List ℕ). IsBetween old xs now) f (subst (λ (xs : List ℕ). IsBetween xs (after_writes (k + 1) (b ∷ code) (p ∷ ps)) now) e h)

  amid : (k : ℕ) → k < 3 → IsBetween (after_writes k (b ∷ code) (p ∷ ps)) (after_writes (k + 1) (b ∷ code) (p ∷ ps)) now → IsSafe (b ∷ code) (p ∷ ps) now
  amid zero lt h =
      elim (one-of-two b 0xCC code now (between-by (b ∷ code) (0xCC ∷ code) 0 (after-none (b ∷ code) (p ∷ ps)) (after-one b code p ps) h)) [
        | inl old ↦ inl old
        | inr stop ↦ inr (inl (stopped-front code now stop))
      ]
  amid (suc zero) lt h =
      inr (inl (front-stays 0xCC code (ps ++ drop (length ps) code) now
      (between-by (0xCC ∷ code) (0xCC ∷ (ps ++ drop (length ps) code)) 1 (after-one b code p ps) (after-two b code p ps) h)))
  amid (suc (suc zero)) lt h =
      let rest = ps ++ drop (length ps) code in
      elim (one-of-two 0xCC p rest now (between-by (0xCC ∷ rest) (p ∷ rest) 2 (after-two b code p ps) (after-three b code p ps) h)) [
        | inl stop ↦ inr (inl (stopped-front rest now stop))
        | inr new ↦ inr (inr new)
      ]
  amid (suc (suc (suc k))) lt h = absurd (omega (arith, lt))

-- **the writes of some bytes are in a safe order**
pub safe_order : (patch : List ℕ) → 0 < length patch → (code : List ℕ) → length patch ≤ length code → IsSafeOrder code patch
safe_order [] some code within = absurd (omega (arith, some))
safe_order (p ∷ ps) some [] within = absurd (omega (arith, within))
safe_order (p ∷ ps) some (b ∷ code) within = record {
  before = after-none (b ∷ code) (p ∷ ps);
  stopped = after-one b code p ps;
  filled = after-two b code p ps;
  done = all-done (b ∷ code) (p ∷ ps) some within;
  amid = λ k lt now h. amid b code p ps now k lt h;
  removed = taken-back (b ∷ code) (p ∷ ps) some within;
}

-- ---- a patch

patch-long : (jump : List ℕ) (taken : ℕ) → length jump ≤ taken → length (patch_of jump taken) ≡ taken
unfolding patch_of
patch-long jump taken fits =
    let fill : List ℕ = replicate (taken - length jump) 0xCC in
    let filled : length fill ≡ taken - length jump = length-replicate (taken - length jump) 0xCC in
    omega (arith, length-append jump fill, filled, fits)

module _ (laws : DetourLawsBelow) where
  near-some : (bits : Bits) (at t : ℕ) (bytes : List ℕ) → IsNearJump bits at t bytes → 0 < length bytes
  unfolding near_jump_to
  near-some bits at t bytes e =
      let l = laws.pieces.near_jump-length bits bits t in
      let n = laws.targets.encoding-length bits at (branch_to (near_code Jump bits) None t) bytes e in omega (arith, l, n)

  jump-some : (bits : Bits) (ip : ℕ) (code : List ℕ) (to place : ℕ) (rule : MoveRule) (form : JumpForm) (bytes : List ℕ) (relay : Option ℕ)
      → IsJumpOf bits ip code to place rule form bytes relay → 0 < length bytes
  unfolding absolute_jump
  jump-some bits ip code to place rule Near bytes relay h = near-some bits ip to bytes h.0
  jump-some bits ip code to place rule Relay bytes relay h = near-some bits ip h.1.0 bytes h.1.1.1.1
  jump-some bits ip code to place rule Absolute bytes relay h = let e = ap length h.1.1.0 in omega (arith, e)

  -- **the patch of a detour has a byte, and its writes are in a safe order**
  pub patch_safe : (bits : Bits) (ip : ℕ) (code : List ℕ) (to place : ℕ) (rule : MoveRule) (d : DetourState) → IsDetour bits ip code to place rule d
      → IsPatchSafe code d.patch
  patch_safe bits ip code to place rule d made =
      let byte = jump-some bits ip code to place rule made.jump.form made.jump.bytes made.jump.relay made.first in
      let long : length d.patch ≡ taken_bytes made.items = ap length made.patch ∙ patch-long made.jump.bytes (taken_bytes made.items) made.are_taken.enough in
      let some : 0 < length d.patch = omega (arith, long, byte, made.are_taken.enough) in
      record { some = some; order = safe_order d.patch some code (omega (arith, long, made.are_taken.within)) }
