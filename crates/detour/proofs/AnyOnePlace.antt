-- The relay stands behind the block where some instructions have no row: what is taken for a near jump, and how it is moved, is one.
use Rattle.std.proofs.Common.{◌≡◌, ℕ, suc, ◌+◌, ◌-◌, ◌<◌, ◌≤◌, List, [], ◌∷◌, length, take, drop, Some, Result, Ok, Err, refl, sym, ap, ◌∙◌, subst, arith}
use Rattle.std.proofs.lemmas.List.Sums.{sum_by-cons}
use Rattle.x86_values.specs.declared.Bits.{Bits}
use Rattle.x86_values.specs.Wrapping.{modulo_width}
use Rattle.branch_sizes.specs.Plan.{BlockPlan}
use Rattle.move_goals.specs.declared.items.Placed.{Placed}
use Rattle.block_encoder.specs.declared.error.PlanError.{PlanError}
use Rattle.block_encoder.specs.declared.error.PlanError.TheVariants as plan_error
use Rattle.block_encoder.specs.Moved.{MovedLists}
use Rattle.code_items.specs.declared.any_items.AnyItem.{AnyItem}
use Rattle.code_items.specs.AnyItems.{item_len}
use Rattle.code_items.specs.AnyMoved.{any_block_bytes, IsMovedAnyBy, IsAnyPlanAnswer}
use Rattle.detour.specs.AnyLawsBelow.{DetourAnyLaws}
use Rattle.detour.specs.declared.error.DetourError.{DetourError}
use Rattle.detour.specs.declared.error.DetourError.TheVariants.{Memory, BadCode, TooSmall, Ends, Entered, Wraps, TooFar}
use Rattle.detour.specs.declared.start.MoveRule.{MoveRule}
use Rattle.detour.specs.Taken.{taken_bytes, offset_at}
use Rattle.detour.specs.AnyTaken.{line_of, outline, AreAnyReadFrom, AreAnyTaken}
use Rattle.detour.specs.AnyTrampoline.{any_block_items, any_trampoline_plan, IsAnyTrampoline}
use Rattle.detour.specs.AnyDetours.{IsAnyTakenAnswer, IsAnyRelayOf, IsAnyRelayBehind}
use Rattle.detour.proofs.OnePlace.{behind_there}
use Rattle.detour.proofs.AnyFront.{line-len}

module _ (laws : DetourAnyLaws) (bits : Bits) where
  -- as few instructions as have so many bytes are the same ones
  one-front : (ip : ℕ) (code : List ℕ) (need offset : ℕ) (a b : List AnyItem) → AreAnyReadFrom bits ip code offset a → AreAnyReadFrom bits ip code offset b
      → need ≤ taken_bytes (outline bits a) → need ≤ taken_bytes (outline bits b) → ((k : ℕ) → k < length a → offset_at (outline bits a) k < need)
      → ((k : ℕ) → k < length b → offset_at (outline bits b) k < need) → a ≡ b
  one-front ip code need offset [] [] reads others enough enough' fewest fewest' = refl
  one-front ip code need offset [] (y ∷ b) reads others enough enough' fewest fewest' = let first = fewest' 0 (omega arith) in absurd (omega (arith, first, enough))
  one-front ip code need offset (x ∷ a) [] reads others enough enough' fewest fewest' = let first = fewest 0 (omega arith) in absurd (omega (arith, first, enough'))
  one-front ip code need offset (x ∷ a) (y ∷ b) reads others enough enough' fewest fewest' =
      let same : x ≡ y = laws.one bits (modulo_width bits (ip + offset)) (drop offset code) x y reads.0 others.0 in
      let len : item_len x ≡ item_len y = ap item_len same in
      let lx = line-len bits x in
      let ly = line-len bits y in
      let rest = one-front ip code (need - item_len x) (offset + item_len x) a b reads.1
      (subst (λ (n : ℕ). AreAnyReadFrom bits ip code (offset + n) b) (sym len) others.1)
      (omega (arith, enough, lx, sum_by-cons (λ (p : Placed). p.len) (line_of bits x) (outline bits a)))
      (omega (arith, enough', len, ly, sum_by-cons (λ (p : Placed). p.len) (line_of bits y) (outline bits b)))
      (λ k lt. let g = fewest (suc k) (omega (arith, lt)) in omega (arith, g, lx, sum_by-cons (λ (p : Placed). p.len) (line_of bits x) (take k (outline bits a))))
      (λ k lt. let g = fewest' (suc k) (omega (arith, lt)) in omega (arith, g, len, ly, sum_by-cons (λ (p : Placed). p.len) (line_of bits y) (take k (outline bits b)))) in
      ap (λ (z : AnyItem). z ∷ a) same ∙ ap (λ (zs : List AnyItem). y ∷ zs) rest

  -- what is taken for so many bytes is one
  pub one-taken : (ip : ℕ) (code : List ℕ) (need : ℕ) (a b : List AnyItem) → AreAnyTaken bits ip code need a → AreAnyTaken bits ip code need b → a ≡ b
  one-taken ip code need a b h k = one-front ip code need 0 a b h.read k.read h.enough k.enough h.fewest k.fewest

  -- what is moved by one plan has the same bytes
  one-block : (items : List AnyItem) (p : BlockPlan) (m n : MovedLists) → IsMovedAnyBy bits items p m → IsMovedAnyBy bits items p n → m.bytes ≡ n.bytes
  one-block items p m n h k =
      h.bytes ∙ (ap (λ (l : List ℕ). any_block_bytes bits items p l) (laws.below.one_least p h.layout k.layout h.least k.least) ∙ sym k.bytes)

  module _ (ip : ℕ) (code : List ℕ) (place : ℕ) (rule : MoveRule) (items : List AnyItem) (m : MovedLists) (block : IsAnyTrampoline bits ip items place rule m) where
    moved-place : (moved : Result MovedLists PlanError) → IsAnyPlanAnswer bits (any_block_items rule bits ip items) (any_trampoline_plan bits ip items place rule) moved
        → (address : ℕ) → IsAnyRelayOf place moved (Some address) → address ≡ place + length m.bytes
    moved-place (Ok n) h address e =
        behind_there place (length n.bytes) address e
        ∙ ap (λ (bs : List ℕ). place + length bs) (one-block (any_block_items rule bits ip items) (any_trampoline_plan bits ip items place rule) n m h block)
    moved-place (Err plan_error.Memory) h address e = absurd e
    moved-place (Err (plan_error.Wraps end)) h address e = absurd (cc)
    moved-place (Err (plan_error.TooFar at target)) h address e = absurd (cc)

    -- **a relay behind what a near jump takes is the one behind this block**
    pub any_relay_place : AreAnyTaken bits ip code 5 items → (taken : Result (List AnyItem) DetourError) → IsAnyTakenAnswer bits ip code 5 taken
        → (address : ℕ) → IsAnyRelayBehind bits ip place rule taken (Some address) → address ≡ place + length m.bytes
    any_relay_place are (Ok others) h address behind =
        let same : others ≡ items = one-taken ip code 5 others items h.0 are in
        let moved = subst (λ (xs : List AnyItem). IsAnyRelayBehind bits ip place rule (Ok xs) (Some address)) same behind in
        moved-place moved.0 moved.1.0 address moved.1.1
    any_relay_place are (Err Memory) h address behind = absurd behind
    any_relay_place are (Err (BadCode at error)) h address behind = absurd (cc)
    any_relay_place are (Err (TooSmall len need)) h address behind = absurd (cc)
    any_relay_place are (Err (Ends at)) h address behind = absurd (cc)
    any_relay_place are (Err (Entered from target)) h address behind = absurd (cc)
    any_relay_place are (Err (Wraps end)) h address behind = absurd (cc)
    any_relay_place are (Err (TooFar at target)) h address behind = absurd (cc)
