-- The relay stands behind the block: what is taken for a near jump, and how it is moved, is one.
use Rattle.std.proofs.Common.{◌≡◌, ℕ, suc, ◌+◌, ◌-◌, ◌^◌, ◌<◌, ◌≤◌, Bool, true, false, List, [], ◌∷◌, length, take, drop, nat_le, Some, None, Result, Ok, Err, refl, sym, ap, ◌∙◌, subst, arith}
use Rattle.std.specs.Prelude.{if◌then◌else◌}
use Rattle.std.proofs.lemmas.List.Sums.{sum_by-cons}
use Rattle.x86_values.specs.declared.Bits.{Bits}
use Rattle.x86_values.specs.declared.Instr.{Instr}
use Rattle.x86_values.specs.declared.Decoded.{Decoded}
use Rattle.row_relation.specs.Spells.{Reading, Read}
use Rattle.opcode_rows.specs.Sweep.{IsReadAt}
use Rattle.branch_sizes.specs.Plan.{BlockPlan}
use Rattle.move_goals.specs.declared.items.Placed.{Placed}
use Rattle.block_encoder.specs.declared.error.MoveError.{MoveError}
use Rattle.block_encoder.specs.declared.error.MoveError.TheVariants as move_error
use Rattle.block_encoder.specs.Bytes.{bytes_of_blocks}
use Rattle.block_encoder.specs.Moved.{MovedLists}
use Rattle.block_encoder.specs.ByPlan.{IsMovedBy, IsPlanAnswer}
use Rattle.detour.specs.LawsBelow.{DetourLawsBelow}
use Rattle.detour.specs.declared.error.DetourError.{DetourError}
use Rattle.detour.specs.declared.error.DetourError.TheVariants.{Memory, BadCode, TooSmall, Ends, Entered, Wraps, TooFar}
use Rattle.detour.specs.declared.start.MoveRule.{MoveRule}
use Rattle.detour.specs.Taken.{AreReadFrom, AreTaken, taken_bytes, offset_at, reading_of_item}
use Rattle.detour.specs.Trampoline.{IsTrampoline, block_items, trampoline_plan}
use Rattle.detour.specs.Detours.{IsTakenAnswer, IsRelayOf, IsRelayBehind, relay_behind}

decoded_same : (d e : Decoded) → Read d ≡ Read e → d ≡ e
decoded_same d e h = cc

abbrev item_made : ℕ → ℕ → Instr → Placed
item_made at len i = record { ip = at; len = len; instr = i }

-- items with one address and one reading are one
pub item_same : (p q : Placed) → p.ip ≡ q.ip → reading_of_item p ≡ reading_of_item q → p ≡ q
item_same p q at reading =
    let d = decoded_same (record { instr = p.instr; len = p.len }) (record { instr = q.instr; len = q.len }) reading in
    ap (λ (n : ℕ). item_made n p.len p.instr) at ∙ ap (λ (x : Decoded). item_made q.ip x.len x.instr) d

if_some : (b : Bool) (x address : ℕ) → Some address ≡ (if b then Some x else None) → address ≡ x
if_some true x address e = cc
if_some false x address e = absurd (cc)

-- the relay behind so many bytes at a place has the address behind them
pub behind_there : (place len address : ℕ) → Some address ≡ relay_behind place len → address ≡ place + len
unfolding relay_behind
behind_there place len address e = if_some (nat_le (place + len + 14) (2 ^ 64)) (place + len) address e

module _ (laws : DetourLawsBelow) (bits : Bits) where
  -- bytes at an offset have one reading
  pub one_reading : (ip offset : ℕ) (bytes : List ℕ) (a b : Reading) → IsReadAt bits ip offset bytes a → IsReadAt bits ip offset bytes b → a ≡ b
  unfolding IsReadAt
  one_reading ip offset bytes a b h k = laws.readings.reading_same bits (ip + offset) bytes a b h k

  -- as few instructions as have so many bytes are the same ones
  one_front : (ip : ℕ) (code : List ℕ) (need offset : ℕ) (a b : List Placed) → AreReadFrom bits ip code offset a → AreReadFrom bits ip code offset b
      → need ≤ taken_bytes a → need ≤ taken_bytes b → ((k : ℕ) → k < length a → offset_at a k < need) → ((k : ℕ) → k < length b → offset_at b k < need) → a ≡ b
  one_front ip code need offset [] [] reads others enough enough' fewest fewest' = refl
  one_front ip code need offset [] (q ∷ b) reads others enough enough' fewest fewest' = let first = fewest' 0 (omega arith) in absurd (omega (arith, first, enough))
  one_front ip code need offset (p ∷ a) [] reads others enough enough' fewest fewest' = let first = fewest 0 (omega arith) in absurd (omega (arith, first, enough'))
  one_front ip code need offset (p ∷ a) (q ∷ b) reads others enough enough' fewest fewest' =
      let same : p ≡ q = item_same p q (reads.0.0 ∙ sym others.0.0)
      (one_reading ip offset (drop offset code) (reading_of_item p) (reading_of_item q) reads.0.1 others.0.1) in
      let len : p.len ≡ q.len = ap (λ (x : Placed). x.len) same in
      let rest = one_front ip code (need - p.len) (offset + p.len) a b reads.1 (subst (λ (n : ℕ). AreReadFrom bits ip code (offset + n) b) (sym len) others.1)
      (omega (arith, enough, sum_by-cons (λ (x : Placed). x.len) p a)) (omega (arith, enough', len, sum_by-cons (λ (x : Placed). x.len) q b))
      (λ k lt. let f = fewest (suc k) (omega (arith, lt)) in omega (arith, f, sum_by-cons (λ (x : Placed). x.len) p (take k a)))
      (λ k lt. let f = fewest' (suc k) (omega (arith, lt)) in omega (arith, f, len, sum_by-cons (λ (x : Placed). x.len) q (take k b))) in
      ap (λ (x : Placed). x ∷ a) same ∙ ap (λ (xs : List Placed). q ∷ xs) rest

  -- what is taken for so many bytes is one
  pub one_taken : (ip : ℕ) (code : List ℕ) (need : ℕ) (a b : List Placed) → AreTaken bits ip code need a → AreTaken bits ip code need b → a ≡ b
  one_taken ip code need a b h k = one_front ip code need 0 a b h.read k.read h.enough k.enough h.fewest k.fewest

  -- what is moved by one plan has the same bytes
  one_block : (items : List Placed) (p : BlockPlan) (m n : MovedLists) → IsMovedBy bits items p m → IsMovedBy bits items p n → m.bytes ≡ n.bytes
  one_block items p m n h k =
      h.lists.bytes
      ∙ (ap (λ (l : List ℕ). bytes_of_blocks bits items p l (length p.spans)) (laws.one_least p h.layout k.layout h.least k.least) ∙ sym k.lists.bytes)

  module _ (ip : ℕ) (code : List ℕ) (place : ℕ) (rule : MoveRule) (items : List Placed) (m : MovedLists) (block : IsTrampoline bits ip items place rule m) where
    moved_place : (moved : Result MovedLists MoveError) → IsPlanAnswer bits (block_items rule bits ip items) (trampoline_plan bits ip items place rule) moved
        → (address : ℕ) → IsRelayOf place moved (Some address) → address ≡ place + length m.bytes
    moved_place (Ok n) h address e =
        behind_there place (length n.bytes) address e
        ∙ ap (λ (bs : List ℕ). place + length bs) (one_block (block_items rule bits ip items) (trampoline_plan bits ip items place rule) n m h block)
    moved_place (Err move_error.Memory) h address e = absurd e
    moved_place (Err (move_error.TooMany count)) h address e = absurd (cc)
    moved_place (Err (move_error.OldOrder at)) h address e = absurd (cc)
    moved_place (Err (move_error.Wraps end)) h address e = absurd (cc)
    moved_place (Err (move_error.TooFar at target)) h address e = absurd (cc)

    -- **a relay behind what a near jump takes is the one behind this block**
    pub relay_place : AreTaken bits ip code 5 items → (taken : Result (List Placed) DetourError) → IsTakenAnswer bits ip code 5 taken
        → (address : ℕ) → IsRelayBehind bits ip place rule taken (Some address) → address ≡ place + length m.bytes
    relay_place are (Ok others) h address behind =
        let same : others ≡ items = one_taken ip code 5 others items h.0 are in
        let moved = subst (λ (xs : List Placed). IsRelayBehind bits ip place rule (Ok xs) (Some address)) same behind in
        moved_place moved.0 moved.1.0 address moved.1.1
    relay_place are (Err Memory) h address behind = absurd behind
    relay_place are (Err (BadCode at error)) h address behind = absurd (cc)
    relay_place are (Err (TooSmall len need)) h address behind = absurd (cc)
    relay_place are (Err (Ends at)) h address behind = absurd (cc)
    relay_place are (Err (Entered from target)) h address behind = absurd (cc)
    relay_place are (Err (Wraps end)) h address behind = absurd (cc)
    relay_place are (Err (TooFar at target)) h address behind = absurd (cc)
