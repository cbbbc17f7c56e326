-- The length of what is taken is one, and it is enough for every trampoline of it.
use Rattle.std.proofs.Common.{◌≡◌, ℕ, ◌+◌, ◌<◌, ◌≤◌, inl, inr, Bool, List, [], ◌∷◌, length, drop, Option, Some, None, Result, Ok, Err, refl, sym, subst, ap, ◌∙◌, arith}
use Rattle.std.specs.Prelude.{IfOk, false, unwrap_or, slice_get, ◌&&◌, is_none, ◌-◌}
use Rattle.std.proofs.lemmas.List.{length-append}
use Rattle.std.proofs.lemmas.List.Sums.{sum_by-cons}
use Rattle.x86_values.specs.declared.Bits.{Bits}
use Rattle.x86_values.specs.declared.Decoded.{Decoded}
use Rattle.x86_values.specs.Wrapping.{modulo_width}
use Rattle.plain_spelling.specs.Values.{low_bytes}
use Rattle.row_relation.specs.Spells.{Read}
use Rattle.opcode_rows.specs.Sweep.{IsReadAt}
use Rattle.decoder.specs.declared.DecodeError.{DecodeError}
use Rattle.decoder.specs.declared.DecodeError.TheVariants.{Invalid as InvalidError, TooShort as TooShortError}
use Rattle.decoder.specs.Answer.{reading_of}
use Rattle.move_goals.specs.declared.items.Placed.{Placed}
use Rattle.detour.specs.LawsBelow.{DetourLawsBelow}
use Rattle.detour.specs.declared.error.DetourError.{DetourError}
use Rattle.detour.specs.declared.error.DetourError.TheVariants.{Memory, BadCode, TooSmall, Ends, Entered, Wraps, TooFar}
use Rattle.detour.specs.declared.parts.JumpForm.{JumpForm}
use Rattle.detour.specs.declared.parts.JumpForm.TheVariants.{Near, Relay, Absolute}
use Rattle.detour.specs.declared.rules.HookRules.{HookRules}
use Rattle.detour.specs.declared.start.MoveRule.{MoveRule}
use Rattle.encoder.specs.Encoding.{encoding}
use Rattle.detour.specs.Jumps.{near_jump_to, IsNearJump, absolute_jump}
use Rattle.detour.specs.Taken.{AreReadFrom, AreTaken, taken_bytes, reading_of_item, first_code_behind, first_end}
use Rattle.detour.specs.Trampoline.{pushed_by, pushed_last, block_by, block_items}
use Rattle.detour.specs.Detours.{DetourState, IsDetour, IsTakenAnswer, IsJumpOf, relay_bytes, all_follow}
use Rattle.detour.specs.Rules.{move_rule}
use Rattle.detour.specs.Lengths.{block_length, IsLengthOf, IsTakenLength, with_relay, IsFarLength, IsDetourLength, IsLengthFor, IsEnough, IsEnoughPlain}
use Rattle.detour.proofs.Jumping.{near-five}
use Rattle.detour.proofs.OnePlace.{item_same, one_reading, one_taken}
use Rattle.detour.proofs.Longest.{trampoline_within}

-- ---- only whether calls push their own return address counts

last_by : (bits : Bits) (items : List Placed) (a b : MoveRule) → a.returns ≡ b.returns → pushed_last a bits items ≡ pushed_last b bits items
unfolding pushed_last
last_by bits items a b same = ap (λ (r : Bool). pushed_by (r && is_none (first_end items)) bits (slice_get items (length items - 1))) same

block_items_by : (bits : Bits) (ip : ℕ) (items : List Placed) (a b : MoveRule) → a.returns ≡ b.returns → block_items a bits ip items ≡ block_items b bits ip items
unfolding block_items
block_items_by bits ip items a b same = ap (λ (o : Option (List Placed)). block_by o bits ip items) (last_by bits items a b same)

-- ---- what is taken is one

not_read : (error : DecodeError) (d : Decoded) → reading_of (Err error) ≡ Read d → ⊥
not_read TooShortError d e = cc
not_read InvalidError d e = cc

-- the jump through the address behind it has 14 bytes
pub absolute_long : (to : ℕ) → length (absolute_jump to) ≡ 14
unfolding absolute_jump low_bytes
absolute_long to = refl

module _ (laws : DetourLawsBelow) (bits : Bits) (ip : ℕ) (code : List ℕ) where
  -- where an instruction is read there is no other reading
  none_between : (offset at : ℕ) (items before : List Placed) → AreReadFrom bits ip code offset items → AreReadFrom bits ip code offset before
      → at ≡ offset + taken_bytes before → taken_bytes before < taken_bytes items → (error : DecodeError)
      → IsReadAt bits ip at (drop at code) (reading_of (Err error)) → ⊥
  none_between offset at [] before reads others is less error none = absurd (omega (arith, less))
  none_between offset at (p ∷ items) [] reads others is less error none =
      let here : at ≡ offset = omega (arith, is) in
      let read = subst (λ (n : ℕ). IsReadAt bits ip n (drop n code) (reading_of (Err error))) here none in
      not_read error (record { instr = p.instr; len = p.len })
      (one_reading laws bits ip offset (drop offset code) (reading_of (Err error)) (reading_of_item p) read reads.0.1)
  none_between offset at (p ∷ items) (q ∷ before) reads others is less error none =
      let same : p ≡ q = item_same p q (reads.0.0 ∙ sym others.0.0)
      (one_reading laws bits ip offset (drop offset code) (reading_of_item p) (reading_of_item q) reads.0.1 others.0.1) in
      let len : p.len ≡ q.len = ap (λ (x : Placed). x.len) same in
      let front = sum_by-cons (λ (x : Placed). x.len) p items in
      let front' = sum_by-cons (λ (x : Placed). x.len) q before in
      none_between (offset + p.len) at items before reads.1 (subst (λ (n : ℕ). AreReadFrom bits ip code (offset + n) before) (sym len) others.1)
      (omega (arith, is, front', len)) (omega (arith, less, front, front', len)) error none

  module _ (need : ℕ) (rule other : MoveRule) (same : other.returns ≡ rule.returns) (items : List Placed) (are : AreTaken bits ip code need items)
      (whole : first_code_behind items ≡ None) where
    answered : (taken : Result (List Placed) DetourError) → IsTakenAnswer bits ip code need taken → (len : Option ℕ) → IsLengthOf rule bits ip taken len
        → len ≡ Some (block_length bits (block_items other bits ip items))
    answered (Ok others) h len is =
        let one : others ≡ items = one_taken laws bits ip code need others items h.0 are in
        is ∙ (ap (λ (xs : List Placed). Some (block_length bits (block_items rule bits ip xs))) one
        ∙ ap (λ (xs : List Placed). Some (block_length bits xs)) (sym (block_items_by bits ip items other rule same)))
    answered (Err Memory) h len is = absurd is
    answered (Err (BadCode at error)) h len is =
        let offset = h.offset in
        let less = h.to_take in
        absurd (none_between 0 at items h.items are.read h.read (omega (arith, offset)) (omega (arith, offset, less, are.enough)) error h.none)
    answered (Err (TooSmall size wanted)) h len is =
        let short = h.0.short in
        let size_is = h.0.len_is in
        absurd (omega (arith, short, size_is, are.enough, are.within))
    answered (Err (Ends at)) h len is =
        let one : h.0 ≡ items = one_taken laws bits ip code need h.0 items h.1.0 are in
        let first : first_code_behind items ≡ Some h.1.1.number = subst (λ (xs : List Placed). first_code_behind xs ≡ Some h.1.1.number) one h.1.1.first in
        absurd (cc)
    answered (Err (Entered from target)) h len is = absurd h
    answered (Err (Wraps end)) h len is = absurd h
    answered (Err (TooFar at target)) h len is = absurd h

    -- **the length for what is taken is that of its block**
    pub taken_length : (len : Option ℕ) → IsTakenLength bits ip code need rule len → len ≡ Some (block_length bits (block_items other bits ip items))
    taken_length len is = answered is.0 is.1.0 len is.1.1

  -- ---- the trampoline

  module _ (to place : ℕ) (rule other : MoveRule) (same : other.returns ≡ rule.returns) (items : List Placed) (whole : first_code_behind items ≡ None) where
    enough_by : (form : JumpForm) (bytes : List ℕ) (relay : Option ℕ) → IsJumpOf bits ip code to place other form bytes relay
        → AreTaken bits ip code (length bytes) items → (n : ℕ) → IsDetourLength bits ip code to rule n
        → block_length bits (block_items other bits ip items) + length (relay_bytes relay to) ≤ n
    enough_by Near bytes relay h are n (inl near) =
        let there : encoding bits ip (near_jump_to bits to) ≡ Ok bytes = h.0 in
        let here : encoding bits ip (near_jump_to bits to) ≡ Ok near.bytes = near.jump in
        let one : bytes ≡ near.bytes = cc (there, here) in
        let taken = subst (λ (bs : List ℕ). AreTaken bits ip code (length bs) items) one are in
        let len = ap (λ (o : Option ℕ). unwrap_or o 0) (taken_length (length near.bytes) rule other same items taken whole near.len near.is_len) in
        let none : length (relay_bytes relay to) ≡ 0 = ap (λ (r : Option ℕ). length (relay_bytes r to)) h.1 in
        let value = near.value in
        omega (arith, value, len, none)
    enough_by Near bytes relay h are n (inr far) = absurd (far.unreached bytes h.0)
    enough_by Relay bytes relay h are n (inl near) = absurd (h.0.1 near.bytes near.jump)
    enough_by Relay bytes relay h are n (inr far) =
        let five : length bytes ≡ 5 = near-five laws ip h.1.0 bytes (subst (λ (b : Bits). IsNearJump b ip h.1.0 bytes) h.0.0 h.1.1.1.1) in
        let taken = subst (λ (m : ℕ). AreTaken bits ip code m items) five are in
        let len = ap with_relay (taken_length 5 rule other same items taken whole far.near far.is_near) in
        let long : length (relay_bytes relay to) ≡ 14 = ap (λ (r : Option ℕ). length (relay_bytes r to)) h.1.1.0 ∙ absolute_long to in
        let value = far.value in
        omega (arith, value, len, long)
    enough_by Absolute bytes relay h are n (inl near) = absurd (h.0.1 near.bytes near.jump)
    enough_by Absolute bytes relay h are n (inr far) =
        let long : length bytes ≡ 14 = ap length h.1.1.0 ∙ absolute_long to in
        let taken = subst (λ (m : ℕ). AreTaken bits ip code m items) long are in
        let len = ap (λ (o : Option ℕ). unwrap_or o 0) (taken_length 14 rule other same items taken whole far.far far.is_far) in
        let none : length (relay_bytes relay to) ≡ 0 = ap (λ (r : Option ℕ). length (relay_bytes r to)) h.1.1.1 in
        let value = far.value in
        omega (arith, value, len, none)

-- **the length is enough for every trampoline, of every rule by which calls push alike**
pub enough : (laws : DetourLawsBelow) (bits : Bits) (ip : ℕ) (code : List ℕ) (to place : ℕ) (rule other : MoveRule) → other.returns ≡ rule.returns
    → (n : ℕ) → IsDetourLength bits ip code to rule n → (d : DetourState) → IsDetour bits ip code to place other d → length d.trampoline ≤ n
enough laws bits ip code to place rule other same n is d made =
    let short = enough_by laws bits ip code to place rule other same made.items made.whole made.jump.form made.jump.bytes made.jump.relay made.first made.are_taken n is in
    let block = trampoline_within laws bits ip made.items place other made.moved made.block in
    let bytes = ap length made.trampoline in
    let both = length-append made.moved.bytes (relay_bytes made.jump.relay to) in
    omega (arith, short, block, bytes, both)

-- ---- as the calls answer

module _ (bits : Bits) (ip : ℕ) (code : List ℕ) (need : ℕ) (rule : MoveRule) where
  untaken : (why : DetourError) → IsTakenAnswer bits ip code need (Err why) → (why ≡ Memory → ⊥) → IsTakenLength bits ip code need rule None
  untaken Memory h other = absurd (other refl)
  untaken (BadCode at error) h other = (Err (BadCode at error), (h, refl))
  untaken (TooSmall size wanted) h other = (Err (TooSmall size wanted), (h, refl))
  untaken (Ends at) h other = (Err (Ends at), (h, refl))
  untaken (Entered from target) h other = absurd h
  untaken (Wraps end) h other = absurd h
  untaken (TooFar at target) h other = absurd h

module _ {E : Type 0} where
  module _ (bits : Bits) (ip : ℕ) (code : List ℕ) (need : ℕ) (rule : MoveRule) where
    -- there is no length if nothing can be taken, for another cause than memory
    pub length_untaken : (why : DetourError) → IsTakenAnswer bits ip code need (Err why) → (r : Result (Option ℕ) E)
        → IfOk r (λ len. (len ≡ None) × (why ≡ Memory → ⊥)) → IfOk r (λ len. IsTakenLength bits ip code need rule len)
    length_untaken why h (Ok len) none = subst (λ (x : Option ℕ). IsTakenLength bits ip code need rule x) (sym none.0) (untaken bits ip code need rule why h none.1)
    length_untaken why h (Err lost) none = tt

  -- a length for a jump that crosses any distance is one
  pub far_is_one : (bits : Bits) (ip : ℕ) (code : List ℕ) (to : ℕ) (rule : MoveRule) (r : Result ℕ E) → IfOk r (λ n. IsFarLength bits ip code to rule n)
      → IfOk r (λ n. IsDetourLength bits ip code to rule n)
  far_is_one bits ip code to rule (Ok n) is = inr is
  far_is_one bits ip code to rule (Err lost) is = tt

  module _ (laws : DetourLawsBelow) (bits : Bits) (ip : ℕ) (code : List ℕ) (to : ℕ) (rules : HookRules) where
    -- **it is enough by these rules**
    pub enough_for : (r : Result ℕ E) → IfOk r (λ n. IsLengthFor bits ip code to rules n) → IfOk r (λ n. IsEnough bits ip code to rules n)
    enough_for (Ok n) is = λ place d made. enough laws bits ip code (modulo_width bits to) place (move_rule rules) (move_rule rules) refl n is d made
    enough_for (Err lost) is = tt

    -- **and without rules, if calls stay calls**
    pub enough_plain : rules.returns ≡ false → (r : Result ℕ E) → IfOk r (λ n. IsLengthFor bits ip code to rules n) → IfOk r (λ n. IsEnoughPlain bits ip code to n)
    enough_plain stay (Ok n) is =
        λ place start d made. enough laws bits ip code (modulo_width bits to) place (move_rule rules) (all_follow start) (sym stay) n is d made
    enough_plain stay (Err lost) is = tt
