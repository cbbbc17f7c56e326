-- No trampoline, and no length of one, is more than 400 bytes: at most 14 instructions are taken, and each has at most 15 bytes and a slot.
use Rattle.std.proofs.Common.{◌≡◌, ℕ, zero, suc, ◌+◌, ◌-◌, ◌*◌, ◌^◌, ◌<◌, ◌≤◌, inl, inr, Bool, true, false, List, [], ◌∷◌, length, take, drop, map, Option, Some, None, Result, Ok, Err, refl, sym, subst, ap, ◌∙◌, arith}
use Rattle.std.specs.Prelude.{IfOk, ◌&&◌, if◌then◌else◌, unwrap_or, slice_get, is_none, nat_le}
use Rattle.std.proofs.lemmas.Bool.{and_parts, leb-true}
use Rattle.std.proofs.lemmas.List.{length-append, length-take-le}
use Rattle.std.proofs.lemmas.List.Sums.{sum_by-cons, count_by-le-length}
use Rattle.x86_values.specs.declared.Bits.{Bits}
use Rattle.x86_values.specs.declared.Bits.TheVariants.{B16, B32, B64}
use Rattle.x86_values.specs.declared.Operand.{Operand}
use Rattle.x86_values.specs.declared.Operand.TheVariants.{Near as NearTarget}
use Rattle.x86_values.specs.declared.Instr.{Instr}
use Rattle.x86_values.specs.Wrapping.{width, modulo_width}
use Rattle.plain_spelling.specs.declared.NoSpelling.{NoSpelling}
use Rattle.plain_spelling.specs.Forms.{operand_at}
use Rattle.row_relation.specs.Spells.{Spells}
use Rattle.opcode_rows.specs.Sweep.{IsReadAt}
use Rattle.opcode_rows.specs.Table.{table}
use Rattle.operand_info.specs.Operands.{near_value, first_value}
use Rattle.encoder.specs.Encoding.{encoding}
use Rattle.branch_sizes.specs.declared.plan.Choice.{Choice}
use Rattle.branch_sizes.specs.Plan.{lengths_rise_from}
use Rattle.move_goals.specs.declared.branch_forms.branch.Action.TheVariants.{Jump}
use Rattle.move_goals.specs.BranchForms.Branches.{near_code}
use Rattle.move_goals.specs.BranchForms.Choices.{choices_of}
use Rattle.move_goals.specs.BranchForms.Images.{branch_to}
use Rattle.move_goals.specs.declared.items.Placed.{Placed}
use Rattle.move_goals.specs.Items.{IsPlaced, ArePlaced}
use Rattle.block_encoder.specs.PushedCalls.Jumps.{jump_to, direct_jump, indirect_jump, operand_behind, jump_of}
use Rattle.block_encoder.specs.PushedCalls.Pushes.{pushes}
use Rattle.block_encoder.specs.PushedCalls.Items.{return_address, item_of, item_if, encoded_item, jump_item, with_jump, with_jump_if, pushed_items}
use Rattle.detour.specs.LengthLaws.{LengthLawsBelow}
use Rattle.detour.specs.declared.error.DetourError.{DetourError}
use Rattle.detour.specs.declared.error.DetourError.TheVariants.{Memory}
use Rattle.detour.specs.declared.parts.JumpForm.{JumpForm}
use Rattle.detour.specs.declared.parts.JumpForm.TheVariants.{Near, Relay, Absolute}
use Rattle.detour.specs.declared.rules.HookRules.{HookRules}
use Rattle.detour.specs.declared.start.MoveRule.{MoveRule}
use Rattle.detour.specs.Jumps.{near_jump_to, IsNearJump}
use Rattle.detour.specs.Taken.{AreReadFrom, AreTaken, taken_bytes, reading_of_item, first_end}
use Rattle.detour.specs.Trampoline.{pushed_by, pushed_last, block_items}
use Rattle.detour.specs.Detours.{DetourState, IsDetour, IsTakenAnswer, IsJumpOf, relay_bytes}
use Rattle.detour.specs.Rules.{move_rule}
use Rattle.detour.specs.Lengths.{greatest_length, images_length, slots_count, slots_length, block_length, IsLengthOf, IsTakenLength, with_relay, IsDetourLength, IsLengthFor}
use Rattle.detour.proofs.Front.{each_more}
use Rattle.detour.proofs.Planned.{count_within, block_few, block_placed, below_width}
use Rattle.detour.proofs.Longest.{slots_suc, trampoline_within}
use Rattle.detour.proofs.Enough.{absolute_long}

-- ---- the jump of a call has four operands

abbrev HasFour : Option Instr → Type 0
HasFour o = (j : Instr) → o ≡ Some j → length j.ops ≡ 4

to_four : (bits : Bits) (t : ℕ) → length (jump_to bits t).ops ≡ 4
unfolding jump_to branch_to
to_four bits t = refl

same_four : (i j : Instr) → length i.ops ≡ 4 → Some i ≡ Some j → length j.ops ≡ 4
same_four i j four e = let same : i ≡ j = cc in subst (λ (x : Instr). length x.ops ≡ 4) same four

direct_four : (bits : Bits) (op : Operand) → HasFour (direct_jump bits op)
direct_four bits (NearTarget t) j e = same_four (jump_to bits t) j (to_four bits t) e
direct_four bits _ j e = absurd cc

indirect_four : (bits : Bits) (i : Instr) (o : Option Operand) → HasFour (indirect_jump bits i o)
indirect_four bits i None j e = absurd cc
indirect_four bits i (Some op) j e = same_four _ j refl e

none_four : HasFour None
none_four j e = absurd cc

four_if : (a b : Bool) (x y : Option Instr) → HasFour x → HasFour y → HasFour (if a then x else (if b then y else None))
four_if true b x y h g = h
four_if false true x y h g = g
four_if false false x y h g = none_four

jump_four : (bits : Bits) (i : Instr) → HasFour (jump_of bits i)
unfolding jump_of
jump_four bits i =
    four_if _ _ (direct_jump bits (operand_at i 0)) (indirect_jump bits i (operand_behind bits (operand_at i 0))) (direct_four bits (operand_at i 0))
    (indirect_four bits i (operand_behind bits (operand_at i 0)))

-- ---- lengths of forms

wrapped_twice : (bits : Bits) (x : ℕ) → modulo_width bits (modulo_width bits x) ≡ modulo_width bits x
wrapped_twice B16 x = omega arith
wrapped_twice B32 x = omega arith
wrapped_twice B64 x = omega arith

rises_short : (low : ℕ) (cs : List Choice) → lengths_rise_from low cs ≡ true → greatest_length cs ≤ 15
rises_short low [] h = omega arith
rises_short low (c ∷ cs) h =
    let a = and_parts (nat_le low c.len) (nat_le c.len 15 && lengths_rise_from c.len cs) h in
    let b = and_parts (nat_le c.len 15) (lengths_rise_from c.len cs) a.1 in
    omega (arith, leb-true c.len 15 b.0, rises_short c.len cs b.1)

slots_most : (n : ℕ) → slots_length n ≤ 7 + 8 * n
slots_most zero = omega arith
slots_most (suc n) = let e = slots_suc n in omega (arith, e)

relay_most : (len : Option ℕ) → with_relay len ≤ unwrap_or len 0 + 14
relay_most None = omega arith
relay_most (Some n) = omega arith

module _ (laws : LengthLawsBelow) where
  -- ---- well placed instructions

  -- what is spelled has a byte
  spelled_some : (bits : Bits) (ip : ℕ) (bytes : List ℕ) (i : Instr) → Spells table bits ip bytes i → 1 ≤ length bytes
  spelled_some bits ip bytes i h =
      let least = laws.spelled.spelled-least bits ip bytes i h.1.0 h.1.2.0 h.1.1 h.1.2.1 in
      let some = laws.below.targets.some_byte bits h.1.0 i in
      omega (arith, least, some)

  read_placed : (bits : Bits) (ip : ℕ) (code : List ℕ) (offset : ℕ) (p : Placed) → p.ip ≡ modulo_width bits (ip + offset)
      → IsReadAt bits ip offset (drop offset code) (reading_of_item p) → IsPlaced bits p
  unfolding IsReadAt
  read_placed bits ip code offset p at h =
      let bytes = take p.len (drop offset code) in
      let len : length bytes ≡ p.len = length-take-le p.len (drop offset code) h.0 in
      let some = spelled_some bits (modulo_width bits (ip + offset)) bytes p.instr h.1 in
      let few = h.1.0 in
      let there : modulo_width bits p.ip ≡ modulo_width bits (ip + offset) = ap (modulo_width bits) at ∙ wrapped_twice bits (ip + offset) in
      record {
        some = omega (arith, some, len);
        few = omega (arith, few, len);
        bytes = bytes;
        spelled = subst (λ (n : ℕ). Spells table bits n bytes p.instr) (sym there) h.1;
      }

  taken_placed : (bits : Bits) (ip : ℕ) (code : List ℕ) (offset : ℕ) (items : List Placed) → AreReadFrom bits ip code offset items → ArePlaced bits items
  taken_placed bits ip code offset [] reads k lt = absurd (omega (arith, lt))
  taken_placed bits ip code offset (p ∷ items) reads zero lt = read_placed bits ip code offset p reads.0.0 reads.0.1
  taken_placed bits ip code offset (p ∷ items) reads (suc k) lt = taken_placed bits ip code (offset + p.len) items reads.1 k (omega (arith, lt))

  -- each has a byte
  first_bytes : (bits : Bits) (items : List Placed) (n : ℕ) → ArePlaced bits items → n ≤ length items → n ≤ taken_bytes (take n items)
  first_bytes bits items zero placed le = omega arith
  first_bytes bits [] (suc n) placed le = absurd (omega (arith, le))
  first_bytes bits (p ∷ items) (suc n) placed le =
      let some = (placed 0 (omega arith)).some in
      let rest = first_bytes bits items n (λ k lt. placed (suc k) (omega (arith, lt))) (omega (arith, le)) in
      omega (arith, some, rest, sum_by-cons (λ (x : Placed). x.len) p (take n items))

  few_taken : (bits : Bits) (ip : ℕ) (code : List ℕ) (need : ℕ) (items : List Placed) → AreTaken bits ip code need items → length items ≤ need
  few_taken bits ip code need [] are = omega arith
  few_taken bits ip code need (p ∷ items) are =
      let before = are.fewest (length items) (omega arith) in
      let bytes = first_bytes bits (p ∷ items) (length items) (taken_placed bits ip code 0 (p ∷ items) are.read) (omega arith) in
      omega (arith, before, bytes)

  -- ---- a call at the end

  encoded_placed : (bits : Bits) (at : ℕ) (j : Instr) → length j.ops ≡ 4 → (r : Result (List ℕ) NoSpelling) → encoding bits at j ≡ r
      → (p : Placed) → item_if r (item_of bits at j) ≡ Some p → IsPlaced bits p
  encoded_placed bits at j four (Err why) e p is = absurd cc
  encoded_placed bits at j four (Ok bytes) e p is =
      let spells = laws.below.encodings.plain-spells bits (modulo_width bits at) bytes j (laws.below.encodings.encoded-plain bits at j bytes four e) in
      let len = laws.below.targets.encoding-length bits at j bytes e in
      let some = spelled_some bits (modulo_width bits at) bytes j spells in
      let few = spells.0 in
      let same : item_of bits at j ≡ p = cc in
      subst (λ (q : Placed). IsPlaced bits q) same (record { some = omega (arith, some, len); few = omega (arith, few, len); bytes = bytes; spelled = spells })

  jump_placed : (bits : Bits) (ip : ℕ) (jump : Option Instr) → HasFour jump → (p : Placed) → jump_item bits ip jump ≡ Some p → IsPlaced bits p
  unfolding encoded_item
  jump_placed bits ip None four p is = absurd cc
  jump_placed bits ip (Some j) four p is =
      encoded_placed bits (unwrap_or (first_value near_value j) ip) j (four j refl) (encoding bits (unwrap_or (first_value near_value j) ip) j) refl p is

  pushes_placed : (bits : Bits) (ip back : ℕ) → back < 2 ^ width bits → ArePlaced bits (map (item_of bits ip) (pushes bits back))
  pushes_placed B16 ip back below zero lt = laws.pushes.push-placed B16 ip back below
  pushes_placed B16 ip back below (suc k) lt = absurd (omega (arith, lt))
  pushes_placed B32 ip back below zero lt = laws.pushes.push-placed B32 ip back below
  pushes_placed B32 ip back below (suc k) lt = absurd (omega (arith, lt))
  pushes_placed B64 ip back below zero lt = laws.pushes.push-placed B64 ip back below
  pushes_placed B64 ip back below (suc zero) lt = laws.pushes.high-placed ip back below
  pushes_placed B64 ip back below (suc (suc k)) lt = absurd (omega (arith, lt))

  behind_placed : (bits : Bits) (ip back : ℕ) → back < 2 ^ width bits → (jump : Option Placed) → ((p : Placed) → jump ≡ Some p → IsPlaced bits p)
      → (pushed : List Placed) → with_jump_if bits ip back jump ≡ Some pushed → ArePlaced bits pushed
  behind_placed bits ip back below None each pushed is = absurd cc
  behind_placed bits ip back below (Some jump) each pushed is =
      let same : with_jump bits ip back jump ≡ pushed = cc in
      subst (λ (xs : List Placed). ArePlaced bits xs) same
      (each_more (IsPlaced bits) (map (item_of bits ip) (pushes bits back)) jump (pushes_placed bits ip back below) (each jump refl))

  pushed_placed : (bits : Bits) (item : Placed) (pushed : List Placed) → pushed_items bits item ≡ Some pushed → ArePlaced bits pushed
  unfolding pushed_items
  pushed_placed bits item pushed is =
      behind_placed bits item.ip (return_address bits item) (below_width bits (item.ip + item.len)) (jump_item bits item.ip (jump_of bits item.instr))
      (jump_placed bits item.ip (jump_of bits item.instr) (jump_four bits item.instr)) pushed is

  asked_placed : (asked : Bool) (bits : Bits) (item : Option Placed) (pushed : List Placed) → pushed_by asked bits item ≡ Some pushed → ArePlaced bits pushed
  asked_placed false bits item pushed is = absurd cc
  asked_placed true bits None pushed is = absurd cc
  asked_placed true bits (Some item) pushed is = pushed_placed bits item pushed is

  last_placed : (rule : MoveRule) (bits : Bits) (items pushed : List Placed) → pushed_last rule bits items ≡ Some pushed → ArePlaced bits pushed
  unfolding pushed_last
  last_placed rule bits items pushed is =
      asked_placed (rule.returns && is_none (first_end items)) bits (slice_get items (length items - 1)) pushed is

  -- ---- a block of few instructions

  item_most : (bits : Bits) (p : Placed) → IsPlaced bits p → greatest_length (choices_of bits p.instr) ≤ 15
  item_most bits p placed =
      rises_short 1 (choices_of bits p.instr) (laws.forms.spelled-fit bits (modulo_width bits p.ip) placed.bytes p.instr placed.spelled).2

  images_most : (bits : Bits) (items : List Placed) → ArePlaced bits items → images_length bits items ≤ 15 * length items
  images_most bits [] placed = omega arith
  images_most bits (p ∷ items) placed =
      let first = item_most bits p (placed 0 (omega arith)) in
      let rest = images_most bits items (λ k lt. placed (suc k) (omega (arith, lt))) in
      omega (arith, first, rest, sum_by-cons (λ (q : Placed). greatest_length (choices_of bits q.instr)) p items)

  block_most : (bits : Bits) (items : List Placed) → ArePlaced bits items → block_length bits items ≤ 23 * length items + 7
  unfolding block_length
  block_most bits items placed =
      let slots : slots_count bits items ≤ length items = count_by-le-length _ items in
      omega (arith, images_most bits items placed, slots_most (slots_count bits items), slots)

  -- what a jump of so many bytes takes has a block of at most so many
  taken_most : (bits : Bits) (ip : ℕ) (code : List ℕ) (need : ℕ) (rule : MoveRule) (items : List Placed) → AreTaken bits ip code need items
      → block_length bits (block_items rule bits ip items) ≤ 23 * (need + 3) + 7
  taken_most bits ip code need rule items are =
      let placed = block_placed laws.below rule bits ip items (last_placed rule bits items) (taken_placed bits ip code 0 items are.read) in
      let few = block_few rule bits ip items (count_within laws.below.firsts items) in
      omega (arith, few, few_taken bits ip code need items are, block_most bits (block_items rule bits ip items) placed)

  -- ---- a trampoline

  near_few : (bits : Bits) (at t : ℕ) (bytes : List ℕ) → IsNearJump bits at t bytes → length bytes ≤ 5
  unfolding near_jump_to
  near_few B16 at t bytes e =
      let l = laws.below.pieces.near_jump-length B16 B16 t in
      let n = laws.below.targets.encoding-length B16 at (branch_to (near_code Jump B16) None t) bytes e in omega (arith, l, n)
  near_few B32 at t bytes e =
      let l = laws.below.pieces.near_jump-length B32 B32 t in
      let n = laws.below.targets.encoding-length B32 at (branch_to (near_code Jump B32) None t) bytes e in omega (arith, l, n)
  near_few B64 at t bytes e =
      let l = laws.below.pieces.near_jump-length B64 B64 t in
      let n = laws.below.targets.encoding-length B64 at (branch_to (near_code Jump B64) None t) bytes e in omega (arith, l, n)

  most_by : (bits : Bits) (ip : ℕ) (code : List ℕ) (to place : ℕ) (rule : MoveRule) (form : JumpForm) (bytes : List ℕ) (relay : Option ℕ)
      → IsJumpOf bits ip code to place rule form bytes relay → (b : ℕ) → b ≤ 23 * (length bytes + 3) + 7 → b + length (relay_bytes relay to) ≤ 400
  most_by bits ip code to place rule Near bytes relay h b le =
      let none : length (relay_bytes relay to) ≡ 0 = ap (λ (r : Option ℕ). length (relay_bytes r to)) h.1 in
      omega (arith, le, none, near_few bits ip to bytes h.0)
  most_by bits ip code to place rule Relay bytes relay h b le =
      let long : length (relay_bytes relay to) ≡ 14 = ap (λ (r : Option ℕ). length (relay_bytes r to)) h.1.1.0 ∙ absolute_long to in
      omega (arith, le, long, near_few bits ip h.1.0 bytes h.1.1.1.1)
  most_by bits ip code to place rule Absolute bytes relay h b le =
      let none : length (relay_bytes relay to) ≡ 0 = ap (λ (r : Option ℕ). length (relay_bytes r to)) h.1.1.1 in
      let long : length bytes ≡ 14 = ap length h.1.1.0 ∙ absolute_long to in
      omega (arith, le, none, long)

  -- **no trampoline is longer**
  pub trampoline_short : (bits : Bits) (ip : ℕ) (code : List ℕ) (to place : ℕ) (rule : MoveRule) (d : DetourState) → IsDetour bits ip code to place rule d
      → length d.trampoline ≤ 400
  trampoline_short bits ip code to place rule d made =
      let block = trampoline_within laws.below bits ip made.items place rule made.moved made.block in
      let most = taken_most bits ip code (length made.jump.bytes) rule made.items made.are_taken in
      let all = most_by bits ip code to place rule made.jump.form made.jump.bytes made.jump.relay made.first (length made.moved.bytes) (omega (arith, block, most)) in
      let bytes = ap length made.trampoline in
      omega (arith, all, bytes, length-append made.moved.bytes (relay_bytes made.jump.relay to))

  -- ---- a length

  answer_most : (bits : Bits) (ip : ℕ) (code : List ℕ) (need : ℕ) (rule : MoveRule) (taken : Result (List Placed) DetourError)
      → IsTakenAnswer bits ip code need taken → (len : Option ℕ) → IsLengthOf rule bits ip taken len → unwrap_or len 0 ≤ 23 * (need + 3) + 7
  answer_most bits ip code need rule (Ok items) h len is =
      let value = ap (λ (o : Option ℕ). unwrap_or o 0) is in
      omega (arith, value, taken_most bits ip code need rule items h.0)
  answer_most bits ip code need rule (Err Memory) h len is = absurd is
  answer_most bits ip code need rule (Err why) h len is = let value = ap (λ (o : Option ℕ). unwrap_or o 0) is in omega (arith, value)

  length_most : (bits : Bits) (ip : ℕ) (code : List ℕ) (need : ℕ) (rule : MoveRule) (len : Option ℕ) → IsTakenLength bits ip code need rule len
      → unwrap_or len 0 ≤ 23 * (need + 3) + 7
  length_most bits ip code need rule len is = answer_most bits ip code need rule is.0 is.1.0 len is.1.1

  -- **no length is more**
  pub length_short : (bits : Bits) (ip : ℕ) (code : List ℕ) (to : ℕ) (rule : MoveRule) (n : ℕ) → IsDetourLength bits ip code to rule n → n ≤ 400
  length_short bits ip code to rule n (inl near) =
      let value = near.value in
      omega (arith, value, near_few bits ip to near.bytes near.jump, length_most bits ip code (length near.bytes) rule near.len near.is_len)
  length_short bits ip code to rule n (inr far) =
      let value = far.value in
      omega (arith, value, relay_most far.near, length_most bits ip code 5 rule far.near far.is_near, length_most bits ip code 14 rule far.far far.is_far)

  -- nor is what a call answers
  pub answer_short : {E : Type 0} (bits : Bits) (ip : ℕ) (code : List ℕ) (to : ℕ) (rules : HookRules) (r : Result ℕ E)
      → IfOk r (λ n. IsLengthFor bits ip code to rules n) → IfOk r (λ n. n ≤ 400)
  answer_short bits ip code to rules (Ok n) is = length_short bits ip code (modulo_width bits to) (move_rule rules) n is
  answer_short bits ip code to rules (Err lost) is = tt
