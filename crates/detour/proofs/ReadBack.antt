-- A patch is read as its jump, and a trampoline as the images of its instructions.
use Rattle.std.proofs.Common.{◌≡◌, ℕ, ◌+◌, ◌<◌, List, ◌++◌, length, replicate, ◌-◌, Option, Some, None, refl, subst, sym, arith}
use Rattle.std.specs.Prelude.{IfSome}
use Rattle.std.proofs.Math.Seq.{drop-append_seam}
use Rattle.std.proofs.lemmas.Bool.{lt-ltb}
use Rattle.x86_values.specs.declared.Bits.{Bits}
use Rattle.x86_values.specs.Wrapping.{modulo_width}
use Rattle.opcode_rows.specs.Reading.{IsRead}
use Rattle.branch_sizes.specs.Layout.{block_number}
use Rattle.move_goals.specs.declared.items.Placed.{Placed}
use Rattle.move_goals.specs.Items.{ArePlaced, one_span}
use Rattle.block_encoder.specs.Aims.{StandsAtPlace, GoesToGoal}
use Rattle.block_encoder.specs.Moved.{MovedLists}
use Rattle.detour.specs.LawsBelow.{DetourLawsBelow}
use Rattle.detour.specs.declared.parts.JumpForm.{JumpForm}
use Rattle.detour.specs.declared.parts.JumpForm.TheVariants.{Near, Relay, Absolute}
use Rattle.detour.specs.declared.start.MoveRule.{MoveRule}
use Rattle.detour.specs.Jumps.{near_jump_to, IsNearJump, absolute_jump}
use Rattle.detour.specs.Taken.{AreTaken, moved_count}
use Rattle.detour.specs.Trampoline.{IsTrampoline, block_items, follow_count, trampoline_goal_at, plan_at, trampoline_plan}
use Rattle.detour.specs.ReadBack.{jump_reading, IsAbsoluteRead, IsRelayRead, IsPatchRead, IsTrampolineRead}
use Rattle.detour.specs.Detours.{IsJumpOf, patch_of, relay_bytes}
use Rattle.detour.proofs.Jumping.{jump-four, near-five}
use Rattle.detour.proofs.Through.{absolute_read, absolute_alone}
use Rattle.detour.proofs.OnePlace.{relay_place}

in_first : (items : List Placed) (place k : ℕ) → k < length items → block_number (one_span items place) k ≡ 0
in_first items place k lt = rw (lt-ltb k (length items) lt) refl

module _ (laws : DetourLawsBelow) where
  -- a near jump is read, whatever stands behind it
  pub near_read : (bits : Bits) (at target : ℕ) (bytes rest : List ℕ) → IsNearJump bits at target bytes → IsRead bits at (bytes ++ rest) (jump_reading bits target bytes)
  near_read bits at target bytes rest e =
      laws.encodings.plain-reads bits (modulo_width bits at) bytes rest (near_jump_to bits target)
      (laws.encodings.encoded-plain bits at (near_jump_to bits target) bytes (jump-four bits target) e)

  -- **the patch is read as the near jump**
  pub patch_read : (bits : Bits) (ip : ℕ) (code : List ℕ) (to place : ℕ) (rule : MoveRule) (form : JumpForm) (bytes : List ℕ) (relay : Option ℕ)
      → IsJumpOf bits ip code to place rule form bytes relay → (taken : ℕ) → IsPatchRead bits ip to form bytes relay (patch_of bytes taken)
  unfolding patch_of
  patch_read bits ip code to place rule Near bytes relay h taken = near_read bits ip to bytes (replicate (taken - length bytes) 0xCC) h.0
  patch_read bits ip code to place rule Relay bytes relay h taken =
      subst (λ (r : Option ℕ). IfSome r (λ address. IsRead bits ip (bytes ++ replicate (taken - length bytes) 0xCC) (jump_reading bits address bytes))) (sym h.1.1.0)
      (near_read bits ip h.1.0 bytes (replicate (taken - length bytes) 0xCC) h.1.1.1.1)
  patch_read bits ip code to place rule Absolute bytes relay h taken = (
    h.0.0,
    subst (λ (bs : List ℕ). IsAbsoluteRead ip to (bs ++ replicate (taken - length bs) 0xCC)) (sym h.1.1.0)
        (absolute_read laws ip to (replicate (taken - length (absolute_jump to)) 0xCC)),
  )

  -- where there is no relay, none is read
  pub no_relay : (to place : ℕ) (block : List ℕ) (relay : Option ℕ) → relay ≡ None → IsRelayRead to place (length block) relay (block ++ relay_bytes relay to)
  no_relay to place block relay none =
      subst (λ (r : Option ℕ). IsRelayRead to place (length block) r (block ++ relay_bytes r to)) (sym none) tt

  -- a relay behind the block is read as the jump to the replacement
  pub relay_there : (to place : ℕ) (block : List ℕ) (relay : Option ℕ) (address : ℕ) → relay ≡ Some address → address ≡ place + length block
      → IsRelayRead to place (length block) relay (block ++ relay_bytes relay to)
  relay_there to place block relay address some there =
      subst (λ (r : Option ℕ). IsRelayRead to place (length block) r (block ++ relay_bytes r to)) (sym some) (
        there,
        subst (λ (bs : List ℕ). IsAbsoluteRead address to bs) (sym (drop-append_seam block (absolute_jump to))) (absolute_alone laws address to),
      )

  -- **the relay is behind the block, and is read as the jump to the replacement**
  pub relay_read : (bits : Bits) (ip : ℕ) (code : List ℕ) (to place : ℕ) (rule : MoveRule) (form : JumpForm) (bytes : List ℕ) (relay : Option ℕ)
      → IsJumpOf bits ip code to place rule form bytes relay → (items : List Placed) → AreTaken bits ip code (length bytes) items → (m : MovedLists)
      → IsTrampoline bits ip items place rule m → IsRelayRead to place (length m.bytes) relay (m.bytes ++ relay_bytes relay to)
  relay_read bits ip code to place rule Near bytes relay h items are m block = no_relay to place m.bytes relay h.1
  relay_read bits ip code to place rule Relay bytes relay h items are m block =
      let five : length bytes ≡ 5 = near-five laws ip h.1.0 bytes (subst (λ (b : Bits). IsNearJump b ip h.1.0 bytes) h.0.0 h.1.1.1.1) in
      let tried = h.1.1.1.0 in
      relay_there to place m.bytes relay h.1.0 h.1.1.0
      (relay_place laws bits ip code place rule items m block (subst (λ (n : ℕ). AreTaken bits ip code n items) five are) tried.0 tried.1.0 h.1.0 tried.1.1)
  relay_read bits ip code to place rule Absolute bytes relay h items are m block = no_relay to place m.bytes relay h.1.1.1

  -- **the trampoline is read as the images of its instructions, each at its place, going to its goal**
  pub trampoline_read : (bits : Bits) (ip : ℕ) (items : List Placed) (place : ℕ) (rule : MoveRule) → ArePlaced bits (block_items rule bits ip items)
      → (m : MovedLists) (moved : IsTrampoline bits ip items place rule m) → IsTrampolineRead bits ip items place rule moved.layout
  unfolding plan_at
  trampoline_read bits ip items place rule well m moved =
      let bs = block_items rule bits ip items in
      let goals = trampoline_goal_at rule bs (moved_count items) (follow_count rule bits ip items) in
      let spans = one_span bs place in
      let of = laws.plans.one_span-of bs place in
      record {
        images = laws.moved.read bits bs spans goals of well m moved 0 (omega arith);
        places = λ k lt. subst (λ (b : ℕ). StandsAtPlace bits bs (trampoline_plan bits ip items place rule) moved.layout b k) (in_first bs place k lt)
            (laws.moved.places bits bs spans goals of m moved k lt);
        goals = λ k lt. subst (λ (b : ℕ). GoesToGoal bits bs (trampoline_plan bits ip items place rule) moved.layout b k) (in_first bs place k lt) (record {
          stays = λ none. laws.moved.stays bits bs spans goals well moved.layout k lt none;
          address = λ none. laws.moved.address bits bs spans goals well moved.layout k lt none;
          near = λ t some near. laws.moved.near bits bs spans goals well moved.layout moved.least.closed.is_layout k t lt some near;
          far = λ t some far. laws.moved.far bits bs spans goals well moved.layout k t lt some far;
          slot = λ far. laws.moved.slots bits bs spans goals of m moved k lt far;
          over = λ n more. laws.moved.over bits bs spans goals moved.layout k n more;
        });
      }
