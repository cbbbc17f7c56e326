-- What the parts of the making of a detour give together where some instructions have no row.
use Rattle.std.proofs.Common.{◌≡◌, ℕ, ◌-◌, inl, inr, List, ◌++◌, length, replicate, Option, None, Result, Ok, Err, refl, ap, sym, subst, ◌∙◌}
use Rattle.std.specs.Prelude.{IfOk, IfSome}
use Rattle.x86_values.specs.declared.Bits.{Bits}
use Rattle.x86_values.specs.declared.Bits.TheVariants.{B64}
use Rattle.opcode_rows.specs.Reading.{IsRead}
use Rattle.move_goals.specs.declared.items.Placed.{Placed}
use Rattle.block_encoder.specs.declared.error.PlanError.{PlanError}
use Rattle.block_encoder.specs.declared.error.PlanError.TheVariants as plan_error
use Rattle.block_encoder.specs.Moved.{MovedLists}
use Rattle.code_items.specs.declared.any_items.AnyItem.{AnyItem}
use Rattle.code_items.specs.AnyPlan.{goal_in}
use Rattle.code_items.specs.AnyMoved.{IsAnyPlanAnswer}
use Rattle.detour.specs.AnyLawsBelow.{DetourAnyLaws}
use Rattle.detour.specs.declared.error.DetourError.{DetourError}
use Rattle.detour.specs.declared.error.DetourError.TheVariants.{Memory, BadCode, TooSmall, Ends, Entered, Wraps, TooFar}
use Rattle.detour.specs.declared.any_taken.AnyTaken.{AnyTaken}
use Rattle.detour.specs.declared.making.Jump.{Jump}
use Rattle.detour.specs.declared.parts.JumpForm.{JumpForm}
use Rattle.detour.specs.declared.parts.JumpForm.TheVariants.{Near, Relay, Absolute}
use Rattle.detour.specs.declared.start.MoveRule.{MoveRule}
use Rattle.detour.specs.Taken.{taken_bytes, first_code_behind}
use Rattle.detour.specs.Jumps.{IsNearJump, IsOutOfReach, absolute_jump}
use Rattle.detour.specs.Entries.{IsNotEntered}
use Rattle.detour.specs.Starts.{starts_of, places_of}
use Rattle.detour.specs.Calls.{call_in}
use Rattle.detour.specs.Trampoline.{goes_back}
use Rattle.detour.specs.ReadBack.{jump_reading, IsAbsoluteRead, IsPatchRead, IsRelayRead}
use Rattle.detour.specs.Detours.{JumpParts, DetourState, patch_of, relay_bytes, parts_of}
use Rattle.detour.specs.Made.{detour_error_of, IsFarJumpOf}
use Rattle.detour.specs.AnyTaken.{outline, AreAnyTaken}
use Rattle.detour.specs.AnyReading.{IsAnyTakenFit}
use Rattle.detour.specs.AnyTrampoline.{any_block_items, goals_of_taken, any_trampoline_plan, IsAnyTrampoline}
use Rattle.detour.specs.AnyDetours.{IsAnyTakenAnswer, IsAnyRelay, IsAnyRelayBehind, IsAnyJumpOf, any_code, IsAnyAnswerTo}
use Rattle.detour.specs.AnyMade.{IsAnyDetourLaid}
use Rattle.detour.proofs.Jumping.{near-five}
use Rattle.detour.proofs.ReadBack.{near_read, no_relay, relay_there}
use Rattle.detour.proofs.Through.{absolute_read}
use Rattle.detour.proofs.AnyOnePlace.{any_relay_place}

-- ---- the relay

module _ (bits : Bits) (ip : ℕ) (code : List ℕ) (place : ℕ) (rule : MoveRule) where
  -- there is none where nothing is taken
  untaken : (why : DetourError) → IsAnyTakenAnswer bits ip code 5 (Err why) → (why ≡ Memory → ⊥) → IsAnyRelay bits ip code place rule None
  untaken Memory h other = absurd (other refl)
  untaken (BadCode at error) h other = (Err (BadCode at error), (h, refl))
  untaken (TooSmall len need) h other = (Err (TooSmall len need), (h, refl))
  untaken (Ends at) h other = (Err (Ends at), (h, refl))
  untaken (Entered from target) h other = absurd h
  untaken (Wraps end) h other = absurd h
  untaken (TooFar at target) h other = absurd h

  -- there is no relay if nothing can be taken, for another cause than memory
  pub any_relay_untaken : (why : DetourError) → IsAnyTakenAnswer bits ip code 5 (Err why) → (r : Result (Option ℕ) DetourError)
      → IfOk r (λ relay. (relay ≡ None) × (why ≡ Memory → ⊥)) → IfOk r (λ relay. IsAnyRelay bits ip code place rule relay)
  any_relay_untaken why h (Ok relay) none = subst (λ (x : Option ℕ). IsAnyRelay bits ip code place rule x) (sym none.0) (untaken why h none.1)
  any_relay_untaken why h (Err lost) none = tt

  module _ (items : List AnyItem) where
    -- nor where what is taken is not moved
    unmoved : (why : PlanError)
        → IsAnyPlanAnswer bits (any_block_items rule bits ip items) (any_trampoline_plan bits ip items place rule) (Err why)
        → (why ≡ plan_error.Memory → ⊥) → IsAnyRelayBehind bits ip place rule (Ok items) None
    unmoved plan_error.Memory h other = absurd (other refl)
    unmoved (plan_error.Wraps end) h other = (Err (plan_error.Wraps end), (h, refl))
    unmoved (plan_error.TooFar at target) h other = (Err (plan_error.TooFar at target), (h, refl))

    -- nor if what is taken cannot be moved, for another cause than memory
    pub any_relay_unmoved : (why : PlanError)
        → IsAnyPlanAnswer bits (any_block_items rule bits ip items) (any_trampoline_plan bits ip items place rule) (Err why)
        → (r : Result (Option ℕ) DetourError) → IfOk r (λ relay. (relay ≡ None) × (why ≡ plan_error.Memory → ⊥))
        → IfOk r (λ relay. IsAnyRelayBehind bits ip place rule (Ok items) relay)
    any_relay_unmoved why h (Ok relay) none =
        subst (λ (x : Option ℕ). IsAnyRelayBehind bits ip place rule (Ok items) x) (sym none.0) (unmoved why h none.1)
    any_relay_unmoved why h (Err lost) none = tt

    -- else it is that of what is taken
    pub any_relay_taken : IsAnyTakenAnswer bits ip code 5 (Ok items) → (r : Result (Option ℕ) DetourError)
        → IfOk r (λ relay. IsAnyRelayBehind bits ip place rule (Ok items) relay) → IfOk r (λ relay. IsAnyRelay bits ip code place rule relay)
    any_relay_taken are (Ok relay) h = (Ok items, (are, h))
    any_relay_taken are (Err lost) h = tt

-- ---- the jump

-- a far jump is the first that reaches, where the near one does not
pub any_far_first : (bits : Bits) (ip : ℕ) (code : List ℕ) (to place : ℕ) (rule : MoveRule) → bits ≡ B64 → IsOutOfReach bits ip to
    → (relay : Option ℕ) → IsAnyRelay bits ip code place rule relay → (form : JumpForm) (bytes : List ℕ) (by : Option ℕ) → IsFarJumpOf bits ip to relay form bytes by
    → IsAnyJumpOf bits ip code to place rule form bytes by
any_far_first bits ip code to place rule long far relay tried Near bytes by h = absurd h
any_far_first bits ip code to place rule long far relay tried Relay bytes by h =
    ((long, far), (h.0, (h.1.1.0, (subst (λ (r : Option ℕ). IsAnyRelay bits ip code place rule r) h.1.0 tried, h.1.1.1))))
any_far_first bits ip code to place rule long far relay tried Absolute bytes by h = ((long, far), ((relay, (tried, h.0)), h.1))

-- ---- what is read

module _ (laws : DetourAnyLaws) (bits : Bits) (ip : ℕ) (code : List ℕ) (to place : ℕ) (rule : MoveRule) where
  patch-read : (form : JumpForm) (bytes : List ℕ) (relay : Option ℕ) → IsAnyJumpOf bits ip code to place rule form bytes relay → (taken : ℕ)
      → IsPatchRead bits ip to form bytes relay (patch_of bytes taken)
  unfolding patch_of
  patch-read Near bytes relay h taken = near_read laws.below bits ip to bytes (replicate (taken - length bytes) 0xCC) h.0
  patch-read Relay bytes relay h taken =
      subst (λ (r : Option ℕ). IfSome r (λ address. IsRead bits ip (bytes ++ replicate (taken - length bytes) 0xCC) (jump_reading bits address bytes))) (sym h.1.1.0)
      (near_read laws.below bits ip h.1.0 bytes (replicate (taken - length bytes) 0xCC) h.1.1.1.1)
  patch-read Absolute bytes relay h taken = (
    h.0.0,
    subst (λ (bs : List ℕ). IsAbsoluteRead ip to (bs ++ replicate (taken - length bs) 0xCC)) (sym h.1.1.0)
        (absolute_read laws.below ip to (replicate (taken - length (absolute_jump to)) 0xCC)),
  )

  relay-read : (form : JumpForm) (bytes : List ℕ) (relay : Option ℕ) → IsAnyJumpOf bits ip code to place rule form bytes relay
      → (items : List AnyItem) → AreAnyTaken bits ip code (length bytes) items → (m : MovedLists) → IsAnyTrampoline bits ip items place rule m
      → IsRelayRead to place (length m.bytes) relay (m.bytes ++ relay_bytes relay to)
  relay-read Near bytes relay h items are m block = no_relay laws.below to place m.bytes relay h.1
  relay-read Relay bytes relay h items are m block =
      let five : length bytes ≡ 5 = near-five laws.below ip h.1.0 bytes (subst (λ (b : Bits). IsNearJump b ip h.1.0 bytes) h.0.0 h.1.1.1.1) in
      let tried = h.1.1.1.0 in
      relay_there laws.below to place m.bytes relay h.1.0 h.1.1.0
      (any_relay_place laws bits ip code place rule items m block (subst (λ (n : ℕ). AreAnyTaken bits ip code n items) five are) tried.0 tried.1.0 h.1.0 tried.1.1)
  relay-read Absolute bytes relay h items are m block = no_relay laws.below to place m.bytes relay h.1.1.1

-- ---- the answer

abbrev parts_of_jump : Jump → JumpParts
parts_of_jump jump = record { form = jump.form; bytes = jump.bytes.items; relay = jump.relay }

module _ (laws : DetourAnyLaws) (bits : Bits) (ip : ℕ) (code : List ℕ) (to place : ℕ) (rule : MoveRule) (jump : Jump)
    (first : IsAnyJumpOf bits ip code to place rule jump.form jump.bytes.items jump.relay) where
  -- nothing is taken
  pub any_refused_untaken : (why : DetourError) → IsAnyTakenAnswer bits ip code (length jump.bytes.items) (Err why) → IsAnyAnswerTo bits ip code to place rule (Err why)
  any_refused_untaken Memory h = tt
  any_refused_untaken (BadCode at error) h = (parts_of_jump jump, (first, h))
  any_refused_untaken (TooSmall len need) h = (parts_of_jump jump, (first, h))
  any_refused_untaken (Ends at) h = (parts_of_jump jump, (first, h))
  any_refused_untaken (Entered from target) h = absurd h
  any_refused_untaken (Wraps end) h = absurd h
  any_refused_untaken (TooFar at target) h = absurd h

  module _ (t : AnyTaken) (are : AreAnyTaken bits ip code (length jump.bytes.items) t.items.items) (fit : IsAnyTakenFit bits t)
      (whole : first_code_behind (outline bits t.items.items) ≡ None) (closed : IsNotEntered (any_code bits ip code) (outline bits t.items.items)) where
    -- it is not moved
    unmoved_refused : (why : PlanError)
        → IsAnyPlanAnswer bits (any_block_items rule bits ip t.items.items) (any_trampoline_plan bits ip t.items.items place rule) (Err why)
        → IsAnyAnswerTo bits ip code to place rule (Err (detour_error_of why))
    unmoved_refused plan_error.Memory h = tt
    unmoved_refused (plan_error.Wraps end) h =
        record { jump = parts_of_jump jump; first = first; items = t.items.items; are_taken = are; whole = whole; closed = closed; refused = h }
    unmoved_refused (plan_error.TooFar at target) h =
        record { jump = parts_of_jump jump; first = first; items = t.items.items; are_taken = are; whole = whole; closed = closed; refused = h }

    -- **what is laid of it is the answer**
    pub any_laid_answer : (r : Result DetourState DetourError) → IsAnyDetourLaid bits ip to place rule jump t r → IsAnyAnswerTo bits ip code to place rule r
    any_laid_answer (Ok d) h =
        let lines = fit.lines in
        let len = fit.fit.len ∙ ap taken_bytes lines in
        let items = t.items.items in
        let patch : d.patch ≡ patch_of jump.bytes.items (taken_bytes (outline bits items)) = subst (λ (n : ℕ). d.patch ≡ patch_of jump.bytes.items n) len h.1.1.patch in
        record {
          jump = parts_of_jump jump;
          first = first;
          items = items;
          are_taken = are;
          whole = whole;
          closed = closed;
          moved = h.0;
          block = h.1.0.0;
          form = h.1.1.form;
          taken = h.1.1.taken ∙ len;
          patch = patch;
          trampoline = h.1.1.trampoline;
          parts = subst (λ (ps : List Placed). d.parts ≡ parts_of (goes_back rule bits ps) place h.0 jump.relay) lines h.1.1.parts;
          starts = subst (λ (ps : List Placed). d.starts ≡ starts_of ps) lines h.1.1.starts;
          places = subst (λ (ps : List Placed). d.places ≡ places_of ps place h.0) lines h.1.1.places;
          call = subst (λ (ps : List Placed). d.call ≡ call_in rule bits ps) lines h.1.1.call;
          patch_read = subst (λ (bs : List ℕ). IsPatchRead bits ip to jump.form jump.bytes.items jump.relay bs) (sym patch)
              (patch-read laws bits ip code to place rule jump.form jump.bytes.items jump.relay first (taken_bytes (outline bits items)));
          stand = λ k lt. laws.stand bits (any_block_items rule bits ip items) (goal_in (goals_of_taken rule bits ip items)) place h.0 h.1.0.1 h.1.0.0 k lt;
          relay_read = subst (λ (bs : List ℕ). IsRelayRead to place (length h.0.bytes) jump.relay bs) (sym h.1.1.trampoline)
              (relay-read laws bits ip code to place rule jump.form jump.bytes.items jump.relay first items are h.0 h.1.0.0);
        }
    any_laid_answer (Err why) h =
        elim h [
          | inl lost ↦ subst (λ (w : DetourError). IsAnyAnswerTo bits ip code to place rule (Err w)) (sym lost) tt
          | inr cause ↦ subst (λ (w : DetourError). IsAnyAnswerTo bits ip code to place rule (Err w)) (sym cause.1.0) (unmoved_refused cause.0 cause.1.1)
        ]
