-- What the parts of the making of a detour give together.
use Rattle.std.proofs.Common.{◌≡◌, ℕ, inl, inr, List, length, Option, None, Result, Ok, Err, refl, sym, subst, ◌∙◌}
use Rattle.std.specs.Prelude.{IfOk}
use Rattle.x86_values.specs.declared.Bits.{Bits}
use Rattle.x86_values.specs.declared.Bits.TheVariants.{B64}
use Rattle.flow_graph.specs.Control.{code_bytes}
use Rattle.move_goals.specs.declared.items.Placed.{Placed}
use Rattle.block_encoder.specs.declared.error.MoveError.TheVariants as move_error
use Rattle.block_encoder.specs.declared.error.PlanError.{PlanError}
use Rattle.block_encoder.specs.declared.error.PlanError.TheVariants as plan_error
use Rattle.block_encoder.specs.ByPlan.{IsPlanAnswer}
use Rattle.block_encoder.specs.Planned.{move_error_of}
use Rattle.detour.specs.declared.error.DetourError.{DetourError}
use Rattle.detour.specs.declared.error.DetourError.TheVariants.{Memory, BadCode, TooSmall, Ends, Entered, Wraps, TooFar}
use Rattle.detour.specs.declared.making.Jump.{Jump}
use Rattle.detour.specs.declared.parts.JumpForm.{JumpForm}
use Rattle.detour.specs.declared.parts.JumpForm.TheVariants.{Near, Relay, Absolute}
use Rattle.detour.specs.declared.start.MoveRule.{MoveRule}
use Rattle.detour.specs.declared.taken.Taken.{Taken}
use Rattle.detour.specs.Taken.{AreTaken, taken_bytes, first_code_behind}
use Rattle.detour.specs.Jumps.{IsOutOfReach}
use Rattle.detour.specs.Entries.{IsNotEntered}
use Rattle.detour.specs.LawsBelow.{DetourLawsBelow}
use Rattle.detour.specs.ReadBack.{IsPatchRead, IsRelayRead}
use Rattle.detour.proofs.ReadBack.{patch_read, relay_read, trampoline_read}
use Rattle.detour.specs.Trampoline.{block_items, trampoline_plan}
use Rattle.detour.specs.Detours.{IsTakenAnswer, IsRelay, IsRelayBehind, JumpParts, DetourState, IsJumpOf, IsAnswerTo, patch_of}
use Rattle.detour.specs.Made.{detour_error_of, IsFarJumpOf, IsDetourLaid}

-- ---- the relay

module _ (bits : Bits) (ip : ℕ) (code : List ℕ) (place : ℕ) (rule : MoveRule) where
  -- there is none where nothing is taken
  untaken : (why : DetourError) → IsTakenAnswer bits ip code 5 (Err why) → (why ≡ Memory → ⊥) → IsRelay bits ip code place rule None
  untaken Memory h other = absurd (other refl)
  untaken (BadCode at error) h other = (Err (BadCode at error), (h, refl))
  untaken (TooSmall len need) h other = (Err (TooSmall len need), (h, refl))
  untaken (Ends at) h other = (Err (Ends at), (h, refl))
  untaken (Entered from target) h other = absurd h
  untaken (Wraps end) h other = absurd h
  untaken (TooFar at target) h other = absurd h

  -- there is no relay if nothing can be taken, for another cause than memory
  pub relay_untaken : (why : DetourError) → IsTakenAnswer bits ip code 5 (Err why) → (r : Result (Option ℕ) DetourError)
      → IfOk r (λ relay. (relay ≡ None) × (why ≡ Memory → ⊥)) → IfOk r (λ relay. IsRelay bits ip code place rule relay)
  relay_untaken why h (Ok relay) none = subst (λ (x : Option ℕ). IsRelay bits ip code place rule x) (sym none.0) (untaken why h none.1)
  relay_untaken why h (Err lost) none = tt

  module _ (items : List Placed) where
    -- nor where what is taken is not moved
    unmoved : (why : PlanError)
        → IsPlanAnswer bits (block_items rule bits ip items) (trampoline_plan bits ip items place rule) (Err (move_error_of why))
        → (why ≡ plan_error.Memory → ⊥) → IsRelayBehind bits ip place rule (Ok items) None
    unmoved plan_error.Memory h other = absurd (other refl)
    unmoved (plan_error.Wraps end) h other = (Err (move_error.Wraps end), (h, refl))
    unmoved (plan_error.TooFar at target) h other = (Err (move_error.TooFar at target), (h, refl))

    -- nor if what is taken cannot be moved, for another cause than memory
    pub relay_unmoved : (why : PlanError)
        → IsPlanAnswer bits (block_items rule bits ip items) (trampoline_plan bits ip items place rule) (Err (move_error_of why))
        → (r : Result (Option ℕ) DetourError) → IfOk r (λ relay. (relay ≡ None) × (why ≡ plan_error.Memory → ⊥))
        → IfOk r (λ relay. IsRelayBehind bits ip place rule (Ok items) relay)
    relay_unmoved why h (Ok relay) none = subst (λ (x : Option ℕ). IsRelayBehind bits ip place rule (Ok items) x) (sym none.0) (unmoved why h none.1)
    relay_unmoved why h (Err lost) none = tt

    -- else it is that of what is taken
    pub relay_taken : IsTakenAnswer bits ip code 5 (Ok items) → (r : Result (Option ℕ) DetourError)
        → IfOk r (λ relay. IsRelayBehind bits ip place rule (Ok items) relay) → IfOk r (λ relay. IsRelay bits ip code place rule relay)
    relay_taken are (Ok relay) h = (Ok items, (are, h))
    relay_taken are (Err lost) h = tt

-- ---- the jump

-- a far jump is the first that reaches, where the near one does not
pub far_first : (bits : Bits) (ip : ℕ) (code : List ℕ) (to place : ℕ) (rule : MoveRule) → bits ≡ B64 → IsOutOfReach bits ip to
    → (relay : Option ℕ) → IsRelay bits ip code place rule relay → (form : JumpForm) (bytes : List ℕ) (by : Option ℕ) → IsFarJumpOf bits ip to relay form bytes by
    → IsJumpOf bits ip code to place rule form bytes by
far_first bits ip code to place rule long far relay tried Near bytes by h = absurd h
far_first bits ip code to place rule long far relay tried Relay bytes by h =
    ((long, far), (h.0, (h.1.1.0, (subst (λ (r : Option ℕ). IsRelay bits ip code place rule r) h.1.0 tried, h.1.1.1))))
far_first bits ip code to place rule long far relay tried Absolute bytes by h = ((long, far), ((relay, (tried, h.0)), h.1))

-- ---- the answer

abbrev parts_of_jump : Jump → JumpParts
parts_of_jump jump = record { form = jump.form; bytes = jump.bytes.items; relay = jump.relay }

module _ (laws : DetourLawsBelow) (bits : Bits) (ip : ℕ) (code : List ℕ) (to place : ℕ) (rule : MoveRule) (jump : Jump)
    (first : IsJumpOf bits ip code to place rule jump.form jump.bytes.items jump.relay) where
  -- nothing is taken
  pub refused_untaken : (why : DetourError) → IsTakenAnswer bits ip code (length jump.bytes.items) (Err why) → IsAnswerTo bits ip code to place rule (Err why)
  refused_untaken Memory h = tt
  refused_untaken (BadCode at error) h = (parts_of_jump jump, (first, h))
  refused_untaken (TooSmall len need) h = (parts_of_jump jump, (first, h))
  refused_untaken (Ends at) h = (parts_of_jump jump, (first, h))
  refused_untaken (Entered from target) h = absurd h
  refused_untaken (Wraps end) h = absurd h
  refused_untaken (TooFar at target) h = absurd h

  module _ (t : Taken) (are : AreTaken bits ip code (length jump.bytes.items) t.items.items) (whole : first_code_behind t.items.items ≡ None)
      (len : t.len ≡ taken_bytes t.items.items) (closed : IsNotEntered (code_bytes bits ip code) t.items.items) where
    -- it is not moved
    unmoved_refused : (why : PlanError)
        → IsPlanAnswer bits (block_items rule bits ip t.items.items) (trampoline_plan bits ip t.items.items place rule) (Err (move_error_of why))
        → IsAnswerTo bits ip code to place rule (Err (detour_error_of why))
    unmoved_refused plan_error.Memory h = tt
    unmoved_refused (plan_error.Wraps end) h =
        record { jump = parts_of_jump jump; first = first; items = t.items.items; are_taken = are; whole = whole; closed = closed; refused = h }
    unmoved_refused (plan_error.TooFar at target) h =
        record { jump = parts_of_jump jump; first = first; items = t.items.items; are_taken = are; whole = whole; closed = closed; refused = h }

    -- **what is laid of it is the answer**
    pub laid_answer : (r : Result DetourState DetourError) → IsDetourLaid bits ip to place rule jump t r → IsAnswerTo bits ip code to place rule r
    laid_answer (Ok d) h =
        let patch : d.patch ≡ patch_of jump.bytes.items (taken_bytes t.items.items) = subst (λ (n : ℕ). d.patch ≡ patch_of jump.bytes.items n) len h.1.1.patch in
        record {
          jump = parts_of_jump jump;
          first = first;
          items = t.items.items;
          are_taken = are;
          whole = whole;
          closed = closed;
          moved = h.0;
          block = h.1.0.0;
          form = h.1.1.form;
          taken = h.1.1.taken ∙ len;
          patch = patch;
          trampoline = h.1.1.trampoline;
          parts = h.1.1.parts;
          starts = h.1.1.starts;
          places = h.1.1.places;
          call = h.1.1.call;
          patch_read = subst (λ (bs : List ℕ). IsPatchRead bits ip to jump.form jump.bytes.items jump.relay bs) (sym patch)
              (patch_read laws bits ip code to place rule jump.form jump.bytes.items jump.relay first (taken_bytes t.items.items));
          trampoline_read = trampoline_read laws bits ip t.items.items place rule h.1.0.1 h.0 h.1.0.0;
          relay_read = subst (λ (bs : List ℕ). IsRelayRead to place (length h.0.bytes) jump.relay bs) (sym h.1.1.trampoline)
              (relay_read laws bits ip code to place rule jump.form jump.bytes.items jump.relay first t.items.items are h.0 h.1.0.0);
        }
    laid_answer (Err why) h =
        elim h [
          | inl lost ↦ subst (λ (w : DetourError). IsAnswerTo bits ip code to place rule (Err w)) (sym lost) tt
          | inr cause ↦ subst (λ (w : DetourError). IsAnswerTo bits ip code to place rule (Err w)) (sym cause.1.0) (unmoved_refused cause.0 cause.1.1)
        ]
