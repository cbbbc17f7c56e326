-- What the parts of a detour through padding give together.
use Rattle.std.proofs.Common.{◌≡◌, ℕ, ◌+◌, ◌-◌, ◌^◌, ◌<◌, Bool, true, ◌&&◌, inl, inr, List, [], ◌∷◌, ◌++◌, length, replicate, Option, Some, None, Result, Ok, Err, refl, sym, ap, subst, ◌∙◌, arith}
use Rattle.std.specs.Prelude.{IfSome}
use Rattle.std.proofs.lemmas.List.{append-nil}
use Rattle.std.proofs.lemmas.List.Folds.{list_all-append}
use Rattle.std.proofs.lemmas.List.Sums.{sum_by_push}
use Rattle.x86_values.specs.declared.Bits.{Bits}
use Rattle.x86_values.specs.declared.Bits.TheVariants.{B16, B32, B64}
use Rattle.x86_values.specs.Wrapping.{modulo_width, width}
use Rattle.opcode_rows.specs.Reading.{IsRead}
use Rattle.move_goals.specs.declared.branch_forms.branch.Action.TheVariants.{Jump as JumpAction}
use Rattle.move_goals.specs.BranchForms.Branches.{near_code}
use Rattle.move_goals.specs.BranchForms.Images.{branch_to}
use Rattle.move_goals.specs.declared.items.Placed.{Placed}
use Rattle.move_goals.specs.Items.{ArePlaced}
use Rattle.block_encoder.specs.declared.error.PlanError.{PlanError}
use Rattle.block_encoder.specs.declared.error.PlanError.TheVariants as plan_error
use Rattle.block_encoder.specs.Moved.{MovedLists}
use Rattle.block_encoder.specs.ByPlan.{IsPlanAnswer}
use Rattle.block_encoder.specs.Planned.{move_error_of}
use Rattle.detour.specs.declared.error.DetourError.{DetourError}
use Rattle.detour.specs.declared.making.Jump.{Jump}
use Rattle.detour.specs.declared.padding.PaddingError.{PaddingError}
use Rattle.detour.specs.declared.padding.PaddingError.TheVariants.{TooShort, NotPadding, Entered, Function, OutOfReach, Overlaps}
use Rattle.detour.specs.declared.parts.JumpForm.{JumpForm}
use Rattle.detour.specs.declared.parts.JumpForm.TheVariants.{Near, Relay, Absolute}
use Rattle.detour.specs.declared.rules.HookRules.{HookRules}
use Rattle.detour.specs.declared.rules.RuleError.{RuleError}
use Rattle.detour.specs.declared.rules.RuleError.TheVariants as rule_error
use Rattle.detour.specs.declared.start.MoveRule.{MoveRule}
use Rattle.detour.specs.declared.taken.Taken.{Taken}
use Rattle.detour.specs.Reading.{IsItemOf}
use Rattle.detour.specs.Taken.{is_padding, taken_bytes}
use Rattle.detour.specs.Calls.{call_in}
use Rattle.detour.specs.Jumps.{near_jump_to, IsNearJump, IsOutOfReach}
use Rattle.detour.specs.LawsBelow.{DetourLawsBelow}
use Rattle.detour.specs.Trampoline.{IsTrampoline, goes_back, block_items, trampoline_plan}
use Rattle.detour.specs.ReadBack.{jump_reading, IsPatchRead, IsRelayRead}
use Rattle.detour.specs.Detours.{DetourState, patch_of, relay_bytes, relay_behind, parts_of}
use Rattle.detour.specs.Made.{detour_error_of, IsPutTogether}
use Rattle.detour.specs.Rules.{move_rule, IsRuled}
use Rattle.detour.specs.Padding.{near_len, jump_address, short_jump, short_reading, PaddedState, IsPaddingTo, IsFreePadding, IsTakenShort, IsPaddingJump, IsPaddedMade, IsPaddedUnmade, IsPaddedBy, IsThrough, IsPaddingDetour}
use Rattle.detour.specs.PaddingParts.{IsRelayJump, IsPaddingJumpAnswer, IsPaddingRefusal}
use Rattle.detour.proofs.Front.{read_more}
use Rattle.detour.proofs.Jumping.{far-in_64}
use Rattle.detour.proofs.OnePlace.{behind_there}
use Rattle.detour.proofs.ReadBack.{near_read, no_relay, relay_there, trampoline_read}
use Rattle.detour.proofs.Short.{short_read}

-- ---- the padding

-- no bytes are padding
pub padding_none : (bits : Bits) (base : ℕ) (padding : List ℕ) → IsPaddingTo bits base padding 0
padding_none bits base padding = ([], ((tt, refl), refl))

and-both : (a b : Bool) → a ≡ true → b ≡ true → (a && b) ≡ true
and-both a b p q = rw p (rw q refl)

-- one more padding instruction
pub padding_more : (bits : Bits) (base : ℕ) (padding : List ℕ) (at : ℕ) (p : Placed) → IsPaddingTo bits base padding at → IsItemOf bits base padding at p
    → is_padding p ≡ true → IsPaddingTo bits base padding (at + p.len)
padding_more bits base padding at p before item is =
    let items = before.0 in
    let sum = sum_by_push (λ (x : Placed). x.len) items p in
    let e : taken_bytes items ≡ at = before.1.0.1 in (
      items ++ p ∷ [],
      (
        (read_more bits base padding 0 items p before.1.0.0 at (omega (arith, e)) item.address item.reads, omega (arith, sum, e)),
        list_all-append is_padding items (p ∷ []) ∙ and-both _ _ before.1.1 (and-both _ _ is refl),
      ),
    )

-- ---- the near jump

module _ (laws : DetourLawsBelow) where
  -- it has as many bytes as its mode says
  pub near-long : (bits : Bits) (at t : ℕ) (bytes : List ℕ) → IsNearJump bits at t bytes → length bytes ≡ near_len bits
  unfolding near_jump_to
  near-long B16 at t bytes e =
      laws.targets.encoding-length B16 at (branch_to (near_code JumpAction B16) None t) bytes e ∙ laws.pieces.near_jump-length B16 B16 t
  near-long B32 at t bytes e =
      laws.targets.encoding-length B32 at (branch_to (near_code JumpAction B32) None t) bytes e ∙ laws.pieces.near_jump-length B32 B32 t
  near-long B64 at t bytes e =
      laws.targets.encoding-length B64 at (branch_to (near_code JumpAction B64) None t) bytes e ∙ laws.pieces.near_jump-length B64 B64 t

  -- so has the jump from the padding, wherever it goes
  pub padding_jump-long : (bits : Bits) (at to : ℕ) (behind : Option ℕ) (form : JumpForm) (near : List ℕ) (relay : Option ℕ)
      → IsPaddingJump bits at to behind form near relay → length near ≡ near_len bits
  padding_jump-long bits at to behind Near near relay h = near-long bits at to near h.0
  padding_jump-long bits at to behind Relay near relay h = near-long bits at h.1.0 near h.1.1.1
  padding_jump-long bits at to behind Absolute near relay h = absurd h

  alone : (bits : Bits) (at target : ℕ) (near : List ℕ) → IsNearJump bits at target near → IsRead bits at near (jump_reading bits target near)
  alone bits at target near e =
      subst (λ (bs : List ℕ). IsRead bits at bs (jump_reading bits target near)) (append-nil near) (near_read laws bits at target near [] e)

  -- it is read as one jump
  padding_jump-read : (bits : Bits) (at to : ℕ) (behind : Option ℕ) (form : JumpForm) (near : List ℕ) (relay : Option ℕ)
      → IsPaddingJump bits at to behind form near relay → IsPatchRead bits at to form near relay near
  padding_jump-read bits at to behind Near near relay h = alone bits at to near h.0
  padding_jump-read bits at to behind Relay near relay h =
      subst (λ (r : Option ℕ). IfSome r (λ address. IsRead bits at near (jump_reading bits address near))) (sym h.1.1.0.1)
      (alone bits at h.1.0 near h.1.1.1)
  padding_jump-read bits at to behind Absolute near relay h = absurd h

  -- the relay is behind the block
  padding_relay-read : (bits : Bits) (at to place : ℕ) (block : List ℕ) (form : JumpForm) (near : List ℕ) (relay : Option ℕ)
      → IsPaddingJump bits at to (relay_behind place (length block)) form near relay
      → IsRelayRead to place (length block) relay (block ++ relay_bytes relay to)
  padding_relay-read bits at to place block Near near relay h = no_relay laws to place block relay h.1
  padding_relay-read bits at to place block Relay near relay h =
      relay_there laws to place block relay h.1.0 h.1.1.0.1 (behind_there place (length block) h.1.0 (sym h.1.1.0.0))
  padding_relay-read bits at to place block Absolute near relay h = absurd h

  -- ---- which jump it is

  module _ (bits : Bits) (at to : ℕ) (below : to < 2 ^ width bits) (far : IsOutOfReach bits at to) where
    -- where the replacement is out of reach, it is the one to the relay
    pub relay_chosen : (address : ℕ) (r : Option Jump) → IsRelayJump bits at address r → IsPaddingJumpAnswer bits at to (Some address) r
    relay_chosen address (Some jump) h =
        subst (λ (f : JumpForm). IsPaddingJump bits at to (Some address) f jump.bytes.items jump.relay) (sym h.0.0)
        ((far-in_64 laws bits at to below far, far), (address, ((refl, h.0.1), h.1)))
    relay_chosen address None h = ((far-in_64 laws bits at to below far, far), h)

    -- or none, where there is no relay
    pub none_chosen : IsPaddingJumpAnswer bits at to None None
    none_chosen = ((far-in_64 laws bits at to below far, far), tt)

  -- ---- what is made

  module _ (bits : Bits) (ip : ℕ) (code : List ℕ) (to place : ℕ) (rule : MoveRule) (t : Taken) (short : IsTakenShort bits ip code t.items.items) where
    -- what is taken is not moved
    pub unmoved : (why : PlanError)
        → IsPlanAnswer bits (block_items rule bits ip t.items.items) (trampoline_plan bits ip t.items.items place rule) (Err (move_error_of why))
        → IsPaddedUnmade bits ip code to place rule (detour_error_of why)
    unmoved plan_error.Memory h = tt
    unmoved (plan_error.Wraps end) h = (t.items.items, (short, h))
    unmoved (plan_error.TooFar at target) h = (t.items.items, (short, h))

    -- **the near jump and the detour by the short one**
    pub padded_made : (len : t.len ≡ taken_bytes t.items.items) (m : MovedLists) (block : IsTrampoline bits ip t.items.items place rule m)
        → ArePlaced bits (block_items rule bits ip t.items.items) → (form : JumpForm) (near : List ℕ) (relay : Option ℕ)
        → IsPaddingJump bits (jump_address bits ip) to (relay_behind place (length m.bytes)) form near relay
        → (over : Jump) → over.form ≡ form → over.relay ≡ relay → over.bytes.items ≡ short_jump bits → (d : DetourState)
        → IsPutTogether to place (goes_back rule bits t.items.items) (call_in rule bits t.items.items) over t m d
        → IsPaddedMade bits ip code to place rule near d
    unfolding patch_of
    padded_made len m block placed form near relay jump over is-form is-relay is-short d put =
        let patch : d.patch ≡ patch_of (short_jump bits) (taken_bytes t.items.items) =
        put.patch ∙ ap (λ (bs : List ℕ). patch_of bs t.len) is-short ∙ ap (patch_of (short_jump bits)) len in
        let form-is : d.form ≡ form = put.form ∙ is-form in
        let trampoline : d.trampoline ≡ m.bytes ++ relay_bytes relay to =
        put.trampoline ∙ ap (λ (r : Option ℕ). m.bytes ++ relay_bytes r to) is-relay in
        record {
          items = t.items.items;
          short = short;
          moved = m;
          block = block;
          relay = relay;
          jump = subst (λ (f : JumpForm). IsPaddingJump bits (jump_address bits ip) to (relay_behind place (length m.bytes)) f near relay) (sym form-is) jump;
          long = padding_jump-long bits (jump_address bits ip) to (relay_behind place (length m.bytes)) form near relay jump;
          taken = put.taken ∙ len;
          patch = patch;
          trampoline = trampoline;
          parts = put.parts ∙ ap (parts_of (goes_back rule bits t.items.items) place m) is-relay;
          starts = put.starts;
          places = put.places;
          call = put.call;
          patch_read = subst (λ (bs : List ℕ). IsRead bits ip bs (short_reading bits (jump_address bits ip))) (sym patch)
              (short_read laws bits ip (replicate (taken_bytes t.items.items - length (short_jump bits)) 0xCC));
          near_read = subst (λ (f : JumpForm). IsPatchRead bits (jump_address bits ip) to f near relay near) (sym form-is)
              (padding_jump-read bits (jump_address bits ip) to (relay_behind place (length m.bytes)) form near relay jump);
          trampoline_read = trampoline_read laws bits ip t.items.items place rule placed m block;
          relay_read = subst (λ (bs : List ℕ). IsRelayRead to place (length m.bytes) relay bs) (sym trampoline)
              (padding_relay-read bits (jump_address bits ip) to place m.bytes form near relay jump);
        }

-- ---- the rules

module _ (bits : Bits) (ip : ℕ) (padding code : List ℕ) (to place : ℕ) (entries : List ℕ) (rules : HookRules) where
  -- what is made is refused by the rules
  pub ruled_refusal : (near : List ℕ) (d : DetourState) → IsPaddedBy bits ip code to place rules near d → (why : RuleError)
      → IsRuled bits ip code place entries rules d (Err why) → IsThrough bits ip padding code to place entries rules (Err (Function why))
  ruled_refusal near d made (rule_error.Detour why) h =
      subst (λ (w : DetourError). IsPaddedUnmade bits ip code (modulo_width bits to) place (move_rule rules) w) (sym h) tt
  ruled_refusal near d made rule_error.Overlaps h = (near, (d, (made, h)))
  ruled_refusal near d made (rule_error.Calls at) h = (near, (d, (made, h)))
  ruled_refusal near d made (rule_error.Entered from target) h = (near, (d, (made, h)))
  ruled_refusal near d made (rule_error.Unseen at why) h = (near, (d, (made, h)))

  -- **what the function gives is the answer behind padding that is free**
  pub padding_answer : IsFreePadding bits ip padding code entries → (r : Result PaddedState PaddingError)
      → IsThrough bits ip padding code to place entries rules r → IsPaddingDetour bits ip padding code to place entries rules r
  padding_answer free (Ok p) h = (free, h)
  padding_answer free (Err (TooShort len need)) h = absurd h
  padding_answer free (Err (NotPadding at)) h = absurd h
  padding_answer free (Err (Entered from target)) h = absurd h
  padding_answer free (Err (Function why)) h = inr (free, h)
  padding_answer free (Err OutOfReach) h = (free, h)
  padding_answer free (Err Overlaps) h = (free, h)

  -- **a cause in the padding is the answer**
  pub padding_refused : (why : PaddingError) → IsPaddingRefusal bits ip padding code entries (Some why)
      → IsPaddingDetour bits ip padding code to place entries rules (Err why)
  padding_refused (TooShort len need) h = h
  padding_refused (NotPadding at) h = h
  padding_refused (Entered from target) h = h
  padding_refused (Function why) h = inl h
  padding_refused OutOfReach h = absurd h
  padding_refused Overlaps h = absurd h
