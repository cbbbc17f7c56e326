-- What the rules say of a detour, and the answer.
use Rattle.std.proofs.Common.{◌≡◌, ℕ, Bool, true, false, List, Option, Some, None, Result, Ok, Err, refl, sym, subst}
use Rattle.std.specs.Prelude.{IsTrue}
use Rattle.std.specs.Option.{option_or}
use Rattle.std.proofs.lemmas.Bool.{false≢true}
use Rattle.x86_values.specs.declared.Bits.{Bits}
use Rattle.flow_graph.specs.declared.hook_sight.answers.Passage.{Passage}
use Rattle.flow_graph.specs.declared.hook_sight.answers.Sight.{Sight}
use Rattle.flow_graph.specs.declared.hook_sight.answers.Sight.TheVariants.{Whole, Ends}
use Rattle.flow_graph.specs.declared.hook_sight.answers.View.{View}
use Rattle.detour.specs.declared.error.DetourError.{DetourError}
use Rattle.detour.specs.declared.rules.RuleError.{RuleError}
use Rattle.detour.specs.declared.rules.RuleError.TheVariants.{Detour, Overlaps, Calls, Entered, Unseen}
use Rattle.detour.specs.declared.rules.HookRules.{HookRules}
use Rattle.detour.specs.declared.rules.SeenDetour.{SeenDetour}
use Rattle.detour.specs.Detours.{DetourState}
use Rattle.detour.specs.Rules.{IsMade, lies_in, IsViewOver, call_refusal, inside_refusal, entered_refusal, sight_refusal, refusal_of, judged_by, IsAllowed, IsRuled, IsRuledAnswer}

-- ---- where there is no cause

-- no call is one
none_called : (allowed : Bool) (call : Option ℕ) (rest : Option RuleError) → option_or (call_refusal allowed call) rest ≡ None
    → (allowed ≡ false → call ≡ None) × (rest ≡ None)
none_called true call rest e = ((λ never. absurd (cc)), e)
none_called false None rest e = ((λ _. refl), e)
none_called false (Some at) rest e = absurd (cc)

-- no entry is one
none_inside : (inside : Option ℕ) (rest : Option RuleError) → option_or (inside_refusal inside) rest ≡ None
    → (inside ≡ None) × (rest ≡ None)
none_inside None rest e = (refl, e)
none_inside (Some entry) rest e = absurd (cc)

-- no passage is
none_entered : (entered : Option Passage) (rest : Option RuleError) → option_or (entered_refusal entered) rest ≡ None
    → (entered ≡ None) × (rest ≡ None)
none_entered None rest e = (refl, e)
none_entered (Some passage) rest e = absurd (cc)

-- and all is seen if that was asked for
none_unseen : (whole : Bool) (sight : Sight) → sight_refusal whole sight ≡ None → IsTrue whole → sight ≡ Whole
none_unseen whole Whole e asked = refl
none_unseen true (Ends at why) e asked = absurd (cc)
none_unseen false (Ends at why) e asked = absurd (false≢true asked)

-- ---- the causes in what is seen

-- the causes of each kind, by what there is
abbrev seen_causes : Option ℕ → Option Passage → Bool → Sight → Option RuleError
seen_causes inside entered whole sight = option_or (inside_refusal inside) (option_or (entered_refusal entered) (sight_refusal whole sight))

-- that there is no detour is none of them
no_detour : (allowed : Bool) (call : Option ℕ) (inside : Option ℕ) (entered : Option Passage) (whole : Bool) (sight : Sight) (why : DetourError)
    → option_or (call_refusal allowed call) (seen_causes inside entered whole sight) ≡ Some (Detour why) → ⊥
no_detour false (Some at) inside entered whole sight why e = cc
no_detour false None (Some entry) entered whole sight why e = cc
no_detour false None None (Some passage) whole sight why e = cc
no_detour false None None None whole Whole why e = cc
no_detour false None None None true (Ends at end) why e = cc
no_detour false None None None false (Ends at end) why e = cc
no_detour true call (Some entry) entered whole sight why e = cc
no_detour true call None (Some passage) whole sight why e = cc
no_detour true call None None whole Whole why e = cc
no_detour true call None None true (Ends at end) why e = cc
no_detour true call None None false (Ends at end) why e = cc

-- nor that the trampoline stands in the code
no_overlap : (allowed : Bool) (call : Option ℕ) (inside : Option ℕ) (entered : Option Passage) (whole : Bool) (sight : Sight)
    → option_or (call_refusal allowed call) (seen_causes inside entered whole sight) ≡ Some Overlaps → ⊥
no_overlap false (Some at) inside entered whole sight e = cc
no_overlap false None (Some entry) entered whole sight e = cc
no_overlap false None None (Some passage) whole sight e = cc
no_overlap false None None None whole Whole e = cc
no_overlap false None None None true (Ends at end) e = cc
no_overlap false None None None false (Ends at end) e = cc
no_overlap true call (Some entry) entered whole sight e = cc
no_overlap true call None (Some passage) whole sight e = cc
no_overlap true call None None whole Whole e = cc
no_overlap true call None None true (Ends at end) e = cc
no_overlap true call None None false (Ends at end) e = cc

-- ---- of a detour

module _ (bits : Bits) (ip : ℕ) (code : List ℕ) (place : ℕ) (entries : List ℕ) (rules : HookRules) (d : DetourState) where
  module _ (view : View) (apart : lies_in bits ip code place d ≡ false) (is_view : IsViewOver bits ip code entries rules.start d view) where
    allowed : refusal_of rules d view ≡ None → IsAllowed bits ip code place entries rules d view
    allowed none =
        let called = none_called rules.calls d.call (seen_causes view.inside view.entered rules.whole view.sight) none in
        let rest = option_or (entered_refusal view.entered) (sight_refusal rules.whole view.sight) in
        let inside = none_inside view.inside rest called.1 in
        let entered = none_entered view.entered (sight_refusal rules.whole view.sight) inside.1 in
        record {
          apart = apart;
          is_view = is_view;
          call = called.0;
          inside = inside.0;
          entered = entered.0;
          sight = none_unseen rules.whole view.sight entered.1;
        }

    -- **a detour that stands apart is ruled by its calls and by what is seen**
    pub judged_ruled : (cause : Option RuleError) → refusal_of rules d view ≡ cause
        → IsRuled bits ip code place entries rules d (judged_by cause d view)
    judged_ruled None e = (refl, allowed e)
    judged_ruled (Some (Detour why)) e = absurd (no_detour rules.calls d.call view.inside view.entered rules.whole view.sight why e)
    judged_ruled (Some Overlaps) e = absurd (no_overlap rules.calls d.call view.inside view.entered rules.whole view.sight e)
    judged_ruled (Some (Calls at)) e = record { apart = apart; view = view; is_view = is_view; cause = e }
    judged_ruled (Some (Entered from target)) e = record { apart = apart; view = view; is_view = is_view; cause = e }
    judged_ruled (Some (Unseen at why)) e = record { apart = apart; view = view; is_view = is_view; cause = e }

  -- **what the rules say of the detour is the answer**
  pub ruled_answer : (to : ℕ) → IsMade bits ip code to place rules (Ok d) → (r : Result SeenDetour RuleError)
      → IsRuled bits ip code place entries rules d r → IsRuledAnswer bits ip code to place entries rules r
  ruled_answer to made (Ok seen) h = (
    subst (λ (x : DetourState). IsMade bits ip code to place rules (Ok x)) (sym h.0) made,
    subst (λ (x : DetourState). IsAllowed bits ip code place entries rules x seen.view) (sym h.0) h.1,
  )
  ruled_answer to made (Err (Detour why)) h =
      subst (λ (w : DetourError). IsMade bits ip code to place rules (Err w)) (sym h) tt
  ruled_answer to made (Err Overlaps) h = (d, (made, h))
  ruled_answer to made (Err (Calls at)) h = (d, (made, h))
  ruled_answer to made (Err (Entered from target)) h = (d, (made, h))
  ruled_answer to made (Err (Unseen at why)) h = (d, (made, h))
