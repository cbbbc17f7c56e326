-- There is one view of a function.
use Rattle.std.proofs.Common.{◌≡◌, ℕ, ◌≤◌, inl, inr, List, Option, Some, None, arith, refl, sym, ap, ◌∙◌, subst}
use Rattle.std.specs.Prelude.{IsTrue}
use Rattle.std.proofs.lemmas.Bool.{cases_lt, false≢true}
use Rattle.row_relation.specs.Spells.{Reading, Read, TooShort, Invalid}
use Rattle.decoder.specs.OneReading.{OneReadingFacts}
use Rattle.operand_info.specs.declared.columns.Flow.{Flow}
use Rattle.operand_info.specs.declared.columns.Flow.TheVariants.{IndirectBranch}
use Rattle.flow_graph.specs.Control.{CodeBytes, goes_on}
use Rattle.flow_graph.specs.declared.hook_sight.answers.Passage.{Passage}
use Rattle.flow_graph.specs.declared.hook_sight.answers.Sight.{Sight}
use Rattle.flow_graph.specs.declared.hook_sight.answers.Sight.TheVariants.{Whole, Ends}
use Rattle.flow_graph.specs.declared.hook_sight.answers.SightEnd.{SightEnd}
use Rattle.flow_graph.specs.declared.hook_sight.answers.SightEnd.TheVariants.{NotRead, IndirectJump, Ended}
use Rattle.flow_graph.specs.declared.hook_sight.answers.View.{View}
use Rattle.flow_graph.specs.HookSight.Sight.{IsSeen, IsSight, IsFirstEnd, EndsSight, EndsBy}
use Rattle.flow_graph.specs.HookSight.Entries.{TakenPart, IsLeast, IsFirstPassage}
use Rattle.flow_graph.specs.HookSight.Suspects.{IsSuspect, IsSuspected}
use Rattle.flow_graph.specs.HookSight.Views.{IsView}
use Rattle.flow_graph.proofs.HookSight.OneReading.{same_reading}
use Rattle.flow_graph.proofs.HookSight.Ending.{from_true}
use Rattle.flow_graph.proofs.HookSight.Closing.{not_followed}

-- ---- the first of some

-- there is one least number
pub least_same : (P : ℕ → Type 0) (a b : Option ℕ) → IsLeast P a → IsLeast P b → a ≡ b
least_same P None None h k = refl
least_same P None (Some n) h k = absurd (h n k.0)
least_same P (Some m) None h k = absurd (k m h.0)
least_same P (Some m) (Some n) h k = let e : m ≡ n = omega (arith, h.1 n k.0, k.1 m h.0) in ap Some e

make_passage : ℕ → ℕ → Passage
make_passage from target = record { from = from; target = target }

-- there is one first passage
pub first_same : (goes : ℕ → ℕ → Type 0) (a b : Option Passage) → IsFirstPassage goes a → IsFirstPassage goes b → a ≡ b
unfolding make_passage
first_same goes None None h k = refl
first_same goes None (Some s) h k = absurd (h s.from s.target k.is)
first_same goes (Some r) None h k = absurd (k r.from r.target h.is)
first_same goes (Some r) (Some s) h k =
    let from : r.from ≡ s.from = omega (arith, h.first s.from s.target k.is, k.first r.from r.target h.is) in
    let there : goes s.from r.target = subst (λ (p : ℕ). goes p r.target) from h.is in
    let back : goes r.from s.target = subst (λ (p : ℕ). goes p s.target) (sym from) k.is in
    let target : r.target ≡ s.target = omega (arith, h.least s.target back, k.least r.target there) in
    ap Some (ap (λ (p : ℕ). make_passage p r.target) from ∙ ap (make_passage s.from) target)

-- ---- sight

jump_stays : (f : Flow) → f ≡ IndirectBranch → IsTrue (goes_on f) → ⊥
unfolding goes_on
jump_stays f e h = false≢true (sym (ap goes_on e) ∙ from_true h)

-- sight ends for one cause
one_cause : (code : CodeBytes) (p : ℕ) (r : Reading) (why other : SightEnd) → EndsBy code p r why → EndsBy code p r other → why ≡ other
one_cause code p Invalid NotRead NotRead h k = refl
one_cause code p Invalid NotRead IndirectJump h k = absurd k
one_cause code p Invalid NotRead Ended h k = absurd k
one_cause code p Invalid IndirectJump other h k = absurd h
one_cause code p Invalid Ended other h k = absurd h
one_cause code p TooShort Ended Ended h k = refl
one_cause code p TooShort Ended NotRead h k = absurd k
one_cause code p TooShort Ended IndirectJump h k = absurd k
one_cause code p TooShort NotRead other h k = absurd h
one_cause code p TooShort IndirectJump other h k = absurd h
one_cause code p (Read d) IndirectJump IndirectJump h k = refl
one_cause code p (Read d) Ended Ended h k = refl
one_cause code p (Read d) IndirectJump Ended h k = absurd (jump_stays _ h k.on)
one_cause code p (Read d) Ended IndirectJump h k = absurd (jump_stays _ k h.on)
one_cause code p (Read d) IndirectJump NotRead h k = absurd k
one_cause code p (Read d) Ended NotRead h k = absurd k
one_cause code p (Read d) NotRead other h k = absurd h

make_end : ℕ → SightEnd → Sight
make_end at why = Ends at why

module _ (one : OneReadingFacts) (code : CodeBytes) where
  same_cause : (p : ℕ) (why other : SightEnd) → EndsSight code p why → EndsSight code p other → why ≡ other
  same_cause p why other h k =
      one_cause code p k.reading why other (subst (λ (r : Reading). EndsBy code p r why) (same_reading one code p h.reading k.reading h.reads k.reads) h.cause)
      k.cause

  -- the first end is not behind another one
  not_behind : (seen : ℕ → Type 0) (at other : ℕ) (why cause : SightEnd) → IsFirstEnd seen code at why → IsFirstEnd seen code other cause → at ≤ other
  not_behind seen at other why cause h k =
      elim (cases_lt other at) [
        | inr g ↦ g
        | inl l ↦ absurd (not_followed one code other cause k.ends (h.before other l k.reached))
      ]

  -- there is one sight
  pub sight_same : (seen : ℕ → Type 0) (a b : Sight) → IsSight seen code a → IsSight seen code b → a ≡ b
  unfolding make_end
  sight_same seen Whole Whole h k = refl
  sight_same seen Whole (Ends at why) h k = absurd (not_followed one code at why k.ends (h at k.reached))
  sight_same seen (Ends at why) Whole h k = absurd (not_followed one code at why h.ends (k at h.reached))
  sight_same seen (Ends at why) (Ends other cause) h k =
      let e : at ≡ other = omega (arith, not_behind seen at other why cause h k, not_behind seen other at cause why k h) in
      let same : why ≡ cause = same_cause other why cause (subst (λ (p : ℕ). EndsSight code p why) e h.ends) k.ends in
      ap (λ (p : ℕ). make_end p why) e ∙ ap (make_end other) same

  -- ---- the suspect

  suspect_same : (seen : ℕ → Type 0) (part : TakenPart) (s : Sight) (a b : Option Passage) → IsSuspected seen code part s a → IsSuspected seen code part s b → a ≡ b
  suspect_same seen part Whole a b h k = h ∙ sym k
  suspect_same seen part (Ends at why) a b h k = first_same (IsSuspect seen code part) a b h k

  make_view : Sight → Option Passage → Option ℕ → Option Passage → View
  make_view s e i t = record { sight = s; entered = e; inside = i; suspect = t }

  -- **there is one view**
  pub view_same : (entries : List ℕ) (part : TakenPart) (a b : View) → IsView code entries part a → IsView code entries part b → a ≡ b
  unfolding make_view
  view_same entries part a b h k =
      let sight : a.sight ≡ b.sight = sight_same (IsSeen code entries) a.sight b.sight h.sight k.sight in
      let entered : a.entered ≡ b.entered = first_same _ a.entered b.entered h.entered k.entered in
      let inside : a.inside ≡ b.inside = least_same _ a.inside b.inside h.inside k.inside in
      let suspect : a.suspect ≡ b.suspect =
      suspect_same (IsSeen code entries) part b.sight a.suspect b.suspect
      (subst (λ (s : Sight). IsSuspected (IsSeen code entries) code part s a.suspect) sight h.suspect) k.suspect in
      ap (λ (s : Sight). make_view s a.entered a.inside a.suspect) sight
      ∙ (ap (λ (e : Option Passage). make_view b.sight e a.inside a.suspect) entered
      ∙ (ap (λ (i : Option ℕ). make_view b.sight b.entered i a.suspect) inside
      ∙ ap (make_view b.sight b.entered b.inside) suspect))
