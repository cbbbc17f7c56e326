-- The lengths of a well formed plan do not fall, so images grow with the layout.
use Rattle.std.proofs.Common.{◌≡◌, ℕ, zero, suc, ◌<◌, ◌≤◌, List, [], ◌∷◌, length, get_or, replicate, inl, inr, Bool, true, ◌&&◌, arith, refl, sym, subst}
use Rattle.std.proofs.lemmas.Bool.{and_parts, leb-true, ltb-true, cases_lt}
use Rattle.std.proofs.lemmas.List.{get_or_past}
use Rattle.std.specs.Prelude.{nat_le}
use Rattle.std.specs.List.{list_all}
use Rattle.branch_sizes.specs.declared.plan.Choice.{Choice}
use Rattle.branch_sizes.specs.declared.plan.Branch.{Branch}
use Rattle.branch_sizes.specs.Plan.{BlockPlan, item_at, choices_at, no_choice, no_branch, lengths_rise_from, is_fit_branch, IsWellFormed}
use Rattle.branch_sizes.specs.Layout.{IsLayout, AtMost, image_length, first_layout}
use Rattle.branch_sizes.specs.Facts.{IsBranchFit}

-- a test that holds of all items holds at an index
pub passes_at : {X : Type 0} (p : X → Bool) (xs : List X) (k : ℕ) (d : X) → list_all p xs ≡ true → k < length xs → p (get_or xs k d) ≡ true
passes_at p [] k d h lt = absurd (omega arith)
passes_at p (x ∷ xs) zero d h lt = (and_parts (p x) (list_all p xs) h).0
passes_at p (x ∷ xs) (suc k) d h lt = passes_at p xs k d (and_parts (p x) (list_all p xs) h).1 (omega arith)

-- the parts of the test of lengths
rest_rises : (low : ℕ) (c : Choice) (cs : List Choice) → lengths_rise_from low (c ∷ cs) ≡ true
    → (low ≤ c.len) × (c.len ≤ 15) × (lengths_rise_from c.len cs ≡ true)
rest_rises low c cs h =
    let a = and_parts (nat_le low c.len) (nat_le c.len 15 && lengths_rise_from c.len cs) h in
    let b = and_parts (nat_le c.len 15) (lengths_rise_from c.len cs) a.1 in
    (leb-true low c.len a.0, leb-true c.len 15 b.0, b.1)

-- a choice is at least as long as the first
pub length_at_least : (low : ℕ) (cs : List Choice) (f : ℕ) → lengths_rise_from low cs ≡ true → f < length cs
    → low ≤ (get_or cs f no_choice).len
length_at_least low [] f h lt = absurd (omega arith)
length_at_least low (c ∷ cs) zero h lt = (rest_rises low c cs h).0
length_at_least low (c ∷ cs) (suc f) h lt =
    let r = rest_rises low c cs h in
    omega (arith, r.0, length_at_least c.len cs f r.2 (omega arith))

-- and at most as long as the last
pub length_at_most : (low : ℕ) (cs : List Choice) (f : ℕ) → lengths_rise_from low cs ≡ true
    → (get_or cs f no_choice).len ≤ 15
length_at_most low [] f h = omega arith
length_at_most low (c ∷ cs) zero h = (rest_rises low c cs h).1
length_at_most low (c ∷ cs) (suc f) h = length_at_most c.len cs f (rest_rises low c cs h).2

-- a later choice is at least as long as an earlier one
pub length_rises : (low : ℕ) (cs : List Choice) (e f : ℕ) → lengths_rise_from low cs ≡ true → e ≤ f → f < length cs
    → (get_or cs e no_choice).len ≤ (get_or cs f no_choice).len
length_rises low [] e f h le lt = absurd (omega arith)
length_rises low (c ∷ cs) zero zero h le lt = omega arith
length_rises low (c ∷ cs) zero (suc f) h le lt = length_at_least c.len cs f (rest_rises low c cs h).2 (omega arith)
length_rises low (c ∷ cs) (suc e) zero h le lt = absurd (omega arith)
length_rises low (c ∷ cs) (suc e) (suc f) h le lt =
    length_rises c.len cs e f (rest_rises low c cs h).2 (omega arith) (omega arith)

fit_branch : (count : ℕ) (b : Branch) → is_fit_branch count b ≡ true → IsBranchFit count b
fit_branch count b h =
    let u = and_parts _ _ h in
    let n = and_parts _ _ u.0 in
    let v = and_parts _ _ u.1 in
    let x = and_parts _ _ v.1 in
    record {
      some = ltb-true 0 (length b.choices.items) n.0;
      few = leb-true (length b.choices.items) 3 n.1;
      rises = v.0;
      reach = x.0;
      goal = (and_parts _ _ x.1).0;
      differ = (and_parts _ _ x.1).1;
    }

-- each item of a well-formed plan is well formed
pub fit_item : (p : BlockPlan) → IsWellFormed p → (k : ℕ) → k < length p.items → IsBranchFit (length p.items) (item_at p k)
fit_item p w k lt = fit_branch (length p.items) (item_at p k) (passes_at (is_fit_branch (length p.items)) p.items k no_branch w.fit lt)

-- past the end there is no image
no_image : (p : BlockPlan) (layout : List ℕ) (k : ℕ) → length p.items ≤ k → image_length p layout k ≡ 0
no_image p layout k ge =
    subst (λ (b : Branch). (get_or b.choices.items (get_or layout k 0) no_choice).len ≡ 0)
    (sym (get_or_past p.items k no_branch ge)) refl

-- images grow with the layout
pub image_rises : (p : BlockPlan) → IsWellFormed p → (a c : List ℕ) → AtMost a c → IsLayout p c
    → (k : ℕ) → image_length p a k ≤ image_length p c k
image_rises p w a c m l k =
    elim (cases_lt k (length p.items)) [
      | inl lt ↦ length_rises 1 (choices_at p k) (get_or a k 0) (get_or c k 0) (fit_item p w k lt).rises (m.each k) (l.valid k lt)
      | inr ge ↦ omega (arith, no_image p a k ge, no_image p c k ge)
    ]

-- images are short
pub image_short : (p : BlockPlan) → IsWellFormed p → (layout : List ℕ) (k : ℕ) → image_length p layout k ≤ 15
image_short p w layout k =
    elim (cases_lt k (length p.items)) [
      | inl lt ↦ length_at_most 1 (choices_at p k) (get_or layout k 0) (fit_item p w k lt).rises
      | inr ge ↦ omega (arith, no_image p layout k ge)
    ]

-- the first layout has choice 0 everywhere
pub first_zero : (n k : ℕ) → get_or {A = ℕ} (replicate n 0) k 0 ≡ 0
first_zero zero k = refl
first_zero (suc n) zero = refl
first_zero (suc n) (suc k) = first_zero n k

-- S is at most every layout
pub first_at_most : (p : BlockPlan) (c : List ℕ) → AtMost (first_layout p) c
first_at_most p c = record { each = λ k. rw first_zero (omega arith) }
