-- A step block begins with the first instruction of the image, whose length does not depend on its place.
use Rattle.std.proofs.Common.{◌≡◌, ℕ, ◌+◌, ◌-◌, ◌≤◌, List, [], ◌∷◌, ◌++◌, length, get_or, take, Option, Some, None, Result, Ok, Err, refl, ap, sym, subst, ◌∙◌, append_assoc, length-append, arith}
use Rattle.std.specs.Prelude.{IsSome, unwrap_or}
use Rattle.std.proofs.Math.Seq.{take-append_seam}
use Rattle.std.proofs.lemmas.List.{length-take}
use Rattle.x86_values.specs.declared.Bits.{Bits}
use Rattle.x86_values.specs.declared.Instr.{Instr}
use Rattle.plain_spelling.specs.declared.NoSpelling.{NoSpelling}
use Rattle.encoder.specs.Encoding.{encoding}
use Rattle.branch_sizes.specs.declared.plan.Form.{Form}
use Rattle.branch_sizes.specs.declared.plan.Form.TheVariants.{Itself, Short, Near as NearForm, Far, Bridge, FarBridge}
use Rattle.branch_sizes.specs.Layout.{total, item_choice, image_length}
use Rattle.branch_sizes.specs.MoveLayout.Laid.{fragment_at}
use Rattle.move_goals.specs.MovedTargets.Targets.{with_target, aimed_operand, aimed_base, plain_length}
use Rattle.move_goals.specs.MovedTargets.Facts.{TargetFacts}
use Rattle.move_goals.specs.declared.branch_forms.branch.Action.{Action}
use Rattle.move_goals.specs.declared.branch_forms.branch.Action.TheVariants.{Jump, Call, Condition, Count}
use Rattle.move_goals.specs.declared.branch_forms.branch.RelativeBranch.{RelativeBranch}
use Rattle.move_goals.specs.BranchForms.Branches.{branch_of}
use Rattle.move_goals.specs.BranchForms.Images.{through_slot, short_branch, branch_to, bridge, far_image, branch_image, image_by, image_of}
use Rattle.move_goals.specs.BranchForms.Facts.{PieceFacts}
use Rattle.move_goals.specs.declared.items.Placed.{Placed}
use Rattle.move_goals.specs.Items.{AreSpansOf, no_instr, one_span}
use Rattle.move_goals.specs.Plan.{kept_goals, plan_with}
use Rattle.block_encoder.specs.Bytes.{in_front, bytes_from, image_at, image_bytes, bytes_at, block_images, block_bytes}
use Rattle.block_encoder.specs.Moved.{MovedLists}
use Rattle.block_encoder.specs.ByPlan.{IsMovedBy}
use Rattle.block_encoder.specs.Aims.{StandsAtPlace}
use Rattle.block_encoder.specs.Facts.{MovedFacts}
use Rattle.step_slots.specs.Block.{step_items, step_plan}
use Rattle.step_slots.specs.Done.{done_length, step_form, IsDoneAt}

-- ---- the first instruction of an image

-- some instructions begin with one of so many bytes
abbrev BeginsWith : Bits → List Instr → ℕ → Type 0
BeginsWith bits is n = (first : Instr) × ((more : List Instr) × ((is ≡ first ∷ more) × (plain_length bits first ≡ n)))

-- the length of the first of some instructions
abbrev first_length : Bits → List Instr → ℕ
first_length bits is = plain_length bits (get_or is 0 no_instr)

aimed_slot : (code slot : ℕ) → with_target slot (through_slot code 0) ≡ through_slot code slot
unfolding with_target aimed_operand aimed_base through_slot
aimed_slot code slot = refl

module _ (targets : TargetFacts) (pieces : PieceFacts) (bits : Bits) where
  slot-length : (code slot : ℕ) → plain_length bits (through_slot code slot) ≡ plain_length bits (through_slot code 0)
  slot-length code slot = ap (plain_length bits) (sym (aimed_slot code slot)) ∙ targets.with_target-length bits slot (through_slot code 0)

  aimed-length : (i : Instr) (goal : ℕ) → plain_length bits (with_target goal i) ≡ plain_length bits (with_target 0 i)
  aimed-length i goal = targets.with_target-length bits goal i ∙ sym (targets.with_target-length bits 0 i)

  to-length : (code : ℕ) (asize : Option Bits) (t u : ℕ) → plain_length bits (branch_to code asize t) ≡ plain_length bits (branch_to code asize u)
  to-length code asize t u = pieces.branch_to-length bits code asize t ∙ sym (pieces.branch_to-length bits code asize u)

  short-length : (b : RelativeBranch) (asize : Option Bits) (t u : ℕ) → plain_length bits (short_branch b asize t) ≡ plain_length bits (short_branch b asize u)
  short-length b asize t u = pieces.short-length bits b asize t ∙ sym (pieces.short-length bits b asize u)

  bridge-first : (b : RelativeBranch) (asize : Option Bits) (place : ℕ) (last last' : Instr)
      → BeginsWith bits (bridge bits b asize place last) (first_length bits (bridge bits b asize 0 last'))
  unfolding bridge
  bridge-first b asize place last last' = (_, (_, (refl, short-length b asize _ _)))

  far-first : (b : RelativeBranch) (action : Action) (place slot : ℕ)
      → BeginsWith bits (far_image bits b place action slot) (first_length bits (far_image bits b 0 action 0))
  unfolding far_image
  far-first b (Condition n) place slot = (_, (_, (refl, to-length _ None _ _)))
  far-first b Jump place slot = (_, (_, (refl, slot-length _ slot)))
  far-first b Call place slot = (_, (_, (refl, slot-length _ slot)))
  far-first b (Count n) place slot = (_, (_, (refl, slot-length _ slot)))

  first-by : (i : Instr) (b : Option RelativeBranch) (form : Form) (place goal slot : ℕ)
      → BeginsWith bits (image_by bits i b form place goal slot) (first_length bits (image_by bits i b form 0 0 0))
  unfolding branch_image
  first-by i None form place goal slot = (_, (_, (refl, aimed-length i goal)))
  first-by i (Some b) Itself place goal slot = (_, (_, (refl, aimed-length i goal)))
  first-by i (Some b) Short place goal slot = (_, (_, (refl, short-length b i.asize goal 0)))
  first-by i (Some b) NearForm place goal slot = (_, (_, (refl, to-length _ None goal 0)))
  first-by i (Some b) Far place goal slot = far-first b b.action place slot
  first-by i (Some b) Bridge place goal slot = bridge-first b i.asize place _ _
  first-by i (Some b) FarBridge place goal slot = bridge-first b i.asize place _ _

  -- **an image begins with an instruction, whose length depends neither on the place nor on the goal**
  image-first : (i : Instr) (form : Form) (place goal slot : ℕ) → BeginsWith bits (image_of bits i form place goal slot) (done_length bits i form)
  unfolding image_of done_length
  image-first i form place goal slot = first-by i (branch_of i) form place goal slot

-- the length of the first instruction of an image that stands anywhere
pub done-is : (bits : Bits) (i : Instr) (wanted form : Form) → form ≡ wanted → (is : List Instr) → is ≡ image_of bits i form 0 0 0
    → (first : Instr) → first ≡ get_or is 0 no_instr → (n : ℕ) → n ≡ plain_length bits first → n ≡ done_length bits i wanted
unfolding done_length
done-is bits i wanted form f is e first h n l =
    l
    ∙ (ap (plain_length bits) h
    ∙ (ap (first_length bits) e ∙ ap (λ (g : Form). first_length bits (image_of bits i g 0 0 0)) f))

-- ---- its bytes

-- the encoding of the first of some instructions, in front of the bytes of the others
pub record IsParted (bits : Bits) (at : ℕ) (i : Instr) (is : List Instr) : Type 0 where
  pub bytes : List ℕ
  pub rest : List ℕ
  pub first : encoding bits at i ≡ Ok bytes
  pub all : bytes_from bits at (i ∷ is) ≡ Some (bytes ++ rest)

parted : (bits : Bits) (at : ℕ) (i : Instr) (is : List Instr) → IsSome (bytes_from bits at (i ∷ is)) → IsParted bits at i is
unfolding bytes_from
parted bits at i is some = by_encoding (encoding bits at i) refl some
  where
    by_encoding : (r : Result (List ℕ) NoSpelling) → encoding bits at i ≡ r
        → IsSome (elim r as (λ (x : Result (List ℕ) NoSpelling). Option (List ℕ)) [ Ok bytes ↦ in_front bytes (bytes_from bits (at + length bytes) is) | Err why ↦ None ])
        → IsParted bits at i is
    by_encoding (Err why) e h = absurd cc
    by_encoding (Ok bytes) e h = by_rest (bytes_from bits (at + length bytes) is) refl h
      where
        by_rest : (o : Option (List ℕ)) → bytes_from bits (at + length bytes) is ≡ o → IsSome (in_front bytes o) → IsParted bits at i is
        by_rest None f g = absurd cc
        by_rest (Some rest) f g = record {
          bytes = bytes;
          rest = rest;
          first = e;
          all =
              ap (λ (r : Result (List ℕ) NoSpelling). elim r as (λ (x : Result (List ℕ) NoSpelling). Option (List ℕ)) [ Ok b ↦ in_front b (bytes_from bits (at + length b) is) | Err why ↦ None ]) e
              ∙ ap (in_front bytes) f;
        }

short : (n : ℕ) (xs ys : List ℕ) → take n ys ≡ xs → length xs ≤ n
short n xs ys e = omega (arith, ap length e, length-take n ys)

front : (a b c d : List ℕ) → ((a ++ b) ++ c) ++ d ≡ a ++ (b ++ (c ++ d))
front a b c d = append_assoc (a ++ b) c d ∙ append_assoc a b (c ++ d)

module _ (bits : Bits) (item : Placed) (place : ℕ) (m : MovedLists) (moved : IsMovedBy bits (step_items bits item) (step_plan bits item place) m) where
  -- the block begins with the bytes of the image
  image-front : (rest : List ℕ) × (m.bytes ≡ bytes_at bits (step_items bits item) (step_plan bits item place) moved.layout 0 ++ rest)
  unfolding plan_with block_images block_bytes
  image-front = (_, moved.lists.bytes ∙ front (bytes_at bits (step_items bits item) (step_plan bits item place) moved.layout 0) _ _ _)

  form-is : step_form m ≡ (item_choice (step_plan bits item place) moved.layout 0).form
  form-is = ap (λ (fs : List Form). get_or fs 0 Itself) moved.lists.forms

  -- it stands at the place
  place-is : (fragment_at (step_plan bits item place) moved.layout 0).place ≡ place
  unfolding fragment_at plan_with
  place-is = omega arith

  -- the jump back is behind the image
  back-is : get_or m.starts 1 0 ≡ place + image_length (step_plan bits item place) moved.layout 0
  unfolding plan_with
  back-is =
      let lengths = image_length (step_plan bits item place) moved.layout in
      let at : get_or m.starts 1 0 ≡ place + (total lengths 1 - total lengths 0) = ap (λ (xs : List ℕ). get_or xs 1 0) moved.lists.starts in
      omega (arith, at)

  spans-of : AreSpansOf (step_items bits item) (one_span (step_items bits item) place)
  spans-of = record { few = omega arith; counts = refl }

  -- the image is as long as its form says
  image-short : MovedFacts → length (bytes_at bits (step_items bits item) (step_plan bits item place) moved.layout 0)
      ≤ image_length (step_plan bits item place) moved.layout 0
  image-short facts =
      let items = step_items bits item in
      let p = step_plan bits item place in
      let stands : StandsAtPlace bits items p moved.layout 0 0 =
      facts.places bits items (one_span items place) (kept_goals items) spans-of m moved 0 (omega arith) in
      short (image_length p moved.layout 0) (bytes_at bits items p moved.layout 0) _ stands.bytes

  module _ (targets : TargetFacts) (pieces : PieceFacts) (facts : MovedFacts) where
    -- a step block begins with the encoded first instruction of the image
    pub done-at : IsDoneAt bits item place m (done_length bits item.instr (step_form m))
    unfolding fragment_at
    done-at =
        let p = step_plan bits item place in
        let fragment = fragment_at p moved.layout 0 in
        let begins = image-first targets pieces bits item.instr fragment.form fragment.place fragment.goal fragment.slot in
        let first = begins.0 in
        let jumps = begins.1.0 in
        let image : image_at bits (step_items bits item) p moved.layout 0 ≡ first ∷ jumps = begins.1.1.0 in
        let some : IsSome (bytes_from bits fragment.place (first ∷ jumps)) =
        subst (λ (is : List Instr). IsSome (bytes_from bits fragment.place is)) image (moved.reached 0 (omega arith)).1 in
        let parts = parted bits fragment.place first jumps some in
        let spelled : image_bytes bits (step_items bits item) p moved.layout 0 ≡ Some (parts.bytes ++ parts.rest) =
        ap (bytes_from bits fragment.place) image ∙ parts.all in
        let whole : bytes_at bits (step_items bits item) p moved.layout 0 ≡ parts.bytes ++ parts.rest =
        ap (λ (o : Option (List ℕ)). unwrap_or o []) spelled in
        let starts = image-front in
        let bytes : m.bytes ≡ parts.bytes ++ (parts.rest ++ starts.0) =
        starts.1 ∙ (ap (λ (b : List ℕ). b ++ starts.0) whole ∙ append_assoc parts.bytes parts.rest starts.0) in
        let len : length parts.bytes ≡ done_length bits item.instr (step_form m) =
        targets.encoding-length bits fragment.place first parts.bytes parts.first
        ∙ (begins.1.1.1 ∙ ap (done_length bits item.instr) (sym form-is)) in
        let cut : take (done_length bits item.instr (step_form m)) m.bytes ≡ parts.bytes =
        ap (λ (n : ℕ). take n m.bytes) (sym len)
        ∙ (ap (take (length parts.bytes)) bytes ∙ take-append_seam parts.bytes (parts.rest ++ starts.0)) in
        let sum : length m.bytes ≡ length parts.bytes + length (parts.rest ++ starts.0) =
        ap length bytes ∙ length-append parts.bytes (parts.rest ++ starts.0) in
        let whole_length : length (bytes_at bits (step_items bits item) p moved.layout 0) ≡ length parts.bytes + length parts.rest =
        ap length whole ∙ length-append parts.bytes parts.rest in
        let few = image-short facts in
        let back = back-is in
        record {
          layout = moved.layout;
          least = moved.least;
          first = first;
          jumps = jumps;
          image = image;
          within = omega (arith, sum, len);
          before_back = omega (arith, whole_length, few, back, len);
          encoded =
              ap (λ (at : ℕ). encoding bits at first) (sym place-is)
              ∙ (parts.first ∙ ap (λ (b : List ℕ). Ok b) (sym cut));
        }
