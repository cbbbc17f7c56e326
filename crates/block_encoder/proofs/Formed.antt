-- The images of branches have plain spellings in 64-bit mode.
use Rattle.std.proofs.Common.{◌≡◌, ℕ, ◌+◌, ◌^◌, ◌≤◌, ◌<◌, ◌⊎◌, inl, inr, Bool, true, false, List, [], ◌∷◌, length, Option, Some, None, Result, Ok, Err, refl, ap, sym, ◌∙◌, subst, arith}
use Rattle.std.specs.Prelude.{IsSome, is_some}
use Rattle.std.proofs.lemmas.Bool.{ltb-true}
use Rattle.x86_values.specs.declared.Bits.{Bits}
use Rattle.x86_values.specs.declared.Bits.TheVariants.{B32, B64}
use Rattle.x86_values.specs.declared.Instr.{Instr}
use Rattle.x86_values.specs.Wrapping.{modulo_width}
use Rattle.instruction_parts.specs.declared.row_types.Map.TheVariants.{One, M0f}
use Rattle.plain_spelling.specs.declared.NoSpelling.{NoSpelling}
use Rattle.plain_spelling.specs.Values.{is_extended_of, distance}
use Rattle.branch_sizes.specs.declared.plan.Form.{Form}
use Rattle.branch_sizes.specs.declared.plan.Form.TheVariants.{Itself, Short, Near as NearForm, Far, Bridge, FarBridge}
use Rattle.branch_sizes.specs.Layout.{Reaches}
use Rattle.move_goals.specs.MovedTargets.Targets.{plain_length}
use Rattle.move_goals.specs.declared.branch_forms.branch.Action.{Action}
use Rattle.move_goals.specs.declared.branch_forms.branch.Action.TheVariants.{Jump, Call, Condition, Count}
use Rattle.move_goals.specs.declared.branch_forms.branch.RelativeBranch.{RelativeBranch}
use Rattle.move_goals.specs.BranchForms.Branches.{in_range, short_code, near_code, far_code, opposite_condition}
use Rattle.move_goals.specs.BranchForms.Images.{branch_to, through_slot, counter_size, short_branch, skip, bridge_jump, bridge_inner, bridge, far_image, branch_image, pieces_length}
use Rattle.move_goals.specs.BranchForms.Choices.{near_reach, bridge_reach, form_reach}
use Rattle.move_goals.specs.BranchForms.Lengths.{address_byte}
use Rattle.branch_sizes.specs.MoveLayout.Laid.{has_far_form}
use Rattle.block_encoder.specs.Bytes.{in_front, bytes_from}
use Rattle.block_encoder.specs.LawsBelow.{MovedLawsBelow}
use Rattle.block_encoder.proofs.Sweeping.{one_spelled}
use Rattle.block_encoder.proofs.Spelled.{IsEncoded, no_size, count_size, short-encoded, near-encoded, slot-encoded}

-- a branch of 64-bit mode
abbrev pub sized : Action → Bool → RelativeBranch
sized action short = record { action = action; is_short = short; size = B64 }

-- a branch on a counter has an address size of 64-bit mode
abbrev pub CountFits : Action → Option Bits → Type 0
CountFits (Count n) asize = (asize ≡ Some B32) ⊎ (asize ≡ Some B64)
CountFits _ asize = Unit {0}

-- an address at a signed distance of n bytes from the end
abbrev IsNear : ℕ → ℕ → ℕ → ℕ → Type 0
IsNear n at len t = is_extended_of n 64 (distance B64 (modulo_width B64 (modulo_width B64 at + len)) t) ≡ true

-- ---- spellings one behind another

one-some : (at : ℕ) (i : Instr) → IsEncoded at i → IsSome (bytes_from B64 at (i ∷ []))
one-some at i (bytes, h) = one_spelled B64 at i bytes h

in_front-there : (bytes : List ℕ) (o : Option (List ℕ)) → IsSome o → IsSome (in_front bytes o)
in_front-there bytes None h = h
in_front-there bytes (Some x) h = refl

-- ---- actions and forms

count-small : (asize : Option Bits) → (asize ≡ Some B32) ⊎ (asize ≡ Some B64) → address_byte B64 asize ≤ 1
count-small asize (inl e) = rw e (omega arith)
count-small asize (inr e) = rw e (omega arith)

-- an action that has a near form
abbrev pub is_counting : Action → Bool
is_counting (Count n) = true
is_counting _ = false

wrapped-small : (n : ℕ) → modulo_width B64 n < 2 ^ 64
wrapped-small n = omega arith

-- a slot at a signed distance from the end of the image
abbrev pub IsSlotNear : ℕ → ℕ → ℕ → Type 0
IsSlotNear at len slot = (slot < 2 ^ 64) × (at + len ≤ slot + 2 ^ 31) × (slot < at + len + 2 ^ 31)

-- the forms of a branch in 64-bit mode
abbrev pub form_fits : Action → Bool → Form → Bool
form_fits (Count n) short form = elim form [ Short ↦ true | Bridge ↦ true | FarBridge ↦ true | _ ↦ false ]
form_fits action true form = elim form [ Short ↦ true | NearForm ↦ true | Far ↦ true | _ ↦ false ]
form_fits action false form = elim form [ NearForm ↦ true | Far ↦ true | _ ↦ false ]

no_near_count : (action : Action) (short : Bool) → form_fits action short NearForm ≡ true → is_counting action ≡ false
no_near_count (Count n) short h = cc
no_near_count Jump short h = refl
no_near_count Call short h = refl
no_near_count (Condition n) short h = refl

no_far_count : (action : Action) (short : Bool) → form_fits action short Far ≡ true → is_counting action ≡ false
no_far_count (Count n) short h = cc
no_far_count Jump short h = refl
no_far_count Call short h = refl
no_far_count (Condition n) short h = refl

short_range : (action : Action) (short : Bool) → form_fits action short Short ≡ true → in_range action short ≡ true → in_range action true ≡ true
short_range (Count n) true h range = range
short_range (Count n) false h range = cc
short_range Jump true h range = range
short_range Jump false h range = cc
short_range Call true h range = range
short_range Call false h range = cc
short_range (Condition n) true h range = range
short_range (Condition n) false h range = cc

bridge_range : (action : Action) (short : Bool) (form : Form) → form ≡ Bridge ⊎ form ≡ FarBridge → form_fits action short form ≡ true → in_range action short ≡ true → in_range action true ≡ true
bridge_range (Count n) true form e h range = range
bridge_range (Count n) false form e h range = cc
bridge_range Jump short form e h range = refl
bridge_range Call true form (inl e) h range = let k = rw e at h in cc
bridge_range Call true form (inr e) h range = let k = rw e at h in cc
bridge_range Call false form (inl e) h range = let k = rw e at h in cc
bridge_range Call false form (inr e) h range = let k = rw e at h in cc
bridge_range (Condition n) short form e h range = range

module _ (laws : MovedLawsBelow) where
  more-some : (at : ℕ) (i : Instr) (is : List Instr) → IsEncoded at i → IsSome (bytes_from B64 (at + plain_length B64 i) is) → IsSome (bytes_from B64 at (i ∷ is))
  unfolding bytes_from
  more-some at i is (bytes, h) more =
      let there : IsSome (bytes_from B64 (at + length bytes) is) =
      subst (λ (n : ℕ). IsSome (bytes_from B64 (at + n) is)) (sym (laws.targets.encoding-length B64 at i bytes h)) more in
      ap (λ (r : Result (List ℕ) NoSpelling). is_some (elim r as (λ (x : Result (List ℕ) NoSpelling). Option (List ℕ)) [ Ok b ↦ in_front b (bytes_from B64 (at + length b) is) | Err why ↦ None ])) h
      ∙ in_front-there bytes (bytes_from B64 (at + length bytes) is) there

  -- ---- pieces

  short-size : (action : Action) (short : Bool) (asize : Option Bits) (t : ℕ) → in_range action true ≡ true → CountFits action asize
      → (2 ≤ plain_length B64 (short_branch (sized action short) asize t)) × (plain_length B64 (short_branch (sized action short) asize t) ≤ 3)
  unfolding short_branch counter_size
  short-size Jump short asize t range counts = let e = laws.pieces.short_jump-length B64 B64 t in (omega (arith, e), omega (arith, e))
  short-size Call short asize t range counts = cc
  short-size (Condition n) short asize t range counts = let e = laws.pieces.short_condition-length B64 B64 n (ltb-true n 16 range) t in (omega (arith, e), omega (arith, e))
  short-size (Count n) short asize t range counts =
      let e = laws.pieces.short_count-length B64 B64 n (ltb-true n 4 range) asize t in
      let c = count-small asize counts in
      (omega (arith, e), omega (arith, e, c))

  short-piece : (action : Action) (short : Bool) (asize : Option Bits) (t at : ℕ) → in_range action true ≡ true → CountFits action asize → t < 2 ^ 64
      → IsNear 1 at (plain_length B64 (short_branch (sized action short) asize t)) t → IsEncoded at (short_branch (sized action short) asize t)
  unfolding short_branch counter_size
  short-piece Jump short asize t at range counts below near =
      short-encoded laws One false 0xEB (short_code Jump B64) None t at (laws.codes.short-jump B64) (no_size One 0xEB (short_code Jump B64) t)
      (omega (arith, laws.pieces.short_jump-length B64 B64 t)) below near
  short-piece Call short asize t at range counts below near = cc
  short-piece (Condition n) short asize t at range counts below near =
      let lt = ltb-true n 16 range in
      short-encoded laws One false (0x70 + n) (short_code (Condition n) B64) None t at (laws.codes.short-condition n B64 lt) (no_size One (0x70 + n) (short_code (Condition n) B64) t)
      (omega (arith, laws.pieces.short_condition-length B64 B64 n lt t)) below near
  short-piece (Count n) short asize t at range counts below near =
      let lt = ltb-true n 4 range in
      let c = count-small asize counts in
      short-encoded laws One true (0xE0 + n) (short_code (Count n) B64) asize t at (laws.codes.short-count n B64 lt) (count_size One (0xE0 + n) (short_code (Count n) B64) asize t counts)
      (omega (arith, c, laws.pieces.short_count-length B64 B64 n lt asize t)) below near

  skip-size : (t : ℕ) → plain_length B64 (skip B64 t) ≡ 2
  unfolding skip
  skip-size t = laws.pieces.short_jump-length B64 B64 t

  skip-piece : (t at : ℕ) → t < 2 ^ 64 → IsNear 1 at (plain_length B64 (skip B64 t)) t → IsEncoded at (skip B64 t)
  unfolding skip
  skip-piece t at below near =
      short-encoded laws One false 0xEB (short_code Jump B64) None t at (laws.codes.short-jump B64) (no_size One 0xEB (short_code Jump B64) t)
      (omega (arith, laws.pieces.short_jump-length B64 B64 t)) below near

  near-size : (action : Action) (short : Bool) (t : ℕ) → is_counting action ≡ false → in_range action short ≡ true
      → (1 ≤ plain_length B64 (branch_to (near_code action B64) None t)) × (plain_length B64 (branch_to (near_code action B64) None t) ≤ 6)
  near-size Jump short t h range = let e = laws.pieces.near_jump-length B64 B64 t in (omega (arith, e), omega (arith, e))
  near-size Call short t h range = let e = laws.pieces.near_call-length B64 B64 t in (omega (arith, e), omega (arith, e))
  near-size (Condition n) short t h range = let e = laws.pieces.near_condition-length B64 B64 n (ltb-true n 16 range) t in (omega (arith, e), omega (arith, e))
  near-size (Count n) short t h range = cc

  near-piece : (action : Action) (short : Bool) (t at : ℕ) → is_counting action ≡ false → in_range action short ≡ true → t < 2 ^ 64
      → IsNear 4 at (plain_length B64 (branch_to (near_code action B64) None t)) t → IsEncoded at (branch_to (near_code action B64) None t)
  near-piece Jump short t at h range below near =
      near-encoded laws One 0xE9 (near_code Jump B64) t at (laws.codes.near-jump B64) (omega (arith, near-size Jump short t refl refl)) below near
  near-piece Call short t at h range below near =
      near-encoded laws One 0xE8 (near_code Call B64) t at (laws.codes.near-call B64) (omega (arith, laws.pieces.near_call-length B64 B64 t)) below near
  near-piece (Condition n) short t at h range below near =
      let lt = ltb-true n 16 range in
      near-encoded laws M0f (0x80 + n) (near_code (Condition n) B64) t at (laws.codes.near-condition n B64 lt) (omega (arith, laws.pieces.near_condition-length B64 B64 n lt t)) below near
  near-piece (Count n) short t at h range below near = cc

  jump-piece : (slot at : ℕ) → slot < 2 ^ 64 → IsNear 4 at (plain_length B64 (through_slot (far_code Jump) slot)) slot → IsEncoded at (through_slot (far_code Jump) slot)
  jump-piece slot at below near = slot-encoded laws 4 (far_code Jump) slot at laws.codes.far-jump (omega (arith, laws.pieces.slot_jump-length B64 slot)) below near

  call-piece : (slot at : ℕ) → slot < 2 ^ 64 → IsNear 4 at (plain_length B64 (through_slot (far_code Call) slot)) slot → IsEncoded at (through_slot (far_code Call) slot)
  call-piece slot at below near = slot-encoded laws 2 (far_code Call) slot at laws.codes.far-call (omega (arith, laws.pieces.slot_call-length B64 slot)) below near

  -- ---- images

  -- a bridge, where its last instruction has one behind the other two
  bridge-spelled : (action : Action) (short : Bool) (asize : Option Bits) (at : ℕ) (last : Instr) → in_range action true ≡ true → CountFits action asize
      → plain_length B64 last < 128 → at + bridge_inner B64 (sized action short) asize + plain_length B64 last ≤ 2 ^ 64
      → IsEncoded (at + bridge_inner B64 (sized action short) asize) last → IsSome (bytes_from B64 at (bridge B64 (sized action short) asize at last))
  unfolding bridge bridge_inner
  bridge-spelled action short asize at last range counts few within e =
      let b = sized action short in
      let one = plain_length B64 (short_branch b asize 0) in
      let two = plain_length B64 (skip B64 0) in
      let onto = modulo_width B64 (at + (one + two)) in
      let over = modulo_width B64 (at + (one + two) + plain_length B64 last) in
      let size = short-size action short asize 0 range counts in
      let skips = skip-size 0 in
      let len1 : plain_length B64 (short_branch b asize onto) ≡ one = laws.pieces.short-length B64 b asize onto in
      let len2 : plain_length B64 (skip B64 over) ≡ two = laws.pieces.skip-length B64 over in
      let near1 : IsNear 1 at one onto =
      subst (λ (n : ℕ). IsNear 1 at one (modulo_width B64 n)) (omega arith) (laws.distances.over-reached at one two (omega (arith, size)) (omega (arith, within)) (omega (arith, skips))) in
      let near2 : IsNear 1 (at + one) two over =
      subst (λ (n : ℕ). IsNear 1 (at + one) two (modulo_width B64 n)) (omega arith) (laws.distances.over-reached (at + one) two (plain_length B64 last) (omega (arith, skips)) (omega (arith, within)) few) in
      let first = short-piece action short asize onto at range counts (wrapped-small (at + (one + two))) (subst (λ (n : ℕ). IsNear 1 at n onto) (sym len1) near1) in
      let second = skip-piece over (at + one) (wrapped-small (at + (one + two) + plain_length B64 last)) (subst (λ (n : ℕ). IsNear 1 (at + one) n over) (sym len2) near2) in
      let third : IsSome (bytes_from B64 (at + one + two) (last ∷ [])) =
      subst (λ (n : ℕ). IsSome (bytes_from B64 n (last ∷ []))) (omega arith) (one-some (at + (one + two)) last e) in
      let rest : IsSome (bytes_from B64 (at + one) (skip B64 over ∷ last ∷ [])) =
      more-some (at + one) (skip B64 over) (last ∷ []) second (subst (λ (n : ℕ). IsSome (bytes_from B64 (at + one + n) (last ∷ []))) (sym len2) third) in
      more-some at (short_branch b asize onto) (skip B64 over ∷ last ∷ []) first
      (subst (λ (n : ℕ). IsSome (bytes_from B64 (at + n) (skip B64 over ∷ last ∷ []))) (sym len1) rest)

  far-spelled : (action : Action) (short : Bool) (at slot : ℕ) → is_counting action ≡ false → in_range action short ≡ true
      → at + pieces_length B64 (far_image B64 (sized action short) at action slot) ≤ 2 ^ 64
      → IsSlotNear at (pieces_length B64 (far_image B64 (sized action short) at action slot)) slot
      → IsSome (bytes_from B64 at (far_image B64 (sized action short) at action slot))
  unfolding far_image
  far-spelled Jump short at slot h range within (below, low, high) =
      let len = laws.pieces.slot_jump-length B64 slot in
      one-some at (through_slot (far_code Jump) slot)
      (jump-piece slot at below (laws.distances.reached 4 (2 ^ 31) refl (omega arith) at (plain_length B64 (through_slot (far_code Jump) slot)) slot (omega (arith, len)) (omega (arith, within)) below (omega (arith, low), omega (arith, high))))
  far-spelled Call short at slot h range within (below, low, high) =
      let len = laws.pieces.slot_call-length B64 slot in
      one-some at (through_slot (far_code Call) slot)
      (call-piece slot at below (laws.distances.reached 4 (2 ^ 31) refl (omega arith) at (plain_length B64 (through_slot (far_code Call) slot)) slot (omega (arith, len)) (omega (arith, within)) below (omega (arith, low), omega (arith, high))))
  far-spelled (Condition n) short at slot h range within (below, low, high) =
      let lt = laws.pieces.opposite_condition-small n (ltb-true n 16 range) in
      let code = short_code (Condition (opposite_condition n)) B64 in
      let last = through_slot (far_code Jump) slot in
      let len = laws.pieces.slot_jump-length B64 slot in
      let one = plain_length B64 (branch_to code None 0) in
      let over = modulo_width B64 (at + one + plain_length B64 last) in
      let long = laws.pieces.short_condition-length B64 B64 (opposite_condition n) lt 0 in
      let same = laws.pieces.branch_to-length B64 code None over in
      let near = laws.distances.over-reached at one (plain_length B64 last) (omega (arith, long)) (omega (arith, within, same)) (omega (arith, len)) in
      let first = short-encoded laws One false (0x70 + opposite_condition n) code None over at (laws.codes.short-condition (opposite_condition n) B64 lt) (no_size One (0x70 + opposite_condition n) code over)
      (omega (arith, long, same)) (wrapped-small (at + one + plain_length B64 last)) (subst (λ (n : ℕ). IsNear 1 at n over) (sym same) near) in
      let at_last = at + plain_length B64 (branch_to code None over) in
      more-some at (branch_to code None over) (last ∷ []) first
      (one-some at_last last (jump-piece slot at_last below (laws.distances.reached 4 (2 ^ 31) refl (omega arith) at_last (plain_length B64 last) slot (omega (arith, len)) (omega (arith, within)) below (omega (arith, low), omega (arith, high)))))
  far-spelled (Count n) short at slot h range within near = cc

  -- the length of a bridge
  bridge-size : (b : RelativeBranch) (asize : Option Bits) (at : ℕ) (last : Instr) → pieces_length B64 (bridge B64 b asize at last) ≡ bridge_inner B64 b asize + plain_length B64 last
  unfolding bridge bridge_inner
  bridge-size b asize at last =
      let inner = plain_length B64 (short_branch b asize 0) + plain_length B64 (skip B64 0) in
      omega (arith, laws.pieces.short-length B64 b asize (modulo_width B64 (at + inner)), laws.pieces.skip-length B64 (modulo_width B64 (at + inner + plain_length B64 last)))

  jump-near : (action : Action) (short : Bool) (goal at : ℕ) → goal < 2 ^ 64 → IsNear 4 at (plain_length B64 (bridge_jump (sized action short) goal)) goal → IsEncoded at (bridge_jump (sized action short) goal)
  unfolding bridge_jump
  jump-near action short goal at below near = near-piece Jump short goal at refl refl below near

  jump-size : (action : Action) (short : Bool) (goal : ℕ) → (1 ≤ plain_length B64 (bridge_jump (sized action short) goal)) × (plain_length B64 (bridge_jump (sized action short) goal) ≤ 6)
  unfolding bridge_jump
  jump-size action short goal = near-size Jump short goal refl refl

  bridged : (i : Instr) (action : Action) (short : Bool) (at goal : ℕ) → in_range action true ≡ true → CountFits action i.asize
      → at + pieces_length B64 (bridge B64 (sized action short) i.asize at (bridge_jump (sized action short) goal)) ≤ 2 ^ 64 → goal < 2 ^ 64
      → (at + pieces_length B64 (bridge B64 (sized action short) i.asize at (bridge_jump (sized action short) goal)) ≤ goal + 2 ^ 31)
      × (goal < at + pieces_length B64 (bridge B64 (sized action short) i.asize at (bridge_jump (sized action short) goal)) + 2 ^ 31)
      → IsSome (bytes_from B64 at (bridge B64 (sized action short) i.asize at (bridge_jump (sized action short) goal)))
  bridged i action short at goal range counts within below reach =
      let b = sized action short in
      let last = bridge_jump b goal in
      let size = bridge-size b i.asize at last in
      let long = jump-size action short goal in
      let at_last = at + bridge_inner B64 b i.asize in
      let e = jump-near action short goal at_last below
      (laws.distances.reached 4 (2 ^ 31) refl (omega arith) at_last (plain_length B64 last) goal (omega (arith, long)) (omega (arith, within, size)) below
      (omega (arith, reach.0, size), omega (arith, reach.1, size))) in
      bridge-spelled action short i.asize at last range counts (omega (arith, long)) (omega (arith, within, size)) e

  far_bridged : (i : Instr) (action : Action) (short : Bool) (at slot : ℕ) → in_range action true ≡ true → CountFits action i.asize
      → at + pieces_length B64 (bridge B64 (sized action short) i.asize at (through_slot (far_code Jump) slot)) ≤ 2 ^ 64
      → IsSlotNear at (pieces_length B64 (bridge B64 (sized action short) i.asize at (through_slot (far_code Jump) slot))) slot
      → IsSome (bytes_from B64 at (bridge B64 (sized action short) i.asize at (through_slot (far_code Jump) slot)))
  far_bridged i action short at slot range counts within (below, low, high) =
      let b = sized action short in
      let last = through_slot (far_code Jump) slot in
      let size = bridge-size b i.asize at last in
      let long = laws.pieces.slot_jump-length B64 slot in
      let at_last = at + bridge_inner B64 b i.asize in
      let e = jump-piece slot at_last below
      (laws.distances.reached 4 (2 ^ 31) refl (omega arith) at_last (plain_length B64 last) slot (omega (arith, long)) (omega (arith, within, size)) below
      (omega (arith, low, size), omega (arith, high, size))) in
      bridge-spelled action short i.asize at last range counts (omega (arith, long)) (omega (arith, within, size)) e

  -- **an image that reaches its goal, and its slot, has its bytes**
  pub form-spelled : (i : Instr) (action : Action) (short : Bool) (form : Form) (at goal slot : ℕ) → in_range action short ≡ true → CountFits action i.asize
      → form_fits action short form ≡ true → at + pieces_length B64 (branch_image B64 i (sized action short) form at goal slot) ≤ 2 ^ 64 → goal < 2 ^ 64
      → Reaches (form_reach B64 (sized action short) i.asize form) (pieces_length B64 (branch_image B64 i (sized action short) form at goal slot)) at goal
      → (has_far_form form ≡ true → IsSlotNear at (pieces_length B64 (branch_image B64 i (sized action short) form at goal slot)) slot)
      → IsSome (bytes_from B64 at (branch_image B64 i (sized action short) form at goal slot))
  unfolding branch_image form_reach near_reach bridge_reach
  form-spelled i (Count n) short Itself at goal slot range counts fits within below reach far = cc
  form-spelled i Jump true Itself at goal slot range counts fits within below reach far = cc
  form-spelled i Jump false Itself at goal slot range counts fits within below reach far = cc
  form-spelled i Call true Itself at goal slot range counts fits within below reach far = cc
  form-spelled i Call false Itself at goal slot range counts fits within below reach far = cc
  form-spelled i (Condition n) true Itself at goal slot range counts fits within below reach far = cc
  form-spelled i (Condition n) false Itself at goal slot range counts fits within below reach far = cc
  form-spelled i action short Short at goal slot range counts fits within below reach far =
      let b = sized action short in
      let ranged = short_range action short fits range in
      let size = short-size action short i.asize goal ranged counts in
      let len = plain_length B64 (short_branch b i.asize goal) in
      one-some at (short_branch b i.asize goal)
      (short-piece action short i.asize goal at ranged counts below
      (laws.distances.reached 1 128 refl (omega arith) at len goal (omega (arith, size)) (omega (arith, within)) below (omega (arith, reach.0), omega (arith, reach.1))))
  form-spelled i action short NearForm at goal slot range counts fits within below reach far =
      let none = no_near_count action short fits in
      let size = near-size action short goal none range in
      let len = plain_length B64 (branch_to (near_code action B64) None goal) in
      one-some at (branch_to (near_code action B64) None goal)
      (near-piece action short goal at none range below
      (laws.distances.reached 4 (2 ^ 31) refl (omega arith) at len goal (omega (arith, size)) (omega (arith, within)) below (omega (arith, reach.0), omega (arith, reach.1))))
  form-spelled i action short Far at goal slot range counts fits within below reach far =
      far-spelled action short at slot (no_far_count action short fits) range within (far refl)
  form-spelled i action short Bridge at goal slot range counts fits within below reach far =
      bridged i action short at goal (bridge_range action short Bridge (inl refl) fits range) counts within below reach
  form-spelled i action short FarBridge at goal slot range counts fits within below reach far =
      far_bridged i action short at slot (bridge_range action short FarBridge (inr refl) fits range) counts within (far refl)
