-- The choices of an instruction are those of an item of a plan.
use Rattle.std.proofs.Common.{◌≡◌, ℕ, ◌+◌, ◌<◌, ◌≤◌, Bool, true, false, ◌&&◌, List, [], ◌∷◌, map, length, refl, slice_get, arith}
use Rattle.std.specs.Prelude.{Option, Some, None, nat_lt, nat_le, IsTrue}
use Rattle.std.specs.List.{list_all}
use Rattle.std.proofs.lemmas.Bool.{and_parts, le-leb, leb-true, ltb-true}
use Rattle.x86_values.specs.declared.Bits.{Bits}
use Rattle.x86_values.specs.declared.Bits.TheVariants.{B16, B32, B64}
use Rattle.x86_values.specs.declared.Instr.{Instr}
use Rattle.instruction_parts.specs.Counting.{is_64}
use Rattle.instruction_parts.specs.Sizes.{exists_in}
use Rattle.instruction_parts.specs.declared.row_types.Row.{Row}
use Rattle.row_relation.specs.Spells.{Spells}
use Rattle.opcode_rows.specs.Table.{table}
use Rattle.branch_sizes.specs.declared.plan.Choice.{Choice}
use Rattle.branch_sizes.specs.declared.plan.Form.{Form}
use Rattle.branch_sizes.specs.declared.plan.Form.TheVariants.{Itself, Short, Near as NearForm, Far, Bridge, FarBridge}
use Rattle.branch_sizes.specs.declared.plan.Reach.TheVariants.{Always}
use Rattle.branch_sizes.specs.Plan.{lengths_rise_from, is_fit_reach, forms_differ}
use Rattle.move_goals.specs.MovedTargets.Targets.{plain_length}
use Rattle.move_goals.specs.declared.branch_forms.branch.Action.{Action}
use Rattle.move_goals.specs.declared.branch_forms.branch.Action.TheVariants.{Jump, Call, Condition, Count}
use Rattle.move_goals.specs.declared.branch_forms.branch.RelativeBranch.{RelativeBranch}
use Rattle.move_goals.specs.BranchForms.LawsBelow.{FormLawsBelow}
use Rattle.move_goals.specs.BranchForms.Branches.{branch_of, is_pair, in_range, far_code, opposite_condition}
use Rattle.move_goals.specs.BranchForms.Images.{counter_size, short_branch, skip, bridge_jump, bridge_inner, through_slot, form_length}
use Rattle.move_goals.specs.BranchForms.Lengths.{size_byte, address_byte, offset_bytes}
use Rattle.move_goals.specs.BranchForms.Choices.{in_64, branch_forms, near_reach, bridge_reach, form_reach, branch_choice, choices_by, choices_of}
use Rattle.move_goals.proofs.BranchForms.Pieces.{by_pair, short_jump-length, short_condition-length, short_count-length, near_jump-length, near_call-length, near_condition-length, slot_call-length, slot_jump-length, opposite_condition-small}
use Rattle.move_goals.proofs.BranchForms.Lengths.{far_size, form_size, branch-length, other-length}
use Rattle.move_goals.proofs.BranchForms.Offsets.{branch-range, branch-pair}

-- ---- all but the lengths

-- one to three choices of forms that differ, each of a fit reach
unfoldable pub has_shape : List Choice → Bool
has_shape cs =
    nat_lt 0 (length cs) && (nat_le (length cs) 3 && (list_all (λ c. is_fit_reach c.reach) cs && forms_differ cs))

-- a branch by its parts
abbrev pub branch_with : Action → Bool → Bits → RelativeBranch
branch_with action is_short size = record { action = action; is_short = is_short; size = size }

-- the choice of what is no branch
abbrev own_choice : Bits → Instr → Choice
own_choice bits i = record { form = Itself; len = form_length bits i Itself; reach = Always }

-- the choices of a branch
abbrev pub branch_choices : Bits → Instr → Action → Bool → Bits → List Choice
branch_choices bits i action is_short size = map (branch_choice bits i (branch_with action is_short size)) (branch_forms bits action is_short)

-- the choices of a branch have the shape that a plan requires, in each mode and operand size that go together
pub branch-shape : (i : Instr) (action : Action) (is_short : Bool) (bits size : Bits) → is_pair bits size ≡ true → has_shape (branch_choices bits i action is_short size) ≡ true
unfolding has_shape branch_forms form_reach near_reach bridge_reach
branch-shape i Jump true = by_pair (λ bits size. has_shape (branch_choices bits i Jump true size) ≡ true) refl refl refl refl refl
branch-shape i Jump false = by_pair (λ bits size. has_shape (branch_choices bits i Jump false size) ≡ true) refl refl refl refl refl
branch-shape i Call true = by_pair (λ bits size. has_shape (branch_choices bits i Call true size) ≡ true) refl refl refl refl refl
branch-shape i Call false = by_pair (λ bits size. has_shape (branch_choices bits i Call false size) ≡ true) refl refl refl refl refl
branch-shape i (Condition n) true = by_pair (λ bits size. has_shape (branch_choices bits i (Condition n) true size) ≡ true) refl refl refl refl refl
branch-shape i (Condition n) false = by_pair (λ bits size. has_shape (branch_choices bits i (Condition n) false size) ≡ true) refl refl refl refl refl
branch-shape i (Count n) true = by_pair (λ bits size. has_shape (branch_choices bits i (Count n) true size) ≡ true) refl refl refl refl refl
branch-shape i (Count n) false = by_pair (λ bits size. has_shape (branch_choices bits i (Count n) false size) ≡ true) refl refl refl refl refl

-- ---- small numbers

size_byte-small : (bits size : Bits) → size_byte bits size ≤ 1
size_byte-small B16 B16 = omega arith
size_byte-small B16 B32 = omega arith
size_byte-small B16 B64 = omega arith
size_byte-small B32 B16 = omega arith
size_byte-small B32 B32 = omega arith
size_byte-small B32 B64 = omega arith
size_byte-small B64 B16 = omega arith
size_byte-small B64 B32 = omega arith
size_byte-small B64 B64 = omega arith

own-size_byte : (bits : Bits) → size_byte bits bits ≡ 0
own-size_byte B16 = refl
own-size_byte B32 = refl
own-size_byte B64 = refl

address_byte-small : (bits : Bits) (asize : Option Bits) → address_byte bits asize ≤ 1
address_byte-small bits None = omega arith
address_byte-small B16 (Some B16) = omega arith
address_byte-small B16 (Some B32) = omega arith
address_byte-small B16 (Some B64) = omega arith
address_byte-small B32 (Some B16) = omega arith
address_byte-small B32 (Some B32) = omega arith
address_byte-small B32 (Some B64) = omega arith
address_byte-small B64 (Some B16) = omega arith
address_byte-small B64 (Some B32) = omega arith
address_byte-small B64 (Some B64) = omega arith

offset_bytes-small : (bits size : Bits) → (2 ≤ offset_bytes bits size) × (offset_bytes bits size ≤ 4)
offset_bytes-small B16 B16 = (omega arith, omega arith)
offset_bytes-small B16 B32 = (omega arith, omega arith)
offset_bytes-small B16 B64 = (omega arith, omega arith)
offset_bytes-small B32 B16 = (omega arith, omega arith)
offset_bytes-small B32 B32 = (omega arith, omega arith)
offset_bytes-small B32 B64 = (omega arith, omega arith)
offset_bytes-small B64 B16 = (omega arith, omega arith)
offset_bytes-small B64 B32 = (omega arith, omega arith)
offset_bytes-small B64 B64 = (omega arith, omega arith)

-- ---- lengths that rise

-- the lengths of one choice rise
pub rises-one : (c : Choice) → 1 ≤ c.len → c.len ≤ 15 → IsTrue (lengths_rise_from 1 (c ∷ []))
rises-one c low high = rw (le-leb 1 c.len low, le-leb c.len 15 high) refl

rises-two : (c d : Choice) → 1 ≤ c.len → c.len ≤ d.len → d.len ≤ 15 → IsTrue (lengths_rise_from 1 (c ∷ d ∷ []))
rises-two c d low next high =
    let c_high : c.len ≤ 15 = omega arith in
    rw (le-leb 1 c.len low, le-leb c.len 15 c_high, le-leb c.len d.len next, le-leb d.len 15 high) refl

rises-three : (c d e : Choice) → 1 ≤ c.len → c.len ≤ d.len → d.len ≤ e.len → e.len ≤ 15 → IsTrue (lengths_rise_from 1 (c ∷ d ∷ e ∷ []))
rises-three c d e low next last high =
    let c_high : c.len ≤ 15 = omega arith in
    let d_high : d.len ≤ 15 = omega arith in
    rw (le-leb 1 c.len low, le-leb c.len 15 c_high, le-leb c.len d.len next, le-leb d.len 15 d_high, le-leb d.len e.len last, le-leb e.len 15 high) refl

-- ---- the lengths of the forms

slot_call-in : (bits : Bits) → is_64 bits ≡ true → plain_length bits (through_slot (far_code Call) 0) ≡ 6
slot_call-in B16 h = cc
slot_call-in B32 h = cc
slot_call-in B64 h = slot_call-length B64 0

slot_jump-in : (bits : Bits) → is_64 bits ≡ true → plain_length bits (through_slot (far_code Jump) 0) ≡ 6
slot_jump-in B16 h = cc
slot_jump-in B32 h = cc
slot_jump-in B64 h = slot_jump-length B64 0

jump-short : (bits size : Bits) (i : Instr) (s : Bool) → is_pair bits size ≡ true → form_size bits i (branch_with Jump s size) Short ≡ 2 + size_byte bits size
unfolding form_size short_branch counter_size
jump-short bits size i s h = short_jump-length bits size 0

condition-short : (bits size : Bits) (i : Instr) (s : Bool) (n : ℕ) → n < 16 → is_pair bits size ≡ true → form_size bits i (branch_with (Condition n) s size) Short ≡ 2 + size_byte bits size
unfolding form_size short_branch counter_size
condition-short bits size i s n lt h = short_condition-length bits size n lt 0

count-short : (bits size : Bits) (i : Instr) (s : Bool) (n : ℕ) → n < 4 → is_pair bits size ≡ true
    → form_size bits i (branch_with (Count n) s size) Short ≡ 2 + size_byte bits size + address_byte bits i.asize
unfolding form_size short_branch counter_size
count-short bits size i s n lt h = short_count-length bits size n lt i.asize 0

jump-near : (bits size : Bits) (i : Instr) (s : Bool) → is_pair bits size ≡ true → form_size bits i (branch_with Jump s size) NearForm ≡ 1 + size_byte bits size + offset_bytes bits size
unfolding form_size
jump-near bits size i s h = near_jump-length bits size 0

call-near : (bits size : Bits) (i : Instr) (s : Bool) → is_pair bits size ≡ true → form_size bits i (branch_with Call s size) NearForm ≡ 1 + size_byte bits size + offset_bytes bits size
unfolding form_size
call-near bits size i s h = near_call-length bits size 0

condition-near : (bits size : Bits) (i : Instr) (s : Bool) (n : ℕ) → n < 16 → is_pair bits size ≡ true
    → form_size bits i (branch_with (Condition n) s size) NearForm ≡ 2 + size_byte bits size + offset_bytes bits size
unfolding form_size
condition-near bits size i s n lt h = near_condition-length bits size n lt 0

jump-far : (bits size : Bits) (i : Instr) (s : Bool) → is_64 bits ≡ true → form_size bits i (branch_with Jump s size) Far ≡ 6
unfolding form_size far_size
jump-far bits size i s h = slot_jump-in bits h

call-far : (bits size : Bits) (i : Instr) (s : Bool) → is_64 bits ≡ true → form_size bits i (branch_with Call s size) Far ≡ 6
unfolding form_size far_size
call-far bits size i s h = slot_call-in bits h

condition-far : (bits size : Bits) (i : Instr) (s : Bool) (n : ℕ) → n < 16 → is_pair bits size ≡ true → is_64 bits ≡ true
    → form_size bits i (branch_with (Condition n) s size) Far ≡ 2 + size_byte bits size + 6
unfolding form_size far_size
condition-far bits size i s n lt pair h =
    omega (arith, short_condition-length bits size (opposite_condition n) (opposite_condition-small n lt) 0, slot_jump-in bits h)

-- the two branches before the last jump of a bridge
count-inner : (bits size : Bits) (asize : Option Bits) (s : Bool) (n : ℕ) → n < 4 → is_pair bits size ≡ true
    → bridge_inner bits (branch_with (Count n) s size) asize ≡ 2 + size_byte bits size + address_byte bits asize + 2
unfolding bridge_inner short_branch counter_size skip
count-inner bits size asize s n lt h =
    omega (arith, short_count-length bits size n lt asize 0, short_jump-length bits bits 0, own-size_byte bits)

count-bridge : (bits size : Bits) (i : Instr) (s : Bool) (n : ℕ) → n < 4 → is_pair bits size ≡ true
    → form_size bits i (branch_with (Count n) s size) Bridge ≡ 2 + size_byte bits size + address_byte bits i.asize + 2 + (1 + size_byte bits size + offset_bytes bits size)
unfolding form_size bridge_jump
count-bridge bits size i s n lt h = omega (arith, count-inner bits size i.asize s n lt h, near_jump-length bits size 0)

count-far : (bits size : Bits) (i : Instr) (s : Bool) (n : ℕ) → n < 4 → is_pair bits size ≡ true → is_64 bits ≡ true
    → form_size bits i (branch_with (Count n) s size) FarBridge ≡ 2 + size_byte bits size + address_byte bits i.asize + 2 + 6
unfolding form_size
count-far bits size i s n lt pair h = omega (arith, count-inner bits size i.asize s n lt pair, slot_jump-in bits h)

-- what the choices of an item of a plan are
abbrev pub AreFit : List Choice → Type 0
AreFit cs =
    (0 < length cs) × (length cs ≤ 3) × IsTrue (lengths_rise_from 1 cs) × IsTrue (list_all (λ c. is_fit_reach c.reach) cs) × IsTrue (forms_differ cs)

module _ (laws : FormLawsBelow) where
  -- ---- the choices of a branch

  -- two forms in every mode and one more in 64-bit mode
  rise-two : (bits : Bits) (i : Instr) (b : RelativeBranch) (first second last : Form) → branch_of i ≡ Some b
      → 1 ≤ form_size bits i b first → form_size bits i b first ≤ form_size bits i b second → form_size bits i b second ≤ 15
      → (is_64 bits ≡ true → (form_size bits i b second ≤ form_size bits i b last) × (form_size bits i b last ≤ 15))
      → IsTrue (lengths_rise_from 1 (map (branch_choice bits i b) (first ∷ second ∷ in_64 bits last)))
  rise-two B16 i b first second last e low next high more =
      rises-two (branch_choice B16 i b first) (branch_choice B16 i b second)
      (omega (arith, branch-length laws B16 i b first e)) (omega (arith, branch-length laws B16 i b first e, branch-length laws B16 i b second e))
      (omega (arith, branch-length laws B16 i b second e))
  rise-two B32 i b first second last e low next high more =
      rises-two (branch_choice B32 i b first) (branch_choice B32 i b second)
      (omega (arith, branch-length laws B32 i b first e)) (omega (arith, branch-length laws B32 i b first e, branch-length laws B32 i b second e))
      (omega (arith, branch-length laws B32 i b second e))
  rise-two B64 i b first second last e low next high more =
      rises-three (branch_choice B64 i b first) (branch_choice B64 i b second) (branch_choice B64 i b last)
      (omega (arith, branch-length laws B64 i b first e)) (omega (arith, branch-length laws B64 i b first e, branch-length laws B64 i b second e))
      (omega (arith, branch-length laws B64 i b second e, branch-length laws B64 i b last e, (more refl).0))
      (omega (arith, branch-length laws B64 i b last e, (more refl).1))

  -- one form in every mode and one more in 64-bit mode
  rise-one : (bits : Bits) (i : Instr) (b : RelativeBranch) (first last : Form) → branch_of i ≡ Some b
      → 1 ≤ form_size bits i b first → form_size bits i b first ≤ 15
      → (is_64 bits ≡ true → (form_size bits i b first ≤ form_size bits i b last) × (form_size bits i b last ≤ 15))
      → IsTrue (lengths_rise_from 1 (map (branch_choice bits i b) (first ∷ in_64 bits last)))
  rise-one B16 i b first last e low high more =
      rises-one (branch_choice B16 i b first) (omega (arith, branch-length laws B16 i b first e)) (omega (arith, branch-length laws B16 i b first e))
  rise-one B32 i b first last e low high more =
      rises-one (branch_choice B32 i b first) (omega (arith, branch-length laws B32 i b first e)) (omega (arith, branch-length laws B32 i b first e))
  rise-one B64 i b first last e low high more =
      rises-two (branch_choice B64 i b first) (branch_choice B64 i b last)
      (omega (arith, branch-length laws B64 i b first e)) (omega (arith, branch-length laws B64 i b first e, branch-length laws B64 i b last e, (more refl).0))
      (omega (arith, branch-length laws B64 i b last e, (more refl).1))

  branch-rise : (bits size : Bits) (i : Instr) (action : Action) (s : Bool) → branch_of i ≡ Some (branch_with action s size)
      → is_pair bits size ≡ true → in_range action s ≡ true → IsTrue (lengths_rise_from 1 (branch_choices bits i action s size))
  unfolding branch_forms
  branch-rise bits size i Jump true e pair range =
      let short = jump-short bits size i true pair in
      let near = jump-near bits size i true pair in
      let sb = size_byte-small bits size in
      let ob = offset_bytes-small bits size in
      rise-two bits i (branch_with Jump true size) Short NearForm Far e (omega (arith, short)) (omega (arith, short, near, ob.0)) (omega (arith, near, sb, ob.1))
      (λ h. (omega (arith, near, sb, ob.1, jump-far bits size i true h), omega (arith, jump-far bits size i true h)))
  branch-rise bits size i Jump false e pair range =
      let near = jump-near bits size i false pair in
      let sb = size_byte-small bits size in
      let ob = offset_bytes-small bits size in
      rise-one bits i (branch_with Jump false size) NearForm Far e (omega (arith, near)) (omega (arith, near, sb, ob.1))
      (λ h. (omega (arith, near, sb, ob.1, jump-far bits size i false h), omega (arith, jump-far bits size i false h)))
  branch-rise bits size i Call true e pair range = cc
  branch-rise bits size i Call false e pair range =
      let near = call-near bits size i false pair in
      let sb = size_byte-small bits size in
      let ob = offset_bytes-small bits size in
      rise-one bits i (branch_with Call false size) NearForm Far e (omega (arith, near)) (omega (arith, near, sb, ob.1))
      (λ h. (omega (arith, near, sb, ob.1, call-far bits size i false h), omega (arith, call-far bits size i false h)))
  branch-rise bits size i (Condition n) true e pair range =
      let lt = ltb-true n 16 range in
      let short = condition-short bits size i true n lt pair in
      let near = condition-near bits size i true n lt pair in
      let sb = size_byte-small bits size in
      let ob = offset_bytes-small bits size in
      rise-two bits i (branch_with (Condition n) true size) Short NearForm Far e (omega (arith, short)) (omega (arith, short, near, ob.0)) (omega (arith, near, sb, ob.1))
      (λ h. (omega (arith, near, sb, ob.1, condition-far bits size i true n lt pair h), omega (arith, sb, condition-far bits size i true n lt pair h)))
  branch-rise bits size i (Condition n) false e pair range =
      let lt = ltb-true n 16 range in
      let near = condition-near bits size i false n lt pair in
      let sb = size_byte-small bits size in
      let ob = offset_bytes-small bits size in
      rise-one bits i (branch_with (Condition n) false size) NearForm Far e (omega (arith, near)) (omega (arith, near, sb, ob.1))
      (λ h. (omega (arith, near, sb, ob.1, condition-far bits size i false n lt pair h), omega (arith, sb, condition-far bits size i false n lt pair h)))
  branch-rise bits size i (Count n) true e pair range =
      let lt = ltb-true n 4 range in
      let short = count-short bits size i true n lt pair in
      let bridged = count-bridge bits size i true n lt pair in
      let sb = size_byte-small bits size in
      let cb = address_byte-small bits i.asize in
      let ob = offset_bytes-small bits size in
      rise-two bits i (branch_with (Count n) true size) Short Bridge FarBridge e
      (omega (arith, short)) (omega (arith, short, bridged)) (omega (arith, bridged, sb, cb, ob.1))
      (λ h. (omega (arith, bridged, sb, ob.1, count-far bits size i true n lt pair h), omega (arith, sb, cb, count-far bits size i true n lt pair h)))
  branch-rise bits size i (Count n) false e pair range = cc

  -- ---- the choices of what is spelled

  are-fit : (cs : List Choice) → has_shape cs ≡ true → IsTrue (lengths_rise_from 1 cs) → AreFit cs
  unfolding has_shape
  are-fit cs h rise =
      let reached = list_all (λ c. is_fit_reach c.reach) cs in
      let few = nat_le (length cs) 3 && (reached && forms_differ cs) in
      let tail = (and_parts (nat_lt 0 (length cs)) few h).1 in
      let rest = (and_parts (nat_le (length cs) 3) (reached && forms_differ cs) tail).1 in (
        ltb-true 0 (length cs) (and_parts (nat_lt 0 (length cs)) few h).0,
        leb-true (length cs) 3 (and_parts (nat_le (length cs) 3) (reached && forms_differ cs) tail).0,
        rise,
        (and_parts reached (forms_differ cs) rest).0,
        (and_parts reached (forms_differ cs) rest).1,
      )

  own-shape : (bits : Bits) (i : Instr) → has_shape (choices_by bits i None) ≡ true
  unfolding has_shape
  own-shape bits i = refl

  branch-fit : (bits : Bits) (i : Instr) (b : RelativeBranch) → branch_of i ≡ Some b → is_pair bits b.size ≡ true → in_range b.action b.is_short ≡ true → AreFit (choices_by bits i (Some b))
  branch-fit bits i b e pair range =
      are-fit (choices_by bits i (Some b)) (branch-shape i b.action b.is_short bits b.size pair) (branch-rise bits b.size i b.action b.is_short e pair range)

  -- by whether the instruction is a branch
  by-branch : (bits : Bits) (i : Instr) (row : Row) (o : Option RelativeBranch) → branch_of i ≡ o → slice_get table i.code.0 ≡ Some row → exists_in bits row ≡ true
      → 1 ≤ plain_length bits i → plain_length bits i ≤ 15 → AreFit (choices_by bits i o)
  by-branch bits i row None e at stands low high =
      let long = other-length laws bits i Itself e in
      are-fit (choices_by bits i None) (own-shape bits i) (rises-one (own_choice bits i) (omega (arith, long)) (omega (arith, long)))
  by-branch bits i row (Some b) e at stands low high =
      branch-fit bits i b e (branch-pair laws bits i row b at e stands) (branch-range laws i row b at e)

  -- **the choices of what is spelled are fit**
  pub spelled-fit : (bits : Bits) (ip : ℕ) (bytes : List ℕ) (i : Instr) → Spells table bits ip bytes i → AreFit (choices_of bits i)
  unfolding choices_of
  spelled-fit bits ip bytes i (short, (row, at, (s, e))) =
      let long = laws.targets.spelled-length bits ip bytes i (short, (row, at, (s, e))) in
      let need = laws.spelled.spelled-suits bits ip bytes i row s at e in
      by-branch bits i row (branch_of i) refl at need.exists long.0 long.1
