-- The instructions of an image have four operands each, and the bytes of several instructions are those of the first and of the others.
use Rattle.std.proofs.Common.{◌≡◌, ℕ, ◌+◌, List, [], ◌∷◌, ◌++◌, length, Option, Some, None, Result, Ok, Err, refl, ◌∙◌, subst}
use Rattle.std.proofs.lemmas.List.{length-map}
use Rattle.x86_values.specs.declared.Bits.{Bits}
use Rattle.x86_values.specs.declared.Instr.{Instr}
use Rattle.x86_values.specs.declared.Code.{Code}
use Rattle.instruction_parts.specs.declared.row_types.Row.{Row}
use Rattle.instruction_parts.specs.declared.spelling.Spelling.{Spelling}
use Rattle.row_meaning.specs.Meaning.{meaning, instr_of}
use Rattle.row_relation.specs.Spells.{Spells}
use Rattle.plain_spelling.specs.declared.NoSpelling.{NoSpelling}
use Rattle.opcode_rows.specs.Table.{table}
use Rattle.encoder.specs.Encoding.{encoding}
use Rattle.branch_sizes.specs.declared.plan.Form.{Form}
use Rattle.branch_sizes.specs.declared.plan.Form.TheVariants.{Itself, Short, Near as NearForm, Far, Bridge, FarBridge}
use Rattle.move_goals.specs.MovedTargets.Targets.{aimed_operand, with_target}
use Rattle.move_goals.specs.declared.branch_forms.branch.Action.{Action}
use Rattle.move_goals.specs.declared.branch_forms.branch.Action.TheVariants.{Jump, Call, Condition, Count}
use Rattle.move_goals.specs.declared.branch_forms.branch.RelativeBranch.{RelativeBranch}
use Rattle.move_goals.specs.BranchForms.Branches.{branch_of}
use Rattle.move_goals.specs.BranchForms.Images.{branch_to, through_slot, short_branch, skip, bridge_jump, bridge, far_image, branch_image, image_by, image_of}
use Rattle.block_encoder.specs.Bytes.{in_front, bytes_from}

-- each of some instructions has four operands
abbrev pub HaveFour : List Instr → Type 0
HaveFour [] = Unit {0}
HaveFour (i ∷ is) = (length i.ops ≡ 4) × HaveFour is

-- ---- what is spelled

four_of_meaning : (bits : Bits) (ip : ℕ) (code : Code) (row : Row) (s : Spelling) → length (meaning bits ip code row s).ops ≡ 4
unfolding meaning instr_of
four_of_meaning bits ip code row s = refl

-- a spelled instruction has four operands
pub spelled-four : (bits : Bits) (ip : ℕ) (bytes : List ℕ) (i : Instr) → Spells table bits ip bytes i → length i.ops ≡ 4
spelled-four bits ip bytes i (short, (row, at, (s, e))) =
    subst (λ (x : Instr). length x.ops ≡ 4) e.means (four_of_meaning bits ip i.code row s)

-- ---- images

with_target-four : (t : ℕ) (i : Instr) → length i.ops ≡ 4 → length (with_target t i).ops ≡ 4
unfolding with_target
with_target-four t i four = length-map i.ops (aimed_operand t) ∙ four

branch_to-four : (code : ℕ) (asize : Option Bits) (t : ℕ) → length (branch_to code asize t).ops ≡ 4
unfolding branch_to
branch_to-four code asize t = refl

slot-four : (code slot : ℕ) → length (through_slot code slot).ops ≡ 4
unfolding through_slot
slot-four code slot = refl

short-four : (b : RelativeBranch) (asize : Option Bits) (t : ℕ) → length (short_branch b asize t).ops ≡ 4
unfolding short_branch branch_to
short-four b asize t = refl

bridge-four : (bits : Bits) (b : RelativeBranch) (asize : Option Bits) (place : ℕ) (last : Instr) → length last.ops ≡ 4 → HaveFour (bridge bits b asize place last)
unfolding bridge short_branch skip branch_to
bridge-four bits b asize place last four = (refl, (refl, (four, tt)))

far-four : (bits : Bits) (b : RelativeBranch) (place : ℕ) (action : Action) (slot : ℕ) → HaveFour (far_image bits b place action slot)
unfolding far_image branch_to through_slot
far-four bits b place Jump slot = (refl, tt)
far-four bits b place Call slot = (refl, tt)
far-four bits b place (Condition n) slot = (refl, (refl, tt))
far-four bits b place (Count n) slot = (refl, tt)

jump-four : (b : RelativeBranch) (t : ℕ) → length (bridge_jump b t).ops ≡ 4
unfolding bridge_jump branch_to
jump-four b t = refl

branch-four : (bits : Bits) (i : Instr) (b : RelativeBranch) (form : Form) (place goal slot : ℕ) → length i.ops ≡ 4 → HaveFour (branch_image bits i b form place goal slot)
unfolding branch_image branch_to
branch-four bits i b Itself place goal slot four = (with_target-four goal i four, tt)
branch-four bits i b Short place goal slot four = (short-four b i.asize goal, tt)
branch-four bits i b NearForm place goal slot four = (refl, tt)
branch-four bits i b Far place goal slot four = far-four bits b place b.action slot
branch-four bits i b Bridge place goal slot four = bridge-four bits b i.asize place (bridge_jump b goal) (jump-four b goal)
branch-four bits i b FarBridge place goal slot four = bridge-four bits b i.asize place (through_slot _ slot) (slot-four _ slot)

by-four : (bits : Bits) (i : Instr) (b : Option RelativeBranch) (form : Form) (place goal slot : ℕ) → length i.ops ≡ 4 → HaveFour (image_by bits i b form place goal slot)
by-four bits i None form place goal slot four = (with_target-four goal i four, tt)
by-four bits i (Some b) form place goal slot four = branch-four bits i b form place goal slot four

-- each instruction of the image of a spelled instruction has four operands
pub image-four : (bits : Bits) (i : Instr) (form : Form) (place goal slot : ℕ) → length i.ops ≡ 4 → HaveFour (image_of bits i form place goal slot)
unfolding image_of
image-four bits i form place goal slot four = by-four bits i (branch_of i) form place goal slot four

-- ---- the bytes of several

-- bytes in front of others are there, and so are the others
in_front-some : (bytes : List ℕ) (more : Option (List ℕ)) (all : List ℕ) → in_front bytes more ≡ Some all → (rest : List ℕ) × (more ≡ Some rest) × (all ≡ bytes ++ rest)
in_front-some bytes None all h = cc
in_front-some bytes (Some rest) all h = (rest, refl, cc)

-- the spelling of the first of some instructions, and those of the others behind it
pub record Parted (bits : Bits) (at : ℕ) (i : Instr) (is : List Instr) (all : List ℕ) : Type 0 where
  pub bytes : List ℕ
  pub rest : List ℕ
  pub first : encoding bits at i ≡ Ok bytes
  pub others : bytes_from bits (at + length bytes) is ≡ Some rest
  pub all_are : all ≡ bytes ++ rest

-- the bytes of some instructions are those of the first and of the others
pub parted : (bits : Bits) (at : ℕ) (i : Instr) (is : List Instr) (all : List ℕ) → bytes_from bits at (i ∷ is) ≡ Some all → Parted bits at i is all
unfolding bytes_from
parted bits at i is all h = by_encoding (encoding bits at i) refl h
  where
    by_encoding : (r : Result (List ℕ) NoSpelling) → encoding bits at i ≡ r → (elim r as (λ (x : Result (List ℕ) NoSpelling). Option (List ℕ)) [ Ok bytes ↦ in_front bytes (bytes_from bits (at + length bytes) is) | Err why ↦ None ]) ≡ Some all → Parted bits at i is all
    by_encoding (Err why) e h = cc
    by_encoding (Ok bytes) e h =
        let k = in_front-some bytes (bytes_from bits (at + length bytes) is) all h in
        record { bytes = bytes; rest = k.0; first = e; others = k.1; all_are = k.2 }
