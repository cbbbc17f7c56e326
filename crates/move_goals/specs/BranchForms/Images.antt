-- The images of a moved instruction: one to three instructions that do at a new place what it did at the old one.
use Rattle.std.specs.Prelude.{ℕ, ◌+◌, false, List, [], ◌∷◌, Option, Some, None}
use Rattle.x86_values.specs.declared.Bits.{Bits}
use Rattle.x86_values.specs.declared.Bits.TheVariants.{B64}
use Rattle.x86_values.specs.declared.Register.TheVariants.{Rip}
use Rattle.x86_values.specs.declared.DispSize.TheVariants.{D32}
use Rattle.x86_values.specs.declared.Mem.{Mem}
use Rattle.x86_values.specs.declared.Operand.{Operand}
use Rattle.x86_values.specs.declared.Operand.TheVariants.{Absent, Mem as Memory, Near}
use Rattle.x86_values.specs.declared.Rep.TheVariants.{None as NoRep}
use Rattle.x86_values.specs.declared.Instr.{Instr}
use Rattle.x86_values.specs.Wrapping.{modulo_width}
use Rattle.branch_sizes.specs.declared.plan.Form.{Form}
use Rattle.branch_sizes.specs.declared.plan.Form.TheVariants.{Itself, Short, Near as NearForm, Far, Bridge, FarBridge}
use Rattle.move_goals.specs.MovedTargets.Targets.{with_target, plain_length}
use Rattle.move_goals.specs.declared.branch_forms.branch.Action.{Action}
use Rattle.move_goals.specs.declared.branch_forms.branch.Action.TheVariants.{Jump, Condition, Count}
use Rattle.move_goals.specs.declared.branch_forms.branch.RelativeBranch.{RelativeBranch}
use Rattle.move_goals.specs.declared.branch_forms.image.Image.{Image}
use Rattle.move_goals.specs.declared.branch_forms.image.Image.TheVariants.{One, Two, Three}
use Rattle.move_goals.specs.BranchForms.Branches.{branch_of, short_code, near_code, far_code, opposite_condition}

-- the instructions of an image, in order
abbrev pub instrs_of : Image → List Instr
instrs_of (One a) = a ∷ []
instrs_of (Two a b) = a ∷ b ∷ []
instrs_of (Three a b c) = a ∷ b ∷ c ∷ []

-- ---- single instructions

-- an instruction of one operand without prefixes that it keeps
abbrev pub bare : ℕ → Option Bits → Operand → Instr
bare code asize op = record {
  code = record { 0 = code };
  lock = false;
  rep = NoRep;
  seg = None;
  asize = asize;
  ops = op ∷ Absent ∷ Absent ∷ Absent ∷ [];
}

-- a relative branch
unfoldable pub branch_to : ℕ → Option Bits → ℕ → Instr
branch_to code asize target = bare code asize (Near target)

-- the operand of 8 bytes at an address, relative to RIP (2.2.1.6)
abbrev pub slot_operand : ℕ → Mem
slot_operand slot = record { base = Some Rip; index = None; scale = 1; disp_size = D32; disp = slot }

-- CALL or JMP through a slot
unfoldable pub through_slot : ℕ → ℕ → Instr
through_slot code slot = bare code (Some B64) (Memory (slot_operand slot))

-- a branch on a counter keeps its address size, which says how wide the counter is; no other relative branch has one (LOOP)
unfoldable pub counter_size : Action → Option Bits → Option Bits
counter_size (Count n) asize = asize
counter_size _ asize = None

-- the branch with an offset of 8 bits
unfoldable pub short_branch : RelativeBranch → Option Bits → ℕ → Instr
short_branch b asize target = branch_to (short_code b.action b.size) (counter_size b.action asize) target

-- the short jump of a bridge has the operand size that is the mode's own
unfoldable pub skip : Bits → ℕ → Instr
skip bits target = branch_to (short_code Jump bits) None target

-- the near jump of a bridge has the operand size of the branch
unfoldable pub bridge_jump : RelativeBranch → ℕ → Instr
bridge_jump b target = branch_to (near_code Jump b.size) None target

-- ---- images

-- how many bytes of a bridge stand before its near jump: the branch, and the short jump over what follows
unfoldable pub bridge_inner : Bits → RelativeBranch → Option Bits → ℕ
bridge_inner bits b asize = plain_length bits (short_branch b asize 0) + plain_length bits (skip bits 0)

-- a bridge: the branch goes over the short jump, which goes over the last instruction
unfoldable pub bridge : Bits → RelativeBranch → Option Bits → ℕ → Instr → List Instr
bridge bits b asize place last =
    let inner = bridge_inner bits b asize in
    short_branch b asize (modulo_width bits (place + inner)) ∷ skip bits (modulo_width bits (place + inner + plain_length bits last)) ∷ last ∷ []

-- a far branch goes through a slot; one on a condition goes over that on the other condition
unfoldable pub far_image : Bits → RelativeBranch → ℕ → Action → ℕ → List Instr
far_image bits b place (Condition n) slot =
    let last = through_slot (far_code Jump) slot in
    let over = short_code (Condition (opposite_condition n)) b.size in
    branch_to over None (modulo_width bits (place + plain_length bits (branch_to over None 0) + plain_length bits last)) ∷ last ∷ []
far_image bits b place action slot = through_slot (far_code action) slot ∷ []

-- the image of a relative branch in a form at a place, with its goal and the address of its slot
unfoldable pub branch_image : Bits → Instr → RelativeBranch → Form → ℕ → ℕ → ℕ → List Instr
branch_image bits i b Itself place goal slot = with_target goal i ∷ []
branch_image bits i b Short place goal slot = short_branch b i.asize goal ∷ []
branch_image bits i b NearForm place goal slot = branch_to (near_code b.action b.size) None goal ∷ []
branch_image bits i b Far place goal slot = far_image bits b place b.action slot
branch_image bits i b Bridge place goal slot = bridge bits b i.asize place (bridge_jump b goal)
branch_image bits i b FarBridge place goal slot = bridge bits b i.asize place (through_slot (far_code Jump) slot)

-- the image of an instruction that may be no relative branch: then it is itself, aimed at its goal
abbrev pub image_by : Bits → Instr → Option RelativeBranch → Form → ℕ → ℕ → ℕ → List Instr
image_by bits i None form place goal slot = with_target goal i ∷ []
image_by bits i (Some b) form place goal slot = branch_image bits i b form place goal slot

-- the image of a moved instruction in a form, at a place, aimed at a goal, or through the slot at an address
unfoldable pub image_of : Bits → Instr → Form → ℕ → ℕ → ℕ → List Instr
image_of bits i form place goal slot = image_by bits i (branch_of i) form place goal slot

-- how many bytes some instructions have
abbrev pub pieces_length : Bits → List Instr → ℕ
pieces_length bits [] = 0
pieces_length bits (i ∷ is) = plain_length bits i + pieces_length bits is

-- the length of an image: that of its plain spellings, which rests neither on the place nor on the goal
unfoldable pub form_length : Bits → Instr → Form → ℕ
form_length bits i form = pieces_length bits (image_of bits i form 0 0 0)
