-- The successors of an offset, apart by whether they are the end of the instruction.
use Rattle.std.specs.Prelude.{◌≡◌, ℕ, ◌+◌, ◌<◌, Bool, true, false, not, ◌&&◌, ◌||◌, ◌==◌, nat_lt, Option, Some, None, ◌⊎◌, length, if◌then◌else◌}
use Rattle.std.specs.Option.{option_map}
use Rattle.x86_values.specs.declared.Bits.{Bits}
use Rattle.x86_values.specs.declared.Instr.{Instr}
use Rattle.x86_values.specs.declared.Decoded.{Decoded}
use Rattle.flow_graph.specs.declared.exits.Exits.{Exits}
use Rattle.plain_spelling.specs.Values.{distance}
use Rattle.operand_info.specs.declared.columns.Flow.{Flow}
use Rattle.operand_info.specs.ByCode.{flow_of}
use Rattle.operand_info.specs.Operands.{first_value, near_value}
use Rattle.unlisted.specs.declared.Shape.{Shape}
use Rattle.flow_graph.specs.Control.{CodeBytes, goes_on, goes_to_target, shape_flow, shape_refers, IsSuccessor, EndsAt}

-- how far the target to which control may go stands behind the first byte
unfoldable pub target_offset : Bits → ℕ → Flow → Instr → Option ℕ
target_offset bits base flow i = if goes_to_target flow then option_map (distance bits base) (first_value near_value i) else None

-- the target is the end
abbrev pub is_at : Option ℕ → ℕ → Bool
is_at None end = false
is_at (Some target) end = target == end

-- the length of the instruction where control goes to its end, and there is a byte, else 0
unfoldable pub next_exit : Bool → Option ℕ → ℕ → ℕ → ℕ → ℕ
next_exit on target end len count = if (on || is_at target end) && nat_lt end count then len else 0

-- the target where it is not the end, and there is a byte
unfoldable pub target_exit : Option ℕ → ℕ → ℕ → Option ℕ
target_exit None end count = None
target_exit (Some target) end count = if not (target == end) && nat_lt target count then Some target else None

-- the exits of an instruction at p
abbrev pub exits_of : CodeBytes → ℕ → Decoded → Exits
exits_of code p d =
    let flow = flow_of d.instr.code.0 in
    let target = target_offset code.bits code.base flow d.instr in
    record {
      next = next_exit (goes_on flow) target (p + d.len) d.len (length code.bytes);
      target = target_exit target (p + d.len) (length code.bytes);
    }

-- how far the target of an instruction without a row at p, to which control may go, stands behind the first byte
unfoldable pub shape_target : Bits → ℕ → ℕ → Shape → Option ℕ
shape_target bits base p shape =
    if goes_to_target (shape_flow shape.relative) then option_map (distance bits base) (shape_refers bits base p shape) else None

-- the exits of an instruction without a row at p
abbrev pub exits_of_shape : CodeBytes → ℕ → Shape → Exits
exits_of_shape code p shape =
    let target = shape_target code.bits code.base p shape in
    record {
      next = next_exit true target (p + shape.len) shape.len (length code.bytes);
      target = target_exit target (p + shape.len) (length code.bytes);
    }

-- no exits
abbrev pub no_exits : Exits
no_exits = record { next = 0; target = None }

-- q is one of the exits of an instruction at p
abbrev pub IsExit : ℕ → Exits → ℕ → Type 0
IsExit p exits q = ((0 < exits.next) × (q ≡ p + exits.next)) ⊎ (exits.target ≡ Some q)

-- the exits of p are its successors; the first is the end of the instruction, and the second is not
pub record AreExits (code : CodeBytes) (p : ℕ) (exits : Exits) : Type 0 where
  pub next : 0 < exits.next → IsSuccessor code p (p + exits.next) × EndsAt code p (p + exits.next)
  pub target : (q : ℕ) → exits.target ≡ Some q → IsSuccessor code p q × (EndsAt code p q → ⊥)
  pub all : (q : ℕ) → IsSuccessor code p q → IsExit p exits q
