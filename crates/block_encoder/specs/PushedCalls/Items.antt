-- The instructions that do from another place what a near CALL does at its old address.
use Rattle.std.specs.Prelude.{◌≡◌, ℕ, List, [], ◌∷◌, ◌++◌, map, Option, Some, None, Result, Ok, Err, unwrap_or}
use Rattle.x86_values.specs.declared.Bits.{Bits}
use Rattle.x86_values.specs.declared.Instr.{Instr}
use Rattle.x86_values.specs.Wrapping.{modulo_width}
use Rattle.plain_spelling.specs.declared.NoSpelling.{NoSpelling}
use Rattle.operand_info.specs.Operands.{near_value, first_value}
use Rattle.encoder.specs.Encoding.{encoding}
use Rattle.move_goals.specs.MovedTargets.Targets.{plain_length}
use Rattle.move_goals.specs.declared.items.Placed.{Placed}
use Rattle.move_goals.specs.Items.{old_end}
use Rattle.block_encoder.specs.declared.pushed_calls.items.PushedCall.{PushedCall}
use Rattle.block_encoder.specs.declared.pushed_calls.items.PushedCall.TheVariants.{Two, Three}
use Rattle.block_encoder.specs.PushedCalls.Pushes.{pushes}
use Rattle.block_encoder.specs.PushedCalls.Jumps.{jump_of}

-- the return address of a CALL: the address behind it where it stood, modulo 2 to the number of bits of the mode (CALL)
abbrev pub return_address : Bits → Placed → ℕ
return_address bits item = modulo_width bits (old_end item)

-- an instruction at an address, as long as its plain spelling
abbrev pub item_of : Bits → ℕ → Instr → Placed
item_of bits ip i = record { ip = ip; len = plain_length bits i; instr = i }

-- an item where its encoding is one
abbrev pub item_if : Result (List ℕ) NoSpelling → Placed → Option Placed
item_if (Ok bytes) p = Some p
item_if (Err why) p = None

-- the item of an instruction that has an encoding at an address
unfoldable pub encoded_item : Bits → ℕ → Instr → Option Placed
encoded_item bits ip i = item_if (encoding bits ip i) (item_of bits ip i)

-- the item of the jump of a CALL: a near jump is taken to stand at its target, any other one where the CALL stood
abbrev pub jump_item : Bits → ℕ → Option Instr → Option Placed
jump_item bits ip None = None
jump_item bits ip (Some jump) = encoded_item bits (unwrap_or (first_value near_value jump) ip) jump

-- what pushes a return address, with a jump behind it
abbrev pub with_jump : Bits → ℕ → ℕ → Placed → List Placed
with_jump bits ip back jump = map (item_of bits ip) (pushes bits back) ++ jump ∷ []

-- the same where there is a jump
abbrev pub with_jump_if : Bits → ℕ → ℕ → Option Placed → Option (List Placed)
with_jump_if bits ip back None = None
with_jump_if bits ip back (Some jump) = Some (with_jump bits ip back jump)

-- The instructions that push the own return address of a near CALL, and jump where it goes; none where it has no such jump, or that jump has no encoding,
-- as where a displacement does not hold what it is raised to.
unfoldable pub pushed_items : Bits → Placed → Option (List Placed)
pushed_items bits item = with_jump_if bits item.ip (return_address bits item) (jump_item bits item.ip (jump_of bits item.instr))

-- ---- as they are returned

-- the items in order
abbrev pub items_in : PushedCall → List Placed
items_in (Two items) = items
items_in (Three items) = items

-- those that there are
abbrev pub items_if : Option PushedCall → Option (List Placed)
items_if None = None
items_if (Some call) = Some (items_in call)
