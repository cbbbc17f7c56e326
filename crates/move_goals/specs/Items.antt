-- The instructions that are moved, in blocks: which of them are well placed, and where the blocks end.
use Rattle.std.specs.Prelude.{◌≡◌, ℕ, zero, suc, ◌+◌, ◌-◌, ◌^◌, ◌<◌, ◌≤◌, ◌==◌, nat_lt, Bool, false, not, ◌||◌, if◌then◌else◌, List, [], ◌∷◌, length, slice_index_or, sum_by, Option, Some, None}
use Rattle.x86_values.specs.declared.Bits.{Bits}
use Rattle.x86_values.specs.declared.Instr.{Instr}
use Rattle.x86_values.specs.declared.Rep.TheVariants.{None as NoRep}
use Rattle.x86_values.specs.Wrapping.{width, modulo_width}
use Rattle.row_relation.specs.Spells.{Spells}
use Rattle.opcode_rows.specs.Table.{table}
use Rattle.branch_sizes.specs.declared.plan.BlockSpan.{BlockSpan}
use Rattle.branch_sizes.specs.Layout.{block_number, first_of_block, span_at}
use Rattle.move_goals.specs.declared.items.Placed.{Placed}

-- the least number below n that passes a test
abbrev pub first_below : (ℕ → Bool) → ℕ → Option ℕ
first_below p zero = None
first_below p (suc n) = elim (first_below p n) [ Some k ↦ Some k | None ↦ if p n then Some n else None ]

-- what stands for an instruction that is not there
abbrev pub no_instr : Instr
no_instr = record { code = record { 0 = 0 }; lock = false; rep = NoRep; seg = None; asize = None; ops = [] }

-- and for an item
abbrev pub no_item : Placed
no_item = record { ip = 0; len = 0; instr = no_instr }

-- item k
abbrev pub item_at : List Placed → ℕ → Placed
item_at items k = slice_index_or items k no_item

-- the address behind an item, a whole number that does not wrap
abbrev pub old_end : Placed → ℕ
old_end p = p.ip + p.len

-- an item has 1 to 15 bytes, and some bytes spell it at its address
pub record IsPlaced (bits : Bits) (p : Placed) : Type 0 where
  pub some : 1 ≤ p.len
  pub few : p.len ≤ 15
  pub bytes : List ℕ
  pub spelled : Spells table bits (modulo_width bits p.ip) bytes p.instr

-- each item is one
abbrev pub ArePlaced : Bits → List Placed → Type 0
ArePlaced bits items = (k : ℕ) → k < length items → IsPlaced bits (item_at items k)

-- the blocks take all items, and are few
pub record AreSpansOf (items : List Placed) (spans : List BlockSpan) : Type 0 where
  pub few : length spans ≤ 65536
  pub counts : sum_by (λ s. s.count) spans ≡ length items

-- all items in one block
abbrev pub one_span : List Placed → ℕ → List BlockSpan
one_span items new_base = record { count = length items; new_base = new_base } ∷ []

-- ---- the order of the old addresses

-- item k is the first of its block
abbrev pub begins_block : List BlockSpan → ℕ → Bool
begins_block spans k = first_of_block spans (block_number spans k) == k

-- item k is the first of its block, or begins where the one before ends
abbrev pub is_in_order : List BlockSpan → List Placed → ℕ → Bool
is_in_order spans items k = begins_block spans k || (item_at items k).ip == old_end (item_at items (k - 1))

-- the first item that is not
unfoldable pub first_disorder : List BlockSpan → List Placed → Option ℕ
first_disorder spans items = first_below (λ k. not (is_in_order spans items k)) (length items)

-- ---- the old ends

-- the address behind the last item of block b; that of an empty block is its new base
unfoldable pub block_old_end : List BlockSpan → List Placed → ℕ → ℕ
block_old_end spans items b =
    let span = span_at spans b in
    if span.count == 0 then span.new_base else old_end (item_at items (first_of_block spans b + span.count - 1))

-- an address lies past the address space: it is no end of anything in it
abbrev pub passes : Bits → ℕ → Bool
passes bits end = nat_lt (2 ^ width bits) end

-- the first of n ends that passes the address space
abbrev pub first_passing : Bits → (ℕ → ℕ) → ℕ → Option ℕ
first_passing bits end n = elim (first_below (λ b. passes bits (end b)) n) [ Some b ↦ Some (end b) | None ↦ None ]

-- the first old end that does
unfoldable pub first_old_pass : Bits → List BlockSpan → List Placed → Option ℕ
first_old_pass bits spans items = first_passing bits (block_old_end spans items) (length spans)
