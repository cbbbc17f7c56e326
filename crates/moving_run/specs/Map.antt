-- The lines of `map`.
use Rattle.std.specs.Prelude.{ℕ, List, [], ◌∷◌, ◌++◌, slice_index_or, codes}
use Rattle.std.specs.List.{flat_map, range_with_len}
use Rattle.x86_values.specs.declared.Bits.{Bits}
use Rattle.branch_sizes.specs.declared.plan.Form.{Form}
use Rattle.branch_sizes.specs.declared.plan.Form.TheVariants.{Itself, Short, Near, Far, Bridge, FarBridge}
use Rattle.sweep.specs.SweepText.Listing.{address_text}
use Rattle.move_goals.specs.declared.items.Placed.{Placed}
use Rattle.move_goals.specs.Items.{item_at}

-- the word of a form
unfoldable pub form_word : Form → List ℕ
form_word Itself = codes "itself"
form_word Short = codes "short"
form_word Near = codes "near"
form_word Far = codes "far"
form_word Bridge = codes "bridge"
form_word FarBridge = codes "farbridge"

-- the line of an instruction: its old and its new address and its form
unfoldable pub map_line : Bits → ℕ → ℕ → Form → List ℕ
map_line bits old new form = address_text bits old 0 ++ (32 ∷ (address_text bits new 0 ++ (32 ∷ (form_word form ++ 10 ∷ []))))

-- the line of item k, from the new addresses and the forms of all items
abbrev pub line_at : Bits → List Placed → List ℕ → List Form → ℕ → List ℕ
line_at bits items starts forms k = map_line bits (item_at items k).ip (slice_index_or starts k 0) (slice_index_or forms k Itself)

-- the lines of the first n items
unfoldable pub map_lines : Bits → List Placed → List ℕ → List Form → ℕ → List ℕ
map_lines bits items starts forms n = flat_map (line_at bits items starts forms) (range_with_len 0 n)
