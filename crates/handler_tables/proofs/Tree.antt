-- A test of the nested tables against the rows: each node is right for the candidates that are left on its way.
use Rattle.std.proofs.Common.{ℕ, zero, suc, Bool, true, false, ◌&&◌, List, [], ◌∷◌, slice_get, nat_le}
use Rattle.instruction_parts.specs.RowFields.Candidates.{Cand, Coded, rows_with_codes, of_number, at_opcode, cands, keep, is_empty, is_one, below}
use Rattle.std.specs.Prelude.{Option, Some, None}
use Rattle.x86_values.specs.declared.Bits.{Bits}
use Rattle.x86_values.specs.declared.Bits.TheVariants.{B16, B32, B64}
use Rattle.instruction_parts.specs.declared.row_types.Row.{Row}
use Rattle.handler_tables.specs.declared.node.Next.{Next}
use Rattle.handler_tables.specs.declared.node.Next.TheVariants.{Stop, Leaf, N2, N3, N4, N8, N256}
use Rattle.handler_tables.specs.declared.node.Split.{Split}
use Rattle.handler_tables.specs.declared.node.Split.TheVariants as split
use Rattle.handler_tables.specs.Nodes.{nodes2, nodes3, nodes4, nodes8, nodes256, splits2, splits3, splits4, splits8}
use Rattle.handler_tables.specs.Splits.{width_of, root_of}

-- ---- the node behind an entry, below the opcode byte

-- an entry leads to a node below the opcode byte
abbrev pub is_inner : Next → Bool
is_inner (N2 i) = true
is_inner (N3 i) = true
is_inner (N4 i) = true
is_inner (N8 i) = true
is_inner _ = false

-- the number of entries of the node that an entry leads to
abbrev pub node_width : Next → ℕ
node_width (N2 i) = 2
node_width (N3 i) = 3
node_width (N4 i) = 4
node_width (N8 i) = 8
node_width _ = 0

-- what that node splits by
abbrev pub split_at : Next → Option Split
split_at (N2 i) = slice_get splits2 i
split_at (N3 i) = slice_get splits3 i
split_at (N4 i) = slice_get splits4 i
split_at (N8 i) = slice_get splits8 i
split_at _ = None

-- the entries of that node
abbrev pub entries_at : Next → Option (List Next)
entries_at (N2 i) = slice_get nodes2 i
entries_at (N3 i) = slice_get nodes3 i
entries_at (N4 i) = slice_get nodes4 i
entries_at (N8 i) = slice_get nodes8 i
entries_at _ = None

-- ---- the test

-- the place of a mask; the kind and the opcode byte have none
unfoldable pub mask_of : Split → Option ℕ
mask_of split.Kind = None
mask_of split.Opcode = None
mask_of split.Prefix = Some 1
mask_of split.Place = Some 2
mask_of split.Reg = Some 3
mask_of split.Rm = Some 4
mask_of split.Size = Some 5
mask_of split.W = Some 6
mask_of split.L = Some 7
mask_of split.RexB = Some 8

-- a test of an entry, if there is one
unfoldable pub entry_ok : (Next → List Cand → Bool) → Option Next → List Cand → Bool
entry_ok go None cs = false
entry_ok go (Some e) cs = go e cs

-- each entry is right for the candidates that allow its number
unfoldable pub each_ok : (Next → List Cand → Bool) → ℕ → ℕ → List Next → List Cand → Bool
unfolding keep
each_ok go k v [] cs = true
each_ok go k v (e ∷ es) cs = go e (keep k v cs) && each_ok go k (suc v) es cs

-- the entries are right for what the node splits by
unfoldable pub split_ok : (Next → List Cand → Bool) → Option ℕ → List Next → List Cand → Bool
unfolding each_ok
split_ok go (Some k) es cs = each_ok go k 0 es cs
split_ok go None es cs = false

-- a node is right: each of its entries is right for the candidates that remain there
unfoldable pub node_ok : (Next → List Cand → Bool) → ℕ → Option Split → Option (List Next) → List Cand → Bool
unfolding split_ok mask_of
node_ok go width None _ cs = false
node_ok go width (Some s) None cs = false
node_ok go width (Some s) (Some es) cs = nat_le (width_of s) width && split_ok go (mask_of s) es cs

-- an entry is right for these candidates, with so many look-ups left
unfoldable pub ok : ℕ → Next → List Cand → Bool
unfolding node_ok is_empty is_one
ok zero e cs = false
ok (suc n) Stop cs = is_empty cs
ok (suc n) (Leaf code) cs = is_one code.0 cs
ok (suc n) (N256 i) cs = false
ok (suc n) e cs = node_ok (ok n) (node_width e) (split_at e) (entries_at e) cs

-- ---- the roots

-- the entry of a node that is there
unfoldable pub get_in : Option (List Next) → ℕ → Option Next
get_in None n = None
get_in (Some es) n = slice_get es n

-- the entry of an opcode byte, from the root's entry of its kind and map
unfoldable pub under : Option Next → ℕ → Option Next
unfolding get_in
under (Some Stop) op = Some Stop
under (Some (N256 i)) op = get_in (slice_get nodes256 i) op
under _ op = None

-- the candidates with a ModRM byte and those without one
unfoldable pub both_ok : Option Next → Option Next → List Cand → Bool
unfolding entry_ok ok keep
both_ok with without cs = entry_ok (ok 10) with (keep 0 1 cs) && entry_ok (ok 10) without (keep 0 0 cs)

-- an entry of a root
unfoldable pub root_entry : ℕ → ℕ → Option Next
unfolding get_in
root_entry root number = get_in (slice_get nodes8 root) number

-- behind the mode's two roots, both entries of an opcode byte are right for the rows there that exist in the mode
unfoldable pub mode_ok : Bits → ℕ → ℕ → List Coded → Bool
unfolding both_ok under root_entry cands
mode_ok bits number op cell =
    both_ok (under (root_entry (root_of bits (Some 0)) number) op) (under (root_entry (root_of bits None) number) op) (cands bits op cell)

-- in each mode the entries of an opcode byte are right for the rows there
unfoldable pub cell_ok : ℕ → ℕ → List Coded → Bool
unfolding mode_ok
cell_ok number op cell = mode_ok B16 number op cell && (mode_ok B32 number op cell && mode_ok B64 number op cell)

-- the entries of a kind and map are right for the rows there
unfoldable pub kind_ok : ℕ → List Coded → Bool
unfolding below cell_ok at_opcode
kind_ok number rows = below 256 (λ op. cell_ok number op (at_opcode op rows))

-- the entries of the roots are right for these rows
unfoldable pub tables_ok : List Row → Bool
unfolding below kind_ok of_number rows_with_codes
tables_ok rows = below 8 (λ number. kind_ok number (of_number number (rows_with_codes 0 rows)))
