use Rattle.std.proofs.Common.{◌≡◌, ◌<◌, ◌≤◌, ◌+◌, ◌-◌, ℕ, suc, arith, lit<, sym, refl, ◌∙◌, true, List, length, slice_get, Some}
use Rattle.std.proofs.lemmas.Option.{slice_get_within}
use Rattle.x86_values.specs.declared.Bits.{Bits}
use Rattle.instruction_parts.specs.declared.row_fields.Fields.{Fields}
use Rattle.instruction_parts.proofs.RowFields.Apart.{map_number-lt}
use Rattle.instruction_parts.proofs.RowFields.Holding.{nowhere, only_row}
use Rattle.opcode_rows.specs.Table.{table}
use Rattle.handler_tables.specs.Nodes.{nodes2, nodes3, nodes4, nodes8, splits2, splits3, splits4, splits8}
use Rattle.handler_tables.specs.Splits.{width_of, field_at}
use Rattle.handler_tables.specs.declared.node.Next.{Next}
use Rattle.handler_tables.specs.declared.node.Split.{Split}
use Rattle.handler_tables.specs.declared.node.Next.TheVariants.{Stop, Leaf, N2, N3, N4, N8, N256}
use Rattle.handler_tables.proofs.Tree.{is_inner, node_width, split_at, entries_at}
use Rattle.handler_tables.proofs.TreeLemmas.{OnPath, at-end, on_path, at-Stop, at-Leaf, at-N256, split-there, node-there, split-wide, goes-on}
use Rattle.handler_tables.proofs.RootLemmas.{root-in, known_root, root-only, root-Stop, root-N256-in, root-goes}
use Rattle.handler_tables.proofs.walk.walk.Goals as goal
use Rattle.handler_tables.proofs.walk.walk.Goals.{in-N2, in-N3, in-N4, in-N8}

-- ---- an entry that the walk has come to, which leads to a node

-- its node is one of the nodes of its size
node-within : {bits : Bits} {f : Fields} {fuel : ℕ} {next : Next} → (e : Next) (at : ℕ) (nodes : List (List Next)) → entries_at e ≡ slice_get nodes at
    → next ≡ e → is_inner e ≡ true → OnPath fuel bits f next → at < length nodes
node-within {bits = bits} {f = f} {fuel = fuel} {next = next} e at nodes there is inner path =
    let k = node-there bits f fuel e inner (on_path bits f fuel next e is path) in slice_get_within nodes at k.0 (sym there ∙ k.1)

-- and so is what that splits by
split-within : {bits : Bits} {f : Fields} {fuel : ℕ} {next : Next} → (e : Next) (at : ℕ) (splits : List Split) → split_at e ≡ slice_get splits at
    → next ≡ e → is_inner e ≡ true → OnPath fuel bits f next → at < length splits
split-within {bits = bits} {f = f} {fuel = fuel} {next = next} e at splits there is inner path =
    let k = split-there bits f fuel e inner (on_path bits f fuel next e is path) in slice_get_within splits at k.0 (sym there ∙ k.1)

-- the node has an entry for each value of that
wide-enough : {bits : Bits} {f : Fields} {fuel : ℕ} {next : Next} → (e : Next) (s : Split) → next ≡ e → is_inner e ≡ true → OnPath fuel bits f next
    → split_at e ≡ Some s → width_of s ≤ node_width e
wide-enough {bits = bits} {f = f} {fuel = fuel} {next = next} e s is inner path split =
    split-wide bits f fuel e s inner (on_path bits f fuel next e is path) split

-- and the walk goes on at the entry for the fields
goes-along : {bits : Bits} {f : Fields} {fuel less : ℕ} {next : Next} {s : Split} {es : List Next} {d after : Next} → (e : Next)
    → fuel ≡ suc less → next ≡ e → is_inner e ≡ true → OnPath fuel bits f next
    → split_at e ≡ Some s → entries_at e ≡ Some es → slice_get es (field_at bits s f) ≡ Some d → d ≡ after → OnPath less bits f after
goes-along {bits = bits} {f = f} {fuel = fuel} {less = less} {next = next} {s = s} {es = es} {d = d} {after = after} e falls is inner path split entries at same =
    on_path bits f less d after same
    (goes-on bits f fuel less e s es d falls inner (on_path bits f fuel next e is path) split entries at)

pub node8-root-requires : goal.node8-root-requires
node8-root-requires g c = rw c.root_number.ensures (root-in g.S.FieldSource.bits (g.S.FieldSource.fields c.args.source.now).modrm)

pub next-requires : goal.next-requires
next-requires g c = (lit< tt, rw c.kind_number.ensures (map_number-lt (g.S.FieldSource.fields c.args.source.now).vex (g.S.FieldSource.fields c.args.source.now).map))

pub returns-in-Stop-clause-row : goal.returns-in-Stop-clause-row
returns-in-Stop-clause-row g c =
    let bits = g.S.FieldSource.bits in
    let f : Fields = g.S.FieldSource.fields c.args.source.now in
    nowhere bits table f
    (root-Stop bits f (known_root bits f (omega arith) c.root_number.result c.node8-root.result Stop
    c.root_number.ensures c.node8-root.ensures (rw c.kind_number.ensures at c.in-Stop.ensures.entry)))

pub unreachable-requires : goal.unreachable-requires
unreachable-requires g c =
    let bits = g.S.FieldSource.bits in
    let f : Fields = g.S.FieldSource.fields c.args.source.now in
    root-only bits f c.next.result
    (known_root bits f (omega arith) c.root_number.result c.node8-root.result c.next.result
    c.root_number.ensures c.node8-root.ensures (rw c.kind_number.ensures at c.next.ensures.entry))
    c.in_default.not-Stop c.in_default.not-N256

pub node256-cell-requires : goal.node256-cell-requires
node256-cell-requires g c =
    let bits = g.S.FieldSource.bits in
    let f : Fields = g.S.FieldSource.fields c.args.source.now in
    root-N256-in bits f c.in-N256.cells
    (known_root bits f (omega arith) c.root_number.result c.node8-root.result (N256 c.in-N256.cells)
    c.root_number.ensures c.node8-root.ensures (rw c.kind_number.ensures at c.in-N256.ensures.entry))

pub loop-taken-init : goal.loop-taken-init
loop-taken-init g c =
    let bits = g.S.FieldSource.bits in
    let f : Fields = g.S.FieldSource.fields c.args.source.now in
    record {
      path = root-goes bits f c.in-N256.cells c.node256-cell.result c.next-next.result
          (known_root bits f (omega arith) c.root_number.result c.node8-root.result (N256 c.in-N256.cells)
          c.root_number.ensures c.node8-root.ensures (rw c.kind_number.ensures at c.in-N256.ensures.entry))
          c.node256-cell.ensures (rw c.opcode-opcode.ensures at c.next-next.ensures.entry);
      count = omega arith;
    }

pub returns-in-Stop-next-clause-row : goal.returns-in-Stop-next-clause-row
returns-in-Stop-next-clause-row g c =
    let bits = g.S.FieldSource.bits in
    let f : Fields = g.S.FieldSource.fields c.args.source.now in
    let fuel = 10 - c.loop-taken.taken in
    nowhere bits table f (at-Stop bits f fuel (on_path bits f fuel c.loop-taken.next Stop c.in-Stop-next.is c.loop-taken.invariant.path))

pub returns-in-Leaf-clause-row : goal.returns-in-Leaf-clause-row
returns-in-Leaf-clause-row g c =
    let bits = g.S.FieldSource.bits in
    let f : Fields = g.S.FieldSource.fields c.args.source.now in
    let fuel = 10 - c.loop-taken.taken in
    only_row bits table f c.in-Leaf.code.0
    (at-Leaf bits f fuel c.in-Leaf.code (on_path bits f fuel c.loop-taken.next (Leaf c.in-Leaf.code) c.in-Leaf.is c.loop-taken.invariant.path))

pub unreachable-requires-in-N256-next : goal.unreachable-requires-in-N256-next
unreachable-requires-in-N256-next g c =
    let bits = g.S.FieldSource.bits in
    let f : Fields = g.S.FieldSource.fields c.args.source.now in
    let fuel = 10 - c.loop-taken.taken in
    let i = c.in-N256-next.field-0 in
    at-N256 bits f fuel i (on_path bits f fuel c.loop-taken.next (N256 i) c.in-N256-next.is c.loop-taken.invariant.path)

pub node2-requires : goal.node2-requires
node2-requires g c = node-within (N2 c.in-N2.at) c.in-N2.at nodes2 refl c.in-N2.is refl c.loop-taken.invariant.path

pub node3-requires : goal.node3-requires
node3-requires g c = node-within (N3 c.in-N3.at) c.in-N3.at nodes3 refl c.in-N3.is refl c.loop-taken.invariant.path

pub node4-requires : goal.node4-requires
node4-requires g c = node-within (N4 c.in-N4.at) c.in-N4.at nodes4 refl c.in-N4.is refl c.loop-taken.invariant.path

pub node8-requires : goal.node8-requires
node8-requires g c = node-within (N8 c.in-N8.at) c.in-N8.at nodes8 refl c.in-N8.is refl c.loop-taken.invariant.path

pub along-next-requires : goal.along-next-requires
along-next-requires g c = (lit< tt, wide-enough (N2 c.in-N2.at) c.split2.result c.in-N2.is refl c.loop-taken.invariant.path c.split2.ensures)

pub along-next-requires-in-N3 : goal.along-next-requires-in-N3
along-next-requires-in-N3 g c = (lit< tt, wide-enough (N3 c.in-N3.at) c.split3.result c.in-N3.is refl c.loop-taken.invariant.path c.split3.ensures)

pub along-next-requires-in-N4 : goal.along-next-requires-in-N4
along-next-requires-in-N4 g c = (lit< tt, wide-enough (N4 c.in-N4.at) c.split4.result c.in-N4.is refl c.loop-taken.invariant.path c.split4.ensures)

pub along-next-requires-in-N8 : goal.along-next-requires-in-N8
along-next-requires-in-N8 g c = (lit< tt, wide-enough (N8 c.in-N8.at) c.split8.result c.in-N8.is refl c.loop-taken.invariant.path c.split8.ensures)

pub split2-requires : goal.split2-requires
split2-requires g c = split-within (N2 c.in-N2.at) c.in-N2.at splits2 refl c.in-N2.is refl c.loop-taken.invariant.path

pub split3-requires : goal.split3-requires
split3-requires g c = split-within (N3 c.in-N3.at) c.in-N3.at splits3 refl c.in-N3.is refl c.loop-taken.invariant.path

pub split4-requires : goal.split4-requires
split4-requires g c = split-within (N4 c.in-N4.at) c.in-N4.at splits4 refl c.in-N4.is refl c.loop-taken.invariant.path

pub split8-requires : goal.split8-requires
split8-requires g c = split-within (N8 c.in-N8.at) c.in-N8.at splits8 refl c.in-N8.is refl c.loop-taken.invariant.path

pub loop-taken-preserved : goal.loop-taken-preserved
loop-taken-preserved g c =
    let path = c.loop-taken.invariant.path in
    let falls : 10 - c.loop-taken.taken ≡ suc (10 - (c.loop-taken.taken + 1)) = omega arith in
    elim c.match-next-2.branch [
      | in-N2 w ↦ record {
        path = goes-along (N2 w.in-N2.at) falls w.in-N2.is refl path w.split2.ensures w.node2.ensures w.along-next.ensures.entry (sym w.next-is);
        count = omega arith;
      }
      | in-N3 w ↦ record {
        path = goes-along (N3 w.in-N3.at) falls w.in-N3.is refl path w.split3.ensures w.node3.ensures w.along-next-in-N3.ensures.entry (sym w.next-is);
        count = omega arith;
      }
      | in-N4 w ↦ record {
        path = goes-along (N4 w.in-N4.at) falls w.in-N4.is refl path w.split4.ensures w.node4.ensures w.along-next-in-N4.ensures.entry (sym w.next-is);
        count = omega arith;
      }
      | in-N8 w ↦ record {
        path = goes-along (N8 w.in-N8.at) falls w.in-N8.is refl path w.split8.ensures w.node8.ensures w.along-next-in-N8.ensures.entry (sym w.next-is);
        count = omega arith;
      }
    ]

pub unreachable-requires-2 : goal.unreachable-requires-2
unreachable-requires-2 g c =
    let none_left : 10 - c.loop-taken.taken ≡ 0 = omega arith in
    at-end g.S.FieldSource.bits (g.S.FieldSource.fields c.args.source.now) c.loop-taken.next (rw none_left at c.loop-taken.invariant.path)
