-- The first two look-ups of a walk: the kind, and the opcode byte.
use Rattle.std.proofs.Common.{◌≡◌, ℕ, ◌<◌, Bool, true, ◌&&◌, List, [], length, slice_get, refl, ap, sym, ◌∙◌, lit<}
use Rattle.std.proofs.lemmas.Bool.{and_parts}
use Rattle.instruction_parts.specs.RowFields.Candidates.{Cand, Coded, rows_with_codes, of_number, at_opcode, cands, alive, keep, value_at}
use Rattle.instruction_parts.proofs.RowFields.Cands.{alive-cands, alive-keep, below-at}
use Rattle.std.specs.Prelude.{Option, Some, None}
use Rattle.std.proofs.lemmas.Option.{slice_get_within}
use Rattle.x86_values.specs.declared.Bits.{Bits}
use Rattle.x86_values.specs.declared.Bits.TheVariants.{B16, B32, B64}
use Rattle.x86_values.specs.Modes.{size_number}
use Rattle.instruction_parts.specs.declared.row_fields.Fields.{Fields}
use Rattle.instruction_parts.specs.RowFields.Holds.{codes_holding, map_number}
use Rattle.instruction_parts.specs.RowFields.Masks.{values}
use Rattle.instruction_parts.proofs.RowFields.Apart.{map_number-lt}
use Rattle.opcode_rows.specs.Table.{table}
use Rattle.handler_tables.specs.declared.node.Next.{Next}
use Rattle.handler_tables.specs.declared.node.Next.TheVariants.{Stop, Leaf, N2, N3, N4, N8, N256}
use Rattle.x86_values.specs.declared.Code.{Code}
use Rattle.handler_tables.specs.Nodes.{nodes8, nodes256}
use Rattle.handler_tables.specs.Splits.{root_of}
use Rattle.handler_tables.proofs.Tree.{entry_ok, ok, get_in, under, both_ok, root_entry, mode_ok, cell_ok, kind_ok, tables_ok}
use Rattle.handler_tables.proofs.TreeLemmas.{OnPath, at-Stop}
use Rattle.handler_tables.proofs.Computed.{tables_fit}

-- the root has this entry for the kind of the fields
pub record AtRoot (bits : Bits) (f : Fields) (o : Option Next) : Type 0 where
  pub left : List Cand
  pub right : entry_ok (ok 10) (under o f.opcode) left ≡ true
  pub same : alive left (values bits f) ≡ codes_holding bits 0 table f

-- each root is a node of eight entries
pub root-in : (bits : Bits) (m : Option ℕ) → root_of bits m < length nodes8
unfolding nodes8 size_number
root-in B16 None = lit< tt
root-in B16 (Some b) = lit< tt
root-in B32 None = lit< tt
root-in B32 (Some b) = lit< tt
root-in B64 None = lit< tt
root-in B64 (Some b) = lit< tt

cell-mode : (number op : ℕ) (cell : List Coded) (bits : Bits) → cell_ok number op cell ≡ true → mode_ok bits number op cell ≡ true
unfolding cell_ok
cell-mode number op cell B16 h = (and_parts (mode_ok B16 number op cell) (mode_ok B32 number op cell && mode_ok B64 number op cell) h).0
cell-mode number op cell B32 h =
    (and_parts (mode_ok B32 number op cell) (mode_ok B64 number op cell)
    (and_parts (mode_ok B16 number op cell) (mode_ok B32 number op cell && mode_ok B64 number op cell) h).1).0
cell-mode number op cell B64 h =
    (and_parts (mode_ok B32 number op cell) (mode_ok B64 number op cell)
    (and_parts (mode_ok B16 number op cell) (mode_ok B32 number op cell && mode_ok B64 number op cell) h).1).1

absent-at : (bits : Bits) (f : Fields) → f.modrm ≡ None → value_at (values bits f) 0 ≡ 0
unfolding values value_at
absent-at bits f e = rw e refl

present-at : (bits : Bits) (f : Fields) (x : ℕ) → f.modrm ≡ Some x → value_at (values bits f) 0 ≡ 1
unfolding values value_at
present-at bits f x e = rw e refl

chosen : (bits : Bits) (f : Fields) (with without : Option Next) (cs : List Cand)
    → both_ok (under with f.opcode) (under without f.opcode) cs ≡ true
    → alive cs (values bits f) ≡ codes_holding bits 0 table f
    → (m : Option ℕ) → f.modrm ≡ m → (o : ℕ → Option Next) → o (root_of bits (Some 0)) ≡ with → o (root_of bits None) ≡ without
    → AtRoot bits f (o (root_of bits m))
unfolding both_ok
chosen bits f with without cs h same None e o p q =
    let a : Bool = entry_ok (ok 10) (under with f.opcode) (keep 0 1 cs) in
    let b : Bool = entry_ok (ok 10) (under without f.opcode) (keep 0 0 cs) in
    rw q (record {
      left = keep 0 0 cs;
      right = (and_parts a b h).1;
      same = ap (λ v. alive (keep 0 v cs) (values bits f)) (sym (absent-at bits f e)) ∙ alive-keep 0 cs (values bits f) ∙ same;
    })
chosen bits f with without cs h same (Some x) e o p q =
    let a : Bool = entry_ok (ok 10) (under with f.opcode) (keep 0 1 cs) in
    let b : Bool = entry_ok (ok 10) (under without f.opcode) (keep 0 0 cs) in
    rw p (record {
      left = keep 0 1 cs;
      right = (and_parts a b h).0;
      same = ap (λ v. alive (keep 0 v cs) (values bits f)) (sym (present-at bits f x e)) ∙ alive-keep 0 cs (values bits f) ∙ same;
    })

-- the walk starts at the root for the mode and the fields
pub start : (bits : Bits) (f : Fields) → f.opcode < 256
    → AtRoot bits f (root_entry (root_of bits f.modrm) (map_number f.vex f.map))
unfolding tables_ok kind_ok mode_ok
start bits f lt =
    let number : ℕ = map_number f.vex f.map in
    let rows : List Coded = of_number number (rows_with_codes 0 table) in
    let cell : List Coded = at_opcode f.opcode rows in
    let of_kind : kind_ok number rows ≡ true =
    below-at 8 (λ n. kind_ok n (of_number n (rows_with_codes 0 table))) number tables_fit (map_number-lt f.vex f.map) in
    let of_cell : cell_ok number f.opcode cell ≡ true =
    below-at 256 (λ op. cell_ok number op (at_opcode op rows)) f.opcode of_kind lt in
    chosen bits f (root_entry (root_of bits (Some 0)) number) (root_entry (root_of bits None) number) (cands bits f.opcode cell)
    (cell-mode number f.opcode cell bits of_cell)
    (alive-cands bits 0 table f) f.modrm refl (λ r. root_entry r number) refl refl

module _ (bits : Bits) (f : Fields) where
  -- an empty entry of the root holds no row
  pub root-Stop : AtRoot bits f (Some Stop) → codes_holding bits 0 table f ≡ []
  unfolding entry_ok under
  root-Stop p = at-Stop bits f 10 (record { left = p.left; right = p.right; same = p.same })

  nodes256-known : (i : ℕ) (o : Option (List Next)) (cs : List Cand) → entry_ok (ok 10) (get_in o f.opcode) cs ≡ true → (es : List Next) × (o ≡ Some es)
  unfolding get_in entry_ok
  nodes256-known i None cs h = cc
  nodes256-known i (Some es) cs h = (es, refl)

  -- the node of a root's entry exists
  pub root-N256-in : (i : ℕ) → AtRoot bits f (Some (N256 i)) → i < length nodes256
  unfolding under
  root-N256-in i p =
      let k = nodes256-known i (slice_get nodes256 i) p.left p.right in
      slice_get_within nodes256 i k.0 k.1

  under-N256 : (o : Option (List Next)) (es : List Next) (e : Next) (cs : List Cand) → entry_ok (ok 10) (get_in o f.opcode) cs ≡ true
      → o ≡ Some es → slice_get es f.opcode ≡ Some e → ok 10 e cs ≡ true
  unfolding get_in entry_ok
  under-N256 o es e cs h p q = rw (p, q) at h

  -- an entry of a node behind the root is on its path
  pub root-goes : (i : ℕ) (es : List Next) (e : Next) → AtRoot bits f (Some (N256 i)) → slice_get nodes256 i ≡ Some es → slice_get es f.opcode ≡ Some e
      → OnPath 10 bits f e
  unfolding under
  root-goes i es e p q r =
      record { left = p.left; right = under-N256 (slice_get nodes256 i) es e p.left p.right q r; same = p.same }

  -- no entry of the root is a row
  pub root-Leaf : (c : Code) → AtRoot bits f (Some (Leaf c)) → ⊥
  unfolding entry_ok under
  root-Leaf c p = let h = p.right in cc

  -- no entry of the root is a node of 2
  pub root-N2 : (i : ℕ) → AtRoot bits f (Some (N2 i)) → ⊥
  unfolding entry_ok under
  root-N2 i p = let h = p.right in cc

  -- nor of 3
  pub root-N3 : (i : ℕ) → AtRoot bits f (Some (N3 i)) → ⊥
  unfolding entry_ok under
  root-N3 i p = let h = p.right in cc

  -- nor of 4
  pub root-N4 : (i : ℕ) → AtRoot bits f (Some (N4 i)) → ⊥
  unfolding entry_ok under
  root-N4 i p = let h = p.right in cc

  -- nor of 8
  pub root-N8 : (i : ℕ) → AtRoot bits f (Some (N8 i)) → ⊥
  unfolding entry_ok under
  root-N8 i p = let h = p.right in cc

  -- the root's entry, from the node that was read
  pub from_root : (root number : ℕ) (es : List Next) (e : Next) → slice_get nodes8 root ≡ Some es → slice_get es number ≡ Some e
      → AtRoot bits f (root_entry root number) → AtRoot bits f (Some e)
  unfolding root_entry get_in
  from_root root number es e p q a = rw (p, q) at a

  -- the root's entry for the kind of the fields is right
  pub known_root : f.opcode < 256 → (root : ℕ) (es : List Next) (e : Next) → root ≡ root_of bits f.modrm
      → slice_get nodes8 root ≡ Some es → slice_get es (map_number f.vex f.map) ≡ Some e → AtRoot bits f (Some e)
  known_root lt root es e is p q = from_root (root_of bits f.modrm) (map_number f.vex f.map) es e (rw is at p) q (start bits f lt)

  -- a root's entry is Stop or a node of 256
  pub root-only : (e : Next) → AtRoot bits f (Some e) → (e ≡ Stop → ⊥) → ((i : ℕ) → e ≡ N256 i → ⊥) → ⊥
  root-only Stop a p q = p refl
  root-only (Leaf c) a p q = root-Leaf c a
  root-only (N2 i) a p q = root-N2 i a
  root-only (N3 i) a p q = root-N3 i a
  root-only (N4 i) a p q = root-N4 i a
  root-only (N8 i) a p q = root-N8 i a
  root-only (N256 i) a p q = q i refl
