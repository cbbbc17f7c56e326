-- What the test of the nested tables says of a walk.
use Rattle.std.proofs.Common.{◌≡◌, ℕ, zero, suc, ◌+◌, ◌≤◌, Bool, true, List, [], ◌∷◌, slice_get, nat_le, refl, sym, ◌∙◌, arith, leb-true}
use Rattle.std.proofs.lemmas.Bool.{and_parts}
use Rattle.instruction_parts.specs.RowFields.Candidates.{Cand, alive, keep, value_at}
use Rattle.instruction_parts.proofs.RowFields.Cands.{alive-keep, alive-is_empty, alive-is_one}
use Rattle.std.specs.Prelude.{Option, Some, None}
use Rattle.x86_values.specs.declared.Bits.{Bits}
use Rattle.x86_values.specs.declared.Code.{Code}
use Rattle.instruction_parts.specs.declared.row_fields.Fields.{Fields}
use Rattle.instruction_parts.specs.RowFields.Holds.{codes_holding}
use Rattle.instruction_parts.specs.RowFields.Masks.{values}
use Rattle.opcode_rows.specs.Table.{table}
use Rattle.handler_tables.specs.declared.node.Next.{Next}
use Rattle.handler_tables.specs.declared.node.Next.TheVariants.{Stop, Leaf, N2, N3, N4, N8, N256}
use Rattle.handler_tables.specs.declared.node.Split.{Split}
use Rattle.handler_tables.specs.declared.node.Split.TheVariants as split
use Rattle.handler_tables.specs.Splits.{width_of, field_at}
use Rattle.handler_tables.proofs.Tree.{is_inner, node_width, split_at, entries_at, mask_of, each_ok, split_ok, node_ok, ok}

-- an entry that is right for candidates among which the same codes are alive
pub record Goes (go : Next → List Cand → Bool) (bits : Bits) (f : Fields) (cs : List Cand) (e : Next) : Type 0 where
  pub left : List Cand
  pub right : go e left ≡ true
  pub same : alive left (values bits f) ≡ alive cs (values bits f)

each-at : (go : Next → List Cand → Bool) (k v : ℕ) (es : List Next) (cs : List Cand) → each_ok go k v es cs ≡ true
    → (i : ℕ) (e : Next) → slice_get es i ≡ Some e → go e (keep k (v + i) cs) ≡ true
unfolding each_ok
each-at go k v [] cs h i e at = cc
each-at go k v (x ∷ es) cs h zero e at =
    let first : x ≡ e = cc in
    let n : v + 0 ≡ v = omega arith in
    rw (n, ← first) (and_parts (go x (keep k v cs)) (each_ok go k (suc v) es cs) h).0
each-at go k v (x ∷ es) cs h (suc i) e at =
    let n : v + suc i ≡ suc v + i = omega arith in
    rw n (each-at go k (suc v) es cs (and_parts (go x (keep k v cs)) (each_ok go k (suc v) es cs) h).1 i e at)

kept : (go : Next → List Cand → Bool) (bits : Bits) (k : ℕ) (es : List Next) (cs : List Cand) → each_ok go k 0 es cs ≡ true
    → (f : Fields) (e : Next) → slice_get es (value_at (values bits f) k) ≡ Some e → Goes go bits f cs e
kept go bits k es cs h f e at =
    let v : ℕ = value_at (values bits f) k in
    let n : 0 + v ≡ v = omega arith in
    record {
      left = keep k v cs;
      right = rw n at (each-at go k 0 es cs h v e at);
      same = alive-keep k cs (values bits f);
    }

follows : (go : Next → List Cand → Bool) (bits : Bits) (s : Split) (es : List Next) (cs : List Cand)
    → split_ok go (mask_of s) es cs ≡ true
    → (f : Fields) (e : Next) → slice_get es (field_at bits s f) ≡ Some e → Goes go bits f cs e
unfolding split_ok mask_of values value_at
follows go bits split.Kind es cs h f e at = cc
follows go bits split.Opcode es cs h f e at = cc
follows go bits split.Prefix es cs h f e at = kept go bits 1 es cs h f e at
follows go bits split.Place es cs h f e at = kept go bits 2 es cs h f e at
follows go bits split.Reg es cs h f e at = kept go bits 3 es cs h f e at
follows go bits split.Rm es cs h f e at = kept go bits 4 es cs h f e at
follows go bits split.Size es cs h f e at = kept go bits 5 es cs h f e at
follows go bits split.W es cs h f e at = kept go bits 6 es cs h f e at
follows go bits split.L es cs h f e at = kept go bits 7 es cs h f e at
follows go bits split.RexB es cs h f e at = kept go bits 8 es cs h f e at

-- ---- one node

module _ (go : Next → List Cand → Bool) (width : ℕ) where
  split-known : (s : Option Split) (es : Option (List Next)) (cs : List Cand) → node_ok go width s es cs ≡ true → (x : Split) × (s ≡ Some x)
  unfolding node_ok
  split-known None es cs h = cc
  split-known (Some x) es cs h = (x, refl)

  node-known : (s : Option Split) (es : Option (List Next)) (cs : List Cand) → node_ok go width s es cs ≡ true → (xs : List Next) × (es ≡ Some xs)
  unfolding node_ok
  node-known None es cs h = cc
  node-known (Some x) None cs h = cc
  node-known (Some x) (Some xs) cs h = (xs, refl)

  node-wide : (s : Option Split) (es : Option (List Next)) (cs : List Cand) (x : Split) → node_ok go width s es cs ≡ true → s ≡ Some x → width_of x ≤ width
  unfolding node_ok
  node-wide None es cs x h p = cc
  node-wide (Some y) None cs x h p = cc
  node-wide (Some y) (Some xs) cs x h p =
      let same : y ≡ x = cc in
      rw (← same) (leb-true (width_of y) width (and_parts (nat_le (width_of y) width) (split_ok go (mask_of y) xs cs) h).0)

  node-goes : (s : Option Split) (es : Option (List Next)) (cs : List Cand) (x : Split) (xs : List Next) → node_ok go width s es cs ≡ true
      → s ≡ Some x → es ≡ Some xs → (bits : Bits) (f : Fields) (e : Next) → slice_get xs (field_at bits x f) ≡ Some e → Goes go bits f cs e
  unfolding node_ok
  node-goes None es cs x xs h p q bits f e at = cc
  node-goes (Some y) None cs x xs h p q bits f e at = cc
  node-goes (Some y) (Some ys) cs x xs h p q bits f e at =
      let same : y ≡ x = cc in
      let alike : ys ≡ xs = cc in
      follows go bits y ys cs (and_parts (nat_le (width_of y) width) (split_ok go (mask_of y) ys cs) h).1 f e (rw (same, alike) at)

inner-ok : (n : ℕ) (e : Next) (cs : List Cand) → is_inner e ≡ true → ok (suc n) e cs ≡ true
    → node_ok (ok n) (node_width e) (split_at e) (entries_at e) cs ≡ true
unfolding ok
inner-ok n Stop cs is h = cc
inner-ok n (Leaf c) cs is h = cc
inner-ok n (N2 i) cs is h = h
inner-ok n (N3 i) cs is h = h
inner-ok n (N4 i) cs is h = h
inner-ok n (N8 i) cs is h = h
inner-ok n (N256 i) cs is h = cc

-- ---- the walk

-- the walk stands at this entry, with so many look-ups left
pub record OnPath (fuel : ℕ) (bits : Bits) (f : Fields) (e : Next) : Type 0 where
  pub left : List Cand
  pub right : ok fuel e left ≡ true
  pub same : alive left (values bits f) ≡ codes_holding bits 0 table f

module _ (bits : Bits) (f : Fields) where
  -- the path ends before its fuel does
  pub at-end : (e : Next) → OnPath 0 bits f e → ⊥
  unfolding ok
  at-end e p = let h = p.right in cc

  -- an empty entry on a path holds no row
  pub at-Stop : (fuel : ℕ) → OnPath fuel bits f Stop → codes_holding bits 0 table f ≡ []
  unfolding ok
  at-Stop zero p = absurd (at-end Stop p)
  at-Stop (suc n) p = sym p.same ∙ alive-is_empty p.left (values bits f) p.right

  -- a row on a path is the only one that holds
  pub at-Leaf : (fuel : ℕ) (c : Code) → OnPath fuel bits f (Leaf c) → codes_holding bits 0 table f ≡ c.0 ∷ []
  unfolding ok
  at-Leaf zero c p = absurd (at-end (Leaf c) p)
  at-Leaf (suc n) c p = sym p.same ∙ alive-is_one c.0 p.left (values bits f) p.right

  -- no node of 256 is on a path
  pub at-N256 : (fuel i : ℕ) → OnPath fuel bits f (N256 i) → ⊥
  unfolding ok
  at-N256 zero i p = at-end (N256 i) p
  at-N256 (suc n) i p = let h = p.right in cc

  -- a node is there, with what it splits by
  pub split-there : (fuel : ℕ) (e : Next) → is_inner e ≡ true → OnPath fuel bits f e → (x : Split) × (split_at e ≡ Some x)
  split-there zero e is p = absurd (at-end e p)
  split-there (suc n) e is p = split-known (ok n) (node_width e) (split_at e) (entries_at e) p.left (inner-ok n e p.left is p.right)

  -- each inner node on a path exists
  pub node-there : (fuel : ℕ) (e : Next) → is_inner e ≡ true → OnPath fuel bits f e → (xs : List Next) × (entries_at e ≡ Some xs)
  node-there zero e is p = absurd (at-end e p)
  node-there (suc n) e is p = node-known (ok n) (node_width e) (split_at e) (entries_at e) p.left (inner-ok n e p.left is p.right)

  -- it is wide enough
  pub split-wide : (fuel : ℕ) (e : Next) (s : Split) → is_inner e ≡ true → OnPath fuel bits f e → split_at e ≡ Some s → width_of s ≤ node_width e
  split-wide zero e s is p q = absurd (at-end e p)
  split-wide (suc n) e s is p q =
      node-wide (ok n) (node_width e) (split_at e) (entries_at e) p.left s (inner-ok n e p.left is p.right) q

  -- the walk goes on at the entry for the fields
  pub goes-on : (fuel n : ℕ) (e : Next) (s : Split) (es : List Next) (d : Next) → fuel ≡ suc n → is_inner e ≡ true → OnPath fuel bits f e
      → split_at e ≡ Some s → entries_at e ≡ Some es → slice_get es (field_at bits s f) ≡ Some d → OnPath n bits f d
  goes-on zero n e s es d fits is p q r at = absurd (omega arith)
  goes-on (suc m) n e s es d fits is p q r at =
      let same : m ≡ n = omega arith in
      let g = node-goes (ok m) (node_width e) (split_at e) (entries_at e) p.left s es (inner-ok m e p.left is p.right) q r bits f d at in
      rw (← same) (record { left = g.left; right = g.right; same = g.same ∙ p.same })

  -- equal entries are on the same path
  pub on_path : (fuel : ℕ) (e d : Next) → e ≡ d → OnPath fuel bits f e → OnPath fuel bits f d
  on_path fuel e d is p = rw (← is) p
