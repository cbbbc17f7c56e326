-- The instructions that are read one behind the other.
use Rattle.std.proofs.Common.{◌≡◌, ℕ, zero, suc, ◌+◌, ◌<◌, ◌≤◌, List, [], ◌∷◌, ◌++◌, length, take, drop, refl, sym, ap, ◌∙◌, subst, arith, length-drop, drop-drop}
use Rattle.std.specs.Prelude.{map, IsTrue, Err}
use Rattle.std.proofs.lemmas.List.{map-append, drop_all}
use Rattle.x86_values.specs.declared.Bits.{Bits}
use Rattle.x86_values.specs.declared.Decoded.{Decoded}
use Rattle.x86_values.specs.Wrapping.{modulo_width}
use Rattle.row_relation.specs.Spells.{Read, Spells, IsReading}
use Rattle.opcode_rows.specs.Table.{table}
use Rattle.opcode_rows.specs.Reading.{IsRead}
use Rattle.opcode_rows.specs.Allowed.{is_well_formed}
use Rattle.move_goals.specs.declared.items.Placed.{Placed}
use Rattle.move_goals.specs.Items.{ArePlaced}
use Rattle.code_items.specs.Sound.{are_formed, AreSound}
use Rattle.decoder.specs.declared.DecodeError.{DecodeError}
use Rattle.decoder.specs.Answer.{reading_of}
use Rattle.code_items.specs.Items.{StandsFirst, ReadsUpTo, StopsAt, HasItems, wrapped_item}
use Rattle.code_items.proofs.Formed.{formed-more}

-- a number that is wrapped twice is wrapped once
abbrev pub WrapsOnce : Type 0
WrapsOnce = (bits : Bits) (x : ℕ) → modulo_width bits (modulo_width bits x) ≡ modulo_width bits x

-- ---- one more instruction

-- a further instruction extends what was read
pub one_more : (bits : Bits) (ip : ℕ) (bytes : List ℕ) (items : List Placed) (ip' : ℕ) (rest : List ℕ) (p : Placed) →
    ReadsUpTo bits ip bytes items ip' rest → StandsFirst bits ip' rest p → ReadsUpTo bits ip bytes (items ++ p ∷ []) (ip' + p.len) (drop p.len rest)
one_more bits ip bytes [] ip' rest p h first =
    let S : ℕ → Type 0 = λ n. StandsFirst bits n bytes p in
    let S' : List ℕ → Type 0 = λ xs. StandsFirst bits ip' xs p in
    (subst S h.0 (subst S' h.1 first), (ap (λ (n : ℕ). n + p.len) h.0, ap (drop p.len) h.1))
one_more bits ip bytes (q ∷ qs) ip' rest p h first = (h.0, one_more bits (ip + q.len) (drop q.len bytes) qs ip' rest p h.1 first)

-- the first instructions of some code were kept with their addresses in the mode, and its rest stands at this offset
pub record ReadSoFar (bits : Bits) (base : ℕ) (bytes : List ℕ) (at : ℕ) (kept : List Placed) : Type 0 where
  pub items : List Placed
  pub reads : ReadsUpTo bits base bytes items (base + at) (drop at bytes)
  pub within : at ≤ length bytes
  pub kept_are : kept ≡ map (wrapped_item bits) items
  pub formed : IsTrue (are_formed kept)

-- at the start nothing is read
pub so_far-start : (bits : Bits) (base : ℕ) (bytes : List ℕ) (kept : List Placed) → kept ≡ [] → ReadSoFar bits base bytes 0 kept
so_far-start bits base bytes kept none =
    let F : List Placed → Type 0 = λ xs. IsTrue (are_formed xs) in
    record {
      items = [];
      reads = (omega arith, refl);
      within = omega arith;
      kept_are = none;
      formed = subst F (sym none) refl;
    }

-- an instruction that is read is kept
pub so_far-step : WrapsOnce → (bits : Bits) (base : ℕ) (bytes : List ℕ) (at address : ℕ) (kept kept' : List Placed) (d : Decoded) (p : Placed) →
    ReadSoFar bits base bytes at kept → address ≡ modulo_width bits (base + at) → kept' ≡ kept ++ p ∷ [] →
    p ≡ record { ip = address; len = d.len; instr = d.instr } → 0 < d.len → d.len ≤ 15 → d.len ≤ length (drop at bytes) →
    IsRead bits address (drop at bytes) (Read d) → IsTrue (is_well_formed d.instr) → ReadSoFar bits base bytes (at + d.len) kept'
so_far-step once bits base bytes at address kept kept' d p far there more_are is some few inside reads formed =
    let item : Placed = record { ip = base + at; len = d.len; instr = d.instr } in
    let S : ℕ → Type 0 = λ n. Spells table bits n (take d.len (drop at bytes)) d.instr in
    let first : StandsFirst bits (base + at) (drop at bytes) item = record {
      address = refl;
      some = omega arith;
      few = few;
      within = inside;
      reads = (reads.0, subst S (ap (modulo_width bits) there ∙ once bits (base + at)) reads.1);
    } in
    let more = one_more bits base bytes far.items (base + at) (drop at bytes) item far.reads first in
    let behind : base + at + d.len ≡ base + (at + d.len) = omega arith in
    let R : ℕ → Type 0 = λ n. ReadsUpTo bits base bytes (far.items ++ item ∷ []) n (drop d.len (drop at bytes)) in
    let R' : List ℕ → Type 0 = λ xs. ReadsUpTo bits base bytes (far.items ++ item ∷ []) (base + (at + d.len)) xs in
    let size = length-drop at bytes in
    let before = far.within in
    let F : List Placed → Type 0 = λ xs. IsTrue (are_formed xs) in
    let W : Placed → Type 0 = λ q. IsTrue (is_well_formed q.instr) in
    let named : p ≡ wrapped_item bits item = is ∙ ap (λ (n : ℕ). record item { ip = n }) there in
    record {
      items = far.items ++ item ∷ [];
      reads = subst R' (drop-drop d.len at bytes ∙ ap (λ (n : ℕ). drop n bytes) (omega arith)) (subst R behind more);
      within = omega arith;
      kept_are =
          more_are
          ∙ (ap (λ (xs : List Placed). xs ++ p ∷ []) far.kept_are
          ∙ (ap (λ (q : Placed). map (wrapped_item bits) far.items ++ q ∷ []) named ∙ sym (map-append (wrapped_item bits) far.items (item ∷ []))));
      formed = subst F (sym more_are) (formed-more kept p far.formed (subst W (sym is) formed));
    }

-- all bytes were read
pub so_far-all : (bits : Bits) (base : ℕ) (bytes : List ℕ) (at : ℕ) (kept : List Placed) → ReadSoFar bits base bytes at kept → length bytes ≤ at →
    HasItems bits base bytes (record { bits = bits; items = kept })
so_far-all bits base bytes at kept far over =
    let R : List ℕ → Type 0 = λ xs. ReadsUpTo bits base bytes far.items (base + at) xs in
    record {
      bits_are = refl;
      items = far.items;
      are = record { end = base + at; reads = subst R (drop_all at bytes over) far.reads };
      items_are = far.kept_are;
    }

-- no instruction is read behind those that were
pub so_far-stops : WrapsOnce → (bits : Bits) (base : ℕ) (bytes : List ℕ) (at address : ℕ) (kept : List Placed) (e : DecodeError) →
    ReadSoFar bits base bytes at kept → address ≡ modulo_width bits (base + at) → at < length bytes → IsRead bits address (drop at bytes) (reading_of (Err e)) →
    StopsAt bits base bytes at e
so_far-stops once bits base bytes at address kept e far there more reads =
    let R : ℕ → Type 0 = λ n. IsReading table bits n (drop at bytes) (reading_of (Err e)) in
    record {
      items = far.items;
      rest = drop at bytes;
      before = far.reads;
      some = omega (arith, length-drop at bytes);
      reads = subst R (ap (modulo_width bits) there ∙ once bits (base + at)) reads;
    }

-- ---- each is well placed

-- instructions that were read are well placed
pub are_placed : WrapsOnce → (bits : Bits) (ip : ℕ) (bytes : List ℕ) (items : List Placed) (ip' : ℕ) (rest : List ℕ) →
    ReadsUpTo bits ip bytes items ip' rest → ArePlaced bits (map (wrapped_item bits) items)
are_placed once bits ip bytes [] ip' rest h k lt = absurd (omega arith)
are_placed once bits ip bytes (p ∷ ps) ip' rest h zero lt =
    let S : ℕ → Type 0 = λ n. Spells table bits n (take p.len bytes) p.instr in
    let e : modulo_width bits (modulo_width bits p.ip) ≡ modulo_width bits ip = once bits p.ip ∙ ap (modulo_width bits) h.0.address in
    record {
      some = h.0.some;
      few = h.0.few;
      bytes = take p.len bytes;
      spelled = subst S (sym e) h.0.reads.1;
    }
are_placed once bits ip bytes (p ∷ ps) ip' rest h (suc k) lt =
    are_placed once bits (ip + p.len) (drop p.len bytes) ps ip' rest h.1 k (omega arith)

-- and sound
pub so_far-sound : WrapsOnce → (bits : Bits) (base : ℕ) (bytes : List ℕ) (at : ℕ) (kept : List Placed) → ReadSoFar bits base bytes at kept → AreSound bits kept
so_far-sound once bits base bytes at kept far =
    let P : List Placed → Type 0 = λ xs. ArePlaced bits xs in
    record {
      placed = subst P (sym far.kept_are) (are_placed once bits base bytes far.items (base + at) (drop at bytes) far.reads);
      formed = far.formed;
    }
