-- A region that begins.
use Rattle.std.proofs.Common.{◌≡◌, ℕ, ◌+◌, ◌^◌, ◌≤◌, List, [], replicate, arith, sym, subst, None}
use Rattle.std.proofs.lemmas.Bool.Decides.{nat_tests}
use Rattle.std.proofs.lemmas.List.{length-replicate, get_or-replicate}
use Rattle.code_region.specs.declared.gaps.Span.{Span}
use Rattle.code_region.specs.State.{int3}
use Rattle.code_region.specs.Opening.{open_refusal}
use Rattle.code_region.specs.Keeping.{IsKept}

-- what is not refused is small and inside the address space
pub open-bounds : (base size max_blocks : ℕ) → open_refusal base size max_blocks ≡ None → (size ≤ 2 ^ 20) × (base + size ≤ 2 ^ 64)
unfolding open_refusal
open-bounds base size max_blocks e = grind (arith, nat_tests)

-- a region that opens is empty and keeps its invariant
pub kept-opened : (base size max_blocks capacity : ℕ) (bytes : List ℕ) (spans : List Span) → open_refusal base size max_blocks ≡ None →
    bytes ≡ replicate size int3 → spans ≡ [] → max_blocks ≤ capacity → IsKept base max_blocks bytes spans capacity
kept-opened base size max_blocks capacity bytes spans e b s room =
    let bounds = open-bounds base size max_blocks e in
    let l = length-replicate size int3 in
    let P : List ℕ → Type 0 = λ xs. IsKept base max_blocks xs spans capacity in
    let Q : List Span → Type 0 = λ xs. IsKept base max_blocks (replicate size int3) xs capacity in
    subst P (sym b) (subst Q (sym s) (record {
      small = omega arith;
      inside = omega arith;
      apart = omega arith;
      quiet = λ k h below. get_or-replicate size k int3 0 (omega arith);
      few = omega arith;
      roomy = room;
    }))
