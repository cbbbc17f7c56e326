-- The patch of a detour is short: its jump has at most 14 bytes, and what is taken for it ends at most 14 behind that.
use Rattle.std.proofs.Common.{◌≡◌, ℕ, zero, suc, ◌+◌, ◌-◌, ◌<◌, ◌≤◌, List, [], ◌∷◌, ◌++◌, length, take, drop, replicate, Option, Some, None, sym, ap, ◌∙◌, length-append, length-take-le, arith}
use Rattle.std.specs.Prelude.{Ok}
use Rattle.std.proofs.lemmas.List.{length-replicate}
use Rattle.std.proofs.lemmas.List.Sums.{sum_by-cons}
use Rattle.x86_values.specs.declared.Bits.{Bits}
use Rattle.x86_values.specs.Wrapping.{modulo_width}
use Rattle.opcode_rows.specs.Sweep.{IsReadAt}
use Rattle.move_goals.specs.declared.items.Placed.{Placed}
use Rattle.detour.specs.declared.parts.JumpForm.{JumpForm}
use Rattle.detour.specs.declared.parts.JumpForm.TheVariants.{Near, Relay, Absolute}
use Rattle.detour.specs.declared.start.StartTarget.{StartTarget}
use Rattle.detour.specs.Detours.{IsJumpOf, IsDetour, DetourState, all_follow, patch_of}
use Rattle.detour.specs.Jumps.{IsNearJump, near_jump_to, absolute_jump}
use Rattle.detour.specs.Taken.{taken_bytes, offset_at, reading_of_item, AreReadFrom}
use Rattle.c_calls.specs.Hooks.{IsDetourAnswerBy}
use Rattle.c_calls.proofs.ShortJumps.{JumpFacts, address-length, near_jump-bytes}

-- ---- the jump

near-short : (facts : JumpFacts) (bits : Bits) (at target : ℕ) (bytes : List ℕ) → IsNearJump bits at target bytes → length bytes ≤ 14
unfolding near_jump_to
near-short facts bits at target bytes h = omega (arith, near_jump-bytes facts bits at target bytes h)

absolute-short : (target : ℕ) → length (absolute_jump target) ≤ 14
unfolding absolute_jump
absolute-short target = omega (arith, address-length target)

jump-short : (facts : JumpFacts) (bits : Bits) (ip : ℕ) (code : List ℕ) (to place : ℕ) (start : StartTarget) (form : JumpForm) (bytes : List ℕ) (relay : Option ℕ)
    → IsJumpOf bits ip code to place (all_follow start) form bytes relay → length bytes ≤ 14
jump-short facts bits ip code to place start Near bytes relay (near, none) = near-short facts bits ip to bytes near
jump-short facts bits ip code to place start Relay bytes relay (far, (address, (at, (behind, near)))) = near-short facts bits ip address bytes near
jump-short facts bits ip code to place start Absolute bytes relay (far, (tried, (is, none))) = omega (arith, ap length is, absolute-short to)

-- ---- what is taken

-- an instruction that is read has at most 15 bytes
read-short : (bits : Bits) (ip offset : ℕ) (bytes : List ℕ) (p : Placed) → IsReadAt bits ip offset bytes (reading_of_item p) → p.len ≤ 15
unfolding IsReadAt
read-short bits ip offset bytes p (within, (short, spelled)) = omega (arith, length-take-le p.len bytes within, short)

-- instructions of which each begins before so many bytes
taken-short : (bits : Bits) (ip : ℕ) (code : List ℕ) (need before offset : ℕ) (items : List Placed) → AreReadFrom bits ip code offset items
    → ((k : ℕ) → k < length items → before + offset_at items k < need) → before ≤ need + 14 → before + taken_bytes items ≤ need + 14
taken-short bits ip code need before offset [] h first small = omega (arith, small)
taken-short bits ip code need before offset (p ∷ ps) ((address, reads), rest) first small =
    let few = read-short bits ip offset (drop offset code) p reads in
    let here : before < need = omega (arith, first 0 (omega arith)) in
    let sum = sum_by-cons (λ (x : Placed). x.len) p ps in
    let later : (k : ℕ) → k < length ps → before + p.len + offset_at ps k < need =
    λ (k : ℕ) (lt : k < length ps). omega (arith, first (suc k) (omega (arith, lt)), sum_by-cons (λ (x : Placed). x.len) p (take k ps)) in
    omega (arith, sum, taken-short bits ip code need (before + p.len) (offset + p.len) ps rest later (omega (arith, few, here)))

-- ---- the patch

patch_of-length : (jump : List ℕ) (taken : ℕ) → length (patch_of jump taken) ≡ length jump + (taken - length jump)
unfolding patch_of
patch_of-length jump taken =
    let int3 : ℕ = 0xCC in
    let n : length (replicate (taken - length jump) int3) ≡ taken - length jump = length-replicate (taken - length jump) int3 in
    omega (arith, length-append jump (replicate (taken - length jump) int3), n)

patch-short : (facts : JumpFacts) (bits : Bits) (ip : ℕ) (code : List ℕ) (to place : ℕ) (start : StartTarget) (d : DetourState) → IsDetour bits ip code to place (all_follow start) d → length d.patch ≤ 28
patch-short facts bits ip code to place start d is =
    let j = is.jump in
    let jump = jump-short facts bits ip code to place start j.form j.bytes j.relay is.first in
    let taken = is.are_taken in
    let most : 0 + taken_bytes is.items ≤ length j.bytes + 14 =
    taken-short bits ip code (length j.bytes) 0 0 is.items taken.read (λ (k : ℕ) (lt : k < length is.items). omega (arith, taken.fewest k lt)) (omega arith) in
    omega (arith, ap length is.patch, patch_of-length j.bytes (taken_bytes is.items), jump, most)

-- **a patch has at most 28 bytes**
pub patches-short : (facts : JumpFacts) (bits : Option Bits) (start : Option StartTarget) (ip : ℕ) (code : List ℕ) (to place : ℕ) (d : DetourState)
    → IsDetourAnswerBy bits start ip code to place (Ok d) → length d.patch ≤ 28
patches-short facts None start ip code to place d h = absurd cc
patches-short facts (Some bits) None ip code to place d h = absurd cc
patches-short facts (Some bits) (Some start) ip code to place d (few, is) = patch-short facts bits ip code (modulo_width bits to) place start d is
