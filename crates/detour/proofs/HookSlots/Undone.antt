-- The bytes that a hook keeps undo its patch, and those of several hooks of one function undo them all, the last first.
use Rattle.std.proofs.Common.{◌≡◌, ℕ, ◌-◌, ◌≤◌, List, [], ◌∷◌, ◌++◌, length, take, drop, replicate, arith, ap, refl, ◌∙◌, length-append}
use Rattle.std.proofs.lemmas.List.{length-replicate, length-take-le, take-append-drop}
use Rattle.std.proofs.lemmas.Slice.{drop-append-drop}
use Rattle.x86_values.specs.declared.Bits.{Bits}
use Rattle.detour.specs.Taken.{taken_bytes}
use Rattle.detour.specs.Detours.{patch_of}
use Rattle.detour.specs.declared.hook_slots.making.Hook.{Hook}
use Rattle.detour.specs.HookSlots.Installing.{IsHook}
use Rattle.detour.specs.HookSlots.Undoing.{written, AreStacked, patched, undone}

-- the first bytes of some code undo what is written over them
restored : (own patch code : List ℕ) (n : ℕ) → n ≤ length code → length patch ≡ n → own ≡ take n code → written own (written patch code) ≡ code
restored own patch code n le len is =
    let long : length own ≡ n = ap length is ∙ length-take-le n code le in
    ap (λ (k : ℕ). own ++ drop k (patch ++ drop (length patch) code)) long
    ∙ (ap (λ (k : ℕ). own ++ drop n (patch ++ drop k code)) len
    ∙ (ap (λ (xs : List ℕ). own ++ xs) (drop-append-drop n code patch n (omega arith) len)
    ∙ (ap (λ (xs : List ℕ). xs ++ drop n code) is ∙ take-append-drop n code)))

patch-length : (jump : List ℕ) (taken : ℕ) → length jump ≤ taken → length (patch_of jump taken) ≡ taken
unfolding patch_of
patch-length jump taken le =
    let both = length-append jump (replicate (taken - length jump) 0xCC) in
    let rest = length-replicate {A = ℕ} (taken - length jump) 0xCC in
    omega (arith, both, rest, le)

hook-undone : (bits : Bits) (code : List ℕ) (hook : Hook) → IsHook bits code hook → written hook.original.items (written hook.detour.patch code) ≡ code
hook-undone bits code hook is =
    let d = is.detour in
    restored hook.original.items hook.detour.patch code (taken_bytes d.items) d.are_taken.within
    (ap length d.patch ∙ patch-length d.jump.bytes (taken_bytes d.items) d.are_taken.enough)
    (is.original ∙ ap (λ (n : ℕ). take n code) d.taken)

-- **the bytes that are kept undo all patches**
pub stacked-undone : (bits : Bits) (code : List ℕ) (hooks : List Hook) → AreStacked bits code hooks → undone hooks (patched code hooks) ≡ code
stacked-undone bits code [] are = refl
stacked-undone bits code (hook ∷ hooks) are =
    ap (λ (xs : List ℕ). written hook.original.items xs) (stacked-undone bits (written hook.detour.patch code) hooks are.1)
    ∙ hook-undone bits code hook are.0
