-- What undoes hooks of one function: the bytes that each of them keeps, the last first.
use Rattle.std.specs.Prelude.{ℕ, List, [], ◌∷◌, ◌++◌, drop, length}
use Rattle.x86_values.specs.declared.Bits.{Bits}
use Rattle.detour.specs.declared.hook_slots.making.Hook.{Hook}
use Rattle.detour.specs.HookSlots.Installing.{IsHook}

-- some code with other bytes over its first ones
abbrev pub written : List ℕ → List ℕ → List ℕ
written bytes code = bytes ++ drop (length bytes) code

-- hooks of one function, the first one of this code, and each other one of the code with the patches before it
abbrev pub AreStacked : Bits → List ℕ → List Hook → Type 0
AreStacked bits code [] = Unit {0}
AreStacked bits code (hook ∷ hooks) = IsHook bits code hook × AreStacked bits (written hook.detour.patch code) hooks

-- the code with all their patches
abbrev pub patched : List ℕ → List Hook → List ℕ
patched code [] = code
patched code (hook ∷ hooks) = patched (written hook.detour.patch code) hooks

-- some code over whose first bytes the hooks' own bytes are written, those of the last hook first
abbrev pub undone : List Hook → List ℕ → List ℕ
undone [] code = code
undone (hook ∷ hooks) code = written hook.original.items (undone hooks code)
