-- Hooks of one function, which lie over one another: the last that was made is the first to be removed.
use Rattle.std.specs.Prelude.{◌≡◌, ◌⊎◌, ℕ, ◌<◌, ◌==◌, nat_lt, if◌then◌else◌, List, [], ◌∷◌, All, AllPairs, count_by, Option, None, Some}
use Rattle.detour.specs.declared.hook_slots.making.Hook.{Hook}
use Rattle.detour.specs.HookSlots.State.{hook_at}

-- how many live hooks are of the function at an address
abbrev pub hooks_of : ℕ → List Hook → ℕ
hooks_of ip hooks = count_by (λ hook. hook.ip == ip) hooks

-- the one of two hooks of a function that was made later: it has the higher layer
abbrev pub later : Option Hook → Option Hook → Option Hook
later None other = other
later (Some hook) None = Some hook
later (Some hook) (Some other) = if nat_lt hook.layer other.layer then Some other else Some hook

-- the last of the live hooks of the function at an address
abbrev pub last_of : ℕ → List Hook → Option Hook
last_of ip [] = None
last_of ip (hook ∷ hooks) = if hook.ip == ip then later (Some hook) (last_of ip hooks) else last_of ip hooks

-- where the last hook of a function has its trampoline, if it lies over a layer
abbrev pub over_layer : ℕ → Option Hook → Option ℕ
over_layer layer None = None
over_layer layer (Some last) = if nat_lt layer last.layer then Some last.place else None

-- where the last hook of the function of a hook has its trampoline, if it is another one
abbrev pub cover_of : Option Hook → List Hook → Option ℕ
cover_of None hooks = None
cover_of (Some hook) hooks = over_layer hook.layer (last_of hook.ip hooks)

-- the same of the hook whose trampoline starts at an address
abbrev pub covered_by : ℕ → List Hook → Option ℕ
covered_by place hooks = cover_of (hook_at place hooks) hooks

-- a hook lies over another one of its function
abbrev pub LiesOver : Hook → Hook → Type 0
LiesOver hook other = (hook.ip ≡ other.ip) × (other.layer < hook.layer)

-- the hook at one address lies over the one at another, and none over it
pub record IsCoveredBy (hooks : List Hook) (place by : ℕ) : Type 0 where
  pub hook : Hook
  pub last : Hook
  pub stands : hook_at place hooks ≡ Some hook
  pub last_stands : hook_at by hooks ≡ Some last
  pub over : LiesOver last hook
  pub free : covered_by by hooks ≡ None

-- of two hooks of one function one lies over the other
abbrev pub IsOverOrUnder : Hook → Hook → Type 0
IsOverOrUnder hook other = hook.ip ≡ other.ip → (hook.layer < other.layer) ⊎ (other.layer < hook.layer)

-- a hook lies over fewer hooks than its function has
abbrev pub IsCounted : List Hook → Hook → Type 0
IsCounted hooks hook = hook.layer < hooks_of hook.ip hooks

-- the hooks of each function lie over one another
pub record AreLayered (hooks : List Hook) : Type 0 where
  pub ordered : AllPairs IsOverOrUnder hooks
  pub counted : All (IsCounted hooks) hooks
