-- What a search for the last hook of a function keeps of it.
use Rattle.std.specs.Prelude.{ℕ, ◌==◌, nat_lt, if◌then◌else◌, Option, None, Some}
use Rattle.detour.specs.declared.hook_slots.layers.LastHook.{LastHook}
use Rattle.detour.specs.declared.hook_slots.making.Hook.{Hook}

-- its layer and its place
abbrev pub seen_last : Hook → LastHook
seen_last hook = record { layer = hook.layer; place = hook.place }

-- the later one of two
abbrev pub later_last : Option LastHook → Option LastHook → Option LastHook
later_last None other = other
later_last (Some last) None = Some last
later_last (Some last) (Some other) = if nat_lt last.layer other.layer then Some other else Some last

-- the last one with one more hook, which counts if it is of the function
abbrev pub last_with : ℕ → Option LastHook → Hook → Option LastHook
last_with ip last hook = if hook.ip == ip then later_last last (Some (seen_last hook)) else last
