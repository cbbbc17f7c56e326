-- When there are no hooks.
use Rattle.std.specs.Prelude.{ℕ, ◌+◌, ◌%◌, ◌^◌, ◌==◌, nat_lt, not, ◌||◌, if◌then◌else◌, Bool, Option, Some, None}
use Rattle.x86_values.specs.declared.Bits.{Bits}
use Rattle.x86_values.specs.Wrapping.{width}
use Rattle.code_region.specs.Opening.{is_bad_size}
use Rattle.detour.specs.declared.hook_slots.refusals.MakeError.{MakeError}
use Rattle.detour.specs.declared.hook_slots.refusals.MakeError.TheVariants.{BadSize, BadSlot, Wraps}

-- a slot has 16 bytes up to those of the range, in units of 16
abbrev pub is_bad_slot : ℕ → ℕ → Bool
is_bad_slot size slot = slot == 0 || not (slot % 16 == 0) || nat_lt size slot

-- the first cause for which hooks are refused, memory apart; the range ends inside the address space of the mode
unfoldable pub make_refusal : Bits → ℕ → ℕ → ℕ → Option MakeError
make_refusal bits base size slot =
    if is_bad_size size then Some (BadSize size)
    else (if is_bad_slot size slot then Some (BadSlot slot)
    else (if nat_lt (2 ^ width bits) (base + size) then Some (Wraps (base + size)) else None))
