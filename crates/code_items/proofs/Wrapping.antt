-- Where code ends inside the address space, its instructions have their addresses in the mode.
use Rattle.std.proofs.Common.{◌≡◌, ℕ, ◌+◌, ◌^◌, ◌<◌, ◌≤◌, List, [], ◌∷◌, length, drop, refl, ap, ◌∙◌, arith, length-drop}
use Rattle.std.specs.Prelude.{map}
use Rattle.std.proofs.Math.Nat.{mod-eq_of_lt}
use Rattle.x86_values.specs.declared.Bits.{Bits}
use Rattle.x86_values.specs.Wrapping.{width, modulo_width}
use Rattle.move_goals.specs.declared.items.Placed.{Placed}
use Rattle.code_items.specs.Items.{ReadsUpTo, wrapped_item}

-- code that is read at an address that wraps is read alike
pub wrapped-same : (bits : Bits) (ip : ℕ) (bytes : List ℕ) (items : List Placed) (ip' : ℕ) (rest : List ℕ) → ReadsUpTo bits ip bytes items ip' rest →
    ip + length bytes ≤ 2 ^ width bits → map (wrapped_item bits) items ≡ items
wrapped-same bits ip bytes [] ip' rest h inside = refl
wrapped-same bits ip bytes (p ∷ ps) ip' rest h inside =
    let some = h.0.some in
    let within = h.0.within in
    let is = h.0.address in
    let small : p.ip < 2 ^ width bits = omega arith in
    let here : modulo_width bits p.ip ≡ p.ip = mod-eq_of_lt small in
    let more = wrapped-same bits (ip + p.len) (drop p.len bytes) ps ip' rest h.1 (omega (arith, length-drop p.len bytes)) in
    ap (λ (n : ℕ). record p { ip = n } ∷ map (wrapped_item bits) ps) here ∙ ap (λ (xs : List Placed). p ∷ xs) more
