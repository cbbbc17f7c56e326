-- What fills up to a multiple of a number.
use Rattle.std.proofs.Common.{◌≡◌, ℕ, zero, suc, ◌+◌, ◌-◌, ◌*◌, ◌/◌, ◌%◌, ◌<◌, ◌≤◌, Bool, true, false, List, ◌++◌, length, refl, sym, ap, ◌∙◌, arith, length-append}
use Rattle.std.proofs.Math.Nat.{mod_self, mod-eq_of_lt, mod-add-div, add-mod_right, mul-mod_right, suc-mul}
use Rattle.std.proofs.lemmas.Nat.{div-add-mod', mod_below}
use Rattle.std.proofs.lemmas.List.{length-replicate}
use Rattle.x86_values.specs.declared.Bits.{Bits}
use Rattle.x86_values.specs.declared.Bits.TheVariants.{B16, B32, B64}
use Rattle.assembly_text.specs.Padding.{gap, nop, longest_nop, repeated, nops, padding}

-- fewer bytes than the number
pub gap_less : (n p : ℕ) → 0 < n → gap n p < n
unfolding gap
gap_less n p some = mod_below (n - p % n) n some

-- what is left and what is there come to one more of the number
whole : (p n r q : ℕ) → r < n → r + q ≡ p → p + (n - r) ≡ q + n
whole p n r q lt is = omega arith

-- by what is left
gap_at : (n p r : ℕ) → 0 < n → p % n ≡ r → r < n → (p + (n - r) % n) % n ≡ 0
gap_at n p zero some is lt =
    let all : n - 0 ≡ n = omega arith in
    let none : p + 0 ≡ p = omega arith in
    rw (all, mod_self n, none) is
gap_at n p (suc k) some is lt =
    let small : n - suc k < n = omega arith in
    let more : p + (n - suc k) ≡ n * (p / n) + n = whole p n (suc k) (n * (p / n)) lt (ap (λ (r : ℕ). r + n * (p / n)) (sym is) ∙ mod-add-div p n) in
    rw (mod-eq_of_lt small, more) (add-mod_right (n * (p / n)) n ∙ mul-mod_right n (p / n))

-- they reach a multiple of it
pub gap_reaches : (n p : ℕ) → 0 < n → (p + gap n p) % n ≡ 0
unfolding gap
gap_reaches n p some = gap_at n p (p % n) some refl (mod_below p n some)

-- ---- lengths

-- a NOP of at most nine bytes has so many
nop_length : (m : ℕ) → m ≤ 9 → length (nop m) ≡ m
unfolding nop
nop_length zero le = refl
nop_length (suc zero) le = refl
nop_length (suc (suc zero)) le = refl
nop_length (suc (suc (suc zero))) le = refl
nop_length (suc (suc (suc (suc zero)))) le = refl
nop_length (suc (suc (suc (suc (suc zero))))) le = refl
nop_length (suc (suc (suc (suc (suc (suc zero)))))) le = refl
nop_length (suc (suc (suc (suc (suc (suc (suc zero))))))) le = refl
nop_length (suc (suc (suc (suc (suc (suc (suc (suc zero)))))))) le = refl
nop_length (suc (suc (suc (suc (suc (suc (suc (suc (suc zero))))))))) le = refl
nop_length (suc (suc (suc (suc (suc (suc (suc (suc (suc (suc m)))))))))) le = absurd (omega arith)

-- so many times some bytes
repeated_length : (k : ℕ) (bytes : List ℕ) → length (repeated k bytes) ≡ k * length bytes
unfolding repeated
repeated_length zero bytes = let none : 0 * length bytes ≡ 0 = omega arith in sym none
repeated_length (suc k) bytes =
    let joint = length-append bytes (repeated k bytes) in
    let rest = repeated_length k bytes in
    let more = suc-mul k (length bytes) in
    omega (arith, joint, rest, more)

-- NOPs of which the longest has so many bytes
some_nops : (m count : ℕ) → 0 < m → m ≤ 9 → length (repeated (count / m) (nop m) ++ nop (count % m)) ≡ count
some_nops m count some few =
    let less = mod_below count m some in
    let last : length (nop (count % m)) ≡ count % m = nop_length (count % m) (omega (arith, less)) in
    let first : length (repeated (count / m) (nop m)) ≡ count / m * m = repeated_length (count / m) (nop m) ∙ ap (λ (k : ℕ). count / m * k) (nop_length m few) in
    length-append (repeated (count / m) (nop m)) (nop (count % m)) ∙ (ap (λ (k : ℕ). k + length (nop (count % m))) first
    ∙ (ap (λ (k : ℕ). count / m * m + k) last ∙ div-add-mod' count m))

-- NOPs have so many bytes
nops_length : (bits : Bits) (count : ℕ) → length (nops bits count) ≡ count
unfolding nops longest_nop
nops_length B16 count = some_nops 4 count (omega arith) (omega arith)
nops_length B32 count = some_nops 9 count (omega arith) (omega arith)
nops_length B64 count = some_nops 9 count (omega arith) (omega arith)

-- either way
pub padding_length : (bits : Bits) (zeros : Bool) (count : ℕ) → length (padding bits zeros count) ≡ count
unfolding padding
padding_length bits true count = length-replicate count 0
padding_length bits false count = nops_length bits count
