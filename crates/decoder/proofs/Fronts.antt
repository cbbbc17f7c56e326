-- What the front of some bytes says of the bytes behind it.
use Rattle.std.proofs.Common.{◌≡◌, ℕ, ◌<◌, ◌≤◌, Bool, true, false, nat_le, refl, subst, arith, if◌then◌else◌}
use Rattle.instruction_parts.specs.declared.spelling.PrefixState.{PrefixState}
use Rattle.instruction_parts.specs.Front.{Front, Open, Forbidden, Known, within_15}

-- an open front within 15 bytes
pub open_is : (given : ℕ) (f : Front) → within_15 given f ≡ Open → (f ≡ Open) × (given < 15)
unfolding within_15
open_is given Open h = open_case (nat_le 15 given) refl h
  where
    open_case : (test : Bool) → nat_le 15 given ≡ test → (if test then Forbidden else Open) ≡ Open → (Open ≡ Open) × (given < 15)
    open_case true e h = cc
    open_case false e h = (refl, grind (arith, e))
open_is given Forbidden h = cc
open_is given (Known f) h = absurd (known_case (nat_le 15 f.used) h)
  where
    known_case : (test : Bool) → (if test then Forbidden else Known f) ≡ Open → ⊥
    known_case true h = cc
    known_case false h = cc

-- a known front has fewer than 15 bytes before the opcode byte
pub known_is : (given : ℕ) (f : Front) (state : PrefixState) → within_15 given f ≡ Known state → (f ≡ Known state) × (state.used < 15)
unfolding within_15
known_is given Open state h = absurd (open_case (nat_le 15 given) h)
  where
    open_case : (test : Bool) → (if test then Forbidden else Open) ≡ Known state → ⊥
    open_case true h = cc
    open_case false h = cc
known_is given Forbidden state h = cc
known_is given (Known f) state h = known_case (nat_le 15 f.used) refl h
  where
    known_case : (test : Bool) → nat_le 15 f.used ≡ test → (if test then Forbidden else Known f) ≡ Known state → (Known f ≡ Known state) × (state.used < 15)
    known_case true e h = cc
    known_case false e h =
        let same : f ≡ state = cc in
        let few : f.used < 15 = grind (arith, e) in (h, subst (λ (g : PrefixState). g.used < 15) same few)

-- why a front is forbidden: no opcode byte can follow, or 15 bytes were read without one
pub data WhyForbidden (given : ℕ) : Front → Type 0 where
  Never : WhyForbidden given Forbidden
  OpenAt15 : 15 ≤ given → WhyForbidden given Open
  KnownAt15 : (state : PrefixState) → 15 ≤ state.used → WhyForbidden given (Known state)

-- why a front is forbidden within 15 bytes
pub forbidden_is : (given : ℕ) (f : Front) → within_15 given f ≡ Forbidden → WhyForbidden given f
unfolding within_15
forbidden_is given Open h = open_case (nat_le 15 given) refl h
  where
    open_case : (test : Bool) → nat_le 15 given ≡ test → (if test then Forbidden else Open) ≡ Forbidden → WhyForbidden given Open
    open_case true e h = OpenAt15 (grind (arith, e))
    open_case false e h = cc
forbidden_is given Forbidden h = Never
forbidden_is given (Known f) h = known_case (nat_le 15 f.used) refl h
  where
    known_case : (test : Bool) → nat_le 15 f.used ≡ test → (if test then Forbidden else Known f) ≡ Forbidden → WhyForbidden given (Known f)
    known_case true e h = KnownAt15 f (grind (arith, e))
    known_case false e h = cc
