-- Bytes behind those that a sink holds, and before those that a source has left.
use Rattle.std.proofs.Common.{◌≡◌, List, ℕ, [], ◌++◌, Option, Some, None, refl, sym, ap, append_assoc, append-nil}
use Rattle.byte_ports.specs.Ports.{with_front, with_back}

-- no bytes put behind what is held change nothing
pub with_back-nil : (held : Option (List ℕ)) → with_back held [] ≡ held
with_back-nil None = refl
with_back-nil (Some bytes) = ap Some (append-nil bytes)

-- bytes put behind in two parts are put behind as one
pub with_back-append : (held : Option (List ℕ)) (a b : List ℕ) → with_back (with_back held a) b ≡ with_back held (a ++ b)
with_back-append None a b = refl
with_back-append (Some bytes) a b = ap Some (append_assoc bytes a b)

-- no bytes taken from the front change nothing
pub with_front-nil : (left : Option (List ℕ)) → with_front [] left ≡ left
with_front-nil None = refl
with_front-nil (Some bytes) = refl

-- bytes taken in two parts are taken as one
pub with_front-append : (left : Option (List ℕ)) (a b : List ℕ) → with_front a (with_front b left) ≡ with_front (a ++ b) left
with_front-append None a b = refl
with_front-append (Some bytes) a b = ap Some (sym (append_assoc a b bytes))
