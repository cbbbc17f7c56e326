-- Bytes that were there stay in front, over call after call.
use Rattle.std.proofs.Common.{◌≡◌, ℕ, ◌≤◌, ◌-◌, List, [], ◌++◌, length, ap, sym, ◌∙◌, append_assoc, arith}
use Rattle.std.proofs.lemmas.List.{append-nil, length-append}
use Rattle.text_options.specs.Kept.{Kept}

-- nothing was appended
pub kept-same : (a : List ℕ) → Kept a a
kept-same a = record { rest = []; is = sym (append-nil a) }

-- something was appended
pub kept-is : (a b c : List ℕ) → c ≡ a ++ b → Kept a c
kept-is a b c e = record { rest = b; is = e }

-- two calls one after the other
pub kept-on : (a b c : List ℕ) → Kept a b → Kept b c → Kept a c
kept-on a b c p q =
    record { rest = p.rest ++ q.rest; is = q.is ∙ ap (λ (x : List ℕ). x ++ q.rest) p.is ∙ append_assoc a p.rest q.rest }

-- what was there is no longer than all
pub longer : (a b c : List ℕ) → c ≡ a ++ b → length a ≤ length c
longer a b c e = omega (arith, ap (λ (x : List ℕ). length x) e ∙ length-append a b)

-- how many bytes were appended
pub appended-len : (a b c : List ℕ) → c ≡ a ++ b → length c - length a ≡ length b
appended-len a b c e = omega (arith, ap (λ (x : List ℕ). length x) e ∙ length-append a b)

pub ruleset length_rules = (longer, appended-len)

pub ruleset kept_rules = (kept-same, kept-is, kept-on, append_assoc)
