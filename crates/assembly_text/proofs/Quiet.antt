-- Lines without a comment or a quote.
use Rattle.std.proofs.Common.{◌≡◌, ℕ, suc, ◌+◌, Bool, true, false, List, [], ◌∷◌, length, refl, arith}
use Rattle.std.specs.Prelude.{not, cond}
use Rattle.std.specs.List.{prefix_len}
use Rattle.std.proofs.lemmas.Bool.{and_parts}
use Rattle.assembly_text.specs.Lines.{is_quote, begins_comment, quote_behind, is_quiet, code_len}

not_false : (b : Bool) → not b ≡ true → b ≡ false
not_false true h = cc
not_false false h = refl

-- no comment begins with such a byte
no_comment : (c : ℕ) → is_quiet c ≡ true → begins_comment 0 c ≡ false
unfolding is_quiet
no_comment c h = not_false (begins_comment 0 c) (and_parts (not (begins_comment 0 c)) (not (is_quote c)) h).0

-- nor a quote
no_quote : (c : ℕ) → is_quiet c ≡ true → quote_behind 0 c ≡ 0
unfolding is_quiet quote_behind
no_quote c h = rw (not_false (is_quote c) (and_parts (not (begins_comment 0 c)) (not (is_quote c)) h).1) refl

-- such a byte in front counts
pub quiet_more : (c : ℕ) (cs : List ℕ) → is_quiet c ≡ true → code_len 0 cs ≡ length cs → code_len 0 (c ∷ cs) ≡ suc (length cs)
unfolding code_len
quiet_more c cs h e = rw (no_comment c h, no_quote c h, e) refl

-- a byte in front, of either kind
quiet_step : (c : ℕ) (cs : List ℕ) (b : Bool) → is_quiet c ≡ b → (prefix_len is_quiet cs ≡ length cs → code_len 0 cs ≡ length cs)
    → cond b (1 + prefix_len is_quiet cs) 0 ≡ suc (length cs) → code_len 0 (c ∷ cs) ≡ suc (length cs)
quiet_step c cs true is more h = quiet_more c cs is (more (omega arith))
quiet_step c cs false is more h = absurd (omega arith)

-- a line of such bytes is code to its end
pub quiet_line : (line : List ℕ) → prefix_len is_quiet line ≡ length line → code_len 0 line ≡ length line
unfolding code_len
quiet_line [] h = refl
quiet_line (c ∷ cs) h = quiet_step c cs (is_quiet c) refl (λ e. quiet_line cs e) h
