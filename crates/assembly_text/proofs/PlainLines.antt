-- Plain lines: they have neither a label, a comment nor a quote.
use Rattle.std.proofs.Common.{◌≡◌, ℕ, zero, suc, ◌+◌, ◌-◌, ◌<◌, Bool, true, false, List, [], ◌∷◌, length, get_or, take, drop, refl, sym, ap, subst, ◌∙◌, arith, inl, inr, Some, None}
use Rattle.std.specs.Prelude.{not, ◌&&◌, ◌==◌, nat_lt, cond}
use Rattle.std.specs.List.{prefix_len}
use Rattle.std.proofs.Math.Seq.{take-length}
use Rattle.std.proofs.lemmas.List.{get_or-drop}
use Rattle.std.proofs.lemmas.Bool.{and_parts, cases_eq, cases_lt}
use Rattle.assembly_text.specs.Lines.{is_blank, is_digit, is_quote, begins_comment, is_quiet, is_inner, is_plain, IsPlain, lines_in, code_len, code_of, unindented, trimmed, shown, name_len, has_label, label_of, body_of, body_column}
use Rattle.assembly_text.proofs.Cutting.{IsUnended, first_ended}
use Rattle.assembly_text.proofs.Quiet.{quiet_more}
use Rattle.assembly_text.proofs.Fronts.{no_label}

not_false : (b : Bool) → not b ≡ true → b ≡ false
not_false true h = cc
not_false false h = refl

and_false : (a b : Bool) → b ≡ false → (a && b) ≡ false
and_false true b h = h
and_false false b h = refl

-- a plain byte is an inner one
pub plain_inner : (c : ℕ) → is_plain c ≡ true → is_inner c ≡ true
unfolding is_plain
plain_inner c h = (and_parts (not (c == 58)) (is_inner c) h).1

-- a label does not end with it
plain_colon : (c : ℕ) → is_plain c ≡ true → (c == 58) ≡ false
unfolding is_plain
plain_colon c h = not_false (c == 58) (and_parts (not (c == 58)) (is_inner c) h).0

-- neither a comment nor a quote begins with an inner byte
inner_quiet : (c : ℕ) → is_inner c ≡ true → is_quiet c ≡ true
unfolding is_inner
inner_quiet c h = (and_parts (not (c == 10)) (is_quiet c) h).1

-- nor does a line end with it
pub inner_unended : (bytes : List ℕ) (k : ℕ) → ((j : ℕ) → j < k → is_inner (get_or bytes j 0) ≡ true) → IsUnended bytes k
unfolding is_inner
inner_unended bytes k inner j below is = let no : is_inner 10 ≡ true = subst (λ (x : ℕ). is_inner x ≡ true) is (inner j below) in cc

-- the byte at which a line ends is there
present : (bytes : List ℕ) (k : ℕ) → get_or bytes k 0 ≡ 10 → k < length bytes
present [] zero is = absurd (omega arith)
present [] (suc k) is = absurd (omega arith)
present (c ∷ bytes) zero is = omega arith
present (c ∷ bytes) (suc k) is = omega (arith, present bytes k is)

-- as one says that found it
pub fed : (bytes : List ℕ) (k x : ℕ) → x ≡ get_or bytes k 0 → x ≡ 10 → k < length bytes
fed bytes k x e is = present bytes k (sym e ∙ is)

-- inner bytes up to a line feed are the first line
pub inner_line : (bytes line behind : List ℕ) (k x : ℕ) → ((j : ℕ) → j < k → is_inner (get_or bytes j 0) ≡ true) → x ≡ get_or bytes k 0 → x ≡ 10
    → line ≡ take k bytes → behind ≡ drop (suc k) bytes → lines_in bytes ≡ line ∷ lines_in behind
inner_line bytes line behind k x inner e is line_is behind_is =
    rw (line_is, behind_is) (first_ended bytes k (fed bytes k x e is) (inner_unended bytes k inner) (sym e ∙ is))

-- behind a colon more of them follow
pub inner_more : (text rest : List ℕ) (at r : ℕ) → get_or text at 0 ≡ 58 → rest ≡ drop (at + 1) text → ((k : ℕ) → k < at → is_inner (get_or text k 0) ≡ true)
    → ((k : ℕ) → k < r → is_plain (get_or rest k 0) ≡ true) → (k : ℕ) → k < at + (1 + r) → is_inner (get_or text k 0) ≡ true
unfolding is_inner is_quiet begins_comment is_quote
inner_more text rest at r colon rest_is before after k lt =
    elim (cases_lt k at) [
      | inl below ↦ before k below
      | inr from ↦ elim (cases_eq k at) [
        | inl here ↦ rw (here, colon) refl
        | inr past ↦
            let j : ℕ = k - (at + 1) in
            let back : at + 1 + j ≡ k = omega arith in
            let same : get_or rest j 0 ≡ get_or text k 0 =
            ap (λ (x : List ℕ). get_or x j 0) rest_is ∙ (get_or-drop (at + 1) text j 0 ∙ ap (λ (i : ℕ). get_or text i 0) back) in
            subst (λ (x : ℕ). is_inner x ≡ true) same (plain_inner (get_or rest j 0) (after j (omega arith)))
      ]
    ]

-- a line of inner bytes is code to its end
inner_len : (line : List ℕ) → ((k : ℕ) → k < length line → is_inner (get_or line k 0) ≡ true) → code_len 0 line ≡ length line
unfolding code_len
inner_len [] inner = refl
inner_len (c ∷ cs) inner = quiet_more c cs (inner_quiet c (inner 0 (omega arith))) (inner_len cs (λ k lt. inner (suc k) (omega arith)))

-- which is the line
pub inner_code : (line : List ℕ) → ((k : ℕ) → k < length line → is_inner (get_or line k 0) ≡ true) → line ≡ code_of line
inner_code line inner = sym (ap (λ (n : ℕ). take n line) (inner_len line inner) ∙ take-length line)

-- as is a plain one
pub plain_code : (line : List ℕ) → IsPlain line → line ≡ code_of line
plain_code line plain = inner_code line (λ k lt. plain_inner (get_or line k 0) (plain k lt))

-- past its end too no label ends
everywhere : (line : List ℕ) → IsPlain line → (k : ℕ) → is_plain (get_or line k 0) ≡ true
unfolding is_plain is_inner is_quiet begins_comment is_quote
everywhere [] plain zero = refl
everywhere [] plain (suc k) = refl
everywhere (c ∷ cs) plain zero = plain 0 (omega arith)
everywhere (c ∷ cs) plain (suc k) = everywhere cs (λ j lt. plain (suc j) (omega arith)) k

-- a text without a colon has no label
no_colon : (text : List ℕ) → ((k : ℕ) → (get_or text k 0 == 58) ≡ false) → has_label text ≡ false
unfolding has_label
no_colon text none =
    and_false (nat_lt 0 (name_len text) && not (is_digit (get_or text 0 0))) (get_or text (name_len text) 0 == 58) (none (name_len text))

none_false : (b : Bool) (name : List ℕ) → cond b (Some name) None ≡ None → b ≡ false
none_false true name h = cc
none_false false name h = refl

-- nor has a line without one
pub colonless : (line : List ℕ) → ((k : ℕ) → (get_or line k 0 == 58) ≡ false) → has_label (shown line) ≡ false
colonless line none =
    let n = prefix_len is_blank line in
    let front = no_colon (unindented line) (λ k. subst (λ (x : ℕ). (x == 58) ≡ false) (sym (get_or-drop n line k 0)) (none (n + k))) in
    none_false (has_label (shown line)) (take (name_len (shown line)) (shown line)) (no_label (has_label (shown line)) line refl front)

-- as a plain line is
unlabelled : (line : List ℕ) → IsPlain line → has_label (shown line) ≡ false
unlabelled line plain = colonless line (λ k. plain_colon (get_or line k 0) (everywhere line plain k))

-- so that it has none
pub plain_unlabelled : (line : List ℕ) → IsPlain line → label_of (shown line) ≡ None
plain_unlabelled line plain = rw (unlabelled line plain) refl

-- what a plain line shows is the line without blanks at its ends
pub plain_shown : (line : List ℕ) → IsPlain line → trimmed line ≡ shown line
plain_shown line plain = ap (λ (x : List ℕ). trimmed x) (plain_code line plain)

-- and all that it says
pub plain_body : (line : List ℕ) → IsPlain line → body_of (shown line) ≡ shown line
plain_body line plain = rw (unlabelled line plain) refl

-- which begins behind its blanks
pub plain_column : (line : List ℕ) → IsPlain line → prefix_len is_blank line + 1 ≡ body_column line
plain_column line plain =
    let column = ap (λ (x : List ℕ). prefix_len is_blank x) (plain_code line plain) in
    let body = ap (λ (x : List ℕ). length x) (plain_body line plain) in
    omega (arith, column, body)
