-- The label of a line, by its front.
use Rattle.std.proofs.Common.{◌≡◌, ℕ, zero, suc, ◌+◌, ◌-◌, length, Bool, true, false, arith, List, [], ◌∷◌, take, get_or, refl, sym, ap, subst, None}
use Rattle.std.specs.Prelude.{not, ◌&&◌, ◌==◌, nat_lt}
use Rattle.std.specs.List.{prefix_len, suffix_len}
use Rattle.std.proofs.lemmas.Bool.{and_parts}
use Rattle.assembly_text.specs.Lines.{is_blank, is_name_byte, is_digit, name_len, has_label, label_of, code_len, unindented, shown}

-- two facts as one
both : (a b : Bool) → a ≡ true → b ≡ true → (a && b) ≡ true
both a b x y = rw (x, y) refl

-- a colon behind the name at the front
is_colon : List ℕ → Bool
is_colon text = get_or text (name_len text) 0 == 58

-- one byte in front
colon_step : (b : Bool) (c : ℕ) (cs ds : List ℕ) → is_name_byte c ≡ b → (is_colon ds ≡ true → (name_len cs ≡ name_len ds) × (is_colon cs ≡ true))
    → is_colon (c ∷ ds) ≡ true → (name_len (c ∷ cs) ≡ name_len (c ∷ ds)) × (is_colon (c ∷ cs) ≡ true)
unfolding is_colon
colon_step true c cs ds is more h =
    let one : 1 + prefix_len is_name_byte ds ≡ suc (prefix_len is_name_byte ds) = omega arith in
    let two : 1 + prefix_len is_name_byte cs ≡ suc (prefix_len is_name_byte cs) = omega arith in
    let r = more (rw (is, one) at h) in
    (rw is (ap (λ (n : ℕ). 1 + n) r.0), rw (is, two) r.1)
colon_step false c cs ds is more h = (rw is refl, rw is (rw is at h))

-- where a text is cut behind the colon, its front is the same
colon : (m : ℕ) (text : List ℕ) → is_colon (take m text) ≡ true → (name_len text ≡ name_len (take m text)) × (is_colon text ≡ true)
unfolding is_colon
colon zero text h = absurd cc
colon (suc m) [] h = absurd cc
colon (suc m) (c ∷ cs) h = colon_step (is_name_byte c) c cs (take m cs) refl (colon m cs) h

-- the front of a text has a label only if the text has it
front : (m : ℕ) (text : List ℕ) → has_label (take m text) ≡ true → has_label text ≡ true
unfolding has_label is_colon
front zero text h = absurd cc
front (suc m) [] h = absurd cc
front (suc m) (c ∷ cs) h =
    let parts = and_parts (nat_lt 0 (name_len (c ∷ take m cs)) && not (is_digit c)) (is_colon (c ∷ take m cs)) h in
    let same = colon (suc m) (c ∷ cs) parts.1 in
    both (nat_lt 0 (name_len (c ∷ cs)) && not (is_digit c)) (is_colon (c ∷ cs))
    (subst (λ (n : ℕ). (nat_lt 0 n && not (is_digit c)) ≡ true) (sym same.0) parts.0) same.1

-- nothing has no label
nothing : (m : ℕ) → has_label (take m []) ≡ true → ⊥
unfolding has_label
nothing zero h = cc
nothing (suc m) h = cc

-- one byte more in front
cut_step : (b : Bool) (m n c : ℕ) (cs : List ℕ) → is_blank c ≡ b → (has_label (take m (unindented (take n cs))) ≡ true → has_label (unindented cs) ≡ true)
    → has_label (take m (unindented (c ∷ take n cs))) ≡ true → has_label (unindented (c ∷ cs)) ≡ true
cut_step true m n c cs is more h =
    let one : 1 + prefix_len is_blank (take n cs) ≡ suc (prefix_len is_blank (take n cs)) = omega arith in
    let two : 1 + prefix_len is_blank cs ≡ suc (prefix_len is_blank cs) = omega arith in
    rw (is, two) (more (rw (is, one) at h))
cut_step false m n c cs is more h = rw is (front (suc n) (c ∷ cs) (front m (c ∷ take n cs) (rw is at h)))

-- nor has a line where its comment and its blanks are cut off, unless it had it before
cut : (m n : ℕ) (line : List ℕ) → has_label (take m (unindented (take n line))) ≡ true → has_label (unindented line) ≡ true
cut m zero line h = absurd (nothing m h)
cut m (suc n) [] h = absurd (nothing m h)
cut m (suc n) (c ∷ cs) h = cut_step (is_blank c) m n c cs refl (cut m n cs) h

-- a line whose front is no label has none
pub no_label : (b : Bool) (line : List ℕ) → has_label (shown line) ≡ b → has_label (unindented line) ≡ false → label_of (shown line) ≡ None
no_label true line is none =
    let code = unindented (take (code_len 0 line) line) in
    let there : has_label (unindented line) ≡ true = cut (length code - suffix_len is_blank code) (code_len 0 line) line is in
    absurd cc
no_label false line is none = rw is refl
