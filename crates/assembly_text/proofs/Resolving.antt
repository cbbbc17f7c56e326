-- One word more of a text with numbers in place of names.
use Rattle.std.proofs.Common.{◌≡◌, ℕ, Bool, true, false, zero, suc, max, ◌-◌, ◌<◌, ◌≤◌, List, [], ◌∷◌, ◌++◌, length, take, drop, get_or, Option, None, refl, ap, arith}
use Rattle.std.specs.Prelude.{◌==◌, if◌then◌else◌}
use Rattle.assembly_text.specs.Lines.{lines_in, name_len, quote_behind}
use Rattle.assembly_text.specs.Drafts.{is_stack_word, word_len}
use Rattle.assembly_text.specs.Constants.{constant_from, bad_from, number_or, part_for, part_len, resolved_from, resolved}

-- bytes of a word before are passed
pub passed : (numbers : List ℕ → Option ℕ) (quote skip : ℕ) (text : List ℕ)
    → resolved_from numbers quote skip text ≡ resolved_from numbers quote 0 (drop skip text)
unfolding resolved_from
passed numbers quote zero text = refl
passed numbers quote (suc skip) [] = refl
passed numbers quote (suc skip) (c ∷ cs) = passed numbers quote skip cs

-- the first word is taken
pub one_part : (numbers : List ℕ → Option ℕ) (quote n : ℕ) (text : List ℕ) → 0 < n → n ≡ part_len quote text → 0 < length text
    → resolved_from numbers quote 0 text ≡ part_for numbers quote (take n text) ++ resolved_from numbers (quote_behind quote (get_or text 0 0)) 0 (drop n text)
unfolding resolved_from
one_part numbers quote n [] some is long = absurd (omega arith)
one_part numbers quote zero (c ∷ cs) some is long = absurd (omega arith)
one_part numbers quote (suc n) (c ∷ cs) some is long =
    let less : suc n - 1 ≡ n = omega arith in
    rw (← is, less) (ap (λ (x : List ℕ). part_for numbers quote (c ∷ take n cs) ++ x) (passed numbers (quote_behind quote c) n cs))

-- no words
pub no_part : (numbers : List ℕ → Option ℕ) (quote : ℕ) (text : List ℕ) → length text ≤ 0 → resolved_from numbers quote 0 text ≡ []
unfolding resolved_from
no_part numbers quote [] none = refl
no_part numbers quote (c ∷ cs) none = absurd (omega arith)

-- no line has a name where there is no line
pub constant_end : (rest name : List ℕ) → length rest ≤ 0 → constant_from (lines_in rest) name ≡ None
unfolding lines_in constant_from
constant_end [] name none = refl
constant_end (c ∷ rest) name none = absurd (omega arith)

-- nor is one bad
pub bad_end : (rest : List ℕ) (count : ℕ) → length rest ≤ 0 → bad_from (lines_in rest) count ≡ None
unfolding lines_in bad_from
bad_end [] count none = refl
bad_end (c ∷ rest) count none = absurd (omega arith)

-- either way
same : (b : Bool) (word : List ℕ) → (if b then word else word) ≡ word
same true word = refl
same false word = refl

-- a word stays where there are no names
no_name : (quote : ℕ) (word : List ℕ) → part_for (constant_from []) quote word ≡ word
unfolding part_for constant_from number_or
no_name quote word = same (quote == 0) word

-- what is taken and what is left
cut_back : (n : ℕ) (cs : List ℕ) → take n cs ++ drop n cs ≡ cs
cut_back zero cs = refl
cut_back (suc n) [] = refl
cut_back (suc n) (c ∷ cs) = ap (λ (xs : List ℕ). c ∷ xs) (cut_back n cs)

-- five or one at least
some_either : (b : Bool) (m : ℕ) → 0 < (if b then 5 else max 1 m)
some_either true m = omega arith
some_either false m = omega arith

-- a word has a byte at least
word_some : (text : List ℕ) → 0 < word_len text
unfolding word_len
word_some text = some_either (is_stack_word text) (name_len text)

-- one at least either way
one_at_least : (b : Bool) (n : ℕ) → 0 < n → 0 < (if b then n else 1)
one_at_least true n some = some
one_at_least false n some = omega arith

-- a part has a byte at least
part_some : (quote : ℕ) (text : List ℕ) → 0 < part_len quote text
unfolding part_len
part_some quote text = one_at_least (quote == 0) (word_len text) (word_some text)

-- a part and what is left of a text
parted : (n c : ℕ) (cs : List ℕ) → 0 < n → take n (c ∷ cs) ++ drop (n - 1) cs ≡ c ∷ cs
parted zero c cs some = absurd (omega arith)
parted (suc n) c cs some =
    let less : suc n - 1 ≡ n = omega arith in
    rw less (ap (λ (xs : List ℕ). c ∷ xs) (cut_back n cs))

-- a text stays where there are no names
pub unnamed : (quote skip : ℕ) (text : List ℕ) → resolved_from (constant_from []) quote skip text ≡ drop skip text
unfolding resolved_from
unnamed quote zero [] = refl
unnamed quote (suc skip) [] = refl
unnamed quote (suc skip) (c ∷ cs) = unnamed quote skip cs
unnamed quote zero (c ∷ cs) =
    let n = part_len quote (c ∷ cs) in
    let more = unnamed (quote_behind quote c) (n - 1) cs in
    rw (no_name quote (take n (c ∷ cs)), more) (parted n c cs (part_some quote (c ∷ cs)))

-- so it does where there are no bytes of names
pub unnamed_text : (names text : List ℕ) → length names ≤ 0 → resolved (lines_in names) text ≡ text
unfolding lines_in
unnamed_text [] text none = unnamed 0 0 text
unnamed_text (c ∷ names) text none = absurd (omega arith)
