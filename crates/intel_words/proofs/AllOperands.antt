-- The operands of a text are read one behind the other.
use Rattle.std.proofs.Common.{◌≡◌, ℕ, Bool, true, false, List, [], ◌∷◌, ◌++◌, Option, Some, refl, ap, sym, ◌∙◌, append_assoc}
use Rattle.std.proofs.lemmas.Bool.{and_parts}
use Rattle.std.specs.Prelude.{◌||◌, not}
use Rattle.std.specs.List.{list_all}
use Rattle.x86_values.specs.declared.Bits.{Bits}
use Rattle.x86_values.specs.declared.Operand.{Operand}
use Rattle.x86_values.specs.declared.Operand.TheVariants.{Absent as NoOperand, Reg as RegOperand, Mem as MemOperand, Imm, Near, Far as FarOperand}
use Rattle.x86_values.specs.declared.Instr.{Instr}
use Rattle.x86_values.specs.Operands.{is_absent}
use Rattle.instruction_parts.specs.declared.row_types.Row.{Row}
use Rattle.text_parts.specs.declared.style.Style.TheVariants.{Intel}
use Rattle.text_parts.specs.Layout.{nth_operand, separator, bracket_operand, operand_part}
use Rattle.intel_words.specs.declared.words.OperandText.{OperandText}
use Rattle.intel_words.specs.Words.{nth_of}
use Rattle.intel_words.specs.Printable.{nth_is_printable, are_in_front}
use Rattle.intel_words.specs.Scanning.{is_word_byte, is_no_comma, front_while, back, rest, token, next_operand}
use Rattle.intel_words.specs.ReadAddresses.{operand_in}
use Rattle.intel_words.specs.ReadWords.{four, operands_in}
use Rattle.intel_words.proofs.Cutting.{front-ends, front-all, back-append}
use Rattle.intel_words.proofs.OneOperand.{operand-read}
use Rattle.intel_words.proofs.NoCommas.{operand-plain}

-- ---- what stands behind an operand

-- nothing, or a comma, a space and the next operand
next-stops : (op : Operand) (x : List ℕ) → (is_absent op ≡ true → x ≡ []) → front_while is_no_comma (separator false op ++ x) ≡ []
unfolding separator front_while is_no_comma
next-stops NoOperand x h = ap (front_while is_no_comma) (h refl)
next-stops (RegOperand r) x h = refl
next-stops (MemOperand m) x h = refl
next-stops (Imm n) x h = refl
next-stops (Near n) x h = refl
next-stops (FarOperand s o) x h = refl

next-found : (op : Operand) (x : List ℕ) → (is_absent op ≡ true → x ≡ []) → rest (rest (back is_no_comma (separator false op ++ x))) ≡ x
unfolding separator back is_no_comma rest
next-found NoOperand x h = ap (λ (u : List ℕ). rest (rest (back is_no_comma u))) (h refl) ∙ sym (h refl)
next-found (RegOperand r) x h = refl
next-found (MemOperand m) x h = refl
next-found (Imm n) x h = refl
next-found (Near n) x h = refl
next-found (FarOperand s o) x h = refl

-- the first operand behind the name
first-stops : (op : Operand) (x : List ℕ) → (is_absent op ≡ true → x ≡ []) → front_while is_word_byte (separator true op ++ x) ≡ []
unfolding separator front_while is_word_byte
first-stops NoOperand x h = ap (front_while is_word_byte) (h refl)
first-stops (RegOperand r) x h = refl
first-stops (MemOperand m) x h = refl
first-stops (Imm n) x h = refl
first-stops (Near n) x h = refl
first-stops (FarOperand s o) x h = refl

first-stays : (op : Operand) (x : List ℕ) → (is_absent op ≡ true → x ≡ []) → back is_word_byte (separator true op ++ x) ≡ separator true op ++ x
unfolding separator back is_word_byte
first-stays NoOperand x h = ap (back is_word_byte) (h refl) ∙ sym (h refl)
first-stays (RegOperand r) x h = refl
first-stays (MemOperand m) x h = refl
first-stays (Imm n) x h = refl
first-stays (Near n) x h = refl
first-stays (FarOperand s o) x h = refl

first-found : (op : Operand) (x : List ℕ) → (is_absent op ≡ true → x ≡ []) → rest (separator true op ++ x) ≡ x
unfolding separator rest
first-found NoOperand x h = ap rest (h refl) ∙ sym (h refl)
first-found (RegOperand r) x h = refl
first-found (MemOperand m) x h = refl
first-found (Imm n) x h = refl
first-found (Near n) x h = refl
first-found (FarOperand s o) x h = refl

-- ---- an operand in front of the next one

-- the operand's own text
token-found : (xs : List ℕ) (op : Operand) (x : List ℕ) → list_all is_no_comma xs ≡ true → (is_absent op ≡ true → x ≡ []) → token (xs ++ (separator false op ++ x)) ≡ xs
token-found xs op x plain h = front-ends is_no_comma xs (separator false op ++ x) plain (next-stops op x h)

next-text : (xs : List ℕ) (op : Operand) (x : List ℕ) → list_all is_no_comma xs ≡ true → (is_absent op ≡ true → x ≡ []) → next_operand (xs ++ (separator false op ++ x)) ≡ x
next-text xs op x plain h =
    ap (λ (u : List ℕ). rest (rest u)) (back-append is_no_comma xs (separator false op ++ x) plain) ∙ next-found op x h

-- an absent operand has no text
absent-text : (bits : Bits) (row : Row) (instr : Instr) (n : ℕ) (op : Operand) → is_absent op ≡ true → bracket_operand Intel bits row instr n op ≡ []
unfolding bracket_operand
absent-text bits row instr n NoOperand h = refl
absent-text bits row instr n (RegOperand r) h = absurd cc
absent-text bits row instr n (MemOperand m) h = absurd cc
absent-text bits row instr n (Imm x) h = absurd cc
absent-text bits row instr n (Near x) h = absurd cc
absent-text bits row instr n (FarOperand s o) h = absurd cc

absent-separator : (op : Operand) → is_absent op ≡ true → separator false op ≡ []
unfolding separator
absent-separator NoOperand h = refl
absent-separator (RegOperand r) h = absurd cc
absent-separator (MemOperand m) h = absurd cc
absent-separator (Imm x) h = absurd cc
absent-separator (Near x) h = absurd cc
absent-separator (FarOperand s o) h = absurd cc

joined-empty : (x s t : List ℕ) → x ≡ [] → s ≡ [] → t ≡ [] → x ++ (s ++ t) ≡ []
joined-empty x s t ex es et = ap (λ (u : List ℕ). u ++ (s ++ t)) ex ∙ (ap (λ (u : List ℕ). u ++ t) es ∙ et)

implied : (a b : Bool) → (not a || b) ≡ true → a ≡ true → b ≡ true
implied true b h e = h
implied false b h e = absurd cc

-- ---- the four operands

-- the text of operand n
abbrev operand_text : Bits → Row → Instr → ℕ → List ℕ
operand_text bits row instr n = bracket_operand Intel bits row instr n (nth_operand instr n)

-- from operand n on, without what stands in front of it
abbrev from_3 : Bits → Row → Instr → List ℕ
from_3 bits row instr = operand_text bits row instr 3

abbrev from_2 : Bits → Row → Instr → List ℕ
from_2 bits row instr = operand_text bits row instr 2 ++ (separator false (nth_operand instr 3) ++ from_3 bits row instr)

abbrev from_1 : Bits → Row → Instr → List ℕ
from_1 bits row instr = operand_text bits row instr 1 ++ (separator false (nth_operand instr 2) ++ from_2 bits row instr)

abbrev from_0 : Bits → Row → Instr → List ℕ
from_0 bits row instr = operand_text bits row instr 0 ++ (separator false (nth_operand instr 1) ++ from_1 bits row instr)

-- the operands behind a name
abbrev pub behind_name : Bits → Row → Instr → List ℕ
behind_name bits row instr = separator true (nth_operand instr 0) ++ from_0 bits row instr

absent-3 : (bits : Bits) (row : Row) (instr : Instr) → is_absent (nth_operand instr 3) ≡ true → from_3 bits row instr ≡ []
absent-3 bits row instr h = absent-text bits row instr 3 (nth_operand instr 3) h

absent-2 : (bits : Bits) (row : Row) (instr : Instr) → are_in_front instr ≡ true → is_absent (nth_operand instr 2) ≡ true → from_2 bits row instr ≡ []
unfolding are_in_front
absent-2 bits row instr f h =
    let f1 = (and_parts (not (is_absent (nth_operand instr 0)) || is_absent (nth_operand instr 1)) _ f).1 in
    let f2 = (and_parts (not (is_absent (nth_operand instr 1)) || is_absent (nth_operand instr 2)) _ f1).1 in
    let next : is_absent (nth_operand instr 3) ≡ true = implied (is_absent (nth_operand instr 2)) (is_absent (nth_operand instr 3)) f2 h in
    joined-empty (operand_text bits row instr 2) (separator false (nth_operand instr 3)) (from_3 bits row instr)
    (absent-text bits row instr 2 (nth_operand instr 2) h) (absent-separator (nth_operand instr 3) next) (absent-3 bits row instr next)

absent-1 : (bits : Bits) (row : Row) (instr : Instr) → are_in_front instr ≡ true → is_absent (nth_operand instr 1) ≡ true → from_1 bits row instr ≡ []
unfolding are_in_front
absent-1 bits row instr f h =
    let f1 = (and_parts (not (is_absent (nth_operand instr 0)) || is_absent (nth_operand instr 1)) _ f).1 in
    let f2 = (and_parts (not (is_absent (nth_operand instr 1)) || is_absent (nth_operand instr 2)) _ f1).0 in
    let next : is_absent (nth_operand instr 2) ≡ true = implied (is_absent (nth_operand instr 1)) (is_absent (nth_operand instr 2)) f2 h in
    joined-empty (operand_text bits row instr 1) (separator false (nth_operand instr 2)) (from_2 bits row instr)
    (absent-text bits row instr 1 (nth_operand instr 1) h) (absent-separator (nth_operand instr 2) next) (absent-2 bits row instr f next)

absent-0 : (bits : Bits) (row : Row) (instr : Instr) → are_in_front instr ≡ true → is_absent (nth_operand instr 0) ≡ true → from_0 bits row instr ≡ []
unfolding are_in_front
absent-0 bits row instr f h =
    let f2 = (and_parts (not (is_absent (nth_operand instr 0)) || is_absent (nth_operand instr 1)) _ f).0 in
    let next : is_absent (nth_operand instr 1) ≡ true = implied (is_absent (nth_operand instr 0)) (is_absent (nth_operand instr 1)) f2 h in
    joined-empty (operand_text bits row instr 0) (separator false (nth_operand instr 1)) (from_1 bits row instr)
    (absent-text bits row instr 0 (nth_operand instr 0) h) (absent-separator (nth_operand instr 1) next) (absent-1 bits row instr f next)

-- four operands together
pub four-same : (a b c d : Option OperandText) (w x y z : OperandText) → a ≡ Some w → b ≡ Some x → c ≡ Some y → d ≡ Some z → four a b c d ≡ Some (w ∷ x ∷ y ∷ z ∷ [])
unfolding four
four-same a b c d w x y z ea eb ec ed = rw (ea, eb, ec, ed) refl

-- the operands of a printed text are read as those of the instruction
pub operands-read : (bits : Bits) (row : Row) (instr : Instr) → are_in_front instr ≡ true → nth_is_printable bits instr 0 ≡ true →
    nth_is_printable bits instr 1 ≡ true → nth_is_printable bits instr 2 ≡ true → nth_is_printable bits instr 3 ≡ true →
    operands_in (from_0 bits row instr) ≡ Some (nth_of bits row instr 0 ∷ nth_of bits row instr 1 ∷ nth_of bits row instr 2 ∷ nth_of bits row instr 3 ∷ [])
unfolding operands_in
operands-read bits row instr f p0 p1 p2 p3 =
    let c0 = operand-plain bits row instr 0 (nth_operand instr 0) p0 in
    let c1 = operand-plain bits row instr 1 (nth_operand instr 1) p1 in
    let c2 = operand-plain bits row instr 2 (nth_operand instr 2) p2 in
    let c3 = operand-plain bits row instr 3 (nth_operand instr 3) p3 in
    let t0 : List ℕ = from_0 bits row instr in
    let e1 : next_operand t0 ≡ from_1 bits row instr = next-text (operand_text bits row instr 0) (nth_operand instr 1) (from_1 bits row instr) c0 (absent-1 bits row instr f) in
    let e2 : next_operand (next_operand t0) ≡ from_2 bits row instr =
    ap (λ (u : List ℕ). next_operand u) e1 ∙ next-text (operand_text bits row instr 1) (nth_operand instr 2) (from_2 bits row instr) c1 (absent-2 bits row instr f) in
    let e3 : next_operand (next_operand (next_operand t0)) ≡ from_3 bits row instr =
    ap (λ (u : List ℕ). next_operand u) e2 ∙ next-text (operand_text bits row instr 2) (nth_operand instr 3) (from_3 bits row instr) c2 (absent-3 bits row instr) in
    four-same (operand_in (token t0)) (operand_in (token (next_operand t0))) (operand_in (token (next_operand (next_operand t0))))
    (operand_in (token (next_operand (next_operand (next_operand t0)))))
    (nth_of bits row instr 0) (nth_of bits row instr 1) (nth_of bits row instr 2) (nth_of bits row instr 3)
    (ap operand_in (token-found (operand_text bits row instr 0) (nth_operand instr 1) (from_1 bits row instr) c0 (absent-1 bits row instr f))
    ∙ operand-read bits row instr 0 (nth_operand instr 0) p0)
    (ap (λ (u : List ℕ). operand_in (token u)) e1
    ∙ (ap operand_in (token-found (operand_text bits row instr 1) (nth_operand instr 2) (from_2 bits row instr) c1 (absent-2 bits row instr f))
    ∙ operand-read bits row instr 1 (nth_operand instr 1) p1))
    (ap (λ (u : List ℕ). operand_in (token u)) e2
    ∙ (ap operand_in (token-found (operand_text bits row instr 2) (nth_operand instr 3) (from_3 bits row instr) c2 (absent-3 bits row instr))
    ∙ operand-read bits row instr 2 (nth_operand instr 2) p2))
    (ap (λ (u : List ℕ). operand_in (token u)) e3
    ∙ (ap operand_in (front-all is_no_comma (operand_text bits row instr 3) c3) ∙ operand-read bits row instr 3 (nth_operand instr 3) p3))

-- ---- the operands behind the name

-- no word goes on behind the name of an instruction
pub operands-stop : (bits : Bits) (row : Row) (instr : Instr) → are_in_front instr ≡ true → front_while is_word_byte (behind_name bits row instr) ≡ []
operands-stop bits row instr f = first-stops (nth_operand instr 0) (from_0 bits row instr) (absent-0 bits row instr f)

-- so what follows the name is kept whole
pub operands-stay : (bits : Bits) (row : Row) (instr : Instr) → are_in_front instr ≡ true → back is_word_byte (behind_name bits row instr) ≡ behind_name bits row instr
operands-stay bits row instr f = first-stays (nth_operand instr 0) (from_0 bits row instr) (absent-0 bits row instr f)

-- the operands begin behind the space that follows the name
pub operands-found : (bits : Bits) (row : Row) (instr : Instr) → are_in_front instr ≡ true → rest (behind_name bits row instr) ≡ from_0 bits row instr
operands-found bits row instr f = first-found (nth_operand instr 0) (from_0 bits row instr) (absent-0 bits row instr f)

regroup : (s0 x0 s1 x1 s2 x2 s3 x3 : List ℕ) → (s0 ++ x0) ++ ((s1 ++ x1) ++ ((s2 ++ x2) ++ (s3 ++ x3))) ≡ s0 ++ (x0 ++ (s1 ++ (x1 ++ (s2 ++ (x2 ++ (s3 ++ x3))))))
regroup s0 x0 s1 x1 s2 x2 s3 x3 = simp append_assoc

-- each operand ends at a comma or with the text
pub operands-grouped : (bits : Bits) (row : Row) (instr : Instr) →
    operand_part Intel bits row instr 0 ++ (operand_part Intel bits row instr 1 ++ (operand_part Intel bits row instr 2 ++ operand_part Intel bits row instr 3))
    ≡ behind_name bits row instr
unfolding operand_part
operands-grouped bits row instr =
    regroup (separator true (nth_operand instr 0)) (operand_text bits row instr 0) (separator false (nth_operand instr 1)) (operand_text bits row instr 1)
    (separator false (nth_operand instr 2)) (operand_text bits row instr 2) (separator false (nth_operand instr 3)) (operand_text bits row instr 3)
