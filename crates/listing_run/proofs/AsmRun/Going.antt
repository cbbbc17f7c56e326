-- One line more.
use Rattle.std.proofs.Common.{◌≡◌, ◌⊎◌, ℕ, suc, ◌+◌, ◌≤◌, List, [], ◌∷◌, ◌++◌, length, refl, sym, ap, ◌∙◌, subst, arith, append_assoc, append-nil, length-append}
use Rattle.x86_values.specs.declared.Bits.{Bits}
use Rattle.x86_values.specs.Wrapping.{modulo_width}
use Rattle.listing_run.specs.AsmRun.Lines.{lines_in, IsCodeOfLine, IsCodeOfLines, IsBadLine}

-- the code of lines and that of lines behind them
pub lines_joined : (bits : Bits) (ip : ℕ) (before after : List (List ℕ)) (a b : List ℕ) → IsCodeOfLines bits ip before a →
    IsCodeOfLines bits (ip + length a) after b → IsCodeOfLines bits ip (before ++ after) (a ++ b)
lines_joined bits ip [] after a b h k =
    let none : a ≡ [] = h in
    let there : IsCodeOfLines bits (ip + 0) after b = subst (λ (xs : List ℕ). IsCodeOfLines bits (ip + length xs) after b) none k in
    let here : IsCodeOfLines bits ip after b = subst (λ (n : ℕ). IsCodeOfLines bits n after b) (omega arith) there in
    subst (λ (xs : List ℕ). IsCodeOfLines bits ip after (xs ++ b)) (sym none) here
lines_joined bits ip (line ∷ before) after a b h k =
    let long : ip + length a ≡ ip + length h.0 + length h.1.0 = omega (arith, ap length h.1.1.1.1, length-append h.0 h.1.0) in
    let there = subst (λ (n : ℕ). IsCodeOfLines bits n after b) long k in
    let rest = lines_joined bits (ip + length h.0) before after h.1.0 b h.1.1.1.0 there in
    (h.0, (h.1.0 ++ b, (h.1.1.0, (rest, ap (λ (xs : List ℕ). xs ++ b) h.1.1.1.1 ∙ append_assoc h.0 h.1.0 b))))

-- the first lines of a text have their code, and the others are still to come
pub record IsGone (bits : Bits) (base : ℕ) (text rest : List ℕ) (number : ℕ) (code : List ℕ) : Type 0 where
  pub before : List (List ℕ)
  pub are : lines_in text ≡ before ++ lines_in rest
  pub is_code : IsCodeOfLines bits base before code
  pub number_is : number ≡ length before
  pub few : number + length rest ≤ length text

-- none of them
pub gone_start : (bits : Bits) (base : ℕ) (text rest : List ℕ) (number : ℕ) (code : List ℕ) → rest ≡ text → number ≡ 0 → code ≡ [] →
    IsGone bits base text rest number code
gone_start bits base text rest number code rest_is none empty = record {
  before = [];
  are = ap lines_in (sym rest_is);
  is_code = empty;
  number_is = none;
  few = omega (arith, ap length rest_is);
}

module _ (bits : Bits) (base : ℕ) (text rest line behind : List ℕ) (number : ℕ) (code : List ℕ) where
  -- one more
  pub gone_step : (front after : List ℕ) (len : ℕ) → len ≡ length code → IsGone bits base text rest number code → lines_in rest ≡ line ∷ lines_in behind →
      length behind + 1 ≤ length rest → IsCodeOfLine bits (modulo_width bits (base + len)) line front → after ≡ code ++ front →
      IsGone bits base text behind (number + 1) after
  gone_step front after len long h cut less told after_is =
      let is = subst (λ (n : ℕ). IsCodeOfLine bits (modulo_width bits (base + n)) line front) long told in
      let one : IsCodeOfLines bits (base + length code) (line ∷ []) front = (front, ([], (is, (refl, sym (append-nil front))))) in
      let joined = lines_joined bits base h.before (line ∷ []) code front h.is_code one in
      let few = h.few in
      record {
        before = h.before ++ line ∷ [];
        are = h.are ∙ (ap (λ (l : List (List ℕ)). h.before ++ l) cut ∙ sym (append_assoc h.before (line ∷ []) (lines_in behind)));
        is_code = subst (λ (xs : List ℕ). IsCodeOfLines bits base (h.before ++ line ∷ []) xs) (sym after_is) joined;
        number_is = omega (arith, h.number_is, length-append h.before (line ∷ []));
        few = omega arith;
      }

  -- a bad one
  pub gone_bad : (len : ℕ) → len ≡ length code → IsGone bits base text rest number code → lines_in rest ≡ line ∷ lines_in behind →
      ((bytes : List ℕ) → IsCodeOfLine bits (modulo_width bits (base + len)) line bytes → ⊥) →
      IsBadLine bits base (lines_in text) (number + 1)
  gone_bad len long h cut none = record {
    before = h.before;
    bad = line;
    behind = lines_in behind;
    are = h.are ∙ ap (λ (l : List (List ℕ)). h.before ++ l) cut;
    code = code;
    is_code = h.is_code;
    neither = subst (λ (n : ℕ). (bytes : List ℕ) → IsCodeOfLine bits (modulo_width bits (base + n)) line bytes → ⊥) long none;
    number_is = ap (λ (n : ℕ). n + 1) h.number_is;
  }

-- all of them
pub gone_end : (bits : Bits) (base : ℕ) (text rest : List ℕ) (number : ℕ) (code : List ℕ) → IsGone bits base text rest number code →
    length rest ≤ 0 → IsCodeOfLines bits base (lines_in text) code
unfolding lines_in
gone_end bits base text [] number code h none =
    subst (λ (l : List (List ℕ)). IsCodeOfLines bits base l code) (sym (append-nil h.before) ∙ sym h.are) h.is_code
gone_end bits base text (c ∷ rest) number code h none = absurd (omega arith)
