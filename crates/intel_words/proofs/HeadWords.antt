-- The words in front of a name, and the name, stay where a space and more follow them.
use Rattle.std.proofs.Common.{◌≡◌, ℕ, Bool, true, false, List, [], ◌∷◌, ◌++◌, refl, ap, ◌∙◌}
use Rattle.std.specs.Prelude.{if◌then◌else◌, is_some}
use Rattle.intel_words.specs.Scanning.{is_word_byte, front_while, back, rest, word, rest_behind, skip_if}
use Rattle.intel_words.specs.ReadRegisters.{segment_of_word}
use Rattle.intel_words.specs.ReadWords.{is_lock, is_repeat_prefix, repeat_prefix_of, size_behind, behind_lock, behind_repeat, behind_segment, behind_size_word}
use Rattle.intel_words.proofs.Cutting.{if-no}
use Rattle.intel_words.proofs.WholeText.{behind_prefixes}

-- ---- a text and a space

-- what passes a test that a space fails ends at the space
front-stops : (p : ℕ → Bool) (xs ys : List ℕ) → p 32 ≡ false → front_while p (xs ++ 32 ∷ ys) ≡ front_while p xs
unfolding front_while
front-stops p [] ys h = if-no (p 32) _ _ h
front-stops p (c ∷ cs) ys h = ap (λ (r : List ℕ). if p c then c ∷ r else []) (front-stops p cs ys h)

back-step : (b : Bool) (c : ℕ) (cs r s zs : List ℕ) → r ≡ s ++ zs → (if b then r else c ∷ (cs ++ zs)) ≡ (if b then s else c ∷ cs) ++ zs
back-step true c cs r s zs e = e
back-step false c cs r s zs e = refl

-- and the rest stays in front of the space
back-stops : (p : ℕ → Bool) (xs ys : List ℕ) → p 32 ≡ false → back p (xs ++ 32 ∷ ys) ≡ back p xs ++ 32 ∷ ys
unfolding back
back-stops p [] ys h = if-no (p 32) _ _ h
back-stops p (c ∷ cs) ys h = back-step (p c) c cs (back p (cs ++ 32 ∷ ys)) (back p cs) (32 ∷ ys) (back-stops p cs ys h)

-- the word at the front is that without the space
pub word-stays : (xs ys : List ℕ) → word (xs ++ 32 ∷ ys) ≡ word xs
unfolding is_word_byte
word-stays xs ys = front-stops is_word_byte xs ys refl

-- and so is what stands behind it
pub behind-stays : (xs ys : List ℕ) → rest_behind (xs ++ 32 ∷ ys) ≡ rest_behind xs ++ 32 ∷ ys
unfolding is_word_byte
behind-stays xs ys = back-stops is_word_byte xs ys refl

-- ---- one word that may stand in front of a name

rest-stays : (xs zs : List ℕ) → (rest xs ≡ [] → ⊥) → rest (xs ++ zs) ≡ rest xs ++ zs
unfolding rest
rest-stays [] zs h = absurd (h refl)
rest-stays (c ∷ cs) zs h = refl

skip-stays : (b : Bool) (xs ys : List ℕ) → (skip_if b xs ≡ [] → ⊥) → skip_if b (xs ++ 32 ∷ ys) ≡ skip_if b xs ++ 32 ∷ ys
unfolding skip_if
skip-stays true xs ys h = ap rest (behind-stays xs ys) ∙ rest-stays (rest_behind xs) (32 ∷ ys) h
skip-stays false xs ys h = refl

skip-none : (b : Bool) → skip_if b [] ≡ []
unfolding skip_if rest back
skip-none true = refl
skip-none false = refl

-- what stands behind the first word, if that passes a test
abbrev stage : (List ℕ → Bool) → List ℕ → List ℕ
stage t xs = skip_if (t (word xs)) xs

stage-stays : (t : List ℕ → Bool) (xs ys : List ℕ) → (stage t xs ≡ [] → ⊥) → stage t (xs ++ 32 ∷ ys) ≡ stage t xs ++ 32 ∷ ys
stage-stays t xs ys h = ap (λ (w : List ℕ). skip_if (t w) (xs ++ 32 ∷ ys)) (word-stays xs ys) ∙ skip-stays (t (word xs)) xs ys h

-- where something is left, there was something
stage-some : (t : List ℕ → Bool) (xs : List ℕ) → (stage t xs ≡ [] → ⊥) → xs ≡ [] → ⊥
stage-some t xs h e = h (ap (stage t) e ∙ skip-none (t (word [])))

-- a text with a name is not empty
named-some : (xs : List ℕ) → (word xs ≡ [] → ⊥) → xs ≡ [] → ⊥
unfolding front_while
named-some xs h e = h (ap (λ (u : List ℕ). word u) e)

-- ---- the head of a text

-- the words of a head are those of each text that it begins, where a space follows it
pub record HeadStays (head ys : List ℕ) : Type 0 where
  pub lock : is_lock (word (head ++ 32 ∷ ys)) ≡ is_lock (word head)
  pub rep : repeat_prefix_of (word (behind_lock (head ++ 32 ∷ ys))) ≡ repeat_prefix_of (word (behind_lock head))
  pub seg : segment_of_word (word (behind_repeat (behind_lock (head ++ 32 ∷ ys)))) ≡ segment_of_word (word (behind_repeat (behind_lock head)))
  pub asize : size_behind 97 (word (behind_segment (behind_repeat (behind_lock (head ++ 32 ∷ ys)))))
      ≡ size_behind 97 (word (behind_segment (behind_repeat (behind_lock head))))
  pub osize : size_behind 111 (word (behind_size_word 97 (behind_segment (behind_repeat (behind_lock (head ++ 32 ∷ ys))))))
      ≡ size_behind 111 (word (behind_size_word 97 (behind_segment (behind_repeat (behind_lock head)))))
  pub named : word (behind_prefixes (head ++ 32 ∷ ys)) ≡ word (behind_prefixes head)
  pub behind : rest_behind (behind_prefixes (head ++ 32 ∷ ys)) ≡ rest_behind (behind_prefixes head) ++ 32 ∷ ys

-- a head with a name stays
pub head-stays : (head ys : List ℕ) → (word (behind_prefixes head) ≡ [] → ⊥) → HeadStays head ys
unfolding behind_lock behind_repeat behind_segment behind_size_word
head-stays head ys some =
    let t1 : List ℕ → Bool = is_lock in
    let t2 : List ℕ → Bool = λ w. is_repeat_prefix (repeat_prefix_of w) in
    let t3 : List ℕ → Bool = λ w. is_some (segment_of_word w) in
    let t4 : List ℕ → Bool = λ w. is_some (size_behind 97 w) in
    let t5 : List ℕ → Bool = λ w. is_some (size_behind 111 w) in
    let zs : List ℕ = 32 ∷ ys in
    let s5 : behind_prefixes head ≡ [] → ⊥ = named-some (behind_prefixes head) some in
    let s4 = stage-some t5 (behind_size_word 97 (behind_segment (behind_repeat (behind_lock head)))) s5 in
    let s3 = stage-some t4 (behind_segment (behind_repeat (behind_lock head))) s4 in
    let s2 = stage-some t3 (behind_repeat (behind_lock head)) s3 in
    let s1 = stage-some t2 (behind_lock head) s2 in
    let e1 : behind_lock (head ++ zs) ≡ behind_lock head ++ zs = stage-stays t1 head ys s1 in
    let e2 : behind_repeat (behind_lock (head ++ zs)) ≡ behind_repeat (behind_lock head) ++ zs = ap behind_repeat e1 ∙ stage-stays t2 (behind_lock head) ys s2 in
    let e3 : behind_segment (behind_repeat (behind_lock (head ++ zs))) ≡ behind_segment (behind_repeat (behind_lock head)) ++ zs =
    ap behind_segment e2 ∙ stage-stays t3 (behind_repeat (behind_lock head)) ys s3 in
    let e4 : behind_size_word 97 (behind_segment (behind_repeat (behind_lock (head ++ zs)))) ≡ behind_size_word 97 (behind_segment (behind_repeat (behind_lock head))) ++ zs =
    ap (behind_size_word 97) e3 ∙ stage-stays t4 (behind_segment (behind_repeat (behind_lock head))) ys s4 in
    let e5 : behind_prefixes (head ++ zs) ≡ behind_prefixes head ++ zs =
    ap (behind_size_word 111) e4 ∙ stage-stays t5 (behind_size_word 97 (behind_segment (behind_repeat (behind_lock head)))) ys s5 in
    record {
      lock = ap is_lock (word-stays head ys);
      rep = ap repeat_prefix_of (ap (λ (u : List ℕ). word u) e1 ∙ word-stays (behind_lock head) ys);
      seg = ap segment_of_word (ap (λ (u : List ℕ). word u) e2 ∙ word-stays (behind_repeat (behind_lock head)) ys);
      asize = ap (size_behind 97) (ap (λ (u : List ℕ). word u) e3 ∙ word-stays (behind_segment (behind_repeat (behind_lock head))) ys);
      osize = ap (size_behind 111) (ap (λ (u : List ℕ). word u) e4 ∙ word-stays (behind_size_word 97 (behind_segment (behind_repeat (behind_lock head)))) ys);
      named = ap (λ (u : List ℕ). word u) e5 ∙ word-stays (behind_prefixes head) ys;
      behind = ap (λ (u : List ℕ). rest_behind u) e5 ∙ behind-stays (behind_prefixes head) ys;
    }
