-- Languages of shapes: which texts stand for which shapes, and what it means that an answer is right for one.
use Rattle.std.proofs.Common.{◌≡◌, ◌⊎◌, inl, inr, ℕ, suc, ◌+◌, ◌≤◌, List, [], ◌∷◌, ◌++◌, length, Result, Ok, Err, refl, sym, ap, ◌∙◌, subst, arith, Bool, true, false, min, fold, map}
use Rattle.instruction_parts.specs.declared.row_types.RowShape.{RowShape}
use Rattle.row_notation.specs.Reading.{Answer, better, best, after_word, then_read}
use Rattle.std.proofs.lemmas.Bool.{eqb-true}
use Rattle.std.proofs.Common.{eq-eqb, ◌==◌, if◌then◌else◌}

-- a language: which texts stand for a shape
abbrev pub Language : Type 1
Language = List ℕ → RowShape → Type 0

-- some text is in the language
abbrev pub IsInhabited : Language → Type 0
IsInhabited L = (text : List ℕ) × ((s : RowShape) × L text s)

-- no text is
abbrev pub IsEmpty : Language → Type 0
IsEmpty L = (text : List ℕ) (s : RowShape) → L text s → ⊥

-- what may follow a byte
abbrev pub behind_byte : ℕ → Language → Language
behind_byte c L text s = L (c ∷ text) s

-- a text of the one or of the other
abbrev pub either_of : Language → Language → Language
either_of L M text s = L text s ⊎ M text s

-- a word, and then a text of the language
abbrev pub word_then : List ℕ → Language → Language
word_then word L text s = (rest : List ℕ) × (text ≡ word ++ rest) × L rest s

-- an answer is right: the shape of the text, or the number of bytes left at the farthest place where some text of the language goes on
abbrev pub IsRight : Language → List ℕ → Answer → Type 0
IsRight L text (Ok s) = L text s
IsRight L [] (Err left) = (left ≡ 0) × IsInhabited L × ((s : RowShape) → L [] s → ⊥)
IsRight L (c ∷ text) (Err left) =
    ((left ≡ suc (length text)) × IsInhabited L × IsEmpty (behind_byte c L))
    ⊎ ((left ≤ length text) × IsRight (behind_byte c L) text (Err left))

-- an answer is right for a language with the same texts
pub right-same : (L M : Language) (text : List ℕ) (r : Answer) → ((t : List ℕ) (s : RowShape) → L t s → M t s)
    → ((t : List ℕ) (s : RowShape) → M t s → L t s) → IsRight L text r → IsRight M text r
right-same L M text (Ok s) there back h = there text s h
right-same L M [] (Err left) there back h =
    (h.0, (h.1.0, (h.1.1.0, there h.1.0 h.1.1.0 h.1.1.1)), λ s m. h.2 s (back [] s m))
right-same L M (c ∷ text) (Err left) there back (inl h) =
    inl (h.0, (h.1.0, (h.1.1.0, there h.1.0 h.1.1.0 h.1.1.1)), λ t s m. h.2 t s (back (c ∷ t) s m))
right-same L M (c ∷ text) (Err left) there back (inr h) =
    inr (h.0, right-same (behind_byte c L) (behind_byte c M) text (Err left) (λ t s m. there (c ∷ t) s m) (λ t s m. back (c ∷ t) s m) h.1)

-- no more bytes are left than there are
pub right-left : (L : Language) (text : List ℕ) (left : ℕ) → IsRight L text (Err left) → left ≤ length text
right-left L [] left h = omega (arith, h.0)
right-left L (c ∷ text) left (inl h) = omega (arith, h.0)
right-left L (c ∷ text) left (inr h) = omega (arith, h.0)

-- a language with a right answer has some text
pub right-inhabited : (L : Language) (text : List ℕ) (r : Answer) → IsRight L text r → IsInhabited L
right-inhabited L text (Ok s) h = (text, (s, h))
right-inhabited L [] (Err left) h = h.1
right-inhabited L (c ∷ text) (Err left) (inl h) = h.1
right-inhabited L (c ∷ text) (Err left) (inr h) =
    let i = right-inhabited (behind_byte c L) text (Err left) h.1 in (c ∷ i.0, (i.1.0, i.1.1))

min-left : (a b : ℕ) → a ≤ b → min a b ≡ a
min-left a b h = omega arith

min-right : (a b : ℕ) → b ≤ a → min a b ≡ b
min-right a b h = omega arith

-- beside a language whose texts all end here, the other's answer is right
beside_empty : (L M : Language) (text : List ℕ) (r : Answer) → IsEmpty L → IsRight M text r → IsRight (either_of L M) text r
beside_empty L M text r none h =
    right-same M (either_of L M) text r (λ t s m. inr m) (λ t s m. elim m [ inl l ↦ absurd (none t s l) | inr x ↦ x ]) h

empty_beside : (L M : Language) (text : List ℕ) (r : Answer) → IsEmpty M → IsRight L text r → IsRight (either_of L M) text r
empty_beside L M text r none h =
    right-same L (either_of L M) text r (λ t s m. inl m) (λ t s m. elim m [ inl x ↦ x | inr l ↦ absurd (none t s l) ]) h

-- the better of two answers is right for both languages together
pub right-better : (L M : Language) (text : List ℕ) (a b : Answer) → IsRight L text a → IsRight M text b → IsRight (either_of L M) text (better a b)
right-better L M text (Ok s) b l m = inl l
right-better L M text (Err a) (Ok s) l m = inr m
right-better L M [] (Err a) (Err b) l m =
    (omega (arith, l.0, m.0), (l.1.0, (l.1.1.0, inl l.1.1.1)), λ s x. elim x [ inl y ↦ l.2 s y | inr y ↦ m.2 s y ])
right-better L M (c ∷ text) (Err a) (Err b) (inl l) (inl m) =
    inl (omega (arith, l.0, m.0), (l.1.0, (l.1.1.0, inl l.1.1.1)), λ t s x. elim x [ inl y ↦ l.2 t s y | inr y ↦ m.2 t s y ])
right-better L M (c ∷ text) (Err a) (Err b) (inl l) (inr m) =
    let e : min a b ≡ b = min-right a b (omega (arith, l.0, m.0)) in
    inr (
      omega (arith, e, m.0),
      subst (λ n. IsRight (behind_byte c (either_of L M)) text (Err n)) (sym e)
          (beside_empty (behind_byte c L) (behind_byte c M) text (Err b) l.2 m.1),
    )
right-better L M (c ∷ text) (Err a) (Err b) (inr l) (inl m) =
    let e : min a b ≡ a = min-left a b (omega (arith, l.0, m.0)) in
    inr (
      omega (arith, e, l.0),
      subst (λ n. IsRight (behind_byte c (either_of L M)) text (Err n)) (sym e)
          (empty_beside (behind_byte c L) (behind_byte c M) text (Err a) m.2 l.1),
    )
right-better L M (c ∷ text) (Err a) (Err b) (inr l) (inr m) =
    inr (omega (arith, l.0, m.0), right-better (behind_byte c L) (behind_byte c M) text (Err a) (Err b) l.1 m.1)

-- ---- words

nothing : (c : ℕ) (rest : List ℕ) → [] ≡ c ∷ rest → ⊥
nothing c rest e = absurd cc

-- behind the first byte of a word
cut_word : (c : ℕ) (word : List ℕ) (L : Language) (t : List ℕ) (s : RowShape) → word_then word L t s → word_then (c ∷ word) L (c ∷ t) s
cut_word c word L t s h = (h.0, ap (λ x. c ∷ x) h.1, h.2)

tail_of : (c d : ℕ) (xs ys : List ℕ) → (c ∷ xs) ≡ (d ∷ ys) → xs ≡ ys
tail_of c d xs ys e = cc

head_of : (c d : ℕ) (xs ys : List ℕ) → (c ∷ xs) ≡ (d ∷ ys) → c ≡ d
head_of c d xs ys e = cc

-- an answer that is right behind a byte is right with the byte
pub right-byte : (M : Language) (d : ℕ) (text : List ℕ) (r : Answer) → IsRight (behind_byte d M) text r → IsRight M (d ∷ text) r
right-byte M d text (Ok s) h = h
right-byte M d text (Err left) h = inr (right-left (behind_byte d M) text left h, h)

-- where no text goes on with the byte, all is left
pub right-stop : (M : Language) (d : ℕ) (text : List ℕ) → IsInhabited M → IsEmpty (behind_byte d M) → IsRight M (d ∷ text) (Err (1 + length text))
right-stop M d text some none = inl (omega arith, some, none)

right-branch : (M : Language) (text : List ℕ) (next : List ℕ → Answer) (b : Bool) (x y : Result (List ℕ) ℕ)
    → (b ≡ true → IsRight M text (then_read x next)) → (b ≡ false → IsRight M text (then_read y next)) → IsRight M text (then_read (if b then x else y) next)
right-branch M text next true x y h k = h refl
right-branch M text next false x y h k = k refl

-- the same of a choice between two answers
pub right-if : (M : Language) (text : List ℕ) (b : Bool) (x y : Answer)
    → (b ≡ true → IsRight M text x) → (b ≡ false → IsRight M text y) → IsRight M text (if b then x else y)
right-if M text true x y h k = h refl
right-if M text false x y h k = k refl

equal-from : (c d : ℕ) → (c == d) ≡ true → c ≡ d
equal-from c d h = eqb-true c d h

unequal-from : (c d : ℕ) → (c == d) ≡ false → c ≡ d → ⊥
unequal-from c d h e = true_is_not_false (sym (same-number d) ∙ ap (λ x. x == d) (sym e) ∙ h)
  where
    true_is_not_false : true ≡ false → ⊥
    true_is_not_false x = absurd cc

    same-number : (n : ℕ) → (n == n) ≡ true
    same-number n = eq-eqb n n refl

word-inhabited : (word : List ℕ) (L : Language) → IsInhabited L → IsInhabited (word_then word L)
word-inhabited word L some = (word ++ some.0, (some.1.0, (some.0, refl, some.1.1)))

no-text-behind : (c d : ℕ) (word : List ℕ) (L : Language) → (c == d) ≡ false → IsEmpty (behind_byte d (word_then (c ∷ word) L))
no-text-behind c d word L differs t s m = unequal-from c d differs (sym (head_of d c t (word ++ m.0) m.1))

right-word_on : (c d : ℕ) (word : List ℕ) (L : Language) (text : List ℕ) (r : Answer) → (c == d) ≡ true → IsRight (word_then word L) text r → IsRight (word_then (c ∷ word) L) (d ∷ text) r
right-word_on c d word L text r e h =
    right-byte (word_then (c ∷ word) L) d text r (right-same (word_then word L) (behind_byte d (word_then (c ∷ word) L)) text r
    (λ t s m. subst (λ x. word_then (c ∷ word) L (x ∷ t) s) (equal-from c d e) (cut_word c word L t s m))
    (λ t s m. (m.0, tail_of d c t (word ++ m.0) m.1, m.2)) h)

right-word_some : (word : List ℕ) (L : Language) (next : List ℕ → Answer) (text : List ℕ) → IsInhabited L → ((t : List ℕ) → IsRight L t (next t)) → IsRight (word_then word L) text (then_read (after_word word text) next)
unfolding after_word
right-word_some [] L next text some right =
    right-same L (word_then [] L) text (next text) (λ t s m. (t, refl, m)) (λ t s m. subst (λ x. L x s) (sym m.1) m.2) (right text)
right-word_some (c ∷ word) L next [] some right =
    (refl, word-inhabited (c ∷ word) L some, λ s m. nothing c (word ++ m.0) m.1)
right-word_some (c ∷ word) L next (d ∷ text) some right =
    right-branch (word_then (c ∷ word) L) (d ∷ text) next (c == d) (after_word word text) (Err (1 + length text))
    (λ e. right-word_on c d word L text (then_read (after_word word text) next) e (right-word_some word L next text some right))
    (λ e. right-stop (word_then (c ∷ word) L) d text (word-inhabited (c ∷ word) L some) (no-text-behind c d word L e))

-- what the reader of the rest answers behind a word is right
pub right-word : (word : List ℕ) (L : Language) (next : List ℕ → Answer) (text : List ℕ) → ((t : List ℕ) → IsRight L t (next t)) → IsRight (word_then word L) text (then_read (after_word word text) next)
right-word word L next text right = right-word_some word L next text (right-inhabited L [] (next []) (right [])) right

-- ---- a choice among words

-- one of several values, and a text of its language
abbrev pub one_of : {V : Type 0} → List V → (V → Language) → Language
one_of [] L text s = ⊥
one_of (v ∷ vs) L text s = L v text s ⊎ one_of vs L text s

-- the best of the answers from a first one on
pub right-from : {V : Type 0} → (vs : List V) (L : V → Language) (M : Language) (text : List ℕ) (r : Answer) (f : V → Answer)
    → ((v : V) → IsRight (L v) text (f v)) → IsRight M text r → IsRight (either_of M (one_of vs L)) text (fold better r (map f vs))
right-from [] L M text r f each h = empty_beside M (one_of [] L) text r (λ t s m. m) h
right-from (v ∷ vs) L M text r f each h =
    right-same (either_of (either_of M (L v)) (one_of vs L)) (either_of M (one_of (v ∷ vs) L)) text (fold better (better r (f v)) (map f vs))
    (λ t s m. elim m [ inl x ↦ elim x [ inl y ↦ inl y | inr y ↦ inr (inl y) ] | inr y ↦ inr (inr y) ])
    (λ t s m. elim m [ inl x ↦ inl (inl x) | inr y ↦ elim y [ inl z ↦ inl (inr z) | inr z ↦ inr z ] ])
    (right-from vs L (either_of M (L v)) text (better r (f v)) f each (right-better M (L v) text r (f v) h (each v)))

better-start : (text : List ℕ) (r : Answer) (L : Language) → IsRight L text r → better (Err (length text)) r ≡ r
better-start text (Ok s) L h = refl
better-start text (Err left) L h = ap (λ n. Err n) (min-right (length text) left (right-left L text left h))

-- the best of the answers for each of several values is right
pub right-best : {V : Type 0} → (v : V) (vs : List V) (L : V → Language) (text : List ℕ) (f : V → Answer)
    → ((x : V) → IsRight (L x) text (f x)) → IsRight (one_of (v ∷ vs) L) text (best text (map f (v ∷ vs)))
right-best v vs L text f each =
    subst (λ r. IsRight (one_of (v ∷ vs) L) text (fold better r (map f vs))) (sym (better-start text (f v) (L v) (each v)))
    (right-from vs L (L v) text (f v) f each (each v))

-- where nothing stands beside a language, all that is left is no better than its answer
pub right-or_nothing : (L M : Language) (text : List ℕ) (r : Answer) → IsEmpty M → IsRight L text r → IsRight (either_of L M) text (better r (Err (length text)))
right-or_nothing L M text (Ok s) none h = inl h
right-or_nothing L M text (Err left) none h =
    subst (λ n. IsRight (either_of L M) text (Err n)) (sym (min-left left (length text) (right-left L text left h))) (empty_beside L M text (Err left) none h)

-- the list has an element
abbrev pub has_some : {V : Type 0} → List V → Bool
has_some [] = false
has_some (v ∷ vs) = true

-- the same of a list that has an element
pub right-choice : {V : Type 0} → (vs : List V) → has_some vs ≡ true → (L : V → Language) (text : List ℕ) (f : V → Answer)
    → ((x : V) → IsRight (L x) text (f x)) → IsRight (one_of vs L) text (best text (map f vs))
right-choice [] e L text f each = absurd cc
right-choice (v ∷ vs) e L text f each = right-best v vs L text f each

-- the word of a value, and what follows it
abbrev pub read_word : {V : Type 0} → (V → List ℕ) → (V → List ℕ → Answer) → List ℕ → V → Answer
read_word word next text v = then_read (after_word (word v) text) (next v)

-- what the reader answers behind the word of one of several values is right
pub right-one_of : {V : Type 0} → (vs : List V) → has_some vs ≡ true → (word : V → List ℕ) (L : V → Language) (next : V → List ℕ → Answer) (text : List ℕ)
    → ((v : V) (t : List ℕ) → IsRight (L v) t (next v t)) → IsRight (one_of vs (λ v. word_then (word v) (L v))) text (best text (map (read_word word next text) vs))
right-one_of vs e word L next text right =
    right-choice vs e (λ v. word_then (word v) (L v)) text (read_word word next text) (λ v. right-word (word v) (L v) (next v) text (right v))

-- ---- parts of a notation

-- the texts of a part, what the reader answers for it, and that this is right
pub record Part : Type 1 where
  pub texts : Language
  pub reads : List ℕ → Answer
  pub right : (text : List ℕ) → IsRight texts text (reads text)

-- the word of one of several values, and then the part that the value has behind it
abbrev pub behind_words : {V : Type 0} → (vs : List V) → has_some vs ≡ true → (V → List ℕ) → (V → Part) → Part
behind_words vs some word part = record {
  texts = one_of vs (λ v. word_then (word v) (part v).texts);
  reads = λ text. best text (map (read_word word (λ v. (part v).reads) text) vs);
  right = λ text. right-one_of vs some word (λ v. (part v).texts) (λ v. (part v).reads) text (λ v. (part v).right);
}
