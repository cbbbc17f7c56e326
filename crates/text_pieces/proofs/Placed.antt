-- Where pieces stand: they cover their characters without a gap, and each stands for its own.
use Rattle.std.proofs.Common.{◌≡◌, ◌≢◌, ◌⊎◌, inl, inr, ℕ, zero, suc, ◌+◌, ◌-◌, ◌<◌, ◌≤◌, Bool, true, false, List, [], ◌∷◌, ◌++◌, length, map, take, refl, ap, sym, ◌∙◌, subst, append_assoc, length-append, arith}
use Rattle.std.specs.Prelude.{not, ◌==◌, if◌then◌else◌, Option, slice_range}
use Rattle.std.specs.List.{filter}
use Rattle.std.proofs.Math.Seq.{drop-append_seam, take-append_seam}
use Rattle.std.proofs.lemmas.Bool.{eqb-true}
use Rattle.std.proofs.lemmas.Bool.Decides.{eqb_tells}
use Rattle.std.proofs.Math.Dec.{eqb}
use Rattle.std.proofs.lemmas.List.{append-nil, nil_from_length}
use Rattle.text_pieces.specs.declared.piece.Kind.{Kind}
use Rattle.text_pieces.specs.declared.piece.Piece.{Piece}
use Rattle.text_pieces.specs.Tokens.{Token, joined, has_characters, placed, IsCover, characters_at}
use Rattle.text_pieces.specs.Lines.{Laid, closed, put, grown}

-- the pieces that have characters
abbrev pub full : List Token → List Token
full ts = filter has_characters ts

not-false : (b : Bool) → not b ≡ false → b ≡ true
not-false true h = refl
not-false false h = cc

-- ---- pieces without characters change nothing

no_characters : (t : Token) → has_characters t ≡ false → t.characters ≡ []
no_characters t h = nil_from_length t.characters (eqb-true (length t.characters) 0 (not-false _ h))

one_more-joined : (b : Bool) (t : Token) (xs : List Token) (text : List ℕ) → has_characters t ≡ b → joined xs ≡ text
    → joined (if b then t ∷ xs else xs) ≡ t.characters ++ text
one_more-joined true t xs text h e = ap (λ (z : List ℕ). t.characters ++ z) e
one_more-joined false t xs text h e = e ∙ sym (ap (λ (z : List ℕ). z ++ text) (no_characters t h))

-- what is left has the same characters
pub full-joined : (ts : List Token) → joined (full ts) ≡ joined ts
full-joined [] = refl
full-joined (t ∷ ts) = one_more-joined (has_characters t) t (full ts) (joined ts) refl (full-joined ts)

-- ---- how pieces are put down

-- the piece of so many characters at a place
abbrev piece_at : ℕ → ℕ → Option ℕ → Kind → Piece
piece_at at len operand kind = record { start = at; end = at + len; operand = operand; kind = kind }

-- a sum is its first number exactly if the second is 0
sum-equal-by : (a n : ℕ) → ((eqb n 0 ≡ true) × (n ≡ 0)) ⊎ ((eqb n 0 ≡ false) × (n ≢ 0))
    → ((eqb (a + n) a ≡ true) × (a + n ≡ a)) ⊎ ((eqb (a + n) a ≡ false) × (a + n ≢ a)) → (a + n == a) ≡ (n == 0)
sum-equal-by a n (inl (e, same)) (inl (f, also)) = f ∙ sym e
sum-equal-by a n (inl (e, same)) (inr (f, not)) = absurd (not (omega (arith, same)))
sum-equal-by a n (inr (e, not)) (inl (f, also)) = absurd (not (omega (arith, also)))
sum-equal-by a n (inr (e, not)) (inr (f, also)) = f ∙ sym e

sum-equal : (a n : ℕ) → (a + n == a) ≡ (n == 0)
sum-equal a n = sum-equal-by a n (eqb_tells n 0) (eqb_tells (a + n) a)

closed-by : (b : Bool) (at len : ℕ) (operand : Option ℕ) (kind : Kind) (items : List Piece)
    → (if b then items else items ++ piece_at at len operand kind ∷ []) ≡ items ++ (if b then [] else piece_at at len operand kind ∷ [])
closed-by true at len operand kind items = sym (append-nil items)
closed-by false at len operand kind items = refl

closed-items : (at len : ℕ) (operand : Option ℕ) (kind : Kind) (items : List Piece)
    → closed at (at + len) operand kind items ≡ items ++ (if len == 0 then [] else piece_at at len operand kind ∷ [])
unfolding closed
closed-items at len operand kind items =
    closed-by (at + len == at) at len operand kind items
    ∙ ap (λ (b : Bool). items ++ (if b then [] else piece_at at len operand kind ∷ [])) (sum-equal at len)

put-items : (l : Laid) (own : List ℕ) (operand : Option ℕ) (kind : Kind)
    → (put own operand kind l).items ≡ l.items ++ (if length own == 0 then [] else piece_at (length l.text) (length own) operand kind ∷ [])
unfolding put
put-items l own operand kind =
    ap (λ (n : ℕ). closed (length l.text) n operand kind l.items) (length-append l.text own)
    ∙ closed-items (length l.text) (length own) operand kind l.items

put-text : (l : Laid) (own : List ℕ) (operand : Option ℕ) (kind : Kind) → (put own operand kind l).text ≡ l.text ++ own
unfolding put
put-text l own operand kind = refl

one_more-placed : (b : Bool) (at : ℕ) (items : List Piece) (t : Token) (rest : List Token) → (length t.characters == 0) ≡ b
    → (items ++ (if b then [] else piece_at at (length t.characters) t.operand t.kind ∷ [])) ++ placed (at + length t.characters) rest
    ≡ items ++ placed at (if not b then t ∷ rest else rest)
one_more-placed true at items t rest h =
    let same : at + length t.characters ≡ at = omega (arith, eqb-true (length t.characters) 0 h) in
    ap (λ (xs : List Piece). xs ++ placed (at + length t.characters) rest) (append-nil items)
    ∙ ap (λ (n : ℕ). items ++ placed n rest) same
one_more-placed false at items t rest h = append_assoc items (piece_at at (length t.characters) t.operand t.kind ∷ []) (placed (at + length t.characters) rest)

-- the text has what was there, and the characters of the pieces
pub grown-text : (l : Laid) (ts : List Token) → (grown l ts).text ≡ l.text ++ joined ts
grown-text l [] = sym (append-nil l.text)
grown-text l (t ∷ ts) =
    grown-text (put t.characters t.operand t.kind l) ts
    ∙ ap (λ (xs : List ℕ). xs ++ joined ts) (put-text l t.characters t.operand t.kind)
    ∙ append_assoc l.text t.characters (joined ts)

put-size : (l : Laid) (t : Token) → length (put t.characters t.operand t.kind l).text ≡ length l.text + length t.characters
put-size l t = ap length (put-text l t.characters t.operand t.kind) ∙ length-append l.text t.characters

-- pieces are put down where they stand
pub grown-items : (l : Laid) (ts : List Token) → (grown l ts).items ≡ l.items ++ placed (length l.text) (full ts)
grown-items l [] = sym (append-nil l.items)
grown-items l (t ∷ ts) =
    grown-items (put t.characters t.operand t.kind l) ts
    ∙ ap (λ (n : ℕ). (put t.characters t.operand t.kind l).items ++ placed n (full ts)) (put-size l t)
    ∙ ap (λ (xs : List Piece). xs ++ placed (length l.text + length t.characters) (full ts)) (put-items l t.characters t.operand t.kind)
    ∙ one_more-placed (length t.characters == 0) (length l.text) l.items t (full ts) refl

-- ---- what places say

positive : (n : ℕ) → not (n == 0) ≡ true → 0 < n
positive zero h = cc
positive (suc n) h = omega arith

one_more-cover : (b : Bool) (t : Token) (xs : List Token) (at : ℕ) → has_characters t ≡ b
    → ((n : ℕ) → IsCover n (n + length (joined xs)) (placed n xs))
    → IsCover at (at + length (joined (if b then t ∷ xs else xs))) (placed at (if b then t ∷ xs else xs))
one_more-cover true t xs at h rest = (
  refl,
  omega (arith, positive (length t.characters) h),
  subst (λ (n : ℕ). IsCover (at + length t.characters) n (placed (at + length t.characters) xs))
      (omega (arith, length-append t.characters (joined xs))) (rest (at + length t.characters)),
)
one_more-cover false t xs at h rest = rest at

-- the pieces that have characters cover them without a gap
pub cover : (ts : List Token) (at : ℕ) → IsCover at (at + length (joined (full ts))) (placed at (full ts))
cover [] at = omega arith
cover (t ∷ ts) at = one_more-cover (has_characters t) t (full ts) at refl (cover ts)

-- a piece behind some characters stands for its own
own-characters : (before own rest text : List ℕ) → text ≡ before ++ (own ++ rest) → slice_range text (length before) (length before + length own) ≡ own
own-characters before own rest text e =
    let size : (length before + length own) - length before ≡ length own = omega arith in
    ap (λ (xs : List ℕ). slice_range xs (length before) (length before + length own)) e
    ∙ ap (λ (xs : List ℕ). take ((length before + length own) - length before) xs) (drop-append_seam before (own ++ rest))
    ∙ ap (λ (n : ℕ). take n (own ++ rest)) size
    ∙ take-append_seam own rest

-- each piece stands for its own characters in the text
pub stands_for : (ts : List Token) (before text : List ℕ) (at : ℕ) → at ≡ length before → text ≡ before ++ joined ts
    → map (characters_at text) (placed at ts) ≡ map (λ t. t.characters) ts
stands_for [] before text at a e = refl
stands_for (t ∷ ts) before text at a e =
    let head : slice_range text at (at + length t.characters) ≡ t.characters =
    ap (λ (n : ℕ). slice_range text n (n + length t.characters)) a ∙ own-characters before t.characters (joined ts) text e in
    let tail : map (characters_at text) (placed (at + length t.characters) ts) ≡ map (λ t. t.characters) ts =
    stands_for ts (before ++ t.characters) text (at + length t.characters) (omega (arith, length-append before t.characters)) (e ∙ sym (append_assoc before t.characters (joined ts))) in
    ap (λ (x : List ℕ). x ∷ map (characters_at text) (placed (at + length t.characters) ts)) head ∙ ap (λ (xs : List (List ℕ)). t.characters ∷ xs) tail
