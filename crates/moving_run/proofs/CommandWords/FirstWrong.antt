-- Parsers that take one word after another, and name the first wrong one.
use Rattle.std.proofs.Common.{◌≡◌, ◌⊎◌, inl, inr, ℕ, zero, suc, ◌+◌, ◌<◌, ◌≤◌, List, [], ◌∷◌, ◌++◌, length, take, drop, Option, Some, None, refl, sym, ap, ◌∙◌, subst, arith, take-take, append_assoc}
use Rattle.std.proofs.lemmas.List.{take-append-drop}
use Rattle.std.proofs.lemmas.Bool.{cases_lt}
use Rattle.moving_run.specs.declared.command_words.commands.Command.{Command}
use Rattle.moving_run.specs.declared.command_words.commands.Command.TheVariants.{Help, Version, List as ListCommand, Info, Recode, Flow, Asm, Move, Map, Blocks, Slots, Rows, Sample, Wrong}

-- words
abbrev pub Words : Type 0
Words = List (List ℕ)

-- a parser gives a command
abbrev pub Allowed : (Words → Command) → Words → Type 0
Allowed f ws = (k : ℕ) → f ws ≡ Wrong k → ⊥

-- with some words behind them
abbrev pub Begins : (Words → Command) → Words → Type 0
Begins f ws = (more : Words) × Allowed f (ws ++ more)

-- the first wrong word of those that stand behind n others
pub record First (n : ℕ) (f : Words → Command) (ws : Words) (k : ℕ) : Type 0 where
  pub before : ℕ
  pub word_is : k ≡ n + suc before
  pub begin : Begins f (take before ws)
  pub wrong : ((before < length ws) × (Begins f (take (suc before) ws) → ⊥)) ⊎ ((before ≡ length ws) × (Allowed f ws → ⊥))

-- a parser behind n words names the first wrong word, but of these words
abbrev pub Sound : ℕ → (Words → Command) → (Words → Type 0) → Type 0
Sound n f but = (ws : Words) (k : ℕ) → (but ws → ⊥) → f ws ≡ Wrong k → First n f ws k

-- it names the last of n words, whatever stands behind them
abbrev pub Refuses : ℕ → (Words → Command) → Type 0
Refuses n f = (ws : Words) → f ws ≡ Wrong n

-- a parser behind n words, of which the last is wrong or not
abbrev pub Behind : ℕ → (Words → Command) → (Words → Type 0) → Type 0
Behind n f but = Sound n f but ⊎ Refuses n f

-- of no words
abbrev pub never : Words → Type 0
never ws = ⊥

same_number : (c : Command) (k l : ℕ) → c ≡ Wrong k → c ≡ Wrong l → k ≡ l
same_number c k l e f = cc

-- ---- one more word

module _ (n : ℕ) (f : Words → Command) (h : List ℕ → Words → Command) (cons : (w : List ℕ) (ws : Words) → f (w ∷ ws) ≡ h w ws) where
  begins-behind : (w : List ℕ) (ws : Words) → Begins (h w) ws → Begins f (w ∷ ws)
  begins-behind w ws b = (b.0, λ k e. b.1 k (sym (cons w (ws ++ b.0)) ∙ e))

  begins-tail : (w : List ℕ) (ws : Words) → Begins f (w ∷ ws) → Begins (h w) ws
  begins-tail w ws b = (b.0, λ k e. b.1 k (cons w (ws ++ b.0) ∙ e))

  -- a word with which there is a command
  pub open-by : (w : List ℕ) → Begins (h w) [] → Begins f []
  open-by w b = (w ∷ b.0, λ k e. b.1 k (sym (cons w b.0) ∙ e))

  -- **the first wrong word, where each word that may come is followed by such a parser**
  pub next : (but : Words → Type 0) → Begins f [] → ((k : ℕ) → f [] ≡ Wrong k → k ≡ n + 1) →
      ((w : List ℕ) → Behind (suc n) (h w) (λ ws. but (w ∷ ws))) → Sound n f but
  next but begun none each [] k fine e = record {
    before = 0;
    word_is = omega (arith, none k e);
    begin = begun;
    wrong = inr (refl, λ a. a k e);
  }
  next but begun none each (w ∷ ws) k fine e =
      let told : h w ws ≡ Wrong k = sym (cons w ws) ∙ e in
      elim (each w) [
        | inl sound ↦ behind w ws k (sound ws k fine told)
        | inr refuses ↦ record {
          before = 0;
          word_is = omega (arith, same_number (h w ws) k (suc n) told (refuses ws));
          begin = begun;
          wrong = inl (omega arith, λ b. b.1 (suc n) (cons w b.0 ∙ refuses b.0));
        }
      ]
    where
      behind : (w : List ℕ) (ws : Words) (k : ℕ) → First (suc n) (h w) ws k → First n f (w ∷ ws) k
      behind w ws k t = record {
        before = suc t.before;
        word_is = omega (arith, t.word_is);
        begin = begins-behind w (take t.before ws) t.begin;
        wrong =
            elim t.wrong [
              | inl x ↦ inl (omega (arith, x.0), λ b. x.1 (begins-tail w (take (suc t.before) ws) b))
              | inr x ↦ inr (omega (arith, x.0), λ a. x.1 (λ l u. a l (cons w ws ∙ u)))
            ];
      }

-- no word may come
pub last : (n : ℕ) (f : Words → Command) (but : Words → Type 0) → Allowed f [] → ((w : List ℕ) (ws : Words) → f (w ∷ ws) ≡ Wrong (suc n)) → Sound n f but
last n f but begun each =
    next n f (λ w ws. Wrong (suc n)) each but ([], begun) (λ k e. absurd (begun k e)) (λ w. inr (λ ws. refl))

-- fewer words are left out
pub sound-less : (n : ℕ) (f : Words → Command) (but other : Words → Type 0) → ((ws : Words) → but ws → other ws) → Sound n f but → Sound n f other
sound-less n f but other less sound ws k fine e = sound ws k (λ b. fine (less ws b)) e

-- what a word stands for, where it stands for something
pub by_option : {A : Type 0} (n : ℕ) (o : Option A) (g : Option A → Words → Command) (but : Words → Type 0) → Refuses n (g None) →
    ((a : A) → o ≡ Some a → Behind n (g (Some a)) but) → Behind n (g o) but
by_option n None g but none some = inr none
by_option n (Some a) g but none some = some a refl

-- ---- there is one first wrong word

begins-less : (f : Words → Command) (m n : ℕ) (ws : Words) → m ≤ n → Begins f (take n ws) → Begins f (take m ws)
begins-less f m n ws le b =
    let back : Words = drop m (take n ws) in
    let whole : take m ws ++ back ≡ take n ws = ap (λ (xs : Words). xs ++ back) (sym (take-take m n ws le)) ∙ take-append-drop m (take n ws) in
    let all : take m ws ++ (back ++ b.0) ≡ take n ws ++ b.0 = sym (append_assoc (take m ws) back b.0) ∙ ap (λ (xs : Words). xs ++ b.0) whole in
    (back ++ b.0, λ k e. b.1 k (ap f (sym all) ∙ e))

not-later : (f : Words → Command) (ws : Words) (j k : ℕ) (a : First 0 f ws j) (b : First 0 f ws k) → a.before < b.before → ⊥
not-later f ws j k a b lt =
    let within : b.before ≤ length ws = elim b.wrong [ inl x ↦ let l = x.0 in omega arith | inr x ↦ omega (arith, x.0) ] in
    elim a.wrong [
      | inl x ↦ x.1 (begins-less f (suc a.before) b.before ws (omega arith) b.begin)
      | inr x ↦ absurd (omega (arith, x.0))
    ]

-- a command line has one first wrong word
pub one_first : (f : Words → Command) (ws : Words) (j k : ℕ) → First 0 f ws j → First 0 f ws k → j ≡ k
one_first f ws j k a b =
    let not_less : a.before < b.before → ⊥ = not-later f ws j k a b in
    let not_more : b.before < a.before → ⊥ = not-later f ws k j b a in
    elim (cases_lt a.before b.before) [
      | inl l ↦ absurd (not_less l)
      | inr g ↦ elim (cases_lt b.before a.before) [
        | inl l ↦ absurd (not_more l)
        | inr h ↦ omega (arith, a.word_is, b.word_is)
      ]
    ]

-- where there is one, the line is not allowed
pub first_not_allowed : (f : Words → Command) (ws : Words) (k : ℕ) → First 0 f ws k → Allowed f ws → ⊥
first_not_allowed f ws k t a =
    elim t.wrong [
      | inl x ↦
          let back : Words = drop (suc t.before) ws in
          x.1 (back, λ l e. a l (ap f (sym (take-append-drop (suc t.before) ws)) ∙ e))
      | inr x ↦ x.1 a
    ]

-- a command is refused at a word, or it is allowed
pub refused_or_not : (c : Command) → ((k : ℕ) × (c ≡ Wrong k)) ⊎ ((k : ℕ) → c ≡ Wrong k → ⊥)
refused_or_not (Wrong word) = inl (word, refl)
refused_or_not Help = inr (λ k e. cc)
refused_or_not Version = inr (λ k e. cc)
refused_or_not (ListCommand bits base syntax) = inr (λ k e. cc)
refused_or_not (Info bits base) = inr (λ k e. cc)
refused_or_not (Recode bits base to new_base) = inr (λ k e. cc)
refused_or_not (Flow bits base) = inr (λ k e. cc)
refused_or_not (Asm bits base) = inr (λ k e. cc)
refused_or_not (Move bits old new) = inr (λ k e. cc)
refused_or_not (Map bits old new) = inr (λ k e. cc)
refused_or_not (Blocks bits blocks) = inr (λ k e. cc)
refused_or_not (Slots old range) = inr (λ k e. cc)
refused_or_not Rows = inr (λ k e. cc)
refused_or_not (Sample count) = inr (λ k e. cc)
