-- Which word a refusal of a command line names.
use Rattle.std.proofs.Common.{◌≡◌, ◌⊎◌, inl, inr, ℕ, suc, ◌+◌, ◌^◌, ◌<◌, ◌≤◌, Bool, true, false, if◌then◌else◌, List, [], ◌∷◌, ◌++◌, length, take, Option, Some, None, refl, sym, ap, ◌∙◌, subst, arith}
use Rattle.std.specs.Prelude.{◌↔◌, codes}
use Rattle.x86_values.specs.declared.Bits.{Bits}
use Rattle.x86_values.specs.Wrapping.{width}
use Rattle.std.proofs.lemmas.Bool.Decides.{Decides-eqb}
use Rattle.std.proofs.lemmas.Slice.Eq.{slice_eq-Decides}
use Rattle.moving_run.specs.declared.command_words.commands.Command.{Command}
use Rattle.moving_run.specs.declared.command_words.commands.Command.TheVariants.{Wrong}
use Rattle.moving_run.specs.declared.command_words.commands.Through.TheVariants.{Slots as ThroughSlots}
use Rattle.moving_run.specs.CommandWords.Ranges.{Range, is_range, range_of}
use Rattle.moving_run.specs.CommandWords.Words.{same_text, mode_named, number_word, address_within, range_in, slots_size, slots_region, slots_words, code_end, code_base, code_bits, code_words, command_of}
use Rattle.moving_run.specs.CommandWords.Refused.{IsFirstWrong, HasNoRoom}
use Rattle.moving_run.proofs.CommandWords.FirstWrong.{Words, Allowed, First, one_first, first_not_allowed, refused_or_not}
use Rattle.moving_run.proofs.CommandWords.CommandLines.{Full, command_sound}

of_first : (words : Words) (word : ℕ) → First 0 command_of words word → IsFirstWrong words word
of_first words word t = record { before = t.before; word_is = omega (arith, t.word_is); begin = t.begin; wrong = t.wrong }

to_first : (words : Words) (word : ℕ) → IsFirstWrong words word → First 0 command_of words word
to_first words word t = record { before = t.before; word_is = omega (arith, t.word_is); begin = t.begin; wrong = t.wrong }

of_full : (words : Words) → Full words → HasNoRoom words
of_full [] b = b
of_full (name ∷ []) b = b.1
of_full (name ∷ mode ∷ []) b = b.1.1.1
of_full (name ∷ mode ∷ old ∷ []) b = b.1.1.1.1.1
of_full (name ∷ mode ∷ old ∷ region ∷ words) b = b

-- **a refusal names the first wrong word, and where there is one, the line is refused**
pub first_wrong : (words : Words) (word : ℕ) → (HasNoRoom words → ⊥) → (command_of words ≡ Wrong word) ↔ IsFirstWrong words word
first_wrong words word fine = (
  λ e. of_first words word (command_sound words word (λ b. fine (of_full words b)) e),
  λ t.
      elim (refused_or_not (command_of words)) [
        | inl r ↦ r.1 ∙ ap (λ (n : ℕ). Wrong n) (one_first command_of words r.0 word (command_sound words r.0 (λ b. fine (of_full words b)) r.1) (to_first words word t))
        | inr a ↦ absurd (first_not_allowed command_of words word (to_first words word t) a)
      ],
)

-- ---- a REGION behind which there is no room

no_range : (bits : Bits) (base size : ℕ) → 2 ^ width bits < base + 16 → is_range bits base size ≡ false
no_range bits base size full = grind arith

no_size : (bits : Bits) (base : ℕ) (o : Option ℕ) → 2 ^ width bits < base + 16 → range_in bits base o ≡ None
unfolding range_in range_of
no_size bits base None full = refl
no_size bits base (Some size) full =
    ap (λ (b : Bool). if b then Some (let r : Range = record { bits = bits; base = base; size = size } in r) else None) (no_range bits base size full)

region_refused : (bits : Bits) (old base : ℕ) (words : Words) → 2 ^ width bits < base + 16 → slots_region bits old (Some base) words ≡ Wrong 5
unfolding slots_region slots_size
region_refused bits old base [] full = refl
region_refused bits old base (size ∷ words) full = ap (λ (o : Option Range). slots_size old o words) (no_size bits base (number_word size) full)

words_refused : (bits : Bits) (old region : List ℕ) (words : Words) (start base : ℕ) → address_within bits (number_word old) ≡ Some start →
    address_within bits (number_word region) ≡ Some base → 2 ^ width bits < base + 16 → code_bits ThroughSlots (Some bits) (old ∷ region ∷ words) ≡ Wrong 5
unfolding code_bits code_base code_end slots_words
words_refused bits old region words start base is_start is_base full =
    ap (λ (o : Option ℕ). code_base ThroughSlots bits o (region ∷ words)) is_start
    ∙ (ap (λ (o : Option ℕ). slots_region bits start o words) is_base ∙ region_refused bits start base words full)

slots_refused : (mode old region : List ℕ) (words : Words) (bits : Bits) (start base : ℕ) → mode_named mode ≡ Some bits →
    address_within bits (number_word old) ≡ Some start → address_within bits (number_word region) ≡ Some base → 2 ^ width bits < base + 16 →
    code_words ThroughSlots (mode ∷ old ∷ region ∷ words) ≡ Wrong 5
unfolding code_words
slots_refused mode old region words bits start base is_mode is_start is_base full =
    ap (λ (o : Option Bits). code_bits ThroughSlots o (old ∷ region ∷ words)) is_mode ∙ words_refused bits old region words start base is_start is_base full

-- `slots` is none of the names that are asked before it
named_slots : (name : List ℕ) (words : Words) → same_text name (codes "slots") ≡ true → command_of (name ∷ words) ≡ code_words ThroughSlots words
unfolding command_of
named_slots name words e =
    let same : name ≡ codes "slots" = (slice_eq-Decides Decides-eqb name (codes "slots") (same_text name (codes "slots")) refl).0 e in subst (λ (xs : List ℕ). command_of (xs ∷ words) ≡ code_words ThroughSlots words) (sym same) refl

-- a range without an address is refused at word 5
pub no_room : (words : Words) → HasNoRoom words → command_of words ≡ Wrong 5
no_room [] b = absurd b
no_room (name ∷ []) b = absurd b
no_room (name ∷ mode ∷ []) b = absurd b
no_room (name ∷ mode ∷ old ∷ []) b = absurd b
no_room (name ∷ mode ∷ old ∷ region ∷ words) b =
    named_slots name (mode ∷ old ∷ region ∷ words) b.0
    ∙ slots_refused mode old region words b.1.0 b.1.1.1.0 b.1.1.1.1.1.0 b.1.1.0 b.1.1.1.1.0 b.1.1.1.1.1.1.0 b.1.1.1.1.1.1.1
