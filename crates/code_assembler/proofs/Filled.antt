-- Data in some bytes: each byte at its offset, and all else as it was.
use Rattle.std.proofs.Common.{◌≡◌, ℕ, zero, suc, ◌+◌, ◌-◌, ◌<◌, ◌≤◌, ◌⊎◌, inl, inr, Bool, true, false, List, [], ◌∷◌, length, take, drop, set, get_or, Option, Some, None, refl, sym, subst, ap, ◌∙◌, arith}
use Rattle.std.proofs.lemmas.Bool.{cases_lt}
use Rattle.std.proofs.lemmas.List.{length-set, drop-take, drop-set-lt, take-set-le, get_or-set_same, get_or-set_other, take-take, get_or-take, length-take-le}
use Rattle.code_assembler.specs.Routine.{filled_at}
use Rattle.code_assembler.specs.Filling.{with_byte_at, offset_of, with_data, cut_end}

-- an offset outside of some bytes
abbrev pub IsOutside : ℕ → ℕ → ℕ → Type 0
IsOutside m len at = (at < m) ⊎ (m + len ≤ at)

-- ---- one byte

length-with_byte_at : (xs : List ℕ) (at : ℕ) (byte : Option ℕ) → length (with_byte_at xs at byte) ≡ length xs
length-with_byte_at xs at None = refl
length-with_byte_at xs at (Some b) = length-set xs at b

kept-one : (xs : List ℕ) (m len at : ℕ) (byte : Option ℕ) → ((b : ℕ) → byte ≡ Some b → IsOutside m len at)
    → take len (drop m (with_byte_at xs at byte)) ≡ take len (drop m xs)
kept-one xs m len at None out = refl
kept-one xs m len at (Some b) out =
    elim (out b refl) [
      | inl before ↦ ap (take len) (drop-set-lt m xs at b before)
      | inr behind ↦ sym (drop-take m len (set xs at b)) ∙ (ap (drop m) (take-set-le (m + len) xs at b behind) ∙ drop-take m len xs)
    ]

other-one : (xs : List ℕ) (at j : ℕ) (byte : Option ℕ) → ((b : ℕ) → byte ≡ Some b → j ≡ at → ⊥) → get_or (with_byte_at xs at byte) j 0 ≡ get_or xs j 0
other-one xs at j None apart = refl
other-one xs at j (Some b) apart = get_or-set_other xs at j b 0 (apart b refl)

-- ---- the data of the first items

module _ (starts : List ℕ) (base : ℕ) (filled : List (Option ℕ)) (bytes : List ℕ) where
  -- there are as many bytes
  pub length-with_data : (n : ℕ) → length (with_data starts base filled bytes n) ≡ length bytes
  length-with_data zero = refl
  length-with_data (suc n) =
      length-with_byte_at (with_data starts base filled bytes n) (offset_of starts base n) (filled_at filled n) ∙ length-with_data n

  -- **without data all are kept**
  pub without_data : (n : ℕ) → ((k : ℕ) → k < n → filled_at filled k ≡ None) → with_data starts base filled bytes n ≡ bytes
  without_data zero none = refl
  without_data (suc n) none =
      ap (with_byte_at (with_data starts base filled bytes n) (offset_of starts base n)) (none n (omega arith))
      ∙ without_data n (λ k lt. none k (omega arith))

  -- **bytes are kept that no data lies in**
  pub kept : (m len n : ℕ) → ((j b : ℕ) → j < n → filled_at filled j ≡ Some b → IsOutside m len (offset_of starts base j))
      → take len (drop m (with_data starts base filled bytes n)) ≡ take len (drop m bytes)
  kept m len zero out = refl
  kept m len (suc n) out =
      kept-one (with_data starts base filled bytes n) m len (offset_of starts base n) (filled_at filled n) (λ b is. out n b (omega arith) is)
      ∙ kept m len n (λ j b lt is. out j b (omega arith) is)

  -- **a byte of data stands at its offset**
  pub put : (k byte n : ℕ) → k < n → filled_at filled k ≡ Some byte → offset_of starts base k < length bytes
      → ((j b : ℕ) → (j ≡ k → ⊥) → j < n → filled_at filled j ≡ Some b → offset_of starts base k ≡ offset_of starts base j → ⊥)
      → get_or (with_data starts base filled bytes n) (offset_of starts base k) 0 ≡ byte
  put k byte zero lt is within apart = absurd (omega arith)
  put k byte (suc n) lt is within apart =
      let before = with_data starts base filled bytes n in
      elim (cases_lt k n) [
        | inl less ↦ other-one before (offset_of starts base n) (offset_of starts base k) (filled_at filled n)
            (λ b there same. apart n b (λ e. omega arith) (omega arith) there same)
            ∙ put k byte n less is within (λ j b differ below there same. apart j b differ (omega arith) there same)
        | inr least ↦
            let e : k ≡ n = omega arith in
            let here : get_or (with_byte_at before (offset_of starts base k) (filled_at filled k)) (offset_of starts base k) 0 ≡ byte =
            ap (λ (o : Option ℕ). get_or (with_byte_at before (offset_of starts base k) o) (offset_of starts base k) 0) is
            ∙ get_or-set_same before (offset_of starts base k) byte 0 (omega (arith, length-with_data n)) in
            subst (λ (m : ℕ). get_or (with_byte_at before (offset_of starts base m) (filled_at filled m)) (offset_of starts base k) 0 ≡ byte) e here
      ]

-- ---- without the last byte

-- bytes before the last are kept
pub cut-kept : (is_added : Bool) (slots bytes : List ℕ) (m len : ℕ) → (is_added ≡ true → slots ≡ [] → m + len ≤ length bytes - 1)
    → take len (drop m (cut_end is_added slots bytes)) ≡ take len (drop m bytes)
cut-kept true [] bytes m len within =
    sym (drop-take m len (take (length bytes - 1) bytes)) ∙ (ap (drop m) (take-take (m + len) (length bytes - 1) bytes (within refl refl)) ∙ drop-take m len bytes)
cut-kept true (slot ∷ slots) bytes m len within = refl
cut-kept false slots bytes m len within = refl

-- so is each of them
pub cut-read : (is_added : Bool) (slots bytes : List ℕ) (at : ℕ) → at < length bytes → (is_added ≡ true → slots ≡ [] → at < length bytes - 1)
    → (at < length (cut_end is_added slots bytes)) × (get_or (cut_end is_added slots bytes) at 0 ≡ get_or bytes at 0)
cut-read true [] bytes at lt within =
    let there = within refl refl in
    (omega (arith, length-take-le (length bytes - 1) bytes (omega arith)), get_or-take (length bytes - 1) bytes at 0 there)
cut-read true (slot ∷ slots) bytes at lt within = (lt, refl)
cut-read false slots bytes at lt within = (lt, refl)
