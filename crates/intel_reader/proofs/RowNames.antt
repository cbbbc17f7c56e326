-- Names of rows among all codes.
use Rattle.std.proofs.Common.{◌≡◌, inl, inr, ℕ, zero, suc, ◌<◌, Bool, true, false, ◌||◌, List, refl, ap, sym, ◌∙◌, arith}
use Rattle.std.specs.Prelude.{bytes_eq}
use Rattle.std.proofs.lemmas.Bool.{cases_lt, or_cases, or_left, or_right}
use Rattle.std.proofs.lemmas.Slice.Eq.{bytes_eq-Decides}
use Rattle.opcode_rows.specs.declared.generated_spots.TheConstants.{ROWS}
use Rattle.opcode_rows.specs.Table.{name_of}
use Rattle.intel_reader.specs.Possible.{is_counter_word}
use Rattle.intel_reader.specs.Mnemonics.{is_named_below, is_mnemonic}

-- the name of a row is one of those below a higher code
pub named_below : (n code : ℕ) (name : List ℕ) → code < n → name_of code ≡ name → is_named_below n name ≡ true
unfolding is_named_below
named_below zero code name lt e = absurd (omega (arith, lt))
named_below (suc n) code name lt e = elim (cases_lt code n) [
  | inl less ↦ or_right _ _ (named_below n code name less e)
  | inr more ↦ (let same : code ≡ n = omega arith in
      or_left _ _ ((bytes_eq-Decides (name_of n) name).1 (ap name_of (sym same) ∙ e)))
]

-- a name among those below a code is that of a row
pub row_named : (n : ℕ) (name : List ℕ) → is_named_below n name ≡ true → (code : ℕ) × (code < n) × (name_of code ≡ name)
unfolding is_named_below
row_named zero name h = cc
row_named (suc n) name h = elim (or_cases (bytes_eq (name_of n) name) (is_named_below n name) h) [
  | inl here ↦ (n, omega arith, (bytes_eq-Decides (name_of n) name).0 here)
  | inr there ↦ (let k = row_named n name there in
      let lt : k.0 < n = k.1 in
      (k.0, omega arith, k.2))
]

-- such a name is a mnemonic
pub named_is_mnemonic : (name : List ℕ) → is_named_below ROWS name ≡ true → true ≡ is_mnemonic name
unfolding is_mnemonic
named_is_mnemonic name h = sym (or_left (is_named_below ROWS name) (is_counter_word name) h)

not_so : (b c : Bool) → (b ≡ true → ⊥) → c ≡ (b || c)
not_so true c never = absurd (never refl)
not_so false c never = refl

-- a name of no row is one only if it is that of the jump on the counter
pub other_mnemonic : (name : List ℕ) (x : Bool) → ((code : ℕ) → code < ROWS → name_of code ≡ name → ⊥) → x ≡ is_counter_word name → x ≡ is_mnemonic name
unfolding is_mnemonic
other_mnemonic name x none e =
    e ∙ not_so (is_named_below ROWS name) (is_counter_word name) (λ h. let row = row_named ROWS name h in none row.0 row.1 row.2)
