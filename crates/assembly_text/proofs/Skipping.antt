-- Lines without a label, which are passed over together.
use Rattle.std.proofs.Common.{◌≡◌, ℕ, zero, suc, ◌+◌, ◌-◌, ◌<◌, ◌≤◌, Bool, false, List, [], ◌∷◌, length, get_or, take, drop, refl, sym, ap, subst, ◌∙◌, arith, inl, inr, Some, None}
use Rattle.std.specs.Prelude.{cond, ◌==◌}
use Rattle.std.proofs.lemmas.Bool.{cases_eq}
use Rattle.std.proofs.lemmas.List.{get_or-drop, drop-drop, length-drop}
use Rattle.assembly_text.specs.Lines.{lines_in, shown, name_len, has_label}
use Rattle.assembly_text.specs.Labels.{number_by, number_from, labels_from, HasLabelsOf}
use Rattle.assembly_text.proofs.Cutting.{IsUnended, first_ended}
use Rattle.assembly_text.proofs.PlainLines.{colonless}

-- the first so many bytes hold no colon
abbrev pub IsColonless : List ℕ → ℕ → Type 0
IsColonless text k = (j : ℕ) → j < k → (get_or text j 0 == 58) ≡ false

-- the first line feed, where there is one
record IsFeed (text : List ℕ) (k p : ℕ) : Type 0 where
  within : p ≤ k
  there : get_or text p 0 ≡ 10
  before : IsUnended text p

unended_more : (c : ℕ) (cs : List ℕ) (p : ℕ) → (c ≡ 10 → ⊥) → IsUnended cs p → IsUnended (c ∷ cs) (suc p)
unended_more c cs p other before zero below = other
unended_more c cs p other before (suc j) below = before j (omega arith)

feed : (k : ℕ) (text : List ℕ) → k < length text → get_or text k 0 ≡ 10 → (p : ℕ) × IsFeed text k p
feed k [] lt is = absurd (omega arith)
feed zero (c ∷ cs) lt is = (0, record { within = omega arith; there = is; before = λ j below. absurd (omega arith) })
feed (suc k) (c ∷ cs) lt is =
    elim (cases_eq c 10) [
      | inl here ↦ (0, record { within = omega arith; there = here; before = λ j below. absurd (omega arith) })
      | inr other ↦
          let r = feed k cs (omega arith) is in
          (suc r.0, record { within = omega (arith, r.1.within); there = r.1.there; before = unended_more c cs r.0 other r.1.before })
    ]

-- a line without a label adds none
passed : (text line behind : List ℕ) → lines_in text ≡ line ∷ lines_in behind → has_label (shown line) ≡ false → HasLabelsOf text behind
unfolding number_from labels_from
passed text line behind lines none = record {
  names = λ name count.
      ap (λ (ls : List (List ℕ)). number_from ls name count) lines
      ∙ ap (λ (b : Bool). number_by (cond b (Some (take (name_len (shown line)) (shown line))) None) (number_from (lines_in behind) name) name count) none;
  total = λ count.
      ap (λ (ls : List (List ℕ)). labels_from ls count) lines
      ∙ ap (λ (b : Bool). labels_from (lines_in behind) (cond b (count + 1) count)) none;
}

passed_more : (a b c d : List ℕ) → HasLabelsOf a b → HasLabelsOf b c → c ≡ d → HasLabelsOf a d
passed_more a b c d first more same =
    let last : HasLabelsOf b d = subst (λ (x : List ℕ). HasLabelsOf b x) same more in
    record {
      names = λ name count. first.names name count ∙ last.names name count;
      total = λ count. first.total count ∙ last.total count;
    }

-- nor does the front of a text without a colon hold one past its end
cut_colonless : (p : ℕ) (text : List ℕ) → IsColonless text p → (k : ℕ) → (get_or (take p text) k 0 == 58) ≡ false
cut_colonless zero text none zero = refl
cut_colonless zero text none (suc k) = refl
cut_colonless (suc p) [] none zero = refl
cut_colonless (suc p) [] none (suc k) = refl
cut_colonless (suc p) (c ∷ cs) none zero = none 0 (omega arith)
cut_colonless (suc p) (c ∷ cs) none (suc k) = cut_colonless p cs (λ j lt. none (suc j) (omega arith)) k

-- two cuts are one
joined_cuts : (p k : ℕ) (text : List ℕ) → p ≤ k → drop (k - p) (drop (suc p) text) ≡ drop (suc k) text
joined_cuts p k text le =
    let sum : suc p + (k - p) ≡ suc k = omega arith in
    drop-drop (k - p) (suc p) text ∙ ap (λ (i : ℕ). drop i text) sum

-- the last byte before a place, behind a cut
last_byte : (p k : ℕ) (text : List ℕ) → p < k → get_or (drop (suc p) text) (k - p - 1) 0 ≡ get_or text k 0
last_byte p k text lt =
    let sum : suc p + (k - p - 1) ≡ k = omega arith in
    get_or-drop (suc p) text (k - p - 1) 0 ∙ ap (λ (i : ℕ). get_or text i 0) sum

-- so many bytes at the front of a text are whole lines, and hold no colon
record IsPassed (text : List ℕ) (k : ℕ) : Type 0 where
  within : k ≤ length text
  none : IsColonless text k
  fed : 0 < k → get_or text (k - 1) 0 ≡ 10

-- the first of them, and the others
first_passed : (k p : ℕ) (text : List ℕ) → suc k ≤ length text → IsColonless text (suc k) → get_or text k 0 ≡ 10 → IsFeed text k p
    → HasLabelsOf text (drop (suc p) text) × IsPassed (drop (suc p) text) (k - p)
first_passed k p text within none there at = (
  passed text (take p text) (drop (suc p) text) (first_ended text p (omega (arith, at.within)) at.before at.there)
      (colonless (take p text) (cut_colonless p text (λ j lt. none j (omega (arith, at.within))))),
  record {
    within = omega (arith, length-drop (suc p) text, at.within);
    none = λ j lt. subst (λ (x : ℕ). (x == 58) ≡ false) (sym (get_or-drop (suc p) text j 0)) (none (suc p + j) (omega (arith, at.within)));
    fed = λ some. last_byte p k text (omega arith) ∙ there;
  },
)

-- whole lines without a colon have no labels
lines_passed : (n k : ℕ) (text : List ℕ) → k ≤ n → IsPassed text k → HasLabelsOf text (drop k text)
lines_passed n zero text le h = record { names = λ name count. refl; total = λ count. refl }
lines_passed zero (suc k) text le h = absurd (omega arith)
lines_passed (suc n) (suc k) text le h =
    let last : suc k - 1 ≡ k = omega arith in
    let there : get_or text k 0 ≡ 10 = ap (λ (i : ℕ). get_or text i 0) (sym last) ∙ h.fed (omega arith) in
    let f = feed k text (omega (arith, h.within)) there in
    let one = first_passed k f.0 text h.within h.none there f.1 in
    let more = lines_passed n (k - f.0) (drop (suc f.0) text) (omega arith) one.1 in
    passed_more text (drop (suc f.0) text) (drop (k - f.0) (drop (suc f.0) text)) (drop (suc k) text) one.0 more (joined_cuts f.0 k text f.1.within)

-- which is said of a cut
pub skipped : (k : ℕ) (text : List ℕ) → k ≤ length text → IsColonless text k → (0 < k → get_or text (k - 1) 0 ≡ 10) → HasLabelsOf text (drop k text)
skipped k text within none fed = lines_passed k k text (omega arith) (record { within = within; none = none; fed = fed })
