-- What is told of a line.
use Rattle.std.proofs.Common.{◌≡◌, ℕ, ◌<◌, ◌≤◌, true, false, List, [], ◌∷◌, length, Option, Some, None, refl, sym, ap, subst, inl, inr, ◌∙◌, arith}
use Rattle.std.specs.Prelude.{Result, Ok, Err, IfOk, MatchOption, is_some, Bool, not, ◌&&◌, bytes_eq}
use Rattle.std.specs.declared.alloc.AllocError.{AllocError}
use Rattle.assembly_text.specs.declared.text_error.LineError.{LineError}
use Rattle.code_assembler.specs.Routine.{RoutineState}
use Rattle.assembly_text.specs.declared.code.Code.{Code}
use Rattle.assembly_text.specs.declared.code.Code.TheVariants.{Plain, Named, Unsized, Nothing}
use Rattle.assembly_text.specs.declared.round.Trace.{Trace}
use Rattle.assembly_text.specs.Lines.{lines_in, shown, label_of, body_of}
use Rattle.assembly_text.specs.Names.{first_word, behind_word}
use Rattle.assembly_text.specs.Data.{data_width}
use Rattle.assembly_text.specs.Labels.{number_from, labels_from}
use Rattle.assembly_text.specs.Padding.{is_align}
use Rattle.assembly_text.specs.Placing.{View, is_whole, is_nothing, placed_text}
use Rattle.assembly_text.specs.Text.{IsCode, AddsCode, RefusesCode, is_open, AddsPlaced, RefusesPlaced, AddsStated, RefusesClosed, RefusesStated, width_of, AddsData, RefusesData, behind_data, AddsFurther, RefusesFurther, AddsWords, RefusesWords, AddsLabel, AddsBody, RefusesBody, AddsLine, RefusesLine}

-- what is told of a line, by other words
pub told_more : (r : Result (Option LineError) AllocError) (P Q : Type 0) (S T : LineError → Type 0) → (P → Q) → ((w : LineError) → S w → T w)
    → IfOk r (λ o. MatchOption o P S) → IfOk r (λ o. MatchOption o Q T)
told_more (Ok None) P Q S T f g h = f h
told_more (Ok (Some w)) P Q S T f g h = g w h
told_more (Err e) P Q S T f g h = h

-- what is not there
pub is_none : (o : Option ℕ) → is_some o ≡ false → o ≡ None
is_none None h = refl
is_none (Some n) h = absurd cc

-- no line has a name where there is no line
pub number_end : (rest name : List ℕ) (count : ℕ) → length rest ≤ 0 → number_from (lines_in rest) name count ≡ None
unfolding lines_in number_from
number_end [] name count none = refl
number_end (c ∷ rest) name count none = absurd (omega arith)

-- nor a label
pub labels_end : (rest : List ℕ) (count : ℕ) → length rest ≤ 0 → labels_from (lines_in rest) count ≡ count
unfolding lines_in labels_from
labels_end [] count none = refl
labels_end (c ∷ rest) count none = absurd (omega arith)

-- ---- instructions

-- what is whole is not read again
pub whole_closed : (v : View) (text : List ℕ) (code : Code) → is_whole code ≡ true → is_open v text code ≡ false
unfolding is_open
whole_closed v text code h = rw h refl

-- either way
no_more : (w b : Bool) → b ≡ true → (not w && not b) ≡ false
no_more true b h = refl
no_more false b h = rw h refl

-- nor is what has no names of labels
pub same_closed : (v : View) (text : List ℕ) (code : Code) → bytes_eq (placed_text v text) text ≡ true → is_open v text code ≡ false
unfolding is_open
same_closed v text code h = no_more (is_whole code) (bytes_eq (placed_text v text) text) h

-- all else is
pub other_open : (v : View) (text : List ℕ) (code : Code) → is_whole code ≡ false → bytes_eq (placed_text v text) text ≡ false → is_open v text code ≡ true
unfolding is_open
other_open v text code h other = rw (h, other) refl

-- what is whole is something
whole_some : (code : Code) → is_whole code ≡ true → is_nothing code ≡ false
unfolding is_whole is_nothing
whole_some (Plain i) h = refl
whole_some (Named at i) h = refl
whole_some Unsized h = absurd cc
whole_some Nothing h = absurd cc

module _ (v : View) (text : List ℕ) (code : Code) (s t : RoutineState) (f g : Trace) (r : Result (Option LineError) AllocError) (is : IsCode s.bits v.base text code) where
  -- what is not read again
  pub closed_told : is_open v text code ≡ false → g ≡ record f { after_data = false }
      → IfOk r (λ o. MatchOption o (AddsCode v.all text code s t) (λ why. RefusesClosed v text code s why))
      → IfOk r (λ o. MatchOption o (AddsStated v text s f t g) (λ why. RefusesStated v text s why))
  closed_told closed_is same h = told_more r _ _ _ _ (λ a. (code, (is, inl (closed_is, (a, same))))) (λ w a. (code, (is, inl (closed_is, a)))) h

  -- nor is what is whole
  pub whole_told : is_whole code ≡ true → g ≡ record f { after_data = false }
      → IfOk r (λ o. MatchOption o (AddsCode v.all text code s t) (λ why. RefusesCode v.all text code s why))
      → IfOk r (λ o. MatchOption o (AddsStated v text s f t g) (λ why. RefusesStated v text s why))
  whole_told whole same h =
      closed_told (whole_closed v text code whole) same (told_more r _ _ _ _ (λ a. a) (λ w a. inr (whole_some code whole, a)) h)

  -- what is
  pub placed_told : is_open v text code ≡ true → g ≡ record { after_data = false; placed = true }
      → IfOk r (λ o. MatchOption o (AddsPlaced v text s t) (λ why. RefusesPlaced v text s why))
      → IfOk r (λ o. MatchOption o (AddsStated v text s f t g) (λ why. RefusesStated v text s why))
  placed_told open_is same h = told_more r _ _ _ _ (λ a. (code, (is, inr (open_is, (a, same))))) (λ w a. (code, (is, inr (open_is, a)))) h

-- ---- the words of a line

module _ (v : View) (body first : List ℕ) (s t : RoutineState) (f g : Trace) (r : Result (Option LineError) AllocError) where
  -- data
  pub data_told : (width : ℕ) (text : List ℕ) → first ≡ first_word body → width ≡ data_width first → text ≡ behind_word body → 0 < width
      → IfOk r (λ o. MatchOption o (AddsData v width text s t × (g ≡ behind_data v text f)) (λ why. RefusesData v width text s why))
      → IfOk r (λ o. MatchOption o (AddsWords v body s f t g) (λ why. RefusesWords v body s f why))
  data_told width text first_is width_is text_is some h =
      let same : width ≡ width_of body = width_is ∙ ap data_width first_is in
      let more : 0 < width_of body = subst (λ (n : ℕ). 0 < n) same some in
      told_more r _ _ _ _
      (λ a. inl (
        more,
        subst (λ (n : ℕ). AddsData v n (behind_word body) s t × (g ≡ behind_data v (behind_word body) f)) same
            (subst (λ (x : List ℕ). AddsData v width x s t × (g ≡ behind_data v x f)) text_is a),
      ))
      (λ w a. inl (more, subst (λ (n : ℕ). RefusesData v n (behind_word body) s w) same (subst (λ (x : List ℕ). RefusesData v width x s w) text_is a))) h

  -- what was read before, which is neither data nor an alignment
  pub read_told : width_of body ≡ 0 → is_align (first_word body) ≡ false
      → IfOk r (λ o. MatchOption o (AddsStated v body s f t g) (λ why. RefusesStated v body s why))
      → IfOk r (λ o. MatchOption o (AddsWords v body s f t g) (λ why. RefusesWords v body s f why))
  read_told none other h = told_more r _ _ _ _ (λ a. inr (none, inr (other, a))) (λ w a. inr (none, inr (other, a))) h

  -- no data
  pub further_told : (width : ℕ) → first ≡ first_word body → width ≡ data_width first → width ≤ 0
      → IfOk r (λ o. MatchOption o (AddsFurther v body s f t g) (λ why. RefusesFurther v body s f why))
      → IfOk r (λ o. MatchOption o (AddsWords v body s f t g) (λ why. RefusesWords v body s f why))
  further_told width first_is width_is none h =
      let same : width ≡ width_of body = width_is ∙ ap data_width first_is in
      let zero_is : width ≡ 0 = omega arith in
      let empty : width_of body ≡ 0 = sym same ∙ zero_is in
      told_more r _ _ _ _ (λ a. inr (empty, a)) (λ w a. inr (empty, a)) h

-- ---- a line

-- what is told of the rest of a line is told of the line
pub line_told : (v : View) (line low body : List ℕ) (s u t : RoutineState) (f g : Trace) (r : Result (Option LineError) AllocError)
    → low ≡ shown line → body ≡ body_of low → AddsLabel v.all (label_of low) s u
    → IfOk r (λ o. MatchOption o (AddsBody v body u f t g) (λ why. RefusesBody v body u f why))
    → IfOk r (λ o. MatchOption o (AddsLine v line s f t g) (λ why. RefusesLine v line s f why))
line_told v line low body s u t f g r low_is body_is label h =
    let rest : body ≡ body_of (shown line) = body_is ∙ ap body_of low_is in
    let labelled : AddsLabel v.all (label_of (shown line)) s u = subst (λ (x : List ℕ). AddsLabel v.all (label_of x) s u) low_is label in
    told_more r _ _ _ _
    (λ a. (u, (labelled, subst (λ (x : List ℕ). AddsBody v x u f t g) rest a)))
    (λ w a. inr (u, (labelled, subst (λ (x : List ℕ). RefusesBody v x u f w) rest a))) h
