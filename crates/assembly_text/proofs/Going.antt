-- One line more of a text.
use Rattle.std.proofs.Common.{◌≡◌, ℕ, None, ◌+◌, ◌<◌, ◌≤◌, List, [], ◌∷◌, ◌++◌, length, refl, sym, ap, ◌∙◌, subst, arith, append_assoc, append-nil, length-append}
use Rattle.std.specs.Prelude.{nat_lt, if◌then◌else◌}
use Rattle.x86_values.specs.declared.Bits.{Bits}
use Rattle.assembly_text.specs.declared.text_error.LineError.{LineError}
use Rattle.code_assembler.specs.Routine.{RoutineState}
use Rattle.assembly_text.specs.declared.origins.Origin.{Origin}
use Rattle.assembly_text.specs.declared.round.Trace.{Trace}
use Rattle.assembly_text.specs.Lines.{lines_in, body_column}
use Rattle.assembly_text.specs.Constants.{bad_from}
use Rattle.assembly_text.specs.Placing.{View, no_trace}
use Rattle.assembly_text.specs.Text.{AddsLine, AddLines, RefusesLine, column_of, first_state, IsRefusedLine}
use Rattle.assembly_text.specs.Origins.{IsBuilt, IsOrigin, origin_of}
use Rattle.assembly_text.proofs.Noting.{AreNoted, noted_more, lines_more}

-- the first lines of a text are added, and the others are still to come
pub record IsGone (bits : Bits) (v : View) (rest : List ℕ) (number : ℕ) (state : RoutineState) (trace : Trace) (origins : List Origin) (end : ℕ)
    : Type 0 where
  pub before : List (List ℕ)
  pub are : v.all ≡ before ++ lines_in rest
  pub built : AddLines v before (first_state bits v) no_trace state trace
  pub number_is : number ≡ length before
  pub noted : AreNoted v (first_state bits v) before state trace origins end

-- none of them
pub gone_start : (bits : Bits) (v : View) (text : List ℕ) (state : RoutineState) (trace : Trace) (origins : List Origin) (end : ℕ) → v.all ≡ lines_in text
    → state ≡ first_state bits v → trace ≡ no_trace → origins ≡ [] → end ≡ 0 → IsGone bits v text 0 state trace origins end
gone_start bits v text state trace origins end are is none empty zero_is =
    let no_items : length state.items ≡ 0 = rw is refl in record {
      before = [];
      are = are;
      built = (sym is, sym none);
      number_is = refl;
      noted = record {
        few = omega (arith, no_items, zero_is);
        found = λ at lt. absurd (omega (arith, zero_is, lt));
        none = λ at past. ap (λ (os : List Origin). origin_of os at) empty;
      };
    }

module _ (bits : Bits) (v : View) (rest line behind : List ℕ) (number : ℕ) (state : RoutineState) (trace : Trace) (origins : List Origin) (end : ℕ) where
  -- one more, which is noted
  pub gone_step : (after : RoutineState) (more : Trace) (next : List Origin) (last : ℕ) (o : Origin) → IsGone bits v rest number state trace origins end
      → lines_in rest ≡ line ∷ lines_in behind → AddsLine v line state trace after more
      → o.end ≡ length after.items → o.number ≡ number + 1 → o.column ≡ body_column line
      → next ≡ (if nat_lt end o.end then origins ++ o ∷ [] else origins) → last ≡ (if nat_lt end o.end then o.end else end)
      → IsGone bits v behind (number + 1) after more next last
  gone_step after more next last o h cut step end_is number_is column_is next_is last_is = record {
    before = h.before ++ line ∷ [];
    are = h.are ∙ (ap (λ (l : List (List ℕ)). h.before ++ l) cut ∙ sym (append_assoc h.before (line ∷ []) (lines_in behind)));
    built = lines_more v h.before line (first_state bits v) state after no_trace trace more h.built step;
    number_is = omega (arith, h.number_is, length-append h.before (line ∷ []));
    noted = noted_more v (first_state bits v) h.before line state after trace more origins end o h.built step h.noted
        end_is (number_is ∙ ap (λ (n : ℕ). n + 1) h.number_is) column_is next last next_is last_is;
  }

  -- one that is refused
  pub gone_bad : (why : LineError) (column : ℕ) → bad_from v.names 0 ≡ None → column ≡ column_of line why
      → IsGone bits v rest number state trace origins end → lines_in rest ≡ line ∷ lines_in behind
      → RefusesLine v line state trace why → IsRefusedLine bits v (number + 1) column why
  gone_bad why column good column_is h cut refused = record {
    before = h.before;
    line = line;
    behind = lines_in behind;
    good = good;
    are = h.are ∙ ap (λ (l : List (List ℕ)). h.before ++ l) cut;
    state = state;
    trace = trace;
    built = h.built;
    refused = refused;
    number_is = ap (λ (n : ℕ). n + 1) h.number_is;
    column_is = column_is;
  }

-- all of them
pub gone_end : (bits : Bits) (v : View) (rest : List ℕ) (number : ℕ) (state : RoutineState) (trace : Trace) (origins : List Origin) (end : ℕ)
    → bad_from v.names 0 ≡ None → IsGone bits v rest number state trace origins end → length rest ≤ 0 → IsBuilt bits v state trace origins
unfolding lines_in
gone_end bits v [] number state trace origins end good h none =
    let all : h.before ≡ v.all = sym (append-nil h.before) ∙ sym h.are in (
      (good, subst (λ (l : List (List ℕ)). AddLines v l (first_state bits v) no_trace state trace) all h.built),
      λ at lt. let within : at < end = omega (arith, h.noted.few, lt) in
          subst (λ (l : List (List ℕ)). IsOrigin v (first_state bits v) l state trace at (origin_of origins at)) all (h.noted.found at within),
    )
gone_end bits v (c ∷ rest) number state trace origins end good h none = absurd (omega arith)
