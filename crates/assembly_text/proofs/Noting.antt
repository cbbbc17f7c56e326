-- The lines that added the items of a routine.
use Rattle.std.proofs.Common.{◌≡◌, ℕ, None, Some, Option, Bool, true, false, ◌+◌, ◌<◌, ◌≤◌, inl, inr, List, [], ◌∷◌, ◌++◌, length, refl, sym, ap, ◌∙◌, subst, arith, append_assoc}
use Rattle.std.specs.Prelude.{nat_lt, if◌then◌else◌, ◌⊎◌}
use Rattle.std.proofs.lemmas.Bool.{cases_lt}
use Rattle.std.proofs.lemmas.Bool.Decides.{nat_tests}
use Rattle.x86_values.specs.declared.Bits.{Bits}
use Rattle.code_assembler.specs.Routine.{RoutineState}
use Rattle.code_assembler.specs.declared.error.FinishError.{FinishError}
use Rattle.assembly_text.specs.declared.origins.Origin.{Origin}
use Rattle.assembly_text.specs.declared.round.Trace.{Trace}
use Rattle.assembly_text.specs.Lines.{body_column}
use Rattle.assembly_text.specs.Placing.{View, no_trace}
use Rattle.assembly_text.specs.Text.{AddsLine, AddLines, first_state}
use Rattle.assembly_text.specs.Origins.{IsItemLine, IsOrigin, IsBuilt, IsPlaceOf, origin_of, place_by, place_of, place_by_cause, item_of}

-- one line behind others
pub lines_more : (v : View) (before : List (List ℕ)) (line : List ℕ) (s u t : RoutineState) (f g h : Trace) → AddLines v before s f u g
    → AddsLine v line u g t h → AddLines v (before ++ line ∷ []) s f t h
lines_more v [] line s u t f g h made step =
    (t, (h, (subst (λ (x : RoutineState). AddsLine v line x f t h) (sym made.0) (subst (λ (x : Trace). AddsLine v line u x t h) (sym made.1) step), (refl, refl))))
lines_more v (l ∷ before) line s u t f g h made step = (made.0, (made.1.0, (made.1.1.0, lines_more v before line made.0 u t made.1.0 g h made.1.1.1 step)))

-- ---- lines that are found

-- the first of two, if there is one
abbrev pub first_origin : Option Origin → Option Origin → Option Origin
first_origin None y = y
first_origin (Some o) y = Some o

-- a test in front of it
first_if : (b : Bool) (p : Origin) (x y : Option Origin) → (if b then Some p else first_origin x y) ≡ first_origin (if b then Some p else x) y
first_if true p x y = refl
first_if false p x y = refl

-- what is found among more lines
pub origin_append : (os more : List Origin) (at : ℕ) → origin_of (os ++ more) at ≡ first_origin (origin_of os at) (origin_of more at)
origin_append [] more at = refl
origin_append (p ∷ os) more at =
    ap (λ (x : Option Origin). if nat_lt at p.end then Some p else x) (origin_append os more at)
    ∙ first_if (nat_lt at p.end) p (origin_of os at) (origin_of more at)

-- one line that is met
origin_here : (o : Origin) (at : ℕ) → at < o.end → origin_of (o ∷ []) at ≡ Some o
origin_here o at lt = let yes : nat_lt at o.end ≡ true = grind (arith, nat_tests, lt) in rw yes refl

-- and one that is not
origin_past : (o : Origin) (at : ℕ) → o.end ≤ at → origin_of (o ∷ []) at ≡ None
origin_past o at le = let no : nat_lt at o.end ≡ false = grind (arith, nat_tests, le) in rw no refl

-- the lines of the items of a routine are noted
pub record AreNoted (v : View) (first : RoutineState) (lines : List (List ℕ)) (s : RoutineState) (f : Trace) (origins : List Origin) (end : ℕ) : Type 0 where
  pub few : length s.items ≤ end
  pub found : (at : ℕ) → at < end → IsOrigin v first lines s f at (origin_of origins at)
  pub none : (at : ℕ) → end ≤ at → origin_of origins at ≡ None

-- the line of an item, with one line more behind it
origin_more : (v : View) (first : RoutineState) (lines : List (List ℕ)) (line : List ℕ) (s t : RoutineState) (f g : Trace) (at : ℕ) (o : Option Origin)
    → AddsLine v line s f t g → IsOrigin v first lines s f at o → IsOrigin v first (lines ++ line ∷ []) t g at o
origin_more v first lines line s t f g at None step h = absurd h
origin_more v first lines line s t f g at (Some o) step h = record {
  before = h.before;
  line = h.line;
  behind = h.behind ++ line ∷ [];
  are = ap (λ (l : List (List ℕ)). l ++ line ∷ []) h.are ∙ append_assoc h.before (h.line ∷ h.behind) (line ∷ []);
  state = h.state;
  trace = h.trace;
  built = h.built;
  after = h.after;
  more = h.more;
  step = h.step;
  rest = lines_more v h.behind line h.after s t h.more f g h.rest step;
  from = h.from;
  past = h.past;
  number_is = h.number_is;
  column_is = h.column_is;
}

-- what is found is the first of two
origin_first : (v : View) (first : RoutineState) (lines : List (List ℕ)) (s : RoutineState) (f : Trace) (at : ℕ) (x y : Option Origin)
    → IsOrigin v first lines s f at x → IsOrigin v first lines s f at (first_origin x y)
origin_first v first lines s f at None y h = absurd h
origin_first v first lines s f at (Some o) y h = h

module _ (v : View) (first : RoutineState) (lines : List (List ℕ)) (line : List ℕ) (s t : RoutineState) (f g : Trace) (origins : List Origin) (end : ℕ) (o : Origin)
    (built : AddLines v lines first no_trace s f) (step : AddsLine v line s f t g) (h : AreNoted v first lines s f origins end)
    (end_is : o.end ≡ length t.items) (number_is : o.number ≡ length lines + 1) (column_is : o.column ≡ body_column line) where
  -- an item of the line itself
  own_item : (at : ℕ) → at < o.end → end ≤ at → IsItemLine v first (lines ++ line ∷ []) t g at o.number o.column
  own_item at lt past = record {
    before = lines;
    line = line;
    behind = [];
    are = refl;
    state = s;
    trace = f;
    built = built;
    after = t;
    more = g;
    step = step;
    rest = (refl, refl);
    from = omega (arith, h.few);
    past = omega (arith, end_is);
    number_is = number_is;
    column_is = column_is;
  }

  -- an item of a line before, or of the line itself
  found_more : (at : ℕ) → at < o.end → ((at < end) ⊎ (end ≤ at)) → IsOrigin v first (lines ++ line ∷ []) t g at (origin_of (origins ++ o ∷ []) at)
  found_more at lt (inl less) =
      let old = origin_more v first lines line s t f g at (origin_of origins at) step (h.found at less) in
      rw (origin_append origins (o ∷ []) at) (origin_first v first (lines ++ line ∷ []) t g at (origin_of origins at) (origin_of (o ∷ []) at) old)
  found_more at lt (inr past) =
      let same : origin_of (origins ++ o ∷ []) at ≡ Some o =
      origin_append origins (o ∷ []) at ∙ (ap (λ (x : Option Origin). first_origin x (origin_of (o ∷ []) at)) (h.none at past) ∙ origin_here o at lt) in
      rw same (own_item at lt past)

  -- one line more is noted, if it added items
  noted_by : (b : Bool) → nat_lt end o.end ≡ b
      → AreNoted v first (lines ++ line ∷ []) t g (if b then origins ++ o ∷ [] else origins) (if b then o.end else end)
  noted_by true more =
      let lt : end < o.end = grind (arith, nat_tests, more) in record {
        few = omega (arith, end_is);
        found = λ at within. found_more at within (cases_lt at end);
        none = λ at past. let le : end ≤ at = omega (arith, lt, past) in
            origin_append origins (o ∷ []) at ∙ (ap (λ (x : Option Origin). first_origin x (origin_of (o ∷ []) at)) (h.none at le) ∙ origin_past o at past);
      }
  noted_by false more =
      let le : o.end ≤ end = grind (arith, nat_tests, more) in record {
        few = omega (arith, end_is, le);
        found = λ at within. origin_more v first lines line s t f g at (origin_of origins at) step (h.found at within);
        none = h.none;
      }

  -- the same, by what is noted
  pub noted_more : (next : List Origin) (last : ℕ) → next ≡ (if nat_lt end o.end then origins ++ o ∷ [] else origins)
      → last ≡ (if nat_lt end o.end then o.end else end) → AreNoted v first (lines ++ line ∷ []) t g next last
  noted_more next last next_is last_is =
      subst (λ (n : ℕ). AreNoted v first (lines ++ line ∷ []) t g next n) (sym last_is)
      (subst (λ (os : List Origin). AreNoted v first (lines ++ line ∷ []) t g os (if nat_lt end o.end then o.end else end)) (sym next_is)
      (noted_by (nat_lt end o.end) refl))

-- ---- places

-- the place of an item that is there
place_found : (v : View) (first : RoutineState) (lines : List (List ℕ)) (s : RoutineState) (f : Trace) (at : ℕ) (o : Option Origin)
    → IsOrigin v first lines s f at o → IsItemLine v first lines s f at (place_by o).0 (place_by o).1
place_found v first lines s f at None h = absurd h
place_found v first lines s f at (Some o) h = h

-- the place of an item, or none
place_either : (bits : Bits) (v : View) (s : RoutineState) (f : Trace) (origins : List Origin) → IsBuilt bits v s f origins → (at : ℕ)
    → ((at < length s.items) ⊎ (length s.items ≤ at))
    → IsPlaceOf bits v s f at (place_of origins (length s.items) at).0 (place_of origins (length s.items) at).1
unfolding place_of
place_either bits v s f origins h at (inl less) =
    let yes : nat_lt at (length s.items) ≡ true = grind (arith, nat_tests, less) in
    rw yes (inl (less, place_found v (first_state bits v) v.all s f at (origin_of origins at) (h.1 at less)))
place_either bits v s f origins h at (inr past) =
    let no : nat_lt at (length s.items) ≡ false = grind (arith, nat_tests, past) in
    rw no (inr (past, (refl, refl)))

-- the place of what a cause is about
pub place_is : (bits : Bits) (v : View) (s : RoutineState) (f : Trace) (origins : List Origin) → IsBuilt bits v s f origins → (why : FinishError)
    → IsPlaceOf bits v s f (item_of why (length s.items)) (place_by_cause origins (length s.items) why).0 (place_by_cause origins (length s.items) why).1
place_is bits v s f origins h why = place_either bits v s f origins h (item_of why (length s.items)) (cases_lt (item_of why (length s.items)) (length s.items))
