-- The bytes of a routine are read as its instructions, and its labels have the addresses to which they go.
use Rattle.std.proofs.Common.{◌≡◌, ℕ, zero, suc, ◌+◌, ◌<◌, ◌≤◌, inr, Bool, true, false, not, List, [], ◌∷◌, ◌++◌, length, map, replicate, Option, Some, None, refl, sym, subst, ap, ◌∙◌, arith}
use Rattle.std.specs.Prelude.{slice_get, if◌then◌else◌, All, Result, Ok, Err}
use Rattle.std.specs.List.{range_with_len, AllZip}
use Rattle.std.proofs.Math.Seq.{get_or-append_seam}
use Rattle.std.proofs.lemmas.Bool.{lt-ltb, ltb-true}
use Rattle.std.proofs.lemmas.List.FromFn.{length-map-range_with_len, get_or-map-range_with_len}
use Rattle.std.proofs.lemmas.Option.{slice_get-get_or}
use Rattle.std.proofs.lemmas.List.{length-append, length-replicate}
use Rattle.std.proofs.lemmas.List.Elements.{All-append, All-cons, All-nil, All-replicate}
use Rattle.x86_values.specs.declared.Bits.{Bits}
use Rattle.x86_values.specs.declared.Instr.{Instr}
use Rattle.x86_values.specs.Wrapping.{modulo_width}
use Rattle.row_relation.specs.PlainLaws.Plain.{IsPlainlySpelled}
use Rattle.opcode_rows.specs.Table.{table}
use Rattle.branch_sizes.specs.declared.plan.Branch.{Branch}
use Rattle.branch_sizes.specs.declared.plan.Goal.TheVariants.{Inside}
use Rattle.branch_sizes.specs.Layout.{place}
use Rattle.branch_sizes.specs.MoveLayout.Laid.{goal_value, goal_address}
use Rattle.move_goals.specs.MovedTargets.Targets.{target_of, plain_length}
use Rattle.move_goals.specs.declared.items.Placed.{Placed}
use Rattle.move_goals.specs.Items.{IsPlaced, ArePlaced, item_at, no_item, one_span}
use Rattle.move_goals.specs.Plan.{plan_with, kept_goal}
use Rattle.block_encoder.specs.Aims.{StandsAtPlace, GoesToGoal}
use Rattle.block_encoder.specs.Moved.{MovedLists}
use Rattle.block_encoder.specs.declared.error.PlanError.{PlanError}
use Rattle.block_encoder.specs.declared.error.PlanError.TheVariants as plan_error
use Rattle.block_encoder.specs.ByPlan.{IsMovedBy, IsPlanAnswer}
use Rattle.block_encoder.specs.Planned.{as_moving}
use Rattle.code_assembler.specs.LawsBelow.{AssemblerLawsBelow}
use Rattle.code_assembler.specs.declared.error.FinishError.{FinishError}
use Rattle.code_assembler.specs.StandIn.{stand_in, IsFilled}
use Rattle.code_assembler.specs.Routine.{RoutineState, IsRoutine, HasAdded, label_place, aim_at, filled_at, stands_before, is_aimed, first_unplaced, stand_goal, aim_goal, routine_goals, routine_plan, with_byte}
use Rattle.code_assembler.specs.Built.{with_bytes}
use Rattle.code_assembler.specs.Finished.{AssembledState, start_at, made_of, IsMade, GoesToLabel, IsLaidOut, IsLaidAnswer}
use Rattle.code_assembler.proofs.Placing.{as_many, zip_append, zip_bytes, in_first, plain_bytes, code_stands, code_read, data_stands}

-- an instruction with an encoding at an address is well placed there
pub encoded_placed : AssemblerLawsBelow → (bits : Bits) (ip len : ℕ) (i : Instr) (bytes : List ℕ) → len ≡ plain_length bits i
    → IsPlainlySpelled table bits (modulo_width bits ip) bytes i → IsPlaced bits (record { ip = ip; len = len; instr = i })
encoded_placed laws bits ip len i bytes is plain =
    let spelled = laws.encodings.plain-spells bits (modulo_width bits ip) bytes i plain in
    let size = laws.targets.spelled-length bits (modulo_width bits ip) bytes i spelled in
    record { some = omega (arith, is, size.0); few = omega (arith, is, size.1); bytes = bytes; spelled = spelled }

-- a routine with more items is one
pub more_items : (s : RoutineState) (items : List Placed) (aims filled : List (Option ℕ)) → IsRoutine s → length aims ≡ length items
    → AllZip (IsFilled s.bits) filled items → All (IsPlaced s.bits) items → length s.items + length items ≤ 65536
    → IsRoutine (record s { items = s.items ++ items; aims = s.aims ++ aims; filled = s.filled ++ filled })
more_items s items aims filled is many stand placed few = record {
  aimed = omega (arith, length-append s.aims aims, length-append s.items items, is.aimed, many);
  stand_in = zip_append s.bits s.filled filled s.items items is.stand_in stand;
  placed = All-append (IsPlaced s.bits) s.items items is.placed placed;
  few = omega (arith, length-append s.items items, few);
  few_labels = is.few_labels;
}

-- a routine with one more instruction is one
pub one_more : (s : RoutineState) (item : Placed) (aim : Option ℕ) → IsRoutine s → IsPlaced s.bits item → length s.items < 65536
    → IsRoutine (record s { items = s.items ++ item ∷ []; aims = s.aims ++ aim ∷ []; filled = s.filled ++ None ∷ [] })
one_more s item aim is placed few =
    more_items s (item ∷ []) (aim ∷ []) (None ∷ []) is refl (tt, tt) (All-cons (IsPlaced s.bits) item [] placed (All-nil (IsPlaced s.bits))) (omega (arith, few))

-- so is one with more bytes of data
pub more_bytes : (s : RoutineState) (bytes : List ℕ) → IsRoutine s → IsPlaced s.bits (stand_in s.bits) → length s.items + length bytes ≤ 65536
    → IsRoutine (with_bytes s bytes)
more_bytes s bytes is placed few =
    more_items s (replicate (length bytes) (stand_in s.bits)) (replicate (length bytes) None) (map Some bytes) is
    (omega (arith, length-replicate (length bytes) (stand_in s.bits), length-replicate {A = Option ℕ} (length bytes) None)) (zip_bytes s.bits bytes)
    (All-replicate (IsPlaced s.bits) (length bytes) (stand_in s.bits) placed)
    (omega (arith, length-replicate (length bytes) (stand_in s.bits), few))

-- ---- the end

-- what is added at the end goes to no label
pub aim-end : (aims : List (Option ℕ)) (j : ℕ) → aim_at (aims ++ None ∷ []) j ≡ aim_at aims j
aim-end [] zero = refl
aim-end [] (suc j) = refl
aim-end (a ∷ more) zero = refl
aim-end (a ∷ more) (suc j) = aim-end more j

-- so it is never the first whose label stands before none
pub unplaced-end : AssemblerLawsBelow → (labels aims : List (Option ℕ)) (count : ℕ)
    → first_unplaced labels (aims ++ None ∷ []) count ≡ first_unplaced labels aims count
unfolding first_unplaced
unplaced-end laws labels aims count =
    laws.firsts.first_below_congr (λ k. not (is_aimed labels count (aim_at (aims ++ None ∷ []) k))) (λ k. not (is_aimed labels count (aim_at aims k))) count
    (λ j lt. ap (λ (o : Option ℕ). not (is_aimed labels count o)) (aim-end aims j))

-- the first whose label stands before none is the same with a byte behind the routine
pub end_unplaced : AssemblerLawsBelow → (s : RoutineState) → let t = with_byte s 0xCC in
    first_unplaced t.labels t.aims (length t.items) ≡ first_unplaced s.labels s.aims (length s.items + 1)
end_unplaced laws s =
    unplaced-end laws s.labels s.aims (length (s.items ++ stand_in s.bits ∷ []))
    ∙ ap (first_unplaced s.labels s.aims) (length-append s.items (stand_in s.bits ∷ []))

-- a routine with a byte behind it is one
pub end_more : (s : RoutineState) → IsRoutine s → IsPlaced s.bits (stand_in s.bits) → length s.items < 65536 → IsRoutine (with_byte s 0xCC)
end_more s is placed few =
    more_items s (stand_in s.bits ∷ []) (None ∷ []) (Some 0xCC ∷ []) is refl (refl, tt)
    (All-cons (IsPlaced s.bits) (stand_in s.bits) [] placed (All-nil (IsPlaced s.bits))) (omega (arith, few))

-- all but the last item of a routine with a byte behind it were added by callers
pub end_added : (s : RoutineState) → IsRoutine s → HasAdded (with_byte s 0xCC) (length s.items)
end_added s is =
    let many = as_many s.bits s.filled s.items is.stand_in in
    let last : filled_at (s.filled ++ Some 0xCC ∷ []) (length s.filled) ≡ Some 0xCC = get_or-append_seam s.filled (Some 0xCC) [] None in
    inr (omega (arith, length-append s.items (stand_in s.bits ∷ [])), subst (λ (n : ℕ). filled_at (s.filled ++ Some 0xCC ∷ []) n ≡ Some 0xCC) many last)

-- the instructions of a routine are well placed
pub all_placed : (s : RoutineState) → IsRoutine s → ArePlaced s.bits s.items
all_placed s is k lt = is.placed k no_item lt

-- ---- labels

-- where a label stands before an instruction
record Stands (count : ℕ) (at : Option ℕ) : Type 0 where
  pub number : ℕ
  pub is : at ≡ Some number
  pub within : number < count

not_false : (b : Bool) → not b ≡ false → b ≡ true
not_false true h = refl
not_false false h = absurd cc

stands_of : (count : ℕ) (at : Option ℕ) → stands_before count at ≡ true → Stands count at
stands_of count None h = absurd cc
stands_of count (Some j) h = record { number = j; is = refl; within = ltb-true j count h }

module _ (laws : AssemblerLawsBelow) where
  -- the label of each instruction stands before one, where none is unplaced
  label_stands : (labels aims : List (Option ℕ)) (count : ℕ) → first_unplaced labels aims count ≡ None → (k label : ℕ) → k < count
      → aim_at aims k ≡ Some label → Stands count (label_place labels label)
  unfolding first_unplaced
  label_stands labels aims count none k label lt aim =
      let aimed : is_aimed labels count (aim_at aims k) ≡ true =
      not_false (is_aimed labels count (aim_at aims k)) (laws.firsts.none_below (λ j. not (is_aimed labels count (aim_at aims j))) count none k lt) in
      stands_of count (label_place labels label) (subst (λ (a : Option ℕ). is_aimed labels count a ≡ true) aim aimed)

  goal_there : (labels : List (Option ℕ)) (count : ℕ) (item : Placed) (aim : Option ℕ) (label j : ℕ) → aim ≡ Some label → label_place labels label ≡ Some j → j < count
      → aim_goal labels count item aim ≡ Inside j
  goal_there labels count item aim label j is at lt =
      ap (aim_goal labels count item) is
      ∙ (ap (λ (p : Option ℕ). stand_goal count p (kept_goal (target_of item.instr))) at
      ∙ ap (λ (b : Bool). if b then Inside j else kept_goal (target_of item.instr)) (lt-ltb j count lt))

  -- the goal of an instruction that goes to a label is the place of the instruction behind it
  goal_is : (s : RoutineState) (base : ℕ) (layout : List ℕ) (k label j : ℕ) → k < length s.items → aim_at s.aims k ≡ Some label
      → label_place s.labels label ≡ Some j → j < length s.items
      → goal_address (routine_plan s base) layout k ≡ place (routine_plan s base) layout j
  unfolding routine_plan
  goal_is s base layout k label j lt aim at within =
      let goals = routine_goals s.labels s.aims s.items in
      let p = plan_with s.bits (one_span s.items base) s.items goals in
      ap (λ (b : Branch). goal_value p layout b.goal) (laws.fragments.plan-item s.bits (one_span s.items base) s.items goals k lt)
      ∙ ap (goal_value p layout) (goal_there s.labels (length s.items) (item_at s.items k) (aim_at s.aims k) label j aim at within)

  start_is : (f : ℕ → ℕ) (n : ℕ) (starts : List ℕ) (at : Option ℕ) (j : ℕ) → starts ≡ map f (range_with_len 0 n) → at ≡ Some j → j < n → start_at starts at ≡ Some (f j)
  start_is f n starts at j are is lt =
      ap (start_at starts) is
      ∙ (ap (λ (xs : List ℕ). slice_get xs j) are
      ∙ (slice_get-get_or (map f (range_with_len 0 n)) j 0 (omega (arith, length-map-range_with_len f 0 n, lt))
      ∙ ap Some (get_or-map-range_with_len f 0 n j j 0 lt (omega arith))))

  to_label : (s : RoutineState) (base count : ℕ) → first_unplaced s.labels s.aims (length s.items) ≡ None → (m : MovedLists)
      (moved : IsMovedBy s.bits s.items (routine_plan s base) m) → (k label : ℕ) → k < length s.items → aim_at s.aims k ≡ Some label
      → GoesToLabel s base moved.layout (made_of m s.filled s.labels base count) k label
  to_label s base count none m moved k label lt aim =
      let there = label_stands s.labels s.aims (length s.items) none k label lt aim in
      record {
        stands = there.number;
        before = there.is;
        within = there.within;
        address = start_is (place (routine_plan s base) moved.layout) (length s.items) m.starts (label_place s.labels label) there.number moved.lists.starts there.is there.within;
        goal = goal_is s base moved.layout k label there.number lt aim there.is there.within;
      }

  -- **a routine whose plan is moved is laid out, with its data**
  pub laid : (s : RoutineState) (base count : ℕ) → IsRoutine s → HasAdded s count → first_unplaced s.labels s.aims (length s.items) ≡ None → (m : MovedLists)
      → IsMovedBy s.bits s.items (routine_plan s base) m → IsLaidOut s base count (made_of m s.filled s.labels base count)
  unfolding routine_plan
  laid s base count is added none m moved =
      let goals = routine_goals s.labels s.aims s.items in
      let spans = one_span s.items base in
      let of = laws.plans.one_span-of s.items base in
      let well = all_placed s is in
      let places : (k : ℕ) → k < length s.items → StandsAtPlace s.bits s.items (routine_plan s base) moved.layout 0 k =
      λ k lt. subst (λ (b : ℕ). StandsAtPlace s.bits s.items (routine_plan s base) moved.layout b k) (in_first s.items base k lt)
      (laws.moved.places s.bits s.items spans goals of m moved k lt) in
      record {
        all_stand = none;
        moved = moved;
        labels = refl;
        added = refl;
        read = laws.moved.read s.bits s.items spans goals of well m moved 0 (omega arith);
        places = places;
        goals = λ k lt. subst (λ (b : ℕ). GoesToGoal s.bits s.items (routine_plan s base) moved.layout b k) (in_first s.items base k lt) (record {
          stays = λ none. laws.moved.stays s.bits s.items spans goals well moved.layout k lt none;
          address = λ none. laws.moved.address s.bits s.items spans goals well moved.layout k lt none;
          near = λ t some near. laws.moved.near s.bits s.items spans goals well moved.layout moved.least.closed.is_layout k t lt some near;
          far = λ t some far. laws.moved.far s.bits s.items spans goals well moved.layout k t lt some far;
          slot = λ far. laws.moved.slots s.bits s.items spans goals of m moved k lt far;
          over = λ n more. laws.moved.over s.bits s.items spans goals moved.layout k n more;
        });
        to_labels = λ k label lt aim. to_label s base count none m moved k label lt aim;
        addresses = λ label j at lt. start_is (place (routine_plan s base) moved.layout) (length s.items) m.starts (label_place s.labels label) j
            moved.lists.starts at lt;
        bytes = refl;
        plain = λ no_data. plain_bytes laws s base count is added m moved places no_data;
        code = λ k lt without. code_stands laws s base count is added m moved places k lt without;
        decoded = λ k lt without. code_read laws s base count is added m moved places k lt without;
        filled = λ k byte lt some. data_stands laws s base count is added m moved places k byte lt some;
      }

  -- **the answer is what a move by the plan gives**
  pub finished : (s : RoutineState) (base count : ℕ) → IsRoutine s → HasAdded s count → first_unplaced s.labels s.aims (length s.items) ≡ None
      → (answer : Result MovedLists PlanError) → IsPlanAnswer s.bits s.items (routine_plan s base) (as_moving answer)
      → (made : Result AssembledState FinishError) → IsMade answer s.filled s.labels base count made → IsLaidAnswer s base count made
  finished s base count is added none (Ok m) moved (Ok a) e =
      subst (λ (b : AssembledState). IsLaidOut s base count b) (sym e) (laid s base count is added none m moved)
  finished s base count is added none (Ok m) moved (Err why) e = subst (λ (w : FinishError). IsLaidAnswer s base count (Err w)) (sym e) none
  finished s base count is added none (Err plan_error.Memory) h (Ok a) e = absurd e
  finished s base count is added none (Err plan_error.Memory) h (Err why) e = subst (λ (w : FinishError). IsLaidAnswer s base count (Err w)) (sym e) none
  finished s base count is added none (Err (plan_error.Wraps end)) h (Ok a) e = absurd e
  finished s base count is added none (Err (plan_error.Wraps end)) h (Err why) e =
      subst (λ (w : FinishError). IsLaidAnswer s base count (Err w)) (sym e) (none, h)
  finished s base count is added none (Err (plan_error.TooFar at target)) h (Ok a) e = absurd e
  finished s base count is added none (Err (plan_error.TooFar at target)) h (Err why) e =
      subst (λ (w : FinishError). IsLaidAnswer s base count (Err w)) (sym e) (none, h)
