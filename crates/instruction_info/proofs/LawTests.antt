-- What every effect keeps to, each by computing over the effects, or over all rows with their names and effects.
use Rattle.std.proofs.Common.{◌≡◌, ℕ, zero, suc, ◌<◌, Bool, true, false, ◌&&◌, List, [], ◌∷◌, ◌++◌, length, slice_get, refl, ap, sym, ◌∙◌, arith}
use Rattle.std.specs.Prelude.{Option, Some, None, not, IsTrue, ◌==◌, if◌then◌else◌, unwrap_or, take, bit_and, bit_or}
use Rattle.std.specs.List.{list_all, list_any}
use Rattle.std.proofs.lemmas.Option.{slice_get_within}
use Rattle.std.proofs.lemmas.Bool.{eqb-true, and_from, and_parts}
use Rattle.std.proofs.lemmas.List.{append_assoc}
use Rattle.x86_values.specs.declared.Bits.{Bits}
use Rattle.x86_values.specs.declared.Instr.{Instr}
use Rattle.instruction_parts.specs.declared.row_types.Row.{Row}
use Rattle.opcode_rows.specs.Parts.{integer_rows, integer_flat, x87_rows, x87_flat, sse_rows, sse_flat, vex_rows, vex_flat}
use Rattle.opcode_rows.specs.declared.generated_spots.TheConstants.{ROWS, VERSION1_ROWS}
use Rattle.opcode_rows.proofs.JoinFacts.{length-table}
use Rattle.opcode_rows.specs.Table.{spots, rows_in, table, names, name_of}
use Rattle.operand_info.specs.Names.{is_jump, is_call, is_conditional, is_return, is_system_call, is_interrupt, is_undefined}
use Rattle.operand_info.specs.Columns.{has_direct_target, flow_at}
use Rattle.operand_info.specs.ByCode.{flow_in, flow_of}
use Rattle.instruction_info.specs.declared.effect.Effect.{Effect}
use Rattle.instruction_info.specs.declared.effect.ImpliedMemory.{ImpliedMemory}
use Rattle.instruction_info.specs.Effects.{indexes, effects, memory_list, no_effect, effect_of, memory_in, implied_memory_of, flags_read, flags_written, flags_cleared, flags_set, flags_undefined, flags_kept, features_of, registers_of}
use Rattle.operand_info.specs.Operands.{uses}
use Rattle.instruction_info.specs.declared.registers.RegisterUse.{RegisterUse}
use Rattle.instruction_info.specs.Settings.{has_repeat, setting_of}
use Rattle.instruction_info.specs.Memory.{all_memory}
use Rattle.instruction_info.specs.Registers.{replaces, named_uses, segment_uses, implied_uses, counter_use, all_registers}
use Rattle.instruction_info.specs.Laws.{tested_flags, is_calling, is_returning, is_system_return, is_push, is_pop, PageFlags, slots_of, are_slots, page_flags, is_arithmetic, is_increment, is_logic, is_rotate, is_shift, is_signed_shift, uses_carry, is_string_row, counter, added_features}

-- ---- each effect

-- what passes on all of a list and on a default passes on what a place gives
passes-or : {X : Type 0} (p : X → Bool) (xs : List X) (d : X) (k : ℕ) → list_all p xs ≡ true → p d ≡ true → p (unwrap_or (slice_get xs k) d) ≡ true
passes-or p [] d zero h hd = hd
passes-or p [] d (suc k) h hd = hd
passes-or p (x ∷ xs) d zero h hd = (and_parts (p x) (list_all p xs) h).0
passes-or p (x ∷ xs) d (suc k) h hd = passes-or p xs d k (and_parts (p x) (list_all p xs) h).1 hd

-- what holds of each line of effects and of no effect holds of every code
pub each_effect : (p : Effect → Bool) → list_all p effects ≡ true → p no_effect ≡ true → (code : ℕ) → p (effect_of code) ≡ true
unfolding effect_of
each_effect p h hd code = passes-or p effects no_effect (unwrap_or (slice_get indexes code) 0) h hd

abbrev clears_written : Effect → Bool
clears_written e = bit_and e.cleared e.written == e.cleared

abbrev sets_written : Effect → Bool
sets_written e = bit_and e.set e.written == e.set

abbrev is_apart : Effect → Bool
is_apart e = bit_and e.undefined e.written == 0

abbrev keeps_changed : Effect → Bool
keeps_changed e = bit_and e.kept (bit_or e.written e.undefined) == e.kept

all_clear_written : list_all clears_written effects ≡ true
unfolding effects
all_clear_written = refl

all_set_written : list_all sets_written effects ≡ true
unfolding effects
all_set_written = refl

all_are_apart : list_all is_apart effects ≡ true
unfolding effects
all_are_apart = refl

all_keep_changed : list_all keeps_changed effects ≡ true
unfolding effects
all_keep_changed = refl

-- cleared flags are written
pub cleared-written : (code : ℕ) → bit_and (flags_cleared code) (flags_written code) ≡ flags_cleared code
unfolding flags_cleared flags_written
cleared-written code = eqb-true _ _ (each_effect clears_written all_clear_written refl code)

-- set flags are written
pub set-written : (code : ℕ) → bit_and (flags_set code) (flags_written code) ≡ flags_set code
unfolding flags_set flags_written
set-written code = eqb-true _ _ (each_effect sets_written all_set_written refl code)

-- undefined flags are not written
pub undefined-apart : (code : ℕ) → bit_and (flags_undefined code) (flags_written code) ≡ 0
unfolding flags_undefined flags_written
undefined-apart code = eqb-true _ _ (each_effect is_apart all_are_apart refl code)

-- flags that may be kept are written or undefined
pub kept-changed : (code : ℕ) → bit_and (flags_kept code) (bit_or (flags_written code) (flags_undefined code)) ≡ flags_kept code
unfolding flags_kept flags_undefined flags_written
kept-changed code = eqb-true _ _ (each_effect keeps_changed all_keep_changed refl code)

-- ---- all rows

-- the effect of an index
abbrev pub effect_numbered : ℕ → Effect
effect_numbered k = unwrap_or (slice_get effects k) no_effect

-- a test of each row with its name and its effect
unfoldable pub all_rows : (List ℕ → Row → Effect → Bool) → List (List ℕ) → List Row → List ℕ → Bool
all_rows p [] rows ks = true
all_rows p (n ∷ ns) [] ks = true
all_rows p (n ∷ ns) (r ∷ rs) [] = true
all_rows p (n ∷ ns) (r ∷ rs) (k ∷ ks) = p n r (effect_numbered k) && all_rows p ns rs ks

all_rows-at : (p : List ℕ → Row → Effect → Bool) (ns : List (List ℕ)) (rs : List Row) (ks : List ℕ) (code : ℕ) (row : Row) → all_rows p ns rs ks ≡ true
    → code < length ns → code < length ks → slice_get rs code ≡ Some row
    → p (unwrap_or (slice_get ns code) []) row (effect_numbered (unwrap_or (slice_get ks code) 0)) ≡ true
unfolding all_rows
all_rows-at p [] rs ks code row h lt lt' at = absurd (omega arith)
all_rows-at p (n ∷ ns) [] ks code row h lt lt' at = cc
all_rows-at p (n ∷ ns) (r ∷ rs) [] code row h lt lt' at = absurd (omega arith)
all_rows-at p (n ∷ ns) (r ∷ rs) (k ∷ ks) zero row h lt lt' at =
    let same : r ≡ row = cc in
    ap (λ x. p n x (effect_numbered k)) (sym same) ∙ (and_parts (p n r (effect_numbered k)) (all_rows p ns rs ks) h).0
all_rows-at p (n ∷ ns) (r ∷ rs) (k ∷ ks) (suc code) row h lt lt' at =
    all_rows-at p ns rs ks code row (and_parts (p n r (effect_numbered k)) (all_rows p ns rs ks) h).1 (omega arith) (omega arith) at

length-names : length names ≡ ROWS
unfolding names
length-names = refl

length-indexes : length indexes ≡ ROWS
unfolding indexes
length-indexes = refl

-- what passes on all rows passes on the row of a code
pub each_row : (p : List ℕ → Row → Effect → Bool) → all_rows p names table indexes ≡ true → (code : ℕ) (row : Row) → slice_get table code ≡ Some row
    → p (name_of code) row (effect_of code) ≡ true
unfolding name_of effect_of
each_row p h code row at =
    let lt = slice_get_within table code row at in
    all_rows-at p names table indexes code row h (omega (arith, lt, length-table, length-names)) (omega (arith, lt, length-table, length-indexes)) at

-- ---- the tests of all rows, in one pass over the table

abbrev is_flags : Option ℕ → ℕ → Bool
is_flags None read = true
is_flags (Some flags) read = read == flags

abbrev reads_condition : List ℕ → Row → Effect → Bool
reads_condition name row e = is_flags (tested_flags row) e.read

abbrev pushes_if : Bool → Bool → Bool → Bool
pushes_if false system pushes = true
pushes_if true true pushes = true
pushes_if true false pushes = pushes

abbrev call_pushes : List ℕ → Row → Effect → Bool
call_pushes name row e = pushes_if (is_calling (flow_at name row)) (is_system_call name) (list_any is_push (memory_in e))

abbrev return_pops : List ℕ → Row → Effect → Bool
return_pops name row e = pushes_if (is_returning (flow_at name row)) (is_system_return name) (list_any is_pop (memory_in e))

abbrev same : Bool → Bool → Bool
same true b = b
same false b = not b

abbrev repeats_strings : List ℕ → Row → Effect → Bool
repeats_strings name row e = same e.repeats (is_string_row row)

abbrev passes : List ℕ → Row → Effect → Bool
passes name row e =
    reads_condition name row e && (call_pushes name row e && (return_pops name row e && repeats_strings name row e))

all_pass : all_rows passes names table indexes ≡ true
unfolding all_rows tested_flags effects indexes names table rows_in spots integer_rows integer_flat x87_rows x87_flat sse_rows sse_flat vex_rows vex_flat flow_at is_jump is_call is_conditional is_return is_system_call is_interrupt is_undefined has_direct_target memory_list is_system_return is_string_row
all_pass = refl

record RowPasses (name : List ℕ) (row : Row) (e : Effect) : Type 0 where
  condition : reads_condition name row e ≡ true
  call : call_pushes name row e ≡ true
  return_ : return_pops name row e ≡ true
  string : repeats_strings name row e ≡ true

row-passes : (code : ℕ) (row : Row) → slice_get table code ≡ Some row → RowPasses (name_of code) row (effect_of code)
row-passes code row at =
    let name = name_of code in
    let e = effect_of code in
    let h = each_row passes all_pass code row at in
    let h1 = (and_parts (reads_condition name row e) (call_pushes name row e && (return_pops name row e && repeats_strings name row e)) h).1 in
    let h2 = (and_parts (call_pushes name row e) (return_pops name row e && repeats_strings name row e) h1).1 in
    record {
      condition = (and_parts (reads_condition name row e) (call_pushes name row e && (return_pops name row e && repeats_strings name row e)) h).0;
      call = (and_parts (call_pushes name row e) (return_pops name row e && repeats_strings name row e) h1).0;
      return_ = (and_parts (return_pops name row e) (repeats_strings name row e) h2).0;
      string = (and_parts (return_pops name row e) (repeats_strings name row e) h2).1;
    }

-- ---- conditions

-- a conditional instruction reads the flags of its condition
pub condition-read : (code flags : ℕ) (row : Row) → slice_get table code ≡ Some row → tested_flags row ≡ Some flags → flags_read code ≡ flags
unfolding flags_read
condition-read code flags row at tested =
    let h = (row-passes code row at).condition in
    eqb-true (effect_of code).read flags (ap (λ o. is_flags o (effect_of code).read) (sym tested) ∙ h)

-- ---- the stack

flow-row : (code : ℕ) (row : Row) → slice_get table code ≡ Some row → flow_of code ≡ flow_at (name_of code) row
unfolding flow_of
flow-row code row at = ap (λ o. flow_in o (name_of code)) at

pushes_if-true : (calls system pushes : Bool) → pushes_if calls system pushes ≡ true → calls ≡ true → system ≡ false → pushes ≡ true
pushes_if-true false system pushes h calls user = cc
pushes_if-true true true pushes h calls user = cc
pushes_if-true true false pushes h calls user = h

-- a call pushes, unless it is a system call
pub call-pushes : (code : ℕ) (row : Row) → slice_get table code ≡ Some row → IsTrue (is_calling (flow_of code)) → is_system_call (name_of code) ≡ false → IsTrue (list_any is_push (implied_memory_of code))
unfolding implied_memory_of
call-pushes code row at calls user =
    pushes_if-true _ _ _ (row-passes code row at).call (ap (λ f. is_calling f) (sym (flow-row code row at)) ∙ calls) user

-- a return pops, unless it is a return from a system call
pub return-pops : (code : ℕ) (row : Row) → slice_get table code ≡ Some row → IsTrue (is_returning (flow_of code)) → is_system_return (name_of code) ≡ false → IsTrue (list_any is_pop (implied_memory_of code))
unfolding implied_memory_of
return-pops code row at returns user =
    pushes_if-true _ _ _ (row-passes code row at).return_ (ap (λ f. is_returning f) (sym (flow-row code row at)) ∙ returns) user

-- ---- slots and the flags of arithmetic, in one pass over the table

abbrev moves_if : Option ℕ → List ImpliedMemory → Bool
moves_if None ms = true
moves_if (Some count) ms = are_slots count ms

abbrev has_flags : Option PageFlags → Effect → Bool
has_flags None e = true
has_flags (Some page) e =
    e.read == page.read && (e.written == page.written && (e.cleared == page.cleared && (e.undefined == page.undefined && e.kept == page.kept)))

abbrev moves_slots : List ℕ → Row → Effect → Bool
moves_slots name row e = moves_if (slots_of name) (memory_in e)

abbrev is_of_page : List ℕ → Row → Effect → Bool
is_of_page name row e = has_flags (page_flags name row) e

abbrev is_as_paged : List ℕ → Row → Effect → Bool
is_as_paged name row e = moves_slots name row e && is_of_page name row e

all_are_paged : all_rows is_as_paged names table indexes ≡ true
unfolding all_rows effects indexes names table rows_in spots integer_rows integer_flat x87_rows x87_flat sse_rows sse_flat vex_rows vex_flat memory_list slots_of page_flags is_arithmetic is_increment is_logic is_rotate is_shift is_signed_shift uses_carry
all_are_paged = refl

-- a call or a return moves the slots of its name
pub slots-moved : (code count : ℕ) (row : Row) → slice_get table code ≡ Some row → slots_of (name_of code) ≡ Some count → IsTrue (are_slots count (implied_memory_of code))
unfolding implied_memory_of
slots-moved code count row at named =
    let name = name_of code in
    let e = effect_of code in
    ap (λ o. moves_if o (memory_in e)) (sym named) ∙ (and_parts (moves_slots name row e) (is_of_page name row e) (each_row is_as_paged all_are_paged code row at)).0

abbrev last_two : PageFlags → Effect → Bool
last_two page e = e.undefined == page.undefined && e.kept == page.kept

abbrev last_three : PageFlags → Effect → Bool
last_three page e = e.cleared == page.cleared && last_two page e

abbrev last_four : PageFlags → Effect → Bool
last_four page e = e.written == page.written && last_three page e

record HasFlags (page : PageFlags) (e : Effect) : Type 0 where
  read : e.read ≡ page.read
  written : e.written ≡ page.written
  cleared : e.cleared ≡ page.cleared
  undefined : e.undefined ≡ page.undefined
  kept : e.kept ≡ page.kept

flags-of_page : (code : ℕ) (row : Row) (page : PageFlags) → slice_get table code ≡ Some row → page_flags (name_of code) row ≡ Some page
    → HasFlags page (effect_of code)
flags-of_page code row page at paged =
    let name = name_of code in
    let e = effect_of code in
    let h = ap (λ o. has_flags o e) (sym paged) ∙ (and_parts (moves_slots name row e) (is_of_page name row e) (each_row is_as_paged all_are_paged code row at)).1 in
    let h0 = (and_parts (e.read == page.read) (last_four page e) h).1 in
    let h1 = (and_parts (e.written == page.written) (last_three page e) h0).1 in
    let h2 = (and_parts (e.cleared == page.cleared) (last_two page e) h1).1 in
    record {
      read = eqb-true e.read page.read (and_parts (e.read == page.read) (last_four page e) h).0;
      written = eqb-true e.written page.written (and_parts (e.written == page.written) (last_three page e) h0).0;
      cleared = eqb-true e.cleared page.cleared (and_parts (e.cleared == page.cleared) (last_two page e) h1).0;
      undefined = eqb-true e.undefined page.undefined (and_parts (e.undefined == page.undefined) (e.kept == page.kept) h2).0;
      kept = eqb-true e.kept page.kept (and_parts (e.undefined == page.undefined) (e.kept == page.kept) h2).1;
    }

-- arithmetic reads the flags that its page says
pub page-read : (code : ℕ) (row : Row) (page : PageFlags) → slice_get table code ≡ Some row → page_flags (name_of code) row ≡ Some page → flags_read code ≡ page.read
unfolding flags_read
page-read code row page at paged = (flags-of_page code row page at paged).read

-- it writes those that its page says
pub page-written : (code : ℕ) (row : Row) (page : PageFlags) → slice_get table code ≡ Some row → page_flags (name_of code) row ≡ Some page → flags_written code ≡ page.written
unfolding flags_written
page-written code row page at paged = (flags-of_page code row page at paged).written

-- those that its page clears are cleared
pub page-cleared : (code : ℕ) (row : Row) (page : PageFlags) → slice_get table code ≡ Some row → page_flags (name_of code) row ≡ Some page → flags_cleared code ≡ page.cleared
unfolding flags_cleared
page-cleared code row page at paged = (flags-of_page code row page at paged).cleared

-- those that its page leaves undefined are undefined
pub page-undefined : (code : ℕ) (row : Row) (page : PageFlags) → slice_get table code ≡ Some row → page_flags (name_of code) row ≡ Some page → flags_undefined code ≡ page.undefined
unfolding flags_undefined
page-undefined code row page at paged = (flags-of_page code row page at paged).undefined

-- those that its page keeps under a count of 0 are kept
pub page-kept : (code : ℕ) (row : Row) (page : PageFlags) → slice_get table code ≡ Some row → page_flags (name_of code) row ≡ Some page → flags_kept code ≡ page.kept
unfolding flags_kept
page-kept code row page at paged = (flags-of_page code row page at paged).kept

-- ---- strings

same-true : (a b : Bool) → same a b ≡ true → a ≡ b
same-true true true h = refl
same-true true false h = cc
same-true false true h = cc
same-true false false h = refl

-- the string instructions are those that a repeat prefix repeats
pub string-repeats : (code : ℕ) (row : Row) → slice_get table code ≡ Some row → (effect_of code).repeats ≡ is_string_row row
string-repeats code row at = same-true (effect_of code).repeats (is_string_row row) (row-passes code row at).string

-- ---- features

abbrev needs_none : ℕ → Bool
needs_none k = bit_and (effect_numbered k).features added_features == 0

first_need_none : list_all needs_none (take VERSION1_ROWS indexes) ≡ true
unfolding effects indexes
first_need_none = refl

passes-first : (p : ℕ → Bool) (xs : List ℕ) (n code : ℕ) → list_all p (take n xs) ≡ true → code < n → code < length xs → p (unwrap_or (slice_get xs code) 0) ≡ true
passes-first p [] n code h lt lt' = absurd (omega arith)
passes-first p (x ∷ xs) zero code h lt lt' = absurd (omega arith)
passes-first p (x ∷ xs) (suc n) zero h lt lt' = (and_parts (p x) (list_all p (take n xs)) h).0
passes-first p (x ∷ xs) (suc n) (suc code) h lt lt' = passes-first p xs n code (and_parts (p x) (list_all p (take n xs)) h).1 (omega arith) (omega arith)

-- no row of version 1 needs a feature of the added rows
pub version1-needs : (code : ℕ) → code < VERSION1_ROWS → bit_and (features_of code) added_features ≡ 0
unfolding features_of effect_of
version1-needs code lt =
    eqb-true _ _ (passes-first needs_none indexes VERSION1_ROWS code first_need_none lt (omega (arith, lt, length-indexes)))

-- the counter stands last
repeated-true : (bits : Bits) (i : Instr) (row : Row) → slice_get table i.code.0 ≡ Some row → IsTrue (is_string_row row) → IsTrue (has_repeat i.rep)
    → (setting_of bits i).repeated ≡ true
unfolding setting_of
repeated-true bits i row at string repeat =
    and_from (has_repeat i.rep) (effect_of i.code.0).repeats repeat (string-repeats i.code.0 row at ∙ string)

abbrev counter_if : Bits → Instr → Bool → List RegisterUse
counter_if bits i b = if b then counter bits i ∷ [] else []

-- a repeated string instruction uses its counter last
pub counter-last : (bits : Bits) (i : Instr) (row : Row) → slice_get table i.code.0 ≡ Some row → IsTrue (is_string_row row) → IsTrue (has_repeat i.rep)
    → (front : List RegisterUse) × (all_registers bits i ≡ front ++ counter bits i ∷ [])
unfolding all_registers
counter-last bits i row at string repeat =
    let named = named_uses (replaces i) (uses i) in
    let segments = segment_uses bits (all_memory bits i) in
    let implied = implied_uses (setting_of bits i) (registers_of i.code.0) in
    let last : counter_use (setting_of bits i) ≡ counter bits i ∷ [] = ap (λ b. counter_if bits i b) (repeated-true bits i row at string repeat) in (
      named ++ (segments ++ implied),
      ap (λ l. named ++ (segments ++ (implied ++ l))) last
          ∙ (ap (λ l. named ++ l) (sym (append_assoc segments implied (counter bits i ∷ [])))
          ∙ sym (append_assoc named (segments ++ implied) (counter bits i ∷ []))),
    )
