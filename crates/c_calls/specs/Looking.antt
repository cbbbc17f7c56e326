-- What is seen of a function whose first bytes a hook overwrites, as the flat struct of the C interface.
use Rattle.std.specs.Prelude.{◌≡◌, ℕ, ◌<◌, ◌≤◌, ◌==◌, ℤ, pos, List, length, Option, Some, None, Result, Ok, Err, if◌then◌else◌}
use Rattle.x86_values.specs.declared.Bits.{Bits}
use Rattle.flow_graph.specs.Control.{code_bytes}
use Rattle.flow_graph.specs.declared.hook_sight.answers.Passage.{Passage}
use Rattle.flow_graph.specs.declared.hook_sight.answers.Sight.{Sight}
use Rattle.flow_graph.specs.declared.hook_sight.answers.Sight.TheVariants.{Whole, Ends}
use Rattle.flow_graph.specs.declared.hook_sight.answers.SightEnd.{SightEnd}
use Rattle.flow_graph.specs.declared.hook_sight.answers.SightEnd.TheVariants.{NotRead, IndirectJump, Ended}
use Rattle.flow_graph.specs.declared.hook_sight.answers.StartRule.{StartRule}
use Rattle.flow_graph.specs.declared.hook_sight.answers.StartRule.TheVariants.{Open, Closed}
use Rattle.flow_graph.specs.declared.hook_sight.answers.View.{View}
use Rattle.flow_graph.specs.HookSight.Entries.{part_of}
use Rattle.flow_graph.specs.HookSight.Views.{IsView}
use Rattle.c_calls.specs.declared.refusal.Refusal.{Refusal}
use Rattle.c_calls.specs.declared.refusal.Refusal.TheVariants.{Mode, Start, TooLarge, Memory}
use Rattle.c_calls.specs.declared.flat.FlatView.{FlatView}
use Rattle.c_calls.specs.Numbers.{bits_numbered}
use Rattle.c_calls.specs.Refusals.{refusal_status}

-- the rule for the start, by its number
unfoldable pub rule_numbered : ℕ → Option StartRule
rule_numbered n = if n == 0 then Some Open else (if n == 1 then Some Closed else None)

-- the view, or why there is none: more than 1,048,576 bytes, or no memory
abbrev pub IsSeenIn : Bits → StartRule → ℕ → List ℕ → List ℕ → ℕ → List ℕ → Result View Refusal → Type 0
IsSeenIn bits start ip code entries taken moved (Ok view) =
    (length code ≤ 1048576) × IsView (code_bytes bits ip code) entries (part_of taken moved start) view
IsSeenIn bits start ip code entries taken moved (Err TooLarge) = 1048576 < length code
IsSeenIn bits start ip code entries taken moved (Err Memory) = length code ≤ 1048576
IsSeenIn bits start ip code entries taken moved (Err _) = ⊥

-- the view where the numbers of the mode and of the rule name one each
abbrev pub IsViewAnswer : Option Bits → Option StartRule → ℕ → List ℕ → List ℕ → ℕ → List ℕ → Result View Refusal → Type 0
IsViewAnswer None start ip code entries taken moved answer = answer ≡ Err Mode
IsViewAnswer (Some bits) None ip code entries taken moved answer = answer ≡ Err Start
IsViewAnswer (Some bits) (Some start) ip code entries taken moved answer = IsSeenIn bits start ip code entries taken moved answer

-- why sight ends, by its number
abbrev pub end_number : SightEnd → ℕ
end_number NotRead = 1
end_number IndirectJump = 2
end_number Ended = 3

-- the number of the cause that ends sight, 0 if it is whole
abbrev pub sight_number : Sight → ℕ
sight_number Whole = 0
sight_number (Ends at why) = end_number why

-- the offset where it ends, 0 if it is whole
abbrev pub sight_offset : Sight → ℕ
sight_offset Whole = 0
sight_offset (Ends at why) = at

-- where a passage comes from, where it goes, and 1 if there is one; else 0
abbrev pub from_or_0 : Option Passage → ℕ
from_or_0 None = 0
from_or_0 (Some passage) = passage.from

abbrev pub target_or_0 : Option Passage → ℕ
target_or_0 None = 0
target_or_0 (Some passage) = passage.target

abbrev pub has_passage : Option Passage → ℕ
has_passage None = 0
has_passage (Some passage) = 1

-- an offset, and 1 if there is one; else 0
abbrev pub offset_or_0 : Option ℕ → ℕ
offset_or_0 None = 0
offset_or_0 (Some offset) = offset

abbrev pub has_offset : Option ℕ → ℕ
has_offset None = 0
has_offset (Some offset) = 1

-- the view as a flat struct
abbrev pub flat_view : View → FlatView
flat_view v = record {
  sight_at = sight_offset v.sight;
  entered_from = from_or_0 v.entered;
  entered_target = target_or_0 v.entered;
  inside = offset_or_0 v.inside;
  suspect_from = from_or_0 v.suspect;
  suspect_target = target_or_0 v.suspect;
  sight = sight_number v.sight;
  is_entered = has_passage v.entered;
  has_inside = has_offset v.inside;
  has_suspect = has_passage v.suspect;
}

-- what the call says
abbrev pub look_said : Result View Refusal → ℤ
look_said (Ok view) = pos 0
look_said (Err why) = refusal_status why

-- what stands in the struct then
abbrev pub view_left : FlatView → Result View Refusal → FlatView
view_left old (Ok view) = flat_view view
view_left old (Err why) = old

-- what the call says and leaves
pub record IsLook (bits ip : ℕ) (code entries : List ℕ) (taken : ℕ) (moved : List ℕ) (start : ℕ) (old new : FlatView) (said : ℤ) : Type 0 where
  pub answer : Result View Refusal
  pub is : IsViewAnswer (bits_numbered bits) (rule_numbered start) ip code entries taken moved answer
  pub said_is : said ≡ look_said answer
  pub left : new ≡ view_left old answer
