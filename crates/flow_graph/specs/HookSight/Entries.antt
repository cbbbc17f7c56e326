-- Whether control enters what a hook overwrites.
use Rattle.std.specs.Prelude.{◌≡◌, ◌⊎◌, ℕ, ◌+◌, ◌<◌, ◌≤◌, nat_lt, Bool, true, false, if◌then◌else◌, List, slice_index, Option, Some, None}
use Rattle.std.specs.List.{Contains}
use Rattle.x86_values.specs.declared.Decoded.{Decoded}
use Rattle.row_relation.specs.Spells.{Read}
use Rattle.operand_info.specs.declared.columns.Flow.{Flow}
use Rattle.operand_info.specs.declared.columns.Flow.TheVariants.{Call}
use Rattle.operand_info.specs.ByCode.{flow_of}
use Rattle.flow_graph.specs.Control.{CodeBytes, IsReadIn, IsSuccessor}
use Rattle.flow_graph.specs.declared.hook_sight.answers.Passage.{Passage}
use Rattle.flow_graph.specs.declared.hook_sight.answers.StartRule.{StartRule}
use Rattle.flow_graph.specs.declared.hook_sight.answers.StartRule.TheVariants.{Closed}

-- what is overwritten: how many first bytes, at which offsets the moved instructions begin, and whether the start is closed to control behind it
pub record TakenPart : Type 0 where
  pub taken : ℕ
  pub moved : List ℕ
  pub start : StartRule

-- what is overwritten, made of these three
abbrev pub part_of : ℕ → List ℕ → StartRule → TakenPart
part_of taken moved start = record { taken = taken; moved = moved; start = start }

-- ---- an entry

-- a call that names its target is read at p
pub record IsCallAt (code : CodeBytes) (p : ℕ) : Type 0 where
  pub decoded : Decoded
  pub reads : IsReadIn code p (Read decoded)
  pub flow : flow_of decoded.instr.code.0 ≡ Call

-- Control that goes from p to q goes into what is overwritten, behind its first byte. From a moved instruction it may go to the start of one, which is
-- moved with it.
pub record GoesInside (taken : ℕ) (moved : List ℕ) (p q : ℕ) : Type 0 where
  pub behind : 0 < q
  pub within : q < taken
  pub from : (taken ≤ p) ⊎ (Contains moved p × (Contains moved q → ⊥))

-- control goes back to the start from behind what is overwritten, and the start is closed; a call is recursion and no such thing
pub record GoesBack (code : CodeBytes) (taken : ℕ) (start : StartRule) (p q : ℕ) : Type 0 where
  pub closed : start ≡ Closed
  pub first : q ≡ 0
  pub behind : taken ≤ p
  pub no_call : IsCallAt code p → ⊥

-- control that goes from p to q enters what is overwritten
abbrev pub IsEntry : CodeBytes → TakenPart → ℕ → ℕ → Type 0
IsEntry code part p q = GoesInside part.taken part.moved p q ⊎ GoesBack code part.taken part.start p q

-- control may go from p to q, and so enters
abbrev pub IsPassage : CodeBytes → TakenPart → ℕ → ℕ → Type 0
IsPassage code part p q = IsSuccessor code p q × IsEntry code part p q

-- it may from an offset that is seen
pub record Enters (seen : ℕ → Type 0) (code : CodeBytes) (part : TakenPart) (p q : ℕ) : Type 0 where
  pub reached : seen p
  pub passes : IsPassage code part p q

-- an entry that is given stands in what is overwritten, behind its first byte, where there is a byte
pub record IsInside (entries : List ℕ) (taken count entry : ℕ) : Type 0 where
  pub given : Contains entries entry
  pub behind : 0 < entry
  pub within : entry < taken
  pub byte : entry < count

-- ---- the first of some

-- the least number with a property, or that none has it
abbrev pub IsLeast : (ℕ → Type 0) → Option ℕ → Type 0
IsLeast has (Some n) = has n × ((m : ℕ) → has m → n ≤ m)
IsLeast has None = (n : ℕ) → has n → ⊥

-- of some passages from p to q, this is the one with the least p, and of those the one with the least q
pub record IsFirst (goes : ℕ → ℕ → Type 0) (p q : ℕ) : Type 0 where
  pub is : goes p q
  pub first : (r s : ℕ) → goes r s → p ≤ r
  pub least : (s : ℕ) → goes p s → q ≤ s

-- the first of some passages, or that there is none
abbrev pub IsFirstPassage : (ℕ → ℕ → Type 0) → Option Passage → Type 0
IsFirstPassage goes (Some passage) = IsFirst goes passage.from passage.target
IsFirstPassage goes None = (p q : ℕ) → goes p q → ⊥

-- ---- at one offset

-- the instruction is a call that names its target
unfoldable pub is_call : Flow → Bool
is_call Call = true
is_call _ = false

-- where control may go, if it goes somewhere and so enters
abbrev pub IsEntryOf : CodeBytes → TakenPart → ℕ → Option ℕ → Option ℕ → Type 0
IsEntryOf code part p to (Some q) = (to ≡ Some q) × IsEntry code part p q
IsEntryOf code part p to None = (q : ℕ) → to ≡ Some q → IsEntry code part p q → ⊥

-- the end of an instruction of so many bytes at p, where that is not 0
abbrev pub end_exit : ℕ → ℕ → Option ℕ
end_exit p next = if nat_lt 0 next then Some (p + next) else None

-- the lesser of two numbers, as far as they are there
abbrev pub lesser : Option ℕ → Option ℕ → Option ℕ
lesser None b = b
lesser (Some x) None = Some x
lesser (Some x) (Some y) = if nat_lt y x then Some y else Some x

-- the entry at a place of the list, if it stands in what is overwritten, behind its first byte, where there is a byte
abbrev pub IsInsideAt : List ℕ → ℕ → ℕ → ℕ → Option ℕ → Type 0
IsInsideAt entries taken count k (Some entry) = (slice_index entries k ≡ entry) × ((0 < entry) × (entry < taken) × (entry < count))
IsInsideAt entries taken count k None = 0 < slice_index entries k → slice_index entries k < taken → slice_index entries k < count → ⊥
