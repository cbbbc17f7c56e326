-- How far control is seen in some code.
use Rattle.std.specs.Prelude.{◌≡◌, ℕ, ◌+◌, ◌<◌, ◌≤◌, Bool, true, false, ◌&&◌, ◌==◌, if◌then◌else◌, List, ◌∷◌, length, Option, Some, None, Result, Ok, Err, IsTrue}
use Rattle.x86_values.specs.declared.Decoded.{Decoded}
use Rattle.row_relation.specs.Spells.{Reading, Read, TooShort, Invalid}
use Rattle.decoder.specs.declared.DecodeError.{DecodeError}
use Rattle.decoder.specs.declared.DecodeError.TheVariants.{Invalid as InvalidError, TooShort as TooShortError}
use Rattle.operand_info.specs.declared.columns.Flow.{Flow}
use Rattle.operand_info.specs.declared.columns.Flow.TheVariants.{IndirectBranch}
use Rattle.operand_info.specs.ByCode.{flow_of}
use Rattle.flow_graph.specs.Control.{CodeBytes, IsReadIn, goes_on}
use Rattle.flow_graph.specs.ReachedFrom.{ReachesFrom}
use Rattle.flow_graph.specs.declared.hook_sight.answers.Sight.{Sight}
use Rattle.flow_graph.specs.declared.hook_sight.answers.Sight.TheVariants.{Whole, Ends}
use Rattle.flow_graph.specs.declared.hook_sight.answers.SightEnd.{SightEnd}
use Rattle.flow_graph.specs.declared.hook_sight.answers.SightEnd.TheVariants.{NotRead, IndirectJump, Ended}

-- the offsets that control is seen to reach: from the first byte, and from each entry that is given
abbrev pub IsSeen : CodeBytes → List ℕ → ℕ → Type 0
IsSeen code entries p = ReachesFrom code (0 ∷ entries) p

-- control runs off the code: it goes on behind the instruction at p, and no byte stands there
pub record RunsOff (code : CodeBytes) (p : ℕ) (d : Decoded) : Type 0 where
  pub on : IsTrue (goes_on (flow_of d.instr.code.0))
  pub none : length code.bytes ≤ p + d.len

-- why sight ends where this is read: no instruction begins so; the code ends within one; it jumps to an address in a register or in memory; the code
-- ends behind it, and control goes on
abbrev pub EndsBy : CodeBytes → ℕ → Reading → SightEnd → Type 0
EndsBy code p Invalid NotRead = Unit {0}
EndsBy code p TooShort Ended = Unit {0}
EndsBy code p (Read d) IndirectJump = flow_of d.instr.code.0 ≡ IndirectBranch
EndsBy code p (Read d) Ended = RunsOff code p d
EndsBy code p reading why = ⊥

-- sight ends at p
pub record EndsSight (code : CodeBytes) (p : ℕ) (why : SightEnd) : Type 0 where
  pub reading : Reading
  pub reads : IsReadIn code p reading
  pub cause : EndsBy code p reading why

-- control is followed at p: an instruction is read there, no indirect jump, and if control goes on behind it, a byte stands there
pub record IsFollowed (code : CodeBytes) (p : ℕ) : Type 0 where
  pub decoded : Decoded
  pub reads : IsReadIn code p (Read decoded)
  pub direct : flow_of decoded.instr.code.0 ≡ IndirectBranch → ⊥
  pub on : IsTrue (goes_on (flow_of decoded.instr.code.0)) → p + decoded.len < length code.bytes

-- of the offsets that are seen, `at` is the first at which sight ends
pub record IsFirstEnd (seen : ℕ → Type 0) (code : CodeBytes) (at : ℕ) (why : SightEnd) : Type 0 where
  pub reached : seen at
  pub ends : EndsSight code at why
  pub before : (p : ℕ) → p < at → seen p → IsFollowed code p

-- how far the offsets are seen: control is followed at each of them, or first not at one
abbrev pub IsSight : (ℕ → Type 0) → CodeBytes → Sight → Type 0
IsSight seen code Whole = (p : ℕ) → seen p → IsFollowed code p
IsSight seen code (Ends at why) = IsFirstEnd seen code at why

-- ---- at one offset

-- why sight ends at p, or that it does not
abbrev pub IsEndAt : CodeBytes → ℕ → Option SightEnd → Type 0
IsEndAt code p (Some why) = EndsSight code p why
IsEndAt code p None = IsFollowed code p

-- the instruction jumps to an address in a register or in memory
unfoldable pub is_indirect_jump : Flow → Bool
is_indirect_jump IndirectBranch = true
is_indirect_jump _ = false

-- why sight ends at an instruction with this flow; it has `next` bytes where control goes to its end and a byte stands there, else that is 0
abbrev pub end_by_flow : Flow → ℕ → Option SightEnd
end_by_flow flow next =
    if is_indirect_jump flow then Some IndirectJump else (if goes_on flow && next == 0 then Some Ended else None)

-- why sight ends where this is told
abbrev pub end_by_told : Result Flow DecodeError → ℕ → Option SightEnd
end_by_told (Ok flow) next = end_by_flow flow next
end_by_told (Err InvalidError) next = Some NotRead
end_by_told (Err TooShortError) next = Some Ended
