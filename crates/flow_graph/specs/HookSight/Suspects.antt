-- What was not reached, and if it were code, would enter what a hook overwrites.
use Rattle.std.specs.Prelude.{◌≡◌, ℕ, ◌<◌, ◌≤◌, List, length, slice_index, Option, None}
use Rattle.flow_graph.specs.Control.{CodeBytes}
use Rattle.flow_graph.specs.declared.hook_sight.answers.Passage.{Passage}
use Rattle.flow_graph.specs.declared.hook_sight.answers.Sight.{Sight}
use Rattle.flow_graph.specs.declared.hook_sight.answers.Sight.TheVariants.{Whole, Ends}
use Rattle.flow_graph.specs.HookSight.Entries.{TakenPart, IsPassage, IsFirstPassage}

-- at p, behind what is overwritten, which is not seen, an instruction is read from which control may go to q, and so would enter; since q does not
-- stand behind p, it is the target that the instruction names
pub record IsSuspect (seen : ℕ → Type 0) (code : CodeBytes) (part : TakenPart) (p q : ℕ) : Type 0 where
  pub unseen : seen p → ⊥
  pub behind : part.taken ≤ p
  pub byte : p < length code.bytes
  pub passes : IsPassage code part p q

-- the first suspect, or that there is none; where sight is whole, none is looked for
abbrev pub IsSuspected : (ℕ → Type 0) → CodeBytes → TakenPart → Sight → Option Passage → Type 0
IsSuspected seen code part Whole suspect = suspect ≡ None
IsSuspected seen code part (Ends at why) suspect = IsFirstPassage (IsSuspect seen code part) suspect

-- ---- a pass over all offsets beside a list in ascending order

-- place k of the list has the offset
abbrev pub IsAt : List ℕ → ℕ → ℕ → Type 0
IsAt starts k p = (k < length starts) × (slice_index starts k ≡ p)

-- the first `next` offsets of the list are those that are less than p
pub record IsCursor (starts : List ℕ) (next p : ℕ) : Type 0 where
  pub within : next ≤ length starts
  pub before : (j : ℕ) → j < next → slice_index starts j < p
  pub behind : (j : ℕ) → next ≤ j → j < length starts → p ≤ slice_index starts j
