-- What it says that nothing enters what a hook overwrites.
use Rattle.std.specs.Prelude.{◌≡◌, ◌⊎◌, ℕ, ◌<◌, ◌≤◌, List, length}
use Rattle.std.specs.List.{Contains}
use Rattle.x86_values.specs.declared.Decoded.{Decoded}
use Rattle.row_relation.specs.Spells.{Read}
use Rattle.flow_graph.specs.Control.{CodeBytes, IsReadIn, IsSuccessor, Leads, GoesToTarget}
use Rattle.flow_graph.specs.declared.hook_sight.answers.StartRule.TheVariants.{Closed}
use Rattle.flow_graph.specs.HookSight.Sight.{IsSeen}
use Rattle.flow_graph.specs.HookSight.Entries.{TakenPart, IsCallAt}

-- control goes from each offset that is seen only to offsets that are seen, or by a branch or call that names it, to a target outside the code
pub record IsClosed (code : CodeBytes) (entries : List ℕ) : Type 0 where
  pub stays : (p q : ℕ) (d : Decoded) → IsSeen code entries p → IsReadIn code p (Read d) → Leads code p d q →
      IsSeen code entries q ⊎ (GoesToTarget code d q × (length code.bytes ≤ q))

-- no instruction that is seen goes into what is overwritten, behind its first byte, but those that stand there; of these a moved one goes to a moved
-- one only. If the start is closed, only calls go there from behind what is overwritten.
pub record IsKeptOut (code : CodeBytes) (entries : List ℕ) (part : TakenPart) : Type 0 where
  pub inside : (p q : ℕ) (d : Decoded) → IsSeen code entries p → IsReadIn code p (Read d) → Leads code p d q → 0 < q → q < part.taken →
      (p < part.taken) × (Contains part.moved p → Contains part.moved q)
  pub start : part.start ≡ Closed → (p : ℕ) → IsSeen code entries p → part.taken ≤ p → IsSuccessor code p 0 → IsCallAt code p
