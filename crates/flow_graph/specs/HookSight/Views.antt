-- What is seen of a function whose first bytes a hook overwrites.
use Rattle.std.specs.Prelude.{ℕ, List, length}
use Rattle.flow_graph.specs.Control.{CodeBytes}
use Rattle.flow_graph.specs.declared.hook_sight.answers.View.{View}
use Rattle.flow_graph.specs.HookSight.Sight.{IsSeen, IsSight}
use Rattle.flow_graph.specs.HookSight.Entries.{TakenPart, Enters, IsInside, IsLeast, IsFirstPassage}
use Rattle.flow_graph.specs.HookSight.Suspects.{IsSuspected}

-- how far control is seen from the first byte and the entries; the first place from which it enters what is overwritten; the least entry within that;
-- and where sight is not whole, the first suspect
pub record IsView (code : CodeBytes) (entries : List ℕ) (part : TakenPart) (view : View) : Type 0 where
  pub sight : IsSight (IsSeen code entries) code view.sight
  pub entered : IsFirstPassage (Enters (IsSeen code entries) code part) view.entered
  pub inside : IsLeast (IsInside entries part.taken (length code.bytes)) view.inside
  pub suspect : IsSuspected (IsSeen code entries) code part view.sight view.suspect
