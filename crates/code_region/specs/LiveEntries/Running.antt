-- What a list of commands leaves.
use Rattle.std.specs.Prelude.{◌≡◌, List, [], ◌∷◌}

-- the commands in order, each with its reply
abbrev pub IsRun : {S C R : Type 0} → (S → C → R → S → Type 0) → S → List C → List R → S → Type 0
IsRun IsDone old [] [] new = new ≡ old
IsRun IsDone old (command ∷ commands) (reply ∷ replies) new =
    (state : _) × (IsDone old command reply state × IsRun IsDone state commands replies new)
IsRun IsDone old commands replies new = ⊥
