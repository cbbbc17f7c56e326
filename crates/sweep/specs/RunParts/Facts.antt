-- What holds of texts that are written in pieces, and of sources that are read to their end.
use Rattle.std.specs.Prelude.{◌≡◌, ℕ, ◌<◌, List, [], ◌++◌, length, Option, Some, Result}
use Rattle.byte_ports.specs.declared.failed.Failed.{Failed}
use Rattle.byte_ports.specs.Ports.{with_front, with_back}
use Rattle.sweep.specs.RunParts.Reads.{ReadsAll, ReadsTooMany}
use Rattle.sweep.specs.RunParts.Writing.{HoldsFront, Moves, HeldText, Puts, PutsToFault}

-- a text that is written with some of it held back
pub record HeldFacts : Type 0 where
  -- nothing yet
  pub held-start : (start : Option (List ℕ)) (pending : List ℕ) → pending ≡ [] → HeldText start start pending []
  -- one more line
  pub held-step : (start held held' : Option (List ℕ)) (before after text line : List ℕ) → HeldText start held before text →
      Moves held held' before after line → HeldText start held' after (text ++ line)
  -- what was held back is written: the whole text
  pub held-end : (start held held' : Option (List ℕ)) (pending text : List ℕ) → HeldText start held pending text →
      held' ≡ with_back held pending → held' ≡ with_back start text
  -- a failure while text is held back
  pub held-failed : (start held held' : Option (List ℕ)) (pending text : List ℕ) → HeldText start held pending text →
      HoldsFront held held' pending → HoldsFront start held' text
  -- the first bytes of a text are the first of a longer one
  pub front-longer : (old new : Option (List ℕ)) (text rest : List ℕ) → HoldsFront old new text → HoldsFront old new (text ++ rest)

-- pieces one behind another
pub record TextPieceFacts : Type 0 where
  pub with_back-nil : (held : Option (List ℕ)) → with_back held [] ≡ held
  pub with_back-append : (held : Option (List ℕ)) (a b : List ℕ) → with_back (with_back held a) b ≡ with_back held (a ++ b)
  pub with_front-append : (left : Option (List ℕ)) (a b : List ℕ) → with_front a (with_front b left) ≡ with_front (a ++ b) left

-- the bytes of a source that tells them
pub record ReadFacts : Type 0 where
  -- those that were read to their end are all
  pub all_bytes : (limit : ℕ) (bytes : List ℕ) (left' : Option (List ℕ)) (read : List ℕ) → ReadsAll limit (Some bytes) left' read → bytes ≡ read
  -- where one more than the limit was read, they are above it
  pub too_many : (limit : ℕ) (bytes : List ℕ) (left' : Option (List ℕ)) (read : List ℕ) → ReadsTooMany limit (Some bytes) left' read →
      limit < length bytes

-- calls of a sink
pub record PutFacts {K : Type 0} (gives : K → List ℕ → Result ℕ Failed → K → Type 0) : Type 0 where
  -- none failed, before and behind a sink
  pub join : (old now new : K) → Puts gives old now → Puts gives now new → Puts gives old new
  -- none failed before it, and behind it the last alone
  pub join-fault : (old now new : K) → Puts gives old now → PutsToFault gives now new → PutsToFault gives old new
