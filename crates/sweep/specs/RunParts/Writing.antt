-- What stands in a sink after text was written to it, whole or up to a failure.
use Rattle.std.specs.Prelude.{◌≡◌, ◌⊎◌, ℕ, ◌≤◌, List, ◌++◌, length, take, Option, Result, Ok, Err}
use Rattle.byte_ports.specs.declared.failed.Failed.{Failed}
use Rattle.byte_ports.specs.Ports.{with_back}

-- a sink holds what it held and then the first bytes of a text
abbrev pub HoldsFront : Option (List ℕ) → Option (List ℕ) → List ℕ → Type 0
HoldsFront old new text = (count : ℕ) × (new ≡ with_back old (take count text))

-- The text that is held back, and a line behind it, were written in part: those bytes went to the sink, and the others
-- are held back.
pub record Moves (old new : Option (List ℕ)) (before after line : List ℕ) : Type 0 where
  pub written : List ℕ
  pub held_is : new ≡ with_back old written
  pub joined : written ++ after ≡ before ++ line

-- a sink holds what it held and then a text: the whole of it, or the first bytes where the sink failed
pub record Says (old new : Option (List ℕ)) (text : List ℕ) (failed : Type 0) : Type 0 where
  pub count : ℕ
  pub held_is : new ≡ with_back old (take count text)
  pub whole : (length text ≤ count) ⊎ failed

-- how far a text has come that is written with some of it held back: its front went to the sink, and the rest of what has come is held back
pub record HeldText (start held : Option (List ℕ)) (pending text : List ℕ) : Type 0 where
  pub written : List ℕ
  pub held_is : held ≡ with_back start written
  pub joined : written ++ pending ≡ text

-- calls of a sink one behind another, none of which failed
pub data Puts {K : Type 0} (gives : K → List ℕ → Result ℕ Failed → K → Type 0) (old : K) : K → Type 0 where
  no_put : Puts gives old old
  then_put : {now new : K} {piece : List ℕ} {count : ℕ} → Puts gives old now → gives now piece (Ok count) new → Puts gives old new

-- such calls and then one that failed, which is the last: the sink is as that call left it
pub record PutsToFault {K : Type 0} (gives : K → List ℕ → Result ℕ Failed → K → Type 0) (old new : K) : Type 0 where
  pub before : K
  pub piece : List ℕ
  pub why : Failed
  pub puts : Puts gives old before
  pub failed : gives before piece (Err why) new
