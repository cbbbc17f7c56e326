-- What reading a source gives, in one step and to its end.
use Rattle.std.specs.Prelude.{◌≡◌, ℕ, ◌+◌, ◌≤◌, List, [], ◌++◌, length, Option, IfSome, Result, Err}
use Rattle.byte_ports.specs.declared.failed.Failed.{Failed}
use Rattle.byte_ports.specs.Ports.{with_front}
use Rattle.sweep.specs.declared.run_parts.status.Status.{Status}
use Rattle.sweep.specs.declared.run_parts.status.Status.TheVariants.{ReadFault, Memory, TooLarge}

-- how many bytes a command that takes its input as a whole reads at most
unfoldable pub whole_limit : ℕ
whole_limit = 1048576

-- how many bytes a command that goes through code reads at most
unfoldable pub code_limit : ℕ
code_limit = 16777216

-- no byte is left, where the bytes are told
abbrev pub IsAtEnd : Option (List ℕ) → Type 0
IsAtEnd left = IfSome left (λ bytes. bytes ≡ [])

-- these bytes were read, within the limit, and they are all
pub record ReadsAll (limit : ℕ) (left left' : Option (List ℕ)) (bytes : List ℕ) : Type 0 where
  pub read : left ≡ with_front bytes left'
  pub ended : IsAtEnd left'
  pub within : length bytes ≤ limit

-- one byte more was read than the limit
pub record ReadsTooMany (limit : ℕ) (left left' : Option (List ℕ)) (bytes : List ℕ) : Type 0 where
  pub read : left ≡ with_front bytes left'
  pub over : length bytes ≡ limit + 1

-- a status that tells why a source was not read whole
abbrev pub IsUnread : Option (List ℕ) → Option (List ℕ) → Type 0 → Status → Type 0
IsUnread left left' rose ReadFault = rose
IsUnread left left' rose Memory = Unit {0}
IsUnread left left' rose (TooLarge limit) = (limit ≡ whole_limit) × ((bytes : List ℕ) × ReadsTooMany whole_limit left left' bytes)
IsUnread left left' rose _ = ⊥

-- a piece of this length was read and stands behind what was there; an empty one says that no byte is left
pub record ReadsPiece (left left' : Option (List ℕ)) (before after : List ℕ) (count : ℕ) : Type 0 where
  pub piece : List ℕ
  pub read : left ≡ with_front piece left'
  pub appended : after ≡ before ++ piece
  pub count_is : length piece ≡ count
  pub ended : count ≡ 0 → IsAtEnd left'

-- what was taken of a source, whatever came of it: at most one byte more than the limit
pub record Takes (limit : ℕ) (left left' : Option (List ℕ)) : Type 0 where
  pub bytes : List ℕ
  pub read : left ≡ with_front bytes left'
  pub within : length bytes ≤ limit + 1

-- The last call of the source was a pull that failed: the source is as that call left it, and the bytes that were left before it are left still.
pub record EndsAtFault {S : Type 0} (gives : S → List ℕ → Result ℕ Failed → S → List ℕ → Type 0) (left : S → Option (List ℕ)) (source : S) : Type 0 where
  pub before : S
  pub buffer : List ℕ
  pub filled : List ℕ
  pub why : Failed
  pub gave : gives before buffer (Err why) source filled
  pub kept : left source ≡ left before
