-- What `read_prefixes` answers, by the front of the bytes.
use Rattle.std.specs.Prelude.{ℕ, nat_le, if◌then◌else◌, Result, Ok, Err}
pub use Rattle.x86_values.specs.Modes.{is_mode}
unfoldable pub use Rattle.x86_values.specs.Modes.{mode_of}
use Rattle.instruction_parts.specs.declared.spelling.PrefixState.{PrefixState}
use Rattle.instruction_parts.specs.Front.{Front, Open, Forbidden, Known}
use Rattle.prefixes.specs.declared.PrefixError.{PrefixError}
use Rattle.prefixes.specs.declared.PrefixError.TheVariants.{Ended, Forbidden as ForbiddenError}

-- an open front is Ended, a forbidden one Forbidden, and a known one its state
abbrev pub answer_of : Front → Result PrefixState PrefixError
answer_of Open = Err Ended
answer_of Forbidden = Err ForbiddenError
answer_of (Known state) = Ok state

-- an answer is Forbidden once 15 bytes were read without an opcode byte
abbrev pub answer_within_15 : ℕ → Result PrefixState PrefixError → Result PrefixState PrefixError
answer_within_15 given (Ok state) = if nat_le 15 state.used then Err ForbiddenError else Ok state
answer_within_15 given (Err Ended) = if nat_le 15 given then Err ForbiddenError else Err Ended
answer_within_15 given (Err ForbiddenError) = Err ForbiddenError

-- the answer whose front was written where the caller asked
abbrev pub answer_in : Result (Unit {0}) PrefixError → PrefixState → Result PrefixState PrefixError
answer_in (Ok done) out = Ok out
answer_in (Err why) out = Err why
