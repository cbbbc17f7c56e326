-- How much a caller's room has to hold at most.
use Rattle.std.specs.Prelude.{ℕ, ◌≤◌, List, length, Result, Ok, Err}
use Rattle.c_calls.specs.declared.refusal.Refusal.{Refusal}

-- what is written, where it is not refused, has so many bytes at most; behind a text the byte 0 comes on top
abbrev pub HasAtMost : ℕ → Result (List ℕ) Refusal → Type 0
HasAtMost most (Ok bytes) = length bytes ≤ most
HasAtMost most (Err why) = Unit {0}
