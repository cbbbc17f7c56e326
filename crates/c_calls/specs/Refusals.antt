-- The numbers by which a refusal is told to a C caller.
use Rattle.std.specs.Prelude.{ℕ, ◌+◌, ℤ, pos, neg_ℤ}
use Rattle.plain_spelling.specs.declared.NoSpelling.{NoSpelling}
use Rattle.plain_spelling.specs.declared.NoSpelling.TheVariants as cause
use Rattle.c_calls.specs.declared.refusal.Refusal.{Refusal}
use Rattle.c_calls.specs.declared.refusal.Refusal.TheVariants.{Mode, Syntax, Code, Instr, Form, Room, Invalid, TooShort, Name, Memory, TooLarge, TooMany, Wraps, TooFar, Text, Register, Jump, Start, Small, Ends, Entered, Block, Region, Empty, Full, NotLive, Unseen, Overlaps, Calls, Padding, Options, NameLine, Labels, Size, Data, Unknown, Twice, Unplaced, Unfit, Alignment, Unsettled, Label, Spelling}

-- 256 times the number of a condition, 1 to 10
abbrev pub condition_number : NoSpelling → ℕ
condition_number cause.Row = 256
condition_number (cause.OperandKind n) = 512
condition_number (cause.Register n) = 768
condition_number cause.Memory = 1024
condition_number cause.Displacement = 1280
condition_number (cause.Immediate n) = 1536
condition_number cause.Target = 1792
condition_number cause.Prefix = 2048
condition_number cause.AddressSize = 2304
condition_number cause.Length = 2560

-- the number of a refusal, 15 of which is a header's for C; of an encoding that fails with the operand that fails the condition
abbrev pub refusal_number : Refusal → ℕ
refusal_number Mode = 1
refusal_number Syntax = 2
refusal_number Code = 3
refusal_number Instr = 4
refusal_number Form = 5
refusal_number Room = 6
refusal_number Invalid = 7
refusal_number TooShort = 8
refusal_number Name = 9
refusal_number Memory = 10
refusal_number TooLarge = 11
refusal_number TooMany = 12
refusal_number Wraps = 13
refusal_number TooFar = 14
refusal_number Text = 16
refusal_number Register = 17
refusal_number Jump = 18
refusal_number Start = 19
refusal_number Small = 20
refusal_number Ends = 21
refusal_number Entered = 22
refusal_number Block = 23
refusal_number Region = 24
refusal_number Empty = 25
refusal_number Full = 26
refusal_number NotLive = 27
refusal_number Unseen = 28
refusal_number Overlaps = 29
refusal_number Calls = 30
refusal_number Padding = 31
refusal_number Options = 32
refusal_number NameLine = 33
refusal_number Labels = 34
refusal_number Size = 35
refusal_number Data = 36
refusal_number Unknown = 37
refusal_number Twice = 38
refusal_number Unplaced = 39
refusal_number Unfit = 40
refusal_number Alignment = 41
refusal_number Unsettled = 42
refusal_number Label = 43
refusal_number (Spelling why operand) = condition_number why + operand

-- a refusal is told by its number below zero
abbrev pub refusal_status : Refusal → ℤ
refusal_status why = neg_ℤ (pos (refusal_number why))
