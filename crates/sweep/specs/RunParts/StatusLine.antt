-- The number of a status, and its line on standard error.
use Rattle.std.specs.Prelude.{ℕ, List, [], ◌++◌, codes, decimal}
use Rattle.decoder.specs.declared.DecodeError.{DecodeError}
use Rattle.decoder.specs.declared.DecodeError.TheVariants.{Invalid, TooShort}
use Rattle.sweep.specs.RunParts.Hexadecimal.{hex_number}
use Rattle.sweep.specs.declared.run_parts.status.Status.{Status}
use Rattle.sweep.specs.declared.run_parts.status.Status.TheVariants.{Done, Usage, BadCode, ReadFault, WriteFault, Memory, TooLarge, Wraps, TooFar, RegionFull, TooMany, BadText}

-- the exit number of a status
abbrev pub status_number : Status → ℕ
status_number Done = 0
status_number (Usage _) = 1
status_number (BadCode _ _) = 2
status_number ReadFault = 3
status_number WriteFault = 4
status_number Memory = 5
status_number (TooLarge _) = 6
status_number (Wraps _) = 7
status_number (TooFar _ _) = 8
status_number (RegionFull _ _) = 9
status_number (TooMany _) = 10
status_number (BadText _) = 11

-- the end of the line of an offset at which no instruction is read
unfoldable pub bad_code_end : DecodeError → List ℕ
bad_code_end Invalid = codes ": invalid\n"
bad_code_end TooShort = codes ": too short\n"

-- the line of a status; Done has none
unfoldable pub status_line : Status → List ℕ
status_line Done = []
status_line (Usage word) = codes "usage: word " ++ decimal word ++ codes "\n"
status_line (BadCode offset error) = codes "bad code at " ++ decimal offset ++ bad_code_end error
status_line ReadFault = codes "read fault\n"
status_line WriteFault = codes "write fault\n"
status_line Memory = codes "out of memory\n"
status_line (TooLarge limit) = codes "input over " ++ decimal limit ++ codes " bytes\n"
status_line (Wraps end) = codes "end 0x" ++ hex_number end ++ codes " passes the address space\n"
status_line (TooFar at target) = codes "instruction " ++ decimal at ++ codes " cannot reach 0x" ++ hex_number target ++ codes "\n"
status_line (RegionFull len largest) = codes "region full: need " ++ decimal len ++ codes ", largest " ++ decimal largest ++ codes "\n"
status_line (TooMany count) = decimal count ++ codes " instructions are too many\n"
status_line (BadText line) = codes "bad text in line " ++ decimal line ++ codes "\n"
