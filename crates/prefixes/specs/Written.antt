-- The bytes of a plain front (Intel SDM volume 2, 2.1 and 2.3.5).
use Rattle.std.specs.Prelude.{ℕ, List, ◌++◌}
use Rattle.instruction_parts.specs.declared.row_types.Row.{Row}
use Rattle.instruction_parts.specs.declared.spelling.PrefixState.{PrefixState}
use Rattle.instruction_parts.specs.Bytes.{lead_bytes}
use Rattle.plain_spelling.specs.PlainTail.{prefixes_of}

-- the bytes before the opcode byte: the prefixes, then the VEX or the escape bytes of the row's map (2.1, 2.3.1)
unfoldable pub front_written : Row → PrefixState → List ℕ
front_written row f = prefixes_of f ++ lead_bytes row.map f.vex

-- a front with another opcode byte
abbrev pub with_opcode : PrefixState → ℕ → PrefixState
with_opcode f opcode = record f { opcode = opcode }
