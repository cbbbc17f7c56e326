-- What is told of the offsets that control reaches: the flow of each instruction, or why none is read.
use Rattle.std.specs.Prelude.{◌≡◌, ℕ, ◌<◌, List, length, drop, slice_index, slice_index_or, Result, Ok, Err}
use Rattle.row_relation.specs.Spells.{Reading, Read, TooShort, Invalid}
use Rattle.decoder.specs.declared.DecodeError.{DecodeError}
use Rattle.decoder.specs.declared.DecodeError.TheVariants.{Invalid as InvalidError, TooShort as TooShortError}
use Rattle.operand_info.specs.declared.columns.Flow.{Flow}
use Rattle.operand_info.specs.declared.columns.Flow.TheVariants.{Next}
use Rattle.operand_info.specs.ByCode.{flow_of}
use Rattle.unlisted.specs.declared.Shape.{Shape}
use Rattle.unlisted.specs.declared.MeasureError.{MeasureError}
use Rattle.unlisted.specs.Measured.{IsMeasured}
use Rattle.flow_graph.specs.declared.exits.Follow.{Follow}
use Rattle.flow_graph.specs.declared.exits.Follow.TheVariants.{Listed, Unlisted}
use Rattle.flow_graph.specs.Control.{CodeBytes, IsReadIn, shape_flow}

-- the flow of the instruction that is read, or why none is
unfoldable pub told_of : Reading → Result Flow DecodeError
told_of (Read d) = Ok (flow_of d.instr.code.0)
told_of TooShort = Err TooShortError
told_of Invalid = Err InvalidError

-- the flow of the instruction without a row that is measured, or what is told if none is
abbrev pub told_measured : Result Flow DecodeError → Result Shape MeasureError → Result Flow DecodeError
told_measured unread (Ok shape) = Ok (shape_flow shape.relative)
told_measured unread (Err why) = unread

-- it is told of an offset at which the table reads nothing what is measured there
pub record TellsMeasured (code : CodeBytes) (p : ℕ) (unread told : Result Flow DecodeError) : Type 0 where
  pub answer : Result Shape MeasureError
  pub measured : IsMeasured code.bits (drop p code.bytes) answer
  pub is : told ≡ told_measured unread answer

-- what is told where instructions without a row are followed: of what is read, its flow; else what is measured
abbrev pub IsToldUnlisted : CodeBytes → ℕ → Reading → Result Flow DecodeError → Type 0
IsToldUnlisted code p (Read d) told = told ≡ told_of (Read d)
IsToldUnlisted code p TooShort told = TellsMeasured code p (told_of TooShort) told
IsToldUnlisted code p Invalid told = TellsMeasured code p (told_of Invalid) told

-- what is told of what is read, by which instructions are followed
abbrev pub IsTold : Follow → CodeBytes → ℕ → Reading → Result Flow DecodeError → Type 0
IsTold Listed code p reading told = told ≡ told_of reading
IsTold Unlisted code p reading told = IsToldUnlisted code p reading told

-- it is told of an offset what is read there
pub record Tells (code : CodeBytes) (p : ℕ) (told : Result Flow DecodeError) : Type 0 where
  pub reading : Reading
  pub reads : IsReadIn code p reading
  pub is : IsTold code.follow code p reading told

-- stands for an entry that is not there
abbrev pub next_by_default : Result Flow DecodeError
next_by_default = Ok Next

-- what a list that has an entry for each byte tells of an offset
abbrev pub told_at : List (Result Flow DecodeError) → ℕ → Result Flow DecodeError
told_at told p = slice_index_or told p next_by_default

-- the list tells of the first n offsets of an order what is read there
pub record AreTold (code : CodeBytes) (order : List ℕ) (n : ℕ) (told : List (Result Flow DecodeError)) : Type 0 where
  pub len : length told ≡ length code.bytes
  pub each : (k : ℕ) → k < n → Tells code (slice_index order k) (told_at told (slice_index order k))

-- the list tells of each marked offset what is read there
pub record MarkedAreTold (code : CodeBytes) (marks : List ℕ) (told : List (Result Flow DecodeError)) : Type 0 where
  pub len : length told ≡ length code.bytes
  pub each : (q : ℕ) → 0 < slice_index marks q → Tells code q (told_at told q)

-- the flows beside some offsets are those that the list tells of them
pub record AreFlowsOf (told : List (Result Flow DecodeError)) (starts : List ℕ) (flows : List (Result Flow DecodeError)) : Type 0 where
  pub len : length flows ≡ length starts
  pub each : (k : ℕ) → k < length starts → told_at flows k ≡ told_at told (slice_index starts k)
