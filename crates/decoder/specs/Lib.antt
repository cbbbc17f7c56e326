pub mod Answer
pub mod Bare
pub mod Cells
pub mod Cursor
pub mod Items
pub mod OneReading
pub mod ByteOffsets
