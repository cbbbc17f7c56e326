-- The bytes that are written to a block.
use Rattle.std.specs.Prelude.{ℕ, List, replicate}
use Rattle.code_region.specs.declared.contents.Content.{Content}
use Rattle.code_region.specs.declared.contents.Content.TheVariants.{Bytes, Repeated}

-- the bytes that a content stands for
abbrev pub content_bytes : Content → List ℕ
content_bytes (Bytes bytes) = bytes.now
content_bytes (Repeated byte count) = replicate count byte
