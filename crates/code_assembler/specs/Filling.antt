-- The bytes of a routine with its data: each byte of data in place of the NOP that stood for it.
use Rattle.std.specs.Prelude.{ℕ, zero, suc, ◌-◌, Bool, true, false, List, [], ◌∷◌, length, take, slice_set, slice_index_or, Option, Some, None}
use Rattle.code_assembler.specs.Routine.{filled_at}

-- the bytes with another at an offset, if there is another
abbrev pub with_byte_at : List ℕ → ℕ → Option ℕ → List ℕ
with_byte_at bytes at None = bytes
with_byte_at bytes at (Some byte) = slice_set bytes at byte

-- how far behind an address item k stands
abbrev pub offset_of : List ℕ → ℕ → ℕ → ℕ
offset_of starts base k = slice_index_or starts k 0 - base

-- the bytes from an address on, with the data among the first n items at its places
abbrev pub with_data : List ℕ → ℕ → List (Option ℕ) → List ℕ → ℕ → List ℕ
with_data starts base filled bytes zero = bytes
with_data starts base filled bytes (suc n) = with_byte_at (with_data starts base filled bytes n) (offset_of starts base n) (filled_at filled n)

-- the bytes without the last one, if it was added for labels at the end, and no slots follow
abbrev pub cut_end : Bool → List ℕ → List ℕ → List ℕ
cut_end true [] bytes = take (length bytes - 1) bytes
cut_end true (slot ∷ slots) bytes = bytes
cut_end false slots bytes = bytes
