-- The rows of a cell as candidates, each a code with the masks that are not yet known to be met.
use Rattle.std.specs.Prelude.{ℕ, zero, suc, Bool, true, false, ◌&&◌, List, [], ◌∷◌, ◌==◌, pred, nat_lt}
use Rattle.instruction_parts.specs.declared.row_types.Row.{Row}
use Rattle.x86_values.specs.declared.Bits.{Bits}
use Rattle.instruction_parts.specs.Sizes.{exists_in}
use Rattle.instruction_parts.specs.RowFields.Holds.{keep_if, is_vex, opcode_holds, map_number}
use Rattle.instruction_parts.specs.RowFields.Masks.{Mask, free, allows, meets, masks}

-- a row with its code
pub record Coded : Type 0 where
  pub code : ℕ
  pub row : Row

-- what is left of a row: its code, and the masks that are not yet known to be met
pub record Cand : Type 0 where
  pub code : ℕ
  pub masks : List Mask

-- rows whose codes follow one another from the first
unfoldable pub rows_with_codes : ℕ → List Row → List Coded
rows_with_codes first [] = []
rows_with_codes first (r ∷ rs) = record { code = first; row = r } ∷ rows_with_codes (suc first) rs

-- the rows of a kind and map
unfoldable pub of_number : ℕ → List Coded → List Coded
of_number number [] = []
of_number number (c ∷ cs) = keep_if (map_number (is_vex c.row.kind) c.row.map == number) c (of_number number cs)

-- those whose opcode byte it may be
unfoldable pub at_opcode : ℕ → List Coded → List Coded
at_opcode op [] = []
at_opcode op (c ∷ cs) = keep_if (opcode_holds c.row.plus c.row.opcode op) c (at_opcode op cs)

-- those that exist in the mode
unfoldable pub cands : Bits → ℕ → List Coded → List Cand
cands bits op [] = []
cands bits op (c ∷ cs) = keep_if (exists_in bits c.row) (record { code = c.code; masks = masks bits op c.row }) (cands bits op cs)

-- the codes of the candidates whose masks the values meet
unfoldable pub alive : List Cand → List ℕ → List ℕ
unfolding meets
alive [] vs = []
alive (c ∷ cs) vs = keep_if (meets c.masks vs) c.code (alive cs vs)

-- the mask of a field; past the end any value is allowed
unfoldable pub mask_at : List Mask → ℕ → Mask
mask_at [] k = free
mask_at (m ∷ ms) zero = m
mask_at (m ∷ ms) (suc k) = mask_at ms k

-- the value of a field, 0 past the end
unfoldable pub value_at : List ℕ → ℕ → ℕ
value_at [] k = 0
value_at (v ∷ vs) zero = v
value_at (v ∷ vs) (suc k) = value_at vs k

-- masks of which one is known to be met
unfoldable pub clear : List Mask → ℕ → List Mask
clear [] k = []
clear (m ∷ ms) zero = free ∷ ms
clear (m ∷ ms) (suc k) = m ∷ clear ms k

-- the candidates that allow a value, which is then known
unfoldable pub keep : ℕ → ℕ → List Cand → List Cand
unfolding mask_at clear allows
keep k v [] = []
keep k v (c ∷ cs) = keep_if (allows (mask_at c.masks k) v) (record { code = c.code; masks = clear c.masks k }) (keep k v cs)

-- no candidate is left
unfoldable pub is_empty : List Cand → Bool
is_empty [] = true
is_empty (c ∷ cs) = false

-- the mask allows every value
unfoldable pub is_free : Mask → Bool
is_free free = true
is_free _ = false

-- nothing is asked any more
unfoldable pub all_free : List Mask → Bool
unfolding is_free
all_free [] = true
all_free (m ∷ ms) = is_free m && all_free ms

-- one candidate is left, with this code, and nothing more is asked
unfoldable pub is_one : ℕ → List Cand → Bool
unfolding all_free
is_one code [] = false
is_one code (c ∷ []) = (c.code == code) && all_free c.masks
is_one code (c ∷ d ∷ cs) = false

-- a test of each number below another
unfoldable pub below : ℕ → (ℕ → Bool) → Bool
below zero p = true
below (suc n) p = p n && below n p

-- the codes are these, one after the other
unfoldable pub is_run : ℕ → ℕ → List Coded → Bool
is_run first count [] = count == 0
is_run first count (c ∷ cs) = (nat_lt 0 count && (c.code == first)) && is_run (suc first) (pred count) cs
