-- The instructions of some code, of the table and without a row, one behind another; and where it has none.
use Rattle.std.specs.Prelude.{◌≡◌, ℕ, ◌+◌, ◌<◌, ◌≤◌, ◌==◌, Bool, true, ◌||◌, List, [], ◌∷◌, length, take, drop, map, slice_index_or, Option, Some, None, Result, Ok, Err}
use Rattle.x86_values.specs.declared.Bits.{Bits}
use Rattle.x86_values.specs.Wrapping.{modulo_width}
use Rattle.instruction_parts.specs.Counting.{is_16}
use Rattle.opcode_rows.specs.Allowed.{is_well_formed}
use Rattle.opcode_rows.specs.Reading.{IsRead}
use Rattle.decoder.specs.declared.DecodeError.{DecodeError}
use Rattle.decoder.specs.Answer.{reading_of}
use Rattle.unlisted.specs.declared.Relative.{Relative}
use Rattle.unlisted.specs.declared.Shape.{Shape}
use Rattle.unlisted.specs.Measured.{IsMeasuredAs, StandsInside, reference_size}
use Rattle.move_goals.specs.Items.{IsPlaced, no_item}
use Rattle.code_items.specs.declared.any_items.UnlistedItem.{UnlistedItem}
use Rattle.code_items.specs.declared.any_items.AnyItem.{AnyItem}
use Rattle.code_items.specs.declared.any_items.AnyItem.TheVariants.{Listed, Unlisted}
use Rattle.code_items.specs.declared.reading.ReadError.{ReadError}
use Rattle.code_items.specs.declared.reading.ReadError.TheVariants.{BadCode, Memory}
use Rattle.code_items.specs.Items.{StandsFirst, wrapped_item}

-- ---- one instruction

-- its address
abbrev pub item_ip : AnyItem → ℕ
item_ip (Listed p) = p.ip
item_ip (Unlisted u) = u.ip

-- its length
abbrev pub item_len : AnyItem → ℕ
item_len (Listed p) = p.len
item_len (Unlisted u) = u.shape.len

-- instruction k
abbrev pub any_at : List AnyItem → ℕ → AnyItem
any_at items k = slice_index_or items k (Listed no_item)

-- an instruction without a row can be moved if it has no relative number, or one of four bytes, or one that refers to an address of 16 bits (XBEGIN)
abbrev pub is_movable : Bits → Option Relative → Bool
is_movable bits None = true
is_movable bits (Some r) = r.len == 4 || is_16 (reference_size bits r.to)

-- an instruction without a row stands at an address, where these bytes begin: it is what is measured there, with its own bytes
pub record UnlistedFirst (bits : Bits) (ip : ℕ) (bytes : List ℕ) (u : UnlistedItem) : Type 0 where
  pub address : u.ip ≡ ip
  pub measured : IsMeasuredAs bits bytes u.shape
  pub some : 1 ≤ u.shape.len
  pub few : u.shape.len ≤ 15
  pub within : u.shape.len ≤ length bytes
  pub inside : StandsInside u.shape.len u.shape.relative
  pub movable : is_movable bits u.shape.relative ≡ true
  pub own : u.bytes.items ≡ take u.shape.len bytes

-- an instruction stands there: of the table it is what is read
abbrev pub AnyFirst : Bits → ℕ → List ℕ → AnyItem → Type 0
AnyFirst bits ip bytes (Listed p) = StandsFirst bits ip bytes p
AnyFirst bits ip bytes (Unlisted u) = UnlistedFirst bits ip bytes u

-- no instruction without a row that can be moved is measured at the front of some bytes
abbrev pub HasNoUnlisted : Bits → List ℕ → Type 0
HasNoUnlisted bits bytes = (shape : Shape) → IsMeasuredAs bits bytes shape → is_movable bits shape.relative ≡ true → ⊥

-- the answer whether one is
abbrev pub IsUnlistedAnswer : Bits → ℕ → List ℕ → Option UnlistedItem → Type 0
IsUnlistedAnswer bits ip bytes None = HasNoUnlisted bits bytes
IsUnlistedAnswer bits ip bytes (Some u) = UnlistedFirst bits ip bytes u

-- no instruction stands there: of the table none is read, for this cause, and none without a row is measured
pub record HasNone (bits : Bits) (ip : ℕ) (bytes : List ℕ) (e : DecodeError) : Type 0 where
  pub unread : IsRead bits ip bytes (reading_of (Err e))
  pub unlisted : HasNoUnlisted bits bytes

-- an instruction of the table has the form of its row
abbrev pub is_any_formed : AnyItem → Bool
is_any_formed (Listed p) = is_well_formed p.instr
is_any_formed (Unlisted u) = true

-- the answer which instruction stands there
abbrev pub IsAnyAnswer : Bits → ℕ → List ℕ → Result AnyItem DecodeError → Type 0
IsAnyAnswer bits ip bytes (Ok item) = AnyFirst bits ip bytes item
IsAnyAnswer bits ip bytes (Err e) = HasNone bits ip bytes e

-- ---- those of some code

-- These stand one behind another from an address on, where these bytes stand, and an address and bytes are left behind them. The addresses are whole
-- numbers that do not wrap.
abbrev pub AnyUpTo : Bits → ℕ → List ℕ → List AnyItem → ℕ → List ℕ → Type 0
AnyUpTo bits ip bytes [] ip' rest = (ip' ≡ ip) × (rest ≡ bytes)
AnyUpTo bits ip bytes (x ∷ xs) ip' rest = AnyFirst bits ip bytes x × AnyUpTo bits (ip + item_len x) (drop (item_len x) bytes) xs ip' rest

-- they are all instructions of the code, which ends at an address
pub record AreAnyItemsOf (bits : Bits) (ip : ℕ) (bytes : List ℕ) (items : List AnyItem) : Type 0 where
  pub end : ℕ
  pub reads : AnyUpTo bits ip bytes items end []

-- the code has instructions up to an offset, and none begins there
pub record StopsAtAny (bits : Bits) (ip : ℕ) (bytes : List ℕ) (at : ℕ) (e : DecodeError) : Type 0 where
  pub items : List AnyItem
  pub rest : List ℕ
  pub before : AnyUpTo bits ip bytes items (ip + at) rest
  pub some : 0 < length rest
  pub none : HasNone bits (ip + at) rest e

-- an instruction with its address in the mode
abbrev pub wrapped_any : Bits → AnyItem → AnyItem
wrapped_any bits (Listed p) = Listed (wrapped_item bits p)
wrapped_any bits (Unlisted u) = Unlisted (record u { ip = modulo_width bits u.ip })

-- the list has all instructions of the code, with their addresses in the mode
pub record HasAnyItems (bits : Bits) (ip : ℕ) (bytes : List ℕ) (list : List AnyItem) : Type 0 where
  pub items : List AnyItem
  pub are : AreAnyItemsOf bits ip bytes items
  pub items_are : list ≡ map (wrapped_any bits) items

-- why the instructions of some code are not read
abbrev pub IsAnyReadRefusal : Bits → ℕ → List ℕ → ReadError → Type 0
IsAnyReadRefusal bits ip bytes (BadCode at e) = StopsAtAny bits ip bytes at e
IsAnyReadRefusal bits ip bytes Memory = Unit {0}

-- ---- what the writing knows of them

-- an instruction of the table has a spelling at its address; one without a row has its own bytes, at most 15
abbrev pub IsAnySound : Bits → AnyItem → Type 0
IsAnySound bits (Listed p) = IsPlaced bits p
IsAnySound bits (Unlisted u) =
    (1 ≤ u.shape.len) × (u.shape.len ≤ 15) × (length u.bytes.items ≡ u.shape.len) × StandsInside u.shape.len u.shape.relative

-- each is sound
pub record AreAnySound (bits : Bits) (items : List AnyItem) : Type 0 where
  pub each : (k : ℕ) → k < length items → IsAnySound bits (any_at items k)

-- their addresses ascend
pub record AnyAscend (items : List AnyItem) : Type 0 where
  pub each : (i j : ℕ) → i < j → j < length items → item_ip (any_at items i) < item_ip (any_at items j)
