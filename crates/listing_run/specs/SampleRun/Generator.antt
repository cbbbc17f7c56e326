-- Made code: what a linear congruential generator draws, instruction by instruction.
use Rattle.std.specs.Prelude.{ℕ, zero, suc, ◌+◌, ◌*◌, ◌/◌, ◌%◌, ◌^◌, ◌==◌, if◌then◌else◌, List, [], ◌∷◌, ◌++◌}
use Rattle.plain_spelling.specs.Values.{low_bytes}

-- the state behind another one
unfoldable pub next_state : ℕ → ℕ
next_state x = (x * 6364136223846793005 + 1442695040888963407) % 2 ^ 64

-- the number that a state draws: its upper 31 bits
unfoldable pub drawn_number : ℕ → ℕ
drawn_number x = x / 2 ^ 33

-- an instruction of a kind, from the number r that was drawn and from what q is above its low three bits; numbers in four bytes have the lowest first
unfoldable pub kind_bytes : ℕ → ℕ → ℕ → List ℕ
kind_bytes kind r q =
    if kind == 0 then 0x90 ∷ []
    else (if kind == 1 then 0x48 ∷ 0x89 ∷ (0xC0 + q % 64) ∷ []
    else (if kind == 2 then ((0xB8 + q % 8) ∷ []) ++ low_bytes 4 r
    else (if kind == 3 then 0x8B ∷ 0x43 ∷ (q % 256) ∷ []
    else (if kind == 4 then 0x75 ∷ (q % 256) ∷ []
    else (if kind == 5 then (0xE8 ∷ []) ++ low_bytes 4 (q % 65536)
    else (if kind == 6 then (0x48 ∷ 0x8B ∷ 0x05 ∷ []) ++ low_bytes 4 (q % 65536)
    else 0xC5 ∷ 0xF8 ∷ 0x58 ∷ (0xC0 + q % 64) ∷ []))))))

-- the instruction that a number draws: its low three bits tell the kind
unfoldable pub instr_bytes : ℕ → List ℕ
instr_bytes r = kind_bytes (r % 8) r (r / 8)

-- the bytes of so many instructions, drawn by the states behind one
unfoldable pub code_from : ℕ → ℕ → List ℕ
code_from x zero = []
code_from x (suc n) = instr_bytes (drawn_number (next_state x)) ++ code_from (next_state x) n

-- the bytes of n instructions, drawn by the states behind n
unfoldable pub sample_code : ℕ → List ℕ
sample_code n = code_from n n

-- the address of the first byte
abbrev pub sample_base : ℕ
sample_base = 0x400000
