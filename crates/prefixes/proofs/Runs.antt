-- Runs of prefixes, within 15 bytes and beyond.
use Rattle.std.proofs.Common.{◌≡◌, ℕ, zero, suc, ◌≤◌, min, Bool, true, false, ◌&&◌, ◌||◌, ◌==◌, nat_le, List, [], ◌∷◌, length, take, Option, Some, None, refl, ap, arith, if◌then◌else◌}
use Rattle.std.specs.List.{take_while, prefix_len}
use Rattle.std.proofs.lemmas.List.{length-take}
use Rattle.x86_values.specs.declared.Bits.{Bits}
use Rattle.x86_values.specs.declared.Bits.TheVariants.{B16, B32, B64}
use Rattle.instruction_parts.specs.declared.row_types.Map.{Map}
use Rattle.instruction_parts.specs.declared.row_types.Map.TheVariants.{One, M0f, M0f38, M0f3a}
use Rattle.instruction_parts.specs.declared.spelling.Vex.{Vex}
use Rattle.instruction_parts.specs.Counting.{is_legacy_prefix, is_rex, is_prefix, is_64}
use Rattle.instruction_parts.specs.Bytes.{state_from}
use Rattle.instruction_parts.specs.Front.{Front, Open, Forbidden, Known, prefix_run, forbids_vex, top_two_set, short_vex, long_vex, opcode_front, short_vex_front, third_byte_front, long_vex_front, vex_front, vex_or_opcode_front, escape_front, is_vex_lead, lead_front, long_front, within_15, front_of}
use Rattle.prefixes.specs.Answer.{answer_of, answer_within_15}

-- one more byte of a run within n bytes
run_within-step : (bits : Bits) (n : ℕ) (b : ℕ) (bytes : List ℕ) (test : Bool) → is_prefix bits b ≡ test → prefix_len (is_prefix bits) (take n bytes) ≡ min n (length (prefix_run bits bytes)) → prefix_len (is_prefix bits) (take (suc n) (b ∷ bytes)) ≡ min (suc n) (length (prefix_run bits (b ∷ bytes)))
unfolding prefix_run
run_within-step bits n b bytes true h rest = rw h (omega (arith, rest))
run_within-step bits n b bytes false h rest = rw h (omega arith)

-- the run within n bytes is as long as the whole one, or n
pub run_within : (bits : Bits) (n : ℕ) (bytes : List ℕ) → prefix_len (is_prefix bits) (take n bytes) ≡ min n (length (prefix_run bits bytes))
unfolding prefix_run
run_within bits zero bytes = omega arith
run_within bits (suc n) [] = omega arith
run_within bits (suc n) (b ∷ bytes) = run_within-step bits n b bytes (is_prefix bits b) refl (run_within bits n bytes)

prefix_len-step : (p : ℕ → Bool) (x : ℕ) (xs : List ℕ) (test : Bool) → p x ≡ test → prefix_len p xs ≤ length xs → prefix_len p (x ∷ xs) ≤ length (x ∷ xs)
prefix_len-step p x xs true h rest = rw h (omega (arith, rest))
prefix_len-step p x xs false h rest = rw h (omega arith)

prefix_len-le : (p : ℕ → Bool) (xs : List ℕ) → prefix_len p xs ≤ length xs
prefix_len-le p [] = omega arith
prefix_len-le p (x ∷ xs) = prefix_len-step p x xs (p x) refl (prefix_len-le p xs)

-- the bytes that pass at the front, by their number
pub length-take_while : (p : ℕ → Bool) (xs : List ℕ) → length (take_while p xs) ≡ prefix_len p xs
length-take_while p xs = let le = prefix_len-le p xs in omega (arith, le, length-take (prefix_len p xs) xs)

take-run-step : (bits : Bits) (b : ℕ) (bytes : List ℕ) (test : Bool) → is_prefix bits b ≡ test → take (length (prefix_run bits bytes)) bytes ≡ prefix_run bits bytes → take (length (prefix_run bits (b ∷ bytes))) (b ∷ bytes) ≡ prefix_run bits (b ∷ bytes)
unfolding prefix_run
take-run-step bits b bytes true h rest = rw h (ap (λ xs. b ∷ xs) rest)
take-run-step bits b bytes false h rest = rw h

-- the run is the bytes as far as it goes
pub take-run : (bits : Bits) (bytes : List ℕ) → take (length (prefix_run bits bytes)) bytes ≡ prefix_run bits bytes
unfolding prefix_run
take-run bits [] = refl
take-run bits (b ∷ bytes) = take-run-step bits b bytes (is_prefix bits b) refl (take-run bits bytes)

run_length-step : (bits : Bits) (b : ℕ) (bytes : List ℕ) (test : Bool) → is_prefix bits b ≡ test → length (prefix_run bits bytes) ≤ length bytes → length (prefix_run bits (b ∷ bytes)) ≤ length (b ∷ bytes)
unfolding prefix_run
run_length-step bits b bytes true h rest = rw h (omega arith)
run_length-step bits b bytes false h rest = rw h (omega arith)

-- the run is no longer than the bytes
pub run_length : (bits : Bits) (bytes : List ℕ) → length (prefix_run bits bytes) ≤ length bytes
unfolding prefix_run
run_length bits [] = omega arith
run_length bits (b ∷ bytes) = run_length-step bits b bytes (is_prefix bits b) refl (run_length bits bytes)

-- where the front is known, n bytes or more stand before the opcode byte
abbrev pub IsLate : ℕ → Front → Type 0
IsLate n Open = Unit {0}
IsLate n Forbidden = Unit {0}
IsLate n (Known state) = n ≤ state.used

late-if : (n : ℕ) (test : Bool) (f g : Front) → IsLate n f → IsLate n g → IsLate n (if test then f else g)
late-if n true f g hf hg = hf
late-if n false f g hf hg = hg

opcode_front-late : (bits : Bits) (ps : List ℕ) (lead : ℕ) (vex : Option Vex) (map : Map) (bytes : List ℕ) → IsLate (length ps) (opcode_front bits ps lead vex map bytes)
unfolding opcode_front state_from
opcode_front-late bits ps lead vex map [] = tt
opcode_front-late bits ps lead vex map (o ∷ bytes) = omega arith

short_vex_front-late : (bits : Bits) (ps bytes : List ℕ) → IsLate (length ps) (short_vex_front bits ps bytes)
unfolding short_vex_front
short_vex_front-late bits ps [] = tt
short_vex_front-late bits ps (b ∷ bytes) = opcode_front-late bits ps 2 (Some (short_vex b)) M0f bytes

third_byte_front-late : (bits : Bits) (ps : List ℕ) (b : ℕ) (map : Option Map) (bytes : List ℕ) → IsLate (length ps) (third_byte_front bits ps b map bytes)
unfolding third_byte_front
third_byte_front-late bits ps b None bytes = tt
third_byte_front-late bits ps b (Some map) [] = tt
third_byte_front-late bits ps b (Some map) (c ∷ bytes) = opcode_front-late bits ps 3 (Some (long_vex map b c)) map bytes

long_vex_front-late : (bits : Bits) (ps bytes : List ℕ) → IsLate (length ps) (long_vex_front bits ps bytes)
unfolding long_vex_front
long_vex_front-late bits ps [] = tt
long_vex_front-late bits ps (b ∷ bytes) = third_byte_front-late bits ps b _ bytes

vex_front-late : (bits : Bits) (ps : List ℕ) (lead : ℕ) (bytes : List ℕ) → IsLate (length ps) (vex_front bits ps lead bytes)
unfolding vex_front
vex_front-late bits ps lead bytes =
    late-if (length ps) (forbids_vex bits ps) Forbidden _ tt (late-if (length ps) (lead == 0xC5) _ _ (short_vex_front-late bits ps bytes) (long_vex_front-late bits ps bytes))

vex_or_opcode_front-late : (bits : Bits) (ps : List ℕ) (lead : ℕ) (bytes : List ℕ) → IsLate (length ps) (vex_or_opcode_front bits ps lead bytes)
unfolding vex_or_opcode_front
vex_or_opcode_front-late B64 ps lead bytes = vex_front-late B64 ps lead bytes
vex_or_opcode_front-late B16 ps lead [] = tt
vex_or_opcode_front-late B32 ps lead [] = tt
vex_or_opcode_front-late B16 ps lead (b ∷ bytes) =
    late-if (length ps) (top_two_set b) _ _ (vex_front-late B16 ps lead (b ∷ bytes)) (opcode_front-late B16 ps 0 None One (lead ∷ (b ∷ bytes)))
vex_or_opcode_front-late B32 ps lead (b ∷ bytes) =
    late-if (length ps) (top_two_set b) _ _ (vex_front-late B32 ps lead (b ∷ bytes)) (opcode_front-late B32 ps 0 None One (lead ∷ (b ∷ bytes)))

escape_front-late : (bits : Bits) (ps bytes : List ℕ) → IsLate (length ps) (escape_front bits ps bytes)
unfolding escape_front
escape_front-late bits ps [] = tt
escape_front-late bits ps (b ∷ bytes) =
    late-if (length ps) (b == 0x38) _ _ (opcode_front-late bits ps 2 None M0f38 bytes)
    (late-if (length ps) (b == 0x3A) _ _ (opcode_front-late bits ps 2 None M0f3a bytes)
    (late-if (length ps) (b == 0x0F) Forbidden _ tt (opcode_front-late bits ps 1 None M0f (b ∷ bytes))))

-- the front of bytes ends behind its prefixes
pub lead_front-late : (bits : Bits) (ps bytes : List ℕ) → IsLate (length ps) (lead_front bits ps bytes)
unfolding lead_front
lead_front-late bits ps [] = tt
lead_front-late bits ps (b ∷ bytes) =
    late-if (length ps) (is_vex_lead b) _ _ (vex_or_opcode_front-late bits ps b bytes)
    (late-if (length ps) (b == 0x0F) _ _ (escape_front-late bits ps bytes)
    (late-if (length ps) (is_64 bits && b == 0x62) Forbidden _ tt (opcode_front-late bits ps 0 None One (b ∷ bytes))))

leb-from : (a b : ℕ) → a ≤ b → nat_le a b ≡ true
leb-from a b h = grind (arith, h)

late_is_forbidden : (given : ℕ) (f : Front) → 15 ≤ given → IsLate 15 f → within_15 given f ≡ Forbidden
unfolding within_15
late_is_forbidden given Open h late = let e : nat_le 15 given ≡ true = leb-from 15 given h in rw e
late_is_forbidden given Forbidden h late = refl
late_is_forbidden given (Known state) h late = let e : nat_le 15 state.used ≡ true = leb-from 15 state.used late in rw e

weaken : (n m : ℕ) (f : Front) → n ≤ m → IsLate m f → IsLate n f
weaken n m Open h late = tt
weaken n m Forbidden h late = tt
weaken n m (Known state) h late = omega arith

-- behind 15 prefixes or more nothing is known
pub long_run_is_forbidden : (bits : Bits) (bytes : List ℕ) → 15 ≤ length (prefix_run bits bytes) → front_of bits bytes ≡ Forbidden
unfolding front_of long_front
long_run_is_forbidden bits bytes h =
    late_is_forbidden (length bytes) _ (let n = run_length bits bytes in omega arith)
    (weaken 15 (length (prefix_run bits bytes)) _ h (lead_front-late bits (prefix_run bits bytes) _))

answer-if : (test : Bool) (f g : Front) → answer_of (if test then f else g) ≡ (if test then answer_of f else answer_of g)
answer-if true f g = refl
answer-if false f g = refl

-- the bound of 15 on a front is that on its answer
pub answer_of-within_15 : (given : ℕ) (f : Front) → answer_of (within_15 given f) ≡ answer_within_15 given (answer_of f)
unfolding within_15
answer_of-within_15 given Open = answer-if (nat_le 15 given) Forbidden Open
answer_of-within_15 given Forbidden = refl
answer_of-within_15 given (Known state) = answer-if (nat_le 15 state.used) Forbidden (Known state)

-- ---- runs of no prefix and of a REX alone

or_true : (a : Bool) → (a || true) ≡ true
or_true true = refl
or_true false = refl

-- a REX is a prefix in 64-bit mode
pub rex_is_prefix : (bits : Bits) (b : ℕ) → is_64 bits ≡ true → is_rex b ≡ true → is_prefix bits b ≡ true
unfolding is_prefix
rex_is_prefix bits b h k = rw (h, k) (or_true (is_legacy_prefix b))

-- the run of bytes whose first is no prefix
pub run_of_none : (bits : Bits) (b : ℕ) (bytes rest : List ℕ) → bytes ≡ b ∷ rest → is_prefix bits b ≡ false → 0 ≡ length (prefix_run bits bytes)
unfolding prefix_run
run_of_none bits b bytes rest e h = rw (e, h) refl

-- the run of bytes of which the first is a REX, and the second no prefix
pub run_of_rex : (bits : Bits) (a b : ℕ) (bytes rest more : List ℕ) → bytes ≡ a ∷ rest → rest ≡ b ∷ more → is_64 bits ≡ true → is_rex a ≡ true
    → is_prefix bits b ≡ false → 1 ≡ length (prefix_run bits bytes)
unfolding prefix_run
run_of_rex bits a b bytes rest more e f h k n = rw (e, rex_is_prefix bits a h k, f, n) refl
