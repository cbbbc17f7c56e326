-- The front of bytes with no prefix or a REX alone.
use Rattle.std.proofs.Common.{◌≡◌, ℕ, ◌<◌, ◌≤◌, ◌+◌, ◌/◌, true, false, nat_le, Bool, List, [], ◌∷◌, length, drop, Option, Some, None, IfSome, refl, ap, sym, ◌∙◌, arith, not, ◌&&◌, ◌||◌, ◌==◌, is_some, if◌then◌else◌}
use Rattle.x86_values.specs.declared.Bits.{Bits}
use Rattle.x86_values.specs.declared.Bits.TheVariants.{B16, B32, B64}
use Rattle.instruction_parts.specs.declared.row_types.Map.{Map}
use Rattle.instruction_parts.specs.declared.spelling.PrefixState.{PrefixState}
use Rattle.instruction_parts.specs.Counting.{is_64, is_prefix, is_legacy_prefix, is_segment, is_rex, has_lock, has_66, has_67, counting_repeat, counting_segment, counting_rex}
use Rattle.instruction_parts.specs.Bytes.{state_from, state_of_rex}
use Rattle.instruction_parts.specs.Front.{Known, prefix_run, lead_front, long_front, within_15, front_of}
use Rattle.prefixes.specs.Simple.{IsLeadingRex, is_lone_opcode, is_simple_lead, has_rex, is_simple}
use Rattle.prefixes.proofs.Runs.{rex_is_prefix}

-- no prefix says nothing
no_prefix : (bits : Bits) (used : ℕ) (map : Map) (opcode : ℕ) → state_of_rex None used None map opcode ≡ state_from bits [] used None map opcode
unfolding state_from has_lock has_66 has_67 counting_repeat counting_segment counting_rex
no_prefix B16 used map opcode = refl
no_prefix B32 used map opcode = refl
no_prefix B64 used map opcode = refl

-- a REX is no other byte than 40 to 4F
other : (b n : ℕ) → is_rex b ≡ true → (n / 16 == 4) ≡ false → (b == n) ≡ false
other b n h e = grind (arith, h, e)

rex_in_64 : (b used : ℕ) (map : Map) (opcode : ℕ) → is_rex b ≡ true → state_of_rex (Some b) used None map opcode ≡ state_from B64 (b ∷ []) used None map opcode
unfolding state_from has_lock has_66 has_67 counting_repeat counting_segment counting_rex is_segment
rex_in_64 b used map opcode h =
    rw (other b 0xF0 h refl, other b 0x66 h refl, other b 0x67 h refl, other b 0xF2 h refl, other b 0xF3 h refl, other b 0x26 h refl, other b 0x2E h refl, other b 0x36 h refl, other b 0x3E h refl, other b 0x64 h refl, other b 0x65 h refl, h) refl

-- a REX alone counts, and says nothing else
rex_alone : (bits : Bits) (b used : ℕ) (map : Map) (opcode : ℕ) → is_64 bits ≡ true → is_rex b ≡ true → state_of_rex (Some b) used None map opcode ≡ state_from bits (b ∷ []) used None map opcode
rex_alone B64 b used map opcode m h = rex_in_64 b used map opcode h
rex_alone B16 b used map opcode m h = cc
rex_alone B32 b used map opcode m h = cc

-- a front of few bytes is within 15
known_within : (given : ℕ) (f : PrefixState) → f.used < 15 → within_15 given (Known f) ≡ Known f
unfolding within_15
known_within given f h = (let e : nat_le 15 f.used ≡ false = grind (arith) in rw e refl)

-- what stands behind any prefixes
abbrev pub Leads : Bits → List ℕ → ℕ → Map → ℕ → Type 0
Leads bits rest escapes map opcode =
    (prefixes : List ℕ) → lead_front bits prefixes rest ≡ Known (state_from bits prefixes (length prefixes + escapes) None map opcode)

-- 0F is no prefix
pub no_prefix_0f : (bits : Bits) → is_prefix bits 0x0F ≡ false
unfolding is_prefix is_legacy_prefix is_segment
no_prefix_0f B16 = refl
no_prefix_0f B32 = refl
no_prefix_0f B64 = refl

-- the run of bytes whose first is no prefix
pub no_run : (bits : Bits) (b : ℕ) (bytes rest : List ℕ) → bytes ≡ b ∷ rest → is_prefix bits b ≡ false → prefix_run bits bytes ≡ []
unfolding prefix_run
no_run bits b bytes rest e h = rw (e, h) refl

behind_none : (bits : Bits) (bytes : List ℕ) (escapes : ℕ) (map : Map) (opcode : ℕ) → prefix_run bits bytes ≡ [] → Leads bits bytes escapes map opcode → escapes < 2
    → front_of bits bytes ≡ Known (state_of_rex None (0 + escapes) None map opcode)
unfolding front_of long_front
behind_none bits bytes escapes map opcode run leads few =
    rw run (ap (within_15 (length bytes)) (leads [] ∙ ap Known (sym (no_prefix bits (0 + escapes) map opcode)))
    ∙ known_within (length bytes) (state_of_rex None (0 + escapes) None map opcode) (omega (arith, few)))

run_behind_rex : (bits : Bits) (bytes rest : List ℕ) (rex : ℕ) → bytes ≡ rex ∷ rest → is_prefix bits rex ≡ true → prefix_run bits rest ≡ [] → prefix_run bits bytes ≡ rex ∷ []
unfolding prefix_run
run_behind_rex bits bytes rest rex e h run = rw (e, h, run) refl

behind_rex : (bits : Bits) (bytes : List ℕ) (rex escapes : ℕ) (map : Map) (opcode : ℕ) → IsLeadingRex bits bytes rex → prefix_run bits (drop 1 bytes) ≡ []
    → Leads bits (drop 1 bytes) escapes map opcode → escapes < 2 → front_of bits bytes ≡ Known (state_of_rex (Some rex) (1 + escapes) None map opcode)
unfolding front_of long_front
behind_rex bits bytes rex escapes map opcode leading run leads few =
    let whole = run_behind_rex bits bytes (drop 1 bytes) rex leading.first (rex_is_prefix bits rex leading.mode leading.is) run in
    rw whole (ap (within_15 (length bytes)) (leads (rex ∷ [])
    ∙ ap Known (sym (rex_alone bits rex (1 + escapes) map opcode leading.mode leading.is)))
    ∙ known_within (length bytes) (state_of_rex (Some rex) (1 + escapes) None map opcode) (omega (arith, few)))

-- bytes with a first one
pub first_of : (bytes rest : List ℕ) (b : ℕ) → bytes ≡ b ∷ rest → bytes ≡ b ∷ drop 1 bytes
first_of bytes rest b e = rw e refl

-- a fact that holds anyway
pub in_any_case : {T P : Type 0} (o : Option T) → P → IfSome o (λ x. P)
in_any_case None p = tt
in_any_case (Some x) p = p

lone : (a p q : Bool) → (not a && (not p && not q)) ≡ true → p ≡ false
lone _ false _ h = refl
lone true true _ h = cc
lone false true _ h = cc

-- an opcode byte by itself is no prefix
pub lone_is_no_prefix : (bits : Bits) (b : ℕ) → is_lone_opcode bits b ≡ true → is_prefix bits b ≡ false
lone_is_no_prefix bits b h = lone (b == 0xC4 || b == 0xC5) (is_prefix bits b) (is_64 bits && b == 0x62) h

-- the bytes have the REX that they begin with
pub rex_within : (bits : Bits) (bytes : List ℕ) (rex : Option ℕ) (run : ℕ) → IfSome rex (IsLeadingRex bits bytes) → run ≡ (if is_some rex then 1 else 0) → run ≤ length bytes
rex_within bits bytes None run leading n = rw n (omega arith)
rex_within bits bytes (Some rex) run leading n = rw n (rw leading.first (omega arith))

-- what is asked behind the first byte if it is a REX, and of it if not
pub simple_when : (bits : Bits) (bytes rest : List ℕ) (rex : Option ℕ) (run : ℕ) (found : Bool) → is_some rex ≡ has_rex bits bytes
    → run ≡ (if is_some rex then 1 else 0) → rest ≡ drop run bytes → found ≡ is_simple_lead bits rest → found ≡ is_simple bits bytes
simple_when bits bytes rest None run found has n is when = rw (sym has) (rw (is, n) at when)
simple_when bits bytes rest (Some rex) run found has n is when = rw (sym has) (rw (is, n) at when)

-- **the front behind no prefix or a REX alone**
pub simple_known : (bits : Bits) (bytes rest : List ℕ) (rex : Option ℕ) (run escapes : ℕ) (map : Map) (opcode : ℕ) → IfSome rex (IsLeadingRex bits bytes)
    → run ≡ (if is_some rex then 1 else 0) → rest ≡ drop run bytes → prefix_run bits rest ≡ [] → Leads bits rest escapes map opcode → escapes < 2
    → front_of bits bytes ≡ Known (state_of_rex rex (run + escapes) None map opcode)
simple_known bits bytes rest None run escapes map opcode leading n is none leads few =
    rw n (behind_none bits bytes escapes map opcode (rw (is, n) at none) (rw (is, n) at leads) few)
simple_known bits bytes rest (Some rex) run escapes map opcode leading n is none leads few =
    rw n (behind_rex bits bytes rex escapes map opcode leading (rw (is, n) at none) (rw (is, n) at leads) few)
