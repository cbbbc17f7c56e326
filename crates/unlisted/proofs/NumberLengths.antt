-- How many bytes the number of an instruction has.
use Rattle.std.proofs.Common.{◌≡◌, ◌⊎◌, inl, inr, ℕ, ◌+◌, ◌≤◌, ◌==◌, ◌&&◌, Bool, true, false, nat_le, if◌then◌else◌, List, [], ◌∷◌, length, take, drop, Option, Some, None, Result, Ok, Err, refl, ap, sym, ◌∙◌, subst, arith}
use Rattle.std.proofs.lemmas.Bool.{leb-true, eqb-true}
use Rattle.std.proofs.lemmas.List.{length-take-le}
use Rattle.x86_values.specs.declared.Bits.{Bits}
use Rattle.x86_values.specs.declared.Bits.TheVariants.{B16, B32, B64}
use Rattle.instruction_parts.specs.declared.spelling.ModRm.{ModRm}
use Rattle.instruction_parts.specs.declared.spelling.Sib.{Sib}
use Rattle.instruction_parts.specs.Counting.{is_64, is_16, has_66, has_67, bit_of, rex_bit, counting_rex}
use Rattle.instruction_parts.specs.Sizes.{address_size}
use Rattle.instruction_parts.specs.Front.{prefix_run, forbids_vex}
use Rattle.row_fit.specs.Fits.{displacement_bytes, is_displacement_alone, needs_sib}
use Rattle.row_meaning.specs.Meaning.{sign_extended}
use Rattle.modrm_sib.specs.Parts.{modrm_of_byte, sib_of_byte}
use Rattle.unlisted.specs.declared.Kind.{Kind}
use Rattle.unlisted.specs.declared.Reference.{Reference}
use Rattle.unlisted.specs.declared.Reference.TheVariants.{Rip, Eip, Branch}
use Rattle.unlisted.specs.declared.Relative.{Relative}
use Rattle.unlisted.specs.declared.Shape.{Shape}
use Rattle.unlisted.specs.declared.MeasureError.{MeasureError}
use Rattle.unlisted.specs.declared.ShapeFlow.{ShapeFlow}
use Rattle.unlisted.specs.declared.formats.Tail.{Tail}
use Rattle.unlisted.specs.declared.formats.TailFlow.{TailFlow}
use Rattle.unlisted.specs.declared.formats.TailFlow.TheVariants.{Always, ShortBranch, NearBranch, System}
use Rattle.unlisted.specs.declared.formats.Lead.{Lead}
use Rattle.unlisted.specs.declared.formats.Lead.TheVariants as leads
use Rattle.unlisted.specs.Formats.{word_bytes, allows, has_modrm, lead_of, map_of, stands, tail_flow, distance_bytes}
use Rattle.unlisted.specs.Encodings.{Rest, Nothing, Byte, End, memory_reference, end_step, address_step, operand_step, modrm_step, bare_step, tail_step, opcode_step, vector_step, evex_step, map_step, payload_step, escape_step, led_step, plain_step, lead_step, front_step, relative_of, ended, found, found_behind, found_in, format_of}
use Rattle.unlisted.specs.Moved.{NumbersHaveTheirLengths}
use Rattle.unlisted.proofs.Growing.{format-facts}

-- ---- the number that an encoding may have

-- a number of 4 bytes, or of 2 or 1 in a branch
abbrev Sized : Option Reference → ℕ → Type 0
Sized None d = Unit {0}
Sized (Some to) d = (d ≡ 4) ⊎ (((d ≡ 2) ⊎ (d ≡ 1)) × (to ≡ Branch))

-- each end of what is to come has one
unfoldable Numbers : Rest → Type 0
Numbers Nothing = Unit {0}
Numbers (Byte step) = (b : ℕ) → Numbers (step b)
Numbers (End kind flow reference d i) = Sized reference d

and-true : (a b : Bool) → a && b ≡ true → (a ≡ true) × (b ≡ true)
and-true true b h = (refl, h)
and-true false b h = cc

-- a displacement at RIP or EIP has 4 bytes
alone-4 : (asize : Bits) (mode3 reg rm : ℕ) (sib : Option Sib) → mode3 ≡ 0 → rm ≡ 5 → (asize ≡ B32) ⊎ (asize ≡ B64) →
    displacement_bytes asize (record { mode3 = mode3; reg = reg; rm = rm }) sib ≡ 4
unfolding displacement_bytes is_displacement_alone
alone-4 asize mode3 reg rm sib m r (inl e) = rw (m, r, e) refl
alone-4 asize mode3 reg rm sib m r (inr e) = rw (m, r, e) refl

memory-sized : (bits : Bits) (wide : Bool) (m : ModRm) (sib : Option Sib) →
    Sized (memory_reference bits (address_size bits wide) m) (displacement_bytes (address_size bits wide) m sib)
unfolding memory_reference address_size
memory-sized B16 wide m sib = tt
memory-sized B32 wide m sib = tt
memory-sized B64 wide m sib = by_test (m.mode3 == 0 && m.rm == 5) refl
  where
    size-of : (wide : Bool) → (address_size B64 wide ≡ B32) ⊎ (address_size B64 wide ≡ B64)
    size-of true = inl refl
    size-of false = inr refl

    by_test : (test : Bool) → (m.mode3 == 0 && m.rm == 5) ≡ test →
        Sized (if test then Some (if is_64 (address_size B64 wide) then Rip else Eip) else None) (displacement_bytes (address_size B64 wide) m sib)
    by_test false e = tt
    by_test true e =
        let both = and-true (m.mode3 == 0) (m.rm == 5) e in
        inl (alone-4 (address_size B64 wide) m.mode3 m.reg m.rm sib (eqb-true m.mode3 0 both.0) (eqb-true m.rm 5 both.1) (size-of wide))

if-numbers : (test : Bool) (a b : Rest) → Numbers a → Numbers b → Numbers (if test then a else b)
if-numbers true a b h k = h
if-numbers false a b h k = k

address-numbers : (bits : Bits) (wide : Bool) (t : Tail) (flow : ShapeFlow) (m : ModRm) → Numbers (address_step bits (address_size bits wide) t flow m)
unfolding address_step end_step Numbers
address-numbers bits wide t flow m =
    if-numbers (needs_sib (address_size bits wide) m) _ _ (λ b. memory-sized bits wide m (Some (sib_of_byte b))) (memory-sized bits wide m None)

word-sized : (bits : Bits) (prefixes : List ℕ) → Sized (Some Branch) (word_bytes bits prefixes)
unfolding word_bytes
word-sized bits prefixes =
    if-sized (rex_bit 3 (counting_rex bits prefixes)) _ _ four
    (if-sized (has_66 prefixes) _ _ (if-sized (is_16 bits) _ _ four two) (if-sized (is_16 bits) _ _ two four))
  where
    if-sized : (test : Bool) (a b : ℕ) → Sized (Some Branch) a → Sized (Some Branch) b → Sized (Some Branch) (if test then a else b)
    if-sized true a b h k = h
    if-sized false a b h k = k

    four : Sized (Some Branch) 4
    four = inl refl

    two : Sized (Some Branch) 2
    two = inr (inl refl, refl)

the-number : (m n : ℕ) → Some m ≡ Some n → m ≡ n
the-number m n e = cc

no-number : (n : ℕ) → None ≡ Some n → ⊥
no-number n e = cc

-- the distance of a branch
distance-sized : (bits : Bits) (prefixes : List ℕ) (flow : TailFlow) (n : ℕ) → distance_bytes bits prefixes flow ≡ Some n → Sized (Some Branch) n
unfolding distance_bytes
distance-sized bits prefixes (Always flow) n e = absurd (no-number n e)
distance-sized bits prefixes System n e = absurd (no-number n e)
distance-sized bits prefixes ShortBranch n e = inr (inr (sym (the-number 1 n e)), refl)
distance-sized bits prefixes NearBranch n e = subst (Sized (Some Branch)) (the-number (word_bytes bits prefixes) n e) (word-sized bits prefixes)

operand-numbers : (bits : Bits) (prefixes : List ℕ) (t : Tail) (b : ℕ) (o : Option ℕ) → distance_bytes bits prefixes t.flow ≡ o →
    Numbers (operand_step o bits prefixes t b)
unfolding Numbers
operand-numbers bits prefixes t b (Some n) e = distance-sized bits prefixes t.flow n e
operand-numbers bits prefixes t b None e = address-numbers bits (has_67 prefixes) t (tail_flow prefixes t.flow b) (modrm_of_byte b)

modrm-numbers : (bits : Bits) (prefixes : List ℕ) (t : Tail) (b : ℕ) → Numbers (modrm_step bits prefixes t b)
unfolding modrm_step Numbers
modrm-numbers bits prefixes t b =
    if-numbers (allows t.modrm b) _ _ (operand-numbers bits prefixes t b (distance_bytes bits prefixes t.flow) refl) tt

bare-numbers : (bits : Bits) (prefixes : List ℕ) (t : Tail) (o : Option ℕ) → distance_bytes bits prefixes t.flow ≡ o → Numbers (bare_step o prefixes t)
unfolding Numbers
bare-numbers bits prefixes t (Some n) e = distance-sized bits prefixes t.flow n e
bare-numbers bits prefixes t None e = tt

tail-numbers : (bits : Bits) (prefixes : List ℕ) (t : Tail) → Numbers (tail_step bits prefixes t)
unfolding tail_step Numbers
tail-numbers bits prefixes t =
    if-numbers (has_modrm t.modrm) _ _ (modrm-numbers bits prefixes t) (bare-numbers bits prefixes t (distance_bytes bits prefixes t.flow) refl)

opcode-numbers : (bits : Bits) (prefixes : List ℕ) (t : Option Tail) → Numbers (opcode_step bits prefixes t)
unfolding opcode_step Numbers
opcode-numbers bits prefixes None = tt
opcode-numbers bits prefixes (Some t) = tail-numbers bits prefixes t

vector-numbers : (bits : Bits) (prefixes : List ℕ) (lead : Lead) (map : ℕ) → Numbers (vector_step bits prefixes lead map)
unfolding vector_step Numbers
vector-numbers bits prefixes lead map = λ opcode. opcode-numbers bits prefixes _

evex-numbers : (bits : Bits) (prefixes : List ℕ) (map b : ℕ) → Numbers (evex_step bits prefixes map b)
unfolding evex_step Numbers
evex-numbers bits prefixes map b = if-numbers (bit_of 2 b) _ _ (λ _. vector-numbers bits prefixes leads.Evex map) tt

map-numbers : (bits : Bits) (prefixes : List ℕ) (lead : Lead) (map : ℕ) → Numbers (map_step bits prefixes lead map)
unfolding map_step Numbers
map-numbers bits prefixes leads.Evex map = evex-numbers bits prefixes map
map-numbers bits prefixes leads.Vex2 map = vector-numbers bits prefixes leads.Vex2 map
map-numbers bits prefixes leads.Vex3 map = λ _. vector-numbers bits prefixes leads.Vex3 map
map-numbers bits prefixes leads.Xop map = λ _. vector-numbers bits prefixes leads.Xop map

payload-numbers : (bits : Bits) (prefixes : List ℕ) (lead : Lead) (b : ℕ) → Numbers (payload_step bits prefixes lead b)
unfolding payload_step Numbers
payload-numbers bits prefixes lead b = if-numbers (stands bits lead b) _ _ (map-numbers bits prefixes lead (map_of lead b)) tt

escape-numbers : (bits : Bits) (prefixes : List ℕ) (b : ℕ) → Numbers (escape_step bits prefixes b)
unfolding escape_step Numbers
escape-numbers bits prefixes b =
    if-numbers (b == 0x38) _ _ (λ _. tail-numbers bits prefixes _)
    (if-numbers (b == 0x3A) _ _ (λ _. tail-numbers bits prefixes _) (opcode-numbers bits prefixes _))

lead-numbers : (bits : Bits) (prefixes : List ℕ) (lead : Option Lead) (b : ℕ) → Numbers (lead_step bits prefixes lead b)
unfolding lead_step led_step plain_step Numbers
lead-numbers bits prefixes None b = if-numbers (b == 0x0F) _ _ (escape-numbers bits prefixes) (opcode-numbers bits prefixes _)
lead-numbers bits prefixes (Some lead) b = if-numbers (forbids_vex bits prefixes) _ _ tt (payload-numbers bits prefixes lead)

front-numbers : (bits : Bits) (prefixes : List ℕ) → Numbers (front_step bits prefixes)
unfolding front_step Numbers
front-numbers bits prefixes = λ b. lead-numbers bits prefixes (lead_of b) b

-- ---- what is found

abbrev HasNumber : Result Shape MeasureError → Type 0
HasNumber (Ok s) = (r : Relative) → s.relative ≡ Some r → Sized (Some r.to) r.len
HasNumber (Err e) = Unit {0}

ended-number : (kind : Kind) (flow : ShapeFlow) (reference : Option Reference) (d i used : ℕ) (bytes : List ℕ) (test : Bool) → nat_le (d + i) (length bytes) ≡ test →
    Sized reference d → HasNumber (ended kind flow reference d i used bytes)
unfolding ended relative_of
ended-number kind flow None d i used bytes true h sized = rw h (λ r e. absurd (none r e))
  where
    none : (r : Relative) → None ≡ Some r → ⊥
    none r e = cc
ended-number kind flow (Some to) d i used bytes true h sized = rw h (λ r e. by_number r (some _ r e))
  where
    some : (q r : Relative) → Some q ≡ Some r → q ≡ r
    some q r e = cc

    has : length (take d bytes) ≡ d
    has = length-take-le d bytes (omega (arith, leb-true (d + i) (length bytes) h))

    by_number : (r : Relative) → record { to = to; at = used; len = length (take d bytes); distance = sign_extended 64 (take d bytes) } ≡ r → Sized (Some r.to) r.len
    by_number r e = subst (λ (q : Relative). Sized (Some q.to) q.len) e (subst (λ (n : ℕ). Sized (Some to) n) (sym has) sized)
ended-number kind flow reference d i used bytes false h sized = rw h tt

found-number : (rest : Rest) (used : ℕ) (bytes : List ℕ) → Numbers rest → HasNumber (found rest used bytes)
unfolding found Numbers
found-number Nothing used bytes h = tt
found-number (End kind flow reference d i) used bytes h = ended-number kind flow reference d i used bytes (nat_le (d + i) (length bytes)) refl h
found-number (Byte step) used [] h = tt
found-number (Byte step) used (b ∷ bytes) h = found-number (step b) (used + 1) bytes (h b)

in-number : (bits : Bits) (bytes : List ℕ) → HasNumber (found_in bits bytes)
unfolding found_in found_behind
in-number bits bytes = found-number (front_step bits (prefix_run bits bytes)) _ _ (front-numbers bits (prefix_run bits bytes))

-- **a number has 4 bytes, or 2 or 1 in a branch**
pub lengths : NumbersHaveTheirLengths
lengths bits bytes s r measured e =
    let facts = format-facts bits bytes s measured.format in (subst HasNumber facts.found_whole (in-number bits (take 15 bytes))) r e
