-- An instruction with a plain spelling is made from the words of its text, its row, its address size and its displacement size.
use Rattle.std.proofs.Common.{◌≡◌, ℕ, ◌%◌, ◌^◌, ◌<◌, Bool, true, false, ◌||◌, List, [], ◌∷◌, length, Option, Some, None, refl, ap, sym, ◌∙◌, subst, arith, if◌then◌else◌, slice_index_or}
use Rattle.std.specs.Prelude.{unwrap_or}
use Rattle.std.specs.List.{list_any}
use Rattle.x86_values.specs.declared.Bits.{Bits}
use Rattle.x86_values.specs.declared.Segment.{Segment}
use Rattle.x86_values.specs.declared.DispSize.{DispSize}
use Rattle.x86_values.specs.declared.Mem.{Mem}
use Rattle.x86_values.specs.declared.Operand.{Operand}
use Rattle.x86_values.specs.declared.Operand.TheVariants.{Absent, Reg, Mem as MemOperand, Imm, Near, Far}
use Rattle.x86_values.specs.declared.Rep.{Rep}
use Rattle.x86_values.specs.declared.Code.{Code}
use Rattle.x86_values.specs.declared.Instr.{Instr}
use Rattle.instruction_parts.specs.declared.row_types.Row.{Row}
use Rattle.instruction_parts.specs.Kinds.{method_of, file_of}
use Rattle.row_fit.specs.Fits.{kind_at, immediate_bytes, is_gather}
use Rattle.plain_spelling.specs.Forms.{operand_at, is_variant_of}
use Rattle.plain_spelling.specs.Addresses.{displacement_suits, written_size}
use Rattle.plain_spelling.specs.PlainTail.{plain_size}
use Rattle.plain_spelling.specs.Expressible.{kind_suits, immediate_suits, immediate_suits_how}
use Rattle.plain_spelling.proofs.Asked.{each-at}
use Rattle.row_relation.specs.Given.{Given}
use Rattle.row_relation.proofs.FitPlaces.{reads-at}
use Rattle.row_relation.proofs.FitAddresses.{memory_at}
use Rattle.x86_values.specs.Operands.{is_memory}
use Rattle.text_parts.specs.PrefixWords.{text_address_size}
use Rattle.intel_words.specs.Words.{segment_of, inside_of, operand_of, nth_of, words_of}
use Rattle.intel_reader.specs.Candidate.{is_near_at, address_from, operand_from, segment_or, segment_from, candidate, HasSize}
use Rattle.intel_reader.proofs.AddressBack.{AddressIs, address_back}
use Rattle.intel_reader.proofs.AddressFacts.{address_is}
use Rattle.intel_reader.proofs.OperandFacts.{immediate_not_near, near_is_near, far_below}

-- ---- what the conditions say of an operand

-- an operand of an instruction of a row is of a variant that the row's kind allows
pub variant_at : (bits : Bits) (ip : ℕ) (row : Row) (i : Instr) (n : ℕ) (op : Operand) → Given bits ip row i → n < 4 → operand_at i n ≡ op → is_variant_of row.place (method_of (kind_at row n)) op ≡ true
unfolding kind_suits
variant_at bits ip row i n op g below e =
    subst (λ (x : Operand). is_variant_of row.place (method_of (kind_at row n)) x ≡ true) e (each-at (kind_suits row i) n below g.suits.kinds)

-- an immediate of such an instruction fits its place
pub immediate_at : (bits : Bits) (ip : ℕ) (row : Row) (i : Instr) (n : ℕ) (op : Operand) → Given bits ip row i → n < 4 → operand_at i n ≡ op
    → immediate_suits_how (plain_size bits row) (method_of (kind_at row n)) (immediate_bytes (plain_size bits row) (kind_at row n)) op ≡ true
unfolding immediate_suits
immediate_at bits ip row i n op g below e =
    subst (λ (x : Operand). immediate_suits_how (plain_size bits row) (method_of (kind_at row n)) (immediate_bytes (plain_size bits row) (kind_at row n)) x ≡ true) e
    (each-at (immediate_suits bits row i) n below g.suits.immediates)

-- an address at the address size of its instruction
pub record AddressAt (i : Instr) (m : Mem) : Type 0 where
  pub a : Bits
  pub size : i.asize ≡ Some a
  pub is : AddressIs a m

-- and a memory operand its address size
pub address_at : (bits : Bits) (ip : ℕ) (row : Row) (i : Instr) (n : ℕ) (m : Mem) → Given bits ip row i → n < 4 → operand_at i n ≡ MemOperand m → AddressAt i m
address_at bits ip row i n m g below e =
    let at = memory_at bits ip row i n m g below e in
    let offer = subst (λ (o : Option Bits). displacement_suits (written_size bits o m) (method_of (kind_at row n)) m ≡ true) at.size.is at.offer in
    record {
      a = at.a;
      size = at.size.is;
      is = address_is bits at.a row (method_of (kind_at row n)) (file_of (kind_at row n)) m at.shape at.agrees_with offer
          (λ h. at.size.gather (reads-at is_gather row n g.is_sound below (ap is_gather h)));
    }

-- ---- operands

below_mod : (x : ℕ) → x < 2 ^ 16 → x % 2 ^ 16 ≡ x
below_mod x h = omega arith

below_mod_32 : (x : ℕ) → x < 2 ^ 32 → x % 2 ^ 32 ≡ x
below_mod_32 x h = omega arith

by_operand : (bits : Bits) (ip : ℕ) (row : Row) (i : Instr) (n : ℕ) (size : DispSize) (op : Operand) → Given bits ip row i → n < 4 → HasSize size i → operand_at i n ≡ op
    → operand_from (is_near_at row n) (text_address_size bits i) size (operand_of bits row i n op) ≡ op
unfolding operand_from operand_of
by_operand bits ip row i n size Absent g below sized e = refl
by_operand bits ip row i n size (Reg r) g below sized e = refl
by_operand bits ip row i n size (Imm x) g below sized e =
    rw (immediate_not_near row.place (method_of (kind_at row n)) x (variant_at bits ip row i n (Imm x) g below e)) refl
by_operand bits ip row i n size (Near x) g below sized e =
    rw (near_is_near row.place (method_of (kind_at row n)) x (variant_at bits ip row i n (Near x) g below e)) refl
by_operand bits ip row i n size (Far s o) g below sized e =
    let k = far_below (plain_size bits row) row.place (kind_at row n) (method_of (kind_at row n)) s o refl (variant_at bits ip row i n (Far s o) g below e) (immediate_at bits ip row i n (Far s o) g below e) in
    far_same (s % 2 ^ 16) s (o % 2 ^ 32) o (below_mod s k.selector) (below_mod_32 o k.offset)
  where
    far_same : (s t o p : ℕ) → s ≡ t → o ≡ p → Far s o ≡ Far t p
    far_same s t o p hs ho = cc
by_operand bits ip row i n size (MemOperand m) g below sized e =
    let at = address_at bits ip row i n m g below e in
    let text : text_address_size bits i ≡ at.a = ap (λ (o : Option Bits). unwrap_or o bits) at.size in
    let same : size ≡ m.disp_size = sym (sized n below m e) in
    ap (λ (x : Mem). MemOperand x)
    (ap (λ (a : Bits). address_from a size (inside_of a m)) text ∙ ap (λ (z : DispSize). address_from at.a z (inside_of at.a m)) same ∙ address_back at.a m at.is)

-- an operand that was printed is made again from its words
pub operand_back : (bits : Bits) (ip : ℕ) (row : Row) (i : Instr) (n : ℕ) (size : DispSize) → Given bits ip row i → n < 4 → HasSize size i
    → operand_from (is_near_at row n) (text_address_size bits i) size (nth_of bits row i n) ≡ operand_at i n
operand_back bits ip row i n size g below sized = by_operand bits ip row i n size (operand_at i n) g below sized refl

-- ---- the segment

segment_step : (bits : Bits) (row : Row) (i : Instr) (n : ℕ) (op : Operand) (other : Option Segment)
    → segment_or (operand_of bits row i n op) other ≡ (if is_memory op then i.seg else other)
unfolding segment_or operand_of
segment_step bits row i n Absent other = refl
segment_step bits row i n (Reg r) other = refl
segment_step bits row i n (Imm x) other = refl
segment_step bits row i n (Near x) other = refl
segment_step bits row i n (Far s o) other = refl
segment_step bits row i n (MemOperand m) other = refl

four_tests : (a b c d : Bool) (seg : Option Segment)
    → (if a then seg else (if b then seg else (if c then seg else (if d then seg else (if (a || (b || (c || (d || false)))) then None else seg))))) ≡ seg
four_tests true b c d seg = refl
four_tests false true c d seg = refl
four_tests false false true d seg = refl
four_tests false false false true seg = refl
four_tests false false false false seg = refl

any_four : (ops : List Operand) → length ops ≡ 4
    → list_any is_memory ops ≡ (is_memory (slice_index_or ops 0 Absent) || (is_memory (slice_index_or ops 1 Absent) || (is_memory (slice_index_or ops 2 Absent) || (is_memory (slice_index_or ops 3 Absent) || false))))
any_four [] h = absurd (omega arith)
any_four (a ∷ []) h = absurd (omega arith)
any_four (a ∷ b ∷ []) h = absurd (omega arith)
any_four (a ∷ b ∷ c ∷ []) h = absurd (omega arith)
any_four (a ∷ b ∷ c ∷ d ∷ []) h = refl
any_four (a ∷ b ∷ c ∷ d ∷ e ∷ more) h = absurd (omega arith)

segment_back : (bits : Bits) (row : Row) (name : List ℕ) (i : Instr) → length i.ops ≡ 4 → segment_from (words_of bits row name i) ≡ i.seg
unfolding segment_from words_of segment_of
segment_back bits row name i four =
    let test : ℕ → Bool = λ n. is_memory (operand_at i n) in
    let last : Option Segment = if list_any is_memory i.ops then None else i.seg in
    segment_step bits row i 0 (operand_at i 0) _
    ∙ ap (λ (s : Option Segment). if test 0 then i.seg else s) (segment_step bits row i 1 (operand_at i 1) _
    ∙ ap (λ (s : Option Segment). if test 1 then i.seg else s) (segment_step bits row i 2 (operand_at i 2) _
    ∙ ap (λ (s : Option Segment). if test 2 then i.seg else s) (segment_step bits row i 3 (operand_at i 3) last
    ∙ ap (λ (b : Bool). if test 3 then i.seg else (if b then None else i.seg)) (any_four i.ops four))))
    ∙ four_tests (test 0) (test 1) (test 2) (test 3) i.seg

-- ---- the instruction

four_ops : (ops : List Operand) → length ops ≡ 4 → (slice_index_or ops 0 Absent ∷ slice_index_or ops 1 Absent ∷ slice_index_or ops 2 Absent ∷ slice_index_or ops 3 Absent ∷ []) ≡ ops
four_ops [] h = absurd (omega arith)
four_ops (a ∷ []) h = absurd (omega arith)
four_ops (a ∷ b ∷ []) h = absurd (omega arith)
four_ops (a ∷ b ∷ c ∷ []) h = absurd (omega arith)
four_ops (a ∷ b ∷ c ∷ d ∷ []) h = refl
four_ops (a ∷ b ∷ c ∷ d ∷ e ∷ more) h = absurd (omega arith)

list_four : (a a' b b' c c' d d' : Operand) → a ≡ a' → b ≡ b' → c ≡ c' → d ≡ d' → (a ∷ b ∷ c ∷ d ∷ []) ≡ (a' ∷ b' ∷ c' ∷ d' ∷ [])
list_four a a' b b' c c' d d' ea eb ec ed = cc

abbrev made : Code → Bool → Rep → Option Segment → Option Bits → List Operand → Instr
made code lock rep seg asize ops = record { code = code; lock = lock; rep = rep; seg = seg; asize = asize; ops = ops }

same_made : (code : Code) (lock : Bool) (rep : Rep) (asize : Option Bits) (seg seg' : Option Segment) (ops ops' : List Operand) → seg ≡ seg' → ops ≡ ops' → made code lock rep seg asize ops ≡ made code lock rep seg' asize ops'
same_made code lock rep asize seg seg' ops ops' es eo = cc

-- **an instruction is made from the words of its text, its row, its address size and its displacement size**
pub candidate_back : (bits : Bits) (ip : ℕ) (row : Row) (name : List ℕ) (i : Instr) (size : DispSize) → Given bits ip row i → HasSize size i
    → candidate bits row i.code (words_of bits row name i) i.asize size ≡ i
unfolding candidate words_of
candidate_back bits ip row name i size g sized =
    same_made i.code i.lock i.rep i.asize _ i.seg _ i.ops (segment_back bits row name i g.four)
    (list_four _ _ _ _ _ _ _ _ (operand_back bits ip row i 0 size g (omega arith) sized) (operand_back bits ip row i 1 size g (omega arith) sized)
    (operand_back bits ip row i 2 size g (omega arith) sized) (operand_back bits ip row i 3 size g (omega arith) sized)
    ∙ four_ops i.ops g.four)
