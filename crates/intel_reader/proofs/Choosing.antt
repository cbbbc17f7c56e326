-- The candidates of a text, by their rows and words.
use Rattle.std.proofs.Common.{◌≡◌, ◌⊎◌, inl, inr, zero, suc, [], ◌∷◌, length, ℕ, ◌<◌, Bool, true, false, ◌||◌, List, Option, Some, None, refl, ap, sym, ◌∙◌, subst, arith, slice_get}
use Rattle.std.specs.Prelude.{IsTrue, IfSome, IsNone, bytes_eq, codes}
use Rattle.std.proofs.lemmas.Slice.Eq.{bytes_eq-Decides}
use Rattle.std.proofs.lemmas.Bool.{or_left, or_right, or_parts}
use Rattle.x86_values.specs.declared.Bits.{Bits}
use Rattle.x86_values.specs.declared.DispSize.{DispSize}
use Rattle.x86_values.specs.declared.Code.{Code}
use Rattle.x86_values.specs.declared.Instr.{Instr}
use Rattle.x86_values.specs.Wrapping.{modulo_width}
use Rattle.instruction_parts.specs.declared.row_types.Row.{Row}
use Rattle.row_relation.specs.PlainLaws.Plain.{IsPlainlySpelled}
use Rattle.opcode_rows.specs.declared.generated_spots.TheConstants.{ROWS}
use Rattle.opcode_rows.specs.Table.{table, name_of}
use Rattle.opcode_rows.specs.Allowed.{is_well_formed}
use Rattle.text_parts.specs.declared.style.Style.TheVariants.{Intel}
use Rattle.text_parts.specs.PrefixWords.{is_counter_jump, counter_jump, name_text, text_address_size}
use Rattle.intel_reader.specs.Buckets.{order}
use Rattle.x86_values.specs.declared.Bits.TheVariants.{B16, B32, B64}
use Rattle.intel_reader.specs.Possible.{is_counter_word}
use Rattle.text_parts.specs.Layout.{bracket_layout}
use Rattle.text_rows.proofs.AtRow.{text-known}
use Rattle.intel_text.specs.Text.{text as intel_text, text_of}
use Rattle.intel_words.specs.declared.words.IntelWords.{IntelWords}
use Rattle.intel_words.specs.Words.{words_of}
use Rattle.intel_words.specs.Printable.{is_printable}
use Rattle.row_relation.proofs.AddressCases.{impossible}
use Rattle.intel_reader.specs.declared.choice.Found.{Found}
use Rattle.intel_reader.specs.Assembled.{Assembly, IsCandidate, IsFirst, IsNoText}
use Rattle.intel_reader.specs.Choice.{assembly_of, LeadsChoice, IsHeld, IsProgress}
use Rattle.intel_reader.specs.Candidate.{candidate}
use Rattle.intel_reader.proofs.CandidateBack.{candidate_back}
use Rattle.intel_reader.proofs.Printed.{plain_is_printable}
use Rattle.intel_reader.proofs.PlainFacts.{plain_is_ready, row_there, size_there}

-- ---- one instruction

-- assemblies with equal parts are equal
pub same_assembly : (i j : Instr) (bs cs : List ℕ) → i ≡ j → bs ≡ cs → (let a : Assembly = record { instr = i; bytes = bs } in let b : Assembly = record { instr = j; bytes = cs } in a ≡ b)
same_assembly i j bs cs ei eb = cc

-- a candidate's bytes are the plain spelling of its instruction
pub spelled_as : (bits : Bits) (ip : ℕ) (text : List ℕ) (b : Assembly) (i : Instr) → IsCandidate bits ip text b → i ≡ b.instr → IsPlainlySpelled table bits (modulo_width bits ip) b.bytes i
spelled_as bits ip text b i k e = subst (λ (x : Instr). IsPlainlySpelled table bits (modulo_width bits ip) b.bytes x) (sym e) k.spelled

-- and that instruction is well formed
pub well_of : (bits : Bits) (ip : ℕ) (text : List ℕ) (b : Assembly) (i : Instr) → IsCandidate bits ip text b → i ≡ b.instr → is_well_formed i ≡ true
well_of bits ip text b i k e =
    let there = row_there bits (modulo_width bits ip) b.bytes b.instr k.spelled in
    ap is_well_formed e ∙ there.2.well

-- ---- the candidate of a row

same_code : (a b : Code) → a.0 ≡ b.0 → a ≡ b
same_code a b e = ap (λ (n : ℕ). let c : Code = record { 0 = n } in c) e

-- an instruction is the candidate of its row by the words of its text
pub made_is : (bits : Bits) (ip : ℕ) (text : List ℕ) (b : Assembly) (row : Row) (code : Code) (words : IntelWords) → IsCandidate bits ip text b → slice_get table b.instr.code.0 ≡ Some row → b.instr.code.0 ≡ code.0
    → words ≡ words_of bits row (name_of b.instr.code.0) b.instr → (size : DispSize) × (candidate bits row code words b.instr.asize size ≡ b.instr)
made_is bits ip text b row code words k at e w =
    let i = b.instr in
    let ready = plain_is_ready bits (modulo_width bits ip) b.bytes row i k.spelled at in
    let size = size_there i ready.well in (
      size.0,
      ap (λ (c : Code). candidate bits row c words i.asize size.0) (same_code code i.code (sym e))
          ∙ ap (λ (v : IntelWords). candidate bits row i.code v i.asize size.0) w
          ∙ candidate_back bits (modulo_width bits ip) row (name_of i.code.0) i size.0 ready.given size.1,
    )

-- ---- names

plain_name : (bits : Bits) (name : List ℕ) (i : Instr) → is_counter_jump name ≡ false → name_text bits name i ≡ name
unfolding name_text
plain_name bits name i h = rw h refl

-- no instruction of another name has this one in its text
pub other_name : (bits : Bits) (name word : List ℕ) (i : Instr) → (bytes_eq name word || is_counter_jump name) ≡ false → word ≡ name_text bits name i → ⊥
other_name bits name word i h e =
    let same : word ≡ name = e ∙ plain_name bits name i (or_parts (bytes_eq name word) (is_counter_jump name) h).1 in
    let equal : bytes_eq name word ≡ true = (bytes_eq-Decides name word).1 (sym same) in
    let other = (or_parts (bytes_eq name word) (is_counter_jump name) h).0 in
    cc

-- the test of a row's name, as the reader computes it
pub name_test : (name word bytes : List ℕ) (x y : Bool) → bytes ≡ name → x ≡ bytes_eq bytes word → x ≡ false → y ≡ is_counter_jump bytes → y ≡ (bytes_eq name word || is_counter_jump name)
name_test name word bytes x y e h f k =
    let no : bytes_eq name word ≡ false = ap (λ (z : List ℕ). bytes_eq z word) (sym e) ∙ sym h ∙ f in
    rw no (k ∙ ap is_counter_jump e)

-- ---- the text

-- what the reader of words asks of a candidate
pub record IsPrinted (bits : Bits) (text : List ℕ) (row : Row) (i : Instr) : Type 0 where
  pub printable : IsTrue (is_printable bits row (name_of i.code.0) i)
  pub layout : bracket_layout Intel bits row (name_of i.code.0) i ≡ text

-- what is known of a candidate's text
pub printed_facts : (bits : Bits) (ip : ℕ) (text : List ℕ) (b : Assembly) (row : Row) → IsCandidate bits ip text b → slice_get table b.instr.code.0 ≡ Some row → IsPrinted bits text row b.instr
unfolding intel_text text_of
printed_facts bits ip text b row k at =
    let i = b.instr in
    let ready = plain_is_ready bits (modulo_width bits ip) b.bytes row i k.spelled at in
    record {
      printable = plain_is_printable bits (modulo_width bits ip) row i at ready.below ready.formed ready.given;
      layout = text-known (λ r name. bracket_layout Intel bits r name i) i.code.0 row (name_of i.code.0) at refl ∙ k.printed;
    }

-- the row of a candidate
pub row_of_candidate : (bits : Bits) (ip : ℕ) (text : List ℕ) (b : Assembly) → IsCandidate bits ip text b → (row : Row) × (slice_get table b.instr.code.0 ≡ Some row)
row_of_candidate bits ip text b k = (k.spelled.row, k.spelled.row_is)

-- ---- all candidates

-- a choice that leads all candidates is the first of the shortest
pub first_from : (bits : Bits) (ip : ℕ) (text : List ℕ) (best : Option Found) → IsHeld bits ip text best → ((b : Assembly) → IsCandidate bits ip text b → LeadsChoice best b)
    → IfSome best (λ f. IsFirst bits ip text (assembly_of f))
first_from bits ip text None held led = tt
first_from bits ip text (Some f) held led = record { candidate = held; first = λ b k. led b k }

-- without a choice no instruction has the text
pub none_from : (bits : Bits) (ip : ℕ) (text : List ℕ) (best : Option Found) → ((b : Assembly) → IsCandidate bits ip text b → LeadsChoice best b) → IsNone best → IsNoText bits ip text
none_from bits ip text None led e = λ a k. led a k
none_from bits ip text (Some f) led e = λ a k. impossible e

-- ---- the codes of a name

some_below : (xs : List ℕ) (k x : ℕ) → slice_get xs k ≡ Some x → k < length xs
some_below [] k x h = cc
some_below (y ∷ ys) zero x h = omega arith
some_below (y ∷ ys) (suc k) x h = let r = some_below ys k x h in omega arith

length-order : length order ≡ ROWS
unfolding order
length-order = refl

-- each index of the order is that of a row
pub index_below : (k x : ℕ) → slice_get order k ≡ Some x → k < ROWS
index_below k x h = omega (some_below order k x h, length-order, arith)

-- a candidate's code is that of a row
pub code_below : (bits : Bits) (ip : ℕ) (text : List ℕ) (b : Assembly) → IsCandidate bits ip text b → b.instr.code.0 < ROWS
code_below bits ip text b k = (row_there bits (modulo_width bits ip) b.bytes b.instr k.spelled).2.below

same_index : (o : Option ℕ) (x y : ℕ) → o ≡ Some x → o ≡ Some y → x ≡ y
same_index o x y e f = cc

-- an index of the order has one code
pub code_at_index : (k x y : ℕ) → slice_get order k ≡ Some x → slice_get order k ≡ Some y → x ≡ y
code_at_index k x y e f = same_index (slice_get order k) x y e f

shown_counter : (a : Bits) (word : List ℕ) → word ≡ counter_jump a → is_counter_word word ≡ true
unfolding is_counter_word
shown_counter B16 word e = or_left _ _ ((bytes_eq-Decides word (counter_jump B16)).1 e)
shown_counter B32 word e = or_right _ _ (or_left _ _ ((bytes_eq-Decides word (counter_jump B32)).1 e))
shown_counter B64 word e = or_right _ _ (or_right _ _ ((bytes_eq-Decides word (counter_jump B64)).1 e))

-- the name of a row is the word in the text, or the word is one of the jump on the counter
pub name_or_counter : (bits : Bits) (name word : List ℕ) (i : Instr) → word ≡ name_text bits name i → (name ≡ word) ⊎ ((name ≡ codes "jrcxz") × (is_counter_word word ≡ true))
unfolding name_text is_counter_jump
name_or_counter bits name word i e = by_test (is_counter_jump name) refl
  where
    by_test : (t : Bool) → is_counter_jump name ≡ t → (name ≡ word) ⊎ ((name ≡ codes "jrcxz") × (is_counter_word word ≡ true))
    by_test true h = inr ((bytes_eq-Decides name (codes "jrcxz")).0 h, shown_counter (text_address_size bits i) word (rw h at e))
    by_test false h = inl (sym (rw h at e))

-- below a successor
pub last_or_below : (k n : ℕ) → k < suc n → (k ≡ n) ⊎ (k < n)
last_or_below zero zero h = inl refl
last_or_below zero (suc n) h = inr (omega arith)
last_or_below (suc k) zero h = absurd (omega arith)
last_or_below (suc k) (suc n) h = elim (last_or_below k n (omega arith)) [
  | inl e ↦ inl (ap suc e)
  | inr below ↦ inr (omega (arith, below))
]

-- one index more was gone over
pub index_led : (bits : Bits) (ip : ℕ) (text : List ℕ) (led after : Option Found) (b : Assembly) (index k : ℕ) → IsProgress bits ip text led after → (k < index → slice_get order k ≡ Some b.instr.code.0 → LeadsChoice led b)
    → (slice_get order index ≡ Some b.instr.code.0 → LeadsChoice after b) → k < suc index → slice_get order k ≡ Some b.instr.code.0 → LeadsChoice after b
index_led bits ip text led after b index k p earlier here lt at = elim (last_or_below k index lt) [
  | inl e ↦ here (ap (slice_get order) (sym e) ∙ at)
  | inr below ↦ p.kept b (earlier below at)
]

-- ---- all names

-- the choice among the rows of a name and then among the others is the choice among all
pub held_after : (bits : Bits) (ip : ℕ) (text : List ℕ) (named last : Option Found) → IsProgress bits ip text None named → IsProgress bits ip text named last → IsHeld bits ip text last
held_after bits ip text named last p q = q.held (p.held tt)

-- where the codes of the word and those of the jump on the counter were gone over, what was found leads every candidate
pub led_by_names : (bits : Bits) (ip : ℕ) (text word counter : List ℕ) (named last : Option Found) → IsProgress bits ip text named last → ((b : Assembly) → IsCandidate bits ip text b → word ≡ name_text bits (name_of b.instr.code.0) b.instr)
    → ((b : Assembly) → IsCandidate bits ip text b → name_of b.instr.code.0 ≡ word → LeadsChoice named b)
    → counter ≡ codes "jrcxz" → ((b : Assembly) → IsCandidate bits ip text b → name_of b.instr.code.0 ≡ counter → LeadsChoice last b)
    → (b : Assembly) → IsCandidate bits ip text b → LeadsChoice last b
led_by_names bits ip text word counter named last p read one same other b k = elim (name_or_counter bits (name_of b.instr.code.0) word b.instr (read b k)) [
  | inl e ↦ p.kept b (one b k e)
  | inr h ↦ other b k (h.0 ∙ sym same)
]

-- where the word is none of the jump on the counter, the codes of the word are all
pub led_by_one_name : (bits : Bits) (ip : ℕ) (text word : List ℕ) (named : Option Found) → is_counter_word word ≡ false → ((b : Assembly) → IsCandidate bits ip text b → word ≡ name_text bits (name_of b.instr.code.0) b.instr)
    → ((b : Assembly) → IsCandidate bits ip text b → name_of b.instr.code.0 ≡ word → LeadsChoice named b)
    → (b : Assembly) → IsCandidate bits ip text b → LeadsChoice named b
led_by_one_name bits ip text word named other read one b k = elim (name_or_counter bits (name_of b.instr.code.0) word b.instr (read b k)) [
  | inl e ↦ one b k e
  | inr h ↦ clash (is_counter_word word) h.1 other
]
  where
    clash : (t : Bool) → t ≡ true → t ≡ false → LeadsChoice named b
    clash t e f = cc
