-- The whole text of an instruction is read again.
use Rattle.std.proofs.Common.{◌≡◌, ℕ, Bool, true, List, [], ◌∷◌, ◌++◌, Option, Some, refl, ap, sym, ◌∙◌, append_assoc}
use Rattle.std.proofs.lemmas.Bool.{and_parts}
use Rattle.std.specs.Prelude.{codes}
use Rattle.x86_values.specs.declared.Bits.{Bits}
use Rattle.x86_values.specs.declared.Segment.{Segment}
use Rattle.x86_values.specs.declared.Rep.{Rep}
use Rattle.x86_values.specs.declared.Instr.{Instr}
use Rattle.instruction_parts.specs.declared.row_types.Row.{Row}
use Rattle.text_parts.specs.declared.style.Style.TheVariants.{Intel}
use Rattle.text_parts.specs.PrefixWords.{lock_word, repeat_word, segment_word, address_word, operand_size_word, prefix_words, name_text}
use Rattle.text_parts.specs.Layout.{operand_part, bracket_layout}
use Rattle.intel_words.specs.declared.words.IntelWords.{IntelWords}
use Rattle.intel_words.specs.declared.words.OperandText.{OperandText}
use Rattle.intel_words.specs.Words.{segment_of, address_size_of, operand_size_of, nth_of, words_of}
use Rattle.intel_words.specs.Printable.{is_plain_name, are_in_front, nth_is_printable, is_printable}
use Rattle.intel_words.specs.Scanning.{rest, word, rest_behind}
use Rattle.intel_words.specs.ReadRegisters.{segment_of_word}
use Rattle.intel_words.specs.ReadWords.{is_lock, repeat_prefix_of, size_behind, behind_lock, behind_repeat, behind_segment, behind_size_word, operands_in}
use Rattle.intel_words.proofs.FrontWords.{lock-value, lock-behind, repeat-value, repeat-behind, repeat-rank, segment_text, segment-value, segment-behind, segment-rank, sized_text, address-read, operand-read, segment-word, address-word, operand-word, name-word, name-behind, name-rank}
use Rattle.intel_words.proofs.AllOperands.{behind_name, operands-read, operands-stop, operands-stay, operands-found, operands-grouped}

-- ---- the text from each kind of word on

abbrev from_name : Bits → Row → List ℕ → Instr → List ℕ
from_name bits row name instr = name_text bits name instr ++ behind_name bits row instr

abbrev from_osize : Bits → Row → List ℕ → Instr → List ℕ
from_osize bits row name instr = sized_text (codes "o") (operand_size_of bits row) ++ from_name bits row name instr

abbrev from_asize : Bits → Row → List ℕ → Instr → List ℕ
from_asize bits row name instr = sized_text (codes "a") (address_size_of bits name instr) ++ from_osize bits row name instr

abbrev from_segment : Bits → Row → List ℕ → Instr → List ℕ
from_segment bits row name instr = segment_text (segment_of instr) ++ from_asize bits row name instr

abbrev from_repeat : Bits → Row → List ℕ → Instr → List ℕ
from_repeat bits row name instr = repeat_word instr.rep ++ from_segment bits row name instr

abbrev from_lock : Bits → Row → List ℕ → Instr → List ℕ
from_lock bits row name instr = lock_word instr.lock ++ from_repeat bits row name instr

regroup : (l r s a o t : List ℕ) → (l ++ (r ++ (s ++ (a ++ o)))) ++ t ≡ l ++ (r ++ (s ++ (a ++ (o ++ t))))
regroup l r s a o t = simp append_assoc

layout-grouped : (bits : Bits) (row : Row) (name : List ℕ) (instr : Instr) → bracket_layout Intel bits row name instr ≡ from_lock bits row name instr
unfolding bracket_layout prefix_words
layout-grouped bits row name instr =
    let l : List ℕ = lock_word instr.lock in
    let r : List ℕ = repeat_word instr.rep in
    let t : List ℕ = name_text bits name instr ++ (operand_part Intel bits row instr 0 ++ (operand_part Intel bits row instr 1
    ++ (operand_part Intel bits row instr 2 ++ operand_part Intel bits row instr 3))) in
    regroup l r (segment_word instr) (address_word bits name instr) (operand_size_word bits row) t
    ∙ (ap (λ (s : List ℕ). l ++ (r ++ (s ++ (address_word bits name instr ++ (operand_size_word bits row ++ t))))) (segment-word instr)
    ∙ (ap (λ (a : List ℕ). l ++ (r ++ (segment_text (segment_of instr) ++ (a ++ (operand_size_word bits row ++ t))))) (address-word bits name instr)
    ∙ (ap (λ (o : List ℕ). l ++ (r ++ (segment_text (segment_of instr) ++ (sized_text (codes "a") (address_size_of bits name instr) ++ (o ++ t))))) (operand-word bits row)
    ∙ ap (λ (u : List ℕ). l ++ (r ++ (segment_text (segment_of instr) ++ (sized_text (codes "a") (address_size_of bits name instr)
    ++ (sized_text (codes "o") (operand_size_of bits row) ++ (name_text bits name instr ++ u)))))) (operands-grouped bits row instr))))

-- ---- what is read of it

-- the text behind all words in front of the name
abbrev pub behind_prefixes : List ℕ → List ℕ
behind_prefixes text = behind_size_word 111 (behind_size_word 97 (behind_segment (behind_repeat (behind_lock text))))

-- the words of a text are those of the instruction
pub record AreWords (bits : Bits) (row : Row) (name : List ℕ) (instr : Instr) (text : List ℕ) : Type 0 where
  pub lock : is_lock (word text) ≡ instr.lock
  pub rep : repeat_prefix_of (word (behind_lock text)) ≡ instr.rep
  pub seg : segment_of_word (word (behind_repeat (behind_lock text))) ≡ segment_of instr
  pub asize : size_behind 97 (word (behind_segment (behind_repeat (behind_lock text)))) ≡ address_size_of bits name instr
  pub osize : size_behind 111 (word (behind_size_word 97 (behind_segment (behind_repeat (behind_lock text))))) ≡ operand_size_of bits row
  pub named : word (behind_prefixes text) ≡ name_text bits name instr
  pub ops : operands_in (rest (rest_behind (behind_prefixes text)))
      ≡ Some (nth_of bits row instr 0 ∷ nth_of bits row instr 1 ∷ nth_of bits row instr 2 ∷ nth_of bits row instr 3 ∷ [])

grouped-read : (bits : Bits) (row : Row) (name : List ℕ) (instr : Instr) (text : List ℕ) → is_printable bits row name instr ≡ true →
    text ≡ from_lock bits row name instr → AreWords bits row name instr text
unfolding is_printable
grouped-read bits row name instr text h e0 =
    let plain : is_plain_name name ≡ true = (and_parts (is_plain_name name) _ h).0 in
    let h1 = (and_parts (is_plain_name name) _ h).1 in
    let f : are_in_front instr ≡ true = (and_parts (are_in_front instr) _ h1).0 in
    let h2 = (and_parts (are_in_front instr) _ h1).1 in
    let p0 : nth_is_printable bits instr 0 ≡ true = (and_parts (nth_is_printable bits instr 0) _ h2).0 in
    let h3 = (and_parts (nth_is_printable bits instr 0) _ h2).1 in
    let p1 : nth_is_printable bits instr 1 ≡ true = (and_parts (nth_is_printable bits instr 1) _ h3).0 in
    let h4 = (and_parts (nth_is_printable bits instr 1) _ h3).1 in
    let p2 : nth_is_printable bits instr 2 ≡ true = (and_parts (nth_is_printable bits instr 2) _ h4).0 in
    let p3 : nth_is_printable bits instr 3 ≡ true = (and_parts (nth_is_printable bits instr 2) _ h4).1 in
    let t5 : List ℕ = from_name bits row name instr in
    let t4 : List ℕ = from_osize bits row name instr in
    let t3 : List ℕ = from_asize bits row name instr in
    let t2 : List ℕ = from_segment bits row name instr in
    let t1 : List ℕ = from_repeat bits row name instr in
    let r4 = name-rank bits name instr (behind_name bits row instr) plain (operands-stop bits row instr f) in
    let r3 = (operand-read (operand_size_of bits row) t5 r4).2 in
    let r2 = (address-read (address_size_of bits name instr) t4 r3).2 in
    let r1 = segment-rank (segment_of instr) t3 r2 in
    let r0 = repeat-rank instr.rep t2 r1 in
    let e1 : behind_lock text ≡ t1 = ap behind_lock e0 ∙ lock-behind instr.lock t1 r0 in
    let e2 : behind_repeat (behind_lock text) ≡ t2 = ap behind_repeat e1 ∙ repeat-behind instr.rep t2 r1 in
    let e3 : behind_segment (behind_repeat (behind_lock text)) ≡ t3 = ap behind_segment e2 ∙ segment-behind (segment_of instr) t3 r2 in
    let e4 : behind_size_word 97 (behind_segment (behind_repeat (behind_lock text))) ≡ t4 =
    ap (behind_size_word 97) e3 ∙ (address-read (address_size_of bits name instr) t4 r3).1 in
    let e5 : behind_prefixes text ≡ t5 = ap (behind_size_word 111) e4 ∙ (operand-read (operand_size_of bits row) t5 r4).1 in
    record {
      lock = ap (λ (u : List ℕ). is_lock (word u)) e0 ∙ lock-value instr.lock t1 r0;
      rep = ap (λ (u : List ℕ). repeat_prefix_of (word u)) e1 ∙ repeat-value instr.rep t2 r1;
      seg = ap (λ (u : List ℕ). segment_of_word (word u)) e2 ∙ segment-value (segment_of instr) t3 r2;
      asize = ap (λ (u : List ℕ). size_behind 97 (word u)) e3 ∙ (address-read (address_size_of bits name instr) t4 r3).0;
      osize = ap (λ (u : List ℕ). size_behind 111 (word u)) e4 ∙ (operand-read (operand_size_of bits row) t5 r4).0;
      named = ap (λ (u : List ℕ). word u) e5 ∙ name-word bits name instr (behind_name bits row instr) plain (operands-stop bits row instr f);
      ops = ap (λ (u : List ℕ). operands_in (rest (rest_behind u))) e5
          ∙ (ap (λ (u : List ℕ). operands_in (rest u)) (name-behind bits name instr (behind_name bits row instr) plain (operands-stay bits row instr f))
          ∙ (ap operands_in (operands-found bits row instr f) ∙ operands-read bits row instr f p0 p1 p2 p3));
    }

-- a printed text is read as the parts that it was printed from
pub text-read : (bits : Bits) (row : Row) (name : List ℕ) (instr : Instr) (text : List ℕ) → is_printable bits row name instr ≡ true →
    bracket_layout Intel bits row name instr ≡ text → AreWords bits row name instr text
text-read bits row name instr text h e = grouped-read bits row name instr text h (sym e ∙ layout-grouped bits row name instr)

-- words that agree in each part are the same
pub same-words : (bits : Bits) (row : Row) (name : List ℕ) (instr : Instr) (lock : Bool) (rep : Rep) (seg : Option Segment) (asize osize : Option Bits) (ops : List OperandText) →
    lock ≡ instr.lock → rep ≡ instr.rep → seg ≡ segment_of instr → asize ≡ address_size_of bits name instr → osize ≡ operand_size_of bits row →
    ops ≡ nth_of bits row instr 0 ∷ nth_of bits row instr 1 ∷ nth_of bits row instr 2 ∷ nth_of bits row instr 3 ∷ [] →
    (let words : IntelWords = record { lock = lock; rep = rep; seg = seg; asize = asize; osize = osize; ops = ops } in words) ≡ words_of bits row name instr
unfolding words_of
same-words bits row name instr lock rep seg asize osize ops el er es ea eo eops = rw (el, er, es, ea, eo, eops) refl

-- ---- a text shows its words

same-value : (x y : List OperandText) (o : Option (List OperandText)) → o ≡ Some x → o ≡ Some y → x ≡ y
same-value x y o e f = cc

-- equal texts have equal prefix words, names and operands
pub shown_words : (bits : Bits) (row other : Row) (name another : List ℕ) (i j : Instr) → is_printable bits row name i ≡ true → is_printable bits other another j ≡ true →
    bracket_layout Intel bits row name i ≡ bracket_layout Intel bits other another j → words_of bits row name i ≡ words_of bits other another j
shown_words bits row other name another i j hi hj e =
    let text : List ℕ = bracket_layout Intel bits other another j in
    let a = text-read bits row name i text hi e in
    let b = text-read bits other another j text hj refl in
    let ops : List OperandText = nth_of bits row i 0 ∷ nth_of bits row i 1 ∷ nth_of bits row i 2 ∷ nth_of bits row i 3 ∷ [] in
    let same = same-value ops _ _ a.ops b.ops in
    sym (same-words bits row name i _ _ _ _ _ ops a.lock a.rep a.seg a.asize a.osize refl)
    ∙ same-words bits other another j _ _ _ _ _ ops b.lock b.rep b.seg b.asize b.osize same
