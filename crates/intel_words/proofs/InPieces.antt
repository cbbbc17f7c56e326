-- The text of pieces is read as its head and each of its operands, with a size word in front of one.
use Rattle.std.proofs.Common.{◌≡◌, ℕ, true, false, List, [], ◌∷◌, ◌++◌, Option, Some, refl, ap, sym, ◌∙◌, append-nil, slice_index_or}
use Rattle.std.proofs.lemmas.Bool.{and_parts}
use Rattle.std.specs.Prelude.{◌||◌, not, codes}
use Rattle.std.specs.List.{list_all}
use Rattle.x86_values.specs.declared.Bits.{Bits}
use Rattle.x86_values.specs.declared.Instr.{Instr}
use Rattle.instruction_parts.specs.declared.row_types.Row.{Row}
use Rattle.text_parts.specs.declared.style.Style.TheVariants.{Intel}
use Rattle.text_parts.specs.Layout.{bracket_layout}
use Rattle.text_parts.specs.PrefixWords.{name_text}
use Rattle.intel_words.specs.declared.words.IntelWords.{IntelWords}
use Rattle.intel_words.specs.declared.words.OperandText.{OperandText}
use Rattle.intel_words.specs.declared.words.OperandText.TheVariants.{Absent}
use Rattle.intel_words.specs.declared.words.SizeName.{SizeName}
use Rattle.intel_words.specs.Words.{nth_of, words_of}
use Rattle.intel_words.specs.Printable.{is_printable}
use Rattle.intel_words.specs.Scanning.{is_no_comma, front_while, back, rest, word, rest_behind, token, next_operand}
use Rattle.intel_words.specs.ReadRegisters.{segment_of_word}
use Rattle.intel_words.specs.ReadAddresses.{operand_in}
use Rattle.intel_words.specs.ReadWords.{is_lock, repeat_prefix_of, size_behind, behind_lock, behind_repeat, behind_segment, behind_size_word, four, operands_in}
use Rattle.intel_words.specs.Pieces.{piece_text, pieces_text, sized_piece, sized_pieces_text, sized_nth, sized_words, is_unsized, is_there, are_commaless, are_leading, operands_of_pieces}
use Rattle.intel_words.proofs.Cutting.{front-ends, front-all, back-append}
use Rattle.intel_words.proofs.AllOperands.{four-same}
use Rattle.intel_words.proofs.WholeText.{behind_prefixes, text-read, same-words}
use Rattle.intel_words.proofs.HeadWords.{head-stays}
use Rattle.intel_words.proofs.SizedOperand.{sized-piece}

-- ---- operands behind one another

abbrev comma_text : List ℕ → List ℕ
comma_text piece = piece_text (codes ", ") piece

comma-stops : (x z : List ℕ) → (x ≡ [] → z ≡ []) → front_while is_no_comma (comma_text x ++ z) ≡ []
unfolding piece_text front_while is_no_comma
comma-stops [] z h = ap (front_while is_no_comma) (h refl)
comma-stops (c ∷ cs) z h = refl

comma-found : (x z : List ℕ) → (x ≡ [] → z ≡ []) → rest (rest (back is_no_comma (comma_text x ++ z))) ≡ x ++ z
unfolding piece_text back is_no_comma rest
comma-found [] z h = ap (λ (u : List ℕ). rest (rest (back is_no_comma u))) (h refl) ∙ sym (h refl)
comma-found (c ∷ cs) z h = refl

-- an operand without a comma is cut from the next one
piece-token : (p x z : List ℕ) → list_all is_no_comma p ≡ true → (x ≡ [] → z ≡ []) → token (p ++ (comma_text x ++ z)) ≡ p
piece-token p x z plain h = front-ends is_no_comma p (comma_text x ++ z) plain (comma-stops x z h)

piece-next : (p x z : List ℕ) → list_all is_no_comma p ≡ true → (x ≡ [] → z ≡ []) → next_operand (p ++ (comma_text x ++ z)) ≡ x ++ z
piece-next p x z plain h = ap (λ (u : List ℕ). rest (rest u)) (back-append is_no_comma p (comma_text x ++ z) plain) ∙ comma-found x z h

-- the last but one
last-token : (p x : List ℕ) → list_all is_no_comma p ≡ true → token (p ++ comma_text x) ≡ p
last-token p x plain = ap (λ (u : List ℕ). token (p ++ u)) (sym (append-nil (comma_text x))) ∙ piece-token p x [] plain (λ e. refl)

last-next : (p x : List ℕ) → list_all is_no_comma p ≡ true → next_operand (p ++ comma_text x) ≡ x
last-next p x plain = ap (λ (u : List ℕ). next_operand (p ++ u)) (sym (append-nil (comma_text x))) ∙ (piece-next p x [] plain (λ e. refl) ∙ append-nil x)

none-text : (x : List ℕ) → x ≡ [] → comma_text x ≡ []
unfolding piece_text
none-text x e = ap comma_text e

none-two : (b c d : List ℕ) → (b ≡ [] → c ≡ []) → (c ≡ [] → d ≡ []) → b ≡ [] → comma_text c ++ comma_text d ≡ []
none-two b c d bc cd e = ap (λ (u : List ℕ). u ++ comma_text d) (none-text c (bc e)) ∙ none-text d (cd (bc e))

-- operands with a comma and a space between them
abbrev joined : List ℕ → List ℕ → List ℕ → List ℕ → List ℕ
joined a b c d = a ++ (comma_text b ++ (comma_text c ++ comma_text d))

joined-read : (a b c d : List ℕ) (w x y z : OperandText) → list_all is_no_comma a ≡ true → list_all is_no_comma b ≡ true → list_all is_no_comma c ≡ true
    → list_all is_no_comma d ≡ true → (b ≡ [] → c ≡ []) → (c ≡ [] → d ≡ [])
    → operand_in a ≡ Some w → operand_in b ≡ Some x → operand_in c ≡ Some y → operand_in d ≡ Some z → operands_in (joined a b c d) ≡ Some (w ∷ x ∷ y ∷ z ∷ [])
unfolding operands_in
joined-read a b c d w x y z pa pb pc pd bc cd oa ob oc od =
    let t0 : List ℕ = joined a b c d in
    let none = none-two b c d bc cd in
    let last : c ≡ [] → comma_text d ≡ [] = λ e. none-text d (cd e) in
    let e1 : next_operand t0 ≡ b ++ (comma_text c ++ comma_text d) = piece-next a b (comma_text c ++ comma_text d) pa none in
    let e2 : next_operand (next_operand t0) ≡ c ++ comma_text d = ap (λ (u : List ℕ). next_operand u) e1 ∙ piece-next b c (comma_text d) pb last in
    let e3 : next_operand (next_operand (next_operand t0)) ≡ d = ap (λ (u : List ℕ). next_operand u) e2 ∙ last-next c d pc in
    four-same (operand_in (token t0)) (operand_in (token (next_operand t0))) (operand_in (token (next_operand (next_operand t0))))
    (operand_in (token (next_operand (next_operand (next_operand t0))))) w x y z
    (ap operand_in (piece-token a b (comma_text c ++ comma_text d) pa none) ∙ oa)
    (ap (λ (u : List ℕ). operand_in (token u)) e1 ∙ (ap operand_in (piece-token b c (comma_text d) pb last) ∙ ob))
    (ap (λ (u : List ℕ). operand_in (token u)) e2 ∙ (ap operand_in (last-token c d pc) ∙ oc))
    (ap (λ (u : List ℕ). operand_in (token u)) e3 ∙ (ap operand_in (front-all is_no_comma d pd) ∙ od))

-- ---- tests

there-some : (x : List ℕ) → is_there x ≡ true → x ≡ [] → ⊥
unfolding is_there
there-some [] h e = absurd cc
there-some (c ∷ cs) h e = cc

there-none : (x : List ℕ) → is_there x ≡ false → x ≡ []
unfolding is_there
there-none [] h = refl
there-none (c ∷ cs) h = absurd cc

-- an operand that is none has none behind it
led-none : (x y : List ℕ) → (is_there x || not (is_there y)) ≡ true → x ≡ [] → y ≡ []
unfolding is_there
led-none [] [] h e = refl
led-none [] (c ∷ cs) h e = absurd cc
led-none (c ∷ cs) y h e = absurd cc

-- four operands that were read
four-parts : (a b c d : Option OperandText) (ops : List OperandText) → four a b c d ≡ Some ops
    → (a ≡ Some (slice_index_or ops 0 Absent)) × (b ≡ Some (slice_index_or ops 1 Absent)) × (c ≡ Some (slice_index_or ops 2 Absent)) × (d ≡ Some (slice_index_or ops 3 Absent))
unfolding four
four-parts (Some a) (Some b) (Some c) (Some d) ops e =
    let same : a ∷ b ∷ c ∷ d ∷ [] ≡ ops = same-list (a ∷ b ∷ c ∷ d ∷ []) ops e in (
      ap (λ (u : List OperandText). Some (slice_index_or u 0 Absent)) same,
      ap (λ (u : List OperandText). Some (slice_index_or u 1 Absent)) same,
      ap (λ (u : List OperandText). Some (slice_index_or u 2 Absent)) same,
      ap (λ (u : List OperandText). Some (slice_index_or u 3 Absent)) same,
    )
  where
    same-list : (x y : List OperandText) → Some x ≡ Some y → x ≡ y
    same-list x y k = cc
four-parts _ _ _ _ ops e = absurd cc

space-front : (x : List ℕ) → (x ≡ [] → ⊥) → piece_text (codes " ") x ≡ 32 ∷ x
unfolding piece_text
space-front [] h = absurd (h refl)
space-front (c ∷ cs) h = refl

-- ---- the text

-- the words of a text in pieces, as they were read: operand n is an address without a size word
pub record IsRead (head a b c d : List ℕ) (n : ℕ) (words : IntelWords) : Type 0 where
  pub commaless : are_commaless a b c d ≡ true
  pub leading : are_leading a b c d ≡ true
  pub behind : is_there (rest_behind (behind_prefixes head)) ≡ false
  pub named : is_there (word (behind_prefixes head)) ≡ true
  pub lock : words.lock ≡ is_lock (word head)
  pub rep : words.rep ≡ repeat_prefix_of (word (behind_lock head))
  pub seg : words.seg ≡ segment_of_word (word (behind_repeat (behind_lock head)))
  pub asize : words.asize ≡ size_behind 97 (word (behind_segment (behind_repeat (behind_lock head))))
  pub osize : words.osize ≡ size_behind 111 (word (behind_size_word 97 (behind_segment (behind_repeat (behind_lock head)))))
  pub ops : operands_of_pieces a b c d ≡ Some words.ops
  pub unsized : is_unsized (slice_index_or words.ops n Absent) ≡ true

same-ops : (x y : List OperandText) (o : Option (List OperandText)) → o ≡ Some x → o ≡ Some y → x ≡ y
same-ops x y o e f = cc

-- **a printed text with a size word in front of the address has that name, and those words but for the size**
pub unsized-read : (head a b c d : List ℕ) (n : ℕ) (words : IntelWords) → IsRead head a b c d n words
    → (size : SizeName) (bits : Bits) (row : Row) (name : List ℕ) (instr : Instr) → is_printable bits row name instr ≡ true
    → bracket_layout Intel bits row name instr ≡ sized_pieces_text size n head a b c d
    → (word (behind_prefixes head) ≡ name_text bits name instr) × (words_of bits row name instr ≡ sized_words size n words)
unfolding sized_pieces_text pieces_text sized_words are_commaless are_leading operands_of_pieces rest
unsized-read head a b c d n words r size bits row name instr h e =
    let pa = (and_parts (list_all is_no_comma a) _ r.commaless).0 in
    let pb = (and_parts (list_all is_no_comma b) _ (and_parts (list_all is_no_comma a) _ r.commaless).1).0 in
    let pcd = (and_parts (list_all is_no_comma b) _ (and_parts (list_all is_no_comma a) _ r.commaless).1).1 in
    let pc = (and_parts (list_all is_no_comma c) (list_all is_no_comma d) pcd).0 in
    let pd = (and_parts (list_all is_no_comma c) (list_all is_no_comma d) pcd).1 in
    let la = (and_parts (is_there a) _ r.leading).0 in
    let lbd = (and_parts (is_there a) _ r.leading).1 in
    let lb = (and_parts (is_there b || not (is_there c)) (is_there c || not (is_there d)) lbd).0 in
    let lc = (and_parts (is_there b || not (is_there c)) (is_there c || not (is_there d)) lbd).1 in
    let parts = four-parts (operand_in a) (operand_in b) (operand_in c) (operand_in d) words.ops r.ops in
    let sa = sized-piece size n 0 a words r.unsized parts.0 pa in
    let sb = sized-piece size n 1 b words r.unsized parts.1 pb in
    let sc = sized-piece size n 2 c words r.unsized parts.2 pc in
    let sd = sized-piece size n 3 d words r.unsized parts.3 pd in
    let x0 : List ℕ = sized_piece size n 0 a in
    let x1 : List ℕ = sized_piece size n 1 b in
    let x2 : List ℕ = sized_piece size n 2 c in
    let x3 : List ℕ = sized_piece size n 3 d in
    let some : x0 ≡ [] → ⊥ = λ k. there-some a la (sa.some k) in
    let ys : List ℕ = joined x0 x1 x2 x3 in
    let spaced : bracket_layout Intel bits row name instr ≡ head ++ 32 ∷ ys =
    e ∙ ap (λ (u : List ℕ). head ++ (u ++ (comma_text x1 ++ (comma_text x2 ++ comma_text x3)))) (space-front x0 some) in
    let read = text-read bits row name instr (head ++ 32 ∷ ys) h spaced in
    let stays = head-stays head ys (there-some (word (behind_prefixes head)) r.named) in
    let found : rest (rest_behind (behind_prefixes (head ++ 32 ∷ ys))) ≡ ys =
    ap rest (stays.behind ∙ ap (λ (u : List ℕ). u ++ 32 ∷ ys) (there-none (rest_behind (behind_prefixes head)) r.behind)) in
    let ops : List OperandText = sized_nth size n 0 words ∷ sized_nth size n 1 words ∷ sized_nth size n 2 words ∷ sized_nth size n 3 words ∷ [] in
    let joined_ops : operands_in ys ≡ Some ops =
    joined-read x0 x1 x2 x3 _ _ _ _ sa.plain sb.plain sc.plain sd.plain (λ k. sc.none (led-none b c lb (sb.some k))) (λ k. sd.none (led-none c d lc (sc.some k)))
    sa.read sb.read sc.read sd.read in
    let same : ops ≡ nth_of bits row instr 0 ∷ nth_of bits row instr 1 ∷ nth_of bits row instr 2 ∷ nth_of bits row instr 3 ∷ [] =
    same-ops ops _ (operands_in (rest (rest_behind (behind_prefixes (head ++ 32 ∷ ys))))) (ap operands_in found ∙ joined_ops) read.ops in (
      sym stays.named ∙ read.named,
      sym (same-words bits row name instr words.lock words.rep words.seg words.asize words.osize ops
          (r.lock ∙ (sym stays.lock ∙ read.lock)) (r.rep ∙ (sym stays.rep ∙ read.rep)) (r.seg ∙ (sym stays.seg ∙ read.seg))
          (r.asize ∙ (sym stays.asize ∙ read.asize)) (r.osize ∙ (sym stays.osize ∙ read.osize)) same),
    )
