-- The characters of the pieces in front of operands are the prefix words and the name.
use Rattle.std.proofs.Common.{◌≡◌, ℕ, Bool, true, false, List, [], Option, Some, None, refl, append_assoc}
use Rattle.std.specs.Prelude.{if◌then◌else◌, codes}
use Rattle.std.proofs.lemmas.List.{append-nil}
use Rattle.x86_values.specs.declared.Bits.{Bits}
use Rattle.x86_values.specs.declared.Rep.{Rep}
use Rattle.x86_values.specs.declared.Rep.TheVariants.{None as NoRep, F2, F3}
use Rattle.x86_values.specs.declared.Instr.{Instr}
use Rattle.instruction_parts.specs.declared.row_types.Row.{Row}
use Rattle.text_parts.specs.PrefixWords.{lock_word, repeat_word, shows_memory, segment_word, size_digits, sized_word, needs_address_word, address_word, is_sized, named_size, differs, usual_size, operand_size_word, prefix_words, name_text}
use Rattle.text_pieces.specs.Tokens.{Token, joined}
use Rattle.text_pieces.specs.Words.{lock_pieces, repeat_pieces, segment_pieces, sized_pieces, address_pieces, worded_size, operand_size_pieces, prefix_pieces, name_pieces}
use Rattle.text_pieces.proofs.Joined.{joined-both, joined-if, joined-option}

lock-joined : (lock : Bool) → joined (lock_pieces lock) ≡ lock_word lock
unfolding lock_pieces lock_word
lock-joined true = refl
lock-joined false = refl

repeat-joined : (rep : Rep) → joined (repeat_pieces rep) ≡ repeat_word rep
unfolding repeat_pieces repeat_word
repeat-joined NoRep = refl
repeat-joined F2 = refl
repeat-joined F3 = refl

unless_shown : (b : Bool) (xs : List Token) (text : List ℕ) → joined xs ≡ text → joined (if b then [] else xs) ≡ (if b then [] else text)
unless_shown true xs text h = refl
unless_shown false xs text h = h

segment-joined : (instr : Instr) → joined (segment_pieces instr) ≡ segment_word instr
unfolding segment_pieces segment_word
segment-joined instr = unless_shown (shows_memory instr) _ _ (joined-option instr.seg _ _ (λ s. refl))

sized-joined : (letter : List ℕ) (size : Bits) → joined (sized_pieces letter size) ≡ sized_word letter size
unfolding sized_pieces sized_word
sized-joined letter size = append_assoc letter (size_digits size) (codes " ")

address-joined : (bits : Bits) (name : List ℕ) (instr : Instr) → joined (address_pieces bits name instr) ≡ address_word bits name instr
unfolding address_pieces address_word
address-joined bits name instr =
    joined-option instr.asize _ _
    (λ size. joined-if (needs_address_word bits size name instr) (sized_pieces (codes "a") size) (sized_word (codes "a") size) (sized-joined (codes "a") size))

chosen-joined : (b : Bool) (size : Bits) → joined (elim (if b then Some size else None) as (λ _. List Token) [ None ↦ [] | Some s ↦ sized_pieces (codes "o") s ]) ≡ (if b then sized_word (codes "o") size else [])
chosen-joined true size = sized-joined (codes "o") size
chosen-joined false size = refl

named-joined : (b : Bool) (o : Option Bits) (usual : Bits) →
    joined (elim (if b then (elim o as (λ _. Option Bits) [ None ↦ None | Some size ↦ if differs size usual then Some size else None ]) else None) as (λ _. List Token) [ None ↦ [] | Some s ↦ sized_pieces (codes "o") s ])
    ≡ (if b then (elim o as (λ _. List ℕ) [ None ↦ [] | Some size ↦ if differs size usual then sized_word (codes "o") size else [] ]) else [])
named-joined false o usual = refl
named-joined true None usual = refl
named-joined true (Some size) usual = chosen-joined (differs size usual) size

operand_size-joined : (bits : Bits) (row : Row) → joined (operand_size_pieces bits row) ≡ operand_size_word bits row
unfolding operand_size_pieces worded_size operand_size_word
operand_size-joined bits row = named-joined (is_sized row) (named_size row.size) (usual_size bits row)

-- the words of the prefixes
pub prefix-joined : (bits : Bits) (row : Row) (name : List ℕ) (instr : Instr) → joined (prefix_pieces bits row name instr) ≡ prefix_words bits row name instr
unfolding prefix_pieces prefix_words
prefix-joined bits row name instr =
    joined-both (lock_pieces instr.lock) _ _ _ (lock-joined instr.lock)
    (joined-both (repeat_pieces instr.rep) _ _ _ (repeat-joined instr.rep)
    (joined-both (segment_pieces instr) _ _ _ (segment-joined instr)
    (joined-both (address_pieces bits name instr) _ _ _ (address-joined bits name instr) (operand_size-joined bits row))))

-- the name
pub name-joined : (bits : Bits) (name : List ℕ) (instr : Instr) → joined (name_pieces bits name instr) ≡ name_text bits name instr
name-joined bits name instr = append-nil (name_text bits name instr)
