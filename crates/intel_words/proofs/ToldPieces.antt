-- What is told of a text in pieces.
use Rattle.std.proofs.Common.{◌≡◌, ℕ, Bool, not, ◌&&◌, List, Option, Some, refl}
use Rattle.x86_values.specs.declared.Bits.{Bits}
use Rattle.x86_values.specs.declared.Segment.{Segment}
use Rattle.x86_values.specs.declared.Rep.{Rep}
use Rattle.intel_words.specs.declared.words.IntelWords.{IntelWords}
use Rattle.intel_words.specs.declared.words.OperandText.{OperandText}
use Rattle.intel_words.specs.Scanning.{word, rest_behind}
use Rattle.intel_words.specs.ReadRegisters.{segment_of_word}
use Rattle.intel_words.specs.ReadWords.{is_lock, repeat_prefix_of, size_behind, behind_lock, behind_repeat, behind_segment, behind_size_word}
use Rattle.intel_words.specs.Pieces.{is_there, behind_words, ends_in_name, operands_of_pieces, read_operands, words_of_pieces}
use Rattle.intel_words.proofs.WholeText.{behind_prefixes}

-- a head ends with its name if nothing stands behind that
pub ends-as : (head behind name : List ℕ) → behind ≡ rest_behind (behind_prefixes head) → name ≡ word (behind_prefixes head)
    → ends_in_name head ≡ (not (is_there behind) && is_there name)
unfolding ends_in_name behind_words
ends-as head behind name eb en = rw (eb, en) refl

-- words that were read part by part are those of the pieces
pub pieces-words : (head a b c d : List ℕ) (lock : Bool) (rep : Rep) (seg : Option Segment) (asize osize : Option Bits) (ops : List OperandText)
    → lock ≡ is_lock (word head) → rep ≡ repeat_prefix_of (word (behind_lock head)) → seg ≡ segment_of_word (word (behind_repeat (behind_lock head)))
    → asize ≡ size_behind 97 (word (behind_segment (behind_repeat (behind_lock head))))
    → osize ≡ size_behind 111 (word (behind_size_word 97 (behind_segment (behind_repeat (behind_lock head))))) → operands_of_pieces a b c d ≡ Some ops
    → (let words : IntelWords = record { lock = lock; rep = rep; seg = seg; asize = asize; osize = osize; ops = ops } in words) ≡ words_of_pieces head a b c d
unfolding words_of_pieces read_operands
pieces-words head a b c d lock rep seg asize osize ops el er es ea eo e = rw (el, er, es, ea, eo, e) refl
