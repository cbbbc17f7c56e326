-- The words in front of a name are read again.
use Rattle.std.proofs.Common.{◌≡◌, ℕ, suc, ◌<◌, Bool, true, false, cond, List, [], ◌∷◌, ◌++◌, Option, Some, None, refl, ap, arith, lit<}
use Rattle.std.proofs.lemmas.Bool.{and_parts}
use Rattle.std.specs.Prelude.{◌||◌, not, is_some, if◌then◌else◌, codes}
use Rattle.std.specs.List.{list_all}
use Rattle.x86_values.specs.declared.Bits.{Bits}
use Rattle.x86_values.specs.declared.Bits.TheVariants.{B16, B32, B64}
use Rattle.x86_values.specs.declared.Segment.{Segment}
use Rattle.x86_values.specs.declared.Segment.TheVariants.{Es, Cs, Ss, Ds, Fs, Gs}
use Rattle.x86_values.specs.declared.Rep.{Rep}
use Rattle.x86_values.specs.declared.Rep.TheVariants.{None as NoRep, F2, F3}
use Rattle.x86_values.specs.declared.Instr.{Instr}
use Rattle.instruction_parts.specs.declared.row_types.Row.{Row}
use Rattle.text_parts.specs.Registers.{segment_name}
use Rattle.text_parts.specs.PrefixWords.{lock_word, repeat_word, shows_memory, segment_word, size_digits, sized_word, differs, needs_address_word, address_word, is_sized, named_size, usual_size, operand_size_word, is_counter_jump, counter_jump, name_text, text_address_size}
use Rattle.intel_words.specs.Words.{segment_of, address_size_of, operand_size_of}
use Rattle.intel_words.specs.Printable.{is_plain_name}
use Rattle.intel_words.specs.Scanning.{is_word_byte, front_while, back, first, rest, word, rest_behind, skip_if}
use Rattle.intel_words.specs.ReadRegisters.{segment_of_word, segment_by}
use Rattle.intel_words.specs.ReadWords.{is_lock, repeat_prefix_of, is_repeat_prefix, size_by, size_behind, is_prefix_word, behind_lock, behind_repeat, behind_segment, behind_size_word}
use Rattle.intel_words.proofs.Cutting.{front-ends, back-ends}

-- ---- how late a word stands

-- 0 for the first kind of word in front of a name, and so on; 5 for a name
unfoldable pub rank : List ℕ → ℕ
rank name =
    cond (is_lock name) 0 (cond (is_repeat_prefix (repeat_prefix_of name)) 1 (cond (is_some (segment_of_word name)) 2
    (cond (is_some (size_behind 97 name)) 3 (cond (is_some (size_behind 111 name)) 4 5))))

rank-0 : (a b c d e : Bool) → 0 < cond a 0 (cond b 1 (cond c 2 (cond d 3 (cond e 4 5)))) → a ≡ false
rank-0 true b c d e h = absurd (omega arith)
rank-0 false b c d e h = refl

rank-1 : (a b c d e : Bool) → 1 < cond a 0 (cond b 1 (cond c 2 (cond d 3 (cond e 4 5)))) → b ≡ false
rank-1 true b c d e h = absurd (omega arith)
rank-1 false true c d e h = absurd (omega arith)
rank-1 false false c d e h = refl

rank-2 : (a b c d e : Bool) → 2 < cond a 0 (cond b 1 (cond c 2 (cond d 3 (cond e 4 5)))) → c ≡ false
rank-2 true b c d e h = absurd (omega arith)
rank-2 false true c d e h = absurd (omega arith)
rank-2 false false true d e h = absurd (omega arith)
rank-2 false false false d e h = refl

rank-3 : (a b c d e : Bool) → 3 < cond a 0 (cond b 1 (cond c 2 (cond d 3 (cond e 4 5)))) → d ≡ false
rank-3 true b c d e h = absurd (omega arith)
rank-3 false true c d e h = absurd (omega arith)
rank-3 false false true d e h = absurd (omega arith)
rank-3 false false false true e h = absurd (omega arith)
rank-3 false false false false e h = refl

rank-4 : (a b c d e : Bool) → 4 < cond a 0 (cond b 1 (cond c 2 (cond d 3 (cond e 4 5)))) → e ≡ false
rank-4 true b c d e h = absurd (omega arith)
rank-4 false true c d e h = absurd (omega arith)
rank-4 false false true d e h = absurd (omega arith)
rank-4 false false false true e h = absurd (omega arith)
rank-4 false false false false true h = absurd (omega arith)
rank-4 false false false false false h = refl

-- a later word is none of the earlier kinds
no-lock : (w : List ℕ) → 0 < rank w → is_lock w ≡ false
unfolding rank
no-lock w h = rank-0 (is_lock w) (is_repeat_prefix (repeat_prefix_of w)) (is_some (segment_of_word w)) (is_some (size_behind 97 w)) (is_some (size_behind 111 w)) h

no-repeat_word : (w : List ℕ) → 1 < rank w → is_repeat_prefix (repeat_prefix_of w) ≡ false
unfolding rank
no-repeat_word w h = rank-1 (is_lock w) (is_repeat_prefix (repeat_prefix_of w)) (is_some (segment_of_word w)) (is_some (size_behind 97 w)) (is_some (size_behind 111 w)) h

no-segment_word : (w : List ℕ) → 2 < rank w → is_some (segment_of_word w) ≡ false
unfolding rank
no-segment_word w h = rank-2 (is_lock w) (is_repeat_prefix (repeat_prefix_of w)) (is_some (segment_of_word w)) (is_some (size_behind 97 w)) (is_some (size_behind 111 w)) h

no-address_word : (w : List ℕ) → 3 < rank w → is_some (size_behind 97 w) ≡ false
unfolding rank
no-address_word w h = rank-3 (is_lock w) (is_repeat_prefix (repeat_prefix_of w)) (is_some (segment_of_word w)) (is_some (size_behind 97 w)) (is_some (size_behind 111 w)) h

no-operand_word : (w : List ℕ) → 4 < rank w → is_some (size_behind 111 w) ≡ false
unfolding rank
no-operand_word w h = rank-4 (is_lock w) (is_repeat_prefix (repeat_prefix_of w)) (is_some (segment_of_word w)) (is_some (size_behind 97 w)) (is_some (size_behind 111 w)) h

no-size : (o : Option Bits) → is_some o ≡ false → o ≡ None
no-size None h = refl
no-size (Some b) h = absurd cc

no-segment : (o : Option Segment) → is_some o ≡ false → o ≡ None
no-segment None h = refl
no-segment (Some s) h = absurd cc

no-repeat : (r : Rep) → is_repeat_prefix r ≡ false → r ≡ NoRep
unfolding is_repeat_prefix
no-repeat NoRep h = refl
no-repeat F2 h = absurd cc
no-repeat F3 h = absurd cc

less-of : {k n : ℕ} → suc k < n → k < n
less-of h = omega arith

-- ---- LOCK

-- a printed lock word is read as it was printed
pub lock-value : (lock : Bool) (t : List ℕ) → 0 < rank (word t) → is_lock (word (lock_word lock ++ t)) ≡ lock
unfolding lock_word rank is_lock repeat_prefix_of is_repeat_prefix segment_of_word segment_by size_behind size_by skip_if first rest front_while back is_word_byte
lock-value true t h = refl
lock-value false t h = no-lock (word t) h

-- and what follows it is left
pub lock-behind : (lock : Bool) (t : List ℕ) → 0 < rank (word t) → behind_lock (lock_word lock ++ t) ≡ t
unfolding behind_lock lock_word rank is_lock repeat_prefix_of is_repeat_prefix segment_of_word segment_by size_behind size_by skip_if first rest front_while back is_word_byte
lock-behind true t h = refl
lock-behind false t h = ap (λ (b : Bool). skip_if b t) (no-lock (word t) h)

-- ---- repeat

-- a printed repeat word is read as it was printed
pub repeat-value : (rep : Rep) (t : List ℕ) → 1 < rank (word t) → repeat_prefix_of (word (repeat_word rep ++ t)) ≡ rep
unfolding repeat_word rank is_lock repeat_prefix_of is_repeat_prefix segment_of_word segment_by size_behind size_by skip_if first rest front_while back is_word_byte
repeat-value NoRep t h = no-repeat (repeat_prefix_of (word t)) (no-repeat_word (word t) h)
repeat-value F2 t h = refl
repeat-value F3 t h = refl

-- and what follows it is left
pub repeat-behind : (rep : Rep) (t : List ℕ) → 1 < rank (word t) → behind_repeat (repeat_word rep ++ t) ≡ t
unfolding behind_repeat repeat_word rank is_lock repeat_prefix_of is_repeat_prefix segment_of_word segment_by size_behind size_by skip_if first rest front_while back is_word_byte
repeat-behind NoRep t h = ap (λ (b : Bool). skip_if b t) (no-repeat_word (word t) h)
repeat-behind F2 t h = refl
repeat-behind F3 t h = refl

-- a text that begins with it begins with no lock word
pub repeat-rank : (rep : Rep) (t : List ℕ) → 1 < rank (word t) → 0 < rank (word (repeat_word rep ++ t))
unfolding repeat_word rank is_lock repeat_prefix_of is_repeat_prefix segment_of_word segment_by size_behind size_by skip_if first rest front_while back is_word_byte
repeat-rank NoRep t h = less-of h
repeat-rank F2 t h = lit< tt
repeat-rank F3 t h = lit< tt

-- ---- the segment

-- a segment as a word
abbrev pub segment_text : Option Segment → List ℕ
segment_text None = []
segment_text (Some s) = segment_name s ++ codes " "

-- a printed segment word is read as it was printed
pub segment-value : (seg : Option Segment) (t : List ℕ) → 2 < rank (word t) → segment_of_word (word (segment_text seg ++ t)) ≡ seg
unfolding segment_name rank is_lock repeat_prefix_of is_repeat_prefix segment_of_word segment_by size_behind size_by skip_if first rest front_while back is_word_byte
segment-value None t h = no-segment (segment_of_word (word t)) (no-segment_word (word t) h)
segment-value (Some Es) t h = refl
segment-value (Some Cs) t h = refl
segment-value (Some Ss) t h = refl
segment-value (Some Ds) t h = refl
segment-value (Some Fs) t h = refl
segment-value (Some Gs) t h = refl

-- and what follows it is left
pub segment-behind : (seg : Option Segment) (t : List ℕ) → 2 < rank (word t) → behind_segment (segment_text seg ++ t) ≡ t
unfolding behind_segment segment_name rank is_lock repeat_prefix_of is_repeat_prefix segment_of_word segment_by size_behind size_by skip_if first rest front_while back is_word_byte
segment-behind None t h = ap (λ (b : Bool). skip_if b t) (no-segment_word (word t) h)
segment-behind (Some Es) t h = refl
segment-behind (Some Cs) t h = refl
segment-behind (Some Ss) t h = refl
segment-behind (Some Ds) t h = refl
segment-behind (Some Fs) t h = refl
segment-behind (Some Gs) t h = refl

-- a text that begins with it begins with no earlier word
pub segment-rank : (seg : Option Segment) (t : List ℕ) → 2 < rank (word t) → 1 < rank (word (segment_text seg ++ t))
unfolding segment_name rank is_lock repeat_prefix_of is_repeat_prefix segment_of_word segment_by size_behind size_by skip_if first rest front_while back is_word_byte
segment-rank None t h = less-of h
segment-rank (Some Es) t h = lit< tt
segment-rank (Some Cs) t h = lit< tt
segment-rank (Some Ss) t h = lit< tt
segment-rank (Some Ds) t h = lit< tt
segment-rank (Some Fs) t h = lit< tt
segment-rank (Some Gs) t h = lit< tt

-- ---- the sizes

-- a size behind a letter, as a word
abbrev pub sized_text : List ℕ → Option Bits → List ℕ
sized_text letter None = []
sized_text letter (Some size) = sized_word letter size

-- it is read again behind its letter, what stands behind it is left, and it stands at its rank
abbrev IsReadSize : ℕ → List ℕ → ℕ → Option Bits → List ℕ → Type 0
IsReadSize letter name k size t =
    (size_behind letter (word (sized_text name size ++ t)) ≡ size) × (behind_size_word letter (sized_text name size ++ t) ≡ t)
    × (k < rank (word (sized_text name size ++ t)))

-- a printed address-size word is read as it was printed
pub address-read : (size : Option Bits) (t : List ℕ) → 3 < rank (word t) → IsReadSize 97 (codes "a") 2 size t
unfolding behind_size_word sized_word size_digits rank is_lock repeat_prefix_of is_repeat_prefix segment_of_word segment_by size_behind size_by skip_if first rest front_while back is_word_byte
address-read None t h =
    (no-size (size_behind 97 (word t)) (no-address_word (word t) h), ap (λ (b : Bool). skip_if b t) (no-address_word (word t) h), less-of h)
address-read (Some B16) t h = (refl, refl, lit< tt)
address-read _ t h = (refl, refl, lit< tt)

-- a printed operand-size word is read as it was printed
pub operand-read : (size : Option Bits) (t : List ℕ) → 4 < rank (word t) → IsReadSize 111 (codes "o") 3 size t
unfolding behind_size_word sized_word size_digits rank is_lock repeat_prefix_of is_repeat_prefix segment_of_word segment_by size_behind size_by skip_if first rest front_while back is_word_byte
operand-read None t h =
    (no-size (size_behind 111 (word t)) (no-operand_word (word t) h), ap (λ (b : Bool). skip_if b t) (no-operand_word (word t) h), less-of h)
operand-read (Some B16) t h = (refl, refl, lit< tt)
operand-read _ t h = (refl, refl, lit< tt)

-- ---- the printed words are these

pick-segment : (has : Bool) (seg : Option Segment) →
    (if has then [] else (elim seg [ None ↦ [] | Some s ↦ segment_name s ++ codes " " ])) ≡ segment_text (if has then None else seg)
pick-segment true seg = refl
pick-segment false None = refl
pick-segment false (Some s) = refl

-- the segment word is the text of the segment that is printed
pub segment-word : (instr : Instr) → segment_word instr ≡ segment_text (segment_of instr)
unfolding segment_word segment_of
segment-word instr = pick-segment (shows_memory instr) instr.seg

pick-size : (letter : List ℕ) (needed : Bool) (size : Bits) → (if needed then sized_word letter size else []) ≡ sized_text letter (if needed then Some size else None)
pick-size letter true size = refl
pick-size letter false size = refl

address-by : (bits : Bits) (name : List ℕ) (instr : Instr) (asize : Option Bits) →
    (elim asize as (λ _. List ℕ) [ None ↦ [] | Some size ↦ if needs_address_word bits size name instr then sized_word (codes "a") size else [] ])
    ≡ sized_text (codes "a") (elim asize as (λ _. Option Bits) [ None ↦ None | Some size ↦ if needs_address_word bits size name instr then Some size else None ])
address-by bits name instr None = refl
address-by bits name instr (Some size) = pick-size (codes "a") (needs_address_word bits size name instr) size

-- the address-size word is the text of the address size that is printed
pub address-word : (bits : Bits) (name : List ℕ) (instr : Instr) → address_word bits name instr ≡ sized_text (codes "a") (address_size_of bits name instr)
unfolding address_word address_size_of
address-word bits name instr = address-by bits name instr instr.asize

operand-by : (bits : Bits) (row : Row) (sized : Bool) (named : Option Bits) →
    (if sized then
    (elim named as (λ _. List ℕ) [ None ↦ [] | Some size ↦ if differs size (usual_size bits row) then sized_word (codes "o") size else [] ])
    else [])
    ≡ sized_text (codes "o") (if sized then
    (elim named as (λ _. Option Bits) [ None ↦ None | Some size ↦ if differs size (usual_size bits row) then Some size else None ])
    else None)
operand-by bits row true None = refl
operand-by bits row true (Some size) = pick-size (codes "o") (differs size (usual_size bits row)) size
operand-by bits row false named = refl

-- the operand-size word is the text of the operand size that is printed
pub operand-word : (bits : Bits) (row : Row) → operand_size_word bits row ≡ sized_text (codes "o") (operand_size_of bits row)
unfolding operand_size_word operand_size_of
operand-word bits row = operand-by bits row (is_sized row) (named_size row.size)

-- ---- names

rank-5 : (a b c d e : Bool) → not (a || (b || (c || (d || e)))) ≡ true → 4 < cond a 0 (cond b 1 (cond c 2 (cond d 3 (cond e 4 5))))
rank-5 true b c d e h = absurd cc
rank-5 false true c d e h = absurd cc
rank-5 false false true d e h = absurd cc
rank-5 false false false true e h = absurd cc
rank-5 false false false false true h = absurd cc
rank-5 false false false false false h = lit< tt

plain-rank : (name : List ℕ) → is_plain_name name ≡ true → 4 < rank name
unfolding is_plain_name is_prefix_word rank
plain-rank [] h = absurd cc
plain-rank (c ∷ cs) h =
    rank-5 (is_lock (c ∷ cs)) (is_repeat_prefix (repeat_prefix_of (c ∷ cs))) (is_some (segment_of_word (c ∷ cs))) (is_some (size_behind 97 (c ∷ cs)))
    (is_some (size_behind 111 (c ∷ cs))) (and_parts (list_all is_word_byte (c ∷ cs)) _ h).1

plain-bytes : (name : List ℕ) → is_plain_name name ≡ true → list_all is_word_byte name ≡ true
unfolding is_plain_name
plain-bytes [] h = refl
plain-bytes (c ∷ cs) h = (and_parts (list_all is_word_byte (c ∷ cs)) _ h).0

pick-name : (jump : Bool) (size : Bits) (name : List ℕ) → is_plain_name name ≡ true → is_plain_name (if jump then counter_jump size else name) ≡ true
unfolding counter_jump is_plain_name is_prefix_word rank is_lock repeat_prefix_of is_repeat_prefix segment_of_word segment_by size_behind size_by skip_if first rest front_while back is_word_byte
pick-name true B16 name h = refl
pick-name true B32 name h = refl
pick-name true B64 name h = refl
pick-name false size name h = h

printed-plain : (bits : Bits) (name : List ℕ) (instr : Instr) → is_plain_name name ≡ true → is_plain_name (name_text bits name instr) ≡ true
unfolding name_text
printed-plain bits name instr h = pick-name (is_counter_jump name) (text_address_size bits instr) name h

-- the name in front of operands
pub name-word : (bits : Bits) (name : List ℕ) (instr : Instr) (ops : List ℕ) → is_plain_name name ≡ true → front_while is_word_byte ops ≡ [] →
    word (name_text bits name instr ++ ops) ≡ name_text bits name instr
name-word bits name instr ops h e =
    front-ends is_word_byte (name_text bits name instr) ops (plain-bytes (name_text bits name instr) (printed-plain bits name instr h)) e

-- the operands follow the name
pub name-behind : (bits : Bits) (name : List ℕ) (instr : Instr) (ops : List ℕ) → is_plain_name name ≡ true → back is_word_byte ops ≡ ops →
    rest_behind (name_text bits name instr ++ ops) ≡ ops
name-behind bits name instr ops h e =
    back-ends is_word_byte (name_text bits name instr) ops (plain-bytes (name_text bits name instr) (printed-plain bits name instr h)) e

-- a text that begins with a name begins with no prefix word
pub name-rank : (bits : Bits) (name : List ℕ) (instr : Instr) (ops : List ℕ) → is_plain_name name ≡ true → front_while is_word_byte ops ≡ [] →
    4 < rank (word (name_text bits name instr ++ ops))
name-rank bits name instr ops h e =
    let at : 4 < rank (name_text bits name instr) = plain-rank (name_text bits name instr) (printed-plain bits name instr h) in
    let same : rank (word (name_text bits name instr ++ ops)) ≡ rank (name_text bits name instr) = ap rank (name-word bits name instr ops h e) in
    omega arith
