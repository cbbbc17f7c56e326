-- The text of a statement with one address without a size, by its pieces.
use Rattle.std.proofs.Common.{◌≡◌, inr, ℕ, ◌+◌, ◌≤◌, Bool, true, false, List, [], ◌∷◌, ◌++◌, length, take, drop, length-append, append_assoc, refl, sym, ap, subst, ◌∙◌, arith, Option, Some, None}
use Rattle.std.specs.Prelude.{◌==◌, not, codes, if◌then◌else◌}
use Rattle.std.proofs.lemmas.Bool.{and_parts}
use Rattle.std.proofs.Math.Seq.{take-append_seam, drop-append_seam}
use Rattle.x86_values.specs.declared.Bits.{Bits}
use Rattle.intel_words.specs.declared.words.SizeName.{SizeName}
use Rattle.intel_words.specs.declared.words.SizeName.TheVariants.{None as NoSize, Byte, Word, Dword, Qword, Tbyte, Xmmword, Ymmword, Far16, Far32, Far64}
use Rattle.intel_words.specs.Pieces.{piece_text, pieces_text, size_front, sized_piece, sized_pieces_text}
use Rattle.intel_reader.specs.declared.sizes.SizeSet.{SizeSet}
use Rattle.intel_reader.specs.Assembled.{IsNoText}
use Rattle.intel_reader.specs.Sizes.{has_size}
use Rattle.assembly_text.specs.declared.drafts.Draft.{Draft}
use Rattle.assembly_text.specs.declared.drafts.Place.{Place}
use Rattle.assembly_text.specs.declared.drafts.Place.TheVariants.{Front, Inside, Behind}
use Rattle.assembly_text.specs.declared.statements.Statement.{Statement}
use Rattle.assembly_text.specs.declared.statements.Width.{Width}
use Rattle.assembly_text.specs.declared.statements.Width.TheVariants.{W64}
use Rattle.assembly_text.specs.declared.sizing.PieceLengths.{PieceLengths}
use Rattle.assembly_text.specs.Drafts.{has_no_size}
use Rattle.assembly_text.specs.Names.{head_text}
use Rattle.assembly_text.specs.Statements.{size_text, size_or, segment_text, inside_text, address_text, plain_text, operand_text, part_text, full_text, is_empty, has_negative, is_unsized_part, widths_of}
use Rattle.assembly_text.specs.Readings.{IsFirstRead}
use Rattle.assembly_text.specs.Sizing.{only_of, unsized_operand, piece_of, pieces_of, is_shown, are_shown, may_fit, AreLengths, LeavesOut, BeginWithHead}

-- ---- one operand

-- the words of sizes are the same
front_is : (size : SizeName) → size_front size ≡ size_text size
unfolding size_front size_text
front_is NoSize = refl
front_is Byte = refl
front_is Word = refl
front_is Dword = refl
front_is Qword = refl
front_is Tbyte = refl
front_is Xmmword = refl
front_is Ymmword = refl
front_is Far16 = refl
front_is Far32 = refl
front_is Far64 = refl

-- a piece with bytes stands behind what separates it
shown_piece : (between piece : List ℕ) → is_empty piece ≡ false → piece_text between piece ≡ between ++ piece
unfolding piece_text is_empty
shown_piece between [] h = absurd cc
shown_piece between (c ∷ cs) h = refl

-- in front of bytes there may be others
front_shown : (front piece : List ℕ) → is_empty piece ≡ false → is_empty (front ++ piece) ≡ false
unfolding is_empty
front_shown [] piece h = h
front_shown (c ∷ cs) piece h = refl

-- an address without a size has the one that is given
given_size : (own size : SizeName) → has_no_size own ≡ true → size_text (size_or own size) ≡ size_front size
unfolding size_or
given_size NoSize size h = sym (front_is size)
given_size Byte size h = absurd cc
given_size Word size h = absurd cc
given_size Dword size h = absurd cc
given_size Qword size h = absurd cc
given_size Tbyte size h = absurd cc
given_size Xmmword size h = absurd cc
given_size Ymmword size h = absurd cc
given_size Far16 size h = absurd cc
given_size Far32 size h = absurd cc
given_size Far64 size h = absurd cc

-- one with a size keeps it
own_size : (own size other : SizeName) → has_no_size own ≡ false → size_or own size ≡ size_or own other
unfolding size_or
own_size NoSize size other h = absurd cc
own_size Byte size other h = refl
own_size Word size other h = refl
own_size Dword size other h = refl
own_size Qword size other h = refl
own_size Tbyte size other h = refl
own_size Xmmword size other h = refl
own_size Ymmword size other h = refl
own_size Far16 size other h = refl
own_size Far32 size other h = refl
own_size Far64 size other h = refl

-- an address without a size is its size and its text without one
unsized_text : (bits : Bits) (size : SizeName) (d : Draft) → has_no_size d.size ≡ true
    → address_text bits size d ≡ size_front size ++ address_text bits NoSize d
unfolding address_text size_front
unsized_text bits size d h =
    let rest = segment_text d.seg ++ (codes "[" ++ (inside_text bits d ++ codes "]")) in
    let bare : size_text (size_or d.size NoSize) ++ rest ≡ rest = ap (λ (x : List ℕ). x ++ rest) (given_size d.size NoSize h) in
    ap (λ (x : List ℕ). x ++ rest) (given_size d.size size h) ∙ ap (λ (x : List ℕ). size_front size ++ x) (sym bare)

-- an address with a size stays
same_text : (bits : Bits) (size : SizeName) (d : Draft) → has_no_size d.size ≡ false → address_text bits size d ≡ address_text bits NoSize d
unfolding address_text
same_text bits size d h =
    let rest = segment_text d.seg ++ (codes "[" ++ (inside_text bits d ++ codes "]")) in
    ap (λ (x : SizeName). size_text x ++ rest) (own_size d.size size NoSize h)

-- a text with a size in front, if it is to have one
sized_by : Bool → SizeName → List ℕ → List ℕ
sized_by b size piece = if b then size_front size ++ piece else piece

-- the text of an operand by its place
operand_at : Bits → SizeName → Draft → Place → List ℕ
operand_at bits size d p = elim p [ Behind ↦ address_text bits size d | _ ↦ plain_text W64 d ]

-- whether it is an address without a size
unsized_at : Draft → Place → Bool
unsized_at d p = elim p [ Behind ↦ has_no_size d.size | _ ↦ false ]

-- an operand at a place, with a size and without one
by_place : (p : Place) (b : Bool) (bits : Bits) (size : SizeName) (d : Draft) → unsized_at d p ≡ b
    → operand_at bits size d p ≡ sized_by b size (operand_at bits NoSize d p)
unfolding operand_at unsized_at sized_by
by_place Behind true bits size d h = unsized_text bits size d h
by_place Behind false bits size d h = same_text bits size d h
by_place Front true bits size d h = absurd cc
by_place Front false bits size d h = refl
by_place Inside true bits size d h = absurd cc
by_place Inside false bits size d h = refl

-- an operand, with a size and without one
operand_by : (b : Bool) (bits : Bits) (size : SizeName) (d : Draft) → is_unsized_part (Some d) ≡ b
    → operand_text bits size W64 d ≡ sized_by b size (operand_text bits NoSize W64 d)
unfolding operand_text is_unsized_part operand_at unsized_at
operand_by b bits size d h = by_place d.place b bits size d h

-- a text with a size has bytes
sized_shown : (b : Bool) (size : SizeName) (piece : List ℕ) → is_empty piece ≡ false → is_empty (sized_by b size piece) ≡ false
unfolding sized_by
sized_shown true size piece h = front_shown (size_front size) piece h
sized_shown false size piece h = h

-- not false is true
not_true : (b : Bool) → not b ≡ true → b ≡ false
not_true true h = absurd cc
not_true false h = refl

-- an operand behind what separates it, by its piece
part_by : (b : Bool) (bits : Bits) (size : SizeName) (between : List ℕ) (part : Option Draft)
    → is_unsized_part part ≡ b → is_shown part (piece_of bits part) ≡ true
    → part_text bits size W64 between part ≡ piece_text between (sized_by b size (piece_of bits part))
unfolding part_text piece_text piece_of is_shown is_unsized_part sized_by
part_by true bits size between None h shown = absurd cc
part_by false bits size between None h shown = refl
part_by b bits size between (Some d) h shown =
    let some : is_empty (operand_text bits NoSize W64 d) ≡ false = not_true (is_empty (operand_text bits NoSize W64 d)) shown in
    ap (λ (x : List ℕ). between ++ x) (operand_by b bits size d h)
    ∙ sym (shown_piece between (sized_by b size (operand_text bits NoSize W64 d)) (sized_shown b size (operand_text bits NoSize W64 d) some))

-- operand k of a statement of which operand n is the only address without a size
part_is : (n k : ℕ) (bits : Bits) (size : SizeName) (between : List ℕ) (part : Option Draft)
    → is_unsized_part part ≡ (n == k) → is_shown part (piece_of bits part) ≡ true
    → part_text bits size W64 between part ≡ piece_text between (sized_piece size n k (piece_of bits part))
unfolding sized_piece sized_by
part_is n k bits size between part h shown = part_by (n == k) bits size between part h shown

-- ---- the whole text

-- equal numbers
some_is : (m n : ℕ) → Some m ≡ Some n → m ≡ n
some_is m n h = cc

-- of four only this one holds
abbrev HoldsAt : Bool → Bool → Bool → Bool → ℕ → Type 0
HoldsAt a b c d n = (a ≡ (n == 0)) × (b ≡ (n == 1)) × (c ≡ (n == 2)) × (d ≡ (n == 3))

-- which of four holds
only_is : (a b c d : Bool) (n : ℕ) → only_of a b c d ≡ Some n → HoldsAt a b c d n
unfolding only_of
only_is true true true true n h = absurd cc
only_is true true true false n h = absurd cc
only_is true true false true n h = absurd cc
only_is true true false false n h = absurd cc
only_is true false true true n h = absurd cc
only_is true false true false n h = absurd cc
only_is true false false true n h = absurd cc
only_is true false false false n h = subst (λ (m : ℕ). HoldsAt true false false false m) (some_is 0 n h) (refl, refl, refl, refl)
only_is false true true true n h = absurd cc
only_is false true true false n h = absurd cc
only_is false true false true n h = absurd cc
only_is false true false false n h = subst (λ (m : ℕ). HoldsAt false true false false m) (some_is 1 n h) (refl, refl, refl, refl)
only_is false false true true n h = absurd cc
only_is false false true false n h = subst (λ (m : ℕ). HoldsAt false false true false m) (some_is 2 n h) (refl, refl, refl, refl)
only_is false false false true n h = subst (λ (m : ℕ). HoldsAt false false false true m) (some_is 3 n h) (refl, refl, refl, refl)
only_is false false false false n h = absurd cc

-- a choice that gives something
chosen : (b : Bool) (x : Option ℕ) (n : ℕ) → (if b then None else x) ≡ Some n → (b ≡ false) × (x ≡ Some n)
chosen true x n h = absurd cc
chosen false x n h = (refl, h)

-- no number is below 0, and only operand n is an address without a size
operand_is : (s : Statement) (n : ℕ) → unsized_operand s ≡ Some n
    → (has_negative s ≡ false)
    × HoldsAt (is_unsized_part s.first) (is_unsized_part s.second) (is_unsized_part s.third) (is_unsized_part s.fourth) n
unfolding unsized_operand
operand_is s n h =
    let whole = only_of (is_unsized_part s.first) (is_unsized_part s.second) (is_unsized_part s.third) (is_unsized_part s.fourth) in
    let parts = chosen (has_negative s) whole n h in
    (parts.0, only_is (is_unsized_part s.first) (is_unsized_part s.second) (is_unsized_part s.third) (is_unsized_part s.fourth) n parts.1)

-- the texts of four operands
abbrev AreAllShown : Bits → Statement → Type 0
AreAllShown bits s = are_shown s (piece_of bits s.first) (piece_of bits s.second) (piece_of bits s.third) (piece_of bits s.fourth) ≡ true

-- the printer's text with a size, by its pieces
full_is : (bits : Bits) (size : SizeName) (low : List ℕ) (s : Statement) (n : ℕ) → unsized_operand s ≡ Some n → AreAllShown bits s
    → full_text bits size W64 low s
    ≡ sized_pieces_text size n (head_text low) (piece_of bits s.first) (piece_of bits s.second) (piece_of bits s.third) (piece_of bits s.fourth)
unfolding full_text sized_pieces_text pieces_text are_shown
full_is bits size low s n one shown =
    let k = (operand_is s n one).1 in
    let p = and_parts (is_shown s.first (piece_of bits s.first)) _ shown in
    let q = and_parts (is_shown s.second (piece_of bits s.second)) _ p.1 in
    let r = and_parts (is_shown s.third (piece_of bits s.third)) _ q.1 in
    let a = part_is n 0 bits size (codes " ") s.first k.0 p.0 in
    let b = part_is n 1 bits size (codes ", ") s.second k.1 q.0 in
    let c = part_is n 2 bits size (codes ", ") s.third k.2 r.0 in
    let d = part_is n 3 bits size (codes ", ") s.fourth k.3 r.1 in
    rw (a, b, c, d) refl

-- the only width
width_is : (s : Statement) → has_negative s ≡ false → widths_of s ≡ W64 ∷ []
unfolding widths_of
width_is s h = rw h refl

-- with a size with which the text has no instruction no width has one
left_out : (bits : Bits) (ip : ℕ) (low : List ℕ) (s : Statement) (set : SizeSet) (n : ℕ) → unsized_operand s ≡ Some n → AreAllShown bits s
    → ((size : SizeName) → has_size set size ≡ false
    → IsNoText bits ip (sized_pieces_text size n (head_text low) (piece_of bits s.first) (piece_of bits s.second) (piece_of bits s.third)
    (piece_of bits s.fourth)))
    → LeavesOut bits ip low s (Some set)
unfolding may_fit
left_out bits ip low s set n one shown none = λ size out.
    subst (λ (ws : List Width). IsFirstRead bits ip low s size ws None) (sym (width_is s (operand_is s n one).0))
    (inr (subst (λ (t : List ℕ). IsNoText bits ip t) (sym (full_is bits size low s n one shown)) (none size out), refl))

-- where nothing is known no size is left out
pub none_out : (bits : Bits) (ip : ℕ) (low : List ℕ) (s : Statement) → LeavesOut bits ip low s None
unfolding may_fit
none_out bits ip low s = λ size out. absurd cc

-- ---- cutting

-- a text is cut behind its front
cut : (front rest text : List ℕ) (len : ℕ) → text ≡ front ++ rest → len ≡ length front → (take len text ≡ front) × (drop len text ≡ rest)
cut front rest text len e h = (rw (e, h) (take-append_seam front rest), rw (e, h) (drop-append_seam front rest))

-- the operands of a text, cut apart
pub are_pieces : (bits : Bits) (s : Statement) (text : List ℕ) (lens : PieceLengths) → text ≡ pieces_of bits s → AreLengths bits s lens
    → (take lens.first text ≡ piece_of bits s.first) × (take lens.second (drop lens.first text) ≡ piece_of bits s.second)
    × (take lens.third (drop lens.second (drop lens.first text)) ≡ piece_of bits s.third)
    × (drop lens.third (drop lens.second (drop lens.first text)) ≡ piece_of bits s.fourth)
unfolding pieces_of
are_pieces bits s text lens e h =
    let one = cut (piece_of bits s.first) _ text lens.first e h.0 in
    let two = cut (piece_of bits s.second) _ (drop lens.first text) lens.second one.1 h.1 in
    let three = cut (piece_of bits s.third) _ (drop lens.second (drop lens.first text)) lens.third two.1 h.2 in
    (one.0, two.0, three.0, three.1)

-- the first three are within it
pub are_within : (bits : Bits) (s : Statement) (text : List ℕ) (lens : PieceLengths) → text ≡ pieces_of bits s → AreLengths bits s lens
    → lens.first + (lens.second + lens.third) ≤ length text
unfolding pieces_of
are_within bits s text lens e h =
    let a = piece_of bits s.first in
    let b = piece_of bits s.second in
    let c = piece_of bits s.third in
    let d = piece_of bits s.fourth in
    rw e (omega (arith, h.0, h.1, h.2, length-append a (b ++ (c ++ d)), length-append b (c ++ d), length-append c d))

-- the same for equal pieces
pub left_out_by : (bits : Bits) (ip : ℕ) (low : List ℕ) (s : Statement) (set : SizeSet) (n : ℕ) (head a b c d : List ℕ) → unsized_operand s ≡ Some n
    → head ≡ head_text low → a ≡ piece_of bits s.first → b ≡ piece_of bits s.second → c ≡ piece_of bits s.third → d ≡ piece_of bits s.fourth
    → are_shown s a b c d ≡ true → ((size : SizeName) → has_size set size ≡ false → IsNoText bits ip (sized_pieces_text size n head a b c d))
    → LeavesOut bits ip low s (Some set)
left_out_by bits ip low s set n head a b c d one eh ea eb ec ed shown none =
    left_out bits ip low s set n one (rw (ea, eb, ec, ed) at shown) (λ size out. rw (eh, ea, eb, ec, ed) at (none size out))

-- the operands one behind the other, behind the head
pub joined_pieces : (bits : Bits) (s : Statement) (head none one two three four : List ℕ) → none ≡ head
    → one ≡ none ++ piece_of bits s.first → two ≡ one ++ piece_of bits s.second
    → three ≡ two ++ piece_of bits s.third → four ≡ three ++ piece_of bits s.fourth → four ≡ head ++ pieces_of bits s
unfolding pieces_of
joined_pieces bits s head none one two three four e a b c d = rw (d, c, b, a, e) (simp append_assoc)

-- ---- the head

-- bytes in front of others
with_rest : (low rest bytes : List ℕ) (len : ℕ) → bytes ≡ head_text low ++ rest → len ≡ length (head_text low) → BeginWithHead low bytes len
with_rest low rest bytes len e h = (h, (cut (head_text low) rest bytes len e h).0)

-- the printer's text begins with it
pub full_head : (bits : Bits) (size : SizeName) (w : Width) (low : List ℕ) (s : Statement) (bytes : List ℕ) (len : ℕ)
    → bytes ≡ full_text bits size w low s → len ≡ length (head_text low) → BeginWithHead low bytes len
unfolding full_text
full_head bits size w low s bytes len e h = with_rest low _ bytes len e h
