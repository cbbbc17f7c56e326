-- An instruction of whose addresses no symbol is known: none is known of a piece of its text.
use Rattle.std.proofs.Common.{◌≡◌, ℕ, Bool, true, false, List, [], ◌∷◌, ◌++◌, Option, Some, None, slice_get, refl, ap, sym, ◌∙◌}
use Rattle.std.specs.Prelude.{not, is_some, ◌&&◌, ◌||◌, if◌then◌else◌, ◌==◌, codes}
use Rattle.x86_values.specs.declared.Bits.{Bits}
use Rattle.x86_values.specs.declared.Bits.TheVariants.{B16, B32, B64}
use Rattle.x86_values.specs.declared.Rep.{Rep}
use Rattle.x86_values.specs.declared.Rep.TheVariants.{None as NoRep, F2, F3}
use Rattle.x86_values.specs.declared.Segment.{Segment}
use Rattle.x86_values.specs.declared.Register.{Register}
use Rattle.x86_values.specs.declared.Register.TheVariants.{Low8, High8, R16, R32, R64, Seg, Cr, Dr, St, Mm, Xmm, Ymm, Eip, Rip}
use Rattle.x86_values.specs.declared.DispSize.{DispSize}
use Rattle.x86_values.specs.declared.DispSize.TheVariants.{D0, D8, D16, D32, D64}
use Rattle.x86_values.specs.declared.Mem.{Mem}
use Rattle.x86_values.specs.declared.Operand.{Operand}
use Rattle.x86_values.specs.declared.Operand.TheVariants.{Absent as AbsentOperand, Reg, Mem as MemOperand, Imm, Near, Far}
use Rattle.x86_values.specs.declared.Instr.{Instr}
use Rattle.instruction_parts.specs.declared.row_types.Row.{Row}
use Rattle.opcode_rows.specs.Table.{table, name_of}
use Rattle.text_parts.specs.declared.style.Style.{Style}
use Rattle.text_parts.specs.declared.style.Style.TheVariants.{Intel, Masm, Att}
use Rattle.text_parts.specs.Addresses.{is_relative, is_instruction_pointer, is_absolute, is_negative, magnitude, sign}
use Rattle.text_parts.specs.Registers.{segment_name}
use Rattle.text_parts.specs.PrefixWords.{shows_memory, needs_address_word, text_address_size}
use Rattle.text_parts.specs.Layout.{operand_size_name, nth_operand}
use Rattle.att_text.specs.Operands.{is_last}
use Rattle.text_pieces.specs.Tokens.{Token, punctuation, operator}
use Rattle.text_pieces.specs.Numbers.{immediate, near_target, far_selector, far_offset, displacement, address, index_scale, number_pieces}
use Rattle.text_pieces.specs.Words.{lock_pieces, repeat_pieces, segment_pieces, sized_pieces, word_pieces, address_pieces, worded_size, operand_size_pieces, prefix_pieces}
use Rattle.text_pieces.specs.Addresses.{signed_pieces, lone_pieces, relative_pieces, base_pieces, joint_pieces, scale_mark, scale_pieces, index_pieces, register_pieces, sum_pieces, inside_pieces, override_pieces, bracket_segment_pieces, bracketed_pieces}
use Rattle.text_pieces.specs.Layout.{behind_pieces, named_pieces, separator_pieces, far_pieces, operand_pieces, part_pieces, bracket_pieces}
use Rattle.text_pieces.specs.AttLayout.{att_index_pieces, att_register_pieces, att_relative_pieces, att_address_pieces, att_memory_pieces, att_far_pieces, att_operand_pieces, att_part_pieces, att_pieces}
use Rattle.text_pieces.specs.Pieces.{parts_of, parts_in, pieces_of, text_of}
use Rattle.text_options.specs.Answers.{Answer, Answers}
use Rattle.text_options.specs.Symbolic.{asked}
use Rattle.text_options.specs.Defaults.{default_options}
use Rattle.text_options.specs.Unnamed.{is_unnamed, are_unnamed}
use Rattle.text_options.specs.Changed.{text_by}
use Rattle.text_options.proofs.Unasked.{AreUnasked, unasked-append, unasked-full, unasked-if}
use Rattle.text_options.proofs.Plain.{unasked-text}

-- ---- answers

no-answer : (o : Option Answer) → not (is_some o) ≡ true → o ≡ None
no-answer None h = refl
no-answer (Some a) h = absurd (cc)

both-left : (a b : Bool) → (a && b) ≡ true → a ≡ true
both-left true b h = refl
both-left false b h = h

both-right : (a b : Bool) → (a && b) ≡ true → b ≡ true
both-right true b h = h
both-right false b h = absurd (cc)

-- ---- prefixes

lock-unasked : (names : Answers) (b : Bool) → AreUnasked names (lock_pieces b)
unfolding lock_pieces
lock-unasked names true = (tt, (tt, tt))
lock-unasked names false = tt

repeat-unasked : (names : Answers) (r : Rep) → AreUnasked names (repeat_pieces r)
unfolding repeat_pieces
repeat-unasked names NoRep = tt
repeat-unasked names F2 = (tt, (tt, tt))
repeat-unasked names F3 = (tt, (tt, tt))

segment-by : (names : Answers) (o : Option Segment) → AreUnasked names (elim o [ None ↦ [] | Some s ↦ word_pieces (segment_name s) ])
segment-by names None = tt
segment-by names (Some s) = (tt, (tt, tt))

segment-unasked : (names : Answers) (i : Instr) → AreUnasked names (segment_pieces i)
unfolding segment_pieces
segment-unasked names i = unasked-if names (shows_memory i) _ _ tt (segment-by names i.seg)

sized-unasked : (names : Answers) (letter : List ℕ) (size : Bits) → AreUnasked names (sized_pieces letter size)
unfolding sized_pieces
sized-unasked names letter size = (tt, (tt, tt))

address-by : (names : Answers) (bits : Bits) (name : List ℕ) (i : Instr) (o : Option Bits)
    → AreUnasked names (elim o [
      | None ↦ []
      | Some size ↦ if needs_address_word bits size name i then sized_pieces (codes "a") size else []
    ])
address-by names bits name i None = tt
address-by names bits name i (Some size) = unasked-if names (needs_address_word bits size name i) _ _ (sized-unasked names _ size) tt

address-unasked : (names : Answers) (bits : Bits) (name : List ℕ) (i : Instr) → AreUnasked names (address_pieces bits name i)
unfolding address_pieces
address-unasked names bits name i = address-by names bits name i i.asize

size-by : (names : Answers) (o : Option Bits) → AreUnasked names (elim o [ None ↦ [] | Some size ↦ sized_pieces (codes "o") size ])
size-by names None = tt
size-by names (Some size) = sized-unasked names _ size

size-unasked : (names : Answers) (bits : Bits) (row : Row) → AreUnasked names (operand_size_pieces bits row)
unfolding operand_size_pieces
size-unasked names bits row = size-by names (worded_size bits row)

prefix-unasked : (names : Answers) (bits : Bits) (row : Row) (name : List ℕ) (i : Instr) → AreUnasked names (prefix_pieces bits row name i)
unfolding prefix_pieces
prefix-unasked names bits row name i =
    unasked-append names (lock_pieces i.lock) _ (lock-unasked names i.lock)
    (unasked-append names (repeat_pieces i.rep) _ (repeat-unasked names i.rep)
    (unasked-append names (segment_pieces i) _ (segment-unasked names i)
    (unasked-append names (address_pieces bits name i) _ (address-unasked names bits name i) (size-unasked names bits row))))

-- ---- addresses

signed-by : (names : Answers) (style : Style) (asize : Bits) (n : ℕ) (m : Mem) (d : DispSize)
    → AreUnasked names (elim d [
      | D0 ↦ []
      | _ ↦ operator n (sign style (is_negative asize m.disp)) ++ number_pieces style n (magnitude asize m.disp) (displacement asize m)
    ])
unfolding asked
signed-by names style asize n m D0 = tt
signed-by names style asize n m D8 = (tt, (refl, tt))
signed-by names style asize n m D16 = (tt, (refl, tt))
signed-by names style asize n m D32 = (tt, (refl, tt))
signed-by names style asize n m D64 = (tt, (refl, tt))

signed-unasked : (names : Answers) (style : Style) (asize : Bits) (n : ℕ) (m : Mem) → AreUnasked names (signed_pieces style asize n m)
unfolding signed_pieces
signed-unasked names style asize n m = signed-by names style asize n m m.disp_size

address-asked : (names : Answers) (asize : Bits) (m : Mem) → names m.disp ≡ None → asked names (address asize m) ≡ None
unfolding asked
address-asked names asize m h = h

lone-by : (names : Answers) (style : Style) (asize : Bits) (n : ℕ) (m : Mem) (d : DispSize) → names m.disp ≡ None
    → AreUnasked names (elim d [ D0 ↦ [] | _ ↦ number_pieces style n m.disp (address asize m) ])
lone-by names style asize n m D0 h = tt
lone-by names style asize n m D8 h = (address-asked names asize m h, tt)
lone-by names style asize n m D16 h = (address-asked names asize m h, tt)
lone-by names style asize n m D32 h = (address-asked names asize m h, tt)
lone-by names style asize n m D64 h = (address-asked names asize m h, tt)

lone-unasked : (names : Answers) (style : Style) (asize : Bits) (n : ℕ) (m : Mem) → names m.disp ≡ None → AreUnasked names (lone_pieces style asize n m)
unfolding lone_pieces
lone-unasked names style asize n m h = lone-by names style asize n m m.disp_size h

word-unasked : (names : Answers) (n : ℕ) (base : Option Register) → AreUnasked names (relative_pieces Intel n base)
unfolding relative_pieces
word-unasked names n None = (tt, (tt, tt))
word-unasked names n (Some Eip) = (tt, (tt, tt))
word-unasked names n (Some (Low8 k)) = (tt, (tt, tt))
word-unasked names n (Some (High8 k)) = (tt, (tt, tt))
word-unasked names n (Some (R16 k)) = (tt, (tt, tt))
word-unasked names n (Some (R32 k)) = (tt, (tt, tt))
word-unasked names n (Some (R64 k)) = (tt, (tt, tt))
word-unasked names n (Some (Seg k)) = (tt, (tt, tt))
word-unasked names n (Some (Cr k)) = (tt, (tt, tt))
word-unasked names n (Some (Dr k)) = (tt, (tt, tt))
word-unasked names n (Some (St k)) = (tt, (tt, tt))
word-unasked names n (Some (Mm k)) = (tt, (tt, tt))
word-unasked names n (Some (Xmm k)) = (tt, (tt, tt))
word-unasked names n (Some (Ymm k)) = (tt, (tt, tt))
word-unasked names n (Some Rip) = (tt, (tt, tt))

relative-unasked : (names : Answers) (style : Style) (n : ℕ) (base : Option Register) → AreUnasked names (relative_pieces style n base)
unfolding relative_pieces
relative-unasked names Intel n base = word-unasked names n base
relative-unasked names Masm n base = tt
relative-unasked names Att n base = tt

base-unasked : (names : Answers) (style : Style) (n : ℕ) (base : Option Register) → AreUnasked names (base_pieces style n base)
unfolding base_pieces
base-unasked names style n None = tt
base-unasked names style n (Some r) = (tt, tt)

joint-unasked : (names : Answers) (n : ℕ) (base : Option Register) → AreUnasked names (joint_pieces n base)
unfolding joint_pieces
joint-unasked names n None = tt
joint-unasked names n (Some r) = (tt, tt)

mark-unasked : (names : Answers) (style : Style) (n : ℕ) → AreUnasked names (scale_mark style n)
unfolding scale_mark
mark-unasked names Intel n = (tt, tt)
mark-unasked names Masm n = (tt, tt)
mark-unasked names Att n = (tt, tt)

scale-asked : (names : Answers) (m : Mem) → asked names (index_scale m) ≡ None
unfolding asked
scale-asked names m = refl

scale-unasked : (names : Answers) (style : Style) (asize : Bits) (n : ℕ) (m : Mem) → AreUnasked names (scale_pieces style asize n m)
unfolding scale_pieces
scale-unasked names style B16 n m = tt
scale-unasked names style B32 n m = unasked-append names (scale_mark style n) _ (mark-unasked names style n) (scale-asked names m, tt)
scale-unasked names style B64 n m = unasked-append names (scale_mark style n) _ (mark-unasked names style n) (scale-asked names m, tt)

index-by : (names : Answers) (style : Style) (asize : Bits) (n : ℕ) (m : Mem) (o : Option Register)
    → AreUnasked names (elim o [ None ↦ [] | Some r ↦ joint_pieces n m.base ++ (register_pieces style n r ++ scale_pieces style asize n m) ])
index-by names style asize n m None = tt
index-by names style asize n m (Some r) = unasked-append names (joint_pieces n m.base) _ (joint-unasked names n m.base) (tt, scale-unasked names style asize n m)

index-unasked : (names : Answers) (style : Style) (asize : Bits) (n : ℕ) (m : Mem) → AreUnasked names (index_pieces style asize n m)
unfolding index_pieces
index-unasked names style asize n m = index-by names style asize n m m.index

sum-unasked : (names : Answers) (style : Style) (asize : Bits) (n : ℕ) (m : Mem) → AreUnasked names (sum_pieces style asize n m)
unfolding sum_pieces
sum-unasked names style asize n m =
    unasked-append names (base_pieces style n m.base) _ (base-unasked names style n m.base)
    (unasked-append names (index_pieces style asize n m) _ (index-unasked names style asize n m) (signed-unasked names style asize n m))

-- ---- what an operand says of its address

-- memory whose address is named, and no symbol of it known
pub record IsQuiet (names : Answers) (m : Mem) : Type 0 where
  pub relative : is_relative m ≡ true → names m.disp ≡ None
  pub absolute : is_absolute m ≡ true → names m.disp ≡ None

quiet-relative : (names : Answers) (m : Mem) (b c : Bool) → (if b || c then not (is_some (names m.disp)) else true) ≡ true → b ≡ true → names m.disp ≡ None
quiet-relative names m true c h e = no-answer (names m.disp) h
quiet-relative names m false c h e = absurd (cc)

quiet-absolute : (names : Answers) (m : Mem) (b c : Bool) → (if b || c then not (is_some (names m.disp)) else true) ≡ true → c ≡ true → names m.disp ≡ None
quiet-absolute names m true c h e = no-answer (names m.disp) h
quiet-absolute names m false true h e = no-answer (names m.disp) h
quiet-absolute names m false false h e = absurd (cc)

quiet-memory : (names : Answers) (m : Mem) → is_unnamed names (MemOperand m) ≡ true → IsQuiet names m
unfolding is_unnamed
quiet-memory names m h = record {
  relative = λ e. quiet-relative names m (is_instruction_pointer m.base) (is_absolute m) h e;
  absolute = λ e. quiet-absolute names m (is_instruction_pointer m.base) (is_absolute m) h e;
}

-- ---- brackets

inside-by : (names : Answers) (style : Style) (asize : Bits) (n : ℕ) (m : Mem) (b c : Bool) → (b ≡ true → names m.disp ≡ None) → (c ≡ true → names m.disp ≡ None)
    → AreUnasked names (if b then relative_pieces style n m.base ++ number_pieces style n m.disp (address asize m)
    else (if c then lone_pieces style asize n m else sum_pieces style asize n m))
inside-by names style asize n m true c h k =
    unasked-append names (relative_pieces style n m.base) _ (relative-unasked names style n m.base) (address-asked names asize m (h refl), tt)
inside-by names style asize n m false true h k = lone-unasked names style asize n m (k refl)
inside-by names style asize n m false false h k = sum-unasked names style asize n m

inside-unasked : (names : Answers) (style : Style) (asize : Bits) (n : ℕ) (m : Mem) → IsQuiet names m → AreUnasked names (inside_pieces style asize n m)
unfolding inside_pieces
inside-unasked names style asize n m q = inside-by names style asize n m (is_relative m) (is_absolute m) q.relative q.absolute

override-unasked : (names : Answers) (style : Style) (n : ℕ) (seg : Option Segment) → AreUnasked names (override_pieces style n seg)
unfolding override_pieces
override-unasked names style n None = tt
override-unasked names style n (Some s) = (tt, (tt, tt))

bracket_segment-unasked : (names : Answers) (style : Style) (n : ℕ) (seg : Option Segment) (m : Mem) → AreUnasked names (bracket_segment_pieces style n seg m)
unfolding bracket_segment_pieces
bracket_segment-unasked names Masm n None m = unasked-if names (is_absolute m) _ _ (tt, (tt, tt)) tt
bracket_segment-unasked names Masm n (Some s) m = override-unasked names Masm n (Some s)
bracket_segment-unasked names Intel n seg m = override-unasked names Intel n seg
bracket_segment-unasked names Att n seg m = override-unasked names Att n seg

bracketed-unasked : (names : Answers) (style : Style) (seg : Option Segment) (asize : Bits) (n : ℕ) (m : Mem) → IsQuiet names m
    → AreUnasked names (bracketed_pieces style seg asize n m)
unfolding bracketed_pieces
bracketed-unasked names style seg asize n m q =
    unasked-append names (bracket_segment_pieces style n seg m) _ (bracket_segment-unasked names style n seg m)
    (tt, unasked-append names (inside_pieces style asize n m) _ (inside-unasked names style asize n m q) (tt, tt))

-- ---- operands in brackets

behind-unasked : (names : Answers) (style : Style) (n : ℕ) → AreUnasked names (behind_pieces style n)
unfolding behind_pieces
behind-unasked names Intel n = (tt, tt)
behind-unasked names Masm n = (tt, (tt, (tt, tt)))
behind-unasked names Att n = (tt, tt)

named-unasked : (names : Answers) (style : Style) (n : ℕ) (name : List ℕ) → AreUnasked names (named_pieces style n name)
unfolding named_pieces
named-unasked names style n [] = tt
named-unasked names style n (c ∷ cs) = (tt, behind-unasked names style n)

separator-unasked : (names : Answers) (first : Bool) (op : Operand) → AreUnasked names (separator_pieces first op)
unfolding separator_pieces
separator-unasked names first AbsentOperand = tt
separator-unasked names true (Reg r) = (tt, tt)
separator-unasked names true (MemOperand m) = (tt, tt)
separator-unasked names true (Imm x) = (tt, tt)
separator-unasked names true (Near x) = (tt, tt)
separator-unasked names true (Far s o) = (tt, tt)
separator-unasked names false (Reg r) = (tt, (tt, tt))
separator-unasked names false (MemOperand m) = (tt, (tt, tt))
separator-unasked names false (Imm x) = (tt, (tt, tt))
separator-unasked names false (Near x) = (tt, (tt, tt))
separator-unasked names false (Far s o) = (tt, (tt, tt))

target-asked : (names : Answers) (bits : Bits) (row : Row) (x : ℕ) → is_unnamed names (Near x) ≡ true → asked names (near_target bits row x) ≡ None
unfolding is_unnamed asked
target-asked names bits row x h = no-answer (names x) h

immediate-asked : (names : Answers) (bits : Bits) (row : Row) (n x : ℕ) → asked names (immediate bits row n x) ≡ None
unfolding asked
immediate-asked names bits row n x = refl

selector-asked : (names : Answers) (x : ℕ) → asked names (far_selector x) ≡ None
unfolding asked
selector-asked names x = refl

offset-asked : (names : Answers) (row : Row) (x : ℕ) → asked names (far_offset row x) ≡ None
unfolding asked
offset-asked names row x = refl

operand-unasked : (names : Answers) (style : Style) (bits : Bits) (row : Row) (i : Instr) (n : ℕ) (op : Operand) → is_unnamed names op ≡ true
    → AreUnasked names (operand_pieces style bits row i n op)
unfolding operand_pieces far_pieces
operand-unasked names style bits row i n AbsentOperand h = tt
operand-unasked names style bits row i n (Reg r) h = (tt, tt)
operand-unasked names style bits row i n (Imm x) h = (immediate-asked names bits row n x, tt)
operand-unasked names style bits row i n (Near x) h = (target-asked names bits row x h, tt)
operand-unasked names style bits row i n (Far s o) h = (selector-asked names s, (tt, (offset-asked names row o, tt)))
operand-unasked names style bits row i n (MemOperand m) h =
    unasked-append names (named_pieces style n (operand_size_name row n)) _ (named-unasked names style n (operand_size_name row n))
    (bracketed-unasked names style i.seg (text_address_size bits i) n m (quiet-memory names m h))

part-unasked : (names : Answers) (style : Style) (bits : Bits) (row : Row) (i : Instr) (n : ℕ) → is_unnamed names (nth_operand i n) ≡ true
    → AreUnasked names (part_pieces style bits row i n)
unfolding part_pieces
part-unasked names style bits row i n h =
    unasked-append names (separator_pieces (n == 0) (nth_operand i n)) _ (separator-unasked names (n == 0) (nth_operand i n))
    (operand-unasked names style bits row i n (nth_operand i n) h)

-- no symbol is known of what any operand names
pub record AreQuiet (names : Answers) (i : Instr) : Type 0 where
  pub first : is_unnamed names (nth_operand i 0) ≡ true
  pub second : is_unnamed names (nth_operand i 1) ≡ true
  pub third : is_unnamed names (nth_operand i 2) ≡ true
  pub fourth : is_unnamed names (nth_operand i 3) ≡ true

bracket-unasked : (names : Answers) (style : Style) (bits : Bits) (row : Row) (name : List ℕ) (i : Instr) → AreQuiet names i
    → AreUnasked names (bracket_pieces style bits row name i)
unfolding bracket_pieces
bracket-unasked names style bits row name i q =
    unasked-append names (prefix_pieces bits row name i) _ (prefix-unasked names bits row name i) (
      tt,
      unasked-append names (part_pieces style bits row i 0) _ (part-unasked names style bits row i 0 q.first)
          (unasked-append names (part_pieces style bits row i 1) _ (part-unasked names style bits row i 1 q.second)
          (unasked-append names (part_pieces style bits row i 2) _ (part-unasked names style bits row i 2 q.third) (part-unasked names style bits row i 3 q.fourth))),
    )

-- ---- operands in AT&T

att_index-by : (names : Answers) (asize : Bits) (n : ℕ) (m : Mem) (o : Option Register)
    → AreUnasked names (elim o [ None ↦ [] | Some r ↦ punctuation n (codes ",") ++ (register_pieces Att n r ++ scale_pieces Att asize n m) ])
att_index-by names asize n m None = tt
att_index-by names asize n m (Some r) = (tt, (tt, scale-unasked names Att asize n m))

att_index-unasked : (names : Answers) (asize : Bits) (n : ℕ) (m : Mem) → AreUnasked names (att_index_pieces asize n m)
unfolding att_index_pieces
att_index-unasked names asize n m = att_index-by names asize n m m.index

att_registers-unasked : (names : Answers) (asize : Bits) (n : ℕ) (m : Mem) → AreUnasked names (att_register_pieces asize n m)
unfolding att_register_pieces
att_registers-unasked names asize n m = (
  tt,
  unasked-append names (base_pieces Att n m.base) _ (base-unasked names Att n m.base)
      (unasked-append names (att_index_pieces asize n m) _ (att_index-unasked names asize n m) (tt, tt)),
)

att_relative-unasked : (names : Answers) (asize : Bits) (n : ℕ) (m : Mem) → names m.disp ≡ None → AreUnasked names (att_relative_pieces asize n m)
unfolding att_relative_pieces
att_relative-unasked names asize n m h =
    (address-asked names asize m h, (tt, unasked-append names (base_pieces Att n m.base) _ (base-unasked names Att n m.base) (tt, tt)))

att_address-by : (names : Answers) (asize : Bits) (n : ℕ) (m : Mem) (b c : Bool) → (b ≡ true → names m.disp ≡ None) → (c ≡ true → names m.disp ≡ None)
    → AreUnasked names (if b then att_relative_pieces asize n m
    else (if c then lone_pieces Att asize n m else (signed_pieces Att asize n m ++ att_register_pieces asize n m)))
att_address-by names asize n m true c h k = att_relative-unasked names asize n m (h refl)
att_address-by names asize n m false true h k = lone-unasked names Att asize n m (k refl)
att_address-by names asize n m false false h k =
    unasked-append names (signed_pieces Att asize n m) _ (signed-unasked names Att asize n m) (att_registers-unasked names asize n m)

att_memory-unasked : (names : Answers) (seg : Option Segment) (asize : Bits) (n : ℕ) (m : Mem) → IsQuiet names m
    → AreUnasked names (att_memory_pieces seg asize n m)
unfolding att_memory_pieces att_address_pieces
att_memory-unasked names seg asize n m q =
    unasked-append names (override_pieces Att n seg) _ (override-unasked names Att n seg)
    (att_address-by names asize n m (is_relative m) (is_absolute m) q.relative q.absolute)

att_operand-unasked : (names : Answers) (bits : Bits) (row : Row) (i : Instr) (n : ℕ) (op : Operand) → is_unnamed names op ≡ true
    → AreUnasked names (att_operand_pieces bits row i n op)
unfolding att_operand_pieces att_far_pieces
att_operand-unasked names bits row i n AbsentOperand h = tt
att_operand-unasked names bits row i n (Reg r) h = (tt, tt)
att_operand-unasked names bits row i n (Imm x) h = (tt, (immediate-asked names bits row n x, tt))
att_operand-unasked names bits row i n (Near x) h = (target-asked names bits row x h, tt)
att_operand-unasked names bits row i n (Far s o) h = (tt, (selector-asked names s, (tt, (tt, (tt, (offset-asked names row o, tt))))))
att_operand-unasked names bits row i n (MemOperand m) h = att_memory-unasked names i.seg (text_address_size bits i) n m (quiet-memory names m h)

att_part-unasked : (names : Answers) (bits : Bits) (row : Row) (name : List ℕ) (i : Instr) (n : ℕ) → is_unnamed names (nth_operand i n) ≡ true
    → AreUnasked names (att_part_pieces bits row name i n)
unfolding att_part_pieces
att_part-unasked names bits row name i n h =
    unasked-append names (separator_pieces (is_last i n) (nth_operand i n)) _ (separator-unasked names (is_last i n) (nth_operand i n))
    (tt, att_operand-unasked names bits row i n (nth_operand i n) h)

att-unasked : (names : Answers) (bits : Bits) (row : Row) (name : List ℕ) (i : Instr) → AreQuiet names i → AreUnasked names (att_pieces bits row name i)
unfolding att_pieces
att-unasked names bits row name i q =
    unasked-append names (prefix_pieces bits row name i) _ (prefix-unasked names bits row name i) (
      tt,
      unasked-append names (att_part_pieces bits row name i 3) _ (att_part-unasked names bits row name i 3 q.fourth)
          (unasked-append names (att_part_pieces bits row name i 2) _ (att_part-unasked names bits row name i 2 q.third)
          (unasked-append names (att_part_pieces bits row name i 1) _ (att_part-unasked names bits row name i 1 q.second) (att_part-unasked names bits row name i 0 q.first))),
    )

-- ---- the whole text

parts-unasked : (names : Answers) (style : Style) (bits : Bits) (o : Option Row) (name : List ℕ) (i : Instr) → AreQuiet names i
    → AreUnasked names (parts_in style bits o name i)
unfolding parts_of
parts-unasked names style bits None name i q = tt
parts-unasked names Intel bits (Some row) name i q = bracket-unasked names Intel bits row name i q
parts-unasked names Masm bits (Some row) name i q = bracket-unasked names Masm bits row name i q
parts-unasked names Att bits (Some row) name i q = att-unasked names bits row name i q

pieces-unasked : (names : Answers) (style : Style) (bits : Bits) (i : Instr) → AreQuiet names i → AreUnasked names (pieces_of style bits i)
unfolding pieces_of
pieces-unasked names style bits i q =
    unasked-full names (parts_in style bits (slice_get table i.code.0) (name_of i.code.0) i)
    (parts-unasked names style bits (slice_get table i.code.0) (name_of i.code.0) i q)

quiet-by : (names : Answers) (i : Instr) → are_unnamed names i ≡ true → AreQuiet names i
quiet-by names i h =
    let rest = both-right (is_unnamed names (nth_operand i 0)) _ h in
    let last = both-right (is_unnamed names (nth_operand i 1)) _ rest in
    record {
      first = both-left (is_unnamed names (nth_operand i 0)) _ h;
      second = both-left (is_unnamed names (nth_operand i 1)) _ rest;
      third = both-left (is_unnamed names (nth_operand i 2)) _ last;
      fourth = both-right (is_unnamed names (nth_operand i 2)) _ last;
    }

-- the text by the default options is the printer's, if no symbol is known of an address that the instruction names
pub unnamed-text : (style : Style) (bits : Bits) (i : Instr) (end : ℕ) (names : Answers) → are_unnamed names i ≡ true
    → text_by style default_options bits i end names ≡ text_of style bits i
unnamed-text style bits i end names h = unasked-text style bits i end names (pieces-unasked names style bits i (quiet-by names i h))
