-- No operand has a comma in its text.
use Rattle.std.proofs.Common.{◌≡◌, ℕ, ◌<◌, Bool, true, false, List, [], ◌∷◌, ◌++◌, Option, Some, None, refl, ap, ◌∙◌, arith}
use Rattle.std.specs.Prelude.{nat_lt, if◌then◌else◌, codes}
use Rattle.std.specs.List.{list_all}
use Rattle.std.proofs.lemmas.Bool.{ltb-true, and_from, and_parts}
use Rattle.std.proofs.lemmas.Bool.Decides.{nat_tests}
use Rattle.x86_values.specs.declared.Bits.{Bits}
use Rattle.x86_values.specs.declared.Bits.TheVariants.{B16, B32, B64}
use Rattle.x86_values.specs.declared.Segment.{Segment}
use Rattle.x86_values.specs.declared.Segment.TheVariants.{Es, Cs, Ss, Ds, Fs, Gs}
use Rattle.x86_values.specs.declared.Register.{Register}
use Rattle.x86_values.specs.declared.Register.TheVariants.{Eip}
use Rattle.x86_values.specs.declared.DispSize.{DispSize}
use Rattle.x86_values.specs.declared.DispSize.TheVariants.{D0, D8, D16, D32, D64}
use Rattle.x86_values.specs.declared.Mem.{Mem}
use Rattle.x86_values.specs.declared.Operand.{Operand}
use Rattle.x86_values.specs.declared.Operand.TheVariants.{Absent as NoOperand, Reg as RegOperand, Mem as MemOperand, Imm, Near, Far as FarOperand}
use Rattle.x86_values.specs.declared.Instr.{Instr}
use Rattle.instruction_parts.specs.declared.row_types.Row.{Row}
use Rattle.text_parts.specs.declared.style.Style.TheVariants.{Intel}
use Rattle.text_parts.specs.Numbers.{number, decimal}
use Rattle.text_parts.specs.Registers.{register, segment_name, segment_override, sigil}
use Rattle.text_parts.specs.Addresses.{is_relative, is_absolute, is_negative, magnitude, sign, signed_displacement, lone_displacement, relative_word, base_text, joint, scale_text, index_text, sum_text, inside, bracket_segment, bracketed_address}
use Rattle.text_parts.specs.PrefixWords.{text_address_size}
use Rattle.text_parts.specs.Layout.{behind_size, size_word, bracket_operand}
use Rattle.intel_words.specs.declared.words.SizeName.{SizeName}
use Rattle.intel_words.specs.declared.words.SizeName.TheVariants.{None as NoSize, Byte, Word, Dword, Qword, Tbyte, Xmmword, Ymmword, Far16, Far32, Far64}
use Rattle.intel_words.specs.Words.{size_word_of}
use Rattle.x86_values.specs.Named.{is_named, is_named_if}
use Rattle.intel_words.specs.Printable.{is_printable_address, is_printable_operand}
use Rattle.intel_words.specs.Scanning.{is_word_byte, is_no_comma}
use Rattle.intel_words.proofs.Cutting.{all-both}
use Rattle.intel_words.proofs.NumberText.{number-bytes}
use Rattle.intel_words.proofs.RegisterText.{register-read}
use Rattle.intel_words.proofs.OneOperand.{size_text, size-of-text}
use Rattle.intel_words.proofs.Below.{agree-below}

-- a letter or a digit is no comma
byte-no-comma : (c : ℕ) → is_word_byte c ≡ true → is_no_comma c ≡ true
unfolding is_word_byte is_no_comma
byte-no-comma c h = grind (arith, nat_tests)

word-no-comma : (xs : List ℕ) → list_all is_word_byte xs ≡ true → list_all is_no_comma xs ≡ true
word-no-comma [] h = refl
word-no-comma (c ∷ cs) h =
    and_from (is_no_comma c) (list_all is_no_comma cs) (byte-no-comma c (and_parts (is_word_byte c) (list_all is_word_byte cs) h).0)
    (word-no-comma cs (and_parts (is_word_byte c) (list_all is_word_byte cs) h).1)

number-plain : (n : ℕ) → list_all is_no_comma (number Intel n) ≡ true
number-plain n = word-no-comma (number Intel n) (number-bytes n)

register-plain : (r : Register) → is_named r ≡ true → list_all is_no_comma (register Intel r) ≡ true
register-plain r h = let read = register-read r h in word-no-comma (register Intel r) read.bytes

-- ---- the parts of an address

base-plain : (b : Option Register) → is_named_if b ≡ true → list_all is_no_comma (base_text Intel b) ≡ true
unfolding base_text is_named_if
base-plain None h = refl
base-plain (Some r) h = register-plain r h

decimal-plain : (n : ℕ) → n < 10 → list_all is_no_comma (decimal n) ≡ true
unfolding decimal is_no_comma
decimal-plain n h = agree-below (λ k. list_all is_no_comma (decimal k)) (λ k. true) 10 n refl h

scale-plain : (asize : Bits) (scale : ℕ) → scale < 10 → list_all is_no_comma (scale_text (codes "*") asize scale) ≡ true
unfolding scale_text is_no_comma
scale-plain B16 scale h = refl
scale-plain B32 scale h = decimal-plain scale h
scale-plain B64 scale h = decimal-plain scale h

joint-plain : (b : Option Register) → list_all is_no_comma (joint b) ≡ true
unfolding joint is_no_comma
joint-plain None = refl
joint-plain (Some r) = refl

-- an address of these parts
abbrev address : Option Register → Option Register → ℕ → DispSize → ℕ → Mem
address b i scale size d = record { base = b; index = i; scale = scale; disp_size = size; disp = d }

index-plain : (asize : Bits) (b i : Option Register) (scale : ℕ) (size : DispSize) (d : ℕ) → is_named_if i ≡ true → scale < 10 →
    list_all is_no_comma (index_text Intel asize (address b i scale size d)) ≡ true
unfolding index_text is_named_if
index-plain asize b None scale size d h small = refl
index-plain asize b (Some x) scale size d h small =
    all-both is_no_comma (joint b) (register Intel x ++ scale_text (codes "*") asize scale) (joint-plain b)
    (all-both is_no_comma (register Intel x) (scale_text (codes "*") asize scale) (register-plain x h) (scale-plain asize scale small))

sign-plain : (negative : Bool) → list_all is_no_comma (sign Intel negative) ≡ true
unfolding sign is_no_comma
sign-plain true = refl
sign-plain false = refl

signed-plain : (asize : Bits) (b i : Option Register) (scale : ℕ) (size : DispSize) (d : ℕ) →
    list_all is_no_comma (signed_displacement Intel asize (address b i scale size d)) ≡ true
unfolding signed_displacement
signed-plain asize b i scale D0 d = refl
signed-plain asize b i scale D8 d = all-both is_no_comma (sign Intel (is_negative asize d)) (number Intel (magnitude asize d)) (sign-plain (is_negative asize d)) (number-plain (magnitude asize d))
signed-plain asize b i scale D16 d = all-both is_no_comma (sign Intel (is_negative asize d)) (number Intel (magnitude asize d)) (sign-plain (is_negative asize d)) (number-plain (magnitude asize d))
signed-plain asize b i scale D32 d = all-both is_no_comma (sign Intel (is_negative asize d)) (number Intel (magnitude asize d)) (sign-plain (is_negative asize d)) (number-plain (magnitude asize d))
signed-plain asize b i scale D64 d = all-both is_no_comma (sign Intel (is_negative asize d)) (number Intel (magnitude asize d)) (sign-plain (is_negative asize d)) (number-plain (magnitude asize d))

lone-plain : (b i : Option Register) (scale : ℕ) (size : DispSize) (d : ℕ) → list_all is_no_comma (lone_displacement Intel (address b i scale size d)) ≡ true
unfolding lone_displacement
lone-plain b i scale D0 d = refl
lone-plain b i scale D8 d = number-plain d
lone-plain b i scale D16 d = number-plain d
lone-plain b i scale D32 d = number-plain d
lone-plain b i scale D64 d = number-plain d

relative-plain : (b : Option Register) → list_all is_no_comma (relative_word Intel b) ≡ true
unfolding relative_word is_no_comma
relative-plain (Some Eip) = refl
relative-plain _ = refl

pick-plain : (r a : Bool) (x y z : List ℕ) → list_all is_no_comma x ≡ true → list_all is_no_comma y ≡ true → list_all is_no_comma z ≡ true →
    list_all is_no_comma (if r then x else (if a then y else z)) ≡ true
pick-plain true a x y z hx hy hz = hx
pick-plain false true x y z hx hy hz = hy
pick-plain false false x y z hx hy hz = hz

inside-plain : (asize : Bits) (m : Mem) → is_printable_address asize m ≡ true → list_all is_no_comma (inside Intel asize m) ≡ true
unfolding inside sum_text is_printable_address
inside-plain asize m h =
    let hb : is_named_if m.base ≡ true = (and_parts (is_named_if m.base) _ h).0 in
    let h1 = (and_parts (is_named_if m.base) _ h).1 in
    let hi : is_named_if m.index ≡ true = (and_parts (is_named_if m.index) _ h1).0 in
    let h2 = (and_parts (is_named_if m.index) _ h1).1 in
    let hs : nat_lt m.scale 10 ≡ true = (and_parts (nat_lt m.scale 10) _ h2).0 in
    pick-plain (is_relative m) (is_absolute m) (relative_word Intel m.base ++ number Intel m.disp) (lone_displacement Intel m) (sum_text Intel asize m)
    (all-both is_no_comma (relative_word Intel m.base) (number Intel m.disp) (relative-plain m.base) (number-plain m.disp))
    (lone-plain m.base m.index m.scale m.disp_size m.disp)
    (all-both is_no_comma (base_text Intel m.base) (index_text Intel asize m ++ signed_displacement Intel asize m) (base-plain m.base hb)
    (all-both is_no_comma (index_text Intel asize m) (signed_displacement Intel asize m)
    (index-plain asize m.base m.index m.scale m.disp_size m.disp hi (ltb-true m.scale 10 hs))
    (signed-plain asize m.base m.index m.scale m.disp_size m.disp)))

segment-plain : (seg : Option Segment) (m : Mem) → list_all is_no_comma (bracket_segment Intel seg m) ≡ true
unfolding bracket_segment segment_override sigil segment_name is_no_comma
segment-plain None m = refl
segment-plain (Some Es) m = refl
segment-plain (Some Cs) m = refl
segment-plain (Some Ss) m = refl
segment-plain (Some Ds) m = refl
segment-plain (Some Fs) m = refl
segment-plain (Some Gs) m = refl

end-plain : list_all is_no_comma (codes "]") ≡ true
unfolding is_no_comma
end-plain = refl

bracketed-plain : (seg : Option Segment) (asize : Bits) (m : Mem) → is_printable_address asize m ≡ true → list_all is_no_comma (bracketed_address Intel seg asize m) ≡ true
unfolding bracketed_address is_no_comma
bracketed-plain seg asize m h =
    all-both is_no_comma (bracket_segment Intel seg m) (codes "[" ++ (inside Intel asize m ++ codes "]")) (segment-plain seg m)
    (all-both is_no_comma (inside Intel asize m) (codes "]") (inside-plain asize m h) end-plain)

size-plain : (z : SizeName) → list_all is_no_comma (size_text z ++ behind_size Intel (size_text z)) ≡ true
unfolding behind_size is_no_comma
size-plain NoSize = refl
size-plain Byte = refl
size-plain Word = refl
size-plain Dword = refl
size-plain Qword = refl
size-plain Tbyte = refl
size-plain Xmmword = refl
size-plain Ymmword = refl
size-plain Far16 = refl
size-plain Far32 = refl
size-plain Far64 = refl

word-plain : (row : Row) (n : ℕ) → list_all is_no_comma (size_word Intel row n) ≡ true
unfolding size_word
word-plain row n = ap (λ (t : List ℕ). list_all is_no_comma (t ++ behind_size Intel t)) (size-of-text row n) ∙ size-plain (size_word_of row n)

-- ---- each operand

far-plain : (selector offset : ℕ) → list_all is_no_comma (number Intel selector ++ (codes ":" ++ number Intel offset)) ≡ true
unfolding is_no_comma
far-plain selector offset =
    all-both is_no_comma (number Intel selector) (codes ":" ++ number Intel offset) (number-plain selector) (number-plain offset)

-- the text of an operand has no comma outside brackets
pub operand-plain : (bits : Bits) (row : Row) (instr : Instr) (n : ℕ) (op : Operand) → is_printable_operand (text_address_size bits instr) op ≡ true →
    list_all is_no_comma (bracket_operand Intel bits row instr n op) ≡ true
unfolding bracket_operand is_printable_operand
operand-plain bits row instr n NoOperand h = refl
operand-plain bits row instr n (RegOperand r) h = register-plain r h
operand-plain bits row instr n (Imm x) h = number-plain x
operand-plain bits row instr n (Near x) h = number-plain x
operand-plain bits row instr n (FarOperand selector offset) h = far-plain selector offset
operand-plain bits row instr n (MemOperand m) h =
    all-both is_no_comma (size_word Intel row n) (bracketed_address Intel instr.seg (text_address_size bits instr) m) (word-plain row n)
    (bracketed-plain instr.seg (text_address_size bits instr) m h)
