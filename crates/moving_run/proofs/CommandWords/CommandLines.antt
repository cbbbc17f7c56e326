-- Each parser of the words of a command names the first wrong one.
use Rattle.std.proofs.Common.{◌≡◌, ◌⊎◌, inl, inr, ℕ, zero, suc, ◌+◌, ◌*◌, ◌^◌, ◌<◌, ◌≤◌, Bool, true, false, if◌then◌else◌, List, [], ◌∷◌, ◌++◌, length, length-append, drop, Option, Some, None, Result, Ok, Err, refl, sym, ap, ◌∙◌, subst, arith, lit≤}
use Rattle.std.specs.Prelude.{codes, nat_le, not, ◌&&◌, ◌==◌, ◌%◌, is_some}
use Rattle.std.proofs.lemmas.Bool.{le-leb, cases_lt}
use Rattle.x86_values.specs.declared.Bits.{Bits}
use Rattle.x86_values.specs.declared.Bits.TheVariants.{B16, B32, B64}
use Rattle.x86_values.specs.Wrapping.{width}
use Rattle.text_parts.specs.DigitValues.{upper_value, digit_value, digits_from}
use Rattle.text_parts.specs.declared.style.Style.{Style}
use Rattle.text_parts.specs.declared.style.Style.TheVariants.{Intel as IntelStyle}
use Rattle.moving_run.specs.declared.command_words.commands.Command.{Command}
use Rattle.moving_run.specs.declared.command_words.commands.Command.TheVariants.{Help, Version, List as ListCommand, Info, Recode, Flow, Asm, Move, Map, Blocks, Slots, Rows, Sample, Wrong}
use Rattle.moving_run.specs.declared.command_words.commands.BlockWords.{BlockWords}
use Rattle.moving_run.specs.declared.command_words.commands.Through.{Through}
use Rattle.moving_run.specs.declared.command_words.commands.Through.TheVariants.{List as ThroughList, Info as ThroughInfo, Recode as ThroughRecode, Flow as ThroughFlow, Asm as ThroughAsm, Move as ThroughMove, Map as ThroughMap, Slots as ThroughSlots}
use Rattle.moving_run.specs.CommandWords.Counts.{count_word}
use Rattle.moving_run.specs.CommandWords.Ranges.{Range, is_range, range_of}
use Rattle.moving_run.specs.CommandWords.Words.{same_text, mode_named, syntax_named, number_word, address_within, with_no_more_words, list_end, list_style, recode_base, recode_bits, recode_words, new_end_word, new_words, move_end, map_end, range_in, slots_size, slots_region, slots_words, code_end, code_base, code_bits, code_words, block_len, block_new, block_old, block_at, blocks_from, blocks_bits, blocks_words, count_within, sample_count, sample_words, command_of}
use Rattle.moving_run.proofs.CommandWords.Blocks.{step-wrong, step-last, step-more}
use Rattle.moving_run.proofs.CommandWords.FirstWrong.{Words, Allowed, Begins, Sound, Refuses, Behind, never, open-by, next, last, sound-less, by_option}

-- ---- words that are allowed

mode_there : mode_named (codes "64") ≡ Some B64
unfolding mode_named
mode_there = refl

style_there : syntax_named (codes "intel") ≡ Some IntelStyle
unfolding syntax_named
style_there = refl

zero_there : number_word (codes "0") ≡ Some 0
unfolding number_word digits_from digit_value upper_value
zero_there = refl

address_there : (bits : Bits) → address_within bits (number_word (codes "0")) ≡ Some 0
unfolding address_within
address_there B16 = ap (address_within B16) zero_there
address_there B32 = ap (address_within B32) zero_there
address_there B64 = ap (address_within B64) zero_there

count_there : count_within (number_word (codes "1")) ≡ Some 1
unfolding number_word digits_from digit_value upper_value count_within count_word
count_there = refl

sixteen_there : number_word (codes "10") ≡ Some 16
unfolding number_word digits_from digit_value upper_value
sixteen_there = refl

-- a parser that goes on with what a word stands for
open-with : {A : Type 0} (o : Option A) (a : A) (g : Option A → Words → Command) → o ≡ Some a → Begins (g (Some a)) [] → Begins (g o) []
open-with {A = A} o a g e b = subst (λ (x : Option A). Begins (g x) []) (sym e) b

-- ---- a command, and no more words

end_open : (n : ℕ) (c : Command) → ((k : ℕ) → c ≡ Wrong k → ⊥) → Begins (λ ws. with_no_more_words ws (suc n) c) []
unfolding with_no_more_words
end_open n c allowed = ([], allowed)

end_sound : (n : ℕ) (c : Command) → ((k : ℕ) → c ≡ Wrong k → ⊥) → Sound n (λ ws. with_no_more_words ws (suc n) c) never
unfolding with_no_more_words
end_sound n c allowed = last n (λ ws. with_no_more_words ws (suc n) c) never allowed (λ w ws. refl)

-- ---- list

style_behind : (bits : Bits) (base : ℕ) (o : Option Style) → Behind 4 (list_end bits base o) never
unfolding list_end
style_behind bits base None = inr (λ ws. refl)
style_behind bits base (Some syntax) = inl (end_sound 4 (ListCommand bits base syntax) (λ k e. cc))

list_open : (bits : Bits) (base : ℕ) → Begins (list_style bits base) []
unfolding list_style list_end
list_open bits base =
    open-by 3 (list_style bits base) (λ w ws. list_end bits base (syntax_named w) ws) (λ w ws. refl) (codes "intel")
    (open-with (syntax_named (codes "intel")) IntelStyle (list_end bits base) style_there
    (end_open 4 (ListCommand bits base IntelStyle) (λ k e. cc)))

list_sound : (bits : Bits) (base : ℕ) → Sound 3 (list_style bits base) never
unfolding list_style
list_sound bits base =
    next 3 (list_style bits base) (λ w ws. list_end bits base (syntax_named w) ws) (λ w ws. refl) never (list_open bits base)
    (λ k e. let four : Wrong 4 ≡ Wrong k = e in cc) (λ w. style_behind bits base (syntax_named w))

-- ---- recode

base_behind : (bits : Bits) (base : ℕ) (to : Bits) (o : Option ℕ) → Behind 5 (recode_base bits base to o) never
unfolding recode_base
base_behind bits base to None = inr (λ ws. refl)
base_behind bits base to (Some new) = inl (end_sound 5 (Recode bits base to new) (λ k e. cc))

recode_bits_open : (bits : Bits) (base : ℕ) (to : Bits) → Begins (recode_bits bits base (Some to)) []
unfolding recode_bits recode_base
recode_bits_open bits base to =
    open-by 4 (recode_bits bits base (Some to)) (λ w ws. recode_base bits base to (address_within to (number_word w)) ws) (λ w ws. refl) (codes "0")
    (open-with (address_within to (number_word (codes "0"))) 0 (recode_base bits base to) (address_there to) (end_open 5 (Recode bits base to 0) (λ k e. cc)))

recode_bits_sound : (bits : Bits) (base : ℕ) (to : Bits) → Sound 4 (recode_bits bits base (Some to)) never
unfolding recode_bits
recode_bits_sound bits base to =
    next 4 (recode_bits bits base (Some to)) (λ w ws. recode_base bits base to (address_within to (number_word w)) ws) (λ w ws. refl) never
    (recode_bits_open bits base to) (λ k e. let five : Wrong 5 ≡ Wrong k = e in cc) (λ w. base_behind bits base to (address_within to (number_word w)))

bits_behind : (bits : Bits) (base : ℕ) (o : Option Bits) → Behind 4 (recode_bits bits base o) never
unfolding recode_bits
bits_behind bits base None = inr (λ ws. refl)
bits_behind bits base (Some to) = inl (recode_bits_sound bits base to)

recode_open : (bits : Bits) (base : ℕ) → Begins (recode_words bits base) []
unfolding recode_words
recode_open bits base =
    open-by 3 (recode_words bits base) (λ w ws. recode_bits bits base (mode_named w) ws) (λ w ws. refl) (codes "64")
    (open-with (mode_named (codes "64")) B64 (recode_bits bits base) mode_there (recode_bits_open bits base B64))

recode_sound : (bits : Bits) (base : ℕ) → Sound 3 (recode_words bits base) never
unfolding recode_words
recode_sound bits base =
    next 3 (recode_words bits base) (λ w ws. recode_bits bits base (mode_named w) ws) (λ w ws. refl) never (recode_open bits base)
    (λ k e. let four : Wrong 4 ≡ Wrong k = e in cc) (λ w. bits_behind bits base (mode_named w))

-- ---- move and map: a command of the result of their last words

module _ (c : Result ℕ ℕ → Command) (bits : Bits) (ok : (new k : ℕ) → c (Ok new) ≡ Wrong k → ⊥) (err : (k : ℕ) → c (Err k) ≡ Wrong k) where
  new_open : Begins (λ ws. c (new_words bits ws)) []
  unfolding new_words new_end_word
  new_open =
      open-by 3 (λ ws. c (new_words bits ws)) (λ w ws. c (new_end_word (address_within bits (number_word w)) ws)) (λ w ws. refl) (codes "0")
      (open-with (address_within bits (number_word (codes "0"))) 0 (λ o ws. c (new_end_word o ws)) (address_there bits) ([], ok 0))

  new_behind : (o : Option ℕ) → Behind 4 (λ ws. c (new_end_word o ws)) never
  unfolding new_end_word
  new_behind None = inr (λ ws. err 4)
  new_behind (Some new) = inl (last 4 (λ ws. c (new_end_word (Some new) ws)) never (ok new) (λ w ws. err 5))

  new_sound : Sound 3 (λ ws. c (new_words bits ws)) never
  unfolding new_words
  new_sound =
      next 3 (λ ws. c (new_words bits ws)) (λ w ws. c (new_end_word (address_within bits (number_word w)) ws)) (λ w ws. refl) never new_open
      (λ k e. let four : Wrong 4 ≡ Wrong k = sym (err 4) ∙ e in cc) (λ w. new_behind (address_within bits (number_word w)))

-- ---- slots

-- behind a REGION that has no room for 16 bytes no SIZE is allowed
abbrev pub IsFull : Bits → ℕ → Type 0
IsFull bits base = 2 ^ width bits < base + 16

-- the words behind `slots BITS OLD` begin with such a REGION
abbrev pub FullRegion : Bits → Words → Type 0
FullRegion bits [] = ⊥
FullRegion bits (region ∷ words) = (base : ℕ) × ((address_within bits (number_word region) ≡ Some base) × IsFull bits base)

range_there : (bits : Bits) (base : ℕ) → base + 16 ≤ 2 ^ width bits → range_of bits base 16 ≡ Some (record { bits = bits; base = base; size = 16 })
unfolding range_of
range_there bits base room =
    ap (λ (b : Bool). if b then Some (let r : Range = record { bits = bits; base = base; size = 16 } in r) else None) (le-leb (base + 16) (2 ^ width bits) room)

size_behind : (bits : Bits) (old : ℕ) (o : Option Range) → Behind 5 (slots_size old o) never
unfolding slots_size
size_behind bits old None = inr (λ ws. refl)
size_behind bits old (Some range) = inl (end_sound 5 (Slots old range) (λ k e. cc))

region_open : (bits : Bits) (old base : ℕ) → base + 16 ≤ 2 ^ width bits → Begins (slots_region bits old (Some base)) []
unfolding slots_region slots_size range_in
region_open bits old base room =
    open-by 4 (slots_region bits old (Some base)) (λ w ws. slots_size old (range_in bits base (number_word w)) ws) (λ w ws. refl) (codes "10")
    (open-with (range_in bits base (number_word (codes "10"))) (record { bits = bits; base = base; size = 16 }) (slots_size old)
    (ap (range_in bits base) sixteen_there ∙ range_there bits base room)
    (end_open 5 (Slots old (record { bits = bits; base = base; size = 16 })) (λ k e. cc)))

region_sound : (bits : Bits) (old base : ℕ) → base + 16 ≤ 2 ^ width bits → Sound 4 (slots_region bits old (Some base)) never
unfolding slots_region
region_sound bits old base room =
    next 4 (slots_region bits old (Some base)) (λ w ws. slots_size old (range_in bits base (number_word w)) ws) (λ w ws. refl) never
    (region_open bits old base room) (λ k e. let five : Wrong 5 ≡ Wrong k = e in cc) (λ w. size_behind bits old (range_in bits base (number_word w)))

region_behind : (bits : Bits) (old : ℕ) (region : List ℕ) → Behind 4 (slots_region bits old (address_within bits (number_word region))) (λ ws. FullRegion bits (region ∷ ws))
unfolding slots_region
region_behind bits old region =
    by_option 4 (address_within bits (number_word region)) (slots_region bits old) (λ ws. FullRegion bits (region ∷ ws)) (λ ws. refl)
    (λ base e. elim (cases_lt (2 ^ width bits) (base + 16)) [
      | inl full ↦ inl (λ ws k fine refused. absurd (fine (base, (e, full))))
      | inr room ↦ inl (sound-less 4 (slots_region bits old (Some base)) never (λ ws. FullRegion bits (region ∷ ws)) (λ ws b. absurd b) (region_sound bits old base room))
    ])

slots_open : (bits : Bits) (old : ℕ) → Begins (slots_words bits old) []
unfolding slots_words
slots_open bits old =
    open-by 3 (slots_words bits old) (λ w ws. slots_region bits old (address_within bits (number_word w)) ws) (λ w ws. refl) (codes "0")
    (open-with (address_within bits (number_word (codes "0"))) 0 (slots_region bits old) (address_there bits) (region_open bits old 0 (room bits)))
  where
    room : (bits : Bits) → 0 + 16 ≤ 2 ^ width bits
    room B16 = lit≤ tt
    room B32 = lit≤ tt
    room B64 = lit≤ tt

slots_sound : (bits : Bits) (old : ℕ) → Sound 3 (slots_words bits old) (FullRegion bits)
unfolding slots_words
slots_sound bits old =
    next 3 (slots_words bits old) (λ w ws. slots_region bits old (address_within bits (number_word w)) ws) (λ w ws. refl) (FullRegion bits) (slots_open bits old)
    (λ k e. let four : Wrong 4 ≡ Wrong k = e in cc) (λ w. region_behind bits old w)

-- ---- the words behind BITS BASE

-- of `slots` alone some are left out
abbrev pub FullBehind : Through → Bits → Words → Type 0
FullBehind ThroughSlots bits ws = FullRegion bits ws
FullBehind _ bits ws = ⊥

end_open-of : (through : Through) (bits : Bits) (base : ℕ) → Begins (code_end through bits base) []
unfolding code_end move_end map_end
end_open-of ThroughList bits base = list_open bits base
end_open-of ThroughInfo bits base = end_open 3 (Info bits base) (λ k e. cc)
end_open-of ThroughRecode bits base = recode_open bits base
end_open-of ThroughFlow bits base = end_open 3 (Flow bits base) (λ k e. cc)
end_open-of ThroughAsm bits base = end_open 3 (Asm bits base) (λ k e. cc)
end_open-of ThroughMove bits base = new_open (move_end bits base) bits (λ new k e. cc) (λ k. refl)
end_open-of ThroughMap bits base = new_open (map_end bits base) bits (λ new k e. cc) (λ k. refl)
end_open-of ThroughSlots bits base = slots_open bits base

new_end_sound : (c : Result ℕ ℕ → Command) (through : Through) (bits : Bits) → ((new k : ℕ) → c (Ok new) ≡ Wrong k → ⊥) → ((k : ℕ) → c (Err k) ≡ Wrong k) →
    Sound 3 (λ ws. c (new_words bits ws)) (FullBehind through bits)
new_end_sound c through bits ok err =
    sound-less 3 (λ ws. c (new_words bits ws)) never (FullBehind through bits) (λ ws b. absurd b) (new_sound c bits ok err)

code_end_sound : (through : Through) (bits : Bits) (base : ℕ) → Sound 3 (code_end through bits base) (FullBehind through bits)
unfolding code_end move_end map_end
code_end_sound ThroughList bits base = list_sound bits base
code_end_sound ThroughInfo bits base = end_sound 3 (Info bits base) (λ k e. cc)
code_end_sound ThroughRecode bits base = recode_sound bits base
code_end_sound ThroughFlow bits base = end_sound 3 (Flow bits base) (λ k e. cc)
code_end_sound ThroughAsm bits base = end_sound 3 (Asm bits base) (λ k e. cc)
code_end_sound ThroughMove bits base = new_end_sound (move_end bits base) ThroughMove bits (λ new k e. cc) (λ k. refl)
code_end_sound ThroughMap bits base = new_end_sound (map_end bits base) ThroughMap bits (λ new k e. cc) (λ k. refl)
code_end_sound ThroughSlots bits base = slots_sound bits base

-- ---- the words BITS BASE

-- a command line by its mode and base, with every word that may follow
abbrev pub FullBase : Through → Bits → Words → Type 0
FullBase through bits [] = ⊥
FullBase through bits (old ∷ words) = (start : ℕ) × ((address_within bits (number_word old) ≡ Some start) × FullBehind through bits words)

-- a command line by its mode, with every word that may follow
abbrev pub FullBits : Through → Words → Type 0
FullBits through [] = ⊥
FullBits through (mode ∷ words) = (bits : Bits) × ((mode_named mode ≡ Some bits) × FullBase through bits words)

base_open : (through : Through) (bits : Bits) → Begins (code_bits through (Some bits)) []
unfolding code_bits code_base
base_open through bits =
    open-by 2 (code_bits through (Some bits)) (λ w ws. code_base through bits (address_within bits (number_word w)) ws) (λ w ws. refl) (codes "0")
    (open-with (address_within bits (number_word (codes "0"))) 0 (code_base through bits) (address_there bits) (end_open-of through bits 0))

base_behind-of : (through : Through) (bits : Bits) (old : List ℕ) →
    Behind 3 (code_base through bits (address_within bits (number_word old))) (λ ws. FullBase through bits (old ∷ ws))
unfolding code_base
base_behind-of through bits old =
    by_option 3 (address_within bits (number_word old)) (code_base through bits) (λ ws. FullBase through bits (old ∷ ws)) (λ ws. refl)
    (λ base e. inl (sound-less 3 (code_end through bits base) (FullBehind through bits) (λ ws. FullBase through bits (old ∷ ws)) (λ ws b. (base, (e, b)))
    (code_end_sound through bits base)))

base_sound : (through : Through) (bits : Bits) → Sound 2 (code_bits through (Some bits)) (FullBase through bits)
unfolding code_bits
base_sound through bits =
    next 2 (code_bits through (Some bits)) (λ w ws. code_base through bits (address_within bits (number_word w)) ws) (λ w ws. refl) (FullBase through bits)
    (base_open through bits) (λ k e. let three : Wrong 3 ≡ Wrong k = e in cc) (λ w. base_behind-of through bits w)

code_open : (through : Through) → Begins (code_words through) []
unfolding code_words
code_open through =
    open-by 1 (code_words through) (λ w ws. code_bits through (mode_named w) ws) (λ w ws. refl) (codes "64")
    (open-with (mode_named (codes "64")) B64 (code_bits through) mode_there (base_open through B64))

mode_behind : (through : Through) (mode : List ℕ) → Behind 2 (code_bits through (mode_named mode)) (λ ws. FullBits through (mode ∷ ws))
unfolding code_bits
mode_behind through mode =
    by_option 2 (mode_named mode) (code_bits through) (λ ws. FullBits through (mode ∷ ws)) (λ ws. refl)
    (λ bits e. inl (sound-less 2 (code_bits through (Some bits)) (FullBase through bits) (λ ws. FullBits through (mode ∷ ws)) (λ ws b. (bits, (e, b)))
    (base_sound through bits)))

code_sound : (through : Through) → Sound 1 (code_words through) (FullBits through)
unfolding code_words
code_sound through =
    next 1 (code_words through) (λ w ws. code_bits through (mode_named w) ws) (λ w ws. refl) (FullBits through) (code_open through)
    (λ k e. let two : Wrong 2 ≡ Wrong k = e in cc) (λ w. mode_behind through w)

-- ---- sample

count_behind : (o : Option ℕ) → Behind 2 (sample_count o) never
unfolding sample_count
count_behind None = inr (λ ws. refl)
count_behind (Some count) = inl (end_sound 2 (Sample count) (λ k e. cc))

sample_open : Begins sample_words []
unfolding sample_words sample_count
sample_open =
    open-by 1 sample_words (λ w ws. sample_count (count_within (number_word w)) ws) (λ w ws. refl) (codes "1")
    (open-with (count_within (number_word (codes "1"))) 1 sample_count count_there (end_open 2 (Sample 1) (λ k e. cc)))

sample_sound : Sound 1 sample_words never
unfolding sample_words
sample_sound =
    next 1 sample_words (λ w ws. sample_count (count_within (number_word w)) ws) (λ w ws. refl) never sample_open
    (λ k e. let two : Wrong 2 ≡ Wrong k = e in cc) (λ w. count_behind (count_within (number_word w)))

-- ---- blocks

-- what comes of a block behind others, and the words behind it
abbrev len_step : ℕ → Bits → List BlockWords → BlockWords → Option ℕ → Words → Command
len_step room bits blocks block None words = Blocks bits (record { items = blocks ++ block ∷ [] })
len_step room bits blocks block (Some _) words = blocks_from room bits (blocks ++ block ∷ []) words

abbrev block_step : ℕ → Bits → List BlockWords → Result BlockWords ℕ → Words → Command
block_step room bits blocks (Err before) words = Wrong (3 + 3 * length blocks + before)
block_step room bits blocks (Ok block) words = len_step room bits blocks block block.len words

wrong_as : (k l : ℕ) → k ≡ l → Wrong k ≡ Wrong l
wrong_as k l e = ap (λ (n : ℕ). Wrong n) e

wrong_number : (k l : ℕ) → Wrong k ≡ Wrong l → k ≡ l
wrong_number k l e = cc

module _ (room : ℕ) (bits : Bits) (blocks : List BlockWords) (words : Words) where
  len_stepped : (block : BlockWords) (o : Option ℕ) → block.len ≡ o → block_at bits words ≡ Ok block →
      blocks_from (suc room) bits blocks words ≡ len_step room bits blocks block o (drop 3 words)
  len_stepped block None e read = step-last room bits blocks words block read (ap is_some e)
  len_stepped block (Some len) e read = step-more room bits blocks words block read (ap is_some e)

  block_stepped : (r : Result BlockWords ℕ) → block_at bits words ≡ r → blocks_from (suc room) bits blocks words ≡ block_step room bits blocks r (drop 3 words)
  block_stepped (Err before) read = step-wrong room bits blocks words before read
  block_stepped (Ok block) read = len_stepped block block.len refl read

stepped : (room : ℕ) (bits : Bits) (blocks : List BlockWords) (w : List ℕ) (ws : Words) →
    blocks_from (suc room) bits blocks (w ∷ ws) ≡ block_step room bits blocks (block_old bits (address_within bits (number_word w)) ws) (drop 2 ws)
unfolding block_at
stepped room bits blocks w ws = block_stepped room bits blocks (w ∷ ws) (block_old bits (address_within bits (number_word w)) ws) refl

-- no word of a block
none_stepped : (room : ℕ) (bits : Bits) (blocks : List BlockWords) → blocks_from (suc room) bits blocks [] ≡ Wrong (3 + 3 * length blocks + 0)
unfolding block_at
none_stepped room bits blocks = step-wrong room bits blocks [] 0 refl

module _ (room : ℕ) (bits : Bits) (blocks : List BlockWords) where
  abbrev n : ℕ
  n = 2 + 3 * length blocks

  -- where more blocks may come, or behind the last that may
  abbrev More : Type 0
  More = (block : BlockWords) → Behind (suc (suc (suc n))) (blocks_from room bits (blocks ++ block ∷ [])) never

  len_behind : More → (old new : ℕ) (o : Option ℕ) → Behind (suc (suc (suc n))) (λ ws. block_step room bits blocks (block_len old new o) ws) never
  unfolding block_len
  len_behind more old new None = inr (λ ws. wrong_as (3 + 3 * length blocks + 2) (suc (suc (suc n))) (omega arith))
  len_behind more old new (Some len) = more (record { old = old; new = new; len = Some len })

  new_block : ℕ → Option ℕ → Words → Command
  new_block old o ws = block_step room bits blocks (block_new old o ws) (drop 1 ws)

  new_block_open : (old new : ℕ) → Begins (λ ws. block_step room bits blocks (block_new old (Some new) ws) (drop 1 ws)) []
  unfolding block_new
  new_block_open old new = ([], λ k e. cc)

  new_block_behind : More → (old : ℕ) (o : Option ℕ) → Behind (suc (suc n)) (λ ws. block_step room bits blocks (block_new old o ws) (drop 1 ws)) never
  unfolding block_new
  new_block_behind more old None = inr (λ ws. wrong_as (3 + 3 * length blocks + 1) (suc (suc n)) (omega arith))
  new_block_behind more old (Some new) =
      inl (next (suc (suc n)) (λ ws. block_step room bits blocks (block_new old (Some new) ws) (drop 1 ws))
      (λ w ws. block_step room bits blocks (block_len old new (number_word w)) ws) (λ w ws. refl) never (new_block_open old new)
      (λ k e. absurd cc) (λ w. len_behind more old new (number_word w)))

  old_block_open : (old : ℕ) → Begins (λ ws. block_step room bits blocks (block_old bits (Some old) ws) (drop 2 ws)) []
  unfolding block_old
  old_block_open old =
      open-by (suc n) (λ ws. block_step room bits blocks (block_old bits (Some old) ws) (drop 2 ws))
      (λ w ws. block_step room bits blocks (block_new old (address_within bits (number_word w)) ws) (drop 1 ws)) (λ w ws. refl) (codes "0")
      (open-with (address_within bits (number_word (codes "0"))) 0 (λ o ws. block_step room bits blocks (block_new old o ws) (drop 1 ws)) (address_there bits)
      (new_block_open old 0))

  old_block_behind : More → (o : Option ℕ) → Behind (suc n) (λ ws. block_step room bits blocks (block_old bits o ws) (drop 2 ws)) never
  unfolding block_old
  old_block_behind more None = inr (λ ws. wrong_as (3 + 3 * length blocks + 0) (suc n) (omega arith))
  old_block_behind more (Some old) =
      inl (next (suc n) (λ ws. block_step room bits blocks (block_old bits (Some old) ws) (drop 2 ws))
      (λ w ws. block_step room bits blocks (block_new old (address_within bits (number_word w)) ws) (drop 1 ws)) (λ w ws. refl) never (old_block_open old)
      (λ k e. let there : Wrong (3 + 3 * length blocks + 1) ≡ Wrong k = e in omega (arith, wrong_number (3 + 3 * length blocks + 1) k there))
      (λ w. new_block_behind more old (address_within bits (number_word w))))

  blocks_open-more : Begins (blocks_from (suc room) bits blocks) []
  blocks_open-more =
      open-by n (blocks_from (suc room) bits blocks) (λ w ws. block_step room bits blocks (block_old bits (address_within bits (number_word w)) ws) (drop 2 ws))
      (stepped room bits blocks) (codes "0")
      (open-with (address_within bits (number_word (codes "0"))) 0 (λ o ws. block_step room bits blocks (block_old bits o ws) (drop 2 ws)) (address_there bits)
      (old_block_open 0))

  blocks_next : More → Sound n (blocks_from (suc room) bits blocks) never
  blocks_next more =
      next n (blocks_from (suc room) bits blocks) (λ w ws. block_step room bits blocks (block_old bits (address_within bits (number_word w)) ws) (drop 2 ws))
      (stepped room bits blocks) never blocks_open-more
      (λ k e. omega (arith, wrong_number (3 + 3 * length blocks + 0) k (sym (none_stepped room bits blocks) ∙ e)))
      (λ w. old_block_behind more (address_within bits (number_word w)))

blocks_more : (room : ℕ) (bits : Bits) (blocks : List BlockWords) → room + length blocks ≡ 16 → Behind (2 + 3 * length blocks) (blocks_from room bits blocks) never
unfolding blocks_from
blocks_more zero bits blocks whole = inr (λ ws. refl)
blocks_more (suc room) bits blocks whole =
    inl (blocks_next room bits blocks (λ block.
    let len : length (blocks ++ block ∷ []) ≡ length blocks + 1 = length-append blocks (block ∷ []) in
    let place : 2 + 3 * length (blocks ++ block ∷ []) ≡ suc (suc (suc (2 + 3 * length blocks))) = omega (arith, len) in
    subst (λ (m : ℕ). Behind m (blocks_from room bits (blocks ++ block ∷ [])) never) place
    (blocks_more room bits (blocks ++ block ∷ []) (omega (arith, len, whole)))))

blocks_mode_open : (bits : Bits) → Begins (blocks_bits (Some bits)) []
unfolding blocks_bits
blocks_mode_open bits = blocks_open-more 15 bits []

blocks_mode : (o : Option Bits) → Behind 2 (blocks_bits o) never
unfolding blocks_bits
blocks_mode None = inr (λ ws. refl)
blocks_mode (Some bits) = blocks_more 16 bits [] refl

blocks_open : Begins blocks_words []
unfolding blocks_words
blocks_open =
    open-by 1 blocks_words (λ w ws. blocks_bits (mode_named w) ws) (λ w ws. refl) (codes "64")
    (open-with (mode_named (codes "64")) B64 blocks_bits mode_there (blocks_mode_open B64))

blocks_words_sound : Sound 1 blocks_words never
unfolding blocks_words
blocks_words_sound =
    next 1 blocks_words (λ w ws. blocks_bits (mode_named w) ws) (λ w ws. refl) never blocks_open
    (λ k e. let two : Wrong 2 ≡ Wrong k = e in cc) (λ w. blocks_mode (mode_named w))

-- ---- the name

-- `slots`, and words behind it that are left out
abbrev pub Full : Words → Type 0
Full [] = ⊥
Full (name ∷ words) = (same_text name (codes "slots") ≡ true) × FullBits ThroughSlots words

abbrev FullOf : List ℕ → Words → Type 0
FullOf name ws = Full (name ∷ ws)

-- one of two parsers, by the name
either_of : (b : Bool) (x y : Words → Command) (but : Words → Type 0) → (b ≡ true → Behind 1 x but) → (b ≡ false → Behind 1 y but) →
    Behind 1 (λ ws. if b then x ws else y ws) but
either_of true x y but f g = f refl
either_of false x y but f g = g refl

-- a parser that leaves nothing out
whole_of : (name : List ℕ) (f : Words → Command) → Sound 1 f never → Behind 1 f (FullOf name)
whole_of name f sound = inl (sound-less 1 f never (FullOf name) (λ ws b. absurd b) sound)

code_of : (name : List ℕ) (through : Through) → ((ws : Words) → FullBits through ws → ⊥) → Behind 1 (code_words through) (FullOf name)
code_of name through none = inl (sound-less 1 (code_words through) (FullBits through) (FullOf name) (λ ws b. absurd (none ws b)) (code_sound through))

slots_of : (name : List ℕ) → same_text name (codes "slots") ≡ true → Behind 1 (code_words ThroughSlots) (FullOf name)
slots_of name e = inl (sound-less 1 (code_words ThroughSlots) (FullBits ThroughSlots) (FullOf name) (λ ws b. (e, b)) (code_sound ThroughSlots))

none_left : (through : Through) → ((bits : Bits) (ws : Words) → FullBehind through bits ws → ⊥) → (ws : Words) → FullBits through ws → ⊥
none_left through none [] b = b
none_left through none (mode ∷ []) b = b.1.1
none_left through none (mode ∷ old ∷ ws) b = none b.0 ws b.1.1.1.1

name_behind : (name : List ℕ) → Behind 1 (λ ws. command_of (name ∷ ws)) (FullOf name)
unfolding command_of
name_behind name =
    either_of (same_text name (codes "list")) _ _ (FullOf name) (λ e. code_of name ThroughList (none_left ThroughList (λ bits ws b. b))) (λ e0.
    either_of (same_text name (codes "info")) _ _ (FullOf name) (λ e. code_of name ThroughInfo (none_left ThroughInfo (λ bits ws b. b))) (λ e1.
    either_of (same_text name (codes "recode")) _ _ (FullOf name) (λ e. code_of name ThroughRecode (none_left ThroughRecode (λ bits ws b. b))) (λ e2.
    either_of (same_text name (codes "flow")) _ _ (FullOf name) (λ e. code_of name ThroughFlow (none_left ThroughFlow (λ bits ws b. b))) (λ e3.
    either_of (same_text name (codes "asm")) _ _ (FullOf name) (λ e. code_of name ThroughAsm (none_left ThroughAsm (λ bits ws b. b))) (λ e4.
    either_of (same_text name (codes "move")) _ _ (FullOf name) (λ e. code_of name ThroughMove (none_left ThroughMove (λ bits ws b. b))) (λ e5.
    either_of (same_text name (codes "map")) _ _ (FullOf name) (λ e. code_of name ThroughMap (none_left ThroughMap (λ bits ws b. b))) (λ e6.
    either_of (same_text name (codes "slots")) _ _ (FullOf name) (λ e. slots_of name e) (λ e7.
    either_of (same_text name (codes "blocks")) _ _ (FullOf name) (λ e. whole_of name blocks_words blocks_words_sound) (λ e8.
    either_of (same_text name (codes "rows")) _ _ (FullOf name) (λ e. whole_of name (λ ws. with_no_more_words ws 2 Rows) (end_sound 1 Rows (λ k e. cc))) (λ e9.
    either_of (same_text name (codes "sample")) _ _ (FullOf name) (λ e. whole_of name sample_words sample_sound) (λ e10.
    either_of (same_text name (codes "--help")) _ _ (FullOf name) (λ e. whole_of name (λ ws. with_no_more_words ws 2 Help) (end_sound 1 Help (λ k e. cc))) (λ e11.
    either_of (same_text name (codes "--version")) _ _ (FullOf name) (λ e. whole_of name (λ ws. with_no_more_words ws 2 Version) (end_sound 1 Version (λ k e. cc)))
    (λ e12. inr (λ ws. refl))))))))))))))

command_open : Begins command_of []
unfolding command_of with_no_more_words
command_open = (codes "rows" ∷ [], λ k e. cc)

-- **a refusal names the first wrong word**
pub command_sound : Sound 0 command_of Full
unfolding command_of
command_sound =
    next 0 command_of (λ w ws. command_of (w ∷ ws)) (λ w ws. refl) Full command_open (λ k e. let one : Wrong 1 ≡ Wrong k = e in cc) name_behind
