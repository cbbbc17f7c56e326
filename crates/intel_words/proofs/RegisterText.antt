-- The name of each register that exists is read as that register.
use Rattle.std.proofs.Common.{◌≡◌, ℕ, ◌<◌, Bool, true, Option, Some, map, refl, ap}
use Rattle.std.specs.Prelude.{nat_le}
use Rattle.std.specs.List.{list_all, range_with_len}
use Rattle.std.proofs.lemmas.Bool.{ltb-true}
use Rattle.x86_values.specs.declared.Segment.{Segment}
use Rattle.x86_values.specs.declared.Segment.TheVariants.{Es, Cs, Ss, Ds, Fs, Gs}
use Rattle.x86_values.specs.declared.Register.{Register}
use Rattle.x86_values.specs.declared.Register.TheVariants.{Low8, High8, R16, R32, R64, Seg, Cr, Dr, St, Mm, Xmm, Ymm, Eip, Rip}
use Rattle.text_parts.specs.declared.style.Style.TheVariants.{Intel}
use Rattle.text_parts.specs.Numbers.{decimal}
use Rattle.text_parts.specs.Registers.{word_name, low_byte_name, high_byte_name, segment_name, stack_name, register_name, sigil, register}
use Rattle.x86_values.specs.Named.{is_named}
use Rattle.intel_words.specs.Scanning.{is_word_byte}
use Rattle.intel_words.specs.Scanning.{first, rest}
use Rattle.intel_words.specs.ReadNumbers.{decimal_digit, teen, decimal_in}
use Rattle.intel_words.specs.ReadRegisters.{segment_by, segment_of_word, letter_number, word_number, below_8, pointer_byte, two_letters, register_of_letters, e_named, from_8, sized_by, r_named, vector_number, register_from, register_named}
use Rattle.intel_words.proofs.Below.{agree-below}

-- the register is read from its name, which has letters and digits alone and begins with a letter
pub record IsRead (r : Register) : Type 0 where
  pub named : register_named (register Intel r) ≡ Some r
  pub bytes : list_all is_word_byte (register Intel r) ≡ true
  pub letter : nat_le 97 (first (register Intel r)) ≡ true

-- the three at once: what is found in the name of a register, and what should be
abbrev found : Register → Option Register × (Bool × Bool)
found r = (register_named (register Intel r), (list_all is_word_byte (register Intel r), nat_le 97 (first (register Intel r))))

abbrev wanted : Register → Option Register × (Bool × Bool)
wanted r = (Some r, (true, true))

is_read : (r : Register) → found r ≡ wanted r → IsRead r
is_read r e = record { named = ap (λ p. p.0) e; bytes = ap (λ p. p.1.0) e; letter = ap (λ p. p.1.1) e }

-- ---- the classes whose registers have numbers

-- so for each register of a class with a number below a bound
abbrev AreFound : (ℕ → Register) → ℕ → Type 0
AreFound class count = map (λ n. found (class n)) (range_with_len 0 count) ≡ map (λ n. wanted (class n)) (range_with_len 0 count)

record EachIsFound : Type 0 where
  low8 : AreFound Low8 16
  high8 : AreFound High8 4
  r16 : AreFound R16 16
  r32 : AreFound R32 16
  r64 : AreFound R64 16
  cr : AreFound Cr 16
  dr : AreFound Dr 8
  st : AreFound St 8
  mm : AreFound Mm 8
  xmm : AreFound Xmm 16
  ymm : AreFound Ymm 16

each_is_found : EachIsFound
unfolding word_name low_byte_name high_byte_name segment_name stack_name register_name sigil register decimal is_word_byte first rest decimal_digit teen decimal_in segment_by letter_number word_number below_8 pointer_byte two_letters register_of_letters e_named from_8 sized_by r_named vector_number register_from register_named
each_is_found = record { low8 = refl; high8 = refl; r16 = refl; r32 = refl; r64 = refl; cr = refl; dr = refl; st = refl; mm = refl; xmm = refl; ymm = refl }

class-read : (class : ℕ → Register) (count n : ℕ) → AreFound class count → n < count → IsRead (class n)
class-read class count n e lt = is_read (class n) (agree-below (λ k. found (class k)) (λ k. wanted (class k)) count n e lt)

-- ---- the others

segment-read : (s : Segment) → IsRead (Seg s)
unfolding word_name low_byte_name high_byte_name segment_name stack_name register_name sigil register decimal is_word_byte first rest decimal_digit teen decimal_in segment_by letter_number word_number below_8 pointer_byte two_letters register_of_letters e_named from_8 sized_by r_named vector_number register_from register_named
segment-read Es = is_read (Seg Es) refl
segment-read Cs = is_read (Seg Cs) refl
segment-read Ss = is_read (Seg Ss) refl
segment-read Ds = is_read (Seg Ds) refl
segment-read Fs = is_read (Seg Fs) refl
segment-read Gs = is_read (Seg Gs) refl

-- each register's text is read as that register
pub register-read : (r : Register) → is_named r ≡ true → IsRead r
unfolding is_named word_name low_byte_name high_byte_name segment_name stack_name register_name sigil register decimal is_word_byte first rest decimal_digit teen decimal_in segment_by letter_number word_number below_8 pointer_byte two_letters register_of_letters e_named from_8 sized_by r_named vector_number register_from register_named
register-read (Low8 n) h = class-read Low8 16 n each_is_found.low8 (ltb-true n 16 h)
register-read (High8 n) h = class-read High8 4 n each_is_found.high8 (ltb-true n 4 h)
register-read (R16 n) h = class-read R16 16 n each_is_found.r16 (ltb-true n 16 h)
register-read (R32 n) h = class-read R32 16 n each_is_found.r32 (ltb-true n 16 h)
register-read (R64 n) h = class-read R64 16 n each_is_found.r64 (ltb-true n 16 h)
register-read (Seg s) h = segment-read s
register-read (Cr n) h = class-read Cr 16 n each_is_found.cr (ltb-true n 16 h)
register-read (Dr n) h = class-read Dr 8 n each_is_found.dr (ltb-true n 8 h)
register-read (St n) h = class-read St 8 n each_is_found.st (ltb-true n 8 h)
register-read (Mm n) h = class-read Mm 8 n each_is_found.mm (ltb-true n 8 h)
register-read (Xmm n) h = class-read Xmm 16 n each_is_found.xmm (ltb-true n 16 h)
register-read (Ymm n) h = class-read Ymm 16 n each_is_found.ymm (ltb-true n 16 h)
register-read Eip h = is_read Eip refl
register-read Rip h = is_read Rip refl

-- the name of a segment is read as that segment
pub segment_name-read : (s : Segment) → segment_of_word (segment_name s) ≡ Some s
unfolding segment_of_word segment_by segment_name
segment_name-read Es = refl
segment_name-read Cs = refl
segment_name-read Ss = refl
segment_name-read Ds = refl
segment_name-read Fs = refl
segment_name-read Gs = refl

-- the name of a segment register has letters alone
pub segment_name-bytes : (s : Segment) → list_all is_word_byte (segment_name s) ≡ true
unfolding is_word_byte segment_name
segment_name-bytes Es = refl
segment_name-bytes Cs = refl
segment_name-bytes Ss = refl
segment_name-bytes Ds = refl
segment_name-bytes Fs = refl
segment_name-bytes Gs = refl
