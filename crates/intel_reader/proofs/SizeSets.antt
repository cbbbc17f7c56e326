-- Sets of size words.
use Rattle.std.proofs.Common.{◌≡◌, ◌⊎◌, inl, inr, true, false, refl}
use Rattle.intel_words.specs.declared.words.SizeName.{SizeName}
use Rattle.intel_words.specs.declared.words.SizeName.TheVariants.{None as NoSize, Byte, Word, Dword, Qword, Tbyte, Xmmword, Ymmword, Far16, Far32, Far64}
use Rattle.intel_reader.specs.declared.sizes.SizeSet.{SizeSet}
use Rattle.intel_reader.specs.Sizes.{has_size, with_size}

-- the set of all size words
abbrev pub all_sizes : SizeSet
all_sizes = record {
  none = true;
  byte = true;
  word = true;
  dword = true;
  qword = true;
  tbyte = true;
  xmmword = true;
  ymmword = true;
  far16 = true;
  far32 = true;
  far64 = true;
}

-- the set of none
abbrev pub no_sizes : SizeSet
no_sizes = record {
  none = false;
  byte = false;
  word = false;
  dword = false;
  qword = false;
  tbyte = false;
  xmmword = false;
  ymmword = false;
  far16 = false;
  far32 = false;
  far64 = false;
}

-- that of all has each
pub has-all : (size : SizeName) → has_size all_sizes size ≡ true
unfolding has_size
has-all NoSize = refl
has-all _ = refl

-- a size word that was put in is there
pub has-added : (set : SizeSet) (size : SizeName) → has_size (with_size set size) size ≡ true
unfolding has_size with_size
has-added set NoSize = refl
has-added set _ = refl

-- and those of before stay
pub has-kept : (set : SizeSet) (size other : SizeName) → has_size set other ≡ true → has_size (with_size set size) other ≡ true
unfolding has_size with_size
has-kept set NoSize NoSize h = refl
has-kept set Byte Byte h = refl
has-kept set Word Word h = refl
has-kept set Dword Dword h = refl
has-kept set Qword Qword h = refl
has-kept set Tbyte Tbyte h = refl
has-kept set Xmmword Xmmword h = refl
has-kept set Ymmword Ymmword h = refl
has-kept set Far16 Far16 h = refl
has-kept set Far32 Far32 h = refl
has-kept set Far64 Far64 h = refl
has-kept set _ _ h = h

-- what is there was there before, or was put in
pub has-before : (set : SizeSet) (size other : SizeName) → has_size (with_size set size) other ≡ true → (has_size set other ≡ true) ⊎ (size ≡ other)
unfolding has_size with_size
has-before set NoSize NoSize h = inr refl
has-before set Byte Byte h = inr refl
has-before set Word Word h = inr refl
has-before set Dword Dword h = inr refl
has-before set Qword Qword h = inr refl
has-before set Tbyte Tbyte h = inr refl
has-before set Xmmword Xmmword h = inr refl
has-before set Ymmword Ymmword h = inr refl
has-before set Far16 Far16 h = inr refl
has-before set Far32 Far32 h = inr refl
has-before set Far64 Far64 h = inr refl
has-before set _ _ h = inl h

-- no size word is in the empty set
pub has-none : (size : SizeName) → has_size no_sizes size ≡ false
unfolding has_size
has-none NoSize = refl
has-none _ = refl
