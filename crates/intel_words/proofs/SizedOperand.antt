-- An address without a size word is read with each size word in front of it, and stays the same otherwise.
use Rattle.std.proofs.Common.{◌≡◌, ℕ, Bool, true, false, List, [], ◌∷◌, ◌++◌, Option, Some, None, option_map, refl, ap, sym, ◌∙◌, subst, eqb-true, slice_index_or}
use Rattle.std.specs.Prelude.{◌==◌, if◌then◌else◌, codes, bytes_eq}
use Rattle.std.specs.List.{list_all}
use Rattle.x86_values.specs.declared.Segment.{Segment}
use Rattle.x86_values.specs.declared.Register.{Register}
use Rattle.intel_words.specs.declared.words.IntelWords.{IntelWords}
use Rattle.intel_words.specs.declared.words.AddressText.{AddressText}
use Rattle.intel_words.specs.declared.words.Inside.{Inside}
use Rattle.intel_words.specs.declared.words.OperandText.{OperandText}
use Rattle.intel_words.specs.declared.words.OperandText.TheVariants.{Absent, Reg, Number, Far, Mem as Address}
use Rattle.intel_words.specs.declared.words.SizeName.{SizeName}
use Rattle.intel_words.specs.declared.words.SizeName.TheVariants.{None as NoSize}
use Rattle.intel_words.specs.Scanning.{is_word_byte, is_no_comma, front_while, back, first, rest, word, rest_behind}
use Rattle.intel_words.specs.ReadNumbers.{number_named}
use Rattle.intel_words.specs.ReadRegisters.{register_named, segment_of_word}
use Rattle.intel_words.specs.ReadAddresses.{inside_in, size_named, address_by, address_at, address_in, sized_in, far_by, far_in, plain_in, some_operand, operand_in}
use Rattle.intel_words.specs.Pieces.{size_front, sized_piece, sized_operand, sized_nth, has_no_size_word, is_unsized}
use Rattle.intel_words.proofs.Cutting.{all-both}

-- what was read is an address without a size word
abbrev IsBare : Option OperandText → Type 0
IsBare None = ⊥
IsBare (Some op) = is_unsized op ≡ true

-- what was read, with a size word
abbrev sized : SizeName → Option OperandText → Option OperandText
sized size None = None
sized size (Some op) = Some (sized_operand size op)

-- ---- an address of a size

-- an address of another size is the same but for its size
by-size : (s t : SizeName) (seg : Option Segment) (inside : Option Inside) → address_by s seg inside ≡ sized s (address_by t seg inside)
unfolding address_by sized_operand
by-size s t seg None = refl
by-size s t seg (Some inside) = refl

choice-size : (b : Bool) (s : SizeName) (x y z w : Option OperandText) → x ≡ sized s y → z ≡ sized s w → (if b then x else z) ≡ sized s (if b then y else w)
choice-size true s x y z w e f = e
choice-size false s x y z w e f = f

at-size : (s t : SizeName) (seg : Option Segment) (text : List ℕ) → address_at s seg text ≡ sized s (address_at t seg text)
unfolding address_at
at-size s t None text = refl
at-size s t (Some seg) text = choice-size (first text == 91) s _ _ None None (by-size s t (Some seg) (inside_in (rest text))) refl

in-size : (s t : SizeName) (text : List ℕ) → address_in s text ≡ sized s (address_in t text)
unfolding address_in
in-size s t text =
    choice-size (first text == 91) s _ _ _ _ (by-size s t None (inside_in (rest text)))
    (choice-size (first (rest_behind text) == 58) s _ _ None None (at-size s t (segment_of_word (word text)) (rest (rest_behind text))) refl)

-- ---- an address without a size word is read as one

by-named : (s : SizeName) (seg : Option Segment) (inside : Option Inside) → IsBare (address_by s seg inside) → has_no_size_word s ≡ true
unfolding address_by is_unsized
by-named s seg None h = absurd h
by-named s seg (Some inside) h = h

choice-bare : (b : Bool) (P : Type 0) (x y : Option OperandText) → (IsBare x → P) → (IsBare y → P) → IsBare (if b then x else y) → P
choice-bare true P x y f g h = f h
choice-bare false P x y f g h = g h

at-named : (s : SizeName) (seg : Option Segment) (text : List ℕ) → IsBare (address_at s seg text) → has_no_size_word s ≡ true
unfolding address_at
at-named s None text h = absurd h
at-named s (Some seg) text h = choice-bare (first text == 91) _ _ None (by-named s (Some seg) (inside_in (rest text))) (λ k. absurd k) h

in-named : (s : SizeName) (text : List ℕ) → IsBare (address_in s text) → has_no_size_word s ≡ true
unfolding address_in
in-named s text h =
    choice-bare (first text == 91) _ _ _ (by-named s None (inside_in (rest text)))
    (λ k. choice-bare (first (rest_behind text) == 58) _ _ None (at-named s (segment_of_word (word text)) (rest (rest_behind text))) (λ j. absurd j) k) h

-- what was read as a size word is one
abbrev IsWord : Option SizeName → Type 0
IsWord None = Unit {0}
IsWord (Some s) = has_no_size_word s ≡ true → ⊥

choice-word : (b : Bool) (x y : Option SizeName) → IsWord x → IsWord y → IsWord (if b then x else y)
choice-word true x y f g = f
choice-word false x y f g = g

no-word : false ≡ true → ⊥
no-word h = cc

named-word : (name : List ℕ) → IsWord (size_named name)
unfolding size_named has_no_size_word
named-word name =
    choice-word (bytes_eq name (codes "dword")) _ _ no-word (choice-word (bytes_eq name (codes "qword")) _ _ no-word
    (choice-word (bytes_eq name (codes "byte")) _ _ no-word (choice-word (bytes_eq name (codes "word")) _ _ no-word
    (choice-word (bytes_eq name (codes "xmmword")) _ _ no-word (choice-word (bytes_eq name (codes "ymmword")) _ _ no-word
    (choice-word (bytes_eq name (codes "tbyte")) _ _ no-word (choice-word (bytes_eq name (codes "far16")) _ _ no-word
    (choice-word (bytes_eq name (codes "far32")) _ _ no-word (choice-word (bytes_eq name (codes "far64")) _ None no-word tt)))))))))

-- so an address behind a size word is not without one
sized-bare : (s : Option SizeName) (text : List ℕ) → IsWord s → IsBare (sized_in s text) → ⊥
unfolding sized_in
sized-bare None text w h = h
sized-bare (Some s) text w h = w (in-named s text h)

far-bare : (a b : Option ℕ) → IsBare (far_by a b) → ⊥
unfolding far_by is_unsized
far-bare None b h = h
far-bare (Some x) None h = h
far-bare (Some x) (Some y) h = no-word h

number-bare : (x : Option ℕ) → IsBare (option_map Number x) → ⊥
unfolding is_unsized
number-bare None h = h
number-bare (Some x) h = no-word h

register-bare : (r : Option Register) → IsBare (option_map Reg r) → ⊥
unfolding is_unsized
register-bare None h = h
register-bare (Some r) h = no-word h

plain-bare : (name : List ℕ) → IsBare (plain_in name) → ⊥
unfolding plain_in
plain-bare name h = choice-bare (first name == 48) ⊥ _ _ (number-bare (number_named name)) (register-bare (register_named name)) h

-- the choice of x or one that is no such address, where it is one, is x
abbrev IsIn : List ℕ → Option OperandText → Type 0
IsIn text o = IsBare o → o ≡ address_in NoSize text

choice-in : (b : Bool) (text : List ℕ) (x y : Option OperandText) → IsIn text x → IsIn text y → IsIn text (if b then x else y)
choice-in true text x y f g = f
choice-in false text x y f g = g

-- an operand that is an address without a size word is read as that
bare-in : (text : List ℕ) → IsIn text (some_operand text)
unfolding some_operand far_in
bare-in text =
    choice-in (first (rest_behind text) == 32) text _ _
    (λ h. absurd (sized-bare (size_named (word text)) (rest (rest_behind text)) (named-word (word text)) h))
    (choice-in (first text == 91) text _ _ (λ h. refl)
    (choice-in (first (rest_behind text) == 58) text _ _
    (choice-in (first text == 48) text _ _ (λ h. absurd (far-bare _ _ h)) (λ h. refl))
    (λ h. absurd (plain-bare (word text) h))))

-- ---- with a size word in front

-- what stands behind a size word is read with its size
front-read : (s : SizeName) (text : List ℕ) → (has_no_size_word s ≡ true → ⊥) → operand_in (size_front s ++ text) ≡ address_in s text
unfolding size_front has_no_size_word operand_in some_operand size_named sized_in first rest front_while back is_word_byte
front-read NoSize text h = absurd (h refl)
front-read _ text h = refl

no-size : (s : SizeName) → has_no_size_word s ≡ true → s ≡ NoSize
unfolding has_no_size_word
no-size NoSize h = refl
no-size _ h = absurd cc

same-address : (a : AddressText) → a.size ≡ NoSize → (let b : AddressText = record a { size = NoSize } in b ≡ a)
same-address a e = ap (λ (s : SizeName). let b : AddressText = record a { size = s } in b) (sym e)

-- an address without a size word is itself with none
stays-bare : (op : OperandText) → is_unsized op ≡ true → sized_operand NoSize op ≡ op
unfolding is_unsized sized_operand
stays-bare (Address a) h = ap Address (same-address a (no-size a.size h))
stays-bare Absent h = refl
stays-bare (Reg r) h = refl
stays-bare (Number x) h = refl
stays-bare (Far selector offset) h = refl

same-op : (x y : OperandText) → Some x ≡ Some y → x ≡ y
same-op x y k = cc

bare-op : (text : List ℕ) (op : OperandText) → operand_in text ≡ Some op → is_unsized op ≡ true → address_in NoSize text ≡ Some op
unfolding operand_in is_unsized
bare-op [] op e h = absurd (no-word (ap is_unsized (same-op Absent op e) ∙ h))
bare-op (c ∷ cs) op e h = sym (bare-in (c ∷ cs) (subst IsBare (sym e) h)) ∙ e

-- **with a size word in front, an address without one is the same but for its size**
pub front-sized : (s : SizeName) (text : List ℕ) (op : OperandText) → operand_in text ≡ Some op → is_unsized op ≡ true
    → operand_in (size_front s ++ text) ≡ Some (sized_operand s op)
unfolding size_front
front-sized s text op e h = by-word s (has_no_size_word s) refl
  where
    by-word : (z : SizeName) (t : Bool) → has_no_size_word z ≡ t → operand_in (size_front z ++ text) ≡ Some (sized_operand z op)
    by-word z true k =
        subst (λ (y : SizeName). operand_in (size_front y ++ text) ≡ Some (sized_operand y op)) (sym (no-size z k)) (e ∙ ap Some (sym (stays-bare op h)))
    by-word z false k =
        front-read z text (λ j. no-word (sym k ∙ j)) ∙ (in-size z NoSize text ∙ ap (sized z) (bare-op text op e h))

-- no comma stands in a size word
front-plain : (s : SizeName) → list_all is_no_comma (size_front s) ≡ true
unfolding size_front is_no_comma
front-plain NoSize = refl
front-plain _ = refl

front-none : (s : SizeName) (text : List ℕ) → size_front s ++ text ≡ [] → text ≡ []
unfolding size_front
front-none NoSize text h = h
front-none _ text h = absurd cc

-- an operand that is an address without a size word has bytes
bare-some : (piece : List ℕ) (op : OperandText) → operand_in piece ≡ Some op → is_unsized op ≡ true → piece ≡ [] → ⊥
unfolding operand_in is_unsized
bare-some [] op e h k = no-word (ap is_unsized (same-op Absent op e) ∙ h)
bare-some (c ∷ cs) op e h k = cc

-- ---- an operand that gets a size word or not

flag-read : (b : Bool) (s : SizeName) (piece : List ℕ) (op : OperandText) → operand_in piece ≡ Some op → (b ≡ true → is_unsized op ≡ true)
    → operand_in (if b then size_front s ++ piece else piece) ≡ Some (if b then sized_operand s op else op)
flag-read true s piece op e u = front-sized s piece op e (u refl)
flag-read false s piece op e u = e

flag-plain : (b : Bool) (s : SizeName) (piece : List ℕ) → list_all is_no_comma piece ≡ true → list_all is_no_comma (if b then size_front s ++ piece else piece) ≡ true
flag-plain true s piece p = all-both is_no_comma (size_front s) piece (front-plain s) p
flag-plain false s piece p = p

flag-none : (b : Bool) (s : SizeName) (piece : List ℕ) (op : OperandText) → operand_in piece ≡ Some op → (b ≡ true → is_unsized op ≡ true) → piece ≡ []
    → (if b then size_front s ++ piece else piece) ≡ []
flag-none true s piece op e u k = absurd (bare-some piece op e (u refl) k)
flag-none false s piece op e u k = k

flag-some : (b : Bool) (s : SizeName) (piece : List ℕ) → (if b then size_front s ++ piece else piece) ≡ [] → piece ≡ []
flag-some true s piece k = front-none s piece k
flag-some false s piece k = k

-- ---- operand k of a text in pieces, where operand n gets a size word

-- what is known of it
pub record IsSizedPiece (s : SizeName) (n k : ℕ) (piece : List ℕ) (words : IntelWords) : Type 0 where
  pub read : operand_in (sized_piece s n k piece) ≡ Some (sized_nth s n k words)
  pub plain : list_all is_no_comma (sized_piece s n k piece) ≡ true
  pub none : piece ≡ [] → sized_piece s n k piece ≡ []
  pub some : sized_piece s n k piece ≡ [] → piece ≡ []

-- it is read with the size word, or stays
pub sized-piece : (s : SizeName) (n k : ℕ) (piece : List ℕ) (words : IntelWords) → is_unsized (slice_index_or words.ops n Absent) ≡ true
    → operand_in piece ≡ Some (slice_index_or words.ops k Absent) → list_all is_no_comma piece ≡ true → IsSizedPiece s n k piece words
unfolding sized_piece sized_nth
sized-piece s n k piece words u e p =
    let op : OperandText = slice_index_or words.ops k Absent in
    let bare : (n == k) ≡ true → is_unsized op ≡ true =
    λ h. subst (λ (j : ℕ). is_unsized (slice_index_or words.ops j Absent) ≡ true) (eqb-true n k h) u in
    record {
      read = flag-read (n == k) s piece op e bare;
      plain = flag-plain (n == k) s piece p;
      none = flag-none (n == k) s piece op e bare;
      some = flag-some (n == k) s piece;
    }
