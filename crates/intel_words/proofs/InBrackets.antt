-- What stands inside the brackets of an address is read again.
use Rattle.std.proofs.Common.{◌≡◌, ℕ, ◌-◌, ◌*◌, ◌%◌, ◌^◌, ◌<◌, ◌≤◌, Bool, true, false, List, [], ◌∷◌, ◌++◌, option_map, Option, Some, None, refl, ap, ◌∙◌, append_assoc, arith, lit<, lit≤}
use Rattle.std.specs.Prelude.{◌&&◌, ◌==◌, nat_lt, nat_le, is_none, if◌then◌else◌, codes}
use Rattle.std.proofs.lemmas.Bool.{ltb-true, and_parts}
use Rattle.std.proofs.lemmas.Bool.Decides.{nat_tests}
use Rattle.std.proofs.Math.Nat.{mod-lt}
use Rattle.x86_values.specs.declared.Bits.{Bits}
use Rattle.x86_values.specs.declared.Bits.TheVariants.{B16, B32, B64}
use Rattle.x86_values.specs.declared.Register.{Register}
use Rattle.x86_values.specs.declared.Register.TheVariants.{Eip, Rip}
use Rattle.x86_values.specs.declared.DispSize.{DispSize}
use Rattle.x86_values.specs.declared.DispSize.TheVariants.{D0, D8, D16, D32, D64}
use Rattle.x86_values.specs.declared.Mem.{Mem}
use Rattle.text_parts.specs.declared.style.Style.TheVariants.{Intel}
use Rattle.text_parts.specs.Numbers.{number, decimal}
use Rattle.text_parts.specs.Registers.{register}
use Rattle.text_parts.specs.Addresses.{is_instruction_pointer, is_negative, magnitude, sign, signed_displacement, lone_displacement, relative_word, base_text, joint, scale_text, index_text, sum_text, inside}
use Rattle.intel_words.specs.declared.words.Inside.{Inside}
use Rattle.intel_words.specs.declared.words.Inside.TheVariants.{Lone, Rel, Sum}
use Rattle.intel_words.specs.declared.words.SignedText.{SignedText}
use Rattle.intel_words.specs.Words.{is_eip, lone_of, signed_of, shown_scale, sum_of, inside_of}
use Rattle.x86_values.specs.Named.{is_named, is_named_if}
use Rattle.intel_words.specs.Printable.{is_word_number, index_is_shown, is_printable_address}
use Rattle.intel_words.specs.Scanning.{is_word_byte, front_while, back, first, rest, word, rest_behind}
use Rattle.intel_words.specs.ReadNumbers.{number_named, decimal_digit}
use Rattle.intel_words.specs.ReadRegisters.{register_named}
use Rattle.intel_words.specs.ReadAddresses.{signed_by, signed_in, sum_with, scaled_by, behind_index, index_by, sum_by, rel_by, relative_in, inside_in}
use Rattle.intel_words.proofs.Cutting.{front-ends, back-ends, if-no, if-yes}
use Rattle.intel_words.proofs.NumberText.{number-read, number-bytes, number-first}
use Rattle.intel_words.proofs.RegisterText.{register-read}
use Rattle.intel_words.proofs.Below.{agree-below}

-- ---- numbers and registers in front of another text

-- a printed number is read as it was printed
pub number-word : (n : ℕ) (ys : List ℕ) → n < 2 ^ 64 → front_while is_word_byte ys ≡ [] → number_named (word (number Intel n ++ ys)) ≡ Some n
number-word n ys h e = ap number_named (front-ends is_word_byte (number Intel n) ys (number-bytes n) e) ∙ number-read n h

-- and what follows it is left
pub number-behind : (n : ℕ) (ys : List ℕ) → back is_word_byte ys ≡ ys → rest_behind (number Intel n ++ ys) ≡ ys
number-behind n ys e = back-ends is_word_byte (number Intel n) ys (number-bytes n) e

-- a printed register is read as it was printed
pub register-word : (r : Register) (ys : List ℕ) → is_named r ≡ true → front_while is_word_byte ys ≡ [] → register_named (word (register Intel r ++ ys)) ≡ Some r
register-word r ys h e =
    let read = register-read r h in
    ap register_named (front-ends is_word_byte (register Intel r) ys read.bytes e) ∙ read.named

-- and what follows it is left
pub register-behind : (r : Register) (ys : List ℕ) → is_named r ≡ true → back is_word_byte ys ≡ ys → rest_behind (register Intel r ++ ys) ≡ ys
register-behind r ys h e =
    let read = register-read r h in
    back-ends is_word_byte (register Intel r) ys read.bytes e

-- a text that begins with a letter begins so in front of another
first-front : (xs ys : List ℕ) → nat_le 97 (first xs) ≡ true → first (xs ++ ys) ≡ first xs
unfolding first
first-front [] ys h = absurd cc
first-front (c ∷ cs) ys h = refl

-- a register's text begins with a letter
pub letter-first : (r : Register) (ys : List ℕ) → is_named r ≡ true → nat_le 97 (first (register Intel r ++ ys)) ≡ true
letter-first r ys h =
    let read = register-read r h in
    ap (λ (c : ℕ). nat_le 97 c) (first-front (register Intel r) ys read.letter) ∙ read.letter

-- which is no digit and no sign
pub no-letter : (c k : ℕ) → nat_le 97 c ≡ true → k < 97 → (c == k) ≡ false
no-letter c k h lt = grind (arith, nat_tests)

-- ---- the end of an address: a displacement with its sign, and the bracket

record IsEnd (s : List ℕ) (value : Option SignedText) : Type 0 where
  reads : signed_in s ≡ Some value
  stops : front_while is_word_byte s ≡ []
  stays : back is_word_byte s ≡ s
  no_star : (first s == 42) ≡ false
  no_index : (first s == 43 && nat_le 97 (first (rest s))) ≡ false
  no_space : (first s == 32) ≡ false

signed-end : (negative : Bool) (n : ℕ) → n < 2 ^ 64 →
    IsEnd ((sign Intel negative ++ number Intel n) ++ codes "]") (Some (record { negative = negative; magnitude = n }))
unfolding sign signed_in signed_by first rest front_while back is_word_byte
signed-end true n h = record {
  reads = ap (signed_by true) (number-word n (codes "]") h refl);
  stops = refl;
  stays = refl;
  no_star = refl;
  no_index = refl;
  no_space = refl;
}
signed-end false n h = record {
  reads = ap (signed_by false) (number-word n (codes "]") h refl);
  stops = refl;
  stays = refl;
  no_star = refl;
  no_index = ap (λ (c : ℕ). nat_le 97 c) (number-first n (codes "]"));
  no_space = refl;
}

magnitude-by : (b : Bool) (x p : ℕ) → nat_lt (p - 1) (2 * x) ≡ b → x < p → p ≤ 2 ^ 64 → (if b then p - x else x) < 2 ^ 64
magnitude-by true x p e h le = let above = ltb-true (p - 1) (2 * x) e in omega arith
magnitude-by false x p e h le = omega arith

magnitude-small : (asize : Bits) (d : ℕ) → magnitude asize d < 2 ^ 64
unfolding magnitude is_negative
magnitude-small B16 d = magnitude-by (is_negative B16 d) (d % 2 ^ 16) (2 ^ 16) refl (mod-lt d (lit< tt)) (lit≤ tt)
magnitude-small B32 d = magnitude-by (is_negative B32 d) (d % 2 ^ 32) (2 ^ 32) refl (mod-lt d (lit< tt)) (lit≤ tt)
magnitude-small B64 d = magnitude-by (is_negative B64 d) (d % 2 ^ 64) (2 ^ 64) refl (mod-lt d (lit< tt)) (lit≤ tt)

end-by : (size : DispSize) (asize : Bits) (b i : Option Register) (scale d : ℕ) →
    IsEnd (signed_displacement Intel asize (record { base = b; index = i; scale = scale; disp_size = size; disp = d }) ++ codes "]")
    (signed_of asize (record { base = b; index = i; scale = scale; disp_size = size; disp = d }))
unfolding signed_displacement signed_of signed_in first rest front_while back is_word_byte
end-by D0 asize b i scale d = record { reads = refl; stops = refl; stays = refl; no_star = refl; no_index = refl; no_space = refl }
end-by D8 asize b i scale d = signed-end (is_negative asize d) (magnitude asize d) (magnitude-small asize d)
end-by D16 asize b i scale d = signed-end (is_negative asize d) (magnitude asize d) (magnitude-small asize d)
end-by D32 asize b i scale d = signed-end (is_negative asize d) (magnitude asize d) (magnitude-small asize d)
end-by D64 asize b i scale d = signed-end (is_negative asize d) (magnitude asize d) (magnitude-small asize d)

end-of : (asize : Bits) (m : Mem) → IsEnd (signed_displacement Intel asize m ++ codes "]") (signed_of asize m)
end-of asize m = end-by m.disp_size asize m.base m.index m.scale m.disp

-- ---- a scale

scale-value : (scale : ℕ) (s : List ℕ) → scale < 10 → decimal_digit (first (decimal scale ++ s)) ≡ Some scale
unfolding decimal decimal_digit first
scale-value scale s h = agree-below (λ k. decimal_digit (first (decimal k ++ s))) (λ k. Some k) 10 scale refl h

scale-rest : (scale : ℕ) (s : List ℕ) → scale < 10 → rest (decimal scale ++ s) ≡ s
unfolding decimal rest
scale-rest scale s h = agree-below (λ k. rest (decimal k ++ s)) (λ k. s) 10 scale refl h

-- the scale that is shown
shown : Bits → ℕ → Option ℕ
shown B16 scale = None
shown B32 scale = Some scale
shown B64 scale = Some scale

star-with : (base index : Option Register) (scale : ℕ) (s : List ℕ) (value : Option SignedText) → IsEnd s value →
    scaled_by base index (Some scale) s ≡ Some (Sum (record { base = base; index = index; scale = Some scale; disp = value }))
unfolding scaled_by sum_with
star-with base index scale s value e = ap (sum_with base index (Some scale)) e.reads

star-read : (base index : Option Register) (scale : ℕ) (s : List ℕ) (value : Option SignedText) → scale < 10 → IsEnd s value →
    behind_index base index ((codes "*" ++ decimal scale) ++ s) ≡ Some (Sum (record { base = base; index = index; scale = Some scale; disp = value }))
unfolding behind_index first rest
star-read base index scale s value h e =
    ap (λ (o : Option ℕ). scaled_by base index o (rest (decimal scale ++ s))) (scale-value scale s h)
    ∙ (ap (λ (t : List ℕ). scaled_by base index (Some scale) t) (scale-rest scale s h) ∙ star-with base index scale s value e)

index-read : (asize : Bits) (base : Option Register) (x : Register) (scale : ℕ) (s : List ℕ) (value : Option SignedText) → scale < 10 → IsEnd s value →
    behind_index base (Some x) (scale_text (codes "*") asize scale ++ s)
    ≡ Some (Sum (record { base = base; index = Some x; scale = shown asize scale; disp = value }))
unfolding scale_text shown behind_index sum_with
index-read B16 base x scale s value h e = if-no (first s == 42) _ _ e.no_star ∙ ap (sum_with base (Some x) None) e.reads
index-read B32 base x scale s value h e = star-read base (Some x) scale s value h e
index-read B64 base x scale s value h e = star-read base (Some x) scale s value h e

-- what stands behind an index is no part of its name
scale-stops : (asize : Bits) (scale : ℕ) (s : List ℕ) (value : Option SignedText) → IsEnd s value → front_while is_word_byte (scale_text (codes "*") asize scale ++ s) ≡ []
unfolding scale_text front_while is_word_byte
scale-stops B16 scale s value e = e.stops
scale-stops B32 scale s value e = refl
scale-stops B64 scale s value e = refl

scale-stays : (asize : Bits) (scale : ℕ) (s : List ℕ) (value : Option SignedText) → IsEnd s value →
    back is_word_byte (scale_text (codes "*") asize scale ++ s) ≡ scale_text (codes "*") asize scale ++ s
unfolding scale_text back is_word_byte
scale-stays B16 scale s value e = e.stays
scale-stays B32 scale s value e = refl
scale-stays B64 scale s value e = refl

-- ---- registers

inside-register : (r : Register) (t : List ℕ) → is_named r ≡ true → front_while is_word_byte t ≡ [] → back is_word_byte t ≡ t → (first t == 32) ≡ false →
    inside_in (register Intel r ++ t) ≡ sum_by (Some r) t
unfolding inside_in
inside-register r t h stops stays space =
    let letter = letter-first r t h in
    if-no (first (rest_behind (register Intel r ++ t)) == 32) _ _ (ap (λ (u : List ℕ). first u == 32) (register-behind r t h stays) ∙ space)
    ∙ (if-no (first (register Intel r ++ t) == 93) _ _ (no-letter (first (register Intel r ++ t)) 93 letter (omega arith))
    ∙ (if-no (first (register Intel r ++ t) == 48) _ _ (no-letter (first (register Intel r ++ t)) 48 letter (omega arith))
    ∙ (ap (λ (o : Option Register). sum_by o (rest_behind (register Intel r ++ t))) (register-word r t h stops)
    ∙ ap (sum_by (Some r)) (register-behind r t h stays))))

-- a base alone
base-read : (r : Register) (s : List ℕ) (value : Option SignedText) → is_named r ≡ true → IsEnd s value →
    inside_in (register Intel r ++ s) ≡ Some (Sum (record { base = Some r; index = None; scale = None; disp = value }))
unfolding sum_by sum_with
base-read r s value h e =
    inside-register r s h e.stops e.stays e.no_space
    ∙ (if-no (first s == 42) _ _ e.no_star
    ∙ (if-no (first s == 43 && nat_le 97 (first (rest s))) _ _ e.no_index ∙ ap (sum_with (Some r) None None) e.reads))

-- an index alone, with its scale
lone-index-read : (x : Register) (scale : ℕ) (s : List ℕ) (value : Option SignedText) → is_named x ≡ true → scale < 10 → IsEnd s value →
    inside_in (register Intel x ++ ((codes "*" ++ decimal scale) ++ s))
    ≡ Some (Sum (record { base = None; index = Some x; scale = Some scale; disp = value }))
unfolding sum_by first front_while back is_word_byte
lone-index-read x scale s value h small e =
    inside-register x ((codes "*" ++ decimal scale) ++ s) h refl refl refl ∙ star-read None (Some x) scale s value small e

-- a base and an index
both-by : (asize : Bits) (r x : Register) (scale : ℕ) (s : List ℕ) (value : Option SignedText) → is_named x ≡ true → scale < 10 → IsEnd s value →
    sum_by (Some r) (codes "+" ++ (register Intel x ++ (scale_text (codes "*") asize scale ++ s)))
    ≡ Some (Sum (record { base = Some r; index = Some x; scale = shown asize scale; disp = value }))
unfolding sum_by first rest index_by
both-by asize r x scale s value h small e =
    if-yes (nat_le 97 (first (register Intel x ++ (scale_text (codes "*") asize scale ++ s)))) _ _ (letter-first x (scale_text (codes "*") asize scale ++ s) h)
    ∙ (ap (λ (o : Option Register). index_by (Some r) o (rest_behind (register Intel x ++ (scale_text (codes "*") asize scale ++ s))))
    (register-word x (scale_text (codes "*") asize scale ++ s) h (scale-stops asize scale s value e))
    ∙ (ap (λ (t : List ℕ). behind_index (Some r) (Some x) t) (register-behind x (scale_text (codes "*") asize scale ++ s) h (scale-stays asize scale s value e))
    ∙ index-read asize (Some r) x scale s value small e))

both-read : (asize : Bits) (r x : Register) (scale : ℕ) (s : List ℕ) (value : Option SignedText) → is_named r ≡ true → is_named x ≡ true → scale < 10 → IsEnd s value →
    inside_in (register Intel r ++ (codes "+" ++ (register Intel x ++ (scale_text (codes "*") asize scale ++ s))))
    ≡ Some (Sum (record { base = Some r; index = Some x; scale = shown asize scale; disp = value }))
unfolding first front_while back is_word_byte
both-read asize r x scale s value hr hx small e =
    inside-register r (codes "+" ++ (register Intel x ++ (scale_text (codes "*") asize scale ++ s))) hr refl refl refl
    ∙ both-by asize r x scale s value hx small e

-- ---- base, index and displacement

regroup : (r p x st sg e : List ℕ) → (r ++ ((p ++ (x ++ st)) ++ sg)) ++ e ≡ r ++ (p ++ (x ++ (st ++ (sg ++ e))))
regroup r p x st sg e = simp append_assoc

no-scale : (asize : Bits) (m : Mem) → m.index ≡ None → None ≡ shown_scale asize m
unfolding shown_scale
no-scale B16 m e = refl
no-scale B32 m e = rw e refl
no-scale B64 m e = rw e refl

-- the registers and the scale of an address, which is a record of these fields
abbrev address : Option Register → Option Register → ℕ → DispSize → ℕ → Mem
address b i scale size d = record { base = b; index = i; scale = scale; disp_size = size; disp = d }

scale-shown : (asize : Bits) (b : Option Register) (x : Register) (scale : ℕ) (size : DispSize) (d : ℕ) →
    shown asize scale ≡ shown_scale asize (address b (Some x) scale size d)
unfolding shown_scale shown
scale-shown B16 b x scale size d = refl
scale-shown B32 b x scale size d = refl
scale-shown B64 b x scale size d = refl

-- a base alone
base-sum : (asize : Bits) (r : Register) (scale : ℕ) (size : DispSize) (d : ℕ) → is_named r ≡ true →
    inside_in (sum_text Intel asize (address (Some r) None scale size d) ++ codes "]") ≡ Some (Sum (sum_of asize (address (Some r) None scale size d)))
unfolding sum_text base_text index_text sum_of
base-sum asize r scale size d h =
    let m : Mem = address (Some r) None scale size d in
    ap inside_in (append_assoc (register Intel r) (signed_displacement Intel asize m) (codes "]"))
    ∙ (base-read r (signed_displacement Intel asize m ++ codes "]") (signed_of asize m) h (end-of asize m)
    ∙ ap (λ (o : Option ℕ). Some (Sum (record { base = Some r; index = None; scale = o; disp = signed_of asize m }))) (no-scale asize m refl))

-- an index alone
index-sum : (asize : Bits) (x : Register) (scale : ℕ) (size : DispSize) (d : ℕ) → is_named x ≡ true → scale < 10 →
    index_is_shown asize (address None (Some x) scale size d) ≡ true →
    inside_in (sum_text Intel asize (address None (Some x) scale size d) ++ codes "]") ≡ Some (Sum (sum_of asize (address None (Some x) scale size d)))
unfolding sum_text base_text index_text joint scale_text sum_of shown_scale index_is_shown
index-sum B16 x scale size d h small here = absurd cc
index-sum B32 x scale size d h small here =
    let m : Mem = address None (Some x) scale size d in
    let st : List ℕ = codes "*" ++ decimal scale in
    ap inside_in (append_assoc (register Intel x ++ st) (signed_displacement Intel B32 m) (codes "]")
    ∙ append_assoc (register Intel x) st (signed_displacement Intel B32 m ++ codes "]"))
    ∙ lone-index-read x scale (signed_displacement Intel B32 m ++ codes "]") (signed_of B32 m) h small (end-of B32 m)
index-sum B64 x scale size d h small here =
    let m : Mem = address None (Some x) scale size d in
    let st : List ℕ = codes "*" ++ decimal scale in
    ap inside_in (append_assoc (register Intel x ++ st) (signed_displacement Intel B64 m) (codes "]")
    ∙ append_assoc (register Intel x) st (signed_displacement Intel B64 m ++ codes "]"))
    ∙ lone-index-read x scale (signed_displacement Intel B64 m ++ codes "]") (signed_of B64 m) h small (end-of B64 m)

-- both
both-sum : (asize : Bits) (r x : Register) (scale : ℕ) (size : DispSize) (d : ℕ) → is_named r ≡ true → is_named x ≡ true → scale < 10 →
    inside_in (sum_text Intel asize (address (Some r) (Some x) scale size d) ++ codes "]")
    ≡ Some (Sum (sum_of asize (address (Some r) (Some x) scale size d)))
unfolding sum_text base_text index_text joint sum_of
both-sum asize r x scale size d hr hx small =
    let m : Mem = address (Some r) (Some x) scale size d in
    let st : List ℕ = scale_text (codes "*") asize scale in
    ap inside_in (regroup (register Intel r) (codes "+") (register Intel x) st (signed_displacement Intel asize m) (codes "]"))
    ∙ (both-read asize r x scale (signed_displacement Intel asize m ++ codes "]") (signed_of asize m) hr hx small (end-of asize m)
    ∙ ap (λ (o : Option ℕ). Some (Sum (record { base = Some r; index = Some x; scale = o; disp = signed_of asize m }))) (scale-shown asize (Some r) x scale size d))

sum-by : (asize : Bits) (b i : Option Register) (scale : ℕ) (size : DispSize) (d : ℕ) → (is_none b && is_none i) ≡ false →
    is_named_if b ≡ true → is_named_if i ≡ true → scale < 10 → index_is_shown asize (address b i scale size d) ≡ true →
    inside_in (sum_text Intel asize (address b i scale size d) ++ codes "]") ≡ Some (Sum (sum_of asize (address b i scale size d)))
unfolding is_named_if
sum-by asize None None scale size d some hb hi small here = absurd cc
sum-by asize (Some r) None scale size d some hb hi small here = base-sum asize r scale size d hb
sum-by asize None (Some x) scale size d some hb hi small here = index-sum asize x scale size d hi small here
sum-by asize (Some r) (Some x) scale size d some hb hi small here = both-sum asize r x scale size d hb hi small

-- ---- the other two kinds of address

-- a target at RIP or EIP
relative-read : (base : Option Register) (d : ℕ) → is_instruction_pointer base ≡ true → d < 2 ^ 64 →
    inside_in ((relative_word Intel base ++ number Intel d) ++ codes "]") ≡ Some (Rel (is_eip base) d)
unfolding is_instruction_pointer relative_word is_eip inside_in relative_in first rest front_while back is_word_byte rel_by
relative-read (Some Eip) d h small = ap (rel_by true) (number-word d (codes "]") small refl)
relative-read (Some Rip) d h small = ap (rel_by false) (number-word d (codes "]") small refl)
relative-read _ d h small = absurd cc

-- a displacement alone
lone-space : (d : ℕ) → (first (rest_behind (number Intel d ++ codes "]")) == 32) ≡ false
unfolding first back is_word_byte
lone-space d = ap (λ (u : List ℕ). first u == 32) (number-behind d (codes "]") refl)

lone-number : (d : ℕ) → d < 2 ^ 64 → number_named (word (number Intel d ++ codes "]")) ≡ Some d
unfolding front_while is_word_byte
lone-number d small = number-word d (codes "]") small refl

lone-read : (d : ℕ) → d < 2 ^ 64 → inside_in (number Intel d ++ codes "]") ≡ Some (Lone d)
unfolding inside_in
lone-read d small =
    let zero_first : first (number Intel d ++ codes "]") ≡ 48 = number-first d (codes "]") in
    if-no (first (rest_behind (number Intel d ++ codes "]")) == 32) _ _ (lone-space d)
    ∙ (if-no (first (number Intel d ++ codes "]") == 93) _ _ (ap (λ (c : ℕ). c == 93) zero_first)
    ∙ (if-yes (first (number Intel d ++ codes "]") == 48) _ _ (ap (λ (c : ℕ). c == 48) zero_first)
    ∙ ap (option_map Lone) (lone-number d small)))

absolute-by : (b i : Option Register) (scale : ℕ) (size : DispSize) (d : ℕ) → d < 2 ^ 64 →
    inside_in (lone_displacement Intel (address b i scale size d) ++ codes "]") ≡ Some (lone_of (address b i scale size d))
unfolding lone_displacement lone_of inside_in first front_while back is_word_byte
absolute-by b i scale D0 d h = refl
absolute-by b i scale D8 d h = lone-read d h
absolute-by b i scale D16 d h = lone-read d h
absolute-by b i scale D32 d h = lone-read d h
absolute-by b i scale D64 d h = lone-read d h

-- ---- the three kinds

pick-inside : (r a : Bool) (x y z : List ℕ) (u v w : Inside) → (r ≡ true → inside_in (x ++ codes "]") ≡ Some u) → (inside_in (y ++ codes "]") ≡ Some v) →
    (a ≡ false → inside_in (z ++ codes "]") ≡ Some w) →
    inside_in ((if r then x else (if a then y else z)) ++ codes "]") ≡ Some (if r then u else (if a then v else w))
pick-inside true a x y z u v w f g h = f refl
pick-inside false true x y z u v w f g h = g
pick-inside false false x y z u v w f g h = h refl

-- what a printed address has in its brackets is read as it was printed
pub inside-read : (asize : Bits) (m : Mem) → is_printable_address asize m ≡ true → inside_in (inside Intel asize m ++ codes "]") ≡ Some (inside_of asize m)
unfolding inside inside_of is_printable_address is_word_number
inside-read asize m h =
    let hb : is_named_if m.base ≡ true = (and_parts (is_named_if m.base) _ h).0 in
    let h1 : (is_named_if m.index && (nat_lt m.scale 10 && (nat_lt m.disp (2 ^ 64) && index_is_shown asize m))) ≡ true = (and_parts (is_named_if m.base) _ h).1 in
    let hi : is_named_if m.index ≡ true = (and_parts (is_named_if m.index) _ h1).0 in
    let h2 : (nat_lt m.scale 10 && (nat_lt m.disp (2 ^ 64) && index_is_shown asize m)) ≡ true = (and_parts (is_named_if m.index) _ h1).1 in
    let hs : nat_lt m.scale 10 ≡ true = (and_parts (nat_lt m.scale 10) _ h2).0 in
    let h3 : (nat_lt m.disp (2 ^ 64) && index_is_shown asize m) ≡ true = (and_parts (nat_lt m.scale 10) _ h2).1 in
    let hd : nat_lt m.disp (2 ^ 64) ≡ true = (and_parts (nat_lt m.disp (2 ^ 64)) _ h3).0 in
    let here : index_is_shown asize m ≡ true = (and_parts (nat_lt m.disp (2 ^ 64)) _ h3).1 in
    let small : m.disp < 2 ^ 64 = ltb-true m.disp (2 ^ 64) hd in
    let scale_small : m.scale < 10 = ltb-true m.scale 10 hs in
    pick-inside (is_instruction_pointer m.base) (is_none m.base && is_none m.index) (relative_word Intel m.base ++ number Intel m.disp)
    (lone_displacement Intel m) (sum_text Intel asize m) (Rel (is_eip m.base) m.disp) (lone_of m) (Sum (sum_of asize m))
    (λ (r : is_instruction_pointer m.base ≡ true). relative-read m.base m.disp r small)
    (absolute-by m.base m.index m.scale m.disp_size m.disp small)
    (λ (a : (is_none m.base && is_none m.index) ≡ false). sum-by asize m.base m.index m.scale m.disp_size m.disp a hb hi scale_small here)
