-- What more bytes make of an encoding.
use Rattle.std.proofs.Common.{◌≡◌, ℕ, zero, suc, if◌then◌else◌, ◌+◌, ◌-◌, ◌<◌, ◌≤◌, Bool, true, false, nat_le, List, [], ◌∷◌, ◌++◌, length, take, drop, Option, Some, None, Result, Ok, Err, refl, ap, sym, ◌∙◌, subst, arith, length-append, take-append-drop}
use Rattle.std.proofs.lemmas.Bool.{leb-true, leb-false}
use Rattle.std.proofs.lemmas.List.{take-append-le, take_all, take-take, length-take-le, length-take}
use Rattle.x86_values.specs.declared.Bits.{Bits}
use Rattle.instruction_parts.specs.Counting.{is_prefix}
use Rattle.instruction_parts.specs.Front.{prefix_run}
use Rattle.unlisted.specs.declared.Kind.{Kind}
use Rattle.unlisted.specs.declared.ShapeFlow.{ShapeFlow}
use Rattle.unlisted.specs.declared.Reference.{Reference}
use Rattle.unlisted.specs.declared.Shape.{Shape}
use Rattle.unlisted.specs.declared.MeasureError.{MeasureError}
use Rattle.unlisted.specs.declared.MeasureError.TheVariants.{Ended, Unknown}
use Rattle.unlisted.specs.Encodings.{Rest, Nothing, Byte, End, relative_of, ended, found, front_step, found_behind, found_in, within_15, format_of}
use Rattle.unlisted.specs.Measured.{StandsInside}

-- ---- how long an instruction is

-- a shape behind so many bytes, with so many given
pub record Sizes (used given : ℕ) (s : Shape) : Type 0 where
  pub least : used ≤ s.len
  pub most : s.len ≤ used + given
  pub inside : StandsInside s.len s.relative

-- what is found has such a size
abbrev pub IsSized : ℕ → ℕ → Result Shape MeasureError → Type 0
IsSized used given (Ok s) = Sizes used given s
IsSized used given (Err e) = Unit {0}

relative-inside : (reference : Option Reference) (used d i : ℕ) (disp : List ℕ) → length disp ≡ d → StandsInside (used + (d + i)) (relative_of reference used disp)
unfolding relative_of
relative-inside None used d i disp h = tt
relative-inside (Some to) used d i disp h = omega arith

ended-sized : (kind : Kind) (flow : ShapeFlow) (reference : Option Reference) (d i used : ℕ) (bytes : List ℕ) (test : Bool) → nat_le (d + i) (length bytes) ≡ test → IsSized used (length bytes) (ended kind flow reference d i used bytes)
unfolding ended
ended-sized kind flow reference d i used bytes true h =
    let room : d + i ≤ length bytes = leb-true (d + i) (length bytes) h in
    rw h (record {
      least = omega arith;
      most = omega arith;
      inside = relative-inside reference used d i (take d bytes) (length-take-le d bytes (omega arith));
    })
ended-sized kind flow reference d i used bytes false h = rw h tt

sized-more : (used given : ℕ) (answer : Result Shape MeasureError) → IsSized (used + 1) given answer → IsSized used (suc given) answer
sized-more used given (Ok s) h = record { least = omega (arith, h.least); most = omega (arith, h.most); inside = h.inside }
sized-more used given (Err e) h = tt

-- what is found is as long as the bytes before it at least, and has no more than are given
pub found-sized : (r : Rest) (used : ℕ) (bytes : List ℕ) → IsSized used (length bytes) (found r used bytes)
unfolding found
found-sized Nothing used bytes = tt
found-sized (End kind flow reference d i) used bytes = ended-sized kind flow reference d i used bytes (nat_le (d + i) (length bytes)) refl
found-sized (Byte step) used [] = tt
found-sized (Byte step) used (b ∷ bytes) = sized-more used (length bytes) _ (found-sized (step b) (used + 1) bytes)

-- a shape goes beyond so many bytes
abbrev pub IsBeyond : ℕ → Result Shape MeasureError → Type 0
IsBeyond used (Ok s) = used < s.len
IsBeyond used (Err e) = Unit {0}

beyond-from : (used given : ℕ) (answer : Result Shape MeasureError) → IsSized (used + 1) given answer → IsBeyond used answer
beyond-from used given (Ok s) h = omega (arith, h.least)
beyond-from used given (Err e) h = tt

-- where a byte is to come, what is found goes beyond those that were there
byte-beyond : (step : ℕ → Rest) (used : ℕ) (bytes : List ℕ) → IsBeyond used (found (Byte step) used bytes)
unfolding found
byte-beyond step used [] = tt
byte-beyond step used (b ∷ bytes) = beyond-from used (length bytes) _ (found-sized (step b) (used + 1) bytes)

-- ---- more bytes

-- with more bytes than the given ones a shape stays and so does Unknown; from Ended only a longer shape comes
abbrev pub Grows : ℕ → Result Shape MeasureError → Result Shape MeasureError → Type 0
Grows given (Ok s) after = (after ≡ Ok s) × (s.len ≤ given)
Grows given (Err Unknown) after = after ≡ Err Unknown
Grows given (Err Ended) after = IsBeyond given after

ended-beyond : (kind : Kind) (flow : ShapeFlow) (reference : Option Reference) (d i used given : ℕ) (bytes : List ℕ) (test : Bool) → nat_le (d + i) (length bytes) ≡ test → given < used + (d + i) → IsBeyond given (ended kind flow reference d i used bytes)
unfolding ended
ended-beyond kind flow reference d i used given bytes true h few = rw h few
ended-beyond kind flow reference d i used given bytes false h few = rw h tt

le-more : (a b c : ℕ) → nat_le a b ≡ true → nat_le a (b + c) ≡ true
le-more a b c h = grind arith

ended-grows : (kind : Kind) (flow : ShapeFlow) (reference : Option Reference) (d i used : ℕ) (bytes more : List ℕ) (test : Bool) → nat_le (d + i) (length bytes) ≡ test → Grows (used + length bytes) (ended kind flow reference d i used bytes) (ended kind flow reference d i used (bytes ++ more))
unfolding ended
ended-grows kind flow reference d i used bytes more true h =
    let room : d + i ≤ length bytes = leb-true (d + i) (length bytes) h in
    let short : d ≤ length bytes = omega arith in
    let still : nat_le (d + i) (length (bytes ++ more)) ≡ true = rw length-append (le-more (d + i) (length bytes) (length more) h) in
    rw h (
      rw still (rw (take-append-le d bytes more short) refl),
      omega arith,
    )
ended-grows kind flow reference d i used bytes more false h =
    let few : length bytes < d + i = leb-false (d + i) (length bytes) h in
    rw h (ended-beyond kind flow reference d i used (used + length bytes) (bytes ++ more) _ refl (omega arith))

grows-at : (given other : ℕ) (before after : Result Shape MeasureError) → given ≡ other → Grows given before after → Grows other before after
grows-at given other before after e h = subst (λ (n : ℕ). Grows n before after) e h

-- **more bytes change nothing but Ended**
pub found-grows : (r : Rest) (used : ℕ) (bytes more : List ℕ) → Grows (used + length bytes) (found r used bytes) (found r used (bytes ++ more))
unfolding found
found-grows Nothing used bytes more = refl
found-grows (End kind flow reference d i) used bytes more = ended-grows kind flow reference d i used bytes more (nat_le (d + i) (length bytes)) refl
found-grows (Byte step) used [] more = subst (λ (n : ℕ). IsBeyond n (found (Byte step) used more)) (omega arith) (byte-beyond step used more)
found-grows (Byte step) used (b ∷ bytes) more =
    grows-at (used + 1 + length bytes) (used + length (b ∷ bytes)) _ _ (omega arith) (found-grows (step b) (used + 1) bytes more)

-- ---- the prefixes

run-le-step : (bits : Bits) (b : ℕ) (bytes more : List ℕ) (test : Bool) → is_prefix bits b ≡ test → length (prefix_run bits bytes) ≤ length (prefix_run bits (bytes ++ more)) → length (prefix_run bits (b ∷ bytes)) ≤ length (prefix_run bits (b ∷ (bytes ++ more)))
unfolding prefix_run
run-le-step bits b bytes more true h rest = rw h (omega (arith, rest))
run-le-step bits b bytes more false h rest = rw h (omega arith)

-- more bytes make no run shorter
run-le : (bits : Bits) (bytes more : List ℕ) → length (prefix_run bits bytes) ≤ length (prefix_run bits (bytes ++ more))
unfolding prefix_run
run-le bits [] more = omega arith
run-le bits (b ∷ bytes) more = run-le-step bits b bytes more (is_prefix bits b) refl (run-le bits bytes more)

-- the bytes of a run, and those behind it
pub record RunParts (bits : Bits) (bytes : List ℕ) : Type 0 where
  pub count : length bytes ≡ length (prefix_run bits bytes) + length (drop (length (prefix_run bits bytes)) bytes)

run-parts-step : (bits : Bits) (b : ℕ) (bytes : List ℕ) (test : Bool) → is_prefix bits b ≡ test → RunParts bits bytes → RunParts bits (b ∷ bytes)
unfolding prefix_run
run-parts-step bits b bytes true h rest = record { count = rw h (omega (arith, rest.count)) }
run-parts-step bits b bytes false h rest = record { count = rw h (omega arith) }

-- the bytes of a run and those behind it are all
pub run-parts : (bits : Bits) (bytes : List ℕ) → RunParts bits bytes
unfolding prefix_run
run-parts bits [] = record { count = omega arith }
run-parts bits (b ∷ bytes) = run-parts-step bits b bytes (is_prefix bits b) refl (run-parts bits bytes)

-- a run that a byte ends stays the same
record SameRun (bits : Bits) (bytes more : List ℕ) (b : ℕ) (rest : List ℕ) : Type 0 where
  run : prefix_run bits (bytes ++ more) ≡ prefix_run bits bytes
  behind : drop (length (prefix_run bits bytes)) (bytes ++ more) ≡ b ∷ (rest ++ more)

same-run-step : (bits : Bits) (c : ℕ) (bytes more : List ℕ) (b : ℕ) (rest : List ℕ) (test : Bool) → is_prefix bits c ≡ test → drop (length (prefix_run bits (c ∷ bytes))) (c ∷ bytes) ≡ b ∷ rest → (drop (length (prefix_run bits bytes)) bytes ≡ b ∷ rest → SameRun bits bytes more b rest) → SameRun bits (c ∷ bytes) more b rest
unfolding prefix_run
same-run-step bits c bytes more b rest true h e go =
    let inner : drop (length (prefix_run bits bytes)) bytes ≡ b ∷ rest = rw h at e in
    let s = go inner in
    record { run = rw h (ap (λ xs. c ∷ xs) s.run); behind = rw h s.behind }
same-run-step bits c bytes more b rest false h e go =
    let inner : (c ∷ bytes) ≡ b ∷ rest = rw h at e in
    record { run = rw h refl; behind = rw h (ap (λ xs. xs ++ more) inner) }

same-run : (bits : Bits) (bytes more : List ℕ) (b : ℕ) (rest : List ℕ) → drop (length (prefix_run bits bytes)) bytes ≡ b ∷ rest → SameRun bits bytes more b rest
unfolding prefix_run
same-run bits [] more b rest e = cc
same-run bits (c ∷ bytes) more b rest e = same-run-step bits c bytes more b rest (is_prefix bits c) refl e (same-run bits bytes more b rest)

-- what is found behind prefixes alone goes beyond them
behind-beyond : (bits : Bits) (prefixes bytes : List ℕ) (given : ℕ) → given ≤ length prefixes → IsBeyond given (found_behind bits prefixes bytes)
unfolding found_behind front_step
behind-beyond bits prefixes bytes given h = weaker _ _ h (byte-beyond _ (length prefixes) _)
  where
    weaker : (used : ℕ) (answer : Result Shape MeasureError) → given ≤ used → IsBeyond used answer → IsBeyond given answer
    weaker used (Ok s) le beyond = omega arith
    weaker used (Err e) le beyond = tt

in-grows-at : (bits : Bits) (bytes more behind : List ℕ) → drop (length (prefix_run bits bytes)) bytes ≡ behind → Grows (length bytes) (found_in bits bytes) (found_in bits (bytes ++ more))
unfolding found_in found_behind front_step found
in-grows-at bits bytes more [] e =
    let parts = run-parts bits bytes in
    let all : length bytes ≤ length (prefix_run bits (bytes ++ more)) = omega (arith, parts.count, ap length e, run-le bits bytes more) in
    rw e (behind-beyond bits (prefix_run bits (bytes ++ more)) (bytes ++ more) (length bytes) all)
in-grows-at bits bytes more (b ∷ rest) e =
    let parts = run-parts bits bytes in
    let same = same-run bits bytes more b rest e in
    let n = length (prefix_run bits bytes) in
    let whole : n + length (b ∷ rest) ≡ length bytes = omega (arith, parts.count, ap length e) in
    rw (same.run, same.behind, e)
    (grows-at (n + length (b ∷ rest)) (length bytes) _ _ whole (found-grows (front_step bits (prefix_run bits bytes)) n (b ∷ rest) more))

-- more bytes change nothing but Ended
pub in-grows : (bits : Bits) (bytes more : List ℕ) → Grows (length bytes) (found_in bits bytes) (found_in bits (bytes ++ more))
in-grows bits bytes more = in-grows-at bits bytes more _ refl

-- ---- whole instructions

-- a shape has some bytes, no more than are given, and its number stands inside
record Whole (given : ℕ) (s : Shape) : Type 0 where
  some : 0 < s.len
  most : s.len ≤ given
  inside : StandsInside s.len s.relative

abbrev IsWhole : ℕ → Result Shape MeasureError → Type 0
IsWhole given (Ok s) = Whole given s
IsWhole given (Err e) = Unit {0}

whole-from : (used given whole : ℕ) (answer : Result Shape MeasureError) → used + given ≡ whole → IsBeyond used answer → IsSized used given answer → IsWhole whole answer
whole-from used given whole (Ok s) e beyond h = record { some = omega (arith, beyond); most = omega (arith, h.most); inside = h.inside }
whole-from used given whole (Err x) e beyond h = tt

in-whole : (bits : Bits) (bytes : List ℕ) → IsWhole (length bytes) (found_in bits bytes)
unfolding found_in found_behind front_step
in-whole bits bytes =
    let parts = run-parts bits bytes in
    let n = length (prefix_run bits bytes) in
    let behind = drop n bytes in
    whole-from n (length behind) (length bytes) _ (sym parts.count) (byte-beyond _ n behind) (found-sized _ n behind)

unknown-no-shape : (s : Shape) → Err Unknown ≡ Ok s → ⊥
unknown-no-shape s h = cc

shape-of-15 : (given : ℕ) (answer : Result Shape MeasureError) (s : Shape) → within_15 given answer ≡ Ok s → answer ≡ Ok s
unfolding within_15
shape-of-15 given (Ok t) s h = h
shape-of-15 given (Err Unknown) s h = absurd (unknown-no-shape s h)
shape-of-15 given (Err Ended) s h = absurd (no-shape (nat_le 15 given) h)
  where
    no-shape : (test : Bool) → (if test then Err Unknown else Err Ended) ≡ Ok s → ⊥
    no-shape true h = cc
    no-shape false h = cc

short-of-15 : (given : ℕ) (test : Bool) (answer : Result Shape MeasureError) → nat_le 15 given ≡ test → answer ≡ (if test then Err Unknown else Err Ended) → answer ≡ Err Ended → given < 15
short-of-15 given true answer e h k = cc
short-of-15 given false answer e h k = leb-false 15 given e

ended-of-15 : (given : ℕ) (answer : Result Shape MeasureError) → within_15 given answer ≡ Err Ended → given < 15
unfolding within_15
ended-of-15 given (Ok t) h = cc
ended-of-15 given (Err Unknown) h = cc
ended-of-15 given (Err Ended) h = short-of-15 given (nat_le 15 given) (within_15 given (Err Ended)) refl refl h

-- fewer than 15 bytes end where they end
ended-below-15 : (given : ℕ) → given < 15 → within_15 given (Err Ended) ≡ Err Ended
unfolding within_15
ended-below-15 given h = let e : nat_le 15 given ≡ false = grind arith in rw e refl

whole-shape : (given : ℕ) (answer : Result Shape MeasureError) (s : Shape) → answer ≡ Ok s → IsWhole given answer → Whole given s
whole-shape given answer s e h = subst (λ (a : Result Shape MeasureError). IsWhole given a) e h

-- ---- what a shape by the formats is

-- a shape has 1 to 15 bytes, all of them given, and its number stands inside
pub record FormatFacts (bits : Bits) (bytes : List ℕ) (s : Shape) : Type 0 where
  pub some : 0 < s.len
  pub short : s.len ≤ 15
  pub given : s.len ≤ length bytes
  pub inside : StandsInside s.len s.relative
  pub found_whole : found_in bits (take 15 bytes) ≡ Ok s

-- what a format gives has these facts
pub format-facts : (bits : Bits) (bytes : List ℕ) (s : Shape) → format_of bits bytes ≡ Ok s → FormatFacts bits bytes s
unfolding format_of
format-facts bits bytes s h =
    let e = shape-of-15 (length bytes) (found_in bits (take 15 bytes)) s h in
    let sizes = whole-shape (length (take 15 bytes)) _ s e (in-whole bits (take 15 bytes)) in
    record {
      some = sizes.some;
      short = omega (arith, sizes.most, length-take 15 bytes);
      given = omega (arith, sizes.most, length-take 15 bytes);
      inside = sizes.inside;
      found_whole = e;
    }

shape-grows : (given : ℕ) (before after : Result Shape MeasureError) (s : Shape) → before ≡ Ok s → Grows given before after → after ≡ Ok s
shape-grows given before after s e h = (subst (λ (a : Result Shape MeasureError). Grows given a after) e h).0

within-shape : (given : ℕ) (answer : Result Shape MeasureError) (s : Shape) → answer ≡ Ok s → within_15 given answer ≡ Ok s
unfolding within_15
within-shape given answer s e = rw e refl

take-both : (n : ℕ) (bytes more : List ℕ) → take n (bytes ++ more) ≡ take n bytes ++ take (n - length bytes) more
take-both zero bytes more = ap (λ (k : ℕ). take k more) (let e : 0 ≡ 0 - length bytes = omega arith in e)
take-both (suc n) [] more = ap (λ (k : ℕ). take k more) (let e : suc n ≡ suc n - 0 = omega arith in e)
take-both (suc n) (b ∷ bytes) more =
    let e : n - length bytes ≡ suc n - suc (length bytes) = omega arith in
    ap (λ xs. b ∷ xs) (take-both n bytes more) ∙ ap (λ (k : ℕ). b ∷ (take n bytes ++ take k more)) e

-- the length of a shape, else 0
abbrev len_of : Result Shape MeasureError → ℕ
len_of (Ok s) = s.len
len_of (Err e) = 0

-- more bytes keep a shape
pub format-stays : (bits : Bits) (bytes more : List ℕ) (s : Shape) → format_of bits bytes ≡ Ok s → format_of bits (bytes ++ more) ≡ Ok s
unfolding format_of
format-stays bits bytes more s h =
    let facts = format-facts bits bytes s h in
    let grown = in-grows bits (take 15 bytes) (take (15 - length bytes) more) in
    let after = shape-grows _ _ _ s facts.found_whole grown in
    within-shape _ _ s (ap (found_in bits) (take-both 15 bytes more) ∙ after)

-- the bytes of a shape alone give it
pub format-alone : (bits : Bits) (bytes : List ℕ) (s : Shape) → format_of bits bytes ≡ Ok s → format_of bits (take s.len bytes) ≡ Ok s
unfolding format_of
format-alone bits bytes s h =
    let facts = format-facts bits bytes s h in
    let own = take s.len bytes in
    let size : length own ≡ s.len = length-take-le s.len bytes facts.given in
    let same : take 15 own ≡ own = take_all 15 own (omega (arith, size, facts.short)) in
    let front : take s.len (take 15 bytes) ≡ own = take-take s.len 15 bytes facts.short in
    let rest = drop s.len (take 15 bytes) in
    let whole : own ++ rest ≡ take 15 bytes = ap (λ xs. xs ++ rest) (sym front) ∙ take-append-drop s.len (take 15 bytes) in
    let grown : Grows (length own) (found_in bits own) (found_in bits (own ++ rest)) = in-grows bits own rest in
    let after : found_in bits (own ++ rest) ≡ Ok s = ap (found_in bits) whole ∙ facts.found_whole in
    within-shape _ _ s (ap (found_in bits) same ∙ same-shape _ _ (length own) (omega (arith, size)) grown after)
  where
    same-shape : (before after : Result Shape MeasureError) (given : ℕ) → s.len ≤ given → Grows given before after → after ≡ Ok s → before ≡ Ok s
    same-shape (Ok t) after given le g e = sym (g.0) ∙ e
    same-shape (Err Unknown) after given le g e = absurd (unknown-no-shape s (sym g ∙ e))
    same-shape (Err Ended) after given le g e =
        let beyond : given < s.len = subst (λ (a : Result Shape MeasureError). IsBeyond given a) e g in absurd (omega arith)

-- fewer bytes than those of a shape end inside
pub format-cut : (bits : Bits) (bytes more : List ℕ) (s : Shape) → format_of bits (bytes ++ more) ≡ Ok s → length bytes < s.len → format_of bits bytes ≡ Err Ended
unfolding format_of
format-cut bits bytes more s h few =
    let facts = format-facts bits (bytes ++ more) s h in
    let short : length bytes < 15 = omega (arith, facts.short) in
    let all : take 15 bytes ≡ bytes = take_all 15 bytes (omega arith) in
    let parted : take 15 (bytes ++ more) ≡ bytes ++ take (15 - length bytes) more =
    take-both 15 bytes more ∙ ap (λ xs. xs ++ take (15 - length bytes) more) all in
    let grown = in-grows bits bytes (take (15 - length bytes) more) in
    let after : found_in bits (bytes ++ take (15 - length bytes) more) ≡ Ok s = ap (found_in bits) (sym parted) ∙ facts.found_whole in
    ap (λ xs. within_15 (length bytes) (found_in bits xs)) all
    ∙ ap (within_15 (length bytes)) (cut _ _ (length bytes) few grown after)
    ∙ ended-below-15 (length bytes) short
  where
    cut : (before after : Result Shape MeasureError) (given : ℕ) → given < s.len → Grows given before after → after ≡ Ok s → before ≡ Err Ended
    cut (Ok t) after given lt g e =
        let same : Ok t ≡ Ok s = sym g.0 ∙ e in absurd (omega (arith, g.1, ap len_of same))
    cut (Err Unknown) after given lt g e = absurd (unknown-no-shape s (sym g ∙ e))
    cut (Err Ended) after given lt g e = refl

-- Ended is for fewer than 15 bytes
pub format-ended : (bits : Bits) (bytes : List ℕ) → format_of bits bytes ≡ Err Ended → length bytes < 15
unfolding format_of
format-ended bits bytes h = ended-of-15 (length bytes) _ h
