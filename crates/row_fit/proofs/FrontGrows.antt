-- A front that is known or forbidden stays so, whatever stands behind the bytes; and where the opcode byte is.
use Rattle.std.proofs.Common.{◌≡◌, ◌⊎◌, inl, inr, ℕ, suc, ◌+◌, ◌-◌, ◌%◌, ◌<◌, Bool, true, false, ◌&&◌, ◌==◌, List, [], ◌∷◌, ◌++◌, length, get_or, drop, Option, Some, None, refl, ap, sym, ◌∙◌, arith, append_assoc, length-drop, if◌then◌else◌}
use Rattle.std.proofs.lemmas.List.{drop_more}
use Rattle.std.proofs.Math.Seq.{drop-length, drop-append-add}
use Rattle.x86_values.specs.declared.Bits.{Bits}
use Rattle.x86_values.specs.declared.Bits.TheVariants.{B16, B32, B64}
use Rattle.instruction_parts.specs.declared.row_types.Map.{Map}
use Rattle.instruction_parts.specs.declared.row_types.Map.TheVariants.{One, M0f, M0f38, M0f3a}
use Rattle.instruction_parts.specs.declared.spelling.Vex.{Vex}
use Rattle.instruction_parts.specs.declared.spelling.PrefixState.{PrefixState}
use Rattle.instruction_parts.specs.Counting.{is_64, is_prefix}
use Rattle.instruction_parts.specs.Bytes.{state_from}
use Rattle.instruction_parts.specs.Front.{Front, Forbidden, Known, is_open, prefix_run, forbids_vex, top_two_set, map_numbered, short_vex, long_vex, opcode_front, short_vex_front, third_byte_front, long_vex_front, vex_front, vex_or_opcode_front, escape_front, is_vex_lead, lead_front, long_front}
use Rattle.row_fit.specs.FrontParts.{OpcodeAt}
use Rattle.row_fit.proofs.FrontLaws.{long_front-run}
use Rattle.row_fit.proofs.FrontConverse.{run_all, run_front, if_known, else_known, same_state}

-- ---- more bytes change nothing but an open front

if_grows : (test : Bool) (x y x' y' : Front) → (is_open x ≡ false → x' ≡ x) → (is_open y ≡ false → y' ≡ y) → is_open (if test then x else y) ≡ false → (if test then x' else y') ≡ (if test then x else y)
if_grows true x y x' y' hx hy h = hx h
if_grows false x y x' y' hx hy h = hy h

opcode_front-grows : (bits : Bits) (ps : List ℕ) (lead : ℕ) (vex : Option Vex) (map : Map) (bytes more : List ℕ) → is_open (opcode_front bits ps lead vex map bytes) ≡ false → opcode_front bits ps lead vex map (bytes ++ more) ≡ opcode_front bits ps lead vex map bytes
unfolding opcode_front
opcode_front-grows bits ps lead vex map [] more h = cc
opcode_front-grows bits ps lead vex map (o ∷ bytes) more h = refl

short_vex_front-grows : (bits : Bits) (ps bytes more : List ℕ) → is_open (short_vex_front bits ps bytes) ≡ false → short_vex_front bits ps (bytes ++ more) ≡ short_vex_front bits ps bytes
unfolding short_vex_front
short_vex_front-grows bits ps [] more h = cc
short_vex_front-grows bits ps (b ∷ bytes) more h = opcode_front-grows bits ps 2 (Some (short_vex b)) M0f bytes more h

third_byte_front-grows : (bits : Bits) (ps : List ℕ) (b : ℕ) (map : Option Map) (bytes more : List ℕ) → is_open (third_byte_front bits ps b map bytes) ≡ false → third_byte_front bits ps b map (bytes ++ more) ≡ third_byte_front bits ps b map bytes
unfolding third_byte_front
third_byte_front-grows bits ps b None bytes more h = refl
third_byte_front-grows bits ps b (Some map) [] more h = cc
third_byte_front-grows bits ps b (Some map) (c ∷ bytes) more h =
    opcode_front-grows bits ps 3 (Some (long_vex map b c)) map bytes more h

long_vex_front-grows : (bits : Bits) (ps bytes more : List ℕ) → is_open (long_vex_front bits ps bytes) ≡ false → long_vex_front bits ps (bytes ++ more) ≡ long_vex_front bits ps bytes
unfolding long_vex_front
long_vex_front-grows bits ps [] more h = cc
long_vex_front-grows bits ps (b ∷ bytes) more h = third_byte_front-grows bits ps b (map_numbered (b % 32)) bytes more h

vex_front-grows : (bits : Bits) (ps : List ℕ) (lead : ℕ) (bytes more : List ℕ) → is_open (vex_front bits ps lead bytes) ≡ false → vex_front bits ps lead (bytes ++ more) ≡ vex_front bits ps lead bytes
unfolding vex_front
vex_front-grows bits ps lead bytes more h =
    if_grows (forbids_vex bits ps) Forbidden (if lead == 0xC5 then short_vex_front bits ps bytes else long_vex_front bits ps bytes)
    Forbidden (if lead == 0xC5 then short_vex_front bits ps (bytes ++ more) else long_vex_front bits ps (bytes ++ more))
    (λ _. refl)
    (λ h'. if_grows (lead == 0xC5) (short_vex_front bits ps bytes) (long_vex_front bits ps bytes)
    (short_vex_front bits ps (bytes ++ more)) (long_vex_front bits ps (bytes ++ more))
    (short_vex_front-grows bits ps bytes more) (long_vex_front-grows bits ps bytes more) h') h

vex_or_opcode_front-grows : (bits : Bits) (ps : List ℕ) (lead : ℕ) (bytes more : List ℕ) → is_open (vex_or_opcode_front bits ps lead bytes) ≡ false → vex_or_opcode_front bits ps lead (bytes ++ more) ≡ vex_or_opcode_front bits ps lead bytes
unfolding vex_or_opcode_front
vex_or_opcode_front-grows B64 ps lead bytes more h = vex_front-grows B64 ps lead bytes more h
vex_or_opcode_front-grows B16 ps lead [] more h = cc
vex_or_opcode_front-grows B32 ps lead [] more h = cc
vex_or_opcode_front-grows B16 ps lead (b ∷ bytes) more h =
    if_grows (top_two_set b) (vex_front B16 ps lead (b ∷ bytes)) (opcode_front B16 ps 0 None One (lead ∷ (b ∷ bytes)))
    (vex_front B16 ps lead (b ∷ (bytes ++ more))) (opcode_front B16 ps 0 None One (lead ∷ (b ∷ (bytes ++ more))))
    (vex_front-grows B16 ps lead (b ∷ bytes) more) (opcode_front-grows B16 ps 0 None One (lead ∷ (b ∷ bytes)) more) h
vex_or_opcode_front-grows B32 ps lead (b ∷ bytes) more h =
    if_grows (top_two_set b) (vex_front B32 ps lead (b ∷ bytes)) (opcode_front B32 ps 0 None One (lead ∷ (b ∷ bytes)))
    (vex_front B32 ps lead (b ∷ (bytes ++ more))) (opcode_front B32 ps 0 None One (lead ∷ (b ∷ (bytes ++ more))))
    (vex_front-grows B32 ps lead (b ∷ bytes) more) (opcode_front-grows B32 ps 0 None One (lead ∷ (b ∷ bytes)) more) h

escape_front-grows : (bits : Bits) (ps bytes more : List ℕ) → is_open (escape_front bits ps bytes) ≡ false → escape_front bits ps (bytes ++ more) ≡ escape_front bits ps bytes
unfolding escape_front
escape_front-grows bits ps [] more h = cc
escape_front-grows bits ps (b ∷ bytes) more h =
    if_grows (b == 0x38) _ _ _ _ (opcode_front-grows bits ps 2 None M0f38 bytes more)
    (if_grows (b == 0x3A) _ _ _ _ (opcode_front-grows bits ps 2 None M0f3a bytes more)
    (if_grows (b == 0x0F) Forbidden _ Forbidden _ (λ _. refl) (opcode_front-grows bits ps 1 None M0f (b ∷ bytes) more))) h

lead_front-grows : (bits : Bits) (ps bytes more : List ℕ) → is_open (lead_front bits ps bytes) ≡ false → lead_front bits ps (bytes ++ more) ≡ lead_front bits ps bytes
unfolding lead_front
lead_front-grows bits ps [] more h = cc
lead_front-grows bits ps (b ∷ bytes) more h =
    if_grows (is_vex_lead b) _ _ _ _ (vex_or_opcode_front-grows bits ps b bytes more)
    (if_grows (b == 0x0F) _ _ _ _ (escape_front-grows bits ps bytes more)
    (if_grows (is_64 bits && b == 0x62) Forbidden _ Forbidden _ (λ _. refl) (opcode_front-grows bits ps 0 None One (b ∷ bytes) more))) h

-- what stands behind the run of prefixes
record Behind (bits : Bits) (bytes : List ℕ) : Type 0 where
  first : ℕ
  tail : List ℕ
  bytes_are : bytes ≡ prefix_run bits bytes ++ (first ∷ tail)
  stops : is_prefix bits first ≡ false

run_behind-step : (bits : Bits) (b : ℕ) (bytes : List ℕ) (test : Bool) → is_prefix bits b ≡ test → (bytes ≡ prefix_run bits bytes) ⊎ Behind bits bytes → ((b ∷ bytes) ≡ prefix_run bits (b ∷ bytes)) ⊎ Behind bits (b ∷ bytes)
unfolding prefix_run
run_behind-step bits b bytes true h (inl all) = inl (rw h (ap (λ xs. b ∷ xs) all))
run_behind-step bits b bytes true h (inr r) =
    inr (record { first = r.first; tail = r.tail; bytes_are = rw h (ap (λ xs. b ∷ xs) r.bytes_are); stops = r.stops })
run_behind-step bits b bytes false h r =
    inr (record { first = b; tail = bytes; bytes_are = rw h refl; stops = h })

run_behind : (bits : Bits) (bytes : List ℕ) → (bytes ≡ prefix_run bits bytes) ⊎ Behind bits bytes
unfolding prefix_run
run_behind bits [] = inl refl
run_behind bits (b ∷ bytes) = run_behind-step bits b bytes (is_prefix bits b) refl (run_behind bits bytes)

-- prefixes alone are an open front
all_open : (bits : Bits) (bytes : List ℕ) → bytes ≡ prefix_run bits bytes → is_open (long_front bits bytes) ≡ true
unfolding long_front lead_front
all_open bits bytes h =
    let n : length (prefix_run bits bytes) ≡ length bytes = ap length (sym h) in
    rw n (rw (drop-length bytes) refl)

-- **more bytes change nothing but an open front**
pub long_front-grows : (bits : Bits) (bytes more : List ℕ) → is_open (long_front bits bytes) ≡ false → long_front bits (bytes ++ more) ≡ long_front bits bytes
long_front-grows bits bytes more h = elim (run_behind bits bytes) [
  | inl all ↦ (let e = all_open bits bytes all in cc)
  | inr r ↦
      let ps = prefix_run bits bytes in
      let shown : long_front bits bytes ≡ lead_front bits ps (r.first ∷ r.tail) =
      ap (long_front bits) r.bytes_are ∙ long_front-run bits ps r.first r.tail (run_all bits bytes) r.stops in
      let grown : long_front bits (bytes ++ more) ≡ lead_front bits ps ((r.first ∷ r.tail) ++ more) =
      ap (λ xs. long_front bits (xs ++ more)) r.bytes_are
      ∙ ap (long_front bits) (append_assoc ps (r.first ∷ r.tail) more)
      ∙ long_front-run bits ps r.first (r.tail ++ more) (run_all bits bytes) r.stops in
      let known : is_open (lead_front bits ps (r.first ∷ r.tail)) ≡ false = ap is_open (sym shown) ∙ h in
      grown ∙ lead_front-grows bits ps (r.first ∷ r.tail) more known ∙ sym shown
]

-- a known front stays the same
pub front-extends : (bits : Bits) (bytes more : List ℕ) (f : PrefixState) → long_front bits bytes ≡ Known f → long_front bits (bytes ++ more) ≡ Known f
front-extends bits bytes more f h = long_front-grows bits bytes more (ap is_open h) ∙ h

-- a forbidden front stays forbidden
pub forbidden-extends : (bits : Bits) (bytes more : List ℕ) → long_front bits bytes ≡ Forbidden → long_front bits (bytes ++ more) ≡ Forbidden
forbidden-extends bits bytes more h = long_front-grows bits bytes more (ap is_open h) ∙ h

-- ---- where the opcode byte is

-- behind some bytes stands the opcode byte of the state, which has used these and the prefixes
record Reached (ps bytes : List ℕ) (f : PrefixState) : Type 0 where
  lead : ℕ
  rest : List ℕ
  used_is : f.used ≡ length ps + lead
  opcode_is : drop lead bytes ≡ f.opcode ∷ rest

opcode_front-reached : (bits : Bits) (ps : List ℕ) (lead : ℕ) (vex : Option Vex) (map : Map) (bytes whole : List ℕ) (f : PrefixState) → opcode_front bits ps lead vex map bytes ≡ Known f → drop lead whole ≡ bytes → Reached ps whole f
unfolding opcode_front state_from
opcode_front-reached bits ps lead vex map [] whole f h w = cc
opcode_front-reached bits ps lead vex map (o ∷ rest) whole f h w =
    let e = same_state (state_from bits ps (length ps + lead) vex map o) f h in
    record {
      lead = lead;
      rest = rest;
      used_is = sym (ap (λ (x : PrefixState). x.used) e);
      opcode_is = w ∙ ap (λ x. x ∷ rest) (ap (λ (x : PrefixState). x.opcode) e);
    }

short_vex_front-reached : (bits : Bits) (ps : List ℕ) (lead : ℕ) (bytes : List ℕ) (f : PrefixState) → short_vex_front bits ps bytes ≡ Known f → Reached ps (lead ∷ bytes) f
unfolding short_vex_front
short_vex_front-reached bits ps lead [] f h = cc
short_vex_front-reached bits ps lead (b ∷ bytes) f h =
    opcode_front-reached bits ps 2 (Some (short_vex b)) M0f bytes (lead ∷ (b ∷ bytes)) f h refl

third_byte_front-reached : (bits : Bits) (ps : List ℕ) (lead b : ℕ) (map : Option Map) (bytes : List ℕ) (f : PrefixState) → third_byte_front bits ps b map bytes ≡ Known f → Reached ps (lead ∷ (b ∷ bytes)) f
unfolding third_byte_front
third_byte_front-reached bits ps lead b None bytes f h = cc
third_byte_front-reached bits ps lead b (Some map) [] f h = cc
third_byte_front-reached bits ps lead b (Some map) (c ∷ bytes) f h =
    opcode_front-reached bits ps 3 (Some (long_vex map b c)) map bytes (lead ∷ (b ∷ (c ∷ bytes))) f h refl

long_vex_front-reached : (bits : Bits) (ps : List ℕ) (lead : ℕ) (bytes : List ℕ) (f : PrefixState) → long_vex_front bits ps bytes ≡ Known f → Reached ps (lead ∷ bytes) f
unfolding long_vex_front
long_vex_front-reached bits ps lead [] f h = cc
long_vex_front-reached bits ps lead (b ∷ bytes) f h = third_byte_front-reached bits ps lead b (map_numbered (b % 32)) bytes f h

vex_front-reached : (bits : Bits) (ps : List ℕ) (lead : ℕ) (bytes : List ℕ) (f : PrefixState) → vex_front bits ps lead bytes ≡ Known f → Reached ps (lead ∷ bytes) f
unfolding vex_front
vex_front-reached bits ps lead bytes f h = elim (if_known (lead == 0xC5) _ _ f (else_known (forbids_vex bits ps) _ f h).1) [
  | inl yes1 ↦ short_vex_front-reached bits ps lead bytes f yes1.1
  | inr no1 ↦ long_vex_front-reached bits ps lead bytes f no1.1
]

one_reached : (bits : Bits) (ps bytes : List ℕ) (f : PrefixState) → opcode_front bits ps 0 None One bytes ≡ Known f → Reached ps bytes f
one_reached bits ps bytes f h = opcode_front-reached bits ps 0 None One bytes bytes f h refl

vex_or_opcode_front-reached : (bits : Bits) (ps : List ℕ) (lead : ℕ) (bytes : List ℕ) (f : PrefixState) → vex_or_opcode_front bits ps lead bytes ≡ Known f → Reached ps (lead ∷ bytes) f
unfolding vex_or_opcode_front
vex_or_opcode_front-reached B64 ps lead bytes f h = vex_front-reached B64 ps lead bytes f h
vex_or_opcode_front-reached B16 ps lead [] f h = cc
vex_or_opcode_front-reached B32 ps lead [] f h = cc
vex_or_opcode_front-reached B16 ps lead (b ∷ bytes) f h = elim (if_known (top_two_set b) _ _ f h) [
  | inl yes1 ↦ vex_front-reached B16 ps lead (b ∷ bytes) f yes1.1
  | inr no1 ↦ one_reached B16 ps (lead ∷ (b ∷ bytes)) f no1.1
]
vex_or_opcode_front-reached B32 ps lead (b ∷ bytes) f h = elim (if_known (top_two_set b) _ _ f h) [
  | inl yes1 ↦ vex_front-reached B32 ps lead (b ∷ bytes) f yes1.1
  | inr no1 ↦ one_reached B32 ps (lead ∷ (b ∷ bytes)) f no1.1
]

escape_front-reached : (bits : Bits) (ps : List ℕ) (lead : ℕ) (bytes : List ℕ) (f : PrefixState) → escape_front bits ps bytes ≡ Known f → Reached ps (lead ∷ bytes) f
unfolding escape_front
escape_front-reached bits ps lead [] f h = cc
escape_front-reached bits ps lead (b ∷ bytes) f h = elim (if_known (b == 0x38) _ _ f h) [
  | inl yes1 ↦ opcode_front-reached bits ps 2 None M0f38 bytes (lead ∷ (b ∷ bytes)) f yes1.1 refl
  | inr no1 ↦ elim (if_known (b == 0x3A) _ _ f no1.1) [
    | inl yes2 ↦ opcode_front-reached bits ps 2 None M0f3a bytes (lead ∷ (b ∷ bytes)) f yes2.1 refl
    | inr no2 ↦ opcode_front-reached bits ps 1 None M0f (b ∷ bytes) (lead ∷ (b ∷ bytes)) f (else_known (b == 0x0F) _ f no2.1).1 refl
  ]
]

lead_front-reached : (bits : Bits) (ps bytes : List ℕ) (f : PrefixState) → lead_front bits ps bytes ≡ Known f → Reached ps bytes f
unfolding lead_front
lead_front-reached bits ps [] f h = cc
lead_front-reached bits ps (b ∷ bytes) f h = elim (if_known (is_vex_lead b) _ _ f h) [
  | inl yes1 ↦ vex_or_opcode_front-reached bits ps b bytes f yes1.1
  | inr no1 ↦ elim (if_known (b == 0x0F) _ _ f no1.1) [
    | inl yes2 ↦ escape_front-reached bits ps b bytes f yes2.1
    | inr no2 ↦ one_reached bits ps (b ∷ bytes) f (else_known (is_64 bits && b == 0x62) _ f no2.1).1
  ]
]

-- the byte at a place where a list goes on with it
opcode_at : (bytes : List ℕ) (f : PrefixState) (rest : List ℕ) → drop f.used bytes ≡ f.opcode ∷ rest → OpcodeAt bytes f
opcode_at bytes f rest h =
    let left : length bytes - f.used ≡ suc (length rest) = sym (length-drop f.used bytes) ∙ ap length h in
    let within : f.used < length bytes = omega arith in
    let split = drop_more bytes f.used 0 within in
    let same : get_or bytes f.used 0 ∷ drop (f.used + 1) bytes ≡ f.opcode ∷ rest = sym split ∙ h in
    let byte : get_or bytes f.used 0 ≡ f.opcode = cc in
    record {
      is_within = within;
      opcode_is = byte;
      behind = split ∙ ap (λ x. x ∷ drop (f.used + 1) bytes) byte;
    }

-- **the byte behind those that a known front has used is its opcode byte**
pub known-used : (bits : Bits) (bytes : List ℕ) (f : PrefixState) → long_front bits bytes ≡ Known f → OpcodeAt bytes f
unfolding long_front
known-used bits bytes f h =
    let ps = prefix_run bits bytes in
    let behind = drop (length ps) bytes in
    let r = lead_front-reached bits ps behind f h in
    opcode_at bytes f r.rest
    (ap (λ n. drop n bytes) r.used_is
    ∙ ap (drop (length ps + r.lead)) (run_front bits bytes)
    ∙ drop-append-add ps behind r.lead ∙ r.opcode_is)
