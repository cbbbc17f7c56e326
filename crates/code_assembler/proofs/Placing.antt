-- Where the items of a routine stand in its bytes, and that data does not touch the instructions.
use Rattle.std.proofs.Common.{◌≡◌, ℕ, zero, suc, Bool, ◌+◌, ◌-◌, ◌<◌, ◌≤◌, inl, inr, true, List, [], ◌∷◌, ◌++◌, length, map, replicate, take, drop, get_or, Option, Some, None, refl, sym, subst, ap, ◌∙◌, arith, add-one, zero-add}
use Rattle.std.specs.Prelude.{slice_get, nat_lt, unwrap_or, IsSome}
use Rattle.std.proofs.Math.Seq.{drop-append_seam}
use Rattle.std.specs.List.{AllZip}
use Rattle.std.proofs.lemmas.Bool.{lt-ltb, le-ltb, ltb-true, cases_lt}
use Rattle.std.proofs.lemmas.List.{append-nil}
use Rattle.std.proofs.lemmas.List.FromFn.{get_or-map-range_with_len}
use Rattle.std.proofs.lemmas.Option.{slice_get-get_or}
use Rattle.x86_values.specs.declared.Bits.{Bits}
use Rattle.x86_values.specs.declared.Instr.{Instr}
use Rattle.x86_values.specs.Wrapping.{modulo_width}
use Rattle.row_relation.specs.Spells.{ReadsAs}
use Rattle.opcode_rows.specs.Table.{table}
use Rattle.branch_sizes.specs.declared.plan.Choice.{Choice}
use Rattle.branch_sizes.specs.declared.plan.Form.TheVariants.{Itself}
use Rattle.branch_sizes.specs.declared.plan.Reach.TheVariants.{Always}
use Rattle.branch_sizes.specs.Plan.{no_choice}
use Rattle.branch_sizes.specs.Layout.{IsLayout, total, block_number, first_of_block, span_at, image_length, place}
use Rattle.branch_sizes.specs.MoveLayout.Laid.{images_end, new_end, slots_of, fragment_at}
use Rattle.move_goals.specs.MovedTargets.Targets.{plain_length}
use Rattle.move_goals.specs.BranchForms.Images.{image_by, image_of, pieces_length, form_length}
use Rattle.move_goals.specs.BranchForms.Choices.{choices_by, choices_of}
use Rattle.move_goals.specs.declared.items.Placed.{Placed}
use Rattle.move_goals.specs.Items.{item_at, no_item, one_span}
use Rattle.move_goals.specs.Plan.{plan_with}
use Rattle.block_encoder.specs.Bytes.{bytes_from, image_at, image_bytes, block_bytes, bytes_at}
use Rattle.block_encoder.specs.Aims.{StandsAtPlace}
use Rattle.block_encoder.specs.Moved.{MovedLists}
use Rattle.block_encoder.specs.ByPlan.{IsMovedBy}
use Rattle.block_encoder.specs.Read.{AreRead}
use Rattle.code_assembler.specs.LawsBelow.{AssemblerLawsBelow}
use Rattle.code_assembler.specs.StandIn.{nop, stand_in, IsFilled}
use Rattle.code_assembler.specs.Routine.{RoutineState, IsRoutine, HasAdded, filled_at, routine_goals, routine_plan}
use Rattle.code_assembler.specs.Filling.{offset_of, with_data, cut_end}
use Rattle.code_assembler.specs.Finished.{finished_bytes}
use Rattle.code_assembler.proofs.Filled.{IsOutside, length-with_data, without_data, kept, put, cut-kept, cut-read}
use Rattle.code_assembler.proofs.Four.{HaveFour, parted, spelled-four, image-four}
use Rattle.code_assembler.proofs.StandIn.{no_branch, nop-length}

-- ---- which items are data

-- as many bytes of data, or none, as items
pub as_many : (bits : Bits) (filled : List (Option ℕ)) (items : List Placed) → AllZip (IsFilled bits) filled items → length filled ≡ length items
as_many bits [] [] all = refl
as_many bits [] (i ∷ is) all = absurd all
as_many bits (o ∷ os) [] all = absurd all
as_many bits (o ∷ os) (i ∷ is) all = ap suc (as_many bits os is all.1)

-- two routines one behind another
pub zip_append : (bits : Bits) (filled more : List (Option ℕ)) (items others : List Placed) → AllZip (IsFilled bits) filled items
    → AllZip (IsFilled bits) more others → AllZip (IsFilled bits) (filled ++ more) (items ++ others)
zip_append bits [] more [] others all rest = rest
zip_append bits [] more (i ∷ is) others all rest = absurd all
zip_append bits (o ∷ os) more [] others all rest = absurd all
zip_append bits (o ∷ os) more (i ∷ is) others all rest = (all.0, zip_append bits os more is others all.1 rest)

-- bytes of data and what stands for them
pub zip_bytes : (bits : Bits) (bytes : List ℕ) → AllZip (IsFilled bits) (map Some bytes) (replicate (length bytes) (stand_in bits))
zip_bytes bits [] = tt
zip_bytes bits (b ∷ bs) = (refl, zip_bytes bits bs)

-- an item of data is NOP
filled-item : (bits : Bits) (filled : List (Option ℕ)) (items : List Placed) → AllZip (IsFilled bits) filled items → (k byte : ℕ)
    → filled_at filled k ≡ Some byte → item_at items k ≡ stand_in bits
filled-item bits [] [] all k byte is = absurd cc
filled-item bits [] (i ∷ is) all k byte e = absurd all
filled-item bits (o ∷ os) [] all k byte e = absurd all
filled-item bits (o ∷ os) (i ∷ is) all zero byte e = subst (λ (f : Option ℕ). IsFilled bits f i) e all.0
filled-item bits (o ∷ os) (i ∷ is) all (suc k) byte e = filled-item bits os is all.1 k byte e

-- ---- places

-- how far behind the first byte item k stands
abbrev sum_to : RoutineState → ℕ → List ℕ → ℕ → ℕ
sum_to s base layout k = total (image_length (routine_plan s base) layout) k

-- every item is in the first block
pub in_first : (items : List Placed) (base k : ℕ) → k < length items → block_number (one_span items base) k ≡ 0
in_first items base k lt = rw (lt-ltb k (length items) lt) refl

place-sum : (s : RoutineState) (base : ℕ) (layout : List ℕ) (k : ℕ) → k < length s.items → place (routine_plan s base) layout k ≡ base + sum_to s base layout k
unfolding routine_plan plan_with
place-sum s base layout k lt =
    ap (λ (b : ℕ). (span_at (one_span s.items base) b).new_base + (sum_to s base layout k - sum_to s base layout (first_of_block (one_span s.items base) b)))
    (in_first s.items base k lt) ∙ omega arith

sum-next : (s : RoutineState) (base : ℕ) (layout : List ℕ) (k : ℕ)
    → sum_to s base layout (k + 1) ≡ sum_to s base layout k + image_length (routine_plan s base) layout k
sum-next s base layout k = rw add-one refl

images-sum : (s : RoutineState) (base : ℕ) (layout : List ℕ) → images_end (routine_plan s base) layout 0 ≡ base + sum_to s base layout (length s.items)
unfolding images_end routine_plan plan_with
images-sum s base layout = ap (λ (n : ℕ). base + (sum_to s base layout n - 0)) (zero-add (length s.items)) ∙ omega arith

-- ---- lengths

-- a single form of one byte
abbrev one_form : List Choice
one_form = record { form = Itself; len = 1; reach = Always } ∷ []

first_choice : (f : ℕ) → f < 1 → (get_or one_form f no_choice).len ≡ 1
first_choice zero lt = refl
first_choice (suc f) lt = absurd (omega arith)

none-left : (bits : Bits) (at : ℕ) (all : List ℕ) → bytes_from bits at [] ≡ Some all → all ≡ []
unfolding bytes_from
none-left bits at all h = cc

some-bytes : (o : Option (List ℕ)) → IsSome o → o ≡ Some (unwrap_or o [])
some-bytes None h = cc
some-bytes (Some bytes) h = refl

module _ (laws : AssemblerLawsBelow) where
  nop-form : (bits : Bits) → form_length bits nop Itself ≡ 1
  unfolding form_length image_of
  nop-form bits =
      ap (λ o. pieces_length bits (image_by bits nop o Itself 0 0 0)) no_branch
      ∙ omega (arith, laws.targets.with_target-length bits 0 nop, nop-length laws bits)

  nop-choices : (bits : Bits) → choices_of bits nop ≡ one_form
  unfolding choices_of
  nop-choices bits =
      ap (choices_by bits nop) no_branch
      ∙ ap (λ (n : ℕ). let c : Choice = record { form = Itself; len = n; reach = Always } in c ∷ []) (nop-form bits)

  -- a byte of data takes one byte
  data-length : (s : RoutineState) (base : ℕ) (layout : List ℕ) → IsRoutine s → IsLayout (routine_plan s base) layout → (k byte : ℕ) → k < length s.items
      → filled_at s.filled k ≡ Some byte → image_length (routine_plan s base) layout k ≡ 1
  unfolding routine_plan
  data-length s base layout is l k byte lt e =
      let goals = routine_goals s.labels s.aims s.items in
      let item : item_at s.items k ≡ stand_in s.bits = filled-item s.bits s.filled s.items is.stand_in k byte e in
      let choices : choices_of s.bits (item_at s.items k).instr ≡ one_form = ap (λ (i : Placed). choices_of s.bits i.instr) item ∙ nop-choices s.bits in
      let below : get_or layout k 0 < 1 =
      subst (λ (cs : List Choice). get_or layout k 0 < length cs) choices (laws.fragments.choice-below s.bits (one_span s.items base) s.items goals layout l k lt) in
      ap (λ (c : Choice). c.len) (laws.fragments.choice-is s.bits (one_span s.items base) s.items goals layout l k lt)
      ∙ (ap (λ (cs : List Choice). (get_or cs (get_or layout k 0) no_choice).len) choices ∙ first_choice (get_or layout k 0) below)

  -- ---- reading

  -- plain spellings one behind another are read as their instructions
  encoded-read : (bits : Bits) (at : ℕ) (is : List Instr) (all : List ℕ) → HaveFour is → bytes_from bits at is ≡ Some all → AreRead bits at all is
  encoded-read bits at [] all four h = none-left bits at all h
  encoded-read bits at (i ∷ is) all four h =
      let p = parted bits at i is all h in
      let plain = laws.encodings.encoded-plain bits at i p.bytes four.0 p.first in
      let len : length p.bytes ≡ plain_length bits i = laws.targets.encoding-length bits at i p.bytes p.first in
      let reads : ReadsAs table bits (modulo_width bits at) (p.bytes ++ p.rest) i (length p.bytes) =
      laws.encodings.plain-reads bits (modulo_width bits at) p.bytes p.rest i plain in
      let dropped : drop (length p.bytes) all ≡ p.rest = ap (drop (length p.bytes)) p.all_are ∙ drop-append_seam p.bytes p.rest in
      let more = encoded-read bits (at + length p.bytes) is p.rest four.1 p.others in (
        subst (λ (n : ℕ). ReadsAs table bits (modulo_width bits at) all i n) len
            (subst (λ (bytes : List ℕ). ReadsAs table bits (modulo_width bits at) bytes i (length p.bytes)) (sym p.all_are) reads),
        subst (λ (n : ℕ). AreRead bits (at + n) (drop n all) is) len
            (subst (λ (bytes : List ℕ). AreRead bits (at + length p.bytes) bytes is) (sym dropped) more),
      )

  -- ---- of moved items

  module _ (s : RoutineState) (base count : ℕ) (is : IsRoutine s) (added : HasAdded s count) (m : MovedLists)
      (moved : IsMovedBy s.bits s.items (routine_plan s base) m)
      (places : (k : ℕ) → k < length s.items → StandsAtPlace s.bits s.items (routine_plan s base) moved.layout 0 k) where
    -- the bytes are those of the one block
    bytes-are : m.bytes ≡ block_bytes s.bits s.items (routine_plan s base) moved.layout 0
    unfolding routine_plan plan_with
    bytes-are = moved.lists.bytes ∙ append-nil (block_bytes s.bits s.items (routine_plan s base) moved.layout 0)

    bytes-end : base + length m.bytes ≡ new_end (routine_plan s base) moved.layout 0
    unfolding routine_plan
    bytes-end =
        ap (λ (bytes : List ℕ). base + length bytes) bytes-are
        ∙ laws.moved.ends s.bits s.items (one_span s.items base) (routine_goals s.labels s.aims s.items) (laws.plans.one_span-of s.items base) m moved 0 (omega arith)

    -- the images are among them
    bytes-reach : sum_to s base moved.layout (length s.items) ≤ length m.bytes
    bytes-reach = omega (arith, bytes-end, images-sum s base moved.layout, laws.ends.images-le-end (routine_plan s base) moved.layout 0)

    slots-are : m.slots ≡ slots_of (routine_plan s base) moved.layout 0
    unfolding routine_plan plan_with
    slots-are = moved.lists.slots ∙ append-nil (slots_of (routine_plan s base) moved.layout 0)

    -- and are all of them without slots
    bytes-whole : m.slots ≡ [] → length m.bytes ≡ sum_to s base moved.layout (length s.items)
    bytes-whole none =
        let few : length (slots_of (routine_plan s base) moved.layout 0) ≡ 0 = ap length (sym slots-are ∙ none) in
        omega (arith, bytes-end, images-sum s base moved.layout, laws.ends.end-without-slots (routine_plan s base) moved.layout 0 few)

    offset-is : (k : ℕ) → k < length s.items → offset_of m.starts base k ≡ sum_to s base moved.layout k
    offset-is k lt =
        ap (λ (starts : List ℕ). get_or starts k 0 - base) moved.lists.starts
        ∙ (ap (λ (n : ℕ). n - base) (get_or-map-range_with_len (place (routine_plan s base) moved.layout) 0 (length s.items) k k 0 lt (omega arith))
        ∙ omega (arith, place-sum s base moved.layout k lt))

    place-is : (k : ℕ) → k < length s.items → place (routine_plan s base) moved.layout k - base ≡ sum_to s base moved.layout k
    place-is k lt = omega (arith, place-sum s base moved.layout k lt)

    rises : (j k : ℕ) → j ≤ k → sum_to s base moved.layout j ≤ sum_to s base moved.layout k
    rises j k le = laws.totals.total_rises (image_length (routine_plan s base) moved.layout) j k le

    data-next : (k byte : ℕ) → k < length s.items → filled_at s.filled k ≡ Some byte → sum_to s base moved.layout (k + 1) ≡ sum_to s base moved.layout k + 1
    data-next k byte lt e =
        omega (arith, sum-next s base moved.layout k, data-length s base moved.layout is moved.least.closed.is_layout k byte lt e)

    many : length s.filled ≡ length s.items
    many = as_many s.bits s.filled s.items is.stand_in

    added-le : count ≤ length s.items
    added-le = elim added [ inl all ↦ omega arith | inr last ↦ omega (arith, last.0) ]

    -- what was added for labels at the end is behind every other item, and one byte long
    cut-room : nat_lt count (length s.filled) ≡ true → m.slots ≡ []
        → sum_to s base moved.layout count ≤ length (with_data m.starts base s.filled m.bytes (length s.filled)) - 1
    cut-room more none =
        let less : count < length s.filled = ltb-true count (length s.filled) more in
        elim added [
          | inl all ↦ absurd (omega (arith, many))
          | inr last ↦
              let next = data-next count 0xCC (omega (arith, last.0)) last.1 in
              let end : sum_to s base moved.layout (count + 1) ≡ sum_to s base moved.layout (length s.items) = ap (sum_to s base moved.layout) last.0 in
              omega (arith, next, end, bytes-whole none, length-with_data m.starts base s.filled m.bytes (length s.filled))
        ]

    -- data lies outside of an instruction
    apart : (k j b : ℕ) → k < length s.items → j < length s.filled → filled_at s.filled k ≡ None → filled_at s.filled j ≡ Some b
        → IsOutside (sum_to s base moved.layout k) (image_length (routine_plan s base) moved.layout k) (offset_of m.starts base j)
    apart k j b lt below none some =
        let at = offset-is j (omega (arith, many)) in
        elim (cases_lt j k) [
          | inl before ↦ inl (omega (arith, at, data-next j b (omega (arith, many)) some, rises (j + 1) k (omega arith)))
          | inr behind ↦ elim (cases_lt k j) [
            | inl past ↦ inr (omega (arith, at, sum-next s base moved.layout k, rises (k + 1) j (omega arith)))
            | inr same ↦
                let e : j ≡ k = omega arith in
                let one : filled_at s.filled k ≡ Some b = subst (λ (n : ℕ). filled_at s.filled n ≡ Some b) e some in
                let never : None ≡ Some b = sym none ∙ one in
                absurd cc
          ]
        ]

    -- where the move takes item k to stand
    fragment-at : (k : ℕ) → k < length s.items
        → (fragment_at (routine_plan s base) moved.layout k).place ≡ place (routine_plan s base) moved.layout k
    unfolding routine_plan
    fragment-at k lt =
        laws.fragments.fragment-place s.bits (one_span s.items base) s.items (routine_goals s.labels s.aims s.items) moved.layout
        moved.least.closed.is_layout k lt

    -- two bytes of data stand apart
    unlike : (k j b byte : ℕ) → k < length s.items → j < length s.items → (j ≡ k → ⊥) → filled_at s.filled k ≡ Some byte → filled_at s.filled j ≡ Some b
        → offset_of m.starts base k ≡ offset_of m.starts base j → ⊥
    unlike k j b byte lt less differ some there same =
        elim (cases_lt j k) [
          | inl before ↦ omega (arith, same, offset-is k lt, offset-is j less, data-next j b less there, rises (j + 1) k (omega arith))
          | inr behind ↦ elim (cases_lt k j) [
            | inl past ↦ omega (arith, same, offset-is k lt, offset-is j less, data-next k byte lt some, rises (k + 1) j (omega arith))
            | inr equal ↦ differ (omega arith)
          ]
        ]

    -- the bytes of an image, as the move has them
    stands : (k : ℕ) → k < length s.items
        → take (image_length (routine_plan s base) moved.layout k)
        (drop (place (routine_plan s base) moved.layout k - base) (block_bytes s.bits s.items (routine_plan s base) moved.layout 0))
        ≡ bytes_at s.bits s.items (routine_plan s base) moved.layout k
    unfolding routine_plan plan_with
    stands k lt = (places k lt).bytes

    -- **without data the bytes are those of the move**
    pub plain_bytes : ((k : ℕ) → k < length s.items → filled_at s.filled k ≡ None) → finished_bytes m s.filled base count ≡ m.bytes
    plain_bytes none =
        elim added [
          | inl all ↦
              ap (λ (b : Bool). cut_end b m.slots (with_data m.starts base s.filled m.bytes (length s.filled))) (le-ltb count (length s.filled) (omega (arith, many, all)))
              ∙ without_data m.starts base s.filled m.bytes (length s.filled) (λ k lt. none k (omega (arith, many)))
          | inr last ↦ let never : ◌≡◌ {A = Option ℕ} None (Some 0xCC) = sym (none count (omega (arith, last.0))) ∙ last.1 in absurd cc
        ]

    -- **an instruction has the bytes of its image at its place**
    pub code_stands : (k : ℕ) → k < count → filled_at s.filled k ≡ None
        → take (image_length (routine_plan s base) moved.layout k)
        (drop (place (routine_plan s base) moved.layout k - base) (finished_bytes m s.filled base count))
        ≡ bytes_at s.bits s.items (routine_plan s base) moved.layout k
    code_stands k lt none =
        let below : k < length s.items = omega (arith, added-le) in
        let len = image_length (routine_plan s base) moved.layout k in
        let at = sum_to s base moved.layout k in
        let all = with_data m.starts base s.filled m.bytes (length s.filled) in
        let read : take len (drop at (cut_end (nat_lt count (length s.filled)) m.slots all)) ≡ take len (drop at m.bytes) =
        cut-kept (nat_lt count (length s.filled)) m.slots all at len
        (λ more no. omega (arith, sum-next s base moved.layout k, rises (k + 1) count (omega arith), cut-room more no))
        ∙ kept m.starts base s.filled m.bytes at len (length s.filled) (λ j b less some. apart k j b below less none some) in
        ap (λ (n : ℕ). take len (drop n (finished_bytes m s.filled base count))) (place-is k below)
        ∙ (read
        ∙ (ap (λ (n : ℕ). take len (drop n m.bytes)) (sym (place-is k below))
        ∙ (ap (λ (bytes : List ℕ). take len (drop (place (routine_plan s base) moved.layout k - base) bytes)) bytes-are ∙ stands k below)))

    -- **and is read there as the instructions of its image**
    pub code_read : (k : ℕ) → k < count → filled_at s.filled k ≡ None
        → AreRead s.bits (place (routine_plan s base) moved.layout k)
        (take (image_length (routine_plan s base) moved.layout k) (drop (place (routine_plan s base) moved.layout k - base) (finished_bytes m s.filled base count)))
        (image_at s.bits s.items (routine_plan s base) moved.layout k)
    code_read k lt none =
        let below : k < length s.items = omega (arith, added-le) in
        let p = routine_plan s base in
        let image = image_at s.bits s.items p moved.layout k in
        let instr = (item_at s.items k).instr in
        let fragment = fragment_at p moved.layout k in
        let placed = is.placed k no_item below in
        let four = image-four s.bits instr fragment.form fragment.place fragment.goal fragment.slot
        (spelled-four s.bits (modulo_width s.bits (item_at s.items k).ip) placed.bytes instr placed.spelled) in
        let there = encoded-read s.bits fragment.place image (bytes_at s.bits s.items p moved.layout k) four
        (some-bytes (image_bytes s.bits s.items p moved.layout k) (moved.reached k below).1) in
        subst (λ (bytes : List ℕ). AreRead s.bits (place p moved.layout k) bytes image) (sym (code_stands k lt none))
        (subst (λ (at : ℕ). AreRead s.bits at (bytes_at s.bits s.items p moved.layout k) image) (fragment-at k below) there)

    -- **a byte of data is at its place**
    pub data_stands : (k byte : ℕ) → k < count → filled_at s.filled k ≡ Some byte
        → slice_get (finished_bytes m s.filled base count) (place (routine_plan s base) moved.layout k - base) ≡ Some byte
    data_stands k byte lt some =
        let below : k < length s.items = omega (arith, added-le) in
        let at = sum_to s base moved.layout k in
        let offset = offset-is k below in
        let all = with_data m.starts base s.filled m.bytes (length s.filled) in
        let next = data-next k byte below some in
        let len = length-with_data m.starts base s.filled m.bytes (length s.filled) in
        let here : get_or all (offset_of m.starts base k) 0 ≡ byte =
        put m.starts base s.filled m.bytes k byte (length s.filled) (omega (arith, many)) some
        (omega (arith, offset, next, bytes-reach, rises (k + 1) (length s.items) (omega arith)))
        (λ j b differ less there same. unlike k j b byte below (omega (arith, many)) differ some there same) in
        let end = cut-read (nat_lt count (length s.filled)) m.slots all at (omega (arith, len, next, bytes-reach, rises (k + 1) (length s.items) (omega arith)))
        (λ more no. omega (arith, next, rises (k + 1) count (omega arith), cut-room more no)) in
        ap (slice_get (finished_bytes m s.filled base count)) (place-is k below)
        ∙ (slice_get-get_or (finished_bytes m s.filled base count) at 0 end.0
        ∙ ap Some (end.1 ∙ (ap (λ (n : ℕ). get_or all n 0) (sym offset) ∙ here)))
