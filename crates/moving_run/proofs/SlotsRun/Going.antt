-- How far going through the code has come.
use Rattle.std.proofs.Common.{◌≡◌, ℕ, ◌+◌, ◌<◌, ◌≤◌, List, [], ◌∷◌, ◌++◌, length, take, drop, Option, Some, None, Ok, Err, refl, sym, ap, ◌∙◌, subst, arith, append_assoc, length-append, length-take}
use Rattle.std.specs.Prelude.{All}
use Rattle.std.proofs.lemmas.List.Elements.{All-nil, All-cons, All-append, All-head, All-tail}
use Rattle.x86_values.specs.declared.Bits.{Bits}
use Rattle.x86_values.specs.declared.Decoded.{Decoded}
use Rattle.x86_values.specs.Wrapping.{modulo_width}
use Rattle.row_relation.specs.Spells.{Reading, Read, TooShort, Invalid, Spells}
use Rattle.decoder.specs.declared.DecodeError.{DecodeError}
use Rattle.decoder.specs.Answer.{reading_of}
use Rattle.opcode_rows.specs.Table.{table}
use Rattle.opcode_rows.specs.Sweep.{Item, IsReadAt, item_len}
use Rattle.sweep.specs.SweepText.Lines.{error_of}
use Rattle.sweep.specs.SweepText.Sweeping.{TakesSome, SweptTo, item_read}
use Rattle.sweep.specs.SweepText.Facts.{SweptFacts}
use Rattle.move_goals.specs.declared.items.Placed.{Placed}
use Rattle.move_goals.specs.Items.{IsPlaced}
use Rattle.step_slots.specs.State.{SlotState}
use Rattle.step_slots.specs.Stepping.{IsStepped}
use Rattle.moving_run.specs.CommandWords.Ranges.{Range}
use Rattle.sweep.specs.declared.run_parts.status.Status.{Status}
use Rattle.moving_run.specs.Code.{IsInstruction, BlockStopsAt}
use Rattle.moving_run.specs.SlotsRun.Slotted.{slotted_by, slotted_in, empty_slots, AreSlotted}
use Rattle.moving_run.specs.SlotsRun.Steps.{IsTried, IsNextSlot, HasCome, IsGoneThrough}

-- ---- one instruction

-- an instruction that is read at an offset, with its own address
abbrev pub item_at : Bits → ℕ → ℕ → Decoded → Placed
item_at bits base offset d = record { ip = modulo_width bits (base + offset); len = d.len; instr = d.instr }

-- **it can be given a slot**
pub item-placed : ((b : Bits) (x : ℕ) → modulo_width b (modulo_width b x) ≡ modulo_width b x) → (bits : Bits) (base offset : ℕ) (bytes : List ℕ) (d : Decoded) → IsReadAt bits base offset bytes (Read d) → 0 < d.len →
    d.len ≤ length bytes → IsPlaced bits (item_at bits base offset d)
unfolding IsReadAt
item-placed twice bits base offset bytes d reads some within =
    let S : ℕ → Type 0 = λ n. Spells table bits n (take d.len bytes) d.instr in
    let spells : S (modulo_width bits (base + offset)) = reads.1 in
    let short : length (take d.len bytes) ≤ 15 = spells.0 in
    record {
      some = omega arith;
      few = omega (arith, length-take d.len bytes);
      bytes = take d.len bytes;
      spelled = subst S (sym (twice bits (base + offset))) spells;
    }

slotted_in-append : (bits : Bits) (base : ℕ) (xs ys : List Item) → slotted_in bits base (xs ++ ys) ≡ slotted_in bits base xs ++ slotted_in bits base ys
slotted_in-append bits base [] ys = refl
slotted_in-append bits base (x ∷ xs) ys =
    ap (λ (ps : List Placed). slotted_by bits base x.offset x.reading ++ ps) (slotted_in-append bits base xs ys)
    ∙ sym (append_assoc (slotted_by bits base x.offset x.reading) (slotted_in bits base xs) (slotted_in bits base ys))

one_each : (bits : Bits) (base offset : ℕ) (reading : Reading) → error_of reading ≡ None → length (slotted_by bits base offset reading) ≡ 1
one_each bits base offset (Read d) e = refl
one_each bits base offset TooShort e = absurd (cc)
one_each bits base offset Invalid e = absurd (cc)

slotted_length : (bits : Bits) (base : ℕ) (items : List Item) → All IsInstruction items → length (slotted_in bits base items) ≡ length items
slotted_length bits base [] all = refl
slotted_length bits base (x ∷ xs) all =
    omega (
      arith,
      length-append (slotted_by bits base x.offset x.reading) (slotted_in bits base xs),
      one_each bits base x.offset x.reading (All-head IsInstruction x xs all),
      slotted_length bits base xs (All-tail IsInstruction x xs all),
    )

-- ---- one more slot

slotted-more : (old state new : SlotState) (items : List Placed) (item : Placed) (place : ℕ) → AreSlotted old items state →
    IsStepped state item (Ok place) new → AreSlotted old (items ++ item ∷ []) new
slotted-more old state new [] item place slotted stepped =
    let S : SlotState → Type 0 = λ s. IsStepped s item (Ok place) new in (place, (new, (subst S slotted stepped, refl)))
slotted-more old state new (x ∷ items) item place slotted stepped =
    (slotted.0, (slotted.1.0, (slotted.1.1.0, slotted-more slotted.1.0 state new items item place slotted.1.1.1 stepped)))

come-tried : (old state new : SlotState) (items : List Placed) (item : Placed) (number : ℕ) (told : Option Status) → number ≡ length items →
    AreSlotted old items state → IsTried state number item told new → HasCome old (items ++ item ∷ []) told new
come-tried old state new items item number None count slotted tried = slotted-more old state new items item tried.0 slotted tried.1
come-tried old state new items item number (Some status) count slotted tried =
    let T : ℕ → Type 0 = λ n. IsTried state n item (Some status) new in
    record {
      before = items;
      first = item;
      behind = [];
      are = refl;
      state = state;
      slotted = slotted;
      after = new;
      tried = subst T count tried;
    }

come-next : (old state new : SlotState) (items : List Placed) (item : Placed) (number : ℕ) (refused told : Option Status) → number ≡ length items →
    HasCome old items refused state → IsNextSlot state refused number item told new → HasCome old (items ++ item ∷ []) told new
come-next old state new items item number None told count come next = come-tried old state new items item number told count come next
come-next old state new items item number (Some status) told count come next =
    let H : Option Status → Type 0 = λ t. HasCome old (items ++ item ∷ []) t new in
    let more : H (Some status) = record {
      before = come.before;
      first = come.first;
      behind = come.behind ++ item ∷ [];
      are = ap (λ (xs : List Placed). xs ++ item ∷ []) come.are ∙ append_assoc come.before (come.first ∷ come.behind) (item ∷ []);
      state = come.state;
      slotted = come.slotted;
      after = come.after;
      tried = come.tried;
    } in subst H (sym next.0) more

tried-bits : (old new : SlotState) (number : ℕ) (item : Placed) (told : Option Status) → IsTried old number item told new → new.bits ≡ old.bits
tried-bits old new number item None tried = tried.1.bits
tried-bits old new number item (Some status) tried = tried.1.1.bits

next-bits : (old new : SlotState) (refused : Option Status) (number : ℕ) (item : Placed) (told : Option Status) → IsNextSlot old refused number item told new →
    new.bits ≡ old.bits
next-bits old new None number item told next = tried-bits old new number item told next
next-bits old new (Some status) number item told next = ap (λ (s : SlotState). s.bits) next.1

-- ---- the instructions of the code

-- the first items of the code were tried, and what follows them is the rest of its sweep
pub record Begun (range : Range) (base : ℕ) (bytes : List ℕ) (at number : ℕ) (refused : Option Status) (slots : SlotState) : Type 0 where
  pub items : List Item
  pub swept : SweptTo range.bits base bytes at items
  pub all : All IsInstruction items
  pub count_is : number ≡ length items
  pub few : number ≤ at
  pub placed : All (IsPlaced range.bits) (slotted_in range.bits base items)
  pub bits_are : slots.bits ≡ range.bits
  pub come : HasCome (empty_slots range) (slotted_in range.bits base items) refused slots

module _ (turn : SweptFacts) where
  -- before the first instruction the slots are empty
  pub begun-start : (range : Range) (base : ℕ) (bytes : List ℕ) (slots : SlotState) → slots ≡ empty_slots range → Begun range base bytes 0 0 None slots
  begun-start range base bytes slots empty = record {
    items = [];
    swept = turn.swept-start range.bits base bytes;
    all = All-nil IsInstruction;
    count_is = refl;
    few = omega arith;
    placed = All-nil (IsPlaced range.bits);
    bits_are = ap (λ (s : SlotState). s.bits) empty;
    come = empty;
  }

  -- one more instruction
  pub begun-step : ((b : Bits) (x : ℕ) → modulo_width b (modulo_width b x) ≡ modulo_width b x) → (range : Range) (base : ℕ) (bytes : List ℕ) (at number : ℕ) (refused told : Option Status) (slots slots' : SlotState) (d : Decoded) →
      Begun range base bytes at number refused slots → IsReadAt range.bits base at (drop at bytes) (Read d) →
      TakesSome (Read d) (length (drop at bytes)) → IsNextSlot slots refused number (item_at range.bits base at d) told slots' →
      Begun range base bytes (at + d.len) (number + 1) told slots'
  begun-step twice range base bytes at number refused told slots slots' d b reads takes next =
      let item = item_read at (drop at bytes) (Read d) in
      let new = item_at range.bits base at d in
      let some : 0 < d.len = takes.some in
      let count : number ≡ length (slotted_in range.bits base b.items) = b.count_is ∙ sym (slotted_length range.bits base b.items b.all) in
      let H : List Placed → Type 0 = λ xs. HasCome (empty_slots range) xs told slots' in
      let joined : slotted_in range.bits base (b.items ++ item ∷ []) ≡ slotted_in range.bits base b.items ++ new ∷ [] =
      slotted_in-append range.bits base b.items (item ∷ []) in
      let come : H (slotted_in range.bits base b.items ++ new ∷ []) =
      come-next (empty_slots range) slots slots' (slotted_in range.bits base b.items) new number refused told count b.come next in
      record {
        items = b.items ++ item ∷ [];
        swept = turn.swept-step range.bits base at bytes b.items (Read d) b.swept reads takes;
        all = All-append IsInstruction b.items (item ∷ []) b.all (All-cons IsInstruction item [] refl (All-nil IsInstruction));
        count_is = omega (arith, b.count_is, length-append b.items (item ∷ []));
        few = omega (arith, b.few);
        placed = subst (All (IsPlaced range.bits)) (sym joined)
            (All-append (IsPlaced range.bits) (slotted_in range.bits base b.items) (new ∷ []) b.placed
            (All-cons (IsPlaced range.bits) new [] (item-placed twice range.bits base at (drop at bytes) d reads some takes.within) (All-nil (IsPlaced range.bits))));
        bits_are = next-bits slots slots' refused number new told next ∙ b.bits_are;
        come = subst H (sym joined) come;
      }

  -- all instructions
  pub begun-end : (range : Range) (base : ℕ) (bytes : List ℕ) (at number : ℕ) (refused : Option Status) (slots : SlotState) →
      Begun range base bytes at number refused slots → length bytes ≤ at → IsGoneThrough range base bytes refused slots
  begun-end range base bytes at number refused slots b le = record {
    items = b.items;
    sweep = turn.swept-end range.bits base at bytes b.items b.swept le;
    all = b.all;
    placed = b.placed;
    come = b.come;
  }

  -- a single byte
  pub begun-stop : (range : Range) (base : ℕ) (bytes : List ℕ) (at number : ℕ) (refused : Option Status) (slots : SlotState) (e : DecodeError) →
      Begun range base bytes at number refused slots → IsReadAt range.bits base at (drop at bytes) (reading_of (Err e)) →
      TakesSome (reading_of (Err e)) (length (drop at bytes)) → BlockStopsAt range.bits base bytes at e
  begun-stop range base bytes at number refused slots e b reads takes =
      let reading : Reading = reading_of (Err e) in
      let item = item_read at (drop at bytes) reading in
      record {
        items = b.items;
        last = item;
        sweep = turn.swept-first range.bits base (at + item_len reading) bytes (b.items ++ item ∷ [])
            (turn.swept-step range.bits base at bytes b.items reading b.swept reads takes);
        all = b.all;
        offset_is = refl;
        stops = turn.error_is e;
      }
