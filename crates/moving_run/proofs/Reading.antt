-- How far the reading of a block has come.
use Rattle.std.proofs.Common.{◌≡◌, ℕ, ◌+◌, ◌%◌, ◌^◌, ◌<◌, ◌≤◌, List, [], ◌∷◌, ◌++◌, length, take, drop, Err, inl, inr, refl, sym, ap, ◌∙◌, arith, append_assoc, append-nil, length-append, length-take, take_all, take-take}
use Rattle.std.specs.Prelude.{All}
use Rattle.std.proofs.lemmas.Bool.{cases_lt}
use Rattle.std.proofs.lemmas.List.{take-append-le}
use Rattle.std.proofs.lemmas.List.Elements.{All-nil, All-cons, All-append}
use Rattle.x86_values.specs.declared.Bits.{Bits}
use Rattle.x86_values.specs.declared.Decoded.{Decoded}
use Rattle.row_relation.specs.Spells.{Reading, Read}
use Rattle.decoder.specs.declared.DecodeError.{DecodeError}
use Rattle.decoder.specs.Answer.{reading_of}
use Rattle.opcode_rows.specs.Sweep.{Item, IsReadAt, item_len}
use Rattle.sweep.specs.SweepText.Sweeping.{TakesSome, SweptTo, item_read}
use Rattle.sweep.specs.SweepText.Facts.{SweptFacts}
use Rattle.move_goals.specs.declared.items.Placed.{Placed}
use Rattle.moving_run.specs.Code.{IsInstruction, BlockStopsAt, placed_by, placed_in}
use Rattle.moving_run.specs.Read.{first_items, ReadsBlock}

-- ---- the first items

-- up to 65,536 items are all kept
pub first_items-few : (items : List Placed) → length items ≤ 65536 → first_items items ≡ items
unfolding first_items
first_items-few items few = take_all 65536 items few

-- of no items none is kept
pub first_items-nil : first_items [] ≡ []
unfolding first_items
first_items-nil = refl

-- at most 65,536 items are kept
pub first_items-length : (items : List Placed) → length (first_items items) ≤ 65536
unfolding first_items
first_items-length items = omega (arith, length-take 65536 items)

-- once 65,536 items are kept, further ones are dropped
pub first_items-full : (items more : List Placed) → 65536 ≤ length items → first_items (items ++ more) ≡ first_items items
unfolding first_items
first_items-full items more full = take-append-le 65536 items more full

-- items that are cut off stay cut off
pub first_items-append : (items more : List Placed) → first_items (first_items items ++ more) ≡ first_items (items ++ more)
unfolding first_items
first_items-append items more =
    elim (cases_lt (length items) 65536) [
      | inl few ↦ ap (λ (xs : List Placed). take 65536 (xs ++ more)) (take_all 65536 items (omega arith))
      | inr full ↦
          take-append-le 65536 (take 65536 items) more (omega (arith, length-take 65536 items))
          ∙ (take-take 65536 65536 items (omega arith) ∙ sym (take-append-le 65536 items more full))
    ]

-- ---- the instructions of a block

-- the placed items of two lists joined
pub placed_in-append : (base : ℕ) (xs ys : List Item) → placed_in base (xs ++ ys) ≡ placed_in base xs ++ placed_in base ys
placed_in-append base [] ys = refl
placed_in-append base (x ∷ xs) ys =
    ap (λ (ps : List Placed). placed_by base x.offset x.reading ++ ps) (placed_in-append base xs ys)
    ∙ sym (append_assoc (placed_by base x.offset x.reading) (placed_in base xs) (placed_in base ys))

-- the first items of a block are read, and what follows them is the rest of its sweep
pub record BlockBegun (bits : Bits) (base : ℕ) (bytes : List ℕ) (at count : ℕ) (before after : List Placed) : Type 0 where
  pub items : List Item
  pub swept : SweptTo bits base bytes at items
  pub all : All IsInstruction items
  pub count_is : count ≡ length items
  pub few : count ≤ at
  pub room : length after ≤ 65536
  pub kept : (0 < length bytes → base + length bytes ≤ 2 ^ 64) → after ≡ first_items (before ++ placed_in base items)

module _ (turn : SweptFacts) where
  -- before the first byte of a block nothing is read
  pub block-start : (bits : Bits) (base : ℕ) (bytes : List ℕ) (before : List Placed) → length before ≤ 65536 → BlockBegun bits base bytes 0 0 before before
  block-start bits base bytes before room = record {
    items = [];
    swept = turn.swept-start bits base bytes;
    all = All-nil IsInstruction;
    count_is = refl;
    few = omega arith;
    room = room;
    kept = λ inside. sym (ap first_items (append-nil before) ∙ first_items-few before room);
  }

  -- one more instruction
  pub block-step : (bits : Bits) (base : ℕ) (bytes : List ℕ) (at count ip : ℕ) (before between after : List Placed) (d : Decoded) →
      BlockBegun bits base bytes at count before between → at < length bytes → IsReadAt bits base at (drop at bytes) (Read d) →
      TakesSome (Read d) (length (drop at bytes)) → ip ≡ (base + at) % 2 ^ 64 →
      after ≡ first_items (between ++ record { ip = ip; len = d.len; instr = d.instr } ∷ []) →
      BlockBegun bits base bytes (at + d.len) (count + 1) before after
  block-step bits base bytes at count ip before between after d b lt reads takes ip_is e =
      let item = item_read at (drop at bytes) (Read d) in
      let some : 0 < d.len = takes.some in
      let within = b.swept.within in
      record {
        items = b.items ++ item ∷ [];
        swept = turn.swept-step bits base at bytes b.items (Read d) b.swept reads takes;
        all = All-append IsInstruction b.items (item ∷ []) b.all (All-cons IsInstruction item [] refl (All-nil IsInstruction));
        count_is = omega (arith, b.count_is, length-append b.items (item ∷ []));
        few = omega (arith, b.few);
        room = rw e (first_items-length _);
        kept = λ inside.
            let fits : base + length bytes ≤ 2 ^ 64 = inside (omega arith) in
            let plain : ip ≡ base + at = omega (arith, ip_is) in
            let P : ℕ → List Placed = λ a. first_items (between ++ record { ip = a; len = d.len; instr = d.instr } ∷ []) in
            let one : List Placed = placed_in base (item ∷ []) in
            e
            ∙ (ap P plain
            ∙ (ap (λ (xs : List Placed). first_items (xs ++ one)) (b.kept inside)
            ∙ (first_items-append (before ++ placed_in base b.items) one
            ∙ ap first_items (append_assoc before (placed_in base b.items) one ∙ ap (λ (xs : List Placed). before ++ xs) (sym (placed_in-append base b.items (item ∷ [])))))));
      }

  -- all instructions
  pub block-end : (bits : Bits) (base : ℕ) (bytes : List ℕ) (at count : ℕ) (before after : List Placed) → BlockBegun bits base bytes at count before after →
      length bytes ≤ at → ReadsBlock bits base bytes before after count
  block-end bits base bytes at count before after b le = record {
    items = b.items;
    sweep = turn.swept-end bits base at bytes b.items b.swept le;
    all = b.all;
    count_is = b.count_is;
    few = omega (arith, b.few, b.swept.within);
    kept = b.kept;
  }

  -- a single byte
  pub block-stop : (bits : Bits) (base : ℕ) (bytes : List ℕ) (at count : ℕ) (before after : List Placed) (e : DecodeError) →
      BlockBegun bits base bytes at count before after → IsReadAt bits base at (drop at bytes) (reading_of (Err e)) →
      TakesSome (reading_of (Err e)) (length (drop at bytes)) → BlockStopsAt bits base bytes at e
  block-stop bits base bytes at count before after e b reads takes =
      let reading : Reading = reading_of (Err e) in
      let item = item_read at (drop at bytes) reading in
      record {
        items = b.items;
        last = item;
        sweep = turn.swept-first bits base (at + item_len reading) bytes (b.items ++ item ∷ [])
            (turn.swept-step bits base at bytes b.items reading b.swept reads takes);
        all = b.all;
        offset_is = refl;
        stops = turn.error_is e;
      }
