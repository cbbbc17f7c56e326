-- What is known of code once it is read and moved.
use Rattle.std.proofs.Common.{◌≡◌, ℕ, ◌≤◌, List, length, Option, Some, None, inl, sym, ap, ◌∙◌, subst, arith}
use Rattle.std.proofs.lemmas.List.FromFn.{length-map-range_with_len}
use Rattle.x86_values.specs.declared.Bits.{Bits}
use Rattle.move_goals.specs.declared.items.Placed.{Placed}
use Rattle.move_goals.specs.Items.{AreSpansOf, ArePlaced, first_disorder}
use Rattle.block_encoder.specs.declared.error.MoveError.{MoveError}
use Rattle.block_encoder.specs.declared.error.MoveError.TheVariants as error
use Rattle.block_encoder.specs.Moved.{MovedLists, IsMoved, IsRefused}
use Rattle.moving_run.specs.declared.command_words.commands.BlockWords.{BlockWords}
use Rattle.sweep.specs.declared.run_parts.status.Status.{Status}
use Rattle.sweep.specs.declared.run_parts.status.Status.TheVariants.{BadCode, ReadFault, Memory, TooLarge, Wraps, TooFar, TooMany}
use Rattle.sweep.specs.RunParts.Reads.{whole_limit, ReadsAll, IsUnread}
use Rattle.moving_run.specs.declared.moving.Wanted.{Wanted}
use Rattle.moving_run.specs.declared.code.Code.{Code}
use Rattle.moving_run.specs.Code.{all_placed, all_spans}
use Rattle.moving_run.specs.Ends.{first_pass}
use Rattle.moving_run.specs.Moving.{MovesInput, MovesCode, RefusesBlocks, IsMovingRefusal, MovesAs, wanted_text}
use Rattle.moving_run.specs.Read.{IsCode}
use Rattle.moving_run.specs.Facts.{ReadBackFacts}
use Rattle.branch_sizes.specs.Facts.{BlockFacts}
use Rattle.moving_run.proofs.Reading.{first_items-few}
use Rattle.moving_run.proofs.Wholes.{spans_of, are_placed, no_disorder, ends_are}

-- ---- the code

module _ (blocks : BlockFacts) (bits : Bits) (words : List BlockWords) (bytes : List ℕ) (code : Code) (is : IsCode bits words bytes code) (few : code.count ≤ 65536) where
  few_items : length (all_placed words is.items) ≤ 65536
  few_items = let count_is = is.count_is in omega arith

  -- an old end passes the address space
  pub passes : (end : ℕ) → first_pass bits words bytes ≡ Some end → RefusesBlocks bits words bytes (error.Wraps end)
  passes end first = record {
    items = is.items;
    swept = is.swept;
    refused = inl (record {
      few = few_items;
      order = no_disorder blocks bits words bytes is.items is.swept;
      passes = ends_are bits words bytes is.items is.swept ∙ first;
    });
  }

  module _ (inside : first_pass bits words bytes ≡ None) where
    -- all instructions are kept
    pub items_are : code.items.items ≡ all_placed words is.items
    items_are = is.kept inside ∙ first_items-few (all_placed words is.items) few_items

    -- the spans are those of the items
    pub code_spans : length words ≤ 16 → AreSpansOf code.items.items code.spans.items
    code_spans few_words =
        let whole = spans_of bits words bytes is.items is.swept few_words in
        subst (λ (items : List Placed). AreSpansOf items code.spans.items) (sym items_are) (rw is.spans_are whole)

    -- the items are placed
    pub code_placed : ArePlaced bits code.items.items
    code_placed = subst (λ (items : List Placed). ArePlaced bits items) (sym items_are) (are_placed bits words bytes is.items is.swept)

    -- the blocks are moved
    pub moves : (m : MovedLists) → IsMoved bits code.items.items code.spans.items m → MovesInput bits words bytes code.items.items m
    moves m h = record {
      items = is.items;
      swept = is.swept;
      placed_is = items_are;
      is_moved = rw (← items_are, ← is.spans_are) h;
    }

    -- their moving is refused
    pub refuses : (why : MoveError) → IsRefused bits code.items.items code.spans.items why → RefusesBlocks bits words bytes why
    refuses why h = record {
      items = is.items;
      swept = is.swept;
      refused = rw (← items_are, ← is.spans_are) h;
    }

    -- they are few
    pub code_few : length code.items.items ≤ 65536
    code_few = subst (λ (items : List Placed). length items ≤ 65536) (sym items_are) few_items

    -- no instruction is out of order
    pub ordered : first_disorder code.spans.items code.items.items ≡ None
    ordered = rw (items_are, is.spans_are) (no_disorder blocks bits words bytes is.items is.swept)

-- ---- the command

-- the lists of moved blocks have an element for each instruction
pub starts_length : (bits : Bits) (words : List BlockWords) (bytes : List ℕ) (placed : List Placed) (m : MovedLists) → MovesInput bits words bytes placed m →
    length m.starts ≡ length placed
starts_length bits words bytes placed m h =
    let items = all_placed words h.items in
    ap length h.is_moved.lists.starts ∙ (length-map-range_with_len _ 0 (length items) ∙ ap length (sym h.placed_is))

-- there is a form for each instruction
pub forms_length : (bits : Bits) (words : List BlockWords) (bytes : List ℕ) (placed : List Placed) (m : MovedLists) → MovesInput bits words bytes placed m →
    length m.forms ≡ length placed
forms_length bits words bytes placed m h =
    let items = all_placed words h.items in
    ap length h.is_moved.lists.forms ∙ (length-map-range_with_len _ 0 (length items) ∙ ap length (sym h.placed_is))

-- what is written of them
pub moves_code : (back : ReadBackFacts) (wanted : Wanted) (bits : Bits) (words : List BlockWords) (bytes : List ℕ) (placed : List Placed) (m : MovedLists) → length words ≤ 16 →
    MovesInput bits words bytes placed m → MovesCode wanted bits words bytes (wanted_text wanted bits placed m)
moves_code back wanted bits words bytes placed m few h = record {
  items = h.items;
  swept = h.swept;
  moved = m;
  is_moved = h.is_moved;
  read_back = back.reads_back bits (all_placed words h.items) (all_spans words h.items) (spans_of bits words bytes h.items h.swept few)
      (are_placed bits words bytes h.items h.swept) m h.is_moved;
  text_is = ap (λ (items : List Placed). wanted_text wanted bits items m) h.placed_is;
}

-- a source that was not read whole, after which nothing was written
pub unread : (wanted : Wanted) (bits : Bits) (words : List BlockWords) (left left' held held' : Option (List ℕ)) (source_rose out_rose : Type 0) (status : Status) → held' ≡ held →
    IsUnread left left' source_rose status → MovesAs wanted bits words left left' held held' source_rose out_rose status
unread wanted bits words left left' held held' source_rose out_rose ReadFault kept h = (h, kept)
unread wanted bits words left left' held held' source_rose out_rose Memory kept h = kept
unread wanted bits words left left' held held' source_rose out_rose (TooLarge limit) kept h = (h.0, (h.1, kept))
unread wanted bits words left left' held held' source_rose out_rose _ kept h = absurd h

-- a status that tells why, after which nothing was written
pub refusal : (wanted : Wanted) (bits : Bits) (words : List BlockWords) (bytes : List ℕ) (left left' held held' : Option (List ℕ)) (source_rose out_rose : Type 0) (status : Status) →
    ReadsAll whole_limit left left' bytes → held' ≡ held → IsMovingRefusal bits words bytes status →
    MovesAs wanted bits words left left' held held' source_rose out_rose status
refusal wanted bits words bytes left left' held held' source_rose out_rose Memory reads kept h = kept
refusal wanted bits words bytes left left' held held' source_rose out_rose (BadCode offset error) reads kept h = ((bytes, (reads, h)), kept)
refusal wanted bits words bytes left left' held held' source_rose out_rose (TooMany count) reads kept h = ((bytes, (reads, h)), kept)
refusal wanted bits words bytes left left' held held' source_rose out_rose (Wraps end) reads kept h = ((bytes, (reads, h)), kept)
refusal wanted bits words bytes left left' held held' source_rose out_rose (TooFar at target) reads kept h = ((bytes, (reads, h)), kept)
refusal wanted bits words bytes left left' held held' source_rose out_rose _ reads kept h = absurd h
