-- How far the way through some bytes has come: the lines of the items so far went to the sink or are held back.
use Rattle.std.proofs.Common.{◌≡◌, ◌⊎◌, inl, inr, ℕ, ◌+◌, ◌-◌, ◌<◌, ◌≤◌, Bool, true, false, List, [], ◌∷◌, ◌++◌, length, length-append, take, drop, Option, Some, None, refl, sym, ap, ◌∙◌, subst, arith, append_assoc, append-nil}
use Rattle.std.specs.Prelude.{All}
use Rattle.std.proofs.lemmas.Bool.{cases_lt}
use Rattle.std.proofs.lemmas.List.{length-drop, drop-drop, flat_map_more}
use Rattle.std.proofs.Math.ListN.{drop_of_length-le}
use Rattle.std.proofs.lemmas.List.Elements.{All-nil, All-cons, All-append}
use Rattle.byte_ports.specs.Ports.{with_back}
use Rattle.x86_values.specs.declared.Bits.{Bits}
use Rattle.decoder.specs.declared.DecodeError.{DecodeError}
use Rattle.sweep.specs.declared.sweep_text.lines.Lines.{Lines}
use Rattle.opcode_rows.specs.Sweep.{Item, Sweeps, item_len}
use Rattle.sweep.specs.SweepText.Lines.{LineGoesOn, line_of, lines_of}
use Rattle.sweep.specs.RunParts.Facts.{HeldFacts}
use Rattle.sweep.specs.RunParts.Writing.{HoldsFront, Moves, HeldText}
use Rattle.sweep.specs.Steps.{IsReady, WritesItem, StopsAtItem, HandlesItems, HandlesFront}
use Rattle.sweep.proofs.Longer.{sweeps_join}

pub record Progress (bits : Bits) (base : ℕ) (lines : Lines) (from : ℕ) (bytes : List ℕ) (used count : ℕ) (ended : Bool) (start held : Option (List ℕ)) (pending : List ℕ) : Type 0 where
  pub items : List Item
  pub within : used ≤ length bytes
  pub sweeps : Sweeps bits base from bytes items (drop used bytes)
  pub all : All (LineGoesOn lines) items
  pub ready : ended ≡ false → All (IsReady (from + length bytes)) items
  pub count_is : count ≡ length items
  pub few : count ≤ used
  pub told : HeldText start held pending (lines_of bits base lines items)

-- 15 bytes of an item were seen, or the input has ended
abbrev pub IsReadyAt : ℕ → Bool → Type 0
IsReadyAt left ended = (0 < left) × (left < 15 → ended ≡ true)

no_end : (left : ℕ) (ended : Bool) → IsReadyAt left ended → ended ≡ false → 15 ≤ left
no_end left ended ready e =
    elim (cases_lt left 15) [
      | inl l ↦ let t : true ≡ false = sym (ready.1 l) ∙ e in absurd cc
      | inr g ↦ g
    ]

module _ (f : HeldFacts) where
  -- before the first item
  pub progress-start : (bits : Bits) (base : ℕ) (lines : Lines) (from : ℕ) (bytes : List ℕ) (ended : Bool) (start : Option (List ℕ)) (pending : List ℕ) →
      pending ≡ [] → Progress bits base lines from bytes 0 0 ended start start pending
  progress-start bits base lines from bytes ended start pending empty = record {
    items = [];
    within = omega arith;
    sweeps = refl;
    all = All-nil (LineGoesOn lines);
    ready = λ e. All-nil (IsReady (from + length bytes));
    count_is = refl;
    few = omega arith;
    told = f.held-start start pending empty;
  }

  -- one more item
  pub progress-step : (bits : Bits) (base : ℕ) (lines : Lines) (from : ℕ) (bytes : List ℕ) (used count : ℕ) (ended : Bool) (start held held' : Option (List ℕ))
      (before after : List ℕ) (taken : ℕ) → IsReadyAt (length bytes - used) ended → Progress bits base lines from bytes used count ended start held before →
      WritesItem bits base lines (from + used) (drop used bytes) held held' before after taken →
      Progress bits base lines from bytes (used + taken) (count + 1) ended start held' after
  progress-step bits base lines from bytes used count ended start held held' before after taken is_ready p w =
      let within = w.is_at.within in
      let count_is = w.count_is in
      let inside = p.within in
      let place : from + length bytes ≡ from + used + length (drop used bytes) = omega (arith, length-drop used bytes) in
      let one : Sweeps bits base (from + used) (drop used bytes) (w.item ∷ []) (drop (item_len w.item.reading) (drop used bytes)) = (w.is_at, refl) in
      let swept = sweeps_join bits base from (from + used) bytes p.items (drop used bytes) (w.item ∷ []) (drop (item_len w.item.reading) (drop used bytes)) p.sweeps place one in
      let rest : drop (item_len w.item.reading) (drop used bytes) ≡ drop (used + taken) bytes = rw count_is (drop-drop (item_len w.item.reading) used bytes) in
      let line = line_of bits base lines w.item in
      let more : lines_of bits base lines p.items ++ line ≡ lines_of bits base lines (p.items ++ w.item ∷ [])
      = flat_map_more (line_of bits base lines) [] p.items w.item in
      let R = IsReady (from + length bytes) in
      let offset = w.is_at.offset_is in
      record {
        items = p.items ++ w.item ∷ [];
        within = omega (arith, length-drop used bytes);
        sweeps = subst (λ xs. Sweeps bits base from bytes (p.items ++ w.item ∷ []) xs) rest swept;
        all = All-append (LineGoesOn lines) p.items (w.item ∷ []) p.all (All-cons (LineGoesOn lines) w.item [] w.goes_on (All-nil (LineGoesOn lines)));
        ready = λ e.
            let long = no_end (length bytes - used) ended is_ready e in
            All-append R p.items (w.item ∷ []) (p.ready e) (All-cons R w.item [] (omega arith) (All-nil R));
        count_is = omega (arith, p.count_is, length-append p.items (w.item ∷ []));
        few = omega (arith, p.few, w.is_at.some);
        told = subst (λ xs. HeldText start held' after xs) more (f.held-step start held held' before after (lines_of bits base lines p.items) line p.told w.moves);
      }

  -- all that are ready
  pub progress-end : (bits : Bits) (base : ℕ) (lines : Lines) (from : ℕ) (bytes : List ℕ) (used count : ℕ) (ended : Bool) (start held held' : Option (List ℕ))
      (pending : List ℕ) → (length bytes - used < 15) × (ended ≡ true → length bytes - used ≡ 0) →
      Progress bits base lines from bytes used count ended start held pending → held' ≡ with_back held pending →
      HandlesItems bits base lines from bytes ended start held' (record { used = used; count = count; stop = None })
  progress-end bits base lines from bytes used count ended start held held' pending done p whole =
      record {
        items = p.items;
        within = p.within;
        sweeps = p.sweeps;
        all = p.all;
        ready = p.ready;
        count_is = p.count_is;
        written = f.held-end start held held' pending (lines_of bits base lines p.items) p.told whole;
        ends = (
          omega (arith, length-drop used bytes, done.0),
          λ e. let none = done.1 e in drop_of_length-le bytes (omega (arith, none, p.within)),
        );
      }

  -- the items before one at which the command ends
  pub progress-stop : (bits : Bits) (base : ℕ) (lines : Lines) (from : ℕ) (bytes : List ℕ) (used count : ℕ) (ended : Bool)
      (start held held' held'' : Option (List ℕ)) (before after : List ℕ) (error : DecodeError) → IsReadyAt (length bytes - used) ended →
      Progress bits base lines from bytes used count ended start held before →
      StopsAtItem bits base lines (from + used) (drop used bytes) held held' before after error → held'' ≡ with_back held' after →
      HandlesItems bits base lines from bytes ended start held'' (record { used = used; count = count; stop = Some error })
  progress-stop bits base lines from bytes used count ended start held held' held'' before after error is_ready p stop whole =
      let all : held'' ≡ with_back held before = whole ∙ (ap (with_back held') stop.kept ∙ ap (λ (h : Option (List ℕ)). with_back h before) stop.held_is) in
      record {
        items = p.items;
        within = p.within;
        sweeps = p.sweeps;
        all = p.all;
        ready = p.ready;
        count_is = p.count_is;
        written = f.held-end start held held'' before (lines_of bits base lines p.items) p.told all;
        ends = (stop.item, (stop.is_at, (stop.stops, long)));
      }
    where
      long : (15 ≤ length (drop used bytes)) ⊎ (ended ≡ true)
      long =
          elim (cases_lt (length bytes - used) 15) [
            | inl l ↦ inr (is_ready.1 l)
            | inr g ↦ inl (omega (arith, length-drop used bytes))
          ]

  -- a failure while text is held back
  pub progress-failed : (bits : Bits) (base : ℕ) (lines : Lines) (from : ℕ) (bytes : List ℕ) (used count : ℕ) (ended : Bool) (start held held' : Option (List ℕ))
      (pending : List ℕ) → Progress bits base lines from bytes used count ended start held pending → HoldsFront held held' pending →
      HandlesFront bits base lines from bytes ended start held'
  progress-failed bits base lines from bytes used count ended start held held' pending p front =
      record {
        items = p.items;
        rest = drop used bytes;
        sweeps = p.sweeps;
        all = p.all;
        ready = p.ready;
        written = f.held-failed start held held' pending (lines_of bits base lines p.items) p.told front;
      }

  -- the same before an item at which the command ends
  pub progress-stop_failed : (bits : Bits) (base : ℕ) (lines : Lines) (from : ℕ) (bytes : List ℕ) (used count : ℕ) (ended : Bool)
      (start held held' held'' : Option (List ℕ)) (before after : List ℕ) (error : DecodeError) →
      Progress bits base lines from bytes used count ended start held before →
      StopsAtItem bits base lines (from + used) (drop used bytes) held held' before after error → HoldsFront held' held'' after →
      HandlesFront bits base lines from bytes ended start held''
  progress-stop_failed bits base lines from bytes used count ended start held held' held'' before after error p stop front =
      let same : HoldsFront held held'' before = (
        front.0,
        front.1 ∙ (ap (λ (xs : List ℕ). with_back held' (take front.0 xs)) stop.kept ∙ ap (λ (h : Option (List ℕ)). with_back h (take front.0 before)) stop.held_is),
      ) in
      progress-failed bits base lines from bytes used count ended start held held'' before p same

-- a line behind what is held back, after some of that was written
pub moves-line : (held held' : Option (List ℕ)) (before between after line : List ℕ) → Moves held held' before between [] →
    after ≡ between ++ line → Moves held held' before after line
moves-line held held' before between after line moves e = record {
  written = moves.written;
  held_is = moves.held_is;
  joined =
      ap (λ (xs : List ℕ). moves.written ++ xs) e
      ∙ (sym (append_assoc moves.written between line)
      ∙ ap (λ (xs : List ℕ). xs ++ line) (moves.joined ∙ append-nil before));
}
