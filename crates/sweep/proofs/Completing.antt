-- How a stream ends that meets no fault.
use Rattle.std.proofs.Common.{◌≡◌, inl, inr, ℕ, ◌+◌, ◌-◌, ◌<◌, ◌≤◌, List, [], ◌∷◌, ◌++◌, length, length-append, take, drop, Option, Some, None, Result, Ok, Err, refl, sym, ap, ◌∙◌, subst, arith, append-nil, take_all}
use Rattle.std.specs.Prelude.{All, IfOk}
use Rattle.std.proofs.lemmas.List.{length-drop, take-append-le}
use Rattle.std.proofs.lemmas.Bool.{cases_lt}
use Rattle.std.proofs.Math.Seq.{take-append-add}
use Rattle.std.proofs.lemmas.List.Elements.{All-nil, All-cons, All-head, All-tail}
use Rattle.byte_ports.specs.Ports.{with_front}
use Rattle.x86_values.specs.declared.Bits.{Bits}
use Rattle.decoder.specs.declared.DecodeError.{DecodeError}
use Rattle.sweep.specs.declared.sweep_text.lines.Lines.{Lines}
use Rattle.opcode_rows.specs.Sweep.{Item, Sweeps, IsSweep, item_len}
use Rattle.sweep.specs.SweepText.Lines.{stop_of, LineGoesOn}
use Rattle.sweep.specs.SweepText.Facts.{OneSweepFacts}
use Rattle.sweep.specs.RunParts.Facts.{ReadFacts}
use Rattle.sweep.specs.RunParts.Reads.{code_limit}
use Rattle.sweep.specs.declared.error.ListError.{ListError}
use Rattle.sweep.specs.declared.error.StreamError.{StreamError}
use Rattle.sweep.specs.declared.error.StreamError.TheVariants.{BadCode, ReadFault, WriteFault, TooLarge}
use Rattle.sweep.specs.Steps.{IsReady}
use Rattle.sweep.specs.Streams.{AreHandled, Sees, WritesLinesBefore, StreamsAs}
use Rattle.sweep.specs.declared.stream.BadItem.{BadItem}
use Rattle.sweep.specs.declared.stream.Streamed.{Streamed}
use Rattle.sweep.specs.Ends.{end_of, of_streamed, CompletesStream, CompletesListing}
use Rattle.text_parts.specs.declared.style.Style.{Style}
use Rattle.sweep.specs.declared.sweep_text.lines.Lines.TheVariants.{Listing}
use Rattle.sweep.proofs.Longer.{all_ready, sweeps_longer}

-- ---- the end of some items

end_goes_on : (lines : Lines) (item : Item) (items : List Item) (last : Result ℕ StreamError) → LineGoesOn lines item →
    end_of lines (item ∷ items) last ≡ end_of lines items last
end_goes_on lines item items last goes_on =
    ap (λ (o : Option DecodeError). elim o as (λ _. Result ℕ StreamError) [ None ↦ end_of lines items last | Some error ↦ Err (BadCode item.offset error) ]) goes_on

end_stops : (lines : Lines) (item : Item) (items : List Item) (last : Result ℕ StreamError) (error : DecodeError) → stop_of lines item.reading ≡ Some error →
    end_of lines (item ∷ items) last ≡ Err (BadCode item.offset error)
end_stops lines item items last error stops =
    ap (λ (o : Option DecodeError). elim o as (λ _. Result ℕ StreamError) [ None ↦ end_of lines items last | Some e ↦ Err (BadCode item.offset e) ]) stops

-- behind all items
end_all : (lines : Lines) (items : List Item) (last : Result ℕ StreamError) → All (LineGoesOn lines) items → end_of lines items last ≡ last
end_all lines [] last all = refl
end_all lines (item ∷ items) last all =
    end_goes_on lines item items last (All-head (LineGoesOn lines) item items all) ∙ end_all lines items last (All-tail (LineGoesOn lines) item items all)

-- at the first item behind which the command does not go on
end_at : (lines : Lines) (items : List Item) (stop : Item) (more : List Item) (last : Result ℕ StreamError) (error : DecodeError) → All (LineGoesOn lines) items →
    stop_of lines stop.reading ≡ Some error → end_of lines ((items ++ stop ∷ []) ++ more) last ≡ Err (BadCode stop.offset error)
end_at lines [] stop more last error all stops = end_stops lines stop more last error stops
end_at lines (item ∷ items) stop more last error all stops =
    end_goes_on lines item ((items ++ stop ∷ []) ++ more) last (All-head (LineGoesOn lines) item items all)
    ∙ end_at lines items stop more last error (All-tail (LineGoesOn lines) item items all) stops

-- ---- items that are handled

-- items that end with one that is ready are ready
ready_before : (bits : Bits) (base offset : ℕ) (bytes : List ℕ) (items : List Item) (last : Item) (rest : List ℕ) (n : ℕ) →
    Sweeps bits base offset bytes (items ++ last ∷ []) rest → last.offset + 15 ≤ n → All (IsReady n) (items ++ last ∷ []) × (offset ≤ last.offset)
ready_before bits base offset bytes [] last rest n h long =
    let at = h.0.offset_is in (All-cons (IsReady n) last [] long (All-nil (IsReady n)), omega arith)
ready_before bits base offset bytes (item ∷ items) last rest n h long =
    let tail = ready_before bits base (offset + item_len item.reading) (drop (item_len item.reading) bytes) items last rest n h.1 long in
    let at = h.0.offset_is in
    let behind = tail.1 in (All-cons (IsReady n) item (items ++ last ∷ []) (omega arith) tail.0, omega arith)

-- ---- the bytes that were taken

told : (bytes taken : List ℕ) (left' : Option (List ℕ)) → Some bytes ≡ with_front taken left' → (rest : List ℕ) × ((left' ≡ Some rest) × (bytes ≡ taken ++ rest))
told bytes taken None e = absurd cc
told bytes taken (Some rest) e = (rest, (refl, cc))

take_append : (n : ℕ) (xs ys : List ℕ) → take n (xs ++ ys) ≡ take n xs ++ take (n - length xs) ys
take_append n xs ys =
    elim (cases_lt n (length xs)) [
      | inl l ↦
          let none : n - length xs ≡ 0 = omega arith in
          take-append-le n xs ys (omega arith) ∙ (sym (append-nil (take n xs)) ∙ ap (λ k. take n xs ++ take k ys) (sym none))
      | inr g ↦
          let split : n ≡ length xs + (n - length xs) = omega arith in
          ap (λ k. take k (xs ++ ys)) split ∙ (take-append-add xs ys (n - length xs) ∙ ap (λ zs. zs ++ take (n - length xs) ys) (sym (take_all n xs g)))
    ]

-- the bytes that count are the first of those up to the limit
seen_front : (bytes : List ℕ) (left' : Option (List ℕ)) (seen : List ℕ) → Sees (Some bytes) left' seen → (more : List ℕ) × (take code_limit bytes ≡ seen ++ more)
seen_front bytes left' seen h =
    let t = told bytes h.taken left' h.read in (
      take (code_limit - length h.taken) t.0,
      ap (take code_limit) t.1.1 ∙ (take_append code_limit h.taken t.0 ∙ ap (λ xs. xs ++ take (code_limit - length h.taken) t.0) (sym h.seen_is)),
    )

-- ---- the answer

module _ (one : OneSweepFacts) where
  -- items that are ready are the first of all that are handled
  sweep_covers : (bits : Bits) (base offset : ℕ) (bytes : List ℕ) (items others : List Item) (rest left : List ℕ) → Sweeps bits base offset bytes items rest →
      All (IsReady (offset + length bytes)) items → Sweeps bits base offset bytes others left → length left < 15 → (more : List Item) × (others ≡ items ++ more)
  sweep_covers bits base offset bytes [] others rest left h ready k short = (others, refl)
  sweep_covers bits base offset bytes (x ∷ items) [] rest left h ready k short =
      let at = h.0.offset_is in
      let long = All-head (IsReady (offset + length bytes)) x items ready in absurd (omega (arith, ap length k))
  sweep_covers bits base offset bytes (x ∷ items) (y ∷ others) rest left h ready k short =
      let n : ℕ = item_len x.reading in
      let within = h.0.within in
      let same = one.item_unique bits base offset bytes x y h.0 k.0 in
      let there : Sweeps bits base (offset + n) (drop n bytes) others left =
      subst (λ (i : Item). Sweeps bits base (offset + item_len i.reading) (drop (item_len i.reading) bytes) others left) (sym same) k.1 in
      let length_is : offset + length bytes ≡ offset + n + length (drop n bytes) = omega (arith, length-drop n bytes) in
      let tail_ready : All (IsReady (offset + n + length (drop n bytes))) items =
      subst (λ m. All (IsReady m) items) length_is (All-tail (IsReady (offset + length bytes)) x items ready) in
      let tail = sweep_covers bits base (offset + n) (drop n bytes) items others rest left h.1 tail_ready there short in
      (tail.0, ap (λ (i : Item). i ∷ others) (sym same) ∙ ap (λ (l : List Item). x ∷ l) tail.1)

  -- some bytes have one list of handled items
  handled_unique : (bits : Bits) (base : ℕ) (seen : List ℕ) (items others : List Item) → AreHandled bits base seen items → AreHandled bits base seen others →
      items ≡ others
  handled_unique bits base seen items others h k =
      let there = sweep_covers bits base 0 seen items others h.rest k.rest h.sweeps (all_ready (length seen) (0 + length seen) items (omega arith) h.ready) k.sweeps k.short in
      let back = sweep_covers bits base 0 seen others items k.rest h.rest k.sweeps (all_ready (length seen) (0 + length seen) others (omega arith) k.ready) h.sweeps h.short in
      one.begin_each_other items others there.0 back.0 there.1 back.1

  -- an item at which the command ends ends every longer way
  ends_at : (bits : Bits) (base : ℕ) (lines : Lines) (bytes : List ℕ) (left' : Option (List ℕ)) (seen : List ℕ) (offset : ℕ) (error : DecodeError)
      (held held' : Option (List ℕ)) (items : List Item) (rest : List ℕ) (last : Result ℕ StreamError) → Sees (Some bytes) left' seen →
      offset + 15 ≤ length seen → WritesLinesBefore bits base lines seen offset error held held' → Sweeps bits base 0 (take code_limit bytes) items rest →
      length rest < 15 → Err (BadCode offset error) ≡ end_of lines items last
  ends_at bits base lines bytes left' seen offset error held held' items rest last sees long w sweeps short =
      let front = seen_front bytes left' seen sees in
      let begun = w.sweep in
      let ready = ready_before bits base 0 seen w.items w.last begun.0 (length seen) begun.1 (omega (arith, w.offset_is)) in
      let longer : Sweeps bits base 0 (take code_limit bytes) (w.items ++ w.last ∷ []) (begun.0 ++ front.0) =
      subst (λ xs. Sweeps bits base 0 xs (w.items ++ w.last ∷ []) (begun.0 ++ front.0)) (sym front.1)
      (sweeps_longer bits base 0 seen front.0 (w.items ++ w.last ∷ []) begun.0 begun.1
      (all_ready (length seen) (0 + length seen) (w.items ++ w.last ∷ []) (omega arith) ready.0)) in
      let more = sweep_covers bits base 0 (take code_limit bytes) (w.items ++ w.last ∷ []) items (begun.0 ++ front.0) rest longer
      (all_ready (length seen) (0 + length (take code_limit bytes)) (w.items ++ w.last ∷ []) (omega (arith, ap length front.1, length-append seen front.0)) ready.0)
      sweeps short in
      sym (ap (λ xs. end_of lines xs last) more.1
      ∙ (end_at lines w.items w.last more.0 last error w.all w.stops
      ∙ ap (λ n. Err (BadCode n error)) w.offset_is))

  module _ (reads : ReadFacts) where
    -- **a stream that meets no fault ends as its bytes say**
    pub completes : (bits : Bits) (base : ℕ) (lines : Lines) (left left' held held' : Option (List ℕ)) (source_rose out_rose : Type 0) (result : Result ℕ StreamError) →
        StreamsAs bits base lines left left' held held' source_rose out_rose result → (source_rose → ⊥) → (out_rose → ⊥) → CompletesStream bits base lines left result
    completes bits base lines (Some bytes) left' held held' source_rose out_rose (Ok count) h s o =
        let w = h.1.1 in
        let same = reads.all_bytes code_limit bytes left' h.0 h.1.0 in
        let within = h.1.0.within in (
          λ few items sweep.
              let same_items : items ≡ w.items = one.sweep_unique bits base h.0 items w.items (subst (λ xs. IsSweep bits base xs items) same sweep) w.sweep in
              ap Ok (w.count_is ∙ ap length (sym same_items))
              ∙ sym (ap (λ xs. end_of lines xs (Ok (length items))) same_items ∙ end_all lines w.items (Ok (length items)) w.all),
          λ many items handled. absurd (omega (arith, ap length same)),
        )
    completes bits base lines (Some bytes) left' held held' source_rose out_rose (Err (BadCode offset error)) h s o =
        elim h.1.1.0 [
          | inl long ↦ (
            λ few items sweep.
                ends_at bits base lines bytes left' h.0 offset error held held' items [] (Ok (length items)) h.1.0 long h.1.1.1
                (subst (λ xs. IsSweep bits base xs items) (sym (take_all code_limit bytes few)) sweep) (omega arith),
            λ many items handled.
                ends_at bits base lines bytes left' h.0 offset error held held' items handled.rest (Err (TooLarge code_limit)) h.1.0 long h.1.1.1 handled.sweeps
                handled.short,
          )
          | inr all ↦
              let w = h.1.1.1 in
              let same = reads.all_bytes code_limit bytes left' h.0 all in
              let within = all.within in (
                λ few items sweep.
                    let begun = w.sweep in
                    let more = one.sweep_begins bits base 0 h.0 (w.items ++ w.last ∷ []) items begun.0 begun.1 (subst (λ xs. IsSweep bits base xs items) same sweep) in
                    sym (ap (λ xs. end_of lines xs (Ok (length items))) more.1
                    ∙ (end_at lines w.items w.last more.0 (Ok (length items)) error w.all w.stops
                    ∙ ap (λ n. Err (BadCode n error)) w.offset_is)),
                λ many items handled. absurd (omega (arith, ap length same)),
              )
        ]
    completes bits base lines (Some bytes) left' held held' source_rose out_rose (Err ReadFault) h s o = absurd (s h.0)
    completes bits base lines (Some bytes) left' held held' source_rose out_rose (Err WriteFault) h s o = absurd (o h.0)
    completes bits base lines (Some bytes) left' held held' source_rose out_rose (Err (TooLarge limit)) h s o =
        let read : List ℕ = h.1.0 in
        let w = h.1.1.1 in
        let t = told bytes read left' h.1.1.0.read in
        let over = h.1.1.0.over in
        let longer : code_limit < length bytes = omega (arith, ap length t.1.1, length-append read t.0) in
        let same : take code_limit bytes ≡ take code_limit read = ap (take code_limit) t.1.1 ∙ take-append-le code_limit read t.0 (omega arith) in (
          λ few items sweep. absurd (omega arith),
          λ many items handled.
              let there : AreHandled bits base (take code_limit read) items = subst (λ xs. AreHandled bits base xs items) same handled in
              let same_items = handled_unique bits base (take code_limit read) items w.items there w.handled in
              ap (λ n. Err (TooLarge n)) h.0
              ∙ sym (ap (λ xs. end_of lines xs (Err (TooLarge code_limit))) same_items ∙ end_all lines w.items (Err (TooLarge code_limit)) w.all),
        )
    completes bits base lines None left' held held' source_rose out_rose (Ok count) h s o = tt
    completes bits base lines None left' held held' source_rose out_rose (Err (BadCode offset error)) h s o = tt
    completes bits base lines None left' held held' source_rose out_rose (Err ReadFault) h s o = absurd (s h.0)
    completes bits base lines None left' held held' source_rose out_rose (Err WriteFault) h s o = absurd (o h.0)
    completes bits base lines None left' held held' source_rose out_rose (Err (TooLarge limit)) h s o = tt

-- a listing goes on behind every item
pub no_bad_code : (bits : Bits) (base : ℕ) (syntax : Style) (left left' held held' : Option (List ℕ)) (source_rose out_rose : Type 0) (offset : ℕ)
    (error : DecodeError) → StreamsAs bits base (Listing syntax) left left' held held' source_rose out_rose (Err (BadCode offset error)) → ⊥
no_bad_code bits base syntax left left' held held' source_rose out_rose offset error h =
    let stops : None ≡ Some error = h.1.1.1.stops in absurd cc

goes_on : (bits : Bits) (base : ℕ) (syntax : Style) (left left' held held' : Option (List ℕ)) (source_rose out_rose : Type 0) (count : ℕ)
    (stop : Option BadItem) → StreamsAs bits base (Listing syntax) left left' held held' source_rose out_rose
    (of_streamed (Ok (record { count = count; stop = stop }))) → stop ≡ None
goes_on bits base syntax left left' held held' source_rose out_rose count None h = refl
goes_on bits base syntax left left' held held' source_rose out_rose count (Some bad) h =
    absurd (no_bad_code bits base syntax left left' held held' source_rose out_rose bad.offset bad.error h)

-- so a listing ends at no item
pub listing_goes_on : (bits : Bits) (base : ℕ) (syntax : Style) (left left' held held' : Option (List ℕ)) (source_rose out_rose : Type 0)
    (streamed : Result Streamed ListError) → StreamsAs bits base (Listing syntax) left left' held held' source_rose out_rose (of_streamed streamed) →
    IfOk streamed (λ s. s.stop ≡ None)
listing_goes_on bits base syntax left left' held held' source_rose out_rose (Ok streamed) h =
    goes_on bits base syntax left left' held held' source_rose out_rose streamed.count streamed.stop h
listing_goes_on bits base syntax left left' held held' source_rose out_rose (Err error) h = tt

module _ (reads : ReadFacts) where
  -- **a listing that meets no fault comes to the end of its input**
  pub completes_listing : (bits : Bits) (base : ℕ) (syntax : Style) (left left' held held' : Option (List ℕ)) (source_rose out_rose : Type 0)
      (result : Result ℕ StreamError) → StreamsAs bits base (Listing syntax) left left' held held' source_rose out_rose result → (source_rose → ⊥) →
      (out_rose → ⊥) → CompletesListing left result
  completes_listing bits base syntax (Some bytes) left' held held' source_rose out_rose (Ok count) h s o =
      let same = reads.all_bytes code_limit bytes left' h.0 h.1.0 in
      let within = h.1.0.within in (λ few. (count, refl), λ many. absurd (omega (arith, ap length same)))
  completes_listing bits base syntax None left' held held' source_rose out_rose (Ok count) h s o = inl (count, refl)
  completes_listing bits base syntax left left' held held' source_rose out_rose (Err (BadCode offset error)) h s o =
      absurd (no_bad_code bits base syntax left left' held held' source_rose out_rose offset error h)
  completes_listing bits base syntax left left' held held' source_rose out_rose (Err ReadFault) h s o = absurd (s h.0)
  completes_listing bits base syntax left left' held held' source_rose out_rose (Err WriteFault) h s o = absurd (o h.0)
  completes_listing bits base syntax (Some bytes) left' held held' source_rose out_rose (Err (TooLarge limit)) h s o =
      let t = told bytes h.1.0 left' h.1.1.0.read in
      let over = h.1.1.0.over in (
        λ few. absurd (omega (arith, ap length t.1.1, length-append h.1.0 t.0)),
        λ many. ap (λ n. Err (TooLarge n)) h.0,
      )
  completes_listing bits base syntax None left' held held' source_rose out_rose (Err (TooLarge limit)) h s o = inr (ap (λ n. Err (TooLarge n)) h.0)
