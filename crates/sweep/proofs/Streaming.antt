-- How far a stream has come: the lines of the items so far were written, and the bytes that are left stand in the window.
use Rattle.std.proofs.Common.{◌≡◌, inl, inr, ℕ, ◌+◌, ◌-◌, ◌<◌, ◌≤◌, min, Bool, true, false, List, [], ◌∷◌, ◌++◌, length, length-append, take, drop, Option, Some, None, refl, sym, ap, ◌∙◌, subst, arith, take-take, take_all}
use Rattle.std.specs.Prelude.{All, Result}
use Rattle.std.proofs.Math.Seq.{take-append-add}
use Rattle.std.proofs.lemmas.List.{length-drop, length-take, drop-drop, drop-append-le, take_min}
use Rattle.std.proofs.lemmas.Grind.{flat_map-append}
use Rattle.std.proofs.lemmas.List.Elements.{All-nil, All-append}
use Rattle.byte_ports.specs.declared.failed.Failed.{Failed}
use Rattle.byte_ports.specs.Ports.{Rose, with_front, with_back}
use Rattle.x86_values.specs.declared.Bits.{Bits}
use Rattle.decoder.specs.declared.DecodeError.{DecodeError}
use Rattle.sweep.specs.declared.sweep_text.lines.Lines.{Lines}
use Rattle.opcode_rows.specs.Sweep.{Item, Sweeps, item_len}
use Rattle.sweep.specs.SweepText.Lines.{LineGoesOn, line_of, lines_of}
use Rattle.sweep.specs.RunParts.Reads.{code_limit, ReadsAll, ReadsTooMany}
use Rattle.sweep.specs.RunParts.Facts.{TextPieceFacts}
use Rattle.sweep.specs.Steps.{IsReady, HandlesEnd, HandlesItems, HandlesFront}
use Rattle.sweep.specs.Calls.{IsWritten, Rounds, IsLastRound, IsNeeded, IsCalled}
use Rattle.sweep.specs.Window.{Fills}
use Rattle.sweep.specs.Streams.{WritesLines, WritesHandled, WritesLinesFront, WritesLinesBefore, Sees, Reads, MayHandle}
use Rattle.sweep.specs.declared.error.StreamError.{StreamError}
use Rattle.sweep.specs.declared.ready.Handled.{Handled}
use Rattle.sweep.proofs.Longer.{all_ready, sweeps_longer, sweeps_join}

pub record Streamed (bits : Bits) (base : ℕ) (lines : Lines) (start left : Option (List ℕ)) (held held' : Option (List ℕ)) (at len count : ℕ) (window : List ℕ) : Type 0 where
  pub seen : List ℕ
  pub items : List Item
  pub read : start ≡ with_front seen left
  pub few : length seen ≤ code_limit
  pub reaches : at + len ≡ length seen
  pub front : take len window ≡ drop at seen
  pub sweeps : Sweeps bits base 0 seen items (drop at seen)
  pub ready : All (IsReady (length seen)) items
  pub all : All (LineGoesOn lines) items
  pub short : len < 15
  pub count_is : count ≡ length items
  pub written : held' ≡ with_back held (lines_of bits base lines items)

-- a fault in a later call is one of the whole
pub rose_since : (a b c : ℕ) → a ≤ b → Rose b c → Rose a c
rose_since a b c le r = elim r [ inl lt ↦ inl (omega arith) | inr full ↦ inr full ]

-- before the first byte
pub streamed_start : (join : TextPieceFacts) (bits : Bits) (base : ℕ) (lines : Lines) (start held : Option (List ℕ)) (window : List ℕ) →
    Streamed bits base lines start start held held 0 0 0 window
unfolding code_limit
streamed_start join bits base lines start held window = record {
  seen = [];
  items = [];
  read = with_front-nil start;
  few = omega arith;
  reaches = refl;
  front = refl;
  sweeps = refl;
  ready = All-nil (IsReady 0);
  all = All-nil (LineGoesOn lines);
  short = omega arith;
  count_is = refl;
  written = sym (join.with_back-nil held);
}
  where
    with_front-nil : (o : Option (List ℕ)) → o ≡ with_front [] o
    with_front-nil None = refl
    with_front-nil (Some xs) = refl

-- the source failed
pub at_fault : (bits : Bits) (base : ℕ) (lines : Lines) (start left left' held held' : Option (List ℕ)) (at len count : ℕ) (window : List ℕ) →
    Streamed bits base lines start left held held' at len count window → left' ≡ left →
    (seen : List ℕ) × (Reads start left' seen × WritesHandled bits base lines seen held held')
at_fault bits base lines start left left' held held' at len count window s same = (
  s.seen,
  (
    record { read = s.read ∙ ap (with_front s.seen) (sym same); within = s.few },
    record {
      items = s.items;
      handled = record {
        rest = drop at s.seen;
        sweeps = s.sweeps;
        ready = s.ready;
        short = omega (arith, length-drop at s.seen, s.reaches, s.short);
      };
      all = s.all;
      written = s.written;
    },
  ),
)

-- what was seen so far is written
pub written_so_far : (bits : Bits) (base : ℕ) (lines : Lines) (start left held held' : Option (List ℕ)) (at len count : ℕ) (window : List ℕ)
    (s : Streamed bits base lines start left held held' at len count window) → IsWritten bits base lines start left held held' s.seen
unfolding at_fault
written_so_far bits base lines start left held held' at len count window s =
    let h = at_fault bits base lines start left left held held' at len count window s refl in record { read = h.1.0; handled = h.1.1 }

-- the calls of a stream whose last round begins here
pub called_so_far : {S K : Type 0} {left : S → Option (List ℕ)} {pulls : S → List ℕ → Result ℕ Failed → S → List ℕ → Type 0}
    {held : K → Option (List ℕ)} {puts : K → List ℕ → Result ℕ Failed → K → Type 0} {bits : Bits} {base : ℕ} {lines : Lines}
    {source source' : S} {sink sink' : K} {result : Result ℕ StreamError} {at len count : ℕ} {window : List ℕ} (last_source : S) (last_sink : K)
    (s : Streamed bits base lines (left source) (left last_source) (held sink) (held last_sink) at len count window) →
    Rounds left pulls held puts bits base lines source sink last_source last_sink → IsLastRound pulls puts last_source source' last_sink sink' result →
    IsNeeded s.seen result → IsCalled left pulls held puts bits base lines source source' sink sink' result
called_so_far last_source last_sink s rounds last needed = record {
  last_source = last_source;
  last_sink = last_sink;
  seen = s.seen;
  rounds = rounds;
  written = written_so_far _ _ _ _ _ _ _ _ _ _ _ s;
  last = last;
  needed = needed;
}

lines_join : (bits : Bits) (base : ℕ) (lines : Lines) (items more : List Item) →
    lines_of bits base lines (items ++ more) ≡ lines_of bits base lines items ++ lines_of bits base lines more
lines_join bits base lines items more = flat_map-append (line_of bits base lines) items more

module _ (join : TextPieceFacts) (bits : Bits) (base : ℕ) (lines : Lines) (start left left' held held' : Option (List ℕ)) (at len count room n end : ℕ) (window window' : List ℕ)
    (s : Streamed bits base lines start left held held' at len count window) (f : Fills left left' window window' len room n)
    (room_is : room ≤ code_limit + 1 - (at + len)) (end_is : end ≡ min (len + n) (code_limit - at)) where
  -- the bytes that count, and those that were taken
  abbrev taken : List ℕ
  taken = s.seen ++ f.piece

  abbrev new : List ℕ
  new = take (code_limit - length s.seen) f.piece

  abbrev now : List ℕ
  now = s.seen ++ new

  length_now : length now ≡ at + end
  length_now =
      omega (arith, length-append s.seen new, length-take (code_limit - length s.seen) f.piece, s.reaches, s.few, f.count_is, end_is)

  -- what fills the window is below the limit
  pub fills_few : at + end ≤ code_limit
  fills_few = omega (arith, s.reaches, s.few, end_is)

  at_inside : at ≤ length s.seen
  at_inside = omega (arith, s.reaches)

  -- the window holds the bytes that are not yet handled
  pub window_is : take end window' ≡ drop at now
  window_is =
      let len_first : length (take len window) ≡ len = omega (arith, ap length s.front, length-drop at s.seen, s.reaches) in
      let split : end ≡ length (take len window) + (end - len) = omega (arith, len_first, s.reaches, s.few, end_is) in
      let cut : end - len ≡ min (code_limit - length s.seen) (length f.piece) = omega (arith, s.reaches, s.few, f.count_is, end_is) in
      sym (take-take end (len + n) window' (omega (arith, end_is)))
      ∙ (ap (take end) f.front
      ∙ (ap (λ k. take k (take len window ++ f.piece)) split
      ∙ (take-append-add (take len window) f.piece (end - len)
      ∙ (ap (λ xs. xs ++ take (end - len) f.piece) s.front
      ∙ (ap (λ k. drop at s.seen ++ take k f.piece) cut
      ∙ (ap (λ xs. drop at s.seen ++ xs) (take_min (code_limit - length s.seen) f.piece)
      ∙ sym (drop-append-le at s.seen new at_inside)))))))

  now_is : now ≡ take code_limit taken
  now_is =
      let split : code_limit ≡ length s.seen + (code_limit - length s.seen) = omega (arith, s.few) in
      sym (ap (λ k. take k taken) split ∙ take-append-add s.seen f.piece (code_limit - length s.seen))

  all_taken : start ≡ with_front taken left'
  all_taken = s.read ∙ (ap (with_front s.seen) f.read ∙ join.with_front-append left' s.seen f.piece)

  -- the stream has seen what it read
  pub sees : Sees start left' now
  sees = record {
    taken = taken;
    read = all_taken;
    within = omega (arith, length-append s.seen f.piece, f.count_is, f.within, room_is, s.reaches, s.few);
    seen_is = now_is;
  }

  sweeps_now : Sweeps bits base 0 now s.items (drop at now)
  sweeps_now =
      subst (Sweeps bits base 0 now s.items) (sym (drop-append-le at s.seen new at_inside))
      (sweeps_longer bits base 0 s.seen new s.items (drop at s.seen) s.sweeps (all_ready (length s.seen) (0 + length s.seen) s.items (omega arith) s.ready))

  ready_now : All (IsReady (length now)) s.items
  ready_now = all_ready (length s.seen) (length now) s.items (omega (arith, length-append s.seen new)) s.ready

  place : 0 + length now ≡ at + length (drop at now)
  place = omega (arith, length-drop at now, length_now)

  -- the source has no more
  no_more : n ≡ 0 → now ≡ taken
  no_more none = ap (λ xs. s.seen ++ xs) (take_all (code_limit - length s.seen) f.piece (omega (arith, f.count_is)))

  -- a pull of nothing ends the source
  pub reads_all : n ≡ 0 → ReadsAll code_limit start left' now
  reads_all none = record {
    read = all_taken ∙ ap (λ xs. with_front xs left') (sym (no_more none));
    ended = f.ended none;
    within = omega (arith, length_now, fills_few);
  }

  -- items that are ready, or behind which the input has ended, may be handled, and so may those before them
  may_handle : (ended : Bool) (items : List Item) → (ended ≡ false → All (IsReady (at + length (drop at now))) items) → (ended ≡ true → n ≡ 0) →
      All (λ item. MayHandle start left' now item.offset) (s.items ++ items)
  may_handle true items ready last_pull = λ k d lt. inr (reads_all (last_pull refl))
  may_handle false items ready last_pull =
      let all = All-append (IsReady (length now)) s.items items ready_now (all_ready (at + length (drop at now)) (length now) items (omega (arith, place)) (ready refl)) in
      λ k d lt. inl (all k d lt)

  -- the sink failed
  pub at_write_fault : (ended : Bool) (held'' : Option (List ℕ)) → HandlesFront bits base lines at (drop at now) ended held' held'' → (ended ≡ true → n ≡ 0) →
      (seen : List ℕ) × (Sees start left' seen × WritesLinesFront bits base lines start left' seen held held'')
  at_write_fault ended held'' h last_pull =
      let part = take h.written.0 (lines_of bits base lines h.items) in
      let before = lines_of bits base lines s.items in (
        now,
        (
          sees,
          record {
            items = s.items ++ h.items;
            sweep = (h.rest, sweeps_join bits base 0 at now s.items (drop at now) h.items h.rest sweeps_now place h.sweeps);
            all = All-append (LineGoesOn lines) s.items h.items s.all h.all;
            may = may_handle ended h.items h.ready last_pull;
            written = (
              length before + h.written.0,
              h.written.1
                  ∙ (ap (λ (o : Option (List ℕ)). with_back o part) s.written
                  ∙ (join.with_back-append held before part
                  ∙ ap (with_back held) (sym (take-append-add before (lines_of bits base lines h.items) h.written.0) ∙ ap (take (length before + h.written.0)) (sym (lines_join bits base lines s.items h.items))))),
            );
          },
        ),
      )

  module _ (ended : Bool) (held'' : Option (List ℕ)) (handled : Handled) (h : HandlesItems bits base lines at (drop at now) ended held' held'' handled) where
    joined : Sweeps bits base 0 now (s.items ++ h.items) (drop handled.used (drop at now))
    joined = sweeps_join bits base 0 at now s.items (drop at now) h.items (drop handled.used (drop at now)) sweeps_now place h.sweeps

    all_joined : All (LineGoesOn lines) (s.items ++ h.items)
    all_joined = All-append (LineGoesOn lines) s.items h.items s.all h.all

    ready_joined : ended ≡ false → All (IsReady (length now)) (s.items ++ h.items)
    ready_joined e =
        All-append (IsReady (length now)) s.items h.items ready_now
        (all_ready (at + length (drop at now)) (length now) h.items (omega (arith, place)) (h.ready e))

    written_joined : held'' ≡ with_back held (lines_of bits base lines (s.items ++ h.items))
    written_joined =
        h.written
        ∙ (ap (λ (o : Option (List ℕ)). with_back o (lines_of bits base lines h.items)) s.written
        ∙ (join.with_back-append held (lines_of bits base lines s.items) (lines_of bits base lines h.items)
        ∙ ap (with_back held) (sym (lines_join bits base lines s.items h.items))))

    count_joined : count + handled.count ≡ length (s.items ++ h.items)
    count_joined = omega (arith, s.count_is, h.count_is, length-append s.items h.items)

    -- **the input was handled to its end**
    pub at_end_of_input : n ≡ 0 → ended ≡ true → handled.stop ≡ None →
        (bytes : List ℕ) × (ReadsAll code_limit start left' bytes × WritesLines bits base lines bytes (count + handled.count) held held'')
    at_end_of_input none e goes_on =
        let ends : HandlesEnd bits base lines (at + handled.used) (drop handled.used (drop at now)) ended None =
        subst (HandlesEnd bits base lines (at + handled.used) (drop handled.used (drop at now)) ended) goes_on h.ends in (
          now,
          (
            reads_all none,
            record {
              items = s.items ++ h.items;
              sweep = subst (Sweeps bits base 0 now (s.items ++ h.items)) (ends.1 e) joined;
              all = all_joined;
              count_is = count_joined;
              written = written_joined;
            },
          ),
        )

    -- **there is a byte past the limit**
    pub past_limit : end < len + n → ended ≡ false → handled.stop ≡ None →
        (bytes : List ℕ) × (ReadsTooMany code_limit start left' bytes × WritesHandled bits base lines (take code_limit bytes) held held'')
    past_limit over e goes_on =
        let ends : HandlesEnd bits base lines (at + handled.used) (drop handled.used (drop at now)) ended None =
        subst (HandlesEnd bits base lines (at + handled.used) (drop handled.used (drop at now)) ended) goes_on h.ends in
        let written : WritesHandled bits base lines now held held'' = record {
          items = s.items ++ h.items;
          handled = record { rest = drop handled.used (drop at now); sweeps = joined; ready = ready_joined e; short = ends.0 };
          all = all_joined;
          written = written_joined;
        } in (
          taken,
          (
            record {
              read = all_taken;
              over = omega (arith, length-append s.seen f.piece, f.count_is, f.within, room_is, s.reaches, s.few, end_is);
            },
            subst (λ xs. WritesHandled bits base lines xs held held'') now_is written,
          ),
        )

    -- **there is bad code**
    pub at_bad_code : (error : DecodeError) → handled.stop ≡ Some error → (ended ≡ true → n ≡ 0) →
        (seen : List ℕ) × (Sees start left' seen
        × (MayHandle start left' seen (at + handled.used) × WritesLinesBefore bits base lines seen (at + handled.used) error held held''))
    at_bad_code error stops last_pull =
        let rest : List ℕ = drop handled.used (drop at now) in
        let ends : HandlesEnd bits base lines (at + handled.used) rest ended (Some error) =
        subst (HandlesEnd bits base lines (at + handled.used) rest ended) stops h.ends in
        let last : Item = ends.0 in
        let one : Sweeps bits base (at + handled.used) rest (last ∷ []) (drop (item_len last.reading) rest) = (ends.1.0, refl) in
        let within = h.within in
        let here : 0 + length now ≡ at + handled.used + length rest = omega (arith, place, length-drop handled.used (drop at now)) in
        let swept =
        sweeps_join bits base 0 (at + handled.used) now (s.items ++ h.items) rest (last ∷ []) (drop (item_len last.reading) rest) joined here one in
        let may : MayHandle start left' now (at + handled.used) =
        elim ends.1.1.1 [ inl long ↦ inl (omega (arith, here)) | inr e ↦ inr (reads_all (last_pull e)) ] in (
          now,
          (
            sees,
            (
              may,
              record {
                items = s.items ++ h.items;
                last = last;
                sweep = (drop (item_len last.reading) rest, swept);
                all = all_joined;
                offset_is = ends.1.0.offset_is;
                stops = ends.1.1.0;
                written = written_joined;
              },
            ),
          ),
        )

    -- **the next pull**
    pub streamed_next : (window'' : List ℕ) → len + n ≤ end → ended ≡ false → handled.stop ≡ None →
        take (end - handled.used) window'' ≡ drop handled.used (take end window') →
        Streamed bits base lines start left' held held'' (at + handled.used) (end - handled.used) (count + handled.count) window''
    streamed_next window'' whole e goes_on kept =
        let ends : HandlesEnd bits base lines (at + handled.used) (drop handled.used (drop at now)) ended None =
        subst (HandlesEnd bits base lines (at + handled.used) (drop handled.used (drop at now)) ended) goes_on h.ends in
        let within = h.within in
        let rest : drop handled.used (drop at now) ≡ drop (at + handled.used) now = drop-drop handled.used at now in
        let same : now ≡ taken =
        ap (λ xs. s.seen ++ xs) (take_all (code_limit - length s.seen) f.piece (omega (arith, f.count_is, s.reaches, s.few, end_is))) in
        record {
          seen = now;
          items = s.items ++ h.items;
          read = all_taken ∙ ap (λ xs. with_front xs left') (sym same);
          few = omega (arith, length_now, fills_few);
          reaches = omega (arith, length_now, length-drop at now);
          front = kept ∙ (ap (drop handled.used) window_is ∙ rest);
          sweeps = subst (Sweeps bits base 0 now (s.items ++ h.items)) rest joined;
          ready = ready_joined e;
          all = all_joined;
          short = omega (arith, ends.0, length-drop handled.used (drop at now), length-drop at now, length_now);
          count_is = count_joined;
          written = written_joined;
        }
