-- Going through some bytes, and writing the struct of each item.
use Rattle.std.proofs.Common.{◌≡◌, ℕ, suc, ◌+◌, ◌*◌, ◌<◌, ◌≤◌, List, [], ◌∷◌, ◌++◌, length, get_or, drop, set, refl, sym, ap, ◌∙◌, subst, arith, add-one, length-append, append_assoc}
use Rattle.std.proofs.lemmas.List.{append-nil, map-append, length-map}
use Rattle.std.proofs.Math.Seq.{set-append_seam, drop-cons}
use Rattle.std.specs.Prelude.{Result, Ok, Err, IfOk}
use Rattle.x86_values.specs.declared.Bits.{Bits}
use Rattle.x86_values.specs.declared.Decoded.{Decoded}
use Rattle.decoder.specs.declared.DecodeError.{DecodeError}
use Rattle.decoder.specs.declared.DecodeError.TheVariants.{Invalid as InvalidError, TooShort as TooShortError}
use Rattle.decoder.specs.Answer.{reading_of}
use Rattle.row_relation.specs.Spells.{Reading}
use Rattle.opcode_rows.specs.Sweep.{Item, IsReadAt, Sweeps, item_len}
use Rattle.sweep.specs.SweepText.Sweeping.{TakesSome, SweptTo, item_read}
use Rattle.sweep.specs.SweepText.Facts.{SweptFacts}
use Rattle.c_calls.specs.declared.flat.FlatInstr.{FlatInstr}
use Rattle.c_calls.specs.Many.{flat_reading, structs_of, most_items, IsManyIn}

-- the way has come to an offset, and the room begins with the structs of the items so far
pub record WrittenTo (bits : Bits) (ip : ℕ) (bytes : List ℕ) (at count : ℕ) (old now : List FlatInstr) : Type 0 where
  pub items : List Item
  pub swept : SweptTo bits ip bytes at items
  pub count_is : count ≡ length items
  pub short : at ≤ 15 * count
  pub room : count ≤ most_items (length old)
  pub structs : now ≡ structs_of items ++ drop count old

-- one more struct behind others
one_struct : (items : List Item) (item : Item) (old : List FlatInstr) (count : ℕ) → count ≡ length items → count < length old →
    set (structs_of items ++ drop count old) count (flat_reading item.reading) ≡ structs_of (items ++ item ∷ []) ++ drop (count + 1) old
one_struct items item old count e lt =
    let struct : Item → FlatInstr = λ i. flat_reading i.reading in
    let front = structs_of items in
    let d = struct item in
    let rest = drop (count + 1) old in
    let count_is : count ≡ length front = e ∙ sym (length-map items struct) in
    ap (λ (xs : List FlatInstr). set (front ++ xs) count d) (drop-cons old count d lt)
    ∙ (ap (λ (n : ℕ). set (front ++ get_or old count d ∷ drop (suc count) old) n d) count_is
    ∙ (set-append_seam front (get_or old count d) (drop (suc count) old) d
    ∙ (ap (λ (n : ℕ). front ++ d ∷ drop n old) (sym (add-one count))
    ∙ (sym (append_assoc front (d ∷ []) rest)
    ∙ ap (λ (xs : List FlatInstr). xs ++ rest) (sym (map-append struct items (item ∷ [])))))))

-- an item takes at most 15 bytes
pub takes_few : (r : Result Decoded DecodeError) (n : ℕ) → IfOk r (λ d. (0 < d.len) × (d.len ≤ 15) × (d.len ≤ n)) → item_len (reading_of r) ≤ 15
takes_few (Ok d) n h = h.1
takes_few (Err TooShortError) n h = omega arith
takes_few (Err InvalidError) n h = omega arith

module _ (turn : SweptFacts) where
  -- before the first item nothing is written
  pub written-start : (bits : Bits) (ip : ℕ) (bytes : List ℕ) (old : List FlatInstr) → WrittenTo bits ip bytes 0 0 old old
  written-start bits ip bytes old = record {
    items = [];
    swept = turn.swept-start bits ip bytes;
    count_is = refl;
    short = omega arith;
    room = omega arith;
    structs = refl;
  }

  -- writing one more item keeps what is known
  pub written-step : (bits : Bits) (ip : ℕ) (bytes : List ℕ) (at count : ℕ) (old now now' : List FlatInstr) (reading : Reading) →
      WrittenTo bits ip bytes at count old now → count < most_items (length old) → IsReadAt bits ip at (drop at bytes) reading →
      TakesSome reading (length (drop at bytes)) → item_len reading ≤ 15 → now' ≡ set now count (flat_reading reading) →
      WrittenTo bits ip bytes (at + item_len reading) (count + 1) old now'
  written-step bits ip bytes at count old now now' reading w lt reads takes few e =
      let item = item_read at (drop at bytes) reading in
      record {
        items = w.items ++ item ∷ [];
        swept = turn.swept-step bits ip at bytes w.items reading w.swept reads takes;
        count_is = omega (arith, w.count_is, length-append w.items (item ∷ []));
        short = omega (arith, w.short, few);
        room = omega (arith, lt);
        structs = e ∙ (ap (λ (xs : List FlatInstr). set xs count (flat_reading reading)) w.structs
            ∙ one_struct w.items item old count w.count_is (omega (arith, lt)));
      }

  -- at the end of the bytes or of the buffer the call has its answer
  pub written-end : (bits : Bits) (ip : ℕ) (bytes : List ℕ) (at count : ℕ) (old now : List FlatInstr) → WrittenTo bits ip bytes at count old now →
      (count < most_items (length old) → length bytes ≤ at) → IsManyIn bits ip bytes old now count at
  written-end bits ip bytes at count old now w ends =
      let S : List Item → Type 0 = λ xs. Sweeps bits ip 0 bytes xs (drop at bytes) in
      let D : ℕ → List FlatInstr = λ n. structs_of w.items ++ drop n old in
      record {
        items = w.items;
        first = record {
          sweeps = subst S (append-nil w.items) (w.swept.go_on [] (drop at bytes) refl);
          within = w.swept.within;
          few = omega (arith, w.count_is, w.room);
          all = λ lt. let end = ends (omega (arith, w.count_is, lt)) in omega (arith, end, w.swept.within);
        };
        count_is = w.count_is;
        structs_are = w.structs ∙ ap D w.count_is;
      }
