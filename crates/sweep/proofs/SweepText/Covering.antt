-- All code has a sweep: each of its offsets has an item, and each item takes some of the bytes.
use Rattle.std.proofs.Common.{◌≡◌, ℕ, ◌+◌, ◌<◌, ◌≤◌, List, [], ◌∷◌, ◌++◌, length, drop, Some, Result, Ok, Err, IfOk, refl, sym, subst, arith, append_assoc, append-nil, length-drop, drop-drop, drop_of_length-le}
use Rattle.x86_values.specs.declared.Bits.{Bits}
use Rattle.x86_values.specs.declared.Decoded.{Decoded}
use Rattle.row_relation.specs.Spells.{Reading}
use Rattle.decoder.specs.declared.DecodeError.{DecodeError}
use Rattle.decoder.specs.declared.DecodeError.TheVariants.{Invalid, TooShort}
use Rattle.decoder.specs.Answer.{reading_of}
use Rattle.opcode_rows.specs.Sweep.{Item, IsReadAt, IsItemAt, Sweeps, IsSweep, BeginsSweep, item_len}
use Rattle.sweep.specs.SweepText.Lines.{error_of}
use Rattle.sweep.specs.SweepText.Sweeping.{TakesSome, SweptTo, item_read}

-- an item takes some of the bytes
pub takes_some : (r : Result Decoded DecodeError) (n : ℕ) → IfOk r (λ d. (0 < d.len) × (d.len ≤ 15) × (d.len ≤ n)) → 0 < n → TakesSome (reading_of r) n
takes_some (Ok d) n sized some = record { some = sized.0; within = sized.2 }
takes_some (Err Invalid) n sized some = record { some = omega arith; within = omega arith }
takes_some (Err TooShort) n sized some = record { some = omega arith; within = omega arith }

-- the error of a reading is the decoder's
pub error_is : (e : DecodeError) → error_of (reading_of (Err e)) ≡ Some e
error_is Invalid = refl
error_is TooShort = refl

-- at offset 0 nothing is swept
pub swept-start : (bits : Bits) (base : ℕ) (bytes : List ℕ) → SweptTo bits base bytes 0 []
swept-start bits base bytes = record { within = omega arith; go_on = λ more rest sweeps. sweeps }

-- one more item
pub swept-step : (bits : Bits) (base at : ℕ) (bytes : List ℕ) (items : List Item) (reading : Reading) → SweptTo bits base bytes at items →
    IsReadAt bits base at (drop at bytes) reading → TakesSome reading (length (drop at bytes)) →
    SweptTo bits base bytes (at + item_len reading) (items ++ item_read at (drop at bytes) reading ∷ [])
swept-step bits base at bytes items reading s reads takes =
    let item = item_read at (drop at bytes) reading in
    let is_at : IsItemAt bits base at (drop at bytes) item
    = record { offset_is = refl; reads = reads; within = takes.within; some = takes.some; bytes_are = refl }
    in
    let behind : drop (item_len reading) (drop at bytes) ≡ drop (at + item_len reading) bytes = drop-drop (item_len reading) at bytes in
    let before = s.within in
    let fits = takes.within in
    record {
      within = omega (arith, length-drop at bytes);
      go_on = λ more rest sweeps.
          let S : List ℕ → Type 0 = λ xs. Sweeps bits base (at + item_len reading) xs more rest in
          let T : List Item → Type 0 = λ xs. Sweeps bits base 0 bytes xs rest in
          subst T (sym (append_assoc items (item ∷ []) more)) (s.go_on (item ∷ more) rest (is_at, subst S (sym behind) sweeps));
    }

-- the items so far
pub swept-first : (bits : Bits) (base at : ℕ) (bytes : List ℕ) (items : List Item) → SweptTo bits base bytes at items → BeginsSweep bits base bytes items
swept-first bits base at bytes items s =
    let T : List Item → Type 0 = λ xs. Sweeps bits base 0 bytes xs (drop at bytes) in
    (drop at bytes, subst T (append-nil items) (s.go_on [] (drop at bytes) refl))

-- all items
pub swept-end : (bits : Bits) (base at : ℕ) (bytes : List ℕ) (items : List Item) → SweptTo bits base bytes at items → length bytes ≤ at →
    IsSweep bits base bytes items
swept-end bits base at bytes items s le =
    let T : List Item → Type 0 = λ xs. IsSweep bits base bytes xs in
    subst T (append-nil items) (s.go_on [] [] (drop_of_length-le bytes le))
