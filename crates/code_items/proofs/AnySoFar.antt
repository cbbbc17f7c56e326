-- The instructions that are read or measured one behind the other.
use Rattle.std.proofs.Common.{◌≡◌, ℕ, ◌+◌, ◌<◌, ◌≤◌, List, [], ◌∷◌, ◌++◌, length, drop, refl, sym, ap, ◌∙◌, subst, arith, length-drop, drop-drop}
use Rattle.std.specs.Prelude.{map, Err}
use Rattle.std.proofs.lemmas.List.{map-append, drop_all}
use Rattle.x86_values.specs.declared.Bits.{Bits}
use Rattle.x86_values.specs.Wrapping.{modulo_width}
use Rattle.row_relation.specs.Spells.{Read, IsReading}
use Rattle.opcode_rows.specs.Table.{table}
use Rattle.decoder.specs.declared.DecodeError.{DecodeError}
use Rattle.decoder.specs.Answer.{reading_of}
use Rattle.code_items.specs.declared.any_items.AnyItem.{AnyItem}
use Rattle.code_items.specs.declared.any_items.AnyItem.TheVariants.{Listed, Unlisted}
use Rattle.code_items.specs.Items.{decoded_of}
use Rattle.code_items.specs.AnyItems.{item_ip, item_len, AnyFirst, HasNone, AnyUpTo, StopsAtAny, HasAnyItems, wrapped_any}
use Rattle.code_items.proofs.ReadSoFar.{WrapsOnce}

-- ---- one instruction

-- an instruction has a byte, and no more than there are
pub record HasBytes (n len : ℕ) : Type 0 where
  pub some : 1 ≤ n
  pub few : n ≤ 15
  pub within : n ≤ len

-- an instruction takes 1 to 15 of the bytes
pub first-bytes : (bits : Bits) (ip : ℕ) (bytes : List ℕ) (x : AnyItem) → AnyFirst bits ip bytes x → HasBytes (item_len x) (length bytes)
first-bytes bits ip bytes (Listed p) h = record { some = h.some; few = h.few; within = h.within }
first-bytes bits ip bytes (Unlisted u) h = record { some = h.some; few = h.few; within = h.within }

-- an instruction at the front stands at the address
pub first-ip : (bits : Bits) (ip : ℕ) (bytes : List ℕ) (x : AnyItem) → AnyFirst bits ip bytes x → item_ip x ≡ ip
first-ip bits ip bytes (Listed p) h = h.address
first-ip bits ip bytes (Unlisted u) h = h.address

-- the same with another address
abbrev pub at_address : ℕ → AnyItem → AnyItem
at_address n (Listed p) = Listed (record p { ip = n })
at_address n (Unlisted u) = Unlisted (record u { ip = n })

at_address-len : (n : ℕ) (x : AnyItem) → item_len (at_address n x) ≡ item_len x
at_address-len n (Listed p) = refl
at_address-len n (Unlisted u) = refl

-- what stands at an address that wraps stands at the one that does not
unwrapped : WrapsOnce → (bits : Bits) (n a : ℕ) (bytes : List ℕ) (x : AnyItem) → a ≡ modulo_width bits n → AnyFirst bits a bytes x → AnyFirst bits n bytes (at_address n x)
unwrapped once bits n a bytes (Listed p) there h =
    let R : ℕ → Type 0 = λ m. IsReading table bits m bytes (Read (decoded_of p)) in
    record {
      address = refl;
      some = h.some;
      few = h.few;
      within = h.within;
      reads = subst R (ap (modulo_width bits) there ∙ once bits n) h.reads;
    }
unwrapped once bits n a bytes (Unlisted u) there h = record {
  address = refl;
  measured = h.measured;
  some = h.some;
  few = h.few;
  within = h.within;
  inside = h.inside;
  movable = h.movable;
  own = h.own;
}

-- and is it with its address in the mode
wrapped-back : (bits : Bits) (n a : ℕ) (bytes : List ℕ) (x : AnyItem) → a ≡ modulo_width bits n → AnyFirst bits a bytes x → x ≡ wrapped_any bits (at_address n x)
wrapped-back bits n a bytes (Listed p) there h = ap (λ (m : ℕ). Listed (record p { ip = m })) (h.address ∙ there)
wrapped-back bits n a bytes (Unlisted u) there h = ap (λ (m : ℕ). Unlisted (record u { ip = m })) (h.address ∙ there)

-- ---- one more instruction

-- a further instruction extends what was read
one_more : (bits : Bits) (ip : ℕ) (bytes : List ℕ) (items : List AnyItem) (ip' : ℕ) (rest : List ℕ) (x : AnyItem) →
    AnyUpTo bits ip bytes items ip' rest → AnyFirst bits ip' rest x → AnyUpTo bits ip bytes (items ++ x ∷ []) (ip' + item_len x) (drop (item_len x) rest)
one_more bits ip bytes [] ip' rest x h first =
    let S : ℕ → Type 0 = λ n. AnyFirst bits n bytes x in
    let S' : List ℕ → Type 0 = λ xs. AnyFirst bits ip' xs x in
    (subst S h.0 (subst S' h.1 first), (ap (λ (n : ℕ). n + item_len x) h.0, ap (drop (item_len x)) h.1))
one_more bits ip bytes (y ∷ ys) ip' rest x h first = (h.0, one_more bits (ip + item_len y) (drop (item_len y) bytes) ys ip' rest x h.1 first)

-- the first instructions of some code were kept with their addresses in the mode, and its rest stands at this offset
pub record AnySoFar (bits : Bits) (base : ℕ) (bytes : List ℕ) (at : ℕ) (kept : List AnyItem) : Type 0 where
  pub items : List AnyItem
  pub reads : AnyUpTo bits base bytes items (base + at) (drop at bytes)
  pub within : at ≤ length bytes
  pub kept_are : kept ≡ map (wrapped_any bits) items

-- at the start nothing is read
pub so_far-start : (bits : Bits) (base : ℕ) (bytes : List ℕ) (kept : List AnyItem) → kept ≡ [] → AnySoFar bits base bytes 0 kept
so_far-start bits base bytes kept none = record {
  items = [];
  reads = (omega arith, refl);
  within = omega arith;
  kept_are = none;
}

-- an instruction that is read is kept
pub so_far-step : WrapsOnce → (bits : Bits) (base : ℕ) (bytes : List ℕ) (at at' address : ℕ) (kept kept' : List AnyItem) (x : AnyItem) →
    AnySoFar bits base bytes at kept → address ≡ modulo_width bits (base + at) → kept' ≡ kept ++ x ∷ [] → at' ≡ at + item_len x →
    AnyFirst bits address (drop at bytes) x → AnySoFar bits base bytes at' kept'
so_far-step once bits base bytes at at' address kept kept' x far there more_are next first =
    let y = at_address (base + at) x in
    let len : item_len y ≡ item_len x = at_address-len (base + at) x in
    let stands = unwrapped once bits (base + at) address (drop at bytes) x there first in
    let more = one_more bits base bytes far.items (base + at) (drop at bytes) y far.reads stands in
    let size = first-bytes bits address (drop at bytes) x first in
    let behind : base + at + item_len y ≡ base + at' = omega (arith, len, next) in
    let R : ℕ → Type 0 = λ n. AnyUpTo bits base bytes (far.items ++ y ∷ []) n (drop (item_len y) (drop at bytes)) in
    let R' : List ℕ → Type 0 = λ xs. AnyUpTo bits base bytes (far.items ++ y ∷ []) (base + at') xs in
    record {
      items = far.items ++ y ∷ [];
      reads = subst R' (drop-drop (item_len y) at bytes ∙ ap (λ (n : ℕ). drop n bytes) (omega (arith, len, next))) (subst R behind more);
      within = omega (arith, far.within, size.within, length-drop at bytes, next);
      kept_are =
          more_are
          ∙ (ap (λ (xs : List AnyItem). xs ++ x ∷ []) far.kept_are
          ∙ (ap (λ (q : AnyItem). map (wrapped_any bits) far.items ++ q ∷ []) (wrapped-back bits (base + at) address (drop at bytes) x there first)
          ∙ sym (map-append (wrapped_any bits) far.items (y ∷ []))));
    }

-- all bytes were read
pub so_far-all : (bits : Bits) (base : ℕ) (bytes : List ℕ) (at : ℕ) (kept : List AnyItem) → AnySoFar bits base bytes at kept → length bytes ≤ at →
    HasAnyItems bits base bytes kept
so_far-all bits base bytes at kept far over =
    let R : List ℕ → Type 0 = λ xs. AnyUpTo bits base bytes far.items (base + at) xs in
    record {
      items = far.items;
      are = record { end = base + at; reads = subst R (drop_all at bytes over) far.reads };
      items_are = far.kept_are;
    }

-- no instruction is read behind those that were
pub so_far-stops : WrapsOnce → (bits : Bits) (base : ℕ) (bytes : List ℕ) (at address : ℕ) (kept : List AnyItem) (e : DecodeError) →
    AnySoFar bits base bytes at kept → address ≡ modulo_width bits (base + at) → at < length bytes → HasNone bits address (drop at bytes) e →
    StopsAtAny bits base bytes at e
so_far-stops once bits base bytes at address kept e far there more none =
    let R : ℕ → Type 0 = λ n. IsReading table bits n (drop at bytes) (reading_of (Err e)) in
    record {
      items = far.items;
      rest = drop at bytes;
      before = far.reads;
      some = omega (arith, length-drop at bytes);
      none = record {
        unread = subst R (ap (modulo_width bits) there ∙ once bits (base + at)) none.unread;
        unlisted = none.unlisted;
      };
    }
