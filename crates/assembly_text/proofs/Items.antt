-- The items of a line of data.
use Rattle.std.proofs.Common.{◌≡◌, ℕ, suc, ◌+◌, ◌-◌, ◌/◌, ◌%◌, ◌<◌, ◌≤◌, Bool, true, false, List, [], ◌∷◌, ◌++◌, length, take, drop, Option, Some, None, refl, sym, ap, add-one, ◌∙◌, arith, append_assoc, append-nil}
use Rattle.std.specs.Prelude.{◌==◌, ◌&&◌}
use Rattle.std.proofs.lemmas.List.{drop-drop}
use Rattle.assembly_text.specs.Lines.{with_byte_in_front, quote_behind, trimmed}
use Rattle.assembly_text.specs.Data.{items_in, item_len, low_bytes, item_bytes, bytes_of, both, data_of, IsPut}

-- ---- the first item

-- an item with a comma behind it, by its first byte
more_at : (b : Bool) (q c : ℕ) (cs : List ℕ) → (q == 0 && c == 44) ≡ b
    → (item_len (quote_behind q c) cs < length cs → items_in (quote_behind q c) cs ≡ take (item_len (quote_behind q c) cs) cs ∷ items_in 0 (drop (suc (item_len (quote_behind q c) cs)) cs))
    → item_len q (c ∷ cs) < length (c ∷ cs) → items_in q (c ∷ cs) ≡ take (item_len q (c ∷ cs)) (c ∷ cs) ∷ items_in 0 (drop (suc (item_len q (c ∷ cs))) (c ∷ cs))
unfolding items_in item_len with_byte_in_front
more_at true q c cs e ih lt = rw e refl
more_at false q c cs e ih lt =
    let less : suc (item_len (quote_behind q c) cs) < suc (length cs) = rw e at lt in
    rw (e, ih (omega arith)) refl

-- an item with a comma behind it
pub items_more : (q : ℕ) (text : List ℕ) → item_len q text < length text
    → items_in q text ≡ take (item_len q text) text ∷ items_in 0 (drop (suc (item_len q text)) text)
unfolding item_len
items_more q [] lt = absurd (omega arith)
items_more q (c ∷ cs) lt = more_at (q == 0 && c == 44) q c cs refl (items_more (quote_behind q c) cs) lt

-- the last item, by its first byte
last_at : (b : Bool) (q c : ℕ) (cs : List ℕ) → (q == 0 && c == 44) ≡ b
    → (length cs ≤ item_len (quote_behind q c) cs → items_in (quote_behind q c) cs ≡ take (item_len (quote_behind q c) cs) cs ∷ [])
    → length (c ∷ cs) ≤ item_len q (c ∷ cs) → items_in q (c ∷ cs) ≡ take (item_len q (c ∷ cs)) (c ∷ cs) ∷ []
unfolding items_in item_len with_byte_in_front
last_at true q c cs e ih le = let none : suc (length cs) ≤ 0 = rw e at le in absurd (omega arith)
last_at false q c cs e ih le =
    let less : suc (length cs) ≤ suc (item_len (quote_behind q c) cs) = rw e at le in
    rw (e, ih (omega arith)) refl

-- the last item
pub items_last : (q : ℕ) (text : List ℕ) → length text ≤ item_len q text → items_in q text ≡ take (item_len q text) text ∷ []
unfolding items_in item_len
items_last q [] le = refl
items_last q (c ∷ cs) le = last_at (q == 0 && c == 44) q c cs refl (items_last (quote_behind q c) cs) le

-- a text that is cut behind its first item
pub cut_item : (text item rest more : List ℕ) (n : ℕ) → n ≡ item_len 0 text → n < length text → item ≡ take n text → rest ≡ drop n text
    → more ≡ drop 1 rest → items_in 0 text ≡ item ∷ items_in 0 more
cut_item text item rest more n is lt item_is rest_is more_is =
    let joint : more ≡ drop (suc n) text = more_is ∙ (ap (λ (xs : List ℕ). drop 1 xs) rest_is ∙ (drop-drop 1 n text ∙ ap (λ (k : ℕ). drop k text) (add-one n))) in
    let less : item_len 0 text < length text = omega arith in
    rw (item_is, joint, is) (items_more 0 text less)

-- and one that is not
pub cut_last : (text item : List ℕ) (n : ℕ) → n ≡ item_len 0 text → length text ≤ n → item ≡ take n text → items_in 0 text ≡ item ∷ []
cut_last text item n is le item_is =
    let whole : length text ≤ item_len 0 text = omega arith in
    rw (item_is, is) (items_last 0 text whole)

-- ---- numbers

-- one byte more of a number
pub byte_more : (out : List ℕ) (count k n : ℕ) → k < count
    → (out ++ n % 256 ∷ []) ++ low_bytes (count - (k + 1)) (n / 256) ≡ out ++ low_bytes (count - k) n
unfolding low_bytes
byte_more out count k n lt =
    let e : count - k ≡ suc (count - (k + 1)) = omega arith in
    rw e (append_assoc out (n % 256 ∷ []) (low_bytes (count - (k + 1)) (n / 256)))

-- all bytes of it
pub bytes_end : (out : List ℕ) (count k n : ℕ) → count ≤ k → out ++ low_bytes (count - k) n ≡ out
unfolding low_bytes
bytes_end out count k n le = let e : count - k ≡ 0 = omega arith in rw e (append-nil out)

-- ---- one item more

-- The bytes of the first items of a text are put, and the others are still to come.
pub record ArePut (count : ℕ) (text rest old new : List ℕ) : Type 0 where
  pub done : List ℕ
  pub are : new ≡ old ++ done
  pub same : data_of count text ≡ both (Some done) (data_of count rest)

-- nothing in front
none_before : (o : Option (List ℕ)) → o ≡ both (Some []) o
unfolding both
none_before None = refl
none_before (Some bytes) = refl

-- none of them
pub put_none : (count : ℕ) (text old : List ℕ) → ArePut count text text old old
put_none count text old = record {
  done = [];
  are = sym (append-nil old);
  same = none_before (data_of count text);
}

-- what is in front, in two parts
both_parts : (done b : List ℕ) (o : Option (List ℕ)) → both (Some done) (both (Some b) o) ≡ both (Some (done ++ b)) o
unfolding both
both_parts done b None = refl
both_parts done b (Some bytes) = ap (λ (x : List ℕ). Some x) (sym (append_assoc done b bytes))

-- what was put
was_put : (o : Option (List ℕ)) (mid new : List ℕ) → IsPut true o mid new → (b : List ℕ) × ((o ≡ Some b) × (new ≡ mid ++ b))
was_put None mid new h = absurd h
was_put (Some b) mid new h = (b, (refl, h))

-- nothing was put
was_none : (o : Option (List ℕ)) (mid new : List ℕ) → IsPut false o mid new → o ≡ None
was_none None mid new h = refl
was_none (Some b) mid new h = absurd h

module _ (count : ℕ) (text rest item old mid new : List ℕ) (h : ArePut count text rest old mid) where
  -- one more, whose bytes are known
  more_known : (more b : List ℕ) → items_in 0 rest ≡ item ∷ items_in 0 more → item_bytes count (trimmed item) ≡ Some b → new ≡ mid ++ b
      → ArePut count text more old new
  unfolding bytes_of
  more_known more b cut is put =
      let parts : data_of count rest ≡ both (Some b) (data_of count more) = rw (cut, is) refl in
      record {
        done = h.done ++ b;
        are = put ∙ (ap (λ (x : List ℕ). x ++ b) h.are ∙ append_assoc old h.done b);
        same = h.same ∙ (ap (both (Some h.done)) parts ∙ both_parts h.done b (data_of count more));
      }

  -- one more
  pub put_more : (more : List ℕ) → items_in 0 rest ≡ item ∷ items_in 0 more → IsPut true (item_bytes count (trimmed item)) mid new
      → ArePut count text more old new
  put_more more cut put = let was = was_put (item_bytes count (trimmed item)) mid new put in more_known more was.0 cut was.1.0 was.1.1

  -- the last, whose bytes are known
  last_known : (b : List ℕ) → items_in 0 rest ≡ item ∷ [] → item_bytes count (trimmed item) ≡ Some b → new ≡ mid ++ b
      → IsPut true (data_of count text) old new
  unfolding bytes_of both
  last_known b cut is put =
      let parts : data_of count rest ≡ Some (b ++ []) = rw (cut, is) refl in
      let all : data_of count text ≡ Some (h.done ++ (b ++ [])) = h.same ∙ ap (both (Some h.done)) parts in
      let are : new ≡ old ++ (h.done ++ (b ++ [])) =
      put ∙ (ap (λ (x : List ℕ). x ++ b) h.are ∙ (append_assoc old h.done b ∙ ap (λ (x : List ℕ). old ++ (h.done ++ x)) (sym (append-nil b)))) in
      rw all are

  -- the last
  pub put_last : items_in 0 rest ≡ item ∷ [] → IsPut true (item_bytes count (trimmed item)) mid new → IsPut true (data_of count text) old new
  put_last cut put = let was = was_put (item_bytes count (trimmed item)) mid new put in last_known was.0 cut was.1.0 was.1.1

  -- one that is none
  pub put_bad : (items : List (List ℕ)) → items_in 0 rest ≡ item ∷ items → IsPut false (item_bytes count (trimmed item)) mid new
      → IsPut false (data_of count text) old new
  unfolding bytes_of both
  put_bad items cut put =
      let none = was_none (item_bytes count (trimmed item)) mid new put in
      let parts : data_of count rest ≡ None = rw (cut, none) refl in
      let all : data_of count text ≡ None = h.same ∙ ap (both (Some h.done)) parts in
      rw all tt
