-- Bytes appended piece by piece.
use Rattle.std.proofs.Common.{◌≡◌, ℕ, ◌+◌, Bool, true, false, List, [], ◌∷◌, ◌++◌, length, Option, Some, None, Result, Ok, Err, is_some, refl, sym, ap, subst, ◌∙◌}
use Rattle.std.proofs.lemmas.List.{append-nil, append_assoc}
use Rattle.arrayvec.specs.ArrayVec.{ArrayVec}
use Rattle.x86_values.specs.declared.Bits.{Bits}
use Rattle.x86_values.specs.declared.Instr.{Instr}
use Rattle.x86_values.specs.Wrapping.{modulo_width}
use Rattle.plain_spelling.specs.declared.NoSpelling.{NoSpelling}
use Rattle.encoder.specs.Encoding.{encoding, answer_bytes}
use Rattle.block_encoder.specs.Bytes.{in_front, bytes_from}
use Rattle.block_encoder.specs.Written.{IsPieceAppended, AreAppended}

-- an encoding rests on the address of the mode alone
encoding_wraps : ((b : Bits) (x : ℕ) → modulo_width b (modulo_width b x) ≡ modulo_width b x) → (bits : Bits) (at : ℕ) (i : Instr) → encoding bits (modulo_width bits at) i ≡ encoding bits at i
unfolding encoding
encoding_wraps twice bits at i = rw (twice bits at) refl

-- what was written at the wrapped address is the encoding at the address
pub written_at : ((b : Bits) (x : ℕ) → modulo_width b (modulo_width b x) ≡ modulo_width b x) → (bits : Bits) (at ip : ℕ) (i : Instr) (r : Result (ArrayVec ℕ) NoSpelling) → ip ≡ modulo_width bits at
    → answer_bytes r ≡ encoding bits ip i → answer_bytes r ≡ encoding bits at i
written_at twice bits at ip i r e w = w ∙ (ap (λ (n : ℕ). encoding bits n i) e ∙ encoding_wraps twice bits at i)

-- an encoded piece is put behind the bytes
pub piece_ok : (e : Result (List ℕ) NoSpelling) (piece old new : List ℕ) (at n : ℕ) → Ok piece ≡ e → new ≡ old ++ piece
    → n ≡ length piece → IsPieceAppended e at old new (Some (at + n))
piece_ok e piece old new at n h w l =
    subst (λ x. IsPieceAppended x at old new (Some (at + n))) h (w, ap (λ (m : ℕ). Some (at + m)) l)

-- a piece without an encoding leaves them
pub piece_err : (e : Result (List ℕ) NoSpelling) (why : NoSpelling) (old new : List ℕ) (at : ℕ) → Err why ≡ e
    → IsPieceAppended e at old new None
piece_err e why old new at h = subst (λ x. IsPieceAppended x at old new None) h refl

-- bytes behind a piece
behind_piece : (piece old mid new : List ℕ) (r : Option (List ℕ)) (done : Bool) → mid ≡ old ++ piece → AreAppended r mid new done
    → AreAppended (in_front piece r) old new done
behind_piece piece old mid new None done m h = h
behind_piece piece old mid new (Some more) done m (d, w) = (d, (w ∙ ap (λ xs. xs ++ more) m) ∙ append_assoc old piece more)

more_by : (e : Result (List ℕ) NoSpelling) (at n : ℕ) (old mid new : List ℕ) (rest : ℕ → Option (List ℕ)) (done : Bool)
    → IsPieceAppended e at old mid (Some n) → AreAppended (rest n) mid new done
    → AreAppended (elim e [ Ok bytes ↦ in_front bytes (rest (at + length bytes)) | Err why ↦ None ]) old new done
more_by (Ok piece) at n old mid new rest done (m, e) h =
    let same : n ≡ at + length piece = cc in
    behind_piece piece old mid new (rest (at + length piece)) done m (subst (λ k. AreAppended (rest k) mid new done) same h)
more_by (Err why) at n old mid new rest done e h = absurd (cc)

none_by : (e : Result (List ℕ) NoSpelling) (at : ℕ) (old mid new : List ℕ) (rest : ℕ → Option (List ℕ))
    → IsPieceAppended e at old mid None
    → AreAppended (elim e [ Ok bytes ↦ in_front bytes (rest (at + length bytes)) | Err why ↦ None ]) old new false
none_by (Ok piece) at old mid new rest (m, e) = absurd (cc)
none_by (Err why) at old mid new rest e = refl

-- a piece and those behind it
pub more_pieces : (bits : Bits) (at n : ℕ) (i : Instr) (is : List Instr) (old mid new : List ℕ) (next : Option ℕ) (done : Bool)
    → next ≡ Some n → IsPieceAppended (encoding bits at i) at old mid next → AreAppended (bytes_from bits n is) mid new done
    → AreAppended (bytes_from bits at (i ∷ is)) old new done
unfolding bytes_from
more_pieces bits at n i is old mid new next done e h more =
    more_by (encoding bits at i) at n old mid new (λ k. bytes_from bits k is) done
    (subst (λ x. IsPieceAppended (encoding bits at i) at old mid x) e h) more

-- a piece that is none
pub no_piece : (bits : Bits) (at : ℕ) (i : Instr) (is : List Instr) (old mid new : List ℕ) (next : Option ℕ)
    → next ≡ None → IsPieceAppended (encoding bits at i) at old mid next
    → AreAppended (bytes_from bits at (i ∷ is)) old new false
unfolding bytes_from
no_piece bits at i is old mid new next e h =
    none_by (encoding bits at i) at old mid new (λ k. bytes_from bits k is)
    (subst (λ x. IsPieceAppended (encoding bits at i) at old mid x) e h)

no_more : (bits : Bits) (at : ℕ) (bytes : List ℕ) → AreAppended (bytes_from bits at []) bytes bytes true
unfolding bytes_from
no_more bits at bytes = (refl, sym (append-nil bytes))

-- the last piece
pub last_piece : (bits : Bits) (at : ℕ) (i : Instr) (old new : List ℕ) (next : Option ℕ) (done : Bool)
    → IsPieceAppended (encoding bits at i) at old new next → done ≡ is_some next
    → AreAppended (bytes_from bits at (i ∷ [])) old new done
last_piece bits at i old new None done h e =
    subst (λ b. AreAppended (bytes_from bits at (i ∷ [])) old new b) (sym e) (no_piece bits at i [] old new new None refl h)
last_piece bits at i old new (Some n) done h e =
    subst (λ b. AreAppended (bytes_from bits at (i ∷ [])) old new b) (sym e)
    (more_pieces bits at n i [] old new new (Some n) true refl h (no_more bits n new))

-- an instruction that is its own image
pub own_piece : (bits : Bits) (at : ℕ) (i : Instr) (image : List Instr) (old new : List ℕ) (next : Option ℕ) (done : Bool)
    → image ≡ i ∷ [] → IsPieceAppended (encoding bits at i) at old new next → done ≡ is_some next
    → AreAppended (bytes_from bits at image) old new done
own_piece bits at i image old new next done own h e =
    subst (λ is. AreAppended (bytes_from bits at is) old new done) (sym own) (last_piece bits at i old new next done h e)
