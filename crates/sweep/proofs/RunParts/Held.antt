-- How far a text has come that is written with some of it held back: it went to the sink or is held back.
use Rattle.std.proofs.Common.{◌≡◌, ℕ, ◌+◌, List, [], ◌++◌, length, take, drop, Option, sym, ap, ◌∙◌, append_assoc}
use Rattle.std.proofs.lemmas.List.{take-append-drop}
use Rattle.std.proofs.Math.Seq.{take-append-add, take-append_seam}
use Rattle.byte_ports.specs.Ports.{with_back}
use Rattle.sweep.specs.RunParts.Writing.{HoldsFront, Moves, HeldText}
use Rattle.sweep.proofs.RunParts.Appending.{with_back-nil, with_back-append}

-- nothing yet
pub held-start : (start : Option (List ℕ)) (pending : List ℕ) → pending ≡ [] → HeldText start start pending []
held-start start pending empty = record { written = []; held_is = sym (with_back-nil start); joined = empty }

-- one more line
pub held-step : (start held held' : Option (List ℕ)) (before after text line : List ℕ) →
    HeldText start held before text → Moves held held' before after line → HeldText start held' after (text ++ line)
held-step start held held' before after text line h moves = record {
  written = h.written ++ moves.written;
  held_is = moves.held_is ∙ (ap (λ (x : Option (List ℕ)). with_back x moves.written) h.held_is ∙ with_back-append start h.written moves.written);
  joined =
      append_assoc h.written moves.written after
      ∙ (ap (λ (xs : List ℕ). h.written ++ xs) moves.joined
      ∙ (sym (append_assoc h.written before line)
      ∙ ap (λ (xs : List ℕ). xs ++ line) h.joined));
}

-- what was held back is written: the whole text
pub held-end : (start held held' : Option (List ℕ)) (pending text : List ℕ) → HeldText start held pending text →
    held' ≡ with_back held pending → held' ≡ with_back start text
held-end start held held' pending text h all =
    all
    ∙ (ap (λ (x : Option (List ℕ)). with_back x pending) h.held_is
    ∙ (with_back-append start h.written pending ∙ ap (with_back start) h.joined))

-- a failure while text is held back
pub held-failed : (start held held' : Option (List ℕ)) (pending text : List ℕ) → HeldText start held pending text →
    HoldsFront held held' pending → HoldsFront start held' text
held-failed start held held' pending text h front =
    let part = take front.0 pending in (
      length h.written + front.0,
      front.1
          ∙ (ap (λ (x : Option (List ℕ)). with_back x part) h.held_is
          ∙ (with_back-append start h.written part
          ∙ ap (with_back start) (sym (take-append-add h.written pending front.0) ∙ ap (take (length h.written + front.0)) h.joined))),
    )

-- the first bytes of a text are the first of a longer one
pub front-longer : (old new : Option (List ℕ)) (text rest : List ℕ) → HoldsFront old new text → HoldsFront old new (text ++ rest)
front-longer old new text rest front =
    let part = take front.0 text in
    let back = drop front.0 text ++ rest in
    let whole : part ++ back ≡ text ++ rest
    = sym (append_assoc part (drop front.0 text) rest) ∙ ap (λ (xs : List ℕ). xs ++ rest) (take-append-drop front.0 text) in
    (length part, front.1 ∙ ap (with_back old) (sym (take-append_seam part back) ∙ ap (take (length part)) whole))
