-- A text that was written whole, or up to a fault.
use Rattle.std.proofs.Common.{◌≡◌, ℕ, List, length, Option, Result, Ok, Err, OnOk, OnErr, refl, arith, ap, sym, ◌∙◌, inl, inr}
use Rattle.std.proofs.Math.Seq.{take-length}
use Rattle.byte_ports.specs.Ports.{Rose, HasCause, with_back}
use Rattle.sweep.specs.RunParts.Writing.{HoldsFront, Says}

-- what an error output holds after a text was put
pub says : {E : Type 0} (old new : Option (List ℕ)) (text : List ℕ) (before after : ℕ) (r : Result (Unit {0}) E) →
    OnOk r (new ≡ with_back old text) → OnErr r (HoldsFront old new text) → HasCause before after r →
    Says old new text (Rose before after)
says old new text before after (Ok x) whole front cause = record {
  count = length text;
  held_is = whole ∙ ap (with_back old) (sym (take-length text));
  whole = inl (omega arith);
}
says old new text before after (Err e) whole front cause = record {
  count = front.0;
  held_is = front.1;
  whole = inr (cause.failed refl);
}
