-- Answers whose instruction was written where the caller asked.
use Rattle.std.proofs.Common.{IfOk, Option, Some, None, Result, Ok, Err}
use Rattle.std.specs.Prelude.{IfSome}
use Rattle.x86_values.specs.declared.Decoded.{Decoded}
use Rattle.modrm_sib.specs.Answer.{answer_in}

-- what holds of the answer holds of what was written
pub ok_in : (E : Type 0) (P : Decoded → Type 0) (r : Result (Unit {0}) E) (place : Decoded) → IfOk (answer_in r place) P → IfOk r (λ done. P place)
ok_in E P (Ok done) place h = h
ok_in E P (Err why) place h = tt

-- what follows from what holds where there is an answer
pub some_in : (r : Option (Unit {0})) (P Q : Type 0) → (P → Q) → IfSome r (λ done. P) → IfSome r (λ done. Q)
some_in None P Q f h = tt
some_in (Some done) P Q f h = f h

-- and from two facts
pub some_in_both : (r : Option (Unit {0})) (P Q R : Type 0) → (P → Q → R) → IfSome r (λ done. P) → IfSome r (λ done. Q) → IfSome r (λ done. R)
some_in_both None P Q R f h k = tt
some_in_both (Some done) P Q R f h k = f h k
