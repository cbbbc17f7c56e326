-- Calls of a sink, one behind another.
use Rattle.std.proofs.Common.{ℕ, List, Result}
use Rattle.byte_ports.specs.declared.failed.Failed.{Failed}
use Rattle.sweep.specs.RunParts.Writing.{Puts, PutsToFault, no_put, then_put}

-- calls of which none failed, behind such calls
pub puts_join : {K : Type 0} {gives : K → List ℕ → Result ℕ Failed → K → Type 0} {old now new : K} → Puts gives old now → Puts gives now new → Puts gives old new
puts_join first no_put = first
puts_join first (then_put more put) = then_put (puts_join first more) put

-- calls up to one that failed, behind such calls
pub puts_join-fault : {K : Type 0} {gives : K → List ℕ → Result ℕ Failed → K → Type 0} {old now new : K} → Puts gives old now → PutsToFault gives now new →
    PutsToFault gives old new
puts_join-fault first then = record { before = then.before; piece = then.piece; why = then.why; puts = puts_join first then.puts; failed = then.failed }
