use Rattle.sweep.proofs.RunParts.Putting.{puts_join, puts_join-fault}
use Rattle.sweep.proofs.run_parts.laws.puts_join.Goals as goal

pub returns : goal.returns
returns g c = record {
  join = λ old now new first more. puts_join first more;
  join-fault = λ old now new first more. puts_join-fault first more;
}
