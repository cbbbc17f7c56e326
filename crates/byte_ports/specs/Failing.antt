-- What a port that fails at listed calls is made of.
use Rattle.std.specs.Prelude.{ℕ, List}
use Rattle.byte_ports.specs.declared.fail_at.FailAt.{FailAt}

-- the inner port
abbrev pub inner_of : {P : Type 0} → FailAt P → P
inner_of port = port.inner

-- the numbers of the calls at which it fails, counted from 1
abbrev pub calls_of : {P : Type 0} → FailAt P → List ℕ
calls_of port = port.calls.items

-- how many calls were made, as far as a counter of 64 bits goes
abbrev pub made_of : {P : Type 0} → FailAt P → ℕ
made_of port = port.made
