-- What a slow source is made of.
use Rattle.byte_ports.specs.declared.slow.SlowSource.{SlowSource}

-- the source that a slow source asks
abbrev pub slow_inner : {S : Type 0} → SlowSource S → S
slow_inner source = source.inner
