-- Which registers exist: each class has a number of its own (Intel SDM volume 1, 3.4 and 3.7.2.1).
use Rattle.std.specs.Prelude.{Bool, true, nat_lt, Option, Some, None}
use Rattle.x86_values.specs.declared.Register.{Register}
use Rattle.x86_values.specs.declared.Register.TheVariants.{Low8, High8, R16, R32, R64, Seg, Cr, Dr, St, Mm, Xmm, Ymm, Eip, Rip}

-- the number of a register is below the size of its class
unfoldable pub is_named : Register → Bool
is_named (Low8 n) = nat_lt n 16
is_named (High8 n) = nat_lt n 4
is_named (R16 n) = nat_lt n 16
is_named (R32 n) = nat_lt n 16
is_named (R64 n) = nat_lt n 16
is_named (Seg _) = true
is_named (Cr n) = nat_lt n 16
is_named (Dr n) = nat_lt n 8
is_named (St n) = nat_lt n 8
is_named (Mm n) = nat_lt n 8
is_named (Xmm n) = nat_lt n 16
is_named (Ymm n) = nat_lt n 16
is_named Eip = true
is_named Rip = true

-- a register that may be absent is one of the manual's, or there is none
unfoldable pub is_named_if : Option Register → Bool
is_named_if None = true
is_named_if (Some r) = is_named r
