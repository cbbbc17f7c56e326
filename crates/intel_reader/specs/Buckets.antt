-- The buckets of names: a name's bytes are the digits of a number to the base 31, modulo the number of buckets.
use Rattle.std.specs.Prelude.{ℕ, ◌+◌, ◌*◌, ◌%◌, List, [], ◌∷◌}
use Rattle.intel_reader.specs.declared.generated_buckets.TheConstants.{ORDER, STARTS}

-- the bucket of a name, behind bytes of this bucket
unfoldable pub bucket_from : ℕ → List ℕ → ℕ
bucket_from bucket [] = bucket
bucket_from bucket (byte ∷ bytes) = bucket_from ((bucket * 31 + byte) % 1024) bytes

-- the bucket of a name, a number below 1024
abbrev pub bucket_of : List ℕ → ℕ
bucket_of name = bucket_from 0 name

-- the codes, by bucket
unfoldable pub order : List ℕ
order = ORDER

-- the index in the order at which each bucket begins, and that behind the last
unfoldable pub starts : List ℕ
starts = STARTS
