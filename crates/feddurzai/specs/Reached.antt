-- Why no graph of some code is given.
use Rattle.std.specs.Prelude.{◌≡◌, ℕ, ◌<◌, ◌≤◌, List, length}
use Rattle.feddurzai.specs.declared.reached.CodeGraphError.{CodeGraphError}
use Rattle.feddurzai.specs.declared.reached.CodeGraphError.TheVariants.{TooLarge, Memory}

-- there are too many bytes, or there is no memory for the graph of fewer
abbrev pub IsGraphRefusal : List ℕ → CodeGraphError → Type 0
IsGraphRefusal bytes (TooLarge len) = (1048576 < length bytes) × (len ≡ length bytes)
IsGraphRefusal bytes Memory = length bytes ≤ 1048576

-- there are too many bytes for several first offsets, which take up to 16,777,216, or there is no memory for the graph of fewer
abbrev pub IsGraphFromRefusal : List ℕ → CodeGraphError → Type 0
IsGraphFromRefusal bytes (TooLarge len) = (16777216 < length bytes) × (len ≡ length bytes)
IsGraphFromRefusal bytes Memory = length bytes ≤ 16777216
