-- The entries of moved instructions of which some have no row, one by one.
use Rattle.std.proofs.Common.{◌≡◌, ℕ, ◌+◌, [], ◌∷◌, ◌++◌, refl, arith}
use Rattle.std.proofs.lemmas.List.FromFn.{map-range_with_len_more}
use Rattle.code_items.specs.AnyMoved.{MovedAny}
use Rattle.c_calls.specs.UnlistedMoves.{any_entry_at, any_entries}

-- no entries are those of no instructions
pub any_entries-none : (m : MovedAny) → any_entries m 0 ≡ []
unfolding any_entries
any_entries-none m = refl

-- a further instruction adds its entry
pub any_entries-more : (m : MovedAny) (k : ℕ) → any_entries m (k + 1) ≡ any_entries m k ++ any_entry_at m k ∷ []
unfolding any_entries
any_entries-more m k = map-range_with_len_more (any_entry_at m) 0 k k (omega arith)
