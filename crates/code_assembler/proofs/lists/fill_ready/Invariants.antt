use Rattle.std.proofs.Common.{◌≡◌, ◌+◌, ◌++◌, replicate, vec_len, vec_capacity}
use Rattle.code_assembler.proofs.lists.fill_ready.Given as goal

abbrev pub invariant-values : goal.invariant-values
invariant-values l = record {
  items : l.list.items ≡ l.initial.list.items ++ replicate l._k l.ready;
  len : vec_len l.list ≡ vec_len l.initial.list + l._k;
  capacity : vec_capacity l.list ≡ vec_capacity l.initial.list;
}
