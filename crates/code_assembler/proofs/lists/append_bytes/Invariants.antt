use Rattle.std.proofs.Common.{◌≡◌, ◌+◌, ◌++◌, Some, map, take, vec_len, vec_capacity}
use Rattle.code_assembler.proofs.lists.append_bytes.Given as goal

abbrev pub invariant-bytes : goal.invariant-bytes
invariant-bytes l = record {
  items : l.list.items ≡ l.initial.list.items ++ map Some (take l.k l.bytes);
  len : vec_len l.list ≡ vec_len l.initial.list + l.k;
  capacity : vec_capacity l.list ≡ vec_capacity l.initial.list;
}
