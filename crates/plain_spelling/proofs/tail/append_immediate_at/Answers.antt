use Rattle.std.proofs.Common.{◌≡◌, ℕ, ◌≤◌, sym, ◌∙◌, arith, rules}
use Rattle.std.proofs.lemmas.List.{append-nil}
use Rattle.x86_values.specs.declared.Bits.{Bits}
use Rattle.instruction_parts.specs.declared.row_types.OpKind.{OpKind}
use Rattle.instruction_parts.specs.declared.kinds.Method.{Method}
use Rattle.instruction_parts.specs.declared.kinds.Method.TheVariants.{Pointer, LastByte}
use Rattle.instruction_parts.specs.Kinds.{method_of}
use Rattle.row_fit.specs.Fits.{kind_at, immediate_bytes}
use Rattle.plain_spelling.proofs.ImmediateBytes.{bytes_suit, no_immediate}
use Rattle.plain_spelling.proofs.tail.append_immediate_at.Goals as goal

pointer-long : (size : Bits) (kind : OpKind) (m : Method) (n : ℕ) → m ≡ method_of kind → n ≡ immediate_bytes size kind → m ≡ Pointer → 2 ≤ n
pointer-long size kind m n em en h =
    let e : method_of kind ≡ Pointer = sym em ∙ h in
    let s = rw e at (bytes_suit size kind) in
    omega (arith, s, en)

last-long : (size : Bits) (kind : OpKind) (m : Method) (n : ℕ) → m ≡ method_of kind → n ≡ immediate_bytes size kind → m ≡ LastByte → 1 ≤ n
last-long size kind m n em en h =
    let e : method_of kind ≡ LastByte = sym em ∙ h in
    let s = rw e at (bytes_suit size kind) in
    omega (arith, s, en)

pub append_immediate-requires : goal.append_immediate-requires
append_immediate-requires g c = (
  search rules,
  (
    search rules,
    (
      search rules,
      (
        pointer-long c.args.size c.kind_at-kind.result _ _ c.method_of_kind-method.ensures c.immediate_len-count.ensures.value,
        last-long c.args.size c.kind_at-kind.result _ _ c.method_of_kind-method.ensures c.immediate_len-count.ensures.value,
      ),
    ),
  ),
)

pub returns-else-count-gt0-clause-items : goal.returns-else-count-gt0-clause-items
returns-else-count-gt0-clause-items g c =
    let zero : c.immediate_len-count.result ≡ 0 = omega (arith, c.if-count-gt0.false) in
    let none : immediate_bytes c.args.size (kind_at c.args.row.now c.args.n) ≡ 0 = cc in
    rw (no_immediate c.args.size c.args.row.now c.args.instr.now c.args.next c.args.n none) (sym (append-nil _))
