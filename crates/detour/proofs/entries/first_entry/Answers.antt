use Rattle.std.proofs.Common.{◌≡◌, ◌<◌, ℕ, List, length, get_or, arith, sym, subst}
use Rattle.flow_graph.specs.Control.{IsSuccessor, code_bytes_with}
use Rattle.detour.specs.Entries.{IsEntry, IsFirstEntry}
use Rattle.detour.proofs.Entering.{NoneBefore, none_more, none_entered, first_entered}
use Rattle.detour.proofs.entries.first_entry.Goals as goal

pub returns-in-Some : goal.returns-in-Some
returns-in-Some c =
    let code = code_bytes_with c.args.follow c.args.bits c.args.ip c.args.code.now in
    let items = c.args.taken.now.items.items in
    let e : c.starts-starts.result.now ≡ c.in_ok-graph.graph.starts = c.starts-starts.ensures in
    let none : NoneBefore code items c.in_ok-graph.graph.starts c.starts.k = subst (λ (xs : List ℕ). NoneBefore code items xs c.starts.k) e c.starts.invariant in
    let there : c.starts.k < length c.in_ok-graph.graph.starts = subst (λ (xs : List ℕ). c.starts.k < length xs) e c.starts-test.true in
    let entry = c.in-Some.ensures in
    subst (λ (xs : List ℕ). IsFirstEntry code items (get_or xs c.starts.k 0) c.in-Some.target) (sym e)
    (first_entered code items c.in_ok-graph.graph c.in_ok-graph.ensures c.starts.k c.in-Some.target there none
    (subst (λ (xs : List ℕ). IsSuccessor code (get_or xs c.starts.k 0) c.in-Some.target) e entry.0)
    (subst (λ (xs : List ℕ). IsEntry items (get_or xs c.starts.k 0) c.in-Some.target) e entry.1))

pub starts-preserved : goal.starts-preserved
starts-preserved c =
    none_more (code_bytes_with c.args.follow c.args.bits c.args.ip c.args.code.now) c.args.taken.now.items.items c.starts-starts.result.now c.starts.k c.starts.invariant c.in_default.ensures

pub returns : goal.returns
returns c =
    let code = code_bytes_with c.args.follow c.args.bits c.args.ip c.args.code.now in
    let items = c.args.taken.now.items.items in
    let e : c.starts-starts.result.now ≡ c.in_ok-graph.graph.starts = c.starts-starts.ensures in
    let all : c.starts.k ≡ length c.starts-starts.result.now = omega (arith, c.starts-test.false, c.starts.auto.k-end) in
    let none : NoneBefore code items c.starts-starts.result.now (length c.starts-starts.result.now) = subst (λ (n : ℕ). NoneBefore code items c.starts-starts.result.now n) all c.starts.invariant in
    none_entered code items c.in_ok-graph.graph c.in_ok-graph.ensures (subst (λ (xs : List ℕ). NoneBefore code items xs (length xs)) e none)
