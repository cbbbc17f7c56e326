use Rattle.std.proofs.Common.{◌≡◌, rules, arith, ap, sym, subst, length, [], ◌∷◌, length-append}
use Rattle.move_goals.specs.Items.{item_at}
use Rattle.move_goals.specs.Ready.{AreReady}
use Rattle.move_goals.proofs.Pushed.{none_ready, push_ready}
use Rattle.move_goals.proofs.ready.ready_bytes.Goals as goal

pub items-init : goal.items-init
items-init c =
    let empty : c.in_ok-ready.ready.items ≡ [] = search rules in
    record {
      len = search rules;
      each = subst (λ xs. AreReady c.args.bits c.args.items.now xs) (sym empty) (λ k. none_ready c.args.bits (item_at c.args.items.now k).instr);
    }

pub items-preserved : goal.items-preserved
items-preserved c = record {
  len = omega (arith, ap length c.in_ok-push.ensures.items, length-append c.items.ready.items (c.independent_bytes.result ∷ []), c.items.invariant.len);
  each = push_ready c.args.bits c.args.items.now c.items.k c.items.ready.items c.push.new.self.items c.independent_bytes.result
      c.items.invariant.len c.items.invariant.each c.in_ok-push.ensures.items c.independent_bytes.ensures.everywhere;
}
