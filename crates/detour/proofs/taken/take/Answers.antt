use Rattle.std.proofs.Common.{◌≡◌, ◌++◌, ◌<◌, ◌+◌, ℕ, List, [], ◌∷◌, length, arith, sym, subst}
use Rattle.std.proofs.lemmas.List.Sums.{sum_by_push}
use Rattle.move_goals.specs.declared.items.Placed.{Placed}
use Rattle.detour.specs.Reading.{IsItemOf, IsFront}
use Rattle.detour.specs.Taken.{taken_bytes, offset_at}
use Rattle.detour.proofs.Front.{front_more, fewest_more}
use Rattle.detour.proofs.taken.take.Goals as goal

pub items-preserved : goal.items-preserved
items-preserved c =
    let xs = c.items.items.items in
    let p = c.in_ok-item.item in
    let item : IsItemOf c.args.bits c.args.ip c.args.code.now c.items.len p = c.in_ok-item.ensures in
    let inv = c.items.invariant in
    let front : IsFront c.args.bits c.args.ip c.args.code.now (xs ++ p ∷ []) = front_more c.args.bits c.args.ip c.args.code.now xs p inv.front c.items.len inv.len item in
    let below : taken_bytes xs < c.args.need = omega (arith, inv.len, c.items-test.true) in
    let sum = sum_by_push (λ (x : Placed). x.len) xs p in
    let few = item.placed.few in
    let len = c.from-len.ensures in
    let long : c.items.len + c.from-len.result ≡ taken_bytes (xs ++ p ∷ []) = omega (arith, sum, inv.len, len) in
    let more : (k : ℕ) → k < length (xs ++ p ∷ []) → offset_at (xs ++ p ∷ []) k < c.args.need = fewest_more xs p c.args.need inv.fewest below in
    let e : c.push.new.self.items ≡ xs ++ p ∷ [] = c.in_ok-push.ensures.items in
    record {
      front = subst (λ (ys : List Placed). IsFront c.args.bits c.args.ip c.args.code.now ys) (sym e) front;
      len = subst (λ (ys : List Placed). c.items.len + c.from-len.result ≡ taken_bytes ys) (sym e) long;
      fewest = subst (λ (ys : List Placed). (k : ℕ) → k < length ys → offset_at ys k < c.args.need) (sym e) more;
      short = omega (arith, few, len, c.items-test.true);
    }
