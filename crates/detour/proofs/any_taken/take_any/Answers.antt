use Rattle.std.proofs.Common.{◌≡◌, ◌++◌, ◌<◌, ◌+◌, ℕ, List, [], ◌∷◌, length, arith, ap, sym, subst, ◌∙◌}
use Rattle.move_goals.specs.declared.items.Placed.{Placed}
use Rattle.code_items.specs.declared.any_items.AnyItem.{AnyItem}
use Rattle.detour.specs.Taken.{taken_bytes, offset_at}
use Rattle.detour.specs.AnyTaken.{outline}
use Rattle.detour.specs.AnyReading.{IsAnyItemOf, IsAnyFront}
use Rattle.detour.proofs.AnyFront.{outline-more, bytes-more, any_front_more, fewest_any_more}
use Rattle.detour.proofs.any_taken.take_any.Goals as goal

pub items-preserved : goal.items-preserved
items-preserved c =
    let bits = c.args.bits in
    let xs = c.items.items.items in
    let x = c.in_ok-item.item in
    let item : IsAnyItemOf bits c.args.ip c.args.code.now c.items.len x = c.in_ok-item.ensures in
    let inv = c.items.invariant in
    let front : IsAnyFront bits c.args.ip c.args.code.now (xs ++ x ∷ []) = any_front_more bits c.args.ip c.args.code.now xs x inv.front c.items.len inv.len item in
    let below : taken_bytes (outline bits xs) < c.args.need = omega (arith, inv.len, c.items-test.true) in
    let sum = bytes-more bits xs x in
    let few = item.few in
    let len = c.from-len.ensures ∙ c.item_len.ensures in
    let long : c.items.len + c.from-len.result ≡ taken_bytes (outline bits (xs ++ x ∷ [])) = omega (arith, sum, inv.len, len) in
    let more : (k : ℕ) → k < length (xs ++ x ∷ []) → offset_at (outline bits (xs ++ x ∷ [])) k < c.args.need =
    fewest_any_more bits xs x c.args.need inv.fewest below in
    let e : c.push-in-items.new.self.items ≡ xs ++ x ∷ [] = c.in_ok-push-2.ensures.items in
    let lines : c.push.new.self.items ≡ outline bits (xs ++ x ∷ []) =
    c.in_ok-push.ensures.items
    ∙ (ap (λ (ps : List Placed). ps ++ c.line_of.result ∷ []) inv.lines
    ∙ (ap (λ (p : Placed). outline bits xs ++ p ∷ []) c.line_of.ensures ∙ sym (outline-more bits xs x))) in
    record {
      front = subst (λ (ys : List AnyItem). IsAnyFront bits c.args.ip c.args.code.now ys) (sym e) front;
      lines = subst (λ (ys : List AnyItem). c.push.new.self.items ≡ outline bits ys) (sym e) lines;
      len = subst (λ (ys : List AnyItem). c.items.len + c.from-len.result ≡ taken_bytes (outline bits ys)) (sym e) long;
      fewest = subst (λ (ys : List AnyItem). (k : ℕ) → k < length ys → offset_at (outline bits ys) k < c.args.need) (sym e) more;
      short = omega (arith, few, len, c.items-test.true);
    }
