use Rattle.std.proofs.Common.{◌≡◌, ℕ, ◌+◌, ◌-◌, ◌^◌, ◌<◌, List, length, take, drop, ap, subst, ◌∙◌}
use Rattle.std.proofs.lemmas.List.{length-drop}
use Rattle.std.proofs.Math.Seq.{take-length}
use Rattle.x86_values.specs.Wrapping.{modulo_width}
use Rattle.detour.specs.Rules.{IsRuledAnswer}
use Rattle.detour.specs.Kept.{tail_entries}
use Rattle.detour.proofs.Keeping.{tail_fits}
use Rattle.detour.proofs.kept.tail_with.Goals as goal

pub returns : goal.returns
returns c =
    let a = c.args in
    let behind : c.in-Some.place ≡ a.place + 4 = c.in-Some.ensures.1 in
    let below : a.place + 4 < 2 ^ 64 = c.in-Some.ensures.0 in
    let address : c.wrap-ip.result ≡ modulo_width a.bits (a.ip + 4) =
    c.wrap-ip.ensures ∙ ap (λ (n : ℕ). modulo_width a.bits (n + 4)) c.from-2.ensures in
    let entries : c.deref.result.now ≡ tail_entries a.entries.now = c.deref.ensures.value ∙ c.in-Ok.ensures in
    let rest : take (length a.code.now - 4) (drop 4 a.code.now) ≡ drop 4 a.code.now =
    subst (λ (n : ℕ). take n (drop 4 a.code.now) ≡ drop 4 a.code.now) (length-drop 4 a.code.now) (take-length (drop 4 a.code.now)) in
    tail_fits a.bits a.ip a.code.now a.to a.place a.entries.now a.rules c.detour_with.result below
    (subst (λ (n : ℕ). IsRuledAnswer a.bits n (drop 4 a.code.now) a.to (a.place + 4) (tail_entries a.entries.now) a.rules c.detour_with.result) address
    (subst (λ (n : ℕ). IsRuledAnswer a.bits c.wrap-ip.result (drop 4 a.code.now) a.to n (tail_entries a.entries.now) a.rules c.detour_with.result) behind
    (subst (λ (xs : List ℕ). IsRuledAnswer a.bits c.wrap-ip.result (drop 4 a.code.now) a.to c.in-Some.place xs a.rules c.detour_with.result) entries
    (subst (λ (bs : List ℕ). IsRuledAnswer a.bits c.wrap-ip.result bs a.to c.in-Some.place c.deref.result.now a.rules c.detour_with.result) rest
    c.detour_with.ensures))))
