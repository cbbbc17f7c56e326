use Rattle.std.proofs.Common.{◌≡◌, ℕ, List, Option, length, Ok, ap, subst, ◌∙◌}
use Rattle.plain_spelling.specs.Values.{distance}
use Rattle.detour.specs.Detours.{relay_behind}
use Rattle.detour.specs.Padding.{jump_address, IsPaddingJump}
use Rattle.detour.specs.PaddingParts.{IsShortTaken}
use Rattle.detour.specs.Trampoline.{IsTrampoline}
use Rattle.detour.proofs.Padded.{padded_made}
use Rattle.detour.proofs.padding.make_through.Goals as goal

pub returns-in-Ok-lay_over : goal.returns-in-Ok-lay_over
returns-in-Ok-lay_over c =
    let a = c.args in
    let t = c.in-Ok.taken in
    let m = c.in-Ok-lay_trampoline.moved in
    let taken : IsShortTaken a.bits a.ip a.code.now (Ok t) = c.in-Ok.ensures in
    let block : IsTrampoline a.bits a.ip t.items.items a.place a.rule m = c.in-Ok-lay_trampoline.ensures.answer in
    let jump = c.in-Some.field-0 in
    let at : c.distance-at.result ≡ jump_address a.bits a.ip = c.distance-at.ensures ∙ ap (λ (n : ℕ). distance a.bits n a.ip) c.near_len.ensures in
    let behind : c.relay_behind-behind.result ≡ relay_behind a.place (length m.bytes) =
    c.relay_behind-behind.ensures ∙ ap (λ (bs : List ℕ). relay_behind a.place (length bs)) c.bytes.ensures in
    let chosen : IsPaddingJump a.bits c.distance-at.result a.to c.relay_behind-behind.result jump.form jump.bytes.items jump.relay = c.in-Some.ensures in
    let there = subst (λ (n : ℕ). IsPaddingJump a.bits n a.to c.relay_behind-behind.result jump.form jump.bytes.items jump.relay) at chosen in
    let jumps = subst (λ (b : Option ℕ). IsPaddingJump a.bits (jump_address a.bits a.ip) a.to b jump.form jump.bytes.items jump.relay) behind there in
    padded_made c.laws_below.ensures a.bits a.ip a.code.now a.to a.place a.rule t taken.1 taken.0.0.len m block c.in-Ok-lay_trampoline.ensures.placed
    jump.form jump.bytes.items jump.relay jumps _
    (let e = c.in-Some.form-is in cc) (let e = c.in-Some.relay-is in cc) c.short_jump.ensures c.in-Ok-lay_over.made c.in-Ok-lay_over.ensures.parts
