use Rattle.std.proofs.Common.{ℕ, Option, Ok, Err, subst, sym}
use Rattle.flow_graph.specs.Control.{code_bytes}
use Rattle.detour.specs.Taken.{AreTaken}
use Rattle.detour.specs.Entries.{IsEntryAnswer, IsFirstEntry}
use Rattle.detour.specs.Detours.{IsTakenAnswer}
use Rattle.detour.specs.Made.{IsWholeTaken}
use Rattle.detour.proofs.Made.{refused_untaken, laid_answer}
use Rattle.detour.proofs.making.detour_by.Goals as goal

pub returns-in-Err : goal.returns-in-Err
returns-in-Err c =
    let h : IsTakenAnswer c.args.bits c.args.ip c.args.code.now c.len.result (Err c.in-Err.why) = c.in-Err.ensures in
    refused_untaken c.laws_below.ensures c.args.bits c.args.ip c.args.code.now c.args.to c.args.place c.args.rule c.args.jump.now c.requires.jump c.in-Err.why
    (subst (λ (n : ℕ). IsTakenAnswer c.args.bits c.args.ip c.args.code.now n (Err c.in-Err.why)) c.len.ensures.value h)

pub returns-in-Ok-None : goal.returns-in-Ok-None
returns-in-Ok-None c =
    let h : IsWholeTaken c.args.bits c.args.ip c.args.code.now c.len.result (Ok c.in-Ok.taken) = c.in-Ok.ensures in
    let code = code_bytes c.args.bits c.args.ip c.args.code.now in
    let are = subst (λ (n : ℕ). AreTaken c.args.bits c.args.ip c.args.code.now n c.in-Ok.taken.items.items) c.len.ensures.value h.1.0 in
    let entry : IsEntryAnswer code c.in-Ok.taken.items.items c.in-Ok-None.field-0 = c.in-Ok-None.ensures in
    let closed = subst (λ (e : Option (ℕ × ℕ)). IsEntryAnswer code c.in-Ok.taken.items.items e) c.in-Ok-None.field-0-is entry in
    laid_answer c.laws_below.ensures c.args.bits c.args.ip c.args.code.now c.args.to c.args.place c.args.rule c.args.jump.now c.requires.jump c.in-Ok.taken are h.1.1 h.0.0.len closed
    c.lay_detour.result c.lay_detour.ensures

pub returns-in-Ok-Some : goal.returns-in-Ok-Some
returns-in-Ok-Some c =
    let h : IsWholeTaken c.args.bits c.args.ip c.args.code.now c.len.result (Ok c.in-Ok.taken) = c.in-Ok.ensures in
    let code = code_bytes c.args.bits c.args.ip c.args.code.now in
    let items = c.in-Ok.taken.items.items in
    let are = subst (λ (n : ℕ). AreTaken c.args.bits c.args.ip c.args.code.now n items) c.len.ensures.value h.1.0 in
    let entry : IsEntryAnswer code items c.in-Ok-Some.field-0 = c.in-Ok-Some.ensures in
    let first : IsFirstEntry code items c.in-Ok-Some.from c.in-Ok-Some.target = subst (λ (e : Option (ℕ × ℕ)). IsEntryAnswer code items e) c.in-Ok-Some.field-0-is entry in
    record {
      jump = record { form = c.args.jump.now.form; bytes = c.args.jump.now.bytes.items; relay = c.args.jump.now.relay };
      first = c.requires.jump;
      items = items;
      are_taken = are;
      whole = h.1.1;
      entry = subst (λ (n : ℕ). IsFirstEntry code items n c.in-Ok-Some.target) (sym c.from.ensures) first;
    }
