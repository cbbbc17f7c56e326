use Rattle.std.proofs.Common.{ℕ, List, Option, None, Ok, Err, subst, sym}
use Rattle.move_goals.specs.declared.items.Placed.{Placed}
use Rattle.detour.specs.Entries.{IsEntryAnswer, IsFirstEntry}
use Rattle.detour.specs.AnyTaken.{outline, AreAnyTaken}
use Rattle.detour.specs.AnyDetours.{IsAnyTakenAnswer, any_code}
use Rattle.detour.specs.AnyMade.{IsAnyWholeTaken}
use Rattle.detour.proofs.AnyMade.{any_refused_untaken, any_laid_answer}
use Rattle.detour.proofs.any_making.any_detour_by.Goals as goal

pub returns-in-Err : goal.returns-in-Err
returns-in-Err c =
    let h : IsAnyTakenAnswer c.args.bits c.args.ip c.args.code.now c.len.result (Err c.in-Err.why) = c.in-Err.ensures in
    any_refused_untaken c.any_laws_below.ensures c.args.bits c.args.ip c.args.code.now c.args.to c.args.place c.args.rule c.args.jump.now c.requires.jump c.in-Err.why
    (subst (λ (n : ℕ). IsAnyTakenAnswer c.args.bits c.args.ip c.args.code.now n (Err c.in-Err.why)) c.len.ensures.value h)

pub returns-in-Ok-None : goal.returns-in-Ok-None
returns-in-Ok-None c =
    let h : IsAnyWholeTaken c.args.bits c.args.ip c.args.code.now c.len.result (Ok c.in-Ok.taken) = c.in-Ok.ensures in
    let code = any_code c.args.bits c.args.ip c.args.code.now in
    let are = subst (λ (n : ℕ). AreAnyTaken c.args.bits c.args.ip c.args.code.now n c.in-Ok.taken.items.items) c.len.ensures.value h.1.0 in
    let entry : IsEntryAnswer code c.in-Ok.taken.outline.items.items c.in-Ok-None.field-0 = c.in-Ok-None.ensures in
    let none = subst (λ (e : Option (ℕ × ℕ)). IsEntryAnswer code c.in-Ok.taken.outline.items.items e) c.in-Ok-None.field-0-is entry in
    let closed = subst (λ (ps : List Placed). IsEntryAnswer code ps None) h.0.0.lines none in
    any_laid_answer c.any_laws_below.ensures c.args.bits c.args.ip c.args.code.now c.args.to c.args.place c.args.rule c.args.jump.now c.requires.jump c.in-Ok.taken are
    h.0.0 h.1.1 closed c.lay_any_detour.result c.lay_any_detour.ensures

pub returns-in-Ok-Some : goal.returns-in-Ok-Some
returns-in-Ok-Some c =
    let h : IsAnyWholeTaken c.args.bits c.args.ip c.args.code.now c.len.result (Ok c.in-Ok.taken) = c.in-Ok.ensures in
    let code = any_code c.args.bits c.args.ip c.args.code.now in
    let lines = c.in-Ok.taken.outline.items.items in
    let items = c.in-Ok.taken.items.items in
    let are = subst (λ (n : ℕ). AreAnyTaken c.args.bits c.args.ip c.args.code.now n items) c.len.ensures.value h.1.0 in
    let entry : IsEntryAnswer code lines c.in-Ok-Some.field-0 = c.in-Ok-Some.ensures in
    let first : IsFirstEntry code lines c.in-Ok-Some.from c.in-Ok-Some.target = subst (λ (e : Option (ℕ × ℕ)). IsEntryAnswer code lines e) c.in-Ok-Some.field-0-is entry in
    record {
      jump = record { form = c.args.jump.now.form; bytes = c.args.jump.now.bytes.items; relay = c.args.jump.now.relay };
      first = c.requires.jump;
      items = items;
      are_taken = are;
      whole = h.1.1;
      entry = subst (λ (n : ℕ). IsFirstEntry code (outline c.args.bits items) n c.in-Ok-Some.target) (sym c.from.ensures)
          (subst (λ (ps : List Placed). IsFirstEntry code ps c.in-Ok-Some.from c.in-Ok-Some.target) h.0.0.lines first);
    }
