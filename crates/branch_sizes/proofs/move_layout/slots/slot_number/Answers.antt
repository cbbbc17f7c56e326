use Rattle.std.proofs.Common.{◌≡◌, None, arith, sym, subst, ◌∙◌}
use Rattle.std.specs.Ordering.{nat_cmp}
use Rattle.std.specs.BTreeMap.{get}
use Rattle.branch_sizes.specs.MoveLayout.Slots.{place_among, number_among, IsNumbering}
use Rattle.branch_sizes.proofs.MoveLayout.Slotting.{found, not_found, with_old, with_new, place_new, numbered_more}
use Rattle.branch_sizes.proofs.move_layout.slots.slot_number.Goals as goal

pub returns-in-Some-clause-goals : goal.returns-in-Some-clause-goals
returns-in-Some-clause-goals c = sym (with_old c.args.goals.now.items c.args.goal (found c.args.goals.now.items c.args.goal c.in-Some.number.now (sym (c.requires.each c.args.goal) ∙ sym c.in-Some.ensures.value)).0)

pub returns-in-Some-clause-number : goal.returns-in-Some-clause-number
returns-in-Some-clause-number c = sym (found c.args.goals.now.items c.args.goal c.in-Some.number.now (sym (c.requires.each c.args.goal) ∙ sym c.in-Some.ensures.value)).1

pub returns-in_ok-push-in-None-clause-goals : goal.returns-in_ok-push-in-None-clause-goals
returns-in_ok-push-in-None-clause-goals c =
    let none : get nat_cmp c.args.numbers.now c.args.goal ≡ None = sym c.in-None.ensures.value in
    let e : number_among c.args.goals.now.items c.args.goal ≡ None = sym (c.requires.each c.args.goal) ∙ none in
    c.in_ok-push-in-None.ensures.items ∙ sym (with_new c.args.goals.now.items c.args.goal (not_found c.args.goals.now.items c.args.goal e).0)

pub returns-in_ok-push-in-None-clause-number : goal.returns-in_ok-push-in-None-clause-number
returns-in_ok-push-in-None-clause-number c =
    let none : get nat_cmp c.args.numbers.now c.args.goal ≡ None = sym c.in-None.ensures.value in
    let e : number_among c.args.goals.now.items c.args.goal ≡ None = sym (c.requires.each c.args.goal) ∙ none in
    subst (λ xs. c.len-number.result ≡ place_among xs c.args.goal) (sym c.in_ok-push-in-None.ensures.items)
    (omega (arith, c.len-number.ensures, place_new c.args.goals.now.items c.args.goal (not_found c.args.goals.now.items c.args.goal e).1))

pub returns-in_ok-push-in-None-clause-numbering : goal.returns-in_ok-push-in-None-clause-numbering
returns-in_ok-push-in-None-clause-numbering c =
    let none : get nat_cmp c.args.numbers.now c.args.goal ≡ None = sym c.in-None.ensures.value in
    let e : number_among c.args.goals.now.items c.args.goal ≡ None = sym (c.requires.each c.args.goal) ∙ none in
    subst (λ xs. IsNumbering c.insert.new.self xs) (sym c.in_ok-push-in-None.ensures.items)
    (numbered_more c.args.numbers.now c.insert.new.self c.args.goals.now.items c.args.goal c.len-number.result c.requires
    (not_found c.args.goals.now.items c.args.goal e).1 (omega (arith, c.len-number.ensures)) c.in_ok-insert-in-None.ensures.updates.0)
