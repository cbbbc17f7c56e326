use Rattle.std.proofs.Common.{◌≡◌, ◌∷◌, List, ℕ, [], true, false, Bool, subst}
use Rattle.assembly_text.specs.Lines.{trimmed}
use Rattle.assembly_text.specs.Data.{items_in, item_bytes, IsPut}
use Rattle.assembly_text.proofs.Items.{put_none, put_more, put_last, put_bad}
use Rattle.assembly_text.proofs.data.put_data.Goals as goal

pub items-init : goal.items-init
items-init c = put_none c.args.count c.args.text.now c.args.out.now.items

pub returns-then-not-put : goal.returns-then-not-put
returns-then-not-put c =
    let n = c.args.count in
    let old = c.items.out.items in
    let new = c.put_item.new.out.items in
    let said : IsPut false (item_bytes n c.trimmed.result.now) old new =
    subst (λ (b : Bool). IsPut b (item_bytes n c.trimmed.result.now) old new) c.if-not-put.true c.in_ok-put.ensures in
    let put : IsPut false (item_bytes n (trimmed c.first_item.result.0.now)) old new =
    subst (λ (x : List ℕ). IsPut false (item_bytes n x) old new) c.trimmed.ensures said in
    put_bad n c.args.text.now c.items.rest.now c.first_item.result.0.now c.args.out.now.items old new c.items.invariant
    c.first_item.ensures.one.0 c.first_item.ensures.one.1 put

pub returns-in-None : goal.returns-in-None
returns-in-None c =
    let n = c.args.count in
    let old = c.items.out.items in
    let new = c.put_item.new.out.items in
    let said : IsPut true (item_bytes n c.trimmed.result.now) old new =
    subst (λ (b : Bool). IsPut b (item_bytes n c.trimmed.result.now) old new) c.if-not-put.false c.in_ok-put.ensures in
    let put : IsPut true (item_bytes n (trimmed c.first_item.result.0.now)) old new =
    subst (λ (x : List ℕ). IsPut true (item_bytes n x) old new) c.trimmed.ensures said in
    let cut : items_in 0 c.items.rest.now ≡ c.first_item.result.0.now ∷ [] = rw c.in-None.is at c.first_item.ensures.items in
    put_last n c.args.text.now c.items.rest.now c.first_item.result.0.now c.args.out.now.items old new c.items.invariant cut put

pub items-preserved : goal.items-preserved
items-preserved c =
    let n = c.args.count in
    let old = c.items.out.items in
    let new = c.put_item.new.out.items in
    let said : IsPut true (item_bytes n c.trimmed.result.now) old new =
    subst (λ (b : Bool). IsPut b (item_bytes n c.trimmed.result.now) old new) c.if-not-put.false c.in_ok-put.ensures in
    let put : IsPut true (item_bytes n (trimmed c.first_item.result.0.now)) old new =
    subst (λ (x : List ℕ). IsPut true (item_bytes n x) old new) c.trimmed.ensures said in
    let cut : items_in 0 c.items.rest.now ≡ c.first_item.result.0.now ∷ items_in 0 c.in-Some.behind.now =
    rw c.in-Some.is at c.first_item.ensures.items in
    put_more n c.args.text.now c.items.rest.now c.first_item.result.0.now c.args.out.now.items old new c.items.invariant c.in-Some.behind.now cut put
