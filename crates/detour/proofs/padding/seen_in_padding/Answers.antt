use Rattle.std.proofs.Common.{◌≡◌, ℕ, List, [], ◌++◌, length, refl, subst, ◌∙◌}
use Rattle.flow_graph.specs.Control.{code_bytes}
use Rattle.flow_graph.specs.declared.hook_sight.answers.StartRule.TheVariants.{Closed}
use Rattle.flow_graph.specs.HookSight.Entries.{part_of}
use Rattle.flow_graph.specs.HookSight.Views.{IsView}
use Rattle.detour.specs.Padding.{address_before, whole_entries}
use Rattle.detour.proofs.padding.seen_in_padding.Goals as goal

pub returns : goal.returns
returns c =
    let a = c.args in
    let len = length a.padding.now in
    let part = part_of len [] Closed in
    let whole : c.deref.result.now ≡ a.padding.now ++ a.code.now = c.deref.ensures.value ∙ c.in_ok-whole.ensures in
    let entries : c.deref-2.result.now ≡ whole_entries len a.entries.now = c.deref-2.ensures.value ∙ c.in_ok-entries.ensures in
    let base : c.distance-base.result ≡ address_before a.bits a.ip len = c.distance-base.ensures in
    let view = c.in_ok-view.view in (
      view,
      (
        subst (λ (n : ℕ). IsView (code_bytes a.bits n (a.padding.now ++ a.code.now)) (whole_entries len a.entries.now) part view) base
            (subst (λ (bs : List ℕ). IsView (code_bytes a.bits c.distance-base.result bs) (whole_entries len a.entries.now) part view) whole
            (subst (λ (es : List ℕ). IsView (code_bytes a.bits c.distance-base.result c.deref.result.now) es part view) entries c.in_ok-view.ensures)),
        refl,
      ),
    )
