use Rattle.std.proofs.Common.{◌≡◌, ◌<◌, ◌≤◌, ◌+◌, ◌-◌, ◌++◌, ℕ, List, length, take, drop, sym, ap, ◌∙◌, subst, arith}
use Rattle.std.specs.Prelude.{slice_index_or}
use Rattle.std.specs.List.{flat_map, range_with_len}
use Rattle.branch_sizes.specs.declared.plan.Branch.{Branch}
use Rattle.branch_sizes.specs.declared.plan.Form.{Form}
use Rattle.branch_sizes.specs.declared.plan.Form.TheVariants.{Itself}
use Rattle.branch_sizes.specs.MoveLayout.Laid.{fragment_at, slots_of}
use Rattle.move_goals.specs.BranchForms.Images.{form_length}
use Rattle.move_goals.specs.Items.{item_at}
use Rattle.block_encoder.specs.Bytes.{bytes_at, gap_bytes, slot_bytes}
use Rattle.block_encoder.specs.ByPlan.{IsMovedBy}
use Rattle.code_items.specs.declared.any_items.AnyItem.{AnyItem}
use Rattle.code_items.specs.AnyItems.{any_at, IsAnySound}
use Rattle.code_items.specs.AnyMoved.{any_bytes, any_block_bytes}
use Rattle.code_items.specs.AnyWriting.{goal_by}
use Rattle.code_items.proofs.AnyLists.{front-is, all-passed}
use Rattle.code_items.proofs.AnyAnswered.{block-is, form-is, start-is, goal-is, length-is, forms-count, starts-count, branches-count, piece-is, any-is, branch-is, written-more}
use Rattle.code_items.proofs.any_writing.write_items.Goals as goal
use Rattle.code_items.proofs.any_writing.write_items.Goals.{After-form_len-len}

pub items-init : goal.items-init
items-init c = record {
  out = λ h. c.in_ok-out.ensures.items;
  rest = λ h.
      let all : length c.args.items.now ≡ length c.args.items.now - 0 = omega arith in
      c.bytes-rest.ensures
      ∙ (block-is c.args.bits c.args.items.now c.args.stand_ins.now c.args.plan.now c.args.moved.now c.requires.standing c.requires.plan h
      ∙ ap (λ (n : ℕ). flat_map (bytes_at c.args.bits c.args.stand_ins.now c.args.plan.now h.layout) (range_with_len 0 n)
      ++ (gap_bytes c.args.plan.now h.layout 0 ++ slot_bytes (slots_of c.args.plan.now h.layout 0))) all);
}

pub bounds-forms-k : goal.bounds-forms-k
bounds-forms-k c =
    let count = forms-count c.args.bits c.args.items.now c.args.stand_ins.now c.args.plan.now c.args.moved.now c.requires.standing c.requires.plan c.requires.moved in
    omega (arith, ap length c.forms-forms.ensures, count, c.items-test.true)

-- the bytes of the next item, and those behind them
next : (c : After-form_len-len) (h : IsMovedBy c.args.bits c.args.stand_ins.now c.args.plan.now c.args.moved.now) →
    (c.form_len-len.result ≤ length c.items.rest.now)
    × (take c.form_len-len.result c.items.rest.now ≡ bytes_at c.args.bits c.args.stand_ins.now c.args.plan.now h.layout c.items.k)
    × (drop c.form_len-len.result c.items.rest.now
    ≡ flat_map (bytes_at c.args.bits c.args.stand_ins.now c.args.plan.now h.layout) (range_with_len (c.items.k + 1) (length c.args.items.now - (c.items.k + 1)))
    ++ (gap_bytes c.args.plan.now h.layout 0 ++ slot_bytes (slots_of c.args.plan.now h.layout 0)))
next c h =
    let k = c.items.k in
    let lt : k < length c.args.items.now = omega arith in
    let form : slice_index_or c.forms-forms.result.now k Itself ≡ (fragment_at c.args.plan.now h.layout k).form =
    ap (λ (xs : List Form). slice_index_or xs k Itself) c.forms-forms.ensures
    ∙ form-is c.args.bits c.args.items.now c.args.stand_ins.now c.args.plan.now c.args.moved.now c.requires.standing c.requires.plan h k lt in
    let size : c.form_len-len.result ≡ length (bytes_at c.args.bits c.args.stand_ins.now c.args.plan.now h.layout k) =
    c.form_len-len.ensures
    ∙ (ap (form_length c.args.bits (item_at c.args.stand_ins.now k).instr) form
    ∙ sym (length-is c.args.bits c.args.items.now c.args.stand_ins.now c.args.plan.now c.args.moved.now c.requires.standing c.requires.plan h c.laws_below.ensures k lt)) in
    front-is (bytes_at c.args.bits c.args.stand_ins.now c.args.plan.now h.layout) k (length c.args.items.now) c.form_len-len.result _ c.items.rest.now lt
    (c.items.invariant.rest h) size

pub split_at-requires : goal.split_at-requires
split_at-requires c = (next (goal.at.split_at-requires c).After-form_len-len c.requires.moved).0

pub bounds-branches-k : goal.bounds-branches-k
bounds-branches-k c =
    let count = branches-count c.args.bits c.args.items.now c.args.stand_ins.now c.args.plan.now c.args.moved.now c.requires.standing c.requires.plan c.requires.moved in
    omega (arith, ap length c.items-branches.ensures, count, c.items-test.true)

pub bounds-branches-k-in-items : goal.bounds-branches-k-in-items
bounds-branches-k-in-items c =
    let count = branches-count c.args.bits c.args.items.now c.args.stand_ins.now c.args.plan.now c.args.moved.now c.requires.standing c.requires.plan c.requires.moved in
    omega (arith, ap length c.items-branches.ensures, count, c.items-test.true)

pub bounds-starts-k : goal.bounds-starts-k
bounds-starts-k c =
    let count = starts-count c.args.bits c.args.items.now c.args.stand_ins.now c.args.plan.now c.args.moved.now c.requires.standing c.requires.plan c.requires.moved in
    omega (arith, ap length c.starts-starts.ensures, count, c.items-test.true)

pub push_bytes-requires : goal.push_bytes-requires
push_bytes-requires c =
    let lt : c.items.k < length c.args.items.now = omega arith in
    subst (λ (x : AnyItem). IsAnySound c.args.bits x) (any-is c.args.items.now c.items.k c.index-items-k.result lt c.index-items-k.is) (c.requires.sound.each c.items.k lt)

pub items-preserved : goal.items-preserved
items-preserved c =
    let k = c.items.k in
    let lt : k < length c.args.items.now = omega arith in
    record {
      out = λ h.
          let n = next (goal.at.items-preserved c).After-form_len-len h in
          let count = branches-count c.args.bits c.args.items.now c.args.stand_ins.now c.args.plan.now c.args.moved.now c.requires.standing c.requires.plan h in
          let small : k < length c.items-branches.result.now = omega (arith, ap length c.items-branches.ensures, count) in
          let b = branch-is c.args.plan.now c.items-branches.result.now k c.index-branches-k.result c.items-branches.ensures small c.index-branches-k.is in
          written-more (λ k. any_bytes c.args.bits (any_at c.args.items.now k) (fragment_at c.args.plan.now h.layout k)) k c.items.out.items c.push_bytes.new.out.items _
          (c.items.invariant.out h) c.in_ok-push_bytes.ensures
          (piece-is c.args.bits c.args.items.now c.args.stand_ins.now c.args.plan.now c.args.moved.now c.requires.standing c.requires.plan h k lt
          c.index-items-k.result (any-is c.args.items.now k c.index-items-k.result lt c.index-items-k.is)
          _ (c.split_at.ensures.front ∙ n.1)
          _ (ap (λ (xs : List ℕ). slice_index_or xs k 0) c.starts-starts.ensures
          ∙ start-is c.args.bits c.args.items.now c.args.stand_ins.now c.args.plan.now c.args.moved.now c.requires.standing c.requires.plan h k lt)
          c.goal_address-goal.result (c.goal_address-goal.ensures
          ∙ (ap (λ (x : Branch). goal_by c.starts-starts.result.now x.goal) (sym c.index-branches-k.is)
          ∙ (ap (λ (xs : List ℕ). goal_by xs c.index-branches-k.result.goal) c.starts-starts.ensures
          ∙ (ap (λ (x : Branch). goal_by c.args.moved.now.starts x.goal) b
          ∙ goal-is c.args.bits c.args.items.now c.args.stand_ins.now c.args.plan.now c.args.moved.now c.requires.standing c.requires.plan h c.laws_below.ensures k lt)))));
      rest = λ h. c.split_at.ensures.back ∙ (next (goal.at.items-preserved c).After-form_len-len h).2;
    }

pub returns : goal.returns
unfolding any_block_bytes
returns c = λ h.
    all-passed (λ k. any_bytes c.args.bits (any_at c.args.items.now k) (fragment_at c.args.plan.now h.layout k))
    (bytes_at c.args.bits c.args.stand_ins.now c.args.plan.now h.layout) c.items.k (length c.args.items.now)
    (gap_bytes c.args.plan.now h.layout 0 ++ slot_bytes (slots_of c.args.plan.now h.layout 0)) c.items.out.items c.items.rest.now c.extend_from_slice.new.self.items
    (omega (arith, c.items-test.false, c.items.auto.k-end)) (c.items.invariant.out h) (c.items.invariant.rest h) c.in_ok-extend_from_slice.ensures.items
