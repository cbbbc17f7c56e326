use Rattle.std.proofs.Common.{◌≤◌, ℕ, List, length, refl, sym, ap, ◌∙◌, arith, subst, sum}
use Rattle.move_goals.specs.declared.items.Placed.{Placed}
use Rattle.moving_run.specs.Code.{placed_in}
use Rattle.listing_run.specs.SampleRun.Sample.{grown_count}
use Rattle.opcode_rows.specs.Sweep.{IsSweep}
use Rattle.x86_values.specs.declared.Bits.TheVariants.{B64}
use Rattle.listing_run.specs.SampleRun.Generator.{sample_base, sample_code}
use Rattle.listing_run.specs.SampleRun.Made.{HasInstructions}
use Rattle.moving_run.specs.Moving.{IsMovingRefusal, MovesInput}
use Rattle.listing_run.specs.SampleRun.Facts.{made_block}
use Rattle.listing_run.proofs.sample_run.summary.summarize.Goals as goal

short : (n : ℕ) → HasInstructions n → n ≤ 65536 → length (sample_code n) ≤ 1048576
short n made few = let s = made.short in omega arith

pub move_input-requires-clause-short : goal.move_input-requires-clause-short
move_input-requires-clause-short c = omega (arith, ap length (c.deref.ensures.value ∙ c.in-Ok.ensures), short c.args.count (c.made_code_has_instructions_alone.ensures c.args.count c.requires) c.requires)

pub listing_len-requires : goal.listing_len-requires
listing_len-requires c = omega (arith, ap length (c.deref-in-Ok-move_input.ensures.value ∙ c.in-Ok.ensures), short c.args.count (c.made_code_has_instructions_alone.ensures c.args.count c.requires) c.requires)

pub grown_count-requires : goal.grown_count-requires
grown_count-requires c =
    ap length c.forms.ensures
    ∙ (c.instructions_are_placed.ensures.forms_length B64 made_block _ _ _ c.in-Ok-move_input.ensures ∙ ap length (sym c.deref-in-Ok-move_input-2.ensures.value))

pub returns-in-Ok-move_input : goal.returns-in-Ok-move_input
returns-in-Ok-move_input c =
    let n = c.args.count in
    let few : n ≤ 65536 = c.requires in
    let code_is = c.deref-in-Ok-move_input.ensures.value ∙ c.in-Ok.ensures in
    let input_is = c.deref.ensures.value ∙ c.in-Ok.ensures in
    let listed = c.listing_len.ensures in
    let sweep = subst (λ (xs : List ℕ). IsSweep B64 sample_base xs listed.0) code_is listed.1.0 in
    let m = c.in-Ok-move_input.moved.blocks in
    let moves = subst (λ (xs : List ℕ). MovesInput B64 made_block xs c.in-Ok-move_input.moved.items.items m) input_is c.in-Ok-move_input.ensures in
    let moved = c.made_code_reaches_its_targets.ensures.made-moved n few listed.0 c.in-Ok-move_input.moved.items.items m sweep moves in
    record {
      items = listed.0;
      sweep = sweep;
      moved = m;
      is_moved = moved.1;
      instructions = refl;
      bytes = c.len.ensures ∙ (sym c.deref.ensures.len ∙ ap length input_is);
      text = listed.1.1;
      moved_bytes = ap length c.bytes.ensures;
      grown_items = c.grown_count.ensures
          ∙ (ap (λ (xs : List Placed). grown_count xs c.forms.result.now) (c.deref-in-Ok-move_input-2.ensures.value ∙ moved.0) ∙ ap (grown_count (placed_in sample_base listed.0)) c.forms.ensures);
      sum_is = c.sum_of.ensures ∙ ap sum c.bytes-in-Ok-move_input.ensures;
    }

pub returns : goal.returns
returns c =
    let input_is = c.deref.ensures.value ∙ c.in-Ok.ensures in
    c.made_code_reaches_its_targets.ensures.memory-alone c.args.count c.requires c.in-Err.status
    (subst (λ (xs : List ℕ). IsMovingRefusal B64 made_block xs c.in-Err.status) input_is c.in-Err.ensures)
