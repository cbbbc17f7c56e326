use Rattle.listing_run.proofs.SampleRun.Refusing as refusing
use Rattle.listing_run.proofs.sample_run.laws.made_code_reaches_its_targets.Goals as goal

pub returns : goal.returns
returns c =
    let made = c.made_code_has_instructions_alone.ensures in
    record {
      memory-alone = λ n few.
          refusing.memory-alone c.totals_rise.ensures c.images_are_short.ensures c.first_numbers_pass.ensures c.plans_are_well_formed.ensures
          c.far_forms_have_slots.ensures c.plans_lay_out_their_items.ensures c.items_reach_their_goals.ensures c.sweeps_agree.ensures
          c.inputs_are_read_in_one_way.ensures c.instructions_are_placed.ensures n (made n few) few;
      made-moved = λ n few.
          refusing.made-moved c.totals_rise.ensures c.images_are_short.ensures c.first_numbers_pass.ensures c.plans_are_well_formed.ensures
          c.far_forms_have_slots.ensures c.plans_lay_out_their_items.ensures c.items_reach_their_goals.ensures c.sweeps_agree.ensures
          c.inputs_are_read_in_one_way.ensures c.instructions_are_placed.ensures n (made n few) few;
    }
