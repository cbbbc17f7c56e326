use Rattle.c_calls.proofs.MovedEnds.{follow-ends, stay-ends, blocks-end}
use Rattle.c_calls.proofs.laws.code_ends_with_its_images.Goals as goal

pub returns-clause-follow : goal.returns-clause-follow
returns-clause-follow c = λ bits items new m moved. follow-ends c.plans_lay_out_their_items.ensures bits items new m moved

pub returns-clause-stay : goal.returns-clause-stay
returns-clause-stay c = λ bits items new m moved. stay-ends c.plans_lay_out_their_items.ensures bits items new m moved

pub returns-clause-blocks : goal.returns-clause-blocks
returns-clause-blocks c = λ bits spans items m of moved b lt. blocks-end c.plans_lay_out_their_items.ensures bits spans items m of moved b lt
