use Rattle.code_items.proofs.AnyStanding.{all-stand}
use Rattle.code_items.proofs.any_laws.moved_instructions_stand_at_their_places.Goals as goal

pub returns : goal.returns
returns c = all-stand c.laws_below.ensures
