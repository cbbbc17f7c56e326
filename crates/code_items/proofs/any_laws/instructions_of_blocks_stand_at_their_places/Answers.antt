use Rattle.code_items.proofs.AnyStanding.{stands}
use Rattle.code_items.proofs.any_laws.instructions_of_blocks_stand_at_their_places.Goals as goal

pub returns : goal.returns
returns c bits items goals new m well moved k lt = stands c.laws_below.ensures bits items goals new m well moved k lt
