use Rattle.block_encoder.proofs.ReadThere.{reached-read, read-reached}
use Rattle.block_encoder.proofs.laws.branches_are_reached_where_they_are_read.Goals as goal

pub returns : goal.returns
returns c = λ bits items spans goals placed layout l k t lt branch reaches. (
  λ reached. reached-read c.laws_below.ensures bits items spans goals placed layout l k t lt branch reached,
  λ there. read-reached c.laws_below.ensures bits items spans goals placed layout l k t lt branch reaches there,
)
