use Rattle.block_encoder.proofs.Going.{goes-nowhere, goes-address, goes-near, goes-far, goes-over}
use Rattle.block_encoder.proofs.laws.images_go_to_their_goals.Goals as goal

pub returns-clause-stays : goal.returns-clause-stays
returns-clause-stays c = λ bits items spans goals placed layout k lt none. goes-nowhere c.laws_below.ensures bits items spans goals layout k placed lt none

pub returns-clause-address : goal.returns-clause-address
returns-clause-address c = λ bits items spans goals placed layout k lt none. goes-address c.laws_below.ensures bits items spans goals layout k none

pub returns-clause-near : goal.returns-clause-near
returns-clause-near c = λ bits items spans goals placed layout l k t lt some far. goes-near c.laws_below.ensures bits items spans goals layout k placed lt l t some far

pub returns-clause-far : goal.returns-clause-far
returns-clause-far c = λ bits items spans goals placed layout k t lt some far. goes-far c.laws_below.ensures bits items spans goals layout k placed lt t some far

pub returns-clause-over : goal.returns-clause-over
returns-clause-over c = λ bits items spans goals layout k n lt. goes-over c.laws_below.ensures bits items spans goals layout k n lt
