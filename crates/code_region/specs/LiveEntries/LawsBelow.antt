-- What the proofs of this crate use of the crate below: what its laws say.
use Rattle.code_region.specs.Facts.{PlaceFacts, RegionFacts}

-- regions, and places in them
pub record RegionLaws : Type 0 where
  pub regions : RegionFacts
  pub places : PlaceFacts
