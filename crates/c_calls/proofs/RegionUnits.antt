-- The blocks and places of a region stand in units of 16 bytes.
use Rattle.std.proofs.Common.{◌≡◌, ℕ, zero, suc, ◌+◌, ◌-◌, ◌%◌, ◌<◌, ◌≤◌, true, List, [], ◌∷◌, length, get_or, map, replicate, Ok, arith}
use Rattle.std.specs.Prelude.{◌==◌, ◌&&◌, IsTrue}
use Rattle.std.proofs.lemmas.Bool.{and_parts, leb-true, eqb-true}
use Rattle.std.proofs.lemmas.List.{length-replicate}
use Rattle.x86_values.specs.declared.Bits.{Bits}
use Rattle.code_region.specs.Facts.{PlaceFacts}
use Rattle.code_region.specs.Keeping.{AreLaid}
use Rattle.code_region.specs.Laws.{AreInUnits}
use Rattle.code_region.specs.Placing.{place_answer}
use Rattle.code_region.specs.State.{LiveBlock, int3}
use Rattle.step_slots.specs.Block.{reserved_room}
use Rattle.c_calls.specs.declared.flat.FlatRegion.{FlatRegion}
use Rattle.c_calls.specs.declared.flat.FlatLive.{FlatLive}
use Rattle.c_calls.specs.declared.stepping.StepCode.{StepCode}
use Rattle.c_calls.specs.Regions.{are_laid, are_in_units, live_of, is_region, live_block_of, region_of}
use Rattle.c_calls.specs.Steps.{IsSteppedBy}
use Rattle.c_calls.proofs.RegionCalls.{region_is}
use Rattle.c_calls.proofs.RegionsLaid.{laid_front}

-- laid blocks are those of a sound region
laid-sound : (from limit : ℕ) (live : List FlatLive) → are_laid from limit live ≡ true → AreLaid from limit (map live_block_of live)
laid-sound from limit [] h = leb-true from limit h
laid-sound from limit (b ∷ bs) h =
    let f = laid_front from limit b bs h in
    let n : length (replicate b.len int3) ≡ b.len = length-replicate b.len int3 in
    (f.0, f.1, n, laid-sound (b.place + b.len) limit bs f.2)

-- each is in units
units-at : (base : ℕ) (live : List FlatLive) → are_in_units base live ≡ true → (k : ℕ) (d : LiveBlock) → k < length (map live_block_of live)
    → (((get_or (map live_block_of live) k d).place - base) % 16 ≡ 0) × ((get_or (map live_block_of live) k d).len % 16 ≡ 0)
units-at base [] h k d lt = absurd (omega arith)
units-at base (b ∷ bs) h zero d lt =
    let p = and_parts ((b.place - base) % 16 == 0) (b.len % 16 == 0 && are_in_units base bs) h in
    let q = and_parts (b.len % 16 == 0) (are_in_units base bs) p.1 in
    (eqb-true ((b.place - base) % 16) 0 p.0, eqb-true (b.len % 16) 0 q.0)
units-at base (b ∷ bs) h (suc k) d lt =
    let p = and_parts ((b.place - base) % 16 == 0) (b.len % 16 == 0 && are_in_units base bs) h in
    let q = and_parts (b.len % 16 == 0) (are_in_units base bs) p.1 in
    units-at base bs q.1 k d (omega arith)

-- **the live blocks of a region are in units**
pub live-units : (region : FlatRegion) (blocks : List FlatLive) → IsTrue (is_region region blocks) → AreInUnits (region_of region blocks)
live-units region blocks h = λ k d lt. units-at region.base (live_of region blocks) (region_is region blocks h).units k d lt

-- **so is each place that is handed out**
pub place-units : (facts : PlaceFacts) (region : FlatRegion) (blocks : List FlatLive) (len place : ℕ) → IsTrue (is_region region blocks)
    → place_answer (region_of region blocks) len ≡ Ok place → (region.base ≤ place) × ((place - region.base) % 16 ≡ 0)
place-units facts region blocks len place h answer =
    let is = region_is region blocks h in
    facts.place-units (region_of region blocks) len place (laid-sound region.base (region.base + region.size) (live_of region blocks) is.laid) (live-units region blocks h) answer

-- **the code of a step fits in what is reserved for it**
pub step-fits : (facts : PlaceFacts) (region : FlatRegion) (blocks : List FlatLive) (len place : ℕ) → IsTrue (is_region region blocks)
    → place_answer (region_of region blocks) len ≡ Ok place → (bits : Bits) (ip : ℕ) (bytes : List ℕ) (code : StepCode) (stepped : IsSteppedBy bits ip bytes place code)
    → length code.moved.bytes ≤ reserved_room bits region.base stepped.item
step-fits facts region blocks len place h answer bits ip bytes code stepped =
    let units = place-units facts region blocks len place h answer in
    stepped.fits region.base units.0 units.1
