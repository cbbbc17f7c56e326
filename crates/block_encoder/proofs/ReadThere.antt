-- A relative branch whose form reaches has its bytes exactly where reading them at its place gives the goal.
use Rattle.std.proofs.Common.{◌≡◌, ℕ, ◌+◌, ◌<◌, List, [], ◌∷◌, ◌++◌, length, take, drop, Option, Some, None, Ok, refl, ap, sym, subst, ◌∙◌, arith}
use Rattle.std.specs.Prelude.{IsSome, is_some}
use Rattle.std.proofs.Math.Seq.{drop-append_seam}
use Rattle.std.proofs.lemmas.List.{length-take-le}
use Rattle.x86_values.specs.declared.Bits.{Bits}
use Rattle.x86_values.specs.declared.Instr.{Instr}
use Rattle.x86_values.specs.Wrapping.{modulo_width}
use Rattle.instruction_parts.specs.Bytes.{bytes_of}
use Rattle.row_relation.specs.Spells.{ReadsAs}
use Rattle.plain_spelling.specs.PlainTail.{plain_spelling}
use Rattle.opcode_rows.specs.Table.{table}
use Rattle.operand_info.specs.Operands.{near_value, first_value}
use Rattle.encoder.specs.Encoding.{encoding}
use Rattle.branch_sizes.specs.declared.plan.BlockSpan.{BlockSpan}
use Rattle.branch_sizes.specs.declared.plan.Goal.{Goal}
use Rattle.branch_sizes.specs.Layout.{IsLayout, Reaches}
use Rattle.move_goals.specs.MovedTargets.Targets.{plain_length}
use Rattle.move_goals.specs.declared.items.Placed.{Placed}
use Rattle.move_goals.specs.Items.{ArePlaced, item_at}
use Rattle.move_goals.specs.Plan.{plan_with}
use Rattle.branch_sizes.specs.MoveLayout.Laid.{fragment_at}
use Rattle.block_encoder.specs.Bytes.{bytes_from, fragment_image, fragment_bytes}
use Rattle.block_encoder.specs.Moved.{IsReached}
use Rattle.block_encoder.specs.Read.{AreRead, IsReadToGoal}
use Rattle.block_encoder.specs.LawsBelow.{MovedLawsBelow}
use Rattle.block_encoder.proofs.Sweeping.{HaveFour, parted, cons-spelled}
use Rattle.block_encoder.proofs.Pieces.{spelled-four, image-four}
use Rattle.block_encoder.proofs.Chosen.{fragment-own}
use Rattle.block_encoder.proofs.Going.{branched, goes-near, goes-slot}
use Rattle.block_encoder.proofs.Branching.{branch_reach}

some-known : (o : Option (List ℕ)) → IsSome o → (bytes : List ℕ) × (o ≡ Some bytes)
some-known None h = cc
some-known (Some bytes) h = (bytes, refl)

known-some : (o : Option (List ℕ)) (bytes : List ℕ) → o ≡ Some bytes → IsSome o
known-some o bytes e = ap is_some e

none_left : (bits : Bits) (at : ℕ) (all : List ℕ) → bytes_from bits at [] ≡ Some all → all ≡ []
unfolding bytes_from
none_left bits at all h = cc

no_bytes : (bits : Bits) (at : ℕ) → bytes_from bits at [] ≡ Some []
unfolding bytes_from
no_bytes bits at = refl

module _ (laws : MovedLawsBelow) where
  -- **plain spellings one behind another are read as their instructions**
  encoded-read : (bits : Bits) (at : ℕ) (is : List Instr) (all : List ℕ) → HaveFour is → bytes_from bits at is ≡ Some all → AreRead bits at all is
  encoded-read bits at [] all four h = none_left bits at all h
  encoded-read bits at (i ∷ is) all four h =
      let p = parted bits at i is all h in
      let plain = laws.encodings.encoded-plain bits at i p.bytes four.0 p.first in
      let len : length p.bytes ≡ plain_length bits i = laws.targets.encoding-length bits at i p.bytes p.first in
      let reads : ReadsAs table bits (modulo_width bits at) (p.bytes ++ p.rest) i (length p.bytes) =
      laws.encodings.plain-reads bits (modulo_width bits at) p.bytes p.rest i plain in
      let dropped : drop (length p.bytes) all ≡ p.rest = ap (drop (length p.bytes)) p.all_are ∙ drop-append_seam p.bytes p.rest in
      let more = encoded-read bits (at + length p.bytes) is p.rest four.1 p.others in (
        subst (λ (n : ℕ). ReadsAs table bits (modulo_width bits at) all i n) len
            (subst (λ (bytes : List ℕ). ReadsAs table bits (modulo_width bits at) bytes i (length p.bytes)) (sym p.all_are) reads),
        subst (λ (n : ℕ). AreRead bits (at + n) (drop n all) is) len
            (subst (λ (bytes : List ℕ). AreRead bits (at + length p.bytes) bytes is) (sym dropped) more),
      )

  -- what is read there, as long as its plain spelling, has an encoding there
  read-one : (bits : Bits) (at : ℕ) (i : Instr) (bytes : List ℕ) → ReadsAs table bits (modulo_width bits at) bytes i (plain_length bits i)
      → (plain : List ℕ) × (encoding bits at i ≡ Ok plain)
  read-one bits at i bytes (le, (short, (row, is_row, (s, e)))) =
      let n = plain_length bits i in
      let len = laws.targets.plain_length-row bits i row is_row in
      let taken : length (take n bytes) ≡ n = length-take-le n bytes le in (
        bytes_of row (plain_spelling bits (modulo_width bits at) row i),
        laws.spelled.spelled-encoded bits at (take n bytes) i row s is_row e (omega (arith, len, taken)) short,
      )

  -- **instructions that are read one behind another have their plain spellings there**
  read-encoded : (bits : Bits) (at : ℕ) (is : List Instr) (bytes : List ℕ) → AreRead bits at bytes is → (all : List ℕ) × (bytes_from bits at is ≡ Some all)
  read-encoded bits at [] bytes h = ([], no_bytes bits at)
  read-encoded bits at (i ∷ is) bytes (reads, rest) =
      let one = read-one bits at i bytes reads in
      let len = laws.targets.encoding-length bits at i one.0 one.1 in
      let more = read-encoded bits (at + plain_length bits i) is (drop (plain_length bits i) bytes) rest in (
        one.0 ++ more.0,
        cons-spelled bits at i is one.0 more.0 one.1 (subst (λ (n : ℕ). bytes_from bits (at + n) is ≡ Some more.0) (sym len) more.1),
      )

  -- ---- branches

  module _ (bits : Bits) (items : List Placed) (spans : List BlockSpan) (goals : ℕ → Goal) (placed : ArePlaced bits items)
      (layout : List ℕ) (l : IsLayout (plan_with bits spans items goals) layout) (k t : ℕ) (lt : k < length items)
      (branch : first_value near_value (item_at items k).instr ≡ Some t) where
    -- **where it has its bytes, reading them gives the goal**
    pub reached-read : IsReached bits items (plan_with bits spans items goals) layout k
        → IsReadToGoal bits (item_at items k).instr (fragment_at (plan_with bits spans items goals) layout k)
    unfolding fragment_at
    reached-read reached =
        let fragment = fragment_at (plan_with bits spans items goals) layout k in
        let i = placed k lt in
        let instr = (item_at items k).instr in
        let four = image-four bits instr fragment.form fragment.place fragment.goal fragment.slot (spelled-four bits (modulo_width bits (item_at items k).ip) i.bytes instr i.spelled) in
        let some = some-known (fragment_bytes bits instr fragment) reached.1 in
        record {
          bytes = some.0;
          read = encoded-read bits fragment.place (fragment_image bits instr fragment) some.0 four some.1;
          near = λ close. goes-near laws bits items spans goals layout k placed lt l t branch close;
          far = λ far. goes-slot laws bits items spans goals layout k placed lt t branch far;
        }

    -- **and where some bytes are read so, it has its bytes**
    pub read-reached : (let fragment = fragment_at (plan_with bits spans items goals) layout k in Reaches fragment.reach fragment.len fragment.place fragment.goal)
        → IsReadToGoal bits (item_at items k).instr (fragment_at (plan_with bits spans items goals) layout k) → IsReached bits items (plan_with bits spans items goals) layout k
    unfolding fragment_at
    read-reached reaches there =
        let fragment = fragment_at (plan_with bits spans items goals) layout k in
        let i = placed k lt in
        let instr = (item_at items k).instr in
        let b = branched laws bits (modulo_width bits (item_at items k).ip) i.bytes instr t i.spelled branch in
        let own = fragment-own bits spans items goals layout l k lt b.0 b.1 in
        let found = read-encoded bits fragment.place (fragment_image bits instr fragment) there.bytes there.read in
        (branch_reach instr fragment.form fragment.reach fragment.len fragment.place fragment.goal own reaches, known-some (fragment_bytes bits instr fragment) found.0 found.1)
