use Rattle.std.proofs.Common.{◌≡◌, ◌+◌, ◌≤◌, ℕ, Bool, true, List, Err, inl, inr, refl, ap, sym, subst, arith}
use Rattle.x86_values.specs.declared.Bits.{Bits}
use Rattle.x86_values.specs.declared.Code.{Code}
use Rattle.modrm_sib.specs.declared.TailError.{TailError}
use Rattle.opcode_rows.specs.Table.{table}
use Rattle.opcode_rows.proofs.Sound.{sound-row}
use Rattle.decoder.specs.Cells.{Scanned}
use Rattle.decoder.proofs.Scanning.{scanned_stop, scanned_read, scanned_goes, scanned_too_short, scanned_invalid}
use Rattle.decoder.proofs.cell.error_of.Goals as goal
use Rattle.decoder.proofs.cell.error_of.Goals.{in-Ok, in-Err-Ended, in-Err-Forbidden, else-goes_on-via-then-goes_on+else-bytes-lt-LONGEST, else-goes_on-via-else-goes_on}

pub read_row-requires-clause-sound : goal.read_row-requires-clause-sound
read_row-requires-clause-sound g c = sound-row _ _ c.row-row.ensures.row

pub loop-n-preserved : goal.loop-n-preserved
loop-n-preserved g c =
    let bits = c.args.bits in
    let bytes = c.args.bytes.now in
    let first = c.args.cell.first in
    let next = first + c.loop-n.n in
    let more : next + 1 ≡ first + (c.loop-n.n + 1) = omega arith in
    let code : Code = record { 0 = next } in
    let row = c.row-row.result in
    let there = c.row-row.ensures.row in
    let before = c.loop-n.invariant.rows in
    let count : c.row-row.new.steps ≤ c.args.steps.now + (c.loop-n.n + 1) = omega arith in
    elim c.match-read_row.branch [
      | in-Ok w ↦ record {
        rows = subst (λ m. Scanned table bits bytes first m c.match-read_row.goes_on) more
            (subst (λ f. Scanned table bits bytes first (next + 1) f) (sym w.goes_on-is)
            (scanned_read table bits c.args.ip bytes first c.loop-n.goes_on code row w.in-Ok.field-0 there w.in-Ok.ensures.ok c.requires.nothing before));
        count = count;
      }
      | in-Err-Ended w ↦ (let says = w.in-Err-Ended.ensures.ended (ap (λ (e : TailError). Err e) w.in-Err-Ended.field-0-is) in record {
        rows = subst (λ m. Scanned table bits bytes first m c.match-read_row.goes_on) more
            (subst (λ f. Scanned table bits bytes first (next + 1) f) (sym w.goes_on-is)
            (scanned_goes table bits bytes first c.loop-n.goes_on code row there says.0 says.1 before));
        count = count;
      })
      | in-Err-Forbidden w ↦ (let says = w.in-Err-Forbidden.ensures.forbidden (ap (λ (e : TailError). Err e) w.in-Err-Forbidden.field-0-is) in record {
        rows = subst (λ m. Scanned table bits bytes first m c.match-read_row.goes_on) more
            (subst (λ f. Scanned table bits bytes first (next + 1) f) (sym w.goes_on-is)
            (scanned_stop table bits bytes first next c.loop-n.goes_on row there says.0 says.1 before));
        count = count;
      })
    ]

-- all rows of the cell were looked at
all_scanned : (bits : Bits) (bytes : List ℕ) (first len n : ℕ) (goes_on flag : Bool) → n ≤ len → len ≤ n → goes_on ≡ flag → Scanned table bits bytes first (first + n) goes_on → Scanned table bits bytes first (first + len) flag
all_scanned bits bytes first len n goes_on flag at_most at_least e h =
    let same : n ≡ len = omega arith in
    subst (λ f. Scanned table bits bytes first (first + len) f) e (subst (λ m. Scanned table bits bytes first (first + m) goes_on) same h)

pub returns-then-bytes-lt-LONGEST-clause-reading : goal.returns-then-bytes-lt-LONGEST-clause-reading
returns-then-bytes-lt-LONGEST-clause-reading g c =
    let first = c.args.cell.first in
    let len = c.args.cell.len in
    scanned_too_short table c.args.bits c.args.ip c.args.bytes.now c.args.state.now first (first + len) c.requires.front c.requires.rows
    (all_scanned c.args.bits c.args.bytes.now first len c.loop-n.n c.loop-n.goes_on true c.loop-n.auto.n-end c.loop-n-test.false c.if-goes_on.true c.loop-n.invariant.rows)
    c.if-bytes-lt-LONGEST.true

pub returns-else-goes_on-clause-reading : goal.returns-else-goes_on-clause-reading
returns-else-goes_on-clause-reading g c =
    let first = c.args.cell.first in
    let len = c.args.cell.len in
    let bytes = c.args.bytes.now in
    scanned_invalid table c.args.bits c.args.ip bytes c.args.state.now first (first + len) c.loop-n.goes_on c.requires.front c.requires.rows
    (all_scanned c.args.bits bytes first len c.loop-n.n c.loop-n.goes_on c.loop-n.goes_on c.loop-n.auto.n-end c.loop-n-test.false refl c.loop-n.invariant.rows)
    (elim c.else-goes_on.branch [
      | else-goes_on-via-then-goes_on+else-bytes-lt-LONGEST w ↦ inr w.if-bytes-lt-LONGEST.false
      | else-goes_on-via-else-goes_on w ↦ inl w.if-goes_on.false
    ])
