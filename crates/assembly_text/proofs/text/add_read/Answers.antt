use Rattle.std.proofs.Common.{◌≡◌, true, false, List, ℕ, refl, sym, ap, ◌∙◌}
use Rattle.std.specs.Prelude.{bytes_eq}
use Rattle.assembly_text.specs.Placing.{view_of, placed_text}
use Rattle.assembly_text.proofs.Telling.{same_closed, other_open, closed_told, whole_told, placed_told}
use Rattle.assembly_text.proofs.text.add_read.Goals as goal

pub returns-then-is_whole : goal.returns-then-is_whole
returns-then-is_whole c =
    whole_told (view_of c.args.round.now) c.args.body.now c.args.read.now.code _ _ c.args.trace.now (record c.args.trace.now { after_data = false })
    c.push_code.result c.requires.read (sym c.is_whole.ensures ∙ c.if-is_whole.true) refl c.push_code.ensures

pub returns-then-eq : goal.returns-then-eq
returns-then-eq c =
    let v = view_of c.args.round.now in
    let body = c.args.body.now in
    let code = c.args.read.now.code in
    let words = sym (c.as_slice.ensures.value ∙ c.in_ok-placed.ensures) in
    let same : bytes_eq (placed_text v body) body ≡ true = ap (λ (x : List ℕ). bytes_eq x body) words ∙ (sym c.eq.ensures ∙ c.if-eq.true) in
    closed_told v body code _ _ c.args.trace.now (record c.args.trace.now { after_data = false }) c.add_closed.result c.requires.read
    (same_closed v body code same) refl c.add_closed.ensures

pub returns : goal.returns
returns c =
    let v = view_of c.args.round.now in
    let body = c.args.body.now in
    let code = c.args.read.now.code in
    let words = sym (c.as_slice.ensures.value ∙ c.in_ok-placed.ensures) in
    let other : bytes_eq (placed_text v body) body ≡ false = ap (λ (x : List ℕ). bytes_eq x body) words ∙ (sym c.eq.ensures ∙ c.if-eq.false) in
    placed_told v body code _ _ c.args.trace.now (record { after_data = false; placed = true }) c.add_placed.result c.requires.read
    (other_open v body code (sym c.is_whole.ensures ∙ c.if-is_whole.false) other) refl c.add_placed.ensures

pub push_code-requires : goal.push_code-requires
push_code-requires c = c.requires.prepared

pub add_closed-requires : goal.add_closed-requires
add_closed-requires c = c.requires.prepared
