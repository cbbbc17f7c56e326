use Rattle.std.proofs.Common.{◌≡◌, ℕ, List, false, refl, sym, ◌∙◌, bytes_eq}
use Rattle.std.specs.Prelude.{is_some}
use Rattle.std.specs.HashMap as hash
use Rattle.std.proofs.lemmas.Map.Text.{hash_map_updates_str}
use Rattle.assembly_text.proofs.Finding.{named_once}
use Rattle.assembly_text.proofs.labels.add_name.Goals as goal

pub returns-in_ok-insert : goal.returns-in_ok-insert
returns-in_ok-insert c = λ name.
    let label = c.args.label.now in
    let m = c.args.numbers.now in
    let put = hash_map_updates_str label m c.insert.new.self _ c.in_ok-insert.ensures.updates name in
    let absent : is_some (hash.get_by (λ k. bytes_eq label k.now) m) ≡ false = sym c.contains_key.ensures ∙ c.if-not-contains_key.true in
    named_once (bytes_eq label name) label name (λ (q : List ℕ). hash.get_by (λ k. bytes_eq q k.now) m) c.args.number _ refl absent put
