use Rattle.std.proofs.Common.{◌≡◌, ◌<◌, List, map, get_or, ℕ, zero, suc, refl, ap, sym, ◌∙◌, arith}
use Rattle.std.proofs.Math.ListN.{get_or-map}
use Rattle.opcode_rows.specs.NameLines.{early_lines, names_in_line}
use Rattle.opcode_rows.proofs.names.names_in_line.Goals as goal

get-line : (n : ℕ) (d : List (List ℕ)) → n < 3 → get_or early_lines n d ≡ names_in_line n
get-line zero d lt = refl
get-line (suc zero) d lt = refl
get-line (suc (suc zero)) d lt = refl
get-line (suc (suc (suc n))) d lt = absurd (omega (arith, lt))

-- one of three lines
line-at : {T : Type 0} (now : T → List ℕ) (ls : List (List T)) (n : ℕ) (d : List T)
    → map (map now) ls ≡ early_lines → n < 3 → map now (get_or ls n d) ≡ names_in_line n
line-at now ls n d e lt = sym (get_or-map (map now) ls n d) ∙ ap (λ l. get_or l n (map now d)) e ∙ get-line n (map now d) lt

pub returns-clause-names : goal.returns-clause-names
returns-clause-names c = line-at (λ name. name.now) c.early_lines.result.now c.args.n _ c.early_lines.ensures c.requires
