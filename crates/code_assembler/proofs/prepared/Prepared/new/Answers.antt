use Rattle.std.proofs.Common.{◌≡◌, ℕ, ◌∙◌, ap, sym, subst, List, length, Option, rules, arith}
use Rattle.std.specs.Prelude.{unwrap_or}
use Rattle.encoder.specs.Encoding.{encoding}
use Rattle.move_goals.specs.Ready.{MayBeReady}
use Rattle.move_goals.specs.MovedTargets.Targets.{plain_length}
use Rattle.move_goals.specs.declared.items.Placed.{Placed}
use Rattle.x86_values.specs.declared.Instr.{Instr}
use Rattle.code_assembler.specs.Built.{own_address, encoding_refusal}
use Rattle.code_assembler.proofs.AtLabels.{encoded_placed}
use Rattle.code_assembler.proofs.ReadyItems.{encoded_ready}
use Rattle.code_assembler.proofs.prepared.Prepared.new.Goals as goal

-- an item by its parts
same_item : (ip jp n m : ℕ) (i : Instr) → ip ≡ jp → n ≡ m → (let a : Placed = record { ip = ip; len = n; instr = i } in let b : Placed = record { ip = jp; len = m; instr = i } in a ≡ b)
same_item ip jp n m i e f = cc

pub invariant_of-result : goal.invariant_of-result
invariant_of-result c =
    let i = c.args.instr.now in
    let len : c.len.result ≡ plain_length c.args.bits i =
    c.len.ensures.value ∙ c.laws_below.ensures.targets.encoding-length c.args.bits c.unwrap_or-ip.result i c.in-Ok.bytes.items (sym c.in-Ok.ensures.encoding) in
    let own : c.unwrap_or-ip.result ≡ own_address i = c.unwrap_or-ip.ensures ∙ ap (λ (o : Option ℕ). unwrap_or o 0) c.target_of-target.ensures in
    let four : length i.ops ≡ 4 = search rules in
    record {
      at_target = same_item c.unwrap_or-ip.result _ c.len.result _ i own len;
      placed = encoded_placed c.laws_below.ensures c.args.bits c.unwrap_or-ip.result c.len.result i c.in-Ok.bytes.items len c.in-Ok.ensures.plain;
      encoded = ap encoding_refusal (ap (λ (ip : ℕ). encoding c.args.bits ip i) (sym own) ∙ sym c.in-Ok.ensures.encoding);
      bytes = subst (λ (bs : List ℕ). MayBeReady c.args.bits i bs) (sym c.without_target.ensures)
          (encoded_ready c.args.bits i c.target_of-target.result c.in-Ok.bytes.items (sym c.target_of-target.ensures) (omega (arith, c.len.ensures.value, c.len.ensures.fits))
          (λ none ip. c.without_target_encoded_alike.ensures c.args.bits ip c.unwrap_or-ip.result i four (sym c.target_of-target.ensures ∙ none)
          ∙ sym c.in-Ok.ensures.encoding));
    }
