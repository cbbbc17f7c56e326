use Rattle.std.proofs.Common.{◌≡◌, ℕ, false, ◌∙◌, ap, sym, length, Option, Some, None, is_some, refl, rules, arith}
use Rattle.std.specs.Prelude.{unwrap_or, Ok}
use Rattle.x86_values.specs.declared.Instr.{Instr}
use Rattle.encoder.specs.Encoding.{encoding}
use Rattle.move_goals.specs.MovedTargets.Targets.{target_of, plain_length}
use Rattle.move_goals.specs.declared.items.Placed.{Placed}
use Rattle.code_assembler.specs.Built.{own_address, encoding_refusal}
use Rattle.code_assembler.proofs.AtLabels.{encoded_placed}
use Rattle.code_assembler.proofs.prepared.prepared_from.Goals as goal

-- an item by its parts
same_item : (ip jp n m : ℕ) (i : Instr) → ip ≡ jp → n ≡ m → (let a : Placed = record { ip = ip; len = n; instr = i } in let b : Placed = record { ip = jp; len = m; instr = i } in a ≡ b)
same_item ip jp n m i e f = cc

-- what is not some target is none
no_target : (o : Option ℕ) → is_some o ≡ false → o ≡ None
no_target None e = refl
no_target (Some t) e = absurd cc

pub invariant_of-result : goal.invariant_of-result
invariant_of-result c =
    let i = c.args.instr.now in
    let bytes = c.args.bytes.items in
    let four : length i.ops ≡ 4 = search rules in
    let none : target_of i ≡ None = sym c.target_of.ensures ∙ no_target c.target_of.result (sym c.is_some.ensures ∙ c.if-is_some.false) in
    let all : (ip : ℕ) → encoding c.args.bits ip i ≡ Ok bytes =
    λ ip. c.without_target_encoded_alike.ensures c.args.bits ip c.args.ip i four none ∙ c.requires in
    let len : c.len.result ≡ plain_length c.args.bits i =
    c.len.ensures.value ∙ c.laws_below.ensures.targets.encoding-length c.args.bits 0 i bytes (all 0) in
    let own : 0 ≡ own_address i = sym (ap (λ (o : Option ℕ). unwrap_or o 0) none) in
    record {
      at_target = same_item 0 _ c.len.result _ i own len;
      placed = encoded_placed c.laws_below.ensures c.args.bits 0 c.len.result i bytes len (c.laws_below.ensures.encodings.encoded-plain c.args.bits 0 i bytes four (all 0));
      encoded = ap encoding_refusal (all (own_address i));
      bytes = λ some. record { untargeted = none; few = omega (arith, c.len.ensures.value, c.len.ensures.fits); encoded = all };
    }
