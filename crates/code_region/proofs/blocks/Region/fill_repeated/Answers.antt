use Rattle.std.proofs.Common.{ℕ, ◌∙◌, sym, subst, IsTrue}
use Rattle.std.proofs.lemmas.List.{length-replicate}
use Rattle.code_region.specs.Filling.{can_fill}
use Rattle.code_region.proofs.Commanded.{reply-not_live, after-not_live, reply-too_long, after-too_long, fill-fits, reply-filled, after-filled}
use Rattle.code_region.proofs.blocks.Region.fill_repeated.Goals as goal

pub set_content-requires : goal.set_content-requires
set_content-requires c =
    let P : ℕ → Type 0 = λ n. IsTrue (can_fill c.args.self.now c.args.place n) in
    subst P (sym (length-replicate c.args.count c.args.byte))
    (fill-fits _ _ _ c.in-Some.limit (sym c.block_len.ensures ∙ c.in-Some.is) c.if-limit-count.false)

pub returns-in-None-clause-reply : goal.returns-in-None-clause-reply
returns-in-None-clause-reply c = reply-not_live _ _ c.args.byte _ (sym c.block_len.ensures ∙ c.in-None.is)

pub returns-in-None-clause-state : goal.returns-in-None-clause-state
returns-in-None-clause-state c = after-not_live _ _ c.args.byte _ (sym c.block_len.ensures ∙ c.in-None.is)

pub returns-in-Some-clause-reply : goal.returns-in-Some-clause-reply
returns-in-Some-clause-reply c = reply-too_long _ _ c.args.byte _ c.in-Some.limit (sym c.block_len.ensures ∙ c.in-Some.is) c.if-limit-count.true

pub returns-in-Some-clause-state : goal.returns-in-Some-clause-state
returns-in-Some-clause-state c = after-too_long _ _ c.args.byte _ c.in-Some.limit (sym c.block_len.ensures ∙ c.in-Some.is) c.if-limit-count.true

pub returns-in-Some-2-clause-reply : goal.returns-in-Some-2-clause-reply
returns-in-Some-2-clause-reply c = reply-filled _ _ c.args.byte _ c.in-Some.limit (sym c.block_len.ensures ∙ c.in-Some.is) c.if-limit-count.false

pub returns-in-Some-2-clause-state : goal.returns-in-Some-2-clause-state
returns-in-Some-2-clause-state c =
    c.set_content.ensures ∙ after-filled _ _ c.args.byte _ c.in-Some.limit (sym c.block_len.ensures ∙ c.in-Some.is) c.if-limit-count.false
