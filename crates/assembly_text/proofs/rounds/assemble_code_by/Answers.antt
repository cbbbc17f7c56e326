use Rattle.std.proofs.Common.{◌<◌, List, [], ℕ, subst, arith}
use Rattle.std.specs.Prelude.{Ok, Err}
use Rattle.assembly_text.specs.declared.text_error.AssembleError.TheVariants.{NoMemory, Unsettled}
use Rattle.assembly_text.specs.Rounds.{view, IsNoRound, IsLastRound, IsOtherRound}
use Rattle.assembly_text.proofs.Settling.{round_bad, round_last, round_other, round_none, last_settled}
use Rattle.assembly_text.proofs.rounds.assemble_code_by.Goals as goal

pub returns-in-Err-clause-exact : goal.returns-in-Err-clause-exact
returns-in-Err-clause-exact c =
    let some : 0 < 16 = omega arith in
    round_bad c.args.rules.now.slots c.args.bits c.args.base c.args.rules.now.names.now c.args.text.now [] 16 some NoMemory tt

pub returns-in-Err-no_known-clause-exact : goal.returns-in-Err-no_known-clause-exact
returns-in-Err-no_known-clause-exact c =
    let some : 0 < 16 = omega arith in
    round_bad c.args.rules.now.slots c.args.bits c.args.base c.args.rules.now.names.now c.args.text.now [] 16 some NoMemory tt

pub returns-in-Err-one_round-clause-exact : goal.returns-in-Err-one_round-clause-exact
returns-in-Err-one_round-clause-exact c =
    let why = c.in-Err-one_round.why in
    let P : List ℕ → List ℕ → Type 0 = λ text places. IsNoRound c.args.rules.now.slots c.args.bits (view c.args.base c.args.rules.now.names.now text places) why in
    let text : P c.args.text.now c.deref.result.now = subst (λ (x : List ℕ). P x c.deref.result.now) c.in-Ok.ensures c.in-Err-one_round.ensures.told in
    c.rounds.invariant.answer (Err why)
    (round_bad c.args.rules.now.slots c.args.bits c.args.base c.args.rules.now.names.now c.args.text.now c.rounds.places.items c.rounds.left c.rounds-test.true why
    (subst (P c.args.text.now) c.deref.ensures.value text))

pub returns-in-None-clause-exact : goal.returns-in-None-clause-exact
returns-in-None-clause-exact c =
    let made = c.in-Ok-one_round.done.0 in
    let P : List ℕ → List ℕ → Type 0 = λ text places. IsLastRound c.args.rules.now.slots c.args.bits (view c.args.base c.args.rules.now.names.now text places) made in
    let last : P c.in-Ok.labels.text.now c.deref.result.now = rw c.in-None.is at c.in-Ok-one_round.ensures.told in
    let text : P c.args.text.now c.deref.result.now = subst (λ (x : List ℕ). P x c.deref.result.now) c.in-Ok.ensures last in
    c.rounds.invariant.answer (Ok made)
    (round_last c.args.rules.now.slots c.args.bits c.args.base c.args.rules.now.names.now c.args.text.now c.rounds.places.items c.rounds.left c.rounds-test.true made
    (subst (P c.args.text.now) c.deref.ensures.value text))

pub returns-in-None-clause-settled : goal.returns-in-None-clause-settled
returns-in-None-clause-settled c =
    let made = c.in-Ok-one_round.done.0 in
    let P : List ℕ → List ℕ → Type 0 = λ text places. IsLastRound c.args.rules.now.slots c.args.bits (view c.args.base c.args.rules.now.names.now text places) made in
    let last : P c.in-Ok.labels.text.now c.deref.result.now = rw c.in-None.is at c.in-Ok-one_round.ensures.told in
    last_settled c.args.rules.now.slots c.args.bits c.args.base c.args.rules.now.names.now c.args.text.now c.deref.result.now made
    (subst (λ (x : List ℕ). P x c.deref.result.now) c.in-Ok.ensures last)

pub rounds-preserved : goal.rounds-preserved
rounds-preserved c =
    let made = c.in-Ok-one_round.done.0 in
    let P : List ℕ → List ℕ → Type 0 = λ text places. IsOtherRound c.args.rules.now.slots c.args.bits (view c.args.base c.args.rules.now.names.now text places) made c.in-Some.more.items in
    let other : P c.in-Ok.labels.text.now c.deref.result.now = rw c.in-Some.is at c.in-Ok-one_round.ensures.told in
    let text : P c.args.text.now c.deref.result.now = subst (λ (x : List ℕ). P x c.deref.result.now) c.in-Ok.ensures other in
    record {
      answer = λ answer more. c.rounds.invariant.answer answer
          (round_other c.args.rules.now.slots c.args.bits c.args.base c.args.rules.now.names.now c.args.text.now c.rounds.places.items c.rounds.left c.rounds-test.true made
          c.in-Some.more.items (subst (P c.args.text.now) c.deref.ensures.value text) answer more);
      known = c.in-Ok-one_round.ensures.known;
    }

pub returns-clause-exact : goal.returns-clause-exact
returns-clause-exact c =
    c.rounds.invariant.answer (Err Unsettled)
    (round_none c.args.rules.now.slots c.args.bits c.args.base c.args.rules.now.names.now c.args.text.now c.rounds.places.items c.rounds.left c.rounds-test.false)
