use Rattle.std.proofs.Common.{◌≡◌, Bool, true, false, not, refl, ap, sym, ◌∙◌}
use Rattle.std.proofs.lemmas.Bool.{and_parts}
use Rattle.intel_words.specs.declared.words.IntelWords.{IntelWords}
use Rattle.intel_words.specs.Pieces.{is_there, behind_words, ends_in_name, is_unsized_in, is_told}
use Rattle.intel_words.proofs.InPieces.{IsRead, unsized-read}
use Rattle.intel_words.proofs.ToldPieces.{ends-as, pieces-words}
use Rattle.intel_words.proofs.pieces.read_unsized.Goals as goal

is-not : (b : Bool) → not b ≡ true → b ≡ false
is-not true h = sym h
is-not false h = refl

pub returns-then-is_unsized_at-clause-printed : goal.returns-then-is_unsized_at-clause-printed
returns-then-is_unsized_at-clause-printed c =
    let prefixes = c.read_prefixes-prefixes.result in
    let p = c.args.pieces.now in
    let words : IntelWords = record {
      lock = prefixes.lock;
      rep = prefixes.rep;
      seg = prefixes.seg;
      asize = prefixes.asize;
      osize = prefixes.osize;
      ops = c.operands_into.new.ops;
    } in
    let says = c.read_prefixes-prefixes.ensures in
    let ends = and_parts (not (is_there prefixes.behind.now)) (is_there prefixes.name.now) (sym c.if-not-ends_in_name.ensures) in
    let read : IsRead p.head.now p.first.now p.second.now p.third.now p.fourth.now c.args.n words = record {
      commaless = sym c.if-not-are_commaless.ensures;
      leading = sym c.if-not-are_leading.ensures;
      behind = ap is_there (sym says.behind) ∙ is-not (is_there prefixes.behind.now) ends.0;
      named = ap is_there (sym says.name) ∙ ends.1;
      lock = says.lock;
      rep = says.rep;
      seg = says.seg;
      asize = says.asize;
      osize = says.osize;
      ops = c.in-Some.ensures;
      unsized = sym c.if-is_unsized_at.ensures;
    } in
    λ size bits row name instr h e.
    let is = unsized-read p.head.now p.first.now p.second.now p.third.now p.fourth.now c.args.n words read size bits row name instr h e in
    (says.name ∙ is.0, is.1)

pub returns-then-is_unsized_at-clause-words : goal.returns-then-is_unsized_at-clause-words
unfolding behind_words
returns-then-is_unsized_at-clause-words c =
    let says = c.read_prefixes-prefixes.ensures in
    (says.name, pieces-words c.args.pieces.now.head.now _ _ _ _ _ _ _ _ _ _ says.lock says.rep says.seg says.asize says.osize c.in-Some.ensures)

-- ---- whether it is told

pub returns-then-not-are_commaless-clause-told : goal.returns-then-not-are_commaless-clause-told
unfolding is_told
returns-then-not-are_commaless-clause-told c = rw (sym c.are_commaless.ensures ∙ c.if-not-are_commaless.true) refl

pub returns-then-not-are_leading-clause-told : goal.returns-then-not-are_leading-clause-told
unfolding is_told
returns-then-not-are_leading-clause-told c = rw (sym c.if-not-are_commaless.ensures, sym c.are_leading.ensures ∙ c.if-not-are_leading.true) refl

pub returns-then-not-ends_in_name-clause-told : goal.returns-then-not-ends_in_name-clause-told
unfolding is_told
returns-then-not-ends_in_name-clause-told c =
    let says = c.read_prefixes-prefixes.ensures in
    let ends : ends_in_name c.args.pieces.now.head.now ≡ false =
    ends-as c.args.pieces.now.head.now _ _ says.behind says.name ∙ (sym c.ends_in_name.ensures ∙ c.if-not-ends_in_name.true) in
    rw (sym c.if-not-are_commaless.ensures, sym c.if-not-are_leading.ensures, ends) refl

pub returns-in-None-clause-told : goal.returns-in-None-clause-told
unfolding is_told is_unsized_in
returns-in-None-clause-told c =
    let says = c.read_prefixes-prefixes.ensures in
    let ends : ends_in_name c.args.pieces.now.head.now ≡ true = ends-as c.args.pieces.now.head.now _ _ says.behind says.name ∙ sym c.if-not-ends_in_name.ensures in
    rw (sym c.if-not-are_commaless.ensures, sym c.if-not-are_leading.ensures, ends, c.in-None.ensures) refl

pub returns-else-is_unsized_at-clause-told : goal.returns-else-is_unsized_at-clause-told
unfolding is_told is_unsized_in
returns-else-is_unsized_at-clause-told c =
    let says = c.read_prefixes-prefixes.ensures in
    let ends : ends_in_name c.args.pieces.now.head.now ≡ true = ends-as c.args.pieces.now.head.now _ _ says.behind says.name ∙ sym c.if-not-ends_in_name.ensures in
    rw (sym c.if-not-are_commaless.ensures, sym c.if-not-are_leading.ensures, ends, c.in-Some.ensures) (sym c.if-is_unsized_at.false ∙ c.is_unsized_at.ensures)

pub returns-then-is_unsized_at-clause-told : goal.returns-then-is_unsized_at-clause-told
unfolding is_told is_unsized_in
returns-then-is_unsized_at-clause-told c =
    let says = c.read_prefixes-prefixes.ensures in
    let ends : ends_in_name c.args.pieces.now.head.now ≡ true = ends-as c.args.pieces.now.head.now _ _ says.behind says.name ∙ sym c.if-not-ends_in_name.ensures in
    rw (sym c.if-not-are_commaless.ensures, sym c.if-not-are_leading.ensures, ends, c.in-Some.ensures) c.if-is_unsized_at.ensures
