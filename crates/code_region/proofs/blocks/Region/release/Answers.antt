use Rattle.std.proofs.Common.{arith, ◌∙◌, ap, length, replicate, vec_capacity, ◌≤◌, ℕ, List, remove, sym, subst}
use Rattle.code_region.specs.State.{int3}
use Rattle.code_region.specs.Keeping.{with_bytes_at, IsTight}
use Rattle.code_region.specs.declared.gaps.Span.{Span}
use Rattle.code_region.proofs.Joined.{tight-remove}
use Rattle.std.proofs.lemmas.List.{with_items_is}
use Rattle.code_region.proofs.Found.{apart-addresses, at-same, nowhere-same, live_block-at, live_block-nowhere, released-nowhere, answer-nowhere, answer-at, found-inside, without-found, without-same}
use Rattle.code_region.proofs.blocks.Region.release.Goals as goal

pub find_place-requires : goal.find_place-requires
find_place-requires c =
    let f = c.self.inside in
    apart-addresses f.base f.max_blocks _ f.bytes.items f.spans.items _ c.deref.ensures.value c.self.invariant.0

pub returns-in_default-clause-answer : goal.returns-in_default-clause-answer
returns-in_default-clause-answer c =
    let f = c.self.inside in
    let none = nowhere-same f.base c.args.place _ f.spans.items c.deref.ensures.value (c.in_default.ensures {u = tt}).missing in
    answer-nowhere _ _ (live_block-nowhere f.base f.max_blocks f.bytes.items f.spans.items c.args.self.now c.args.place c.self.view_is none)

pub returns-in_default-clause-state : goal.returns-in_default-clause-state
returns-in_default-clause-state c =
    let f = c.self.inside in
    let none = nowhere-same f.base c.args.place _ f.spans.items c.deref.ensures.value (c.in_default.ensures {u = tt}).missing in
    released-nowhere f.base f.max_blocks f.bytes.items f.spans.items c.args.self.now c.args.place c.self.view_is none

pub erase-requires : goal.erase-requires
erase-requires c =
    let f = c.self.inside in
    let at = at-same f.base c.args.place _ f.spans.items c.in-Some.index c.deref.ensures.value (c.in-Some.ensures {u = tt}).found in
    let inside = found-inside f.base f.max_blocks _ c.args.place c.in-Some.index f.bytes.items f.spans.items c.remove-span.result c.self.invariant.0 at c.remove-span.ensures.value in
    let same = ap length c.deref_mut.ensures.value in
    omega arith

pub invariant_of-self : goal.invariant_of-self
invariant_of-self c =
    let f = c.self.inside in
    let at = at-same f.base c.args.place _ f.spans.items c.in-Some.index c.deref.ensures.value (c.in-Some.ensures {u = tt}).found in
    let written = with_items_is f.bytes c.erase.new.image (omega arith) ∙ c.erase.ensures ∙
    ap (λ xs. with_bytes_at xs c.remove-span.result.start (replicate c.remove-span.result.len int3)) c.deref_mut.ensures.value in
    let room : vec_capacity f.spans ≤ vec_capacity c.remove-span.new.self = omega arith in
    let N : ℕ → Type 0 = λ n. IsTight n (remove f.spans.items c.in-Some.index) in
    let R : List Span → Type 0 = λ xs. IsTight c.min-self-inside.result xs in (
      (without-same f.base f.max_blocks _ _ c.args.place c.in-Some.index f.bytes.items _ f.spans.items _ c.args.self.now c.remove-span.result
          (without-found f.base f.max_blocks _ c.args.place c.in-Some.index f.bytes.items f.spans.items c.args.self.now c.self.view_is c.self.invariant.0 at)
          at.inside c.remove-span.ensures.value written c.remove-span.ensures.items room).0,
      subst R (sym c.remove-span.ensures.items) (subst N (sym c.min-self-inside.ensures) (tight-remove f.packed c.in-Some.index f.spans.items c.self.invariant.1 at.inside)),
    )

pub returns-clause-answer : goal.returns-clause-answer
returns-clause-answer c =
    let f = c.self.inside in
    let at = at-same f.base c.args.place _ f.spans.items c.in-Some.index c.deref.ensures.value (c.in-Some.ensures {u = tt}).found in
    answer-at _ _ _ (live_block-at f.base f.max_blocks _ f.bytes.items f.spans.items c.args.self.now c.args.place c.in-Some.index c.self.view_is c.self.invariant.0 at)

pub returns-clause-state : goal.returns-clause-state
returns-clause-state c =
    let f = c.self.inside in
    let at = at-same f.base c.args.place _ f.spans.items c.in-Some.index c.deref.ensures.value (c.in-Some.ensures {u = tt}).found in
    let written = with_items_is f.bytes c.erase.new.image (omega arith) ∙ c.erase.ensures ∙
    ap (λ xs. with_bytes_at xs c.remove-span.result.start (replicate c.remove-span.result.len int3)) c.deref_mut.ensures.value in
    let room : vec_capacity f.spans ≤ vec_capacity f.spans = omega arith in
    (without-same f.base f.max_blocks _ _ c.args.place c.in-Some.index f.bytes.items _ f.spans.items _ c.args.self.now c.remove-span.result
    (without-found f.base f.max_blocks _ c.args.place c.in-Some.index f.bytes.items f.spans.items c.args.self.now c.self.view_is c.self.invariant.0 at)
    at.inside c.remove-span.ensures.value written c.remove-span.ensures.items room).1
