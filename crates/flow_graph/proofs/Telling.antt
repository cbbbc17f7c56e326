-- What is told of reached offsets, turn by turn, and beside the offsets in ascending order.
use Rattle.std.proofs.Common.{◌≡◌, ◌≢◌, ℕ, ◌+◌, ◌<◌, ◌≤◌, inl, inr, List, [], ◌∷◌, ◌++◌, length, length-append, get_or, set, drop, Result, Ok, Err, arith, refl, sym, ap, ◌∙◌, subst}
use Rattle.std.proofs.lemmas.Bool.{cases_lt, cases_eq}
use Rattle.std.proofs.lemmas.List.{get_or-set_same, get_or-set_other, get_or_append_left, get_or_push, length-set}
use Rattle.decoder.specs.declared.DecodeError.{DecodeError}
use Rattle.decoder.specs.declared.DecodeError.TheVariants.{Invalid as InvalidError, TooShort as TooShortError}
use Rattle.decoder.specs.Answer.{reading_of}
use Rattle.decoder.specs.OneReading.{OneReadingFacts}
use Rattle.x86_values.specs.declared.Decoded.{Decoded}
use Rattle.x86_values.specs.declared.Bits.{Bits}
use Rattle.row_relation.specs.Spells.{Reading, Read, TooShort, Invalid}
use Rattle.operand_info.specs.ByCode.{flow_of}
use Rattle.operand_info.specs.declared.columns.Flow.{Flow}
use Rattle.unlisted.specs.declared.Shape.{Shape}
use Rattle.unlisted.specs.declared.MeasureError.{MeasureError}
use Rattle.unlisted.specs.Measured.{IsMeasured}
use Rattle.flow_graph.specs.declared.exits.Follow.{Follow}
use Rattle.flow_graph.specs.declared.exits.Follow.TheVariants.{Listed, Unlisted}
use Rattle.flow_graph.specs.Control.{CodeBytes, code_bytes, code_bytes_with, IsReadIn}
use Rattle.flow_graph.specs.Walks.{IsTreated, IsWalk, Extends}
use Rattle.flow_graph.proofs.OneReading.{OneAnswerFacts, reading_unique}
use Rattle.flow_graph.specs.Told.{told_of, told_measured, TellsMeasured, IsToldUnlisted, IsTold, Tells, next_by_default, told_at, AreTold, MarkedAreTold, AreFlowsOf}

-- what is listed beside each start
abbrev pub Flows : Type 0
Flows = List (Result Flow DecodeError)

-- an instruction is told by its flow
pub flow_told : (d : Decoded) (flow : Flow) → flow ≡ flow_of d.instr.code.0 → Ok flow ≡ told_of (Read d)
unfolding told_of
flow_told d flow e = ap Ok e

-- an error is told as it is
pub error_told : (e : DecodeError) → Err e ≡ told_of (reading_of (Err e))
unfolding told_of
error_told InvalidError = refl
error_told TooShortError = refl

-- an instruction that is read is told by its flow, whatever else is followed
pub read_told : (follow : Follow) (code : CodeBytes) (p : ℕ) (d : Decoded) (told : Result Flow DecodeError) → told ≡ told_of (Read d) → IsTold follow code p (Read d) told
read_told Listed code p d told e = e
read_told Unlisted code p d told e = e

-- where the table reads nothing, what is measured is told
measured_told : (code : CodeBytes) (p : ℕ) (e : DecodeError) (told : Result Flow DecodeError) → TellsMeasured code p (Err e) told → IsToldUnlisted code p (reading_of (Err e)) told
unfolding told_of
measured_told code p InvalidError told h = h
measured_told code p TooShortError told h = h

-- **what is measured is told of it**
pub tells_measured : (bits : Bits) (base : ℕ) (bytes : List ℕ) (p : ℕ) (e : DecodeError) (answer : Result Shape MeasureError) (told : Result Flow DecodeError) →
    IsReadIn (code_bytes bits base bytes) p (reading_of (Err e)) → IsMeasured bits (drop p bytes) answer → told ≡ told_measured (Err e) answer →
    Tells (code_bytes_with Unlisted bits base bytes) p told
tells_measured bits base bytes p e answer told reads measured is = record {
  reading = reading_of (Err e);
  reads = reads;
  is = measured_told (code_bytes_with Unlisted bits base bytes) p e told (record { answer = answer; measured = measured; is = is });
}

-- **where nothing else is followed, the error is told**
pub tells_error : (bits : Bits) (base : ℕ) (bytes : List ℕ) (p : ℕ) (e : DecodeError) (told : Result Flow DecodeError) →
    IsReadIn (code_bytes bits base bytes) p (reading_of (Err e)) → told ≡ Err e → Tells (code_bytes bits base bytes) p told
tells_error bits base bytes p e told reads is = record { reading = reading_of (Err e); reads = reads; is = is ∙ error_told e }

measured_same : OneAnswerFacts → (code : CodeBytes) (p : ℕ) (unread a b : Result Flow DecodeError) → TellsMeasured code p unread a → TellsMeasured code p unread b → a ≡ b
measured_same same code p unread a b t u =
    t.is ∙ (ap (told_measured unread) (same code.bits (drop p code.bytes) t.answer u.answer t.measured u.measured) ∙ sym u.is)

is_told_same : OneAnswerFacts → (follow : Follow) (code : CodeBytes) (p : ℕ) (reading : Reading) (a b : Result Flow DecodeError) → IsTold follow code p reading a →
    IsTold follow code p reading b → a ≡ b
is_told_same same Listed code p reading a b t u = t ∙ sym u
is_told_same same Unlisted code p (Read d) a b t u = t ∙ sym u
is_told_same same Unlisted code p TooShort a b t u = measured_same same code p (told_of TooShort) a b t u
is_told_same same Unlisted code p Invalid a b t u = measured_same same code p (told_of Invalid) a b t u

-- one thing alone is told of an offset
pub told_same : OneReadingFacts → OneAnswerFacts → (code : CodeBytes) (p : ℕ) (a b : Result Flow DecodeError) → Tells code p a → Tells code p b → a ≡ b
told_same one same code p a b t u =
    let e = reading_unique one code.bits code.base p (drop p code.bytes) t.reading u.reading t.reads u.reads in
    is_told_same same code.follow code p u.reading a b (subst (λ (r : Reading). IsTold code.follow code p r a) e t.is) u.is

-- nothing was told before the first turn
pub told_start : (code : CodeBytes) (order : List ℕ) (flows : Flows) (count : ℕ) → count ≡ length code.bytes → length flows ≡ count → AreTold code order 0 flows
told_start code order flows count e l = record { len = l ∙ e; each = λ k h. absurd (omega arith) }

-- an offset is told of behind a store, if the store or the list before it tells of it
tells_behind : (code : CodeBytes) (flows : Flows) (p q : ℕ) (new : Result Flow DecodeError) → p < length flows → Tells code p new → (q ≢ p → Tells code q (told_at flows q)) →
    Tells code q (told_at (set flows p new) q)
tells_behind code flows p q new h told old =
    elim (cases_eq q p) [
      | inl e ↦
          subst (λ n. Tells code n (told_at (set flows p new) n)) (sym e)
          (subst (Tells code p) (sym (get_or-set_same flows p new next_by_default h)) told)
      | inr ne ↦ subst (Tells code q) (sym (get_or-set_other flows p q new next_by_default ne)) (old ne)
    ]

-- **one turn more**
pub told_turn : (code : CodeBytes) (order longer : List ℕ) (turn p : ℕ) (new : Result Flow DecodeError) (flows flows' : Flows) → p ≡ get_or order turn 0 →
    turn < length order → p < length code.bytes → Extends order longer → AreTold code order turn flows → Tells code p new → flows' ≡ set flows p new →
    AreTold code longer (turn + 1) flows'
told_turn code order longer turn p new flows flows' here before inside more old told e =
    subst (AreTold code longer (turn + 1)) (sym e) (record { len = length-set flows p new ∙ old.len; each = each })
  where
    in_flows : p < length flows
    in_flows = omega (arith, old.len)

    each : (k : ℕ) → k < turn + 1 → Tells code (get_or longer k 0) (told_at (set flows p new) (get_or longer k 0))
    each k h =
        elim (cases_lt k turn) [
          | inl l ↦
              let same = more.same k (omega arith) in
              tells_behind code flows p (get_or longer k 0) new in_flows told (λ ne. subst (λ n. Tells code n (told_at flows n)) (sym same) (old.each k l))
          | inr g ↦
              let now : k ≡ turn = omega arith in
              let same : get_or longer k 0 ≡ p = ap (λ n. get_or longer n 0) now ∙ (more.same turn before ∙ sym here) in
              tells_behind code flows p (get_or longer k 0) new in_flows told (λ ne. absurd (ne same))
        ]

-- **behind the last turn each marked offset is told of**
pub told_end : (code : CodeBytes) (entries marks order : List ℕ) (turn : ℕ) (flows : Flows) → IsWalk code entries marks order (IsTreated code order turn) → length order ≤ turn →
    AreTold code order turn flows → MarkedAreTold code marks flows
told_end code entries marks order turn flows w done told =
    record {
      len = told.len;
      each = λ q h.
          let at = w.listed q h in
          let early = at.1 in subst (λ n. Tells code n (told_at flows n)) at.2 (told.each at.0 (omega arith));
    }

-- ---- beside the offsets

-- at the start nothing is listed
pub flows_start : (flows : Flows) (starts : List ℕ) (beside : Flows) → starts ≡ [] → beside ≡ [] → AreFlowsOf flows starts beside
flows_start flows starts beside s b =
    subst (λ xs. AreFlowsOf flows xs beside) (sym s)
    (subst (AreFlowsOf flows []) (sym b) (record { len = refl; each = λ k h. absurd (omega arith) }))

-- one offset more
pub flows_more : (flows : Flows) (starts : List ℕ) (beside : Flows) (offset : ℕ) (starts' : List ℕ) (beside' : Flows) → AreFlowsOf flows starts beside →
    starts' ≡ starts ++ offset ∷ [] → beside' ≡ beside ++ told_at flows offset ∷ [] → AreFlowsOf flows starts' beside'
flows_more flows starts beside offset starts' beside' old s b =
    subst (λ xs. AreFlowsOf flows xs beside') (sym s) (subst (AreFlowsOf flows (starts ++ offset ∷ [])) (sym b) (record {
      len = omega (arith, length-append beside (told_at flows offset ∷ []), length-append starts (offset ∷ []), old.len);
      each = each;
    }))
  where
    each : (k : ℕ) → k < length (starts ++ offset ∷ []) →
        told_at (beside ++ told_at flows offset ∷ []) k ≡ told_at flows (get_or (starts ++ offset ∷ []) k 0)
    each k h =
        elim (cases_lt k (length starts)) [
          | inl l ↦
              get_or_append_left beside (told_at flows offset ∷ []) next_by_default k (omega (arith, old.len))
              ∙ (old.each k l ∙ ap (told_at flows) (sym (get_or_append_left starts (offset ∷ []) 0 k l)))
          | inr g ↦
              let last : length starts ≡ k = omega (arith, length-append starts (offset ∷ [])) in
              get_or_push beside (told_at flows offset) next_by_default k (old.len ∙ last) ∙ ap (told_at flows) (sym (get_or_push starts offset 0 k last))
        ]
