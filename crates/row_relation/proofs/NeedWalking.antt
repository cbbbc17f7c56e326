-- What holds of each operand of a row, and what follows for the numbers that all of them ask of a field.
use Rattle.std.proofs.Common.{◌≡◌, inl, inr, ℕ, zero, suc, ◌+◌, ◌<◌, ◌≤◌, Bool, true, false, List, [], ◌∷◌, length, refl, subst, arith, slice_index_or}
use Rattle.std.proofs.lemmas.Bool.{and_parts, cases_Bool}
use Rattle.std.specs.List.{list_any, list_all}
use Rattle.x86_values.specs.declared.Operand.{Operand}
use Rattle.x86_values.specs.declared.Operand.TheVariants.{Absent as AbsentOperand}
use Rattle.instruction_parts.specs.declared.row_types.OpKind.{OpKind}
use Rattle.instruction_parts.specs.declared.row_types.OpKind.TheVariants.{Absent}
use Rattle.instruction_parts.specs.declared.kinds.Method.{Method}
use Rattle.instruction_parts.specs.Kinds.{method_of}
use Rattle.row_fit.specs.Sound.{count_where}
use Rattle.plain_spelling.specs.PlainFront.{over_operands, asks_low_byte, is_low_byte_of_rex}

-- a fact of each kind with its operand
abbrev pub Hold : (OpKind → Operand → Type 0) → List OpKind → List Operand → Type 0
Hold Q [] ops = Unit {0}
Hold Q (kind ∷ kinds) [] = ⊥
Hold Q (kind ∷ kinds) (op ∷ ops) = Q kind op × Hold Q kinds ops

-- four operands, one by one
pub hold_four : (Q : OpKind → Operand → Type 0) (kinds : List OpKind) (o0 o1 o2 o3 : Operand) → length kinds ≡ 4 → Q (slice_index_or kinds 0 Absent) o0 → Q (slice_index_or kinds 1 Absent) o1 → Q (slice_index_or kinds 2 Absent) o2 → Q (slice_index_or kinds 3 Absent) o3 → Hold Q kinds (o0 ∷ o1 ∷ o2 ∷ o3 ∷ [])
hold_four Q (a ∷ b ∷ c ∷ d ∷ []) o0 o1 o2 o3 n h0 h1 h2 h3 = (h0, (h1, (h2, (h3, tt))))
hold_four Q [] o0 o1 o2 o3 n h0 h1 h2 h3 = tt
hold_four Q (a ∷ []) o0 o1 o2 o3 n h0 h1 h2 h3 = absurd (omega arith)
hold_four Q (a ∷ b ∷ []) o0 o1 o2 o3 n h0 h1 h2 h3 = absurd (omega arith)
hold_four Q (a ∷ b ∷ c ∷ []) o0 o1 o2 o3 n h0 h1 h2 h3 = absurd (omega arith)
hold_four Q (a ∷ b ∷ c ∷ d ∷ e ∷ kinds) o0 o1 o2 o3 n h0 h1 h2 h3 = absurd (omega arith)

-- how many kinds are read so
abbrev pub readers : (Method → Bool) → List OpKind → ℕ
readers p kinds = count_where (λ kind. p (method_of kind)) kinds

-- behind a kind that reads a part no other reads it
pub readers_yes : (p : Method → Bool) (kind : OpKind) (kinds : List OpKind) → p (method_of kind) ≡ true → readers p (kind ∷ kinds) ≤ 1 → readers p kinds ≡ 0
readers_yes p kind kinds e h = let k : 1 + readers p kinds ≤ 1 = rw e at h in omega arith

-- a kind that does not read it is no reader
pub readers_no : (p : Method → Bool) (kind : OpKind) (kinds : List OpKind) (n : ℕ) → p (method_of kind) ≡ false → readers p (kind ∷ kinds) ≤ n → readers p kinds ≤ n
readers_no p kind kinds n e h = let k : 0 + readers p kinds ≤ n = rw e at h in omega arith

-- if nothing reads a part, the first kind does not
pub readers_none : (p : Method → Bool) (kind : OpKind) (kinds : List OpKind) → readers p (kind ∷ kinds) ≡ 0 → p (method_of kind) ≡ false
readers_none p kind kinds h = elim (cases_Bool (p (method_of kind))) [
  | inr e ↦ e
  | inl e ↦ (let k : 1 + readers p kinds ≡ 0 = rw e at h in absurd (omega arith))
]

-- nor do the others
pub readers_left : (p : Method → Bool) (kind : OpKind) (kinds : List OpKind) → readers p (kind ∷ kinds) ≡ 0 → readers p kinds ≡ 0
readers_left p kind kinds h =
    let e = readers_none p kind kinds h in let k : 0 + readers p kinds ≡ 0 = rw e at h in omega arith

-- an operand that is not read from a field asks nothing of it
abbrev pub Silent : (Method → Bool) → (Method → Operand → ℕ) → OpKind → Operand → Type 0
Silent p f kind op = p (method_of kind) ≡ false → f (method_of kind) op ≡ 0

-- operands that do not read a part ask for the number 0 there
pub asked_none : (p : Method → Bool) (f : Method → Operand → ℕ) (kinds : List OpKind) (ops : List Operand) → readers p kinds ≡ 0 → Hold (Silent p f) kinds ops → over_operands f kinds ops ≡ 0
asked_none p f [] ops n h = refl
asked_none p f (kind ∷ kinds) [] n h = refl
asked_none p f (kind ∷ kinds) (op ∷ ops) n h =
    let here = h.0 (readers_none p kind kinds n) in
    let rest = asked_none p f kinds ops (readers_left p kind kinds n) h.1 in
    omega arith

-- what one operand at most asks of a field, as a fact of its number
abbrev pub Asks : (ℕ → Type 0) → (Method → Bool) → (Method → Operand → ℕ) → OpKind → Operand → Type 0
Asks P p f kind op = P (f (method_of kind) op) × Silent p f kind op

silent_all : (P : ℕ → Type 0) (p : Method → Bool) (f : Method → Operand → ℕ) (kinds : List OpKind) (ops : List Operand) → Hold (Asks P p f) kinds ops → Hold (Silent p f) kinds ops
silent_all P p f [] ops h = tt
silent_all P p f (kind ∷ kinds) [] h = h
silent_all P p f (kind ∷ kinds) (op ∷ ops) h = (h.0.1, silent_all P p f kinds ops h.1)

plus_none : (a b : ℕ) → b ≡ 0 → a ≡ a + b
plus_none a b h = omega arith

none_plus : (a b : ℕ) → a ≡ 0 → b ≡ a + b
none_plus a b h = omega arith

-- **what holds of 0 and of each operand's number holds of the number asked of the field**
pub asked_sole : (P : ℕ → Type 0) (p : Method → Bool) (f : Method → Operand → ℕ) (kinds : List OpKind) (ops : List Operand) → P 0 → readers p kinds ≤ 1 → Hold (Asks P p f) kinds ops → P (over_operands f kinds ops)
asked_sole P p f [] ops z n h = z
asked_sole P p f (kind ∷ kinds) [] z n h = z
asked_sole P p f (kind ∷ kinds) (op ∷ ops) z n h = elim (cases_Bool (p (method_of kind))) [
  | inl e ↦ subst P (plus_none (f (method_of kind) op) (over_operands f kinds ops) (asked_none p f kinds ops (readers_yes p kind kinds e n) (silent_all P p f kinds ops h.1))) h.0.0
  | inr e ↦ subst P (none_plus (f (method_of kind) op) (over_operands f kinds ops) (h.0.1 e)) (asked_sole P p f kinds ops z (readers_no p kind kinds 1 e n) h.1)
]

-- the operand that is read from a field has this number
abbrev pub Gives : ℕ → (Method → Bool) → (Method → Operand → ℕ) → OpKind → Operand → Type 0
Gives v p f kind op = (p (method_of kind) ≡ true → f (method_of kind) op ≡ v) × Silent p f kind op

silent_given : (v : ℕ) (p : Method → Bool) (f : Method → Operand → ℕ) (kinds : List OpKind) (ops : List Operand) → Hold (Gives v p f) kinds ops → Hold (Silent p f) kinds ops
silent_given v p f [] ops h = tt
silent_given v p f (kind ∷ kinds) [] h = h
silent_given v p f (kind ∷ kinds) (op ∷ ops) h = (h.0.1, silent_given v p f kinds ops h.1)

-- **where an operand is read from the field, its number is asked**
pub asked_is : (v : ℕ) (p : Method → Bool) (f : Method → Operand → ℕ) (kinds : List OpKind) (ops : List Operand) → list_any (λ kind. p (method_of kind)) kinds ≡ true → readers p kinds ≤ 1 → Hold (Gives v p f) kinds ops → over_operands f kinds ops ≡ v
asked_is v p f [] ops some n h = cc
asked_is v p f (kind ∷ kinds) [] some n h = absurd h
asked_is v p f (kind ∷ kinds) (op ∷ ops) some n h = elim (cases_Bool (p (method_of kind))) [
  | inl e ↦ (
      let here = h.0.0 e in
      let rest = asked_none p f kinds ops (readers_yes p kind kinds e n) (silent_given v p f kinds ops h.1) in
      omega arith)
  | inr e ↦ (
      let more : list_any (λ kind. p (method_of kind)) kinds ≡ true = rw e at some in
      let here = h.0.1 e in
      let rest = asked_is v p f kinds ops more (readers_no p kind kinds 1 e n) h.1 in
      omega arith)
]

-- a fact of the kinds that pass a test, where all do
pub hold_all : (q : OpKind → Bool) (Q : OpKind → Operand → Type 0) (kinds : List OpKind) (ops : List Operand) → list_all q kinds ≡ true → Hold (λ kind op. q kind ≡ true → Q kind op) kinds ops → Hold Q kinds ops
hold_all q Q [] ops all h = tt
hold_all q Q (kind ∷ kinds) [] all h = h
hold_all q Q (kind ∷ kinds) (op ∷ ops) all h =
    (h.0 (and_parts (q kind) (list_all q kinds) all).0, hold_all q Q kinds ops (and_parts (q kind) (list_all q kinds) all).1 h.1)

-- each operand's number is part of what is asked
pub asked_part : (f : Method → Operand → ℕ) (kinds : List OpKind) (ops : List Operand) (n : ℕ) → n < length kinds → n < length ops → f (method_of (slice_index_or kinds n Absent)) (slice_index_or ops n AbsentOperand) ≤ over_operands f kinds ops
asked_part f [] ops n h k = absurd (omega arith)
asked_part f (kind ∷ kinds) [] n h k = absurd (omega arith)
asked_part f (kind ∷ kinds) (op ∷ ops) zero h k = omega arith
asked_part f (kind ∷ kinds) (op ∷ ops) (suc n) h k = let rest = asked_part f kinds ops n (omega arith) (omega arith) in omega arith

-- a test that some operand passes
pub any_kind : (q : OpKind → Bool) (kinds : List OpKind) (n : ℕ) → n < length kinds → q (slice_index_or kinds n Absent) ≡ true → list_any q kinds ≡ true
any_kind q [] n h e = absurd (omega arith)
any_kind q (kind ∷ kinds) zero h e = rw e
any_kind q (kind ∷ kinds) (suc n) h e = let rest = any_kind q kinds n (omega arith) e in elim (cases_Bool (q kind)) [ inl a ↦ rw a | inr a ↦ rw a rest ]

-- a test that all operands pass
pub all_kinds : (q : OpKind → Bool) (kinds : List OpKind) (n : ℕ) → n < length kinds → list_all q kinds ≡ true → q (slice_index_or kinds n Absent) ≡ true
all_kinds q [] n h e = absurd (omega arith)
all_kinds q (kind ∷ kinds) zero h e = (and_parts (q kind) (list_all q kinds) e).0
all_kinds q (kind ∷ kinds) (suc n) h e = all_kinds q kinds n (omega arith) (and_parts (q kind) (list_all q kinds) e).1

-- a low byte register among the operands
pub low_byte_part : (ops : List Operand) (n : ℕ) → n < length ops → is_low_byte_of_rex (slice_index_or ops n AbsentOperand) ≡ true → asks_low_byte ops ≡ true
low_byte_part [] n h e = absurd (omega arith)
low_byte_part (op ∷ ops) zero h e = rw e
low_byte_part (op ∷ ops) (suc n) h e = let rest = low_byte_part ops n (omega arith) e in elim (cases_Bool (is_low_byte_of_rex op)) [ inl a ↦ rw a | inr a ↦ rw a rest ]

-- where each low byte register among the operands has a reason, all have it
pub low_byte_reason : (B : Type 0) (kinds : List OpKind) (ops : List Operand) → length kinds ≡ length ops → Hold (λ kind op. is_low_byte_of_rex op ≡ true → B) kinds ops → asks_low_byte ops ≡ true → B
low_byte_reason B [] [] n h e = absurd (cc)
low_byte_reason B [] (op ∷ ops) n h e = absurd (omega arith)
low_byte_reason B (kind ∷ kinds) [] n h e = absurd h
low_byte_reason B (kind ∷ kinds) (op ∷ ops) n h e = elim (cases_Bool (is_low_byte_of_rex op)) [
  | inl a ↦ h.0 a
  | inr a ↦ low_byte_reason B kinds ops (omega arith) h.1 (rw a at e)
]
