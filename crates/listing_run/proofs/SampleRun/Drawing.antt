-- The code of a generator, one instruction more at a time.
use Rattle.std.proofs.Common.{◌≡◌, ℕ, suc, ◌+◌, ◌-◌, ◌/◌, ◌^◌, ◌<◌, ◌≤◌, List, [], ◌++◌, refl, sym, ap, ◌∙◌, arith, append_assoc, append-nil}
use Rattle.listing_run.specs.SampleRun.Generator.{next_state, drawn_number, instr_bytes, code_from, sample_code}

-- some first instructions were drawn, and those behind them are drawn from a state
abbrev pub Drawn : ℕ → ℕ → ℕ → List ℕ → Type 0
Drawn n state done code = code ++ code_from state (n - done) ≡ sample_code n

one_more : (state n : ℕ) → code_from state (suc n) ≡ instr_bytes (drawn_number (next_state state)) ++ code_from (next_state state) n
unfolding code_from
one_more state n = refl

nothing : (state : ℕ) → code_from state 0 ≡ []
unfolding code_from
nothing state = refl

-- before the first draw nothing is made
pub drawn-start : (n state : ℕ) (code : List ℕ) → state ≡ n → code ≡ [] → Drawn n state 0 code
unfolding sample_code
drawn-start n state code same empty =
    let all : n - 0 ≡ n = omega arith in
    ap (λ (xs : List ℕ). xs ++ code_from state (n - 0)) empty ∙ (ap (code_from state) all ∙ ap (λ (x : ℕ). code_from x n) same)

-- a draw adds the next piece of made code
pub drawn-step : (n state next done : ℕ) (code code' : List ℕ) → done < n → Drawn n state done code → next ≡ next_state state →
    code' ≡ code ++ instr_bytes (next / 2 ^ 33) → Drawn n next (done + 1) code'
unfolding drawn_number
drawn-step n state next done code code' lt h is e =
    let left : n - done ≡ suc (n - (done + 1)) = omega arith in
    let rest = code_from next (n - (done + 1)) in
    let more : code_from state (suc (n - (done + 1))) ≡ instr_bytes (next / 2 ^ 33) ++ rest
    = one_more state (n - (done + 1)) ∙ ap (λ (x : ℕ). instr_bytes (x / 2 ^ 33) ++ code_from x (n - (done + 1))) (sym is) in
    ap (λ (xs : List ℕ). xs ++ rest) e
    ∙ (append_assoc code (instr_bytes (next / 2 ^ 33)) rest
    ∙ (ap (λ (xs : List ℕ). code ++ xs) (sym more)
    ∙ (ap (λ (k : ℕ). code ++ code_from state k) (sym left) ∙ h)))

-- after the last draw the code is the made code
pub drawn-end : (n state done : ℕ) (code : List ℕ) → n ≤ done → Drawn n state done code → code ≡ sample_code n
drawn-end n state done code le h =
    let none : n - done ≡ 0 = omega arith in
    sym (append-nil code) ∙ (ap (λ (xs : List ℕ). code ++ xs) (sym (ap (code_from state) none ∙ nothing state)) ∙ h)
