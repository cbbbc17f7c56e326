-- What a text stands for by equal parts.
use Rattle.std.proofs.Common.{◌≡◌, ℕ, true, List, inl, subst}
use Rattle.std.specs.Prelude.{Result, IfOk}
use Rattle.std.specs.declared.alloc.AllocError.{AllocError}
use Rattle.x86_values.specs.declared.Bits.{Bits}
use Rattle.code_assembler.specs.Routine.{RoutineState}
use Rattle.assembly_text.specs.declared.code.Code.{Code}
use Rattle.assembly_text.specs.declared.statements.Statement.{Statement}
use Rattle.assembly_text.specs.declared.text_error.LineError.{LineError}
use Rattle.assembly_text.specs.Readings.{IsSpelledCode}
use Rattle.assembly_text.specs.Placing.{View, placed_text, is_nothing, IsPlacedCode, IsUnknown}
use Rattle.assembly_text.specs.Text.{IsUnplaced, RefusesPlaced, RefusesClosed}

-- equal texts with equal operands stand for the same
pub spelled_by : (bits : Bits) (base : ℕ) (low same : List ℕ) (s t : Statement) (r : Result Code AllocError) → low ≡ same → s ≡ t
    → IfOk r (λ code. IsSpelledCode bits base low s code) → IfOk r (λ code. IsSpelledCode bits base same t code)
spelled_by bits base low same s t r low_is s_is h =
    subst (λ (x : List ℕ). IfOk r (λ code. IsSpelledCode bits base x t code)) low_is
    (subst (λ (x : Statement). IfOk r (λ code. IsSpelledCode bits base low x code)) s_is h)

-- with an equal text in place of the names a text stands for the same
pub placed_by : (bits : Bits) (base : ℕ) (text placed same : List ℕ) (code : Code) → placed ≡ same
    → IsPlacedCode bits base text placed code → IsPlacedCode bits base text same code
placed_by bits base text placed same code e h = subst (λ (x : List ℕ). IsPlacedCode bits base text x code) e h

-- in a mode of another name too
pub placed_for : (v : View) (bits same : Bits) (text placed : List ℕ) (code : Code) → bits ≡ same → placed ≡ placed_text v text
    → IsPlacedCode bits v.base text placed code → IsPlacedCode same v.base text (placed_text v text) code
placed_for v bits same text placed code b e h =
    subst (λ (x : Bits). IsPlacedCode x v.base text (placed_text v text) code) b (placed_by bits v.base text placed (placed_text v text) code e h)

-- why a text that is no instruction with addresses adds nothing
pub placed_refused : (v : View) (bits : Bits) (text placed : List ℕ) (s : RoutineState) (code : Code) (why : LineError) → bits ≡ s.bits → placed ≡ placed_text v text
    → is_nothing code ≡ true → IsPlacedCode bits v.base text placed code → IsUnplaced bits v text why → RefusesPlaced v text s why
placed_refused v bits text placed s code why b e none h u =
    (code, (placed_for v bits s.bits text placed code b e h, inl (none, subst (λ (x : Bits). IsUnplaced x v text why) b u)))

-- why a text that is no instruction and has no names of labels adds nothing
pub closed_refused : (v : View) (bits : Bits) (text : List ℕ) (s : RoutineState) (code : Code) (why : LineError) → bits ≡ s.bits → is_nothing code ≡ true
    → IsUnknown bits v.base text why → RefusesClosed v text code s why
closed_refused v bits text s code why b none u = inl (none, subst (λ (x : Bits). IsUnknown x v.base text why) b u)
