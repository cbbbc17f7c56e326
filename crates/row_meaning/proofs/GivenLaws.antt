-- An operand that has all bytes of the immediates where it has some.
use Rattle.std.proofs.Common.{◌≡◌, ℕ, zero, suc, ◌<◌, ◌≤◌, Bool, true, false, List, length, refl, ap, sym, ◌∙◌, arith}
use Rattle.x86_values.specs.declared.Bits.{Bits}
use Rattle.instruction_parts.specs.declared.row_types.Row.{Row}
use Rattle.instruction_parts.specs.declared.row_types.OpKind.{OpKind}
use Rattle.instruction_parts.specs.declared.row_types.OpKind.TheVariants.{Ib, Iw, Ibs, Iz, Iv, Jb, Jz, Ap, Lx}
use Rattle.instruction_parts.specs.declared.spelling.PrefixState.{PrefixState}
use Rattle.instruction_parts.specs.declared.kinds.Method.TheVariants.{Pointer}
use Rattle.instruction_parts.specs.Kinds.{method_of, immediate_width}
use Rattle.instruction_parts.specs.Sizes.{state_size}
use Rattle.row_fit.specs.Fits.{immediate_bytes, immediates_bytes, kind_at}
use Rattle.row_meaning.specs.Meaning.{Tail, immediates_before, own_immediate, operand_by, operand_at}
use Rattle.row_meaning.specs.Given.{has_immediate, at_most_one, has_one_immediate}
use Rattle.row_meaning.proofs.ImmediateLaws.{before_within, whole_list, pointer_short}

-- a kind without bytes of the immediates has none at any size
none_of : (size : Bits) (kind : OpKind) → has_immediate kind ≡ false → immediate_bytes size kind ≡ 0
unfolding immediate_width immediate_bytes
none_of size Ib h = cc
none_of size Iw h = cc
none_of size Ibs h = cc
none_of size Iz h = cc
none_of size Iv h = cc
none_of size Jb h = cc
none_of size Jz h = cc
none_of size Ap h = cc
none_of size Lx h = cc
none_of size _ h = refl

-- and its operand does not read them
reads_none : (bits : Bits) (row : Row) (state : PrefixState) (t : Tail) (kind : OpKind) (a b : List ℕ) → has_immediate kind ≡ false
    → operand_by bits row state t kind (method_of kind) a ≡ operand_by bits row state t kind (method_of kind) b
unfolding immediate_width method_of operand_by
reads_none bits row state t Ib a b h = cc
reads_none bits row state t Iw a b h = cc
reads_none bits row state t Ibs a b h = cc
reads_none bits row state t Iz a b h = cc
reads_none bits row state t Iv a b h = cc
reads_none bits row state t Jb a b h = cc
reads_none bits row state t Jz a b h = cc
reads_none bits row state t Ap a b h = cc
reads_none bits row state t Lx a b h = cc
reads_none bits row state t _ a b h = refl

pointer_has : (kind : OpKind) → method_of kind ≡ Pointer → has_immediate kind ≡ true
unfolding immediate_width method_of
pointer_has Ap h = refl
pointer_has _ h = cc

-- ---- one of four

record Others (a b c : Bool) : Type 0 where
  first : a ≡ false
  second : b ≡ false
  third : c ≡ false

only_first : (a b c d : Bool) → at_most_one a b c d ≡ true → a ≡ true → Others b c d
only_first true false false false h e = record { first = refl; second = refl; third = refl }
only_first _ _ _ _ h e = cc

only_second : (a b c d : Bool) → at_most_one a b c d ≡ true → b ≡ true → Others a c d
only_second false true false false h e = record { first = refl; second = refl; third = refl }
only_second _ _ _ _ h e = cc

only_third : (a b c d : Bool) → at_most_one a b c d ≡ true → c ≡ true → Others a b d
only_third false false true false h e = record { first = refl; second = refl; third = refl }
only_third true true _ _ h e = cc
only_third _ _ _ _ h e = cc

only_fourth : (a b c d : Bool) → at_most_one a b c d ≡ true → d ≡ true → Others a b c
only_fourth false false false true h e = record { first = refl; second = refl; third = refl }
only_fourth true true _ _ h e = cc
only_fourth true false true _ h e = cc
only_fourth false true true _ h e = cc
only_fourth _ _ _ _ h e = cc

-- where one operand at most has bytes of the immediates, one that has some has all
alone : (size : Bits) (row : Row) (n : ℕ) → n < 4 → has_one_immediate row ≡ true → has_immediate (kind_at row n) ≡ true
    → immediate_bytes size (kind_at row n) ≡ immediates_bytes size row
unfolding has_one_immediate immediates_bytes
alone size row zero lt one has =
    let o = only_first (has_immediate (kind_at row 0)) (has_immediate (kind_at row 1)) (has_immediate (kind_at row 2)) (has_immediate (kind_at row 3)) one has in
    let a = none_of size (kind_at row 1) o.first in
    let b = none_of size (kind_at row 2) o.second in
    let c = none_of size (kind_at row 3) o.third in
    omega (arith, a, b, c)
alone size row (suc zero) lt one has =
    let o = only_second (has_immediate (kind_at row 0)) (has_immediate (kind_at row 1)) (has_immediate (kind_at row 2)) (has_immediate (kind_at row 3)) one has in
    let a = none_of size (kind_at row 0) o.first in
    let b = none_of size (kind_at row 2) o.second in
    let c = none_of size (kind_at row 3) o.third in
    omega (arith, a, b, c)
alone size row (suc (suc zero)) lt one has =
    let o = only_third (has_immediate (kind_at row 0)) (has_immediate (kind_at row 1)) (has_immediate (kind_at row 2)) (has_immediate (kind_at row 3)) one has in
    let a = none_of size (kind_at row 0) o.first in
    let b = none_of size (kind_at row 1) o.second in
    let c = none_of size (kind_at row 3) o.third in
    omega (arith, a, b, c)
alone size row (suc (suc (suc zero))) lt one has =
    let o = only_fourth (has_immediate (kind_at row 0)) (has_immediate (kind_at row 1)) (has_immediate (kind_at row 2)) (has_immediate (kind_at row 3)) one has in
    let a = none_of size (kind_at row 0) o.first in
    let b = none_of size (kind_at row 1) o.second in
    let c = none_of size (kind_at row 2) o.third in
    omega (arith, a, b, c)
alone size row (suc (suc (suc (suc n)))) lt one has = absurd (omega arith)

own_is_all : (size : Bits) (row : Row) (n : ℕ) (imm : List ℕ) → n < 4 → has_one_immediate row ≡ true → length imm ≡ immediates_bytes size row
    → has_immediate (kind_at row n) ≡ true → own_immediate size row n imm ≡ imm
unfolding own_immediate
own_is_all size row n imm lt one whole has =
    let a = alone size row n lt one has in
    let w = before_within size row n lt in
    sym (whole_list imm (immediates_before size row n) (immediate_bytes size (kind_at row n)) (omega (arith, a, whole)) (omega (arith, w, whole)))

-- **where one operand at most has bytes of the immediates, each reads all of them**
pub reads_all : (bits : Bits) (size : Bits) (row : Row) (state : PrefixState) (t : Tail) (imm : List ℕ) (n : ℕ) (kind : OpKind) → size ≡ state_size bits row state
    → has_one_immediate row ≡ true → length imm ≡ immediates_bytes size row → n < 4 → kind ≡ kind_at row n
    → operand_by bits row state t kind (method_of kind) imm ≡ operand_at bits row state t imm n
unfolding operand_at
reads_all bits size row state t imm n kind at one whole lt is =
    ap (λ (k : OpKind). operand_by bits row state t k (method_of k) imm) is ∙ by_case (has_immediate (kind_at row n)) refl
  where
    by_case : (has : Bool) → has_immediate (kind_at row n) ≡ has
        → operand_by bits row state t (kind_at row n) (method_of (kind_at row n)) imm
        ≡ operand_by bits row state t (kind_at row n) (method_of (kind_at row n)) (own_immediate (state_size bits row state) row n imm)
    by_case true e =
        ap (operand_by bits row state t (kind_at row n) (method_of (kind_at row n)))
        (sym (own_is_all (state_size bits row state) row n imm lt one (whole ∙ ap (λ s. immediates_bytes s row) at) e))
    by_case false e = reads_none bits row state t (kind_at row n) imm (own_immediate (state_size bits row state) row n imm) e

-- a far pointer then has at most six bytes
pub all_of_pointer : (size : Bits) (row : Row) (imm : List ℕ) (n : ℕ) (kind : OpKind) → has_one_immediate row ≡ true → length imm ≡ immediates_bytes size row
    → n < 4 → kind ≡ kind_at row n → method_of kind ≡ Pointer → length imm ≤ 6
all_of_pointer size row imm n kind one whole lt is p =
    let short = pointer_short kind size p in
    let a = alone size row n lt one (ap has_immediate (sym is) ∙ pointer_has kind p) in
    let same = ap (immediate_bytes size) is in
    omega (arith, short, a, same, whole)
