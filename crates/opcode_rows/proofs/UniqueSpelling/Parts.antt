-- What each condition of a fit says of the fields: class, place in the table, sizes, W and L.
use Rattle.std.proofs.Common.{◌≡◌, ℕ, ◌+◌, List, Bool, true, false, not, ◌&&◌, ◌||◌, refl, ap, ◌∙◌, nat_lt}
use Rattle.std.proofs.lemmas.Bool.{eqb-true}
use Rattle.std.specs.Prelude.{◌==◌}
use Rattle.x86_values.specs.declared.Bits.{Bits}
use Rattle.x86_values.specs.declared.Bits.TheVariants.{B16, B32, B64}
use Rattle.x86_values.specs.declared.Rep.{Rep}
use Rattle.x86_values.specs.declared.Rep.TheVariants as rep
use Rattle.instruction_parts.specs.declared.row_types.RowKind.{RowKind}
use Rattle.instruction_parts.specs.declared.row_types.RowKind.TheVariants as kind
use Rattle.instruction_parts.specs.declared.row_types.Map.{Map}
use Rattle.instruction_parts.specs.declared.row_types.Map.TheVariants as map
use Rattle.instruction_parts.specs.declared.row_types.Class.{Class}
use Rattle.instruction_parts.specs.declared.row_types.Class.TheVariants as class
use Rattle.instruction_parts.specs.declared.row_types.Size.{Size}
use Rattle.instruction_parts.specs.declared.row_types.Size.TheVariants as size
use Rattle.instruction_parts.specs.declared.row_types.WBit.{WBit}
use Rattle.instruction_parts.specs.declared.row_types.WBit.TheVariants as w
use Rattle.instruction_parts.specs.declared.row_types.LBit.{LBit}
use Rattle.instruction_parts.specs.declared.row_types.LBit.TheVariants as l
use Rattle.instruction_parts.specs.declared.spelling.Vex.{Vex}
use Rattle.instruction_parts.specs.declared.spelling.PrefixState.{PrefixState}
use Rattle.instruction_parts.specs.Counting.{is_64, rex_bit, counting_rex}
use Rattle.row_fit.specs.Fits.{is_map_one, is_no_repeat, is_repeat_f3, is_repeat_f2, legacy_class_fits, vex_class_fits, size_fits, takes_w_as_size, l_fits}
use Rattle.row_fit.specs.Sound.{is_no_w, is_no_l, is_size_of_vex}
use Rattle.instruction_parts.specs.RowFields.Holds.{is_vex, map_number, prefix_of, class_allows, size_allows, w_as_size, w_allows, l_holds}
use Rattle.opcode_rows.specs.UniqueSpelling.FieldsOf.{repeat_of_pp}

-- ---- kind and map

-- the opcode byte 90 of the one-byte map, in both ways of saying it
pub nop-byte : (k : RowKind) (m : Map) (b : Bool)
    → ((map_number (is_vex k) m == 0) && b) ≡ (not (elim k [ kind.Legacy ↦ false | kind.Vex ↦ true ]) && (is_map_one m && b))
nop-byte kind.Legacy map.One b = refl
nop-byte kind.Legacy map.M0f b = refl
nop-byte kind.Legacy map.M0f38 b = refl
nop-byte kind.Legacy map.M0f3a b = refl
nop-byte kind.Vex map.One b = refl
nop-byte kind.Vex map.M0f b = refl
nop-byte kind.Vex map.M0f38 b = refl
nop-byte kind.Vex map.M0f3a b = refl

-- ---- class

np : (s : Bool) (r : Rep) → (not s && is_no_repeat r) ≡ (prefix_of r s == 0)
np false rep.None = refl
np false rep.F2 = refl
np false rep.F3 = refl
np true rep.None = refl
np true rep.F2 = refl
np true rep.F3 = refl

nfx : (s : Bool) (r : Rep) → is_no_repeat r ≡ nat_lt (prefix_of r s) 2
nfx false rep.None = refl
nfx true rep.None = refl
nfx s rep.F2 = refl
nfx s rep.F3 = refl

-- the condition on F3 by the repeat prefix is the one by the number of the prefix
pub nf3 : (s : Bool) (r : Rep) → not (is_repeat_f3 r) ≡ not (prefix_of r s == 2)
nf3 false rep.None = refl
nf3 true rep.None = refl
nf3 s rep.F2 = refl
nf3 s rep.F3 = refl

p66 : (s : Bool) (r : Rep) → (s && is_no_repeat r) ≡ (prefix_of r s == 1)
p66 false rep.None = refl
p66 false rep.F2 = refl
p66 false rep.F3 = refl
p66 true rep.None = refl
p66 true rep.F2 = refl
p66 true rep.F3 = refl

f3 : (s : Bool) (r : Rep) → is_repeat_f3 r ≡ (prefix_of r s == 2)
f3 false rep.None = refl
f3 true rep.None = refl
f3 s rep.F2 = refl
f3 s rep.F3 = refl

f2 : (s : Bool) (r : Rep) → is_repeat_f2 r ≡ (prefix_of r s == 3)
f2 false rep.None = refl
f2 true rep.None = refl
f2 s rep.F2 = refl
f2 s rep.F3 = refl

-- a legacy row takes the prefix that counts exactly where its class allows it
pub legacy-class : (c : Class) (state : PrefixState) → legacy_class_fits c state ≡ class_allows c (prefix_of state.rep state.size66)
unfolding legacy_class_fits
legacy-class class.Any state = refl
legacy-class class.Np state = np state.size66 state.rep
legacy-class class.Nfx state = nfx state.size66 state.rep
legacy-class class.Nf3 state = nf3 state.size66 state.rep
legacy-class class.P66 state = p66 state.size66 state.rep
legacy-class class.F3 state = f3 state.size66 state.rep
legacy-class class.F2 state = f2 state.size66 state.rep

-- the prefix that pp stands for
abbrev pub prefix_of_pp : ℕ → ℕ
prefix_of_pp pp = prefix_of (repeat_of_pp pp) (pp == 1)

with_pp : (c : Class) (pp n : ℕ) → pp ≡ n → class_allows c (prefix_of_pp n) ≡ true → class_allows c (prefix_of_pp pp) ≡ true
with_pp c pp n e h = ap (λ x. class_allows c (prefix_of_pp x)) e ∙ h

-- the field pp of a fitting VEX is that of the class
pub vex-class : (c : Class) (v : Vex) → vex_class_fits c v ≡ true → class_allows c (prefix_of_pp v.pp) ≡ true
unfolding vex_class_fits
vex-class class.Any v h = cc
vex-class class.Np v h = with_pp class.Np v.pp 0 (eqb-true v.pp 0 h) refl
vex-class class.Nfx v h = cc
vex-class class.Nf3 v h = cc
vex-class class.P66 v h = with_pp class.P66 v.pp 1 (eqb-true v.pp 1 h) refl
vex-class class.F3 v h = with_pp class.F3 v.pp 2 (eqb-true v.pp 2 h) refl
vex-class class.F2 v h = with_pp class.F2 v.pp 3 (eqb-true v.pp 3 h) refl

-- ---- sizes

-- a REX counts in 64-bit mode alone
pub rex-64 : (bits : Bits) (prefixes : List ℕ) (n : ℕ)
    → (is_64 bits && rex_bit n (counting_rex bits prefixes)) ≡ rex_bit n (counting_rex bits prefixes)
unfolding counting_rex
rex-64 B16 prefixes n = refl
rex-64 B32 prefixes n = refl
rex-64 B64 prefixes n = refl

-- a size that fits is allowed by the fields
pub size-allowed : (bits : Bits) (z : Size) (n : Bits) (x : Bool) → size_fits bits z n x ≡ true → size_allows z n ≡ true
unfolding size_fits
size-allowed bits size.None n x h = refl
size-allowed bits size.O16 n x h = h
size-allowed bits size.O32 n x h = h
size-allowed bits size.O32or64 n x h = h
size-allowed bits size.O64 n x h = h
size-allowed bits size.W0 n x h = refl
size-allowed bits size.W1 n x h = refl

-- so is every size where a VEX row has none
pub size-of_vex : (z : Size) (n : Bits) → is_size_of_vex z ≡ true → size_allows z n ≡ true
size-of_vex size.None n h = refl
size-of_vex size.O16 n h = cc
size-of_vex size.O32 n h = cc
size-of_vex size.O32or64 n h = cc
size-of_vex size.O64 n h = cc
size-of_vex size.W0 n h = refl
size-of_vex size.W1 n h = refl

-- W is that of the size where it is the size
pub w-as_size : (bits : Bits) (z : Size) (n : Bits) (x : Bool) → size_fits bits z n x ≡ true → w_as_size z x ≡ true
unfolding size_fits
w-as_size bits size.None n x h = refl
w-as_size bits size.O16 n x h = refl
w-as_size bits size.O32 n x h = refl
w-as_size bits size.O32or64 n x h = refl
w-as_size bits size.O64 n x h = refl
w-as_size bits size.W0 n x h = h
w-as_size bits size.W1 n x h = h

-- a legacy row puts no condition on W
pub w-of_legacy : (z : Size) (x : WBit) (b : Bool) → is_no_w x ≡ true → w_allows z x b ≡ true
w-of_legacy size.None w.None b h = refl
w-of_legacy size.None w.W0 b h = cc
w-of_legacy size.None w.W1 b h = cc
w-of_legacy size.None w.Wig b h = cc
w-of_legacy size.O16 w.None b h = refl
w-of_legacy size.O16 w.W0 b h = cc
w-of_legacy size.O16 w.W1 b h = cc
w-of_legacy size.O16 w.Wig b h = cc
w-of_legacy size.O32 w.None b h = refl
w-of_legacy size.O32 w.W0 b h = cc
w-of_legacy size.O32 w.W1 b h = cc
w-of_legacy size.O32 w.Wig b h = cc
w-of_legacy size.O32or64 w.None b h = refl
w-of_legacy size.O32or64 w.W0 b h = cc
w-of_legacy size.O32or64 w.W1 b h = cc
w-of_legacy size.O32or64 w.Wig b h = cc
w-of_legacy size.O64 w.None b h = refl
w-of_legacy size.O64 w.W0 b h = cc
w-of_legacy size.O64 w.W1 b h = cc
w-of_legacy size.O64 w.Wig b h = cc
w-of_legacy size.W0 w.None b h = refl
w-of_legacy size.W0 w.W0 b h = refl
w-of_legacy size.W0 w.W1 b h = refl
w-of_legacy size.W0 w.Wig b h = refl
w-of_legacy size.W1 w.None b h = refl
w-of_legacy size.W1 w.W0 b h = refl
w-of_legacy size.W1 w.W1 b h = refl
w-of_legacy size.W1 w.Wig b h = refl

-- W of a fitting VEX is allowed by the fields
pub w-of_vex : (z : Size) (x : WBit) (b : Bool)
    → (takes_w_as_size z || elim x [ w.W0 ↦ not b | w.W1 ↦ b | _ ↦ true ]) ≡ true → w_allows z x b ≡ true
w-of_vex size.None w.None b h = refl
w-of_vex size.None w.W0 b h = h
w-of_vex size.None w.W1 b h = h
w-of_vex size.None w.Wig b h = refl
w-of_vex size.O16 w.None b h = refl
w-of_vex size.O16 w.W0 b h = h
w-of_vex size.O16 w.W1 b h = h
w-of_vex size.O16 w.Wig b h = refl
w-of_vex size.O32 w.None b h = refl
w-of_vex size.O32 w.W0 b h = h
w-of_vex size.O32 w.W1 b h = h
w-of_vex size.O32 w.Wig b h = refl
w-of_vex size.O32or64 w.None b h = refl
w-of_vex size.O32or64 w.W0 b h = h
w-of_vex size.O32or64 w.W1 b h = h
w-of_vex size.O32or64 w.Wig b h = refl
w-of_vex size.O64 w.None b h = refl
w-of_vex size.O64 w.W0 b h = h
w-of_vex size.O64 w.W1 b h = h
w-of_vex size.O64 w.Wig b h = refl
w-of_vex size.W0 w.None b h = refl
w-of_vex size.W0 w.W0 b h = refl
w-of_vex size.W0 w.W1 b h = refl
w-of_vex size.W0 w.Wig b h = refl
w-of_vex size.W1 w.None b h = refl
w-of_vex size.W1 w.W0 b h = refl
w-of_vex size.W1 w.W1 b h = refl
w-of_vex size.W1 w.Wig b h = refl

-- a legacy row puts no condition on L
pub l-of_legacy : (x : LBit) → is_no_l x ≡ true → l_holds x false ≡ true
l-of_legacy l.None h = refl
l-of_legacy l.L128 h = cc
l-of_legacy l.L256 h = cc
l-of_legacy l.Lig h = cc
l-of_legacy l.Lz h = cc

-- L of a fitting VEX holds by the fields
pub l-of_vex : (x : LBit) (v : Vex) → l_fits x v ≡ true → l_holds x v.l ≡ true
unfolding l_fits
l-of_vex l.None v h = refl
l-of_vex l.L128 v h = h
l-of_vex l.L256 v h = h
l-of_vex l.Lig v h = refl
l-of_vex l.Lz v h = h
