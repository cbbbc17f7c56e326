-- An address of a base of 64 bits alone meets what is asked of addresses.
use Rattle.std.proofs.Common.{◌≡◌, ℕ, true, ◌&&◌, ◌==◌, refl}
use Rattle.std.proofs.lemmas.Bool.{and_parts}
use Rattle.std.specs.Prelude.{Option, Some, None}
use Rattle.x86_values.specs.declared.Bits.{Bits}
use Rattle.x86_values.specs.declared.Bits.TheVariants.{B64}
use Rattle.x86_values.specs.declared.Register.{Register}
use Rattle.x86_values.specs.declared.Register.TheVariants.{R64}
use Rattle.x86_values.specs.declared.Mem.{Mem}
use Rattle.instruction_parts.specs.declared.row_types.Row.{Row}
use Rattle.instruction_parts.specs.declared.kinds.Method.{Method}
use Rattle.instruction_parts.specs.declared.kinds.Method.TheVariants as method
use Rattle.instruction_parts.specs.declared.kinds.File.{File}
use Rattle.instruction_parts.specs.Counting.{is_64}
use Rattle.plain_spelling.specs.Values.{is_extended_of}
use Rattle.plain_spelling.specs.Addresses.{general_size, shown_size, written_size, form_of, has_address_size, is_base, is_index, scale_suits, is_wide_size, is_wide_shape, is_shape, shape_suits, displacement_count, wide_offers, form_offers, offers, is_displacement, displacement_suits, is_by_modrm, is_sole_base, is_based}
use Rattle.plain_spelling.specs.Expressible.{address_reaches}

-- what the test says
record Based (bits : Bits) (m : Mem) : Type 0 where
  mode : is_64 bits ≡ true
  sole : is_sole_base m.base m.index ≡ true
  base : is_base bits B64 m.base ≡ true
  scale : (m.scale == 1) ≡ true
  displacement_offered : wide_offers m.base (displacement_count m.disp_size) ≡ true
  extended : is_extended_of (displacement_count m.disp_size) 64 m.disp ≡ true

based : (bits : Bits) (m : Mem) → is_based bits m ≡ true → Based bits m
unfolding is_based
based bits m h =
    let displaced = wide_offers m.base (displacement_count m.disp_size) && is_extended_of (displacement_count m.disp_size) 64 m.disp in
    let a = and_parts (is_64 bits) _ h in
    let b = and_parts (is_sole_base m.base m.index) (is_base bits B64 m.base && (m.scale == 1 && displaced)) a.1 in
    let c = and_parts (is_base bits B64 m.base) (m.scale == 1 && displaced) b.1 in
    let d = and_parts (m.scale == 1) displaced c.1 in
    let e = and_parts (wide_offers m.base (displacement_count m.disp_size)) _ d.1 in
    record { mode = a.0; sole = b.0; base = c.0; scale = d.0; displacement_offered = e.0; extended = e.1 }

shape-by : (bits : Bits) (row : Row) (how : Method) (file : File) (m : Mem) (base index : Option Register) → m.base ≡ base → m.index ≡ index → is_64 bits ≡ true
    → is_by_modrm how ≡ true → is_sole_base base index ≡ true → is_base bits B64 base ≡ true → (m.scale == 1) ≡ true → shape_suits bits row how file m ≡ true
unfolding shape_suits is_shape form_of is_wide_shape shown_size general_size is_wide_size has_address_size is_index scale_suits
shape-by B64 row method.RegisterOrMemory file m (Some (R64 n)) None eb ei t h s b c = rw (eb, ei, b, c) refl
shape-by B64 row method.MemoryOnly file m (Some (R64 n)) None eb ei t h s b c = rw (eb, ei, b, c) refl
shape-by _ row _ file m _ _ eb ei t h s b c = cc

displacement-by : (bits : Bits) (asize : Option Bits) (how : Method) (m : Mem) (base index : Option Register) → m.base ≡ base → m.index ≡ index
    → is_by_modrm how ≡ true → is_sole_base base index ≡ true → wide_offers base (displacement_count m.disp_size) ≡ true
    → is_extended_of (displacement_count m.disp_size) 64 m.disp ≡ true → displacement_suits (written_size bits asize m) how m ≡ true
unfolding displacement_suits offers form_offers form_of is_displacement written_size shown_size general_size
displacement-by bits asize method.RegisterOrMemory m (Some (R64 n)) None eb ei h s o x = rw (eb, o, x) refl
displacement-by bits asize method.MemoryOnly m (Some (R64 n)) None eb ei h s o x = rw (eb, o, x) refl
displacement-by bits asize _ m _ _ eb ei h s o x = cc

reaches-by : (next : ℕ) (m : Mem) (base index : Option Register) → m.base ≡ base → m.index ≡ index → is_sole_base base index ≡ true → address_reaches next m ≡ true
unfolding address_reaches form_of
reaches-by next m (Some (R64 n)) None eb ei s = rw eb refl
reaches-by next m _ _ eb ei s = cc

-- **it meets the conditions 4, 5 and 7**
pub based-suits : (bits : Bits) (row : Row) (asize : Option Bits) (next : ℕ) (how : Method) (file : File) (m : Mem) → is_by_modrm how ≡ true → is_based bits m ≡ true
    → (shape_suits bits row how file m && (displacement_suits (written_size bits asize m) how m && address_reaches next m)) ≡ true
based-suits bits row asize next how file m h t =
    let k = based bits m t in
    rw (shape-by bits row how file m m.base m.index refl refl k.mode h k.sole k.base k.scale, displacement-by bits asize how m m.base m.index refl refl h k.sole k.displacement_offered k.extended, reaches-by next m m.base m.index refl refl k.sole) refl
