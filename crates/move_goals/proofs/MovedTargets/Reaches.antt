-- An operand at RIP or EIP that is aimed at what it reaches meets the conditions on its displacement and its target.
use Rattle.std.proofs.Common.{◌≡◌, ℕ, ◌+◌, ◌-◌, ◌%◌, ◌^◌, ◌≤◌, ◌<◌, Bool, true, ◌&&◌, ◌==◌, nat_lt, Option, Some, None, is_none, refl, ap, ◌∙◌, arith}
use Rattle.std.proofs.lemmas.Bool.{and_parts, lt-ltb}
use Rattle.std.specs.Prelude.{unwrap_or}
use Rattle.x86_values.specs.declared.Bits.{Bits}
use Rattle.x86_values.specs.declared.Bits.TheVariants.{B16, B32, B64}
use Rattle.x86_values.specs.declared.DispSize.{DispSize}
use Rattle.x86_values.specs.declared.Register.{Register}
use Rattle.x86_values.specs.declared.Register.TheVariants.{Eip, Rip}
use Rattle.x86_values.specs.declared.Mem.{Mem}
use Rattle.x86_values.specs.declared.Operand.{Operand}
use Rattle.x86_values.specs.declared.Operand.TheVariants.{Absent, Reg, Mem as Memory, Imm, Near, Far}
use Rattle.x86_values.specs.Wrapping.{width, modulo_width}
use Rattle.instruction_parts.specs.declared.row_types.Row.{Row}
use Rattle.instruction_parts.specs.declared.kinds.Method.{Method}
use Rattle.instruction_parts.specs.declared.kinds.Method.TheVariants as method
use Rattle.instruction_parts.specs.declared.kinds.File.{File}
use Rattle.instruction_parts.specs.Counting.{is_64}
use Rattle.plain_spelling.specs.declared.addresses.AddressForm.{AddressForm}
use Rattle.plain_spelling.specs.declared.addresses.AddressForm.TheVariants.{Relative}
use Rattle.plain_spelling.specs.Values.{is_extended_of, distance}
use Rattle.plain_spelling.specs.Addresses.{form_of, written_size, form_offers, offers, displacement_count, is_displacement, displacement_suits, is_gather_base, is_gather_shape, is_shape, shape_suits, general_size}
use Rattle.plain_spelling.specs.Expressible.{near_reaches, address_reaches}
use Rattle.operand_info.specs.Operands.{near_value}
use Rattle.branch_sizes.specs.declared.plan.Reach.{Reach}
use Rattle.branch_sizes.specs.declared.plan.Reach.TheVariants.{Always}
use Rattle.branch_sizes.specs.Layout.{Reaches}
use Rattle.move_goals.specs.MovedTargets.Targets.{base_reach, operand_reach, aimed_operand}
use Rattle.move_goals.proofs.MovedTargets.Ignored.{aimed_disp, with_target-memory}
use Rattle.move_goals.proofs.MovedTargets.Unchanged.{written_size-disp}
use Rattle.move_goals.proofs.MovedTargets.Nearby.{reached}

-- a form of this length at a place reaches the target as far as it has to reach one
abbrev pub Reached : Option Reach → ℕ → ℕ → ℕ → Type 0
Reached reach len place t = Reaches (unwrap_or reach Always) len place t

-- ---- numbers

any_32 : (x : ℕ) → x < 2 ^ 32 → is_extended_of 4 32 x ≡ true
unfolding is_extended_of
any_32 x below = rw (lt-ltb x (2 ^ 32) below) refl

-- **an address at EIP is reached wherever it is**
eip_reached : (next t : ℕ) → is_extended_of 4 32 (distance B32 next t) ≡ true
unfolding distance
eip_reached next t = any_32 ((t + (2 ^ 64 - next)) % 2 ^ 32) (omega arith)

-- ---- the displacement

-- the test of a displacement by the form
abbrev pub displaced_by : Bits → AddressForm → DispSize → ℕ → Bool
displaced_by asize form size disp =
    elim form [ Relative size ↦ nat_lt disp (2 ^ width size) | _ ↦ is_extended_of (displacement_count size) (width asize) disp ]

displaced : (asize : Bits) (base index : Option Register) (size : DispSize) (disp len place t : ℕ) → Reached (base_reach base) len place t → t < 2 ^ 64 → displaced_by asize (form_of base index) size disp ≡ true → displaced_by asize (form_of base index) size (aimed_disp t base disp) ≡ true
unfolding base_reach form_of
displaced asize None index size disp len place t reach below h = h
displaced asize (Some Rip) index size disp len place t reach below h = lt-ltb t (2 ^ 64) below
displaced asize (Some Eip) index size disp len place t reach below h = lt-ltb t (2 ^ 32) reach
displaced asize (Some _) index size disp len place t reach below h = h

offers_same : (asize : Bits) (how : Method) (m : Mem) (disp n : ℕ) → offers asize how (record m { disp = disp }) n ≡ offers asize how m n
unfolding offers form_offers
offers_same asize method.Gather m disp n = refl
offers_same asize method.Offset m disp n = refl
offers_same asize _ m disp n = refl

displacement_kept : (asize : Bits) (how : Method) (m : Mem) (len place t : ℕ) → Reached (base_reach m.base) len place t → t < 2 ^ 64 → displacement_suits asize how m ≡ true → displacement_suits asize how (record m { disp = aimed_disp t m.base m.disp }) ≡ true
unfolding displacement_suits is_displacement
displacement_kept asize how m len place t reach below h =
    let n = displacement_count m.disp_size in
    let a = (and_parts (offers asize how m n) (displaced_by asize (form_of m.base m.index) m.disp_size m.disp) h).0 in
    let b = (and_parts (offers asize how m n) (displaced_by asize (form_of m.base m.index) m.disp_size m.disp) h).1 in
    rw (offers_same asize how m (aimed_disp t m.base m.disp) n, a, displaced asize m.base m.index m.disp_size m.disp len place t reach below b) refl

-- the test of the displacement of an operand
abbrev pub displacement_of_operand_suits : Bits → Option Bits → Method → Operand → Bool
displacement_of_operand_suits bits asize how op = elim op [ Memory m ↦ displacement_suits (written_size bits asize m) how m | _ ↦ true ]

-- **the displacement of an operand that is aimed at what it reaches is offered, as its own was**
pub operand-offered : (bits : Bits) (asize : Option Bits) (how : Method) (op : Operand) (len place t : ℕ) → Reached (operand_reach op) len place t → t < 2 ^ 64 → displacement_of_operand_suits bits asize how op ≡ true → displacement_of_operand_suits bits asize how (aimed_operand t op) ≡ true
unfolding operand_reach aimed_operand
operand-offered bits asize how Absent len place t reach below h = h
operand-offered bits asize how (Reg r) len place t reach below h = h
operand-offered bits asize how (Memory m) len place t reach below h =
    let disp = aimed_disp t m.base m.disp in
    let k : displacement_of_operand_suits bits asize how (Memory (record m { disp = disp })) ≡ true =
    rw (written_size-disp bits asize m disp) (displacement_kept (written_size bits asize m) how m len place t reach below h) in
    ap (displacement_of_operand_suits bits asize how) (with_target-memory t m) ∙ k
operand-offered bits asize how (Imm x) len place t reach below h = h
operand-offered bits asize how (Near x) len place t reach below h = h
operand-offered bits asize how (Far x y) len place t reach below h = h

-- ---- the target

-- an address at RIP is of 64-bit mode
by_method : (bits : Bits) (row : Row) (how : Method) (file : File) (m : Mem) → m.base ≡ Some Rip → shape_suits bits row how file m ≡ true → is_64 bits ≡ true
unfolding shape_suits is_gather_shape is_gather_base general_size is_shape form_of
by_method bits row method.Gather file m e h = let k = rw e at h in cc
by_method bits row method.Offset file m e h = let k = rw e at h in cc
by_method bits row _ file m e h = let k = rw e at h in (and_parts (is_64 bits) (is_none m.index && m.scale == 1) k).0

-- the test of an address by its parts
abbrev pub reached_by : ℕ → AddressForm → ℕ → Bool
reached_by next form disp = elim form [ Relative size ↦ is_extended_of 4 (width size) (distance size next disp) | _ ↦ true ]

mode_64 : (bits : Bits) → is_64 bits ≡ true → bits ≡ B64
mode_64 B16 h = cc
mode_64 B32 h = cc
mode_64 B64 h = refl

base_reached : (bits : Bits) (base index : Option Register) (disp len place t : ℕ) → (base ≡ Some Rip → bits ≡ B64) → Reached (base_reach base) len place t → t < 2 ^ 64 → 1 ≤ len → place + len ≤ 2 ^ width bits → reached_by (modulo_width bits (modulo_width bits place + len)) (form_of base index) (aimed_disp t base disp) ≡ true
unfolding base_reach form_of
base_reached bits None None disp len place t mode reach below some within = refl
base_reached bits None (Some r) disp len place t mode reach below some within = refl
base_reached bits (Some Rip) index disp len place t mode reach below some within =
    let e = mode refl in
    rw e (reached 4 (2 ^ 31) refl (omega arith) place len t some (rw e at within) below reach)
base_reached bits (Some Eip) index disp len place t mode reach below some within = eip_reached (modulo_width bits (modulo_width bits place + len)) t
base_reached bits (Some _) index disp len place t mode reach below some within = refl

address_reached : (bits : Bits) (m : Mem) (len place t : ℕ) → (m.base ≡ Some Rip → bits ≡ B64) → Reached (base_reach m.base) len place t → t < 2 ^ 64 → 1 ≤ len → place + len ≤ 2 ^ width bits → address_reaches (modulo_width bits (modulo_width bits place + len)) (record m { disp = aimed_disp t m.base m.disp }) ≡ true
unfolding address_reaches
address_reached bits m len place t mode reach below some within = base_reached bits m.base m.index m.disp len place t mode reach below some within

-- the test of the target of an operand
abbrev pub target_of_operand_suits : Bits → ℕ → ℕ → Operand → Bool
target_of_operand_suits size next n op = elim op [ Near target ↦ near_reaches size next n target | Memory m ↦ address_reaches next m | _ ↦ true ]

-- the test of the shape of an operand
abbrev pub shape_of_operand_suits : Bits → Row → Method → File → Operand → Bool
shape_of_operand_suits bits row how file op = elim op [ Memory m ↦ shape_suits bits row how file m | _ ↦ true ]

-- **an operand that is no near target and is aimed at what it reaches reaches that**
pub operand-reached : (bits size : Bits) (n : ℕ) (row : Row) (how : Method) (file : File) (op : Operand) (len place t : ℕ) → near_value op ≡ None → shape_of_operand_suits bits row how file op ≡ true → Reached (operand_reach op) len place t → t < 2 ^ 64 → 1 ≤ len → place + len ≤ 2 ^ width bits → target_of_operand_suits size (modulo_width bits (modulo_width bits place + len)) n (aimed_operand t op) ≡ true
unfolding operand_reach aimed_operand near_value
operand-reached bits size n row how file Absent len place t none shape reach below some within = refl
operand-reached bits size n row how file (Reg r) len place t none shape reach below some within = refl
operand-reached bits size n row how file (Memory m) len place t none shape reach below some within =
    let next = modulo_width bits (modulo_width bits place + len) in
    ap (target_of_operand_suits size next n) (with_target-memory t m)
    ∙ address_reached bits m len place t (λ e. mode_64 bits (by_method bits row how file m e shape)) reach below some within
operand-reached bits size n row how file (Imm x) len place t none shape reach below some within = refl
operand-reached bits size n row how file (Near x) len place t none shape reach below some within = cc
operand-reached bits size n row how file (Far x y) len place t none shape reach below some within = refl
