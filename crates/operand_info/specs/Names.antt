-- The names that the columns go by, each list one rule's (Intel SDM volume 2, chapters 3 to 5: the operand encoding of each instruction).
use Rattle.std.specs.Prelude.{ℕ, Bool, not, ◌&&◌, ◌||◌, if◌then◌else◌, List, [], ◌∷◌, drop, bytes_eq, codes, nat_eq}
use Rattle.std.specs.List.{list_any, starts_with}
use Rattle.instruction_parts.specs.declared.row_types.Row.{Row}
use Rattle.instruction_parts.specs.Sizes.{is_vex_row}

-- ---- tests of a name

-- the name is one of these
abbrev pub is_one_of : List (List ℕ) → List ℕ → Bool
is_one_of words name = list_any (λ word. bytes_eq name word) words

-- the name is of one of these families: it begins with the word
abbrev pub is_of_family : List (List ℕ) → List ℕ → Bool
is_of_family words name = list_any (λ word. starts_with nat_eq name word) words

-- the name that a VEX form has without its V
unfoldable pub legacy_name : List ℕ → Row → List ℕ
legacy_name name row = if is_vex_row row && is_of_family (codes "v" ∷ []) name then drop 1 name else name

-- ---- branches

-- a jump that is always taken, near or far
unfoldable pub is_jump : List ℕ → Bool
is_jump = is_one_of (codes "jmp" ∷ codes "jmpf" ∷ [])

-- a call of a procedure, near or far
unfoldable pub is_call : List ℕ → Bool
is_call = is_one_of (codes "call" ∷ codes "callf" ∷ [])

-- Jcc, JRCXZ and the loops: the names with a J but JMP and JMPF, and those of LOOP
unfoldable pub is_conditional : List ℕ → Bool
is_conditional name = (is_of_family (codes "j" ∷ []) name && not (is_jump name)) || is_of_family (codes "loop" ∷ []) name

-- returns from a procedure, an interrupt or a system call
unfoldable pub is_return : List ℕ → Bool
is_return name =
    is_one_of (codes "ret" ∷ codes "retf" ∷ codes "sysret" ∷ codes "sysexit" ∷ []) name || is_of_family (codes "iret" ∷ []) name

-- a fast call to a system procedure
unfoldable pub is_system_call : List ℕ → Bool
is_system_call = is_one_of (codes "syscall" ∷ codes "sysenter" ∷ [])

-- a call to an interrupt handler
unfoldable pub is_interrupt : List ℕ → Bool
is_interrupt = is_one_of (codes "int" ∷ codes "int1" ∷ codes "int3" ∷ codes "into" ∷ [])

-- the undefined instructions, which raise #UD
unfoldable pub is_undefined : List ℕ → Bool
is_undefined = is_one_of (codes "ud1" ∷ codes "ud2" ∷ [])

-- ---- first operands

-- nothing reads or writes the first operand: hints, and addresses of lines and pages
unfoldable pub is_hint : List ℕ → Bool
is_hint name =
    is_one_of (codes "nop" ∷ codes "invlpg" ∷ codes "clflush" ∷ codes "clflushopt" ∷ codes "ud1" ∷ []) name
    || is_of_family (codes "prefetch" ∷ []) name

-- both operands change places or sums
unfoldable pub is_exchange : List ℕ → Bool
is_exchange = is_one_of (codes "xchg" ∷ codes "xadd" ∷ [])

-- moves that keep the elements of the destination whose mask is 0
unfoldable pub is_masked_move : List ℕ → Bool
is_masked_move = is_of_family (codes "vmaskmov" ∷ codes "vpmaskmov" ∷ [])

-- multiplies and adds to the first operand (FMA)
unfoldable pub is_multiply_add : List ℕ → Bool
is_multiply_add = is_of_family (codes "vfmadd" ∷ codes "vfmsub" ∷ codes "vfnmadd" ∷ codes "vfnmsub" ∷ [])

-- SSE moves and conversions that keep the upper part of the destination
unfoldable pub is_merging : List ℕ → Bool
is_merging =
    is_one_of (codes "movss" ∷ codes "movsd" ∷ codes "cvtsi2ss" ∷ codes "cvtsi2sd" ∷ codes "cvtss2sd" ∷ codes "cvtsd2ss"
    ∷ codes "cvtpi2ps" ∷ codes "movhlps" ∷ codes "movlhps" ∷ [])

-- SSE moves of one half, which keep the other half of a register
unfoldable pub is_half_move : List ℕ → Bool
is_half_move = is_one_of (codes "movlps" ∷ codes "movlpd" ∷ codes "movhps" ∷ codes "movhpd" ∷ [])

-- MULX, which writes its first two operands
unfoldable pub is_mulx : List ℕ → Bool
is_mulx = is_one_of (codes "mulx" ∷ [])

-- IMUL, in its forms of one, two and three operands
unfoldable pub is_imul : List ℕ → Bool
is_imul = is_one_of (codes "imul" ∷ [])

-- integer names whose first operand is only read
unfoldable pub is_integer_reader : List ℕ → Bool
is_integer_reader =
    is_one_of (codes "cmp" ∷ codes "test" ∷ codes "bt" ∷ codes "push" ∷ codes "out" ∷ codes "int" ∷ codes "enter" ∷ codes "aam"
    ∷ codes "aad" ∷ codes "bound" ∷ codes "call" ∷ codes "callf" ∷ codes "jmp" ∷ codes "jmpf" ∷ codes "ret" ∷ codes "retf"
    ∷ codes "mul" ∷ codes "div" ∷ codes "idiv" ∷ codes "verr" ∷ codes "verw" ∷ codes "lldt" ∷ codes "ltr" ∷ codes "lmsw"
    ∷ codes "lgdt" ∷ codes "lidt" ∷ codes "wrfsbase" ∷ codes "wrgsbase" ∷ [])

-- names of the x87 unit that only read the first operand, a register of the stack or memory
unfoldable pub is_x87_reader : List ℕ → Bool
is_x87_reader =
    is_one_of (codes "fld" ∷ codes "fcom" ∷ codes "fcomp" ∷ codes "fucom" ∷ codes "fucomp" ∷ codes "fcomi" ∷ codes "fucomi"
    ∷ codes "fcomip" ∷ codes "fucomip" ∷ [])

-- MMX and SSE names, and those that restore state, whose first operand is only read: tests and comparisons that set flags or fixed registers
unfoldable pub is_vector_reader : List ℕ → Bool
is_vector_reader name =
    is_one_of (codes "ldmxcsr" ∷ codes "ptest" ∷ codes "maskmovq" ∷ codes "maskmovdqu" ∷ []) name
    || is_of_family (codes "fxrstor" ∷ codes "xrstor" ∷ codes "comis" ∷ codes "ucomis" ∷ codes "pcmpestr" ∷ codes "pcmpistr" ∷ []) name

-- VTESTPS and VTESTPD, which set flags alone
unfoldable pub is_vector_test : List ℕ → Bool
is_vector_test = is_of_family (codes "vtest" ∷ [])

-- names of the x87 unit that store to the first operand
unfoldable pub is_x87_writer : List ℕ → Bool
is_x87_writer =
    is_one_of (codes "fst" ∷ codes "fstp" ∷ codes "fist" ∷ codes "fistp" ∷ codes "fisttp" ∷ codes "fbstp" ∷ codes "fnstcw"
    ∷ codes "fnstenv" ∷ codes "fnsave" ∷ codes "fnstsw" ∷ [])

-- families whose first operand is only written: moves, conversions, conditions as bytes, saved state, elements taken out, absolute values
unfoldable pub is_writing_family : List ℕ → Bool
is_writing_family =
    is_of_family (codes "mov" ∷ codes "cvt" ∷ codes "pmov" ∷ codes "set" ∷ codes "fxsave" ∷ codes "pextr" ∷ codes "pabs" ∷ [])

-- integer names whose first operand is only written
unfoldable pub is_integer_writer : List ℕ → Bool
is_integer_writer =
    is_one_of (codes "lea" ∷ codes "pop" ∷ codes "in" ∷ codes "les" ∷ codes "lds" ∷ codes "lss" ∷ codes "lfs" ∷ codes "lgs"
    ∷ codes "popcnt" ∷ codes "lzcnt" ∷ codes "tzcnt" ∷ codes "sldt" ∷ codes "str" ∷ codes "smsw" ∷ codes "sgdt" ∷ codes "sidt"
    ∷ codes "rdrand" ∷ codes "rdseed" ∷ codes "rdfsbase" ∷ codes "rdgsbase" ∷ codes "stmxcsr" ∷ [])

-- MMX and SSE names whose first operand is only written
unfoldable pub is_vector_writer : List ℕ → Bool
is_vector_writer =
    is_one_of (codes "extractps" ∷ codes "pshufw" ∷ codes "pshufd" ∷ codes "pshufhw" ∷ codes "pshuflw" ∷ codes "sqrtps"
    ∷ codes "sqrtpd" ∷ codes "rsqrtps" ∷ codes "rcpps" ∷ codes "roundps" ∷ codes "roundpd" ∷ codes "lddqu"
    ∷ codes "phminposuw" ∷ codes "aesimc" ∷ codes "aeskeygenassist" ∷ [])

-- ---- second operands

-- nothing reads or writes the second operand: LEA takes its address alone
unfoldable pub is_address_only : List ℕ → Bool
is_address_only = is_one_of (codes "lea" ∷ codes "ud1" ∷ [])
