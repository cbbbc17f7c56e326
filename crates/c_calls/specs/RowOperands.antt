-- The operands of a row: the word of each kind, and what is done to it.
use Rattle.std.specs.Prelude.{ℕ, nat_lt, List, [], Option, Some, None, Result, Ok, Err, if◌then◌else◌, codes, slice_get, slice_index_or}
use Rattle.instruction_parts.specs.declared.row_types.OpKind.{OpKind}
use Rattle.instruction_parts.specs.declared.row_types.OpKind.TheVariants as kind
use Rattle.instruction_parts.specs.declared.row_types.Row.{Row}
use Rattle.opcode_rows.specs.declared.generated_spots.TheConstants.{ROWS}
use Rattle.opcode_rows.specs.Table.{table}
use Rattle.c_calls.specs.declared.refusal.Refusal.{Refusal}
use Rattle.c_calls.specs.declared.refusal.Refusal.TheVariants.{Code, Name}

-- the word of a kind by the manual's letters, empty for an absent operand (Intel SDM volume 2, A.2)
abbrev pub kind_word : OpKind → List ℕ
kind_word kind.Absent = []
kind_word kind.Eb = codes "Eb"
kind_word kind.Ew = codes "Ew"
kind_word kind.Ed = codes "Ed"
kind_word kind.Eq = codes "Eq"
kind_word kind.Ev = codes "Ev"
kind_word kind.Ez = codes "Ez"
kind_word kind.Ey = codes "Ey"
kind_word kind.Gb = codes "Gb"
kind_word kind.Gw = codes "Gw"
kind_word kind.Gd = codes "Gd"
kind_word kind.Gv = codes "Gv"
kind_word kind.Gy = codes "Gy"
kind_word kind.Zb = codes "Zb"
kind_word kind.Zv = codes "Zv"
kind_word kind.By = codes "By"
kind_word kind.Rv = codes "Rv"
kind_word kind.Ry = codes "Ry"
kind_word kind.Rm = codes "Rm"
kind_word kind.Xv = codes "Xv"
kind_word kind.Kb = codes "Kb"
kind_word kind.Kw = codes "Kw"
kind_word kind.Sw = codes "Sw"
kind_word kind.Cn = codes "Cn"
kind_word kind.Dn = codes "Dn"
kind_word kind.M = codes "M"
kind_word kind.Mb = codes "Mb"
kind_word kind.Mw = codes "Mw"
kind_word kind.Md = codes "Md"
kind_word kind.Mq = codes "Mq"
kind_word kind.Mt = codes "Mt"
kind_word kind.Mv = codes "Mv"
kind_word kind.Mx = codes "Mx"
kind_word kind.Mo = codes "Mo"
kind_word kind.Ma = codes "Ma"
kind_word kind.Mp = codes "Mp"
kind_word kind.Mf = codes "Mf"
kind_word kind.Ob = codes "Ob"
kind_word kind.Ov = codes "Ov"
kind_word kind.Ib = codes "Ib"
kind_word kind.Iw = codes "Iw"
kind_word kind.Ibs = codes "Ibs"
kind_word kind.Iz = codes "Iz"
kind_word kind.Iv = codes "Iv"
kind_word kind.Jb = codes "Jb"
kind_word kind.Jz = codes "Jz"
kind_word kind.Ap = codes "Ap"
kind_word kind.Pq = codes "Pq"
kind_word kind.Qd = codes "Qd"
kind_word kind.Qq = codes "Qq"
kind_word kind.Nq = codes "Nq"
kind_word kind.Vx = codes "Vx"
kind_word kind.Hx = codes "Hx"
kind_word kind.Lx = codes "Lx"
kind_word kind.Ux = codes "Ux"
kind_word kind.Wx = codes "Wx"
kind_word kind.Vo = codes "Vo"
kind_word kind.Ho = codes "Ho"
kind_word kind.Wo = codes "Wo"
kind_word kind.Wb = codes "Wb"
kind_word kind.Ww = codes "Ww"
kind_word kind.Wd = codes "Wd"
kind_word kind.Wq = codes "Wq"
kind_word kind.Wh = codes "Wh"
kind_word kind.W4 = codes "W4"
kind_word kind.W8 = codes "W8"
kind_word kind.GatherX = codes "gx"
kind_word kind.GatherL = codes "gv"
kind_word kind.RaxAny = codes "rAX"
kind_word kind.EaxZ = codes "eAX"
kind_word kind.Al = codes "AL"
kind_word kind.Ax = codes "AX"
kind_word kind.Cl = codes "CL"
kind_word kind.Dx = codes "DX"
kind_word kind.Es = codes "ES"
kind_word kind.Cs = codes "CS"
kind_word kind.Ss = codes "SS"
kind_word kind.Ds = codes "DS"
kind_word kind.Fs = codes "FS"
kind_word kind.Gs = codes "GS"
kind_word kind.St = codes "ST"
kind_word kind.Xmm0 = codes "XMM0"
kind_word kind.One = codes "1"
kind_word kind.StI = codes "ST(i)"

-- the kind of operand n of a row that may be none
abbrev pub kind_in : Option Row → ℕ → OpKind
kind_in None n = kind.Absent
kind_in (Some row) n = slice_index_or row.ops n kind.Absent

-- the kind of operand n of the row of a code
unfoldable pub row_kind_at : ℕ → ℕ → OpKind
row_kind_at code n = kind_in (slice_get table code) n

-- its word: a row has four operands, some of them absent
unfoldable pub kind_answer : ℕ → ℕ → Result (List ℕ) Refusal
kind_answer code n = if nat_lt code ROWS then (if nat_lt n 4 then Ok (kind_word (row_kind_at code n)) else Err Name) else Err Code

-- what the number of an access has then: it is unchanged after a refusal
abbrev pub access_left : ℕ → Result (List ℕ) Refusal → ℕ → ℕ
access_left old (Ok word) access = access
access_left old (Err why) access = old
