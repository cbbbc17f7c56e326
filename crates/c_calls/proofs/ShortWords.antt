-- The words of the kinds of operands are short.
use Rattle.std.proofs.Common.{◌≡◌, ℕ, ◌≤◌, Bool, true, false, length, refl}
use Rattle.std.specs.Prelude.{nat_lt, nat_le, Ok, Err, if◌then◌else◌}
use Rattle.std.proofs.lemmas.Bool.{leb-true}
use Rattle.instruction_parts.specs.declared.row_types.OpKind.{OpKind}
use Rattle.instruction_parts.specs.declared.row_types.OpKind.TheVariants as kind
use Rattle.opcode_rows.specs.declared.generated_spots.TheConstants.{ROWS}
use Rattle.c_calls.specs.declared.refusal.Refusal.TheVariants.{Code, Name}
use Rattle.c_calls.specs.RowOperands.{kind_word, row_kind_at, kind_answer}
use Rattle.c_calls.specs.Sizes.{HasAtMost}

word-short : (k : OpKind) → nat_le (length (kind_word k)) 5 ≡ true
word-short kind.Absent = refl
word-short kind.Eb = refl
word-short kind.Ew = refl
word-short kind.Ed = refl
word-short kind.Eq = refl
word-short kind.Ev = refl
word-short kind.Ez = refl
word-short kind.Ey = refl
word-short kind.Gb = refl
word-short kind.Gw = refl
word-short kind.Gd = refl
word-short kind.Gv = refl
word-short kind.Gy = refl
word-short kind.Zb = refl
word-short kind.Zv = refl
word-short kind.By = refl
word-short kind.Rv = refl
word-short kind.Ry = refl
word-short kind.Rm = refl
word-short kind.Xv = refl
word-short kind.Kb = refl
word-short kind.Kw = refl
word-short kind.Sw = refl
word-short kind.Cn = refl
word-short kind.Dn = refl
word-short kind.M = refl
word-short kind.Mb = refl
word-short kind.Mw = refl
word-short kind.Md = refl
word-short kind.Mq = refl
word-short kind.Mt = refl
word-short kind.Mv = refl
word-short kind.Mx = refl
word-short kind.Mo = refl
word-short kind.Ma = refl
word-short kind.Mp = refl
word-short kind.Mf = refl
word-short kind.Ob = refl
word-short kind.Ov = refl
word-short kind.Ib = refl
word-short kind.Iw = refl
word-short kind.Ibs = refl
word-short kind.Iz = refl
word-short kind.Iv = refl
word-short kind.Jb = refl
word-short kind.Jz = refl
word-short kind.Ap = refl
word-short kind.Pq = refl
word-short kind.Qd = refl
word-short kind.Qq = refl
word-short kind.Nq = refl
word-short kind.Vx = refl
word-short kind.Hx = refl
word-short kind.Lx = refl
word-short kind.Ux = refl
word-short kind.Wx = refl
word-short kind.Vo = refl
word-short kind.Ho = refl
word-short kind.Wo = refl
word-short kind.Wb = refl
word-short kind.Ww = refl
word-short kind.Wd = refl
word-short kind.Wq = refl
word-short kind.Wh = refl
word-short kind.W4 = refl
word-short kind.W8 = refl
word-short kind.GatherX = refl
word-short kind.GatherL = refl
word-short kind.RaxAny = refl
word-short kind.EaxZ = refl
word-short kind.Al = refl
word-short kind.Ax = refl
word-short kind.Cl = refl
word-short kind.Dx = refl
word-short kind.Es = refl
word-short kind.Cs = refl
word-short kind.Ss = refl
word-short kind.Ds = refl
word-short kind.Fs = refl
word-short kind.Gs = refl
word-short kind.St = refl
word-short kind.Xmm0 = refl
word-short kind.One = refl
word-short kind.StI = refl

at : (row there : Bool) (k : OpKind) → HasAtMost 5 (if row then (if there then Ok (kind_word k) else Err Name) else Err Code)
at true true k = leb-true (length (kind_word k)) 5 (word-short k)
at true false k = tt
at false there k = tt

-- **a word has at most 5 bytes**
pub kinds-short : (code n : ℕ) → HasAtMost 5 (kind_answer code n)
unfolding kind_answer
kinds-short code n = at (nat_lt code ROWS) (nat_lt n 4) (row_kind_at code n)
