-- What each operand kind says, by the manual's codes for addressing method and operand type
-- (Intel SDM volume 2, A.2.1 and A.2.2): where the operand is read, which registers it names, and
-- how many bytes it has in memory or behind the instruction.
use Rattle.std.specs.Prelude.{ℕ, ◌<◌}
use Rattle.instruction_parts.specs.declared.row_types.OpKind.{OpKind}
use Rattle.instruction_parts.specs.declared.row_types.OpKind.TheVariants.{Absent, Eb, Ew, Ed, Eq, Ev, Ez, Ey, Gb, Gw, Gd, Gv, Gy, Zb, Zv, By, Rv, Ry, Rm, Xv, Kb, Kw, Sw, Cn, Dn, M, Mb, Mw, Md, Mq, Mt, Mv, Mx, Mo, Ma, Mp, Mf, Ob, Ov, Ib, Iw, Ibs, Iz, Iv, Jb, Jz, Ap, Pq, Qd, Qq, Nq, Vx, Hx, Lx, Ux, Wx, Vo, Ho, Wo, Wb, Ww, Wd, Wq, Wh, W4, W8, GatherX, GatherL, RaxAny, EaxZ, Al, Ax, Cl, Dx, Es, Cs, Ss, Ds, Fs, Gs, St, Xmm0, One, StI}
use Rattle.instruction_parts.specs.declared.kinds.Method.{Method}
use Rattle.instruction_parts.specs.declared.kinds.Method.TheVariants.{AnyMode, AsWritten, Extended, Fixed as FixedRegister, Gather, LastByte, MemoryOnly, ModRmReg, Near, Nothing, Offset, One, OpcodeLow, Pointer, RegisterOnly, RegisterOrMemory, Vvvv}
use Rattle.instruction_parts.specs.declared.kinds.File.{File}
use Rattle.instruction_parts.specs.declared.kinds.File.TheVariants.{ByW as ByWFile, Byte as ByteFile, Control as ControlFile, Debug as DebugFile, Dword as DwordFile, Mmx as MmxFile, Native as NativeFile, OperandSize as OperandSizeFile, Qword as QwordFile, Segment as SegmentFile, Stack as StackFile, Vector as VectorFile, Word as WordFile, WordOrDword as WordOrDwordFile, Xmm as XmmFile}
use Rattle.instruction_parts.specs.declared.kinds.Width.{Width}
use Rattle.instruction_parts.specs.declared.kinds.Width.TheVariants.{Bytes, Zero as ZeroWidth, OperandSize as OperandSizeWidth, TwiceOperandSize as TwiceOperandSizeWidth, WordOrDword as WordOrDwordWidth, ByW as ByWWidth, Vector as VectorWidth, HalfVector as HalfVectorWidth, QuarterVector as QuarterVectorWidth, EighthVector as EighthVectorWidth, PointerOfSize as PointerOfSizeWidth}

-- where the operand is read
unfoldable pub method_of : OpKind → Method
method_of Absent = Nothing
method_of Gb = ModRmReg
method_of Gw = ModRmReg
method_of Gd = ModRmReg
method_of Gv = ModRmReg
method_of Gy = ModRmReg
method_of Zb = OpcodeLow
method_of Zv = OpcodeLow
method_of By = Vvvv
method_of Rv = RegisterOnly
method_of Ry = RegisterOnly
method_of Rm = AnyMode
method_of Sw = ModRmReg
method_of Cn = ModRmReg
method_of Dn = ModRmReg
method_of M = MemoryOnly
method_of Mb = MemoryOnly
method_of Mw = MemoryOnly
method_of Md = MemoryOnly
method_of Mq = MemoryOnly
method_of Mt = MemoryOnly
method_of Mv = MemoryOnly
method_of Mx = MemoryOnly
method_of Mo = MemoryOnly
method_of Ma = MemoryOnly
method_of Mp = MemoryOnly
method_of Mf = MemoryOnly
method_of Ob = Offset
method_of Ov = Offset
method_of Ib = AsWritten
method_of Iw = AsWritten
method_of Ibs = Extended
method_of Iz = Extended
method_of Iv = AsWritten
method_of Jb = Near
method_of Jz = Near
method_of Ap = Pointer
method_of Pq = ModRmReg
method_of Nq = RegisterOnly
method_of Vx = ModRmReg
method_of Hx = Vvvv
method_of Lx = LastByte
method_of Ux = RegisterOnly
method_of Vo = ModRmReg
method_of Ho = Vvvv
method_of GatherX = Gather
method_of GatherL = Gather
method_of RaxAny = FixedRegister
method_of EaxZ = FixedRegister
method_of Al = FixedRegister
method_of Ax = FixedRegister
method_of Cl = FixedRegister
method_of Dx = FixedRegister
method_of Es = FixedRegister
method_of Cs = FixedRegister
method_of Ss = FixedRegister
method_of Ds = FixedRegister
method_of Fs = FixedRegister
method_of Gs = FixedRegister
method_of St = FixedRegister
method_of Xmm0 = FixedRegister
method_of One = One
method_of StI = RegisterOnly
method_of _ = RegisterOrMemory

-- which registers the kind names
unfoldable pub file_of : OpKind → File
file_of Eb = ByteFile
file_of Ew = WordFile
file_of Eq = QwordFile
file_of Ev = OperandSizeFile
file_of Ez = WordOrDwordFile
file_of Ey = ByWFile
file_of Gb = ByteFile
file_of Gw = WordFile
file_of Gv = OperandSizeFile
file_of Gy = ByWFile
file_of Zb = ByteFile
file_of Zv = OperandSizeFile
file_of By = ByWFile
file_of Rv = OperandSizeFile
file_of Ry = ByWFile
file_of Rm = NativeFile
file_of Xv = OperandSizeFile
file_of Sw = SegmentFile
file_of Cn = ControlFile
file_of Dn = DebugFile
file_of Ob = ByteFile
file_of Ov = OperandSizeFile
file_of Pq = MmxFile
file_of Qd = MmxFile
file_of Qq = MmxFile
file_of Nq = MmxFile
file_of Vx = VectorFile
file_of Hx = VectorFile
file_of Lx = VectorFile
file_of Ux = VectorFile
file_of Wx = VectorFile
file_of Vo = XmmFile
file_of Ho = XmmFile
file_of Wo = XmmFile
file_of Wb = XmmFile
file_of Ww = XmmFile
file_of Wd = XmmFile
file_of Wq = XmmFile
file_of Wh = XmmFile
file_of W4 = XmmFile
file_of W8 = XmmFile
file_of GatherX = XmmFile
file_of GatherL = VectorFile
file_of RaxAny = OperandSizeFile
file_of EaxZ = WordOrDwordFile
file_of Al = ByteFile
file_of Ax = WordFile
file_of Cl = ByteFile
file_of Dx = WordFile
file_of Es = SegmentFile
file_of Cs = SegmentFile
file_of Ss = SegmentFile
file_of Ds = SegmentFile
file_of Fs = SegmentFile
file_of Gs = SegmentFile
file_of St = StackFile
file_of Xmm0 = XmmFile
file_of StI = StackFile
file_of _ = DwordFile

-- how many bytes the operand has in memory
unfoldable pub memory_width : OpKind → Width
memory_width Eb = Bytes 1
memory_width Ew = Bytes 2
memory_width Ed = Bytes 4
memory_width Eq = Bytes 8
memory_width Ev = OperandSizeWidth
memory_width Ez = WordOrDwordWidth
memory_width Ey = ByWWidth
memory_width Xv = Bytes 2
memory_width Kb = Bytes 1
memory_width Kw = Bytes 2
memory_width Mb = Bytes 1
memory_width Mw = Bytes 2
memory_width Md = Bytes 4
memory_width Mq = Bytes 8
memory_width Mt = Bytes 10
memory_width Mv = OperandSizeWidth
memory_width Mx = VectorWidth
memory_width Mo = Bytes 16
memory_width Ma = TwiceOperandSizeWidth
memory_width Ob = Bytes 1
memory_width Ov = OperandSizeWidth
memory_width Qd = Bytes 4
memory_width Qq = Bytes 8
memory_width Wx = VectorWidth
memory_width Wo = Bytes 16
memory_width Wb = Bytes 1
memory_width Ww = Bytes 2
memory_width Wd = Bytes 4
memory_width Wq = Bytes 8
memory_width Wh = HalfVectorWidth
memory_width W4 = QuarterVectorWidth
memory_width W8 = EighthVectorWidth
memory_width GatherX = ByWWidth
memory_width GatherL = ByWWidth
memory_width _ = ZeroWidth

-- how many bytes of the immediates belong to the operand
unfoldable pub immediate_width : OpKind → Width
immediate_width Ib = Bytes 1
immediate_width Iw = Bytes 2
immediate_width Ibs = Bytes 1
immediate_width Iz = WordOrDwordWidth
immediate_width Iv = OperandSizeWidth
immediate_width Jb = Bytes 1
immediate_width Jz = WordOrDwordWidth
immediate_width Ap = PointerOfSizeWidth
immediate_width Lx = Bytes 1
immediate_width _ = ZeroWidth

-- a width in bytes is at most 16
abbrev pub IsShort : Width → Type 0
IsShort (Bytes n) = n < 17
IsShort _ = Unit {0}

-- the number of the register that a fixed operand names
unfoldable pub fixed_number : OpKind → ℕ
fixed_number Cl = 1
fixed_number Dx = 2
fixed_number Cs = 1
fixed_number Ss = 2
fixed_number Ds = 3
fixed_number Fs = 4
fixed_number Gs = 5
fixed_number _ = 0
