-- Texts of known instructions in the Intel style.
use Rattle.std.proofs.Common.{◌≡◌, [], ◌∷◌, map, refl}
use Rattle.std.specs.Prelude.{codes}
use Rattle.text_parts.proofs.Samples.{samples, every_part}
use Rattle.intel_text.specs.Text.{text_of}

examples : map (λ s. text_of s.bits s.row s.name s.instr) samples ≡
    codes "mov rax, qword [rel 0x1007]"
    ∷ codes "mov qword [rsp+0x10], rbx"
    ∷ codes "lock add dword [rax], eax"
    ∷ codes "mov eax, dword fs:[rax]"
    ∷ codes "lds eax, [eax]"
    ∷ codes "mov ax, word [bx+si]"
    ∷ codes "callf 0x8:0x10"
    ∷ codes "add eax, 0xffffffff"
    ∷ codes "movzx eax, byte [rdi]"
    ∷ codes "fsub dword [rax]"
    ∷ codes "vgatherdps xmm0, dword [rax+xmm1*1], xmm2"
    ∷ codes "repne nop"
    ∷ codes "je 0x0"
    ∷ codes "sub rsp, 0x20"
    ∷ codes "fadd st0, st1"
    ∷ codes "fld tbyte [rax]"
    ∷ codes "mov al, ah"
    ∷ codes "mov al, spl"
    ∷ codes "mov ax, word [bp-0x8]"
    ∷ codes "o16 push 0x5"
    ∷ codes "jecxz 0x10"
    ∷ codes "rep fs a32 movsq"
    ∷ codes "jmpf far64 [r9*8+0x1000]"
    ∷ codes "a32 vgatherqps xmm10, dword [xmm1*2-0x10], xmm2"
    ∷ codes "mov eax, dword [0x1000]"
    ∷ codes "mov eax, dword fs:[0xa000]"
    ∷ codes "call qword [rax]"
    ∷ codes "movsxd eax, ecx"
    ∷ codes "fild qword [ecx*4-0x8]"
    ∷ codes "fbld tbyte [0x1000]"
    ∷ codes "imul r9d, dword [r13+r14*2+0x7f], 0x1f"
    ∷ []
unfolding samples every_part text_of
examples = refl
