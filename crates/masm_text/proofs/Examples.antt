-- Texts of known instructions in the style of MASM.
use Rattle.std.proofs.Common.{◌≡◌, [], ◌∷◌, map, refl}
use Rattle.std.specs.Prelude.{codes}
use Rattle.text_parts.proofs.Samples.{samples, every_part}
use Rattle.masm_text.specs.Text.{text_of}

examples : map (λ s. text_of s.bits s.row s.name s.instr) samples ≡
    codes "mov rax, qword ptr [1007h]"
    ∷ codes "mov qword ptr [rsp+10h], rbx"
    ∷ codes "lock add dword ptr [rax], eax"
    ∷ codes "mov eax, dword ptr fs:[rax]"
    ∷ codes "lds eax, [eax]"
    ∷ codes "mov ax, word ptr [bx+si]"
    ∷ codes "callf 8h:10h"
    ∷ codes "add eax, 0ffffffffh"
    ∷ codes "movzx eax, byte ptr [rdi]"
    ∷ codes "fsub dword ptr [rax]"
    ∷ codes "vgatherdps xmm0, dword ptr [rax+xmm1*1], xmm2"
    ∷ codes "repne nop"
    ∷ codes "je 0h"
    ∷ codes "sub rsp, 20h"
    ∷ codes "fadd st(0), st(1)"
    ∷ codes "fld tbyte ptr [rax]"
    ∷ codes "mov al, ah"
    ∷ codes "mov al, spl"
    ∷ codes "mov ax, word ptr [bp-8h]"
    ∷ codes "o16 push 5h"
    ∷ codes "jecxz 10h"
    ∷ codes "rep fs a32 movsq"
    ∷ codes "jmpf far64 ptr [r9*8+1000h]"
    ∷ codes "a32 vgatherqps xmm10, dword ptr [xmm1*2-10h], xmm2"
    ∷ codes "mov eax, dword ptr ds:[1000h]"
    ∷ codes "mov eax, dword ptr fs:[0a000h]"
    ∷ codes "call qword ptr [rax]"
    ∷ codes "movsxd eax, ecx"
    ∷ codes "fild qword ptr [ecx*4-8h]"
    ∷ codes "fbld tbyte ptr ds:[1000h]"
    ∷ codes "imul r9d, dword ptr [r13+r14*2+7fh], 1fh"
    ∷ []
unfolding samples every_part text_of
examples = refl
