-- Texts of known instructions in AT&T.
use Rattle.std.proofs.Common.{◌≡◌, [], ◌∷◌, map, refl}
use Rattle.std.specs.Prelude.{codes}
use Rattle.text_parts.proofs.Samples.{samples, every_part}
use Rattle.instruction_parts.specs.Kinds.{file_of}
use Rattle.att_text.specs.Names.{is_x87, is_xmm_or_ymm, is_vector_kind, is_integer, size_letter, integer_letter, float_letter, operand_letter, is_packed_decimal, x87_letter, memory_letter, is_zero_extension, is_sign_extension, extension_letters, att_name}
use Rattle.att_text.specs.Operands.{att_index, att_registers, att_relative, att_address, att_memory, att_operand, holds_target, is_branch_name, star, is_last, att_part}
use Rattle.att_text.specs.Text.{text_of}

examples : map (λ s. text_of s.bits s.row s.name s.instr) samples ≡
    codes "movq 0x1007(%rip), %rax"
    ∷ codes "movq %rbx, 0x10(%rsp)"
    ∷ codes "lock addl %eax, (%rax)"
    ∷ codes "movl %fs:(%rax), %eax"
    ∷ codes "lds (%eax), %eax"
    ∷ codes "movw (%bx,%si), %ax"
    ∷ codes "callf $0x8, $0x10"
    ∷ codes "add $0xffffffff, %eax"
    ∷ codes "movzbl (%rdi), %eax"
    ∷ codes "fsubs (%rax)"
    ∷ codes "vgatherdps %xmm2, (%rax,%xmm1,1), %xmm0"
    ∷ codes "repne nop"
    ∷ codes "je 0x0"
    ∷ codes "sub $0x20, %rsp"
    ∷ codes "fadd %st(1), %st(0)"
    ∷ codes "fldt (%rax)"
    ∷ codes "mov %ah, %al"
    ∷ codes "mov %spl, %al"
    ∷ codes "movw -0x8(%bp), %ax"
    ∷ codes "o16 push $0x5"
    ∷ codes "jecxz 0x10"
    ∷ codes "rep fs a32 movsq"
    ∷ codes "jmpf *0x1000(,%r9,8)"
    ∷ codes "a32 vgatherqps %xmm2, -0x10(,%xmm1,2), %xmm10"
    ∷ codes "movl 0x1000, %eax"
    ∷ codes "movl %fs:0xa000, %eax"
    ∷ codes "callq *(%rax)"
    ∷ codes "movsll %ecx, %eax"
    ∷ codes "fildq -0x8(,%ecx,4)"
    ∷ codes "fbld 0x1000"
    ∷ codes "imull $0x1f, 0x7f(%r13,%r14,2), %r9d"
    ∷ []
unfolding samples every_part text_of file_of is_x87 is_xmm_or_ymm is_vector_kind is_integer size_letter integer_letter float_letter operand_letter is_packed_decimal x87_letter memory_letter is_zero_extension is_sign_extension extension_letters att_name att_index att_registers att_relative att_address att_memory att_operand holds_target is_branch_name star is_last att_part
examples = refl
