-- The texts of the commands that read nothing.
use Rattle.std.specs.Prelude.{ℕ, List, codes}

-- what `--help` writes
unfoldable pub help_text : List ℕ
help_text = codes "usage: feddurzai list BITS BASE SYNTAX\n       feddurzai info BITS BASE\n       feddurzai recode BITS1 OLD BITS2 NEW\n       feddurzai flow BITS BASE\n       feddurzai asm BITS BASE\n       feddurzai move BITS OLD NEW\n       feddurzai map BITS OLD NEW\n       feddurzai blocks BITS OLD1 NEW1 LEN1 OLD2 NEW2 ..\n       feddurzai slots BITS OLD REGION SIZE\n       feddurzai rows\n       feddurzai sample N\n       feddurzai --help\n       feddurzai --version\n\nlist writes one line for each instruction of the machine code on standard input.\nBITS is 16, 32 or 64. BASE is the address of the first byte: 1 to 16 hexadecimal\ndigits below 2 to the power of BITS. SYNTAX is intel, att or masm.\n\ninfo writes what each instruction does: where control goes behind it; n, r, w or\nrw for each operand that it leaves alone, reads, writes, or reads and writes; m\nand the size of its memory operand in bytes; -> and the target of a near branch;\n@ and the address of an operand relative to the instruction pointer. It ends at\nthe first byte at which no instruction is read.\n\nrecode writes the bytes of each instruction in mode BITS2, where the code begins\nat address NEW: it is read as info reads it, in mode BITS1 at address OLD, and\nkeeps its operands. An instruction that has no such bytes has ! and a number from\n1 to 10, that of the first condition that fails, and behind 2, 3 and 6 the number\nof the operand that fails it.\n\nflow follows control from the first byte of the machine code. It writes one line\nfor each instruction that is reached: its address, the address of the first\ninstruction of its basic block, and where control goes behind it; or invalid or\ntoo short where no instruction is read.\n\nasm reads lines of text: an instruction as list writes it in the style intel, or\ndb and a byte, as db 0x66. It writes the bytes of all lines, the shortest that\nhave each text; BASE is the address of the first of them.\n\nmove writes the bytes of the machine code on standard input, in mode BITS, moved\nfrom address OLD to address NEW. Each near branch and each operand relative to\nthe instruction pointer keeps its target, or follows it where that is moved too.\nNothing is written where an instruction cannot reach its target.\n\nmap writes one line for each instruction that move would move: its old and its\nnew address, and its form there: itself, short, near, far, bridge or farbridge.\n\nblocks moves 1 to 16 blocks of code as move moves one. Every block but the last\nhas LEN, the number of its bytes in 1 to 16 hexadecimal digits.\n\nslots gives each instruction of the machine code, whose first byte has address\nOLD, a slot for single stepping: the instruction, moved, and a jump back to what\nfollowed it. It writes the bytes of the range that starts at address REGION and\nhas SIZE bytes: a multiple of 10 up to 100000, both hexadecimal. A byte that no\nslot takes is CC.\n\nrows writes one line for each row of the instruction table: its number, its\nnotation and its name. It reads nothing.\n\nsample makes N instructions, 1 to 10000 hexadecimal, lists them and moves them\nin 64-bit mode. It writes how many they are, the bytes of their code, listing and\nmoved code, how many took a longer form, and the sum of the moved bytes. It reads\nnothing.\n"

-- what `--version` writes: the version, and the sets of instructions that the table covers
unfoldable pub version_text : List ℕ
version_text = codes "feddurzai 0.2.0\ninteger, x87, MMX, SSE to SSE4.2, AVX, AVX2, BMI, FMA, F16C, AES, PCLMULQDQ\n"
