use Rattle.modrm_sib.proofs.WrittenTail.{written_tail}
use Rattle.modrm_sib.proofs.laws.written_tail_is_read_back.Goals as goal

pub returns : goal.returns
returns c = λ bits ip row i rest sound writable suits four. written_tail bits ip row i rest sound writable suits four
