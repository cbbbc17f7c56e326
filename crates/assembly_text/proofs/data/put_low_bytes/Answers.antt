use Rattle.std.proofs.Common.{◌≡◌, ◌++◌, ◌∷◌, ◌%◌, [], sym, ◌∙◌}
use Rattle.assembly_text.proofs.Items.{byte_more, bytes_end}
use Rattle.assembly_text.proofs.data.put_low_bytes.Goals as goal

pub bytes-preserved : goal.bytes-preserved
bytes-preserved c =
    let is : c.push.new.self.items ≡ c.bytes.out.items ++ c.bytes.left % 256 ∷ [] = c.in_ok-push.ensures.items in
    rw is (byte_more c.bytes.out.items c.args.count c.bytes._k c.bytes.left c.bytes-test.true ∙ c.bytes.invariant)

pub returns : goal.returns
returns c = sym (bytes_end c.bytes.out.items c.args.count c.bytes._k c.bytes.left c.bytes-test.false) ∙ c.bytes.invariant
