use Rattle.code_region.proofs.LiveEntries.Live.{entry-facts}
use Rattle.code_region.proofs.live_entries.laws.entries_go_with_their_blocks.Goals as goal

pub returns : goal.returns
returns g c =
    let entry = g.T.LiveEntry in
    let laws = g.met.T.LiveEntry in
    entry-facts c.laws_below.ensures entry.place_of entry.len_in entry.is_block_in laws.block_place laws.block_len
