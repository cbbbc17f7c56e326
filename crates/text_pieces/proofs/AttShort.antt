-- How long names and stars in AT&T are at most.
use Rattle.att_text.proofs.Bounds.{att_name-le, star-le}

pub ruleset att_name_short = (att_name-le)

pub ruleset star_short = (star-le)
