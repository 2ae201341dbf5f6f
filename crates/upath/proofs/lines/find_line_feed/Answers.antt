use Rattle.upath.proofs.LineEnds.{position-IsFirstByte}
use Rattle.upath.proofs.lines.find_line_feed.Goals as goal

pub returns-clause-place : goal.returns-clause-place
returns-clause-place c = position-IsFirstByte c.args.bytes.now c.memchr.result c.memchr.ensures
