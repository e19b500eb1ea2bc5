use Rattle.mt_read.proofs.FeedReading.{line_ready}
use Rattle.mt_read.proofs.following.read_feed.Goals as goal

pub returns-clause-ready : goal.returns-clause-ready
returns-clause-ready c = line_ready c.args.bytes.now c.read_bytes.result c.read_bytes.ensures
