use Rattle.script_items.proofs.LineLaws.{finds_newline}
use Rattle.script_items.proofs.lines.newline_in.Goals as goal

pub returns : goal.returns
returns c = finds_newline c.args.bytes.now c.memchr.result c.memchr.ensures
