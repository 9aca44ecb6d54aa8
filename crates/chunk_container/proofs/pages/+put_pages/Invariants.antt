use Rattle.std.proofs.Common.{length}
use Rattle.volume_inside.specs.Pages.{pages_of}
use Rattle.chunk_container.proofs.pages.+put_pages.Given as goal

abbrev pub decreases-put_pages : goal.decreases-put_pages
decreases-put_pages g l = pages_of (length l.bytes.now)
