use Rattle.std.proofs.Common.{sym, ◌∙◌}
use Rattle.row_reading.proofs.Texts.{true_false, place_lies, copy_none, copy_sound, copy_unsound}
use Rattle.row_reading.proofs.copies.sound_copy.Goals as goal

pub has_digest-requires-clause-content : goal.has_digest-requires-clause-content
has_digest-requires-clause-content g c = c.requires.readable.content c.in-Some.place.container

pub has_digest-requires-clause-within : goal.has_digest-requires-clause-within
has_digest-requires-clause-within g c =
    place_lies (g.D.ChunkDisk.chunks c.args.disk.now) (g.D.ChunkDisk.image c.args.disk.now) c.args.id c.args.copy c.args.row.now
    c.requires.there c.in-Some.place c.requires.readable (sym c.get_place.ensures ∙ c.in-Some.is)

pub returns-in-None-clause-is : goal.returns-in-None-clause-is
returns-in-None-clause-is g c tells =
    copy_none (g.D.ChunkDisk.chunks c.args.disk.now) (g.D.ChunkDisk.image c.args.disk.now) c.args.id c.args.copy c.args.row.now
    c.requires.there (sym c.get_place.ensures ∙ c.in-None.is)

pub returns-then-branch-clause-lies : goal.returns-then-branch-clause-lies
returns-then-branch-clause-lies g c =
    place_lies (g.D.ChunkDisk.chunks c.args.disk.now) (g.D.ChunkDisk.image c.args.disk.now) c.args.id c.args.copy c.args.row.now
    c.requires.there c.in-Some.place c.requires.readable (sym c.get_place.ensures ∙ c.in-Some.is)

pub returns-then-branch-clause-is : goal.returns-then-branch-clause-is
returns-then-branch-clause-is g c tells =
    copy_sound (g.D.ChunkDisk.chunks c.args.disk.now) (g.D.ChunkDisk.image c.args.disk.now) c.args.id c.args.copy c.args.row.now
    c.requires.there c.in-Some.place (sym c.get_place.ensures ∙ c.in-Some.is)
    ((c.in_ok-has_digest-in-Some.ensures.is tells).0 c.if-branch.true)

pub returns-else-branch-clause-is : goal.returns-else-branch-clause-is
returns-else-branch-clause-is g c tells =
    copy_unsound (g.D.ChunkDisk.chunks c.args.disk.now) (g.D.ChunkDisk.image c.args.disk.now) c.args.id c.args.copy c.args.row.now
    c.requires.there c.in-Some.place (sym c.get_place.ensures ∙ c.in-Some.is)
    (λ same. true_false _ ((c.in_ok-has_digest-in-Some.ensures.is tells).1 same) c.if-branch.false)
