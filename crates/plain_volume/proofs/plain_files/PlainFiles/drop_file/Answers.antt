use Rattle.std.proofs.Common.{sym, ap, ◌∙◌}
use Rattle.plain_volume.specs.Files.{volume_of}
use Rattle.plain_volume.proofs.Places.{remove_cells, absent_dropped}
use Rattle.plain_volume.proofs.plain_files.PlainFiles.drop_file.Goals as goal

pub returns-in-Ok : goal.returns-in-Ok
returns-in-Ok c =
    ap volume_of c.remove.ensures ∙ sym (remove_cells c.args.name.now c.args.self.now c.in-Ok.i c.in-Ok.ensures.rising c.in-Ok.ensures.found.0 c.in-Ok.ensures.found.1)

pub returns-in_default : goal.returns-in_default
returns-in_default c = sym (absent_dropped c.args.name.now c.args.self.now c.in_default.field-0 c.in_default.ensures.absent)
