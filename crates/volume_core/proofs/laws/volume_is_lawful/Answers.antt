use Rattle.volume_inside.proofs.Views.{view_lawful}
use Rattle.volume_tables.specs.Tables.{tables_now, clusters_in, disk_of}
use Rattle.volume_files.proofs.Found.{names_in_order}
use Rattle.volume_core.specs.Volumes.{tables_of}
use Rattle.volume_core.proofs.laws.volume_is_lawful.Goals as goal

pub returns : goal.returns
returns g c =
    let t = tables_of c.args.volume.now in
    view_lawful (clusters_in t) (tables_now t) (disk_of t).image (names_in_order t) c.args.volume.now.sound.rules
