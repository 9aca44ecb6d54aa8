use Rattle.std.proofs.Common.{sym, subst}
use Rattle.volume_tables.specs.Sound.{IsSound}
use Rattle.volume_core.proofs.Opened.{found_sound}
use Rattle.disk_rows.proofs.stored.append_to.Goals as goal

pub place_of-place-requires-clause-sound : goal.place_of-place-requires-clause-sound
place_of-place-requires-clause-sound c =
    subst IsSound (sym c.new-store.ensures.tables) (found_sound c.in-Ok.tables c.in-Ok.ensures.opened c.in-Ok.ensures.maps)
