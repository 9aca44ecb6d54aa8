-- What a filter ends as that lends its tables.
use Rattle.std.specs.Borrow.{Lends, MutBor, Fml, RattleType}
use Rattle.vdisk.specs.declared.disk.Disk.{Ghosts}
use Rattle.volume_tables.specs.declared.tables.Tables.{Tables}
use Rattle.volume_tables.specs.contracts.tables.Tables.{the_row as tables_row}
use Rattle.rw_filter.specs.declared.filter.Filter.{Filter}
use Rattle.rw_filter.specs.contracts.filter.Filter.{the_row}

module _ (D : RattleType) (disk : Ghosts D.Denot) (f : MutBor (Filter D.Denot disk)) where
  -- once the borrow r ends, the tables are those that r shows last, and all else is as it was
  abbrev pub lends_tables : MutBor (Tables D.Denot disk) → Fml
  lends_tables r = Lends (the_row D disk) (tables_row D disk) f r
      (λ t. record f.now { store = record f.now.store { tables = t } })
