-- What a store ends as that lends its tables.
use Rattle.std.specs.Borrow.{Lends, MutBor, Fml, RattleType}
use Rattle.vdisk.specs.declared.disk.Disk.{Ghosts}
use Rattle.volume_tables.specs.declared.tables.Tables.{Tables}
use Rattle.volume_tables.specs.contracts.tables.Tables.{the_row as tables_row}
use Rattle.chunk_container.specs.declared.store.Store.{Store}
use Rattle.chunk_container.specs.contracts.store.Store.{the_row}

module _ (D : RattleType) (disk : Ghosts D.Denot) (s : MutBor (Store D.Denot disk)) where
  -- once the borrow r ends, the tables are those that r shows last, and the same containers are open
  abbrev pub lends_tables : MutBor (Tables D.Denot disk) → Fml
  lends_tables r = Lends (the_row D disk) (tables_row D disk) s r (λ t. record s.now { tables = t })
