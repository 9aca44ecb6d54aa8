-- What a filter is made of, and what it ends as that lends its store.
use Rattle.std.specs.Borrow.{Lends, MutBor, Fml, RattleType}
use Rattle.vdisk.specs.declared.disk.Disk.{Ghosts}
use Rattle.volume_tables.specs.declared.tables.Tables.{Tables}
use Rattle.chunk_container.specs.Stores.{tables_of}
use Rattle.chunk_container.specs.declared.store.Store.{Store}
use Rattle.chunk_container.specs.contracts.store.Store.{the_row as store_row}
use Rattle.rw_filter.specs.declared.filter.Filter.{Filter}
use Rattle.rw_filter.specs.contracts.filter.Filter.{the_row}

module _ {D : Type 0} {d : Ghosts D} where
  abbrev pub store_of : Filter D d → Store D d
  store_of f = f.store

  -- the tables below it
  abbrev pub filtered : Filter D d → Tables D d
  filtered f = tables_of (store_of f)

module _ (D : RattleType) (disk : Ghosts D.Denot) (f : MutBor (Filter D.Denot disk)) where
  -- once the borrow r ends, the store is the one that r shows last
  abbrev pub lends_store : MutBor (Store D.Denot disk) → Fml
  lends_store r = Lends (the_row D disk) (store_row D disk) f r (λ s. record f.now { store = s })
