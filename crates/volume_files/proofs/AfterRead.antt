-- A call once the tables were read.
use Rattle.std.specs.Prelude.{◌≡◌, ℕ, false}
use Rattle.std.proofs.Common.{arith}
use Rattle.vdisk.specs.declared.disk.Disk.{Ghosts}
use Rattle.volume_inside.specs.Inside.{inside_at}
use Rattle.volume_tables.specs.Tables.{tables_now, inside_now, states_of, disk_of, stopped}
use Rattle.volume_tables.specs.declared.tables.Tables.{Tables}
use Rattle.volume_tables.specs.Sound.{IsSound}
use Rattle.volume_tables.specs.Spending.{Spends}
use Rattle.volume_tables.proofs.Mapped.{maps_same}
use Rattle.volume_files.proofs.Spent.{spends_none, spends_then}
use Rattle.volume_files.proofs.Taking.{told}
use Rattle.volume_files.proofs.Written.{sound_refused}

module _ {D : Type 0} {d : Ghosts D} (t m : Tables D d) (now : tables_now m ≡ tables_now t) where
  pub inside_read : (disk_of m).image ≡ (disk_of t).image → inside_now m ≡ inside_now t
  inside_read image = λ i. inside_at (now i) (image i)

  pub sound_read : (disk_of m).image ≡ (disk_of t).image → (disk_of m).tells ≡ (disk_of t).tells
      → states_of m ≡ states_of t → m.clusters ≡ t.clusters → IsSound t → stopped t ≡ false → IsSound m
  sound_read image tells states clusters sound running =
      sound_refused t m sound running clusters now (λ runs i. told (states i) (now i))
      (maps_same t m tells (inside_read image) sound.maps)

  pub spends_read : (n : ℕ) (s : Tables D d) → Spends n 0 m s → Spends n 0 t s
  spends_read n s spends = spends_then 0 n n t m s (spends_none 0 0 t m now) spends (omega arith)
