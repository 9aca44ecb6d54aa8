use Rattle.std.proofs.Common.{◌≡◌, ℕ, Some, None, OnOk, IsErrOf, length, take, drop, subst}
use Rattle.plain_volume.specs.Volume.{bytes_of, lost_where, is_within}
use Rattle.plain_volume.specs.declared.call.Fault.TheVariants.{Damaged}
use Rattle.volume_inside.specs.View.{file_cells}
use Rattle.volume_tables.specs.Tables.{inside_now, IsTables}
use Rattle.volume_tables.specs.declared.tables.Tables.{Tables}
use Rattle.rw_filter.proofs.filter.Filter.read_into.Goals as goal

pub returns-clause-bytes : goal.returns-clause-bytes
returns-clause-bytes g c stored =
    subst (λ (t : Tables g.row.D.Denot g.D.Disk). IsTables t stored → OnOk c.read_file.result (c.read_file.new.out ≡
    bytes_of (take (length c.args.out.now) (drop c.args.at (file_cells (inside_now t) c.args.file)))))
    c.tables_mut.ensures.tables (c.read_file.ensures.bytes stored)

pub returns-clause-whole : goal.returns-clause-whole
returns-clause-whole g c stored =
    subst (λ (t : Tables g.row.D.Denot g.D.Disk). IsTables t stored → OnOk c.read_file.result
    (lost_where (is_within c.args.at (length c.args.out.now)) 0 (file_cells (inside_now t) c.args.file) ≡ None))
    c.tables_mut.ensures.tables (c.read_file.ensures.whole stored)

pub returns-clause-damaged : goal.returns-clause-damaged
returns-clause-damaged g c stored =
    subst (λ (t : Tables g.row.D.Denot g.D.Disk). IsTables t stored → (q : ℕ) → IsErrOf c.read_file.result (Damaged q)
    → lost_where (is_within c.args.at (length c.args.out.now)) 0 (file_cells (inside_now t) c.args.file) ≡ Some q)
    c.tables_mut.ensures.tables (c.read_file.ensures.damaged stored)
