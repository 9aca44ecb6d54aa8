use Rattle.std.proofs.Common.{◌≡◌, ◌≤◌, length}
use Rattle.std.specs.Ordering.{nat_cmp}
use Rattle.std.specs.Cmp.{nat_cmp_total}
use Rattle.volume_inside.specs.Entries.{Each}
use Rattle.volume_tables.specs.Tables.{tables_now}
use Rattle.chunk_container.specs.Open.{opened_by, last_containers}
use Rattle.chunk_container.proofs.Walks.{left}
use Rattle.chunk_container.proofs.store.Store.new.Given as goal

-- once those that are left are opened, the last one of each kind is open
abbrev pub invariant-loop-next : goal.invariant-loop-next
invariant-loop-next g l =
    let es = (tables_now l.tables).chunks.containers in
    record {
      opened : opened_by l.opened (left nat_cmp nat_cmp_total l.next es) ≡ last_containers es;
      kinds : Each (λ id c. 1 ≤ c.kind) (left nat_cmp nat_cmp_total l.next es);
      known : Each (λ id c. c.kind ≤ 3) (left nat_cmp nat_cmp_total l.next es);
    }

abbrev pub decreases-loop-next : goal.decreases-loop-next
decreases-loop-next g l = length (left nat_cmp nat_cmp_total l.next (tables_now l.tables).chunks.containers)
