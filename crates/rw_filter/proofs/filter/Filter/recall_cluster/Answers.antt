use Rattle.std.proofs.Common.{◌≡◌, OnOk, subst}
use Rattle.plain_volume.specs.Replies.{done_reply}
use Rattle.plain_volume.specs.Volume.{Volume}
use Rattle.volume_tables.specs.Sound.{IsKept}
use Rattle.volume_tables.specs.Tables.{tables_now, inside_now, view_now, disk_of}
use Rattle.volume_tables.specs.Wants.{wanting, IsRepliedOrMemory}
use Rattle.volume_tables.specs.declared.tables.Tables.{Tables}
use Rattle.rw_filter.specs.Recalling.{recall, recall_needs, lost_there, with_recalled, TellsLost}
use Rattle.rw_filter.proofs.filter.Filter.recall_cluster.Goals as goal

pub returns-clause-reply : goal.returns-clause-reply
returns-clause-reply g c =
    subst (λ (t : Tables g.row.D.Denot g.D.Disk). (w : Volume) → IsKept t w → IsRepliedOrMemory
    (recall (lost_there (tables_now t) (inside_now t) c.args.file c.args.index) (view_now t))
    (wanting t (recall_needs (tables_now t) c.args.file c.args.index))
    (disk_of t).faults (disk_of c.recall_cluster.new.tables).faults (done_reply c.recall_cluster.result))
    c.tables_mut.ensures.tables c.recall_cluster.ensures.reply

pub returns-clause-lost : goal.returns-clause-lost
returns-clause-lost g c =
    subst (λ (t : Tables g.row.D.Denot g.D.Disk). (w : Volume) → IsKept t w →
    TellsLost (lost_there (tables_now t) (inside_now t) c.args.file c.args.index) c.recall_cluster.result)
    c.tables_mut.ensures.tables c.recall_cluster.ensures.lost

pub returns-clause-inside : goal.returns-clause-inside
returns-clause-inside g c =
    subst (λ (t : Tables g.row.D.Denot g.D.Disk). (w : Volume) → IsKept t w →
    OnOk c.recall_cluster.result (inside_now c.recall_cluster.new.tables ≡
    with_recalled (tables_now t) c.args.file c.args.index (inside_now t)))
    c.tables_mut.ensures.tables c.recall_cluster.ensures.inside

pub returns-clause-view : goal.returns-clause-view
returns-clause-view g c =
    subst (λ (t : Tables g.row.D.Denot g.D.Disk). (w : Volume) → IsKept t w →
    OnOk c.recall_cluster.result (view_now c.recall_cluster.new.tables ≡ view_now t))
    c.tables_mut.ensures.tables c.recall_cluster.ensures.view
