-- Calls that make nothing durable, and calls that only read, one after another.
use Rattle.std.specs.Prelude.{◌≡◌, refl}
use Rattle.std.proofs.Common.{sym, ◌∙◌, subst, arith}
use Rattle.vdisk.specs.Disk.{DiskState}
use Rattle.vdisk.specs.Steps.{Keeps, keeps_then, keeps_start, keeps_as}
use Rattle.vdisk.specs.declared.disk.Disk.{Ghosts}
use Rattle.meta_log.specs.Meta.{meta_of}
use Rattle.meta_log.specs.Opened.{IsOnlyRead}
use Rattle.volume_inside.specs.Layout.{half_bytes, journal_at}
use Rattle.volume_inside.specs.Shows.{Area, Shows, Kept}
use Rattle.volume_tables.specs.Reads.{ReadsOnly}
use Rattle.volume_tables.specs.Tables.{disk_of, area_of, Leaves}
use Rattle.volume_tables.specs.declared.tables.Tables.{Tables}

-- a disk that was only read, and was only read again
pub only_then : (a b c : DiskState) → IsOnlyRead a b → IsOnlyRead b c → IsOnlyRead a c
only_then a b c first second = record {
  keeps = keeps_then a b c a.may_leave first.keeps
      (keeps_as b c b.may_leave a.may_leave (λ image left. first.keeps.now image left) second.keeps);
  image = second.image ∙ first.image;
  later = omega (arith, first.later, second.later);
}

only_start : (s : DiskState) → IsOnlyRead s s
only_start s = record {
  keeps = keeps_start s s.may_leave (λ image left. left);
  image = refl;
  later = omega arith;
}

module _ {D : Type 0} {d : Ghosts D} where
  pub area_same : (a b : Tables D d) → b.clusters ≡ a.clusters → area_of b ≡ area_of a
  area_same a b clusters = λ i. record { clusters = clusters i; meta = meta_of journal_at (half_bytes (clusters i)) }

  pub leaves_then : (next : (x y z : D) → d.is_same x y → d.is_same y z → d.is_same x z) (a b c : Tables D d)
      → Leaves a b → Leaves b c → Leaves a c
  leaves_then next a b c first second = record {
    clusters = second.clusters ∙ first.clusters;
    tables = λ stored is. second.tables stored (first.tables stored is);
    moments = λ stored w is kept.
        let one = first.moments stored w is kept in
        let area = area_same a b first.clusters in
        let two : Keeps (disk_of b) (disk_of c) (Shows (area_of a) w) = subst
        (λ (x : Area). Keeps (disk_of b) (disk_of c) (Shows x w)) area
        (second.moments stored w (first.tables stored is)
        (subst (λ (x : Area). Kept x (disk_of b) w) (sym area) one.now)) in
        keeps_then (disk_of a) (disk_of b) (disk_of c) (Shows (area_of a) w) one two;
    same = next a.log.disk b.log.disk c.log.disk first.same second.same;
    later = omega (arith, first.later, second.later);
    tells = second.tells ∙ first.tells;
    place = second.place ∙ first.place;
    epoch = second.epoch ∙ first.epoch;
    ends = second.ends ∙ first.ends;
    worn = second.worn ∙ first.worn;
  }

  pub leaves_self : (t : Tables D d) → d.is_same t.log.disk t.log.disk → Leaves t t
  leaves_self t same = record {
    clusters = refl;
    tables = λ stored is. is;
    moments = λ stored w is kept. keeps_start (disk_of t) (Shows (area_of t) w) kept;
    same = same;
    later = omega arith;
    tells = refl;
    place = refl;
    epoch = refl;
    ends = refl;
    worn = refl;
  }

  pub reads_then : (next : (x y z : D) → d.is_same x y → d.is_same y z → d.is_same x z) (a b c : Tables D d)
      → ReadsOnly a b → ReadsOnly b c → ReadsOnly a c
  reads_then next a b c first second = record {
    now = second.now ∙ first.now;
    states = second.states ∙ first.states;
    image = second.image ∙ first.image;
    ends = second.ends ∙ first.ends;
    leaves = leaves_then next a b c first.leaves second.leaves;
    staged = second.staged ∙ first.staged;
    checkpoint = second.checkpoint ∙ first.checkpoint;
    running = second.running ∙ first.running;
    only = only_then (disk_of a) (disk_of b) (disk_of c) first.only second.only;
  }

  pub reads_self : (t : Tables D d) → d.is_same t.log.disk t.log.disk → ReadsOnly t t
  reads_self t same = record {
    now = refl;
    states = refl;
    image = refl;
    ends = refl;
    leaves = leaves_self t same;
    staged = refl;
    checkpoint = refl;
    running = refl;
    only = only_start (disk_of t);
  }
