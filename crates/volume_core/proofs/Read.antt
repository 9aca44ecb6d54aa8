-- What a call that only reads is for a volume.
use Rattle.std.specs.Prelude.{◌≡◌, ◌+◌, false, List}
use Rattle.std.proofs.Common.{sym, ap, ◌∙◌}
use Rattle.vdisk.specs.declared.disk.Disk.{Ghosts}
use Rattle.cluster_space.specs.declared.state.State.{State}
use Rattle.cluster_space.specs.States.{free_in, deferred_in}
use Rattle.volume_inside.specs.Inside.{inside_at}
use Rattle.volume_inside.specs.View.{view}
use Rattle.volume_tables.specs.Tables.{view_now, stopped}
use Rattle.volume_tables.specs.declared.tables.Tables.{Tables}
use Rattle.volume_tables.specs.Reads.{ReadsOnly}
use Rattle.volume_tables.specs.Sound.{IsSound, Endures}
use Rattle.volume_tables.proofs.Endured.{endures_start, endures_leaves}
use Rattle.volume_core.proofs.Flushed.{sound_still}

module _ {D : Type 0} {d : Ghosts D} (a b : Tables D d) (reads : ReadsOnly a b) where
  pub read_sound : IsSound a → IsSound b
  read_sound sound = sound_still a b sound (let l = reads.leaves in l.clusters) reads.now
      (λ i. inside_at (reads.now i) (reads.image i)) (let l = reads.leaves in l.tells)
      (λ runs. ap (λ (xs : List State). free_in xs + deferred_in xs) reads.states) (λ runs. sym reads.running ∙ runs)

  pub read_view : view_now b ≡ view_now a
  read_view = λ i. view (inside_at (reads.now i) (reads.image i))

  pub read_endures : ((x : D) → d.is_same x x) → ((x y z : D) → d.is_same x y → d.is_same y z → d.is_same x z)
      → stopped a ≡ false → Endures a b
  read_endures self next runs = endures_leaves next a a b (endures_start self a) runs reads.leaves
