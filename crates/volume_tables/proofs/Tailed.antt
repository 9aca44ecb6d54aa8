-- How the tails of containers stay free while the tables change.
use Rattle.std.specs.Prelude.{◌≡◌, ◌+◌, ◌*◌, ◌-◌, ℕ, Bool, true, false, not, List, Some, refl}
use Rattle.std.proofs.Common.{sym, subst}
use Rattle.std.specs.FinMap.{find}
use Rattle.table_records.specs.Keys.{pair_cmp}
use Rattle.table_records.specs.declared.chunk_records.Container.{Container}
use Rattle.volume_inside.specs.ChunkTables.{PageKey}
use Rattle.volume_inside.specs.Named.{named}
use Rattle.volume_inside.specs.Pages.{page_length}
use Rattle.volume_inside.specs.Ranges.{IsApart}
use Rattle.volume_inside.specs.Tails.{AreTailsFree}
use Rattle.volume_inside.specs.Typed.{Typed}

-- what tails are made of
abbrev pub pages_of_tables : Typed → List (ℕ × Container) × List (PageKey × ℕ)
pages_of_tables t = (t.chunks.containers, t.chunks.clusters)

-- tables with the same containers and pages have the same tails
pub same_tails : (stored old new : Typed) → pages_of_tables new ≡ pages_of_tables old → AreTailsFree stored old.chunks
    → AreTailsFree stored new.chunks
same_tails stored old new same free = record {
  tail = λ k cluster. subst (λ (p : List (ℕ × Container) × List (PageKey × ℕ)). find pair_cmp k p.1 ≡ Some cluster
      → IsApart (4096 * cluster + page_length p.0 k) (4096 - page_length p.0 k) (named stored)) (sym same)
      (free.tail k cluster);
}

pub not_false : (b : Bool) → not b ≡ false → b ≡ true
not_false true is = refl
not_false false is = absurd (let clash : true ≡ false = is in cc)
