use Rattle.std.proofs.Common.{◌≡◌, ◌≤◌, ◌∙◌, ℕ, T, List, length, ap, sym, subst, arith}
use Rattle.std.specs.Prelude.{Option, Some}
use Rattle.std.specs.Ordering.{nat_cmp}
use Rattle.std.specs.Cmp.{nat_cmp_total}
use Rattle.std.specs.FinMap.Entries.{is_sorted}
use Rattle.vdisk.specs.declared.disk.Disk.{Ghosts}
use Rattle.table_records.specs.Next.{sorted_typed}
use Rattle.table_records.specs.Tables.{container_codec}
use Rattle.table_records.specs.declared.chunk_records.Container.{Container}
use Rattle.volume_inside.specs.Entries.{Each, each_weaker}
use Rattle.volume_tables.specs.Log.{log_now}
use Rattle.volume_tables.specs.Tables.{tables_now, next_after}
use Rattle.volume_tables.specs.declared.tables.Tables.{Tables}
use Rattle.volume_tables.proofs.Answers.{as_true}
use Rattle.chunk_container.specs.Open.{opened_by}
use Rattle.chunk_container.proofs.Walks.{left, above, left_first, left_next}
use Rattle.chunk_container.proofs.store.Store.new.Goals as goal

module _ {D : Type 0} {d : Ghosts D} (t : Tables D d) where
  abbrev all : List (ℕ × Container)
  all = (tables_now t).chunks.containers

  in_order : T (is_sorted nat_cmp all)
  in_order = sorted_typed container_codec (log_now t.log) (as_true t.contents.sorted)

abbrev Left : Option (ℕ × Container) → List (ℕ × Container) → List (ℕ × Container)
Left next es = left nat_cmp nat_cmp_total next es

pub loop-next-init : goal.loop-next-init
loop-next-init g c =
    let t = c.args.tables in
    let first : Left c.next_container-next.result (all t) ≡ all t =
    ap (λ (o : Option (ℕ × Container)). Left o (all t)) c.next_container-next.ensures
    ∙ left_first nat_cmp nat_cmp_total (all t) (in_order t) in
    record {
      opened = λ i. opened_by (c.none-opened.ensures i) (first i);
      kinds = subst (λ (es : List (ℕ × Container)). Each (λ id b. 1 ≤ b.kind) es) (sym first)
          (each_weaker _ _ (all t) (λ id b holds. holds.own.some_kind) c.requires.chunks.containers.containers);
      known = subst (λ (es : List (ℕ × Container)). Each (λ id b. b.kind ≤ 3) es) (sym first)
          (each_weaker _ _ (all t) (λ id b holds. holds.own.kind) c.requires.chunks.containers.containers);
    }

-- what is left once an entry was opened
module _ {D : Type 0} {d : Ghosts D} (t : Tables D d) (id : ℕ) where
  behind : (o : Option (ℕ × Container)) → o ≡ next_after nat_cmp (Some id) (all t)
      → Left o (all t) ≡ above nat_cmp nat_cmp_total id (all t)
  behind o is =
      ap (λ (p : Option (ℕ × Container)). Left p (all t)) is ∙ left_next nat_cmp nat_cmp_total id (all t) (in_order t)

pub loop-next-smaller : goal.loop-next-smaller
loop-next-smaller g c =
    let t = c.args.tables in
    let was = ap (λ (o : Option (ℕ × Container)). length (Left o (all t))) c.in-Some.is in
    let now = ap (λ (es : List (ℕ × Container)). length es)
    (behind t c.in-Some.id c.next_container-next-in-Some.result c.next_container-next-in-Some.ensures) in
    omega (arith, was, now)

pub loop-next-preserved : goal.loop-next-preserved
loop-next-preserved g c =
    let t = c.args.tables in
    let rest = behind t c.in-Some.id c.next_container-next-in-Some.result c.next_container-next-in-Some.ensures in
    let was = c.loop-next.invariant in
    record {
      opened = (λ i. opened_by (c.set.ensures i) (rest i))
          ∙ ap (λ (o : Option (ℕ × Container)). opened_by c.loop-next.opened (Left o (all t))) (sym c.in-Some.is)
          ∙ was.opened;
      kinds = subst (λ (es : List (ℕ × Container)). Each (λ id b. 1 ≤ b.kind) es) (sym rest)
          (subst (λ (o : Option (ℕ × Container)). Each (λ id b. 1 ≤ b.kind) (Left o (all t))) c.in-Some.is was.kinds).1;
      known = subst (λ (es : List (ℕ × Container)). Each (λ id b. b.kind ≤ 3) es) (sym rest)
          (subst (λ (o : Option (ℕ × Container)). Each (λ id b. b.kind ≤ 3) (Left o (all t))) c.in-Some.is was.known).1;
    }
