-- Where bytes go, there is room for them, and the container is of their kind or new.
use Rattle.std.specs.Prelude.{◌≡◌, ◌≤◌, ◌+◌, ◌&&◌, ℕ, Bool, true, false, nat_eq, nat_le, if◌then◌else◌, Option, Some, None, IsSomeAnd, refl}
use Rattle.std.proofs.Common.{ap, sym, subst, arith, eqb-true, leb-true}
use Rattle.std.specs.Ordering.{nat_cmp}
use Rattle.std.specs.FinMap.{find}
use Rattle.std.proofs.lemmas.Map.Lookups.{exact_unsigned}
use Rattle.table_records.specs.declared.chunk_records.Container.{Container}
use Rattle.volume_inside.specs.ChunkRules.{ContainerHolds}
use Rattle.volume_inside.specs.Entries.{each_found}
use Rattle.volume_inside.specs.Pages.{used_or_none}
use Rattle.volume_inside.specs.Rules.{next_id_of, RulesHold}
use Rattle.volume_inside.specs.Typed.{Typed}
use Rattle.chunk_container.specs.declared.containers.OpenContainers.{OpenContainers}
use Rattle.chunk_container.specs.Appending.{IsTargetIn}
use Rattle.chunk_container.specs.Open.{open_of, takes, new_target, target_at, target_in, target_of}

both_true : (a b : Bool) → (a && b) ≡ true → (a ≡ true) × (b ≡ true)
both_true true b is = (refl, is)
both_true false b is = absurd (cc)

module _ (n kind count : ℕ) (t : Typed) (rules : RulesHold n t) (few : count ≤ 393216) where
  -- no container has the next id
  next_none : find nat_cmp (next_id_of t) t.chunks.containers ≡ None
  next_none = by (find nat_cmp (next_id_of t) t.chunks.containers) refl
    where
      by : (o : Option Container) → find nat_cmp (next_id_of t) t.chunks.containers ≡ o → o ≡ None
      by None is = refl
      by (Some c) is =
          let holds = each_found nat_cmp exact_unsigned (ContainerHolds (next_id_of t) t.chunks.clusters) (next_id_of t) c
          t.chunks.containers is rules.chunks.containers.containers in
          let drawn = holds.own.drawn in
          absurd (omega (arith, drawn))

  new_is : IsTargetIn kind count (new_target (next_id_of t)) t
  new_is = record {
    used = ap used_or_none next_none;
    fits = omega (arith, few);
    next = λ made. refl;
    new = λ made. next_none;
    there = λ made. absurd (cc);
  }

  at_is : (id : ℕ) (o : Option Container) → find nat_cmp id t.chunks.containers ≡ o
      → IsTargetIn kind count (target_at kind count (next_id_of t) id o) t
  at_is id None is = new_is
  at_is id (Some c) is = by (takes kind count c) refl
    where
      by : (b : Bool) → takes kind count c ≡ b → IsTargetIn kind count
          (if b then record { container = id; offset = c.used; made = false } else new_target (next_id_of t)) t
      by false takes_none = new_is
      by true takes_them =
          let both = both_true (nat_eq c.kind kind) (nat_le (c.used + count) 16777216) takes_them in
          record {
            used = ap used_or_none is;
            fits = leb-true (c.used + count) 16777216 both.1;
            next = λ made. absurd (cc);
            new = λ made. absurd (cc);
            there = λ made. subst (λ (o : Option Container). IsSomeAnd o (λ x. x.kind ≡ kind)) (sym is)
                (eqb-true c.kind kind both.0);
          }

  pub target_is : (opens : OpenContainers)
      → IsTargetIn kind count (target_of kind count (next_id_of t) t.chunks.containers opens) t
  target_is opens = by (open_of opens kind)
    where
      by : (o : Option ℕ) → IsTargetIn kind count (target_in kind count (next_id_of t) t.chunks.containers o) t
      by None = new_is
      by (Some id) = at_is id (find nat_cmp id t.chunks.containers) refl
