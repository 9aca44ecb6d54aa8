use Rattle.std.proofs.Common.{◌+◌, inl, refl, subst, List, reverse, sym, ◌∙◌, length, arith}
use Rattle.vdisk.specs.Disk.{Follows, GrownTo}
use Rattle.vdisk.specs.Past.{LeftByCrash}
use Rattle.vdisk.specs.declared.record.Change.TheVariants.{Grew}
use Rattle.vdisk.specs.declared.record.Event.{Event}
use Rattle.vdisk.proofs.Past.{ends_pushed, ends_same, crash_grew, grew_synced, may_grow, newest, pushed}
use Rattle.vdisk.proofs.Still.{counted_cause, grown_same, still_on, still_grown, still_grows, still_synced}
use Rattle.vdisk.proofs.memory_disk.MemoryDiskDisk.grow.Goals as goal

pub invariant_of-self-then-fails-clause-ends_before_now : goal.invariant_of-self-then-fails-clause-ends_before_now
invariant_of-self-then-fails-clause-ends_before_now c =
    let m = c.args.self.now in
    ends_same m.moment (m.moment + 1) m.bytes.items m.bytes.items m.events.items m.events.items refl refl (omega arith) m.ends_before_now

pub invariant_of-self-in-Ok-clause-ends_before_now : goal.invariant_of-self-in-Ok-clause-ends_before_now
invariant_of-self-in-Ok-clause-ends_before_now c =
    let m = c.args.self.now in
    ends_pushed m.moment m.bytes.items m.events.items c.grow_to.new.events.items _ c.grow_to.new.image.items c.in-Ok.ensures.events refl c.in-Ok.ensures.image m.ends_before_now

pub invariant_of-self-in-Err-clause-ends_before_now : goal.invariant_of-self-in-Err-clause-ends_before_now
invariant_of-self-in-Err-clause-ends_before_now c =
    let m = c.args.self.now in
    ends_same m.moment (m.moment + 1) m.bytes.items c.grow_to.new.image.items m.events.items c.grow_to.new.events.items c.in-Err.ensures.err c.in-Err.ensures.err_events (omega arith) m.ends_before_now

pub returns-then-self : goal.returns-then-self
returns-then-self c =
    let m = c.args.self.now in
    let x = m.bytes.items in
    record {
      grown = tt;
      zeros = tt;
      image = grown_same c.args.to x c.requires;
      crash = still_grows x x m.events.items m.events.items refl refl c.args.to c.requires;
      time = record {
        adds = record { later = omega arith; since = λ t d le left. inl left };
        keeps = λ t d le left. left;
        tells = refl;
        rises = λ before. omega (arith, before, c.if-self.true);
      };
      end = λ last. refl;
      same = tt;
      cause = counted_cause m.faults c.count_fault.new.faults c.count_fault.result m.counted c.count_fault.ensures;
      plan = c.next_fails-fails.ensures.count;
      fails = λ next. refl;
      synced = λ i. refl;
      refused = refl;
      any_end = tt;
    }

pub returns-then-fails : goal.returns-then-fails
returns-then-fails c =
    let m = c.args.self.now in
    let x = m.bytes.items in
    let counted = c.count_fault-then-fails in
    record {
      grown = tt;
      zeros = tt;
      image = grown_same c.args.to x c.requires;
      crash = still_grows x x m.events.items m.events.items refl refl c.args.to c.requires;
      time = record {
        adds = record { later = omega arith; since = λ t d le left. inl left };
        keeps = λ t d le left. left;
        tells = refl;
        rises = λ before. omega arith;
      };
      end = λ last. refl;
      same = tt;
      cause = counted_cause m.faults counted.new.faults counted.result m.counted counted.ensures;
      plan = c.next_fails-fails.ensures.count;
      fails = λ next. refl;
      synced = λ i. refl;
      refused = refl;
      any_end = tt;
    }

pub returns-in-Ok : goal.returns-in-Ok
returns-in-Ok c =
    let m = c.args.self.now in
    let x = m.bytes.items in
    let y = c.grow_to.new.image.items in
    let old = m.events.items in
    let new = c.grow_to.new.events.items in
    let e : Event = record { stamp = m.moment; change = Grew (length x) } in
    let s = c.in-Ok.ensures in
    let last = newest old new e s.events in
    let goes = pushed m.moment x old new e y s.events refl s.image in
    record {
      grown = s.size;
      zeros = s.filled;
      image = record {
        front = s.image;
        no_shorter = omega (arith, s.size, c.requires);
        no_longer = omega (arith, s.size);
      };
      crash = subst (λ (es : List Event). Follows (GrownTo c.args.to) (LeftByCrash x (reverse old)) (LeftByCrash y es)) (sym last)
          (crash_grew c.args.to (length x) x y m.moment (reverse old) refl s.image s.size c.requires);
      time = record {
        adds = record { later = omega arith; since = goes.since };
        keeps = goes.keeps;
        tells = refl;
        rises = λ before. omega arith;
      };
      end = λ at_end. absurd (c.if-self.false at_end);
      same = tt;
      cause = record { later = omega arith; failed = tt };
      plan = c.next_fails-fails.ensures.count;
      fails = λ next. sym c.if-fails.false ∙ c.next_fails-fails.ensures.fails.1 next;
      synced = grew_synced (length x) m.moment x y old new refl s.image s.events;
      refused = tt;
      any_end = λ d q left grown long.
          subst (λ (es : List Event). LeftByCrash y es q) (sym last)
          (may_grow c.args.to (length x) x y d q m.moment (reverse old) refl s.image s.size left grown long);
    }

pub returns-in-Err : goal.returns-in-Err
returns-in-Err c =
    let m = c.args.self.now in
    let x = m.bytes.items in
    let y = c.grow_to.new.image.items in
    let old = m.events.items in
    let new = c.grow_to.new.events.items in
    let s = c.in-Err.ensures in
    let counted = c.count_fault-in-Err in
    let goes = still_on x y old new s.err s.err_events m.moment in
    record {
      grown = tt;
      zeros = tt;
      image = still_grown x y old new s.err s.err_events c.args.to c.requires;
      crash = still_grows x y old new s.err s.err_events c.args.to c.requires;
      time = record {
        adds = record { later = omega arith; since = goes.since };
        keeps = goes.keeps;
        tells = refl;
        rises = λ before. omega arith;
      };
      end = λ last. refl;
      same = tt;
      cause = counted_cause m.faults counted.new.faults counted.result m.counted counted.ensures;
      plan = c.next_fails-fails.ensures.count;
      fails = λ next. refl;
      synced = still_synced x y old new s.err s.err_events;
      refused = s.err;
      any_end = tt;
    }
