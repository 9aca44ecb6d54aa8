use Rattle.std.proofs.Common.{◌+◌, inl, refl, subst, List, ℕ, reverse, sym, ◌∙◌, arith}
use Rattle.vdisk.specs.Disk.{Only}
use Rattle.vdisk.specs.Past.{LeftByCrash}
use Rattle.vdisk.specs.declared.record.Change.TheVariants.{Synced}
use Rattle.vdisk.specs.declared.record.Event.{Event}
use Rattle.vdisk.proofs.Past.{ends_pushed, ends_same, durable_synced, synced_now, newest, pushed}
use Rattle.vdisk.proofs.Still.{counted_cause, still_on, still_left, left_still, still_synced}
use Rattle.vdisk.proofs.memory_disk.MemoryDiskDisk.sync.Goals as goal

pub invariant_of-self-then-fails-clause-ends_before_now : goal.invariant_of-self-then-fails-clause-ends_before_now
invariant_of-self-then-fails-clause-ends_before_now c =
    let m = c.args.self.now in
    ends_same m.moment (m.moment + 1) m.bytes.items m.bytes.items m.events.items m.events.items refl refl (omega arith) m.ends_before_now

pub invariant_of-self-in-Ok-clause-ends_before_now : goal.invariant_of-self-in-Ok-clause-ends_before_now
invariant_of-self-in-Ok-clause-ends_before_now c =
    let m = c.args.self.now in
    ends_pushed m.moment m.bytes.items m.events.items c.push_event.new.events.items _ m.bytes.items c.in-Ok.ensures.ok refl refl m.ends_before_now

pub invariant_of-self-in-Err-clause-ends_before_now : goal.invariant_of-self-in-Err-clause-ends_before_now
invariant_of-self-in-Err-clause-ends_before_now c =
    let m = c.args.self.now in
    ends_same m.moment (m.moment + 1) m.bytes.items m.bytes.items m.events.items c.push_event.new.events.items refl c.in-Err.ensures.err (omega arith) m.ends_before_now

pub returns-then-self : goal.returns-then-self
returns-then-self c =
    let m = c.args.self.now in
    let counted = c.count_fault in
    record {
      durable = tt;
      image = refl;
      crash = λ d left. left;
      time = record {
        adds = record { later = omega arith; since = λ t d le left. inl left };
        keeps = λ t d le left. left;
        tells = refl;
        rises = λ before. omega (arith, before, c.if-self.true);
      };
      end = λ last. refl;
      same = tt;
      cause = counted_cause m.faults counted.new.faults counted.result m.counted counted.ensures;
      plan = c.next_fails-fails.ensures.count;
      fails = λ next. refl;
      synced = tt;
      unsynced = λ i. refl;
      refused = λ d left. left;
    }

pub returns-then-fails : goal.returns-then-fails
returns-then-fails c =
    let m = c.args.self.now in
    let counted = c.count_fault-then-fails in
    record {
      durable = tt;
      image = refl;
      crash = λ d left. left;
      time = record {
        adds = record { later = omega arith; since = λ t d le left. inl left };
        keeps = λ t d le left. left;
        tells = refl;
        rises = λ before. omega arith;
      };
      end = λ last. refl;
      same = tt;
      cause = counted_cause m.faults counted.new.faults counted.result m.counted counted.ensures;
      plan = c.next_fails-fails.ensures.count;
      fails = λ next. refl;
      synced = tt;
      unsynced = λ i. refl;
      refused = λ d left. left;
    }

pub returns-in-Ok : goal.returns-in-Ok
returns-in-Ok c =
    let m = c.args.self.now in
    let x = m.bytes.items in
    let old = m.events.items in
    let new = c.push_event.new.events.items in
    let e : Event = record { stamp = m.moment; change = Synced } in
    let s = c.in-Ok.ensures in
    let goes = pushed m.moment x old new e x s.ok refl refl in
    let durable : Only x (LeftByCrash x (reverse new)) =
    subst (λ (es : List Event). Only x (LeftByCrash x es)) (sym (newest old new e s.ok))
    (durable_synced x m.moment (reverse old)) in
    record {
      durable = durable;
      image = refl;
      crash = λ d left. subst (λ (l : List ℕ). LeftByCrash x (reverse old) l) (sym (durable d left))
          (record { size = refl; clean = λ i out. refl });
      time = record {
        adds = record { later = omega arith; since = goes.since };
        keeps = goes.keeps;
        tells = refl;
        rises = λ before. omega arith;
      };
      end = λ last. absurd (c.if-self.false last);
      same = tt;
      cause = record { later = omega arith; failed = tt };
      plan = c.next_fails-fails.ensures.count;
      fails = λ next. sym c.if-fails.false ∙ c.next_fails-fails.ensures.fails.1 next;
      synced = synced_now m.moment x old new s.ok;
      unsynced = tt;
      refused = tt;
    }

pub returns-in-Err : goal.returns-in-Err
returns-in-Err c =
    let m = c.args.self.now in
    let x = m.bytes.items in
    let old = m.events.items in
    let new = c.push_event.new.events.items in
    let s = c.in-Err.ensures in
    let counted = c.count_fault-in-Err in
    let goes = still_on x x old new refl s.err m.moment in
    record {
      durable = tt;
      image = refl;
      crash = still_left x x old new refl s.err;
      time = record {
        adds = record { later = omega arith; since = goes.since };
        keeps = goes.keeps;
        tells = refl;
        rises = λ before. omega arith;
      };
      end = λ last. refl;
      same = tt;
      cause = counted_cause m.faults counted.new.faults counted.result m.counted counted.ensures;
      plan = c.next_fails-fails.ensures.count;
      fails = λ next. refl;
      synced = tt;
      unsynced = still_synced x x old new refl s.err;
      refused = left_still x x old new refl s.err;
    }
