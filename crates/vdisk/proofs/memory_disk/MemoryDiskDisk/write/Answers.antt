use Rattle.std.proofs.Common.{◌≡◌, ◌+◌, false, true, inl, inr, refl, subst, List, ℕ, sym, ◌∙◌, ap, length, take, arith}
use Rattle.std.proofs.lemmas.List.{take_all}
use Rattle.vdisk.specs.Disk.{ChangedWithin}
use Rattle.vdisk.specs.Past.{put}
use Rattle.vdisk.proofs.Past.{ends_same, part_changes, wrote_ends, wrote_on, wrote_crash, wrote_any, wrote_synced}
use Rattle.vdisk.proofs.Still.{counted_cause, unchanged, left_still, still_on, still_changed, still_changes, still_synced}
use Rattle.vdisk.proofs.memory_disk.MemoryDiskDisk.write.Goals as goal

pub invariant_of-self-in-Ok-clause-ends_before_now : goal.invariant_of-self-in-Ok-clause-ends_before_now
invariant_of-self-in-Ok-clause-ends_before_now c =
    let m = c.args.self.now in
    let n = length c.args.bytes.now in
    let new = c.write_at.new.image.items in
    let was = c.in-Ok.ensures.events in
    let change : ChangedWithin c.args.at n m.bytes.items new = subst (λ (l : List ℕ). ChangedWithin c.args.at n m.bytes.items l) (sym c.in-Ok.ensures.image) (part_changes c.args.at c.part_kept-kept.result m.bytes.items c.args.bytes.now c.part_kept-kept.ensures.within c.requires) in
    wrote_ends c.args.at n m.moment m.bytes.items new was.0 m.events.items c.write_at.new.events.items c.requires change was.1 was.2 m.ends_before_now

pub invariant_of-self-else-fails-clause-ends_before_now : goal.invariant_of-self-else-fails-clause-ends_before_now
invariant_of-self-else-fails-clause-ends_before_now c =
    let m = c.args.self.now in
    let n = length c.args.bytes.now in
    let new = c.write_at.new.image.items in
    let was = c.in-Ok.ensures.events in
    let change : ChangedWithin c.args.at n m.bytes.items new = subst (λ (l : List ℕ). ChangedWithin c.args.at n m.bytes.items l) (sym c.in-Ok.ensures.image) (part_changes c.args.at c.part_kept-kept.result m.bytes.items c.args.bytes.now c.part_kept-kept.ensures.within c.requires) in
    wrote_ends c.args.at n m.moment m.bytes.items new was.0 m.events.items c.write_at.new.events.items c.requires change was.1 was.2 m.ends_before_now

pub invariant_of-self-in-Err-clause-ends_before_now : goal.invariant_of-self-in-Err-clause-ends_before_now
invariant_of-self-in-Err-clause-ends_before_now c =
    let m = c.args.self.now in
    ends_same m.moment (m.moment + 1) m.bytes.items c.write_at.new.image.items m.events.items c.write_at.new.events.items c.in-Err.ensures.err c.in-Err.ensures.err_events (omega arith) m.ends_before_now

pub returns-then-self : goal.returns-then-self
returns-then-self c =
    let m = c.args.self.now in
    let n = length c.args.bytes.now in
    let x = m.bytes.items in
    record {
      written = tt;
      image = unchanged c.args.at n x;
      crash = still_changes x x m.events.items m.events.items refl refl c.args.at n;
      time = record {
        adds = record { later = omega arith; since = λ t d le left. inl left };
        keeps = λ t d le left. left;
        tells = refl;
        rises = λ before. omega (arith, before, c.if-self.true);
      };
      end = λ last. refl;
      same = tt;
      cause = counted_cause m.faults c.count_fault.new.faults c.count_fault.result m.counted c.count_fault.ensures;
      plan = c.next_fails-fails.ensures.count;
      fails = λ next. refl;
      synced = λ i. refl;
      half = λ next. inr refl;
      memory = λ miss. refl;
      any_bytes = tt;
      torn = inr (λ d left. left);
    }

pub returns-in-Ok : goal.returns-in-Ok
returns-in-Ok c =
    let m = c.args.self.now in
    let n = length c.args.bytes.now in
    let x = m.bytes.items in
    let y = c.write_at.new.image.items in
    let old = m.events.items in
    let new = c.write_at.new.events.items in
    let kept = c.part_kept-kept in
    let s = c.in-Ok.ensures in
    let was = s.events in
    let change : ChangedWithin c.args.at n x y =
    subst (λ (l : List ℕ). ChangedWithin c.args.at n x l) (sym s.image)
    (part_changes c.args.at kept.result x c.args.bytes.now kept.ensures.within c.requires) in
    let goes = wrote_on c.args.at n m.moment x y was.0 old new c.requires change was.1 was.2 in
    let counted = c.count_fault-in-Ok in
    record {
      written = tt;
      image = change;
      crash = wrote_crash c.args.at n m.moment x y was.0 old new c.requires change was.1 was.2;
      time = record {
        adds = record { later = omega arith; since = goes.since };
        keeps = goes.keeps;
        tells = refl;
        rises = λ before. omega arith;
      };
      end = λ last. refl;
      same = tt;
      cause = counted_cause m.faults counted.new.faults counted.result m.counted counted.ensures;
      plan = c.next_fails-fails.ensures.count;
      fails = λ next. refl;
      synced = wrote_synced c.args.at n m.moment x y was.0 old new c.requires change was.1 was.2;
      half = λ next. inl (s.image ∙ ap (λ (k : ℕ). put x c.args.at (take k c.args.bytes.now))
          (kept.ensures.half c.if-fails.true));
      memory = λ miss. absurd (miss (c.next_fails-fails.ensures.fails.0 c.if-fails.true));
      any_bytes = tt;
      torn = inl (wrote_any c.args.at n m.moment x y was.0 old new c.requires change was.1 was.2);
    }

pub returns-in-Ok-2 : goal.returns-in-Ok-2
returns-in-Ok-2 c =
    let m = c.args.self.now in
    let n = length c.args.bytes.now in
    let x = m.bytes.items in
    let y = c.write_at.new.image.items in
    let old = m.events.items in
    let new = c.write_at.new.events.items in
    let kept = c.part_kept-kept in
    let s = c.in-Ok.ensures in
    let was = s.events in
    let change : ChangedWithin c.args.at n x y =
    subst (λ (l : List ℕ). ChangedWithin c.args.at n x l) (sym s.image)
    (part_changes c.args.at kept.result x c.args.bytes.now kept.ensures.within c.requires) in
    let goes = wrote_on c.args.at n m.moment x y was.0 old new c.requires change was.1 was.2 in
    let all : take kept.result c.args.bytes.now ≡ c.args.bytes.now =
    take_all kept.result c.args.bytes.now (omega (arith, kept.ensures.all c.if-fails.false)) in
    record {
      written = s.image ∙ ap (λ (b : List ℕ). put x c.args.at b) all;
      image = change;
      crash = wrote_crash c.args.at n m.moment x y was.0 old new c.requires change was.1 was.2;
      time = record {
        adds = record { later = omega arith; since = goes.since };
        keeps = goes.keeps;
        tells = refl;
        rises = λ before. omega arith;
      };
      end = λ last. absurd (c.if-self.false last);
      same = tt;
      cause = record { later = omega arith; failed = tt };
      plan = c.next_fails-fails.ensures.count;
      fails = λ next. sym c.if-fails.false ∙ c.next_fails-fails.ensures.fails.1 next;
      synced = wrote_synced c.args.at n m.moment x y was.0 old new c.requires change was.1 was.2;
      half = λ next.
          let clash : false ≡ true = sym c.if-fails.false ∙ c.next_fails-fails.ensures.fails.1 next in cc;
      memory = λ miss. tt;
      any_bytes = wrote_any c.args.at n m.moment x y was.0 old new c.requires change was.1 was.2;
      torn = tt;
    }

pub returns-in-Err : goal.returns-in-Err
returns-in-Err c =
    let m = c.args.self.now in
    let n = length c.args.bytes.now in
    let x = m.bytes.items in
    let y = c.write_at.new.image.items in
    let old = m.events.items in
    let new = c.write_at.new.events.items in
    let s = c.in-Err.ensures in
    let counted = c.count_fault-in-Err in
    let goes = still_on x y old new s.err s.err_events m.moment in
    record {
      written = tt;
      image = still_changed x y old new s.err s.err_events c.args.at n;
      crash = still_changes x y old new s.err s.err_events c.args.at n;
      time = record {
        adds = record { later = omega arith; since = goes.since };
        keeps = goes.keeps;
        tells = refl;
        rises = λ before. omega arith;
      };
      end = λ last. refl;
      same = tt;
      cause = counted_cause m.faults counted.new.faults counted.result m.counted counted.ensures;
      plan = c.next_fails-fails.ensures.count;
      fails = λ next. refl;
      synced = still_synced x y old new s.err s.err_events;
      half = λ next. inr s.err;
      memory = λ miss. s.err;
      any_bytes = tt;
      torn = inr (left_still x y old new s.err s.err_events);
    }
