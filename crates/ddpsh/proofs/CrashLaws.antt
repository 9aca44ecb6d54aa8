-- What a crash leaves, and what was spent, goes on from call to call.
use Rattle.std.proofs.Common.{◌≡◌, ◌⊎◌, ◌≤◌, ◌+◌, ℕ, zero, suc, false, List, [], ◌∷◌, ◌++◌, length, take, refl, sym, ◌∙◌, ap, subst, inl, inr, ⊎_elim, arith, length-append, Contains}
use Rattle.std.proofs.lemmas.List.{take-append-le, take_all}
use Rattle.std.proofs.lemmas.List.Elements.{Contains-push_cases}
use Rattle.std.proofs.Math.Seq.{take-append-add}
use Rattle.vdisk.specs.Disk.{DiskState}
use Rattle.vdisk.specs.Steps.{keeps_start, keeps_as}
use Rattle.vdisk.specs.declared.disk.Disk.{Ghosts}
use Rattle.plain_volume.specs.Volume.{Volume}
use Rattle.plain_volume.specs.Step.{replay}
use Rattle.plain_volume.specs.declared.call.Call.{Call}
use Rattle.plain_volume.specs.declared.call.Reply.{Reply}
use Rattle.volume_inside.specs.Shows.{Shows, ShowsEither}
use Rattle.volume_core.specs.Bounds.{touched_by, changed_by, AddsToSpent}
use Rattle.volume_core.specs.Volumes.{disk_of, area_of, view_now, stopped, clusters_in, IsKept, Endures}
use Rattle.ddpsh.specs.Bounds.{touched_by_all}
use Rattle.ddpsh.specs.Crashes.{Mounts, MountsAfter, Carries, AreInOrder, LastsFrom}
use Rattle.ddpsh.specs.Sessions.{ack_now}
use Rattle.ddpsh.specs.Steps.{Keeping}
use Rattle.ddpsh.specs.declared.acks.Ack.{Ack}
use Rattle.volume_core.specs.declared.volume.Volume.{Volume as Engine}
use Rattle.ddpsh.specs.declared.session.Session.{Session}
use Rattle.ddpsh.proofs.RunLaws.{replays}
use Rattle.ddpsh.proofs.BoundLaws.{spent_more, changed_once}

-- after a front of the calls so far
after_front : (opening : Volume) (calls more : List (Call × Reply)) (least : ℕ) (image : List ℕ)
    → MountsAfter opening calls least image → MountsAfter opening (calls ++ more) least image
after_front opening calls more least image is = record {
  count = is.count;
  enough = is.enough;
  within = omega (arith, is.within, length-append calls more);
  mounts = subst (λ (x : List (Call × Reply)). Mounts (replay opening x) image) (sym (take-append-le is.count calls more is.within)) is.mounts;
}

-- after all of the calls so far, and a front of those that follow
after_rest : (opening v : Volume) (calls more : List (Call × Reply)) (least : ℕ) (image : List ℕ) → v ≡ replay opening calls → least ≤ length calls
    → MountsAfter v more 0 image → MountsAfter opening (calls ++ more) least image
after_rest opening v calls more least image now enough is =
    let joined : replay v (take is.count more) ≡ replay opening (take (length calls + is.count) (calls ++ more)) =
    ap (λ x. replay x (take is.count more)) now ∙ (sym (replays opening calls (take is.count more)) ∙ ap (replay opening) (sym (take-append-add calls more is.count))) in
    record {
      count = length calls + is.count;
      enough = omega (arith, enough);
      within = omega (arith, is.within, length-append calls more);
      mounts = subst (λ (w : Volume). Mounts w image) joined is.mounts;
    }

-- after a front whose length is known
after_count : (opening : Volume) (calls : List (Call × Reply)) (count least : ℕ) (image : List ℕ) → count ≤ length calls → least ≤ count
    → Mounts (replay opening (take count calls)) image → MountsAfter opening calls least image
after_count opening calls count least image within enough mounts = record { count = count; enough = enough; within = within; mounts = mounts }

pub order_later : (from : ℕ) (acks : List Ack) (to later : ℕ) → to ≤ later → AreInOrder from acks to → AreInOrder from acks later
order_later from [] to later le so = omega (arith, le, so)
order_later from (ack ∷ acks) to later le so = (so.0, order_later ack.moment acks to later le so.1)

order_more : (from : ℕ) (acks : List Ack) (to : ℕ) (ack : Ack) → ack.moment ≡ to → AreInOrder from acks to → AreInOrder from (acks ++ ack ∷ []) to
order_more from [] to ack is so = (omega (arith, is, so), omega (arith, is))
order_more from (a ∷ acks) to ack is so = (so.0, order_more a.moment acks to ack is so.1)

order_by : (from : ℕ) (acks : List Ack) (to : ℕ) → AreInOrder from acks to → from ≤ to
order_by from [] to so = so
order_by from (a ∷ acks) to so = omega (arith, so.0, order_by a.moment acks to so.1)

no_ack : (ack : Ack) → Contains [] ack → ⊥
no_ack ack h = omega (arith, h.1)

ack_within : (from : ℕ) (acks : List Ack) (to : ℕ) (ack : Ack) → AreInOrder from acks to → Contains acks ack → ack.moment ≤ to
ack_within from [] to ack so h = absurd (no_ack ack h)
ack_within from (a ∷ acks) to ack so (zero, le, is) = let m : a.moment ≡ ack.moment = ap (λ x. x.moment) is in omega (arith, m, order_by a.moment acks to so.1)
ack_within from (a ∷ acks) to ack so (suc k, le, is) = ack_within a.moment acks to ack so.1 (k, omega (arith, le), is)

module _ {D : Type 0} {d : Ghosts D} where
  mounts_shown : (v : Engine D d) (w : Volume) (image : List ℕ) → Shows (area_of v) w image → Mounts w image
  mounts_shown v w image shows = record { inside = shows.inside; has = (clusters_in v, shows.has); is = shows.is }

  pub mounts_kept : (v : Engine D d) (w : Volume) → IsKept v w → (image : List ℕ) → (disk_of v).may_leave image → Mounts w image
  mounts_kept v w is image left = mounts_shown v w image (is.kept image left)

  -- no call was made, and the volume is as it was
  pub carries_none : (v : Engine D d) → Carries v v []
  carries_none v = record {
    moments = λ w is. keeps_start (disk_of v) (λ c. Mounts w c ⊎ MountsAfter (view_now v) [] 0 c) (λ c left. inl (mounts_kept v w is c left));
    kept = λ w is runs. inl is;
    clusters = refl;
    spends = λ b i has runs. spent_more v b i (b + 0) (i + 1) has (omega arith) (omega arith);
  }

  -- the volume is as it was, whatever calls were made
  pub carries_idle : (v : Engine D d) (calls : List (Call × Reply)) → Carries v v calls
  carries_idle v calls = record {
    moments = λ w is. keeps_start (disk_of v) (λ c. Mounts w c ⊎ MountsAfter (view_now v) calls 0 c) (λ c left. inl (mounts_kept v w is c left));
    kept = λ w is runs. inl is;
    clusters = refl;
    spends = λ b i has runs. spent_more v b i (b + touched_by_all calls) (i + 1) has (omega arith) (omega arith);
  }

  either_mounts : (v : Engine D d) (calls : List (Call × Reply)) (w : Volume) (image : List ℕ) → ShowsEither (area_of v) w (view_now v) image
      → Mounts w image ⊎ MountsAfter (view_now v) calls 0 image
  either_mounts v calls w image shows = elim shows [
    | inl was ↦ inl (mounts_shown v w image was)
    | inr now ↦ inr (after_count (view_now v) calls 0 0 image (omega arith) (omega arith) (mounts_shown v (view_now v) image now))
  ]

  -- what a call keeps, it keeps as any front of a line's calls; and it adds no more than these touch
  pub carries_call : (call : Call) (old new : Engine D d) (calls : List (Call × Reply)) → Endures old new
      → AddsToSpent call old new → touched_by call ≤ touched_by_all calls → Carries old new calls
  carries_call call old new calls endures adds touches = record {
    moments = λ w is. keeps_as (disk_of old) (disk_of new) (ShowsEither (area_of old) w (view_now old)) (λ c. Mounts w c ⊎ MountsAfter (view_now old) calls 0 c)
        (λ c shows. either_mounts old calls w c shows) (endures.moments w is);
    kept = λ w is runs. ⊎_elim (λ was. inl was) (λ now. inr (0, omega arith, now)) (endures.kept w is runs);
    clusters = endures.clusters;
    spends = λ b i has runs.
        spent_more new (b + touched_by call) (i + changed_by call) (b + touched_by_all calls) (i + 1)
        (adds b i has runs) (omega (arith, touches)) (omega (arith, changed_once call));
  }

  -- What was so at a moment before a line is so after it, of the calls with the line's.
  module _ (opening : Volume) (calls more : List (Call × Reply)) (old new : Engine D d) (is : view_now old ≡ replay opening calls) (carries : Carries old new more) where
    since_more : (count least : ℕ) → count ≤ length calls → least ≤ count → IsKept old (replay opening (take count calls)) → (t : ℕ) → t ≤ (disk_of old).moment
        → ((c : List ℕ) → (disk_of old).left_since t c → MountsAfter opening calls least c)
        → (c : List ℕ) → (disk_of new).left_since t c → MountsAfter opening (calls ++ more) least c
    since_more count least within enough kept t le so c left =
        ⊎_elim (λ was. after_front opening calls more least c (so c was))
        (λ now. ⊎_elim (λ mounts. after_front opening calls more least c (after_count opening calls count least c within enough mounts))
        (λ after. after_rest opening (view_now old) calls more least c is (omega (arith, within, enough)) after) now)
        ((carries.moments (replay opening (take count calls)) kept).adds.since t c le left)

  module _ (opening : Volume) (first : DiskState) (old new : Session D d) (calls more : List (Call × Reply)) (acks : List Ack)
      (is : view_now old.volume ≡ replay opening calls) (carries : Carries old.volume new.volume more) where
    pub lasts_more : LastsFrom opening first (disk_of old.volume) calls acks → Keeping opening old calls acks → LastsFrom opening first (disk_of new.volume) (calls ++ more) acks
    lasts_more lasts keeping = record {
      since = λ t le so c left.
          since_more opening calls more old.volume new.volume is carries keeping.count 0 keeping.within (omega arith) keeping.kept t
          (omega (arith, le, order_by first.moment acks (disk_of old.volume).moment lasts.order)) (lasts.since t le so) c left;
      acknowledged = λ ack here c left.
          since_more opening calls more old.volume new.volume is carries keeping.count ack.calls keeping.within (keeping.holds ack here) keeping.kept ack.moment
          (ack_within first.moment acks (disk_of old.volume).moment ack lasts.order here) (lasts.acknowledged ack here) c left;
      order = order_later first.moment acks (disk_of old.volume).moment (disk_of new.volume).moment
          ((carries.moments (replay opening (take keeping.count calls)) keeping.kept).adds.later) lasts.order;
    }

    pub keeping_more : stopped new.volume ≡ false → Keeping opening old calls acks → Keeping opening new (calls ++ more) acks
    keeping_more runs keeping = ⊎_elim
        (λ was. record {
          count = keeping.count;
          within = omega (arith, keeping.within, length-append calls more);
          kept = subst (λ (x : List (Call × Reply)). IsKept new.volume (replay opening x)) (sym (take-append-le keeping.count calls more keeping.within)) was;
          holds = keeping.holds;
        })
        (λ now. record {
          count = length calls + now.0;
          within = omega (arith, now.1, length-append calls more);
          kept = subst (λ (w : Volume). IsKept new.volume w)
              (ap (λ x. replay x (take now.0 more)) is ∙ (sym (replays opening calls (take now.0 more)) ∙ ap (replay opening) (sym (take-append-add calls more now.0)))) now.2;
          holds = λ ack here. omega (arith, keeping.holds ack here, keeping.within);
        })
        (carries.kept (replay opening (take keeping.count calls)) keeping.kept runs)

  -- before the first call
  pub lasts_start : (v : Session D d) → LastsFrom (view_now v.volume) (disk_of v.volume) (disk_of v.volume) [] []
  lasts_start v = record {
    since = λ t le so c left. after_count (view_now v.volume) [] 0 0 c (omega arith) (omega arith) (so c left);
    acknowledged = λ ack here c left. absurd (no_ack ack here);
    order = omega arith;
  }

  -- all calls so far were acknowledged, where the volume now is kept
  module _ (opening : Volume) (first : DiskState) (now : Session D d) (calls : List (Call × Reply)) (acks : List Ack)
      (is : view_now now.volume ≡ replay opening calls) (count : now.calls ≡ length calls) (kept : IsKept now.volume (view_now now.volume)) where
    whole_kept : IsKept now.volume (replay opening (take (length calls) calls))
    whole_kept = subst (λ (x : List (Call × Reply)). IsKept now.volume (replay opening x)) (sym (take_all (length calls) calls (omega arith))) (subst (λ (w : Volume). IsKept now.volume w) is kept)

    whole_left : (ack : Ack) → ack ≡ ack_now now → (c : List ℕ) → (disk_of now.volume).left_since ack.moment c → MountsAfter opening calls ack.calls c
    whole_left ack same c left =
        let here : (disk_of now.volume).left_since (disk_of now.volume).moment c = subst (λ (a : Ack). (disk_of now.volume).left_since a.moment c) same left in
        let enough : ack.calls ≤ length calls = omega (arith, ap (λ a. a.calls) same, count) in
        after_count opening calls (length calls) ack.calls c (omega arith) enough
        (mounts_kept now.volume (replay opening (take (length calls) calls)) whole_kept c ((disk_of now.volume).only_now c here))

    pub lasts_acked : LastsFrom opening first (disk_of now.volume) calls acks → LastsFrom opening first (disk_of now.volume) calls (acks ++ ack_now now ∷ [])
    lasts_acked lasts = record {
      since = lasts.since;
      acknowledged = λ ack here c left. ⊎_elim (λ was. lasts.acknowledged ack was c left) (λ same. whole_left ack (sym same) c left)
          (Contains-push_cases acks (ack_now now) ack here);
      order = order_more first.moment acks (disk_of now.volume).moment (ack_now now) refl lasts.order;
    }

    pub keeping_acked : Keeping opening now calls acks → Keeping opening now calls (acks ++ ack_now now ∷ [])
    keeping_acked keeping = record {
      count = length calls;
      within = omega arith;
      kept = whole_kept;
      holds = λ ack here. ⊎_elim (λ was. omega (arith, keeping.holds ack was, keeping.within))
          (λ same. omega (arith, ap (λ a. a.calls) same, count)) (Contains-push_cases acks (ack_now now) ack here);
    }
