use Rattle.std.proofs.Common.{◌≡◌, ◌<◌, ◌+◌, ◌*◌, ◌^◌, inl, ℕ, List, [], length, drop, take, nat_lt, refl, sym, ◌∙◌, ap, subst, arith, length-drop, length-take}
use Rattle.std.specs.Prelude.{IsTrue}
use Rattle.std.proofs.lemmas.List.{drop_all}
use Rattle.vdisk.specs.Disk.{ChangedWithin}
use Rattle.vdisk.specs.Ranges.{changed_wider, changed_then}
use Rattle.vdisk.specs.Steps.{Keeps}
use Rattle.byte_map.specs.Words.{Map}
use Rattle.meta_log.specs.Log.{layout_of, state_of}
use Rattle.meta_log.specs.Records.{records_of}
use Rattle.meta_log.specs.Ready.{Stands, IsCommitImage, IsSettledImage}
use Rattle.meta_log.proofs.Lives.{stands_spells}
use Rattle.meta_log.proofs.Appending.{room_for, group_within, behind, opening, done, outside}
use Rattle.meta_log.proofs.log.MetaLog.append.Goals as goal

pub returns-in_err-write_group-clause-moments : goal.returns-in_err-write_group-clause-moments
returns-in_err-write_group-clause-moments g c m log =
    let s = c.args.self.now in
    let body = drop 36 s.staged.items in
    let next : s.place + (c.len.result + 1) ≡ s.place + (37 + length body) = omega (arith, length-drop 36 s.staged.items) in
    let gate = nat_lt (s.place + (c.len.result + 1)) s.half in
    let room = room_for (s.place + (c.len.result + 1)) (s.place + (37 + length body)) s.half next (omega (arith, next, length-drop 36 s.staged.items)) in
    let short : length body < 2 ^ 32 = omega (arith, length-drop 36 s.staged.items) in
    let s₁ = g.D.Disk.state c.write_group.new.disk in
    subst (λ (n : Map). Keeps (state_of s) s₁ (IsCommitImage s.at s.half (state_of s) n)) log.now
    (behind (layout_of s) (state_of s) m log.stands body log.records gate short log.spelled room c.seal.new.group.items c.seal.ensures.items s₁ c.write_group.ensures.torn)

pub returns-in_err-write_group-clause-outside : goal.returns-in_err-write_group-clause-outside
returns-in_err-write_group-clause-outside g c =
    let s = c.args.self.now in
    let room = room_for (s.place + (c.len.result + 1)) (s.place + (length c.seal.new.group.items + 1)) s.half (omega (arith, c.seal.ensures.len)) (omega (arith, c.seal.ensures.len)) in
    let within = group_within s.place s.half (nat_lt (s.place + (c.len.result + 1)) s.half) c.seal.new.group.items room in
    let first = changed_wider _ _ s.at (2 * s.half) _ _ (omega arith) (omega (arith, within)) c.write_group.ensures.image in
    first

pub returns-in_err-write_synced-clause-moments : goal.returns-in_err-write_synced-clause-moments
returns-in_err-write_synced-clause-moments g c m log =
    let s = c.args.self.now in
    let body = drop 36 s.staged.items in
    let next : s.place + (c.len.result + 1) ≡ s.place + (37 + length body) = omega (arith, length-drop 36 s.staged.items) in
    let gate = nat_lt (s.place + (c.len.result + 1)) s.half in
    let room = room_for (s.place + (c.len.result + 1)) (s.place + (37 + length body)) s.half next (omega (arith, next, length-drop 36 s.staged.items)) in
    let short : length body < 2 ^ 32 = omega (arith, length-drop 36 s.staged.items) in
    let s₁ = g.D.Disk.state c.write_group.new.disk in
    let s₂ = g.D.Disk.state c.write_synced.new.disk in
    let e₁ = c.in_ok-write_group.ensures in
    subst (λ (n : Map). Keeps (state_of s) s₂ (IsCommitImage s.at s.half (state_of s) n)) log.now
    (opening (layout_of s) (state_of s) m log.stands body log.records gate short log.spelled room c.seal.new.group.items c.seal.ensures.items s₁ c.write_group.ensures.torn
    c.write_group.ensures.image (e₁.written log.stands.told) (e₁.durable log.stands.told) s₂ c.write_synced.ensures.torn)

pub returns-in_err-write_synced-clause-outside : goal.returns-in_err-write_synced-clause-outside
returns-in_err-write_synced-clause-outside g c =
    let s = c.args.self.now in
    let room = room_for (s.place + (c.len.result + 1)) (s.place + (length c.seal.new.group.items + 1)) s.half (omega (arith, c.seal.ensures.len)) (omega (arith, c.seal.ensures.len)) in
    let within = group_within s.place s.half (nat_lt (s.place + (c.len.result + 1)) s.half) c.seal.new.group.items room in
    let first = changed_wider _ _ s.at (2 * s.half) _ _ (omega arith) (omega (arith, within)) c.write_group.ensures.image in
    changed_then s.at (2 * s.half) _ _ _ first (changed_wider _ _ s.at (2 * s.half) _ _ (omega arith) (omega (arith, within)) c.write_synced.ensures.image)

pub returns-clause-moments : goal.returns-clause-moments
returns-clause-moments g c m log =
    let s = c.args.self.now in
    let body = drop 36 s.staged.items in
    let next : s.place + (c.len.result + 1) ≡ s.place + (37 + length body) = omega (arith, length-drop 36 s.staged.items) in
    let gate = nat_lt (s.place + (c.len.result + 1)) s.half in
    let room = room_for (s.place + (c.len.result + 1)) (s.place + (37 + length body)) s.half next (omega (arith, next, length-drop 36 s.staged.items)) in
    let short : length body < 2 ^ 32 = omega (arith, length-drop 36 s.staged.items) in
    let s₁ = g.D.Disk.state c.write_group.new.disk in
    let s₂ = g.D.Disk.state c.write_synced.new.disk in
    let e₁ = c.in_ok-write_group.ensures in
    subst (λ (n : Map). Keeps (state_of s) s₂ (IsCommitImage s.at s.half (state_of s) n)) log.now
    (opening (layout_of s) (state_of s) m log.stands body log.records gate short log.spelled room c.seal.new.group.items c.seal.ensures.items s₁ c.write_group.ensures.torn
    c.write_group.ensures.image (e₁.written log.stands.told) (e₁.durable log.stands.told) s₂ c.write_synced.ensures.torn)

pub returns-clause-ok : goal.returns-clause-ok
returns-clause-ok g c m log =
    let s = c.args.self.now in
    let body = drop 36 s.staged.items in
    let next : s.place + (c.len.result + 1) ≡ s.place + (37 + length body) = omega (arith, length-drop 36 s.staged.items) in
    let gate = nat_lt (s.place + (c.len.result + 1)) s.half in
    let room = room_for (s.place + (c.len.result + 1)) (s.place + (37 + length body)) s.half next (omega (arith, next, length-drop 36 s.staged.items)) in
    let short : length body < 2 ^ 32 = omega (arith, length-drop 36 s.staged.items) in
    let s₁ = g.D.Disk.state c.write_group.new.disk in
    let s₂ = g.D.Disk.state c.write_synced.new.disk in
    let e₁ = c.in_ok-write_group.ensures in
    let told₁ = subst (λ b. IsTrue b) (sym c.write_group.ensures.torn.tells) log.stands.told in
    let e₂ = c.in_ok-write_synced.ensures in
    let stands = done (layout_of s) (state_of s) m log.stands body log.records gate short log.spelled room c.seal.new.group.items c.seal.ensures.items s₁ c.write_group.ensures.torn
    c.write_group.ensures.image (e₁.written log.stands.told) (e₁.durable log.stands.told) s₂ c.write_synced.ensures.torn c.write_synced.ensures.image (e₂.written told₁) (e₂.durable told₁) in
    let at_end = subst (λ (n : Map). Stands (record (layout_of s) { place = s.place + (37 + length body) }) s₂ n) log.now stands in
    let none : drop 36 c.truncate.new.self.items ≡ [] = ap (λ (q : List ℕ). drop 36 q) c.truncate.ensures.items ∙ drop_all 36 (take 36 c.write_group.new.group.items) (omega (arith, length-take 36 c.write_group.new.group.items)) in
    record {
      stands = subst (λ (k : ℕ). Stands (record (layout_of s) { place = k }) s₂ s.map) (sym next) at_end;
      records = [];
      spelled = ap records_of none;
      now = refl;
    }

pub returns-clause-settled : goal.returns-clause-settled
returns-clause-settled g c m log image left =
    let s = c.args.self.now in
    let body = drop 36 s.staged.items in
    let next : s.place + (c.len.result + 1) ≡ s.place + (37 + length body) = omega (arith, length-drop 36 s.staged.items) in
    let gate = nat_lt (s.place + (c.len.result + 1)) s.half in
    let room = room_for (s.place + (c.len.result + 1)) (s.place + (37 + length body)) s.half next (omega (arith, next, length-drop 36 s.staged.items)) in
    let short : length body < 2 ^ 32 = omega (arith, length-drop 36 s.staged.items) in
    let s₁ = g.D.Disk.state c.write_group.new.disk in
    let s₂ = g.D.Disk.state c.write_synced.new.disk in
    let e₁ = c.in_ok-write_group.ensures in
    let told₁ = subst (λ b. IsTrue b) (sym c.write_group.ensures.torn.tells) log.stands.told in
    let e₂ = c.in_ok-write_synced.ensures in
    let stands = done (layout_of s) (state_of s) m log.stands body log.records gate short log.spelled room c.seal.new.group.items c.seal.ensures.items s₁ c.write_group.ensures.torn
    c.write_group.ensures.image (e₁.written log.stands.told) (e₁.durable log.stands.told) s₂ c.write_synced.ensures.torn c.write_synced.ensures.image (e₂.written told₁) (e₂.durable told₁) in
    let whole = outside (layout_of s) (state_of s) m log.stands body log.records gate short log.spelled room c.seal.new.group.items c.seal.ensures.items s₁ c.write_group.ensures.torn
    c.write_group.ensures.image (e₁.written log.stands.told) (e₁.durable log.stands.told) s₂ c.write_synced.ensures.torn c.write_synced.ensures.image (e₂.written told₁) (e₂.durable told₁) in
    let only = e₂.durable told₁ image left in
    subst (λ (n : Map). IsSettledImage s.at s.half (state_of s) m n image) log.now (
      stands_spells _ s₂ _ stands image left,
      inl (subst (λ (q : List ℕ). ChangedWithin s.at (2 * s.half) (state_of s).image q) (sym only) whole),
    )

pub returns-clause-outside : goal.returns-clause-outside
returns-clause-outside g c =
    let s = c.args.self.now in
    let room = room_for (s.place + (c.len.result + 1)) (s.place + (length c.seal.new.group.items + 1)) s.half (omega (arith, c.seal.ensures.len)) (omega (arith, c.seal.ensures.len)) in
    let within = group_within s.place s.half (nat_lt (s.place + (c.len.result + 1)) s.half) c.seal.new.group.items room in
    let first = changed_wider _ _ s.at (2 * s.half) _ _ (omega arith) (omega (arith, within)) c.write_group.ensures.image in
    changed_then s.at (2 * s.half) _ _ _ first (changed_wider _ _ s.at (2 * s.half) _ _ (omega arith) (omega (arith, within)) c.write_synced.ensures.image)
