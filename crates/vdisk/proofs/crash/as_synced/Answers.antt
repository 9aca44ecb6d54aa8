use Rattle.std.proofs.Common.{◌≡◌, ℕ, List, length, get_or, sym, ◌∙◌, ap, subst, take, drop, ◌++◌, reverse, arith, rules}
use Rattle.std.proofs.lemmas.List.{take_at}
use Rattle.vdisk.specs.Past.{byte_at_sync}
use Rattle.vdisk.specs.Picks.{IsPicked}
use Rattle.vdisk.proofs.Draws.{synced_picked}
use Rattle.vdisk.proofs.crash.as_synced.Goals as goal

pub returns : goal.returns
returns c =
    let image = c.args.image.now in
    let es = reverse c.args.events.now in
    let copied : c.in_ok-synced.synced.items ≡ image = search rules in
    let lent : c.deref_mut.result.now ≡ image = search rules in
    let long : length c.undo_unsynced.new.image ≡ length image = c.undo_unsynced.auto.image ∙ ap length lent in
    let count : length c.undo_unsynced.new.image ≡ c.in_ok-synced.synced.len = omega (arith, long, ap length copied, c.in_ok-synced.synced.ok.0) in
    let new : take c.in_ok-synced.synced.len (c.undo_unsynced.new.image ++ drop (length c.undo_unsynced.new.image) c.in_ok-synced.synced.items) ≡ c.undo_unsynced.new.image = take_at c.undo_unsynced.new.image _ _ count in
    subst (λ (l : List ℕ). IsPicked image es 0 l) (sym new)
    (synced_picked image c.undo_unsynced.new.image es long
    (λ i low. c.undo_unsynced.ensures i (omega (arith, low, ap length lent)) ∙ ap (λ (l : List ℕ). byte_at_sync es i (get_or l i 0)) lent))
