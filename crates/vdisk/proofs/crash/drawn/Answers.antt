use Rattle.std.proofs.Common.{◌≡◌, ℕ, false, List, Bool, length, get_or, sym, ◌∙◌, ap, subst, take, drop, ◌++◌, reverse, arith, rules}
use Rattle.std.proofs.lemmas.List.{take_at}
use Rattle.vdisk.specs.Picks.{IsPicked, drawn_byte, places_below}
use Rattle.vdisk.proofs.Draws.{drawn_picked, marked}
use Rattle.vdisk.proofs.crash.drawn.Goals as goal

pub returns : goal.returns
returns c =
    let image = c.args.image.now in
    let marks = c.in_ok-pending.pending.items in
    let copied : c.in_ok-crashed.crashed.items ≡ image = search rules in
    let lent : c.deref_mut.result.now ≡ image = search rules in
    let lent_marks : c.deref.result.now ≡ marks = search rules in
    let long : length c.draw.new.image ≡ length image = c.draw.auto.image ∙ ap length lent in
    let count : length c.draw.new.image ≡ c.in_ok-crashed.crashed.len = omega (arith, long, ap length copied, c.in_ok-crashed.crashed.ok.0) in
    let new : take c.in_ok-crashed.crashed.len (c.draw.new.image ++ drop (length c.draw.new.image) c.in_ok-crashed.crashed.items) ≡ c.draw.new.image = take_at c.draw.new.image _ _ count in
    subst (λ (l : List ℕ). IsPicked image (reverse c.args.events.now) c.args.pick l) (sym new)
    (drawn_picked image c.draw.new.image marks (reverse c.args.events.now) c.args.pick c.requires.not_synced c.requires.not_read long c.in_ok-pending.ensures.places
    (λ i low none. c.draw.ensures.clean i (omega (arith, low, ap length lent)) (ap (λ (l : List Bool). get_or l i false) lent_marks ∙ none) ∙ ap (λ (l : List ℕ). get_or l i 0) lent)
    (λ i low pends. c.draw.ensures.drawn i (omega (arith, low, ap length lent)) (ap (λ (l : List Bool). get_or l i false) lent_marks ∙ pends) ∙ ap (λ (l : List Bool). drawn_byte c.args.pick (places_below (marked l) i)) lent_marks))
