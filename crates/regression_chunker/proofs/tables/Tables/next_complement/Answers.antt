use Rattle.std.proofs.Common.{◌≡◌, ℕ, ◌+◌, ◌-◌, ◌%◌, ◌^◌, ◌<◌, List, get_or, bit_and, bit_xor, refl, sym, ◌∙◌, ap, arith, rules}
use Rattle.std.proofs.lemmas.Nat.{and_mask}
use Rattle.regression_chunker.specs.Cuts.{print_at}
use Rattle.regression_chunker.specs.Fingerprint.{times_x_to}
use Rattle.regression_chunker.specs.Tables.{complement_of, IsTable, IsTurnTable}
use Rattle.regression_chunker.proofs.Places.{next_place, place_fits}
use Rattle.regression_chunker.proofs.Turns.{turned_push}
use Rattle.regression_chunker.proofs.tables.Tables.next_complement.Goals as goal

pub returns : goal.returns
returns c =
    let rest : List ℕ = c.args.rest.now in
    let at : ℕ = c.args.at in
    let new : ℕ = get_or rest at 0 in
    let old : ℕ = get_or rest (at - 48) 0 in
    let turned : ℕ = c.rotate_left-turned.result in
    let own : ℕ = turned % 2 ^ 8 in
    let entry : ℕ = get_or c.args.self.now.turn (bit_and turned 255) 0 in
    let old_table : IsTable 384 c.args.self.now.old = search rules in
    let turn_table : IsTurnTable c.args.self.now.turn = search rules in
    let old_is : get_or c.args.self.now.old old 0 ≡ times_x_to 384 old = old_table old (c.type_inv.rest (at - 48)).fits in
    let few : own < 256 = omega arith in
    let entry_is : entry ≡ bit_xor (times_x_to 64 (bit_xor own 0xff)) (bit_xor own 0xff) =
    ap (λ k. get_or c.args.self.now.turn k 0) (and_mask turned 8) ∙ turn_table own few in
    ap (λ x. bit_xor (bit_xor turned (bit_xor new x)) entry) old_is
    ∙ turned_push (print_at rest at) c.args.complement turned new old entry (place_fits rest at) c.requires.before c.rotate_left-turned.ensures entry_is
    ∙ ap complement_of (sym (next_place rest (at - 48) at (at + 1) (omega (arith, c.requires.enough)) refl c.requires.within
    (c.type_inv.rest (at - 48)).fits (c.type_inv.rest at).fits))
