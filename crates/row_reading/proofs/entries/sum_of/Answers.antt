use Rattle.std.proofs.Common.{◌≡◌, ◌≤◌, ◌+◌, ◌*◌, ℕ, length, take, drop, arith, sym, subst, ap, ◌∙◌}
use Rattle.stream_map.specs.declared.entry.Entry.{Entry}
use Rattle.stream_map.specs.Entries.{entry_of}
use Rattle.stream_map.specs.Pieces.{entries_in}
use Rattle.volume_inside.specs.ChunkRules.{EntryHolds}
use Rattle.std.specs.Prelude.{Some}
use Rattle.row_reading.specs.Reading.{IsSum}
use Rattle.row_reading.proofs.Texts.{true_false}
use Rattle.row_reading.proofs.Sums.{entry_added, entry_breaks}
use Rattle.row_reading.proofs.entries.sum_of.Goals as goal

pub returns-then-not-entry_holds-clause-is : goal.returns-then-not-entry_holds-clause-is
returns-then-not-entry_holds-clause-is g c =
    let rows = (g.D.ChunkDisk.chunks c.args.disk.now).rows in
    let bytes = c.args.bytes.now in
    let i = c.loop-index.index in
    let one = take 12 (drop (12 * i) bytes) in
    let room : 12 * i + 12 ≤ length bytes = omega arith in
    entry_breaks rows c.entries_of_joined_bytes.ensures.joined bytes i room
    (λ holds. true_false _ (c.entry_holds.ensures.1
    (subst (λ (e : Entry). EntryHolds rows e) (sym c.entry_at-entry.ensures) holds)) c.if-not-entry_holds.true)

pub loop-index-preserved : goal.loop-index-preserved
loop-index-preserved g c =
    let rows = (g.D.ChunkDisk.chunks c.args.disk.now).rows in
    let bytes = c.args.bytes.now in
    let i = c.loop-index.index in
    let one = take 12 (drop (12 * i) bytes) in
    let inv = c.loop-index.invariant in
    let room : 12 * i + 12 ≤ length bytes = omega arith in
    let read = c.entry_at-entry.ensures in
    let holds = c.entry_holds.ensures.0 c.if-not-entry_holds.false in
    let short = holds.short in
    let added : c.from-sum.result ≡ (entry_of one).length = c.from-sum.ensures ∙ ap (λ (e : Entry). e.length) read in
    record {
      most = omega (arith, inv.most, short, c.from-sum.ensures);
      is = subst (λ (n : ℕ). IsSum rows (entries_in (take (12 * (i + 1)) bytes)) (Some (c.loop-index.sum + n))) (sym added)
          (entry_added rows c.entries_of_joined_bytes.ensures.joined bytes i room c.loop-index.sum inv.is
          (subst (λ (e : Entry). EntryHolds rows e) read holds));
    }
