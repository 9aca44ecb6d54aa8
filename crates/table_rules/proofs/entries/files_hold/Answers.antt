use Rattle.std.proofs.Common.{ℕ, subst, sym}
use Rattle.std.specs.Prelude.{◌↔◌, IsTrue}
use Rattle.table_records.specs.Tables.{file_codec}
use Rattle.volume_inside.specs.Typed.{typed_of}
use Rattle.volume_inside.specs.Rules.{FileHolds, FilesHold}
use Rattle.table_rules.proofs.Eaches.{each_of_pairs, pairs_of_each}
use Rattle.table_rules.proofs.entries.files_hold.Goals as goal

pub returns : goal.returns
returns c =
    let m = c.args.map.now in
    let P = FileHolds c.args.next_id in
    subst (λ (next : ℕ). IsTrue c.each.result ↔ FilesHold next (typed_of m).files) (sym c.requires) (
      λ e. each_of_pairs file_codec P m (c.each.ensures.0 e),
      λ all. c.each.ensures.1 (pairs_of_each file_codec P m all),
    )
