use Rattle.std.proofs.Common.{◌≡◌, ℕ, sym, ◌∙◌, length}
use Rattle.table_records.specs.Tables.{file_codec}
use Rattle.volume_inside.specs.Entries.{each_weaker}
use Rattle.volume_inside.specs.Typed.{typed_of}
use Rattle.volume_inside.specs.Rules.{IsNamedOnce, names_of}
use Rattle.table_rules.specs.Ids.{IsOnceIn, ids_of, times}
use Rattle.table_rules.proofs.Eaches.{each_of_pairs, pairs_of_each}
use Rattle.table_rules.proofs.Times.{times_named, times_permuted}
use Rattle.table_rules.proofs.named.files_are_named_once.Goals as goal

pub returns : goal.returns
returns c =
    let m = c.args.map.now in
    let t = typed_of m in
    let ids = c.args.ids.now in
    let same : (id : ℕ) → length (names_of id t.names) ≡ times id ids =
    λ id. times_named id t.names ∙ sym (times_permuted id (ids_of t.names) ids c.requires.same) in (
      λ e. each_weaker (IsOnceIn ids) (IsNamedOnce t.names) t.files (λ id file once. same id ∙ once) (each_of_pairs file_codec (IsOnceIn ids) m (c.each.ensures.0 e)),
      λ all. c.each.ensures.1 (pairs_of_each file_codec (IsOnceIn ids) m (each_weaker (IsNamedOnce t.names) (IsOnceIn ids) t.files (λ id file once. sym (same id) ∙ once) all)),
    )
