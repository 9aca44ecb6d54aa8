use Rattle.std.proofs.Common.{ℕ, List, length, ◌∷◌, [], ◌∙◌, ap, arith, refl}
use Rattle.table_records.specs.Tables.{settings_codec}
use Rattle.volume_tables.proofs.SettingsPut.{bytes_whole, bytes_mean, bytes_size}
use Rattle.volume_tables.proofs.StagedPut.{staged_put}
use Rattle.volume_tables.proofs.Staged.{put_handed}
use Rattle.volume_tables.proofs.raw_settings.put_settings.Goals as goal

pub returns : goal.returns
returns g c =
    let s = c.stage_put.ensures in
    let r = c.requires in
    let value = c.args.bytes.now in
    let size = ap (λ (b : List ℕ). length b) r.spelled ∙ bytes_size c.args.settings.now r.spellable in
    staged_put settings_codec tt c.args.settings.now c.args.log.now c.stage_put.new.self
    (9 ∷ []) value c.stage_put.result
    refl (ap settings_codec.is_value r.spelled ∙ bytes_whole c.args.settings.now r.spellable)
    (ap settings_codec.read_value r.spelled ∙ bytes_mean c.args.settings.now r.spellable)
    (omega (arith, size, r.room)) s.full s.table s.in_place s.refused s.now s.staged s.unspent
    (record { log = s.log; disk = s.disk; place = s.place; running = s.stopped }) c.of_log.result c.of_log.ensures

pub of_log-requires : goal.of_log-requires
of_log-requires g c =
    let s = c.stage_put.ensures in
    let r = c.requires in
    let size = ap (λ (b : List ℕ). length b) r.spelled ∙ bytes_size c.args.settings.now r.spellable in
    put_handed c.stage_put.result s.full (omega (arith, size, r.room)) s.refused
