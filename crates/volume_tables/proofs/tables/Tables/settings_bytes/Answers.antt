use Rattle.std.proofs.Common.{sym, ◌∙◌}
use Rattle.volume_tables.proofs.SettingsPut.{size_now}
use Rattle.volume_tables.proofs.tables.Tables.settings_bytes.Goals as goal

pub returns-clause-size : goal.returns-clause-size
returns-clause-size g c = c.size_of.ensures.size ∙ sym (size_now c.args.self.now)
