use Rattle.std.proofs.Common.{ℕ, List, Some, None, Ok, ap, ◌∙◌, sym, subst}
use Rattle.std.specs.Option.{option_map}
use Rattle.volume_tables.specs.Tables.{view_now}
use Rattle.volume_tables.specs.declared.tables.Tables.{Tables}
use Rattle.volume_tables.specs.Sound.{IsSound}
use Rattle.plain_volume.specs.declared.call.Call.TheVariants.{Next}
use Rattle.volume_core.specs.Replies.{name_reply}
use Rattle.volume_core.specs.Volumes.{tables_of}
use Rattle.volume_core.proofs.Lent.{lent_own}
use Rattle.volume_core.proofs.Listed.{name_told, name_replied, front_of}
use Rattle.volume_core.proofs.volume.Volume.next_name.Goals as goal

pub returns-in_ok-of-in-Some : goal.returns-in_ok-of-in-Some
returns-in_ok-of-in-Some g c =
    let t = tables_of c.args.self.now in
    let a = c.tables_in.result.now in
    let sound = subst (λ (x : Tables g.row.D.Denot g.D.Disk). IsSound x) (sym c.tables_in.ensures) c.args.self.now.sound in
    let after = option_map (λ name. name.now) c.args.after in
    let shorter = option_map (λ name. name.now) c.shortened.result in
    lent_own t a c.tables_in.ensures (Next after) (name_reply (Ok (Some c.in_ok-of-in-Some.field-0)))
    (name_replied (view_now a) after (Some c.in_ok-of-in-Some.field-0)
    (name_told a sound after shorter (Some (c.in-Some.name.now, c.in-Some._file))
    (c.shortened.ensures.is ∙ front_of c.args.after) c.in-Some.ensures
    ∙ ap (λ (name : List ℕ). Some name) (sym c.in_ok-of-in-Some.ensures)))

pub returns-in-None : goal.returns-in-None
returns-in-None g c =
    let t = tables_of c.args.self.now in
    let a = c.tables_in.result.now in
    let sound = subst (λ (x : Tables g.row.D.Denot g.D.Disk). IsSound x) (sym c.tables_in.ensures) c.args.self.now.sound in
    let after = option_map (λ name. name.now) c.args.after in
    let shorter = option_map (λ name. name.now) c.shortened.result in
    lent_own t a c.tables_in.ensures (Next after) (name_reply (Ok None))
    (name_replied (view_now a) after None
    (name_told a sound after shorter None (c.shortened.ensures.is ∙ front_of c.args.after)
    c.in-None.ensures))
