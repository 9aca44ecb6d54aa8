use Rattle.std.proofs.Common.{ℕ, List, None, ◌∙◌, ap, refl, arith}
use Rattle.volume_tables.specs.Tables.{tables_now}
use Rattle.volume_files.proofs.Found.{names_in_order}
use Rattle.byte_map.specs.Words.{bytes_cmp, next_in}
use Rattle.volume_files.specs.Needs.{drop_bytes}
use Rattle.volume_files.proofs.OneName.{one_name_dropped, end_is_next}
use Rattle.volume_tables.proofs.Stagings.{quiet_stages}
use Rattle.volume_files.proofs.deleting.drop_one_name.Goals as goal

pub returns-in-None-clause-tables : goal.returns-in-None-clause-tables
returns-in-None-clause-tables g c =
    let t = c.args.tables.now in
    c.drop_name.ensures.tables
    ∙ ap (λ (es : List (List ℕ × ℕ)). record (tables_now t) { names = es })
    (one_name_dropped c.args.name.now (tables_now t).names (names_in_order t) None c.in-None.ensures.is)

pub returns-in-Some-clause-tables : goal.returns-in-Some-clause-tables
returns-in-Some-clause-tables g c =
    let t = c.args.tables.now in
    c.drop_name-in-Some.ensures.tables
    ∙ ap (λ (es : List (List ℕ × ℕ)). record (tables_now t) { names = es })
    (one_name_dropped c.args.name.now (tables_now t).names (names_in_order t) _ c.in-Some.ensures.is)

pub returns-in-None-clause-stages : goal.returns-in-None-clause-stages
returns-in-None-clause-stages g c =
    let t = c.args.tables.now in
    let name = c.args.name.now in
    let names = (tables_now t).names in
    let drop = c.drop_name.ensures in
    let end = end_is_next None (next_in bytes_cmp name names) c.in-None.ensures.is in
    quiet_stages (drop_bytes names name) t c.drop_name.new.self drop.leaves drop.image drop.running
    (omega (arith, drop.staged, end)) drop.states _ drop.tables refl

pub returns-in-Some-clause-stages : goal.returns-in-Some-clause-stages
returns-in-Some-clause-stages g c =
    let t = c.args.tables.now in
    let name = c.args.name.now in
    let names = (tables_now t).names in
    let drop = c.drop_name-in-Some.ensures in
    let end = end_is_next _ (next_in bytes_cmp name names) c.in-Some.ensures.is in
    quiet_stages (drop_bytes names name) t c.drop_name-in-Some.new.self drop.leaves drop.image drop.running
    (omega (arith, drop.staged, end)) drop.states _ drop.tables refl
