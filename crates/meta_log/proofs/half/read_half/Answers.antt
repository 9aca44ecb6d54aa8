use Rattle.std.proofs.Common.{◌≡◌, ap, Err}
use Rattle.meta_log.specs.declared.records.Unread.TheVariants.{Damaged}
use Rattle.meta_log.proofs.ReadHalves.{read_start}
use Rattle.meta_log.proofs.half.read_half.Goals as goal

pub returns-in-Ok-clause-ok : goal.returns-in-Ok-clause-ok
returns-in-Ok-clause-ok c =
    let kept = c.in_ok-map.ensures in
    let so = read_start c.args.half.now c.in-Some.length c.in-Some.ensures.some c.piece.result.now c.piece.ensures c.in_ok-map.map kept.ok kept.spellable kept.fits in
    c.in-Ok.ensures.ok so

pub returns-in-Ok-clause-fits : goal.returns-in-Ok-clause-fits
returns-in-Ok-clause-fits c =
    let kept = c.in_ok-map.ensures in
    let so = read_start c.args.half.now c.in-Some.length c.in-Some.ensures.some c.piece.result.now c.piece.ensures c.in_ok-map.map kept.ok kept.spellable kept.fits in
    c.in-Ok.ensures.fits so

pub returns-in-Ok-clause-spellable : goal.returns-in-Ok-clause-spellable
returns-in-Ok-clause-spellable c =
    let kept = c.in_ok-map.ensures in
    let so = read_start c.args.half.now c.in-Some.length c.in-Some.ensures.some c.piece.result.now c.piece.ensures c.in_ok-map.map kept.ok kept.spellable kept.fits in
    c.in-Ok.ensures.spellable so

pub returns-in-Err-clause-damaged : goal.returns-in-Err-clause-damaged
returns-in-Err-clause-damaged c is =
    let kept = c.in_ok-map.ensures in
    let so = read_start c.args.half.now c.in-Some.length c.in-Some.ensures.some c.piece.result.now c.piece.ensures c.in_ok-map.map kept.ok kept.spellable kept.fits in
    let bad : c.in-Err.unread ≡ Damaged = cc in
    c.in-Err.ensures.damaged so (ap Err bad)
