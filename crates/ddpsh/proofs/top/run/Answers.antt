use Rattle.std.proofs.Common.{⊎_elim}
use Rattle.ddpsh.proofs.CommandLaws.{asks_one}
use Rattle.ddpsh.proofs.CompleteLaws.{complete_by, not_refused}
use Rattle.ddpsh.proofs.TopLaws.{run_lent, refused_lent, rose_lent}
use Rattle.ddpsh.proofs.ClockLaws.{often_none}
use Rattle.ddpsh.proofs.top.run.Goals as goal

pub returns-in-Some-clause-run : goal.returns-in-Some-clause-run
returns-in-Some-clause-run g c command asks tells s told =
    run_lent g.D.Disk.state c.in-Some.command command _ c.disk-1.given.0 c.run_over-back.result.0.now s _ _ _ _ _ (asks_one c.args.words.now c.in-Some.command command c.in-Some.ensures.some asks)
    (c.disk-1.given.1 c.run_over-back.ensures.same) (c.run_over-back.ensures.run tells s told)

pub returns-in-Some-clause-refused : goal.returns-in-Some-clause-refused
returns-in-Some-clause-refused g c command asks status =
    refused_lent g.D.Disk.state c.in-Some.command command _ c.disk-1.given.0 c.run_over-back.result.0.now (asks_one c.args.words.now c.in-Some.command command c.in-Some.ensures.some asks)
    (c.disk-1.given.1 c.run_over-back.ensures.same) (c.run_over-back.ensures.refused status)

pub returns-in-Some-clause-device : goal.returns-in-Some-clause-device
returns-in-Some-clause-device g c status = rose_lent g.D.Disk.state _ c.disk-1.given.0 c.run_over-back.result.0.now _ (c.disk-1.given.1 c.run_over-back.ensures.same) (c.run_over-back.ensures.device status)

pub returns-in-Some-clause-complete : goal.returns-in-Some-clause-complete
returns-in-Some-clause-complete g c command asks can disk_held clock_held sink_held source_held s told =
    let run = c.run_over-back.ensures in
    let lent = c.disk-1.given.1 run.same in
    let same = asks_one c.args.words.now c.in-Some.command command c.in-Some.ensures.some asks in
    complete_by run.ended.end run.ended.refused c.run_over-back.result.1.status s run.ended.status
    (λ three. ⊎_elim disk_held clock_held
    (rose_lent g.D.Disk.state _ c.disk-1.given.0 c.run_over-back.result.0.now _ lent (run.device three)))
    (λ five.
    let is = refused_lent g.D.Disk.state c.in-Some.command command _ c.disk-1.given.0
    c.run_over-back.result.0.now same lent (run.refused five) in
    not_refused c.an_image_has_one_inside.ensures command _ _ is.0 can is.1 is.2)
    (λ six. sink_held (run.sink six))
    (λ seven. ⊎_elim (λ rose. absurd (source_held rose)) (λ long. long.1 s told) (run.source seven))

pub returns-in-None-clause-clock : goal.returns-in-None-clause-clock
returns-in-None-clause-clock g c tells s told = often_none _ _ _ c.early.ensures.no_line
