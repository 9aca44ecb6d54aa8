use Rattle.std.proofs.Common.{◌≡◌, ◌<◌, ◌+◌, ◌-◌, ℕ, List, length, sym, ◌∙◌, ap, subst, arith, rules}
use Rattle.std.specs.Prelude.{take, drop}
use Rattle.std.specs.FinMap.{find}
use Rattle.cluster_space.specs.declared.state.State.TheVariants.{Free}
use Rattle.table_records.specs.Keys.{pair_cmp}
use Rattle.volume_inside.specs.ChunkTables.{PageKey}
use Rattle.volume_inside.specs.Inside.{inside_at}
use Rattle.volume_inside.specs.Pages.{pages_of}
use Rattle.volume_inside.specs.Typed.{Typed}
use Rattle.volume_tables.specs.Tables.{tables_now, states_of, disk_of}
use Rattle.volume_tables.proofs.Leaving.{leaves_then}
use Rattle.chunk_container.specs.Pages.{HavePages, AreAhead, without_first}
use Rattle.chunk_container.proofs.PageBytes.{behind_is, behind_long}
use Rattle.chunk_container.proofs.PagesPut.{first_free, state_still, named_there, pages_then}
use Rattle.chunk_container.proofs.PagesSet.{now_set, one_less, run_left, staged_set, bare_set, grows_set, fits_set}
use Rattle.chunk_container.proofs.PagesSet.{frame_all, have_all, loses_all}
use Rattle.chunk_container.proofs.PageStates.{pages_sorted}
use Rattle.chunk_container.proofs.pages.+put_pages.Goals as goal

pub set_cluster-requires-clause-new : goal.set_cluster-requires-clause-new
set_cluster-requires-clause-new g t c =
    let k : PageKey = (c.args.key.0, c.args.key.1) in
    ap (λ (q : Typed). find pair_cmp k q.chunks.clusters) c.write_ahead.ensures.writes.now
    ∙ c.requires.bare c.args.key.1 (omega arith)

pub set_cluster-requires-clause-free : goal.set_cluster-requires-clause-free
set_cluster-requires-clause-free g t c =
    let a = c.args.tables.now in
    let w = c.write_ahead.ensures.writes in
    let ready = c.in_ok-ready.ready in
    state_still a.clusters c.write_ahead.new.tables.clusters ready.first Free (states_of a)
    (states_of c.write_ahead.new.tables) w.leaves.clusters w.states
    (first_free a.clusters (states_of a) ready c.in_ok-ready.ensures.some c.in_ok-ready.ensures.free)

pub returns-in_err-set_cluster-clause-leaves : goal.returns-in_err-set_cluster-clause-leaves
returns-in_err-set_cluster-clause-leaves g t c =
    leaves_then g.met.D.Disk.same_next c.args.tables.now c.write_ahead.new.tables c.set_cluster.new.self
    c.write_ahead.ensures.writes.leaves c.set_cluster.ensures.leaves

pub put_pages-requires : goal.put_pages-requires
put_pages-requires g t c κs within =
    let a = c.args.tables.now in
    let m = c.write_ahead.new.tables in
    let u = c.set_cluster.new.self in
    let k : PageKey = (c.args.key.0, c.args.key.1) in
    let ready = c.in_ok-ready.ready in
    let some_run = c.in_ok-ready.ensures.some in
    let run_free = c.in_ok-ready.ensures.free in
    let w = c.in_ok-ready.ensures.writes in
    let s = c.in_ok-set_cluster.ensures in
    let bytes = c.args.bytes.now in
    let none = c.requires.bare c.args.key.1 (omega arith) in
    let some : 0 < length bytes = search rules in
    let long : length (take (length bytes - c.min.result) (drop c.min.result bytes)) ≡ length bytes - 4096 =
    behind_long bytes c.min.result c.min.ensures in
    let fewer : pages_of (length (take (length bytes - c.min.result) (drop c.min.result bytes))) + 1
    ≡ pages_of (length bytes) = omega (arith, long, some) in
    let free = one_less a m u k ready w s some_run run_free none in
    let staged = staged_set a m u k ready w s some_run run_free none in (
      omega (arith, long, some, fewer),
      (
        within,
        (
          s.set.running ∙ w.runs,
          (
            omega (arith, long, c.requires.short),
            (
              omega (arith, fewer, c.requires.low),
              (
                bare_set a m u k ready w s some_run run_free none c.requires.bare,
                (
                  grows_set a m u k ready w s some_run run_free none c.args.container.used c.requires.grows,
                  (
                    omega (arith, fewer, free, c.requires.clusters),
                    (
                      omega (arith, fewer, staged, c.requires.room),
                      (
                        fits_set a m u k ready w s some_run run_free none (pages_of (length bytes))
                            (pages_of (length (take (length bytes - c.min.result) (drop c.min.result bytes)))) fewer
                            c.requires.fits,
                        (
                          run_left a m u k ready w s some_run run_free none,
                          (let filled = c.in_ok-ready.ensures.filled in omega (arith, long, filled)),
                        ),
                      ),
                    ),
                  ),
                ),
              ),
            ),
          ),
        ),
      ),
    )

pub take_back-requires-clause-there : goal.take_back-requires-clause-there
take_back-requires-clause-there g t c =
    named_there (c.args.key.0, c.args.key.1) c.in_ok-ready.ready.first (tables_now c.write_ahead.new.tables)
    (tables_now c.put_pages.new.tables) (c.in-Err.ensures.err ∙ c.in_ok-set_cluster.ensures.ok)

pub returns-in-Ok-clause-ok : goal.returns-in-Ok-clause-ok
returns-in-Ok-clause-ok g t c =
    let a = c.args.tables.now in
    let k : PageKey = (c.args.key.0, c.args.key.1) in
    let ready = c.in_ok-ready.ready in
    let bytes = c.args.bytes.now in
    let some : 0 < length bytes = search rules in
    let long = behind_long bytes c.min.result c.min.ensures in
    let now = now_set a c.write_ahead.new.tables c.set_cluster.new.self k ready c.in_ok-ready.ensures.writes
    c.in_ok-set_cluster.ensures c.in_ok-ready.ensures.some c.in_ok-ready.ensures.free
    (c.requires.bare c.args.key.1 (omega arith)) in
    pages_then k (pages_of (length (take (length bytes - c.min.result) (drop c.min.result bytes)))) c.args.container
    (tables_now a) (tables_now c.put_pages.new.tables) ready.first (tables_now c.set_cluster.new.self)
    (pages_of (length bytes)) now (omega (arith, long, some)) c.in-Ok.ensures.ok

pub returns-in-Ok-clause-have : goal.returns-in-Ok-clause-have
returns-in-Ok-clause-have g t c stored is ahead =
    let a = c.args.tables.now in
    let m = c.write_ahead.new.tables in
    let u = c.set_cluster.new.self in
    let v = c.put_pages.new.tables in
    let k : PageKey = (c.args.key.0, c.args.key.1) in
    let ready = c.in_ok-ready.ready in
    let bytes = c.args.bytes.now in
    let w = c.in_ok-ready.ensures.writes in
    let s = c.in_ok-set_cluster.ensures in
    let same = behind_is bytes c.min.result c.min.ensures in
    let none = c.requires.bare c.args.key.1 (omega arith) in
    let ready_now : AreAhead (drop 4096 bytes) (without_first ready) (disk_of u).image =
    subst (λ (image : List ℕ). AreAhead (drop 4096 bytes) (without_first ready) image) (sym s.set.image)
    (c.in_ok-ready.ensures.ahead stored is ahead) in
    let rest = c.in-Ok.ensures.have stored (s.leaves.tables stored (w.leaves.tables stored is))
    (subst (λ (xs : List ℕ). AreAhead xs (without_first ready) (disk_of u).image) (sym same) ready_now) in
    have_all a m u k ready w s c.in_ok-ready.ensures.some c.in_ok-ready.ensures.free none c.write_ahead.ensures.frame v
    c.in-Ok.ensures.fewer c.in-Ok.ensures.frame bytes _ c.args.container c.in-Ok.ensures.ok
    (c.in_ok-ready.ensures.front stored is ahead)
    (subst (λ (xs : List ℕ). HavePages (k.0, k.1 + 1) xs (tables_now v).chunks.clusters (disk_of v).image) same rest)

pub returns-in-Ok-clause-frame : goal.returns-in-Ok-clause-frame
returns-in-Ok-clause-frame g t c =
    frame_all c.args.tables.now c.write_ahead.new.tables c.set_cluster.new.self (c.args.key.0, c.args.key.1)
    c.in_ok-ready.ready c.in_ok-ready.ensures.writes c.in_ok-set_cluster.ensures c.in_ok-ready.ensures.some
    c.in_ok-ready.ensures.free (c.requires.bare c.args.key.1 (omega arith)) c.write_ahead.ensures.frame
    c.put_pages.new.tables c.in-Ok.ensures.fewer c.in-Ok.ensures.frame

pub returns-in-Ok-clause-leaves : goal.returns-in-Ok-clause-leaves
returns-in-Ok-clause-leaves g t c =
    let a = c.args.tables.now in
    let next = g.met.D.Disk.same_next in
    let first = leaves_then next a c.write_ahead.new.tables c.set_cluster.new.self c.write_ahead.ensures.writes.leaves
    c.set_cluster.ensures.leaves in
    leaves_then next a c.set_cluster.new.self c.put_pages.new.tables first c.put_pages.ensures.leaves

pub returns-in-Ok-clause-loses_none : goal.returns-in-Ok-clause-loses_none
returns-in-Ok-clause-loses_none g t c =
    loses_all c.args.tables.now c.write_ahead.new.tables c.set_cluster.new.self (c.args.key.0, c.args.key.1)
    c.in_ok-ready.ready c.in_ok-ready.ensures.writes c.in_ok-set_cluster.ensures c.in_ok-ready.ensures.some
    c.in_ok-ready.ensures.free (c.requires.bare c.args.key.1 (omega arith)) c.write_ahead.ensures.frame
    c.put_pages.new.tables c.in-Ok.ensures.fewer c.in-Ok.ensures.frame c.in-Ok.ensures.loses_none

pub returns-in-Ok-clause-taken : goal.returns-in-Ok-clause-taken
returns-in-Ok-clause-taken g t c =
    let bytes = c.args.bytes.now in
    let some : 0 < length bytes = search rules in
    let long = behind_long bytes c.min.result c.min.ensures in
    let one = one_less c.args.tables.now c.write_ahead.new.tables c.set_cluster.new.self (c.args.key.0, c.args.key.1)
    c.in_ok-ready.ready c.in_ok-ready.ensures.writes c.in_ok-set_cluster.ensures c.in_ok-ready.ensures.some
    c.in_ok-ready.ensures.free (c.requires.bare c.args.key.1 (omega arith)) in
    omega (arith, one, long, some, c.in-Ok.ensures.taken)

pub returns-in-Err-clause-err : goal.returns-in-Err-clause-err
returns-in-Err-clause-err g t c =
    let a = c.args.tables.now in
    let k : PageKey = (c.args.key.0, c.args.key.1) in
    let none = c.requires.bare c.args.key.1 (omega arith) in
    let now = now_set a c.write_ahead.new.tables c.set_cluster.new.self k c.in_ok-ready.ready c.in_ok-ready.ensures.writes
    c.in_ok-set_cluster.ensures c.in_ok-ready.ensures.some c.in_ok-ready.ensures.free none in
    c.take_back.ensures.tables (tables_now a) c.in_ok-ready.ready.first (pages_sorted a) none (c.in-Err.ensures.err ∙ now)

pub returns-in-Err-clause-frame : goal.returns-in-Err-clause-frame
returns-in-Err-clause-frame g t c q names =
    ap (λ (image : List ℕ). inside_at q image) c.take_back.ensures.image
    ∙ frame_all c.args.tables.now c.write_ahead.new.tables c.set_cluster.new.self (c.args.key.0, c.args.key.1)
    c.in_ok-ready.ready c.in_ok-ready.ensures.writes c.in_ok-set_cluster.ensures c.in_ok-ready.ensures.some
    c.in_ok-ready.ensures.free (c.requires.bare c.args.key.1 (omega arith)) c.write_ahead.ensures.frame
    c.put_pages.new.tables c.in-Err.ensures.fewer c.in-Err.ensures.frame q names

pub returns-in-Err-clause-leaves : goal.returns-in-Err-clause-leaves
returns-in-Err-clause-leaves g t c =
    let a = c.args.tables.now in
    let next = g.met.D.Disk.same_next in
    let first = leaves_then next a c.write_ahead.new.tables c.set_cluster.new.self c.write_ahead.ensures.writes.leaves
    c.set_cluster.ensures.leaves in
    leaves_then next a c.put_pages.new.tables c.take_back.new.tables
    (leaves_then next a c.set_cluster.new.self c.put_pages.new.tables first c.put_pages.ensures.leaves)
    c.take_back.ensures.leaves

pub returns-in-Err-clause-loses_none : goal.returns-in-Err-clause-loses_none
returns-in-Err-clause-loses_none g t c runs =
    c.take_back.ensures.loses_none runs
    ∙ loses_all c.args.tables.now c.write_ahead.new.tables c.set_cluster.new.self (c.args.key.0, c.args.key.1)
    c.in_ok-ready.ready c.in_ok-ready.ensures.writes c.in_ok-set_cluster.ensures c.in_ok-ready.ensures.some
    c.in_ok-ready.ensures.free (c.requires.bare c.args.key.1 (omega arith)) c.write_ahead.ensures.frame
    c.put_pages.new.tables c.in-Err.ensures.fewer c.in-Err.ensures.frame c.in-Err.ensures.loses_none
    (sym c.take_back.ensures.running ∙ runs)
