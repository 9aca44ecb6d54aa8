use Rattle.std.proofs.Common.{◌≡◌, ℕ, sym, ◌∙◌, ap, subst}
use Rattle.std.specs.Prelude.{OnOk}
use Rattle.std.specs.FinMap.Entries.{put}
use Rattle.vdisk.specs.Steps.{Keeps}
use Rattle.byte_map.specs.Words.{Map, bytes_cmp}
use Rattle.meta_log.specs.Ready.{IsCommitImage}
use Rattle.meta_log.specs.Log.{IsLog, state_of, now_of}
use Rattle.meta_log.specs.Client.{SpellsEither}
use Rattle.meta_log.proofs.Clients.{written_keeps, committed_keeps}
use Rattle.meta_log.proofs.client.put_with_data.Goals as goal

pub returns-in_err-write_data-clause-moments : goal.returns-in_err-write_data-clause-moments
returns-in_err-write_data-clause-moments g c m log =
    let s = c.args.log.now in
    let n = put bytes_cmp c.args.key.now c.args.value.now (now_of s) in
    let spells = c.crash_images_spell_the_stored_map.ensures.crash m in
    let told = c.halves_tell_the_map.ensures s.at s.half in
    written_keeps s.at s.half (state_of s) (state_of c.write_data.new.self) m n c.args.at c.args.bytes.now (λ image left. spells image log left) told c.requires.apart c.write_data.ensures.torn

pub returns-in_err-stage_put-clause-moments : goal.returns-in_err-stage_put-clause-moments
returns-in_err-stage_put-clause-moments g c m log =
    let s = c.args.log.now in
    let n = put bytes_cmp c.args.key.now c.args.value.now (now_of s) in
    let spells = c.crash_images_spell_the_stored_map.ensures.crash m in
    let told = c.halves_tell_the_map.ensures s.at s.half in
    subst (λ d. Keeps (state_of s) (g.D.Disk.state d) (SpellsEither s.at s.half m n c.args.at c.args.bytes.now)) (sym c.stage_put.ensures.disk)
    (written_keeps s.at s.half (state_of s) (state_of c.write_data.new.self) m n c.args.at c.args.bytes.now (λ image left. spells image log left) told c.requires.apart c.write_data.ensures.torn)

pub returns-clause-moments : goal.returns-clause-moments
returns-clause-moments g c m log =
    let s = c.args.log.now in
    let n = put bytes_cmp c.args.key.now c.args.value.now (now_of s) in
    let spells = c.crash_images_spell_the_stored_map.ensures.crash m in
    let told = c.halves_tell_the_map.ensures s.at s.half in
    let l₁ = c.write_data.new.self in
    let l₂ = c.stage_put.new.self in
    let l₃ = c.commit.new.self in
    let staged = c.stage_put.ensures.log m (c.write_data.ensures.log m log) in
    let now : now_of l₂ ≡ n = c.in_ok-stage_put.ensures.now ∙ ap (put bytes_cmp c.args.key.now c.args.value.now) c.write_data.ensures.now in
    let at : l₂.at ≡ s.at = c.stage_put.ensures.place.at ∙ c.write_data.ensures.place.at in
    let half : l₂.half ≡ s.half = c.stage_put.ensures.place.half ∙ c.write_data.ensures.place.half in
    let by_at = subst (λ (k : ℕ). Keeps (state_of l₂) (state_of l₃) (IsCommitImage k l₂.half (state_of l₂) (now_of l₂))) at (c.commit.ensures.moments m staged) in
    let by_half = subst (λ (k : ℕ). Keeps (state_of l₂) (state_of l₃) (IsCommitImage s.at k (state_of l₂) (now_of l₂))) half by_at in
    let by_now = subst (λ (q : Map). Keeps (state_of l₂) (state_of l₃) (IsCommitImage s.at s.half (state_of l₂) q)) now by_half in
    let run = subst (λ d. Keeps (g.D.Disk.state d) (state_of l₃) (IsCommitImage s.at s.half (g.D.Disk.state d) n)) c.stage_put.ensures.disk by_now in
    committed_keeps s.at s.half (state_of s) (state_of l₁) m n c.args.at c.args.bytes.now (λ image left. spells image log left) told c.requires.apart c.write_data.ensures.torn
    (c.in_ok-write_data.ensures.written log.stands.told) c.requires.range (state_of l₃) run

pub returns-clause-ok : goal.returns-clause-ok
returns-clause-ok g c m log =
    let s = c.args.log.now in
    let n = put bytes_cmp c.args.key.now c.args.value.now (now_of s) in
    let l₁ = c.write_data.new.self in
    let l₂ = c.stage_put.new.self in
    let l₃ = c.commit.new.self in
    let staged = c.stage_put.ensures.log m (c.write_data.ensures.log m log) in
    let now : now_of l₂ ≡ n = c.in_ok-stage_put.ensures.now ∙ ap (put bytes_cmp c.args.key.now c.args.value.now) c.write_data.ensures.now in
    subst (λ (q : Map). OnOk c.commit.result (IsLog l₃ q)) now (c.commit.ensures.ok m staged)
