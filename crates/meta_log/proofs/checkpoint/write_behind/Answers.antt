use Rattle.std.proofs.Common.{arith, ◌≡◌, ◌+◌, ◌-◌, ◌*◌, ◌++◌, ℕ, List, length, sym, ap, subst, ◌∙◌}
use Rattle.std.specs.Prelude.{IsTrue}
use Rattle.std.proofs.lemmas.Result.{on_ok_weaker}
use Rattle.byteorder.specs.Endian.{big_bytes}
use Rattle.vdisk.specs.Disk.{ChangedWithin, Holds}
use Rattle.byte_map.specs.Words.{bytes_in}
use Rattle.meta_log.specs.Meta.{digest_of}
use Rattle.meta_log.specs.Checkpoint.{body_text, front_text}
use Rattle.meta_log.specs.Stream.{WritesWithin}
use Rattle.meta_log.proofs.Checkpoints.{length_body}
use Rattle.meta_log.proofs.Streams.{within_wider, within_then}
use Rattle.meta_log.proofs.Halves.{IsGateBehind, gate_from, gate_length, header_length, laid_down}
use Rattle.meta_log.proofs.checkpoint.write_behind.Goals as goal

pub write_body-requires-clause-range : goal.write_body-requires-clause-range
write_body-requires-clause-range g c =
    let left = c.args.half - (45 + c.body_bytes-length.result) in
    let behind = c.closed_gate-behind.result.now in
    let low = gate_length left behind (gate_from left behind c.closed_gate-behind.ensures.none c.closed_gate-behind.ensures.one) in
    omega (arith, low, c.body_bytes-length.ensures.sum, c.requires.fits, c.requires.range)

pub returns-in_err-digest-clause-within : goal.returns-in_err-digest-clause-within
returns-in_err-digest-clause-within g c =
    let left = c.args.half - (45 + c.body_bytes-length.result) in
    let behind = c.closed_gate-behind.result.now in
    let low = gate_length left behind (gate_from left behind c.closed_gate-behind.ensures.none c.closed_gate-behind.ensures.one) in
    let sum = 5 * length c.args.map.now + bytes_in c.args.map.now in
    within_wider (c.args.at + 45) (sum + length behind) (c.args.at + 1) (c.args.half - 1) (g.D.Disk.state c.args.disk.now) (g.D.Disk.state c.write_body.new.disk)
    (omega arith) (omega (arith, low, c.body_bytes-length.ensures.sum, c.requires.fits)) c.write_body.ensures.within

pub returns-clause-written : goal.returns-clause-written
returns-clause-written g c told =
    let at = c.args.at in
    let half = c.args.half in
    let m = c.args.map.now in
    let body = body_text m in
    let r = c.body_bytes-length.result in
    let behind = c.closed_gate-behind.result.now in
    let s₁ = g.D.Disk.state c.write_body.new.disk in
    let s₂ = g.D.Disk.state c.write_synced.new.disk in
    let header = c.put_header.new.scratch.items in
    let front : ℕ → List ℕ = λ k. big_bytes 8 c.args.epoch ++ big_bytes 4 k in
    let gate : IsGateBehind (half - (45 + length body)) behind = subst (λ (k : ℕ). IsGateBehind (half - (45 + k)) behind) c.body_bytes-length.ensures.text (gate_from (half - (45 + r)) behind c.closed_gate-behind.ensures.none c.closed_gate-behind.ensures.one) in
    let is : header ≡ front_text c.args.epoch m ++ digest_of (front_text c.args.epoch m ++ body) =
    c.put_header.ensures.items ∙ ap (λ (q : List ℕ). front r ++ q) c.in_ok-digest.ensures.digest
    ∙ ap (λ (k : ℕ). front k ++ digest_of (front k ++ body)) c.body_bytes-length.ensures.text in
    let change : ChangedWithin (at + 1) (length header) s₁.image s₂.image = subst (λ (b : List ℕ). ChangedWithin (at + 1) (length b) s₁.image s₂.image) c.deref.ensures.value c.write_synced.ensures.image in
    let told₁ = subst (λ b. IsTrue b) (sym c.write_body.ensures.within.torn.tells) told in
    on_ok_weaker c.write_synced.result
    (λ holds. laid_down at half c.args.epoch m behind header s₁ s₂
    (omega (arith, length_body m, c.requires.fits)) (omega (arith, c.requires.range, c.write_body.ensures.within.change.size)) gate (c.in_ok-digest.ensures.text told) is change
    (subst (λ (b : List ℕ). Holds s₁.image (at + 1) b s₂.image) c.deref.ensures.value holds))
    (c.write_synced.ensures.written told₁)

pub returns-clause-within : goal.returns-clause-within
returns-clause-within g c =
    let at = c.args.at in
    let half = c.args.half in
    let m = c.args.map.now in
    let body = body_text m in
    let r = c.body_bytes-length.result in
    let left = half - (45 + r) in
    let behind = c.closed_gate-behind.result.now in
    let low = gate_length left behind (gate_from left behind c.closed_gate-behind.ensures.none c.closed_gate-behind.ensures.one) in
    let sum = 5 * length m + bytes_in m in
    let s = g.D.Disk.state c.args.disk.now in
    let s₁ = g.D.Disk.state c.write_body.new.disk in
    let s₂ = g.D.Disk.state c.write_synced.new.disk in
    let header = c.put_header.new.scratch.items in
    let front : ℕ → List ℕ = λ k. big_bytes 8 c.args.epoch ++ big_bytes 4 k in
    let is : header ≡ front_text c.args.epoch m ++ digest_of (front_text c.args.epoch m ++ body) =
    c.put_header.ensures.items ∙ ap (λ (q : List ℕ). front r ++ q) c.in_ok-digest.ensures.digest
    ∙ ap (λ (k : ℕ). front k ++ digest_of (front k ++ body)) c.body_bytes-length.ensures.text in
    let wrote : WritesWithin (at + 1) (length header) s₁ s₂ = subst (λ (b : List ℕ). WritesWithin (at + 1) (length b) s₁ s₂) c.deref.ensures.value (record { change = c.write_synced.ensures.image; torn = c.write_synced.ensures.torn }) in
    within_then (at + 1) (half - 1) s s₁ s₂
    (within_wider (at + 45) (sum + length behind) (at + 1) (half - 1) s s₁ (omega arith) (omega (arith, low, c.body_bytes-length.ensures.sum, c.requires.fits)) c.write_body.ensures.within)
    (within_wider (at + 1) (length header) (at + 1) (half - 1) s₁ s₂ (omega arith) (omega (arith, ap length is, header_length c.args.epoch m, c.requires.fits)) wrote)
