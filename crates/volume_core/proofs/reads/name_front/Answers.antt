use Rattle.std.proofs.Common.{◌≡◌, ℕ, inl, inr, length, take, take_all, ap, sym, ◌∙◌, arith}
use Rattle.std.proofs.lemmas.Bool.{cases_lt}
use Rattle.volume_core.proofs.reads.name_front.Goals as goal

pub returns : goal.returns
returns c =
    let name = c.args.name.now in
    elim (cases_lt 255 (length name)) [
      | inl long ↦ ap (λ (k : ℕ). take k name) (let is : c.min.result ≡ 255 = omega (arith, c.min.ensures, long) in is)
      | inr short ↦ take_all c.min.result name (omega (arith, c.min.ensures, short)) ∙ sym (take_all 255 name short)
    ]
