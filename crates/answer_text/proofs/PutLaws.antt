-- Writes in a row.
use Rattle.std.proofs.Common.{◌≡◌, ◌+◌, ℕ, List, [], ◌++◌, take, drop, Option, Some, None, Ok, Err, refl, sym, ◌∙◌, ap, append_assoc, append-nil}
use Rattle.std.proofs.Math.Seq.{take-add}
use Rattle.std.proofs.lemmas.List.{take-append-drop}
use Rattle.std.specs.Option.{option_map}
use Rattle.vdisk.specs.declared.disk.Failed.{Failed}
use Rattle.vdisk.specs.Streams.{Puts}
use Rattle.answer_text.specs.Told.{IsPut, IsPutInPart}

pub put_none : (before : Option (List ℕ)) → IsPut before [] before
put_none None = refl
put_none (Some held) = ap Some (sym (append-nil held))

pub put_then : (a b c : Option (List ℕ)) (x y : List ℕ) → IsPut a x b → IsPut b y c → IsPut a (x ++ y) c
put_then None b c x y first second = second ∙ ap (option_map (λ held. held ++ y)) first
put_then (Some held) b c x y first second = second ∙ (ap (option_map (λ h. h ++ y)) first ∙ ap Some (append_assoc held x y))

pub put_one : (a b : Option (List ℕ)) (n : ℕ) (bytes : List ℕ) → Puts a b (Ok n) bytes → IsPut a (take n bytes) b
put_one None b n bytes h = h
put_one (Some held) b n bytes h = h

pub put_failed : (a b : Option (List ℕ)) (e : Failed) (bytes : List ℕ) → Puts a b (Err e) bytes → b ≡ a
put_failed None b e bytes h = h
put_failed (Some held) b e bytes h = h

pub put_more : (a b c : Option (List ℕ)) (text : List ℕ) (done n : ℕ) (piece : List ℕ) → piece ≡ drop done text → IsPut a (take done text) b → Puts b c (Ok n) piece → IsPut a (take (done + n) text) c
put_more a b c text done n piece is first second =
    rw (take-add done n text, ← is) (put_then a b c (take done text) (take n piece) first (put_one b c n piece second))

pub put_part : (a b c : Option (List ℕ)) (text : List ℕ) (done : ℕ) (e : Failed) (piece : List ℕ) → piece ≡ drop done text → IsPut a (take done text) b → Puts b c (Err e) piece → IsPutInPart a text c
put_part a b c text done e piece is first second =
    record { part = take done text; more = drop done text; front = sym (take-append-drop done text); put = put_failed b c e piece second ∙ first }
