use Rattle.std.proofs.Common.{◌≡◌, ℕ, List, [], ◌∷◌, sym, ◌∙◌, ap, subst, rules}
use Rattle.std.specs.Prelude.{Option, Some, None}
use Rattle.byte_map.specs.Words.{bytes_cmp, next_in}
use Rattle.table_records.specs.Next.{first_typed, start_absent, entry_of, as_entry}
use Rattle.volume_tables.specs.Log.{log_now}
use Rattle.volume_tables.proofs.raw.first.Goals as goal

pub returns-in-None : goal.returns-in-None
returns-in-None g c none keyed =
    let codec = g.T.Table.codec in
    let m = log_now c.args.log.now in
    let number : codec.number ≡ g.T.Table.NUMBER = g.met.T.Table.numbered in
    let found : next_in bytes_cmp (g.T.Table.NUMBER ∷ []) m ≡ None = search rules in
    let here : next_in bytes_cmp (codec.number ∷ []) m ≡ None = subst (λ (n : ℕ). next_in bytes_cmp (n ∷ []) m ≡ None)
    (sym number) found in
    ap (λ (o : Option (List ℕ × List ℕ)). entry_of codec o) (sym here)
    ∙ sym (first_typed codec m (start_absent codec none m keyed.has) keyed.sorted keyed.has)

pub returns-in-None-read_key : goal.returns-in-None-read_key
returns-in-None-read_key g c none keyed =
    let codec = g.T.Table.codec in
    let m = log_now c.args.log.now in
    let number : codec.number ≡ g.T.Table.NUMBER = g.met.T.Table.numbered in
    let pair : Option (List ℕ × List ℕ) = Some (c.in-Some.key.now, c.in-Some.value.now) in
    let found : next_in bytes_cmp (g.T.Table.NUMBER ∷ []) m ≡ pair = search rules in
    let here : next_in bytes_cmp (codec.number ∷ []) m ≡ pair = subst (λ (n : ℕ). next_in bytes_cmp (n ∷ []) m ≡ pair)
    (sym number) found in
    let key : codec.read_key c.in-Some.key.now ≡ None = search rules in
    ap (λ (o : Option g.row.T-Key.Denot). as_entry codec o c.in-Some.value.now) (sym key)
    ∙ ap (λ (o : Option (List ℕ × List ℕ)). entry_of codec o) (sym here)
    ∙ sym (first_typed codec m (start_absent codec none m keyed.has) keyed.sorted keyed.has)

pub returns-in-Some-read_key : goal.returns-in-Some-read_key
returns-in-Some-read_key g c none keyed =
    let codec = g.T.Table.codec in
    let m = log_now c.args.log.now in
    let number : codec.number ≡ g.T.Table.NUMBER = g.met.T.Table.numbered in
    let pair : Option (List ℕ × List ℕ) = Some (c.in-Some.key.now, c.in-Some.value.now) in
    let found : next_in bytes_cmp (g.T.Table.NUMBER ∷ []) m ≡ pair = search rules in
    let here : next_in bytes_cmp (codec.number ∷ []) m ≡ pair = subst (λ (n : ℕ). next_in bytes_cmp (n ∷ []) m ≡ pair)
    (sym number) found in
    let key : codec.read_key c.in-Some.key.now ≡ Some c.in-Some-read_key.key = search rules in
    ap (λ (v : g.row.T-Value.Denot). Some (c.in-Some-read_key.key, v)) c.read_value.ensures
    ∙ ap (λ (o : Option g.row.T-Key.Denot). as_entry codec o c.in-Some.value.now) (sym key)
    ∙ ap (λ (o : Option (List ℕ × List ℕ)). entry_of codec o) (sym here)
    ∙ sym (first_typed codec m (start_absent codec none m keyed.has) keyed.sorted keyed.has)
