-- Two lists that undo each other still do after an exchange in both.
use Rattle.std.proofs.Common.{◌≡◌, ◌≢◌, ◌∙◌, ℕ, ◌<◌, inl, inr, List, length, get_or, set, sym, ap, subst}
use Rattle.std.proofs.lemmas.List.{length-set, get_or-set_same, get_or-set_other}
use Rattle.std.proofs.lemmas.Bool.{cases_eq}
use Rattle.cluster_space.specs.Places.{IsInverse}

pub twice_at : (xs : List ℕ) (i j x y : ℕ) → j < length xs → get_or (set (set xs i x) j y) j 0 ≡ y
twice_at xs i j x y h = get_or-set_same (set xs i x) j y 0 (rw (length-set xs i x) h)

pub twice_first : (xs : List ℕ) (i j x y : ℕ) → i ≢ j → i < length xs → get_or (set (set xs i x) j y) i 0 ≡ x
twice_first xs i j x y ne h = get_or-set_other (set xs i x) j i y 0 ne ∙ get_or-set_same xs i x 0 h

pub twice_other : (xs : List ℕ) (i j x y k : ℕ) → k ≢ i → k ≢ j → get_or (set (set xs i x) j y) k 0 ≡ get_or xs k 0
twice_other xs i j x y k ni nj =
    get_or-set_other (set xs i x) j k y 0 nj ∙ get_or-set_other xs i k x 0 ni

pub length_twice : (xs : List ℕ) (i j x y : ℕ) → length (set (set xs i x) j y) ≡ length xs
length_twice xs i j x y = length-set (set xs i x) j y ∙ length-set xs i x

shown : (ys : List ℕ) (n v w p : ℕ) → v ≡ w → w < n → get_or ys w 0 ≡ p → (v < n) × (get_or ys v 0 ≡ p)
shown ys n v w p e lt at = rw e (lt, at)

-- one list still undoes the other
half : (xs ys : List ℕ) (i j x y : ℕ) → i < length xs → j < length xs → x < length ys → y < length ys → get_or xs i 0 ≡ y → get_or xs j 0 ≡ x → ((p : ℕ) → p < length xs → get_or xs p 0 < length ys) → ((p : ℕ) → p < length xs → get_or ys (get_or xs p 0) 0 ≡ p) → (p : ℕ) → p < length xs → (get_or (set (set xs i x) j y) p 0 < length ys) × (get_or (set (set ys x i) y j) (get_or (set (set xs i x) j y) p 0) 0 ≡ p)
half xs ys i j x y ix jx xy yy at_i at_j within back p h =
    let bi : get_or ys y 0 ≡ i = ap (λ k. get_or ys k 0) (sym at_i) ∙ back i ix in
    let bj : get_or ys x 0 ≡ j = ap (λ k. get_or ys k 0) (sym at_j) ∙ back j jx in
    elim (cases_eq p j) [
      | inl e ↦
          shown (set (set ys x i) y j) (length ys) _ y p
          (ap (λ k. get_or (set (set xs i x) j y) k 0) e ∙ twice_at xs i j x y jx)
          yy (twice_at ys x y i j yy ∙ sym e)
      | inr nj ↦
          elim (cases_eq p i) [
            | inl e ↦
                let ne : i ≢ j = λ q. nj (e ∙ q) in
                let nxy : x ≢ y = λ q. ne (sym bi ∙ (ap (λ k. get_or ys k 0) (sym q) ∙ bj)) in
                shown (set (set ys x i) y j) (length ys) _ x p
                (ap (λ k. get_or (set (set xs i x) j y) k 0) e ∙ twice_first xs i j x y ne ix)
                xy (twice_first ys x y i j nxy xy ∙ sym e)
            | inr ni ↦
                let nx : get_or xs p 0 ≢ x = λ q. nj (sym (back p h) ∙ (ap (λ k. get_or ys k 0) q ∙ bj)) in
                let ny : get_or xs p 0 ≢ y = λ q. ni (sym (back p h) ∙ (ap (λ k. get_or ys k 0) q ∙ bi)) in
                shown (set (set ys x i) y j) (length ys) _ (get_or xs p 0) p
                (twice_other xs i j x y p ni nj)
                (within p h) (twice_other ys x y i j (get_or xs p 0) nx ny ∙ back p h)
          ]
    ]

pub exchange_keeps : (order place : List ℕ) (a b pa pb : ℕ) → a < length place → b < length place → pa ≡ get_or place a 0 → pb ≡ get_or place b 0 → IsInverse order place → IsInverse (set (set order pb a) pa b) (set (set place a pb) b pa)
exchange_keeps order place a b pa pb ap_ bp ea eb inv =
    let n = length_twice order pb pa a b in
    let m = length_twice place a b pb pa in
    let wa : pa < length order = rw ea (inv.place_within a ap_) in
    let wb : pb < length order = rw eb (inv.place_within b bp) in
    let oa : get_or order pa 0 ≡ a = rw ea (inv.cluster_of_place a ap_) in
    let ob : get_or order pb 0 ≡ b = rw eb (inv.cluster_of_place b bp) in
    let one = half order place pb pa a b wb wa ap_ bp ob oa inv.cluster_within inv.place_of_cluster in
    let two = half place order a b pb pa ap_ bp wb wa (sym ea) (sym eb) inv.place_within inv.cluster_of_place in
    record {
      whole = n ∙ (inv.whole ∙ sym m);
      cluster_within = λ p h. rw m ((one p (subst (λ k. p < k) n h)).0);
      place_of_cluster = λ p h. (one p (subst (λ k. p < k) n h)).1;
      place_within = λ c h. rw n ((two c (subst (λ k. c < k) m h)).0);
      cluster_of_place = λ c h. (two c (subst (λ k. c < k) m h)).1;
    }
