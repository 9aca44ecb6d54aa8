-- An image has one inside, or one reason why it has none.
use Rattle.std.specs.Prelude.{◌≡◌, ◌≢◌, ◌⊎◌, ◌*◌, ◌^◌, ◌<◌, ℕ, List, [], ◌∷◌, length, Option, Some, Result, Ok, Err, IsSomeAnd, refl}
use Rattle.std.proofs.Common.{sym, ◌∙◌, ap, subst, inl, inr, arith}
use Rattle.std.specs.Option.{option_map}
use Rattle.std.specs.FinMap.{find}
use Rattle.std.proofs.lemmas.List.{append-nil}
use Rattle.byteorder.specs.Endian.{big_bytes, big_number}
use Rattle.byteorder.specs.Numbers.{big_number-reads_back}
use Rattle.byte_map.specs.Words.{Map}
use Rattle.table_records.specs.Keys.{single_cmp}
use Rattle.table_records.specs.Tables.{volume_codec}
use Rattle.table_records.specs.Values.{volume_in}
use Rattle.table_records.specs.Laws.{find_typed}
use Rattle.table_records.specs.declared.records.VolumeRecord.{VolumeRecord}
use Rattle.volume_inside.specs.declared.mount_fault.MountFault.{MountFault}
use Rattle.volume_inside.specs.declared.mount_fault.MountFault.TheVariants.{NotVolume, SizeDiffers, MetaDamaged, VersionUnknown, BadTable, Failed, Memory}
use Rattle.volume_inside.specs.Typed.{typed_of}
use Rattle.volume_inside.specs.Inside.{Inside, inside_at}
use Rattle.volume_inside.specs.Superblock.{HasSuperblock}
use Rattle.volume_inside.specs.ChunkRules.{MapsHold}
use Rattle.volume_inside.specs.Rules.{IsVolumeRecord, IsVolume, Broken, IsLeastBrokenOfTables, IsLeastBroken}
use Rattle.volume_inside.specs.InsideOf.{Reading, HasVersion, InsideOf}

-- ---- one number of clusters

pub superblock_once : (n k : ℕ) (image : List ℕ) → HasSuperblock n image → HasSuperblock k image → n ≡ k
superblock_once n k image one two =
    sym (read n (omega (arith, one.is.most)))
    ∙ ap (λ (b : List ℕ). big_number 4 b) (sym one.is.count ∙ two.is.count)
    ∙ read k (omega (arith, two.is.most))
  where
    read : (x : ℕ) → x < 256 ^ 4 → big_number 4 (big_bytes 4 x) ≡ x
    read x fits = ap (λ (b : List ℕ). big_number 4 b) (sym (append-nil (big_bytes 4 x))) ∙ big_number-reads_back 4 x [] fits

-- ---- one least rule

broken_once : (j k number : ℕ) (rule one two : Type 0) → (one → two → j ≡ k) → Broken j number rule one → Broken k number rule two → j ≡ k
broken_once j k number rule one two later (inl (p, fails)) (inl (q, never)) = p ∙ sym q
broken_once j k number rule one two later (inl (p, fails)) (inr (holds, b)) = absurd (fails holds)
broken_once j k number rule one two later (inr (holds, a)) (inl (q, never)) = absurd (never holds)
broken_once j k number rule one two later (inr (holds, a)) (inr (too, b)) = later a b

pub least_once : (n : ℕ) (m : Map) (image : List ℕ) (j k : ℕ) → IsLeastBroken n m image j → IsLeastBroken n m image k
    → j ≡ k
least_once n m image j k =
    broken_once j k 1 _ _ _ (broken_once j k 2 _ _ _ (broken_once j k 3 _ _ _ (broken_once j k 4 _ _ _ (broken_once j k 5 _ _ _
    (broken_once j k 6 _ _ _ (broken_once j k 7 _ _ _ (broken_once j k 8 _ _ _ (broken_once j k 9 _ _ _
    (broken_once j k 10 _ _ _ (broken_once j k 12 _ _ _ (λ a b. absurd a)))))))))))

-- no rule of a volume is broken
unbroken : (k number : ℕ) (rule later : Type 0) → rule → (later → ⊥) → Broken k number rule later → ⊥
unbroken k number rule later holds rest (inl (p, fails)) = fails holds
unbroken k number rule later holds rest (inr (too, a)) = rest a

pub volume_unbroken : (n : ℕ) (m : Map) (image : List ℕ) (k : ℕ) → IsVolume n m
    → MapsHold (inside_at (typed_of m) image) → IsLeastBroken n m image k → ⊥
volume_unbroken n m image k v maps =
    unbroken k 1 _ _ (v.spelled, v.rules.records)
    (unbroken k 2 _ _ v.rules.names
    (unbroken k 3 _ _ v.rules.files
    (unbroken k 4 _ _ v.rules.map_rows
    (unbroken k 5 _ _ v.rules.extents
    (unbroken k 6 _ _ v.rules.chunks.rows
    (unbroken k 7 _ _ v.rules.chunks.redirects
    (unbroken k 8 _ _ v.rules.chunks.places
    (unbroken k 9 _ _ v.rules.chunks.containers
    (unbroken k 10 _ _ v.rules.clusters
    (unbroken k 12 _ _ maps (λ none. none)))))))))))

-- the first one of the rules of tables is the first one of all
sooner : (k number : ℕ) (rule one two : Type 0) → (one → two) → Broken k number rule one → Broken k number rule two
sooner k number rule one two later (inl fails) = inl fails
sooner k number rule one two later (inr (holds, rest)) = inr (holds, later rest)

pub least_of_tables : (n : ℕ) (m : Map) (image : List ℕ) (k : ℕ) → IsLeastBrokenOfTables n m k → IsLeastBroken n m image k
least_of_tables n m image k =
    sooner k 1 _ _ _ (sooner k 2 _ _ _ (sooner k 3 _ _ _ (sooner k 4 _ _ _ (sooner k 5 _ _ _ (sooner k 6 _ _ _ (sooner k 7 _ _ _
    (sooner k 8 _ _ _ (sooner k 9 _ _ _ (sooner k 10 _ _ _ (λ none. absurd none))))))))))

-- of a volume that breaks the rule on maps, that is the first one
pub least_of_maps : (n : ℕ) (m : Map) (image : List ℕ) → IsVolume n m → (MapsHold (inside_at (typed_of m) image) → ⊥)
    → IsLeastBroken n m image 12
least_of_maps n m image v fails =
    inr (
      (v.spelled, v.rules.records),
      inr (
        v.rules.names,
        inr (
          v.rules.files,
          inr (
            v.rules.map_rows,
            inr (
              v.rules.extents,
              inr (
                v.rules.chunks.rows,
                inr (
                  v.rules.chunks.redirects,
                  inr (
                    v.rules.chunks.places,
                    inr (
                      v.rules.chunks.containers,
                      inr (v.rules.clusters, inl (refl, fails)),
                    ),
                  ),
                ),
              ),
            ),
          ),
        ),
      ),
    )

-- ---- the version

-- a volume has version 1
pub volume_known : (n : ℕ) (m : Map) (found : ℕ) → IsVolume n m → HasVersion found m → ⊥
volume_known n m found v h =
    let here : find single_cmp tt (typed_of m).volume ≡ Some (volume_in h.value) =
    find_typed volume_codec (1 ∷ []) tt refl m ∙ ap (λ (o : Option (List ℕ)). option_map volume_in o) h.there in
    let lawful : IsVolumeRecord (volume_in h.value) =
    subst (λ (o : Option VolumeRecord). IsSomeAnd o IsVolumeRecord) here v.rules.records.volume in
    h.unknown (h.is ∙ lawful.version)

version_once : (m : Map) (j k : ℕ) → HasVersion j m → HasVersion k m → j ≡ k
version_once m j k one two =
    let same : one.value ≡ two.value = some_same one.value two.value (sym one.there ∙ two.there) in
    one.is ∙ ap (λ (b : List ℕ). (volume_in b).version) same ∙ sym two.is
  where
    some_same : (a b : List ℕ) → Some a ≡ Some b → a ≡ b
    some_same a b e = cc

-- ---- step by step

abbrev Answer : Type 0
Answer = Result Inside MountFault

module _ (read : Reading) (image : List ℕ) where
  AfterVersion : ℕ → Map → Answer → Type 0
  AfterVersion n m a =
      (IsVolume n m × MapsHold (inside_at (typed_of m) image) × (a ≡ Ok (inside_at (typed_of m) image)))
      ⊎ ((rule : ℕ) × IsLeastBroken n m image rule × (a ≡ Err (BadTable rule)))

  AfterJournal : ℕ → Map → Answer → Type 0
  AfterJournal n m a =
      ((found : ℕ) × HasVersion found m × (a ≡ Err (VersionUnknown found)))
      ⊎ (((found : ℕ) → HasVersion found m → ⊥) × AfterVersion n m a)

  AfterSize : ℕ → Answer → Type 0
  AfterSize n a =
      ((half : ℕ) × (read n image ≡ Err half) × (a ≡ Err (MetaDamaged half)))
      ⊎ ((m : Map) × (read n image ≡ Ok m) × AfterJournal n m a)

  AfterSuperblock : ℕ → Answer → Type 0
  AfterSuperblock n a =
      ((length image ≢ 4096 * n) × (a ≡ Err (SizeDiffers (4096 * n) (length image))))
      ⊎ ((length image ≡ 4096 * n) × AfterSize n a)

  InSteps : Answer → Type 0
  InSteps a =
      (((n : ℕ) → HasSuperblock n image → ⊥) × (a ≡ Err NotVolume)) ⊎ ((n : ℕ) × HasSuperblock n image × AfterSuperblock n a)

  in_steps : (a : Answer) → InsideOf read image a → InSteps a
  unfolding InSteps AfterSuperblock AfterSize AfterJournal AfterVersion
  in_steps (Ok i) (n, h) =
      inr (
        n,
        h.superblock,
        inr (
          h.size,
          inr (
            h.stored,
            h.spells,
            inr ((λ found version. volume_known n h.stored found h.volume version), inl (h.volume, h.maps, ap (λ (x : Inside). Ok x) (sym h.is))),
          ),
        ),
      )
  in_steps (Err NotVolume) none = inl (none, refl)
  in_steps (Err (SizeDiffers said size)) (n, superblock, named, has, differ) =
      inr (n, superblock, inl ((λ same. differ (named ∙ sym same ∙ sym has)), (λ i. Err (SizeDiffers (named i) (has i)))))
  in_steps (Err (MetaDamaged half)) (n, image_of, is) = inr (n, image_of.superblock, inr (image_of.size, inl (half, is, refl)))
  in_steps (Err (VersionUnknown found)) (n, m, image_of, is, version) =
      inr (n, image_of.superblock, inr (image_of.size, inr (m, is, inl (found, version, refl))))
  in_steps (Err (BadTable rule)) (n, m, image_of, is, known, broken) =
      inr (n, image_of.superblock, inr (image_of.size, inr (m, is, inr (known, inr (rule, broken, refl)))))
  in_steps (Err Failed) none = absurd none
  in_steps (Err Memory) none = absurd none

  after_version : (n : ℕ) (m : Map) (a b : Answer) → AfterVersion n m a → AfterVersion n m b → a ≡ b
  unfolding AfterVersion
  after_version n m a b (inl (v, maps, p)) (inl (w, too, q)) = p ∙ sym q
  after_version n m a b (inl (v, maps, p)) (inr (k, broken, q)) = absurd (volume_unbroken n m image k v maps broken)
  after_version n m a b (inr (j, broken, p)) (inl (w, maps, q)) = absurd (volume_unbroken n m image j w maps broken)
  after_version n m a b (inr (j, one, p)) (inr (k, two, q)) =
      p ∙ ap (λ (r : ℕ). Err (BadTable r)) (least_once n m image j k one two) ∙ sym q

  after_journal : (n : ℕ) (m : Map) (a b : Answer) → AfterJournal n m a → AfterJournal n m b → a ≡ b
  unfolding AfterJournal
  after_journal n m a b (inl (j, one, p)) (inl (k, two, q)) =
      p ∙ ap (λ (v : ℕ). Err (VersionUnknown v)) (version_once m j k one two) ∙ sym q
  after_journal n m a b (inl (j, one, p)) (inr (known, rest)) = absurd (known j one)
  after_journal n m a b (inr (known, rest)) (inl (k, two, q)) = absurd (known k two)
  after_journal n m a b (inr (known, one)) (inr (too, two)) = after_version n m a b one two

  after_size : (n : ℕ) (a b : Answer) → AfterSize n a → AfterSize n b → a ≡ b
  unfolding AfterSize
  after_size n a b (inl (j, one, p)) (inl (k, two, q)) = p ∙ ap (λ (h : ℕ). Err (MetaDamaged h)) (err_same j k (sym one ∙ two)) ∙ sym q
    where
      err_same : (j k : ℕ) → ◌≡◌ {A = Result Map ℕ} (Err j) (Err k) → j ≡ k
      err_same j k e = cc
  after_size n a b (inl (j, one, p)) (inr (m, two, rest)) = absurd (apart j m (sym one ∙ two))
    where
      apart : (j : ℕ) (m : Map) → ◌≡◌ {A = Result Map ℕ} (Err j) (Ok m) → ⊥
      apart j m e = cc
  after_size n a b (inr (m, one, rest)) (inl (k, two, q)) = absurd (apart m k (sym one ∙ two))
    where
      apart : (m : Map) (k : ℕ) → ◌≡◌ {A = Result Map ℕ} (Ok m) (Err k) → ⊥
      apart m k e = cc
  after_size n a b (inr (m, one, rest)) (inr (l, two, more)) =
      after_journal n l a b (subst (λ (x : Map). AfterJournal n x a) (ok_same m l (sym one ∙ two)) rest) more
    where
      ok_same : (m l : Map) → ◌≡◌ {A = Result Map ℕ} (Ok m) (Ok l) → m ≡ l
      ok_same m l e = cc

  after_superblock : (n : ℕ) (a b : Answer) → AfterSuperblock n a → AfterSuperblock n b → a ≡ b
  unfolding AfterSuperblock
  after_superblock n a b (inl (fails, p)) (inl (never, q)) = p ∙ sym q
  after_superblock n a b (inl (fails, p)) (inr (same, rest)) = absurd (fails same)
  after_superblock n a b (inr (same, rest)) (inl (never, q)) = absurd (never same)
  after_superblock n a b (inr (same, one)) (inr (too, two)) = after_size n a b one two

  one_answer : (a b : Answer) → InSteps a → InSteps b → a ≡ b
  unfolding InSteps
  one_answer a b (inl (fails, p)) (inl (never, q)) = p ∙ sym q
  one_answer a b (inl (fails, p)) (inr (n, superblock, rest)) = absurd (fails n superblock)
  one_answer a b (inr (n, superblock, rest)) (inl (never, q)) = absurd (never n superblock)
  one_answer a b (inr (n, first, one)) (inr (k, second, two)) =
      after_superblock k a b (subst (λ (x : ℕ). AfterSuperblock x a) (superblock_once n k image first second) one) two

  -- of one image there is one inside, or one reason why it has none
  pub inside_once : (a b : Answer) → InsideOf read image a → InsideOf read image b → a ≡ b
  inside_once a b one two = one_answer a b (in_steps a one) (in_steps b two)
