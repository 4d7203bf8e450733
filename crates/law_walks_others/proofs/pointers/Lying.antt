-- What another thread has passed for a write lies at its server still.
use Rattle.std.proofs.Common.{◌≡◌, ◌≢◌, ◌⊎◌, inl, inr, ℕ, zero, suc, ◌≤◌, ◌==◌, ◌&&◌, nat_le, Bool, true, false, Option, Some, None, refl, ap, subst, ◌∙◌, arith}
use Rattle.std.specs.Prelude.{slice_get}
use Rattle.std.proofs.lemmas.Bool.Decides.{nat_tests}
use Rattle.law_words_values.specs.Below.fr_base.declared.name.ObjNo.{ObjNo}
use Rattle.law_words_values.specs.Below.fr_base.declared.place.Lval.{Lval}
use Rattle.law_words_values.specs.Below.fr_base.Names.{same_object}
use Rattle.law_words_values.specs.Below.heap_partition.declared.value.Owned.TheVariants as owned
use Rattle.law_words_values.specs.Below.thread_state.declared.value.Value.{Value}
use Rattle.law_words_values.specs.Below.thread_state.declared.value.Value.TheVariants as value
use Rattle.law_words_values.specs.Below.server_model.Servers.{Cluster}
use Rattle.law_words_values.specs.Below.coherent_memory.Names.{tot, one, other, some}
use Rattle.law_words_values.specs.Below.coherent_memory.Things.{Location, in_cell, Thing, lies, flies, stands, sent, things_of}
use Rattle.law_words_values.specs.Below.coherent_memory.Follow.{Standing, Ground, leads, locate, hop_at}
use Rattle.law_words_values.specs.Below.coherent_memory.Paths.{Path, no_path, reads, shares, lends, writes, ends, path_of, written_place}
use Rattle.law_words_values.specs.Below.coherent_memory.Sight.{sight}
use Rattle.law_words_values.specs.Below.coherent_memory.Weights.{lies_at}
use Rattle.law_words_values.specs.Below.coherent_memory.Walking.{path, over_hops, over_place, over_passed, away, hop_count, too_far}
use Rattle.law_words_values.specs.Below.law_words_paths.paths.HeapStore.{GoesOn, HasPaths}
use Rattle.law_words_values.proofs.Below.law_heap_still.events.Tests.{IsTest, objects}
use Rattle.law_words_values.proofs.Below.law_heap_still.events.Told.{tot_same}
use Rattle.law_counts_waiting.specs.waits.Places.{Follows}
use Rattle.law_counts_waiting.proofs.waits.Written.{Written}
use Rattle.law_walks_others.specs.pointers.Pointers.{SamePointers}
use Rattle.law_walks_others.proofs.pointers.Cells.{Seeing, cell_weight}
use Rattle.law_walks_others.proofs.pointers.Clusters.{SeesOn}
use Rattle.law_walks_others.proofs.pointers.Others.{follows_apart}
use Rattle.law_walks_others.proofs.pointers.Ways.{OnPath, on_path}

truth_cases : (b : Bool) (P : Bool → Type 0) → (b ≡ true → P true) → (b ≡ false → P false) → P b
truth_cases true P f g = f refl
truth_cases false P f g = g refl

none_true : (b : Bool) → other b ≡ 0 → b ≡ true
none_true true z = refl
none_true false z = absurd (cc z)

some_one : (m : ℕ) → some m ≡ true → 1 ≤ m
some_one zero e = absurd (cc e)
some_one (suc m) e = omega arith

one_some : (m : ℕ) → 1 ≤ m → some m ≡ true
one_some zero l = absurd (omega (arith, l))
one_some (suc m) l = refl

none_last : (q : Bool) → one (q && false) ≡ 0
none_last true = refl
none_last false = refl

module _ (k c : Cluster) (p : HasPaths k) (t : ℕ) (sees : SeesOn k p t (things_of k) (things_of c)) where
  abbrev G : Ground
  G = (sight k).ground

  abbrev G2 : Ground
  G2 = (sight c).ground

  abbrev lying_at : ℕ → ObjNo → Option ℕ → ObjNo → ℕ
  lying_at r o None q = 0
  lying_at r o (Some s) q = one (s == r && same_object q o)

  -- an object that isn't written lies where it lay
  lies_on : (r : ℕ) (o : ObjNo) → (Written k p t o → ⊥) → 1 ≤ tot (lies_at r o) (things_of k) → 1 ≤ tot (lies_at r o) (things_of c)
  lies_on r o free l =
      let see : Seeing = record { cells = λ s q v. lying_at r o s q; threads = λ s b u. 0; messages = λ s m. 0 } in
      omega (
        arith,
        l,
        sees see (record { thread = λ s b u e. refl; written = λ q h s v. unseen q h s }),
        tot_same (cell_weight see) (lies_at r o) so (things_of k),
        tot_same (cell_weight see) (lies_at r o) so (things_of c),
      )
    where
      unseen : (q : ObjNo) → Written k p t q → (s : Option ℕ) → lying_at r o s q ≡ 0
      unseen q h None = refl
      unseen q h (Some s) =
          let test : IsTest same_object = objects in
          truth_cases (same_object q o) (λ b. one (s == r && b) ≡ 0) (λ e. absurd (free (subst (λ a. Written k p t a) (test.tells q o e) h))) (λ e. none_last (s == r))

      so : (x : Thing) → cell_weight (record { cells = λ s q v. lying_at r o s q; threads = λ s b u. 0; messages = λ s m. 0 }) x ≡ lies_at r o x
      so (lies s a d) = refl
      so (flies w d) = refl
      so (stands s b u) = refl
      so (sent s m) = refl
      so _ = refl

  module _ (x : Standing) (g : GoesOn k x) (ne : x.thread.number ≢ t) (same : (w : Lval) → Follows k x w → SamePointers k c x.thread.number w) where
    abbrev n : ℕ
    n = x.thread.number

    abbrev r : ℕ
    r = x.server

    object_on : (o : ObjNo) → (Written k p t o → ⊥) → other (some (tot (lies_at r o) (things_of k))) ≡ 0 → other (some (tot (lies_at r o) (things_of c))) ≡ 0
    object_on o free z = ap other (one_some (tot (lies_at r o) (things_of c)) (lies_on r o free (some_one (tot (lies_at r o) (things_of k)) (none_true (some (tot (lies_at r o) (things_of k))) z))))

    -- what a star leads to on the place isn't written by another thread
    away_on : (l : Option Location) (v : Option Value) → ((o : ObjNo) → leads n v ≡ Some (in_cell o) → Written k p t o → ⊥) → away (sight k) r l v ≡ 0 → away (sight c) r l v ≡ 0
    away_on l (Some (value.Own (owned.Box b))) free z = object_on b.object (free b.object refl) z
    away_on l (Some (value.Mut q)) free z = object_on q.object (free q.object refl) z
    away_on l (Some (value.SharedSlot i)) free z = refl
    away_on l (Some (value.MutSlot i)) free z = refl
    away_on l None free z = absurd (cc z)
    away_on l (Some value.Gone) free z = absurd (cc z)
    away_on l (Some (value.Own owned.Nothing)) free z = absurd (cc z)
    away_on l (Some (value.Own owned.Unit)) free z = absurd (cc z)
    away_on l (Some (value.Own (owned.Int i))) free z = absurd (cc z)
    away_on l (Some (value.Own (owned.Mutex m))) free z = absurd (cc z)
    away_on l (Some (value.Own (owned.Task u))) free z = absurd (cc z)
    away_on l (Some (value.Shared q)) free z = absurd (cc z)
    away_on l (Some (value.Held m)) free z = absurd (cc z)

    over_on : (w : Lval) → Follows k x w → (m : ℕ) → m ≤ w.depth → over_hops G n w.slot (away (sight k) r) m ≡ 0 → over_hops G2 n w.slot (away (sight c) r) m ≡ 0
    over_on w f zero le z = refl
    over_on w f (suc m) le z =
        let it = same w f m (omega (arith, le)) in
        let here : away (sight c) r (locate G n w.slot m) (hop_at G n w m) ≡ 0 =
        away_on (locate G n w.slot m) (hop_at G n w m) (λ o e h. ne (follows_apart k p x g w f (suc m) (in_cell o) le e t o refl h)) (omega (arith, z)) in
        let there : away (sight c) r (locate G2 n w.slot m) (hop_at G2 n w m) ≡ 0 = ap (λ l. away (sight c) r l (hop_at G2 n w m)) it.0 ∙ ap (away (sight c) r (locate G n w.slot m)) it.1 ∙ here in
        omega (arith, there, over_on w f m (omega (arith, le)) (omega (arith, z)))

    abbrev Fits : Lval → Type 0
    Fits w = (w.depth ≡ 0) ⊎ Follows k x w

    place_on : (w : Lval) → Fits w → x.thread.passed ≤ w.depth → over_hops G n w.slot (away (sight k) r) x.thread.passed ≡ 0 → over_hops G2 n w.slot (away (sight c) r) x.thread.passed ≡ 0
    place_on w (inl e) le z = let none : x.thread.passed ≡ 0 = omega (arith, le, e) in ap (over_hops G2 n w.slot (away (sight c) r)) none
    place_on w (inr f) le z = over_on w f x.thread.passed le z

    path_on : (q : Path) → OnPath Fits q → x.thread.passed ≤ hop_count (written_place q) → over_place G n x.thread.passed (away (sight k) r) (written_place q) ≡ 0 → over_place G2 n x.thread.passed (away (sight c) r) (written_place q) ≡ 0
    path_on (writes w) f le z = place_on w f le z
    path_on (ends m) f le z = place_on m.holder f le z
    path_on no_path f le z = refl
    path_on (reads w) f le z = refl
    path_on (shares w) f le z = refl
    path_on (lends w) f le z = refl

    within : too_far (sight k) x ≡ 0 → x.thread.passed ≤ hop_count (written_place (path (sight k) x))
    within z = let e = none_true (nat_le x.thread.passed (hop_count (written_place (path (sight k) x)))) z in grind (arith, nat_tests, e)

    pub away_kept : c.code ≡ k.code → too_far (sight k) x ≡ 0 → over_passed (sight k) (away (sight k)) x ≡ 0 → over_passed (sight c) (away (sight c)) x ≡ 0
    away_kept code far z =
        ap (λ cs. over_place G2 n x.thread.passed (away (sight c) r) (written_place (path_of (slice_get cs x.thread.pc) x.thread))) code
        ∙ path_on (path (sight k) x) (on_path k x Fits (λ w e. inl e) (λ w f. inr f)) (within far) z
