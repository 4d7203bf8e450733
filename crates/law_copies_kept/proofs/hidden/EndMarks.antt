-- A mutable reference ends that is clean and isn't stale: the same objects are changed through references as before.
use Rattle.std.proofs.Common.{◌≡◌, ◌≢◌, ◌⊎◌, inl, inr, ⊎_elim, ℕ, ◌==◌, ◌||◌, not, Bool, true, false, List, [], Some, None, refl, sym, ap, subst, ◌∙◌, arith}
use Rattle.std.proofs.lemmas.Bool.Decides.{nat_tests}
use Rattle.law_copies_kept.specs.Below.fr_base.declared.name.ObjNo.{ObjNo}
use Rattle.law_copies_kept.specs.Below.heap_partition.declared.value.Owned.TheVariants as owned
use Rattle.law_copies_kept.specs.Below.mut_borrow.declared.mutable.MutRef.{MutRef}
use Rattle.law_copies_kept.specs.Below.mut_borrow.Refs.{changed}
use Rattle.law_copies_kept.specs.Below.thread_state.declared.value.Value.{Value}
use Rattle.law_copies_kept.specs.Below.thread_state.declared.value.Value.TheVariants as value
use Rattle.law_copies_kept.specs.Below.server_model.Servers.{Cluster}
use Rattle.law_copies_kept.specs.Below.server_model.Places.{took, with_word}
use Rattle.law_copies_kept.specs.Below.coherent_memory.Names.{Among}
use Rattle.law_copies_kept.specs.Below.coherent_memory.Things.{Location, things_of}
use Rattle.law_copies_kept.specs.Below.coherent_memory.Follow.{Ground, value_in}
use Rattle.law_copies_kept.specs.Below.coherent_memory.Stale.{Reference, references, holder_of, is_held_at, is_among, with_place, lent_places, one_star_less, changed_above, stale_above, taken_above}
use Rattle.law_copies_kept.specs.Below.coherent_memory.Sight.{is_object_among, sight}
use Rattle.law_copies_kept.specs.Below.coherent_memory.Words.{IsStale}
use Rattle.law_copies_kept.specs.Below.coherent_memory.Dirty.{DirtyAlone}
use Rattle.law_copies_kept.proofs.Below.coherent_memory.Words.{told as told_stale}
use Rattle.law_copies_kept.proofs.Below.law_words_paths.paths.FreshPaths.{held_at}
use Rattle.law_copies_kept.proofs.Below.law_words_paths.paths.Sole.{some_is}
use Rattle.law_copies_kept.proofs.Below.law_words_paths.paths.Contained.{reference_there, held_there}
use Rattle.law_copies_kept.specs.Below.law_words_paths.words.Reworded.{HasPlaces}
use Rattle.law_copies_kept.specs.Below.law_words_paths.words.Unmoved.{pointing, Taking, takings}
use Rattle.law_copies_kept.proofs.Below.law_words_paths.words.Standing.{borrow_stands}
use Rattle.law_copies_kept.proofs.Below.law_words_paths.words.Takings.{seen_reference, lents_are, lent_listed, lent_told}
use Rattle.law_copies_kept.proofs.Below.law_words_paths.words.Grounds.{same_place, of_borrows}
use Rattle.law_copies_kept.specs.Below.law_words_kept.moves.Ended.{GetsBack, as_it_was, its_word, Ended}
use Rattle.law_copies_kept.proofs.copies.Clean.{Found}
use Rattle.law_copies_kept.proofs.references.CleanReads.{dirty_one}
use Rattle.law_copies_kept.proofs.references.Worded.{dirty_found, same_truth}

-- WHAT STOOD AT THE HOLDER

one_mutable : (a b : MutRef) → value.Mut a ≡ value.Mut b → a ≡ b
one_mutable a b e = cc

-- a reference that got a word was one, made from the same place
worded_from : (w : ℕ) (old : Value) (m : MutRef) → with_word w old ≡ Some (value.Mut m) → (m0 : MutRef) × (old ≡ value.Mut m0) × (took m0 w ≡ m)
worded_from w (value.Mut q) m e = (q, refl, one_mutable (took q w) m (some_is e))
worded_from w (value.Own (owned.Box p)) m e = let f : value.Own (owned.Box (record p { word = w })) ≡ value.Mut m = some_is e in absurd cc
worded_from w (value.Own owned.Nothing) m e = absurd cc
worded_from w (value.Own owned.Unit) m e = absurd cc
worded_from w (value.Own (owned.Int n)) m e = absurd cc
worded_from w (value.Own (owned.Mutex k)) m e = absurd cc
worded_from w (value.Own (owned.Task t)) m e = absurd cc
worded_from w value.Gone m e = absurd cc
worded_from w (value.SharedSlot i) m e = absurd cc
worded_from w (value.MutSlot i) m e = absurd cc
worded_from w (value.Shared q) m e = absurd cc
worded_from w (value.Held k) m e = absurd cc

-- what it was: the same, or a reference made from the same place, which is clean now
pub record WasThere (r m m0 : MutRef) : Type 0 where
  pub holder : m0.holder ≡ m.holder
  pub same : ((r.word ≡ r.first) × (m0 ≡ m)) ⊎ ((r.word ≢ r.first) × (m.dirty ≡ false))

was_there : (r m m0 : MutRef) → (r.word ≢ r.first) → took m0 r.word ≡ m → WasThere r m m0
was_there r m m0 n e = subst (λ x. WasThere r x m0) e (record { holder = refl; same = inr (n, refl) })

back_from : (r : MutRef) (old new : Value) (m : MutRef) → GetsBack r old new → new ≡ value.Mut m → (m0 : MutRef) × (old ≡ value.Mut m0) × WasThere r m m0
back_from r old new m (as_it_was w e) f = (m, sym e ∙ f, record { holder = refl; same = inl (w, refl) })
back_from r old new m (its_word n e) f = let q = worded_from r.word old m (e ∙ ap Some f) in (q.0, q.1, was_there r m q.0 n q.2)

-- and one that was there is one
back_to : (r : MutRef) (old new : Value) (m0 : MutRef) → GetsBack r old new → old ≡ value.Mut m0 → (m : MutRef) × (new ≡ value.Mut m) × (m.holder ≡ m0.holder)
back_to r old new m0 (as_it_was w e) f = (m0, e ∙ f, refl)
back_to r old new m0 (its_word n e) f = (took m0 r.word, sym (some_is (sym (ap (with_word r.word) f) ∙ e)), refl)

is_changed : (r : MutRef) → r.word ≢ r.first → changed r ≡ true
is_changed r n = by r.dirty (r.word == r.first) refl
  where
    by : (d b : Bool) → (r.word == r.first) ≡ b → d || not b ≡ true
    by true b e = refl
    by false true e = let q : r.word ≡ r.first = grind (arith, nat_tests, e) in absurd (n q)
    by false false e = refl

is_unchanged : (r : MutRef) → r.dirty ≡ false → r.word ≡ r.first → changed r ≡ true → ⊥
is_unchanged r d w e = by r.dirty (r.word == r.first) d refl e
  where
    by : (c b : Bool) → c ≡ false → (r.word == r.first) ≡ b → c || not b ≡ true → ⊥
    by true b p q f = absurd cc
    by false true p q f = absurd cc
    by false false p q f = let t : true ≡ false = grind (arith, nat_tests, q, w) in absurd cc

-- A clean reference at `at`, which isn't stale, was made from the pointer at h alone, and is gone: what references and marks see of it
pub record Leaving (k z : Cluster) (at h : Location) (r : MutRef) : Type 0 where
  pub stood : value_in (sight k).ground at ≡ Some (value.Mut r)
  pub held : holder_of (sight k).ground at r.holder ≡ Some h
  pub clean : r.dirty ≡ false
  pub fresh : IsStale (sight k) (Some at) → ⊥
  pub only : (q : Reference) → Among q (references (sight k).ground (things_of k)) → is_held_at h q.holder ≡ true → q.at ≡ at
  pub untaken : is_among h (lent_places k.code (sight k).ground (sight k).ground.threads) ≡ true → ⊥
  pub gone : pointing (value_in (sight z).ground at) ≡ None
  pub old : Value
  pub new : Value
  pub before : value_in (sight k).ground h ≡ Some old
  pub after : value_in (sight z).ground h ≡ Some new
  pub back : GetsBack r old new
  pub elsewhere : (l : Location) → (l ≡ at → ⊥) → (l ≡ h → ⊥) → pointing (value_in (sight z).ground l) ≡ pointing (value_in (sight k).ground l)
  pub holders : (l : Location) (q : MutRef) → (l ≡ at → ⊥) → value_in (sight k).ground l ≡ Some (value.Mut q) → holder_of (sight z).ground l q.holder ≡ holder_of (sight k).ground l q.holder
  pub taken : (t : Taking) → Among t (takings k.code (sight k).ground.threads) → one_star_less (sight z).ground t.thread t.place.slot t.place.depth ≡ one_star_less (sight k).ground t.thread t.place.slot t.place.depth
  pub takes : (t : Taking) → Among t (takings z.code (sight z).ground.threads) → Among t (takings k.code (sight k).ground.threads)
  pub took : (t : Taking) → Among t (takings k.code (sight k).ground.threads) → Among t (takings z.code (sight z).ground.threads)

pub leaving_by : (k z : Cluster) (at h : Location) (r : MutRef) → Ended k z at h r → Leaving k z at h r
leaving_by k z at h r u = record {
  stood = u.stood;
  held = u.held;
  clean = u.clean;
  fresh = u.fresh;
  only = u.only;
  untaken = u.untaken;
  gone = u.gone;
  old = u.old;
  new = u.new;
  before = u.before;
  after = u.after;
  back = u.back;
  elsewhere = u.elsewhere;
  holders = u.holders;
  taken = λ t i. (u.taken t i).1;
  takes = u.takes;
  took = u.took;
}

module _ (k z : Cluster) (at h : Location) (r : MutRef) (c : HasPlaces k) (d : HasPlaces z) (u : Leaving k z at h r) where
  abbrev gk : Ground
  gk = (sight k).ground

  abbrev gz : Ground
  gz = (sight z).ground

  abbrev rk : List Reference
  rk = references gk (things_of k)

  abbrev rz : List Reference
  rz = references gz (things_of z)

  abbrev ended : Reference
  ended = record { at = at; holder = holder_of gk at r.holder; reference = r }

  ended_among : Among ended rk
  ended_among = reference_there k at r u.stood

  ended_held : is_held_at h ended.holder ≡ true
  ended_held = held_there k h (holder_of gk at r.holder) u.held

  -- REFERENCES

  stands_z : (q : Reference) → Among q rz → value_in gz q.at ≡ Some (value.Mut q.reference)
  stands_z q m = borrow_stands z d q.at q.reference (of_borrows gz q (things_of z) m).among

  stood_k : (q : Reference) → Among q rk → value_in gk q.at ≡ Some (value.Mut q.reference)
  stood_k q m = borrow_stands k c q.at q.reference (of_borrows gk q (things_of k) m).among

  not_gone : (q : Reference) → Among q rz → q.at ≡ at → ⊥
  not_gone q m e =
      let f : Some (value.Mut q.reference) ≡ None = sym (ap pointing (stands_z q m)) ∙ ap (λ l. pointing (value_in gz l)) e ∙ u.gone in
      absurd cc

  -- the one that ends is the one that stands there
  is_ended : (q : Reference) → Among q rk → q.at ≡ at → (q.reference ≡ r) × (q.holder ≡ Some h)
  is_ended q m e =
      let b = of_borrows gk q (things_of k) m in
      let same : q.reference ≡ r = one_mutable q.reference r (some_is (sym (stood_k q m) ∙ ap (value_in gk) e ∙ u.stood)) in
      (same, b.holder ∙ ap (λ l. holder_of gk l q.reference.holder) e ∙ ap (λ (x : MutRef). holder_of gk at x.holder) same ∙ u.held)

  -- elsewhere the same stands
  stood_so : (q : Reference) → Among q rz → (q.at ≡ h → ⊥) → value_in gk q.at ≡ Some (value.Mut q.reference)
  stood_so q m n = seen_reference (value_in gk q.at) q.reference (sym (u.elsewhere q.at (not_gone q m) n) ∙ ap pointing (stands_z q m))

  stands_so : (q : Reference) → Among q rk → (q.at ≡ at → ⊥) → (q.at ≡ h → ⊥) → value_in gz q.at ≡ Some (value.Mut q.reference)
  stands_so q m a n = seen_reference (value_in gz q.at) q.reference (u.elsewhere q.at a n ∙ ap pointing (stood_k q m))

  -- what was at the holder
  holder_was : (q : Reference) → Among q rz → q.at ≡ h → (m0 : MutRef) × (value_in gk q.at ≡ Some (value.Mut m0)) × WasThere r q.reference m0
  holder_was q m e =
      let y = back_from r u.old u.new q.reference u.back (some_is (sym u.after ∙ ap (value_in gz) (sym e) ∙ stands_z q m)) in
      (y.0, ap (value_in gk) e ∙ u.before ∙ ap Some y.1, y.2)

  -- one in the first cluster, made from the same place
  record Stood (q : Reference) : Type 0 where
    reference : Reference
    among : Among reference rk
    at_same : reference.at ≡ q.at
    holder : reference.holder ≡ q.holder
    kept : (reference.reference ≡ q.reference) ⊎ ((q.at ≡ h) × (r.word ≢ r.first) × (q.reference.dirty ≡ false))

  there_before : (q : Reference) → Among q rz → (m0 : MutRef) → value_in gk q.at ≡ Some (value.Mut m0) → m0.holder ≡ q.reference.holder → (m0 ≡ q.reference) ⊎ ((q.at ≡ h) × (r.word ≢ r.first) × (q.reference.dirty ≡ false)) → Stood q
  there_before q m m0 e f g = record {
    reference = record { at = q.at; holder = holder_of gk q.at m0.holder; reference = m0 };
    among = reference_there k q.at m0 e;
    at_same = refl;
    holder = sym (u.holders q.at m0 (not_gone q m) e) ∙ ap (holder_of gz q.at) f ∙ sym (of_borrows gz q (things_of z) m).holder;
    kept = g;
  }

  stood : (q : Reference) → Among q rz → Stood q
  stood q m = by (same_place q.at h)
    where
      by : (q.at ≡ h) ⊎ (q.at ≡ h → ⊥) → Stood q
      by (inl e) =
          let y = holder_was q m e in
          there_before q m y.0 y.1 y.2.holder
          (⊎_elim (λ (v : (r.word ≡ r.first) × (y.0 ≡ q.reference)). inl v.1) (λ (v : (r.word ≢ r.first) × (q.reference.dirty ≡ false)). inr (e, v.0, v.1)) y.2.same)
      by (inr n) = there_before q m q.reference (stood_so q m n) refl (inl refl)

  -- and one in the second
  record Stands (q : Reference) : Type 0 where
    reference : Reference
    among : Among reference rz
    holder : reference.holder ≡ q.holder

  there_after : (q : Reference) → Among q rk → (q.at ≡ at → ⊥) → (m1 : MutRef) → value_in gz q.at ≡ Some (value.Mut m1) → m1.holder ≡ q.reference.holder → Stands q
  there_after q m a m1 e f = record {
    reference = record { at = q.at; holder = holder_of gz q.at m1.holder; reference = m1 };
    among = reference_there z q.at m1 e;
    holder = ap (holder_of gz q.at) f ∙ u.holders q.at q.reference a (stood_k q m) ∙ sym (of_borrows gk q (things_of k) m).holder;
  }

  stands : (q : Reference) → Among q rk → (q.at ≡ at → ⊥) → Stands q
  stands q m a = by (same_place q.at h)
    where
      by : (q.at ≡ h) ⊎ (q.at ≡ h → ⊥) → Stands q
      by (inl e) =
          let y = back_to r u.old u.new q.reference u.back (some_is (sym u.before ∙ ap (value_in gk) (sym e) ∙ stood_k q m)) in
          there_after q m a y.0 (ap (value_in gz) e ∙ u.after ∙ ap Some y.1) y.2
      by (inr n) = there_after q m a q.reference (stands_so q m a n) refl

  -- WHAT IS STALE

  lent_on : (l : Location) → is_among l (lent_places k.code gk gk.threads) ≡ true → is_among l (lent_places z.code gz gz.threads) ≡ true
  lent_on l e =
      let y = lent_told gk l (takings k.code gk.threads) (sym (ap (is_among l) (lents_are k.code gk gk.threads)) ∙ e) in
      ap (is_among l) (lents_are z.code gz gz.threads) ∙ lent_listed gz l y.taking (takings z.code gz.threads) (u.took y.taking y.among) (ap (λ m. is_among l (with_place m [])) (u.taken y.taking y.among) ∙ y.at)

  lent_back : (l : Location) → is_among l (lent_places z.code gz gz.threads) ≡ true → is_among l (lent_places k.code gk gk.threads) ≡ true
  lent_back l e =
      let y = lent_told gz l (takings z.code gz.threads) (sym (ap (is_among l) (lents_are z.code gz gz.threads)) ∙ e) in
      let m = u.takes y.taking y.among in
      ap (is_among l) (lents_are k.code gk gk.threads) ∙ lent_listed gk l y.taking (takings k.code gk.threads) m (ap (λ n. is_among l (with_place n [])) (sym (u.taken y.taking m)) ∙ y.at)

  back_stale : (l : Location) → IsStale (sight z) (Some l) → IsStale (sight k) (Some l)
  back_stale l (changed_above q i held ch) = by y.kept
    where
      y : Stood q
      y = stood q i

      by : (y.reference.reference ≡ q.reference) ⊎ ((q.at ≡ h) × (r.word ≢ r.first) × (q.reference.dirty ≡ false)) → IsStale (sight k) (Some l)
      by (inl e) = changed_above y.reference y.among (ap (is_held_at l) y.holder ∙ held) (ap changed e ∙ ch)
      by (inr e) = stale_above y.reference y.among (ap (is_held_at l) y.holder ∙ held) (subst (λ m. IsStale (sight k) (Some m)) (sym (y.at_same ∙ e.0)) (changed_above ended ended_among ended_held (is_changed r e.1)))
  back_stale l (stale_above q i held s) =
      let y = stood q i in
      stale_above y.reference y.among (ap (is_held_at l) y.holder ∙ held) (subst (λ m. IsStale (sight k) (Some m)) (sym y.at_same) (back_stale q.at s))
  back_stale l (taken_above m) = taken_above (lent_back l m)

  -- with its first word its holder's pointer wasn't stale
  holder_was_fresh : r.word ≡ r.first → IsStale (sight k) (Some h) → ⊥
  holder_was_fresh w (changed_above q i held ch) = is_unchanged r u.clean w (ap changed (sym (is_ended q i (u.only q i held)).0) ∙ ch)
  holder_was_fresh w (stale_above q i held s) = u.fresh (subst (λ l. IsStale (sight k) (Some l)) (u.only q i held) s)
  holder_was_fresh w (taken_above m) = u.untaken m

  -- CHANGED OBJECTS

  -- a dirty one of which none was made stays fresh backwards
  module _ (alone_z : DirtyAlone (sight z)) (q : Reference) (i : Among q rz) (dirty : q.reference.dirty ≡ true) (fresh : IsStale (sight z) (Some q.at) → ⊥) (away : q.at ≡ h → ⊥) where
    none_held : (p : Reference) → Among p rk → is_held_at q.at p.holder ≡ true → ⊥
    none_held p j held = ⊎_elim (λ (e : p.at ≡ at). away (some_is (sym (held_at q.at p.holder held) ∙ (is_ended p j e).1)))
        (λ (a : p.at ≡ at → ⊥). let y = stands p j a in (alone_z q i dirty fresh).unlent y.reference y.among (ap (is_held_at q.at) y.holder ∙ held)) (same_place p.at at)

    was_fresh : IsStale (sight k) (Some q.at) → ⊥
    was_fresh (changed_above p j held ch) = none_held p j held
    was_fresh (stale_above p j held s) = none_held p j held
    was_fresh (taken_above m) = fresh (taken_above (lent_on q.at m))

  module _ (alone_k : DirtyAlone (sight k)) (alone_z : DirtyAlone (sight z)) where
    found_z : (q : Reference) → Among q rk → q.reference.dirty ≡ true → (IsStale (sight k) (Some q.at) → ⊥) → Found z q.reference
    found_z q i dirty fresh =
        let a : q.at ≡ at → ⊥ = λ e. (let no : true ≡ false = sym dirty ∙ ap (λ (m : MutRef). m.dirty) (is_ended q i e).0 ∙ u.clean in absurd cc) in
        let n : q.at ≡ h → ⊥ = λ e. (alone_k q i dirty fresh).unlent ended ended_among (subst (λ l. is_held_at l ended.holder ≡ true) (sym e) ended_held) in
        record { reference = record { at = q.at; holder = holder_of gz q.at q.reference.holder; reference = q.reference }; among = reference_there z q.at q.reference (stands_so q i a n); same = refl; fresh = λ s. fresh (back_stale q.at s) }

    found_k : (q : Reference) → Among q rz → q.reference.dirty ≡ true → (IsStale (sight z) (Some q.at) → ⊥) → Found k q.reference
    found_k q i dirty fresh =
        record { reference = record { at = q.at; holder = holder_of gk q.at q.reference.holder; reference = q.reference }; among = reference_there k q.at q.reference (stood_so q i n); same = refl; fresh = was_fresh alone_z q i dirty fresh n }
      where
        -- at the holder none is dirty
        n : q.at ≡ h → ⊥
        n e =
            let y = holder_was q i e in
            ⊎_elim (λ (v : (r.word ≡ r.first) × (y.0 ≡ q.reference)).
            let stood_h : value_in gk q.at ≡ Some (value.Mut q.reference) = y.1 ∙ ap (λ m. Some (value.Mut m)) v.1 in
            (alone_k (record { at = q.at; holder = holder_of gk q.at q.reference.holder; reference = q.reference }) (reference_there k q.at q.reference stood_h) dirty (λ s. holder_was_fresh v.0 (subst (λ l. IsStale (sight k) (Some l)) e s))).unlent ended ended_among
            (subst (λ l. is_held_at l ended.holder ≡ true) (sym e) ended_held))
            (λ (v : (r.word ≢ r.first) × (q.reference.dirty ≡ false)). let no : true ≡ false = sym dirty ∙ v.1 in absurd cc) y.2.same

    -- so the same objects are changed
    pub end_marks : (p : ObjNo) → is_object_among p (sight z).dirty ≡ is_object_among p (sight k).dirty
    end_marks p = same_truth (is_object_among p (sight k).dirty) (is_object_among p (sight z).dirty) on back
      where
        on : is_object_among p (sight k).dirty ≡ true → is_object_among p (sight z).dirty ≡ true
        on e =
            let o = dirty_one p (sight k).stale (things_of k) e in
            let q : Reference = record { at = o.at; holder = holder_of gk o.at o.reference.holder; reference = o.reference } in
            let there = reference_there k o.at o.reference (borrow_stands k c o.at o.reference o.among) in
            dirty_found z o.reference p (found_z q there o.dirty (λ s. let no : false ≡ true = sym o.fresh ∙ told_stale k (Some o.at) s in absurd cc)) o.object o.dirty

        back : is_object_among p (sight z).dirty ≡ true → is_object_among p (sight k).dirty ≡ true
        back e =
            let o = dirty_one p (sight z).stale (things_of z) e in
            let q : Reference = record { at = o.at; holder = holder_of gz o.at o.reference.holder; reference = o.reference } in
            let there = reference_there z o.at o.reference (borrow_stands z d o.at o.reference o.among) in
            dirty_found k o.reference p (found_k q there o.dirty (λ s. let no : false ≡ true = sym o.fresh ∙ told_stale z (Some o.at) s in absurd cc)) o.object o.dirty
