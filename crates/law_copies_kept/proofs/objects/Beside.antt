-- Where a cell comes to which no place leads, or goes, changed references stay.
use Rattle.std.proofs.Common.{◌≡◌, true, [], Option, Some, None, refl, sym, ap, subst, ◌∙◌}
use Rattle.law_copies_kept.specs.Below.fr_base.declared.name.ObjNo.{ObjNo}
use Rattle.law_copies_kept.specs.Below.mut_borrow.declared.mutable.MutRef.{MutRef}
use Rattle.law_copies_kept.specs.Below.server_model.Servers.{Cluster}
use Rattle.law_copies_kept.specs.Below.thread_state.declared.value.Value.TheVariants as value
use Rattle.law_copies_kept.specs.Below.coherent_memory.Names.{Among}
use Rattle.law_copies_kept.specs.Below.coherent_memory.Things.{Location, in_cell, things_of}
use Rattle.law_copies_kept.specs.Below.coherent_memory.Follow.{Ground, cell_of, value_of, value_in}
use Rattle.law_copies_kept.specs.Below.coherent_memory.Stale.{is_among, Reference, references, holder_of, with_place, lent_places, one_star_less, changed_above, stale_above, taken_above}
use Rattle.law_copies_kept.specs.Below.coherent_memory.Sight.{sight}
use Rattle.law_copies_kept.specs.Below.coherent_memory.Placing.{other_first}
use Rattle.law_copies_kept.specs.Below.coherent_memory.Coherent.{Holds, first_at_holder}
use Rattle.law_copies_kept.specs.Below.coherent_memory.Words.{IsStale}
use Rattle.law_copies_kept.proofs.Below.coherent_memory.Words.{none_at}
use Rattle.law_copies_kept.proofs.Below.law_words_paths.paths.Contained.{reference_there}
use Rattle.law_words_borrows.specs.Below.law_words_paths.words.Reworded.{HasPlaces}
use Rattle.law_words_borrows.specs.Below.law_words_paths.words.Unmoved.{seen_at, Taking, takings}
use Rattle.law_words_borrows.proofs.Below.law_words_paths.words.Standing.{borrow_stands}
use Rattle.law_words_borrows.proofs.Below.law_words_paths.words.Takings.{reference_at, lents_are, lent_listed, lent_told}
use Rattle.law_words_borrows.proofs.Below.law_words_paths.words.Grounds.{of_borrows}
use Rattle.law_words_borrows.proofs.Below.law_words_values.carried.Carrying.{held_somewhere}
use Rattle.law_copies_kept.proofs.copies.Clean.{ChangedGo}

-- elsewhere words see the same, holders are where they were, and threads have taken from the same places
pub record SameBeside (k z : Cluster) (o : ObjNo) : Type 0 where
  pub stands : (l : Location) → (l ≡ in_cell o → ⊥) → seen_at l (value_in (sight z).ground l) ≡ seen_at l (value_in (sight k).ground l)
  pub holders : (l m : Location) (r : MutRef) → value_in (sight k).ground l ≡ Some (value.Mut r) → holder_of (sight k).ground l r.holder ≡ Some m → holder_of (sight z).ground l r.holder ≡ Some m
  pub taken : (t : Taking) → Among t (takings k.code (sight k).ground.threads) → one_star_less (sight z).ground t.thread t.place.slot t.place.depth ≡ one_star_less (sight k).ground t.thread t.place.slot t.place.depth
  pub takes : (t : Taking) → Among t (takings z.code (sight z).ground.threads) → Among t (takings k.code (sight k).ground.threads)
  pub took : (t : Taking) → Among t (takings k.code (sight k).ground.threads) → Among t (takings z.code (sight z).ground.threads)

-- no reference stands in a cell
no_cell_reference : (g : Ground) (o : ObjNo) (r : MutRef) → value_in g (in_cell o) ≡ Some (value.Mut r) → ⊥
no_cell_reference g o r e = by (cell_of g.cells o) e
  where
    by : (c : Option Rattle.law_copies_kept.specs.Below.heap_partition.declared.value.Cell.Cell) → value_of c ≡ Some (value.Mut r) → ⊥
    by None f = absurd cc
    by (Some c) f = absurd cc

module _ (k z : Cluster) (o : ObjNo) (c : HasPlaces k) (d : HasPlaces z) (firsts : Holds k first_at_holder) (u : SameBeside k z o) where
  abbrev gk : Ground
  gk = (sight k).ground

  abbrev gz : Ground
  gz = (sight z).ground

  stood : (q : Reference) → Among q (references gk (things_of k)) → value_in gk q.at ≡ Some (value.Mut q.reference)
  stood q i = borrow_stands k c q.at q.reference (of_borrows gk q (things_of k) i).among

  -- its holder is where it was
  held : (q : Reference) → Among q (references gk (things_of k)) → holder_of gz q.at q.reference.holder ≡ q.holder
  held q i =
      let m = held_somewhere gk q.reference q.holder (none_at (other_first gk) q (references gk (things_of k)) firsts i) in
      u.holders q.at m.0 q.reference (stood q i) (sym (of_borrows gk q (things_of k) i).holder ∙ m.1) ∙ sym m.1

  on : (q : Reference) → Among q (references gk (things_of k)) → Among q (references gz (things_of z))
  on q i =
      let away : q.at ≡ in_cell o → ⊥ = λ e. no_cell_reference gk o q.reference (ap (value_in gk) (sym e) ∙ stood q i) in
      let there = reference_there z q.at q.reference (reference_at q.at (value_in gz q.at) q.reference (u.stands q.at away ∙ ap (seen_at q.at) (stood q i))) in
      subst (λ (h : Option Location). Among (record { at = q.at; holder = h; reference = q.reference }) (references gz (things_of z))) (held q i) there

  back : (q : Reference) → Among q (references gz (things_of z)) → Among q (references gk (things_of k))
  back q i =
      let b = of_borrows gz q (things_of z) i in
      let now : value_in gz q.at ≡ Some (value.Mut q.reference) = borrow_stands z d q.at q.reference b.among in
      let away : q.at ≡ in_cell o → ⊥ = λ e. no_cell_reference gz o q.reference (ap (value_in gz) (sym e) ∙ now) in
      let was : value_in gk q.at ≡ Some (value.Mut q.reference) = reference_at q.at (value_in gk q.at) q.reference (sym (u.stands q.at away) ∙ ap (seen_at q.at) now) in
      let y : Reference = record { at = q.at; holder = holder_of gk q.at q.reference.holder; reference = q.reference } in
      let there = reference_there k q.at q.reference was in
      subst (λ (h : Option Location). Among (record { at = q.at; holder = h; reference = q.reference }) (references gk (things_of k))) (sym (held y there) ∙ sym b.holder) there

  lent_on : (l : Location) → is_among l (lent_places k.code gk gk.threads) ≡ true → is_among l (lent_places z.code gz gz.threads) ≡ true
  lent_on l e =
      let y = lent_told gk l (takings k.code gk.threads) (sym (ap (is_among l) (lents_are k.code gk gk.threads)) ∙ e) in
      ap (is_among l) (lents_are z.code gz gz.threads) ∙ lent_listed gz l y.taking (takings z.code gz.threads) (u.took y.taking y.among) (ap (λ m. is_among l (with_place m [])) (u.taken y.taking y.among) ∙ y.at)

  lent_back : (l : Location) → is_among l (lent_places z.code gz gz.threads) ≡ true → is_among l (lent_places k.code gk gk.threads) ≡ true
  lent_back l e =
      let y = lent_told gz l (takings z.code gz.threads) (sym (ap (is_among l) (lents_are z.code gz gz.threads)) ∙ e) in
      let x = u.takes y.taking y.among in
      ap (is_among l) (lents_are k.code gk gk.threads) ∙ lent_listed gk l y.taking (takings k.code gk.threads) x (ap (λ m. is_among l (with_place m [])) (sym (u.taken y.taking x)) ∙ y.at)

  stale_on : (l : Location) → IsStale (sight k) (Some l) → IsStale (sight z) (Some l)
  stale_on l (changed_above q i h ch) = changed_above q (on q i) h ch
  stale_on l (stale_above q i h s) = stale_above q (on q i) h (stale_on q.at s)
  stale_on l (taken_above m) = taken_above (lent_on l m)

  stale_back : (l : Location) → IsStale (sight z) (Some l) → IsStale (sight k) (Some l)
  stale_back l (changed_above q i h ch) = changed_above q (back q i) h ch
  stale_back l (stale_above q i h s) = stale_above q (back q i) h (stale_back q.at s)
  stale_back l (taken_above m) = taken_above (lent_back l m)

  -- references that aren't stale are the same
  pub beside_on : ChangedGo k z
  beside_on q m n = record { reference = q; among = on q m; same = refl; fresh = λ s. n (stale_back q.at s) }

  pub beside_back : ChangedGo z k
  beside_back q m n = record { reference = q; among = back q m; same = refl; fresh = λ s. n (stale_on q.at s) }
