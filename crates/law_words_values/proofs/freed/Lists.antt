-- Of two clusters words see the same, but that an object lies in the first one whose `drop` is there, and that what it owned is at no place in the second one.
use Rattle.std.proofs.Common.{◌≡◌, ◌⊎◌, inl, inr, ⊎_elim, ℕ, zero, suc, Bool, List, ◌∷◌, Option, Some, None, refl, sym, ap, subst, ◌∙◌}
use Rattle.law_results_reads.specs.Below.fr_base.declared.name.ObjNo.{ObjNo}
use Rattle.law_results_reads.specs.Below.heap_partition.declared.value.Cell.{Cell}
use Rattle.law_results_reads.specs.Below.mut_borrow.declared.mutable.MutRef.{MutRef}
use Rattle.law_results_reads.specs.Below.server_model.Servers.{Cluster}
use Rattle.law_results_reads.specs.Below.server_msgs.declared.message.Message.TheVariants.{Drop}
use Rattle.law_results_reads.specs.Below.thread_state.View.{ThreadState}
use Rattle.law_results_reads.specs.Below.thread_state.declared.value.Value.TheVariants as value
use Rattle.law_results_reads.specs.Below.coherent_memory.Names.{Among, tot}
use Rattle.law_results_reads.specs.Below.coherent_memory.Things.{Location, at_slot, at_temp, in_cell, in_hand, Thing, holds, lies, flies, sent, stands, things_of}
use Rattle.law_results_reads.specs.Below.coherent_memory.Follow.{Ground, cells_in, cell_of, value_of, value_in, value_behind, leads, locate}
use Rattle.law_results_reads.specs.Below.coherent_memory.Stale.{holder_of, one_star_less}
use Rattle.law_results_reads.specs.Below.coherent_memory.Sight.{Pointer, pointer_in, pointers_in, sight}
use Rattle.law_results_reads.specs.Below.coherent_memory.Placing.{standing_in}
use Rattle.law_results_reads.specs.Below.coherent_memory.Weights.{cells}
use Rattle.law_results_reads.proofs.Below.coherent_memory.Bags.{among_split}
use Rattle.law_results_reads.proofs.Below.coherent_memory.Words.{none_at}
use Rattle.law_results_reads.proofs.Below.law_words_paths.paths.Sole.{some_is}
use Rattle.law_words_values.specs.Below.law_words_paths.words.Reworded.{HasPlaces, LiesThere}
use Rattle.law_words_values.specs.Below.law_words_paths.words.Unmoved.{seen_at, takings}
use Rattle.law_words_values.proofs.Below.law_words_paths.words.Standing.{CellOf, lying, flying, cell_among, cell_found, pointers_among, standing_among, pointer_at, tells, stands_in}
use Rattle.law_words_values.proofs.Below.law_words_paths.words.Loose.{box_nowhere}
use Rattle.law_words_values.proofs.Below.law_words_paths.words.Takings.{leads_pointing}
use Rattle.law_words_values.proofs.Below.law_words_kept.stays.Alike.{shows_turn, StandsIn, Within, Alike, standing_turn}
use Rattle.law_words_values.proofs.carried.Far.{loose_within, CellIn, lies_in, flies_in}
use Rattle.law_words_values.proofs.carried.Hands.{RootedIn}
use Rattle.law_words_values.proofs.carried.Passing.{move_in, no_temp}
use Rattle.law_words_values.proofs.made.Unnamed.{cell_weighs}
use Rattle.law_words_values.proofs.made.Sames.{taken_on, CellAway, stands_alike}
use Rattle.law_words_values.specs.freed.Freed.{Freed}

-- nothing leads to the object
abbrev pub NoneLeads : Cluster → ObjNo → Type 0
NoneLeads k o = (t : ℕ) (l : Location) → leads t (value_in (sight k).ground l) ≡ Some (in_cell o) → ⊥

module _ (k z : Cluster) (c : HasPlaces k) (d : HasPlaces z) (same : z.code ≡ k.code) (rest : List Thing) (n m a w : ℕ) (e : Cell) (none : tot (cells e.object) rest ≡ 0)
    (p : Alike k.code (things_of k) (sent n (Drop w e.object) ∷ lies m a e ∷ rest)) (q : Alike k.code (things_of z) (holds in_hand e.value ∷ rest)) where
  abbrev o : ObjNo
  o = e.object

  abbrev cell : Location
  cell = in_cell o

  abbrev gk : Ground
  gk = (sight k).ground

  abbrev gz : Ground
  gz = (sight z).ground

  rest_in_k : Within k.code rest (things_of k)
  rest_in_k y h = p.back y (inr (inr h))

  rest_in_z : Within k.code rest (things_of z)
  rest_in_z y h = q.back y (inr h)

  -- no cell of the rest is the object's
  not_rest : (g : Cell) (y : Thing) → CellOf g y → g.object ≡ o → Among y rest → ⊥
  not_rest g y is s h = cell_weighs o g y is s (none_at (cells o) y rest none h)

  -- THREADS

  thread_on : (s : ℕ) (b : Bool) (t : ThreadState) → Among (stands s b t) (things_of k) → StandsIn k.code (things_of z) t
  thread_on s b t h = let x = p.on (stands s b t) h in by x x.among
    where
      by : (x : StandsIn k.code (sent n (Drop w e.object) ∷ lies m a e ∷ rest) t) → Among (stands x.server x.packed x.thread) (sent n (Drop w e.object) ∷ lies m a e ∷ rest) → StandsIn k.code (things_of z) t
      by x (inl f) = absurd cc
      by x (inr (inl f)) = absurd cc
      by x (inr (inr f)) = let y = rest_in_z (stands x.server x.packed x.thread) f in record { server = y.server; packed = y.packed; thread = y.thread; among = y.among; shows = shows_turn k.code t x.thread y.thread x.shows y.shows }

  thread_back : (s : ℕ) (b : Bool) (t : ThreadState) → Among (stands s b t) (things_of z) → StandsIn k.code (things_of k) t
  thread_back s b t h = let x = q.on (stands s b t) h in by x x.among
    where
      by : (x : StandsIn k.code (holds in_hand e.value ∷ rest) t) → Among (stands x.server x.packed x.thread) (holds in_hand e.value ∷ rest) → StandsIn k.code (things_of k) t
      by x (inl f) = absurd cc
      by x (inr f) = let y = rest_in_k (stands x.server x.packed x.thread) f in record { server = y.server; packed = y.packed; thread = y.thread; among = y.among; shows = shows_turn k.code t x.thread y.thread x.shows y.shows }

  -- CELLS

  its_rest : (g : Cell) (y : Thing) → CellOf g y → Among y (things_of z) → Among y rest
  its_rest g _ (lying r s) h = by (q.on (lies r s g) h)
    where
      by : Among (lies r s g) (holds in_hand e.value ∷ rest) → Among (lies r s g) rest
      by (inl f) = absurd cc
      by (inr f) = f
  its_rest g _ (flying v) h = by (q.on (flies v g) h)
    where
      by : Among (flies v g) (holds in_hand e.value ∷ rest) → Among (flies v g) rest
      by (inl f) = absurd cc
      by (inr f) = f

  cell_back : (g : Cell) (y : Thing) → CellOf g y → Among y (things_of z) → CellIn (things_of k) g
  cell_back g _ (lying r s) h = lies_in r s g (rest_in_k (lies r s g) (its_rest g (lies r s g) (lying r s) h))
  cell_back g _ (flying v) h = flies_in v g (rest_in_k (flies v g) (its_rest g (flies v g) (flying v) h))

  old_lies : (r s : ℕ) (x : Cell) → lies m a e ≡ lies r s x → e ≡ x
  old_lies r s x f = cc

  cell_on : (g : Cell) (y : Thing) → CellOf g y → Among y (things_of k) → (g.object ≡ o → ⊥) → CellIn (things_of z) g
  cell_on g _ (lying r s) h away = by (p.on (lies r s g) h)
    where
      by : Among (lies r s g) (sent n (Drop w e.object) ∷ lies m a e ∷ rest) → CellIn (things_of z) g
      by (inl f) = absurd cc
      by (inr (inl f)) = absurd (away (ap (λ (i : Cell). i.object) (sym (old_lies r s g f))))
      by (inr (inr f)) = lies_in r s g (rest_in_z (lies r s g) f)
  cell_on g _ (flying v) h away = by (p.on (flies v g) h)
    where
      by : Among (flies v g) (sent n (Drop w e.object) ∷ lies m a e ∷ rest) → CellIn (things_of z) g
      by (inl f) = absurd cc
      by (inr (inl f)) = absurd cc
      by (inr (inr f)) = flies_in v g (rest_in_z (flies v g) f)

  -- WHAT STANDS WHERE

  stands_same : (l : Location) → (l ≡ cell → ⊥) → seen_at l (value_in gz l) ≡ seen_at l (value_in gk l)
  stands_same l away = sym (stands_alike k.code z k d c (λ i. i ≡ o → ⊥) thread_back thread_on cell_back cell_on l (apart l away))
    where
      apart : (x : Location) → (x ≡ cell → ⊥) → CellAway (λ i. i ≡ o → ⊥) x
      apart (at_slot u i) f = tt
      apart (at_temp u i) f = tt
      apart (in_cell i) f = λ s. f (ap (λ y. in_cell y) s)

  gone : value_in gz cell ≡ None
  gone = by (cell_of (cells_in (things_of z)) o) refl
    where
      by : (i : Option Cell) → cell_of (cells_in (things_of z)) o ≡ i → value_of i ≡ None
      by None f = refl
      by (Some g) f = let i = cell_among o g (things_of z) f in absurd (not_rest g i.thing i.is i.object (its_rest g i.thing i.is i.among))

  lay_there : Among (lies m a e) (things_of k)
  lay_there = p.back (lies m a e) (inr (inl refl))

  value_before : value_in gk cell ≡ Some (value.Own e.value)
  value_before = ap value_of (cell_found e (lies m a e) (things_of k) (c.home_of_each o) (lying m a) lay_there)

  -- WHERE PLACES LEAD, where nothing leads to the object

  module _ (unled : NoneLeads k o) where
    -- what a longer place passes
    passed : (t slot i : ℕ) (l : Location) → locate gk t slot (suc i) ≡ Some l → (x : Location) × (locate gk t slot i ≡ Some x) × (leads t (value_in gk x) ≡ Some l)
    passed t slot i l f = by (locate gk t slot i) refl f
      where
        by : (x : Option Location) → locate gk t slot i ≡ x → leads t (value_behind gk x) ≡ Some l → (x : Location) × (locate gk t slot i ≡ Some x) × (leads t (value_in gk x) ≡ Some l)
        by None g h = absurd cc
        by (Some x) g h = (x, g, h)

    not_cell : (t slot i : ℕ) (x : Location) → locate gk t slot i ≡ Some x → x ≡ cell → ⊥
    not_cell t slot zero x f s = let v : Some (at_slot t slot) ≡ Some cell = f ∙ ap Some s in absurd (cc v)
    not_cell t slot (suc i) x f s = let y = passed t slot i x f in unled t y.0 (y.2 ∙ ap Some s)

    one_more : (t slot i : ℕ) (l x : Location) → locate gk t slot i ≡ Some x → leads t (value_in gk x) ≡ Some l → leads t (value_in gz x) ≡ Some l
    one_more t slot i l (at_slot u j) f g = sym (leads_pointing t (value_in gz (at_slot u j))) ∙ ap (leads t) (stands_same (at_slot u j) (not_cell t slot i (at_slot u j) f)) ∙ leads_pointing t (value_in gk (at_slot u j)) ∙ g
    one_more t slot i l (in_cell x) f g = sym (leads_pointing t (value_in gz (in_cell x))) ∙ ap (leads t) (stands_same (in_cell x) (not_cell t slot i (in_cell x) f)) ∙ leads_pointing t (value_in gk (in_cell x)) ∙ g
    one_more t slot i l (at_temp u j) f g = absurd (no_temp gk t slot i u j f)

    leads_on : (t slot i : ℕ) (l : Location) → locate gk t slot i ≡ Some l → locate gz t slot i ≡ Some l
    leads_on t slot zero l f = f
    leads_on t slot (suc i) l f = let x = passed t slot i l f in ap (λ y. leads t (value_behind gz y)) (leads_on t slot i x.0 x.1) ∙ one_more t slot i l x.0 x.1 x.2

    less_same : (t slot i : ℕ) (l : Location) → locate gk t slot i ≡ Some l → one_star_less gz t slot i ≡ one_star_less gk t slot i
    less_same t slot zero l f = refl
    less_same t slot (suc i) l f = let x = passed t slot i l f in leads_on t slot i x.0 x.1 ∙ sym x.1

    less_away : (t slot i : ℕ) → one_star_less gk t slot i ≡ Some cell → ⊥
    less_away t slot zero f = absurd cc
    less_away t slot (suc i) f = not_cell t slot i cell f refl

    holders : (l x : Location) (r : MutRef) → value_in gk l ≡ Some (value.Mut r) → holder_of gk l r.holder ≡ Some x → (holder_of gz l r.holder ≡ Some x) × (x ≡ cell → ⊥)
    holders (at_slot t i) x r f g = (leads_on t r.holder.slot r.holder.depth x g, not_cell t r.holder.slot r.holder.depth x g)
    holders (at_temp t i) x r f g = (leads_on t r.holder.slot r.holder.depth x g, not_cell t r.holder.slot r.holder.depth x g)
    holders (in_cell i) x r f g = absurd cc

  -- POINTERS AT NO LOCATION

  no_loose : (x : Pointer) → x.at ≡ None → Among x (pointer_in (Some cell) e.value) → ⊥
  no_loose x f h = box_nowhere cell e.value x h f

  -- what was in the cell
  in_old : (x : Pointer) → Among x (pointer_in None e.value) → Among (record x { at = Some cell }) (pointer_in (Some cell) e.value)
  in_old x h = move_in None (Some cell) e.value x h

  loose : (x : Pointer) → x.at ≡ None → Among x (pointers_in (things_of z)) → Among x (pointers_in (things_of k)) ⊎ Among (record x { at = Some cell }) (pointers_in (things_of k))
  loose x f h =
      ⊎_elim (λ (l : Among x (pointer_in None e.value)). inr (pointers_among (record x { at = Some cell }) (lies m a e) (things_of k) lay_there (in_old x l)))
      (λ (r : Among x (pointers_in rest)). inl (loose_within k.code rest (things_of k) rest_in_k x f r))
      (among_split x (pointer_in None e.value) (pointers_in rest) (loose_within k.code (things_of z) (holds in_hand e.value ∷ rest) q.on x f h))

  standing : (x : Pointer) → x.at ≡ None → Among x (standing_in (things_of z)) → Among x (standing_in (things_of k)) ⊎ Among (record x { at = Some cell }) (standing_in (things_of k))
  standing x f h =
      ⊎_elim (λ (l : Among x (pointer_in None e.value)). inr (standing_among (record x { at = Some cell }) (lies m a e) (things_of k) lay_there (in_old x l)))
      (λ (r : Among x (standing_in rest)). inl (standing_turn k.code rest (things_of k) x rest_in_k f r))
      (among_split x (pointer_in None e.value) (standing_in rest) (standing_turn k.code (things_of z) (holds in_hand e.value ∷ rest) x q.on f h))

  remain : (x : Pointer) → x.at ≡ None → Among x (pointers_in (things_of k)) → (x.object ≡ o) ⊎ Among x (pointers_in (things_of z))
  remain x f h = by (loose_within k.code (things_of k) (sent n (Drop w e.object) ∷ lies m a e ∷ rest) p.on x f h)
    where
      by : Among x (pointers_in (sent n (Drop w e.object) ∷ lies m a e ∷ rest)) → (x.object ≡ o) ⊎ Among x (pointers_in (things_of z))
      by (inl g) = inl (ap (λ (y : Pointer). y.object) (sym g))
      by (inr g) =
          ⊎_elim (λ (l : Among x (pointer_in (Some cell) e.value)). absurd (no_loose x f l)) (λ (r : Among x (pointers_in rest)). inr (loose_within k.code rest (things_of z) rest_in_z x f r))
          (among_split x (pointer_in (Some cell) e.value) (pointers_in rest) g)

  out : (x : Pointer) → x.at ≡ Some cell → Among x (pointers_in (things_of k)) → Among (record x { at = None }) (pointers_in (things_of z))
  out x f h =
      let t = tells k c x cell h f in
      let is : t.value ≡ value.Own e.value = some_is (sym t.stands ∙ value_before) in
      let mine : Among x (pointer_in (Some cell) e.value) = subst (λ v. Among x (pointer_at cell v)) is t.pointer in
      stands_in (record x { at = None }) (things_of z) (q.back (holds in_hand e.value) (inl refl) (record x { at = None }) refl (move_in (Some cell) None e.value x mine))

  -- WHERE OBJECTS LIE

  lay : (r s : ℕ) (g : Cell) → Among (lies r s g) (things_of z) → (g.object ≡ o → ⊥) × LiesThere k r s g.object
  lay r s g h =
      let f = its_rest g (lies r s g) (lying r s) h in
      ((λ is. not_rest g (lies r s g) (lying r s) is f), record { cell = g; among = rest_in_k (lies r s g) f; object = refl })

  -- SO AN OBJECT GOES

  pub is_freed : NoneLeads k o → RootedIn k → Freed k z o
  is_freed unled rooted = record {
    stands = stands_same;
    gone = gone;
    holders = holders unled;
    taken = λ t h. (let r = rooted t h in (leads_on unled t.thread t.place.slot t.place.depth r.0 r.1 ∙ sym r.1, less_same unled t.thread t.place.slot t.place.depth r.0 r.1));
    untaken = λ t h f. less_away unled t.thread t.place.slot t.place.depth f;
    takes = λ t h. taken_on k.code (things_of z) k c thread_back t (subst (λ i. Among t (takings i gz.threads)) same h);
    took = λ t h. subst (λ i. Among t (takings i gz.threads)) (sym same) (taken_on k.code (things_of k) z d thread_on t h);
    loose = loose;
    remain = remain;
    standing = standing;
    out = out;
    lay = lay;
  }
