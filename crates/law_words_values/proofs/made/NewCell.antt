-- A new object: of two clusters words see the same, but that the second one has a cell with what the first one gives, and gives its box.
use Rattle.std.proofs.Common.{◌≡◌, ◌⊎◌, inl, inr, ⊎_elim, ℕ, zero, suc, Bool, List, ◌∷◌, Option, Some, None, refl, sym, ap, subst, ◌∙◌}
use Rattle.law_counts_things.specs.Below.fr_base.declared.name.ObjNo.{ObjNo}
use Rattle.law_counts_things.specs.Below.heap_partition.declared.value.Cell.{Cell}
use Rattle.law_counts_things.specs.Below.heap_partition.declared.value.Owned.TheVariants as owned
use Rattle.law_counts_things.specs.Below.mut_borrow.declared.mutable.MutRef.{MutRef}
use Rattle.law_counts_things.specs.Below.thread_state.View.{ThreadState}
use Rattle.law_counts_things.specs.Below.thread_state.declared.value.Value.{Value}
use Rattle.law_counts_things.specs.Below.thread_state.declared.value.Value.TheVariants as value
use Rattle.law_counts_things.specs.Below.server_model.Servers.{Cluster}
use Rattle.law_counts_things.specs.Below.coherent_memory.Names.{Among, tot}
use Rattle.law_counts_things.specs.Below.coherent_memory.Things.{Location, at_slot, at_temp, in_cell, in_hand, Thing, holds, lies, flies, stands, things_of}
use Rattle.law_counts_things.specs.Below.coherent_memory.Follow.{Standing, Ground, threads_in, cells_in, cell_of, value_of, value_in, value_behind, leads, locate}
use Rattle.law_counts_things.specs.Below.coherent_memory.Stale.{holder_of, one_star_less}
use Rattle.law_counts_things.specs.Below.coherent_memory.Sight.{Pointer, pointer_in, pointers_in, sight}
use Rattle.law_counts_things.specs.Below.coherent_memory.Placing.{standing_in}
use Rattle.law_counts_things.specs.Below.coherent_memory.Weights.{cells}
use Rattle.law_counts_things.specs.Below.coherent_memory.Words.{LeadsTo}
use Rattle.law_counts_things.proofs.Below.coherent_memory.Bags.{among_split}
use Rattle.law_counts_things.proofs.Below.coherent_memory.Words.{none_at}
use Rattle.law_counts_things.proofs.Below.law_words_paths.paths.Sole.{some_is}
use Rattle.law_words_values.specs.Below.law_words_paths.words.Reworded.{HasPlaces, LiesThere}
use Rattle.law_words_values.specs.Below.law_words_paths.words.Unmoved.{seen_at, takings}
use Rattle.law_words_values.proofs.Below.law_words_paths.words.Standing.{CellOf, lying, flying, cell_among, pointers_among, pointer_at, tells, stands_in}
use Rattle.law_words_values.proofs.Below.law_words_paths.words.Loose.{box_nowhere}
use Rattle.law_words_values.proofs.Below.law_words_paths.words.Takings.{leads_pointing}
use Rattle.law_words_values.proofs.Below.law_words_kept.stays.Alike.{shows_turn, StandsIn, Within, Alike, standing_turn}
use Rattle.law_words_values.specs.carried.Made.{new_pointer, Made}
use Rattle.law_words_values.proofs.carried.Far.{loose_within, CellIn, lies_in, flies_in}
use Rattle.law_words_values.proofs.carried.Hands.{RootedIn}
use Rattle.law_words_values.proofs.carried.Passing.{move_in, no_temp}
use Rattle.law_words_values.proofs.made.Unnamed.{NonePoints, cell_weighs}
use Rattle.law_words_values.proofs.made.Sames.{taken_on, CellAway, stands_alike}

module _ (k z : Cluster) (c : HasPlaces k) (d : HasPlaces z) (same : z.code ≡ k.code) (rest : List Thing) (m a w : ℕ) (e : Cell) (none : tot (cells e.object) rest ≡ 0)
    (p : Alike k.code (things_of k) (holds in_hand e.value ∷ rest)) (q : Alike k.code (things_of z) (holds in_hand (owned.Box (record { word = w; object = e.object })) ∷ lies m a e ∷ rest)) where
  abbrev o : ObjNo
  o = e.object

  abbrev cell : Location
  cell = in_cell o

  abbrev tk : List Standing
  tk = threads_in (things_of k)

  abbrev tz : List Standing
  tz = threads_in (things_of z)

  abbrev gk : Ground
  gk = (sight k).ground

  abbrev gz : Ground
  gz = (sight z).ground

  rest_in_k : Within k.code rest (things_of k)
  rest_in_k y h = p.back y (inr h)

  rest_in_z : Within k.code rest (things_of z)
  rest_in_z y h = q.back y (inr (inr h))

  -- no cell of the rest is the object's
  not_rest : (g : Cell) (y : Thing) → CellOf g y → g.object ≡ o → Among y rest → ⊥
  not_rest g y is s h = cell_weighs o g y is s (none_at (cells o) y rest none h)

  -- THREADS

  thread_on : (s : ℕ) (b : Bool) (t : ThreadState) → Among (stands s b t) (things_of k) → StandsIn k.code (things_of z) t
  thread_on s b t h = let x = p.on (stands s b t) h in by x x.among
    where
      by : (x : StandsIn k.code (holds in_hand e.value ∷ rest) t) → Among (stands x.server x.packed x.thread) (holds in_hand e.value ∷ rest) → StandsIn k.code (things_of z) t
      by x (inl f) = absurd cc
      by x (inr f) = let y = rest_in_z (stands x.server x.packed x.thread) f in record { server = y.server; packed = y.packed; thread = y.thread; among = y.among; shows = shows_turn k.code t x.thread y.thread x.shows y.shows }

  thread_back : (s : ℕ) (b : Bool) (t : ThreadState) → Among (stands s b t) (things_of z) → StandsIn k.code (things_of k) t
  thread_back s b t h = let x = q.on (stands s b t) h in by x x.among
    where
      by : (x : StandsIn k.code (holds in_hand (owned.Box (record { word = w; object = e.object })) ∷ lies m a e ∷ rest) t) → Among (stands x.server x.packed x.thread) (holds in_hand (owned.Box (record { word = w; object = e.object })) ∷ lies m a e ∷ rest) → StandsIn k.code (things_of k) t
      by x (inl f) = absurd cc
      by x (inr (inl f)) = absurd cc
      by x (inr (inr f)) = let y = rest_in_k (stands x.server x.packed x.thread) f in record { server = y.server; packed = y.packed; thread = y.thread; among = y.among; shows = shows_turn k.code t x.thread y.thread x.shows y.shows }

  -- CELLS

  cell_on : (g : Cell) (y : Thing) → CellOf g y → Among y (things_of k) → CellIn (things_of z) g
  cell_on g _ (lying r s) h = by (p.on (lies r s g) h)
    where
      by : Among (lies r s g) (holds in_hand e.value ∷ rest) → CellIn (things_of z) g
      by (inl f) = absurd cc
      by (inr f) = lies_in r s g (rest_in_z (lies r s g) f)
  cell_on g _ (flying v) h = by (p.on (flies v g) h)
    where
      by : Among (flies v g) (holds in_hand e.value ∷ rest) → CellIn (things_of z) g
      by (inl f) = absurd cc
      by (inr f) = flies_in v g (rest_in_z (flies v g) f)

  new_lies : (r s : ℕ) (x : Cell) → lies m a e ≡ lies r s x → (m ≡ r) × (a ≡ s) × (e ≡ x)
  new_lies r s x f = (cc, cc, cc)

  cell_back : (g : Cell) (y : Thing) → CellOf g y → Among y (things_of z) → (g.object ≡ o → ⊥) → CellIn (things_of k) g
  cell_back g _ (lying r s) h away = by (q.on (lies r s g) h)
    where
      by : Among (lies r s g) (holds in_hand (owned.Box (record { word = w; object = e.object })) ∷ lies m a e ∷ rest) → CellIn (things_of k) g
      by (inl f) = absurd cc
      by (inr (inl f)) = absurd (away (ap (λ (i : Cell). i.object) (sym (new_lies r s g f).2)))
      by (inr (inr f)) = lies_in r s g (rest_in_k (lies r s g) f)
  cell_back g _ (flying v) h away = by (q.on (flies v g) h)
    where
      by : Among (flies v g) (holds in_hand (owned.Box (record { word = w; object = e.object })) ∷ lies m a e ∷ rest) → CellIn (things_of k) g
      by (inl f) = absurd cc
      by (inr (inl f)) = absurd cc
      by (inr (inr f)) = flies_in v g (rest_in_k (flies v g) f)

  -- what the object's cell has
  new_value : (g : Cell) (y : Thing) → CellOf g y → Among y (things_of z) → g.object ≡ o → e.value ≡ g.value
  new_value g _ (lying r s) h is = by (q.on (lies r s g) h)
    where
      by : Among (lies r s g) (holds in_hand (owned.Box (record { word = w; object = e.object })) ∷ lies m a e ∷ rest) → e.value ≡ g.value
      by (inl f) = absurd cc
      by (inr (inl f)) = ap (λ (i : Cell). i.value) (new_lies r s g f).2
      by (inr (inr f)) = absurd (not_rest g (lies r s g) (lying r s) is f)
  new_value g _ (flying v) h is = by (q.on (flies v g) h)
    where
      by : Among (flies v g) (holds in_hand (owned.Box (record { word = w; object = e.object })) ∷ lies m a e ∷ rest) → e.value ≡ g.value
      by (inl f) = absurd cc
      by (inr (inl f)) = absurd cc
      by (inr (inr f)) = absurd (not_rest g (flies v g) (flying v) is f)

  -- WHAT STANDS WHERE

  stands_same : (l : Location) → (l ≡ cell → ⊥) → seen_at l (value_in gz l) ≡ seen_at l (value_in gk l)
  stands_same l away = stands_alike k.code k z c d (λ n. n ≡ o → ⊥) thread_on thread_back cell_on cell_back l (apart l away)
    where
      apart : (x : Location) → (x ≡ cell → ⊥) → CellAway (λ n. n ≡ o → ⊥) x
      apart (at_slot u i) f = tt
      apart (at_temp u i) f = tt
      apart (in_cell n) f = λ s. f (ap (λ y. in_cell y) s)

  -- WHERE PLACES LEAD, while nothing is in the cell

  module _ (before : value_in gk cell ≡ None) where
    none_leads : (t : ℕ) (l x : Location) → x ≡ cell → leads t (value_in gk x) ≡ Some l → ⊥
    none_leads t l x s g = let v : leads t None ≡ Some l = sym (ap (leads t) (ap (value_in gk) s ∙ before)) ∙ g in absurd cc

    one_more : (t slot n : ℕ) (l x : Location) → locate gk t slot n ≡ Some x → leads t (value_in gk x) ≡ Some l → leads t (value_in gz x) ≡ Some l
    one_more t slot n l (at_slot u i) f g = sym (leads_pointing t (value_in gz (at_slot u i))) ∙ ap (leads t) (stands_same (at_slot u i) (λ s. none_leads t l (at_slot u i) s g)) ∙ leads_pointing t (value_in gk (at_slot u i)) ∙ g
    one_more t slot n l (in_cell x) f g = sym (leads_pointing t (value_in gz (in_cell x))) ∙ ap (leads t) (stands_same (in_cell x) (λ s. none_leads t l (in_cell x) s g)) ∙ leads_pointing t (value_in gk (in_cell x)) ∙ g
    one_more t slot n l (at_temp u i) f g = absurd (no_temp gk t slot n u i f)

    -- what a longer place passes
    passed : (t slot n : ℕ) (l : Location) → locate gk t slot (suc n) ≡ Some l → (x : Location) × (locate gk t slot n ≡ Some x) × (leads t (value_in gk x) ≡ Some l)
    passed t slot n l f = by (locate gk t slot n) refl f
      where
        by : (i : Option Location) → locate gk t slot n ≡ i → leads t (value_behind gk i) ≡ Some l → (x : Location) × (locate gk t slot n ≡ Some x) × (leads t (value_in gk x) ≡ Some l)
        by None g h = absurd cc
        by (Some x) g h = (x, g, h)

    leads_on : (t slot n : ℕ) (l : Location) → locate gk t slot n ≡ Some l → locate gz t slot n ≡ Some l
    leads_on t slot zero l f = f
    leads_on t slot (suc n) l f = let x = passed t slot n l f in ap (λ y. leads t (value_behind gz y)) (leads_on t slot n x.0 x.1) ∙ one_more t slot n l x.0 x.1 x.2

    less_same : (t slot n : ℕ) (l : Location) → locate gk t slot n ≡ Some l → one_star_less gz t slot n ≡ one_star_less gk t slot n
    less_same t slot zero l f = refl
    less_same t slot (suc n) l f = let x = passed t slot n l f in leads_on t slot n x.0 x.1 ∙ sym x.1

    holders : (l x : Location) (r : MutRef) → value_in gk l ≡ Some (value.Mut r) → holder_of gk l r.holder ≡ Some x → holder_of gz l r.holder ≡ Some x
    holders (at_slot t i) x r f g = leads_on t r.holder.slot r.holder.depth x g
    holders (at_temp t i) x r f g = leads_on t r.holder.slot r.holder.depth x g
    holders (in_cell n) x r f g = absurd cc

    less_away : (t slot n : ℕ) (l : Location) → locate gk t slot n ≡ Some l → one_star_less gk t slot n ≡ Some cell → ⊥
    less_away t slot zero l f g = absurd cc
    less_away t slot (suc n) l f g = let x = passed t slot n l f in none_leads t l x.0 (some_is (sym x.1 ∙ g)) x.2

  -- POINTERS AT NO LOCATION

  no_loose : (x : Pointer) → x.at ≡ None → Among x (pointer_in (Some cell) e.value) → ⊥
  no_loose x f h = box_nowhere cell e.value x h f

  loose : (x : Pointer) → x.at ≡ None → Among x (pointers_in (things_of z)) → (new_pointer o w ≡ x) ⊎ Among x (pointers_in (things_of k))
  loose x f h = by (loose_within k.code (things_of z) (holds in_hand (owned.Box (record { word = w; object = e.object })) ∷ lies m a e ∷ rest) q.on x f h)
    where
      by : Among x (pointers_in (holds in_hand (owned.Box (record { word = w; object = e.object })) ∷ lies m a e ∷ rest)) → (new_pointer o w ≡ x) ⊎ Among x (pointers_in (things_of k))
      by (inl g) = inl g
      by (inr g) =
          ⊎_elim (λ (l : Among x (pointer_in (Some cell) e.value)). absurd (no_loose x f l)) (λ (r : Among x (pointers_in rest)). inr (loose_within k.code rest (things_of k) rest_in_k x f r))
          (among_split x (pointer_in (Some cell) e.value) (pointers_in rest) g)

  standing : (x : Pointer) → x.at ≡ None → Among x (standing_in (things_of z)) → (new_pointer o w ≡ x) ⊎ Among x (standing_in (things_of k))
  standing x f h = by (standing_turn k.code (things_of z) (holds in_hand (owned.Box (record { word = w; object = e.object })) ∷ lies m a e ∷ rest) x q.on f h)
    where
      by : Among x (standing_in (holds in_hand (owned.Box (record { word = w; object = e.object })) ∷ lies m a e ∷ rest)) → (new_pointer o w ≡ x) ⊎ Among x (standing_in (things_of k))
      by (inl g) = inl g
      by (inr g) =
          ⊎_elim (λ (l : Among x (pointer_in (Some cell) e.value)). absurd (no_loose x f l)) (λ (r : Among x (standing_in rest)). inr (standing_turn k.code rest (things_of k) x rest_in_k f r))
          (among_split x (pointer_in (Some cell) e.value) (standing_in rest) g)

  -- what was given is in the cell
  in_new : (x : Pointer) → Among x (pointer_in None e.value) → Among (record x { at = Some cell }) (pointers_in (things_of z))
  in_new x h = pointers_among (record x { at = Some cell }) (lies m a e) (things_of z) (q.back (lies m a e) (inr (inl refl))) (move_in None (Some cell) e.value x h)

  remain : (x : Pointer) → x.at ≡ None → Among x (pointers_in (things_of k)) → Among x (pointers_in (things_of z)) ⊎ Among (record x { at = Some cell }) (pointers_in (things_of z))
  remain x f h =
      ⊎_elim (λ (l : Among x (pointer_in None e.value)). inr (in_new x l)) (λ (r : Among x (pointers_in rest)). inl (loose_within k.code rest (things_of z) rest_in_z x f r))
      (among_split x (pointer_in None e.value) (pointers_in rest) (loose_within k.code (things_of k) (holds in_hand e.value ∷ rest) p.on x f h))

  pointer : Among (new_pointer o w) (pointers_in (things_of z))
  pointer = stands_in (new_pointer o w) (things_of z) (q.back (holds in_hand (owned.Box (record { word = w; object = e.object }))) (inl refl) (new_pointer o w) refl (inl refl))

  into : (x : Pointer) → x.at ≡ Some cell → Among x (pointers_in (things_of z)) → Among (record x { at = None }) (standing_in (things_of k))
  into x f h = let t = tells z d x cell h f in by t.value (cell_of (cells_in (things_of z)) o) refl t.stands t.pointer
    where
      by : (v : Value) (i : Option Cell) → cell_of (cells_in (things_of z)) o ≡ i → value_of i ≡ Some v → Among x (pointer_at cell v) → Among (record x { at = None }) (standing_in (things_of k))
      by v None g s r = absurd cc
      by v (Some n) g s r =
          let i = cell_among o n (things_of z) g in
          let at : Among x (pointer_at cell (value.Own n.value)) = subst (λ j. Among x (pointer_at cell j)) (sym (some_is s)) r in
          let mine : Among x (pointer_in (Some cell) e.value) = subst (λ j. Among x (pointer_in (Some cell) j)) (sym (new_value n i.thing i.is i.among i.object)) at in
          p.back (holds in_hand e.value) (inl refl) (record x { at = None }) refl (move_in (Some cell) None e.value x mine)

  -- WHERE OBJECTS LIE

  home : LeadsTo m a w → (r s : ℕ) (g : Cell) → Among (lies r s g) (things_of z) → g.object ≡ o → LeadsTo r s w
  home leads r s g h is = by (q.on (lies r s g) h)
    where
      by : Among (lies r s g) (holds in_hand (owned.Box (record { word = w; object = e.object })) ∷ lies m a e ∷ rest) → LeadsTo r s w
      by (inl f) = absurd cc
      by (inr (inl f)) = let y = new_lies r s g f in record { server = leads.server ∙ y.0; address = leads.address ∙ y.1 }
      by (inr (inr f)) = absurd (not_rest g (lies r s g) (lying r s) is f)

  lay : (r s : ℕ) (g : Cell) → Among (lies r s g) (things_of z) → (g.object ≡ o → ⊥) → LiesThere k r s g.object
  lay r s g h away = by (q.on (lies r s g) h)
    where
      by : Among (lies r s g) (holds in_hand (owned.Box (record { word = w; object = e.object })) ∷ lies m a e ∷ rest) → LiesThere k r s g.object
      by (inl f) = absurd cc
      by (inr (inl f)) = absurd (away (ap (λ (i : Cell). i.object) (sym (new_lies r s g f).2)))
      by (inr (inr f)) = record { cell = g; among = rest_in_k (lies r s g) f; object = refl }

  -- SO AN OBJECT IS MADE

  pub is_made : value_in gk cell ≡ None → NonePoints k o → RootedIn k → LeadsTo m a w → Made k z o w
  is_made before unnamed rooted leads = record {
    stands = stands_same;
    before = before;
    holders = holders before;
    taken = λ t h. (let r = rooted t h in (leads_on before t.thread t.place.slot t.place.depth r.0 r.1 ∙ sym r.1, less_same before t.thread t.place.slot t.place.depth r.0 r.1));
    untaken = λ t h f. (let r = rooted t h in less_away before t.thread t.place.slot t.place.depth r.0 r.1 f);
    takes = λ t h. taken_on k.code (things_of z) k c thread_back t (subst (λ n. Among t (takings n tz)) same h);
    took = λ t h. subst (λ n. Among t (takings n tz)) (sym same) (taken_on k.code (things_of k) z d thread_on t h);
    pointer = pointer;
    loose = loose;
    remain = remain;
    standing = standing;
    into = into;
    unnamed = unnamed;
    home = home leads;
    lay = lay;
  }
