-- An object leaves: of two clusters words see the same, but that a cell lies at an address in the first one and is under way in the second one.
use Rattle.std.proofs.Common.{◌≡◌, ◌⊎◌, inl, inr, ⊎_elim, ℕ, Bool, List, [], ◌∷◌, Option, Some, None, refl, sym, ap, subst, ◌∙◌}
use Rattle.std.specs.Prelude.{⊤}
use Rattle.law_words_kept.specs.Below.fr_base.declared.instruction.Instr.{Instr}
use Rattle.law_words_kept.specs.Below.fr_base.declared.name.ObjNo.{ObjNo}
use Rattle.law_words_kept.specs.Below.heap_partition.declared.value.Cell.{Cell}
use Rattle.law_words_kept.specs.Below.thread_state.View.{ThreadState}
use Rattle.law_words_kept.specs.Below.thread_state.declared.value.Value.{Value}
use Rattle.law_words_kept.specs.Below.thread_state.declared.value.Value.TheVariants as value
use Rattle.law_words_kept.specs.Below.server_model.Servers.{Cluster}
use Rattle.law_words_kept.specs.Below.coherent_memory.Names.{Among}
use Rattle.law_words_kept.specs.Below.coherent_memory.Things.{Location, at_slot, at_temp, in_cell, Thing, lies, flies, stands, things_of}
use Rattle.law_words_kept.specs.Below.coherent_memory.Follow.{Standing, thread_at, threads_in, cells_in, cell_of, slot_of, temp_of, value_of, value_in}
use Rattle.law_words_kept.specs.Below.coherent_memory.Sight.{Pointer, pointer_in, pointers_of, pointers_in, sight}
use Rattle.law_words_kept.specs.Below.coherent_memory.Placing.{standing_in}
use Rattle.law_words_kept.proofs.Below.coherent_memory.Bags.{among_split}
use Rattle.law_words_kept.proofs.Below.coherent_types.Branches.{found}
use Rattle.law_words_kept.proofs.Below.law_words_paths.paths.Contained.{among_thread}
use Rattle.law_words_kept.proofs.Below.law_words_paths.paths.Origins.{among_second}
use Rattle.law_words_kept.specs.Below.law_words_paths.words.Reworded.{HasPlaces, LiesThere}
use Rattle.law_words_kept.specs.Below.law_words_paths.words.Unmoved.{pointing, owning, seen_at, Taking, with_taking, taking_of, takings}
use Rattle.law_words_kept.specs.Below.law_words_paths.words.OneMore.{Beside, OneMore}
use Rattle.law_words_kept.proofs.Below.law_words_paths.words.Standing.{CellOf, lying, flying, cell_among, cell_found, of_thing, pointers_among, stands_in}
use Rattle.law_words_kept.proofs.Below.law_words_paths.words.Loose.{box_nowhere}
use Rattle.law_words_kept.proofs.stays.Alike.{ShowsAs, shows_turn, StandsIn, Seen, Within, Alike, standing_turn}
use Rattle.law_words_values.proofs.carried.Taken.{taker_of}

-- THREADS AMONG THINGS

pub thread_thing : (x : Standing) (b : List Thing) → Among x (threads_in b) → Among (stands x.server x.packed x.thread) b
thread_thing x [] h = absurd h
thread_thing x (stands s p t ∷ b) (inl e) = inl (ap (λ (y : Standing). stands y.server y.packed y.thread) e)
thread_thing x (stands s p t ∷ b) (inr h) = inr (thread_thing x b h)
thread_thing x (_ ∷ b) h = inr (thread_thing x b h)

abbrev standing : ℕ → Bool → ThreadState → Standing
standing s p t = record { server = s; packed = p; thread = t }

same_standing : (s r : ℕ) (p q : Bool) (t u : ThreadState) → stands s p t ≡ stands r q u → standing s p t ≡ standing r q u
same_standing s r p q t u e = cc

pub thing_thread : (s : ℕ) (p : Bool) (t : ThreadState) (b : List Thing) → Among (stands s p t) b → Among (record { server = s; packed = p; thread = t }) (threads_in b)
thing_thread s p t [] h = absurd h
thing_thread s p t (stands r q u ∷ b) (inl e) = inl (same_standing r s q p u t e)
thing_thread s p t (stands r q u ∷ b) (inr h) = inr (thing_thread s p t b h)
thing_thread s p t (_ ∷ b) (inl e) = absurd cc
thing_thread s p t (_ ∷ b) (inr h) = thing_thread s p t b h

pub taking_listed : (code : List Instr) (x : Standing) (t : Taking) (xs : List Standing) → Among x xs → taking_of code x ≡ Some t → Among t (takings code xs)
taking_listed code x t [] h e = absurd h
taking_listed code x t (y ∷ xs) (inl q) e =
    let here : taking_of code y ≡ Some t = ap (taking_of code) q ∙ e in
    subst (λ o. Among t (with_taking o (takings code xs))) (sym here) (inl refl)
taking_listed code x t (y ∷ xs) (inr h) e = by (taking_of code y) (taking_listed code x t xs h e)
  where
    by : (o : Option Taking) → Among t (takings code xs) → Among t (with_taking o (takings code xs))
    by None g = g
    by (Some u) g = inr g

-- POINTERS AT NO LOCATION, of lists in which words see the same

pub loose_by : (code : List Instr) (b : List Thing) (p : Pointer) (y : Thing) → Seen code b y → p.at ≡ None → Among p (pointers_of y) → Among p (pointers_in b)
loose_by code b p (stands s q t) h e m = absurd m
loose_by code b p (lies r s c) h e m = absurd (box_nowhere (in_cell c.object) c.value p m e)
loose_by code b p (flies v c) h e (inl m) = pointers_among p (flies v c) b h (inl m)
loose_by code b p (flies v c) h e (inr m) = absurd (box_nowhere (in_cell c.object) c.value p m e)
loose_by code b p y h e m = stands_in p b (h p e m)

pub loose_within : (code : List Instr) (a b : List Thing) → Within code a b → (p : Pointer) → p.at ≡ None → Among p (pointers_in a) → Among p (pointers_in b)
loose_within code a b w p e m = let q = of_thing p a m in loose_by code b p q.thing (w q.thing q.among) e q.pointer

-- A CELL, WHEREVER IT IS

pub record CellIn (b : List Thing) (c : Cell) : Type 0 where
  pub cell : Cell
  pub thing : Thing
  pub is : CellOf cell thing
  pub among : Among thing b
  pub object : cell.object ≡ c.object
  pub value : pointing (Some (value.Own cell.value)) ≡ pointing (Some (value.Own c.value))

-- threads and cells are there, these at whatever place
abbrev pub Far : List Instr → List Thing → Thing → Type 0
Far code b (stands s p t) = StandsIn code b t
Far code b (lies r a c) = CellIn b c
Far code b (flies w c) = CellIn b c
Far code b x = ⊤

pub lies_in : {b : List Thing} (r a : ℕ) (c : Cell) → Among (lies r a c) b → CellIn b c
lies_in r a c q = record { cell = c; thing = lies r a c; is = lying r a; among = q; object = refl; value = refl }

pub flies_in : {b : List Thing} (w : ℕ) (c : Cell) → Among (flies w c) b → CellIn b c
flies_in w c q = record { cell = c; thing = flies w c; is = flying w; among = q; object = refl; value = refl }

-- between lists that are the same but for one cell's thing
module _ (code : List Instr) (a b r : List Thing) (x y : Thing) (e : Cell) (ix : CellOf e x) (iy : CellOf e y) (p : Within code a (x ∷ r)) (q : Within code (y ∷ r) b) where
  no_stand : (d : Cell) (z : Thing) (s : ℕ) (k : Bool) (t : ThreadState) → CellOf d z → z ≡ stands s k t → ⊥
  no_stand d _ s k t (lying m g) f = absurd cc
  no_stand d _ s k t (flying w) f = absurd cc

  moved_cell : (d : Cell) (z : Thing) → CellOf d z → Seen code b z → CellIn b d
  moved_cell d _ (lying m g) s = lies_in m g d s
  moved_cell d _ (flying w) s = flies_in w d s

  one_cell : (c d : Cell) (z w : Thing) → CellOf c z → CellOf d w → z ≡ w → c ≡ d
  one_cell c d _ _ (lying m g) (lying n h) f = cc
  one_cell c d _ _ (lying m g) (flying h) f = absurd cc
  one_cell c d _ _ (flying m) (lying n h) f = absurd cc
  one_cell c d _ _ (flying m) (flying h) f = cc

  cell_far : (d : Cell) (z : Thing) → CellOf d z → Among z (x ∷ r) → CellIn b d
  cell_far d z is (inl f) = subst (λ c. CellIn b c) (one_cell e d x z ix is f) (moved_cell e y iy (q y (inl refl)))
  cell_far d z is (inr h) = moved_cell d z is (q z (inr h))

  thread_far : (t : ThreadState) → StandsIn code (x ∷ r) t → StandsIn code b t
  thread_far t s = by s.among
    where
      by : Among (stands s.server s.packed s.thread) (x ∷ r) → StandsIn code b t
      by (inl f) = absurd (no_stand e x s.server s.packed s.thread ix f)
      by (inr h) =
          let z = q (stands s.server s.packed s.thread) (inr h) in
          record { server = z.server; packed = z.packed; thread = z.thread; among = z.among; shows = shows_turn code t s.thread z.thread s.shows z.shows }

  far_by : (z : Thing) → Seen code (x ∷ r) z → Far code b z
  far_by (stands s k t) h = thread_far t h
  far_by (lies m g c) h = cell_far c (lies m g c) (lying m g) h
  far_by (flies w c) h = cell_far c (flies w c) (flying w) h
  far_by _ h = tt

  pub far_on : (z : Thing) → Among z a → Far code b z
  far_on z h = far_by z (p z h)

-- FROM ONE CLUSTER TO THE OTHER

module _ (code : List Instr) (a b : Cluster) (d : HasPlaces b) (w : (y : Thing) → Among y (things_of a) → Far code (things_of b) y) where
  record Pair (t : ℕ) (x : Standing) : Type 0 where
    there : Standing
    at : thread_at (threads_in (things_of b)) t ≡ Some there
    shows : ShowsAs code x.thread there.thread

  paired : (x : Standing) → Among x (threads_in (things_of a)) → Pair x.thread.number x
  paired x h =
      let r = w (stands x.server x.packed x.thread) (thread_thing x (things_of a) h) in
      let y : Standing = record { server = r.server; packed = r.packed; thread = r.thread } in
      let at : thread_at (threads_in (things_of b)) r.thread.number ≡ Some y = found y (things_of b) (d.numbers_differ r.thread.number) (thing_thread r.server r.packed r.thread (things_of b) r.among) in
      record { there = y; at = sym (ap (thread_at (threads_in (things_of b))) r.shows.number) ∙ at; shows = r.shows }

  pair : (t : ℕ) (x : Standing) → thread_at (threads_in (things_of a)) t ≡ Some x → Pair t x
  pair t x e = let q = among_thread (threads_in (things_of a)) t x e in subst (λ n. Pair n x) q.1 (paired x q.0)

  found_there : (c : Cell) → CellIn (things_of b) c → (there : Cell) × (cell_of (cells_in (things_of b)) c.object ≡ Some there) × (pointing (Some (value.Own there.value)) ≡ pointing (Some (value.Own c.value)))
  found_there c q = (q.cell, sym (ap (cell_of (cells_in (things_of b))) q.object) ∙ cell_found q.cell q.thing (things_of b) (d.home_of_each q.cell.object) q.is q.among, q.value)

  cell_in : (c : Cell) (y : Thing) → CellOf c y → Among y (things_of a) → CellIn (things_of b) c
  cell_in c _ (lying r s) h = w (lies r s c) h
  cell_in c _ (flying v) h = w (flies v c) h

  cell_pair : (o : ObjNo) (c : Cell) → cell_of (cells_in (things_of a)) o ≡ Some c → (there : Cell) × (cell_of (cells_in (things_of b)) o ≡ Some there) × (pointing (Some (value.Own there.value)) ≡ pointing (Some (value.Own c.value)))
  cell_pair o c e =
      let i = cell_among o c (things_of a) e in
      let q = found_there c (cell_in c i.thing i.is i.among) in
      (q.0, sym (ap (cell_of (cells_in (things_of b))) i.object) ∙ q.1, q.2)

  taken_on : (t : Taking) → Among t (takings code (threads_in (things_of a))) → Among t (takings code (threads_in (things_of b)))
  taken_on t h =
      let q = taker_of code (threads_in (things_of a)) t h in
      let r = w (stands q.taker.server q.taker.packed q.taker.thread) (thread_thing q.taker (things_of a) q.among) in
      taking_listed code (record { server = r.server; packed = r.packed; thread = r.thread }) t (threads_in (things_of b)) (thing_thread r.server r.packed r.thread (things_of b) r.among) (r.shows.taking ∙ q.taking)

pub none_some : {A : Type 0} (x : A) → None ≡ Some x → ⊥
none_some x e = absurd cc

module _ (k z : Cluster) (c : HasPlaces k) (d : HasPlaces z) (same : z.code ≡ k.code) (rest : List Thing) (m a w : ℕ) (e : Cell) (p : Alike k.code (things_of k) (lies m a e ∷ rest)) (q : Alike k.code (things_of z) (flies w e ∷ rest)) where
  abbrev tk : List Standing
  tk = threads_in (things_of k)

  abbrev tz : List Standing
  tz = threads_in (things_of z)

  on : (y : Thing) → Among y (things_of k) → Far k.code (things_of z) y
  on = far_on k.code (things_of k) (things_of z) rest (lies m a e) (flies w e) e (lying m a) (flying w) p.on q.back

  back : (y : Thing) → Among y (things_of z) → Far k.code (things_of k) y
  back = far_on k.code (things_of z) (things_of k) rest (flies w e) (lies m a e) e (flying w) (lying m a) q.on p.back

  module _ (look : Option Value → Option Value) (read : Option Standing → Option Value) (shown : (x y : Standing) → ShowsAs k.code x.thread y.thread → look (read (Some y)) ≡ look (read (Some x))) where
    at_thread : (t : ℕ) → look (read (thread_at tz t)) ≡ look (read (thread_at tk t))
    at_thread t = by (thread_at tk t) refl
      where
        absent : (o : Option Standing) → thread_at tz t ≡ o → thread_at tk t ≡ None → look (read o) ≡ look (read None)
        absent None f g = refl
        absent (Some y) f g = let r = pair k.code z k c back t y f in absurd (none_some r.there (sym g ∙ r.at))

        by : (o : Option Standing) → thread_at tk t ≡ o → look (read (thread_at tz t)) ≡ look (read o)
        by None g = absent (thread_at tz t) refl g
        by (Some x) g = let r = pair k.code k z d on t x g in ap (λ o. look (read o)) r.at ∙ shown x r.there r.shows

  in_cells : (o : ObjNo) → pointing (value_of (cell_of (cells_in (things_of z)) o)) ≡ pointing (value_of (cell_of (cells_in (things_of k)) o))
  in_cells o = by (cell_of (cells_in (things_of k)) o) refl
    where
      absent : (i : Option Cell) → cell_of (cells_in (things_of z)) o ≡ i → cell_of (cells_in (things_of k)) o ≡ None → pointing (value_of i) ≡ pointing None
      absent None f g = refl
      absent (Some y) f g = let r = cell_pair k.code z k c back o y f in absurd (none_some r.0 (sym g ∙ r.1))

      by : (i : Option Cell) → cell_of (cells_in (things_of k)) o ≡ i → pointing (value_of (cell_of (cells_in (things_of z)) o)) ≡ pointing (value_of i)
      by None g = absent (cell_of (cells_in (things_of z)) o) refl g
      by (Some x) g = let r = cell_pair k.code k z d on o x g in ap (λ i. pointing (value_of i)) r.1 ∙ r.2

  stands_same : (l : Location) → seen_at l (value_in (sight z).ground l) ≡ seen_at l (value_in (sight k).ground l)
  stands_same (at_slot t i) = at_thread pointing (λ o. slot_of o i) (λ x y h. h.slots i) t
  stands_same (at_temp t i) = at_thread owning (λ o. temp_of o i) (λ x y h. h.temps i) t
  stands_same (in_cell o) = in_cells o

  -- the word under way
  abbrev old : Pointer
  old = record { at = None; word = w; object = e.object }

  no_loose : (x : Pointer) → x.at ≡ None → Among x (pointer_in (Some (in_cell e.object)) e.value) → ⊥
  no_loose x f h = box_nowhere (in_cell e.object) e.value x h f

  loose : (x : Pointer) → x.at ≡ None → Among x (pointers_in (things_of z)) → (old ≡ x) ⊎ Among x (pointers_in (things_of k))
  loose x f h = by (loose_within k.code (things_of z) (flies w e ∷ rest) q.on x f h)
    where
      by : Among x (pointers_in (flies w e ∷ rest)) → (old ≡ x) ⊎ Among x (pointers_in (things_of k))
      by (inl g) = inl g
      by (inr g) =
          ⊎_elim (λ (l : Among x (pointer_in (Some (in_cell e.object)) e.value)). absurd (no_loose x f l))
          (λ (r : Among x (pointers_in rest)). inr (loose_within k.code (lies m a e ∷ rest) (things_of k) p.back x f (among_second x (pointer_in (Some (in_cell e.object)) e.value) (pointers_in rest) r)))
          (among_split x (pointer_in (Some (in_cell e.object)) e.value) (pointers_in rest) g)

  remain : (x : Pointer) → x.at ≡ None → Among x (pointers_in (things_of k)) → Among x (pointers_in (things_of z))
  remain x f h =
      ⊎_elim (λ (l : Among x (pointer_in (Some (in_cell e.object)) e.value)). absurd (no_loose x f l))
      (λ (r : Among x (pointers_in rest)). loose_within k.code (flies w e ∷ rest) (things_of z) q.back x f (inr (among_second x (pointer_in (Some (in_cell e.object)) e.value) (pointers_in rest) r)))
      (among_split x (pointer_in (Some (in_cell e.object)) e.value) (pointers_in rest) (loose_within k.code (things_of k) (lies m a e ∷ rest) p.on x f h))

  standing_back : (x : Pointer) → x.at ≡ None → Among x (standing_in (things_of z)) → Among x (standing_in (things_of k))
  standing_back x f h =
      standing_turn k.code (lies m a e ∷ rest) (things_of k) x p.back f (standing_turn k.code (things_of z) (flies w e ∷ rest) x q.on f h)

  lay : (r g : ℕ) (i : Cell) → Among (lies r g i) (things_of z) → LiesThere k r g i.object
  lay r g i h = by (q.on (lies r g i) h)
    where
      by : Among (lies r g i) (flies w e ∷ rest) → LiesThere k r g i.object
      by (inl f) = absurd cc
      by (inr f) = record { cell = i; among = p.back (lies r g i) (inr f); object = refl }

  pub leaves_old : Beside k old → OneMore k z old
  leaves_old beside = record {
    stands = stands_same;
    takes = λ t h. taken_on k.code z k c back t (subst (λ n. Among t (takings n tz)) same h);
    took = λ t h. subst (λ n. Among t (takings n tz)) (sym same) (taken_on k.code k z d on t h);
    loose = loose;
    remain = remain;
    standing = λ x f h. inr (standing_back x f h);
    lay = lay;
    nowhere = refl;
    beside = beside;
  }
