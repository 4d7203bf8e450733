-- Clusters whose things words see alike have the same pointers.
use Rattle.std.proofs.Common.{◌≡◌, inl, inr, ℕ, Bool, List, [], ◌∷◌, Option, Some, None, refl, sym, ap, subst, ◌∙◌}
use Rattle.law_counts_sums.specs.Below.fr_base.declared.instruction.Instr.{Instr}
use Rattle.law_counts_sums.specs.Below.fr_base.declared.name.ObjNo.{ObjNo}
use Rattle.law_counts_sums.specs.Below.heap_partition.declared.value.Cell.{Cell}
use Rattle.law_counts_sums.specs.Below.thread_state.View.{ThreadState}
use Rattle.law_counts_sums.specs.Below.thread_state.declared.value.Value.{Value}
use Rattle.law_counts_sums.specs.Below.thread_state.declared.value.Value.TheVariants as value
use Rattle.law_counts_sums.specs.Below.server_model.Servers.{Cluster}
use Rattle.law_counts_sums.specs.Below.coherent_memory.Names.{Among}
use Rattle.law_counts_sums.specs.Below.coherent_memory.Things.{Location, at_slot, at_temp, in_cell, Thing, lies, flies, stands, things_of}
use Rattle.law_counts_sums.specs.Below.coherent_memory.Follow.{Standing, thread_at, threads_in, cells_in, cell_of, slot_of, temp_of, value_of, value_in}
use Rattle.law_counts_sums.specs.Below.coherent_memory.Sight.{Pointer, pointers_of, pointers_in, sight}
use Rattle.law_words_paths.proofs.Below.coherent_types.Branches.{found}
use Rattle.law_words_paths.proofs.paths.Contained.{among_thread}
use Rattle.law_words_paths.specs.words.Reworded.{HasPlaces, LiesThere}
use Rattle.law_words_paths.specs.words.Unmoved.{pointing, owning, seen_at, Taking, with_taking, taking_of, takings, Untouched}
use Rattle.law_words_paths.proofs.words.Standing.{CellOf, lying, flying, cell_among, cell_found, of_thing, pointers_among, stands_in}
use Rattle.law_words_paths.proofs.words.Loose.{box_nowhere}
use Rattle.law_words_kept.proofs.stays.Alike.{ShowsAs, Seen, Within, Alike, standing_turn}

-- THREADS AMONG THINGS

thread_thing : (x : Standing) (b : List Thing) → Among x (threads_in b) → Among (stands x.server x.packed x.thread) b
thread_thing x [] h = absurd h
thread_thing x (stands s p t ∷ b) (inl e) = inl (ap (λ (y : Standing). stands y.server y.packed y.thread) e)
thread_thing x (stands s p t ∷ b) (inr h) = inr (thread_thing x b h)
thread_thing x (_ ∷ b) h = inr (thread_thing x b h)

abbrev standing : ℕ → Bool → ThreadState → Standing
standing s p t = record { server = s; packed = p; thread = t }

same_standing : (s r : ℕ) (p q : Bool) (t u : ThreadState) → stands s p t ≡ stands r q u → standing s p t ≡ standing r q u
same_standing s r p q t u e = cc

thing_thread : (s : ℕ) (p : Bool) (t : ThreadState) (b : List Thing) → Among (stands s p t) b → Among (record { server = s; packed = p; thread = t }) (threads_in b)
thing_thread s p t [] h = absurd h
thing_thread s p t (stands r q u ∷ b) (inl e) = inl (same_standing r s q p u t e)
thing_thread s p t (stands r q u ∷ b) (inr h) = inr (thing_thread s p t b h)
thing_thread s p t (_ ∷ b) (inl e) = absurd cc
thing_thread s p t (_ ∷ b) (inr h) = thing_thread s p t b h

-- WHAT THREADS HAVE TAKEN

pub record Takes (code : List Instr) (xs : List Standing) (t : Taking) : Type 0 where
  pub taker : Standing
  pub among : Among taker xs
  pub taking : taking_of code taker ≡ Some t

taking_told : (code : List Instr) (xs : List Standing) (t : Taking) → Among t (takings code xs) → Takes code xs t
taking_told code [] t h = absurd h
taking_told code (x ∷ xs) t h = by (taking_of code x) refl h (λ g. taking_told code xs t g)
  where
    later : Takes code xs t → Takes code (x ∷ xs) t
    later y = record { taker = y.taker; among = inr y.among; taking = y.taking }

    by : (o : Option Taking) → taking_of code x ≡ o → Among t (with_taking o (takings code xs)) → (Among t (takings code xs) → Takes code xs t) → Takes code (x ∷ xs) t
    by None e g go = later (go g)
    by (Some u) e (inl q) go = record { taker = x; among = inl refl; taking = e ∙ ap Some q }
    by (Some u) e (inr g) go = later (go g)

taking_listed : (code : List Instr) (x : Standing) (t : Taking) (xs : List Standing) → Among x xs → taking_of code x ≡ Some t → Among t (takings code xs)
taking_listed code x t [] h e = absurd h
taking_listed code x t (y ∷ xs) (inl q) e =
    let here : taking_of code y ≡ Some t = ap (taking_of code) q ∙ e in
    subst (λ o. Among t (with_taking o (takings code xs))) (sym here) (inl refl)
taking_listed code x t (y ∷ xs) (inr h) e = by (taking_of code y) (taking_listed code x t xs h e)
  where
    by : (o : Option Taking) → Among t (takings code xs) → Among t (with_taking o (takings code xs))
    by None g = g
    by (Some u) g = inr g

-- FROM ONE CLUSTER TO THE OTHER

module _ (code : List Instr) (a b : Cluster) (d : HasPlaces b) (w : Within code (things_of a) (things_of b)) where
  pub record Pair (t : ℕ) (x : Standing) : Type 0 where
    pub there : Standing
    pub at : thread_at (threads_in (things_of b)) t ≡ Some there
    pub shows : ShowsAs code x.thread there.thread

  pub paired : (x : Standing) → Among x (threads_in (things_of a)) → Pair x.thread.number x
  paired x h =
      let r = w (stands x.server x.packed x.thread) (thread_thing x (things_of a) h) in
      let y : Standing = record { server = r.server; packed = r.packed; thread = r.thread } in
      let at : thread_at (threads_in (things_of b)) r.thread.number ≡ Some y = found y (things_of b) (d.numbers_differ r.thread.number) (thing_thread r.server r.packed r.thread (things_of b) r.among) in
      record { there = y; at = sym (ap (thread_at (threads_in (things_of b))) r.shows.number) ∙ at; shows = r.shows }

  pub pair : (t : ℕ) (x : Standing) → thread_at (threads_in (things_of a)) t ≡ Some x → Pair t x
  pair t x e = let q = among_thread (threads_in (things_of a)) t x e in subst (λ n. Pair n x) q.1 (paired x q.0)

  -- cells
  pub record CellPair (c : Cell) : Type 0 where
    pub there : Cell
    pub at : cell_of (cells_in (things_of b)) c.object ≡ Some there
    pub value : pointing (Some (value.Own there.value)) ≡ pointing (Some (value.Own c.value))

  cell_there : (c : Cell) (y : Thing) → CellOf c y → Among y (things_of a) → CellPair c
  cell_there c _ (lying r s) h =
      record { there = c; at = cell_found c (lies r s c) (things_of b) (d.home_of_each c.object) (lying r s) (w (lies r s c) h); value = refl }
  cell_there c _ (flying v) h =
      record { there = c; at = cell_found c (flies v c) (things_of b) (d.home_of_each c.object) (flying v) (w (flies v c) h); value = refl }

  pub cell_pair : (o : ObjNo) (c : Cell) → cell_of (cells_in (things_of a)) o ≡ Some c → (there : Cell) × (cell_of (cells_in (things_of b)) o ≡ Some there) × (pointing (Some (value.Own there.value)) ≡ pointing (Some (value.Own c.value)))
  cell_pair o c e =
      let i = cell_among o c (things_of a) e in
      let q = cell_there c i.thing i.is i.among in
      (q.there, sym (ap (cell_of (cells_in (things_of b))) i.object) ∙ q.at, q.value)

  -- pointers at no location
  loose_by : (p : Pointer) (y : Thing) → Seen code (things_of b) y → p.at ≡ None → Among p (pointers_of y) → Among p (pointers_in (things_of b))
  loose_by p (stands s q t) h e m = absurd m
  loose_by p (lies r s c) h e m = absurd (box_nowhere (in_cell c.object) c.value p m e)
  loose_by p (flies v c) h e (inl m) = pointers_among p (flies v c) (things_of b) h (inl m)
  loose_by p (flies v c) h e (inr m) = absurd (box_nowhere (in_cell c.object) c.value p m e)
  loose_by p y h e m = stands_in p (things_of b) (h p e m)

  pub loose_on : (p : Pointer) → p.at ≡ None → Among p (pointers_in (things_of a)) → Among p (pointers_in (things_of b))
  loose_on p e m = let q = of_thing p (things_of a) m in loose_by p q.thing (w q.thing q.among) e q.pointer

  pub taken_on : (t : Taking) → Among t (takings code (threads_in (things_of a))) → Among t (takings code (threads_in (things_of b)))
  taken_on t h =
      let q = taking_told code (threads_in (things_of a)) t h in
      let r = w (stands q.taker.server q.taker.packed q.taker.thread) (thread_thing q.taker (things_of a) q.among) in
      taking_listed code (record { server = r.server; packed = r.packed; thread = r.thread }) t (threads_in (things_of b)) (thing_thread r.server r.packed r.thread (things_of b) r.among) (r.shows.taking ∙ q.taking)

-- BOTH WAYS

none_some : {A : Type 0} (x : A) → None ≡ Some x → ⊥
none_some x e = absurd cc

module _ (k z : Cluster) (c : HasPlaces k) (d : HasPlaces z) (same : z.code ≡ k.code) (s : Alike k.code (things_of k) (things_of z)) where
  abbrev tk : List Standing
  tk = threads_in (things_of k)

  abbrev tz : List Standing
  tz = threads_in (things_of z)

  module _ (look : Option Value → Option Value) (read : Option Standing → Option Value)
      (shown : (x y : Standing) → ShowsAs k.code x.thread y.thread → look (read (Some y)) ≡ look (read (Some x))) where
    at_thread : (t : ℕ) → look (read (thread_at tz t)) ≡ look (read (thread_at tk t))
    at_thread t = by (thread_at tk t) refl
      where
        absent : (o : Option Standing) → thread_at tz t ≡ o → thread_at tk t ≡ None → look (read o) ≡ look (read None)
        absent None f e = refl
        absent (Some y) f e = let q = pair k.code z k c s.back t y f in absurd (none_some q.there (sym e ∙ q.at))

        by : (o : Option Standing) → thread_at tk t ≡ o → look (read (thread_at tz t)) ≡ look (read o)
        by None e = absent (thread_at tz t) refl e
        by (Some x) e = let q = pair k.code k z d s.on t x e in ap (λ o. look (read o)) q.at ∙ shown x q.there q.shows

  in_cells : (o : ObjNo) → pointing (value_of (cell_of (cells_in (things_of z)) o)) ≡ pointing (value_of (cell_of (cells_in (things_of k)) o))
  in_cells o = by (cell_of (cells_in (things_of k)) o) refl
    where
      absent : (m : Option Cell) → cell_of (cells_in (things_of z)) o ≡ m → cell_of (cells_in (things_of k)) o ≡ None → pointing (value_of m) ≡ pointing None
      absent None f e = refl
      absent (Some y) f e = let q = cell_pair k.code z k c s.back o y f in absurd (none_some q.0 (sym e ∙ q.1))

      by : (m : Option Cell) → cell_of (cells_in (things_of k)) o ≡ m → pointing (value_of (cell_of (cells_in (things_of z)) o)) ≡ pointing (value_of m)
      by None e = absent (cell_of (cells_in (things_of z)) o) refl e
      by (Some x) e = let q = cell_pair k.code k z d s.on o x e in ap (λ m. pointing (value_of m)) q.1 ∙ q.2

  stands_same : (l : Location) → seen_at l (value_in (sight z).ground l) ≡ seen_at l (value_in (sight k).ground l)
  stands_same (at_slot t i) = at_thread pointing (λ o. slot_of o i) (λ x y h. h.slots i) t
  stands_same (at_temp t i) = at_thread owning (λ o. temp_of o i) (λ x y h. h.temps i) t
  stands_same (in_cell o) = in_cells o

  lay_there : (r a : ℕ) (e : Cell) → Among (lies r a e) (things_of z) → LiesThere k r a e.object
  lay_there r a e h = record { cell = e; among = s.back (lies r a e) h; object = refl }

  pub seen_alike : Untouched k z
  seen_alike = record {
    stands = stands_same;
    takes = λ t h. taken_on k.code z k c s.back t (subst (λ n. Among t (takings n tz)) same h);
    took = λ t h. subst (λ n. Among t (takings n tz)) (sym same) (taken_on k.code k z d s.on t h);
    loose = loose_on k.code z k c s.back;
    remain = loose_on k.code k z d s.on;
    standing = λ p e m. standing_turn k.code (things_of z) (things_of k) p s.back e m;
    lay = lay_there;
  }
