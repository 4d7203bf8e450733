-- The box in a cell gets another word: the clusters with the thread put back are the same but for it.
use Rattle.std.proofs.Common.{◌≡◌, ◌⊎◌, inl, inr, ⊎_elim, ℕ, zero, suc, ◌+◌, Bool, true, false, if◌then◌else◌, List, [], ◌∷◌, ◌++◌, length, map, Option, Some, None, option_map, refl, sym, ap, subst, ◌∙◌, arith}
use Rattle.std.specs.Prelude.{slice_index_or, slice_set}
use Rattle.law_words_paths.specs.Below.fr_base.declared.name.ObjNo.{ObjNo}
use Rattle.law_words_paths.specs.Below.global_addr.Words.{address_of, next_word}
use Rattle.law_words_paths.specs.Below.heap_partition.declared.value.BoxPtr.{BoxPtr}
use Rattle.law_words_paths.specs.Below.heap_partition.declared.value.Cell.{Cell}
use Rattle.law_words_paths.specs.Below.heap_partition.declared.value.Owned.{Owned}
use Rattle.law_words_paths.specs.Below.heap_partition.declared.value.Owned.TheVariants as owned
use Rattle.law_words_paths.specs.Below.mut_borrow.declared.mutable.MutRef.{MutRef}
use Rattle.law_words_paths.specs.Below.owner_box.View.{PartitionState}
use Rattle.law_words_paths.specs.Below.owner_box.Partition.{cell_of as cell_under, with_value, stored}
use Rattle.law_words_paths.specs.Below.thread_state.View.{ThreadState}
use Rattle.law_words_paths.specs.Below.thread_state.declared.value.Value.TheVariants as value
use Rattle.law_words_paths.specs.Below.server_model.Servers.{Rest, Server, Cluster}
use Rattle.law_words_paths.specs.Below.server_model.Work.{Hand, look, leads_here, working, with_partition, set_thread, then_some}
use Rattle.law_words_paths.specs.Below.server_model.Clusters.{with_server}
use Rattle.law_words_paths.specs.Below.server_model.NewWords.{NewWord, issue_tint}
use Rattle.law_words_paths.specs.Below.server_model.Places.{in_cell as cell_spot, note_write, value_in as value_of_cell, with_word, put_at, put_cell, set_pointer, put_word}
use Rattle.law_words_paths.specs.Below.coherent_memory.Names.{Among, same_object}
use Rattle.law_words_paths.specs.Below.coherent_memory.Things.{Location, at_slot, at_temp, in_cell, Thing, lies, counts, things_at, cell_things, free_things, partition_things, copy_things, mutex_things, task_things, standing_things, waiting_things, leaving_things, server_things, servers_things, things_of}
use Rattle.law_words_paths.specs.Below.coherent_memory.Follow.{Standing, threads_in, cells_in, cell_of, slot_of, temp_of, value_of, value_in, thread_at}
use Rattle.law_words_paths.specs.Below.coherent_memory.Sight.{sight}
use Rattle.law_words_paths.proofs.Below.coherent_memory.Bags.{among_split}
use Rattle.law_words_paths.proofs.Below.coherent_memory.Words.{named}
use Rattle.law_words_paths.proofs.paths.Sole.{some_is}
use Rattle.law_words_paths.proofs.paths.Origins.{threads_joined, among_first, among_second}
use Rattle.law_words_paths.specs.words.Reworded.{is_loose, HasPlaces, LiesThere, a_box, Reworded, turn_of}
use Rattle.law_words_paths.specs.words.PutBack.{put_in, StandsHere, LeadsHome, CellsReword}
use Rattle.law_words_paths.proofs.words.Standing.{lying, cell_found}
use Rattle.law_words_paths.proofs.words.Put.{Split, split_whole, split_left, split_right, servers_split}
use Rattle.law_words_paths.proofs.words.Slots.{cells_joined}
use Rattle.law_words_paths.proofs.words.Tints.{next_leads}

-- ANOTHER CELL AT AN ADDRESS

set_length : {A : Type 0} (xs : List A) (i : ℕ) (x : A) → length (slice_set xs i x) ≡ length xs
set_length [] i x = refl
set_length (y ∷ ys) zero x = refl
set_length (y ∷ ys) (suc i) x = ap suc (set_length ys i x)

cells_split : (s : ℕ) (free : List (ℕ × ℕ)) (i a : ℕ) (xs : List (Option Cell)) (c d : Cell) → slice_index_or xs a None ≡ Some c
    → Split (things_at (cell_things s free) i xs) (things_at (cell_things s free) i (slice_set xs a (Some d))) (lies s (i + a) c ∷ []) (lies s (i + a) d ∷ [])
cells_split s free i a [] c d e = absurd cc
cells_split s free i zero (x ∷ xs) c d e =
    let rest = things_at (cell_things s free) (i + 1) xs in
    let number : i ≡ i + 0 = omega arith in
    subst (λ m. Split (things_at (cell_things s free) i (x ∷ xs)) (lies s i d ∷ rest) (lies s m c ∷ []) (lies s m d ∷ [])) number
    (subst (λ y. Split (cell_things s free i y ++ rest) (lies s i d ∷ rest) (lies s i c ∷ []) (lies s i d ∷ [])) (sym e) (split_right rest (split_whole (lies s i c ∷ []) (lies s i d ∷ []))))
cells_split s free i (suc a) (x ∷ xs) c d e =
    let number : i + 1 + a ≡ i + suc a = omega arith in
    split_left (cell_things s free i x) (subst (λ m. Split (things_at (cell_things s free) (i + 1) xs) (things_at (cell_things s free) (i + 1) (slice_set xs a (Some d))) (lies s m c ∷ []) (lies s m d ∷ [])) number (cells_split s free (i + 1) a xs c d e))

-- a server with another value in one of its cells
stored_split : (r : Rest) (ts : List ThreadState) (e w : ℕ) (c : Cell) (v : Owned) → cell_under r.partition w ≡ Some c
    → Split (server_things (record { rest = r; threads = ts; events = e })) (server_things (record { rest = record r { partition = stored r.partition w v }; threads = ts; events = e })) (lies r.number (0 + address_of w) c ∷ [])
    (lies r.number (0 + address_of w) (record c { value = v }) ∷ [])
stored_split r ts e w c v at =
    let n = r.number in
    let p = r.partition in
    let new = slice_set p.cells (address_of w) (with_value v (cell_under p w)) in
    let d = record c { value = v } in
    let copies = things_at (copy_things n) 0 r.cache in
    let mutexes = things_at (mutex_things n) 0 r.mutexes.there in
    let tasks = things_at (task_things n) 0 r.tasks in
    let threads = things_at (standing_things n) 0 ts in
    let inbox = things_at (waiting_things n) 0 r.inbox in
    let outbox = things_at leaving_things 0 r.outbox in
    let cells : Split (things_at (cell_things n p.free) 0 p.cells) (things_at (cell_things n p.free) 0 new) (lies n (0 + address_of w) c ∷ []) (lies n (0 + address_of w) d ∷ []) =
    subst (λ o. Split (things_at (cell_things n p.free) 0 p.cells) (things_at (cell_things n p.free) 0 (slice_set p.cells (address_of w) (with_value v o))) (lies n (0 + address_of w) c ∷ []) (lies n (0 + address_of w) d ∷ [])) (sym at)
    (cells_split n p.free 0 (address_of w) p.cells c d at) in
    let parts : Split (partition_things n p) (partition_things n (stored p w v)) (lies n (0 + address_of w) c ∷ []) (lies n (0 + address_of w) d ∷ []) = split_right (things_at (free_things n) 0 p.free) cells in
    let whole = split_right outbox (split_right inbox (split_right threads (split_right tasks (split_right mutexes (split_right copies (split_left (counts n (length p.cells) p.retired r.started r.mutexes.made e ∷ []) parts)))))) in
    subst
    (λ m. Split (server_things (record { rest = r; threads = ts; events = e })) (counts n m p.retired r.started r.mutexes.made e ∷ partition_things n (stored p w v) ++ copies ++ mutexes ++ tasks ++ threads ++ inbox ++ outbox) (lies n (0 + address_of w) c ∷ [])
    (lies n (0 + address_of w) d ∷ [])) (sym (set_length p.cells (address_of w) (with_value v (cell_under p w)))) whole

-- ONE CELL MORE AND ONE LESS

cell_other : (xs bs : List Cell) (x y : Cell) (o : ObjNo) → y.object ≡ x.object → (x.object ≡ o → ⊥) → cell_of (xs ++ (y ∷ bs)) o ≡ cell_of (xs ++ (x ∷ bs)) o
cell_other [] bs x y o e n = by (same_object x.object o) refl
  where
    by : (b : Bool) → same_object x.object o ≡ b → (if same_object y.object o then Some y else cell_of bs o) ≡ (if same_object x.object o then Some x else cell_of bs o)
    by true q = absurd (n (named x.object o q))
    by false q = ap (λ m. if same_object m o then Some y else cell_of bs o) e ∙ ap (λ c. if c then Some y else cell_of bs o) q ∙ sym (ap (λ c. if c then Some x else cell_of bs o) q)
cell_other (a ∷ xs) bs x y o e n = ap (λ t. if same_object a.object o then Some a else t) (cell_other xs bs x y o e n)

around : (y : Thing) (l m k r : List Thing) → (Among y m → Among y k) → Among y (l ++ m ++ r) → Among y (l ++ k ++ r)
around y l m k r go h =
    ⊎_elim (λ (q : Among y (l ++ m)). among_first y (l ++ k) r (⊎_elim (λ (z : Among y l). among_first y l k z) (λ (z : Among y m). among_second y l k (go z)) (among_split y l m q))) (λ (q : Among y r). among_second y (l ++ k) r q)
    (among_split y (l ++ m) r h)

fixed : (s r : ℕ) (c : Cell) (b : List Thing) (y : Thing) → is_loose y ≡ true → Among y (lies s r c ∷ []) → Among y b
fixed s r c b y e (inl q) = let z : true ≡ false = sym e ∙ sym (ap is_loose q) in absurd cc
fixed s r c b y e (inr h) = absurd h

same_lies : (s r m k : ℕ) (c d : Cell) → lies s r c ≡ lies m k d → (s ≡ m) × (r ≡ k) × (c ≡ d)
same_lies s r m k c d e = (cc, cc, cc)

no_reference : (v : Owned) (r : MutRef) → value.Own v ≡ value.Mut r → ⊥
no_reference v r e = absurd cc

module _ (a b : Cluster) (n g w : ℕ) (c : Cell) (p : BoxPtr) (boxed : c.value ≡ owned.Box p) (s : Split (things_of a) (things_of b) (lies n g c ∷ []) (lies n g (record c { value = owned.Box (record p { word = w }) }) ∷ []))
    (code : b.code ≡ a.code) (i : HasPlaces a) (j : HasPlaces b) where
  abbrev d : Cell
  d = record c { value = owned.Box (record p { word = w }) }

  abbrev h : Location
  h = in_cell c.object

  -- THREADS AND CELLS

  no_threads : (l r : List Thing) (e : Cell) → threads_in (l ++ (lies n g e ∷ []) ++ r) ≡ threads_in l ++ threads_in r
  no_threads l r e = threads_joined (l ++ (lies n g e ∷ [])) r ∙ ap (λ q. q ++ threads_in r) (threads_joined l (lies n g e ∷ []) ∙ nil_right (threads_in l))
    where
      nil_right : (k : List Standing) → k ++ [] ≡ k
      nil_right [] = refl
      nil_right (z ∷ k) = ap (λ q. z ∷ q) (nil_right k)

  threads_same : threads_in (things_of b) ≡ threads_in (things_of a)
  threads_same = ap threads_in s.after ∙ no_threads s.left s.right d ∙ sym (no_threads s.left s.right c) ∙ sym (ap threads_in s.before)

  cell_parts : (l r : List Thing) (e : Cell) → cells_in (l ++ (lies n g e ∷ []) ++ r) ≡ cells_in l ++ (e ∷ cells_in r)
  cell_parts l r e = cells_joined (l ++ (lies n g e ∷ [])) r ∙ ap (λ q. q ++ cells_in r) (cells_joined l (lies n g e ∷ [])) ∙ append_one (cells_in l) (cells_in r)
    where
      append_one : (k m : List Cell) → (k ++ (e ∷ [])) ++ m ≡ k ++ (e ∷ m)
      append_one [] m = refl
      append_one (z ∷ k) m = ap (λ q. z ∷ q) (append_one k m)

  cells_a : cells_in (things_of a) ≡ cells_in s.left ++ (c ∷ cells_in s.right)
  cells_a = ap cells_in s.before ∙ cell_parts s.left s.right c

  cells_b : cells_in (things_of b) ≡ cells_in s.left ++ (d ∷ cells_in s.right)
  cells_b = ap cells_in s.after ∙ cell_parts s.left s.right d

  -- the cell itself
  its_place : (e : Cell) (l r : List Thing) → Among (lies n g e) (l ++ (lies n g e ∷ []) ++ r)
  its_place e l r = among_first (lies n g e) (l ++ (lies n g e ∷ [])) r (among_second (lies n g e) l (lies n g e ∷ []) (inl refl))

  in_a : Among (lies n g c) (things_of a)
  in_a = subst (λ q. Among (lies n g c) q) (sym s.before) (its_place c s.left s.right)

  in_b : Among (lies n g d) (things_of b)
  in_b = subst (λ q. Among (lies n g d) q) (sym s.after) (its_place d s.left s.right)

  stood : value_in (sight a).ground h ≡ Some (value.Own (owned.Box p))
  stood = ap value_of (cell_found c (lies n g c) (things_of a) (i.home_of_each c.object) (lying n g) in_a) ∙ ap (λ v. Some (value.Own v)) boxed

  stands : value_in (sight b).ground h ≡ Some (value.Own (owned.Box (record p { word = w })))
  stands = ap value_of (cell_found d (lies n g d) (things_of b) (j.home_of_each c.object) (lying n g) in_b)

  elsewhere : (l : Location) → (l ≡ h → ⊥) → value_in (sight b).ground l ≡ value_in (sight a).ground l
  elsewhere (at_slot t k) f = ap (λ ts. slot_of (thread_at ts t) k) threads_same
  elsewhere (at_temp t k) f = ap (λ ts. temp_of (thread_at ts t) k) threads_same
  elsewhere (in_cell o) f =
      ap (λ cs. value_of (cell_of cs o)) cells_b ∙ ap value_of (cell_other (cells_in s.left) (cells_in s.right) c d o refl (λ q. f (ap in_cell (sym q)))) ∙ sym (ap (λ cs. value_of (cell_of cs o)) cells_a)

  -- THINGS

  loose : (y : Thing) → Among y (things_of b) → is_loose y ≡ true → Among y (things_of a)
  loose y m e = subst (λ q. Among y q) (sym s.before) (around y s.left (lies n g d ∷ []) (lies n g c ∷ []) s.right (fixed n g d (lies n g c ∷ []) y e) (subst (λ q. Among y q) s.after m))

  remain : (y : Thing) → Among y (things_of a) → is_loose y ≡ true → Among y (things_of b)
  remain y m e = subst (λ q. Among y q) (sym s.after) (around y s.left (lies n g c ∷ []) (lies n g d ∷ []) s.right (fixed n g c (lies n g d ∷ []) y e) (subst (λ q. Among y q) s.before m))

  -- what lies there lay there, or is this cell
  where_in : (y : Thing) (l m r : List Thing) → Among y (l ++ m ++ r) → Among y m ⊎ Among y (l ++ r)
  where_in y l m r h =
      ⊎_elim (λ (q : Among y (l ++ m)). ⊎_elim (λ (z : Among y l). inr (among_first y l r z)) (λ (z : Among y m). inl z) (among_split y l m q)) (λ (q : Among y r). inr (among_second y l r q)) (among_split y (l ++ m) r h)

  beside_it : (y : Thing) (l m r : List Thing) → Among y (l ++ r) → Among y (l ++ m ++ r)
  beside_it y l m r h = ⊎_elim (λ (q : Among y l). among_first y (l ++ m) r (among_first y l m q)) (λ (q : Among y r). among_second y (l ++ m) r q) (among_split y l r h)

  lay : (m k : ℕ) (z : Cell) → Among (lies m k z) (things_of b) → LiesThere a m k z.object
  lay m k z y = by (where_in (lies m k z) s.left (lies n g d ∷ []) s.right (subst (λ q. Among (lies m k z) q) s.after y))
    where
      here : lies n g d ≡ lies m k z → LiesThere a m k z.object
      here e =
          let q = same_lies n g m k d z e in
          record { cell = c; among = subst (λ u. Among (lies u k c) (things_of a)) q.0 (subst (λ u. Among (lies n u c) (things_of a)) q.1 in_a); object = ap (λ (y : Cell). y.object) q.2 }

      by : Among (lies m k z) (lies n g d ∷ []) ⊎ Among (lies m k z) (s.left ++ s.right) → LiesThere a m k z.object
      by (inl (inl e)) = here e
      by (inl (inr f)) = absurd f
      by (inr f) = record { cell = z; among = subst (λ q. Among (lies m k z) q) (sym s.before) (beside_it (lies m k z) s.left (lies n g c ∷ []) s.right f); object = refl }

  lies_on : (m k : ℕ) (o : ObjNo) → LiesThere a m k o → LiesThere b m k o
  lies_on m k o l = by (where_in (lies m k l.cell) s.left (lies n g c ∷ []) s.right (subst (λ q. Among (lies m k l.cell) q) s.before l.among))
    where
      here : lies n g c ≡ lies m k l.cell → LiesThere b m k o
      here e =
          let q = same_lies n g m k c l.cell e in
          record { cell = d; among = subst (λ u. Among (lies u k d) (things_of b)) q.0 (subst (λ u. Among (lies n u d) (things_of b)) q.1 in_b); object = ap (λ (y : Cell). y.object) q.2 ∙ l.object }

      by : Among (lies m k l.cell) (lies n g c ∷ []) ⊎ Among (lies m k l.cell) (s.left ++ s.right) → LiesThere b m k o
      by (inl (inl e)) = here e
      by (inl (inr f)) = absurd f
      by (inr f) = record { cell = l.cell; among = subst (λ q. Among (lies m k l.cell) q) (sym s.after) (beside_it (lies m k l.cell) s.left (lies n g d ∷ []) s.right f); object = l.object }

  pub cell_reworded : LeadsHome a (record p { word = w }) → Reworded a b h p.object w
  cell_reworded home = record {
    code = code;
    old = value.Own (owned.Box p);
    new = value.Own (owned.Box (record p { word = w }));
    stood = stood;
    renewed = a_box p refl refl;
    stands = stands;
    changed = λ r e. absurd (no_reference (owned.Box (record p { word = w })) r e);
    elsewhere = elsewhere;
    turns = ap (map turn_of) threads_same;
    loose = loose;
    remain = λ y m e f. remain y m e;
    server = home.server;
    address = home.address;
    lying = lies_on home.server home.address p.object home.lying;
    leads = λ m k z q e. (let l = lay m k z q in home.leads m k l.cell l.among (l.object ∙ e));
    lay = λ m k z q e. lay m k z q;
  }

-- THE STEP

pub looked : (p : PartitionState) (w : ℕ) (c : Cell) → look p w ≡ Some c → cell_under p w ≡ Some c
looked p w c e = by (leads_here p w) e
  where
    by : (b : Bool) → (if b then cell_under p w else None) ≡ Some c → cell_under p w ≡ Some c
    by true f = f
    by false f = absurd cc

-- what a word that is put in a cell leaves
pub record CellPut (h h2 : Hand) (at v : ℕ) (p : BoxPtr) : Type 0 where
  pub thread : h2.thread ≡ h.thread
  pub rest : h2.work.rest ≡ record h.work.rest { partition = stored h.work.rest.partition at (owned.Box (record p { word = v })) }

pub cell_put : (h h2 : Hand) (at v : ℕ) (c : Cell) (p : BoxPtr) → look h.work.rest.partition at ≡ Some c → c.value ≡ owned.Box p → set_pointer (cell_spot at None) v h ≡ Some h2 → CellPut h h2 at v p
cell_put h h2 at v c p here boxed e = by (leads_here h.work.rest.partition at) found
  where
    new : Owned
    new = owned.Box (record p { word = v })

    found : put_cell at None new h ≡ Some h2
    found =
        subst (λ u. then_some (with_word v (value.Own u)) (λ y. put_at (cell_spot at None) y h) ≡ Some h2) boxed
        (subst (λ o. then_some (value_of_cell o) (λ u. then_some (with_word v u) (λ y. put_at (cell_spot at None) y h)) ≡ Some h2) here e)

    by : (b : Bool) → (if b then Some (note_write None (working (with_partition (stored h.work.rest.partition at new)) h)) else None) ≡ Some h2 → CellPut h h2 at v p
    by true f = let q : working (with_partition (stored h.work.rest.partition at new)) h ≡ h2 = some_is f in record { thread = ap (λ (y : Hand). y.thread) (sym q); rest = ap (λ (y : Hand). y.work.rest) (sym q) }
    by false f = absurd cc

-- the cluster with it, between what doesn't depend on it
put_cell_split : (k : Cluster) (n : ℕ) (ts : List ThreadState) (e : ℕ) (h h2 : Hand) (at v : ℕ) (c : Cell) (p : BoxPtr) → StandsHere k n ts h → look h.work.rest.partition at ≡ Some c → CellPut h h2 at v p
    → Split (things_of (put_in k n ts e h)) (things_of (put_in k n ts e h2)) (lies n (0 + address_of at) c ∷ []) (lies n (0 + address_of at) (record c { value = owned.Box (record p { word = v }) }) ∷ [])
put_cell_split k n ts e h h2 at v c p s here q =
    let new = owned.Box (record p { word = v }) in
    let threads = set_thread ts h.thread in
    let d = record c { value = new } in
    let before : Server = record { rest = h.work.rest; threads = threads; events = e } in
    let after : Server = record { rest = record h.work.rest { partition = stored h.work.rest.partition at new }; threads = threads; events = e } in
    let server : Split (server_things before) (server_things after) (lies n (0 + address_of at) c ∷ []) (lies n (0 + address_of at) d ∷ []) =
    subst (λ m. Split (server_things before) (server_things after) (lies m (0 + address_of at) c ∷ []) (lies m (0 + address_of at) d ∷ [])) s.number (stored_split h.work.rest threads e at c new (looked h.work.rest.partition at c here)) in
    let there = servers_split n k.servers before after (lies n (0 + address_of at) c ∷ []) (lies n (0 + address_of at) d ∷ []) s.server server in
    subst (λ (r : Rest). Split (things_of (put_in k n ts e h)) (servers_things (with_server k.servers n (record { rest = r; threads = set_thread ts h2.thread; events = e }))) (lies n (0 + address_of at) c ∷ []) (lies n (0 + address_of at) d ∷ [])) (sym q.rest)
    (subst
    (λ (t : ThreadState). Split (things_of (put_in k n ts e h)) (servers_things (with_server k.servers n (record { rest = record h.work.rest { partition = stored h.work.rest.partition at new }; threads = set_thread ts t; events = e })))
    (lies n (0 + address_of at) c ∷ []) (lies n (0 + address_of at) d ∷ [])) (sym q.thread) there)

put_rewords : (k : Cluster) (n : ℕ) (ts : List ThreadState) (e : ℕ) (h h2 : Hand) (at v : ℕ) (c : Cell) (p : BoxPtr) → StandsHere k n ts h → look h.work.rest.partition at ≡ Some c → c.value ≡ owned.Box p → CellPut h h2 at v p
    → HasPlaces (put_in k n ts e h) → HasPlaces (put_in k n ts e h2) → LeadsHome (put_in k n ts e h) (record p { word = v }) → Reworded (put_in k n ts e h) (put_in k n ts e h2) (in_cell c.object) p.object v
put_rewords k n ts e h h2 at v c p s here boxed q i j home = cell_reworded (put_in k n ts e h) (put_in k n ts e h2) n (0 + address_of at) v c p boxed (put_cell_split k n ts e h h2 at v c p s here q) refl i j home

in_two : (at : ℕ) (through : Option ℕ) (v : NewWord) (h : Hand) → put_word (cell_spot at through) v h ≡ option_map (note_write through) (put_word (cell_spot at None) v h)
in_two at through v h = by (look v.work.rest.partition at)
  where
    h2 : Hand
    h2 = record h { work = v.work }

    tested : (b : Bool) (u : Owned) → (if b then Some (note_write through (working (with_partition (stored v.work.rest.partition at u)) h2)) else None) ≡ option_map (note_write through) (if b then Some (note_write None (working (with_partition (stored v.work.rest.partition at u)) h2)) else None)
    tested true u = refl
    tested false u = refl

    owned_by : (u : Owned) → then_some (with_word v.word (value.Own u)) (λ y. put_at (cell_spot at through) y h2) ≡ option_map (note_write through) (then_some (with_word v.word (value.Own u)) (λ y. put_at (cell_spot at None) y h2))
    owned_by (owned.Box p) = tested (leads_here v.work.rest.partition at) (owned.Box (record p { word = v.word }))
    owned_by owned.Nothing = refl
    owned_by owned.Unit = refl
    owned_by (owned.Int i) = refl
    owned_by (owned.Mutex m) = refl
    owned_by (owned.Task t) = refl

    by : (o : Option Cell) → then_some (value_of_cell o) (λ u. then_some (with_word v.word u) (λ y. put_at (cell_spot at through) y h2)) ≡ option_map (note_write through) (then_some (value_of_cell o) (λ u. then_some (with_word v.word u) (λ y. put_at (cell_spot at None) y h2)))
    by None = refl
    by (Some c) = owned_by c.value

pub cells_reword : CellsReword
cells_reword = record {
  put = λ k n ts e h h2 at v c p s here boxed f i j home. put_rewords k n ts e h h2 at v c p s here boxed (cell_put h h2 at v c p here boxed f) i j home;
  tint = λ k n ts e h h2 at c p s here boxed f i j home.
      let w = next_word p.word in
      let q = cell_put (record h { work = (issue_tint p h.work).work }) h2 at w c p here boxed f in
      let moved : LeadsHome (put_in k n ts e h) (record p { word = w }) = record { server = home.server; address = home.address; lying = home.lying; leads = λ r a z m g. next_leads r a p.word (home.leads r a z m g) } in
      put_rewords k n ts e h h2 at w c p s here boxed (record { thread = q.thread; rest = q.rest }) i j moved;
  in_two = in_two;
}
