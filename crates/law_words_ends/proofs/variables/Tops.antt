-- A mutable reference on top of the hand gets a word: the clusters with the thread put back are the same but for it.
use Rattle.std.proofs.Common.{◌≡◌, ◌≢◌, inl, inr, ⊎_elim, ℕ, zero, suc, ◌+◌, ◌==◌, ◌||◌, not, Bool, true, false, List, [], ◌∷◌, ◌++◌, map, refl, sym, ap, subst, ◌∙◌, arith}
use Rattle.std.specs.Prelude.{slice_get, length}
use Rattle.std.proofs.lemmas.Bool.Decides.{nat_tests}
use Rattle.std.proofs.lemmas.List.{append_assoc}
use Rattle.law_words_borrows.specs.Below.heap_partition.declared.value.Cell.{Cell}
use Rattle.law_words_borrows.specs.Below.mut_borrow.declared.mutable.MutRef.{MutRef}
use Rattle.law_words_borrows.specs.Below.mut_borrow.Refs.{changed}
use Rattle.law_words_borrows.specs.Below.thread_state.View.{ThreadState}
use Rattle.law_words_borrows.specs.Below.thread_state.declared.value.Value.{Value}
use Rattle.law_words_borrows.specs.Below.thread_state.declared.value.Value.TheVariants as value
use Rattle.law_words_borrows.specs.Below.server_model.Servers.{Cluster}
use Rattle.law_words_borrows.specs.Below.server_model.Places.{took}
use Rattle.law_words_borrows.specs.Below.coherent_memory.Names.{Among}
use Rattle.law_words_borrows.specs.Below.coherent_memory.Things.{Location, at_slot, at_temp, in_cell, Thing, lies, things_at, gift_things, walk_things, slot_things, temp_things, thread_things, things_of}
use Rattle.law_words_borrows.specs.Below.coherent_memory.Follow.{Standing, threads_in, cells_in, temp_of, value_in}
use Rattle.law_words_borrows.specs.Below.coherent_memory.Sight.{sight}
use Rattle.law_words_borrows.specs.Below.coherent_memory.Words.{LeadsTo}
use Rattle.law_words_borrows.proofs.Below.coherent_memory.Bags.{among_split}
use Rattle.law_words_borrows.proofs.Below.law_words_paths.paths.Origins.{threads_joined, among_first, among_second}
use Rattle.law_words_borrows.proofs.Below.law_words_paths.paths.Contained.{rest_none}
use Rattle.law_words_borrows.specs.Below.law_words_paths.words.Reworded.{HasPlaces, is_loose, turn_of, LiesThere, Reworded}
use Rattle.law_words_borrows.proofs.Below.law_words_paths.words.Grounds.{renews}
use Rattle.law_words_borrows.proofs.Below.law_words_paths.words.Put.{Split}
use Rattle.law_words_borrows.proofs.Below.law_words_paths.words.Slots.{turns_replaced, thread_cells, lying_in}
use Rattle.law_words_borrows.proofs.Below.law_words_values.carried.Replaced.{at_a, at_b, in_slots, in_temps, in_cells}
use Rattle.law_words_borrows.proofs.Below.law_words_values.carried.Places.{end_is}

-- a reference with another word than its first is changed
not_first : (r : MutRef) (w : ℕ) → w ≢ r.first → changed (took r w) ≡ true
not_first r w n = by (w == r.first) refl
  where
    by : (b : Bool) → (w == r.first) ≡ b → (false || not (w == r.first)) ≡ true
    by true e = let s : w ≡ r.first = grind (arith, nat_tests, e) in absurd (n s)
    by false e = ap (λ b. false || not b) e

-- below the top two hands are the same
below_top : (ts : List Value) (v u : Value) (j : ℕ) → (j ≡ length ts → ⊥) → slice_get (ts ++ u ∷ []) j ≡ slice_get (ts ++ v ∷ []) j
below_top [] v u zero n = absurd (n refl)
below_top [] v u (suc j) n = refl
below_top (t ∷ ts) v u zero n = refl
below_top (t ∷ ts) v u (suc j) n = below_top ts v u j (λ e. n (ap suc e))

-- a reference is nothing that stands at no location
fixed : (m t i : ℕ) (r : MutRef) (y : Thing) → Among y (temp_things m t i (value.Mut r)) → is_loose y ≡ true → ⊥
fixed m t i r y (inl q) e = let no : true ≡ false = sym e ∙ ap is_loose (sym q) in absurd (cc no)
fixed m t i r y (inr q) e = q

-- what is loose in a hand is so whatever reference is on top
loose_top : (m t i : ℕ) (ts : List Value) (r q : MutRef) (y : Thing) → is_loose y ≡ true → Among y (things_at (temp_things m t) i (ts ++ value.Mut r ∷ [])) → Among y (things_at (temp_things m t) i (ts ++ value.Mut q ∷ []))
loose_top m t i [] r q y e h = ⊎_elim (λ (w : Among y (temp_things m t i (value.Mut r))). absurd (fixed m t i r y w e)) (λ (w : Among y []). absurd w) (among_split y (temp_things m t i (value.Mut r)) [] h)
loose_top m t i (v ∷ ts) r q y e h =
    let a = temp_things m t i v in
    let b = things_at (temp_things m t) (i + 1) (ts ++ value.Mut r ∷ []) in
    let c = things_at (temp_things m t) (i + 1) (ts ++ value.Mut q ∷ []) in
    ⊎_elim (λ (w : Among y a). among_first y a c w) (λ (w : Among y b). among_second y a c (loose_top m t (i + 1) ts r q y e w)) (among_split y a b h)

module _ (a b : Cluster) (n w : ℕ) (x : ThreadState) (ts : List Value) (r : MutRef) (top : x.temps ≡ ts ++ value.Mut r ∷ []) (s : Split (things_of a) (things_of b) (thread_things n false x) (thread_things n false (record x { temps = ts ++ value.Mut (took r w) ∷ [] })))
    (code : b.code ≡ a.code) (c : HasPlaces a) (d : HasPlaces b) where
  abbrev y : ThreadState
  y = record x { temps = ts ++ value.Mut (took r w) ∷ [] }

  abbrev sx : Standing
  sx = record { server = n; packed = false; thread = x }

  abbrev sy : Standing
  sy = record { server = n; packed = false; thread = y }

  -- the threads of a list with one thread
  parts : (l m g : List Thing) (z : Standing) → threads_in m ≡ z ∷ [] → threads_in (l ++ m ++ g) ≡ threads_in l ++ (z ∷ threads_in g)
  parts l m g z e = threads_joined (l ++ m) g ∙ ap (λ q. q ++ threads_in g) (threads_joined l m) ∙ ap (λ q. threads_in l ++ q ++ threads_in g) e ∙ append_assoc (threads_in l) (z ∷ []) (threads_in g)

  -- before
  threads_a : threads_in (things_of a) ≡ threads_in s.left ++ (sx ∷ threads_in s.right)
  threads_a = ap threads_in s.before ∙ parts s.left (thread_things n false x) s.right sx (ap (λ q. sx ∷ q) (rest_none n x))

  -- and after
  threads_b : threads_in (things_of b) ≡ threads_in s.left ++ (sy ∷ threads_in s.right)
  threads_b = ap threads_in s.after ∙ parts s.left (thread_things n false y) s.right sy (ap (λ q. sy ∷ q) (rest_none n y))

  -- elsewhere stands what stood there
  elsewhere : (l : Location) → (l ≡ at_temp x.number (length ts) → ⊥) → value_in (sight b).ground l ≡ value_in (sight a).ground l
  elsewhere (at_slot m j) f =
      ⊎_elim (λ (e : value_in (sight b).ground (at_slot m j) ≡ value_in (sight a).ground (at_slot m j)). e)
      (λ (e : (x.number ≡ m) × (value_in (sight a).ground (at_slot m j) ≡ slice_get x.slots j) × (value_in (sight b).ground (at_slot m j) ≡ slice_get y.slots j)). e.2 ∙ sym e.1) (in_slots a b n x y refl s c d m j)
  elsewhere (at_temp m j) f =
      ⊎_elim (λ (e : value_in (sight b).ground (at_temp m j) ≡ value_in (sight a).ground (at_temp m j)). e)
      (λ (e : (x.number ≡ m) × (value_in (sight a).ground (at_temp m j) ≡ slice_get x.temps j) × (value_in (sight b).ground (at_temp m j) ≡ slice_get y.temps j)).
      e.2 ∙ below_top ts (value.Mut r) (value.Mut (took r w)) j (λ z. f (ap (λ q. at_temp q j) (sym e.0) ∙ ap (at_temp x.number) z)) ∙ ap (λ vs. slice_get vs j) (sym top) ∙ sym e.1) (in_temps a b n x y refl s c d m j)
  elsewhere (in_cell o) f = in_cells a b n x y refl s c d o

  -- in the middle of a list
  around : (z : Thing) (l m k g : List Thing) → (Among z m → Among z k) → Among z (l ++ m ++ g) → Among z (l ++ k ++ g)
  around z l m k g go h =
      ⊎_elim (λ (q : Among z (l ++ m)). among_first z (l ++ k) g (⊎_elim (λ (v : Among z l). among_first z l k v) (λ (v : Among z m). among_second z l k (go v)) (among_split z l m q))) (λ (q : Among z g). among_second z (l ++ k) g q)
      (among_split z (l ++ m) g h)

  -- what is loose of a thread with another hand
  loose_thread : (us vs : List Value) (z : Thing) → is_loose z ≡ true → (Among z (things_at (temp_things n x.number) 0 us) → Among z (things_at (temp_things n x.number) 0 vs)) → Among z (thread_things n false (record x { temps = us })) → Among z (thread_things n false (record x { temps = vs }))
  loose_thread us vs z e go (inl q) = let no : true ≡ false = sym e ∙ ap is_loose (sym q) in absurd (cc no)
  loose_thread us vs z e go (inr h) =
      let g = gift_things x.number x.gift ++ things_at (walk_things n) 0 x.walk ++ things_at (slot_things n x.number) 0 x.slots in
      let old = things_at (temp_things n x.number) 0 us in
      let new = things_at (temp_things n x.number) 0 vs in
      inr (⊎_elim (λ (l : Among z g). among_first z g new l) (λ (q : Among z old). among_second z g new (go q)) (among_split z g old h))

  -- what the hand has
  before_top : things_at (temp_things n x.number) 0 x.temps ≡ things_at (temp_things n x.number) 0 (ts ++ value.Mut r ∷ [])
  before_top = ap (things_at (temp_things n x.number) 0) top

  -- what is loose afterwards was there
  loose : (z : Thing) → Among z (things_of b) → is_loose z ≡ true → Among z (things_of a)
  loose z h e =
      let go = loose_thread (ts ++ value.Mut (took r w) ∷ []) x.temps z e (λ q. subst (λ l. Among z l) (sym before_top) (loose_top n x.number 0 ts (took r w) r z e q)) in
      subst (λ q. Among z q) (sym s.before) (around z s.left (thread_things n false y) (thread_things n false x) s.right go (subst (λ q. Among z q) s.after h))

  -- and stays
  remain : (z : Thing) → Among z (things_of a) → is_loose z ≡ true → Among z (things_of b)
  remain z h e =
      let go = loose_thread x.temps (ts ++ value.Mut (took r w) ∷ []) z e (λ q. loose_top n x.number 0 ts r (took r w) z e (subst (λ l. Among z l) before_top q)) in
      subst (λ q. Among z q) (sym s.after) (around z s.left (thread_things n false x) (thread_things n false y) s.right go (subst (λ q. Among z q) s.before h))

  -- what lies is in no thread
  still_lies : (l m k g : List Thing) (i o : ℕ) (z : Cell) → cells_in m ≡ [] → Among (lies i o z) (l ++ m ++ g) → Among (lies i o z) (l ++ k ++ g)
  still_lies l m k g i o z e h = around (lies i o z) l m k g (λ f. let none : Among z [] = subst (λ cs. Among z cs) e (lying_in i o z m f) in absurd none) h

  -- what lies lay there
  lies_before : (i o : ℕ) (z : Cell) → Among (lies i o z) (things_of b) → Among (lies i o z) (things_of a)
  lies_before i o z h = subst (λ q. Among (lies i o z) q) (sym s.before) (still_lies s.left (thread_things n false y) (thread_things n false x) s.right i o z (thread_cells n y) (subst (λ q. Among (lies i o z) q) s.after h))

  -- and what lay lies
  pub lies_after : (i o : ℕ) (z : Cell) → Among (lies i o z) (things_of a) → Among (lies i o z) (things_of b)
  lies_after i o z h = subst (λ q. Among (lies i o z) q) (sym s.after) (still_lies s.left (thread_things n false x) (thread_things n false y) s.right i o z (thread_cells n x) (subst (λ q. Among (lies i o z) q) s.before h))

  -- a word that isn't its first one, and leads to where the object lies
  pub top_reworded : w ≢ r.first → (i g : ℕ) → LiesThere a i g r.object → ((m k : ℕ) (z : Cell) → Among (lies m k z) (things_of a) → z.object ≡ r.object → LeadsTo m k w) → Reworded a b (at_temp x.number (length ts)) r.object w
  top_reworded other i g there leads = record {
    code = code;
    old = value.Mut r;
    new = value.Mut (took r w);
    stood = ap (λ q. temp_of q (length ts)) (at_a a b n x y refl s c d) ∙ ap (λ vs. slice_get vs (length ts)) top ∙ end_is ts (value.Mut r);
    renewed = renews w (value.Mut r) (value.Mut (took r w)) refl;
    stands = ap (λ q. temp_of q (length ts)) (at_b a b n x y refl s c d) ∙ end_is ts (value.Mut (took r w));
    changed = λ q f. (let same : took r w ≡ q = cc in subst (λ m. changed m ≡ true) same (not_first r w other));
    elsewhere = elsewhere;
    turns = ap (map turn_of) threads_b ∙ turns_replaced (threads_in s.left) (threads_in s.right) sx sy refl ∙ sym (ap (map turn_of) threads_a);
    loose = loose;
    remain = λ z h e f. remain z h e;
    server = i;
    address = g;
    lying = record { cell = there.cell; among = lies_after i g there.cell there.among; object = there.object };
    leads = λ m k z h e. leads m k z (lies_before m k z h) e;
    lay = λ m k z h e. record { cell = z; among = lies_before m k z h; object = refl };
  }
