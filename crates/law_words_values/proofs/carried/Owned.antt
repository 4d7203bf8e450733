-- What a slot owns goes from there, and to each object that it owns its box is the only pointer: so no holder's place passes the slot.
use Rattle.std.proofs.Common.{◌≡◌, ◌⊎◌, inl, inr, ⊎_elim, ℕ, zero, suc, ◌==◌, true, false, Option, Some, None, refl, sym, ap, subst, ◌∙◌}
use Rattle.std.specs.Prelude.{slice_get}
use Rattle.law_words_kept.specs.Below.fr_base.declared.name.ObjNo.{ObjNo}
use Rattle.law_words_kept.specs.Below.fr_base.declared.place.Lval.{Lval}
use Rattle.law_words_kept.specs.Below.heap_partition.declared.value.BoxPtr.{BoxPtr}
use Rattle.law_words_kept.specs.Below.heap_partition.declared.value.Cell.{Cell}
use Rattle.law_words_kept.specs.Below.heap_partition.declared.value.Owned.{Owned}
use Rattle.law_words_kept.specs.Below.heap_partition.declared.value.Owned.TheVariants as owned
use Rattle.law_words_kept.specs.Below.mut_borrow.declared.mutable.MutRef.{MutRef}
use Rattle.law_words_kept.specs.Below.thread_state.View.{ThreadState}
use Rattle.law_words_kept.specs.Below.thread_state.declared.value.Value.{Value}
use Rattle.law_words_kept.specs.Below.thread_state.declared.value.Value.TheVariants as value
use Rattle.law_words_kept.specs.Below.server_model.Servers.{Cluster}
use Rattle.law_words_kept.specs.Below.coherent_memory.Names.{Among, same_object}
use Rattle.law_words_kept.specs.Below.coherent_memory.Things.{Location, at_slot, at_temp, in_cell, thread_things, things_of}
use Rattle.law_words_kept.specs.Below.coherent_memory.Follow.{Ground, Standing, thread_at, cell_of, value_of, value_in, value_behind, leads, locate, place_at}
use Rattle.law_words_kept.specs.Below.coherent_memory.Stale.{holder_of, one_star_less}
use Rattle.law_words_kept.specs.Below.coherent_memory.Sight.{sight}
use Rattle.law_words_kept.specs.Below.coherent_memory.Placing.{is_first}
use Rattle.law_words_kept.specs.Below.coherent_memory.Coherent.{Holds, first_at_holder}
use Rattle.law_words_kept.proofs.Below.coherent_memory.Words.{named}
use Rattle.law_words_kept.proofs.Below.coherent_types.Branches.{found}
use Rattle.law_words_kept.proofs.Below.law_words_paths.paths.Climbs.{and_second}
use Rattle.law_words_kept.proofs.Below.law_words_paths.paths.Sole.{some_is}
use Rattle.law_words_kept.specs.ends.Dropped.{box_leads, boxes_below}
use Rattle.law_words_kept.specs.Below.law_words_paths.words.Reworded.{HasPlaces}
use Rattle.law_words_kept.specs.Below.law_words_paths.words.Unmoved.{pointing, seen_at, Taking, taking_of, takings, Untouched}
use Rattle.law_words_kept.proofs.Below.law_words_paths.words.Grounds.{same_place}
use Rattle.law_words_kept.proofs.Below.law_words_paths.words.Put.{Split}
use Rattle.law_words_kept.proofs.Below.law_words_paths.words.Takings.{reference_at, seen_pointer_at}
use Rattle.law_words_values.proofs.carried.Replaced.{at_a}
use Rattle.law_words_values.proofs.carried.Passing.{Here, slot, temp, nowhere, located, Passes, Quiet, here_a, elsewhere, no_temp, seen_leads, holder_no_temp, first_there}
use Rattle.law_words_values.proofs.carried.Taken.{taker_of, taking_thread}

-- no mutable reference leads to what is owned there, however many boxes below
abbrev pub OwnsAlone : Cluster → Location → Type 0
OwnsAlone k l = (n : ℕ) (h : Location) (b : BoxPtr) → boxes_below (sight k).ground l n ≡ Some h → value_in (sight k).ground h ≡ Some (value.Own (owned.Box b)) → (m : Location) (r : MutRef) → value_in (sight k).ground m ≡ Some (value.Mut r) → r.object ≡ b.object → ⊥

-- an owned value, or none
pub data IsOwned : Option Value → Type 0 where
  owns : (u : Owned) → IsOwned (Some (value.Own u))
  none : IsOwned None

owned_leads : (t : ℕ) (v : Option Value) → IsOwned v → leads t v ≡ box_leads v
owned_leads t _ (owns (owned.Box b)) = refl
owned_leads t _ (owns owned.Nothing) = refl
owned_leads t _ (owns owned.Unit) = refl
owned_leads t _ (owns (owned.Int i)) = refl
owned_leads t _ (owns (owned.Mutex m)) = refl
owned_leads t _ (owns (owned.Task m)) = refl
owned_leads t _ none = refl

-- a box leads to a cell
box_to_cell : (v : Option Value) (l : Location) → box_leads v ≡ Some l → (o : ObjNo) × (l ≡ in_cell o)
box_to_cell (Some (value.Own (owned.Box b))) l e = (b.object, some_is (sym e))
box_to_cell None l e = absurd cc
box_to_cell (Some (value.Own owned.Nothing)) l e = absurd cc
box_to_cell (Some (value.Own owned.Unit)) l e = absurd cc
box_to_cell (Some (value.Own (owned.Int i))) l e = absurd cc
box_to_cell (Some (value.Own (owned.Mutex i))) l e = absurd cc
box_to_cell (Some (value.Own (owned.Task i))) l e = absurd cc
box_to_cell (Some value.Gone) l e = absurd cc
box_to_cell (Some (value.SharedSlot i)) l e = absurd cc
box_to_cell (Some (value.MutSlot i)) l e = absurd cc
box_to_cell (Some (value.Shared r)) l e = absurd cc
box_to_cell (Some (value.Mut r)) l e = absurd cc
box_to_cell (Some (value.Held i)) l e = absurd cc

-- a slot where a place leads is of its thread
leads_own : (t u i : ℕ) (v : Option Value) → leads t v ≡ Some (at_slot u i) → u ≡ t
leads_own t u i None e = absurd cc
leads_own t u i (Some value.Gone) e = absurd cc
leads_own t u i (Some (value.Own (owned.Box q))) e = absurd cc
leads_own t u i (Some (value.Own owned.Nothing)) e = absurd cc
leads_own t u i (Some (value.Own owned.Unit)) e = absurd cc
leads_own t u i (Some (value.Own (owned.Int m))) e = absurd cc
leads_own t u i (Some (value.Own (owned.Mutex m))) e = absurd cc
leads_own t u i (Some (value.Own (owned.Task m))) e = absurd cc
leads_own t u i (Some (value.SharedSlot m)) e = cc
leads_own t u i (Some (value.MutSlot m)) e = cc
leads_own t u i (Some (value.Shared m)) e = absurd cc
leads_own t u i (Some (value.Mut m)) e = absurd cc
leads_own t u i (Some (value.Held m)) e = absurd cc

own_slot : (g : Ground) (t k d u i : ℕ) → locate g t k d ≡ Some (at_slot u i) → u ≡ t
own_slot g t k zero u i e = cc
own_slot g t k (suc d) u i e = leads_own t u i (value_behind g (locate g t k d)) e

-- a slot is passed so many stars before the end of a place
abbrev pub Visits : Ground → ℕ → ℕ → Location → ℕ → ℕ → Type 0
Visits g t k l d zero = locate g t k d ≡ Some l
Visits g t k l (suc d) (suc n) = Visits g t k l d n
Visits g t k l zero (suc n) = ⊥

-- the word of a first owned pointer is a box's
first_owned : (r : MutRef) (v : Option Value) → IsOwned v → is_first r v ≡ true → (b : BoxPtr) × (v ≡ Some (value.Own (owned.Box b))) × (r.object ≡ b.object)
first_owned r _ (owns (owned.Box b)) e = (b, refl, named r.object b.object (and_second (r.first == b.word) (same_object r.object b.object) e))
first_owned r _ (owns owned.Nothing) e = absurd cc
first_owned r _ (owns owned.Unit) e = absurd cc
first_owned r _ (owns (owned.Int i)) e = absurd cc
first_owned r _ (owns (owned.Mutex m)) e = absurd cc
first_owned r _ (owns (owned.Task m)) e = absurd cc
first_owned r _ none e = absurd cc

module _ (a b : Cluster) (n : ℕ) (x y : ThreadState) (i : ℕ) (to : Here) (p : Passes a.code n x y (slot i) to) (s : Split (things_of a) (things_of b) (thread_things n false x) (thread_things n false y)) (code : b.code ≡ a.code) (c : HasPlaces a) (d : HasPlaces b)
    (u : Owned) (at : slice_get x.slots i ≡ Some (value.Own u)) (away : (j : ℕ) → slot j ≡ to → ⊥) (alone : OwnsAlone a (at_slot x.number i)) where
  abbrev ga : Ground
  ga = (sight a).ground

  abbrev gb : Ground
  gb = (sight b).ground

  abbrev l : Location
  l = at_slot x.number i

  abbrev g : Option Location
  g = located x.number to

  value_l : value_in ga l ≡ Some (value.Own u)
  value_l = here_a a b n x y (slot i) to p s code c d (slot i) l refl ∙ at

  -- what it owns
  owned_cell : (o : ObjNo) → IsOwned (value_in ga (in_cell o))
  owned_cell o = by (cell_of ga.cells o)
    where
      by : (e : Option Cell) → IsOwned (value_of e)
      by None = none
      by (Some e) = owns e.value

  owned_at : (m : ℕ) (h : Location) → boxes_below ga l m ≡ Some h → IsOwned (value_in ga h)
  owned_at zero h e = subst (λ q. IsOwned (value_in ga q)) (some_is e) (subst IsOwned (sym value_l) (owns u))
  owned_at (suc m) h e = let q = box_to_cell (value_behind ga (boxes_below ga l m)) h e in subst (λ w. IsOwned (value_in ga w)) (sym q.1) (owned_cell q.0)

  owned_behind : (m : ℕ) → IsOwned (value_behind ga (boxes_below ga l m))
  owned_behind m = by (boxes_below ga l m) (λ h e. owned_at m h e)
    where
      by : (o : Option Location) → ((h : Location) → o ≡ Some h → IsOwned (value_in ga h)) → IsOwned (value_behind ga o)
      by None go = none
      by (Some h) go = go h refl

  along : (t k e m : ℕ) → Visits ga t k l e m → locate ga t k e ≡ boxes_below ga l m
  along t k e zero v = v
  along t k (suc e) (suc m) v = ap (λ o. leads t (value_behind ga o)) (along t k e m v) ∙ owned_leads t (value_behind ga (boxes_below ga l m)) (owned_behind m)
  along t k zero (suc m) v = absurd v

  visits_own : (t k e m : ℕ) → Visits ga t k l e m → x.number ≡ t
  visits_own t k e zero v = own_slot ga t k e x.number i v
  visits_own t k (suc e) (suc m) v = visits_own t k e m v
  visits_own t k zero (suc m) v = absurd v

  -- where the value comes no place is
  not_to : (h : Here) → ((j : ℕ) → slot j ≡ h → ⊥) → (j : Location) → ((v w : ℕ) → j ≡ at_temp v w → ⊥) → Some j ≡ located x.number h → ⊥
  not_to (slot m) w j calm e = w m refl
  not_to (temp m) w j calm e = calm x.number m (some_is e)
  not_to nowhere w j calm e = absurd cc

  not_there : (t k e : ℕ) (j : Location) → locate ga t k e ≡ Some j → Some j ≡ g → ⊥
  not_there t k e j q = not_to to away j (λ v w r. no_temp ga t k e v w (q ∙ ap Some r))

  -- a place passes the slot, or leads where it led, and not to the slot
  abbrev Follows : ℕ → ℕ → ℕ → Location → Type 0
  Follows t k e m = ((r : ℕ) × Visits ga t k l e r) ⊎ ((locate gb t k e ≡ Some m) × (m ≡ l → ⊥))

  ends_there : (t k e : ℕ) (m : Location) → locate ga t k e ≡ Some m → locate gb t k e ≡ Some m → Follows t k e m
  ends_there t k e m q w = ⊎_elim (λ (z : m ≡ l). inl (zero, q ∙ ap Some z)) (λ (z : m ≡ l → ⊥). inr (w, z)) (same_place m l)

  follow : (t k e : ℕ) (m : Location) → locate ga t k e ≡ Some m → Follows t k e m
  follow t k zero m q = ends_there t k zero m q q
  follow t k (suc e) m q = by (locate ga t k e) refl q (λ j w. follow t k e j w)
    where
      by : (o : Option Location) → locate ga t k e ≡ o → leads t (value_behind ga o) ≡ Some m → ((j : Location) → locate ga t k e ≡ Some j → Follows t k e j) → Follows t k (suc e) m
      by None z h go = absurd cc
      by (Some j) z h go =
          ⊎_elim (λ (v : (r : ℕ) × Visits ga t k l e r). inl (suc v.0, v.1))
          (λ (v : (locate gb t k e ≡ Some j) × (j ≡ l → ⊥)).
          let same = elsewhere a b n x y (slot i) to p s code c d j (λ r. v.1 (some_is r)) (not_there t k e j z) in
          ends_there t k (suc e) m q (ap (λ o. leads t (value_behind gb o)) v.0 ∙ seen_leads a b n x y (slot i) to p s code c d t j (λ v w r. no_temp ga t k e v w (z ∙ ap Some r)) same ∙ h)) (go j z)

  -- HOLDERS

  module _ (all : Holds a first_at_holder) where
    unvisited : (t : ℕ) (w : Lval) (lr m : Location) (r : MutRef) (v : ℕ) → value_in ga lr ≡ Some (value.Mut r) → is_first r (value_in ga m) ≡ true → locate ga t w.slot w.depth ≡ Some m → Visits ga t w.slot l w.depth v → ⊥
    unvisited t w lr m r v e first q visits =
        let below : boxes_below ga l v ≡ Some m = sym (along t w.slot w.depth v visits) ∙ q in
        let z = first_owned r (value_in ga m) (owned_at v m below) first in
        alone v m z.0 below z.1 lr r e z.2

    held_so : (t : ℕ) (w : Lval) (lr m : Location) (r : MutRef) → value_in ga lr ≡ Some (value.Mut r) → is_first r (value_in ga m) ≡ true → locate ga t w.slot w.depth ≡ Some m → (locate gb t w.slot w.depth ≡ Some m) × (m ≡ l → ⊥)
    held_so t w lr m r e first q =
        ⊎_elim (λ (v : (z : ℕ) × Visits ga t w.slot l w.depth z). absurd (unvisited t w lr m r v.0 e first q v.1)) (λ (v : (locate gb t w.slot w.depth ≡ Some m) × (m ≡ l → ⊥)). v) (follow t w.slot w.depth m q)

    holder_so : (lr m : Location) (r : MutRef) → value_in ga lr ≡ Some (value.Mut r) → holder_of ga lr r.holder ≡ Some m → (holder_of gb lr r.holder ≡ Some m) × (m ≡ l → ⊥)
    holder_so (at_slot t j) m r e q = held_so t r.holder (at_slot t j) m r e (first_there a b n x y (slot i) to p s code c d all (at_slot t j) m r e q) q
    holder_so (at_temp t j) m r e q = held_so t r.holder (at_temp t j) m r e (first_there a b n x y (slot i) to p s code c d all (at_temp t j) m r e q) q
    holder_so (in_cell o) m r e q = absurd cc

    -- what was taken is another thread's
    another : (t : Taking) → Among t (takings a.code ga.threads) → x.number ≡ t.thread → ⊥
    another t h e =
        let q = taker_of a.code ga.threads t h in
        let its : t.thread ≡ q.taker.thread.number = taking_thread q.taker.thread.number q.taker.thread.phase (slice_get a.code q.taker.thread.pc) t q.taking in
        let me : Standing = record { server = n; packed = false; thread = x } in
        let same : Some q.taker ≡ Some me = sym (found q.taker (things_of a) (c.numbers_differ q.taker.thread.number) q.among) ∙ ap (thread_at ga.threads) (sym its ∙ sym e) ∙ at_a a b n x y p.number s c d in
        let none_some : None ≡ Some t = sym p.untaken ∙ ap (taking_of a.code) (sym (some_is same)) ∙ q.taking in
        absurd cc

    followed : (t : Taking) (e : ℕ) (m : Location) → Among t (takings a.code ga.threads) → locate ga t.thread t.place.slot e ≡ Some m → (locate gb t.thread t.place.slot e ≡ Some m) × (m ≡ l → ⊥)
    followed t e m h q =
        ⊎_elim (λ (v : (z : ℕ) × Visits ga t.thread t.place.slot l e z). absurd (another t h (visits_own t.thread t.place.slot e v.0 v.1))) (λ (v : (locate gb t.thread t.place.slot e ≡ Some m) × (m ≡ l → ⊥)). v) (follow t.thread t.place.slot e m q)

    less_same : (t : Taking) (e : ℕ) (m : Location) → Among t (takings a.code ga.threads) → locate ga t.thread t.place.slot e ≡ Some m → one_star_less gb t.thread t.place.slot e ≡ one_star_less ga t.thread t.place.slot e
    less_same t zero m h q = refl
    less_same t (suc e) m h q = by (locate ga t.thread t.place.slot e) refl q
      where
        by : (o : Option Location) → locate ga t.thread t.place.slot e ≡ o → leads t.thread (value_behind ga o) ≡ Some m → locate gb t.thread t.place.slot e ≡ locate ga t.thread t.place.slot e
        by None z w = absurd cc
        by (Some j) z w = (followed t e j h z).0 ∙ sym z

    less_away : (t : Taking) (e : ℕ) (m : Location) → Among t (takings a.code ga.threads) → one_star_less ga t.thread t.place.slot e ≡ Some m → (Some m ≡ Some l → ⊥) × (Some m ≡ g → ⊥)
    less_away t zero m h q = absurd cc
    less_away t (suc e) m h q = (λ z. (followed t e m h q).1 (some_is z), not_there t.thread t.place.slot e m q)

    pub owned_quiet : ((t : Taking) → Among t (takings a.code ga.threads) → (m : Location) × (place_at ga t.thread t.place ≡ Some m)) → Quiet a b (located x.number (slot i)) g
    owned_quiet rooted = record {
      holders = λ lr m r e w. (holder_so lr m r e w).0;
      unmade = λ lr m r e w. (λ z. (holder_so lr m r e w).1 (some_is z), not_to to away m (holder_no_temp a b n x y (slot i) to p s code c d lr m r.holder w));
      taken = λ t h. (let q = rooted t h in ((followed t t.place.depth q.0 h q.1).0 ∙ sym q.1, less_same t t.place.depth q.0 h q.1));
      untaken = λ t m h e. less_away t t.place.depth m h e;
    }

-- WHERE NOTHING CHANGES THAT WORDS SEE

box_pointing : (v : Option Value) → box_leads (pointing v) ≡ box_leads v
box_pointing None = refl
box_pointing (Some value.Gone) = refl
box_pointing (Some (value.Own (owned.Box b))) = refl
box_pointing (Some (value.Own owned.Nothing)) = refl
box_pointing (Some (value.Own owned.Unit)) = refl
box_pointing (Some (value.Own (owned.Int i))) = refl
box_pointing (Some (value.Own (owned.Mutex i))) = refl
box_pointing (Some (value.Own (owned.Task i))) = refl
box_pointing (Some (value.SharedSlot i)) = refl
box_pointing (Some (value.MutSlot i)) = refl
box_pointing (Some (value.Shared r)) = refl
box_pointing (Some (value.Mut r)) = refl
box_pointing (Some (value.Held i)) = refl

module _ (k z : Cluster) (v : Untouched k z) (t i : ℕ) where
  below_no_temp : (m u j : ℕ) → boxes_below (sight k).ground (at_slot t i) m ≡ Some (at_temp u j) → ⊥
  below_no_temp zero u j e = absurd cc
  below_no_temp (suc m) u j e = let q = box_to_cell (value_behind (sight k).ground (boxes_below (sight k).ground (at_slot t i) m)) (at_temp u j) e in cell_temp q.0 q.1
    where
      cell_temp : (o : ObjNo) → at_temp u j ≡ in_cell o → ⊥
      cell_temp o w = absurd cc

  boxes_lead : (h : Location) → ((u j : ℕ) → h ≡ at_temp u j → ⊥) → box_leads (value_in (sight z).ground h) ≡ box_leads (value_in (sight k).ground h)
  boxes_lead (at_slot u j) w = sym (box_pointing (value_in (sight z).ground (at_slot u j))) ∙ ap box_leads (v.stands (at_slot u j)) ∙ box_pointing (value_in (sight k).ground (at_slot u j))
  boxes_lead (at_temp u j) w = absurd (w u j refl)
  boxes_lead (in_cell o) w = sym (box_pointing (value_in (sight z).ground (in_cell o))) ∙ ap box_leads (v.stands (in_cell o)) ∙ box_pointing (value_in (sight k).ground (in_cell o))

  below_same : (m : ℕ) → boxes_below (sight z).ground (at_slot t i) m ≡ boxes_below (sight k).ground (at_slot t i) m
  below_same zero = refl
  below_same (suc m) = ap (λ o. box_leads (value_behind (sight z).ground o)) (below_same m) ∙ by (boxes_below (sight k).ground (at_slot t i) m) refl
    where
      by : (o : Option Location) → boxes_below (sight k).ground (at_slot t i) m ≡ o → box_leads (value_behind (sight z).ground o) ≡ box_leads (value_behind (sight k).ground o)
      by None e = refl
      by (Some h) e = boxes_lead h (λ u j w. below_no_temp m u j (e ∙ ap Some w))

  pub owns_on : OwnsAlone k (at_slot t i) → OwnsAlone z (at_slot t i)
  owns_on go m h b below is l r e =
      go m h b (sym (below_same m) ∙ below)
      (seen_pointer_at h (value_in (sight k).ground h) (value.Own (owned.Box b)) (record { at = Some h; word = b.word; object = b.object }) (sym (v.stands h) ∙ ap (seen_at h) is) (inl refl)) l r
      (reference_at l (value_in (sight k).ground l) r (sym (v.stands l) ∙ ap (seen_at l) e))
