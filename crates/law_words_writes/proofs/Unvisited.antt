-- Where holders are, and what threads have taken from, where a cell loses its value or gets one: no such place passes the cell.
use Rattle.std.proofs.Common.{◌≡◌, ◌⊎◌, inl, inr, ⊎_elim, ℕ, zero, suc, ◌≤◌, ◌==◌, Bool, true, false, Option, Some, None, refl, sym, ap, subst, ◌∙◌, arith}
use Rattle.law_words_asked.specs.Below.fr_base.declared.name.ObjNo.{ObjNo}
use Rattle.law_words_asked.specs.Below.fr_base.declared.place.Lval.{Lval}
use Rattle.law_words_asked.specs.Below.heap_partition.declared.value.BoxPtr.{BoxPtr}
use Rattle.law_words_asked.specs.Below.heap_partition.declared.value.Cell.{Cell}
use Rattle.law_words_asked.specs.Below.heap_partition.declared.value.Owned.{Owned}
use Rattle.law_words_asked.specs.Below.heap_partition.declared.value.Owned.TheVariants as owned
use Rattle.law_words_asked.specs.Below.mut_borrow.declared.mutable.MutRef.{MutRef}
use Rattle.law_words_asked.specs.Below.thread_state.declared.value.Value.{Value}
use Rattle.law_words_asked.specs.Below.thread_state.declared.value.Value.TheVariants as value
use Rattle.law_words_asked.specs.Below.server_model.Servers.{Cluster}
use Rattle.law_words_asked.specs.Below.coherent_memory.Names.{Among, other, same_object}
use Rattle.law_words_asked.specs.Below.coherent_memory.Things.{Location, at_slot, at_temp, in_cell, things_of}
use Rattle.law_words_asked.specs.Below.coherent_memory.Follow.{Ground, cell_of, value_of, value_in, value_behind, leads, locate}
use Rattle.law_words_asked.specs.Below.coherent_memory.Stale.{Reference, references, holder_of, one_star_less}
use Rattle.law_words_asked.specs.Below.coherent_memory.Sight.{sight}
use Rattle.law_words_asked.specs.Below.coherent_memory.Placing.{is_first, other_first}
use Rattle.law_words_asked.specs.Below.coherent_memory.Coherent.{Holds, first_at_holder}
use Rattle.law_words_asked.proofs.Below.coherent_memory.Words.{none_at, named}
use Rattle.law_words_asked.proofs.Below.law_words_paths.paths.Climbs.{and_second}
use Rattle.law_words_asked.proofs.Below.law_words_paths.paths.Contained.{reference_there}
use Rattle.law_words_asked.proofs.Below.law_words_paths.paths.Sole.{some_is}
use Rattle.law_words_values.specs.Below.law_words_kept.ends.Dropped.{box_leads, boxes_below}
use Rattle.law_words_asked.specs.Below.law_words_paths.words.Unmoved.{Taking, takings}
use Rattle.law_words_asked.proofs.Below.law_words_paths.words.Grounds.{same_place}
use Rattle.law_words_values.proofs.carried.Hands.{RootedIn}
use Rattle.law_words_values.proofs.carried.Owned.{OwnsAlone, IsOwned, owns, none, Visits}
use Rattle.law_words_values.proofs.carried.Passing.{Quiet}

owned_leads : (t : ℕ) (v : Option Value) → IsOwned v → leads t v ≡ box_leads v
owned_leads t _ (owns (owned.Box b)) = refl
owned_leads t _ (owns owned.Nothing) = refl
owned_leads t _ (owns owned.Unit) = refl
owned_leads t _ (owns (owned.Int i)) = refl
owned_leads t _ (owns (owned.Mutex m)) = refl
owned_leads t _ (owns (owned.Task m)) = refl
owned_leads t _ none = refl

-- a box leads to a cell
box_to_cell : (v : Option Value) (l : Location) → box_leads v ≡ Some l → (o : ObjNo) × (l ≡ in_cell o)
box_to_cell (Some (value.Own (owned.Box b))) l e = (b.object, some_is (sym e))
box_to_cell None l e = absurd cc
box_to_cell (Some (value.Own owned.Nothing)) l e = absurd cc
box_to_cell (Some (value.Own owned.Unit)) l e = absurd cc
box_to_cell (Some (value.Own (owned.Int i))) l e = absurd cc
box_to_cell (Some (value.Own (owned.Mutex i))) l e = absurd cc
box_to_cell (Some (value.Own (owned.Task i))) l e = absurd cc
box_to_cell (Some value.Gone) l e = absurd cc
box_to_cell (Some (value.SharedSlot i)) l e = absurd cc
box_to_cell (Some (value.MutSlot i)) l e = absurd cc
box_to_cell (Some (value.Shared r)) l e = absurd cc
box_to_cell (Some (value.Mut r)) l e = absurd cc
box_to_cell (Some (value.Held i)) l e = absurd cc

-- the word of a first owned pointer is a box's
first_owned : (r : MutRef) (v : Option Value) → IsOwned v → is_first r v ≡ true → (b : BoxPtr) × (v ≡ Some (value.Own (owned.Box b))) × (r.object ≡ b.object)
first_owned r _ (owns (owned.Box b)) e = (b, refl, named r.object b.object (and_second (r.first == b.word) (same_object r.object b.object) e))
first_owned r _ (owns owned.Nothing) e = absurd cc
first_owned r _ (owns owned.Unit) e = absurd cc
first_owned r _ (owns (owned.Int i)) e = absurd cc
first_owned r _ (owns (owned.Mutex m)) e = absurd cc
first_owned r _ (owns (owned.Task m)) e = absurd cc
first_owned r _ none e = absurd cc

is_so : (v : Bool) → other v ≡ 0 → v ≡ true
is_so true e = refl
is_so false e = absurd cc

-- at the holder of a reference stands what it was made from
first_there : (a : Cluster) → Holds a first_at_holder → (l m : Location) (r : MutRef) → value_in (sight a).ground l ≡ Some (value.Mut r) → holder_of (sight a).ground l r.holder ≡ Some m → is_first r (value_in (sight a).ground m) ≡ true
first_there a all l m r e w =
    let q : Reference = record { at = l; holder = holder_of (sight a).ground l r.holder; reference = r } in
    is_so (is_first r (value_in (sight a).ground m)) (subst (λ o. other (is_first r (value_behind (sight a).ground o)) ≡ 0) w (none_at (other_first (sight a).ground) q (references (sight a).ground (things_of a)) all (reference_there a l r e)))

module _ (a b : Cluster) (o : ObjNo) (same : (l : Location) → (l ≡ in_cell o → ⊥) → value_in (sight b).ground l ≡ value_in (sight a).ground l) (all : Holds a first_at_holder) (rooted : RootedIn a) where
  abbrev ga : Ground
  ga = (sight a).ground

  abbrev gb : Ground
  gb = (sight b).ground

  abbrev c : Location
  c = in_cell o

  -- A VALUE COMES where none leads on

  module _ (blank : value_in ga c ≡ Some (value.Own owned.Nothing)) where
    no_way : (t : ℕ) (l j : Location) → leads t (value_in ga j) ≡ Some l → j ≡ c → ⊥
    no_way t l j e q = let z : None ≡ Some l = sym (ap (leads t) blank) ∙ ap (λ i. leads t (value_in ga i)) (sym q) ∙ e in absurd cc

    no_first : (r : MutRef) (j : Location) → is_first r (value_in ga j) ≡ true → j ≡ c → ⊥
    no_first r j e q = let z : false ≡ true = sym (ap (is_first r) blank) ∙ ap (λ i. is_first r (value_in ga i)) (sym q) ∙ e in absurd cc

    lead_on : (t k m : ℕ) (l : Location) → locate ga t k m ≡ Some l → locate gb t k m ≡ Some l
    lead_on t k zero l e = e
    lead_on t k (suc m) l e = by (locate ga t k m) refl e (λ j q. lead_on t k m j q)
      where
        by : (o : Option Location) → locate ga t k m ≡ o → leads t (value_behind ga o) ≡ Some l → ((j : Location) → locate ga t k m ≡ Some j → locate gb t k m ≡ Some j) → leads t (value_behind gb (locate gb t k m)) ≡ Some l
        by None q h go = absurd cc
        by (Some j) q h go = ap (λ o. leads t (value_behind gb o)) (go j q) ∙ ap (leads t) (same j (no_way t l j h)) ∙ h

    held_on : (l m : Location) (w : Lval) → holder_of ga l w ≡ Some m → holder_of gb l w ≡ Some m
    held_on (at_slot t i) m w e = lead_on t w.slot w.depth m e
    held_on (at_temp t i) m w e = lead_on t w.slot w.depth m e
    held_on (in_cell p) m w e = e

    less_on : (t k m : ℕ) (l : Location) → locate ga t k m ≡ Some l → one_star_less gb t k m ≡ one_star_less ga t k m
    less_on t k zero l e = refl
    less_on t k (suc m) l e = by (locate ga t k m) refl e
      where
        by : (o : Option Location) → locate ga t k m ≡ o → leads t (value_behind ga o) ≡ Some l → locate gb t k m ≡ locate ga t k m
        by None q h = absurd cc
        by (Some j) q h = lead_on t k m j q ∙ sym q

    less_clear : (t k m : ℕ) (l j : Location) → locate ga t k m ≡ Some l → one_star_less ga t k m ≡ Some j → j ≡ c → ⊥
    less_clear t k zero l j e q = absurd cc
    less_clear t k (suc m) l j e q = no_way t l j (ap (λ o. leads t (value_behind ga o)) (sym q) ∙ e)

    pub comes_quiet : Quiet a b None (Some c)
    comes_quiet = record {
      holders = λ l m r e w. held_on l m r.holder w;
      unmade = λ l m r e w. (λ z. absurd (cc z), λ z. no_first r m (first_there a all l m r e w) (some_is z));
      taken = λ t h. (let q = rooted t h in (lead_on t.thread t.place.slot t.place.depth q.0 q.1 ∙ sym q.1, less_on t.thread t.place.slot t.place.depth q.0 q.1));
      untaken = λ t m h e. (let q = rooted t h in (λ z. absurd (cc z), λ z. less_clear t.thread t.place.slot t.place.depth q.0 m q.1 e (some_is z)));
    }

  -- A VALUE GOES to which no reference leads, nor to what it owns

  module _ (u : Owned) (had : value_in ga c ≡ Some (value.Own u)) (alone : OwnsAlone a c) (apart : (t : Taking) (e : ℕ) → Among t (takings a.code ga.threads) → e ≤ t.place.depth → locate ga t.thread t.place.slot e ≡ Some c → ⊥) where
    owned_cell : (p : ObjNo) → IsOwned (value_in ga (in_cell p))
    owned_cell p = by (cell_of ga.cells p)
      where
        by : (e : Option Cell) → IsOwned (value_of e)
        by None = none
        by (Some e) = owns e.value

    owned_at : (m : ℕ) (h : Location) → boxes_below ga c m ≡ Some h → IsOwned (value_in ga h)
    owned_at zero h e = subst (λ q. IsOwned (value_in ga q)) (some_is e) (owned_cell o)
    owned_at (suc m) h e = let q = box_to_cell (value_behind ga (boxes_below ga c m)) h e in subst (λ w. IsOwned (value_in ga w)) (sym q.1) (owned_cell q.0)

    owned_behind : (m : ℕ) → IsOwned (value_behind ga (boxes_below ga c m))
    owned_behind m = by (boxes_below ga c m) (λ h e. owned_at m h e)
      where
        by : (o : Option Location) → ((h : Location) → o ≡ Some h → IsOwned (value_in ga h)) → IsOwned (value_behind ga o)
        by None go = none
        by (Some h) go = go h refl

    along : (t k e m : ℕ) → Visits ga t k c e m → locate ga t k e ≡ boxes_below ga c m
    along t k e zero v = v
    along t k (suc e) (suc m) v = ap (λ o. leads t (value_behind ga o)) (along t k e m v) ∙ owned_leads t (value_behind ga (boxes_below ga c m)) (owned_behind m)
    along t k zero (suc m) v = absurd v

    -- where it is passed
    visited : (t k e m : ℕ) → Visits ga t k c e m → (d : ℕ) × (d ≤ e) × (locate ga t k d ≡ Some c)
    visited t k e zero v = (e, omega arith, v)
    visited t k (suc e) (suc m) v = let q = visited t k e m v in (q.0, (let le = q.1 in omega (arith, le)), q.2)
    visited t k zero (suc m) v = absurd v

    -- a place passes the cell, or leads where it led, and not to the cell
    abbrev Follows : ℕ → ℕ → ℕ → Location → Type 0
    Follows t k e m = ((r : ℕ) × Visits ga t k c e r) ⊎ ((locate gb t k e ≡ Some m) × (m ≡ c → ⊥))

    ends_there : (t k e : ℕ) (m : Location) → locate ga t k e ≡ Some m → locate gb t k e ≡ Some m → Follows t k e m
    ends_there t k e m q w = ⊎_elim (λ (z : m ≡ c). inl (zero, q ∙ ap Some z)) (λ (z : m ≡ c → ⊥). inr (w, z)) (same_place m c)

    follow : (t k e : ℕ) (m : Location) → locate ga t k e ≡ Some m → Follows t k e m
    follow t k zero m q = ends_there t k zero m q q
    follow t k (suc e) m q = by (locate ga t k e) refl q (λ j w. follow t k e j w)
      where
        by : (o : Option Location) → locate ga t k e ≡ o → leads t (value_behind ga o) ≡ Some m → ((j : Location) → locate ga t k e ≡ Some j → Follows t k e j) → Follows t k (suc e) m
        by None z h go = absurd cc
        by (Some j) z h go =
            ⊎_elim (λ (v : (r : ℕ) × Visits ga t k c e r). inl (suc v.0, v.1))
            (λ (v : (locate gb t k e ≡ Some j) × (j ≡ c → ⊥)). ends_there t k (suc e) m q (ap (λ o. leads t (value_behind gb o)) v.0 ∙ ap (leads t) (same j v.1) ∙ h)) (go j z)

    -- HOLDERS

    unvisited : (t : ℕ) (w : Lval) (lr m : Location) (r : MutRef) (v : ℕ) → value_in ga lr ≡ Some (value.Mut r) → is_first r (value_in ga m) ≡ true → locate ga t w.slot w.depth ≡ Some m → Visits ga t w.slot c w.depth v → ⊥
    unvisited t w lr m r v e first q visits =
        let below : boxes_below ga c v ≡ Some m = sym (along t w.slot w.depth v visits) ∙ q in
        let z = first_owned r (value_in ga m) (owned_at v m below) first in
        alone v m z.0 below z.1 lr r e z.2

    held_so : (t : ℕ) (w : Lval) (lr m : Location) (r : MutRef) → value_in ga lr ≡ Some (value.Mut r) → is_first r (value_in ga m) ≡ true → locate ga t w.slot w.depth ≡ Some m → (locate gb t w.slot w.depth ≡ Some m) × (m ≡ c → ⊥)
    held_so t w lr m r e first q =
        ⊎_elim (λ (v : (z : ℕ) × Visits ga t w.slot c w.depth z). absurd (unvisited t w lr m r v.0 e first q v.1)) (λ (v : (locate gb t w.slot w.depth ≡ Some m) × (m ≡ c → ⊥)). v) (follow t w.slot w.depth m q)

    holder_so : (lr m : Location) (r : MutRef) → value_in ga lr ≡ Some (value.Mut r) → holder_of ga lr r.holder ≡ Some m → (holder_of gb lr r.holder ≡ Some m) × (m ≡ c → ⊥)
    holder_so (at_slot t j) m r e q = held_so t r.holder (at_slot t j) m r e (first_there a all (at_slot t j) m r e q) q
    holder_so (at_temp t j) m r e q = held_so t r.holder (at_temp t j) m r e (first_there a all (at_temp t j) m r e q) q
    holder_so (in_cell p) m r e q = absurd cc

    followed : (t : Taking) (e : ℕ) (m : Location) → Among t (takings a.code ga.threads) → e ≤ t.place.depth → locate ga t.thread t.place.slot e ≡ Some m → (locate gb t.thread t.place.slot e ≡ Some m) × (m ≡ c → ⊥)
    followed t e m h le q =
        ⊎_elim (λ (v : (z : ℕ) × Visits ga t.thread t.place.slot c e z). let d = visited t.thread t.place.slot e v.0 v.1 in absurd (apart t d.0 h (let x = d.1 in omega (arith, x, le)) d.2))
        (λ (v : (locate gb t.thread t.place.slot e ≡ Some m) × (m ≡ c → ⊥)). v) (follow t.thread t.place.slot e m q)

    less_same : (t : Taking) (e : ℕ) (m : Location) → Among t (takings a.code ga.threads) → e ≤ t.place.depth → locate ga t.thread t.place.slot e ≡ Some m → one_star_less gb t.thread t.place.slot e ≡ one_star_less ga t.thread t.place.slot e
    less_same t zero m h le q = refl
    less_same t (suc e) m h le q = by (locate ga t.thread t.place.slot e) refl q
      where
        by : (o : Option Location) → locate ga t.thread t.place.slot e ≡ o → leads t.thread (value_behind ga o) ≡ Some m → locate gb t.thread t.place.slot e ≡ locate ga t.thread t.place.slot e
        by None z w = absurd cc
        by (Some j) z w = (followed t e j h (omega (arith, le)) z).0 ∙ sym z

    less_away : (t : Taking) (e : ℕ) (m : Location) → Among t (takings a.code ga.threads) → e ≤ t.place.depth → one_star_less ga t.thread t.place.slot e ≡ Some m → m ≡ c → ⊥
    less_away t zero m h le q = absurd cc
    less_away t (suc e) m h le q = (followed t e m h (omega (arith, le)) q).1

    pub goes_quiet : Quiet a b (Some c) None
    goes_quiet = record {
      holders = λ lr m r e w. (holder_so lr m r e w).0;
      unmade = λ lr m r e w. (λ z. (holder_so lr m r e w).1 (some_is z), λ z. absurd (cc z));
      taken = λ t h. (let q = rooted t h in ((followed t t.place.depth q.0 h (omega arith) q.1).0 ∙ sym q.1, less_same t t.place.depth q.0 h (omega arith) q.1));
      untaken = λ t m h e. (λ z. less_away t t.place.depth m h (omega arith) e (some_is z), λ z. absurd (cc z));
    }
