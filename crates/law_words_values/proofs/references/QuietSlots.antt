-- Where a value goes from a slot that no holder passes, holders and what was taken are where they were.
use Rattle.std.proofs.Common.{◌≡◌, ◌⊎◌, inl, inr, ⊎_elim, ℕ, zero, suc, ◌+◌, ◌-◌, ◌≤◌, false, Option, Some, None, refl, sym, ap, subst, ◌∙◌, arith}
use Rattle.std.specs.Prelude.{slice_get}
use Rattle.law_words_values.specs.Below.heap_partition.declared.value.Owned.TheVariants as owned
use Rattle.law_words_values.specs.Below.mut_borrow.declared.mutable.MutRef.{MutRef}
use Rattle.law_words_values.specs.Below.thread_state.View.{ThreadState}
use Rattle.law_words_values.specs.Below.thread_state.declared.value.Value.{Value}
use Rattle.law_words_values.specs.Below.thread_state.declared.value.Value.TheVariants as value
use Rattle.law_words_values.specs.Below.server_model.Servers.{Cluster}
use Rattle.law_words_values.specs.Below.coherent_memory.Names.{Among}
use Rattle.law_words_values.specs.Below.coherent_memory.Things.{Location, at_slot, at_temp, in_cell, thread_things, things_of}
use Rattle.law_words_values.specs.Below.coherent_memory.Follow.{Ground, Standing, thread_at, value_in, value_behind, leads, locate, place_at}
use Rattle.law_words_values.specs.Below.coherent_memory.Stale.{holder_of, one_star_less}
use Rattle.law_words_values.specs.Below.coherent_memory.Sight.{sight}
use Rattle.law_words_values.proofs.Below.coherent_types.Branches.{found}
use Rattle.law_words_values.proofs.Below.law_words_paths.paths.Sole.{some_is}
use Rattle.law_words_values.specs.Below.law_words_paths.words.Reworded.{HasPlaces}
use Rattle.law_words_values.specs.Below.law_words_paths.words.Unmoved.{pointing, seen_at, Taking, taking_of, takings}
use Rattle.law_words_values.proofs.Below.law_words_paths.words.Grounds.{same_place}
use Rattle.law_words_values.proofs.Below.law_words_paths.words.Put.{Split}
use Rattle.law_words_values.proofs.carried.Replaced.{at_a}
use Rattle.law_words_values.proofs.carried.Passing.{Here, slot, temp, nowhere, located, Passes, Quiet, here_a, elsewhere, no_temp, leads_points, seen_leads, holder_no_temp}
use Rattle.law_words_values.proofs.carried.Taken.{taker_of, taking_thread}
use Rattle.law_words_values.specs.references.Unpassed.{IsUnpassed}
use Rattle.law_words_values.proofs.references.Fewer.{holders_lead, reference_was}

-- a slot where a place leads is of its thread
leads_own : (t u i : ℕ) (v : Option Value) → leads t v ≡ Some (at_slot u i) → u ≡ t
leads_own t u i None e = absurd cc
leads_own t u i (Some value.Gone) e = absurd cc
leads_own t u i (Some (value.Own (owned.Box q))) e = absurd cc
leads_own t u i (Some (value.Own owned.Nothing)) e = absurd cc
leads_own t u i (Some (value.Own owned.Unit)) e = absurd cc
leads_own t u i (Some (value.Own (owned.Int m))) e = absurd cc
leads_own t u i (Some (value.Own (owned.Mutex m))) e = absurd cc
leads_own t u i (Some (value.Own (owned.Task m))) e = absurd cc
leads_own t u i (Some (value.SharedSlot m)) e = cc
leads_own t u i (Some (value.MutSlot m)) e = cc
leads_own t u i (Some (value.Shared m)) e = absurd cc
leads_own t u i (Some (value.Mut m)) e = absurd cc
leads_own t u i (Some (value.Held m)) e = absurd cc

pub own_slot : (g : Ground) (t k d u i : ℕ) → locate g t k d ≡ Some (at_slot u i) → u ≡ t
own_slot g t k zero u i e = cc
own_slot g t k (suc d) u i e = leads_own t u i (value_behind g (locate g t k d)) e

-- a place with fewer stars leads somewhere too
pub with_fewer : (g : Ground) (t k e d n : ℕ) (m : Location) → n ≡ e + d → locate g t k n ≡ Some m → (j : Location) × (locate g t k d ≡ Some j)
with_fewer g t k zero d n m same q = let one : n ≡ d = omega (arith, same) in (m, subst (λ z. locate g t k z ≡ Some m) one q)
with_fewer g t k (suc e) d zero m same q = absurd (omega (arith, same))
with_fewer g t k (suc e) d (suc n) m same q = by (locate g t k n) refl q (λ j z. with_fewer g t k e d n j (omega (arith, same)) z)
  where
    by : (o : Option Location) → locate g t k n ≡ o → leads t (value_behind g o) ≡ Some m → ((j : Location) → locate g t k n ≡ Some j → (i : Location) × (locate g t k d ≡ Some i)) → (j : Location) × (locate g t k d ≡ Some j)
    by None z h go = absurd cc
    by (Some j) z h go = go j z

-- HOLDERS' PLACES lead where they led, with fewer stars too
abbrev pub Steady : Cluster → Cluster → Type 0
Steady a b = (l m : Location) (r : MutRef) (d : ℕ) → value_in (sight a).ground l ≡ Some (value.Mut r) → holder_of (sight a).ground l r.holder ≡ Some m → d ≤ r.holder.depth
    → holder_of (sight b).ground l (record r.holder { depth = d }) ≡ holder_of (sight a).ground l (record r.holder { depth = d })

-- whatever place leads somewhere leads there
steady_by : (a b : Cluster) → ((t k d : ℕ) (m : Location) → locate (sight a).ground t k d ≡ Some m → locate (sight b).ground t k d ≡ Some m) → Steady a b
steady_by a b go (at_slot t j) m r d e q le = let w = with_fewer (sight a).ground t r.holder.slot (r.holder.depth - d) d r.holder.depth m (omega (arith, le)) q in go t r.holder.slot d w.0 w.1 ∙ sym w.1
steady_by a b go (at_temp t j) m r d e q le = let w = with_fewer (sight a).ground t r.holder.slot (r.holder.depth - d) d r.holder.depth m (omega (arith, le)) q in go t r.holder.slot d w.0 w.1 ∙ sym w.1
steady_by a b go (in_cell o) m r d e q le = absurd cc

module _ (a b : Cluster) (n : ℕ) (x y : ThreadState) (i : ℕ) (to : Here) (p : Passes a.code n x y (slot i) to) (s : Split (things_of a) (things_of b) (thread_things n false x) (thread_things n false y)) (code : b.code ≡ a.code) (c : HasPlaces a) (d : HasPlaces b)
    (away : (j : ℕ) → slot j ≡ to → ⊥) (unpassed : IsUnpassed a (at_slot x.number i)) where
  abbrev ga : Ground
  ga = (sight a).ground

  abbrev gb : Ground
  gb = (sight b).ground

  abbrev l : Location
  l = at_slot x.number i

  abbrev g : Option Location
  g = located x.number to

  -- where the value comes no place is
  not_to : (h : Here) → ((j : ℕ) → slot j ≡ h → ⊥) → (j : Location) → ((v w : ℕ) → j ≡ at_temp v w → ⊥) → Some j ≡ located x.number h → ⊥
  not_to (slot m) w j calm e = w m refl
  not_to (temp m) w j calm e = calm x.number m (some_is e)
  not_to nowhere w j calm e = absurd cc

  not_there : (t k e : ℕ) (j : Location) → locate ga t k e ≡ Some j → Some j ≡ g → ⊥
  not_there t k e j q = not_to to away j (λ v w r. no_temp ga t k e v w (q ∙ ap Some r))

  -- a place passes the slot, or leads where it led, and not to the slot
  abbrev Follows : ℕ → ℕ → ℕ → Location → Type 0
  Follows t k e m = ((r : ℕ) × (r ≤ e) × (locate ga t k r ≡ Some l)) ⊎ ((locate gb t k e ≡ Some m) × (m ≡ l → ⊥))

  ends_there : (t k e : ℕ) (m : Location) → locate ga t k e ≡ Some m → locate gb t k e ≡ Some m → Follows t k e m
  ends_there t k e m q w = ⊎_elim (λ (z : m ≡ l). inl (e, omega arith, q ∙ ap Some z)) (λ (z : m ≡ l → ⊥). inr (w, z)) (same_place m l)

  follow : (t k e : ℕ) (m : Location) → locate ga t k e ≡ Some m → Follows t k e m
  follow t k zero m q = ends_there t k zero m q q
  follow t k (suc e) m q = by (locate ga t k e) refl q (λ j w. follow t k e j w)
    where
      by : (o : Option Location) → locate ga t k e ≡ o → leads t (value_behind ga o) ≡ Some m → ((j : Location) → locate ga t k e ≡ Some j → Follows t k e j) → Follows t k (suc e) m
      by None z h go = absurd cc
      by (Some j) z h go =
          ⊎_elim (λ (v : (r : ℕ) × (r ≤ e) × (locate ga t k r ≡ Some l)). inl (v.0, omega (arith, v.1), v.2))
          (λ (v : (locate gb t k e ≡ Some j) × (j ≡ l → ⊥)).
          let same = elsewhere a b n x y (slot i) to p s code c d j (λ r. v.1 (some_is r)) (not_there t k e j z) in
          ends_there t k (suc e) m q (ap (λ o. leads t (value_behind gb o)) v.0 ∙ seen_leads a b n x y (slot i) to p s code c d t j (λ v w r. no_temp ga t k e v w (z ∙ ap Some r)) same ∙ h)) (go j z)

  -- HOLDERS

  holder_so : (lr m : Location) (r : MutRef) → value_in ga lr ≡ Some (value.Mut r) → holder_of ga lr r.holder ≡ Some m → (holder_of gb lr r.holder ≡ Some m) × (m ≡ l → ⊥)
  holder_so (at_slot t j) m r e q =
      ⊎_elim (λ (v : (z : ℕ) × (z ≤ r.holder.depth) × (locate ga t r.holder.slot z ≡ Some l)). absurd (unpassed (at_slot t j) m r v.0 e q v.1 v.2)) (λ (v : (locate gb t r.holder.slot r.holder.depth ≡ Some m) × (m ≡ l → ⊥)). v)
      (follow t r.holder.slot r.holder.depth m q)
  holder_so (at_temp t j) m r e q =
      ⊎_elim (λ (v : (z : ℕ) × (z ≤ r.holder.depth) × (locate ga t r.holder.slot z ≡ Some l)). absurd (unpassed (at_temp t j) m r v.0 e q v.1 v.2)) (λ (v : (locate gb t r.holder.slot r.holder.depth ≡ Some m) × (m ≡ l → ⊥)). v)
      (follow t r.holder.slot r.holder.depth m q)
  holder_so (in_cell o) m r e q = absurd cc

  pub unpassed_steady : Steady a b
  unpassed_steady (at_slot t j) m r z e q le =
      let w = with_fewer ga t r.holder.slot (r.holder.depth - z) z r.holder.depth m (omega (arith, le)) q in
      ⊎_elim (λ (v : (u : ℕ) × (u ≤ z) × (locate ga t r.holder.slot u ≡ Some l)). absurd (unpassed (at_slot t j) m r v.0 e q (omega (arith, le, v.1)) v.2)) (λ (v : (locate gb t r.holder.slot z ≡ Some w.0) × (w.0 ≡ l → ⊥)). v.0 ∙ sym w.1)
      (follow t r.holder.slot z w.0 w.1)
  unpassed_steady (at_temp t j) m r z e q le =
      let w = with_fewer ga t r.holder.slot (r.holder.depth - z) z r.holder.depth m (omega (arith, le)) q in
      ⊎_elim (λ (v : (u : ℕ) × (u ≤ z) × (locate ga t r.holder.slot u ≡ Some l)). absurd (unpassed (at_temp t j) m r v.0 e q (omega (arith, le, v.1)) v.2)) (λ (v : (locate gb t r.holder.slot z ≡ Some w.0) × (w.0 ≡ l → ⊥)). v.0 ∙ sym w.1)
      (follow t r.holder.slot z w.0 w.1)
  unpassed_steady (in_cell o) m r z e q le = absurd cc

  -- WHAT WAS TAKEN is another thread's

  another : (t : Taking) → Among t (takings a.code ga.threads) → x.number ≡ t.thread → ⊥
  another t h e =
      let q = taker_of a.code ga.threads t h in
      let its : t.thread ≡ q.taker.thread.number = taking_thread q.taker.thread.number q.taker.thread.phase (slice_get a.code q.taker.thread.pc) t q.taking in
      let me : Standing = record { server = n; packed = false; thread = x } in
      let same : Some q.taker ≡ Some me = sym (found q.taker (things_of a) (c.numbers_differ q.taker.thread.number) q.among) ∙ ap (thread_at ga.threads) (sym its ∙ sym e) ∙ at_a a b n x y p.number s c d in
      let none_some : None ≡ Some t = sym p.untaken ∙ ap (taking_of a.code) (sym (some_is same)) ∙ q.taking in
      absurd cc

  followed : (t : Taking) (e : ℕ) (m : Location) → Among t (takings a.code ga.threads) → locate ga t.thread t.place.slot e ≡ Some m → (locate gb t.thread t.place.slot e ≡ Some m) × (m ≡ l → ⊥)
  followed t e m h q =
      ⊎_elim (λ (v : (z : ℕ) × (z ≤ e) × (locate ga t.thread t.place.slot z ≡ Some l)). absurd (another t h (own_slot ga t.thread t.place.slot v.0 x.number i v.2))) (λ (v : (locate gb t.thread t.place.slot e ≡ Some m) × (m ≡ l → ⊥)). v)
      (follow t.thread t.place.slot e m q)

  less_same : (t : Taking) (e : ℕ) (m : Location) → Among t (takings a.code ga.threads) → locate ga t.thread t.place.slot e ≡ Some m → one_star_less gb t.thread t.place.slot e ≡ one_star_less ga t.thread t.place.slot e
  less_same t zero m h q = refl
  less_same t (suc e) m h q = by (locate ga t.thread t.place.slot e) refl q
    where
      by : (o : Option Location) → locate ga t.thread t.place.slot e ≡ o → leads t.thread (value_behind ga o) ≡ Some m → locate gb t.thread t.place.slot e ≡ locate ga t.thread t.place.slot e
      by None z w = absurd cc
      by (Some j) z w = (followed t e j h z).0 ∙ sym z

  less_away : (t : Taking) (e : ℕ) (m : Location) → Among t (takings a.code ga.threads) → one_star_less ga t.thread t.place.slot e ≡ Some m → (Some m ≡ Some l → ⊥) × (Some m ≡ g → ⊥)
  less_away t zero m h q = absurd cc
  less_away t (suc e) m h q = (λ z. (followed t e m h q).1 (some_is z), not_there t.thread t.place.slot e m q)

  pub unpassed_quiet : ((t : Taking) → Among t (takings a.code ga.threads) → (m : Location) × (place_at ga t.thread t.place ≡ Some m)) → Quiet a b (located x.number (slot i)) g
  unpassed_quiet rooted = record {
    holders = λ lr m r e w. (holder_so lr m r e w).0;
    unmade = λ lr m r e w. (λ z. (holder_so lr m r e w).1 (some_is z), not_to to away m (holder_no_temp a b n x y (slot i) to p s code c d lr m r.holder w));
    taken = λ t h. (let q = rooted t h in ((followed t t.place.depth q.0 h q.1).0 ∙ sym q.1, less_same t t.place.depth q.0 h q.1));
    untaken = λ t m h e. less_away t t.place.depth m h e;
  }

-- where the value goes between places at which nothing points
module _ (a b : Cluster) (n : ℕ) (x y : ThreadState) (from to : Here) (p : Passes a.code n x y from to) (s : Split (things_of a) (things_of b) (thread_things n false x) (thread_things n false y)) (code : b.code ≡ a.code) (c : HasPlaces a) (d : HasPlaces b)
    (blind : (i : ℕ) → (slot i ≡ from) ⊎ (slot i ≡ to) → pointing (slice_get x.slots i) ≡ None) where
  abbrev ha : Ground
  ha = (sight a).ground

  abbrev hb : Ground
  hb = (sight b).ground

  apart : (h : Here) → ((i : ℕ) → slot i ≡ h → pointing (slice_get x.slots i) ≡ None) → (j : Location) → ((u i : ℕ) → j ≡ at_temp u i → ⊥) → (pointing (value_in ha j) ≡ None → ⊥) → Some j ≡ located x.number h → ⊥
  apart (slot i) calm j w points e = points (ap pointing (here_a a b n x y from to p s code c d (slot i) j (sym e)) ∙ calm i refl)
  apart (temp i) calm j w points e = w x.number i (some_is e)
  apart nowhere calm j w points e = absurd cc

  lead_on : (t k m : ℕ) (l : Location) → locate ha t k m ≡ Some l → locate hb t k m ≡ Some l
  lead_on t k zero l e = e
  lead_on t k (suc m) l e = by (locate ha t k m) refl e (λ j q. lead_on t k m j q)
    where
      by : (o : Option Location) → locate ha t k m ≡ o → leads t (value_behind ha o) ≡ Some l → ((j : Location) → locate ha t k m ≡ Some j → locate hb t k m ≡ Some j) → leads t (value_behind hb (locate hb t k m)) ≡ Some l
      by None q h go = absurd cc
      by (Some j) q h go =
          let calm = λ (u i : ℕ) (w : j ≡ at_temp u i). no_temp ha t k m u i (q ∙ ap Some w) in
          let points = λ (z : pointing (value_in ha j) ≡ None). leads_points a b n x y from to p s code c d t (value_in ha j) l h z in
          ap (λ o. leads t (value_behind hb o)) (go j q)
          ∙ seen_leads a b n x y from to p s code c d t j calm (elsewhere a b n x y from to p s code c d j (apart from (λ i w. blind i (inl w)) j calm points) (apart to (λ i w. blind i (inr w)) j calm points)) ∙ h

  pub blind_steady : Steady a b
  blind_steady = steady_by a b lead_on

-- it stays so where words see the same of locations
pub unpassed_on : (k z : Cluster) (s : Location) → ((l : Location) → seen_at l (value_in (sight z).ground l) ≡ seen_at l (value_in (sight k).ground l)) → IsUnpassed k s → IsUnpassed z s
unpassed_on k z s st go l m r d e held le there =
    go l m r d (reference_was k z st l r e) (sym (holders_lead k z st l r.holder) ∙ held) le (sym (holders_lead k z st l (record r.holder { depth = d })) ∙ there)
