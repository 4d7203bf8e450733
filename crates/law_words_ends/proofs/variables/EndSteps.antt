-- A mutable reference goes from a slot or the hand of one thread, and the pointer at its holder is as it was, or gets its word in a slot.
use Rattle.std.proofs.Common.{◌≡◌, ◌≢◌, ◌⊎◌, inl, inr, ⊎_elim, ℕ, zero, suc, ◌≤◌, true, false, List, Option, Some, None, refl, sym, ap, subst, ◌∙◌, arith}
use Rattle.std.specs.Prelude.{slice_get}
use Rattle.law_words_borrows.specs.Below.fr_base.declared.instruction.Instr.{Instr}
use Rattle.law_words_borrows.specs.Below.fr_base.declared.name.ObjNo.{ObjNo}
use Rattle.law_words_borrows.specs.Below.heap_partition.declared.value.Owned.TheVariants as owned
use Rattle.law_words_borrows.specs.Below.mut_borrow.declared.mutable.MutRef.{MutRef}
use Rattle.law_words_borrows.specs.Below.thread_state.View.{ThreadState}
use Rattle.law_words_borrows.specs.Below.thread_state.declared.value.Value.{Value}
use Rattle.law_words_borrows.specs.Below.thread_state.declared.value.Value.TheVariants as value
use Rattle.law_words_borrows.specs.Below.server_model.Servers.{Cluster}
use Rattle.law_words_borrows.specs.Below.server_model.Places.{with_word}
use Rattle.law_words_borrows.specs.Below.coherent_memory.Names.{Among, tot}
use Rattle.law_words_borrows.specs.Below.coherent_memory.Things.{Location, at_slot, at_temp, in_cell, thread_things, things_of}
use Rattle.law_words_borrows.specs.Below.coherent_memory.Follow.{Ground, Standing, thread_at, slot_of, temp_of, value_in, value_behind, leads, locate, place_at}
use Rattle.law_words_borrows.specs.Below.coherent_memory.Stale.{Reference, references, holder_of, is_held_at, is_among, lent_places, one_star_less}
use Rattle.law_words_borrows.specs.Below.coherent_memory.Sight.{Pointer, pointers_in, sight}
use Rattle.law_words_borrows.specs.Below.coherent_memory.Placing.{standing_in}
use Rattle.law_words_borrows.specs.Below.coherent_memory.Words.{IsStale, HasWords}
use Rattle.law_words_borrows.specs.Below.coherent_memory.Dirty.{PastWords}
use Rattle.law_words_borrows.specs.Below.coherent_memory.Coherent.{Holds, first_at_holder}
use Rattle.law_words_borrows.specs.Below.coherent_memory.Weights.{owners}
use Rattle.law_words_borrows.proofs.Below.coherent_types.Branches.{found}
use Rattle.law_words_borrows.proofs.Below.law_words_paths.paths.Sole.{some_is}
use Rattle.law_words_borrows.specs.Below.law_words_paths.words.Reworded.{HasPlaces}
use Rattle.law_words_borrows.specs.Below.law_words_paths.words.Unmoved.{pointing, Taking, taking_by, taking_of, takings, LeavesWords}
use Rattle.law_words_borrows.proofs.Below.law_words_paths.words.Put.{Split}
use Rattle.law_words_borrows.proofs.Below.law_words_paths.words.Standing.{stands_in}
use Rattle.law_words_borrows.proofs.Below.law_words_kept.stays.Alike.{Alike, standing_turn}
use Rattle.law_words_borrows.specs.Below.law_words_kept.moves.Ended.{GetsBack, as_it_was, its_word, Ended}
use Rattle.law_words_borrows.proofs.Below.law_words_kept.moves.Ended.{ends_leave_words}
use Rattle.law_words_borrows.proofs.Below.law_words_values.carried.Replaced.{tail_of, at_a, at_b, in_slots, in_temps, in_cells, takings_same, lies_back, pointer_back, standing_back, of_thread}
use Rattle.law_words_borrows.proofs.Below.law_words_values.carried.Passing.{Here, slot, temp, nowhere, located, here, no_temp}
use Rattle.law_words_borrows.proofs.Below.law_words_values.carried.Taken.{taker_of, taking_thread}
use Rattle.law_words_borrows.proofs.Below.law_words_values.carried.Hands.{RootedIn}
use Rattle.law_words_borrows.specs.Below.law_words_values.references.Unpassed.{IsUnpassed}
use Rattle.law_words_borrows.proofs.Below.law_words_paths.words.Grounds.{same_place}
use Rattle.law_words_borrows.proofs.Below.law_words_values.references.QuietSlots.{own_slot}
use Rattle.law_words_borrows.proofs.Below.law_words_values.references.Chains.{held_there}

-- the other word leads to the same object
word_leads : (w t : ℕ) (old new : Value) → with_word w old ≡ Some new → leads t (Some new) ≡ leads t (Some old)
word_leads w t (value.Own (owned.Box p)) new e = sym (ap (leads t) e)
word_leads w t (value.Mut r) new e = sym (ap (leads t) e)
word_leads w t (value.Own owned.Nothing) new e = absurd cc
word_leads w t (value.Own owned.Unit) new e = absurd cc
word_leads w t (value.Own (owned.Int i)) new e = absurd cc
word_leads w t (value.Own (owned.Mutex i)) new e = absurd cc
word_leads w t (value.Own (owned.Task i)) new e = absurd cc
word_leads w t value.Gone new e = absurd cc
word_leads w t (value.SharedSlot i) new e = absurd cc
word_leads w t (value.MutSlot i) new e = absurd cc
word_leads w t (value.Shared r) new e = absurd cc
word_leads w t (value.Held i) new e = absurd cc

-- what is back leads where it led
back_leads : (r : MutRef) (t : ℕ) (old new : Value) → GetsBack r old new → leads t (Some new) ≡ leads t (Some old)
back_leads r t old new (as_it_was e same) = ap (λ v. leads t (Some v)) same
back_leads r t old new (its_word n e) = word_leads r.word t old new e

-- what a thread has where a mutable reference of it went, and the pointer at its holder is back
pub record Finishes (code : List Instr) (n : ℕ) (x y : ThreadState) (from : Here) (at h : Location) (r : MutRef) : Type 0 where
  pub number : y.number ≡ x.number
  pub untaken : taking_by x.number x.phase (slice_get code x.pc) ≡ None
  pub untaken_after : taking_by y.number y.phase (slice_get code y.pc) ≡ None
  pub place : located x.number from ≡ Some at
  pub stood : here x from ≡ Some (value.Mut r)
  pub gone : pointing (here y from) ≡ None
  pub slots : (i : ℕ) → (slot i ≡ from → ⊥) → (at_slot x.number i ≡ h → ⊥) → slice_get y.slots i ≡ slice_get x.slots i
  pub temps : (i : ℕ) → (temp i ≡ from → ⊥) → slice_get y.temps i ≡ slice_get x.temps i
  -- a slot has the holder's pointer, or all others are as they were
  pub holder : ((r.word ≡ r.first) × ((i : ℕ) → (slot i ≡ from → ⊥) → slice_get y.slots i ≡ slice_get x.slots i))
      ⊎ ((i : ℕ) × (old : Value) × (new : Value) × (h ≡ at_slot x.number i) × (slice_get x.slots i ≡ Some old) × (slice_get y.slots i ≡ Some new) × (r.word ≢ r.first) × (with_word r.word old ≡ Some new))
  pub tails : Alike code (tail_of n x) (tail_of n y)
  pub owns : (o : ObjNo) → tot (owners o) (tail_of n y) ≡ tot (owners o) (tail_of n x)

-- a slot is no temporary value
no_slot_temp : {t u i j : ℕ} → at_slot t i ≡ at_temp u j → ⊥
no_slot_temp e = absurd cc

module _ (a b : Cluster) (n : ℕ) (x y : ThreadState) (from : Here) (at h : Location) (r : MutRef) (p : Finishes a.code n x y from at h r) (s : Split (things_of a) (things_of b) (thread_things n false x) (thread_things n false y)) (code : b.code ≡ a.code) (c : HasPlaces a) (d : HasPlaces b)
    (firsts : Holds a first_at_holder) (rooted : RootedIn a) (unpassed : IsUnpassed a at) (held : holder_of (sight a).ground at r.holder ≡ Some h) (old : Value) (stands_h : value_in (sight a).ground h ≡ Some old) where
  abbrev ga : Ground
  ga = (sight a).ground

  abbrev gb : Ground
  gb = (sight b).ground

  -- WHAT STANDS WHERE

  -- what stands at a place of the thread before
  here_a : (m : Here) (l : Location) → located x.number m ≡ Some l → value_in ga l ≡ here x m
  here_a (slot i) l e = ap (value_in ga) (some_is (sym e)) ∙ ap (λ o. slot_of o i) (at_a a b n x y p.number s c d)
  here_a (temp i) l e = ap (value_in ga) (some_is (sym e)) ∙ ap (λ o. temp_of o i) (at_a a b n x y p.number s c d)
  here_a nowhere l e = absurd cc

  -- and after
  here_b : (m : Here) (l : Location) → located x.number m ≡ Some l → value_in gb l ≡ here y m
  here_b (slot i) l e = ap (value_in gb) (some_is (sym e)) ∙ ap (λ o. slot_of o i) (at_b a b n x y p.number s c d)
  here_b (temp i) l e = ap (value_in gb) (some_is (sym e)) ∙ ap (λ o. temp_of o i) (at_b a b n x y p.number s c d)
  here_b nowhere l e = absurd cc

  -- another location is another place
  not_from : (m : Here) (l : Location) → located x.number m ≡ Some l → (l ≡ at → ⊥) → m ≡ from → ⊥
  not_from m l e ne q = ne (some_is (sym e ∙ ap (located x.number) q ∙ p.place))

  -- of slots something is said, the rest is as it was
  value_by : ((i : ℕ) → (slot i ≡ from → ⊥) → slice_get y.slots i ≡ slice_get x.slots i) → (l : Location) → (l ≡ at → ⊥) → value_in gb l ≡ value_in ga l
  value_by go (at_slot m i) ne =
      ⊎_elim (λ (e : value_in gb (at_slot m i) ≡ value_in ga (at_slot m i)). e)
      (λ (e : (x.number ≡ m) × (value_in ga (at_slot m i) ≡ slice_get x.slots i) × (value_in gb (at_slot m i) ≡ slice_get y.slots i)).
      e.2 ∙ go i (not_from (slot i) (at_slot m i) (ap (λ q. Some (at_slot q i)) e.0) ne) ∙ sym e.1) (in_slots a b n x y p.number s c d m i)
  value_by go (at_temp m i) ne =
      ⊎_elim (λ (e : value_in gb (at_temp m i) ≡ value_in ga (at_temp m i)). e)
      (λ (e : (x.number ≡ m) × (value_in ga (at_temp m i) ≡ slice_get x.temps i) × (value_in gb (at_temp m i) ≡ slice_get y.temps i)).
      e.2 ∙ p.temps i (not_from (temp i) (at_temp m i) (ap (λ q. Some (at_temp q i)) e.0) ne) ∙ sym e.1) (in_temps a b n x y p.number s c d m i)
  value_by go (in_cell o) ne = in_cells a b n x y p.number s c d o

  -- elsewhere stands what stood there
  value_same : (l : Location) → (l ≡ at → ⊥) → (l ≡ h → ⊥) → value_in gb l ≡ value_in ga l
  value_same (at_slot m i) ne nh =
      ⊎_elim (λ (e : value_in gb (at_slot m i) ≡ value_in ga (at_slot m i)). e)
      (λ (e : (x.number ≡ m) × (value_in ga (at_slot m i) ≡ slice_get x.slots i) × (value_in gb (at_slot m i) ≡ slice_get y.slots i)).
      e.2 ∙ p.slots i (not_from (slot i) (at_slot m i) (ap (λ q. Some (at_slot q i)) e.0) ne) (λ z. nh (ap (λ q. at_slot q i) (sym e.0) ∙ z)) ∙ sym e.1) (in_slots a b n x y p.number s c d m i)
  value_same (at_temp m i) ne nh =
      ⊎_elim (λ (e : value_in gb (at_temp m i) ≡ value_in ga (at_temp m i)). e)
      (λ (e : (x.number ≡ m) × (value_in ga (at_temp m i) ≡ slice_get x.temps i) × (value_in gb (at_temp m i) ≡ slice_get y.temps i)).
      e.2 ∙ p.temps i (not_from (temp i) (at_temp m i) (ap (λ q. Some (at_temp q i)) e.0) ne) ∙ sym e.1) (in_temps a b n x y p.number s c d m i)
  value_same (in_cell o) ne nh = in_cells a b n x y p.number s c d o

  -- the holder's pointer isn't the one that goes
  other_place : h ≡ at → ⊥
  other_place e = unpassed at h r r.holder.depth (here_a from at p.place ∙ p.stood) held (omega arith) (held ∙ ap Some e)

  -- it is back
  record Back : Type 0 where
    new : Value
    stands : value_in gb h ≡ Some new
    back : GetsBack r old new

  -- so it is
  back : Back
  back = by p.holder
    where
      by : ((r.word ≡ r.first) × ((i : ℕ) → (slot i ≡ from → ⊥) → slice_get y.slots i ≡ slice_get x.slots i))
          ⊎ ((i : ℕ) × (v : Value) × (w : Value) × (h ≡ at_slot x.number i) × (slice_get x.slots i ≡ Some v) × (slice_get y.slots i ≡ Some w) × (r.word ≢ r.first) × (with_word r.word v ≡ Some w)) → Back
      by (inl q) = record { new = old; stands = value_by q.1 h other_place ∙ stands_h; back = as_it_was q.0 refl }
      by (inr q) =
          let there : located x.number (slot q.0) ≡ Some h = ap Some (sym q.3) in
          let was : q.1 ≡ old = some_is (sym q.4 ∙ sym (here_a (slot q.0) h there) ∙ stands_h) in
          record { new = q.2; stands = here_b (slot q.0) h there ∙ q.5; back = its_word q.6 (subst (λ v. with_word r.word v ≡ Some q.2) was q.7) }

  -- WHERE PLACES LEAD

  -- places lead where they led
  leads_same : (t : ℕ) (l : Location) → (l ≡ at → ⊥) → leads t (value_in gb l) ≡ leads t (value_in ga l)
  leads_same t l ne =
      ⊎_elim (λ (e : l ≡ h). ap (λ z. leads t (value_in gb z)) e ∙ ap (leads t) back.stands ∙ back_leads r t old back.new back.back ∙ sym (ap (leads t) stands_h) ∙ sym (ap (λ z. leads t (value_in ga z)) e))
      (λ (nh : l ≡ h → ⊥). ap (leads t) (value_same l ne nh)) (same_place l h)

  abbrev Follows : ℕ → ℕ → ℕ → Location → Type 0
  Follows t k e m = ((z : ℕ) × (z ≤ e) × (locate ga t k z ≡ Some at)) ⊎ ((locate gb t k e ≡ Some m) × (m ≡ at → ⊥))

  -- a place ends there, or elsewhere
  ends_there : (t k e : ℕ) (m : Location) → locate ga t k e ≡ Some m → locate gb t k e ≡ Some m → Follows t k e m
  ends_there t k e m q w = ⊎_elim (λ (z : m ≡ at). inl (e, omega arith, q ∙ ap Some z)) (λ (z : m ≡ at → ⊥). inr (w, z)) (same_place m at)

  -- a place is followed as before, or comes to what goes
  follow : (t k e : ℕ) (m : Location) → locate ga t k e ≡ Some m → Follows t k e m
  follow t k zero m q = ends_there t k zero m q q
  follow t k (suc e) m q = by (locate ga t k e) refl q (λ j w. follow t k e j w)
    where
      by : (o : Option Location) → locate ga t k e ≡ o → leads t (value_behind ga o) ≡ Some m → ((j : Location) → locate ga t k e ≡ Some j → Follows t k e j) → Follows t k (suc e) m
      by None z g go = absurd cc
      by (Some j) z g go =
          ⊎_elim (λ (v : (u : ℕ) × (u ≤ e) × (locate ga t k u ≡ Some at)). inl (v.0, omega (arith, v.1), v.2))
          (λ (v : (locate gb t k e ≡ Some j) × (j ≡ at → ⊥)). ends_there t k (suc e) m q (ap (λ o. leads t (value_behind gb o)) v.0 ∙ leads_same t j v.1 ∙ g)) (go j z)

  -- holders are where they were
  holder_so : (l m : Location) (q : MutRef) → value_in ga l ≡ Some (value.Mut q) → holder_of ga l q.holder ≡ Some m → holder_of gb l q.holder ≡ Some m
  holder_so (at_slot t j) m q e w =
      ⊎_elim (λ (v : (z : ℕ) × (z ≤ q.holder.depth) × (locate ga t q.holder.slot z ≡ Some at)). absurd (unpassed (at_slot t j) m q v.0 e w v.1 v.2)) (λ (v : (locate gb t q.holder.slot q.holder.depth ≡ Some m) × (m ≡ at → ⊥)). v.0)
      (follow t q.holder.slot q.holder.depth m w)
  holder_so (at_temp t j) m q e w =
      ⊎_elim (λ (v : (z : ℕ) × (z ≤ q.holder.depth) × (locate ga t q.holder.slot z ≡ Some at)). absurd (unpassed (at_temp t j) m q v.0 e w v.1 v.2)) (λ (v : (locate gb t q.holder.slot q.holder.depth ≡ Some m) × (m ≡ at → ⊥)). v.0)
      (follow t q.holder.slot q.holder.depth m w)
  holder_so (in_cell o) m q e w = absurd cc

  -- what was taken is another thread's, whose places come to slots of its own
  another : (t : Taking) → Among t (takings a.code ga.threads) → x.number ≡ t.thread → ⊥
  another t g e =
      let q = taker_of a.code ga.threads t g in
      let its : t.thread ≡ q.taker.thread.number = taking_thread q.taker.thread.number q.taker.thread.phase (slice_get a.code q.taker.thread.pc) t q.taking in
      let me : Standing = record { server = n; packed = false; thread = x } in
      let same : Some q.taker ≡ Some me = sym (found q.taker (things_of a) (c.numbers_differ q.taker.thread.number) q.among) ∙ ap (thread_at ga.threads) (sym its ∙ sym e) ∙ at_a a b n x y p.number s c d in
      let none_some : None ≡ Some t = sym p.untaken ∙ ap (taking_of a.code) (sym (some_is same)) ∙ q.taking in
      absurd cc

  -- what was taken passes nothing that goes
  not_come : (m : Here) (t : Taking) (z : ℕ) → located x.number m ≡ Some at → Among t (takings a.code ga.threads) → locate ga t.thread t.place.slot z ≡ Some at → ⊥
  not_come (slot i) t z e g q = another t g (own_slot ga t.thread t.place.slot z x.number i (q ∙ sym e))
  not_come (temp i) t z e g q = no_temp ga t.thread t.place.slot z x.number i (q ∙ sym e)
  not_come nowhere t z e g q = absurd cc

  -- so its place leads where it led
  followed : (t : Taking) (e : ℕ) (m : Location) → Among t (takings a.code ga.threads) → locate ga t.thread t.place.slot e ≡ Some m → locate gb t.thread t.place.slot e ≡ Some m
  followed t e m g q =
      ⊎_elim (λ (v : (z : ℕ) × (z ≤ e) × (locate ga t.thread t.place.slot z ≡ Some at)). absurd (not_come from t v.0 p.place g v.2)) (λ (v : (locate gb t.thread t.place.slot e ≡ Some m) × (m ≡ at → ⊥)). v.0) (follow t.thread t.place.slot e m q)

  -- also with a star less
  less_same : (t : Taking) (e : ℕ) (m : Location) → Among t (takings a.code ga.threads) → locate ga t.thread t.place.slot e ≡ Some m → one_star_less gb t.thread t.place.slot e ≡ one_star_less ga t.thread t.place.slot e
  less_same t zero m g q = refl
  less_same t (suc e) m g q = by (locate ga t.thread t.place.slot e) refl q
    where
      by : (o : Option Location) → locate ga t.thread t.place.slot e ≡ o → leads t.thread (value_behind ga o) ≡ Some m → locate gb t.thread t.place.slot e ≡ locate ga t.thread t.place.slot e
      by None z w = absurd cc
      by (Some j) z w = followed t e j g z ∙ sym z

  -- so what was taken is where it was
  pub taken_same : (t : Taking) → Among t (takings a.code ga.threads) → (place_at gb t.thread t.place ≡ place_at ga t.thread t.place) × (one_star_less gb t.thread t.place.slot t.place.depth ≡ one_star_less ga t.thread t.place.slot t.place.depth)
  taken_same t g = let q = rooted t g in (followed t t.place.depth q.0 g q.1 ∙ sym q.1, less_same t t.place.depth q.0 g q.1)

  -- and the same is taken
  pub same_takings : takings b.code gb.threads ≡ takings a.code ga.threads
  same_takings = ap (λ q. takings q gb.threads) code ∙ takings_same a b n x y p.number s c d a.code p.untaken p.untaken_after

  -- the other way round
  turned_split : Split (things_of b) (things_of a) (thread_things n false y) (thread_things n false x)
  turned_split = record { left = s.left; right = s.right; before = s.after; after = s.before }

  -- what points from elsewhere did before
  in_tail_a : (q : Pointer) → q.at ≡ None → Among q (standing_in (tail_of n y)) → Among q (standing_in (things_of a))
  in_tail_a q e m = of_thread a b n x y p.number s c d q (standing_turn a.code (tail_of n y) (tail_of n x) q p.tails.back e m)

  -- and does after
  in_tail_b : (q : Pointer) → q.at ≡ None → Among q (standing_in (tail_of n x)) → Among q (standing_in (things_of b))
  in_tail_b q e m = of_thread b a n y x (sym p.number) turned_split d c q (standing_turn a.code (tail_of n x) (tail_of n y) q p.tails.on e m)

  -- THE END

  module _ (clean : r.dirty ≡ false) (fresh : IsStale (sight a) (Some at) → ⊥) (only : (q : Reference) → Among q (references ga (things_of a)) → is_held_at h q.holder ≡ true → q.at ≡ at)
      (untaken : is_among h (lent_places a.code ga ga.threads) ≡ true → ⊥) (unmade : (q : Reference) → Among q (references ga (things_of a)) → is_held_at at q.holder ≡ true → ⊥) where
    -- it is an end
    pub is_end : Ended a b at h r
    is_end = record {
      stood = here_a from at p.place ∙ p.stood;
      held = held;
      clean = clean;
      fresh = fresh;
      only = only;
      untaken = untaken;
      unmade = unmade;
      gone = ap pointing (here_b from at p.place) ∙ p.gone;
      old = old;
      new = back.new;
      before = stands_h;
      after = back.stands;
      back = back.back;
      elsewhere = λ l ne nh. ap pointing (value_same l ne nh);
      holders = λ l q ne e. (let m = held_there a firsts l q e in holder_so l m.0 q e m.1 ∙ sym m.1);
      taken = taken_same;
      takes = λ t g. subst (λ ts. Among t ts) same_takings g;
      took = λ t g. subst (λ ts. Among t ts) (sym same_takings) g;
      loose = λ q e m. ⊎_elim (λ (w : Among q (pointers_in (things_of a))). w) (λ (w : Among q (standing_in (tail_of n y))). stands_in q (things_of a) (in_tail_a q e w)) (pointer_back a b n x y p.number s c d q m);
      remain = λ q e m. ⊎_elim (λ (w : Among q (pointers_in (things_of b))). w) (λ (w : Among q (standing_in (tail_of n x))). stands_in q (things_of b) (in_tail_b q e w)) (pointer_back b a n y x (sym p.number) turned_split d c q m);
      standing = λ q e m. ⊎_elim (λ (w : Among q (standing_in (things_of a))). w) (λ (w : Among q (standing_in (tail_of n y))). in_tail_a q e w) (standing_back a b n x y p.number s c d q m);
      lay = λ m v z g. record { cell = z; among = lies_back a b n x y p.number s c d m v z g; object = refl };
    }

    -- so the words stay, where objects have words and first words that were left are no words of today
    pub end_leaves : HasWords (sight a) → PastWords (sight a) → LeavesWords a b
    end_leaves words past = record {
      words = λ w. ends_leave_words.words a b at h r c d is_end firsts w;
      holders = λ f. ends_leave_words.holders a b at h r c d is_end f;
      dirty = λ f. ends_leave_words.dirty a b at h r c d is_end firsts words past f;
      past = λ f. ends_leave_words.past a b at h r c d is_end firsts words f;
    }
