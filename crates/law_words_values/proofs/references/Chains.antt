-- A step as a chain of small ones: a slot that no holder passes gives its value, a pointer is lost, a value moves.
use Rattle.std.proofs.Common.{◌≡◌, ⊎_elim, ℕ, ◌+◌, ◌<◌, false, [], Option, Some, None, IsSome, refl, sym, ap, subst, ◌∙◌}
use Rattle.std.specs.Prelude.{slice_get}
use Rattle.law_words_values.specs.Below.mut_borrow.declared.mutable.MutRef.{MutRef}
use Rattle.law_words_values.specs.Below.thread_state.View.{ThreadState}
use Rattle.law_words_values.specs.Below.thread_state.declared.value.Value.{Value}
use Rattle.law_words_values.specs.Below.thread_state.declared.value.Value.TheVariants as value
use Rattle.law_words_values.specs.Below.server_model.Servers.{Server, Cluster, server_at}
use Rattle.law_words_values.specs.Below.server_model.Work.{Hand, thread_in, put_back}
use Rattle.law_words_values.specs.Below.server_model.Events.{begin_at}
use Rattle.law_words_values.specs.Below.coherent_memory.Names.{Among, other}
use Rattle.law_words_values.specs.Below.coherent_memory.Things.{Location, at_slot, at_temp, thread_things, things_of}
use Rattle.law_words_values.specs.Below.coherent_memory.Follow.{Ground, value_in, value_behind, place_at}
use Rattle.law_words_values.specs.Below.coherent_memory.Stale.{Reference, references, holder_of}
use Rattle.law_words_values.specs.Below.coherent_memory.Sight.{sight}
use Rattle.law_words_values.specs.Below.coherent_memory.Placing.{is_first, other_first}
use Rattle.law_words_values.specs.Below.coherent_memory.Coherent.{Holds, first_at_holder, IsSound}
use Rattle.law_words_values.proofs.Below.coherent_memory.Words.{none_at}
use Rattle.law_words_values.proofs.Below.law_words_paths.paths.Contained.{reference_there}
use Rattle.law_words_values.specs.Below.law_words_paths.words.Reworded.{HasPlaces}
use Rattle.law_words_values.specs.Below.law_words_paths.words.Unmoved.{owning, seen_at, Taking, takings, Untouched, LeavesWords}
use Rattle.law_words_values.specs.Below.law_words_paths.words.PutBack.{StandsHere}
use Rattle.law_words_values.proofs.Below.law_words_paths.words.Put.{Split, put_split}
use Rattle.law_words_values.proofs.Below.law_words_paths.words.Follows.{seen_places_lead}
use Rattle.law_words_values.proofs.Below.law_words_paths.words.Takings.{reference_at}
use Rattle.law_words_values.proofs.Below.law_words_paths.words.Unmoved.{untouched_stays}
use Rattle.law_words_values.proofs.Below.law_counts_sums.Bags.{thread_number}
use Rattle.law_words_values.proofs.Below.law_words_kept.stays.Alike.{Alike}
use Rattle.law_words_values.proofs.Below.law_words_kept.stays.Sites.{put_alike, begun_alike, servers_alike}
use Rattle.law_words_values.proofs.Below.law_words_kept.stays.Steps.{hand_itself}
use Rattle.law_words_values.proofs.Below.law_words_kept.stays.Seen.{seen_alike}
use Rattle.law_words_values.specs.carried.Carried.{Carried}
use Rattle.law_words_values.proofs.carried.Carrying.{is_at, carried_stays}
use Rattle.law_words_values.proofs.carried.Replaced.{places_on}
use Rattle.law_words_values.proofs.carried.Passing.{Here, slot, located, Passes, is_carried, here_a}
use Rattle.law_words_values.proofs.carried.Hands.{leaves_chain, RootedIn, rooted, Moved, h0, Ok, put, places, before, first_ok, moved_from}
use Rattle.law_words_values.specs.references.Unpassed.{IsUnpassed}
use Rattle.law_words_values.specs.references.Fewer.{IsRanked, Fewer}
use Rattle.law_words_values.proofs.references.Fewer.{slots_lead, cells_lead, ranked_on, fewer_stays}
use Rattle.law_words_values.proofs.references.QuietSlots.{unpassed_quiet, unpassed_on}
use Rattle.law_words_values.proofs.references.RefPlaces.{Loses, is_fewer}

-- RANKS WHERE A VALUE IS CARRIED that is no mutable reference

no_reference : (o : Option Value) (r : MutRef) → owning o ≡ None → o ≡ Some (value.Mut r) → ⊥
no_reference o r e f = let z : Some (value.Mut r) ≡ None = ap owning (sym f) ∙ e in absurd cc

owning_reference : (o : Option Value) (r : MutRef) → owning o ≡ Some (value.Mut r) → o ≡ Some (value.Mut r)
owning_reference o r e = reference_at (at_temp 0 0) o r e

behind_held : (g : Ground) (r : MutRef) (o : Option Location) → other (is_first r (value_behind g o)) ≡ 0 → (m : Location) × (o ≡ Some m)
behind_held g r None e = absurd cc
behind_held g r (Some m) e = (m, refl)

-- a reference has a holder
pub held_there : (a : Cluster) → Holds a first_at_holder → (l : Location) (r : MutRef) → value_in (sight a).ground l ≡ Some (value.Mut r) → (m : Location) × (holder_of (sight a).ground l r.holder ≡ Some m)
held_there a firsts l r e =
    let q : Reference = record { at = l; holder = holder_of (sight a).ground l r.holder; reference = r } in
    behind_held (sight a).ground r (holder_of (sight a).ground l r.holder) (none_at (other_first (sight a).ground) q (references (sight a).ground (things_of a)) firsts (reference_there a l r e))

one_of : {l m : Location} → Some l ≡ Some m → l ≡ m
one_of e = cc

module _ (a b : Cluster) (f g : Option Location) (u : Carried a b f g) (firsts : Holds a first_at_holder) (other_kind : (l : Location) (r : MutRef) → f ≡ Some l → value_in (sight a).ground l ≡ Some (value.Mut r) → ⊥) where
  abbrev ga : Ground
  ga = (sight a).ground

  abbrev gb : Ground
  gb = (sight b).ground

  -- a reference stood where it stands
  pub stood_there : (l : Location) (r : MutRef) → value_in gb l ≡ Some (value.Mut r) → value_in ga l ≡ Some (value.Mut r)
  stood_there l r e = ⊎_elim (λ (x : Some l ≡ f). absurd (no_reference (value_in gb l) r (u.left l (sym x)) e)) (λ (n : Some l ≡ f → ⊥). ⊎_elim (λ (x : Some l ≡ g). absurd (came f refl x)) (λ (w : Some l ≡ g → ⊥). stays n w) (is_at l g)) (is_at l f)
    where
      came : (o : Option Location) → f ≡ o → Some l ≡ g → ⊥
      came None x z = u.begins l r (sym z) x e
      came (Some m) x z = other_kind m r x (owning_reference (value_in ga m) r (sym (u.carried m l x (sym z)) ∙ ap owning e))

      stays : (Some l ≡ f → ⊥) → (Some l ≡ g → ⊥) → value_in ga l ≡ Some (value.Mut r)
      stays n w = reference_at l (value_in ga l) r (sym (u.stands l n w) ∙ ap (seen_at l) e)

  pub ranked_over : IsRanked a → IsRanked b
  ranked_over y = record { rank = y.rank; above = λ l h r e w. above_so l h r (stood_there l r e) w }
    where
      above_so : (l h : Location) (r : MutRef) → value_in ga l ≡ Some (value.Mut r) → holder_of gb l r.holder ≡ Some h → y.rank h < y.rank l
      above_so l h r e w =
          let m = held_there a firsts l r e in
          let same : m.0 ≡ h = one_of (sym (u.holders l m.0 r e m.1) ∙ w) in
          y.above l h r e (m.1 ∙ ap Some same)

-- what was taken is at a place, where places lead alike
pub rooted_over : (a b : Cluster) → ((t : Taking) → Among t (takings b.code (sight b).ground.threads) → Among t (takings a.code (sight a).ground.threads))
    → ((t : Taking) → Among t (takings a.code (sight a).ground.threads) → place_at (sight b).ground t.thread t.place ≡ place_at (sight a).ground t.thread t.place) → RootedIn a → RootedIn b
rooted_over a b takes same go t h = let w = takes t h in let q = go t w in (q.0, same t w ∙ q.1)

module _ (k : Cluster) (sound : IsSound k) (s : Server) (here : server_at k.servers s.rest.number ≡ Some s) (t : ℕ) (y : ThreadState) (at : thread_in s.threads t ≡ Some y) where
  abbrev n : ℕ
  n = s.rest.number

  abbrev pub cluster : Hand → Cluster
  cluster h = put k sound s here t y at h

  abbrev start : Hand
  start = h0 k sound s here t y at

  -- a hand on the way, to which the words stay
  pub record OnWay (h : Hand) : Type 0 where
    pub number : h.work.rest.number ≡ n
    pub named : h.thread.number ≡ t
    pub places : HasPlaces (cluster h)
    pub rooted : RootedIn (cluster h)
    pub leaves : LeavesWords k (cluster h)

  first_alike : Alike k.code (things_of k) (things_of (cluster start))
  first_alike =
      servers_alike n k.servers s (record { rest = s.rest; threads = (put_back s.threads start).threads; events = s.events + 1 }) here
      (begun_alike s s.events None None (put_back s.threads start) (put_alike k.code [] t (begin_at s) y at start (hand_itself k.code n start)))

  pub first_places : HasPlaces (cluster start)
  first_places = places k sound s here t y at start (first_ok k sound s here t y at)

  pub first_seen : Untouched k (cluster start)
  first_seen = seen_alike k (cluster start) (before k sound s here t y at) first_places refl first_alike

  pub on_start : OnWay start
  on_start = record {
    number = refl;
    named = thread_number s.threads t y at;
    places = first_places;
    rooted = rooted_over k (cluster start) first_seen.takes (λ w h. seen_places_lead (sight k).ground (sight (cluster start)).ground (slots_lead k (cluster start) first_seen.stands) (cells_lead k (cluster start) first_seen.stands) w.thread w.place.slot w.place.depth) (rooted k sound);
    leaves = untouched_stays k (cluster start) (before k sound s here t y at) first_places first_seen;
  }

  pub unpassed_at_start : (l : Location) → IsUnpassed k l → IsUnpassed (cluster start) l
  unpassed_at_start l go = unpassed_on k (cluster start) l first_seen.stands go

  pub ranked_at_start : IsRanked k → IsRanked (cluster start)
  ranked_at_start go = ranked_on k (cluster start) first_seen.stands go

  pub firsts : (h : Hand) → OnWay h → Holds (cluster h) first_at_holder
  firsts h w = w.leaves.holders sound.words.first_at_holder

  stands_here : (h : Hand) → OnWay h → StandsHere k n s.threads h
  stands_here h w = record {
    server = subst (λ o. IsSome o) (sym here) refl;
    number = w.number;
    thread = subst (λ m. IsSome (thread_in s.threads m)) (sym w.named) (subst (λ o. IsSome o) (sym at) refl);
  }

  abbrev pub with_thread : Hand → ThreadState → Hand
  with_thread h x = record h { thread = x }

  pub split : (h : Hand) (x : ThreadState) → OnWay h → x.number ≡ h.thread.number → Split (things_of (cluster h)) (things_of (cluster (with_thread h x))) (thread_things n false h.thread) (thread_things n false x)
  split h x w e = put_split k n s.threads (s.events + 1) h (with_thread h x) (stands_here h w) refl e

  -- A SLOT GIVES ITS VALUE

  module _ (h : Hand) (x : ThreadState) (w : OnWay h) (i : ℕ) (to : Here) (p : Passes k.code n h.thread x (slot i) to) (away : (j : ℕ) → slot j ≡ to → ⊥) (unpassed : IsUnpassed (cluster h) (at_slot h.thread.number i)) where
    places_after : HasPlaces (cluster (with_thread h x))
    places_after = places_on (cluster h) (cluster (with_thread h x)) n h.thread x p.number (split h x w p.number) p.owns w.places

    pub slot_carries : Carried (cluster h) (cluster (with_thread h x)) (Some (at_slot h.thread.number i)) (located h.thread.number to)
    slot_carries =
        is_carried (cluster h) (cluster (with_thread h x)) n h.thread x (slot i) to p (split h x w p.number) refl w.places places_after
        (unpassed_quiet (cluster h) (cluster (with_thread h x)) n h.thread x i to p (split h x w p.number) refl w.places places_after away unpassed w.rooted)

    pub slot_gives : OnWay (with_thread h x)
    slot_gives = record {
      number = w.number;
      named = p.number ∙ w.named;
      places = places_after;
      rooted = rooted_over (cluster h) (cluster (with_thread h x)) slot_carries.takes (λ a m. (slot_carries.taken a m).0) w.rooted;
      leaves = leaves_chain w.leaves (carried_stays (cluster h) (cluster (with_thread h x)) _ _ w.places places_after (firsts h w) slot_carries);
    }

    -- references rank as before where the value is none that is mutable
    pub slot_ranks : (v : Value) → slice_get h.thread.slots i ≡ Some v → ((r : MutRef) → v ≡ value.Mut r → ⊥) → IsRanked (cluster h) → IsRanked (cluster (with_thread h x))
    slot_ranks v is other_kind y =
        ranked_over (cluster h) (cluster (with_thread h x)) _ _ slot_carries (firsts h w)
        (λ l r e stands.
        other_kind r (some_value (sym is ∙ sym (here_a (cluster h) (cluster (with_thread h x)) n h.thread x (slot i) to p (split h x w p.number) refl w.places places_after (slot i) l e) ∙ stands))) y
      where
        some_value : {u z : Value} → Some u ≡ Some z → u ≡ z
        some_value e = cc

  -- A POINTER IS LOST

  pub less_goes : (h : Hand) (x : ThreadState) → OnWay h → IsRanked (cluster h) → Loses k.code n h.thread x → OnWay (with_thread h x)
  less_goes h x w ranked p = record {
    number = w.number;
    named = p.number ∙ w.named;
    places = places_then;
    rooted = rooted_over (cluster h) (cluster (with_thread h x)) fewer.takes (λ a m. seen_places_lead (sight (cluster h)).ground (sight (cluster (with_thread h x))).ground (slots_lead (cluster h) (cluster (with_thread h x)) fewer.stands) (cells_lead (cluster h) (cluster (with_thread h x)) fewer.stands) a.thread a.place.slot a.place.depth) w.rooted;
    leaves = leaves_chain w.leaves (fewer_stays (cluster h) (cluster (with_thread h x)) w.places places_then (firsts h w) ranked fewer);
  }
    where
      places_then : HasPlaces (cluster (with_thread h x))
      places_then = places_on (cluster h) (cluster (with_thread h x)) n h.thread x p.number (split h x w p.number) p.owns w.places

      fewer : Fewer (cluster h) (cluster (with_thread h x))
      fewer = is_fewer (cluster h) (cluster (with_thread h x)) n h.thread x p (split h x w p.number) refl w.places places_then

  -- ONE VALUE MOVES, OR NONE

  pub way_leaves : (h h2 : Hand) → OnWay h → Ok k sound s here t y at h2 → Moved k.code n h h2 → LeavesWords k (cluster h2)
  way_leaves h h2 w ok m = leaves_chain w.leaves (moved_from k sound s here t y at h h2 w.number w.named w.places (places k sound s here t y at h2 ok) w.rooted (firsts h w) m)
