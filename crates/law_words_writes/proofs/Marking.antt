-- The hand where a place is ready: the reference that led straight to its cell is marked first.
use Rattle.std.proofs.Common.{◌≡◌, ⊎_elim, ℕ, ◌+◌, true, false, List, ◌++◌, Option, Some, None, refl, sym, ap, subst, ◌∙◌}
use Rattle.std.specs.Prelude.{slice_get}
use Rattle.law_words_asked.specs.Below.fr_base.declared.instruction.Instr.{Instr}
use Rattle.law_words_asked.specs.Below.mut_borrow.declared.mutable.MutRef.{MutRef}
use Rattle.law_words_asked.specs.Below.thread_state.View.{ThreadState}
use Rattle.law_words_asked.specs.Below.thread_state.declared.value.Value.{Value}
use Rattle.law_words_asked.specs.Below.thread_state.declared.value.Value.TheVariants as value
use Rattle.law_words_asked.specs.Below.server_model.Servers.{Rest, Server, Cluster, server_at}
use Rattle.law_words_asked.specs.Below.server_model.Work.{Hand, thread_in, without_thread, with_slots}
use Rattle.law_words_asked.specs.Below.server_model.Places.{note_slot, note_write}
use Rattle.law_words_asked.specs.Below.coherent_memory.Names.{Among}
use Rattle.law_words_asked.specs.Below.coherent_memory.Things.{at_slot, in_cell, borrows, Thing, thread_things, servers_things, things_of}
use Rattle.law_words_asked.specs.Below.coherent_memory.Follow.{value_in, leads}
use Rattle.law_words_asked.specs.Below.coherent_memory.Sight.{sight}
use Rattle.law_words_asked.specs.Below.coherent_types.ClusterTypes.{IsCoherent}
use Rattle.law_words_asked.specs.Below.law_counts_sums.Sums.{Sums}
use Rattle.law_words_asked.proofs.Below.law_counts_sums.Rules.{comes, goes, in_turn}
use Rattle.law_words_asked.proofs.Below.law_counts_sums.RulesKeep.{sums_kept}
use Rattle.law_words_asked.proofs.Below.law_counts_sums.Trades.{trade_none}
use Rattle.law_words_asked.proofs.Below.law_counts_sums.Bags.{all_standing, body_things, rest_things}
use Rattle.law_words_asked.proofs.Below.law_counts_sums.Events.{others_of}
use Rattle.law_words_asked.proofs.Below.law_counts_sums.Values.{slot_changes}
use Rattle.law_words_asked.proofs.Below.law_words_kept.stays.Alike.{itself}
use Rattle.law_words_asked.specs.Below.fr_base.declared.name.ObjNo.{ObjNo}
use Rattle.law_words_asked.specs.Below.law_words_paths.words.Reworded.{HasPlaces}
use Rattle.law_words_asked.specs.Below.law_words_paths.words.Unmoved.{takings, Untouched}
use Rattle.law_words_asked.proofs.Below.law_words_paths.words.Follows.{seen_places_lead}
use Rattle.law_words_asked.proofs.Below.law_words_paths.words.Put.{Split, put_split}
use Rattle.law_words_asked.proofs.Below.law_words_paths.words.Takings.{leads_pointing}
use Rattle.law_words_asked.proofs.Below.law_words_kept.stays.Seen.{seen_alike}
use Rattle.law_words_asked.proofs.Below.law_words_kept.stays.Steps.{TakesNoneHere}
use Rattle.law_words_asked.proofs.Below.law_words_kept.prepared.Hands.{put, places, stands}
use Rattle.law_words_values.proofs.carried.Hands.{RootedIn, Together, puts_alike}
use Rattle.law_words_values.proofs.carried.Replaced.{in_slots, in_cells, takings_same}
use Rattle.law_words_asked.proofs.writes.Passing.{Fits, State}
use Rattle.law_words_asked.proofs.writes.Hops.{Through, Walk, marked}

-- WHAT A MARK CHANGES

pub noted_work : (q : Option ℕ) (h : Hand) → (note_write q h).work ≡ h.work
noted_work None h = refl
noted_work (Some i) h = refl

pub noted_thread : (q : Option ℕ) (h : Hand) → (note_write q h).thread ≡ record h.thread { slots = (note_write q h).thread.slots }
noted_thread None h = refl
noted_thread (Some i) h = refl

pub noted_same : (q : Option ℕ) (h h2 : Hand) → h2.thread ≡ h.thread → (note_write q h2).thread ≡ (note_write q h).thread
noted_same None h h2 e = e
noted_same (Some i) h h2 e = ap (λ (x : ThreadState). record x { slots = note_slot x.slots i (slice_get x.slots i) }) e

-- the same of the thread and of its server's rest
pub together_by : {code : List Instr} {n : ℕ} (ha hb : Hand) → hb.thread ≡ ha.thread → hb.work.rest ≡ ha.work.rest → Together code n ha hb
together_by {code = code} {n = n} ha hb e f = record {
  number = ap (λ (r : Rest). r.number) f;
  named = ap (λ (x : ThreadState). x.number) e;
  alike = subst (λ x. Rattle.law_words_asked.proofs.Below.law_words_kept.stays.Alike.Alike code (thread_things n false ha.thread ++ body_things n ha.work.rest) (thread_things n false x ++ body_things n hb.work.rest)) (sym e)
      (subst (λ r. Rattle.law_words_asked.proofs.Below.law_words_kept.stays.Alike.Alike code (thread_things n false ha.thread ++ body_things n ha.work.rest) (thread_things n false ha.thread ++ body_things n r)) (sym f) (itself (thread_things n false ha.thread ++ body_things n ha.work.rest)));
}

module _ (k : Cluster) (coherent : IsCoherent k) (s : Server) (here : server_at k.servers s.rest.number ≡ Some s) (t : ℕ) (y : ThreadState) (at : thread_in s.threads t ≡ Some y) where
  abbrev n : ℕ
  n = s.rest.number

  abbrev others : List Thing
  others = all_standing n (without_thread s.threads t) ++ servers_things (others_of k.servers n)

  abbrev O : Hand → Type 0
  O = Fits k coherent s here t y at

  mark_fits : (h : Hand) (q : Option ℕ) → O h → Through k coherent s here t y at h.thread q → O (note_write q h)
  mark_fits h None g u = g
  mark_fits h (Some i) g u =
      let r : MutRef = u.0 in
      let new : Value = value.Mut (record r { dirty = true }) in
      let l = at_slot h.thread.number i in
      subst (λ o. O (with_slots (note_slot h.thread.slots i o) h)) (sym u.1)
      (slot_changes sums_kept n s.events t h i (value.Mut r) new u.1 (trade_none others) (in_turn (goes (borrows l r) refl) (comes (borrows l (record r { dirty = true })) refl)) g)

  -- the mark is a small step
  pub mark_state : (h : Hand) (w : ℕ) (q : Option ℕ) → Walk k coherent s here t y at h (Rattle.law_words_asked.specs.Below.server_model.Places.in_cell w q) → State k coherent s here t y at (note_write q h)
  mark_state h w q walk = (marked k coherent s here t y at h w q walk.state walk.later walk.through (mark_fits h q walk.state.ok walk.through)).state

  abbrev P : Hand → Cluster
  P = put k coherent s here t y at

  -- with the same rest
  pub other_rest : (ha hb : Hand) → hb.thread ≡ ha.thread → hb.work.rest ≡ ha.work.rest → O ha → O hb
  other_rest ha hb e f g = record {
    number = ap (λ (r : Rest). r.number) f ∙ g.number;
    thread = ap (λ (x : ThreadState). x.number) e ∙ g.thread;
    bag = subst (λ x. Sums (thread_things n false x ++ (rest_things n s.events hb.work.rest ++ others))) (sym e) (subst (λ r. Sums (thread_things n false ha.thread ++ (rest_things n s.events r ++ others))) (sym f) g.bag);
  }

  -- WHAT WAS TAKEN STANDS AT A PLACE

  pub rooted_seen : (ha hb : Hand) → HasPlaces (P ha) → HasPlaces (P hb) → ha.work.rest.number ≡ n → ha.thread.number ≡ t → Together k.code n ha hb → RootedIn (P ha) → RootedIn (P hb)
  rooted_seen ha hb pa pb number thread a go u h =
      let q = go u (v.takes u h) in
      (q.0, seen_places_lead (sight (P ha)).ground (sight (P hb)).ground in_slots in_cells u.thread u.place.slot u.place.depth ∙ q.1)
    where
      v : Untouched (P ha) (P hb)
      v = seen_alike (P ha) (P hb) pa pb refl (puts_alike k coherent.sound s here t y at ha hb number thread a)

      in_slots : (t v2 i : ℕ) → leads t (value_in (sight (P hb)).ground (at_slot v2 i)) ≡ leads t (value_in (sight (P ha)).ground (at_slot v2 i))
      in_slots t v2 i = sym (leads_pointing t (value_in (sight (P hb)).ground (at_slot v2 i))) ∙ ap (leads t) (v.stands (at_slot v2 i)) ∙ leads_pointing t (value_in (sight (P ha)).ground (at_slot v2 i))

      in_cells : (t : ℕ) (o : ObjNo) → leads t (value_in (sight (P hb)).ground (in_cell o)) ≡ leads t (value_in (sight (P ha)).ground (in_cell o))
      in_cells t o = sym (leads_pointing t (value_in (sight (P hb)).ground (in_cell o))) ∙ ap (leads t) (v.stands (in_cell o)) ∙ leads_pointing t (value_in (sight (P ha)).ground (in_cell o))

  -- the same where the thread has other temporary values, or a gift
  pub rooted_thread : (ha hb : Hand) → O ha → O hb → hb.work.rest ≡ ha.work.rest → hb.thread.number ≡ ha.thread.number → hb.thread.slots ≡ ha.thread.slots → TakesNoneHere k.code ha.thread → TakesNoneHere k.code hb.thread → RootedIn (P ha) → RootedIn (P hb)
  rooted_thread ha hb g f rest named slots none none_after go u h =
      let q = go u (subst (λ ts. Among u ts) same h) in
      (q.0, seen_places_lead (sight (P ha)).ground (sight (P hb)).ground in_slots_lead in_cells_lead u.thread u.place.slot u.place.depth ∙ q.1)
    where
      split : Split (things_of (P ha)) (things_of (P hb)) (thread_things n false ha.thread) (thread_things n false hb.thread)
      split = put_split k n s.threads (s.events + 1) ha hb (stands k coherent s here t y at ha g) rest named

      pa : HasPlaces (P ha)
      pa = places k coherent s here t y at ha g

      pb : HasPlaces (P hb)
      pb = places k coherent s here t y at hb f

      same : takings k.code (sight (P hb)).ground.threads ≡ takings k.code (sight (P ha)).ground.threads
      same = takings_same (P ha) (P hb) n ha.thread hb.thread named split pa pb k.code none none_after

      in_slots_lead : (t v i : ℕ) → leads t (value_in (sight (P hb)).ground (at_slot v i)) ≡ leads t (value_in (sight (P ha)).ground (at_slot v i))
      in_slots_lead t v i =
          ⊎_elim (λ (e : value_in (sight (P hb)).ground (at_slot v i) ≡ value_in (sight (P ha)).ground (at_slot v i)). ap (leads t) e)
          (λ (e : (ha.thread.number ≡ v) × (value_in (sight (P ha)).ground (at_slot v i) ≡ slice_get ha.thread.slots i) × (value_in (sight (P hb)).ground (at_slot v i) ≡ slice_get hb.thread.slots i)).
          ap (leads t) (e.2 ∙ ap (λ vs. slice_get vs i) slots ∙ sym e.1)) (in_slots (P ha) (P hb) n ha.thread hb.thread named split pa pb v i)

      in_cells_lead : (t : ℕ) (o : ObjNo) → leads t (value_in (sight (P hb)).ground (in_cell o)) ≡ leads t (value_in (sight (P ha)).ground (in_cell o))
      in_cells_lead t o = ap (leads t) (in_cells (P ha) (P hb) n ha.thread hb.thread named split pa pb o)
