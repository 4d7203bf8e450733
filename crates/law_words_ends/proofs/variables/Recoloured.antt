-- A mutable reference got another word in the event in which it ends: it ends from there.
use Rattle.std.proofs.Common.{◌≡◌, ⊎_elim, ℕ, zero, suc, ◌-◌, ◌≤◌, true, List, [], ◌∷◌, ◌++◌, Some, refl, sym, ap, subst, ◌∙◌, arith}
use Rattle.std.specs.Prelude.{slice_get, slice_set, length}
use Rattle.law_words_borrows.specs.Below.fr_base.declared.name.ObjNo.{ObjNo}
use Rattle.law_words_borrows.specs.Below.fr_base.declared.place.Lval.{Lval}
use Rattle.law_words_borrows.specs.Below.mut_borrow.declared.mutable.MutRef.{MutRef}
use Rattle.law_words_borrows.specs.Below.thread_state.View.{ThreadState}
use Rattle.law_words_borrows.specs.Below.thread_state.declared.value.Value.{Value}
use Rattle.law_words_borrows.specs.Below.thread_state.declared.value.Value.TheVariants as value
use Rattle.law_words_borrows.specs.Below.server_model.declared.event.What.TheVariants.{Step}
use Rattle.law_words_borrows.specs.Below.server_model.Servers.{Server, Cluster, server_at}
use Rattle.law_words_borrows.specs.Below.server_model.Work.{Hand, last_of, front_of, thread_in}
use Rattle.law_words_borrows.specs.Below.server_model.Places.{Spot, took}
use Rattle.law_words_borrows.specs.Below.server_model.Commit.{goes_on, discard, drop_slot}
use Rattle.law_words_borrows.specs.Below.server_model.Events.{enabled, Stepped, committed}
use Rattle.law_words_borrows.specs.Below.coherent_memory.Names.{Among}
use Rattle.law_words_borrows.specs.Below.coherent_memory.Things.{Location, at_slot, at_temp, in_cell, things_of}
use Rattle.law_words_borrows.specs.Below.coherent_memory.Follow.{Ground, value_in, leads, locate, place_at}
use Rattle.law_words_borrows.specs.Below.coherent_memory.Stale.{Reference, references, holder_of, is_held_at, is_among, with_place, one_star_less, lent_places}
use Rattle.law_words_borrows.specs.Below.coherent_memory.Sight.{sight}
use Rattle.law_words_borrows.specs.Below.coherent_memory.Words.{IsStale}
use Rattle.law_words_borrows.specs.Below.coherent_memory.Coherent.{IsSound}
use Rattle.law_words_borrows.specs.Below.coherent_memory.Paths.{ends}
use Rattle.law_words_borrows.specs.Below.coherent_memory.Walking.{path}
use Rattle.law_words_borrows.specs.Below.coherent_types.ClusterTypes.{IsCoherent}
use Rattle.law_words_borrows.proofs.Below.law_words_paths.paths.Contained.{reference_there}
use Rattle.law_words_borrows.specs.Below.law_words_paths.words.Reworded.{HasPlaces, Reworded}
use Rattle.law_words_borrows.specs.Below.law_words_paths.words.Soles.{TookIt, SameOutlines}
use Rattle.law_words_borrows.specs.Below.law_words_paths.words.Unmoved.{seen_at, Taking, takings, Untouched}
use Rattle.law_words_borrows.proofs.Below.law_words_paths.words.Follows.{seen_places_lead, seen_holders_lead}
use Rattle.law_words_borrows.proofs.Below.law_words_paths.words.Grounds.{of_borrows, same_place}
use Rattle.law_words_borrows.proofs.Below.law_words_paths.words.Outlines.{leads_outline, soles_stay}
use Rattle.law_words_borrows.proofs.Below.law_words_paths.words.Slots.{set_same}
use Rattle.law_words_borrows.proofs.Below.law_words_paths.words.Standing.{borrow_stands}
use Rattle.law_words_borrows.proofs.Below.law_words_paths.words.Takings.{reference_at, lents_are, lent_by, lent_listed, lent_told}
use Rattle.law_words_borrows.specs.Below.law_counts_sums.Laws.{Gives}
use Rattle.law_words_borrows.proofs.Below.law_counts_sums.Objects.{length_set}
use Rattle.law_words_borrows.proofs.Below.law_words_kept.stays.Steps.{TakesNoneHere}
use Rattle.law_words_borrows.specs.Below.law_words_kept.prepared.Requests.{WordsRise}
use Rattle.law_words_borrows.proofs.Below.law_words_values.carried.Hands.{Ok, RootedIn, rooted, places as then_places}
use Rattle.law_words_borrows.proofs.Below.law_words_values.carried.Places.{end_is}
use Rattle.law_words_borrows.specs.Below.law_words_values.references.Unpassed.{IsUnpassed}
use Rattle.law_words_borrows.proofs.Below.law_words_values.references.Fewer.{slots_lead, cells_lead}
use Rattle.law_words_borrows.proofs.Below.law_words_values.references.Chains.{cluster}
use Rattle.law_words_ends.proofs.variables.EndTypes.{alone, fresh as fresh_there, only as only_there, untaken as untaken_there}
use Rattle.law_words_ends.proofs.variables.EndHands.{length_end, newest_there, SpotIs, Base, AtEnd, Past, bare, slot_ends, top_ends}
use Rattle.law_words_ends.proofs.variables.EndEvents.{me, going, paths, places, first_cluster, seen_first, its_holder}

-- the newest value becomes another one
last_set : (xs : List Value) (v u : Value) → last_of xs ≡ Some v → (last_of (slice_set xs (length (front_of xs)) u) ≡ Some u) × (length (front_of (slice_set xs (length (front_of xs)) u)) ≡ length (front_of xs))
last_set xs v u e =
    let i : ℕ = length (front_of xs) in
    let zs : List Value = slice_set xs i u in
    let got = newest_there xs v e in
    let same : length zs ≡ length xs = length_set xs i u in
    let number : length zs - 1 ≡ i = (let a = got.1 in omega (arith, a, same)) in
    let last : last_of zs ≡ Some u = ap (slice_get zs) number ∙ set_same xs i v u got.0 in
    let newest = newest_there zs u last in
    (last, (let a = got.1 in let b = newest.1 in omega (arith, a, b, same)))

-- what is pushed is the newest value
pub last_end : (ts : List Value) (v : Value) → last_of (ts ++ v ∷ []) ≡ Some v
last_end ts v =
    let number : length (ts ++ v ∷ []) - 1 ≡ length ts = (let a = length_end ts v in omega (arith, a)) in
    ap (slice_get (ts ++ v ∷ [])) number ∙ end_is ts v

-- what is below it
front_end : (ts : List Value) (v : Value) → length (front_of (ts ++ v ∷ [])) ≡ length ts
front_end ts v = let a = (newest_there (ts ++ v ∷ []) v (last_end ts v)).1 in let b = length_end ts v in omega (arith, a, b)

-- what is some is one reference
some_mut : {r q : MutRef} → Some (value.Mut r) ≡ Some (value.Mut q) → r ≡ q
some_mut e = cc

module _ (k : Cluster) (coherent : IsCoherent k) (s : Server) (here_it : server_at k.servers s.rest.number ≡ Some s) (t : ℕ) (y : ThreadState) (at : thread_in s.threads t ≡ Some y) (on : enabled k.options s (Step t) ≡ true)
    (l : Location) (r : MutRef) (stood : value_in (sight k).ground l ≡ Some (value.Mut r)) (does_end : path (sight k) (me k coherent s here_it t y at on) ≡ ends r) (unpassed : IsUnpassed k l) where
  abbrev n : ℕ
  n = s.rest.number

  abbrev gk : Ground
  gk = (sight k).ground

  abbrev first : Cluster
  first = first_cluster k coherent s here_it t y at on

  abbrev g1 : Ground
  g1 = (sight first).ground

  -- the reference has a holder
  pub holder : (m : Location) × (holder_of gk l r.holder ≡ Some m)
  holder = its_holder k coherent s here_it t y at on l r stood does_end unpassed

  abbrev pub h : Location
  h = holder.0

  -- no reference was made from it
  none_from : (m : Location) (q : MutRef) → value_in gk m ≡ Some (value.Mut q) → holder_of gk m q.holder ≡ Some l → ⊥
  none_from m q f w = unpassed m l q q.holder.depth f w (omega arith) w

  -- it isn't stale at the start
  pub fresh_before : IsStale (sight k) (Some l) → ⊥
  fresh_before = fresh_there k (paths k coherent s here_it t y at on) (places k coherent s here_it t y at on) coherent.sound.words.first_at_holder (me k coherent s here_it t y at on) (going k coherent s here_it t y at on) r l h stood holder.1 does_end none_from

  -- words see the same in the cluster of the hand
  seen : Untouched k first
  seen = seen_first k coherent s here_it t y at on

  -- WITH ITS WORD

  module _ (h2 : Hand) (ok : Ok k coherent.sound s here_it t y at h2) (w : ℕ)
      (words : WordsRise k (cluster k coherent.sound s here_it t y at h2)) (fresh : IsStale (sight (cluster k coherent.sound s here_it t y at h2)) (Some l) → ⊥) (reworded : Reworded first (cluster k coherent.sound s here_it t y at h2) l r.object w)
      (now : value_in (sight (cluster k coherent.sound s here_it t y at h2)).ground l ≡ Some (value.Mut (took r w))) where
    abbrev z : Cluster
    z = cluster k coherent.sound s here_it t y at h2

    abbrev gz : Ground
    gz = (sight z).ground

    -- with its word all is as it was but for words
    outlines : SameOutlines first z
    outlines = soles_stay.reworded first z l r.object w reworded

    -- the cluster has places
    places_z : HasPlaces z
    places_z = then_places k coherent.sound s here_it t y at h2 ok

    -- places lead as at the event's start
    leads_on : (u : ℕ) (m : Location) → leads u (value_in gz m) ≡ leads u (value_in g1 m)
    leads_on u m = sym (leads_outline u (value_in gz m)) ∙ ap (leads u) (outlines.stands m) ∙ leads_outline u (value_in g1 m)

    -- slots lead where they led
    slots_on : (u v i : ℕ) → leads u (value_in gz (at_slot v i)) ≡ leads u (value_in gk (at_slot v i))
    slots_on u v i = leads_on u (at_slot v i) ∙ slots_lead k first seen.stands u v i

    -- and cells
    cells_on : (u : ℕ) (o : ObjNo) → leads u (value_in gz (in_cell o)) ≡ leads u (value_in gk (in_cell o))
    cells_on u o = leads_on u (in_cell o) ∙ cells_lead k first seen.stands u o

    -- holders are where they were
    holders_on : (m : Location) (v : Lval) → holder_of gz m v ≡ holder_of gk m v
    holders_on m v = seen_holders_lead gk gz slots_on cells_on m v

    -- places lead where they led
    located_on : (u i d : ℕ) → locate gz u i d ≡ locate gk u i d
    located_on u i d = seen_places_lead gk gz slots_on cells_on u i d

    -- a reference stood there that was made from the same place
    was : (m : Location) (q : MutRef) → value_in gz m ≡ Some (value.Mut q) → (p : MutRef) × (value_in gk m ≡ Some (value.Mut p)) × (p.holder ≡ q.holder)
    was m q f =
        ⊎_elim
        (λ (same : m ≡ l). let one : took r w ≡ q = some_mut (sym now ∙ ap (value_in gz) (sym same) ∙ f) in (r, ap (value_in gk) same ∙ stood, ap (λ (a : MutRef). a.holder) one))
        (λ (apart : m ≡ l → ⊥). (q, reference_at m (value_in gk m) q (sym (seen.stands m) ∙ ap (seen_at m) (sym (reworded.elsewhere m apart) ∙ f)), refl)) (same_place m l)

    -- each reference was one
    reference_was : (q : Reference) → Among q (references gz (things_of z)) → (p : Reference) × (Among p (references gk (things_of k))) × (p.at ≡ q.at) × (p.holder ≡ q.holder)
    reference_was q m =
        let b = of_borrows gz q (things_of z) m in
        let p = was q.at q.reference (borrow_stands z places_z q.at q.reference b.among) in (
          record { at = q.at; holder = holder_of gk q.at p.0.holder; reference = p.0 },
          reference_there k q.at p.0 p.1,
          refl,
          ap (holder_of gk q.at) p.2 ∙ sym (holders_on q.at q.reference.holder) ∙ sym b.holder,
        )

    -- who has taken from a place had taken from it
    taken_was : (x : Taking) → Among x (takings z.code gz.threads) → TookIt k x
    taken_was x m = let it = outlines.takes x m in record { taking = it.taking; among = seen.takes it.taking it.among; thread = it.thread; place = it.place }

    -- so was what threads have taken from
    lent_was : (m : Location) → is_among m (lent_places z.code gz gz.threads) ≡ true → is_among m (lent_places k.code gk gk.threads) ≡ true
    lent_was m f =
        let x = lent_told gz m (takings z.code gz.threads) (sym (ap (is_among m) (lents_are z.code gz gz.threads)) ∙ f) in
        let it = taken_was x.taking x.among in
        let same : lent_by gk it.taking ≡ lent_by gz x.taking =
        less it.taking.thread it.taking.place.slot it.taking.place.depth ∙ ap (λ u. one_star_less gz u it.taking.place.slot it.taking.place.depth) it.thread ∙ ap (λ (v : Lval). one_star_less gz x.taking.thread v.slot v.depth) it.place in
        ap (is_among m) (lents_are k.code gk gk.threads) ∙ lent_listed gk m it.taking (takings k.code gk.threads) it.among (ap (λ o. is_among m (with_place o [])) same ∙ x.at)
      where
        less : (u i d : ℕ) → one_star_less gk u i d ≡ one_star_less gz u i d
        less u i zero = refl
        less u i (suc d) = sym (located_on u i d)

    -- what was taken stands at a place
    rooted_z : RootedIn z
    rooted_z x m =
        let it = taken_was x m in
        let q = rooted k coherent.sound it.taking it.among in
        let same : place_at gz x.thread x.place ≡ place_at gk x.thread x.place = located_on x.thread x.place.slot x.place.depth in
        (q.0, same ∙ ap (λ v. place_at gk v x.place) (sym it.thread) ∙ ap (place_at gk it.taking.thread) (sym it.place) ∙ q.1)

    -- so it ends from that hand
    pub base : Base k coherent.sound s here_it t y at (bare h2)
    base = record { number = ok.number; named = ok.thread; places = places_z; rooted = rooted_z; words = words }

    -- no holder's place passes it
    unpassed_z : IsUnpassed z l
    unpassed_z m o q d f held le there =
        let p = was m q f in
        unpassed m o p.0 d p.1 (ap (holder_of gk m) p.2 ∙ sym (holders_on m q.holder) ∙ held) (subst (λ (v : Lval). d ≤ v.depth) (sym p.2) le) (ap (λ (v : Lval). holder_of gk m (record v { depth = d })) p.2 ∙ sym (holders_on m (record q.holder { depth = d })) ∙ there)

    -- what types tell of it holds there
    pub at_end : AtEnd k coherent.sound s here_it t y at (bare h2) l h (took r w)
    at_end = record {
      clean = refl;
      stood = now;
      held = holders_on l r.holder ∙ holder.1;
      fresh = fresh;
      only = λ q m f.
          (let p = reference_was q m in
          sym p.2 ∙ only_there k (paths k coherent s here_it t y at on) (places k coherent s here_it t y at on) coherent.sound.words.first_at_holder (me k coherent s here_it t y at on) (going k coherent s here_it t y at on) r l h stood holder.1 does_end none_from p.0 p.1 (ap (is_held_at h) p.3 ∙ f));
      untaken = λ f. untaken_there k (paths k coherent s here_it t y at on) (places k coherent s here_it t y at on) coherent.sound.words.first_at_holder (me k coherent s here_it t y at on) (going k coherent s here_it t y at on) r l h stood holder.1 does_end none_from (lent_was h f);
      unmade = λ q m f.
          (let p = reference_was q m in
          (alone k (paths k coherent s here_it t y at on) (places k coherent s here_it t y at on) coherent.sound.words.first_at_holder (me k coherent s here_it t y at on) (going k coherent s here_it t y at on) r l h stood holder.1 does_end none_from).none_made p.0 p.1 (ap (is_held_at l) p.3 ∙ f));
      unpassed = unpassed_z;
    }

-- the places of the thread's values, with the reference's word
module _ (k : Cluster) (sound : IsSound k) (s : Server) (here_it : server_at k.servers s.rest.number ≡ Some s) (t : ℕ) (y : ThreadState) (at : thread_in s.threads t ≡ Some y) (h2 : Hand) (base : Base k sound s here_it t y at (bare h2)) (h : Location) (r q : MutRef) (none : TakesNoneHere k.code h2.thread) where
  abbrev Done : Stepped → Type 0
  Done d = Past k sound s here_it t y at (bare h2) d.hand

  abbrev EndsAt : Location → Type 0
  EndsAt l = AtEnd k sound s here_it t y at (bare h2) l h q

  abbrev x : ThreadState
  x = h2.thread

  -- with the newest slot
  pub drop_done : (vs : List Value) → x.slots ≡ slice_set vs (length (front_of vs)) (value.Mut q) → last_of vs ≡ Some (value.Mut r) → EndsAt (at_slot x.number (length (front_of vs))) → (sp : Spot) → SpotIs q sp → Gives Done (committed (goes_on (drop_slot sp (bare h2))))
  drop_done vs slots last ended sp w =
      let it = last_set vs (value.Mut r) (value.Mut q) last in
      slot_ends k sound s here_it t y at (bare h2) base none h q (ap last_of slots ∙ it.0) (subst (λ i. EndsAt (at_slot x.number i)) (sym (ap (λ us. length (front_of us)) slots ∙ it.1)) ended) sp w

  -- from the hand
  pub discard_done : (ts : List Value) → x.temps ≡ ts ++ value.Mut q ∷ [] → EndsAt (at_temp x.number (length ts)) → (sp : Spot) → SpotIs q sp → Gives Done (committed (goes_on (discard sp (bare h2))))
  discard_done ts temps ended sp w =
      let last : last_of x.temps ≡ Some (value.Mut q) = ap last_of temps ∙ last_end ts (value.Mut q) in
      top_ends k sound s here_it t y at (bare h2) base none h q last (subst (λ i. EndsAt (at_temp x.number i)) (sym (ap (λ us. length (front_of us)) temps ∙ front_end ts (value.Mut q))) ended) sp w
