-- What types tell of a reference that ends holds where its event has given pointers words: the reference ends from there.
use Rattle.std.proofs.Common.{◌≡◌, ℕ, zero, suc, ◌≤◌, true, false, [], Some, refl, sym, ap, subst, ◌∙◌, arith}
use Rattle.std.specs.Prelude.{slice_get}
use Rattle.law_words_ends.specs.Below.fr_base.declared.instruction.Instr.{Instr}
use Rattle.law_words_ends.specs.Below.fr_base.declared.place.Lval.{Lval}
use Rattle.law_words_ends.specs.Below.mut_borrow.declared.mutable.MutRef.{MutRef}
use Rattle.law_words_ends.specs.Below.thread_state.View.{ThreadState}
use Rattle.law_words_ends.specs.Below.thread_state.declared.value.Value.TheVariants as value
use Rattle.law_words_ends.specs.Below.server_model.declared.event.What.TheVariants.{Step}
use Rattle.law_words_ends.specs.Below.server_model.Servers.{Server, Cluster, server_at}
use Rattle.law_words_ends.specs.Below.server_model.Work.{Hand, thread_in}
use Rattle.law_words_ends.specs.Below.server_model.Places.{Spot}
use Rattle.law_words_ends.specs.Below.server_model.Events.{enabled}
use Rattle.law_words_ends.specs.Below.coherent_memory.Names.{Among}
use Rattle.law_words_ends.specs.Below.coherent_memory.Things.{Location, things_of}
use Rattle.law_words_ends.specs.Below.coherent_memory.Follow.{Standing, Ground, value_in, leads, locate}
use Rattle.law_words_ends.specs.Below.coherent_memory.Stale.{Reference, references, holder_of, is_held_at, is_among, with_place, one_star_less, lent_places, changed_above, stale_above, taken_above}
use Rattle.law_words_ends.specs.Below.coherent_memory.Sight.{sight}
use Rattle.law_words_ends.specs.Below.coherent_memory.Words.{IsStale}
use Rattle.law_words_ends.specs.Below.coherent_types.ClusterTypes.{IsCoherent}
use Rattle.law_words_ends.specs.Below.law_counts_sums.Laws.{FewEvents}
use Rattle.law_words_ends.specs.Below.law_words_paths.paths.HeapStore.{HasPaths, GoesOn}
use Rattle.law_words_ends.proofs.Below.law_words_paths.paths.Contained.{reference_there}
use Rattle.law_words_ends.specs.Below.law_words_paths.words.Reworded.{HasPlaces}
use Rattle.law_words_ends.specs.Below.law_words_paths.words.Soles.{outline, SameOutlines}
use Rattle.law_words_ends.specs.Below.law_words_paths.words.Unmoved.{takings}
use Rattle.law_words_ends.proofs.Below.law_words_paths.words.Follows.{holders_lead}
use Rattle.law_words_ends.proofs.Below.law_words_paths.words.Grounds.{of_borrows}
use Rattle.law_words_ends.proofs.Below.law_words_paths.words.Outlines.{leads_outline, outlined_reference}
use Rattle.law_words_ends.proofs.Below.law_words_paths.words.Standing.{borrow_stands}
use Rattle.law_words_ends.proofs.Below.law_words_paths.words.Takings.{lents_are, lent_by, lent_listed, lent_told}
use Rattle.law_words_writes.proofs.Below.law_words_kept.prepared.Hands.{put, places}
use Rattle.law_words_ends.proofs.Below.law_results_reads.Known.{Steps, standing, paths, goes}
use Rattle.law_words_writes.proofs.Below.law_words_values.carried.Hands.{rooted}
use Rattle.law_words_writes.proofs.Below.law_words_asked.writes.Passing.{State}
use Rattle.law_words_writes.proofs.EndTypes.{places_on, rooted_on}
use Rattle.law_words_ends.proofs.variables.EndTypes.{alone, only as only_there, untaken as untaken_there}
use Rattle.law_words_ends.proofs.variables.EndHands.{Base, AtEnd}
use Rattle.law_words_ends.proofs.stars.Cleaned.{steps, End, fresh}
use Rattle.law_words_ends.proofs.stars.Following.{leads as leads_to}

module _ (k : Cluster) (coherent : IsCoherent k) (few : FewEvents k) (s : Server) (here_it : server_at k.servers s.rest.number ≡ Some s) (t : ℕ) (y : ThreadState) (at : thread_in s.threads t ≡ Some y) (on : enabled k.options s (Step t) ≡ true) (i : Instr) (code : slice_get k.code y.pc ≡ Some i)
    (r : MutRef) (sp : Spot) (other : MutRef → ThreadState) (e : End k coherent few s here_it t y at on i code r sp other) (hl : Location) (at_holder : leads_to k coherent few s here_it t y at on i code r sp other e r.holder.depth ≡ Some hl) where
  abbrev n : ℕ
  n = s.rest.number

  abbrev z : Steps k n t s y i
  z = steps k coherent few s here_it t y at on i code

  abbrev x : Standing
  x = standing k n t s y i z

  abbrev c : HasPaths k
  c = paths k n t s y i z

  abbrev g : GoesOn k x
  g = goes k n t s y i z

  abbrev gk : Ground
  gk = (sight k).ground

  abbrev l : Location
  l = e.it.at

  abbrev P : Hand → Cluster
  P = put k coherent s here_it t y at

  spread : HasPlaces k
  spread = record { numbers_differ = coherent.sound.names.numbers_differ; home_of_each = coherent.sound.one_home.home_of_each; owner_of_each = coherent.sound.one_owner.owner_of_each }

  held : holder_of gk l r.holder ≡ Some hl
  held = e.it.there.holder_is ∙ at_holder

  unheld : (m : Location) (q : MutRef) → value_in gk m ≡ Some (value.Mut q) → holder_of gk m q.holder ≡ Some l → ⊥
  unheld m q f w = e.unpassed m l q q.holder.depth f w (omega arith) w

  none_made : (q : Reference) → Among q (references gk (things_of k)) → is_held_at l q.holder ≡ true → ⊥
  none_made q m f = (alone k c spread coherent.sound.words.first_at_holder x g r l hl e.it.stands held e.is unheld).none_made q m f

  module _ (h : Hand) (st : State k coherent s here_it t y at h) where
    abbrev v : Cluster
    v = P h

    abbrev gz : Ground
    gz = (sight v).ground

    outlines : SameOutlines k v
    outlines = st.onward.outlines

    spread_v : HasPlaces v
    spread_v = places k coherent s here_it t y at h st.ok

    -- values lead where they led, and so do places and holders
    lead : (u : ℕ) (m : Location) → leads u (value_in gz m) ≡ leads u (value_in gk m)
    lead u m = sym (leads_outline u (value_in gz m)) ∙ ap (leads u) (outlines.stands m) ∙ leads_outline u (value_in gk m)

    holders_on : (m : Location) (a : Lval) → holder_of gz m a ≡ holder_of gk m a
    holders_on m a = holders_lead gk gz lead m a

    located_on : (u slot d : ℕ) → locate gz u slot d ≡ locate gk u slot d
    located_on u slot d = places_on k v outlines u slot d

    -- a reference stood there that was made from the same place
    was : (m : Location) (q : MutRef) → value_in gz m ≡ Some (value.Mut q) → (p : MutRef) × (value_in gk m ≡ Some (value.Mut p)) × (p.holder ≡ q.holder)
    was m q f = let p = outlined_reference (value_in gk m) q (sym (outlines.stands m) ∙ ap outline f) in (p.0, p.1, ap (λ (a : MutRef). a.holder) p.2)

    -- each reference was one
    reference_was : (q : Reference) → Among q (references gz (things_of v)) → (p : Reference) × (Among p (references gk (things_of k))) × (p.at ≡ q.at) × (p.holder ≡ q.holder)
    reference_was q m =
        let b = of_borrows gz q (things_of v) m in
        let p = was q.at q.reference (borrow_stands v spread_v q.at q.reference b.among) in (
          record { at = q.at; holder = holder_of gk q.at p.0.holder; reference = p.0 },
          reference_there k q.at p.0 p.1,
          refl,
          ap (holder_of gk q.at) p.2 ∙ sym (holders_on q.at q.reference.holder) ∙ sym b.holder,
        )

    -- so was what threads have taken from
    lent_was : (m : Location) → is_among m (lent_places v.code gz gz.threads) ≡ true → is_among m (lent_places k.code gk gk.threads) ≡ true
    lent_was m f =
        let a = lent_told gz m (takings v.code gz.threads) (sym (ap (is_among m) (lents_are v.code gz gz.threads)) ∙ f) in
        let it = outlines.takes a.taking a.among in
        let same : lent_by gk it.taking ≡ lent_by gz a.taking =
        less it.taking.thread it.taking.place.slot it.taking.place.depth ∙ ap (λ u. one_star_less gz u it.taking.place.slot it.taking.place.depth) it.thread ∙ ap (λ (w : Lval). one_star_less gz a.taking.thread w.slot w.depth) it.place in
        ap (is_among m) (lents_are k.code gk gk.threads) ∙ lent_listed gk m it.taking (takings k.code gk.threads) it.among (ap (λ o. is_among m (with_place o [])) same ∙ a.at)
      where
        less : (u slot d : ℕ) → one_star_less gk u slot d ≡ one_star_less gz u slot d
        less u slot zero = refl
        less u slot (suc d) = sym (located_on u slot d)

    -- a reference was made from it in neither
    made_none : (q : Reference) → Among q (references gz (things_of v)) → is_held_at l q.holder ≡ true → ⊥
    made_none q m f = let p = reference_was q m in none_made p.0 p.1 (ap (is_held_at l) p.3 ∙ f)

    -- it isn't stale
    pub still_fresh : IsStale (sight v) (Some l) → ⊥
    still_fresh (changed_above q among f ch) = made_none q among f
    still_fresh (stale_above q among f a) = made_none q among f
    still_fresh (taken_above f) = fresh k coherent few s here_it t y at on i code r sp other e (taken_above (lent_was l f))

    -- so it ends from that hand
    pub base : Base k coherent.sound s here_it t y at h
    base = record { number = st.ok.number; named = st.ok.thread; places = spread_v; rooted = rooted_on k v outlines refl (rooted k coherent.sound); words = st.onward.words }

    pub at_end : (q : MutRef) → q.dirty ≡ false → q.holder ≡ r.holder → value_in gz l ≡ Some (value.Mut q) → AtEnd k coherent.sound s here_it t y at h l hl q
    at_end q clean same now = record {
      clean = clean;
      stood = now;
      held = ap (holder_of gz l) same ∙ holders_on l r.holder ∙ held;
      fresh = still_fresh;
      only = λ p m f.
          (let b = reference_was p m in
          sym b.2 ∙ only_there k c spread coherent.sound.words.first_at_holder x g r l hl e.it.stands held e.is unheld b.0 b.1 (ap (is_held_at hl) b.3 ∙ f));
      untaken = λ f. untaken_there k c spread coherent.sound.words.first_at_holder x g r l hl e.it.stands held e.is unheld (lent_was hl f);
      unmade = made_none;
      unpassed = λ m o p d f w le there.
          (let b = was m p f in
          e.unpassed m o b.0 d b.1 (ap (holder_of gk m) b.2 ∙ sym (holders_on m p.holder) ∙ w) (subst (λ (a : Lval). d ≤ a.depth) (sym b.2) le)
          (ap (λ (a : Lval). holder_of gk m (record a { depth = d })) b.2 ∙ sym (holders_on m (record p.holder { depth = d })) ∙ there));
    }
