-- What a place that is read asks for on its way: a copy of what a pointer there leads to, or the object of a dirty reference, which gets the next colour first where one is left.
use Rattle.std.proofs.Common.{◌≡◌, ℕ, zero, suc, ◌<◌, ◌≤◌, ◌==◌, Bool, true, false, if◌then◌else◌, List, Option, Some, None, refl, sym, ap, subst, ◌∙◌, arith}
use Rattle.std.specs.Bool.{⊤}
use Rattle.std.specs.Prelude.{slice_get, nat_lt}
use Rattle.law_words_borrows.specs.Below.fr_base.declared.place.Lval.{Lval}
use Rattle.law_words_borrows.specs.Below.fr_base.declared.instruction.Instr.{Instr}
use Rattle.law_words_borrows.specs.Below.global_addr.Words.{colour_of, server_of, next_word}
use Rattle.law_words_borrows.specs.Below.heap_partition.declared.value.BoxPtr.{BoxPtr}
use Rattle.law_words_borrows.specs.Below.heap_partition.declared.value.Owned.{Owned}
use Rattle.law_words_borrows.specs.Below.law_results_reads.Below.read_cache.Cache.{Copy, is_cached}
use Rattle.law_words_borrows.specs.Below.mut_borrow.Refs.{cleaned_answer}
use Rattle.law_words_borrows.specs.Below.mut_borrow.declared.mutable.MutRef.{MutRef}
use Rattle.law_words_borrows.specs.Below.mut_borrow.declared.mutable.Cleaned.{Cleaned}
use Rattle.law_words_borrows.specs.Below.mut_borrow.declared.mutable.Cleaned.TheVariants as cleaned
use Rattle.law_words_borrows.specs.Below.law_results_reads.Below.place_walk.declared.hop.Hop.{Hop}
use Rattle.law_words_borrows.specs.Below.law_results_reads.Below.place_walk.declared.hop.Hop.TheVariants as hop
use Rattle.law_words_borrows.specs.Below.law_results_reads.Below.place_walk.Hops.{clean_hop, dirty_hop, read_hop}
use Rattle.law_words_borrows.specs.Below.thread_state.View.{ThreadState}
use Rattle.law_words_borrows.specs.Below.thread_state.declared.value.Value.{Value}
use Rattle.law_words_borrows.specs.Below.thread_state.declared.value.Value.TheVariants as value
use Rattle.law_words_borrows.specs.Below.server_model.Servers.{Server, Cluster}
use Rattle.law_words_borrows.specs.Below.server_model.Work.{Hand, look, then_some}
use Rattle.law_words_borrows.specs.Below.server_model.NewWords.{issue_tint, issue_renewal}
use Rattle.law_words_borrows.specs.Below.server_model.Places.{Spot, in_slot, in_cell, in_copy, on_top, nowhere, value_at, value_in as cell_value, load_at, pointer_of, took, put_word}
use Rattle.law_words_borrows.specs.Below.server_model.Prepare.{Prepared, ready, requested, nothing, and_then, ready_at, ask_copy, ask_object, request_by, box_of, cleaned_by, clean_value, use_copy, hit_by, read_by, read_value, read_clean, tinted_first, read_star, read_stars}
use Rattle.law_words_borrows.specs.Below.coherent_memory.Things.{Location, at_slot}
use Rattle.law_words_borrows.specs.Below.coherent_memory.Follow.{Standing, Ground, value_in, value_of, slot_of, locate}
use Rattle.law_words_borrows.specs.Below.coherent_memory.Sight.{sight}
use Rattle.law_words_borrows.proofs.Below.law_words_paths.paths.Shown.{stands_there}
use Rattle.law_words_borrows.proofs.Below.law_words_paths.paths.Sole.{some_is}
use Rattle.law_copies_kept.proofs.Below.law_words_paths.words.Slots.{set_same}
use Rattle.law_copies_kept.proofs.Below.law_words_paths.words.Tints.{slot_put}
use Rattle.law_words_borrows.proofs.Below.law_results_reads.Known.{Steps, goes, paths, standing, hand}
use Rattle.law_words_borrows.proofs.Below.law_results_reads.Followed.{Place}
use Rattle.law_words_borrows.proofs.Below.law_results_reads.Reading.{Alike, equal, both_shared, alike_at, Reading}
use Rattle.law_words_borrows.proofs.Below.law_results_reads.Starred.{bound, At, a_slot, a_cell, a_copy, Fine, loaded}
use Rattle.law_words_borrows.proofs.Below.law_results_reads.Readers.{IsFree, stars_fine}

-- WHICH HOPS ASK

-- a dirty reference asks for no copy
dirty_no_copy : (server : ℕ) (cache : List Copy) (q : MutRef) (c : ℕ) → q.dirty ≡ true → read_hop server cache (value.Mut q) ≡ Some (hop.NeedCopy c) → ⊥
dirty_no_copy server cache q c d e = by (server_of q.word == server) (sym (ap (λ b. Some (if b then dirty_hop server q.word else clean_hop server cache q.word)) d) ∙ e)
  where
    by : (b : Bool) → Some (if b then hop.Direct q.word else hop.NeedTint q.word) ≡ Some (hop.NeedCopy c) → ⊥
    by true f = absurd cc
    by false f = absurd cc

-- what wants a tint is dirty, and its object is elsewhere
wants_tint : (server : ℕ) (cache : List Copy) (q : MutRef) (c : ℕ) → read_hop server cache (value.Mut q) ≡ Some (hop.NeedTint c) → (q.dirty ≡ true) × ((server_of q.word == server) ≡ false)
wants_tint server cache q c e = by q.dirty refl e
  where
    clean : (a b : Bool) → Some (if a then hop.Direct q.word else (if b then hop.Hit q.word else hop.NeedCopy q.word)) ≡ Some (hop.NeedTint c) → ⊥
    clean true b f = absurd cc
    clean false true f = absurd cc
    clean false false f = absurd cc

    away : (a : Bool) → Some (if a then hop.Direct q.word else hop.NeedTint q.word) ≡ Some (hop.NeedTint c) → a ≡ false
    away true f = absurd cc
    away false f = refl

    by : (d : Bool) → q.dirty ≡ d → Some (if d then dirty_hop server q.word else clean_hop server cache q.word) ≡ Some (hop.NeedTint c) → (q.dirty ≡ true) × ((server_of q.word == server) ≡ false)
    by true g f = (g, away (server_of q.word == server) f)
    by false g f = absurd (clean (server_of q.word == server) (is_cached cache q.word) f)

loaded_there : (h : Hand) (sp : Spot) → value_at (load_at sp h) sp ≡ value_at h sp
loaded_there h (in_slot j) = refl
loaded_there h (in_cell c q) = refl
loaded_there h (in_copy c) = refl
loaded_there h on_top = refl
loaded_there h nowhere = refl

-- the same pointer in both values, and the same reference
pub record SamePointer (u v : Value) : Type 0 where
  pub pointer : (b : BoxPtr) → pointer_of u ≡ Some b → (p : BoxPtr) × (pointer_of v ≡ Some p) × (p.word ≡ b.word) × (p.object ≡ b.object)
  pub reference : (q : MutRef) → v ≡ value.Mut q → u ≡ value.Mut q
  pub back : (q : MutRef) → u ≡ value.Mut q → v ≡ value.Mut q

alike_pointer : (v u : Value) → Alike v u → SamePointer u v
alike_pointer v _ equal = record { pointer = λ b e. (b, e, refl, refl); reference = λ q e. e; back = λ q e. e }
alike_pointer _ _ (both_shared a b words objects) = record {
  pointer = λ c e. (let same : record { word = b.word; object = b.object } ≡ c = cc in (record { word = a.word; object = a.object }, refl, words ∙ ap (λ (p : BoxPtr). p.word) same, objects ∙ ap (λ (p : BoxPtr). p.object) same));
  reference = λ q e. absurd cc;
  back = λ q e. absurd cc;
}

module _ (k : Cluster) (n t : ℕ) (s : Server) (y : ThreadState) (i : Instr) (z : Steps k n t s y i) where
  abbrev x : Standing
  x = standing k n t s y i z

  abbrev g : Ground
  g = (sight k).ground

  abbrev tn : ℕ
  tn = y.number

  abbrev pub Reads : ℕ → Hand → Type 0
  Reads d h = Reading y s.rest (bound k n t s y i z) d h

  abbrev pub Stands : Spot → Location → Type 0
  Stands sp l = At k n t s y i z sp l

  -- a pointer on the way, after so many stars
  pub record Followed (w : Lval) (most : ℕ) (b : BoxPtr) : Type 0 where
    pub stars : ℕ
    pub under : stars < most
    pub location : Location
    pub located : locate g tn w.slot stars ≡ Some location
    pub value : Value
    pub stood : value_in g location ≡ Some value
    pub pointer : BoxPtr
    pub points : pointer_of value ≡ Some pointer
    pub word : pointer.word ≡ b.word
    pub object : pointer.object ≡ b.object

  -- what is asked for, from a hand of which something is known
  pub data Asked (X : Hand → Type 0) (w : Lval) (most : ℕ) (h2 : Hand) : Type 0 where
    for_copy : (d : ℕ) (h1 : Hand) (b : BoxPtr) → X h1 → Reads d h1 → (f : Followed w most b) → ((q : MutRef) → f.value ≡ value.Mut q → q.dirty ≡ true → ⊥) → h2 ≡ ask_copy b h1 → Asked X w most h2
    for_object : (d : ℕ) (h1 : Hand) (b : BoxPtr) → X h1 → Reads d h1 → h2 ≡ ask_object b h1 → Asked X w most h2
    for_tinted : (d : ℕ) (h1 h3 : Hand) (stars j : ℕ) (q : MutRef) → X h1 → Reads d h1 → stars < most → locate g tn w.slot stars ≡ Some (at_slot tn j) → slice_get h1.thread.slots j ≡ Some (value.Mut q) → value_in g (at_slot tn j) ≡ Some (value.Mut q) → q.dirty ≡ true
        → put_word (in_slot j) (issue_tint (box_of q) h1.work) h1 ≡ Some h3 → h2 ≡ ask_copy (record { word = next_word q.word; object = q.object }) h3 → Asked X w most h2

  abbrev pub AsksSo : (Hand → Type 0) → Lval → ℕ → Prepared → Type 0
  AsksSo X w most (ready h sp) = ⊤
  AsksSo X w most (requested h) = Asked X w most h
  AsksSo X w most nothing = ⊤

  -- what stands at the spot
  spot_value : (d : ℕ) (h : Hand) (sp : Spot) (l : Location) (u : Value) → Reads d h → Stands sp l → value_at h sp ≡ Some u → (v : Value) × (value_in g l ≡ Some v) × SamePointer u v
  spot_value d h _ _ u a (a_slot j) e =
      let m = alike_at y.slots h.thread.slots j u (sym a.slots) e in
      (m.0, ap (λ o. slot_of o j) (stands_there k (paths k n t s y i z) x (goes k n t s y i z)) ∙ m.1, alike_pointer m.0 u m.2)
  spot_value d h _ _ u a (a_cell c q o cell f there) e =
      let same : value.Own cell.value ≡ u = some_is (sym (ap cell_value (ap (λ p. look p c) a.partition ∙ f)) ∙ e) in
      (u, ap value_of there ∙ ap Some same, alike_pointer u u equal)
  spot_value d h _ _ u a (a_copy c o cell f there) e =
      let same : value.Own cell.value ≡ u = some_is (sym (ap cell_value (a.hits c ∙ f)) ∙ e) in
      (u, ap value_of there ∙ ap Some same, alike_pointer u u equal)

  own_mut : (o : Owned) (q : MutRef) → value.Own o ≡ value.Mut q → ⊥
  own_mut o q e = absurd cc

  -- a mutable reference stands in a slot
  in_its_slot : (d : ℕ) (h : Hand) (sp : Spot) (l : Location) (q : MutRef) → Reads d h → Stands sp l → value_at h sp ≡ Some (value.Mut q) → (j : ℕ) × (sp ≡ in_slot j) × (l ≡ at_slot tn j)
  in_its_slot d h _ _ q a (a_slot j) e = (j, refl, refl)
  in_its_slot d h _ _ q a (a_cell c p o cell f there) e = absurd (own_mut cell.value q (some_is (sym (ap cell_value (ap (λ p. look p c) a.partition ∙ f)) ∙ e)))
  in_its_slot d h _ _ q a (a_copy c o cell f there) e = absurd (own_mut cell.value q (some_is (sym (ap cell_value (a.hits c ∙ f)) ∙ e)))

  module _ (X : Hand → Type 0) (w : Lval) (most d : ℕ) (lt : d < most) (l : Location) (located : locate g tn w.slot d ≡ Some l) where
    abbrev Goal : Prepared → Type 0
    Goal p = AsksSo X w most p

    then_goal : (p : Prepared) (go : Hand → Spot → Prepared) → Goal p → ((h : Hand) (sp : Spot) → Goal (go h sp)) → Goal (and_then go p)
    then_goal (ready h sp) go a f = f h sp
    then_goal (requested h) go a f = a
    then_goal nothing go a f = tt

    ready_goal : (sp : Spot) (o : Option Hand) → Goal (ready_at sp o)
    ready_goal sp None = tt
    ready_goal sp (Some h) = tt

    abbrev next : Hand → Spot → Prepared
    next h sp = read_value sp (value_at h sp) h

    module _ (h : Hand) (sp : Spot) (c : X h) (a : Reads d h) (spot : Stands sp l) (u : Value) (at : value_at h sp ≡ Some u) where
      stood : (v : Value) × (value_in g l ≡ Some v) × SamePointer u v
      stood = spot_value d h sp l u a spot at

      asks_copy_of : (m : ℕ) → read_hop h.work.rest.number h.work.rest.cache u ≡ Some (hop.NeedCopy m) → (o : Option BoxPtr) → pointer_of u ≡ o → Goal (request_by ask_copy h o)
      asks_copy_of m e None f = tt
      asks_copy_of m e (Some b) f =
          let like = stood.2 in
          let p = like.pointer b f in
          for_copy d h b c a (record { stars = d; under = lt; location = l; located = located; value = stood.0; stood = stood.1; pointer = p.0; points = p.1; word = p.2; object = p.3 })
          (λ q same dirty. dirty_no_copy h.work.rest.number h.work.rest.cache q m dirty (sym (ap (read_hop h.work.rest.number h.work.rest.cache) (like.reference q same)) ∙ e)) refl

      by_hop : (o : Option Hop) → read_hop h.work.rest.number h.work.rest.cache u ≡ o → Goal (read_by sp u o h)
      by_hop None e = tt
      by_hop (Some (hop.Slot m)) e = tt
      by_hop (Some (hop.Direct m)) e = tt
      by_hop (Some (hop.Hit m)) e = ready_goal (in_copy m) (use_copy sp u m (hit_by u h))
      by_hop (Some (hop.NeedCopy m)) e = asks_copy_of m e (pointer_of u) refl
      by_hop (Some (hop.NeedMove m)) e = tt
      by_hop (Some (hop.NeedTint m)) e = tt
      by_hop (Some (hop.AtCell m)) e = tt

      -- the hop is read
      reads_on : Goal (next h sp)
      reads_on = subst (λ o. Goal (read_value sp o h)) (sym at) (by_hop (read_hop h.work.rest.number h.work.rest.cache u) refl)

    -- a dirty reference is cleaned first
    module _ (h : Hand) (sp : Spot) (known : X h) (a : Reads d h) (spot : Stands sp l) (q : MutRef) (at : value_at h sp ≡ Some (value.Mut q)) (dirty : q.dirty ≡ true) (away : (server_of q.word == h.work.rest.number) ≡ false) where
      abbrev there : (j : ℕ) × (sp ≡ in_slot j) × (l ≡ at_slot tn j)
      there = in_its_slot d h sp l q a spot at

      abbrev j : ℕ
      j = there.0

      its : slice_get h.thread.slots j ≡ Some (value.Mut q)
      its = subst (λ c. value_at h c ≡ Some (value.Mut q)) there.1 at

      was : value_in g (at_slot tn j) ≡ Some (value.Mut q)
      was =
          let st = spot_value d h sp l (value.Mut q) a spot at in
          let like = st.2 in
          subst (λ c. value_in g c ≡ Some (value.Mut q)) there.2 (st.1 ∙ ap Some (like.back q refl))

      tinted_asks : (h3 : Hand) → put_word (in_slot j) (issue_tint (box_of q) h.work) h ≡ Some h3 → Goal (next h3 (in_slot j))
      tinted_asks h3 e =
          let wrote = slot_put h h3 j (value.Mut q) (box_of q) its e in
          let now : slice_get h3.thread.slots j ≡ Some (value.Mut (took q (next_word q.word))) = ap (λ (th : ThreadState). slice_get th.slots j) wrote.thread ∙ set_same h.thread.slots j (value.Mut q) wrote.new its ∙ sym wrote.worded in
          subst (λ o. Goal (read_value (in_slot j) o h3)) (sym now) (by (server_of (next_word q.word) == h3.work.rest.number) (is_cached h3.work.rest.cache (next_word q.word)))
        where
          v : Value
          v = value.Mut (took q (next_word q.word))

          by : (b c : Bool) → Goal (read_by (in_slot j) v (Some (if b then hop.Direct (next_word q.word) else (if c then hop.Hit (next_word q.word) else hop.NeedCopy (next_word q.word)))) h3)
          by true c = tt
          by false true = ready_goal (in_copy (next_word q.word)) (use_copy (in_slot j) v (next_word q.word) (hit_by v h3))
          by false false = for_tinted d h h3 d j q known a lt (located ∙ ap Some there.2) its was dirty e refl

      at_slot_now : (o : Option Hand) → put_word (in_slot j) (issue_tint (box_of q) h.work) h ≡ o → Goal (and_then next (ready_at (in_slot j) o))
      at_slot_now None e = tt
      at_slot_now (Some h3) e = tinted_asks h3 e

      by_answer : (c : Cleaned) → Goal (and_then next (cleaned_by c sp q h))
      by_answer cleaned.Same = reads_on h sp known a spot (value.Mut q) at
      by_answer (cleaned.Tinted v) = subst (λ c. Goal (and_then next (ready_at c (put_word c (issue_tint (box_of q) h.work) h)))) (sym there.1) (at_slot_now (put_word (in_slot j) (issue_tint (box_of q) h.work) h) refl)
      by_answer cleaned.MustRenew =
          subst (λ b. Goal (and_then next (if b then ready_at sp (then_some (issue_renewal (box_of q) h.work) (λ m. put_word sp m h)) else requested (ask_object (box_of q) h)))) (sym away) (for_object d h (box_of q) known a refl)

      cleans : Goal (and_then next (clean_value sp (Some (value.Mut q)) h))
      cleans = by (nat_lt (colour_of q.word) h.work.rest.partition.limit)
        where
          by : (b : Bool) → Goal (and_then next (if b then cleaned_by (cleaned_answer h.work.rest.partition.limit q) sp q h else nothing))
          by true = by_answer (cleaned_answer h.work.rest.partition.limit q)
          by false = tt

    -- what a value is cleaned to
    tints : (h : Hand) (sp : Spot) → X h → Reads d h → Stands sp l → (u : Value) → value_at h sp ≡ Some u → (c : ℕ) → read_hop h.work.rest.number h.work.rest.cache u ≡ Some (hop.NeedTint c) → Goal (and_then next (clean_value sp (Some u) h))
    tints h sp x2 a spot (value.Mut q) at c e = let both = wants_tint h.work.rest.number h.work.rest.cache q c e in cleans h sp x2 a spot q at both.0 both.1
    tints h sp x2 a spot (value.Own o) at c e = reads_on h sp x2 a spot (value.Own o) at
    tints h sp x2 a spot (value.SharedSlot b) at c e = reads_on h sp x2 a spot (value.SharedSlot b) at
    tints h sp x2 a spot (value.MutSlot b) at c e = reads_on h sp x2 a spot (value.MutSlot b) at
    tints h sp x2 a spot (value.Shared b) at c e = reads_on h sp x2 a spot (value.Shared b) at
    tints h sp x2 a spot value.Gone at c e = reads_on h sp x2 a spot value.Gone at
    tints h sp x2 a spot (value.Held b) at c e = reads_on h sp x2 a spot (value.Held b) at

    first : (h : Hand) (sp : Spot) → X h → Reads d h → Stands sp l → (u : Value) → value_at h sp ≡ Some u → (o : Option Hop) → read_hop h.work.rest.number h.work.rest.cache u ≡ o → Goal (and_then next (read_clean sp u o h))
    first h sp x2 a spot u at (Some (hop.NeedTint c)) e = tints h sp x2 a spot u at c e
    first h sp x2 a spot u at (Some (hop.Slot c)) e = reads_on h sp x2 a spot u at
    first h sp x2 a spot u at (Some (hop.Direct c)) e = reads_on h sp x2 a spot u at
    first h sp x2 a spot u at (Some (hop.Hit c)) e = reads_on h sp x2 a spot u at
    first h sp x2 a spot u at (Some (hop.NeedCopy c)) e = reads_on h sp x2 a spot u at
    first h sp x2 a spot u at (Some (hop.NeedMove c)) e = reads_on h sp x2 a spot u at
    first h sp x2 a spot u at (Some (hop.AtCell c)) e = reads_on h sp x2 a spot u at
    first h sp x2 a spot u at None e = reads_on h sp x2 a spot u at

    -- ONE STAR

    star_asks : (h : Hand) (sp : Spot) → X (load_at sp h) → Reads d h → Stands sp l → Goal (read_star h sp)
    star_asks h sp known a spot = by (value_at h sp) refl
      where
        h1 : Hand
        h1 = load_at sp h

        by : (o : Option Value) → value_at h sp ≡ o → Goal (and_then next (tinted_first sp o h1))
        by None e = tt
        by (Some u) e = first h1 sp known (loaded k n t s y i z d h sp a) spot u (loaded_there h sp ∙ e) (read_hop h1.work.rest.number h1.work.rest.cache u) refl

  -- ALL STARS

  last_star : (d : ℕ) (h : Hand) (sp : Spot) → read_stars (suc d) h sp ≡ and_then read_star (read_stars d h sp)
  last_star zero h sp = by (read_star h sp)
    where
      by : (p : Prepared) → and_then (read_stars 0) p ≡ p
      by (ready h2 s2) = refl
      by (requested h2) = refl
      by nothing = refl
  last_star (suc d) h sp = by (read_star h sp) (λ h2 s2. last_star d h2 s2)
    where
      by : (p : Prepared) → ((h2 : Hand) (s2 : Spot) → read_stars (suc d) h2 s2 ≡ and_then read_star (read_stars d h2 s2)) → and_then (read_stars (suc d)) p ≡ and_then read_star (and_then (read_stars d) p)
      by (ready h2 s2) go = go h2 s2
      by (requested h2) go = refl
      by nothing go = refl

  abbrev pub Known : (Hand → Type 0) → Prepared → Type 0
  Known X (ready h sp) = X (load_at sp h)
  Known X (requested h) = ⊤
  Known X nothing = ⊤

  module _ (X : Hand → Type 0) (only : Bool) (w : Lval) (place : Place k (paths k n t s y i z) x only w) (short : w.depth ≤ 8) (most : ℕ) (le : most ≤ w.depth) (free : IsFree k n t s y i z only w place most)
      (known : (d : ℕ) → Known X (read_stars d (hand k n t s y i z) (in_slot w.slot))) where
    free_so : (d : ℕ) → d ≤ most → IsFree k n t s y i z only w place d
    free_so d l e lt under = free e lt (omega (arith, l, under))

    pub stars_ask : (d : ℕ) → d ≤ most → AsksSo X w most (read_stars d (hand k n t s y i z) (in_slot w.slot))
    stars_ask zero l = tt
    stars_ask (suc d) l =
        subst (AsksSo X w most) (sym (last_star d (hand k n t s y i z) (in_slot w.slot)))
        (by (read_stars d (hand k n t s y i z) (in_slot w.slot)) (stars_ask d (omega (arith, l))) (known d) (stars_fine k n t s y i z only w place short d (omega (arith, l, le)) (free_so d (omega (arith, l)))))
      where
        by : (p : Prepared) → AsksSo X w most p → Known X p → Fine k n t s y i z w.slot d p → AsksSo X w most (and_then read_star p)
        by (ready h sp) a b f = star_asks X w most d (omega (arith, l)) f.0 f.1 h sp b f.3 f.2
        by (requested h) a b f = a
        by nothing a b f = tt
