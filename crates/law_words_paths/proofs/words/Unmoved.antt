-- Where nothing changes that words see, the words stay.
use Rattle.std.proofs.Common.{◌≡◌, ◌⊎◌, inl, inr, ⊎_elim, ℕ, zero, suc, true, [], Option, Some, None, refl, sym, ap, subst, ◌∙◌}
use Rattle.law_words_paths.specs.Below.fr_base.declared.name.ObjNo.{ObjNo}
use Rattle.law_words_paths.specs.Below.fr_base.declared.place.Lval.{Lval}
use Rattle.law_words_paths.specs.Below.heap_partition.declared.value.Cell.{Cell}
use Rattle.law_words_paths.specs.Below.mut_borrow.declared.mutable.MutRef.{MutRef}
use Rattle.law_words_paths.specs.Below.server_model.Servers.{Cluster}
use Rattle.law_words_paths.specs.Below.thread_state.declared.value.Value.TheVariants as value
use Rattle.law_words_paths.specs.Below.coherent_memory.Names.{Among, other}
use Rattle.law_words_paths.specs.Below.coherent_memory.Things.{Location, at_slot, in_cell, lies, things_of}
use Rattle.law_words_paths.specs.Below.coherent_memory.Follow.{Ground, value_in, value_behind, leads}
use Rattle.law_words_paths.specs.Below.coherent_memory.Stale.{is_among, Reference, references, holder_of, is_held_at, with_place, one_star_less, lent_places, changed_above, stale_above, taken_above}
use Rattle.law_words_paths.specs.Below.coherent_memory.Sight.{Pointer, pointers_in, taken_object, taken_pointers, sight}
use Rattle.law_words_paths.specs.Below.coherent_memory.Placing.{is_first, other_first, standing_in, standing_pointers}
use Rattle.law_words_paths.specs.Below.coherent_memory.Coherent.{Holds, first_at_holder}
use Rattle.law_words_paths.specs.Below.coherent_memory.Words.{all_pointers, IsStale, Fresh, HasWords, LeadsTo}
use Rattle.law_words_paths.specs.Below.coherent_memory.Dirty.{DirtyAlone, PastWords}
use Rattle.law_words_paths.proofs.Below.coherent_memory.Bags.{among_split}
use Rattle.law_words_paths.proofs.Below.coherent_memory.Words.{none_at, none_all}
use Rattle.law_words_paths.proofs.paths.Origins.{among_first, among_second}
use Rattle.law_words_paths.proofs.paths.Contained.{reference_there}
use Rattle.law_words_paths.specs.words.Reworded.{HasPlaces}
use Rattle.law_words_paths.specs.words.Unmoved.{seen_at, Taking, takings, Untouched, WordsStay, UnmovedStays, UntouchedStays}
use Rattle.law_words_paths.proofs.words.Standing.{tells, told_standing, stands_in, borrow_stands}
use Rattle.law_words_paths.proofs.words.Takings.{leads_pointing, reference_at, seen_pointer_at, first_at, seen_same, lent_by, taken_by, lents_are, takens_are, lent_listed, lent_told, taken_listed, taken_told}
use Rattle.law_words_paths.proofs.words.Follows.{seen_holders_lead, seen_places_lead}
use Rattle.law_words_paths.proofs.words.Grounds.{of_borrows}

-- FROM ONE CLUSTER TO THE OTHER

module _ (a b : Cluster) (c : HasPlaces a) (st : (l : Location) → seen_at l (value_in (sight b).ground l) ≡ seen_at l (value_in (sight a).ground l))
    (takes : (t : Taking) → Among t (takings a.code (sight a).ground.threads) → Among t (takings b.code (sight b).ground.threads)) where
  abbrev ga : Ground
  ga = (sight a).ground

  abbrev gb : Ground
  gb = (sight b).ground

  -- WHERE PLACES LEAD

  in_slots : (t u i : ℕ) → leads t (value_in gb (at_slot u i)) ≡ leads t (value_in ga (at_slot u i))
  in_slots t u i = sym (leads_pointing t (value_in gb (at_slot u i))) ∙ ap (leads t) (st (at_slot u i)) ∙ leads_pointing t (value_in ga (at_slot u i))

  in_cells : (t : ℕ) (o : ObjNo) → leads t (value_in gb (in_cell o)) ≡ leads t (value_in ga (in_cell o))
  in_cells t o = sym (leads_pointing t (value_in gb (in_cell o))) ∙ ap (leads t) (st (in_cell o)) ∙ leads_pointing t (value_in ga (in_cell o))

  held : (l : Location) (v : Lval) → holder_of gb l v ≡ holder_of ga l v
  held l v = seen_holders_lead ga gb in_slots in_cells l v

  less_same : (t slot d : ℕ) → one_star_less gb t slot d ≡ one_star_less ga t slot d
  less_same t slot zero = refl
  less_same t slot (suc d) = seen_places_lead ga gb in_slots in_cells t slot d

  lent : (l : Location) → is_among l (lent_places a.code ga ga.threads) ≡ true → is_among l (lent_places b.code gb gb.threads) ≡ true
  lent l e =
      let y = lent_told ga l (takings a.code ga.threads) (sym (ap (is_among l) (lents_are a.code ga ga.threads)) ∙ e) in
      let same : lent_by gb y.taking ≡ lent_by ga y.taking = less_same y.taking.thread y.taking.place.slot y.taking.place.depth in
      ap (is_among l) (lents_are b.code gb gb.threads) ∙ lent_listed gb l y.taking (takings b.code gb.threads) (takes y.taking y.among) (ap (λ m. is_among l (with_place m [])) same ∙ y.at)

  taken : (p : Pointer) → Among p (taken_pointers a.code ga ga.threads) → Among p (taken_pointers b.code gb gb.threads)
  taken p h =
      let y = taken_told ga p (takings a.code ga.threads) (subst (λ ps. Among p ps) (takens_are a.code ga ga.threads) h) in
      let same : taken_by gb y.taking ≡ taken_by ga y.taking = ap (taken_object y.taking.word) (seen_places_lead ga gb in_slots in_cells y.taking.thread y.taking.place.slot y.taking.place.depth) in
      subst (λ ps. Among p ps) (sym (takens_are b.code gb gb.threads)) (taken_listed gb p y.taking (takings b.code gb.threads) (takes y.taking y.among) (subst (λ ps. Among p ps) (sym same) y.pointer))

  -- REFERENCES, AND WHAT IS STALE

  pub reference : (q : Reference) → Among q (references ga (things_of a)) → Among q (references gb (things_of b))
  reference q m =
      let y = of_borrows ga q (things_of a) m in
      let stood : value_in ga q.at ≡ Some (value.Mut q.reference) = borrow_stands a c q.at q.reference y.among in
      let there = reference_there b q.at q.reference (reference_at q.at (value_in gb q.at) q.reference (st q.at ∙ ap (seen_at q.at) stood)) in
      let same : holder_of gb q.at q.reference.holder ≡ q.holder = held q.at q.reference.holder ∙ sym y.holder in
      subst (λ (h : Option Location). Among (record { at = q.at; holder = h; reference = q.reference }) (references gb (things_of b))) same there

  stale : (l : Location) → IsStale (sight a) (Some l) → IsStale (sight b) (Some l)
  stale l (changed_above q i h ch) = changed_above q (reference q i) h ch
  stale l (stale_above q i h s) = stale_above q (reference q i) h (stale q.at s)
  stale l (taken_above m) = taken_above (lent l m)

  pub stale_at : (l : Option Location) → IsStale (sight a) l → IsStale (sight b) l
  stale_at None s = s
  stale_at (Some l) s = stale l s

  -- POINTERS

  stood : (p : Pointer) (l : Location) → Among p (pointers_in (things_of a)) → p.at ≡ Some l → Among p (standing_in (things_of b))
  stood p l m e = let t = tells a c p l m e in told_standing b l t.value p (seen_pointer_at l (value_in gb l) t.value p (st l ∙ ap (seen_at l) t.stands) t.pointer) t.pointer

  pub all : ((p : Pointer) → p.at ≡ None → Among p (pointers_in (things_of a)) → Among p (pointers_in (things_of b))) → (p : Pointer) → Among p (all_pointers (sight a)) → Among p (all_pointers (sight b))
  all loose p m =
      ⊎_elim (λ (y : Among p (pointers_in (things_of a))). among_first p (pointers_in (things_of b)) (taken_pointers b.code gb gb.threads) (by p.at refl y))
      (λ (y : Among p (taken_pointers a.code ga ga.threads)). among_second p (pointers_in (things_of b)) (taken_pointers b.code gb gb.threads) (taken p y))
      (among_split p (pointers_in (things_of a)) (taken_pointers a.code ga ga.threads) m)
    where
      by : (l : Option Location) → p.at ≡ l → Among p (pointers_in (things_of a)) → Among p (pointers_in (things_of b))
      by None e y = loose p e y
      by (Some l) e y = stands_in p (things_of b) (stood p l y e)

  pub all_standing : ((p : Pointer) → p.at ≡ None → Among p (standing_in (things_of a)) → Among p (standing_in (things_of b))) → (p : Pointer) → Among p (standing_pointers (sight a)) → Among p (standing_pointers (sight b))
  all_standing loose p m =
      ⊎_elim (λ (y : Among p (standing_in (things_of a))). among_first p (standing_in (things_of b)) (taken_pointers b.code gb gb.threads) (by p.at refl y))
      (λ (y : Among p (taken_pointers a.code ga ga.threads)). among_second p (standing_in (things_of b)) (taken_pointers b.code gb gb.threads) (taken p y))
      (among_split p (standing_in (things_of a)) (taken_pointers a.code ga ga.threads) m)
    where
      by : (l : Option Location) → p.at ≡ l → Among p (standing_in (things_of a)) → Among p (standing_in (things_of b))
      by None e y = loose p e y
      by (Some l) e y = stood p l (stands_in p (things_of a) y) e

  -- the same, where some at no location may be others
  pub all_or : (C : Pointer → Type 0) → ((p : Pointer) → p.at ≡ None → Among p (pointers_in (things_of a)) → C p ⊎ Among p (pointers_in (things_of b))) → (p : Pointer) → Among p (all_pointers (sight a)) → C p ⊎ Among p (all_pointers (sight b))
  all_or C loose p m =
      ⊎_elim (λ (y : Among p (pointers_in (things_of a))). ⊎_elim (λ (x : C p). inl x) (λ (x : Among p (pointers_in (things_of b))). inr (among_first p (pointers_in (things_of b)) (taken_pointers b.code gb gb.threads) x)) (by p.at refl y))
      (λ (y : Among p (taken_pointers a.code ga ga.threads)). inr (among_second p (pointers_in (things_of b)) (taken_pointers b.code gb gb.threads) (taken p y)))
      (among_split p (pointers_in (things_of a)) (taken_pointers a.code ga ga.threads) m)
    where
      by : (l : Option Location) → p.at ≡ l → Among p (pointers_in (things_of a)) → C p ⊎ Among p (pointers_in (things_of b))
      by None e y = loose p e y
      by (Some l) e y = inr (stands_in p (things_of b) (stood p l y e))

  pub standing_or : (C : Pointer → Type 0) → ((p : Pointer) → p.at ≡ None → Among p (standing_in (things_of a)) → C p ⊎ Among p (standing_in (things_of b))) → (p : Pointer) → Among p (standing_pointers (sight a)) → C p ⊎ Among p (standing_pointers (sight b))
  standing_or C loose p m =
      ⊎_elim (λ (y : Among p (standing_in (things_of a))). ⊎_elim (λ (x : C p). inl x) (λ (x : Among p (standing_in (things_of b))). inr (among_first p (standing_in (things_of b)) (taken_pointers b.code gb gb.threads) x)) (by p.at refl y))
      (λ (y : Among p (taken_pointers a.code ga ga.threads)). inr (among_second p (standing_in (things_of b)) (taken_pointers b.code gb gb.threads) (taken p y)))
      (among_split p (standing_in (things_of a)) (taken_pointers a.code ga ga.threads) m)
    where
      by : (l : Option Location) → p.at ≡ l → Among p (standing_in (things_of a)) → C p ⊎ Among p (standing_in (things_of b))
      by None e y = loose p e y
      by (Some l) e y = inr (stood p l (stands_in p (things_of a) y) e)

-- ONWARDS AND BACK

module _ (k z : Cluster) (c : HasPlaces k) (d : HasPlaces z) (u : Untouched k z) where
  abbrev gk : Ground
  gk = (sight k).ground

  abbrev gz : Ground
  gz = (sight z).ground

  on_stale : (l : Option Location) → IsStale (sight k) l → IsStale (sight z) l
  on_stale l s = stale_at k z c u.stands u.took l s

  back_stale : (l : Option Location) → IsStale (sight z) l → IsStale (sight k) l
  back_stale l s = stale_at z k d (λ m. sym (u.stands m)) u.takes l s

  on_all : (p : Pointer) → Among p (all_pointers (sight k)) → Among p (all_pointers (sight z))
  on_all p m = all k z c u.stands u.took u.remain p m

  back_all : (p : Pointer) → Among p (all_pointers (sight z)) → Among p (all_pointers (sight k))
  back_all p m = all z k d (λ m. sym (u.stands m)) u.takes u.loose p m

  back_standing : (p : Pointer) → Among p (standing_pointers (sight z)) → Among p (standing_pointers (sight k))
  back_standing p m = all_standing z k d (λ m. sym (u.stands m)) u.takes u.standing p m

  back_reference : (q : Reference) → Among q (references gz (things_of z)) → Among q (references gk (things_of k))
  back_reference q m = reference z k d (λ m. sym (u.stands m)) u.takes q m

  module _ (b : HasWords (sight k)) where
    live : (r a : ℕ) (e : Cell) → Among (lies r a e) (things_of z) → Fresh (sight z) e.object
    live r a e m =
        let y = u.lay r a e m in
        let f = subst (λ q. Fresh (sight k) q) y.object (b.live r a y.cell y.among) in
        record { pointer = f.pointer; among = on_all f.pointer f.among; object = f.object; fresh = λ s. f.fresh (back_stale f.pointer.at s) }

    home : (r a : ℕ) (e : Cell) → Among (lies r a e) (things_of z) → LeadsTo r a (b.word e.object)
    home r a e m = let y = u.lay r a e m in subst (λ q. LeadsTo r a (b.word q)) y.object (b.home r a y.cell y.among)

    same : (p : Pointer) → Among p (all_pointers (sight z)) → IsStale (sight z) p.at ⊎ (p.word ≡ b.word p.object)
    same p m = ⊎_elim (λ (s : IsStale (sight k) p.at). inl (on_stale p.at s)) (λ (e : p.word ≡ b.word p.object). inr e) (b.same p (back_all p m))

    pub words_stay : WordsStay (sight k) (sight z) b
    words_stay = record { after = record { word = b.word; same = same; live = live; home = home }; same = λ p. refl }

  behind : (r : MutRef) (m : Option Location) → is_first r (value_behind gz m) ≡ is_first r (value_behind gk m)
  behind r None = refl
  behind r (Some l) = sym (first_at r l (value_in gz l)) ∙ ap (is_first r) (u.stands l) ∙ first_at r l (value_in gk l)

  pub holders_stay : Holds k first_at_holder → Holds z first_at_holder
  holders_stay f = none_all (other_first gz) (references gz (things_of z)) (λ q m. ap other (behind q.reference q.holder) ∙ none_at (other_first gk) q (references gk (things_of k)) f (back_reference q m))

  pub dirty_stays : DirtyAlone (sight k) → DirtyAlone (sight z)
  dirty_stays f q m e n =
      let y = f q (back_reference q m) e (λ s. n (on_stale (Some q.at) s)) in record {
        unlent = λ g i h. y.unlent g (back_reference g i) h;
        sole = λ p i h. ⊎_elim (λ (s : IsStale (sight k) p.at). inl (on_stale p.at s)) (λ (s : is_held_at q.at p.at ≡ true). inr s) (y.sole p (back_standing p i) h);
      }

  pub past_stays : PastWords (sight k) → PastWords (sight z)
  past_stays f q i n p m fresh e = f q (back_reference q i) n p (back_all p m) (λ s. fresh (on_stale p.at s)) e

pub untouched_stays : UntouchedStays
untouched_stays k z c d u = record { words = λ b. words_stay k z c d u b; holders = holders_stay k z c d u; dirty = dirty_stays k z c d u; past = past_stays k z c d u }

pub unmoved_stays : UnmovedStays
unmoved_stays k z c d u =
    untouched_stays k z c d
    (record {
      stands = λ l. seen_same l (value_in (sight z).ground l) (value_in (sight k).ground l) (u.stands l);
      takes = u.takes;
      took = u.took;
      loose = u.loose;
      remain = u.remain;
      standing = u.standing;
      lay = u.lay;
    })
