-- Where pointers at no location go and nothing else changes that words see, the words stay.
use Rattle.std.proofs.Common.{◌≡◌, ◌⊎◌, inl, inr, ⊎_elim, ℕ, true, Option, Some, None, refl, sym, ap, subst, ◌∙◌}
use Rattle.law_words_values.specs.Below.fr_base.declared.name.ObjNo.{ObjNo}
use Rattle.law_words_values.specs.Below.fr_base.declared.place.Lval.{Lval}
use Rattle.law_words_values.specs.Below.heap_partition.declared.value.Cell.{Cell}
use Rattle.law_words_values.specs.Below.mut_borrow.declared.mutable.MutRef.{MutRef}
use Rattle.law_words_values.specs.Below.server_model.Servers.{Cluster}
use Rattle.law_words_values.specs.Below.thread_state.declared.value.Value.TheVariants as value
use Rattle.law_words_values.specs.Below.coherent_memory.Names.{Among, other}
use Rattle.law_words_values.specs.Below.coherent_memory.Things.{Location, at_slot, in_cell, lies, things_of}
use Rattle.law_words_values.specs.Below.coherent_memory.Follow.{Ground, value_in, value_behind, leads}
use Rattle.law_words_values.specs.Below.coherent_memory.Stale.{Reference, references, holder_of, is_held_at}
use Rattle.law_words_values.specs.Below.coherent_memory.Sight.{Pointer, sight}
use Rattle.law_words_values.specs.Below.coherent_memory.Placing.{is_first, other_first, standing_pointers}
use Rattle.law_words_values.specs.Below.coherent_memory.Coherent.{Holds, first_at_holder}
use Rattle.law_words_values.specs.Below.coherent_memory.Words.{all_pointers, IsStale, HasWords, LeadsTo}
use Rattle.law_words_values.specs.Below.coherent_memory.Dirty.{DirtyAlone, PastWords}
use Rattle.law_words_values.proofs.Below.coherent_memory.Words.{none_at, none_all}
use Rattle.law_words_values.specs.Below.law_words_paths.words.Reworded.{HasPlaces}
use Rattle.law_words_values.specs.Below.law_words_paths.words.Unmoved.{seen_at, WordsStay}
use Rattle.law_words_values.proofs.Below.law_words_paths.words.Follows.{seen_holders_lead}
use Rattle.law_words_values.proofs.Below.law_words_paths.words.Takings.{leads_pointing, reference_at, first_at}
use Rattle.law_words_values.proofs.Below.law_words_paths.words.Unmoved.{reference, stale_at, all, all_standing}
use Rattle.law_words_values.specs.references.Fewer.{IsRanked, Fewer, FewerStays}
use Rattle.law_words_values.proofs.references.FreshOwners.{fresh_owner}

-- where locations show the same, holders are where they were
module _ (k z : Cluster) (st : (l : Location) → seen_at l (value_in (sight z).ground l) ≡ seen_at l (value_in (sight k).ground l)) where
  abbrev gk : Ground
  gk = (sight k).ground

  abbrev gz : Ground
  gz = (sight z).ground

  pub slots_lead : (t u i : ℕ) → leads t (value_in gz (at_slot u i)) ≡ leads t (value_in gk (at_slot u i))
  slots_lead t u i = sym (leads_pointing t (value_in gz (at_slot u i))) ∙ ap (leads t) (st (at_slot u i)) ∙ leads_pointing t (value_in gk (at_slot u i))

  pub cells_lead : (t : ℕ) (o : ObjNo) → leads t (value_in gz (in_cell o)) ≡ leads t (value_in gk (in_cell o))
  cells_lead t o = sym (leads_pointing t (value_in gz (in_cell o))) ∙ ap (leads t) (st (in_cell o)) ∙ leads_pointing t (value_in gk (in_cell o))

  pub holders_lead : (l : Location) (w : Lval) → holder_of gz l w ≡ holder_of gk l w
  holders_lead l w = seen_holders_lead gk gz slots_lead cells_lead l w

  pub reference_was : (l : Location) (r : MutRef) → value_in gz l ≡ Some (value.Mut r) → value_in gk l ≡ Some (value.Mut r)
  reference_was l r e = reference_at l (value_in gk l) r (sym (st l) ∙ ap (seen_at l) e)

  pub ranked_on : IsRanked k → IsRanked z
  ranked_on y = record { rank = y.rank; above = λ l h r e w. y.above l h r (reference_was l r e) (sym (holders_lead l r.holder) ∙ w) }

module _ (k z : Cluster) (c : HasPlaces k) (d : HasPlaces z) (firsts : Holds k first_at_holder) (ranked : IsRanked k) (u : Fewer k z) where
  abbrev hk : Ground
  hk = (sight k).ground

  abbrev hz : Ground
  hz = (sight z).ground

  on_stale : (l : Option Location) → IsStale (sight k) l → IsStale (sight z) l
  on_stale l s = stale_at k z c u.stands u.took l s

  back_all : (p : Pointer) → Among p (all_pointers (sight z)) → Among p (all_pointers (sight k))
  back_all p m = all z k d (λ m. sym (u.stands m)) u.takes u.loose p m

  back_standing : (p : Pointer) → Among p (standing_pointers (sight z)) → Among p (standing_pointers (sight k))
  back_standing p m = all_standing z k d (λ m. sym (u.stands m)) u.takes u.standing p m

  back_reference : (q : Reference) → Among q (references hz (things_of z)) → Among q (references hk (things_of k))
  back_reference q m = reference z k d (λ m. sym (u.stands m)) u.takes q m

  behind : (r : MutRef) (m : Option Location) → is_first r (value_behind hz m) ≡ is_first r (value_behind hk m)
  behind r None = refl
  behind r (Some l) = sym (first_at r l (value_in hz l)) ∙ ap (is_first r) (u.stands l) ∙ first_at r l (value_in hk l)

  holders_stay : Holds k first_at_holder → Holds z first_at_holder
  holders_stay f = none_all (other_first hz) (references hz (things_of z)) (λ q m. ap other (behind q.reference q.holder) ∙ none_at (other_first hk) q (references hk (things_of k)) f (back_reference q m))

  module _ (b : HasWords (sight k)) where
    home : (r a : ℕ) (e : Cell) → Among (lies r a e) (things_of z) → LeadsTo r a (b.word e.object)
    home r a e m = let y = u.lay r a e m in subst (λ q. LeadsTo r a (b.word q)) y.object (b.home r a y.cell y.among)

    same : (p : Pointer) → Among p (all_pointers (sight z)) → IsStale (sight z) p.at ⊎ (p.word ≡ b.word p.object)
    same p m = ⊎_elim (λ (s : IsStale (sight k) p.at). inl (on_stale p.at s)) (λ (e : p.word ≡ b.word p.object). inr e) (b.same p (back_all p m))

    words_stay : WordsStay (sight k) (sight z) b
    words_stay = record { after = record { word = b.word; same = same; live = λ r a e m. fresh_owner z d (holders_stay firsts) (ranked_on k z u.stands ranked) r a e m; home = home }; same = λ p. refl }

  dirty_stays : DirtyAlone (sight k) → DirtyAlone (sight z)
  dirty_stays f q m e n =
      let y = f q (back_reference q m) e (λ s. n (on_stale (Some q.at) s)) in record {
        unlent = λ g i h. y.unlent g (back_reference g i) h;
        sole = λ p i h. ⊎_elim (λ (s : IsStale (sight k) p.at). inl (on_stale p.at s)) (λ (s : is_held_at q.at p.at ≡ true). inr s) (y.sole p (back_standing p i) h);
      }

  past_stays : PastWords (sight k) → PastWords (sight z)
  past_stays f q i n p m fresh e = f q (back_reference q i) n p (back_all p m) (λ s. fresh (on_stale p.at s)) e

pub fewer_stays : FewerStays
fewer_stays k z c d firsts ranked u = record {
  words = λ b. words_stay k z c d firsts ranked u b;
  holders = holders_stay k z c d firsts ranked u;
  dirty = dirty_stays k z c d firsts ranked u;
  past = past_stays k z c d firsts ranked u;
}
