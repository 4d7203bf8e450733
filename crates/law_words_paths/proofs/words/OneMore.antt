-- A pointer more, with its object's word, leaves the words.
use Rattle.std.proofs.Common.{◌≡◌, ◌≢◌, ◌⊎◌, inl, inr, ⊎_elim, ℕ, true, Option, Some, None, refl, sym, ap, subst, ◌∙◌}
use Rattle.law_words_paths.specs.Below.heap_partition.declared.value.Cell.{Cell}
use Rattle.law_words_paths.specs.Below.mut_borrow.declared.mutable.MutRef.{MutRef}
use Rattle.law_words_paths.specs.Below.server_model.Servers.{Cluster}
use Rattle.law_words_paths.specs.Below.coherent_memory.Names.{Among, other}
use Rattle.law_words_paths.specs.Below.coherent_memory.Things.{Location, lies, things_of}
use Rattle.law_words_paths.specs.Below.coherent_memory.Follow.{Ground, value_in, value_behind}
use Rattle.law_words_paths.specs.Below.coherent_memory.Stale.{Reference, references, is_held_at}
use Rattle.law_words_paths.specs.Below.coherent_memory.Sight.{Pointer, sight}
use Rattle.law_words_paths.specs.Below.coherent_memory.Placing.{is_first, other_first, standing_pointers}
use Rattle.law_words_paths.specs.Below.coherent_memory.Coherent.{Holds, first_at_holder}
use Rattle.law_words_paths.specs.Below.coherent_memory.Words.{all_pointers, IsStale, Fresh, HasWords, LeadsTo}
use Rattle.law_words_paths.specs.Below.coherent_memory.Dirty.{DirtyAlone, PastWords}
use Rattle.law_words_paths.proofs.Below.coherent_memory.Words.{none_at, none_all}
use Rattle.law_words_paths.specs.words.Reworded.{HasPlaces}
use Rattle.law_words_paths.specs.words.Unmoved.{WordsStay}
use Rattle.law_words_paths.specs.words.OneMore.{IsClean, OneMore, OneMoreStays}
use Rattle.law_words_paths.proofs.words.Takings.{first_at}
use Rattle.law_words_paths.proofs.words.Unmoved.{reference, stale_at, all, all_or, standing_or}

module _ (k z : Cluster) (p : Pointer) (c : HasPlaces k) (d : HasPlaces z) (u : OneMore k z p) where
  abbrev gk : Ground
  gk = (sight k).ground

  abbrev gz : Ground
  gz = (sight z).ground

  on_stale : (l : Option Location) → IsStale (sight k) l → IsStale (sight z) l
  on_stale l s = stale_at k z c u.stands u.took l s

  back_stale : (l : Option Location) → IsStale (sight z) l → IsStale (sight k) l
  back_stale l s = stale_at z k d (λ m. sym (u.stands m)) u.takes l s

  on_all : (q : Pointer) → Among q (all_pointers (sight k)) → Among q (all_pointers (sight z))
  on_all q m = all k z c u.stands u.took u.remain q m

  back_all : (q : Pointer) → Among q (all_pointers (sight z)) → (p ≡ q) ⊎ Among q (all_pointers (sight k))
  back_all q m = all_or z k d (λ l. sym (u.stands l)) u.takes (λ x. p ≡ x) u.loose q m

  back_standing : (q : Pointer) → Among q (standing_pointers (sight z)) → IsClean k q.object ⊎ Among q (standing_pointers (sight k))
  back_standing q m = standing_or z k d (λ l. sym (u.stands l)) u.takes (λ x. IsClean k x.object) u.standing q m

  back_reference : (q : Reference) → Among q (references gz (things_of z)) → Among q (references gk (things_of k))
  back_reference q m = reference z k d (λ m. sym (u.stands m)) u.takes q m

  module _ (b : HasWords (sight k)) where
    its_word : p.word ≡ b.word p.object
    its_word = sym u.beside.word ∙ ⊎_elim (λ (s : IsStale (sight k) u.beside.pointer.at). absurd (u.beside.fresh s)) (λ (e : u.beside.pointer.word ≡ b.word u.beside.pointer.object). e) (b.same u.beside.pointer u.beside.among) ∙ ap b.word u.beside.object

    live : (r a : ℕ) (e : Cell) → Among (lies r a e) (things_of z) → Fresh (sight z) e.object
    live r a e m =
        let y = u.lay r a e m in
        let f = subst (λ q. Fresh (sight k) q) y.object (b.live r a y.cell y.among) in
        record { pointer = f.pointer; among = on_all f.pointer f.among; object = f.object; fresh = λ s. f.fresh (back_stale f.pointer.at s) }

    home : (r a : ℕ) (e : Cell) → Among (lies r a e) (things_of z) → LeadsTo r a (b.word e.object)
    home r a e m = let y = u.lay r a e m in subst (λ q. LeadsTo r a (b.word q)) y.object (b.home r a y.cell y.among)

    same : (q : Pointer) → Among q (all_pointers (sight z)) → IsStale (sight z) q.at ⊎ (q.word ≡ b.word q.object)
    same q m =
        ⊎_elim (λ (e : p ≡ q). inr (subst (λ (x : Pointer). x.word ≡ b.word x.object) e its_word))
        (λ (y : Among q (all_pointers (sight k))). ⊎_elim (λ (s : IsStale (sight k) q.at). inl (on_stale q.at s)) (λ (e : q.word ≡ b.word q.object). inr e) (b.same q y)) (back_all q m)

    words_stay : WordsStay (sight k) (sight z) b
    words_stay = record { after = record { word = b.word; same = same; live = live; home = home }; same = λ q. refl }

  behind : (r : MutRef) (m : Option Location) → is_first r (value_behind gz m) ≡ is_first r (value_behind gk m)
  behind r None = refl
  behind r (Some l) = sym (first_at r l (value_in gz l)) ∙ ap (is_first r) (u.stands l) ∙ first_at r l (value_in gk l)

  holders_stay : Holds k first_at_holder → Holds z first_at_holder
  holders_stay f = none_all (other_first gz) (references gz (things_of z)) (λ q m. ap other (behind q.reference q.holder) ∙ none_at (other_first gk) q (references gk (things_of k)) f (back_reference q m))

  dirty_stays : DirtyAlone (sight k) → DirtyAlone (sight z)
  dirty_stays f q m e n =
      let fresh : IsStale (sight k) (Some q.at) → ⊥ = λ s. n (on_stale (Some q.at) s) in
      let y = f q (back_reference q m) e fresh in record {
        unlent = λ g i h. y.unlent g (back_reference g i) h;
        sole = λ x i h. ⊎_elim (λ (s : IsClean k x.object). absurd (s q (back_reference q m) e fresh (sym h)))
            (λ (w : Among x (standing_pointers (sight k))). ⊎_elim (λ (s : IsStale (sight k) x.at). inl (on_stale x.at s)) (λ (s : is_held_at q.at x.at ≡ true). inr s) (y.sole x w h)) (back_standing x i);
      }

  past_stays : PastWords (sight k) → PastWords (sight z)
  past_stays f q i n x m fresh e = first q (back_reference q i) n x (back_all x m) fresh e
    where
      first : (q : Reference) → Among q (references gk (things_of k)) → q.reference.word ≢ q.reference.first → (x : Pointer) → (p ≡ x) ⊎ Among x (all_pointers (sight k)) → (IsStale (sight z) x.at → ⊥) → x.object ≡ q.reference.object → x.word ≢ q.reference.first
      first q i n x (inl s) fresh e g =
          f q i n u.beside.pointer u.beside.among u.beside.fresh (u.beside.object ∙ ap (λ (a : Pointer). a.object) s ∙ e) (u.beside.word ∙ ap (λ (a : Pointer). a.word) s ∙ g)
      first q i n x (inr m) fresh e g = f q i n x m (λ s. fresh (on_stale x.at s)) e g

pub one_more_stays : OneMoreStays
one_more_stays k z p c d u = record { words = λ b. words_stay k z p c d u b; holders = holders_stay k z p c d u; dirty = dirty_stays k z p c d u; past = past_stays k z p c d u }
