-- Where one pointer gets another word, each other object is what it was, but for the one in whose cell that pointer stands.
use Rattle.std.proofs.Common.{◌≡◌, ◌⊎◌, inl, inr, ⊎_elim, true, false, Option, Some, None, ℕ, refl, sym, ap, subst, ◌∙◌}
use Rattle.law_words_ends.specs.Below.fr_base.declared.name.ObjNo.{ObjNo}
use Rattle.law_words_ends.specs.Below.heap_partition.declared.value.Cell.{Cell}
use Rattle.law_words_ends.specs.Below.mut_borrow.declared.mutable.MutRef.{MutRef}
use Rattle.law_words_ends.specs.Below.thread_state.declared.value.Value.{Value}
use Rattle.law_words_ends.specs.Below.thread_state.declared.value.Value.TheVariants as value
use Rattle.law_words_ends.specs.Below.server_model.Servers.{Cluster}
use Rattle.law_words_ends.specs.Below.coherent_memory.Names.{Among}
use Rattle.law_words_ends.specs.Below.coherent_memory.Things.{Location, in_cell, things_of}
use Rattle.law_words_ends.specs.Below.coherent_memory.Follow.{cell_of, cells_in, value_in, value_of}
use Rattle.law_words_ends.specs.Below.coherent_memory.Passing.{NotCopied}
use Rattle.law_words_ends.specs.Below.coherent_memory.Stale.{holder_of}
use Rattle.law_words_ends.specs.Below.coherent_memory.Sight.{is_object_among, sight, issued}
use Rattle.law_words_ends.specs.Below.coherent_memory.Words.{IsStale, HasWords}
use Rattle.law_words_ends.proofs.Below.law_words_paths.paths.Contained.{reference_there}
use Rattle.law_words_ends.specs.Below.law_words_paths.words.WordsAfter.{Rewrites, WordsAfter}
use Rattle.law_words_ends.proofs.Below.law_words_paths.words.Standing.{cell_among}
use Rattle.law_words_ends.proofs.Below.law_words_paths.words.Words.{words_go_on}
use Rattle.law_copies_kept.proofs.copies.Clean.{thing_cell}
use Rattle.law_copies_kept.proofs.references.Worded.{dirty_found, objects_differ}
use Rattle.law_copies_kept.proofs.objects.Turned.{Unasked, Same}
use Rattle.law_copies_kept.proofs.hidden.Under.{none_under}
use Rattle.law_copies_kept.proofs.hidden.Reworded.{cell_by_value, others_marked, NotAsked}
use Rattle.law_copies_kept.proofs.hidden.Settled.{by_word, by_mark, uncopied, Covered, Settled}

-- where something stands in an object, that has a cell
pub cell_standing : (k : Cluster) (o : ObjNo) (v : Value) → value_in (sight k).ground (in_cell o) ≡ Some v → (c : Cell) × (c.object ≡ o) × Among c (cells_in (things_of k))
cell_standing k o v e = by (cell_of (cells_in (things_of k)) o) refl e
  where
    by : (c : Option Cell) → cell_of (cells_in (things_of k)) o ≡ c → value_of c ≡ Some v → (d : Cell) × (d.object ≡ o) × Among d (cells_in (things_of k))
    by None f g = absurd (cc g)
    by (Some d) f g = let i = cell_among o d (things_of k) f in (d, i.object, thing_cell (things_of k) d i.thing i.is i.among)

-- OTHER OBJECTS

module _ (x z : Cluster) (l : Location) (o : ObjNo) (w : ℕ) (rw : Rewrites x z l o w) (before : HasWords (sight x)) where
  abbrev pub after : WordsAfter (sight x) (sight z) o w before
  after = words_go_on x z l o w rw before

  -- it is what it was, where that pointer doesn't stand in it
  pub beyond : (p : ObjNo) → (p ≡ o → ⊥) → (in_cell p ≡ l → ⊥) → Same x z before after.after p
  beyond p other apart = record {
    word = after.others p other;
    on = λ c e m. cell_by_value x z rw.before c (rw.reworded.elsewhere (in_cell c.object) (λ s. apart (ap in_cell (sym e) ∙ s))) m;
    back = λ c e m. cell_by_value z x rw.places c (sym (rw.reworded.elsewhere (in_cell c.object) (λ s. apart (ap in_cell (sym e) ∙ s)))) m;
    dirty = others_marked x z l o w rw p other;
  }

-- what is the same twice is the same
same_twice : {k y z : Cluster} {before : HasWords (sight k)} {mid : HasWords (sight y)} {after : HasWords (sight z)} (p : ObjNo) → Same k y before mid p → Same y z mid after p → Same k z before after p
same_twice p a b = record {
  word = b.word ∙ a.word;
  on = λ c o m. b.on c o (a.on c o m);
  back = λ c o m. a.back c o (b.back c o m);
  dirty = b.dirty ∙ a.dirty;
}

-- A POINTER THAT STANDS IN NO CELL GETS A WORD THAT WASN'T ISSUED

-- no copy is asked for of the object
pub none_wanted : (k : Cluster) (before : HasWords (sight k)) (p : ObjNo) → Unasked k (before.word p) → NotAsked k before p
none_wanted k before p u c o m = inr u

module _ (k z : Cluster) (before : HasWords (sight k)) (l : Location) (o : ObjNo) (w : ℕ) (rw : Rewrites k z l o w) (fresh : issued (sight k) w ≡ false) (wanted : NotAsked k before o) where
  abbrev words : WordsAfter (sight k) (sight z) o w before
  words = words_go_on k z l o w rw before

  -- the object is under its new word
  lands : (p : ObjNo) → p ≡ o → Covered k z before words.after p
  lands p e = record { covers = λ c i m. by_word (ap (issued (sight k)) (ap words.after.word e ∙ words.new) ∙ fresh); unasked = subst (NotAsked k before) (sym e) wanted }

  -- and all others are what they were
  pub lands_apart : ((p : ObjNo) → in_cell p ≡ l → ⊥) → Settled k z before
  lands_apart apart = record {
    after = words.after;
    each = λ p. ⊎_elim (λ (e : p ≡ o). inr (lands p e)) (λ (n : p ≡ o → ⊥). inl (beyond k z l o w rw before p n (apart p))) (objects_differ p o);
  }

-- ONE THAT STANDS IN A CELL GETS IT

same_place_cell : {p d : ObjNo} → in_cell p ≡ in_cell d → p ≡ d
same_place_cell e = cc

module _ (k z : Cluster) (before : HasWords (sight k)) (d o : ObjNo) (w : ℕ) (rw : Rewrites k z (in_cell d) o w) (fresh : issued (sight k) w ≡ false) (wanted : NotAsked k before o) (apart : d ≡ o → ⊥) where
  abbrev words_z : WordsAfter (sight k) (sight z) o w before
  words_z = words_go_on k z (in_cell d) o w rw before

  -- the object in whose cell it stands has the word that it had
  pub keeps_word : words_z.after.word d ≡ before.word d
  keeps_word = words_z.others d apart

  -- no copy is under that word
  pub lands_in_box : NotCopied (sight k) (before.word d) → Unasked k (before.word d) → Settled k z before
  lands_in_box none unasked = record { after = words_z.after; each = λ p. by p (objects_differ p o) (objects_differ p d) }
    where
      box : Covered k z before words_z.after d
      box = record { covers = λ c i m. uncopied (none_under k (words_z.after.word d) (subst (λ v. NotCopied (sight k) v) (sym keeps_word) none) (subst (Unasked k) (sym keeps_word) unasked)); unasked = none_wanted k before d unasked }

      by : (p : ObjNo) → (p ≡ o) ⊎ (p ≡ o → ⊥) → (p ≡ d) ⊎ (p ≡ d → ⊥) → Same k z before words_z.after p ⊎ Covered k z before words_z.after p
      by p (inl e) q = inr (lands k z before (in_cell d) o w rw fresh wanted p e)
      by p (inr n) (inl e) = inr (subst (Covered k z before words_z.after) (sym e) box)
      by p (inr n) (inr m) = inl (beyond k z (in_cell d) o w rw before p n (λ e. m (same_place_cell e)))

-- AND THE REFERENCE IN A SLOT THAT LED THERE IS MARKED

module _ (k x z : Cluster) (before : HasWords (sight k)) (d o : ObjNo) (w v : ℕ) (m : Location) (first : Rewrites k x (in_cell d) o w) (fresh : issued (sight k) w ≡ false) (wanted : NotAsked k before o) (apart : d ≡ o → ⊥) (second : Rewrites x z m d v) (no_cell : (p : ObjNo) → in_cell p ≡ m → ⊥)
    (stays : v ≡ (words_go_on k x (in_cell d) o w first before).after.word d) (r : MutRef) (stands : value_in (sight z).ground m ≡ Some (value.Mut r)) (object : r.object ≡ d) (dirty : r.dirty ≡ true) (awake : IsStale (sight z) (Some m) → ⊥) (none : NotAsked k before d) where
  abbrev words_x : WordsAfter (sight k) (sight x) o w before
  words_x = words_go_on k x (in_cell d) o w first before

  abbrev words_end : WordsAfter (sight x) (sight z) d v words_x.after
  words_end = words_go_on x z m d v second words_x.after

  is_dirty : is_object_among d (sight z).dirty ≡ true
  is_dirty = dirty_found z r d (record { reference = record { at = m; holder = holder_of (sight z).ground m r.holder; reference = r }; among = reference_there z m r stands; same = refl; fresh = awake }) object dirty

  written : Covered k z before words_end.after d
  written =
      let c = cell_standing k d first.reworded.old first.reworded.stood in
      record { covers = λ e i q. by_mark is_dirty (words_end.new ∙ stays ∙ words_x.others d apart) c.0 c.1 c.2; unasked = none }

  others : (p : ObjNo) → (p ≡ d → ⊥) → Same x z words_x.after words_end.after p
  others p n = beyond x z m d v second words_x.after p n (no_cell p)

  pub lands_through : Settled k z before
  lands_through = record { after = words_end.after; each = λ p. by p (objects_differ p d) (objects_differ p o) }
    where
      new_one : (p : ObjNo) → p ≡ o → (p ≡ d → ⊥) → Covered k z before words_end.after p
      new_one p e n = record { covers = λ c i m. by_word (ap (issued (sight k)) (words_end.others p n ∙ ap words_x.after.word e ∙ words_x.new) ∙ fresh); unasked = subst (NotAsked k before) (sym e) wanted }

      by : (p : ObjNo) → (p ≡ d) ⊎ (p ≡ d → ⊥) → (p ≡ o) ⊎ (p ≡ o → ⊥) → Same k z before words_end.after p ⊎ Covered k z before words_end.after p
      by p (inl e) q = inr (subst (Covered k z before words_end.after) (sym e) written)
      by p (inr n) (inl e) = inr (new_one p e n)
      by p (inr n) (inr q) = inl (same_twice p (beyond k x (in_cell d) o w first before p q (λ e. n (same_place_cell e))) (others p n))
