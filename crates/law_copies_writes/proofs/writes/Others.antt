-- A covered object's cell gets a value or gives it away: each other object stays what it was, or covered.
use Rattle.std.proofs.Common.{◌≡◌, ◌⊎◌, inl, inr, ⊎_elim, Option, sym, ap, subst, ◌∙◌}
use Rattle.law_counts_waiting.specs.Below.fr_base.declared.name.ObjNo.{ObjNo}
use Rattle.law_counts_waiting.specs.Below.heap_partition.declared.value.Cell.{Cell}
use Rattle.law_counts_waiting.specs.Below.server_model.Servers.{Cluster}
use Rattle.law_counts_waiting.specs.Below.coherent_memory.Names.{Among}
use Rattle.law_counts_waiting.specs.Below.coherent_memory.Things.{Location, in_cell, things_of}
use Rattle.law_counts_waiting.specs.Below.coherent_memory.Follow.{cells_in, value_in}
use Rattle.law_counts_waiting.specs.Below.coherent_memory.Sight.{is_object_among, sight, issued}
use Rattle.law_counts_waiting.specs.Below.coherent_memory.Words.{HasWords}
use Rattle.law_counts_waiting.specs.Below.coherent_memory.Coherent.{Holds, first_at_holder}
use Rattle.law_words_ends.specs.Below.law_words_paths.words.Reworded.{HasPlaces}
use Rattle.law_words_ends.specs.Below.law_words_paths.words.Unmoved.{LeavesWords}
use Rattle.law_words_ends.specs.Below.law_words_values.carried.Carried.{Carried}
use Rattle.law_words_ends.proofs.Below.law_words_values.carried.Carrying.{fresh_on, fresh_back}
use Rattle.law_copies_kept.proofs.copies.Clean.{ChangedGo, changed_chain, KeepsClean}
use Rattle.law_copies_kept.proofs.references.Worded.{objects_differ}
use Rattle.law_copies_kept.proofs.objects.Turned.{Same, dirty_kept}
use Rattle.law_copies_kept.specs.hidden.Hidden.{NoneUnder}
use Rattle.law_copies_kept.proofs.hidden.Settled.{Covers, by_word, by_mark, uncopied, Covered, Settled}
use Rattle.law_copies_kept.proofs.hidden.Reworded.{IsCovered, NotAsked, cell_by_value}

-- cells of other objects and changed references stay
pub record KeepsOthers (o : ObjNo) (a b : Cluster) : Type 0 where
  pub on : (c : Cell) → (c.object ≡ o → ⊥) → Among c (cells_in (things_of a)) → Among c (cells_in (things_of b))
  pub back : (c : Cell) → (c.object ≡ o → ⊥) → Among c (cells_in (things_of b)) → Among c (cells_in (things_of a))
  pub changed_on : ChangedGo a b
  pub changed_back : ChangedGo b a

pub others_chain : (o : ObjNo) (a b c : Cluster) → KeepsOthers o a b → KeepsOthers o b c → KeepsOthers o a c
others_chain o a b c p q = record {
  on = λ x f m. q.on x f (p.on x f m);
  back = λ x f m. p.back x f (q.back x f m);
  changed_on = changed_chain a b c p.changed_on q.changed_on;
  changed_back = changed_chain c b a q.changed_back p.changed_back;
}

pub others_clean : (o : ObjNo) (a b : Cluster) → KeepsClean a b → KeepsOthers o a b
others_clean o a b k = record { on = λ x f m. k.on x m; back = λ x f m. k.back x m; changed_on = k.changed_on; changed_back = k.changed_back }

-- where one value goes from a place to another, and cells of others stand where they did
pub others_carried : (o : ObjNo) (a b : Cluster) (f g : Option Location) → HasPlaces a → HasPlaces b → Holds a first_at_holder → ((p : ObjNo) → (p ≡ o → ⊥) → value_in (sight b).ground (in_cell p) ≡ value_in (sight a).ground (in_cell p)) → Carried a b f g → KeepsOthers o a b
others_carried o a b f g c d firsts same u = record {
  on = λ x away m. cell_by_value a b c x (same x.object away) m;
  back = λ x away m. cell_by_value b a d x (sym (same x.object away)) m;
  changed_on = λ q m n. let y = fresh_on a b f g c d firsts u q m n in record { reference = y.0; among = y.1; same = y.2; fresh = y.3 };
  changed_back = λ q m n. let y = fresh_back a b f g c d firsts u q m n in record { reference = y.0; among = y.1; same = y.2; fresh = y.3 };
}

-- so each object is what it was, or covered, where words and marks stay, and cells but those of one object, if that is covered
module _ (k a b : Cluster) (before : HasWords (sight k)) (s : Settled k a before) (leaves : LeavesWords a b) (same_mark : (p : ObjNo) → is_object_among p (sight b).dirty ≡ is_object_among p (sight a).dirty) where
  abbrev now : HasWords (sight b)
  now = (leaves.words s.after).after

  same_word : (p : ObjNo) → now.word p ≡ (s.after).word p
  same_word p = (leaves.words s.after).same p

  covers_so : (p : ObjNo) → Covers k a before s.after p → Covers k b before now p
  covers_so p (by_word q) = by_word (ap (issued (sight k)) (same_word p) ∙ q)
  covers_so p (by_mark q w x e m) = by_mark (same_mark p ∙ q) (same_word p ∙ w) x e m
  covers_so p (uncopied q) = uncopied (subst (NoneUnder k) (sym (same_word p)) q)

  -- with its cell
  one_settles : (p : ObjNo) → ((c : Cell) → c.object ≡ p → Among c (cells_in (things_of a)) → Among c (cells_in (things_of b))) → ((c : Cell) → c.object ≡ p → Among c (cells_in (things_of b)) → Among c (cells_in (things_of a)))
      → Same k a before s.after p ⊎ Covered k a before s.after p → Same k b before now p ⊎ Covered k b before now p
  one_settles p on back (inl m) = inl (record { word = same_word p ∙ m.word; on = λ x e i. on x e (m.on x e i); back = λ x e i. m.back x e (back x e i); dirty = same_mark p ∙ m.dirty })
  one_settles p on back (inr h) = inr (record { covers = λ x e i. covers_so p (h.covers x e (back x e i)); unasked = h.unasked })

  -- all cells stay
  pub settled_marks : ((c : Cell) → Among c (cells_in (things_of a)) → Among c (cells_in (things_of b))) → ((c : Cell) → Among c (cells_in (things_of b)) → Among c (cells_in (things_of a))) → Settled k b before
  settled_marks on back = record { after = now; each = λ p. one_settles p (λ x e i. on x i) (λ x e i. back x i) (s.each p) }

  -- or those of others
  pub settled_beside : (o : ObjNo) → ((c : Cell) → (c.object ≡ o → ⊥) → Among c (cells_in (things_of a)) → Among c (cells_in (things_of b))) → ((c : Cell) → (c.object ≡ o → ⊥) → Among c (cells_in (things_of b)) → Among c (cells_in (things_of a))) → IsCovered k a before s.after o
      → Settled k b before
  settled_beside o on back covered = record {
    after = now;
    each = λ p.
        ⊎_elim (λ (e : p ≡ o). inr (record {
          covers = λ x f i. subst (λ q. Covers k b before now q) (sym e) (covers_so o covered.covers);
          unasked = subst (λ q. NotAsked k before q) (sym e) covered.unasked;
        })) (λ (away : p ≡ o → ⊥). one_settles p (λ x e i. on x (λ f. away (sym e ∙ f)) i) (λ x e i. back x (λ f. away (sym e ∙ f)) i) (s.each p)) (objects_differ p o);
  }

-- so it is where changed references stay
pub settled_over : (k a b : Cluster) (before : HasWords (sight k)) → HasPlaces a → HasPlaces b → (s : Settled k a before) → LeavesWords a b → (o : ObjNo) → KeepsOthers o a b → IsCovered k a before s.after o → Settled k b before
settled_over k a b before c d s leaves o keeps covered = settled_beside k a b before s leaves (λ p. dirty_kept a b c d keeps.changed_on keeps.changed_back p) o keeps.on keeps.back covered
