-- The law of the end of a reference applies to an event of main.
use Rattle.std.proofs.Common.{◌≡◌, inl, inr, ℕ, zero, suc, ◌==◌, Bool, true, false, if◌then◌else◌, [], ◌∷◌, Option, Some, None, refl, sym, ap, ◌∙◌, arith}
use Rattle.std.proofs.lemmas.Bool.Decides.{nat_tests}
use Rattle.law_words_paths.specs.Below.heap_partition.declared.value.Cell.{Cell}
use Rattle.law_words_paths.specs.Below.mut_borrow.declared.mutable.MutRef.{MutRef}
use Rattle.law_words_paths.specs.Below.global_addr.Words.{word_of}
use Rattle.law_words_paths.specs.Below.thread_state.declared.value.Value.TheVariants as value
use Rattle.law_words_paths.specs.Below.server_model.Servers.{Cluster}
use Rattle.law_words_paths.specs.Below.coherent_memory.Names.{Among}
use Rattle.law_words_paths.specs.Below.sample_clusters.Clusters.{object, box}
use Rattle.law_words_paths.specs.Below.coherent_memory.Things.{Location, at_slot, at_temp, in_cell, lies, things_of}
use Rattle.law_words_paths.specs.Below.coherent_memory.Follow.{Standing, thread_at, slot_of, temp_of, cell_of, value_of, value_in}
use Rattle.law_words_paths.specs.Below.coherent_memory.Stale.{Reference, references, holder_of, is_held_at, changed_above, stale_above, taken_above}
use Rattle.law_words_paths.specs.Below.coherent_memory.Sight.{Pointer, pointers_in, sight}
use Rattle.law_words_paths.specs.Below.coherent_memory.Words.{IsStale, HasWords}
use Rattle.law_words_paths.specs.Below.coherent_memory.Coherent.{IsSound}
use Rattle.law_words_paths.proofs.Below.coherent_memory.Unbroken.{sound_law}
use Rattle.law_words_paths.specs.words.Reworded.{HasPlaces, LiesThere}
use Rattle.law_words_paths.specs.words.Unmoved.{pointing}
use Rattle.law_words_kept.specs.moves.Ended.{its_word, Ended}
use Rattle.law_words_kept.specs.moves.Example.{ending, ending_main, ending_cluster, ended_main, ended_cluster, EndsApply}

sound_before : IsSound ending_cluster
sound_before = sound_law.sound ending_cluster refl

sound_after : IsSound ended_cluster
sound_after = sound_law.sound ended_cluster refl

places_of : (k : Cluster) → IsSound k → HasPlaces k
places_of k s = record { numbers_differ = s.names.numbers_differ; home_of_each = s.one_home.home_of_each; owner_of_each = s.one_owner.owner_of_each }

-- the one reference
abbrev the_reference : Reference
the_reference = record { at = at_slot 0 1; holder = Some (at_slot 0 0); reference = ending }

only_reference : (q : Reference) → Among q (references (sight ending_cluster).ground (things_of ending_cluster)) → the_reference ≡ q
only_reference q (inl e) = e
only_reference q (inr h) = absurd h

none_made : (q : Reference) → Among q (references (sight ending_cluster).ground (things_of ending_cluster)) → is_held_at (at_slot 0 1) q.holder ≡ true → ⊥
none_made q m e = let f : false ≡ true = ap (λ (x : Reference). is_held_at (at_slot 0 1) x.holder) (only_reference q m) ∙ e in absurd cc

fresh : IsStale (sight ending_cluster) (Some (at_slot 0 1)) → ⊥
fresh (changed_above q m held ch) = none_made q m held
fresh (stale_above q m held s) = none_made q m held
fresh (taken_above m) = absurd cc

-- main alone stands there
abbrev before_it : Standing
before_it = record { server = 0; packed = false; thread = ending_main }

abbrev after_it : Standing
after_it = record { server = 0; packed = false; thread = ended_main }

no_thread : (x : Standing) (t : ℕ) → x.thread.number ≡ 0 → thread_at (x ∷ []) (suc t) ≡ None
no_thread x t e = by (x.thread.number == suc t) refl
  where
    by : (b : Bool) → (x.thread.number == suc t) ≡ b → (if b then Some x else None) ≡ None
    by true q = let f : x.thread.number ≡ suc t = grind (arith, nat_tests, q) in absurd (omega (arith, e, f))
    by false q = refl

elsewhere : (l : Location) → (l ≡ at_slot 0 1 → ⊥) → (l ≡ at_slot 0 0 → ⊥) → pointing (value_in (sight ended_cluster).ground l) ≡ pointing (value_in (sight ending_cluster).ground l)
elsewhere (at_slot zero zero) a h = absurd (h refl)
elsewhere (at_slot zero (suc zero)) a h = absurd (a refl)
elsewhere (at_slot zero (suc (suc i))) a h = refl
elsewhere (at_slot (suc t) i) a h = ap (λ o. pointing (slot_of o i)) (no_thread after_it t refl) ∙ sym (ap (λ o. pointing (slot_of o i)) (no_thread before_it t refl))
elsewhere (at_temp zero i) a h = refl
elsewhere (at_temp (suc t) i) a h = ap (λ o. pointing (temp_of o i)) (no_thread after_it t refl) ∙ sym (ap (λ o. pointing (temp_of o i)) (no_thread before_it t refl))
elsewhere (in_cell o) a h = refl

not_cell : (o : Option Cell) (q : MutRef) → value_of o ≡ Some (value.Mut q) → ⊥
not_cell None q e = absurd cc
not_cell (Some c) q e = absurd cc

holders : (l : Location) (q : MutRef) → (l ≡ at_slot 0 1 → ⊥) → value_in (sight ending_cluster).ground l ≡ Some (value.Mut q) → holder_of (sight ended_cluster).ground l q.holder ≡ holder_of (sight ending_cluster).ground l q.holder
holders (at_slot zero zero) q a e = absurd cc
holders (at_slot zero (suc zero)) q a e = absurd (a refl)
holders (at_slot zero (suc (suc i))) q a e = absurd cc
holders (at_slot (suc t) i) q a e = let f : None ≡ Some (value.Mut q) = sym (ap (λ o. slot_of o i) (no_thread before_it t refl)) ∙ e in absurd cc
holders (at_temp zero i) q a e = absurd cc
holders (at_temp (suc t) i) q a e = let f : None ≡ Some (value.Mut q) = sym (ap (λ o. temp_of o i) (no_thread before_it t refl)) ∙ e in absurd cc
holders (in_cell o) q a e = absurd (not_cell (cell_of (sight ending_cluster).ground.cells o) q e)

some_nothing : (l : Location) (p : Pointer) (w : ℕ) → record { at = Some l; word = w; object = object 0 } ≡ p → p.at ≡ None → ⊥
some_nothing l p w e f = let q : Some l ≡ None = ap (λ (x : Pointer). x.at) e ∙ f in absurd cc

lay : (m a : ℕ) (c : Cell) → Among (lies m a c) (things_of ended_cluster) → LiesThere ending_cluster m a c.object
lay m a c (inl e) = absurd cc
lay m a c (inr (inl e)) = record { cell = c; among = inr (inl e); object = refl }
lay m a c (inr (inr (inl e))) = absurd cc
lay m a c (inr (inr (inr (inl e)))) = absurd cc
lay m a c (inr (inr (inr (inr h)))) = absurd h

ends : Ended ending_cluster ended_cluster (at_slot 0 1) (at_slot 0 0) ending
ends = record {
  stood = refl;
  held = refl;
  clean = refl;
  fresh = fresh;
  only = λ q m e. sym (ap (λ (x : Reference). x.at) (only_reference q m));
  untaken = λ e. absurd cc;
  unmade = none_made;
  gone = refl;
  old = value.Own (box (word_of 0 0 0) 0);
  new = value.Own (box (word_of 1 0 0) 0);
  before = refl;
  after = refl;
  back = its_word (λ e. absurd cc) refl;
  elsewhere = elsewhere;
  holders = holders;
  taken = λ t m. absurd m;
  takes = λ t m. m;
  took = λ t m. m;
  loose = λ p e m. absurd (loose p m e);
  remain = λ p e m. absurd (remain p m e);
  standing = λ p e m. absurd (loose p m e);
  lay = lay;
}
  where
    loose : (p : Pointer) → Among p (pointers_in (things_of ended_cluster)) → p.at ≡ None → ⊥
    loose p (inl e) f = some_nothing (at_slot 0 0) p (word_of 1 0 0) e f
    loose p (inr h) f = absurd h

    remain : (p : Pointer) → Among p (pointers_in (things_of ending_cluster)) → p.at ≡ None → ⊥
    remain p (inl e) f = some_nothing (at_slot 0 0) p (word_of 0 0 0) e f
    remain p (inr (inl e)) f = some_nothing (at_slot 0 1) p (word_of 1 0 0) e f
    remain p (inr (inr h)) f = absurd h

words : HasWords (sight ending_cluster)
words = sound_before.words.have_words

pub ends_apply : EndsApply
ends_apply = record {
  done = refl;
  ends = ends;
  before = places_of ending_cluster sound_before;
  after = places_of ended_cluster sound_after;
  firsts = sound_before.words.first_at_holder;
  words = words;
  past = sound_before.words.past_words;
  dirty = sound_before.words.dirty_alone;
}
