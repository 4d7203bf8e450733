-- The laws of words apply to main at its assignment.
use Rattle.std.proofs.Common.{◌≡◌, inl, inr, ℕ, [], ◌∷◌, Some, refl, arith}
use Rattle.law_words_paths.specs.Below.fr_base.declared.instruction.Operand.TheVariants as operand
use Rattle.law_words_paths.specs.Below.fr_base.declared.instruction.Instr.TheVariants as instr
use Rattle.std.specs.Prelude.{pos}
use Rattle.law_words_paths.specs.Below.global_addr.Words.{word_of}
use Rattle.law_words_paths.specs.Below.heap_partition.declared.value.Cell.{Cell}
use Rattle.law_words_paths.specs.Below.thread_state.declared.value.Value.TheVariants as value
use Rattle.law_words_paths.specs.Below.coherent_memory.Names.{Among}
use Rattle.law_words_paths.specs.Below.sample_clusters.Clusters.{place, object, box, int}
use Rattle.law_words_paths.specs.Below.coherent_memory.Things.{at_slot, lies, things_of}
use Rattle.law_words_paths.specs.Below.coherent_memory.Coherent.{IsSound}
use Rattle.law_words_paths.proofs.Below.coherent_memory.Unbroken.{sound_law}
use Rattle.law_words_paths.specs.Below.server_model.Servers.{Cluster}
use Rattle.law_words_paths.specs.Below.coherent_types.Typed.{boxed_main, boxed_cluster}
use Rattle.law_words_paths.proofs.Below.coherent_types.Whole.{coherent_compute}
use Rattle.law_words_paths.specs.paths.HeapStore.{GoesOn, HasPaths}
use Rattle.law_words_paths.specs.paths.Pointing.{assigns}
use Rattle.law_words_paths.specs.paths.Example.{main_stands}
use Rattle.law_words_paths.proofs.paths.Alike.{coherent_has_paths}
use Rattle.law_words_paths.proofs.paths.FreshPaths.{written_are_fresh}
use Rattle.law_words_paths.proofs.paths.MayWrites.{may_write_there}
use Rattle.law_words_paths.specs.words.Reworded.{HasPlaces, Reworded}
use Rattle.law_words_paths.specs.Below.coherent_memory.Words.{IsStale}
use Rattle.law_words_paths.specs.Below.coherent_memory.Sight.{sight}
use Rattle.law_words_paths.proofs.words.Alone.{written_are_sole}
use Rattle.law_words_paths.specs.words.Example.{tinted_cluster, main_hand, tinted_hand, WordsApply}
use Rattle.law_words_paths.specs.words.PutBack.{StandsHere, LeadsHome}
use Rattle.law_words_paths.proofs.words.Only.{are_only}
use Rattle.law_words_paths.proofs.words.Tints.{tint_rewords}

sound_before : IsSound boxed_cluster
sound_before = sound_law.sound boxed_cluster refl

sound_after : IsSound tinted_cluster
sound_after = sound_law.sound tinted_cluster refl

paths : HasPaths boxed_cluster
paths = coherent_has_paths boxed_cluster coherent_compute.boxed

goes : GoesOn boxed_cluster main_stands
goes = record { among = inl refl; going = refl }

abbrev only_cell : Cell
only_cell = record { object = object 0; value = int 1 }

is_only : (r a : ℕ) (c : Cell) → Among (lies r a c) (things_of boxed_cluster) → lies 0 0 only_cell ≡ lies r a c
is_only r a c (inl e) = absurd cc
is_only r a c (inr (inl e)) = e
is_only r a c (inr (inr (inl e))) = absurd cc
is_only r a c (inr (inr (inr (inl e)))) = absurd cc
is_only r a c (inr (inr (inr (inr h)))) = absurd h

home : LeadsHome boxed_cluster (record { word = word_of 0 0 0; object = object 0 })
home = record {
  server = 0;
  address = 0;
  lying = record { cell = only_cell; among = inr (inl refl); object = refl };
  leads = λ r a c m f. (let e = is_only r a c m in record { server = cc; address = cc });
}

places_of : (k : Cluster) → IsSound k → HasPlaces k
places_of k s = record { numbers_differ = s.names.numbers_differ; home_of_each = s.one_home.home_of_each; owner_of_each = s.one_owner.owner_of_each }

here : StandsHere boxed_cluster 0 (boxed_main ∷ []) main_hand
here = record { server = refl; number = refl; thread = refl }

reworded : Reworded boxed_cluster tinted_cluster (at_slot 0 0) (object 0) (word_of 1 0 0)
reworded =
    tint_rewords boxed_cluster 0 (boxed_main ∷ []) 2 main_hand tinted_hand 0 (value.Own (box (word_of 0 0 0) 0)) (record { word = word_of 0 0 0; object = object 0 }) here refl refl refl
    (places_of boxed_cluster sound_before) (places_of tinted_cluster sound_after) home (λ r e. absurd cc)

fresh : IsStale (sight boxed_cluster) (Some (at_slot 0 0)) → ⊥
fresh = written_are_fresh boxed_cluster paths main_stands (instr.Assign (place 0 1) (operand.Const (pos 2))) (place 0 1) 0 (at_slot 0 0) goes refl assigns (λ v e. absurd cc) (omega arith) refl

pub words_apply : WordsApply
words_apply = record {
  rewrites = record {
    before = places_of boxed_cluster sound_before;
    only = are_only.soles boxed_cluster (at_slot 0 0) (object 0) (written_are_sole boxed_cluster paths main_stands (place 0 1) (at_slot 0 0) (object 0) goes
        (may_write_there boxed_cluster paths main_stands goes (instr.Assign (place 0 1) (operand.Const (pos 2))) (place 0 1) refl assigns) (record { stars = 0; last = refl; pointer = refl; leads = refl }) fresh);
    fresh = fresh;
    firsts = sound_before.words.first_at_holder;
    places = places_of tinted_cluster sound_after;
    reworded = reworded;
  };
  words = sound_before.words.have_words;
  dirty = sound_before.words.dirty_alone;
  stands = here;
  tinted = refl;
  before = refl;
  after = refl;
}
