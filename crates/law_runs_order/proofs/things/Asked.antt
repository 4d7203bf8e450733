-- The sentences of requests, over things in another order.
use Rattle.std.proofs.Common.{◌≡◌, ℕ, zero, suc, ◌==◌, ◌&&◌, not, Bool, List, Option, Some, None, refl, ap, ap₂, ◌∙◌}
use Rattle.std.specs.Prelude.{is_some}
use Rattle.law_runs_rounds.specs.Below.law_runs_coherent.Below.fr_base.declared.name.ObjNo.{ObjNo}
use Rattle.law_runs_rounds.specs.Below.law_runs_coherent.Below.fr_base.declared.place.Lval.{Lval}
use Rattle.law_runs_rounds.specs.Below.law_runs_coherent.Below.fr_base.declared.instruction.Instr.{Instr}
use Rattle.law_runs_rounds.specs.Below.law_runs_coherent.Below.fr_base.declared.instruction.Instr.TheVariants as instr
use Rattle.law_runs_rounds.specs.Below.law_runs_coherent.Below.heap_partition.declared.value.Owned.{Owned}
use Rattle.law_runs_rounds.specs.Below.law_runs_coherent.Below.join_home.Tasks.{TaskState, asked}
use Rattle.law_runs_rounds.specs.Below.law_runs_coherent.Below.thread_state.declared.phase.Phase.{Phase}
use Rattle.law_runs_rounds.specs.Below.law_runs_coherent.Below.thread_state.declared.phase.Phase.TheVariants as phase
use Rattle.law_runs_rounds.specs.Below.law_runs_coherent.Below.server_msgs.declared.message.Message.{Message}
use Rattle.law_runs_rounds.specs.Below.law_runs_coherent.Below.server_msgs.declared.message.Message.TheVariants.{Fetch, Fetched, Move, Moved, Drop, Lock, Granted, Dup, Dupped, Join, Joined}
use Rattle.law_runs_rounds.specs.Below.law_runs_coherent.Below.server_model.Servers.{Server, Cluster}
use Rattle.law_runs_rounds.specs.Below.law_runs_coherent.Below.coherent_memory.Names.{one, other, some}
use Rattle.law_runs_rounds.specs.Below.law_runs_coherent.Below.coherent_memory.Things.{Location, in_cell, Thing, sent, queued, noted, servers_things, things_of}
use Rattle.law_runs_rounds.specs.Below.law_runs_coherent.Below.coherent_memory.Follow.{Standing, Ground}
use Rattle.law_runs_rounds.specs.Below.law_runs_coherent.Below.coherent_memory.Sight.{Sight, is_word, sight}
use Rattle.law_runs_rounds.specs.Below.law_runs_coherent.Below.coherent_memory.Weights.{lies_at, lies_under}
use Rattle.law_runs_rounds.specs.Below.law_runs_coherent.Below.coherent_memory.Placing.{same_word_wrong}
use Rattle.law_runs_rounds.specs.Below.law_runs_coherent.Below.coherent_memory.Walking.{instr_of}
use Rattle.law_runs_rounds.specs.Below.law_runs_coherent.Below.coherent_memory.Requests.{in_phase, phase_fits, message_carries, note_carries, carries, carried_wrong, is_cell, is_lock, is_dup, is_join, in_server, stands_at, lost_answer, lost, returns_wrong, asker_message, asker_noted, other_asker, askers_wrong, not_under, message_leads, not_there, objects_wrong, mutex_of, locked_mutex, dupped_mutex, is_mutex, stands_wrong, phases_wrong, over_at, both_over, waited_pairs_wrong, lent_place, lies_here, taken_there, taken_phase, taken_wrong, has_word, last_hop, taken_again, old_word, taken_words_wrong, is_value_of, gift_fits, gift_there, gifts_wrong}
use Rattle.law_runs_order.specs.things.SameThings.{Reordered}
use Rattle.law_runs_order.proofs.things.Places.{place_same, at_place_same, hop_same}
use Rattle.law_runs_order.proofs.things.Sights.{Apart, thread_same, cell_same, word_same}
use Rattle.law_runs_order.proofs.things.Memory.{over_things, over_threads}

module _ (k : Cluster) (servers : List Server) (r : Reordered (things_of k) (servers_things servers)) (once : Apart (servers_things servers)) where
  abbrev s : Sight
  s = sight k

  abbrev t : Sight
  t = sight (record k { servers = servers })

  abbrev g : Ground
  g = s.ground

  abbrev h : Ground
  h = t.ground

  -- WHAT THEY CARRY, AND WHERE THEY GO

  fits : (n : ℕ) (f : Phase → Bool) → phase_fits s n f ≡ phase_fits t n f
  fits n f = ap (λ o. other (in_phase f o)) (thread_same k servers r once n)

  message_same : (m : Message) → message_carries s m ≡ message_carries t m
  message_same (Fetch w o n u) = fits u (is_cell w)
  message_same (Fetched w c u) = fits u (is_cell w)
  message_same (Move w o n u) = fits u (is_cell w)
  message_same (Moved w c u) = fits u (is_cell w)
  message_same (Lock m n u) = fits u (is_lock m)
  message_same (Granted m v u) = fits u (is_lock m)
  message_same (Dup m n u) = fits u (is_dup m)
  message_same (Dupped m u) = fits u (is_dup m)
  message_same (Join u n v) = fits v (is_join u)
  message_same (Joined u v n) = fits n (is_join u)
  message_same _ = refl

  note_same : (u : ℕ) (x : TaskState) → note_carries s u x ≡ note_carries t u x
  note_same u (asked n v) = fits v (is_join u)
  note_same u _ = refl

  carries_same : (x : Thing) → carries s x ≡ carries t x
  carries_same (sent n m) = message_same m
  carries_same (queued m n u) = fits u (is_lock m)
  carries_same (noted n x) = note_same x.thread x.state
  carries_same _ = refl

  pub carried_same : carried_wrong s ≡ carried_wrong t
  carried_same = over_things k servers r once (carries s) (carries t) carries_same

  stands_same : (u n : ℕ) → other (stands_at s u n) ≡ other (stands_at t u n)
  stands_same u n = ap (λ o. other (in_server n o)) (thread_same k servers r once u)

  answer_same : (n : ℕ) (m : Message) → lost_answer s n m ≡ lost_answer t n m
  answer_same n (Fetched w c u) = stands_same u n
  answer_same n (Moved w c u) = stands_same u n
  answer_same n (Granted m v u) = stands_same u n
  answer_same n (Dupped m u) = stands_same u n
  answer_same n (Joined u v w) = stands_same w n
  answer_same n _ = refl

  lost_same : (x : Thing) → lost s x ≡ lost t x
  lost_same (sent n m) = answer_same n m
  lost_same _ = refl

  pub returns_same : returns_wrong s ≡ returns_wrong t
  returns_same = over_things k servers r once (lost s) (lost t) lost_same

  asker_same : (m : Message) → asker_message s m ≡ asker_message t m
  asker_same (Fetch w o n u) = stands_same u n
  asker_same (Move w o n u) = stands_same u n
  asker_same (Lock m n u) = stands_same u n
  asker_same (Dup m n u) = stands_same u n
  asker_same (Join u n v) = stands_same v n
  asker_same _ = refl

  noted_same : (x : TaskState) → asker_noted s x ≡ asker_noted t x
  noted_same (asked n u) = stands_same u n
  noted_same _ = refl

  other_asker_same : (x : Thing) → other_asker s x ≡ other_asker t x
  other_asker_same (sent n m) = asker_same m
  other_asker_same (queued m n u) = stands_same u n
  other_asker_same (noted n x) = noted_same x.state
  other_asker_same _ = refl

  pub askers_same : askers_wrong s ≡ askers_wrong t
  askers_same = over_things k servers r once (other_asker s) (other_asker t) other_asker_same

  -- PHASES AND GIFTS

  pub locked_same : (x : Standing) (i : Option Instr) → locked_mutex s x i ≡ locked_mutex t x i
  locked_same x (Some (instr.Lock w)) = ap mutex_of (at_place_same g h (thread_same k servers r once) (cell_same k servers r once) x.thread.number w)
  locked_same x _ = refl

  dupped_same : (x : Standing) (i : Option Instr) → dupped_mutex s x i ≡ dupped_mutex t x i
  dupped_same x (Some (instr.Dup w)) = ap mutex_of (at_place_same g h (thread_same k servers r once) (cell_same k servers r once) x.thread.number w)
  dupped_same x _ = refl

  stands_wrong_same : (x : Standing) (p : Phase) → stands_wrong s x p ≡ stands_wrong t x p
  stands_wrong_same x (phase.WaitLock m) = ap (λ o. other (is_mutex m o)) (locked_same x (instr_of s x))
  stands_wrong_same x (phase.WaitDup m) = ap (λ o. other (is_mutex m o)) (dupped_same x (instr_of s x))
  stands_wrong_same x _ = refl

  pub phases_same : phases_wrong s ≡ phases_wrong t
  phases_same = over_threads k servers r once (λ x. stands_wrong s x x.thread.phase) (λ x. stands_wrong t x x.thread.phase) (λ x. stands_wrong_same x x.thread.phase)

  both_same : (x : Standing) (p : Phase) → both_over s x p ≡ both_over t x p
  both_same x (phase.WaitPar u v) = ap₂ (λ m n. other (not (u == v) && not (some m && some n))) (r.sums (over_at x.server u)) (r.sums (over_at x.server v))
  both_same x _ = refl

  pub waited_pairs_same : waited_pairs_wrong s ≡ waited_pairs_wrong t
  waited_pairs_same = over_threads k servers r once (λ x. both_over s x x.thread.phase) (λ x. both_over t x x.thread.phase) (λ x. both_same x x.thread.phase)

  last_same : (x : Standing) (w : ℕ) (p : Lval) (d : ℕ) → last_hop s x w p d ≡ last_hop t x w p d
  last_same x w p zero = refl
  last_same x w p (suc d) = ap (has_word w) (hop_same g h (thread_same k servers r once) (cell_same k servers r once) x.thread.number p d)

  again_same : (x : Standing) (w : ℕ) (o : Option Lval) → taken_again s x w o ≡ taken_again t x w o
  again_same x w None = refl
  again_same x w (Some p) = ap one (last_same x w p p.depth)

  old_same : (x : Standing) (p : Phase) → old_word s x p ≡ old_word t x p
  old_same x (phase.Taken w) = again_same x w (lent_place (instr_of s x))
  old_same x _ = refl

  pub taken_words_same : taken_words_wrong s ≡ taken_words_wrong t
  taken_words_same = over_threads k servers r once (λ x. old_word s x x.thread.phase) (λ x. old_word t x x.thread.phase) (λ x. old_same x x.thread.phase)

  fits_same : (x : Standing) (v : Owned) (i : Option Instr) → gift_fits s x v i ≡ gift_fits t x v i
  fits_same x v (Some (instr.Lock w)) = ap (λ o. other (is_some o)) (locked_same x (Some (instr.Lock w)))
  fits_same x v (Some (instr.Dup w)) = ap (λ o. other (is_value_of v o)) (dupped_same x (Some (instr.Dup w)))
  fits_same x v _ = refl

  gift_same : (x : Standing) (o : Option Owned) → gift_there s x o ≡ gift_there t x o
  gift_same x None = refl
  gift_same x (Some v) = fits_same x v (instr_of s x)

  pub gifts_same : gifts_wrong s ≡ gifts_wrong t
  gifts_same = over_threads k servers r once (λ x. gift_there s x x.thread.gift) (λ x. gift_there t x x.thread.gift) (λ x. gift_same x x.thread.gift)

  -- OBJECTS UNDER THEIR WORDS

  module _ (worded : same_word_wrong t ≡ 0) where
    under_same : (w : ℕ) (o : ObjNo) → not_under s w o ≡ not_under t w o
    under_same w o = ap₂ (λ q n. other (is_word q w && some n)) (word_same k servers r once worded o) (r.sums (lies_under w o))

    leads_same : (m : Message) → message_leads s m ≡ message_leads t m
    leads_same (Fetch w o n u) = under_same w o
    leads_same (Move w o n u) = under_same w o
    leads_same (Drop w o) = under_same w o
    leads_same _ = refl

    there_same : (x : Thing) → not_there s x ≡ not_there t x
    there_same (sent n m) = leads_same m
    there_same _ = refl

    pub objects_same : objects_wrong s ≡ objects_wrong t
    objects_same = over_things k servers r once (not_there s) (not_there t) there_same

    here_same : (n w : ℕ) (l : Option Location) → lies_here s n w l ≡ lies_here t n w l
    here_same n w (Some (in_cell o)) = ap₂ (λ q i. is_word q w && some i) (word_same k servers r once worded o) (r.sums (lies_at n o))
    here_same n w _ = refl

    taken_at_same : (x : Standing) (w : ℕ) (o : Option Lval) → taken_there s x w o ≡ taken_there t x w o
    taken_at_same x w None = refl
    taken_at_same x w (Some p) =
        ap other (here_same x.server w _ ∙ ap (lies_here t x.server w) (place_same g h (thread_same k servers r once) (cell_same k servers r once) x.thread.number p))

    taken_phase_same : (x : Standing) (p : Phase) → taken_phase s x p ≡ taken_phase t x p
    taken_phase_same x (phase.Taken w) = taken_at_same x w (lent_place (instr_of s x))
    taken_phase_same x _ = refl

    pub taken_same : taken_wrong s ≡ taken_wrong t
    taken_same = over_threads k servers r once (λ x. taken_phase s x x.thread.phase) (λ x. taken_phase t x x.thread.phase) (λ x. taken_phase_same x x.thread.phase)
