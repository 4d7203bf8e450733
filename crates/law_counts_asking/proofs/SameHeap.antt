-- Where the one heap shows the same of a thread and of its objects, its places lead alike in both clusters, and the same mutex stands there.
use Rattle.std.proofs.Common.{◌≡◌, ℕ, zero, suc, Bool, true, false, if◌then◌else◌, Option, Some, None, option_map, refl, sym, ap, ◌∙◌}
use Rattle.std.specs.Prelude.{slice_get}
use Rattle.law_results_reads.specs.Below.fr_base.declared.place.Lval.{Lval}
use Rattle.law_results_reads.specs.Below.fr_base.declared.name.ObjNo.{ObjNo}
use Rattle.law_results_reads.specs.Below.fr_base.declared.label.Plain.{Plain}
use Rattle.law_results_reads.specs.Below.fr_plain.declared.value.Value.TheVariants.{Own}
use Rattle.law_results_reads.specs.Below.fr_plain.State.{slot_at}
use Rattle.law_results_reads.specs.Below.fr_plain.MachineThreads.{owing, loose}
use Rattle.law_results_reads.specs.Below.fr_plain.PlainState.{place_in, place_of}
use Rattle.law_results_reads.specs.Below.fr_code.Machine.{CodeRunning}
use Rattle.law_results_reads.specs.Below.fr_sound.Seen.{seen_cell}
use Rattle.law_results_reads.specs.Below.thread_state.View.{is_over}
use Rattle.law_results_reads.specs.Below.server_model.Servers.{Cluster}
use Rattle.law_results_reads.specs.Below.coherent_memory.Things.{Location, in_cell}
use Rattle.law_results_reads.specs.Below.coherent_memory.Follow.{Standing, Ground, thread_at, slot_of, value_of, value_in, value_behind, leads, locate, value_at}
use Rattle.law_results_reads.specs.Below.coherent_memory.Sight.{Sight, sight}
use Rattle.law_results_reads.specs.Below.coherent_memory.Requests.{mutex_of}
use Rattle.law_results_reads.specs.Below.coherent_memory.OneHeap.{one_heap, state_of, object_value, plain_value, going_on, was_let_go, running_at, ended_with, result_of, life_of, life_at, if_given, is_given_thread}
use Rattle.law_results_reads.specs.Below.law_words_paths.paths.HeapStore.{GoesOn, HasPaths}
use Rattle.law_results_reads.proofs.Below.law_words_paths.paths.Shown.{shown_value, object_shown, stands_there}
use Rattle.law_results_reads.proofs.Below.law_words_paths.paths.Alike.{IsShown, a_slot, an_object, leads_in_heap}
use Rattle.law_results_reads.proofs.Below.law_words_paths.paths.Sole.{some_is}
use Rattle.law_heap_still.proofs.events.PlainValues.{plain_leads, plain_mutex, leads_plain, mutex_plain}

-- THREADS

-- a thread that goes on is shown at its place
going_place : (s : Sight) (t : ℕ) (p : CodeRunning) → place_of (going_on s t p) ≡ Some p
going_place s zero p = refl
going_place s (suc t) p = by (was_let_go s (suc t))
  where
    by : (q : Bool) → place_of (if q then loose p else owing p) ≡ Some p
    by true = refl
    by false = refl

-- a thread that goes on is shown where it is
pub running_place : (s : Sight) (n : ℕ) (y : Standing) → is_given_thread s n ≡ true → thread_at s.ground.threads n ≡ Some y → is_over y.thread.phase ≡ false → place_in ((state_of s).thread n) ≡ Some (running_at y.thread)
running_place s n y given found going =
    ap (λ b. place_in (if_given b (life_at s n (thread_at s.ground.threads n)))) given ∙ ap (λ o. place_of (life_at s n o)) found ∙ ap (λ b. place_of (life_of s y.thread b)) going ∙ going_place s y.thread.number (running_at y.thread)

-- what is shown somewhere is a thread that goes on
pub record Runs (s : Sight) (n : ℕ) (r : CodeRunning) : Type 0 where
  pub standing : Standing
  pub found : thread_at s.ground.threads n ≡ Some standing
  pub going : is_over standing.thread.phase ≡ false
  pub alike : running_at standing.thread ≡ r

-- who is shown there is found
pub runs : (s : Sight) (n : ℕ) (r : CodeRunning) → place_in ((state_of s).thread n) ≡ Some r → Runs s n r
runs s n r e = by (is_given_thread s n) (thread_at s.ground.threads n) refl e
  where
    ended : (o : Option Plain) → place_of (ended_with o) ≡ Some r → ⊥
    ended None z = absurd (cc z)
    ended (Some v) z = absurd (cc z)

    life : (x : Standing) → thread_at s.ground.threads n ≡ Some x → (b : Bool) → is_over x.thread.phase ≡ b → place_of (life_of s x.thread b) ≡ Some r → Runs s n r
    life x q true f z = absurd (ended (result_of s x.thread.number) z)
    life x q false f z = record { standing = x; found = q; going = f; alike = some_is (sym (going_place s x.thread.number (running_at x.thread)) ∙ z) }

    by : (b : Bool) (o : Option Standing) → thread_at s.ground.threads n ≡ o → place_in (if_given b (life_at s n o)) ≡ Some r → Runs s n r
    by false o q z = absurd (cc z)
    by true None q z = absurd (ended (result_of s n) z)
    by true (Some x) q z = life x q (is_over x.thread.phase) refl z

-- PLACES

-- the one heap shows the same of the thread, and of each object that the first has
pub record SeesSame (k c : Cluster) (n : ℕ) : Type 0 where
  pub place : place_in ((one_heap c).thread n) ≡ place_in ((one_heap k).thread n)
  pub objects : (o : ObjNo) (v : Plain) → object_value (sight k) o ≡ Some v → object_value (sight c) o ≡ Some v

module _ (k : Cluster) (p : HasPaths k) (c : Cluster) (x y : Standing) (g : GoesOn k x) (same : SeesSame k c x.thread.number) (there : thread_at (sight c).ground.threads x.thread.number ≡ Some y) (alike : running_at x.thread ≡ running_at y.thread) where
  abbrev n : ℕ
  n = x.thread.number

  abbrev G : Ground
  G = (sight k).ground

  abbrev G2 : Ground
  G2 = (sight c).ground

  -- its slots show the same
  slots_at : (i : ℕ) → option_map plain_value (slice_get x.thread.slots i) ≡ option_map plain_value (slice_get y.thread.slots i)
  slots_at i = sym (shown_value x.thread.slots i) ∙ ap (λ (r : CodeRunning). slot_at r.slots i) alike ∙ shown_value y.thread.slots i

  -- what stands at a location that the one heap shows
  value_kept : (l : Location) → IsShown k p x g l → option_map plain_value (value_in G l) ≡ option_map plain_value (value_in G2 l)
  value_kept _ (a_slot i) = ap (λ o. option_map plain_value (slot_of o i)) (stands_there k p x g) ∙ slots_at i ∙ ap (λ o. option_map plain_value (slot_of o i)) (sym there)
  value_kept _ (an_object o v e) = by (object_value (sight k) o) refl e
    where
      by : (q : Option Plain) → object_value (sight k) o ≡ q → seen_cell p.types.typing.gives q ≡ Some v → option_map plain_value (value_in G (in_cell o)) ≡ option_map plain_value (value_in G2 (in_cell o))
      by None q f = absurd (cc f)
      by (Some a) q f =
          let d = object_shown (sight k) o a q in
          let d2 = object_shown (sight c) o a (same.objects o a q) in
          ap (λ z. option_map plain_value (value_of z)) d.1 ∙ ap (λ z. Some (Own z)) (d.2 ∙ sym d2.2) ∙ ap (λ z. option_map plain_value (value_of z)) (sym d2.1)

  -- so does what stands behind a place
  behind_kept : (slot d : ℕ) (o : Option Location) → locate G n slot d ≡ o → option_map plain_value (value_behind G o) ≡ option_map plain_value (value_behind G2 o)
  behind_kept slot d None e = refl
  behind_kept slot d (Some l) e = value_kept l (leads_in_heap k p x g slot d l e).1

  -- a place leads where it led
  pub place_kept : (slot d : ℕ) → locate G n slot d ≡ locate G2 n slot d
  place_kept slot zero = refl
  place_kept slot (suc d) =
      let at : Option Location = locate G n slot d in
      leads_plain n (value_behind G at) ∙ ap (plain_leads n) (behind_kept slot d at refl) ∙ sym (leads_plain n (value_behind G2 at)) ∙ ap (λ o. leads n (value_behind G2 o)) (place_kept slot d)

  -- and the same mutex stands there
  pub mutex_kept : (w : Lval) → mutex_of (value_at G n w) ≡ mutex_of (value_at G2 n w)
  mutex_kept w =
      let at : Option Location = locate G n w.slot w.depth in
      mutex_plain (value_behind G at) ∙ ap plain_mutex (behind_kept w.slot w.depth at refl) ∙ sym (mutex_plain (value_behind G2 at)) ∙ ap (λ o. mutex_of (value_behind G2 o)) (place_kept w.slot w.depth)
