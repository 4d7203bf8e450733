-- Programs with threads start typed.
use Rattle.std.specs.Prelude.{◌==◌, if◌then◌else◌}
use Rattle.std.proofs.Common.{◌≡◌, ℕ, Bool, true, false, [], Option, Some, None, refl, sym, ap, ◌∙◌, subst, arith}
use Rattle.fr_plain.specs.Below.fr_terms.Terms.{Term, block_t, Items}
use Rattle.fr_plain.specs.Below.fr_typing.Kinds.{unit, Kind, own}
use Rattle.fr_plain.specs.Below.fr_typing.Places.{Env}
use Rattle.fr_plain.specs.Below.fr_typing.Finding.{typed}
use Rattle.fr_plain.specs.Below.fr_typing.Typing.{typing}
use Rattle.fr_plain.proofs.Below.fr_typing.Agree.{exactly_one_lem}
use Rattle.fr_plain.proofs.Below.fr_typing.PlaceLemmas.{eq_cases}
use Rattle.fr_store.specs.Keys.{slot_k, temp_k, content_k, result_k, hand_k}
use Rattle.fr_store.specs.Store.{Alike, Location, Val, gone_v, task_v, at_key, at_object, Store, value_at}
use Rattle.fr_store.specs.Typed.{Tree, hole, owns, KeyTypes}
use Rattle.fr_store.specs.Thread.{ThreadTyped}
use Rattle.fr_store.proofs.OtherThreads.{start_row, alike_row}
use Rattle.fr_plain.specs.Run.{Run, settle, alive}
use Rattle.fr_plain.specs.Whole.{Thread, start}
use Rattle.fr_plain.specs.Resolve.{program}
use Rattle.fr_plain.specs.ThreadRuns.{joined, moved_in, copied_in, let_go, task_of_task}
use Rattle.fr_plain.specs.Below.fr_typing.Threaded.{AreThreaded}
use Rattle.fr_sound.specs.RunTypes.{threads, RunTypes, held}
use Rattle.fr_sound.specs.Seen.{Gives, seen_cell, rank_of, IsKnown, AreKnown}
use Rattle.fr_sound.specs.Together.{slot_in, hand_in, result_val, seen_all, owed_in, IsTypedIn, AreTyped, StartsTogether}
use Rattle.fr_sound.specs.ThreadExample.{ThreadsStart}
use Rattle.fr_sound.proofs.Known.{known_alike}
use Rattle.fr_sound.proofs.DoneTerms.{quiet}
use Rattle.fr_sound.proofs.Settling.{settle_types, settle_holds}
use Rattle.fr_sound.proofs.Bridge.{threaded_forms, resolve_runs}
use Rattle.fr_sound.proofs.Whole.{empty_cell, block_leaves}

-- the empty store
abbrev empty : Store
empty = record { at = λ _. gone_v; heap = λ _. None }

module _ (r : Run) (none : held (settle r) ≡ None) where
  abbrev g : Gives
  g = record { result = λ t. unit; mutex = λ m. unit }

  abbrev main : Thread
  main = record { number = 0; life = alive (settle r); slots = [] }

  -- the only thread, or none
  by_test : (A : Type 0) (f : Option Thread → A) (b : Bool) → f (Some main) ≡ f None → f (if b then Some main else None) ≡ f None
  by_test A f true e = e
  by_test A f false e = refl

  -- at the start nothing stands anywhere
  start_alike : Alike empty (seen_all g (start r))
  start_alike (at_object q) = sym (ap (seen_cell g) (sym (empty_cell (0 == q.thread) q.count)))
  start_alike (at_key (slot_k t i)) = ap Some (by_test Val (λ x. slot_in g t x i) (0 == t) refl)
  start_alike (at_key (temp_k t i)) = refl
  start_alike (at_key (content_k t i)) = refl
  start_alike (at_key (result_k t)) = ap Some (by_test Val (result_val g t) (0 == t) refl)
  start_alike (at_key (hand_k t)) = ap Some (by_test Val (hand_in g t) (0 == t) (ap (λ h. Rattle.fr_sound.specs.Seen.hand_of g t h) none))

  start_known : AreKnown (IsKnown (owed_in (start r).threads) (start r).heap) empty
  start_known = record { each = each; once = λ l m t a b e f. absurd (no_task l t a e) }
    where
      each : (l : Location) (v : Val) → value_at empty l ≡ Some v → IsKnown (owed_in (start r).threads) (start r).heap v
      each (at_key k) v e = let same : gone_v ≡ v = cc in subst (IsKnown (owed_in (start r).threads) (start r).heap) same tt
      each (at_object q) v e = cc

      no_task : (l : Location) (t : ℕ) (a : Tree) → value_at empty l ≡ Some (task_v t a) → ⊥
      no_task (at_key k) t a e = cc
      no_task (at_object q) t a e = cc

  -- the main thread alone is typed
  pub start_typed : (k : Kind) → RunTypes threads [] None (settle r) k [] → AreTyped (start r)
  start_typed k types =
      let E : KeyTypes = λ _. owns hole in
      let thread : ThreadTyped (slot_k 0) (rank_of 0) (hand_k 0) [] E (seen_all g (start r)) None = (alike_row (slot_k 0) (rank_of 0) (hand_k 0) [] E empty (seen_all g (start r)) None start_alike).0 (start_row (slot_k 0) (rank_of 0) (hand_k 0)) in
      record {
        gives = g;
        high = 0;
        types = E;
        typed = thread.typed;
        local = λ j m u e. cc;
        neither = (refl, refl);
        known = known_alike (IsKnown (owed_in (start r).threads) (start r).heap) tt empty (seen_all g (start r)) start_known start_alike;
        each = λ t x e. eq_cases (λ b. (if b then Some main else None) ≡ Some x → IsTypedIn g 0 E (seen_all g (start r)) t x.slots x.life) 0 t
            (λ same f. let i : main ≡ x = cc in subst (λ (q : Thread). IsTypedIn g 0 E (seen_all g (start r)) t q.slots q.life) i
            (subst (λ n. IsTypedIn g 0 E (seen_all g (start r)) n [] (alive (settle r))) same (k, record { env = []; temp = None; types = types; thread = thread; long = refl; low = omega arith }))) (λ ne f. cc) e;
      }

-- a program that typing types starts typed
pub starts_together_lem : StartsTogether
starts_together_lem at items k e a y =
    let t = block_t at items in
    let runs : RunTypes threads [] None (program t) k [] = subst (λ (f : Env). RunTypes threads [] None (program t) k f) (block_leaves y refl) (resolve_runs threads t (threaded_forms t a) y) in
    start_typed (program t) (settle_holds (program t) runs ∙ quiet (program t) runs) k (settle_types (program t) runs)

-- the items of a program
abbrev items_of : Term → Items
items_of (block_t at items) = items
items_of t = Rattle.fr_plain.specs.Below.fr_terms.Terms.none

-- a program that typing computes to be typed as unit starts typed
computed : (items : Items) → AreThreaded items → typing (block_t 0 items) [] ≡ typed (own unit) [] → AreTyped (start (program (block_t 0 items)))
computed items ok is = starts_together_lem 0 items (own unit) [] ok ((exactly_one_lem.types (block_t 0 items) [] (own unit) []).1 is)

-- the programs start typed
pub threads_start_lem : ThreadsStart
threads_start_lem = record {
  joined = computed (items_of joined) ((tt, tt), (tt, tt)) refl;
  moved_in = computed (items_of moved_in) (tt, ((tt, tt), (tt, tt))) refl;
  copied_in = computed (items_of copied_in) (tt, ((tt, (tt, tt)), ((tt, tt), tt))) refl;
  let_go = computed (items_of let_go) ((tt, tt), (tt, tt)) refl;
  task_of_task = computed (items_of task_of_task) (((tt, tt), tt), tt) refl;
}
