-- Steps, runs and endings of the plain machine under other names.
use Rattle.std.proofs.Common.{◌≡◌, ℕ, ◌+◌, ◌||◌, Bool, true, false, List, [], ◌∷◌, ◌++◌, map, Option, Some, None, refl, sym, ap, ◌∙◌}
use Rattle.std.specs.Prelude.{ℤ, if◌then◌else◌}
use Rattle.std.specs.Option.{option_map}
use Rattle.std.proofs.lemmas.List.{map-append}
use Rattle.fr_base.specs.declared.name.MutexNo.{MutexNo}
use Rattle.fr_base.specs.declared.place.Lval.{Lval}
use Rattle.fr_base.specs.declared.label.Plain.{Plain}
use Rattle.fr_base.specs.declared.label.Plain.TheVariants as plain
use Rattle.fr_base.specs.declared.label.Label.{Label}
use Rattle.fr_base.specs.declared.label.Label.TheVariants as label
use Rattle.fr_base.specs.declared.step.Fresh.{Fresh}
use Rattle.fr_base.specs.declared.step.Fresh.TheVariants as fresh
use Rattle.fr_plain.specs.declared.value.Value.{Value}
use Rattle.fr_plain.specs.declared.value.Value.TheVariants.{Own, ToSlot, ToObject, Held}
use Rattle.fr_plain.specs.State.{State, Reached, loads, then_reached, locate, value_at}
use Rattle.fr_plain.specs.MachineActs.{Capture, Act, do_let, do_read, do_borrow, do_assign, do_box, do_arith, do_print, do_discard, do_drop, do_end, do_spawn, do_join, do_finish, do_leave, do_mutex, do_dup, do_lock, do_unlock, do_par, do_par_end, Did, act, unit, drops_last}
use Rattle.fr_plain.specs.MachineThreads.{Move, Moves, Life, over, owing, settle_life, life_move, Passed, pass, Thread, Shared, Mutex, Pair, Whole, mutex_there, with_mutex, pair_of, without_pair, thread_at, with_thread, result_at, with_life, state_of}
use Rattle.fr_plain.specs.Machine.{Stepped, Turn, prints, stepped as step_done, then_released, alone_stepped, started_with, started, joined_with, joined, nameless, mutex_value, mutex_behind, goes_on, made, where_there, at_mutex, at_place, locked_with, given_back, unlocked, two_with, second_of, two_started, taken, pair_over, two_ended, two_joined, done_act, moved, step_of, step, then_labels, go_on, run}
use Rattle.law_plain_names.specs.Renamed.{Renaming, IsOneToOne, owned, kept, all_kept, heap, labels, shared, mutex, pair, given, turn, life, thread, whole, stepped}
use Rattle.law_plain_names.proofs.Heaps.{local, reached, loads_renamed, both_renamed, locate_renamed, value_renamed}
use Rattle.law_plain_names.proofs.Acts.{done, act_of, act_renamed, last_act_renamed}
use Rattle.law_plain_names.proofs.Threads.{there_renamed, with_mutex_renamed, pair_renamed, without_pair_renamed, passed, pass_renamed, those, thread_renamed, with_thread_renamed, given_renamed, mutex_given_renamed, result_renamed, release_renamed, dropped_whole_renamed, MoveRenamed, MovesRenamed, settle_renamed, life_move_renamed}

abbrev behind : Option Reached → (Reached → Option Value) → Option (MutexNo × List Label)
behind x f = then_reached x (λ r. mutex_value r (f r))

module _ (n : Renaming) (once : IsOneToOne n) where
  prints_renamed : (ls : List Label) → prints (labels n ls) ≡ prints ls
  prints_renamed [] = refl
  prints_renamed (label.Print i ∷ ls) = ap (λ is. i ∷ is) (prints_renamed ls)
  prints_renamed (label.Make o v ∷ ls) = prints_renamed ls
  prints_renamed (label.Load o v ∷ ls) = prints_renamed ls
  prints_renamed (label.Store o v ∷ ls) = prints_renamed ls
  prints_renamed (label.Drop o ∷ ls) = prints_renamed ls
  prints_renamed (label.Lock m ∷ ls) = prints_renamed ls
  prints_renamed (label.Unlock m ∷ ls) = prints_renamed ls
  prints_renamed (label.Start t ∷ ls) = prints_renamed ls
  prints_renamed (label.End t ∷ ls) = prints_renamed ls

  -- MUTEXES OF PLACES

  abbrev pub found : MutexNo × List Label → MutexNo × List Label
  found p = (n.mutex p.0, labels n p.1)

  mutex_value_renamed : (x : Reached) (v : Option Value) → mutex_value (reached n once x) (option_map (kept n) v) ≡ option_map found (mutex_value x v)
  mutex_value_renamed x None = refl
  mutex_value_renamed x (Some (Own (plain.Mutex m))) =
      ap (λ (ls : List Label). Some (n.mutex m, ls)) (both_renamed n once x.passed (loads x.spot (Own (plain.Mutex m))) _ (loads_renamed n once x.spot (Own (plain.Mutex m))))
  mutex_value_renamed x (Some (Own plain.Nothing)) = refl
  mutex_value_renamed x (Some (Own plain.Unit)) = refl
  mutex_value_renamed x (Some (Own (plain.Int i))) = refl
  mutex_value_renamed x (Some (Own (plain.Box o))) = refl
  mutex_value_renamed x (Some (Own (plain.Task t))) = refl
  mutex_value_renamed x (Some (ToSlot i)) = refl
  mutex_value_renamed x (Some (ToObject o)) = refl
  mutex_value_renamed x (Some (Held m)) = refl

  pub mutex_behind_renamed : (s : State) (w : Lval) → mutex_behind (local n once s) w ≡ option_map found (mutex_behind s w)
  mutex_behind_renamed s w = ap (λ x. behind x (λ r. value_at (local n once s) r.spot)) (locate_renamed n once s w) ∙ by (locate s w)
    where
      by : (x : Option Reached) → behind (option_map (reached n once) x) (λ r. value_at (local n once s) r.spot) ≡ option_map found (behind x (λ r. value_at s r.spot))
      by None = refl
      by (Some x) = ap (mutex_value (reached n once x)) (value_renamed n once s x.spot) ∙ mutex_value_renamed x (value_at s x.spot)

  module _ {P : Type 0} (r : P → P) (ms : Moves P) (moves : MovesRenamed n once r ms) where
    abbrev all : Whole P → Whole P
    all s = whole n r s

    abbrev one : Thread P → Thread P
    one x = thread n r x

    abbrev led : Option (Stepped P) → Option (Stepped P)
    led x = option_map (stepped n r) x

    -- that the step is the other one, renamed
    abbrev IsLed : Option (Stepped P) → Option (Stepped P) → Type 0
    IsLed x y = x ≡ led y

    module _ (s : Whole P) (t : Thread P) (m k : Move P (Life P)) (plug : (v : Value) → m.plug (kept n v) ≡ life n r (k.plug v)) where
      -- the thread where it goes on, among these
      put : (xs : List (Thread P)) (v : Value) (vs : List Value)
          → with_thread (those n once r xs) (record { number = n.thread t.number; life = settle_life ms (m.plug (kept n v)); slots = all_kept n vs })
          ≡ those n once r (with_thread xs (record { number = t.number; life = settle_life ms (k.plug v); slots = vs }))
      put xs v vs =
          ap (λ l. with_thread (those n once r xs) (record { number = n.thread t.number; life = l; slots = all_kept n vs })) (ap (settle_life ms) (plug v) ∙ settle_renamed n once r ms moves (k.plug v))
          ∙ with_thread_renamed n once r xs (record { number = t.number; life = settle_life ms (k.plug v); slots = vs })

      done_renamed : (d : Option Did) → IsLed (step_done ms (all s) (one t) m (option_map (done n once) d)) (step_done ms s t k d)
      done_renamed None = refl
      done_renamed (Some d) =
          ap (λ (xs : List (Thread P)). Some (record { state = record (all s) { threads = xs; heap = heap n d.state.heap; output = s.output ++ prints (labels n d.labels) }; labels = labels n d.labels })) (put s.threads d.value d.state.slots)
          ∙ ap
          (λ (ps : List ℤ).
          Some (record {
            state = record (all s) { threads = those n once r (with_thread s.threads (record { number = t.number; life = settle_life ms (k.plug d.value); slots = d.state.slots })); heap = heap n d.state.heap; output = s.output ++ ps };
            labels = labels n d.labels;
          }))
          (prints_renamed d.labels)

      released_renamed : (v : Plain) (x : Option (Stepped P)) → IsLed (then_released (owned n v) (led x)) (then_released v x)
      released_renamed v None = refl
      released_renamed v (Some x) = ap (λ (c : Whole P). Some (record { state = c; labels = labels n x.labels })) (release_renamed n once r x.state v)

      alone_renamed : (a : Act P) → IsLed (alone_stepped ms (all s) (one t) m (act_of n once r a)) (alone_stepped ms s t k a)
      alone_renamed a =
          ap (λ d. then_released (drops_last (act_of n once r a) (state_of (all s) (one t))) (step_done ms (all s) (one t) m d)) (act_renamed n once r a (state_of s t))
          ∙ ap (then_released (drops_last (act_of n once r a) (state_of (all s) (one t)))) (done_renamed (act a (state_of s t)))
          ∙ ap (λ v. then_released v (led (step_done ms s t k (act a (state_of s t))))) (last_act_renamed n once r a (state_of s t))
          ∙ released_renamed (drops_last a (state_of s t)) (step_done ms s t k (act a (state_of s t)))

      -- NEW THREADS

      abbrev fresh_thread : ℕ → P → List Value → Thread P
      fresh_thread u p vs = record { number = u; life = owing (ms.settle p); slots = vs }

      fresh_renamed : (u : ℕ) (p : P) (vs : List Value) → fresh_thread (n.thread u) (r p) (all_kept n vs) ≡ one (fresh_thread u p vs)
      fresh_renamed u p vs = ap (λ q. record { number = n.thread u; life = owing q; slots = all_kept n vs }) (moves.settle p)

      more_renamed : (xs ys : List (Thread P)) (zs ws : List (Thread P)) → zs ≡ those n once r xs → ws ≡ those n once r ys → zs ++ ws ≡ those n once r (xs ++ ys)
      more_renamed xs ys zs ws e f = ap (λ x. x ++ ws) e ∙ ap (λ x. those n once r xs ++ x) f ∙ sym (map-append _ xs ys)

      started_with_renamed : (p : P) (u : ℕ) (x : Option Passed) → IsLed (started_with ms (all s) (one t) m (r p) (n.thread u) (option_map (passed n once) x)) (started_with ms s t k p u x)
      started_with_renamed p u None = refl
      started_with_renamed p u (Some x) =
          ap (λ (xs : List (Thread P)). Some (record { state = record (all s) { threads = xs }; labels = label.Start (n.thread u) ∷ [] }))
          (more_renamed _ _ _ _ (put s.threads (Own (plain.Task u)) x.left) (ap (λ y. y ∷ []) (fresh_renamed u p x.new)))

      unless : (b c : Bool) (x y : Option (Stepped P)) → b ≡ c → IsLed x y → IsLed (if b then None else x) (if c then None else y)
      unless true true x y e f = refl
      unless false false x y e f = f
      unless true false x y e f = absurd cc
      unless false true x y e f = absurd cc

      started_renamed : (names : Fresh) (p : P) (cs : List Capture) → IsLed (started ms (all s) (one t) m (given n names) (r p) (λ slots. pass cs slots [])) (started ms s t k names p (λ slots. pass cs slots []))
      started_renamed (fresh.Thread u) p cs =
          unless _ _ _ _ (given_renamed n once r s u) (ap (started_with ms (all s) (one t) m (r p) (n.thread u)) (pass_renamed n once cs t.slots []) ∙ started_with_renamed p u (pass cs t.slots []))
      started_renamed fresh.None p cs = refl
      started_renamed (fresh.Threads u v) p cs = refl
      started_renamed (fresh.Mutex x) p cs = refl

      two_with_renamed : (a : ℕ) (p : P) (first : List Value) (b : ℕ) (q : P) (x : Option Passed)
          → IsLed (two_with ms (all s) (one t) m (n.thread a) (r p) (all_kept n first) (n.thread b) (r q) (option_map (passed n once) x)) (two_with ms s t k a p first b q x)
      two_with_renamed a p first b q None = refl
      two_with_renamed a p first b q (Some x) =
          ap
          (λ (xs : List (Thread P)).
          Some (record {
            state = record (all s) { threads = xs; pairs = record { parent = n.thread t.number; first = n.thread a; second = n.thread b } ∷ map (pair n) s.pairs };
            labels = label.Start (n.thread a) ∷ label.Start (n.thread b) ∷ [];
          }))
          (more_renamed _ _ _ _ (put s.threads unit x.left) (ap (λ y. y ∷ fresh_thread (n.thread b) (r q) (all_kept n x.new) ∷ []) (fresh_renamed a p first) ∙ ap (λ y. one (fresh_thread a p first) ∷ y ∷ []) (fresh_renamed b q x.new)))

      second_renamed : (a : ℕ) (p : P) (ds : List Capture) (b : ℕ) (q : P) (x : Option Passed) → IsLed (second_of ms (all s) (one t) m (n.thread a) (r p) ds (n.thread b) (r q) (option_map (passed n once) x)) (second_of ms s t k a p ds b q x)
      second_renamed a p ds b q None = refl
      second_renamed a p ds b q (Some x) = ap (two_with ms (all s) (one t) m (n.thread a) (r p) (all_kept n x.new) (n.thread b) (r q)) (pass_renamed n once ds x.left []) ∙ two_with_renamed a p x.new b q (pass ds x.left [])

      either_same : (a b c d e f : Bool) → a ≡ d → b ≡ e → c ≡ f → (a || b || c) ≡ (d || e || f)
      either_same a b c d e f g h i = cc

      two_started_renamed : (names : Fresh) (cs : List Capture) (p : P) (ds : List Capture) (q : P) → IsLed (two_started ms (all s) (one t) m (given n names) cs (r p) ds (r q)) (two_started ms s t k names cs p ds q)
      two_started_renamed (fresh.Threads a b) cs p ds q =
          unless _ _ _ _ (either_same _ _ _ _ _ _ (once.threads a b) (given_renamed n once r s a) (given_renamed n once r s b))
          (ap (second_of ms (all s) (one t) m (n.thread a) (r p) ds (n.thread b) (r q)) (pass_renamed n once cs t.slots []) ∙ second_renamed a p ds b q (pass cs t.slots []))
      two_started_renamed fresh.None cs p ds q = refl
      two_started_renamed (fresh.Thread u) cs p ds q = refl
      two_started_renamed (fresh.Mutex x) cs p ds q = refl

      -- THREADS THAT ARE OVER

      over_put : (xs : List (Thread P)) (x : Thread P) → with_thread (those n once r xs) (with_life (one x) over) ≡ those n once r (with_thread xs (with_life x over))
      over_put xs x = with_thread_renamed n once r xs (with_life x over)

      joined_with_renamed : (x : Option (Thread P)) (v : Option Value) → IsLed (joined_with ms (all s) (one t) m (option_map one x) (option_map (kept n) v)) (joined_with ms s t k x v)
      joined_with_renamed None None = refl
      joined_with_renamed None (Some v) = refl
      joined_with_renamed (Some x) None = refl
      joined_with_renamed (Some x) (Some v) =
          ap
          (λ (xs : List (Thread P)).
          Some (record { state = record (all s) { threads = with_thread xs (record { number = n.thread t.number; life = settle_life ms (m.plug (kept n v)); slots = all_kept n t.slots }) }; labels = [] }))
          (over_put s.threads x)
          ∙ ap (λ (xs : List (Thread P)). Some (record { state = record (all s) { threads = xs }; labels = [] })) (put (with_thread s.threads (with_life x over)) v t.slots)

      joined_renamed : (v : Value) → IsLed (joined ms (all s) (one t) m (kept n v)) (joined ms s t k v)
      joined_renamed (Own (plain.Task u)) =
          ap (λ x. joined_with ms (all s) (one t) m x (result_at (those n once r s.threads) (n.thread u))) (thread_renamed n once r s.threads u)
          ∙ ap (joined_with ms (all s) (one t) m (option_map one (thread_at s.threads u))) (result_renamed n once r s.threads u) ∙ joined_with_renamed (thread_at s.threads u) (result_at s.threads u)
      joined_renamed (Own plain.Nothing) = refl
      joined_renamed (Own plain.Unit) = refl
      joined_renamed (Own (plain.Int i)) = refl
      joined_renamed (Own (plain.Box o)) = refl
      joined_renamed (Own (plain.Mutex x)) = refl
      joined_renamed (ToSlot i) = refl
      joined_renamed (ToObject o) = refl
      joined_renamed (Held x) = refl

      taken_renamed : (xs : List (Thread P)) (x : Option (Thread P)) → taken ms (those n once r xs) (option_map one x) ≡ those n once r (taken ms xs x)
      taken_renamed xs None = refl
      taken_renamed xs (Some x) = over_put xs x

      pair_over_renamed : (p : Pair) → pair_over ms (all s) (pair n p) ≡ those n once r (pair_over ms s p)
      pair_over_renamed p =
          ap (λ x. taken ms (taken ms (those n once r s.threads) x) (thread_at (those n once r s.threads) (n.thread p.second))) (thread_renamed n once r s.threads p.first)
          ∙ ap (taken ms (taken ms (those n once r s.threads) (option_map one (thread_at s.threads p.first)))) (thread_renamed n once r s.threads p.second)
          ∙ ap (λ xs. taken ms xs (option_map one (thread_at s.threads p.second))) (taken_renamed s.threads (thread_at s.threads p.first)) ∙ taken_renamed (taken ms s.threads (thread_at s.threads p.first)) (thread_at s.threads p.second)

      two_ended_renamed : (p : Pair) (v w : Option Value) → IsLed (two_ended ms (all s) (one t) m (pair n p) (option_map (kept n) v) (option_map (kept n) w)) (two_ended ms s t k p v w)
      two_ended_renamed p None w = refl
      two_ended_renamed p (Some v) None = refl
      two_ended_renamed p (Some v) (Some w) =
          ap
          (λ (xs : List (Thread P)).
          Some (record {
            state = record (all s) { threads = with_thread xs (record { number = n.thread t.number; life = settle_life ms (m.plug unit); slots = all_kept n t.slots }); pairs = without_pair (map (pair n) s.pairs) (n.thread t.number) };
            labels = [];
          }))
          (pair_over_renamed p)
          ∙ ap (λ (xs : List (Thread P)). Some (record { state = record (all s) { threads = xs; pairs = without_pair (map (pair n) s.pairs) (n.thread t.number) }; labels = [] })) (put (pair_over ms s p) unit t.slots)
          ∙ ap (λ (ps : List Pair). Some (record { state = record (all s) { threads = those n once r (goes_on ms (record s { threads = pair_over ms s p }) t k unit t.slots).threads; pairs = ps }; labels = [] }))
          (without_pair_renamed n once s.pairs t.number)

      two_joined_renamed : (p : Option Pair) → IsLed (two_joined ms (all s) (one t) m (option_map (pair n) p)) (two_joined ms s t k p)
      two_joined_renamed None = refl
      two_joined_renamed (Some p) =
          ap (λ v. two_ended ms (all s) (one t) m (pair n p) v (result_at (those n once r s.threads) (n.thread p.second))) (result_renamed n once r s.threads p.first)
          ∙ ap (two_ended ms (all s) (one t) m (pair n p) (option_map (kept n) (result_at s.threads p.first))) (result_renamed n once r s.threads p.second)
          ∙ two_ended_renamed p (result_at s.threads p.first) (result_at s.threads p.second)

      -- MUTEXES

      goes_renamed : (v : Value) (vs : List Value) → goes_on ms (all s) (one t) m (kept n v) (all_kept n vs) ≡ all (goes_on ms s t k v vs)
      goes_renamed v vs = ap (λ (xs : List (Thread P)). record (all s) { threads = xs }) (put s.threads v vs)

      -- it goes on, and a mutex is as given
      abbrev with_shared : Whole P → MutexNo → Option Shared → List Label → Option (Stepped P)
      with_shared c x y ls = Some (record { state = record c { mutexes = with_mutex s.mutexes x y }; labels = ls })

      shared_renamed : (v : Value) (vs : List Value) (x : MutexNo) (y : Option Shared) (ls ks : List Label) → ks ≡ labels n ls
          → IsLed (Some (record { state = record (goes_on ms (all s) (one t) m (kept n v) (all_kept n vs)) { mutexes = with_mutex (map (mutex n) s.mutexes) (n.mutex x) (option_map (shared n) y) }; labels = ks }))
          (with_shared (goes_on ms s t k v vs) x y ls)
      shared_renamed v vs x y ls ks e =
          ap (λ (c : Whole P). Some (record { state = record c { mutexes = with_mutex (map (mutex n) s.mutexes) (n.mutex x) (option_map (shared n) y) }; labels = ks })) (goes_renamed v vs)
          ∙ ap (λ (xs : List Mutex). Some (record { state = record (all (goes_on ms s t k v vs)) { mutexes = xs }; labels = ks })) (with_mutex_renamed n once s.mutexes x y)
          ∙ ap (λ (is : List Label). Some (record { state = all (record (goes_on ms s t k v vs) { mutexes = with_mutex s.mutexes x y }); labels = is })) e

      made_renamed : (names : Fresh) (v : Value) → IsLed (made ms (all s) (one t) m (given n names) (kept n v)) (made ms s t k names v)
      made_renamed (fresh.Mutex x) (Own v) =
          unless _ _ _ _ (mutex_given_renamed n once r s.mutexes x)
          (ap (λ (c : Whole P). Some (record { state = record c { mutexes = map (mutex n) s.mutexes ++ record { number = n.mutex x; there = Some (record { content = Some (owned n v); shares = 1 }) } ∷ [] }; labels = [] }))
          (goes_renamed (Own (plain.Mutex x)) t.slots)
          ∙ ap (λ (xs : List Mutex). Some (record { state = record (all (goes_on ms s t k (Own (plain.Mutex x)) t.slots)) { mutexes = xs }; labels = [] }))
          (sym (map-append (mutex n) s.mutexes (record { number = x; there = Some (record { content = Some v; shares = 1 }) } ∷ []))))
      made_renamed (fresh.Mutex x) (ToSlot i) = refl
      made_renamed (fresh.Mutex x) (ToObject o) = refl
      made_renamed (fresh.Mutex x) (Held y) = refl
      made_renamed fresh.None v = refl
      made_renamed (fresh.Thread u) v = refl
      made_renamed (fresh.Threads u w) v = refl

      locked_with_renamed : (x : MutexNo) (ls : List Label) (y : Shared) (v : Option Plain) → IsLed (locked_with ms (all s) (one t) m (n.mutex x) (labels n ls) (shared n y) (option_map (owned n) v)) (locked_with ms s t k x ls y v)
      locked_with_renamed x ls y None = refl
      locked_with_renamed x ls y (Some v) =
          shared_renamed unit (Own v ∷ Held x ∷ t.slots) x (Some (record y { content = None })) (ls ++ label.Lock x ∷ []) _ (both_renamed n once ls (label.Lock x ∷ []) _ refl)

      where_renamed : (go go2 : Shared → Option (Stepped P)) → ((y : Shared) → IsLed (go (shared n y)) (go2 y)) → (x : Option Shared) → IsLed (where_there ms (option_map (shared n) x) go) (where_there ms x go2)
      where_renamed go go2 f None = refl
      where_renamed go go2 f (Some y) = f y

      at_mutex_renamed : (go go2 : MutexNo → List Label → Shared → Option (Stepped P)) → ((x : MutexNo) (ls : List Label) (y : Shared) → IsLed (go (n.mutex x) (labels n ls) (shared n y)) (go2 x ls y)) → (p : Option (MutexNo × List Label))
          → IsLed (at_mutex ms (all s) (option_map found p) go) (at_mutex ms s p go2)
      at_mutex_renamed go go2 f None = refl
      at_mutex_renamed go go2 f (Some p) =
          ap (λ x. where_there ms x (go (n.mutex p.0) (labels n p.1))) (there_renamed n once s.mutexes p.0) ∙ where_renamed (go (n.mutex p.0) (labels n p.1)) (go2 p.0 p.1) (f p.0 p.1) (mutex_there s.mutexes p.0)

      at_place_renamed : (w : Lval) (go go2 : MutexNo → List Label → Shared → Option (Stepped P)) → ((x : MutexNo) (ls : List Label) (y : Shared) → IsLed (go (n.mutex x) (labels n ls) (shared n y)) (go2 x ls y))
          → IsLed (at_place ms (all s) (one t) w go) (at_place ms s t w go2)
      at_place_renamed w go go2 f = ap (λ p. at_mutex ms (all s) p go) (mutex_behind_renamed (state_of s t) w) ∙ at_mutex_renamed go go2 f (mutex_behind (state_of s t) w)

      given_back_renamed : (c : Whole P) (x : MutexNo) (v : Plain) (y : Option Shared) → given_back ms (all c) (n.mutex x) (owned n v) (option_map (shared n) y) ≡ all (given_back ms c x v y)
      given_back_renamed c x v (Some y) = ap (λ (xs : List Mutex). record (all c) { mutexes = xs }) (with_mutex_renamed n once c.mutexes x (Some (record y { content = Some v })))
      given_back_renamed c x v None = dropped_whole_renamed n once r c v

      unlocked_renamed : (vs : List Value) → IsLed (unlocked ms (all s) (one t) m (all_kept n vs)) (unlocked ms s t k vs)
      unlocked_renamed [] = refl
      unlocked_renamed (Own v ∷ []) = refl
      unlocked_renamed (Own v ∷ Held x ∷ vs) =
          ap (λ (c : Whole P). Some (record { state = given_back ms c (n.mutex x) (owned n v) (mutex_there (map (mutex n) s.mutexes) (n.mutex x)); labels = label.Unlock (n.mutex x) ∷ [] })) (goes_renamed unit vs)
          ∙ ap (λ y. Some (record { state = given_back ms (all (goes_on ms s t k unit vs)) (n.mutex x) (owned n v) y; labels = label.Unlock (n.mutex x) ∷ [] })) (there_renamed n once s.mutexes x)
          ∙ ap (λ (c : Whole P). Some (record { state = c; labels = label.Unlock (n.mutex x) ∷ [] })) (given_back_renamed (goes_on ms s t k unit vs) x v (mutex_there s.mutexes x))
      unlocked_renamed (Own v ∷ Own w ∷ vs) = refl
      unlocked_renamed (Own v ∷ ToSlot i ∷ vs) = refl
      unlocked_renamed (Own v ∷ ToObject o ∷ vs) = refl
      unlocked_renamed (ToSlot i ∷ vs) = refl
      unlocked_renamed (ToObject o ∷ vs) = refl
      unlocked_renamed (Held x ∷ vs) = refl

      -- ALL ACTS

      nameless_renamed : (names : Fresh) (x y : Option (Stepped P)) → IsLed x y → IsLed (nameless (given n names) x) (nameless names y)
      nameless_renamed fresh.None x y e = e
      nameless_renamed (fresh.Thread u) x y e = refl
      nameless_renamed (fresh.Threads u v) x y e = refl
      nameless_renamed (fresh.Mutex u) x y e = refl

      act_led : (names : Fresh) (a : Act P) → IsLed (done_act ms (all s) (one t) (given n names) m (act_of n once r a)) (done_act ms s t names k a)
      act_led names (do_spawn cs p) = started_renamed names p cs
      act_led names (do_join v) = nameless_renamed names _ _ (joined_renamed v)
      act_led names (do_mutex v) = made_renamed names v
      act_led names (do_dup w) =
          nameless_renamed names _ _ (at_place_renamed w _ _ (λ x ls y. shared_renamed (Own (plain.Mutex x)) t.slots x (Some (record y { shares = y.shares + 1 })) ls _ refl))
      act_led names (do_lock w) = nameless_renamed names _ _ (at_place_renamed w _ _ (λ x ls y. locked_with_renamed x ls y y.content))
      act_led names do_unlock = nameless_renamed names _ _ (unlocked_renamed t.slots)
      act_led names (do_par cs p ds q) = two_started_renamed names cs p ds q
      act_led names do_par_end =
          nameless_renamed names _ _ (ap (two_joined ms (all s) (one t) m) (pair_renamed n once s.pairs t.number) ∙ two_joined_renamed (pair_of s.pairs t.number))
      act_led names (do_let v) = nameless_renamed names _ _ (alone_renamed (do_let v))
      act_led names (do_read w take) = nameless_renamed names _ _ (alone_renamed (do_read w take))
      act_led names (do_borrow w is_mut) = nameless_renamed names _ _ (alone_renamed (do_borrow w is_mut))
      act_led names (do_assign w v) = nameless_renamed names _ _ (alone_renamed (do_assign w v))
      act_led names (do_box v) = nameless_renamed names _ _ (alone_renamed (do_box v))
      act_led names (do_arith f a b) = nameless_renamed names _ _ (alone_renamed (do_arith f a b))
      act_led names (do_print v) = nameless_renamed names _ _ (alone_renamed (do_print v))
      act_led names (do_discard v) = nameless_renamed names _ _ (alone_renamed (do_discard v))
      act_led names do_drop = nameless_renamed names _ _ (alone_renamed do_drop)
      act_led names (do_end v) = nameless_renamed names _ _ (alone_renamed (do_end v))
      act_led names (do_finish v) = nameless_renamed names _ _ (alone_renamed (do_finish v))
      act_led names (do_leave v) = nameless_renamed names _ _ (alone_renamed (do_leave v))

    moved_renamed : (s : Whole P) (t : Thread P) (names : Fresh) (m k : Option (Move P (Life P))) → MoveRenamed n once r (life n r) m k → IsLed (moved ms (all s) (one t) (given n names) m) (moved ms s t names k)
    moved_renamed s t names None None h = refl
    moved_renamed s t names None (Some k) h = absurd h
    moved_renamed s t names (Some m) None h = absurd h
    moved_renamed s t names (Some m) (Some k) h = ap (done_act ms (all s) (one t) (given n names) m) h.0 ∙ act_led s t m k h.1 names k.act

    step_of_renamed : (s : Whole P) (names : Fresh) (t : Option (Thread P)) → IsLed (step_of ms (all s) (given n names) (option_map one t)) (step_of ms s names t)
    step_of_renamed s names None = refl
    step_of_renamed s names (Some t) = moved_renamed s t names (life_move ms (life n r t.life)) (life_move ms t.life) (life_move_renamed n once r ms moves t.life)

    pub step_renamed : (s : Whole P) (t : ℕ) (names : Fresh) → IsLed (step ms (all s) (n.thread t) (given n names)) (step ms s t names)
    step_renamed s t names = ap (step_of ms (all s) (given n names)) (thread_renamed n once r s.threads t) ∙ step_of_renamed s names (thread_at s.threads t)

    then_labels_renamed : (ls : List Label) (x : Option (Stepped P)) → IsLed (then_labels (labels n ls) (led x)) (then_labels ls x)
    then_labels_renamed ls None = refl
    then_labels_renamed ls (Some x) = ap (λ (ks : List Label). Some (record { state = all x.state; labels = ks })) (sym (map-append _ ls x.labels))

    pub run_renamed : (s : Whole P) (order : List Turn) → IsLed (run ms (all s) (map (turn n) order)) (run ms s order)
    run_renamed s [] = refl
    run_renamed s (t ∷ ts) = ap (λ x. go_on x (λ c. run ms c (map (turn n) ts))) (step_renamed s t.0 t.1) ∙ by (step ms s t.0 t.1) (λ c. run_renamed c ts)
      where
        by : (x : Option (Stepped P)) → ((c : Whole P) → IsLed (run ms (all c) (map (turn n) ts)) (run ms c ts)) → IsLed (go_on (led x) (λ c. run ms c (map (turn n) ts))) (go_on x (λ c. run ms c ts))
        by None f = refl
        by (Some x) f = ap (then_labels (labels n x.labels)) (f x.state) ∙ then_labels_renamed x.labels (run ms x.state ts)
