-- Who asked for an object that is to leave: a thread at another server, in a chain of whose own slots the object stands.
use Rattle.std.proofs.Common.{◌≡◌, ◌≤◌, ℕ, ◌+◌, ◌*◌, ◌==◌, ◌&&◌, not, Bool, true, false, List, [], ◌∷◌, Option, Some, None, refl, sym, ap, subst, ◌∙◌, arith}
use Rattle.std.specs.Prelude.{slice_get}
use Rattle.std.proofs.lemmas.Bool.Decides.{nat_tests}
use Rattle.std.proofs.lemmas.Bool.{eqb-true}
use Rattle.law_walks_others.specs.Below.fr_base.declared.name.ObjNo.{ObjNo}
use Rattle.law_walks_others.specs.Below.global_addr.Words.{server_of, address_of}
use Rattle.law_walks_others.specs.Below.thread_state.View.{is_over}
use Rattle.law_walks_others.specs.Below.thread_state.declared.phase.Phase.{Phase}
use Rattle.law_walks_others.specs.Below.thread_state.declared.phase.Phase.TheVariants as phase
use Rattle.law_walks_others.specs.Below.server_msgs.declared.message.Message.{Message}
use Rattle.law_walks_others.specs.Below.server_msgs.declared.message.Message.TheVariants as message
use Rattle.law_walks_others.specs.Below.server_model.Servers.{Server, Cluster, server_at}
use Rattle.law_walks_others.specs.Below.coherent_memory.Names.{tot, one, other, if_so, some, same_object}
use Rattle.law_walks_others.specs.Below.coherent_memory.Things.{Thing, in_cell, lies, flies, sent, message_things, things_of}
use Rattle.law_walks_others.specs.Below.coherent_memory.Follow.{Standing, thread_at}
use Rattle.law_walks_others.specs.Below.coherent_memory.OneHeap.{two_in}
use Rattle.law_walks_others.specs.Below.coherent_memory.Paths.{Awaited}
use Rattle.law_walks_others.specs.Below.coherent_memory.Sight.{sight, is_word, word}
use Rattle.law_walks_others.specs.Below.coherent_memory.Weights.{cells, lies_at, lies_under}
use Rattle.law_walks_others.specs.Below.coherent_memory.Walking.{path, asks_for, asked_for, own_request}
use Rattle.law_walks_others.specs.Below.coherent_memory.Requests.{is_cell, in_phase, in_server, stands_at, halves, halves_to, message_answer, carries, other_asker, not_there}
use Rattle.law_walks_others.specs.Below.coherent_memory.Coherent.{IsSound}
use Rattle.law_walks_others.proofs.Below.coherent_memory.Names.{and_left, and_right}
use Rattle.law_walks_others.proofs.Below.coherent_memory.Words.{named, itself}
use Rattle.law_walks_others.proofs.Below.law_counts_sums.MutexResults.{has}
use Rattle.law_walks_others.specs.Below.law_words_paths.paths.HeapStore.{GoesOn, HasPaths}
use Rattle.law_walks_others.proofs.Below.law_words_paths.paths.Contained.{among_thread}
use Rattle.law_walks_others.proofs.Below.law_words_kept.reads.FreshReads.{chain_apart}
use Rattle.law_walks_others.proofs.Below.law_results_reads.Alone.{needed_less, is_asked}
use Rattle.law_walks_others.proofs.Below.law_results_reads.Awaits.{awaited_mine}
use Rattle.law_walks_others.proofs.Below.law_results_reads.Made.{OwnedBy}
use Rattle.law_walks_others.proofs.Below.law_counts_waiting.waits.Written.{Written}

none_true : (b : Bool) → other b ≡ 0 → b ≡ true
none_true true z = refl
none_true false z = absurd (cc z)

-- ITS MESSAGE IS THE ONE ANSWER

module _ (t : ℕ) (a : Awaited) (o : ObjNo) where
  -- a message that asks for the object for the thread without being what it asks for
  abbrev strays_in : Message → ℕ
  strays_in (message.Move w p s u) = one ((u == t && same_object p o) && not (asks_for t a (message.Move w p s u)))
  strays_in m = 0

  abbrev strays : Thing → ℕ
  strays (sent r m) = strays_in m
  strays x = 0

  asked_less : (p q r : Bool) → 2 * one ((p && q) && r) ≤ if_so p 2
  asked_less true q r = by (q && r)
    where
      by : (b : Bool) → 2 * one b ≤ 2
      by true = omega arith
      by false = omega arith
  asked_less false q r = omega arith

  moved_less : (p q r s : Bool) → 2 * one ((p && q) && r) + 2 * one ((p && s) && not ((p && q) && r)) ≤ if_so p 2
  moved_less true q r s = by (q && r) s
    where
      by : (b d : Bool) → 2 * one b + 2 * one (d && not b) ≤ 2
      by true true = omega arith
      by true false = omega arith
      by false true = omega arith
      by false false = omega arith
  moved_less false q r s = omega arith

  message_counts : (m : Message) → 2 * one (asks_for t a m) + 2 * strays_in m ≤ halves t (message_answer m)
  message_counts (message.Fetch w p s u) = omega (arith, asked_less (u == t) (not a.comes) (a.word == w && same_object p a.object))
  message_counts (message.Fetched w c u) = omega (arith, asked_less (u == t) (not a.comes) (a.word == w && same_object c.object a.object))
  message_counts (message.Move w p s u) = moved_less (u == t) a.comes (a.word == w && same_object p a.object) (same_object p o)
  message_counts (message.Moved w c u) = omega (arith, asked_less (u == t) a.comes (a.word == w && same_object c.object a.object))
  message_counts _ = omega arith

  counts_less : (x : Thing) → 2 * asked_for t a x + 2 * strays x ≤ halves_to t x
  counts_less (sent r m) = message_counts m
  counts_less _ = omega arith

  all_less : (b : List Thing) → 2 * tot (asked_for t a) b + 2 * tot strays b ≤ tot (halves_to t) b
  all_less [] = omega arith
  all_less (x ∷ b) = omega (arith, counts_less x, all_less b)

-- WHO ASKED

pub record Mover (k : Cluster) (p : HasPaths k) (w a : ℕ) (o : ObjNo) : Type 0 where
  pub standing : Standing
  pub goes : GoesOn k standing
  pub server : standing.server ≡ a
  pub elsewhere : server_of w ≡ a → ⊥
  pub writes_it : Written k p standing.thread.number o

standing_of : (f : Phase → Bool) (o : Option Standing) → in_phase f o ≡ true → (x : Standing) × (o ≡ Some x) × (f x.thread.phase ≡ true)
standing_of f None e = absurd (cc e)
standing_of f (Some x) e = (x, refl, e)

is_waiting : (p : Phase) (w : ℕ) → is_cell w p ≡ true → p ≡ phase.WaitCell w
is_waiting (phase.WaitCell v) w e = ap phase.WaitCell (eqb-true v w e)
is_waiting _ w e = absurd (cc e)

server_is : (r : ℕ) (o : Option Standing) (x : Standing) → o ≡ Some x → in_server r o ≡ true → x.server ≡ r
server_is r o x e h = let same : (x.server == r) ≡ true = sym (ap (in_server r) e) ∙ h in grind (arith, nat_tests, same)

module _ (k : Cluster) (p : HasPaths k) (sound : IsSound k) (number : ℕ) (s : Server) (here : server_at k.servers number ≡ Some s) (i w a t : ℕ) (o : ObjNo) (q : slice_get s.rest.inbox i ≡ Some (message.Move w o a t)) where
  abbrev m : Message
  m = message.Move w o a t

  -- what is wrong with no message isn't with this one
  unbroken : (g : Thing → ℕ) → tot g (things_of k) ≡ 0 → g (sent s.rest.number m) ≡ 0
  unbroken g z = let all : tot g (message_things s.rest.number m) ≤ tot g (things_of k) = has k sound number s here i m q g in omega (arith, z, all)

  pub mover : Mover k p w a o
  mover =
      let carried : other (in_phase (is_cell w) (thread_at (sight k).ground.threads t)) ≡ 0 = unbroken (carries (sight k)) sound.requests.carry_what_is_asked in
      let z = standing_of (is_cell w) (thread_at (sight k).ground.threads t) (none_true (in_phase (is_cell w) (thread_at (sight k).ground.threads t)) carried) in
      let among = among_thread (sight k).ground.threads t z.0 z.1 in
      let waits_now = is_waiting z.0.thread.phase w z.2 in
      let goes : GoesOn k z.0 = record { among = among.0; going = ap is_over waits_now } in
      let turn = sound.walks.wait_in_turn z.0 w among.0 waits_now in
      let b = turn.awaited in
      let asked : 1 ≤ tot (asked_for t b) (things_of k) = subst (λ n. 1 ≤ tot (asked_for n b) (things_of k)) among.1 turn.asked in
      let none : tot (strays t b o) (things_of k) ≡ 0 = omega (arith, asked, all_less t b o (things_of k), sound.requests.one_answer t, needed_less t b o (things_of k), sound.names.numbers_differ t) in
      let its : strays t b o (sent s.rest.number m) ≡ 0 = unbroken (strays t b o) none in
      let asks : asks_for t b m ≡ true = is_asked t (same_object o o) (asks_for t b m) (itself o o refl) its in
      let mine : (t == t && b.comes) ≡ true = and_left (t == t && b.comes) (b.word == w && same_object o b.object) asks in
      let brings : (b.word == w && same_object o b.object) ≡ true = and_right (t == t && b.comes) (b.word == w && same_object o b.object) asks in
      let object : b.object ≡ o = sym (named o b.object (and_right (b.word == w) (same_object o b.object) brings)) in
      let owned : OwnedBy k p z.0.thread.number o = subst (OwnedBy k p z.0.thread.number) object (awaited_mine k p z.0 goes (path (sight k) z.0) refl w b (and_right (t == t) b.comes mine) turn.turn) in
      let asker : other (stands_at (sight k) t a) ≡ 0 = unbroken (other_asker (sight k)) sound.requests.askers_stand in
      let not_own : one (server_of w == a) ≡ 0 = unbroken own_request sound.walks.asks_others in
      record {
        standing = z.0;
        goes = goes;
        server = server_is a (thread_at (sight k).ground.threads t) z.0 z.1 (none_true (stands_at (sight k) t a) asker);
        elsewhere = λ e. none_same e not_own;
        writes_it = record {
          chain = record { slot = owned.slot; boxes = owned.boxes; leads_there = owned.leads };
          unread = λ x reads. chain_apart k p z.0 goes (ap two_in waits_now) x (in_cell o) reads owned.slot owned.boxes owned.leads;
        };
      }
    where
      none_same : server_of w ≡ a → one (server_of w == a) ≡ 0 → ⊥
      none_same e z = let same : (server_of w == a) ≡ true = grind (arith, nat_tests, e) in absurd (cc (sym (ap one same) ∙ z))

  -- WHERE IT LIES

  -- at two servers it would have two cells
  two_cells : (r v : ℕ) → (r ≡ server_of v → ⊥) → (x : Thing) → lies_at r o x + lies_under v o x ≤ cells o x
  two_cells r v ne (lies u b c) = by (u == r) refl (server_of v == u) refl (address_of v == b) (same_object c.object o)
    where
      by : (d : Bool) → (u == r) ≡ d → (f : Bool) → (server_of v == u) ≡ f → (g h : Bool) → one (d && h) + one ((f && g) && h) ≤ one h
      by true e true f g h = absurd (ne (grind (arith, nat_tests, e, f)))
      by true e false f g true = omega arith
      by true e false f g false = omega arith
      by false e true f true true = omega arith
      by false e true f true false = omega arith
      by false e true f false h = omega arith
      by false e false f g h = omega arith
  two_cells r v ne (flies u c) = omega arith
  two_cells r v ne x = omega arith

  two_all : (r v : ℕ) → (r ≡ server_of v → ⊥) → (b : List Thing) → tot (lies_at r o) b + tot (lies_under v o) b ≤ tot (cells o) b
  two_all r v ne [] = omega arith
  two_all r v ne (x ∷ b) = omega (arith, two_cells r v ne x, two_all r v ne b)

  some_one : (n : ℕ) → some n ≡ true → 1 ≤ n
  some_one Rattle.std.specs.Prelude.zero e = absurd (cc e)
  some_one (Rattle.std.specs.Prelude.suc n) e = omega arith

  -- it lies at the server of its word alone
  pub lies_home : (r : ℕ) → 1 ≤ tot (lies_at r o) (things_of k) → (r ≡ server_of w → ⊥) → ⊥
  lies_home r l ne =
      let under : other (is_word (word (sight k) o) w && some (tot (lies_under w o) (things_of k))) ≡ 0 = unbroken (not_there (sight k)) sound.requests.objects_there in
      let all = none_true (is_word (word (sight k) o) w && some (tot (lies_under w o) (things_of k))) under in
      let there = some_one (tot (lies_under w o) (things_of k)) (and_right (is_word (word (sight k) o) w) (some (tot (lies_under w o) (things_of k))) all) in
      absurd (omega (arith, l, there, two_all r w ne (things_of k), sound.one_home.home_of_each o))
