-- Events without an act, which change no answer: a thread starts or comes, and what a thread waits for becomes its gift.
use Rattle.std.proofs.Common.{◌≡◌, ◌≤◌, ℕ, ◌+◌, ◌==◌, not, nat_lt, Bool, true, false, if◌then◌else◌, List, [], ◌∷◌, ◌++◌, Option, Some, None, is_some, is_none, refl, sym, ap, subst, ◌∙◌, arith}
use Rattle.std.specs.Prelude.{option_map}
use Rattle.law_words_ends.specs.Below.fr_base.declared.name.MutexNo.{MutexNo}
use Rattle.law_words_ends.specs.Below.fr_base.declared.name.ObjNo.{ObjNo}
use Rattle.law_words_ends.specs.Below.fr_base.declared.label.Plain.{Plain}
use Rattle.law_words_ends.specs.Below.fr_base.declared.instruction.Instr.{Instr}
use Rattle.law_words_ends.specs.Below.fr_base.declared.instruction.Instr.TheVariants as instr
use Rattle.law_words_ends.specs.Below.heap_partition.declared.value.Owned.{Owned}
use Rattle.law_words_ends.specs.Below.heap_partition.declared.value.Owned.TheVariants as owned
use Rattle.law_words_ends.specs.Below.thread_state.View.{ThreadState, is_over}
use Rattle.law_words_ends.specs.Below.thread_state.declared.phase.Phase.{Phase}
use Rattle.law_words_ends.specs.Below.thread_state.declared.phase.Phase.TheVariants as phase
use Rattle.law_words_ends.specs.Below.server_msgs.declared.message.Message.{Message}
use Rattle.law_words_ends.specs.Below.server_msgs.declared.message.Message.TheVariants as message
use Rattle.law_words_ends.specs.Below.server_model.Servers.{Server, Cluster, server_at}
use Rattle.law_words_ends.specs.Below.server_model.Work.{Hand, Site, thread_in, with_thread, put_back, at_thread, then_some}
use Rattle.law_words_ends.specs.Below.server_model.Events.{received, deliver_message}
use Rattle.law_words_ends.specs.Below.server_model.Sharing.{given, waits_for_lock, deliver_granted, waits_for_dup, deliver_dupped}
use Rattle.law_words_ends.specs.Below.server_model.Joining.{arrive, waits_for_join, deliver_joined}
use Rattle.law_words_ends.specs.Below.law_words_kept.Below.coloured_heap.Heap.{Place, Copied, Wish, Running, Coloured}
use Rattle.law_words_ends.specs.Below.coherent_memory.Names.{tot, one, some, if_so, same_mutex}
use Rattle.law_words_ends.specs.Below.coherent_memory.OneHeap.{or_else}
use Rattle.law_words_ends.specs.Below.coherent_memory.Things.{as_content, as_result, Thing, sent, stands, thread_things, message_things}
use Rattle.law_words_ends.specs.Below.coherent_memory.Follow.{Standing}
use Rattle.law_words_ends.specs.Below.coherent_memory.Sight.{sight}
use Rattle.law_words_ends.specs.Below.coherent_memory.Paths.{joined_thread}
use Rattle.law_words_ends.specs.Below.coherent_memory.Walking.{instr_of}
use Rattle.law_words_ends.specs.Below.coherent_memory.Requests.{locked_mutex, dupped_mutex, is_mutex, is_task, stands_wrong}
use Rattle.law_words_ends.specs.Below.coherent_memory.Weights.{is_thread}
use Rattle.law_words_ends.specs.Below.coherent_memory.Naming.{started_at, made_at}
use Rattle.law_words_ends.specs.Below.coherent_memory.Colours.{StandsColoured, running_of}
use Rattle.law_words_ends.specs.Below.coherent_memory.Coherent.{IsSound}
use Rattle.law_words_ends.proofs.Below.coherent_memory.Names.{same_mutexes}
use Rattle.law_words_ends.specs.Below.law_counts_sums.Laws.{Gives}
use Rattle.law_words_ends.proofs.Below.law_counts_sums.Trades.{tot-append, tot-front}
use Rattle.law_words_ends.proofs.Below.law_counts_sums.Results.{stand_gives}
use Rattle.law_words_ends.proofs.Below.law_counts_sums.Bags.{all_standing, rest_things, thread_number}
use Rattle.law_words_ends.proofs.Below.law_counts_sums.Askers.{other_none}
use Rattle.law_words_ends.proofs.Below.law_counts_sums.GiftsTaken.{none_here}
use Rattle.law_words_ends.proofs.Below.law_heap_still.events.Told.{told}
use Rattle.law_words_ends.proofs.Below.law_words_kept.Below.coloured_heap.ShownNames.{mutex_flip}
use Rattle.law_entries_variables.specs.deliveries.Entries.{LeadsOn}
use Rattle.law_entries_variables.proofs.deliveries.Answers.{Agrees, answers_of, Fits, fits}
use Rattle.law_entries_variables.proofs.deliveries.Weighed.{Seen, SiteTurns, WorkTurns, thread_seen, thread_turns}
use Rattle.law_entries_variables.proofs.deliveries.Shown.{if_some, placed_in, dropped_by, copy_in, served_in, wished_in, runs, holder_by, there_in}
use Rattle.law_entries_variables.proofs.deliveries.Live.{issued_by}
use Rattle.law_entries_variables.proofs.deliveries.After.{Follows, Keeps, living_still, copy_still, served_still, issued_still, started_still, running_still, ended_by, wishes_still, made_still, there_less, holder_still}
use Rattle.law_entries_variables.proofs.deliveries.Runs.{silent, runs_none, leads_on}
use Rattle.law_entries_variables.proofs.deliveries.Applied.{Legal, server_there}

-- NOTHING THAT IS ASKED FOR CHANGES

pub record Quietly (k : Cluster) (olds news : List Thing) : Type 0 where
  pub objects : (o : ObjNo) (g : Plain × Place → ℕ) → tot (λ x. told g (placed_in o x)) olds ≡ tot (λ x. told g (placed_in o x)) news
  pub drops : (o : ObjNo) → tot (dropped_by o) olds ≡ tot (dropped_by o) news
  pub copies : (r w : ℕ) (g : Copied → ℕ) → tot (λ x. told g (copy_in r w x)) olds ≡ tot (λ x. told g (copy_in r w x)) news
  pub served : (a : Copied) → tot (served_in a) olds ≡ tot (served_in a) news
  pub issued : (h : ObjNo → ℕ) (n w : ℕ) → tot (issued_by h n w) olds ≡ tot (issued_by h n w) news
  pub started : (s n : ℕ) → tot (started_at s n) olds ≡ tot (started_at s n) news
  pub made : (s n : ℕ) → tot (made_at s n) olds ≡ tot (made_at s n) news
  pub threads : (t : ℕ) → tot (is_thread t) olds ≡ tot (is_thread t) news
  pub running : (t : ℕ) (g : Running → ℕ) → tot (runs g t) olds ≡ tot (runs g t) news
  pub wishes : (a : Wish) → tot (wished_in a) olds ≡ tot (wished_in a) news
  -- a mutex may go
  pub there : (m : MutexNo) → tot (there_in m) news ≤ tot (there_in m) olds
  pub holders : (m : MutexNo) (g : ℕ → ℕ) → tot (λ x. told g (holder_by (sight k) m x)) olds ≡ tot (λ x. told g (holder_by (sight k) m x)) news

pub quiet_agrees : (k c : Cluster) (olds news : List Thing) → IsSound k → Follows k c olds news → Keeps k c → Quietly k olds news → Agrees (answers_of (sight k)) (answers_of (sight c))
quiet_agrees k c olds news sound f keeps q =
    let started = started_still k c olds news sound f q.started in
    let running : (t : ℕ) → running_of (sight k) t ≡ running_of (sight c) t = (λ t. running_still k c olds news sound f q.threads t (q.running t)) in record {
      object = λ o. living_still k c olds news sound f keeps o (q.objects o) (q.drops o);
      copy = λ r w. copy_still k c olds news sound f r w (q.copies r w);
      served = λ a. served_still k c olds news sound f a (q.served a);
      issued = λ w. issued_still k c olds news sound f keeps q.issued w;
      started = started;
      running = running;
      ended = ended_by k c started (λ t. ap is_none (running t));
      wishes = λ a. wishes_still k c olds news sound f a (q.wishes a);
      made = made_still k c olds news sound f q.made;
      there = λ m. there_less k c olds news sound f m (q.there m);
      holder = λ m. holder_still k c olds news sound f keeps m (q.holders m);
    }

-- so an entry without an act leads on
pub quiet_leads : (k c : Cluster) (number : ℕ) (s : Server) (olds news : List Thing) (c0 : Coloured) → IsSound k → server_at k.servers number ≡ Some s → StandsColoured k c0 → Follows k c olds news → Keeps k c → Quietly k olds news
    → LeadsOn k.options (silent s.rest.number None []) c0 c
quiet_leads k c number s olds news c0 sound here like f keeps q =
    let a = answers_of (sight k) in
    let h : Fits a c0 = fits (sight k) c0 like in
    leads_on k.options s.rest.number None [] c0 a a c h (server_there k sound number s here).0 tt (runs_none k.options (silent s.rest.number None []) c0 a h) (quiet_agrees k c olds news sound f keeps q)

-- the same things in other lists
pub follows_as : (k c : Cluster) (olds news olds2 news2 : List Thing) → ((f : Thing → ℕ) → Seen f → tot f olds + tot f news2 ≡ tot f olds2 + tot f news) → Follows k c olds news → Follows k c olds2 news2
follows_as k c olds news olds2 news2 e f = record { code = f.code; options = f.options; things = λ g h. omega (arith, f.things g h, e g h) }

-- A THREAD THAT COMES

tot-with : (f : Thing → ℕ) (n : ℕ) (xs : List ThreadState) (x : ThreadState) → tot f (all_standing n (with_thread xs x)) ≡ tot f (thread_things n false x) + tot f (all_standing n xs)
tot-with f n [] x = omega (arith, tot-append f (thread_things n false x) [])
tot-with f n (y ∷ xs) x = either (nat_lt x.number y.number) (tot-with f n xs x)
  where
    either : (b : Bool) → tot f (all_standing n (with_thread xs x)) ≡ tot f (thread_things n false x) + tot f (all_standing n xs)
        → tot f (all_standing n (if b then x ∷ y ∷ xs else y ∷ with_thread xs x)) ≡ tot f (thread_things n false x) + tot f (all_standing n (y ∷ xs))
    either true go = tot-front (thread_things n false) f 0 x (y ∷ xs)
    either false go = omega (arith, tot-front (thread_things n false) f 0 y (with_thread xs x), tot-front (thread_things n false) f 0 y xs, go)

module _ (k : Cluster) (sound : IsSound k) (number : ℕ) (s : Server) (here : server_at k.servers number ≡ Some s) (c0 : Coloured) (is_coloured : StandsColoured k c0) where
  abbrev n : ℕ
  n = s.rest.number

  abbrev Ok : List Thing → Site → Site → Type 0
  Ok has start x = Legal k s None has start c0 x

  -- a message that is nothing but a thread, and is counted nowhere
  record IsParcel (m : Message) (p : ThreadState) : Type 0 where
    carries : (f : Thing → ℕ) → tot f (message_things n m) ≡ f (sent n m) + tot f (thread_things n true p)
    bare : Quietly k (sent n m ∷ []) []

  comes : (i : ℕ) (m : Message) (p : ThreadState) → IsParcel m p → Gives (Ok (message_things n m) (received i s)) (arrive p (received i s))
  comes i m p q = stand_gives (Ok (message_things n m) (received i s)) (thread_in s.threads p.number) p (received i s) there
    where
      x : Site
      x = received i s

      turned : SiteTurns x [] (thread_things n false p) [] (record x { threads = with_thread x.threads p })
      turned = record {
        number = refl;
        noted = refl;
        labels = refl;
        things = λ f h. omega (arith, tot-with f n s.threads p, tot-append f (all_standing n s.threads) (rest_things n 0 x.work.rest), tot-append f (all_standing n (with_thread s.threads p)) (rest_things n 0 x.work.rest));
      }

      olds : List Thing
      olds = sent n m ∷ stands n true p ∷ []

      news : List Thing
      news = stands n false p ∷ []

      quietly : Quietly k olds news
      quietly = record {
        objects = λ o g. q.bare.objects o g;
        drops = λ o. q.bare.drops o;
        copies = λ r w g. q.bare.copies r w g;
        served = λ a. q.bare.served a;
        issued = λ h r w. q.bare.issued h r w;
        started = λ r w. q.bare.started r w;
        made = λ r w. q.bare.made r w;
        threads = λ t. omega (arith, q.bare.threads t);
        running = λ t g. omega (arith, q.bare.running t g);
        wishes = λ a. q.bare.wishes a;
        there = λ o. q.bare.there o;
        holders = λ o g. omega (arith, q.bare.holders o g);
      }

      there : Ok (message_things n m) x (record x { threads = with_thread x.threads p })
      there = record {
        olds = [];
        news = thread_things n false p;
        acts = [];
        turns = turned;
        leads = λ c f keeps.
            quiet_leads k c number s olds news c0 sound here is_coloured
            (follows_as k c (message_things n m ++ []) (thread_things n false p) olds news (λ g h. omega (arith, q.carries g, thread_seen g h n true p, thread_seen g h n false p, tot-append g (message_things n m) [])) f) keeps quietly;
      }

  nothing_sent : (m : Message) → ((o : ObjNo) (g : Plain × Place → ℕ) → told g (placed_in o (sent n m)) ≡ 0) → ((o : ObjNo) → dropped_by o (sent n m) ≡ 0) → ((a : Copied) → served_in a (sent n m) ≡ 0) → ((a : Wish) → wished_in a (sent n m) ≡ 0)
      → ((o : MutexNo) (g : ℕ → ℕ) → told g (holder_by (sight k) o (sent n m)) ≡ 0) → Quietly k (sent n m ∷ []) []
  nothing_sent m a b c d e = record {
    objects = λ o g. omega (arith, a o g);
    drops = λ o. omega (arith, b o);
    copies = λ r w g. refl;
    served = λ i. omega (arith, c i);
    issued = λ h r w. refl;
    started = λ r w. refl;
    made = λ r w. refl;
    threads = λ t. refl;
    running = λ t g. refl;
    wishes = λ i. omega (arith, d i);
    there = λ o. omega arith;
    holders = λ o g. omega (arith, e o g);
  }

  pub thread_starts : (i : ℕ) (p : ThreadState) → Gives (Ok (message_things n (message.Start p)) (received i s)) (deliver_message k.code (message.Start p) (received i s))
  thread_starts i p = comes i (message.Start p) p (record { carries = λ f. refl; bare = nothing_sent (message.Start p) (λ o g. refl) (λ o. refl) (λ a. refl) (λ a. refl) (λ o g. refl) })

  pub thread_arrives : (i : ℕ) (p : ThreadState) → Gives (Ok (message_things n (message.Migrate p)) (received i s)) (deliver_message k.code (message.Migrate p) (received i s))
  thread_arrives i p = comes i (message.Migrate p) p (record { carries = λ f. refl; bare = nothing_sent (message.Migrate p) (λ o g. refl) (λ o. refl) (λ a. refl) (λ a. refl) (λ o g. refl) })

  -- A GIFT

  -- who waits with this phase gets this gift
  abbrev with_gift : ThreadState → Owned → ThreadState
  with_gift y v = record y { gift = Some v; phase = phase.Got }

  abbrev me : ThreadState → Standing
  me y = record { server = n; packed = false; thread = y }

  module _ (i : ℕ) (m : Message) (t : ℕ) (v : Owned) (seen : (g : Thing → ℕ) → Seen g → tot g (message_things n m) ≡ g (sent n m)) (a : (o : ObjNo) (g : Plain × Place → ℕ) → told g (placed_in o (sent n m)) ≡ 0) (b : (o : ObjNo) → dropped_by o (sent n m) ≡ 0)
      (c : (j : Copied) → served_in j (sent n m) ≡ 0) (d : (j : Wish) → wished_in j (sent n m) ≡ 0) where
    abbrev x : Site
    x = received i s

    abbrev P : Site → Type 0
    P z = Ok (message_things n m) (received i s) z

    same_work : WorkTurns x.work [] [] [] x.work
    same_work = record { number = refl; noted = refl; labels = refl; things = λ g h. refl }

    module _ (y : ThreadState) (at : thread_in s.threads t ≡ Some y) (live : is_over y.phase ≡ false) (empty : y.gift ≡ None)
        (e : (o : MutexNo) (g : ℕ → ℕ) → told g (holder_by (sight k) o (sent n m)) ≡ told g (holder_by (sight k) o (stands n false (with_gift y v)))) where
      abbrev z : ThreadState
      z = with_gift y v

      abbrev olds : List Thing
      olds = sent n m ∷ stands n false y ∷ []

      abbrev news : List Thing
      news = stands n false z ∷ []

      none_held : (o : MutexNo) (g : ℕ → ℕ) → told g (holder_by (sight k) o (stands n false y)) ≡ 0
      none_held o g = ap (λ j. told g (if_some (some (if_so (is_some j) (one (is_mutex o (locked_mutex (sight k) (me y) (instr_of (sight k) (me y))))))) y.number)) empty

      runs_same : (u : ℕ) (g : Running → ℕ) → runs g u (stands n false y) ≡ runs g u (stands n false z)
      runs_same u g = ap (λ q. if_so (y.number == u) (told g (if_some (not q) (record { thread = u; server = n; has_ended = false })))) live

      quietly : Quietly k olds news
      quietly = record {
        objects = λ o g. omega (arith, a o g);
        drops = λ o. omega (arith, b o);
        copies = λ r w g. refl;
        served = λ j. omega (arith, c j);
        issued = λ h r w. refl;
        started = λ r w. refl;
        made = λ r w. refl;
        threads = λ u. omega arith;
        running = λ u g. omega (arith, runs_same u g);
        wishes = λ j. omega (arith, d j);
        there = λ o. omega arith;
        holders = λ o g. omega (arith, none_held o g, e o g);
      }

      gets : P (put_back s.threads (record { work = x.work; thread = z }))
      gets = record {
        olds = stands n false y ∷ [];
        news = stands n false z ∷ [];
        acts = [];
        turns = thread_turns x t y z [] [] [] x.work at refl refl same_work;
        leads = λ c1 f1 keeps.
            quiet_leads k c1 number s olds news c0 sound here is_coloured
            (follows_as k c1 (message_things n m ++ stands n false y ∷ []) (stands n false z ∷ []) olds news (λ g h. omega (arith, seen g h, tot-append g (message_things n m) (stands n false y ∷ []))) f1) keeps quietly;
      }

    -- of a message that brings a gift: who is told of by it, and then by the thread with its gift
    gift_comes : (waits : Phase → Bool) (f : Hand → Option Hand) → ((h : Hand) → f h ≡ (if waits h.thread.phase then given v h.thread.gift h else None)) → ((p : Phase) → waits p ≡ true → is_over p ≡ false)
        → ((y : ThreadState) → thread_in s.threads t ≡ Some y → waits y.phase ≡ true → stands_wrong (sight k) (me y) y.phase ≡ 0 → (o : MutexNo) (g : ℕ → ℕ) → told g (holder_by (sight k) o (sent n m)) ≡ told g (holder_by (sight k) o (stands n false (with_gift y v))))
        → Gives (Ok (message_things n m) (received i s)) (at_thread t f (received i s))
    gift_comes waits f is live e = by (thread_in s.threads t) refl
      where
        rightly : (y : ThreadState) → thread_in s.threads t ≡ Some y → stands_wrong (sight k) (me y) y.phase ≡ 0
        rightly y at = none_here k sound number s here t y at (λ u. stands_wrong (sight k) u u.thread.phase) sound.requests.phases_stand

        gift_put : (y : ThreadState) → thread_in s.threads t ≡ Some y → waits y.phase ≡ true → (o : Option Owned) → y.gift ≡ o → Gives P (option_map (put_back s.threads) (given v o (record { work = x.work; thread = y })))
        gift_put y at on (Some u) q = tt
        gift_put y at on None q = gets y at (live y.phase on) q (e y at on (rightly y at))

        waiting : (y : ThreadState) → thread_in s.threads t ≡ Some y → (q : Bool) → waits y.phase ≡ q → Gives P (option_map (put_back s.threads) (if q then given v y.gift (record { work = x.work; thread = y }) else None))
        waiting y at false on = tt
        waiting y at true on = gift_put y at on y.gift refl

        by : (o : Option ThreadState) → thread_in s.threads t ≡ o → Gives P (then_some (option_map (λ y. record { work = x.work; thread = y }) o) (λ h. option_map (put_back s.threads) (f h)))
        by None at = tt
        by (Some y) at = subst (λ r. Gives P (option_map (put_back s.threads) r)) (sym (is (record { work = x.work; thread = y }))) (waiting y at (waits y.phase) refl)

  -- WHAT THE GIFT IS

  is_the_mutex : (m : MutexNo) (o : Option MutexNo) → is_mutex m o ≡ true → o ≡ Some m
  is_the_mutex m None e = absurd (cc e)
  is_the_mutex m (Some j) e = ap (λ i. Some i) (sym (same_mutexes m j e))

  locked_so : (y : ThreadState) (m : MutexNo) (p : Phase) → waits_for_lock p m ≡ true → stands_wrong (sight k) (me y) p ≡ 0 → locked_mutex (sight k) (me y) (instr_of (sight k) (me y)) ≡ Some m
  locked_so y m (phase.WaitLock j) e z = is_the_mutex j (locked_mutex (sight k) (me y) (instr_of (sight k) (me y))) (other_none (is_mutex j (locked_mutex (sight k) (me y) (instr_of (sight k) (me y)))) z) ∙ ap (λ i. Some i) (same_mutexes j m e)
  locked_so y m _ e z = absurd (cc e)

  unlocked_dup : (y : ThreadState) (m : MutexNo) (p : Phase) → waits_for_dup p m ≡ true → stands_wrong (sight k) (me y) p ≡ 0 → locked_mutex (sight k) (me y) (instr_of (sight k) (me y)) ≡ None
  unlocked_dup y m (phase.WaitDup j) e z = by (instr_of (sight k) (me y)) (other_none (is_mutex j (dupped_mutex (sight k) (me y) (instr_of (sight k) (me y)))) z)
    where
      by : (i : Option Instr) → is_mutex j (dupped_mutex (sight k) (me y) i) ≡ true → locked_mutex (sight k) (me y) i ≡ None
      by (Some (instr.Dup w)) q = refl
      by _ q = absurd (cc q)
  unlocked_dup y m _ e z = absurd (cc e)

  unlocked_join : (y : ThreadState) (u : ℕ) (p : Phase) → waits_for_join p u ≡ true → stands_wrong (sight k) (me y) p ≡ 0 → locked_mutex (sight k) (me y) (instr_of (sight k) (me y)) ≡ None
  unlocked_join y u (phase.WaitJoin j) e z = by (instr_of (sight k) (me y)) (other_none (is_task j (joined_thread (instr_of (sight k) (me y)) y)) z)
    where
      by : (i : Option Instr) → is_task j (joined_thread i y) ≡ true → locked_mutex (sight k) (me y) i ≡ None
      by (Some (instr.Join o)) q = refl
      by _ q = absurd (cc q)
  unlocked_join y u _ e z = absurd (cc e)

  some_one : {A : Type 0} (q : Bool) (x : A) → if_some (some (one q)) x ≡ if_some q x
  some_one true x = refl
  some_one false x = refl

  -- a content that comes
  pub content_comes : (i : ℕ) (m : MutexNo) (v : Owned) (t : ℕ) → Gives (Ok (message_things n (message.Granted m v t)) (received i s)) (deliver_message k.code (message.Granted m v t) (received i s))
  content_comes i m v t =
      gift_comes i (message.Granted m v t) t v (λ g h. omega (arith, h.held (as_content m) v)) (λ o g. refl) (λ o. refl) (λ a. refl) (λ a. refl) (λ p. waits_for_lock p m) (deliver_granted m v) (λ h. refl) lives
      (λ y at on right o g.
      let locked = locked_so y m y.phase on right in
      let granted : holder_by (sight k) o (stands n false (with_gift y v)) ≡ if_some (same_mutex m o) y.number =
      ap (λ j. if_some (some (one (is_mutex o j))) y.number) locked ∙ some_one (is_mutex o (Some m)) y.number ∙ ap (λ q. if_some q y.number) (turned o m) in
      ap (told g) (or_none (if_some (same_mutex m o) t) ∙ ap (if_some (same_mutex m o)) (sym (thread_number s.threads t y at)) ∙ sym granted))
    where
      lives : (p : Phase) → waits_for_lock p m ≡ true → is_over p ≡ false
      lives (phase.WaitLock j) e = refl
      lives _ e = absurd (cc e)

      turned : (a b : MutexNo) → same_mutex a b ≡ same_mutex b a
      turned a b = mutex_flip a b

      or_none : (o : Option ℕ) → or_else o None ≡ o
      or_none None = refl
      or_none (Some x) = refl

  -- a share that comes
  pub share_comes : (i : ℕ) (m : MutexNo) (t : ℕ) → Gives (Ok (message_things n (message.Dupped m t)) (received i s)) (deliver_message k.code (message.Dupped m t) (received i s))
  share_comes i m t =
      gift_comes i (message.Dupped m t) t (owned.Mutex m) (λ g h. omega arith) (λ o g. refl) (λ o. refl) (λ a. refl) (λ a. refl) (λ p. waits_for_dup p m) (deliver_dupped m) (λ h. refl) lives
      (λ y at on right o g. sym (ap (λ j. told g (if_some (some (one (is_mutex o j))) y.number)) (unlocked_dup y m y.phase on right)))
    where
      lives : (p : Phase) → waits_for_dup p m ≡ true → is_over p ≡ false
      lives (phase.WaitDup j) e = refl
      lives _ e = absurd (cc e)

  -- a result that comes
  pub result_comes : (i u : ℕ) (v : Owned) (t : ℕ) → Gives (Ok (message_things n (message.Joined u v t)) (received i s)) (deliver_message k.code (message.Joined u v t) (received i s))
  result_comes i u v t =
      gift_comes i (message.Joined u v t) t v (λ g h. omega (arith, h.held (as_result u) v)) (λ o g. refl) (λ o. refl) (λ a. refl) (λ a. refl) (λ p. waits_for_join p u) (deliver_joined u v) (λ h. refl) lives
      (λ y at on right o g. sym (ap (λ j. told g (if_some (some (one (is_mutex o j))) y.number)) (unlocked_join y u y.phase on right)))
    where
      lives : (p : Phase) → waits_for_join p u ≡ true → is_over p ≡ false
      lives (phase.WaitJoin j) e = refl
      lives _ e = absurd (cc e)
