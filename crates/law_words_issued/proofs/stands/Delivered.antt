-- Each delivery but that of a `moved` keeps it that each word was issued, where objects keep their words.
use Rattle.std.proofs.Common.{◌≡◌, ℕ, ◌≤◌, ◌&&◌, Bool, true, false, nat_lt, Option, Some, None, refl, sym, ap, subst, ◌∙◌, arith}
use Rattle.std.specs.Prelude.{slice_get}
use Rattle.std.specs.List.{AllByRecursion}
use Rattle.law_walks_own.specs.Below.fr_base.declared.name.ObjNo.{ObjNo}
use Rattle.law_walks_own.specs.Below.global_addr.Words.{colour_of, address_of}
use Rattle.law_walks_own.specs.Below.law_walks_others.Below.owner_box.Partition.{freed}
use Rattle.law_walks_own.specs.Below.journal.View.{EntryView}
use Rattle.law_walks_own.specs.Below.server_msgs.declared.message.Message.{Message}
use Rattle.law_walks_own.specs.Below.server_msgs.declared.message.Message.TheVariants as message
use Rattle.law_walks_own.specs.Below.server_model.declared.event.Event.{Event}
use Rattle.law_walks_own.specs.Below.server_model.declared.event.What.TheVariants.{Deliver}
use Rattle.law_walks_own.specs.Below.server_model.Servers.{Server, Cluster, server_at}
use Rattle.law_walks_own.specs.Below.server_model.Work.{Work, Site, then_some, beside_threads}
use Rattle.law_walks_own.specs.Below.server_model.Objects.{deliver_move, deliver_drop}
use Rattle.law_walks_own.specs.Below.server_model.Events.{left_by, received, deliver, deliver_message, does}
use Rattle.law_walks_own.specs.Below.coherent_memory.Names.{tot, other, some}
use Rattle.law_walks_own.specs.Below.coherent_memory.Things.{sent, partition_things, things_of}
use Rattle.law_walks_own.specs.Below.coherent_memory.Weights.{states}
use Rattle.law_walks_own.specs.Below.coherent_memory.Sight.{is_word, word, sight}
use Rattle.law_walks_own.specs.Below.coherent_memory.Placing.{words}
use Rattle.law_walks_own.specs.Below.coherent_memory.Weights.{lies_under}
use Rattle.law_walks_own.specs.Below.coherent_memory.Requests.{not_there}
use Rattle.law_walks_own.specs.Below.coherent_memory.Coherent.{IsSound}
use Rattle.law_walks_own.proofs.Below.coherent_memory.Names.{and_left, same_number}
use Rattle.law_walks_own.proofs.Below.coherent_memory.Sums.{server_parts}
use Rattle.law_walks_own.specs.Below.law_counts_sums.Laws.{Gives, FewEvents}
use Rattle.law_walks_own.proofs.Below.law_counts_sums.Results.{over_gives, weaker}
use Rattle.law_walks_own.proofs.Below.law_counts_sums.Cells.{looked, not_free}
use Rattle.law_walks_own.proofs.Below.law_counts_sums.ObjectMessages.{looked_object}
use Rattle.law_walks_own.proofs.Below.law_counts_sums.Events.{tot-server}
use Rattle.law_walks_own.proofs.Below.law_counts_sums.MutexResults.{has}
use Rattle.law_walks_own.proofs.Below.law_counts_sums.Known.{all_at}
use Rattle.law_walks_own.proofs.Below.law_counts_things.things.Threads.{remove_all}
use Rattle.law_walks_own.proofs.Below.law_words_kept.reads.Lookups.{one_state}
use Rattle.law_walks_own.proofs.Below.law_counts_things.names.Fit.{ThreadFits, MessageFits, RestFits}
use Rattle.law_walks_own.proofs.Below.law_counts_things.names.Sums.{base_of}
use Rattle.law_words_issued.specs.stands.Issuing.{LandsNone, DeliveriesKeepIssued}
use Rattle.law_words_issued.proofs.stands.Words.{only}
use Rattle.law_words_issued.proofs.stands.Deliveries.{MovesNone}
use Rattle.law_words_issued.proofs.stands.Does.{ServerKept, delivering}
use Rattle.law_words_issued.proofs.stands.Frees.{Left, moves, drops, freed_issued}
use Rattle.law_words_issued.proofs.stands.Events.{was, at, Good, same_good, fits, keeps_issued}

none_so : (b : Bool) → other b ≡ 0 → b ≡ true
none_so true z = refl
none_so false z = absurd (cc z)

told_word : (o : Option ℕ) (w : ℕ) → is_word o w ≡ true → o ≡ Some w
told_word None w e = absurd (cc e)
told_word (Some v) w e = ap (λ x. Some x) (same_number v w e)

same_message : {x y : Message} → Some x ≡ Some y → x ≡ y
same_message e = cc

module _ (k : Cluster) (e : Event) (sound : IsSound k) (few : FewEvents k) (i : ℕ) (s : Server) (here : server_at k.servers e.server ≡ Some s) where
  abbrev g : ℕ → ℕ
  g = was k e sound few

  -- the message that goes
  kept_fits : RestFits (only (was k e sound few)) (base_of s) s.rest
  kept_fits = let f = fits k e sound few s here in let both = f.0 in both.0

  less : RestFits (only (was k e sound few)) (base_of s) (received i s).work.rest
  less =
      let rest = kept_fits in record {
        numbered = rest.numbered;
        begun = rest.begun;
        made_so = rest.made_so;
        homed = rest.homed;
        partition = rest.partition;
        copies = rest.copies;
        mutexes = rest.mutexes;
        tasks = rest.tasks;
        waiting = remove_all (MessageFits (only (was k e sound few)) s.rest.number) s.rest.inbox i rest.waiting;
        leaving = rest.leaving;
      }

  module _ (v : ℕ) (o : ObjNo) where
    -- the object left, and its address keeps what was issued there
    abbrev Gone : Site → Type 0
    Gone x = Left (was k e sound few) (base_of s) s.rest.partition v o x.work.rest × AllByRecursion (ThreadFits (only (was k e sound few))) x.threads

    -- the message has the object's word, of a colour below the limit
    record Tells : Type 0 where
      word_is : word (sight k) o ≡ Some v
      low : nat_lt (colour_of v) k.options.colours ≡ true

    goes : Tells → (x : Site) → Gone x → Good k e sound few s here (left_by s.events None None x)
    goes tells x u =
        let left = u.0 in
        let found = left.1 in
        let p = s.rest.partition in
        let n = s.rest.number in
        let look = looked_object p v o found.0 found.1 in
        let cell = looked p v found.0 look.0 in
        let state : tot (states (n, address_of v)) (partition_things n p) ≤ 1 = omega (
          arith,
          one_state k sound (n, address_of v),
          (tot-server (states (n, address_of v)) k.servers e.server s s here).0,
          server_parts (states (n, address_of v)) s,
        ) in record {
          partition = freed p v;
          kept = (left.0, u.1);
          grows = λ w. freed_issued k.options.colours (sight k).pointers w n p v o found.0 found.1 (not_free n p (address_of v) found.0 cell state) tells.word_is tells.low;
        }

    gone_by : (f : Work → Option Work) (m : Message) → slice_get s.rest.inbox i ≡ Some m → ((x : Site) → deliver_message k.code m x ≡ beside_threads f x) → Tells
        → Gives (λ (y : Work). Left (was k e sound few) (base_of s) s.rest.partition v o y.rest) (f (received i s).work) → Gives (Good k e sound few s here) (does k.code k.options s (Deliver i))
    gone_by f m q is tells u =
        over_gives Gone (Good k e sound few s here) (deliver k.code i s) (left_by s.events None None)
        (subst (λ x. Gives Gone (then_some x (λ y. deliver_message k.code y (received i s)))) (sym q)
        (subst (Gives Gone) (sym (is (received i s))) (over_gives (λ (y : Work). Left (was k e sound few) (base_of s) s.rest.partition v o y.rest) Gone (f (received i s).work) (λ y. record (received i s) { work = y }) u (λ y l. (l, threads))))) (goes tells)
      where
        threads : AllByRecursion (ThreadFits (only (was k e sound few))) s.threads
        threads = let f = fits k e sound few s here in f.1

    -- what a message says is in the cluster
    tells_by : (m : Message) → slice_get s.rest.inbox i ≡ Some m → not_there (sight k) (sent s.rest.number m) ≡ other (is_word (word (sight k) o) v && some (tot (lies_under v o) (things_of k)))
        → words (λ w. other (nat_lt (colour_of w) k.options.colours)) (sent s.rest.number m) ≡ other (nat_lt (colour_of v) k.options.colours) → Tells
    tells_by m q there coloured =
        let all = sound.requests.objects_there in
        let limits = sound.words.below_limit in
        record {
          word_is = told_word (word (sight k) o) v (and_left (is_word (word (sight k) o) v) (some (tot (lies_under v o) (things_of k))) (none_so _ (omega (arith, all, has k sound e.server s here i m q (not_there (sight k)), there))));
          low = none_so (nat_lt (colour_of v) k.options.colours) (omega (arith, limits, has k sound e.server s here i m q (words (λ w. other (nat_lt (colour_of w) k.options.colours))), coloured));
        }

  calm : (m : Message) → slice_get s.rest.inbox i ≡ Some m → MovesNone (only (was k e sound few)) (base_of s) s.rest.partition m → Gives (Good k e sound few s here) (does k.code k.options s (Deliver i))
  calm m q none =
      weaker (λ (r : Server × EntryView). ServerKept (only (was k e sound few)) (base_of s) s.rest.partition r.0) (Good k e sound few s here) (does k.code k.options s (Deliver i))
      (delivering (was k e sound few) (base_of s) s.rest.partition k.code k.options s (fits k e sound few s here) i
      (λ x a. (subst (MovesNone (only (was k e sound few)) (base_of s) s.rest.partition) (same_message (sym q ∙ a)) none, λ v o r t c f h. refl))) (λ r x. same_good k e sound few s here r x)

  well : (m : Message) → slice_get s.rest.inbox i ≡ Some m → LandsNone m → Gives (Good k e sound few s here) (does k.code k.options s (Deliver i))
  well (message.Move v o r t) q none =
      let rest = kept_fits in
      let mine : MessageFits (only (was k e sound few)) s.rest.number (message.Move v o r t) = all_at (MessageFits (only (was k e sound few)) s.rest.number) s.rest.inbox i (message.Move v o r t) rest.waiting q in
      gone_by v o (deliver_move v o r t) (message.Move v o r t) q (λ x. refl) (tells_by v o (message.Move v o r t) q refl refl) (moves (was k e sound few) (base_of s) v o r t (received i s).work (omega (arith, mine)) less)
  well (message.Drop v o) q none = gone_by v o (deliver_drop v o) (message.Drop v o) q (λ x. refl) (tells_by v o (message.Drop v o) q refl refl) (drops (was k e sound few) (base_of s) v o (received i s).work less)
  well (message.Moved v c t) q none = absurd none
  well m q none = calm m q tt

same_server : {x y : Server} → Some x ≡ Some y → x ≡ y
same_server e = cc

pub deliveries_keep_issued : DeliveriesKeepIssued
deliveries_keep_issued k number i s m before sound few here at none =
    keeps_issued k e sound few (λ z there on. well k e sound few i z there m (subst (λ (x : Server). slice_get x.rest.inbox i ≡ Some m) (same_server (sym here ∙ there)) at) none) before
  where
    e : Event
    e = record { server = number; what = Deliver i }
